-- How many calls a sync adapter makes, and what adapters come to that only call.
use Rattle.std.proofs.Common.{◌≡◌, ℕ, ◌+◌, ◌*◌, ◌≤◌, Bool, true, false, List, [], ◌∷◌, ◌++◌, refl, ap, ◌∙◌, append-nil, arith, length}
use Rattle.std.specs.List.{filter}
use Rattle.std.proofs.lemmas.List.{length-append}
use Rattle.std.proofs.lemmas.List.Elements.{filter-append}
use Rattle.fact_types.specs.declared.outside.Trap.TheVariants.{CannotEnterComponent, UncaughtException}
use Rattle.fact_machine.specs.declared.types.CoreValue.{CoreValue}
use Rattle.fact_machine.specs.declared.types.MachineState.{MachineState}
use Rattle.fact_machine.specs.declared.types.Answer.{Answer}
use Rattle.fact_machine.specs.declared.types.Answer.TheVariants.{Returns, Traps, Throws}
use Rattle.fact_machine.specs.declared.types.End.TheVariants.{Returned, Trapped}
use Rattle.fact_machine.specs.World.{World, Trap, Throw, Lack}
use Rattle.fact_types.specs.declared.import.Import.TheVariants as import
use Rattle.fact_machine.specs.declared.types.Event.{Event}
use Rattle.fact_machine.specs.declared.types.TraceEntry.{TraceEntry}
use Rattle.fact_machine.specs.declared.types.TraceEntry.TheVariants.{Called}
use Rattle.fact_wasm.specs.declared.types.ValType.{ValType}
use Rattle.fact_types.specs.declared.import.Import.{Import}
use Rattle.fact_types.specs.Adapters.{LinkedAdapter}
use Rattle.fact_actions.specs.Sides.{options_of}
use Rattle.fact_actions.specs.Actions.{Action, Give, Ask, Unreachable, trap}
use Rattle.fact_actions.specs.Running.{ImportPlaces, Call, call_of, Ended, Gave, Halted, Strayed, moved_weight, calls_in, heavier, later, if_typed, is_answer, run, world_in}
use Rattle.fact_actions.specs.Adapters.{async_start, async_return, AdapterTunables, References, def_of_memory, prepare_args, start_args, same_instance, async_call, make_call, lower_signature_of}
use Rattle.fact_machine.specs.Exits.{first_world}
use Rattle.fact_actions.specs.Plain.{NamedOutcome, named_outcome, action_outcome, guarded_if, ended_sync}
use Rattle.fact_actions.specs.Honest.{IsStraight}
use Rattle.fact_actions.specs.AdapterLaws.{AsyncCallsWriteNothing, IsFew, begins, is_write}
use Rattle.fact_actions.proofs.Few.{Few, traps_few, sync_few, start_few, return_few}

-- ---- calls

caught_few : (n : ℕ) (cs : List Call) (e : Ended (List CoreValue)) → length cs ≤ 30 * n + 20 → Few 0 e → length (calls_in (heavier n (later cs e))) ≤ 30 * (moved_weight (heavier n (later cs e)) + 1)
caught_few n cs (Gave m ds a w) l h = let g = h.few in omega (arith, length-append cs ds)
caught_few n cs (Halted m ds s w) l h = let g = h.few in omega (arith, length-append cs ds)
caught_few n cs (Strayed m ds w) l h = let g = h.few in omega (arith, length-append cs ds)

guarded_few : (p : ImportPlaces) (b : Bool) (e : Ended (List CoreValue)) → Few 19 e → length (calls_in (guarded_if b p e)) ≤ 30 * (moved_weight (guarded_if b p e) + 1)
guarded_few p false (Gave n cs a w) h = let g = h.few in omega arith
guarded_few p false (Halted n cs s w) h = let g = h.few in omega arith
guarded_few p false (Strayed n cs w) h = let g = h.few in omega arith
guarded_few p true (Gave n cs a w) h = let g = h.few in omega arith
guarded_few p true (Halted n cs Trap w) h = let g = h.few in omega arith
guarded_few p true (Halted n cs Lack w) h = let g = h.few in omega arith
guarded_few p true (Halted n cs Throw w) h = caught_few n cs (run p (trap UncaughtException) w) (let g = h.few in omega arith) ((traps_few (List CoreValue) UncaughtException).at p w)
guarded_few p true (Strayed n cs w) h = let g = h.few in omega arith

pub few_calls : (p : ImportPlaces) (u : AdapterTunables) (a : LinkedAdapter) (args : List CoreValue) (w : World) → length (calls_in (ended_sync p u a args w)) ≤ 30 * (moved_weight (ended_sync p u a args w) + 1)
few_calls p u a args w = guarded_few p u.exceptions _ ((sync_few u a args).at p w)

few_of : (n : ℕ) (e : Ended (List CoreValue)) → n ≤ 29 → Few n e → IsFew e
few_of n (Gave m cs a w) l h = let g = h.few in omega arith
few_of n (Halted m cs s w) l h = let g = h.few in omega arith
few_of n (Strayed m cs w) l h = let g = h.few in omega arith

pub few_start_calls : (p : ImportPlaces) (u : AdapterTunables) (a : LinkedAdapter) (args : List CoreValue) (w : World) → IsFew (run p (async_start u a args) w)
few_start_calls p u a args w = few_of 7 _ (omega arith) ((start_few u a args).at p w)

pub few_return_calls : (p : ImportPlaces) (u : AdapterTunables) (a : LinkedAdapter) (args : List CoreValue) (w : World) → IsFew (run p (async_return u a args) w)
few_return_calls p u a args w = few_of 0 _ (omega arith) ((return_few u a args).at p w)

-- ---- adapters that only call

outcome_later : (c : Call) (e : Ended (List CoreValue)) → named_outcome (later (c ∷ []) e) ≡ record (named_outcome e) { log = c ∷ (named_outcome e).log }
outcome_later c (Gave n cs a w) = refl
outcome_later c (Halted n cs s w) = refl
outcome_later c (Strayed n cs w) = refl

typed_later : {A : Type 0} (cs : List Call) (e : Ended A) → IsStraight (later cs e) → IsStraight e
typed_later cs (Gave n ds a w) t = t
typed_later cs (Halted n ds s w) t = t
typed_later cs (Strayed n ds w) t = elim t [ ]

abbrev behind_call : Call → NamedOutcome → NamedOutcome
behind_call c o = record o { log = c ∷ o.log }

module _ (p : ImportPlaces) (i : Import) (args : List CoreValue) (ts : List ValType) (k : List CoreValue → Action (List CoreValue)) (g : List CoreValue → MachineState → List Answer → NamedOutcome) where
  -- where the answer is typed
  begins_typed : (b : Bool) (c : Call) (rs : List CoreValue) (w : World)
      → (IsStraight (run p (k rs) w) → named_outcome (run p (k rs) w) ≡ g rs w.state w.answers)
      → IsStraight (later (c ∷ []) (if_typed b w (run p (k rs) w)))
      → named_outcome (later (c ∷ []) (if_typed b w (run p (k rs) w))) ≡ record (g rs w.state w.answers) { log = c ∷ (g rs w.state w.answers).log }
  begins_typed true c rs w h t = outcome_later c (run p (k rs) w) ∙ ap (behind_call c) (h (typed_later (c ∷ []) (run p (k rs) w) t))
  begins_typed false c rs w h t = absurd t

  -- a call, and what goes on from its answer
  begins_call : ((rs : List CoreValue) (w : World) → IsStraight (run p (k rs) w) → named_outcome (run p (k rs) w) ≡ g rs w.state w.answers)
      → (state : MachineState) (answers : List Answer) (trace : List TraceEntry)
      → IsStraight (run p (Ask i args ts k) (record { state = state; answers = answers; trace = trace }))
      → named_outcome (run p (Ask i args ts k) (record { state = state; answers = answers; trace = trace })) ≡ begins i args state answers g
  begins_call h state [] trace t = refl
  begins_call h state (Traps ∷ more) trace t = refl
  begins_call h state (Throws ∷ more) trace t = refl
  begins_call h state (Returns rs after ∷ more) trace t = begins_typed (is_answer p ts state rs after) _ rs _ (h rs _) t

pub same_instance_traps : (p : ImportPlaces) (state : MachineState) (answers : List Answer) → IsStraight (run p same_instance (first_world state answers))
    → action_outcome p same_instance state answers ≡ begins (import.Trap CannotEnterComponent) [] state answers (λ rs after more. record { end = Trapped; state = after; log = [] })
same_instance_traps p state answers t = begins_call p (import.Trap CannotEnterComponent) [] [] (λ rs. Unreachable) _ (λ rs w h. refl) state answers [] t

pub async_calls_twice : (p : ImportPlaces) (a : LinkedAdapter) (r : References) (args : List CoreValue) (state : MachineState) (answers : List Answer) → IsStraight (run p (async_call a r args) (first_world state answers))
    → action_outcome p (async_call a r args) state answers
    ≡ begins (import.PrepareCall (def_of_memory (options_of a.lift))) (prepare_args a r args) state answers (λ rs after more.
    begins (import.StartCall a.lift.callback a.lift.post_return) (start_args a r) after more (λ results last left. record { end = Returned results; state = last; log = [] }))
async_calls_twice p a r args state answers t =
    begins_call p (import.PrepareCall (def_of_memory (options_of a.lift))) (prepare_args a r args) [] (λ rs. make_call (import.StartCall a.lift.callback a.lift.post_return) (start_args a r) (lower_signature_of a).results) _ (λ rs w h.
    begins_call p (import.StartCall a.lift.callback a.lift.post_return) (start_args a r) (lower_signature_of a).results (λ rs'. Give rs') _ (λ results w' h'. refl) w.state w.answers w.trace h) state answers [] t

-- ---- what is written behind calls

-- a call stands in the trace, and writes nothing
called_writes : (trace : List TraceEntry) (e : Event) → filter is_write (trace ++ Called e ∷ []) ≡ filter is_write trace
called_writes trace e = filter-append is_write trace (Called e ∷ []) ∙ append-nil (filter is_write trace)

world_later : {A : Type 0} (cs : List Call) (e : Ended A) → world_in (later cs e) ≡ world_in e
world_later cs (Gave n ds a w) = refl
world_later cs (Halted n ds s w) = refl
world_later cs (Strayed n ds w) = refl

module _ (p : ImportPlaces) (i : Import) (args : List CoreValue) (ts : List ValType) (k : List CoreValue → Action (List CoreValue))
    (still : (rs : List CoreValue) (w : World) → filter is_write (world_in (run p (k rs) w)).trace ≡ filter is_write w.trace) where
  typed_still : (b : Bool) (rs : List CoreValue) (w : World) → filter is_write (world_in (if_typed b w (run p (k rs) w))).trace ≡ filter is_write w.trace
  typed_still true rs w = still rs w
  typed_still false rs w = refl

  -- a call, behind which nothing is written
  call_still : (state : MachineState) (answers : List Answer) (trace : List TraceEntry)
      → filter is_write (world_in (run p (Ask i args ts k) (record { state = state; answers = answers; trace = trace }))).trace ≡ filter is_write trace
  call_still state [] trace = refl
  call_still state (Traps ∷ more) trace = called_writes trace _
  call_still state (Throws ∷ more) trace = called_writes trace _
  call_still state (Returns rs after ∷ more) trace =
      let b = is_answer p ts state rs after in
      ap (λ (w : World). filter is_write w.trace) (world_later (call_of i args state (Returns rs after ∷ more)) (if_typed b _ (run p (k rs) _))) ∙ typed_still b rs _ ∙ called_writes trace _

pub async_calls_write_nothing : AsyncCallsWriteNothing
async_calls_write_nothing p a r args state answers =
    call_still p (import.PrepareCall (def_of_memory (options_of a.lift))) (prepare_args a r args) [] (λ rs. make_call (import.StartCall a.lift.callback a.lift.post_return) (start_args a r) (lower_signature_of a).results)
    (λ rs w. call_still p (import.StartCall a.lift.callback a.lift.post_return) (start_args a r) (lower_signature_of a).results (λ rs'. Give rs') (λ rs' w'. refl) w.state w.answers w.trace)
    state answers []
