-- No step changes the length of a memory.
use Rattle.std.proofs.Common.{◌≡◌, ℕ, zero, suc, ◌+◌, ◌≤◌, ◌%◌, ◌^◌, List, [], ◌∷◌, ◌++◌, Option, Some, None, length, map, get_or, reverse, refl, sym, ap, ◌∙◌, subst, arith, append-nil, slice_get}
use Rattle.std.specs.Prelude.{slice_set}
use Rattle.std.proofs.Math.Seq.{map-set_same}
use Rattle.std.proofs.lemmas.Option.{get_or_from_slice_get}
use Rattle.fact_wasm.specs.declared.instr.Instr.{Instr, out-Instr}
use Rattle.fact_wasm.specs.declared.module.WasmModule.{WasmModule}
use Rattle.fact_machine.specs.declared.types.CoreValue.{CoreValue}
use Rattle.fact_machine.specs.declared.types.MachineState.{MachineState}
use Rattle.fact_machine.specs.declared.types.Answer.{Answer}
use Rattle.fact_machine.specs.declared.types.Answer.TheVariants.{Returns, Traps, Throws}
use Rattle.fact_machine.specs.declared.types.Event.{Event}
use Rattle.fact_machine.specs.declared.types.TraceEntry.{TraceEntry}
use Rattle.fact_machine.specs.declared.types.TraceEntry.TheVariants.{Called, Stored, GlobalSet}
use Rattle.fact_machine.specs.World.{World, calls, log_of, asked, with_number, bytes_of}
use Rattle.fact_machine.specs.Machine.{Around, Config, At, Did, Goes, Ends, Next, Begins, Finished, Breaks, on_res, throw, act, next_in, next, begin, start, run_of}
use Rattle.fact_machine.specs.Trace.{reached_after, reach, world_at, run_reach}
use Rattle.fact_machine.specs.Lengths.{lengths_of, lengths_behind, lengths_after, SeeLengths, LengthsStay}
use Rattle.fact_machine.proofs.Places.{store_keeps_length}
use Rattle.fact_machine.proofs.Plans.{Leap, To, Stops, Plan, Leaps, Sets, Writes, Asks, does, world, IsThere, Planned, act_planned, start_planned}
use Rattle.fact_machine.proofs.Grows.{run_log}
use Rattle.fact_machine.proofs.Traces.{calls-append}
use Rattle.fact_machine.proofs.Worlds.{config_world, did_world, next_world, next_keeps, throw_world, world_at_zero}

-- the calls so far saw the lengths, and the state has those that they left
pub record Good (lengths : List ℕ) (w : World) : Type 0 where
  pub seen : SeeLengths lengths (log_of w)
  pub now : lengths_of w.state ≡ lengths_after lengths (log_of w)

after_append : (lengths : List ℕ) (a b : List Event) → lengths_after lengths (a ++ b) ≡ lengths_after (lengths_after lengths a) b
after_append lengths [] b = refl
after_append lengths (e ∷ a) b = after_append (lengths_behind lengths e.answer) a b

see_append : (lengths : List ℕ) (a b : List Event) → SeeLengths lengths a → SeeLengths (lengths_after lengths a) b → SeeLengths lengths (a ++ b)
see_append lengths [] b h g = g
see_append lengths (e ∷ a) b h g = (h.0, see_append (lengths_behind lengths e.answer) a b h.1 g)

-- another state with the same lengths and the same calls
good_same : (lengths : List ℕ) (v w : World) → lengths_of w.state ≡ lengths_of v.state → log_of w ≡ log_of v → Good lengths v → Good lengths w
good_same lengths v w e g h = record { seen = subst (SeeLengths lengths) (sym g) h.seen; now = e ∙ h.now ∙ ap (lengths_after lengths) (sym g) }

-- one call more
good_called : (lengths : List ℕ) (w v : World) (e : Event) → e.before ≡ w.state → lengths_of v.state ≡ lengths_behind (lengths_of w.state) e.answer → v.trace ≡ w.trace ++ Called e ∷ [] → Good lengths w → Good lengths v
good_called lengths w v e before state trace h =
    let log : log_of v ≡ log_of w ++ e ∷ [] = ap calls trace ∙ calls-append w.trace (Called e ∷ []) in
    record {
      seen = subst (SeeLengths lengths) (sym log) (see_append lengths (log_of w) (e ∷ []) h.seen (ap lengths_of before ∙ h.now, tt));
      now = state ∙ ap (λ l. lengths_behind l e.answer) h.now ∙ sym (after_append lengths (log_of w) (e ∷ [])) ∙ ap (lengths_after lengths) (sym log);
    }

written_lengths : (ms : List (List ℕ)) (n index address value : ℕ) (memory : List ℕ) → slice_get ms index ≡ Some memory → address + n ≤ length memory → map length (slice_set ms index (with_number n memory address value)) ≡ map length ms
written_lengths ms n index address value memory there fits =
    let at : get_or ms index [] ≡ memory = get_or_from_slice_get ms index memory [] there in
    map-set_same length ms index (with_number n memory address value) [] (store_keeps_length memory n address value fits ∙ ap length (sym at))

asked_good : (lengths : List ℕ) (f : ℕ) (args : List CoreValue) (w : World) (left : List Answer) (vs : List CoreValue) (ls : List (Option CoreValue)) (code : List Instr) (k : Around)
    → Good lengths w → Good lengths (did_world (on_res (asked f args w left) ls k (λ results w'. Goes (At w' (reverse results ++ vs) ls code k))))
asked_good lengths f args w [] vs ls code k h = h
asked_good lengths f args w (Returns results state ∷ more) vs ls code k h = good_called lengths w _ (record { func = f; args = args; before = w.state; answer = Returns results state }) refl refl refl h
asked_good lengths f args w (Traps ∷ more) vs ls code k h = good_called lengths w _ (record { func = f; args = args; before = w.state; answer = Traps }) refl refl refl h
asked_good lengths f args w (Throws ∷ more) vs ls code k h =
    subst (Good lengths) (sym (throw_world (record { state = w.state; answers = more; trace = w.trace ++ Called (record { func = f; args = args; before = w.state; answer = Throws }) ∷ [] }) ls k))
    (good_called lengths w _ (record { func = f; args = args; before = w.state; answer = Throws }) refl refl refl h)

does_good : (lengths : List ℕ) (p : Plan) (w : World) → IsThere w.state p → Good lengths w → Good lengths (did_world (does p w))
does_good lengths (Leaps (To vs ls code k)) w there h = h
does_good lengths (Leaps (Stops e q)) w there h = h
does_good lengths (Sets i v vs ls code k) w there h = good_same lengths w _ refl (calls-append w.trace (GlobalSet i v ∷ []) ∙ append-nil (calls w.trace)) h
does_good lengths (Writes n index memory address value vs ls code k) w there h =
    good_same lengths w _ (written_lengths w.state.memories n index address value memory there.0 there.1) (calls-append w.trace (Stored index address n (value % 256 ^ n) ∷ []) ∙ append-nil (calls w.trace)) h
does_good lengths (Asks f args vs ls code k) w there h = asked_good lengths f args w w.answers vs ls code k h

planned_good : (lengths : List ℕ) (w : World) (go : List Answer → List TraceEntry → Did) → Planned w.state go → Good lengths w → Good lengths (did_world (go w.answers w.trace))
planned_good lengths w go p h = subst (λ d. Good lengths (did_world d)) (sym (p.is w.answers w.trace)) (does_good lengths p.plan w p.there h)

begin_good : (lengths : List ℕ) (M : WasmModule) (x : Next) → Good lengths (next_world x) → Good lengths (did_world (begin M x))
begin_good lengths M (Begins w vs ls i rest k) h = planned_good lengths w (λ a t. act M (out-Instr i) (world w.state a t) vs ls rest k) (act_planned M (out-Instr i) w.state vs ls rest k) h
begin_good lengths M (Finished w vs) h = h
begin_good lengths M (Breaks w) h = h

after_good : (lengths : List ℕ) (M : WasmModule) (n : ℕ) (d : Did) → ((c : Config) → Good lengths (config_world c) → Good lengths (world_at M n c)) → Good lengths (did_world d) → Good lengths (reached_after (reach M n) d).world
after_good lengths M n (Goes c) ih h = ih c h
after_good lengths M n (Ends e w) ih h = h

steps_good : (lengths : List ℕ) (M : WasmModule) (n : ℕ) (c : Config) → Good lengths (config_world c) → Good lengths (world_at M n c)
steps_good lengths M zero c h = subst (Good lengths) (sym (world_at_zero M (Goes c))) h
steps_good lengths M (suc n) (At w vs ls code k) h =
    after_good lengths M n (begin M (next_in w vs ls code k)) (steps_good lengths M n) (begin_good lengths M (next_in w vs ls code k) (subst (Good lengths) (sym (next_keeps w vs ls code k)) h))

pub lengths_stay : LengthsStay
lengths_stay M f args state answers n =
    let lengths : List ℕ = lengths_of state in
    let good : Good lengths (reached_after (reach M n) (start M f args state answers)).world =
    after_good lengths M n (start M f args state answers) (steps_good lengths M n) (planned_good lengths (world state answers []) _ (start_planned M f args state) (record { seen = tt; now = refl })) in
    subst (SeeLengths lengths) (sym (run_log M f args state answers n)) good.seen
