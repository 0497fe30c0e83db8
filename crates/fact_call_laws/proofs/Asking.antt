-- A run that lacks an answer makes the same call, whatever it is answered.
use Rattle.std.proofs.Common.{◌≡◌, ◌⊎◌, ℕ, zero, suc, List, [], ◌∷◌, ◌++◌, Option, Bool, true, false, length, reverse, refl, sym, ap, ◌∙◌, subst, inl, inr, arith, append_assoc, length-append}
use Rattle.std.proofs.lemmas.List.{length-map}
use Rattle.fact_wasm.specs.declared.instr.Instr.{Instr, out-Instr}
use Rattle.fact_wasm.specs.declared.module.WasmModule.{WasmModule}
use Rattle.fact_machine.specs.declared.types.CoreValue.{CoreValue}
use Rattle.fact_machine.specs.declared.types.MachineState.{MachineState}
use Rattle.fact_machine.specs.declared.types.Answer.{Answer}
use Rattle.fact_machine.specs.declared.types.Answer.TheVariants.{Returns, Traps, Throws}
use Rattle.fact_machine.specs.declared.types.Event.{Event}
use Rattle.fact_machine.specs.declared.types.TraceEntry.{TraceEntry}
use Rattle.fact_machine.specs.declared.types.TraceEntry.TheVariants.{Called}
use Rattle.fact_machine.specs.declared.types.End.TheVariants.{Lacks}
use Rattle.fact_machine.specs.declared.types.Outcome.{Outcome}
use Rattle.fact_machine.specs.World.{World, asked, calls}
use Rattle.fact_machine.specs.Machine.{have_types, Around, Bottom, Label, Frame, Config, At, Did, Goes, Ends, Next, Begins, Finished, Breaks, leaving, on_res, throw, next_in, next, begin, act, start, run_of}
use Rattle.fact_machine.specs.Causes.{answers_of}
use Rattle.fact_machine.specs.Trace.{Grows, Reached, reached, outcome_of, reached_at_rest, reached_after, reach, run_reach, trace_of}
use Rattle.fact_machine.proofs.Causes.{run_lacks}
use Rattle.fact_machine.proofs.Grows.{grows_from, run_log, trace_more}
use Rattle.fact_machine.proofs.Laws.{run_is}
use Rattle.fact_machine.proofs.Plans.{Leap, To, Stops, leaps, Plan, Leaps, Sets, Writes, Asks, does, world, Planned, throw_leaping, act_planned, start_planned}
use Rattle.fact_machine.proofs.Traces.{calls-append}
use Rattle.fact_machine.proofs.Worlds.{did_world, throw_world, world_at_zero}

-- ---- one step

-- the same world with more answers behind its own
abbrev with_more : List Answer → World → World
with_more more w = record { state = w.state; answers = w.answers ++ more; trace = w.trace }

abbrev config_more : List Answer → Config → Config
config_more more (At w vs ls code k) = At (with_more more w) vs ls code k

abbrev next_more : List Answer → Next → Next
next_more more (Begins w vs ls i rest k) = Begins (with_more more w) vs ls i rest k
next_more more (Finished w vs) = Finished (with_more more w) vs
next_more more (Breaks w) = Breaks (with_more more w)

abbrev pub call_answered : (func : ℕ) (args : List CoreValue) (before : MachineState) → Answer → Event
call_answered func args before a = record { func = func; args = args; before = before; answer = a }

-- Behind a trace comes this call, by whatever it is answered first.
record Calls (w : World) (go : List Answer → List TraceEntry) : Type 0 where
  pub func : ℕ
  pub args : List CoreValue
  pub each : (a : Answer) (rest : List Answer) → (more : List TraceEntry) × (go (a ∷ rest) ≡ w.trace ++ (Called (call_answered func args w.state a) ∷ more))

-- what the same row does with more answers: the same, or it lacked one
abbrev Beside : Did → (List Answer → Did) → Type 0
Beside (Goes c) go = (more : List Answer) → go more ≡ Goes (config_more more c)
Beside (Ends e w) go = ((more : List Answer) → go more ≡ Ends e (with_more more w)) ⊎ ((e ≡ Lacks) × Calls w (λ more. (did_world (go more)).trace))

leaps_beside : (l : Leap) (w : World) → Beside (leaps l w) (λ more. leaps l (with_more more w))
leaps_beside (To vs ls code k) w = λ more. refl
leaps_beside (Stops e p) w = inl (λ more. refl)

beside_by : (d d' : Did) (go go' : List Answer → Did) → d ≡ d' → ((more : List Answer) → go more ≡ go' more) → Beside d' go' → Beside d go
beside_by d d' go go' e f h = subst (λ x. Beside x go) (sym e) (subst (Beside d') (λ j more. sym (f more) j) h)

throw_beside : (w : World) (ls : List (Option CoreValue)) (k : Around) → Beside (throw w ls k) (λ more. throw (with_more more w) ls k)
throw_beside w ls k = let p = throw_leaping ls k in beside_by _ _ _ _ (p.is w) (λ more. p.is (with_more more w)) (leaps_beside p.leap w)

asked_beside : (f : ℕ) (args : List CoreValue) (w : World) (left : List Answer) (vs : List CoreValue) (ls : List (Option CoreValue)) (code : List Instr) (k : Around)
    → Beside (on_res (asked f args w left) ls k (λ results w'. Goes (At w' (reverse results ++ vs) ls code k)))
    (λ more. on_res (asked f args (with_more more w) (left ++ more)) ls k (λ results w'. Goes (At w' (reverse results ++ vs) ls code k)))
asked_beside f args w [] vs ls code k = inr (refl, record { func = f; args = args; each = by })
  where
    by : (a : Answer) (rest : List Answer)
        → (more : List TraceEntry) × ((did_world (on_res (asked f args (with_more (a ∷ rest) w) (a ∷ rest)) ls k (λ results w'. Goes (At w' (reverse results ++ vs) ls code k)))).trace ≡ w.trace ++ (Called (call_answered f args w.state a) ∷ more))
    by (Returns results state) rest = ([], refl)
    by Traps rest = ([], refl)
    by Throws rest =
        let u : World = record { state = w.state; answers = rest; trace = w.trace ++ Called (call_answered f args w.state Throws) ∷ [] } in
        ([], ap (λ (v : World). v.trace) (throw_world u ls k))
asked_beside f args w (Returns results state ∷ left) vs ls code k = λ more. refl
asked_beside f args w (Traps ∷ left) vs ls code k = inl (λ more. refl)
asked_beside f args w (Throws ∷ left) vs ls code k = throw_beside _ ls k

does_beside : (p : Plan) (w : World) → Beside (does p w) (λ more. does p (with_more more w))
does_beside (Leaps l) w = leaps_beside l w
does_beside (Sets i v vs ls code k) w = λ more. refl
does_beside (Writes n index memory address value vs ls code k) w = λ more. refl
does_beside (Asks f args vs ls code k) w = asked_beside f args w w.answers vs ls code k

planned_beside : (w : World) (go : List Answer → List TraceEntry → Did) → Planned w.state go → Beside (go w.answers w.trace) (λ more. go (w.answers ++ more) w.trace)
planned_beside w go p = beside_by _ _ _ _ (p.is w.answers w.trace) (λ more. p.is (w.answers ++ more) w.trace) (does_beside p.plan w)

begin_beside : (M : WasmModule) (x : Next) → Beside (begin M x) (λ more. begin M (next_more more x))
begin_beside M (Begins w vs ls i rest k) = planned_beside w (λ b t. act M (out-Instr i) (world w.state b t) vs ls rest k) (act_planned M (out-Instr i) w.state vs ls rest k)
begin_beside M (Finished w vs) = inl (λ more. refl)
begin_beside M (Breaks w) = inl (λ more. refl)

-- ---- any number of steps

leaving_beside : (b : Bool) (w : World) (more : List Answer) (x y : Next) → x ≡ next_more more y → leaving b (with_more more w) x ≡ next_more more (leaving b w y)
leaving_beside true w more x y h = h
leaving_beside false w more x y h = refl

next_beside : (w : World) (vs : List CoreValue) (ls : List (Option CoreValue)) (code : List Instr) (k : Around) (more : List Answer) → next_in (with_more more w) vs ls code k ≡ next_more more (next_in w vs ls code k)
next_beside w vs ls (i ∷ rest) k more = refl
next_beside w vs ls [] Bottom more = refl
next_beside w vs ls [] (Label n below to rest cs k) more = next_beside w (vs ++ below) ls rest k more
next_beside w vs ls [] (Frame ts f below rest k) more = leaving_beside (have_types (reverse vs) ts) w more _ _ (next_beside w (vs ++ below) f rest k more)

config_beside : (c : Config) (more : List Answer) → next (config_more more c) ≡ next_more more (next c)
config_beside (At w vs ls code k) more = next_beside w vs ls code k more

-- how a run stands with more answers: as it stood, or it lacked one
abbrev ReachedBeside : Reached → (List Answer → Reached) → Type 0
ReachedBeside r go = ((more : List Answer) → go more ≡ reached r.end (with_more more r.world)) ⊎ ((r.end ≡ Lacks) × Calls r.world (λ more. (go more).world.trace))

rest_beside : (x : Next) (more : List Answer) → reached_at_rest (next_more more x) ≡ reached (reached_at_rest x).end (with_more more (reached_at_rest x).world)
rest_beside (Begins w vs ls i rest k) more = refl
rest_beside (Finished w vs) more = refl
rest_beside (Breaks w) more = refl

trace_from : (M : WasmModule) (n : ℕ) (d : Did) → Grows (did_world d).trace (reached_after (reach M n) d).world.trace
trace_from M n d = grows_from (ap (λ (w : World). w.trace) (sym (world_at_zero M d))) (trace_more M 0 n d (omega arith))

calls_on : (M : WasmModule) (n : ℕ) (w : World) (go : List Answer → Did) → Calls w (λ more. (did_world (go more)).trace) → Calls w (λ more. (reached_after (reach M n) (go more)).world.trace)
calls_on M n w go h = record {
  func = h.func;
  args = h.args;
  each = λ a rest.
      let one = h.each a rest in
      let g = trace_from M n (go (a ∷ rest)) in
      (one.0 ++ g.more, g.is ∙ ap (λ l. l ++ g.more) one.1 ∙ append_assoc w.trace (Called (call_answered h.func h.args w.state a) ∷ one.0) g.more);
}

after_beside : (M : WasmModule) (n : ℕ) (d : Did) (go : List Answer → Did) → ((c : Config) → ReachedBeside (reach M n c) (λ more. reach M n (config_more more c))) → Beside d go
    → ReachedBeside (reached_after (reach M n) d) (λ more. reached_after (reach M n) (go more))
after_beside M n (Goes c) go ih b = subst (λ (g : List Answer → Did). ReachedBeside (reach M n c) (λ more. reached_after (reach M n) (g more))) (λ j more. sym (b more) j) (ih c)
after_beside M n (Ends e w) go ih b = elim b [ inl same ↦ inl (λ more. ap (reached_after (reach M n)) (same more)) | inr took ↦ inr (took.0, calls_on M n w go took.1) ]

reach_beside : (M : WasmModule) (n : ℕ) (c : Config) → ReachedBeside (reach M n c) (λ more. reach M n (config_more more c))
reach_beside M zero c = inl (λ more. ap reached_at_rest (config_beside c more) ∙ rest_beside (next c) more)
reach_beside M (suc n) c =
    let b : Beside (begin M (next c)) (λ more. begin M (next (config_more more c))) = beside_by _ _ _ _ refl (λ more. ap (begin M) (config_beside c more)) (begin_beside M (next c)) in
    after_beside M n (begin M (next c)) (λ more. begin M (next (config_more more c))) (reach_beside M n) b

-- ---- runs

module _ (M : WasmModule) (f : ℕ) (args : List CoreValue) (s : MachineState) where
  run_beside : (answers : List Answer) (n : ℕ) → ReachedBeside (run_reach M f args s answers n) (λ more. run_reach M f args s (answers ++ more) n)
  run_beside answers n =
      let b : Beside (start M f args s answers) (λ more. start M f args s (answers ++ more)) = planned_beside (world s answers []) _ (start_planned M f args s) in
      after_beside M n (start M f args s answers) (λ more. start M f args s (answers ++ more)) (reach_beside M n) b

  abbrev log : List Answer → ℕ → List Event
  log answers n = (run_of M f args s answers n).log

  -- The call that lacks an answer.
  pub record LacksCall (answers : List Answer) (n : ℕ) : Type 0 where
    pub func : ℕ
    pub given : List CoreValue
    pub each : (a : Answer) (rest : List Answer) → (more : List Event) × (log (answers ++ (a ∷ rest)) n ≡ log answers n ++ (call_answered func given (run_reach M f args s answers n).world.state a ∷ more))

  pub lacks_call : (answers : List Answer) (n : ℕ) → (run_of M f args s answers n).end ≡ Lacks → LacksCall answers n
  lacks_call answers n lacks = elim (run_beside answers n) [ inl same ↦ absurd (too_many same) | inr took ↦ called took.1 ]
    where
      many : (l : List Event) → length (answers_of l) ≡ length l
      many l = length-map l (λ (e : Event). e.answer)

      too_many : ((more : List Answer) → run_reach M f args s (answers ++ more) n ≡ reached (run_reach M f args s answers n).end (with_more more (run_reach M f args s answers n).world)) → ⊥
      too_many same =
          let whole : run_of M f args s (answers ++ Traps ∷ []) n ≡ outcome_of (reached (run_reach M f args s answers n).end (with_more (Traps ∷ []) (run_reach M f args s answers n).world)) = run_is M f args s (answers ++ Traps ∷ []) n ∙ ap outcome_of (same (Traps ∷ [])) in
          let as_before : run_of M f args s (answers ++ Traps ∷ []) n ≡ run_of M f args s answers n = whole ∙ sym (run_is M f args s answers n) in
          let taken = ap length (run_lacks M f args s answers n lacks) in
          let taken_more = ap length (run_lacks M f args s (answers ++ Traps ∷ []) n (ap (λ (o : Outcome). o.end) as_before ∙ lacks)) in
          omega (arith, taken, taken_more, many (log answers n), many (log (answers ++ Traps ∷ []) n), ap (λ (o : Outcome). length o.log) as_before, length-append answers (Traps ∷ []))

      called : Calls (run_reach M f args s answers n).world (λ more. (run_reach M f args s (answers ++ more) n).world.trace) → LacksCall answers n
      called h = record {
        func = h.func;
        given = h.args;
        each = λ a rest.
            let one = h.each a rest in (
              calls one.0,
              run_log M f args s (answers ++ (a ∷ rest)) n ∙ ap calls one.1 ∙ calls-append (trace_of M f args s answers n) (Called (call_answered h.func h.args (run_reach M f args s answers n).world.state a) ∷ one.0)
                  ∙ ap (λ l. l ++ (call_answered h.func h.args (run_reach M f args s answers n).world.state a ∷ calls one.0)) (sym (run_log M f args s answers n)),
            );
      }
