-- An outside call that is answered by a trap is the last of a run.
use Rattle.std.proofs.Common.{◌≡◌, ℕ, zero, suc, ◌%◌, ◌^◌, List, [], ◌∷◌, ◌++◌, Option, reverse, refl, sym, ap, ◌∙◌, subst, append-nil}
use Rattle.fact_wasm.specs.declared.instr.Instr.{Instr, out-Instr}
use Rattle.fact_wasm.specs.declared.module.WasmModule.{WasmModule}
use Rattle.fact_machine.specs.declared.types.CoreValue.{CoreValue}
use Rattle.fact_machine.specs.declared.types.MachineState.{MachineState}
use Rattle.fact_machine.specs.declared.types.Answer.{Answer}
use Rattle.fact_machine.specs.declared.types.Answer.TheVariants.{Returns, Traps, Throws}
use Rattle.fact_machine.specs.declared.types.Event.{Event}
use Rattle.fact_machine.specs.declared.types.TraceEntry.{TraceEntry}
use Rattle.fact_machine.specs.declared.types.TraceEntry.TheVariants.{Called, Stored, GlobalSet}
use Rattle.fact_machine.specs.World.{World, calls, log_of, asked}
use Rattle.fact_machine.specs.Machine.{Around, Config, At, Did, Goes, Ends, Next, Begins, Finished, Breaks, on_res, throw, act, next_in, next, begin, start, run_of}
use Rattle.fact_machine.specs.Trace.{reached_after, reach, world_at, run_reach}
use Rattle.fact_machine.specs.LastTrap.{TrapIsLast, TrapsAreLast}
use Rattle.fact_machine.proofs.Grows.{run_log}
use Rattle.fact_machine.proofs.Plans.{Leap, To, Stops, Plan, Leaps, Sets, Writes, Asks, does, world, Planned, act_planned, start_planned}
use Rattle.fact_machine.proofs.Traces.{calls-append}
use Rattle.fact_machine.proofs.Worlds.{config_world, did_world, next_world, next_keeps, throw_world, world_at_zero}

-- no call was answered by a trap
abbrev NoTraps : List Event → Type 0
NoTraps [] = Unit {0}
NoTraps (e ∷ es) = (e.answer ≡ Traps → ⊥) × NoTraps es

no_last : (es : List Event) → NoTraps es → TrapIsLast es
no_last [] h = tt
no_last (e ∷ es) h = ((λ q. absurd (h.0 q)), no_last es h.1)

one_more : (es : List Event) (e : Event) → NoTraps es → (e.answer ≡ Traps → ⊥) → NoTraps (es ++ e ∷ [])
one_more [] e h g = (g, tt)
one_more (a ∷ es) e h g = (h.0, one_more es e h.1 g)

one_last : (es : List Event) (e : Event) → NoTraps es → TrapIsLast (es ++ e ∷ [])
one_last [] e h = ((λ q. refl), tt)
one_last (a ∷ es) e h = ((λ q. absurd (h.0 q)), one_last es e h.1)

-- what goes on had no trap, and what ends had none but the last
abbrev Fine : Did → Type 0
Fine (Goes c) = NoTraps (log_of (config_world c))
Fine (Ends e w) = TrapIsLast (log_of w)

fine_by : (d : Did) → NoTraps (log_of (did_world d)) → Fine d
fine_by (Goes c) h = h
fine_by (Ends e w) h = no_last (log_of w) h

called : (w : World) (e : Event) → calls (w.trace ++ Called e ∷ []) ≡ log_of w ++ e ∷ []
called w e = calls-append w.trace (Called e ∷ [])

returns_not : (results : List CoreValue) (state : MachineState) → Returns results state ≡ Traps → ⊥
returns_not results state q = cc

throws_not : Throws ≡ Traps → ⊥
throws_not q = cc

asked_fine : (f : ℕ) (args : List CoreValue) (w : World) (left : List Answer) (vs : List CoreValue) (ls : List (Option CoreValue)) (code : List Instr) (k : Around)
    → NoTraps (log_of w) → Fine (on_res (asked f args w left) ls k (λ results w'. Goes (At w' (reverse results ++ vs) ls code k)))
asked_fine f args w [] vs ls code k h = no_last (log_of w) h
asked_fine f args w (Returns results state ∷ more) vs ls code k h =
    let e : Event = record { func = f; args = args; before = w.state; answer = Returns results state } in
    subst NoTraps (sym (called w e)) (one_more (log_of w) e h (returns_not results state))
asked_fine f args w (Traps ∷ more) vs ls code k h =
    let e : Event = record { func = f; args = args; before = w.state; answer = Traps } in
    subst TrapIsLast (sym (called w e)) (one_last (log_of w) e h)
asked_fine f args w (Throws ∷ more) vs ls code k h =
    let e : Event = record { func = f; args = args; before = w.state; answer = Throws } in
    let v : World = record { state = w.state; answers = more; trace = w.trace ++ Called e ∷ [] } in
    fine_by (throw v ls k) (subst (λ u. NoTraps (log_of u)) (sym (throw_world v ls k)) (subst NoTraps (sym (called w e)) (one_more (log_of w) e h throws_not)))

does_fine : (p : Plan) (w : World) → NoTraps (log_of w) → Fine (does p w)
does_fine (Leaps (To vs ls code k)) w h = h
does_fine (Leaps (Stops e q)) w h = no_last (log_of w) h
does_fine (Sets i v vs ls code k) w h = subst NoTraps (sym (calls-append w.trace (GlobalSet i v ∷ []) ∙ append-nil (calls w.trace))) h
does_fine (Writes n index memory address value vs ls code k) w h = subst NoTraps (sym (calls-append w.trace (Stored index address n (value % 256 ^ n) ∷ []) ∙ append-nil (calls w.trace))) h
does_fine (Asks f args vs ls code k) w h = asked_fine f args w w.answers vs ls code k h

planned_fine : (w : World) (go : List Answer → List TraceEntry → Did) → Planned w.state go → NoTraps (log_of w) → Fine (go w.answers w.trace)
planned_fine w go p h = subst Fine (sym (p.is w.answers w.trace)) (does_fine p.plan w h)

begin_fine : (M : WasmModule) (x : Next) → NoTraps (log_of (next_world x)) → Fine (begin M x)
begin_fine M (Begins w vs ls i rest k) h = planned_fine w (λ a t. act M (out-Instr i) (world w.state a t) vs ls rest k) (act_planned M (out-Instr i) w.state vs ls rest k) h
begin_fine M (Finished w vs) h = no_last (log_of w) h
begin_fine M (Breaks w) h = no_last (log_of w) h

after_last : (M : WasmModule) (n : ℕ) (d : Did) → ((c : Config) → NoTraps (log_of (config_world c)) → TrapIsLast (log_of (world_at M n c))) → Fine d → TrapIsLast (log_of (reached_after (reach M n) d).world)
after_last M n (Goes c) ih h = ih c h
after_last M n (Ends e w) ih h = h

steps_last : (M : WasmModule) (n : ℕ) (c : Config) → NoTraps (log_of (config_world c)) → TrapIsLast (log_of (world_at M n c))
steps_last M zero c h = subst (λ w. TrapIsLast (log_of w)) (sym (world_at_zero M (Goes c))) (no_last (log_of (config_world c)) h)
steps_last M (suc n) (At w vs ls code k) h =
    after_last M n (begin M (next_in w vs ls code k)) (steps_last M n) (begin_fine M (next_in w vs ls code k) (subst (λ v. NoTraps (log_of v)) (sym (next_keeps w vs ls code k)) h))

pub traps_are_last : TrapsAreLast
traps_are_last M f args state answers n =
    subst TrapIsLast (sym (run_log M f args state answers n))
    (after_last M n (start M f args state answers) (steps_last M n) (planned_fine (world state answers []) _ (start_planned M f args state) tt))
