-- What the ends Going and Lacks come from.
use Rattle.std.proofs.Common.{◌≡◌, ℕ, zero, suc, ◌%◌, ◌^◌, ◌≤◌, List, [], ◌∷◌, ◌++◌, Option, length, reverse, refl, sym, ap, ◌∙◌, subst, arith, append_assoc, append-nil}
use Rattle.std.proofs.lemmas.List.{map-append}
use Rattle.fact_wasm.specs.declared.instr.Instr.{Instr, out-Instr}
use Rattle.fact_wasm.specs.declared.module.WasmModule.{WasmModule}
use Rattle.fact_machine.specs.declared.types.CoreValue.{CoreValue}
use Rattle.fact_machine.specs.declared.types.MachineState.{MachineState}
use Rattle.fact_machine.specs.declared.types.Answer.{Answer}
use Rattle.fact_machine.specs.declared.types.Answer.TheVariants.{Returns, Traps, Throws}
use Rattle.fact_machine.specs.declared.types.Event.{Event}
use Rattle.fact_machine.specs.declared.types.TraceEntry.{TraceEntry}
use Rattle.fact_machine.specs.declared.types.TraceEntry.TheVariants.{Called, Stored, GlobalSet}
use Rattle.fact_machine.specs.declared.types.End.{End}
use Rattle.fact_machine.specs.declared.types.End.TheVariants.{Returned, Trapped, Thrown, Lacks, Going, Stuck}
use Rattle.fact_machine.specs.declared.types.Outcome.{Outcome}
use Rattle.fact_machine.specs.World.{World, calls, log_of, asked, answered}
use Rattle.fact_machine.specs.Machine.{Around, Config, At, Did, Goes, Ends, Next, Begins, Finished, Breaks, on_res, throw, act, next, begin, at_rest, after, exec, start, run_of}
use Rattle.fact_machine.specs.Causes.{answers_of, taken_after, taken_from, taken, steps_of}
use Rattle.fact_machine.proofs.Traces.{calls-append}
use Rattle.fact_machine.proofs.Worlds.{config_world, next_world, next_keeps}
use Rattle.fact_machine.proofs.Plans.{IsPlain, Leap, To, Stops, leaps, Plan, Leaps, Sets, Writes, Asks, does, world, Planned, throw_leaping, act_planned, start_planned}

-- ---- the answers in the log and those that are left are always the answers given

-- the world still has these answers, at most so many of them left
record Keeps (all : List Answer) (n : ℕ) (w : World) : Type 0 where
  pub told : answers_of (log_of w) ++ w.answers ≡ all
  pub fewer : length w.answers ≤ n

-- where an end may come
abbrev pub EndFits : End → World → Type 0
EndFits Going w = ⊥
EndFits Lacks w = w.answers ≡ []
EndFits _ w = Unit {0}

abbrev Kept : List Answer → ℕ → Did → Type 0
Kept all n (Goes (At w vs ls code k)) = Keeps all n w
Kept all n (Ends e w) = Keeps all n w × EndFits e w

plain_fits : (e : End) (w : World) → IsPlain e → EndFits e w
plain_fits (Returned vs) w h = tt
plain_fits Trapped w h = tt
plain_fits Thrown w h = tt
plain_fits Lacks w h = absurd h
plain_fits Going w h = absurd h
plain_fits Stuck w h = tt

leaps_kept : (l : Leap) (w : World) (all : List Answer) (n : ℕ) → Keeps all n w → Kept all n (leaps l w)
leaps_kept (To vs ls code k) w all n h = h
leaps_kept (Stops e p) w all n h = (h, plain_fits e w p)

told_called : (t : List TraceEntry) (e : Event) (left : List Answer) → answers_of (calls (t ++ Called e ∷ [])) ++ left ≡ answers_of (calls t) ++ (e.answer ∷ left)
told_called t e left =
    ap (λ l. answers_of l ++ left) (calls-append t (Called e ∷ [])) ∙ ap (λ l. l ++ left) (map-append (λ x. x.answer) (calls t) (e ∷ [])) ∙ append_assoc (answers_of (calls t)) (e.answer ∷ []) left

throw_kept : (w : World) (ls : List (Option CoreValue)) (k : Around) (all : List Answer) (n : ℕ) → Keeps all n w → Kept all n (throw w ls k)
throw_kept w ls k all n h = let p = throw_leaping ls k in subst (Kept all n) (sym (p.is w)) (leaps_kept p.leap w all n h)

-- an answer, with what is left after it
answered_kept : (f : ℕ) (args : List CoreValue) (w : World) (a : Answer) (more all : List Answer) (n : ℕ) (vs : List CoreValue) (ls : List (Option CoreValue)) (code : List Instr) (k : Around)
    → answers_of (log_of w) ++ (a ∷ more) ≡ all → length more ≤ n
    → Kept all n (on_res (answered (record { func = f; args = args; before = w.state; answer = a }) w more a) ls k (λ results w'. Goes (At w' (reverse results ++ vs) ls code k)))
answered_kept f args w (Returns results state) more all n vs ls code k h g = record { told = told_called w.trace _ more ∙ h; fewer = g }
answered_kept f args w Traps more all n vs ls code k h g = (record { told = told_called w.trace _ more ∙ h; fewer = g }, tt)
answered_kept f args w Throws more all n vs ls code k h g = throw_kept _ ls k all n (record { told = told_called w.trace _ more ∙ h; fewer = g })

asked_kept : (f : ℕ) (args : List CoreValue) (w : World) (left all : List Answer) (n : ℕ) (vs : List CoreValue) (ls : List (Option CoreValue)) (code : List Instr) (k : Around)
    → w.answers ≡ left → Keeps all n w → Kept all n (on_res (asked f args w left) ls k (λ results w'. Goes (At w' (reverse results ++ vs) ls code k)))
asked_kept f args w [] all n vs ls code k e h = (h, e)
asked_kept f args w (a ∷ more) all n vs ls code k e h =
    answered_kept f args w a more all n vs ls code k (ap (λ l. answers_of (log_of w) ++ l) (sym e) ∙ h.told) (omega (arith, h.fewer, ap length e))

does_kept : (p : Plan) (w : World) (all : List Answer) (n : ℕ) → Keeps all n w → Kept all n (does p w)
does_kept (Leaps l) w all n h = leaps_kept l w all n h
does_kept (Sets i v vs ls code k) w all n h =
    record { told = ap (λ l. answers_of l ++ w.answers) (calls-append w.trace (GlobalSet i v ∷ []) ∙ append-nil (calls w.trace)) ∙ h.told; fewer = h.fewer }
does_kept (Writes i index memory address value vs ls code k) w all n h =
    record { told = ap (λ l. answers_of l ++ w.answers) (calls-append w.trace (Stored index address i (value % 256 ^ i) ∷ []) ∙ append-nil (calls w.trace)) ∙ h.told; fewer = h.fewer }
does_kept (Asks f args vs ls code k) w all n h = asked_kept f args w w.answers all n vs ls code k refl h

planned_kept : (w : World) (go : List Answer → List TraceEntry → Did) (all : List Answer) (n : ℕ) → Planned w.state go → Keeps all n w → Kept all n (go w.answers w.trace)
planned_kept w go all n p h = subst (Kept all n) (sym (p.is w.answers w.trace)) (does_kept p.plan w all n h)

begin_kept : (M : WasmModule) (x : Next) (all : List Answer) (n : ℕ) → Keeps all n (next_world x) → Kept all n (begin M x)
begin_kept M (Begins w vs ls i rest k) all n h = planned_kept w (λ a t. act M (out-Instr i) (world w.state a t) vs ls rest k) all n (act_planned M (out-Instr i) w.state vs ls rest k) h
begin_kept M (Finished w vs) all n h = (h, tt)
begin_kept M (Breaks w) all n h = (h, tt)

-- ---- whole runs

-- the answers in a log, with some that are left
pub record Told (all : List Answer) (n : ℕ) (o : Outcome) : Type 0 where
  pub left : List Answer
  pub is : answers_of o.log ++ left ≡ all
  pub fewer : length left ≤ n
  pub lacks : o.end ≡ Lacks → left ≡ []

rest_told : (x : Next) (all : List Answer) (n : ℕ) → Keeps all n (next_world x) → Told all n (at_rest x)
rest_told (Begins w vs ls i rest k) all n h = record { left = w.answers; is = h.told; fewer = h.fewer; lacks = λ e. cc }
rest_told (Finished w vs) all n h = record { left = w.answers; is = h.told; fewer = h.fewer; lacks = λ e. cc }
rest_told (Breaks w) all n h = record { left = w.answers; is = h.told; fewer = h.fewer; lacks = λ e. cc }

after_told : (M : WasmModule) (n : ℕ) (d : Did) (all : List Answer) (m : ℕ) → ((c : Config) → Keeps all m (config_world c) → Told all m (exec M n c)) → Kept all m d → Told all m (after (exec M n) d)
after_told M n (Goes (At w vs ls code k)) all m ih h = ih (At w vs ls code k) h
after_told M n (Ends e w) all m ih h = record { left = w.answers; is = h.0.told; fewer = h.0.fewer; lacks = λ q. subst (λ x. EndFits x w) q h.1 }

step_keeps : (c : Config) (all : List Answer) (m : ℕ) → Keeps all m (config_world c) → Keeps all m (next_world (next c))
step_keeps (At w vs ls code k) all m h = subst (Keeps all m) (sym (next_keeps w vs ls code k)) h

exec_told : (M : WasmModule) (n : ℕ) (all : List Answer) (m : ℕ) (c : Config) → Keeps all m (config_world c) → Told all m (exec M n c)
exec_told M zero all m c h = rest_told (next c) all m (step_keeps c all m h)
exec_told M (suc n) all m c h = after_told M n (begin M (next c)) all m (exec_told M n all m) (begin_kept M (next c) all m (step_keeps c all m h))

fresh : (s : MachineState) (answers : List Answer) → Keeps answers (length answers) (world s answers [])
fresh s answers = record { told = refl; fewer = omega arith }

start_kept : (M : WasmModule) (f : ℕ) (args : List CoreValue) (s : MachineState) (answers : List Answer) → Kept answers (length answers) (start M f args s answers)
start_kept M f args s answers = planned_kept (world s answers []) _ answers (length answers) (start_planned M f args s) (fresh s answers)

-- the answers in a run's log are the first that it was given
pub run_tells : (M : WasmModule) (f : ℕ) (args : List CoreValue) (s : MachineState) (answers : List Answer) (n : ℕ) → Told answers (length answers) (run_of M f args s answers n)
run_tells M f args s answers n = after_told M n (start M f args s answers) answers (length answers) (exec_told M n answers (length answers)) (start_kept M f args s answers)

-- a run that lacks an answer took all
pub run_lacks : (M : WasmModule) (f : ℕ) (args : List CoreValue) (s : MachineState) (answers : List Answer) (n : ℕ)
    → (run_of M f args s answers n).end ≡ Lacks → answers_of (run_of M f args s answers n).log ≡ answers
run_lacks M f args s answers n h =
    let t = run_tells M f args s answers n in
    sym (append-nil _) ∙ ap (λ l. answers_of (run_of M f args s answers n).log ++ l) (sym (t.lacks h)) ∙ t.is

-- ---- a run that is going took all its steps

after_going : (M : WasmModule) (n m : ℕ) (d : Did) (all : List Answer) → Kept all m d → ((c : Config) → (exec M n c).end ≡ Going → taken M n c ≡ n) → (after (exec M n) d).end ≡ Going → taken_after (taken M n) d ≡ n
after_going M n m (Goes c) all h ih q = ih c q
after_going M n m (Ends e w) all h ih q = absurd (subst (λ x. EndFits x w) q h.1)

kept_here : (M : WasmModule) (x : Next) → Kept (answers_of (log_of (next_world x)) ++ (next_world x).answers) (length (next_world x).answers) (begin M x)
kept_here M x = begin_kept M x _ _ (record { told = refl; fewer = omega arith })

from_going : (M : WasmModule) (n : ℕ) (x : Next) → ((c : Config) → (exec M n c).end ≡ Going → taken M n c ≡ n) → (after (exec M n) (begin M x)).end ≡ Going → taken_from M (taken M n) x ≡ suc n
from_going M n (Begins w vs ls i rest k) ih q = ap suc (after_going M n _ (begin M (Begins w vs ls i rest k)) _ (kept_here M (Begins w vs ls i rest k)) ih q)
from_going M n (Finished w vs) ih q = cc
from_going M n (Breaks w) ih q = cc

exec_going : (M : WasmModule) (n : ℕ) (c : Config) → (exec M n c).end ≡ Going → taken M n c ≡ n
exec_going M zero c q = refl
exec_going M (suc n) c q = from_going M n (next c) (exec_going M n) q

pub run_going : (M : WasmModule) (f : ℕ) (args : List CoreValue) (s : MachineState) (answers : List Answer) (n : ℕ)
    → (run_of M f args s answers n).end ≡ Going → steps_of M f args s answers n ≡ n
run_going M f args s answers n q = after_going M n _ (start M f args s answers) _ (start_kept M f args s answers) (exec_going M n) q
