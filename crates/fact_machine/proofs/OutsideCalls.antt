-- Calls of imported functions, by what the outside answers.
use Rattle.std.proofs.Common.{◌≡◌, ℕ, List, [], ◌∷◌, ◌++◌, Option, Some, refl, ap, ◌∙◌, length, reverse}
use Rattle.std.proofs.lemmas.List.{reverse-reverse}
use Rattle.fact_wasm.specs.declared.instr.FuncName.TheVariants.{Import}
use Rattle.fact_wasm.specs.declared.instr.Instr.{Instr}
use Rattle.fact_wasm.specs.declared.instr.Instr.TheVariants as I
use Rattle.fact_wasm.specs.declared.module.WasmModule.{WasmModule}
use Rattle.fact_machine.specs.declared.types.CoreValue.{CoreValue}
use Rattle.fact_machine.specs.declared.types.MachineState.{MachineState}
use Rattle.fact_machine.specs.declared.types.Answer.{Answer}
use Rattle.fact_machine.specs.declared.types.Answer.TheVariants as answer
use Rattle.fact_machine.specs.declared.types.TraceEntry.TheVariants.{Called}
use Rattle.fact_machine.specs.declared.types.End.TheVariants.{Trapped, Lacks}
use Rattle.fact_machine.specs.World.{World, Res, Done, Halt, Trap, Throw, Lack, asked, outside}
use Rattle.fact_machine.specs.Machine.{Around, act, on_res, grab}
use Rattle.fact_machine.specs.Exits.{Exit, Falls, Throws, Halts, leads, Leaves, CallsImport, res_exit}
use Rattle.fact_machine.proofs.Laws.{leaves_one, leaves_as}
use Rattle.fact_machine.proofs.Structure.{grab_args}

-- so a primitive leads where that exit does
pub res_leads : {A : Type 0} (r : Res A) (ls : List (Option CoreValue)) (go : A → World → Exit) (rest : List Instr) (k : Around)
    → on_res r ls k (λ a w. leads (go a w) rest k) ≡ leads (res_exit r ls go) rest k
res_leads (Done a w) ls go rest k = refl
res_leads (Halt Trap w) ls go rest k = refl
res_leads (Halt Throw w) ls go rest k = refl
res_leads (Halt Lack w) ls go rest k = refl

-- the world after an answer: the state that it leaves, the answers behind it, and the call in the trace
abbrev pub after_answer : ℕ → List CoreValue → Answer → MachineState → List Answer → World → World
after_answer f args a state more w = record { state = state; answers = more; trace = w.trace ++ Called (record { func = f; args = args; before = w.state; answer = a }) ∷ [] }

asked_exit : (f : ℕ) (args : List CoreValue) (w : World) (vs : List CoreValue) (ls : List (Option CoreValue)) (answers : List Answer) → w.answers ≡ answers
    → res_exit (outside f args w) ls (λ rs w'. Falls w' (reverse rs ++ vs) ls) ≡ res_exit (asked f args w answers) ls (λ rs w'. Falls w' (reverse rs ++ vs) ls)
asked_exit f args w vs ls answers e = ap (λ given. res_exit (asked f args w given) ls (λ rs w'. Falls w' (reverse rs ++ vs) ls)) e

module _ {M : WasmModule} {f : ℕ} {args : List CoreValue} {w : World} {ls : List (Option CoreValue)} (vs : List CoreValue) where
  -- a call of an imported function, by what the outside comes to
  pub leaves_import : CallsImport M f args → Leaves M 1 (I.Call (Import f) ∷ []) w (reverse args ++ vs) ls (res_exit (outside f args w) ls (λ rs w'. Falls w' (reverse rs ++ vs) ls))
  leaves_import h =
      let cut : grab (length h.ty.params) (reverse args ++ vs) ≡ Some (reverse args, vs) = grab_args args vs h.ty.params h.typed in
      leaves_one (λ rest k.
      ap (λ o. act M o w (reverse args ++ vs) ls rest k) (I.outs-Call (Import f))
      ∙ rw (h.import_is, h.type_is, cut, reverse-reverse args, h.typed) (res_leads (outside f args w) ls (λ rs w'. Falls w' (reverse rs ++ vs) ls) rest k))

  -- with no answer left the run lacks one, and the world is as before
  pub leaves_import_lacks : CallsImport M f args → w.answers ≡ [] → Leaves M 1 (I.Call (Import f) ∷ []) w (reverse args ++ vs) ls (Halts Lacks w)
  leaves_import_lacks h e = leaves_as (asked_exit f args w vs ls _ e) (leaves_import h)

  -- results go onto the stack, the last on top
  pub leaves_import_returns : {rs : List CoreValue} {state : MachineState} {more : List Answer} → CallsImport M f args → w.answers ≡ answer.Returns rs state ∷ more
      → Leaves M 1 (I.Call (Import f) ∷ []) w (reverse args ++ vs) ls (Falls (after_answer f args (answer.Returns rs state) state more w) (reverse rs ++ vs) ls)
  leaves_import_returns h e = leaves_as (asked_exit f args w vs ls _ e) (leaves_import h)

  -- a trap ends the run
  pub leaves_import_traps : {more : List Answer} → CallsImport M f args → w.answers ≡ answer.Traps ∷ more
      → Leaves M 1 (I.Call (Import f) ∷ []) w (reverse args ++ vs) ls (Halts Trapped (after_answer f args answer.Traps w.state more w))
  leaves_import_traps h e = leaves_as (asked_exit f args w vs ls _ e) (leaves_import h)

  -- a throw is one of the code
  pub leaves_import_throws : {more : List Answer} → CallsImport M f args → w.answers ≡ answer.Throws ∷ more
      → Leaves M 1 (I.Call (Import f) ∷ []) w (reverse args ++ vs) ls (Throws (after_answer f args answer.Throws w.state more w) ls)
  leaves_import_throws h e = leaves_as (asked_exit f args w vs ls _ e) (leaves_import h)
