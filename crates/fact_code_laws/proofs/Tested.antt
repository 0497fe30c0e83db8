-- Moves of numbers of 32 bits or fewer that are read, tested and written.
use Rattle.std.proofs.Common.{◌≡◌, ℕ, ◌≤◌, Bool, false, List, [], ◌∷◌, ◌++◌, Some, refl, ap, ◌∙◌, arith, slice_get, sym, subst}
use Rattle.fact_wasm.specs.declared.types.ValType.{ValType}
use Rattle.fact_wasm.specs.declared.types.ValType.TheVariants as val
use Rattle.fact_wasm.specs.declared.instr.Instr.{Instr}
use Rattle.fact_wasm.specs.declared.instr.Instr.TheVariants as I
use Rattle.fact_wasm.specs.declared.module.WasmModule.{WasmModule}
use Rattle.fact_machine.specs.declared.types.CoreValue.TheVariants.{I32}
use Rattle.fact_machine.specs.Numerics.{truth}
use Rattle.fact_types.specs.declared.import.Import.TheVariants as import
use Rattle.fact_actions.specs.Sides.{Source, Target, read_number, write_number}
use Rattle.fact_code_laws.specs.Code.{guard_code}
use Rattle.fact_code_laws.specs.Does.{Locals, Onward, held_types, Does, PushesValue}
use Rattle.fact_code_laws.specs.Knows.{KnowsFunction}
use Rattle.fact_code_laws.specs.Places.{Setting, FitsNumber, From, To, StandsAt, MayGo, Stood, KeepsLocals, Moves, read_code, code_before, code_behind, ToUsed, DebugChecks, Number, size_of, is_on}
use Rattle.fact_code_laws.specs.Typed.{OnStack, IsTyped}
use Rattle.fact_code_laws.proofs.Rules.{within, visit, local_get, local_set}
use Rattle.fact_code_laws.proofs.Blocks.{guard}
use Rattle.fact_code_laws.proofs.Scalars.{IsNarrow}
use Rattle.fact_code_laws.proofs.Numbers.{reads, begins, set_keeps, below_number}
use Rattle.fact_code_laws.proofs.Keeping.{writes_later}
use Rattle.fact_code_laws.proofs.TypingLaws.{typed_then, typed_next}
use Rattle.fact_code_laws.proofs.TypedRows.{takes_local_get, takes_local_set}
use Rattle.fact_code_laws.proofs.TypedShapes.{takes_guard}
use Rattle.fact_code_laws.proofs.TypedPlaces.{typed_read, typed_before, typed_behind, below_type}
use Rattle.fact_actions.specs.Actions.{Visit, Action, unless}
use Rattle.fact_machine.specs.declared.types.CoreValue.{CoreValue}
use Rattle.fact_types.specs.declared.outside.Trap.{Trap}

-- a number through a temporary local, with the place of the function of the trap of its test
abbrev pub tested_code : DebugChecks → Number → (test : ℕ → List Instr) → (temp trap : ℕ) → From → To → List Instr
tested_code checks n test temp trap from to = code_before to ++ (read_code checks n from ++ (I.LocalSet temp ∷ (guard_code (test temp) trap ++ (I.LocalGet temp ∷ code_behind n to))))

-- a local that may be changed, of a type
pub record Temporary (S : Setting) (used : ℕ → Bool) (temp : ℕ) (t : ValType) : Type 0 where
  pub local : slice_get S.locals temp ≡ Some t
  pub free : used temp ≡ false

-- code that tests the number in a local
pub record IsTest (passes : ℕ → Bool) (test : ℕ → List Instr) : Type 0 where
  pub steps : ℕ
  pub few : steps ≤ 11
  pub pushes : {M : WasmModule} {ls : Locals} (temp x : ℕ) → slice_get ls temp ≡ Some (Some (I32 x)) → PushesValue M steps ls (test temp) (I32 (truth (passes x)))
  pub typed : {M : WasmModule} {locals : List ValType} {labels : List (List ValType)} (temp : ℕ) → slice_get locals temp ≡ Some val.I32 → IsTyped M locals labels (test temp) [] (OnStack (val.I32 ∷ []))

module _ (S : Setting) (used : ℕ → Bool) (from : From) (to : To) (temp trap_at : ℕ) (n : Number) (narrow : IsNarrow n) (h : FitsNumber S n from to) (u : ToUsed used to) (t : Temporary S used temp val.I32) (trap : Trap) (traps : KnowsFunction S.whole S.places (import.Trap trap) trap_at [] [])
    {passes : ℕ → Bool} {test : ℕ → List Instr} (c : IsTest passes test) where
  abbrev pub tested : Source → Target → Action (List CoreValue)
  tested s d = read_number (is_on S.checks) S.from (size_of n) s (λ x. unless trap (passes x) (write_number S.to (size_of n) d x))

  tested_does : (ls : Locals) (s : Source) (d : Target) → held_types ls ≡ S.locals → StandsAt ls S.from64 from s → MayGo used ls S.to64 to d
      → Does S.whole S.places Onward 30 0 [] ls (tested_code S.checks n test temp trap_at from to) (tested s d) (λ vs. []) (λ vs ls'. Stood ls' to vs × KeepsLocals used ls ls')
  tested_does ls s d e st g =
      within (omega (arith, c.few)) (begins S.to64 used to d g (reads S.checks n S.from S.from64 from s h.readable st (λ x lt.
      subst (λ v. Does S.whole S.places Onward 19 0 (v ∷ below_number S.to64 used ls to d g) ls (I.LocalSet temp ∷ (guard_code (test temp) trap_at ++ (I.LocalGet temp ∷ code_behind n to))) (unless trap (passes x) (write_number S.to (size_of n) d x)) (λ vs. []) (λ vs ls'. Stood ls' to vs × KeepsLocals used ls ls')) (sym (narrow.value x))
      (within (omega (arith, c.few)) (local_set val.I32 (ap (λ l. slice_get l temp) e ∙ t.local) refl (λ ls1 set.
      guard (passes x) traps (c.pushes temp x set.here) (λ good.
      local_get set.here (subst (λ v. Does S.whole S.places Onward 2 0 (v ∷ below_number S.to64 used ls to d g) ls1 (code_behind n to) (write_number S.to (size_of n) d x) (λ vs. []) (λ vs ls'. Stood ls' to vs × KeepsLocals used ls ls')) (narrow.value x)
      (writes_later used n S.to S.to64 to d h.writable (set_keeps t.free set) u g lt)))))))))

  -- A number is read, tested and written, within the steps that one node has beside its checks.
  pub moves_tested : Moves S used 0 516 from to (λ s d. Visit 1 (tested s d)) (tested_code S.checks n test temp trap_at from to)
  moves_tested = record {
    effect = λ ls s d e st g rooms. visit (omega arith) (tested_does ls s d e st g);
    typed =
        typed_then (typed_before S.to64 to h.to_typed) (typed_then (typed_read S.places S.checks S.from S.from64 n from h.readable h.from_typed)
        (subst (λ v. IsTyped S.whole S.locals [] (I.LocalSet temp ∷ (guard_code (test temp) trap_at ++ (I.LocalGet temp ∷ code_behind n to))) (v ∷ (below_type S.to64 to ++ [])) (OnStack [])) (sym narrow.type)
        (typed_next (takes_local_set t.local) (takes_guard traps (c.typed temp t.local)
        (typed_next (takes_local_get t.local) (subst (λ v. IsTyped S.whole S.locals [] (code_behind n to) (v ∷ (below_type S.to64 to ++ [])) (OnStack [])) narrow.type (typed_behind S.places S.to S.to64 n to h.writable h.to_typed)))))));
  }
