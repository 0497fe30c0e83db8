-- Tests of alignments and of byte lengths, with a trap where they fail. None stands where it cannot fail.
use Rattle.std.proofs.Common.{◌≡◌, ℕ, ◌+◌, ◌-◌, ◌*◌, ◌%◌, ◌^◌, ◌<◌, Bool, true, false, List, [], ◌++◌, Some, refl, sym, ap, ◌∙◌, subst, arith, slice_get}
use Rattle.std.specs.Prelude.{nat_eq, nat_lt, bit_and}
use Rattle.std.proofs.lemmas.Bool.{ltb-true, lt-ltb, eqb-true, eq-eqb}
use Rattle.fact_wasm.specs.declared.types.ValType.{ValType}
use Rattle.fact_wasm.specs.declared.types.ValType.TheVariants as val
use Rattle.fact_wasm.specs.declared.instr.Instr.{Instr}
use Rattle.fact_wasm.specs.declared.module.WasmModule.{WasmModule}
use Rattle.fact_types.specs.declared.import.Import.TheVariants as import
use Rattle.fact_types.specs.declared.outside.Trap.TheVariants.{ListOutOfBounds, UnalignedPointer}
use Rattle.fact_machine.specs.declared.types.CoreValue.{CoreValue}
use Rattle.fact_machine.specs.declared.types.CoreValue.TheVariants.{I64}
use Rattle.fact_actions.specs.Actions.{Action, unless}
use Rattle.fact_actions.specs.Running.{ImportPlaces}
use Rattle.fact_code_laws.specs.Does.{Locals, Way, Does}
use Rattle.fact_code_laws.specs.Knows.{KnowsFunction}
use Rattle.fact_code_laws.specs.Typed.{OperandsBehind, IsTyped}
use Rattle.fact_code_laws.proofs.Rules.{within}
use Rattle.fact_code_laws.proofs.Blocks.{guard}
use Rattle.fact_code_laws.proofs.Regions.{pushes_few, pushes_aligned, typed_few, typed_aligned}
use Rattle.fact_code_laws.specs.Tests.{aligned_guard, HasUnaligned}
use Rattle.fact_code_laws.proofs.TypedShapes.{takes_guard}
use Rattle.fact_code_laws.specs.Lists.{is_few, few_guard}

-- ---- code

-- ---- what it does

pub few_bytes : (memory64 : Bool) (n size : ℕ) → (memory64 ≡ false → n < 2 ^ 32) → is_few memory64 size ≡ true → n * size < 2 ^ 32
few_bytes true n size below h = cc
few_bytes false n size below h =
    let less : n < 2 ^ 32 = below refl in
    let bytes : n * 1 < 2 ^ 32 = omega (arith, less) in
    subst (λ s. n * s < 2 ^ 32) (sym (eqb-true size 1 h)) bytes

module _ {A : Type 0} {M : WasmModule} {p : ImportPlaces} {way : Way} {extra spare : ℕ} {ins : List CoreValue} {ls : Locals} {c : List Instr} {q : Action A} {out : A → List CoreValue} {Holds : A → Locals → Type 0} where
  -- both in front of other code
  pub checks_aligned : (one : Bool) (pointer at align place : ℕ) → nat_eq align 1 ≡ one → HasUnaligned one M p place → ((n : ℕ) → bit_and n (align - 1) ≡ n % align) → slice_get ls pointer ≡ Some (Some (I64 at))
      → Does M p way extra spare ins ls c q out Holds → Does M p way (6 + extra) spare ins ls (aligned_guard one pointer align place ++ c) (unless UnalignedPointer (nat_eq (at % align) 0) q) out Holds
  checks_aligned true pointer at align place e h masks there d =
      let none : at % align ≡ 0 = ap (λ n. at % n) (eqb-true align 1 e) ∙ omega arith in
      subst (λ b. Does M p way (6 + extra) spare ins ls c (unless UnalignedPointer b q) out Holds) (sym (eq-eqb (at % align) 0 none)) (within (omega arith) d)
  checks_aligned false pointer at align place e h masks there d = within (omega arith) (guard (nat_eq (at % align) 0) h (pushes_aligned pointer at align masks there) (λ good. d))

  pub checks_few : (few : Bool) (number n size place : ℕ) → (few ≡ true → n * size < 2 ^ 32) → 0 < size → KnowsFunction M p (import.Trap ListOutOfBounds) place [] [] → slice_get ls number ≡ Some (Some (I64 n))
      → (n * size < 2 ^ 32 → Does M p way extra spare ins ls c q out Holds)
      → Does M p way (5 + extra) spare ins ls (few_guard few number size place ++ c) (unless ListOutOfBounds (nat_lt (n * size) (2 ^ 32)) q) out Holds
  checks_few true number n size place small some h there go =
      subst (λ b. Does M p way (5 + extra) spare ins ls c (unless ListOutOfBounds b q) out Holds) (sym (lt-ltb (n * size) (2 ^ 32) (small refl))) (within (omega arith) (go (small refl)))
  checks_few false number n size place small some h there go =
      within (omega arith) (guard (nat_lt (n * size) (2 ^ 32)) h (pushes_few number n size some there) (λ good. go (ltb-true (n * size) (2 ^ 32) good)))

-- ---- its types

module _ {M : WasmModule} {locals : List ValType} {labels : List (List ValType)} {ins : List ValType} {outs : OperandsBehind} {c : List Instr} (p : ImportPlaces) where
  pub takes_aligned : (one : Bool) (pointer align place : ℕ) → HasUnaligned one M p place → slice_get locals pointer ≡ Some val.I64 → IsTyped M locals labels c ins outs → IsTyped M locals labels (aligned_guard one pointer align place ++ c) ins outs
  takes_aligned true pointer align place h l x = x
  takes_aligned false pointer align place h l x = takes_guard h (typed_aligned pointer align l) x

  pub takes_few : (few : Bool) (number size place : ℕ) → KnowsFunction M p (import.Trap ListOutOfBounds) place [] [] → slice_get locals number ≡ Some val.I64 → IsTyped M locals labels c ins outs → IsTyped M locals labels (few_guard few number size place ++ c) ins outs
  takes_few true number size place h l x = x
  takes_few false number size place h l x = takes_guard h (typed_few number size l) x
