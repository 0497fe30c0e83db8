-- Moves of characters and of the cases of enums.
use Rattle.std.proofs.Common.{◌≡◌, ℕ, Bool, true, false, ◌&&◌, List, [], ◌∷◌, ◌++◌, Some, refl, ap, ◌∙◌, arith, slice_get, sym}
use Rattle.std.specs.Prelude.{nat_lt, ◌||◌, bit_and, bit_or}
use Rattle.fact_wasm.specs.declared.types.ValType.{ValType}
use Rattle.fact_wasm.specs.declared.types.ValType.TheVariants as val
use Rattle.fact_wasm.specs.declared.instr.Instr.TheVariants as I
use Rattle.fact_wasm.specs.declared.instr.Instr.TheOpen as o
use Rattle.fact_wasm.specs.declared.module.WasmModule.{WasmModule}
use Rattle.fact_types.specs.declared.interface.InterfaceType.TheVariants as ty
use Rattle.fact_types.specs.declared.outside.Trap.TheVariants.{InvalidChar, InvalidDiscriminant}
use Rattle.fact_types.specs.Shapes.{s_plain, s_node, k_enum, Members}
use Rattle.fact_machine.specs.declared.types.CoreValue.TheVariants.{I32}
use Rattle.fact_machine.specs.Numerics.{truth}
use Rattle.fact_machine.proofs.Laws.{leaves_next, leaves_as}
use Rattle.fact_machine.proofs.RowLaws.{leaves_local_get, leaves_i32_const}
use Rattle.fact_machine.proofs.NumericLaws.{leaves_i32_lt_u, leaves_i32_gt_u, leaves_i32_and, leaves_i32_or}
use Rattle.fact_types.specs.declared.import.Import.TheVariants as import
use Rattle.fact_values.specs.Numbers.{is_scalar_value}
use Rattle.fact_values.specs.Places.{case_bytes, count_of_members}
use Rattle.fact_actions.specs.Sides.{read_number, write_number}
use Rattle.fact_actions.specs.Moves.{move}
use Rattle.fact_code_laws.specs.Does.{Locals, PushesValue}
use Rattle.fact_code_laws.specs.Knows.{KnowsFunction}
use Rattle.fact_code_laws.specs.Places.{Setting, transfer, FitsNumber, From, To, Moves, N32, ToUsed, node_check, FromChecked, ToChecked, Number, size_of, is_on}
use Rattle.fact_code_laws.specs.Typed.{OnStack, IsTyped}
use Rattle.fact_code_laws.proofs.TypingLaws.{typed_next, typed_one}
use Rattle.fact_code_laws.proofs.TypedRows.{takes_plain, takes_local_get}
use Rattle.fact_machine.specs.Exits.{Falls}
use Rattle.fact_code_laws.proofs.Aligned.{moves_checked, checked_by, aligns_four, Checked}
use Rattle.fact_actions.specs.Actions.{Visit, unless}
use Rattle.fact_code_laws.proofs.Tested.{tested_code, Temporary, IsTest, moves_tested}
use Rattle.fact_code_laws.proofs.FieldMoves.{moves_same}
use Rattle.fact_code_laws.proofs.Scalars.{IsNarrow, narrow_32}
use Rattle.fact_code_laws.specs.Tests.{scalar_test, case_test}

-- ---- the test of a Unicode scalar value

joined : (a b c : Bool) → bit_or (truth a) (bit_and (truth b) (truth c)) ≡ truth (a || (b && c))
joined true true true = refl
joined true true false = refl
joined true false true = refl
joined true false false = refl
joined false true true = refl
joined false true false = refl
joined false false true = refl
joined false false false = refl

pushes_scalar : {M : WasmModule} {ls : Locals} (temp x : ℕ) → slice_get ls temp ≡ Some (Some (I32 x)) → PushesValue M 11 ls (scalar_test temp) (I32 (truth (is_scalar_value x)))
pushes_scalar {M} {ls} temp x h = record {
  by = λ w vs.
      leaves_next (leaves_local_get h) (leaves_next leaves_i32_const (leaves_next leaves_i32_lt_u
      (leaves_next (leaves_local_get h) (leaves_next leaves_i32_const (leaves_next leaves_i32_gt_u
      (leaves_next (leaves_local_get h) (leaves_next leaves_i32_const (leaves_next leaves_i32_lt_u
      (leaves_next leaves_i32_and (leaves_as (ap (λ n. Falls w (I32 n ∷ vs) ls) (joined (nat_lt x 0xD800) (nat_lt 0xDFFF x) (nat_lt x 0x110000))) leaves_i32_or))))))))));
}

typed_scalar : {M : WasmModule} {locals : List ValType} {labels : List (List ValType)} (temp : ℕ) → slice_get locals temp ≡ Some val.I32 → IsTyped M locals labels (scalar_test temp) [] (OnStack (val.I32 ∷ []))
typed_scalar temp h =
    typed_next (takes_local_get h) (typed_next (takes_plain (o.I32Const _) (I.outs-I32Const _) refl) (typed_next (takes_plain o.I32LtU I.outs-I32LtU refl)
    (typed_next (takes_local_get h) (typed_next (takes_plain (o.I32Const _) (I.outs-I32Const _) refl) (typed_next (takes_plain o.I32GtU I.outs-I32GtU refl)
    (typed_next (takes_local_get h) (typed_next (takes_plain (o.I32Const _) (I.outs-I32Const _) refl) (typed_next (takes_plain o.I32LtU I.outs-I32LtU refl)
    (typed_next (takes_plain o.I32And I.outs-I32And refl) (typed_one (takes_plain o.I32Or I.outs-I32Or refl)))))))))))

pub scalar_is : IsTest is_scalar_value scalar_test
scalar_is = record { steps = 11; few = omega arith; pushes = pushes_scalar; typed = typed_scalar }

-- ---- the test of a case

pub case_is : (cases : ℕ) → IsTest (λ x. nat_lt x cases) (case_test cases)
case_is cases = record {
  steps = 3;
  few = omega arith;
  pushes = λ temp x h. record { by = λ w vs. leaves_next (leaves_local_get h) (leaves_next leaves_i32_const leaves_i32_lt_u) };
  typed = λ temp h. typed_next (takes_local_get h) (typed_next (takes_plain (o.I32Const _) (I.outs-I32Const _) refl) (typed_one (takes_plain o.I32LtU I.outs-I32LtU refl)));
}

-- ---- the moves

module _ (S : Setting) (used : ℕ → Bool) (from : From) (to : To) (temp trap_at : ℕ) (u : ToUsed used to) (t : Temporary S used temp val.I32) where
  pub moves_char : FitsNumber S N32 from to → KnowsFunction S.whole S.places (import.Trap InvalidChar) trap_at [] [] → FromChecked S.whole S.places S.checks 4 from → ToChecked S.whole S.places S.checks 4 to
      → Moves S used 0 500 from to (move (transfer S) (s_plain ty.Char) (s_plain ty.Char)) (node_check S 4 4 from to ++ tested_code S.checks N32 scalar_test temp trap_at from to)
  unfolding move
  moves_char h traps a b = moves_checked (checked_by 4 refl refl refl refl aligns_four a b h.from_typed h.to_typed) (moves_tested S used from to temp trap_at N32 narrow_32 h u t InvalidChar traps scalar_is)

  -- an enum, whose discriminants have these bytes on both sides
  pub moves_enum : {ms ns : Members} {from_align to_align : ℕ} (n : Number) → IsNarrow n → case_bytes ms ≡ size_of n → case_bytes ns ≡ size_of n → FitsNumber S n from to → KnowsFunction S.whole S.places (import.Trap InvalidDiscriminant) trap_at [] []
      → Checked S (s_node k_enum ms) (s_node k_enum ns) from_align to_align from to
      → Moves S used 0 500 from to (move (transfer S) (s_node k_enum ms) (s_node k_enum ns)) (node_check S from_align to_align from to ++ tested_code S.checks n (case_test (count_of_members ms)) temp trap_at from to)
  unfolding move
  moves_enum {ms} {ns} n narrow e1 e2 h traps c =
      moves_checked c (moves_same (λ s d.
      ap (λ z. Visit 1 (read_number (is_on S.checks) S.from z s (λ x. unless InvalidDiscriminant (nat_lt x (count_of_members ms)) (write_number S.to (size_of n) d x)))) (sym e1)
      ∙ ap (λ z. Visit 1 (read_number (is_on S.checks) S.from (case_bytes ms) s (λ x. unless InvalidDiscriminant (nat_lt x (count_of_members ms)) (write_number S.to z d x)))) (sym e2))
      (moves_tested S used from to temp trap_at n narrow h u t InvalidDiscriminant traps (case_is (count_of_members ms))))
