-- Sizes and regions of lists, computed in 64 bits: products, alignment, and bounds.
use Rattle.std.proofs.Common.{◌≡◌, ℕ, suc, ◌+◌, ◌-◌, ◌*◌, ◌/◌, ◌%◌, ◌^◌, ◌<◌, ◌≤◌, ◌⊎◌, inl, inr, Bool, true, false, ◌&&◌, List, ◌∷◌, Some, refl, sym, ap, ◌∙◌, subst, arith, slice_get}
use Rattle.std.specs.Prelude.{nat_lt, nat_le, nat_eq, bit_and}
use Rattle.std.specs.Cmp.{both_ways}
use Rattle.std.proofs.lemmas.Bool.{ltb-true, lt-ltb, leb-true, le-leb, lt-leb, cases_lt}
use Rattle.std.proofs.Math.Nat.{mod-eq_of_lt, le-div_iff_mul-le}
use Rattle.fact_wasm.specs.declared.types.ValType.{ValType}
use Rattle.fact_wasm.specs.declared.types.ValType.TheVariants as val
use Rattle.fact_wasm.specs.declared.instr.Instr.TheVariants as I
use Rattle.fact_wasm.specs.declared.instr.Instr.TheOpen as o
use Rattle.fact_wasm.specs.declared.module.WasmModule.{WasmModule}
use Rattle.fact_machine.specs.declared.types.CoreValue.TheVariants.{I32, I64}
use Rattle.fact_machine.specs.Numerics.{truth, isub}
use Rattle.fact_machine.proofs.Laws.{leaves_next, leaves_as}
use Rattle.fact_machine.proofs.RowLaws.{leaves_local_get}
use Rattle.fact_machine.proofs.NumericLaws.{leaves_i64_const, leaves_i64_lt_u, leaves_i64_ge_u, leaves_i64_sub, leaves_i64_and, leaves_i64_eqz, leaves_i32_and}
use Rattle.fact_code_laws.specs.Does.{Locals, PushesValue}
use Rattle.fact_code_laws.specs.Typed.{OnStack, IsTyped}
use Rattle.fact_code_laws.proofs.Scaled.{scaled_steps, leaves_scaled, typed_scaled}
use Rattle.fact_code_laws.proofs.TypingLaws.{typed_next, typed_one}
use Rattle.fact_code_laws.proofs.TypedRows.{takes_plain, takes_local_get}
use Rattle.fact_machine.specs.Exits.{Falls}
use Rattle.fact_code_laws.specs.Tests.{aligned_code, bounds_code}
use Rattle.fact_code_laws.specs.Lists.{few_code, bytes_code}

-- ---- code

-- ---- what it computes

fits_size : (n size : ℕ) → 0 < size → nat_lt n ((2 ^ 32 - 1) / size + 1) ≡ nat_lt (n * size) (2 ^ 32)
fits_size n size some = both_ways _ _ up down
  where
    up : nat_lt n ((2 ^ 32 - 1) / size + 1) ≡ true → nat_lt (n * size) (2 ^ 32) ≡ true
    up h =
        let lt : n < (2 ^ 32 - 1) / size + 1 = ltb-true n ((2 ^ 32 - 1) / size + 1) h in
        let le : n ≤ (2 ^ 32 - 1) / size = omega arith in
        let all : n * size ≤ 2 ^ 32 - 1 = (le-div_iff_mul-le some).0 le in
        lt-ltb (n * size) (2 ^ 32) (omega arith)

    down : nat_lt (n * size) (2 ^ 32) ≡ true → nat_lt n ((2 ^ 32 - 1) / size + 1) ≡ true
    down h =
        let lt : n * size < 2 ^ 32 = ltb-true (n * size) (2 ^ 32) h in
        let all : n * size ≤ 2 ^ 32 - 1 = omega arith in
        let le : n ≤ (2 ^ 32 - 1) / size = (le-div_iff_mul-le some).1 all in
        lt-ltb n ((2 ^ 32 - 1) / size + 1) (omega arith)

truths : (a b : Bool) → bit_and (truth a) (truth b) ≡ truth (a && b)
truths true true = refl
truths true false = refl
truths false true = refl
truths false false = refl

within_length : (pointer bytes length : ℕ) → pointer < 2 ^ 64 → bytes < 2 ^ 64 → length < 2 ^ 64 → (nat_le bytes length && nat_le pointer (isub 64 length bytes)) ≡ nat_le (pointer + bytes) length
within_length pointer bytes length hp hb hl = go (cases_lt length bytes)
  where
    go : (length < bytes) ⊎ (bytes ≤ length) → (nat_le bytes length && nat_le pointer (isub 64 length bytes)) ≡ nat_le (pointer + bytes) length
    go (inl short) =
        let past : length < pointer + bytes = omega arith in
        ap (λ b. b && nat_le pointer (isub 64 length bytes)) (lt-leb bytes length short) ∙ sym (lt-leb (pointer + bytes) length past)
    go (inr le) =
        let left : isub 64 length bytes ≡ length - bytes = omega arith in
        ap (λ b. b && nat_le pointer (isub 64 length bytes)) (le-leb bytes length le) ∙ ap (nat_le pointer) left ∙ both_ways _ _
        (λ h. let ok : pointer ≤ length - bytes = leb-true pointer (length - bytes) h in le-leb (pointer + bytes) length (omega arith))
        (λ h. let ok : pointer + bytes ≤ length = leb-true (pointer + bytes) length h in le-leb pointer (length - bytes) (omega arith))

module _ {M : WasmModule} {ls : Locals} where
  pub pushes_few : (number n size : ℕ) → 0 < size → slice_get ls number ≡ Some (Some (I64 n)) → PushesValue M 3 ls (few_code number size) (I32 (truth (nat_lt (n * size) (2 ^ 32))))
  pushes_few number n size some h = record {
    by = λ w vs.
        leaves_next (leaves_local_get h) (leaves_next leaves_i64_const (leaves_as (ap (λ b. Falls w (I32 (truth b) ∷ vs) ls) (fits_size n size some)) leaves_i64_lt_u));
  }

  pub pushes_bytes : (number n size : ℕ) → n * size < 2 ^ 64 → slice_get ls number ≡ Some (Some (I64 n)) → PushesValue M (suc (scaled_steps size)) ls (bytes_code number size) (I64 (n * size))
  pushes_bytes number n size lt h =
      let below : size ≡ 1 → n < 2 ^ 64 = λ one. let bytes : n * 1 < 2 ^ 64 = subst (λ s. n * s < 2 ^ 64) one lt in omega (arith, bytes) in
      record {
        by = λ w vs. leaves_next (leaves_local_get h) (leaves_as (ap (λ m. Falls w (I64 m ∷ vs) ls) (mod-eq_of_lt lt)) (leaves_scaled size n below));
      }

  pub pushes_aligned : (pointer p align : ℕ) → ((x : ℕ) → bit_and x (align - 1) ≡ x % align) → slice_get ls pointer ≡ Some (Some (I64 p)) → PushesValue M 4 ls (aligned_code pointer align) (I32 (truth (nat_eq (p % align) 0)))
  pushes_aligned pointer p align masks h = record {
    by = λ w vs.
        leaves_next (leaves_local_get h) (leaves_next leaves_i64_const (leaves_next leaves_i64_and (leaves_as (ap (λ m. Falls w (I32 (truth (nat_eq m 0)) ∷ vs) ls) (masks p)) leaves_i64_eqz)));
  }

  pub pushes_bounds : (pointer bytes length p b l : ℕ) → p < 2 ^ 64 → b < 2 ^ 64 → l < 2 ^ 64 → slice_get ls pointer ≡ Some (Some (I64 p)) → slice_get ls bytes ≡ Some (Some (I64 b)) → slice_get ls length ≡ Some (Some (I64 l))
      → PushesValue M 9 ls (bounds_code pointer bytes length) (I32 (truth (nat_le (p + b) l)))
  pushes_bounds pointer bytes length p b l lp lb ll hp hb hl = record {
    by = λ w vs.
        let is = truths (nat_le b l) (nat_le p (isub 64 l b)) ∙ ap truth (within_length p b l lp lb ll) in
        leaves_next (leaves_local_get hl) (leaves_next (leaves_local_get hb) (leaves_next leaves_i64_ge_u
        (leaves_next (leaves_local_get hl) (leaves_next (leaves_local_get hb) (leaves_next leaves_i64_sub
        (leaves_next (leaves_local_get hp) (leaves_next leaves_i64_ge_u (leaves_as (ap (λ m. Falls w (I32 m ∷ vs) ls) is) leaves_i32_and))))))));
  }

module _ {M : WasmModule} {locals : List ValType} {labels : List (List ValType)} {ins : List ValType} where
  pub typed_few : (number size : ℕ) → slice_get locals number ≡ Some val.I64 → IsTyped M locals labels (few_code number size) ins (OnStack (val.I32 ∷ ins))
  typed_few number size h = typed_next (takes_local_get h) (typed_next (takes_plain (o.I64Const _) (I.outs-I64Const _) refl) (typed_one (takes_plain o.I64LtU I.outs-I64LtU refl)))

  pub typed_bytes : (number size : ℕ) → slice_get locals number ≡ Some val.I64 → IsTyped M locals labels (bytes_code number size) ins (OnStack (val.I64 ∷ ins))
  typed_bytes number size h = typed_next (takes_local_get h) (typed_scaled size)

  pub typed_aligned : (pointer align : ℕ) → slice_get locals pointer ≡ Some val.I64 → IsTyped M locals labels (aligned_code pointer align) ins (OnStack (val.I32 ∷ ins))
  typed_aligned pointer align h =
      typed_next (takes_local_get h) (typed_next (takes_plain (o.I64Const _) (I.outs-I64Const _) refl) (typed_next (takes_plain o.I64And I.outs-I64And refl) (typed_one (takes_plain o.I64Eqz I.outs-I64Eqz refl))))

  pub typed_bounds : (pointer bytes length : ℕ) → slice_get locals pointer ≡ Some val.I64 → slice_get locals bytes ≡ Some val.I64 → slice_get locals length ≡ Some val.I64
      → IsTyped M locals labels (bounds_code pointer bytes length) ins (OnStack (val.I32 ∷ ins))
  typed_bounds pointer bytes length hp hb hl =
      typed_next (takes_local_get hl) (typed_next (takes_local_get hb) (typed_next (takes_plain o.I64GeU I.outs-I64GeU refl)
      (typed_next (takes_local_get hl) (typed_next (takes_local_get hb) (typed_next (takes_plain o.I64Sub I.outs-I64Sub refl)
      (typed_next (takes_local_get hp) (typed_next (takes_plain o.I64GeU I.outs-I64GeU refl) (typed_one (takes_plain o.I32And I.outs-I32And refl)))))))))
