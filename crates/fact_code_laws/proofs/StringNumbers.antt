-- What the tests of a string's code push, and its limit and its tag.
use Rattle.std.proofs.Common.{◌≡◌, ℕ, zero, suc, ◌+◌, ◌-◌, ◌*◌, ◌/◌, ◌%◌, ◌^◌, ◌<◌, ◌≤◌, Bool, true, false, List, [], ◌∷◌, Some, refl, sym, ap, ◌∙◌, arith, slice_get}
use Rattle.std.specs.Prelude.{nat_lt, nat_le, nat_eq, not, bit_and, bit_or}
use Rattle.std.specs.Cmp.{both_ways}
use Rattle.std.proofs.lemmas.Bool.{ltb-true, lt-ltb, leb-true, le-leb, eqb-true}
use Rattle.std.proofs.lemmas.Grind.{and_numeral}
use Rattle.std.proofs.lemmas.Nat.{or_lt}
use Rattle.fact_wasm.specs.declared.instr.Instr.{Instr}
use Rattle.fact_wasm.specs.declared.instr.Instr.TheVariants as I
use Rattle.fact_wasm.specs.declared.module.WasmModule.{WasmModule}
use Rattle.fact_types.specs.declared.outside.MemoryOption.{MemoryOption}
use Rattle.fact_machine.specs.declared.types.CoreValue.{CoreValue}
use Rattle.fact_machine.specs.declared.types.CoreValue.TheVariants.{I32, I64}
use Rattle.fact_machine.specs.Exits.{Falls}
use Rattle.fact_machine.specs.Numerics.{truth, ieq, isub}
use Rattle.fact_machine.proofs.Laws.{leaves_next, leaves_then, leaves_as}
use Rattle.fact_machine.proofs.NumericLaws.{leaves_i64_const, leaves_i64_eq, leaves_i64_eqz, leaves_i64_lt_u, leaves_i64_and, leaves_i64_or, leaves_i64_shr_u, leaves_i64_sub}
use Rattle.fact_machine.proofs.RowLaws.{leaves_local_get}
use Rattle.fact_machine.specs.Typing.{address_bits}
use Rattle.fact_types.specs.Adapters.{is_wide}
use Rattle.fact_values.specs.Texts.{has_tag, utf16_tag}
use Rattle.fact_actions.specs.Paths.{Test, AllRead, WrittenIs, HasNoTag, KeepsUnits}
use Rattle.fact_actions.specs.Strings.{PathPoint, holds, most_string_bytes}
use Rattle.fact_code_laws.specs.Does.{Locals, PushesValue}
use Rattle.fact_code_laws.specs.Places.{Setting, limit_of}
use Rattle.fact_code_laws.specs.StringCode.{StringMove, no_tag_code, test_code, limit_code}
use Rattle.fact_code_laws.specs.Tests.{pointer_of_width}
use Rattle.fact_code_laws.proofs.StringAmounts.{times_steps, times_few, pushes_times}
use Rattle.fact_code_laws.proofs.StringPoints.{StringMemory, string_transfer, AtPoint, test_steps, memory_is_wide}

-- ---- what it computes

-- bit 31 alone, behind a shift
no_tag_is : (n : ℕ) → nat_eq (bit_and (n / 2 ^ 31) 1) 0 ≡ not (has_tag n)
no_tag_is n = ap (λ b. nat_eq b 0) (and_numeral (n / 2 ^ 31) 0 refl) ∙ by_bit (n / 2 ^ 31 % 2) (omega arith)
  where
    by_bit : (b : ℕ) → b < 2 → nat_eq b 0 ≡ not (nat_eq b 1)
    by_bit zero lt = refl
    by_bit (suc zero) lt = refl
    by_bit (suc (suc b)) lt = absurd (omega arith)

below_next : (n m : ℕ) → nat_lt n (m + 1) ≡ nat_le n m
below_next n m = both_ways _ _
    (λ h. let lt : n < m + 1 = ltb-true n (m + 1) h in le-leb n m (omega arith))
    (λ h. let le : n ≤ m = leb-true n m h in lt-ltb n (m + 1) (omega arith))

-- with bit 31 set a number is as narrow as it was
pub tagged_below : (memory64 : Bool) (n : ℕ) → n < limit_of (pointer_of_width memory64) → bit_or n utf16_tag < limit_of (pointer_of_width memory64)
tagged_below true n lt = or_lt 64 n utf16_tag lt (omega arith)
tagged_below false n lt = or_lt 32 n utf16_tag lt (omega arith)

-- a number that has the tag, without it
untagged_is : (n : ℕ) → n < 2 ^ 64 → has_tag n ≡ true → isub 64 n utf16_tag ≡ n - utf16_tag
untagged_is n lt h = let one : n / 2 ^ 31 % 2 ≡ 1 = eqb-true (n / 2 ^ 31 % 2) 1 h in omega (arith, lt, one)

-- ---- pushes

module _ {M : WasmModule} {ls : Locals} where
  pub pushes_no_tag : (local n : ℕ) → slice_get ls local ≡ Some (Some (I64 n)) → PushesValue M 6 ls (no_tag_code local) (I32 (truth (not (has_tag n))))
  pushes_no_tag local n h = record {
    by = λ w vs.
        leaves_next (leaves_local_get h) (leaves_next leaves_i64_const (leaves_next leaves_i64_shr_u (leaves_next leaves_i64_const (leaves_next leaves_i64_and
        (leaves_as (ap (λ b. Falls w (I32 (truth b) ∷ vs) ls) (no_tag_is n)) leaves_i64_eqz)))));
  }

  pub pushes_limit : (units n factor : ℕ) → slice_get ls units ≡ Some (Some (I64 n)) → PushesValue M 3 ls (limit_code units factor) (I32 (truth (nat_le n (most_string_bytes / factor))))
  pushes_limit units n factor h = record {
    by = λ w vs.
        leaves_next (leaves_local_get h) (leaves_next leaves_i64_const (leaves_as (ap (λ b. Falls w (I32 (truth b) ∷ vs) ls) (below_next n (most_string_bytes / factor))) leaves_i64_lt_u));
  }

  pub pushes_tagged : (local n : ℕ) → slice_get ls local ≡ Some (Some (I64 n)) → PushesValue M 3 ls (I.LocalGet local ∷ I.I64Const utf16_tag ∷ I.I64Or ∷ []) (I64 (bit_or n utf16_tag))
  pushes_tagged local n h = record { by = λ w vs. leaves_next (leaves_local_get h) (leaves_next leaves_i64_const leaves_i64_or) }

  pub pushes_untagged : (local n : ℕ) → n < 2 ^ 64 → has_tag n ≡ true → slice_get ls local ≡ Some (Some (I64 n)) → PushesValue M 3 ls (I.LocalGet local ∷ I.I64Const utf16_tag ∷ I.I64Sub ∷ []) (I64 (n - utf16_tag))
  pushes_untagged local n lt t h = record { by = λ w vs. leaves_next (leaves_local_get h) (leaves_next leaves_i64_const (leaves_as (ap (λ k. Falls w (I64 k ∷ vs) ls) (untagged_is n lt t)) leaves_i64_sub)) }

-- ---- tests

-- code that pushes a value in at most so many steps
pub record PushesWithin (M : WasmModule) (most : ℕ) (ls : Locals) (code : List Instr) (v : CoreValue) : Type 0 where
  pub steps : ℕ
  pub few : steps ≤ most
  pub pushes : PushesValue M steps ls code v

module _ (S : Setting) {used : ℕ → Bool} {m : StringMove} {b : MemoryOption} (side : StringMemory S.whole S.places S.to m.to64 m.to_memory m.to_log2 b) {first ls : Locals} {v : PathPoint} (h : AtPoint used m first v ls) where
  -- a test's code pushes whether it holds
  pub pushes_test : (test : Test) → PushesWithin S.whole (test_steps test) ls (test_code m test) (I32 (truth (holds (string_transfer S m) test v)))
  pushes_test AllRead = record { steps = 3; few = omega arith; pushes = record { by = λ w vs. leaves_next (leaves_local_get h.read) (leaves_next (leaves_local_get h.units) leaves_i64_eq) } }
  pushes_test (WrittenIs factor) =
      let wide : (factor * v.length) % 2 ^ address_bits m.to64 ≡ (factor * v.length) % 2 ^ address_bits (is_wide S.to.memory) = ap (λ w. (factor * v.length) % 2 ^ address_bits w) (sym (memory_is_wide side)) in
      let times : PushesValue S.whole (times_steps m.to64 factor) ls _ (I64 ((factor * v.length) % 2 ^ address_bits m.to64)) = pushes_times m.to64 factor m.temporaries.units v.length h.units (omega (arith, h.few)) in
      record {
        steps = suc (times_steps m.to64 factor + 1);
        few = omega (arith, times_few m.to64 factor);
        pushes = record {
          by = λ w vs.
              leaves_next (leaves_local_get h.written) (leaves_then (times.by w (I64 v.written ∷ vs))
              (leaves_as (ap (λ n. Falls w (I32 (ieq v.written n) ∷ vs) ls) wide) leaves_i64_eq));
        };
      }
  pushes_test HasNoTag = record { steps = 6; few = omega arith; pushes = pushes_no_tag m.temporaries.written v.written h.written }
  pushes_test KeepsUnits = record {
    steps = 5;
    few = omega arith;
    pushes = record {
      by = λ w vs.
          leaves_next (leaves_local_get h.written) (leaves_next leaves_i64_const (leaves_next leaves_i64_and (leaves_next (leaves_local_get h.units)
          (leaves_as (ap (λ n. Falls w (I32 (ieq n v.length) ∷ vs) ls) (and_numeral v.written (2 ^ 31 - 2) refl)) leaves_i64_eq))));
    };
  }
