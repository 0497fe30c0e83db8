-- The pieces of code that writing functions put together are in range, and name no function but those of traps.
use Rattle.std.proofs.Common.{◌≡◌, ℕ, suc, Bool, true, false, List, [], ◌∷◌, ◌++◌, Option, ap, ◌∙◌, arith}
use Rattle.std.specs.Prelude.{nat_eq, if◌then◌else◌}
use Rattle.std.specs.List.{filter_map}
use Rattle.fact_wasm.specs.declared.instr.BlockType.TheVariants.{Empty}
use Rattle.fact_wasm.specs.declared.instr.Instr.{Instr, the_lemmas}
use Rattle.fact_wasm.specs.declared.instr.Instr.TheVariants as I
use Rattle.fact_wasm.specs.declared.types.ValType.{ValType}
use Rattle.fact_wasm.specs.declared.types.ValType.TheVariants as val
use Rattle.fact_wasm.specs.Ranges.{AreRanged}
use Rattle.fact_code_laws.specs.Cases.{discriminant_code, zero_code, zero_const, zero_slots}
use Rattle.fact_code_laws.specs.Code.{length_code, pages_code, scaled_code, trap_code}
use Rattle.fact_code_laws.specs.Places.{InMemory, Number, N8, N16, N32, N64, Off, Slot, To, ToLocals, ToMemory, code_before, code_behind, from_i32, from_i64, narrow, place_test, read_code, to_i32, to_i64, upper_test, widen}
use Rattle.fact_code_laws.specs.Tests.{aligned_code, bounds_code, pointer_of_width}
use Rattle.fact_emit.specs.declared.scalars.Canonical.{Canonical}
use Rattle.fact_emit.specs.declared.scalars.Canonical.TheVariants.{AsIs, Truth, Signed8, Signed16, Low}
use Rattle.fact_emit.specs.declared.scalars.NumberTest.{NumberTest}
use Rattle.fact_emit.specs.declared.scalars.NumberTest.TheVariants.{ScalarValue, CaseBelow}
use Rattle.fact_emit.specs.Areas.{widened_code}
use Rattle.fact_emit.specs.NamedFunctions.{functions_named, imported_named, imported_place}
use Rattle.fact_emit.specs.Scalars.{canonical_code, code_of_test}
use Rattle.fact_emit.proofs.NamedLaws.{named_append, named_block, names_none, ranged_append, ranged_block, ranged_more, ranged_none}

-- ---- single instructions

pub get_ranged : (local : ℕ) → AreRanged 0 0 (I.LocalGet local ∷ [])
get_ranged local = ranged_none 0 0 (I.LocalGet local ∷ []) (simp the_lemmas)

pub set_ranged : (local : ℕ) → AreRanged 0 0 (I.LocalSet local ∷ [])
set_ranged local = ranged_none 0 0 (I.LocalSet local ∷ []) (simp the_lemmas)

pub unreachable_ranged : AreRanged 0 0 (I.Unreachable ∷ [])
unreachable_ranged = ranged_none 0 0 (I.Unreachable ∷ []) (simp the_lemmas)

-- ---- numbers

to_i32_ranged : (t : ValType) → AreRanged 0 0 (to_i32 t)
to_i32_ranged val.I64 = ranged_none 0 0 (to_i32 val.I64) (simp the_lemmas)
to_i32_ranged val.F32 = ranged_none 0 0 (to_i32 val.F32) (simp the_lemmas)
to_i32_ranged _ = tt

to_i64_ranged : (t : ValType) → AreRanged 0 0 (to_i64 t)
to_i64_ranged val.F64 = ranged_none 0 0 (to_i64 val.F64) (simp the_lemmas)
to_i64_ranged _ = tt

from_i32_ranged : (t : ValType) → AreRanged 0 0 (from_i32 t)
from_i32_ranged val.I64 = ranged_none 0 0 (from_i32 val.I64) (simp the_lemmas)
from_i32_ranged val.F32 = ranged_none 0 0 (from_i32 val.F32) (simp the_lemmas)
from_i32_ranged _ = tt

from_i64_ranged : (t : ValType) → AreRanged 0 0 (from_i64 t)
from_i64_ranged val.F64 = ranged_none 0 0 (from_i64 val.F64) (simp the_lemmas)
from_i64_ranged _ = tt

pub narrow_ranged : (n : Number) (t : ValType) → AreRanged 0 0 (narrow n t)
narrow_ranged N8 t = to_i32_ranged t
narrow_ranged N16 t = to_i32_ranged t
narrow_ranged N32 t = to_i32_ranged t
narrow_ranged N64 t = to_i64_ranged t

pub widen_ranged : (n : Number) (t : ValType) → AreRanged 0 0 (widen n t)
widen_ranged N8 t = from_i32_ranged t
widen_ranged N16 t = from_i32_ranged t
widen_ranged N32 t = from_i32_ranged t
widen_ranged N64 t = from_i64_ranged t

pub local_ranged : (local : ℕ) (n : Number) (t : ValType) → AreRanged 0 0 (I.LocalGet local ∷ narrow n t)
local_ranged local n t = ranged_append 0 0 (I.LocalGet local ∷ []) (narrow n t) (get_ranged local) (narrow_ranged n t)

pub memory_ranged : (n : Number) (memory base offset : ℕ) → AreRanged 0 0 (read_code Off n (InMemory memory base offset))
memory_ranged N8 memory base offset = (simp the_lemmas tt, (simp the_lemmas (omega arith, tt), tt))
memory_ranged N16 memory base offset = (simp the_lemmas tt, (simp the_lemmas (omega arith, tt), tt))
memory_ranged N32 memory base offset = (simp the_lemmas tt, (simp the_lemmas (omega arith, tt), tt))
memory_ranged N64 memory base offset = (simp the_lemmas tt, (simp the_lemmas (omega arith, tt), tt))

pub before_ranged : (dst : To) → AreRanged 0 0 (code_before dst)
before_ranged (ToLocals slots) = tt
before_ranged (ToMemory memory base offset) = get_ranged base

-- a number as what a local holds
pub kept_ranged : (n : Number) (t : ValType) (local : ℕ) → AreRanged 0 0 (widen n t ++ I.LocalSet local ∷ [])
kept_ranged n t local = ranged_append 0 0 (widen n t) (I.LocalSet local ∷ []) (widen_ranged n t) (set_ranged local)

pub behind_ranged : (n : Number) (dst : To) → AreRanged 0 0 (code_behind n dst)
behind_ranged n (ToLocals []) = tt
behind_ranged n (ToLocals (s ∷ ss)) = kept_ranged n s.1 s.0
behind_ranged N8 (ToMemory memory base offset) = (simp the_lemmas (omega arith, tt), tt)
behind_ranged N16 (ToMemory memory base offset) = (simp the_lemmas (omega arith, tt), tt)
behind_ranged N32 (ToMemory memory base offset) = (simp the_lemmas (omega arith, tt), tt)
behind_ranged N64 (ToMemory memory base offset) = (simp the_lemmas (omega arith, tt), tt)

pub canonical_ranged : (c : Canonical) → AreRanged 0 0 (canonical_code c)
canonical_ranged AsIs = tt
canonical_ranged Truth = ranged_none 0 0 (canonical_code Truth) (simp the_lemmas)
canonical_ranged Signed8 = ranged_none 0 0 (canonical_code Signed8) (simp the_lemmas)
canonical_ranged Signed16 = ranged_none 0 0 (canonical_code Signed16) (simp the_lemmas)
canonical_ranged (Low bits) = ranged_none 0 0 (canonical_code (Low bits)) (simp the_lemmas)

-- ---- cases

zero_ranged : (t : ValType) → AreRanged 0 0 (zero_const t ∷ [])
zero_ranged val.I32 = ranged_none 0 0 (zero_const val.I32 ∷ []) (simp the_lemmas)
zero_ranged val.I64 = ranged_none 0 0 (zero_const val.I64 ∷ []) (simp the_lemmas)
zero_ranged val.F32 = ranged_none 0 0 (zero_const val.F32 ∷ []) (simp the_lemmas)
zero_ranged val.F64 = ranged_none 0 0 (zero_const val.F64 ∷ []) (simp the_lemmas)
zero_ranged val.FuncRef = ranged_none 0 0 (zero_const val.FuncRef ∷ []) (simp the_lemmas)

slots_ranged : (ss : List Slot) → AreRanged 0 0 (zero_slots ss)
slots_ranged [] = tt
slots_ranged (s ∷ ss) = ranged_append 0 0 (zero_const s.1 ∷ []) (I.LocalSet s.0 ∷ zero_slots ss) (zero_ranged s.1) (ranged_append 0 0 (I.LocalSet s.0 ∷ []) (zero_slots ss) (set_ranged s.0) (slots_ranged ss))

pub zeros_ranged : (rest : To) → AreRanged 0 0 (zero_code rest)
zeros_ranged (ToLocals slots) = slots_ranged slots
zeros_ranged (ToMemory memory base offset) = tt

pub tag_ranged : (n : Number) (number : ℕ) (dst : To) → AreRanged 0 0 (discriminant_code n number dst)
tag_ranged n number dst =
    ranged_append 0 0 (code_before dst) (I.I32Const number ∷ code_behind n dst) (before_ranged dst)
    (ranged_append 0 0 (I.I32Const number ∷ []) (code_behind n dst) (ranged_none 0 0 (I.I32Const number ∷ []) (simp the_lemmas)) (behind_ranged n dst))

-- ---- pointers

pub widened_ranged : (memory64 : Bool) (address local : ℕ) → AreRanged 0 0 (widened_code memory64 address local)
widened_ranged memory64 address local = ranged_append 0 0 (I.LocalGet address ∷ []) (widen (pointer_of_width memory64) val.I64 ++ I.LocalSet local ∷ []) (get_ranged address) (kept_ranged (pointer_of_width memory64) val.I64 local)

pub constant_ranged : (n local : ℕ) → AreRanged 0 0 (I.I64Const n ∷ I.LocalSet local ∷ [])
constant_ranged n local = ranged_none 0 0 (I.I64Const n ∷ I.LocalSet local ∷ []) (simp the_lemmas)

pages_ranged : (place : ℕ) (memory64 : Bool) → AreRanged 0 0 (pages_code place memory64)
pages_ranged place true = ranged_none 0 0 (pages_code place true) (simp the_lemmas)
pages_ranged place false = ranged_none 0 0 (pages_code place false) (simp the_lemmas)

pub scaled_ranged : (factor : ℕ) → AreRanged 0 0 (scaled_code factor)
scaled_ranged factor = by_one (nat_eq factor 1)
  where
    by_one : (one : Bool) → AreRanged 0 0 (if one then [] else (I.I64Const factor ∷ I.I64Mul ∷ []))
    by_one true = tt
    by_one false = ranged_none 0 0 (I.I64Const factor ∷ I.I64Mul ∷ []) (simp the_lemmas)

pub length_ranged : (place : ℕ) (memory64 : Bool) (log2 : Option ℕ) → AreRanged 0 0 (length_code place memory64 log2)
length_ranged place memory64 log2 = ranged_append 0 0 (pages_code place memory64) _ (pages_ranged place memory64) (scaled_ranged _)

-- ---- tests

pub upper_ranged : (local : ℕ) → AreRanged 0 0 (upper_test local)
upper_ranged local = ranged_none 0 0 (upper_test local) (simp the_lemmas)

pub place_ranged : (memory64 : Bool) (base offset align : ℕ) → AreRanged 0 0 (place_test memory64 base offset align)
place_ranged true base offset align = ranged_none 0 0 (place_test true base offset align) (simp the_lemmas)
place_ranged false base offset align = ranged_none 0 0 (place_test false base offset align) (simp the_lemmas)

pub aligned_ranged : (local align : ℕ) → AreRanged 0 0 (aligned_code local align)
aligned_ranged local align = ranged_none 0 0 (aligned_code local align) (simp the_lemmas)

pub bounds_ranged : (start bytes length : ℕ) → AreRanged 0 0 (bounds_code start bytes length)
bounds_ranged start bytes length = ranged_none 0 0 (bounds_code start bytes length) (simp the_lemmas)

pub test_ranged : (t : NumberTest) (local : ℕ) → AreRanged 0 0 (code_of_test t local)
test_ranged ScalarValue local = ranged_none 0 0 (code_of_test ScalarValue local) (simp the_lemmas)
test_ranged (CaseBelow cases) local = ranged_none 0 0 (code_of_test (CaseBelow cases) local) (simp the_lemmas)

-- ---- a test with a trap behind it

trap_named : (place : ℕ) → imported_named (I.BrIf 0 ∷ trap_code place) ≡ place ∷ []
trap_named place = simp the_lemmas

trap_ranged : (place : ℕ) → AreRanged (suc place) 0 (I.BrIf 0 ∷ trap_code place)
trap_ranged place = (simp the_lemmas tt, (simp the_lemmas (omega arith, tt), (simp the_lemmas tt, tt)))

module _ (test : List Instr) (place : ℕ) (ranged : AreRanged 0 0 test) where
  pub guard_named : imported_named (I.Block Empty (test ++ I.BrIf 0 ∷ trap_code place) ∷ []) ≡ place ∷ []
  guard_named =
      ap (filter_map imported_place) (named_block Empty (test ++ I.BrIf 0 ∷ trap_code place) ∙ named_append test (I.BrIf 0 ∷ trap_code place) ∙ ap (λ ns. ns ++ functions_named (I.BrIf 0 ∷ trap_code place)) (names_none test ranged))
      ∙ trap_named place

  pub guard_ranged : AreRanged (suc place) 0 (I.Block Empty (test ++ I.BrIf 0 ∷ trap_code place) ∷ [])
  guard_ranged =
      ranged_block (suc place) 0 Empty (test ++ I.BrIf 0 ∷ trap_code place)
      (ranged_append (suc place) 0 test (I.BrIf 0 ∷ trap_code place) (ranged_more 0 (suc place) (omega arith) test ranged) (trap_ranged place))
