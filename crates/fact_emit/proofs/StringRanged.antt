-- The code of strings is in range, and names no function but realloc, transcoders and those of traps.
use Rattle.std.proofs.Common.{◌≡◌, ℕ, ◌<◌, refl, Bool, true, false, List, [], ◌∷◌, ◌++◌, Option, Some, None, arith}
use Rattle.fact_wasm.specs.declared.instr.FuncName.TheVariants as func
use Rattle.fact_wasm.specs.declared.instr.Instr.{Instr, the_lemmas}
use Rattle.fact_wasm.specs.declared.instr.Instr.TheVariants as I
use Rattle.fact_wasm.specs.declared.types.ValType.TheVariants as val
use Rattle.fact_wasm.specs.Ranges.{AreRanged}
use Rattle.fact_types.specs.declared.outside.Transcode.{Transcode}
use Rattle.fact_values.specs.Texts.{unit_bytes, utf16_tag}
use Rattle.fact_actions.specs.Paths.{Amount, SourceUnits, WrittenUnits, Test, AllRead, WrittenIs, HasNoTag, KeepsUnits}
use Rattle.fact_actions.specs.Transcoders.{TranscodeKind, AllUnits, Counted, Fitting, Narrow, Tagged, Widening, from_encoding}
use Rattle.fact_code_laws.specs.Code.{scaled_code}
use Rattle.fact_code_laws.specs.Lists.{address_code, const_code, put_code}
use Rattle.fact_code_laws.specs.Places.{To, code_behind, code_before}
use Rattle.fact_code_laws.specs.StringCode.{StringMove, add_to_code, amount_code, answer_code, from_address, keep_code, limit_code, no_tag_code, regrow_code, source_code, target_code, test_code, times_code, to_address, untag_code, wrap_code}
use Rattle.fact_code_laws.specs.Tests.{pointer_of_width}
use Rattle.fact_emit.specs.Pairs.{length_to, put_pair_code}
use Rattle.fact_emit.proofs.NamedLaws.{ranged_append, ranged_more, ranged_none}
use Rattle.fact_emit.proofs.RangedCode.{before_ranged, behind_ranged, get_ranged, kept_ranged, narrow_ranged, scaled_ranged, set_ranged, unreachable_ranged, widen_ranged}
use Rattle.fact_emit.proofs.RequestRanged.{address_ranged, const_ranged}

-- ---- single instructions in front of others

get_then : (local : ℕ) (code : List Instr) → AreRanged 0 0 code → AreRanged 0 0 (I.LocalGet local ∷ code)
get_then local code h = ranged_append 0 0 (I.LocalGet local ∷ []) code (get_ranged local) h

add_then : (code : List Instr) → AreRanged 0 0 code → AreRanged 0 0 (I.I64Add ∷ code)
add_then code h = ranged_append 0 0 (I.I64Add ∷ []) code (ranged_none 0 0 (I.I64Add ∷ []) (simp the_lemmas)) h

sub_then : (code : List Instr) → AreRanged 0 0 code → AreRanged 0 0 (I.I64Sub ∷ code)
sub_then code h = ranged_append 0 0 (I.I64Sub ∷ []) code (ranged_none 0 0 (I.I64Sub ∷ []) (simp the_lemmas)) h

-- ---- numbers

wrap_ranged : (memory64 : Bool) → AreRanged 0 0 (wrap_code memory64)
wrap_ranged true = tt
wrap_ranged false = ranged_none 0 0 (wrap_code false) (simp the_lemmas)

to_address_ranged : (memory64 : Bool) → AreRanged 0 0 (to_address memory64)
to_address_ranged memory64 = narrow_ranged (pointer_of_width memory64) val.I64

pub from_address_ranged : (memory64 : Bool) → AreRanged 0 0 (from_address memory64)
from_address_ranged memory64 = widen_ranged (pointer_of_width memory64) val.I64

pub times_ranged : (memory64 : Bool) (factor local : ℕ) → AreRanged 0 0 (times_code memory64 factor local)
times_ranged memory64 factor local =
    get_then local (scaled_code factor ++ wrap_code memory64) (ranged_append 0 0 (scaled_code factor) (wrap_code memory64) (scaled_ranged factor) (wrap_ranged memory64))

pub amount_ranged : (x : Amount) (m : StringMove) → AreRanged 0 0 (amount_code m x)
amount_ranged (SourceUnits factor) m = times_ranged m.to64 factor m.temporaries.units
amount_ranged (WrittenUnits factor) m = times_ranged m.to64 factor m.temporaries.written

keep_ranged : (memory64 : Bool) (local : ℕ) → AreRanged 0 0 (keep_code memory64 local)
keep_ranged memory64 local = kept_ranged (pointer_of_width memory64) val.I64 local

add_to_ranged : (memory64 : Bool) (local : ℕ) → AreRanged 0 0 (add_to_code memory64 local)
add_to_ranged memory64 local =
    let last : List Instr = wrap_code memory64 ++ I.LocalSet local ∷ [] in
    ranged_append 0 0 (from_address memory64) (I.LocalGet local ∷ I.I64Add ∷ last) (from_address_ranged memory64)
    (get_then local (I.I64Add ∷ last) (add_then last (ranged_append 0 0 (wrap_code memory64) (I.LocalSet local ∷ []) (wrap_ranged memory64) (set_ranged local))))

-- ---- tests

pub no_tag_ranged : (local : ℕ) → AreRanged 0 0 (no_tag_code local)
no_tag_ranged local = ranged_none 0 0 (no_tag_code local) (simp the_lemmas)

pub test_ranged : (t : Test) (m : StringMove) → AreRanged 0 0 (test_code m t)
test_ranged AllRead m = ranged_none 0 0 (test_code m AllRead) (simp the_lemmas)
test_ranged (WrittenIs factor) m =
    let times : List Instr = times_code m.to64 factor m.temporaries.units in
    get_then m.temporaries.written (times ++ I.I64Eq ∷ []) (ranged_append 0 0 times (I.I64Eq ∷ []) (times_ranged m.to64 factor m.temporaries.units) (ranged_none 0 0 (I.I64Eq ∷ []) (simp the_lemmas)))
test_ranged HasNoTag m = no_tag_ranged m.temporaries.written
test_ranged KeepsUnits m = ranged_none 0 0 (test_code m KeepsUnits) (simp the_lemmas)

pub limit_ranged : (units factor : ℕ) → AreRanged 0 0 (limit_code units factor)
limit_ranged units factor = ranged_none 0 0 (limit_code units factor) (simp the_lemmas)

-- ---- realloc

regrow_in : (imports place : ℕ) (memory64 : Bool) (region before align bytes : ℕ) → place < imports → AreRanged imports 0 (regrow_code (Some place) memory64 region before align bytes)
regrow_in imports place memory64 region before align bytes lt =
    let more = λ (code : List Instr) (h : AreRanged 0 0 code). ranged_more 0 imports (omega arith) code h in
    let call : List Instr = I.Call (func.Import place) ∷ [] in
    let last : List Instr = address_code memory64 bytes ++ call in
    ranged_append imports 0 (address_code memory64 region) (address_code memory64 before ++ (const_code memory64 align ∷ last)) (more (address_code memory64 region) (address_ranged memory64 region))
    (ranged_append imports 0 (address_code memory64 before) (const_code memory64 align ∷ last) (more (address_code memory64 before) (address_ranged memory64 before))
    (ranged_append imports 0 (const_code memory64 align ∷ []) last (more (const_code memory64 align ∷ []) (const_ranged memory64 align))
    (ranged_append imports 0 (address_code memory64 bytes) call (more (address_code memory64 bytes) (address_ranged memory64 bytes)) (simp the_lemmas (lt, tt), tt))))

pub regrow_ranged : (imports : ℕ) (realloc : Option ℕ) (memory64 : Bool) (region before align bytes : ℕ) → ((place : ℕ) → realloc ≡ Some place → place < imports) → AreRanged imports 0 (regrow_code realloc memory64 region before align bytes)
regrow_ranged imports None memory64 region before align bytes h = ranged_more 0 imports (omega arith) (I.Unreachable ∷ []) unreachable_ranged
regrow_ranged imports (Some place) memory64 region before align bytes h = regrow_in imports place memory64 region before align bytes (h place refl)

-- ---- calls of transcoders

pub source_ranged : (o : Transcode) (rest : Bool) (m : StringMove) → AreRanged 0 0 (source_code m o rest)
source_ranged o false m = ranged_append 0 0 (address_code m.from64 m.temporaries.source) (address_code m.from64 m.temporaries.units) (address_ranged m.from64 m.temporaries.source) (address_ranged m.from64 m.temporaries.units)
source_ranged o true m =
    let to_from : List Instr = to_address m.from64 in
    let times : List Instr = times_code m.from64 (unit_bytes (from_encoding o)) m.temporaries.read in
    let left : List Instr = I.LocalGet m.temporaries.units ∷ I.LocalGet m.temporaries.read ∷ I.I64Sub ∷ to_from in
    get_then m.temporaries.source (times ++ (I.I64Add ∷ (to_from ++ left)))
    (ranged_append 0 0 times (I.I64Add ∷ (to_from ++ left)) (times_ranged m.from64 (unit_bytes (from_encoding o)) m.temporaries.read)
    (add_then (to_from ++ left) (ranged_append 0 0 to_from left (to_address_ranged m.from64)
    (get_then m.temporaries.units (I.LocalGet m.temporaries.read ∷ I.I64Sub ∷ to_from) (get_then m.temporaries.read (I.I64Sub ∷ to_from) (sub_then to_from (to_address_ranged m.from64)))))))

module _ (m : StringMove) (room : ℕ) where
  -- an amount as an address, and more behind it
  room_then : (code : List Instr) → AreRanged 0 0 code → AreRanged 0 0 (amount_code m (SourceUnits room) ++ (to_address m.to64 ++ code))
  room_then code h =
      ranged_append 0 0 (amount_code m (SourceUnits room)) (to_address m.to64 ++ code) (amount_ranged (SourceUnits room) m) (ranged_append 0 0 (to_address m.to64) code (to_address_ranged m.to64) h)

  region_then : (code : List Instr) → AreRanged 0 0 code → AreRanged 0 0 (address_code m.to64 m.temporaries.region ++ code)
  region_then code h = ranged_append 0 0 (address_code m.to64 m.temporaries.region) code (address_ranged m.to64 m.temporaries.region) h

  next_ranged : AreRanged 0 0 (target_code m Fitting true room)
  next_ranged =
      let to_to : List Instr = to_address m.to64 in
      let flag : List Instr = I.I32Const 0 ∷ [] in
      let amount : List Instr = amount_code m (SourceUnits room) in
      let left : List Instr = I.LocalGet m.temporaries.written ∷ I.I64Sub ∷ (to_to ++ flag) in
      get_then m.temporaries.region (I.LocalGet m.temporaries.written ∷ I.I64Add ∷ (to_to ++ (amount ++ left)))
      (get_then m.temporaries.written (I.I64Add ∷ (to_to ++ (amount ++ left))) (add_then (to_to ++ (amount ++ left)) (ranged_append 0 0 to_to (amount ++ left) (to_address_ranged m.to64)
      (ranged_append 0 0 amount left (amount_ranged (SourceUnits room) m)
      (get_then m.temporaries.written (I.I64Sub ∷ (to_to ++ flag)) (sub_then (to_to ++ flag) (ranged_append 0 0 to_to flag (to_address_ranged m.to64) (ranged_none 0 0 flag (simp the_lemmas)))))))))

  first_ranged : AreRanged 0 0 (target_code m Fitting false room)
  first_ranged =
      let flag : List Instr = I.I32Const 1 ∷ [] in
      region_then (amount_code m (SourceUnits room) ++ (to_address m.to64 ++ flag)) (room_then flag (ranged_none 0 0 flag (simp the_lemmas)))

  wide_ranged : AreRanged 0 0 (target_code m Widening false room)
  wide_ranged =
      let there : List Instr = address_code m.to64 m.temporaries.written in
      region_then (amount_code m (SourceUnits room) ++ (to_address m.to64 ++ there)) (room_then there (address_ranged m.to64 m.temporaries.written))

  pub target_ranged : (k : TranscodeKind) (rest : Bool) → AreRanged 0 0 (target_code m k rest room)
  target_ranged Fitting true = next_ranged
  target_ranged Fitting false = first_ranged
  target_ranged Widening rest = wide_ranged
  target_ranged AllUnits rest = address_ranged m.to64 m.temporaries.region
  target_ranged Counted rest = address_ranged m.to64 m.temporaries.region
  target_ranged Narrow rest = address_ranged m.to64 m.temporaries.region
  target_ranged Tagged rest = address_ranged m.to64 m.temporaries.region

module _ (m : StringMove) where
  kept_both : AreRanged 0 0 (keep_code m.to64 m.temporaries.written ++ keep_code m.from64 m.temporaries.read)
  kept_both = ranged_append 0 0 (keep_code m.to64 m.temporaries.written) (keep_code m.from64 m.temporaries.read) (keep_ranged m.to64 m.temporaries.written) (keep_ranged m.from64 m.temporaries.read)

  pub answer_ranged : (k : TranscodeKind) (rest : Bool) → AreRanged 0 0 (answer_code m k rest)
  answer_ranged AllUnits rest = get_then m.temporaries.units (I.LocalSet m.temporaries.written ∷ []) (set_ranged m.temporaries.written)
  answer_ranged Fitting true = ranged_append 0 0 (add_to_code m.to64 m.temporaries.written) (add_to_code m.from64 m.temporaries.read) (add_to_ranged m.to64 m.temporaries.written) (add_to_ranged m.from64 m.temporaries.read)
  answer_ranged Fitting false = kept_both
  answer_ranged Narrow rest = kept_both
  answer_ranged Counted rest = keep_ranged m.to64 m.temporaries.written
  answer_ranged Tagged rest = keep_ranged m.to64 m.temporaries.written
  answer_ranged Widening rest = keep_ranged m.to64 m.temporaries.written

-- ---- tags, zeros, and what is written

pub tag_ranged : (local : ℕ) → AreRanged 0 0 (I.LocalGet local ∷ I.I64Const utf16_tag ∷ I.I64Or ∷ I.LocalSet local ∷ [])
tag_ranged local = ranged_none 0 0 (I.LocalGet local ∷ I.I64Const utf16_tag ∷ I.I64Or ∷ I.LocalSet local ∷ []) (simp the_lemmas)

pub untag_ranged : (units : ℕ) → AreRanged 0 0 (untag_code units)
untag_ranged units = ranged_none 0 0 (untag_code units) (simp the_lemmas)

pub zero_ranged : (local : ℕ) → AreRanged 0 0 (I.I64Const 0 ∷ I.LocalSet local ∷ [])
zero_ranged local = ranged_none 0 0 (I.I64Const 0 ∷ I.LocalSet local ∷ []) (simp the_lemmas)

put_ranged : (memory64 : Bool) (local : ℕ) (dst : To) → AreRanged 0 0 (put_code memory64 local dst)
put_ranged memory64 local dst =
    ranged_append 0 0 (code_before dst) (address_code memory64 local ++ code_behind (pointer_of_width memory64) dst) (before_ranged dst)
    (ranged_append 0 0 (address_code memory64 local) (code_behind (pointer_of_width memory64) dst) (address_ranged memory64 local) (behind_ranged (pointer_of_width memory64) dst))

pub put_pair_ranged : (memory64 : Bool) (start units : ℕ) (dst : To) → AreRanged 0 0 (put_pair_code memory64 start units dst)
put_pair_ranged memory64 start units dst = ranged_append 0 0 (put_code memory64 start dst) (put_code memory64 units (length_to memory64 dst)) (put_ranged memory64 start dst) (put_ranged memory64 units (length_to memory64 dst))
