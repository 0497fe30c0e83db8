-- Valid types take bytes, and their layout counts their flat types.
use Rattle.std.proofs.Common.{◌≡◌, ℕ, zero, suc, ◌≤◌, List, [], ◌∷◌, length, Option, arith, All}
use Rattle.std.specs.Prelude.{IfSome}
use Rattle.fact_types.specs.declared.abi.CanonicalAbiInfo.{CanonicalAbiInfo}
use Rattle.fact_types.specs.declared.interface.InterfaceType.{InterfaceType}
use Rattle.fact_types.specs.declared.interface.InterfaceType.TheVariants.{Bool as t_bool, S8 as t_s8, U8 as t_u8, S16 as t_s16, U16 as t_u16, S64 as t_s64, U64 as t_u64, Float64 as t_float64, String as t_string}
use Rattle.fact_types.specs.FlatShapes.{IsCountedBy, IsCounted, AreCounted}
use Rattle.fact_types.specs.Layout.{payloads, pointer_pair_layout}
use Rattle.fact_types.specs.Sound.{IsSoundLayout, TakesBytes}
use Rattle.fact_types.specs.Shapes.{Kind, k_record, k_variant, k_list, k_tuple, k_map, k_flags, k_enum, k_option, k_result, k_fixed, k_future, k_stream, Shape, s_plain, s_node, Members, no_members, bare, typed, plain_layout, repeated_layout, layout_by, layout_of, layouts_of}
use Rattle.fact_types.specs.Valid.{AreEnough, IsRuled, AreRuled, IsValid}
use Rattle.fact_types.proofs.ShapeSound.{layouts_sound}
use Rattle.fact_types.proofs.SoundLaws.{payloads_all, record_takes_bytes, variant_takes_bytes, enum_takes_bytes, fixed_list_takes_bytes, flags_take_bytes, scalar_takes_bytes}

pair_takes_bytes : TakesBytes pointer_pair_layout
pair_takes_bytes = record { memory32 = omega arith; memory64 = omega arith }

plain_takes_bytes : (p : InterfaceType) → TakesBytes (plain_layout p)
plain_takes_bytes t_bool = scalar_takes_bytes 1 (omega arith)
plain_takes_bytes t_s8 = scalar_takes_bytes 1 (omega arith)
plain_takes_bytes t_u8 = scalar_takes_bytes 1 (omega arith)
plain_takes_bytes t_s16 = scalar_takes_bytes 2 (omega arith)
plain_takes_bytes t_u16 = scalar_takes_bytes 2 (omega arith)
plain_takes_bytes t_s64 = scalar_takes_bytes 8 (omega arith)
plain_takes_bytes t_u64 = scalar_takes_bytes 8 (omega arith)
plain_takes_bytes t_float64 = scalar_takes_bytes 8 (omega arith)
plain_takes_bytes t_string = pair_takes_bytes
plain_takes_bytes _ = scalar_takes_bytes 4 (omega arith)

repeated_takes_bytes : (count : ℕ) (cs : List CanonicalAbiInfo) → 1 ≤ count → length cs ≡ 1 → All TakesBytes cs → TakesBytes (repeated_layout count cs)
repeated_takes_bytes count [] h e a = absurd (omega (arith, e))
repeated_takes_bytes count (c ∷ cs) h e a = fixed_list_takes_bytes c count h (a 0 c (omega arith))

-- the first field of a record takes bytes
fields_take_bytes : (ls : List (Option CanonicalAbiInfo)) → All (λ l. IfSome l IsSoundLayout) ls → All (λ l. IfSome l TakesBytes) ls → 1 ≤ length (payloads ls) → TakesBytes (layout_by k_record ls)
fields_take_bytes ls sound takes h =
    record_takes_bytes (payloads ls) 0 pointer_pair_layout (payloads_all IsSoundLayout ls sound) (omega (arith, h)) (payloads_all TakesBytes ls takes 0 pointer_pair_layout (omega (arith, h)))

by_takes_bytes : (k : Kind) (ls : List (Option CanonicalAbiInfo)) → All (λ l. IfSome l IsSoundLayout) ls → All (λ l. IfSome l TakesBytes) ls
    → AreEnough k (length ls) (length (payloads ls)) → TakesBytes (layout_by k ls)
by_takes_bytes k_record ls sound takes h = fields_take_bytes ls sound takes h
by_takes_bytes k_tuple ls sound takes h = fields_take_bytes ls sound takes h
by_takes_bytes k_variant ls sound takes h = variant_takes_bytes ls
by_takes_bytes k_option ls sound takes h = variant_takes_bytes ls
by_takes_bytes k_result ls sound takes h = variant_takes_bytes ls
by_takes_bytes k_enum ls sound takes h = enum_takes_bytes (length ls)
by_takes_bytes k_flags ls sound takes h = flags_take_bytes (length ls) h.0
by_takes_bytes k_list ls sound takes h = pair_takes_bytes
by_takes_bytes k_map ls sound takes h = pair_takes_bytes
by_takes_bytes (k_fixed count) ls sound takes h = repeated_takes_bytes count (payloads ls) h.0 h.2 (payloads_all TakesBytes ls takes)
by_takes_bytes (k_future table instance) ls sound takes h = scalar_takes_bytes 4 (omega arith)
by_takes_bytes (k_stream table instance) ls sound takes h = scalar_takes_bytes 4 (omega arith)

mutual
  ruled_takes_bytes : (s : Shape) → IsRuled s → TakesBytes (layout_of s)
  ruled_takes_bytes (s_plain p) h = plain_takes_bytes p
  ruled_takes_bytes (s_node k ms) h = by_takes_bytes k (layouts_of ms) (layouts_sound ms) (ruled_take_bytes ms h.1) h.0.enough

  ruled_take_bytes : (ms : Members) → AreRuled ms → All (λ l. IfSome l TakesBytes) (layouts_of ms)
  ruled_take_bytes no_members r i d h = absurd (omega (arith, h))
  ruled_take_bytes (bare n ms) r zero d h = tt
  ruled_take_bytes (bare n ms) r (suc i) d h = ruled_take_bytes ms r i d (omega (arith, h))
  ruled_take_bytes (typed n s ms) r zero d h = ruled_takes_bytes s r.0
  ruled_take_bytes (typed n s ms) r (suc i) d h = ruled_take_bytes ms r.1 i d (omega (arith, h))

pub valid_takes_bytes : (s : Shape) → IsValid s → TakesBytes (layout_of s)
valid_takes_bytes s h = ruled_takes_bytes s h.ruled

enough_counted : (k : Kind) (m n : ℕ) → AreEnough k m n → IsCountedBy k m
enough_counted k_record m n h = tt
enough_counted k_tuple m n h = tt
enough_counted k_variant m n h = tt
enough_counted k_option m n h = tt
enough_counted k_result m n h = tt
enough_counted k_enum m n h = tt
enough_counted k_flags m n h = omega (arith, h.1)
enough_counted k_list m n h = tt
enough_counted k_map m n h = tt
enough_counted (k_fixed count) m n h = (h.1, h.0)
enough_counted (k_future table instance) m n h = tt
enough_counted (k_stream table instance) m n h = tt

mutual
  ruled_counted : (s : Shape) → IsRuled s → IsCounted s
  ruled_counted (s_plain p) h = tt
  ruled_counted (s_node k ms) h = (enough_counted k _ _ h.0.enough, are_ruled_counted ms h.1)

  are_ruled_counted : (ms : Members) → AreRuled ms → AreCounted ms
  are_ruled_counted no_members r = tt
  are_ruled_counted (bare n ms) r = are_ruled_counted ms r
  are_ruled_counted (typed n s ms) r = (ruled_counted s r.0, are_ruled_counted ms r.1)

-- the count in the layout of a valid type is the number of its flat types
pub valid_counted : (s : Shape) → IsValid s → IsCounted s
valid_counted s h = ruled_counted s h.ruled
