-- The layout of a shape is sound: places are multiples of a power of two, and so is the number of bytes.
use Rattle.std.proofs.Common.{ℕ, zero, suc, List, [], ◌∷◌, length, Option, refl, arith, All}
use Rattle.std.specs.Prelude.{IfSome}
use Rattle.fact_types.specs.declared.abi.CanonicalAbiInfo.{CanonicalAbiInfo}
use Rattle.fact_types.specs.declared.interface.InterfaceType.{InterfaceType}
use Rattle.fact_types.specs.declared.interface.InterfaceType.TheVariants.{Bool as t_bool, S8 as t_s8, U8 as t_u8, S16 as t_s16, U16 as t_u16, S64 as t_s64, U64 as t_u64, Float64 as t_float64, String as t_string}
use Rattle.fact_types.specs.Layout.{payloads}
use Rattle.fact_types.specs.Sound.{IsSoundLayout}
use Rattle.fact_types.specs.Shapes.{Kind, k_record, k_variant, k_list, k_tuple, k_map, k_flags, k_enum, k_option, k_result, k_fixed, k_future, k_stream, Shape, s_plain, s_node, Members, no_members, bare, typed, plain_layout, repeated_layout, layout_by, layout_of, layouts_of}
use Rattle.fact_types.proofs.SoundLaws.{payloads_all, record_sound, variant_sound, enum_sound, fixed_list_sound, flags_sound, zero_sound, pointer_pair_sound, scalar_sound}

pub plain_sound : (p : InterfaceType) → IsSoundLayout (plain_layout p)
plain_sound t_bool = scalar_sound 1 (0, refl)
plain_sound t_s8 = scalar_sound 1 (0, refl)
plain_sound t_u8 = scalar_sound 1 (0, refl)
plain_sound t_s16 = scalar_sound 2 (1, refl)
plain_sound t_u16 = scalar_sound 2 (1, refl)
plain_sound t_s64 = scalar_sound 8 (3, refl)
plain_sound t_u64 = scalar_sound 8 (3, refl)
plain_sound t_float64 = scalar_sound 8 (3, refl)
plain_sound t_string = pointer_pair_sound
plain_sound _ = scalar_sound 4 (2, refl)

repeated_sound : (n : ℕ) (cs : List CanonicalAbiInfo) → All IsSoundLayout cs → IsSoundLayout (repeated_layout n cs)
repeated_sound n [] a = zero_sound
repeated_sound n (c ∷ cs) a = fixed_list_sound c n (a 0 c (omega arith))

by_sound : (k : Kind) (ls : List (Option CanonicalAbiInfo)) → All (λ l. IfSome l IsSoundLayout) ls → IsSoundLayout (layout_by k ls)
by_sound k_record ls a = record_sound (payloads ls) (payloads_all IsSoundLayout ls a)
by_sound k_tuple ls a = record_sound (payloads ls) (payloads_all IsSoundLayout ls a)
by_sound k_variant ls a = variant_sound ls a
by_sound k_option ls a = variant_sound ls a
by_sound k_result ls a = variant_sound ls a
by_sound k_enum ls a = enum_sound (length ls)
by_sound k_flags ls a = flags_sound (length ls)
by_sound k_list ls a = pointer_pair_sound
by_sound k_map ls a = pointer_pair_sound
by_sound (k_fixed n) ls a = repeated_sound n (payloads ls) (payloads_all IsSoundLayout ls a)
by_sound (k_future table instance) ls a = scalar_sound 4 (2, refl)
by_sound (k_stream table instance) ls a = scalar_sound 4 (2, refl)

mutual
  pub layout_sound : (s : Shape) → IsSoundLayout (layout_of s)
  layout_sound (s_plain p) = plain_sound p
  layout_sound (s_node k ms) = by_sound k (layouts_of ms) (layouts_sound ms)

  pub layouts_sound : (ms : Members) → All (λ l. IfSome l IsSoundLayout) (layouts_of ms)
  layouts_sound no_members i d h = absurd (omega (arith, h))
  layouts_sound (bare n ms) zero d h = tt
  layouts_sound (bare n ms) (suc i) d h = layouts_sound ms i d (omega (arith, h))
  layouts_sound (typed n s ms) zero d h = layout_sound s
  layouts_sound (typed n s ms) (suc i) d h = layouts_sound ms i d (omega (arith, h))
