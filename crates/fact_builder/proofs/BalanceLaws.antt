-- A type has as many flat types in 32-bit memories as in 64-bit ones.
use Rattle.std.proofs.Common.{◌≡◌, ◌≤◌, ℕ, zero, suc, List, length, Option, Some, None, Bool, true, false, refl, sym, ◌∙◌, ap, arith, length-append}
use Rattle.std.specs.Prelude.{option_map, nat_le, cond}
use Rattle.fact_types.specs.declared.flats.FlatType.{FlatType}
use Rattle.fact_types.specs.declared.interface.InterfaceType.{InterfaceType}
use Rattle.fact_types.specs.declared.interface.InterfaceType.TheVariants.{String as t_string}
use Rattle.fact_types.specs.declared.extents.MemoryWidth.{MemoryWidth}
use Rattle.fact_types.specs.declared.extents.MemoryWidth.TheVariants.{Memory32, Memory64}
use Rattle.fact_types.specs.FlatShapes.{times, flat, flat_plain, flat_by, flat_members, flat_any, upto}
use Rattle.fact_types.specs.Shapes.{Kind, k_record, k_variant, k_tuple, k_option, k_result, k_fixed, Shape, s_plain, s_node, Members, no_members, bare, typed, layouts_of}
use Rattle.fact_types.specs.Tables.{Tables, IsLive, IsSound}
use Rattle.fact_builder.specs.declared.information.TypeInformation.{TypeInformation}
use Rattle.fact_builder.specs.Information.{known, AllKept}
use Rattle.fact_builder.proofs.FlatLaws.{joined_longest, within}
use Rattle.fact_builder.proofs.InformationLaws.{known_is}

times_length : {X : Type 0} (n : ℕ) (xs ys : List X) → length xs ≡ length ys → length (times n xs) ≡ length (times n ys)
times_length zero xs ys h = refl
times_length (suc n) xs ys h = omega (arith, h, times_length n xs ys h, length-append xs (times n xs), length-append ys (times n ys))

plain_length : (p : InterfaceType) → length (flat_plain Memory32 p) ≡ length (flat_plain Memory64 p)
plain_length t_string = refl
plain_length p = refl

by_length : (k : Kind) (n : ℕ) (all32 all64 any32 any64 : List FlatType) → length all32 ≡ length all64 → length any32 ≡ length any64 → length (flat_by Memory32 k n all32 any32) ≡ length (flat_by Memory64 k n all64 any64)
by_length k_record n a b c d h i = h
by_length k_tuple n a b c d h i = h
by_length (k_fixed count) n a b c d h i = times_length count a b h
by_length k_variant n a b c d h i = ap suc i
by_length k_option n a b c d h i = ap suc i
by_length k_result n a b c d h i = ap suc i
by_length k n a b c d h i = refl

mutual
  same_length : (s : Shape) → length (flat Memory32 s) ≡ length (flat Memory64 s)
  same_length (s_plain p) = plain_length p
  same_length (s_node k ms) = by_length k (length (layouts_of ms)) (flat_members Memory32 ms) (flat_members Memory64 ms) (flat_any Memory32 ms) (flat_any Memory64 ms) (same_members ms) (same_any ms)

  same_members : (ms : Members) → length (flat_members Memory32 ms) ≡ length (flat_members Memory64 ms)
  same_members no_members = refl
  same_members (bare n ms) = same_members ms
  same_members (typed n s ms) = omega (arith, same_length s, same_members ms, length-append (flat Memory32 s) (flat_members Memory32 ms), length-append (flat Memory64 s) (flat_members Memory64 ms))

  same_any : (ms : Members) → length (flat_any Memory32 ms) ≡ length (flat_any Memory64 ms)
  same_any no_members = refl
  same_any (bare n ms) = same_any ms
  same_any (typed n s ms) = omega (arith, same_length s, same_any ms, joined_longest (flat Memory32 s) (flat_any Memory32 ms), joined_longest (flat Memory64 s) (flat_any Memory64 ms))

plain_short : (w : MemoryWidth) (p : InterfaceType) → length (flat_plain w p) ≤ 16
plain_short w t_string = omega arith
plain_short w p = omega arith

pub plain_few : (w : MemoryWidth) (p : InterfaceType) → upto 16 (flat_plain w p) ≡ Some (flat_plain w p)
plain_few w p = within (flat_plain w p) (plain_short w p)

-- the length of what is no longer than 16
length_upto : {X : Type 0} (xs : List X) → option_map length (upto 16 xs) ≡ cond (nat_le (length xs) 16) (Some (length xs)) None
length_upto xs = chosen (nat_le (length xs) 16)
  where
    chosen : (b : Bool) → option_map length (cond b (Some xs) None) ≡ cond b (Some (length xs)) None
    chosen true = refl
    chosen false = refl

upto_length : {X : Type 0} (xs ys : List X) → length xs ≡ length ys → option_map length (upto 16 xs) ≡ option_map length (upto 16 ys)
upto_length xs ys h = length_upto xs ∙ (λ i. cond (nat_le (h i) 16) (Some (h i)) None) ∙ sym (length_upto ys)

pub balanced : (t : Tables) (kept : InterfaceType → Option TypeInformation) → AllKept t kept → IsSound t → (ty : InterfaceType) → IsLive t ty → option_map length (known kept ty).flat32 ≡ option_map length (known kept ty).flat64
balanced t kept a k ty l =
    let (s, h, b) = k.shaped ty l in
    let is = known_is t kept a s ty h in
    ap (λ x. option_map length x.flat32) is ∙ upto_length (flat Memory32 s) (flat Memory64 s) (same_length s) ∙ sym (ap (λ x. option_map length x.flat64) is)
