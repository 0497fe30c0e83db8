-- When variants, flags and enums are equal: where their lists are, in order, and all else is.
use Rattle.std.specs.Prelude.{ℕ, List, Option, Bool, ◌&&◌, nat_eq}
use Rattle.std.specs.Option.{option_eq}
use Rattle.std.specs.Cmp.Lexicographic.{pointwise}
use Rattle.fact_types.specs.declared.interface.InterfaceType.{InterfaceType}
use Rattle.fact_types.specs.Ordered.{VariantType, FlagsType, EnumType}
use Rattle.fact_types.specs.contracts.interface.InterfaceTypePartialEq.TheImpl as type_eq
use Rattle.fact_types.specs.contracts.variants.VariantInfoPartialEq.TheImpl as info_eq
use Rattle.fact_types.specs.contracts.abi.CanonicalAbiInfoPartialEq.TheImpl as abi_eq

-- Names and payloads of two cases.
abbrev pub case_eq : (List ℕ × Option InterfaceType) → (List ℕ × Option InterfaceType) → Bool
case_eq p q = pointwise nat_eq p.0 q.0 && option_eq type_eq.ghosts.eq p.1 q.1

abbrev pub texts_eq : List (List ℕ) → List (List ℕ) → Bool
texts_eq = pointwise (pointwise nat_eq)

abbrev pub variant_eq : VariantType → VariantType → Bool
variant_eq a b = pointwise case_eq a.cases b.cases && (abi_eq.ghosts.eq a.abi b.abi && info_eq.ghosts.eq a.info b.info)

abbrev pub flags_eq : FlagsType → FlagsType → Bool
flags_eq a b = texts_eq a.names b.names && abi_eq.ghosts.eq a.abi b.abi

abbrev pub enum_eq : EnumType → EnumType → Bool
enum_eq a b = texts_eq a.names b.names && (abi_eq.ghosts.eq a.abi b.abi && info_eq.ghosts.eq a.info b.info)
