-- The numbers of flags and of cases, and types without members.
use Rattle.std.specs.Prelude.{◌≡◌, ℕ, nat_le, Bool, true, false, if◌then◌else◌}
use Rattle.fact_types.specs.declared.interface.InterfaceType.{InterfaceType}
use Rattle.fact_types.specs.declared.sizes.DiscriminantSize.{DiscriminantSize}
use Rattle.fact_types.specs.declared.sizes.DiscriminantSize.TheVariants.{Size1, Size2, Size4}
use Rattle.fact_types.specs.Shapes.{k_flags, k_enum, k_future, k_stream, Shape, s_plain, s_node}
use Rattle.fact_types.specs.Tables.{Tables, HasShape}
use Rattle.fact_code_laws.specs.Places.{Number, N8, N16, N32}

abbrev pub flags_number_of : (names : ℕ) → Number
flags_number_of names = if nat_le names 8 then N8 else (if nat_le names 16 then N16 else N32)

abbrev pub discriminant_number_of : DiscriminantSize → Number
discriminant_number_of Size1 = N8
discriminant_number_of Size2 = N16
discriminant_number_of Size4 = N32

-- ---- values without members

abbrev pub is_leaf : Shape → Bool
is_leaf (s_plain p) = true
is_leaf (s_node k_flags ms) = true
is_leaf (s_node k_enum ms) = true
is_leaf (s_node (k_future t i) ms) = true
is_leaf (s_node (k_stream t i) ms) = true
is_leaf (s_node _ ms) = false

-- values of a type have no members
abbrev pub AreLeaves : Tables → InterfaceType → Type 0
AreLeaves t y = (s : Shape) → HasShape t y s → is_leaf s ≡ true
