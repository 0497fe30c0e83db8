-- Valid types: those that break no rule for the types of a plan, with all types in them. A valid type takes at least one
-- byte in either memory.
use Rattle.std.specs.Prelude.{◌≡◌, ℕ, ◌+◌, ◌≤◌, ◌<◌, max, List, length, Some, slice_get}
use Rattle.fact_types.specs.declared.abi.CanonicalAbiInfo.{CanonicalAbiInfo}
use Rattle.fact_types.specs.declared.interface.InterfaceType.{InterfaceType}
use Rattle.fact_types.specs.declared.interface.InterfaceType.TheVariants.{Own as t_own, Borrow as t_borrow}
use Rattle.fact_types.specs.Agrees.{names_of}
use Rattle.fact_types.specs.Layout.{payloads, record_layout}
use Rattle.fact_types.specs.Shapes.{Kind, k_record, k_variant, k_tuple, k_map, k_flags, k_enum, k_fixed, Shape, s_plain, s_node, Members, no_members, bare, typed, layout_of, layouts_of, IsWithin}

-- So many members, of which so many have a type: records, tuples, variants, flags and enums have some; variants have at
-- most 4,096 cases, flags at most 32 names; lists of fixed length have elements, of one type.
abbrev pub AreEnough : Kind → (members types : ℕ) → Type 0
AreEnough k_record m n = 1 ≤ n
AreEnough k_tuple m n = 1 ≤ n
AreEnough k_variant m n = (1 ≤ m) × (m ≤ 4096)
AreEnough k_flags m n = (1 ≤ m) × (m ≤ 32)
AreEnough k_enum m n = 1 ≤ m
AreEnough (k_fixed count) m n = (1 ≤ count) × (m ≡ 1) × (n ≡ 1)
AreEnough _ m n = Unit {0}

abbrev pub AreDistinct : List (List ℕ) → Type 0
AreDistinct names = (i j : ℕ) (x : List ℕ) → slice_get names i ≡ Some x → slice_get names j ≡ Some x → i ≡ j

-- An entry of a map, a tuple of key and value, is within bounds.
abbrev pub IsEntryWithin : Kind → List CanonicalAbiInfo → Type 0
IsEntryWithin k_map ls = IsWithin (record_layout ls)
IsEntryWithin _ ls = Unit {0}

-- The rules for a type that has members.
pub record FollowsRules (k : Kind) (ms : Members) : Type 0 where
  pub enough : AreEnough k (length (layouts_of ms)) (length (payloads (layouts_of ms)))
  pub distinct : AreDistinct (names_of ms)
  pub few : length (layouts_of ms) ≤ 268435456
  pub within : IsWithin (layout_of (s_node k ms))
  pub entry_within : IsEntryWithin k (payloads (layouts_of ms))

-- The table of an own or a borrow is among the first 268,435,456.
abbrev pub IsPlainValid : InterfaceType → Type 0
IsPlainValid (t_own i) = i.number < 268435456
IsPlainValid (t_borrow i) = i.number < 268435456
IsPlainValid _ = Unit {0}

abbrev mutual
  pub IsRuled : Shape → Type 0
  IsRuled (s_plain p) = IsPlainValid p
  IsRuled (s_node k ms) = FollowsRules k ms × AreRuled ms

  pub AreRuled : Members → Type 0
  AreRuled no_members = Unit {0}
  AreRuled (bare n ms) = AreRuled ms
  AreRuled (typed n s ms) = IsRuled s × AreRuled ms

-- How deep types nest, as the rules count it: a plain type 1, another one 1 more than its deepest member. (`depth` counts the
-- entries of tables within one another, `height` the same by the tables alone, for recursions.)
abbrev mutual
  pub nesting : Shape → ℕ
  nesting (s_plain p) = 1
  nesting (s_node k ms) = 1 + deepest_nesting ms

  pub deepest_nesting : Members → ℕ
  deepest_nesting no_members = 0
  deepest_nesting (bare n ms) = deepest_nesting ms
  deepest_nesting (typed n s ms) = max (nesting s) (deepest_nesting ms)

pub record IsValid (s : Shape) : Type 0 where
  pub ruled : IsRuled s
  pub nested : nesting s ≤ 100
