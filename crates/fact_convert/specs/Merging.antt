-- Repeated names: a name keeps its first place and takes the last value.
use Rattle.std.specs.Prelude.{ℕ, List, [], Bool, ◌&&◌, nat_eq}
use Rattle.std.specs.Cmp.Lexicographic.{pointwise}
use Rattle.indexmap.specs.IndexMap as entry
use Rattle.indexmap.specs.IndexSet as key

abbrev pub merged : {V : Type 0} → List (List ℕ × V) → List (List ℕ × V)
merged xs = entry.insert_all (pointwise nat_eq) [] xs

-- The imports of a core module are told apart by both their names.
abbrev pub same_pair : List ℕ × List ℕ → List ℕ × List ℕ → Bool
same_pair a b = pointwise nat_eq a.0 b.0 && pointwise nat_eq a.1 b.1

abbrev pub merged_pairs : {V : Type 0} → List ((List ℕ × List ℕ) × V) → List ((List ℕ × List ℕ) × V)
merged_pairs xs = entry.insert_all same_pair [] xs

abbrev pub merged_names : List (List ℕ) → List (List ℕ)
merged_names names = key.insert_all (pointwise nat_eq) [] names
