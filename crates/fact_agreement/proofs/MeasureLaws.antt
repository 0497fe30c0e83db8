-- How high the members of a type go: the measure of the comparison.
use Rattle.std.proofs.Common.{◌≡◌, ◌≤◌, ℕ, zero, suc, List, [], ◌∷◌, max, Option, Some, None, refl, ap, arith}
use Rattle.std.specs.Prelude.{slice_get}
use Rattle.fact_types.specs.declared.interface.InterfaceType.{InterfaceType}
use Rattle.fact_types.specs.Heights.{height}
use Rattle.fact_types.specs.Tables.{Tables, Node, node_of, IsLive, IsSound}
use Rattle.fact_types.proofs.HeightLaws.{member_lower}
use Rattle.fact_types.proofs.ShapeLaws.{same_some, none_some}
use Rattle.fact_agreement.specs.Left.{over, above}

left_most : (a b : ℕ) → a ≤ max a b
left_most a b = grind arith

more_most : (a b c : ℕ) → c ≤ b → c ≤ max a b
more_most a b c h = grind (arith, h)

both_most : (a b c : ℕ) → a ≤ c → b ≤ c → max a b ≤ c
both_most a b c h k = grind (arith, h, k)

pub over_member : (t : Tables) (xs : List (List ℕ × Option InterfaceType)) (i : ℕ) (x : List ℕ × Option InterfaceType) → slice_get xs i ≡ Some x → over t x.1 ≤ above t xs
over_member t [] i x e = absurd (none_some None x refl e)
over_member t (y ∷ ys) zero x e = let same : over t y.1 ≡ over t x.1 = ap (λ z. over t z.1) (same_some (Some y) y x refl e) in omega (arith, left_most (over t y.1) (above t ys))
over_member t (y ∷ ys) (suc i) x e = more_most (over t y.1) (above t ys) (over t x.1) (over_member t ys i x e)

all_below : (t : Tables) (xs : List (List ℕ × Option InterfaceType)) (h : ℕ) → ((i : ℕ) (x : List ℕ × Option InterfaceType) → slice_get xs i ≡ Some x → over t x.1 ≤ h) → above t xs ≤ h
all_below t [] h k = omega arith
all_below t (x ∷ xs) h k = both_most (over t x.1) (above t xs) h (k 0 x refl) (all_below t xs h (λ i y e. k (suc i) y e))

over_lower : (t : Tables) → IsSound t → (ty : InterfaceType) (n : Node) → IsLive t ty → node_of t ty ≡ Some n → (i : ℕ) (x : List ℕ) (o : Option InterfaceType) → slice_get n.members i ≡ Some (x, o) → over t o ≤ height t ty
over_lower t k ty n l e i x None g = omega arith
over_lower t k ty n l e i x (Some m) g = omega (arith, member_lower t k ty n l e i x m g)

-- the members of a type go no higher than the type
pub above_node : (t : Tables) → IsSound t → (ty : InterfaceType) (n : Node) → IsLive t ty → node_of t ty ≡ Some n → above t n.members ≤ height t ty
above_node t k ty n l e = all_below t n.members (height t ty) (λ i x g. over_lower t k ty n l e i x.0 x.1 g)

-- the first of members, and the others
pub first_lower : (t : Tables) (x : List ℕ × Option InterfaceType) (xs : List (List ℕ × Option InterfaceType)) (n : ℕ) → above t (x ∷ xs) ≤ n → over t x.1 ≤ n
first_lower t x xs n h = omega (arith, left_most (over t x.1) (above t xs), h)

pub rest_lower : (t : Tables) (x : List ℕ × Option InterfaceType) (xs : List (List ℕ × Option InterfaceType)) (n : ℕ) → above t (x ∷ xs) ≤ n → above t xs ≤ n
rest_lower t x xs n h = let more = more_most (over t x.1) (above t xs) (above t xs) (omega arith) in omega (arith, more, h)
