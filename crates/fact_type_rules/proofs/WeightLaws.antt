-- How many types stand in a type, itself too and each as often as it stands there: the measure of the walk.
use Rattle.std.proofs.Common.{◌≡◌, ◌≤◌, ◌+◌, ℕ, zero, suc, List, [], ◌∷◌, max, Option, Some, None, refl, sym, ◌∙◌, ap, subst, arith, map}
use Rattle.std.specs.List.{sum_by}
use Rattle.std.proofs.lemmas.List.Sums.{sum_by-cons}
use Rattle.fact_types.specs.declared.interface.InterfaceType.{InterfaceType}
use Rattle.fact_types.specs.Layout.{payloads}
use Rattle.fact_types.specs.Shapes.{Shape, s_plain, s_node, Members, no_members, bare, typed, depth, deepest}
use Rattle.fact_types.specs.Tables.{Tables, Node, node_of, IsLive, HasShape, HasMembers, IsSound, entries}
use Rattle.fact_types.proofs.ShapeLaws.{no_node, same_some, none_some}
use Rattle.fact_type_rules.specs.Walk.{types_of_node}

abbrev mutual
  pub weight_of : Shape → ℕ
  weight_of (s_plain p) = 1
  weight_of (s_node k ms) = 1 + weights_of ms

  pub weights_of : Members → ℕ
  weights_of no_members = 0
  weights_of (bare n ms) = weights_of ms
  weights_of (typed n s ms) = weight_of s + weights_of ms

-- the same by the tables, as far as so many types within one another are looked at
abbrev pub weight_in : ℕ → Tables → InterfaceType → ℕ
weight_in zero t ty = 1
weight_in (suc n) t ty = 1 + sum_by (weight_in n t) (types_of_node (node_of t ty))

unfoldable pub weight : Tables → InterfaceType → ℕ
weight t ty = weight_in (entries t) t ty

left_le : (a b c : ℕ) → max a b ≤ c → a ≤ c
left_le a b c h = grind (arith, h)

right_le : (a b c : ℕ) → max a b ≤ c → b ≤ c
right_le a b c h = grind (arith, h)

mutual
  weight_is : (t : Tables) (s : Shape) (ty : InterfaceType) (n : ℕ) → HasShape t ty s → depth s ≤ n → weight_in n t ty ≡ weight_of s
  weight_is t (s_plain p) ty zero h b = refl
  weight_is t (s_plain p) ty (suc n) h b = ap (λ (o : Option Node). 1 + sum_by (weight_in n t) (types_of_node o)) (ap (node_of t) h.0 ∙ no_node t p h.1)
  weight_is t (s_node k ms) ty zero h b = absurd (omega (arith, b))
  weight_is t (s_node k ms) ty (suc n) h b =
      ap (λ (o : Option Node). 1 + sum_by (weight_in n t) (types_of_node o)) h.1 ∙ ap (λ (x : ℕ). 1 + x) (weights_are t ms h.0.members n h.3 (omega (arith, b)))

  weights_are : (t : Tables) (ms : Members) (xs : List (List ℕ × Option InterfaceType)) (n : ℕ) → HasMembers t xs ms → deepest ms ≤ n → sum_by (weight_in n t) (payloads (map (λ m. m.1) xs)) ≡ weights_of ms
  weights_are t no_members [] n h b = refl
  weights_are t no_members (x ∷ xs) n h b = absurd h
  weights_are t (bare m ms) [] n h b = absurd h
  weights_are t (bare m ms) ((y, None) ∷ xs) n h b = weights_are t ms xs n h.2 b
  weights_are t (bare m ms) ((y, Some ty) ∷ xs) n h b = absurd (none_some _ ty h.1 refl)
  weights_are t (typed m s ms) [] n h b = absurd h
  weights_are t (typed m s ms) ((y, None) ∷ xs) n h b = absurd (none_some _ h.1.0 refl h.1.1)
  weights_are t (typed m s ms) ((y, Some ty) ∷ xs) n h b =
      let e : ty ≡ h.1.0 = same_some (Some ty) ty h.1.0 refl h.1.1 in
      let one = weight_is t s ty n (subst (λ ty. HasShape t ty s) (sym e) h.1.2) (left_le (depth s) (deepest ms) n b) in
      let others = weights_are t ms xs n h.2 (right_le (depth s) (deepest ms) n b) in
      sum_by-cons (weight_in n t) ty (payloads (map (λ (m : List ℕ × Option InterfaceType). m.1) xs)) ∙ (λ i. one i + others i)

-- a type weighs one more than the types of its members together
pub weighs : (t : Tables) → IsSound t → (ty : InterfaceType) → IsLive t ty → 1 + sum_by (weight t) (types_of_node (node_of t ty)) ≡ weight t ty
unfolding weight
weighs t k ty l = go (k.shaped ty l)
  where
    go : ((s : Shape) × HasShape t ty s × (depth s ≤ entries t)) → 1 + sum_by (weight_in (entries t) t) (types_of_node (node_of t ty)) ≡ weight_in (entries t) t ty
    go (s_plain p, h, b) = ap (λ (o : Option Node). 1 + sum_by (weight_in (entries t) t) (types_of_node o)) (ap (node_of t) h.0 ∙ no_node t p h.1) ∙ sym (weight_is t (s_plain p) ty (entries t) h b)
    go (s_node kd ms, h, b) =
        ap (λ (o : Option Node). 1 + sum_by (weight_in (entries t) t) (types_of_node o)) h.1
        ∙ ap (λ (x : ℕ). 1 + x) (weights_are t ms h.0.members (entries t) h.3 (omega (arith, b)))
        ∙ sym (weight_is t (s_node kd ms) ty (entries t) h b)
