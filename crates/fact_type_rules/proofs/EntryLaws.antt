-- The rules for a type, by its entry in the tables and by its shape.
use Rattle.std.proofs.Common.{◌≡◌, ◌⊎◌, ◌<◌, ℕ, List, [], ◌∷◌, length, map, min, Option, Some, None, inl, inr, refl, sym, ◌∙◌, ap, subst, arith}
use Rattle.std.specs.Prelude.{◌↔◌, IsTrue, nat_lt, slice_get, option_map}
use Rattle.std.proofs.lemmas.List.{length-map}
use Rattle.fact_entity.specs.declared.id.Id.{Id}
use Rattle.fact_entity.specs.declared.table.TypeMaps.{TypeMaps}
use Rattle.fact_types.specs.declared.abi.CanonicalAbiInfo.{CanonicalAbiInfo}
use Rattle.fact_types.specs.declared.interface.InterfaceType.{InterfaceType}
use Rattle.fact_types.specs.declared.interface.InterfaceType.TheVariants.{Own as t_own, Borrow as t_borrow, Map as t_map}
use Rattle.fact_types.specs.declared.kinds.TypeMap.{TypeMap}
use Rattle.fact_types.specs.Agrees.{names_of}
use Rattle.fact_types.specs.Layout.{payloads, record_layout}
use Rattle.fact_types.specs.Shapes.{Kind, k_map, Shape, s_plain, s_node, Members, no_members, bare, typed, layout_of, layouts_of, entry_parts, IsWithin}
use Rattle.fact_types.specs.Tables.{Tables, Node, node_of, map_node, abi_at, HasShape, HasMembers, IsSound}
use Rattle.fact_types.specs.Valid.{nesting}
use Rattle.fact_types.proofs.ShapeLaws.{layouts_are, more, no_node, none_some, same_some}
use Rattle.fact_plan_types.specs.TypeRules.{IsEntryPast, IsPast}
use Rattle.fact_type_rules.specs.TypeFaults.{AreManyCases, IsBadKind, IsBadShape, IsFarHandle, IsLargeShape, IsLongList, IsLongShape}
use Rattle.fact_type_rules.specs.Walk.{IsBadNode, IsLongType, IsLongNode}

along : {X : Type 0} (P : X → Type 0) (x y : X) → x ≡ y → P x ↔ P y
along P x y e = (subst P e, subst P (sym e))

both : {A B C : Type 0} → A ↔ B → B ↔ C → A ↔ C
both f g = (λ a. g.0 (f.0 a), λ c. f.1 (g.1 c))

-- the names of the members
names_are : (t : Tables) (ms : Members) (xs : List (List ℕ × Option InterfaceType)) → HasMembers t xs ms → map (λ m. m.0) xs ≡ names_of ms
names_are t no_members [] h = refl
names_are t no_members (x ∷ xs) h = absurd h
names_are t (bare n ms) [] h = absurd h
names_are t (bare n ms) (x ∷ xs) h = more _ _ _ _ h.0 (names_are t ms xs h.2)
names_are t (typed n s ms) [] h = absurd h
names_are t (typed n s ms) (x ∷ xs) h = more _ _ _ _ h.0 (names_are t ms xs h.2)

pub bad-entry : (t : Tables) (ty : InterfaceType) (s : Shape) → HasShape t ty s → IsBadNode (node_of t ty) ↔ IsBadShape s
bad-entry t ty (s_plain p) h = along IsBadNode (node_of t ty) None (ap (node_of t) h.0 ∙ no_node t p h.1)
bad-entry t ty (s_node k ms) h =
    both (along IsBadNode (node_of t ty) (Some h.0) h.1)
    (both (along (λ k. IsBadKind k (map (λ m. m.0) h.0.members)) h.0.kind k h.2) (along (IsBadKind k) _ _ (names_are t ms h.0.members h.3)))

-- an own or a borrow has no entry with members
far_plain : (t : Tables) (ty : InterfaceType) → IsFarHandle ty → node_of t ty ≡ None
far_plain t (t_own i) h = refl
far_plain t (t_borrow i) h = refl
far_plain t _ h = absurd h

abbrev long : Kind → ℕ → Type 0
long k n = IsLongList k n ⊎ AreManyCases k n

pub long-entry : (t : Tables) (ty : InterfaceType) (s : Shape) → HasShape t ty s → IsLongType t ty ↔ IsLongShape s
long-entry t ty (s_plain p) h = (to, λ f. inl (subst IsFarHandle (sym h.0) f))
  where
    to : IsFarHandle ty ⊎ IsLongNode (node_of t ty) → IsFarHandle p
    to (inl f) = subst IsFarHandle h.0 f
    to (inr f) = absurd (subst IsLongNode (ap (node_of t) h.0 ∙ no_node t p h.1) f)
long-entry t ty (s_node k ms) h = (to, λ f. inr (subst IsLongNode (sym h.1) (count.1 f)))
  where
    count : IsLongNode (Some h.0) ↔ IsLongShape (s_node k ms)
    count =
        let as_many : length h.0.members ≡ length (names_of ms) = sym (length-map h.0.members (λ (m : List ℕ × Option InterfaceType). m.0)) ∙ ap length (names_are t ms h.0.members h.3) in
        both (along (λ k. long k (length h.0.members)) h.0.kind k h.2) (along (long k) _ _ as_many)

    to : IsFarHandle ty ⊎ IsLongNode (node_of t ty) → IsLongShape (s_node k ms)
    to (inl f) = absurd (none_some (node_of t ty) h.0 (far_plain t ty f) h.1)
    to (inr f) = count.0 (subst IsLongNode h.1 f)

-- ---- sizes that stand in the tables

pub not-past : (c : CanonicalAbiInfo) → IsWithin c → IsPast c → ⊥
not-past c w (inl h) = omega (arith, w.memory32, h)
not-past c w (inr h) = omega (arith, w.memory64, h)

-- the layout of a map's entries is the one that stands in the tables
same_entry : (a b : CanonicalAbiInfo) (m n o p : ℕ) → entry_parts a m n ≡ entry_parts b o p → a ≡ b
same_entry a b m n o p e = cc

pub map-entry : (t : Tables) → IsSound t → (i : Id TypeMaps) (e : TypeMap) → slice_get t.maps i.number ≡ Some e → IsWithin e.entry_abi → (s : Shape) → HasShape t (t_map i) s → IsEntryPast s → ⊥
map-entry t k i e there w (s_plain p) h past = past
map-entry t k i e there w (s_node kd ms) h past = by kd h.2 past
  where
    there_is : node_of t (t_map i) ≡ Some (map_node e)
    there_is = ap (option_map map_node) there

    same : h.0 ≡ map_node e
    same = same_some (node_of t (t_map i)) h.0 (map_node e) h.1 there_is

    layouts : map (λ m. option_map (abi_at t) m.1) (map_node e).members ≡ layouts_of ms
    layouts = layouts_are t k ms (map_node e).members (subst (λ (n : Node). HasMembers t n.members ms) same h.3)

    laid : e.entry_abi ≡ record_layout (payloads (layouts_of ms))
    laid = same_entry _ _ _ _ _ _ (k.stands (t_map i) (map_node e) there_is).parts ∙ ap (λ ls. record_layout (payloads ls)) layouts

    by : (kd : Kind) → h.0.kind ≡ kd → IsEntryPast (s_node kd ms) → ⊥
    by k_map e past = not-past _ (subst IsWithin laid w) past
    by _ e past = past

pub large-by-nesting : (t : Tables) (ty : InterfaceType) (s : Shape) (n : ℕ) → HasShape t ty s → IsWithin (layout_of s) → (IsEntryPast s → ⊥) → (IsLongType t ty → ⊥) → n ≡ min (nesting s) 101 → IsTrue (nat_lt 100 n) ↔ IsLargeShape s
large-by-nesting t ty s n h w no_entry short told = (λ b. inr (inr (inr (deep b))), to)
  where
    deep : IsTrue (nat_lt 100 n) → 100 < nesting s
    deep b = grind (arith, told, b)

    test : 100 < nesting s → IsTrue (nat_lt 100 n)
    test l = grind (arith, told, l)

    to : IsLargeShape s → IsTrue (nat_lt 100 n)
    to (inl f) = absurd (short ((long-entry t ty s h).1 f))
    to (inr (inl f)) = absurd (not-past (layout_of s) w f)
    to (inr (inr (inl f))) = absurd (no_entry f)
    to (inr (inr (inr f))) = test f
