-- The shapes that types stand for are formed.
use Rattle.std.proofs.Common.{◌≡◌, ℕ, List, [], ◌∷◌, map, Option, Some, None, refl, sym, subst}
use Rattle.std.specs.Prelude.{option_map, slice_get}
use Rattle.fact_types.specs.declared.interface.InterfaceType.{InterfaceType}
use Rattle.fact_types.specs.declared.interface.InterfaceType.TheVariants as ty
use Rattle.fact_types.specs.Shapes.{Shape, s_plain, s_node, Members, no_members, bare, typed}
use Rattle.fact_types.specs.Tables.{Tables, Node, node_of, HasShape, HasMembers, record_node, variant_node, list_node, tuple_node, map_node, flags_node, enum_node, option_node, result_node, future_node, stream_node, fixed_length_list_node}
use Rattle.fact_types.proofs.ShapeLaws.{same_some, none_some}
use Rattle.fact_values.specs.Formed.{AreBare, IsFormedBy, IsFormed, AreFormed}
use Rattle.fact_values.proofs.MemberLaws.{names_told}

bare_told : (t : Tables) (names : List (List ℕ)) (ms : Members) → HasMembers t (map (λ n. (n, None)) names) ms → AreBare ms
bare_told t [] no_members h = tt
bare_told t (x ∷ xs) no_members h = absurd h
bare_told t [] (bare n ms) h = absurd h
bare_told t (x ∷ xs) (bare n ms) h = bare_told t xs ms h.2
bare_told t [] (typed n s ms) h = absurd h
bare_told t (x ∷ xs) (typed n s ms) h = absurd (none_some None h.1.0 refl h.1.1)

-- what holds of each entry holds of the one that is there
pub each_entry : {E : Type 0} (P : Node → Type 0) (f : E → Node) (o : Option E) (n : Node) → option_map f o ≡ Some n → ((e : E) → P (f e)) → P n
each_entry P f None n is h = absurd (none_some None n refl is)
each_entry P f (Some e) n is h = subst P (same_some _ (f e) n refl is) (h e)

abbrev Forms : Tables → Node → Type 0
Forms t n = (ms : Members) → HasMembers t n.members ms → IsFormedBy n.kind ms

node_formed : (t : Tables) (y : InterfaceType) (n : Node) → node_of t y ≡ Some n → Forms t n
node_formed t (ty.Record i) n is = each_entry (Forms t) record_node (slice_get t.records i.number) n is (λ e ms h. tt)
node_formed t (ty.Variant i) n is = each_entry (Forms t) variant_node (slice_get t.variants i.number) n is (λ e ms h. tt)
node_formed t (ty.List i) n is = each_entry (Forms t) list_node (slice_get t.lists i.number) n is (λ e ms h. tt)
node_formed t (ty.Tuple i) n is = each_entry (Forms t) tuple_node (slice_get t.tuples i.number) n is (λ e ms h. tt)
node_formed t (ty.Map i) n is = each_entry (Forms t) map_node (slice_get t.maps i.number) n is (λ e ms h. tt)
node_formed t (ty.Flags i) n is = each_entry (Forms t) flags_node (slice_get t.flags i.number) n is (λ e ms h. tt)
node_formed t (ty.Enum i) n is = each_entry (Forms t) enum_node (slice_get t.enums i.number) n is (λ e ms h. bare_told t e.names ms h)
node_formed t (ty.Option i) n is = each_entry (Forms t) option_node (slice_get t.options i.number) n is (λ e ms h. sym (names_told t (option_node e).members ms h))
node_formed t (ty.Result i) n is = each_entry (Forms t) result_node (slice_get t.results i.number) n is (λ e ms h. sym (names_told t (result_node e).members ms h))
node_formed t (ty.Future i) n is = each_entry (Forms t) (future_node t.futures i.number) (slice_get t.future_tables i.number) n is (λ e ms h. tt)
node_formed t (ty.Stream i) n is = each_entry (Forms t) (stream_node t.streams i.number) (slice_get t.stream_tables i.number) n is (λ e ms h. tt)
node_formed t (ty.FixedLengthList i) n is = each_entry (Forms t) fixed_length_list_node (slice_get t.fixed_length_lists i.number) n is (λ e ms h. tt)
node_formed t _ n is = absurd (none_some None n refl is)

mutual
  pub formed : (t : Tables) (y : InterfaceType) (s : Shape) → HasShape t y s → IsFormed s
  formed t y (s_plain p) h = tt
  formed t y (s_node k ms) h = (subst (λ k. IsFormedBy k ms) h.2 (node_formed t y h.0 h.1 ms h.3), members_formed t h.0.members ms h.3)

  members_formed : (t : Tables) (xs : List (List ℕ × Option InterfaceType)) (ms : Members) → HasMembers t xs ms → AreFormed ms
  members_formed t [] no_members h = tt
  members_formed t (x ∷ xs) no_members h = absurd h
  members_formed t [] (bare n ms) h = absurd h
  members_formed t (x ∷ xs) (bare n ms) h = members_formed t xs ms h.2
  members_formed t [] (typed n s ms) h = absurd h
  members_formed t (x ∷ xs) (typed n s ms) h = (formed t h.1.0 s h.1.2, members_formed t xs ms h.2)
