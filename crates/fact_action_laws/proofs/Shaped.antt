-- The shapes that types of the tables stand for are well formed, and lists of types that agree are tuples that agree.
use Rattle.std.proofs.Common.{◌≡◌, ℕ, suc, ◌+◌, true, List, [], ◌∷◌, map, Option, Some, None, refl, sym, subst, arith}
use Rattle.std.specs.Prelude.{slice_get}
use Rattle.std.proofs.lemmas.Bool.{false≢true}
use Rattle.fact_types.specs.declared.interface.InterfaceType.{InterfaceType}
use Rattle.fact_types.specs.declared.interface.InterfaceType.TheVariants as ty
use Rattle.fact_types.specs.Agrees.{AgreesPlaces}
use Rattle.fact_types.specs.Shapes.{Shape, s_plain, s_node, Members, no_members, bare, typed}
use Rattle.fact_types.specs.Tables.{Tables, Node, node_of, is_plain, placed, HasShape, HasMembers, record_node, variant_node, list_node, tuple_node, map_node, flags_node, enum_node, option_node, result_node, future_node, stream_node, fixed_length_list_node}
use Rattle.fact_types.specs.Tuples.{members_from}
use Rattle.fact_types.proofs.ShapeLaws.{none_some}
use Rattle.fact_agreement.specs.Lists.{AgreeAll}
use Rattle.fact_values.specs.Formed.{AreBare}
use Rattle.fact_values.specs.Numbers.{plain_of}
use Rattle.fact_values.proofs.FormedLaws.{each_entry}
use Rattle.fact_values.proofs.MemberLaws.{names_told}
use Rattle.fact_action_laws.specs.FaithfulLaws.{ShapesAreWellFormed, TuplesAgree}
use Rattle.fact_action_laws.specs.MoveTerms.{AreTyped, ArePlaces, HasValues, IsWellFormedBy, IsWellFormed, AreWellFormed}

abbrev Told : Type 0
Told = List (List ℕ × Option InterfaceType)

-- each member has a type
abbrev AllTyped : Told → Type 0
AllTyped [] = Unit {0}
AllTyped (x ∷ xs) = ((y : InterfaceType) × (x.1 ≡ Some y)) × AllTyped xs

typed_told : (t : Tables) (xs : Told) (ms : Members) → AllTyped xs → HasMembers t xs ms → AreTyped ms
typed_told t [] no_members a h = tt
typed_told t (x ∷ xs) no_members a h = tt
typed_told t [] (bare n ms) a h = absurd h
typed_told t (x ∷ xs) (bare n ms) a h = absurd (none_some x.1 a.0.0 h.1 a.0.1)
typed_told t [] (typed n s ms) a h = absurd h
typed_told t (x ∷ xs) (typed n s ms) a h = typed_told t xs ms a.1 h.2

bare_told : (t : Tables) (names : List (List ℕ)) (ms : Members) → HasMembers t (map (λ n. (n, None)) names) ms → AreBare ms
bare_told t [] no_members h = tt
bare_told t (x ∷ xs) no_members h = tt
bare_told t [] (bare n ms) h = absurd h
bare_told t (x ∷ xs) (bare n ms) h = bare_told t xs ms h.2
bare_told t [] (typed n s ms) h = absurd h
bare_told t (x ∷ xs) (typed n s ms) h = absurd (none_some None h.1.0 refl h.1.1)

fields_typed : {F : Type 0} (name : F → List ℕ) (type : F → InterfaceType) (fs : List F) → AllTyped (map (λ f. (name f, Some (type f))) fs)
fields_typed name type [] = tt
fields_typed name type (f ∷ fs) = ((type f, refl), fields_typed name type fs)

placed_typed : (n : ℕ) (ts : List InterfaceType) → AllTyped (placed n ts)
placed_typed n [] = tt
placed_typed n (y ∷ ys) = ((y, refl), placed_typed (suc n) ys)

placed_named : (n : ℕ) (ts : List InterfaceType) → ArePlaces n (map (λ m. m.0) (placed n ts))
placed_named n [] = tt
placed_named n (y ∷ ys) = let e : suc n ≡ 1 + n = omega arith in (refl, subst (λ k. ArePlaces k (map (λ m. m.0) (placed (suc n) ys))) e (placed_named (suc n) ys))

-- ---- nodes

abbrev Forms : Tables → Node → Type 0
Forms t n = (ms : Members) → HasMembers t n.members ms → IsWellFormedBy n.kind ms

node_formed : (t : Tables) (y : InterfaceType) (n : Node) → node_of t y ≡ Some n → Forms t n
node_formed t (ty.Record i) n is = each_entry (Forms t) record_node (slice_get t.records i.number) n is (λ e ms h. typed_told t (record_node e).members ms (fields_typed (λ f. f.name) (λ f. f.ty) e.fields) h)
node_formed t (ty.Variant i) n is = each_entry (Forms t) variant_node (slice_get t.variants i.number) n is (λ e ms h. tt)
node_formed t (ty.List i) n is = each_entry (Forms t) list_node (slice_get t.lists i.number) n is (λ e ms h. (sym (names_told t (list_node e).members ms h), typed_told t (list_node e).members ms ((e.element, refl), tt) h))
node_formed t (ty.Tuple i) n is = each_entry (Forms t) tuple_node (slice_get t.tuples i.number) n is
    (λ e ms h. (subst (ArePlaces 0) (names_told t (tuple_node e).members ms h) (placed_named 0 e.types), typed_told t (tuple_node e).members ms (placed_typed 0 e.types) h))
node_formed t (ty.Map i) n is = each_entry (Forms t) map_node (slice_get t.maps i.number) n is (λ e ms h. (sym (names_told t (map_node e).members ms h), typed_told t (map_node e).members ms ((e.key, refl), ((e.value, refl), tt)) h))
node_formed t (ty.Flags i) n is = each_entry (Forms t) flags_node (slice_get t.flags i.number) n is (λ e ms h. bare_told t e.names ms h)
node_formed t (ty.Enum i) n is = each_entry (Forms t) enum_node (slice_get t.enums i.number) n is (λ e ms h. bare_told t e.names ms h)
node_formed t (ty.Option i) n is = each_entry (Forms t) option_node (slice_get t.options i.number) n is (λ e ms h. sym (names_told t (option_node e).members ms h))
node_formed t (ty.Result i) n is = each_entry (Forms t) result_node (slice_get t.results i.number) n is (λ e ms h. sym (names_told t (result_node e).members ms h))
node_formed t (ty.Future i) n is = each_entry (Forms t) (future_node t.futures i.number) (slice_get t.future_tables i.number) n is (λ e ms h. tt)
node_formed t (ty.Stream i) n is = each_entry (Forms t) (stream_node t.streams i.number) (slice_get t.stream_tables i.number) n is (λ e ms h. tt)
node_formed t (ty.FixedLengthList i) n is = each_entry (Forms t) fixed_length_list_node (slice_get t.fixed_length_lists i.number) n is
    (λ e ms h. (sym (names_told t (fixed_length_list_node e).members ms h), typed_told t (fixed_length_list_node e).members ms ((e.element, refl), tt) h))
node_formed t _ n is = absurd (none_some None n refl is)

-- a type without members has values
plain_formed : (p : InterfaceType) → is_plain p ≡ true → HasValues (plain_of p)
plain_formed (ty.Record i) h = false≢true h
plain_formed (ty.Variant i) h = false≢true h
plain_formed (ty.List i) h = false≢true h
plain_formed (ty.Tuple i) h = false≢true h
plain_formed (ty.Map i) h = false≢true h
plain_formed (ty.Flags i) h = false≢true h
plain_formed (ty.Enum i) h = false≢true h
plain_formed (ty.Option i) h = false≢true h
plain_formed (ty.Result i) h = false≢true h
plain_formed (ty.Future i) h = false≢true h
plain_formed (ty.Stream i) h = false≢true h
plain_formed (ty.FixedLengthList i) h = false≢true h
plain_formed _ h = tt

mutual
  shape_formed : (t : Tables) (y : InterfaceType) (s : Shape) → HasShape t y s → IsWellFormed s
  shape_formed t y (s_plain p) h = plain_formed p h.1
  shape_formed t y (s_node k ms) h = (subst (λ k. IsWellFormedBy k ms) h.2 (node_formed t y h.0 h.1 ms h.3), members_formed t h.0.members ms h.3)

  members_formed : (t : Tables) (xs : Told) (ms : Members) → HasMembers t xs ms → AreWellFormed ms
  members_formed t [] no_members h = tt
  members_formed t (x ∷ xs) no_members h = absurd h
  members_formed t [] (bare n ms) h = absurd h
  members_formed t (x ∷ xs) (bare n ms) h = members_formed t xs ms h.2
  members_formed t [] (typed n s ms) h = absurd h
  members_formed t (x ∷ xs) (typed n s ms) h = (shape_formed t h.1.0 s h.1.2, members_formed t xs ms h.2)

pub shapes_are_well_formed : ShapesAreWellFormed
shapes_are_well_formed t [] [] h = tt
shapes_are_well_formed t [] (s ∷ ss) h = absurd h
shapes_are_well_formed t (y ∷ ys) [] h = absurd h
shapes_are_well_formed t (y ∷ ys) (s ∷ ss) h = (shape_formed t y s h.0, shapes_are_well_formed t ys ss h.1)

-- ---- tuples

agree_from : (n : ℕ) (ss ds : List Shape) → AgreeAll ss ds → AgreesPlaces (members_from n ss) (members_from n ds)
agree_from n [] [] h = tt
agree_from n [] (d ∷ ds) h = absurd h
agree_from n (s ∷ ss) [] h = absurd h
agree_from n (s ∷ ss) (d ∷ ds) h = (h.0, agree_from (suc n) ss ds h.1)

pub tuples_agree : TuplesAgree
tuples_agree ss ds h = agree_from 0 ss ds h
