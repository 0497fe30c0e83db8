-- The types of an adapter that the checks of plans let through have room for their values.
use Rattle.std.proofs.Common.{◌≡◌, ℕ, ◌≤◌, List, [], ◌∷◌, arith, length}
use Rattle.std.specs.List.{AllByRecursion}
use Rattle.fact_types.specs.Agrees.{names_of}
use Rattle.fact_types.specs.Layout.{payloads}
use Rattle.fact_types.specs.Shapes.{Kind, k_list, k_map, Shape, s_plain, s_node, Members, no_members, bare, typed, layouts_of}
use Rattle.fact_types.specs.Adapters.{LinkedAdapter}
use Rattle.fact_types.specs.Valid.{IsValid}
use Rattle.fact_actions.specs.Confined.{AreValidTypes, HasElements, HasElementsBy, HasRoomForValues, HaveElements}
use Rattle.fact_actions.specs.Running.{ImportPlaces}
use Rattle.fact_actions.proofs.ValidTypes.{valid_types_serve}
use Rattle.fact_action_laws.specs.FaithfulLaws.{AreWellFormedTypes, IsCheckedAdapter}
use Rattle.fact_action_laws.specs.MoveTerms.{AreTyped, AreWellFormed, IsWellFormed, IsWellFormedBy}

-- a name that a list of members has is that of a member with a type
some_payload : (ms : Members) (x : List ℕ) (xs : List (List ℕ)) → names_of ms ≡ x ∷ xs → AreTyped ms → 1 ≤ length (payloads (layouts_of ms))
some_payload no_members x xs e t = cc
some_payload (bare y ms) x xs e t = absurd t
some_payload (typed y s ms) x xs e t = omega arith

elements_by : (k : Kind) (ms : Members) → IsWellFormedBy k ms → HasElementsBy k ms
elements_by k_list ms h = some_payload ms _ _ h.0 h.1
elements_by k_map ms h = some_payload ms _ _ h.0 h.1
elements_by k ms h = tt

mutual
  has_elements : (s : Shape) → IsWellFormed s → HasElements s
  has_elements (s_plain p) h = tt
  has_elements (s_node k ms) h = (elements_by k ms h.0, have_elements ms h.1)

  have_elements : (ms : Members) → AreWellFormed ms → HaveElements ms
  have_elements no_members h = tt
  have_elements (bare x ms) h = have_elements ms h
  have_elements (typed x s ms) h = (has_elements s h.0, have_elements ms h.1)

valid_types : (ts : List Shape) → AllByRecursion IsValid ts → AllByRecursion IsWellFormed ts → AreValidTypes ts
valid_types [] v h = tt
valid_types (t ∷ ts) v h = (v.0, has_elements t h.0, valid_types ts v.1 h.1)

valid : (ts : List Shape) → AreWellFormedTypes ts → AreValidTypes ts
valid ts h = valid_types ts h.valid h.formed

pub has_room : (p : ImportPlaces) (a : LinkedAdapter) → IsCheckedAdapter p a → HasRoomForValues a
has_room p a h =
    (valid_types_serve a (record { lower_params = valid a.lower.params h.lower_params; lower_results = valid a.lower.results h.lower_results; lift_params = valid a.lift.params h.lift_params; lift_results = valid a.lift.results h.lift_results })).0
