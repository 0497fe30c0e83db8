-- Where a source type holds a string, a list or a map, so does a type that agrees with it.
use Rattle.std.proofs.Common.{◌≡◌, ℕ, zero, suc, ◌⊎◌, inl, inr, Bool, true, false, List, ◌||◌, Option, Some, None, refl, sym, ap, ◌∙◌, subst, ⊎_elim}
use Rattle.std.specs.List.{Contains}
use Rattle.std.specs.Str.{bytes_eq}
use Rattle.std.proofs.lemmas.Bool.{false≢true}
use Rattle.fact_types.specs.declared.interface.InterfaceType.{InterfaceType}
use Rattle.fact_types.specs.declared.interface.InterfaceType.TheVariants as ty
use Rattle.fact_types.specs.Agrees.{Agrees, AgreesPlain, AgreesBy, AgreesFields, AgreesCase, AgreesPlaces, BothThere, chosen, named, names_of}
use Rattle.fact_types.specs.PointerPairs.{is_string, has_pointer_pair, have_pointer_pair, any_pointer_pair}
use Rattle.fact_types.specs.Shapes.{Kind, k_record, k_variant, k_list, k_tuple, k_map, k_flags, k_enum, k_option, k_result, k_fixed, k_future, k_stream, Shape, s_plain, s_node, Members, no_members, bare, typed}
use Rattle.fact_types.specs.Tuples.{tuple_members}
use Rattle.fact_types.specs.Valid.{IsRuled, AreRuled, AreDistinct}
use Rattle.fact_types.proofs.ShapeLaws.{same_some, none_some}
use Rattle.fact_values.specs.Formed.{AreBare}
use Rattle.fact_values.specs.Limits.{CaseType, case_type}
use Rattle.fact_action_laws.specs.MoveTerms.{AreTyped, IsWellFormed, AreWellFormed}
use Rattle.fact_action_laws.proofs.Distinct.{case_named, each_agrees}
use Rattle.fact_action_laws.specs.FaithfulLaws.{AreWellFormedTypes, OwnMemoriesServe}
use Rattle.fact_action_laws.proofs.Grounding.{members_ruled, members_have_pointers}
use Rattle.fact_action_laws.proofs.Membered.{members_formed}
use Rattle.fact_action_laws.proofs.Variants.{case_has}
use Rattle.fact_action_laws.proofs.Weights.{In, in_contains, contains_in}

either_true : (a b : Bool) → a || b ≡ true → (a ≡ true) ⊎ (b ≡ true)
either_true true b h = inl refl
either_true false b h = inr h

left_holds : (a b : Bool) → a ≡ true → a || b ≡ true
left_holds true b h = refl
left_holds false b h = absurd (false≢true h)

right_holds : (a b : Bool) → b ≡ true → a || b ≡ true
right_holds true b h = refl
right_holds false b h = h

plain_pair : (q : InterfaceType) (t : Shape) → AgreesPlain q t → has_pointer_pair t ≡ true → is_string q ≡ true
plain_pair (ty.Own j) (s_plain (ty.Own i)) e h = h
plain_pair (ty.Borrow j) (s_plain (ty.Borrow i)) e h = h
plain_pair (ty.ErrorContext j) (s_plain (ty.ErrorContext i)) e h = h
plain_pair q (s_plain p) e h = sym (ap is_string e) ∙ h
plain_pair q (s_node k ms) e h = absurd e

-- names alone hold nothing
bare_hold : (ms : Members) → AreBare ms → have_pointer_pair ms ≡ true → ⊥
bare_hold no_members b h = false≢true h
bare_hold (bare n ms) b h = bare_hold ms b h
bare_hold (typed n s ms) b h = b

-- A member that holds one, by its number.
record HoldsPair (ms : Members) : Type 0 where
  number : ℕ
  name : List ℕ
  shape : Shape
  is : case_type ms number ≡ Some (record { name = name; payload = Some shape })
  holds : has_pointer_pair shape ≡ true

holder : (ms : Members) → have_pointer_pair ms ≡ true → HoldsPair ms
holder no_members h = absurd (false≢true h)
holder (bare n ms) h = let r = holder ms h in record { number = suc r.number; name = r.name; shape = r.shape; is = r.is; holds = r.holds }
holder (typed n s ms) h =
    ⊎_elim (λ e. record { number = 0; name = n; shape = s; is = refl; holds = e }) (λ e. let r = holder ms e in record { number = suc r.number; name = r.name; shape = r.shape; is = r.is; holds = r.holds })
    (either_true (has_pointer_pair s) (have_pointer_pair ms) h)

-- its name is one of theirs
name_in : (ms : Members) (n : ℕ) (k : CaseType) → case_type ms n ≡ Some k → In k.name (names_of ms)
name_in no_members n k h = absurd (none_some None k refl h)
name_in (bare x ms) zero k h = inl (ap (λ c. c.name) (same_some (Some k) (record { name = x; payload = None }) k (sym h) refl))
name_in (bare x ms) (suc n) k h = inr (name_in ms n k h)
name_in (typed x s ms) zero k h = inl (ap (λ c. c.name) (same_some (Some k) (record { name = x; payload = Some s }) k (sym h) refl))
name_in (typed x s ms) (suc n) k h = inr (name_in ms n k h)

member_ruled : (ms : Members) (n : ℕ) (k : CaseType) (s : Shape) → AreRuled ms → case_type ms n ≡ Some k → k.payload ≡ Some s → IsRuled s
member_ruled ms n k s r h e = case_has IsRuled AreRuled (λ x ms a. a) (λ x s ms a. a) ms n k s r h e

member_formed : (ms : Members) (n : ℕ) (k : CaseType) (s : Shape) → AreWellFormed ms → case_type ms n ≡ Some k → k.payload ≡ Some s → IsWellFormed s
member_formed ms n k s f h e = case_has IsWellFormed AreWellFormed (λ x ms a. a) (λ x s ms a. a) ms n k s f h e

-- what is to be shown of members of a destination
abbrev FieldHolds : Members → Type 0
FieldHolds ns = (ms : Members) (x : List ℕ) (s : Shape) → AgreesFields ms ns → AreTyped ns → In x (names_of ns) → named x ms ≡ Some s → IsRuled s → IsWellFormed s → has_pointer_pair s ≡ true → have_pointer_pair ns ≡ true

abbrev CaseHolds : Members → Type 0
CaseHolds ns = (x : List ℕ) (s : Shape) → AgreesCase x (Some s) ns → IsRuled s → IsWellFormed s → has_pointer_pair s ≡ true → have_pointer_pair ns ≡ true

abbrev PlacesHold : Members → Type 0
PlacesHold ns = (ms : Members) → AgreesPlaces ms ns → AreRuled ms → AreWellFormed ms → have_pointer_pair ms ≡ true → have_pointer_pair ns ≡ true

cases_hold : (ms ns : Members) → AreRuled ms → AreWellFormed ms → CaseHolds ns → ((n : ℕ) (k : CaseType) → case_type ms n ≡ Some k → AgreesCase k.name k.payload ns) → have_pointer_pair ms ≡ true → have_pointer_pair ns ≡ true
cases_hold ms ns r f C agree h =
    let p = holder ms h in C p.name p.shape (agree p.number _ p.is) (member_ruled ms p.number _ p.shape r p.is refl) (member_formed ms p.number _ p.shape f p.is refl) p.holds

fields_hold : (ms ns : Members) → AreRuled ms → AreWellFormed ms → AreDistinct (names_of ms) → AreTyped ns → AgreesFields ms ns → ((x : List ℕ) → Contains (names_of ms) x → Contains (names_of ns) x) → FieldHolds ns → have_pointer_pair ms ≡ true → have_pointer_pair ns ≡ true
fields_hold ms ns r f d t a names F h =
    let p = holder ms h in
    F ms p.name p.shape a t (contains_in p.name (names_of ns) (names p.name (in_contains p.name (names_of ms) (name_in ms p.number _ p.is)))) (case_named ms p.number _ d p.is)
    (member_ruled ms p.number _ p.shape r p.is refl) (member_formed ms p.number _ p.shape f p.is refl) p.holds

node_holds : (l : Kind) (t : Shape) (ns : Members) → AgreesBy l t ns (λ ms. AgreesFields ms ns) (λ x p. AgreesCase x p ns) (λ ms. AgreesPlaces ms ns) → IsRuled t → IsWellFormed t → IsWellFormed (s_node l ns) → FieldHolds ns → CaseHolds ns → PlacesHold ns
    → has_pointer_pair t ≡ true → has_pointer_pair (s_node l ns) ≡ true
node_holds k_record (s_node k_record ms) ns a r f g F C P h = fields_hold ms ns r.1 f.1 r.0.distinct g.0 a.fields a.names F h
node_holds k_tuple (s_node k_tuple ms) ns a r f g F C P h = P ms a r.1 f.1 h
node_holds k_variant (s_node k_variant ms) ns a r f g F C P h = cases_hold ms ns r.1 f.1 C (λ n k e. each_agrees ms ns n k a e) h
node_holds k_option (s_node k_option ms) ns a r f g F C P h = P ms a r.1 f.1 h
node_holds k_result (s_node k_result ms) ns a r f g F C P h = P ms a r.1 f.1 h
node_holds k_enum (s_node k_enum ms) ns a r f g F C P h = absurd (bare_hold ms f.0 h)
node_holds k_flags (s_node k_flags ms) ns a r f g F C P h = absurd (bare_hold ms f.0 h)
node_holds k_list (s_node k_list ms) ns a r f g F C P h = refl
node_holds k_map (s_node k_map ms) ns a r f g F C P h = refl
node_holds (k_fixed m) (s_node (k_fixed n) ms) ns a r f g F C P h = P ms a.1 r.1 f.1 h
node_holds (k_future u j) (s_node (k_future t i) ms) ns a r f g F C P h = absurd (false≢true h)
node_holds (k_stream u j) (s_node (k_stream t i) ms) ns a r f g F C P h = absurd (false≢true h)
node_holds l t ns a r f g F C P h = absurd a

mutual
  pub pair_crosses : (u t : Shape) → Agrees t u → IsRuled t → IsWellFormed t → IsWellFormed u → has_pointer_pair t ≡ true → has_pointer_pair u ≡ true
  pair_crosses (s_plain q) t a r f g h = plain_pair q t a h
  pair_crosses (s_node l ns) t a r f g h = node_holds l t ns a r f g (λ ms x s a t i e r f h. field_crosses ns ms x s a t g.1 i e r f h) (λ x s a r f h. case_crosses ns x s a g.1 r f h) (λ ms a r f h. places_cross ns ms a r f g.1 h) h

  field_crosses : (ns ms : Members) (x : List ℕ) (s : Shape) → AgreesFields ms ns → AreTyped ns → AreWellFormed ns → In x (names_of ns) → named x ms ≡ Some s → IsRuled s → IsWellFormed s → has_pointer_pair s ≡ true → have_pointer_pair ns ≡ true
  field_crosses no_members ms x s a t g i e r f h = absurd i
  field_crosses (bare y ns) ms x s a t g i e r f h = absurd t
  field_crosses (typed y u ns) ms x s a t g (inl i) e r f h =
      left_holds (has_pointer_pair u) (have_pointer_pair ns) (pair_crosses u s (subst (λ q. BothThere q (λ s. Agrees s u)) (ap (λ z. named z ms) i ∙ e) a.0) r f g.0 h)
  field_crosses (typed y u ns) ms x s a t g (inr i) e r f h = right_holds (has_pointer_pair u) (have_pointer_pair ns) (field_crosses ns ms x s a.1 t g.1 i e r f h)

  case_crosses : (ns : Members) (x : List ℕ) (s : Shape) → AgreesCase x (Some s) ns → AreWellFormed ns → IsRuled s → IsWellFormed s → has_pointer_pair s ≡ true → have_pointer_pair ns ≡ true
  case_crosses no_members x s a g r f h = absurd a
  case_crosses (bare n ns) x s a g r f h = go (bytes_eq n x) a (λ a. case_crosses ns x s a g r f h)
    where
      go : (b : Bool) → chosen b (◌≡◌ {A = Option Shape} (Some s) None) (AgreesCase x (Some s) ns) → (AgreesCase x (Some s) ns → have_pointer_pair ns ≡ true) → have_pointer_pair ns ≡ true
      go true a more = absurd (none_some None s refl (sym a))
      go false a more = more a
  case_crosses (typed n u ns) x s a g r f h = go (bytes_eq n x) a (λ a. pair_crosses u s a r f g.0 h) (λ a. case_crosses ns x s a g.1 r f h)
    where
      go : (b : Bool) → chosen b (Agrees s u) (AgreesCase x (Some s) ns) → (Agrees s u → has_pointer_pair u ≡ true) → (AgreesCase x (Some s) ns → have_pointer_pair ns ≡ true) → has_pointer_pair u || have_pointer_pair ns ≡ true
      go true a one more = left_holds (has_pointer_pair u) (have_pointer_pair ns) (one a)
      go false a one more = right_holds (has_pointer_pair u) (have_pointer_pair ns) (more a)

  pub places_cross : (ns ms : Members) → AgreesPlaces ms ns → AreRuled ms → AreWellFormed ms → AreWellFormed ns → have_pointer_pair ms ≡ true → have_pointer_pair ns ≡ true
  places_cross no_members no_members a r f g h = h
  places_cross (bare n ns) no_members a r f g h = absurd a
  places_cross (typed n u ns) no_members a r f g h = absurd a
  places_cross no_members (bare m ms) a r f g h = absurd a
  places_cross (bare n ns) (bare m ms) a r f g h = places_cross ns ms a r f g h
  places_cross (typed n u ns) (bare m ms) a r f g h = absurd a
  places_cross no_members (typed m s ms) a r f g h = absurd a
  places_cross (bare n ns) (typed m s ms) a r f g h = absurd a
  places_cross (typed n u ns) (typed m s ms) a r f g h =
      ⊎_elim (λ e. left_holds (has_pointer_pair u) (have_pointer_pair ns) (pair_crosses u s a.0 r.0 f.0 g.0 e)) (λ e. right_holds (has_pointer_pair u) (have_pointer_pair ns) (places_cross ns ms a.1 r.1 f.1 g.1 e))
      (either_true (has_pointer_pair s) (have_pointer_pair ms) h)

-- so it is with tuples
tuple_crosses : (ss ds : List Shape) → AreWellFormedTypes ss → AreWellFormedTypes ds → AgreesPlaces (tuple_members ss) (tuple_members ds) → any_pointer_pair ss ≡ true → any_pointer_pair ds ≡ true
tuple_crosses ss ds s d a h =
    sym (members_have_pointers 0 ds) ∙ places_cross (tuple_members ds) (tuple_members ss) a (members_ruled 0 ss s.valid) (members_formed 0 ss s.formed) (members_formed 0 ds d.formed) (members_have_pointers 0 ss ∙ h)

pub own_memories_serve : OwnMemoriesServe
own_memories_serve a lower_params lower_results lift_params lift_results agree back own = (
  λ h. let to = own.lift_params (tuple_crosses a.lower.params a.lift.params lower_params lift_params agree h) in record { from = own.lower_params h; to = to.memory; realloc = to.realloc },
  λ h. let to = own.lower_results (tuple_crosses a.lift.results a.lower.results lift_results lower_results back h) in record { from = own.lift_results h; to = to.memory; realloc = to.realloc },
)
