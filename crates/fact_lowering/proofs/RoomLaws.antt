-- What is counted of values whose members are counted one by one.
use Rattle.std.proofs.Common.{◌≡◌, ℕ, zero, suc, ◌+◌, ◌<◌, ◌≤◌, List, [], ◌∷◌, length, map, drop, get_or, Option, Some, None, refl, sym, ap, ◌∙◌, subst, arith, add-one, lit<}
use Rattle.std.specs.Prelude.{Bool, true, false, nat_le, ◌&&◌, sum_by, slice_get, if◌then◌else◌, IfSome, MatchOption}
use Rattle.std.specs.Str.{bytes_eq}
use Rattle.std.proofs.lemmas.Bool.{leb-true, leb-false}
use Rattle.std.proofs.lemmas.List.{drop_all}
use Rattle.std.proofs.lemmas.List.Sums.{sum_by-cons}
use Rattle.fact_types.specs.declared.interface.InterfaceType.{InterfaceType}
use Rattle.fact_types.specs.Agrees.{names_of}
use Rattle.fact_types.specs.Functions.{HaveShapes}
use Rattle.fact_types.specs.Heights.{IsMemberOf}
use Rattle.fact_types.specs.Shapes.{Shape, Members, no_members, bare, typed, layout_of}
use Rattle.fact_types.specs.Tables.{Tables, HasShape, IsLiveMember}
use Rattle.fact_types.specs.Tuples.{members_from, tuple_members, tuple_of}
use Rattle.fact_types.proofs.ShapeLaws.{same_some, none_some}
use Rattle.fact_values.specs.declared.value.Value.{Value}
use Rattle.fact_values.specs.declared.value.Value.TheOpen as o
use Rattle.fact_values.specs.declared.value.Value.TheVariants as value
use Rattle.fact_values.specs.Handles.{only}
use Rattle.fact_values.specs.Places.{count_of_members, typed_names}
use Rattle.fact_values.specs.Weight.{weight, weight_case, weight_element, weight_members}
use Rattle.fact_abi.specs.Finding.{IsFirstNamed, IsIndexOf, IsNowhere, IsTypeOf, member_type_at}
use Rattle.fact_abi.specs.Nodes.{AreLower, AreOf}
use Rattle.fact_abi.proofs.BelongLaws.{place_found, place_within, slice_front, slice_past}
use Rattle.fact_lowering.specs.declared.room.Asked.{Asked}
use Rattle.fact_lowering.specs.Counted.{AsksBy, CountsFor, measured_at, shape_of_name, stopped, weight_at, weights_of}
use Rattle.fact_lowering.specs.Room.{Measure, behind_first, each_once, first_shape, fits, greatest_bytes, inner_room, measured, measured_element, measured_fields, measured_payload, measured_places, or_own, shape_named, where_there}

-- ---- counts that are put together

-- So much is counted of what was passed, and the rest is left.
pub record Counting (total left : Measure → ℕ) (whole behind : ℕ) (all : Asked) : Type 0 where
  pub done : Measure → ℕ
  pub heavy : ℕ
  pub asks : AsksBy done heavy all
  pub same : (m : Measure) → total m ≡ done m + left m
  pub weighs : whole ≡ heavy + behind

pub counting_starts : (total : Measure → ℕ) (whole : ℕ) (all : Asked) → CountsFor 0 0 0 all → Counting total total whole whole all
counting_starts total whole all a = record { done = λ m. 0; heavy = 0; asks = a; same = λ m. omega arith; weighs = omega arith }

-- what two put together ask for
abbrev pub Adds : Asked → Asked → Asked → Type 0
Adds a b c = (m n p q v w : ℕ) → CountsFor m p v a → CountsFor n q w b → CountsFor (m + n) (p + q) (v + w) c

pub counting_on : {total left : Measure → ℕ} {whole behind : ℕ} {all : Asked} → Counting total left whole behind all → (here left' : Measure → ℕ) (w behind' : ℕ) (a all' : Asked) → ((m : Measure) → left m ≡ here m + left' m) → behind ≡ w + behind' → AsksBy here w a → Adds all a all'
    → Counting total left' whole behind' all'
counting_on {total} {left} {whole} {behind} {all} g here left' w behind' a all' parts heavy asks adds = record {
  done = λ m. g.done m + here m;
  heavy = g.heavy + w;
  asks = adds (g.done inner_room) (here inner_room) (g.done each_once) (here each_once) g.heavy w g.asks asks;
  same = λ m. omega (arith, g.same m, parts m);
  weighs = omega (arith, g.weighs, heavy);
}

asks_same : {m n p q v w : ℕ} {a : Asked} → m ≡ n → p ≡ q → v ≡ w → CountsFor m p v a → CountsFor n q w a
asks_same {m} {n} {p} {q} {v} {w} {a} e f g h = record { room_is = h.room_is ∙ ap stopped e; pieces_are = h.pieces_are ∙ ap stopped f; weight_is = h.weight_is ∙ ap stopped g }

pub counting_ends : {total left : Measure → ℕ} {whole behind : ℕ} {all : Asked} → Counting total left whole behind all → ((m : Measure) → left m ≡ 0) → behind ≡ 0 → AsksBy total whole all
counting_ends {total} {left} {whole} {behind} {all} g none light = asks_same (sym (same inner_room)) (sym (same each_once)) (let e : g.heavy ≡ whole = omega (arith, g.weighs, light) in e) g.asks
  where
    same : (m : Measure) → total m ≡ g.done m
    same m = omega (arith, g.same m, none m)

-- the same counts, told in another way
pub asks_as : (f g : Measure → ℕ) {v w : ℕ} {a : Asked} → ((m : Measure) → f m ≡ g m) → v ≡ w → CountsFor (f inner_room) (f each_once) v a → CountsFor (g inner_room) (g each_once) w a
asks_as f g {v} {w} {a} e h asks = asks_same (e inner_room) (e each_once) h asks

-- ---- places

abbrev taken_by : Option Shape → ℕ
taken_by None = 0
taken_by (Some s) = 1

behind_suc : (t : Tables) (types : List (Option InterfaceType)) (i : ℕ) (r : Members) → AreOf t (drop i types) r → AreOf t (drop (suc i) types) (behind_first r)
behind_suc t [] zero no_members h = tt
behind_suc t [] zero (bare n r) h = absurd h
behind_suc t [] zero (typed n s r) h = absurd h
behind_suc t [] (suc i) no_members h = tt
behind_suc t [] (suc i) (bare n r) h = absurd h
behind_suc t [] (suc i) (typed n s r) h = absurd h
behind_suc t (x ∷ xs) zero no_members h = absurd h
behind_suc t (x ∷ xs) zero (bare n r) h = h.1
behind_suc t (x ∷ xs) zero (typed n s r) h = h.1
behind_suc t (x ∷ xs) (suc i) r h = behind_suc t xs i r h

behind_has : (t : Tables) (types : List (Option InterfaceType)) (i : ℕ) (r : Members) → AreOf t (drop i types) r → AreOf t (drop (i + 1) types) (behind_first r)
behind_has t types i r h = subst (λ k. AreOf t (drop k types) (behind_first r)) (sym (add-one i)) (behind_suc t types i r h)

pub shape_at : (t : Tables) (types : List (Option InterfaceType)) (i : ℕ) (r : Members) → AreOf t (drop i types) r → IsTypeOf t (member_type_at types i) (first_shape r)
shape_at t [] zero no_members h = tt
shape_at t [] zero (bare n r) h = absurd h
shape_at t [] zero (typed n s r) h = absurd h
shape_at t [] (suc i) no_members h = tt
shape_at t [] (suc i) (bare n r) h = absurd h
shape_at t [] (suc i) (typed n s r) h = absurd h
shape_at t (x ∷ xs) zero no_members h = absurd h
shape_at t (x ∷ xs) zero (bare n r) h = subst (λ x. IsTypeOf t x None) (sym h.0) tt
shape_at t (x ∷ xs) zero (typed n s r) h = subst (λ x. IsTypeOf t x (Some s)) (sym h.0.1) h.0.2
shape_at t (x ∷ xs) (suc i) r h = shape_at t xs i r h

counted_taken : (t : Tables) (x : Option InterfaceType) (p : Option Shape) (n : ℕ) → IsTypeOf t x p → MatchOption x (n ≡ 0) (λ y. n ≡ 1) → n ≡ taken_by p
counted_taken t None None n h e = e
counted_taken t None (Some s) n h e = absurd h
counted_taken t (Some y) None n h e = absurd h
counted_taken t (Some y) (Some s) n h e = e

past_suc : {X : Type 0} (xs : List X) (i : ℕ) → slice_get xs i ≡ None → drop (suc i) xs ≡ []
past_suc [] i e = refl
past_suc (x ∷ xs) zero e = absurd (none_some (Some x) x e refl)
past_suc (x ∷ xs) (suc i) e = past_suc xs i e

past_too : {X : Type 0} (xs : List X) (i : ℕ) → slice_get xs i ≡ None → drop (i + 1) xs ≡ []
past_too xs i e = ap (λ k. drop k xs) (add-one i) ∙ past_suc xs i e

front_is : {X : Type 0} (xs : List X) (i : ℕ) (x : X) → slice_get xs i ≡ Some x → drop i xs ≡ x ∷ drop (i + 1) xs
front_is xs i x e = slice_front xs i x e ∙ ap (λ k. x ∷ drop k xs) (sym (add-one i))

no_places : (m : Measure) (ms ns : Members) → measured_places m ms [] ns ≡ 0
unfolding measured
no_places m no_members ns = refl
no_places m (bare n ms) ns = no_places m ms (behind_first ns)
no_places m (typed n s ms) ns = refl

no_weights : (ms : Members) → weight_members ms [] ≡ 0
unfolding weight
no_weights no_members = refl
no_weights (bare n ms) = no_weights ms
no_weights (typed n s ms) = refl

same_place : {X : Type 0} (f : List X → ℕ) (xs : List X) (at : ℕ) → f (drop at xs) ≡ 0 + f (drop (at + 0) xs)
same_place f xs at = let e : at ≡ at + 0 = omega arith in ap (λ k. f (drop k xs)) e ∙ (let z : f (drop (at + 0) xs) ≡ 0 + f (drop (at + 0) xs) = omega arith in z)

nothing : {n : ℕ} → n ≡ 0 → 0 ≡ 0 + n
nothing {n} e = omega (arith, e)

places_step : (m : Measure) (r q : Members) (vs : List Value) (at : ℕ) → measured_places m r (drop at vs) q ≡ measured_at m (first_shape r) (first_shape q) (slice_get vs at) + measured_places m (behind_first r) (drop (at + taken_by (first_shape r)) vs) (behind_first q)
unfolding measured
places_step m no_members q vs at = refl
places_step m (bare n r) q vs at = same_place (λ l. measured_places m r l (behind_first q)) vs at
places_step m (typed n s r) q vs at = go (slice_get vs at) refl
  where
    go : (v : Option Value) → slice_get vs at ≡ v → measured_places m (typed n s r) (drop at vs) q ≡ measured_at m (Some s) (first_shape q) v + measured_places m r (drop (at + 1) vs) (behind_first q)
    go None e =
        let none : measured_places m r (drop (at + 1) vs) (behind_first q) ≡ 0 = ap (λ l. measured_places m r l (behind_first q)) (past_too vs at e) ∙ no_places m r (behind_first q) in
        ap (λ l. measured_places m (typed n s r) l q) (slice_past vs at e) ∙ nothing none
    go (Some v) e = ap (λ l. measured_places m (typed n s r) l q) (front_is vs at v e)

weights_step : (r : Members) (vs : List Value) (at : ℕ) → weight_members r (drop at vs) ≡ weight_at (first_shape r) (slice_get vs at) + weight_members (behind_first r) (drop (at + taken_by (first_shape r)) vs)
unfolding weight
weights_step no_members vs at = refl
weights_step (bare n r) vs at = same_place (weight_members r) vs at
weights_step (typed n s r) vs at = go (slice_get vs at) refl
  where
    go : (v : Option Value) → slice_get vs at ≡ v → weight_members (typed n s r) (drop at vs) ≡ weight_at (Some s) v + weight_members r (drop (at + 1) vs)
    go None e =
        let none : weight_members r (drop (at + 1) vs) ≡ 0 = ap (weight_members r) (past_too vs at e) ∙ no_weights r in
        ap (weight_members (typed n s r)) (slice_past vs at e) ∙ nothing none
    go (Some v) e = ap (weight_members (typed n s r)) (front_is vs at v e)

pub count_few : (x : Option InterfaceType) (n : ℕ) → MatchOption x (n ≡ 0) (λ y. n ≡ 1) → n ≤ 1
count_few None n e = omega (arith, e)
count_few (Some y) n e = omega (arith, e)

-- a member that is there is live
pub live_member : (t : Tables) (owner : InterfaceType) (types : List (Option InterfaceType)) (i : ℕ) (z : Option InterfaceType) → AreLower t owner types → z ≡ member_type_at types i → IsLiveMember t z
live_member t owner types i None w e = tt
live_member t owner types i (Some y) w e = (place_within t owner types i y w (sym e)).live

pub live_there : (t : Tables) (owner : InterfaceType) (types : List (Option InterfaceType)) (z : Option InterfaceType) → AreLower t owner types → IfSome z (λ y. (i : ℕ) × (slice_get types i ≡ Some (Some y))) → IsLiveMember t z
live_there t owner types None w h = tt
live_there t owner types (Some y) w h = (w.each h.0 y h.1).live

there : {X : Type 0} (xs : List X) (i : ℕ) → i < length xs → slice_get xs i ≡ None → ⊥
there [] i lt e = omega (arith, lt)
there (x ∷ xs) zero lt e = none_some (Some x) x e refl
there (x ∷ xs) (suc i) lt e = there xs i (omega (arith, lt)) e

-- what asking of a member tells
abbrev pub TellsAt : Tables → Option InterfaceType → Option InterfaceType → Option Value → Asked → Type 0
TellsAt t y z v a = (x p : Option Shape) → IsTypeOf t y x → IsTypeOf t z p → AsksBy (λ m. measured_at m x p v) (weight_at x v) a

pub tells_along : (t : Tables) (y y' z z' : Option InterfaceType) (v : Option Value) (a : Asked) → y ≡ y' → z ≡ z' → TellsAt t y z v a → TellsAt t y' z' v a
tells_along t y y' z z' v a e f h = subst (λ y. TellsAt t y z' v a) e (subst (λ z. TellsAt t y z v a) f h)

pub at_both : (t : Tables) (y z : Option InterfaceType) (u w : InterfaceType) (o : Option Value) (v : Value) (a : Asked) → y ≡ Some u → z ≡ Some w → o ≡ Some v → ((s d : Shape) → HasShape t u s → HasShape t w d → AsksBy (λ m. measured m s d v) (weight s v) a) → TellsAt t y z o a
at_both t y z u w o v a e f g tells None p h k = absurd (subst (λ y. IsTypeOf t y None) e h)
at_both t y z u w o v a e f g tells (Some s) None h k = absurd (subst (λ z. IsTypeOf t z None) f k)
at_both t y z u w o v a e f g tells (Some s) (Some d) h k =
    subst (λ o. AsksBy (λ m. measured_at m (Some s) (Some d) o) (weight_at (Some s) o) a) (sym g) (tells s d (subst (λ y. IsTypeOf t y (Some s)) e h) (subst (λ z. IsTypeOf t z (Some d)) f k))

pub at_own : (t : Tables) (y z : Option InterfaceType) (u : InterfaceType) (o : Option Value) (v : Value) (a : Asked) → y ≡ Some u → z ≡ None → o ≡ Some v → ((s d : Shape) → HasShape t u s → HasShape t u d → AsksBy (λ m. measured m s d v) (weight s v) a) → TellsAt t y z o a
at_own t y z u o v a e f g tells None p h k = absurd (subst (λ y. IsTypeOf t y None) e h)
at_own t y z u o v a e f g tells (Some s) (Some d) h k = absurd (subst (λ z. IsTypeOf t z (Some d)) f k)
at_own t y z u o v a e f g tells (Some s) None h k =
    let is = subst (λ y. IsTypeOf t y (Some s)) e h in
    subst (λ o. AsksBy (λ m. measured_at m (Some s) None o) (weight_at (Some s) o) a) (sym g) (tells s s is is)

-- In front of the member of a place, with so many values before it.
pub record PlacesLeft (t : Tables) (ms ns : Members) (sources targets : List (Option InterfaceType)) (i at : ℕ) (vs : List Value) (all : Asked) : Type 0 where
  pub rest : Members
  pub other : Members
  pub has : AreOf t (drop i sources) rest
  pub other_has : AreOf t (drop i targets) other
  pub counts : Counting (λ m. measured_places m ms vs ns) (λ m. measured_places m rest (drop at vs) other) (weight_members ms vs) (weight_members rest (drop at vs)) all

pub places_start : (t : Tables) (ms ns : Members) (sources targets : List (Option InterfaceType)) (vs : List Value) (all : Asked) → AreOf t sources ms → AreOf t targets ns → CountsFor 0 0 0 all → PlacesLeft t ms ns sources targets 0 0 vs all
places_start t ms ns sources targets vs all h g a = record { rest = ms; other = ns; has = h; other_has = g; counts = counting_starts (λ m. measured_places m ms vs ns) (weight_members ms vs) all a }

pub places_on : {t : Tables} {ms ns : Members} {sources targets : List (Option InterfaceType)} {i at : ℕ} {vs : List Value} {all : Asked} → PlacesLeft t ms ns sources targets i at vs all → (y z : Option InterfaceType) (v : Option Value) (a all' : Asked) (k at' : ℕ)
    → y ≡ member_type_at sources i → z ≡ member_type_at targets i → v ≡ slice_get vs at → TellsAt t y z v a → Adds all a all' → MatchOption y (k ≡ 0) (λ y. k ≡ 1) → at' ≡ at + k
    → PlacesLeft t ms ns sources targets (i + 1) at' vs all'
places_on {t} {ms} {ns} {sources} {targets} {i} {at} {vs} {all} g y z v a all' k at' own other value tells adds few moved =
    let x_is : IsTypeOf t y (first_shape g.rest) = subst (λ y. IsTypeOf t y (first_shape g.rest)) (sym own) (shape_at t sources i g.rest g.has) in
    let p_is : IsTypeOf t z (first_shape g.other) = subst (λ z. IsTypeOf t z (first_shape g.other)) (sym other) (shape_at t targets i g.other g.other_has) in
    let to : at + taken_by (first_shape g.rest) ≡ at' = ap (λ n. at + n) (sym (counted_taken t y (first_shape g.rest) k x_is few)) ∙ sym moved in
    record {
      rest = behind_first g.rest;
      other = behind_first g.other;
      has = behind_has t sources i g.rest g.has;
      other_has = behind_has t targets i g.other g.other_has;
      counts = counting_on g.counts (λ m. measured_at m (first_shape g.rest) (first_shape g.other) v) (λ m. measured_places m (behind_first g.rest) (drop at' vs) (behind_first g.other)) (weight_at (first_shape g.rest) v) (weight_members (behind_first g.rest) (drop at' vs)) a all'
          (λ m. places_step m g.rest g.other vs at ∙ (λ j. measured_at m (first_shape g.rest) (first_shape g.other) (sym value j) + measured_places m (behind_first g.rest) (drop (to j) vs) (behind_first g.other)))
          (weights_step g.rest vs at ∙ (λ j. weight_at (first_shape g.rest) (sym value j) + weight_members (behind_first g.rest) (drop (to j) vs)))
          (tells (first_shape g.rest) (first_shape g.other) x_is p_is) adds;
    }

none_placed : (t : Tables) (m : Measure) (r q : Members) (vs : List Value) → AreOf t [] r → measured_places m r vs q ≡ 0
unfolding measured
none_placed t m no_members q vs h = refl
none_placed t m (bare n r) q vs h = absurd h
none_placed t m (typed n s r) q vs h = absurd h

none_weighed : (t : Tables) (r : Members) (vs : List Value) → AreOf t [] r → weight_members r vs ≡ 0
unfolding weight
none_weighed t no_members vs h = refl
none_weighed t (bare n r) vs h = absurd h
none_weighed t (typed n s r) vs h = absurd h

pub places_end : {t : Tables} {ms ns : Members} {sources targets : List (Option InterfaceType)} {i at : ℕ} {vs : List Value} {all : Asked} → length sources ≤ i → PlacesLeft t ms ns sources targets i at vs all → AsksBy (λ m. measured_places m ms vs ns) (weight_members ms vs) all
places_end {t} {ms} {ns} {sources} {targets} {i} {at} {vs} {all} ge g =
    let none : AreOf t [] g.rest = subst (λ xs. AreOf t xs g.rest) (drop_all i sources ge) g.has in
    counting_ends g.counts (λ m. none_placed t m g.rest g.other (drop at vs) none) (none_weighed t g.rest (drop at vs) none)

-- ---- fields

slice_of_drop : {X : Type 0} (xs : List X) (i : ℕ) (x : X) (ys : List X) → drop i xs ≡ x ∷ ys → slice_get xs i ≡ Some x
slice_of_drop [] zero x ys e = absurd (none_some None x refl (ap (λ l. slice_get l 0) e))
slice_of_drop [] (suc i) x ys e = absurd (none_some None x refl (ap (λ l. slice_get l 0) e))
slice_of_drop (z ∷ xs) zero x ys e = ap (λ l. slice_get l 0) e
slice_of_drop (z ∷ xs) (suc i) x ys e = slice_of_drop xs i x ys e

drop_suc : {X : Type 0} (xs : List X) (i : ℕ) (x : X) (ys : List X) → drop i xs ≡ x ∷ ys → drop (suc i) xs ≡ ys
drop_suc [] zero x ys e = absurd (none_some None x refl (ap (λ l. slice_get l 0) e))
drop_suc [] (suc i) x ys e = absurd (none_some None x refl (ap (λ l. slice_get l 0) e))
drop_suc (z ∷ xs) zero x ys e = ap (drop 1) e
drop_suc (z ∷ xs) (suc i) x ys e = drop_suc xs i x ys e

drop_next : {X : Type 0} (xs : List X) (i : ℕ) (x : X) (ys : List X) → drop i xs ≡ x ∷ ys → drop (i + 1) xs ≡ ys
drop_next xs i x ys e = ap (λ k. drop k xs) (add-one i) ∙ drop_suc xs i x ys e

abbrev Fields : Type 0
Fields = List (List ℕ × Value)

abbrev values_of : Fields → List Value
values_of fs = map (λ f. f.1) fs

value_none : (fs : Fields) (i : ℕ) → slice_get (values_of fs) i ≡ None → slice_get fs i ≡ None
value_none [] zero e = refl
value_none [] (suc i) e = refl
value_none (f ∷ fs) zero e = absurd (none_some (Some f.1) f.1 e refl)
value_none (f ∷ fs) (suc i) e = value_none fs i e

value_some : (fs : Fields) (i : ℕ) (v : Value) → slice_get (values_of fs) i ≡ Some v → (f : List ℕ × Value) × (slice_get fs i ≡ Some f) × (f.1 ≡ v)
value_some [] zero v e = absurd (none_some None v refl e)
value_some [] (suc i) v e = absurd (none_some None v refl e)
value_some (f ∷ fs) zero v e = (f, refl, same_some (Some f.1) f.1 v refl e)
value_some (f ∷ fs) (suc i) v e = value_some fs i v e

no_fields : (m : Measure) (ms ns : Members) → measured_fields m ms [] ns ≡ 0
unfolding measured
no_fields m no_members ns = refl
no_fields m (bare n ms) ns = no_fields m ms ns
no_fields m (typed n s ms) ns = refl

fields_step : (m : Measure) (r ns : Members) (names : List (List ℕ)) (fs : Fields) (at : ℕ) → drop at names ≡ typed_names r
    → measured_fields m r (drop at fs) ns ≡ measured_at m (first_shape r) (shape_of_name (slice_get names at) ns) (slice_get (values_of fs) at) + measured_fields m (behind_first r) (drop (at + taken_by (first_shape r)) fs) ns
unfolding measured
fields_step m no_members ns names fs at e = refl
fields_step m (bare n r) ns names fs at e = same_place (λ l. measured_fields m r l ns) fs at
fields_step m (typed n s r) ns names fs at e =
    go (slice_get (values_of fs) at) refl
    ∙ ap (λ x. measured_at m (Some s) (shape_of_name x ns) (slice_get (values_of fs) at) + measured_fields m r (drop (at + 1) fs) ns) (sym (slice_of_drop names at n (typed_names r) e))
  where
    go : (v : Option Value) → slice_get (values_of fs) at ≡ v → measured_fields m (typed n s r) (drop at fs) ns ≡ measured_at m (Some s) (shape_named n ns) v + measured_fields m r (drop (at + 1) fs) ns
    go None e =
        let p = value_none fs at e in
        let none : measured_fields m r (drop (at + 1) fs) ns ≡ 0 = ap (λ l. measured_fields m r l ns) (past_too fs at p) ∙ no_fields m r ns in
        ap (λ l. measured_fields m (typed n s r) l ns) (slice_past fs at p) ∙ nothing none
    go (Some v) e =
        let (f, there, is) = value_some fs at v e in
        ap (λ l. measured_fields m (typed n s r) l ns) (front_is fs at f there) ∙ ap (λ v. measured m s (or_own s (shape_named n ns)) v + measured_fields m r (drop (at + 1) fs) ns) is

pub record FieldsLeft (t : Tables) (ms ns : Members) (sources : List (Option InterfaceType)) (names : List (List ℕ)) (i at : ℕ) (fs : Fields) (all : Asked) : Type 0 where
  pub rest : Members
  pub has : AreOf t (drop i sources) rest
  pub named : drop at names ≡ typed_names rest
  pub counts : Counting (λ m. measured_fields m ms fs ns) (λ m. measured_fields m rest (drop at fs) ns) (weight_members ms (values_of fs)) (weight_members rest (drop at (values_of fs))) all

pub fields_start : (t : Tables) (ms ns : Members) (sources : List (Option InterfaceType)) (names : List (List ℕ)) (fs : Fields) (all : Asked) → AreOf t sources ms → names ≡ typed_names ms → CountsFor 0 0 0 all → FieldsLeft t ms ns sources names 0 0 fs all
fields_start t ms ns sources names fs all h n a = record { rest = ms; has = h; named = n; counts = counting_starts (λ m. measured_fields m ms fs ns) (weight_members ms (values_of fs)) all a }

names_on : (r : Members) (names : List (List ℕ)) (at : ℕ) → drop at names ≡ typed_names r → drop (at + taken_by (first_shape r)) names ≡ typed_names (behind_first r)
names_on no_members names at e = (let z : at + 0 ≡ at = omega arith in ap (λ k. drop k names) z) ∙ e
names_on (bare n r) names at e = (let z : at + 0 ≡ at = omega arith in ap (λ k. drop k names) z) ∙ e
names_on (typed n s r) names at e = drop_next names at n (typed_names r) e

pub fields_on : {t : Tables} {ms ns : Members} {sources : List (Option InterfaceType)} {names : List (List ℕ)} {i at : ℕ} {fs : Fields} {all : Asked} → FieldsLeft t ms ns sources names i at fs all → (y z : Option InterfaceType) (v : Option Value) (a all' : Asked) (k at' : ℕ)
    → y ≡ member_type_at sources i → IsTypeOf t z (shape_of_name (slice_get names at) ns) → v ≡ slice_get (values_of fs) at → TellsAt t y z v a → Adds all a all' → MatchOption y (k ≡ 0) (λ y. k ≡ 1) → at' ≡ at + k
    → FieldsLeft t ms ns sources names (i + 1) at' fs all'
fields_on {t} {ms} {ns} {sources} {names} {i} {at} {fs} {all} g y z v a all' k at' own p_is value tells adds few moved =
    let x_is : IsTypeOf t y (first_shape g.rest) = subst (λ y. IsTypeOf t y (first_shape g.rest)) (sym own) (shape_at t sources i g.rest g.has) in
    let to : at + taken_by (first_shape g.rest) ≡ at' = ap (λ n. at + n) (sym (counted_taken t y (first_shape g.rest) k x_is few)) ∙ sym moved in
    record {
      rest = behind_first g.rest;
      has = behind_has t sources i g.rest g.has;
      named = ap (λ k. drop k names) (sym to) ∙ names_on g.rest names at g.named;
      counts = counting_on g.counts (λ m. measured_at m (first_shape g.rest) (shape_of_name (slice_get names at) ns) v) (λ m. measured_fields m (behind_first g.rest) (drop at' fs) ns) (weight_at (first_shape g.rest) v) (weight_members (behind_first g.rest) (drop at' (values_of fs))) a all'
          (λ m. fields_step m g.rest ns names fs at g.named ∙ (λ j. measured_at m (first_shape g.rest) (shape_of_name (slice_get names at) ns) (sym value j) + measured_fields m (behind_first g.rest) (drop (to j) fs) ns))
          (weights_step g.rest (values_of fs) at ∙ (λ j. weight_at (first_shape g.rest) (sym value j) + weight_members (behind_first g.rest) (drop (to j) (values_of fs))))
          (tells (first_shape g.rest) (shape_of_name (slice_get names at) ns) x_is p_is) adds;
    }

none_fielded : (t : Tables) (m : Measure) (r ns : Members) (fs : Fields) → AreOf t [] r → measured_fields m r fs ns ≡ 0
unfolding measured
none_fielded t m no_members ns fs h = refl
none_fielded t m (bare n r) ns fs h = absurd h
none_fielded t m (typed n s r) ns fs h = absurd h

pub fields_end : {t : Tables} {ms ns : Members} {sources : List (Option InterfaceType)} {names : List (List ℕ)} {i at : ℕ} {fs : Fields} {all : Asked} → length sources ≤ i → FieldsLeft t ms ns sources names i at fs all → AsksBy (λ m. measured_fields m ms fs ns) (weight_members ms (values_of fs)) all
fields_end {t} {ms} {ns} {sources} {names} {i} {at} {fs} {all} ge g =
    let none : AreOf t [] g.rest = subst (λ xs. AreOf t xs g.rest) (drop_all i sources ge) g.has in
    counting_ends g.counts (λ m. none_fielded t m g.rest ns (drop at fs) none) (none_weighed t g.rest (drop at (values_of fs)) none)

-- ---- one behind the other

abbrev pub SumsLeft : {X : Type 0} → (Measure → X → ℕ) → (X → ℕ) → List X → ℕ → Asked → Type 0
SumsLeft f h xs i all = Counting (λ m. sum_by (f m) xs) (λ m. sum_by (f m) (drop i xs)) (sum_by h xs) (sum_by h (drop i xs)) all

pub sums_start : {X : Type 0} (f : Measure → X → ℕ) (h : X → ℕ) (xs : List X) (all : Asked) → CountsFor 0 0 0 all → SumsLeft f h xs 0 all
sums_start f h xs all a = counting_starts (λ m. sum_by (f m) xs) (sum_by h xs) all a

sum_step : {X : Type 0} (f : X → ℕ) (xs : List X) (i : ℕ) (x : X) → slice_get xs i ≡ Some x → sum_by f (drop i xs) ≡ f x + sum_by f (drop (i + 1) xs)
sum_step f xs i x e = ap (sum_by f) (front_is xs i x e) ∙ sum_by-cons f x (drop (i + 1) xs)

pub sums_on : {X : Type 0} (f : Measure → X → ℕ) (h : X → ℕ) (xs : List X) (i : ℕ) (x : X) (all a all' : Asked) → slice_get xs i ≡ Some x → AsksBy (λ m. f m x) (h x) a → Adds all a all' → SumsLeft f h xs i all → SumsLeft f h xs (i + 1) all'
sums_on f h xs i x all a all' there asks adds g = counting_on g (λ m. f m x) (λ m. sum_by (f m) (drop (i + 1) xs)) (h x) (sum_by h (drop (i + 1) xs)) a all' (λ m. sum_step (f m) xs i x there) (sum_step h xs i x there) asks adds

pub sums_end : {X : Type 0} (f : Measure → X → ℕ) (h : X → ℕ) (xs : List X) (i : ℕ) (all : Asked) → length xs ≤ i → SumsLeft f h xs i all → AsksBy (λ m. sum_by (f m) xs) (sum_by h xs) all
sums_end f h xs i all ge g = counting_ends g (λ m. ap (sum_by (f m)) (drop_all i xs ge)) (ap (sum_by h) (drop_all i xs ge))

-- weights alone
abbrev pub WeightsLeft : Option Shape → List Value → ℕ → Asked → Type 0
WeightsLeft x vs i all = Counting (λ m. 0) (λ m. 0) (weights_of x vs) (weights_of x (drop i vs)) all

pub weights_start : (x : Option Shape) (vs : List Value) (all : Asked) → CountsFor 0 0 0 all → WeightsLeft x vs 0 all
weights_start x vs all a = counting_starts (λ m. 0) (weights_of x vs) all a

pub weights_on : (x : Option Shape) (vs : List Value) (i : ℕ) (v : Value) (all a all' : Asked) → slice_get vs i ≡ Some v → CountsFor 0 0 (weight_at x (Some v)) a → Adds all a all' → WeightsLeft x vs i all → WeightsLeft x vs (i + 1) all'
weights_on x vs i v all a all' there asks adds g = counting_on g (λ m. 0) (λ m. 0) (weight_at x (Some v)) (weights_of x (drop (i + 1) vs)) a all' (λ m. refl) (sum_step (λ v. weight_at x (Some v)) vs i v there) asks adds

pub weights_end : (x : Option Shape) (vs : List Value) (i : ℕ) (all : Asked) → length vs ≤ i → WeightsLeft x vs i all → CountsFor 0 0 (weights_of x vs) all
weights_end x vs i all ge g = counting_ends g (λ m. refl) (ap (weights_of x) (drop_all i vs ge))

-- an element is a value of the first member
pub element_at : (m : Measure) (ms ns : Members) (v : Value) → measured_at m (first_shape ms) (first_shape ns) (Some v) ≡ measured_element m ms v ns
unfolding measured
element_at m no_members ns v = refl
element_at m (bare n ms) ns v = refl
element_at m (typed n s ms) ns v = refl

pub element_weight : (ms : Members) (v : Value) → weight_at (first_shape ms) (Some v) ≡ weight_element ms v
unfolding weight
element_weight no_members v = refl
element_weight (bare n ms) v = refl
element_weight (typed n s ms) v = refl

pub elements_on : (t : Tables) (ms ns : Members) (sources targets : List (Option InterfaceType)) (vs : List Value) (i : ℕ) (all a all' : Asked) (y z : Option InterfaceType) (v : Option Value) → i < length vs → AreOf t sources ms → AreOf t targets ns → y ≡ member_type_at sources 0 → z ≡ member_type_at targets 0
    → v ≡ slice_get vs i → TellsAt t y z v a → Adds all a all' → SumsLeft (λ m w. measured_element m ms w ns) (λ w. weight_element ms w) vs i all → SumsLeft (λ m w. measured_element m ms w ns) (λ w. weight_element ms w) vs (i + 1) all'
elements_on t ms ns sources targets vs i all a all' y z v lt h g own other value tells adds left = go (slice_get vs i) refl
  where
    x_is : IsTypeOf t y (first_shape ms)
    x_is = subst (λ y. IsTypeOf t y (first_shape ms)) (sym own) (shape_at t sources 0 ms h)

    p_is : IsTypeOf t z (first_shape ns)
    p_is = subst (λ z. IsTypeOf t z (first_shape ns)) (sym other) (shape_at t targets 0 ns g)

    go : (u : Option Value) → slice_get vs i ≡ u → SumsLeft (λ m w. measured_element m ms w ns) (λ w. weight_element ms w) vs (i + 1) all'
    go None e = absurd (there vs i lt e)
    go (Some w) e =
        let here = tells (first_shape ms) (first_shape ns) x_is p_is in
        let is : v ≡ Some w = value ∙ e in
        sums_on (λ m w. measured_element m ms w ns) (λ w. weight_element ms w) vs i w all a all' e (asks_as (λ m. measured_at m (first_shape ms) (first_shape ns) v) (λ m. measured_element m ms w ns) (λ m. ap (measured_at m (first_shape ms) (first_shape ns)) is ∙ element_at m ms ns w) (ap (weight_at (first_shape ms)) is ∙ element_weight ms w) here) adds left

-- ---- payloads

pub payload_at : (m : Measure) (ms : Members) (x : List ℕ) (vs : List Value) (p : Option Shape) → measured_at m (shape_named x ms) p (only vs) ≡ measured_payload m ms x vs p
unfolding measured
payload_at m no_members x vs p = refl
payload_at m (bare n ms) x vs p = go (bytes_eq n x) (payload_at m ms x vs p)
  where
    go : (b : Bool) → measured_at m (shape_named x ms) p (only vs) ≡ measured_payload m ms x vs p → measured_at m (if b then None else shape_named x ms) p (only vs) ≡ (if b then 0 else measured_payload m ms x vs p)
    go true h = refl
    go false h = h
payload_at m (typed n s ms) x vs p = go (bytes_eq n x) (payload_at m ms x vs p)
  where
    one : (v : Option Value) → measured_at m (Some s) p v ≡ where_there v (λ v. measured m s (or_own s p) v)
    one None = refl
    one (Some v) = refl

    go : (b : Bool) → measured_at m (shape_named x ms) p (only vs) ≡ measured_payload m ms x vs p → measured_at m (if b then Some s else shape_named x ms) p (only vs) ≡ (if b then where_there (only vs) (λ v. measured m s (or_own s p) v) else measured_payload m ms x vs p)
    go true h = one (only vs)
    go false h = h

nothing_weighs : (vs : List Value) → weights_of None vs ≡ 0
nothing_weighs [] = refl
nothing_weighs (v ∷ vs) = sum_by-cons (λ v. weight_at None (Some v)) v vs ∙ sym (nothing (nothing_weighs vs))

pub payload_weights : (ms : Members) (x : List ℕ) (vs : List Value) → weights_of (shape_named x ms) vs ≡ weight_case ms x vs
unfolding weight
payload_weights no_members x vs = nothing_weighs vs
payload_weights (bare n ms) x vs = go (bytes_eq n x) (payload_weights ms x vs)
  where
    go : (b : Bool) → weights_of (shape_named x ms) vs ≡ weight_case ms x vs → weights_of (if b then None else shape_named x ms) vs ≡ (if b then 0 else weight_case ms x vs)
    go true h = nothing_weighs vs
    go false h = h
payload_weights (typed n s ms) x vs = go (bytes_eq n x) (payload_weights ms x vs)
  where
    go : (b : Bool) → weights_of (shape_named x ms) vs ≡ weight_case ms x vs → weights_of (if b then Some s else shape_named x ms) vs ≡ (if b then sum_by (λ v. weight s v) vs else weight_case ms x vs)
    go true h = refl
    go false h = h

pub weights_here : (x : Option Shape) (p : Option Shape) (t : Tables) (y z : Option InterfaceType) (vs : List Value) (i : ℕ) (all a b all' : Asked) (v : Option Value) → i < length vs → IsTypeOf t y x → IsTypeOf t z p → v ≡ slice_get vs i → TellsAt t y z v a
    → ((m p w : ℕ) → CountsFor m p w a → CountsFor 0 0 w b) → Adds all b all' → WeightsLeft x vs i all → WeightsLeft x vs (i + 1) all'
weights_here x p t y z vs i all a b all' v lt h g value tells alone adds left = go (slice_get vs i) refl
  where
    go : (u : Option Value) → slice_get vs i ≡ u → WeightsLeft x vs (i + 1) all'
    go None e = absurd (there vs i lt e)
    go (Some w) e =
        let is : v ≡ Some w = value ∙ e in
        weights_on x vs i w all b all' e (alone (measured_at inner_room x p (Some w)) (measured_at each_once x p (Some w)) (weight_at x (Some w)) (subst (λ v. AsksBy (λ m. measured_at m x p v) (weight_at x v) a) is (tells x p h g))) adds left

pub payload_one : (x p : Option Shape) (vs : List Value) (v : Value) (a : Asked) → only vs ≡ Some v → AsksBy (λ m. measured_at m x p (Some v)) (weight_at x (Some v)) a → AsksBy (λ m. measured_at m x p (only vs)) (weights_of x vs) a
payload_one x p [] v a e h = absurd (none_some None v refl e)
payload_one x p (w ∷ []) v a e h =
    let is = same_some (Some w) w v refl e in
    let one : weight_at x (Some v) ≡ 0 + weight_at x (Some w) = ap (λ v. weight_at x (Some v)) (sym is) ∙ (let z : weight_at x (Some w) ≡ 0 + weight_at x (Some w) = omega arith in z) in
    asks_as (λ m. measured_at m x p (Some v)) (λ m. measured_at m x p (Some w)) (λ m. ap (λ v. measured_at m x p (Some v)) (sym is)) one h
payload_one x p (w ∷ u ∷ vs) v a e h = absurd (none_some None v refl e)

pub payload_many : (x p : Option Shape) (vs : List Value) (a : Asked) → only vs ≡ None → CountsFor 0 0 (weights_of x vs) a → AsksBy (λ m. measured_at m x p (only vs)) (weights_of x vs) a
payload_many x p vs a e h = asks_as (λ m. 0) (λ m. measured_at m x p (only vs)) (λ m. none m x ∙ ap (measured_at m x p) (sym e)) refl h
  where
    none : (m : Measure) (x : Option Shape) → 0 ≡ measured_at m x p None
    none m None = refl
    none m (Some s) = refl

pub within_there : (t : Tables) (owner : InterfaceType) (types : List (Option InterfaceType)) (z : Option InterfaceType) → AreLower t owner types → IfSome z (λ y. (i : ℕ) × (slice_get types i ≡ Some (Some y))) → (y : InterfaceType) → z ≡ Some y → IsMemberOf t y owner
within_there t owner types None w h y e = absurd (none_some None y refl e)
within_there t owner types (Some u) w h y e = subst (λ y. IsMemberOf t y owner) (same_some (Some u) u y refl e) (w.each h.0 u h.1)

pub count_members : (t : Tables) (types : List (Option InterfaceType)) (ms : Members) → AreOf t types ms → length types ≡ count_of_members ms
count_members t [] no_members h = refl
count_members t (x ∷ xs) no_members h = absurd h
count_members t [] (bare n ms) h = absurd h
count_members t (x ∷ xs) (bare n ms) h = ap suc (count_members t xs ms h.1)
count_members t [] (typed n s ms) h = absurd h
count_members t (x ∷ xs) (typed n s ms) h = ap suc (count_members t xs ms h.1)

-- the first member of a name
pub named_nowhere : (x : List ℕ) (ms : Members) → IsNowhere x (names_of ms) → shape_named x ms ≡ None
named_nowhere x no_members h = refl
named_nowhere x (bare n ms) h = ap (λ (b : Bool). if b then None else shape_named x ms) h.0 ∙ named_nowhere x ms h.1
named_nowhere x (typed n s ms) h = ap (λ (b : Bool). if b then Some s else shape_named x ms) h.0 ∙ named_nowhere x ms h.1

pub named_here : (t : Tables) (x : List ℕ) (types : List (Option InterfaceType)) (ms : Members) (i : ℕ) → AreOf t types ms → IsFirstNamed x (names_of ms) i → IsTypeOf t (member_type_at types i) (shape_named x ms)
named_here t x types no_members i h f = absurd f
named_here t x [] (bare n ms) i h f = absurd h
named_here t x (y ∷ types) (bare n ms) zero h f = subst (λ (b : Bool). IsTypeOf t y (if b then None else shape_named x ms)) (sym f) (subst (λ y. IsTypeOf t y None) (sym h.0) tt)
named_here t x (y ∷ types) (bare n ms) (suc i) h f = subst (λ (b : Bool). IsTypeOf t (member_type_at types i) (if b then None else shape_named x ms)) (sym f.0) (named_here t x types ms i h.1 f.1)
named_here t x [] (typed n s ms) i h f = absurd h
named_here t x (y ∷ types) (typed n s ms) zero h f = subst (λ (b : Bool). IsTypeOf t y (if b then Some s else shape_named x ms)) (sym f) (subst (λ y. IsTypeOf t y (Some s)) (sym h.0.1) h.0.2)
named_here t x (y ∷ types) (typed n s ms) (suc i) h f = subst (λ (b : Bool). IsTypeOf t (member_type_at types i) (if b then Some s else shape_named x ms)) (sym f.0) (named_here t x types ms i h.1 f.1)

pub named_found : (t : Tables) (x : List ℕ) (names : List (List ℕ)) (types : List (Option InterfaceType)) (ms : Members) (o : Option ℕ) (i : ℕ) → names ≡ names_of ms → AreOf t types ms → o ≡ Some i → IsIndexOf x names o → IsTypeOf t (member_type_at types i) (shape_named x ms)
named_found t x names types ms None i n h e g = absurd (none_some None i refl e)
named_found t x names types ms (Some j) i n h e g = subst (λ i. IsTypeOf t (member_type_at types i) (shape_named x ms)) (same_some (Some j) j i refl e) (named_here t x types ms j h (subst (λ ns. IsFirstNamed x ns j) n g))

pub named_missing : (t : Tables) (x : List ℕ) (names : List (List ℕ)) (ms : Members) (o : Option ℕ) → names ≡ names_of ms → o ≡ None → IsIndexOf x names o → IsTypeOf t None (shape_named x ms)
named_missing t x names ms None n e g = subst (IsTypeOf t None) (sym (named_nowhere x ms (subst (IsNowhere x) n g))) tt
named_missing t x names ms (Some j) n e g = absurd (none_some (Some j) j e refl)

pub found_there : (types : List (Option InterfaceType)) (i : ℕ) (z : Option InterfaceType) → z ≡ member_type_at types i → IfSome z (λ y. (i : ℕ) × (slice_get types i ≡ Some (Some y)))
found_there types i None e = tt
found_there types i (Some y) e = (i, place_found types i y (sym e))

-- ---- an entry: a key and a value

pub entry_counts : (t : Tables) (x y : InterfaceType) (types others : List (Option InterfaceType)) (ms ns : Members) (k w : Value) (a b c : Asked) → types ≡ Some x ∷ Some y ∷ [] → AreOf t types ms → AreOf t others ns
    → TellsAt t (member_type_at types 0) (member_type_at others 0) (Some k) a → TellsAt t (member_type_at types 1) (member_type_at others 1) (Some w) b → Adds a b c
    → AsksBy (λ m. measured_places m ms (k ∷ w ∷ []) ns) (weight_members ms (k ∷ w ∷ [])) c
unfolding measured weight
entry_counts t x y types others ms ns k w a b c two h g first second adds =
    let own = shape_at t types 0 ms h in
    let other = shape_at t others 0 ns g in
    let rest = behind_has t types 0 ms h in
    let own' = shape_at t types 1 (behind_first ms) (behind_suc t types 0 ms h) in
    let other' = shape_at t others 1 (behind_first ns) (behind_suc t others 0 ns g) in
    asks_as (λ m. measured_at m (first_shape ms) (first_shape ns) (Some k) + measured_at m (first_shape (behind_first ms)) (first_shape (behind_first ns)) (Some w)) (λ m. measured_places m ms (k ∷ w ∷ []) ns) (λ m. counted m ms (subst (λ l. AreOf t l ms) two h)) (heavy ms (subst (λ l. AreOf t l ms) two h))
    (adds (measured_at inner_room (first_shape ms) (first_shape ns) (Some k)) (measured_at inner_room (first_shape (behind_first ms)) (first_shape (behind_first ns)) (Some w)) (measured_at each_once (first_shape ms) (first_shape ns) (Some k)) (measured_at each_once (first_shape (behind_first ms)) (first_shape (behind_first ns)) (Some w)) (weight_at (first_shape ms) (Some k)) (weight_at (first_shape (behind_first ms)) (Some w)) (first (first_shape ms) (first_shape ns) own other) (second (first_shape (behind_first ms)) (first_shape (behind_first ns)) own' other'))
  where
    counted : (m : Measure) (ms : Members) → AreOf t (Some x ∷ Some y ∷ []) ms → measured_at m (first_shape ms) (first_shape ns) (Some k) + measured_at m (first_shape (behind_first ms)) (first_shape (behind_first ns)) (Some w) ≡ measured_places m ms (k ∷ w ∷ []) ns
    counted m no_members h = absurd h
    counted m (bare n ms) h = absurd (none_some (Some x) x h.0 refl)
    counted m (typed n s no_members) h = absurd h.1
    counted m (typed n s (bare n' ms)) h = absurd (none_some (Some y) y h.1.0 refl)
    counted m (typed n s (typed n' u r)) h = omega (arith, none_placed t m r (behind_first (behind_first ns)) [] h.1.1)

    heavy : (ms : Members) → AreOf t (Some x ∷ Some y ∷ []) ms → weight_at (first_shape ms) (Some k) + weight_at (first_shape (behind_first ms)) (Some w) ≡ weight_members ms (k ∷ w ∷ [])
    heavy no_members h = absurd h
    heavy (bare n ms) h = absurd (none_some (Some x) x h.0 refl)
    heavy (typed n s no_members) h = absurd h.1
    heavy (typed n s (bare n' ms)) h = absurd (none_some (Some y) y h.1.0 refl)
    heavy (typed n s (typed n' u r)) h = omega (arith, none_weighed t r [] h.1.1)

-- ---- several values

pub record ValuesLeft (t : Tables) (ts us : List Shape) (sources targets : List InterfaceType) (i : ℕ) (vs : List Value) (all : Asked) : Type 0 where
  pub rest : List Shape
  pub other : List Shape
  pub place : ℕ
  pub has : HaveShapes t (drop i sources) rest
  pub other_has : HaveShapes t (drop i targets) other
  pub counts : Counting (λ m. measured_places m (tuple_members ts) vs (tuple_members us)) (λ m. measured_places m (members_from place rest) (drop i vs) (members_from place other)) (weight_members (tuple_members ts) vs) (weight_members (members_from place rest) (drop i vs)) all

pub values_start : (t : Tables) (ts us : List Shape) (sources targets : List InterfaceType) (vs : List Value) (all : Asked) → HaveShapes t sources ts → HaveShapes t targets us → CountsFor 0 0 0 all → ValuesLeft t ts us sources targets 0 vs all
values_start t ts us sources targets vs all h g a = record { rest = ts; other = us; place = 0; has = h; other_has = g; counts = counting_starts (λ m. measured_places m (tuple_members ts) vs (tuple_members us)) (weight_members (tuple_members ts) vs) all a }

abbrev shape_behind : Shape → List Shape → Shape
shape_behind s [] = s
shape_behind s (d ∷ ds) = d

abbrev rest_behind : List Shape → List Shape
rest_behind [] = []
rest_behind (d ∷ ds) = ds

others_behind : (t : Tables) (tys : List InterfaceType) (i : ℕ) (q : List Shape) → HaveShapes t (drop i tys) q → HaveShapes t (drop (i + 1) tys) (rest_behind q)
others_behind t tys i q h = subst (λ k. HaveShapes t (drop k tys) (rest_behind q)) (sym (add-one i)) (go tys i q h)
  where
    go : (tys : List InterfaceType) (i : ℕ) (q : List Shape) → HaveShapes t (drop i tys) q → HaveShapes t (drop (suc i) tys) (rest_behind q)
    go [] zero [] h = tt
    go [] zero (d ∷ q) h = absurd h
    go [] (suc i) [] h = tt
    go [] (suc i) (d ∷ q) h = absurd h
    go (y ∷ tys) zero [] h = absurd h
    go (y ∷ tys) zero (d ∷ q) h = h.1
    go (y ∷ tys) (suc i) q h = go tys i q h

other_shaped : (t : Tables) (tys : List InterfaceType) (i : ℕ) (q : List Shape) (y : InterfaceType) (s : Shape) → HaveShapes t (drop i tys) q → HasShape t y s → HasShape t (get_or tys i y) (shape_behind s q)
other_shaped t [] zero [] y s h g = g
other_shaped t [] zero (d ∷ q) y s h g = absurd h
other_shaped t [] (suc i) [] y s h g = g
other_shaped t [] (suc i) (d ∷ q) y s h g = absurd h
other_shaped t (z ∷ tys) zero [] y s h g = absurd h
other_shaped t (z ∷ tys) zero (d ∷ q) y s h g = h.0
other_shaped t (z ∷ tys) (suc i) q y s h g = other_shaped t tys i q y s h g

values_step : (m : Measure) (s : Shape) (r q : List Shape) (n : ℕ) (vs : List Value) (i : ℕ) → measured_places m (members_from n (s ∷ r)) (drop i vs) (members_from n q) ≡ measured_at m (Some s) (Some (shape_behind s q)) (slice_get vs i) + measured_places m (members_from (suc n) r) (drop (i + 1) vs) (members_from (suc n) (rest_behind q))
unfolding measured
values_step m s r q n vs i = places_step m (members_from n (s ∷ r)) (members_from n q) vs i ∙ go q (slice_get vs i)
  where
    go : (q : List Shape) (v : Option Value) → measured_at m (Some s) (first_shape (members_from n q)) v + measured_places m (members_from (suc n) r) (drop (i + 1) vs) (behind_first (members_from n q)) ≡ measured_at m (Some s) (Some (shape_behind s q)) v + measured_places m (members_from (suc n) r) (drop (i + 1) vs) (members_from (suc n) (rest_behind q))
    go [] None = refl
    go [] (Some v) = refl
    go (d ∷ q) v = refl

pub values_on : {t : Tables} {ts us : List Shape} {sources targets : List InterfaceType} {i : ℕ} {vs : List Value} {all : Asked} → ValuesLeft t ts us sources targets i vs all → (y z : InterfaceType) (v : Option Value) (a all' : Asked)
    → drop i sources ≡ y ∷ drop (i + 1) sources → z ≡ get_or targets i y → v ≡ slice_get vs i → ((s d : Shape) → HasShape t y s → HasShape t z d → AsksBy (λ m. measured_at m (Some s) (Some d) v) (weight_at (Some s) v) a) → Adds all a all'
    → ValuesLeft t ts us sources targets (i + 1) vs all'
values_on {t} {ts} {us} {sources} {targets} {i} {vs} {all} g y z v a all' here other value tells adds = go g.rest g.has g.counts
  where
    go : (r : List Shape) → HaveShapes t (drop i sources) r
        → Counting (λ m. measured_places m (tuple_members ts) vs (tuple_members us)) (λ m. measured_places m (members_from g.place r) (drop i vs) (members_from g.place g.other)) (weight_members (tuple_members ts) vs) (weight_members (members_from g.place r) (drop i vs)) all
        → ValuesLeft t ts us sources targets (i + 1) vs all'
    go [] h c = absurd (subst (λ ys. HaveShapes t ys []) here h)
    go (s ∷ r) h c =
        let has : HaveShapes t (y ∷ drop (i + 1) sources) (s ∷ r) = subst (λ ys. HaveShapes t ys (s ∷ r)) here h in
        let there = subst (λ z. HasShape t z (shape_behind s g.other)) (sym other) (other_shaped t targets i g.other y s g.other_has has.0) in
        record {
          rest = r;
          other = rest_behind g.other;
          place = suc g.place;
          has = has.1;
          other_has = others_behind t targets i g.other g.other_has;
          counts = counting_on c (λ m. measured_at m (Some s) (Some (shape_behind s g.other)) v) (λ m. measured_places m (members_from (suc g.place) r) (drop (i + 1) vs) (members_from (suc g.place) (rest_behind g.other))) (weight_at (Some s) v) (weight_members (members_from (suc g.place) r) (drop (i + 1) vs)) a all'
              (λ m. values_step m s r g.other g.place vs i ∙ ap (λ v. measured_at m (Some s) (Some (shape_behind s g.other)) v + measured_places m (members_from (suc g.place) r) (drop (i + 1) vs) (members_from (suc g.place) (rest_behind g.other))) (sym value))
              (weights_step (members_from g.place (s ∷ r)) vs i ∙ ap (λ v. weight_at (Some s) v + weight_members (members_from (suc g.place) r) (drop (i + 1) vs)) (sym value))
              (tells s (shape_behind s g.other) has.0 there) adds;
        }

pub values_end : {t : Tables} {ts us : List Shape} {sources targets : List InterfaceType} {i : ℕ} {vs : List Value} {all : Asked} → length sources ≤ i → ValuesLeft t ts us sources targets i vs all → AsksBy (λ m. measured_places m (tuple_members ts) vs (tuple_members us)) (weight_members (tuple_members ts) vs) all
unfolding measured weight
values_end {t} {ts} {us} {sources} {targets} {i} {vs} {all} ge g = go g.rest (subst (λ ys. HaveShapes t ys g.rest) (drop_all i sources ge) g.has) g.counts
  where
    go : (r : List Shape) → HaveShapes t [] r
        → Counting (λ m. measured_places m (tuple_members ts) vs (tuple_members us)) (λ m. measured_places m (members_from g.place r) (drop i vs) (members_from g.place g.other)) (weight_members (tuple_members ts) vs) (weight_members (members_from g.place r) (drop i vs)) all
        → AsksBy (λ m. measured_places m (tuple_members ts) vs (tuple_members us)) (weight_members (tuple_members ts) vs) all
    go [] h c = counting_ends c (λ m. refl) refl
    go (s ∷ r) h c = absurd h

-- ---- whether it is little

le_same : (x y n : ℕ) → (x ≤ n → y ≤ n) → (y ≤ n → x ≤ n) → nat_le x n ≡ nat_le y n
le_same x y n f g = go (nat_le x n) (nat_le y n) refl refl
  where
    go : (a b : Bool) → nat_le x n ≡ a → nat_le y n ≡ b → a ≡ b
    go true true p q = refl
    go true false p q = absurd (omega (arith, f (leb-true x n p), leb-false y n q))
    go false true p q = absurd (omega (arith, g (leb-true y n q), leb-false x n p))
    go false false p q = refl

room_same : (wide room tuples r : ℕ) → tuples ≡ wide → r ≡ stopped room → nat_le (8 + tuples + r) 16384 ≡ nat_le (8 + wide + room) 16384
room_same wide room tuples r e f = le_same (8 + tuples + r) (8 + wide + room) 16384 (λ h. omega (arith, h, e, f)) (λ h. omega (arith, h, e, f))

stopped_same : (n count limit : ℕ) → limit < 2000000 → n ≡ stopped count → nat_le n limit ≡ nat_le count limit
stopped_same n count limit few e = le_same n count limit (λ h. omega (arith, h, e, few)) (λ h. omega (arith, h, e, few))

pub little_is : (ts us : List Shape) (vs : List Value) (a : Asked) (tuples : ℕ) (b : Bool) → AsksBy (λ m. measured_places m (tuple_members ts) vs (tuple_members us)) (weight_members (tuple_members ts) vs) a → tuples ≡ greatest_bytes (layout_of (tuple_of ts)) (layout_of (tuple_of us))
    → b ≡ (nat_le (8 + tuples + a.room) 16384 && (nat_le a.pieces 64 && nat_le a.weight 1000000)) → b ≡ fits ts us vs
little_is ts us vs a tuples b asks wide is =
    is
    ∙ (λ i.
    room_same (greatest_bytes (layout_of (tuple_of ts)) (layout_of (tuple_of us))) (measured_places inner_room (tuple_members ts) vs (tuple_members us)) tuples a.room wide asks.room_is i
    && (stopped_same a.pieces (measured_places each_once (tuple_members ts) vs (tuple_members us)) 64 (lit< tt) asks.pieces_are i && stopped_same a.weight (weight_members (tuple_members ts) vs) 1000000 (lit< tt) asks.weight_is i))
