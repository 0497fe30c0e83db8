-- Values that cross, step by step.
use Rattle.std.proofs.Common.{◌≡◌, ℕ, zero, suc, ◌+◌, ◌<◌, ◌≤◌, List, [], ◌∷◌, ◌++◌, length, drop, Option, Some, None, refl, sym, ap, ◌∙◌, subst, arith, add-one, append_assoc}
use Rattle.std.specs.Prelude.{Bool, true, false, slice_get, option_map, MatchOption, if◌then◌else◌}
use Rattle.std.specs.List.{zip}
use Rattle.std.specs.Str.{bytes_eq}
use Rattle.std.proofs.lemmas.List.{drop_all}
use Rattle.fact_types.specs.declared.interface.InterfaceType.{InterfaceType}
use Rattle.fact_types.specs.Agrees.{chosen, first_of, names_of, named, BothThere, EachCase, Agrees, AgreesFields, AgreesCase, AgreesPlaces}
use Rattle.fact_types.specs.Shapes.{Shape, Members, no_members, bare, typed}
use Rattle.fact_types.specs.Tables.{Tables, HasShape}
use Rattle.fact_types.proofs.ShapeLaws.{same_some, none_some}
use Rattle.fact_values.specs.declared.value.HandleKind.{HandleKind}
use Rattle.fact_values.specs.declared.value.Value.{Value, out-Value}
use Rattle.fact_values.specs.declared.value.Value.TheVariants as value
use Rattle.fact_values.specs.Carry.{take_number, IsCarried}
use Rattle.fact_abi.specs.CrossingWalks.{StepGives, Followed, Naming, Placing, Listing, Meets, record_crossed, tuple_crossed, list_crossed, map_crossed, entry_crossed, case_crossed}
use Rattle.fact_abi.specs.Finding.{IsFirstNamed, IsNowhere, IsTypeOf, Seeking, member_type_at, name_is, type_where_named}
use Rattle.fact_values.specs.Formed.{AreBare}
use Rattle.fact_values.specs.Handles.{Step, done_step, then_step, given, each_step, only, value_named, flag_named, flags_named, cross_flags, cross_handle, cross, cross_fields, cross_case, cross_places}
use Rattle.fact_values.specs.IsA.{IsA}
use Rattle.fact_abi.specs.Nodes.{AreOf}
use Rattle.fact_types.specs.Options.{◌>>=◌}
use Rattle.fact_values.specs.Opened.{fields_in, members_in, elements_in, flags_in, map_entries_in, case_in, number_of_handle}
use Rattle.fact_values.specs.Places.{typed_names}
use Rattle.fact_abi.proofs.BelongLaws.{slice_front, slice_past, front_typed, bare_at, place_found}
use Rattle.fact_values.proofs.IsALaws.{bytes_are}
use Rattle.fact_abi.proofs.LoadLaws.{split_typed, split_bare}

-- ---- what steps give
pub gives_none : {A : Type 0} (o : Option A) (left : List ℕ) (r : Option (A × List ℕ)) → StepGives o left r → o ≡ None → r ≡ None
gives_none None left r g e = g
gives_none (Some a) left r g e = absurd (none_some (Some a) a e refl)

pub gives_some : {A : Type 0} (o : Option A) (left : List ℕ) (r : Option (A × List ℕ)) (a : A) → StepGives o left r → o ≡ Some a → r ≡ Some (a, left)
gives_some None left r a g e = absurd (none_some None a refl e)
gives_some (Some b) left r a g e = g ∙ ap (λ b. Some (b, left)) (same_some (Some b) b a refl e)

-- ---- one value after another
append_nil : {X : Type 0} (xs : List X) → xs ++ [] ≡ xs
append_nil [] = refl
append_nil (x ∷ xs) = ap (λ l. x ∷ l) (append_nil xs)

pub followed_starts : {A : Type 0} (all : Option (List A × List ℕ)) (values : List A) → values ≡ [] → Followed all all values
followed_starts {A} all values e = record { same = same all ∙ ap (λ vs. option_map (λ r. (vs ++ r.0, r.1)) all) (sym e) }
  where
    same : (o : Option (List A × List ℕ)) → o ≡ option_map (λ r. ([] ++ r.0, r.1)) o
    same None = refl
    same (Some r) = refl

-- values, and then what a walk gives; and one value before it
abbrev pub before : {A : Type 0} → List A → Option (List A × List ℕ) → Option (List A × List ℕ)
before values o = option_map (λ r. (values ++ r.0, r.1)) o

abbrev pub with_first : {A : Type 0} → A → Option (List A × List ℕ) → Option (List A × List ℕ)
with_first a o = o >>= (λ q. Some (a ∷ q.0, q.1))

pub followed_on : {A : Type 0} (all left rest : Option (List A × List ℕ)) (values values' : List A) (a : A) → left ≡ rest >>= (λ r. Some (a ∷ r.0, r.1)) → values' ≡ values ++ a ∷ [] → Followed all left values → Followed all rest values'
followed_on {A} all left rest values values' a e pushed g = record {
  same = g.same ∙ ap (before values) e ∙ put rest ∙ ap (λ vs. before vs rest) (sym pushed);
}
  where
    put : (o : Option (List A × List ℕ)) → before values (with_first a o) ≡ before (values ++ a ∷ []) o
    put None = refl
    put (Some r) = ap (λ vs. Some (vs, r.1)) (sym (append_assoc values (a ∷ []) r.0))

pub followed_none : {A : Type 0} (all left : Option (List A × List ℕ)) (values : List A) → left ≡ None → Followed all left values → all ≡ None
followed_none all left values e g = g.same ∙ ap (option_map (λ r. (values ++ r.0, r.1))) e

pub followed_all : {A : Type 0} (all left : Option (List A × List ℕ)) (values : List A) (numbers : List ℕ) → left ≡ Some ([], numbers) → Followed all left values → all ≡ Some (values, numbers)
followed_all all left values numbers e g = g.same ∙ ap (option_map (λ r. (values ++ r.0, r.1))) e ∙ ap (λ vs. Some (vs, numbers)) (append_nil values)

-- the rest of a walk, behind a value that a step gave
abbrev after : {A : Type 0} → (List ℕ → Option (List A × List ℕ)) → Option (A × List ℕ) → Option (List A × List ℕ)
after rest o = o >>= (λ r. rest r.1 >>= (λ q. Some (r.0 ∷ q.0, q.1)))

-- ---- the first member of what is left
slice_dropped : {X : Type 0} (xs : List X) (i : ℕ) (x : X) (ys : List X) → drop i xs ≡ x ∷ ys → (slice_get xs i ≡ Some x) × (drop (suc i) xs ≡ ys)
slice_dropped [] zero x ys e = absurd (omega (arith, ap length e))
slice_dropped [] (suc i) x ys e = absurd (omega (arith, ap length e))
slice_dropped (z ∷ zs) zero x ys e = (ap (λ l. slice_get l 0) e, ap (λ l. drop 1 l) e)
slice_dropped (z ∷ zs) (suc i) x ys e = slice_dropped zs i x ys e

-- ---- the members of a tuple

pub placing_starts : (t : Tables) (ms ns : Members) (sources targets : List (Option InterfaceType)) (values crossed : List Value) (numbers : List ℕ) → AreOf t sources ms → AreOf t targets ns → AgreesPlaces ms ns → crossed ≡ []
    → Placing t ms ns sources targets 0 0 values crossed numbers numbers
placing_starts t ms ns sources targets values crossed numbers h k a e = record { from = ms; to = ns; from_has = h; to_has = k; agree = a; behind = followed_starts (cross_places take_number ms values ns numbers) crossed e }

-- the source of a typed member is typed
record TypedPair (n : List ℕ) (d : Shape) (from to : Members) : Type 0 where
  name : List ℕ
  shape : Shape
  rest : Members
  is : from ≡ typed name shape rest
  agrees : Agrees shape d
  places : AgreesPlaces rest to

typed_pair : (n : List ℕ) (d : Shape) (from to : Members) → AgreesPlaces from (typed n d to) → TypedPair n d from to
typed_pair n d no_members to a = absurd a
typed_pair n d (bare m from) to a = absurd a
typed_pair n d (typed m s from) to a = record { name = m; shape = s; rest = from; is = refl; agrees = a.0; places = a.1 }

record BarePair (n : List ℕ) (from to : Members) : Type 0 where
  name : List ℕ
  rest : Members
  is : from ≡ bare name rest
  places : AgreesPlaces rest to

bare_pair : (n : List ℕ) (from to : Members) → AgreesPlaces from (bare n to) → BarePair n from to
bare_pair n no_members to a = absurd a
bare_pair n (bare m from) to a = record { name = m; rest = from; is = refl; places = a }
bare_pair n (typed m s from) to a = absurd a

-- the type of a typed member
record TypedFront (t : Tables) (types : List (Option InterfaceType)) (i : ℕ) (s : Shape) (rest : Members) : Type 0 where
  own : InterfaceType
  is : member_type_at types i ≡ Some own
  shaped : HasShape t own s
  has : AreOf t (drop (suc i) types) rest

typed_front : (t : Tables) (types : List (Option InterfaceType)) (i : ℕ) (n : List ℕ) (s : Shape) (rest : Members) (xs : List (Option InterfaceType)) → drop i types ≡ xs → AreOf t xs (typed n s rest) → TypedFront t types i s rest
typed_front t types i n s rest [] e h = absurd h
typed_front t types i n s rest (x ∷ xs) e h =
    let (at, others) = slice_dropped types i x xs e in
    record {
      own = h.0.0;
      is = ap (λ o. o >>= (λ o. o)) at ∙ h.0.1;
      shaped = h.0.2;
      has = subst (λ xs. AreOf t xs rest) (sym others) h.1;
    }

bare_front : (t : Tables) (types : List (Option InterfaceType)) (i : ℕ) (n : List ℕ) (rest : Members) (xs : List (Option InterfaceType)) → drop i types ≡ xs → AreOf t xs (bare n rest) → AreOf t (drop (suc i) types) rest
bare_front t types i n rest [] e h = absurd h
bare_front t types i n rest (x ∷ xs) e h = subst (λ xs. AreOf t xs rest) (sym (slice_dropped types i x xs e).1) h.1

pub record PlacesHere (t : Tables) (ms ns : Members) (sources targets : List (Option InterfaceType)) (i at : ℕ) (values crossed : List Value) (numbers left : List ℕ) (y : InterfaceType) : Type 0 where
  pub m : List ℕ
  pub n : List ℕ
  pub s : Shape
  pub d : Shape
  pub from : Members
  pub to : Members
  pub own : InterfaceType
  pub own_is : member_type_at sources i ≡ Some own
  pub own_shaped : HasShape t own s
  pub shaped : HasShape t y d
  pub agrees : Agrees s d
  pub from_has : AreOf t (drop (suc i) sources) from
  pub to_has : AreOf t (drop (suc i) targets) to
  pub places : AgreesPlaces from to
  pub behind : Followed (cross_places take_number ms values ns numbers) (cross_places take_number (typed m s from) (drop at values) (typed n d to) left) crossed

pub places_here : {t : Tables} {ms ns : Members} {sources targets : List (Option InterfaceType)} {i at : ℕ} {values crossed : List Value} {numbers left : List ℕ} (y : InterfaceType) → member_type_at targets i ≡ Some y → Placing t ms ns sources targets i at values crossed numbers left → PlacesHere t ms ns sources targets i at values crossed numbers left y
places_here {t} {ms} {ns} {sources} {targets} {i} {at} {values} {crossed} {numbers} {left} y e g =
    let p = split_typed t y (drop (suc i) targets) g.to (subst (λ xs. AreOf t xs g.to) (front_typed targets i y e) g.to_has) in
    let q = typed_pair p.name p.shape g.from p.rest (subst (AgreesPlaces g.from) p.is g.agree) in
    let f = typed_front t sources i q.name q.shape q.rest (drop i sources) refl (subst (AreOf t (drop i sources)) q.is g.from_has) in
    record {
      m = q.name;
      n = p.name;
      s = q.shape;
      d = p.shape;
      from = q.rest;
      to = p.rest;
      own = f.own;
      own_is = f.is;
      own_shaped = f.shaped;
      shaped = p.shaped;
      agrees = q.agrees;
      from_has = f.has;
      to_has = p.has;
      places = q.places;
      behind = subst (λ a. Followed (cross_places take_number ms values ns numbers) (cross_places take_number a (drop at values) (typed p.name p.shape p.rest) left) crossed) q.is
          (subst (λ b. Followed (cross_places take_number ms values ns numbers) (cross_places take_number g.from (drop at values) b left) crossed) p.is g.behind);
    }

module _ {t : Tables} {ms ns : Members} {sources targets : List (Option InterfaceType)} {i at : ℕ} {values crossed : List Value} {numbers left : List ℕ} {y : InterfaceType} (h : PlacesHere t ms ns sources targets i at values crossed numbers left y) where
  -- the source has a type there
  pub own_there : {X : Type 0} → member_type_at sources i ≡ None → X
  own_there e = absurd (none_some (member_type_at sources i) h.own e h.own_is)

  pub own_same : (own : InterfaceType) → member_type_at sources i ≡ Some own → HasShape t own h.s
  own_same own e = subst (λ y. HasShape t y h.s) (same_some (member_type_at sources i) h.own own h.own_is e) h.own_shaped

  pub none_placed : slice_get values at ≡ None → cross_places take_number ms values ns numbers ≡ None
  unfolding cross
  none_placed e = followed_none _ _ crossed (ap (λ vs. cross_places take_number (typed h.m h.s h.from) vs (typed h.n h.d h.to) left) (slice_past values at e)) h.behind

  here_placed : (v : Value) → slice_get values at ≡ Some v → cross_places take_number (typed h.m h.s h.from) (drop at values) (typed h.n h.d h.to) left ≡ after (cross_places take_number h.from (drop (suc at) values) h.to) (cross take_number h.s h.d v left)
  unfolding cross
  here_placed v e = ap (λ vs. cross_places take_number (typed h.m h.s h.from) vs (typed h.n h.d h.to) left) (slice_front values at v e)

  pub not_placed : (v : Value) → slice_get values at ≡ Some v → cross take_number h.s h.d v left ≡ None → cross_places take_number ms values ns numbers ≡ None
  not_placed v e none = followed_none _ _ crossed (here_placed v e ∙ ap (after (cross_places take_number h.from (drop (suc at) values) h.to)) none) h.behind

  pub placing_on : (v u : Value) (at' : ℕ) (crossed' : List Value) (left' : List ℕ) → slice_get values at ≡ Some v → cross take_number h.s h.d v left ≡ Some (u, left') → crossed' ≡ crossed ++ u ∷ [] → at' ≡ at + 1
      → Placing t ms ns sources targets (i + 1) at' values crossed' numbers left'
  placing_on v u at' crossed' left' e there pushed moved = record {
    from = h.from;
    to = h.to;
    from_has = subst (λ n. AreOf t (drop n sources) h.from) (sym (add-one i)) h.from_has;
    to_has = subst (λ n. AreOf t (drop n targets) h.to) (sym (add-one i)) h.to_has;
    agree = h.places;
    behind = followed_on _ _ _ crossed crossed' u
        (here_placed v e ∙ ap (after (cross_places take_number h.from (drop (suc at) values) h.to)) there
        ∙ ap (λ n. cross_places take_number h.from (drop n values) h.to left' >>= (λ q. Some (u ∷ q.0, q.1))) (sym (moved ∙ add-one at))) pushed h.behind;
  }

pub placing_past : {t : Tables} {ms ns : Members} {sources targets : List (Option InterfaceType)} {i at : ℕ} {values crossed : List Value} {numbers left : List ℕ} → i < length targets → member_type_at targets i ≡ None → Placing t ms ns sources targets i at values crossed numbers left → Placing t ms ns sources targets (i + 1) at values crossed numbers left
unfolding cross
placing_past {t} {ms} {ns} {sources} {targets} {i} {at} {values} {crossed} {numbers} {left} lt e g =
    let p = split_bare t (drop (suc i) targets) g.to (subst (λ xs. AreOf t xs g.to) (slice_front targets i None (bare_at targets i lt e)) g.to_has) in
    let q = bare_pair p.name g.from p.rest (subst (AgreesPlaces g.from) p.is g.agree) in
    record {
      from = q.rest;
      to = p.rest;
      from_has = subst (λ n. AreOf t (drop n sources) q.rest) (sym (add-one i)) (bare_front t sources i q.name q.rest (drop i sources) refl (subst (AreOf t (drop i sources)) q.is g.from_has));
      to_has = subst (λ n. AreOf t (drop n targets) p.rest) (sym (add-one i)) p.has;
      agree = q.places;
      behind = subst (λ a. Followed (cross_places take_number ms values ns numbers) (cross_places take_number a (drop at values) (bare p.name p.rest) left) crossed) q.is
          (subst (λ b. Followed (cross_places take_number ms values ns numbers) (cross_places take_number g.from (drop at values) b left) crossed) p.is g.behind);
    }

pub all_placed : {t : Tables} {ms ns : Members} {sources targets : List (Option InterfaceType)} {i at : ℕ} {values crossed : List Value} {numbers left : List ℕ} → length targets ≤ i → Placing t ms ns sources targets i at values crossed numbers left → cross_places take_number ms values ns numbers ≡ Some (crossed, left)
unfolding cross
all_placed {t} {ms} {ns} {sources} {targets} {i} {at} {values} {crossed} {numbers} {left} ge g =
    followed_all _ _ crossed left (last g.from g.to (subst (λ xs. AreOf t xs g.to) (drop_all i targets ge) g.to_has) g.agree) g.behind
  where
    last : (a b : Members) → AreOf t [] b → AgreesPlaces a b → cross_places take_number a (drop at values) b left ≡ Some ([], left)
    last no_members no_members h p = refl
    last (bare m a) no_members h p = absurd p
    last (typed m s a) no_members h p = absurd p
    last a (bare n b) h p = absurd h
    last a (typed n d b) h p = absurd h

-- ---- items one after another

module _ {A B : Type 0} (f : A → Step (List ℕ) B) (items : List A) where
  pub listing_starts : (crossed : List B) (numbers : List ℕ) → crossed ≡ [] → Listing f items 0 crossed numbers numbers
  listing_starts crossed numbers e = followed_starts (each_step f items numbers) crossed e

  here_listed : (i : ℕ) (a : A) (left : List ℕ) → slice_get items i ≡ Some a → each_step f (drop i items) left ≡ after (each_step f (drop (suc i) items)) (f a left)
  here_listed i a left e = ap (λ xs. each_step f xs left) (slice_front items i a e)

  pub not_listed : (i : ℕ) (a : A) (crossed : List B) (numbers left : List ℕ) → slice_get items i ≡ Some a → f a left ≡ None → Listing f items i crossed numbers left → each_step f items numbers ≡ None
  not_listed i a crossed numbers left e none g = followed_none _ _ crossed (here_listed i a left e ∙ ap (after (each_step f (drop (suc i) items))) none) g

  pub listing_on : (i : ℕ) (a : A) (b : B) (crossed crossed' : List B) (numbers left left' : List ℕ) → slice_get items i ≡ Some a → f a left ≡ Some (b, left') → crossed' ≡ crossed ++ b ∷ [] → Listing f items i crossed numbers left → Listing f items (i + 1) crossed' numbers left'
  listing_on i a b crossed crossed' numbers left left' e there pushed g =
      followed_on _ _ _ crossed crossed' b
      (here_listed i a left e ∙ ap (after (each_step f (drop (suc i) items))) there ∙ ap (λ n. each_step f (drop n items) left' >>= (λ q. Some (b ∷ q.0, q.1))) (sym (add-one i))) pushed g

  pub all_listed : (i : ℕ) (crossed : List B) (numbers left : List ℕ) → length items ≤ i → Listing f items i crossed numbers left → each_step f items numbers ≡ Some (crossed, left)
  all_listed i crossed numbers left ge g = followed_all _ _ crossed left (ap (λ xs. each_step f xs left) (drop_all i items ge)) g

-- ---- the fields of records

pub naming_starts : (t : Tables) (ms ns : Members) (fields : List (List ℕ × Value)) (names : List (List ℕ)) (types : List (Option InterfaceType)) (values : List Value) (numbers : List ℕ) → names ≡ names_of ns → AreOf t types ns → AgreesFields ms ns → values ≡ []
    → Naming t ms ns fields names types 0 values numbers numbers
naming_starts t ms ns fields names types values numbers n h a e = record { rest = ns; has = h; names_left = n; agree = a; behind = followed_starts (cross_fields take_number ms fields ns numbers) values e }

pub both_says : (o : Option Shape) (d : Shape) → BothThere o (λ s. Agrees s d) → (s : Shape) → o ≡ Some s → Agrees s d
both_says None d b s e = absurd b
both_says (Some z) d b s e = subst (λ s. Agrees s d) (same_some (Some z) z s refl e) b

head_is : (x y : List ℕ) (xs ys : List (List ℕ)) → x ∷ xs ≡ y ∷ ys → x ≡ y
head_is x y xs ys e = same_some (slice_get (x ∷ xs) 0) x y refl (ap (λ l. slice_get l 0) e)

pub record FieldHere (t : Tables) (ms ns : Members) (fields : List (List ℕ × Value)) (names : List (List ℕ)) (types : List (Option InterfaceType)) (i : ℕ) (values : List Value) (numbers left : List ℕ) (y : InterfaceType) (x : List ℕ) : Type 0 where
  pub d : Shape
  pub rest : Members
  pub shaped : HasShape t y d
  pub has : AreOf t (drop (suc i) types) rest
  pub names_left : drop (suc i) names ≡ names_of rest
  pub agrees : (s : Shape) → named x ms ≡ Some s → Agrees s d
  pub others : AgreesFields ms rest
  pub behind : Followed (cross_fields take_number ms fields ns numbers) (cross_fields take_number ms fields (typed x d rest) left) values

-- the first member of what is left is of the name, and has a type where the place has one
module _ {t : Tables} {ms ns : Members} {fields : List (List ℕ × Value)} {names : List (List ℕ)} {types : List (Option InterfaceType)} {i : ℕ} {values : List Value} {numbers left : List ℕ} where
  pub field_here : (y : InterfaceType) (x : List ℕ) → slice_get names i ≡ Some x → member_type_at types i ≡ Some y → Naming t ms ns fields names types i values numbers left → FieldHere t ms ns fields names types i values numbers left y x
  field_here y x at e g =
      let p = split_typed t y (drop (suc i) types) g.rest (subst (λ xs. AreOf t xs g.rest) (front_typed types i y e) g.has) in
      let names_are : x ∷ drop (suc i) names ≡ p.name ∷ names_of p.rest = sym (slice_front names i x at) ∙ g.names_left ∙ ap names_of p.is in
      let same : p.name ≡ x = sym (head_is x p.name (drop (suc i) names) (names_of p.rest) names_are) in
      let agree = subst (λ n. AgreesFields ms (typed n p.shape p.rest)) same (subst (AgreesFields ms) p.is g.agree) in
      record {
        d = p.shape;
        rest = p.rest;
        shaped = p.shaped;
        has = p.has;
        names_left = ap (λ l. drop 1 l) names_are;
        agrees = both_says (named x ms) p.shape agree.0;
        others = agree.1;
        behind = subst (λ n. Followed (cross_fields take_number ms fields ns numbers) (cross_fields take_number ms fields (typed n p.shape p.rest) left) values) same
            (subst (λ r. Followed (cross_fields take_number ms fields ns numbers) (cross_fields take_number ms fields r left) values) p.is g.behind);
      }

  pub field_past : (x : List ℕ) → slice_get names i ≡ Some x → member_type_at types i ≡ None → Naming t ms ns fields names types i values numbers left → Naming t ms ns fields names types (i + 1) values numbers left
  unfolding cross
  field_past x at e g = go g.rest (drop i types) refl g.has (sym (slice_front names i x at) ∙ g.names_left) g.agree g.behind
    where
      go : (r : Members) (ys : List (Option InterfaceType)) → drop i types ≡ ys → AreOf t ys r → x ∷ drop (suc i) names ≡ names_of r → AgreesFields ms r → Followed (cross_fields take_number ms fields ns numbers) (cross_fields take_number ms fields r left) values
          → Naming t ms ns fields names types (i + 1) values numbers left
      go no_members ys q h n a b = absurd (omega (arith, ap length n))
      go (bare m r) ys q h n a b = record {
        rest = r;
        has = subst (λ k. AreOf t (drop k types) r) (sym (add-one i)) (bare_front t types i m r ys q h);
        names_left = ap (λ k. drop k names) (add-one i) ∙ ap (λ l. drop 1 l) n;
        agree = a;
        behind = b;
      }
      go (typed m s r) ys q h n a b = let f = typed_front t types i m s r ys q h in absurd (none_some (member_type_at types i) f.own e f.is)

  pub all_named_given : length names ≤ i → Naming t ms ns fields names types i values numbers left → cross_fields take_number ms fields ns numbers ≡ Some (values, left)
  unfolding cross
  all_named_given ge g = followed_all _ _ values left (last g.rest (sym g.names_left ∙ drop_all i names ge)) g.behind
    where
      last : (r : Members) → names_of r ≡ [] → cross_fields take_number ms fields r left ≡ Some ([], left)
      last no_members e = refl
      last (bare m r) e = absurd (omega (arith, ap length e))
      last (typed m s r) e = absurd (omega (arith, ap length e))

module _ {t : Tables} {ms ns : Members} {fields : List (List ℕ × Value)} {names : List (List ℕ)} {types : List (Option InterfaceType)} {i : ℕ} {values : List Value} {numbers left : List ℕ} {y : InterfaceType} {x : List ℕ} (h : FieldHere t ms ns fields names types i values numbers left y x) where
  no_value : (p : Option Shape) → given p (λ s. given None (λ v. then_step (cross take_number s h.d v) (λ u. then_step (cross_fields take_number ms fields h.rest) (λ us. done_step (u ∷ us))))) left ≡ None
  no_value None = refl
  no_value (Some s) = refl

  pub field_missing : value_named x fields ≡ None → cross_fields take_number ms fields ns numbers ≡ None
  unfolding cross
  field_missing e = followed_none _ _ values
      (ap (λ o. given (named x ms) (λ s. given o (λ v. then_step (cross take_number s h.d v) (λ u. then_step (cross_fields take_number ms fields h.rest) (λ us. done_step (u ∷ us))))) left) e ∙ no_value (named x ms)) h.behind

  one_value : (p : Option Shape) (v : Value) → given p (λ s. given (Some v) (λ v. then_step (cross take_number s h.d v) (λ u. then_step (cross_fields take_number ms fields h.rest) (λ us. done_step (u ∷ us))))) left
      ≡ after (cross_fields take_number ms fields h.rest) (given p (λ s. cross take_number s h.d v) left)
  one_value None v = refl
  one_value (Some s) v = refl

  step : (v : Value) → value_named x fields ≡ Some v → cross_fields take_number ms fields (typed x h.d h.rest) left ≡ after (cross_fields take_number ms fields h.rest) (given (named x ms) (λ s. cross take_number s h.d v) left)
  unfolding cross
  step v e = ap (λ o. given (named x ms) (λ s. given o (λ v. then_step (cross take_number s h.d v) (λ u. then_step (cross_fields take_number ms fields h.rest) (λ us. done_step (u ∷ us))))) left) e ∙ one_value (named x ms) v

  pub field_not_crossed : (v : Value) → value_named x fields ≡ Some v → given (named x ms) (λ s. cross take_number s h.d v) left ≡ None → cross_fields take_number ms fields ns numbers ≡ None
  field_not_crossed v e none = followed_none _ _ values (step v e ∙ ap (after (cross_fields take_number ms fields h.rest)) none) h.behind

  pub naming_on : (v u : Value) (values' : List Value) (left' : List ℕ) → value_named x fields ≡ Some v → given (named x ms) (λ s. cross take_number s h.d v) left ≡ Some (u, left') → values' ≡ values ++ u ∷ []
      → Naming t ms ns fields names types (i + 1) values' numbers left'
  naming_on v u values' left' e there pushed = record {
    rest = h.rest;
    has = subst (λ k. AreOf t (drop k types) h.rest) (sym (add-one i)) h.has;
    names_left = ap (λ k. drop k names) (add-one i) ∙ h.names_left;
    agree = h.others;
    behind = followed_on _ _ _ values values' u (step v e ∙ ap (after (cross_fields take_number ms fields h.rest)) there) pushed h.behind;
  }

-- the value of the first field of a name, and the first flag
pub value_past : (x : List ℕ) (fields : List (List ℕ × Value)) (i : ℕ) (f : List ℕ × Value) → slice_get fields i ≡ Some f → bytes_eq f.0 x ≡ false → value_named x fields ≡ value_named x (drop i fields) → value_named x fields ≡ value_named x (drop (i + 1) fields)
value_past x fields i (n, v) at e g = g ∙ ap (value_named x) (slice_front fields i (n, v) at) ∙ ap (λ b. if b then Some v else value_named x (drop (suc i) fields)) e ∙ ap (λ k. value_named x (drop k fields)) (sym (add-one i))

pub value_at : (x : List ℕ) (fields : List (List ℕ × Value)) (i : ℕ) (f : List ℕ × Value) → slice_get fields i ≡ Some f → bytes_eq f.0 x ≡ true → value_named x fields ≡ value_named x (drop i fields) → value_named x fields ≡ Some f.1
value_at x fields i (n, v) at e g = g ∙ ap (value_named x) (slice_front fields i (n, v) at) ∙ ap (λ b. if b then Some v else value_named x (drop (suc i) fields)) e

pub no_value_named : (x : List ℕ) (fields : List (List ℕ × Value)) (i : ℕ) → length fields ≤ i → value_named x fields ≡ value_named x (drop i fields) → value_named x fields ≡ None
no_value_named x fields i ge g = g ∙ ap (value_named x) (drop_all i fields ge)

pub flag_past : (x : List ℕ) (flags : List (List ℕ × Bool)) (i : ℕ) (f : List ℕ × Bool) → slice_get flags i ≡ Some f → bytes_eq f.0 x ≡ false → flag_named x flags ≡ flag_named x (drop i flags) → flag_named x flags ≡ flag_named x (drop (i + 1) flags)
flag_past x flags i (n, v) at e g = g ∙ ap (flag_named x) (slice_front flags i (n, v) at) ∙ ap (λ (b : Bool). if b then Some v else flag_named x (drop (suc i) flags)) e ∙ ap (λ k. flag_named x (drop k flags)) (sym (add-one i))

pub flag_at : (x : List ℕ) (flags : List (List ℕ × Bool)) (i : ℕ) (f : List ℕ × Bool) → slice_get flags i ≡ Some f → bytes_eq f.0 x ≡ true → flag_named x flags ≡ flag_named x (drop i flags) → flag_named x flags ≡ Some f.1
flag_at x flags i (n, v) at e g = g ∙ ap (flag_named x) (slice_front flags i (n, v) at) ∙ ap (λ (b : Bool). if b then Some v else flag_named x (drop (suc i) flags)) e

pub no_flag_named : (x : List ℕ) (flags : List (List ℕ × Bool)) (i : ℕ) → length flags ≤ i → flag_named x flags ≡ flag_named x (drop i flags) → flag_named x flags ≡ None
no_flag_named x flags i ge g = g ∙ ap (flag_named x) (drop_all i flags ge)

-- flags in the order of names
pub flags_step : (names : List (List ℕ)) (flags : List (List ℕ × Bool)) (i : ℕ) (x : List ℕ) (b : Bool) → slice_get names i ≡ Some x → flag_named x flags ≡ Some b → flags_named (drop i names) flags ≡ flags_named (drop (i + 1) names) flags >>= (λ gs. Some ((x, b) ∷ gs))
flags_step names flags i x b at e =
    ap (λ l. flags_named l flags) (slice_front names i x at) ∙ ap (λ o. o >>= (λ b. flags_named (drop (suc i) names) flags >>= (λ gs. Some ((x, b) ∷ gs)))) e
    ∙ ap (λ k. flags_named (drop k names) flags >>= (λ gs. Some ((x, b) ∷ gs))) (sym (add-one i))

pub flags_missing : (names : List (List ℕ)) (flags : List (List ℕ × Bool)) (i : ℕ) (x : List ℕ) → slice_get names i ≡ Some x → flag_named x flags ≡ None → flags_named (drop i names) flags ≡ None
flags_missing names flags i x at e =
    ap (λ l. flags_named l flags) (slice_front names i x at) ∙ ap (λ o. o >>= (λ b. flags_named (drop (suc i) names) flags >>= (λ gs. Some ((x, b) ∷ gs)))) e

module _ (names : List (List ℕ)) (flags : List (List ℕ × Bool)) where
  -- these flags, and then those of the names that are left
  abbrev pub Ordered : ℕ → List (List ℕ × Bool) → Type 0
  Ordered i ordered = flags_named names flags ≡ flags_named (drop i names) flags >>= (λ gs. Some (ordered ++ gs))

  pub ordering_starts : (ordered : List (List ℕ × Bool)) → ordered ≡ [] → Ordered 0 ordered
  ordering_starts ordered e = same (flags_named names flags) ∙ ap (λ fs. flags_named names flags >>= (λ gs. Some (fs ++ gs))) (sym e)
    where
      same : (o : Option (List (List ℕ × Bool))) → o ≡ o >>= (λ gs. Some ([] ++ gs))
      same None = refl
      same (Some gs) = refl

  pub ordering_on : (i : ℕ) (x : List ℕ) (b : Bool) (ordered ordered' : List (List ℕ × Bool)) → slice_get names i ≡ Some x → flag_named x flags ≡ Some b → ordered' ≡ ordered ++ (x, b) ∷ [] → Ordered i ordered → Ordered (i + 1) ordered'
  ordering_on i x b ordered ordered' at e pushed g =
      g ∙ ap (λ o. o >>= (λ gs. Some (ordered ++ gs))) (flags_step names flags i x b at e) ∙ put (flags_named (drop (i + 1) names) flags)
      ∙ ap (λ fs. flags_named (drop (i + 1) names) flags >>= (λ gs. Some (fs ++ gs))) (sym pushed)
    where
      put : (o : Option (List (List ℕ × Bool))) → (o >>= (λ gs. Some ((x, b) ∷ gs))) >>= (λ gs. Some (ordered ++ gs)) ≡ o >>= (λ gs. Some ((ordered ++ (x, b) ∷ []) ++ gs))
      put None = refl
      put (Some gs) = ap Some (sym (append_assoc ordered ((x, b) ∷ []) gs))

  pub not_ordered : (i : ℕ) (x : List ℕ) (ordered : List (List ℕ × Bool)) → slice_get names i ≡ Some x → flag_named x flags ≡ None → Ordered i ordered → flags_named names flags ≡ None
  not_ordered i x ordered at e g = g ∙ ap (λ o. o >>= (λ gs. Some (ordered ++ gs))) (flags_missing names flags i x at e)

  pub all_ordered : (i : ℕ) (ordered : List (List ℕ × Bool)) → length names ≤ i → Ordered i ordered → flags_named names flags ≡ Some ordered
  all_ordered i ordered ge g = g ∙ ap (λ xs. flags_named xs flags >>= (λ gs. Some (ordered ++ gs))) (drop_all i names ge) ∙ ap Some (append_nil ordered)

-- ---- the type of a name

slice_at : {X : Type 0} (xs : List X) (i : ℕ) → i < length xs → (x : X) × (slice_get xs i ≡ Some x)
slice_at [] i lt = absurd (omega (arith, lt))
slice_at (x ∷ xs) zero lt = (x, refl)
slice_at (x ∷ xs) (suc i) lt = slice_at xs i (omega (arith, lt))

pub slice_there : {X Y : Type 0} (xs : List X) (i : ℕ) → i < length xs → slice_get xs i ≡ None → Y
slice_there xs i lt e = let (x, at) = slice_at xs i lt in absurd (none_some (slice_get xs i) x e at)

where_typed : (x : List ℕ) (n : Option (List ℕ)) (m : Option InterfaceType) (y : InterfaceType) → type_where_named x n m ≡ Some y → (name_is x n ≡ true) × (m ≡ Some y)
where_typed x n m y e = go (name_is x n) refl e
  where
    go : (b : Bool) → name_is x n ≡ b → (if b then m else None) ≡ Some y → (name_is x n ≡ true) × (m ≡ Some y)
    go true q e = (q, e)
    go false q e = absurd (none_some None y refl e)

not_where : (x n : List ℕ) (m : Option InterfaceType) (y : InterfaceType) → m ≡ Some y → type_where_named x (Some n) m ≡ None → bytes_eq n x ≡ false
not_where x n m y q e = go (bytes_eq n x) refl e
  where
    go : (b : Bool) → bytes_eq n x ≡ b → (if b then m else None) ≡ None → bytes_eq n x ≡ false
    go true p e = absurd (none_some m y e q)
    go false p e = p

pub found_typed : (x : List ℕ) (n : Option (List ℕ)) (types : List (Option InterfaceType)) (i : ℕ) (y : InterfaceType) → type_where_named x n (member_type_at types i) ≡ Some y → slice_get types i ≡ Some (Some y)
found_typed x n types i y e = place_found types i y (where_typed x n (member_type_at types i) y e).1

pub seeking_starts : (t : Tables) (ms : Members) (names : List (List ℕ)) (types : List (Option InterfaceType)) (x : List ℕ) → names ≡ names_of ms → AreOf t types ms → Seeking t ms names types 0 x
seeking_starts t ms names types x n h = record { rest = ms; has = h; names_left = n; same = refl }

module _ {t : Tables} {ms : Members} {names : List (List ℕ)} {types : List (Option InterfaceType)} {i : ℕ} {x : List ℕ} (g : Seeking t ms names types i x) where
  pub seeking_past : i < length names → type_where_named x (slice_get names i) (member_type_at types i) ≡ None → Seeking t ms names types (i + 1) x
  seeking_past lt e = let (n, at) = slice_at names i lt in go n at g.rest (drop i types) refl g.has (sym (slice_front names i n at) ∙ g.names_left) g.same
    where
      go : (n : List ℕ) → slice_get names i ≡ Some n → (r : Members) (ys : List (Option InterfaceType)) → drop i types ≡ ys → AreOf t ys r → n ∷ drop (suc i) names ≡ names_of r → named x ms ≡ named x r → Seeking t ms names types (i + 1) x
      go n at no_members ys q h l s = absurd (omega (arith, ap length l))
      go n at (bare m r) ys q h l s = record {
        rest = r;
        has = subst (λ k. AreOf t (drop k types) r) (sym (add-one i)) (bare_front t types i m r ys q h);
        names_left = ap (λ k. drop k names) (add-one i) ∙ ap (λ l. drop 1 l) l;
        same = s;
      }
      go n at (typed m z r) ys q h l s =
          let f = typed_front t types i m z r ys q h in
          let other : bytes_eq m x ≡ false = ap (λ k. bytes_eq k x) (sym (head_is n m (drop (suc i) names) (names_of r) l)) ∙ not_where x n (member_type_at types i) f.own f.is (subst (λ o. type_where_named x o (member_type_at types i) ≡ None) at e) in
          record {
            rest = r;
            has = subst (λ k. AreOf t (drop k types) r) (sym (add-one i)) f.has;
            names_left = ap (λ k. drop k names) (add-one i) ∙ ap (λ l. drop 1 l) l;
            same = s ∙ ap (λ b. first_of b (Some z) (named x r)) other;
          }

  pub seeking_found : (y : InterfaceType) → i < length names → type_where_named x (slice_get names i) (member_type_at types i) ≡ Some y → IsTypeOf t (Some y) (named x ms)
  seeking_found y lt e =
      let (n, at) = slice_at names i lt in
      let (is_it, has_it) = where_typed x (slice_get names i) (member_type_at types i) y e in
      go n (subst (λ o. name_is x o ≡ true) at is_it) has_it g.rest (drop i types) refl g.has (sym (slice_front names i n at) ∙ g.names_left) g.same
    where
      go : (n : List ℕ) → bytes_eq n x ≡ true → member_type_at types i ≡ Some y → (r : Members) (ys : List (Option InterfaceType)) → drop i types ≡ ys → AreOf t ys r → n ∷ drop (suc i) names ≡ names_of r → named x ms ≡ named x r → IsTypeOf t (Some y) (named x ms)
      go n is_it has_it no_members ys q h l s = absurd (omega (arith, ap length l))
      go n is_it has_it (bare m r) [] q h l s = absurd h
      go n is_it has_it (bare m r) (w ∷ ws) q h l s = absurd (none_some w y h.0 (same_some (slice_get types i) w (Some y) (slice_dropped types i w ws q).0 (place_found types i y has_it)))
      go n is_it has_it (typed m z r) ys q h l s =
          let f = typed_front t types i m z r ys q h in
          let same : bytes_eq m x ≡ true = ap (λ k. bytes_eq k x) (sym (head_is n m (drop (suc i) names) (names_of r) l)) ∙ is_it in
          subst (IsTypeOf t (Some y)) (sym (s ∙ ap (λ b. first_of b (Some z) (named x r)) same)) (subst (λ y. HasShape t y z) (same_some (member_type_at types i) f.own y f.is has_it) f.shaped)

  pub seeking_ends : length names ≤ i → IsTypeOf t None (named x ms)
  seeking_ends ge = subst (IsTypeOf t None) (sym (g.same ∙ last g.rest (sym g.names_left ∙ drop_all i names ge))) tt
    where
      last : (r : Members) → names_of r ≡ [] → named x r ≡ None
      last no_members e = refl
      last (bare m r) e = absurd (omega (arith, ap length e))
      last (typed m s r) e = absurd (omega (arith, ap length e))

-- ---- cases by their names

pub case_nowhere : (x : List ℕ) (p : Option Shape) (vs : List Value) (ns : Members) (numbers : List ℕ) → IsNowhere x (names_of ns) → cross_case take_number p x vs ns numbers ≡ None
unfolding cross
case_nowhere x p vs no_members numbers g = refl
case_nowhere x p vs (bare n ns) numbers g = ap (λ (b : Bool). (if b then done_step (value.Case n []) else cross_case take_number p x vs ns) numbers) g.0 ∙ case_nowhere x p vs ns numbers g.1
case_nowhere x p vs (typed n d ns) numbers g =
    ap (λ (b : Bool). (if b then given p (λ s. given (only vs) (λ v. then_step (cross take_number s d v) (λ u. done_step (value.Case n (u ∷ []))))) else cross_case take_number p x vs ns) numbers) g.0 ∙ case_nowhere x p vs ns numbers g.1

pub bare_case_crosses : (t : Tables) (x : List ℕ) (p : Option Shape) (vs : List Value) (types : List (Option InterfaceType)) (ns : Members) (i : ℕ) (numbers : List ℕ) → AreOf t types ns → IsFirstNamed x (names_of ns) i → member_type_at types i ≡ None
    → cross_case take_number p x vs ns numbers ≡ Some (value.Case x [], numbers)
unfolding cross
bare_case_crosses t x p vs types no_members i numbers h g e = absurd g
bare_case_crosses t x p vs [] (bare n ns) i numbers h g e = absurd h
bare_case_crosses t x p vs (z ∷ zs) (bare n ns) zero numbers h g e =
    ap (λ (b : Bool). (if b then done_step (value.Case n []) else cross_case take_number p x vs ns) numbers) g ∙ ap (λ n. Some (value.Case n [], numbers)) (bytes_are n x g)
bare_case_crosses t x p vs (z ∷ zs) (bare n ns) (suc i) numbers h g e =
    ap (λ (b : Bool). (if b then done_step (value.Case n []) else cross_case take_number p x vs ns) numbers) g.0 ∙ bare_case_crosses t x p vs zs ns i numbers h.1 g.1 e
bare_case_crosses t x p vs [] (typed n d ns) i numbers h g e = absurd h
bare_case_crosses t x p vs (z ∷ zs) (typed n d ns) zero numbers h g e = absurd (none_some z h.0.0 e h.0.1)
bare_case_crosses t x p vs (z ∷ zs) (typed n d ns) (suc i) numbers h g e =
    ap (λ (b : Bool). (if b then given p (λ s. given (only vs) (λ v. then_step (cross take_number s d v) (λ u. done_step (value.Case n (u ∷ []))))) else cross_case take_number p x vs ns) numbers) g.0 ∙ bare_case_crosses t x p vs zs ns i numbers h.1 g.1 e

-- the payload of a case that has one
pub record PayloadHere (t : Tables) (x : List ℕ) (p : Option Shape) (vs : List Value) (ns : Members) (numbers : List ℕ) (y : InterfaceType) : Type 0 where
  pub d : Shape
  pub shaped : HasShape t y d
  pub agrees : (s : Shape) → p ≡ Some s → Agrees s d
  pub same : cross_case take_number p x vs ns numbers ≡ given p (λ s. given (only vs) (λ v. then_step (cross take_number s d v) (λ u. done_step (value.Case x (u ∷ []))))) numbers

pub payload_here : (t : Tables) (x : List ℕ) (p : Option Shape) (vs : List Value) (types : List (Option InterfaceType)) (ns : Members) (i : ℕ) (numbers : List ℕ) (y : InterfaceType) → AreOf t types ns → IsFirstNamed x (names_of ns) i → member_type_at types i ≡ Some y → Meets x p ns
    → PayloadHere t x p vs ns numbers y
unfolding cross
payload_here t x p vs types no_members i numbers y h g e m = absurd g
payload_here t x p vs [] (bare n ns) i numbers y h g e m = absurd h
payload_here t x p vs (z ∷ zs) (bare n ns) zero numbers y h g e m = absurd (none_some z y h.0 e)
payload_here t x p vs (z ∷ zs) (bare n ns) (suc i) numbers y h g e m =
    let r = payload_here t x p vs zs ns i numbers y h.1 g.1 e (subst (λ b. chosen b (Unit {0}) (Meets x p ns)) g.0 m) in
    record { d = r.d; shaped = r.shaped; agrees = r.agrees; same = ap (λ (b : Bool). (if b then done_step (value.Case n []) else cross_case take_number p x vs ns) numbers) g.0 ∙ r.same }
payload_here t x p vs [] (typed n d ns) i numbers y h g e m = absurd h
payload_here t x p vs (z ∷ zs) (typed n d ns) zero numbers y h g e m = record {
  d = d;
  shaped = subst (λ y. HasShape t y d) (same_some z h.0.0 y h.0.1 e) h.0.2;
  agrees = subst (λ b. chosen b ((s : Shape) → p ≡ Some s → Agrees s d) (Meets x p ns)) g m;
  same =
      ap (λ (b : Bool). (if b then given p (λ s. given (only vs) (λ v. then_step (cross take_number s d v) (λ u. done_step (value.Case n (u ∷ []))))) else cross_case take_number p x vs ns) numbers) g
      ∙ ap (λ n. given p (λ s. given (only vs) (λ v. then_step (cross take_number s d v) (λ u. done_step (value.Case n (u ∷ []))))) numbers) (bytes_are n x g);
}
payload_here t x p vs (z ∷ zs) (typed n d ns) (suc i) numbers y h g e m =
    let r = payload_here t x p vs zs ns i numbers y h.1 g.1 e (subst (λ b. chosen b ((s : Shape) → p ≡ Some s → Agrees s d) (Meets x p ns)) g.0 m) in
    record {
      d = r.d;
      shaped = r.shaped;
      agrees = r.agrees;
      same = ap (λ (b : Bool). (if b then given p (λ s. given (only vs) (λ v. then_step (cross take_number s d v) (λ u. done_step (value.Case n (u ∷ []))))) else cross_case take_number p x vs ns) numbers) g.0 ∙ r.same;
    }

module _ {t : Tables} {x : List ℕ} {p : Option Shape} {vs : List Value} {ns : Members} {numbers : List ℕ} {y : InterfaceType} (h : PayloadHere t x p vs ns numbers y) where
  many : (q : Option Shape) → given q (λ s. given None (λ v. then_step (cross take_number s h.d v) (λ u. done_step (value.Case x (u ∷ []))))) numbers ≡ None
  many None = refl
  many (Some s) = refl

  pub no_only : only vs ≡ None → cross_case take_number p x vs ns numbers ≡ None
  no_only e = h.same ∙ ap (λ o. given p (λ s. given o (λ v. then_step (cross take_number s h.d v) (λ u. done_step (value.Case x (u ∷ []))))) numbers) e ∙ many p

  one : (q : Option Shape) (v : Value) → given q (λ s. given (Some v) (λ v. then_step (cross take_number s h.d v) (λ u. done_step (value.Case x (u ∷ []))))) numbers ≡ given q (λ s. cross take_number s h.d v) numbers >>= (λ r. Some (value.Case x (r.0 ∷ []), r.1))
  one None v = refl
  one (Some s) v = refl

  pub only_crosses : (v : Value) → only vs ≡ Some v → cross_case take_number p x vs ns numbers ≡ given p (λ s. cross take_number s h.d v) numbers >>= (λ r. Some (value.Case x (r.0 ∷ []), r.1))
  only_crosses v e = h.same ∙ ap (λ o. given p (λ s. given o (λ v. then_step (cross take_number s h.d v) (λ u. done_step (value.Case x (u ∷ []))))) numbers) e ∙ one p v

  pub no_payload_crossed : (v : Value) → only vs ≡ Some v → given p (λ s. cross take_number s h.d v) numbers ≡ None → cross_case take_number p x vs ns numbers ≡ None
  no_payload_crossed v e none = only_crosses v e ∙ ap (λ o. o >>= (λ r. Some (value.Case x (r.0 ∷ []), r.1))) none

  pub payload_crossed : (v u : Value) (left : List ℕ) (none values : List Value) → only vs ≡ Some v → given p (λ s. cross take_number s h.d v) numbers ≡ Some (u, left) → none ≡ [] → values ≡ none ++ u ∷ [] → cross_case take_number p x vs ns numbers ≡ Some (value.Case x values, left)
  payload_crossed v u left none values e there start pushed =
      only_crosses v e ∙ ap (λ o. o >>= (λ r. Some (value.Case x (r.0 ∷ []), r.1))) there ∙ ap (λ vs. Some (value.Case x vs, left)) (sym (pushed ∙ ap (λ l. l ++ u ∷ []) start))

-- ---- cases that agree

pub agrees_meets : (x : List ℕ) (p : Option Shape) (ns : Members) → AgreesCase x p ns → Meets x p ns
agrees_meets x p no_members a = absurd a
agrees_meets x p (bare n ns) a = go (bytes_eq n x) (λ a. agrees_meets x p ns a) a
  where
    go : (b : Bool) → (AgreesCase x p ns → Meets x p ns) → chosen b (p ≡ None) (AgreesCase x p ns) → chosen b (Unit {0}) (Meets x p ns)
    go true f a = tt
    go false f a = f a
agrees_meets x p (typed n d ns) a = go (bytes_eq n x) (λ a. agrees_meets x p ns a) a
  where
    go : (b : Bool) → (AgreesCase x p ns → Meets x p ns) → chosen b (BothThere p (λ s. Agrees s d)) (AgreesCase x p ns) → chosen b ((s : Shape) → p ≡ Some s → Agrees s d) (Meets x p ns)
    go true f a = both_says p d a
    go false f a = f a

-- nothing is given
none_meets : (x : List ℕ) (p : Option Shape) (ns : Members) → p ≡ None → Meets x p ns
none_meets x p no_members e = tt
none_meets x p (bare n ns) e = go (bytes_eq n x) (none_meets x p ns e)
  where
    go : (b : Bool) → Meets x p ns → chosen b (Unit {0}) (Meets x p ns)
    go true m = tt
    go false m = m
none_meets x p (typed n d ns) e = go (bytes_eq n x) (none_meets x p ns e)
  where
    go : (b : Bool) → Meets x p ns → chosen b ((s : Shape) → p ≡ Some s → Agrees s d) (Meets x p ns)
    go true m = λ s q. absurd (none_some p s e q)
    go false m = m

each_named : (x : List ℕ) (ms : Members) (C : List ℕ → Option Shape → Type 0) (s : Shape) → EachCase ms C → named x ms ≡ Some s → C x (Some s)
each_named x no_members C s a e = absurd (none_some None s refl e)
each_named x (bare n ms) C s a e = each_named x ms C s a.1 e
each_named x (typed n z ms) C s a e = go (bytes_eq n x) refl (λ e. each_named x ms C s a.1 e) e
  where
    go : (b : Bool) → bytes_eq n x ≡ b → (named x ms ≡ Some s → C x (Some s)) → first_of b (Some z) (named x ms) ≡ Some s → C x (Some s)
    go true q f e = subst (λ n. C n (Some s)) (bytes_are n x q) (subst (λ z. C n (Some z)) (same_some (Some z) z s refl e) a.0)
    go false q f e = f e

pub each_meets : (ms ns : Members) → EachCase ms (λ x p. AgreesCase x p ns) → (x : List ℕ) → Meets x (named x ms) ns
each_meets ms ns a x = go (named x ms) refl
  where
    go : (p : Option Shape) → named x ms ≡ p → Meets x p ns
    go None e = none_meets x None ns refl
    go (Some s) e = agrees_meets x (Some s) ns (each_named x ms (λ x p. AgreesCase x p ns) s a e)

pub bare_meets : (x : List ℕ) (p : Option Shape) (ns : Members) → AreBare ns → Meets x p ns
bare_meets x p no_members h = tt
bare_meets x p (bare n ns) h = go (bytes_eq n x) (bare_meets x p ns h)
  where
    go : (b : Bool) → Meets x p ns → chosen b (Unit {0}) (Meets x p ns)
    go true m = tt
    go false m = m
bare_meets x p (typed n d ns) h = absurd h

pub places_meet : (ms ns : Members) → names_of ms ≡ names_of ns → AgreesPlaces ms ns → (x : List ℕ) → Meets x (named x ms) ns
places_meet no_members no_members e a x = tt
places_meet (bare m ms) (bare n ns) e a x = go (bytes_eq n x) (places_meet ms ns (ap (λ l. drop 1 l) e) a x)
  where
    go : (b : Bool) → Meets x (named x ms) ns → chosen b (Unit {0}) (Meets x (named x ms) ns)
    go true m = tt
    go false m = m
places_meet (typed m s ms) (typed n d ns) e a x =
    subst (λ b. chosen (bytes_eq n x) ((z : Shape) → first_of b (Some s) (named x ms) ≡ Some z → Agrees z d) (Meets x (first_of b (Some s) (named x ms)) ns)) (ap (λ n. bytes_eq n x) (sym (head_is m n (names_of ms) (names_of ns) e)))
    (go (bytes_eq n x) (places_meet ms ns (ap (λ l. drop 1 l) e) a.1 x))
  where
    go : (b : Bool) → Meets x (named x ms) ns → chosen b ((z : Shape) → first_of b (Some s) (named x ms) ≡ Some z → Agrees z d) (Meets x (first_of b (Some s) (named x ms)) ns)
    go true f = λ z q. subst (λ z. Agrees z d) (same_some (Some s) s z refl q) a.0
    go false f = f
places_meet ms ns e a x = absurd a

-- ---- what a value holds, and what that becomes

pub given_nothing : {A B : Type 0} (o : Option A) (f : A → Step (List ℕ) B) (numbers : List ℕ) → o ≡ None → given o f numbers ≡ None
given_nothing o f numbers e = ap (λ o. given o f numbers) e

pub given_step : {A B : Type 0} (o : Option A) (a : A) (f : A → Step (List ℕ) B) (w : B → Value) (r : Option B) (numbers left : List ℕ) → o ≡ Some a → StepGives r left (f a numbers)
    → StepGives (option_map w r) left (given o (λ a. then_step (f a) (λ b. done_step (w b))) numbers)
given_step {A} {B} o a f w r numbers left e g = subst (λ o. StepGives (option_map w r) left (given o (λ a. then_step (f a) (λ b. done_step (w b))) numbers)) (sym e) (go r g)
  where
    go : (r : Option B) → StepGives r left (f a numbers) → StepGives (option_map w r) left (then_step (f a) (λ b. done_step (w b)) numbers)
    go None g = ap (λ (o : Option (B × List ℕ)). o >>= (λ q. Some (w q.0, q.1))) g
    go (Some b) g = ap (λ (o : Option (B × List ℕ)). o >>= (λ q. Some (w q.0, q.1))) g

pub list_gives : (v : Value) (vs : List Value) (s d : Shape) (r : Option (List Value)) (numbers left : List ℕ) → v ≡ value.List vs → StepGives r left (each_step (λ w. cross take_number s d w) vs numbers) → StepGives (option_map (λ us. value.List us) r) left (list_crossed s d v numbers)
list_gives v vs s d r numbers left e g = given_step (elements_in (out-Value v)) vs (λ vs. each_step (λ w. cross take_number s d w) vs) (λ us. value.List us) r numbers left (ap (λ v. elements_in (out-Value v)) e ∙ ap elements_in (value.outs-List vs)) g

pub map_gives : (v : Value) (es : List (Value × Value)) (s d u w : Shape) (r : Option (List (Value × Value))) (numbers left : List ℕ) → v ≡ value.Map es → StepGives r left (each_step (entry_crossed s d u w) es numbers) → StepGives (option_map (λ fs. value.Map fs) r) left (map_crossed s d u w v numbers)
map_gives v es s d u w r numbers left e g = given_step (map_entries_in (out-Value v)) es (λ es. each_step (entry_crossed s d u w) es) (λ fs. value.Map fs) r numbers left (ap (λ v. map_entries_in (out-Value v)) e ∙ ap map_entries_in (value.outs-Map es)) g

pub tuple_gives : (v : Value) (vs : List Value) (ms ns : Members) (r : Option (List Value)) (numbers left : List ℕ) → v ≡ value.Tuple vs → StepGives r left (cross_places take_number ms vs ns numbers) → StepGives (option_map (λ us. value.Tuple us) r) left (tuple_crossed ms ns v numbers)
tuple_gives v vs ms ns r numbers left e g = given_step (members_in (out-Value v)) vs (λ vs. cross_places take_number ms vs ns) (λ us. value.Tuple us) r numbers left (ap (λ v. members_in (out-Value v)) e ∙ ap members_in (value.outs-Tuple vs)) g

pub record_gives : (v : Value) (fs : List (List ℕ × Value)) (ms ns : Members) (r : Option (List Value)) (numbers left : List ℕ) → v ≡ value.Record fs → StepGives r left (cross_fields take_number ms fs ns numbers)
    → StepGives (option_map (λ us. value.Record (zip (typed_names ns) us)) r) left (record_crossed ms ns v numbers)
record_gives v fs ms ns r numbers left e g = given_step (fields_in (out-Value v)) fs (λ fs. cross_fields take_number ms fs ns) (λ us. value.Record (zip (typed_names ns) us)) r numbers left (ap (λ v. fields_in (out-Value v)) e ∙ ap fields_in (value.outs-Record fs)) g

pub case_opened : (v : Value) (x : List ℕ) (vs : List Value) (ms ns : Members) (numbers : List ℕ) → v ≡ value.Case x vs → case_crossed ms ns v numbers ≡ cross_case take_number (named x ms) x vs ns numbers
case_opened v x vs ms ns numbers e = ap (λ v. case_crossed ms ns v numbers) e ∙ ap (λ w. given (case_in w) (λ c. cross_case take_number (named c.name ms) c.name c.payload ns) numbers) (value.outs-Case x vs)

pub flags_gives : (v : Value) (fs : List (List ℕ × Bool)) (names : List (List ℕ)) (ns : Members) (o : Option (List (List ℕ × Bool))) (left : List ℕ) → v ≡ value.Flags fs → names ≡ names_of ns → o ≡ flags_named names fs
    → StepGives (option_map (λ gs. value.Flags gs) o) left (cross_flags ns v left)
flags_gives v fs names ns o left e n q = subst (λ v. StepGives (option_map (λ gs. value.Flags gs) o) left (cross_flags ns v left)) (sym e)
    (subst (λ w. StepGives (option_map (λ gs. value.Flags gs) o) left (given (flags_in w) (λ fs. given (flags_named (names_of ns) fs) (λ gs. done_step (value.Flags gs))) left)) (sym (value.outs-Flags fs)) (go o (q ∙ ap (λ ns. flags_named ns fs) n)))
  where
    go : (o : Option (List (List ℕ × Bool))) → o ≡ flags_named (names_of ns) fs → StepGives (option_map (λ gs. value.Flags gs) o) left (given (flags_named (names_of ns) fs) (λ gs. done_step (value.Flags gs)) left)
    go None q = ap (λ (p : Option (List (List ℕ × Bool))). given p (λ gs. done_step (value.Flags gs)) left) (sym q)
    go (Some gs) q = ap (λ (p : Option (List (List ℕ × Bool))). given p (λ gs. done_step (value.Flags gs)) left) (sym q)

-- the type of a name, where there is one
pub no_type_of : (t : Tables) (o : Option InterfaceType) (p : Option Shape) → o ≡ None → IsTypeOf t o p → p ≡ None
no_type_of t None None e h = refl
no_type_of t None (Some s) e h = absurd h
no_type_of t (Some y) p e h = absurd (none_some (Some y) y e refl)

pub named_crosses : (t : Tables) (o : Option InterfaceType) (own : InterfaceType) (p : Option Shape) (d : Shape) (v : Value) (numbers left : List ℕ) (r : Option Value) → o ≡ Some own → IsTypeOf t o p → ((s : Shape) → p ≡ Some s → Agrees s d)
    → ((s : Shape) → HasShape t own s → Agrees s d → StepGives r left (cross take_number s d v numbers)) → StepGives r left (given p (λ s. cross take_number s d v) numbers)
named_crosses t None own p d v numbers left r e h a f = absurd (none_some None own refl e)
named_crosses t (Some y) own None d v numbers left r e h a f = absurd h
named_crosses t (Some y) own (Some s) d v numbers left r e h a f = f s (subst (λ y. HasShape t y s) (same_some (Some y) y own refl e) h) (a s refl)

-- the first two members of what a type tells
pub first_there : {X : Type 0} (t : Tables) (types : List (Option InterfaceType)) (m : List ℕ) (s : Shape) (ms : Members) → AreOf t types (typed m s ms) → member_type_at types 0 ≡ None → X
first_there t types m s ms h e = let f = typed_front t types 0 m s ms types refl h in absurd (none_some (member_type_at types 0) f.own e f.is)

pub first_shaped : (t : Tables) (types : List (Option InterfaceType)) (m : List ℕ) (s : Shape) (ms : Members) (y : InterfaceType) → AreOf t types (typed m s ms) → member_type_at types 0 ≡ Some y → HasShape t y s
first_shaped t types m s ms y h e = let f = typed_front t types 0 m s ms types refl h in subst (λ y. HasShape t y s) (same_some (member_type_at types 0) f.own y f.is e) f.shaped

pub first_typed_of : (t : Tables) (types : List (Option InterfaceType)) (m : List ℕ) (s : Shape) (ms : Members) → AreOf t types (typed m s ms) → IsTypeOf t (member_type_at types 0) (Some s)
first_typed_of t types m s ms h = let f = typed_front t types 0 m s ms types refl h in subst (λ o. IsTypeOf t o (Some s)) (sym f.is) f.shaped

pub second_typed_of : (t : Tables) (types : List (Option InterfaceType)) (m k : List ℕ) (s u : Shape) (ms : Members) → AreOf t types (typed m s (typed k u ms)) → IsTypeOf t (member_type_at types 1) (Some u)
second_typed_of t types m k s u ms h =
    let f = typed_front t types 0 m s (typed k u ms) types refl h in
    let q = typed_front t types 1 k u ms (drop 1 types) refl f.has in
    subst (λ o. IsTypeOf t o (Some u)) (sym q.is) q.shaped

-- a type for a shape that is there
pub none_of : {X : Type 0} (t : Tables) (o : Option InterfaceType) (s : Shape) → o ≡ None → IsTypeOf t o (Some s) → X
none_of t None s e h = absurd h
none_of t (Some y) s e h = absurd (none_some (Some y) y e refl)

pub some_of : (t : Tables) (o : Option InterfaceType) (y : InterfaceType) (s : Shape) → o ≡ Some y → IsTypeOf t o (Some s) → HasShape t y s
some_of t None y s e h = absurd h
some_of t (Some z) y s e h = subst (λ y. HasShape t y s) (same_some (Some z) z y refl e) h

-- one entry of a map
pub no_key : (s d u w : Shape) (e : Value × Value) (numbers : List ℕ) → cross take_number s d e.0 numbers ≡ None → entry_crossed s d u w e numbers ≡ None
no_key s d u w e numbers none = ap (λ (o : Option (Value × List ℕ)). o >>= (λ r. cross take_number u w e.1 r.1 >>= (λ q. Some ((r.0, q.0), q.1)))) none

pub no_item : (s d u w : Shape) (e : Value × Value) (k : Value) (numbers left : List ℕ) → cross take_number s d e.0 numbers ≡ Some (k, left) → cross take_number u w e.1 left ≡ None → entry_crossed s d u w e numbers ≡ None
no_item s d u w e k numbers left there none =
    ap (λ (o : Option (Value × List ℕ)). o >>= (λ r. cross take_number u w e.1 r.1 >>= (λ q. Some ((r.0, q.0), q.1)))) there
    ∙ ap (λ (o : Option (Value × List ℕ)). o >>= (λ q. Some ((k, q.0), q.1))) none

pub entry_is : (s d u w : Shape) (e : Value × Value) (k i : Value) (numbers left rest : List ℕ) → cross take_number s d e.0 numbers ≡ Some (k, left) → cross take_number u w e.1 left ≡ Some (i, rest) → entry_crossed s d u w e numbers ≡ Some ((k, i), rest)
entry_is s d u w e k i numbers left rest there also =
    ap (λ (o : Option (Value × List ℕ)). o >>= (λ r. cross take_number u w e.1 r.1 >>= (λ q. Some ((r.0, q.0), q.1)))) there
    ∙ ap (λ (o : Option (Value × List ℕ)). o >>= (λ q. Some ((k, q.0), q.1))) also

-- ---- the whole

pub carried_gives : (s d : Shape) (v : Value) (numbers left : List ℕ) (o : Option Value) → IsA s v → Agrees s d → StepGives o left (cross take_number s d v numbers) → IsCarried s d v numbers o
carried_gives s d v numbers left None a g e = λ u x. none_some (option_map (λ r. r.0) (cross take_number s d v numbers)) u (ap (option_map (λ r. r.0)) e) x.is
carried_gives s d v numbers left (Some u) a g e = record { is_a = a; agrees = g; is = ap (option_map (λ r. r.0)) e }

pub not_a_value : (s d : Shape) (v : Value) (numbers : List ℕ) → (IsA s v → ⊥) → IsCarried s d v numbers None
not_a_value s d v numbers never = λ u x. never x.is_a

pub not_agreed : (s d : Shape) (v : Value) (numbers : List ℕ) → (Agrees s d → ⊥) → IsCarried s d v numbers None
not_agreed s d v numbers never = λ u x. never x.agrees

-- ---- handles

module _ (kind : HandleKind) (from table : ℕ) (v : Value) where
  -- what is asked of a number
  abbrev asked : Option ℕ → List ℕ → Option (Value × List ℕ)
  asked o st = given o (λ n. then_step (take_number (record { kind = kind; number = n; from = from; to = table })) (λ m. done_step (value.Handle kind table m))) st

  pub handle_crossed : (n m : ℕ) (numbers left : List ℕ) → number_of_handle (out-Value v) ≡ Some n → numbers ≡ m ∷ left → cross_handle take_number kind from table v numbers ≡ Some (value.Handle kind table m, left)
  handle_crossed n m numbers left e q = ap (λ o. asked o numbers) e ∙ ap (asked (Some n)) q

  pub no_number_left : (n : ℕ) (numbers : List ℕ) → number_of_handle (out-Value v) ≡ Some n → numbers ≡ [] → cross_handle take_number kind from table v numbers ≡ None
  no_number_left n numbers e q = ap (λ o. asked o numbers) e ∙ ap (asked (Some n)) q

  pub no_handle_there : (numbers : List ℕ) → number_of_handle (out-Value v) ≡ None → cross_handle take_number kind from table v numbers ≡ None
  no_handle_there numbers e = ap (λ o. asked o numbers) e

  pub handle_gives : (n : ℕ) (o : Option ℕ) (numbers left : List ℕ) → number_of_handle (out-Value v) ≡ Some n → MatchOption o (numbers ≡ []) (λ m. numbers ≡ m ∷ left) → StepGives (option_map (λ m. value.Handle kind table m) o) left (cross_handle take_number kind from table v numbers)
  handle_gives n None numbers left e q = no_number_left n numbers e q
  handle_gives n (Some m) numbers left e q = handle_crossed n m numbers left e q
