-- The fields of a destination, one after another, and lists of types.
use Rattle.std.proofs.Common.{◌≡◌, ◌↔◌, ◌≤◌, ◌<◌, ◌+◌, ℕ, zero, suc, max, List, [], ◌∷◌, length, drop, get_or, Some, Bool, true, false, refl, sym, ◌∙◌, ap, subst, arith, add-one, All}
use Rattle.std.specs.Prelude.{if◌then◌else◌, IsTrue}
use Rattle.std.specs.Str.{bytes_eq}
use Rattle.std.proofs.Math.Seq.{drop-cons}
use Rattle.std.proofs.lemmas.List.{drop_all}
use Rattle.fact_types.specs.declared.interface.InterfaceType.{InterfaceType}
use Rattle.fact_types.specs.declared.kinds.RecordField.{RecordField}
use Rattle.fact_types.specs.Agrees.{Agrees, AgreesFields, named}
use Rattle.fact_types.specs.Functions.{HaveShapes}
use Rattle.fact_types.specs.Heights.{height}
use Rattle.fact_types.specs.Shapes.{Shape, Members, no_members, bare, typed}
use Rattle.fact_types.specs.Tables.{Tables, placed, HasShape, HasMembers, IsLive, IsLiveMember}
use Rattle.fact_agreement.specs.Left.{over, above}
use Rattle.fact_agreement.specs.Lists.{AgreeAll}
use Rattle.fact_agreement.specs.Named.{type_named}
use Rattle.fact_agreement.specs.Told.{AreLive, of_fields, AgreePayload, TellsPayload, Tells}
use Rattle.fact_agreement.proofs.FieldNames.{named_has, both_there}
use Rattle.fact_types.proofs.ShapeLaws.{same_some, none_some}
use Rattle.fact_agreement.proofs.MemberLaws.{both_ways, yes_says, no_says, none_left}

-- the items from a place on
pub item_and_rest : {X : Type 0} (xs : List X) (i : ℕ) (d : X) → i < length xs → drop i xs ≡ get_or xs i d ∷ drop (i + 1) xs
item_and_rest xs i d lt = drop-cons xs i d lt ∙ ap (λ k. get_or xs i d ∷ drop k xs) (sym (add-one i))

item_is : {X : Type 0} (xs : List X) (i : ℕ) (x : X) → i < length xs → x ≡ get_or xs i x → drop i xs ≡ x ∷ drop (i + 1) xs
item_is xs i x lt is = item_and_rest xs i x lt ∙ ap (λ y. y ∷ drop (i + 1) xs) (sym is)

-- ---- members are live and lower
pub placed_live : (t : Tables) (n : ℕ) (xs : List InterfaceType) → AreLive t (placed n xs) → All (λ ty. IsLive t ty) xs
placed_live t n [] l = λ k d m. absurd (omega (arith, m))
placed_live t n (x ∷ xs) l = go (placed_live t (suc n) xs (λ i d m. l (suc i) d (omega (arith, m))))
  where
    go : All (λ ty. IsLive t ty) xs → All (λ ty. IsLive t ty) (x ∷ xs)
    go rest zero d m = l 0 (n ∷ [], Some x) (omega arith)
    go rest (suc k) d m = rest k d (omega (arith, m))

pub field_live : (t : Tables) (fs : List RecordField) (i : ℕ) (f : RecordField) → AreLive t (of_fields fs) → i < length fs → f ≡ get_or fs i f → IsLive t f.ty
field_live t [] i f l lt is = absurd (omega (arith, lt))
field_live t (g ∷ fs) zero f l lt is = subst (λ (g : RecordField). IsLive t g.ty) (sym is) (l 0 (g.name, Some g.ty) (omega arith))
field_live t (g ∷ fs) (suc i) f l lt is = field_live t fs i f (λ k d m. l (suc k) d (omega (arith, m))) (omega (arith, lt)) is

pub named_live : (t : Tables) (x : List ℕ) (fs : List RecordField) → AreLive t (of_fields fs) → IsLiveMember t (type_named x fs)
named_live t x [] l = tt
named_live t x (f ∷ fs) l = go (bytes_eq x f.name) (named_live t x fs (λ i d m. l (suc i) d (omega (arith, m))))
  where
    go : (b : Bool) → IsLiveMember t (type_named x fs) → IsLiveMember t (if b then Some f.ty else type_named x fs)
    go true rest = l 0 (f.name, Some f.ty) (omega arith)
    go false rest = rest

most_left : (a b : ℕ) → a ≤ max a b
most_left a b = grind arith

most_right : (a b c : ℕ) → c ≤ b → c ≤ max a b
most_right a b c h = grind (arith, h)

pub named_lower : (t : Tables) (x : List ℕ) (fs : List RecordField) → over t (type_named x fs) ≤ above t (of_fields fs)
named_lower t x [] = omega arith
named_lower t x (f ∷ fs) = go (bytes_eq x f.name) (named_lower t x fs)
  where
    go : (b : Bool) → over t (type_named x fs) ≤ above t (of_fields fs) → over t (if b then Some f.ty else type_named x fs) ≤ above t (of_fields (f ∷ fs))
    go true rest = most_left (over t (Some f.ty)) (above t (of_fields fs))
    go false rest = most_right (over t (Some f.ty)) (above t (of_fields fs)) (over t (type_named x fs)) rest

pub placed_lower : (t : Tables) (n : ℕ) (xs : List InterfaceType) (i : ℕ) (d : InterfaceType) → i < length xs → height t (get_or xs i d) + 1 ≤ above t (placed n xs)
placed_lower t n [] i d lt = absurd (omega (arith, lt))
placed_lower t n (x ∷ xs) zero d lt = most_left (height t x + 1) (above t (placed (suc n) xs))
placed_lower t n (x ∷ xs) (suc i) d lt = most_right (height t x + 1) (above t (placed (suc n) xs)) (height t (get_or xs i d) + 1) (placed_lower t (suc n) xs i d (omega (arith, lt)))

-- ---- the fields of a destination: those that are left give the same
pub record LeftFields (t : Tables) (gs : List RecordField) (ms ns : Members) : Type 0 where
  pub rest : Members
  pub has : HasMembers t (of_fields gs) rest
  pub same : AgreesFields ms ns ↔ AgreesFields ms rest

-- the field at hand, and the others
record FieldAtHand (t : Tables) (g : RecordField) (gs : List RecordField) (ms ns : Members) : Type 0 where
  shape : Shape
  rest : Members
  shaped : HasShape t g.ty shape
  others : HasMembers t (of_fields gs) rest
  same : AgreesFields ms ns ↔ (AgreePayload (named g.name ms) (Some shape) × AgreesFields ms rest)

field_at_hand : (t : Tables) (g : RecordField) (gs : List RecordField) (ms ns : Members) (rest : Members) → HasMembers t (of_fields (g ∷ gs)) rest → (AgreesFields ms ns ↔ AgreesFields ms rest) → FieldAtHand t g gs ms ns
field_at_hand t g gs ms ns no_members h same = absurd h
field_at_hand t g gs ms ns (bare n rest) h same = absurd (none_some (Some g.ty) g.ty h.1 refl)
field_at_hand t g gs ms ns (typed n s rest) h same =
    let named_so : AgreesFields ms (typed n s rest) ↔ (AgreePayload (named g.name ms) (Some s) × AgreesFields ms rest) =
    subst (λ n. AgreesFields ms (typed n s rest) ↔ (AgreePayload (named g.name ms) (Some s) × AgreesFields ms rest)) h.0 (both_there (named g.name ms) s (AgreesFields ms rest)) in
    record {
      shape = s;
      rest = rest;
      shaped = subst (λ ty. HasShape t ty s) (sym (same_some (Some g.ty) g.ty h.1.0 refl h.1.1)) h.1.2;
      others = h.2;
      same = both_ways same named_so;
    }

pub fields_from : (t : Tables) (gs : List RecordField) (i : ℕ) (g : RecordField) (ms ns : Members) → i < length gs → g ≡ get_or gs i g → LeftFields t (drop i gs) ms ns → LeftFields t (g ∷ drop (i + 1) gs) ms ns
fields_from t gs i g ms ns lt is l = subst (λ gs. LeftFields t gs ms ns) (item_is gs i g lt is) l

module _ (t : Tables) (fs : List RecordField) (g : RecordField) (gs : List RecordField) (ms ns : Members) (l : LeftFields t (g ∷ gs) ms ns) (h : HasMembers t (of_fields fs) ms)
    (b : Bool) (k : TellsPayload t (type_named g.name fs) (Some g.ty) b) where
  -- what the answer for the field at hand says
  says : (a : FieldAtHand t g gs ms ns) → (IsTrue b ↔ AgreePayload (named g.name ms) (Some a.shape))
  says a = k (named g.name ms) (Some a.shape) (named_has t g.name fs ms h) a.shaped

  pub next_field : b ≡ true → LeftFields t gs ms ns
  next_field holds =
      let a = field_at_hand t g gs ms ns l.rest l.has l.same in
      record { rest = a.rest; has = a.others; same = (λ x. (a.same.0 x).1, λ x. a.same.1 (yes_says b (says a) holds, x)) }

  pub wrong_field : b ≡ false → AgreesFields ms ns → ⊥
  wrong_field fails x = let a = field_at_hand t g gs ms ns l.rest l.has l.same in no_says b (says a) fails (a.same.0 x).0

pub no_more_fields : (t : Tables) (gs : List RecordField) (i : ℕ) (ms ns : Members) → length gs ≤ i → LeftFields t (drop i gs) ms ns → AgreesFields ms ns
no_more_fields t gs i ms ns le l = l.same.1 (subst (AgreesFields ms) (sym (none_left t l.rest (subst (λ gs. HasMembers t (of_fields gs) l.rest) (drop_all i gs le) l.has))) tt)

-- ---- lists of types: those that are left give the same
pub record LeftAll (t : Tables) (xs ys : List InterfaceType) (ss ds : List Shape) : Type 0 where
  pub sources : List Shape
  pub destinations : List Shape
  pub from_shapes : HaveShapes t xs sources
  pub to_shapes : HaveShapes t ys destinations
  pub same : AgreeAll ss ds ↔ AgreeAll sources destinations

-- the types at hand, and the others
record TypesAtHand (t : Tables) (x y : InterfaceType) (xs ys : List InterfaceType) (ss ds : List Shape) : Type 0 where
  source : Shape
  destination : Shape
  sources : List Shape
  destinations : List Shape
  from_shape : HasShape t x source
  to_shape : HasShape t y destination
  from_shapes : HaveShapes t xs sources
  to_shapes : HaveShapes t ys destinations
  same : AgreeAll ss ds ↔ (Agrees source destination × AgreeAll sources destinations)

types_at_hand : (t : Tables) (x y : InterfaceType) (xs ys : List InterfaceType) (ss ds us vs : List Shape) → HaveShapes t (x ∷ xs) us → HaveShapes t (y ∷ ys) vs → (AgreeAll ss ds ↔ AgreeAll us vs) → TypesAtHand t x y xs ys ss ds
types_at_hand t x y xs ys ss ds [] vs h k same = absurd h
types_at_hand t x y xs ys ss ds (u ∷ us) [] h k same = absurd k
types_at_hand t x y xs ys ss ds (u ∷ us) (v ∷ vs) h k same = record {
  source = u;
  destination = v;
  sources = us;
  destinations = vs;
  from_shape = h.0;
  to_shape = k.0;
  from_shapes = h.1;
  to_shapes = k.1;
  same = same;
}

pub types_from : (t : Tables) (xs ys : List InterfaceType) (i : ℕ) (d : InterfaceType) (ss ds : List Shape) → i < length xs → length xs ≡ length ys → LeftAll t (drop i xs) (drop i ys) ss ds
    → LeftAll t (get_or xs i d ∷ drop (i + 1) xs) (get_or ys i d ∷ drop (i + 1) ys) ss ds
types_from t xs ys i d ss ds lt same l =
    subst (λ xs. LeftAll t xs (get_or ys i d ∷ drop (i + 1) ys) ss ds) (item_and_rest xs i d lt) (subst (λ ys. LeftAll t (drop i xs) ys ss ds) (item_and_rest ys i d (omega (arith, lt, same))) l)

module _ (t : Tables) (x y : InterfaceType) (xs ys : List InterfaceType) (ss ds : List Shape) (l : LeftAll t (x ∷ xs) (y ∷ ys) ss ds) (b : Bool) (k : Tells t x y b) where
  pub next_types : b ≡ true → LeftAll t xs ys ss ds
  next_types holds =
      let a = types_at_hand t x y xs ys ss ds l.sources l.destinations l.from_shapes l.to_shapes l.same in
      record {
        sources = a.sources;
        destinations = a.destinations;
        from_shapes = a.from_shapes;
        to_shapes = a.to_shapes;
        same = (λ g. (a.same.0 g).1, λ g. a.same.1 (yes_says b (k a.source a.destination a.from_shape a.to_shape) holds, g));
      }

  pub wrong_types : b ≡ false → AgreeAll ss ds → ⊥
  wrong_types fails g =
      let a = types_at_hand t x y xs ys ss ds l.sources l.destinations l.from_shapes l.to_shapes l.same in
      no_says b (k a.source a.destination a.from_shape a.to_shape) fails (a.same.0 g).0

pub no_more_types : (t : Tables) (xs ys : List InterfaceType) (i : ℕ) (ss ds : List Shape) → length xs ≤ i → length xs ≡ length ys → LeftAll t (drop i xs) (drop i ys) ss ds → AgreeAll ss ds
no_more_types t xs ys i ss ds le same l =
    go l.sources l.destinations (subst (λ xs. HaveShapes t xs l.sources) (drop_all i xs le) l.from_shapes) (subst (λ ys. HaveShapes t ys l.destinations) (drop_all i ys (omega (arith, le, same))) l.to_shapes) l.same
  where
    go : (us vs : List Shape) → HaveShapes t [] us → HaveShapes t [] vs → (AgreeAll ss ds ↔ AgreeAll us vs) → AgreeAll ss ds
    go [] [] h k same = same.1 tt
    go [] (v ∷ vs) h k same = absurd k
    go (u ∷ us) vs h k same = absurd h

-- lists of different lengths do not agree
as_many : (t : Tables) (xs : List InterfaceType) (ss : List Shape) → HaveShapes t xs ss → length ss ≡ length xs
as_many t [] [] h = refl
as_many t [] (s ∷ ss) h = absurd h
as_many t (x ∷ xs) [] h = absurd h
as_many t (x ∷ xs) (s ∷ ss) h = ap suc (as_many t xs ss h.1)

equally_many : (ss ds : List Shape) → AgreeAll ss ds → length ss ≡ length ds
equally_many [] [] a = refl
equally_many [] (d ∷ ds) a = absurd a
equally_many (s ∷ ss) [] a = absurd a
equally_many (s ∷ ss) (d ∷ ds) a = ap suc (equally_many ss ds a.1)

pub not_as_many : (t : Tables) (xs ys : List InterfaceType) (ss ds : List Shape) → HaveShapes t xs ss → HaveShapes t ys ds → (length xs ≡ length ys → ⊥) → AgreeAll ss ds → ⊥
not_as_many t xs ys ss ds h k other a = other (sym (as_many t xs ss h) ∙ equally_many ss ds a ∙ as_many t ys ds k)
