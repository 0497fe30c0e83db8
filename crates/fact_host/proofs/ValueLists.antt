-- Values that are of types, one by one.
use Rattle.std.proofs.Common.{◌≡◌, ℕ, zero, suc, List, [], ◌∷◌, Some, refl, sym, ap, ◌∙◌, subst, arith, length, drop}
use Rattle.std.specs.Prelude.{slice_get}
use Rattle.fact_types.specs.declared.interface.InterfaceType.{InterfaceType}
use Rattle.fact_types.specs.Functions.{HaveShapes}
use Rattle.fact_types.specs.Shapes.{Shape}
use Rattle.fact_types.specs.Tables.{Tables, HasShape}
use Rattle.fact_types.specs.Tuples.{members_from}
use Rattle.fact_values.specs.declared.value.Value.{Value}
use Rattle.fact_values.specs.IsA.{IsA, AreMembers}
use Rattle.fact_host.specs.Contract.{AreOfTypes}

-- as far as a loop has come: all are of their types exactly where the rest are
pub record AreSoFar (t : Tables) (tys : List InterfaceType) (values : List Value) (i : ℕ) : Type 0 where
  pub rest_so : (ss : List Shape) → HaveShapes t tys ss → AreOfTypes ss values → AreMembers (members_from i (drop i ss)) (drop i values)
  pub so_rest : (ss : List Shape) → HaveShapes t tys ss → AreMembers (members_from i (drop i ss)) (drop i values) → AreOfTypes ss values

-- the shape of a type among others
pub record IsNext (t : Tables) (ss : List Shape) (i : ℕ) (ty : InterfaceType) : Type 0 where
  pub shape : Shape
  pub here : drop i ss ≡ shape ∷ drop (suc i) ss
  pub has : HasShape t ty shape

pub next_shape : (t : Tables) (tys : List InterfaceType) (ss : List Shape) (i : ℕ) (ty : InterfaceType) → slice_get tys i ≡ Some ty → HaveShapes t tys ss → IsNext t ss i ty
next_shape t [] ss i ty e h = absurd cc
next_shape t (x ∷ xs) [] i ty e h = absurd h
next_shape t (x ∷ xs) (s ∷ ss) zero ty e h = let same : x ≡ ty = cc in record { shape = s; here = refl; has = subst (λ z. HasShape t z s) same h.0 }
next_shape t (x ∷ xs) (s ∷ ss) (suc i) ty e h = let r = next_shape t xs ss i ty e h.1 in record { shape = r.shape; here = r.here; has = r.has }

value_here : (values : List Value) (i : ℕ) (v : Value) → slice_get values i ≡ Some v → drop i values ≡ v ∷ drop (suc i) values
value_here [] i v e = absurd cc
value_here (x ∷ xs) zero v e = let same : x ≡ v = cc in ap (λ z. z ∷ xs) same
value_here (x ∷ xs) (suc i) v e = value_here xs i v e

apart : (i : ℕ) (s : Shape) (ss : List Shape) (v : Value) (vs : List Value) → AreMembers (members_from i (s ∷ ss)) (v ∷ vs) → IsA s v × AreMembers (members_from (suc i) ss) vs
unfolding AreMembers
apart i s ss v vs h = h

together : (i : ℕ) (s : Shape) (ss : List Shape) (v : Value) (vs : List Value) → IsA s v → AreMembers (members_from (suc i) ss) vs → AreMembers (members_from i (s ∷ ss)) (v ∷ vs)
unfolding AreMembers
together i s ss v vs h g = (h, g)

-- the next one is
pub one_more : (t : Tables) (tys : List InterfaceType) (values : List Value) (i : ℕ) (ty : InterfaceType) (v : Value) → slice_get tys i ≡ Some ty → slice_get values i ≡ Some v
    → ((s : Shape) → HasShape t ty s → IsA s v) → AreSoFar t tys values i → AreSoFar t tys values (suc i)
one_more t tys values i ty v at value_at is a = record {
  rest_so = λ ss h all.
      (let n = next_shape t tys ss i ty at h in
      (apart i n.shape (drop (suc i) ss) v (drop (suc i) values) (subst (λ z. AreMembers (members_from i z) (v ∷ drop (suc i) values)) n.here (subst (AreMembers (members_from i (drop i ss))) (value_here values i v value_at) (a.rest_so ss h all)))).1);
  so_rest = λ ss h rest.
      (let n = next_shape t tys ss i ty at h in
      a.so_rest ss h (subst (AreMembers (members_from i (drop i ss))) (sym (value_here values i v value_at))
      (subst (λ z. AreMembers (members_from i z) (v ∷ drop (suc i) values)) (sym n.here) (together i n.shape (drop (suc i) ss) v (drop (suc i) values) (is n.shape n.has) rest))));
}

-- the next one is not
pub one_not : (t : Tables) (tys : List InterfaceType) (values : List Value) (i : ℕ) (ty : InterfaceType) (v : Value) → slice_get tys i ≡ Some ty → slice_get values i ≡ Some v
    → ((s : Shape) → HasShape t ty s → IsA s v → ⊥) → AreSoFar t tys values i → (ss : List Shape) → HaveShapes t tys ss → AreOfTypes ss values → ⊥
one_not t tys values i ty v at value_at never a ss h all =
    let n = next_shape t tys ss i ty at h in
    never n.shape n.has (apart i n.shape (drop (suc i) ss) v (drop (suc i) values) (subst (λ z. AreMembers (members_from i z) (v ∷ drop (suc i) values)) n.here (subst (AreMembers (members_from i (drop i ss))) (value_here values i v value_at) (a.rest_so ss h all)))).0

-- there are as many values as types
members_many : (i : ℕ) (ss : List Shape) (vs : List Value) → AreMembers (members_from i ss) vs → length ss ≡ length vs
unfolding AreMembers
members_many i [] [] h = refl
members_many i [] (v ∷ vs) h = absurd h
members_many i (s ∷ ss) [] h = absurd h
members_many i (s ∷ ss) (v ∷ vs) h = ap suc (members_many (suc i) ss vs h.1)

shapes_many : (t : Tables) (tys : List InterfaceType) (ss : List Shape) → HaveShapes t tys ss → length tys ≡ length ss
shapes_many t [] [] h = refl
shapes_many t [] (s ∷ ss) h = absurd h
shapes_many t (x ∷ xs) [] h = absurd h
shapes_many t (x ∷ xs) (s ∷ ss) h = ap suc (shapes_many t xs ss h.1)

pub as_many : (t : Tables) (tys : List InterfaceType) (values : List Value) (ss : List Shape) → HaveShapes t tys ss → AreOfTypes ss values → length tys ≡ length values
as_many t tys values ss h all = shapes_many t tys ss h ∙ members_many 0 ss values all

drop_all : {A : Type 0} (xs : List A) (i : ℕ) → i ≡ length xs → drop i xs ≡ []
drop_all [] i e = ap (λ k. drop k []) e
drop_all (x ∷ xs) zero e = absurd (omega (arith, e))
drop_all (x ∷ xs) (suc i) e = drop_all xs i (omega (arith, e))

none_left : (i : ℕ) → AreMembers (members_from i []) []
unfolding AreMembers
none_left i = tt

-- all of them were looked at
pub at_last : (t : Tables) (tys : List InterfaceType) (values : List Value) (i : ℕ) → i ≡ length tys → length tys ≡ length values → AreSoFar t tys values i → (ss : List Shape) → HaveShapes t tys ss → AreOfTypes ss values
at_last t tys values i e same a ss h =
    a.so_rest ss h (subst (AreMembers (members_from i (drop i ss))) (sym (drop_all values i (e ∙ same))) (subst (λ z. AreMembers (members_from i z) []) (sym (drop_all ss i (e ∙ shapes_many t tys ss h))) (none_left i)))
