-- Values of types, read one after another.
use Rattle.std.proofs.Common.{◌≡◌, ℕ, suc, ◌+◌, ◌≤◌, ◌<◌, List, [], ◌∷◌, ◌++◌, length, drop, get_or, Some, Result, Ok, Err, refl, sym, ap, ◌∙◌, subst, add-one}
use Rattle.std.specs.Prelude.{slice_get}
use Rattle.std.proofs.lemmas.List.{drop_all}
use Rattle.std.proofs.lemmas.Option.{slice_get-get_or}
use Rattle.serde_json.specs.Data.{Items}
use Rattle.serde_json.specs.View.{view, items_view}
use Rattle.serde_json.specs.declared.value.Value.{Value as Json}
use Rattle.fact_types.specs.declared.interface.InterfaceType.{InterfaceType}
use Rattle.fact_types.specs.declared.interface.InterfaceType.TheVariants as ty
use Rattle.fact_types.specs.Functions.{HaveShapes}
use Rattle.fact_types.specs.Shapes.{Shape}
use Rattle.fact_types.specs.Tables.{Tables, HasShape}
use Rattle.fact_types.specs.Tuples.{members_from, tuple_members}
use Rattle.fact_plan.specs.declared.fault.PlanFault.{PlanFault}
use Rattle.fact_plan.specs.Fault.{Gives, UnlessMemory, at_step, place_step, ◌>>=◌}
use Rattle.fact_plan.proofs.ReadLemmas.{prepend}
use Rattle.fact_values.specs.declared.value.Value.{Value}
use Rattle.fact_value_json.specs.Reading.{read, read_places}
use Rattle.fact_value_json.specs.Walks.{ReadsItem}
use Rattle.fact_value_json.proofs.StepLaws.{front_at, nothing_read, one_read, one_failed, all_read}

-- The values before place i are xs.
pub record ValuesRead (t : Tables) (tys : List InterfaceType) (ss : List Shape) (vs : List Json) (i : ℕ) (xs : List Value) : Type 0 where
  pub rest : List Shape
  pub has : HaveShapes t (drop i tys) rest
  pub same : read_places (tuple_members ss) 0 (items_view vs) ≡ prepend xs (read_places (members_from i rest) i (items_view (drop i vs)))

pub no_value_read : (t : Tables) (tys : List InterfaceType) (ss : List Shape) (vs : List Json) → HaveShapes t tys ss → ValuesRead t tys ss vs 0 []
no_value_read t tys ss vs h = record { rest = ss; has = h; same = nothing_read (read_places (tuple_members ss) 0 (items_view vs)) }

pub have_count : (t : Tables) (tys : List InterfaceType) (ss : List Shape) → HaveShapes t tys ss → length tys ≡ length ss
have_count t [] [] h = refl
have_count t [] (s ∷ ss) h = absurd h
have_count t (y ∷ ys) [] h = absurd h
have_count t (y ∷ ys) (s ∷ ss) h = ap suc (have_count t ys ss h.1)

-- the first of the types that are left
pub record FirstType (t : Tables) (tys : List InterfaceType) (i : ℕ) (y : InterfaceType) (rest : List Shape) : Type 0 where
  pub shape : Shape
  pub more : List Shape
  pub is : rest ≡ shape ∷ more
  pub shaped : HasShape t y shape
  pub has : HaveShapes t (drop (i + 1) tys) more

pub split_types : (t : Tables) (tys : List InterfaceType) (i : ℕ) (y : InterfaceType) (rest : List Shape) → HaveShapes t (y ∷ drop (i + 1) tys) rest → FirstType t tys i y rest
split_types t tys i y [] h = absurd h
split_types t tys i y (s ∷ ss) h = record { shape = s; more = ss; is = refl; shaped = h.0; has = h.1 }

value_left : (rest more : List Shape) (s : Shape) (vs : List Json) (i : ℕ) (v : Json) → rest ≡ s ∷ more → slice_get vs i ≡ Some v
    → read_places (members_from i rest) i (items_view (drop i vs)) ≡ at_step (place_step i) (read s (view v)) >>= (λ x. read_places (members_from (i + 1) more) (i + 1) (items_view (drop (i + 1) vs)) >>= (λ ys. Ok (x ∷ ys)))
unfolding read_places
value_left rest more s vs i v is at =
    (λ j. read_places (members_from i (is j)) i (items_view (front_at vs i v at j)))
    ∙ ap (λ k. at_step (place_step i) (read s (view v)) >>= (λ x. read_places (members_from k more) (i + 1) (items_view (drop (i + 1) vs)) >>= (λ ys. Ok (x ∷ ys)))) (sym (add-one i))

module _ {t : Tables} {tys : List InterfaceType} {ss : List Shape} {vs : List Json} {i : ℕ} {xs : List Value} (w : ValuesRead t tys ss vs i xs) (lt : i < length tys) (v : Json) (at : slice_get vs i ≡ Some v) where
  there : slice_get tys i ≡ Some (get_or tys i ty.Bool)
  there = slice_get-get_or tys i ty.Bool lt

  here : FirstType t tys i (get_or tys i ty.Bool) w.rest
  here = split_types t tys i (get_or tys i ty.Bool) w.rest (subst (λ ys. HaveShapes t ys w.rest) (front_at tys i (get_or tys i ty.Bool) there) w.has)

  left_of : read_places (tuple_members ss) 0 (items_view vs) ≡ prepend xs (at_step (place_step i) (read here.shape (view v)) >>= (λ x. read_places (members_from (i + 1) here.more) (i + 1) (items_view (drop (i + 1) vs)) >>= (λ ys. Ok (x ∷ ys))))
  left_of = w.same ∙ ap (prepend xs) (value_left w.rest here.more here.shape vs i v here.is at)

  pub value_read : (r : Result Value PlanFault) (x : Value) (more : List Value) → ((y : InterfaceType) → slice_get tys i ≡ Some y → ReadsItem t y i (view v) r) → r ≡ Ok x → more ≡ xs ++ x ∷ [] → ValuesRead t tys ss vs (i + 1) more
  value_read r x more reads e m = record {
    rest = here.more;
    has = here.has;
    same = one_read _ xs _ (read_places (members_from (i + 1) here.more) (i + 1) (items_view (drop (i + 1) vs))) x more left_of (subst (Gives (at_step (place_step i) (read here.shape (view v)))) e (reads (get_or tys i ty.Bool) there here.shape here.shaped)) m;
  }

  pub value_failed : (r : Result Value PlanFault) (e : PlanFault) → ((y : InterfaceType) → slice_get tys i ≡ Some y → ReadsItem t y i (view v) r) → r ≡ Err e → UnlessMemory e (read_places (tuple_members ss) 0 (items_view vs) ≡ Err e)
  value_failed r e reads q = one_failed _ xs _ _ e left_of (subst (Gives (at_step (place_step i) (read here.shape (view v)))) q (reads (get_or tys i ty.Bool) there here.shape here.shaped))

no_types : (t : Tables) (rest : List Shape) (i : ℕ) (ds : Items) → HaveShapes t [] rest → read_places (members_from i rest) i ds ≡ Ok []
unfolding read_places
no_types t [] i ds h = refl
no_types t (s ∷ ss) i ds h = absurd h

pub all_values_read : {t : Tables} {tys : List InterfaceType} {ss : List Shape} {vs : List Json} {i : ℕ} {xs : List Value} → length tys ≤ i → ValuesRead t tys ss vs i xs → read_places (tuple_members ss) 0 (items_view vs) ≡ Ok xs
all_values_read {t} {tys} {ss} {vs} {i} {xs} ge w = all_read _ _ xs w.same (no_types t w.rest i _ (subst (λ ys. HaveShapes t ys w.rest) (drop_all i tys ge) w.has))
