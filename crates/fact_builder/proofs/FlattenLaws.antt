-- The core types of several types one after another.
use Rattle.std.proofs.Common.{◌≡◌, ◌<◌, ◌≤◌, ◌+◌, ℕ, zero, suc, List, [], ◌∷◌, ◌++◌, length, map, drop, get_or, Option, Some, None, Bool, true, false, refl, sym, ◌∙◌, ap, arith, length-append, inl, inr}
use Rattle.std.specs.Prelude.{nat_le, cond}
use Rattle.std.proofs.lemmas.Bool.{cases_lt}
use Rattle.std.proofs.lemmas.Bool.Decides.{nat_tests}
use Rattle.fact_wasm.specs.declared.types.ValType.{ValType}
use Rattle.fact_types.specs.declared.flats.FlatType.{FlatType}
use Rattle.fact_types.specs.declared.interface.InterfaceType.{InterfaceType}
use Rattle.fact_types.specs.Flat.{value_type}
use Rattle.fact_types.specs.FlatShapes.{upto, flat_types, after_flat, flat_each, when_upto}
use Rattle.fact_types.specs.Functions.{HaveShapes}
use Rattle.fact_types.specs.Shapes.{Shape}
use Rattle.fact_types.specs.Signatures.{width, flat_values}
use Rattle.fact_types.specs.Tables.{Tables, HasShape}
use Rattle.fact_builder.proofs.FlatLaws.{append_joins, append_nil}

-- values, and then flat types, none where these are none
abbrev then_flat : List ValType → Option (List FlatType) → Option (List ValType)
then_flat vs None = None
then_flat vs (Some fs) = Some (vs ++ map value_type fs)

map_append : (xs ys : List FlatType) → map value_type (xs ++ ys) ≡ map value_type xs ++ map value_type ys
map_append [] ys = refl
map_append (x ∷ xs) ys = ap (λ zs. value_type x ∷ zs) (map_append xs ys)

map_length : (xs : List FlatType) → length (map value_type xs) ≡ length xs
map_length [] = refl
map_length (x ∷ xs) = ap suc (map_length xs)

within_limit : {X : Type 0} (n : ℕ) (xs : List X) → length xs ≤ n → upto n xs ≡ Some xs
within_limit n xs l = chosen (nat_le (length xs) n) (grind (arith, l, nat_tests))
  where
    chosen : (b : Bool) → b ≡ true → cond b (Some xs) None ≡ Some xs
    chosen true h = refl
    chosen false h = cc

beyond_limit : {X : Type 0} (n : ℕ) (xs : List X) → n < length xs → upto n xs ≡ None
beyond_limit n xs l = chosen (nat_le (length xs) n) (grind (arith, l, nat_tests))
  where
    chosen : (b : Bool) → b ≡ false → cond b (Some xs) None ≡ None
    chosen true h = cc
    chosen false h = refl

-- the limit counts the same before and after flat types become value types
limit_values : (memory64 : Bool) (n : ℕ) (ss : List Shape) → flat_values memory64 n ss ≡ when_upto n (then_flat [] (flat_each (width memory64) ss))
limit_values memory64 n ss = by (flat_each (width memory64) ss)
  where
    flat_of : Option (List FlatType) → Option (List ValType)
    flat_of None = None
    flat_of (Some fs) = Some (map value_type fs)

    by : (r : Option (List FlatType)) → flat_of (when_upto n r) ≡ when_upto n (then_flat [] r)
    by None = refl
    by (Some fs) = elim (cases_lt n (length fs)) [
      | inl l ↦ ap flat_of (beyond_limit n fs l) ∙ sym (beyond_limit n (map value_type fs) (omega (arith, l, map_length fs)))
      | inr l ↦ ap flat_of (within_limit n fs (omega (arith, l))) ∙ sym (within_limit n (map value_type fs) (omega (arith, l, map_length fs)))
    ]

-- ---- what is left of the types after some
-- whatever shapes the types stand for, what is left gives the same
abbrev pub Going : Tables → Bool → ℕ → List InterfaceType → List InterfaceType → List ValType → Type 0
Going t memory64 n tys left vs = (ss : List Shape) → HaveShapes t tys ss → (rest : List Shape) × HaveShapes t left rest × (when_upto n (then_flat vs (flat_each (width memory64) rest)) ≡ flat_values memory64 n ss)

pub going_first : (t : Tables) (memory64 : Bool) (n : ℕ) (tys : List InterfaceType) → Going t memory64 n tys tys []
going_first t memory64 n tys = λ ss h. (ss, h, sym (limit_values memory64 n ss))

join_more : (vs : List ValType) (fs : List FlatType) (r : Option (List FlatType)) → then_flat vs (after_flat (Some fs) r) ≡ then_flat (vs ++ map value_type fs) r
join_more vs fs None = refl
join_more vs fs (Some gs) = ap Some (ap (λ zs. vs ++ zs) (map_append fs gs) ∙ sym (append_joins vs (map value_type fs) (map value_type gs)))

-- the next type has these flat types
pub going_on : (t : Tables) (memory64 : Bool) (n : ℕ) (tys left : List InterfaceType) (ty : InterfaceType) (vs : List ValType) (fs : List FlatType) → Going t memory64 n tys (ty ∷ left) vs → ((s : Shape) → HasShape t ty s → Some fs ≡ flat_types (width memory64) s) → Going t memory64 n tys left (vs ++ map value_type fs)
going_on t memory64 n tys left ty vs fs g f = λ ss h. let (rest, hs, e) = g ss h in next ss rest hs e
  where
    next : (ss rest : List Shape) → HaveShapes t (ty ∷ left) rest → when_upto n (then_flat vs (flat_each (width memory64) rest)) ≡ flat_values memory64 n ss → (rest : List Shape) × HaveShapes t left rest × (when_upto n (then_flat (vs ++ map value_type fs) (flat_each (width memory64) rest)) ≡ flat_values memory64 n ss)
    next ss [] hs e = absurd hs
    next ss (s ∷ rest) (h, hs) e =
        (rest, hs, ap (when_upto n) (sym (join_more vs fs (flat_each (width memory64) rest))) ∙ (λ i. when_upto n (then_flat vs (after_flat (f s h i) (flat_each (width memory64) rest)))) ∙ e)

-- the next type has none
pub going_none : (t : Tables) (memory64 : Bool) (n : ℕ) (tys left : List InterfaceType) (ty : InterfaceType) (vs : List ValType) → Going t memory64 n tys (ty ∷ left) vs → ((s : Shape) → HasShape t ty s → None ≡ flat_types (width memory64) s) → (ss : List Shape) → HaveShapes t tys ss → None ≡ flat_values memory64 n ss
going_none t memory64 n tys left ty vs g f ss h = let (rest, hs, e) = g ss h in next rest hs e
  where
    next : (rest : List Shape) → HaveShapes t (ty ∷ left) rest → when_upto n (then_flat vs (flat_each (width memory64) rest)) ≡ flat_values memory64 n ss → None ≡ flat_values memory64 n ss
    next [] hs e = absurd hs
    next (s ∷ rest) (h, hs) e = (λ i. when_upto n (then_flat vs (after_flat (f s h i) (flat_each (width memory64) rest)))) ∙ e

-- too many already
pub going_over : (t : Tables) (memory64 : Bool) (n : ℕ) (tys left : List InterfaceType) (vs : List ValType) → Going t memory64 n tys left vs → n < length vs → (ss : List Shape) → HaveShapes t tys ss → None ≡ flat_values memory64 n ss
going_over t memory64 n tys left vs g l ss h = let (rest, hs, e) = g ss h in over (flat_each (width memory64) rest) ∙ e
  where
    over : (r : Option (List FlatType)) → None ≡ when_upto n (then_flat vs r)
    over None = refl
    over (Some fs) = sym (beyond_limit n (vs ++ map value_type fs) (omega (arith, l, length-append vs (map value_type fs))))

-- none is left
pub going_last : (t : Tables) (memory64 : Bool) (n : ℕ) (tys : List InterfaceType) (vs : List ValType) → Going t memory64 n tys [] vs → length vs ≤ n → (ss : List Shape) → HaveShapes t tys ss → Some vs ≡ flat_values memory64 n ss
going_last t memory64 n tys vs g l ss h = let (rest, hs, e) = g ss h in next rest hs e
  where
    next : (rest : List Shape) → HaveShapes t [] rest → when_upto n (then_flat vs (flat_each (width memory64) rest)) ≡ flat_values memory64 n ss → Some vs ≡ flat_values memory64 n ss
    next [] hs e = sym (within_limit n vs l) ∙ ap (upto n) (sym (append_nil vs)) ∙ e
    next (s ∷ rest) hs e = absurd hs

-- the first of what is left
pub left_at : (tys : List InterfaceType) (i : ℕ) (d : InterfaceType) → i < length tys → drop i tys ≡ get_or tys i d ∷ drop (i + 1) tys
left_at [] i d l = absurd (omega (arith, l))
left_at (ty ∷ tys) zero d l = refl
left_at (ty ∷ tys) (suc i) d l = left_at tys i d (omega (arith, l)) ∙ (λ j. get_or tys i d ∷ drop (plus i j) (ty ∷ tys))
  where
    plus : (i : ℕ) → suc (i + 1) ≡ suc i + 1
    plus i = omega arith
