-- Joined flat types: how they are grouped and in which order does not matter, and joining again changes nothing. Laws of
-- single flat types are tried on all of them.
use Rattle.std.proofs.Common.{◌≡◌, Bool, true, false, List, [], ◌∷◌, refl, ap, sym, ◌∙◌}
use Rattle.std.specs.Prelude.{◌&&◌}
use Rattle.std.proofs.lemmas.Bool.{true≢false}
use Rattle.fact_types.specs.declared.flats.FlatType.{FlatType}
use Rattle.fact_types.specs.declared.flats.FlatType.TheVariants.{I32, I64, F32, F64}
use Rattle.fact_types.specs.Flat.{join}
use Rattle.fact_types.specs.FlatShapes.{joined}

abbrev same : FlatType → FlatType → Bool
same I32 I32 = true
same I64 I64 = true
same F32 F32 = true
same F64 F64 = true
same _ _ = false

is_same : (a b : FlatType) → same a b ≡ true → a ≡ b
is_same I32 I32 h = refl
is_same I64 I64 h = refl
is_same F32 F32 h = refl
is_same F64 F64 h = refl
is_same a b h = absurd (true≢false (sym h))

both : (x y : Bool) → (x && y) ≡ true → (x ≡ true) × (y ≡ true)
both true y h = (refl, h)
both false y h = absurd (true≢false (sym h))

abbrev each : (FlatType → Bool) → Bool
each p = (p I32 && p I64) && (p F32 && p F64)

of_each : (p : FlatType → Bool) → each p ≡ true → (a : FlatType) → p a ≡ true
of_each p h I32 = (both _ _ (both _ _ h).0).0
of_each p h I64 = (both _ _ (both _ _ h).0).1
of_each p h F32 = (both _ _ (both _ _ h).1).0
of_each p h F64 = (both _ _ (both _ _ h).1).1

pub join_same : (a : FlatType) → join a a ≡ a
join_same a = is_same _ _ (of_each (λ a. same (join a a) a) refl a)

pub join_swaps : (a b : FlatType) → join a b ≡ join b a
join_swaps a b = is_same _ _ (of_each (λ b. same (join a b) (join b a)) (of_each (λ a. each (λ b. same (join a b) (join b a))) refl a) b)

pub join_joins : (a b c : FlatType) → join (join a b) c ≡ join a (join b c)
join_joins a b c =
    is_same _ _ (of_each (λ c. same (join (join a b) c) (join a (join b c)))
    (of_each (λ b. each (λ c. same (join (join a b) c) (join a (join b c))))
    (of_each (λ a. each (λ b. each (λ c. same (join (join a b) c) (join a (join b c))))) refl a) b) c)

-- a type that is joined with others can stand for itself
pub join_absorbs : (a b : FlatType) → join a (join a b) ≡ join a b
join_absorbs a b = sym (join_joins a a b) ∙ ap (λ x. join x b) (join_same a)

pub joined_same : (xs : List FlatType) → joined xs xs ≡ xs
joined_same [] = refl
joined_same (x ∷ xs) = λ i. join_same x i ∷ joined_same xs i

pub joined_swaps : (xs ys : List FlatType) → joined xs ys ≡ joined ys xs
joined_swaps [] [] = refl
joined_swaps [] (y ∷ ys) = refl
joined_swaps (x ∷ xs) [] = refl
joined_swaps (x ∷ xs) (y ∷ ys) = λ i. join_swaps x y i ∷ joined_swaps xs ys i

pub joined_joins : (xs ys zs : List FlatType) → joined (joined xs ys) zs ≡ joined xs (joined ys zs)
joined_joins [] ys zs = refl
joined_joins (x ∷ xs) [] zs = refl
joined_joins (x ∷ xs) (y ∷ ys) [] = refl
joined_joins (x ∷ xs) (y ∷ ys) (z ∷ zs) = λ i. join_joins x y z i ∷ joined_joins xs ys zs i
