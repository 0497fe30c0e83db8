-- The entries of a table, and its pairs of key and entry.
use Rattle.std.proofs.Common.{◌≡◌, ℕ, ◌+◌, List, [], ◌∷◌, ◌++◌, length, zero, suc, Some, refl, ap, subst, sym, slice_get}
use Rattle.fact_entity.specs.Entries.{entries_from}

-- there are as many as entries
pub length-entries_from : {K V : Type 0} (key : ℕ → K) (n : ℕ) (xs : List V) → length (entries_from key n xs) ≡ length xs
length-entries_from key n [] = refl
length-entries_from key n (x ∷ xs) = ap suc (length-entries_from key (n + 1) xs)

-- ---- one more entry
-- the others keep their places
pub keeps_appended : {X : Type 0} (xs : List X) (v : X) (j : ℕ) (x : X) → slice_get xs j ≡ Some x → slice_get (xs ++ v ∷ []) j ≡ Some x
keeps_appended [] v j x h = cc
keeps_appended (y ∷ ys) v zero x h = h
keeps_appended (y ∷ ys) v (suc j) x h = keeps_appended ys v j x h

-- and its place is the old length
last_appended : {X : Type 0} (xs : List X) (v : X) → slice_get (xs ++ v ∷ []) (length xs) ≡ Some v
last_appended [] v = refl
last_appended (y ∷ ys) v = last_appended ys v

pub named_appended : {X : Type 0} (xs : List X) (v : X) (n : ℕ) → n ≡ length xs → slice_get (xs ++ v ∷ []) n ≡ Some v
named_appended xs v n h = subst (λ k. slice_get (xs ++ v ∷ []) k ≡ Some v) (sym h) (last_appended xs v)
