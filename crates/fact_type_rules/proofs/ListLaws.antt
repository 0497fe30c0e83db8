-- Properties of one or of each of the elements of a list, and elements themselves.
use Rattle.std.proofs.Common.{◌≡◌, ◌⊎◌, ℕ, zero, suc, List, [], ◌∷◌, ◌++◌, Option, Some, None, inl, inr, refl, sym, ap, subst, arith, All, Contains}
use Rattle.std.specs.Prelude.{slice_get}
use Rattle.std.specs.List.{Any, slice_index_or}
use Rattle.std.proofs.lemmas.List.Elements.{Contains-get_or}
use Rattle.std.proofs.lemmas.Option.{slice_get_within, get_or_from_slice_get}
use Rattle.fact_types.specs.Layout.{payloads}

-- ---- one of the elements
pub any-none : {X : Type 0} (P : X → Type 0) → Any P [] → ⊥
any-none P h = omega (arith, h.2)

pub any-here : {X : Type 0} (P : X → Type 0) (x : X) (xs : List X) → P x → Any P (x ∷ xs)
any-here P x xs h = (0, x, omega arith, refl, h)

pub any-there : {X : Type 0} (P : X → Type 0) (x : X) (xs : List X) → Any P xs → Any P (x ∷ xs)
any-there P x xs (k, y, l, e, h) = (suc k, y, omega (arith, l), e, h)

pub any-cases : {X : Type 0} (P : X → Type 0) (x : X) (xs : List X) → Any P (x ∷ xs) → P x ⊎ Any P xs
any-cases P x xs (zero, y, l, e, h) = inl (subst P (sym e) h)
any-cases P x xs (suc k, y, l, e, h) = inr (k, y, omega (arith, l), e, h)

-- ---- elements
pub contains-none : {X : Type 0} (x : X) → Contains [] x → ⊥
contains-none x h = omega (arith, h.1)

pub contains-here : {X : Type 0} (x : X) (xs : List X) → Contains (x ∷ xs) x
contains-here x xs = (0, omega arith, refl)

pub contains-there : {X : Type 0} (x y : X) (xs : List X) → Contains xs y → Contains (x ∷ xs) y
contains-there x y xs (k, l, e) = (suc k, omega (arith, l), e)

pub contains-cases : {X : Type 0} (x y : X) (xs : List X) → Contains (x ∷ xs) y → (x ≡ y) ⊎ Contains xs y
contains-cases x y xs (zero, l, e) = inl e
contains-cases x y xs (suc k, l, e) = inr (k, omega (arith, l), e)

pub all-contained : {X : Type 0} (P : X → Type 0) (xs : List X) (x : X) → All P xs → Contains xs x → P x
all-contained P xs x a (k, l, e) = subst P e (a k x l)

pub all-of : {X : Type 0} (P : X → Type 0) (xs : List X) → ((x : X) → Contains xs x → P x) → All P xs
all-of P xs h k d l = h (slice_index_or xs k d) (Contains-get_or xs k d l)

pub any-contained : {X : Type 0} (P : X → Type 0) (xs : List X) (x : X) → Contains xs x → P x → Any P xs
any-contained P xs x (k, l, e) h = (k, x, l, e, h)

pub contains-at : {X : Type 0} (xs : List X) (k : ℕ) (x : X) → slice_get xs k ≡ Some x → Contains xs x
contains-at xs k x e = (k, slice_get_within xs k x e, get_or_from_slice_get xs k x x e)

-- ---- payloads
pub payloads-none : {X : Type 0} (os : List (Option X)) → payloads (os ++ None ∷ []) ≡ payloads os
payloads-none [] = refl
payloads-none (None ∷ os) = payloads-none os
payloads-none (Some x ∷ os) = ap (λ xs. x ∷ xs) (payloads-none os)

pub payloads-some : {X : Type 0} (os : List (Option X)) (y : X) → payloads (os ++ Some y ∷ []) ≡ payloads os ++ y ∷ []
payloads-some [] y = refl
payloads-some (None ∷ os) y = payloads-some os y
payloads-some (Some x ∷ os) y = ap (λ xs. x ∷ xs) (payloads-some os y)
