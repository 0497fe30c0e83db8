-- What a call that looks for an entry, and adds it where it is not there, comes to.
use Rattle.std.proofs.Common.{◌≡◌, ◌<◌, ◌↔◌, ◌||◌, ◌+◌, lt-ltb, ℕ, zero, suc, Bool, true, false, List, [], ◌∷◌, ◌++◌, length, Option, Some, None, refl, sym, ◌∙◌, ap, subst, arith, inl, inr, true≢false}
use Rattle.std.specs.Prelude.{slice_get, position, cond, not, if◌then◌else◌, Ok, Err}
use Rattle.std.specs.List.{list_any, position_or_len}
use Rattle.std.proofs.lemmas.List.Quantifiers.{position-Some}
use Rattle.std.proofs.lemmas.Option.{slice_get-get_or}
use Rattle.fact_entity.specs.declared.error.PushError.TheVariants.{TooLarge}
use Rattle.fact_entity.specs.Places.{IsInterned}
use Rattle.fact_convert.specs.Interning.{HasEntry, CanGrow, Interns, LacksEntryRoom}

-- ---- a value that is looked for in a list

any_right : (a b : Bool) → b ≡ true → a || b ≡ true
any_right true b h = refl
any_right false b h = h

found_any : {X : Type 0} (p : X → Bool) (xs : List X) (i : ℕ) (x : X) → slice_get xs i ≡ Some x → p x ≡ true → list_any p xs ≡ true
found_any p [] i x h e = cc
found_any p (y ∷ ys) zero x h e = let same : y ≡ x = cc in ap (λ z. p z || list_any p ys) same ∙ ap (λ b. b || list_any p ys) e
found_any p (y ∷ ys) (suc i) x h e = any_right (p y) (list_any p ys) (found_any p ys i x h e)

at_place : {X : Type 0} (p : X → Bool) (xs : List X) (d : X) (o : Option ℕ) → position p xs ≡ o → list_any p xs ≡ false → o ≡ None
at_place p xs d None h e = refl
at_place p xs d (Some i) h e =
    let (l, found, before) = position-Some p xs i d h in
    absurd (true≢false (sym (found_any p xs i _ (slice_get-get_or xs i d l) found) ∙ e))

before_end : {X : Type 0} (p : X → Bool) (xs : List X) → list_any p xs ≡ true → position_or_len p xs < length xs
before_end p [] h = cc
before_end p (x ∷ xs) h = first (p x) refl (before_end p xs)
  where
    first : (b : Bool) → p x ≡ b → (list_any p xs ≡ true → position_or_len p xs < length xs) → position_or_len p (x ∷ xs) < length (x ∷ xs)
    first true e f =
        let at : position_or_len p (x ∷ xs) ≡ 0 = ap (λ (b : Bool). cond (not b) (1 + position_or_len p xs) 0) e in
        omega (arith, at)
    first false e f =
        let at : position_or_len p (x ∷ xs) ≡ 1 + position_or_len p xs = ap (λ (b : Bool). cond (not b) (1 + position_or_len p xs) 0) e in
        omega (arith, at, f (ap (λ b. b || list_any p xs) (sym e) ∙ h))

any_placed : {X : Type 0} (p : X → Bool) (xs : List X) → position p xs ≡ None → list_any p xs ≡ true → ⊥
any_placed p xs n h =
    let found : position p xs ≡ Some (position_or_len p xs) = ap (λ (b : Bool). cond b (Some (position_or_len p xs)) None) (lt-ltb _ _ (before_end p xs h)) in
    cc

-- ---- an entry that was looked for

absent : {X : Type 0} (eq : X → X → Bool) → ((x : X) → eq x x ≡ true) → (xs : List X) (v : X) → list_any (eq v) xs ≡ false → HasEntry xs v → ⊥
absent eq same xs v e (j, h) = true≢false (sym (found_any (eq v) xs j v h (same v)) ∙ e)

interned_by : {X : Type 0} (eq : X → X → Bool) → ((x : X) → eq x x ≡ true) → (b : Bool) (xs ys : List X) (v : X) (i : ℕ) → list_any (eq v) xs ≡ b → ys ≡ (if b then xs else xs ++ v ∷ []) → slice_get ys i ≡ Some v → (list_any (eq v) xs ≡ false → CanGrow xs) → Interns xs v ys
interned_by eq same true xs ys v i any l at room = inl ((i, subst (λ zs. slice_get zs i ≡ Some v) l at), l)
interned_by eq same false xs ys v i any l at room = inr (absent eq same xs v any, room any, l)

can_grow : {X K : Type 0} (p : X → Bool) (xs : List X) (d : X) (k : K) → ((Ok k ≡ Err TooLarge) ↔ ((position p xs ≡ None) × (length xs ≡ 4294967295))) → list_any p xs ≡ false → CanGrow xs
can_grow p xs d k t e full = let both : Ok k ≡ Err TooLarge = t.1 (at_place p xs d (position p xs) refl e, full) in cc

-- the entry was there, or stands behind the last one
pub interned : {X K : Type 0} (eq : X → X → Bool) → ((x : X) → eq x x ≡ true) → (xs ys : List X) (v : X) (i : ℕ) (k : K) → IsInterned eq xs ys v i → slice_get ys i ≡ Some v → ((Ok k ≡ Err TooLarge) ↔ ((position (eq v) xs ≡ None) × (length xs ≡ 4294967295))) → Interns xs v ys
interned eq same xs ys v i k d at t = interned_by eq same (list_any (eq v) xs) xs ys v i refl d.list at (can_grow (eq v) xs v k t)

-- an entry that is found by an exact test is the one that was looked for
pub exactly_at : {X : Type 0} (eq : X → X → Bool) → ((x y : X) → eq x y ≡ true → x ≡ y) → (xs ys : List X) (v : X) (i : ℕ) → IsInterned eq xs ys v i → slice_get ys i ≡ Some v
exactly_at eq exact xs ys v i d =
    let (x, at, e) = d.only.holds in
    at ∙ ap Some (sym (exact v x e))

-- it is not there, and there is no room for it
pub no_room : {X : Type 0} (eq : X → X → Bool) → ((x : X) → eq x x ≡ true) → (xs : List X) (v : X) → (position (eq v) xs ≡ None) × (length xs ≡ 4294967295) → LacksEntryRoom xs v
no_room eq same xs v (n, full) = ((λ x. any_placed (eq v) xs n (found_any (eq v) xs x.0 v x.1 (same v))), full)
