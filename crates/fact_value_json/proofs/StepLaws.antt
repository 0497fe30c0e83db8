-- What is read one after another: what a walk has read so far, and what is left.
use Rattle.std.proofs.Common.{◌≡◌, ℕ, ◌+◌, ◌≤◌, List, [], ◌∷◌, ◌++◌, length, drop, Result, Ok, Err, refl, sym, ap, ◌∙◌, subst, add-one}
use Rattle.std.specs.Prelude.{slice_get, Some}
use Rattle.std.proofs.lemmas.List.{drop_all}
use Rattle.serde_json.specs.Data.{Data}
use Rattle.serde_json.specs.View.{view, items_view}
use Rattle.serde_json.specs.declared.value.Value.{Value as Json}
use Rattle.fact_plan.specs.declared.fault.PlanFault.{PlanFault}
use Rattle.fact_plan.specs.declared.fault.PlanFault.TheVariants.{OutOfMemory, Missing, UnknownKey, WrongKind, OutOfRange}
use Rattle.fact_plan.specs.Fault.{Gives, UnlessMemory, at_step, place_step, under, ◌>>=◌}
use Rattle.fact_plan.specs.Parts.{items_from}
use Rattle.fact_plan.proofs.ReadLemmas.{prepend}
use Rattle.fact_abi.proofs.BelongLaws.{slice_front}

-- ---- what is read first, and then

pub unless_mapped : (e : PlanFault) (P Q : Type 0) → (P → Q) → UnlessMemory e P → UnlessMemory e Q
unless_mapped OutOfMemory P Q f h = tt
unless_mapped (Missing path) P Q f h = f h
unless_mapped (UnknownKey path) P Q f h = f h
unless_mapped (WrongKind path) P Q f h = f h
unless_mapped (OutOfRange path) P Q f h = f h

pub first_failed : {A B : Type 0} (a : Result A PlanFault) (f : A → Result B PlanFault) (e : PlanFault) → UnlessMemory e (a ≡ Err e) → UnlessMemory e (a >>= f ≡ Err e)
first_failed a f e h = unless_mapped e (a ≡ Err e) (a >>= f ≡ Err e) (λ q. ap (λ r. r >>= f) q) h

pub same_failed : {A : Type 0} (a b : Result A PlanFault) (e : PlanFault) → a ≡ b → UnlessMemory e (b ≡ Err e) → UnlessMemory e (a ≡ Err e)
same_failed a b e same h = unless_mapped e (b ≡ Err e) (a ≡ Err e) (λ q. same ∙ q) h

-- behind what was read, what is read next
pub then_given : {A B : Type 0} (a : Result A PlanFault) (f : A → Result B PlanFault) (x : A) (r : Result B PlanFault) → a ≡ Ok x → Gives (f x) r → Gives (a >>= f) r
then_given a f x r e g = subst (λ w. Gives w r) (sym (ap (λ a. a >>= f) e)) g

same_given : {A : Type 0} (a b : Result A PlanFault) (r : Result A PlanFault) → a ≡ b → Gives b r → Gives a r
same_given a b r e g = subst (λ w. Gives w r) (sym e) g

-- want of memory inside is want of memory
no_memory : {T : Type 0} (wanted r : Result T PlanFault) → Gives (Err OutOfMemory) r → Gives wanted r
no_memory wanted (Ok x) g = cc
no_memory wanted (Err OutOfMemory) g = tt
no_memory wanted (Err (Missing path)) g = cc
no_memory wanted (Err (UnknownKey path)) g = cc
no_memory wanted (Err (WrongKind path)) g = cc
no_memory wanted (Err (OutOfRange path)) g = cc

-- what is given one step inside is given seen from outside
pub given_at : {T : Type 0} (front : List ℕ) (wanted inner r : Result T PlanFault) → Gives wanted inner → Gives (at_step front inner) r → Gives (at_step front wanted) r
given_at front wanted (Ok x) r g h = same_given _ _ r (ap (at_step front) g) h
given_at front wanted (Err OutOfMemory) r g h = no_memory _ r h
given_at front wanted (Err (Missing path)) r g h = same_given _ _ r (ap (at_step front) g) h
given_at front wanted (Err (UnknownKey path)) r g h = same_given _ _ r (ap (at_step front) g) h
given_at front wanted (Err (WrongKind path)) r g h = same_given _ _ r (ap (at_step front) g) h
given_at front wanted (Err (OutOfRange path)) r g h = same_given _ _ r (ap (at_step front) g) h

-- a fault seen from outside
pub fault_at : {T : Type 0} (front : List ℕ) (wanted : Result T PlanFault) (e : PlanFault) → UnlessMemory e (wanted ≡ Err e) → UnlessMemory (under front e) (at_step front wanted ≡ Err (under front e))
fault_at front wanted OutOfMemory h = tt
fault_at front wanted (Missing path) h = ap (at_step front) h
fault_at front wanted (UnknownKey path) h = ap (at_step front) h
fault_at front wanted (WrongKind path) h = ap (at_step front) h
fault_at front wanted (OutOfRange path) h = ap (at_step front) h

-- ---- lists

pub append_one : {X : Type 0} (xs : List X) (y : X) (ys : List X) → xs ++ y ∷ ys ≡ (xs ++ y ∷ []) ++ ys
append_one [] y ys = refl
append_one (x ∷ xs) y ys = ap (λ l. x ∷ l) (append_one xs y ys)

pub append_none : {X : Type 0} (xs : List X) → xs ++ [] ≡ xs
append_none [] = refl
append_none (x ∷ xs) = ap (λ l. x ∷ l) (append_none xs)

pub front_at : {X : Type 0} (xs : List X) (i : ℕ) (x : X) → slice_get xs i ≡ Some x → drop i xs ≡ x ∷ drop (i + 1) xs
front_at xs i x e = slice_front xs i x e ∙ ap (λ k. x ∷ drop k xs) (sym (add-one i))

-- ---- a walk: the whole is what was read, and then what is left

pub nothing_read : {X : Type 0} (r : Result (List X) PlanFault) → r ≡ prepend [] r
nothing_read (Ok xs) = refl
nothing_read (Err e) = refl

read_rest : {X : Type 0} (xs : List X) (x : X) (rest : Result (List X) PlanFault) → prepend xs (rest >>= (λ ys. Ok (x ∷ ys))) ≡ prepend (xs ++ x ∷ []) rest
read_rest xs x (Ok ys) = ap (λ l. Ok l) (append_one xs x ys)
read_rest xs x (Err e) = refl

pub one_read : {X : Type 0} (whole : Result (List X) PlanFault) (xs : List X) (r : Result X PlanFault) (rest : Result (List X) PlanFault) (x : X) (more : List X) → whole ≡ prepend xs (r >>= (λ x. rest >>= (λ ys. Ok (x ∷ ys)))) → r ≡ Ok x → more ≡ xs ++ x ∷ [] → whole ≡ prepend more rest
one_read whole xs r rest x more w e m =
    w ∙ ap (λ r. prepend xs (r >>= (λ x. rest >>= (λ ys. Ok (x ∷ ys))))) e ∙ read_rest xs x rest ∙ ap (λ l. prepend l rest) (sym m)

pub one_failed : {X : Type 0} (whole : Result (List X) PlanFault) (xs : List X) (r : Result X PlanFault) (k : X → Result (List X) PlanFault) (e : PlanFault) → whole ≡ prepend xs (r >>= k) → UnlessMemory e (r ≡ Err e) → UnlessMemory e (whole ≡ Err e)
one_failed whole xs r k e w h = unless_mapped e (r ≡ Err e) (whole ≡ Err e) (λ q. w ∙ ap (λ r. prepend xs (r >>= k)) q) h

pub all_read : {X : Type 0} (whole rest : Result (List X) PlanFault) (xs : List X) → whole ≡ prepend xs rest → rest ≡ Ok [] → whole ≡ Ok xs
all_read whole rest xs w e = w ∙ ap (prepend xs) e ∙ ap (λ l. Ok l) (append_none xs)

-- ---- the items of a list

-- The items before place i gave xs.
abbrev pub ItemsRead : {X : Type 0} → (Data → Result X PlanFault) → List Json → ℕ → List X → Type 0
ItemsRead f vs i xs = items_from f 0 (items_view vs) ≡ prepend xs (items_from f i (items_view (drop i vs)))

pub no_item_read : {X : Type 0} (f : Data → Result X PlanFault) (vs : List Json) → ItemsRead f vs 0 []
no_item_read f vs = nothing_read (items_from f 0 (items_view vs))

item_left : {X : Type 0} (f : Data → Result X PlanFault) (vs : List Json) (i : ℕ) (xs : List X) (v : Json) → slice_get vs i ≡ Some v → ItemsRead f vs i xs → items_from f 0 (items_view vs) ≡ prepend xs (at_step (place_step i) (f (view v)) >>= (λ x. items_from f (i + 1) (items_view (drop (i + 1) vs)) >>= (λ ys. Ok (x ∷ ys))))
item_left f vs i xs v at w = w ∙ ap (λ l. prepend xs (items_from f i (items_view l))) (front_at vs i v at)

pub item_read : {X : Type 0} (f : Data → Result X PlanFault) (vs : List Json) (i : ℕ) (xs more : List X) (v : Json) (x : X) → slice_get vs i ≡ Some v → ItemsRead f vs i xs → at_step (place_step i) (f (view v)) ≡ Ok x → more ≡ xs ++ x ∷ [] → ItemsRead f vs (i + 1) more
item_read f vs i xs more v x at w e m = one_read _ xs _ (items_from f (i + 1) (items_view (drop (i + 1) vs))) x more (item_left f vs i xs v at w) e m

pub item_failed : {X : Type 0} (f : Data → Result X PlanFault) (vs : List Json) (i : ℕ) (xs : List X) (v : Json) (e : PlanFault) → slice_get vs i ≡ Some v → ItemsRead f vs i xs → UnlessMemory e (at_step (place_step i) (f (view v)) ≡ Err e) → UnlessMemory e (items_from f 0 (items_view vs) ≡ Err e)
item_failed f vs i xs v e at w h = one_failed _ xs _ _ e (item_left f vs i xs v at w) h

pub all_items_read : {X : Type 0} (f : Data → Result X PlanFault) (vs : List Json) (i : ℕ) (xs : List X) → length vs ≤ i → ItemsRead f vs i xs → items_from f 0 (items_view vs) ≡ Ok xs
all_items_read f vs i xs ge w = all_read _ _ xs w (ap (λ l. items_from f i (items_view l)) (drop_all i vs ge))
