-- Repeated names of what was converted are merged as those of the source are.
use Rattle.std.proofs.Common.{◌≡◌, ◌<◌, ◌≤◌, ◌+◌, ℕ, zero, suc, All, arith, Bool, true, false, List, [], ◌∷◌, ◌++◌, length, take, get_or, sym, ◌∙◌, ap, true≢false}
use Rattle.std.specs.Prelude.{nat_eq, if◌then◌else◌}
use Rattle.std.specs.List.{AllZip}
use Rattle.std.specs.Cmp.Lexicographic.{pointwise}
use Rattle.std.proofs.lemmas.List.{take_more, take_all}
use Rattle.std.proofs.lemmas.List.Sums.{fold-append}
use Rattle.indexmap.specs.IndexMap.{insert_entry, insert_all}
use Rattle.indexmap.specs.IndexSet.{insert_key}
use Rattle.fact_convert.specs.Merging.{merged, merged_names}
use Rattle.fact_convert.specs.Progress.{AreKeyed}

put_at : {K V W : Type 0} (R : V → W → Type 0) (b c : Bool) (e : K × V) (f : K × W) (es more : List (K × V)) (fs more' : List (K × W)) (v : V) (w : W) → c ≡ b → f.0 ≡ e.0 → R e.1 f.1 → R v w → AreKeyed R es fs → AreKeyed R more more' → AreKeyed R (if b then (e.0, v) ∷ es else e ∷ more) (if c then (f.0, w) ∷ fs else f ∷ more')
put_at R true true e f es more fs more' v w q k h r a m = ((k, r), a)
put_at R false false e f es more fs more' v w q k h r a m = ((k, h), m)
put_at R true false e f es more fs more' v w q k h r a m = absurd (true≢false (sym q))
put_at R false true e f es more fs more' v w q k h r a m = absurd (true≢false q)

pub both_put : {K V W : Type 0} (eq : K → K → Bool) (R : V → W → Type 0) (es : List (K × V)) (fs : List (K × W)) (k l : K) (v : V) (w : W) → AreKeyed R es fs → l ≡ k → R v w → AreKeyed R (insert_entry eq es k v) (insert_entry eq fs l w)
both_put eq R [] [] k l v w a q r = ((q, r), tt)
both_put eq R [] (f ∷ fs) k l v w a q r = absurd a
both_put eq R (e ∷ es) [] k l v w a q r = absurd a
both_put eq R (e ∷ es) (f ∷ fs) k l v w ((n, h), a) q r = put_at R (eq k e.0) (eq l f.0) e f es (insert_entry eq es k v) fs (insert_entry eq fs l w) v w (λ i. eq (q i) (n i)) n h r a (both_put eq R es fs k l v w a q r)

pub both_merged : {K V W : Type 0} (eq : K → K → Bool) (R : V → W → Type 0) (es xs : List (K × V)) (fs ys : List (K × W)) → AreKeyed R es fs → AreKeyed R xs ys → AreKeyed R (insert_all eq es xs) (insert_all eq fs ys)
both_merged eq R es [] fs [] a b = a
both_merged eq R es [] fs (y ∷ ys) a b = absurd b
both_merged eq R es (x ∷ xs) fs [] a b = absurd b
both_merged eq R es (x ∷ xs) fs (y ∷ ys) a ((n, h), b) = both_merged eq R (insert_entry eq es x.0 x.1) xs (insert_entry eq fs y.0 y.1) ys (both_put eq R es fs x.0 y.0 x.1 y.1 a n h) b

-- one more pair behind the others
pub one_more_merged : {K V : Type 0} (eq : K → K → Bool) (xs : List (K × V)) (x : K × V) → insert_all eq [] (xs ++ x ∷ []) ≡ insert_entry eq (insert_all eq [] xs) x.0 x.1
one_more_merged eq xs x = fold-append (λ done p. insert_entry eq done p.0 p.1) [] xs (x ∷ [])

-- what holds of two lists, place by place, holds in other words
pub zip_so : {A B : Type 0} (R Q : A → B → Type 0) (xs : List A) (ys : List B) → ((x : A) (y : B) → R x y → Q x y) → AllZip R xs ys → AllZip Q xs ys
zip_so R Q [] [] f a = tt
zip_so R Q [] (y ∷ ys) f a = absurd a
zip_so R Q (x ∷ xs) [] f a = absurd a
zip_so R Q (x ∷ xs) (y ∷ ys) f (h, a) = (f x y h, zip_so R Q xs ys f a)

-- ---- names, and pairs of a name and what stands under it, one by one

pub one_more_name : (xs : List (List ℕ)) (i : ℕ) (x y : List ℕ) (old new : List (List ℕ)) → i < length xs → x ≡ get_or xs i x → y ≡ x → old ≡ merged_names (take i xs) → new ≡ insert_key (pointwise nat_eq) old y → new ≡ merged_names (take (i + 1) xs)
one_more_name xs i x y old new l is same h e =
    e ∙ (λ j. insert_key (pointwise nat_eq) (h j) (same j)) ∙ sym (fold-append (insert_key (pointwise nat_eq)) [] (take i xs) (x ∷ []))
    ∙ ap merged_names (ap (λ z. take i xs ++ z ∷ []) is ∙ sym (take_more xs i x l))

pub all_names : (xs : List (List ℕ)) (i : ℕ) (made : List (List ℕ)) → length xs ≤ i → made ≡ merged_names (take i xs) → made ≡ merged_names xs
all_names xs i made l h = h ∙ ap merged_names (take_all i xs l)

-- the next pair is merged
pub next_merged : {V : Type 0} (xs : List (List ℕ × V)) (i : ℕ) (x : List ℕ × V) → i < length xs → x ≡ get_or xs i x → merged (take (i + 1) xs) ≡ insert_entry (pointwise nat_eq) (merged (take i xs)) x.0 x.1
next_merged xs i x l is = ap merged (take_more xs i x l ∙ ap (λ z. take i xs ++ z ∷ []) (sym is)) ∙ one_more_merged (pointwise nat_eq) (take i xs) x

pub one_more_entry : {V : Type 0} (xs : List (List ℕ × V)) (i : ℕ) (x : List ℕ × V) (v : V) (old new : List (List ℕ × V)) → i < length xs → x ≡ get_or xs i x → v ≡ x.1 → old ≡ merged (take i xs) → new ≡ insert_entry (pointwise nat_eq) old x.0 v → new ≡ merged (take (i + 1) xs)
one_more_entry xs i x v old new l is same h e = e ∙ (λ j. insert_entry (pointwise nat_eq) (h j) x.0 (same j)) ∙ sym (next_merged xs i x l is)

pub all_entries : {V : Type 0} (xs ys : List (List ℕ × V)) → xs ≡ ys → (i : ℕ) (made : List (List ℕ × V)) → length xs ≤ i → made ≡ merged (take i xs) → made ≡ merged ys
all_entries xs ys e i made l h = h ∙ ap merged (take_all i xs l ∙ e)

-- what holds of all values of a list of pairs, and still does where repeated names are merged
abbrev pub Each : {K V : Type 0} → (V → Type 0) → List (K × V) → Type 0
Each P [] = Unit {0}
Each P (x ∷ xs) = P x.1 × Each P xs

each_put_at : {K V : Type 0} (P : V → Type 0) (b : Bool) (e : K × V) (es more : List (K × V)) (v : V) → P e.1 → P v → Each P es → Each P more → Each P (if b then (e.0, v) ∷ es else e ∷ more)
each_put_at P true e es more v h k a m = (k, a)
each_put_at P false e es more v h k a m = (h, m)

each_put : {K V : Type 0} (eq : K → K → Bool) (P : V → Type 0) (es : List (K × V)) (k : K) (v : V) → Each P es → P v → Each P (insert_entry eq es k v)
each_put eq P [] k v a h = (h, tt)
each_put eq P (e ∷ es) k v (g, a) h = each_put_at P (eq k e.0) e es (insert_entry eq es k v) v g h a (each_put eq P es k v a h)

pub each_merged : {K V : Type 0} (eq : K → K → Bool) (P : V → Type 0) (es xs : List (K × V)) → Each P es → Each P xs → Each P (insert_all eq es xs)
each_merged eq P es [] a b = a
each_merged eq P es (x ∷ xs) a (h, b) = each_merged eq P (insert_entry eq es x.0 x.1) xs (each_put eq P es x.0 x.1 a h) b

pub each_all : {K V : Type 0} (P : V → Type 0) (xs : List (K × V)) → Each P xs → All (λ x. P x.1) xs
each_all P [] e i d l = absurd (omega (arith, l))
each_all P (x ∷ xs) (h, e) zero d l = h
each_all P (x ∷ xs) (h, e) (suc i) d l = each_all P xs e i d (omega (arith, l))

pub all_each : {K V : Type 0} (P : V → Type 0) (xs : List (K × V)) → All (λ x. P x.1) xs → Each P xs
all_each P [] a = tt
all_each P (x ∷ xs) a = (a 0 x (omega arith), all_each P xs (λ j d l. a (suc j) d (omega (arith, l))))

-- what holds of the second of two, of all that stand beside others
pub zip_right : {A B : Type 0} (R : A → B → Type 0) (P : B → Type 0) → ((x : A) (y : B) → R x y → P y) → (xs : List A) (ys : List B) → AllZip R xs ys → All P ys
zip_right R P f [] [] a i d l = absurd (omega (arith, l))
zip_right R P f [] (y ∷ ys) a i d l = absurd a
zip_right R P f (x ∷ xs) [] a i d l = absurd a
zip_right R P f (x ∷ xs) (y ∷ ys) (h, a) zero d l = f x y h
zip_right R P f (x ∷ xs) (y ∷ ys) (h, a) (suc i) d l = zip_right R P f xs ys a i d (omega (arith, l))
