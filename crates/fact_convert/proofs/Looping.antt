-- Items of a list are converted one after another.
use Rattle.std.proofs.Common.{◌≡◌, ◌<◌, ◌≤◌, ◌+◌, ℕ, List, [], ◌∷◌, ◌++◌, length, take, drop, get_or, sym, ◌∙◌, ap, subst, append-nil}
use Rattle.std.specs.Prelude.{flat_map, Ok, Err}
use Rattle.std.proofs.lemmas.List.{take_more, take_all, drop_more, take-append-drop}
use Rattle.std.proofs.lemmas.Grind.{flat_map-append}
use Rattle.fact_source.specs.SourceTables.{SourceTables}
use Rattle.fact_builder.specs.declared.error.BuildError.{BuildError}
use Rattle.fact_builder.specs.declared.error.BuildError.TheVariants.{OutOfMemory}
use Rattle.fact_convert.specs.Conversion.{BuilderGrows}
use Rattle.fact_builder.specs.Builder.{Builder}
use Rattle.fact_convert.specs.Performing.{PerformsAll}
use Rattle.fact_convert.specs.Progress.{Comes}
use Rattle.fact_convert.specs.Tasks.{Task}
use Rattle.fact_convert.proofs.Coming.{comes_then, comes_not, comes_as, comes_with, comes_short}

one_joined : {X : Type 0} (f : X → List Task) (xs : List X) (x : X) → flat_map f (xs ++ x ∷ []) ≡ flat_map f xs ++ f x
one_joined f xs x = flat_map-append f xs (x ∷ []) ∙ ap (λ (ys : List Task). flat_map f xs ++ ys) (append-nil (f x))

split_at : {X : Type 0} (xs : List X) (i : ℕ) (d : X) → i < length xs → xs ≡ take i xs ++ get_or xs i d ∷ drop (i + 1) xs
split_at xs i d l = sym (take-append-drop i xs) ∙ ap (λ ys. take i xs ++ ys) (drop_more xs i d l)

joined_at : {X : Type 0} (f : X → List Task) (xs : List X) (i : ℕ) (d : X) → i < length xs → flat_map f xs ≡ flat_map f (take i xs) ++ (f (get_or xs i d) ++ flat_map f (drop (i + 1) xs))
joined_at f xs i d l = ap (flat_map f) (split_at xs i d l) ∙ flat_map-append f (take i xs) (get_or xs i d ∷ drop (i + 1) xs)

-- one more item was converted; its tasks were done behind those of the items before it
pub one_more_done : {X Y Z : Type 0} (s : SourceTables) (a b c : Builder) (tasks : X → List Task) (xs : List X) (i : ℕ) (x : X) (F : List X → Builder → Y → Type 0) (G : Builder → Z → Type 0) (y next : Y) (z : Z)
    → i < length xs → x ≡ get_or xs i x → Comes s a (flat_map tasks (take i xs)) (F (take i xs)) b (Ok y) → Comes s b (tasks x) G c (Ok z)
    → (PerformsAll s a (flat_map tasks (take i xs) ++ tasks x) c → BuilderGrows b c → F (take i xs) b y → G c z → F (take i xs ++ x ∷ []) c next) → Comes s a (flat_map tasks (take (i + 1) xs)) (F (take (i + 1) xs)) c (Ok next)
one_more_done s a b c tasks xs i x F G y next z l is p q f =
    let there : take (i + 1) xs ≡ take i xs ++ x ∷ [] = take_more xs i x l ∙ ap (λ w. take i xs ++ w ∷ []) (sym is) in
    let both = comes_then s a b c (flat_map tasks (take i xs)) (tasks x) (F (take i xs)) G y (Ok z) p q in
    let told = comes_with s a c (flat_map tasks (take i xs) ++ tasks x) G (F (take i xs ++ x ∷ [])) z next (f both.converts.0 q.grows p.converts.1) both in
    subst (λ ws. Comes s a (flat_map tasks ws) (F ws) c (Ok next)) (sym there) (comes_as s a c _ _ _ _ (sym (one_joined tasks (take i xs) x)) told)

pub one_more_came : {X Y Z : Type 0} (s : SourceTables) (a b c : Builder) (tasks : X → List Task) (xs : List X) (i : ℕ) (x : X) (F : List X → Builder → Y → Type 0) (G : Builder → Z → Type 0) (y next : Y) (z : Z)
    → i < length xs → x ≡ get_or xs i x → Comes s a (flat_map tasks (take i xs)) (F (take i xs)) b (Ok y) → Comes s b (tasks x) G c (Ok z)
    → (BuilderGrows b c → F (take i xs) b y → G c z → F (take i xs ++ x ∷ []) c next) → Comes s a (flat_map tasks (take (i + 1) xs)) (F (take (i + 1) xs)) c (Ok next)
one_more_came s a b c tasks xs i x F G y next z l is p q f = one_more_done s a b c tasks xs i x F G y next z l is p q (λ done. f)

-- one was not, and that ends all
pub one_failed : {X Y Z W : Type 0} (s : SourceTables) (a b c : Builder) (tasks : X → List Task) (xs : List X) (i : ℕ) (x : X) (F : Builder → Y → Type 0) (G : Builder → Z → Type 0) (H : Builder → W → Type 0) (y : Y) (e : BuildError)
    → i < length xs → x ≡ get_or xs i x → Comes s a (flat_map tasks (take i xs)) F b (Ok y) → Comes s b (tasks x) G c (Err e) → Comes s a (flat_map tasks xs) H c (Err e)
one_failed s a b c tasks xs i x F G H y e l is p q =
    let rest = flat_map tasks (drop (i + 1) xs) in
    let both = comes_then s a b c (flat_map tasks (take i xs)) (tasks x ++ rest) F H y (Err e) p (comes_not s b c (tasks x) rest G H e q) in
    comes_as s a c _ _ H (Err e) (sym (joined_at tasks xs i x l ∙ ap (λ (w : _). flat_map tasks (take i xs) ++ (tasks w ++ rest)) (sym is))) both

-- one was converted, and there was no memory to keep it
pub one_lost : {X Y Z W : Type 0} (s : SourceTables) (a b c : Builder) (tasks : X → List Task) (xs : List X) (i : ℕ) (x : X) (F : Builder → Y → Type 0) (G : Builder → Z → Type 0) (H : Builder → W → Type 0) (y : Y) (z : Z)
    → i < length xs → x ≡ get_or xs i x → Comes s a (flat_map tasks (take i xs)) F b (Ok y) → Comes s b (tasks x) G c (Ok z) → Comes s a (flat_map tasks xs) H c (Err OutOfMemory)
one_lost s a b c tasks xs i x F G H y z l is p q =
    one_failed s a b c tasks xs i x F G H y OutOfMemory l is p (comes_as s b c _ _ G (Err OutOfMemory) (append-nil (tasks x)) (comes_short s b c (tasks x) [] G G z q))

-- all were
pub all_came : {X Y : Type 0} (s : SourceTables) (a b : Builder) (tasks : X → List Task) (xs : List X) (i : ℕ) (F : List X → Builder → Y → Type 0) (y : Y) → length xs ≤ i → Comes s a (flat_map tasks (take i xs)) (F (take i xs)) b (Ok y) → Comes s a (flat_map tasks xs) (F xs) b (Ok y)
all_came s a b tasks xs i F y l p = subst (λ ws. Comes s a (flat_map tasks ws) (F ws) b (Ok y)) (take_all i xs l) p
