-- The types of every form break no rule.
use Rattle.std.proofs.Common.{◌≡◌, ◌≢◌, ℕ, zero, suc, ◌+◌, ◌*◌, ◌<◌, ◌≤◌, Bool, true, false, List, [], ◌∷◌, ◌++◌, length, get_or, Any, AllPairs, Some, None, slice_get, codes, refl, sym, ap, subst, arith}
use Rattle.std.specs.List.{AllByRecursion}
use Rattle.std.proofs.lemmas.List.Elements.{All-from_recursion}
use Rattle.std.proofs.lemmas.List.Kept.{AllPairs-cons}
use Rattle.fact_types.specs.declared.interface.InterfaceType.TheVariants as type
use Rattle.fact_types.specs.Shapes.{Shape, s_plain}
use Rattle.fact_plan.specs.declared.plan.PlanRef.{PlanRef}
use Rattle.fact_plan.specs.declared.plan.PlanRef.TheVariants.{Entry}
use Rattle.fact_plan.specs.declared.plan.PlanType.{PlanType}
use Rattle.fact_plan.specs.declared.plan.PlanType.TheVariants as entry
use Rattle.fact_plan_types.specs.TypeRules.{HasManyCases, HasManyFlags, IsEmpty, IsErrorContext, IsFrom, IsRepeated, IsTooLarge, instance_in, list_length, names_in, table_in, types_in}
use Rattle.fact_generate.specs.declared.form.AdapterForm.{AdapterForm}
use Rattle.fact_generate.specs.declared.form.AdapterForm.TheVariants as form
use Rattle.fact_generate.specs.Forms.{nest_ref, nest_types, types_for}
use Rattle.fact_generate.specs.Linked.{list_shape, nest_shape}
use Rattle.fact_generate.proofs.Counts.{IsShallow, nest-types-count}
use Rattle.fact_generate.proofs.Layouts.{list-fits, nest-fits, nest-nesting, option-fits, record-fits, result-fits, variant-fits}
use Rattle.fact_generate.proofs.Standing.{nest_shapes, shapes_added}

-- ---- lists of which nothing has a property, and names that are apart

pub none-of : {X : Type 0} (P : X → Type 0) (xs : List X) → AllByRecursion (λ x. P x → ⊥) xs → Any P xs → ⊥
none-of P [] n (k, y, l, e, p) = omega (arith, l)
none-of P (x ∷ xs) n (zero, y, l, e, p) = n.0 (subst P (sym e) p)
none-of P (x ∷ xs) n (suc k, y, l, e, p) = none-of P xs n.1 (k, y, omega (arith, l), e, p)

abbrev pub AreApart : List (List ℕ) → Type 0
AreApart [] = Unit {0}
AreApart (x ∷ xs) = AllByRecursion (λ y. x ≢ y) xs × AreApart xs

apart-pairs : (xs : List (List ℕ)) → AreApart xs → AllPairs (λ x y. x ≢ y) xs
apart-pairs [] n = λ i j d l b. absurd (omega (arith, b))
apart-pairs (x ∷ xs) n = AllPairs-cons (λ x y. x ≢ y) x xs (All-from_recursion (λ y. x ≢ y) xs n.0) (apart-pairs xs n.1)

pub not-repeated : (xs : List (List ℕ)) → AreApart xs → IsRepeated xs → ⊥
not-repeated xs n r = r (apart-pairs xs n)

abbrev head : List ℕ → ℕ
head xs = get_or xs 0 0

pub heads-apart : (xs ys : List ℕ) → (head xs ≡ head ys → ⊥) → xs ≢ ys
heads-apart xs ys n e = n (ap head e)

-- ---- an entry without fault, at a place, that stands for a shape

-- a type that is no entry of this place or a later one, and no error context
pub record IsKnown (k : ℕ) (r : PlanRef) : Type 0 where
  pub early : IsFrom k r → ⊥
  pub valued : IsErrorContext r → ⊥

pub record IsSound (k : ℕ) (e : PlanType) (s : Shape) : Type 0 where
  pub known : AllByRecursion (IsKnown k) (types_in e)
  pub no_table : table_in e ≡ None
  pub no_instance : instance_in e ≡ None
  pub some : IsEmpty e → ⊥
  pub apart : AreApart (names_in e)
  pub no_flags : HasManyFlags e → ⊥
  pub short : list_length e ≤ 3
  pub few : HasManyCases e → ⊥
  pub fits : IsTooLarge s → ⊥

-- entries one after another from a place on
abbrev pub AreSound : ℕ → List PlanType → List Shape → Type 0
AreSound k [] [] = Unit {0}
AreSound k (e ∷ es) (s ∷ ss) = IsSound k e s × AreSound (suc k) es ss
AreSound k _ _ = ⊥

pub sound-append : (es fs : List PlanType) (ss zs : List Shape) (k : ℕ) → AreSound k es ss → AreSound (k + length es) fs zs → AreSound k (es ++ fs) (ss ++ zs)
sound-append [] fs [] zs k a b = let e : k + 0 ≡ k = omega arith in subst (λ (n : ℕ). AreSound n fs zs) e b
sound-append [] fs (s ∷ ss) zs k a b = absurd a
sound-append (e ∷ es) fs [] zs k a b = absurd a
sound-append (e ∷ es) fs (s ∷ ss) zs k a b =
    let same : k + suc (length es) ≡ suc k + length es = omega arith in
    (a.0, sound-append es fs ss zs (suc k) a.1 (subst (λ (n : ℕ). AreSound n fs zs) same b))

-- the entry at a place, with its shape
pub sound-at : (es : List PlanType) (ss : List Shape) (k j n : ℕ) (e : PlanType) → n ≡ k + j → AreSound k es ss → slice_get es j ≡ Some e → (s : Shape) × (slice_get ss j ≡ Some s) × IsSound n e s
sound-at [] ss k j n e at a h = absurd (cc)
sound-at (x ∷ es) [] k j n e at a h = absurd a
sound-at (x ∷ es) (s ∷ ss) k zero n e at a h =
    let here : x ≡ e = cc in
    let place : k ≡ n = omega (arith, at) in
    (s, refl, subst (λ (i : ℕ). IsSound i e s) place (subst (λ (y : PlanType). IsSound k y s) here a.0))
sound-at (x ∷ es) (s ∷ ss) k (suc j) n e at a h = sound-at es ss (suc k) j n e (omega (arith, at)) a.1 h

-- ---- words and entries before

word : (k : ℕ) (r : PlanRef) → (IsFrom k r → ⊥) → (IsErrorContext r → ⊥) → IsKnown k r
word k r a b = record { early = a; valued = b }

pub before : (k j : ℕ) → j < k → IsKnown k (Entry j)
before k j l = record { early = λ h. omega (arith, l, h); valued = λ h. h }

pub nest-known : (d place k : ℕ) → place + 2 * d ≤ k → IsKnown k (nest_ref place d)
nest-known zero place k l = word k (nest_ref place zero) (λ h. h) (λ h. h)
nest-known (suc d) place k l = before k (place + (2 * d + 1)) (omega (arith, l))

-- ---- the types of every form

list-sound : (k : ℕ) (r : PlanRef) (s : Shape) → IsKnown k r → (IsTooLarge (list_shape s) → ⊥) → IsSound k (entry.List r) (list_shape s)
list-sound k r s h f = record { known = (h, tt); no_table = refl; no_instance = refl; some = λ h. h; apart = tt; no_flags = λ h. h; short = omega arith; few = λ h. h; fits = f }

pair-sound : (k : ℕ) (a b : PlanRef) (s : Shape) → IsKnown k a → IsKnown k b → (IsTooLarge s → ⊥) → IsSound k (entry.Tuple (a ∷ b ∷ [])) s
pair-sound k a b s h i f = record { known = (h, (i, tt)); no_table = refl; no_instance = refl; some = λ h. h; apart = tt; no_flags = λ h. h; short = omega arith; few = λ h. h; fits = f }

nest-sound : (d place : ℕ) → d ≤ 10 → AreSound place (nest_types place d) (nest_shapes d)
nest-sound zero place l = tt
nest-sound (suc d) place l =
    let k = place + length (nest_types place d) in
    let count = nest-types-count place d in
    let list = list-sound k (nest_ref place d) (nest_shape d) (nest-known d place k (omega (arith, count))) (list-fits (nest_shape d) (omega (arith, nest-nesting d, l))) in
    let pair = pair-sound (suc k) (nest_ref place d) (Entry (place + 2 * d)) (nest_shape (suc d)) (nest-known d place (suc k) (omega (arith, count))) (before (suc k) (place + 2 * d) (omega (arith, count))) (nest-fits d l) in
    sound-append (nest_types place d) _ (nest_shapes d) _ place (nest-sound d place (omega (arith, l))) (list, (pair, tt))

record-sound : (lifts : Bool) (place : ℕ) → AreSound place (types_for lifts form.Record place) (shapes_added lifts form.Record)
record-sound false place = (
  record {
    known = (word place _ (λ h. h) (λ h. h), (word place _ (λ h. h) (λ h. h), tt));
    no_table = refl;
    no_instance = refl;
    some = λ h. h;
    apart = ((heads-apart (codes "a") (codes "b") (λ e. omega (arith, e)), tt), (tt, tt));
    no_flags = λ h. h;
    short = omega arith;
    few = λ h. h;
    fits = record-fits false;
  },
  tt,
)
record-sound true place = (
  record {
    known = (word place _ (λ h. h) (λ h. h), (word place _ (λ h. h) (λ h. h), tt));
    no_table = refl;
    no_instance = refl;
    some = λ h. h;
    apart = ((heads-apart (codes "b") (codes "a") (λ e. omega (arith, e)), tt), (tt, tt));
    no_flags = λ h. h;
    short = omega arith;
    few = λ h. h;
    fits = record-fits true;
  },
  tt,
)

variant-sound : (lifts : Bool) (place : ℕ) → AreSound place (types_for lifts form.Variant place) (shapes_added lifts form.Variant)
variant-sound false place = (
  record {
    known = (word place _ (λ h. h) (λ h. h), (word place _ (λ h. h) (λ h. h), tt));
    no_table = refl;
    no_instance = refl;
    some = λ h. h;
    apart = ((heads-apart (codes "p") (codes "q") (λ e. omega (arith, e)), (heads-apart (codes "p") (codes "r") (λ e. omega (arith, e)), tt)), ((heads-apart (codes "q") (codes "r") (λ e. omega (arith, e)), tt), (tt, tt)));
    no_flags = λ h. h;
    short = omega arith;
    few = λ h. omega (arith, h);
    fits = variant-fits false;
  },
  tt,
)
variant-sound true place = (
  record {
    known = (word place _ (λ h. h) (λ h. h), (word place _ (λ h. h) (λ h. h), tt));
    no_table = refl;
    no_instance = refl;
    some = λ h. h;
    apart = ((heads-apart (codes "r") (codes "q") (λ e. omega (arith, e)), (heads-apart (codes "r") (codes "p") (λ e. omega (arith, e)), tt)), ((heads-apart (codes "q") (codes "p") (λ e. omega (arith, e)), tt), (tt, tt)));
    no_flags = λ h. h;
    short = omega arith;
    few = λ h. omega (arith, h);
    fits = variant-fits true;
  },
  tt,
)

many-sound : (place : ℕ) → AreSound place (types_for true form.Many place) (shapes_added true form.Many)
many-sound place = (
  record { known = (word place _ (λ h. h) (λ h. h), tt); no_table = refl; no_instance = refl; some = λ h. h; apart = tt; no_flags = λ h. h; short = omega arith; few = λ h. h; fits = option-fits },
  (record { known = (word (suc place) _ (λ h. h) (λ h. h), (before (suc place) place (omega arith), tt)); no_table = refl; no_instance = refl; some = λ h. h; apart = tt; no_flags = λ h. h; short = omega arith; few = λ h. h; fits = result-fits }, tt),
)

pub types-sound : (lifts : Bool) (form : AdapterForm) (place : ℕ) → IsShallow form → AreSound place (types_for lifts form place) (shapes_added lifts form)
types-sound lifts form.Number place h = tt
types-sound lifts form.Chars place h = tt
types-sound lifts form.Record place h = record-sound lifts place
types-sound lifts form.Text place h = tt
types-sound lifts form.List place h = (list-sound place _ (s_plain type.U16) (word place _ (λ h. h) (λ h. h)) (list-fits (s_plain type.U16) (omega arith)), tt)
types-sound lifts form.Variant place h = variant-sound lifts place
types-sound lifts (form.Nest depth) place h = nest-sound depth place h
types-sound lifts form.Many place h = many-sound place
