-- How many types the forms need, and parameters one behind the other.
use Rattle.std.proofs.Common.{◌≡◌, ℕ, zero, suc, ◌+◌, ◌*◌, ◌≤◌, Bool, false, List, [], ◌∷◌, ◌++◌, length, refl, sym, ap, subst, ◌∙◌, add-one, append_assoc, arith, length-append}
use Rattle.std.specs.Prelude.{codes, map}
use Rattle.std.specs.Fmt.{decimal}
use Rattle.std.specs.List.{range_with_len}
use Rattle.std.proofs.lemmas.List.FromFn.{map-range_with_len_more}
use Rattle.fact_source.specs.declared.defined.PrimitiveValType.TheVariants as word
use Rattle.fact_plan.specs.declared.plan.PlanRef.{PlanRef}
use Rattle.fact_plan.specs.declared.plan.PlanRef.TheVariants.{Word, Entry}
use Rattle.fact_plan.specs.declared.plan.PlanType.{PlanType}
use Rattle.fact_plan.specs.declared.plan.PlanType.TheVariants as entry
use Rattle.fact_generate.specs.declared.form.AdapterForm.{AdapterForm}
use Rattle.fact_generate.specs.declared.form.AdapterForm.TheVariants as form
use Rattle.fact_generate.specs.Forms.{nest_ref, nest_types, types_for}

-- a nest needs two a level
pub length-nest_types : (place depth : ℕ) → length (nest_types place depth) ≡ 2 * depth
length-nest_types place zero = refl
length-nest_types place (suc d) =
    let e : length (nest_types place (suc d)) ≡ length (nest_types place d) + 2 = length-append (nest_types place d) _ in
    let h : length (nest_types place d) ≡ 2 * d = length-nest_types place d in
    omega arith

-- one level more
nest_types-more : (place d : ℕ) → nest_types place (d + 1) ≡ nest_types place d ++ entry.List (nest_ref place d) ∷ entry.Tuple (nest_ref place d ∷ Entry (place + 2 * d) ∷ []) ∷ []
nest_types-more place d = ap (nest_types place) (add-one d)

two-behind : (xs ys : List PlanType) (a b : PlanType) → ((xs ++ ys) ++ a ∷ []) ++ b ∷ [] ≡ xs ++ (ys ++ a ∷ b ∷ [])
two-behind xs ys a b = append_assoc (xs ++ ys) (a ∷ []) (b ∷ []) ∙ append_assoc xs ys (a ∷ b ∷ [])

-- a list and a tuple behind the types of a nest make one that is a level deeper
pub nest-deeper : (place d : ℕ) (front ts listed tupled : List PlanType) (inner : PlanRef) (members : List PlanRef) → ts ≡ front ++ nest_types place d → inner ≡ nest_ref place d → members ≡ inner ∷ Entry (place + 2 * d) ∷ []
    → listed ≡ ts ++ entry.List inner ∷ [] → tupled ≡ listed ++ entry.Tuple members ∷ [] → tupled ≡ front ++ nest_types place (d + 1)
nest-deeper place d front ts listed tupled inner members before is both one two =
    two ∙ ap (λ (l : List PlanType). l ++ entry.Tuple members ∷ []) (one ∙ ap (λ (l : List PlanType). l ++ entry.List inner ∷ []) before)
    ∙ two-behind front (nest_types place d) (entry.List inner) (entry.Tuple members)
    ∙ ap (λ (ms : List PlanRef). front ++ (nest_types place d ++ entry.List inner ∷ entry.Tuple ms ∷ [])) both
    ∙ ap (λ (r : PlanRef). front ++ (nest_types place d ++ entry.List r ∷ entry.Tuple (r ∷ Entry (place + 2 * d) ∷ []) ∷ [])) is
    ∙ ap (λ (l : List PlanType). front ++ l) (sym (nest_types-more place d))

-- Both sides need as many.
pub types-as-many : (lifts : Bool) (form : AdapterForm) (place : ℕ) → length (types_for lifts form place) ≡ length (types_for false form place)
types-as-many lifts form.Number place = refl
types-as-many lifts form.Chars place = refl
types-as-many lifts form.Record place = refl
types-as-many lifts form.Text place = refl
types-as-many lifts form.List place = refl
types-as-many lifts form.Variant place = refl
types-as-many lifts (form.Nest depth) place = refl
types-as-many lifts form.Many place = refl

-- places that fit on a side fit for its function
pub func_fits : (lifts : Bool) (form : AdapterForm) (place : ℕ) → place + length (types_for lifts form place) ≤ 4294967295 → place + length (types_for false form place) ≤ 4294967295
func_fits lifts form place fits = subst (λ (n : ℕ). place + n ≤ 4294967295) (types-as-many lifts form place) fits

-- the first parameters of those that are many
abbrev pub param_at : ℕ → List ℕ × PlanRef
param_at i = (codes "x" ++ decimal i, Word word.U32)

abbrev pub first_params : ℕ → List (List ℕ × PlanRef)
first_params n = map param_at (range_with_len 0 n)

pub first_params_more : (n : ℕ) → first_params (n + 1) ≡ first_params n ++ param_at n ∷ []
first_params_more n = map-range_with_len_more param_at 0 n n (omega arith)
