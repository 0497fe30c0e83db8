-- The functions of every form break no rule.
use Rattle.std.proofs.Common.{◌≡◌, ◌≢◌, ℕ, ◌+◌, ◌<◌, ◌≤◌, Bool, List, [], ◌∷◌, ◌++◌, length, map, Any, AllPairs, IsTrue, codes, decimal, sym, ◌∙◌, arith}
use Rattle.std.specs.List.{AllByRecursion, range_with_len}
use Rattle.std.proofs.lemmas.Fmt.{decimal_injective}
use Rattle.std.proofs.lemmas.List.FromFn.{get_or-map-range_with_len, length-map-range_with_len}
use Rattle.fact_types.specs.Shapes.{Shape}
use Rattle.fact_types.specs.Handles.{has_borrow}
use Rattle.fact_plan.specs.declared.plan.PlanRef.{PlanRef}
use Rattle.fact_plan.specs.declared.plan.PlanRef.TheVariants.{Word}
use Rattle.fact_plan.specs.declared.plan.PlanFunc.{PlanFunc}
use Rattle.fact_source.specs.declared.defined.PrimitiveValType.TheVariants as word
use Rattle.fact_plan_types.specs.TypeRules.{IsErrorContext, IsFrom, IsPast, IsRepeated, param_types, tuple_layout}
use Rattle.fact_generate.specs.declared.form.AdapterForm.{AdapterForm}
use Rattle.fact_generate.specs.declared.form.AdapterForm.TheVariants as form
use Rattle.fact_generate.specs.Forms.{many_params, params_for, results_for, types_for}
use Rattle.fact_generate.specs.Generated.{func_for}
use Rattle.fact_generate.specs.Linked.{params_shaped, results_shaped}
use Rattle.fact_generate.proofs.Counts.{IsShallow, nest-types-count}
use Rattle.fact_generate.proofs.Layouts.{params-fit, results-fit}
use Rattle.fact_generate.proofs.Sound.{IsKnown, before, heads-apart, nest-known, none-of, not-repeated}

-- ---- the names of many parameters

names-apart : (f : ℕ → List ℕ) (n : ℕ) → ((i j : ℕ) → i < n → j < n → f i ≡ f j → i ≡ j) → AllPairs (λ x y. x ≢ y) (map f (range_with_len 0 n))
names-apart f n injective i j d l b e =
    let within : j < n = omega (arith, b, length-map-range_with_len f 0 n) in
    let at_i = get_or-map-range_with_len f 0 n i i d (omega (arith, l, within)) (omega arith) in
    let at_j = get_or-map-range_with_len f 0 n j j d within (omega arith) in
    let same = injective i j (omega (arith, l, within)) within (sym at_i ∙ e ∙ at_j) in
    omega (arith, l, same)

behind-letter : (i j : ℕ) → i < 17 → j < 17 → codes "x" ++ decimal i ≡ codes "x" ++ decimal j → i ≡ j
behind-letter i j a b e = decimal_injective i j (omega (arith, a)) (omega (arith, b)) (let tail : decimal i ≡ decimal j = cc e in tail)

many-names : IsRepeated (map (λ x. x.0) many_params) → ⊥
many-names r = r (names-apart (λ i. codes "x" ++ decimal i) 17 behind-letter)

-- ---- a function without fault, over so many types

pub record IsSoundFunc (count : ℕ) (f : PlanFunc) (params results : List Shape) : Type 0 where
  pub params_known : AllByRecursion (IsKnown count) (param_types f)
  pub results_known : AllByRecursion (IsKnown count) f.results
  pub apart : IsRepeated (map (λ x. x.0) f.params) → ⊥
  pub no_borrow : Any (λ s. IsTrue (has_borrow s)) results → ⊥
  pub few_params : length f.params ≤ 17
  pub few_results : length f.results ≤ 1
  pub params_fit : IsPast (tuple_layout params) → ⊥
  pub results_fit : IsPast (tuple_layout results) → ⊥

known-word : (count : ℕ) (r : PlanRef) → (IsFrom count r → ⊥) → (IsErrorContext r → ⊥) → IsKnown count r
known-word count r a b = record { early = a; valued = b }

-- one word so many times
words-known : (count : ℕ) (xs : List ℕ) → AllByRecursion (IsKnown count) (map (λ x. Word word.U32) xs)
words-known count [] = tt
words-known count (x ∷ xs) = (known-word count (Word word.U32) (λ h. h) (λ h. h), words-known count xs)

params-known : (lifts : Bool) (form : AdapterForm) (place count : ℕ) → place + length (types_for lifts form place) ≤ count → AllByRecursion (IsKnown count) (param_types (func_for form place))
params-known lifts form.Number place count l = (known-word count _ (λ h. h) (λ h. h), tt)
params-known lifts form.Chars place count l = (known-word count _ (λ h. h) (λ h. h), (known-word count _ (λ h. h) (λ h. h), tt))
params-known lifts form.Record place count l = (before count place (omega (arith, l)), tt)
params-known lifts form.Text place count l = (known-word count _ (λ h. h) (λ h. h), tt)
params-known lifts form.List place count l = (before count place (omega (arith, l)), tt)
params-known lifts form.Variant place count l = (before count place (omega (arith, l)), tt)
params-known lifts (form.Nest depth) place count l = (nest-known depth place count (omega (arith, l, nest-types-count place depth)), tt)
params-known lifts form.Many place count l = words-known count (range_with_len 0 17)

results-known : (lifts : Bool) (form : AdapterForm) (place count : ℕ) → place + length (types_for lifts form place) ≤ count → AllByRecursion (IsKnown count) (results_for form place)
results-known lifts form.Number place count l = tt
results-known lifts form.Chars place count l = (known-word count _ (λ h. h) (λ h. h), tt)
results-known lifts form.Record place count l = tt
results-known lifts form.Text place count l = (known-word count _ (λ h. h) (λ h. h), tt)
results-known lifts form.List place count l = (before count place (omega (arith, l)), tt)
results-known lifts form.Variant place count l = tt
results-known lifts (form.Nest depth) place count l = tt
results-known lifts form.Many place count l = (before count (place + 1) (omega (arith, l)), tt)

params-apart : (form : AdapterForm) (place : ℕ) → IsRepeated (map (λ x. x.0) (params_for form place)) → ⊥
params-apart form.Number place = not-repeated (codes "x" ∷ []) (tt, tt)
params-apart form.Chars place = not-repeated (codes "x" ∷ codes "y" ∷ []) ((heads-apart (codes "x") (codes "y") (λ e. omega (arith, e)), tt), (tt, tt))
params-apart form.Record place = not-repeated (codes "x" ∷ []) (tt, tt)
params-apart form.Text place = not-repeated (codes "x" ∷ []) (tt, tt)
params-apart form.List place = not-repeated (codes "x" ∷ []) (tt, tt)
params-apart form.Variant place = not-repeated (codes "x" ∷ []) (tt, tt)
params-apart (form.Nest depth) place = not-repeated (codes "x" ∷ []) (tt, tt)
params-apart form.Many place = many-names

no-borrow : (form : AdapterForm) → AllByRecursion (λ s. IsTrue (has_borrow s) → ⊥) (results_shaped form)
no-borrow form.Number = tt
no-borrow form.Chars = (λ h. absurd (cc h), tt)
no-borrow form.Record = tt
no-borrow form.Text = (λ h. absurd (cc h), tt)
no-borrow form.List = (λ h. absurd (cc h), tt)
no-borrow form.Variant = tt
no-borrow (form.Nest depth) = tt
no-borrow form.Many = (λ h. absurd (cc h), tt)

few-params : (form : AdapterForm) (place : ℕ) → length (params_for form place) ≤ 17
few-params form.Number place = omega arith
few-params form.Chars place = omega arith
few-params form.Record place = omega arith
few-params form.Text place = omega arith
few-params form.List place = omega arith
few-params form.Variant place = omega arith
few-params (form.Nest depth) place = omega arith
few-params form.Many place = omega arith

few-results : (form : AdapterForm) (place : ℕ) → length (results_for form place) ≤ 1
few-results form.Number place = omega arith
few-results form.Chars place = omega arith
few-results form.Record place = omega arith
few-results form.Text place = omega arith
few-results form.List place = omega arith
few-results form.Variant place = omega arith
few-results (form.Nest depth) place = omega arith
few-results form.Many place = omega arith

pub func-sound : (lifts : Bool) (form : AdapterForm) (place count : ℕ) → IsShallow form → place + length (types_for lifts form place) ≤ count → IsSoundFunc count (func_for form place) (params_shaped lifts form) (results_shaped form)
func-sound lifts form place count h l = record {
  params_known = params-known lifts form place count l;
  results_known = results-known lifts form place count l;
  apart = params-apart form place;
  no_borrow = none-of (λ (s : Shape). IsTrue (has_borrow s)) (results_shaped form) (no-borrow form);
  few_params = few-params form place;
  few_results = few-results form place;
  params_fit = params-fit lifts form h;
  results_fit = results-fit form;
}
