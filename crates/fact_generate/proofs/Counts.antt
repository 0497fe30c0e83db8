-- How long the lists of generated plans are, and that they grow at their ends alone.
use Rattle.std.proofs.Common.{◌≡◌, ℕ, zero, suc, ◌+◌, ◌*◌, ◌/◌, ◌%◌, ◌<◌, ◌≤◌, Bool, true, false, List, [], ◌∷◌, ◌++◌, length, get_or, subst, arith, inl, inr, length-append}
use Rattle.std.specs.List.{AllByRecursion}
use Rattle.std.proofs.lemmas.Bool.{cases_lt}
use Rattle.std.proofs.lemmas.Nat.{mod_below}
use Rattle.fact_plan.specs.declared.plan.PlanType.TheVariants as entry
use Rattle.fact_plan.specs.declared.plan.PlanRef.TheVariants.{Entry}
use Rattle.fact_plan.specs.declared.plan.FusePlan.{FusePlan}
use Rattle.fact_plan_types.specs.PlanShapes.{plan_shapes}
use Rattle.fact_generate.specs.declared.form.AdapterForm.{AdapterForm}
use Rattle.fact_generate.specs.declared.form.AdapterForm.TheVariants as form
use Rattle.fact_generate.specs.Forms.{adapter_form, adapter_forms, nest_ref, nest_types, types_for}
use Rattle.fact_generate.specs.Generated.{adapter_for, core_type_for, export_of, func_for, generated, adapter_name, with_function, with_types}
use Rattle.fact_generate.proofs.Fronts.{Front, front-more, front-same, front-trans}
use Rattle.fact_generate.proofs.Standing.{shapes_added, types-stand}

-- ---- the forms that there are

pub get-all : {X : Type 0} (P : X → Type 0) (xs : List X) (d : X) (j : ℕ) → AllByRecursion P xs → P d → P (get_or xs j d)
get-all P [] d j all h = h
get-all P (x ∷ xs) d zero all h = all.0
get-all P (x ∷ xs) d (suc j) all h = get-all P xs d j all.1 h

-- tuples nest at most 10 deep
abbrev pub IsShallow : AdapterForm → Type 0
IsShallow (form.Nest depth) = depth ≤ 10
IsShallow _ = Unit {0}

forms-shallow : (depth j : ℕ) → depth ≤ 10 → IsShallow (get_or (adapter_forms depth) j form.Number)
forms-shallow depth j l = get-all IsShallow (adapter_forms depth) form.Number j (tt, (tt, (tt, (tt, (tt, (tt, (l, (tt, tt)))))))) tt

pub form-shallow : (k : ℕ) → IsShallow (adapter_form k)
form-shallow k =
    let rest : (k / 8) % 10 < 10 = mod_below (k / 8) 10 (omega arith) in
    forms-shallow (1 + (k / 8) % 10) (k % 8) (omega arith)

-- ---- types

pub nest-types-count : (place d : ℕ) → length (nest_types place d) ≡ 2 * d
nest-types-count place zero = omega arith
nest-types-count place (suc d) =
    omega (arith, nest-types-count place d, length-append (nest_types place d) (entry.List (nest_ref place d) ∷ entry.Tuple (nest_ref place d ∷ Entry (place + 2 * d) ∷ []) ∷ []))

pub form-adds-few : (lifts : Bool) (form : AdapterForm) (place : ℕ) → IsShallow form → length (types_for lifts form place) ≤ 20
form-adds-few lifts form.Number place h = omega arith
form-adds-few lifts form.Chars place h = omega arith
form-adds-few lifts form.Record place h = omega arith
form-adds-few lifts form.Text place h = omega arith
form-adds-few lifts form.List place h = omega arith
form-adds-few lifts form.Variant place h = omega arith
form-adds-few lifts (form.Nest depth) place h = omega (arith, nest-types-count place depth, h)
form-adds-few lifts form.Many place h = omega arith

pub added-few : (lifts : Bool) (k place : ℕ) → length (types_for lifts (adapter_form k) place) ≤ 20
added-few lifts k place = form-adds-few lifts (adapter_form k) place (form-shallow k)

-- ---- one side more

types-more : (lifts : Bool) (form : AdapterForm) (p : FusePlan) → length (with_function lifts form p).types ≡ length p.types + length (types_for lifts form (length p.types))
types-more lifts form p = length-append p.types (types_for lifts form (length p.types))

one-more : {X : Type 0} (xs : List X) (x : X) → length (xs ++ x ∷ []) ≡ length xs + 1
one-more xs x = length-append xs (x ∷ [])

two-more : {X : Type 0} (xs : List X) (x y : X) → length ((xs ++ x ∷ []) ++ y ∷ []) ≡ length xs + 2
two-more xs x y = omega (arith, one-more (xs ++ x ∷ []) y, one-more xs x)

types-grow : (p : FusePlan) (form : AdapterForm) (m : ℕ) → ((lifts : Bool) (place : ℕ) → length (types_for lifts form place) ≤ 20) → length p.types ≤ 40 * m → length (with_function true form (with_function false form p)).types ≤ 40 * suc m
types-grow p form m few h =
    let q = with_function false form p in
    omega (arith, h, types-more false form p, types-more true form q, few false (length p.types), few true (length q.types))

pub types-few : (n : ℕ) → length (generated n).types ≤ 40 * n
unfolding generated
types-few zero = omega arith
types-few (suc k) = types-grow (generated k) (adapter_form k) k (λ lifts place. added-few lifts k place) (types-few k)

pub funcs-count : (n : ℕ) → length (generated n).funcs ≡ 2 * n
unfolding generated
funcs-count zero = omega arith
funcs-count (suc k) =
    let p = generated k in
    let f = adapter_form k in
    let more = two-more p.funcs (func_for f (length p.types)) (func_for f (length (with_function false f p).types)) in
    omega (arith, funcs-count k, more)

pub core-types-count : (n : ℕ) → length (generated n).core_types ≡ 2 * n
unfolding generated
core-types-count zero = omega arith
core-types-count (suc k) =
    let p = generated k in
    let f = adapter_form k in
    let q = with_function false f p in
    let more = two-more p.core_types (core_type_for (with_types false f p) false f (func_for f (length p.types))) (core_type_for (with_types true f q) true f (func_for f (length q.types))) in
    omega (arith, core-types-count k, more)

pub core-defs-count : (n : ℕ) → length (generated n).core_defs ≡ 4 + n
unfolding generated
core-defs-count zero = omega arith
core-defs-count (suc k) = omega (arith, core-defs-count k, one-more (generated k).core_defs (export_of 1 (adapter_name k)))

pub adapters-count : (n : ℕ) → length (generated n).adapters ≡ n
unfolding generated
adapters-count zero = omega arith
adapters-count (suc k) = omega (arith, adapters-count k, one-more (generated k).adapters (adapter_for k))

-- ---- what stands stays

pub record Grown (p q : FusePlan) : Type 0 where
  pub types : Front p.types q.types
  pub shapes : Front (plan_shapes p) (plan_shapes q)
  pub funcs : Front p.funcs q.funcs
  pub core_types : Front p.core_types q.core_types
  pub core_defs : Front p.core_defs q.core_defs
  pub adapters : Front p.adapters q.adapters

grown-same : (p : FusePlan) → Grown p p
grown-same p = record { types = front-same p.types; shapes = front-same (plan_shapes p); funcs = front-same p.funcs; core_types = front-same p.core_types; core_defs = front-same p.core_defs; adapters = front-same p.adapters }

grown-trans : (p q r : FusePlan) → Grown p q → Grown q r → Grown p r
grown-trans p q r a b = record {
  types = front-trans p.types q.types r.types a.types b.types;
  shapes = front-trans (plan_shapes p) (plan_shapes q) (plan_shapes r) a.shapes b.shapes;
  funcs = front-trans p.funcs q.funcs r.funcs a.funcs b.funcs;
  core_types = front-trans p.core_types q.core_types r.core_types a.core_types b.core_types;
  core_defs = front-trans p.core_defs q.core_defs r.core_defs a.core_defs b.core_defs;
  adapters = front-trans p.adapters q.adapters r.adapters a.adapters b.adapters;
}

two-behind : {X : Type 0} (xs ys zs : List X) → Front xs ((xs ++ ys) ++ zs)
two-behind xs ys zs = front-trans xs (xs ++ ys) ((xs ++ ys) ++ zs) (front-more xs ys) (front-more (xs ++ ys) zs)

grown-by-one : (k : ℕ) → Grown (generated k) (generated (suc k))
unfolding generated
grown-by-one k = record {
  types = two-behind (generated k).types _ _;
  shapes = record { rest = shapes_added false (adapter_form k) ++ shapes_added true (adapter_form k); whole = types-stand k };
  funcs = two-behind (generated k).funcs _ _;
  core_types = two-behind (generated k).core_types _ _;
  core_defs = front-more (generated k).core_defs _;
  adapters = front-more (generated k).adapters _;
}

-- the lists of a plan of fewer adapters are those that the lists of one of more begin with
pub grown : (k n : ℕ) → k ≤ n → Grown (generated k) (generated n)
grown k zero l = let e : zero ≡ k = omega arith in subst (λ (i : ℕ). Grown (generated i) (generated zero)) e (grown-same (generated zero))
grown k (suc n) l = elim (cases_lt k (suc n)) [
  | inl b ↦ grown-trans (generated k) (generated n) (generated (suc n)) (grown k n (omega (arith, b))) (grown-by-one n)
  | inr a ↦ let e : suc n ≡ k = omega (arith, a, l) in subst (λ (i : ℕ). Grown (generated i) (generated (suc n))) e (grown-same (generated (suc n)))
]
