-- The functions of generated plans and their core types.
use Rattle.std.proofs.Common.{◌≡◌, ℕ, suc, ◌+◌, ◌*◌, ◌<◌, Bool, true, false, List, [], ◌∷◌, ◌++◌, length, Some, slice_get, sym, ◌∙◌, ap, arith, append_assoc, append-nil, length-append}
use Rattle.fact_wasm.specs.declared.types.FuncType.{FuncType}
use Rattle.fact_types.specs.Shapes.{Shape}
use Rattle.fact_plan.specs.declared.plan.PlanFunc.{PlanFunc}
use Rattle.fact_plan.specs.declared.plan.FusePlan.{FusePlan}
use Rattle.fact_plan_types.specs.PlanShapes.{plan_shapes}
use Rattle.fact_plan_types.specs.TypeRules.{param_shapes, result_shapes}
use Rattle.fact_generate.specs.declared.form.AdapterForm.{AdapterForm}
use Rattle.fact_generate.specs.Forms.{adapter_form, needs_memory}
use Rattle.fact_generate.specs.Generated.{core_type_for, type_of_signature, func_for, generated, instance_of, signature_for, with_function, with_types}
use Rattle.fact_generate.specs.Linked.{linked_side, params_shaped, results_shaped}
use Rattle.fact_generate.proofs.Counts.{core-types-count, funcs-count, grown}
use Rattle.fact_generate.proofs.Fronts.{Front, front-get, front-more, front-trans, get-at}
use Rattle.fact_generate.proofs.Standing.{MakesNoTables, function-makes-no-tables, generated-makes-no-tables, params-stand, params-within, results-stand, results-within, shapes_added, types-stand, types-stand-behind}

-- the plan to which a side of adapter k is added
abbrev pub plan_before : (lifts : Bool) → ℕ → FusePlan
plan_before false k = generated k
plan_before true k = with_function false (adapter_form k) (generated k)

-- the function of a side of adapter k
abbrev pub func_at : (lifts : Bool) → ℕ → PlanFunc
func_at lifts k = func_for (adapter_form k) (length (plan_before lifts k).types)

-- The function of a side, the shapes of its parameters and results, and its core type.
pub record SideStands (n k : ℕ) (lifts : Bool) : Type 0 where
  pub func : slice_get (generated n).funcs (2 * k + instance_of lifts) ≡ Some (func_at lifts k)
  pub params : param_shapes (generated n) (func_at lifts k) ≡ params_shaped lifts (adapter_form k)
  pub results : result_shapes (generated n) (func_at lifts k) ≡ results_shaped (adapter_form k)
  pub core_type : slice_get (generated n).core_types (2 * k + instance_of lifts) ≡ Some (linked_side lifts (adapter_form k)).core_type

pub before-makes-no-tables : (lifts : Bool) (k : ℕ) → MakesNoTables (plan_before lifts k).types
before-makes-no-tables false k = generated-makes-no-tables k
before-makes-no-tables true k = function-makes-no-tables false (adapter_form k) (generated k) (generated-makes-no-tables k)

-- ---- the shapes of a side stand behind those of the plan before it

shapes-behind : (lifts : Bool) (k : ℕ) → Front (plan_shapes (plan_before lifts k) ++ shapes_added lifts (adapter_form k)) (plan_shapes (generated (suc k)))
unfolding generated
shapes-behind false k = record { rest = shapes_added true (adapter_form k); whole = types-stand k ∙ sym (append_assoc (plan_shapes (generated k)) (shapes_added false (adapter_form k)) (shapes_added true (adapter_form k))) }
shapes-behind true k = record { rest = []; whole = types-stand-behind true (adapter_form k) (plan_before true k) (before-makes-no-tables true k) ∙ sym (append-nil (plan_shapes (plan_before true k) ++ shapes_added true (adapter_form k))) }

pub shapes-within : (n k : ℕ) (lifts : Bool) → k < n → Front (plan_shapes (plan_before lifts k) ++ shapes_added lifts (adapter_form k)) (plan_shapes (generated n))
shapes-within n k lifts l = front-trans (plan_shapes (plan_before lifts k) ++ shapes_added lifts (adapter_form k)) (plan_shapes (generated (suc k))) (plan_shapes (generated n)) (shapes-behind lifts k) (grown (suc k) n (omega (arith, l))).shapes

regrouped : (xs ys : List Shape) (zs : List Shape) → (f : Front (xs ++ ys) zs) → zs ≡ xs ++ (ys ++ f.rest)
regrouped xs ys zs f = f.whole ∙ append_assoc xs ys f.rest

-- ---- two items behind a list

first-behind : {X : Type 0} (xs : List X) (a b : X) (j : ℕ) → j ≡ length xs → slice_get ((xs ++ a ∷ []) ++ b ∷ []) j ≡ Some a
first-behind xs a b j e = front-get (xs ++ a ∷ []) ((xs ++ a ∷ []) ++ b ∷ []) j a (front-more (xs ++ a ∷ []) (b ∷ [])) (get-at xs [] a j e)

second-behind : {X : Type 0} (xs : List X) (a b : X) (j : ℕ) → j ≡ length xs + 1 → slice_get ((xs ++ a ∷ []) ++ b ∷ []) j ≡ Some b
second-behind xs a b j e = get-at (xs ++ a ∷ []) [] b j (omega (arith, e, length-append xs (a ∷ [])))

func-added : (k : ℕ) (lifts : Bool) → slice_get (generated (suc k)).funcs (2 * k + instance_of lifts) ≡ Some (func_at lifts k)
unfolding generated
func-added k false = first-behind (generated k).funcs (func_at false k) (func_at true k) (2 * k + 0) (omega (arith, funcs-count k))
func-added k true = second-behind (generated k).funcs (func_at false k) (func_at true k) (2 * k + 1) (omega (arith, funcs-count k))

-- the core type that is added with a function
abbrev core_type_at : (lifts : Bool) → ℕ → FuncType
core_type_at lifts k = core_type_for (with_types lifts (adapter_form k) (plan_before lifts k)) lifts (adapter_form k) (func_at lifts k)

core-type-added : (k : ℕ) (lifts : Bool) → slice_get (generated (suc k)).core_types (2 * k + instance_of lifts) ≡ Some (core_type_at lifts k)
unfolding generated
core-type-added k false = first-behind (generated k).core_types (core_type_at false k) (core_type_at true k) (2 * k + 0) (omega (arith, core-types-count k))
core-type-added k true = second-behind (generated k).core_types (core_type_at false k) (core_type_at true k) (2 * k + 1) (omega (arith, core-types-count k))

-- it is that of the shapes of the form
pub core-type-stands : (lifts : Bool) (form : AdapterForm) (p : FusePlan) → MakesNoTables p.types → core_type_for (with_types lifts form p) lifts form (func_for form (length p.types)) ≡ (linked_side lifts form).core_type
core-type-stands lifts form p n =
    ap (λ (ss : List Shape). type_of_signature (signature_for lifts (needs_memory form) ss (result_shapes (with_types lifts form p) (func_for form (length p.types))))) (params-stand lifts form p n)
    ∙ ap (λ (ss : List Shape). type_of_signature (signature_for lifts (needs_memory form) (params_shaped lifts form) ss)) (results-stand lifts form p n)

pub side-stands : (n k : ℕ) (lifts : Bool) → k < n → SideStands n k lifts
side-stands n k lifts l =
    let g = grown (suc k) n (omega (arith, l)) in
    let s = shapes-within n k lifts l in
    let whole = regrouped (plan_shapes (plan_before lifts k)) (shapes_added lifts (adapter_form k)) (plan_shapes (generated n)) s in
    record {
      func = front-get (generated (suc k)).funcs (generated n).funcs (2 * k + instance_of lifts) (func_at lifts k) g.funcs (func-added k lifts);
      params = params-within lifts (adapter_form k) (plan_before lifts k) (generated n) s.rest whole;
      results = results-within lifts (adapter_form k) (plan_before lifts k) (generated n) s.rest whole;
      core_type = front-get (generated (suc k)).core_types (generated n).core_types (2 * k + instance_of lifts) (core_type_at lifts k) g.core_types (core-type-added k lifts) ∙ ap (λ (t : FuncType). Some t) (core-type-stands lifts (adapter_form k) (plan_before lifts k) (before-makes-no-tables lifts k));
    }
