-- How the plan of some adapters becomes that of one more.
use Rattle.std.proofs.Common.{◌≡◌, ℕ, ◌+◌, ◌*◌, ◌<◌, ◌≤◌, Bool, true, false, List, [], ◌∷◌, ◌++◌, length, sym, ap, subst, ◌∙◌, add-one, arith, length-append}
use Rattle.fact_types.specs.declared.outside.CoreDef.{CoreDef}
use Rattle.fact_types.specs.Shapes.{Shape}
use Rattle.fact_wasm.specs.declared.types.FuncType.{FuncType}
use Rattle.fact_plan.specs.declared.plan.FusePlan.{FusePlan}
use Rattle.fact_plan.specs.declared.plan.PlanAdapter.{PlanAdapter}
use Rattle.fact_plan_types.specs.TypeRules.{result_shapes}
use Rattle.fact_generate.specs.declared.form.AdapterForm.{AdapterForm}
use Rattle.fact_generate.specs.Forms.{adapter_form, needs_memory, types_for}
use Rattle.fact_generate.specs.Generated.{adapter_for, core_type_for, type_of_signature, export_of, func_for, generated, adapter_name, signature_for, with_adapter, with_function, with_types, without_adapters}
use Rattle.fact_generate.specs.Linked.{linked_side, params_shaped}
use Rattle.fact_generate.proofs.Counts.{added-few, types-few}
use Rattle.fact_generate.proofs.Standing.{MakesNoTables, params-stand, results-stand, generated-makes-no-tables, function-makes-no-tables}

-- ---- the core type of a side is that of its form

core-is : (lifts : Bool) (form : AdapterForm) (p : FusePlan) → MakesNoTables p.types → core_type_for (with_types lifts form p) lifts form (func_for form (length p.types)) ≡ (linked_side lifts form).core_type
core-is lifts form p none =
    let f = func_for form (length p.types) in
    let q = with_types lifts form p in
    ap (λ (ps : List Shape). type_of_signature (signature_for lifts (needs_memory form) ps (result_shapes q f))) (params-stand lifts form p none)
    ∙ ap (λ (rs : List Shape). type_of_signature (signature_for lifts (needs_memory form) (params_shaped lifts form) rs)) (results-stand lifts form p none)

-- a plan with the types, the function and the core type of the form of one more side
abbrev pub with_form : (lifts : Bool) → AdapterForm → FusePlan → FusePlan
with_form lifts form p = record (with_types lifts form p) { core_types = p.core_types ++ (linked_side lifts form).core_type ∷ [] }

function-is : (lifts : Bool) (form : AdapterForm) (p : FusePlan) → MakesNoTables p.types → with_form lifts form p ≡ with_function lifts form p
function-is lifts form p none = ap (λ (c : FuncType). record (with_types lifts form p) { core_types = p.core_types ++ c ∷ [] }) (sym (core-is lifts form p none))

-- both sides, one behind the other
sides-are : (k : ℕ) → with_form true (adapter_form k) (with_form false (adapter_form k) (generated k)) ≡ with_function true (adapter_form k) (with_function false (adapter_form k) (generated k))
sides-are k =
    let none : MakesNoTables (generated k).types = generated-makes-no-tables k in
    let lower : with_form false (adapter_form k) (generated k) ≡ with_function false (adapter_form k) (generated k) = function-is false (adapter_form k) (generated k) none in
    ap (λ (p : FusePlan). with_form true (adapter_form k) p) lower
    ∙ function-is true (adapter_form k) (with_function false (adapter_form k) (generated k)) (function-makes-no-tables false (adapter_form k) (generated k) none)

-- ---- the adapter behind them

-- a plan with the callee of adapter k and the adapter
abbrev with_entries : ℕ → FusePlan → FusePlan
with_entries k p = record p { core_defs = p.core_defs ++ export_of 1 (adapter_name k) ∷ []; adapters = p.adapters ++ adapter_for k ∷ [] }

entries-are : (k : ℕ) (p : FusePlan) (defs : List CoreDef) (adapters : List PlanAdapter) → defs ≡ p.core_defs ++ export_of 1 (adapter_name k) ∷ [] → adapters ≡ p.adapters ++ adapter_for k ∷ []
    → record p { core_defs = defs; adapters = adapters } ≡ with_entries k p
entries-are k p defs adapters d a =
    ap (λ (x : List CoreDef). record p { core_defs = x; adapters = adapters }) d
    ∙ ap (λ (x : List PlanAdapter). record p { core_defs = p.core_defs ++ export_of 1 (adapter_name k) ∷ []; adapters = x }) a

pub adapter-is : (k : ℕ) (p p1 p2 : FusePlan) (defs : List CoreDef) (adapters : List PlanAdapter) → p ≡ generated k → p1 ≡ with_form false (adapter_form k) p → p2 ≡ with_form true (adapter_form k) p1 → defs ≡ p2.core_defs ++ export_of 1 (adapter_name k) ∷ [] → adapters ≡ p2.adapters ++ adapter_for k ∷ []
    → record p2 { core_defs = defs; adapters = adapters } ≡ with_adapter k p
adapter-is k p p1 p2 defs adapters is lower lift def adapter =
    let both : p2 ≡ with_form true (adapter_form k) (with_form false (adapter_form k) (generated k)) =
    lift ∙ ap (λ (x : FusePlan). with_form true (adapter_form k) x) (lower ∙ ap (λ (x : FusePlan). with_form false (adapter_form k) x) is) in
    entries-are k p2 defs adapters def adapter ∙ ap (λ (x : FusePlan). with_entries k x) (both ∙ sides-are k) ∙ sym (ap (λ (x : FusePlan). with_adapter k x) is)

-- the plan of one adapter more
pub generated-more : (k : ℕ) (p q : FusePlan) → p ≡ generated k → q ≡ with_adapter k p → q ≡ generated (k + 1)
unfolding generated
generated-more k p q is more = more ∙ ap (λ (x : FusePlan). with_adapter k x) is ∙ sym (ap generated (add-one k))

pub generated-none : (p : FusePlan) → p ≡ without_adapters → p ≡ generated 0
unfolding generated
generated-none p is = is

-- ---- places fit

-- the types of one side more, where there are few
pub side-fits : (lifts : Bool) (k : ℕ) (p : FusePlan) → length p.types ≤ 200000 → length p.types + length (types_for lifts (adapter_form k) (length p.types)) ≤ 4294967295
side-fits lifts k p few = omega (arith, added-few lifts k (length p.types))

pub lower-fits : (k : ℕ) (p : FusePlan) → k < 4096 → p ≡ generated k → length p.types ≤ 200000
lower-fits k p lt is = subst (λ (x : FusePlan). length x.types ≤ 200000) (sym is) (omega (arith, lt, types-few k))

pub lift-fits : (k : ℕ) (p p1 : FusePlan) → k < 4096 → p ≡ generated k → p1 ≡ with_form false (adapter_form k) p → length p1.types ≤ 200000
lift-fits k p p1 lt is lower =
    let few : length p.types ≤ 40 * k = subst (λ (x : FusePlan). length x.types ≤ 40 * k) (sym is) (types-few k) in
    let n : length (p.types ++ types_for false (adapter_form k) (length p.types)) ≡ length p.types + length (types_for false (adapter_form k) (length p.types)) = length-append p.types _ in
    subst (λ (x : FusePlan). length x.types ≤ 200000) (sym lower) (omega (arith, lt, few, n, added-few false k (length p.types)))
