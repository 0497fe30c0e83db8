-- The lists of a generated plan, and its adapters with all that they name looked up.
use Rattle.std.proofs.Common.{◌≡◌, ℕ, zero, suc, ◌+◌, ◌<◌, ◌≤◌, Bool, true, false, [], ◌∷◌, ◌++◌, Option, Some, None, map, take, refl, sym, ap, ◌∙◌, arith, codes, slice_get, append_assoc}
use Rattle.std.specs.List.{filter_map, range_with_len}
use Rattle.std.proofs.lemmas.List.FromFn.{get_or-map-range_with_len, length-map-range_with_len, map-range_with_len_more, take-map-range_with_len}
use Rattle.std.proofs.lemmas.Option.{slice_get-get_or}
use Rattle.fact_wasm.specs.declared.types.FuncType.{FuncType}
use Rattle.fact_types.specs.declared.outside.CoreDef.{CoreDef}
use Rattle.fact_types.specs.declared.outside.MemoryOption.{MemoryOption}
use Rattle.fact_types.specs.Adapters.{Side}
use Rattle.fact_types.specs.Options.{◌>>=◌}
use Rattle.fact_plan.specs.declared.plan.FusePlan.{FusePlan}
use Rattle.fact_plan.specs.declared.plan.PlanAdapter.{PlanAdapter}
use Rattle.fact_plan.specs.declared.plan.PlanFunc.{PlanFunc}
use Rattle.fact_plan.specs.declared.plan.PlanSide.{PlanSide}
use Rattle.fact_plan.specs.Plan.{default_tunables}
use Rattle.fact_plan_types.specs.TypeRules.{param_shapes, result_shapes}
use Rattle.fact_adapter_rules.specs.Adapters.{adapter_of, adapters_before, adapters_of, named_def, named_memory, side_of}
use Rattle.fact_generate.specs.declared.form.AdapterForm.{AdapterForm}
use Rattle.fact_generate.specs.declared.form.AdapterForm.TheVariants as form
use Rattle.fact_generate.specs.Forms.{adapter_form}
use Rattle.fact_generate.specs.Generated.{adapter_for, export_of, generated, instance_of, memory_at, memory_for, adapter_name, realloc_for, shared_defs, side_for}
use Rattle.fact_generate.specs.Linked.{linked, linked_memory, linked_realloc, linked_side}
use Rattle.fact_generate.proofs.Functions.{func_at, side-stands}

-- ---- lists that are told by a function of the number

one_more : {X : Type 0} (f : ℕ → X) (k : ℕ) → map f (range_with_len 0 k) ++ f k ∷ [] ≡ map f (range_with_len 0 (suc k))
one_more f k =
    let at : 0 + k ≡ k = omega arith in
    let on : k + 1 ≡ suc k = omega arith in
    sym (map-range_with_len_more f 0 k k at) ∙ ap (λ n. map f (range_with_len 0 n)) on

there : {X : Type 0} (f : ℕ → X) (n k : ℕ) → k < n → slice_get (map f (range_with_len 0 n)) k ≡ Some (f k)
there f n k below =
    let long = length-map-range_with_len f 0 n in
    let at : 0 + k ≡ k = omega arith in
    slice_get-get_or (map f (range_with_len 0 n)) k (f k) (omega arith) ∙ ap Some (get_or-map-range_with_len f 0 n k k (f k) below at)

-- what a function gives of each
each_given : {X Y : Type 0} (h : X → Option Y) (f : ℕ → X) (g : ℕ → Y) (n : ℕ) → ((k : ℕ) → k < n → h (f k) ≡ Some (g k)) → filter_map h (map f (range_with_len 0 n)) ≡ map g (range_with_len 0 n)
each_given {X} {Y} h f g n gives = from 0 n (λ k least below. gives k (omega arith))
  where
    from : (a n : ℕ) → ((k : ℕ) → a ≤ k → k < a + n → h (f k) ≡ Some (g k)) → filter_map h (map f (range_with_len a n)) ≡ map g (range_with_len a n)
    from a zero gives = refl
    from a (suc n) gives = rw (gives a (omega arith) (omega arith)) (ap (λ ys. g a ∷ ys) (from (a + 1) n (λ k least below. gives k (omega arith) (omega arith))))

-- ---- the lists of a generated plan

abbrev callee_of : ℕ → CoreDef
callee_of k = export_of 1 (adapter_name k)

pub instances_are : (n : ℕ) → (generated n).instances ≡ 2
unfolding generated
instances_are zero = refl
instances_are (suc k) = instances_are k

pub tunables_are : (n : ℕ) → (generated n).tunables ≡ default_tunables
unfolding generated
tunables_are zero = refl
tunables_are (suc k) = tunables_are k

pub adapters_are : (n : ℕ) → (generated n).adapters ≡ map adapter_for (range_with_len 0 n)
unfolding generated
adapters_are zero = refl
adapters_are (suc k) = ap (λ adapters. adapters ++ adapter_for k ∷ []) (adapters_are k) ∙ one_more adapter_for k

core_defs_are : (n : ℕ) → (generated n).core_defs ≡ shared_defs ++ map callee_of (range_with_len 0 n)
unfolding generated
core_defs_are zero = refl
core_defs_are (suc k) =
    ap (λ defs. defs ++ callee_of k ∷ []) (core_defs_are k) ∙ append_assoc shared_defs (map callee_of (range_with_len 0 k)) (callee_of k ∷ [])
    ∙ ap (λ defs. shared_defs ++ defs) (one_more callee_of k)

pub adapter_there : (n k : ℕ) → k < n → slice_get (generated n).adapters k ≡ Some (adapter_for k)
adapter_there n k below = ap (λ adapters. slice_get adapters k) (adapters_are n) ∙ there adapter_for n k below

callee_there : (n k : ℕ) → k < n → slice_get (generated n).core_defs (4 + k) ≡ Some (callee_of k)
callee_there n k below =
    let behind : 4 + k ≡ suc (suc (suc (suc k))) = omega arith in
    ap (λ defs. slice_get defs (4 + k)) (core_defs_are n) ∙ ap (slice_get (shared_defs ++ map callee_of (range_with_len 0 n))) behind ∙ there callee_of n k below

memory_there : (n : ℕ) (lifts : Bool) → slice_get (generated n).core_defs (memory_at lifts) ≡ Some (export_of (instance_of lifts) (codes "memory"))
memory_there n lifts = ap (λ defs. slice_get defs (memory_at lifts)) (core_defs_are n) ∙ first lifts
  where
    first : (lifts : Bool) → slice_get (shared_defs ++ map callee_of (range_with_len 0 n)) (memory_at lifts) ≡ Some (export_of (instance_of lifts) (codes "memory"))
    first false = refl
    first true = refl

realloc_there : (n : ℕ) (lifts : Bool) → slice_get (generated n).core_defs (memory_at lifts + 1) ≡ Some (export_of (instance_of lifts) (codes "realloc"))
realloc_there n lifts = ap (λ defs. slice_get defs (memory_at lifts + 1)) (core_defs_are n) ∙ second lifts
  where
    second : (lifts : Bool) → slice_get (shared_defs ++ map callee_of (range_with_len 0 n)) (memory_at lifts + 1) ≡ Some (export_of (instance_of lifts) (codes "realloc"))
    second false = refl
    second true = refl

-- ---- what a side names

memory_named : (n : ℕ) (lifts : Bool) (f : AdapterForm) → named_memory (generated n) (memory_for lifts f) ≡ Some (linked_memory lifts f)
memory_named n lifts form.Number = refl
memory_named n lifts _ = ap (λ o. o >>= (λ d. Some (Some (record { def = d; memory64 = lifts; shared = false; page_size_log2 = 16 })))) (memory_there n lifts)

realloc_named : (n : ℕ) (lifts : Bool) (f : AdapterForm) → named_def (generated n) (realloc_for lifts f) ≡ Some (linked_realloc lifts f)
realloc_named n lifts form.Number = refl
realloc_named n lifts _ = ap (λ o. o >>= (λ d. Some (Some d))) (realloc_there n lifts)

side_found : (p : FusePlan) (s : PlanSide) (func : PlanFunc) (core_type : FuncType) (memory : Option MemoryOption) (realloc : Option CoreDef)
    → slice_get p.funcs s.ty ≡ Some func → slice_get p.core_types s.core_type ≡ Some core_type → named_memory p s.memory ≡ Some memory → named_def p s.realloc ≡ Some realloc
    → s.callback ≡ None → s.post_return ≡ None
    → side_of p s ≡ Some (record {
      instance = s.instance;
      params = param_shapes p func;
      results = result_shapes p func;
      async_type = func.async_;
      core_type = core_type;
      encoding = s.encoding;
      async_side = s.async_;
      memory = memory;
      realloc = realloc;
      callback = None;
      post_return = None;
    })
side_found p s func core_type memory realloc is_func is_core is_memory is_realloc no_callback no_post_return = rw (is_func, is_core, is_memory, is_realloc, no_callback, no_post_return) refl

adapter_found : (p : FusePlan) (a : PlanAdapter) (callee : CoreDef) (lift lower : Side) → slice_get p.core_defs a.func ≡ Some callee → side_of p a.lift ≡ Some lift → side_of p a.lower ≡ Some lower
    → adapter_of p a ≡ Some (record { name = a.name; callee = callee; transparent = a.transparent; lift = lift; lower = lower })
adapter_found p a callee lift lower is_callee is_lift is_lower = rw (is_callee, is_lift, is_lower) refl

side_linked : (n k : ℕ) → k < n → (lifts : Bool) → side_of (generated n) (side_for lifts k) ≡ Some (linked_side lifts (adapter_form k))
side_linked n k below lifts =
    let h = side-stands n k lifts below in
    let s = linked_side lifts (adapter_form k) in
    side_found (generated n) (side_for lifts k) (func_at lifts k) s.core_type s.memory s.realloc h.func h.core_type (memory_named n lifts (adapter_form k)) (realloc_named n lifts (adapter_form k)) refl refl
    ∙ (λ i. Some (record s { params = h.params i; results = h.results i }))

pub adapter_linked : (n k : ℕ) → k < n → adapter_of (generated n) (adapter_for k) ≡ Some (linked k)
adapter_linked n k below =
    adapter_found (generated n) (adapter_for k) (callee_of k) (linked_side true (adapter_form k)) (linked_side false (adapter_form k)) (callee_there n k below) (side_linked n k below true) (side_linked n k below false)

pub adapters_linked : (n : ℕ) → adapters_of (generated n) ≡ map linked (range_with_len 0 n)
adapters_linked n = ap (filter_map (adapter_of (generated n))) (adapters_are n) ∙ each_given (adapter_of (generated n)) adapter_for linked n (adapter_linked n)

pub before_linked : (n k : ℕ) → k ≤ n → adapters_before (generated n) k ≡ map linked (range_with_len 0 k)
before_linked n k within =
    ap (λ adapters. filter_map (adapter_of (generated n)) (take k adapters)) (adapters_are n) ∙ ap (filter_map (adapter_of (generated n))) (take-map-range_with_len adapter_for 0 n k within)
    ∙ each_given (adapter_of (generated n)) adapter_for linked k (λ j below. adapter_linked n j (omega arith))
