-- The types and the functions of generated plans have no fault.
use Rattle.std.proofs.Common.{◌≡◌, ℕ, zero, suc, ◌+◌, ◌*◌, ◌/◌, ◌%◌, ◌<◌, ◌≤◌, Bool, true, false, List, [], ◌∷◌, ◌++◌, length, Any, Option, Some, None, slice_get, IsSomeAnd, refl, sym, ◌∙◌, ap, subst, arith, inl, inr, append_assoc, length-append}
use Rattle.std.specs.List.{AllByRecursion}
use Rattle.std.proofs.lemmas.Bool.{cases_lt}
use Rattle.std.proofs.lemmas.Option.{slice_get_within}
use Rattle.fact_types.specs.Shapes.{Shape}
use Rattle.fact_plan.specs.declared.plan.PlanRef.{PlanRef}
use Rattle.fact_plan.specs.declared.plan.PlanType.{PlanType}
use Rattle.fact_plan.specs.declared.plan.PlanFunc.{PlanFunc}
use Rattle.fact_plan.specs.declared.plan.FusePlan.{FusePlan}
use Rattle.fact_plan_types.specs.Faults.{Fault, unknown_index, bad_type, too_large, bad_options, type_mismatch, bad_memory, bad_signature, import_conflict, duplicate_name, HaveNoFault}
use Rattle.fact_plan_types.specs.PlanShapes.{plan_shapes}
use Rattle.fact_plan_types.specs.PlanTypes.{HasFaultlessTypes}
use Rattle.fact_plan_types.specs.TypeRules.{FuncHas, HasFuncFault, HasTypeFault, IsErrorContext, IsFrom, LacksTable, TypeHas, param_shapes, param_types, result_shapes, types_in}
use Rattle.fact_generate.specs.Forms.{adapter_form, types_for}
use Rattle.fact_generate.specs.Generated.{generated, instance_of, most_generated, with_function}
use Rattle.fact_generate.specs.Linked.{params_shaped}
use Rattle.fact_generate.proofs.Counts.{form-shallow, funcs-count, grown, types-few}
use Rattle.fact_generate.proofs.Functions.{func_at, plan_before, side-stands}
use Rattle.fact_generate.proofs.Sound.{AreSound, IsKnown, IsSound, none-of, not-repeated, sound-append, sound-at, types-sound}
use Rattle.fact_generate.proofs.SoundFuncs.{IsSoundFunc, func-sound}
use Rattle.fact_generate.proofs.Standing.{shapes_added, types-stand}

-- ---- what a list has at a place

some-and : {X : Type 0} (P : X → Type 0) (o : Option X) → IsSomeAnd o P → (x : X) × (o ≡ Some x) × P x
some-and P None h = absurd h
some-and P (Some x) h = (x, refl, h)

none-and : {X : Type 0} (P : X → Type 0) (o : Option X) → o ≡ None → IsSomeAnd o P → ⊥
none-and P o e h = subst (λ (q : Option _). IsSomeAnd q P) e h

all-early : (k : ℕ) (rs : List PlanRef) → AllByRecursion (IsKnown k) rs → AllByRecursion (λ r. IsFrom k r → ⊥) rs
all-early k [] all = tt
all-early k (r ∷ rs) all = (all.0.early, all-early k rs all.1)

all-valued : (k : ℕ) (rs : List PlanRef) → AllByRecursion (IsKnown k) rs → AllByRecursion (λ r. IsErrorContext r → ⊥) rs
all-valued k [] all = tt
all-valued k (r ∷ rs) all = (all.0.valued, all-valued k rs all.1)

none-known : (k : ℕ) (rs : List PlanRef) → AllByRecursion (IsKnown k) rs → (Any (IsFrom k) rs → ⊥) × (Any IsErrorContext rs → ⊥)
none-known k rs all = (none-of (IsFrom k) rs (all-early k rs all), none-of IsErrorContext rs (all-valued k rs all))

-- ---- types

no-type-fault : (p : FusePlan) (k : ℕ) (e : PlanType) (s : Shape) → IsSound k e s → k < 268435456 → (g : Fault) → TypeHas p k e (Some s) g → ⊥
no-type-fault p k e s h l unknown_index f = elim f [
  | inl a ↦ (none-known k (types_in e) h.known).0 a
  | inr r ↦ elim r [ inl t ↦ none-and (LacksTable p) _ h.no_table t | inr i ↦ none-and (λ (i : ℕ). p.instances ≤ i) _ h.no_instance i ]
]
no-type-fault p k e s h l bad_type f = elim f [
  | inl a ↦ h.some a
  | inr r ↦ elim r [ inl a ↦ not-repeated _ h.apart a | inr q ↦ elim q [ inl a ↦ h.no_flags a | inr a ↦ (none-known k (types_in e) h.known).1 a ] ]
]
no-type-fault p k e s h l too_large f = elim f [
  | inl a ↦ elim a [
    | inl b ↦ omega (arith, l, b)
    | inr r ↦ elim r [ inl t ↦ none-and (λ (n : ℕ). 268435456 ≤ n) _ h.no_table t | inr q ↦ elim q [ inl b ↦ omega (arith, h.short, b) | inr b ↦ h.few b ] ]
  ]
  | inr a ↦ h.fits a
]
no-type-fault p k e s h l bad_options f = f
no-type-fault p k e s h l type_mismatch f = f
no-type-fault p k e s h l bad_memory f = f
no-type-fault p k e s h l bad_signature f = f
no-type-fault p k e s h l import_conflict f = f
no-type-fault p k e s h l duplicate_name f = f

types-without-fault : (p : FusePlan) → length p.types ≤ 268435456 → AreSound 0 p.types (plan_shapes p) → HaveNoFault (HasTypeFault p)
types-without-fault p few sound j g h =
    let has = some-and (λ (e : PlanType). TypeHas p j e (slice_get (plan_shapes p) j) g) (slice_get p.types j) h in
    let at = sound-at p.types (plan_shapes p) 0 j j has.0 (omega arith) sound has.1 in
    let within = slice_get_within p.types j has.0 has.1 in
    no-type-fault p j has.0 at.0 at.2 (omega (arith, within, few)) g (subst (λ (o : Option Shape). TypeHas p j has.0 o g) at.1 has.2)

-- ---- functions

no-func-fault : (p : FusePlan) (k : ℕ) (f : PlanFunc) (params results : List Shape) → IsSoundFunc (length p.types) f params results → k < 268435456 → (g : Fault) → FuncHas p k f params results g → ⊥
no-func-fault p k f params results h l unknown_index a = elim a [ inl b ↦ (none-known (length p.types) (param_types f) h.params_known).0 b | inr b ↦ (none-known (length p.types) f.results h.results_known).0 b ]
no-func-fault p k f params results h l bad_type a = elim a [
  | inl b ↦ elim b [ inl r ↦ h.apart r | inr c ↦ elim c [ inl d ↦ (none-known (length p.types) (param_types f) h.params_known).1 d | inr d ↦ (none-known (length p.types) f.results h.results_known).1 d ] ]
  | inr b ↦ h.no_borrow b
]
no-func-fault p k f params results h l too_large a = elim a [
  | inl b ↦ elim b [ inl c ↦ omega (arith, l, c) | inr c ↦ elim c [ inl d ↦ omega (arith, h.few_params, d) | inr d ↦ omega (arith, h.few_results, d) ] ]
  | inr b ↦ elim b [ inl c ↦ h.params_fit c | inr c ↦ h.results_fit c ]
]
no-func-fault p k f params results h l bad_options a = a
no-func-fault p k f params results h l type_mismatch a = a
no-func-fault p k f params results h l bad_memory a = a
no-func-fault p k f params results h l bad_signature a = a
no-func-fault p k f params results h l import_conflict a = a
no-func-fault p k f params results h l duplicate_name a = a

-- ---- generated plans

-- the types of adapter k, behind those of the adapters before it
types-step : (k : ℕ) → AreSound 0 (generated k).types (plan_shapes (generated k)) → AreSound 0 (generated (suc k)).types (plan_shapes (generated (suc k)))
unfolding generated
types-step k h =
    let p = generated k in
    let q = with_function false (adapter_form k) p in
    let lower = types_for false (adapter_form k) (length p.types) in
    let lift = types_for true (adapter_form k) (length q.types) in
    let first = types-sound false (adapter_form k) (length p.types) (form-shallow k) in
    let second = types-sound true (adapter_form k) (length q.types) (form-shallow k) in
    let at_p : length p.types ≡ 0 + length p.types = omega arith in
    let at_q : length q.types ≡ 0 + length q.types = omega arith in
    let with_lower = sound-append p.types lower (plan_shapes p) (shapes_added false (adapter_form k)) 0 h (subst (λ (i : ℕ). AreSound i lower (shapes_added false (adapter_form k))) at_p first) in
    let with_lift = sound-append q.types lift (plan_shapes p ++ shapes_added false (adapter_form k)) (shapes_added true (adapter_form k)) 0 with_lower (subst (λ (i : ℕ). AreSound i lift (shapes_added true (adapter_form k))) at_q second) in
    let whole = append_assoc (plan_shapes p) (shapes_added false (adapter_form k)) (shapes_added true (adapter_form k)) ∙ sym (types-stand k) in
    subst (λ (ss : List Shape). AreSound 0 (generated (suc k)).types ss) whole with_lift

types-are-sound : (n : ℕ) → AreSound 0 (generated n).types (plan_shapes (generated n))
unfolding generated
types-are-sound zero = tt
types-are-sound (suc k) = types-step k (types-are-sound k)

-- as many types as a side needs stand before its function
types-before : (k : ℕ) (lifts : Bool) → length (plan_before lifts k).types + length (types_for lifts (adapter_form k) (length (plan_before lifts k).types)) ≤ length (generated (suc k)).types
unfolding generated
types-before k false =
    let p = generated k in
    let q = with_function false (adapter_form k) p in
    omega (arith, length-append p.types (types_for false (adapter_form k) (length p.types)), length-append q.types (types_for true (adapter_form k) (length q.types)))
types-before k true = let q = with_function false (adapter_form k) (generated k) in omega (arith, length-append q.types (types_for true (adapter_form k) (length q.types)))

small : (k : ℕ) (lifts : Bool) → k < 4096 → 2 * k + instance_of lifts < 268435456
small k false l = omega (arith, l)
small k true l = omega (arith, l)

enough-types : (n k : ℕ) (lifts : Bool) → k < n → length (plan_before lifts k).types + length (types_for lifts (adapter_form k) (length (plan_before lifts k).types)) ≤ length (generated n).types
enough-types n k lifts l =
    let f = (grown (suc k) n (omega (arith, l))).types in
    let added = types-before k lifts in
    omega (arith, added, ap (λ (es : List PlanType). length es) f.whole, length-append (generated (suc k)).types f.rest)

side-without-fault : (n k : ℕ) (lifts : Bool) → n ≤ 4096 → k < n → (g : Fault) (f : PlanFunc) → slice_get (generated n).funcs (2 * k + instance_of lifts) ≡ Some f → FuncHas (generated n) (2 * k + instance_of lifts) f (param_shapes (generated n) f) (result_shapes (generated n) f) g → ⊥
side-without-fault n k lifts few l g f here h =
    let p = generated n in
    let s = side-stands n k lifts l in
    let j = 2 * k + instance_of lifts in
    let same : f ≡ func_at lifts k = cc (here, s.func) in
    let sound = func-sound lifts (adapter_form k) (length (plan_before lifts k).types) (length p.types) (form-shallow k) (enough-types n k lifts l) in
    let own = subst (λ (x : PlanFunc). FuncHas p j x (param_shapes p x) (result_shapes p x) g) same h in
    let shaped = subst (λ (ss : List Shape). FuncHas p j (func_at lifts k) ss (result_shapes p (func_at lifts k)) g) s.params own in
    no-func-fault p j (func_at lifts k) _ _ sound (small k lifts (omega (arith, few, l))) g (subst (λ (ss : List Shape). FuncHas p j (func_at lifts k) (params_shaped lifts (adapter_form k)) ss g) s.results shaped)

-- a place of a function is that of a side of an adapter
side-at : (j : ℕ) → (lifts : Bool) × (j ≡ 2 * (j / 2) + instance_of lifts)
side-at j = elim (cases_lt 0 (j % 2)) [
  | inl odd ↦ (true, omega (arith, odd))
  | inr even ↦ (false, omega (arith, even))
]

funcs-without-fault : (n : ℕ) → n ≤ 4096 → HaveNoFault (HasFuncFault (generated n))
funcs-without-fault n few j g h =
    let p = generated n in
    let has = some-and (λ (f : PlanFunc). FuncHas p j f (param_shapes p f) (result_shapes p f) g) (slice_get p.funcs j) h in
    let within = slice_get_within p.funcs j has.0 has.1 in
    let side = side-at j in
    let k = j / 2 in
    let below : k < n = omega (arith, within, funcs-count n) in
    side-without-fault n k side.0 few below g has.0
    (subst (λ (i : ℕ). slice_get p.funcs i ≡ Some has.0) side.1 has.1)
    (subst (λ (i : ℕ). FuncHas p i has.0 (param_shapes p has.0) (result_shapes p has.0) g) side.1 has.2)

pub types-faultless : (n : ℕ) → n ≤ most_generated → HasFaultlessTypes (generated n)
types-faultless n l = record {
  types = types-without-fault (generated n) (omega (arith, types-few n, l)) (types-are-sound n);
  funcs = funcs-without-fault n l;
}
