-- No adapter of a generated plan has a fault, behind those before it.
use Rattle.std.proofs.Common.{◌≡◌, ◌≢◌, ℕ, zero, suc, ◌+◌, ◌<◌, ◌^◌, Bool, true, false, List, [], ◌∷◌, AllPairs, Contains, refl, sym, ap, subst, arith, replicate, inl, inr, codes}
use Rattle.std.specs.List.{flat_map}
use Rattle.std.proofs.lemmas.List.FromFn.{map-range_with_len_more}
use Rattle.fact_types.specs.declared.interface.InterfaceType.TheVariants as type
use Rattle.fact_types.specs.declared.outside.CoreDef.{CoreDef}
use Rattle.fact_types.specs.Adapters.{LinkedAdapter, is_wide}
use Rattle.fact_types.specs.Agrees.{Agrees}
use Rattle.fact_types.specs.Shapes.{s_plain}
use Rattle.fact_types.specs.Signatures.{sync_lift, sync_lower}
use Rattle.fact_agreement.specs.Lists.{AgreeAll}
use Rattle.fact_adapter_rules.specs.Bindings.{AreConsistent}
use Rattle.fact_plan_types.specs.Faults.{Fault, bad_options, type_mismatch, bad_memory, bad_signature, import_conflict, duplicate_name}
use Rattle.fact_adapter_rules.specs.AdapterRules.{HasBadMemory, HasBadOptions, HasBadSignature, HasDuplicateName, HasImportConflict, HasOddMemory, HasTypeMismatch, IsSameAs, LiftLacksMemory, LinkedHas, LowerLacksMemory, adapter_memories, any_borrow, export_names, lift_side_signature, lower_side_signature, reallocs_of, uses_of, with}
use Rattle.fact_generate.specs.declared.form.AdapterForm.{AdapterForm}
use Rattle.fact_generate.specs.declared.form.AdapterForm.TheVariants as form
use Rattle.fact_generate.specs.Forms.{adapter_form, needs_memory}
use Rattle.fact_generate.specs.Generated.{type_of_signature, export_of, adapter_name}
use Rattle.fact_generate.specs.Linked.{linked, linked_memory, linked_realloc, linked_side, nest_shape, params_shaped, results_shaped}
use Rattle.fact_generate.proofs.Consistent.{callee_apart, first_linked, memories_consistent, names_distinct, reallocs_consistent, uses_consistent}

-- ---- options

no_bad_options : (k : ℕ) → HasBadOptions false (linked k) → ⊥
no_bad_options k (inl post_return) = cc
no_bad_options k (inr (inl async_)) = cc
no_bad_options k (inr (inr transparent)) = cc

-- ---- types: those of both sides agree

nest_agrees : (depth : ℕ) → Agrees (nest_shape depth) (nest_shape depth)
nest_agrees zero = refl
nest_agrees (suc depth) = (nest_agrees depth, ((nest_agrees depth, tt), tt))

numbers_agree : (count : ℕ) → AgreeAll (replicate count (s_plain type.U32)) (replicate count (s_plain type.U32))
numbers_agree zero = tt
numbers_agree (suc count) = (refl, numbers_agree count)

-- two names in either order
swapped : {X : Type 0} (x y z : X) → Contains (x ∷ y ∷ []) z → Contains (y ∷ x ∷ []) z
swapped x y z (zero, within, is) = (1, omega arith, is)
swapped x y z (suc zero, within, is) = (0, omega arith, is)
swapped x y z (suc (suc k), within, is) = absurd (omega arith)

params_agree : (f : AdapterForm) → AgreeAll (params_shaped false f) (params_shaped true f)
params_agree form.Number = (refl, tt)
params_agree form.Chars = (refl, (refl, tt))
params_agree form.Record = (record { fields = (refl, (refl, tt)); names = swapped (codes "a") (codes "b") }, tt)
params_agree form.Text = (refl, tt)
params_agree form.List = ((refl, tt), tt)
params_agree form.Variant = ((refl, (refl, (refl, tt))), tt)
params_agree (form.Nest depth) = (nest_agrees depth, tt)
params_agree form.Many = numbers_agree 17

results_agree : (f : AdapterForm) → AgreeAll (results_shaped f) (results_shaped f)
results_agree form.Number = tt
results_agree form.Chars = (refl, tt)
results_agree form.Record = tt
results_agree form.Text = (refl, tt)
results_agree form.List = ((refl, tt), tt)
results_agree form.Variant = tt
results_agree (form.Nest depth) = tt
results_agree form.Many = ((refl, ((refl, tt), tt)), tt)

borrows_alike : (f : AdapterForm) → any_borrow (params_shaped false f) ≡ any_borrow (params_shaped true f)
borrows_alike form.Number = refl
borrows_alike form.Chars = refl
borrows_alike form.Record = refl
borrows_alike form.Text = refl
borrows_alike form.List = refl
borrows_alike form.Variant = refl
borrows_alike (form.Nest depth) = refl
borrows_alike form.Many = refl

no_type_mismatch : (k : ℕ) → HasTypeMismatch (linked k) → ⊥
no_type_mismatch k (inl marks) = marks refl
no_type_mismatch k (inr (inl params)) = params (params_agree (adapter_form k))
no_type_mismatch k (inr (inr (inl results))) = results (results_agree (adapter_form k))
no_type_mismatch k (inr (inr (inr borrows))) = borrows (borrows_alike (adapter_form k))

-- ---- memories: adapters of numbers alone have none, and need none

lift_has_memory : (f : AdapterForm) → LiftLacksMemory (linked_side true f) → ⊥
lift_has_memory form.Number (inl (none, inl params)) = cc
lift_has_memory form.Number (inl (none, inr (inl results))) = cc
lift_has_memory form.Number (inl (none, inr (inr (inl pointers)))) = cc
lift_has_memory form.Number (inl (none, inr (inr (inr pointers)))) = cc
lift_has_memory form.Number (inr (none, inl params)) = cc
lift_has_memory form.Number (inr (none, inr pointers)) = cc
lift_has_memory f (inl (none, need)) = cc
lift_has_memory f (inr (none, need)) = cc

lower_has_memory : (f : AdapterForm) → LowerLacksMemory (linked_side false f) → ⊥
lower_has_memory form.Number (inl (none, inl params)) = cc
lower_has_memory form.Number (inl (none, inr (inl results))) = cc
lower_has_memory form.Number (inl (none, inr (inr (inl pointers)))) = cc
lower_has_memory form.Number (inl (none, inr (inr (inr pointers)))) = cc
lower_has_memory form.Number (inr (none, pointers)) = cc
lower_has_memory f (inl (none, need)) = cc
lower_has_memory f (inr (none, need)) = cc

no_odd_memory : (lifts : Bool) (f : AdapterForm) → HasOddMemory (linked_side lifts f) → ⊥
no_odd_memory lifts form.Number (inl (some, none)) = cc
no_odd_memory lifts form.Number (inr odd) = odd
no_odd_memory lifts f (inl (some, none)) = cc
no_odd_memory lifts f (inr (inl shared)) = cc
no_odd_memory lifts f (inr (inr (not_one, other))) = other refl

-- ---- behind those before it

with_next : (k : ℕ) → with (first_linked k) (linked k) ≡ first_linked (k + 1)
with_next k = let at : 0 + k ≡ k = omega arith in sym (map-range_with_len_more linked 0 k k at)

next_consistent : {V : Type 0} (f : LinkedAdapter → List (CoreDef × V)) (k : ℕ) → AreConsistent (flat_map f (first_linked (k + 1))) → AreConsistent (flat_map f (with (first_linked k) (linked k)))
next_consistent f k = subst (λ adapters. AreConsistent (flat_map f adapters)) (sym (with_next k))

no_bad_memory : (k : ℕ) → HasBadMemory (first_linked k) (linked k) → ⊥
no_bad_memory k (inl (inl (inl lift))) = lift_has_memory (adapter_form k) lift
no_bad_memory k (inl (inl (inr lower))) = lower_has_memory (adapter_form k) lower
no_bad_memory k (inl (inr (inl odd))) = no_odd_memory true (adapter_form k) odd
no_bad_memory k (inl (inr (inr odd))) = no_odd_memory false (adapter_form k) odd
no_bad_memory k (inr (inl memories)) = memories (next_consistent adapter_memories k (memories_consistent (k + 1)))
no_bad_memory k (inr (inr reallocs)) = reallocs (next_consistent reallocs_of k (reallocs_consistent (k + 1)))

-- ---- core signatures

lift_is_wide : (f : AdapterForm) → is_wide (linked_memory true f) ≡ needs_memory f
lift_is_wide form.Number = refl
lift_is_wide _ = refl

lower_is_narrow : (f : AdapterForm) → is_wide (linked_memory false f) ≡ false
lower_is_narrow form.Number = refl
lower_is_narrow _ = refl

lift_signature_is : (f : AdapterForm) → (linked_side true f).core_type ≡ type_of_signature (lift_side_signature (linked_side true f))
lift_signature_is f = ap (λ wide. type_of_signature (sync_lift wide (params_shaped true f) (results_shaped f))) (sym (lift_is_wide f))

lower_signature_is : (f : AdapterForm) → (linked_side false f).core_type ≡ type_of_signature (lower_side_signature (linked_side false f))
lower_signature_is f = ap (λ wide. type_of_signature (sync_lower wide (params_shaped false f) (results_shaped f))) (sym (lower_is_narrow f))

no_bad_signature : (k : ℕ) → HasBadSignature (linked k) → ⊥
no_bad_signature k (inl lift) = lift.differs (lift_signature_is (adapter_form k))
no_bad_signature k (inr lower) = lower.differs (lower_signature_is (adapter_form k))

-- ---- imports and exports

callee_once : (lifts : Bool) (k : ℕ) (f : AdapterForm) → IsSameAs (export_of 1 (adapter_name k)) (linked_realloc lifts f) → ⊥
callee_once lifts k form.Number same = same
callee_once lifts k _ same = callee_apart k lifts same

no_import_conflict : (k : ℕ) → k < 2 ^ 64 → HasImportConflict (first_linked k) (linked k) → ⊥
no_import_conflict k few (inl (inl lift)) = callee_once true k (adapter_form k) lift
no_import_conflict k few (inl (inr (inl lower))) = callee_once false k (adapter_form k) lower
no_import_conflict k few (inl (inr (inr post_return))) = post_return
no_import_conflict k few (inr uses) = uses (next_consistent uses_of k (uses_consistent (k + 1) (omega arith)))

no_duplicate_name : (k : ℕ) → k < 2 ^ 64 → HasDuplicateName (first_linked k) (linked k) → ⊥
no_duplicate_name k few repeated = repeated (subst (λ adapters. AllPairs (λ x y. x ≢ y) (flat_map export_names adapters)) (sym (with_next k)) (names_distinct (k + 1) (omega arith)))

-- ---- none

pub linked_faultless : (k : ℕ) → k < 2 ^ 64 → (f : Fault) → LinkedHas false (first_linked k) (linked k) f → ⊥
linked_faultless k few bad_options = no_bad_options k
linked_faultless k few type_mismatch = no_type_mismatch k
linked_faultless k few bad_memory = no_bad_memory k
linked_faultless k few bad_signature = no_bad_signature k
linked_faultless k few import_conflict = no_import_conflict k few
linked_faultless k few duplicate_name = no_duplicate_name k few
linked_faultless k few _ = λ h. h
