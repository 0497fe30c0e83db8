-- No adapter of a generated plan has a fault.
use Rattle.std.proofs.Common.{◌≡◌, ℕ, ◌<◌, ◌≤◌, Bool, true, false, List, Some, subst, arith, length, inl, inr, slice_get, IsSomeAnd}
use Rattle.std.proofs.lemmas.Bool.{cases_lt}
use Rattle.std.proofs.lemmas.Option.{slice_get_past, slice_get_within}
use Rattle.fact_plan_types.specs.Faults.{Fault, unknown_index, too_large, HaveNoFault}
use Rattle.fact_adapter_rules.specs.Adapters.{adapter_of, adapters_before}
use Rattle.fact_adapter_rules.specs.AdapterRules.{AdapterHas, AdapterLacks, HasAdapterFault, IsPastList, LinkedHas, SideLacks, memory_def}
use Rattle.fact_generate.specs.declared.form.AdapterForm.{AdapterForm}
use Rattle.fact_generate.specs.declared.form.AdapterForm.TheVariants as form
use Rattle.fact_generate.specs.Forms.{adapter_form}
use Rattle.fact_generate.specs.Generated.{adapter_for, generated, memory_for, most_generated, realloc_for, side_for}
use Rattle.fact_generate.specs.Linked.{linked}
use Rattle.fact_generate.proofs.AdapterLaws.{linked_faultless}
use Rattle.fact_generate.proofs.Consistent.{first_linked}
use Rattle.fact_generate.proofs.Counts.{adapters-count, core-defs-count}
use Rattle.fact_generate.proofs.Functions.{side-stands}
use Rattle.fact_generate.proofs.Linking.{adapter_linked, adapter_there, before_linked, instances_are, tunables_are}

-- ---- nothing that an adapter names is lacking

memory_within : (n : ℕ) (lifts : Bool) (f : AdapterForm) → IsPastList (length (generated n).core_defs) (memory_def (memory_for lifts f)) → ⊥
memory_within n lifts form.Number past = past
memory_within n false _ past = absurd (omega (arith, core-defs-count n))
memory_within n true _ past = absurd (omega (arith, core-defs-count n))

realloc_within : (n : ℕ) (lifts : Bool) (f : AdapterForm) → IsPastList (length (generated n).core_defs) (realloc_for lifts f) → ⊥
realloc_within n lifts form.Number past = past
realloc_within n false _ past = absurd (omega (arith, core-defs-count n))
realloc_within n true _ past = absurd (omega (arith, core-defs-count n))

instance_within : (n : ℕ) (lifts : Bool) (k : ℕ) → (generated n).instances ≤ (side_for lifts k).instance → ⊥
instance_within n false k past = absurd (omega (arith, instances_are n))
instance_within n true k past = absurd (omega (arith, instances_are n))

not_past : {A : Type 0} (xs : List A) (k : ℕ) (x : A) → slice_get xs k ≡ Some x → length xs ≤ k → ⊥
not_past xs k x there past = let within = slice_get_within xs k x there in absurd (omega arith)

side_lacks_nothing : (n k : ℕ) → k < n → (lifts : Bool) → SideLacks (generated n) (side_for lifts k) → ⊥
side_lacks_nothing n k below lifts (inl func) = not_past (generated n).funcs _ _ (side-stands n k lifts below).func func
side_lacks_nothing n k below lifts (inr (inl core_type)) = not_past (generated n).core_types _ _ (side-stands n k lifts below).core_type core_type
side_lacks_nothing n k below lifts (inr (inr (inl instance))) = instance_within n lifts k instance
side_lacks_nothing n k below lifts (inr (inr (inr (inl memory)))) = memory_within n lifts (adapter_form k) memory
side_lacks_nothing n k below lifts (inr (inr (inr (inr (inl realloc))))) = realloc_within n lifts (adapter_form k) realloc
side_lacks_nothing n k below lifts (inr (inr (inr (inr (inr (inl callback)))))) = callback
side_lacks_nothing n k below lifts (inr (inr (inr (inr (inr (inr post_return)))))) = post_return

lacks_nothing : (n k : ℕ) → k < n → AdapterLacks (generated n) (adapter_for k) → ⊥
lacks_nothing n k below (inl callee) = absurd (omega (arith, core-defs-count n))
lacks_nothing n k below (inr (inl lift)) = side_lacks_nothing n k below true lift
lacks_nothing n k below (inr (inr lower)) = side_lacks_nothing n k below false lower

-- ---- and none has a fault

module _ (n k : ℕ) (few : n ≤ most_generated) (below : k < n) where
  linked_here : (f : Fault) → IsSomeAnd (adapter_of (generated n) (adapter_for k)) (λ a. LinkedHas (generated n).tunables.concurrency (adapters_before (generated n) k) a f) → ⊥
  linked_here f h =
      let here : LinkedHas (generated n).tunables.concurrency (adapters_before (generated n) k) (linked k) f =
      subst (λ o. IsSomeAnd o (λ a. LinkedHas (generated n).tunables.concurrency (adapters_before (generated n) k) a f)) (adapter_linked n k below) h in
      let behind : LinkedHas (generated n).tunables.concurrency (first_linked k) (linked k) f =
      subst (λ before. LinkedHas (generated n).tunables.concurrency before (linked k) f) (before_linked n k (omega arith)) here in
      linked_faultless k (omega arith) f (subst (λ t. LinkedHas t.concurrency (first_linked k) (linked k) f) (tunables_are n) behind)

  none_here : (f : Fault) → AdapterHas (generated n) k (adapter_for k) f → ⊥
  none_here unknown_index h = lacks_nothing n k below h
  none_here too_large (inl far) = absurd (omega arith)
  none_here too_large (inr (inl lift)) = absurd (omega arith)
  none_here too_large (inr (inr lower)) = absurd (omega arith)
  none_here f h = linked_here f h

pub adapters_faultless : (n : ℕ) → n ≤ most_generated → HaveNoFault (HasAdapterFault (generated n))
adapters_faultless n few k f h =
    elim (cases_lt k n) [
      | inl below ↦ none_here n k few below f (subst (λ o. IsSomeAnd o (λ a. AdapterHas (generated n) k a f)) (adapter_there n k below) h)
      | inr past ↦
          subst (λ o. IsSomeAnd o (λ a. AdapterHas (generated n) k a f)) (slice_get_past (generated n).adapters k (omega (arith, adapters-count n))) h
    ]
