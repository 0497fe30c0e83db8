-- The faults of the adapters of a plan, one behind the other.
use Rattle.std.proofs.Common.{◌≡◌, ℕ, Bool, ◌+◌, ◌<◌, ◌≤◌, inl, inr, [], ◌∷◌, ◌++◌, length, refl, sym, subst, ◌∙◌, ap, arith}
use Rattle.std.proofs.lemmas.Bool.{cases_lt}
use Rattle.std.proofs.lemmas.List.{take_more}
use Rattle.std.proofs.lemmas.List.Elements.{filter_map-append}
use Rattle.std.proofs.lemmas.Option.{get_or_from_slice_get, slice_get_within}
use Rattle.std.specs.List.{filter_map}
use Rattle.std.specs.Prelude.{IsSomeAnd, Some, slice_get, take}
use Rattle.fact_builder.specs.Builder.{Builder}
use Rattle.fact_plan.specs.declared.plan.FusePlan.{FusePlan}
use Rattle.fact_plan.specs.declared.plan.PlanAdapter.{PlanAdapter}
use Rattle.fact_plan_types.specs.Faults.{Fault, HaveNoFault, rank, unknown_index, bad_type, too_large}
use Rattle.fact_plan_types.specs.PlanTypes.{HasFaultlessTypes}
use Rattle.fact_plan_types.specs.TypeRules.{most_entries}
use Rattle.fact_plan_types.specs.declared.error.Place.{Place}
use Rattle.fact_plan_types.specs.declared.error.Place.TheVariants.{Adapter}
use Rattle.fact_adapter_rules.proofs.BoundLaws.{Covers-nothing}
use Rattle.fact_adapter_rules.specs.AdapterRules.{AdapterHas, AdapterLacks, HasAdapterFault, LinkedHas}
use Rattle.fact_types.specs.Adapters.{LinkedAdapter}
use Rattle.fact_adapter_rules.specs.Adapters.{adapter_of, adapters_before}
use Rattle.fact_adapter_rules.specs.Checked.{AreChecked, Checks, IsFirstOf, IsSoundNext}
use Rattle.fact_adapter_rules.specs.FirstFault.{IsFirstAt}
use Rattle.fact_adapter_rules.specs.Linked.{HasSides, IsLinked}
use Rattle.fact_adapter_rules.specs.PlanLinks.{IsAt, IsFirstHere, LinksAdapter}
use Rattle.fact_adapter_rules.specs.declared.sides.Candidate.{Candidate}
use Rattle.fact_adapter_rules.proofs.LinkLaws.{some_and}

-- ---- the faults of the adapter at a place

module _ (p : FusePlan) (k : ℕ) (x : PlanAdapter) (there : slice_get p.adapters k ≡ Some x) where
  has-here : (f : Fault) → AdapterHas p k x f → HasAdapterFault p k f
  has-here f h = rw there h

  here-has : (f : Fault) → HasAdapterFault p k f → AdapterHas p k x f
  here-has f h = subst (λ o. IsSomeAnd o (λ a. AdapterHas p k a f)) there h

  -- one that lacks nothing has no fault that is looked for before its size
  none-before-size : (AdapterLacks p x → ⊥) → (g : Fault) → rank g < 2 → AdapterHas p k x g → ⊥
  none-before-size known unknown_index less h = known h
  none-before-size known bad_type less h = (some_and (adapter_of p x) _ h).2
  none-before-size known _ less h = omega arith

  pub first-large : (place : Place) → place ≡ Adapter k → (AdapterLacks p x → ⊥) → AdapterHas p k x too_large → IsFirstHere p k too_large place
  first-large place is known large =
      record { is_here = is; has = has-here too_large large; no_rule_before = λ g less h. none-before-size known g less (here-has g h) }

  -- one that lacks nothing and is not too large has the faults that it has with what it names looked up
  module _ (linked : LinkedAdapter) (is : adapter_of p x ≡ Some linked) (known : AdapterLacks p x → ⊥) (small : AdapterHas p k x too_large → ⊥) where
    abbrev Has : Fault → Type 0
    Has f = LinkedHas p.tunables.concurrency (adapters_before p k) linked f

    linked-has : (f : Fault) → Has f → AdapterHas p k x f
    linked-has unknown_index h = absurd h
    linked-has too_large h = absurd h
    linked-has f h = rw is h

    has-linked : (f : Fault) → AdapterHas p k x f → Has f
    has-linked unknown_index h = known h
    has-linked too_large h = small h
    has-linked f h = rw is at h

    pub none-here : ((f : Fault) → Has f → ⊥) → (f : Fault) → HasAdapterFault p k f → ⊥
    none-here none f h = none f (has-linked f (here-has f h))

    pub first-linked : (f : Fault) (place : Place) → place ≡ Adapter k → Has f → ((g : Fault) → rank g < rank f → Has g → ⊥) → IsFirstHere p k f place
    first-linked f place here has none = record {
      is_here = here;
      has = has-here f (linked-has f has);
      no_rule_before = λ g less h. none g less (has-linked g (here-has g h));
    }

    -- it is the last of those before the next place
    pub before-next : adapters_before p (k + 1) ≡ adapters_before p k ++ linked ∷ []
    before-next =
        ap (filter_map (adapter_of p)) (take_more p.adapters k x (slice_get_within _ _ _ there)) ∙ filter_map-append (adapter_of p) (take k p.adapters) _
        ∙ (rw (get_or_from_slice_get _ _ _ x there, is) refl)

    pub at-next : (b : Builder) (old new : Checks) → IsAt p b old k → new.builder ≡ old.builder → new.concurrency ≡ old.concurrency
        → ((f : Fault) → Has f → ⊥) → AreChecked new (adapters_before p k ++ linked ∷ []) → IsAt p b new (k + 1)
    at-next b old new at builder concurrency none checked =
        let near : most_entries ≤ k → ⊥ = λ far. small (inl far) in
        record {
          builder = builder ∙ at.builder;
          concurrency = concurrency ∙ at.concurrency;
          checked = subst (AreChecked new) (sym before-next) checked;
          sound = λ j f below h.
              elim (cases_lt j k) [
                | inl less ↦ at.sound j f less h
                | inr more ↦ none-here none f (subst (λ i. HasAdapterFault p i f) (omega (arith, below, more)) h)
              ];
          few = omega arith;
        }

-- ---- what the checks tell of an adapter that was made over their builder

module _ (p : FusePlan) (b : Builder) (old : Checks) (k : ℕ) (x : PlanAdapter) (candidate : Candidate)
    (at : IsAt p b old k) (there : slice_get p.adapters k ≡ Some x) (links : LinksAdapter p b x candidate.adapter.now)
    (name : candidate.name.now ≡ x.name) (transparent : candidate.transparent ≡ x.transparent)
    (known : AdapterLacks p x → ⊥) (small : AdapterHas p k x too_large → ⊥) where
  is_linked : IsLinked old.builder candidate links.linked
  is_linked = record {
    sides = subst (λ (c : Builder). HasSides c candidate.adapter.now links.linked) (sym at.builder) links.stands;
    name = links.name ∙ sym name;
    transparent = links.transparent ∙ sym transparent;
  }

  abbrev HasUnder : Bool → Fault → Type 0
  HasUnder concurrency f = LinkedHas concurrency (adapters_before p k) links.linked f

  pub sound-next : (new : Checks) → new.builder ≡ old.builder → new.concurrency ≡ old.concurrency → IsSoundNext old new candidate → IsAt p b new (k + 1)
  sound-next new builder concurrency sound =
      let h = sound (adapters_before p k) links.linked at.checked is_linked in
      at-next p k x there links.linked links.is_adapter known small b old new at builder concurrency (λ f has. h.0 f (subst (λ on. HasUnder on f) (sym at.concurrency) has)) h.1

  pub refused-here : (f : Fault) (place : Place) → IsFirstOf old candidate f × (place ≡ Adapter k) → IsFirstHere p k f place
  refused-here f place first =
      let h = first.0 (adapters_before p k) links.linked at.checked is_linked in
      first-linked p k x there links.linked links.is_adapter known small f place first.1
      (subst (λ on. HasUnder on f) at.concurrency h.0) (λ g less has. h.1 g less (subst (λ on. HasUnder on g) (sym at.concurrency) has))

-- ---- all adapters

-- the checks that begin
pub at-first : (p : FusePlan) (b : Builder) → IsAt p b (record { builder = b; concurrency = p.tunables.concurrency; bound = record { memories = []; reallocs = []; uses = []; names = [] } }) 0
at-first p b = record {
  builder = refl;
  concurrency = refl;
  checked = record { memories = Covers-nothing; reallocs = Covers-nothing; uses = Covers-nothing; names = refl; distinct = λ i j d below within. absurd (omega arith) };
  sound = λ j f below h. omega arith;
  few = omega arith;
}

-- the first fault at a place is the plan's, where none was before
pub first-of-plan : (p : FusePlan) (b : Builder) (c : Checks) (k : ℕ) (f : Fault) (place : Place) → HasFaultlessTypes p → IsAt p b c k → IsFirstHere p k f place → IsFirstAt p f place
first-of-plan p b c k f place types at first =
    subst (IsFirstAt p f) (sym first.is_here)
    (types, record { has = first.has; no_rule_before = first.no_rule_before; no_entry_before = λ j g below h. at.sound j g below h })

-- no place is left
pub none-left : (p : FusePlan) (b : Builder) (c : Checks) (k : ℕ) → IsAt p b c k → length p.adapters ≤ k → HaveNoFault (HasAdapterFault p)
none-left p b c k at end = λ j f h.
    let found = some_and (slice_get p.adapters j) _ h in
    let within : j < length p.adapters = slice_get_within _ _ _ found.1 in
    at.sound j f (omega arith) h
