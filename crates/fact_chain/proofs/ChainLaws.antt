-- What came of a chain, by what its callee between keeps.
use Rattle.std.proofs.Common.{◌≡◌, ◌⊎◌, ℕ, inl, inr, List, Option, Some, None, refl, sym, ◌∙◌, subst, arith}
use Rattle.fact_wasm.specs.declared.module.WasmModule.{WasmModule}
use Rattle.fact_types.specs.Tables.{Tables}
use Rattle.fact_types.proofs.ShapeLaws.{none_some}
use Rattle.fact_values.specs.declared.value.Value.{Value}
use Rattle.fact_host.specs.declared.callee.HostError.{HostError}
use Rattle.fact_host.specs.declared.callee.HostError.TheVariants.{OutOfMemory, Unsuited, OverLimit, NoResults}
use Rattle.fact_host.specs.declared.calling.HostCall.{HostCall}
use Rattle.fact_host.specs.declared.calling.HostOutcome.{HostOutcome}
use Rattle.fact_host.specs.Callees.{number_of_error}
use Rattle.fact_host.specs.Contract.{HasNoCause, IsHostCause, IsOutcomeOf, IsReachedBy}
use Rattle.fact_host.specs.Describes.{HasCallShapes}
use Rattle.fact_host.specs.Rules.{CallShapes}
use Rattle.fact_chain.specs.declared.passing.Passing.{Passing}
use Rattle.fact_chain.specs.Between.{CanBeRun, HasPassedOn, IsNumberBy, passed_results}
use Rattle.fact_chain.specs.Chained.{IsChainCause, IsChained, IsInner}
use Rattle.fact_chain.specs.Passing.{IsPassing, IsPassingTo, StaysPassing}
use Rattle.fact_chain.proofs.UnansweredLaws.{not_given}

-- ---- a callee between

-- what it keeps is what came of that call
pub passed_to : (m : WasmModule) (t : Tables) (second : HostCall) (results : List Value) (p : Passing) → IsPassingTo m t second results p → IsPassing p → HasPassedOn m t second results p.given p.outcome p.last
passed_to m t second results p to h =
    subst (λ x. HasPassedOn x t second results p.given p.outcome p.last) to.code
    (subst (λ x. HasPassedOn p.module.now x second results p.given p.outcome p.last) to.types
    (subst (λ x. HasPassedOn p.module.now p.types.now x results p.given p.outcome p.last) to.second_is (subst (λ x. HasPassedOn p.module.now p.types.now p.second.now x p.given p.outcome p.last) to.results_are h)))

-- it is as it is
pub stays_itself : (p : Passing) → IsPassing p → StaysPassing p p
stays_itself p h = record { same = record { code = refl; types = refl; second_is = refl; results_are = refl }; holds = h }

-- a later time of one that makes a call makes that call
pub passing_on : (m : WasmModule) (t : Tables) (second : HostCall) (results : List Value) (first last : Passing) → IsPassingTo m t second results first → StaysPassing first last → IsPassingTo m t second results last
passing_on m t second results first last to stay =
    record { code = stay.same.code ∙ to.code; types = stay.same.types ∙ to.types; second_is = stay.same.second_is ∙ to.second_is; results_are = stay.same.results_are ∙ to.results_are }

-- ---- an outcome

error_not_zero : (e : HostError) → number_of_error e ≡ 0 → ⊥
error_not_zero OutOfMemory q = omega (arith, q)
error_not_zero Unsuited q = omega (arith, q)
error_not_zero OverLimit q = omega (arith, q)
error_not_zero NoResults q = omega (arith, q)

got_something : (rs : Option (List Value)) (last : ℕ) → IsNumberBy rs last → last ≡ 0 → (values : List Value) × (rs ≡ Some values)
got_something None last is zero = let q : number_of_error NoResults ≡ 0 = sym is ∙ zero in absurd (error_not_zero NoResults q)
got_something (Some values) last is zero = (values, refl)

-- where a callee between answered no error, it was given what the first call reached, and made the second one with that
inner_by : (m : WasmModule) (t : Tables) (second : HostCall) (results : List Value) (given : Option (List Value)) (inner : Option HostOutcome) (last : ℕ) (params : Option (List Value))
    → HasPassedOn m t second results given inner last → last ≡ 0 → (given ≡ None) ⊎ (given ≡ params) → (passed_results inner ≡ None → params ≡ None) → IsInner m t second results params inner × (given ≡ params)
inner_by m t second results None None last params h zero reached silent = (subst (λ z. IsInner m t second results z None) (sym (silent refl)) tt, sym (silent refl))
inner_by m t second results None (Some o) last params h zero reached silent = absurd h
inner_by m t second results (Some vs) None last params h zero reached silent = absurd (error_not_zero h.0 (sym h.1 ∙ zero))
inner_by m t second results (Some vs) (Some o) last params h zero reached silent = by reached
  where
    by : (◌≡◌ {A = Option (List Value)} (Some vs) None) ⊎ (Some vs ≡ params) → IsInner m t second results params (Some o) × (Some vs ≡ params)
    by (inl q) = absurd (none_some (Some vs) vs q refl)
    by (inr q) = (subst (λ z. IsInner m t second results z (Some o)) q (h.0, got_something o.results last h.1 zero), q)

module _ (m : WasmModule) (t : Tables) (first second : HostCall) (args results : List Value) (p : Passing) where
  pub chained : CanBeRun m t first → IsPassingTo m t second results p → IsPassing p → (outer : HostOutcome) (inner : Option HostOutcome) → inner ≡ p.outcome
      → ((s : CallShapes) → HasCallShapes t first s → IsOutcomeOf m t first s args (passed_results p.outcome) p.given outer)
      → ((s : CallShapes) → HasCallShapes t first s → HasNoCause s args p.last (passed_results p.outcome))
      → IsChained m t first second args results (record { outer = outer; inner = inner })
  chained can to holds outer inner is outcome no_cause =
      let own = outcome can.shapes can.callable.shapes in
      let none = no_cause can.shapes can.callable.shapes in
      let r = inner_by m t second results p.given p.outcome p.last outer.params (passed_to m t second results p to holds) none.no_error own.given_is
      (λ q. not_given m first can.shapes t args p.given outer (subst (λ z. IsOutcomeOf m t first can.shapes args z p.given outer) q own)) in
      let at : IsChained m t first second args results (record { outer = outer; inner = p.outcome }) = record {
        outer = λ s shapes. subst (λ z. IsOutcomeOf m t first s args (passed_results p.outcome) z outer) r.1 (outcome s shapes);
        no_cause = λ s shapes.
            (let n = no_cause s shapes in
            record { suited = n.suited; no_error = refl; answer_suited = n.answer_suited; answer_fits = n.answer_fits });
        inner = r.0;
      } in
      subst (λ z. IsChained m t first second args results (record { outer = outer; inner = z })) (sym is) at

  pub chain_cause : IsPassingTo m t second results p → IsPassing p → (e : HostError) → ((s : CallShapes) → HasCallShapes t first s → IsReachedBy m t first s args p.given e)
      → ((s : CallShapes) → HasCallShapes t first s → IsHostCause s args p.last (passed_results p.outcome) e) → IsChainCause m t first second args results e
  chain_cause to holds e reached h = record { given = p.given; inner = p.outcome; last = p.last; passed = passed_to m t second results p to holds; reached = reached; cause = h }

-- there was no memory to begin
pub no_memory : (m : WasmModule) (t : Tables) (first second : HostCall) (args results : List Value) → IsChainCause m t first second args results OutOfMemory
no_memory m t first second args results = record { given = None; inner = None; last = 0; passed = inl refl; reached = λ s shapes. tt; cause = λ s shapes. tt }
