-- Where nothing else can be wrong, the one error is a want of memory.
use Rattle.std.proofs.Common.{◌≡◌, ◌⊎◌, ℕ, ◌≤◌, inl, inr, Bool, true, false, List, refl, sym, ◌∙◌, arith}
use Rattle.std.specs.Prelude.{IfSome}
use Rattle.std.proofs.lemmas.Bool.{true≢false}
use Rattle.fact_plan.specs.declared.plan.FusePlan.{FusePlan}
use Rattle.fact_plan_types.specs.declared.error.FuseError.{FuseError}
use Rattle.fact_plan_types.specs.declared.error.FuseError.TheVariants as error
use Rattle.fact_plan_types.specs.declared.error.Place.{Place}
use Rattle.fact_plan_types.specs.declared.error.Place.TheVariants.{TypeEntry, Func, Adapter}
use Rattle.fact_plan_types.specs.Faults.{Fault}
use Rattle.fact_plan_types.specs.PlanTypes.{IsFirstOfTypes, told}
use Rattle.fact_adapter_rules.specs.FirstFault.{IsFaultlessPlan, IsFirstAt}
use Rattle.fact_adapter_rules.specs.PlanLinks.{IsFirstHere}
use Rattle.fact_adapter_rules.proofs.FaultLaws.{faultless-first}
use Rattle.fact_values.specs.declared.value.Value.{Value}
use Rattle.fact_host.specs.declared.callee.HostError.{HostError}
use Rattle.fact_host.specs.declared.callee.HostError.TheVariants as host
use Rattle.fact_host.specs.Contract.{AnsweredTooMuch, AnsweredUnsuited, AreOfTypes, AreSuited, IsHostCause}
use Rattle.fact_host.specs.Rules.{CallShapes}
use Rattle.fact_lowering.specs.Room.{fits}
use Rattle.fact_call_mode.specs.Calls.{without_debug}
use Rattle.fact_call_mode.specs.Replies.{CanBeCarried, answered}

-- ---- a call whose values can be carried, and whose callee errs by a want of memory alone

module _ (s : CallShapes) (args results : List Value) (last : ℕ) (asked : Bool) (can : CanBeCarried s args results) (few : last ≤ 1) where
  never_unsuited : (b : Bool) → AnsweredUnsuited s (answered b results) → ⊥
  never_unsuited true h = h can.results_typed
  never_unsuited false h = h

  never_too_much : (b : Bool) → AnsweredTooMuch s (answered b results) → ⊥
  never_too_much true h = true≢false (sym can.results_fit ∙ h.1)
  never_too_much false h = h

  unsuited_by : (last ≡ 2) ⊎ ((last ≡ 0) × AnsweredUnsuited s (answered asked results)) → ⊥
  unsuited_by (inl two) = omega (arith, few, two)
  unsuited_by (inr h) = never_unsuited asked h.1

  too_much_by : (last ≡ 3) ⊎ ((last ≡ 0) × AnsweredTooMuch s (answered asked results)) → ⊥
  too_much_by (inl three) = omega (arith, few, three)
  too_much_by (inr h) = never_too_much asked h.1

  not_unsuited : (AreOfTypes s.lower_params args → ⊥) ⊎ (AreSuited s args × ((last ≡ 2) ⊎ ((last ≡ 0) × AnsweredUnsuited s (answered asked results)))) → ⊥
  not_unsuited (inl h) = h can.suited.0
  not_unsuited (inr h) = unsuited_by h.1

  not_too_much : (AreOfTypes s.lower_params args × (fits s.lower_params s.lift_params args ≡ false)) ⊎ (AreSuited s args × ((last ≡ 3) ⊎ ((last ≡ 0) × AnsweredTooMuch s (answered asked results)))) → ⊥
  not_too_much (inl h) = true≢false (sym can.suited.1 ∙ h.1)
  not_too_much (inr h) = too_much_by h.1

  pub call_wants : (e : HostError) → IsHostCause s args last (answered asked results) e → e ≡ host.OutOfMemory
  call_wants host.OutOfMemory cause = refl
  call_wants host.Unsuited cause = absurd (not_unsuited cause)
  call_wants host.OverLimit cause = absurd (not_too_much cause)
  call_wants host.NoResults cause = absurd (omega (arith, few, cause.1))

-- ---- a refusal of a plan without faults

module _ (First : Fault → Place → Type 0) (never : (f : Fault) (place : Place) → First f place → ⊥) where
  refusal_wants : (e : FuseError) → IfSome (told e) (λ x. First x.0 x.1) → e ≡ error.OutOfMemory
  refusal_wants error.OutOfMemory h = refl
  refusal_wants (error.UnknownIndex place) h = absurd (never _ place h)
  refusal_wants (error.BadType place) h = absurd (never _ place h)
  refusal_wants (error.TooLarge place) h = absurd (never _ place h)
  refusal_wants (error.BadOptions place) h = absurd (never _ place h)
  refusal_wants (error.TypeMismatch place) h = absurd (never _ place h)
  refusal_wants (error.BadMemory place) h = absurd (never _ place h)
  refusal_wants (error.BadSignature place) h = absurd (never _ place h)
  refusal_wants (error.ImportConflict place) h = absurd (never _ place h)
  refusal_wants (error.DuplicateName place) h = absurd (never _ place h)

module _ (p : FusePlan) (faultless : IsFaultlessPlan p) where
  never_in_types : (f : Fault) (place : Place) → IsFirstOfTypes p f place → ⊥
  never_in_types f (TypeEntry k) first = faultless.types.types k f first.has
  never_in_types f (Func k) first = faultless.types.funcs k f first.1.has
  never_in_types f (Adapter k) first = first

  pub types_want : (e : FuseError) → IfSome (told e) (λ x. IsFirstOfTypes p x.0 x.1) → e ≡ error.OutOfMemory
  types_want e h = refusal_wants (IsFirstOfTypes p) never_in_types e h

  pub adapter_wants : (k : ℕ) (e : FuseError) → IfSome (told e) (λ x. IsFirstHere p k x.0 x.1) → e ≡ error.OutOfMemory
  adapter_wants k e h = refusal_wants (IsFirstHere p k) (λ f place first. faultless.adapters k f first.has) e h

  -- whatever the debug checks and the fuel
  still_faultless : (fuel : ℕ) → IsFaultlessPlan (without_debug fuel p)
  still_faultless fuel = record { types = record { types = faultless.types.types; funcs = faultless.types.funcs }; adapters = faultless.adapters }

  pub fusing_wants : (fuel : ℕ) (e : FuseError) → IfSome (told e) (λ x. IsFirstAt (without_debug fuel p) x.0 x.1) → e ≡ error.OutOfMemory
  fusing_wants fuel e h = refusal_wants (IsFirstAt (without_debug fuel p)) (λ f place first. faultless-first (without_debug fuel p) f place (still_faultless fuel) first) e h
