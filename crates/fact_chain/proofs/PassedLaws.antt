-- What came of a call whose callee answers given results, and what a callee between keeps of it.
use Rattle.std.proofs.Common.{◌≡◌, ◌⊎◌, ℕ, ◌≤◌, inl, inr, Bool, true, false, List, Option, Some, None, refl, sym, ap, ◌∙◌, subst, arith}
use Rattle.std.specs.Prelude.{Result, Ok, Err, IfOk, IfErr, if◌then◌else◌}
use Rattle.fact_wasm.specs.declared.module.WasmModule.{WasmModule}
use Rattle.fact_types.specs.Tables.{Tables}
use Rattle.fact_values.specs.declared.value.Value.{Value}
use Rattle.fact_host.specs.declared.callee.HostError.{HostError}
use Rattle.fact_host.specs.declared.callee.HostError.TheVariants.{OutOfMemory, Unsuited, OverLimit, NoResults}
use Rattle.fact_host.specs.declared.callee.Scripted.{Scripted}
use Rattle.fact_host.specs.declared.calling.HostCall.{HostCall}
use Rattle.fact_host.specs.declared.calling.HostOutcome.{HostOutcome}
use Rattle.fact_host.specs.Callees.{number_of_error}
use Rattle.fact_host.specs.Contract.{AnsweredTooMuch, AnsweredUnsuited, AreOfTypes, AreSuited, HasNoCause, IsHostCause, IsOutcomeOf}
use Rattle.fact_host.specs.Describes.{HasCallShapes}
use Rattle.fact_host.specs.Rules.{CallShapes}
use Rattle.fact_lowering.specs.Room.{fits}
use Rattle.fact_chain.specs.Between.{IsNumberBy, IsSecondError, IsSecondOutcome, IsScripted}
use Rattle.fact_chain.specs.Passing.{IsAnswerBy, IsPassed, answer_by, number_of_answer}

-- ---- a callee of given results

-- what it told of its last call
abbrev pub told : Scripted → Option (List Value)
told callee = if callee.asked then Some callee.results else None

pub unasked : (callee : Scripted) → callee.asked ≡ false → told callee ≡ None
unasked callee q = ap (λ b. if b then Some callee.results else None) q

scripted : (callee : Scripted) (results : List Value) → callee.results ≡ results → IsScripted results (told callee)
scripted callee results is = by callee.asked
  where
    by : (b : Bool) → IsScripted results (if b then Some callee.results else None)
    by true = inr (ap (λ z. Some z) is)
    by false = inl refl

-- the outcome of a call with it
pub with_outcome : (m : WasmModule) (t : Tables) (second : HostCall) (params results : List Value) (callee : Scripted) (r : Result HostOutcome HostError) → callee.results ≡ results
    → IfOk r (λ o. (s : CallShapes) → HasCallShapes t second s → IsOutcomeOf m t second s params (told callee) None o)
    → IfOk r (λ o. (s : CallShapes) → HasCallShapes t second s → HasNoCause s params callee.last (told callee))
    → IfOk r (IsSecondOutcome m t second params results)
with_outcome m t second params results callee (Ok o) is outcome no_cause = record {
  answered = told callee;
  scripted = scripted callee results is;
  outcome = outcome;
  no_cause = λ s shapes.
      (let n = no_cause s shapes in
      record { suited = n.suited; no_error = refl; answer_suited = n.answer_suited; answer_fits = n.answer_fits });
}
with_outcome m t second params results callee (Err e) is outcome no_cause = tt

unsuited_by : (s : CallShapes) (results : List Value) (answered : Option (List Value)) → IsScripted results answered → AnsweredUnsuited s answered → AnsweredUnsuited s (Some results)
unsuited_by s results answered (inl none) h = absurd (subst (AnsweredUnsuited s) none h)
unsuited_by s results answered (inr some) h = subst (AnsweredUnsuited s) some h

too_much_by : (s : CallShapes) (results : List Value) (answered : Option (List Value)) → IsScripted results answered → AnsweredTooMuch s answered → AnsweredTooMuch s (Some results)
too_much_by s results answered (inl none) h = absurd (subst (AnsweredTooMuch s) none h)
too_much_by s results answered (inr some) h = subst (AnsweredTooMuch s) some h

-- an error of a callee that has none but want of memory is no other one
no_other : (last n : ℕ) → last ≤ 1 → 2 ≤ n → last ≡ n → ⊥
no_other last n small other is = absurd (omega (arith, small, other, is))

cause_by : (s : CallShapes) (params results : List Value) (last : ℕ) (answered : Option (List Value)) (e : HostError) → last ≤ 1 → IsScripted results answered → IsHostCause s params last answered e → IsHostCause s params 0 (Some results) e
cause_by s params results last answered OutOfMemory small is h = tt
cause_by s params results last answered Unsuited small is h = by h
  where
    callee : (last ≡ 2) ⊎ ((last ≡ 0) × AnsweredUnsuited s answered) → (◌≡◌ {A = ℕ} 0 2) ⊎ ((◌≡◌ {A = ℕ} 0 0) × AnsweredUnsuited s (Some results))
    callee (inl q) = absurd (no_other last 2 small (omega arith) q)
    callee (inr q) = inr (refl, unsuited_by s results answered is q.1)

    by : (AreOfTypes s.lower_params params → ⊥) ⊎ (AreSuited s params × ((last ≡ 2) ⊎ ((last ≡ 0) × AnsweredUnsuited s answered)))
        → (AreOfTypes s.lower_params params → ⊥) ⊎ (AreSuited s params × ((◌≡◌ {A = ℕ} 0 2) ⊎ ((◌≡◌ {A = ℕ} 0 0) × AnsweredUnsuited s (Some results))))
    by (inl q) = inl q
    by (inr q) = inr (q.0, callee q.1)
cause_by s params results last answered OverLimit small is h = by h
  where
    callee : (last ≡ 3) ⊎ ((last ≡ 0) × AnsweredTooMuch s answered) → (◌≡◌ {A = ℕ} 0 3) ⊎ ((◌≡◌ {A = ℕ} 0 0) × AnsweredTooMuch s (Some results))
    callee (inl q) = absurd (no_other last 3 small (omega arith) q)
    callee (inr q) = inr (refl, too_much_by s results answered is q.1)

    by : (AreOfTypes s.lower_params params × (fits s.lower_params s.lift_params params ≡ false)) ⊎ (AreSuited s params × ((last ≡ 3) ⊎ ((last ≡ 0) × AnsweredTooMuch s answered)))
        → (AreOfTypes s.lower_params params × (fits s.lower_params s.lift_params params ≡ false)) ⊎ (AreSuited s params × ((◌≡◌ {A = ℕ} 0 3) ⊎ ((◌≡◌ {A = ℕ} 0 0) × AnsweredTooMuch s (Some results))))
    by (inl q) = inl q
    by (inr q) = inr (q.0, callee q.1)
cause_by s params results last answered NoResults small is h = absurd (no_other last 4 small (omega arith) h.1)

-- an error of a call with it
pub with_error : (t : Tables) (second : HostCall) (params results : List Value) (callee : Scripted) (r : Result HostOutcome HostError) → callee.results ≡ results → callee.last ≤ 1
    → IfErr r (λ e. (s : CallShapes) → HasCallShapes t second s → IsHostCause s params callee.last (told callee) e) → IfErr r (IsSecondError t second params results)
with_error t second params results callee (Ok o) is small h = tt
with_error t second params results callee (Err e) is small h = λ s shapes. cause_by s params results callee.last (told callee) e small (scripted callee results is) (h s shapes)

-- ---- what a callee between keeps

-- its call has an outcome, whose results are answered
pub kept_outcome : (m : WasmModule) (t : Tables) (second : HostCall) (given results : List Value) (o : HostOutcome) (values : Option (List Value)) (answer : Result (List Value) HostError)
    → values ≡ o.results → answer ≡ answer_by values → IsSecondOutcome m t second given results o → IsPassed m t second given results (record { given = Some given; outcome = Some o; answer = answer })
kept_outcome m t second given results o values answer copies is h =
    subst (λ a. IsPassed m t second given results (record { given = Some given; outcome = Some o; answer = a })) (sym (is ∙ ap answer_by copies)) (record {
      holds = (h, number o.results);
      given_is = inr refl;
      answer_is = answered o.results;
    })
  where
    number : (rs : Option (List Value)) → IsNumberBy rs (number_of_answer (answer_by rs))
    number None = refl
    number (Some vs) = refl

    answered : (rs : Option (List Value)) → IsAnswerBy rs (answer_by rs)
    answered None = refl
    answered (Some vs) = refl

-- its call ended with an error, or there was no memory for what came of it
pub kept_error : (m : WasmModule) (t : Tables) (second : HostCall) (given results : List Value) (e : HostError) → IsSecondError t second given results e → IsPassed m t second given results (record { given = Some given; outcome = None; answer = Err e })
kept_error m t second given results e h = record { holds = (e, refl, h); given_is = inr refl; answer_is = refl }

-- there was no memory for what it was given
pub kept_nothing : (m : WasmModule) (t : Tables) (second : HostCall) (params results : List Value) → IsPassed m t second params results (record { given = None; outcome = None; answer = Err OutOfMemory })
kept_nothing m t second params results = record { holds = inr refl; given_is = inl refl; answer_is = refl }

-- ---- what it tells

pub answers_so : (results : Option (List Value)) (answer : Result (List Value) HostError) → IsAnswerBy results answer → IfOk answer (λ values. results ≡ Some values)
answers_so results (Ok values) h = h
answers_so results (Err e) h = tt

pub answers_none : (results : Option (List Value)) (answer : Result (List Value) HostError) → IsAnswerBy results answer → IfErr answer (λ e. results ≡ None)
answers_none results (Ok values) h = tt
answers_none results (Err e) h = h

pub tells_none : (last : ℕ) (answer : Result (List Value) HostError) → last ≡ number_of_answer answer → IfOk answer (λ values. last ≡ 0)
tells_none last (Ok values) is = is
tells_none last (Err e) is = tt

pub tells_error : (last : ℕ) (answer : Result (List Value) HostError) → last ≡ number_of_answer answer → IfErr answer (λ e. last ≡ number_of_error e)
tells_error last (Ok values) is = tt
tells_error last (Err e) is = is
