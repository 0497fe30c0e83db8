-- From what the bytes hold to how a run ends.
use Rattle.std.specs.Prelude.{MatchResult, IfSome, IsSomeAnd, codes}
use Rattle.std.proofs.Common.{◌≡◌, ◌≢◌, ℕ, ◌≤◌, List, length, Option, None, Some, Result, Ok, Err, IfErr, IfOk, refl, sym, subst}
use Rattle.serde_json.specs.Data.{Data}
use Rattle.fact_io.specs.Transfers.{TakesAll}
use Rattle.fact_plan.specs.declared.fault.PlanFault.{PlanFault}
use Rattle.fact_plan.specs.declared.fault.PlanFault.TheVariants as fault
use Rattle.fact_plan.specs.declared.plan.FusePlan.{FusePlan}
use Rattle.fact_plan.specs.Fault.{IsNotMemory, UnlessMemory, fault_line}
use Rattle.fact_plan.specs.Plan.{plan_of}
use Rattle.fact_plan.specs.Reading.{value_in}
use Rattle.fact_plan_types.specs.declared.error.Place.{Place}
use Rattle.fact_plan_types.specs.Faults.{Fault}
use Rattle.fact_adapter_rules.specs.FirstFault.{IsFaultlessPlan, IsFirstAt}
use Rattle.fact_command.specs.Refusal.{refusal_line}
use Rattle.fact_command.specs.Status.{line_of}
use Rattle.fact_command.specs.declared.status.Status.{Status}
use Rattle.fact_command.specs.declared.status.Status.TheVariants as status
use Rattle.fact_plan.specs.Inputs.{HoldsNoJson, limit}
use Rattle.fact_run.specs.Run.{Read}
use Rattle.fact_explain.specs.declared.ending.Ending.{Ending}
use Rattle.fact_explain.specs.Explained.{HoldsFaultlessPlan, IsEndOf, IsEndWithout}
use Rattle.fact_explain.specs.Endings.{IsEndOfValue, IsTold, ending_text, no_memory}

-- ---- JSON values

-- said of a fault that is no want of memory
unless : (f : PlanFault) (P : Type 0) → IsNotMemory f → UnlessMemory f P → P
unless fault.OutOfMemory P n h = absurd n
unless (fault.Missing path) P n h = h
unless (fault.UnknownKey path) P n h = h
unless (fault.WrongKind path) P n h = h
unless (fault.OutOfRange path) P n h = h

pub of-fault : (v : Data) (f : PlanFault) (e : Ending) → UnlessMemory f (plan_of v ≡ Err f) → IsNotMemory f × IsTold status.BadPlan (fault_line (codes "plan") f) e → IsEndOfValue v e.status (ending_text e)
of-fault v f e h t =
    let P : Status → Type 0 = λ s. IsEndOfValue v s (ending_text e) in
    subst P (sym t.1.has_status) (f, unless f (plan_of v ≡ Err f) t.0 h, t.1.begins)

pub of-refusal : (v : Data) (p : FusePlan) (o : Option (Fault × Place)) (e : Ending) → plan_of v ≡ Ok p → IfSome o (λ x. IsFirstAt p x.0 x.1) → IsSomeAnd o (λ x. IsTold status.Refused (refusal_line x.0 x.1) e)
    → IsEndOfValue v e.status (ending_text e)
of-refusal v p None e is h t = absurd t
of-refusal v p (Some x) e is h t =
    let P : Status → Type 0 = λ s. IsEndOfValue v s (ending_text e) in
    subst P (sym t.has_status) (p, is, x.0, x.1, h, t.begins)

pub of-memory : (v : Data) (e : Ending) → e ≡ no_memory → IsEndOfValue v e.status (ending_text e)
of-memory v e h = let P : Ending → Type 0 = λ x. IsEndOfValue v x.status (ending_text x) in subst P (sym h) refl

-- ---- bytes

of-value : (bytes : List ℕ) (v : Data) (s : Status) (text : List ℕ) → length bytes ≤ limit → value_in bytes ≡ Some v → IsEndOfValue v s text → IsEndOf bytes s text
of-value bytes v status.BadPlan text within j h = (h.0, record { within = within; value = v; is_json = j; is_fault = h.1 }, h.2)
of-value bytes v status.Refused text within j h = (
  h.2,
  h.3,
  record { plan = h.0; is_plan = record { within = within; value = v; is_json = j; is_input = h.1 }; is_first = h.4 },
  h.5,
)
of-value bytes v status.OutOfMemory text within j h = h
of-value bytes v s text within j h = absurd h

pub of-no-json : (bytes : List ℕ) (e : Ending) → HoldsNoJson bytes → IsTold status.NotJson (line_of status.NotJson) e → IsEndOf bytes e.status (ending_text e)
of-no-json bytes e n t = let P : Status → Type 0 = λ s. IsEndOf bytes s (ending_text e) in subst P (sym t.has_status) (n, t.begins)

pub no-json-memory : (bytes : List ℕ) (e : Ending) → e ≡ no_memory → IsEndOf bytes e.status (ending_text e)
no-json-memory bytes e h = let P : Ending → Type 0 = λ x. IsEndOf bytes x.status (ending_text x) in subst P (sym h) refl

pub of-json : (bytes : List ℕ) (v : Data) (r : Result FusePlan Ending) → length bytes ≤ limit → value_in bytes ≡ Some v
    → MatchResult r (λ p. (plan_of v ≡ Ok p) × IsFaultlessPlan p) (λ e. IsEndOfValue v e.status (ending_text e)) → MatchResult r (λ p. HoldsFaultlessPlan bytes p) (λ e. IsEndOf bytes e.status (ending_text e))
of-json bytes v (Ok p) within j h = record { is_plan = record { within = within; value = v; is_json = j; is_input = h.0 }; faultless = h.1 }
of-json bytes v (Err e) within j h = of-value bytes v e.status (ending_text e) within j h

-- ---- sources

of-bytes : (left left' : Option (List ℕ)) (read : Type 0) (bytes : List ℕ) (s : Status) (text : List ℕ) → TakesAll left left' bytes → IsEndOf bytes s text → IsEndWithout left left' read s text
of-bytes left left' read bytes status.NotJson text all h = record { bytes = bytes; all = all; is_so = h }
of-bytes left left' read bytes status.BadPlan text all h = record { bytes = bytes; all = all; is_so = h }
of-bytes left left' read bytes status.Refused text all h = record { bytes = bytes; all = all; is_so = h }
of-bytes left left' read bytes status.OutOfMemory text all h = h
of-bytes left left' read bytes s text all h = absurd h

pub plan-read : (left left' : Option (List ℕ)) (bytes : List ℕ) (r : Result FusePlan Ending) → TakesAll left left' bytes → MatchResult r (λ p. HoldsFaultlessPlan bytes p) (λ e. IsEndOf bytes e.status (ending_text e))
    → IfOk r (λ p. Read left left' (λ b. HoldsFaultlessPlan b p))
plan-read left left' bytes (Ok p) all h = record { bytes = bytes; all = all; is_so = h }
plan-read left left' bytes (Err e) all h = tt

pub end-read : (left left' : Option (List ℕ)) (read : Type 0) (bytes : List ℕ) (r : Result FusePlan Ending) → TakesAll left left' bytes → MatchResult r (λ p. HoldsFaultlessPlan bytes p) (λ e. IsEndOf bytes e.status (ending_text e))
    → IfErr r (λ e. IsEndWithout left left' read e.status (ending_text e))
end-read left left' read bytes (Ok p) all h = tt
end-read left left' read bytes (Err e) all h = of-bytes left left' read bytes e.status (ending_text e) all h

-- what holds without a fault
pub unfaulted : (P : Type 0) (r : Result FusePlan Ending) → P → MatchResult r (λ p. P) (λ e. e.status ≢ status.ReadFault → P)
unfaulted P (Ok p) h = h
unfaulted P (Err e) h = λ other. h
