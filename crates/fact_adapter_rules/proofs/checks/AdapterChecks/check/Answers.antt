use Rattle.std.proofs.Common.{◌≡◌, subst, OnOk, IfSome}
use Rattle.std.specs.Prelude.{IfErr}
use Rattle.fact_plan_types.specs.PlanTypes.{told}
use Rattle.fact_plan_types.specs.declared.error.Place.TheVariants as place_at
use Rattle.fact_adapter_rules.specs.Checked.{Checks, IsFirstOf, IsSoundOver}
use Rattle.fact_adapter_rules.proofs.checks.AdapterChecks.check.Goals as goal

pub returns-else-is_err-clause-sound : goal.returns-else-is_err-clause-sound
returns-else-is_err-clause-sound c =
    subst (λ (s : Checks). OnOk c.check_behind-checked.result (IsSoundOver s.builder s.concurrency s.bound c.check_behind-checked.new.bound c.args.candidate.now)) c.self.view_is c.check_behind-checked.ensures.sound

pub returns-then-is_err-clause-refused : goal.returns-then-is_err-clause-refused
returns-then-is_err-clause-refused c =
    subst (λ (s : Checks). IfErr c.check_behind-checked.result (λ e. IfSome (told e) (λ x. IsFirstOf s c.args.candidate.now x.0 × (x.1 ≡ place_at.Adapter c.args.number)))) c.self.view_is c.check_behind-checked.ensures.refused
