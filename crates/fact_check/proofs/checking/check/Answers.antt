use Rattle.std.proofs.Common.{sym, subst}
use Rattle.std.specs.Prelude.{MatchOption}
use Rattle.fact_check.specs.Accepted.{HasCause, IsAdapterModule}
use Rattle.fact_check.specs.Causes.{IsFaultless}
use Rattle.fact_check.proofs.Causes.{faultless, no_cause, none_told, that_one}
use Rattle.fact_check.proofs.NeverStuck.{well_typed_is_never_stuck}
use Rattle.fact_check.proofs.checking.check.Goals as goal

pub returns-in-Ok-None-clause-accepted : goal.returns-in-Ok-None-clause-accepted
returns-in-Ok-None-clause-accepted c =
    let found = c.in-Ok.ensures.found in
    record { in_range = found.0; spelled = found.1; is_adapter = faultless c.in-Ok.module found.0 (subst (λ o. MatchOption o (IsFaultless c.in-Ok.module) (HasCause c.in-Ok.module)) c.in-Ok-None.field-0-is c.in-Ok-None.ensures) }

pub returns-in-Ok-None-clause-never_stuck : goal.returns-in-Ok-None-clause-never_stuck
returns-in-Ok-None-clause-never_stuck c = well_typed_is_never_stuck c.in-Ok.module ((faultless c.in-Ok.module c.in-Ok.ensures.found.0 (subst (λ o. MatchOption o (IsFaultless c.in-Ok.module) (HasCause c.in-Ok.module)) c.in-Ok-None.field-0-is c.in-Ok-None.ensures)).typed)

pub returns-in-Ok-Some-clause-complete : goal.returns-in-Ok-Some-clause-complete
returns-in-Ok-Some-clause-complete c m a =
    absurd (no_cause c.in-Ok.module (subst IsAdapterModule (sym (c.in-Ok.ensures.only m a.in_range a.spelled)) a.is_adapter) c.in-Ok-Some.cause (subst (λ o. MatchOption o (IsFaultless c.in-Ok.module) (HasCause c.in-Ok.module)) c.in-Ok-Some.field-0-is c.in-Ok-Some.ensures))

pub returns-in-Ok-None-clause-exactly : goal.returns-in-Ok-None-clause-exactly
returns-in-Ok-None-clause-exactly c e told h =
    let found = c.in-Ok.ensures.found in
    none_told c.args.bytes.now c.in-Ok.module found.0 found.1 c.in-Ok.ensures.only
    (faultless c.in-Ok.module found.0 (subst (λ o. MatchOption o (IsFaultless c.in-Ok.module) (HasCause c.in-Ok.module)) c.in-Ok-None.field-0-is c.in-Ok-None.ensures)) e told h

pub returns-in-Ok-Some-clause-exactly : goal.returns-in-Ok-Some-clause-exactly
returns-in-Ok-Some-clause-exactly c e told h =
    let found = c.in-Ok.ensures.found in
    that_one c.args.bytes.now c.in-Ok.module found.0 found.1 c.in-Ok.ensures.only c.in-Ok-Some.cause
    (subst (λ o. MatchOption o (IsFaultless c.in-Ok.module) (HasCause c.in-Ok.module)) c.in-Ok-Some.field-0-is c.in-Ok-Some.ensures) e told h
