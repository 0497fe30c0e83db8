use Rattle.std.proofs.lemmas.Result.{IfOk-weaker}
use Rattle.fact_command.proofs.Words.{with-options}
use Rattle.fact_command.proofs.command.command.Goals as goal

pub returns : goal.returns
returns c =
    IfOk-weaker c.with-7.result _ _ (λ made is. with-options _ _ _ _ _ _ _ _ _ _ _ _ _ _ _ c.bare_command-bare.ensures c.flag.ensures.rule c.in_ok-with_debug.ensures c.option.ensures.rule c.in_ok-with_fuel.ensures
    c.flag-2.ensures.rule c.in_ok-with_imports.ensures c.option-2.ensures.rule c.in_ok-with_generate.ensures c.flag-3.ensures.rule c.in_ok-with_check.ensures c.option-3.ensures.rule c.in_ok-with_call.ensures c.flag-4.ensures.rule is) c.with-7.ensures
