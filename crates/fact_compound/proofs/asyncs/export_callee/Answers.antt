use Rattle.std.proofs.Common.{ap, ◌∙◌}
use Rattle.fact_emit.specs.States.{with_callee}
use Rattle.fact_compound.proofs.asyncs.export_callee.Goals as goal

pub returns : goal.returns
returns c =
    let name = rw c.as_str-adapter_name.ensures at c.in_ok-name.ensures.ok in
    c.in_ok-export_callee.ensures.exported ∙ ap (λ n. with_callee c.args.sections.now n c.args.adapter.now.callee.number) (c.deref.ensures ∙ name)
