use Rattle.fact_run.proofs.plan_mode.printed.Goals as goal

pub fused_page-text-requires : goal.fused_page-text-requires
fused_page-text-requires c = rw c.configure-configured.ensures c.requires

pub returns : goal.returns
returns c = c.fused_page-text.ensures c.args.plan c.configure-configured.ensures
