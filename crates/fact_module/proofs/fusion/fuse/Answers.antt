use Rattle.fact_module.proofs.AdapterImports.{accepted_both}
use Rattle.fact_module.proofs.fusion.fuse.Goals as goal

pub returns-clause-accepted : goal.returns-clause-accepted
returns-clause-accepted c = accepted_both c.args.plan.now c.fuse_over-fused.result c.fuse_over-fused.ensures.fused c.fuse_over-fused.ensures.faultless
