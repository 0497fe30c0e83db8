use Rattle.fact_library.proofs.Comes.{module-in}
use Rattle.fact_library.proofs.compiling.module_in.Goals as goal

pub returns : goal.returns
returns c =
    module-in c.args.debug c.args.fuel c.args.bytes.now c.in_ok-plan.plan c.fuse_plan.result c.in_ok-plan.ensures c.fuse_plan.ensures.faultless c.fuse_plan.ensures.made c.fuse_plan.ensures.error
