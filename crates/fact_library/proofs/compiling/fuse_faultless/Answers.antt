use Rattle.fact_library.proofs.compiling.fuse_faultless.Goals as goal

pub fuse_tuned-fused-requires : goal.fuse_tuned-fused-requires
fuse_tuned-fused-requires c = rw c.tuned-tuned.ensures c.requires

pub returns : goal.returns
returns c = c.fuse_tuned-fused.ensures c.args.plan c.args.debug c.args.fuel c.tuned-tuned.ensures
