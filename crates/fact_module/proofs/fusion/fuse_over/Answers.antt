use Rattle.std.proofs.Common.{refl}
use Rattle.fact_module.proofs.FuseLaws.{fused-all, taken-first}
use Rattle.fact_module.proofs.fusion.fuse_over.Goals as goal

pub take_adapters-requires-clause-at : goal.take_adapters-requires-clause-at
take_adapters-requires-clause-at c = rw c.new-module_so_far.ensures (taken-first _ _ _ (record { builder = refl; tunables = refl; features = refl }) refl refl)

pub returns-clause-fused : goal.returns-clause-fused
returns-clause-fused c =
    fused-all _ _ c.in_ok-spelled.field-0 c.in_ok-module.module c.in_ok-module.imports c.in_default.ensures.taken c.in_ok-spelled.ensures.fused c.in_ok-module.ensures.parts c.in_ok-module.ensures.in_range c.in_ok-module.ensures.promised
