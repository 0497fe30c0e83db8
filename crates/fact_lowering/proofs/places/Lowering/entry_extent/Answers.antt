use Rattle.std.proofs.Common.{arith, ap}
use Rattle.fact_types.specs.declared.extents.Extent.{Extent}
use Rattle.fact_types.specs.declared.extents.MemoryWidth.TheVariants.{Memory32, Memory64}
use Rattle.fact_types.specs.Signatures.{width}
use Rattle.fact_abi.proofs.MapLaws.{entry_size, entry_aligned}
use Rattle.fact_lowering.proofs.places.Lowering.entry_extent.Goals as goal

pub returns-then-self-clause-size : goal.returns-then-self-clause-size
returns-then-self-clause-size c = λ ms h. ap (λ (x : Extent). x.size) (entry_size c.args.self.now.types.now c.reveal.ensures.sound c.in-Map.i c.args.ty.now c.index.result.now c.in-Map.is c.index.ensures c.args.self.now.side Memory64 (ap width c.if-self.true) ms h)

pub returns-then-self-clause-align : goal.returns-then-self-clause-align
returns-then-self-clause-align c = λ ms h. omega (arith, c.max.ensures, ap (λ (x : Extent). x.align) (entry_size c.args.self.now.types.now c.reveal.ensures.sound c.in-Map.i c.args.ty.now c.index.result.now c.in-Map.is c.index.ensures c.args.self.now.side Memory64 (ap width c.if-self.true) ms h), entry_aligned c.args.self.now.side ms)

pub returns-else-self-clause-size : goal.returns-else-self-clause-size
returns-else-self-clause-size c = λ ms h. ap (λ (x : Extent). x.size) (entry_size c.args.self.now.types.now c.reveal.ensures.sound c.in-Map.i c.args.ty.now c.index.result.now c.in-Map.is c.index.ensures c.args.self.now.side Memory32 (ap width c.if-self.false) ms h)

pub returns-else-self-clause-align : goal.returns-else-self-clause-align
returns-else-self-clause-align c = λ ms h. omega (arith, c.max-else-self.ensures, ap (λ (x : Extent). x.align) (entry_size c.args.self.now.types.now c.reveal.ensures.sound c.in-Map.i c.args.ty.now c.index.result.now c.in-Map.is c.index.ensures c.args.self.now.side Memory32 (ap width c.if-self.false) ms h), entry_aligned c.args.self.now.side ms)
