use Rattle.fact_abi.proofs.MapLaws.{entry_laid}
use Rattle.fact_lowering.proofs.room.entry_abi.Goals as goal

pub returns-in-Map : goal.returns-in-Map
returns-in-Map c = λ ms h. entry_laid c.args.types.now c.reveal.ensures.sound c.in-Map.i c.args.ty.now c.index.result.now c.in-Map.is c.index.ensures ms h
