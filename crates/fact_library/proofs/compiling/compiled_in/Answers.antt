use Rattle.fact_library.proofs.Comes.{even, holds-compiled, own-records}
use Rattle.fact_library.proofs.compiling.compiled_in.Goals as goal

pub with_records-requires : goal.with_records-requires
with_records-requires c = even c.args.debug c.args.fuel c.args.bytes.now c.in_ok-fused.fused c.in_ok-fused.ensures

pub returns-clause-made : goal.returns-clause-made
returns-clause-made c = holds-compiled c.args.debug c.args.fuel c.args.bytes.now c.in_ok-fused.fused c.in_ok-compiled.compiled c.in_ok-fused.ensures c.in_ok-compiled.ensures

pub returns-clause-records : goal.returns-clause-records
returns-clause-records c = own-records c.in_ok-fused.fused c.in_ok-compiled.compiled c.in_ok-compiled.ensures
