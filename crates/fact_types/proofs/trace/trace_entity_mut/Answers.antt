use Rattle.std.proofs.Common.{ap}
use Rattle.std.specs.Fn.{CalledAtMut}
use Rattle.std.proofs.RetainMut.{Called-Mut}
use Rattle.fact_types.specs.Traces.{named_index}
use Rattle.fact_types.proofs.TraceLaws.{each_one}
use Rattle.fact_types.proofs.trace.trace_entity_mut.Goals as goal

pub returns-in-Function-clause-visits : goal.returns-in-Function-clause-visits
returns-in-Function-clause-visits g c = each_one (CalledAtMut g.F.FnMut) _ _ _ _ _ c.func.result (ap named_index c.in-Function.is) (Called-Mut g.F.FnMut c.func.ensures)

pub returns-in-Tag-clause-visits : goal.returns-in-Tag-clause-visits
returns-in-Tag-clause-visits g c = each_one (CalledAtMut g.F.FnMut) _ _ _ _ _ c.func-in-Tag.result (ap named_index c.in-Tag.is) (Called-Mut g.F.FnMut c.func-in-Tag.ensures)
