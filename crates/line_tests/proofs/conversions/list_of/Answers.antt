use Rattle.std.proofs.Common.{subst, sym}
use Rattle.fact_convert.specs.Conversion.{IsReadyFor}
use Rattle.line_tests.proofs.conversions.list_of.Goals as goal

pub returns-clause-ready : goal.returns-clause-ready
returns-clause-ready c =
    subst (λ b. IsReadyFor c.args.types.now b) (sym c.make_list.ensures.makes.rest) (record { source = c.requires.ready.source; kept = c.requires.ready.kept })
