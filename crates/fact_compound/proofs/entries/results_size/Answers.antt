use Rattle.std.proofs.Common.{ap}
use Rattle.fact_types.specs.Tuples.{tuple_of}
use Rattle.fact_types.specs.declared.abi.CanonicalAbiInfo.{CanonicalAbiInfo}
use Rattle.fact_compound.proofs.entries.results_size.Goals as goal

pub returns : goal.returns
returns c = λ ps rs h. ap (λ (l : CanonicalAbiInfo). l.size32) (c.canonical_abi.ensures.laid (tuple_of rs) (c.tuples_of.ensures.results ps rs h))
