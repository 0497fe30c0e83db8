use Rattle.std.proofs.Common.{ap, sym, ◌∙◌}
use Rattle.fact_types.specs.Tuples.{tuple_of}
use Rattle.fact_types.specs.declared.abi.CanonicalAbiInfo.{CanonicalAbiInfo}
use Rattle.fact_compound.proofs.Flats.{count_some, count_none}
use Rattle.fact_compound.proofs.tuples.are_flat_values.Goals as goal

pub returns-in-Some : goal.returns-in-Some
returns-in-Some c = λ m ss h counted. count_some m c.args.limit c.in-Some.count ss c.requires.small counted (sym c.in-Some.is ∙ ap (λ (l : CanonicalAbiInfo). l.flat_count) (c.canonical_abi.ensures.laid (tuple_of ss) h))

pub returns-in-None : goal.returns-in-None
returns-in-None c = λ m ss h counted. count_none m c.args.limit ss c.requires.small counted (sym c.in-None.is ∙ ap (λ (l : CanonicalAbiInfo). l.flat_count) (c.canonical_abi.ensures.laid (tuple_of ss) h))
