use Rattle.fact_agreement.specs.Named.{at_name}
use Rattle.fact_agreement.proofs.FieldNames.{names_among}
use Rattle.fact_agreement.proofs.fields.are_names_of.Goals as goal

pub returns : goal.returns
returns c = names_among (at_name c.in_ok-types.types) c.args.fields.now c.args.others.now c.are_keys.result c.in_ok-types.ensures c.are_keys.ensures
