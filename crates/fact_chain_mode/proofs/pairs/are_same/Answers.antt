use Rattle.fact_chain_mode.proofs.PairLaws.{tested}
use Rattle.fact_chain_mode.proofs.pairs.are_same.Goals as goal

pub returns : goal.returns
returns c = λ ss zs have given. tested c.args.builder.now.tables c.reveal.ensures.one_index c.args.types.now c.args.others.now c.eq.result c.eq.ensures ss zs have given
