use Rattle.std.proofs.Common.{◌∙◌, ap}
use Rattle.fact_emit.specs.Parts.{to_behind}
use Rattle.fact_emit.specs.Places.{to_of}
use Rattle.fact_emit.proofs.PairMoves.{pair_written}
use Rattle.fact_emit.proofs.pairs.write_pair.Goals as goal

pub returns : goal.returns
returns c =
    pair_written _ _ _ _ (c.part-second.ensures c.args.linear ∙ ap (λ n. to_behind 1 1 n (to_of c.args.linear c.args.target)) c.address_bytes.ensures) c.in_ok-write_pointer.ensures c.in_ok-write_pointer-2.ensures
