use Rattle.std.proofs.Common.{◌∙◌, ap}
use Rattle.fact_emit.specs.Parts.{from_behind}
use Rattle.fact_emit.specs.Places.{from_of}
use Rattle.fact_emit.proofs.PairMoves.{pair_read}
use Rattle.fact_emit.proofs.pairs.read_pair.Goals as goal

pub returns : goal.returns
returns c = pair_read (c.part-second.ensures c.args.linear ∙ ap (λ n. from_behind 1 1 n (from_of c.args.linear c.args.source)) c.address_bytes.ensures) c.in_ok-read_pointer.ensures c.in_ok-read_pointer-2.ensures
