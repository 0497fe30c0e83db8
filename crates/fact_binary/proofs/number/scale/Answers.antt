use Rattle.fact_binary.proofs.Groups.{scale-below}
use Rattle.fact_binary.proofs.number.scale.Goals as goal

pub pow-requires : goal.pow-requires
pow-requires c = scale-below c.args.k c.requires
