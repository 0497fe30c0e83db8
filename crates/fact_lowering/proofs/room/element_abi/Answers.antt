use Rattle.std.proofs.Common.{◌∙◌, sym}
use Rattle.fact_abi.proofs.BelongLaws.{place_within}
use Rattle.fact_lowering.proofs.room.element_abi.Goals as goal

pub canonical_abi-requires : goal.canonical_abi-requires
canonical_abi-requires c = (place_within c.args.types.now c.args.owner.now c.args.node.now.types 0 c.in-Some.ty c.requires (sym c.member_type.ensures ∙ c.in-Some.is)).live
