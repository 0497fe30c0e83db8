use Rattle.std.proofs.Common.{◌∙◌, ap, length}
use Rattle.fact_kinds.proofs.FlagMoves.{enum_moved}
use Rattle.fact_kinds.proofs.flags.move_enum.Goals as goal

pub returns : goal.returns
returns c =
    enum_moved c.args.types.now c.args.from c.index.result.now c.index.ensures _ (c.len-cases.ensures.len ∙ ap (λ f. length f.names) c.behind-types.view_is) c.in-Some.ensures.size c.discriminant_number.ensures c.in_ok-move_tested.ensures
