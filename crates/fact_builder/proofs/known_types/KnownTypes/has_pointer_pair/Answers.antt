use Rattle.std.proofs.Common.{◌∙◌, ap}
use Rattle.fact_builder.proofs.InformationLaws.{known_at}
use Rattle.fact_builder.proofs.known_types.KnownTypes.has_pointer_pair.Goals as goal

pub returns : goal.returns
returns c = λ s h.
    ap (λ x. x.has_pointer_pair) (c.known.ensures ∙ known_at _ _ c.self.view_is _ c.self.invariant s c.args.ty.now h)
