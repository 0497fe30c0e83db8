use Rattle.std.proofs.Common.{◌∙◌, ap}
use Rattle.fact_agreement.specs.Named.{type_named, at_name}
use Rattle.fact_agreement.proofs.fields.NamedFields.ty.Goals as goal

pub returns : goal.returns
returns c =
    c.copied.ensures ∙ c.get.ensures.value ∙ ap (at_name c.self.inside.types) c.as_str.ensures ∙ c.self.invariant c.args.name.now ∙ ap (type_named c.args.name.now) c.self.view_is
