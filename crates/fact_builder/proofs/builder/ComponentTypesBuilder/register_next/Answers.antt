use Rattle.std.proofs.Common.{rules, refl, sym, ◌∙◌}
use Rattle.std.proofs.lemmas.Result.{err_from_is_err_and}
use Rattle.fact_builder.proofs.RegisterLaws.{none_of}
use Rattle.fact_builder.proofs.ResourceLaws.{none_numbered, none_registered, registered_next, was_registered}
use Rattle.fact_builder.proofs.builder.ComponentTypesBuilder.register_next.Goals as goal

pub register_abstract_resource-requires : goal.register_abstract_resource-requires
register_abstract_resource-requires c = none_of _ (sym c.is_registered.ensures ∙ c.if-is_registered.false)

pub returns-then-is_registered-clause-registered : goal.returns-then-is_registered-clause-registered
returns-then-is_registered-clause-registered c = was_registered _ _ c.self.view_is c.args.id (sym c.is_registered.ensures ∙ c.if-is_registered.true)

pub returns-in_default-clause-refused : goal.returns-in_default-clause-refused
returns-in_default-clause-refused c = (refl, none_numbered _ _ c.self.view_is c.args.id (none_of _ (sym c.is_registered.ensures ∙ c.if-is_registered.false)) (search rules))

pub returns-in_err-register_abstract_resource-clause-refused : goal.returns-in_err-register_abstract_resource-clause-refused
returns-in_err-register_abstract_resource-clause-refused c = none_registered _ _ c.self.view_is c.args.id _ c.from_residual.result c.in_err-register_abstract_resource.ensures.refused (none_of _ (sym c.is_registered.ensures ∙ c.if-is_registered.false)) (err_from_is_err_and c.from_residual.result c.from_residual.ensures.1)

pub returns-clause-registered : goal.returns-clause-registered
returns-clause-registered c = registered_next _ _ c.self.view_is c.args.id _ _ _ (none_of _ (sym c.is_registered.ensures ∙ c.if-is_registered.false)) (search rules) (search rules) (search rules) c.in_ok-register_abstract_resource.ensures.registered
