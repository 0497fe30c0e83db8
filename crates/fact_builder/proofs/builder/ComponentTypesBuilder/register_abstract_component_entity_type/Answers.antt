use Rattle.fact_builder.specs.Beside.{CalledBeside}
use Rattle.fact_builder.specs.declared.registration.Registration.TheVariants as is
use Rattle.fact_builder.specs.Walk.{RegistersAnswer, RegistersEach, RegistersFirst, resources_of}
use Rattle.fact_builder.proofs.Telling.{told_all, told_first}
use Rattle.fact_builder.proofs.builder.ComponentTypesBuilder.register_abstract_component_entity_type.Goals as goal

pub returns-clause-all : goal.returns-clause-all
returns-clause-all g c = told_all (λ t k. RegistersEach (RegistersAnswer is.Abstract (CalledBeside g.F.FnMut t)) c.args.register.now k (resources_of c.args.types.now c.args.path.now c.args.ty) c.register_abstract_component_entity_type_beside.new.register c.register_abstract_component_entity_type_beside.new.self) _ _ c.self.view_is _ _ c.tables-tables.ensures c.register_abstract_component_entity_type_beside.ensures.all

pub returns-clause-first : goal.returns-clause-first
returns-clause-first g c = told_first (λ t k. RegistersFirst (RegistersAnswer is.Abstract (CalledBeside g.F.FnMut t)) c.args.register.now k (resources_of c.args.types.now c.args.path.now c.args.ty) c.register_abstract_component_entity_type_beside.new.register c.register_abstract_component_entity_type_beside.new.self) _ _ c.self.view_is _ _ c.tables-tables.ensures c.register_abstract_component_entity_type_beside.ensures.first
