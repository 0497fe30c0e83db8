use Rattle.std.proofs.Common.{◌≡◌, Option, None, Some, ap, refl, subst, sym, ◌∙◌}
use Rattle.std.specs.Prelude.{OnOk}
use Rattle.fact_entity.specs.declared.id.Id.{Id}
use Rattle.fact_entity.specs.declared.table.TypeResourceTables.{TypeResourceTables}
use Rattle.fact_builder.specs.Known.{KnownResources, kept_table}
use Rattle.fact_builder.proofs.TableLaws.{kept_is_live}
use Rattle.fact_builder.proofs.GrowthLaws.{same_keeps}
use Rattle.fact_builder.specs.Registering.{TakesTable}
use Rattle.fact_builder.proofs.ResourceLaws.{others_stay, refused_none, table_alone, table_live, tables_live}
use Rattle.fact_builder.proofs.builder.ComponentTypesBuilder.resource_id.Goals as goal

pub make_table-requires : goal.make_table-requires
make_table-requires c = ap (λ (r : KnownResources). kept_table r c.args.id) (sym c.resources.ensures) ∙ sym c.kept_table.ensures ∙ c.in-None.is

pub returns-in-Some-clause-kept : goal.returns-in-Some-clause-kept
returns-in-Some-clause-kept c = ap (λ (r : KnownResources). kept_table r c.args.id) (sym c.resources.ensures) ∙ sym c.kept_table.ensures ∙ c.in-Some.is

pub returns-in-Some-clause-taken : goal.returns-in-Some-clause-taken
returns-in-Some-clause-taken c =
    let there : kept_table c.args.self.now.resources c.args.id ≡ Some c.in-Some.table = ap (λ (r : KnownResources). kept_table r c.args.id) (sym c.resources.ensures) ∙ sym c.kept_table.ensures ∙ c.in-Some.is in
    subst (λ (o : Option (Id TypeResourceTables)). TakesTable c.args.self.now c.args.id o c.args.self.now) (sym there) refl

pub returns-in-Some-clause-live : goal.returns-in-Some-clause-live
returns-in-Some-clause-live c = λ live.
    let there : kept_table c.args.self.now.resources c.args.id ≡ Some c.in-Some.table = ap (λ (r : KnownResources). kept_table r c.args.id) (sym c.resources.ensures) ∙ sym c.kept_table.ensures ∙ c.in-Some.is in
    kept_is_live c.args.self.now.resources c.args.self.now.tables c.args.id c.in-Some.table live there

pub returns-in-None-clause-taken : goal.returns-in-None-clause-taken
returns-in-None-clause-taken c =
    let none : kept_table c.args.self.now.resources c.args.id ≡ None = ap (λ (r : KnownResources). kept_table r c.args.id) (sym c.resources.ensures) ∙ sym c.kept_table.ensures ∙ c.in-None.is in
    subst (λ (o : Option (Id TypeResourceTables)). OnOk c.make_table.result (TakesTable c.args.self.now c.args.id o c.make_table.new.self)) (sym none) c.make_table.ensures.taken

pub returns-in-None-clause-refused : goal.returns-in-None-clause-refused
returns-in-None-clause-refused c =
    let none : kept_table c.args.self.now.resources c.args.id ≡ None = ap (λ (r : KnownResources). kept_table r c.args.id) (sym c.resources.ensures) ∙ sym c.kept_table.ensures ∙ c.in-None.is in
    refused_none _ _ c.args.id _ none c.make_table.ensures.refused

pub returns-in-None-clause-live : goal.returns-in-None-clause-live
returns-in-None-clause-live c = λ live.
    table_live c.make_table.new.self c.args.id _ c.make_table.ensures.kept (tables_live c.args.self.now c.make_table.new.self c.args.id None _ c.make_table.ensures.taken c.make_table.ensures.refused live)

pub returns-in-None-clause-kept_live : goal.returns-in-None-clause-kept_live
returns-in-None-clause-kept_live c = λ live. tables_live _ _ c.args.id None _ c.make_table.ensures.taken c.make_table.ensures.refused live

pub returns-in-Some-clause-keeps : goal.returns-in-Some-clause-keeps
returns-in-Some-clause-keeps c = same_keeps _ _ refl

pub returns-in-Some-clause-others : goal.returns-in-Some-clause-others
returns-in-Some-clause-others c = others_stay _ _ refl

pub returns-in-None-clause-others : goal.returns-in-None-clause-others
returns-in-None-clause-others c = table_alone _ _ c.args.id None _ c.make_table.ensures.taken c.make_table.ensures.refused
