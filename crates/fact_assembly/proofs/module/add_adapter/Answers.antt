use Rattle.std.proofs.Common.{◌<◌, length, sym, subst}
use Rattle.std.proofs.lemmas.Result.{on_ok_weaker}
use Rattle.fact_entity.specs.declared.id.Id.{Id}
use Rattle.fact_entity.specs.declared.table.TypeFuncs.{TypeFuncs}
use Rattle.fact_assembly.specs.Faithful.{adapter_tunables}
use Rattle.fact_assembly.proofs.HelperParts.{helpers-imported}
use Rattle.fact_assembly.proofs.ImportingLaws.{adapter-added}
use Rattle.fact_assembly.proofs.module.add_adapter.Goals as goal

pub compile-compiled-requires-clause-can : goal.compile-compiled-requires-clause-can
compile-compiled-requires-clause-can c = record {
  lower_live = subst (λ (ty : Id TypeFuncs). ty.number < length c.args.state.now.builder.now.tables.functions) (sym c.in_ok-imported.ensures.described.lower.ty_is) c.requires.typed.lower;
  lift_live = subst (λ (ty : Id TypeFuncs). ty.number < length c.args.state.now.builder.now.tables.functions) (sym c.in_ok-imported.ensures.described.lift.ty_is) c.requires.typed.lift;
  callee = c.in_ok-imported.ensures.callee;
  options_imported = c.in_ok-imported.ensures.options;
  post_return = c.in_ok-imported.ensures.post_return;
}

pub compile-compiled-requires-clause-helpers : goal.compile-compiled-requires-clause-helpers
compile-compiled-requires-clause-helpers c =
    let (a, is) = c.requires.linked in
    helpers-imported a _ (c.in_ok-imported.ensures.imported a is) c.in_ok-imported.ensures.keeps c.requires.helpers

pub returns-clause-added : goal.returns-clause-added
returns-clause-added c = on_ok_weaker c.compile-compiled.result (λ compiled a is. adapter-added is (adapter_tunables c.args.state.now.tunables.now c.args.state.now.features) _ c.in_ok-imported.ensures.described (c.in_ok-imported.ensures.imported a is) compiled) c.compile-compiled.ensures.compiled

pub returns-clause-keeps : goal.returns-clause-keeps
returns-clause-keeps c =
    let kept = c.compile-compiled.ensures.keeps in
    record { builder = kept.builder; tunables = kept.tunables; features = kept.features }
