use Rattle.std.proofs.lemmas.Option.{slice_get_within}
use Rattle.fact_emit.proofs.ImportLaws.{extended_on}
use Rattle.fact_emit.proofs.TypesAdded.{on_any, only_types_added}
use Rattle.std.proofs.Common.{◌++◌, refl, ap, ◌∙◌, codes}
use Rattle.std.specs.Fmt.{decimal}
use Rattle.fact_wasm.specs.declared.module.ImportType.TheVariants as import_type
use Rattle.fact_emit.specs.States.{import_as}
use Rattle.fact_emit.proofs.sections.ModuleSections.callback.Goals as goal

pub core_def-requires : goal.core_def-requires
core_def-requires c = slice_get_within _ _ _ c.in_ok-ty.ensures.place

pub returns-clause-keeps : goal.returns-clause-keeps
returns-clause-keeps c = extended_on c.function.ensures.keeps c.core_def.ensures.keeps

pub returns-clause-once : goal.returns-clause-once
returns-clause-once c = λ o. c.core_def.ensures.once (c.function.ensures.once o)

pub returns-in_err-place-clause-keeps : goal.returns-in_err-place-clause-keeps
returns-in_err-place-clause-keeps c = extended_on c.function.ensures.keeps c.core_def.ensures.keeps

pub returns-in_err-place-clause-once : goal.returns-in_err-place-clause-once
returns-in_err-place-clause-once c = λ o. c.core_def.ensures.once (c.function.ensures.once o)

pub returns-in_err-place-clause-refused : goal.returns-in_err-place-clause-refused
returns-in_err-place-clause-refused c = on_any c.from_residual-in_err-place.result (only_types_added c.in_ok-ty.ensures.types c.in_err-place.ensures.refused)

pub returns-clause-imported : goal.returns-clause-imported
returns-clause-imported c = record {
  typed = c.function.new.self;
  types = c.in_ok-ty.ensures.types;
  import = import_as (codes "callback") c.deref.result.now (import_type.Func c.in_ok-ty.ty);
  stands = record { is_from = refl; is_named = c.deref.ensures ∙ c.in_ok-name.ensures.ok ∙ ap (λ n. codes "f" ++ decimal n) c.function_count-count.ensures; is_typed = c.in_ok-ty.ensures.place };
  imported = c.in_ok-place.ensures.imported;
}
