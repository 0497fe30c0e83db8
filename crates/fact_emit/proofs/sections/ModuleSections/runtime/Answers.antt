use Rattle.std.proofs.Common.{◌∙◌, subst}
use Rattle.fact_wasm.specs.declared.module.ImportType.TheVariants as import_type
use Rattle.fact_emit.specs.Runtime.{import_of, origin_of_runtime}
use Rattle.fact_emit.specs.States.{IsImported, import_as}
use Rattle.fact_emit.proofs.ImportLaws.{extended_on}
use Rattle.fact_emit.proofs.TypesAdded.{on_any, only_types_added}
use Rattle.fact_emit.proofs.sections.ModuleSections.runtime.Goals as goal

pub returns-clause-imported : goal.returns-clause-imported
returns-clause-imported c = record {
  ty = c.in_ok-ty.ty;
  typed = c.runtime_type.new.self;
  types = c.in_ok-ty.ensures.types;
  ty_there = c.in_ok-ty.ensures.place;
  imported = subst (λ n. IsImported c.runtime_type.new.self c.import_runtime.new.self (import_as (origin_of_runtime c.args.function) n (import_type.Func c.in_ok-ty.ty)) (import_of c.args.function) c.in_ok-place.place) (c.deref.ensures ∙ c.in_ok-name.ensures) c.in_ok-place.ensures.imported;
}

pub returns-clause-place : goal.returns-clause-place
returns-clause-place c = c.in_ok-place.ensures.place

pub returns-clause-keeps : goal.returns-clause-keeps
returns-clause-keeps c = extended_on c.runtime_type.ensures.keeps c.import_runtime.ensures.keeps

pub returns-clause-once : goal.returns-clause-once
returns-clause-once c = λ o. c.import_runtime.ensures.once (c.runtime_type.ensures.once o)

pub returns-in_err-place-clause-keeps : goal.returns-in_err-place-clause-keeps
returns-in_err-place-clause-keeps c = extended_on c.runtime_type.ensures.keeps c.import_runtime.ensures.keeps

pub returns-in_err-place-clause-once : goal.returns-in_err-place-clause-once
returns-in_err-place-clause-once c = λ o. c.import_runtime.ensures.once (c.runtime_type.ensures.once o)

pub returns-in_err-place-clause-refused : goal.returns-in_err-place-clause-refused
returns-in_err-place-clause-refused c = on_any c.from_residual-in_err-place.result (only_types_added c.in_ok-ty.ensures.types c.in_err-place.ensures.refused)
