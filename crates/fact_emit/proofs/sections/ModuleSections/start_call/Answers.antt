use Rattle.std.proofs.Common.{◌∙◌, refl}
use Rattle.fact_emit.proofs.ImportLaws.{extended_on}
use Rattle.fact_emit.proofs.TaskItems.{start-imported, start-may}
use Rattle.fact_emit.proofs.TypesAdded.{on_any, only_types_added}
use Rattle.fact_emit.proofs.sections.ModuleSections.start_call.Goals as goal

pub import-requires : goal.import-requires
import-requires c = record { may = start-may c.args.call c.args.results.now c.in_ok-item.item _ c.in_ok-item.ensures c.in_ok-ty.ensures.place }

pub returns-clause-imported : goal.returns-clause-imported
returns-clause-imported c =
    start-imported c.args.adapter.now c.deref.result.now c.in_ok-ty.ty c.in_ok-place.place c.args.call c.args.results.now c.in_ok-item.item (c.deref.ensures ∙ c.in_ok-name.ensures.ok)
    c.in_ok-ty.ensures.types c.in_ok-ty.ensures.place c.in_ok-item.ensures c.in_ok-place.ensures.imported c.in_ok-place.ensures.typed

pub returns-clause-keeps : goal.returns-clause-keeps
returns-clause-keeps c = extended_on c.function.ensures.keeps c.import.ensures.keeps

pub returns-clause-once : goal.returns-clause-once
returns-clause-once c = λ o. c.import.ensures.once (c.function.ensures.once o)

pub returns-in_err-item-clause-keeps : goal.returns-in_err-item-clause-keeps
returns-in_err-item-clause-keeps c = c.function.ensures.keeps

pub returns-in_err-item-clause-once : goal.returns-in_err-item-clause-once
returns-in_err-item-clause-once c = c.function.ensures.once

pub returns-in_err-item-clause-refused : goal.returns-in_err-item-clause-refused
returns-in_err-item-clause-refused c = on_any c.from_residual-in_err-item.result (only_types_added c.in_ok-ty.ensures.types refl)

pub returns-in_err-place-clause-keeps : goal.returns-in_err-place-clause-keeps
returns-in_err-place-clause-keeps c = extended_on c.function.ensures.keeps c.import.ensures.keeps

pub returns-in_err-place-clause-once : goal.returns-in_err-place-clause-once
returns-in_err-place-clause-once c = λ o. c.import.ensures.once (c.function.ensures.once o)

pub returns-in_err-place-clause-refused : goal.returns-in_err-place-clause-refused
returns-in_err-place-clause-refused c = on_any c.from_residual-in_err-place.result (only_types_added c.in_ok-ty.ensures.types c.in_err-place.ensures.refused)
