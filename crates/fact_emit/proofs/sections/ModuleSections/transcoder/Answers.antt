use Rattle.std.proofs.Common.{◌∙◌, refl}
use Rattle.fact_emit.proofs.ImportLaws.{extended_on}
use Rattle.fact_emit.proofs.StateLaws.{has_transcoder}
use Rattle.fact_emit.proofs.TaskItems.{transcoder-imported, transcoder-may}
use Rattle.fact_emit.proofs.TypesAdded.{on_any, only_types_added}
use Rattle.fact_emit.proofs.sections.ModuleSections.transcoder.Goals as goal

-- its item is of its type, and no prepare-call
pub import-requires : goal.import-requires
import-requires c = record { may = transcoder-may c.args.transcoder c.in_ok-item.item _ c.in_ok-item.ensures c.in_ok-ty.ensures.place }

pub returns-clause-imported : goal.returns-clause-imported
returns-clause-imported c =
    transcoder-imported c.deref.result.now c.in_ok-ty.ty c.in_ok-place.place c.args.transcoder c.in_ok-item.item (c.deref.ensures ∙ c.in_ok-name.ensures) c.in_ok-ty.ensures.types c.in_ok-ty.ensures.place
    c.in_ok-item.ensures c.requires.widths c.in_ok-place.ensures.imported

pub returns-clause-place : goal.returns-clause-place
returns-clause-place c = has_transcoder c.args.transcoder c.in_ok-item.item c.in_ok-place.place c.in_ok-item.ensures c.in_ok-place.ensures.keeps c.in_ok-place.ensures.typed

pub returns-clause-keeps : goal.returns-clause-keeps
returns-clause-keeps c = extended_on c.transcoder_type.ensures.keeps c.import.ensures.keeps

pub returns-clause-once : goal.returns-clause-once
returns-clause-once c = λ o. c.import.ensures.once (c.transcoder_type.ensures.once o)

pub returns-in_err-item-clause-keeps : goal.returns-in_err-item-clause-keeps
returns-in_err-item-clause-keeps c = c.transcoder_type.ensures.keeps

pub returns-in_err-item-clause-once : goal.returns-in_err-item-clause-once
returns-in_err-item-clause-once c = c.transcoder_type.ensures.once

pub returns-in_err-item-clause-refused : goal.returns-in_err-item-clause-refused
returns-in_err-item-clause-refused c = on_any c.from_residual-in_err-item.result (only_types_added c.in_ok-ty.ensures.types refl)

pub returns-in_err-place-clause-keeps : goal.returns-in_err-place-clause-keeps
returns-in_err-place-clause-keeps c = extended_on c.transcoder_type.ensures.keeps c.import.ensures.keeps

pub returns-in_err-place-clause-once : goal.returns-in_err-place-clause-once
returns-in_err-place-clause-once c = λ o. c.import.ensures.once (c.transcoder_type.ensures.once o)

pub returns-in_err-place-clause-refused : goal.returns-in_err-place-clause-refused
returns-in_err-place-clause-refused c = on_any c.from_residual-in_err-place.result (only_types_added c.in_ok-ty.ensures.types c.in_err-place.ensures.refused)
