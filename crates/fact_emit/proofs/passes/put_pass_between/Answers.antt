use Rattle.std.proofs.Common.{◌∙◌}
use Rattle.fact_emit.proofs.SidesImported.{sides_same}
use Rattle.fact_emit.proofs.StringParts.{memories_imported, memories_wide, no_def, nowhere, passed, transcoder_is}
use Rattle.fact_emit.proofs.passes.put_pass_between.Goals as goal

pub transcoder-requires-clause-memories : goal.transcoder-requires-clause-memories
transcoder-requires-clause-memories c =
    memories_imported c.args.sides c.args.pass.op c.transcoder_of-transcoder.ensures c.requires.from_there c.requires.to_there
    (sides_same ((c.in_ok-put_destination.ensures nowhere no_def no_def).imports ∙ (c.in_ok-put_source.ensures nowhere no_def no_def).imports) c.requires.sides)

pub transcoder-requires-clause-widths : goal.transcoder-requires-clause-widths
transcoder-requires-clause-widths c =
    memories_wide c.args.sides c.args.pass.op c.transcoder_of-transcoder.ensures c.requires.from_there c.requires.to_there
    (sides_same ((c.in_ok-put_destination.ensures nowhere no_def no_def).imports ∙ (c.in_ok-put_source.ensures nowhere no_def no_def).imports) c.requires.sides)

pub returns : goal.returns
returns c =
    passed c.args.pass.op c.args.pass.rest c.args.pass.room c.in_ok-put_source.ensures c.in_ok-put_destination.ensures (transcoder_is c.args.sides c.args.pass.op c.transcoder_of-transcoder.ensures c.in_ok-place.ensures) c.in_ok-put.ensures c.in_ok-take_answer.ensures
