use Rattle.std.proofs.Common.{refl}
use Rattle.fact_host.proofs.Answering.{lift_answers, lower_answers, transcoder_answers}
use Rattle.fact_host.proofs.answers.answered.Goals as goal

pub returns-in-LiftRealloc-clause-answers : goal.returns-in-LiftRealloc-clause-answers
returns-in-LiftRealloc-clause-answers c =
    lift_answers c.reallocates.result c.args.known.now c.reallocates.new.known c.args.call.now c.args.role _ c.args.args.now c.args.state.now c.in-LiftRealloc.is refl c.reallocates.ensures.answers

pub returns-in-LowerRealloc-clause-answers : goal.returns-in-LowerRealloc-clause-answers
returns-in-LowerRealloc-clause-answers c =
    lower_answers c.reallocates-in-LowerRealloc.result c.args.known.now c.reallocates-in-LowerRealloc.new.known c.args.call.now c.args.role c.args.args.now c.args.state.now c.in-LowerRealloc.is c.reallocates-in-LowerRealloc.ensures.answers

pub returns-in-Transcoder-clause-answers : goal.returns-in-Transcoder-clause-answers
returns-in-Transcoder-clause-answers c =
    transcoder_answers c.transcodes.result c.args.known.now c.args.call.now c.args.role c.in-Transcoder.op c.in-Transcoder.from c.in-Transcoder.from64 c.in-Transcoder.to c.in-Transcoder.to64 c.args.args.now c.args.state.now c.in-Transcoder.is c.transcodes.ensures
