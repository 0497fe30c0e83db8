use Rattle.std.proofs.Common.{◌∙◌, length, refl}
use Rattle.std.proofs.lemmas.Option.{slice_get_past, slice_get_read}
use Rattle.fact_host.proofs.Answering.{nth_none, nth_there}
use Rattle.fact_host.proofs.answers.number_at.Goals as goal

pub returns-in-Some : goal.returns-in-Some
returns-in-Some c =
    c.number_of_core.ensures ∙ nth_there c.args.args.now c.args.place c.in-Some.value.now (slice_get_read c.args.args.now (length c.args.args.now) c.args.place c.in-Some.value.now refl c.in-Some.ensures.lookup.3.0 c.in-Some.ensures.lookup.1)

pub returns-in-None : goal.returns-in-None
returns-in-None c = nth_none c.args.args.now c.args.place (slice_get_past c.args.args.now c.args.place c.in-None.ensures.lookup.3)
