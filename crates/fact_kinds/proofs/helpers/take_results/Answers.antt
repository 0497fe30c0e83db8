use Rattle.std.proofs.Common.{ap, ◌∙◌}
use Rattle.std.proofs.lemmas.Result.{on_ok_weaker}
use Rattle.fact_emit.specs.Places.{to_of}
use Rattle.fact_kinds.proofs.HelperCodes.{took_given, took_none}
use Rattle.fact_kinds.proofs.helpers.take_results.Goals as goal

pub returns-in_ok-flats-in-Locals : goal.returns-in_ok-flats-in-Locals
returns-in_ok-flats-in-Locals c =
    on_ok_weaker c.set_all_widened.result (λ w. took_given _ (ap (to_of c.args.linear) c.in-Locals.is) (λ u h. c.as_slice.ensures ∙ c.in_ok-flats-in-Locals.ensures u h) w) c.set_all_widened.ensures

pub returns-in-Memory : goal.returns-in-Memory
returns-in-Memory c = took_none _ _ _ (ap (to_of c.args.linear) c.in-Memory.is)
