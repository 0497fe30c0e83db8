use Rattle.std.proofs.Common.{ap, sym, ◌∙◌}
use Rattle.fact_code_laws.specs.Places.{ToLocals, to_past}
use Rattle.fact_emit.specs.Places.{to_of, slots_of_locals}
use Rattle.fact_emit.proofs.PartPlaces.{slots_drop}
use Rattle.fact_emit.proofs.places.TargetPlace.past.Goals as goal

pub returns-in-Locals : goal.returns-in-Locals
returns-in-Locals c = λ l.
    ap (λ ss. ToLocals (slots_of_locals ss)) c.locals_behind.ensures ∙ ap ToLocals (slots_drop c.args.skip c.in-Locals.locals.now)
    ∙ ap (λ t. to_past c.args.skip (to_of l t)) (sym c.in-Locals.is)
