use Rattle.std.proofs.Common.{ap, sym, ◌∙◌}
use Rattle.fact_code_laws.specs.Places.{ToLocals}
use Rattle.fact_emit.specs.Parts.{to_behind}
use Rattle.fact_emit.specs.Places.{to_of, slots_of_locals}
use Rattle.fact_emit.proofs.PartPlaces.{slots_part}
use Rattle.fact_emit.proofs.places.TargetPlace.part.Goals as goal

pub returns-in-Locals : goal.returns-in-Locals
returns-in-Locals c = λ l.
    ap (λ ss. ToLocals (slots_of_locals ss)) c.some_locals.ensures ∙ ap ToLocals (slots_part c.args.skip c.args.count c.in-Locals.locals.now)
    ∙ ap (λ t. to_behind c.args.skip c.args.count c.args.bytes (to_of l t)) (sym c.in-Locals.is)
