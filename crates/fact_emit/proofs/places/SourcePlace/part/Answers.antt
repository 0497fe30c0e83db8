use Rattle.std.proofs.Common.{ap, sym, ◌∙◌}
use Rattle.fact_code_laws.specs.Places.{InLocals}
use Rattle.fact_emit.specs.Parts.{from_behind}
use Rattle.fact_emit.specs.Places.{from_of, slots_of_locals}
use Rattle.fact_emit.proofs.PartPlaces.{slots_part}
use Rattle.fact_emit.proofs.places.SourcePlace.part.Goals as goal

pub returns-in-Locals : goal.returns-in-Locals
returns-in-Locals c = λ l.
    ap (λ ss. InLocals (slots_of_locals ss)) c.some_locals.ensures ∙ ap InLocals (slots_part c.args.skip c.args.count c.in-Locals.locals.now)
    ∙ ap (λ s. from_behind c.args.skip c.args.count c.args.bytes (from_of l s)) (sym c.in-Locals.is)
