use Rattle.std.proofs.Common.{[], false, subst}
use Rattle.fact_types.specs.Tables.{IsSound, Tables}
use Rattle.fact_assembly.proofs.TakeLaws.{sides-of}
use Rattle.fact_assembly.proofs.typed.reveal_sides.Goals as goal

pub returns : goal.returns
returns c =
    let sound = subst (λ (t : Tables). IsSound t) c.component_types.ensures c.reveal-2.ensures.sound in
    let (a, sides, _, _) = sides-of c.args.builder.now sound c.args.adapter.now [] false c.requires in
    (a, sides)
