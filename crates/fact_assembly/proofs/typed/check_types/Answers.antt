use Rattle.fact_assembly.proofs.TypedLaws.{not-found, sound-types}
use Rattle.fact_assembly.proofs.typed.check_types.Goals as goal

pub returns-clause-sound : goal.returns-clause-sound
returns-clause-sound c =
    sound-types c.args.builder.now c.args.number c.args.adapter.now (c.is_typed.ensures.0 c.if-not-is_typed.false) c.reveal_sides.ensures
    (not-found _ c.in_ok-has_bad_type.ensures.exact c.if-branch.false) (not-found _ c.in_ok-has_large_type.ensures.exact c.if-branch-2.false)
    (not-found _ c.has_large_number.ensures c.if-has_large_number.false)
