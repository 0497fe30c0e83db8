use Rattle.fact_compound.specs.AsyncParts.{part_locals}
use Rattle.fact_compound.proofs.AsyncBodies.{emits_part_by}
use Rattle.fact_compound.proofs.OptionsImported.{options_same}
use Rattle.fact_compound.proofs.asyncs.put_part.Goals as goal

pub move_part-requires-clause-options_imported : goal.move_part-requires-clause-options_imported
move_part-requires-clause-options_imported c = options_same c.in_ok-hold_flags.ensures.imports c.requires.options_imported

pub returns : goal.returns
returns c = emits_part_by c.args.part (part_locals c.args.locals) c.part_flags-flags.ensures c.in_ok-hold_flags.ensures c.in_ok-move_part.ensures c.in_ok-restore_flags.ensures c.in_ok-push_locals.ensures
