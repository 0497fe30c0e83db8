use Rattle.std.proofs.Common.{sym, subst}
use Rattle.std.specs.Prelude.{OnOk}
use Rattle.fact_compound.specs.AsyncParts.{part_locals}
use Rattle.fact_compound.specs.Passed.{MovedPart}
use Rattle.fact_compound.proofs.OptionsImported.{params_imported, results_imported}
use Rattle.fact_compound.proofs.asyncs.move_part.Goals as goal

pub move_params-requires-clause-sides : goal.move_params-requires-clause-sides
move_params-requires-clause-sides c = params_imported c.requires.options_imported

pub move_results-requires-clause-sides : goal.move_results-requires-clause-sides
move_results-requires-clause-sides c = results_imported c.requires.options_imported

pub returns-in-Start : goal.returns-in-Start
returns-in-Start c = subst (λ x. OnOk c.move_params.result (MovedPart c.args.types.now c.args.adapter.now c.args.debug c.args.concurrency x (part_locals c.args.locals) c.args.fuel.now c.move_params.new.fuel c.args.w.now c.move_params.new.w)) (sym c.in-Start.is) c.move_params.ensures

pub returns-in-Return : goal.returns-in-Return
returns-in-Return c = subst (λ x. OnOk c.move_results.result (MovedPart c.args.types.now c.args.adapter.now c.args.debug c.args.concurrency x (part_locals c.args.locals) c.args.fuel.now c.move_results.new.fuel c.args.w.now c.move_results.new.w)) (sym c.in-Return.is) c.move_results.ensures
