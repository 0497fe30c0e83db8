use Rattle.std.proofs.Common.{◌∙◌, Some, None}
use Rattle.clap.specs.Matches.{found_of}
use Rattle.fact_command.proofs.Words.{fuel}
use Rattle.fact_command.proofs.command.fuel_of.Goals as goal

pub returns-in-Some : goal.returns-in-Some
returns-in-Some c =
    c.number_in.ensures ∙ fuel (found_of c.args.matches.now) (Some c.in-Some.text.now) (rw c.in-Some.is at c.get_str.ensures)

pub returns-in-None : goal.returns-in-None
returns-in-None c = fuel (found_of c.args.matches.now) None (rw c.in-None.is at c.get_str.ensures)
