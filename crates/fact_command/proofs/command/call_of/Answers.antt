use Rattle.std.proofs.Common.{ap, ◌∙◌, Some, None}
use Rattle.clap.specs.Matches.{found_of}
use Rattle.fact_command.proofs.Words.{call-behind}
use Rattle.fact_command.proofs.command.call_of.Goals as goal

pub returns-in_ok-from_str-in-Some : goal.returns-in_ok-from_str-in-Some
returns-in_ok-from_str-in-Some c =
    ap Some c.in_ok-from_str-in-Some.ensures ∙ call-behind (found_of c.args.matches.now) (Some c.in-Some.name.now) (rw c.in-Some.is at c.get_str.ensures)

pub returns-in-None : goal.returns-in-None
returns-in-None c = call-behind (found_of c.args.matches.now) None (rw c.in-None.is at c.get_str.ensures)
