use Rattle.std.proofs.Common.{ap, sym, ◌∙◌, Some, None}
use Rattle.std.specs.Prelude.{option_map}
use Rattle.clap.specs.Matches.{found_of}
use Rattle.fact_command.proofs.Words.{generated-behind}
use Rattle.fact_command.proofs.command.generated_of.Goals as goal

pub returns-in_ok-number_in-in-Some : goal.returns-in_ok-number_in-in-Some
returns-in_ok-number_in-in-Some c =
    ap (option_map Some) (sym c.in_ok-number_in-in-Some.was ∙ c.number_in.ensures) ∙ generated-behind (found_of c.args.matches.now) (Some c.in-Some.text.now) (rw c.in-Some.is at c.get_str.ensures)

pub returns-in_err-number_in-in-Some : goal.returns-in_err-number_in-in-Some
returns-in_err-number_in-in-Some c =
    c.from_residual.ensures ∙ ap (option_map Some) (sym c.in_err-number_in-in-Some.was ∙ c.number_in.ensures)
    ∙ generated-behind (found_of c.args.matches.now) (Some c.in-Some.text.now) (rw c.in-Some.is at c.get_str.ensures)

pub returns-in-None : goal.returns-in-None
returns-in-None c = generated-behind (found_of c.args.matches.now) None (rw c.in-None.is at c.get_str.ensures)
