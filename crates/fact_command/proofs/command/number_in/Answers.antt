use Rattle.std.proofs.Common.{ap, arith, ◌∙◌, sym, true, ◌≡◌}
use Rattle.fact_command.specs.Command.{is_plain_number}
use Rattle.fact_command.proofs.Words.{parsed, too-large}
use Rattle.fact_command.proofs.command.number_in.Goals as goal

pub returns-in_default : goal.returns-in_default
returns-in_default c =
    let plain : is_plain_number c.args.text.now ≡ true = ap is_plain_number (sym c.as_bytes.ensures.value) ∙ sym c.is_plain_number.ensures ∙ c.if-not-is_plain_number.false in
    too-large c.args.least c.args.most c.args.text.now (omega arith) plain (rw c.in_default.is at (parsed c.args.text.now c.parse.result plain c.parse.ensures.value.0))
