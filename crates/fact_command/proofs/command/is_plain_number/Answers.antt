use Rattle.std.proofs.Common.{◌∙◌}
use Rattle.fact_command.proofs.Words.{plain-of}
use Rattle.fact_command.proofs.command.is_plain_number.Goals as goal

pub returns-then-first-ne48 : goal.returns-then-first-ne48
returns-then-first-ne48 c = c.are_digits.ensures ∙ plain-of c.args.text.now c.in-len1-up.len_at_least c.if-first-ne48.true
