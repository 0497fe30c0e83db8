use Rattle.std.proofs.Common.{◌∙◌}
use Rattle.fact_emit.proofs.StringParts.{no_def, nowhere}
use Rattle.fact_emit.proofs.StringTexts.{body_wrote, wrote_aside}
use Rattle.fact_emit.proofs.string_code.test_of.Goals as goal

pub returns-clause-is : goal.returns-clause-is
returns-clause-is c = record { is = λ p d e. c.into_vec.ensures ∙ body_wrote c.begin-outer.ensures (c.in_ok-put_test.ensures p d e) c.end-code.ensures }

pub returns-clause-aside : goal.returns-clause-aside
returns-clause-aside c = wrote_aside c.begin-outer.ensures (c.in_ok-put_test.ensures nowhere no_def no_def) c.end-code.ensures
