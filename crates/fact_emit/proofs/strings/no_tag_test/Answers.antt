use Rattle.std.proofs.Common.{◌∙◌}
use Rattle.fact_emit.proofs.StringTexts.{body_wrote, wrote_aside}
use Rattle.fact_emit.proofs.strings.no_tag_test.Goals as goal

pub returns-clause-is : goal.returns-clause-is
returns-clause-is c = c.into_vec.ensures ∙ body_wrote c.begin-outer.ensures c.in_ok-put_no_tag.ensures c.end-code.ensures

pub returns-clause-aside : goal.returns-clause-aside
returns-clause-aside c = wrote_aside c.begin-outer.ensures c.in_ok-put_no_tag.ensures c.end-code.ensures
