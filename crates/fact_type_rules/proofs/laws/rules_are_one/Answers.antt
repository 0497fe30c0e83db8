use Rattle.fact_type_rules.proofs.RuleLaws.{bad_by_shape, large_by_shape, valid_breaks_none}
use Rattle.fact_type_rules.proofs.laws.rules_are_one.Goals as goal

pub returns : goal.returns
returns c = record { valid = valid_breaks_none; bad = bad_by_shape; large = large_by_shape }
