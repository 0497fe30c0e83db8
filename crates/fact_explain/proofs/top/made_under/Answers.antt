use Rattle.fact_explain.proofs.Ended.{with-module}
use Rattle.fact_explain.proofs.top.made_under.Goals as goal

pub returns-in-Ok-bytes_of-clause-made : goal.returns-in-Ok-bytes_of-clause-made
returns-in-Ok-bytes_of-clause-made g c = let made = c.in-Ok-bytes_of.ensures in with-module _ _ _ c.in-Ok.plan made.0 _ c.in-Ok.ensures.plan made.1 made.2
