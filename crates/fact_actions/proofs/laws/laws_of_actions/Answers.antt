use Rattle.fact_actions.proofs.Binds.{binds_associate, binds_run}
use Rattle.fact_actions.proofs.Follows.{runs_follow}
use Rattle.fact_actions.proofs.Names.{are_named}
use Rattle.fact_actions.proofs.laws.laws_of_actions.Goals as goal

pub returns : goal.returns
returns c c' = record {
  binds_associate = λ q f g. binds_associate q f g;
  binds_run = λ p q f w. binds_run p q f w;
  runs_follow = λ p q w. runs_follow p q w;
  runs_are_named = λ p g q w t. are_named p g q w t;
}
