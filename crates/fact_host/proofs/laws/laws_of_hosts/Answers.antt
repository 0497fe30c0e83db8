use Rattle.fact_host.proofs.Honest.{law}
use Rattle.fact_host.proofs.laws.laws_of_hosts.Goals as goal

pub returns : goal.returns
returns c = law
