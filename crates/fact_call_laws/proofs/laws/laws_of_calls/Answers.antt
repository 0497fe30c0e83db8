use Rattle.fact_call_laws.proofs.Hosts.{hosts_ask, hosts_carry}
use Rattle.fact_call_laws.proofs.Later.{Laws}
use Rattle.fact_call_laws.proofs.Texts.{reads_whole}
use Rattle.fact_call_laws.proofs.laws.laws_of_calls.Goals as goal

pub returns-clause-carry : goal.returns-clause-carry
returns-clause-carry c = let laws : Laws = record { seen = c.laws_of_seen.ensures; honest = c.laws_of_hosts.ensures; typed = c.laws_of_typed_answers.ensures } in hosts_carry laws reads_whole

pub returns-clause-ask : goal.returns-clause-ask
returns-clause-ask c = let laws : Laws = record { seen = c.laws_of_seen.ensures; honest = c.laws_of_hosts.ensures; typed = c.laws_of_typed_answers.ensures } in hosts_ask laws reads_whole
