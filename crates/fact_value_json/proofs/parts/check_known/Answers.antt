use Rattle.fact_value_json.proofs.ReadLaws.{known_found}
use Rattle.fact_value_json.proofs.parts.check_known.Goals as goal

pub returns-in_ok-unknown_key-in-Some-first_unknown : goal.returns-in_ok-unknown_key-in-Some-first_unknown
returns-in_ok-unknown_key-in-Some-first_unknown c =
    let unknown = known_found c.args.names.now _ c.in-Some.members.now.entries _ c.in-Some.ensures c.in-Some-first_unknown.ensures in
    rw (c.in_ok-unknown_key-in-Some-first_unknown.ensures, c.as_str.ensures.value) unknown

pub returns-in-None : goal.returns-in-None
returns-in-None c =
    known_found c.args.names.now _ c.in-Some.members.now.entries _ c.in-Some.ensures c.in-None.ensures
