use Rattle.fact_value_json.proofs.PrintWalkLaws.{NamesPrinted}
use Rattle.fact_value_json.proofs.scalars.names_of_set.Given as goal

abbrev pub invariant-loop-name : goal.invariant-loop-name
invariant-loop-name l = NamesPrinted l.flags l.name-index l.list.items
