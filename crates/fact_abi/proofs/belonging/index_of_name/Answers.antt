use Rattle.std.proofs.Common.{ℕ, List, subst}
use Rattle.fact_abi.specs.Finding.{IsIndexOf}
use Rattle.fact_abi.proofs.belonging.index_of_name.Goals as goal

pub returns : goal.returns
returns c = subst (λ (x : List ℕ). IsIndexOf x c.args.names.now c.index_of_str.result) c.as_str.ensures c.index_of_str.ensures
