use Rattle.std.proofs.Common.{[]}
use Rattle.std.specs.Prelude.{flat_map, option_to_list}
use Rattle.std.specs.List.{AllZip}
use Rattle.fact_convert.specs.Converted.{IsTypeFrom}
use Rattle.fact_convert.specs.Tasks.{value_tasks}
use Rattle.fact_convert.proofs.Coming.{comes_none}
use Rattle.fact_convert.proofs.Opening.{comes_named, comes_to}
use Rattle.fact_convert.proofs.funcs.types_of_payload.Goals as goal

pub returns-in-Some : goal.returns-in-Some
returns-in-Some c = comes_named _ _ _ (λ p. flat_map (value_tasks c.args.types.now) (option_to_list p)) (λ p c' ts. AllZip (IsTypeFrom c.args.types.now c') (option_to_list p) ts) _ _ _ c.in-Some.is c.types_of_values.ensures

pub returns-in-None : goal.returns-in-None
returns-in-None c = comes_named _ _ _ (λ p. flat_map (value_tasks c.args.types.now) (option_to_list p)) (λ p c' ts. AllZip (IsTypeFrom c.args.types.now c') (option_to_list p) ts) _ _ _ c.in-None.is (comes_to _ _ _ _ _ _ _ c.new.ensures (comes_none c.args.types.now _ _ [] tt))
