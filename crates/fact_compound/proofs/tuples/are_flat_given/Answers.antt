use Rattle.std.proofs.Common.{◌≤◌, ℕ, subst, sym}
use Rattle.fact_compound.proofs.Flats.{lift_results_small}
use Rattle.fact_compound.proofs.tuples.are_flat_given.Goals as goal

pub are_flat_values-requires-clause-small : goal.are_flat_values-requires-clause-small
are_flat_values-requires-clause-small c = subst (λ (n : ℕ). n ≤ 16) (sym c.lift_results_limit.ensures) (lift_results_small c.args.async_)
