use Rattle.std.proofs.Common.{◌≤◌, ℕ, subst, sym}
use Rattle.fact_compound.proofs.Flats.{lower_limit_small}
use Rattle.fact_compound.proofs.tuples.are_flat_params.Goals as goal

pub are_flat_values-requires-clause-small : goal.are_flat_values-requires-clause-small
are_flat_values-requires-clause-small c = subst (λ (n : ℕ). n ≤ 16) (sym c.lower_limit.ensures) (lower_limit_small c.args.async_)
