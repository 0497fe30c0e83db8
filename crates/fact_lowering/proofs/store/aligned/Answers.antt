use Rattle.std.proofs.Common.{◌≡◌, ◌<◌, ◌≤◌, ◌^◌, ℕ, subst, arith, rules}
use Rattle.std.specs.Option.{SomeIff, IfSome, IsNone}
use Rattle.std.specs.declared.option.Option.{Option}
use Rattle.std.specs.declared.option.Option.TheVariants.{Some, None}
use Rattle.fact_types.specs.Layout.{aligned}
use Rattle.fact_types.proofs.AlignLaws.{aligned_by_rest}
use Rattle.fact_lowering.proofs.store.aligned.Goals as goal

value_of : (r : Option ℕ) (m : ℕ) → SomeIff r (m < 2 ^ 64) m → IfSome r (λ n. n ≡ m)
value_of None m h = tt
value_of (Some n) m h = search rules

large_of : (r : Option ℕ) (m : ℕ) → SomeIff r (m < 2 ^ 64) m → IsNone r → 2 ^ 64 ≤ m
large_of None m h g = omega (arith, h)
large_of (Some n) m h g = absurd cc

pub returns-clause-value : goal.returns-clause-value
returns-clause-value c =
    value_of c.checked_add.result (aligned c.args.number c.args.align) (subst (λ m. SomeIff c.checked_add.result (m < 2 ^ 64) m) (aligned_by_rest c.args.number c.args.align c.requires) c.checked_add.ensures)

pub returns-clause-large : goal.returns-clause-large
returns-clause-large c =
    large_of c.checked_add.result (aligned c.args.number c.args.align) (subst (λ m. SomeIff c.checked_add.result (m < 2 ^ 64) m) (aligned_by_rest c.args.number c.args.align c.requires) c.checked_add.ensures)
