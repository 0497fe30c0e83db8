use Rattle.std.proofs.Common.{◌↔◌, Bool, IsTrue, subst, sym}
use Rattle.std.specs.Int.{IsPowerOfTwo}
use Rattle.fact_types.proofs.PowerLaws.{power_tells}
use Rattle.fact_types.proofs.extents.is_power.Goals as goal

pub returns : goal.returns
returns c = subst (λ (b : Bool). IsTrue b ↔ IsPowerOfTwo c.args.number) (sym c.is_power_of_two.ensures) (power_tells c.args.number)
