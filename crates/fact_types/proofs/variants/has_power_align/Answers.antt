use Rattle.std.proofs.Common.{◌↔◌, IsTrue, Option, subst, sym}
use Rattle.std.specs.Prelude.{IfSome}
use Rattle.std.specs.Int.{IsPowerOfTwo}
use Rattle.fact_types.specs.declared.abi.CanonicalAbiInfo.{CanonicalAbiInfo}
use Rattle.fact_types.specs.declared.extents.Extent.{Extent}
use Rattle.fact_types.specs.Layout.{extent}
use Rattle.fact_types.proofs.variants.has_power_align.Goals as goal

pub returns-in-Some : goal.returns-in-Some
returns-in-Some c =
    subst (λ (o : Option CanonicalAbiInfo). IsTrue c.is_power.result ↔ IfSome o (λ p. IsPowerOfTwo (extent c.args.width p).align)) (sym c.in-Some.is)
    (subst (λ (e : Extent). IsTrue c.is_power.result ↔ IsPowerOfTwo e.align) c.extent.ensures c.is_power.ensures)
