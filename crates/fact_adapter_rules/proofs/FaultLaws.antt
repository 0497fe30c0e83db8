-- A plan has at most one first fault, and one without faults has none.
use Rattle.std.proofs.Common.{◌≡◌, ap}
use Rattle.fact_plan.specs.declared.plan.FusePlan.{FusePlan}
use Rattle.fact_plan_types.specs.declared.error.Place.{Place}
use Rattle.fact_plan_types.specs.declared.error.Place.TheVariants.{TypeEntry, Func, Adapter}
use Rattle.fact_plan_types.specs.Faults.{Fault}
use Rattle.fact_adapter_rules.specs.FirstFault.{IsFaultlessPlan, IsFirstAt}
use Rattle.fact_adapter_rules.proofs.FirstLaws.{one-entry}

pub faultless-first : (p : FusePlan) (f : Fault) (place : Place) → IsFaultlessPlan p → IsFirstAt p f place → ⊥
faultless-first p f (TypeEntry k) h first = h.types.types k f first.has
faultless-first p f (Func k) h first = h.types.funcs k f first.1.has
faultless-first p f (Adapter k) h first = h.adapters k f first.1.has

pub one-first : (p : FusePlan) (f g : Fault) (x y : Place) → IsFirstAt p f x → IsFirstAt p g y → (f ≡ g) × (x ≡ y)
one-first p f g (TypeEntry j) (TypeEntry k) a b = let e = one-entry _ j k f g a b in (e.0, ap TypeEntry e.1)
one-first p f g (TypeEntry j) (Func k) a b = absurd (b.0 j f a.has)
one-first p f g (TypeEntry j) (Adapter k) a b = absurd (b.0.types j f a.has)
one-first p f g (Func j) (TypeEntry k) a b = absurd (a.0 k g b.has)
one-first p f g (Func j) (Func k) a b = let e = one-entry _ j k f g a.1 b.1 in (e.0, ap Func e.1)
one-first p f g (Func j) (Adapter k) a b = absurd (b.0.funcs j f a.1.has)
one-first p f g (Adapter j) (TypeEntry k) a b = absurd (a.0.types k g b.has)
one-first p f g (Adapter j) (Func k) a b = absurd (a.0.funcs k g b.1.has)
one-first p f g (Adapter j) (Adapter k) a b = let e = one-entry _ j k f g a.1 b.1 in (e.0, ap Adapter e.1)
