-- What was said of the tables and the resources of an opened builder, to a closure or by it, holds of those of the builder.
use Rattle.std.proofs.Common.{◌≡◌, subst}
use Rattle.std.specs.Prelude.{Result, OnOk, OnErr}
use Rattle.fact_types.specs.Tables.{Tables}
use Rattle.fact_builder.specs.Known.{KnownResources}
use Rattle.fact_builder.specs.Builder.{Builder}

pub told_all : {A E : Type 0} (P : Tables → KnownResources → Type 0) (a z : Builder) → a ≡ z → (t : Tables) (r : Result A E) → t ≡ a.tables → OnOk r (P t a.resources) → OnOk r (P z.tables z.resources)
told_all P a z e t r q h = subst (λ (y : Builder). OnOk r (P y.tables y.resources)) e (subst (λ (u : Tables). OnOk r (P u a.resources)) q h)

pub told_first : {A E : Type 0} (P : Tables → KnownResources → Type 0) (a z : Builder) → a ≡ z → (t : Tables) (r : Result A E) → t ≡ a.tables → OnErr r (P t a.resources) → OnErr r (P z.tables z.resources)
told_first P a z e t r q h = subst (λ (y : Builder). OnErr r (P y.tables y.resources)) e (subst (λ (u : Tables). OnErr r (P u a.resources)) q h)
