use Rattle.std.proofs.Common.{[], ◌∷◌, sym, ap, ◌∙◌}
use Rattle.std.specs.Prelude.{unwrap_or}
use Rattle.fact_kinds.proofs.helpers.flat_types.Goals as goal

pub returns-in-Some : goal.returns-in-Some
returns-in-Some c = λ s h. ap (λ o. unwrap_or o []) (sym c.in-Some.is ∙ c.in_ok-flats.ensures (s ∷ []) (h, tt))

pub returns-in-None : goal.returns-in-None
returns-in-None c = λ s h. c.new.ensures ∙ ap (λ o. unwrap_or o []) (sym c.in-None.is ∙ c.in_ok-flats.ensures (s ∷ []) (h, tt))
