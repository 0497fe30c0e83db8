use Rattle.std.proofs.Common.{subst}
use Rattle.fact_types.specs.Tables.{HasShape}
use Rattle.fact_type_rules.proofs.EntryLaws.{map-entry}
use Rattle.fact_type_rules.proofs.rules.reveal_entry.Goals as goal

pub returns-in-Map : goal.returns-in-Map
returns-in-Map c = λ s h.
    map-entry _ c.reveal.ensures.sound _ c.index.result.now c.index.ensures c.reveal_layout.ensures s
    (subst (λ ty. HasShape c.args.types.now ty s) c.in-Map.is h)
