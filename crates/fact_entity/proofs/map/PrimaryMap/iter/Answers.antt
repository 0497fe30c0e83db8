use Rattle.std.proofs.Common.{length, ap, ◌∙◌}
use Rattle.std.proofs.iter.runs.Sources.{from_front}
use Rattle.std.specs.Map.Iter.{TakesFirst}
use Rattle.fact_entity.specs.Entries.{shown}
use Rattle.fact_entity.proofs.Entries.{length-entries_from}
use Rattle.fact_entity.proofs.map.PrimaryMap.iter.Goals as goal

pub returns-clause-count : goal.returns-clause-count
returns-clause-count g c = ap length c.new.ensures ∙ length-entries_from g.K.EntityRef.key 0 _ ∙ ap length (c.as_slice.ensures.value ∙ c.self.view_is)

pub returns-clause-runs : goal.returns-clause-runs
returns-clause-runs g c = from_front (TakesFirst shown) shown (λ s. s) (λ s t h. ap length h.0) (λ s x t h. h)
