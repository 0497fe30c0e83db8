use Rattle.std.proofs.Common.{slice_get, ap, ◌∙◌}
use Rattle.fact_emit.specs.contracts.imported.ImportedItemEq.TheImpl.Laws.{laws-law}
use Rattle.fact_emit.proofs.ExactItems.{exact_item}
use Rattle.fact_emit.proofs.ImportLists.{interned-at}
use Rattle.fact_emit.proofs.sections.find_or_add.Goals as goal

pub returns-in-Some-clause-place : goal.returns-in-Some-clause-place
returns-in-Some-clause-place g c = ap (slice_get c.args.items.now) c.as_u32.ensures ∙ interned-at _ exact_item laws-law.refl _ _ _ _ c.in-Some.ensures.interned
