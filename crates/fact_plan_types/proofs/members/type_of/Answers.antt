use Rattle.std.proofs.Common.{length}
use Rattle.fact_plan_types.proofs.ShapeLists.{shape-at, below}
use Rattle.fact_plan_types.proofs.members.type_of.Goals as goal

pub returns-in-Entry-clause-shaped : goal.returns-in-Entry-clause-shaped
returns-in-Entry-clause-shaped c =
    λ t ss h. rw c.in-Entry.is (shape-at t c.args.types.now ss _ _ c.in-Entry.k h (below c.in-Entry.k (length c.args.types.now) (rw c.in-Entry.is at c.requires)))
