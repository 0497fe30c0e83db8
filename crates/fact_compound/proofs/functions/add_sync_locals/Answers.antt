use Rattle.std.proofs.Common.{ap, ◌∙◌}
use Rattle.fact_compound.specs.Functions.{unless_passed}
use Rattle.fact_compound.proofs.LocalsAdded.{added_sync}
use Rattle.fact_compound.proofs.functions.add_sync_locals.Goals as goal

pub returns : goal.returns
returns c =
    let args = rw c.as_slice.ensures at c.in_ok-args.ensures in
    let types = c.types_unless_passed.ensures ∙ ap (unless_passed c.args.passed) c.as_slice-2.ensures in
    let core = rw types at c.in_ok-core.ensures in
    let given = rw c.as_slice-3.ensures at c.in_ok-given.ensures in
    let results = rw c.as_slice-4.ensures at c.in_ok-results.ensures in
    added_sync args c.in_ok-saved.ensures c.in_ok-lift_saved.ensures core given c.in_ok-callee_context.ensures results c.in_ok-own_context.ensures
