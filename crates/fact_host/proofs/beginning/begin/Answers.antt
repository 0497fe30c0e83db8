use Rattle.std.proofs.Common.{◌≡◌, ◌∙◌, ap, subst, sym}
use Rattle.fact_types.specs.Functions.{HaveShapes}
use Rattle.fact_lowering.specs.TupleSteps.{IsTupleLowerable}
use Rattle.fact_host.specs.Hosts.{left_state}
use Rattle.fact_host.specs.Rules.{AreWrittenBytes}
use Rattle.fact_host.proofs.Starting.{area_storable, arguments_lowerable, begun, never_lacks}
use Rattle.fact_host.proofs.beginning.begin.Goals as goal

pub lower_tuple-requires-clause-lowerable : goal.lower_tuple-requires-clause-lowerable
lower_tuple-requires-clause-lowerable c =
    let s = c.requires.shaped.0 in
    let shapes = c.requires.shaped.1 in
    let store = c.in_ok-store.store in
    subst (λ tys. IsTupleLowerable c.args.types.now c.args.call.now.lower.abi tys c.args.args.now store.cursor store.bytes.items) (sym c.as_slice-params.ensures)
    (arguments_lowerable c.args.call.now s c.args.args.now c.args.state.now (c.requires.can s shapes) c.args.types.now store.cursor store.bytes.items shapes c.in_ok-store.ensures.cursor (c.in_ok-store.ensures.bytes ∙ c.memory_of.ensures))

pub unreachable-requires : goal.unreachable-requires
unreachable-requires c =
    let s = c.requires.shaped.0 in
    let shapes = c.requires.shaped.1 in
    let store = c.in_ok-store.store in
    let have = subst (λ tys. HaveShapes c.args.types.now tys s.lower_params) (sym c.as_slice-params.ensures) shapes.lower_params in
    let lacks = rw c.in_default.is at (c.in_ok-core.ensures s.lower_params have) in
    never_lacks c.args.call.now s c.args.args.now c.args.state.now (c.requires.can s shapes) store.cursor store.bytes.items c.in_ok-store.ensures.cursor (c.in_ok-store.ensures.bytes ∙ c.memory_of.ensures) lacks

pub with_area-requires-clause-can : goal.with_area-requires-clause-can
with_area-requires-clause-can c =
    let s = c.requires.shaped.0 in
    let shapes = c.requires.shaped.1 in
    let store = c.in_ok-store.store in
    let low = c.lower_tuple.new.store in
    let have = subst (λ tys. HaveShapes c.args.types.now tys s.lower_params) (sym c.as_slice-params.ensures) shapes.lower_params in
    let lowered = rw c.in-Some.is at (c.in_ok-core.ensures s.lower_params have) in
    area_storable c.args.call.now s c.args.args.now c.args.state.now (c.requires.can s shapes) c.in-Some.core store.bytes.items low.bytes.items store.cursor low.cursor (c.in_ok-store.ensures.bytes ∙ c.memory_of.ensures) lowered

pub returns : goal.returns
returns c = λ s shapes.
    let store = c.in_ok-store.store in
    let low = c.lower_tuple.new.store in
    let high = c.with_area.new.store in
    let have = subst (λ tys. HaveShapes c.args.types.now tys s.lower_params) (sym c.as_slice-params.ensures) shapes.lower_params in
    let results = subst (λ tys. HaveShapes c.args.types.now tys s.lower_results) (sym c.as_slice.ensures) shapes.lower_results in
    let lowered = rw c.in-Some.is at (c.in_ok-core.ensures s.lower_params have) in
    let same : high.bytes.items ≡ low.bytes.items = ap (λ v. v.items) c.with_area.ensures.bytes in
    begun c.args.call.now s c.args.args.now c.args.state.now (c.requires.can s shapes) c.in-Some.core c.in_ok-args.args store.bytes.items store.cursor low.cursor high.cursor low.bytes.items c.in_ok-state.state c.in_ok-store.ensures.cursor
    (c.in_ok-store.ensures.bytes ∙ c.memory_of.ensures) lowered (subst AreWrittenBytes same c.with_bytes.ensures.bytes) (c.in_ok-args.ensures.area s.lower_results results)
    (c.in_ok-state.ensures.state ∙ ap (left_state c.args.call.now.lower.memory c.args.state.now) same)
