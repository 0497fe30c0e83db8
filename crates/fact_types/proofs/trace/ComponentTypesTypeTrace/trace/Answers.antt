use Rattle.std.proofs.Common.{◌≡◌, sym, ap, ◌∙◌, arith}
use Rattle.std.specs.Prelude.{Some, slice_get}
use Rattle.fact_types.specs.Traces.{module_indices}
use Rattle.fact_types.proofs.TraceLaws.{visited_next, visited_stop, some_below, item_at}
use Rattle.fact_types.proofs.trace.ComponentTypesTypeTrace.trace.Given as given
use Rattle.fact_types.proofs.trace.ComponentTypesTypeTrace.trace.Goals as goal

pub returns-in_err-trace-clause-visits : goal.returns-in_err-trace-clause-visits
returns-in_err-trace-clause-visits g c =
    let ms = c.args.self.now.modules in
    let i = c.loop-i.i in
    let m = c.index.result.now in
    let at : slice_get ms i ≡ Some m = sym (ap (λ t. slice_get t.modules i) c.self.view_is) ∙ ap (slice_get c.self.inside.modules) (sym (ap (λ k. k.number) c.from_u32.ensures)) ∙ c.index.ensures in
    visited_stop (given.F-step g) module_indices c.args.func.now ms c.loop-i.func c.trace.new.func i m m c.in_err-trace.field-0.0 c.from_residual.result (some_below ms i m at) (item_at ms i m at) (grind arith) c.loop-i.invariant.1 c.in_err-trace.ensures.visits

pub loop-i-preserved : goal.loop-i-preserved
loop-i-preserved g c =
    let ms = c.args.self.now.modules in
    let i = c.loop-i.i in
    let m = c.index.result.now in
    let at : slice_get ms i ≡ Some m = sym (ap (λ t. slice_get t.modules i) c.self.view_is) ∙ ap (slice_get c.self.inside.modules) (sym (ap (λ k. k.number) c.from_u32.ensures)) ∙ c.index.ensures in
    (c.in_ok-trace.ensures.callable, visited_next (given.F-step g) module_indices c.args.func.now ms c.loop-i.func c.trace.new.func i m m (some_below ms i m at) (item_at ms i m at) c.loop-i.invariant.1 c.in_ok-trace.ensures.visits)
