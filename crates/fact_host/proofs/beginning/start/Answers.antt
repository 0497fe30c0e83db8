use Rattle.std.proofs.Common.{◌∙◌}
use Rattle.fact_host.proofs.Outcomes.{callable_by, can_begin}
use Rattle.fact_host.proofs.beginning.start.Goals as goal

pub begin-requires-clause-shaped : goal.begin-requires-clause-shaped
begin-requires-clause-shaped c = (c.requires.callable.0, c.requires.callable.1.shapes)

pub begin-requires-clause-can : goal.begin-requires-clause-can
begin-requires-clause-can c = λ s shapes.
    can_begin c.args.«module».now c.args.types.now c.args.call.now s c.args.args.now c.in_ok-state.state (callable_by c.args.«module».now c.args.types.now c.args.call.now c.requires.callable.0 s c.requires.callable.1 shapes) c.in_ok-state.ensures (c.requires.suited s shapes)

pub returns : goal.returns
returns c = λ s shapes. record {
  before = c.in_ok-state.state;
  first = c.in_ok-state.ensures;
  begun = c.in_ok-begun.ensures s shapes;
  at = record {
    count = c.in_ok-cursors.ensures.count ∙ c.len-count.ensures;
    each = λ n lt. c.in_ok-cursors.ensures.each n (rw (c.len-count.ensures) lt);
  };
}
