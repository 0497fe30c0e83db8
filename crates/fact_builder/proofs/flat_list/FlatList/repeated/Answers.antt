use Rattle.std.proofs.Common.{sym, ◌∙◌, ap, arith, ◌++◌, length, length-append}
use Rattle.std.specs.Prelude.{Some}
use Rattle.fact_types.specs.FlatShapes.{times, upto}
use Rattle.fact_builder.proofs.FlatLaws.{times_longer, times_nothing, beyond, none_beyond, taken_length}
use Rattle.fact_builder.proofs.flat_list.FlatList.repeated.Goals as goal

pub returns-then-self-eq0 : goal.returns-then-self-eq0
returns-then-self-eq0 c =
    let none = ap length (sym c.self.view_is) ∙ taken_length c.self.inside.len c.self.inside.types c.if-self-eq0.true in
    ap Some c.new-all.ensures ∙ (λ i. upto 16 (sym (times_nothing c.args.count c.args.self.now none) i))

pub returns-in_err-all : goal.returns-in_err-all
returns-in_err-all c =
    let long = none_beyond (c.args.self.now ++ times c.loop.counter c.args.self.now) ((λ i. upto 16 (c.args.self.now ++ sym (c.as_slice.ensures.types ∙ c.loop.invariant.list) i)) ∙ sym c.followed_by.ensures ∙ c.in_err-all.was) in
    c.from_residual.ensures
    ∙ sym (beyond (times c.args.count c.args.self.now) (omega (arith, long, length-append c.args.self.now (times c.loop.counter c.args.self.now), times_longer c.args.self.now c.loop.counter c.args.count c.loop-test.true)))
