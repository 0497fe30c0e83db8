use Rattle.std.proofs.Common.{sym, ◌∙◌, ap, arith, ◌++◌, length, length-append}
use Rattle.std.specs.Prelude.{slice_get}
use Rattle.fact_types.specs.FlatShapes.{joined}
use Rattle.fact_builder.specs.Joins.{joined_at, item}
use Rattle.fact_builder.proofs.FlatLaws.{joined_more, item_count, all_taken}
use Rattle.fact_builder.proofs.flat_list.FlatList.joined_with.Goals as goal

pub loop-place-preserved : goal.loop-place-preserved
loop-place-preserved c =
    let first = c.type_at.ensures ∙ (λ i. slice_get (c.as_slice-first.ensures.types i) c.loop-place.place) in
    let second = c.type_at-in-loop-place.ensures ∙ (λ i. slice_get (c.as_slice-second.ensures.types i) c.loop-place.place) in
    let at = c.join_at.ensures ∙ (λ i. joined_at (first i) (second i)) in
    record {
      list = c.push_any.ensures ∙ (λ i. c.loop-place.invariant.list i ++ item (at i)) ∙ sym (joined_more c.args.self.now c.args.others.now c.loop-place.place);
      few = omega (arith, c.loop-place.invariant.few, item_count c.join_at.result, ap length c.push_any.ensures, length-append c.loop-place.all (item c.join_at.result));
    }

pub returns : goal.returns
returns c =
    c.loop-place.invariant.list
    ∙ (λ i. joined (all_taken c.loop-place.place c.args.self.now (omega (arith, c.loop-place-test.false, c.as_slice-first.ensures.few)) i) (all_taken c.loop-place.place c.args.others.now (omega (arith, c.loop-place-test.false, c.as_slice-second.ensures.few)) i))
