use Rattle.std.proofs.Common.{sym, ◌∙◌, length, subst, arith}
use Rattle.std.proofs.lemmas.Result.{err_from_is_err_and}
use Rattle.serde_json.specs.View.{view, items_view}
use Rattle.fact_types.specs.Tuples.{tuple_members}
use Rattle.fact_abi.proofs.BelongLaws.{item_at}
use Rattle.fact_value_json.specs.Reading.{places_in, read_places, values_in}
use Rattle.fact_value_json.proofs.ReadLaws.{places_by, no_places}
use Rattle.fact_value_json.proofs.StepLaws.{same_failed}
use Rattle.fact_value_json.proofs.ValuesLaws.{ValuesRead, no_value_read, value_read, value_failed, all_values_read, have_count}
use Rattle.fact_value_json.proofs.reading.values_in.Goals as goal

pub loop-place-init : goal.loop-place-init
loop-place-init c = λ ss h. subst (λ xs. ValuesRead c.args.types.now c.args.tys.now ss c.in_ok-list.list.now 0 xs) (sym c.new-values.ensures) (no_value_read c.args.types.now c.args.tys.now ss c.in_ok-list.list.now h)

pub loop-place-preserved : goal.loop-place-preserved
loop-place-preserved c = λ ss h.
    value_read (c.loop-place.invariant ss h) (omega (arith, c.loop-place-test.true, c.in_ok-list.ensures.count)) c.index-list-place.result (item_at _ _ _ c.loop-place-test.true c.index-list-place.is) c.read_at.result c.in_ok-read_at.field-0 c.push.new.self c.read_at.ensures c.in_ok-read_at.was c.in_ok-push.ensures.ok

pub returns-in_err-list : goal.returns-in_err-list
unfolding values_in
returns-in_err-list c =
    let p = err_from_is_err_and c.from_residual.result c.from_residual.ensures.1 in
    λ ss h. rw (p.1, p.2) (no_places (length ss) (length c.args.tys.now) (view c.args.json.now) (λ i ds. read_places (tuple_members ss) i ds) c.in_err-list.field-0.0 (sym (have_count c.args.types.now c.args.tys.now ss h)) c.in_err-list.ensures.items)

pub returns-in_err-read_at : goal.returns-in_err-read_at
unfolding values_in
returns-in_err-read_at c =
    let p = err_from_is_err_and c.from_residual-in_err-read_at.result c.from_residual-in_err-read_at.ensures.1 in
    λ ss h. rw (p.1, p.2) (same_failed (places_in (length ss) (λ i ds. read_places (tuple_members ss) i ds) (view c.args.json.now)) (read_places (tuple_members ss) 0 (items_view c.in_ok-list.list.now)) c.in_err-read_at.field-0.0
    (places_by (length ss) (length c.args.tys.now) (view c.args.json.now) (items_view c.in_ok-list.list.now) (λ i ds. read_places (tuple_members ss) i ds) (sym (have_count c.args.types.now c.args.tys.now ss h)) c.in_ok-list.ensures.items)
    (value_failed (c.loop-place.invariant ss h) (omega (arith, c.loop-place-test.true, c.in_ok-list.ensures.count)) c.index-list-place.result (item_at _ _ _ c.loop-place-test.true c.index-list-place.is) c.read_at.result c.in_err-read_at.field-0.0 c.read_at.ensures c.in_err-read_at.was))

pub returns : goal.returns
unfolding values_in
returns c = λ ss h.
    places_by (length ss) (length c.args.tys.now) (view c.args.json.now) (items_view c.in_ok-list.list.now) (λ i ds. read_places (tuple_members ss) i ds) (sym (have_count c.args.types.now c.args.tys.now ss h)) c.in_ok-list.ensures.items
    ∙ all_values_read (omega (arith, c.loop-place-test.false, c.in_ok-list.ensures.count)) (c.loop-place.invariant ss h)
