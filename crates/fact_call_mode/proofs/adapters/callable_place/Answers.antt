use Rattle.std.proofs.Common.{◌∙◌, refl, sym}
use Rattle.std.proofs.lemmas.Option.{slice_get_read}
use Rattle.fact_call_mode.proofs.FoundLaws.{found_at, none_found, sought_first, sought_past}
use Rattle.fact_call_mode.proofs.adapters.callable_place.Goals as goal

pub loop-k-init : goal.loop-k-init
loop-k-init c = sought_first c.args.plan.now c.args.name.now

pub returns-then-is_named : goal.returns-then-is_named
returns-then-is_named c =
    found_at c.args.plan.now c.args.name.now c.loop-k.k c.adapter-item.result c.requires
    (slice_get_read _ _ _ _ refl (rw c.as_slice-adapter-items.ensures at c.loop-k-test.true) (rw c.as_slice-adapter-items.ensures at c.adapter-item.is))
    c.loop-k.invariant (sym c.is_named.ensures ∙ c.if-is_named.true)

pub loop-k-preserved : goal.loop-k-preserved
loop-k-preserved c =
    sought_past c.args.plan.now c.args.name.now c.loop-k.k c.adapter-item.result c.requires
    (slice_get_read _ _ _ _ refl (rw c.as_slice-adapter-items.ensures at c.loop-k-test.true) (rw c.as_slice-adapter-items.ensures at c.adapter-item.is))
    c.loop-k.invariant (sym c.is_named.ensures ∙ c.if-is_named.false)

pub returns : goal.returns
returns c = none_found c.args.plan.now c.args.name.now c.loop-k.k (rw c.as_slice-adapter-items.ensures at c.loop-k-test.false) c.loop-k.invariant
