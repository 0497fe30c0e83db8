use Rattle.std.proofs.Common.{◌∙◌, ◌<◌, arith, length, refl, sym}
use Rattle.std.proofs.lemmas.Option.{slice_get_read}
use Rattle.fact_plan_types.proofs.HandleLaws.{there}
use Rattle.fact_call_mode.specs.Replies.{sort_of_kind}
use Rattle.fact_call_mode.proofs.Counting.{counted_first, one_more, other_kind}
use Rattle.fact_call_mode.proofs.places.place_of.Goals as goal
use Rattle.fact_call_mode.proofs.places.place_of.Goals.{then-is_of_kind+else-is_def, else-is_of_kind}

pub loop-place-init : goal.loop-place-init
loop-place-init c = counted_first (sort_of_kind c.args.kind) c.args.def.now c.args.fused.now.module.imports c.args.fused.now.imports

pub loop-place-preserved : goal.loop-place-preserved
loop-place-preserved c =
    let at = slice_get_read _ _ _ _ refl (rw c.as_slice-import-items.ensures at c.loop-place-test.true) (rw c.as_slice-import-items.ensures at c.import-item.is) in
    let within : c.loop-place.place < length c.args.fused.now.imports = omega (arith, c.requires.even, rw c.as_slice-import-items.ensures at c.loop-place-test.true) in
    elim c.if-is_of_kind.branch [
      | then-is_of_kind+else-is_def w ↦ rw w.number-is
          (one_more (sort_of_kind c.args.kind) c.args.def.now c.args.fused.now.module.imports c.args.fused.now.imports c.loop-place.place c.loop-place.number c.import-item.result w.index-known-place.result at
          (slice_get_read c.args.fused.now.imports (length c.args.fused.now.imports) c.loop-place.place w.index-known-place.result refl within (rw c.as_slice-known.ensures at w.index-known-place.is)) c.loop-place.invariant
          (sym c.is_of_kind.ensures ∙ w.if-is_of_kind.true) (sym w.is_def.ensures ∙ w.if-is_def.false))
      | else-is_of_kind w ↦
          (let found = there c.args.fused.now.imports c.loop-place.place within in
          rw w.number-is
          (other_kind (sort_of_kind c.args.kind) c.args.def.now c.args.fused.now.module.imports c.args.fused.now.imports c.loop-place.place c.loop-place.number c.import-item.result found.0 at found.1 c.loop-place.invariant
          (sym c.is_of_kind.ensures ∙ w.if-is_of_kind.false)))
    ]
