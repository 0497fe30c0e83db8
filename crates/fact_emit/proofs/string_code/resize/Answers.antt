use Rattle.std.proofs.Common.{◌<◌, subst, sym}
use Rattle.fact_emit.proofs.PathLaws.{align_some}
use Rattle.fact_emit.proofs.StringParts.{resized, resized_at}
use Rattle.fact_emit.proofs.string_code.resize.Goals as goal

pub check_region-requires : goal.check_region-requires
check_region-requires c = subst (λ n. 0 < n) (sym c.written_alignment-align.ensures) (align_some _)

pub returns : goal.returns
returns c =
    resized_at _ _ c.written_alignment-align.ensures (resized _ _ c.requires.sides c.in_ok-put_amount.ensures c.in_ok-put.ensures c.in_ok-put_amount-2.ensures c.in_ok-put-2.ensures c.in_ok-save_context.ensures c.in_ok-put_regrow.ensures
    c.in_ok-restore_context.ensures c.in_ok-from_address.ensures c.in_ok-put-3.ensures c.in_ok-check_region.ensures)
