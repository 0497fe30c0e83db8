use Rattle.std.proofs.Common.{◌<◌, subst, sym}
use Rattle.fact_emit.proofs.PathLaws.{form_align_some}
use Rattle.fact_emit.proofs.StringTexts.{text_checked}
use Rattle.fact_emit.proofs.strings.check_text.Goals as goal

pub check_region-requires : goal.check_region-requires
check_region-requires c = subst (λ n. 0 < n) (sym c.alignment-align.ensures) (form_align_some _)

pub returns : goal.returns
returns c = text_checked _ c.unit_bytes.ensures c.alignment-align.ensures c.in_ok-put_times.ensures c.in_ok-put.ensures c.in_ok-check_region.ensures
