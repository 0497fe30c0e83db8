use Rattle.std.proofs.Common.{◌∙◌}
use Rattle.std.proofs.lemmas.Result.{on_ok_weaker}
use Rattle.fact_emit.proofs.SidesImported.{sides_on, sides_same}
use Rattle.fact_emit.proofs.StringTexts.{text_put}
use Rattle.fact_emit.proofs.strings.put_text.Goals as goal

pub put_path-put-requires : goal.put_path-put-requires
put_path-put-requires c = record {
  sides = sides_same (c.in_ok-put_zero-3.ensures.imports ∙ c.in_ok-put_zero-2.ensures.imports ∙ c.in_ok-put_zero.ensures.imports) (sides_on c.requires.sides c.in_ok-check_text.ensures.grew);
  limits = c.in_ok-path.ensures.limits;
}

pub returns : goal.returns
returns c = on_ok_weaker _ (text_put _ c.in_ok-path.ensures.is c.in_ok-check_text.ensures c.in_ok-put_zero.ensures c.in_ok-put_zero-2.ensures c.in_ok-put_zero-3.ensures) c.put_path-put.ensures
