use Rattle.std.proofs.Common.{sym, ap, ◌∙◌}
use Rattle.std.proofs.lemmas.Result.{on_ok_weaker}
use Rattle.fact_actions.specs.Transcoders.{transcode_kind}
use Rattle.fact_code_laws.specs.StringCode.{answer_code}
use Rattle.fact_emit.specs.StringPaths.{kind_named}
use Rattle.fact_emit.specs.StringPieces.{WroteStringPart, string_move}
use Rattle.fact_emit.proofs.StringParts.{code_as}
use Rattle.fact_emit.proofs.passes.take_answer.Goals as goal

pub returns-in-AllUnits : goal.returns-in-AllUnits
returns-in-AllUnits c = on_ok_weaker {Q = WroteStringPart c.args.sides c.args.l (λ m. answer_code m (transcode_kind c.args.pass.op) c.args.pass.rest) _ _} _ (λ x p d e. code_as (ap (λ k. answer_code (string_move c.args.sides c.args.l p d e) k c.args.pass.rest) (sym (sym c.kind_of.ensures ∙ ap kind_named c.in-AllUnits.is))) x) c.take_all.ensures

pub returns-in-Counted : goal.returns-in-Counted
returns-in-Counted c = on_ok_weaker {Q = WroteStringPart c.args.sides c.args.l (λ m. answer_code m (transcode_kind c.args.pass.op) c.args.pass.rest) _ _} _ (λ x p d e. code_as (ap (λ k. answer_code (string_move c.args.sides c.args.l p d e) k c.args.pass.rest) (sym (sym c.kind_of.ensures ∙ ap kind_named c.in-Counted.is))) x) c.keep.ensures

pub returns-in-Fitting : goal.returns-in-Fitting
returns-in-Fitting c = on_ok_weaker {Q = WroteStringPart c.args.sides c.args.l (λ m. answer_code m (transcode_kind c.args.pass.op) c.args.pass.rest) _ _} _ (λ x p d e. code_as (ap (λ k. answer_code (string_move c.args.sides c.args.l p d e) k c.args.pass.rest) (sym (sym c.kind_of.ensures ∙ ap kind_named c.in-Fitting.is))) (x p d e)) c.take_fitted.ensures

pub returns-in-Narrow : goal.returns-in-Narrow
returns-in-Narrow c = on_ok_weaker {Q = WroteStringPart c.args.sides c.args.l (λ m. answer_code m (transcode_kind c.args.pass.op) c.args.pass.rest) _ _} _ (λ x p d e. code_as (ap (λ k. answer_code (string_move c.args.sides c.args.l p d e) k c.args.pass.rest) (sym (sym c.kind_of.ensures ∙ ap kind_named c.in-Narrow.is))) x) c.keep_both.ensures

pub returns-in-Tagged : goal.returns-in-Tagged
returns-in-Tagged c = on_ok_weaker {Q = WroteStringPart c.args.sides c.args.l (λ m. answer_code m (transcode_kind c.args.pass.op) c.args.pass.rest) _ _} _ (λ x p d e. code_as (ap (λ k. answer_code (string_move c.args.sides c.args.l p d e) k c.args.pass.rest) (sym (sym c.kind_of.ensures ∙ ap kind_named c.in-Tagged.is))) x) c.keep-in-Tagged.ensures

pub returns-in-Widening : goal.returns-in-Widening
returns-in-Widening c = on_ok_weaker {Q = WroteStringPart c.args.sides c.args.l (λ m. answer_code m (transcode_kind c.args.pass.op) c.args.pass.rest) _ _} _ (λ x p d e. code_as (ap (λ k. answer_code (string_move c.args.sides c.args.l p d e) k c.args.pass.rest) (sym (sym c.kind_of.ensures ∙ ap kind_named c.in-Widening.is))) x) c.keep-in-Widening.ensures
