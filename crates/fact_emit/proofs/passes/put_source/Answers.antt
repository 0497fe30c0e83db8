use Rattle.std.proofs.Common.{sym, ap}
use Rattle.std.proofs.lemmas.Result.{on_ok_weaker}
use Rattle.fact_code_laws.specs.StringCode.{source_code}
use Rattle.fact_emit.specs.StringPieces.{WroteStringPart, string_move}
use Rattle.fact_emit.proofs.StringParts.{code_as}
use Rattle.fact_emit.proofs.passes.put_source.Goals as goal

pub returns-then-rest : goal.returns-then-rest
returns-then-rest c = on_ok_weaker {Q = WroteStringPart c.args.sides c.args.l (λ m. source_code m c.args.op c.args.rest) _ _} _ (λ x p d e. code_as (ap (λ r. source_code (string_move c.args.sides c.args.l p d e) c.args.op r) (sym c.if-rest.true)) (x p d e)) c.put_rest.ensures

pub returns-else-rest : goal.returns-else-rest
returns-else-rest c = on_ok_weaker {Q = WroteStringPart c.args.sides c.args.l (λ m. source_code m c.args.op c.args.rest) _ _} _ (λ x p d e. code_as (ap (λ r. source_code (string_move c.args.sides c.args.l p d e) c.args.op r) (sym c.if-rest.false)) x) c.put_whole.ensures
