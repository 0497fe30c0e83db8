use Rattle.std.proofs.Common.{sym, ap}
use Rattle.std.proofs.lemmas.Result.{on_ok_weaker}
use Rattle.fact_actions.specs.Transcoders.{Fitting}
use Rattle.fact_code_laws.specs.StringCode.{target_code}
use Rattle.fact_emit.specs.StringPieces.{WroteStringPart, string_move}
use Rattle.fact_emit.proofs.StringParts.{code_as}
use Rattle.fact_emit.proofs.passes.put_room.Goals as goal

pub returns-then-rest : goal.returns-then-rest
returns-then-rest c = on_ok_weaker {Q = WroteStringPart c.args.sides c.args.l (λ m. target_code m Fitting c.args.rest c.args.room) _ _} _ (λ x p d e. code_as (ap (λ r. target_code (string_move c.args.sides c.args.l p d e) Fitting r c.args.room) (sym c.if-rest.true)) (x p d e)) c.put_next_room.ensures

pub returns-else-rest : goal.returns-else-rest
returns-else-rest c = on_ok_weaker {Q = WroteStringPart c.args.sides c.args.l (λ m. target_code m Fitting c.args.rest c.args.room) _ _} _ (λ x p d e. code_as (ap (λ r. target_code (string_move c.args.sides c.args.l p d e) Fitting r c.args.room) (sym c.if-rest.false)) (x p d e)) c.put_first_room.ensures
