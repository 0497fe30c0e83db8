use Rattle.std.proofs.Common.{sym, ap}
use Rattle.std.proofs.lemmas.Result.{on_ok_weaker}
use Rattle.fact_code_laws.specs.StringCode.{amount_code}
use Rattle.fact_emit.specs.StringPaths.{amount_of}
use Rattle.fact_emit.specs.StringPieces.{WroteStringPart, string_move}
use Rattle.fact_emit.proofs.StringParts.{code_as}
use Rattle.fact_emit.proofs.string_code.put_amount.Goals as goal

pub returns-in-SourceUnits : goal.returns-in-SourceUnits
returns-in-SourceUnits c = on_ok_weaker {Q = WroteStringPart c.args.sides c.args.l (λ m. amount_code m (amount_of c.args.amount)) _ _} _ (λ x p d e. code_as (ap (λ a. amount_code (string_move c.args.sides c.args.l p d e) (amount_of a)) (sym c.in-SourceUnits.is)) x) c.put_times.ensures

pub returns-in-WrittenUnits : goal.returns-in-WrittenUnits
returns-in-WrittenUnits c = on_ok_weaker {Q = WroteStringPart c.args.sides c.args.l (λ m. amount_code m (amount_of c.args.amount)) _ _} _ (λ x p d e. code_as (ap (λ a. amount_code (string_move c.args.sides c.args.l p d e) (amount_of a)) (sym c.in-WrittenUnits.is)) x) c.put_times-in-WrittenUnits.ensures
