use Rattle.std.proofs.Common.{sym, ap}
use Rattle.std.proofs.lemmas.Result.{on_ok_weaker}
use Rattle.fact_code_laws.specs.StringCode.{test_code}
use Rattle.fact_emit.specs.StringPaths.{path_test_of}
use Rattle.fact_emit.specs.StringPieces.{WroteStringPart, string_move}
use Rattle.fact_emit.proofs.StringParts.{code_as}
use Rattle.fact_emit.proofs.string_code.put_test.Goals as goal

pub returns-in-AllRead : goal.returns-in-AllRead
returns-in-AllRead c = on_ok_weaker {Q = WroteStringPart c.args.sides c.args.l (λ m. test_code m (path_test_of c.args.test)) _ _} _ (λ x p d e. code_as (ap (λ t. test_code (string_move c.args.sides c.args.l p d e) (path_test_of t)) (sym c.in-AllRead.is)) x) c.put_equal.ensures

pub returns-in-WrittenIs : goal.returns-in-WrittenIs
returns-in-WrittenIs c = on_ok_weaker {Q = WroteStringPart c.args.sides c.args.l (λ m. test_code m (path_test_of c.args.test)) _ _} _ (λ x p d e. code_as (ap (λ t. test_code (string_move c.args.sides c.args.l p d e) (path_test_of t)) (sym c.in-WrittenIs.is)) x) c.put_multiple.ensures

pub returns-in-HasNoTag : goal.returns-in-HasNoTag
returns-in-HasNoTag c = on_ok_weaker {Q = WroteStringPart c.args.sides c.args.l (λ m. test_code m (path_test_of c.args.test)) _ _} _ (λ x p d e. code_as (ap (λ t. test_code (string_move c.args.sides c.args.l p d e) (path_test_of t)) (sym c.in-HasNoTag.is)) x) c.put_no_tag.ensures

pub returns-in-KeepsUnits : goal.returns-in-KeepsUnits
returns-in-KeepsUnits c = on_ok_weaker {Q = WroteStringPart c.args.sides c.args.l (λ m. test_code m (path_test_of c.args.test)) _ _} _ (λ x p d e. code_as (ap (λ t. test_code (string_move c.args.sides c.args.l p d e) (path_test_of t)) (sym c.in-KeepsUnits.is)) x) c.put_keeps_units.ensures
