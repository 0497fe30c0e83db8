use Rattle.std.proofs.Common.{◌≡◌, true, sym, ap, ◌∙◌}
use Rattle.fact_check.specs.NameNumbers.{is_plain}
use Rattle.fact_check.proofs.Numbers.{not_plain, number_ok, number_err}
use Rattle.fact_check.proofs.imports.number.Goals as goal

pub returns-then-not-is_plain : goal.returns-then-not-is_plain
returns-then-not-is_plain c = not_plain c.args.text.now (ap is_plain (sym c.as_bytes.ensures.value) ∙ sym c.is_plain.ensures ∙ c.if-not-is_plain.true)

pub returns-in-Ok : goal.returns-in-Ok
returns-in-Ok c =
    let plain : is_plain c.args.text.now ≡ true = ap is_plain (sym c.as_bytes.ensures.value) ∙ sym c.is_plain.ensures ∙ c.if-not-is_plain.false in
    number_ok c.args.text.now c.parse.result plain c.parse.ensures.value.0 c.in-Ok.number c.in-Ok.is

pub returns-in-Err : goal.returns-in-Err
returns-in-Err c =
    let plain : is_plain c.args.text.now ≡ true = ap is_plain (sym c.as_bytes.ensures.value) ∙ sym c.is_plain.ensures ∙ c.if-not-is_plain.false in
    number_err c.args.text.now c.parse.result plain c.parse.ensures.value.0 c.in-Err.field-0 c.in-Err.is
