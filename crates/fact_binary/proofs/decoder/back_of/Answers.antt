use Rattle.std.proofs.Common.{arith, ◌≡◌, ℕ, [], ◌++◌, length, sym, ap, ◌∙◌, append-nil}
use Rattle.std.proofs.lemmas.Bool.Decides.{nat_tests}
use Rattle.std.proofs.lemmas.Result.{err_from_is_err_and}
use Rattle.fact_binary.specs.Grammar.{list}
use Rattle.fact_binary.specs.Spelling.{section, export_item}
use Rattle.fact_binary.specs.Owned.{code_of}
use Rattle.fact_binary.proofs.Items.{passes}
use Rattle.fact_binary.proofs.decoder.back_of.Goals as goal

pub returns-in_err-types-clause-only : goal.returns-in_err-types-clause-only
returns-in_err-types-clause-only c tys es bs s =
    let n = c.args.imports in
    let q = err_from_is_err_and c.from_residual.result c.from_residual.ensures.1 in
    rw (q.1, q.2) (passes c.in_err-types.field-0.0 _ _ (c.in_err-types.ensures.only tys (section 0x07 (list (export_item n) es) ++ section 0x0A (list (code_of n) bs)) s.function_bytes s.functions s.spelled))

pub returns-in_err-exports-clause-only : goal.returns-in_err-exports-clause-only
returns-in_err-exports-clause-only c tys es bs s =
    let n = c.args.imports in
    let q = err_from_is_err_and c.from_residual-in_err-exports.result c.from_residual-in_err-exports.ensures.1 in
    let f = c.in_ok-types.ensures.only tys (section 0x07 (list (export_item n) es) ++ section 0x0A (list (code_of n) bs)) s.function_bytes s.functions s.spelled in
    rw (q.1, q.2) (passes c.in_err-exports.field-0.0 _ _ (c.in_err-exports.ensures.only es (section 0x0A (list (code_of n) bs)) s.export_bytes s.exports f.1))

pub returns-in_err-bodies-clause-only : goal.returns-in_err-bodies-clause-only
returns-in_err-bodies-clause-only c tys es bs s =
    let n = c.args.imports in
    let q = err_from_is_err_and c.from_residual-in_err-bodies.result c.from_residual-in_err-bodies.ensures.1 in
    let f = c.in_ok-types.ensures.only tys (section 0x07 (list (export_item n) es) ++ section 0x0A (list (code_of n) bs)) s.function_bytes s.functions s.spelled in
    let x = c.in_ok-exports.ensures.only es (section 0x0A (list (code_of n) bs)) s.export_bytes s.exports f.1 in
    rw (q.1, q.2) (passes c.in_err-bodies.field-0.0 _ _ (c.in_err-bodies.ensures.only bs [] s.code_bytes s.bodies (x.1 ∙ sym (append-nil (section 0x0A (list (code_of n) bs))))))

pub returns-then-not-is_empty-clause-only : goal.returns-then-not-is_empty-clause-only
returns-then-not-is_empty-clause-only c tys es bs s =
    let n = c.args.imports in
    let f = c.in_ok-types.ensures.only tys (section 0x07 (list (export_item n) es) ++ section 0x0A (list (code_of n) bs)) s.function_bytes s.functions s.spelled in
    let x = c.in_ok-exports.ensures.only es (section 0x0A (list (code_of n) bs)) s.export_bytes s.exports f.1 in
    let b = c.in_ok-bodies.ensures.only bs [] s.code_bytes s.bodies (x.1 ∙ sym (append-nil (section 0x0A (list (code_of n) bs)))) in
    let none : length c.in_ok-bodies.rest.now ≡ 0 = ap (length {A = ℕ}) b.1 in
    grind (arith, nat_tests, none)

pub returns-clause-only : goal.returns-clause-only
returns-clause-only c tys es bs s =
    let n = c.args.imports in
    let f = c.in_ok-types.ensures.only tys (section 0x07 (list (export_item n) es) ++ section 0x0A (list (code_of n) bs)) s.function_bytes s.functions s.spelled in
    let x = c.in_ok-exports.ensures.only es (section 0x0A (list (code_of n) bs)) s.export_bytes s.exports f.1 in
    let b = c.in_ok-bodies.ensures.only bs [] s.code_bytes s.bodies (x.1 ∙ sym (append-nil (section 0x0A (list (code_of n) bs)))) in
    (f.0, x.0, b.0)
