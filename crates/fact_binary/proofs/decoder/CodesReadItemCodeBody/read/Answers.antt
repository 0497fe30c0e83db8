use Rattle.std.proofs.Common.{arith, ◌≡◌, ℕ, [], ◌∷◌, ◌++◌, length, refl, sym, ap, ◌∙◌, inr}
use Rattle.std.proofs.lemmas.Bool.Decides.{nat_tests}
use Rattle.std.proofs.lemmas.Result.{err_from_is_err_and}
use Rattle.fact_binary.specs.Grammar.{body_nodes, codes}
use Rattle.fact_binary.specs.Spelling.{func_body}
use Rattle.fact_binary.specs.Rebuild.{instrs_of}
use Rattle.fact_binary.proofs.Items.{passes}
use Rattle.fact_binary.proofs.decoder.CodesReadItemCodeBody.read.Goals as goal

pub returns-in_err-locals-clause-only : goal.returns-in_err-locals-clause-only
returns-in_err-locals-clause-only c y rest p e =
    let n = c.args.imports in
    let q = err_from_is_err_and c.from_residual-in_err-locals.result c.from_residual-in_err-locals.ensures.1 in
    let o = c.in_ok-content.ensures.only (func_body n y.locals y.body) rest p.0.0 e in
    rw (q.1, q.2) (passes c.in_err-locals.field-0.0 _ _ (c.in_err-locals.ensures.only y.locals (codes (body_nodes n y.body) ++ 0x0B ∷ []) p.0.1 o.0))

pub returns-in_err-body-clause-only : goal.returns-in_err-body-clause-only
returns-in_err-body-clause-only c y rest p e =
    let n = c.args.imports in
    let q = err_from_is_err_and c.from_residual-in_err-body.result c.from_residual-in_err-body.ensures.1 in
    let o = c.in_ok-content.ensures.only (func_body n y.locals y.body) rest p.0.0 e in
    let l = c.in_ok-locals.ensures.only y.locals (codes (body_nodes n y.body) ++ 0x0B ∷ []) p.0.1 o.0 in
    rw (q.1, q.2) (passes c.in_err-body.field-0.0 _ _ (c.in_err-body.ensures.only (body_nodes n y.body) 0x0B [] (inr refl) p.0.2 l.1))

pub returns-then-end-ne11-clause-only : goal.returns-then-end-ne11-clause-only
returns-then-end-ne11-clause-only c y rest p e =
    let n = c.args.imports in
    let o = c.in_ok-content.ensures.only (func_body n y.locals y.body) rest p.0.0 e in
    let l = c.in_ok-locals.ensures.only y.locals (codes (body_nodes n y.body) ++ 0x0B ∷ []) p.0.1 o.0 in
    let b = c.in_ok-body.ensures.only (body_nodes n y.body) 0x0B [] (inr refl) p.0.2 l.1 in
    c.if-end-ne11.true b.1

pub returns-then-not-is_empty-clause-only : goal.returns-then-not-is_empty-clause-only
returns-then-not-is_empty-clause-only c y rest p e =
    let n = c.args.imports in
    let o = c.in_ok-content.ensures.only (func_body n y.locals y.body) rest p.0.0 e in
    let l = c.in_ok-locals.ensures.only y.locals (codes (body_nodes n y.body) ++ 0x0B ∷ []) p.0.1 o.0 in
    let b = c.in_ok-body.ensures.only (body_nodes n y.body) 0x0B [] (inr refl) p.0.2 l.1 in
    let none : length c.in_ok-body.after.now ≡ 0 = ap (length {A = ℕ}) b.2 in
    grind (arith, nat_tests, none)

pub returns-clause-only : goal.returns-clause-only
returns-clause-only c y rest p e =
    let n = c.args.imports in
    let o = c.in_ok-content.ensures.only (func_body n y.locals y.body) rest p.0.0 e in
    let l = c.in_ok-locals.ensures.only y.locals (codes (body_nodes n y.body) ++ 0x0B ∷ []) p.0.1 o.0 in
    let b = c.in_ok-body.ensures.only (body_nodes n y.body) 0x0B [] (inr refl) p.0.2 l.1 in
    let same = sym c.in_ok-body.ensures.found.own ∙ ap (instrs_of n) b.0 ∙ p.1 in
    (λ i. record { locals = l.0 i; body = same i }, o.1)
