use Rattle.std.proofs.Common.{◌≡◌, ℕ, [], length, arith, sym, ap, ◌∙◌, append-nil}
use Rattle.std.proofs.lemmas.Bool.Decides.{nat_tests}
use Rattle.std.proofs.lemmas.Result.{err_from_is_err_and}
use Rattle.fact_binary.specs.Grammar.{list}
use Rattle.fact_binary.proofs.Items.{passes}
use Rattle.fact_binary.proofs.read_list.whole_list.Goals as goal

pub returns-in_err-items-clause-only : goal.returns-in_err-items-clause-only
returns-in_err-items-clause-only g c ys p e =
    let q = err_from_is_err_and c.from_residual.result c.from_residual.ensures.1 in
    rw (q.1, q.2) (passes c.in_err-items.field-0.0 _ _ (c.in_err-items.ensures.only ys [] p (e ∙ sym (append-nil (list (g.I.ReadItem.code c.args.imports) ys)))))

pub returns-then-not-is_empty-clause-only : goal.returns-then-not-is_empty-clause-only
returns-then-not-is_empty-clause-only g c ys p e =
    let o = c.in_ok-items.ensures.only ys [] p (e ∙ sym (append-nil (list (g.I.ReadItem.code c.args.imports) ys))) in
    let none : length c.in_ok-items.left.now ≡ 0 = ap (length {A = ℕ}) o.1 in
    grind (arith, nat_tests, none)
