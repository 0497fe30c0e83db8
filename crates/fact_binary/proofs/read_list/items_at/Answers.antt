use Rattle.std.proofs.Common.{ℕ, ◌+◌, List, ◌++◌, arith, sym, ap, ◌∙◌, append_assoc}
use Rattle.std.proofs.lemmas.List.{length_push}
use Rattle.std.proofs.lemmas.Result.{err_from_is_err_and}
use Rattle.std.specs.List.{flat_map}
use Rattle.fact_binary.proofs.Items.{passes, each-push, code-push, steps, stops, ends}
use Rattle.fact_binary.proofs.read_list.items_at.Goals as goal

pub returns-in_err-item-clause-only : goal.returns-in_err-item-clause-only
returns-in_err-item-clause-only g c ys rest n p e =
    let q = err_from_is_err_and c.from_residual.result c.from_residual.ensures.1 in
    let l = c.loop in
    let s = stops (g.I.ReadItem.code c.args.imports) (g.I.ReadItem.fits c.args.imports) c.args.count c.args.bytes.now l.items.items l.left.now ys rest (omega (arith, l.invariant.count)) l.invariant.all n p e in
    rw (q.1, q.2) (passes c.in_err-item.field-0.0 _ _ (c.in_err-item.ensures.only s.0 s.1 s.2 s.3))

pub loop-preserved : goal.loop-preserved
loop-preserved g c =
    let code = g.I.ReadItem.code c.args.imports in
    let fits = g.I.ReadItem.fits c.args.imports in
    let l = c.loop in
    let i = l.invariant in
    let found = c.in_ok-item.ensures.found in
    let done = l.items.items in
    rw c.in_ok-push.ensures.items (record {
      count = length_push done c.in_ok-item.item ∙ ap (λ (n : ℕ). n + 1) i.count;
      each = each-push code fits done c.in_ok-item.item i.each found.0;
      bytes = rw (code-push code fits done c.in_ok-item.item) (i.bytes ∙ ap (λ (r : List ℕ). flat_map code done ++ r) found.1 ∙ sym (append_assoc (flat_map code done) (code c.in_ok-item.item) c.in_ok-item.after.now));
      all = steps code fits c.args.count c.args.bytes.now done l.left.now c.in_ok-item.item c.in_ok-item.after.now (omega (arith, i.count)) i.all c.in_ok-item.ensures.only;
    })

pub returns-clause-only : goal.returns-clause-only
returns-clause-only g c ys rest n p e =
    let l = c.loop in
    ends (g.I.ReadItem.code c.args.imports) (g.I.ReadItem.fits c.args.imports) c.args.count c.args.bytes.now l.items.items l.left.now ys rest (omega (arith, l.invariant.count)) l.invariant.all n p e
