use Rattle.std.proofs.Common.{ℕ, ◌++◌, [], ◌∷◌, List, refl, sym, ap, ◌∙◌, append_assoc}
use Rattle.std.proofs.lemmas.Result.{err_from_is_err_and}
use Rattle.fact_binary.specs.declared.forms.LeafRow.TheVariants as leaf
use Rattle.fact_wasm.specs.declared.instr.Instr.TheVariants.{BrTable}
use Rattle.fact_binary.specs.Grammar.{Index, Labels, list}
use Rattle.fact_binary.specs.Numbers.{unsigned}
use Rattle.fact_binary.proofs.Written.{args-two}
use Rattle.fact_binary.proofs.Items.{passes}
use Rattle.fact_binary.proofs.Leaves.{some_labels, leaf_found, leaf_only, node-BrTable, own-BrTable}
use Rattle.fact_binary.proofs.read_code.labels_at.Goals as goal

pub returns-in_err-labels-clause-only : goal.returns-in_err-labels-clause-only
returns-in_err-labels-clause-only c xs rest k h e =
    let q = err_from_is_err_and c.from_residual.result c.from_residual.ensures.1 in
    let a = some_labels c.args.bytes.now rest xs k h e in
    rw (q.1, q.2) (passes c.in_err-labels.field-0.0 _ _ (c.in_err-labels.ensures.only a.0 (unsigned a.1 ++ rest) a.2 a.4))

pub returns-in_err-last-clause-only : goal.returns-in_err-last-clause-only
returns-in_err-last-clause-only c xs rest k h e =
    let q = err_from_is_err_and c.from_residual-in_err-last.result c.from_residual-in_err-last.ensures.1 in
    let a = some_labels c.args.bytes.now rest xs k h e in
    let o = c.in_ok-labels.ensures.only a.0 (unsigned a.1 ++ rest) a.2 a.4 in
    rw (q.1, q.2) (passes c.in_err-last.field-0.0 _ _ (c.in_err-last.ensures.only a.1 rest a.3 o.1))

pub returns-clause-found : goal.returns-clause-found
returns-clause-found c =
    let ls = c.in_ok-labels.labels in
    let l = c.in_ok-last.last in
    let f = c.in_ok-labels.ensures.found in
    let g = c.in_ok-last.ensures.found in
    let spelled = f.1 ∙ ap (λ (t : List ℕ). list unsigned ls ++ t) g.1 ∙ sym (append_assoc (list unsigned ls) (unsigned l) c.in_ok-last.rest.now) in
    (leaf_found c.args.imports leaf.Labels c.args.bytes.now c.in_ok-last.rest.now (BrTable ls l) (Labels ls ∷ Index l ∷ []) (node-BrTable c.args.imports ls l) (own-BrTable c.args.imports ls l) refl (f.0, (g.0, tt)) (rw args-two spelled))

pub returns-clause-only : goal.returns-clause-only
returns-clause-only c = leaf_only c.args.imports leaf.Labels c.args.bytes.now c.in_ok-last.rest.now (BrTable c.in_ok-labels.labels c.in_ok-last.last) (returns-clause-found c)
