use Rattle.std.proofs.Common.{◌++◌, sym, ap, ◌∙◌}
use Rattle.std.proofs.lemmas.Result.{err_from_is_err_and}
use Rattle.fact_binary.specs.Forms.{body_kinds}
use Rattle.fact_binary.specs.Grammar.{list, catch_all}
use Rattle.fact_binary.proofs.Items.{passes}
use Rattle.fact_binary.proofs.Leaves.{a_type, some_catches, head_type}
use Rattle.fact_binary.proofs.read_code.head_at.Goals as goal

pub returns-in_err-ty-clause-only : goal.returns-in_err-ty-clause-only
returns-in_err-ty-clause-only c xs rest k h e =
    let q = err_from_is_err_and c.from_residual.result c.from_residual.ensures.1 in
    let a = head_type c.args.bytes.now rest c.args.row xs k h e in
    rw (q.1, q.2) (passes c.in_err-ty.field-0.0 _ _ (c.in_err-ty.ensures.only a.0 a.1 a.2 a.3))

pub returns-in_err-labels-in-TryTable-clause-only : goal.returns-in_err-labels-in-TryTable-clause-only
returns-in_err-labels-in-TryTable-clause-only c xs rest k h e =
    let q = err_from_is_err_and c.from_residual-in_err-labels-in-TryTable.result c.from_residual-in_err-labels-in-TryTable.ensures.1 in
    let a = some_catches c.args.bytes.now rest xs (k ∙ ap body_kinds c.in-TryTable.is) h e in
    let o = c.in_ok-ty.ensures.only a.0 (list catch_all a.1 ++ rest) a.2 a.5 in
    rw (q.1, q.2) (passes c.in_err-labels-in-TryTable.field-0.0 _ _ (c.in_err-labels-in-TryTable.ensures.only a.1 rest a.3 o.1))

pub returns-in_ok-labels-in-TryTable-clause-only : goal.returns-in_ok-labels-in-TryTable-clause-only
returns-in_ok-labels-in-TryTable-clause-only c xs rest k h e =
    let a = some_catches c.args.bytes.now rest xs (k ∙ ap body_kinds c.in-TryTable.is) h e in
    let o = c.in_ok-ty.ensures.only a.0 (list catch_all a.1 ++ rest) a.2 a.5 in
    let l = c.in_ok-labels-in-TryTable.ensures.only a.1 rest a.3 o.1 in
    rw c.in-TryTable.is (rw (o.0, l.0) (sym a.4), l.1)

pub returns-in-Block-clause-only : goal.returns-in-Block-clause-only
returns-in-Block-clause-only c xs rest k h e =
    let a = a_type c.args.bytes.now rest xs (k ∙ ap body_kinds c.in-Block.is) h e in
    let o = c.in_ok-ty.ensures.only a.0 rest a.1 a.3 in
    rw c.in-Block.is (rw o.0 (sym a.2), o.1)

pub returns-in-Loop-clause-only : goal.returns-in-Loop-clause-only
returns-in-Loop-clause-only c xs rest k h e =
    let a = a_type c.args.bytes.now rest xs (k ∙ ap body_kinds c.in-Loop.is) h e in
    let o = c.in_ok-ty.ensures.only a.0 rest a.1 a.3 in
    rw c.in-Loop.is (rw o.0 (sym a.2), o.1)
