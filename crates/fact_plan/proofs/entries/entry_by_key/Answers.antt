use Rattle.std.proofs.Common.{refl}
use Rattle.std.proofs.lemmas.Result.{err_from_is_err_and}
use Rattle.fact_plan.specs.Entries.{entry_by_key}
use Rattle.fact_plan.proofs.ReadLemmas.{unless_memory}
use Rattle.fact_plan.proofs.entries.entry_by_key.Goals as goal

pub returns-in-Some : goal.returns-in-Some
unfolding entry_by_key
returns-in-Some c = rw (← c.in-Some.ensures, c.in_ok-read_member.ensures) refl

pub returns-in_err-read_member : goal.returns-in_err-read_member
unfolding entry_by_key
returns-in_err-read_member c =
    let p = err_from_is_err_and c.from_residual.result c.from_residual.ensures.1 in
    rw (p.1, p.2, ← c.in-Some.ensures) (unless_memory c.in_err-read_member.field-0.0 (λ e. rw e refl) c.in_err-read_member.ensures)

pub returns-in-Some-get : goal.returns-in-Some-get
unfolding entry_by_key
returns-in-Some-get c = rw (← c.in_default.ensures, ← c.in-Some-get.ensures, c.in_ok-read_member-2.ensures) refl

pub returns-in_err-read_member-2 : goal.returns-in_err-read_member-2
unfolding entry_by_key
returns-in_err-read_member-2 c =
    let p = err_from_is_err_and c.from_residual-in_err-read_member-2.result c.from_residual-in_err-read_member-2.ensures.1 in
    rw (p.1, p.2, ← c.in_default.ensures, ← c.in-Some-get.ensures) (unless_memory c.in_err-read_member-2.field-0.0 (λ e. rw e refl) c.in_err-read_member-2.ensures)

pub returns-in-Some-get-2 : goal.returns-in-Some-get-2
unfolding entry_by_key
returns-in-Some-get-2 c = rw (← c.in_default.ensures, ← c.in_default-get.ensures, ← c.in-Some-get-2.ensures, c.in_ok-read_member-3.ensures) refl

pub returns-in_err-read_member-3 : goal.returns-in_err-read_member-3
unfolding entry_by_key
returns-in_err-read_member-3 c =
    let p = err_from_is_err_and c.from_residual-in_err-read_member-3.result c.from_residual-in_err-read_member-3.ensures.1 in
    rw (p.1, p.2, ← c.in_default.ensures, ← c.in_default-get.ensures, ← c.in-Some-get-2.ensures) (unless_memory c.in_err-read_member-3.field-0.0 (λ e. rw e refl) c.in_err-read_member-3.ensures)

pub returns-in-Some-get-3 : goal.returns-in-Some-get-3
unfolding entry_by_key
returns-in-Some-get-3 c = rw (← c.in_default.ensures, ← c.in_default-get.ensures, ← c.in_default-get-2.ensures, ← c.in-Some-get-3.ensures, c.in_ok-read_member-4.ensures) refl

pub returns-in_err-read_member-4 : goal.returns-in_err-read_member-4
unfolding entry_by_key
returns-in_err-read_member-4 c =
    let p = err_from_is_err_and c.from_residual-in_err-read_member-4.result c.from_residual-in_err-read_member-4.ensures.1 in
    rw (p.1, p.2, ← c.in_default.ensures, ← c.in_default-get.ensures, ← c.in_default-get-2.ensures, ← c.in-Some-get-3.ensures) (unless_memory c.in_err-read_member-4.field-0.0 (λ e. rw e refl) c.in_err-read_member-4.ensures)

pub returns-in-Some-get-4 : goal.returns-in-Some-get-4
unfolding entry_by_key
returns-in-Some-get-4 c = rw (← c.in_default.ensures, ← c.in_default-get.ensures, ← c.in_default-get-2.ensures, ← c.in_default-get-3.ensures, ← c.in-Some-get-4.ensures, c.in_ok-read_member-5.ensures) refl

pub returns-in_err-read_member-5 : goal.returns-in_err-read_member-5
unfolding entry_by_key
returns-in_err-read_member-5 c =
    let p = err_from_is_err_and c.from_residual-in_err-read_member-5.result c.from_residual-in_err-read_member-5.ensures.1 in
    rw (p.1, p.2, ← c.in_default.ensures, ← c.in_default-get.ensures, ← c.in_default-get-2.ensures, ← c.in_default-get-3.ensures, ← c.in-Some-get-4.ensures) (unless_memory c.in_err-read_member-5.field-0.0 (λ e. rw e refl) c.in_err-read_member-5.ensures)

pub returns : goal.returns
unfolding entry_by_key
returns c = rw (← c.in_default.ensures, ← c.in_default-get.ensures, ← c.in_default-get-2.ensures, ← c.in_default-get-3.ensures, ← c.in_default-get-4.ensures) c.later_by_key.ensures
