use Rattle.fact_adapter_rules.proofs.FrontLaws.{IsFront-itself}
use Rattle.fact_adapter_rules.proofs.Decisions.{denied, granted, here, mapped, there}
use Rattle.fact_adapter_rules.proofs.bound.has_bad_memory.Goals as goal

pub returns-in_err-cannot_use_memory-clause-memories_front : goal.returns-in_err-cannot_use_memory-clause-memories_front
returns-in_err-cannot_use_memory-clause-memories_front c = IsFront-itself _

pub returns-in_err-cannot_use_memory-clause-reallocs_front : goal.returns-in_err-cannot_use_memory-clause-reallocs_front
returns-in_err-cannot_use_memory-clause-reallocs_front c = IsFront-itself _

pub returns-then-branch-clause-exact : goal.returns-then-branch-clause-exact
returns-then-branch-clause-exact c = λ before a h ms rs. here _ _ (granted _ _ (c.in_ok-cannot_use_memory.ensures a h) c.if-branch.true)

pub returns-then-branch-clause-memories_front : goal.returns-then-branch-clause-memories_front
returns-then-branch-clause-memories_front c = IsFront-itself _

pub returns-then-branch-clause-reallocs_front : goal.returns-then-branch-clause-reallocs_front
returns-then-branch-clause-reallocs_front c = IsFront-itself _

pub returns-in_err-shares_memory-clause-reallocs_front : goal.returns-in_err-shares_memory-clause-reallocs_front
returns-in_err-shares_memory-clause-reallocs_front c = IsFront-itself _

pub returns-then-branch-2-clause-exact : goal.returns-then-branch-2-clause-exact
returns-then-branch-2-clause-exact c = λ before a h ms rs.
    there _ _ _ (denied _ _ (c.in_ok-cannot_use_memory.ensures a h) c.if-branch.false)
    (here _ _ (granted _ _ (c.in_ok-shares_memory.ensures.exact _ before a h ms) c.if-branch-2.true))

pub returns-then-branch-2-clause-reallocs_front : goal.returns-then-branch-2-clause-reallocs_front
returns-then-branch-2-clause-reallocs_front c = IsFront-itself _

pub returns-clause-exact : goal.returns-clause-exact
returns-clause-exact c =
    mapped c.shares_realloc.result _ _ (λ found told before a h ms rs.
    there _ _ _ (denied _ _ (c.in_ok-cannot_use_memory.ensures a h) c.if-branch.false)
    (there _ _ _ (denied _ _ (c.in_ok-shares_memory.ensures.exact _ before a h ms) c.if-branch-2.false) (told _ before a h rs)))
    c.shares_realloc.ensures.exact

pub returns-clause-memories : goal.returns-clause-memories
returns-clause-memories c =
    mapped c.shares_realloc.result _ _ (λ found told fits before a h ms. c.in_ok-shares_memory.ensures.bound c.if-branch-2.false _ before a h ms)
    c.shares_realloc.ensures.exact

pub returns-clause-reallocs : goal.returns-clause-reallocs
returns-clause-reallocs c = mapped c.shares_realloc.result _ _ (λ found told fits before a h rs. told fits _ before a h rs) c.shares_realloc.ensures.bound
