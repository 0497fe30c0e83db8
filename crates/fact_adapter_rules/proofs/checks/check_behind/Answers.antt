use Rattle.std.proofs.Common.{refl}
use Rattle.std.proofs.lemmas.Result.{err_from_is_err_and}
use Rattle.fact_adapter_rules.proofs.FrontLaws.{IsFront-itself}
use Rattle.fact_adapter_rules.proofs.Decisions.{denied, granted}
use Rattle.fact_adapter_rules.proofs.StageLaws.{first-conflict, first-memory, first-mismatch, first-name, first-options, first-signature, none-at-all}
use Rattle.fact_adapter_rules.proofs.checks.check_behind.Goals as goal

pub returns-then-branch-clause-refused : goal.returns-then-branch-clause-refused
returns-then-branch-clause-refused c = (
  λ before a b l.
      let options = denied _ _ (c.has_bad_options.ensures a l) c.if-has_bad_options.false in
      (granted _ _ (c.in_ok-has_type_mismatch.ensures.exact a l.sides) c.if-branch.true, first-mismatch _ before a options),
  refl,
)

pub returns-then-branch-2-clause-refused : goal.returns-then-branch-2-clause-refused
returns-then-branch-2-clause-refused c = (
  λ before a b l.
      let options = denied _ _ (c.has_bad_options.ensures a l) c.if-has_bad_options.false in
      let mismatch = denied _ _ (c.in_ok-has_type_mismatch.ensures.exact a l.sides) c.if-branch.false in
      (granted _ _ (c.in_ok-has_bad_memory.ensures.exact before a l.sides b.memories b.reallocs) c.if-branch-2.true, first-memory _ before a options mismatch),
  refl,
)

pub returns-then-branch-3-clause-refused : goal.returns-then-branch-3-clause-refused
returns-then-branch-3-clause-refused c = (
  λ before a b l.
      let options = denied _ _ (c.has_bad_options.ensures a l) c.if-has_bad_options.false in
      let mismatch = denied _ _ (c.in_ok-has_type_mismatch.ensures.exact a l.sides) c.if-branch.false in
      let memory = denied _ _ (c.in_ok-has_bad_memory.ensures.exact before a l.sides b.memories b.reallocs) c.if-branch-2.false in
      (granted _ _ (c.in_ok-has_bad_signature.ensures a l.sides) c.if-branch-3.true, first-signature _ before a options mismatch memory),
  refl,
)

pub returns-then-branch-4-clause-refused : goal.returns-then-branch-4-clause-refused
returns-then-branch-4-clause-refused c = (
  λ before a b l.
      let options = denied _ _ (c.has_bad_options.ensures a l) c.if-has_bad_options.false in
      let mismatch = denied _ _ (c.in_ok-has_type_mismatch.ensures.exact a l.sides) c.if-branch.false in
      let memory = denied _ _ (c.in_ok-has_bad_memory.ensures.exact before a l.sides b.memories b.reallocs) c.if-branch-2.false in
      let signature = denied _ _ (c.in_ok-has_bad_signature.ensures a l.sides) c.if-branch-3.false in
      (granted _ _ (c.in_ok-has_import_conflict.ensures.exact before a l.sides b.uses) c.if-branch-4.true, first-conflict _ before a options mismatch memory signature),
  refl,
)

pub returns-then-branch-5-clause-refused : goal.returns-then-branch-5-clause-refused
returns-then-branch-5-clause-refused c = (
  λ before a b l.
      let options = denied _ _ (c.has_bad_options.ensures a l) c.if-has_bad_options.false in
      let mismatch = denied _ _ (c.in_ok-has_type_mismatch.ensures.exact a l.sides) c.if-branch.false in
      let memory = denied _ _ (c.in_ok-has_bad_memory.ensures.exact before a l.sides b.memories b.reallocs) c.if-branch-2.false in
      let signature = denied _ _ (c.in_ok-has_bad_signature.ensures a l.sides) c.if-branch-3.false in
      let conflict = denied _ _ (c.in_ok-has_import_conflict.ensures.exact before a l.sides b.uses) c.if-branch-4.false in
      (granted _ _ (c.in_ok-has_duplicate_name.ensures.exact before a l b.names b.distinct) c.if-branch-5.true, first-name _ before a options mismatch memory signature conflict),
  refl,
)

pub returns-clause-sound : goal.returns-clause-sound
returns-clause-sound c = λ before a b l.
    let options = denied _ _ (c.has_bad_options.ensures a l) c.if-has_bad_options.false in
    let mismatch = denied _ _ (c.in_ok-has_type_mismatch.ensures.exact a l.sides) c.if-branch.false in
    let memory = denied _ _ (c.in_ok-has_bad_memory.ensures.exact before a l.sides b.memories b.reallocs) c.if-branch-2.false in
    let signature = denied _ _ (c.in_ok-has_bad_signature.ensures a l.sides) c.if-branch-3.false in
    let conflict = denied _ _ (c.in_ok-has_import_conflict.ensures.exact before a l.sides b.uses) c.if-branch-4.false in
    let name = denied _ _ (c.in_ok-has_duplicate_name.ensures.exact before a l b.names b.distinct) c.if-branch-5.false in (
      none-at-all _ before a options mismatch memory signature conflict name,
      record {
        memories = c.in_ok-has_bad_memory.ensures.memories c.if-branch-2.false before a l.sides b.memories;
        reallocs = c.in_ok-has_bad_memory.ensures.reallocs c.if-branch-2.false before a l.sides b.reallocs;
        uses = c.in_ok-has_import_conflict.ensures.bound c.if-branch-4.false before a l.sides b.uses;
        names = c.in_ok-has_duplicate_name.ensures.names c.if-branch-5.false before a l b.names;
        distinct = c.in_ok-has_duplicate_name.ensures.distinct c.if-branch-5.false b.distinct;
      },
    )

pub returns-then-has_bad_options-clause-memories : goal.returns-then-has_bad_options-clause-memories
returns-then-has_bad_options-clause-memories c = IsFront-itself _

pub returns-then-has_bad_options-clause-reallocs : goal.returns-then-has_bad_options-clause-reallocs
returns-then-has_bad_options-clause-reallocs c = IsFront-itself _

pub returns-then-has_bad_options-clause-uses : goal.returns-then-has_bad_options-clause-uses
returns-then-has_bad_options-clause-uses c = IsFront-itself _

pub returns-then-has_bad_options-clause-names : goal.returns-then-has_bad_options-clause-names
returns-then-has_bad_options-clause-names c = IsFront-itself _

pub returns-in_err-has_type_mismatch-clause-memories : goal.returns-in_err-has_type_mismatch-clause-memories
returns-in_err-has_type_mismatch-clause-memories c = IsFront-itself _

pub returns-in_err-has_type_mismatch-clause-reallocs : goal.returns-in_err-has_type_mismatch-clause-reallocs
returns-in_err-has_type_mismatch-clause-reallocs c = IsFront-itself _

pub returns-in_err-has_type_mismatch-clause-uses : goal.returns-in_err-has_type_mismatch-clause-uses
returns-in_err-has_type_mismatch-clause-uses c = IsFront-itself _

pub returns-in_err-has_type_mismatch-clause-names : goal.returns-in_err-has_type_mismatch-clause-names
returns-in_err-has_type_mismatch-clause-names c = IsFront-itself _

pub returns-then-branch-clause-memories : goal.returns-then-branch-clause-memories
returns-then-branch-clause-memories c = IsFront-itself _

pub returns-then-branch-clause-reallocs : goal.returns-then-branch-clause-reallocs
returns-then-branch-clause-reallocs c = IsFront-itself _

pub returns-then-branch-clause-uses : goal.returns-then-branch-clause-uses
returns-then-branch-clause-uses c = IsFront-itself _

pub returns-then-branch-clause-names : goal.returns-then-branch-clause-names
returns-then-branch-clause-names c = IsFront-itself _

pub returns-in_err-has_bad_memory-clause-memories : goal.returns-in_err-has_bad_memory-clause-memories
returns-in_err-has_bad_memory-clause-memories c = c.has_bad_memory.ensures.memories_front

pub returns-in_err-has_bad_memory-clause-reallocs : goal.returns-in_err-has_bad_memory-clause-reallocs
returns-in_err-has_bad_memory-clause-reallocs c = c.has_bad_memory.ensures.reallocs_front

pub returns-in_err-has_bad_memory-clause-uses : goal.returns-in_err-has_bad_memory-clause-uses
returns-in_err-has_bad_memory-clause-uses c = IsFront-itself _

pub returns-in_err-has_bad_memory-clause-names : goal.returns-in_err-has_bad_memory-clause-names
returns-in_err-has_bad_memory-clause-names c = IsFront-itself _

pub returns-then-branch-2-clause-memories : goal.returns-then-branch-2-clause-memories
returns-then-branch-2-clause-memories c = c.has_bad_memory.ensures.memories_front

pub returns-then-branch-2-clause-reallocs : goal.returns-then-branch-2-clause-reallocs
returns-then-branch-2-clause-reallocs c = c.has_bad_memory.ensures.reallocs_front

pub returns-then-branch-2-clause-uses : goal.returns-then-branch-2-clause-uses
returns-then-branch-2-clause-uses c = IsFront-itself _

pub returns-then-branch-2-clause-names : goal.returns-then-branch-2-clause-names
returns-then-branch-2-clause-names c = IsFront-itself _

pub returns-in_err-has_bad_signature-clause-memories : goal.returns-in_err-has_bad_signature-clause-memories
returns-in_err-has_bad_signature-clause-memories c = c.has_bad_memory.ensures.memories_front

pub returns-in_err-has_bad_signature-clause-reallocs : goal.returns-in_err-has_bad_signature-clause-reallocs
returns-in_err-has_bad_signature-clause-reallocs c = c.has_bad_memory.ensures.reallocs_front

pub returns-in_err-has_bad_signature-clause-uses : goal.returns-in_err-has_bad_signature-clause-uses
returns-in_err-has_bad_signature-clause-uses c = IsFront-itself _

pub returns-in_err-has_bad_signature-clause-names : goal.returns-in_err-has_bad_signature-clause-names
returns-in_err-has_bad_signature-clause-names c = IsFront-itself _

pub returns-then-branch-3-clause-memories : goal.returns-then-branch-3-clause-memories
returns-then-branch-3-clause-memories c = c.has_bad_memory.ensures.memories_front

pub returns-then-branch-3-clause-reallocs : goal.returns-then-branch-3-clause-reallocs
returns-then-branch-3-clause-reallocs c = c.has_bad_memory.ensures.reallocs_front

pub returns-then-branch-3-clause-uses : goal.returns-then-branch-3-clause-uses
returns-then-branch-3-clause-uses c = IsFront-itself _

pub returns-then-branch-3-clause-names : goal.returns-then-branch-3-clause-names
returns-then-branch-3-clause-names c = IsFront-itself _

pub returns-in_err-has_import_conflict-clause-memories : goal.returns-in_err-has_import_conflict-clause-memories
returns-in_err-has_import_conflict-clause-memories c = c.has_bad_memory.ensures.memories_front

pub returns-in_err-has_import_conflict-clause-reallocs : goal.returns-in_err-has_import_conflict-clause-reallocs
returns-in_err-has_import_conflict-clause-reallocs c = c.has_bad_memory.ensures.reallocs_front

pub returns-in_err-has_import_conflict-clause-uses : goal.returns-in_err-has_import_conflict-clause-uses
returns-in_err-has_import_conflict-clause-uses c = c.has_import_conflict.ensures.front

pub returns-in_err-has_import_conflict-clause-names : goal.returns-in_err-has_import_conflict-clause-names
returns-in_err-has_import_conflict-clause-names c = IsFront-itself _

pub returns-then-branch-4-clause-memories : goal.returns-then-branch-4-clause-memories
returns-then-branch-4-clause-memories c = c.has_bad_memory.ensures.memories_front

pub returns-then-branch-4-clause-reallocs : goal.returns-then-branch-4-clause-reallocs
returns-then-branch-4-clause-reallocs c = c.has_bad_memory.ensures.reallocs_front

pub returns-then-branch-4-clause-uses : goal.returns-then-branch-4-clause-uses
returns-then-branch-4-clause-uses c = c.has_import_conflict.ensures.front

pub returns-then-branch-4-clause-names : goal.returns-then-branch-4-clause-names
returns-then-branch-4-clause-names c = IsFront-itself _

pub returns-in_err-has_duplicate_name-clause-memories : goal.returns-in_err-has_duplicate_name-clause-memories
returns-in_err-has_duplicate_name-clause-memories c = c.has_bad_memory.ensures.memories_front

pub returns-in_err-has_duplicate_name-clause-reallocs : goal.returns-in_err-has_duplicate_name-clause-reallocs
returns-in_err-has_duplicate_name-clause-reallocs c = c.has_bad_memory.ensures.reallocs_front

pub returns-in_err-has_duplicate_name-clause-uses : goal.returns-in_err-has_duplicate_name-clause-uses
returns-in_err-has_duplicate_name-clause-uses c = c.has_import_conflict.ensures.front

pub returns-in_err-has_duplicate_name-clause-names : goal.returns-in_err-has_duplicate_name-clause-names
returns-in_err-has_duplicate_name-clause-names c = c.has_duplicate_name.ensures.front

pub returns-then-branch-5-clause-memories : goal.returns-then-branch-5-clause-memories
returns-then-branch-5-clause-memories c = c.has_bad_memory.ensures.memories_front

pub returns-then-branch-5-clause-reallocs : goal.returns-then-branch-5-clause-reallocs
returns-then-branch-5-clause-reallocs c = c.has_bad_memory.ensures.reallocs_front

pub returns-then-branch-5-clause-uses : goal.returns-then-branch-5-clause-uses
returns-then-branch-5-clause-uses c = c.has_import_conflict.ensures.front

pub returns-then-branch-5-clause-names : goal.returns-then-branch-5-clause-names
returns-then-branch-5-clause-names c = c.has_duplicate_name.ensures.front

pub returns-clause-memories : goal.returns-clause-memories
returns-clause-memories c = c.has_bad_memory.ensures.memories_front

pub returns-clause-reallocs : goal.returns-clause-reallocs
returns-clause-reallocs c = c.has_bad_memory.ensures.reallocs_front

pub returns-clause-uses : goal.returns-clause-uses
returns-clause-uses c = c.has_import_conflict.ensures.front

pub returns-clause-names : goal.returns-clause-names
returns-clause-names c = c.has_duplicate_name.ensures.front

pub returns-then-has_bad_options-clause-refused : goal.returns-then-has_bad_options-clause-refused
returns-then-has_bad_options-clause-refused c = (λ before a b l. (granted _ _ (c.has_bad_options.ensures a l) c.if-has_bad_options.true, first-options _ before a), refl)

pub returns-in_err-has_type_mismatch-clause-sound : goal.returns-in_err-has_type_mismatch-clause-sound
returns-in_err-has_type_mismatch-clause-sound c =
    let p = err_from_is_err_and c.from_residual.result c.from_residual.ensures.1 in
    rw p.1 tt

pub returns-in_err-has_type_mismatch-clause-refused : goal.returns-in_err-has_type_mismatch-clause-refused
returns-in_err-has_type_mismatch-clause-refused c =
    let p = err_from_is_err_and c.from_residual.result c.from_residual.ensures.1 in
    rw (p.1, p.2) tt

pub returns-in_err-has_bad_memory-clause-sound : goal.returns-in_err-has_bad_memory-clause-sound
returns-in_err-has_bad_memory-clause-sound c =
    let p = err_from_is_err_and c.from_residual-in_err-has_bad_memory.result c.from_residual-in_err-has_bad_memory.ensures.1 in
    rw p.1 tt

pub returns-in_err-has_bad_memory-clause-refused : goal.returns-in_err-has_bad_memory-clause-refused
returns-in_err-has_bad_memory-clause-refused c =
    let p = err_from_is_err_and c.from_residual-in_err-has_bad_memory.result c.from_residual-in_err-has_bad_memory.ensures.1 in
    rw (p.1, p.2) tt

pub returns-in_err-has_bad_signature-clause-sound : goal.returns-in_err-has_bad_signature-clause-sound
returns-in_err-has_bad_signature-clause-sound c =
    let p = err_from_is_err_and c.from_residual-in_err-has_bad_signature.result c.from_residual-in_err-has_bad_signature.ensures.1 in
    rw p.1 tt

pub returns-in_err-has_bad_signature-clause-refused : goal.returns-in_err-has_bad_signature-clause-refused
returns-in_err-has_bad_signature-clause-refused c =
    let p = err_from_is_err_and c.from_residual-in_err-has_bad_signature.result c.from_residual-in_err-has_bad_signature.ensures.1 in
    rw (p.1, p.2) tt

pub returns-in_err-has_import_conflict-clause-sound : goal.returns-in_err-has_import_conflict-clause-sound
returns-in_err-has_import_conflict-clause-sound c =
    let p = err_from_is_err_and c.from_residual-in_err-has_import_conflict.result c.from_residual-in_err-has_import_conflict.ensures.1 in
    rw p.1 tt

pub returns-in_err-has_import_conflict-clause-refused : goal.returns-in_err-has_import_conflict-clause-refused
returns-in_err-has_import_conflict-clause-refused c =
    let p = err_from_is_err_and c.from_residual-in_err-has_import_conflict.result c.from_residual-in_err-has_import_conflict.ensures.1 in
    rw (p.1, p.2) tt

pub returns-in_err-has_duplicate_name-clause-sound : goal.returns-in_err-has_duplicate_name-clause-sound
returns-in_err-has_duplicate_name-clause-sound c =
    let p = err_from_is_err_and c.from_residual-in_err-has_duplicate_name.result c.from_residual-in_err-has_duplicate_name.ensures.1 in
    rw p.1 tt

pub returns-in_err-has_duplicate_name-clause-refused : goal.returns-in_err-has_duplicate_name-clause-refused
returns-in_err-has_duplicate_name-clause-refused c =
    let p = err_from_is_err_and c.from_residual-in_err-has_duplicate_name.result c.from_residual-in_err-has_duplicate_name.ensures.1 in
    rw (p.1, p.2) tt

pub returns-then-has_bad_options-clause-sound : goal.returns-then-has_bad_options-clause-sound
returns-then-has_bad_options-clause-sound c = tt

pub returns-then-branch-clause-sound : goal.returns-then-branch-clause-sound
returns-then-branch-clause-sound c = tt

pub returns-then-branch-2-clause-sound : goal.returns-then-branch-2-clause-sound
returns-then-branch-2-clause-sound c = tt

pub returns-then-branch-3-clause-sound : goal.returns-then-branch-3-clause-sound
returns-then-branch-3-clause-sound c = tt

pub returns-then-branch-4-clause-sound : goal.returns-then-branch-4-clause-sound
returns-then-branch-4-clause-sound c = tt

pub returns-then-branch-5-clause-sound : goal.returns-then-branch-5-clause-sound
returns-then-branch-5-clause-sound c = tt

pub returns-then-has_bad_options-clause-same : goal.returns-then-has_bad_options-clause-same
returns-then-has_bad_options-clause-same c = refl

pub returns-in_err-has_type_mismatch-clause-same : goal.returns-in_err-has_type_mismatch-clause-same
returns-in_err-has_type_mismatch-clause-same c = c.has_type_mismatch.ensures.same

pub returns-in_err-has_bad_memory-clause-same : goal.returns-in_err-has_bad_memory-clause-same
returns-in_err-has_bad_memory-clause-same c = c.has_type_mismatch.ensures.same

pub returns-in_err-has_bad_signature-clause-same : goal.returns-in_err-has_bad_signature-clause-same
returns-in_err-has_bad_signature-clause-same c = c.has_type_mismatch.ensures.same

pub returns-in_err-has_import_conflict-clause-same : goal.returns-in_err-has_import_conflict-clause-same
returns-in_err-has_import_conflict-clause-same c = c.has_type_mismatch.ensures.same

pub returns-in_err-has_duplicate_name-clause-same : goal.returns-in_err-has_duplicate_name-clause-same
returns-in_err-has_duplicate_name-clause-same c = c.has_type_mismatch.ensures.same

pub returns-then-branch-clause-same : goal.returns-then-branch-clause-same
returns-then-branch-clause-same c = c.has_type_mismatch.ensures.same

pub returns-then-branch-2-clause-same : goal.returns-then-branch-2-clause-same
returns-then-branch-2-clause-same c = c.has_type_mismatch.ensures.same

pub returns-then-branch-3-clause-same : goal.returns-then-branch-3-clause-same
returns-then-branch-3-clause-same c = c.has_type_mismatch.ensures.same

pub returns-then-branch-4-clause-same : goal.returns-then-branch-4-clause-same
returns-then-branch-4-clause-same c = c.has_type_mismatch.ensures.same

pub returns-then-branch-5-clause-same : goal.returns-then-branch-5-clause-same
returns-then-branch-5-clause-same c = c.has_type_mismatch.ensures.same

pub returns-clause-same : goal.returns-clause-same
returns-clause-same c = c.has_type_mismatch.ensures.same

pub returns-clause-refused : goal.returns-clause-refused
returns-clause-refused c = tt
