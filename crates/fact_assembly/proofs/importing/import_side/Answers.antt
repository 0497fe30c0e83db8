use Rattle.std.proofs.Common.{ap, sym, ◌∙◌, subst}
use Rattle.fact_types.specs.Adapters.{is_wide}
use Rattle.fact_types.specs.declared.outside.CoreDef.TheVariants as def
use Rattle.fact_emit.specs.AdapterImports.{IsImportedIfAny, IsMemoryImportedIfAny}
use Rattle.fact_emit.specs.ImportSection.{Callback, Flags, Realloc}
use Rattle.fact_emit.specs.DefImports.{IsDefImported}
use Rattle.fact_emit.specs.Options.{number_if_any}
use Rattle.fact_emit.proofs.ImportLaws.{extended_on}
use Rattle.fact_emit.proofs.SidesImported.{memory_later, realloc_later}
use Rattle.fact_assembly.proofs.ImportingLaws.{memory-there}
use Rattle.fact_assembly.proofs.importing.import_side.Goals as goal

pub returns-clause-imported : goal.returns-clause-imported
returns-clause-imported c s names = record {
  flagged = c.flags.new.self;
  stored = c.import_memory.new.sections;
  supplied = c.import_realloc.new.sections;
  flags =
      let placed = subst (λ n. IsDefImported c.args.sections.now c.flags.new.self (Flags c.args.options.now.instance.number) (def.InstanceFlags c.args.options.now.instance) n) (sym (ap (λ i. i.number) c.from_u32.ensures)) c.in_ok-flags.ensures.imported in
      subst (λ i. IsDefImported c.args.sections.now c.flags.new.self (Flags i) (def.InstanceFlags (record { table = _; number = i })) c.from_u32.result.number) (sym names.instance) placed;
  memory = subst (λ m. IsMemoryImportedIfAny c.flags.new.self c.import_memory.new.sections m (number_if_any c.in_ok-memory.memory)) (sym names.memory) c.in_ok-memory.ensures.imported;
  realloc =
      let wide = subst (λ b. IsImportedIfAny c.import_memory.new.sections c.import_realloc.new.sections (Realloc b) c.args.options.now.realloc (number_if_any c.in_ok-realloc.realloc)) (c.memory_type-memory64.ensures.memory64 ∙ ap is_wide (sym names.memory)) c.in_ok-realloc.ensures.imported in
      subst (λ d. IsImportedIfAny c.import_memory.new.sections c.import_realloc.new.sections (Realloc (is_wide s.memory)) d (number_if_any c.in_ok-realloc.realloc)) (sym names.realloc) wide;
  callback = subst (λ d. IsImportedIfAny c.import_realloc.new.sections c.import_callback.new.sections Callback d (number_if_any c.in_ok-callback.callback)) (sym names.callback) c.in_ok-callback.ensures.imported;
}

pub returns-clause-realloc : goal.returns-clause-realloc
returns-clause-realloc c = realloc_later c.in_ok-callback.ensures.keeps (record { below = c.in_ok-realloc.ensures.below })

pub returns-clause-memory : goal.returns-clause-memory
returns-clause-memory c =
    memory_later (extended_on c.in_ok-realloc.ensures.keeps c.in_ok-callback.ensures.keeps) (record { below = λ there. memory-there c.import_memory.new.sections c.in_ok-memory.memory c.in_ok-memory.ensures.below there })

pub returns-clause-keeps : goal.returns-clause-keeps
returns-clause-keeps c = extended_on c.in_ok-flags.ensures.keeps (extended_on c.in_ok-memory.ensures.keeps (extended_on c.in_ok-realloc.ensures.keeps c.in_ok-callback.ensures.keeps))

pub returns-in_err-memory-clause-keeps : goal.returns-in_err-memory-clause-keeps
returns-in_err-memory-clause-keeps c = extended_on c.in_ok-flags.ensures.keeps c.in_err-memory.ensures.keeps

pub returns-in_err-realloc-clause-keeps : goal.returns-in_err-realloc-clause-keeps
returns-in_err-realloc-clause-keeps c = extended_on c.in_ok-flags.ensures.keeps (extended_on c.in_ok-memory.ensures.keeps c.in_err-realloc.ensures.keeps)

pub returns-in_err-callback-clause-keeps : goal.returns-in_err-callback-clause-keeps
returns-in_err-callback-clause-keeps c = extended_on c.in_ok-flags.ensures.keeps (extended_on c.in_ok-memory.ensures.keeps (extended_on c.in_ok-realloc.ensures.keeps c.in_err-callback.ensures.keeps))
