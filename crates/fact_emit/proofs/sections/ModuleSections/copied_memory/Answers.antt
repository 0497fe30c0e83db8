use Rattle.fact_emit.proofs.TaskItems.{memory-at-place, no-memory-place}
use Rattle.fact_emit.proofs.sections.ModuleSections.copied_memory.Goals as goal

pub returns-in_default : goal.returns-in_default
returns-in_default c = no-memory-place c.args.self.now c.args.place c.in_default.not-Some

pub returns : goal.returns
returns c = memory-at-place c.args.self.now c.args.place c.in-Some.is c.memory_def.ensures c.in_ok-try_clone.ensures
