use Rattle.fact_emit.proofs.TaskItems.{function-at-place, no-function-place}
use Rattle.fact_emit.proofs.sections.ModuleSections.copied_function.Goals as goal

pub returns-in_default : goal.returns-in_default
returns-in_default c = no-function-place c.args.self.now c.args.place c.in_default.not-Some

pub returns-in_ok-try_clone-in-Some-function_def : goal.returns-in_ok-try_clone-in-Some-function_def
returns-in_ok-try_clone-in-Some-function_def c = function-at-place c.args.self.now c.args.place c.in-Some.is c.in-Some-function_def.ensures c.in_ok-try_clone-in-Some-function_def.ensures
