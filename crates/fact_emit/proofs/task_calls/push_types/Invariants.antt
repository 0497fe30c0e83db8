use Rattle.std.proofs.Common.{◌≡◌, ◌++◌, take}
use Rattle.fact_emit.proofs.task_calls.push_types.Given as goal

abbrev pub invariant-loop-ty : goal.invariant-loop-ty
invariant-loop-ty l = l.types ≡ l.initial.types ++ take l.ty-index l.more
