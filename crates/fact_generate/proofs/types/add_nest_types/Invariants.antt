-- So many levels stand behind what was there.
use Rattle.std.proofs.Common.{◌≡◌, ◌++◌}
use Rattle.fact_generate.specs.Forms.{nest_types}
use Rattle.fact_generate.proofs.types.add_nest_types.Given as goal

abbrev pub invariant-loop-level : goal.invariant-loop-level
invariant-loop-level l = l.types ≡ l.initial.types ++ nest_types l.place l.level
