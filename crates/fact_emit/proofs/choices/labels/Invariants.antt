use Rattle.std.proofs.Common.{◌≡◌}
use Rattle.fact_code_laws.specs.Code.{labels_from}
use Rattle.fact_emit.proofs.choices.labels.Given as goal

abbrev pub invariant-loop-label : goal.invariant-loop-label
invariant-loop-label l = l.labels ≡ labels_from 0 l.label
