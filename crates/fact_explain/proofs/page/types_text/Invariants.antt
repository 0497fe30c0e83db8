use Rattle.std.proofs.Common.{string_bytes, take}
use Rattle.fact_explain.specs.Pages.{IsTypePart}
use Rattle.fact_explain.specs.Concatenations.{IsConcatenation}
use Rattle.fact_explain.proofs.page.types_text.Given as goal

abbrev pub invariant-loop-k : goal.invariant-loop-k
invariant-loop-k l = IsConcatenation (IsTypePart l.plan) 0 (take l.k l.plan.types) (string_bytes l.text)
