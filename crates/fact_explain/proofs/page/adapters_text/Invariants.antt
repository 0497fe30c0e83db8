use Rattle.std.proofs.Common.{string_bytes, take}
use Rattle.fact_explain.specs.Pages.{IsAdapterPart}
use Rattle.fact_explain.specs.Concatenations.{IsConcatenation}
use Rattle.fact_explain.proofs.page.adapters_text.Given as goal

abbrev pub invariant-loop-k : goal.invariant-loop-k
invariant-loop-k l = IsConcatenation (IsAdapterPart l.plan) 0 (take l.k l.plan.adapters) (string_bytes l.text)
