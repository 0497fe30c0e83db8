-- What is so of the plans that are generated.
use Rattle.std.specs.Prelude.{◌≡◌, ℕ, ◌≤◌, map}
use Rattle.std.specs.List.{range_with_len}
use Rattle.fact_adapter_rules.specs.Adapters.{adapters_of}
use Rattle.fact_adapter_rules.specs.FirstFault.{IsFaultlessPlan}
use Rattle.fact_generate.specs.Generated.{generated, most_generated}
use Rattle.fact_generate.specs.Linked.{linked}

-- None has a fault.
abbrev pub GeneratedAreFaultless : Type 0
GeneratedAreFaultless = (n : ℕ) → n ≤ most_generated → IsFaultlessPlan (generated n)

-- Their adapters, with all that they name looked up, are these.
abbrev pub GeneratedAreLinked : Type 0
GeneratedAreLinked = (n : ℕ) → adapters_of (generated n) ≡ map linked (range_with_len 0 n)
