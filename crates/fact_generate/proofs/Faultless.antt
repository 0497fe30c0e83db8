-- What is so of the plans that are generated.
use Rattle.fact_generate.specs.Laws.{GeneratedAreFaultless, GeneratedAreLinked}
use Rattle.fact_generate.proofs.AdaptersFaultless.{adapters_faultless}
use Rattle.fact_generate.proofs.Linking.{adapters_linked}
use Rattle.fact_generate.proofs.TypesFaultless.{types-faultless}

pub generated_are_faultless : GeneratedAreFaultless
generated_are_faultless n few = record { types = types-faultless n few; adapters = adapters_faultless n few }

pub generated_are_linked : GeneratedAreLinked
generated_are_linked n = adapters_linked n
