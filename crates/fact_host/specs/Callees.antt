-- What callees tell of the last call.
use Rattle.std.specs.Prelude.{◌≡◌, ◌≤◌, ◌⊎◌, ℕ, List, Option, Some, None}
use Rattle.fact_values.specs.declared.value.Value.{Value}
use Rattle.fact_host.specs.declared.callee.HostError.{HostError}
use Rattle.fact_host.specs.declared.callee.HostError.TheVariants.{OutOfMemory, Unsuited, OverLimit, NoResults}
use Rattle.fact_host.specs.declared.callee.Scripted.{Scripted}

-- the number of an error; 0 is none
abbrev pub number_of_error : HostError → ℕ
number_of_error OutOfMemory = 1
number_of_error Unsuited = 2
number_of_error OverLimit = 3
number_of_error NoResults = 4

-- what the last call was given is kept or not
abbrev pub MayKeepGiven : Option (List Value) → (params : List Value) → Type 0
MayKeepGiven given params = (given ≡ None) ⊎ (given ≡ Some params)

-- What stays of a scripted callee: what it answers is the same, and its one error is a want of memory.
pub record IsSameScript (first last : Scripted) : Type 0 where
  pub results : last.results ≡ first.results
  pub wants_memory : first.last ≤ 1 → last.last ≤ 1
