-- Cited by clauses of the callee between (`Passing`) alone.
-- What a callee between tells of its last call, and what stays of it.
use Rattle.std.specs.Prelude.{◌≡◌, ℕ, List, Option, Some, None, Result, Ok, Err}
use Rattle.fact_wasm.specs.declared.module.WasmModule.{WasmModule}
use Rattle.fact_types.specs.Tables.{Tables}
use Rattle.fact_values.specs.declared.value.Value.{Value}
use Rattle.fact_host.specs.declared.calling.HostCall.{HostCall}
use Rattle.fact_host.specs.declared.callee.HostError.{HostError}
use Rattle.fact_host.specs.declared.callee.HostError.TheVariants.{NoResults}
use Rattle.fact_host.specs.Callees.{MayKeepGiven, number_of_error}
use Rattle.fact_chain.specs.declared.passing.Passed.{Passed}
use Rattle.fact_chain.specs.declared.passing.Passing.{Passing}
use Rattle.fact_chain.specs.Between.{CanBeRun, HasPassedOn, passed_results}

-- ---- what it tells

abbrev pub last_error : Passing → ℕ
last_error p = p.last

abbrev pub last_answer : Passing → Option (List Value)
last_answer p = passed_results p.outcome

abbrev pub last_given : Passing → Option (List Value)
last_given p = p.given

-- ---- what holds of it

-- it can make the second call
abbrev pub IsReady : Passing → Type 0
IsReady p = CanBeRun p.module.now p.types.now p.second.now

-- what it keeps is what came of its last call
abbrev pub IsPassing : Passing → Type 0
IsPassing p = HasPassedOn p.module.now p.types.now p.second.now p.results p.given p.outcome p.last

-- It makes this call, whose own callee answers these results.
pub record IsPassingTo (m : WasmModule) (t : Tables) (second : HostCall) (results : List Value) (p : Passing) : Type 0 where
  pub code : p.module.now ≡ m
  pub types : p.types.now ≡ t
  pub second_is : p.second.now ≡ second
  pub results_are : p.results ≡ results

-- A later time of it: it makes the same call, and keeps what came of its last one.
pub record StaysPassing (first last : Passing) : Type 0 where
  pub same : IsPassingTo first.module.now first.types.now first.second.now first.results last
  pub holds : IsPassing last

-- ---- one call

-- the answer by what the caller of the second call got
abbrev pub answer_by : Option (List Value) → Result (List Value) HostError
answer_by None = Err NoResults
answer_by (Some values) = Ok values

-- the number of the error that is answered; 0 is none
abbrev pub number_of_answer : Result (List Value) HostError → ℕ
number_of_answer (Ok values) = 0
number_of_answer (Err error) = number_of_error error

abbrev pub IsAnswerBy : Option (List Value) → Result (List Value) HostError → Type 0
IsAnswerBy results (Ok values) = results ≡ Some values
IsAnswerBy results (Err error) = results ≡ None

-- What came of a call with these parameters.
pub record IsPassed (m : WasmModule) (t : Tables) (second : HostCall) (params results : List Value) (p : Passed) : Type 0 where
  pub holds : HasPassedOn m t second results p.given p.outcome (number_of_answer p.answer)
  pub given_is : MayKeepGiven p.given params
  pub answer_is : IsAnswerBy (passed_results p.outcome) p.answer
