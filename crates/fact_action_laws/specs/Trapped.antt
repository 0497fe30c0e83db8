-- Runs that are honest until a trap. A request of realloc that no memory can give has no honest answer, so no run of honest calls
-- alone shows it; answered by a trap it is the last call of a run.
use Rattle.std.specs.Prelude.{◌≡◌, ◌⊎◌, Bool, true, false, List, [], ◌∷◌, ◌++◌}
use Rattle.std.specs.List.{filter}
use Rattle.fact_types.specs.Adapters.{LinkedAdapter}
use Rattle.fact_machine.specs.declared.types.Answer.TheVariants.{Returns, Traps, Throws}
use Rattle.fact_machine.specs.declared.types.CoreValue.{CoreValue}
use Rattle.fact_machine.specs.declared.types.MachineState.{MachineState}
use Rattle.fact_machine.specs.Trace.{Grows}
use Rattle.fact_actions.specs.Adapters.{lower_signature_of, start_params, return_params}
use Rattle.fact_actions.specs.Honest.{AreHonestSync, AreHonestStart, AreHonestReturn, IsHonestFrom}
use Rattle.fact_actions.specs.Regions.{Landing}
use Rattle.fact_actions.specs.Requests.{RequestPart, requests_in, answers_in, parts_requests}
use Rattle.fact_actions.specs.Running.{ImportPlaces, Call, Ended}
use Rattle.fact_actions.specs.Sides.{Transfer}

-- ---- runs

-- Honest calls, and behind them one that was answered by a trap.
pub record LastTraps (Honest : List Call → Type 0) (calls : List Call) : Type 0 where
  pub front : List Call
  pub last : Call
  pub calls_are : calls ≡ front ++ last ∷ []
  pub front_honest : Honest front
  pub last_traps : last.answer ≡ Traps

-- Each call but the last returned honestly, and the last one did, or was answered by a trap.
abbrev pub AreHonestUntilTrap : (Honest : List Call → Type 0) → List Call → Type 0
AreHonestUntilTrap Honest calls = Honest calls ⊎ LastTraps Honest calls

-- So are those of a run of a sync adapter, and of the functions of an async one that move parameters and results.
abbrev pub IsHonestUntilTrap : ImportPlaces → LinkedAdapter → (args : List CoreValue) → MachineState → Ended (List CoreValue) → Type 0
IsHonestUntilTrap p a args state e = IsHonestFrom p (lower_signature_of a).params (AreHonestUntilTrap (AreHonestSync p a args)) args state e

abbrev pub IsHonestStartUntilTrap : ImportPlaces → LinkedAdapter → (args : List CoreValue) → MachineState → Ended (List CoreValue) → Type 0
IsHonestStartUntilTrap p a args state e = IsHonestFrom p (start_params a) (AreHonestUntilTrap (AreHonestStart p a)) args state e

abbrev pub IsHonestReturnUntilTrap : ImportPlaces → LinkedAdapter → (args : List CoreValue) → MachineState → Ended (List CoreValue) → Type 0
IsHonestReturnUntilTrap p a args state e = IsHonestFrom p (return_params a) (AreHonestUntilTrap (AreHonestReturn p a args)) args state e

-- ---- requests

abbrev pub has_returned : Call → Bool
has_returned c = elim c.answer [ Returns rs state ↦ true | Traps ↦ false | Throws ↦ false ]

-- all of them returned
abbrev pub HaveReturned : List Call → Type 0
HaveReturned calls = filter has_returned calls ≡ calls

-- the answers so far: a call that did not return has none
abbrev pub answers_so_far : Landing → List Call → List (List CoreValue)
answers_so_far l calls = answers_in l (filter has_returned calls)

-- The calls of realloc so far are the first of those that parts ask for by the answers so far.
abbrev pub BeginRequestsSoFar : Transfer → Landing → List RequestPart → List Call → Type 0
BeginRequestsSoFar tr l parts calls = Grows (requests_in l calls) (parts_requests tr parts (answers_so_far l calls))
