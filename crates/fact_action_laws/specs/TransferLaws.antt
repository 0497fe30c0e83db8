-- The laws of the two functions of an async adapter that move parameters and results: each does what one transfer of a sync
-- adapter does, with parameters of its own (canonical ABI, "`canon lift`", "`canon lower`": `on_start`, `on_resolve`).
use Rattle.std.specs.Prelude.{◌≡◌, ℕ, ◌+◌, ◌*◌, ◌≤◌, false, List, length, take, Option}
use Rattle.fact_types.specs.Adapters.{is_wide, Side, LinkedAdapter}
use Rattle.fact_types.specs.FlatShapes.{flat_all}
use Rattle.fact_types.specs.Signatures.{flat_params, lift_results_limit}
use Rattle.fact_machine.specs.declared.types.CoreValue.{CoreValue}
use Rattle.fact_machine.specs.declared.types.MachineState.{MachineState}
use Rattle.fact_machine.specs.World.{World}
use Rattle.fact_values.specs.declared.value.Value.{Value}
use Rattle.fact_values.specs.Limits.{Moving}
use Rattle.fact_values.specs.Tuples.{lift_param_values, lift_result_values}
use Rattle.fact_actions.specs.Adapters.{AdapterTunables, async_start, async_return, last_bits}
use Rattle.fact_actions.specs.Calls.{side_memory}
use Rattle.fact_actions.specs.Honest.{IsHonestStart, IsHonestReturn}
use Rattle.fact_actions.specs.Regions.{IsAreaSound}
use Rattle.fact_actions.specs.Running.{ImportPlaces, Call, Ended, moved_weight, calls_in, run}
use Rattle.fact_actions.specs.Sides.{first_bits, side_abi, options_of, width_of_side}
use Rattle.fact_action_laws.specs.Faithful.{params_given, results_got, IsTransferred, AreCanonical, flat_results_of, WhereGiven, weight_of_values, AreInBounds, AreThere, ParamsAreThere, GivesOrLacks}
use Rattle.fact_action_laws.specs.FaithfulLaws.{IsCheckedAdapter, TextsMove}

-- ---- values

-- the parameters that the first function hands on, which the callee is to take: what it was given is `params_given`
abbrev pub params_handed : ImportPlaces → LinkedAdapter → (given : List CoreValue) → (last : MachineState) → Option (List Value)
params_handed p a given last = lift_param_values (side_abi (options_of a.lift)) (side_memory p (options_of a.lift) last) a.lift.params given

-- the core values that stand for a lift side's results: a return pointer may follow
abbrev pub leading_results : Side → List CoreValue → List CoreValue
leading_results s args = take (length (flat_params (is_wide s.memory) (lift_results_limit s.async_side) s.results)) args

-- the results of the callee that the second function takes: what the lower side gets of them is `results_got`
abbrev pub results_taken : ImportPlaces → LinkedAdapter → (args : List CoreValue) → (first : MachineState) → Option (List Value)
results_taken p a args first = lift_result_values a.lift.async_side (side_abi (options_of a.lift)) (side_memory p (options_of a.lift) first) a.lift.results (leading_results a.lift args)

-- ---- runs that return

-- What it hands on stands for the parameters that it was given, carried by the answers of these calls, and is canonical.
pub record HasHandedParams (p : ImportPlaces) (a : LinkedAdapter) (args : List CoreValue) (first : MachineState) (calls : List Call) (given : List CoreValue) (last : MachineState) : Type 0 where
  pub params : IsTransferred a.lower.params a.lift.params (params_given p a args first) (params_handed p a given last) calls
  pub canonical : AreCanonical (side_abi (options_of a.lift)) (side_memory p (options_of a.lift) last) (flat_all (width_of_side (options_of a.lift)) 16 a.lift.params) a.lift.params given (first_bits given)

-- What it hands on, or has written into the return area, stands so for the results that it took.
pub record HasHandedResults (p : ImportPlaces) (a : LinkedAdapter) (args : List CoreValue) (first : MachineState) (calls : List Call) (given : List CoreValue) (last : MachineState) : Type 0 where
  pub results : IsTransferred a.lift.results a.lower.results (results_taken p a args first) (results_got p a args given last) calls
  pub canonical : AreCanonical (side_abi (options_of a.lower)) (side_memory p (options_of a.lower) last) (flat_results_of a.lower) a.lower.results given (last_bits args)

-- ---- limits

abbrev pub taken_moving : ImportPlaces → LinkedAdapter → (first : MachineState) → Moving
taken_moving p a first = record { from = side_abi (options_of a.lift); to = side_abi (options_of a.lower); bytes = side_memory p (options_of a.lift) first }

-- The results are there, within limits.
abbrev pub TakenAreThere : ImportPlaces → LinkedAdapter → (args : List CoreValue) → (first : MachineState) → Type 0
TakenAreThere p a args first =
    AreThere a.lift.results (results_taken p a args first)
    (AreInBounds (taken_moving p a first) (flat_all (width_of_side (options_of a.lift)) (lift_results_limit a.lift.async_side) a.lift.results) a.lift.results a.lower.results (leading_results a.lift args))

-- A run that carries values of this weight gives something or lacks an answer, and makes few calls.
pub record EndsInFew (weight : ℕ) (e : Ended (List CoreValue)) : Type 0 where
  pub ends : GivesOrLacks e
  pub few : length (calls_in e) ≤ 30 * (weight + 1)

-- ---- laws, where texts are moved as the law of moves wants it

-- what is said of the honest runs of the function that moves the parameters
abbrev pub EachHonestStart : (ImportPlaces → AdapterTunables → LinkedAdapter → (args : List CoreValue) → MachineState → Ended (List CoreValue) → Type 0) → Type 0
EachHonestStart P =
    (p : ImportPlaces) (u : AdapterTunables) (a : LinkedAdapter) (args : List CoreValue) (w : World)
    → IsCheckedAdapter p a → TextsMove p u a → IsHonestStart p a args w.state (run p (async_start u a args) w)
    → P p u a args w.state (run p (async_start u a args) w)

-- A run that gives something has carried the parameters.
abbrev pub StartsAreFaithful : Type 0
StartsAreFaithful = EachHonestStart (λ p u a args first e. WhereGiven e (λ cs vs w. HasHandedParams p a args first cs vs w.state))

-- The nodes that it moved weigh what they do.
abbrev pub StartsWeigh : Type 0
StartsWeigh = EachHonestStart (λ p u a args first e. WhereGiven e (λ cs vs w. moved_weight e ≡ weight_of_values a.lower.params (params_given p a args first)))

-- Without debug checks, a run of parameters within limits comes to its end.
abbrev pub StartsComeToEnd : Type 0
StartsComeToEnd = EachHonestStart (λ p u a args first e. u.debug ≡ false → ParamsAreThere p a args first → EndsInFew (weight_of_values a.lower.params (params_given p a args first)) e)

-- the same of the function that moves the results
abbrev pub EachHonestReturn : (ImportPlaces → AdapterTunables → LinkedAdapter → (args : List CoreValue) → MachineState → Ended (List CoreValue) → Type 0) → Type 0
EachHonestReturn P =
    (p : ImportPlaces) (u : AdapterTunables) (a : LinkedAdapter) (args : List CoreValue) (w : World)
    → IsCheckedAdapter p a → TextsMove p u a → IsHonestReturn p a args w.state (run p (async_return u a args) w)
    → P p u a args w.state (run p (async_return u a args) w)

abbrev pub ReturnsAreFaithful : Type 0
ReturnsAreFaithful = EachHonestReturn (λ p u a args first e. WhereGiven e (λ cs vs w. HasHandedResults p a args first cs vs w.state))

abbrev pub ReturnsWeigh : Type 0
ReturnsWeigh = EachHonestReturn (λ p u a args first e. WhereGiven e (λ cs vs w. moved_weight e ≡ weight_of_values a.lift.results (results_taken p a args first)))

-- Here the return area, where there is one, was sound at the start.
abbrev pub ReturnsComeToEnd : Type 0
ReturnsComeToEnd =
    EachHonestReturn (λ p u a args first e.
    u.debug ≡ false → TakenAreThere p a args first → IsAreaSound p a args first → EndsInFew (weight_of_values a.lift.results (results_taken p a args first)) e)
