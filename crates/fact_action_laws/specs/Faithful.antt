-- What a sync adapter between two instances makes of values: its parameters are carried to the callee, and the callee's
-- results back. It is said of runs of actions, without a word of code (canonical ABI, "`canon lift`", "`canon lower`").
use Rattle.std.specs.Prelude.{◌≡◌, ◌≢◌, ℕ, ◌+◌, ◌*◌, ◌≤◌, Bool, true, false, List, [], ◌∷◌, ◌++◌, length, take, Option, Some, None, if◌then◌else◌}
use Rattle.fact_types.specs.declared.flats.FlatType.{FlatType}
use Rattle.fact_types.specs.Agrees.{AgreesPlaces}
use Rattle.fact_types.specs.FlatShapes.{flat_all}
use Rattle.fact_types.specs.Shapes.{Shape}
use Rattle.fact_types.specs.Signatures.{flat_params, lower_limit, lift_results_limit, lowered_flat_types}
use Rattle.fact_machine.specs.declared.types.CoreValue.{CoreValue}
use Rattle.fact_machine.specs.declared.types.CoreValue.TheVariants.{I32}
use Rattle.fact_machine.specs.declared.types.MachineState.{MachineState}
use Rattle.fact_machine.specs.World.{World, Trap, Throw, Lack}
use Rattle.fact_types.specs.declared.import.Import.TheVariants as import
use Rattle.fact_types.specs.Adapters.{is_wide, Side, LinkedAdapter}
use Rattle.fact_actions.specs.Sides.{width_of_side, first_bits, side_abi, options_of}
use Rattle.fact_actions.specs.Running.{ImportPlaces, Call, Ended, Gave, Halted, Strayed, calls_in}
use Rattle.fact_types.specs.Tuples.{tuple_members}
use Rattle.fact_actions.specs.Adapters.{last_bits}
use Rattle.fact_actions.specs.Calls.{is_call_of, results, state_after, side_memory}
use Rattle.fact_actions.specs.Order.{flag_in}
use Rattle.fact_values.specs.declared.side.SideAbi.{SideAbi}
use Rattle.fact_values.specs.declared.value.Value.{Value}
use Rattle.fact_values.specs.Canonical.{AreCanonicalAt, AreCanonicalFlat}
use Rattle.fact_values.specs.Carry.{take_number, handles}
use Rattle.fact_values.specs.Handles.{Crossing, cross_places}
use Rattle.fact_values.specs.IsA.{AreMembers}
use Rattle.fact_values.specs.Limits.{Moving, AreWithinLimits, AreWithinAt}
use Rattle.fact_values.specs.Tuples.{lower_param_values, lift_param_values, lower_result_values, lift_result_values}
use Rattle.fact_values.specs.Weight.{weight_members}
use Rattle.fact_action_laws.specs.Items.{crossings, numbers}
use Rattle.fact_actions.specs.AdapterLaws.{IsCalledOnce}
use Rattle.fact_actions.specs.Regions.{IsAreaSound}

-- ---- the values of a function, on either side

-- those of the parameters, as the lower side was given them and as the callee is
abbrev pub params_given : ImportPlaces → LinkedAdapter → (args : List CoreValue) → (first : MachineState) → Option (List Value)
params_given p a args first = lower_param_values a.lower.async_side (side_abi (options_of a.lower)) (side_memory p (options_of a.lower) first) a.lower.params args

abbrev pub params_passed : ImportPlaces → LinkedAdapter → (callee : Call) → Option (List Value)
params_passed p a callee = lift_param_values (side_abi (options_of a.lift)) (side_memory p (options_of a.lift) callee.before) a.lift.params callee.args

-- those of the results, as the callee answers them and as the lower side gets them
abbrev pub results_answered : ImportPlaces → LinkedAdapter → (callee : Call) → Option (List Value)
results_answered p a callee = lift_result_values a.lift.async_side (side_abi (options_of a.lift)) (side_memory p (options_of a.lift) (state_after callee)) a.lift.results (results callee)

abbrev pub results_got : ImportPlaces → LinkedAdapter → (args given : List CoreValue) → (last : MachineState) → Option (List Value)
results_got p a args given last = lower_result_values a.lower.async_side (side_abi (options_of a.lower)) (side_memory p (options_of a.lower) last) a.lower.results args given

-- ---- one transfer

-- Values of source types are carried one by one to values of destination types that agree with theirs. Their handles take
-- these numbers, all of them, one value after another.
pub record AreCarried (ss ds : List Shape) (vs : List Value) (ns : List ℕ) (us : List Value) : Type 0 where
  pub are_members : AreMembers (tuple_members ss) vs
  pub agree : AgreesPlaces (tuple_members ss) (tuple_members ds)
  pub are : cross_places take_number (tuple_members ss) vs (tuple_members ds) ns ≡ Some (us, [])

-- the handles that cross with values, in the order of the destination
abbrev pub all_handles : (ss ds : List Shape) → List Value → List Crossing
all_handles (s ∷ ss) (d ∷ ds) (v ∷ vs) = handles s d v ++ all_handles ss ds vs
all_handles ss ds vs = []

-- A transfer: there are values at its source, what stands at its destination in the end are those values, carried with the
-- numbers that its calls answered, and its calls have moved just the handles of the values, in order.
pub record IsTransferred (ss ds : List Shape) (source destination : Option (List Value)) (calls : List Call) : Type 0 where
  pub values : List Value
  pub there : source ≡ Some values
  pub outs : List Value
  pub stand : destination ≡ Some outs
  pub carried : AreCarried ss ds values (numbers calls) outs
  pub handles_are : crossings calls ≡ all_handles ss ds values

-- What stands for values is canonical, where they are flat, and where they lie behind a pointer.
abbrev pub AreCanonical : SideAbi → (bytes : List ℕ) → Option (List FlatType) → List Shape → (given : List CoreValue) → (pointer : ℕ) → Type 0
AreCanonical side bytes (Some flats) ts given pointer = AreCanonicalFlat side bytes (tuple_members ts) given
AreCanonical side bytes None ts given pointer = AreCanonicalAt side bytes (tuple_members ts) pointer 0

-- the flat types of a lower side's results, where they have no return pointer
abbrev pub flat_results_of : Side → Option (List FlatType)
flat_results_of s = lowered_flat_types s.async_side (width_of_side (options_of s)) s.results

-- ---- a whole run that returns

-- A run from a first state to a last one, with these calls, that gave core values: the lower side may leave, the callee is
-- called once, the calls before it are those of the transfer of parameters, and the calls behind it those of results.
pub record IsFaithful (p : ImportPlaces) (a : LinkedAdapter) (args : List CoreValue) (first : MachineState) (calls : List Call) (given : List CoreValue) (last : MachineState) : Type 0 where
  pub may_leave : flag_in p a.lower.instance first.globals ≢ I32 0
  pub once : IsCalledOnce a calls
  pub params : IsTransferred a.lower.params a.lift.params (params_given p a args first) (params_passed p a once.callee) once.before
  pub results : IsTransferred a.lift.results a.lower.results (results_answered p a once.callee) (results_got p a args given last) once.behind
  -- what the callee was given and what the lower side gets is canonical, in memory too
  pub params_canonical : AreCanonical (side_abi (options_of a.lift)) (side_memory p (options_of a.lift) once.callee.before) (flat_all (width_of_side (options_of a.lift)) 16 a.lift.params) a.lift.params once.callee.args (first_bits once.callee.args)
  pub results_canonical : AreCanonical (side_abi (options_of a.lower)) (side_memory p (options_of a.lower) last) (flat_results_of a.lower) a.lower.results given (last_bits args)

abbrev pub WhereGiven : {A : Type 0} → Ended A → (List Call → A → World → Type 0) → Type 0
WhereGiven (Gave n cs a w) P = P cs a w
WhereGiven (Halted n cs s w) P = Unit {0}
WhereGiven (Strayed n cs w) P = Unit {0}

-- ---- weights

abbrev pub weight_of_values : List Shape → Option (List Value) → ℕ
weight_of_values ts None = 0
weight_of_values ts (Some vs) = weight_members (tuple_members ts) vs

-- of the results that the callee answered, where it did
abbrev pub answered_weight : ImportPlaces → LinkedAdapter → List Call → ℕ
answered_weight p a [] = 0
answered_weight p a (c ∷ cs) = if is_call_of a.callee c then weight_of_values a.lift.results (results_answered p a c) else answered_weight p a cs

-- of what came in and of what the callee answered, in their source types
abbrev pub whole_weight : ImportPlaces → LinkedAdapter → (args : List CoreValue) → (first : MachineState) → List Call → ℕ
whole_weight p a args first calls = weight_of_values a.lower.params (params_given p a args first) + answered_weight p a calls

-- ---- limits

-- values that stand at a source are within limits, where they are flat, and where they lie behind a pointer
abbrev pub AreInBounds : Moving → Option (List FlatType) → (ss ds : List Shape) → (given : List CoreValue) → Type 0
AreInBounds m (Some flats) ss ds given = AreWithinLimits m (tuple_members ss) (tuple_members ds) given
AreInBounds m None ss ds given = AreWithinAt m (tuple_members ss) (tuple_members ds) (first_bits given)

-- There are such values, and they are within limits.
pub record AreThere (ts : List Shape) (source : Option (List Value)) (Bounds : Type 0) : Type 0 where
  pub values : List Value
  pub there : source ≡ Some values
  pub bounds : Bounds

-- the core values that stand for a lower side's parameters: a return pointer may follow
abbrev pub leading_args : Side → List CoreValue → List CoreValue
leading_args s args = take (length (flat_params (is_wide s.memory) (lower_limit s.async_side) s.params)) args

abbrev pub params_moving : ImportPlaces → LinkedAdapter → (first : MachineState) → Moving
params_moving p a first = record { from = side_abi (options_of a.lower); to = side_abi (options_of a.lift); bytes = side_memory p (options_of a.lower) first }

abbrev pub results_moving : ImportPlaces → LinkedAdapter → (callee : Call) → Moving
results_moving p a callee = record { from = side_abi (options_of a.lift); to = side_abi (options_of a.lower); bytes = side_memory p (options_of a.lift) (state_after callee) }

abbrev pub ParamsAreThere : ImportPlaces → LinkedAdapter → (args : List CoreValue) → (first : MachineState) → Type 0
ParamsAreThere p a args first =
    AreThere a.lower.params (params_given p a args first)
    (AreInBounds (params_moving p a first) (flat_all (width_of_side (options_of a.lower)) (lower_limit a.lower.async_side) a.lower.params) a.lower.params a.lift.params (leading_args a.lower args))

abbrev pub ResultsAreThere : ImportPlaces → LinkedAdapter → (callee : Call) → Type 0
ResultsAreThere p a callee =
    AreThere a.lift.results (results_answered p a callee)
    (AreInBounds (results_moving p a callee) (flat_all (width_of_side (options_of a.lift)) (lift_results_limit a.lift.async_side) a.lift.results) a.lift.results a.lower.results (results callee))

-- What has to hold of a run that is to come to its end: the lower side may leave, the parameters are there within limits,
-- the return area is sound at the start, and where the callee answered, its results are there within limits.
pub record IsInLimits (p : ImportPlaces) (a : LinkedAdapter) (args : List CoreValue) (first : MachineState) (calls : List Call) : Type 0 where
  pub may_leave : flag_in p a.lower.instance first.globals ≢ I32 0
  pub params : ParamsAreThere p a args first
  pub area : IsAreaSound p a args first
  pub results : (before : List Call) (callee : Call) (behind : List Call) → calls ≡ before ++ (callee ∷ behind) → callee.what ≡ import.CoreDef a.callee → ResultsAreThere p a callee

-- ---- ends

-- an end at which something is given, or an answer is lacking
abbrev pub GivesOrLacks : {A : Type 0} → Ended A → Type 0
GivesOrLacks (Gave n cs a w) = Unit {0}
GivesOrLacks (Halted n cs Lack w) = Unit {0}
GivesOrLacks (Halted n cs Trap w) = ⊥
GivesOrLacks (Halted n cs Throw w) = ⊥
GivesOrLacks (Strayed n cs w) = ⊥

-- A run comes to its end with few calls for what it carries.
pub record ComesToEnd (p : ImportPlaces) (a : LinkedAdapter) (args : List CoreValue) (first : MachineState) (e : Ended (List CoreValue)) : Type 0 where
  pub ends : GivesOrLacks e
  pub few : length (calls_in e) ≤ 30 * (whole_weight p a args first (calls_in e) + 1)
