-- What the transfers of an adapter ask of realloc, in a run that is honest until a trap: all that the parts of their values ask for,
-- or so far a front of it; and no region that is cut to what was written grows.
use Rattle.std.specs.Prelude.{◌≡◌, ◌≢◌, true, List, [], ◌∷◌, ◌++◌, Option, Some, None}
use Rattle.fact_types.specs.Adapters.{LinkedAdapter, same_def}
use Rattle.fact_types.specs.declared.import.Import.{Import}
use Rattle.fact_types.specs.declared.import.Import.TheVariants as import
use Rattle.fact_types.specs.declared.outside.CoreDef.{CoreDef}
use Rattle.fact_machine.specs.declared.types.CoreValue.{CoreValue}
use Rattle.fact_machine.specs.declared.types.CoreValue.TheVariants.{I32}
use Rattle.fact_machine.specs.declared.types.MachineState.{MachineState}
use Rattle.fact_actions.specs.Adapters.{AdapterTunables, params_transfer, results_transfer}
use Rattle.fact_actions.specs.Calls.{results, side_memory, state_after}
use Rattle.fact_actions.specs.Order.{flag_in}
use Rattle.fact_actions.specs.Regions.{Landing, params_landing, results_landing, return_area}
use Rattle.fact_actions.specs.Requests.{RequestPart, AreRequests, answers_in}
use Rattle.fact_actions.specs.Running.{ImportPlaces, Call, Ended, Gave, Halted, Strayed}
use Rattle.fact_actions.specs.Sides.{LiftLowerOptions, Transfer, options_of}
use Rattle.fact_action_laws.specs.FaithfulLaws.{setting_of_params, setting_of_results}
use Rattle.fact_action_laws.specs.Parts.{parts_of_params, parts_of_results}
use Rattle.fact_action_laws.specs.Rooms.{AllCutsShrink}
use Rattle.fact_action_laws.specs.Trapped.{HaveReturned, answers_so_far, BeginRequestsSoFar}

-- ---- one transfer

-- The calls of an end ask for all that these parts ask for, where it gave something, and else so far for a front of it; and no region
-- that they cut to what was written grows.
abbrev pub AsksForParts : Transfer → Landing → List RequestPart → Ended (List CoreValue) → Type 0
AsksForParts tr l xs (Gave n cs vs w) = AreRequests tr l xs cs × AllCutsShrink tr xs (answers_in l cs)
AsksForParts tr l xs (Halted n cs s w) = BeginRequestsSoFar tr l xs cs × AllCutsShrink tr xs (answers_so_far l cs)
AsksForParts tr l xs (Strayed n cs w) = Unit {0}

-- The parts of parameters, in the state in which their transfer begins, and those of results, in the state that the callee left.
abbrev pub params_parts : ImportPlaces → AdapterTunables → LinkedAdapter → (args : List CoreValue) → (first : MachineState) → List RequestPart
params_parts p u a args first = parts_of_params (setting_of_params p u a (side_memory p (options_of a.lower) first)) a args

abbrev pub results_parts : ImportPlaces → AdapterTunables → LinkedAdapter → (args given : List CoreValue) → (left : MachineState) → List RequestPart
results_parts p u a args given left = parts_of_results (setting_of_results p u a (return_area a args) (side_memory p (options_of a.lift) left)) a given

-- ---- a sync adapter

-- A call beside transfers tells the runtime, is of a slot of the context, or is that of post-return.
abbrev pub IsOutsideTransfers : (post_return : Option CoreDef) → Import → Type 0
IsOutsideTransfers r (import.CoreDef d) = r ≡ Some d
IsOutsideTransfers r import.EnterSyncCall = Unit {0}
IsOutsideTransfers r import.ExitSyncCall = Unit {0}
IsOutsideTransfers r (import.UnsafeIntrinsic s) = Unit {0}
IsOutsideTransfers r i = ⊥

abbrev pub AreOutsideTransfers : Option CoreDef → List Call → Type 0
AreOutsideTransfers r [] = Unit {0}
AreOutsideTransfers r (c ∷ cs) = IsOutsideTransfers r c.what × AreOutsideTransfers r cs

-- none, or the callee's and calls beside transfers
abbrev pub AreFromCallee : LinkedAdapter → List Call → Type 0
AreFromCallee a [] = Unit {0}
AreFromCallee a (c ∷ cs) = (c.what ≡ import.CoreDef a.callee) × AreOutsideTransfers None cs

-- Each core function that a transfer calls is the realloc of its destination, and it hands nothing to the runtime.
abbrev pub IsOwnRealloc : (to : LiftLowerOptions) → Import → Type 0
IsOwnRealloc to (import.CoreDef f) = (d : CoreDef) × (to.realloc ≡ Some d) × (same_def d f ≡ true)
IsOwnRealloc to (import.PrepareCall memory) = ⊥
IsOwnRealloc to (import.StartCall callback post_return) = ⊥
IsOwnRealloc to i = Unit {0}

abbrev pub CallOwnRealloc : (to : LiftLowerOptions) → List Call → Type 0
CallOwnRealloc to [] = Unit {0}
CallOwnRealloc to (c ∷ cs) = IsOwnRealloc to c.what × CallOwnRealloc to cs

-- Parameters were moved, whose transfer asked for all that they ask for.
pub record ArePassed (p : ImportPlaces) (u : AdapterTunables) (a : LinkedAdapter) (args : List CoreValue) (first : MachineState) : Type 0 where
  pub enter : List Call
  pub params : List Call
  pub enter_is : AreOutsideTransfers None enter
  pub params_are : CallOwnRealloc (options_of a.lift) params
  pub params_return : HaveReturned params
  pub params_ask : AreRequests (params_transfer u a) (params_landing a) (params_parts p u a args first) params
  pub params_shrink : AllCutsShrink (params_transfer u a) (params_parts p u a args first) (answers_in (params_landing a) params)

abbrev pub calls_until_callee : {p : ImportPlaces} {u : AdapterTunables} {a : LinkedAdapter} {args : List CoreValue} {first : MachineState} → ArePassed p u a args first → (others : List Call) → List Call
calls_until_callee t others = t.enter ++ (t.params ++ others)

-- The callee answered.
pub record AreAnswered (p : ImportPlaces) (u : AdapterTunables) (a : LinkedAdapter) (args : List CoreValue) (first : MachineState) : Type 0 where
  pub passed : ArePassed p u a args first
  pub callee : Call
  pub between : List Call
  pub callee_is : callee.what ≡ import.CoreDef a.callee
  pub between_is : AreOutsideTransfers None between

abbrev pub calls_until_results : {p : ImportPlaces} {u : AdapterTunables} {a : LinkedAdapter} {args : List CoreValue} {first : MachineState} → AreAnswered p u a args first → (others : List Call) → List Call
calls_until_results t others = calls_until_callee t.passed (t.callee ∷ (t.between ++ others))

abbrev pub answered_parts : {p : ImportPlaces} {u : AdapterTunables} {a : LinkedAdapter} {args : List CoreValue} {first : MachineState} → AreAnswered p u a args first → List RequestPart
answered_parts {p} {u} {a} {args} t = results_parts p u a args (results t.callee) (state_after t.callee)

-- Results were moved too, and what they ask for was asked for: so the calls have asked for all that the values of both transfers ask for.
pub record HaveAskedForAll (p : ImportPlaces) (u : AdapterTunables) (a : LinkedAdapter) (args : List CoreValue) (first : MachineState) (calls : List Call) : Type 0 where
  pub answered : AreAnswered p u a args first
  pub back : List Call
  pub finish : List Call
  pub calls_are : calls ≡ calls_until_results answered (back ++ finish)
  pub back_is : CallOwnRealloc (options_of a.lower) back
  pub back_returns : HaveReturned back
  pub back_asks : AreRequests (results_transfer u a) (results_landing a args) (answered_parts answered) back
  pub back_shrinks : AllCutsShrink (results_transfer u a) (answered_parts answered) (answers_in (results_landing a args) back)
  pub finish_is : AreOutsideTransfers a.lift.post_return finish

-- How far the calls of a run came that has not returned: by then they have asked for all that the values of the transfers behind them ask for, and for
-- a front of what those of the transfer under way do.
pub data HaveAskedSoFar (p : ImportPlaces) (u : AdapterTunables) (a : LinkedAdapter) (args : List CoreValue) (first : MachineState) (calls : List Call) : Type 0 where
  StopsEntering : AreOutsideTransfers None calls → HaveAskedSoFar p u a args first calls
  StopsInParams : (enter params : List Call) → AreOutsideTransfers None enter → calls ≡ enter ++ params → CallOwnRealloc (options_of a.lift) params → BeginRequestsSoFar (params_transfer u a) (params_landing a) (params_parts p u a args first) params
      → AllCutsShrink (params_transfer u a) (params_parts p u a args first) (answers_so_far (params_landing a) params) → HaveAskedSoFar p u a args first calls
  StopsCalling : (t : ArePassed p u a args first) (others : List Call) → AreFromCallee a others → calls ≡ calls_until_callee t others → HaveAskedSoFar p u a args first calls
  StopsInResults : (t : AreAnswered p u a args first) (back : List Call) → calls ≡ calls_until_results t back → CallOwnRealloc (options_of a.lower) back → BeginRequestsSoFar (results_transfer u a) (results_landing a args) (answered_parts t) back
      → AllCutsShrink (results_transfer u a) (answered_parts t) (answers_so_far (results_landing a args) back) → HaveAskedSoFar p u a args first calls
  StopsFinishing : HaveAskedForAll p u a args first calls → HaveAskedSoFar p u a args first calls

-- The calls of an end of a whole run have asked for what its values ask for; where it stops, if the lower side may leave.
abbrev pub AsksForValues : ImportPlaces → AdapterTunables → LinkedAdapter → (args : List CoreValue) → MachineState → Ended (List CoreValue) → Type 0
AsksForValues p u a args first (Gave n cs vs w) = HaveAskedForAll p u a args first cs
AsksForValues p u a args first (Halted n cs s w) = flag_in p a.lower.instance first.globals ≢ I32 0 → HaveAskedSoFar p u a args first cs
AsksForValues p u a args first (Strayed n cs w) = Unit {0}
