-- The laws of whole sync adapters, where texts move (`TextsMove`, which is so in all, by AdapterValueLaws.antt): honest runs are faithful, weigh what their values
-- weigh, and come to an end.
use Rattle.std.specs.Prelude.{◌≡◌, ℕ, false, List, [], None, true}
use Rattle.std.specs.List.{AllByRecursion}
use Rattle.fact_types.specs.Agrees.{AgreesPlaces}
use Rattle.fact_types.specs.Shapes.{Shape}
use Rattle.fact_types.specs.Signatures.{flat_values, lower_limit, lift_results_limit}
use Rattle.fact_types.specs.Functions.{HaveShapes}
use Rattle.fact_types.specs.Tables.{Tables}
use Rattle.fact_types.specs.Valid.{IsValid}
use Rattle.fact_types.specs.declared.interface.InterfaceType.{InterfaceType}
use Rattle.fact_agreement.specs.Lists.{AgreeAll}
use Rattle.fact_machine.specs.declared.types.CoreValue.{CoreValue}
use Rattle.fact_machine.specs.World.{World}
use Rattle.fact_types.specs.Adapters.{is_wide, LinkedAdapter}
use Rattle.fact_actions.specs.Running.{ImportPlaces, moved_weight, calls_in}
use Rattle.fact_actions.specs.Adapters.{AdapterTunables, params_transfer, results_transfer, flat_results}
use Rattle.fact_types.specs.Tuples.{tuple_members}
use Rattle.fact_actions.specs.Honest.{IsHonestRun}
use Rattle.fact_actions.specs.Order.{HaveTwoMemories}
use Rattle.fact_actions.specs.Plain.{ended_sync}
use Rattle.fact_action_laws.specs.Faithful.{IsFaithful, WhereGiven, whole_weight, IsInLimits, ComesToEnd}
use Rattle.fact_action_laws.specs.MoveTerms.{HasPointers, IsWellFormed, CanAllocate}
use Rattle.fact_action_laws.specs.Places.{HasSideMemory, HasKnownMemory, IsGrounded}
use Rattle.fact_actions.specs.Regions.{Region}
use Rattle.fact_action_laws.specs.Regions.{TransferSetting}
use Rattle.fact_actions.specs.Sides.{options_of}
use Rattle.fact_types.specs.PointerPairs.{any_pointer_pair}
use Rattle.fact_actions.specs.Calls.{HasOwnCallee}
use Rattle.fact_action_laws.specs.MoveLaws.{Texts}

-- ---- settings

-- the transfer of an adapter's parameters, where the memory that they come from has these bytes
abbrev pub setting_of_params : ImportPlaces → AdapterTunables → LinkedAdapter → (source : List ℕ) → TransferSetting
setting_of_params p u a source = record { places = p; transfer = params_transfer u a; area = []; source = source }

-- that of its results, where the return area lies there
abbrev pub setting_of_results : ImportPlaces → AdapterTunables → LinkedAdapter → (area : List Region) → (source : List ℕ) → TransferSetting
setting_of_results p u a area source = record { places = p; transfer = results_transfer u a; area = area; source = source }

-- without debug checks
abbrev pub quiet : AdapterTunables → AdapterTunables
quiet u = record u { debug = false }

-- ---- what the checks of plans make sure of

-- Types of a side, each valid, and each with members as its kind has them.
pub record AreWellFormedTypes (ts : List Shape) : Type 0 where
  pub valid : AllByRecursion IsValid ts
  pub formed : AllByRecursion IsWellFormed ts

-- An adapter between two instances: its types are well formed and agree, each side has the memories and the realloc that its own
-- types need, the two memories are different ones, whose widths the module tells, and the callee is a function of its own.
pub record IsCheckedAdapter (p : ImportPlaces) (a : LinkedAdapter) : Type 0 where
  pub lower_params : AreWellFormedTypes a.lower.params
  pub lower_results : AreWellFormedTypes a.lower.results
  pub lift_params : AreWellFormedTypes a.lift.params
  pub lift_results : AreWellFormedTypes a.lift.results
  pub params_agree : AgreesPlaces (tuple_members a.lower.params) (tuple_members a.lift.params)
  pub results_agree : AgreesPlaces (tuple_members a.lift.results) (tuple_members a.lower.results)
  -- strings, lists and maps go from memory to memory
  pub params_supplied : any_pointer_pair a.lower.params ≡ true → HasPointers (options_of a.lower) (options_of a.lift)
  pub results_supplied : any_pointer_pair a.lift.results ≡ true → HasPointers (options_of a.lift) (options_of a.lower)
  -- tuples that are not flat lie in memories
  pub params_behind : flat_values (is_wide a.lower.memory) (lower_limit a.lower.async_side) a.lower.params ≡ None → HasSideMemory (options_of a.lower)
  pub params_into : flat_values (is_wide a.lift.memory) 16 a.lift.params ≡ None → CanAllocate (options_of a.lift)
  pub results_behind : flat_values (is_wide a.lift.memory) (lift_results_limit a.lift.async_side) a.lift.results ≡ None → HasSideMemory (options_of a.lift)
  pub results_into : flat_results a.lower ≡ None → HasSideMemory (options_of a.lower)
  pub memories : HaveTwoMemories p (options_of a.lower) (options_of a.lift)
  pub lower_memory : HasKnownMemory p a.lower.memory
  pub lift_memory : HasKnownMemory p a.lift.memory
  pub own_callee : HasOwnCallee a

-- neither side is async
pub record HasSyncSides (a : LinkedAdapter) : Type 0 where
  pub lower : a.lower.async_side ≡ false
  pub lift : a.lift.async_side ≡ false

-- ---- laws, where this is proved of the texts of a transfer

-- Texts are moved as the law wants it, in both transfers, whatever bytes the source has. It is asked of transfers without
-- debug checks, also where a law speaks of an adapter that has them: these only add traps.
pub record TextsMove (p : ImportPlaces) (u : AdapterTunables) (a : LinkedAdapter) : Type 0 where
  pub params : (source : List ℕ) → IsGrounded (setting_of_params p (quiet u) a source) → Texts (setting_of_params p (quiet u) a source)
  pub results : (area : List Region) (source : List ℕ) → IsGrounded (setting_of_results p (quiet u) a area source) → Texts (setting_of_results p (quiet u) a area source)

-- An honest run that gives something is faithful.
abbrev pub RunsAreFaithful : Type 0
RunsAreFaithful =
    (p : ImportPlaces) (u : AdapterTunables) (a : LinkedAdapter) (args : List CoreValue) (w : World)
    → IsCheckedAdapter p a → HasSyncSides a → TextsMove p u a → IsHonestRun p a args w.state (ended_sync p u a args w)
    → WhereGiven (ended_sync p u a args w) (λ cs vs w'. IsFaithful p a args w.state cs vs w'.state)

-- The nodes that it moved weigh what came in and what the callee answered.
abbrev pub RunsWeigh : Type 0
RunsWeigh =
    (p : ImportPlaces) (u : AdapterTunables) (a : LinkedAdapter) (args : List CoreValue) (w : World)
    → IsCheckedAdapter p a → HasSyncSides a → TextsMove p u a → IsHonestRun p a args w.state (ended_sync p u a args w)
    → WhereGiven (ended_sync p u a args w) (λ cs vs w'. moved_weight (ended_sync p u a args w) ≡ whole_weight p a args w.state cs)

-- Without debug checks, an honest run within limits gives something or lacks an answer, and makes few calls.
abbrev pub RunsComeToEnd : Type 0
RunsComeToEnd =
    (p : ImportPlaces) (u : AdapterTunables) (a : LinkedAdapter) (args : List CoreValue) (w : World)
    → u.debug ≡ false → IsCheckedAdapter p a → HasSyncSides a → TextsMove p u a → IsHonestRun p a args w.state (ended_sync p u a args w)
    → IsInLimits p a args w.state (calls_in (ended_sync p u a args w))
    → ComesToEnd p a args w.state (ended_sync p u a args w)

-- ---- what premises rest on

-- The shapes of types of the tables are well formed.
abbrev pub ShapesAreWellFormed : Type 0
ShapesAreWellFormed = (t : Tables) (types : List InterfaceType) (ss : List Shape) → HaveShapes t types ss → AllByRecursion IsWellFormed ss

-- Lists of types that agree are tuples that agree.
abbrev pub TuplesAgree : Type 0
TuplesAgree = (ss ds : List Shape) → AgreeAll ss ds → AgreesPlaces (tuple_members ss) (tuple_members ds)

-- Sides have what their own types need, as the rules for adapters say: a memory where parameters or results hold strings, lists or
-- maps, and with it realloc where such values go to them.
pub record HasOwnMemories (a : LinkedAdapter) : Type 0 where
  pub lower_params : any_pointer_pair a.lower.params ≡ true → HasSideMemory (options_of a.lower)
  pub lower_results : any_pointer_pair a.lower.results ≡ true → CanAllocate (options_of a.lower)
  pub lift_params : any_pointer_pair a.lift.params ≡ true → CanAllocate (options_of a.lift)
  pub lift_results : any_pointer_pair a.lift.results ≡ true → HasSideMemory (options_of a.lift)

-- Where types agree, each side then has what the values of the other one need.
abbrev pub OwnMemoriesServe : Type 0
OwnMemoriesServe =
    (a : LinkedAdapter)
    → AreWellFormedTypes a.lower.params → AreWellFormedTypes a.lower.results → AreWellFormedTypes a.lift.params → AreWellFormedTypes a.lift.results
    → AgreesPlaces (tuple_members a.lower.params) (tuple_members a.lift.params) → AgreesPlaces (tuple_members a.lift.results) (tuple_members a.lower.results)
    → HasOwnMemories a
    → (any_pointer_pair a.lower.params ≡ true → HasPointers (options_of a.lower) (options_of a.lift)) × (any_pointer_pair a.lift.results ≡ true → HasPointers (options_of a.lift) (options_of a.lower))
