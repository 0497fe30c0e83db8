-- Laws of adapters of any types, texts among them: what FaithfulLaws.antt says where texts move (`AdaptersAreFaithful`, `AdaptersWeigh`,
-- `AdaptersComeToEnd`), what the callee is given, what is asked of realloc, and what transcoders are called for; in honest runs, in those that are honest
-- until a trap, and where transcoders alone answer honestly.
use Rattle.std.specs.Prelude.{◌≡◌, ◌≢◌, ℕ, ◌+◌, ◌/◌, ◌<◌, ◌≤◌, true, false, List, [], ◌∷◌, ◌++◌, length, get_or, Some}
use Rattle.fact_types.specs.Adapters.{LinkedAdapter}
use Rattle.fact_types.specs.FlatShapes.{flat}
use Rattle.fact_types.specs.Shapes.{Shape}
use Rattle.fact_types.specs.Tuples.{tuple_members}
use Rattle.fact_machine.specs.declared.types.CoreValue.{CoreValue}
use Rattle.fact_types.specs.declared.import.Import.TheVariants as import
use Rattle.fact_types.specs.declared.outside.CoreDef.{CoreDef}
use Rattle.fact_types.specs.declared.outside.StringEncoding.{StringEncoding}
use Rattle.fact_types.specs.declared.outside.Trap.TheVariants.{StringOutOfBounds}
use Rattle.fact_machine.specs.declared.types.Answer.TheVariants.{Traps}
use Rattle.fact_machine.specs.declared.types.CoreValue.TheVariants.{I32}
use Rattle.fact_machine.specs.declared.types.MachineState.{MachineState}
use Rattle.fact_machine.specs.Trace.{Grows}
use Rattle.fact_machine.specs.Typed.{are_values}
use Rattle.fact_machine.specs.World.{World, Stop}
use Rattle.fact_values.specs.declared.value.Value.{Value}
use Rattle.fact_values.specs.Limits.{most_units}
use Rattle.fact_values.specs.Places.{Pair}
use Rattle.fact_values.specs.Texts.{AreSpelled, form_of, units_of_text}
use Rattle.fact_values.specs.Tuples.{lift_result_values}
use Rattle.fact_actions.specs.Actions.{trap}
use Rattle.fact_actions.specs.Adapters.{AdapterTunables, lower_signature_of, lift_signature_of, params_transfer, results_transfer, move_params, move_results, async_start, async_return}
use Rattle.fact_actions.specs.Calls.{HasOwnCallee, side_memory}
use Rattle.fact_actions.specs.Confined.{HaveHonestTranscoders, AreRangedSync, AreRangedStart, AreRangedReturn}
use Rattle.fact_actions.specs.Honest.{AreHonest, IsStraight, IsHonestRun, IsHonestStart, IsHonestReturn}
use Rattle.fact_actions.specs.Order.{flag_in}
use Rattle.fact_actions.specs.Paths.{TextForm, path}
use Rattle.fact_actions.specs.Plain.{ended_sync}
use Rattle.fact_actions.specs.Regions.{Region, Position, Landing, IsAreaSound, params_landing, results_landing}
use Rattle.fact_actions.specs.Requests.{RequestPart, tuple_part, request_of, parts_requests, is_transcode, answers_in}
use Rattle.fact_actions.specs.Running.{ImportPlaces, Call, Ended, Halted, calls_in, is_state, moved_weight, run}
use Rattle.fact_actions.specs.Sides.{Source, Target, Transfer, options_of, side_abi, width_of_side}
use Rattle.fact_actions.specs.Strings.{PathPoint, form_in, most_string_bytes, move_string, walk}
use Rattle.fact_action_laws.specs.Faithful.{IsFaithful, IsTransferred, WhereGiven, IsInLimits, ComesToEnd, ParamsAreThere, params_given, params_passed, weight_of_values, whole_weight}
use Rattle.fact_action_laws.specs.FaithfulLaws.{quiet, IsCheckedAdapter, HasSyncSides, TextsMove}
use Rattle.fact_action_laws.specs.TransferLaws.{results_taken, TakenAreThere, EndsInFew}
use Rattle.fact_action_laws.specs.MoveTerms.{HasPointers}
use Rattle.fact_action_laws.specs.Items.{items, items_places}
use Rattle.fact_action_laws.specs.MoveLaws.{AreTypesOfMove, Texts}
use Rattle.fact_action_laws.specs.Places.{to_side, value_at_source, HoldsMemories, IsGrounded, HasKnownMemory, IsSource}
use Rattle.fact_action_laws.specs.Regions.{TransferSetting}
use Rattle.fact_action_laws.specs.Answerable.{CanBeAnswered}
use Rattle.fact_action_laws.specs.Parts.{pair_of_source, parts_of}
use Rattle.fact_action_laws.specs.PastLimits.{first_factor, greatest_factor, OutgrowsFirst, IsPastLimit, EndsAtTrap}
use Rattle.fact_action_laws.specs.Premises.{KnowsMemories, HasMeans}
use Rattle.fact_action_laws.specs.ReadTexts.{AreValuesThere, ReadTexts}
use Rattle.fact_action_laws.specs.Requested.{AsksForParts, params_parts, results_parts, AsksForValues}
use Rattle.fact_action_laws.specs.Rooms.{part_bytes, parts_bytes, items_bytes, requests_bytes, AllCutsShrink}
use Rattle.fact_action_laws.specs.Trapped.{LastTraps, answers_so_far, IsHonestUntilTrap, IsHonestStartUntilTrap, IsHonestReturnUntilTrap}
use Rattle.fact_action_laws.specs.PassingChecks.{PassChecks, ParamsPassChecks, ResultsPassChecks}

-- ---- ranges of transcoders

-- Each transcoder of a run that does not go astray reads whole units within the memory that values come from, and may write
-- within a sound live region alone.
abbrev pub IsRangedRun : ImportPlaces → (List Call → Type 0) → Ended (List CoreValue) → Type 0
IsRangedRun p Ranged e = IsStraight e → HaveHonestTranscoders p (calls_in e) → Ranged (calls_in e)

-- So it is in each run of a sync adapter from a typed state on, whatever all others answer.
abbrev pub TranscodersAreRanged : Type 0
TranscodersAreRanged =
    (p : ImportPlaces) (u : AdapterTunables) (a : LinkedAdapter) (args : List CoreValue) (w : World)
    → HasOwnCallee a → KnowsMemories p a → is_state p w.state ≡ true → IsRangedRun p (AreRangedSync p a args) (ended_sync p u a args w)

-- And in those of the functions of an async adapter that move parameters and results.
abbrev pub StartTranscodersAreRanged : Type 0
StartTranscodersAreRanged =
    (p : ImportPlaces) (u : AdapterTunables) (a : LinkedAdapter) (args : List CoreValue) (w : World)
    → HasOwnCallee a → KnowsMemories p a → is_state p w.state ≡ true → IsRangedRun p (AreRangedStart p a) (run p (async_start u a args) w)

abbrev pub ReturnTranscodersAreRanged : Type 0
ReturnTranscodersAreRanged =
    (p : ImportPlaces) (u : AdapterTunables) (a : LinkedAdapter) (args : List CoreValue) (w : World)
    → HasOwnCallee a → KnowsMemories p a → is_state p w.state ≡ true → IsRangedRun p (AreRangedReturn p a args) (run p (async_return u a args) w)

-- ---- answers of transcoders

-- Each transcoder of a run that does not go astray can be answered honestly, or is to read malformed text.
abbrev pub IsAnswerableRun : ImportPlaces → Ended (List CoreValue) → Type 0
IsAnswerableRun p e = IsStraight e → HaveHonestTranscoders p (calls_in e) → CanBeAnswered p (calls_in e)

abbrev pub TranscodersCanBeAnswered : Type 0
TranscodersCanBeAnswered =
    (p : ImportPlaces) (u : AdapterTunables) (a : LinkedAdapter) (args : List CoreValue) (w : World)
    → HasOwnCallee a → KnowsMemories p a → is_state p w.state ≡ true → IsAnswerableRun p (ended_sync p u a args w)

abbrev pub StartTranscodersCanBeAnswered : Type 0
StartTranscodersCanBeAnswered =
    (p : ImportPlaces) (u : AdapterTunables) (a : LinkedAdapter) (args : List CoreValue) (w : World)
    → HasOwnCallee a → KnowsMemories p a → is_state p w.state ≡ true → IsAnswerableRun p (run p (async_start u a args) w)

abbrev pub ReturnTranscodersCanBeAnswered : Type 0
ReturnTranscodersCanBeAnswered =
    (p : ImportPlaces) (u : AdapterTunables) (a : LinkedAdapter) (args : List CoreValue) (w : World)
    → HasOwnCallee a → KnowsMemories p a → is_state p w.state ≡ true → IsAnswerableRun p (run p (async_return u a args) w)

-- A transfer between sides that lack what texts need calls no transcoder, whatever is answered.
abbrev pub AreOfNoTranscoder : List Call → Type 0
AreOfNoTranscoder [] = Unit {0}
AreOfNoTranscoder (c ∷ cs) = (is_transcode c.what ≡ false) × AreOfNoTranscoder cs

abbrev pub TranscodersNeedMeans : Type 0
TranscodersNeedMeans =
    (p : ImportPlaces) (u : AdapterTunables) (a : LinkedAdapter) (w : World)
    → ((args : List CoreValue) → (HasMeans (options_of a.lower) (options_of a.lift) → ⊥) → AreOfNoTranscoder (calls_in (run p (move_params u a args) w)))
    × ((given : List CoreValue) (pointer : ℕ) → (HasMeans (options_of a.lift) (options_of a.lower) → ⊥) → AreOfNoTranscoder (calls_in (run p (move_results u a given pointer) w)))

-- In a run whose answers are honest, but for a last one that may be a trap, and whose values are there on the side that they come from, each
-- transcoder is to read a whole text, the last one too, and has the room that it needs where it widens what is there.
abbrev pub TranscodersReadTexts : Type 0
TranscodersReadTexts =
    (p : ImportPlaces) (u : AdapterTunables) (a : LinkedAdapter) (args : List CoreValue) (w : World)
    → flag_in p a.lower.instance w.state.globals ≢ I32 0 → IsCheckedAdapter p a → HasSyncSides a → IsHonestUntilTrap p a args w.state (ended_sync p u a args w)
    → AreValuesThere p a args w.state (calls_in (ended_sync p u a args w)) → ReadTexts p (calls_in (ended_sync p u a args w))

-- ---- honest runs

-- A text is moved from any form to any encoding, in memories of both widths, within the limits of its form; and where none stands
-- at the source, nothing is moved.
abbrev pub TextsAreMoved : Type 0
TextsAreMoved = (c : TransferSetting) → IsGrounded c → HasKnownMemory c.places c.transfer.from.memory → HasKnownMemory c.places c.transfer.to.memory → Texts c

-- So they are in both transfers of a checked adapter.
abbrev pub TextsMoveInAdapters : Type 0
TextsMoveInAdapters = (p : ImportPlaces) (u : AdapterTunables) (a : LinkedAdapter) → IsCheckedAdapter p a → TextsMove p u a

-- So an honest run of a sync adapter that gives something is faithful, whatever types its values have.
abbrev pub AdaptersAreFaithful : Type 0
AdaptersAreFaithful =
    (p : ImportPlaces) (u : AdapterTunables) (a : LinkedAdapter) (args : List CoreValue) (w : World)
    → IsCheckedAdapter p a → HasSyncSides a → IsHonestRun p a args w.state (ended_sync p u a args w)
    → WhereGiven (ended_sync p u a args w) (λ cs vs w'. IsFaithful p a args w.state cs vs w'.state)

-- And the nodes that it moved weigh what came in and what the callee answered.
abbrev pub AdaptersWeigh : Type 0
AdaptersWeigh =
    (p : ImportPlaces) (u : AdapterTunables) (a : LinkedAdapter) (args : List CoreValue) (w : World)
    → IsCheckedAdapter p a → HasSyncSides a → IsHonestRun p a args w.state (ended_sync p u a args w)
    → WhereGiven (ended_sync p u a args w) (λ cs vs w'. moved_weight (ended_sync p u a args w) ≡ whole_weight p a args w.state cs)

-- Within limits, and where debug checks pass if they are on, it gives something or lacks an answer, and makes few calls.
abbrev pub AdaptersComeToEnd : Type 0
AdaptersComeToEnd =
    (p : ImportPlaces) (u : AdapterTunables) (a : LinkedAdapter) (args : List CoreValue) (w : World)
    → PassChecks u a args (calls_in (ended_sync p u a args w)) → IsCheckedAdapter p a → HasSyncSides a → IsHonestRun p a args w.state (ended_sync p u a args w)
    → IsInLimits p a args w.state (calls_in (ended_sync p u a args w))
    → ComesToEnd p a args w.state (ended_sync p u a args w)

-- So do the functions of an async adapter that move parameters and results.
abbrev pub CheckedStartsComeToEnd : Type 0
CheckedStartsComeToEnd =
    (p : ImportPlaces) (u : AdapterTunables) (a : LinkedAdapter) (args : List CoreValue) (w : World)
    → ParamsPassChecks u a args → IsCheckedAdapter p a → IsHonestStart p a args w.state (run p (async_start u a args) w)
    → ParamsAreThere p a args w.state → EndsInFew (weight_of_values a.lower.params (params_given p a args w.state)) (run p (async_start u a args) w)

abbrev pub CheckedReturnsComeToEnd : Type 0
CheckedReturnsComeToEnd =
    (p : ImportPlaces) (u : AdapterTunables) (a : LinkedAdapter) (args : List CoreValue) (w : World)
    → ResultsPassChecks u a args → IsCheckedAdapter p a → IsHonestReturn p a args w.state (run p (async_return u a args) w)
    → TakenAreThere p a args w.state → IsAreaSound p a args w.state → EndsInFew (weight_of_values a.lift.results (results_taken p a args w.state)) (run p (async_return u a args) w)

-- Without debug checks, the callee of a run whose answers before its call are honest is given the parameters, carried to its types: where it answers,
-- and where it is answered by a trap too.
abbrev pub CalleesAreGiven : Type 0
CalleesAreGiven =
    (p : ImportPlaces) (u : AdapterTunables) (a : LinkedAdapter) (args : List CoreValue) (w : World)
    → u.debug ≡ false → flag_in p a.lower.instance w.state.globals ≢ I32 0 → IsCheckedAdapter p a → HasSyncSides a → IsHonestUntilTrap p a args w.state (ended_sync p u a args w)
    → (before : List Call) (callee : Call) (behind : List Call) → calls_in (ended_sync p u a args w) ≡ before ++ (callee ∷ behind) → callee.what ≡ import.CoreDef a.callee
    → IsTransferred a.lower.params a.lift.params (params_given p a args w.state) (params_passed p a callee) before

-- ---- debug checks

-- Where upper halves are 0 an honest run comes with debug checks to what it comes to without them, call by call: no check fails.
-- Places are aligned, and honest transcoders answer as they are to.
abbrev pub ChecksPass : Type 0
ChecksPass =
    (p : ImportPlaces) (u : AdapterTunables) (a : LinkedAdapter) (args : List CoreValue) (w : World)
    → IsCheckedAdapter p a → IsHonestRun p a args w.state (ended_sync p u a args w) → PassChecks u a args (calls_in (ended_sync p u a args w))
    → ended_sync p u a args w ≡ ended_sync p (quiet u) a args w

abbrev pub StartChecksPass : Type 0
StartChecksPass =
    (p : ImportPlaces) (u : AdapterTunables) (a : LinkedAdapter) (args : List CoreValue) (w : World)
    → IsCheckedAdapter p a → IsHonestStart p a args w.state (run p (async_start u a args) w) → ParamsPassChecks u a args
    → run p (async_start u a args) w ≡ run p (async_start (quiet u) a args) w

abbrev pub ReturnChecksPass : Type 0
ReturnChecksPass =
    (p : ImportPlaces) (u : AdapterTunables) (a : LinkedAdapter) (args : List CoreValue) (w : World)
    → IsCheckedAdapter p a → IsHonestReturn p a args w.state (run p (async_return u a args) w) → ResultsPassChecks u a args
    → run p (async_return u a args) w ≡ run p (async_return (quiet u) a args) w

-- ---- limits

-- The most code units of a text within limits are those that the greatest factor of its path lets pass.
abbrev pub LimitsAreThoseOfPaths : Type 0
LimitsAreThoseOfPaths = (from to : StringEncoding) (count : ℕ) → most_units (form_of from count).encoding to ≡ most_string_bytes / greatest_factor (path (form_in from count) to)

-- A walk traps at once where its source has more code units than its first limit lets pass, whatever stands there.
abbrev pub LongWalksTrap : Type 0
LongWalksTrap = (tr : Transfer) (form : TextForm) (to : StringEncoding) (v : PathPoint) → most_string_bytes / first_factor (path form to) < v.length → walk tr (path form to) v ≡ trap StringOutOfBounds

-- From one code unit past the limits on, a text that its path's first pass does not move is not moved at all: where all but traps is
-- honest, the run gives nothing, and its last call is that of the trap, or an answer lacks.
abbrev pub TextsPastLimitsTrap : Type 0
TextsPastLimitsTrap =
    (c : TransferSetting) (s : Source) (d : Target) (q : Pair) (gs : List Region) (w : World) (m : List ℕ)
    → IsGrounded c → HasPointers c.transfer.from c.transfer.to → HasKnownMemory c.places c.transfer.from.memory → HasKnownMemory c.places c.transfer.to.memory
    → IsSource c 2 s → HoldsMemories c m w → pair_of_source c s ≡ Some q → IsPastLimit c q
    → EndsAtTrap c StringOutOfBounds gs (run c.places (move_string c.transfer s d) w)

-- There is such a text of each form and each length past the limits.
abbrev pub SomeTextsOutgrow : Type 0
SomeTextsOutgrow =
    (from to : StringEncoding) (count : ℕ) → most_units (form_of from count).encoding to < (form_of from count).units
    → (text : List ℕ) × AreSpelled (form_of from count).encoding text × (units_of_text (form_of from count).encoding text ≡ (form_of from count).units)
    × OutgrowsFirst (form_in from count) to text (form_of from count).units

-- ---- requests of realloc

-- Each transfer of an honest run asks of realloc all that the parts of its values ask for, in the order of the destination and the
-- outer before the inner; where the run stops, so far a front of it. The last call may be answered by a trap, and so be a request
-- that no memory can give: it too is one of these.
abbrev pub RequestsAreCalledFor : Type 0
RequestsAreCalledFor =
    (p : ImportPlaces) (u : AdapterTunables) (a : LinkedAdapter) (args : List CoreValue) (w : World)
    → IsCheckedAdapter p a → IsHonestUntilTrap p a args w.state (ended_sync p u a args w) → AsksForValues p u a args w.state (ended_sync p u a args w)

-- So do the functions of an async adapter that move parameters and results.
abbrev pub StartRequestsAreCalledFor : Type 0
StartRequestsAreCalledFor =
    (p : ImportPlaces) (u : AdapterTunables) (a : LinkedAdapter) (args : List CoreValue) (w : World)
    → KnowsMemories p a → IsHonestStartUntilTrap p a args w.state (run p (async_start u a args) w)
    → AsksForParts (params_transfer u a) (params_landing a) (params_parts p u a args w.state) (run p (async_start u a args) w)

abbrev pub ReturnRequestsAreCalledFor : Type 0
ReturnRequestsAreCalledFor =
    (p : ImportPlaces) (u : AdapterTunables) (a : LinkedAdapter) (args : List CoreValue) (w : World)
    → KnowsMemories p a → IsHonestReturnUntilTrap p a args w.state (run p (async_return u a args) w)
    → AsksForParts (results_transfer u a) (results_landing a args) (results_parts p u a args args w.state) (run p (async_return u a args) w)

-- So no adapter begins with a request that its parameters do not call for, be it one that no memory can give: where a call of the lift
-- side's realloc was the only one, and trapped, it asks for what they call for first.
abbrev pub FirstRequestIsCalledFor : Type 0
FirstRequestIsCalledFor =
    (p : ImportPlaces) (u : AdapterTunables) (a : LinkedAdapter) (args : List CoreValue) (first : MachineState) (n : ℕ) (s : Stop) (w : World) (c : Call) (f : CoreDef)
    → HasOwnCallee a → flag_in p a.lower.instance first.globals ≢ I32 0 → a.lift.realloc ≡ Some f → c.what ≡ import.CoreDef f → c.answer ≡ Traps
    → AsksForValues p u a args first (Halted n (c ∷ []) s w) → Grows (request_of c ∷ []) (parts_requests (params_transfer u a) (params_parts p u a args first) [])

-- Honest calls all returned: the answers so far are those of all of them. Where a last one traps, they are those of the ones before.
abbrev pub AnswersAreSoFar : Type 0
AnswersAreSoFar =
    (p : ImportPlaces) (a : LinkedAdapter) (next : Call → Position → Position) (x : Position) (l : Landing) (cs : List Call)
    → (AreHonest p a next x cs → answers_so_far l cs ≡ answers_in l cs) × ((t : LastTraps (AreHonest p a next x) cs) → answers_so_far l cs ≡ answers_in l t.front)

-- ---- room

-- The regions that the parts of a value ask for take no more bytes than what the value calls for, wherever it stands: those of its lists and maps,
-- and up to 16 bytes for each scalar value of its texts, and 8 for each text.
abbrev pub PartsTakeNoMore : Type 0
PartsTakeNoMore =
    (c : TransferSetting) → ((j : ℕ) → get_or c.source j 0 < 256) → (t u : Shape) → AreTypesOfMove c t u → (s : Source) (v : Value)
    → IsSource c (length (flat (width_of_side c.transfer.from) t)) s → value_at_source c t s ≡ Some v
    → parts_bytes c.transfer.to.encoding (parts_of c t u s) ≤ items_bytes (items (to_side c) t u v)

-- So do those of parameters, behind the region of a tuple that is passed through a new pointer, and those of results.
abbrev pub ParamsTakeNoMore : Type 0
ParamsTakeNoMore =
    (p : ImportPlaces) (u : AdapterTunables) (a : LinkedAdapter) (args : List CoreValue) (first : MachineState) (vs : List Value)
    → IsCheckedAdapter p a → HasSyncSides a → is_state p first ≡ true → are_values args (lower_signature_of a).params ≡ true → params_given p a args first ≡ Some vs
    → parts_bytes (options_of a.lift).encoding (params_parts p u a args first)
    ≤ part_bytes (options_of a.lift).encoding (tuple_part (options_of a.lift) a.lift.params) + items_bytes (items_places (side_abi (options_of a.lift)) (tuple_members a.lower.params) vs (tuple_members a.lift.params))

abbrev pub ResultsTakeNoMore : Type 0
ResultsTakeNoMore =
    (p : ImportPlaces) (u : AdapterTunables) (a : LinkedAdapter) (args given : List CoreValue) (left : MachineState) (vs : List Value)
    → IsCheckedAdapter p a → HasSyncSides a → is_state p left ≡ true → are_values given (lift_signature_of a).results ≡ true
    → lift_result_values a.lift.async_side (side_abi (options_of a.lift)) (side_memory p (options_of a.lift) left) a.lift.results given ≡ Some vs
    → parts_bytes (options_of a.lower).encoding (results_parts p u a args given left) ≤ items_bytes (items_places (side_abi (options_of a.lower)) (tuple_members a.lift.results) vs (tuple_members a.lower.results))

-- The requests of parts take no more bytes than the parts, by all answers so far by which cut regions do not grow.
abbrev pub RequestsTakeNoMore : Type 0
RequestsTakeNoMore =
    (tr : Transfer) (parts : List RequestPart) (answers : List (List CoreValue)) → AllCutsShrink tr parts answers
    → requests_bytes (parts_requests tr parts answers) ≤ parts_bytes tr.to.encoding parts
