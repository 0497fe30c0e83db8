-- Honest answers of each import, and honest runs of adapters, in which each answer returns, that of a trap's function too.
use Rattle.std.specs.Prelude.{◌≡◌, ℕ, ◌+◌, ◌*◌, ◌≤◌, true, List, [], ◌∷◌, length, map, take, drop, get_or, slice_set, Option}
use Rattle.fact_wasm.specs.declared.types.ValType.{ValType}
use Rattle.fact_types.specs.declared.outside.CoreDef.{CoreDef}
use Rattle.fact_types.specs.declared.outside.Transcode.{Transcode}
use Rattle.fact_machine.specs.declared.types.CoreValue.{CoreValue}
use Rattle.fact_machine.specs.declared.types.MachineState.{MachineState}
use Rattle.fact_machine.specs.declared.types.Answer.TheVariants.{Returns, Traps, Throws}
use Rattle.fact_machine.specs.World.{put_at}
use Rattle.fact_types.specs.declared.import.Import.{Import}
use Rattle.fact_types.specs.declared.import.Import.TheVariants as import
use Rattle.fact_types.specs.Adapters.{LinkedAdapter}
use Rattle.fact_values.specs.Lift.{bits_of}
use Rattle.fact_values.specs.Texts.{unit_bytes}
use Rattle.fact_actions.specs.Transcoders.{TranscodeKind, Fitting, Widening, transcode_kind, from_encoding, Room, IsHonestTranscoding}
use Rattle.fact_actions.specs.Sides.{LiftLowerOptions, options_of}
use Rattle.fact_machine.specs.Typed.{are_values}
use Rattle.fact_actions.specs.Running.{ImportPlaces, Call, Ended, Gave, Halted, Strayed, calls_in, is_state}
use Rattle.fact_actions.specs.Adapters.{lower_signature_of, start_params, return_params}
use Rattle.fact_actions.specs.Calls.{is_call_of_any, arg_number, results, state_after, side_memory}
use Rattle.fact_actions.specs.Regions.{Position, landed, params_landing, results_landing, is_request, moved_on, sync_moved_on, IsHonestRegion}

-- ---- transcoders

-- what a transcoder is told of its destination, behind the pointer there, the bytes from which on are given
abbrev pub room_of : TranscodeKind → Call → List ℕ → Room
room_of Fitting c there = record { room = arg_number c 3; latin1_bytes = [] }
room_of Widening c there = record { room = arg_number c 3; latin1_bytes = take (arg_number c 4) there }
room_of kind c there = record { room = 0; latin1_bytes = [] }

-- An honest answer of a transcoder: it does to the units that it reads what its operation says, and changes nothing else.
pub record IsHonestTranscode (p : ImportPlaces) (o : Transcode) (from to : CoreDef) (c : Call) : Type 0 where
  pub bytes : List ℕ
  pub transcoding : IsHonestTranscoding o
      (room_of (transcode_kind o) c (drop (arg_number c 2) (get_or c.before.memories (p.memory to) [])))
      (take (unit_bytes (from_encoding o) * arg_number c 1) (drop (arg_number c 0) (get_or c.before.memories (p.memory from) [])))
      bytes (map bits_of (results c))
  pub inside : arg_number c 2 + length bytes ≤ length (get_or c.before.memories (p.memory to) [])
  pub written : (state_after c).memories ≡ slice_set c.before.memories (p.memory to) (put_at (get_or c.before.memories (p.memory to) []) (arg_number c 2) bytes)

-- ---- calls

-- nothing that is in memories has changed
abbrev pub LeavesMemories : Call → Type 0
LeavesMemories c = (state_after c).memories ≡ c.before.memories

-- A call of a core function: realloc, or post-return, which leaves the lower side's memory; a callee may do anything.
abbrev pub IsHonestCore : ImportPlaces → (lower : LiftLowerOptions) → (post_return : Option CoreDef) → Position → Call → Type 0
IsHonestCore p lower post_return x c = (is_request x.landing c ≡ true → IsHonestRegion p x c) × (is_call_of_any post_return c ≡ true → side_memory p lower (state_after c) ≡ side_memory p lower c.before)

abbrev pub IsHonestBy : Import → ImportPlaces → (lower : LiftLowerOptions) → (post_return : Option CoreDef) → Position → Call → Type 0
IsHonestBy (import.CoreDef d) p lower post_return x c = IsHonestCore p lower post_return x c
IsHonestBy (import.Transcode o from from64 to to64) p lower post_return x c = IsHonestTranscode p o from to c
IsHonestBy (import.PrepareCall memory) p lower post_return x c = Unit {0}
IsHonestBy (import.StartCall callback function) p lower post_return x c = Unit {0}
IsHonestBy import.ResourceTransferOwn p lower post_return x c = LeavesMemories c
IsHonestBy import.ResourceTransferBorrow p lower post_return x c = LeavesMemories c
IsHonestBy import.FutureTransfer p lower post_return x c = LeavesMemories c
IsHonestBy import.StreamTransfer p lower post_return x c = LeavesMemories c
IsHonestBy import.ErrorContextTransfer p lower post_return x c = LeavesMemories c
IsHonestBy (import.Trap t) p lower post_return x c = LeavesMemories c
IsHonestBy import.EnterSyncCall p lower post_return x c = LeavesMemories c
IsHonestBy import.ExitSyncCall p lower post_return x c = LeavesMemories c
IsHonestBy (import.UnsafeIntrinsic s) p lower post_return x c = LeavesMemories c

-- an answer that returns, neither traps nor throws
abbrev pub HasReturned : Call → Type 0
HasReturned c = elim c.answer [ Returns rs state ↦ Unit {0} | Traps ↦ ⊥ | Throws ↦ ⊥ ]

-- Each call returns and is honest, where a transfer goes on from call to call.
abbrev pub AreHonest : ImportPlaces → LinkedAdapter → (next : Call → Position → Position) → Position → List Call → Type 0
AreHonest p a next x [] = Unit {0}
AreHonest p a next x (c ∷ cs) = HasReturned c × IsHonestBy c.what p (options_of a.lower) a.lift.post_return x c × AreHonest p a next (next c x) cs

-- the calls of a sync adapter, and of the functions of an async one that move parameters and results
abbrev pub AreHonestSync : ImportPlaces → LinkedAdapter → (args : List CoreValue) → List Call → Type 0
AreHonestSync p a args cs = AreHonest p a (sync_moved_on a args) (landed (params_landing a)) cs

abbrev pub AreHonestStart : ImportPlaces → LinkedAdapter → List Call → Type 0
AreHonestStart p a cs = AreHonest p a moved_on (landed (params_landing a)) cs

abbrev pub AreHonestReturn : ImportPlaces → LinkedAdapter → (args : List CoreValue) → List Call → Type 0
AreHonestReturn p a args cs = AreHonest p a moved_on (landed (results_landing a args)) cs

-- ---- runs

-- an end that did not go astray: each answer was typed
abbrev pub IsStraight : {A : Type 0} → Ended A → Type 0
IsStraight (Gave n cs a w) = Unit {0}
IsStraight (Halted n cs s w) = Unit {0}
IsStraight (Strayed n cs w) = ⊥

-- An honest run of a function with these parameters: its first state and its arguments are typed, and each answer is typed and
-- honest.
pub record IsHonestFrom (p : ImportPlaces) (params : List ValType) (Honest : List Call → Type 0) (args : List CoreValue) (state : MachineState) (e : Ended (List CoreValue)) : Type 0 where
  pub state_typed : is_state p state ≡ true
  pub args_typed : are_values args params ≡ true
  pub typed : IsStraight e
  pub honest : Honest (calls_in e)

-- an honest run of a sync adapter, and of the functions of an async one that move parameters and results
abbrev pub IsHonestRun : ImportPlaces → LinkedAdapter → (args : List CoreValue) → MachineState → Ended (List CoreValue) → Type 0
IsHonestRun p a args state e = IsHonestFrom p (lower_signature_of a).params (AreHonestSync p a args) args state e

abbrev pub IsHonestStart : ImportPlaces → LinkedAdapter → (args : List CoreValue) → MachineState → Ended (List CoreValue) → Type 0
IsHonestStart p a args state e = IsHonestFrom p (start_params a) (AreHonestStart p a) args state e

abbrev pub IsHonestReturn : ImportPlaces → LinkedAdapter → (args : List CoreValue) → MachineState → Ended (List CoreValue) → Type 0
IsHonestReturn p a args state e = IsHonestFrom p (return_params a) (AreHonestReturn p a args) args state e
