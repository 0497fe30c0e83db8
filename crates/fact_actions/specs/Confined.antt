-- Where an adapter writes, and which ranges it hands to transcoders. Where it reads is not told: a read leaves no trace.
use Rattle.std.specs.Prelude.{◌≡◌, ◌≢◌, ℕ, ◌+◌, ◌*◌, ◌%◌, ◌≤◌, ◌⊎◌, ◌||◌, Bool, true, false, List, [], ◌∷◌, ◌++◌, length, Some, None}
use Rattle.fact_types.specs.declared.outside.Transcode.{Transcode}
use Rattle.fact_machine.specs.declared.types.CoreValue.{CoreValue}
use Rattle.fact_machine.specs.declared.types.MachineState.{MachineState}
use Rattle.fact_machine.specs.declared.types.TraceEntry.{TraceEntry}
use Rattle.fact_machine.specs.declared.types.TraceEntry.TheVariants.{Called, Stored, GlobalSet}
use Rattle.fact_types.specs.declared.import.Import.{Import}
use Rattle.fact_types.specs.declared.import.Import.TheVariants as import
use Rattle.fact_types.specs.Layout.{extent, payloads}
use Rattle.fact_types.specs.Valid.{IsValid}
use Rattle.fact_types.specs.Signatures.{flat_values}
use Rattle.fact_types.specs.Shapes.{Kind, k_list, k_map, k_fixed, Shape, s_plain, s_node, Members, no_members, bare, typed, layout_of, layouts_of}
use Rattle.fact_types.specs.declared.outside.MemoryOption.{MemoryOption}
use Rattle.fact_types.specs.Adapters.{LinkedAdapter, is_wide}
use Rattle.fact_values.specs.Texts.{unit_bytes}
use Rattle.fact_actions.specs.Moves.{entry_extent}
use Rattle.fact_actions.specs.Transcoders.{TranscodeKind, AllUnits, Counted, Fitting, Narrow, Tagged, Widening, transcode_kind, from_encoding, to_encoding}
use Rattle.fact_actions.specs.Sides.{LiftLowerOptions, width_of_side, options_of}
use Rattle.fact_actions.specs.Running.{ImportPlaces, Call, Ended, calls_in, world_in}
use Rattle.fact_actions.specs.Adapters.{flat_results}
use Rattle.fact_types.specs.Tuples.{tuple_members}
use Rattle.fact_actions.specs.Calls.{is_call_of, is_call_of_any, arg_number, state_after, side_memory}
use Rattle.fact_actions.specs.Order.{IsMemoryOf}
use Rattle.fact_actions.specs.Honest.{HasReturned, IsHonestTranscode}
use Rattle.fact_actions.specs.Regions.{Region, Landing, Position, landed, params_landing, results_landing, is_request, moved_on, sync_moved_on, IsSoundRegion}

-- ---- own regions

-- so many bytes at an address lie in a region
abbrev pub LiesWithin : Region → (address size : ℕ) → Type 0
LiesWithin r address size = (r.at ≤ address) × (address + size ≤ r.at + r.size)

-- they lie in one of these regions, which is sound in a memory of so many bytes
abbrev pub LiesInSound : (room : ℕ) → List Region → (address size : ℕ) → Type 0
LiesInSound room [] address size = ⊥
LiesInSound room (r ∷ rs) address size = (IsSoundRegion room r × LiesWithin r address size) ⊎ LiesInSound room rs address size

-- the regions of a transfer: those that are live, and the return area
abbrev pub in_hand : Position → List Region
in_hand x = x.live ++ x.landing.area

abbrev pub room_in : ImportPlaces → Position → MachineState → ℕ
room_in p x state = length (side_memory p x.landing.to state)

-- ---- writes

-- A write goes to the memory that values go to, into a sound region of the transfer. The memory has as many bytes as behind
-- the last call.
pub record IsOwnWrite (p : ImportPlaces) (x : Position) (room : ℕ) (memory address size : ℕ) : Type 0 where
  pub to : MemoryOption
  pub to_is : x.landing.to.memory ≡ Some to
  pub memory_is : memory ≡ p.memory to.def
  pub own : LiesInSound room (in_hand x) address size

-- So are all writes of a trace, whose calls are these.
abbrev pub AreOwnWrites : ImportPlaces → (next : Call → Position → Position) → Position → (room : ℕ) → List TraceEntry → List Call → Type 0
AreOwnWrites p next x room [] [] = Unit {0}
AreOwnWrites p next x room [] (c ∷ cs) = ⊥
AreOwnWrites p next x room (Stored memory address size value ∷ es) cs = IsOwnWrite p x room memory address size × AreOwnWrites p next x room es cs
AreOwnWrites p next x room (GlobalSet index value ∷ es) cs = AreOwnWrites p next x room es cs
AreOwnWrites p next x room (Called e ∷ es) [] = ⊥
AreOwnWrites p next x room (Called e ∷ es) (c ∷ cs) = AreOwnWrites p next (next c x) (room_in p (next c x) (state_after c)) es cs

-- A run that began in a state with nothing in its trace, at the begin of a transfer.
abbrev pub IsConfinedFrom : ImportPlaces → (next : Call → Position → Position) → Landing → MachineState → Ended (List CoreValue) → Type 0
IsConfinedFrom p next l state e =
    let x = landed l in
    AreOwnWrites p next x (room_in p x state) (world_in e).trace (calls_in e)

-- a run of a sync adapter
abbrev pub IsConfined : ImportPlaces → LinkedAdapter → (args : List CoreValue) → MachineState → Ended (List CoreValue) → Type 0
IsConfined p a args state e = IsConfinedFrom p (sync_moved_on a args) (params_landing a) state e

-- ---- requests

-- so many bytes at a place, of an alignment, are one of these regions
abbrev pub IsLiveRegion : List Region → (place size align : ℕ) → Type 0
IsLiveRegion [] place size align = ⊥
IsLiveRegion (r ∷ rs) place size align = ((r.at ≡ place) × (r.size ≡ size) × (r.align ≡ align)) ⊎ IsLiveRegion rs place size align

-- A call of realloc asks for an alignment other than 0, and gives up nothing, or a region that is live and has that alignment.
abbrev pub GivesUpLive : Position → Call → Type 0
GivesUpLive x c =
    is_request x.landing c ≡ true → (arg_number c 2 ≢ 0) × (((arg_number c 0 ≡ 0) × (arg_number c 1 ≡ 0)) ⊎ IsLiveRegion x.live (arg_number c 0) (arg_number c 1) (arg_number c 2))

-- a call of the callee, or of post-return
abbrev pub is_beside : LinkedAdapter → Call → Bool
is_beside a c = is_call_of a.callee c || is_call_of_any a.lift.post_return c

-- So do all calls but those.
abbrev pub GiveUpLive : LinkedAdapter → (next : Call → Position → Position) → Position → List Call → Type 0
GiveUpLive a next x [] = Unit {0}
GiveUpLive a next x (c ∷ cs) = (is_beside a c ≡ false → GivesUpLive x c) × GiveUpLive a next (next c x) cs

-- ---- ranges of transcoders

-- the bytes at its destination that a transcoder may write
abbrev pub room_bytes : Transcode → Call → ℕ
room_bytes o c = by_kind (transcode_kind o)
  where
    by_kind : TranscodeKind → ℕ
    by_kind AllUnits = unit_bytes (to_encoding o) * arg_number c 1
    by_kind Counted = unit_bytes (to_encoding o) * arg_number c 1
    by_kind Tagged = unit_bytes (to_encoding o) * arg_number c 1
    by_kind Narrow = arg_number c 1
    by_kind Fitting = arg_number c 3
    by_kind Widening = unit_bytes (to_encoding o) * arg_number c 3

-- A transcoder reads whole units within the memory that values come from, and may write within a sound live region alone.
pub record IsRanged (p : ImportPlaces) (x : Position) (o : Transcode) (c : Call) : Type 0 where
  pub aligned : arg_number c 0 % unit_bytes (from_encoding o) ≡ 0
  pub inside : arg_number c 0 + unit_bytes (from_encoding o) * arg_number c 1 ≤ length (side_memory p x.landing.from c.before)
  pub own : LiesInSound (room_in p x c.before) x.live (arg_number c 2) (room_bytes o c)

-- So is a call of a transcoder, and the memories that it names are those of the transfer's two sides.
abbrev pub IsRangedBy : Import → ImportPlaces → Position → Call → Type 0
IsRangedBy (import.Transcode o from from64 to to64) p x c = IsMemoryOf x.landing.from from from64 × IsMemoryOf x.landing.to to to64 × IsRanged p x o c
IsRangedBy _ p x c = Unit {0}

abbrev pub AreRangedCalls : ImportPlaces → (next : Call → Position → Position) → Position → List Call → Type 0
AreRangedCalls p next x [] = Unit {0}
AreRangedCalls p next x (c ∷ cs) = IsRangedBy c.what p x c × AreRangedCalls p next (next c x) cs

-- the calls of a sync adapter, and of the functions of an async one that move parameters and results
abbrev pub AreRangedSync : ImportPlaces → LinkedAdapter → (args : List CoreValue) → List Call → Type 0
AreRangedSync p a args cs = AreRangedCalls p (sync_moved_on a args) (landed (params_landing a)) cs

abbrev pub AreRangedStart : ImportPlaces → LinkedAdapter → List Call → Type 0
AreRangedStart p a cs = AreRangedCalls p moved_on (landed (params_landing a)) cs

abbrev pub AreRangedReturn : ImportPlaces → LinkedAdapter → (args : List CoreValue) → List Call → Type 0
AreRangedReturn p a args cs = AreRangedCalls p moved_on (landed (results_landing a args)) cs

-- An answer of a transcoder that returns is honest. Of one that traps or throws nothing is asked, nor of any other call.
abbrev pub IsHonestTranscoder : Import → ImportPlaces → Call → Type 0
IsHonestTranscoder (import.Transcode o from from64 to to64) p c = HasReturned c → IsHonestTranscode p o from to c
IsHonestTranscoder _ p c = Unit {0}

abbrev pub HaveHonestTranscoders : ImportPlaces → List Call → Type 0
HaveHonestTranscoders p [] = Unit {0}
HaveHonestTranscoders p (c ∷ cs) = IsHonestTranscoder c.what p c × HaveHonestTranscoders p cs

-- ---- room for values

-- the bytes of a value in a side's memory
abbrev pub node_size : LiftLowerOptions → Shape → ℕ
node_size o t = (extent (width_of_side o) (layout_of t)).size

-- elements of lists take at least a byte, and those of a list of fixed length lie within it
abbrev pub HasRoomBy : LiftLowerOptions → Kind → Members → Type 0
HasRoomBy o k_list ms = 1 ≤ (entry_extent o ms).size
HasRoomBy o k_map ms = 1 ≤ (entry_extent o ms).size
HasRoomBy o (k_fixed n) ms = (1 ≤ (entry_extent o ms).size) × (n * (entry_extent o ms).size ≤ node_size o (s_node (k_fixed n) ms))
HasRoomBy o k ms = Unit {0}

-- So it is with all values of a type, each of which takes at least a byte.
abbrev mutual
  pub HasRoom : LiftLowerOptions → Shape → Type 0
  HasRoom o (s_plain t) = Unit {0}
  HasRoom o (s_node k ms) = (1 ≤ node_size o (s_node k ms)) × HasRoomBy o k ms × HaveRoom o ms

  pub HaveRoom : LiftLowerOptions → Members → Type 0
  HaveRoom o no_members = Unit {0}
  HaveRoom o (bare x ms) = HaveRoom o ms
  HaveRoom o (typed x t ms) = HasRoom o t × HaveRoom o ms

-- The types of an adapter take bytes where their values go, and so do the tuples that it passes through pointers.
pub record HasRoomForValues (a : LinkedAdapter) : Type 0 where
  pub params : HaveRoom (options_of a.lift) (tuple_members a.lift.params)
  pub results : HaveRoom (options_of a.lower) (tuple_members a.lower.results)
  pub params_tuple : flat_values (is_wide a.lift.memory) 16 a.lift.params ≡ None → 1 ≤ (entry_extent (options_of a.lift) (tuple_members a.lift.params)).size
  pub results_tuple : flat_results a.lower ≡ None → 1 ≤ (entry_extent (options_of a.lower) (tuple_members a.lower.results)).size

-- ---- valid types

-- lists and maps have elements
abbrev pub HasElementsBy : Kind → Members → Type 0
HasElementsBy k_list ms = 1 ≤ length (payloads (layouts_of ms))
HasElementsBy k_map ms = 1 ≤ length (payloads (layouts_of ms))
HasElementsBy k ms = Unit {0}

abbrev mutual
  pub HasElements : Shape → Type 0
  HasElements (s_plain t) = Unit {0}
  HasElements (s_node k ms) = HasElementsBy k ms × HaveElements ms

  pub HaveElements : Members → Type 0
  HaveElements no_members = Unit {0}
  HaveElements (bare x ms) = HaveElements ms
  HaveElements (typed x t ms) = HasElements t × HaveElements ms

-- These types are valid, and the lists and maps among them have elements.
abbrev pub AreValidTypes : List Shape → Type 0
AreValidTypes [] = Unit {0}
AreValidTypes (t ∷ ts) = IsValid t × HasElements t × AreValidTypes ts

pub record HasValidTypes (a : LinkedAdapter) : Type 0 where
  pub lower_params : AreValidTypes a.lower.params
  pub lower_results : AreValidTypes a.lower.results
  pub lift_params : AreValidTypes a.lift.params
  pub lift_results : AreValidTypes a.lift.results
