-- How the host answers: what it knows between two calls, which calls it answers by a trap, and what the other answers are.
use Rattle.std.specs.Prelude.{◌≡◌, ◌≢◌, ◌↔◌, ℕ, suc, ◌+◌, ◌*◌, ◌%◌, ◌≤◌, ◌<◌, Bool, true, false, ◌&&◌, nat_eq, nat_le, All, List, [], ◌∷◌, length, map, take, drop, min, get_or, slice_set, Option, Some, None, if◌then◌else◌}
use Rattle.std.specs.List.{AllZip}
use Rattle.fact_wasm.specs.declared.types.ValType.{ValType}
use Rattle.fact_wasm.specs.declared.types.ValType.TheVariants as ty
use Rattle.fact_types.specs.declared.outside.FixedEncoding.TheVariants.{Utf16}
use Rattle.fact_types.specs.declared.outside.Transcode.{Transcode}
use Rattle.fact_types.specs.Layout.{aligned}
use Rattle.fact_types.specs.Shapes.{Shape}
use Rattle.fact_types.specs.Signatures.{address, sync_lift}
use Rattle.fact_machine.specs.declared.types.CoreValue.{CoreValue}
use Rattle.fact_machine.specs.declared.types.CoreValue.TheVariants.{I32}
use Rattle.fact_machine.specs.declared.types.MachineState.{MachineState}
use Rattle.fact_machine.specs.declared.types.Answer.TheVariants.{Returns, Traps, Throws}
use Rattle.fact_machine.specs.declared.types.Event.{Event}
use Rattle.fact_machine.specs.World.{put_at}
use Rattle.fact_machine.specs.Typed.{IsValue}
use Rattle.fact_machine.specs.Typing.{address_operand}
use Rattle.fact_values.specs.declared.value.Value.{Value}
use Rattle.fact_values.specs.Lift.{bits_of}
use Rattle.fact_values.specs.Texts.{decoded, unit_bytes, units_of_text}
use Rattle.fact_values.specs.Tuples.{lift_param_values, lift_result_values}
use Rattle.fact_actions.specs.Calls.{nth_number}
use Rattle.fact_actions.specs.Transcoders.{TranscodeKind, Fitting, Widening, transcode_kind, transcode_types, from_encoding, Room, IsHonestTranscoding}
use Rattle.fact_host.specs.declared.calling.HostCall.{HostCall}
use Rattle.fact_host.specs.declared.calling.HostSide.{HostSide}
use Rattle.fact_host.specs.declared.allocator.Region.{Region}
use Rattle.fact_host.specs.declared.known.Known.{Known}
use Rattle.fact_host.specs.declared.transcoders.Told.{Told}
use Rattle.fact_host.specs.declared.roles.Role.{Role}
use Rattle.fact_host.specs.declared.roles.Role.TheVariants as role
use Rattle.fact_lowering.specs.Room.{room}

-- ---- memories

abbrev pub memory_at : MachineState → ℕ → List ℕ
memory_at s n = get_or s.memories n []

abbrev pub bytes_of_memory : Option ℕ → MachineState → List ℕ
bytes_of_memory None s = []
bytes_of_memory (Some n) s = memory_at s n

abbrev pub side_bytes : HostSide → MachineState → List ℕ
side_bytes side s = bytes_of_memory side.memory s

-- a state in which one memory is another
abbrev pub with_memory_at : MachineState → ℕ → List ℕ → MachineState
with_memory_at s n bytes = record { memories = slice_set s.memories n bytes; globals = s.globals }

-- what is written are bytes, and results are of core types
abbrev pub AreWrittenBytes : List ℕ → Type 0
AreWrittenBytes bytes = All (λ b. b < 256) bytes

abbrev pub AreOfCoreTypes : List ValType → List CoreValue → Type 0
AreOfCoreTypes types results = AllZip (λ v t. IsValue v t) results types

-- ---- what the host knows

abbrev pub cursor_of : Known → ℕ → ℕ
cursor_of k n = get_or k.cursors n 0

-- the cursor of one memory rose
abbrev pub raised : Known → ℕ → ℕ → Known
raised k n cursor = record k { cursors = slice_set k.cursors n cursor }

abbrev pub same_region : Region → Region → Bool
same_region a b = nat_eq a.at b.at && nat_eq a.size b.size

-- without the first that is this one
abbrev pub live_without : Region → List Region → List Region
live_without r [] = []
live_without r (s ∷ rs) = if same_region s r then rs else s ∷ live_without r rs

abbrev pub is_live : Region → List Region → Bool
is_live r [] = false
is_live r (s ∷ rs) = if same_region s r then true else is_live r rs

-- ---- realloc

-- what a call of realloc asks for
pub record AskedRegion : Type 0 where
  pub old : Region
  pub align : ℕ
  pub size : ℕ

abbrev pub asked_of : Event → AskedRegion
asked_of e = record { old = record { at = nth_number e.args 0; size = nth_number e.args 1 }; align = nth_number e.args 2; size = nth_number e.args 3 }

-- the old region is none, or one that is live
abbrev pub is_old_live : Known → AskedRegion → Bool
is_old_live k q = if nat_eq q.old.at 0 && nat_eq q.old.size 0 then true else is_live q.old k.live

-- a region that need not grow stays where it is, if its place suits
abbrev pub stays : AskedRegion → Bool
stays q = nat_le q.size q.old.size && nat_eq (q.old.at % q.align) 0

-- where the next region begins
abbrev pub next_region : Known → ℕ → AskedRegion → ℕ
next_region k n q = aligned (cursor_of k n) q.align

-- It traps exactly where one of these holds, the values going to the nth memory or not.
pub data MustRefuse (k : Known) (n : ℕ) (is_destination : Bool) (bytes : List ℕ) (q : AskedRegion) : Type 0 where
  OtherTransfer : is_destination ≡ false → MustRefuse k n is_destination bytes q
  NoAlignment : q.align ≡ 0 → MustRefuse k n is_destination bytes q
  NotLive : is_old_live k q ≡ false → MustRefuse k n is_destination bytes q
  NoRoom : stays q ≡ false → length bytes < next_region k n q + q.size → MustRefuse k n is_destination bytes q

abbrev pub given_at : Known → ℕ → AskedRegion → ℕ
given_at k n q = if stays q then q.old.at else next_region k n q

abbrev pub moved_bytes : List ℕ → ℕ → AskedRegion → List ℕ
moved_bytes bytes to q = put_at bytes to (take (min q.old.size q.size) (drop q.old.at bytes))

abbrev pub after_region : Known → ℕ → AskedRegion → Known
after_region k n q = record (if stays q then k else raised k n (next_region k n q + q.size)) {
  live = record { at = given_at k n q; size = q.size } ∷ live_without q.old k.live;
}

abbrev pub bytes_after_region : Known → ℕ → AskedRegion → List ℕ → List ℕ
bytes_after_region k n q bytes = if stays q then bytes else moved_bytes bytes (next_region k n q) q

-- ---- transcoders

abbrev pub told_of : Event → Told
told_of e = record { from = nth_number e.args 0; units = nth_number e.args 1; to = nth_number e.args 2; room = nth_number e.args 3; latin1 = nth_number e.args 4 }

abbrev pub units_read : Transcode → List ℕ → Told → List ℕ
units_read o bytes t = take (unit_bytes (from_encoding o) * t.units) (drop t.from bytes)

-- the room that it is told of, and the bytes that are there
abbrev pub told_room : TranscodeKind → Told → List ℕ → Room
told_room Fitting t there = record { room = t.room; latin1_bytes = [] }
told_room Widening t there = record { room = t.room; latin1_bytes = take t.latin1 there }
told_room kind t there = record { room = 0; latin1_bytes = [] }

-- these bytes and numbers are honest
abbrev pub IsHonestlyMade : Transcode → (source destination : List ℕ) → Told → (bytes numbers : List ℕ) → Type 0
IsHonestlyMade o source destination t bytes numbers = IsHonestTranscoding o (told_room (transcode_kind o) t (drop t.to destination)) (units_read o source t) bytes numbers

-- It traps exactly on malformed text, on a range that is not in its memory, or where the units that are there and the text have no room.
pub data MustStop (o : Transcode) (source destination : List ℕ) (t : Told) : Type 0 where
  SourceOutside : length source < t.from + unit_bytes (from_encoding o) * t.units → MustStop o source destination t
  Malformed : decoded (from_encoding o) (units_read o source t) ≡ None → MustStop o source destination t
  LatinOutside : transcode_kind o ≡ Widening → length destination < t.to + t.latin1 → MustStop o source destination t
  Overflows : transcode_kind o ≡ Widening → (text : List ℕ) → decoded (from_encoding o) (units_read o source t) ≡ Some text
      → t.room < t.latin1 + units_of_text Utf16 text → MustStop o source destination t
  DestinationOutside : (bytes numbers : List ℕ) → IsHonestlyMade o source destination t bytes numbers
      → length destination < t.to + length bytes → MustStop o source destination t

-- ---- the callee

-- its parameters, in the state before the call
abbrev pub params_of : HostCall → (ps : List Shape) → Event → Option (List Value)
params_of c ps e = lift_param_values c.lift.abi (side_bytes c.lift e.before) ps e.args

-- The memory of its side may lack room for what it answered: from the cursor on there is less than the room of the values.
pub record MayLackRoom (k : Known) (c : HostCall) (rs us : List Shape) (answered : Option (List Value)) (e : Event) : Type 0 where
  pub values : List Value
  pub is_answer : answered ≡ Some values
  pub memory : ℕ
  pub named : c.lift.memory ≡ Some memory
  pub full : length (memory_at e.before memory) < cursor_of k memory + room rs us values

-- It is not asked where it was before, or where its parameters do not lift; what it answers has to have room.
pub data MustNotCall (k : Known) (c : HostCall) (ps : List Shape) (has_room : Bool) (e : Event) : Type 0 where
  Again : k.returned ≡ true → MustNotCall k c ps has_room e
  NoParams : params_of c ps e ≡ None → MustNotCall k c ps has_room e
  NoRoomForResults : has_room ≡ false → MustNotCall k c ps has_room e

-- what it answers stands in the memory of its side from the cursor on, which rises by at most the room of the values; all bytes before it, and
-- all other memories and globals, stay
abbrev pub StoresAt : (k k' : Known) (before after : MachineState) (most : ℕ) → Option ℕ → Type 0
StoresAt k k' before after most None = (after ≡ before) × (k' ≡ record k { live = []; returned = true })
StoresAt k k' before after most (Some n) =
    (bytes : List ℕ) × (cursor : ℕ) × (after ≡ with_memory_at before n bytes) × (k' ≡ record (raised k n cursor) { live = []; returned = true })
    × AreWrittenBytes bytes × (length bytes ≡ length (memory_at before n)) × (take (cursor_of k n) bytes ≡ take (cursor_of k n) (memory_at before n))
    × (cursor_of k n ≤ cursor) × (cursor ≤ cursor_of k n + most) × (cursor ≤ length bytes)

pub record StoresResults (k : Known) (c : HostCall) (rs us : List Shape) (values : List Value) (before after : MachineState) (results : List CoreValue) (k' : Known) : Type 0 where
  pub lifts : lift_result_values false c.lift.abi (side_bytes c.lift after) rs results ≡ Some values
  pub stored : StoresAt k k' before after (room rs us values) c.lift.memory

-- ---- answers

-- what is left of a state, a list of results and what the host knows then
abbrev pub LeavesKnown : Type 1
LeavesKnown = MachineState → List CoreValue → Known → Type 0

-- A call is answered by a trap exactly where it must be, and else so.
pub record AnswersBy (Must : Type 0) (Leave : LeavesKnown) (k : Known) (e : Event) (k' : Known) : Type 0 where
  pub traps : (e.answer ≡ Traps) ↔ Must
  pub returns : (results : List CoreValue) (after : MachineState) → e.answer ≡ Returns results after → Leave after results k'
  pub never_throws : e.answer ≢ Throws

abbrev pub LeavesAllKnown : Event → Known → List CoreValue → LeavesKnown
LeavesAllKnown e k results after rs k' = (after ≡ e.before) × (rs ≡ results) × (k' ≡ k)

-- a realloc of the nth memory
abbrev pub ReallocsIn : Known → (n : ℕ) → (memory64 is_destination : Bool) → Event → Known → Type 0
ReallocsIn k n memory64 is_destination e k' =
    AnswersBy (MustRefuse k n is_destination (memory_at e.before n) (asked_of e))
    (λ after rs j. (after ≡ with_memory_at e.before n (bytes_after_region k n (asked_of e) (memory_at e.before n))) × AreOfCoreTypes (address memory64 ∷ []) rs × (rs ≡ address_operand memory64 (given_at k n (asked_of e)) ∷ []) × (j ≡ after_region k n (asked_of e))) k e k'

-- by the memory of the side, without which there is nothing to give
abbrev pub ReallocsAt : Known → HostSide → (is_destination : Bool) → Event → Known → Option ℕ → Type 0
ReallocsAt k side is_destination e k' None = e.answer ≡ Traps
ReallocsAt k side is_destination e k' (Some n) = ReallocsIn k n side.abi.memory64 is_destination e k'

abbrev pub ReallocsBy : Known → HostSide → (is_destination : Bool) → Event → Known → Type 0
ReallocsBy k side is_destination e k' = ReallocsAt k side is_destination e k' side.memory

-- a transcoder from one memory to another, of these widths
abbrev pub TranscodesBy : Known → Transcode → (from : ℕ) → (from64 : Bool) → (to : ℕ) → (to64 : Bool) → Event → Known → Type 0
TranscodesBy k o from from64 to to64 e k' =
    AnswersBy (MustStop o (memory_at e.before from) (memory_at e.before to) (told_of e))
    (λ after rs j. (bytes : List ℕ) × IsHonestlyMade o (memory_at e.before from) (memory_at e.before to) (told_of e) bytes (map bits_of rs)
    × AreWrittenBytes bytes × AreOfCoreTypes (transcode_types (transcode_kind o) from64 to64) rs × (after ≡ with_memory_at e.before to (put_at (memory_at e.before to) (nth_number e.args 2) bytes)) × (j ≡ k)) k e k'

-- The shapes of the types of a call.
pub record CallShapes : Type 0 where
  pub lower_params : List Shape
  pub lower_results : List Shape
  pub lift_params : List Shape
  pub lift_results : List Shape

-- A call of the callee, where what it answers is `answered`.
pub record CallsBy (k : Known) (c : HostCall) (s : CallShapes) (answered : Option (List Value)) (e : Event) (k' : Known) : Type 0 where
  pub has_room : Bool
  pub lacks_room : has_room ≡ false → MayLackRoom k c s.lift_results s.lower_results answered e
  pub answers : AnswersBy (MustNotCall k c s.lift_params has_room e)
      (λ after rs j. (values : List Value) × (answered ≡ Some values) × AreOfCoreTypes (sync_lift c.lift.abi.memory64 s.lift_params s.lift_results).results rs × StoresResults k c s.lift_results s.lower_results values e.before after rs j) k e k'

-- How a call is answered, by what its function is.
abbrev pub Answers : HostCall → CallShapes → (answered : Option (List Value)) → Role → Known → Event → Known → Type 0
Answers c s answered role.Callee k e k' = CallsBy k c s answered e k'
Answers c s answered role.LiftRealloc k e k' = ReallocsBy k c.lift (if k.returned then false else true) e k'
Answers c s answered role.LowerRealloc k e k' = ReallocsBy k c.lower k.returned e k'
Answers c s answered role.PostReturn k e k' = AnswersBy ⊥ (LeavesAllKnown e k []) k e k'
Answers c s answered (role.Transcoder o from from64 to to64) k e k' = TranscodesBy k o from from64 to to64 e k'
Answers c s answered role.Transfer k e k' =
    AnswersBy ⊥ (λ after rs j. AreOfCoreTypes (ty.I32 ∷ []) rs × LeavesAllKnown e (record k { transfers = suc k.transfers }) (I32 (suc k.transfers) ∷ []) after rs j) k e k'
Answers c s answered role.Slot k e k' = AnswersBy ⊥ (LeavesAllKnown e k (I32 0 ∷ [])) k e k'
Answers c s answered role.Told k e k' = AnswersBy ⊥ (LeavesAllKnown e k []) k e k'
Answers c s answered role.Refused k e k' = e.answer ≡ Traps

-- The calls of a log are answered so, one after another, where the nth imported function is so.
abbrev pub AreAnswers : (Named : ℕ → Role → Type 0) → HostCall → CallShapes → (answered : Option (List Value)) → Known → List Event → Type 0
AreAnswers Named c s answered k [] = Unit {0}
AreAnswers Named c s answered k (e ∷ es) = (r : Role) × Named e.func r × (k' : Known) × Answers c s answered r k e k' × AreAnswers Named c s answered k' es
