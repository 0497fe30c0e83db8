-- The places of a helper itself: its first locals hold a source, or the address of one, and the address of a target; values fit there where they fit the
-- places of a caller.
use Rattle.std.proofs.Common.{◌≡◌, ℕ, zero, suc, ◌+◌, ◌-◌, ◌<◌, ◌≤◌, ◌^◌, Bool, true, false, List, [], ◌∷◌, ◌++◌, Some, refl, sym, ap, ◌∙◌, subst, arith, append-nil, length, map, take, slice_get}
use Rattle.std.specs.Prelude.{nat_lt, replicate, unwrap_or, if◌then◌else◌}
use Rattle.std.proofs.lemmas.Bool.{le-ltb, lt-ltb}
use Rattle.std.proofs.lemmas.List.{length-append, length-map}
use Rattle.fact_wasm.specs.declared.module.WasmModule.{WasmModule}
use Rattle.fact_wasm.specs.declared.types.ValType.{ValType}
use Rattle.fact_wasm.specs.declared.types.ValType.TheVariants as val
use Rattle.fact_types.specs.declared.flats.FlatType.{FlatType}
use Rattle.fact_types.specs.declared.flats.FlatType.TheVariants as flat_type
use Rattle.fact_types.specs.Adapters.{is_wide}
use Rattle.fact_types.specs.Flat.{value_type}
use Rattle.fact_types.specs.FlatShapes.{flat}
use Rattle.fact_types.specs.Shapes.{Shape}
use Rattle.fact_types.specs.Signatures.{width}
use Rattle.fact_machine.specs.Typing.{address_bits, address_operand, address_type}
use Rattle.fact_machine.specs.declared.types.CoreValue.{CoreValue}
use Rattle.fact_actions.specs.Alike.{source_as_i64}
use Rattle.fact_actions.specs.Running.{ImportPlaces}
use Rattle.fact_actions.specs.Sides.{LiftLowerOptions, Source, Values, AtAddress, Target, Slots, Into, width_of_side}
use Rattle.fact_code_laws.specs.Does.{Locals, held_types}
use Rattle.fact_code_laws.specs.Helpers.{IsSourceOf, IsTargetOf, SourceHasRoom, TargetHasRoom, args_of_source, args_of_target, flat_target}
use Rattle.fact_code_laws.specs.Places.{Slot, From, InLocals, InMemory, To, ToLocals, ToMemory, AreFree, AreHeld, AreLocals, AreUsed, FromRoom, FromUsed, MayGo, SideMemory, StandsAt, ToRoom, ToUsed}
use Rattle.fact_emit.specs.Asked.{flats_given}
use Rattle.fact_emit.specs.Fitting.{AreRoom, CanRead, CanWrite, FromWithin, IsSlotFor, ToWithin}
use Rattle.fact_emit.specs.Places.{HasDistinctSlots, TargetTaken}
use Rattle.fact_emit.specs.declared.helpers.HelperLocation.{HelperLocation}
use Rattle.fact_emit.specs.declared.helpers.HelperLocation.TheVariants as location
use Rattle.fact_emit.specs.declared.places.LinearMemory.{LinearMemory}
use Rattle.fact_kinds.specs.Asks.{params_at}
use Rattle.fact_compound.specs.Functions.{params_among, slots_from}
use Rattle.fact_compound.specs.Helpers.{is_on_stack, results_at, target_params}
use Rattle.fact_compound.specs.Passing.{last_local, tuple_from, tuple_to}
use Rattle.fact_compound.proofs.Flats.{flat_values_some, slots_room}
use Rattle.fact_compound.proofs.LocalsAdded.{slots_append, types_from}
use Rattle.fact_compound.proofs.SlotsFrom.{distinct_from, take_long}

-- ---- slots

pub slots_length : (k : ℕ) (ts : List ValType) → length (slots_from k ts) ≡ length ts
slots_length k [] = refl
slots_length k (t ∷ ts) = ap suc (slots_length (suc k) ts)

pub several : {X : Type 0} (n : ℕ) (x : X) → length (replicate n x) ≡ n
several zero x = refl
several (suc n) x = ap suc (several n x)

wide_slot : (f : FlatType) → IsSlotFor f val.I64
wide_slot flat_type.I32 = tt
wide_slot flat_type.I64 = tt
wide_slot flat_type.F32 = tt
wide_slot flat_type.F64 = tt

-- an i64 has room for a value of any flat type
pub wide_room : (k : ℕ) (fs : List FlatType) → AreRoom (slots_from k (replicate (length fs) val.I64)) fs
wide_room k [] = tt
wide_room k (f ∷ fs) = (wide_slot f, wide_room (suc k) fs)

pub room_length : (slots : List Slot) (fs : List FlatType) → AreRoom slots fs → length slots ≡ length fs
room_length [] [] r = refl
room_length [] (f ∷ fs) r = absurd r
room_length (s ∷ ss) [] r = absurd r
room_length (s ∷ ss) (f ∷ fs) r = ap suc (room_length ss fs r.1)

pub last_is : (k : ℕ) (ts : List ValType) (t : ValType) → last_local (slots_from k (ts ++ t ∷ [])) ≡ length ts + k
last_is k [] t = let e : k ≡ 0 + k = omega arith in e
last_is k (u ∷ []) t = let e : suc k ≡ 1 + k = omega arith in e
last_is k (u ∷ v ∷ ts) t = last_is (suc k) (v ∷ ts) t ∙ (let e : length (v ∷ ts) + suc k ≡ length (u ∷ v ∷ ts) + k = omega arith in e)

-- the types of what a helper gives, where they are few
pub given_are : (m : Bool) (u : Shape) → length (flat (width m) u) ≤ 16 → flats_given m u ≡ map value_type (flat (width m) u)
given_are m u few =
    let e : flat (width m) u ++ [] ≡ flat (width m) u = append-nil (flat (width m) u) in
    ap (λ o. unwrap_or o []) (flat_values_some m 16 (u ∷ []) (subst (λ (fs : List FlatType). length fs ≤ 16) (sym e) few) (omega arith)) ∙ ap (map value_type) e

-- ---- fitting

-- A caller's place is of the kind of the helper's, and in its memory.
abbrev pub IsFromAt : HelperLocation → LinearMemory → From → Type 0
IsFromAt l m (InLocals slots) = l ≡ location.Stack
IsFromAt l m (InMemory memory base offset) = (l ≡ location.Memory) × (memory ≡ m.memory)

abbrev pub IsToAt : HelperLocation → LinearMemory → To → Type 0
IsToAt l m (ToLocals slots) = l ≡ location.Stack
IsToAt l m (ToMemory memory base offset) = (l ≡ location.Memory) × (memory ≡ m.memory)

apart : location.Stack ≡ location.Memory → ⊥
apart e = cc

-- what a source is found by, and where a target goes to
abbrev pub own_from : HelperLocation → LinearMemory → (flats : ℕ) → From
own_from l m n = tuple_from m (is_on_stack l) (slots_from 0 (params_at l m.memory64 n))

abbrev pub own_to : HelperLocation → LinearMemory → Shape → (params : List ValType) → To
own_to l m u params = tuple_to m (is_on_stack l) (slots_from (length params) (results_at l m.memory64 u)) (slots_from 0 params)

pub same_width : (o : LiftLowerOptions) (m : LinearMemory) → is_wide o.memory ≡ m.memory64 → width_of_side o ≡ width m.memory64
same_width o m wide = ap width wide

module _ (M : WasmModule) (p : ImportPlaces) (o : LiftLowerOptions) (m : LinearMemory) (wide : is_wide o.memory ≡ m.memory64) where
  abbrev own_width : width_of_side o ≡ width m.memory64
  own_width = ap width wide

  pub reads_own : (l : HelperLocation) (x : Shape) (locals callers : List ValType) (bytes : ℕ) (src : From) → IsFromAt l m src → CanRead M p callers o m.memory64 src (flat (width_of_side o) x) bytes
      → AreLocals locals (slots_from 0 (params_at l m.memory64 (length (flat (width m.memory64) x)))) → CanRead M p locals o m.memory64 (own_from l m (length (flat (width m.memory64) x))) (flat (width_of_side o) x) bytes
  reads_own location.Stack x locals callers bytes (InLocals slots) found reads typed =
      let n : ℕ = length (flat (width m.memory64) x) in
      record {
        room = subst (λ w. AreRoom (slots_from 0 (replicate n val.I64)) (flat w x)) (sym own_width) (wide_room 0 (flat (width m.memory64) x));
        typed = typed;
        few = omega (arith, slots_length 0 (replicate n val.I64), several n val.I64, ap (λ w. length (flat w x)) own_width, room_length slots (flat (width_of_side o) x) reads.room, reads.few);
      }
  reads_own location.Memory x locals callers bytes (InMemory memory base offset) found reads typed = record {
    side = subst (SideMemory M p o m.memory64) found.1 reads.side;
    local = typed.0;
    reach = omega (arith, reads.reach);
  }
  reads_own location.Stack x locals callers bytes (InMemory memory base offset) found reads typed = absurd (apart found.0)
  reads_own location.Memory x locals callers bytes (InLocals slots) found reads typed = absurd (apart (sym found))

  -- values on the stack are few
  pub reads_few : (l : HelperLocation) (x : Shape) (callers : List ValType) (bytes : ℕ) (src : From) → IsFromAt l m src → CanRead M p callers o m.memory64 src (flat (width_of_side o) x) bytes → l ≡ location.Stack → length (flat (width m.memory64) x) ≤ 16
  reads_few l x callers bytes (InLocals slots) found reads stack = omega (arith, ap (λ w. length (flat w x)) own_width, room_length slots (flat (width_of_side o) x) reads.room, reads.few)
  reads_few l x callers bytes (InMemory memory base offset) found reads stack = absurd (apart (sym stack ∙ found.0))

  pub writes_own : (l : HelperLocation) (u : Shape) (params locals callers : List ValType) (bytes : ℕ) (dst : To) → IsToAt l m dst → CanWrite M p callers o m.memory64 dst (flat (width_of_side o) u) bytes
      → AreLocals locals (slots_from (length params) (results_at l m.memory64 u)) → (l ≡ location.Memory → slice_get locals (last_local (slots_from 0 params)) ≡ Some (address_type m.memory64))
      → CanWrite M p locals o m.memory64 (own_to l m u params) (flat (width_of_side o) u) bytes
  writes_own location.Stack u params locals callers bytes (ToLocals slots) put writes typed at =
      let few : length (flat (width m.memory64) u) ≤ 16 = omega (arith, ap (λ w. length (flat w u)) own_width, room_length slots (flat (width_of_side o) u) writes.room, writes.few) in
      let given : flats_given m.memory64 u ≡ map value_type (flat (width m.memory64) u) = given_are m.memory64 u few in
      record {
        room = subst (λ w. AreRoom (slots_from (length params) (flats_given m.memory64 u)) (flat w u)) (sym own_width)
            (slots_room (slots_from (length params) (flats_given m.memory64 u)) (flat (width m.memory64) u) (types_from (length params) (flats_given m.memory64 u) ∙ given));
        typed = typed;
        few = omega (arith, slots_length (length params) (flats_given m.memory64 u), ap length given, length-map (flat (width m.memory64) u) value_type, few);
      }
  writes_own location.Memory u params locals callers bytes (ToMemory memory base offset) put writes typed at = record {
    side = subst (SideMemory M p o m.memory64) put.1 writes.side;
    local = at refl;
    reach = omega (arith, writes.reach);
  }
  writes_own location.Stack u params locals callers bytes (ToMemory memory base offset) put writes typed at = absurd (apart put.0)
  writes_own location.Memory u params locals callers bytes (ToLocals slots) put writes typed at = absurd (apart (sym put))

  pub writes_few : (l : HelperLocation) (u : Shape) (callers : List ValType) (bytes : ℕ) (dst : To) → IsToAt l m dst → CanWrite M p callers o m.memory64 dst (flat (width_of_side o) u) bytes → l ≡ location.Stack → length (flat (width m.memory64) u) ≤ 16
  writes_few l u callers bytes (ToLocals slots) put writes stack = omega (arith, ap (λ w. length (flat w u)) own_width, room_length slots (flat (width_of_side o) u) writes.room, writes.few)
  writes_few l u callers bytes (ToMemory memory base offset) put writes stack = absurd (apart (sym stack ∙ put.0))

-- so are values that a helper gives
pub results_few : (l : HelperLocation) (m : LinearMemory) (u : Shape) (k : ℕ) → (l ≡ location.Stack → length (flat (width m.memory64) u) ≤ 16) → l ≡ location.Stack → length (slots_from k (results_at l m.memory64 u)) ≤ 16
results_few location.Stack m u k few stack = omega (arith, slots_length k (flats_given m.memory64 u), ap length (given_are m.memory64 u (few refl)), length-map (flat (width m.memory64) u) value_type, few refl)
results_few location.Memory m u k few stack = absurd (apart (sym stack))

-- of the parameters the first are those of the source
pub among_params : (l : HelperLocation) (memory64 : Bool) (front : List ValType) → params_among (is_on_stack l) (slots_from 0 (front ++ target_params l memory64)) ≡ slots_from 0 front
among_params location.Stack memory64 front = ap (slots_from 0) (append-nil front)
among_params location.Memory memory64 front =
    let e : length (slots_from 0 (front ++ address_type memory64 ∷ [])) - 1 ≡ length (slots_from 0 front) =
    omega (arith, slots_length 0 (front ++ address_type memory64 ∷ []), slots_length 0 front, length-append front (address_type memory64 ∷ [])) in
    (λ i. take (e i) (slots_append 0 front (address_type memory64 ∷ []) i)) ∙ take_long (slots_from 0 front) (slots_from (length front + 0) (address_type memory64 ∷ []))

-- all bytes of a place are within so much room
pub from_within : (l : HelperLocation) (m : LinearMemory) (n bytes : ℕ) → FromWithin bytes (own_from l m n) bytes
from_within location.Stack m n bytes = tt
from_within location.Memory m n bytes = omega arith

pub to_within : (l : HelperLocation) (m : LinearMemory) (u : Shape) (params : List ValType) (bytes : ℕ) → ToWithin bytes (own_to l m u params) bytes
to_within location.Stack m u params bytes = tt
to_within location.Memory m u params bytes = omega arith

-- ---- locals in use

-- the parameters are kept, and nothing else
abbrev pub keeps_params : (params : ℕ) → (ℕ → Bool) → ℕ → Bool
keeps_params n taken i = if nat_lt i n then taken i else false

pub kept_taken : (n : ℕ) (taken : ℕ → Bool) (i : ℕ) → keeps_params n taken i ≡ true → taken i ≡ true
kept_taken n taken i = go (nat_lt i n)
  where
    go : (b : Bool) → (if b then taken i else false) ≡ true → taken i ≡ true
    go true h = h
    go false h = cc

below : (i n : ℕ) → i < n → nat_lt i n ≡ true
below i n lt = lt-ltb i n lt

not_below : (i n : ℕ) → n ≤ i → nat_lt i n ≡ false
not_below i n le = le-ltb i n le

pub kept_param : (n : ℕ) (taken : ℕ → Bool) (i : ℕ) → i < n → taken i ≡ true → keeps_params n taken i ≡ true
kept_param n taken i lt h = ap (λ b. if b then taken i else false) (below i n lt) ∙ h

pub free_behind : (n : ℕ) (taken : ℕ → Bool) (i : ℕ) → n ≤ i → keeps_params n taken i ≡ false
free_behind n taken i le = ap (λ b. if b then taken i else false) (not_below i n le)

pub used_slots : (used : ℕ → Bool) (k : ℕ) (ts : List ValType) → ((i : ℕ) → i < length ts → used (i + k) ≡ true) → AreUsed used (slots_from k ts)
used_slots used k [] f = tt
used_slots used k (t ∷ ts) f =
    let first : k ≡ 0 + k = omega arith in
    (ap used first ∙ f 0 (omega arith), used_slots used (suc k) ts (λ i lt. let e : i + suc k ≡ suc i + k = omega arith in ap used e ∙ f (suc i) (omega (arith, lt))))

-- a source is in use
pub from_used : (l : HelperLocation) (m : LinearMemory) (n : ℕ) (used : ℕ → Bool) → ((i : ℕ) → i < length (params_at l m.memory64 n) → used i ≡ true) → FromUsed used (own_from l m n)
from_used location.Stack m n used f = used_slots used 0 (replicate n val.I64) (λ i lt. let e : i + 0 ≡ i = omega arith in ap used e ∙ f i lt)
from_used location.Memory m n used f = f 0 (omega arith)

-- and so is the address of a target, which the last parameter holds
pub to_used : (l : HelperLocation) (m : LinearMemory) (u : Shape) (front : List ValType) (used : ℕ → Bool) → ((i : ℕ) → i < length (front ++ target_params l m.memory64) → used i ≡ true) → ToUsed used (own_to l m u (front ++ target_params l m.memory64))
to_used location.Stack m u front used f = tt
to_used location.Memory m u front used f =
    let last : last_local (slots_from 0 (front ++ address_type m.memory64 ∷ [])) ≡ length front + 0 = last_is 0 front (address_type m.memory64) in
    ap used last ∙ f (length front + 0) (omega (arith, length-append front (address_type m.memory64 ∷ [])))

pub target_taken : (l : HelperLocation) (m : LinearMemory) (u : Shape) (params : List ValType) (taken : ℕ → Bool) → AreUsed taken (slots_from (length params) (results_at l m.memory64 u)) → TargetTaken taken (own_to l m u params)
target_taken location.Stack m u params taken h = h
target_taken location.Memory m u params taken h = tt

pub target_distinct : (l : HelperLocation) (m : LinearMemory) (u : Shape) (params : List ValType) → HasDistinctSlots (own_to l m u params)
target_distinct location.Stack m u params = distinct_from (length params) (flats_given m.memory64 u)
target_distinct location.Memory m u params = tt

-- ---- how it begins

held_length : (ls : Locals) (ss : List Slot) (vs : List CoreValue) → AreHeld ls ss vs → length ss ≡ length vs
held_length ls [] [] h = refl
held_length ls [] (v ∷ vs) h = absurd h
held_length ls (s ∷ ss) [] h = absurd h
held_length ls (s ∷ ss) (v ∷ vs) h = ap suc (held_length ls ss vs h.1)

held_parts : (ls : Locals) (ss rs : List Slot) (vs us : List CoreValue) → length ss ≡ length vs → AreHeld ls (ss ++ rs) (vs ++ us) → AreHeld ls ss vs × AreHeld ls rs us
held_parts ls [] rs [] us e h = (tt, h)
held_parts ls [] rs (v ∷ vs) us e h = absurd (omega (arith, e))
held_parts ls (s ∷ ss) rs [] us e h = absurd (omega (arith, e))
held_parts ls (s ∷ ss) rs (v ∷ vs) us e h =
    let rest = held_parts ls ss rs vs us (let k : length ss ≡ length vs = omega (arith, e) in k) h.1 in
    ((h.0, rest.0), rest.1)

-- a target in memory brings its address
target_args : (l : HelperLocation) (m : LinearMemory) (dst : To) (d : Target) → IsToAt l m dst → IsTargetOf dst d → length (args_of_target m.memory64 d) ≡ length (target_params l m.memory64)
target_args location.Stack m (ToLocals slots) (Slots ts) put kind = refl
target_args location.Memory m (ToMemory memory base offset) (Into a) put kind = refl
target_args location.Stack m (ToMemory memory base offset) d put kind = absurd (apart put.0)
target_args location.Memory m (ToLocals slots) d put kind = absurd (apart (sym put))
target_args location.Stack m (ToLocals slots) (Into a) put kind = absurd kind
target_args location.Memory m (ToMemory memory base offset) (Slots ts) put kind = absurd kind

operand_same : (m : Bool) (a b : ℕ) → Some (Some (address_operand m a)) ≡ Some (Some (address_operand m b)) → a ≡ b
operand_same true a b e = cc
operand_same false a b e = cc

free_from : (used : ℕ → Bool) (ls : Locals) (k : ℕ) (ts : List ValType) → AreLocals (held_types ls) (slots_from k ts) → ((i : ℕ) → k ≤ i → used i ≡ false) → AreFree used ls (slots_from k ts) ts
free_from used ls k [] l f = tt
free_from used ls k (t ∷ ts) l f = (refl, l.0, f k (omega arith), free_from used ls (suc k) ts l.1 (λ i le. f i (omega (arith, le))))

module _ (ls : Locals) (used : ℕ → Bool) (l k : HelperLocation) (m n : LinearMemory) (x : ℕ) (u : Shape) (src : From) (dst : To) (found : IsFromAt l m src) (put : IsToAt k n dst) (s : Source) (d : Target) (kind : IsSourceOf src s) (kind' : IsTargetOf dst d)
    (held : AreHeld ls (slots_from 0 (params_at l m.memory64 x ++ target_params k n.memory64)) (args_of_source m.memory64 s ++ args_of_target n.memory64 d)) where
  abbrev front : List ValType
  front = params_at l m.memory64 x

  abbrev back : List ValType
  back = target_params k n.memory64

  both : AreHeld ls (slots_from 0 front) (args_of_source m.memory64 s) × AreHeld ls (slots_from (length front + 0) back) (args_of_target n.memory64 d)
  both =
      let all = held_length ls (slots_from 0 (front ++ back)) (args_of_source m.memory64 s ++ args_of_target n.memory64 d) held in
      let e : length (slots_from 0 front) ≡ length (args_of_source m.memory64 s) =
      omega (arith, all, slots_length 0 (front ++ back), slots_length 0 front, length-append front back, length-append (args_of_source m.memory64 s) (args_of_target n.memory64 d), target_args k n dst d put kind') in
      held_parts ls (slots_from 0 front) (slots_from (length front + 0) back) (args_of_source m.memory64 s) (args_of_target n.memory64 d) e
      (subst (λ ss. AreHeld ls ss (args_of_source m.memory64 s ++ args_of_target n.memory64 d)) (slots_append 0 front back) held)

  pub stands_own : StandsAt ls m.memory64 (own_from l m x) (source_as_i64 s)
  stands_own = go l src s found kind both.0
    where
      go : (l : HelperLocation) (src : From) (s : Source) → IsFromAt l m src → IsSourceOf src s → AreHeld ls (slots_from 0 (params_at l m.memory64 x)) (args_of_source m.memory64 s) → StandsAt ls m.memory64 (own_from l m x) (source_as_i64 s)
      go location.Stack (InLocals slots) (Values vs) found kind h = h
      go location.Memory (InMemory memory base offset) (AtAddress a) found kind h = record { start = a; there = h.0.there; is = let e : a ≡ a + 0 = omega arith in e }
      go location.Stack (InMemory memory base offset) s found kind h = absurd (apart found.0)
      go location.Memory (InLocals slots) s found kind h = absurd (apart (sym found))
      go location.Stack (InLocals slots) (AtAddress a) found kind h = absurd kind
      go location.Memory (InMemory memory base offset) (Values vs) found kind h = absurd kind

  pub goes_own : AreLocals (held_types ls) (slots_from (length (front ++ back)) (results_at k n.memory64 u)) → ((i : ℕ) → length (front ++ back) ≤ i → used i ≡ false) → MayGo used ls n.memory64 (own_to k n u (front ++ back)) (flat_target (flats_given n.memory64 u) d)
  goes_own = go k dst d put kind' both.1
    where
      go : (k : HelperLocation) (dst : To) (d : Target) → IsToAt k n dst → IsTargetOf dst d → AreHeld ls (slots_from (length front + 0) (target_params k n.memory64)) (args_of_target n.memory64 d)
          → AreLocals (held_types ls) (slots_from (length (front ++ target_params k n.memory64)) (results_at k n.memory64 u)) → ((i : ℕ) → length (front ++ target_params k n.memory64) ≤ i → used i ≡ false)
          → MayGo used ls n.memory64 (own_to k n u (front ++ target_params k n.memory64)) (flat_target (flats_given n.memory64 u) d)
      go location.Stack (ToLocals slots) (Slots ts) put kind h typed free = free_from used ls (length (front ++ [])) (flats_given n.memory64 u) typed free
      go location.Memory (ToMemory memory base offset) (Into a) put kind h typed free = record {
        start = a;
        there = ap (slice_get ls) (last_is 0 front (address_type n.memory64)) ∙ h.0.there;
        is = let e : a ≡ a + 0 = omega arith in e;
      }
      go location.Stack (ToMemory memory base offset) d put kind h typed free = absurd (apart put.0)
      go location.Memory (ToLocals slots) d put kind h typed free = absurd (apart (sym put))
      go location.Stack (ToLocals slots) (Into a) put kind h typed free = absurd kind
      go location.Memory (ToMemory memory base offset) (Slots ts) put kind h typed free = absurd kind

  pub from_room : (bytes : ℕ) → SourceHasRoom m.memory64 bytes s → FromRoom ls m.memory64 (own_from l m x) bytes
  from_room bytes = go l src s found kind both.0
    where
      go : (l : HelperLocation) (src : From) (s : Source) → IsFromAt l m src → IsSourceOf src s → AreHeld ls (slots_from 0 (params_at l m.memory64 x)) (args_of_source m.memory64 s) → SourceHasRoom m.memory64 bytes s → FromRoom ls m.memory64 (own_from l m x) bytes
      go location.Stack (InLocals slots) (Values vs) found kind h room = tt
      go location.Memory (InMemory memory base offset) (AtAddress a) found kind h room = record {
        within = λ start at. subst (λ b. b + bytes ≤ 2 ^ address_bits m.memory64) (operand_same m.memory64 a start (sym h.0.there ∙ at)) room;
      }
      go location.Stack (InMemory memory base offset) s found kind h room = absurd (apart found.0)
      go location.Memory (InLocals slots) s found kind h room = absurd (apart (sym found))
      go location.Stack (InLocals slots) (AtAddress a) found kind h room = absurd kind
      go location.Memory (InMemory memory base offset) (Values vs) found kind h room = absurd kind

  pub to_room : (bytes : ℕ) → TargetHasRoom n.memory64 bytes d → ToRoom ls n.memory64 (own_to k n u (front ++ back)) bytes
  to_room bytes = go k dst d put kind' both.1
    where
      go : (k : HelperLocation) (dst : To) (d : Target) → IsToAt k n dst → IsTargetOf dst d → AreHeld ls (slots_from (length front + 0) (target_params k n.memory64)) (args_of_target n.memory64 d) → TargetHasRoom n.memory64 bytes d
          → ToRoom ls n.memory64 (own_to k n u (front ++ target_params k n.memory64)) bytes
      go location.Stack (ToLocals slots) (Slots ts) put kind h room = tt
      go location.Memory (ToMemory memory base offset) (Into a) put kind h room = record {
        within = λ start at. subst (λ b. b + bytes ≤ 2 ^ address_bits n.memory64) (operand_same n.memory64 a start (sym (ap (slice_get ls) (last_is 0 front (address_type n.memory64)) ∙ h.0.there) ∙ at)) room;
      }
      go location.Stack (ToMemory memory base offset) d put kind h room = absurd (apart put.0)
      go location.Memory (ToLocals slots) d put kind h room = absurd (apart (sym put))
      go location.Stack (ToLocals slots) (Into a) put kind h room = absurd kind
      go location.Memory (ToMemory memory base offset) (Slots ts) put kind h room = absurd kind
