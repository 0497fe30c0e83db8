-- Calls of helpers move values as code in place does.
use Rattle.std.proofs.Common.{◌≡◌, ℕ, suc, ◌+◌, ◌≤◌, Bool, true, false, List, [], ◌∷◌, ◌++◌, Option, Some, None, refl, sym, ap, ◌∙◌, subst, arith, length, map, append-nil, inl, inr, ◌||◌, nat_eq, nat_le}
use Rattle.std.specs.Prelude.{unwrap_or, if◌then◌else◌, Contains}
use Rattle.std.specs.List.{filter_map}
use Rattle.std.specs.Str.{bytes_eq}
use Rattle.std.proofs.lemmas.Bool.{le-leb}
use Rattle.std.proofs.lemmas.List.{length-map}
use Rattle.fact_wasm.specs.declared.instr.Instr.{Instr}
use Rattle.fact_wasm.specs.declared.types.ValType.{ValType}
use Rattle.fact_wasm.specs.declared.types.ValType.TheVariants as val
use Rattle.fact_wasm.specs.declared.module.WasmModule.{WasmModule}
use Rattle.fact_machine.specs.Typing.{is_number}
use Rattle.fact_types.specs.declared.flats.FlatType.{FlatType}
use Rattle.fact_types.specs.declared.flats.FlatType.TheVariants as flat_type
use Rattle.fact_types.specs.declared.interface.InterfaceType.{InterfaceType}
use Rattle.fact_types.specs.declared.interface.InterfaceType.TheVariants as ty
use Rattle.fact_types.specs.declared.extents.MemoryWidth.{MemoryWidth}
use Rattle.fact_types.specs.declared.extents.MemoryWidth.TheVariants.{Memory32, Memory64}
use Rattle.fact_types.specs.Agrees.{chosen}
use Rattle.fact_types.specs.Fields.{Field, field_of}
use Rattle.fact_types.specs.Flat.{value_type}
use Rattle.fact_types.specs.FlatShapes.{flat, upto, flat_types, after_flat, flat_each, when_upto, IsCounted}
use Rattle.fact_types.specs.Layout.{flags_flat, flags_size}
use Rattle.fact_types.specs.Shapes.{Kind, k_record, k_variant, k_list, k_tuple, k_map, k_flags, k_enum, k_fixed, k_option, k_result, k_future, k_stream, Shape, s_plain, s_node, Members, no_members, bare, typed, layout_of}
use Rattle.fact_types.specs.Signatures.{width, flat_values}
use Rattle.fact_types.specs.Sound.{TakesBytes}
use Rattle.fact_types.specs.Tables.{Tables, HasShape, IsLive}
use Rattle.fact_values.specs.Canonical.{ThereIs}
use Rattle.fact_values.specs.Limits.{CaseType, Where}
use Rattle.fact_machine.specs.declared.types.CoreValue.{CoreValue}
use Rattle.fact_machine.specs.Exits.{entry_locals}
use Rattle.fact_values.specs.Places.{count_of_members}
use Rattle.fact_actions.specs.Actions.{Action}
use Rattle.fact_actions.specs.Alike.{source_as_i64, CanFill, CanFillFields, CanFillCase, CanFillPlain, CanFillNode}
use Rattle.fact_actions.specs.Moves.{move}
use Rattle.fact_actions.specs.Running.{ImportPlaces}
use Rattle.fact_actions.specs.Sides.{Source, Target, Slots, Into, width_of_side}
use Rattle.fact_code_laws.specs.Helpers.{AreRoomFor, IsRoomFor, AreNumberSlots, AreValues, args_of_source, args_of_target, flat_target, given_out, AreGiven, params_of_source, params_of_target, IsSourceOf, IsTargetOf, SourceHasRoom, TargetHasRoom, IsHelper, IsCallSource, IsCallTarget, helper_code}
use Rattle.fact_code_laws.specs.Does.{Onward, Does}
use Rattle.fact_code_laws.specs.Places.{Slot, From, InLocals, InMemory, To, ToLocals, ToMemory, Setting, transfer, Moves}
use Rattle.fact_code_laws.proofs.HelperMoves.{helper_calls_move}
use Rattle.fact_code_laws.proofs.Rules.{within}
use Rattle.fact_emit.specs.declared.helpers.Helper.{Helper}
use Rattle.fact_emit.specs.declared.places.LinearMemory.{LinearMemory}
use Rattle.fact_emit.specs.declared.places.Sides.{Sides}
use Rattle.fact_emit.specs.declared.places.SourcePlace.{SourcePlace}
use Rattle.fact_emit.specs.declared.places.SourcePlace.TheVariants as source
use Rattle.fact_emit.specs.declared.places.TargetPlace.{TargetPlace}
use Rattle.fact_emit.specs.declared.places.TargetPlace.TheVariants as target
use Rattle.fact_emit.specs.declared.writer.Writer.{Writer}
use Rattle.fact_emit.specs.Asked.{AskedHelper, HasHelper, IsFoundAt, IsPutAt, flats_given, sides_of_helper}
use Rattle.fact_emit.specs.Emits.{GrewAsking}
use Rattle.fact_emit.specs.Fitting.{IsSlotFor, AreRoom, SlotsFit, AddressFits, CanRead, FromWithin, FitsShapes, bytes_of_shape}
use Rattle.fact_emit.specs.Imports.{AreOnce, Extended}
use Rattle.fact_emit.specs.Movable.{CanMove, CanMoveMember, CanMovePlain, CanMoveNode, CanTransfer, CanMoveFields, CanMoveCase, CanMoveFlags}
use Rattle.fact_emit.specs.NamedFunctions.{defined_named, defined_place}
use Rattle.fact_emit.specs.Places.{from_of, to_of, setting_of, HasDistinctSlots}
use Rattle.fact_emit.specs.States.{ModuleSoFar, IsHelperAsked}
use Rattle.fact_emit.specs.StringPieces.{AreSidesImported}
use Rattle.fact_emit.specs.Writers.{taken_in}
use Rattle.fact_emit.proofs.BroughtLaws.{brought_helper}
use Rattle.fact_emit.proofs.Emitting.{emits_as, emits_naming, grew_naming}
use Rattle.fact_emit.proofs.SidesImported.{sides_later}
use Rattle.fact_emit.proofs.ScalarMoves.{reached}
use Rattle.fact_kinds.specs.Asks.{AreSidesTold, MovesHelped, helper_key, WroteCall}
use Rattle.fact_kinds.specs.Moved.{MovedInPlace, MovedValue, CalledHelper}
use Rattle.fact_kinds.specs.declared.fuel.Fuel.{Fuel}
use Rattle.fact_kinds.proofs.Asking.{asked_below}
use Rattle.fact_kinds.proofs.FlagMoves.{flags_room}
use Rattle.fact_kinds.proofs.HelperCodes.{call_named, call_ranged}
use Rattle.fact_kinds.proofs.Translating.{IsCostOf, covered_translated, left_translated}

-- ---- in place

-- Code in place leaves more steps than a call does.
pub moved_in_place : {t : Tables} {from to : InterfaceType} {sides : Sides} {src : From} {dst : To} {a b : Writer} {before after : Fuel} {charge : ℕ} → IsCostOf t from charge → {covered : Bool} → covered ≡ (nat_le charge before.left || nat_eq before.left before.initial) → covered ≡ true
    → MovedInPlace t from to sides src dst before after a b → MovedValue t from to sides src dst before after a b
moved_in_place costs {covered} is holds m = record {
  grew = m.grew;
  asks = m.asks;
  asked = asked_below (omega arith) m.asks m.asked;
  emits = λ s u hs hu cs cu can.
      emits_as (λ M p locals code x. record { moves = λ a b rooms used using fit. fewer (x.moves a b rooms used using fit) }) (m.emits s u hs hu cs cu can.moves);
  translated = λ s u hs hu cs cu can. covered_translated costs s u hs covered is holds (m.translated s u hs hu cs cu can.moves);
}
  where
    fewer : {S : Setting} {used : ℕ → Bool} {src : From} {dst : To} {act : Source → Target → Action (List CoreValue)} {code : List Instr} → Moves S used 0 500 src dst act code → Moves S used 0 100 src dst act code
    fewer m = record { effect = λ ls s d e st g rooms. within (omega arith) (m.effect ls s d e st g rooms); typed = m.typed }

-- ---- flat types

slot_number : (f : FlatType) (t : ValType) → IsSlotFor f t → is_number t ≡ true
slot_number flat_type.I32 val.I32 h = refl
slot_number flat_type.I32 val.I64 h = refl
slot_number flat_type.I64 val.I64 h = refl
slot_number flat_type.F32 val.F32 h = refl
slot_number flat_type.F32 val.I32 h = refl
slot_number flat_type.F32 val.I64 h = refl
slot_number flat_type.F64 val.F64 h = refl
slot_number flat_type.F64 val.I64 h = refl
slot_number _ _ h = absurd h

slot_room : (f : FlatType) (t : ValType) → IsSlotFor f t → IsRoomFor (value_type f) t
slot_room flat_type.I32 val.I32 h = tt
slot_room flat_type.I32 val.I64 h = tt
slot_room flat_type.I64 val.I64 h = tt
slot_room flat_type.F32 val.F32 h = tt
slot_room flat_type.F32 val.I32 h = tt
slot_room flat_type.F32 val.I64 h = tt
slot_room flat_type.F64 val.F64 h = tt
slot_room flat_type.F64 val.I64 h = tt
slot_room _ _ h = absurd h

slots_number : (ss : List Slot) (fs : List FlatType) → AreRoom ss fs → AreNumberSlots ss
slots_number [] [] h = tt
slots_number [] (f ∷ fs) h = absurd h
slots_number (s ∷ ss) [] h = absurd h
slots_number (s ∷ ss) (f ∷ fs) h = (slot_number f s.1 h.0, slots_number ss fs h.1)

slots_room : (ss : List Slot) (fs : List FlatType) → AreRoom ss fs → AreRoomFor (map value_type fs) ss
slots_room [] [] h = tt
slots_room [] (f ∷ fs) h = absurd h
slots_room (s ∷ ss) [] h = absurd h
slots_room (s ∷ ss) (f ∷ fs) h = (slot_room f s.1 h.0, slots_room ss fs h.1)

slots_count : (ss : List Slot) (fs : List FlatType) → AreRoom ss fs → length fs ≡ length ss
slots_count [] [] h = refl
slots_count [] (f ∷ fs) h = absurd h
slots_count (s ∷ ss) [] h = absurd h
slots_count (s ∷ ss) (f ∷ fs) h = ap suc (slots_count ss fs h.1)

upto_some : {X : Type 0} (n : ℕ) (xs : List X) → length xs ≤ n → upto n xs ≡ Some xs
upto_some n xs h = ap (λ b. if b then Some xs else None) (le-leb (length xs) n h)

abbrev values_of : Option (List FlatType) → Option (List ValType)
values_of None = None
values_of (Some fs) = Some (map value_type fs)

by_each : (m : Bool) (ss : List Shape) → flat_values m 16 ss ≡ values_of (when_upto 16 (flat_each (width m) ss))
by_each m ss = go (when_upto 16 (flat_each (width m) ss))
  where
    flat_of : Option (List FlatType) → Option (List ValType)
    flat_of None = None
    flat_of (Some fs) = Some (map value_type fs)

    go : (o : Option (List FlatType)) → flat_of o ≡ values_of o
    go None = refl
    go (Some fs) = refl

-- what a helper gives of a type with at most 16 flat types
flats_few : (m : Bool) (u : Shape) → length (flat (width m) u) ≤ 16 → flats_given m u ≡ map value_type (flat (width m) u)
flats_few m u few =
    let fs = flat (width m) u in
    let one : flat_types (width m) u ≡ Some fs = upto_some 16 fs few in
    let all : length (fs ++ []) ≤ 16 = subst (λ (xs : List FlatType). length xs ≤ 16) (sym (append-nil fs)) few in
    ap (λ o. unwrap_or o []) (by_each m (u ∷ []) ∙ ap (λ o. values_of (when_upto 16 (after_flat o (Some [])))) one ∙ ap values_of (upto_some 16 (fs ++ []) all)) ∙ ap (map value_type) (append-nil fs)

-- ---- what can be moved fills its slots

flags_fill : (ms ns : Members) → CanMoveFlags ms ns → flags_flat (flags_size (count_of_members ns)) ≡ 1
flags_fill ms ns can = ap (λ n. flags_flat (flags_size n)) can.same ∙ (flags_room (count_of_members ms) can.some can.few).1

no_string : (a : InterfaceType) → CanTransfer a ty.String → ⊥
no_string (ty.Own i) h = h
no_string (ty.Borrow i) h = h
no_string (ty.ErrorContext i) h = h
no_string _ h = h

plain_fills : (p : InterfaceType) (t : Shape) → CanMovePlain t p → CanFillPlain t p
plain_fills ty.String (s_plain a) (inl can) = ap s_plain can.0
plain_fills ty.String (s_plain a) (inr (inl can)) = ap s_plain can.0
plain_fills ty.String (s_plain a) (inr (inr can)) = absurd (no_string a can)
plain_fills ty.String (s_node k ms) can = absurd can
plain_fills _ t can = tt

node_fills : (k : Kind) (t : Shape) (ns : Members) → CanMoveNode t k ns (λ ms. CanMoveFields ms ns) (λ c. CanMoveCase c ns)
    → ((ms : Members) → CanMoveFields ms ns → CanFillFields ms ns) → ((c : CaseType) → CanMoveCase c ns → CanFillCase c ns)
    → CanFillNode t k ns (λ ms. CanFillFields ms ns) (λ c. CanFillCase c ns)
node_fills k_record (s_node k_record ms) ns can fields case = fields ms can
node_fills k_tuple (s_node k_tuple ms) ns can fields case = fields ms can
node_fills (k_fixed n) (s_node (k_fixed m) ms) ns can fields case = fields ms can.1.fields
node_fills k_flags (s_node k_flags ms) ns can fields case = flags_fill ms ns can
node_fills k_variant (s_node k_variant ms) ns can fields case = λ n c h. case c (can n c h)
node_fills k_option (s_node k_option ms) ns can fields case = λ n c h. case c (can n c h)
node_fills k_result (s_node k_result ms) ns can fields case = λ n c h. case c (can n c h)
node_fills k_list (s_node k_list ms) ns can fields case = tt
node_fills k_map (s_node k_map ms) ns can fields case = tt
node_fills k_enum (s_node k_enum ms) ns can fields case = tt
node_fills (k_future u j) (s_node (k_future t i) ms) ns can fields case = tt
node_fills (k_stream u j) (s_node (k_stream t i) ms) ns can fields case = tt
node_fills k t ns can fields case = absurd can

where_there : {A : Type 0} {P Q : A → Type 0} (o : Option A) → ThereIs o P → ((a : A) → P a → Q a) → Where o Q
where_there None h f = absurd h
where_there (Some a) h f = f a h

chosen_as : (b : Bool) (A B C D : Type 0) → (A → C) → (B → D) → chosen b A B → chosen b C D
chosen_as true A B C D f g x = f x
chosen_as false A B C D f g x = g x

mutual
  can_fill : (u t : Shape) → CanMove t u → CanFill t u
  can_fill (s_plain p) t can = plain_fills p t can
  can_fill (s_node k ns) t can = node_fills k t ns can (λ ms h. fields_fill ns ms h) (λ c h. case_fills ns c h)

  fields_fill : (ns ms : Members) → CanMoveFields ms ns → CanFillFields ms ns
  fields_fill no_members ms h = tt
  fields_fill (bare x ns) ms h = fields_fill ns ms h
  fields_fill (typed x u ns) ms h =
      (where_there {P = λ (f : Field). CanMoveMember f.shape u} {Q = λ (f : Field). CanFill f.shape u} (field_of x ms) h.0 (λ f can. can_fill u f.shape can.moves), fields_fill ns ms h.1)

  case_fills : (ns : Members) (c : CaseType) → CanMoveCase c ns → CanFillCase c ns
  case_fills no_members c h = tt
  case_fills (bare x ns) c h =
      chosen_as (bytes_eq x c.name) (c.payload ≡ None) (CanMoveCase c ns) (Unit {0}) (CanFillCase c ns) (λ none. tt) (λ later. case_fills ns c later) h
  case_fills (typed x u ns) c h =
      chosen_as (bytes_eq x c.name) (ThereIs c.payload (λ p. CanMoveMember p u)) (CanMoveCase c ns) (Where c.payload (λ p. CanFill p u)) (CanFillCase c ns)
      (λ here. where_there {P = λ p. CanMoveMember p u} {Q = λ p. CanFill p u} c.payload here (λ p can. can_fill u p can.moves)) (λ later. case_fills ns c later) h

-- ---- the call

-- a place in memory is in that of its side
abbrev pub IsFromOf : LinearMemory → From → Type 0
IsFromOf m (InLocals slots) = Unit {0}
IsFromOf m (InMemory memory base offset) = memory ≡ m.memory

abbrev pub IsToOf : LinearMemory → To → Type 0
IsToOf m (ToLocals slots) = Unit {0}
IsToOf m (ToMemory memory base offset) = memory ≡ m.memory

pub from_is : (m : LinearMemory) (s : SourcePlace) → IsFromOf m (from_of m s)
from_is m (source.Locals ls) = tt
from_is m (source.Memory a) = refl

pub to_is : (m : LinearMemory) (d : TargetPlace) → IsToOf m (to_of m d)
to_is m (target.Locals ls) = tt
to_is m (target.Memory a) = refl

found_at : (sides : Sides) (from to : InterfaceType) (src : From) (dst : To) → AreSidesTold sides → IsFromOf sides.from src → IsFoundAt (helper_key sides from to src dst).src src
found_at sides from to (InLocals slots) dst told h = refl
found_at sides from to (InMemory memory base offset) dst told h = (refl, h ∙ ap (λ (m : LinearMemory). m.memory) told.from)

put_at : (sides : Sides) (from to : InterfaceType) (src : From) (dst : To) → AreSidesTold sides → IsToOf sides.to dst → IsPutAt (helper_key sides from to src dst).dst dst
put_at sides from to src (ToLocals slots) told h = refl
put_at sides from to src (ToMemory memory base offset) told h = (refl, h ∙ ap (λ (m : LinearMemory). m.memory) told.to)

some_bytes : (w : MemoryWidth) (t : Shape) → TakesBytes (layout_of t) → 1 ≤ bytes_of_shape w t
some_bytes Memory32 t h = h.memory32
some_bytes Memory64 t h = h.memory64

-- what a helper writes to memory does not hang on what it would give
flats_free : {M : WasmModule} {p : ImportPlaces} {from64 to64 : Bool} {from : From} {memory base offset from_bytes to_bytes number : ℕ} {act : Source → Target → Action (List CoreValue)} (flats others : List ValType)
    → IsHelper M p from64 to64 from (ToMemory memory base offset) from_bytes to_bytes flats number act → IsHelper M p from64 to64 from (ToMemory memory base offset) from_bytes to_bytes others number act
flats_free {M} {p} {from64} {to64} {from} {memory} {base} {offset} {from_bytes} {to_bytes} {number} {act} flats others h = record {
  func = h.func;
  there = h.there;
  typed = h.typed;
  does = λ s d is at values room room'. by d s is at values room room';
}
  where
    by : (d : Target) (s : Source) → IsSourceOf from s → IsTargetOf (ToMemory memory base offset) d → AreValues (args_of_source from64 s ++ args_of_target to64 d) (params_of_source from64 from ++ params_of_target to64 (ToMemory memory base offset))
        → SourceHasRoom from64 from_bytes s → TargetHasRoom to64 to_bytes d
        → Does M p Onward 0 484 [] (entry_locals h.func (args_of_source from64 s ++ args_of_target to64 d)) h.func.body (act (source_as_i64 s) (flat_target others d)) (given_out d) (λ vs ls'. AreGiven others d vs)
    by (Slots ts) s is at values room room' = absurd at
    by (Into a) s is at values room room' = h.does s (Into a) is tt values room room'

-- The places of a call, where they fit.
module _ {sides : Sides} {S : Setting} {t u : Shape} {src : From} {dst : To} (fit : FitsShapes sides S t u src dst) (from_bytes : TakesBytes (layout_of t)) (to_bytes : TakesBytes (layout_of u)) where
  source_fits : IsCallSource S src (bytes_of_shape (width_of_side S.from) t)
  source_fits = by src fit.reads fit.within.source
    where
      by : (src : From) → CanRead S.whole S.places S.locals S.from S.from64 src (flat (width_of_side S.from) t) (bytes_of_shape (width_of_side S.from) t) → FromWithin S.rooms.from src (bytes_of_shape (width_of_side S.from) t) → IsCallSource S src (bytes_of_shape (width_of_side S.from) t)
      by (InLocals slots) r w = (slots_number slots (flat (width_of_side S.from) t) r.room, r.typed, r.few)
      by (InMemory memory base offset) r w = (record { local = r.local; reached = reached S.from64 offset (bytes_of_shape (width_of_side S.from) t) r.reach }, w, some_bytes (width_of_side S.from) t from_bytes)

  -- of a target in slots, which has at most 16 flat types, and of one in memory
  slots_fit : (slots : List Slot) → SlotsFit S.locals slots (flat (width_of_side S.to) u) → HasDistinctSlots (ToLocals slots) → IsCallTarget S (ToLocals slots) (bytes_of_shape (width_of_side S.to) u) (map value_type (flat (width_of_side S.to) u))
  slots_fit slots r d = (slots_room slots (flat (width_of_side S.to) u) r.room, d, r.typed, r.few)

  memory_fits : (memory base offset : ℕ) (flats : List ValType) → AddressFits S.whole S.places S.locals S.to S.to64 memory base offset (bytes_of_shape (width_of_side S.to) u) → offset + bytes_of_shape (width_of_side S.to) u ≤ S.rooms.to
      → IsCallTarget S (ToMemory memory base offset) (bytes_of_shape (width_of_side S.to) u) flats
  memory_fits memory base offset flats r w = (record { local = r.local; reached = reached S.to64 offset (bytes_of_shape (width_of_side S.to) u) r.reach }, w, some_bytes (width_of_side S.to) u to_bytes)

-- The call of a helper that does the move.
helper_moves : {sides : Sides} (S : Setting) (used : ℕ → Bool) (t u : Shape) (src : From) (dst : To) (number : ℕ) → FitsShapes sides S t u src dst → HasDistinctSlots dst → CanMoveMember t u
    → IsHelper S.whole S.places S.from64 S.to64 src dst (bytes_of_shape (width_of_side S.from) t) (bytes_of_shape (width_of_side S.to) u) (flats_given S.to64 u) number (move (transfer S) t u)
    → Moves S used 0 100 src dst (move (transfer S) t u) (helper_code S.from64 S.to64 src dst (flats_given S.to64 u) number)
helper_moves S used t u src (ToLocals slots) number fit distinct can h =
    let ts = flat (width_of_side S.to) u in
    let few : length ts ≤ 16 = omega (arith, slots_count slots ts fit.writes.room, fit.writes.few) in
    let width_is : width S.to64 ≡ width_of_side S.to = ap width (sym fit.to_wide) in
    let flats_are : flats_given S.to64 u ≡ map value_type ts = flats_few S.to64 u (subst (λ w. length (flat w u) ≤ 16) (sym width_is) few) ∙ ap (λ w. map value_type (flat w u)) width_is in
    subst (λ fs. Moves S used 0 100 src (ToLocals slots) (move (transfer S) t u) (helper_code S.from64 S.to64 src (ToLocals slots) fs number)) (sym flats_are)
    (helper_calls_move S used src (ToLocals slots) _ _ t u (map value_type ts) number
    (subst (λ fs. IsHelper S.whole S.places S.from64 S.to64 src (ToLocals slots) (bytes_of_shape (width_of_side S.from) t) (bytes_of_shape (width_of_side S.to) u) fs number (move (transfer S) t u)) flats_are h)
    (source_fits fit can.from_bytes can.to_bytes) (slots_fit fit can.from_bytes can.to_bytes slots fit.writes distinct) (can_fill u t can.moves) (length-map ts value_type))
helper_moves S used t u src (ToMemory memory base offset) number fit distinct can h =
    let ts = flat (width_of_side S.to) u in
    helper_calls_move S used src (ToMemory memory base offset) _ _ t u (map value_type ts) number (flats_free (flats_given S.to64 u) (map value_type ts) h)
    (source_fits fit can.from_bytes can.to_bytes) (memory_fits fit can.from_bytes can.to_bytes memory base offset (map value_type ts) fit.writes fit.within.target) (can_fill u t can.moves) (length-map ts value_type)

-- a helper that is asked for between two types and such places
abbrev pub asked_between : (t : Tables) (sides : Sides) (from to : InterfaceType) (src : From) (dst : To) (number : ℕ) → AskedHelper
asked_between t sides from to src dst number = record { tables = t; key = helper_key sides from to src dst; number = number; debug = sides.debug; concurrency = sides.concurrency }

call_moves : {t : Tables} {sides : Sides} {from to : InterfaceType} {src : From} {dst : To} {number : ℕ} {taken : ℕ → Bool} (s u : Shape) → AreSidesTold sides → IsFromOf sides.from src → IsToOf sides.to dst
    → HasShape t from s → HasShape t to u → IsCounted s → IsCounted u → CanMoveMember s u
    → (M : WasmModule) (p : ImportPlaces) (locals : List ValType) → HasHelper M p (asked_between t sides from to src dst number)
    → MovesHelped sides src dst taken s u M p locals (helper_code sides.from.memory64 sides.to.memory64 src dst (flats_given sides.to.memory64 u) number)
call_moves {t} {sides} {from} {to} {src} {dst} {number} {taken} s u told is is' hs hu cs cu can M p locals has =
    let a = asked_between t sides from to src dst number in
    let same : sides_of_helper a ≡ sides = λ i. record { from = sym told.from i; to = sym told.to i; debug = sides.debug; concurrency = sides.concurrency } in
    subst (λ (x : Sides). MovesHelped x src dst taken s u M p locals (helper_code x.from.memory64 x.to.memory64 src dst (flats_given x.to.memory64 u) number)) same (record {
      moves = λ b c rooms used using fit.
          helper_moves (setting_of (sides_of_helper a) b c rooms M p locals) used s u src dst number fit using.distinct can
          (has.moves s u hs hu cs cu can.moves src dst (found_at sides from to src dst told is) (put_at sides from to src dst told is') b c rooms locals fit);
    })

-- ---- as it is written

-- A helper was asked for, and then its call was put behind the code.
pub call_asked : {t : Tables} {sides : Sides} {from to : InterfaceType} {src : From} {dst : To} {number : ℕ} {key : Helper} {a b c : Writer} → AreSidesTold sides → IsFromOf sides.from src → IsToOf sides.to dst → AreSidesImported sides a.sections → IsLive t from → IsLive t to
    → key ≡ helper_key sides from to src dst → b.code.items ≡ a.code.items → b.locals ≡ a.locals → IsHelperAsked a.sections b.sections key number → Extended a.sections b.sections → (AreOnce a.sections → AreOnce b.sections)
    → WroteCall t sides to number src dst b c → CalledHelper t from to sides src dst a c
call_asked {t} {sides} {from} {to} {src} {dst} {number} {key} {a} {b} {c} told is is' imported from_live to_live key_is code locals is_asked more once w =
    let names = call_named sides.from.memory64 sides.to.memory64 src dst w.flats number in
    let ranged = call_ranged sides.from.memory64 sides.to.memory64 src dst w.flats number in
    let one = asked_between t sides from to src dst number in
    let calls : defined_named (helper_code sides.from.memory64 sides.to.memory64 src dst w.flats number) ≡ number ∷ [] = ap (filter_map defined_place) names in
    let grew : GrewAsking (one ∷ []) a c = grew_naming code locals more once (brought_helper names ranged is_asked) w.wrote {asks = one ∷ []} calls in
    let same : sides ≡ sides_of_helper one = λ i. record { from = told.from i; to = told.to i; debug = sides.debug; concurrency = sides.concurrency } in
    let there : Contains b.sections.helpers (one.key, number) = subst (λ k. Contains b.sections.helpers (k, number)) key_is is_asked.there in
    record {
      helper = one;
      key = refl;
      grew = grew;
      asked = record {
        each = (
          record {
            tables = refl;
            debug = refl;
            concurrency = refl;
            from_live = from_live;
            to_live = to_live;
            low = omega arith;
            imported = subst (λ s. AreSidesImported s c.sections) same (sides_later grew.imports imported);
            there = subst (λ (s : ModuleSoFar). Contains s.helpers (one.key, number)) (sym w.wrote.imports) there;
          },
          tt,
        );
      };
      emits = λ s u hs hu cs cu can.
          emits_naming code locals more once (brought_helper names ranged is_asked) w.wrote {asks = one ∷ []} calls (λ M p ls serves has.
          subst (λ code. MovesHelped sides src dst (taken_in a) s u M p ls code) (sym (w.given u hu)) (call_moves s u told is is' hs hu cs cu can M p ls has.0));
    }

-- Where the fuel does not cover a value, the call of a helper moves it.
pub value_called : {t : Tables} {from to : InterfaceType} {sides : Sides} {src : From} {dst : To} {a b : Writer} {before : Fuel} {charge : ℕ} → IsCostOf t from charge → {covered : Bool} → covered ≡ (nat_le charge before.left || nat_eq before.left before.initial) → covered ≡ false
    → CalledHelper t from to sides src dst a b → MovedValue t from to sides src dst before before a b
value_called costs {covered} is fails m = record {
  asks = m.helper ∷ [];
  grew = m.grew;
  asked = m.asked;
  emits = m.emits;
  translated = λ s u hs hu cs cu can. left_translated costs s u hs hu cs cu can m.helper m.key covered is fails;
}
