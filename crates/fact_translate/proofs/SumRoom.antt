-- The room of payloads among the slots and the bytes of a variant.
use Rattle.std.proofs.Common.{◌≡◌, ◌≢◌, ℕ, zero, suc, ◌+◌, ◌≤◌, Bool, true, List, [], ◌∷◌, length, take, drop, max, Option, Some, None, refl, ap, ◌∙◌, subst, arith}
use Rattle.std.proofs.lemmas.Bool.{or_left, or_right}
use Rattle.fact_wasm.specs.declared.types.ValType.{ValType}
use Rattle.fact_wasm.specs.declared.types.ValType.TheVariants as val
use Rattle.fact_wasm.specs.declared.module.WasmModule.{WasmModule}
use Rattle.fact_types.specs.declared.flats.FlatType.{FlatType}
use Rattle.fact_types.specs.declared.flats.FlatType.TheVariants as flat_type
use Rattle.fact_types.specs.declared.extents.MemoryWidth.{MemoryWidth}
use Rattle.fact_types.specs.declared.extents.MemoryWidth.TheVariants.{Memory32, Memory64}
use Rattle.fact_types.specs.Flat.{join}
use Rattle.fact_types.specs.FlatShapes.{flat, joined, flat_any}
use Rattle.fact_types.specs.Layout.{extent, extents, aligned, greatest_align, greatest_size, payloads, payload_offset}
use Rattle.fact_types.specs.PointerPairs.{has_pointer_pair, have_pointer_pair}
use Rattle.fact_types.specs.Shapes.{k_variant, Shape, s_node, Members, no_members, bare, typed, layout_of, layouts_of}
use Rattle.fact_types.proofs.AlignLaws.{inside_tagged}
use Rattle.fact_types.proofs.FieldLaws.{greatest_align_pos}
use Rattle.fact_types.proofs.JoinLaws.{joined_swaps}
use Rattle.fact_types.proofs.ShapeLaws.{same_some, none_some}
use Rattle.fact_machine.specs.Typing.{is_number}
use Rattle.fact_values.specs.Limits.{CaseType, case_type}
use Rattle.fact_values.specs.Places.{case_bytes, payload_place}
use Rattle.fact_actions.specs.Moves.{flat_length}
use Rattle.fact_actions.specs.Running.{ImportPlaces}
use Rattle.fact_actions.specs.Sides.{LiftLowerOptions, side_abi, width_of_side}
use Rattle.fact_code_laws.specs.Places.{Slot, From, InLocals, InMemory, To, ToLocals, ToMemory, Number, N8, N16, N32, N64, MayHold, Readable, Writable, FromTyped, ToTyped, Off, to_past}
use Rattle.fact_code_laws.proofs.CaseMoves.{MayZero}
use Rattle.fact_code_laws.proofs.FieldMoves.{from_part, to_spot}
use Rattle.fact_code_laws.proofs.Zeros.{AreNumbers}
use Rattle.fact_emit.specs.Fitting.{IsSlotFor, AreRoom, SlotsFit, CanRead, CanWrite, bytes_of_shape}
use Rattle.fact_emit.specs.Parts.{from_behind, to_behind, offset_on}
use Rattle.fact_emit.specs.Places.{HasDistinctSlots}
use Rattle.fact_emit.proofs.PartPlaces.{locals_take, locals_drop, distinct_drop, room_length}
use Rattle.fact_emit.proofs.ScalarMoves.{reached}

-- ---- slots

-- a slot of a joined type is one of either type
of_i64 : (f : FlatType) (v : ValType) → IsSlotFor flat_type.I64 v → IsSlotFor f v
of_i64 flat_type.I32 val.I64 h = tt
of_i64 flat_type.I64 val.I64 h = tt
of_i64 flat_type.F32 val.I64 h = tt
of_i64 flat_type.F64 val.I64 h = tt
of_i64 f val.I32 h = absurd h
of_i64 f val.F32 h = absurd h
of_i64 f val.F64 h = absurd h
of_i64 f val.FuncRef h = absurd h

float_of_i32 : (v : ValType) → IsSlotFor flat_type.I32 v → IsSlotFor flat_type.F32 v
float_of_i32 val.I32 h = tt
float_of_i32 val.I64 h = tt
float_of_i32 val.F32 h = absurd h
float_of_i32 val.F64 h = absurd h
float_of_i32 val.FuncRef h = absurd h

slot_joined : (a b : FlatType) (v : ValType) → IsSlotFor (join a b) v → IsSlotFor a v
slot_joined flat_type.I32 flat_type.I32 v h = h
slot_joined flat_type.I32 flat_type.I64 v h = of_i64 flat_type.I32 v h
slot_joined flat_type.I32 flat_type.F32 v h = h
slot_joined flat_type.I32 flat_type.F64 v h = of_i64 flat_type.I32 v h
slot_joined flat_type.I64 flat_type.I32 v h = h
slot_joined flat_type.I64 flat_type.I64 v h = h
slot_joined flat_type.I64 flat_type.F32 v h = h
slot_joined flat_type.I64 flat_type.F64 v h = h
slot_joined flat_type.F32 flat_type.I32 v h = float_of_i32 v h
slot_joined flat_type.F32 flat_type.I64 v h = of_i64 flat_type.F32 v h
slot_joined flat_type.F32 flat_type.F32 v h = h
slot_joined flat_type.F32 flat_type.F64 v h = of_i64 flat_type.F32 v h
slot_joined flat_type.F64 flat_type.I32 v h = of_i64 flat_type.F64 v h
slot_joined flat_type.F64 flat_type.I64 v h = of_i64 flat_type.F64 v h
slot_joined flat_type.F64 flat_type.F32 v h = of_i64 flat_type.F64 v h
slot_joined flat_type.F64 flat_type.F64 v h = h

-- slots that begin with room for flat types
abbrev BeginWith : List Slot → List FlatType → Type 0
BeginWith ss [] = Unit {0}
BeginWith (s ∷ ss) (t ∷ ts) = IsSlotFor t s.1 × BeginWith ss ts
BeginWith [] (t ∷ ts) = ⊥

begin_all : (ss : List Slot) (ts : List FlatType) → AreRoom ss ts → BeginWith ss ts
begin_all [] [] h = tt
begin_all (s ∷ ss) [] h = tt
begin_all [] (t ∷ ts) h = absurd h
begin_all (s ∷ ss) (t ∷ ts) h = (h.0, begin_all ss ts h.1)

begin_take : (ss : List Slot) (ts : List FlatType) → BeginWith ss ts → AreRoom (take (length ts) ss) ts
begin_take ss [] h = tt
begin_take [] (t ∷ ts) h = absurd h
begin_take (s ∷ ss) (t ∷ ts) h = (h.0, begin_take ss ts h.1)

begin_length : (ss : List Slot) (ts : List FlatType) → BeginWith ss ts → length ts ≤ length ss
begin_length ss [] h = omega arith
begin_length [] (t ∷ ts) h = absurd h
begin_length (s ∷ ss) (t ∷ ts) h = let le = begin_length ss ts h.1 in omega (arith, le)

begin_left : (ss : List Slot) (xs ys : List FlatType) → BeginWith ss (joined xs ys) → BeginWith ss xs
begin_left ss [] ys h = tt
begin_left ss (x ∷ xs) [] h = h
begin_left [] (x ∷ xs) (y ∷ ys) h = absurd h
begin_left (s ∷ ss) (x ∷ xs) (y ∷ ys) h = (slot_joined x y s.1 h.0, begin_left ss xs ys h.1)

begin_right : (ss : List Slot) (xs ys : List FlatType) → BeginWith ss (joined xs ys) → BeginWith ss ys
begin_right ss xs ys h = begin_left ss ys xs (subst (BeginWith ss) (joined_swaps xs ys) h)

numbers_in : (ss : List Slot) (ts : List FlatType) → AreRoom ss ts → AreNumbers ss
numbers_in [] ts h = tt
numbers_in (s ∷ ss) [] h = absurd h
numbers_in (s ∷ ss) (t ∷ ts) h = (number_slot t s.1 h.0, numbers_in ss ts h.1)
  where
    number_slot : (t : FlatType) (v : ValType) → IsSlotFor t v → is_number v ≡ true
    number_slot t val.I32 h = refl
    number_slot t val.I64 h = refl
    number_slot t val.F32 h = refl
    number_slot t val.F64 h = refl
    number_slot flat_type.I32 val.FuncRef h = absurd h
    number_slot flat_type.I64 val.FuncRef h = absurd h
    number_slot flat_type.F32 val.FuncRef h = absurd h
    number_slot flat_type.F64 val.FuncRef h = absurd h

numbers_drop : (n : ℕ) (ss : List Slot) → AreNumbers ss → AreNumbers (drop n ss)
numbers_drop zero ss h = h
numbers_drop (suc n) [] h = h
numbers_drop (suc n) (s ∷ ss) h = numbers_drop n ss h.1

fewer : (n : ℕ) (ss : List Slot) → length (drop n ss) ≤ length ss
fewer zero ss = omega arith
fewer (suc n) [] = omega arith
fewer (suc n) (s ∷ ss) = let le = fewer n ss in omega (arith, le)

-- ---- a payload among the cases

-- a case of these members has this payload
pub record IsPayload (ms : Members) (u : Shape) : Type 0 where
  pub place : ℕ
  pub case : CaseType
  pub there : case_type ms place ≡ Some case
  pub payload : case.payload ≡ Some u

abbrev pub payload_of : Option CaseType → Option Shape
payload_of None = None
payload_of (Some c) = c.payload

-- a case that carries nothing has no payload
pub bare_payload : {c : CaseType} {x : List ℕ} {u : Shape} → Some (record { name = x; payload = None }) ≡ Some c → c.payload ≡ Some u → ⊥
bare_payload {u = u} h e = let is : None ≡ Some u = ap payload_of h ∙ e in none_some None u refl is

pub typed_payload : {c : CaseType} {x : List ℕ} {s u : Shape} → Some (record { name = x; payload = Some s }) ≡ Some c → c.payload ≡ Some u → s ≡ u
typed_payload {s = s} {u} h e = let is : Some s ≡ Some u = ap payload_of h ∙ e in same_some (Some s) s u refl is

-- what a payload holds, the members hold
pub payload_holds : (ms : Members) (u : Shape) → IsPayload ms u → has_pointer_pair u ≡ true → have_pointer_pair ms ≡ true
payload_holds ms u p h = go ms p.place p.case p.there p.payload
  where
    go : (ms : Members) (n : ℕ) (c : CaseType) → case_type ms n ≡ Some c → c.payload ≡ Some u → have_pointer_pair ms ≡ true
    go no_members n c there e = absurd (none_some None c refl there)
    go (bare x ms) zero c there e = absurd (bare_payload there e)
    go (bare x ms) (suc n) c there e = go ms n c there e
    go (typed x s ms) zero c there e = or_left (has_pointer_pair s) (have_pointer_pair ms) (ap has_pointer_pair (typed_payload there e) ∙ h)
    go (typed x s ms) (suc n) c there e = or_right (has_pointer_pair s) (have_pointer_pair ms) (go ms n c there e)

module _ (w : MemoryWidth) (u : Shape) where
  begin_any : (ss : List Slot) (ms : Members) (n : ℕ) (c : CaseType) → case_type ms n ≡ Some c → c.payload ≡ Some u → BeginWith ss (flat_any w ms) → BeginWith ss (flat w u)
  begin_any ss no_members n c h e r = absurd (none_some None c refl h)
  begin_any ss (bare x ms) zero c h e r = absurd (bare_payload h e)
  begin_any ss (bare x ms) (suc n) c h e r = begin_any ss ms n c h e r
  begin_any ss (typed x s ms) zero c h e r = subst (λ t. BeginWith ss (flat w t)) (typed_payload h e) (begin_left ss (flat w s) (flat_any w ms) r)
  begin_any ss (typed x s ms) (suc n) c h e r = begin_any ss ms n c h e (begin_right ss (flat w s) (flat_any w ms) r)

  size_any : (ms : Members) (n : ℕ) (c : CaseType) → case_type ms n ≡ Some c → c.payload ≡ Some u → (extent w (layout_of u)).size ≤ greatest_size (extents w (payloads (layouts_of ms)))
  size_any no_members n c h e = absurd (none_some None c refl h)
  size_any (bare x ms) zero c h e = absurd (bare_payload h e)
  size_any (bare x ms) (suc n) c h e = size_any ms n c h e
  size_any (typed x s ms) zero c h e =
      subst (λ t. (extent w (layout_of t)).size ≤ greatest_size (extents w (payloads (layouts_of (typed x s ms))))) (typed_payload h e) (front (extent w (layout_of s)).size (greatest_size (extents w (payloads (layouts_of ms)))))
    where
      front : (a b : ℕ) → a ≤ max a b
      front a b = grind arith
  size_any (typed x s ms) (suc n) c h e = behind (extent w (layout_of s)).size (greatest_size (extents w (payloads (layouts_of ms)))) (extent w (layout_of u)).size (size_any ms n c h e)
    where
      behind : (a b c : ℕ) → c ≤ b → c ≤ max a b
      behind a b c h = grind (arith, h)

-- it ends within the variant
variant_size : (w : MemoryWidth) (ms : Members) → bytes_of_shape w (s_node k_variant ms) ≡ aligned (payload_offset (case_bytes ms) (extents w (payloads (layouts_of ms))) + greatest_size (extents w (payloads (layouts_of ms)))) (max (case_bytes ms) (greatest_align (extents w (payloads (layouts_of ms)))))
variant_size Memory32 ms = refl
variant_size Memory64 ms = refl

pub payload_within : (o : LiftLowerOptions) (ms : Members) (u : Shape) → IsPayload ms u → payload_place (side_abi o) ms + bytes_of_shape (width_of_side o) u ≤ bytes_of_shape (width_of_side o) (s_node k_variant ms)
payload_within o ms u p =
    let w = width_of_side o in
    let es = extents w (payloads (layouts_of ms)) in
    omega (arith, size_any w u ms p.place p.case p.there p.payload, inside_tagged (case_bytes ms) (greatest_size es) (greatest_align es) (greatest_align_pos es), variant_size w ms)

-- ---- places of payloads

module _ (M : WasmModule) (p : ImportPlaces) (locals : List ValType) (o : LiftLowerOptions) (memory64 : Bool) (ms : Members) where
  abbrev CanReadVariant : From → Type 0
  CanReadVariant src = CanRead M p locals o memory64 src (flat (width_of_side o) (s_node k_variant ms)) (bytes_of_shape (width_of_side o) (s_node k_variant ms))

  abbrev CanWriteVariant : To → Type 0
  CanWriteVariant dst = CanWrite M p locals o memory64 dst (flat (width_of_side o) (s_node k_variant ms)) (bytes_of_shape (width_of_side o) (s_node k_variant ms))

  -- the discriminant
  narrow_holds : (n : Number) → n ≢ N64 → (v : ValType) → IsSlotFor flat_type.I32 v → MayHold n v
  narrow_holds N64 ne v h = absurd (ne refl)
  narrow_holds N8 ne val.I32 h = tt
  narrow_holds N8 ne val.I64 h = tt
  narrow_holds N16 ne val.I32 h = tt
  narrow_holds N16 ne val.I64 h = tt
  narrow_holds N32 ne val.I32 h = tt
  narrow_holds N32 ne val.I64 h = tt
  narrow_holds _ ne val.F32 h = absurd h
  narrow_holds _ ne val.F64 h = absurd h
  narrow_holds _ ne val.FuncRef h = absurd h

  pub tag_readable : (n : Number) → n ≢ N64 → (src : From) → CanReadVariant src → Readable M p Off o memory64 n src × FromTyped locals memory64 src
  tag_readable n ne (InLocals []) c = absurd c.room
  tag_readable n ne (InLocals (s ∷ ss)) c = ((narrow_holds n ne s.1 c.room.0, tt), c.typed)
  tag_readable n ne (InMemory memory base offset) c = (c.side, record { local = c.local; reached = reached memory64 offset _ c.reach })

  pub tag_writable : (n : Number) → n ≢ N64 → (dst : To) → CanWriteVariant dst → Writable M p o memory64 n (to_spot 1 0 dst) × ToTyped locals memory64 (to_spot 1 0 dst)
  tag_writable n ne (ToLocals []) c = absurd c.room
  tag_writable n ne (ToLocals (s ∷ ss)) c = (narrow_holds n ne s.1 c.room.0, (c.typed.0, tt))
  tag_writable n ne (ToMemory memory base offset) c = (c.side, record { local = c.local; reached = reached memory64 (offset + 0) (bytes_of_shape (width_of_side o) (s_node k_variant ms)) (omega (arith, c.reach)) })

  -- zeros behind the discriminant, and behind so many slots more
  pub zeros_behind : (dst : To) → CanWriteVariant dst → HasDistinctSlots dst → MayZero locals (to_past 1 dst)
  zeros_behind (ToLocals []) c d = absurd c.room
  zeros_behind (ToLocals (s ∷ ss)) c d = (numbers_in ss _ c.room.1, d.1, omega (arith, c.few), c.typed.1)
  zeros_behind (ToMemory memory base offset) c d = tt

  pub zeros_fit : (n : ℕ) (dst : To) → CanWriteVariant dst → HasDistinctSlots dst → MayZero locals (to_past n (to_past 1 dst))
  zeros_fit n (ToLocals []) c d = absurd c.room
  zeros_fit n (ToLocals (s ∷ ss)) c d = (numbers_drop n ss (numbers_in ss _ c.room.1), distinct_drop n ss d.1, (let le = fewer n ss in omega (arith, le, c.few)), locals_drop locals n ss c.typed.1)
  zeros_fit n (ToMemory memory base offset) c d = tt

  -- the payload
  module _ (u : Shape) (payload : IsPayload ms u) where
    slots_begin : (s : Slot) (ss : List Slot) → SlotsFit locals (s ∷ ss) (flat (width_of_side o) (s_node k_variant ms)) → SlotsFit locals (take (flat_length o u) ss) (flat (width_of_side o) u)
    slots_begin s ss c =
        let begin = begin_any (width_of_side o) u ss ms payload.place payload.case payload.there payload.payload (begin_all ss (flat_any (width_of_side o) ms) c.room.1) in
        let room = begin_take ss (flat (width_of_side o) u) begin in
        record { room = room; typed = locals_take locals (flat_length o u) ss c.typed.1; few = omega (arith, room_length (flat (width_of_side o) u) (take (flat_length o u) ss) room, begin_length ss (flat (width_of_side o) u) begin, c.few) }

    few_flats : (s : Slot) (ss : List Slot) → SlotsFit locals (s ∷ ss) (flat (width_of_side o) (s_node k_variant ms)) → length (flat (width_of_side o) u) ≤ 16
    few_flats s ss c = omega (arith, begin_length ss (flat (width_of_side o) u) (begin_any (width_of_side o) u ss ms payload.place payload.case payload.there payload.payload (begin_all ss (flat_any (width_of_side o) ms) c.room.1)), c.few)

    exact : (offset : ℕ) → offset + bytes_of_shape (width_of_side o) (s_node k_variant ms) ≤ 4294967295 → offset_on offset (payload_place (side_abi o) ms) ≡ offset + payload_place (side_abi o) ms
    exact offset h = omega (arith, h, payload_within o ms u payload)

    pub payload_read : (src : From) → CanReadVariant src → CanRead M p locals o memory64 (from_part (flat_length o u) 1 (payload_place (side_abi o) ms) src) (flat (width_of_side o) u) (bytes_of_shape (width_of_side o) u)
    payload_read (InLocals []) c = absurd c.room
    payload_read (InLocals (s ∷ ss)) c = slots_begin s ss c
    payload_read (InMemory memory base offset) c = record { side = c.side; local = c.local; reach = omega (arith, payload_within o ms u payload, c.reach) }

    pub payload_write : (dst : To) → CanWriteVariant dst → CanWrite M p locals o memory64 (to_spot (flat_length o u) (payload_place (side_abi o) ms) (to_past 1 dst)) (flat (width_of_side o) u) (bytes_of_shape (width_of_side o) u)
    payload_write (ToLocals []) c = absurd c.room
    payload_write (ToLocals (s ∷ ss)) c = slots_begin s ss c
    payload_write (ToMemory memory base offset) c = record { side = c.side; local = c.local; reach = omega (arith, payload_within o ms u payload, c.reach) }

    -- the numbers of the parts are those of the payload
    module _ (count bytes : ℕ) (count_is : length (flat (width_of_side o) u) ≤ 16 → count ≡ length (flat (width_of_side o) u)) (bytes_is : bytes ≡ payload_place (side_abi o) ms) where
      pub payload_part : (src : From) → CanReadVariant src → from_behind 1 count bytes src ≡ from_part (flat_length o u) 1 (payload_place (side_abi o) ms) src
      payload_part (InLocals []) c = absurd c.room
      payload_part (InLocals (s ∷ ss)) c = ap (λ n. InLocals (take n ss)) (count_is (few_flats s ss c))
      payload_part (InMemory memory base offset) c = ap (λ n. InMemory memory base (offset_on offset n)) bytes_is ∙ ap (InMemory memory base) (exact offset c.reach)

      pub payload_spot : (dst : To) → CanWriteVariant dst → to_behind 0 count bytes (to_past 1 dst) ≡ to_spot (flat_length o u) (payload_place (side_abi o) ms) (to_past 1 dst)
      payload_spot (ToLocals []) c = absurd c.room
      payload_spot (ToLocals (s ∷ ss)) c = ap (λ n. ToLocals (take n ss)) (count_is (few_flats s ss c))
      payload_spot (ToMemory memory base offset) c = ap (λ n. ToMemory memory base (offset_on offset n)) bytes_is ∙ ap (ToMemory memory base) (exact offset c.reach)

      pub payload_past : (dst : To) → CanWriteVariant dst → to_past count (to_past 1 dst) ≡ to_past (flat_length o u) (to_past 1 dst)
      payload_past (ToLocals []) c = absurd c.room
      payload_past (ToLocals (s ∷ ss)) c = ap (λ n. ToLocals (drop n ss)) (count_is (few_flats s ss c))
      payload_past (ToMemory memory base offset) c = refl
