-- Types of one number: places that fit them fit their numbers, and their moves are those of numbers.
use Rattle.std.proofs.Common.{◌≡◌, ◌≢◌, ℕ, ◌+◌, ◌^◌, ◌≤◌, ◌<◌, Bool, true, false, List, [], ◌∷◌, refl, sym, ap, ◌∙◌, subst, arith}
use Rattle.fact_wasm.specs.declared.types.ValType.{ValType}
use Rattle.fact_wasm.specs.declared.types.ValType.TheVariants as val
use Rattle.fact_wasm.specs.declared.instr.Instr.{Instr}
use Rattle.fact_wasm.specs.declared.module.WasmModule.{WasmModule}
use Rattle.fact_types.specs.declared.flats.FlatType.{FlatType}
use Rattle.fact_types.specs.declared.flats.FlatType.TheVariants as flat_type
use Rattle.fact_types.specs.declared.interface.InterfaceType.{InterfaceType}
use Rattle.fact_types.specs.declared.interface.InterfaceType.TheVariants as ty
use Rattle.fact_types.specs.declared.extents.MemoryWidth.{MemoryWidth}
use Rattle.fact_types.specs.FlatShapes.{flat, flat_plain}
use Rattle.fact_types.specs.Shapes.{Shape, s_plain}
use Rattle.fact_machine.specs.Typing.{address_bits}
use Rattle.fact_actions.specs.Running.{ImportPlaces}
use Rattle.fact_actions.specs.Sides.{LiftLowerOptions, Source, Target, width_of_side}
use Rattle.fact_code_laws.specs.Places.{From, InLocals, InMemory, To, ToLocals, ToMemory, Number, N32, MayHold, Readable, Writable, FromTyped, ToTyped, Off, Setting, transfer}
use Rattle.fact_code_laws.proofs.FieldMoves.{moves_same}
use Rattle.fact_emit.specs.declared.places.Sides.{Sides}
use Rattle.fact_emit.specs.declared.scalars.Canonical.{Canonical}
use Rattle.fact_emit.specs.declared.scalars.NumberTest.TheVariants.{ScalarValue}
use Rattle.fact_emit.specs.declared.writer.Writer.{Writer}
use Rattle.fact_emit.specs.Emits.{Emits}
use Rattle.fact_emit.specs.Fitting.{number_for_flat, IsSlotFor, bytes_of_shape, CanRead, CanWrite, FitsShapes, node_moves, MovesNode}
use Rattle.fact_emit.specs.MovesValue.{Act, MovesValue}
use Rattle.fact_emit.specs.Numbers.{FitsUnchecked}
use Rattle.fact_emit.specs.Places.{setting_of}
use Rattle.fact_emit.specs.Movable.{is_scalar}
use Rattle.fact_emit.specs.Scalars.{canonical_of, number_moves, tested_moves, size_of_type, canonical_for}
use Rattle.fact_emit.specs.Writers.{taken_in}
use Rattle.fact_emit.proofs.Emitting.{emits_as}

-- ---- places of one number

pub reached : (memory64 : Bool) (offset bytes : ℕ) → offset + bytes ≤ 4294967295 → offset < 2 ^ address_bits memory64
reached true offset bytes h = omega (arith, h)
reached false offset bytes h = omega (arith, h)

-- a slot of a flat type may hold its number
pub slot_holds : (f : FlatType) (v : ValType) → IsSlotFor f v → MayHold (number_for_flat f) v
slot_holds flat_type.I32 val.I32 h = tt
slot_holds flat_type.I32 val.I64 h = tt
slot_holds flat_type.I64 val.I64 h = tt
slot_holds flat_type.F32 val.F32 h = tt
slot_holds flat_type.F32 val.I32 h = tt
slot_holds flat_type.F32 val.I64 h = tt
slot_holds flat_type.F64 val.F64 h = tt
slot_holds flat_type.F64 val.I64 h = tt
slot_holds _ _ h = absurd h

module _ (M : WasmModule) (p : ImportPlaces) (locals : List ValType) (o : LiftLowerOptions) (memory64 : Bool) (f : FlatType) (n : Number) (holds : (t : ValType) → MayHold (number_for_flat f) t → MayHold n t) (bytes : ℕ) where
  reads_one : (src : From) → CanRead M p locals o memory64 src (f ∷ []) bytes → Readable M p Off o memory64 n src × FromTyped locals memory64 src
  reads_one (InLocals []) c = absurd c.room
  reads_one (InLocals (s ∷ ss)) c = ((holds s.1 (slot_holds f s.1 c.room.0), tt), c.typed)
  reads_one (InMemory memory base offset) c = (c.side, record { local = c.local; reached = reached memory64 offset bytes c.reach })

  writes_one : (dst : To) → CanWrite M p locals o memory64 dst (f ∷ []) bytes → Writable M p o memory64 n dst × ToTyped locals memory64 dst
  writes_one (ToLocals []) c = absurd c.room
  writes_one (ToLocals (s ∷ [])) c = (holds s.1 (slot_holds f s.1 c.room.0), c.typed)
  writes_one (ToLocals (s ∷ (s' ∷ ss))) c = absurd c.room.1
  writes_one (ToMemory memory base offset) c = (c.side, record { local = c.local; reached = reached memory64 offset bytes c.reach })

-- Places that fit shapes of one flat type fit a number that its slots may hold.
pub fits_one : (sides : Sides) (S : Setting) {t u : Shape} {src : From} {dst : To} (f : FlatType) (n : Number) → ((v : ValType) → MayHold (number_for_flat f) v → MayHold n v) → ((w : MemoryWidth) → flat w t ≡ f ∷ []) → ((w : MemoryWidth) → flat w u ≡ f ∷ [])
    → FitsShapes sides S t u src dst → FitsUnchecked n src dst S
fits_one sides S {t} {u} {src} {dst} f n holds one_t one_u fit =
    let r = reads_one S.whole S.places S.locals S.from S.from64 f n holds (bytes_of_shape (width_of_side S.from) t) src (subst (λ ts. CanRead S.whole S.places S.locals S.from S.from64 src ts (bytes_of_shape (width_of_side S.from) t)) (one_t (width_of_side S.from)) fit.reads) in
    let w = writes_one S.whole S.places S.locals S.to S.to64 f n holds (bytes_of_shape (width_of_side S.to) u) dst (subst (λ ts. CanWrite S.whole S.places S.locals S.to S.to64 dst ts (bytes_of_shape (width_of_side S.to) u)) (one_u (width_of_side S.to)) fit.writes) in
    record { readable = r.0; from_typed = r.1; writable = w.0; to_typed = w.1 }

-- ---- other places that fit, and another word for the same action

pub moves_as : {sides : Sides} {src : From} {dst : To} {taken : ℕ → Bool} {spare : ℕ} {Fit Fit' : Setting → Type 0} {act act' : Act} {M : WasmModule} {p : ImportPlaces} {locals : List ValType} {code : List Instr}
    → ((S : Setting) → Fit' S → Fit S) → ((S : Setting) (s : Source) (d : Target) → act (transfer S) s d ≡ act' (transfer S) s d) → MovesValue sides src dst taken spare Fit act M p locals code → MovesValue sides src dst taken spare Fit' act' M p locals code
moves_as {sides} {M = M} {p} {locals} fits is m = record {
  moves = λ a b rooms used u fit. let S = setting_of sides a b rooms M p locals in moves_same (is S) (m.moves a b rooms used u (fits S fit));
}

-- ---- scalars

-- the flat type of a scalar
abbrev flat_scalar : InterfaceType → FlatType
flat_scalar ty.S64 = flat_type.I64
flat_scalar ty.U64 = flat_type.I64
flat_scalar ty.Float32 = flat_type.F32
flat_scalar ty.Float64 = flat_type.F64
flat_scalar _ = flat_type.I32

one_flat : (t : InterfaceType) → is_scalar t ≡ true → (w : MemoryWidth) → flat_plain w t ≡ flat_scalar t ∷ []
one_flat ty.Bool h w = refl
one_flat ty.S8 h w = refl
one_flat ty.U8 h w = refl
one_flat ty.S16 h w = refl
one_flat ty.U16 h w = refl
one_flat ty.S32 h w = refl
one_flat ty.U32 h w = refl
one_flat ty.S64 h w = refl
one_flat ty.U64 h w = refl
one_flat ty.Float32 h w = refl
one_flat ty.Float64 h w = refl
one_flat ty.Char h w = refl
one_flat _ h w = cc

may_hold : (t : InterfaceType) → is_scalar t ≡ true → (u : ValType) → MayHold (number_for_flat (flat_scalar t)) u → MayHold (size_of_type t) u
may_hold ty.Bool h u m = m
may_hold ty.S8 h u m = m
may_hold ty.U8 h u m = m
may_hold ty.S16 h u m = m
may_hold ty.U16 h u m = m
may_hold ty.S32 h u m = m
may_hold ty.U32 h u m = m
may_hold ty.S64 h u m = m
may_hold ty.U64 h u m = m
may_hold ty.Float32 h u m = m
may_hold ty.Float64 h u m = m
may_hold ty.Char h u m = m
may_hold _ h u m = cc

fits_scalar : (sides : Sides) (S : Setting) (t : InterfaceType) (src : From) (dst : To) → is_scalar t ≡ true → FitsShapes sides S (s_plain t) (s_plain t) src dst → FitsUnchecked (size_of_type t) src dst S
fits_scalar sides S t src dst h f = fits_one sides S (flat_scalar t) (size_of_type t) (may_hold t h) (one_flat t h) (one_flat t h) f

number_is : (S : Setting) (t : InterfaceType) (s : Source) (d : Target) → is_scalar t ≡ true → t ≢ ty.Char → number_moves (size_of_type t) (canonical_of (canonical_for t)) (transfer S) s d ≡ node_moves (s_plain t) (s_plain t) (transfer S) s d
number_is S ty.Bool s d h ne = refl
number_is S ty.S8 s d h ne = refl
number_is S ty.U8 s d h ne = refl
number_is S ty.S16 s d h ne = refl
number_is S ty.U16 s d h ne = refl
number_is S ty.S32 s d h ne = refl
number_is S ty.U32 s d h ne = refl
number_is S ty.S64 s d h ne = refl
number_is S ty.U64 s d h ne = refl
number_is S ty.Float32 s d h ne = refl
number_is S ty.Float64 s d h ne = refl
number_is S ty.Char s d h ne = absurd (ne refl)
number_is S _ s d h ne = cc

pub char_node : {a b : Writer} {sides : Sides} {src : From} {dst : To} {t : InterfaceType} → t ≡ ty.Char
    → Emits a b (MovesValue sides src dst (taken_in a) 516 (FitsUnchecked N32 src dst) (tested_moves N32 ScalarValue)) → Emits a b (MovesNode sides src dst (taken_in a) (s_plain t) (s_plain t))
char_node {a} {b} {sides} {src} {dst} is x =
    subst (λ t. Emits a b (MovesNode sides src dst (taken_in a) (s_plain t) (s_plain t))) (sym is)
    (emits_as (λ M p locals code m. moves_as (λ S f. fits_scalar _ S ty.Char src dst refl f) (λ S s d. refl) m) x)

pub number_node : {a b : Writer} {sides : Sides} {src : From} {dst : To} {n : Number} (t : InterfaceType) (k : Canonical) → is_scalar t ≡ true → t ≢ ty.Char → n ≡ size_of_type t → k ≡ canonical_for t
    → Emits a b (MovesValue sides src dst (taken_in a) 516 (FitsUnchecked n src dst) (number_moves n (canonical_of k))) → Emits a b (MovesNode sides src dst (taken_in a) (s_plain t) (s_plain t))
number_node {src = src} {dst} {n} t k h ne n_is k_is x =
    emits_as (λ M p locals code m. moves_as
    (λ S f. subst (λ n. FitsUnchecked n src dst S) (sym n_is) (fits_scalar _ S t src dst h f))
    (λ S s d. ap (λ n. number_moves n (canonical_of k) (transfer S) s d) n_is ∙ ap (λ k. number_moves (size_of_type t) (canonical_of k) (transfer S) s d) k_is ∙ number_is S t s d h ne)
    m) x
