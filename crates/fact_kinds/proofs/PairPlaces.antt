-- The places of a pointer and a length that code was written for, as those of pieces of code.
use Rattle.std.proofs.Common.{◌≡◌, ℕ, ◌+◌, ◌≤◌, Bool, true, false, List, [], ◌∷◌, refl, sym, ap, ◌∙◌, arith}
use Rattle.std.proofs.lemmas.Bool.{eqb-false, ne_eqb}
use Rattle.fact_wasm.specs.declared.types.ValType.{ValType}
use Rattle.fact_wasm.specs.declared.module.WasmModule.{WasmModule}
use Rattle.fact_types.specs.declared.flats.FlatType.{FlatType}
use Rattle.fact_types.specs.declared.flats.FlatType.TheVariants as flat_type
use Rattle.fact_types.specs.FlatShapes.{pointer as flat_pointer}
use Rattle.fact_types.specs.Layout.{extent, pointer_pair_layout}
use Rattle.fact_types.specs.Signatures.{width}
use Rattle.fact_actions.specs.Running.{ImportPlaces}
use Rattle.fact_actions.specs.Sides.{LiftLowerOptions}
use Rattle.fact_code_laws.specs.Lists.{put_code}
use Rattle.fact_code_laws.specs.Places.{From, InLocals, InMemory, To, ToLocals, ToMemory, DebugChecks, Readable, Writable, FromUsed, FromTyped, ToTyped, MayHold, size_of}
use Rattle.fact_code_laws.specs.Tests.{pointer_of_width, read_into}
use Rattle.fact_code_laws.proofs.Pairs.{PairFrom, PairInLocals, PairInMemory, PairTo, PairToLocals, PairToMemory, all_from, first_from, second_from, all_to, first_to, second_to, IsApart}
use Rattle.fact_emit.specs.Fitting.{CanRead, CanWrite, IsSlotFor}
use Rattle.fact_emit.specs.Numbers.{HasUpperAt}
use Rattle.fact_emit.specs.Pairs.{length_from, length_to}
use Rattle.fact_emit.specs.Places.{Using}
use Rattle.fact_emit.proofs.ScalarMoves.{reached, slot_holds}
use Rattle.fact_kinds.proofs.FieldJoin.{exact}

pub pair_from : (M : WasmModule) (p : ImportPlaces) (locals : List ValType) (o : LiftLowerOptions) (memory64 : Bool) (t : FlatType) (bytes : ℕ) (src : From) → CanRead M p locals o memory64 src (t ∷ t ∷ []) bytes → (b : PairFrom) × (src ≡ all_from b)
pair_from M p locals o memory64 t bytes (InLocals []) c = absurd c.room
pair_from M p locals o memory64 t bytes (InLocals (a ∷ [])) c = absurd c.room.1
pair_from M p locals o memory64 t bytes (InLocals (a ∷ b ∷ [])) c = (PairInLocals a b, refl)
pair_from M p locals o memory64 t bytes (InLocals (a ∷ b ∷ x ∷ ss)) c = absurd c.room.1.1
pair_from M p locals o memory64 t bytes (InMemory memory base offset) c = (PairInMemory memory base offset, refl)

pub pair_to : (M : WasmModule) (p : ImportPlaces) (locals : List ValType) (o : LiftLowerOptions) (memory64 : Bool) (t : FlatType) (bytes : ℕ) (dst : To) → CanWrite M p locals o memory64 dst (t ∷ t ∷ []) bytes → (b : PairTo) × (dst ≡ all_to b)
pair_to M p locals o memory64 t bytes (ToLocals []) c = absurd c.room
pair_to M p locals o memory64 t bytes (ToLocals (a ∷ [])) c = absurd c.room.1
pair_to M p locals o memory64 t bytes (ToLocals (a ∷ b ∷ [])) c = (PairToLocals a b, refl)
pair_to M p locals o memory64 t bytes (ToLocals (a ∷ b ∷ x ∷ ss)) c = absurd c.room.1.1
pair_to M p locals o memory64 t bytes (ToMemory memory base offset) c = (PairToMemory memory base offset, refl)

-- a slot for a pointer may hold one
holds_pointer : (memory64 : Bool) (t : ValType) → IsSlotFor (flat_pointer (width memory64)) t → MayHold (pointer_of_width memory64) t
holds_pointer true t h = slot_holds flat_type.I64 t h
holds_pointer false t h = slot_holds flat_type.I32 t h

abbrev pair_bytes : (memory64 : Bool) → ℕ
pair_bytes memory64 = (extent (width memory64) pointer_pair_layout).size

second_reach : (memory64 : Bool) (offset : ℕ) → offset + pair_bytes memory64 ≤ 4294967295 → offset + size_of (pointer_of_width memory64) ≤ 4294967295
second_reach true offset h = omega (arith, h)
second_reach false offset h = omega (arith, h)

module _ (M : WasmModule) (p : ImportPlaces) (locals : List ValType) (checks : DebugChecks) (o : LiftLowerOptions) (memory64 : Bool) where
  abbrev pub PairReads : PairFrom → Type 0
  PairReads b = CanRead M p locals o memory64 (all_from b) (flat_pointer (width memory64) ∷ flat_pointer (width memory64) ∷ []) (pair_bytes memory64)

  abbrev pub PairWrites : PairTo → Type 0
  PairWrites b = CanWrite M p locals o memory64 (all_to b) (flat_pointer (width memory64) ∷ flat_pointer (width memory64) ∷ []) (pair_bytes memory64)

  pub second_from_is : (b : PairFrom) → PairReads b → length_from memory64 (all_from b) ≡ second_from (size_of (pointer_of_width memory64)) b
  second_from_is (PairInLocals x y) c = refl
  second_from_is (PairInMemory memory base offset) c = ap (InMemory memory base) (exact offset (size_of (pointer_of_width memory64)) (second_reach memory64 offset c.reach))

  pub second_to_is : (b : PairTo) → PairWrites b → length_to memory64 (all_to b) ≡ second_to (size_of (pointer_of_width memory64)) b
  second_to_is (PairToLocals x y) c = refl
  second_to_is (PairToMemory memory base offset) c = ap (ToMemory memory base) (exact offset (size_of (pointer_of_width memory64)) (second_reach memory64 offset c.reach))

  pub first_readable : (b : PairFrom) → PairReads b → HasUpperAt M p checks (pointer_of_width memory64) (all_from b) → Readable M p checks o memory64 (pointer_of_width memory64) (first_from b)
  first_readable (PairInLocals x y) c h = (holds_pointer memory64 x.1 c.room.0, h)
  first_readable (PairInMemory memory base offset) c h = c.side

  pub second_readable : (b : PairFrom) → PairReads b → HasUpperAt M p checks (pointer_of_width memory64) (second_from (size_of (pointer_of_width memory64)) b) → Readable M p checks o memory64 (pointer_of_width memory64) (second_from (size_of (pointer_of_width memory64)) b)
  second_readable (PairInLocals x y) c h = (holds_pointer memory64 y.1 c.room.1.0, h)
  second_readable (PairInMemory memory base offset) c h = c.side

  pub first_from_typed : (b : PairFrom) → PairReads b → FromTyped locals memory64 (first_from b)
  first_from_typed (PairInLocals x y) c = (c.typed.0, tt)
  first_from_typed (PairInMemory memory base offset) c = record { local = c.local; reached = reached memory64 offset (pair_bytes memory64) c.reach }

  pub second_from_typed : (b : PairFrom) → PairReads b → FromTyped locals memory64 (second_from (size_of (pointer_of_width memory64)) b)
  second_from_typed (PairInLocals x y) c = (c.typed.1.0, tt)
  second_from_typed (PairInMemory memory base offset) c = record { local = c.local; reached = reached memory64 (offset + size_of (pointer_of_width memory64)) 0 (omega (arith, second_reach memory64 offset c.reach)) }

  pub first_writable : (b : PairTo) → PairWrites b → Writable M p o memory64 (pointer_of_width memory64) (first_to b)
  first_writable (PairToLocals x y) c = holds_pointer memory64 x.1 c.room.0
  first_writable (PairToMemory memory base offset) c = c.side

  pub second_writable : (b : PairTo) → PairWrites b → Writable M p o memory64 (pointer_of_width memory64) (second_to (size_of (pointer_of_width memory64)) b)
  second_writable (PairToLocals x y) c = holds_pointer memory64 y.1 c.room.1.0
  second_writable (PairToMemory memory base offset) c = c.side

  pub first_to_typed : (b : PairTo) → PairWrites b → ToTyped locals memory64 (first_to b)
  first_to_typed (PairToLocals x y) c = (c.typed.0, tt)
  first_to_typed (PairToMemory memory base offset) c = record { local = c.local; reached = reached memory64 offset (pair_bytes memory64) c.reach }

  pub second_to_typed : (b : PairTo) → PairWrites b → ToTyped locals memory64 (second_to (size_of (pointer_of_width memory64)) b)
  second_to_typed (PairToLocals x y) c = (c.typed.1.0, tt)
  second_to_typed (PairToMemory memory base offset) c = record { local = c.local; reached = reached memory64 (offset + size_of (pointer_of_width memory64)) 0 (omega (arith, second_reach memory64 offset c.reach)) }

pub from_used : (used : ℕ → Bool) (n : ℕ) (b : PairFrom) → FromUsed used (all_from b) → FromUsed used (first_from b) × FromUsed used (second_from n b)
from_used used n (PairInLocals x y) u = ((u.0, tt), (u.1.0, tt))
from_used used n (PairInMemory memory base offset) u = (u, u)

pub read_first_is : (checks : DebugChecks) (memory64 : Bool) (local : ℕ) (b : PairFrom) → read_into checks memory64 (all_from b) local ≡ read_into checks memory64 (first_from b) local
read_first_is checks memory64 local (PairInLocals x y) = refl
read_first_is checks memory64 local (PairInMemory memory base offset) = refl

pub put_first_is : (memory64 : Bool) (local : ℕ) (b : PairTo) → put_code memory64 local (all_to b) ≡ put_code memory64 local (first_to b)
put_first_is memory64 local (PairToLocals x y) = refl
put_first_is memory64 local (PairToMemory memory base offset) = refl

-- the slots of the target are two, and not a temporary
pub apart_of : {taken used : ℕ → Bool} {src : From} (i : ℕ) → taken i ≡ false → (b : PairTo) → Using taken used src (all_to b) → IsApart i b
apart_of {taken} i free (PairToLocals x y) u =
    (ne_eqb x.0 i (λ e. absurd (let no : true ≡ false = sym u.target.0 ∙ ap taken e ∙ free in cc)), ne_eqb y.0 x.0 (λ e. eqb-false x.0 y.0 u.distinct.0.0 (sym e)))
apart_of i free (PairToMemory memory base offset) u = tt
