-- Places whose locals are in use stay as they were where code changes other locals.
use Rattle.std.proofs.Common.{◌≡◌, ℕ, ◌+◌, ◌^◌, ◌<◌, ◌≤◌, Bool, true, false, List, [], ◌∷◌, Some, refl, sym, ap, ◌∙◌, subst, slice_get}
use Rattle.fact_wasm.specs.declared.types.ValType.{ValType}
use Rattle.fact_wasm.specs.declared.module.WasmModule.{WasmModule}
use Rattle.fact_machine.specs.declared.types.CoreValue.{CoreValue}
use Rattle.fact_machine.specs.Typing.{address_bits, address_operand}
use Rattle.fact_actions.specs.Running.{ImportPlaces}
use Rattle.fact_actions.specs.Sides.{LiftLowerOptions, write_number, Source, Values, AtAddress, Target, Slots, Into}
use Rattle.fact_code_laws.specs.Does.{Locals, Onward, Does}
use Rattle.fact_code_laws.specs.Places.{Slot, From, InLocals, InMemory, To, ToLocals, ToMemory, AreHeld, Based, StandsAt, MayGo, AreFree, Stood, KeepsLocals, Setting, HasRoom, FromRoom, ToRoom, InRooms, Number, Writable, stacked, limit_of, size_of, code_behind, AreUsed, FromUsed, ToUsed}
use Rattle.fact_code_laws.proofs.Blocks.{weaker}
use Rattle.fact_code_laws.proofs.Numbers.{below_number, writes}

pub keeps_all : {used : ℕ → Bool} {ls : Locals} → KeepsLocals used ls ls
keeps_all = record { same = λ i u. refl; types = refl }

pub keeps_then : {used : ℕ → Bool} {ls ls' ls'' : Locals} → KeepsLocals used ls ls' → KeepsLocals used ls' ls'' → KeepsLocals used ls ls''
keeps_then a b = record { same = λ i u. b.same i u ∙ a.same i u; types = b.types ∙ a.types }

module _ {used : ℕ → Bool} {ls ls' : Locals} (k : KeepsLocals used ls ls') where
  based_kept : {memory64 : Bool} {base offset a : ℕ} → used base ≡ true → Based ls memory64 base offset a → Based ls' memory64 base offset a
  based_kept {base = base} u b = record { start = b.start; there = k.same base u ∙ b.there; is = b.is }

  pub held_kept : (slots : List Slot) (vs : List CoreValue) → AreUsed used slots → AreHeld ls slots vs → AreHeld ls' slots vs
  held_kept [] [] u h = tt
  held_kept [] (v ∷ vs) u h = absurd h
  held_kept (s ∷ ss) [] u h = absurd h
  held_kept (s ∷ ss) (v ∷ vs) u h = (record { there = k.same s.0 u.0 ∙ h.0.there; value = h.0.value }, held_kept ss vs u.1 h.1)

  free_kept : (slots : List Slot) (ts : List ValType) → AreFree used ls slots ts → AreFree used ls' slots ts
  free_kept [] [] f = tt
  free_kept [] (t ∷ ts) f = absurd f
  free_kept (s ∷ ss) [] f = absurd f
  free_kept (s ∷ ss) (t ∷ ts) f = (f.0, ap (λ l. slice_get l s.0) k.types ∙ f.1, f.2, free_kept ss ts f.3)

  pub stands_kept : (memory64 : Bool) (from : From) (s : Source) → FromUsed used from → StandsAt ls memory64 from s → StandsAt ls' memory64 from s
  stands_kept memory64 (InLocals slots) (Values vs) u h = held_kept slots vs u h
  stands_kept memory64 (InLocals slots) (AtAddress a) u h = absurd h
  stands_kept memory64 (InMemory memory base offset) (Values vs) u h = absurd h
  stands_kept memory64 (InMemory memory base offset) (AtAddress a) u h = based_kept u h

  pub goes_kept : (memory64 : Bool) (to : To) (d : Target) → ToUsed used to → MayGo used ls memory64 to d → MayGo used ls' memory64 to d
  goes_kept memory64 (ToLocals slots) (Slots ts) u g = free_kept slots ts g
  goes_kept memory64 (ToLocals slots) (Into a) u g = absurd g
  goes_kept memory64 (ToMemory memory base offset) (Slots ts) u g = absurd g
  goes_kept memory64 (ToMemory memory base offset) (Into a) u g = based_kept u g

  -- with the same address
  pub below_kept : (memory64 : Bool) (to : To) (d : Target) (u : ToUsed used to) (g : MayGo used ls memory64 to d) → below_number memory64 used ls' to d (goes_kept memory64 to d u g) ≡ below_number memory64 used ls to d g
  unfolding goes_kept based_kept
  below_kept memory64 (ToLocals slots) (Slots ts) u g = refl
  below_kept memory64 (ToLocals slots) (Into a) u g = absurd g
  below_kept memory64 (ToMemory memory base offset) (Slots ts) u g = absurd g
  below_kept memory64 (ToMemory memory base offset) (Into a) u g = refl

-- the room behind an address that a local holds
pub room_at : {ls : Locals} (memory64 : Bool) (base a bytes : ℕ) → slice_get ls base ≡ Some (Some (address_operand memory64 a)) → a + bytes ≤ 2 ^ address_bits memory64 → HasRoom ls memory64 base bytes
room_at true base a bytes h le = record { within = λ start there. let same : a ≡ start = cc in subst (λ x. x + bytes ≤ 2 ^ 64) same le }
room_at false base a bytes h le = record { within = λ start there. let same : a ≡ start = cc in subst (λ x. x + bytes ≤ 2 ^ 32) same le }

-- there is as much room behind the addresses as there was
module _ {used : ℕ → Bool} {ls ls' : Locals} (k : KeepsLocals used ls ls') where
  room_kept : {memory64 : Bool} {base bytes : ℕ} → used base ≡ true → HasRoom ls memory64 base bytes → HasRoom ls' memory64 base bytes
  room_kept {base = base} u r = record { within = λ start there. r.within start (sym (k.same base u) ∙ there) }

  from_room_kept : (memory64 : Bool) (from : From) (bytes : ℕ) → FromUsed used from → FromRoom ls memory64 from bytes → FromRoom ls' memory64 from bytes
  from_room_kept memory64 (InLocals slots) bytes u r = tt
  from_room_kept memory64 (InMemory memory base offset) bytes u r = room_kept u r

  to_room_kept : (memory64 : Bool) (to : To) (bytes : ℕ) → ToUsed used to → ToRoom ls memory64 to bytes → ToRoom ls' memory64 to bytes
  to_room_kept memory64 (ToLocals slots) bytes u r = tt
  to_room_kept memory64 (ToMemory memory base offset) bytes u r = room_kept u r

  pub rooms_kept : {S : Setting} (from : From) (to : To) → FromUsed used from → ToUsed used to → InRooms S ls from to → InRooms S ls' from to
  rooms_kept {S} from to fu tu r = record { source = from_room_kept S.from64 from S.rooms.from fu r.source; target = to_room_kept S.to64 to S.rooms.to tu r.target }

-- a number is written after code that kept what is in use
pub writes_later : {M : WasmModule} {p : ImportPlaces} {ls ls' : Locals} {x : ℕ} (used : ℕ → Bool) (n : Number) (o : LiftLowerOptions) (memory64 : Bool) (to : To) (d : Target) → Writable M p o memory64 n to → KeepsLocals used ls ls' → ToUsed used to → (g : MayGo used ls memory64 to d)
    → x < limit_of n → Does M p Onward 2 0 (stacked n x ∷ below_number memory64 used ls to d g) ls' (code_behind n to) (write_number o (size_of n) d x) (λ vs. []) (λ vs ls''. Stood ls'' to vs × KeepsLocals used ls ls'')
writes_later {M} {p} {ls} {ls'} {x} used n o memory64 to d h k u g lt =
    subst (λ vs. Does M p Onward 2 0 (stacked n x ∷ vs) ls' (code_behind n to) (write_number o (size_of n) d x) (λ vs. []) (λ vs ls''. Stood ls'' to vs × KeepsLocals used ls ls'')) (below_kept k memory64 to d u g)
    (weaker (λ vs. refl) (λ vs ls'' r. (r.0, keeps_then k r.1)) (writes used n o memory64 to d h (goes_kept k memory64 to d u g) lt))
