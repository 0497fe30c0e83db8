-- The places of the writing functions as places of pieces of code.
pub use Rattle.fact_code_laws.specs.Places.{AreDistinctSlots}
use Rattle.std.specs.Prelude.{◌≡◌, ℕ, Bool, true, false, List, map}
use Rattle.fact_wasm.specs.declared.types.ValType.{ValType}
use Rattle.fact_wasm.specs.declared.module.WasmModule.{WasmModule}
use Rattle.fact_types.specs.declared.import.Import.TheVariants as import
use Rattle.fact_types.specs.declared.outside.Trap.TheVariants.{DebugAssertPointerAligned, DebugAssertUpperBitsUnset}
use Rattle.fact_actions.specs.Running.{ImportPlaces}
use Rattle.fact_actions.specs.Sides.{LiftLowerOptions}
use Rattle.fact_code_laws.specs.Places.{Slot, From, InLocals, InMemory, To, ToLocals, ToMemory, DebugChecks, Off, On, Rooms, Setting, AreUsed, FromUsed, ToUsed}
use Rattle.fact_emit.specs.declared.places.TypedLocal.{TypedLocal}
use Rattle.fact_emit.specs.declared.places.SourcePlace.{SourcePlace}
use Rattle.fact_emit.specs.declared.places.SourcePlace.TheVariants as source
use Rattle.fact_emit.specs.declared.places.TargetPlace.{TargetPlace}
use Rattle.fact_emit.specs.declared.places.TargetPlace.TheVariants as target
use Rattle.fact_emit.specs.declared.places.LinearMemory.{LinearMemory}
use Rattle.fact_emit.specs.declared.places.Sides.{Sides}

abbrev pub slots_of_locals : List TypedLocal → List Slot
slots_of_locals ls = map (λ l. (l.local, l.ty)) ls

abbrev pub from_of : LinearMemory → SourcePlace → From
from_of m (source.Locals ls) = InLocals (slots_of_locals ls.now)
from_of m (source.Memory a) = InMemory m.memory a.local a.offset

abbrev pub to_of : LinearMemory → TargetPlace → To
to_of m (target.Locals ls) = ToLocals (slots_of_locals ls.now)
to_of m (target.Memory a) = ToMemory m.memory a.local a.offset

-- the debug checks of code in a module whose imports have these places
abbrev pub checks_at : (debug : Bool) → ImportPlaces → DebugChecks
checks_at false p = Off
checks_at true p = On (p.function (import.Trap DebugAssertUpperBitsUnset)) (p.function (import.Trap DebugAssertPointerAligned))

-- what code of moves between two sides stands in
abbrev pub setting_of : Sides → (from to : LiftLowerOptions) → Rooms → WasmModule → ImportPlaces → List ValType → Setting
setting_of sides a b rooms M p locals = record {
  whole = M;
  places = p;
  from = a;
  to = b;
  from64 = sides.from.memory64;
  to64 = sides.to.memory64;
  rooms = rooms;
  concurrency = sides.concurrency;
  checks = checks_at sides.debug p;
  locals = locals;
}

-- ---- locals in use

abbrev pub TargetTaken : (ℕ → Bool) → To → Type 0
TargetTaken taken (ToLocals slots) = AreUsed taken slots
TargetTaken taken (ToMemory memory base offset) = Unit {0}

abbrev pub HasDistinctSlots : To → Type 0
HasDistinctSlots (ToLocals slots) = AreDistinctSlots slots
HasDistinctSlots (ToMemory memory base offset) = Unit {0}

-- Of the locals that are in use in the writer, these are kept: among them those of the source and the address of the target,
-- but not the locals of the target, which are in use in the writer too.
pub record Using (taken used : ℕ → Bool) (src : From) (dst : To) : Type 0 where
  pub within : (i : ℕ) → used i ≡ true → taken i ≡ true
  pub from : FromUsed used src
  pub to : ToUsed used dst
  pub target : TargetTaken taken dst
  pub distinct : HasDistinctSlots dst
