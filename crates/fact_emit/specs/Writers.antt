-- What the functions of a writer do to it.
use Rattle.std.specs.Prelude.{◌≡◌, ◌≢◌, ℕ, nat_eq, Bool, true, false, List, [], ◌∷◌, ◌++◌, length, map, Option, Some, None, slice_get}
use Rattle.std.specs.List.{AllByRecursion, list_all}
use Rattle.fact_wasm.specs.declared.types.ValType.{ValType}
use Rattle.fact_wasm.specs.declared.instr.Instr.{Instr}
use Rattle.fact_types.specs.declared.outside.Trap.{Trap}
use Rattle.fact_machine.specs.Trace.{Grows}
use Rattle.fact_machine.specs.Typing.{is_number}
use Rattle.fact_code_laws.specs.Places.{Slot, AreLocals, IsNone}
use Rattle.fact_emit.specs.declared.imported.RuntimeFunction.{RuntimeFunction}
use Rattle.fact_emit.specs.declared.imported.RuntimeFunction.TheVariants as runtime
use Rattle.fact_emit.specs.declared.transcoders.Transcoder.{Transcoder}
use Rattle.fact_emit.specs.declared.writer.Local.{Local}
use Rattle.fact_emit.specs.declared.writer.Writer.{Writer}
use Rattle.fact_emit.specs.Imports.{HasImport, HasTranscoder, Extended, AreOnce}
use Rattle.fact_emit.specs.Places.{AreDistinctSlots}
use Rattle.fact_emit.specs.Runtime.{import_of, type_of_runtime}
use Rattle.fact_emit.specs.States.{IsRuntimeImported, IsTranscoderImported}

abbrev pub types_of_locals : Writer → List ValType
types_of_locals w = map (λ l. l.ty) w.locals.items

-- types of numbers alone: a declared local has one
abbrev pub AreNumberTypes : List ValType → Type 0
AreNumberTypes ts = list_all is_number ts ≡ true

-- a local of a type that is in use
abbrev pub used_local_of : ValType → Local
used_local_of t = record { ty = t; in_use = true }

-- a local of a type that is not in use
abbrev pub free_local_of : ValType → Local
free_local_of t = record { ty = t; in_use = false }

abbrev pub is_local_in_use : Option Local → Bool
is_local_in_use None = false
is_local_in_use (Some l) = l.in_use

-- the locals that are in use
abbrev pub taken_in : Writer → ℕ → Bool
taken_in w i = is_local_in_use (slice_get w.locals.items i)

-- nothing changed but which local is taken first
pub record Same (old new : Writer) : Type 0 where
  pub code : new.code ≡ old.code
  pub locals : new.locals ≡ old.locals
  pub imports : new.sections ≡ old.sections

-- these instructions were put behind the code, and nothing else changed
pub record Wrote (old new : Writer) (added : List Instr) : Type 0 where
  pub code : new.code.items ≡ old.code.items ++ added
  pub locals : new.locals ≡ old.locals
  pub imports : new.sections ≡ old.sections

-- a body begins: the code from before it was handed out, and none is there
pub record Began (old new : Writer) (out : List Instr) : Type 0 where
  pub outer : out ≡ old.code.items
  pub code : new.code.items ≡ []
  pub locals : new.locals ≡ old.locals
  pub imports : new.sections ≡ old.sections

-- a body ends: it was handed out, and the code from before it is back
pub record EndedBody (old new : Writer) (outer out : List Instr) : Type 0 where
  pub body : out ≡ old.code.items
  pub code : new.code.items ≡ outer
  pub locals : new.locals ≡ old.locals
  pub imports : new.sections ≡ old.sections

-- a local of a type was taken: it was not in use, and now is
pub record Took (old new : Writer) (ty : ValType) (local : ℕ) : Type 0 where
  pub code : new.code.items ≡ old.code.items
  pub imports : new.sections ≡ old.sections
  pub was_free : taken_in old local ≡ false
  pub taken : taken_in new local ≡ true
  pub others : (i : ℕ) → i ≢ local → taken_in new i ≡ taken_in old i
  pub grows : Grows (types_of_locals old) (types_of_locals new)
  pub typed : slice_get (types_of_locals new) local ≡ Some ty
  pub numbers : AreNumberTypes (types_of_locals old) → AreNumberTypes (types_of_locals new)

-- a local was put behind the others, and is in use
pub record AddedLocal (old new : Writer) (ty : ValType) (local : ℕ) : Type 0 where
  pub code : new.code.items ≡ old.code.items
  pub imports : new.sections ≡ old.sections
  pub locals : new.locals.items ≡ old.locals.items ++ used_local_of ty ∷ []
  pub place : local ≡ length old.locals.items

pub record Freed (old new : Writer) (local : ℕ) : Type 0 where
  pub code : new.code.items ≡ old.code.items
  pub imports : new.sections ≡ old.sections
  pub free : taken_in new local ≡ false
  pub others : (i : ℕ) → i ≢ local → taken_in new i ≡ taken_in old i
  pub types : types_of_locals new ≡ types_of_locals old

-- locals of these types were taken: they are distinct, were not in use, and now are
pub record TookAll (old new : Writer) (slots : List Slot) : Type 0 where
  pub code : new.code.items ≡ old.code.items
  pub imports : new.sections ≡ old.sections
  pub were_free : AllByRecursion (λ s. taken_in old s.0 ≡ false) slots
  pub taken : AllByRecursion (λ s. taken_in new s.0 ≡ true) slots
  pub others : (i : ℕ) → IsNone i slots → taken_in new i ≡ taken_in old i
  pub grows : Grows (types_of_locals old) (types_of_locals new)
  pub typed : AreLocals (types_of_locals new) slots
  pub numbers : AreNumberTypes (types_of_locals old) → AreNumberTypes (types_of_locals new)
  pub distinct : AreDistinctSlots slots

-- a number is none of these
abbrev pub IsNoneOf : ℕ → List ℕ → Type 0
IsNoneOf i ns = AllByRecursion (λ n. nat_eq i n ≡ false) ns

-- no number stands there twice
abbrev pub AreDistinctNumbers : List ℕ → Type 0
AreDistinctNumbers [] = Unit {0}
AreDistinctNumbers (n ∷ ns) = IsNoneOf n ns × AreDistinctNumbers ns

-- locals are in use no more
pub record FreedAll (old new : Writer) (locals : List ℕ) : Type 0 where
  pub code : new.code.items ≡ old.code.items
  pub imports : new.sections ≡ old.sections
  pub free : AllByRecursion (λ i. taken_in new i ≡ false) locals
  pub others : (i : ℕ) → IsNoneOf i locals → taken_in new i ≡ taken_in old i
  pub types : types_of_locals new ≡ types_of_locals old

-- a function of the runtime has a place among the imported functions
pub record TookRuntime (old new : Writer) (f : RuntimeFunction) (place : ℕ) : Type 0 where
  pub code : new.code.items ≡ old.code.items
  pub locals : new.locals ≡ old.locals
  pub imported : IsRuntimeImported old.sections new.sections f place
  pub imports : Extended old.sections new.sections
  pub once : AreOnce old.sections → AreOnce new.sections
  pub there : HasImport new.sections (import_of f) place (type_of_runtime f).params (type_of_runtime f).results

-- so has a trap
abbrev pub TookTrap : (old new : Writer) → Trap → (place : ℕ) → Type 0
TookTrap old new t place = TookRuntime old new (runtime.Trap t) place

-- so has a transcoder
pub record TookTranscoder (old new : Writer) (t : Transcoder) (place : ℕ) : Type 0 where
  pub code : new.code.items ≡ old.code.items
  pub locals : new.locals ≡ old.locals
  pub imported : IsTranscoderImported old.sections new.sections t place
  pub imports : Extended old.sections new.sections
  pub once : AreOnce old.sections → AreOnce new.sections
  pub there : HasTranscoder new.sections t place
