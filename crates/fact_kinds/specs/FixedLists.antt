-- Code of lists of fixed length around their elements.
use Rattle.std.specs.Prelude.{◌≡◌, ℕ, ◌*◌, min, Bool, List, [], ◌∷◌, ◌++◌}
use Rattle.fact_wasm.specs.declared.types.ValType.TheVariants as val
use Rattle.fact_wasm.specs.declared.instr.Instr.{Instr}
use Rattle.fact_wasm.specs.declared.instr.Instr.TheVariants as I
use Rattle.fact_machine.specs.Typing.{address_type}
use Rattle.fact_code_laws.specs.FixedLists.{offset_code, countdown_code}
use Rattle.fact_code_laws.specs.Lists.{bump_code}
use Rattle.fact_code_laws.specs.Places.{Slot, From, To}
use Rattle.fact_emit.specs.declared.places.Address.{Address}
use Rattle.fact_emit.specs.declared.places.Sides.{Sides}
use Rattle.fact_emit.specs.declared.writer.Writer.{Writer}
use Rattle.fact_emit.specs.Parts.{from_behind, to_behind}
use Rattle.fact_kinds.specs.declared.fixed.FixedElements.{FixedElements}
use Rattle.fact_kinds.specs.declared.fixed.FixedLocals.{FixedLocals}

-- ---- locals

-- the locals of a list, and their types
abbrev pub fixed_slots : (from64 to64 : Bool) → FixedLocals → List Slot
fixed_slots from64 to64 l = (l.source, address_type from64) ∷ (l.target, address_type to64) ∷ (l.left, val.I32) ∷ []

abbrev pub fixed_numbers : FixedLocals → List ℕ
fixed_numbers l = l.source ∷ l.target ∷ l.left ∷ []

-- ---- the loop

-- the first elements, and how many are left
abbrev pub fixed_begin_code : (from64 to64 : Bool) → FixedElements → FixedLocals → (from to : Address) → List Instr
fixed_begin_code from64 to64 e l from to =
    offset_code from64 from.local from.offset l.source ++ (offset_code to64 to.local to.offset l.target ++ I.I32Const e.count ∷ I.LocalSet l.left ∷ [])

-- an element was moved
abbrev pub fixed_end_code : (from64 to64 : Bool) → FixedElements → FixedLocals → List Instr
fixed_end_code from64 to64 e l = bump_code from64 l.source e.from_size ++ bump_code to64 l.target e.to_size

-- The code of an element, which was all the code, became that of all elements behind the code from before it.
pub record ClosesFixed (sides : Sides) (e : FixedElements) (l : FixedLocals) (outer : List Instr) (old new : Writer) : Type 0 where
  pub code : new.code.items ≡ outer ++ countdown_code l.left (old.code.items ++ fixed_end_code sides.from.memory64 sides.to.memory64 e l)
  pub locals : new.locals ≡ old.locals
  pub imports : new.sections ≡ old.sections

-- ---- one by one

-- The nth of parts of so many slots and so many bytes each. The largest numbers are 2 to the power of 64, and of 32, less 1.
abbrev pub nth_from : (flats bytes n : ℕ) → From → From
nth_from flats bytes n src = from_behind (min (n * flats) 18446744073709551615) flats (min (n * bytes) 4294967295) src

-- the same of a target, of which the slots of those before it are left out
abbrev pub nth_to : (flats bytes n : ℕ) → To → To
nth_to flats bytes n rest = to_behind 0 flats (min (n * bytes) 4294967295) rest
