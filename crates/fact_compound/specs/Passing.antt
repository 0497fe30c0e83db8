-- How parameters and results are passed: in locals, or through an area of a side's memory, which is checked before anything is read
-- or written.
use Rattle.std.specs.Prelude.{◌≡◌, ℕ, Bool, true, false, List, [], ◌∷◌}
use Rattle.fact_wasm.specs.declared.types.ValType.{ValType}
use Rattle.fact_wasm.specs.declared.instr.Instr.{Instr}
use Rattle.fact_wasm.specs.declared.module.WasmModule.{WasmModule}
use Rattle.fact_types.specs.Layout.{extent}
use Rattle.fact_types.specs.Shapes.{Shape, layout_of}
use Rattle.fact_types.specs.Signatures.{width}
use Rattle.fact_types.specs.Tuples.{tuple_of}
use Rattle.fact_actions.specs.Running.{ImportPlaces}
use Rattle.fact_code_laws.specs.Places.{Slot, From, InLocals, InMemory, To, ToLocals, ToMemory}
use Rattle.fact_emit.specs.Areas.{ChecksArea}
use Rattle.fact_emit.specs.NewAreas.{AsksArea}
use Rattle.fact_emit.specs.declared.places.LinearMemory.{LinearMemory}

-- the last local, or 0 where there is none
abbrev pub last_local : List Slot → ℕ
last_local [] = 0
last_local (s ∷ []) = s.0
last_local (s ∷ t ∷ ss) = last_local (t ∷ ss)

-- values in these locals, or through the area whose address the last of them holds
abbrev pub tuple_from : LinearMemory → (flat : Bool) → List Slot → From
tuple_from m true slots = InLocals slots
tuple_from m false slots = InMemory m.memory (last_local slots) 0

-- values to locals, or through the area whose address the last of other locals holds
abbrev pub tuple_to : LinearMemory → (flat : Bool) → (results args : List Slot) → To
tuple_to m true results args = ToLocals results
tuple_to m false results args = ToMemory m.memory (last_local args) 0

-- the bytes of a tuple and its alignment, in a width of memory
abbrev pub tuple_size : (memory64 : Bool) → List Shape → ℕ
tuple_size memory64 ts = (extent (width memory64) (layout_of (tuple_of ts))).size

abbrev pub tuple_align : (memory64 : Bool) → List Shape → ℕ
tuple_align memory64 ts = (extent (width memory64) (layout_of (tuple_of ts))).align

-- no code where values are flat, and else code that checks their area
abbrev pub ChecksTuple : LinearMemory → (ℕ → Bool) → (flat : Bool) → (address size align : ℕ) → WasmModule → ImportPlaces → List ValType → List Instr → Type 0
ChecksTuple m taken true address size align M p locals code = code ≡ []
ChecksTuple m taken false address size align M p locals code = ChecksArea m taken address size align M p locals code

-- no code where values are flat, and else code that asks for a new area for them
abbrev pub AsksTuple : (concurrency : Bool) → LinearMemory → (ℕ → Bool) → (flat : Bool) → (address size align : ℕ) → WasmModule → ImportPlaces → List ValType → List Instr → Type 0
AsksTuple concurrency m taken true address size align M p locals code = code ≡ []
AsksTuple concurrency m taken false address size align M p locals code = AsksArea concurrency m taken address size align M p locals code
