-- Cited by private clauses alone.
-- How a run begins: its arguments stand for values in a state, and the return area is aside.
use Rattle.std.specs.Prelude.{◌≡◌, ℕ, ◌+◌, ◌≤◌, ◌<◌, ◌||◌, ◌⊎◌, false, All, List, [], ◌∷◌, ◌++◌, drop, get_or, length, Option, Some, None, if◌then◌else◌}
use Rattle.std.specs.List.{AllZip, filter_map}
use Rattle.fact_wasm.specs.declared.types.ValType.{ValType}
use Rattle.fact_wasm.specs.declared.types.ValType.TheVariants as ty
use Rattle.fact_wasm.specs.declared.module.ImportType.{ImportType}
use Rattle.fact_wasm.specs.declared.module.WasmImport.{WasmImport}
use Rattle.fact_types.specs.Agrees.{AgreesPlaces}
use Rattle.fact_types.specs.declared.flats.FlatType.{FlatType}
use Rattle.fact_types.specs.FlatShapes.{flat_all, pointer}
use Rattle.fact_types.specs.Shapes.{Shape}
use Rattle.fact_types.specs.Tuples.{tuple_members, tuple_of}
use Rattle.fact_types.specs.Signatures.{sync_lower}
use Rattle.fact_machine.specs.declared.types.CoreValue.{CoreValue}
use Rattle.fact_machine.specs.declared.types.CoreValue.TheVariants.{I32, I64, F32, F64}
use Rattle.fact_machine.specs.declared.types.MachineState.{MachineState}
use Rattle.fact_machine.specs.Typed.{IsValue, type_of_memory, type_of_global}
use Rattle.fact_values.specs.declared.side.SideAbi.{SideAbi}
use Rattle.fact_values.specs.declared.value.Value.{Value}
use Rattle.fact_values.specs.Places.{extent_on, width_of}
use Rattle.fact_values.specs.Tuples.{lower_param_values}
use Rattle.fact_actions.specs.Adapters.{last_bits}
use Rattle.fact_host.specs.declared.calling.HostCall.{HostCall}
use Rattle.fact_host.specs.Contract.{AreSuited, HaveNeeds, IsHostAreaSound, area_room}
use Rattle.fact_lowering.specs.Lowered.{IsAside}
use Rattle.fact_lowering.specs.Lowerings.{core_of}
use Rattle.fact_lowering.specs.Room.{room}
use Rattle.fact_host.specs.Roles.{is_place}
use Rattle.fact_host.specs.Rules.{AreWrittenBytes, CallShapes, memory_at, side_bytes, with_memory_at}
use Rattle.fact_lowering.specs.TextForms.{TupleIsByForm}

-- ---- the first state

-- how long the nth memory is: one page's bytes where a side names it, and else nothing
abbrev pub first_length : HostCall → ℕ → ℕ
first_length c n = if is_place c.lift.memory n || is_place c.lower.memory n then 65536 else 0

-- a global of a type; a flag is set
abbrev pub first_value : ValType → CoreValue
first_value ty.I32 = I32 1
first_value ty.I64 = I64 1
first_value ty.F32 = F32 1
first_value ty.F64 = F64 1
first_value ty.FuncRef = I32 1

-- The state of these imports before anything was stored: all bytes are zeros.
pub record IsFirstState (c : HostCall) (imports : List WasmImport) (s : MachineState) : Type 0 where
  pub count : length s.memories ≡ length (filter_map type_of_memory imports)
  pub lengths : (n : ℕ) → n < length s.memories → length (memory_at s n) ≡ first_length c n
  pub zeros : All (λ bytes. All (λ b. b ≡ 0) bytes) s.memories
  pub globals : AllZip (λ t v. v ≡ first_value t) (filter_map type_of_global imports) s.globals

-- The memories and the globals of the imports before the ith one.
pub record AreMade (c : HostCall) (imports : List WasmImport) (i : ℕ) (made : List (List ℕ)) (set : List CoreValue) : Type 0 where
  pub count : length made + length (filter_map type_of_memory (drop i imports)) ≡ length (filter_map type_of_memory imports)
  pub lengths : (n : ℕ) → n < length made → length (get_or made n []) ≡ first_length c n
  pub zeros : All (λ bytes. All (λ b. b ≡ 0) bytes) made
  pub globals : (rest : List CoreValue) → AllZip (λ t v. v ≡ first_value t) (filter_map type_of_global (drop i imports)) rest → AllZip (λ t v. v ≡ first_value t) (filter_map type_of_global imports) (set ++ rest)

-- By an import of a type, which is one of these at its place, there are more.
abbrev pub MakesMore : HostCall → ImportType → (memories memories' : List (List ℕ)) → (globals globals' : List CoreValue) → Type 0
MakesMore c ty memories memories' globals globals' =
    (imports : List WasmImport) (i j : ℕ) (w : WasmImport) → j ≡ i + 1 → i < length imports → w ≡ get_or imports i w → w.ty ≡ ty → AreMade c imports i memories globals → AreMade c imports j memories' globals'

-- the cursor of the nth memory: behind what was stored, in the one that a side may name
abbrev pub first_cursor : Option ℕ → (cursor : ℕ) → ℕ → ℕ
first_cursor memory cursor n = if is_place memory n then cursor else 0

-- Where cursors are as a run begins, one for each memory.
pub record AreBegun (c : HostCall) (cursor : ℕ) (state : MachineState) (cursors : List ℕ) : Type 0 where
  pub count : length cursors ≡ length state.memories
  pub each : (n : ℕ) → n < length state.memories → get_or cursors n 0 ≡ first_cursor c.lower.memory cursor n

-- ---- arguments

-- Arguments that can be stored: they can be carried, and the lower side has what they and the return area need, with a page's bytes.
pub record CanBegin (c : HostCall) (s : CallShapes) (values : List Value) (state : MachineState) : Type 0 where
  pub suited : AreSuited s values
  pub agree : AgreesPlaces (tuple_members s.lower_params) (tuple_members s.lift_params)
  pub needs : HaveNeeds c s
  pub memory : (n : ℕ) → c.lower.memory ≡ Some n → length (memory_at state n) ≡ 65536

-- one state is another but for the bytes of a memory, if there is one
abbrev pub DiffersIn : Option ℕ → (before after : MachineState) → Type 0
DiffersIn None before after = after ≡ before
DiffersIn (Some n) before after = (bytes : List ℕ) × (after ≡ with_memory_at before n bytes) × AreWrittenBytes bytes

-- the return area, where there is one, lies before the cursor, or behind the memory
abbrev pub IsAreaKept : HostCall → CallShapes → (args : List CoreValue) → MachineState → (cursor : ℕ) → Type 0
IsAreaKept c s args state cursor =
    elim (flat_all (width_of c.lower.abi) 1 s.lower_results) [
      | Some flats ↦ Unit {0}
      | None ↦ (last_bits args + (extent_on c.lower.abi (tuple_of s.lower_results)).size ≤ cursor) ⊎ (length (side_bytes c.lower state) ≤ last_bits args)
    ]

-- core values are others, and behind them a pointer to a region for a tuple, where it is not flat up to a limit of 1
abbrev pub HaveAreaBy : SideAbi → List Shape → Option (List FlatType) → (core args : List CoreValue) → (low high : ℕ) → List ℕ → Type 0
HaveAreaBy side ss (Some flats) core args low high bytes = (args ≡ core) × (high ≡ low)
HaveAreaBy side ss None core args low high bytes = (place : ℕ) × IsAside side ss place low high bytes × (args ≡ core ++ core_of (pointer (width_of side)) place ∷ [])

abbrev pub HaveArea : SideAbi → List Shape → (core args : List CoreValue) → (low high : ℕ) → List ℕ → Type 0
HaveArea side ss core args low high bytes = HaveAreaBy side ss (flat_all (width_of side) 1 ss) core args low high bytes

-- A run that is about to begin with these arguments in a state, which was made of one before, and the cursor of the lower side's memory.
pub record IsBegun (c : HostCall) (s : CallShapes) (values : List Value) (before state : MachineState) (args : List CoreValue) (cursor : ℕ) : Type 0 where
  pub differs : DiffersIn c.lower.memory before state
  pub same_length : length (side_bytes c.lower state) ≡ length (side_bytes c.lower before)
  pub typed : AllZip (λ v ty. IsValue v ty) args (sync_lower c.lower.abi.memory64 s.lower_params s.lower_results).params
  pub stored : lower_param_values false c.lower.abi (side_bytes c.lower state) s.lower_params args ≡ Some values
  pub forms : TupleIsByForm c.lower.abi (side_bytes c.lower state) 16 s.lower_params args
  pub area : IsHostAreaSound c s args state
  pub kept : IsAreaKept c s args state cursor
  pub few : cursor ≤ room s.lower_params s.lift_params values + area_room c s
  pub inside : cursor ≤ length (side_bytes c.lower state)

-- A run that is about to begin with these arguments, from a first state of these imports.
pub record IsStarted (imports : List WasmImport) (c : HostCall) (s : CallShapes) (values : List Value) (state : MachineState) (args : List CoreValue) (cursor : ℕ) (cursors : List ℕ) : Type 0 where
  pub before : MachineState
  pub first : IsFirstState c imports before
  pub begun : IsBegun c s values before state args cursor
  pub at : AreBegun c cursor state cursors
