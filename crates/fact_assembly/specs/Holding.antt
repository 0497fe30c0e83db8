-- Cited by private clauses alone.
-- What a module that is being made holds of the adapters that it took.
use Rattle.std.specs.Prelude.{◌≡◌, ℕ, zero, suc, ◌+◌, false, List, [], ◌∷◌, ◌++◌, Some, length, slice_get, take, if◌then◌else◌}
use Rattle.std.specs.List.{AllZip, flat_map}
use Rattle.fact_wasm.specs.declared.instr.FuncName.TheVariants as func
use Rattle.fact_wasm.specs.declared.module.WasmExport.{WasmExport}
use Rattle.fact_wasm.specs.declared.module.WasmFunc.{WasmFunc}
use Rattle.fact_wasm.specs.declared.types.FuncType.{FuncType}
use Rattle.fact_wasm.specs.Ranges.{AreBodiesRanged}
use Rattle.fact_machine.specs.Trace.{Grows}
use Rattle.fact_types.specs.declared.import.Import.{Import}
use Rattle.fact_types.specs.declared.interface.InterfaceType.{InterfaceType}
use Rattle.fact_types.specs.declared.outside.MemoryOption.{MemoryOption}
use Rattle.fact_types.specs.Adapters.{LinkedAdapter}
use Rattle.fact_types.specs.Shapes.{Shape}
use Rattle.fact_types.specs.Tables.{Tables, HasShape}
use Rattle.fact_actions.specs.Adapters.{AdapterTunables}
use Rattle.fact_emit.specs.ImportSection.{is_awaited, mentions}
use Rattle.fact_emit.specs.Listed.{ListsMentions}
use Rattle.fact_emit.specs.Imports.{Extended}
use Rattle.fact_emit.specs.States.{ModuleSoFar, export_as, functions_of, module_of, nothing_so_far}
use Rattle.fact_compound.specs.AsyncParts.{part_name}
use Rattle.fact_compound.specs.Helpers.{HelpersAreThere}
use Rattle.fact_compound.specs.declared.asyncs.AsyncPart.TheVariants as part
use Rattle.fact_assembly.specs.Adding.{Adds, Given, helper_functions, own_functions}
use Rattle.fact_assembly.specs.Exports.{IsExportOf, callee_of, exported_functions_of}
use Rattle.fact_assembly.specs.InParts.{IsInParts}

-- how many helpers came with the first of adapters, and with those behind it
abbrev pub first_count : List ℕ → ℕ
first_count [] = 0
first_count (n ∷ counts) = n

abbrev pub counts_behind : List ℕ → List ℕ
counts_behind [] = []
counts_behind (n ∷ counts) = counts

-- how many functions adapters have together, where so many helpers came with each
abbrev pub function_count : (counts : List ℕ) → List LinkedAdapter → ℕ
function_count counts [] = 0
function_count counts (a ∷ adapters) = length (exported_functions_of a) + first_count counts + function_count (counts_behind counts) adapters

-- how many helpers came with the adapter at a place
abbrev pub count_at : List ℕ → (place : ℕ) → ℕ
count_at counts zero = first_count counts
count_at counts (suc place) = count_at (counts_behind counts) place

-- the number of the first function of the adapter at a place
abbrev pub first_function : (counts : List ℕ) → List LinkedAdapter → (place : ℕ) → ℕ
first_function counts adapters place = function_count counts (take place adapters)

-- The adapter was added to it: what it names is imported, and its functions stand there from a number on, with so many helpers behind them.
pub record HasAdded (t : Tables) (u : AdapterTunables) (given : Given) (s : ModuleSoFar) (a : LinkedAdapter) (first count tuple : ℕ) : Type 0 where
  pub old : ModuleSoFar
  pub new : ModuleSoFar
  -- those that were added before it
  pub before : List LinkedAdapter
  pub lists : ListsMentions old (mentions before) before
  pub adds : Adds t u given old new a tuple
  pub first_is : first ≡ length old.functions
  pub count_is : length (helper_functions adds) ≡ count
  pub later : Extended new s
  pub functions_there : (i : ℕ) (f : WasmFunc) → slice_get (own_functions adds.compiled) i ≡ Some f → slice_get s.functions (first + i) ≡ Some f
  pub functions_later : Grows new.functions s.functions

-- These adapters were added to an empty module, one by one, and it is this one then.
pub data AreAdded (t : Tables) (u : AdapterTunables) (given : Given) : ModuleSoFar → List LinkedAdapter → Type 0 where
  NoneAdded : AreAdded t u given nothing_so_far []
  OneMore : (old new : ModuleSoFar) (adapters : List LinkedAdapter) (a : LinkedAdapter) (tuple : ℕ) → AreAdded t u given old adapters → ListsMentions old (mentions adapters) adapters → Adds t u given old new a tuple
      → AreAdded t u given new (adapters ++ a ∷ [])

-- the names that an adapter's own functions are exported by
abbrev pub own_names : LinkedAdapter → List (List ℕ)
own_names a = if is_awaited a then part_name part.Start a.name ∷ part_name part.Return a.name ∷ a.name ∷ [] else a.name ∷ []

-- Names, exported for the functions from a number on.
abbrev pub named_from : ℕ → List (List ℕ) → List WasmExport
named_from n [] = []
named_from n (x ∷ xs) = export_as x (func.Defined n) ∷ named_from (suc n) xs

-- The names of adapters, exported for the functions from a number on. Behind each adapter's own stand its helpers.
abbrev pub numbered : ℕ → (counts : List ℕ) → List LinkedAdapter → List WasmExport
numbered n counts [] = []
numbered n counts (a ∷ adapters) = named_from n (own_names a) ++ numbered (n + length (own_names a) + first_count counts) (counts_behind counts) adapters

-- It is the module of these adapters, whose results have tuples of these numbers, by the adapters' places.
pub record Holds (t : Tables) (u : AdapterTunables) (given : Given) (s : ModuleSoFar) (adapters : List LinkedAdapter) (tuples : ℕ → ℕ) : Type 0 where
  pub added : AreAdded t u given s adapters
  pub lists : ListsMentions s (mentions adapters) adapters
  pub in_parts : (more : List Import) → IsInParts s more adapters
  pub bodies : AreBodiesRanged (length (functions_of s)) (length s.functions) s.functions
  -- how many helpers came with each
  pub counts : List ℕ
  pub each_counted : length counts ≡ length adapters
  pub exports : s.exports ≡ numbered 0 counts adapters
  pub callees : AllZip (IsExportOf (module_of s) s.imports) s.callees (flat_map callee_of adapters)
  pub count : length s.functions ≡ function_count counts adapters
  pub helpers : HelpersAreThere t u.debug u.concurrency given.fuel s
  pub placed : (k : ℕ) (a : LinkedAdapter) → slice_get adapters k ≡ Some a → HasAdded t u given s a (first_function counts adapters k) (count_at counts k) (tuples k)

-- Types of one shape are one type, and no core function type stands twice.
pub record HoldTypesOnce (t : Tables) (cores : List FuncType) : Type 0 where
  pub one_type : (x : Shape) (y z : InterfaceType) → HasShape t y x → HasShape t z x → y ≡ z
  pub one_core : (i j : ℕ) (ty : FuncType) → slice_get cores i ≡ Some ty → slice_get cores j ≡ Some ty → i ≡ j

-- The memories of an adapter are not shared.
pub record HasNoSharedMemory (a : LinkedAdapter) : Type 0 where
  pub lift : (m : MemoryOption) → a.lift.memory ≡ Some m → m.shared ≡ false
  pub lower : (m : MemoryOption) → a.lower.memory ≡ Some m → m.shared ≡ false
