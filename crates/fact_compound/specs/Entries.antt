-- The functions of async adapters between two instances that have the adapters' names: what their code is, and what it does.
use Rattle.std.specs.Prelude.{◌≡◌, ℕ, zero, suc, ◌+◌, ◌*◌, true, List, [], ◌∷◌, ◌++◌, None, Some, length, map, reverse, slice_get}
use Rattle.fact_entity.specs.declared.id.Id.{Id}
use Rattle.fact_entity.specs.declared.table.TypeFuncs.{TypeFuncs}
use Rattle.fact_wasm.specs.declared.instr.FuncName.{FuncName}
use Rattle.fact_wasm.specs.declared.instr.FuncName.TheVariants as func
use Rattle.fact_wasm.specs.declared.instr.Instr.{Instr}
use Rattle.fact_wasm.specs.declared.instr.Instr.TheVariants as I
use Rattle.fact_wasm.specs.declared.module.WasmFunc.{WasmFunc}
use Rattle.fact_wasm.specs.declared.module.WasmModule.{WasmModule}
use Rattle.fact_wasm.specs.declared.types.FuncType.{FuncType}
use Rattle.fact_machine.specs.Exits.{entry_locals}
use Rattle.fact_machine.specs.Numerics.{truth}
use Rattle.fact_machine.specs.Typed.{are_values}
use Rattle.fact_machine.specs.Typing.{function_type, is_exported, is_typed_function}
use Rattle.fact_machine.specs.declared.types.CoreValue.{CoreValue}
use Rattle.fact_types.specs.Adapters.{LinkedAdapter}
use Rattle.fact_types.specs.Tables.{Tables}
use Rattle.fact_types.specs.declared.import.Import.TheVariants as known
use Rattle.fact_types.specs.declared.signature.Signature.{Signature}
use Rattle.fact_actions.specs.Adapters.{References, async_call, def_of_memory, encoding_number, lift_signature_of, lower_signature_of, results_number}
use Rattle.fact_actions.specs.Running.{ImportPlaces}
use Rattle.fact_actions.specs.Sides.{options_of}
use Rattle.fact_code_laws.specs.Does.{Onward, Does}
use Rattle.fact_code_laws.specs.PieceLaws.{HaveResultTypes}
use Rattle.fact_emit.specs.Imports.{AreOnce, Extended, Serves}
use Rattle.fact_emit.specs.PlacesOf.{with_place}
use Rattle.fact_emit.specs.States.{HasType, ModuleSoFar, with_exported}
use Rattle.fact_emit.specs.TaskCalls.{IsFunctionThere, IsMemoryThere, IsPrepareCallImported, IsStartCallImported}
use Rattle.fact_compound.specs.Described.{DescribesEntry}
use Rattle.fact_compound.specs.Syncs.{lower_type_of}
use Rattle.fact_compound.specs.declared.adapters.AdapterData.{AdapterData}
use Rattle.fact_compound.specs.declared.entries.EntryPlaces.{EntryPlaces}

-- ---- what the runtime is told

-- the number of the tuple of a function's results
abbrev pub tuple_of_results : Tables → Id TypeFuncs → ℕ
tuple_of_results t i = elim (slice_get t.functions i.number) [ None ↦ 0 | Some f ↦ f.results.number ]

-- what a prepare-call is told besides functions and the adapter's own parameters
abbrev pub call_facts : LinkedAdapter → (tuple : ℕ) → List ℕ
call_facts a tuple = a.lower.instance ∷ a.lift.instance ∷ tuple ∷ truth a.lift.async_type ∷ encoding_number a.lift.encoding ∷ results_number a.lower ∷ []

-- of an async lower side: whether there are results
abbrev pub whether_any : {T : Type 0} → List T → ℕ
whether_any [] = 0xFFFF_FFFF
whether_any (x ∷ xs) = 0xFFFF_FFFE

-- what a start-call is told besides the callee: how many core parameters and results it has, and 1 for an async lift side and 2 for an async
-- lower side
abbrev pub callee_facts : AdapterData → (lift : Signature) → List ℕ
callee_facts d lift = length lift.params ∷ length lift.results ∷ (truth d.lift.options.async_ + 2 * truth d.lower.options.async_) ∷ []

-- ---- the code

abbrev pub constants_code : List ℕ → List Instr
constants_code ns = map (λ n. I.I32Const n) ns

-- what so many parameters from one on hold
abbrev pub arguments_code : (first count : ℕ) → List Instr
arguments_code first zero = []
arguments_code first (suc count) = I.LocalGet first ∷ arguments_code (suc first) count

-- The prepare-call gets references to the two functions that move values, and the adapter's own parameters last; the start-call a reference
-- to the callee.
abbrev pub entry_code : EntryPlaces → (told : List ℕ) → (params : ℕ) → (started : List ℕ) → List Instr
entry_code e told params started =
    I.RefFunc (func.Defined e.start) ∷ I.RefFunc (func.Defined e.return_)
    ∷ (constants_code told ++ (arguments_code 0 params ++ I.Call (func.Import e.prepare_call)
    ∷ I.RefFunc (func.Import e.callee) ∷ (constants_code started ++ I.Call (func.Import e.start_call) ∷ [])))

-- ---- what it does

-- The places of a module, where the two calls of an async adapter have these.
abbrev pub with_task_calls : LinkedAdapter → (prepare_call start_call : ℕ) → ImportPlaces → ImportPlaces
with_task_calls a prepare_call start_call p =
    with_place (known.PrepareCall (def_of_memory (options_of a.lift))) prepare_call (with_place (known.StartCall a.lift.callback a.lift.post_return) start_call p)

-- a module has a function, and exports it, so that code may hand it on by reference
pub record IsHandedOn (M : WasmModule) (f : FuncName) : Type 0 where
  pub ty : FuncType
  pub there : function_type M f ≡ Some ty
  pub exported : is_exported f M.exports ≡ true

pub record HasReferences (M : WasmModule) (r : References) : Type 0 where
  pub start : IsHandedOn M r.start
  pub return : IsHandedOn M r.return
  pub callee : IsHandedOn M r.callee

-- In a module that has what is handed on its body makes the adapter's two calls, in at most 100 steps, and returns what the second gave; and
-- it is typed.
pub record IsEntryFunction (a : LinkedAdapter) (r : References) (M : WasmModule) (p : ImportPlaces) (f : WasmFunc) : Type 0 where
  pub does : HasReferences M r → (args : List CoreValue) → are_values args (lower_signature_of a).params ≡ true
      → Does M p Onward 100 0 [] (entry_locals f args) f.body (async_call a r args) reverse (HaveResultTypes (lower_type_of a))
  pub typed : HasReferences M r → slice_get M.types f.ty ≡ Some (lower_type_of a) → is_typed_function M f ≡ true

-- ---- as it is put into a module

-- The two calls are imported, the start-call first, and the module has what the code names at these places.
pub record ImportsCalls (d : AdapterData) (lower : Signature) (start return : ℕ) (old new : ModuleSoFar) (e : EntryPlaces) : Type 0 where
  pub between : ModuleSoFar
  pub starts : IsStartCallImported old between d.name (record { callback = d.lift.options.callback; post_return = d.lift.post_return }) lower.results e.start_call
  pub prepares : IsPrepareCallImported between new d.name d.lift.options.linear.memory lower.params e.prepare_call
  pub started : Extended old between
  pub prepared : Extended between new
  pub imports : Extended old new
  pub once : AreOnce old → AreOnce new
  pub start_is : e.start ≡ start
  pub return_is : e.return_ ≡ return
  pub callee_is : e.callee ≡ d.callee.number

-- What the data of an adapter name on the lift side is imported at its places.
pub record NamesLift (s : ModuleSoFar) (d : AdapterData) (a : LinkedAdapter) : Type 0 where
  pub memory : IsMemoryThere s d.lift.options.linear.memory (def_of_memory (options_of a.lift))
  pub callback : IsFunctionThere s d.lift.options.callback a.lift.callback
  pub post_return : IsFunctionThere s d.lift.post_return a.lift.post_return

-- what the function hands on, where its adapter's two other functions have these numbers
abbrev pub handed_on : AdapterData → (start return tuple : ℕ) → References
handed_on d start return tuple = record { start = func.Defined start; return = func.Defined return; callee = func.Import d.callee.number; results = tuple }

-- A function of this type was written, and its two calls imported.
pub record WroteEntry (t : Tables) (d : AdapterData) (lower lift : Signature) (start return type_at : ℕ) (old new : ModuleSoFar) (f : WasmFunc) : Type 0 where
  pub ty : f.ty ≡ type_at
  pub places : EntryPlaces
  pub calls : ImportsCalls d lower start return old new places
  pub locals : f.locals ≡ []
  pub body : (a : LinkedAdapter) → DescribesEntry t d a → f.body ≡ entry_code places (call_facts a (tuple_of_results t d.lift.ty)) (length lower.params) (callee_facts d lift)

-- It stands behind the module's functions, and its export, under the adapter's name, behind the exports. It has the core type of every adapter
-- that the data describe, and is its function, in every later module that has what was imported so far, where the two calls have their places.
pub record CompiledEntry (t : Tables) (d : AdapterData) (start return : ℕ) (old new : ModuleSoFar) : Type 0 where
  pub function : WasmFunc
  pub ty : FuncType
  pub declared : ModuleSoFar
  pub declares : HasType old declared ty
  pub written : ModuleSoFar
  pub lower : Signature
  pub lower_is : (a : LinkedAdapter) → DescribesEntry t d a → lower ≡ lower_signature_of a
  pub places : EntryPlaces
  pub calls : ImportsCalls d lower start return declared written places
  pub is_last : new ≡ with_exported written d.name function
  pub functions : new.functions ≡ old.functions ++ function ∷ []
  pub once : AreOnce old → AreOnce new
  pub body : (a : LinkedAdapter) → DescribesEntry t d a
      → function.body ≡ entry_code places (call_facts a (tuple_of_results t d.lift.ty)) (length (lower_signature_of a).params) (callee_facts d (lift_signature_of a))
  pub typed : (a : LinkedAdapter) → DescribesEntry t d a → slice_get new.types function.ty ≡ Some (lower_type_of a)
  pub is : (a : LinkedAdapter) → DescribesEntry t d a → NamesLift old d a → (M : WasmModule) (p : ImportPlaces) → Serves M p new
      → IsEntryFunction a (handed_on d start return (tuple_of_results t d.lift.ty)) M (with_task_calls a places.prepare_call places.start_call p) function
