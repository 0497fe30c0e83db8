-- What a module knows of the core definitions that an adapter names, where it has them at these places.
use Rattle.std.specs.Prelude.{◌≡◌, ℕ, List, [], Option, None, Some}
use Rattle.fact_wasm.specs.declared.module.WasmModule.{WasmModule}
use Rattle.fact_wasm.specs.declared.types.FuncType.{FuncType}
use Rattle.fact_wasm.specs.declared.types.ValType.{ValType}
use Rattle.fact_machine.specs.Typed.{type_of_import}
use Rattle.fact_types.specs.Adapters.{LinkedAdapter, Side, is_wide}
use Rattle.fact_types.specs.ImportTypes.{callback_type, post_return_type, realloc_type}
use Rattle.fact_types.specs.declared.import.Import.TheVariants as import
use Rattle.fact_types.specs.declared.outside.CoreDef.{CoreDef}
use Rattle.fact_types.specs.declared.outside.MemoryOption.{MemoryOption}
use Rattle.fact_actions.specs.Running.{ImportPlaces}
use Rattle.fact_code_laws.specs.Knows.{KnowsFlags, KnowsFunction, KnowsMemory}
use Rattle.fact_emit.specs.AdapterImports.{AdapterImports, SideImports}
use Rattle.fact_emit.specs.ImportSection.{custom_page_size}

-- the memory of a side, which is that of this place
pub record KnowsMemoryAt (M : WasmModule) (p : ImportPlaces) (m : MemoryOption) (place : Option ℕ) : Type 0 where
  pub number : ℕ
  pub place_is : place ≡ Some number
  pub knows : KnowsMemory M p m.def number m.memory64 (custom_page_size m.page_size_log2)

-- a definition as a function of a type, which is that of this place
pub record KnowsFunctionAt (M : WasmModule) (p : ImportPlaces) (d : CoreDef) (ty : FuncType) (place : Option ℕ) : Type 0 where
  pub number : ℕ
  pub place_is : place ≡ Some number
  pub knows : KnowsFunction M p (import.CoreDef d) number ty.params ty.results

-- flags, memory, realloc and callback of a side
pub record KnowsSide (M : WasmModule) (p : ImportPlaces) (s : Side) (at : SideImports) : Type 0 where
  pub flags : KnowsFlags M p s.instance at.flags
  pub memory : (m : MemoryOption) → s.memory ≡ Some m → KnowsMemoryAt M p m at.memory
  pub realloc : (f : CoreDef) → s.realloc ≡ Some f → KnowsFunctionAt M p f (realloc_type (is_wide s.memory)) at.realloc
  pub callback : (f : CoreDef) → s.callback ≡ Some f → KnowsFunctionAt M p f callback_type at.callback

-- both sides, the callee and the post-return
pub record KnowsAdapter (M : WasmModule) (p : ImportPlaces) (a : LinkedAdapter) (at : AdapterImports) : Type 0 where
  pub lift : KnowsSide M p a.lift at.lift
  pub lower : KnowsSide M p a.lower at.lower
  pub callee : KnowsFunction M p (import.CoreDef a.callee) at.callee a.lift.core_type.params a.lift.core_type.results
  pub post_return : (f : CoreDef) → a.lift.post_return ≡ Some f → KnowsFunctionAt M p f (post_return_type a.lift.core_type.results) at.post_return

-- what a core function gives by the type under which a module imports it
abbrev pub results_of_import : WasmModule → ImportPlaces → CoreDef → List ValType
results_of_import M p d = elim (type_of_import M (p.function (import.CoreDef d))) [ None ↦ [] | Some t ↦ t.results ]
