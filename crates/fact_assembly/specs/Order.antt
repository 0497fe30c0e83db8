-- The order in which the imports and the functions of a module stand: adapter by adapter.
use Rattle.std.specs.Prelude.{◌≡◌, ℕ, suc, ◌+◌, Bool, true, false, not, nat_le, List, [], ◌∷◌, ◌++◌, Option, Some, filter, length, map, slice_get, if◌then◌else◌}
use Rattle.std.specs.List.{flat_map, filter_map, range_with_len}
use Rattle.fact_wasm.specs.declared.instr.FuncName.{FuncName}
use Rattle.fact_wasm.specs.declared.module.WasmFunc.{WasmFunc}
use Rattle.fact_wasm.specs.declared.module.WasmImport.{WasmImport}
use Rattle.fact_wasm.specs.declared.module.WasmModule.{WasmModule}
use Rattle.fact_types.specs.declared.outside.CoreDef.{CoreDef}
use Rattle.fact_types.specs.Adapters.{LinkedAdapter}
use Rattle.fact_types.specs.declared.import.Import.{Import}
use Rattle.fact_types.specs.declared.import.Import.TheVariants as known
use Rattle.fact_assembly.specs.Exports.{exported_functions_of}
use Rattle.fact_emit.specs.ImportSection.{Mention, a_function, adapter_mentions, imports_of, is_of, with_mentions}
use Rattle.fact_emit.specs.NamedFunctions.{all_added_once, defined_place, functions_named, imported_place}

-- ---- what code names

-- the functions that a body names, front to back
abbrev pub names : WasmFunc → List FuncName
names f = functions_named f.body

abbrev pub is_definition : Option Import → Bool
is_definition (Some (known.CoreDef d)) = true
is_definition _ = false

abbrev pub is_prepare_call : Option Import → Bool
is_prepare_call (Some (known.PrepareCall memory)) = true
is_prepare_call _ = false

-- The imported functions among the names, core definitions apart, where these are all imported functions.
abbrev pub others_among : List Import → List FuncName → List ℕ
others_among imported fs = filter (λ n. not (is_definition (slice_get imported n))) (filter_map imported_place fs)

-- Numbers, those of prepare-calls last: a start-call is imported before the prepare-call, though it is called behind it.
abbrev pub prepare_calls_last : List Import → List ℕ → List ℕ
prepare_calls_last imported ns = filter (λ n. not (is_prepare_call (slice_get imported n))) ns ++ filter (λ n. is_prepare_call (slice_get imported n)) ns

-- the other imports that a body needs, in the order of its code
abbrev pub others_named : List Import → WasmFunc → List ℕ
others_named imported f = prepare_calls_last imported (others_among imported (names f))

-- the functions from a number on that bodies name, each once, in the order in which they are first named
abbrev pub newly_asked : ℕ → List WasmFunc → List ℕ
newly_asked next fs = all_added_once [] (filter (nat_le next) (filter_map defined_place (flat_map names fs)))

-- Functions in the order in which their code is written, where these numbers wait and those from `next` on were not asked for:
-- the last of those that wait comes first, and those that it is the first to ask for wait behind the others.
pub data AreWritten (functions : List WasmFunc) : (waiting : List ℕ) → (next : ℕ) → (written : List WasmFunc) → Type 0 where
  NoneWaits : (next : ℕ) → AreWritten functions [] next []
  LastComes : (waiting : List ℕ) (next k : ℕ) (f : WasmFunc) (written : List WasmFunc) → slice_get functions k ≡ Some f
      → AreWritten functions (waiting ++ newly_asked next (f ∷ [])) (next + length (newly_asked next (f ∷ []))) written
      → AreWritten functions (waiting ++ k ∷ []) next (f ∷ written)

-- ---- the parts of a module

-- What is new with an adapter: the core definitions that it is the first to mention, the other imports that its code is the
-- first to name, by their numbers among the imported functions, its own functions, and those that these ask for.
pub record ModulePart : Type 0 where
  pub defs : List Mention
  pub others : List ℕ
  pub own : List WasmFunc
  pub helpers : List WasmFunc

abbrev pub functions_of_part : ModulePart → List WasmFunc
functions_of_part p = p.own ++ p.helpers

-- An adapter's part, behind these others, where these are all imported functions.
pub record IsModulePart (imported : List Import) (before : List ModulePart) (a : LinkedAdapter) (p : ModulePart) : Type 0 where
  pub defs : with_mentions (flat_map (λ q. q.defs) before) (adapter_mentions a) ≡ flat_map (λ q. q.defs) before ++ p.defs
  pub own : length p.own ≡ length (exported_functions_of a)
  pub next : ℕ
  pub next_is : next ≡ length (flat_map functions_of_part before) + length p.own
  pub written : List WasmFunc
  pub are_written : AreWritten (flat_map functions_of_part before ++ functions_of_part p) (newly_asked next p.own) (next + length (newly_asked next p.own)) written
  pub all_written : length written ≡ length p.helpers
  pub others : all_added_once (flat_map (λ q. q.others) before) (flat_map (others_named imported) (p.own ++ written)) ≡ flat_map (λ q. q.others) before ++ p.others

-- The parts, behind these others, are those of the adapters, one by one.
abbrev pub AreParts : List Import → List ModulePart → List LinkedAdapter → List ModulePart → Type 0
AreParts imported before [] [] = Unit {0}
AreParts imported before (a ∷ adapters) (p ∷ parts) = IsModulePart imported before a p × AreParts imported (before ++ p ∷ []) adapters parts
AreParts imported before [] (p ∷ parts) = ⊥
AreParts imported before (a ∷ adapters) [] = ⊥

-- ---- the order

-- an import: a core definition, or another function by its number among the imported ones
pub data Item : Type 0 where
  Definition : CoreDef → Item
  Other : (number : ℕ) → Item

abbrev pub item_of : ℕ → Import → Item
item_of n (known.CoreDef d) = Definition d
item_of n _ = Other n

-- the imports, where so many functions are imported before them
abbrev pub items : ℕ → List WasmImport → List Import → List Item
items n (w ∷ ws) (i ∷ is) = item_of n i ∷ items (if is_of a_function w then suc n else n) ws is
items n _ _ = []

-- what is imported anew with an adapter: first its core definitions, then what its code needs
abbrev pub items_in : ModulePart → List Item
items_in p = map (λ r. Definition r.def) p.defs ++ map Other p.others

-- the numbers of the adapters' own functions, where so many functions stand before
abbrev pub own_places : ℕ → List ModulePart → List ℕ
own_places n [] = []
own_places n (p ∷ parts) = range_with_len n (length p.own) ++ own_places (n + length (functions_of_part p)) parts

-- The imports of the module stand adapter by adapter, as they are new with it, the core definitions in the order of mention, the
-- others in the order in which its code is written. So do its functions, and the exported ones are each adapter's own, in order.
pub record IsOrdered (m : WasmModule) (is : List Import) (adapters : List LinkedAdapter) : Type 0 where
  pub parts : List ModulePart
  pub are_parts : AreParts (imports_of a_function m.imports is) [] adapters parts
  pub imports : items 0 m.imports is ≡ flat_map items_in parts
  pub functions : m.funcs ≡ flat_map functions_of_part parts
  pub exports : filter_map (λ e. defined_place e.func) m.exports ≡ own_places 0 parts
