-- Cited by private clauses alone.
-- A module of two functions, of which the first one calls the one that it imports and the second one returns at once, and their calls, in which nothing is
-- taken and given.
use Rattle.std.specs.Prelude.{ℕ, false, [], ◌∷◌, None, codes}
use Rattle.fact_wasm.specs.declared.instr.FuncName.TheVariants.{Import}
use Rattle.fact_wasm.specs.declared.instr.Instr.TheVariants as I
use Rattle.fact_wasm.specs.declared.module.ImportType.TheVariants.{Func}
use Rattle.fact_wasm.specs.declared.module.WasmFunc.{WasmFunc}
use Rattle.fact_wasm.specs.declared.module.WasmImport.{WasmImport}
use Rattle.fact_wasm.specs.declared.module.WasmModule.{WasmModule}
use Rattle.fact_wasm.specs.declared.types.FuncType.{FuncType}
use Rattle.fact_types.specs.declared.outside.StringEncoding.TheVariants.{Utf8}
use Rattle.fact_host.specs.declared.calling.HostCall.{HostCall}
use Rattle.fact_host.specs.declared.calling.HostSide.{HostSide}
use Rattle.fact_host.specs.Rules.{CallShapes}

abbrev pub plain_side : (flags : ℕ) → HostSide
plain_side n = record { abi = record { memory64 = false; encoding = Utf8 }; memory = None; realloc = None; flags = n; params = []; results = [] }

-- the call of a function of the module by its number
abbrev pub plain_call : ℕ → HostCall
plain_call n = record { lower = plain_side 0; lift = plain_side 1; callee = 0; post_return = None; func = n }

abbrev pub no_shapes : CallShapes
no_shapes = record { lower_params = []; lower_results = []; lift_params = []; lift_results = [] }

abbrev pub no_numbers : FuncType
no_numbers = record { params = []; results = [] }

abbrev pub callee_import : WasmImport
callee_import = record { «module» = codes "callee"; name = codes "f"; ty = Func 0 }

abbrev pub calling_function : WasmFunc
calling_function = record { ty = 0; locals = []; body = I.Call (Import 0) ∷ [] }

abbrev pub returning_function : WasmFunc
returning_function = record { ty = 0; locals = []; body = [] }

abbrev pub calling_module : WasmModule
calling_module = record { types = no_numbers ∷ []; imports = callee_import ∷ []; funcs = calling_function ∷ returning_function ∷ []; exports = [] }
