-- Which functions a module has by its fuel, and which helpers their code calls.
use Rattle.std.specs.Prelude.{ℕ, List, [], ◌∷◌, ◌++◌, map, Some, None}
use Rattle.std.specs.List.{AllZip, flat_map}
use Rattle.fact_wasm.specs.declared.instr.FuncName.TheVariants as func
use Rattle.fact_wasm.specs.declared.instr.Instr.{Instr, fold-Instr}
use Rattle.fact_wasm.specs.declared.instr.Instr.TheOpen as o
use Rattle.fact_wasm.specs.declared.instr.Instr.TheOpen.{Instr-F}
use Rattle.fact_wasm.specs.declared.module.WasmFunc.{WasmFunc}
use Rattle.fact_wasm.specs.declared.module.WasmModule.{WasmModule}
use Rattle.fact_types.specs.Adapters.{LinkedAdapter}
use Rattle.fact_actions.specs.Outlining.{AreFunctions, IsHelperAt, OutlinedFunction}

abbrev all : List (List ℕ) → List ℕ
all = flat_map (λ ks. ks)

abbrev pub defined_calls_row : Instr-F (List ℕ) → List ℕ
defined_calls_row (o.Call (func.Defined k)) = k ∷ []
defined_calls_row (o.Block ty body) = all body
defined_calls_row (o.Loop ty body) = all body
defined_calls_row (o.If ty body None) = all body
defined_calls_row (o.If ty body (Some other)) = all body ++ all other
defined_calls_row (o.TryTable ty labels body) = all body
defined_calls_row _ = []

-- the functions of the module that an instruction calls, in its bodies too, front to back
abbrev pub defined_calls_of : Instr → List ℕ
defined_calls_of = fold-Instr (List ℕ) defined_calls_row

-- and those that code calls
abbrev pub defined_calls : List Instr → List ℕ
defined_calls code = all (map defined_calls_of code)

-- A function calls a helper for each key that it asks for, in that order, and no other function of the module.
pub record CallsAsked (functions : List OutlinedFunction) (f : WasmFunc) (x : OutlinedFunction) : Type 0 where
  pub calls : AllZip (IsHelperAt functions) (defined_calls f.body) x.asks

-- The module's functions are, one by one, those that its adapters have with this fuel: adapter by adapter its own, and the helpers that these, and
-- helpers in turn, are the first to ask for. No helper stands there twice.
pub record IsOutlined (m : WasmModule) (fuel : ℕ) (adapters : List LinkedAdapter) : Type 0 where
  pub functions : List OutlinedFunction
  pub are_functions : AreFunctions fuel [] adapters functions
  pub one_by_one : AllZip (CallsAsked functions) m.funcs functions
