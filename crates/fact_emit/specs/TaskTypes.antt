-- The names and the types of the calls by which an async adapter hands a call to the runtime (Component Model, canonical ABI, "`canon
-- lower`").
use Rattle.std.specs.Prelude.{ℕ, List, [], ◌∷◌, ◌++◌, codes}
use Rattle.fact_wasm.specs.declared.types.FuncType.{FuncType}
use Rattle.fact_wasm.specs.declared.types.ValType.{ValType}
use Rattle.fact_wasm.specs.declared.types.ValType.TheVariants as val

-- What each prepare-call is told before the adapter's own core parameters: the functions that move parameters and results, the instances
-- of the lower and of the lift side, the number of the tuple of the callee's results, whether its function type is marked as async, the
-- encoding of the lift side, and a number for the results.
abbrev pub prepare_fixed_types : List ValType
prepare_fixed_types = val.FuncRef ∷ val.FuncRef ∷ val.I32 ∷ val.I32 ∷ val.I32 ∷ val.I32 ∷ val.I32 ∷ val.I32 ∷ []

-- of an adapter of these core parameters
abbrev pub prepare_call_type : (params : List ValType) → FuncType
prepare_call_type params = record { params = prepare_fixed_types ++ params; results = [] }

-- The callee, how many core parameters and results it has, and the flags of the call. It gives what the adapter gives.
abbrev pub start_call_type : (results : List ValType) → FuncType
start_call_type results = record { params = val.FuncRef ∷ val.I32 ∷ val.I32 ∷ val.I32 ∷ []; results = results }

abbrev pub prepare_call_name : (adapter : List ℕ) → List ℕ
prepare_call_name adapter = codes "[prepare-call]" ++ adapter

abbrev pub start_call_name : (adapter : List ℕ) → List ℕ
start_call_name adapter = codes "[start-call]" ++ adapter
