-- The types of the functions that adapters import.
-- Component Model, canonical ABI, "Canonical ABI options" (`realloc`, `post-return`, `callback`).
use Rattle.std.specs.Prelude.{Bool, List, [], ◌∷◌}
use Rattle.fact_wasm.specs.declared.types.ValType.{ValType}
use Rattle.fact_wasm.specs.declared.types.ValType.TheVariants as val
use Rattle.fact_wasm.specs.declared.types.FuncType.{FuncType}
use Rattle.fact_types.specs.Signatures.{address}

-- the old address, its size, the alignment and the new size; the new address
abbrev pub realloc_type : Bool → FuncType
realloc_type wide = record { params = address wide ∷ address wide ∷ address wide ∷ address wide ∷ []; results = address wide ∷ [] }

abbrev pub callback_type : FuncType
callback_type = record { params = val.I32 ∷ val.I32 ∷ val.I32 ∷ []; results = val.I32 ∷ [] }

-- it takes what the callee gave
abbrev pub post_return_type : List ValType → FuncType
post_return_type results = record { params = results; results = [] }

abbrev pub trap_type : FuncType
trap_type = record { params = []; results = [] }
