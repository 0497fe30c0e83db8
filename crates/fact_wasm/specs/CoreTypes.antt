-- Lists of function types, as the type section has them (core specification, "Structure", "Modules", "Types"), in which no type stands twice.
use Rattle.std.specs.Prelude.{◌≡◌, ℕ, List, Some, slice_get}
use Rattle.fact_wasm.specs.declared.types.ValType.{ValType}
use Rattle.fact_wasm.specs.declared.types.FuncType.{FuncType}

-- the type of these parameters and results
abbrev pub signature : List ValType → List ValType → FuncType
signature params results = record { params = params; results = results }

-- the type stands at the place, and at no other
pub record IsOnlyPlaceOfType (types : List FuncType) (ty : FuncType) (place : ℕ) : Type 0 where
  pub holds : slice_get types place ≡ Some ty
  pub only : (k : ℕ) → slice_get types k ≡ Some ty → k ≡ place

-- no type stands at two places
pub record HasNoTwins (types : List FuncType) : Type 0 where
  pub apart : (j k : ℕ) (ty : FuncType) → slice_get types j ≡ Some ty → slice_get types k ≡ Some ty → j ≡ k
