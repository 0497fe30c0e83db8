-- The functions that code names, and numbers in the order in which they come first.
use Rattle.std.specs.Prelude.{ℕ, nat_eq, List, [], ◌∷◌, ◌++◌, Option, Some, None, if◌then◌else◌}
use Rattle.std.specs.List.{list_any, filter_map}
use Rattle.fact_wasm.specs.declared.instr.FuncName.{FuncName}
use Rattle.fact_wasm.specs.declared.instr.FuncName.TheVariants as func
use Rattle.fact_wasm.specs.declared.instr.Instr.{Instr}
use Rattle.fact_wasm.specs.Ranges.{Named, Otherwise, Placed, Point, body_points}

-- ---- numbers, each once

abbrev pub added_once : List ℕ → ℕ → List ℕ
added_once ns n = if list_any (λ k. nat_eq k n) ns then ns else ns ++ n ∷ []

-- numbers behind others, each where it is not there yet
abbrev pub all_added_once : List ℕ → List ℕ → List ℕ
all_added_once ns [] = ns
all_added_once ns (x ∷ xs) = all_added_once (added_once ns x) xs

-- ---- what code names

abbrev pub name_at : Point → Option FuncName
name_at (Named f) = Some f
name_at (Placed m) = None
name_at (Otherwise n) = None

-- the functions that code names, front to back
abbrev pub functions_named : List Instr → List FuncName
functions_named code = filter_map name_at (body_points code)

abbrev pub imported_place : FuncName → Option ℕ
imported_place (func.Import k) = Some k
imported_place (func.Defined k) = None

abbrev pub defined_place : FuncName → Option ℕ
defined_place (func.Import k) = None
defined_place (func.Defined k) = Some k

-- the imported ones among them, by their numbers
abbrev pub imported_named : List Instr → List ℕ
imported_named code = filter_map imported_place (functions_named code)

-- and those that the module defines
abbrev pub defined_named : List Instr → List ℕ
defined_named code = filter_map defined_place (functions_named code)
