-- Helpers that code asks for, and modules that have them. A helper is a function that a module defines once for a pair of types, with the options and the
-- places of both sides, and that moves values of them for all code that asks for it.
use Rattle.std.specs.Prelude.{◌≡◌, ℕ, Bool, List, [], ◌∷◌, unwrap_or}
use Rattle.std.specs.List.{AllByRecursion}
use Rattle.fact_wasm.specs.declared.types.ValType.{ValType}
use Rattle.fact_wasm.specs.declared.module.WasmModule.{WasmModule}
use Rattle.fact_types.specs.FlatShapes.{IsCounted}
use Rattle.fact_types.specs.Shapes.{Shape}
use Rattle.fact_types.specs.Signatures.{flat_values}
use Rattle.fact_types.specs.Tables.{Tables, HasShape}
use Rattle.fact_actions.specs.Moves.{move}
use Rattle.fact_actions.specs.Running.{ImportPlaces}
use Rattle.fact_actions.specs.Sides.{LiftLowerOptions, width_of_side}
use Rattle.fact_code_laws.specs.Helpers.{IsHelper}
use Rattle.fact_code_laws.specs.Places.{From, InLocals, InMemory, To, ToLocals, ToMemory, Rooms, transfer}
use Rattle.fact_emit.specs.declared.helpers.Helper.{Helper}
use Rattle.fact_emit.specs.declared.helpers.HelperLocation.TheVariants as location
use Rattle.fact_emit.specs.declared.helpers.HelperType.{HelperType}
use Rattle.fact_emit.specs.declared.places.Sides.{Sides}
use Rattle.fact_emit.specs.Fitting.{FitsShapes, bytes_of_shape}
use Rattle.fact_emit.specs.Movable.{CanMove}
use Rattle.fact_emit.specs.Options.{linear_of_options}
use Rattle.fact_emit.specs.Places.{setting_of}

-- A helper that code asks for: what it is made for, its types being those of these tables; the number of its function among those that the module
-- defines; and whether that has debug checks, and saves the slots of the context around calls of realloc.
pub record AskedHelper : Type 0 where
  pub tables : Tables
  pub key : Helper
  pub number : ℕ
  pub debug : Bool
  pub concurrency : Bool

-- the sides between which it moves values
abbrev pub sides_of_helper : AskedHelper → Sides
sides_of_helper a = record { from = linear_of_options a.key.src.opts; to = linear_of_options a.key.dst.opts; debug = a.debug; concurrency = a.concurrency }

-- what it is made for, with the number of its function
abbrev pub entry_of : AskedHelper → Helper × ℕ
entry_of a = (a.key, a.number)

-- a place where a helper finds values, in its side's memory where it is in one
abbrev pub IsFoundAt : HelperType → From → Type 0
IsFoundAt h (InLocals slots) = h.loc ≡ location.Stack
IsFoundAt h (InMemory memory base offset) = (h.loc ≡ location.Memory) × (memory ≡ (linear_of_options h.opts).memory)

-- and one where it puts them
abbrev pub IsPutAt : HelperType → To → Type 0
IsPutAt h (ToLocals slots) = h.loc ≡ location.Stack
IsPutAt h (ToMemory memory base offset) = (h.loc ≡ location.Memory) × (memory ≡ (linear_of_options h.opts).memory)

-- the flat types of a shape that has at most 16 of them
abbrev pub flats_given : Bool → Shape → List ValType
flats_given memory64 u = unwrap_or (flat_values memory64 16 (u ∷ [])) []

-- A module has a helper: the function of its number moves values of its types between its places, wherever they fit these, whatever the options of the
-- sides are and what room there is behind addresses.
pub record HasHelper (M : WasmModule) (p : ImportPlaces) (a : AskedHelper) : Type 0 where
  pub moves : (t u : Shape) → HasShape a.tables a.key.src.ty t → HasShape a.tables a.key.dst.ty u → IsCounted t → IsCounted u → CanMove t u
      → (src : From) (dst : To) → IsFoundAt a.key.src src → IsPutAt a.key.dst dst
      → (from to : LiftLowerOptions) (rooms : Rooms) (locals : List ValType) → FitsShapes (sides_of_helper a) (setting_of (sides_of_helper a) from to rooms M p locals) t u src dst
      → IsHelper M p a.key.src.opts.linear.memory64 a.key.dst.opts.linear.memory64 src dst (bytes_of_shape (width_of_side from) t) (bytes_of_shape (width_of_side to) u) (flats_given a.key.dst.opts.linear.memory64 u) a.number
      (move (transfer (setting_of (sides_of_helper a) from to rooms M p locals)) t u)

abbrev pub HasHelpers : WasmModule → ImportPlaces → List AskedHelper → Type 0
HasHelpers M p asks = AllByRecursion (HasHelper M p) asks
