-- The helpers that code of moves asks for, and what it may leave to them.
use Rattle.std.specs.Prelude.{◌≡◌, ℕ, ◌<◌, Bool, List, [], ◌∷◌, Contains, replicate}
use Rattle.std.specs.List.{AllByRecursion}
use Rattle.fact_wasm.specs.declared.types.ValType.{ValType}
use Rattle.fact_wasm.specs.declared.types.ValType.TheVariants as val
use Rattle.fact_machine.specs.Typing.{address_type}
use Rattle.fact_types.specs.Heights.{height}
use Rattle.fact_types.specs.Shapes.{Shape, Members}
use Rattle.fact_types.specs.Tables.{Tables, HasShape, IsLive}
use Rattle.fact_types.specs.declared.interface.InterfaceType.{InterfaceType}
use Rattle.fact_code_laws.specs.Helpers.{helper_code, take_to}
use Rattle.fact_code_laws.specs.Places.{From, InLocals, InMemory, To, ToLocals, ToMemory}
use Rattle.fact_emit.specs.declared.helpers.Helper.{Helper}
use Rattle.fact_emit.specs.declared.helpers.HelperLocation.{HelperLocation}
use Rattle.fact_emit.specs.declared.helpers.HelperType.{HelperType}
use Rattle.fact_emit.specs.declared.helpers.HelperLocation.TheVariants as location
use Rattle.fact_emit.specs.declared.places.LinearMemory.{LinearMemory}
use Rattle.fact_emit.specs.declared.places.Sides.{Sides}
use Rattle.fact_emit.specs.declared.writer.Writer.{Writer}
use Rattle.fact_emit.specs.Asked.{AskedHelper, flats_given, sides_of_helper}
use Rattle.fact_emit.specs.Fitting.{FitsShapes, FitsFields, shape_moves, field_moves}
use Rattle.fact_emit.specs.MovesValue.{MovesValue}
use Rattle.fact_emit.specs.Options.{linear_of_options}
use Rattle.fact_emit.specs.Pieces.{Piece}
use Rattle.fact_emit.specs.States.{ModuleSoFar}
use Rattle.fact_emit.specs.StringPieces.{AreSidesImported}
use Rattle.fact_emit.specs.Writers.{Wrote}

-- each side's memory is what its canonical options tell of it
pub record AreSidesTold (sides : Sides) : Type 0 where
  pub from : sides.from ≡ linear_of_options sides.from.options
  pub to : sides.to ≡ linear_of_options sides.to.options

-- ---- helpers

-- where a helper finds values, and where it puts them
abbrev pub location_of_source : From → HelperLocation
location_of_source (InLocals slots) = location.Stack
location_of_source (InMemory memory base offset) = location.Memory

abbrev pub location_of_target : To → HelperLocation
location_of_target (ToLocals slots) = location.Stack
location_of_target (ToMemory memory base offset) = location.Memory

-- the helper that moves values of a type to places of another one between these sides
abbrev pub helper_key : Sides → (from to : InterfaceType) → From → To → Helper
helper_key sides from to src dst = record {
  src = record { ty = from; opts = sides.from.options; loc = location_of_source src };
  dst = record { ty = to; opts = sides.to.options; loc = location_of_target dst };
}

-- what a helper takes of a source that has so many flat types: an i64 for each, or an address
abbrev pub params_at : HelperLocation → Bool → (flats : ℕ) → List ValType
params_at location.Stack memory64 n = replicate n val.I64
params_at location.Memory memory64 n = address_type memory64 ∷ []

abbrev pub params_of_side : HelperType → (flats : ℕ) → List ValType
params_of_side side n = params_at side.loc side.opts.linear.memory64 n

-- What a helper gives was taken off the operand stack.
pub record TookGiven (t : Tables) (memory : LinearMemory) (to : InterfaceType) (dst : To) (old new : Writer) : Type 0 where
  pub flats : List ValType
  pub wrote : Wrote old new (take_to flats dst)
  pub given : (u : Shape) → HasShape t to u → take_to flats dst ≡ take_to (flats_given memory.memory64 u) dst

-- The call of a helper was put behind the code.
pub record WroteCall (t : Tables) (sides : Sides) (to : InterfaceType) (number : ℕ) (src : From) (dst : To) (old new : Writer) : Type 0 where
  pub flats : List ValType
  pub wrote : Wrote old new (helper_code sides.from.memory64 sides.to.memory64 src dst flats number)
  pub given : (u : Shape) → HasShape t to u → helper_code sides.from.memory64 sides.to.memory64 src dst flats number ≡ helper_code sides.from.memory64 sides.to.memory64 src dst (flats_given sides.to.memory64 u) number

-- A helper that code asks for which moves values between these sides, by these tables: both types are live, the one that it moves values to is
-- lower than this height, what its sides name is imported, and the module that is being made has a number for it.
pub record IsAsked (t : Tables) (sides : Sides) (below : ℕ) (s : ModuleSoFar) (a : AskedHelper) : Type 0 where
  pub tables : a.tables ≡ t
  pub debug : a.debug ≡ sides.debug
  pub concurrency : a.concurrency ≡ sides.concurrency
  pub from_live : IsLive t a.key.src.ty
  pub to_live : IsLive t a.key.dst.ty
  pub low : height t a.key.dst.ty < below
  pub imported : AreSidesImported (sides_of_helper a) s
  pub there : Contains s.helpers (a.key, a.number)

pub record AreAsked (t : Tables) (sides : Sides) (below : ℕ) (s : ModuleSoFar) (asks : List AskedHelper) : Type 0 where
  pub each : AllByRecursion (IsAsked t sides below s) asks

-- ---- what the code does

-- Code that moves a value of a source type to a place of a destination type, by itself or by the call of a helper, and leaves 100 of the
-- steps of its weight.
abbrev pub MovesHelped : Sides → From → To → (ℕ → Bool) → Shape → Shape → Piece
MovesHelped sides src dst taken t u = MovesValue sides src dst taken 100 (λ S. FitsShapes sides S t u src dst) (shape_moves t u)

-- The same of the fields of a record that are left, of which there is at least one.
abbrev pub MovesHelpedFields : Sides → From → To → (ℕ → Bool) → Members → Members → ℕ → Piece
MovesHelpedFields sides src dst taken ms ns end = MovesValue sides src dst taken 100 (λ S. FitsFields sides S ms ns end src dst) (field_moves ms ns end)
