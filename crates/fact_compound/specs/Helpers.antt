-- The functions of helpers: what they do, as they are written, and as they are put into a module behind the functions that ask for them.
use Rattle.std.specs.Prelude.{◌≡◌, ℕ, suc, ◌+◌, ◌-◌, ◌^◌, ◌<◌, ◌≤◌, ◌⊎◌, Bool, true, false, List, [], ◌∷◌, ◌++◌, Some, length, map, reverse, slice_get}
use Rattle.std.specs.List.{AllByRecursion, AllZip, Contains, range_with_len}
use Rattle.fact_wasm.specs.declared.instr.Instr.{Instr}
use Rattle.fact_wasm.specs.declared.module.WasmFunc.{WasmFunc}
use Rattle.fact_wasm.specs.declared.module.WasmModule.{WasmModule}
use Rattle.fact_wasm.specs.declared.types.FuncType.{FuncType}
use Rattle.fact_wasm.specs.declared.types.ValType.{ValType}
use Rattle.fact_machine.specs.Trace.{Grows}
use Rattle.fact_machine.specs.Typing.{address_type, is_typed_function}
use Rattle.fact_types.specs.FlatShapes.{IsCounted, flat}
use Rattle.fact_types.specs.Heights.{height}
use Rattle.fact_types.specs.Shapes.{Shape}
use Rattle.fact_types.specs.Signatures.{width}
use Rattle.fact_types.specs.Tables.{Tables, HasShape}
use Rattle.fact_types.specs.declared.signature.Signature.{Signature}
use Rattle.fact_actions.specs.Alike.{source_as_i64}
use Rattle.fact_actions.specs.Moves.{move}
use Rattle.fact_actions.specs.Outlining.{Route, helper_asks}
use Rattle.fact_actions.specs.Running.{ImportPlaces}
use Rattle.fact_actions.specs.Sides.{LiftLowerOptions, Source, Target, width_of_side}
use Rattle.fact_code_laws.specs.Does.{Locals, Onward, Does, held_types}
use Rattle.fact_code_laws.specs.Helpers.{AreGiven, IsSourceOf, IsTargetOf, SourceHasRoom, TargetHasRoom, args_of_source, args_of_target, flat_target, given_out}
use Rattle.fact_code_laws.specs.Places.{From, To, Rooms, AreHeld, transfer}
use Rattle.fact_code_laws.specs.Typed.{OnStack, IsTyped}
use Rattle.fact_emit.specs.Asked.{AskedHelper, HasHelper, HasHelpers, IsFoundAt, IsPutAt, flats_given, sides_of_helper}
use Rattle.fact_emit.specs.Brought.{Brought}
use Rattle.fact_emit.specs.Fitting.{FitsShapes, bytes_of_shape}
use Rattle.fact_emit.specs.Imports.{AreOnce, Extended, Serves}
use Rattle.fact_emit.specs.Movable.{CanMove}
use Rattle.fact_emit.specs.NamedFunctions.{defined_named}
use Rattle.fact_emit.specs.Places.{setting_of}
use Rattle.fact_emit.specs.States.{HasType, KeepsDefined, ModuleSoFar, next_number}
use Rattle.fact_emit.specs.Writers.{AreNumberTypes, types_of_locals}
use Rattle.fact_emit.specs.declared.helpers.Helper.{Helper}
use Rattle.fact_emit.specs.declared.helpers.HelperLocation.{HelperLocation}
use Rattle.fact_emit.specs.declared.helpers.HelperLocation.TheVariants as location
use Rattle.fact_emit.specs.declared.helpers.HelperType.{HelperType}
use Rattle.fact_emit.specs.declared.writer.Writer.{Writer}
use Rattle.fact_kinds.specs.Asks.{params_of_side}
use Rattle.fact_kinds.specs.Moved.{AreSmall}
use Rattle.fact_kinds.specs.Translations.{IsKeyOf, place_of_location}
use Rattle.fact_kinds.specs.declared.fuel.Fuel.{Fuel}
use Rattle.fact_compound.specs.Asks.{AsksFor, CanBeWritten, sides_between}
use Rattle.fact_compound.specs.Functions.{slots_from}
use Rattle.fact_compound.specs.Translated.{IsFullFuel}

-- ---- places and signatures

abbrev pub is_on_stack : HelperLocation → Bool
is_on_stack location.Stack = true
is_on_stack location.Memory = false

-- Behind what holds its source a helper takes the address of a target in memory; it gives the flat types of another one.
abbrev pub target_params : HelperLocation → Bool → List ValType
target_params location.Stack memory64 = []
target_params location.Memory memory64 = address_type memory64 ∷ []

abbrev pub results_at : HelperLocation → Bool → Shape → List ValType
results_at location.Stack memory64 u = flats_given memory64 u
results_at location.Memory memory64 u = []

abbrev pub helper_params : Helper → Shape → List ValType
helper_params k t = params_of_side k.src (length (flat (width k.src.opts.linear.memory64) t)) ++ target_params k.dst.loc k.dst.opts.linear.memory64

abbrev pub helper_results : Helper → Shape → List ValType
helper_results k u = results_at k.dst.loc k.dst.opts.linear.memory64 u

-- at most 16 values stand on the stack
abbrev pub AreFewAt : HelperType → Shape → Type 0
AreFewAt h t = h.loc ≡ location.Stack → length (flat (width h.opts.linear.memory64) t) ≤ 16

-- the core signature of a helper
pub record IsHelperSignature (t : Tables) (k : Helper) (s : Signature) : Type 0 where
  pub params : (x : Shape) → HasShape t k.src.ty x → IsCounted x → AreFewAt k.src x → s.params ≡ helper_params k x
  pub results : (u : Shape) → HasShape t k.dst.ty u → s.results ≡ helper_results k u

-- ---- uses

-- Values of these shapes are moved by a helper between such places, in a setting that they fit. What a function is asked for says no more of it.
pub record UsesHelper (M : WasmModule) (p : ImportPlaces) (a : AskedHelper) (x u : Shape) (src : From) (dst : To) (from to : LiftLowerOptions) : Type 0 where
  pub from_shape : HasShape a.tables a.key.src.ty x
  pub to_shape : HasShape a.tables a.key.dst.ty u
  pub from_counted : IsCounted x
  pub to_counted : IsCounted u
  pub moves : CanMove x u
  pub found : IsFoundAt a.key.src src
  pub put : IsPutAt a.key.dst dst
  pub rooms : Rooms
  pub locals : List ValType
  pub fits : FitsShapes (sides_of_helper a) (setting_of (sides_of_helper a) from to rooms M p locals) x u src dst

-- ---- the body as it is written

-- Code of a function whose first locals hold the arguments moves a value that such a use brings, and leaves what it gives on the stack. Its
-- operands have their types.
pub record DoesHelper (a : AskedHelper) (x u : Shape) (src : From) (dst : To) (from to : LiftLowerOptions) (M : WasmModule) (p : ImportPlaces) (locals : List ValType) (code : List Instr) : Type 0 where
  pub does : (rooms : Rooms) (callers : List ValType) (s : Source) (d : Target) → IsSourceOf src s → IsTargetOf dst d
      → SourceHasRoom a.key.src.opts.linear.memory64 (bytes_of_shape (width_of_side from) x) s → TargetHasRoom a.key.dst.opts.linear.memory64 (bytes_of_shape (width_of_side to) u) d
      → (ls : Locals) → held_types ls ≡ locals → AreHeld ls (slots_from 0 (helper_params a.key x)) (args_of_source a.key.src.opts.linear.memory64 s ++ args_of_target a.key.dst.opts.linear.memory64 d)
      → Does M p Onward 0 484 [] ls code (move (transfer (setting_of (sides_of_helper a) from to rooms M p callers)) x u (source_as_i64 s) (flat_target (flats_given a.key.dst.opts.linear.memory64 u) d)) (given_out d)
      (λ vs ls'. AreGiven (flats_given a.key.dst.opts.linear.memory64 u) d vs)
  pub typed : IsTyped M locals [] code [] (OnStack (reverse (helper_results a.key u)))

-- a helper as code over these tables asks for it
abbrev pub asked_as : Tables → (debug concurrency : Bool) → Helper × ℕ → AskedHelper
asked_as t debug concurrency e = record { tables = t; key = e.0; number = e.1; debug = debug; concurrency = concurrency }

-- What it asks for itself is of lower types.
abbrev pub AreLower : Tables → Helper → List AskedHelper → Type 0
AreLower t k asks = AllByRecursion (λ a. height t a.key.dst.ty < height t k.dst.ty) asks

-- With such fuel the code of a helper asks for the helpers of the keys that the translation of its types asks for, along every route between its places.
pub record AsksAsHelper (t : Tables) (debug concurrency : Bool) (fuel : ℕ) (k : Helper) (asks : List AskedHelper) : Type 0 where
  pub along : (r : Route) (x u : Shape) → HasShape t k.src.ty x → HasShape t k.dst.ty u → IsCounted x → IsCounted u → CanMove x u → r.from.place ≡ place_of_location k.src.loc → r.to.place ≡ place_of_location k.dst.loc
      → AllZip (IsKeyOf t (sides_between k debug concurrency) r) asks (helper_asks fuel (record { source = x; destination = u; route = r }))

-- The body of a helper was written, with its locals, by its core signature.
pub record WroteHelperBody (t : Tables) (debug concurrency : Bool) (k : Helper) (s : Signature) (before : Fuel) (old new : Writer) : Type 0 where
  pub imports : Extended old.sections new.sections
  pub once : AreOnce old.sections → AreOnce new.sections
  pub brought : Brought old.sections new.sections new.code.items
  pub params : Grows s.params (types_of_locals new)
  pub numbers : AreNumberTypes (s.params ++ s.results) → AreNumberTypes (types_of_locals new)
  pub asks : List AskedHelper
  pub asked : AsksFor t debug concurrency asks old.sections new.sections
  pub lower : AreLower t k asks
  pub named : defined_named new.code.items ≡ map (λ (a : AskedHelper). a.number) asks
  pub keys : IsFullFuel before → AsksAsHelper t debug concurrency before.initial k asks
  pub from_small : AreSmall t k.src.ty k.src.opts.linear.memory64
  pub to_small : AreSmall t k.dst.ty k.dst.opts.linear.memory64
  pub is : (number : ℕ) (M : WasmModule) (p : ImportPlaces) → Serves M p new.sections → HasHelpers M p asks → (x u : Shape) (src : From) (dst : To) (from to : LiftLowerOptions)
      → UsesHelper M p (asked_as t debug concurrency (k, number)) x u src dst from to → s.params ≡ helper_params k x → s.results ≡ helper_results k u
      → DoesHelper (asked_as t debug concurrency (k, number)) x u src dst from to M p (types_of_locals new) new.code.items

-- ---- the function

-- A module has a helper that can be used: its function moves values, and is typed.
pub record HasTypedHelper (M : WasmModule) (p : ImportPlaces) (a : AskedHelper) (f : WasmFunc) : Type 0 where
  pub has : HasHelper M p a
  pub typed : (x u : Shape) (src : From) (dst : To) (from to : LiftLowerOptions) → UsesHelper M p a x u src dst from to → is_typed_function M f ≡ true

-- The function of a helper was written over a module, by which its type was declared before. It is that of the helper in every later module that has the
-- helpers that its own code asks for, whichever number it has there.
pub record WroteHelper (t : Tables) (debug concurrency : Bool) (fuel : ℕ) (k : Helper) (old new : ModuleSoFar) (f : WasmFunc) : Type 0 where
  pub ty : FuncType
  pub declared : ModuleSoFar
  pub declares : HasType old declared ty
  pub brought : Brought declared new f.body
  pub imports : Extended old new
  pub once : AreOnce old → AreOnce new
  pub asks : List AskedHelper
  pub asked : AsksFor t debug concurrency asks old new
  pub lower : AreLower t k asks
  pub named : defined_named f.body ≡ map (λ (a : AskedHelper). a.number) asks
  pub keys : AsksAsHelper t debug concurrency fuel k asks
  pub from_small : AreSmall t k.src.ty k.src.opts.linear.memory64
  pub to_small : AreSmall t k.dst.ty k.dst.opts.linear.memory64
  pub is : (number : ℕ) (M : WasmModule) (p : ImportPlaces) → Serves M p new → Grows new.types M.types → slice_get M.funcs number ≡ Some f → HasHelpers M p asks → HasTypedHelper M p (asked_as t debug concurrency (k, number)) f

-- ---- the helpers of a module

-- A helper's function stands in a module, and was written over a state from which the module goes on.
pub record HasFunctionOf (t : Tables) (debug concurrency : Bool) (fuel : ℕ) (s : ModuleSoFar) (e : Helper × ℕ) : Type 0 where
  pub function : WasmFunc
  pub there : slice_get s.functions e.1 ≡ Some function
  pub before : ModuleSoFar
  pub written : ModuleSoFar
  pub wrote : WroteHelper t debug concurrency fuel e.0 before written function
  pub later : Extended written s

-- Each helper can be written, and its function has a number.
pub record AreWritable (t : Tables) (debug concurrency : Bool) (s : ModuleSoFar) : Type 0 where
  pub all : (e : Helper × ℕ) → Contains s.helpers e → CanBeWritten t debug concurrency s e.0
  pub below : (e : Helper × ℕ) → Contains s.helpers e → e.1 < next_number s

-- Each helper that was asked for has its function, and no function is numbered ahead. It holds between adapters.
pub record HelpersAreThere (t : Tables) (debug concurrency : Bool) (fuel : ℕ) (s : ModuleSoFar) : Type 0 where
  pub all : (e : Helper × ℕ) → Contains s.helpers e → HasFunctionOf t debug concurrency fuel s e
  pub writable : AreWritable t debug concurrency s
  pub numbered : s.numbered ≤ length s.functions

-- ---- helpers that wait

-- what a helper's target gets from the stack, by its type
abbrev pub results_of_helper : Tables → HelperType → List ValType → Type 0
results_of_helper t h results = (u : Shape) → HasShape t h.ty u → results ≡ results_at h.loc h.opts.linear.memory64 u

-- The helper of a place was written, its function put into its place, and those that it is the first to ask for wait behind the others, with places behind
-- those before.
pub record IsTurn (t : Tables) (debug concurrency : Bool) (fuel : ℕ) (first place : ℕ) (old new : ModuleSoFar) (waiting still : List ℕ) (before after : List WasmFunc) : Type 0 where
  pub entry : Helper × ℕ
  pub at : slice_get old.helpers place ≡ Some entry
  pub function : WasmFunc
  pub wrote : WroteHelper t debug concurrency fuel entry.0 old new function
  pub count : first + length after ≡ length new.helpers
  pub small : length new.helpers < 2 ^ 64
  pub there : slice_get after (place - first) ≡ Some function
  pub others : (k : ℕ) (f : WasmFunc) → (k ≡ place - first → ⊥) → slice_get before k ≡ Some f → slice_get after k ≡ Some f
  pub waits : still ≡ waiting ++ range_with_len (length old.helpers) (length new.helpers - length old.helpers)

-- A helper was written in a state from which this one goes on.
pub record WasWritten (t : Tables) (debug concurrency : Bool) (fuel : ℕ) (s : ModuleSoFar) (k : Helper) (f : WasmFunc) : Type 0 where
  pub before : ModuleSoFar
  pub written : ModuleSoFar
  pub wrote : WroteHelper t debug concurrency fuel k before written f
  pub later : Extended written s
  pub kept : KeepsDefined written s

-- Helpers are written in this order, each with its place, until the module is such: the last of those that wait is written, and those that it is the first
-- to ask for wait behind the others.
pub data AreWrittenInTurn (t : Tables) (debug concurrency : Bool) (fuel : ℕ) (end : ModuleSoFar) : ModuleSoFar → (waiting : List ℕ) → (order : List (ℕ × WasmFunc)) → Type 0 where
  NoneWaits : AreWrittenInTurn t debug concurrency fuel end end [] []
  OneIsNext : (s s' : ModuleSoFar) (waiting : List ℕ) (place : ℕ) (e : Helper × ℕ) (f : WasmFunc) (order : List (ℕ × WasmFunc)) → slice_get s.helpers place ≡ Some e → WroteHelper t debug concurrency fuel e.0 s s' f
      → AreWrittenInTurn t debug concurrency fuel end s' (waiting ++ range_with_len (length s.helpers) (length s'.helpers - length s.helpers)) order
      → AreWrittenInTurn t debug concurrency fuel end s (waiting ++ place ∷ []) ((place, f) ∷ order)

-- places that rise, from one on and below another one
abbrev pub IsRising : (low : ℕ) → List ℕ → (top : ℕ) → Type 0
IsRising low [] top = Unit {0}
IsRising low (k ∷ ks) top = (low ≤ k) × (k < top) × IsRising (suc k) ks top

-- a helper that was written, in its place, waits no more
abbrev pub IsInPlace : (first top : ℕ) → (waiting : List ℕ) → (written : List WasmFunc) → ℕ × WasmFunc → Type 0
IsInPlace first top waiting written e = (first ≤ e.0) × (e.0 < top) × (slice_get written (e.0 - first) ≡ Some e.1) × (Contains waiting e.0 → ⊥)

-- Helpers from a place on are being written: those of these places wait, and each other one was written, into its place.
pub record AreBeingWritten (t : Tables) (debug concurrency : Bool) (fuel : ℕ) (first : ℕ) (start s : ModuleSoFar) (waiting : List ℕ) (written : List WasmFunc) : Type 0 where
  pub imports : Extended start s
  pub kept : KeepsDefined start s
  pub once : AreOnce start → AreOnce s
  pub asks : List AskedHelper
  pub asked : AsksFor t debug concurrency asks start s
  pub writable : AreWritable t debug concurrency s
  pub count : first + length written ≡ length s.helpers
  pub small : length s.helpers < 2 ^ 64
  pub rising : IsRising first waiting (length s.helpers)
  pub order : List (ℕ × WasmFunc)
  pub in_turn : (end : ModuleSoFar) (rest : List (ℕ × WasmFunc)) → AreWrittenInTurn t debug concurrency fuel end s waiting rest
      → AreWrittenInTurn t debug concurrency fuel end start (range_with_len first (length start.helpers - first)) (order ++ rest)
  pub placed : AllByRecursion (IsInPlace first (length s.helpers) waiting written) order
  pub as_many : length order + length waiting ≡ length written
  pub done : (k : ℕ) (e : Helper × ℕ) → first ≤ k → slice_get s.helpers k ≡ Some e → Contains waiting k ⊎ ((f : WasmFunc) × (slice_get written (k - first) ≡ Some f) × WasWritten t debug concurrency fuel s e.0 f)

-- The helpers from a place on were written, in turn, each into its place. The module defines and exports what it did.
pub record WroteHelpers (t : Tables) (debug concurrency : Bool) (fuel : ℕ) (first : ℕ) (old new : ModuleSoFar) (written : List WasmFunc) : Type 0 where
  pub imports : Extended old new
  pub kept : KeepsDefined old new
  pub once : AreOnce old → AreOnce new
  pub asks : List AskedHelper
  pub asked : AsksFor t debug concurrency asks old new
  pub writable : AreWritable t debug concurrency new
  pub count : first + length written ≡ length new.helpers
  pub order : List (ℕ × WasmFunc)
  pub in_turn : AreWrittenInTurn t debug concurrency fuel new old (range_with_len first (length old.helpers - first)) order
  pub placed : AllByRecursion (λ (e : ℕ × WasmFunc). slice_get written (e.0 - first) ≡ Some e.1) order
  pub as_many : length order ≡ length written
  pub all : (k : ℕ) (e : Helper × ℕ) → first ≤ k → slice_get new.helpers k ≡ Some e → (f : WasmFunc) × (slice_get written (k - first) ≡ Some f) × WasWritten t debug concurrency fuel new e.0 f

-- Their functions stand behind those of the module.
pub record CompiledHelpers (t : Tables) (debug concurrency : Bool) (fuel : ℕ) (first : ℕ) (old new : ModuleSoFar) : Type 0 where
  pub last : ModuleSoFar
  pub written : List WasmFunc
  pub wrote : WroteHelpers t debug concurrency fuel first old last written
  pub is : new ≡ record last { functions = last.functions ++ written }
