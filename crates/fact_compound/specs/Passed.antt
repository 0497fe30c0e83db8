-- What the functions that move parameters and results ensure.
use Rattle.std.specs.Prelude.{◌≡◌, ℕ, ◌≤◌, Bool, true, false, ◌++◌, List, [], is_some}
use Rattle.fact_wasm.specs.declared.types.ValType.{ValType}
use Rattle.fact_wasm.specs.declared.instr.Instr.{Instr}
use Rattle.fact_wasm.specs.declared.module.WasmModule.{WasmModule}
use Rattle.fact_entity.specs.declared.id.Id.{Id}
use Rattle.fact_entity.specs.declared.table.TypeTuples.{TypeTuples}
use Rattle.fact_types.specs.Functions.{HasSignature}
use Rattle.fact_types.specs.Shapes.{Shape}
use Rattle.fact_types.specs.Signatures.{flat_values, lift_results_limit, lower_limit}
use Rattle.fact_types.specs.Tables.{Tables, HasShape}
use Rattle.fact_types.specs.Tuples.{tuple_of}
use Rattle.fact_types.specs.declared.interface.InterfaceType.TheVariants as ty
use Rattle.fact_actions.specs.Adapters.{lowered_flats}
use Rattle.fact_actions.specs.Running.{ImportPlaces}
use Rattle.fact_code_laws.specs.Places.{Slot}
use Rattle.fact_emit.specs.Asked.{AskedHelper}
use Rattle.fact_emit.specs.Emits.{Grew, Emits, EmitsAsking, GrewAsking}
use Rattle.fact_emit.specs.Fitting.{MovesTuple}
use Rattle.fact_emit.specs.Writers.{taken_in}
use Rattle.fact_emit.specs.declared.places.LinearMemory.{LinearMemory}
use Rattle.fact_emit.specs.declared.places.Sides.{Sides}
use Rattle.fact_emit.specs.declared.writer.Writer.{Writer}
use Rattle.fact_kinds.specs.declared.fuel.Fuel.{Fuel}
use Rattle.fact_compound.specs.Asks.{AreNewAsked, AsksFor}
use Rattle.fact_compound.specs.Described.{CanMoveTuple, linear_of}
use Rattle.fact_compound.specs.Passing.{last_local, tuple_from, tuple_to, tuple_size, tuple_align, AsksTuple, ChecksTuple}
use Rattle.fact_compound.specs.Translated.{TranslatesTuple}
use Rattle.fact_compound.specs.declared.adapters.AdapterData.{AdapterData}
use Rattle.fact_compound.specs.declared.asyncs.AsyncPart.{AsyncPart}
use Rattle.fact_compound.specs.declared.asyncs.AsyncPart.TheVariants as part
use Rattle.fact_compound.specs.AsyncParts.{PartSlots}

-- the two sides of parameters, and those of results
abbrev pub params_sides : AdapterData → (debug concurrency : Bool) → Sides
params_sides d debug concurrency = record { from = (linear_of d.lower); to = (linear_of d.lift); debug = debug; concurrency = concurrency }

abbrev pub results_sides : AdapterData → (debug concurrency : Bool) → Sides
results_sides d debug concurrency = record { from = (linear_of d.lift); to = (linear_of d.lower); debug = debug; concurrency = concurrency }

-- Code that moves parameters, or results, asks for what their translation asks for, and leaves such fuel.
abbrev pub TranslatesParams : Tables → AdapterData → (debug concurrency : Bool) → (before after : Fuel) → List AskedHelper → Type 0
TranslatesParams t d debug concurrency before after asks =
    (ps rs qs ss : List Shape) → HasSignature t d.lower.ty ps rs → HasSignature t d.lift.ty qs ss → CanMoveTuple ps qs
    → TranslatesTuple t (params_sides d debug concurrency) (is_some (flat_values (linear_of d.lower).memory64 (lower_limit d.lower.options.async_) ps)) (is_some (flat_values (linear_of d.lift).memory64 16 qs)) ps qs before after asks

abbrev pub TranslatesResults : Tables → AdapterData → (debug concurrency : Bool) → (before after : Fuel) → List AskedHelper → Type 0
TranslatesResults t d debug concurrency before after asks =
    (ps rs qs ss : List Shape) → HasSignature t d.lower.ty ps rs → HasSignature t d.lift.ty qs ss → CanMoveTuple ss rs
    → TranslatesTuple t (results_sides d debug concurrency) (is_some (flat_values (linear_of d.lift).memory64 (lift_results_limit d.lift.options.async_) ss)) (is_some (lowered_flats d.lower.options.async_ (linear_of d.lower).memory64 rs)) ss rs before after asks

-- the check of the lower side's area, the request of the lift side's, and the move
pub record MovesParams (d : AdapterData) (debug concurrency : Bool) (params core : List Slot) (taken : ℕ → Bool) (from to : List Shape) (M : WasmModule) (p : ImportPlaces) (locals : List ValType) (code : List Instr) : Type 0 where
  pub lower_check : List Instr
  pub lift_request : List Instr
  pub move : List Instr
  pub is : code ≡ lower_check ++ (lift_request ++ move)
  pub lower_size : tuple_size (linear_of d.lower).memory64 from ≤ 4294967295
  pub lift_size : tuple_size (linear_of d.lift).memory64 to ≤ 4294967295
  pub checks_lower : ChecksTuple (linear_of d.lower) taken (is_some (flat_values (linear_of d.lower).memory64 (lower_limit d.lower.options.async_) from)) (last_local params) (tuple_size (linear_of d.lower).memory64 from) (tuple_align (linear_of d.lower).memory64 from) M p locals lower_check
  pub asks_lift : AsksTuple concurrency (linear_of d.lift) taken (is_some (flat_values (linear_of d.lift).memory64 16 to)) (last_local core) (tuple_size (linear_of d.lift).memory64 to) (tuple_align (linear_of d.lift).memory64 to) M p locals lift_request
  pub moves : MovesTuple (params_sides d debug concurrency) (tuple_from (linear_of d.lower) (is_some (flat_values (linear_of d.lower).memory64 (lower_limit d.lower.options.async_) from)) params) (tuple_to (linear_of d.lift) (is_some (flat_values (linear_of d.lift).memory64 16 to)) core core) taken (tuple_of from) (tuple_of to) M p locals move

-- Code was written that moves parameters, whatever the results are.
pub record MovedParams (t : Tables) (d : AdapterData) (debug concurrency : Bool) (params core : List Slot) (before after : Fuel) (old new : Writer) : Type 0 where
  pub asks : List AskedHelper
  pub translated : TranslatesParams t d debug concurrency before after asks
  pub grew : GrewAsking asks old new
  pub asked : AsksFor t debug concurrency asks old.sections new.sections
  pub emits : (ps rs qs ss : List Shape) → HasSignature t d.lower.ty ps rs → HasSignature t d.lift.ty qs ss → CanMoveTuple ps qs → EmitsAsking asks old new (MovesParams d debug concurrency params core (taken_in old) ps qs)

-- the move of parameters, or no code where they are handed on as they are
abbrev pub ParamsCode : (passed : Bool) → AdapterData → (debug concurrency : Bool) → (params core : List Slot) → (ℕ → Bool) → (ps qs : List Shape) → WasmModule → ImportPlaces → List ValType → List Instr → Type 0
ParamsCode false d debug concurrency params core taken ps qs M p locals code = MovesParams d debug concurrency params core taken ps qs M p locals code
ParamsCode true d debug concurrency params core taken ps qs M p locals code = code ≡ []

-- It was written, whatever the results are.
pub record PassedParams (t : Tables) (d : AdapterData) (debug concurrency passed : Bool) (params core : List Slot) (before after : Fuel) (old new : Writer) : Type 0 where
  pub asks : List AskedHelper
  pub translated : passed ≡ false → TranslatesParams t d debug concurrency before after asks
  pub none : passed ≡ true → (asks ≡ []) × (after ≡ before)
  pub grew : GrewAsking asks old new
  pub asked : AsksFor t debug concurrency asks old.sections new.sections
  pub emits : (ps rs qs ss : List Shape) → HasSignature t d.lower.ty ps rs → HasSignature t d.lift.ty qs ss → CanMoveTuple ps qs → EmitsAsking asks old new (ParamsCode passed d debug concurrency params core (taken_in old) ps qs)

-- The area of a tuple is checked, where its values are not flat. It has at most 4,294,967,295 bytes.
pub record CheckedTuple (t : Tables) (tuple : Id TypeTuples) (m : LinearMemory) (flat : Bool) (address : ℕ) (old new : Writer) : Type 0 where
  pub grew : Grew old new
  pub none_asked : AreNewAsked [] old.sections new.sections
  pub size : (ss : List Shape) → HasShape t (ty.Tuple tuple) (tuple_of ss) → tuple_size m.memory64 ss ≤ 4294967295
  pub emits : (ss : List Shape) → HasShape t (ty.Tuple tuple) (tuple_of ss) → Emits old new (ChecksTuple m (taken_in old) flat address (tuple_size m.memory64 ss) (tuple_align m.memory64 ss))

-- A new area is asked for, where they are not.
pub record AskedTuple (t : Tables) (tuple : Id TypeTuples) (concurrency : Bool) (m : LinearMemory) (flat : Bool) (address : ℕ) (old new : Writer) : Type 0 where
  pub grew : Grew old new
  pub none_asked : AreNewAsked [] old.sections new.sections
  pub size : (ss : List Shape) → HasShape t (ty.Tuple tuple) (tuple_of ss) → tuple_size m.memory64 ss ≤ 4294967295
  pub emits : (ss : List Shape) → HasShape t (ty.Tuple tuple) (tuple_of ss) → Emits old new (AsksTuple concurrency m (taken_in old) flat address (tuple_size m.memory64 ss) (tuple_align m.memory64 ss))

-- the checks of both areas, the callee's first, and the move
pub record MovesResults (d : AdapterData) (debug concurrency : Bool) (given results args : List Slot) (taken : ℕ → Bool) (from to : List Shape) (M : WasmModule) (p : ImportPlaces) (locals : List ValType) (code : List Instr) : Type 0 where
  pub lift_check : List Instr
  pub lower_check : List Instr
  pub move : List Instr
  pub is : code ≡ lift_check ++ (lower_check ++ move)
  pub checks_lift : ChecksTuple (linear_of d.lift) taken (is_some (flat_values (linear_of d.lift).memory64 (lift_results_limit d.lift.options.async_) from)) (last_local given) (tuple_size (linear_of d.lift).memory64 from) (tuple_align (linear_of d.lift).memory64 from) M p locals lift_check
  pub checks_lower : ChecksTuple (linear_of d.lower) taken (is_some (lowered_flats d.lower.options.async_ (linear_of d.lower).memory64 to)) (last_local args) (tuple_size (linear_of d.lower).memory64 to) (tuple_align (linear_of d.lower).memory64 to) M p locals lower_check
  pub moves : MovesTuple (results_sides d debug concurrency) (tuple_from (linear_of d.lift) (is_some (flat_values (linear_of d.lift).memory64 (lift_results_limit d.lift.options.async_) from)) given) (tuple_to (linear_of d.lower) (is_some (lowered_flats d.lower.options.async_ (linear_of d.lower).memory64 to)) results args) taken (tuple_of from) (tuple_of to) M p locals move

-- Code was written that moves results, whatever the parameters are. The tuples of the results have at most 4,294,967,295 bytes.
pub record MovedResults (t : Tables) (d : AdapterData) (debug concurrency : Bool) (given results args : List Slot) (before after : Fuel) (old new : Writer) : Type 0 where
  pub asks : List AskedHelper
  pub translated : TranslatesResults t d debug concurrency before after asks
  pub grew : GrewAsking asks old new
  pub lift_size : (qs ss : List Shape) → HasSignature t d.lift.ty qs ss → tuple_size (linear_of d.lift).memory64 ss ≤ 4294967295
  pub lower_size : (ps rs : List Shape) → HasSignature t d.lower.ty ps rs → tuple_size (linear_of d.lower).memory64 rs ≤ 4294967295
  pub asked : AsksFor t debug concurrency asks old.sections new.sections
  pub emits : (ps rs qs ss : List Shape) → HasSignature t d.lower.ty ps rs → HasSignature t d.lift.ty qs ss → CanMoveTuple ss rs → EmitsAsking asks old new (MovesResults d debug concurrency given results args (taken_in old) ss rs)

-- ---- the functions of async adapters that move values

-- Code was written that moves parameters from these values to locals of what is given, or results, behind which the return pointer may stand.
abbrev pub MovedPart : Tables → AdapterData → (debug concurrency : Bool) → AsyncPart → PartSlots → (before after : Fuel) → (old new : Writer) → Type 0
MovedPart t d debug concurrency part.Start l before after old new = MovedParams t d debug concurrency l.values l.given before after old new
MovedPart t d debug concurrency part.Return l before after old new = MovedResults t d debug concurrency l.values l.given l.args before after old new
