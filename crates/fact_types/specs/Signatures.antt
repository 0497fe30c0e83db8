-- Canonical core signatures: the parameters and results of a function that is lowered or lifted.
-- Component Model, canonical ABI, "Flattening" (`flatten_functype`).
use Rattle.std.specs.Prelude.{ℕ, List, [], ◌∷◌, ◌++◌, map, Option, Some, None, Bool, true, false}
use Rattle.fact_wasm.specs.declared.types.ValType.{ValType}
use Rattle.fact_wasm.specs.declared.types.ValType.TheVariants as V
use Rattle.fact_types.specs.declared.flats.FlatType.{FlatType}
use Rattle.fact_types.specs.declared.signature.Signature.{Signature}
use Rattle.fact_types.specs.declared.signature.SideSig.{SideSig}
use Rattle.fact_types.specs.declared.extents.MemoryWidth.{MemoryWidth}
use Rattle.fact_types.specs.declared.extents.MemoryWidth.TheVariants.{Memory32, Memory64}
use Rattle.fact_types.specs.Flat.{value_type}
use Rattle.fact_types.specs.FlatShapes.{pointer, flat_all}
use Rattle.fact_types.specs.Shapes.{Shape}

abbrev pub width : Bool → MemoryWidth
width false = Memory32
width true = Memory64

-- An address of the side's memory.
abbrev pub address : Bool → ValType
address memory64 = value_type (pointer (width memory64))

-- The bytes of an address or a length.
abbrev pub pointer_bytes : MemoryWidth → ℕ
pointer_bytes Memory32 = 4
pointer_bytes Memory64 = 8

-- The value types of flat types, where there are some.
abbrev pub value_types_of : Option (List FlatType) → Option (List ValType)
value_types_of None = None
value_types_of (Some fs) = Some (map value_type fs)

-- The value types of several types, none where they are more than a limit.
abbrev pub flat_values : Bool → ℕ → List Shape → Option (List ValType)
flat_values memory64 limit ss = value_types_of (flat_all (width memory64) limit ss)

-- Flat values, or else others.
abbrev pub flat_or : List ValType → Option (List ValType) → List ValType
flat_or others None = others
flat_or others (Some vs) = vs

-- Nothing where there are flat values, and else others.
abbrev pub unless_flat : List ValType → Option (List ValType) → List ValType
unless_flat others None = others
unless_flat others (Some vs) = []

-- Parameters that are flat up to a limit, and else a pointer to them.
abbrev pub flat_params : Bool → ℕ → List Shape → List ValType
flat_params memory64 limit ps = flat_or (address memory64 ∷ []) (flat_values memory64 limit ps)

-- A sync lowered function: parameters flat up to 16, results flat up to 1 or written behind one more pointer.
abbrev pub sync_lower : Bool → List Shape → List Shape → Signature
sync_lower memory64 ps rs = record {
  params = flat_params memory64 16 ps ++ unless_flat (address memory64 ∷ []) (flat_values memory64 1 rs);
  results = flat_or [] (flat_values memory64 1 rs);
}

-- A sync lifted function: parameters flat up to 16, results flat up to 1 or behind a pointer.
abbrev pub sync_lift : Bool → List Shape → List Shape → Signature
sync_lift memory64 ps rs = record {
  params = flat_params memory64 16 ps;
  results = flat_or (address memory64 ∷ []) (flat_values memory64 1 rs);
}

-- One more pointer where there are results.
abbrev pub return_pointer : Bool → List Shape → List ValType
return_pointer memory64 [] = []
return_pointer memory64 (r ∷ rs) = address memory64 ∷ []

-- An async lowered function: parameters flat up to 4, results behind a pointer; its result is the state of the call.
abbrev pub async_lower : Bool → List Shape → List Shape → Signature
async_lower memory64 ps rs = record {
  params = flat_params memory64 4 ps ++ return_pointer memory64 rs;
  results = V.I32 ∷ [];
}

abbrev pub callback_result : Bool → List ValType
callback_result true = V.I32 ∷ []
callback_result false = []

-- An async lifted function: parameters flat up to 16; with a callback, its result says what to wait for.
abbrev pub async_lift : Bool → Bool → List Shape → List Shape → Signature
async_lift callback memory64 ps rs = record {
  params = flat_params memory64 16 ps;
  results = callback_result callback;
}

-- The signature of a side over the shapes of its function's parameters and results: of the side that lowers the function,
-- and of the side that lifts it.
abbrev pub lower_by : Bool → Bool → List Shape → List Shape → Signature
lower_by true memory64 ps rs = async_lower memory64 ps rs
lower_by false memory64 ps rs = sync_lower memory64 ps rs

abbrev pub lift_by : Bool → Bool → Bool → List Shape → List Shape → Signature
lift_by true callback memory64 ps rs = async_lift callback memory64 ps rs
lift_by false callback memory64 ps rs = sync_lift memory64 ps rs

abbrev pub lower_signature : SideSig → (params results : List Shape) → Signature
lower_signature side ps rs = lower_by side.async_ side.memory64 ps rs

abbrev pub lift_signature : SideSig → (params results : List Shape) → Signature
lift_signature side ps rs = lift_by side.async_ side.callback side.memory64 ps rs

-- ---- the start and return functions of an async adapter, over the shapes of the sides that lower and lift

-- How many flat parameters a side that lowers takes.
abbrev pub lower_limit : Bool → ℕ
lower_limit true = 4
lower_limit false = 16

-- How many flat results a side that lifts gives.
abbrev pub lift_results_limit : Bool → ℕ
lift_results_limit true = 16
lift_results_limit false = 1

-- `[async-start]` takes the parameters of the lower side, without its return pointer, and gives those of the lift side.
abbrev pub async_start_signature : (lower lift : SideSig) → (lower_params lift_params : List Shape) → Signature
async_start_signature lower lift lower_ps lift_ps = record {
  params = flat_params lower.memory64 (lower_limit lower.async_) lower_ps;
  results = flat_params lift.memory64 16 lift_ps;
}

-- The return pointer of the lower side, where it has one.
abbrev pub lower_pointer : Bool → Bool → List Shape → List ValType
lower_pointer true memory64 rs = return_pointer memory64 rs
lower_pointer false memory64 rs = unless_flat (address memory64 ∷ []) (flat_values memory64 1 rs)

-- The flat types of the results of a side that lowers, none where they stand behind a pointer: up to one of a sync side, and of an
-- async one where there are no results.
abbrev pub lowered_flat_types : (async_side : Bool) → MemoryWidth → List Shape → Option (List FlatType)
lowered_flat_types false w ts = flat_all w 1 ts
lowered_flat_types true w [] = Some []
lowered_flat_types true w (t ∷ ts) = None

-- What the lower side gets as core results.
abbrev pub lower_results : Bool → Bool → List Shape → List ValType
lower_results true memory64 rs = []
lower_results false memory64 rs = flat_or [] (flat_values memory64 1 rs)

-- `[async-return]` takes the results of the lift side, flat or behind a pointer, and then the return pointer of the lower
-- side; it gives the flat results of a sync lower side.
abbrev pub async_return_signature : (lower lift : SideSig) → (lower_types lift_types : List Shape) → Signature
async_return_signature lower lift lower_rs lift_rs = record {
  params = flat_params lift.memory64 (lift_results_limit lift.async_) lift_rs ++ lower_pointer lower.async_ lower.memory64 lower_rs;
  results = lower_results lower.async_ lower.memory64 lower_rs;
}
