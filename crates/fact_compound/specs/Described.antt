-- What the data that a sync adapter's code is written by say of the adapter, and what that code asks of a module.
use Rattle.std.specs.Prelude.{◌≡◌, ◌<◌, IfSome, length, Bool, true, false, ◌||◌, List, [], Option, Some, None, is_some, slice_get}
use Rattle.std.specs.List.{AllByRecursion}
use Rattle.fact_wasm.specs.declared.module.WasmModule.{WasmModule}
use Rattle.fact_wasm.specs.declared.types.ValType.{ValType}
use Rattle.fact_entity.specs.declared.id.Id.{Id}
use Rattle.fact_entity.specs.declared.table.Funcs.{Funcs}
use Rattle.fact_entity.specs.declared.table.TypeFuncs.{TypeFuncs}
use Rattle.fact_types.specs.Adapters.{Side, LinkedAdapter, is_wide}
use Rattle.fact_types.specs.FlatShapes.{AreCounted}
use Rattle.fact_types.specs.Functions.{HasSignature}
use Rattle.fact_types.specs.PointerPairs.{have_pointer_pair}
use Rattle.fact_types.specs.Shapes.{Shape}
use Rattle.fact_types.specs.Signatures.{flat_values, lift_results_limit, lower_limit}
use Rattle.fact_types.specs.Tables.{Tables}
use Rattle.fact_types.specs.Tuples.{tuple_members}
use Rattle.fact_types.specs.Valid.{IsValid}
use Rattle.fact_types.specs.declared.signature.SideSig.{SideSig}
use Rattle.fact_types.specs.declared.import.Import.TheVariants as import
use Rattle.fact_types.specs.declared.outside.CoreDef.{CoreDef}
use Rattle.fact_actions.specs.Adapters.{AdapterTunables, flat_results, lift_signature_of}
use Rattle.fact_actions.specs.Running.{ImportPlaces}
use Rattle.fact_actions.specs.Sides.{LiftLowerOptions, options_of}
use Rattle.fact_code_laws.specs.Knows.{KnowsFunction, KnowsFlags}
use Rattle.fact_emit.specs.Areas.{IsLinearMemoryOf}
use Rattle.fact_emit.specs.Movable.{CanMoveFields}
use Rattle.fact_emit.specs.Options.{linear_of_options}
use Rattle.fact_emit.specs.declared.places.LinearMemory.{LinearMemory}
use Rattle.fact_emit.specs.Requests.{IsReallocImported, IsReallocOf, ServesLists}
use Rattle.fact_emit.specs.StringPieces.{IsMemoryImported, IsMemoryWide}
use Rattle.fact_emit.specs.States.{ModuleSoFar, functions_of}
use Rattle.fact_compound.specs.declared.adapters.AdapterOptions.{AdapterOptions}
use Rattle.fact_compound.specs.declared.adapters.AdapterData.{AdapterData}

-- ---- memories

-- a side's memory as code uses it
abbrev pub linear_of : AdapterOptions → LinearMemory
linear_of o = linear_of_options o.options

-- The memories of both sides, where they have some, have addresses of the widths of the data.
pub record AreOptionsWide (d : AdapterData) (s : ModuleSoFar) : Type 0 where
  pub lift : IsMemoryWide (linear_of d.lift) s
  pub lower : IsMemoryWide (linear_of d.lower) s

-- The reallocs and the memories of both sides, where they have some, are imported, and so are the memories with their widths.
pub record AreOptionsImported (d : AdapterData) (s : ModuleSoFar) : Type 0 where
  pub lift : IsReallocImported (linear_of d.lift) s
  pub lower : IsReallocImported (linear_of d.lower) s
  pub lift_memory : IsMemoryImported (linear_of d.lift) s
  pub lower_memory : IsMemoryImported (linear_of d.lower) s
  pub wide : AreOptionsWide d s

-- What an adapter's data name is there: both function types are live, and the callee, the post-return where there is one, and the
-- reallocs and memories of both sides are imported.
pub record CanBeCompiled (t : Tables) (d : AdapterData) (s : ModuleSoFar) : Type 0 where
  pub lower_live : d.lower.ty.number < length t.functions
  pub lift_live : d.lift.ty.number < length t.functions
  pub callee : d.callee.number < length (functions_of s)
  pub options_imported : AreOptionsImported d s
  pub post_return : IfSome d.lift.post_return (λ (f : Id Funcs). f.number < length (functions_of s))

-- ---- sides

-- what the core signature of a side hangs on
abbrev pub side_sig : AdapterOptions → SideSig
side_sig o = record { ty = o.ty; async_ = o.options.async_; callback = is_some o.options.callback; memory64 = o.options.linear.memory64 }

-- a function type is marked as async
abbrev pub is_marked_type : Tables → Id TypeFuncs → Bool
is_marked_type t i = elim (slice_get t.functions i.number) [ None ↦ false | Some f ↦ f.async_ ]

-- the data are of an async adapter: one of its sides is async, or a function type is marked so
abbrev pub is_async_data : Tables → AdapterData → Bool
is_async_data t d = (d.lift.options.async_ || d.lower.options.async_) || (is_marked_type t d.lift.ty || is_marked_type t d.lower.ty)

-- ---- when the code is written

-- a side: its function type, the width of its memory's addresses, and whether it is async
pub record DescribesSide (t : Tables) (o : AdapterOptions) (s : Side) : Type 0 where
  pub signature : HasSignature t o.ty s.params s.results
  pub wide : is_wide s.memory ≡ o.options.linear.memory64
  pub mark : s.async_side ≡ o.options.async_

-- types whose values these functions move to others, member by member
pub record CanMoveTuple (from to : List Shape) : Type 0 where
  pub from_counted : AreCounted (tuple_members from)
  pub to_counted : AreCounted (tuple_members to)
  pub members : CanMoveFields (tuple_members from) (tuple_members to)

-- The transfers of parameters and of results of an adapter whose values can be moved, be its sides sync or async.
pub record DescribesTransfers (t : Tables) (d : AdapterData) (debug : Bool) (u : AdapterTunables) (a : LinkedAdapter) : Type 0 where
  pub lift : DescribesSide t d.lift a.lift
  pub lower : DescribesSide t d.lower a.lower
  pub same_debug : u.debug ≡ debug
  pub params : CanMoveTuple a.lower.params a.lift.params
  pub results : CanMoveTuple a.lift.results a.lower.results

-- A sync adapter: both sides are sync, and its function types are not marked as async.
pub record DescribesAdapter (t : Tables) (d : AdapterData) (debug : Bool) (u : AdapterTunables) (a : LinkedAdapter) : Type 0 where
  pub transfers : DescribesTransfers t d debug u a
  pub lift_sync : a.lift.async_side ≡ false
  pub lower_sync : a.lower.async_side ≡ false
  pub unmarked : a.lift.async_type ≡ false
  pub instance : d.lift.instance.number ≡ a.lift.instance
  pub transparent : d.transparent ≡ a.transparent
  pub post_return : is_some d.lift.post_return ≡ is_some a.lift.post_return

-- What the function of an async adapter that has its name is written by: both sides, their instances, the encoding of the lift side, and the
-- mark of its function type.
pub record DescribesEntry (t : Tables) (d : AdapterData) (a : LinkedAdapter) : Type 0 where
  pub lift : DescribesSide t d.lift a.lift
  pub lower : DescribesSide t d.lower a.lower
  pub lift_callback : is_some a.lift.callback ≡ is_some d.lift.options.callback
  pub lift_instance : d.lift.instance.number ≡ a.lift.instance
  pub lower_instance : d.lower.instance.number ≡ a.lower.instance
  pub encoding : d.lift.options.string_encoding ≡ a.lift.encoding
  pub marked : a.lift.async_type ≡ is_marked_type t d.lift.ty
  pub counted : AreCounted (tuple_members a.lower.results)
  -- each of its results has no more core values than bytes, and there are fewer than 2 ^ 32 of them
  pub valid : AllByRecursion IsValid a.lower.results

-- ---- in a later module

-- the memory of a side whose values are not flat
abbrev pub HasTupleMemory : WasmModule → ImportPlaces → AdapterOptions → Side → Option (List ValType) → Type 0
HasTupleMemory M p o s (Some flats) = Unit {0}
HasTupleMemory M p o s None = IsLinearMemoryOf M p (options_of s) (linear_of o)

-- the memory and the realloc of a side that takes values, where they are not flat
abbrev pub HasNewTupleMemory : WasmModule → ImportPlaces → AdapterOptions → Side → Option (List ValType) → Type 0
HasNewTupleMemory M p o s (Some flats) = Unit {0}
HasNewTupleMemory M p o s None = IsLinearMemoryOf M p (options_of s) (linear_of o) × IsReallocOf M p (options_of s) (linear_of o)

pub record KnowsSideData (M : WasmModule) (p : ImportPlaces) (o : AdapterOptions) (s : Side) : Type 0 where
  pub flags : KnowsFlags M p s.instance o.flags.number

-- Where values of these source types are or hold lists, maps or strings, both memories and the destination's realloc are there.
abbrev pub HasListsOf : WasmModule → ImportPlaces → (from to : LinearMemory) → (a b : LiftLowerOptions) → List Shape → Type 0
HasListsOf M p from to a b types = have_pointer_pair (tuple_members types) ≡ true → ServesLists from to M p a b

-- the post-return takes what the callee gives
abbrev pub KnowsPostReturn : WasmModule → ImportPlaces → List ValType → Option (Id Funcs) → Option CoreDef → Type 0
KnowsPostReturn M p given None None = Unit {0}
KnowsPostReturn M p given (Some n) (Some f) = KnowsFunction M p (import.CoreDef f) n.number given []
KnowsPostReturn M p given _ _ = ⊥

-- Flags, memories, reallocs, the callee and the post-return have the places that the data say.
pub record KnowsAdapterData (M : WasmModule) (p : ImportPlaces) (d : AdapterData) (a : LinkedAdapter) : Type 0 where
  pub lift : KnowsSideData M p d.lift a.lift
  pub lower : KnowsSideData M p d.lower a.lower
  pub results_memory : HasTupleMemory M p d.lift a.lift (flat_values (is_wide a.lift.memory) (lift_results_limit a.lift.async_side) a.lift.results)
  pub return_memory : HasTupleMemory M p d.lower a.lower (flat_results a.lower)
  pub params_memory : HasTupleMemory M p d.lower a.lower (flat_values (is_wide a.lower.memory) (lower_limit a.lower.async_side) a.lower.params)
  pub params_area : HasNewTupleMemory M p d.lift a.lift (flat_values (is_wide a.lift.memory) 16 a.lift.params)
  pub params_lists : HasListsOf M p (linear_of d.lower) (linear_of d.lift) (options_of a.lower) (options_of a.lift) a.lower.params
  pub results_lists : HasListsOf M p (linear_of d.lift) (linear_of d.lower) (options_of a.lift) (options_of a.lower) a.lift.results
  pub callee : KnowsFunction M p (import.CoreDef a.callee) d.callee.number (lift_signature_of a).params (lift_signature_of a).results
  pub post_return : KnowsPostReturn M p (lift_signature_of a).results d.lift.post_return a.lift.post_return
