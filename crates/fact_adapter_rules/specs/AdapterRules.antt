-- The rules for the adapters of a plan, each looked at behind those before it.
use Rattle.std.specs.Prelude.{◌≡◌, ◌≢◌, ℕ, ◌<◌, ◌≤◌, ◌⊎◌, Bool, false, ◌&&◌, ◌||◌, not, nat_eq, List, [], ◌∷◌, ◌++◌, length, Option, Some, None, slice_get, IsSome, IsNone, IsSomeAnd, is_some, IsTrue, MatchBool, codes, if◌then◌else◌}
use Rattle.std.specs.List.{list_any, flat_map}
use Rattle.fact_wasm.specs.declared.types.ValType.TheVariants as val
use Rattle.fact_wasm.specs.declared.types.FuncType.{FuncType}
use Rattle.fact_types.specs.declared.outside.CoreDef.{CoreDef}
use Rattle.fact_types.specs.declared.outside.CoreDef.TheVariants as def
use Rattle.fact_types.specs.declared.outside.MemoryOption.{MemoryOption}
use Rattle.fact_types.specs.declared.signature.Signature.{Signature}
use Rattle.fact_types.specs.Adapters.{LinkedAdapter, Side, is_async, is_crossing, is_wide}
use Rattle.fact_types.specs.ImportTypes.{callback_type, post_return_type, realloc_type}
use Rattle.fact_types.specs.Shapes.{Shape}
use Rattle.fact_types.specs.Signatures.{flat_values, lower_by, lift_by, lift_results_limit, lower_limit}
use Rattle.fact_types.specs.Handles.{any_handle, has_borrow}
use Rattle.fact_types.specs.PointerPairs.{any_pointer_pair}
use Rattle.fact_agreement.specs.Lists.{AgreeAll}
use Rattle.fact_adapter_rules.specs.Bindings.{AreConsistent}
use Rattle.fact_plan.specs.declared.plan.PlanMemory.{PlanMemory}
use Rattle.fact_plan.specs.declared.plan.PlanSide.{PlanSide}
use Rattle.fact_plan.specs.declared.plan.PlanAdapter.{PlanAdapter}
use Rattle.fact_plan.specs.declared.plan.FusePlan.{FusePlan}
use Rattle.fact_plan_types.specs.Faults.{Fault, unknown_index, too_large, bad_options, type_mismatch, bad_memory, bad_signature, import_conflict, duplicate_name}
use Rattle.fact_plan_types.specs.TypeRules.{IsRepeated, most_entries}
use Rattle.fact_adapter_rules.specs.declared.uses.Use.{Use}
use Rattle.fact_adapter_rules.specs.declared.uses.Use.TheVariants as used_as
use Rattle.fact_adapter_rules.specs.Adapters.{adapter_of, adapters_before}

-- ---- what an adapter of a plan names

-- a number that is past a list of so many
abbrev pub IsPastList : ℕ → Option ℕ → Type 0
IsPastList count n = IsSomeAnd n (λ k. count ≤ k)

abbrev pub memory_def : Option PlanMemory → Option ℕ
memory_def None = None
memory_def (Some m) = Some m.def

-- a function, a core type, an instance or a core definition that the plan lacks
abbrev pub SideLacks : FusePlan → PlanSide → Type 0
SideLacks p s =
    (length p.funcs ≤ s.ty) ⊎ ((length p.core_types ≤ s.core_type) ⊎ ((p.instances ≤ s.instance)
    ⊎ (IsPastList (length p.core_defs) (memory_def s.memory) ⊎ (IsPastList (length p.core_defs) s.realloc
    ⊎ (IsPastList (length p.core_defs) s.callback ⊎ IsPastList (length p.core_defs) s.post_return)))))

abbrev pub AdapterLacks : FusePlan → PlanAdapter → Type 0
AdapterLacks p a = (length p.core_defs ≤ a.func) ⊎ (SideLacks p a.lift ⊎ SideLacks p a.lower)

-- the greatest number of an instance
abbrev pub most_instance : ℕ
most_instance = 2147483647

-- ---- options

abbrev pub holds_handle : Side → Bool
holds_handle s = any_handle s.params || any_handle s.results

-- A post-return of the side that lowers; an async adapter between two instances without concurrency; a transparent adapter
-- whose functions hold a handle.
abbrev pub HasBadOptions : (concurrency : Bool) → LinkedAdapter → Type 0
HasBadOptions concurrency a =
    IsSome a.lower.post_return
    ⊎ (IsTrue (is_async a && (is_crossing a && not concurrency))
    ⊎ IsTrue (a.transparent && (holds_handle a.lift || holds_handle a.lower)))

-- ---- types

abbrev pub any_borrow : List Shape → Bool
any_borrow ss = list_any has_borrow ss

-- The marks differ, or the types: parameters are carried from the lower side to the lift side, results the other way.
abbrev pub HasTypeMismatch : LinkedAdapter → Type 0
HasTypeMismatch a =
    (a.lift.async_type ≢ a.lower.async_type)
    ⊎ ((AgreeAll a.lower.params a.lift.params → ⊥)
    ⊎ ((AgreeAll a.lift.results a.lower.results → ⊥)
    ⊎ (any_borrow a.lower.params ≢ any_borrow a.lift.params)))

-- ---- memories

-- types of more flat types than a limit are passed through a pointer
abbrev pub IsByPointer : Option MemoryOption → ℕ → List Shape → Type 0
IsByPointer m limit ss = flat_values (is_wide m) limit ss ≡ None

-- Parameters of the side that lowers are flat up to 16, of an async one up to 4; those of the side that lifts up to 16.
abbrev pub LowerParamsByPointer : Side → Type 0
LowerParamsByPointer s = IsByPointer s.memory (lower_limit s.async_side) s.params

abbrev pub LiftParamsByPointer : Side → Type 0
LiftParamsByPointer s = IsByPointer s.memory 16 s.params

-- Results are flat up to 1; an async side that lowers has all of them behind a pointer, one that lifts has up to 16 flat.
abbrev pub LowerResultsByPointer : Side → Type 0
LowerResultsByPointer s = MatchBool s.async_side (s.results ≢ []) (IsByPointer s.memory 1 s.results)

abbrev pub LiftResultsByPointer : Side → Type 0
LiftResultsByPointer s = IsByPointer s.memory (lift_results_limit s.async_side) s.results

-- one of the types is or holds a string, a list or a map
abbrev pub HoldsPointer : List Shape → Type 0
HoldsPointer ss = IsTrue (any_pointer_pair ss)

abbrev pub LowerNeedsMemory : Side → Type 0
LowerNeedsMemory s = LowerParamsByPointer s ⊎ (LowerResultsByPointer s ⊎ (HoldsPointer s.params ⊎ HoldsPointer s.results))

abbrev pub LiftNeedsMemory : Side → Type 0
LiftNeedsMemory s = LiftParamsByPointer s ⊎ (LiftResultsByPointer s ⊎ (HoldsPointer s.params ⊎ HoldsPointer s.results))

-- The destination of values calls realloc for what they hold: the lower side for results, the lift side for parameters.
abbrev pub LowerNeedsRealloc : Side → Type 0
LowerNeedsRealloc s = HoldsPointer s.results

abbrev pub LiftNeedsRealloc : Side → Type 0
LiftNeedsRealloc s = LiftParamsByPointer s ⊎ HoldsPointer s.params

-- a memory that is shared, or of another page size than 1 or 65,536 bytes
abbrev pub IsOdd : MemoryOption → Type 0
IsOdd m = IsTrue m.shared ⊎ ((m.page_size_log2 ≢ 0) × (m.page_size_log2 ≢ 16))

-- a side's own memory: a realloc without one, or one that is odd
abbrev pub HasOddMemory : Side → Type 0
HasOddMemory s = (IsSome s.realloc × IsNone s.memory) ⊎ IsSomeAnd s.memory IsOdd

-- a core definition that is named, with what it is bound to
abbrev pub bound : {V : Type 0} → Option CoreDef → V → List (CoreDef × V)
bound None v = []
bound (Some d) v = (d, v) ∷ []

abbrev pub def_in : Option MemoryOption → Option CoreDef
def_in None = None
def_in (Some m) = Some m.def

-- the memories and the reallocs of an adapter, each with the instance of the side that names it
abbrev pub adapter_memories : LinkedAdapter → List (CoreDef × ℕ)
adapter_memories a = bound (def_in a.lift.memory) a.lift.instance ++ bound (def_in a.lower.memory) a.lower.instance

abbrev pub reallocs_of : LinkedAdapter → List (CoreDef × ℕ)
reallocs_of a = bound a.lift.realloc a.lift.instance ++ bound a.lower.realloc a.lower.instance

-- these adapters, and then one more
abbrev pub with : List LinkedAdapter → LinkedAdapter → List LinkedAdapter
with before a = before ++ a ∷ []

-- a side lacks a memory or a realloc that it needs
abbrev pub LiftLacksMemory : Side → Type 0
LiftLacksMemory s = (IsNone s.memory × LiftNeedsMemory s) ⊎ (IsNone s.realloc × LiftNeedsRealloc s)

abbrev pub LowerLacksMemory : Side → Type 0
LowerLacksMemory s = (IsNone s.memory × LowerNeedsMemory s) ⊎ (IsNone s.realloc × LowerNeedsRealloc s)

abbrev pub LacksMemory : LinkedAdapter → Type 0
LacksMemory a = LiftLacksMemory a.lift ⊎ LowerLacksMemory a.lower

-- one definition is named as memory, or as realloc, under two instances
abbrev pub SharesMemory : List LinkedAdapter → LinkedAdapter → Type 0
SharesMemory before a =
    (AreConsistent (flat_map adapter_memories (with before a)) → ⊥)
    ⊎ (AreConsistent (flat_map reallocs_of (with before a)) → ⊥)

-- a side lacks what it needs, or has a memory that it cannot use
abbrev pub CannotUseMemory : LinkedAdapter → Type 0
CannotUseMemory a = LacksMemory a ⊎ (HasOddMemory a.lift ⊎ HasOddMemory a.lower)

abbrev pub HasBadMemory : List LinkedAdapter → LinkedAdapter → Type 0
HasBadMemory before a = CannotUseMemory a ⊎ SharesMemory before a

-- ---- core signatures

abbrev pub lower_side_signature : Side → Signature
lower_side_signature s = lower_by s.async_side (is_wide s.memory) s.params s.results

abbrev pub lift_side_signature : Side → Signature
lift_side_signature s = lift_by s.async_side (is_some s.callback) (is_wide s.memory) s.params s.results

pub record Differs (ty : FuncType) (s : Signature) : Type 0 where
  pub differs : (ty ≡ record { params = s.params; results = s.results }) → ⊥

abbrev pub HasBadSignature : LinkedAdapter → Type 0
HasBadSignature a = Differs a.lift.core_type (lift_side_signature a.lift) ⊎ Differs a.lower.core_type (lower_side_signature a.lower)

-- ---- imports

abbrev pub memory_use : Option MemoryOption → Use
memory_use None = used_as.FlagGlobal
memory_use (Some m) = used_as.Memory m.memory64 m.page_size_log2

-- the flags of a side's instance, its memory, its realloc and its callback
abbrev pub side_uses : Side → List (CoreDef × Use)
side_uses s =
    (def.InstanceFlags (record { table = _; number = s.instance }), used_as.FlagGlobal)
    ∷ (bound (def_in s.memory) (memory_use s.memory) ++ (bound s.realloc (used_as.Function (realloc_type (is_wide s.memory))) ++ bound s.callback (used_as.Function callback_type)))

-- the callee, of a core type, and the post-return, which takes the results of the callee
abbrev pub callee_uses : CoreDef → FuncType → Option CoreDef → List (CoreDef × Use)
callee_uses callee ty post_return = (callee, used_as.Function ty) ∷ bound post_return (used_as.Function (post_return_type ty.results))

-- those of both sides, the callee and the post-return
abbrev pub uses_of : LinkedAdapter → List (CoreDef × Use)
uses_of a = side_uses a.lift ++ (side_uses a.lower ++ callee_uses a.callee a.lift.core_type a.lift.post_return)

abbrev pub IsSameAs : CoreDef → Option CoreDef → Type 0
IsSameAs d o = IsSomeAnd o (λ e. d ≡ e)

-- the callee is a realloc or the post-return of the same adapter
abbrev pub IsCalleeTwice : LinkedAdapter → Type 0
IsCalleeTwice a = IsSameAs a.callee a.lift.realloc ⊎ (IsSameAs a.callee a.lower.realloc ⊎ IsSameAs a.callee a.lift.post_return)

-- The callee has another part in this adapter, or a definition is used as two things by this adapter or those before it.
abbrev pub HasImportConflict : List LinkedAdapter → LinkedAdapter → Type 0
HasImportConflict before a = IsCalleeTwice a ⊎ (AreConsistent (flat_map uses_of (with before a)) → ⊥)

-- ---- exports

abbrev pub part_names : List ℕ → List (List ℕ)
part_names name = (codes "[async-start]" ++ name) ∷ (codes "[async-return]" ++ name) ∷ (codes "[adapter-callee]" ++ name) ∷ []

-- the names that an adapter exports: its own, and those of the parts of an async adapter between two instances
abbrev pub export_names : LinkedAdapter → List (List ℕ)
export_names a = a.name ∷ (if is_async a && is_crossing a then part_names a.name else [])

abbrev pub HasDuplicateName : List LinkedAdapter → LinkedAdapter → Type 0
HasDuplicateName before a = IsRepeated (flat_map export_names (with before a))

-- ---- an adapter that names nothing that is lacking has a fault of a kind, behind those before

abbrev pub LinkedHas : (concurrency : Bool) → List LinkedAdapter → LinkedAdapter → Fault → Type 0
LinkedHas concurrency before a bad_options = HasBadOptions concurrency a
LinkedHas concurrency before a type_mismatch = HasTypeMismatch a
LinkedHas concurrency before a bad_memory = HasBadMemory before a
LinkedHas concurrency before a bad_signature = HasBadSignature a
LinkedHas concurrency before a import_conflict = HasImportConflict before a
LinkedHas concurrency before a duplicate_name = HasDuplicateName before a
LinkedHas concurrency before a _ = ⊥

-- an adapter k of a plan
abbrev pub AdapterHas : FusePlan → ℕ → PlanAdapter → Fault → Type 0
AdapterHas p k a unknown_index = AdapterLacks p a
AdapterHas p k a too_large = (most_entries ≤ k) ⊎ ((most_instance < a.lift.instance) ⊎ (most_instance < a.lower.instance))
AdapterHas p k a f = IsSomeAnd (adapter_of p a) (λ linked. LinkedHas p.tunables.concurrency (adapters_before p k) linked f)

abbrev pub HasAdapterFault : FusePlan → ℕ → Fault → Type 0
HasAdapterFault p k f = IsSomeAnd (slice_get p.adapters k) (λ a. AdapterHas p k a f)
