-- Typed answers, and which runs have them (canonical ABI, "Canonical ABI options": the types of core functions).
use Rattle.std.specs.Prelude.{◌≡◌, ◌<◌, true, List, [], ◌∷◌, length, Option, Some, slice_get}
use Rattle.fact_wasm.specs.declared.types.ValType.{ValType}
use Rattle.fact_wasm.specs.declared.types.ValType.TheVariants as val
use Rattle.fact_types.specs.declared.outside.CoreDef.{CoreDef}
use Rattle.fact_types.specs.declared.outside.UnsafeIntrinsic.TheVariants as slot
use Rattle.fact_types.specs.ImportTypes.{realloc_type, post_return_type, trap_type}
use Rattle.fact_machine.specs.declared.types.Answer.TheVariants.{Returns, Traps, Throws}
use Rattle.fact_types.specs.declared.import.Import.{Import}
use Rattle.fact_types.specs.declared.import.Import.TheVariants as import
use Rattle.fact_types.specs.declared.outside.MemoryOption.{MemoryOption}
use Rattle.fact_types.specs.Adapters.{LinkedAdapter, is_wide}
use Rattle.fact_actions.specs.Transcoders.{transcode_types, transcode_kind}
use Rattle.fact_actions.specs.Running.{ImportPlaces, Call, is_answer}
use Rattle.fact_actions.specs.Adapters.{lift_signature_of}

-- ---- the types of results

-- The types of what imports give, where core functions give these, and start-calls of a callback and a post-return those.
abbrev pub result_types : (core : CoreDef → List ValType) → (start : (callback post_return : Option CoreDef) → List ValType) → Import → List ValType
result_types core start (import.CoreDef d) = core d
result_types core start (import.Transcode o from from64 to to64) = transcode_types (transcode_kind o) from64 to64
result_types core start import.ResourceTransferOwn = val.I32 ∷ []
result_types core start import.ResourceTransferBorrow = val.I32 ∷ []
result_types core start import.FutureTransfer = val.I32 ∷ []
result_types core start import.StreamTransfer = val.I32 ∷ []
result_types core start import.ErrorContextTransfer = val.I32 ∷ []
result_types core start (import.PrepareCall memory) = []
result_types core start (import.StartCall callback post_return) = start callback post_return
result_types core start (import.Trap t) = trap_type.results
result_types core start import.EnterSyncCall = []
result_types core start import.ExitSyncCall = []
result_types core start (import.UnsafeIntrinsic slot.ContextGetI32_0) = val.I32 ∷ []
result_types core start (import.UnsafeIntrinsic slot.ContextGetI32_1) = val.I32 ∷ []
result_types core start (import.UnsafeIntrinsic slot.ContextSetI32_0) = []
result_types core start (import.UnsafeIntrinsic slot.ContextSetI32_1) = []

-- what the core functions of an adapter give
pub record HaveCoreTypes (core : CoreDef → List ValType) (a : LinkedAdapter) : Type 0 where
  pub callee : core a.callee ≡ (lift_signature_of a).results
  pub lift_realloc : (f : CoreDef) → a.lift.realloc ≡ Some f → core f ≡ (realloc_type (is_wide a.lift.memory)).results
  pub lower_realloc : (f : CoreDef) → a.lower.realloc ≡ Some f → core f ≡ (realloc_type (is_wide a.lower.memory)).results
  pub post_return : (f : CoreDef) → a.lift.post_return ≡ Some f → core f ≡ (post_return_type (lift_signature_of a).results).results

-- ---- places

-- a module has the memories and the flags of an adapter
pub record HasPlaces (p : ImportPlaces) (a : LinkedAdapter) : Type 0 where
  pub lift_memory : (m : MemoryOption) → a.lift.memory ≡ Some m → p.memory m.def < length p.memory_types
  pub lower_memory : (m : MemoryOption) → a.lower.memory ≡ Some m → p.memory m.def < length p.memory_types
  pub lift_flags : slice_get p.global_types (p.flags a.lift.instance) ≡ Some val.I32
  pub lower_flags : slice_get p.global_types (p.flags a.lower.instance) ≡ Some val.I32

-- ---- answers

-- an answer traps, throws, or returns values of its import's types in a typed state
abbrev pub HasTypedAnswer : ImportPlaces → (Import → List ValType) → Call → Type 0
HasTypedAnswer p types c =
    elim c.answer [ Returns rs state ↦ is_answer p (types c.what) c.before rs state ≡ true | Traps ↦ Unit {0} | Throws ↦ Unit {0} ]

abbrev pub HaveTypedAnswers : ImportPlaces → (Import → List ValType) → List Call → Type 0
HaveTypedAnswers p types [] = Unit {0}
HaveTypedAnswers p types (c ∷ cs) = HasTypedAnswer p types c × HaveTypedAnswers p types cs
