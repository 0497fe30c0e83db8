-- What was written for a whole sync adapter.
use Rattle.std.specs.Prelude.{◌≡◌, ℕ, ◌≤◌, Bool, true, false, List, [], ◌∷◌, ◌++◌, Option, Some, None}
use Rattle.fact_wasm.specs.declared.instr.Instr.{Instr}
use Rattle.fact_wasm.specs.declared.module.WasmModule.{WasmModule}
use Rattle.fact_wasm.specs.declared.types.ValType.{ValType}
use Rattle.fact_wasm.specs.declared.types.ValType.TheVariants as val
use Rattle.fact_types.specs.Adapters.{LinkedAdapter, is_wide}
use Rattle.fact_types.specs.Signatures.{flat_params, lower_pointer}
use Rattle.fact_actions.specs.Adapters.{lower_signature_of, lift_signature_of}
use Rattle.fact_emit.specs.Places.{AreDistinctSlots}
use Rattle.fact_types.specs.Functions.{HasSignature}
use Rattle.fact_types.specs.Shapes.{Shape}
use Rattle.fact_types.specs.Tables.{Tables}
use Rattle.fact_types.specs.declared.import.Import.TheVariants as import
use Rattle.fact_types.specs.declared.outside.Trap.TheVariants.{CannotLeaveComponent, UncaughtException}
use Rattle.fact_actions.specs.Running.{ImportPlaces}
use Rattle.fact_code_laws.specs.Knows.{KnowsFunction}
use Rattle.fact_code_laws.specs.Context.{CanReadSlotsIf}
use Rattle.fact_code_laws.specs.Places.{Slot, AreLocals, AreUsed}
use Rattle.fact_emit.specs.Barriers.{Barred}
use Rattle.fact_emit.specs.Asked.{AskedHelper}
use Rattle.fact_emit.specs.Emits.{EmitsAsking, GrewAsking}
use Rattle.fact_emit.specs.Options.{number_if_any}
use Rattle.fact_emit.specs.Pieces.{Piece}
use Rattle.fact_emit.specs.RuntimeCalls.{slots_of}
use Rattle.fact_emit.specs.declared.context.ContextLocals.{ContextLocals}
use Rattle.fact_emit.specs.declared.imported.RuntimeFunction.TheVariants as runtime
use Rattle.fact_emit.specs.Places.{slots_of_locals}
use Rattle.fact_emit.specs.Writers.{taken_in}
use Rattle.fact_emit.specs.declared.writer.Writer.{Writer}
use Rattle.fact_compound.specs.Asks.{AsksFor}
use Rattle.fact_steps.specs.Code.{pushed_code}
use Rattle.fact_steps.specs.PassedOn.{ArePassedOn}
use Rattle.fact_steps.specs.Steps.{CanFinish, KnowsRuntimeIf}
use Rattle.fact_compound.specs.Code.{SyncParts, call_steps_code, return_steps_code, slot_types, with_barrier}
use Rattle.fact_compound.specs.Described.{CanMoveTuple, linear_of}
use Rattle.fact_kinds.specs.declared.fuel.Fuel.{Fuel}
use Rattle.fact_compound.specs.Keys.{TranslatesSync}
use Rattle.fact_compound.specs.Passed.{ParamsCode, MovesResults, TranslatesParams, TranslatesResults}
use Rattle.fact_compound.specs.Passing.{tuple_size}
use Rattle.fact_compound.specs.declared.adapters.AdapterData.{AdapterData}
use Rattle.fact_compound.specs.declared.syncs.CallOptions.{CallOptions}
use Rattle.fact_compound.specs.declared.syncs.SyncLocals.{SyncLocals}

-- the locals of a sync adapter as slots
pub record SyncPlaces : Type 0 where
  pub passed : Bool
  pub args : List Slot
  pub params : List Slot
  pub saved : ℕ
  pub lift_saved : ℕ
  pub core : List Slot
  pub given : List Slot
  pub results : List Slot
  pub callee_context : ContextLocals
  pub own_context : ContextLocals

abbrev pub sync_places : SyncLocals → SyncPlaces
sync_places l = record {
  passed = l.passed;
  args = slots_of_locals l.args.now;
  params = slots_of_locals l.params.now;
  saved = l.saved;
  lift_saved = l.lift_saved;
  core = slots_of_locals l.core.now;
  given = slots_of_locals l.given.now;
  results = slots_of_locals l.results.now;
  callee_context = l.callee_context;
  own_context = l.own_context;
}

-- where a sync adapter's code finds all that it uses, with the places of its traps
abbrev pub parts_of : AdapterData → CallOptions → SyncPlaces → ImportPlaces → (may_leave : ℕ) → (uncaught : Option ℕ) → SyncParts
parts_of d o l p may_leave uncaught = record {
  lower_flags = d.lower.flags.number;
  lift_flags = d.lift.flags.number;
  may_leave = may_leave;
  callee = d.callee.number;
  saved = l.saved;
  lift_saved = l.lift_saved;
  core = l.core;
  given = l.given;
  results = l.results;
  told = o.told;
  instance = d.lift.instance.number;
  enter = p.function import.EnterSyncCall;
  exit = p.function import.ExitSyncCall;
  post_return = number_if_any d.lift.post_return;
  context = o.context;
  callee_slots = slots_of p l.callee_context;
  own_slots = slots_of p l.own_context;
  uncaught = uncaught;
}

-- the steps up to the call of the callee, with the code that moves the parameters
pub record IsCallCode (d : AdapterData) (debug : Bool) (o : CallOptions) (l : SyncPlaces) (taken : ℕ → Bool) (ps qs : List Shape) (M : WasmModule) (p : ImportPlaces) (locals : List ValType) (code : List Instr) : Type 0 where
  pub may_leave : ℕ
  pub params : List Instr
  pub is : code ≡ call_steps_code (parts_of d o l p may_leave None) params
  pub has : KnowsFunction M p (import.Trap CannotLeaveComponent) may_leave [] []
  pub enters : KnowsRuntimeIf o.told M p runtime.EnterSyncCall
  pub moves_params : ParamsCode l.passed d debug o.concurrency l.params l.core taken ps qs M p locals params

-- those behind it, with the code that moves the results
pub record IsReturnCode (d : AdapterData) (debug : Bool) (o : CallOptions) (l : SyncPlaces) (taken : ℕ → Bool) (rs ss : List Shape) (M : WasmModule) (p : ImportPlaces) (locals : List ValType) (code : List Instr) : Type 0 where
  pub results : List Instr
  pub is : code ≡ return_steps_code (parts_of d o l p 0 None) results
  pub exits : KnowsRuntimeIf o.told M p runtime.ExitSyncCall
  pub reads : CanReadSlotsIf o.context M p (slots_of p l.callee_context)
  pub finishes : CanFinish d.lift.post_return o.context l.callee_context l.own_context M p
  pub moves_results : MovesResults d debug o.concurrency l.given l.results l.args taken ss rs M p locals results

-- all steps
pub record IsStepsCode (d : AdapterData) (debug : Bool) (o : CallOptions) (l : SyncPlaces) (taken : ℕ → Bool) (ps rs qs ss : List Shape) (M : WasmModule) (p : ImportPlaces) (locals : List ValType) (code : List Instr) : Type 0 where
  pub call : List Instr
  pub return : List Instr
  pub is : code ≡ call ++ return
  pub calls : IsCallCode d debug o l taken ps qs M p locals call
  pub returns : IsReturnCode d debug o l taken rs ss M p locals return

-- the trap of the barrier is there where there is a barrier
abbrev pub KnowsUncaught : (barrier : Bool) → WasmModule → ImportPlaces → Option ℕ → Type 0
KnowsUncaught false M p None = Unit {0}
KnowsUncaught true M p (Some n) = KnowsFunction M p (import.Trap UncaughtException) n [] []
KnowsUncaught _ M p _ = ⊥

-- the whole
pub record IsSyncCode (d : AdapterData) (debug : Bool) (o : CallOptions) (l : SyncPlaces) (taken : ℕ → Bool) (ps rs qs ss : List Shape) (M : WasmModule) (p : ImportPlaces) (locals : List ValType) (code : List Instr) : Type 0 where
  pub steps : List Instr
  pub uncaught : Option ℕ
  pub is : code ≡ with_barrier uncaught steps ++ pushed_code l.results
  pub barrier : KnowsUncaught o.barrier M p uncaught
  pub are_steps : IsStepsCode d debug o l taken ps rs qs ss M p locals steps

-- They were written, whatever the parameters and results of the lower and the lift side are that can be moved.
pub record WrittenCall (t : Tables) (d : AdapterData) (debug : Bool) (o : CallOptions) (l : SyncPlaces) (before after : Fuel) (old new : Writer) : Type 0 where
  pub asks : List AskedHelper
  pub translated : l.passed ≡ false → TranslatesParams t d debug o.concurrency before after asks
  pub none : l.passed ≡ true → (asks ≡ []) × (after ≡ before)
  pub grew : GrewAsking asks old new
  pub asked : AsksFor t debug o.concurrency asks old.sections new.sections
  pub emits : (ps rs qs ss : List Shape) → HasSignature t d.lower.ty ps rs → HasSignature t d.lift.ty qs ss → CanMoveTuple ps qs → EmitsAsking asks old new (IsCallCode d debug o l (taken_in old) ps qs)

pub record WrittenReturn (t : Tables) (d : AdapterData) (debug : Bool) (o : CallOptions) (l : SyncPlaces) (before after : Fuel) (old new : Writer) : Type 0 where
  pub asks : List AskedHelper
  pub translated : TranslatesResults t d debug o.concurrency before after asks
  pub grew : GrewAsking asks old new
  pub lift_size : (qs ss : List Shape) → HasSignature t d.lift.ty qs ss → tuple_size (linear_of d.lift).memory64 ss ≤ 4294967295
  pub lower_size : (ps rs : List Shape) → HasSignature t d.lower.ty ps rs → tuple_size (linear_of d.lower).memory64 rs ≤ 4294967295
  pub asked : AsksFor t debug o.concurrency asks old.sections new.sections
  pub emits : (ps rs qs ss : List Shape) → HasSignature t d.lower.ty ps rs → HasSignature t d.lift.ty qs ss → CanMoveTuple ss rs → EmitsAsking asks old new (IsReturnCode d debug o l (taken_in old) rs ss)

-- of these steps with something around them
pub record WrittenAs (Around : Piece → Piece) (t : Tables) (d : AdapterData) (debug : Bool) (o : CallOptions) (l : SyncPlaces) (before after : Fuel) (old new : Writer) : Type 0 where
  pub asks : List AskedHelper
  pub translated : TranslatesSync t d debug o.concurrency l.passed before after asks
  pub grew : GrewAsking asks old new
  pub lift_size : (qs ss : List Shape) → HasSignature t d.lift.ty qs ss → tuple_size (linear_of d.lift).memory64 ss ≤ 4294967295
  pub lower_size : (ps rs : List Shape) → HasSignature t d.lower.ty ps rs → tuple_size (linear_of d.lower).memory64 rs ≤ 4294967295
  pub asked : AsksFor t debug o.concurrency asks old.sections new.sections
  pub emits : (ps rs qs ss : List Shape) → HasSignature t d.lower.ty ps rs → HasSignature t d.lift.ty qs ss → CanMoveTuple ps qs → CanMoveTuple ss rs → EmitsAsking asks old new (Around (IsStepsCode d debug o l (taken_in old) ps rs qs ss))

abbrev pub WrittenSteps : Tables → AdapterData → (debug : Bool) → CallOptions → SyncPlaces → (before after : Fuel) → (old new : Writer) → Type 0
WrittenSteps t d debug o l before after old new = WrittenAs (λ P. P) t d debug o l before after old new

abbrev pub WrittenBarred : Tables → AdapterData → (debug : Bool) → CallOptions → SyncPlaces → (before after : Fuel) → (old new : Writer) → Type 0
WrittenBarred t d debug o l before after old new = WrittenAs Barred t d debug o l before after old new

-- ---- the locals

-- the locals that hold what the code needs to its end, and then the others
abbrev pub kept_slots : SyncPlaces → List Slot
kept_slots l = l.args ++ (l.saved, val.I32) ∷ (l.lift_saved, val.I32) ∷ []

-- locals of the slots of the context, where these are looked at
abbrev pub context_slots : (context : Bool) → ContextLocals → List Slot
context_slots false c = []
context_slots true c = (c.first, val.I32) ∷ (c.second, val.I32) ∷ []

-- those of what the callee gave and left, of the results and of the adapter's own context
abbrev pub outs_slots : (context : Bool) → SyncPlaces → List Slot
outs_slots context l = l.given ++ (context_slots context l.callee_context ++ (l.results ++ context_slots context l.own_context))

-- those that it writes besides: the callee's parameters are none of them where they are the adapter's own
abbrev pub written_slots : (passed context : Bool) → SyncPlaces → List Slot
written_slots false context l = l.core ++ outs_slots context l
written_slots true context l = outs_slots context l

abbrev pub all_slots : (context : Bool) → SyncPlaces → List Slot
all_slots context l = kept_slots l ++ written_slots l.passed context l

-- The callee's parameters have locals of their types, or those of the adapter's parameters, which are handed on as they are.
abbrev pub CoreLocals : (passed : Bool) → LinkedAdapter → SyncPlaces → Type 0
CoreLocals false a l = slot_types l.core ≡ (lift_signature_of a).params
CoreLocals true a l = (l.core ≡ l.params) × ArePassedOn a.lower.params a.lift.params

-- Locals of a sync adapter that have the types of its signatures, are in use, and of which none stands twice. Behind the
-- parameters stands the return pointer, where there is one.
pub record HasLocals (a : LinkedAdapter) (context : Bool) (l : SyncPlaces) (taken : ℕ → Bool) (locals : List ValType) : Type 0 where
  pub rest : List Slot
  pub args : l.args ≡ l.params ++ rest
  pub params_types : slot_types l.params ≡ flat_params (is_wide a.lower.memory) 16 a.lower.params
  pub rest_types : slot_types rest ≡ lower_pointer false (is_wide a.lower.memory) a.lower.results
  pub core : CoreLocals l.passed a l
  pub given_types : slot_types l.given ≡ (lift_signature_of a).results
  pub results_types : slot_types l.results ≡ (lower_signature_of a).results
  pub typed : AreLocals locals (all_slots context l)
  pub used : AreUsed taken (all_slots context l)
  pub distinct : AreDistinctSlots (all_slots context l)
