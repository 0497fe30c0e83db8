-- What was written for a sync adapter, step by step.
use Rattle.std.proofs.Common.{◌≡◌, ℕ, ◌<◌, ◌≤◌, Bool, true, false, List, [], ◌∷◌, ◌++◌, Option, Some, None, refl, sym, ap, ◌∙◌, subst, arith, append_assoc, append-nil, length, length-append, slice_get}
use Rattle.fact_entity.specs.declared.id.Id.{Id}
use Rattle.fact_entity.specs.declared.table.Funcs.{Funcs}
use Rattle.fact_wasm.specs.declared.instr.Instr.{Instr}
use Rattle.fact_wasm.specs.declared.instr.Instr.TheVariants as I
use Rattle.fact_wasm.specs.declared.module.WasmModule.{WasmModule}
use Rattle.fact_wasm.specs.declared.types.ValType.{ValType}
use Rattle.fact_types.specs.Functions.{HasSignature}
use Rattle.fact_types.specs.Shapes.{Shape}
use Rattle.fact_types.specs.Tables.{Tables}
use Rattle.fact_types.specs.declared.import.Import.TheVariants as import
use Rattle.fact_actions.specs.Running.{ImportPlaces}
use Rattle.fact_code_laws.specs.Context.{read_slots_code}
use Rattle.fact_emit.specs.Barriers.{WroteBarrier}
use Rattle.fact_emit.specs.Asked.{AskedHelper}
use Rattle.fact_emit.specs.Emits.{Grew, Emits, EmitsAsking, GrewAsking}
use Rattle.fact_emit.specs.RuntimeCalls.{ReadsSlots, slots_of}
use Rattle.std.specs.Prelude.{IfSome}
use Rattle.fact_emit.specs.Imports.{Extended}
use Rattle.fact_emit.specs.Options.{number_if_any}
use Rattle.fact_emit.specs.Pieces.{Is}
use Rattle.fact_emit.specs.States.{ModuleSoFar, functions_of}
use Rattle.fact_emit.proofs.ImportLaws.{extended_none, extended_on}
use Rattle.fact_emit.specs.Writers.{Began, EndedBody, Wrote, is_local_in_use, taken_in}
use Rattle.fact_emit.specs.declared.context.ContextLocals.{ContextLocals}
use Rattle.fact_emit.specs.declared.imported.RuntimeFunction.TheVariants as runtime
use Rattle.fact_emit.specs.declared.writer.Writer.{Writer}
use Rattle.fact_emit.proofs.BarrierMoves.{barrier_emits, grew_barrier}
use Rattle.fact_emit.proofs.Emitting.{emits_before, emits_then, emits_wrote, grew_on}
use Rattle.fact_compound.specs.Asks.{AsksFor}
use Rattle.fact_steps.proofs.RangedSteps.{call_ranged, pushed_ranged, started_ranged, zero_ranged}
use Rattle.fact_steps.specs.Code.{back_code, call_code, enter_code, exit_code, finish_code, pushed_code, started_code, zero_flags_code}
use Rattle.fact_steps.specs.Steps.{CanFinish, ChecksMayLeave, EntersCall, ExitsCall, KnowsRuntimeIf, RestoresAndFinishes}
use Rattle.fact_compound.specs.Code.{cleared_code}
use Rattle.fact_compound.specs.Described.{CanMoveTuple, linear_of}
use Rattle.fact_kinds.specs.declared.fuel.Fuel.{Fuel}
use Rattle.fact_compound.specs.Keys.{TranslatesSync}
use Rattle.fact_compound.specs.Passed.{ParamsCode, PassedParams, MovesResults, MovedResults, TranslatesParams, TranslatesResults}
use Rattle.fact_compound.specs.Passing.{tuple_size}
use Rattle.fact_compound.specs.Written.{IsReturnCode, IsStepsCode, IsSyncCode, KnowsUncaught, SyncPlaces, WrittenBarred, WrittenCall, WrittenReturn, WrittenSteps}
use Rattle.fact_compound.specs.declared.adapters.AdapterData.{AdapterData}
use Rattle.fact_compound.specs.declared.syncs.CallOptions.{CallOptions}
use Rattle.fact_compound.proofs.OptionsImported.{post_there}
use Rattle.fact_compound.proofs.AsksLaws.{asks_before, asks_behind, asks_kept, asks_on, asks_same, emits_new, runtime_new}

-- ---- up to the call

abbrev callee_code : AdapterData → SyncPlaces → List Instr
callee_code d l = call_code l.core d.lift.flags.number l.lift_saved d.callee.number l.given

-- from the move of the parameters on, and from the flags of the lift side on
record ParamsOn (d : AdapterData) (debug : Bool) (o : CallOptions) (l : SyncPlaces) (taken : ℕ → Bool) (ps qs : List Shape) (front : List Instr) (M : WasmModule) (p : ImportPlaces) (locals : List ValType) (code : List Instr) : Type 0 where
  params : List Instr
  is : code ≡ front ++ (params ++ callee_code d l)
  moves_params : ParamsCode l.passed d debug o.concurrency l.params l.core taken ps qs M p locals params

record EnterOn (d : AdapterData) (debug : Bool) (o : CallOptions) (l : SyncPlaces) (taken : ℕ → Bool) (ps qs : List Shape) (M : WasmModule) (p : ImportPlaces) (locals : List ValType) (code : List Instr) : Type 0 where
  params : List Instr
  is : code ≡ enter_code o.told d.lift.instance.number (p.function import.EnterSyncCall) ++ (started_code d.lift.flags.number l.lift_saved ++ (params ++ callee_code d l))
  enters : KnowsRuntimeIf o.told M p runtime.EnterSyncCall
  moves_params : ParamsCode l.passed d debug o.concurrency l.params l.core taken ps qs M p locals params

pub written_call : {t : Tables} (d : AdapterData) (debug : Bool) (o : CallOptions) (l : SyncPlaces) {before after : Fuel} {a b c e f g : Writer} → d.callee.number < length (functions_of a.sections)
    → Emits a b (ChecksMayLeave d.lower.flags.number l.saved) → Emits b c (EntersCall o.told d.lift.instance.number) → Wrote c e (started_code d.lift.flags.number l.lift_saved)
    → PassedParams t d debug o.concurrency l.passed l.params l.core before after e f → Wrote f g (callee_code d l) → WrittenCall t d debug o l before after a g
written_call {t} d debug o l {before} {after} {a} {b} {c} {e} {f} {g} callee x1 x2 x3 x4 x5 =
    let front = emits_wrote (started_ranged d.lift.flags.number l.lift_saved) x3 in
    let grew_e : Grew a e = grew_on x1.grew (grew_on x2.grew front.grew) in
    let grew_f : GrewAsking x4.asks a f = grew_on grew_e x4.grew in
    let imports : ℕ = length (functions_of f.sections) in
    let there : d.callee.number < imports = omega (arith, callee, ap length grew_f.imports.functions.is, length-append (functions_of a.sections) grew_f.imports.functions.more) in
    let call = emits_before (call_ranged imports d.lift.flags.number l.lift_saved d.callee.number l.core l.given there) x5 in
    let taken_e : taken_in e ≡ taken_in a = λ n. λ i. (grew_e.still i) n in
    record {
      grew = grew_on grew_f call.grew;
      asks = x4.asks ++ [];
      translated = λ moved. subst (λ (xs : List AskedHelper). TranslatesParams t d debug o.concurrency before after xs) (sym (append-nil x4.asks)) (x4.translated moved);
      none = λ passed. (append-nil x4.asks ∙ (x4.none passed).0, (x4.none passed).1);
      asked = asks_behind (emits_new x1) (asks_behind (emits_new x2) (asks_behind (emits_new front) (asks_before call.grew.imports x4.asked (emits_new call))));
      emits = λ ps rs qs ss hl hf can.
          let params : EmitsAsking x4.asks e f (ParamsCode l.passed d debug o.concurrency l.params l.core (taken_in a) ps qs) =
          subst (λ taken. EmitsAsking x4.asks e f (ParamsCode l.passed d debug o.concurrency l.params l.core taken ps qs)) taken_e (x4.emits ps rs qs ss hl hf can) in
          emits_then {P = ChecksMayLeave d.lower.flags.number l.saved} {Q = EnterOn d debug o l (taken_in a) ps qs}
          (λ M p locals code more y z. record { may_leave = y.trap; params = z.params; is = λ i. y.is i ++ z.is i; has = y.has; enters = z.enters; moves_params = z.moves_params })
          x1
          (emits_then {P = EntersCall o.told d.lift.instance.number} {Q = ParamsOn d debug o l (taken_in a) ps qs (started_code d.lift.flags.number l.lift_saved)}
          (λ M p locals code more y z. record { params = z.params; is = λ i. y.is i ++ z.is i; enters = y.has; moves_params = z.moves_params })
          x2
          (emits_then {P = Is (started_code d.lift.flags.number l.lift_saved)} {Q = ParamsOn d debug o l (taken_in a) ps qs []} (λ M p locals code more y z. record { params = z.params; is = λ i. y i ++ z.is i; moves_params = z.moves_params })
          front
          (emits_then {Q = Is (callee_code d l)} (λ M p locals code more y z. record { params = code; is = ap (λ c. code ++ c) z; moves_params = y }) params call)));
    }

-- ---- behind it

-- from the move of the results on, and from the telling of the return on
record ResultsOn (d : AdapterData) (debug : Bool) (o : CallOptions) (l : SyncPlaces) (taken : ℕ → Bool) (rs ss : List Shape) (front : List Instr) (M : WasmModule) (p : ImportPlaces) (locals : List ValType) (code : List Instr) : Type 0 where
  results : List Instr
  is : code ≡ front ++ (results ++ (back_code d.lower.flags.number l.saved ++ finish_code o.context (number_if_any d.lift.post_return) (slots_of p l.callee_context) (slots_of p l.own_context) l.given))
  finishes : CanFinish d.lift.post_return o.context l.callee_context l.own_context M p
  moves_results : MovesResults d debug o.concurrency l.given l.results l.args taken ss rs M p locals results

record ExitOn (d : AdapterData) (debug : Bool) (o : CallOptions) (l : SyncPlaces) (taken : ℕ → Bool) (rs ss : List Shape) (M : WasmModule) (p : ImportPlaces) (locals : List ValType) (code : List Instr) : Type 0 where
  results : List Instr
  is : code ≡ exit_code o.told (p.function import.ExitSyncCall) ++ (zero_flags_code d.lower.flags.number ++ (results ++ (back_code d.lower.flags.number l.saved ++ finish_code o.context (number_if_any d.lift.post_return) (slots_of p l.callee_context) (slots_of p l.own_context) l.given)))
  exits : KnowsRuntimeIf o.told M p runtime.ExitSyncCall
  finishes : CanFinish d.lift.post_return o.context l.callee_context l.own_context M p
  moves_results : MovesResults d debug o.concurrency l.given l.results l.args taken ss rs M p locals results

-- the flags are set back behind the results
back_assoc : (flags saved : ℕ) (front results finish : List Instr) → front ++ (zero_flags_code flags ++ (results ++ (back_code flags saved ++ finish))) ≡ front ++ (cleared_code flags saved results ++ finish)
back_assoc flags saved front results finish = ap (λ c. front ++ I.I32Const 0 ∷ I.GlobalSet flags ∷ c) (sym (append_assoc results (back_code flags saved) finish))

pub written_return : {t : Tables} (d : AdapterData) (debug : Bool) (o : CallOptions) (l : SyncPlaces) {before after : Fuel} {a b c e f g : Writer} → Emits a b (ReadsSlots o.context l.callee_context) → Emits b c (ExitsCall o.told) → Wrote c e (zero_flags_code d.lower.flags.number)
    → MovedResults t d debug o.concurrency l.given l.results l.args before after e f → Emits f g (RestoresAndFinishes d.lower.flags.number l.saved d.lift.post_return o.context l.callee_context l.own_context l.given) → WrittenReturn t d debug o l before after a g
written_return {t} d debug o l {before} {after} {a} {b} {c} {e} {f} {g} x1 x2 x3 x4 x5 =
    let zero = emits_wrote (zero_ranged d.lower.flags.number) x3 in
    let grew_e : Grew a e = grew_on x1.grew (grew_on x2.grew zero.grew) in
    let taken_e : taken_in e ≡ taken_in a = λ n. λ i. (grew_e.still i) n in
    record {
      grew = grew_on grew_e (grew_on x4.grew x5.grew);
      asks = x4.asks ++ [];
      translated = subst (λ (xs : List AskedHelper). TranslatesResults t d debug o.concurrency before after xs) (sym (append-nil x4.asks)) x4.translated;
      asked = asks_behind (emits_new x1) (asks_behind (emits_new x2) (asks_behind (emits_new zero) (asks_before x5.grew.imports x4.asked (emits_new x5))));
      lift_size = x4.lift_size;
      lower_size = x4.lower_size;
      emits = λ ps rs qs ss hl hf can.
          let results : EmitsAsking x4.asks e f (MovesResults d debug o.concurrency l.given l.results l.args (taken_in a) ss rs) =
          subst (λ taken. EmitsAsking x4.asks e f (MovesResults d debug o.concurrency l.given l.results l.args taken ss rs)) taken_e (x4.emits ps rs qs ss hl hf can) in
          emits_then {P = ReadsSlots o.context l.callee_context} {Q = ExitOn d debug o l (taken_in a) rs ss}
          (λ M p locals code more y z. record {
            results = z.results;
            is = (λ i. y.is i ++ z.is i)
                ∙ ap (λ c. read_slots_code o.context (slots_of p l.callee_context) ++ c) (back_assoc d.lower.flags.number l.saved (exit_code o.told (p.function import.ExitSyncCall)) z.results (finish_code o.context (number_if_any d.lift.post_return) (slots_of p l.callee_context) (slots_of p l.own_context) l.given));
            exits = z.exits;
            reads = y.can;
            finishes = z.finishes;
            moves_results = z.moves_results;
          })
          x1
          (emits_then {P = ExitsCall o.told} {Q = ResultsOn d debug o l (taken_in a) rs ss (zero_flags_code d.lower.flags.number)}
          (λ M p locals code more y z. record { results = z.results; is = λ i. y.is i ++ z.is i; exits = y.has; finishes = z.finishes; moves_results = z.moves_results })
          x2
          (emits_then {P = Is (zero_flags_code d.lower.flags.number)} {Q = ResultsOn d debug o l (taken_in a) rs ss []} (λ M p locals code more y z. record { results = z.results; is = λ i. y i ++ z.is i; finishes = z.finishes; moves_results = z.moves_results })
          zero
          (emits_then {Q = RestoresAndFinishes d.lower.flags.number l.saved d.lift.post_return o.context l.callee_context l.own_context l.given}
          (λ M p locals code more y z. record { results = code; is = ap (λ c. code ++ c) z.is; finishes = z.can; moves_results = y }) results x5)));
    }

-- a post-return that was imported before is imported still
pub finish_there : {context told : Bool} {c0 : ContextLocals} {a b c e g : Writer} {xs : List Instr} {asks : List AskedHelper} (post : Option (Id Funcs)) → Emits a b (ReadsSlots context c0) → Emits b c (ExitsCall told) → Wrote c e xs → GrewAsking asks e g
    → IfSome post (λ (f : Id Funcs). f.number < length (functions_of a.sections)) → IfSome post (λ (f : Id Funcs). f.number < length (functions_of g.sections))
finish_there {a = a} {g = g} post x y z r h = post_there post a.sections g.sections (extended_on x.grew.imports (extended_on y.grew.imports (extended_on (extended_none z.imports) r.imports))) h

-- ---- all steps, and a barrier around them

pub written_steps : {t : Tables} {d : AdapterData} {debug : Bool} {o : CallOptions} {l : SyncPlaces} {before between after : Fuel} {a b c : Writer} → WrittenCall t d debug o l before between a b → WrittenReturn t d debug o l between after b c → WrittenSteps t d debug o l before after a c
written_steps {d = d} {debug} {o} {l} {between = between} {a = a} {b} {c} x y =
    let taken_b : taken_in b ≡ taken_in a = λ n. λ i. (x.grew.still i) n in
    record {
      grew = grew_on x.grew y.grew;
      asks = x.asks ++ y.asks;
      translated = record { between = between; first = x.asks; second = y.asks; is = refl; params = x.translated; none = x.none; results = y.translated };
      asked = asks_on y.grew.imports x.asked y.asked;
      lift_size = y.lift_size;
      lower_size = y.lower_size;
      emits = λ ps rs qs ss hl hf can can'.
          let returns : EmitsAsking y.asks b c (IsReturnCode d debug o l (taken_in a) rs ss) = subst (λ taken. EmitsAsking y.asks b c (IsReturnCode d debug o l taken rs ss)) taken_b (y.emits ps rs qs ss hl hf can') in
          emits_then (λ M p locals code more v w. record { call = code; return = more; is = refl; calls = v; returns = w }) (x.emits ps rs qs ss hl hf can) returns;
    }

pub written_barred : {t : Tables} {d : AdapterData} {debug : Bool} {o : CallOptions} {l : SyncPlaces} {before after : Fuel} {a b c e f : Writer} {out body : List Instr} → Began a b out → WrittenSteps t d debug o l before after b c → EndedBody c e out body → WroteBarrier e f body → WrittenBarred t d debug o l before after a f
written_barred {d = d} {debug} {o} {l} {a = a} {b} {c} {e} {f} began x ended barrier =
    let taken_b : taken_in b ≡ taken_in a = ap (λ ls. λ i. is_local_in_use (slice_get ls.items i)) began.locals in
    record {
      grew = grew_barrier began ended barrier x.grew;
      asks = x.asks;
      translated = x.translated;
      asked = asks_same began.imports (sym barrier.wrote.imports)
          (asks_kept barrier.took.imports (asks_same refl (sym ended.imports) x.asked) (runtime_new barrier.took.imported));
      lift_size = x.lift_size;
      lower_size = x.lower_size;
      emits = λ ps rs qs ss hl hf can can'. barrier_emits began ended barrier (subst (λ taken. EmitsAsking x.asks b c (IsStepsCode d debug o l taken ps rs qs ss)) taken_b (x.emits ps rs qs ss hl hf can can'));
    }

-- ---- the whole

-- What was written for a sync adapter: its steps, in a barrier or not, and the results on the stack.
pub record WrittenSync (t : Tables) (d : AdapterData) (debug : Bool) (o : CallOptions) (l : SyncPlaces) (before after : Fuel) (old new : Writer) : Type 0 where
  pub asks : List AskedHelper
  pub translated : TranslatesSync t d debug o.concurrency l.passed before after asks
  pub grew : GrewAsking asks old new
  pub asked : AsksFor t debug o.concurrency asks old.sections new.sections
  pub lift_size : (qs ss : List Shape) → HasSignature t d.lift.ty qs ss → tuple_size (linear_of d.lift).memory64 ss ≤ 4294967295
  pub lower_size : (ps rs : List Shape) → HasSignature t d.lower.ty ps rs → tuple_size (linear_of d.lower).memory64 rs ≤ 4294967295
  pub emits : (ps rs qs ss : List Shape) → HasSignature t d.lower.ty ps rs → HasSignature t d.lift.ty qs ss → CanMoveTuple ps qs → CanMoveTuple ss rs → EmitsAsking asks old new (IsSyncCode d debug o l (taken_in old) ps rs qs ss)

pub sync_barred : {t : Tables} {d : AdapterData} {debug : Bool} {o : CallOptions} {l : SyncPlaces} {before after : Fuel} {a b c : Writer} → o.barrier ≡ true → WrittenBarred t d debug o l before after a b → Wrote b c (pushed_code l.results) → WrittenSync t d debug o l before after a c
sync_barred {t} {d} {debug} {o} {l} {before} {after} on x y =
    let back = emits_wrote (pushed_ranged l.results) y in
    record {
      grew = grew_on x.grew back.grew;
      asks = x.asks ++ [];
      translated = subst (λ (xs : List AskedHelper). TranslatesSync t d debug o.concurrency l.passed before after xs) (sym (append-nil x.asks)) x.translated;
      asked = asks_before back.grew.imports x.asked (emits_new back);
      lift_size = x.lift_size;
      lower_size = x.lower_size;
      emits = λ ps rs qs ss hl hf can can'.
          emits_then {Q = Is (pushed_code l.results)} (λ M p locals code more v w. record {
            steps = v.body;
            uncaught = Some v.place;
            is = λ i. v.is i ++ w i;
            barrier = subst (λ b. KnowsUncaught b M p (Some v.place)) (sym on) v.has;
            are_steps = v.inner;
          }) (x.emits ps rs qs ss hl hf can can') back;
    }

pub sync_alone : {t : Tables} {d : AdapterData} {debug : Bool} {o : CallOptions} {l : SyncPlaces} {before after : Fuel} {a b c : Writer} → o.barrier ≡ false → WrittenSteps t d debug o l before after a b → Wrote b c (pushed_code l.results) → WrittenSync t d debug o l before after a c
sync_alone {t} {d} {debug} {o} {l} {before} {after} off x y =
    let back = emits_wrote (pushed_ranged l.results) y in
    record {
      grew = grew_on x.grew back.grew;
      asks = x.asks ++ [];
      translated = subst (λ (xs : List AskedHelper). TranslatesSync t d debug o.concurrency l.passed before after xs) (sym (append-nil x.asks)) x.translated;
      asked = asks_before back.grew.imports x.asked (emits_new back);
      lift_size = x.lift_size;
      lower_size = x.lower_size;
      emits = λ ps rs qs ss hl hf can can'.
          emits_then {Q = Is (pushed_code l.results)} (λ M p locals code more v w. record {
            steps = code;
            uncaught = None;
            is = ap (λ c. code ++ c) w;
            barrier = subst (λ b. KnowsUncaught b M p None) (sym off) tt;
            are_steps = v;
          }) (x.emits ps rs qs ss hl hf can can') back;
    }
