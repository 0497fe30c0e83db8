-- What was written for the steps of adapters that name functions of the module.
use Rattle.std.proofs.Common.{◌≡◌, ℕ, ◌<◌, Bool, true, false, List, [], ◌∷◌, ◌++◌, Option, Some, None, refl, sym, ap, ◌∙◌, subst, arith, append_assoc, append-nil, length, length-append}
use Rattle.std.specs.Prelude.{IfSome}
use Rattle.fact_entity.specs.declared.id.Id.{Id}
use Rattle.fact_entity.specs.declared.table.Funcs.{Funcs}
use Rattle.fact_wasm.specs.declared.instr.FuncName.TheVariants as func
use Rattle.fact_wasm.specs.declared.instr.Instr.{Instr}
use Rattle.fact_wasm.specs.declared.instr.Instr.TheVariants as I
use Rattle.fact_wasm.specs.declared.module.WasmModule.{WasmModule}
use Rattle.fact_wasm.specs.declared.types.ValType.{ValType}
use Rattle.fact_types.specs.declared.outside.Trap.TheVariants.{CannotLeaveComponent}
use Rattle.fact_actions.specs.Running.{ImportPlaces}
use Rattle.fact_code_laws.specs.Code.{guard_code}
use Rattle.fact_code_laws.specs.Context.{read_slots_code, restore_code, CanWriteSlotsIf}
use Rattle.fact_code_laws.specs.Places.{Slot}
use Rattle.fact_emit.specs.Checks.{Guarded}
use Rattle.fact_emit.specs.Emits.{Grew, Emits}
use Rattle.fact_emit.specs.Pieces.{Is}
use Rattle.fact_emit.specs.RuntimeCalls.{CallsRuntime, ReadsSlots, WritesSlots, slots_of}
use Rattle.fact_emit.specs.States.{functions_of}
use Rattle.fact_emit.specs.Writers.{Wrote}
use Rattle.fact_emit.specs.declared.context.ContextLocals.{ContextLocals}
use Rattle.fact_emit.specs.declared.imported.RuntimeFunction.TheVariants as runtime
use Rattle.fact_emit.specs.declared.writer.Writer.{Writer}
use Rattle.fact_emit.proofs.CheckMoves.{guarded_as}
use Rattle.fact_emit.proofs.Emitting.{emits_as, emits_before, emits_nothing, emits_then, emits_wrote, wrote_then, grew_on}
use Rattle.fact_steps.specs.Code.{back_code, pushed_code}
use Rattle.fact_steps.specs.Steps.{ChecksMayLeave, EntersCall, ExitsCall, FinishesCall, RestoresAndFinishes, ReturnsPost}
use Rattle.fact_steps.proofs.RangedSteps.{back_ranged, constants_ranged, post_ranged}

-- the test whether an instance may leave
pub may_leave_emits : {a b : Writer} {test : List Instr} (flags saved : ℕ) → test ≡ I.GlobalGet flags ∷ I.LocalTee saved ∷ [] → Emits a b (Guarded test CannotLeaveComponent []) → Emits a b (ChecksMayLeave flags saved)
may_leave_emits flags saved same x =
    emits_as (λ M p locals code g. record { trap = g.place; has = g.has; is = g.is ∙ append-nil (guard_code (I.GlobalGet flags ∷ I.LocalTee saved ∷ []) g.place) }) (guarded_as same x)

-- ---- the steps that not every adapter has

-- the runtime is told of the call, or is not
pub enter_emits : {a b c e : Writer} (told : Bool) (instance : ℕ) → told ≡ true → Wrote a b (I.I32Const 0 ∷ []) → Wrote b c (I.I32Const instance ∷ []) → Emits c e (CallsRuntime runtime.EnterSyncCall) → Emits a e (EntersCall told instance)
enter_emits true instance is x y z =
    emits_then {P = Is (I.I32Const 0 ∷ I.I32Const instance ∷ [])} (λ M p locals code more e g. record { is = λ i. e i ++ g.is i; has = g.has }) (emits_wrote (constants_ranged 0 instance) (wrote_then x y)) z
enter_emits false instance is x y z = absurd (let no : false ≡ true = is in cc)

pub no_enter : (a : Writer) (told : Bool) (instance : ℕ) → told ≡ false → Emits a a (EntersCall told instance)
no_enter a false instance is = emits_nothing (λ M p locals. record { is = refl; has = tt })
no_enter a true instance is = absurd (let no : true ≡ false = is in cc)

pub exit_emits : {a b : Writer} (told : Bool) → told ≡ true → Emits a b (CallsRuntime runtime.ExitSyncCall) → Emits a b (ExitsCall told)
exit_emits true is x = emits_as (λ M p locals code g. record { is = g.is; has = g.has }) x
exit_emits false is x = absurd (let no : false ≡ true = is in cc)

pub no_exit : (a : Writer) (told : Bool) → told ≡ false → Emits a a (ExitsCall told)
no_exit a false is = emits_nothing (λ M p locals. record { is = refl; has = tt })
no_exit a true is = absurd (let no : true ≡ false = is in cc)

-- the post-return, whose place was there before
pub post_emits : {a b c e f g : Writer} (function : ℕ) (context : Bool) (callee own : ContextLocals) (given : List Slot) → function < length (functions_of a.sections)
    → Emits a b (ReadsSlots context own) → Emits b c (WritesSlots context callee) → Wrote c e (pushed_code given) → Wrote e f (I.Call (func.Import function) ∷ []) → Emits f g (WritesSlots context own)
    → Emits a g (ReturnsPost function context callee own given)
post_emits {a} {b} {c} {e} {f} {g} function context callee own given below x y z v w =
    let grew_c : Grew a c = grew_on x.grew y.grew in
    let imports : ℕ = length (functions_of c.sections) in
    let there : function < imports = omega (arith, below, ap length grew_c.imports.functions.is, length-append (functions_of a.sections) grew_c.imports.functions.more) in
    let call = emits_before (post_ranged imports function given there) (wrote_then z v) in
    let Last : WasmModule → ImportPlaces → List ValType → List Instr → Type 0 = λ M p locals code. (code ≡ (pushed_code given ++ I.Call (func.Import function) ∷ []) ++ restore_code context (slots_of p own)) × CanWriteSlotsIf context M p (slots_of p own) in
    let last : Emits c g Last = emits_then {P = Is (pushed_code given ++ I.Call (func.Import function) ∷ [])} (λ M p locals code more is r. (λ i. is i ++ r.is i, r.can)) call w in
    let Middle : WasmModule → ImportPlaces → List ValType → List Instr → Type 0 = λ M p locals code.
    (code ≡ restore_code context (slots_of p callee) ++ ((pushed_code given ++ I.Call (func.Import function) ∷ []) ++ restore_code context (slots_of p own))) × CanWriteSlotsIf context M p (slots_of p callee) × CanWriteSlotsIf context M p (slots_of p own) in
    let middle : Emits b g Middle = emits_then {Q = Last} (λ M p locals code more r is. (λ i. r.is i ++ is.0 i, r.can, is.1)) y last in
    emits_then {Q = Middle} (λ M p locals code more r is. record {
      is = (λ i. r.is i ++ is.0 i)
          ∙ ap (λ c. read_slots_code context (slots_of p own) ++ (restore_code context (slots_of p callee) ++ c)) (append_assoc (pushed_code given) (I.Call (func.Import function) ∷ []) (restore_code context (slots_of p own)));
      can = record { reads_own = r.can; writes = is.1; writes_own = is.2 };
    }) x middle

pub finish_emits : {a b : Writer} (o : Option (Id Funcs)) (f : Id Funcs) (context : Bool) (callee own : ContextLocals) (given : List Slot) → o ≡ Some f → Emits a b (ReturnsPost f.number context callee own given) → Emits a b (FinishesCall o context callee own given)
finish_emits {a} {b} o f context callee own given is x =
    subst (λ o. Emits a b (FinishesCall o context callee own given)) (sym is) (emits_as (λ M p locals code r. record { is = r.is; can = r.can }) x)

pub no_finish : (a : Writer) (o : Option (Id Funcs)) (context : Bool) (callee own : ContextLocals) (given : List Slot) → o ≡ None → Emits a a (FinishesCall o context callee own given)
no_finish a None context callee own given is = emits_nothing (λ M p locals. record { is = refl; can = tt })
no_finish a (Some f) context callee own given is = absurd (let no : Some f ≡ None = is in cc)

-- the flags are set back, which imports nothing, and then the post-return is called
pub still_there : (o : Option (Id Funcs)) {a b : Writer} {added : List Instr} → Wrote a b added → IfSome o (λ (f : Id Funcs). f.number < length (functions_of a.sections)) → IfSome o (λ (f : Id Funcs). f.number < length (functions_of b.sections))
still_there o x h = subst (λ s. IfSome o (λ (f : Id Funcs). f.number < length (functions_of s))) (sym x.imports) h

pub restored_finish : {a b c : Writer} (flags saved : ℕ) (o : Option (Id Funcs)) (context : Bool) (callee own : ContextLocals) (given : List Slot) → Wrote a b (back_code flags saved) → Emits b c (FinishesCall o context callee own given)
    → Emits a c (RestoresAndFinishes flags saved o context callee own given)
restored_finish flags saved o context callee own given x y = emits_then {P = Is (back_code flags saved)} (λ M p locals code more e z. record { is = λ i. e i ++ z.is i; can = z.can }) (emits_wrote (back_ranged flags saved) x) y
