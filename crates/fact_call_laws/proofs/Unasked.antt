-- An outcome of a callee that answered nothing is a run of a callee that answers any results, and there the callee's calls do not return.
use Rattle.std.proofs.Common.{◌≡◌, ℕ, List, [], ◌∷◌, ◌++◌, Option, Some, None, refl, sym, ap, subst}
use Rattle.std.specs.Prelude.{slice_get, if◌then◌else◌}
use Rattle.std.proofs.lemmas.Bool.{eq-eqb}
use Rattle.fact_wasm.specs.declared.module.WasmImport.{WasmImport}
use Rattle.fact_wasm.specs.declared.module.WasmModule.{WasmModule}
use Rattle.fact_types.specs.Tables.{Tables}
use Rattle.fact_types.proofs.ShapeLaws.{none_some}
use Rattle.fact_machine.specs.declared.types.Answer.TheVariants.{Returns}
use Rattle.fact_machine.specs.declared.types.CoreValue.{CoreValue}
use Rattle.fact_machine.specs.declared.types.Event.{Event}
use Rattle.fact_machine.specs.declared.types.MachineState.{MachineState}
use Rattle.fact_values.specs.declared.value.Value.{Value}
use Rattle.fact_host.specs.declared.calling.HostCall.{HostCall}
use Rattle.fact_host.specs.declared.calling.HostOutcome.{HostOutcome}
use Rattle.fact_host.specs.declared.known.Known.{Known}
use Rattle.fact_host.specs.declared.roles.Role.{Role}
use Rattle.fact_host.specs.declared.roles.Role.TheVariants as role
use Rattle.fact_host.specs.Contract.{IsOutcomeOf, steps_given}
use Rattle.fact_host.specs.Roles.{IsRole, IsRoleBy, function_imports, is_place, role_by_place}
use Rattle.fact_host.specs.Rules.{Answers, AreAnswers, CallShapes, CallsBy}
use Rattle.fact_call_laws.proofs.Setting.{IsRunOf}

-- ---- by the rules of a callee that answered nothing

calls_any : (k : Known) (c : HostCall) (s : CallShapes) (vs : List Value) (e : Event) (k' : Known) → CallsBy k c s None e k' → CallsBy k c s (Some vs) e k'
calls_any k c s vs e k' h = record {
  has_room = h.has_room;
  lacks_room = λ q. let r = h.lacks_room q in absurd (none_some None r.values refl r.is_answer);
  answers = record {
    traps = h.answers.traps;
    returns = λ rs after q. let r = h.answers.returns rs after q in absurd (none_some None r.0 refl r.1);
    never_throws = h.answers.never_throws;
  };
}

answers_any : (c : HostCall) (s : CallShapes) (vs : List Value) (r : Role) (k : Known) (e : Event) (k' : Known) → Answers c s None r k e k' → Answers c s (Some vs) r k e k'
answers_any c s vs role.Callee k e k' h = calls_any k c s vs e k' h
answers_any c s vs role.LiftRealloc k e k' h = h
answers_any c s vs role.LowerRealloc k e k' h = h
answers_any c s vs role.PostReturn k e k' h = h
answers_any c s vs (role.Transcoder o from from64 to to64) k e k' h = h
answers_any c s vs role.Transfer k e k' h = h
answers_any c s vs role.Slot k e k' h = h
answers_any c s vs role.Told k e k' h = h
answers_any c s vs role.Refused k e k' h = h

all_any : (Named : ℕ → Role → Type 0) (c : HostCall) (s : CallShapes) (vs : List Value) (k : Known) (log : List Event) → AreAnswers Named c s None k log → AreAnswers Named c s (Some vs) k log
all_any Named c s vs k [] h = tt
all_any Named c s vs k (e ∷ es) h = (h.0, h.1, h.2, answers_any c s vs h.0 k e h.2 h.3, all_any Named c s vs h.2 es h.4)

-- the place of the callee has its role
callee_role : (m : WasmModule) (c : HostCall) (n : ℕ) (w : WasmImport) (r : Role) → n ≡ c.callee → IsRole m c n w r → r ≡ role.Callee
callee_role m c n w r is h =
    let here : role_by_place c n ≡ Some role.Callee = ap
    (λ b. if b then Some role.Callee
    else (if is_place c.lift.realloc n then Some role.LiftRealloc
    else (if is_place c.lower.realloc n then Some role.LowerRealloc
    else (if is_place c.post_return n then Some role.PostReturn else None)))) (eq-eqb c.callee n (sym is)) in
    subst (IsRoleBy m w r) here h

module _ (m : WasmModule) (t : Tables) (c : HostCall) (s : CallShapes) where
  abbrev Named : ℕ → Role → Type 0
  Named n r = (w : WasmImport) × (slice_get (function_imports m) n ≡ Some w) × IsRole m c n w r

  -- a call of the callee does not return
  silent : (k : Known) (e : Event) (k' : Known) (r : Role) → Named e.func r → Answers c s None r k e k' → e.func ≡ c.callee → (results : List CoreValue) (after : MachineState) → e.answer ≡ Returns results after → ⊥
  silent k e k' r named rule is results after answer =
      let called : CallsBy k c s None e k' = subst (λ z. Answers c s None z k e k') (callee_role m c e.func named.0 r is named.2) rule in
      let did = called.answers.returns results after answer in
      none_some None did.0 refl did.1

  pub silent_at : (k : Known) (front : List Event) (e : Event) (behind : List Event) → AreAnswers Named c s None k (front ++ (e ∷ behind)) → e.func ≡ c.callee → (results : List CoreValue) (after : MachineState) → e.answer ≡ Returns results after → ⊥
  silent_at k [] e behind h = silent k e h.2 h.0 h.1 h.3
  silent_at k (v ∷ front) e behind h = silent_at h.2 front e behind h.4

  -- it is a run of a callee that answers any results
  pub run_any : (args vs : List Value) (given : Option (List Value)) (o : HostOutcome) → IsOutcomeOf m t c s args None given o → IsRunOf m t c s args (Some vs) steps_given o.outcome
  run_any args vs given o h = record {
    first = h.first;
    args = h.args;
    is_run = h.is_run;
    known = h.known;
    known_first = h.known_first;
    ruled = all_any Named c s vs h.known o.outcome.log h.ruled;
    state_typed = h.state_typed;
    args_typed = h.args_typed;
    answers_typed = h.answers_typed;
    flags = h.flags;
    lower_memory = h.lower_memory;
    lift_memory = h.lift_memory;
    area = h.area;
    begins = h.begins;
    honest = h.honest;
    stored = h.stored;
  }
