-- A callee that answered nothing was given nothing: its first call, where its parameters lift, is not answered by a trap.
use Rattle.std.proofs.Common.{◌≡◌, ℕ, ◌+◌, Bool, true, false, List, [], ◌∷◌, Option, Some, None, refl, sym, ap, ◌∙◌, subst, cond}
use Rattle.std.specs.Prelude.{nat_eq, if◌then◌else◌}
use Rattle.std.proofs.lemmas.Bool.{eqb-true, eq-eqb, true≢false}
use Rattle.fact_wasm.specs.declared.module.WasmImport.{WasmImport}
use Rattle.fact_wasm.specs.declared.module.WasmModule.{WasmModule}
use Rattle.fact_types.specs.Tables.{Tables}
use Rattle.fact_types.proofs.ShapeLaws.{none_some}
use Rattle.fact_machine.specs.declared.types.Answer.{Answer}
use Rattle.fact_machine.specs.declared.types.Answer.TheVariants.{Returns, Traps, Throws}
use Rattle.fact_machine.specs.declared.types.CoreValue.{CoreValue}
use Rattle.fact_machine.specs.declared.types.Event.{Event}
use Rattle.fact_machine.specs.declared.types.MachineState.{MachineState}
use Rattle.fact_machine.specs.declared.types.Outcome.{Outcome}
use Rattle.fact_machine.specs.Causes.{answers_of}
use Rattle.fact_machine.specs.LastTrap.{TrapIsLast}
use Rattle.fact_machine.proofs.LastTrap.{traps_are_last}
use Rattle.fact_values.specs.declared.value.Value.{Value}
use Rattle.fact_host.specs.declared.calling.HostCall.{HostCall}
use Rattle.fact_host.specs.declared.calling.HostOutcome.{HostOutcome}
use Rattle.fact_host.specs.declared.calling.HostSide.{HostSide}
use Rattle.fact_host.specs.declared.known.Known.{Known}
use Rattle.fact_host.specs.declared.roles.Role.{Role}
use Rattle.fact_host.specs.declared.roles.Role.TheVariants as role
use Rattle.fact_host.specs.Contract.{IsOutcomeOf, first_call, steps_given}
use Rattle.fact_host.specs.HonestLaws.{HasRole}
use Rattle.fact_host.specs.Roles.{IsRole, IsRoleBy, is_place, role_by_place}
use Rattle.fact_host.specs.Rules.{Again, Answers, AreAnswers, CallShapes, CallsBy, MustNotCall, NoParams, NoRoomForResults, ReallocsAt, after_region, asked_of, next_region, params_of, raised, stays}
use Rattle.fact_host.proofs.Hosting.{read_by, read_is}

-- ---- one call

returned_traps : (a : Answer) (results : List CoreValue) (after : MachineState) → a ≡ Returns results after → a ≡ Traps → ⊥
returned_traps a results after p q = cc

thrown_traps : (a : Answer) → a ≡ Throws → a ≡ Traps → ⊥
thrown_traps a p q = cc

-- a region leaves it as it is whether the callee was called
region_returned : (k : Known) (n : ℕ) (e : Event) → (after_region k n (asked_of e)).returned ≡ k.returned
region_returned k n e = by (stays (asked_of e)) refl
  where
    by : (b : Bool) → stays (asked_of e) ≡ b → (after_region k n (asked_of e)).returned ≡ k.returned
    by true q = ap (λ z. (cond z k (raised k n (next_region k n (asked_of e) + (asked_of e).size))).returned) q
    by false q = ap (λ z. (cond z k (raised k n (next_region k n (asked_of e) + (asked_of e).size))).returned) q

realloc_returned : (k k' : Known) (side : HostSide) (dest : Bool) (e : Event) (o : Option ℕ) → ReallocsAt k side dest e k' o → (results : List CoreValue) (after : MachineState) → e.answer ≡ Returns results after → k'.returned ≡ k.returned
realloc_returned k k' side dest e None rule results after q = absurd (returned_traps e.answer results after q rule)
realloc_returned k k' side dest e (Some n) rule results after q = ap (λ (z : Known). z.returned) (rule.returns results after q).3 ∙ region_returned k n e

realloc_never : (k k' : Known) (side : HostSide) (dest : Bool) (e : Event) (o : Option ℕ) → ReallocsAt k side dest e k' o → e.answer ≡ Throws → ⊥
realloc_never k k' side dest e None rule q = thrown_traps e.answer q rule
realloc_never k k' side dest e (Some n) rule q = rule.never_throws q

module _ (c : HostCall) (s : CallShapes) where
  -- A call that returned is none of a callee that answered nothing, and leaves it as it is whether the callee was called.
  returned_stays : (r : Role) (k : Known) (e : Event) (k' : Known) → Answers c s None r k e k' → (results : List CoreValue) (after : MachineState) → e.answer ≡ Returns results after → k'.returned ≡ k.returned
  returned_stays role.Callee k e k' rule results after q = let did = rule.answers.returns results after q in absurd (none_some None did.0 refl did.1)
  returned_stays role.LiftRealloc k e k' rule results after q = realloc_returned k k' c.lift (if k.returned then false else true) e c.lift.memory rule results after q
  returned_stays role.LowerRealloc k e k' rule results after q = realloc_returned k k' c.lower k.returned e c.lower.memory rule results after q
  returned_stays role.PostReturn k e k' rule results after q = ap (λ (z : Known). z.returned) (rule.returns results after q).2
  returned_stays (role.Transcoder o from from64 to to64) k e k' rule results after q = ap (λ (z : Known). z.returned) (rule.returns results after q).5
  returned_stays role.Transfer k e k' rule results after q = let did = (rule.returns results after q).1 in ap (λ (z : Known). z.returned) did.2
  returned_stays role.Slot k e k' rule results after q = ap (λ (z : Known). z.returned) (rule.returns results after q).2
  returned_stays role.Told k e k' rule results after q = ap (λ (z : Known). z.returned) (rule.returns results after q).2
  returned_stays role.Refused k e k' rule results after q = absurd (returned_traps e.answer results after q rule)

  never_throws : (r : Role) (k : Known) (e : Event) (k' : Known) → Answers c s None r k e k' → e.answer ≡ Throws → ⊥
  never_throws role.Callee k e k' rule q = rule.answers.never_throws q
  never_throws role.LiftRealloc k e k' rule q = realloc_never k k' c.lift (if k.returned then false else true) e c.lift.memory rule q
  never_throws role.LowerRealloc k e k' rule q = realloc_never k k' c.lower k.returned e c.lower.memory rule q
  never_throws role.PostReturn k e k' rule q = rule.never_throws q
  never_throws (role.Transcoder o from from64 to to64) k e k' rule q = rule.never_throws q
  never_throws role.Transfer k e k' rule q = rule.never_throws q
  never_throws role.Slot k e k' rule q = rule.never_throws q
  never_throws role.Told k e k' rule q = rule.never_throws q
  never_throws role.Refused k e k' rule q = thrown_traps e.answer q rule

  -- a callee that was not called yet and answered nothing is called with nothing that lifts
  not_lifted : (k : Known) (e : Event) (k' : Known) → CallsBy k c s None e k' → k.returned ≡ false → params_of c s.lift_params e ≡ None
  not_lifted k e k' rule waits = lifts (params_of c s.lift_params e) refl
    where
      must : (vs : List Value) → params_of c s.lift_params e ≡ Some vs → MustNotCall k c s.lift_params rule.has_room e → ⊥
      must vs q (Again r) = true≢false (sym r ∙ waits)
      must vs q (NoParams n) = none_some (params_of c s.lift_params e) vs n q
      must vs q (NoRoomForResults r) = let x = rule.lacks_room r in none_some None x.values refl x.is_answer

      called : (vs : List Value) → params_of c s.lift_params e ≡ Some vs → (a : Answer) → e.answer ≡ a → ⊥
      called vs q (Returns results after) is = let did = rule.answers.returns results after is in none_some None did.0 refl did.1
      called vs q Traps is = must vs q (rule.answers.traps.0 is)
      called vs q Throws is = rule.answers.never_throws is

      lifts : (o : Option (List Value)) → params_of c s.lift_params e ≡ o → params_of c s.lift_params e ≡ None
      lifts None q = q
      lifts (Some vs) q = absurd (called vs q e.answer refl)

-- the place of the callee has its role
callee_role : (m : WasmModule) (c : HostCall) (n : ℕ) (w : WasmImport) (r : Role) → c.callee ≡ n → IsRole m c n w r → r ≡ role.Callee
callee_role m c n w r is h =
    let here : role_by_place c n ≡ Some role.Callee = ap
    (λ b. if b then Some role.Callee
    else (if is_place c.lift.realloc n then Some role.LiftRealloc
    else (if is_place c.lower.realloc n then Some role.LowerRealloc
    else (if is_place c.post_return n then Some role.PostReturn else None)))) (eq-eqb c.callee n is) in
    subst (IsRoleBy m w r) here h

-- ---- all calls

module _ (m : WasmModule) (c : HostCall) (s : CallShapes) where
  unread : (k : Known) (log : List Event) → AreAnswers (HasRole m c) c s None k log → TrapIsLast log → k.returned ≡ false → read_by c s (first_call c.callee log) ≡ None
  unread k [] rules last waits = refl
  unread k (e ∷ es) rules last waits = by (nat_eq c.callee e.func) refl e.answer refl (λ w. unread rules.2 es rules.4 last.1 w)
    where
      first : (b : Bool) → nat_eq c.callee e.func ≡ b → read_by c s (first_call c.callee (e ∷ es)) ≡ read_by c s (cond b (Some e) (first_call c.callee es))
      first b q = ap (λ z. read_by c s (cond z (Some e) (first_call c.callee es))) q

      own : nat_eq c.callee e.func ≡ true → params_of c s.lift_params e ≡ None
      own q = not_lifted c s k e rules.2 (subst (λ z. Answers c s None z k e rules.2) (callee_role m c e.func rules.1.0 rules.0 (eqb-true c.callee e.func q) rules.1.2) rules.3) waits

      by : (b : Bool) → nat_eq c.callee e.func ≡ b → (a : Answer) → e.answer ≡ a → (rules.2.returned ≡ false → read_by c s (first_call c.callee es) ≡ None) → read_by c s (first_call c.callee (e ∷ es)) ≡ None
      by true q a is more = first true q ∙ own q
      by false q (Returns results after) is more = first false q ∙ more (returned_stays c s rules.0 k e rules.2 rules.3 results after is ∙ waits)
      by false q Traps is more = first false q ∙ ap (λ l. read_by c s (first_call c.callee l)) (last.0 is)
      by false q Throws is more = absurd (never_throws c s rules.0 k e rules.2 rules.3 is)

  -- So nothing was reached that it could be given.
  pub not_given : (t : Tables) (args : List Value) (given : Option (List Value)) (o : HostOutcome) → IsOutcomeOf m t c s args None given o → o.params ≡ None
  not_given t args given o h =
      let traps : TrapIsLast o.outcome.log = subst TrapIsLast (sym (ap (λ (z : Outcome). z.log) h.is_run)) (traps_are_last m c.func h.args h.first (answers_of o.outcome.log) steps_given) in
      h.params ∙ read_is c s o.outcome.log ∙ unread h.known o.outcome.log h.ruled traps h.known_first.returned
