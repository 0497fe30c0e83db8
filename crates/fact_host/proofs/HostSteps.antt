-- Each answer of a host keeps what holds of it.
use Rattle.std.proofs.Common.{◌≡◌, ◌≢◌, ℕ, inl, inr, true, false, List, [], ◌∷◌, ◌++◌, Option, Some, None, sym, ap, ◌∙◌, subst}
use Rattle.fact_machine.specs.declared.types.Answer.{Answer}
use Rattle.fact_machine.specs.declared.types.Answer.TheVariants.{Traps}
use Rattle.fact_machine.specs.declared.types.CoreValue.{CoreValue}
use Rattle.fact_machine.specs.declared.types.Event.{Event}
use Rattle.fact_machine.specs.declared.types.MachineState.{MachineState}
use Rattle.fact_values.specs.declared.value.Value.{Value}
use Rattle.fact_host.specs.declared.callee.HostError.{HostError}
use Rattle.fact_host.specs.declared.callee.HostError.TheVariants.{OutOfMemory, Unsuited, OverLimit, NoResults}
use Rattle.fact_host.specs.declared.calling.HostCall.{HostCall}
use Rattle.fact_host.specs.declared.host.Host.{Host}
use Rattle.fact_host.specs.declared.known.Known.{Known}
use Rattle.fact_host.specs.declared.roles.Role.{Role}
use Rattle.fact_host.specs.declared.roles.Role.TheVariants as role
use Rattle.fact_host.specs.Callees.{MayKeepGiven, number_of_error}
use Rattle.fact_host.specs.Contract.{AnsweredTooMuch, AnsweredUnsuited}
use Rattle.fact_host.specs.Describes.{HasCallShapes}
use Rattle.fact_host.specs.Hosts.{event_by}
use Rattle.fact_host.specs.Lawful.{RoleAt, IsHosting, Told, IsAfter, IsAnswerOf, IsCalleeCause, IsLawful, IsAnswered, IsRefusal, IsSameHost, hosted, IsLawfulHost, GoesOnBy, HostStays}
use Rattle.fact_host.specs.Rules.{CallShapes, Answers, params_of}
use Rattle.fact_host.proofs.Hosting.{go_quiet, go_again, go_unlifted, go_asked}

pub same_both : {C : Type 0} (a b c : Host C) → IsSameHost a b → IsSameHost b c → IsSameHost a c
same_both a b c h g = record { types = g.types ∙ h.types; call = g.call ∙ h.call; roles = g.roles ∙ h.roles; callee = g.callee ∙ h.callee; kept = g.kept ∙ h.kept }

-- a later time of a host is one of a host
pub hosting_on : {C : Type 0} (first last : Host C) → IsSameHost first last → IsHosting first.types.now first.call.now first.kept.now.roles → IsHosting last.types.now last.call.now last.kept.now.roles
hosting_on first last same h =
    subst (λ x. IsHosting x last.call.now last.kept.now.roles) (sym same.types)
    (subst (λ x. IsHosting first.types.now x last.kept.now.roles) (sym same.call) (subst (IsHosting first.types.now first.call.now) (sym same.roles) h))

-- ---- what came of asking a callee

-- an error of the callee ends the call
error_cause : (s : CallShapes) (t : Told) (error : HostError) → t.last ≡ number_of_error error → IsCalleeCause s t error
error_cause s t OutOfMemory e = tt
error_cause s t Unsuited e = inl e
error_cause s t OverLimit e = inl e
error_cause s t NoResults e = e

pub error_ends : (k : Known) (c : HostCall) (s : CallShapes) (t : Told) (params : List Value) (before : MachineState) (answer : Answer) (k' : Known) (error : HostError) (e : Option HostError)
    → e ≡ Some error → t.last ≡ number_of_error error → MayKeepGiven t.given params → answer ≡ Traps → IsAnswered k c s t params before answer k' e
error_ends k c s t params before answer k' error e is last given traps = subst (IsAnswered k c s t params before answer k') (sym is) (error_cause s t error last, given, traps)

-- values of the callee that are not taken end it too
refusal_cause : (s : CallShapes) (t : Told) (values : List Value) (error : HostError) → t.answered ≡ Some values → t.last ≡ 0 → IsRefusal s values error → IsCalleeCause s t error
refusal_cause s t values OutOfMemory answered none r = tt
refusal_cause s t values Unsuited answered none r = inr (none, subst (AnsweredUnsuited s) (sym answered) r)
refusal_cause s t values OverLimit answered none r = inr (none, subst (AnsweredTooMuch s) (sym answered) r)
refusal_cause s t values NoResults answered none r = absurd r

pub refusal_ends : (k : Known) (c : HostCall) (s : CallShapes) (t : Told) (params : List Value) (before : MachineState) (answer : Answer) (k' : Known) (values : List Value) (error : HostError) (e : Option HostError)
    → e ≡ Some error → t.answered ≡ Some values → t.last ≡ 0 → IsRefusal s values error → MayKeepGiven t.given params → answer ≡ Traps → IsAnswered k c s t params before answer k' e
refusal_ends k c s t params before answer k' values error e is answered none r given traps = subst (IsAnswered k c s t params before answer k') (sym is) (refusal_cause s t values error answered none r, given, traps)

-- others are answered by the rules
pub taken_answered : (k : Known) (c : HostCall) (s : CallShapes) (t : Told) (params : List Value) (before : MachineState) (answer : Answer) (k' : Known) (values : List Value) (e : Option HostError)
    → e ≡ None → t.answered ≡ Some values → t.last ≡ 0 → MayKeepGiven t.given params → (AnsweredUnsuited s (Some values) → ⊥) × (AnsweredTooMuch s (Some values) → ⊥) → IsAnswerOf k c s values before answer k'
    → IsAnswered k c s t params before answer k' e
taken_answered k c s t params before answer k' values e is answered none given taken h =
    subst (IsAnswered k c s t params before answer k') (sym is) (values, answered, none, given, record { suited = taken.0; fits = taken.1; is_answer = h })

-- ---- hosts

module _ {C : Type 0} (tells : C → Told) where
  same_hosted : (first last : Host C) (begun : List ℕ) → IsSameHost first last → hosted tells begun last ≡ hosted tells begun first
  same_hosted first last begun h = λ i. record { types = h.types i; call = h.call i; roles = h.roles i; begun = begun }

  -- what stays, from one time to the next
  pub stays_on : (Stays : C → C → Type 0) (begun old new : Host C) → IsSameHost old new → ((first : C) → Stays first old.callee.now → Stays first new.callee.now)
      → ((cursors : List ℕ) → IsLawfulHost tells cursors old → IsLawfulHost tells cursors new) → HostStays tells Stays begun old → HostStays tells Stays begun new
  stays_on Stays begun old new same callee lawful h = record {
    same = same_both begun old new h.same same;
    callee = λ first x. callee first (h.callee first x);
    lawful = λ cursors x. lawful cursors (h.lawful cursors x);
  }

  -- want of memory ends all
  pub out_of_memory : (cursors : List ℕ) (h : Host C) → h.kept.now.error ≡ Some OutOfMemory → IsLawfulHost tells cursors h
  out_of_memory cursors h e s shapes = subst (IsAfter (hosted tells cursors h) s (tells h.callee.now) h.kept.now.events h.kept.now.known h.kept.now.params) (sym e) tt

  -- what is decided on a host is decided on one that is the same
  moved : (first last : Host C) (begun : List ℕ) (t : Told) (events : List Event) (k : Known) (params : Option (List Value)) (error : Option HostError) → IsSameHost first last
      → IsLawful (hosted tells begun first) t events k params error → IsLawful (hosted tells begun last) t events k params error
  moved first last begun t events k params error same h = subst (λ x. IsLawful x t events k params error) (sym (same_hosted first last begun same)) h

  pub decided_quiet : (first last : Host C) (e : Event) (r : Role) → IsSameHost first last → last.callee.now ≡ first.callee.now → last.kept.now.params ≡ first.kept.now.params → last.kept.now.error ≡ first.kept.now.error
      → IsHosting first.types.now first.call.now first.kept.now.roles → RoleAt first.kept.now.roles e.func r → r ≢ role.Callee
      → ((s : CallShapes) (values : Option (List Value)) → Answers first.call.now s values r first.kept.now.known e last.kept.now.known) → last.kept.now.known.returned ≡ first.kept.now.known.returned → GoesOnBy tells e first last
  decided_quiet first last e r same callee params error hosts at ne answers returned begun lawful =
      moved first last begun (tells last.callee.now) (first.kept.now.events ++ e ∷ []) last.kept.now.known last.kept.now.params last.kept.now.error same
      (λ s shapes.
      subst (λ x. IsAfter (hosted tells begun first) s (tells x) (first.kept.now.events ++ e ∷ []) last.kept.now.known last.kept.now.params last.kept.now.error) (sym callee)
      (subst (λ x. IsAfter (hosted tells begun first) s (tells first.callee.now) (first.kept.now.events ++ e ∷ []) last.kept.now.known x last.kept.now.error) (sym params)
      (subst (λ x. IsAfter (hosted tells begun first) s (tells first.callee.now) (first.kept.now.events ++ e ∷ []) last.kept.now.known first.kept.now.params x) (sym error)
      (go_quiet (hosted tells begun first) s (tells first.callee.now) first.kept.now.events first.kept.now.known last.kept.now.known first.kept.now.params first.kept.now.error e r hosts.callee at ne (answers s) returned (lawful s shapes)))))

  pub decided_again : (first last : Host C) (args : List CoreValue) (before : MachineState) → IsSameHost first last → last.callee.now ≡ first.callee.now → last.kept.now.known ≡ first.kept.now.known → last.kept.now.params ≡ first.kept.now.params → last.kept.now.error ≡ first.kept.now.error
      → IsHosting first.types.now first.call.now first.kept.now.roles → (first.kept.now.error ≡ None → first.kept.now.known.returned ≡ true) → GoesOnBy tells (event_by first.call.now.callee args before Traps) first last
  decided_again first last args before same callee known params error hosts again begun lawful =
      moved first last begun (tells last.callee.now) (first.kept.now.events ++ event_by first.call.now.callee args before Traps ∷ []) last.kept.now.known last.kept.now.params last.kept.now.error same
      (λ s shapes.
      subst (λ x. IsAfter (hosted tells begun first) s (tells x) (first.kept.now.events ++ event_by first.call.now.callee args before Traps ∷ []) last.kept.now.known last.kept.now.params last.kept.now.error) (sym callee)
      (subst (λ x. IsAfter (hosted tells begun first) s (tells first.callee.now) (first.kept.now.events ++ event_by first.call.now.callee args before Traps ∷ []) x last.kept.now.params last.kept.now.error) (sym known)
      (subst (λ x. IsAfter (hosted tells begun first) s (tells first.callee.now) (first.kept.now.events ++ event_by first.call.now.callee args before Traps ∷ []) first.kept.now.known x last.kept.now.error) (sym params)
      (subst (λ x. IsAfter (hosted tells begun first) s (tells first.callee.now) (first.kept.now.events ++ event_by first.call.now.callee args before Traps ∷ []) first.kept.now.known first.kept.now.params x) (sym error)
      (go_again (hosted tells begun first) s (tells first.callee.now) first.kept.now.events first.kept.now.known first.kept.now.params first.kept.now.error args before hosts.callee again (lawful s shapes))))))

  pub decided_unlifted : (first last : Host C) (args : List CoreValue) (before : MachineState) → IsSameHost first last → last.callee.now ≡ first.callee.now → last.kept.now.params ≡ first.kept.now.params → last.kept.now.error ≡ None
      → IsHosting first.types.now first.call.now first.kept.now.roles → first.kept.now.error ≡ None → first.kept.now.known.returned ≡ false → last.kept.now.known.returned ≡ true
      → ((s : CallShapes) → HasCallShapes first.types.now first.call.now s → params_of first.call.now s.lift_params (event_by first.call.now.callee args before Traps) ≡ None)
      → GoesOnBy tells (event_by first.call.now.callee args before Traps) first last
  decided_unlifted first last args before same callee params error hosts none waits returned lifts begun lawful =
      moved first last begun (tells last.callee.now) (first.kept.now.events ++ event_by first.call.now.callee args before Traps ∷ []) last.kept.now.known last.kept.now.params last.kept.now.error same
      (λ s shapes.
      subst (λ x. IsAfter (hosted tells begun first) s (tells x) (first.kept.now.events ++ event_by first.call.now.callee args before Traps ∷ []) last.kept.now.known last.kept.now.params last.kept.now.error) (sym callee)
      (subst (λ x. IsAfter (hosted tells begun first) s (tells first.callee.now) (first.kept.now.events ++ event_by first.call.now.callee args before Traps ∷ []) last.kept.now.known x last.kept.now.error) (sym params)
      (subst (λ x. IsAfter (hosted tells begun first) s (tells first.callee.now) (first.kept.now.events ++ event_by first.call.now.callee args before Traps ∷ []) last.kept.now.known first.kept.now.params x) (sym error)
      (go_unlifted (hosted tells begun first) s (tells first.callee.now) first.kept.now.events first.kept.now.known last.kept.now.known first.kept.now.params args before hosts.callee waits returned (lifts s shapes)
      (subst (IsAfter (hosted tells begun first) s (tells first.callee.now) first.kept.now.events first.kept.now.known first.kept.now.params) none (lawful s shapes))))))

  pub decided_asked : (first last : Host C) (args : List CoreValue) (before : MachineState) (answer : Answer) (given : List Value) → IsSameHost first last → last.kept.now.params ≡ Some given
      → IsHosting first.types.now first.call.now first.kept.now.roles → first.kept.now.error ≡ None → first.kept.now.known.returned ≡ false
      → ((s : CallShapes) → HasCallShapes first.types.now first.call.now s → params_of first.call.now s.lift_params (event_by first.call.now.callee args before answer) ≡ Some given)
      → ((s : CallShapes) → HasCallShapes first.types.now first.call.now s → IsAnswered first.kept.now.known first.call.now s (tells last.callee.now) given before answer last.kept.now.known last.kept.now.error)
      → GoesOnBy tells (event_by first.call.now.callee args before answer) first last
  decided_asked first last args before answer given same params hosts none waits lifts asked begun lawful =
      moved first last begun (tells last.callee.now) (first.kept.now.events ++ event_by first.call.now.callee args before answer ∷ []) last.kept.now.known last.kept.now.params last.kept.now.error same
      (λ s shapes.
      subst (λ x. IsAfter (hosted tells begun first) s (tells last.callee.now) (first.kept.now.events ++ event_by first.call.now.callee args before answer ∷ []) last.kept.now.known x last.kept.now.error) (sym params)
      (go_asked (hosted tells begun first) s (tells first.callee.now) (tells last.callee.now) first.kept.now.events first.kept.now.known last.kept.now.known first.kept.now.params last.kept.now.error given args before answer hosts.callee waits (lifts s shapes)
      (subst (IsAfter (hosted tells begun first) s (tells first.callee.now) first.kept.now.events first.kept.now.known first.kept.now.params) none (lawful s shapes)) (asked s shapes)))

  -- What was decided is kept.
  pub kept_lawful : (first last : Host C) (events : List Event) (e : Event) → GoesOnBy tells e first last → last.kept.now.events ≡ first.kept.now.events → events ≡ last.kept.now.events ++ e ∷ []
      → (begun : List ℕ) → IsLawfulHost tells begun first → IsLawfulHost tells begun (record last { kept = record last.kept { now = record last.kept.now { events = events } } })
  kept_lawful first last events e goes same more begun lawful =
      subst (λ x. IsLawful (hosted tells begun last) (tells last.callee.now) x last.kept.now.known last.kept.now.params last.kept.now.error) (sym (more ∙ ap (λ z. z ++ e ∷ []) same)) (goes begun lawful)
