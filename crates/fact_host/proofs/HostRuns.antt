-- A host is lawful as a run begins, and what came of the run is known at its end.
use Rattle.std.proofs.Common.{◌≡◌, ℕ, List, [], Some, None, refl, sym, subst}
use Rattle.fact_wasm.specs.declared.module.WasmModule.{WasmModule}
use Rattle.fact_types.specs.Tables.{Tables}
use Rattle.fact_machine.specs.declared.types.CoreValue.{CoreValue}
use Rattle.fact_machine.specs.declared.types.Event.{Event}
use Rattle.fact_machine.specs.declared.types.MachineState.{MachineState}
use Rattle.fact_machine.specs.declared.types.Outcome.{Outcome}
use Rattle.fact_machine.specs.Causes.{answers_of}
use Rattle.fact_machine.specs.Machine.{run_of}
use Rattle.fact_host.specs.declared.callee.HostError.{HostError}
use Rattle.fact_host.specs.declared.callee.HostError.TheVariants.{OutOfMemory, Unsuited, OverLimit, NoResults}
use Rattle.fact_host.specs.declared.calling.HostCall.{HostCall}
use Rattle.fact_host.specs.declared.host.Host.{Host}
use Rattle.fact_host.specs.declared.roles.Role.{Role}
use Rattle.fact_host.specs.Contract.{IsFresh, steps_given}
use Rattle.fact_host.specs.Describes.{HasCallShapes}
use Rattle.fact_host.specs.Lawful.{CameOf, CameToGive, HasGivenBy, HostStays, Hosted, IsAfter, IsCalleeCause, IsEndedBy, IsLawfulHost, Told, WasGiven, first_known, hosted}
use Rattle.fact_host.specs.Roles.{HaveRoles, function_imports}
use Rattle.fact_host.specs.Rules.{CallShapes}

-- the cause of an error that ended a call
ended_cause : (h : Hosted) (s : CallShapes) (t : Told) (events : List Event) (error : HostError) → IsEndedBy h s t events error → IsCalleeCause s t error
ended_cause h s t events OutOfMemory a = tt
ended_cause h s t events Unsuited a = a.0
ended_cause h s t events OverLimit a = a.0
ended_cause h s t events NoResults a = a.0

module _ {C : Type 0} (tells : C → Told) where
  -- it is as it is
  pub stays_itself : (Stays : C → C → Type 0) (h : Host C) → HostStays tells Stays h h
  stays_itself Stays h = record {
    same = record { types = refl; call = refl; roles = refl; callee = refl; kept = refl };
    callee = λ begun x. x;
    lawful = λ begun x. x;
  }

  -- nothing was called yet
  pub begins_lawful : (begun : List ℕ) (h : Host C) → h.kept.now.events ≡ [] → h.kept.now.known ≡ first_known begun → h.kept.now.params ≡ None → h.kept.now.error ≡ None → IsFresh (tells h.callee.now).last (tells h.callee.now).answered (tells h.callee.now).given → IsLawfulHost tells begun h
  begins_lawful begun h events known params error fresh s shapes =
      subst (λ x. IsAfter (hosted tells begun h) s (tells h.callee.now) h.kept.now.events h.kept.now.known h.kept.now.params x) (sym error)
      (subst (λ x. IsAfter (hosted tells begun h) s (tells h.callee.now) h.kept.now.events x h.kept.now.params None) (sym known)
      (subst (λ x. IsAfter (hosted tells begun h) s (tells h.callee.now) x (first_known begun) h.kept.now.params None) (sym events) (record {
        ruled = λ answered. refl;
        fresh = fresh;
        no_params = params;
        uncalled = refl;
      })))

  -- what holds of it by its own call holds by the call that it is a host of
  after_run : (begun : List ℕ) (t : Tables) (c : HostCall) (roles : List Role) (last : Host C) → last.types.now ≡ t → last.call.now ≡ c → last.kept.now.roles ≡ roles
      → IsLawfulHost tells begun last → (s : CallShapes) → HasCallShapes t c s → IsAfter (record { types = t; call = c; roles = roles; begun = begun }) s (tells last.callee.now) last.kept.now.events last.kept.now.known last.kept.now.params last.kept.now.error
  after_run begun t c roles last types call roles_are lawful s shapes =
      let at : hosted tells begun last ≡ record { types = t; call = c; roles = roles; begun = begun } = λ i. record { types = types i; call = call i; roles = roles_are i; begun = begun } in
      let own : HasCallShapes last.types.now last.call.now s = subst (λ x. HasCallShapes x last.call.now s) (sym types) (subst (λ x. HasCallShapes t x s) (sym call) shapes) in
      subst (λ x. IsAfter x s (tells last.callee.now) last.kept.now.events last.kept.now.known last.kept.now.params last.kept.now.error) at (lawful s own)

  pub came_of : (m : WasmModule) (t : Tables) (c : HostCall) (s : CallShapes) (begun : List ℕ) (roles : List Role) (last : Host C) (log : List Event)
      → last.types.now ≡ t → last.call.now ≡ c → last.kept.now.roles ≡ roles → IsLawfulHost tells begun last → last.kept.now.error ≡ None → last.kept.now.events ≡ log → HaveRoles m c 0 (function_imports m) roles → HasCallShapes t c s
      → CameOf m t c s begun (tells last.callee.now) log last.kept.now.params
  came_of m t c s begun roles last log types call roles_are lawful none events have shapes = record {
    roles = roles;
    have = have;
    known = last.kept.now.known;
    running =
        subst (λ x. IsAfter (record { types = t; call = c; roles = roles; begun = begun }) s (tells last.callee.now) x last.kept.now.known last.kept.now.params None) events
        (subst (IsAfter (record { types = t; call = c; roles = roles; begun = begun }) s (tells last.callee.now) last.kept.now.events last.kept.now.known last.kept.now.params) none (after_run begun t c roles last types call roles_are lawful s shapes));
  }

  pub cause_at : (t : Tables) (c : HostCall) (s : CallShapes) (begun : List ℕ) (roles : List Role) (last : Host C) (error : HostError)
      → last.types.now ≡ t → last.call.now ≡ c → last.kept.now.roles ≡ roles → IsLawfulHost tells begun last → last.kept.now.error ≡ Some error → HasCallShapes t c s → IsCalleeCause s (tells last.callee.now) error
  cause_at t c s begun roles last error types call roles_are lawful some shapes =
      ended_cause (record { types = t; call = c; roles = roles; begun = begun }) s (tells last.callee.now) last.kept.now.events error
      (subst (IsAfter (record { types = t; call = c; roles = roles; begun = begun }) s (tells last.callee.now) last.kept.now.events last.kept.now.known last.kept.now.params) some (after_run begun t c roles last types call roles_are lawful s shapes))

  pub given_at : (m : WasmModule) (t : Tables) (c : HostCall) (s : CallShapes) (begun : List ℕ) (roles : List Role) (last : Host C) (error : HostError) (args : List CoreValue) (first : MachineState) (o : Outcome)
      → last.types.now ≡ t → last.call.now ≡ c → last.kept.now.roles ≡ roles → IsLawfulHost tells begun last → last.kept.now.error ≡ Some error → last.kept.now.events ≡ o.log → HaveRoles m c 0 (function_imports m) roles → HasCallShapes t c s
      → o ≡ run_of m c.func args first (answers_of o.log) steps_given → HasGivenBy m t c s begun args first (tells last.callee.now).given error
  given_at m t c s begun roles last error args first o types call roles_are lawful some events have shapes is_run =
      by error
      (subst (λ l. IsEndedBy (record { types = t; call = c; roles = roles; begun = begun }) s (tells last.callee.now) l error) events
      (subst (IsAfter (record { types = t; call = c; roles = roles; begun = begun }) s (tells last.callee.now) last.kept.now.events last.kept.now.known last.kept.now.params) some (after_run begun t c roles last types call roles_are lawful s shapes)))
    where
      came : WasGiven (record { types = t; call = c; roles = roles; begun = begun }) s (tells last.callee.now).given o.log → CameToGive m t c s begun args first (tells last.callee.now).given
      came was = record { roles = roles; have = have; outcome = o; is_run = is_run; was = was }

      by : (error : HostError) → IsEndedBy (record { types = t; call = c; roles = roles; begun = begun }) s (tells last.callee.now) o.log error → HasGivenBy m t c s begun args first (tells last.callee.now).given error
      by OutOfMemory a = tt
      by Unsuited a = came a.1
      by OverLimit a = came a.1
      by NoResults a = came a.1
