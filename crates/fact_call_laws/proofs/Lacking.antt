-- Where a run lacks an answer, the call that it makes: what it sees and is told, and that the host's rules do not answer it by a trap.
use Rattle.std.proofs.Common.{◌≡◌, ℕ, ◌≤◌, All, List, [], ◌∷◌, ◌++◌, Some, refl, ap, ◌∙◌, subst, arith, get_or, length, length-append, slice_get}
use Rattle.std.proofs.lemmas.List.{length-map, nil_from_length}
use Rattle.std.proofs.lemmas.List.Elements.{All-push}
use Rattle.fact_wasm.specs.declared.module.WasmImport.{WasmImport}
use Rattle.fact_machine.specs.declared.types.Answer.{Answer}
use Rattle.fact_machine.specs.declared.types.Answer.TheVariants.{Traps}
use Rattle.fact_machine.specs.declared.types.CoreValue.{CoreValue}
use Rattle.fact_machine.specs.declared.types.End.TheVariants.{Lacks}
use Rattle.fact_machine.specs.declared.types.Event.{Event}
use Rattle.fact_machine.specs.declared.types.MachineState.{MachineState}
use Rattle.fact_machine.specs.Causes.{answers_of}
use Rattle.fact_machine.specs.Lengths.{SeeLengths, lengths_of}
use Rattle.fact_machine.specs.Machine.{run_of}
use Rattle.fact_machine.specs.Trace.{run_reach}
use Rattle.fact_machine.specs.Typed.{TypedAnswer, TypedState, type_of_import}
use Rattle.fact_machine.proofs.Answered.{run_asks}
use Rattle.fact_machine.proofs.Lengths.{lengths_stay}
use Rattle.fact_check.specs.Soundness.{AreArguments, SeeTyped}
use Rattle.fact_values.specs.declared.value.Value.{Value}
use Rattle.fact_actions.specs.Honest.{AreHonestSync}
use Rattle.fact_host.specs.declared.calling.HostCall.{HostCall}
use Rattle.fact_host.specs.declared.known.Known.{Known}
use Rattle.fact_host.specs.declared.roles.Role.{Role}
use Rattle.fact_host.specs.Describes.{named_calls}
use Rattle.fact_host.specs.Hosts.{AreAnswersUntil}
use Rattle.fact_host.specs.Roles.{function_imports}
use Rattle.fact_host.specs.Rules.{Answers, AreAnswers, CallShapes, memory_at}
use Rattle.fact_function_laws.proofs.LoggedImports.{IsOfImport, run_told}
use Rattle.fact_call_laws.proofs.Another.{answers_on}
use Rattle.fact_call_laws.proofs.Answered.{ReadsWhole, never_trapped}
use Rattle.fact_call_laws.proofs.Asking.{LacksCall, call_answered, lacks_call}
use Rattle.fact_call_laws.proofs.Back.{all_middle}
use Rattle.fact_call_laws.proofs.EachRole.{function_there, has_role}
use Rattle.fact_call_laws.proofs.Ends.{all_until}
use Rattle.fact_call_laws.proofs.Later.{IsLog, Laws, later, later_called, log_typed, run_by}
use Rattle.fact_call_laws.proofs.Seen.{bits_of_typed, seen_last, seen_typed, told_last}
use Rattle.fact_call_laws.proofs.Setting.{Called, Named, Setting, names, places}
use Rattle.fact_call_laws.proofs.Stays.{see_long}
use Rattle.fact_call_laws.proofs.Trapped.{AtTrap}

-- one more event that is answered by the rules
ruled_on : (Named : ℕ → Role → Type 0) (c : HostCall) (s : CallShapes) (values : List Value) (k last : Known) (events : List Event) (e : Event) → AreAnswersUntil Named c s (Some values) k events last
    → (r : Role) → Named e.func r → (k' : Known) → Answers c s (Some values) r last e k' → AreAnswers Named c s (Some values) k (events ++ e ∷ [])
ruled_on Named c s values k last [] e u r named k' rule = (r, named, k', subst (λ z. Answers c s (Some values) r z e k') u rule, tt)
ruled_on Named c s values k last (v ∷ events) e u r named k' rule = (u.0, u.1, u.2, u.3, ruled_on Named c s values u.2 last events e u.4 r named k' rule)

-- Transcoders of all calls that are answered by a trap read whole texts.
abbrev pub AllRead : Type 0
AllRead = (x : Setting) (h : Called x) (t : AtTrap x h) → ReadsWhole x h t

module _ (x : Setting) (h : Called x) (steps : ℕ) (events : List Event) (g : IsLog x h steps events) (lacks : (run_by x h events steps).end ≡ Lacks) where
  pub call : LacksCall x.code x.function h.outcome.args h.outcome.first (answers_of events) steps
  call = lacks_call x.code x.function h.outcome.args h.outcome.first (answers_of events) steps lacks

  abbrev pub func : ℕ
  func = call.func

  abbrev pub given : List CoreValue
  given = call.given

  abbrev pub before : MachineState
  before = (run_reach x.code x.function h.outcome.args h.outcome.first (answers_of events) steps).world.state

  abbrev pub answered_by : Answer → Event
  answered_by a = call_answered func given before a

  many : (l : List Event) → length (answers_of l) ≡ length l
  many l = length-map l (λ (v : Event). v.answer)

  -- with any answer the run makes this call behind the others
  pub log_with : (a : Answer) → (run_by x h (events ++ answered_by a ∷ []) steps).log ≡ events ++ answered_by a ∷ []
  log_with a =
      let one = call.each a [] in
      let all = ap length (run_asks x.code x.function h.outcome.args h.outcome.first (answers_of events) steps lacks a) in
      let none : length one.0 ≡ 0 = omega (
        arith,
        all,
        many (run_of x.code x.function h.outcome.args h.outcome.first (answers_of events ++ a ∷ []) steps).log,
        many events,
        length-append (answers_of events) (a ∷ []),
        ap length one.1,
        length-append (run_by x h events steps).log (answered_by a ∷ one.0),
        ap length g.log_is,
      ) in
      ap (λ l. (run_of x.code x.function h.outcome.args h.outcome.first l steps).log) (answers_on events (answered_by a ∷ [])) ∙ one.1 ∙ (λ k. g.log_is k ++ (answered_by a ∷ nil_from_length one.0 none k))

  pub until : (last : Known) × AreAnswersUntil (Named x) x.call x.shapes (Some x.answered) h.outcome.known events last
  until = all_until (Named x) x.call x.shapes (Some x.answered) h.outcome.known events g.ruled

  -- what is known before it
  abbrev pub last : Known
  last = until.0

  pub last_ruled : AreAnswersUntil (Named x) x.call x.shapes (Some x.answered) h.outcome.known events last
  last_ruled = until.1

  pub ruled_with : (a : Answer) (r : Role) → Named x func r → (k : Known) → Answers x.call x.shapes (Some x.answered) r last (answered_by a) k → IsLog x h steps (events ++ answered_by a ∷ [])
  ruled_with a r named k rule = record { log_is = log_with a; ruled = ruled_on (Named x) x.call x.shapes x.answered h.outcome.known last events (answered_by a) last_ruled r named k rule }

  -- ---- its role

  called_there : (w : WasmImport) × (slice_get (function_imports x.code) func ≡ Some w)
  called_there =
      let told : All (IsOfImport x.code) (events ++ answered_by Traps ∷ []) = subst (All (IsOfImport x.code)) (log_with Traps) (run_told x.code x.function h.outcome.args h.outcome.first (answers_of (events ++ answered_by Traps ∷ [])) steps) in
      let one : IsOfImport x.code (answered_by Traps) = all_middle (IsOfImport x.code) events (answered_by Traps) [] told in
      function_there x.code.imports func one.0 one.1

  pub role_here : (r : Role) × Named x func r
  role_here = has_role x h func called_there.0 called_there.1

  -- ---- what it sees

  module _ (laws : Laws) where
    trap_seen : SeeTyped x.code (events ++ answered_by Traps ∷ [])
    trap_seen =
        subst (SeeTyped x.code) (log_with Traps)
        (laws.seen x.code x.function h.outcome.args h.outcome.first (answers_of (events ++ answered_by Traps ∷ [])) steps h.promised.constants (bits_of_typed h.outcome.args _ h.outcome.args_typed) h.outcome.state_typed)

    pub trap_typed : All (λ e. TypedAnswer x.code e.func e.before e.answer) (events ++ answered_by Traps ∷ [])
    trap_typed = All-push (λ (e : Event). TypedAnswer x.code e.func e.before e.answer) events (answered_by Traps) (log_typed x h laws steps events g) tt

    pub before_typed : TypedState x.code before
    before_typed = seen_last x.code events (answered_by Traps) trap_seen trap_typed

    pub given_typed : AreArguments (type_of_import x.code func) given
    given_typed = told_last x.code events (answered_by Traps) trap_seen trap_typed

    pub short : (n most : ℕ) → get_or (lengths_of h.outcome.first) n 0 ≤ most → length (memory_at before n) ≤ most
    short n most le =
        let see : SeeLengths (lengths_of h.outcome.first) (events ++ answered_by Traps ∷ []) =
        subst (SeeLengths (lengths_of h.outcome.first)) (log_with Traps) (lengths_stay x.code x.function h.outcome.args h.outcome.first (answers_of (events ++ answered_by Traps ∷ [])) steps) in
        see_long (Named x) x.call x.shapes (Some x.answered) h.outcome.known last events (answered_by Traps) [] (lengths_of h.outcome.first) n most le last_ruled see

    -- The host's rules do not answer it by a trap.
    pub never : AllRead → AreHonestSync (places x) x.adapter h.outcome.args (named_calls (names x) events) → (r : Role) → Named x func r → (k : Known) → Answers x.call x.shapes (Some x.answered) r last (answered_by Traps) k → ⊥
    never reads whole r named k rule =
        let y : Setting = later x h steps (events ++ answered_by Traps ∷ []) in
        let hy : Called y = later_called x h laws steps (events ++ answered_by Traps ∷ []) (ruled_with Traps r named k rule) in
        let t : AtTrap y hy = record {
          front = events;
          event = answered_by Traps;
          log_is = refl;
          traps = refl;
          honest = whole;
          last = last;
          ruled = last_ruled;
          role = r;
          named = named;
          behind = k;
          rule = rule;
        } in
        never_trapped y hy t (seen_typed laws.seen y hy t) (reads y hy t)
