-- What holds of a host between two calls is kept by each answer.
use Rattle.std.proofs.Common.{◌≡◌, ◌≢◌, ℕ, inl, Bool, true, false, All, List, [], ◌∷◌, ◌++◌, Option, Some, None, refl, sym, ap, ◌∙◌, subst, append_assoc}
use Rattle.std.specs.Prelude.{nat_eq, cond}
use Rattle.std.proofs.lemmas.Bool.{eqb-true, eq-eqb, true≢false}
use Rattle.std.proofs.lemmas.List.Elements.{All-append, All-cons, All-nil}
use Rattle.fact_machine.specs.declared.types.Answer.{Answer}
use Rattle.fact_machine.specs.declared.types.Answer.TheVariants.{Returns, Traps, Throws}
use Rattle.fact_machine.specs.declared.types.CoreValue.{CoreValue}
use Rattle.fact_machine.specs.declared.types.Event.{Event}
use Rattle.fact_machine.specs.declared.types.MachineState.{MachineState}
use Rattle.fact_values.specs.declared.value.Value.{Value}
use Rattle.fact_host.specs.declared.calling.HostCall.{HostCall}
use Rattle.fact_host.specs.declared.callee.HostError.{HostError}
use Rattle.fact_host.specs.declared.callee.HostError.TheVariants.{OutOfMemory, Unsuited, OverLimit, NoResults}
use Rattle.fact_host.specs.declared.known.Known.{Known}
use Rattle.fact_host.specs.declared.roles.Role.{Role}
use Rattle.fact_host.specs.declared.roles.Role.TheVariants as role
use Rattle.fact_host.specs.Contract.{AnsweredUnsuited, AnsweredTooMuch, first_call, params_reached}
use Rattle.fact_host.specs.Hosts.{AreAnswersUntil, event_by}
use Rattle.fact_host.specs.Lawful.{RoleAt, PlacesCallee, Hosted, Told, IsWaiting, AnswerStands, HasAnswered, IsRunning, IsAfter, IsAnswered, IsCalleeCause, IsEndedBy, WasGiven}
use Rattle.fact_host.specs.Rules.{CallShapes, Answers, CallsBy, MustNotCall, Again, NoParams, params_of}

-- ---- lists of events

pub until_append : (Named : ℕ → Role → Type 0) (c : HostCall) (s : CallShapes) (answered : Option (List Value)) (k : Known) (es : List Event) (k1 : Known) (e : Event) (r : Role) (k2 : Known)
    → AreAnswersUntil Named c s answered k es k1 → Named e.func r → Answers c s answered r k1 e k2 → AreAnswersUntil Named c s answered k (es ++ e ∷ []) k2
until_append Named c s answered k [] k1 e r k2 u n a = (r, n, k2, subst (λ z. Answers c s answered r z e k2) u a, refl)
until_append Named c s answered k (x ∷ es) k1 e r k2 u n a = (u.0, u.1, u.2, u.3, until_append Named c s answered u.2 es k1 e r k2 u.4 n a)

-- the first of two, if there is one
abbrev pub or_else : Option Event → Option Event → Option Event
or_else None more = more
or_else (Some e) more = Some e

first_by : (n : ℕ) (e : Event) (es more : List Event) (b : Bool) → first_call n (es ++ more) ≡ or_else (first_call n es) (first_call n more)
    → cond b (Some e) (first_call n (es ++ more)) ≡ or_else (cond b (Some e) (first_call n es)) (first_call n more)
first_by n e es more true h = refl
first_by n e es more false h = h

pub first_append : (n : ℕ) (es more : List Event) → first_call n (es ++ more) ≡ or_else (first_call n es) (first_call n more)
first_append n [] more = refl
first_append n (e ∷ es) more = first_by n e es more (nat_eq n e.func) (first_append n es more)

first_alone : (n : ℕ) (e : Event) (b : Bool) → nat_eq n e.func ≡ b → first_call n (e ∷ []) ≡ cond b (Some e) None
first_alone n e b q = ap (λ z. cond z (Some e) None) q

other_alone : (n : ℕ) (e : Event) → e.func ≢ n → first_call n (e ∷ []) ≡ None
other_alone n e ne = by (nat_eq n e.func) refl
  where
    by : (b : Bool) → nat_eq n e.func ≡ b → first_call n (e ∷ []) ≡ None
    by true q = absurd (ne (sym (eqb-true n e.func q)))
    by false q = first_alone n e false q

own_alone : (n : ℕ) (e : Event) → e.func ≡ n → first_call n (e ∷ []) ≡ Some e
own_alone n e is = first_alone n e true (eq-eqb n e.func (sym is))

none_by : (n : ℕ) (e : Event) (es : List Event) (P : Event → Type 0) → ((x : Event) → (x.func ≡ n → ⊥) → P x) → (first_call n es ≡ None → All P es)
    → (b : Bool) → nat_eq n e.func ≡ b → cond b (Some e) (first_call n es) ≡ None → All P (e ∷ es)
none_by n e es P each rest true q g = let z : Some e ≡ None = g in absurd cc
none_by n e es P each rest false q g = All-cons P e es (each e (λ is. true≢false (sym (eq-eqb n e.func (sym is)) ∙ q))) (rest g)

-- none of events is a call of a function that none is the first one of
none_called : (n : ℕ) (es : List Event) → first_call n es ≡ None → (P : Event → Type 0) → ((e : Event) → (e.func ≡ n → ⊥) → P e) → All P es
none_called n [] h P each = All-nil P
none_called n (e ∷ es) h P each = none_by n e es P each (λ g. none_called n es g P each) (nat_eq n e.func) refl h

-- ---- answers of other functions than the callee

-- what the callee is given at its first call
abbrev pub read_by : HostCall → CallShapes → Option Event → Option (List Value)
read_by c s None = None
read_by c s (Some e) = params_of c s.lift_params e

pub read_is : (c : HostCall) (s : CallShapes) (events : List Event) → params_reached c s events ≡ read_by c s (first_call c.callee events)
read_is c s events = by (first_call c.callee events)
  where
    by : (o : Option Event) → (elim o [ None ↦ None | Some e ↦ params_of c s.lift_params e ]) ≡ read_by c s o
    by None = refl
    by (Some e) = refl

-- what was reached stays reached
same_params : (c : HostCall) (s : CallShapes) (events more : List Event) → first_call c.callee events ≢ None → params_reached c s (events ++ more) ≡ params_reached c s events
same_params c s events more some = by (first_call c.callee events) refl
  where
    by : (o : Option Event) → first_call c.callee events ≡ o → params_reached c s (events ++ more) ≡ params_reached c s events
    by None q = absurd (some q)
    by (Some e) q = read_is c s (events ++ more) ∙ ap (read_by c s) (first_append c.callee events more ∙ ap (λ z. or_else z (first_call c.callee more)) q) ∙ sym (ap (read_by c s) q) ∙ sym (read_is c s events)

some_first : (n : ℕ) (events more : List Event) → first_call n events ≢ None → first_call n (events ++ more) ≢ None
some_first n events more some = λ q. by (first_call n events) refl (sym (first_append n events more) ∙ q)
  where
    by : (o : Option Event) → first_call n events ≡ o → or_else (first_call n events) (first_call n more) ≡ None → ⊥
    by None e q = some e
    by (Some x) e q = let z : Some x ≡ None = sym (ap (λ o. or_else o (first_call n more)) e) ∙ q in absurd cc

quiet_waiting : (h : Hosted) (s : CallShapes) (t : Told) (events : List Event) (k k' : Known) (params : Option (List Value)) (e : Event) (r : Role)
    → RoleAt h.roles e.func r → (e.func ≡ h.call.callee → ⊥) → ((answered : Option (List Value)) → Answers h.call s answered r k e k')
    → IsWaiting h s t events k params → IsWaiting h s t (events ++ e ∷ []) k' params
quiet_waiting h s t events k k' params e r at other answers w = record {
  ruled = λ answered. until_append (RoleAt h.roles) h.call s answered _ events k e r k' (w.ruled answered) at (answers answered);
  fresh = w.fresh;
  no_params = w.no_params;
  uncalled = first_append h.call.callee events (e ∷ []) ∙ ap (λ z. or_else z (first_call h.call.callee (e ∷ []))) w.uncalled ∙ other_alone h.call.callee e other;
}

more_answered : (h : Hosted) (s : CallShapes) (t : Told) (events : List Event) (k k' : Known) (params : Option (List Value)) (e : Event) (r : Role)
    → RoleAt h.roles e.func r → Answers h.call s t.answered r k e k' → AnswerStands h.call s t.answered e
    → HasAnswered h s t events k params → HasAnswered h s t (events ++ e ∷ []) k' params
more_answered h s t events k k' params e r at answers stands a = record {
  ruled = until_append (RoleAt h.roles) h.call s t.answered _ events k e r k' a.ruled at answers;
  called = some_first h.call.callee events (e ∷ []) a.called;
  no_error = a.no_error;
  suited = a.suited;
  fits = a.fits;
  given = a.given;
  unasked = a.unasked;
  reached = a.reached ∙ sym (same_params h.call s events (e ∷ []) a.called);
  stands = All-append (AnswerStands h.call s t.answered) events (e ∷ []) a.stands (All-cons (AnswerStands h.call s t.answered) e [] stands (All-nil (AnswerStands h.call s t.answered)));
}

-- an event of another function tells nothing of the callee
other_stands : (c : HostCall) (s : CallShapes) (answered : Option (List Value)) (e : Event) → (e.func ≡ c.callee → ⊥) → AnswerStands c s answered e
other_stands c s answered e other = ((λ results after is q. absurd (other is)), (λ results after is q. absurd (other is)))

not_callee : (h : Hosted) (n : ℕ) (r : Role) → PlacesCallee h.call h.roles → RoleAt h.roles n r → r ≢ role.Callee → n ≡ h.call.callee → ⊥
not_callee h n r places at ne is = let e : Some r ≡ Some role.Callee = sym at ∙ (places n).1 is in let same : r ≡ role.Callee = cc in ne same

-- what was given stays so, with one more event
given_on : (h : Hosted) (s : CallShapes) (given : Option (List Value)) (events : List Event) (e : Event) → WasGiven h s given events → WasGiven h s given (events ++ e ∷ [])
given_on h s given events e a = record {
  front = a.front;
  event = a.event;
  behind = a.behind ++ e ∷ [];
  events_are = ap (λ l. l ++ e ∷ []) a.events_are ∙ append_assoc a.front (a.event ∷ a.behind) (e ∷ []);
  known = a.known;
  ruled = a.ruled;
  uncalled = a.uncalled;
  is_callee = a.is_callee;
  traps = a.traps;
  params = a.params;
  lifts = a.lifts;
  given_is = a.given_is;
}

ended_on : (h : Hosted) (s : CallShapes) (t : Told) (events : List Event) (e : Event) (error : HostError) → IsEndedBy h s t events error → IsEndedBy h s t (events ++ e ∷ []) error
ended_on h s t events e OutOfMemory a = tt
ended_on h s t events e Unsuited a = (a.0, given_on h s t.given events e a.1)
ended_on h s t events e OverLimit a = (a.0, given_on h s t.given events e a.1)
ended_on h s t events e NoResults a = (a.0, given_on h s t.given events e a.1)

pub go_quiet : (h : Hosted) (s : CallShapes) (t : Told) (events : List Event) (k k' : Known) (params : Option (List Value)) (error : Option HostError) (e : Event) (r : Role)
    → PlacesCallee h.call h.roles → RoleAt h.roles e.func r → r ≢ role.Callee → ((answered : Option (List Value)) → Answers h.call s answered r k e k') → k'.returned ≡ k.returned
    → IsAfter h s t events k params error → IsAfter h s t (events ++ e ∷ []) k' params error
go_quiet h s t events k k' params (Some error) e r places at ne answers same a = ended_on h s t events e error a
go_quiet h s t events k k' params None e r places at ne answers same a = subst (λ b. IsRunning h s t (events ++ e ∷ []) k' params b) (sym same) (by k.returned a)
  where
    other : e.func ≡ h.call.callee → ⊥
    other = not_callee h e.func r places at ne

    by : (b : Bool) → IsRunning h s t events k params b → IsRunning h s t (events ++ e ∷ []) k' params b
    by false w = quiet_waiting h s t events k k' params e r at other answers w
    by true x = more_answered h s t events k k' params e r at (answers t.answered) (other_stands h.call s t.answered e other) x

-- ---- answers of the callee

-- a call of the callee that has to be answered by a trap, and is
trapped : (k k' : Known) (c : HostCall) (s : CallShapes) (answered : Option (List Value)) (e : Event) → e.answer ≡ Traps → MustNotCall k c s.lift_params true e → CallsBy k c s answered e k'
trapped k k' c s answered e is must = record {
  has_room = true;
  lacks_room = λ q. absurd (true≢false q);
  answers = record {
    traps = ((λ q. must), (λ m. is));
    returns = λ results after q. (let z : Returns results after ≡ Traps = sym q ∙ is in absurd cc);
    never_throws = λ q. (let z : Throws ≡ Traps = sym q ∙ is in absurd cc);
  };
}

pub trap_stands : (c : HostCall) (s : CallShapes) (answered : Option (List Value)) (e : Event) → e.answer ≡ Traps → AnswerStands c s answered e
trap_stands c s answered e is = ((λ results after at q. (let z : Returns results after ≡ Traps = sym q ∙ is in absurd cc)), (λ results after at q. (let z : Returns results after ≡ Traps = sym q ∙ is in absurd cc)))

at_callee : (h : Hosted) → PlacesCallee h.call h.roles → RoleAt h.roles h.call.callee role.Callee
at_callee h places = (places h.call.callee).1 refl

-- It is called once more, or after an error.
pub go_again : (h : Hosted) (s : CallShapes) (t : Told) (events : List Event) (k : Known) (params : Option (List Value)) (error : Option HostError) (args : List CoreValue) (before : MachineState)
    → PlacesCallee h.call h.roles → (error ≡ None → k.returned ≡ true)
    → IsAfter h s t events k params error → IsAfter h s t (events ++ event_by h.call.callee args before Traps ∷ []) k params error
go_again h s t events k params (Some error) args before places again a = ended_on h s t events (event_by h.call.callee args before Traps) error a
go_again h s t events k params None args before places again a =
    let e : Event = event_by h.call.callee args before Traps in
    let x : HasAnswered h s t events k params = subst (IsRunning h s t events k params) (again refl) a in
    subst (IsRunning h s t (events ++ e ∷ []) k params) (sym (again refl))
    (more_answered h s t events k k params e role.Callee (at_callee h places) (trapped k k h.call s t.answered e refl (Again (again refl))) (trap_stands h.call s t.answered e refl) x)

waited : (h : Hosted) (s : CallShapes) (t : Told) (events : List Event) (k : Known) (params : Option (List Value)) → k.returned ≡ false → IsAfter h s t events k params None → IsWaiting h s t events k params
waited h s t events k params waits a = subst (IsRunning h s t events k params) waits a

-- all events so far are those of others
pub others_stand : (c : HostCall) (s : CallShapes) (answered : Option (List Value)) (events : List Event) → first_call c.callee events ≡ None → All (AnswerStands c s answered) events
others_stand c s answered events none = none_called c.callee events none (AnswerStands c s answered) (λ e other. other_stands c s answered e other)

first_now : (n : ℕ) (events : List Event) (e : Event) → first_call n events ≡ None → e.func ≡ n → first_call n (events ++ e ∷ []) ≡ Some e
first_now n events e none is = first_append n events (e ∷ []) ∙ ap (λ z. or_else z (first_call n (e ∷ []))) none ∙ own_alone n e is

reached_now : (c : HostCall) (s : CallShapes) (events : List Event) (e : Event) → first_call c.callee (events ++ e ∷ []) ≡ Some e → params_reached c s (events ++ e ∷ []) ≡ params_of c s.lift_params e
reached_now c s events e q = read_is c s (events ++ e ∷ []) ∙ ap (read_by c s) q

some_none : (o : Option Event) (e : Event) → o ≡ Some e → o ≢ None
some_none o e q = λ n. (let z : Some e ≡ None = sym q ∙ n in absurd cc)

-- It is called, and its parameters do not lift.
pub go_unlifted : (h : Hosted) (s : CallShapes) (t : Told) (events : List Event) (k k' : Known) (params : Option (List Value)) (args : List CoreValue) (before : MachineState)
    → PlacesCallee h.call h.roles → k.returned ≡ false → k'.returned ≡ true → params_of h.call s.lift_params (event_by h.call.callee args before Traps) ≡ None
    → IsAfter h s t events k params None → IsAfter h s t (events ++ event_by h.call.callee args before Traps ∷ []) k' params None
go_unlifted h s t events k k' params args before places waits now none a =
    let e : Event = event_by h.call.callee args before Traps in
    let w : IsWaiting h s t events k params = waited h s t events k params waits a in
    let first : first_call h.call.callee (events ++ e ∷ []) ≡ Some e = first_now h.call.callee events e w.uncalled refl in
    let done : HasAnswered h s t (events ++ e ∷ []) k' params = record {
      ruled = until_append (RoleAt h.roles) h.call s t.answered _ events k e role.Callee k' (w.ruled t.answered) (at_callee h places) (trapped k k' h.call s t.answered e refl (NoParams none));
      called = some_none (first_call h.call.callee (events ++ e ∷ [])) e first;
      no_error = w.fresh.no_error;
      suited = λ u. subst (AnsweredUnsuited s) w.fresh.no_answer u;
      fits = λ u. subst (AnsweredTooMuch s) w.fresh.no_answer u;
      given = inl w.fresh.not_given;
      unasked = λ n. w.fresh.no_answer;
      reached = w.no_params ∙ sym (reached_now h.call s events e first ∙ none);
      stands = All-append (AnswerStands h.call s t.answered) events (e ∷ []) (others_stand h.call s t.answered events w.uncalled) (All-cons (AnswerStands h.call s t.answered) e [] (trap_stands h.call s t.answered e refl) (All-nil (AnswerStands h.call s t.answered)));
    } in
    subst (IsRunning h s t (events ++ e ∷ []) k' params) (sym now) done

-- It is called and asked.
pub go_asked : (h : Hosted) (s : CallShapes) (t t' : Told) (events : List Event) (k k' : Known) (params : Option (List Value)) (error : Option HostError) (given : List Value) (args : List CoreValue) (before : MachineState) (answer : Answer)
    → PlacesCallee h.call h.roles → k.returned ≡ false → params_of h.call s.lift_params (event_by h.call.callee args before answer) ≡ Some given
    → IsAfter h s t events k params None → IsAnswered k h.call s t' given before answer k' error → IsAfter h s t' (events ++ event_by h.call.callee args before answer ∷ []) k' (Some given) error
go_asked h s t t' events k k' params (Some error) given args before answer places waits lifts a x = by error x.0
  where
    e : Event
    e = event_by h.call.callee args before answer

    was : WasGiven h s t'.given (events ++ e ∷ [])
    was =
        let w : IsWaiting h s t events k params = waited h s t events k params waits a in
        record { front = events; event = e; behind = []; events_are = refl; known = k; ruled = w.ruled; uncalled = w.uncalled; is_callee = refl; traps = x.2; params = given; lifts = lifts; given_is = x.1 }

    by : (error : HostError) → IsCalleeCause s t' error → IsEndedBy h s t' (events ++ e ∷ []) error
    by OutOfMemory c = tt
    by Unsuited c = (c, was)
    by OverLimit c = (c, was)
    by NoResults c = (c, was)
go_asked h s t t' events k k' params None given args before answer places waits lifts a x =
    let e : Event = event_by h.call.callee args before answer in
    let w : IsWaiting h s t events k params = waited h s t events k params waits a in
    let first : first_call h.call.callee (events ++ e ∷ []) ≡ Some e = first_now h.call.callee events e w.uncalled refl in
    let taken = x.4 in
    let some : params_of h.call s.lift_params e ≢ None = λ n. (let z : Some given ≡ None = sym lifts ∙ n in absurd cc) in
    let calls : CallsBy k h.call s t'.answered e k' = subst (λ o. CallsBy k h.call s o e k') (sym x.1) (taken.is_answer.ruled h.call.callee args some) in
    let stands : AnswerStands h.call s t'.answered e = subst (λ o. AnswerStands h.call s o e) (sym x.1) (taken.is_answer.stands h.call.callee args) in
    let done : HasAnswered h s t' (events ++ e ∷ []) k' (Some given) = record {
      ruled = until_append (RoleAt h.roles) h.call s t'.answered _ events k e role.Callee k' (w.ruled t'.answered) (at_callee h places) calls;
      called = some_none (first_call h.call.callee (events ++ e ∷ [])) e first;
      no_error = x.2;
      suited = λ u. taken.suited (subst (AnsweredUnsuited s) x.1 u);
      fits = λ u. taken.fits (subst (AnsweredTooMuch s) x.1 u);
      given = x.3;
      unasked = λ n. (let z : Some given ≡ None = n in absurd cc);
      reached = sym (reached_now h.call s events e first ∙ lifts);
      stands = All-append (AnswerStands h.call s t'.answered) events (e ∷ []) (others_stand h.call s t'.answered events w.uncalled) (All-cons (AnswerStands h.call s t'.answered) e [] stands (All-nil (AnswerStands h.call s t'.answered)));
    } in
    subst (IsRunning h s t' (events ++ e ∷ []) k' (Some given)) (sym taken.is_answer.returned) done
