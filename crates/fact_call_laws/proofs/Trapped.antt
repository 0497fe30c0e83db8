-- A run whose last call was answered by a trap, on its way to a contradiction: what is known before that call.
use Rattle.std.proofs.Common.{◌≡◌, ℕ, ◌⊎◌, inl, inr, false, List, [], ◌∷◌, ◌++◌, Option, Some, None, refl, sym, ap, ◌∙◌, subst, map}
use Rattle.fact_wasm.specs.declared.module.WasmImport.{WasmImport}
use Rattle.fact_wasm.specs.declared.module.WasmModule.{WasmModule}
use Rattle.fact_types.specs.Adapters.{LinkedAdapter}
use Rattle.fact_machine.specs.declared.types.Answer.TheVariants.{Traps}
use Rattle.fact_machine.specs.declared.types.Event.{Event}
use Rattle.fact_values.specs.declared.value.Value.{Value}
use Rattle.fact_actions.specs.Confined.{GiveUpLive, GivesUpLive, is_beside}
use Rattle.fact_actions.specs.Honest.{AreHonestSync}
use Rattle.fact_actions.specs.Regions.{Position, landed, params_landing, sync_moved_on}
use Rattle.fact_actions.specs.Running.{Call}
use Rattle.fact_action_laws.specs.Requested.{HaveAskedSoFar}
use Rattle.fact_action_laws.specs.Trapped.{LastTraps}
use Rattle.fact_host.specs.declared.calling.HostCall.{HostCall}
use Rattle.fact_host.specs.declared.known.Known.{Known}
use Rattle.fact_host.specs.declared.roles.Role.{Role}
use Rattle.fact_host.specs.Describes.{named_calls}
use Rattle.fact_host.specs.Hosts.{AreAnswersUntil}
use Rattle.fact_host.specs.Roles.{IsNamedRole, IsRole, IsRoleBy, role_by_place}
use Rattle.fact_host.specs.Rules.{Answers, AreAnswers, CallShapes}
use Rattle.fact_call_laws.proofs.Bridge.{IsAt, at_place}
use Rattle.fact_call_laws.proofs.Positions.{Holds, along, first_holds, position_after}
use Rattle.fact_call_laws.proofs.Segments.{Stands, no_last, stands}
use Rattle.fact_call_laws.proofs.Setting.{Called, Named, Setting, calls, described, gives_up, is_import, log, names, places, so_far}
use Rattle.fact_call_laws.proofs.Steps.{call_by}

-- ---- lists

-- a list of images is split as its images are
record Split {A B : Type 0} (f : A → B) (xs : List A) (ys : List B) (y : B) : Type 0 where
  pub front : List A
  pub last : A
  pub is : xs ≡ front ++ last ∷ []
  pub images : map f front ≡ ys
  pub image : f last ≡ y

map_none : {A B : Type 0} (f : A → B) (xs : List A) → map f xs ≡ [] → xs ≡ []
map_none f [] e = refl
map_none f (x ∷ xs) e = absurd cc

split_map : {A B : Type 0} (f : A → B) (xs : List A) (ys : List B) (y : B) → map f xs ≡ ys ++ y ∷ [] → Split f xs ys y
split_map f [] ys y e = absurd (no_last ys y e)
split_map f (x ∷ xs) [] y e =
    let first : f x ≡ y = cc in
    let none : map f xs ≡ [] = cc in
    record { front = []; last = x; is = ap (λ l. x ∷ l) (map_none f xs none); images = refl; image = first }
split_map f (x ∷ xs) (z ∷ ys) y e =
    let first : f x ≡ z = cc in
    let more : map f xs ≡ ys ++ y ∷ [] = cc in
    let s = split_map f xs ys y more in
    record { front = x ∷ s.front; last = s.last; is = ap (λ l. x ∷ l) s.is; images = (λ k. first k ∷ s.images k); image = s.image }

pub map_on : {A B : Type 0} (f : A → B) (xs ys : List A) → map f (xs ++ ys) ≡ map f xs ++ map f ys
map_on f [] ys = refl
map_on f (x ∷ xs) ys = ap (λ l. f x ∷ l) (map_on f xs ys)

-- the last of events that are answered by the rules
record Until (Named : ℕ → Role → Type 0) (c : HostCall) (s : CallShapes) (answered : Option (List Value)) (k : Known) (front : List Event) (e : Event) : Type 0 where
  pub last : Known
  pub ruled : AreAnswersUntil Named c s answered k front last
  pub role : Role
  pub named : Named e.func role
  pub behind : Known
  pub rule : Answers c s answered role last e behind

until : (Named : ℕ → Role → Type 0) (c : HostCall) (s : CallShapes) (answered : Option (List Value)) (k : Known) (front : List Event) (e : Event) → AreAnswers Named c s answered k (front ++ e ∷ []) → Until Named c s answered k front e
until Named c s answered k [] e h = record { last = k; ruled = refl; role = h.0; named = h.1; behind = h.2; rule = h.3 }
until Named c s answered k (v ∷ front) e h =
    let more = until Named c s answered h.2 front e h.4 in
    record { last = more.last; ruled = (h.0, h.1, h.2, h.3, more.ruled); role = more.role; named = more.named; behind = more.behind; rule = more.rule }

gives_front : (a : LinkedAdapter) (next : Call → Position → Position) (x : Position) (cs : List Call) (z : Call) → GiveUpLive a next x (cs ++ z ∷ []) → GiveUpLive a next x cs
gives_front a next x [] z h = tt
gives_front a next x (c ∷ cs) z h = (h.0, gives_front a next (next c x) cs z h.1)

gives_last : (a : LinkedAdapter) (next : Call → Position → Position) (x : Position) (cs : List Call) (z : Call) → GiveUpLive a next x (cs ++ z ∷ []) → is_beside a z ≡ false → GivesUpLive (position_after next x cs) z
gives_last a next x [] z h = h.0
gives_last a next x (c ∷ cs) z h = gives_last a next (next c x) cs z h.1

-- ---- roles

-- a role is that of a place that the call names, or of the names
pub role_is : (m : WasmModule) (c : HostCall) (n : ℕ) (w : WasmImport) (r : Role) → IsRole m c n w r → IsAt c n r ⊎ (IsNamedRole m w r × (role_by_place c n ≡ None))
role_is m c n w r h = by (role_by_place c n) refl h
  where
    by : (o : Option Role) → role_by_place c n ≡ o → IsRoleBy m w r o → IsAt c n r ⊎ (IsNamedRole m w r × (role_by_place c n ≡ None))
    by (Some q) e h = inl (subst (IsAt c n) (sym h) (at_place c n q e))
    by None e h = inr (h, e)

-- ---- the last call

module _ (x : Setting) (h : Called x) where
  abbrev pub next : Call → Position → Position
  next = sync_moved_on x.adapter h.outcome.args

  abbrev pub start : Position
  start = landed (params_landing x.adapter)

  -- what is known as the run begins
  pub first_known : Holds x.code x.types x.call (places x) x.adapter (names x) (described x h) h.callable.once h.outcome.args h.outcome.known start
  first_known = first_holds x.code x.types x.call (places x) x.adapter (names x) (described x h) h.callable.once h.outcome.args h.outcome.known h.outcome.known_first.live h.outcome.known_first.returned

  -- The last event was answered by a trap, and all before it returned honestly.
  pub record AtTrap : Type 0 where
    pub front : List Event
    pub event : Event
    pub log_is : log x ≡ front ++ event ∷ []
    pub traps : event.answer ≡ Traps
    pub honest : AreHonestSync (places x) x.adapter h.outcome.args (named_calls (names x) front)
    pub last : Known
    pub ruled : AreAnswersUntil (Named x) x.call x.shapes (Some x.answered) h.outcome.known front last
    pub role : Role
    pub named : Named x event.func role
    pub behind : Known
    pub rule : Answers x.call x.shapes (Some x.answered) role last event behind

  pub at_trap : LastTraps (AreHonestSync (places x) x.adapter h.outcome.args) (calls x) → AtTrap
  at_trap t =
      let s = split_map (λ (e : Event). call_by (names x e.func) e.args e.before e.answer) (log x) t.front t.last t.calls_are in
      let u = until (Named x) x.call x.shapes (Some x.answered) h.outcome.known s.front s.last (subst (AreAnswers (Named x) x.call x.shapes (Some x.answered) h.outcome.known) s.is h.outcome.ruled) in
      record {
        front = s.front;
        event = s.last;
        log_is = s.is;
        traps = ap (λ (c : Call). c.answer) s.image ∙ t.last_traps;
        honest = subst (AreHonestSync (places x) x.adapter h.outcome.args) (sym s.images) t.front_honest;
        last = u.last;
        ruled = u.ruled;
        role = u.role;
        named = u.named;
        behind = u.behind;
        rule = u.rule;
      }

  module _ (t : AtTrap) where
    -- the calls before it, and it
    abbrev pub before : List Call
    before = named_calls (names x) t.front

    abbrev pub last_call : Call
    last_call = call_by (names x t.event.func) t.event.args t.event.before t.event.answer

    pub calls_are : calls x ≡ before ++ last_call ∷ []
    calls_are = ap (named_calls (names x)) t.log_is ∙ map_on (λ (e : Event). call_by (names x e.func) e.args e.before e.answer) t.front (t.event ∷ [])

    pub it_stands : Stands (places x) x.tunables x.adapter h.outcome.args h.outcome.first before last_call
    it_stands = stands (places x) x.tunables x.adapter h.outcome.args h.outcome.first before last_call (subst (HaveAskedSoFar (places x) x.tunables x.adapter h.outcome.args h.outcome.first) calls_are (so_far x h))

    pub holds : Holds x.code x.types x.call (places x) x.adapter (names x) (described x h) h.callable.once h.outcome.args t.last (position_after next start before)
    holds =
        along x.code x.types x.call (places x) x.adapter (names x) (described x h) h.callable.once h.outcome.args x.shapes (Some x.answered) (Named x) (is_import x h) h.outcome.known t.last start t.front t.ruled t.honest first_known

    pub gave_up : GiveUpLive x.adapter next start before
    gave_up = gives_front x.adapter next start before last_call (subst (GiveUpLive x.adapter next start) calls_are (gives_up x h))

    pub gives_up_last : is_beside x.adapter last_call ≡ false → GivesUpLive (position_after next start before) last_call
    gives_up_last = gives_last x.adapter next start before last_call (subst (GiveUpLive x.adapter next start) calls_are (gives_up x h))
