-- Runs whose last call may be answered by a trap: where an action gave something, no call did; and calls before another are honest.
use Rattle.std.proofs.Common.{◌≡◌, ℕ, ◌+◌, ◌⊎◌, inl, inr, Bool, true, false, List, [], ◌∷◌, ◌++◌, length, refl, sym, ap, ◌∙◌, subst, cond}
use Rattle.std.specs.Prelude.{slice_get, nat_le, if◌then◌else◌}
use Rattle.std.specs.List.{filter}
use Rattle.fact_wasm.specs.declared.types.ValType.{ValType}
use Rattle.fact_types.specs.declared.import.Import.{Import}
use Rattle.fact_machine.specs.Machine.{i32_of}
use Rattle.fact_machine.specs.World.{World, Trap, Done, Halt, asked, number_at, written, set_global}
use Rattle.fact_machine.specs.declared.types.Answer.{Answer}
use Rattle.fact_machine.specs.declared.types.Answer.TheVariants.{Returns, Traps, Throws}
use Rattle.fact_machine.specs.declared.types.CoreValue.{CoreValue}
use Rattle.fact_machine.specs.declared.types.CoreValue.TheVariants.{I32}
use Rattle.fact_machine.specs.declared.types.TraceEntry.TheVariants.{Called}
use Rattle.fact_actions.specs.Actions as action
use Rattle.fact_actions.specs.Actions.{Action}
use Rattle.fact_actions.specs.Honest.{HasReturned}
use Rattle.fact_actions.specs.Regions.{Landing}
use Rattle.fact_actions.specs.Requests.{answers_in}
use Rattle.fact_actions.specs.Running.{ImportPlaces, Call, Ended, Gave, Halted, Strayed, if_typed, is_answer, with_answer, call_of, later, ended, run}
use Rattle.fact_action_laws.proofs.Parting.{When, when_heavier, when_later, when_stray}
use Rattle.fact_action_laws.proofs.Stopping.{AreReturned, returned_behind}
use Rattle.fact_action_laws.proofs.Ending.{honest_returned}
use Rattle.fact_action_laws.specs.AdapterValueLaws.{AnswersAreSoFar}
use Rattle.fact_action_laws.specs.Trapped.{AreHonestUntilTrap, has_returned, HaveReturned, answers_so_far}

-- ---- what gave something had an answer of each call

abbrev AllReturned : {A : Type 0} → ℕ → List Call → A → World → Type 0
AllReturned n cs a w = AreReturned cs

abbrev pub GivesReturned : {A : Type 0} → Ended A → Type 0
GivesReturned e = When e AllReturned

within_done : {A B : Type 0} (b : Bool) (x : A) (w w' : World) (f : A → World → Ended B) → When (f x w) AllReturned → When (ended (if b then Done x w else Halt Trap w') f) AllReturned
within_done true x w w' f h = h
within_done false x w w' f h = tt

if_returned : {B : Type 0} (b : Bool) (w : World) (e : Ended B) (Q : ℕ → List Call → B → World → Type 0) → When e Q → When (if_typed b w e) Q
if_returned true w e Q h = h
if_returned false w e Q h = tt

behind_call : {B : Type 0} (c : Call) (e : Ended B) → HasReturned c → When e AllReturned → When (later (c ∷ []) e) AllReturned
behind_call {B} c e r h = when_later (c ∷ []) e AllReturned (by_end e h)
  where
    by_end : (e : Ended B) → When e AllReturned → When e (λ n ds a w. AreReturned (c ∷ ds))
    by_end (Gave n cs a w) h = (r, h)
    by_end (Halted n cs s w) h = tt
    by_end (Strayed n cs w) h = tt

answered_returned : {A : Type 0} (p : ImportPlaces) (i : Import) (args : List CoreValue) (ts : List ValType) (k : List CoreValue → Action A) (w : World) (left : List Answer) → ((rs : List CoreValue) (w' : World) → When (run p (k rs) w') AllReturned)
    → When (later (call_of i args w.state left) (with_answer p ts w (asked (p.function i) args w left) (λ rs w'. run p (k rs) w'))) AllReturned
answered_returned p i args ts k w [] h = tt
answered_returned p i args ts k w (Traps ∷ more) h = tt
answered_returned p i args ts k w (Throws ∷ more) h = tt
answered_returned p i args ts k w (Returns rs state ∷ more) h =
    let c : Call = record { what = i; args = args; before = w.state; answer = Returns rs state } in
    let u : World = record { state = state; answers = more; trace = w.trace ++ Called (record { func = p.function i; args = args; before = w.state; answer = Returns rs state }) ∷ [] } in
    behind_call c (if_typed (is_answer p ts w.state rs state) u (run p (k rs) u)) tt (if_returned (is_answer p ts w.state rs state) u (run p (k rs) u) AllReturned (h rs u))

pub gives_returned : {A : Type 0} (p : ImportPlaces) (q : Action A) (w : World) → GivesReturned (run p q w)
gives_returned p (action.Give a) w = tt
gives_returned p (action.Visit n q) w = when_heavier n (run p q w) AllReturned (gives_returned p q w)
gives_returned p (action.Read n m a k) w = when_stray w (slice_get w.state.memories (p.memory m)) _ AllReturned (λ bytes e. within_done (nat_le (a + n) (length bytes)) (number_at n bytes a) w w (λ x w'. run p (k x) w') (gives_returned p (k (number_at n bytes a)) w))
gives_returned p (action.Write n m a x q) w = when_stray w (slice_get w.state.memories (p.memory m)) _ AllReturned (λ bytes e. within_done (nat_le (a + n) (length bytes)) (tt {0}) (written n (p.memory m) bytes a x w) w (λ u w'. run p q w') (gives_returned p q (written n (p.memory m) bytes a x w)))
gives_returned p (action.MemoryLength m k) w = when_stray w (slice_get w.state.memories (p.memory m)) _ AllReturned (λ bytes e. gives_returned p (k (length bytes)) w)
gives_returned p (action.GetFlags i k) w = when_stray w (slice_get w.state.globals (p.flags i)) _ AllReturned (λ v e. when_stray w (i32_of v) _ AllReturned (λ n f. gives_returned p (k n) w))
gives_returned p (action.SetFlags i x q) w = when_stray w (slice_get w.state.globals (p.flags i)) _ AllReturned (λ v e. gives_returned p q (set_global (p.flags i) (I32 x) w))
gives_returned p (action.Ask i args ts k) w = answered_returned p i args ts k w w.answers (λ rs w'. gives_returned p (k rs) w')
gives_returned p action.Unreachable w = tt

-- ---- the last call

-- a call that traps is not among those that returned
pub no_last : (cs front : List Call) (last : Call) → AreReturned cs → cs ≡ front ++ last ∷ [] → last.answer ≡ Traps → ⊥
no_last cs front last r is traps =
    subst (λ a. elim a as (λ x. Type 0) [ Returns rs state ↦ Unit {0} | Traps ↦ ⊥ | Throws ↦ ⊥ ]) traps (returned_behind front (last ∷ []) (subst AreReturned is r)).0

pub all_honest : (Honest : List Call → Type 0) (cs : List Call) → AreReturned cs → AreHonestUntilTrap Honest cs → Honest cs
all_honest Honest cs r (inl h) = h
all_honest Honest cs r (inr t) = absurd (no_last cs t.front t.last r t.calls_are t.last_traps)

-- The last of calls is among those behind, or there are none.
pub record IsBehind {A : Type 0} (cs ds front : List A) (last : A) : Type 0 where
  pub rest : List A
  pub ds_is : ds ≡ rest ++ last ∷ []
  pub front_is : front ≡ cs ++ rest

pub both_empty : {A : Type 0} (cs ds : List A) → cs ++ ds ≡ [] → (ds ≡ []) × (cs ≡ [])
both_empty [] ds e = (e, refl)
both_empty (c ∷ cs) ds e = absurd cc

pub last_behind : {A : Type 0} (cs ds front : List A) (last : A) → cs ++ ds ≡ front ++ last ∷ [] → ((ds ≡ []) × (cs ≡ front ++ last ∷ [])) ⊎ IsBehind cs ds front last
last_behind [] ds front last e = inr (record { rest = front; ds_is = e; front_is = refl })
last_behind (c ∷ cs) ds [] last e =
    let one : cs ++ ds ≡ [] = cc in
    let first : c ≡ last = cc in
    let r = both_empty cs ds one in
    inl (r.0, ap (λ l. c ∷ l) r.1 ∙ ap (λ x. x ∷ []) first)
last_behind (c ∷ cs) ds (f ∷ front) last e = by (last_behind cs ds front last later)
  where
    later : cs ++ ds ≡ front ++ last ∷ []
    later = cc

    first : c ≡ f
    first = cc

    by : ((ds ≡ []) × (cs ≡ front ++ last ∷ [])) ⊎ IsBehind cs ds front last → ((ds ≡ []) × (c ∷ cs ≡ f ∷ (front ++ last ∷ []))) ⊎ IsBehind (c ∷ cs) ds (f ∷ front) last
    by (inl h) = inl (h.0, ap (λ l. c ∷ l) h.1 ∙ ap (λ x. x ∷ (front ++ last ∷ [])) first)
    by (inr b) = inr (record { rest = b.rest; ds_is = b.ds_is; front_is = ap (λ l. f ∷ l) b.front_is ∙ ap (λ x. x ∷ (cs ++ b.rest)) (sym first) })

-- ---- answers so far

-- where all calls returned, these are their answers
pub returned_all : (cs : List Call) → AreReturned cs → HaveReturned cs
returned_all [] r = refl
returned_all (c ∷ cs) r = by c.answer r.0 ∙ ap (λ l. c ∷ l) (returned_all cs r.1)
  where
    by : (a : Answer) → elim a as (λ x. Type 0) [ Returns rs state ↦ Unit {0} | Traps ↦ ⊥ | Throws ↦ ⊥ ]
        → cond (elim a as (λ x. Bool) [ Returns rs state ↦ true | Traps ↦ false | Throws ↦ false ]) (c ∷ filter has_returned cs) (filter has_returned cs) ≡ c ∷ filter has_returned cs
    by (Returns rs state) h = refl
    by Traps h = absurd h
    by Throws h = absurd h

pub all_answers : (l : Landing) (cs : List Call) → AreReturned cs → answers_so_far l cs ≡ answers_in l cs
all_answers l cs r = ap (answers_in l) (returned_all cs r)

-- behind them one that trapped has none
before_trap : (cs : List Call) (last : Call) → AreReturned cs → last.answer ≡ Traps → filter has_returned (cs ++ last ∷ []) ≡ cs
before_trap [] last r traps = ap (λ x. cond (elim x as (λ y. Bool) [ Returns rs state ↦ true | Traps ↦ false | Throws ↦ false ]) (last ∷ []) []) traps
before_trap (c ∷ cs) last r traps = by c.answer r.0 ∙ ap (λ l. c ∷ l) (before_trap cs last r.1 traps)
  where
    by : (a : Answer) → elim a as (λ x. Type 0) [ Returns rs state ↦ Unit {0} | Traps ↦ ⊥ | Throws ↦ ⊥ ]
        → cond (elim a as (λ x. Bool) [ Returns rs state ↦ true | Traps ↦ false | Throws ↦ false ]) (c ∷ filter has_returned (cs ++ last ∷ [])) (filter has_returned (cs ++ last ∷ [])) ≡ c ∷ filter has_returned (cs ++ last ∷ [])
    by (Returns rs state) h = refl
    by Traps h = absurd h
    by Throws h = absurd h

pub answers_are_so_far : AnswersAreSoFar
answers_are_so_far p a next x l cs = (
  λ h. all_answers l cs (honest_returned p a next x cs h),
  λ t. ap (λ ds. answers_so_far l ds) t.calls_are ∙ ap (answers_in l) (before_trap t.front t.last (honest_returned p a next x t.front t.front_honest) t.last_traps),
)
