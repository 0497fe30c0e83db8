-- A run that gives something, taken apart: its weight, its calls, and the worlds between.
use Rattle.std.proofs.Common.{◌≡◌, ℕ, ◌+◌, Bool, true, false, List, [], ◌∷◌, ◌++◌, Option, Some, None, refl, sym, subst, append-nil, add-zero}
use Rattle.std.specs.Prelude.{slice_get}
use Rattle.fact_wasm.specs.declared.types.ValType.{ValType}
use Rattle.fact_types.specs.declared.outside.Trap.{Trap}
use Rattle.fact_machine.specs.declared.types.CoreValue.{CoreValue}
use Rattle.fact_machine.specs.declared.types.CoreValue.TheVariants.{I32}
use Rattle.fact_machine.specs.declared.types.Answer.{Answer}
use Rattle.fact_machine.specs.declared.types.Answer.TheVariants.{Returns, Traps, Throws}
use Rattle.fact_machine.specs.declared.types.TraceEntry.TheVariants.{Called}
use Rattle.fact_machine.specs.World.{World, asked, set_global}
use Rattle.fact_types.specs.declared.import.Import.{Import}
use Rattle.fact_actions.specs.Actions.{Action, Give, SetFlags, Ask, ◌>>=◌, ◌>>◌, unless}
use Rattle.fact_actions.specs.Adapters.{none, cleared}
use Rattle.fact_actions.specs.Running.{ImportPlaces, Call, Ended, Gave, Halted, Strayed, heavier, later, then_ended, or_strayed, if_typed, is_answer, with_answer, call_of, run}
use Rattle.fact_actions.proofs.Whenever.{IsCall}
use Rattle.fact_actions.proofs.Binds.{binds_run}

-- where an end gives something, this holds of its weight, its calls, what it gives and the world then
abbrev pub When : {A : Type 0} → Ended A → (ℕ → List Call → A → World → Type 0) → Type 0
When (Gave n cs a w) Q = Q n cs a w
When (Halted n cs s w) Q = Unit {0}
When (Strayed n cs w) Q = Unit {0}

when_so : {A : Type 0} (e : Ended A) (Q R : ℕ → List Call → A → World → Type 0) → When e Q → ((n : ℕ) (cs : List Call) (a : A) (w : World) → e ≡ Gave n cs a w → Q n cs a w → R n cs a w) → When e R
when_so (Gave n cs a w) Q R h g = g n cs a w refl h
when_so (Halted n cs s w) Q R h g = tt
when_so (Strayed n cs w) Q R h g = tt

when_any : {A : Type 0} (e : Ended A) → When e (λ n cs a w. Unit {0})
when_any (Gave n cs a w) = tt
when_any (Halted n cs s w) = tt
when_any (Strayed n cs w) = tt

pub when_heavier : {A : Type 0} (n : ℕ) (e : Ended A) (Q : ℕ → List Call → A → World → Type 0) → When e (λ m cs a w. Q (n + m) cs a w) → When (heavier n e) Q
when_heavier n (Gave m cs a w) Q h = h
when_heavier n (Halted m cs s w) Q h = tt
when_heavier n (Strayed m cs w) Q h = tt

pub when_later : {A : Type 0} (cs : List Call) (e : Ended A) (Q : ℕ → List Call → A → World → Type 0) → When e (λ n ds a w. Q n (cs ++ ds) a w) → When (later cs e) Q
when_later cs (Gave m ds a w) Q h = h
when_later cs (Halted m ds s w) Q h = tt
when_later cs (Strayed m ds w) Q h = tt

when_then : {A B : Type 0} (e : Ended A) (f : A → World → Ended B) (Q : ℕ → List Call → B → World → Type 0)
    → When e (λ n cs a w. When (f a w) (λ m ds b w'. Q (n + m) (cs ++ ds) b w')) → When (then_ended e f) Q
when_then (Gave n cs a w) f Q h = when_heavier n (later cs (f a w)) Q (when_later cs (f a w) (λ m ds b w'. Q (n + m) ds b w') h)
when_then (Halted n cs s w) f Q h = tt
when_then (Strayed n cs w) f Q h = tt

pub when_stray : {A X : Type 0} (w : World) (o : Option X) (F : X → Ended A) (Q : ℕ → List Call → A → World → Type 0)
    → ((x : X) → o ≡ Some x → When (F x) Q) → When (or_strayed w o F) Q
when_stray w None F Q h = tt
when_stray w (Some x) F Q h = h x refl

-- where an action gives something in a world
pub record TakenApart {A : Type 0} (p : ImportPlaces) (q : Action A) (w : World) (Q : ℕ → List Call → A → World → Type 0) : Type 0 where
  pub so : When (run p q w) Q

-- what it gave is what it came to
pub parts_self : {A : Type 0} (p : ImportPlaces) (q : Action A) (w : World) → TakenApart p q w (λ n cs a w'. run p q w ≡ Gave n cs a w')
parts_self p q w = record { so = when_so (run p q w) (λ n cs a w'. Unit {0}) _ (when_any (run p q w)) (λ n cs a w' e k. e) }

pub parts_so : {A : Type 0} {p : ImportPlaces} {q : Action A} {w : World} {Q R : ℕ → List Call → A → World → Type 0} → TakenApart p q w Q → ((n : ℕ) (cs : List Call) (a : A) (w' : World) → Q n cs a w' → R n cs a w') → TakenApart p q w R
parts_so {p} {q} {w} {Q} {R} h g = record { so = when_so (run p q w) Q R h.so (λ n cs a w' e k. g n cs a w' k) }

pub parts_bind : {A B : Type 0} {p : ImportPlaces} (q : Action A) (f : A → Action B) {w : World} {Q : ℕ → List Call → A → World → Type 0} {R : ℕ → List Call → B → World → Type 0}
    → TakenApart p q w Q
    → ((n : ℕ) (cs : List Call) (a : A) (w' : World) → Q n cs a w' → TakenApart p (f a) w' (λ m ds b w''. R (n + m) (cs ++ ds) b w''))
    → TakenApart p (q >>= f) w R
parts_bind {p} q f {w} {Q} {R} h g =
    record { so = subst (λ e. When e R) (sym (binds_run p q f w)) (when_then (run p q w) _ R (when_so (run p q w) Q _ h.so (λ n cs a w' e k. (g n cs a w' k).so))) }

-- ---- calls

module _ {A : Type 0} (p : ImportPlaces) (i : Import) (args : List CoreValue) (ts : List ValType) (k : List CoreValue → Action A) (Q : ℕ → List Call → A → World → Type 0) where
  if_so : (b : Bool) (w : World) (e : Ended A) (R : ℕ → List Call → A → World → Type 0) → (b ≡ true → When e R) → When (if_typed b w e) R
  if_so true w e R h = h refl
  if_so false w e R h = tt

  answered_so : (w : World) (left : List Answer)
      → ((c : Call) (rs : List CoreValue) (w' : World) → IsCall c i args w rs w' → is_answer p ts w.state rs w'.state ≡ true → When (run p (k rs) w') (λ n ds a w''. Q n (c ∷ ds) a w''))
      → When (later (call_of i args w.state left) (with_answer p ts w (asked (p.function i) args w left) (λ rs w'. run p (k rs) w'))) Q
  answered_so w [] h = tt
  answered_so w (Traps ∷ more) h = tt
  answered_so w (Throws ∷ more) h = tt
  answered_so w (Returns rs state ∷ more) h =
      let c : Call = record { what = i; args = args; before = w.state; answer = Returns rs state } in
      let u : World = record { state = state; answers = more; trace = w.trace ++ Called (record { func = p.function i; args = args; before = w.state; answer = Returns rs state }) ∷ [] } in
      when_later (call_of i args w.state (Returns rs state ∷ more)) _ Q
      (if_so (is_answer p ts w.state rs state) u _ _ (λ e. h c rs u (record { asked = refl; gave = refl; before = refl; behind = refl }) e))

-- a call that was made, and answered by values of its types in a typed state
pub parts_ask : {A : Type 0} {p : ImportPlaces} {i : Import} {args : List CoreValue} {ts : List ValType} {k : List CoreValue → Action A} {w : World} {Q : ℕ → List Call → A → World → Type 0}
    → ((c : Call) (rs : List CoreValue) (w' : World) → IsCall c i args w rs w' → is_answer p ts w.state rs w'.state ≡ true → TakenApart p (k rs) w' (λ n ds a w''. Q n (c ∷ ds) a w'')) → TakenApart p (Ask i args ts k) w Q
parts_ask {p} {i} {args} {ts} {k} {w} {Q} h = record { so = answered_so p i args ts k Q w w.answers (λ c rs w' g t. (h c rs w' g t).so) }

pub parts_unless : {A : Type 0} (p : ImportPlaces) (t : Trap) (b : Bool) (q : Action A) (w : World) (Q : ℕ → List Call → A → World → Type 0) → (b ≡ true → TakenApart p q w Q) → TakenApart p (unless t b none >> q) w Q
parts_unless p t true q w Q h = h refl
parts_unless p t false q w Q h = parts_ask (λ c rs w' g e. record { so = tt })

-- the flags of an instance are 0 for a while
pub parts_cleared : {A : Type 0} (p : ImportPlaces) (i saved : ℕ) (q : Action A) (w : World) (R : ℕ → List Call → A → World → Type 0)
    → ((n : ℕ) (cs : List Call) (a : A) (u : World) → run p q (set_global (p.flags i) (I32 0) w) ≡ Gave n cs a u → R n cs a (set_global (p.flags i) (I32 saved) u))
    → TakenApart p (cleared i saved q) w R
parts_cleared p i saved q w R g = record {
  so =
      when_stray w (slice_get w.state.globals (p.flags i)) _ R (λ v e.
      (parts_bind q (λ a. SetFlags i saved (Give a)) {R = R} (parts_self p q (set_global (p.flags i) (I32 0) w)) (λ n cs a u t. record {
        so =
            when_stray u (slice_get u.state.globals (p.flags i)) _ _ (λ v' e'.
            subst (λ m. R m (cs ++ []) a (set_global (p.flags i) (I32 saved) u)) (sym (add-zero n)) (subst (λ l. R n l a (set_global (p.flags i) (I32 saved) u)) (sym (append-nil cs)) (g n cs a u t)));
      })).so);
}
