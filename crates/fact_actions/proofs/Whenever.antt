-- What holds of an end whenever it gives something.
use Rattle.std.proofs.Common.{◌≡◌, ℕ, Bool, true, false, List, [], ◌∷◌, ◌++◌, Option, Some, None, refl, sym, subst}
use Rattle.fact_wasm.specs.declared.types.ValType.{ValType}
use Rattle.fact_types.specs.declared.outside.Trap.{Trap}
use Rattle.fact_machine.specs.declared.types.CoreValue.{CoreValue}
use Rattle.fact_machine.specs.declared.types.Answer.{Answer}
use Rattle.fact_machine.specs.declared.types.Answer.TheVariants.{Returns, Traps, Throws}
use Rattle.fact_machine.specs.declared.types.TraceEntry.TheVariants.{Called}
use Rattle.fact_machine.specs.World.{World, asked}
use Rattle.fact_types.specs.declared.import.Import.{Import}
use Rattle.fact_actions.specs.Actions.{Action, Ask, ◌>>=◌, trap}
use Rattle.fact_actions.specs.Running.{ImportPlaces, Call, Ended, Gave, Halted, Strayed, heavier, later, then_ended, or_strayed, if_typed, is_answer, with_answer, call_of, run}
use Rattle.fact_actions.specs.Calls.{results, state_after}
use Rattle.fact_actions.specs.Order.{asks}
use Rattle.fact_actions.proofs.Binds.{binds_run}

-- whenever an end gives something, this holds of its calls, of what it gives and of the world then
abbrev pub Whenever : {A : Type 0} → Ended A → (List Call → A → World → Type 0) → Type 0
Whenever (Gave n cs a w) Q = Q cs a w
Whenever (Halted n cs s w) Q = Unit {0}
Whenever (Strayed n cs w) Q = Unit {0}

whenever_so : {A : Type 0} (e : Ended A) (Q R : List Call → A → World → Type 0) → Whenever e Q → ((cs : List Call) (a : A) (w : World) → Q cs a w → R cs a w) → Whenever e R
whenever_so (Gave n cs a w) Q R h g = g cs a w h
whenever_so (Halted n cs s w) Q R h g = tt
whenever_so (Strayed n cs w) Q R h g = tt

pub whenever_heavier : {A : Type 0} (n : ℕ) (e : Ended A) (Q : List Call → A → World → Type 0) → Whenever e Q → Whenever (heavier n e) Q
whenever_heavier n (Gave m cs a w) Q h = h
whenever_heavier n (Halted m cs s w) Q h = tt
whenever_heavier n (Strayed m cs w) Q h = tt

pub whenever_later : {A : Type 0} (cs : List Call) (e : Ended A) (Q : List Call → A → World → Type 0) → Whenever e (λ ds a w. Q (cs ++ ds) a w) → Whenever (later cs e) Q
whenever_later cs (Gave m ds a w) Q h = h
whenever_later cs (Halted m ds s w) Q h = tt
whenever_later cs (Strayed m ds w) Q h = tt

whenever_then : {A B : Type 0} (e : Ended A) (f : A → World → Ended B) (Q : List Call → B → World → Type 0)
    → Whenever e (λ cs a w. Whenever (f a w) (λ ds b w'. Q (cs ++ ds) b w')) → Whenever (then_ended e f) Q
whenever_then (Gave n cs a w) f Q h = whenever_heavier n (later cs (f a w)) Q (whenever_later cs (f a w) Q h)
whenever_then (Halted n cs s w) f Q h = tt
whenever_then (Strayed n cs w) f Q h = tt

pub whenever_stray : {A X : Type 0} (w : World) (o : Option X) (F : X → Ended A) (Q : List Call → A → World → Type 0)
    → ((x : X) → o ≡ Some x → Whenever (F x) Q) → Whenever (or_strayed w o F) Q
whenever_stray w None F Q h = tt
whenever_stray w (Some x) F Q h = h x refl

-- whenever an action gives something in a world
pub record Runs {A : Type 0} (p : ImportPlaces) (q : Action A) (w : World) (Q : List Call → A → World → Type 0) : Type 0 where
  pub so : Whenever (run p q w) Q

pub runs_so : {A : Type 0} {p : ImportPlaces} {q : Action A} {w : World} {Q R : List Call → A → World → Type 0} → Runs p q w Q → ((cs : List Call) (a : A) (w' : World) → Q cs a w' → R cs a w') → Runs p q w R
runs_so {p} {q} {w} {Q} {R} h g = record { so = whenever_so (run p q w) Q R h.so g }

-- one action and then another
pub runs_bind : {A B : Type 0} {p : ImportPlaces} (q : Action A) (f : A → Action B) {w : World} {Q : List Call → A → World → Type 0} {R : List Call → B → World → Type 0}
    → Runs p q w Q
    → ((cs : List Call) (a : A) (w' : World) → Q cs a w' → Runs p (f a) w' (λ ds b w''. R (cs ++ ds) b w''))
    → Runs p (q >>= f) w R
runs_bind {p} q f {w} {Q} {R} h g = record {
  so = subst (λ e. Whenever e R) (sym (binds_run p q f w)) (whenever_then (run p q w) _ R (whenever_so (run p q w) Q _ h.so (λ cs a w' k. (g cs a w' k).so)));
}

-- ---- calls

-- a call that was made in a world, and returned so into another
pub record IsCall (c : Call) (i : Import) (args : List CoreValue) (w : World) (rs : List CoreValue) (w' : World) : Type 0 where
  pub asked : asks c ≡ (i, args)
  pub gave : results c ≡ rs
  pub before : c.before ≡ w.state
  pub behind : state_after c ≡ w'.state

module _ {A : Type 0} (p : ImportPlaces) (i : Import) (args : List CoreValue) (ts : List ValType) (k : List CoreValue → Action A) (Q : List Call → A → World → Type 0) where
  if_so : (b : Bool) (w : World) (e : Ended A) (R : List Call → A → World → Type 0) → Whenever e R → Whenever (if_typed b w e) R
  if_so true w e R h = h
  if_so false w e R h = tt

  answered_so : (w : World) (left : List Answer)
      → ((c : Call) (rs : List CoreValue) (w' : World) → IsCall c i args w rs w' → Whenever (run p (k rs) w') (λ ds a w''. Q (c ∷ ds) a w''))
      → Whenever (later (call_of i args w.state left) (with_answer p ts w (asked (p.function i) args w left) (λ rs w'. run p (k rs) w'))) Q
  answered_so w [] h = tt
  answered_so w (Traps ∷ more) h = tt
  answered_so w (Throws ∷ more) h = tt
  answered_so w (Returns rs state ∷ more) h =
      let c : Call = record { what = i; args = args; before = w.state; answer = Returns rs state } in
      let u : World = record { state = state; answers = more; trace = w.trace ++ Called (record { func = p.function i; args = args; before = w.state; answer = Returns rs state }) ∷ [] } in
      whenever_later (call_of i args w.state (Returns rs state ∷ more)) _ Q
      (if_so (is_answer p ts w.state rs state) u _ _ (h c rs u (record { asked = refl; gave = refl; before = refl; behind = refl })))

  whenever_ask : (w : World)
      → ((c : Call) (rs : List CoreValue) (w' : World) → IsCall c i args w rs w' → Whenever (run p (k rs) w') (λ ds a w''. Q (c ∷ ds) a w''))
      → Whenever (run p (Ask i args ts k) w) Q
  whenever_ask w h = answered_so w w.answers h

pub runs_ask : {A : Type 0} {p : ImportPlaces} {i : Import} {args : List CoreValue} {ts : List ValType} {k : List CoreValue → Action A} {w : World} {Q : List Call → A → World → Type 0}
    → ((c : Call) (rs : List CoreValue) (w' : World) → IsCall c i args w rs w' → Runs p (k rs) w' (λ ds a w''. Q (c ∷ ds) a w'')) → Runs p (Ask i args ts k) w Q
runs_ask {p} {i} {args} {ts} {k} {w} {Q} h = record { so = whenever_ask p i args ts k Q w (λ c rs w' g. (h c rs w' g).so) }

-- a trap gives nothing
pub runs_trap : {A : Type 0} (p : ImportPlaces) (t : Trap) (w : World) (Q : List Call → A → World → Type 0) → Runs p (trap t) w Q
runs_trap p t w Q = runs_ask (λ c rs w' h. record { so = tt })
