-- One action after another.
use Rattle.std.proofs.Common.{◌≡◌, ℕ, ◌+◌, Bool, true, false, List, [], ◌++◌, Option, Some, None, refl, sym, ap, ◌∙◌, append_assoc, arith}
use mathlib.Core.Path.{fun_ext}
use Rattle.std.specs.Prelude.{length, slice_get}
use Rattle.fact_wasm.specs.declared.types.ValType.{ValType}
use Rattle.fact_machine.specs.declared.types.CoreValue.{CoreValue}
use Rattle.fact_machine.specs.declared.types.CoreValue.TheVariants.{I32}
use Rattle.fact_machine.specs.World.{World, Res, Done, Halt, read, write, outside, set_global}
use Rattle.fact_machine.specs.Machine.{i32_of}
use Rattle.fact_actions.specs.Actions as action
use Rattle.fact_actions.specs.Actions.{Action, ◌>>=◌}
use Rattle.fact_actions.specs.Running.{ImportPlaces, Call, Ended, Gave, Halted, Strayed, heavier, later, then_ended, or_strayed, ended, if_typed, is_answer, with_answer, call_of, run}

-- ---- ends

-- an end with nothing before it
pub light : {A : Type 0} (e : Ended A) → heavier 0 (later [] e) ≡ e
light (Gave n cs a w) = ap (λ m. Gave m cs a w) (omega arith)
light (Halted n cs s w) = ap (λ m. Halted m cs s w) (omega arith)
light (Strayed n cs w) = ap (λ m. Strayed m cs w) (omega arith)

heavier_twice : {A : Type 0} (m n : ℕ) (e : Ended A) → heavier (m + n) e ≡ heavier m (heavier n e)
heavier_twice m n (Gave k cs a w) = ap (λ l. Gave l cs a w) (omega arith)
heavier_twice m n (Halted k cs s w) = ap (λ l. Halted l cs s w) (omega arith)
heavier_twice m n (Strayed k cs w) = ap (λ l. Strayed l cs w) (omega arith)

later_twice : {A : Type 0} (cs ds : List Call) (e : Ended A) → later (cs ++ ds) e ≡ later cs (later ds e)
later_twice cs ds (Gave k es a w) = ap (λ l. Gave k l a w) (append_assoc cs ds es)
later_twice cs ds (Halted k es s w) = ap (λ l. Halted k l s w) (append_assoc cs ds es)
later_twice cs ds (Strayed k es w) = ap (λ l. Strayed k l w) (append_assoc cs ds es)

heavier_later : {A : Type 0} (n : ℕ) (cs : List Call) (e : Ended A) → heavier n (later cs e) ≡ later cs (heavier n e)
heavier_later n cs (Gave k es a w) = refl
heavier_later n cs (Halted k es s w) = refl
heavier_later n cs (Strayed k es w) = refl

-- weight and calls before one end and another
heavier_then : {A B : Type 0} (n : ℕ) (e : Ended A) (f : A → World → Ended B) → heavier n (then_ended e f) ≡ then_ended (heavier n e) f
heavier_then n (Gave m cs a w) f = sym (heavier_twice n m (later cs (f a w)))
heavier_then n (Halted m cs s w) f = refl
heavier_then n (Strayed m cs w) f = refl

later_then : {A B : Type 0} (cs : List Call) (e : Ended A) (f : A → World → Ended B) → later cs (then_ended e f) ≡ then_ended (later cs e) f
later_then cs (Gave n ds a w) f = sym (heavier_later n cs (later ds (f a w))) ∙ ap (heavier n) (sym (later_twice cs ds (f a w)))
later_then cs (Halted n ds s w) f = refl
later_then cs (Strayed n ds w) f = refl

-- ---- what goes on from a part

-- an end is another and what is done with what that gives
record IsThen {A B : Type 0} (d : Ended B) (e : Ended A) (f : A → World → Ended B) : Type 0 where
  is : d ≡ then_ended e f

module _ {A B : Type 0} (f : A → World → Ended B) where
  weighed : (n : ℕ) {d : Ended B} (e : Ended A) → IsThen d e f → IsThen (heavier n d) (heavier n e) f
  weighed n e h = record { is = ap (heavier n) h.is ∙ heavier_then n e f }

  delayed : (cs : List Call) {d : Ended B} (e : Ended A) → IsThen d e f → IsThen (later cs d) (later cs e) f
  delayed cs e h = record { is = ap (later cs) h.is ∙ later_then cs e f }

  stray : {X : Type 0} (w : World) (o : Option X) {F : X → Ended B} {G : X → Ended A} → ((x : X) → IsThen (F x) (G x) f) → IsThen (or_strayed w o F) (or_strayed w o G) f
  stray w None h = record { is = refl }
  stray w (Some x) h = h x

  end : {X : Type 0} (r : Res X) {F : X → World → Ended B} {G : X → World → Ended A} → ((x : X) (w : World) → IsThen (F x w) (G x w) f) → IsThen (ended r F) (ended r G) f
  end (Done x w) h = h x w
  end (Halt s w) h = record { is = refl }

  if_so : (b : Bool) (w : World) {d : Ended B} {e : Ended A} → IsThen d e f → IsThen (if_typed b w d) (if_typed b w e) f
  if_so true w h = h
  if_so false w h = record { is = refl }

  answer : (p : ImportPlaces) (ts : List ValType) (w : World) (r : Res (List CoreValue)) {F : List CoreValue → World → Ended B} {G : List CoreValue → World → Ended A}
      → ((rs : List CoreValue) (w' : World) → IsThen (F rs w') (G rs w') f) → IsThen (with_answer p ts w r F) (with_answer p ts w r G) f
  answer p ts w r h = end r (λ rs w'. if_so (is_answer p ts w.state rs w'.state) w' (h rs w'))

-- ---- actions

is_then : {A B : Type 0} (p : ImportPlaces) (q : Action A) (f : A → Action B) (w : World) → IsThen (run p (q >>= f) w) (run p q w) (λ a w'. run p (f a) w')
is_then p (action.Give a) f w = record { is = sym (light (run p (f a) w)) }
is_then p (action.Visit n q) f w = weighed _ n (run p q w) (is_then p q f w)
is_then p (action.Read n m a k) f w = stray _ w (slice_get w.state.memories (p.memory m)) (λ bytes. end _ (read n bytes a w) (λ x w'. is_then p (k x) f w'))
is_then p (action.Write n m a x q) f w = stray _ w (slice_get w.state.memories (p.memory m)) (λ bytes. end _ (write n (p.memory m) bytes a x w) (λ u w'. is_then p q f w'))
is_then p (action.MemoryLength m k) f w = stray _ w (slice_get w.state.memories (p.memory m)) (λ bytes. is_then p (k (length bytes)) f w)
is_then p (action.GetFlags i k) f w = stray _ w (slice_get w.state.globals (p.flags i)) (λ v. stray _ w (i32_of v) (λ n. is_then p (k n) f w))
is_then p (action.SetFlags i x q) f w = stray _ w (slice_get w.state.globals (p.flags i)) (λ v. is_then p q f (set_global (p.flags i) (I32 x) w))
is_then p (action.Ask i args ts k) f w =
    delayed _ (call_of i args w.state w.answers) (with_answer p ts w (outside (p.function i) args w) (λ rs w'. run p (k rs) w'))
    (answer _ p ts w (outside (p.function i) args w) (λ rs w'. is_then p (k rs) f w'))
is_then p action.Unreachable f w = record { is = refl }

pub binds_run : {A B : Type 0} (p : ImportPlaces) (q : Action A) (f : A → Action B) (w : World) → run p (q >>= f) w ≡ then_ended (run p q w) (λ a w'. run p (f a) w')
binds_run p q f w = (is_then p q f w).is

pub binds_associate : {A B C : Type 0} (q : Action A) (f : A → Action B) (g : B → Action C) → ((q >>= f) >>= g) ≡ (q >>= (λ a. f a >>= g))
binds_associate (action.Give a) f g = refl
binds_associate (action.Visit n q) f g = ap (action.Visit n) (binds_associate q f g)
binds_associate (action.Read n m a k) f g = ap (action.Read n m a) (fun_ext (λ x. binds_associate (k x) f g))
binds_associate (action.Write n m a x q) f g = ap (action.Write n m a x) (binds_associate q f g)
binds_associate (action.MemoryLength m k) f g = ap (action.MemoryLength m) (fun_ext (λ x. binds_associate (k x) f g))
binds_associate (action.GetFlags i k) f g = ap (action.GetFlags i) (fun_ext (λ x. binds_associate (k x) f g))
binds_associate (action.SetFlags i x q) f g = ap (action.SetFlags i x) (binds_associate q f g)
binds_associate (action.Ask i args ts k) f g = ap (action.Ask i args ts) (fun_ext (λ rs. binds_associate (k rs) f g))
binds_associate action.Unreachable f g = refl
