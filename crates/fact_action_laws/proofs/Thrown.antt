-- Nothing is thrown where no call threw.
use Rattle.std.proofs.Common.{◌+◌, inl, inr, Bool, true, false, List, [], ◌∷◌, ◌++◌, length, sym, subst}
use Rattle.std.specs.Prelude.{slice_get, nat_le, if◌then◌else◌}
use Rattle.fact_wasm.specs.declared.types.ValType.{ValType}
use Rattle.fact_types.specs.declared.import.Import.{Import}
use Rattle.fact_machine.specs.Machine.{i32_of}
use Rattle.fact_machine.specs.World.{World, Stop, Trap, Throw, Done, Halt, asked, number_at, written, set_global}
use Rattle.fact_machine.specs.declared.types.Answer.{Answer}
use Rattle.fact_machine.specs.declared.types.Answer.TheVariants.{Returns, Traps, Throws}
use Rattle.fact_machine.specs.declared.types.CoreValue.{CoreValue}
use Rattle.fact_machine.specs.declared.types.CoreValue.TheVariants.{I32}
use Rattle.fact_machine.specs.declared.types.TraceEntry.TheVariants.{Called}
use Rattle.fact_actions.specs.Actions as action
use Rattle.fact_actions.specs.Actions.{Action}
use Rattle.fact_actions.specs.Running.{ImportPlaces, Call, Ended, if_typed, is_answer, with_answer, call_of, later, ended, run}
use Rattle.fact_action_laws.proofs.Stopping.{Stopping, AreReturned, stopping_so, stopping_heavier, stopping_later, stopping_stray}
use Rattle.fact_action_laws.specs.Trapped.{AreHonestUntilTrap}

-- calls of which none was answered by a throw
abbrev pub HasNotThrown : Call → Type 0
HasNotThrown c = elim c.answer [ Returns rs state ↦ Unit {0} | Traps ↦ Unit {0} | Throws ↦ ⊥ ]

abbrev pub NoneThrew : List Call → Type 0
NoneThrew [] = Unit {0}
NoneThrew (c ∷ cs) = HasNotThrown c × NoneThrew cs

abbrev IsThrow : Stop → Type 0
IsThrow Throw = Unit {0}
IsThrow s = ⊥

abbrev pub Unthrown : Stop → List Call → Type 0
Unthrown s cs = NoneThrew cs → IsThrow s → ⊥

within_done : {A B : Type 0} (b : Bool) (x : A) (w w' : World) (f : A → World → Ended B) → Stopping (f x w) Unthrown → Stopping (ended (if b then Done x w else Halt Trap w') f) Unthrown
within_done true x w w' f h = h
within_done false x w w' f h = λ r t. t

if_unthrown : {B : Type 0} (b : Bool) (c : Call) (w : World) (e : Ended B) → Stopping e Unthrown → Stopping (if_typed b w e) (λ s ds. Unthrown s (c ∷ ds))
if_unthrown true c w e h = stopping_so e Unthrown (λ s ds. Unthrown s (c ∷ ds)) (λ s ds h r t. h r.1 t) h
if_unthrown false c w e h = tt

answered_unthrown : {A : Type 0} (p : ImportPlaces) (i : Import) (args : List CoreValue) (ts : List ValType) (k : List CoreValue → Action A) (w : World) (left : List Answer) → ((rs : List CoreValue) (w' : World) → Stopping (run p (k rs) w') Unthrown)
    → Stopping (later (call_of i args w.state left) (with_answer p ts w (asked (p.function i) args w left) (λ rs w'. run p (k rs) w'))) Unthrown
answered_unthrown p i args ts k w [] h = λ r t. t
answered_unthrown p i args ts k w (Traps ∷ more) h = λ r t. t
answered_unthrown p i args ts k w (Throws ∷ more) h = λ r t. r.0
answered_unthrown p i args ts k w (Returns rs state ∷ more) h =
    let c : Call = record { what = i; args = args; before = w.state; answer = Returns rs state } in
    let u : World = record { state = state; answers = more; trace = w.trace ++ Called (record { func = p.function i; args = args; before = w.state; answer = Returns rs state }) ∷ [] } in
    stopping_later (c ∷ []) (if_typed (is_answer p ts w.state rs state) u (run p (k rs) u)) Unthrown (if_unthrown (is_answer p ts w.state rs state) c u (run p (k rs) u) (h rs u))

pub never_thrown : {A : Type 0} (p : ImportPlaces) (q : Action A) (w : World) → Stopping (run p q w) Unthrown
never_thrown p (action.Give a) w = tt
never_thrown p (action.Visit n q) w = stopping_heavier n (run p q w) Unthrown (never_thrown p q w)
never_thrown p (action.Read n m a k) w = stopping_stray w (slice_get w.state.memories (p.memory m)) _ Unthrown (λ bytes e. within_done (nat_le (a + n) (length bytes)) (number_at n bytes a) w w (λ x w'. run p (k x) w') (never_thrown p (k (number_at n bytes a)) w))
never_thrown p (action.Write n m a x q) w = stopping_stray w (slice_get w.state.memories (p.memory m)) _ Unthrown (λ bytes e. within_done (nat_le (a + n) (length bytes)) (tt {0}) (written n (p.memory m) bytes a x w) w (λ u w'. run p q w') (never_thrown p q (written n (p.memory m) bytes a x w)))
never_thrown p (action.MemoryLength m k) w = stopping_stray w (slice_get w.state.memories (p.memory m)) _ Unthrown (λ bytes e. never_thrown p (k (length bytes)) w)
never_thrown p (action.GetFlags i k) w = stopping_stray w (slice_get w.state.globals (p.flags i)) _ Unthrown (λ v e. stopping_stray w (i32_of v) _ Unthrown (λ n f. never_thrown p (k n) w))
never_thrown p (action.SetFlags i x q) w = stopping_stray w (slice_get w.state.globals (p.flags i)) _ Unthrown (λ v e. never_thrown p q (set_global (p.flags i) (I32 x) w))
never_thrown p (action.Ask i args ts k) w = answered_unthrown p i args ts k w w.answers (λ rs w'. never_thrown p (k rs) w')
never_thrown p action.Unreachable w = λ r t. t

-- ---- calls that are honest until a trap

returned_none : (cs : List Call) → AreReturned cs → NoneThrew cs
returned_none [] r = tt
returned_none (c ∷ cs) r = (by c.answer r.0, returned_none cs r.1)
  where
    by : (x : Answer) → elim x as (λ y. Type 0) [ Returns rs state ↦ Unit {0} | Traps ↦ ⊥ | Throws ↦ ⊥ ] → elim x as (λ y. Type 0) [ Returns rs state ↦ Unit {0} | Traps ↦ Unit {0} | Throws ↦ ⊥ ]
    by (Returns rs state) h = tt
    by Traps h = tt
    by Throws h = h

none_append : (cs ds : List Call) → NoneThrew cs → NoneThrew ds → NoneThrew (cs ++ ds)
none_append [] ds h k = k
none_append (c ∷ cs) ds h k = (h.0, none_append cs ds h.1 k)

pub none_before : (cs ds : List Call) → NoneThrew (cs ++ ds) → NoneThrew cs
none_before [] ds h = tt
none_before (c ∷ cs) ds h = (h.0, none_before cs ds h.1)

pub none_threw : (Honest : List Call → Type 0) → ((cs : List Call) → Honest cs → AreReturned cs) → (cs : List Call) → AreHonestUntilTrap Honest cs → NoneThrew cs
none_threw Honest returned cs (inl h) = returned_none cs (returned cs h)
none_threw Honest returned cs (inr t) =
    let last : HasNotThrown t.last = subst (λ x. elim x as (λ y. Type 0) [ Returns rs state ↦ Unit {0} | Traps ↦ Unit {0} | Throws ↦ ⊥ ]) (sym t.last_traps) tt in
    subst NoneThrew (sym t.calls_are) (none_append t.front (t.last ∷ []) (returned_none t.front (returned t.front t.front_honest)) (last, tt))
