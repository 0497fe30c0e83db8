-- What holds of each call that an action may make, whatever is read and answered; and so of each call of a transfer, also of one
-- that comes to no end.
use Rattle.std.proofs.Common.{◌≡◌, ℕ, ◌+◌, Bool, true, false, List, [], ◌∷◌, ◌++◌, Option, Some, None, refl, length}
use Rattle.std.specs.Prelude.{slice_get, nat_eq, nat_le, ◌%◌}
use Rattle.fact_wasm.specs.declared.types.ValType.{ValType}
use Rattle.fact_types.specs.Adapters.{LinkedAdapter}
use Rattle.fact_types.specs.declared.import.Import.{Import}
use Rattle.fact_types.specs.declared.import.Import.TheVariants as import
use Rattle.fact_types.specs.declared.outside.CoreDef.{CoreDef}
use Rattle.fact_types.specs.declared.outside.MemoryOption.{MemoryOption}
use Rattle.fact_types.specs.declared.outside.Trap.{Trap}
use Rattle.fact_types.specs.declared.outside.UnsafeIntrinsic.{UnsafeIntrinsic}
use Rattle.fact_machine.specs.declared.types.Answer.{Answer}
use Rattle.fact_machine.specs.declared.types.CoreValue.{CoreValue}
use Rattle.fact_machine.specs.declared.types.CoreValue.TheVariants.{I32}
use Rattle.fact_machine.specs.Machine.{i32_of}
use Rattle.fact_machine.specs.World.{World, Res, Done, Halt, read, write, outside, set_global}
use Rattle.fact_actions.specs.Actions.{Action, Give, Visit, Read, Write, MemoryLength, GetFlags, SetFlags, Ask, Unreachable, ◌>>=◌, unless}
use Rattle.fact_actions.specs.Adapters.{AdapterTunables, params_transfer, results_transfer, move_params, move_results}
use Rattle.fact_actions.specs.Order.{IsValueCall}
use Rattle.fact_actions.specs.Running.{ImportPlaces, Call, Ended, Gave, Halted, Strayed, calls_in, heavier, later, or_strayed, ended, if_typed, is_answer, call_of, run}
use Rattle.fact_actions.specs.Sides.{LiftLowerOptions, Transfer, with_memory, address_value, type_of_addresses, first_bits, check_region, get_slots, set_slots, reallocate}
use Rattle.fact_actions.proofs.Kept.{IsKept}
use Rattle.fact_actions.proofs.Passed.{params_kept, results_kept}

abbrev pub AllCalled : (Import → Type 0) → List Call → Type 0
AllCalled P [] = Unit {0}
AllCalled P (c ∷ cs) = P c.what × AllCalled P cs

pub called_append : (P : Import → Type 0) (cs ds : List Call) → AllCalled P cs → AllCalled P ds → AllCalled P (cs ++ ds)
called_append P [] ds h k = k
called_append P (c ∷ cs) ds h k = (h.0, called_append P cs ds h.1 k)

module _ (P : Import → Type 0) where
  May : {A : Type 0} → Action A → Type 0
  May (Give a) = Unit {0}
  May (Visit n q) = May q
  May (Read n m a k) = (x : ℕ) → May (k x)
  May (Write n m a x q) = May q
  May (MemoryLength m k) = (x : ℕ) → May (k x)
  May (GetFlags i k) = (x : ℕ) → May (k x)
  May (SetFlags i x q) = May q
  May (Ask i args ts k) = P i × ((rs : List CoreValue) → May (k rs))
  May Unreachable = Unit {0}

  -- an action that calls only what has the property
  pub record Calls {A : Type 0} (q : Action A) : Type 0 where
    may : May q

may_then : {A B : Type 0} (R : Import → Type 0) (q : Action A) (f : A → Action B) → May R q → ((a : A) → May R (f a)) → May R (q >>= f)
unfolding May
may_then R (Give a) f h g = g a
may_then R (Visit n q) f h g = may_then R q f h g
may_then R (Read n m a k) f h g = λ x. may_then R (k x) f (h x) g
may_then R (Write n m a x q) f h g = may_then R q f h g
may_then R (MemoryLength m k) f h g = λ x. may_then R (k x) f (h x) g
may_then R (GetFlags i k) f h g = λ x. may_then R (k x) f (h x) g
may_then R (SetFlags i x q) f h g = may_then R q f h g
may_then R (Ask i args ts k) f h g = (h.0, λ rs. may_then R (k rs) f (h.1 rs) g)
may_then R Unreachable f h g = tt

module _ {P : Import → Type 0} where
  pub calls_give : {A : Type 0} (a : A) → Calls P (Give a)
  unfolding May
  calls_give a = record { may = tt }

  pub calls_stop : {A : Type 0} → Calls P {A = A} Unreachable
  unfolding May
  calls_stop = record { may = tt }

  pub calls_visit : {A : Type 0} (n : ℕ) {q : Action A} → Calls P q → Calls P (Visit n q)
  unfolding May
  calls_visit n h = record { may = h.may }

  pub calls_ask : {A : Type 0} (i : Import) (args : List CoreValue) (ts : List ValType) {k : List CoreValue → Action A} → P i → ((rs : List CoreValue) → Calls P (k rs)) → Calls P (Ask i args ts k)
  unfolding May
  calls_ask i args ts e h = record { may = (e, λ rs. (h rs).may) }

  pub calls_read : {A : Type 0} (n : ℕ) (m : CoreDef) (a : ℕ) {k : ℕ → Action A} → ((x : ℕ) → Calls P (k x)) → Calls P (Read n m a k)
  unfolding May
  calls_read n m a h = record { may = λ x. (h x).may }

  pub calls_write : {A : Type 0} (n : ℕ) (m : CoreDef) (a x : ℕ) {q : Action A} → Calls P q → Calls P (Write n m a x q)
  unfolding May
  calls_write n m a x h = record { may = h.may }

  pub calls_length : {A : Type 0} (m : CoreDef) {k : ℕ → Action A} → ((x : ℕ) → Calls P (k x)) → Calls P (MemoryLength m k)
  unfolding May
  calls_length m h = record { may = λ x. (h x).may }

  pub calls_bind : {A B : Type 0} (q : Action A) (f : A → Action B) → Calls P q → ((a : A) → Calls P (f a)) → Calls P (q >>= f)
  calls_bind q f h g = record { may = may_then P q f h.may (λ a. (g a).may) }

-- ---- runs

module _ (P : Import → Type 0) where
  -- each call that was made has the property
  pub record HasCalled {A : Type 0} (e : Ended A) : Type 0 where
    pub all : AllCalled P (calls_in e)

  called_heavier : {A : Type 0} (n : ℕ) (e : Ended A) → HasCalled e → HasCalled (heavier n e)
  called_heavier n (Gave m cs a w) h = record { all = h.all }
  called_heavier n (Halted m cs s w) h = record { all = h.all }
  called_heavier n (Strayed m cs w) h = record { all = h.all }

  called_later : {A : Type 0} (cs : List Call) (e : Ended A) → AllCalled P cs → HasCalled e → HasCalled (later cs e)
  called_later cs (Gave m ds a w) g h = record { all = called_append P cs ds g h.all }
  called_later cs (Halted m ds s w) g h = record { all = called_append P cs ds g h.all }
  called_later cs (Strayed m ds w) g h = record { all = called_append P cs ds g h.all }

  called_there : {A B : Type 0} (w : World) (o : Option A) {f : A → Ended B} → ((a : A) → HasCalled (f a)) → HasCalled (or_strayed w o f)
  called_there w None h = record { all = tt }
  called_there w (Some a) h = h a

  called_done : {A B : Type 0} (r : Res A) {f : A → World → Ended B} → ((a : A) (w : World) → HasCalled (f a w)) → HasCalled (ended r f)
  called_done (Done a w) h = h a w
  called_done (Halt s w) h = record { all = tt }

  called_typed : {B : Type 0} (b : Bool) (w : World) {e : Ended B} → HasCalled e → HasCalled (if_typed b w e)
  called_typed true w h = h
  called_typed false w h = record { all = tt }

  call_has : (i : Import) (args : List CoreValue) (w : World) (left : List Answer) → P i → AllCalled P (call_of i args w.state left)
  call_has i args w [] e = tt
  call_has i args w (a ∷ more) e = (e, tt)

  called_run : {A : Type 0} (p : ImportPlaces) (q : Action A) (w : World) → May P q → HasCalled (run p q w)
  unfolding May
  called_run p (Give a) w h = record { all = tt }
  called_run p (Visit n q) w h = called_heavier n (run p q w) (called_run p q w h)
  called_run p (Read n m a k) w h = called_there w (slice_get w.state.memories (p.memory m)) (λ bytes. called_done (read n bytes a w) (λ x w'. called_run p (k x) w' (h x)))
  called_run p (Write n m a x q) w h = called_there w (slice_get w.state.memories (p.memory m)) (λ bytes. called_done (write n (p.memory m) bytes a x w) (λ u w'. called_run p q w' h))
  called_run p (MemoryLength m k) w h = called_there w (slice_get w.state.memories (p.memory m)) (λ bytes. called_run p (k (length bytes)) w (h (length bytes)))
  called_run p (GetFlags i k) w h = called_there w (slice_get w.state.globals (p.flags i)) (λ v. called_there w (i32_of v) (λ n. called_run p (k n) w (h n)))
  called_run p (SetFlags i x q) w h = called_there w (slice_get w.state.globals (p.flags i)) (λ v. called_run p q (set_global (p.flags i) (I32 x) w) h)
  called_run p (Ask i args ts k) w h =
      called_later (call_of i args w.state w.answers) _ (call_has i args w w.answers h.0)
      (called_done (outside (p.function i) args w) (λ rs w'. called_typed (is_answer p ts w.state rs w'.state) w' (called_run p (k rs) w' (h.1 rs))))
  called_run p Unreachable w h = record { all = tt }

  -- all calls of an action that calls only what has it
  pub all_called : {A : Type 0} (p : ImportPlaces) (q : Action A) (w : World) → Calls P q → AllCalled P (calls_in (run p q w))
  all_called p q w h = (called_run p q w h.may).all

-- ---- transfers

-- A property of traps, slots of the context, realloc and calls for values is one of all calls of a transfer.
module _ (P : Import → Type 0) (traps : (t : Trap) → P (import.Trap t)) (slots : (s : UnsafeIntrinsic) → P (import.UnsafeIntrinsic s)) where
  pub calls_unless : {A : Type 0} (t : Trap) (b : Bool) {q : Action A} → Calls P q → Calls P (unless t b q)
  calls_unless t true h = h
  calls_unless t false h = calls_ask (import.Trap t) [] [] (traps t) (λ rs. calls_stop)

  pub calls_memory : {A : Type 0} (o : LiftLowerOptions) {k : MemoryOption → Action A} → ((m : MemoryOption) → Calls P (k m)) → Calls P (with_memory o k)
  calls_memory o {k} h = by_memory o.memory
    where
      by_memory : (x : Option MemoryOption) → Calls P (elim x [ None ↦ Unreachable | Some m ↦ k m ])
      by_memory None = calls_stop
      by_memory (Some m) = h m

  pub calls_region : {A : Type 0} (o : LiftLowerOptions) (t : Trap) (p bytes align : ℕ) {q : Action A} → Calls P q → Calls P (check_region o t p bytes align q)
  calls_region o t p bytes align h = calls_unless _ (nat_eq (p % align) 0) (calls_memory o (λ m. calls_length m.def (λ length. calls_unless t (nat_le (p + bytes) length) h)))

  pub calls_slots : {A : Type 0} (b : Bool) {k : List CoreValue → List CoreValue → Action A} → ((x y : List CoreValue) → Calls P (k x y)) → Calls P (get_slots b k)
  calls_slots false h = h [] []
  calls_slots true h = calls_ask _ [] _ (slots _) (λ x. calls_ask _ [] _ (slots _) (λ y. h x y))

  pub calls_slots_set : {A : Type 0} (b : Bool) (x y : List CoreValue) {q : Action A} → Calls P q → Calls P (set_slots b x y q)
  calls_slots_set false x y h = h
  calls_slots_set true x y h = calls_ask _ x [] (slots _) (λ r. calls_ask _ y [] (slots _) (λ s. h))

  pub calls_realloc : {A : Type 0} (concurrency : Bool) (o : LiftLowerOptions) (t : Trap) (old old_size align new_size : ℕ) {k : ℕ → Action A} → ((f : CoreDef) → o.realloc ≡ Some f → P (import.CoreDef f))
      → ((q : ℕ) → Calls P (k q)) → Calls P (reallocate concurrency o t old old_size align new_size k)
  calls_realloc concurrency o t old old_size align new_size {k} realloc h = by_realloc o.realloc realloc
    where
      by_realloc : (f : Option CoreDef) → ((g : CoreDef) → f ≡ Some g → P (import.CoreDef g)) → Calls P (elim f [
        | None ↦ Unreachable
        | Some f ↦
            get_slots concurrency (λ a b. set_slots concurrency (I32 0 ∷ []) (I32 0 ∷ [])
            (Ask (import.CoreDef f) (address_value o old ∷ address_value o old_size ∷ address_value o align ∷ address_value o new_size ∷ []) (type_of_addresses o ∷ []) (λ rs.
            set_slots concurrency a b (check_region o t (first_bits rs) new_size align (k (first_bits rs))))))
      ])
      by_realloc None is = calls_stop
      by_realloc (Some f) is =
          calls_slots concurrency (λ x y. calls_slots_set concurrency _ _ (calls_ask (import.CoreDef f) _ _ (is f refl) (λ rs.
          calls_slots_set concurrency x y (calls_region o t (first_bits rs) new_size align (h (first_bits rs))))))

  calls_kept : (tr : Transfer) → ((f : CoreDef) → tr.to.realloc ≡ Some f → P (import.CoreDef f)) → ((i : Import) → IsValueCall tr.from tr.to i → P i) → IsKept tr (λ c A q. Calls P q)
  calls_kept tr realloc values = record {
    plain = record {
      more = λ c d A q le h. h;
      gives = λ A a. calls_give a;
      stops = λ A. calls_stop;
      traps = λ A t. calls_ask (import.Trap t) [] [] (traps t) (λ rs. calls_stop);
      reads = λ c A size m a k has h. calls_read size m a h;
      lengths = λ c A m k has h. calls_length m h;
    };
    writes = λ c A size m a x q e h. calls_write size m.def a x h;
    visits = λ n A q le h. calls_visit n h;
    values = λ c A i args ts k v typed h. calls_ask i args ts (values i v) h;
    requests = λ c A t old old_size align new_size k h. calls_realloc tr.concurrency tr.to t old old_size align new_size realloc h;
    binds = λ c d A B q f h g. calls_bind q f h g;
  }

  module _ (u : AdapterTunables) (a : LinkedAdapter) where
    pub params_called : ((f : CoreDef) → a.lift.realloc ≡ Some f → P (import.CoreDef f)) → ((i : Import) → IsValueCall (params_transfer u a).from (params_transfer u a).to i → P i)
        → (args : List CoreValue) (p : ImportPlaces) (w : World) → AllCalled P (calls_in (run p (move_params u a args) w))
    params_called realloc values args p w = (called_run P p (move_params u a args) w (params_kept u a (calls_kept (params_transfer u a) realloc values) args).may).all

    pub results_called : ((f : CoreDef) → a.lower.realloc ≡ Some f → P (import.CoreDef f)) → ((i : Import) → IsValueCall (results_transfer u a).from (results_transfer u a).to i → P i)
        → (given : List CoreValue) (pointer : ℕ) (p : ImportPlaces) (w : World) → AllCalled P (calls_in (run p (move_results u a given pointer) w))
    results_called realloc values given pointer p w = (called_run P p (move_results u a given pointer) w (results_kept u a (calls_kept (results_transfer u a) realloc values) given pointer).may).all
