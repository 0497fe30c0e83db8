-- Actions that never ask for the trap of a place that is not aligned.
use Rattle.std.proofs.Common.{◌≡◌, ℕ, zero, suc, ◌+◌, ◌%◌, ◌^◌, Bool, true, false, List, [], ◌∷◌, ◌++◌, length, Option, Some, None, refl, ap, ◌∙◌, cond, filter}
use Rattle.std.proofs.lemmas.Bool.{eqb-true}
use Rattle.std.proofs.lemmas.List.Elements.{filter-append}
use Rattle.std.proofs.lemmas.Nat.Gcd.{dvd_of_mod-eq-zero}
use Rattle.std.specs.Int.{◌∣◌}
use Rattle.std.specs.Prelude.{nat_eq, nat_le, nat_lt, slice_get, if◌then◌else◌}
use Rattle.fact_wasm.specs.declared.types.ValType.{ValType}
use Rattle.fact_types.specs.declared.import.Import.{Import}
use Rattle.fact_types.specs.declared.import.Import.TheVariants as import
use Rattle.fact_types.specs.declared.outside.CoreDef.{CoreDef}
use Rattle.fact_types.specs.declared.outside.MemoryOption.{MemoryOption}
use Rattle.fact_types.specs.declared.outside.Trap.{Trap as Reason}
use Rattle.fact_machine.specs.declared.types.CoreValue.{CoreValue}
use Rattle.fact_machine.specs.declared.types.CoreValue.TheVariants.{I32, I64, F32, F64, Func}
use Rattle.fact_machine.specs.declared.types.Answer.{Answer}
use Rattle.fact_machine.specs.World.{World, Res, Done, Halt, read, write, outside, set_global}
use Rattle.fact_machine.specs.Machine.{i32_of}
use Rattle.fact_values.specs.Lift.{bits_of}
use Rattle.fact_actions.specs.Actions.{Action, Give, Visit, Read, Write, MemoryLength, GetFlags, SetFlags, Ask, Unreachable, ◌>>=◌, unless, each_from}
use Rattle.fact_actions.specs.AdapterLaws.{is_misplaced}
use Rattle.fact_actions.specs.Running.{ImportPlaces, Call, Ended, Gave, Halted, Strayed, calls_in, heavier, later, or_strayed, ended, if_typed, is_answer, call_of, run}
use Rattle.fact_actions.specs.Sides.{LiftLowerOptions, Source, Values, AtAddress, Target, Slots, Into, with_memory, low_half, in_value, read_number, write_number, nth_part, nth_spot, bytes_of_addresses, read_pair, write_pair, check_region, get_slots, set_slots, reallocate, first_bits, address_value, type_of_addresses}

-- whatever is read and answered
Never : {A : Type 0} → Action A → Type 0
Never (Give a) = Unit {0}
Never (Visit n q) = Never q
Never (Read n m a k) = (x : ℕ) → Never (k x)
Never (Write n m a x q) = Never q
Never (MemoryLength m k) = (x : ℕ) → Never (k x)
Never (GetFlags i k) = (x : ℕ) → Never (k x)
Never (SetFlags i x q) = Never q
Never (Ask i args ts k) = (is_misplaced i ≡ false) × ((rs : List CoreValue) → Never (k rs))
Never Unreachable = Unit {0}

pub record Avoids {A : Type 0} (q : Action A) : Type 0 where
  never : Never q

-- ---- actions

pub avoids_give : {A : Type 0} (a : A) → Avoids (Give a)
unfolding Never
avoids_give a = record { never = tt }

pub avoids_stop : {A : Type 0} → Avoids {A = A} Unreachable
unfolding Never
avoids_stop = record { never = tt }

pub avoids_visit : {A : Type 0} (n : ℕ) {q : Action A} → Avoids q → Avoids (Visit n q)
unfolding Never
avoids_visit n h = record { never = h.never }

pub avoids_ask : {A : Type 0} (i : Import) (args : List CoreValue) (ts : List ValType) {k : List CoreValue → Action A} → is_misplaced i ≡ false → ((rs : List CoreValue) → Avoids (k rs)) → Avoids (Ask i args ts k)
unfolding Never
avoids_ask i args ts e h = record { never = (e, λ rs. (h rs).never) }

pub avoids_get : {A : Type 0} (i : ℕ) {k : ℕ → Action A} → ((x : ℕ) → Avoids (k x)) → Avoids (GetFlags i k)
unfolding Never
avoids_get i h = record { never = λ x. (h x).never }

pub avoids_set : {A : Type 0} (i x : ℕ) {q : Action A} → Avoids q → Avoids (SetFlags i x q)
unfolding Never
avoids_set i x h = record { never = h.never }

avoids_read : {A : Type 0} (n : ℕ) (m : CoreDef) (a : ℕ) {k : ℕ → Action A} → ((x : ℕ) → Avoids (k x)) → Avoids (Read n m a k)
unfolding Never
avoids_read n m a h = record { never = λ x. (h x).never }

avoids_write : {A : Type 0} (n : ℕ) (m : CoreDef) (a x : ℕ) {q : Action A} → Avoids q → Avoids (Write n m a x q)
unfolding Never
avoids_write n m a x h = record { never = h.never }

avoids_length : {A : Type 0} (m : CoreDef) {k : ℕ → Action A} → ((x : ℕ) → Avoids (k x)) → Avoids (MemoryLength m k)
unfolding Never
avoids_length m h = record { never = λ x. (h x).never }

never_then : {A B : Type 0} (q : Action A) (f : A → Action B) → Never q → ((a : A) → Never (f a)) → Never (q >>= f)
unfolding Never
never_then (Give a) f h g = g a
never_then (Visit n q) f h g = never_then q f h g
never_then (Read n m a k) f h g = λ x. never_then (k x) f (h x) g
never_then (Write n m a x q) f h g = never_then q f h g
never_then (MemoryLength m k) f h g = λ x. never_then (k x) f (h x) g
never_then (GetFlags i k) f h g = λ x. never_then (k x) f (h x) g
never_then (SetFlags i x q) f h g = never_then q f h g
never_then (Ask i args ts k) f h g = (h.0, λ rs. never_then (k rs) f (h.1 rs) g)
never_then Unreachable f h g = tt

pub avoids_bind : {A B : Type 0} {q : Action A} {f : A → Action B} → Avoids q → ((a : A) → Avoids (f a)) → Avoids (q >>= f)
avoids_bind {q} {f} h g = record { never = never_then q f h.never (λ a. (g a).never) }

-- a test with another trap
pub avoids_unless : {A : Type 0} (t : Reason) (b : Bool) {q : Action A} → is_misplaced (import.Trap t) ≡ false → (b ≡ true → Avoids q) → Avoids (unless t b q)
avoids_unless t true e h = h refl
avoids_unless t false e h = avoids_ask (import.Trap t) [] [] e (λ rs. avoids_stop)

pub avoids_each : {A : Type 0} (i n : ℕ) (f : ℕ → Action (List A)) → ((j : ℕ) → Avoids (f j)) → Avoids (each_from i n f)
avoids_each i zero f h = avoids_give []
avoids_each i (suc n) f h = avoids_bind (h i) (λ xs. avoids_bind (avoids_each (suc i) n f h) (λ ys. avoids_give (xs ++ ys)))

-- ---- parts of moves

pub avoids_memory : {A : Type 0} (o : LiftLowerOptions) {k : MemoryOption → Action A} → ((m : MemoryOption) → Avoids (k m)) → Avoids (with_memory o k)
avoids_memory o {k} h = by_memory o.memory
  where
    by_memory : (x : Option MemoryOption) → Avoids (elim x [ None ↦ Unreachable | Some m ↦ k m ])
    by_memory None = avoids_stop
    by_memory (Some m) = h m

avoids_low : {A : Type 0} (debug : Bool) (v : CoreValue) {k : ℕ → Action A} → ((n : ℕ) → Avoids (k n)) → Avoids (low_half debug v k)
avoids_low true (I64 n) h = avoids_unless _ (nat_lt n (2 ^ 32)) refl (λ e. h _)
avoids_low true (I32 n) h = h _
avoids_low true (F32 n) h = h _
avoids_low true (F64 n) h = avoids_unless _ (nat_lt n (2 ^ 32)) refl (λ e. h _)
avoids_low true (Func f) h = h _
avoids_low false v h = h _

avoids_value : {A : Type 0} (debug : Bool) (size : ℕ) (vs : List CoreValue) {k : ℕ → Action A} → ((n : ℕ) → Avoids (k n)) → Avoids (in_value debug size vs k)
avoids_value debug size [] h = avoids_stop
avoids_value debug size (v ∷ vs) {k} h = by_size (nat_eq size 8)
  where
    by_size : (b : Bool) → Avoids (if b then k (bits_of v) else low_half debug v k)
    by_size true = h _
    by_size false = avoids_low debug v h

pub avoids_number : {A : Type 0} (debug : Bool) (o : LiftLowerOptions) (size : ℕ) (s : Source) {k : ℕ → Action A} → ((n : ℕ) → Avoids (k n)) → Avoids (read_number debug o size s k)
avoids_number debug o size (Values vs) h = avoids_value debug size vs h
avoids_number debug o size (AtAddress a) h = avoids_memory o (λ m. avoids_read size m.def a h)

pub avoids_written : (o : LiftLowerOptions) (size : ℕ) (d : Target) (n : ℕ) → Avoids (write_number o size d n)
avoids_written o size (Slots []) n = avoids_give []
avoids_written o size (Slots (t ∷ ts)) n = avoids_give _
avoids_written o size (Into a) n = avoids_memory o (λ m. avoids_write size m.def a n (avoids_give []))

pub avoids_pair : {A : Type 0} (debug : Bool) (o : LiftLowerOptions) (s : Source) {k : ℕ → ℕ → Action A} → ((p n : ℕ) → Avoids (k p n)) → Avoids (read_pair debug o s k)
avoids_pair debug o s h = avoids_number debug o (bytes_of_addresses o) (nth_part 1 (bytes_of_addresses o) 0 s) (λ p. avoids_number debug o (bytes_of_addresses o) (nth_part 1 (bytes_of_addresses o) 1 s) (λ n. h p n))

pub avoids_pair_written : (o : LiftLowerOptions) (d : Target) (p n : ℕ) → Avoids (write_pair o d p n)
avoids_pair_written o d p n =
    avoids_bind (avoids_written o (bytes_of_addresses o) (nth_spot 1 (bytes_of_addresses o) 0 d) p) (λ a. avoids_bind (avoids_written o (bytes_of_addresses o) (nth_spot 1 (bytes_of_addresses o) 1 d) n) (λ b. avoids_give _))

-- behind a check a pointer is a multiple of the alignment
pub avoids_region : {A : Type 0} (o : LiftLowerOptions) (t : Reason) (p bytes align : ℕ) {q : Action A} → is_misplaced (import.Trap t) ≡ false → (align ∣ p → Avoids q) → Avoids (check_region o t p bytes align q)
avoids_region o t p bytes align e h =
    avoids_unless _ (nat_eq (p % align) 0) refl (λ is.
    avoids_memory o (λ m. avoids_length m.def (λ length. avoids_unless t (nat_le (p + bytes) length) e (λ fits. h (dvd_of_mod-eq-zero align (eqb-true (p % align) 0 is))))))

avoids_slots : {A : Type 0} (b : Bool) {k : List CoreValue → List CoreValue → Action A} → ((x y : List CoreValue) → Avoids (k x y)) → Avoids (get_slots b k)
avoids_slots false h = h [] []
avoids_slots true h = avoids_ask _ [] _ refl (λ x. avoids_ask _ [] _ refl (λ y. h x y))

avoids_slots_set : {A : Type 0} (b : Bool) (x y : List CoreValue) {q : Action A} → Avoids q → Avoids (set_slots b x y q)
avoids_slots_set false x y h = h
avoids_slots_set true x y h = avoids_ask _ x [] refl (λ r. avoids_ask _ y [] refl (λ s. h))

pub avoids_realloc : {A : Type 0} (concurrency : Bool) (o : LiftLowerOptions) (t : Reason) (old old_size align new_size : ℕ) {k : ℕ → Action A} → is_misplaced (import.Trap t) ≡ false
    → ((q : ℕ) → align ∣ q → Avoids (k q)) → Avoids (reallocate concurrency o t old old_size align new_size k)
avoids_realloc concurrency o t old old_size align new_size {k} e h = by_realloc o.realloc
  where
    by_realloc : (f : Option CoreDef) → Avoids (elim f [
      | None ↦ Unreachable
      | Some f ↦
          get_slots concurrency (λ a b. set_slots concurrency (I32 0 ∷ []) (I32 0 ∷ [])
          (Ask (import.CoreDef f) (address_value o old ∷ address_value o old_size ∷ address_value o align ∷ address_value o new_size ∷ []) (type_of_addresses o ∷ []) (λ rs.
          set_slots concurrency a b (check_region o t (first_bits rs) new_size align (k (first_bits rs))))))
    ])
    by_realloc None = avoids_stop
    by_realloc (Some f) =
        avoids_slots concurrency (λ x y. avoids_slots_set concurrency _ _ (avoids_ask (import.CoreDef f) _ _ refl (λ rs.
        avoids_slots_set concurrency x y (avoids_region o t (first_bits rs) new_size align e (h (first_bits rs))))))

-- ---- runs

-- no call is of the trap
abbrev pub NoCall : List Call → Type 0
NoCall cs = filter (λ c. is_misplaced c.what) cs ≡ []

pub none_behind : (cs ds : List Call) → NoCall cs → NoCall ds → NoCall (cs ++ ds)
none_behind cs ds h g = filter-append (λ c. is_misplaced c.what) cs ds ∙ ap (λ l. l ++ filter (λ c. is_misplaced c.what) ds) h ∙ g

pub record Misses {A : Type 0} (e : Ended A) : Type 0 where
  pub none : NoCall (calls_in e)

misses_heavier : {A : Type 0} (n : ℕ) (e : Ended A) → Misses e → Misses (heavier n e)
misses_heavier n (Gave m cs a w) h = record { none = h.none }
misses_heavier n (Halted m cs s w) h = record { none = h.none }
misses_heavier n (Strayed m cs w) h = record { none = h.none }

pub misses_later : {A : Type 0} (n : ℕ) (cs : List Call) (e : Ended A) → NoCall cs → Misses e → Misses (heavier n (later cs e))
misses_later n cs (Gave m ds a w) g h = record { none = none_behind cs ds g h.none }
misses_later n cs (Halted m ds s w) g h = record { none = none_behind cs ds g h.none }
misses_later n cs (Strayed m ds w) g h = record { none = none_behind cs ds g h.none }

misses_called : {A : Type 0} (cs : List Call) (e : Ended A) → NoCall cs → Misses e → Misses (later cs e)
misses_called cs (Gave m ds a w) g h = record { none = none_behind cs ds g h.none }
misses_called cs (Halted m ds s w) g h = record { none = none_behind cs ds g h.none }
misses_called cs (Strayed m ds w) g h = record { none = none_behind cs ds g h.none }

misses_there : {A B : Type 0} (w : World) (o : Option A) {f : A → Ended B} → ((a : A) → Misses (f a)) → Misses (or_strayed w o f)
misses_there w None h = record { none = refl }
misses_there w (Some a) h = h a

misses_done : {A B : Type 0} (r : Res A) {f : A → World → Ended B} → ((a : A) (w : World) → Misses (f a w)) → Misses (ended r f)
misses_done (Done a w) h = h a w
misses_done (Halt s w) h = record { none = refl }

misses_typed : {B : Type 0} (b : Bool) (w : World) {e : Ended B} → Misses e → Misses (if_typed b w e)
misses_typed true w h = h
misses_typed false w h = record { none = refl }

one_other : (c : Call) → is_misplaced c.what ≡ false → NoCall (c ∷ [])
one_other c e = ap (λ b. cond b (c ∷ []) []) e

call_other : (i : Import) (args : List CoreValue) (w : World) (left : List Answer) → is_misplaced i ≡ false → NoCall (call_of i args w.state left)
call_other i args w [] e = refl
call_other i args w (a ∷ more) e = one_other (record { what = i; args = args; before = w.state; answer = a }) e

misses_run : {A : Type 0} (p : ImportPlaces) (q : Action A) (w : World) → Never q → Misses (run p q w)
unfolding Never
misses_run p (Give a) w h = record { none = refl }
misses_run p (Visit n q) w h = misses_heavier n (run p q w) (misses_run p q w h)
misses_run p (Read n m a k) w h = misses_there w (slice_get w.state.memories (p.memory m)) (λ bytes. misses_done (read n bytes a w) (λ x w'. misses_run p (k x) w' (h x)))
misses_run p (Write n m a x q) w h = misses_there w (slice_get w.state.memories (p.memory m)) (λ bytes. misses_done (write n (p.memory m) bytes a x w) (λ u w'. misses_run p q w' h))
misses_run p (MemoryLength m k) w h = misses_there w (slice_get w.state.memories (p.memory m)) (λ bytes. misses_run p (k (length bytes)) w (h (length bytes)))
misses_run p (GetFlags i k) w h = misses_there w (slice_get w.state.globals (p.flags i)) (λ v. misses_there w (i32_of v) (λ n. misses_run p (k n) w (h n)))
misses_run p (SetFlags i x q) w h = misses_there w (slice_get w.state.globals (p.flags i)) (λ v. misses_run p q (set_global (p.flags i) (I32 x) w) h)
misses_run p (Ask i args ts k) w h =
    misses_called (call_of i args w.state w.answers) _ (call_other i args w w.answers h.0)
    (misses_done (outside (p.function i) args w) (λ rs w'. misses_typed (is_answer p ts w.state rs w'.state) w' (misses_run p (k rs) w' (h.1 rs))))
misses_run p Unreachable w h = record { none = refl }

pub misses : {A : Type 0} (p : ImportPlaces) {q : Action A} (w : World) → Avoids q → Misses (run p q w)
misses p {q} w h = misses_run p q w h.never
