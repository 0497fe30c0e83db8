-- Actions that call no trap of a debug check where what is answered is good, and their runs: with checks and without them they are
-- the same.
use Rattle.std.proofs.Common.{◌≡◌, ℕ, zero, suc, ◌+◌, ◌%◌, ◌^◌, Bool, true, false, List, [], ◌∷◌, ◌++◌, length, Option, Some, None, refl, sym, ap, ◌∙◌, subst, arith}
use Rattle.std.proofs.lemmas.Bool.{eqb-true, lt-ltb}
use Rattle.std.proofs.lemmas.Nat.Gcd.{dvd_of_mod-eq-zero}
use Rattle.std.specs.Int.{◌∣◌}
use Rattle.std.specs.Prelude.{nat_eq, nat_le, nat_lt, slice_get, if◌then◌else◌}
use Rattle.fact_wasm.specs.declared.types.ValType.{ValType}
use Rattle.fact_types.specs.declared.flats.FlatType.TheVariants.{I32}
use Rattle.fact_types.specs.declared.import.Import.{Import}
use Rattle.fact_types.specs.declared.import.Import.TheVariants as import
use Rattle.fact_types.specs.declared.outside.CoreDef.{CoreDef}
use Rattle.fact_types.specs.declared.outside.MemoryOption.{MemoryOption}
use Rattle.fact_types.specs.declared.outside.Trap.{Trap as Reason}
use Rattle.fact_types.specs.declared.outside.Trap.TheVariants.{DebugAssertUpperBitsUnset}
use Rattle.fact_machine.specs.declared.types.CoreValue.{CoreValue}
use Rattle.fact_machine.specs.declared.types.CoreValue.TheVariants as core
use Rattle.fact_machine.specs.declared.types.Answer.{Answer}
use Rattle.fact_machine.specs.declared.types.Answer.TheVariants.{Returns, Traps, Throws}
use Rattle.fact_machine.specs.declared.types.MachineState.{MachineState}
use Rattle.fact_machine.specs.declared.types.TraceEntry.TheVariants.{Called}
use Rattle.fact_machine.specs.World.{World, Res, Done, Halt, read, write, asked, set_global}
use Rattle.fact_machine.specs.Machine.{i32_of}
use Rattle.fact_values.specs.Lift.{bits_of}
use Rattle.fact_actions.specs.Actions.{Action, Give, Visit, Read, Write, MemoryLength, GetFlags, SetFlags, Ask, Unreachable, ◌>>=◌, unless, each_from}
use Rattle.fact_actions.specs.AdapterLaws.{is_check}
use Rattle.fact_actions.specs.Running.{ImportPlaces, Call, Ended, Gave, Halted, Strayed, calls_in, heavier, later, or_strayed, ended, if_typed, is_answer, with_answer, call_of, run}
use Rattle.fact_actions.specs.Sides.{LiftLowerOptions, Source, Values, AtAddress, Target, Slots, Into, with_memory, low_half, in_value, read_number, write_number, nth_part, nth_spot, bytes_of_addresses, read_pair, write_pair, check_region, get_slots, set_slots, reallocate, first_bits, address_value, type_of_addresses}
use Rattle.fact_actions.proofs.Checks.{Checks, same, fails, visits, reads, writes, lengths, gets, sets, asks}
use Rattle.fact_actions.proofs.States.{false_true}
use Rattle.fact_values.specs.Canonical.{IsNarrow}

-- the traps of debug checks
abbrev pub tells_check : Import → Bool
tells_check (import.Trap t) = is_check t
tells_check i = false

-- a number of fewer than 8 bytes is asked for where a core value is narrow
abbrev pub NumberNarrowIn : ℕ → List CoreValue → Type 0
NumberNarrowIn size [] = Unit {0}
NumberNarrowIn size (v ∷ vs) = nat_eq size 8 ≡ false → IsNarrow I32 v

abbrev pub NumberNarrow : ℕ → Source → Type 0
NumberNarrow size (Values vs) = NumberNarrowIn size vs
NumberNarrow size (AtAddress a) = Unit {0}

-- and this is the number that is read there
abbrev pub IsReadAt : ℕ → List CoreValue → ℕ → Type 0
IsReadAt size [] n = Unit {0}
IsReadAt size (v ∷ vs) n = nat_eq size 8 ≡ false → n ≡ bits_of v % 2 ^ 32

abbrev pub IsReadFrom : ℕ → Source → ℕ → Type 0
IsReadFrom size (Values vs) n = IsReadAt size vs n
IsReadFrom size (AtAddress a) n = Unit {0}

module _ (Good : Import → (args results : List CoreValue) → Type 0) where
  -- whatever is read, and whatever is answered that is good
  Never : {A : Type 0} → Action A → Type 0
  Never (Give a) = Unit {0}
  Never (Visit n q) = Never q
  Never (Read n m a k) = (x : ℕ) → Never (k x)
  Never (Write n m a x q) = Never q
  Never (MemoryLength m k) = (x : ℕ) → Never (k x)
  Never (GetFlags i k) = (x : ℕ) → Never (k x)
  Never (SetFlags i x q) = Never q
  Never (Ask i args ts k) = (tells_check i ≡ false) × ((rs : List CoreValue) → Good i args rs → Never (k rs))
  Never Unreachable = Unit {0}

  pub record Spares {A : Type 0} (q : Action A) : Type 0 where
    never : Never q

  -- ---- actions

  pub spares_give : {A : Type 0} (a : A) → Spares (Give a)
  unfolding Never
  spares_give a = record { never = tt }

  pub spares_stop : {A : Type 0} → Spares {A = A} Unreachable
  unfolding Never
  spares_stop = record { never = tt }

  pub spares_visit : {A : Type 0} (n : ℕ) {q : Action A} → Spares q → Spares (Visit n q)
  unfolding Never
  spares_visit n h = record { never = h.never }

  pub spares_ask : {A : Type 0} (i : Import) (args : List CoreValue) (ts : List ValType) {k : List CoreValue → Action A} → tells_check i ≡ false → ((rs : List CoreValue) → Good i args rs → Spares (k rs)) → Spares (Ask i args ts k)
  unfolding Never
  spares_ask i args ts e h = record { never = (e, λ rs g. (h rs g).never) }

  pub spares_get : {A : Type 0} (i : ℕ) {k : ℕ → Action A} → ((x : ℕ) → Spares (k x)) → Spares (GetFlags i k)
  unfolding Never
  spares_get i h = record { never = λ x. (h x).never }

  pub spares_set : {A : Type 0} (i x : ℕ) {q : Action A} → Spares q → Spares (SetFlags i x q)
  unfolding Never
  spares_set i x h = record { never = h.never }

  spares_read : {A : Type 0} (n : ℕ) (m : CoreDef) (a : ℕ) {k : ℕ → Action A} → ((x : ℕ) → Spares (k x)) → Spares (Read n m a k)
  unfolding Never
  spares_read n m a h = record { never = λ x. (h x).never }

  spares_write : {A : Type 0} (n : ℕ) (m : CoreDef) (a x : ℕ) {q : Action A} → Spares q → Spares (Write n m a x q)
  unfolding Never
  spares_write n m a x h = record { never = h.never }

  spares_length : {A : Type 0} (m : CoreDef) {k : ℕ → Action A} → ((x : ℕ) → Spares (k x)) → Spares (MemoryLength m k)
  unfolding Never
  spares_length m h = record { never = λ x. (h x).never }

  never_then : {A B : Type 0} (q : Action A) (f : A → Action B) → Never q → ((a : A) → Never (f a)) → Never (q >>= f)
  unfolding Never
  never_then (Give a) f h g = g a
  never_then (Visit n q) f h g = never_then q f h g
  never_then (Read n m a k) f h g = λ x. never_then (k x) f (h x) g
  never_then (Write n m a x q) f h g = never_then q f h g
  never_then (MemoryLength m k) f h g = λ x. never_then (k x) f (h x) g
  never_then (GetFlags i k) f h g = λ x. never_then (k x) f (h x) g
  never_then (SetFlags i x q) f h g = never_then q f h g
  never_then (Ask i args ts k) f h g = (h.0, λ rs o. never_then (k rs) f (h.1 rs o) g)
  never_then Unreachable f h g = tt

  pub spares_bind : {A B : Type 0} {q : Action A} {f : A → Action B} → Spares q → ((a : A) → Spares (f a)) → Spares (q >>= f)
  spares_bind {q} {f} h g = record { never = never_then q f h.never (λ a. (g a).never) }

  -- a test with another trap
  pub spares_unless : {A : Type 0} (t : Reason) (b : Bool) {q : Action A} → is_check t ≡ false → (b ≡ true → Spares q) → Spares (unless t b q)
  spares_unless t true e h = h refl
  spares_unless t false e h = spares_ask (import.Trap t) [] [] e (λ rs g. spares_stop)

  pub spares_each : {A : Type 0} (i n : ℕ) (f : ℕ → Action (List A)) → ((j : ℕ) → Spares (f j)) → Spares (each_from i n f)
  spares_each i zero f h = spares_give []
  spares_each i (suc n) f h = spares_bind (h i) (λ xs. spares_bind (spares_each (suc i) n f h) (λ ys. spares_give (xs ++ ys)))

  -- ---- parts of moves

  pub spares_memory : {A : Type 0} (o : LiftLowerOptions) {k : MemoryOption → Action A} → ((m : MemoryOption) → Spares (k m)) → Spares (with_memory o k)
  spares_memory o {k} h = by_memory o.memory
    where
      by_memory : (x : Option MemoryOption) → Spares (elim x [ None ↦ Unreachable | Some m ↦ k m ])
      by_memory None = spares_stop
      by_memory (Some m) = h m

  -- a check that passes
  pub spares_pass : {A : Type 0} (t : Reason) (b : Bool) {q : Action A} → b ≡ true → Spares q → Spares (unless t b q)
  spares_pass t true e h = h
  spares_pass t false e h = false_true e

  spares_low : {A : Type 0} (debug : Bool) (v : CoreValue) {k : ℕ → Action A} → IsNarrow I32 v → ((n : ℕ) → n ≡ bits_of v % 2 ^ 32 → Spares (k n)) → Spares (low_half debug v k)
  spares_low true (core.I64 n) c h = let e : n ≡ n % 2 ^ 32 = c in spares_pass DebugAssertUpperBitsUnset (nat_lt n (2 ^ 32)) (lt-ltb n (2 ^ 32) (omega (arith, e))) (h _ refl)
  spares_low true (core.I32 n) c h = h _ refl
  spares_low true (core.F32 n) c h = h _ refl
  spares_low true (core.F64 n) c h = let e : n ≡ n % 2 ^ 32 = c in spares_pass DebugAssertUpperBitsUnset (nat_lt n (2 ^ 32)) (lt-ltb n (2 ^ 32) (omega (arith, e))) (h _ refl)
  spares_low true (core.Func f) c h = h _ refl
  spares_low false v c h = h _ refl

  spares_value : {A : Type 0} (debug : Bool) (size : ℕ) (vs : List CoreValue) {k : ℕ → Action A} → NumberNarrowIn size vs → ((n : ℕ) → IsReadAt size vs n → Spares (k n)) → Spares (in_value debug size vs k)
  spares_value debug size [] c h = spares_stop
  spares_value debug size (v ∷ vs) {k} c h = by_size (nat_eq size 8) refl
    where
      by_size : (b : Bool) → nat_eq size 8 ≡ b → Spares (if b then k (bits_of v) else low_half debug v k)
      by_size true e = h _ (λ no. false_true (sym no ∙ e))
      by_size false e = spares_low debug v (c e) (λ n is. h n (λ no. is))

  pub spares_number : {A : Type 0} (debug : Bool) (o : LiftLowerOptions) (size : ℕ) (s : Source) {k : ℕ → Action A} → NumberNarrow size s → ((n : ℕ) → IsReadFrom size s n → Spares (k n)) → Spares (read_number debug o size s k)
  spares_number debug o size (Values vs) c h = spares_value debug size vs c h
  spares_number debug o size (AtAddress a) c h = spares_memory o (λ m. spares_read size m.def a (λ n. h n tt))

  pub spares_written : (o : LiftLowerOptions) (size : ℕ) (d : Target) (n : ℕ) → Spares (write_number o size d n)
  spares_written o size (Slots []) n = spares_give []
  spares_written o size (Slots (t ∷ ts)) n = spares_give _
  spares_written o size (Into a) n = spares_memory o (λ m. spares_write size m.def a n (spares_give []))

  pub spares_pair : {A : Type 0} (debug : Bool) (o : LiftLowerOptions) (s : Source) {k : ℕ → ℕ → Action A}
      → NumberNarrow (bytes_of_addresses o) (nth_part 1 (bytes_of_addresses o) 0 s) → NumberNarrow (bytes_of_addresses o) (nth_part 1 (bytes_of_addresses o) 1 s) → ((p n : ℕ) → Spares (k p n)) → Spares (read_pair debug o s k)
  spares_pair debug o s c d h =
      spares_number debug o (bytes_of_addresses o) (nth_part 1 (bytes_of_addresses o) 0 s) c (λ p x. spares_number debug o (bytes_of_addresses o) (nth_part 1 (bytes_of_addresses o) 1 s) d (λ n y. h p n))

  pub spares_pair_written : (o : LiftLowerOptions) (d : Target) (p n : ℕ) → Spares (write_pair o d p n)
  spares_pair_written o d p n =
      spares_bind (spares_written o (bytes_of_addresses o) (nth_spot 1 (bytes_of_addresses o) 0 d) p) (λ a. spares_bind (spares_written o (bytes_of_addresses o) (nth_spot 1 (bytes_of_addresses o) 1 d) n) (λ b. spares_give _))

  -- behind a check a pointer is a multiple of the alignment
  pub spares_region : {A : Type 0} (o : LiftLowerOptions) (t : Reason) (p bytes align : ℕ) {q : Action A} → is_check t ≡ false → (align ∣ p → Spares q) → Spares (check_region o t p bytes align q)
  spares_region o t p bytes align e h =
      spares_unless _ (nat_eq (p % align) 0) refl (λ is.
      spares_memory o (λ m. spares_length m.def (λ length. spares_unless t (nat_le (p + bytes) length) e (λ fits. h (dvd_of_mod-eq-zero align (eqb-true (p % align) 0 is))))))

  spares_slots : {A : Type 0} (b : Bool) {k : List CoreValue → List CoreValue → Action A} → ((x y : List CoreValue) → Spares (k x y)) → Spares (get_slots b k)
  spares_slots false h = h [] []
  spares_slots true h = spares_ask _ [] _ refl (λ x g. spares_ask _ [] _ refl (λ y k. h x y))

  spares_slots_set : {A : Type 0} (b : Bool) (x y : List CoreValue) {q : Action A} → Spares q → Spares (set_slots b x y q)
  spares_slots_set false x y h = h
  spares_slots_set true x y h = spares_ask _ x [] refl (λ r g. spares_ask _ y [] refl (λ s k. h))

  pub spares_realloc : {A : Type 0} (concurrency : Bool) (o : LiftLowerOptions) (t : Reason) (old old_size align new_size : ℕ) {k : ℕ → Action A} → is_check t ≡ false
      → ((q : ℕ) → align ∣ q → Spares (k q)) → Spares (reallocate concurrency o t old old_size align new_size k)
  spares_realloc concurrency o t old old_size align new_size {k} e h = by_realloc o.realloc
    where
      by_realloc : (f : Option CoreDef) → Spares (elim f [
        | None ↦ Unreachable
        | Some f ↦
            get_slots concurrency (λ a b. set_slots concurrency (core.I32 0 ∷ []) (core.I32 0 ∷ [])
            (Ask (import.CoreDef f) (address_value o old ∷ address_value o old_size ∷ address_value o align ∷ address_value o new_size ∷ []) (type_of_addresses o ∷ []) (λ rs.
            set_slots concurrency a b (check_region o t (first_bits rs) new_size align (k (first_bits rs))))))
      ])
      by_realloc None = spares_stop
      by_realloc (Some f) =
          spares_slots concurrency (λ x y. spares_slots_set concurrency _ _ (spares_ask (import.CoreDef f) _ _ refl (λ rs g.
          spares_slots_set concurrency x y (spares_region o t (first_bits rs) new_size align e (h (first_bits rs))))))

  -- ---- runs

  -- a call whose answer is good, where it returned
  abbrev pub IsGoodAnswer : Import → List CoreValue → Answer → Type 0
  IsGoodAnswer i args (Returns rs after) = Good i args rs
  IsGoodAnswer i args Traps = Unit {0}
  IsGoodAnswer i args Throws = Unit {0}

  abbrev pub AreGood : List Call → Type 0
  AreGood [] = Unit {0}
  AreGood (c ∷ cs) = IsGoodAnswer c.what c.args c.answer × AreGood cs

  calls_heavier : {A : Type 0} (n : ℕ) (e : Ended A) → calls_in (heavier n e) ≡ calls_in e
  calls_heavier n (Gave m cs a w) = refl
  calls_heavier n (Halted m cs s w) = refl
  calls_heavier n (Strayed m cs w) = refl

  calls_later : {A : Type 0} (cs : List Call) (e : Ended A) → calls_in (later cs e) ≡ cs ++ calls_in e
  calls_later cs (Gave m ds a w) = refl
  calls_later cs (Halted m ds s w) = refl
  calls_later cs (Strayed m ds w) = refl

  same_there : {A B : Type 0} (w : World) (o : Option A) {f g : A → Ended B} → ((a : A) → AreGood (calls_in (f a)) → f a ≡ g a) → AreGood (calls_in (or_strayed w o f)) → or_strayed w o f ≡ or_strayed w o g
  same_there w None h good = refl
  same_there w (Some a) h good = h a good

  same_done : {A B : Type 0} (r : Res A) {f g : A → World → Ended B} → ((a : A) (w : World) → AreGood (calls_in (f a w)) → f a w ≡ g a w) → AreGood (calls_in (ended r f)) → ended r f ≡ ended r g
  same_done (Done a w) h good = h a w good
  same_done (Halt s w) h good = refl

  -- a call, with what is done behind it
  module _ {A : Type 0} (p : ImportPlaces) (i : Import) (args : List CoreValue) (ts : List ValType) (k l : List CoreValue → Action A) (w : World)
      (behind : (rs : List CoreValue) (w' : World) → Good i args rs → AreGood (calls_in (run p (k rs) w')) → run p (k rs) w' ≡ run p (l rs) w') where
    abbrev answered : List CoreValue → MachineState → List Answer → World
    answered rs after more = record { state = after; answers = more; trace = w.trace ++ Called (record { func = p.function i; args = args; before = w.state; answer = Returns rs after }) ∷ [] }

    by_type : (b : Bool) (d : Call) (w' : World) {e f : Ended A} → (AreGood (calls_in e) → e ≡ f) → AreGood (calls_in (later (d ∷ []) (if_typed b w' e))) → later (d ∷ []) (if_typed b w' e) ≡ later (d ∷ []) (if_typed b w' f)
    by_type true d w' {e} g good = ap (later (d ∷ [])) (g ((subst AreGood (calls_later (d ∷ []) e) good).1))
    by_type false d w' g good = refl

    head_good : (b : Bool) (d : Call) (w' : World) (e : Ended A) → AreGood (calls_in (later (d ∷ []) (if_typed b w' e))) → IsGoodAnswer d.what d.args d.answer
    head_good true d w' e good = (subst AreGood (calls_later (d ∷ []) e) good).0
    head_good false d w' e good = good.0

    asked_same : (left : List Answer) → AreGood (calls_in (later (call_of i args w.state left) (with_answer p ts w (asked (p.function i) args w left) (λ rs w'. run p (k rs) w'))))
        → later (call_of i args w.state left) (with_answer p ts w (asked (p.function i) args w left) (λ rs w'. run p (k rs) w')) ≡ later (call_of i args w.state left) (with_answer p ts w (asked (p.function i) args w left) (λ rs w'. run p (l rs) w'))
    asked_same [] good = refl
    asked_same (Returns rs after ∷ more) good =
        let b = is_answer p ts w.state rs after in
        let w1 = answered rs after more in
        let d : Call = record { what = i; args = args; before = w.state; answer = Returns rs after } in
        by_type b d w1 {e = run p (k rs) w1} {f = run p (l rs) w1} (behind rs w1 (head_good b d w1 (run p (k rs) w1) good)) good
    asked_same (Traps ∷ more) good = refl
    asked_same (Throws ∷ more) good = refl

  -- An action with checks comes to what it comes to without them.
  pub same_run : {A : Type 0} (p : ImportPlaces) {q r : Action A} → Checks q r → Spares q → (w : World) → AreGood (calls_in (run p q w)) → run p q w ≡ run p r w
  unfolding Never
  same_run p (same q) h w good = refl
  same_run p (fails t e r) h w good = false_true (sym (h.never.0) ∙ e)
  same_run p (visits n {q} c) h w good = ap (heavier n) (same_run p c (record { never = h.never }) w (subst AreGood (calls_heavier n (run p q w)) good))
  same_run p (reads n m a c) h w good =
      same_there w (slice_get w.state.memories (p.memory m)) (λ bytes. same_done (read n bytes a w) (λ x w'. same_run p (c x) (record { never = h.never x }) w')) good
  same_run p (writes n m a x c) h w good =
      same_there w (slice_get w.state.memories (p.memory m)) (λ bytes. same_done (write n (p.memory m) bytes a x w) (λ u w'. same_run p c (record { never = h.never }) w')) good
  same_run p (lengths m c) h w good = same_there w (slice_get w.state.memories (p.memory m)) (λ bytes. same_run p (c (length bytes)) (record { never = h.never (length bytes) }) w) good
  same_run p (gets i c) h w good = same_there w (slice_get w.state.globals (p.flags i)) (λ v. same_there w (i32_of v) (λ n. same_run p (c n) (record { never = h.never n }) w)) good
  same_run p (sets i x c) h w good = same_there w (slice_get w.state.globals (p.flags i)) (λ v. same_run p c (record { never = h.never }) (set_global (p.flags i) (core.I32 x) w)) good
  same_run {A} p (asks i args ts {k} {l} c) h w good = asked_same p i args ts k l w (λ rs w' g. same_run p (c rs) (record { never = h.never.1 rs g }) w') w.answers good
