-- An action with debug checks does what it does without them, or stops at a check that fails.
use Rattle.std.proofs.Common.{◌≡◌, ◌⊎◌, inl, inr, ℕ, zero, suc, ◌+◌, ◌%◌, ◌^◌, Bool, true, false, List, [], ◌∷◌, ◌++◌, length, Option, Some, None, refl, sym, ap, ◌∙◌, subst, append_assoc, append-nil}
use Rattle.std.specs.Prelude.{nat_eq, nat_le, nat_lt, slice_get, if◌then◌else◌}
use Rattle.fact_wasm.specs.declared.types.ValType.{ValType}
use Rattle.fact_types.specs.declared.import.Import.{Import}
use Rattle.fact_types.specs.declared.import.Import.TheVariants as import
use Rattle.fact_types.specs.declared.outside.CoreDef.{CoreDef}
use Rattle.fact_types.specs.declared.outside.MemoryOption.{MemoryOption}
use Rattle.fact_types.specs.declared.outside.Trap.{Trap as Reason}
use Rattle.fact_types.specs.declared.outside.Trap.TheVariants.{DebugAssertUpperBitsUnset}
use Rattle.fact_machine.specs.declared.types.CoreValue.{CoreValue}
use Rattle.fact_machine.specs.declared.types.CoreValue.TheVariants.{I32, I64, F32, F64, Func}
use Rattle.fact_machine.specs.declared.types.Answer.{Answer}
use Rattle.fact_machine.specs.declared.types.Answer.TheVariants.{Returns, Traps, Throws}
use Rattle.fact_machine.specs.declared.types.TraceEntry.TheVariants.{Called}
use Rattle.fact_machine.specs.World.{World, Res, Done, Halt, read, write, asked, outside, set_global}
use Rattle.fact_machine.specs.World as world
use Rattle.fact_values.specs.Lift.{bits_of}
use Rattle.fact_actions.specs.Actions.{Action, Give, Visit, Read, Write, MemoryLength, GetFlags, SetFlags, Ask, Unreachable, ◌>>=◌, trap, unless, each_from}
use Rattle.fact_actions.specs.AdapterLaws.{is_check, HasNotGiven, HasLacked, IsCutShort, IsChecked}
use Rattle.fact_actions.specs.Running.{ImportPlaces, Call, Ended, Gave, Halted, Strayed, calls_in, world_in, heavier, later, or_strayed, ended, if_typed, is_answer, with_answer, call_of, run}
use Rattle.fact_actions.specs.Sides.{LiftLowerOptions, Source, Values, AtAddress, with_memory, low_half, in_value, read_number, nth_part, bytes_of_addresses, read_pair, check_region, get_slots, set_slots, reallocate, first_bits, address_value, type_of_addresses}
use Rattle.fact_machine.specs.Trace.{Grows}
use Rattle.fact_machine.specs.Machine.{i32_of}
use Rattle.fact_actions.proofs.Follows.{runs_follow}

-- the first action is the second with checks
pub data Checks {A : Type 0} : Action A → Action A → Type 0 where
  same : (q : Action A) → Checks q q
  fails : (t : Reason) → is_check t ≡ true → (r : Action A) → Checks (trap t) r
  visits : (n : ℕ) {q r : Action A} → Checks q r → Checks (Visit n q) (Visit n r)
  reads : (n : ℕ) (m : CoreDef) (a : ℕ) {k l : ℕ → Action A} → ((x : ℕ) → Checks (k x) (l x)) → Checks (Read n m a k) (Read n m a l)
  writes : (n : ℕ) (m : CoreDef) (a x : ℕ) {q r : Action A} → Checks q r → Checks (Write n m a x q) (Write n m a x r)
  lengths : (m : CoreDef) {k l : ℕ → Action A} → ((x : ℕ) → Checks (k x) (l x)) → Checks (MemoryLength m k) (MemoryLength m l)
  gets : (i : ℕ) {k l : ℕ → Action A} → ((x : ℕ) → Checks (k x) (l x)) → Checks (GetFlags i k) (GetFlags i l)
  sets : (i x : ℕ) {q r : Action A} → Checks q r → Checks (SetFlags i x q) (SetFlags i x r)
  asks : (i : Import) (args : List CoreValue) (ts : List ValType) {k l : List CoreValue → Action A} → ((rs : List CoreValue) → Checks (k rs) (l rs)) → Checks (Ask i args ts k) (Ask i args ts l)

-- ---- actions

bind_same : {A B : Type 0} (q : Action A) (f g : A → Action B) → ((a : A) → Checks (f a) (g a)) → Checks (q >>= f) (q >>= g)
bind_same (Give a) f g h = h a
bind_same (Visit n q) f g h = visits n (bind_same q f g h)
bind_same (Read n m a k) f g h = reads n m a (λ x. bind_same (k x) f g h)
bind_same (Write n m a x q) f g h = writes n m a x (bind_same q f g h)
bind_same (MemoryLength m k) f g h = lengths m (λ x. bind_same (k x) f g h)
bind_same (GetFlags i k) f g h = gets i (λ x. bind_same (k x) f g h)
bind_same (SetFlags i x q) f g h = sets i x (bind_same q f g h)
bind_same (Ask i args ts k) f g h = asks i args ts (λ rs. bind_same (k rs) f g h)
bind_same Unreachable f g h = same Unreachable

pub checks_bind : {A B : Type 0} {q r : Action A} {f g : A → Action B} → Checks q r → ((a : A) → Checks (f a) (g a)) → Checks (q >>= f) (r >>= g)
checks_bind {f} {g} (same q) h = bind_same q f g h
checks_bind {f} {g} (fails t e r) h = fails t e (r >>= g)
checks_bind (visits n c) h = visits n (checks_bind c h)
checks_bind (reads n m a c) h = reads n m a (λ x. checks_bind (c x) h)
checks_bind (writes n m a x c) h = writes n m a x (checks_bind c h)
checks_bind (lengths m c) h = lengths m (λ x. checks_bind (c x) h)
checks_bind (gets i c) h = gets i (λ x. checks_bind (c x) h)
checks_bind (sets i x c) h = sets i x (checks_bind c h)
checks_bind (asks i args ts c) h = asks i args ts (λ rs. checks_bind (c rs) h)

pub checks_unless : {A : Type 0} (t : Reason) (b : Bool) {q r : Action A} → Checks q r → Checks (unless t b q) (unless t b r)
checks_unless t true h = h
checks_unless t false h = same (trap t)

-- a test that is a check
pub checks_more : {A : Type 0} (t : Reason) (b : Bool) {q r : Action A} → is_check t ≡ true → Checks q r → Checks (unless t b q) r
checks_more t true e h = h
checks_more t false {r = r} e h = fails t e r

pub checks_each : {A : Type 0} (i n : ℕ) (f g : ℕ → Action (List A)) → ((j : ℕ) → Checks (f j) (g j)) → Checks (each_from i n f) (each_from i n g)
checks_each i zero f g h = same (Give [])
checks_each i (suc n) f g h = checks_bind (h i) (λ xs. checks_bind (checks_each (suc i) n f g h) (λ ys. same (Give (xs ++ ys))))

-- ---- parts of moves

pub checks_memory : {A : Type 0} (o : LiftLowerOptions) {k l : MemoryOption → Action A} → ((m : MemoryOption) → Checks (k m) (l m)) → Checks (with_memory o k) (with_memory o l)
checks_memory o {k} {l} h = by_memory o.memory
  where
    by_memory : (x : Option MemoryOption) → Checks (elim x [ None ↦ Unreachable | Some m ↦ k m ]) (elim x [ None ↦ Unreachable | Some m ↦ l m ])
    by_memory None = same Unreachable
    by_memory (Some m) = h m

checks_low : {A : Type 0} (debug : Bool) (v : CoreValue) {k l : ℕ → Action A} → ((n : ℕ) → Checks (k n) (l n)) → Checks (low_half debug v k) (low_half false v l)
checks_low true (I64 n) h = checks_more DebugAssertUpperBitsUnset (nat_lt n (2 ^ 32)) refl (h _)
checks_low true (I32 n) h = h _
checks_low true (F32 n) h = h _
checks_low true (F64 n) h = checks_more DebugAssertUpperBitsUnset (nat_lt n (2 ^ 32)) refl (h _)
checks_low true (Func f) h = h _
checks_low false v h = h _

checks_value : {A : Type 0} (debug : Bool) (size : ℕ) (vs : List CoreValue) {k l : ℕ → Action A} → ((n : ℕ) → Checks (k n) (l n)) → Checks (in_value debug size vs k) (in_value false size vs l)
checks_value debug size [] h = same Unreachable
checks_value debug size (v ∷ vs) {k} {l} h = by_size (nat_eq size 8)
  where
    by_size : (b : Bool) → Checks (if b then k (bits_of v) else low_half debug v k) (if b then l (bits_of v) else low_half false v l)
    by_size true = h _
    by_size false = checks_low debug v h

pub checks_number : {A : Type 0} (debug : Bool) (o : LiftLowerOptions) (size : ℕ) (s : Source) {k l : ℕ → Action A} → ((n : ℕ) → Checks (k n) (l n)) → Checks (read_number debug o size s k) (read_number false o size s l)
checks_number debug o size (Values vs) h = checks_value debug size vs h
checks_number debug o size (AtAddress a) h = checks_memory o (λ m. reads size m.def a h)

pub checks_pair : {A : Type 0} (debug : Bool) (o : LiftLowerOptions) (s : Source) {k l : ℕ → ℕ → Action A} → ((p n : ℕ) → Checks (k p n) (l p n)) → Checks (read_pair debug o s k) (read_pair false o s l)
checks_pair debug o s h = checks_number debug o (bytes_of_addresses o) (nth_part 1 (bytes_of_addresses o) 0 s) (λ p. checks_number debug o (bytes_of_addresses o) (nth_part 1 (bytes_of_addresses o) 1 s) (λ n. h p n))

pub checks_region : {A : Type 0} (o : LiftLowerOptions) (t : Reason) (p bytes align : ℕ) {q r : Action A} → Checks q r → Checks (check_region o t p bytes align q) (check_region o t p bytes align r)
checks_region o t p bytes align h = checks_unless _ (nat_eq (p % align) 0) (checks_memory o (λ m. lengths m.def (λ length. checks_unless t (nat_le (p + bytes) length) h)))

checks_slots : {A : Type 0} (b : Bool) {k l : List CoreValue → List CoreValue → Action A} → ((x y : List CoreValue) → Checks (k x y) (l x y)) → Checks (get_slots b k) (get_slots b l)
checks_slots false h = h [] []
checks_slots true h = asks _ [] _ (λ x. asks _ [] _ (λ y. h x y))

checks_slots_set : {A : Type 0} (b : Bool) (x y : List CoreValue) {q r : Action A} → Checks q r → Checks (set_slots b x y q) (set_slots b x y r)
checks_slots_set false x y h = h
checks_slots_set true x y h = asks _ x [] (λ a. asks _ y [] (λ b. h))

pub checks_realloc : {A : Type 0} (concurrency : Bool) (o : LiftLowerOptions) (t : Reason) (old old_size align new_size : ℕ) {k l : ℕ → Action A}
    → ((q : ℕ) → Checks (k q) (l q)) → Checks (reallocate concurrency o t old old_size align new_size k) (reallocate concurrency o t old old_size align new_size l)
checks_realloc {A} concurrency o t old old_size align new_size {k} {l} h = by_realloc o.realloc
  where
    by_realloc : (f : Option CoreDef) → Checks (elim f [
      | None ↦ Unreachable
      | Some f ↦
          get_slots concurrency (λ a b. set_slots concurrency (I32 0 ∷ []) (I32 0 ∷ [])
          (Ask (import.CoreDef f) (address_value o old ∷ address_value o old_size ∷ address_value o align ∷ address_value o new_size ∷ []) (type_of_addresses o ∷ []) (λ rs.
          set_slots concurrency a b (check_region o t (first_bits rs) new_size align (k (first_bits rs))))))
    ]) (elim f [
      | None ↦ Unreachable
      | Some f ↦
          get_slots concurrency (λ a b. set_slots concurrency (I32 0 ∷ []) (I32 0 ∷ [])
          (Ask (import.CoreDef f) (address_value o old ∷ address_value o old_size ∷ address_value o align ∷ address_value o new_size ∷ []) (type_of_addresses o ∷ []) (λ rs.
          set_slots concurrency a b (check_region o t (first_bits rs) new_size align (l (first_bits rs))))))
    ])
    by_realloc None = same Unreachable
    by_realloc (Some f) =
        checks_slots concurrency (λ x y. checks_slots_set concurrency _ _ (asks (import.CoreDef f) _ _ (λ rs.
        checks_slots_set concurrency x y (checks_region o t (first_bits rs) new_size align (h (first_bits rs))))))

-- ---- runs

calls_heavier : {A : Type 0} (n : ℕ) (e : Ended A) → calls_in (heavier n e) ≡ calls_in e
calls_heavier n (Gave m cs a w) = refl
calls_heavier n (Halted m cs s w) = refl
calls_heavier n (Strayed m cs w) = refl

calls_later : {A : Type 0} (cs : List Call) (e : Ended A) → calls_in (later cs e) ≡ cs ++ calls_in e
calls_later cs (Gave m ds a w) = refl
calls_later cs (Halted m ds s w) = refl
calls_later cs (Strayed m ds w) = refl

world_heavier : {A : Type 0} (n : ℕ) (e : Ended A) → world_in (heavier n e) ≡ world_in e
world_heavier n (Gave m cs a w) = refl
world_heavier n (Halted m cs s w) = refl
world_heavier n (Strayed m cs w) = refl

world_later : {A : Type 0} (cs : List Call) (e : Ended A) → world_in (later cs e) ≡ world_in e
world_later cs (Gave m ds a w) = refl
world_later cs (Halted m ds s w) = refl
world_later cs (Strayed m ds w) = refl

not_heavier : {A : Type 0} (n : ℕ) (e : Ended A) → HasNotGiven e → HasNotGiven (heavier n e)
not_heavier n (Gave m cs a w) h = h
not_heavier n (Halted m cs s w) h = h
not_heavier n (Strayed m cs w) h = h

not_later : {A : Type 0} (cs : List Call) (e : Ended A) → HasNotGiven e → HasNotGiven (later cs e)
not_later cs (Gave m ds a w) h = h
not_later cs (Halted m ds s w) h = h
not_later cs (Strayed m ds w) h = h

lacked_heavier : {A : Type 0} (n : ℕ) (e : Ended A) → HasLacked e → HasLacked (heavier n e)
lacked_heavier n (Gave m cs a w) h = h
lacked_heavier n (Halted m cs s w) h = h
lacked_heavier n (Strayed m cs w) h = h

lacked_later : {A : Type 0} (cs : List Call) (e : Ended A) → HasLacked e → HasLacked (later cs e)
lacked_later cs (Gave m ds a w) h = h
lacked_later cs (Halted m ds s w) h = h
lacked_later cs (Strayed m ds w) h = h

-- the last call, or the lack of its answer, of another end
last_of : {A : Type 0} {L : Type 0} {C : Type 0} (e f : Ended A) → (HasLacked e → HasLacked f) → (L × HasLacked e) ⊎ C → (L × HasLacked f) ⊎ C
last_of e f g (inl h) = inl (h.0, g h.1)
last_of e f g (inr h) = inr h

pub checked_heavier : {A : Type 0} (n : ℕ) (e f : Ended A) → IsChecked e f → IsChecked (heavier n e) (heavier n f)
checked_heavier n e f (inl h) = inl (ap (heavier n) h)
checked_heavier n e f (inr h) = inr (record {
  check = h.check;
  is_check = h.is_check;
  before = h.before;
  last = h.last;
  calls_are = calls_heavier n e ∙ h.calls_are;
  begins = subst (λ cs. Grows h.before cs) (sym (calls_heavier n f)) h.begins;
  last_is = last_of e (heavier n e) (lacked_heavier n e) h.last_is;
  done = h.done;
  told = h.told;
  trace_is = ap (λ w. w.trace) (world_heavier n e) ∙ h.trace_is;
  trace_begins = subst (λ w. Grows h.done w.trace) (sym (world_heavier n f)) h.trace_begins;
  told_is = h.told_is;
  ends = not_heavier n e h.ends;
})

pub checked_later : {A : Type 0} (cs : List Call) (e f : Ended A) → IsChecked e f → IsChecked (later cs e) (later cs f)
checked_later cs e f (inl h) = inl (ap (later cs) h)
checked_later cs e f (inr h) = inr (record {
  check = h.check;
  is_check = h.is_check;
  before = cs ++ h.before;
  last = h.last;
  calls_are = calls_later cs e ∙ ap (λ l. cs ++ l) h.calls_are ∙ sym (append_assoc cs h.before h.last);
  begins = record { more = h.begins.more; is = calls_later cs f ∙ ap (λ l. cs ++ l) h.begins.is ∙ sym (append_assoc cs h.before h.begins.more) };
  last_is = last_of e (later cs e) (lacked_later cs e) h.last_is;
  done = h.done;
  told = h.told;
  trace_is = ap (λ w. w.trace) (world_later cs e) ∙ h.trace_is;
  trace_begins = subst (λ w. Grows h.done w.trace) (sym (world_later cs f)) h.trace_begins;
  told_is = h.told_is;
  ends = not_later cs e h.ends;
})

checked_there : {A B : Type 0} (w : World) (o : Option A) {f g : A → Ended B} → ((a : A) → IsChecked (f a) (g a)) → IsChecked (or_strayed w o f) (or_strayed w o g)
checked_there w None h = inl refl
checked_there w (Some a) h = h a

checked_done : {A B : Type 0} (r : Res A) {f g : A → World → Ended B} → ((a : A) (w : World) → IsChecked (f a w) (g a w)) → IsChecked (ended r f) (ended r g)
checked_done (Done a w) h = h a w
checked_done (Halt s w) h = inl refl

checked_typed : {B : Type 0} (b : Bool) (w : World) {e f : Ended B} → IsChecked e f → IsChecked (if_typed b w e) (if_typed b w f)
checked_typed true w h = h
checked_typed false w h = inl refl

-- a check that fails ends a run after at most the call of its trap
fails_run : {A : Type 0} (p : ImportPlaces) (t : Reason) (w : World) (left : List Answer) (f : Ended A) → is_check t ≡ true → Grows w.trace (world_in f).trace
    → IsCutShort {A = A} (later (call_of (import.Trap t) [] w.state left) (with_answer p [] w (asked (p.function (import.Trap t)) [] w left) (λ rs w'. Halted 0 [] world.Trap w'))) f
fails_run p t w [] f e g = record { check = t; is_check = e; before = []; last = []; calls_are = refl; begins = record { more = calls_in f; is = refl }; last_is = inl (refl, refl); done = w.trace; told = []; trace_is = sym (append-nil w.trace); trace_begins = g; told_is = refl; ends = tt }
fails_run p t w (Traps ∷ more) f e g = record { check = t; is_check = e; before = []; last = _; calls_are = refl; begins = record { more = calls_in f; is = refl }; last_is = inr refl; done = w.trace; told = _ ∷ []; trace_is = refl; trace_begins = g; told_is = refl; ends = tt }
fails_run p t w (Throws ∷ more) f e g = record { check = t; is_check = e; before = []; last = _; calls_are = refl; begins = record { more = calls_in f; is = refl }; last_is = inr refl; done = w.trace; told = _ ∷ []; trace_is = refl; trace_begins = g; told_is = refl; ends = tt }
fails_run {A} p t w (Returns rs state ∷ more) f e g = by_type (is_answer p [] w.state rs state)
  where
    by_type : (b : Bool) → IsCutShort {A = A} (later (record { what = import.Trap t; args = []; before = w.state; answer = Returns rs state } ∷ []) (if_typed b (record { state = state; answers = more; trace = w.trace ++ Called (record { func = p.function (import.Trap t); args = []; before = w.state; answer = Returns rs state }) ∷ [] }) (Halted 0 [] world.Trap (record { state = state; answers = more; trace = w.trace ++ Called (record { func = p.function (import.Trap t); args = []; before = w.state; answer = Returns rs state }) ∷ [] })))) f
    by_type true = record { check = t; is_check = e; before = []; last = _; calls_are = refl; begins = record { more = calls_in f; is = refl }; last_is = inr refl; done = w.trace; told = _ ∷ []; trace_is = refl; trace_begins = g; told_is = refl; ends = tt }
    by_type false = record { check = t; is_check = e; before = []; last = _; calls_are = refl; begins = record { more = calls_in f; is = refl }; last_is = inr refl; done = w.trace; told = _ ∷ []; trace_is = refl; trace_begins = g; told_is = refl; ends = tt }

pub checks_run : {A : Type 0} (p : ImportPlaces) {q r : Action A} → Checks q r → (w : World) → IsChecked (run p q w) (run p r w)
checks_run p (same q) w = inl refl
checks_run p (fails t e r) w = inr (fails_run p t w w.answers (run p r w) e (runs_follow p r w).grows)
checks_run p (visits n {q = q} {r = r} c) w = checked_heavier n (run p q w) (run p r w) (checks_run p c w)
checks_run p (reads n m a c) w = checked_there w (slice_get w.state.memories (p.memory m)) (λ bytes. checked_done (read n bytes a w) (λ x w'. checks_run p (c x) w'))
checks_run p (writes n m a x c) w = checked_there w (slice_get w.state.memories (p.memory m)) (λ bytes. checked_done (write n (p.memory m) bytes a x w) (λ u w'. checks_run p c w'))
checks_run p (lengths m c) w = checked_there w (slice_get w.state.memories (p.memory m)) (λ bytes. checks_run p (c (length bytes)) w)
checks_run p (gets i c) w = checked_there w (slice_get w.state.globals (p.flags i)) (λ v. checked_there w (i32_of v) (λ n. checks_run p (c n) w))
checks_run p (sets i x c) w = checked_there w (slice_get w.state.globals (p.flags i)) (λ v. checks_run p c (set_global (p.flags i) (I32 x) w))
checks_run p (asks i args ts c) w =
    checked_later (call_of i args w.state w.answers) _ _ (checked_done (outside (p.function i) args w) (λ rs w'. checked_typed (is_answer p ts w.state rs w'.state) w' (checks_run p (c rs) w')))
