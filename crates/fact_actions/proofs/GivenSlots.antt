-- What moves give: values of the types of the slots that they go to.
use Rattle.std.proofs.Common.{◌≡◌, ℕ, zero, suc, ◌+◌, ◌*◌, ◌≤◌, Bool, true, false, List, [], ◌∷◌, ◌++◌, length, Option, Some, None, refl, sym, ap, ◌∙◌, subst, arith, length-append}
use Rattle.std.specs.Prelude.{nat_eq, nat_le, nat_lt, take, drop, ◌%◌, ◌^◌, if◌then◌else◌, slice_get}
use Rattle.std.specs.List.{AllByRecursion}
use Rattle.std.specs.Str.{bytes_eq}
use Rattle.std.proofs.lemmas.List.{take-append-drop, length-take-le, length-replicate}
use Rattle.fact_wasm.specs.declared.types.ValType.{ValType}
use Rattle.fact_wasm.specs.declared.types.ValType.TheVariants as val
use Rattle.fact_types.specs.declared.flats.FlatType.{FlatType}
use Rattle.fact_types.specs.declared.import.Import.{Import}
use Rattle.fact_types.specs.declared.import.Import.TheVariants as import
use Rattle.fact_types.specs.declared.interface.InterfaceType.{InterfaceType}
use Rattle.fact_types.specs.declared.interface.InterfaceType.TheVariants as ty
use Rattle.fact_types.specs.declared.outside.CoreDef.{CoreDef}
use Rattle.fact_types.specs.declared.outside.MemoryOption.{MemoryOption}
use Rattle.fact_types.specs.declared.outside.Trap.{Trap as Reason}
use Rattle.fact_types.specs.declared.outside.Trap.TheVariants.{ListOutOfBounds, StringOutOfBounds, InvalidChar, InvalidDiscriminant, DebugAssertUpperBitsUnset}
use Rattle.fact_types.specs.Fields.{Field, field_of}
use Rattle.fact_types.specs.FlatShapes.{flat, flat_plain, flat_members, flat_any, joined, times}
use Rattle.fact_types.specs.Shapes.{Kind, k_record, k_variant, k_list, k_tuple, k_map, k_flags, k_enum, k_option, k_result, k_fixed, k_future, k_stream, Shape, s_plain, s_node, Members, no_members, bare, typed}
use Rattle.fact_machine.specs.declared.types.CoreValue.{CoreValue}
use Rattle.fact_machine.specs.declared.types.CoreValue.TheVariants.{I32, I64, F32, F64, Func}
use Rattle.fact_machine.specs.Machine.{i32_of}
use Rattle.fact_machine.specs.Typing.{is_number}
use Rattle.fact_machine.specs.World.{World, Res, Done, Halt, read, write, outside, set_global}
use Rattle.fact_values.specs.Lift.{bits_of}
use Rattle.fact_types.specs.Agrees.{chosen}
use Rattle.fact_values.specs.Limits.{CaseType, case_type, Where}
use Rattle.fact_values.specs.Numbers.{is_scalar_value}
use Rattle.fact_values.specs.Places.{count_of_members, case_bytes, flags_bytes}
use Rattle.fact_actions.specs.Actions.{Action, Give, Visit, Read, Write, MemoryLength, GetFlags, SetFlags, Ask, Unreachable, ◌>>=◌, trap, unless, each_from, each}
use Rattle.fact_actions.specs.Alike.{HaveValueTypes, CanFillPlain, EachCaseCan, CanFillNode, CanFill, CanFillFields, CanFillCase, IfGiven, MovesFillSlots}
use Rattle.fact_actions.specs.Moves.{MovingMembers, flat_length, spot, past, padded, entry_extent, element_flats, canonical_number, plain_size, aligned_source, aligned_target, aligned_node, move_number, move_handle, write_case, move_list, move_fixed, move_plain, move_to_plain, move_sum, move_node, move_to_node, with_field, move, move_fields, move_case}
use Rattle.fact_actions.specs.Running.{ImportPlaces, Ended, Gave, Halted, Strayed, Call, call_of, run, heavier, later, ended, if_typed, is_answer, or_strayed}
use Rattle.fact_actions.specs.Sides.{LiftLowerOptions, Transfer, Source, Values, AtAddress, Target, Slots, Into, width_of_side, first_bits, core_value, zeros, low_half, in_value, with_memory, read_number, write_number, nth_part, nth_spot, bytes_of_addresses, read_pair, write_pair, check_region, reallocate, get_slots, set_slots, address_value, type_of_addresses}
use Rattle.fact_actions.specs.Strings.{move_string}

-- ---- actions

-- what holds of all that an action gives
data Gives {A : Type 0} (P : A → Type 0) : Action A → Type 0 where
  gives : (a : A) → P a → Gives P (Give a)
  visits : (n : ℕ) {q : Action A} → Gives P q → Gives P (Visit n q)
  reads : (n : ℕ) (m : CoreDef) (a : ℕ) {k : ℕ → Action A} → ((x : ℕ) → Gives P (k x)) → Gives P (Read n m a k)
  writes : (n : ℕ) (m : CoreDef) (a x : ℕ) {q : Action A} → Gives P q → Gives P (Write n m a x q)
  lengths : (m : CoreDef) {k : ℕ → Action A} → ((x : ℕ) → Gives P (k x)) → Gives P (MemoryLength m k)
  gets : (i : ℕ) {k : ℕ → Action A} → ((x : ℕ) → Gives P (k x)) → Gives P (GetFlags i k)
  sets : (i x : ℕ) {q : Action A} → Gives P q → Gives P (SetFlags i x q)
  asks : (i : Import) (args : List CoreValue) (ts : List ValType) {k : List CoreValue → Action A} → ((rs : List CoreValue) → Gives P (k rs)) → Gives P (Ask i args ts k)
  stops : Gives P Unreachable

-- whatever is given
gives_any : {A : Type 0} {P : A → Type 0} → ((a : A) → P a) → (q : Action A) → Gives P q
gives_any h (Give a) = gives a (h a)
gives_any h (Visit n q) = visits n (gives_any h q)
gives_any h (Read n m a k) = reads n m a (λ x. gives_any h (k x))
gives_any h (Write n m a x q) = writes n m a x (gives_any h q)
gives_any h (MemoryLength m k) = lengths m (λ x. gives_any h (k x))
gives_any h (GetFlags i k) = gets i (λ x. gives_any h (k x))
gives_any h (SetFlags i x q) = sets i x (gives_any h q)
gives_any h (Ask i args ts k) = asks i args ts (λ rs. gives_any h (k rs))
gives_any h Unreachable = stops

gives_then : {A B : Type 0} {P : A → Type 0} {Q : B → Type 0} {q : Action A} {f : A → Action B} → Gives P q → ((a : A) → P a → Gives Q (f a)) → Gives Q (q >>= f)
gives_then (gives a e) h = h a e
gives_then (visits n c) h = visits n (gives_then c h)
gives_then (reads n m a c) h = reads n m a (λ x. gives_then (c x) h)
gives_then (writes n m a x c) h = writes n m a x (gives_then c h)
gives_then (lengths m c) h = lengths m (λ x. gives_then (c x) h)
gives_then (gets i c) h = gets i (λ x. gives_then (c x) h)
gives_then (sets i x c) h = sets i x (gives_then c h)
gives_then (asks i args ts c) h = asks i args ts (λ rs. gives_then (c rs) h)
gives_then stops h = stops

-- behind any action
gives_behind : {A B : Type 0} {Q : B → Type 0} (q : Action A) {f : A → Action B} → ((a : A) → Gives Q (f a)) → Gives Q (q >>= f)
gives_behind q h = gives_then (gives_any {P = λ a. Unit {0}} (λ a. tt) q) (λ a e. h a)

module _ {A : Type 0} {P : A → Type 0} where
  given_trap : (t : Reason) → Gives P (trap t)
  given_trap t = asks _ [] [] (λ rs. stops)

  given_unless : (t : Reason) (b : Bool) {q : Action A} → Gives P q → Gives P (unless t b q)
  given_unless t true h = h
  given_unless t false h = given_trap t

  given_if : (b : Bool) {q r : Action A} → Gives P q → Gives P r → Gives P (if b then q else r)
  given_if true h g = h
  given_if false h g = g

  given_memory : (o : LiftLowerOptions) {k : MemoryOption → Action A} → ((m : MemoryOption) → Gives P (k m)) → Gives P (with_memory o k)
  given_memory o {k} h = by_memory o.memory
    where
      by_memory : (x : Option MemoryOption) → Gives P (elim x [ None ↦ Unreachable | Some m ↦ k m ])
      by_memory None = stops
      by_memory (Some m) = h m

  given_low : (debug : Bool) (v : CoreValue) {k : ℕ → Action A} → ((n : ℕ) → Gives P (k n)) → Gives P (low_half debug v k)
  given_low true (I64 n) h = given_unless DebugAssertUpperBitsUnset (nat_lt n (2 ^ 32)) (h _)
  given_low true (F64 n) h = given_unless DebugAssertUpperBitsUnset (nat_lt n (2 ^ 32)) (h _)
  given_low true (I32 n) h = h _
  given_low true (F32 n) h = h _
  given_low true (Func f) h = h _
  given_low false v h = h _

  given_in : (debug : Bool) (size : ℕ) (vs : List CoreValue) {k : ℕ → Action A} → ((n : ℕ) → Gives P (k n)) → Gives P (in_value debug size vs k)
  given_in debug size [] h = stops
  given_in debug size (v ∷ vs) {k} h = given_if (nat_eq size 8) (h _) (given_low debug v h)

  given_read : (debug : Bool) (o : LiftLowerOptions) (size : ℕ) (s : Source) {k : ℕ → Action A} → ((n : ℕ) → Gives P (k n)) → Gives P (read_number debug o size s k)
  given_read debug o size (Values vs) h = given_in debug size vs h
  given_read debug o size (AtAddress a) h = given_memory o (λ m. reads size m.def a h)

  given_pair : (debug : Bool) (o : LiftLowerOptions) (s : Source) {k : ℕ → ℕ → Action A} → ((p n : ℕ) → Gives P (k p n)) → Gives P (read_pair debug o s k)
  given_pair debug o s h = given_read debug o (bytes_of_addresses o) (nth_part 1 (bytes_of_addresses o) 0 s) (λ p. given_read debug o (bytes_of_addresses o) (nth_part 1 (bytes_of_addresses o) 1 s) (λ n. h p n))

  given_region : (o : LiftLowerOptions) (t : Reason) (p bytes align : ℕ) {q : Action A} → Gives P q → Gives P (check_region o t p bytes align q)
  given_region o t p bytes align h = given_unless _ (nat_eq (p % align) 0) (given_memory o (λ m. lengths m.def (λ length. given_unless t (nat_le (p + bytes) length) h)))

  given_slots : (b : Bool) {k : List CoreValue → List CoreValue → Action A} → ((x y : List CoreValue) → Gives P (k x y)) → Gives P (get_slots b k)
  given_slots false h = h [] []
  given_slots true h = asks _ [] _ (λ x. asks _ [] _ (λ y. h x y))

  given_slots_set : (b : Bool) (x y : List CoreValue) {q : Action A} → Gives P q → Gives P (set_slots b x y q)
  given_slots_set false x y h = h
  given_slots_set true x y h = asks _ x [] (λ a. asks _ y [] (λ b. h))

  given_realloc : (concurrency : Bool) (o : LiftLowerOptions) (t : Reason) (old old_size align new_size : ℕ) {k : ℕ → Action A} → ((q : ℕ) → Gives P (k q)) → Gives P (reallocate concurrency o t old old_size align new_size k)
  given_realloc concurrency o t old old_size align new_size {k} h = by_realloc o.realloc
    where
      by_realloc : (f : Option CoreDef) → Gives P (elim f [
        | None ↦ Unreachable
        | Some f ↦
            get_slots concurrency (λ a b. set_slots concurrency (I32 0 ∷ []) (I32 0 ∷ [])
            (Ask (import.CoreDef f) (address_value o old ∷ address_value o old_size ∷ address_value o align ∷ address_value o new_size ∷ []) (type_of_addresses o ∷ []) (λ rs.
            set_slots concurrency a b (check_region o t (first_bits rs) new_size align (k (first_bits rs))))))
      ])
      by_realloc None = stops
      by_realloc (Some f) = given_slots concurrency (λ x y. given_slots_set concurrency (I32 0 ∷ []) (I32 0 ∷ []) (asks _ _ _ (λ rs. given_slots_set concurrency x y (given_region o t (first_bits rs) new_size align (h (first_bits rs))))))

-- ---- values of types

abbrev AreNumbers : List ValType → Type 0
AreNumbers ts = AllByRecursion (λ t. is_number t ≡ true) ts

value_bits : (t : ValType) (n : ℕ) → is_number t ≡ true → core_value t n ≡ core_value t (bits_of (core_value t n))
value_bits val.I32 n h = refl
value_bits val.I64 n h = refl
value_bits val.F32 n h = refl
value_bits val.F64 n h = refl
value_bits val.FuncRef n h = cc

of_types_on : (vs : List CoreValue) (xs : List ValType) (us : List CoreValue) (ys : List ValType) → HaveValueTypes vs xs → HaveValueTypes us ys → HaveValueTypes (vs ++ us) (xs ++ ys)
of_types_on [] [] us ys h g = g
of_types_on [] (x ∷ xs) us ys h g = absurd h
of_types_on (v ∷ vs) [] us ys h g = absurd h
of_types_on (v ∷ vs) (x ∷ xs) us ys h g = (h.0, of_types_on vs xs us ys h.1 g)

-- of a list in two parts
of_types_parts : (n : ℕ) (ts : List ValType) (vs us : List CoreValue) → HaveValueTypes vs (take n ts) → HaveValueTypes us (drop n ts) → HaveValueTypes (vs ++ us) ts
of_types_parts n ts vs us h g = subst (HaveValueTypes (vs ++ us)) (take-append-drop n ts) (of_types_on vs (take n ts) us (drop n ts) h g)

of_types_length : (vs : List CoreValue) (ts : List ValType) → HaveValueTypes vs ts → length vs ≡ length ts
of_types_length [] [] h = refl
of_types_length [] (t ∷ ts) h = absurd h
of_types_length (v ∷ vs) [] h = absurd h
of_types_length (v ∷ vs) (t ∷ ts) h = ap suc (of_types_length vs ts h.1)

zeros_of_types : (ts : List ValType) → AreNumbers ts → HaveValueTypes (zeros ts) ts
zeros_of_types [] h = tt
zeros_of_types (t ∷ ts) h = (value_bits t 0 h.0, zeros_of_types ts h.1)

numbers_take : (n : ℕ) (ts : List ValType) → AreNumbers ts → AreNumbers (take n ts)
numbers_take zero ts h = tt
numbers_take (suc n) [] h = tt
numbers_take (suc n) (t ∷ ts) h = (h.0, numbers_take n ts h.1)

numbers_drop : (n : ℕ) (ts : List ValType) → AreNumbers ts → AreNumbers (drop n ts)
numbers_drop zero ts h = h
numbers_drop (suc n) [] h = tt
numbers_drop (suc n) (t ∷ ts) h = numbers_drop n ts h.1

length_dropped : {X : Type 0} (n m : ℕ) (xs : List X) → length xs ≡ n + m → length (drop n xs) ≡ m
length_dropped zero m xs h = omega (arith, h)
length_dropped (suc n) m [] h = absurd (omega (arith, h))
length_dropped (suc n) m (x ∷ xs) h = length_dropped n m xs (omega (arith, h))

-- ---- targets

-- so many slots of numbers, or a place in memory
abbrev HasSlots : Target → ℕ → Type 0
HasSlots (Slots ts) n = (length ts ≡ n) × AreNumbers ts
HasSlots (Into a) n = Unit {0}

-- what is given fills them
abbrev Fills : Target → List CoreValue → Type 0
Fills (Slots ts) vs = HaveValueTypes vs ts
Fills (Into a) vs = Unit {0}

slots_spot : (o : LiftLowerOptions) (u : Shape) (end n : ℕ) (d : Target) → HasSlots d (flat_length o u + n) → HasSlots (spot o u end d) (flat_length o u)
slots_spot o u end n (Slots ts) h = (length-take-le (flat_length o u) ts (omega (arith, h.0)), numbers_take (flat_length o u) ts h.1)
slots_spot o u end n (Into a) h = tt

slots_past : (o : LiftLowerOptions) (u : Shape) (n : ℕ) (d : Target) → HasSlots d (flat_length o u + n) → HasSlots (past o u d) n
slots_past o u n (Slots ts) h = (length_dropped (flat_length o u) n ts h.0, numbers_drop (flat_length o u) ts h.1)
slots_past o u n (Into a) h = tt

fills_on : (o : LiftLowerOptions) (u : Shape) (end : ℕ) (d : Target) (vs us : List CoreValue) → Fills (spot o u end d) vs → Fills (past o u d) us → Fills d (vs ++ us)
fills_on o u end (Slots ts) vs us h g = of_types_parts (flat_length o u) ts vs us h g
fills_on o u end (Into a) vs us h g = tt

given_write : (o : LiftLowerOptions) (size : ℕ) (d : Target) (n : ℕ) → HasSlots d 1 → Gives (Fills d) (write_number o size d n)
given_write o size (Slots []) n h = absurd (omega (arith, h.0))
given_write o size (Slots (t ∷ [])) n h = gives _ (value_bits t n h.1.0, tt)
given_write o size (Slots (t ∷ t' ∷ ts)) n h = absurd (omega (arith, h.0))
given_write o size (Into a) n h = gives_any (λ vs. tt) (write_number o size (Into a) n)

given_write_pair : (o : LiftLowerOptions) (d : Target) (p n : ℕ) → HasSlots d 2 → Gives (Fills d) (write_pair o d p n)
given_write_pair o (Slots []) p n h = absurd (omega (arith, h.0))
given_write_pair o (Slots (t ∷ [])) p n h = absurd (omega (arith, h.0))
given_write_pair o (Slots (t ∷ t' ∷ [])) p n h = gives _ (value_bits t p h.1.0, (value_bits t' n h.1.1.0, tt))
given_write_pair o (Slots (t ∷ t' ∷ t'' ∷ ts)) p n h = absurd (omega (arith, h.0))
given_write_pair o (Into a) p n h = gives_any (λ vs. tt) (write_pair o (Into a) p n)

-- ---- cases

-- a number among the first core values, and the rest of the slots
fills_padded : (t : ValType) (ts : List ValType) (k n : ℕ) (vs : List CoreValue) → is_number t ≡ true → AreNumbers ts → k ≤ length ts → HaveValueTypes vs (take k ts)
    → HaveValueTypes (padded (Slots (t ∷ ts)) (core_value t n ∷ vs)) (t ∷ ts)
fills_padded t ts k n vs number numbers le h =
    let count : length vs ≡ k = of_types_length vs (take k ts) h ∙ length-take-le k ts le in
    (value_bits t n number, of_types_parts k ts vs (zeros (drop (length vs) ts)) h (subst (λ j. HaveValueTypes (zeros (drop j ts)) (drop k ts)) (sym count) (zeros_of_types (drop k ts) (numbers_drop k ts numbers))))

joined_left : (xs ys : List FlatType) → length xs ≤ length (joined xs ys)
joined_left [] ys = omega arith
joined_left (x ∷ xs) [] = omega arith
joined_left (x ∷ xs) (y ∷ ys) = let h = joined_left xs ys in omega (arith, h)

joined_right : (xs ys : List FlatType) → length ys ≤ length (joined xs ys)
joined_right [] ys = omega arith
joined_right (x ∷ xs) [] = omega arith
joined_right (x ∷ xs) (y ∷ ys) = let h = joined_right xs ys in omega (arith, h)

length_times : {X : Type 0} (n : ℕ) (xs : List X) → length (times n xs) ≡ 0 * length xs + n * length xs
length_times zero xs = omega arith
length_times (suc n) xs =
    let h = length_times n xs in
    let e : length xs + (0 * length xs + n * length xs) ≡ 0 * length xs + suc n * length xs = omega arith in
    length-append xs (times n xs) ∙ ap (λ k. length xs + k) h ∙ e

drop_none : {X : Type 0} (k : ℕ) → drop {A = X} k [] ≡ []
drop_none zero = refl
drop_none (suc k) = refl

dropped_more : {X : Type 0} (i k : ℕ) (xs : List X) → drop k (drop i xs) ≡ drop (i + k) xs
dropped_more zero k xs = ap (λ j. drop j xs) (let e : k ≡ 0 + k = omega arith in e)
dropped_more (suc i) k [] = drop_none k ∙ sym (drop_none (suc i + k))
dropped_more (suc i) k (x ∷ xs) = dropped_more i k xs ∙ ap (λ j. drop j (x ∷ xs)) (let e : suc (i + k) ≡ suc i + k = omega arith in e)

slots_as : (d : Target) {n m : ℕ} → n ≡ m → HasSlots d n → HasSlots d m
slots_as d e h = subst (HasSlots d) e h

module _ (tr : Transfer) where
  abbrev flats : Shape → ℕ
  flats u = flat_length tr.to u

  abbrev any : Members → ℕ
  any ns = length (flat_any (width_of_side tr.to) ns)

  abbrev all : Members → ℕ
  all ns = length (flat_members (width_of_side tr.to) ns)

  -- a payload is moved into as many slots as it has flat types
  abbrev FillsIf : Option Shape → Option Shape → (Shape → Source → Target → Action (List CoreValue)) → Type 0
  FillsIf (Some p) (Some u) f = (s : Source) (d : Target) → HasSlots d (flats u) → Gives (Fills d) (f p s d)
  FillsIf _ _ f = Unit {0}

  abbrev FitsIf : Option Shape → ℕ → Type 0
  FitsIf None n = Unit {0}
  FitsIf (Some u) n = flats u ≤ n

  given_write_case : (ms ns : Members) (s : Source) (d : Target) (n : ℕ) (p q : Option Shape) (f : Shape → Source → Target → Action (List CoreValue)) (room : ℕ) → HasSlots d (suc room) → FitsIf q room → FillsIf p q f
      → Gives (Fills d) (write_case tr ms ns s d n p q f)
  given_write_case ms ns s (Slots []) n p q f room h fits m = absurd (omega (arith, h.0))
  given_write_case ms ns s (Slots (t ∷ ts)) n (Some p) (Some u) f room h fits m =
      let le : flats u ≤ length ts = omega (arith, h.0, fits) in
      gives_then (m _ (Slots (take (flats u) ts)) (length-take-le (flats u) ts le, numbers_take (flats u) ts h.1.1)) (λ vs g. gives _ (fills_padded t ts (flats u) n vs h.1.0 h.1.1 le g))
  given_write_case ms ns s (Slots (t ∷ ts)) n None None f room h fits m = gives _ (fills_padded t ts 0 n [] h.1.0 h.1.1 (omega arith) tt)
  given_write_case ms ns s (Into a) n (Some p) (Some u) f room h fits m = gives_any (λ vs. tt) (write_case tr ms ns s (Into a) n (Some p) (Some u) f)
  given_write_case ms ns s (Into a) n None None f room h fits m = gives_any (λ vs. tt) (write_case tr ms ns s (Into a) n None None f)
  given_write_case ms ns s d n (Some p) None f room h fits m = stops
  given_write_case ms ns s d n None (Some u) f room h fits m = stops

  -- ---- lists of fixed length

  nth_slots : (k bytes i : ℕ) (n : ℕ) (d : Target) → HasSlots d (i * k + (k + n)) → HasSlots (nth_spot k bytes i d) k
  nth_slots k bytes i n (Slots ts) h =
      (length-take-le k (drop (i * k) ts) (let e = length_dropped (i * k) (k + n) ts h.0 in omega (arith, e)), numbers_take k (drop (i * k) ts) (numbers_drop (i * k) ts h.1))
  nth_slots k bytes i n (Into a) h = tt

  -- what is given behind so many elements
  abbrev FillsBehind : (done : ℕ) → Target → List CoreValue → Type 0
  FillsBehind done (Slots ts) vs = HaveValueTypes vs (drop done ts)
  FillsBehind done (Into a) vs = Unit {0}

  none_left : (ts : List ValType) → length ts ≡ 0 → HaveValueTypes [] ts
  none_left [] h = tt
  none_left (t ∷ ts) h = absurd (omega (arith, h))

  given_each : (k bytes i n : ℕ) (d : Target) (f : ℕ → Action (List CoreValue)) → HasSlots d (i * k + n * k) → ((j : ℕ) → HasSlots (nth_spot k bytes j d) k → Gives (Fills (nth_spot k bytes j d)) (f j))
      → Gives (FillsBehind (i * k) d) (each_from i n f)
  given_each k bytes i zero (Slots ts) f h e = gives [] (none_left (drop (i * k) ts) (length_dropped (i * k) 0 ts (omega (arith, h.0))))
  given_each k bytes i zero (Into a) f h e = gives [] tt
  given_each k bytes i (suc n) (Slots ts) f h e =
      let more : length ts ≡ i * k + (k + n * k) = omega (arith, h.0) in
      let rest : length ts ≡ suc i * k + n * k = omega (arith, more) in
      gives_then (e i (nth_slots k bytes i (n * k) (Slots ts) (more, h.1))) (λ vs v.
      gives_then (given_each k bytes (suc i) n (Slots ts) f (rest, h.1) e) (λ us u.
      gives (vs ++ us) (of_types_parts k (drop (i * k) ts) vs us v (subst (HaveValueTypes us) (let e : i * k + k ≡ suc i * k = omega arith in ap (λ j. drop j ts) (sym e) ∙ sym (dropped_more (i * k) k ts)) u))))
  given_each k bytes i (suc n) (Into a) f h e = gives_any (λ vs. tt) (each_from i (suc n) f)

  -- ---- all types

  given_number : (size size' : ℕ) (f : ℕ → ℕ) (s : Source) (d : Target) → HasSlots d 1 → Gives (Fills d) (move_number tr size size' f s d)
  given_number size size' f s d h = given_read tr.debug tr.from size s (λ n. given_write tr.to size' d (f n) h)

  given_handle : (i : Import) (t u : ℕ) (s : Source) (d : Target) → HasSlots d 1 → Gives (Fills d) (move_handle tr i t u s d)
  given_handle i t u s d h = given_read tr.debug tr.from 4 s (λ n. asks i _ _ (λ rs. given_write tr.to 4 d (first_bits rs) h))

  given_text : (s : Source) (d : Target) → HasSlots d 2 → Gives (Fills d) (move_string tr s d)
  given_text s d h = given_pair tr.debug tr.from s (λ p n. given_region tr.from StringOutOfBounds p _ _ (gives_behind _ (λ v. given_write_pair tr.to d v.region v.written h)))

  given_plain : (t u : InterfaceType) (s : Source) (d : Target) → CanFillPlain (s_plain t) u → HasSlots d (length (flat_plain (width_of_side tr.to) u)) → Gives (Fills d) (move_plain tr t u s d)
  given_plain ty.String ty.String s d f h = given_text s d h
  given_plain ty.Char ty.Char s d f h = given_read tr.debug tr.from 4 s (λ n. given_unless InvalidChar (is_scalar_value n) (given_write tr.to 4 d n h))
  given_plain (ty.Own i) (ty.Own j) s d f h = given_handle import.ResourceTransferOwn i.number j.number s d h
  given_plain (ty.Borrow i) (ty.Borrow j) s d f h = given_handle import.ResourceTransferBorrow i.number j.number s d h
  given_plain (ty.ErrorContext i) (ty.ErrorContext j) s d f h = given_handle import.ErrorContextTransfer i.number j.number s d h
  given_plain t ty.String s d f h = cc
  given_plain t u s d f h = given_number (plain_size t) (plain_size u) (canonical_number t) s d h

  given_to_plain : (t : Shape) (u : InterfaceType) (s : Source) (d : Target) → CanFillPlain t u → HasSlots d (length (flat_plain (width_of_side tr.to) u)) → Gives (Fills d) (move_to_plain tr t u s d)
  given_to_plain (s_plain t) u s d f h = given_plain t u s d f h
  given_to_plain (s_node k ms) u s d f h = stops

  given_source : (debug : Bool) (t : Shape) (s : Source) {P : List CoreValue → Type 0} {q : Action (List CoreValue)} → Gives P q → Gives P (aligned_source debug tr.from t s q)
  given_source true t (Values vs) h = h
  given_source true t (AtAddress a) h = given_unless _ _ h
  given_source false t s h = h

  given_target : (debug : Bool) (u : Shape) (d : Target) {P : List CoreValue → Type 0} {q : Action (List CoreValue)} → Gives P q → Gives P (aligned_target debug tr.to u d q)
  given_target true u (Slots ts) h = h
  given_target true u (Into a) h = given_unless _ _ h
  given_target false u d h = h

  given_aligned : (t u : Shape) (s : Source) (d : Target) {P : List CoreValue → Type 0} {q : Action (List CoreValue)} → Gives P q → Gives P (aligned_node tr t u s d q)
  given_aligned t u s d h = given_source tr.debug t s (given_target tr.debug u d h)

  given_list : (ms ns : Members) (m : MovingMembers) (s : Source) (d : Target) → HasSlots d 2 → Gives (Fills d) (move_list tr ms ns (m.fields ms) s d)
  given_list ms ns m s d h =
      let a = entry_extent tr.from ms in
      let b = entry_extent tr.to ns in
      given_pair tr.debug tr.from s (λ p x.
      given_unless ListOutOfBounds (nat_lt (x * a.size) (2 ^ 32)) (
      given_unless ListOutOfBounds (nat_lt (x * b.size) (2 ^ 32)) (
      given_region tr.from ListOutOfBounds p (x * a.size) a.align (
      given_realloc tr.concurrency tr.to ListOutOfBounds 0 0 b.align (x * b.size) (λ q.
      gives_behind (each x (λ i. m.fields ms (AtAddress (p + i * a.size)) (Into (q + i * b.size)))) (λ vs. given_write_pair tr.to d q x h))))))

  -- how members fill their slots
  record FillMembers (ns : Members) (m : MovingMembers) (CanFields : Members → Type 0) (CanCase : CaseType → Type 0) : Type 0 where
    fields : (ms : Members) (s : Source) (d : Target) → CanFields ms → HasSlots d (all ns) → Gives (Fills d) (m.fields ms s d)
    case : (ms : Members) (c : CaseType) (s : Source) (d : Target) → CanCase c → HasSlots d (suc (any ns)) → Gives (Fills d) (m.case ms c s d)

  module _ {ns : Members} {CanFields : Members → Type 0} {CanCase : CaseType → Type 0} where
    given_sum : (ms : Members) (m : MovingMembers) (s : Source) (d : Target) → EachCaseCan ms CanCase → HasSlots d (suc (any ns)) → FillMembers ns m CanFields CanCase → Gives (Fills d) (move_sum tr ms m s d)
    given_sum ms m s d each h f = given_read tr.debug tr.from (case_bytes ms) s (λ x. by_case x (case_type ms x) refl)
      where
        by_case : (x : ℕ) (o : Option CaseType) → case_type ms x ≡ o → Gives (Fills d) (elim o [ None ↦ trap InvalidDiscriminant | Some c ↦ m.case ms c s d ])
        by_case x None e = given_trap InvalidDiscriminant
        by_case x (Some c) e = f.case ms c s d (each x c e) h

    given_node : (k : Kind) (ms : Members) (l : Kind) (m : MovingMembers) (s : Source) (d : Target) → CanFillNode (s_node k ms) l ns CanFields CanCase → HasSlots d (length (flat (width_of_side tr.to) (s_node l ns))) → FillMembers ns m CanFields CanCase
        → Gives (Fills d) (move_node tr k ms l ns m s d)
    given_node k_record ms k_record m s d c h f = f.fields ms s d c h
    given_node k_tuple ms k_tuple m s d c h f = f.fields ms s d c h
    given_node k_variant ms k_variant m s d c h f = given_sum ms m s d c h f
    given_node k_option ms k_option m s d c h f = given_sum ms m s d c h f
    given_node k_result ms k_result m s d c h f = given_sum ms m s d c h f
    given_node k_enum ms k_enum m s d c h f = given_read tr.debug tr.from (case_bytes ms) s (λ n. given_unless InvalidDiscriminant (nat_lt n (count_of_members ms)) (given_write tr.to (case_bytes ns) d n h))
    given_node k_flags ms k_flags m s d c h f = given_number (flags_bytes ms) (flags_bytes ns) _ s d (one_word d (length-replicate _ _ ∙ c) h)
      where
        one_word : (d : Target) {n : ℕ} → n ≡ 1 → HasSlots d n → HasSlots d 1
        one_word d e h = subst (HasSlots d) e h
    given_node k_list ms k_list m s d c h f = given_list ms ns m s d h
    given_node k_map ms k_map m s d c h f = given_list ms ns m s d h
    given_node (k_fixed i) ms (k_fixed j) m s d c h f = fixed d h
      where
        fixed : (d : Target) → HasSlots d (length (times j (flat_members (width_of_side tr.to) ns))) → Gives (Fills d) (move_fixed tr j ms ns (m.fields ms) s d)
        fixed (Slots ts) h =
            let a = (entry_extent tr.from ms).size in
            let b = (entry_extent tr.to ns).size in
            subst (λ first. Gives (FillsBehind first (Slots ts)) (move_fixed tr j ms ns (m.fields ms) s (Slots ts))) (let e : 0 * all ns ≡ 0 = omega arith in e)
            (given_each (all ns) b 0 j (Slots ts) (λ x. m.fields ms (nth_part (element_flats tr.from ms) a x s) (nth_spot (all ns) b x (Slots ts))) (h.0 ∙ length_times j (flat_members (width_of_side tr.to) ns), h.1)
            (λ x r. f.fields ms (nth_part (element_flats tr.from ms) a x s) (nth_spot (all ns) b x (Slots ts)) c r))
        fixed (Into a) h = gives_any (λ vs. tt) (move_fixed tr j ms ns (m.fields ms) s (Into a))
    given_node (k_future t i) ms (k_future u j) m s d c h f = given_handle import.FutureTransfer t u s d h
    given_node (k_stream t i) ms (k_stream u j) m s d c h f = given_handle import.StreamTransfer t u s d h
    given_node k ms l m s d c h f = stops

    given_to_node : (t : Shape) (l : Kind) (m : MovingMembers) (s : Source) (d : Target) → CanFillNode t l ns CanFields CanCase → HasSlots d (length (flat (width_of_side tr.to) (s_node l ns))) → FillMembers ns m CanFields CanCase → Gives (Fills d) (move_to_node tr t l ns m s d)
    given_to_node (s_plain t) l m s d c h f = stops
    given_to_node (s_node k ms) l m s d c h f = visits _ (given_node k ms l m s d c h f)

  given_field : (o : Option Field) (k : Field → Action (List CoreValue)) {P : List CoreValue → Type 0} {Can : Field → Type 0} → Where o Can → ((f : Field) → Can f → Gives P (k f)) → Gives P (with_field o k)
  given_field None k c h = stops
  given_field (Some f) k c h = h f c

  given_chosen : (b : Bool) {X Y : Type 0} {P : List CoreValue → Type 0} {q r : Action (List CoreValue)} → chosen b X Y → (X → Gives P q) → (Y → Gives P r) → Gives P (if b then q else r)
  given_chosen true c h g = h c
  given_chosen false c h g = g c

  mutual
    unfolding move

    given_move : (t u : Shape) (s : Source) (d : Target) → CanFill t u → HasSlots d (length (flat (width_of_side tr.to) u)) → Gives (Fills d) (move tr t u s d)
    given_move t (s_plain u) s d c h = given_aligned t (s_plain u) s d (visits 1 (given_to_plain t u s d c h))
    given_move t (s_node l ns) s d c h =
        given_aligned t (s_node l ns) s d
        (given_to_node t l _ s d c h (record { fields = λ ms s' d' c' h'. given_fields ms ns 0 s' d' c' h'; case = λ ms k s' d' c' h'. given_case ms ns k ns 0 s' d' c' (omega arith) h' }))

    given_fields : (ms ns : Members) (end : ℕ) (s : Source) (d : Target) → CanFillFields ms ns → HasSlots d (all ns) → Gives (Fills d) (move_fields tr ms ns end s d)
    given_fields ms no_members end s (Slots ts) c h = gives [] (none_left ts h.0)
    given_fields ms no_members end s (Into a) c h = gives [] tt
    given_fields ms (bare x ns) end s d c h = given_fields ms ns end s d c h
    given_fields ms (typed x u ns) end s d c h =
        let room : HasSlots d (flat_length tr.to u + all ns) = slots_as d (length-append (flat (width_of_side tr.to) u) (flat_members (width_of_side tr.to) ns)) h in
        given_field (field_of x ms) _ c.0 (λ f c'.
        gives_then (given_move f.shape u _ (spot tr.to u end d) c' (slots_spot tr.to u end (all ns) d room)) (λ vs v.
        gives_then (given_fields ms ns _ s (past tr.to u d) c.1 (slots_past tr.to u (all ns) d room)) (λ us w. gives (vs ++ us) (fills_on tr.to u end d vs us v w))))

    given_case : (ms whole : Members) (k : CaseType) (ns : Members) (n : ℕ) (s : Source) (d : Target) → CanFillCase k ns → any ns ≤ any whole → HasSlots d (suc (any whole)) → Gives (Fills d) (move_case tr ms whole k ns n s d)
    given_case ms whole k no_members n s d c le h = stops
    given_case ms whole k (bare x ns) n s d c le h =
        given_chosen (bytes_eq x k.name) c (λ e. none_case k.payload) (λ e. given_case ms whole k ns (suc n) s d e le h)
      where
        none_case : (o : Option Shape) → Gives (Fills d) (write_case tr ms whole s d n o None (λ p s' d'. Unreachable))
        none_case None = given_write_case ms whole s d n None None (λ p s' d'. Unreachable) (any whole) h tt tt
        none_case (Some p) = stops
    given_case ms whole k (typed x u ns) n s d c le h =
        let left = joined_left (flat (width_of_side tr.to) u) (flat_any (width_of_side tr.to) ns) in
        let right = joined_right (flat (width_of_side tr.to) u) (flat_any (width_of_side tr.to) ns) in
        given_chosen (bytes_eq x k.name) c
        (λ e. by_payload k.payload e (omega (arith, left, le)) (λ p e' s' d' r. given_move p u s' d' e' r))
        (λ e. given_case ms whole k ns (suc n) s d e (omega (arith, right, le)) h)
      where
        by_payload : (o : Option Shape) → Where o (λ p. CanFill p u) → flat_length tr.to u ≤ any whole → ((p : Shape) → CanFill p u → (s' : Source) (d' : Target) → HasSlots d' (flat_length tr.to u) → Gives (Fills d') (move tr p u s' d'))
            → Gives (Fills d) (write_case tr ms whole s d n o (Some u) (λ p s' d'. move tr p u s' d'))
        by_payload None e fits m = stops
        by_payload (Some p) e fits m = given_write_case ms whole s d n (Some p) (Some u) (λ p s' d'. move tr p u s' d') (any whole) h fits (λ s' d' r. m p e s' d' r)

-- ---- runs

-- an end that gives what holds
record EndGives {A : Type 0} (P : A → Type 0) (e : Ended A) : Type 0 where
  by : IfGiven P e

module _ {A : Type 0} {P : A → Type 0} where
  end_heavier : (n : ℕ) (e : Ended A) → EndGives P e → EndGives P (heavier n e)
  end_heavier n (Gave m cs a w) h = record { by = h.by }
  end_heavier n (Halted m cs s w) h = record { by = tt }
  end_heavier n (Strayed m cs w) h = record { by = tt }

  end_later : (cs : List Call) (e : Ended A) → EndGives P e → EndGives P (later cs e)
  end_later cs (Gave m ds a w) h = record { by = h.by }
  end_later cs (Halted m ds s w) h = record { by = tt }
  end_later cs (Strayed m ds w) h = record { by = tt }

  end_there : {X : Type 0} (w : World) (o : Option X) {f : X → Ended A} → ((x : X) → EndGives P (f x)) → EndGives P (or_strayed w o f)
  end_there w None h = record { by = tt }
  end_there w (Some a) h = h a

  end_done : {X : Type 0} (r : Res X) {f : X → World → Ended A} → ((x : X) (w : World) → EndGives P (f x w)) → EndGives P (ended r f)
  end_done (Done a w) h = h a w
  end_done (Halt s w) h = record { by = tt }

  end_typed : (b : Bool) (w : World) {e : Ended A} → EndGives P e → EndGives P (if_typed b w e)
  end_typed true w h = h
  end_typed false w h = record { by = tt }

  given_run : (p : ImportPlaces) {q : Action A} → Gives P q → (w : World) → EndGives P (run p q w)
  given_run p (gives a h) w = record { by = h }
  given_run p (visits n {q = q} c) w = end_heavier n (run p q w) (given_run p c w)
  given_run p (reads n m a c) w = end_there w (slice_get w.state.memories (p.memory m)) (λ bytes. end_done (read n bytes a w) (λ x w'. given_run p (c x) w'))
  given_run p (writes n m a x c) w = end_there w (slice_get w.state.memories (p.memory m)) (λ bytes. end_done (write n (p.memory m) bytes a x w) (λ u w'. given_run p c w'))
  given_run p (lengths m c) w = end_there w (slice_get w.state.memories (p.memory m)) (λ bytes. given_run p (c (length bytes)) w)
  given_run p (gets i c) w = end_there w (slice_get w.state.globals (p.flags i)) (λ v. end_there w (i32_of v) (λ n. given_run p (c n) w))
  given_run p (sets i x c) w = end_there w (slice_get w.state.globals (p.flags i)) (λ v. given_run p c (set_global (p.flags i) (I32 x) w))
  given_run p (asks i args ts c) w = end_later (call_of i args w.state w.answers) _ (end_done (outside (p.function i) args w) (λ rs w'. end_typed (is_answer p ts w.state rs w'.state) w' (given_run p (c rs) w')))
  given_run p stops w = record { by = tt }

pub moves_fill_slots : MovesFillSlots
moves_fill_slots tr t u s ts p w c n h = (given_run p (given_move tr t u s (Slots ts) c (h, n)) w).by
