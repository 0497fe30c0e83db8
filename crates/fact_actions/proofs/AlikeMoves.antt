-- A move out of the same numbers in other core values, or into slots of other types, is alike.
use Rattle.std.proofs.Common.{◌≡◌, ℕ, zero, suc, ◌+◌, ◌*◌, Bool, true, false, List, [], ◌∷◌, ◌++◌, map, length, Option, Some, None, refl, sym, ap, ◌∙◌, subst}
use Rattle.std.specs.Prelude.{nat_eq, nat_le, nat_lt, take, drop, ◌%◌, ◌^◌, if◌then◌else◌}
use Rattle.std.specs.List.{AllByRecursion}
use Rattle.std.specs.Str.{bytes_eq}
use Rattle.std.proofs.lemmas.List.{take-map, drop-map, map-append, length-map}
use Rattle.fact_wasm.specs.declared.types.ValType.{ValType}
use Rattle.fact_wasm.specs.declared.types.ValType.TheVariants as val
use Rattle.fact_types.specs.declared.import.Import.{Import}
use Rattle.fact_types.specs.declared.import.Import.TheVariants as import
use Rattle.fact_types.specs.declared.interface.InterfaceType.{InterfaceType}
use Rattle.fact_types.specs.declared.interface.InterfaceType.TheVariants as ty
use Rattle.fact_types.specs.declared.outside.CoreDef.{CoreDef}
use Rattle.fact_types.specs.declared.outside.Trap.{Trap as Reason}
use Rattle.fact_types.specs.declared.outside.Trap.TheVariants.{ListOutOfBounds, StringOutOfBounds, InvalidChar, InvalidDiscriminant, DebugAssertUpperBitsUnset}
use Rattle.fact_types.specs.Fields.{Field, field_of}
use Rattle.fact_types.specs.Shapes.{Kind, k_record, k_variant, k_list, k_tuple, k_map, k_flags, k_enum, k_option, k_result, k_fixed, k_future, k_stream, Shape, s_plain, s_node, Members, no_members, bare, typed, place_of}
use Rattle.fact_machine.specs.declared.types.CoreValue.{CoreValue}
use Rattle.fact_machine.specs.declared.types.CoreValue.TheVariants.{I32, I64, F32, F64, Func}
use Rattle.fact_machine.specs.Typed.{is_bits}
use Rattle.fact_machine.specs.Typing.{is_number}
use Rattle.fact_values.specs.Lift.{bits_of}
use Rattle.fact_values.specs.Limits.{CaseType, case_type}
use Rattle.fact_values.specs.Numbers.{is_scalar_value}
use Rattle.fact_values.specs.Places.{count_of_members, case_bytes, flags_bytes}
use Rattle.fact_actions.specs.Actions.{Action, Ask, Unreachable, ◌>>=◌, trap, unless, each_from, each}
use Rattle.fact_actions.specs.Alike.{as_i64, IsSourceInRange, source_as_i64, AreSlotsAlike, AreTargetsAlike, HaveSameBits}
use Rattle.fact_actions.specs.Moves.{MovingMembers, part, spot, past, payload_part, payload_spot, padded, entry_extent, element_flats, canonical_number, plain_size, aligned_source, aligned_target, aligned_node, move_number, move_char, move_handle, write_case, move_list, move_fixed, move_plain, move_to_plain, move_sum, move_node, move_to_node, with_field, move, move_fields, move_case}
use Rattle.fact_actions.specs.Sides.{LiftLowerOptions, Transfer, Source, Values, AtAddress, Target, Slots, Into, width_of_side, address_value, type_of_addresses, get_slots, set_slots, first_bits, core_value, zeros, low_half, in_value, read_number, write_number, nth_part, nth_spot, bytes_of_addresses, read_pair, write_pair, check_region, reallocate}
use Rattle.fact_actions.specs.Strings.{move_string}
use Rattle.fact_actions.proofs.Alike.{Alike, gives, visits, reads, lengths, asks, stops, alike_same, alike_bind, alike_trap, alike_unless, alike_if, alike_memory}

abbrev Bits : List CoreValue → List CoreValue → Type 0
Bits vs us = HaveSameBits vs us

abbrev AreBits : List CoreValue → Type 0
AreBits vs = AllByRecursion (λ v. is_bits v ≡ true) vs

-- ---- sources

bits_take : (n : ℕ) (vs : List CoreValue) → AreBits vs → AreBits (take n vs)
bits_take zero vs h = tt
bits_take (suc n) [] h = tt
bits_take (suc n) (v ∷ vs) h = (h.0, bits_take n vs h.1)

bits_drop : (n : ℕ) (vs : List CoreValue) → AreBits vs → AreBits (drop n vs)
bits_drop zero vs h = h
bits_drop (suc n) [] h = tt
bits_drop (suc n) (v ∷ vs) h = bits_drop n vs h.1

parts_as_i64 : (n k : ℕ) (vs : List CoreValue) → take n (drop k (map as_i64 vs)) ≡ map as_i64 (take n (drop k vs))
parts_as_i64 n k vs = ap (take n) (drop-map as_i64 k vs) ∙ take-map as_i64 n (drop k vs)

-- A source, and the one that stands for it.
record IsAsI64 (s s' : Source) : Type 0 where
  within : IsSourceInRange s
  is : s' ≡ source_as_i64 s

part_as_i64 : (o : LiftLowerOptions) (f : Field) (s : Source) → IsSourceInRange s → IsAsI64 (part o f s) (part o f (source_as_i64 s))
part_as_i64 o f (Values vs) h = record { within = bits_take _ (drop f.flat_place vs) (bits_drop f.flat_place vs h); is = ap Values (parts_as_i64 _ f.flat_place vs) }
part_as_i64 o f (AtAddress a) h = record { within = tt; is = refl }

payload_as_i64 : (o : LiftLowerOptions) (t : Shape) (offset : ℕ) (s : Source) → IsSourceInRange s → IsAsI64 (payload_part o t offset s) (payload_part o t offset (source_as_i64 s))
payload_as_i64 o t offset (Values vs) h = record { within = bits_take _ (drop 1 vs) (bits_drop 1 vs h); is = ap Values (parts_as_i64 _ 1 vs) }
payload_as_i64 o t offset (AtAddress a) h = record { within = tt; is = refl }

nth_as_i64 : (flats bytes n : ℕ) (s : Source) → IsSourceInRange s → IsAsI64 (nth_part flats bytes n s) (nth_part flats bytes n (source_as_i64 s))
nth_as_i64 flats bytes n (Values vs) h = record { within = bits_take _ (drop (n * flats) vs) (bits_drop (n * flats) vs h); is = ap Values (parts_as_i64 _ (n * flats) vs) }
nth_as_i64 flats bytes n (AtAddress a) h = record { within = tt; is = refl }

module _ {A B : Type 0} {R : A → B → Type 0} where
  alike_low : (debug : Bool) (v : CoreValue) → is_bits v ≡ true → {k : ℕ → Action A} {l : ℕ → Action B} → ((n : ℕ) → Alike R (k n) (l n)) → Alike R (low_half debug v k) (low_half debug (as_i64 v) l)
  alike_low true (I64 n) h e = alike_unless DebugAssertUpperBitsUnset (nat_lt n (2 ^ 32)) (e _)
  alike_low true (F64 n) h e = alike_unless DebugAssertUpperBitsUnset (nat_lt n (2 ^ 32)) (e _)
  alike_low true (I32 n) h {k} {l} e = subst (λ b. Alike R (k (n % 2 ^ 32)) (unless DebugAssertUpperBitsUnset b (l (n % 2 ^ 32)))) (sym h) (e _)
  alike_low true (F32 n) h {k} {l} e = subst (λ b. Alike R (k (n % 2 ^ 32)) (unless DebugAssertUpperBitsUnset b (l (n % 2 ^ 32)))) (sym h) (e _)
  alike_low true (Func f) h e = e _
  alike_low false v h e = e _

  alike_in : (debug : Bool) (size : ℕ) (vs : List CoreValue) → AreBits vs → {k : ℕ → Action A} {l : ℕ → Action B} → ((n : ℕ) → Alike R (k n) (l n)) → Alike R (in_value debug size vs k) (in_value debug size (map as_i64 vs) l)
  alike_in debug size [] h e = stops
  alike_in debug size (v ∷ vs) h {k} {l} e = by_size (nat_eq size 8)
    where
      by_size : (b : Bool) → Alike R (if b then k (bits_of v) else low_half debug v k) (if b then l (bits_of v) else low_half debug (as_i64 v) l)
      by_size true = e _
      by_size false = alike_low debug v h.0 e

  alike_number : (debug : Bool) (o : LiftLowerOptions) (size : ℕ) (s : Source) → IsSourceInRange s → {k : ℕ → Action A} {l : ℕ → Action B} → ((n : ℕ) → Alike R (k n) (l n)) → Alike R (read_number debug o size s k) (read_number debug o size (source_as_i64 s) l)
  alike_number debug o size (Values vs) h e = alike_in debug size vs h e
  alike_number debug o size (AtAddress a) h e = alike_memory o (λ m. reads size m.def a e)

  alike_read : (debug : Bool) (o : LiftLowerOptions) (size : ℕ) {s s' : Source} → IsAsI64 s s' → {k : ℕ → Action A} {l : ℕ → Action B} → ((n : ℕ) → Alike R (k n) (l n)) → Alike R (read_number debug o size s k) (read_number debug o size s' l)
  alike_read debug o size {s} {s'} h {k} {l} e = subst (λ x. Alike R (read_number debug o size s k) (read_number debug o size x l)) (sym h.is) (alike_number debug o size s h.within e)

  alike_pair : (debug : Bool) (o : LiftLowerOptions) (s : Source) → IsSourceInRange s → {k : ℕ → ℕ → Action A} {l : ℕ → ℕ → Action B} → ((p n : ℕ) → Alike R (k p n) (l p n)) → Alike R (read_pair debug o s k) (read_pair debug o (source_as_i64 s) l)
  alike_pair debug o s h e =
      alike_read debug o (bytes_of_addresses o) (nth_as_i64 1 (bytes_of_addresses o) 0 s h) (λ p.
      alike_read debug o (bytes_of_addresses o) (nth_as_i64 1 (bytes_of_addresses o) 1 s h) (λ n. e p n))

-- ---- targets

bits_of_value : (t : ValType) (n : ℕ) → is_number t ≡ true → bits_of (core_value t n) ≡ n
bits_of_value val.I32 n h = refl
bits_of_value val.I64 n h = refl
bits_of_value val.F32 n h = refl
bits_of_value val.F64 n h = refl
bits_of_value val.FuncRef n h = cc

alike_take : (n : ℕ) (ts us : List ValType) → AreSlotsAlike ts us → AreSlotsAlike (take n ts) (take n us)
alike_take zero ts us h = tt
alike_take (suc n) [] [] h = tt
alike_take (suc n) [] (u ∷ us) h = absurd h
alike_take (suc n) (t ∷ ts) [] h = absurd h
alike_take (suc n) (t ∷ ts) (u ∷ us) h = (h.0, alike_take n ts us h.1)

alike_drop : (n : ℕ) (ts us : List ValType) → AreSlotsAlike ts us → AreSlotsAlike (drop n ts) (drop n us)
alike_drop zero ts us h = h
alike_drop (suc n) [] [] h = tt
alike_drop (suc n) [] (u ∷ us) h = absurd h
alike_drop (suc n) (t ∷ ts) [] h = absurd h
alike_drop (suc n) (t ∷ ts) (u ∷ us) h = alike_drop n ts us h.1

bits_on : (vs vs' us us' : List CoreValue) → Bits vs vs' → Bits us us' → Bits (vs ++ us) (vs' ++ us')
bits_on vs vs' us us' h g = map-append bits_of vs us ∙ ap (λ l. l ++ map bits_of us) h ∙ ap (λ l. map bits_of vs' ++ l) g ∙ sym (map-append bits_of vs' us')

bits_of_zeros : (ts us : List ValType) → AreSlotsAlike ts us → Bits (zeros ts) (zeros us)
bits_of_zeros [] [] h = refl
bits_of_zeros [] (u ∷ us) h = absurd h
bits_of_zeros (t ∷ ts) [] h = absurd h
bits_of_zeros (t ∷ ts) (u ∷ us) h = ap (λ n. n ∷ map bits_of (zeros ts)) (bits_of_value t 0 h.0.0 ∙ sym (bits_of_value u 0 h.0.1)) ∙ ap (λ l. bits_of (core_value u 0) ∷ l) (bits_of_zeros ts us h.1)

same_length : (vs us : List CoreValue) → Bits vs us → length vs ≡ length us
same_length vs us h = sym (length-map vs bits_of) ∙ ap length h ∙ length-map us bits_of

padded_alike : (d e : Target) (vs us : List CoreValue) → AreTargetsAlike d e → Bits vs us → Bits (padded d vs) (padded e us)
padded_alike (Slots ts) (Slots fs) vs us h b =
    bits_on vs us (zeros (drop (length vs) ts)) (zeros (drop (length us) fs)) b
    (subst (λ n. Bits (zeros (drop (length vs) ts)) (zeros (drop n fs))) (same_length vs us b) (bits_of_zeros (drop (length vs) ts) (drop (length vs) fs) (alike_drop (length vs) ts fs h)))
padded_alike (Into a) (Into x) vs us h b = b
padded_alike (Slots ts) (Into x) vs us h b = absurd h
padded_alike (Into a) (Slots fs) vs us h b = absurd h

spot_alike : (o : LiftLowerOptions) (t : Shape) (end : ℕ) (d e : Target) → AreTargetsAlike d e → AreTargetsAlike (spot o t end d) (spot o t end e)
spot_alike o t end (Slots ts) (Slots us) h = alike_take _ ts us h
spot_alike o t end (Into a) (Into b) h = ap (λ x. x + place_of (width_of_side o) t end) h
spot_alike o t end (Slots ts) (Into b) h = absurd h
spot_alike o t end (Into a) (Slots us) h = absurd h

past_alike : (o : LiftLowerOptions) (t : Shape) (d e : Target) → AreTargetsAlike d e → AreTargetsAlike (past o t d) (past o t e)
past_alike o t (Slots ts) (Slots us) h = alike_drop _ ts us h
past_alike o t (Into a) (Into b) h = h
past_alike o t (Slots ts) (Into b) h = absurd h
past_alike o t (Into a) (Slots us) h = absurd h

payload_alike : (o : LiftLowerOptions) (t : Shape) (offset : ℕ) (d e : Target) → AreTargetsAlike d e → AreTargetsAlike (payload_spot o t offset d) (payload_spot o t offset e)
payload_alike o t offset (Slots ts) (Slots us) h = alike_take _ (drop 1 ts) (drop 1 us) (alike_drop 1 ts us h)
payload_alike o t offset (Into a) (Into b) h = ap (λ x. x + offset) h
payload_alike o t offset (Slots ts) (Into b) h = absurd h
payload_alike o t offset (Into a) (Slots us) h = absurd h

nth_alike : (flats bytes n : ℕ) (d e : Target) → AreTargetsAlike d e → AreTargetsAlike (nth_spot flats bytes n d) (nth_spot flats bytes n e)
nth_alike flats bytes n (Slots ts) (Slots us) h = alike_take _ (drop (n * flats) ts) (drop (n * flats) us) (alike_drop (n * flats) ts us h)
nth_alike flats bytes n (Into a) (Into b) h = ap (λ x. x + n * bytes) h
nth_alike flats bytes n (Slots ts) (Into b) h = absurd h
nth_alike flats bytes n (Into a) (Slots us) h = absurd h

alike_write : (o : LiftLowerOptions) (size : ℕ) (d e : Target) (n : ℕ) → AreTargetsAlike d e → Alike Bits (write_number o size d n) (write_number o size e n)
alike_write o size (Slots []) (Slots []) n h = gives [] [] refl
alike_write o size (Slots []) (Slots (u ∷ us)) n h = absurd h
alike_write o size (Slots []) (Into b) n h = absurd h
alike_write o size (Slots (t ∷ ts)) (Slots []) n h = absurd h
alike_write o size (Slots (t ∷ ts)) (Into b) n h = absurd h
alike_write o size (Into a) (Slots us) n h = absurd h
alike_write o size (Slots (t ∷ ts)) (Slots (u ∷ us)) n h = gives _ _ (ap (λ x. x ∷ []) (bits_of_value t n h.0.0 ∙ sym (bits_of_value u n h.0.1)))
alike_write o size (Into a) (Into b) n h = subst (λ x. Alike Bits (write_number o size (Into a) n) (write_number o size (Into x) n)) h (alike_same (λ vs. refl) (write_number o size (Into a) n))

alike_write_pair : (o : LiftLowerOptions) (d e : Target) (p n : ℕ) → AreTargetsAlike d e → Alike Bits (write_pair o d p n) (write_pair o e p n)
alike_write_pair o d e p n h =
    alike_bind (alike_write o _ _ _ p (nth_alike 1 _ 0 d e h)) (λ vs us b.
    alike_bind (alike_write o _ _ _ n (nth_alike 1 _ 1 d e h)) (λ vs' us' b'. gives _ _ (bits_on vs us vs' us' b b')))

-- ---- what is not in core values

-- The same action, and what comes behind it is alike.
alike_behind : {A C D : Type 0} {R : C → D → Type 0} (q : Action A) (f : A → Action C) (g : A → Action D) → ((a : A) → Alike R (f a) (g a)) → Alike R (q >>= f) (q >>= g)
alike_behind {R} q f g h = alike_bind (alike_same {R = λ x y. x ≡ y} (λ a. refl) q) (λ a b e. subst (λ x. Alike R (f a) (g x)) e (h a))

alike_region : {A B : Type 0} {R : A → B → Type 0} (o : LiftLowerOptions) (t : Reason) (p bytes align : ℕ) {q : Action A} {r : Action B} → Alike R q r → Alike R (check_region o t p bytes align q) (check_region o t p bytes align r)
alike_region o t p bytes align h = alike_unless _ (nat_eq (p % align) 0) (alike_memory o (λ m. lengths m.def (λ length. alike_unless t (nat_le (p + bytes) length) h)))

alike_slots : {A B : Type 0} {R : A → B → Type 0} (b : Bool) {k : List CoreValue → List CoreValue → Action A} {l : List CoreValue → List CoreValue → Action B} → ((x y : List CoreValue) → Alike R (k x y) (l x y)) → Alike R (get_slots b k) (get_slots b l)
alike_slots false h = h [] []
alike_slots true h = asks _ [] _ (λ x. asks _ [] _ (λ y. h x y))

alike_slots_set : {A B : Type 0} {R : A → B → Type 0} (b : Bool) (x y : List CoreValue) {q : Action A} {r : Action B} → Alike R q r → Alike R (set_slots b x y q) (set_slots b x y r)
alike_slots_set false x y h = h
alike_slots_set true x y h = asks _ x [] (λ a. asks _ y [] (λ b. h))

alike_realloc : {A B : Type 0} {R : A → B → Type 0} (concurrency : Bool) (o : LiftLowerOptions) (t : Reason) (old old_size align new_size : ℕ) {k : ℕ → Action A} {l : ℕ → Action B}
    → ((q : ℕ) → Alike R (k q) (l q)) → Alike R (reallocate concurrency o t old old_size align new_size k) (reallocate concurrency o t old old_size align new_size l)
alike_realloc {A} {B} {R} concurrency o t old old_size align new_size {k} {l} h = by_realloc o.realloc
  where
    by_realloc : (f : Option CoreDef) → Alike R (elim f [
      | None ↦ Unreachable
      | Some f ↦
          get_slots concurrency (λ a b. set_slots concurrency (I32 0 ∷ []) (I32 0 ∷ [])
          (Ask (import.CoreDef f) (address_value o old ∷ address_value o old_size ∷ address_value o align ∷ address_value o new_size ∷ []) (type_of_addresses o ∷ []) (λ rs.
          set_slots concurrency a b (check_region o t (first_bits rs) new_size align (k (first_bits rs))))))
    ]) (elim f [
      | None ↦ Unreachable
      | Some f ↦
          get_slots concurrency (λ a b. set_slots concurrency (I32 0 ∷ []) (I32 0 ∷ [])
          (Ask (import.CoreDef f) (address_value o old ∷ address_value o old_size ∷ address_value o align ∷ address_value o new_size ∷ []) (type_of_addresses o ∷ []) (λ rs.
          set_slots concurrency a b (check_region o t (first_bits rs) new_size align (l (first_bits rs))))))
    ])
    by_realloc None = stops
    by_realloc (Some f) =
        alike_slots concurrency (λ x y. alike_slots_set concurrency (I32 0 ∷ []) (I32 0 ∷ []) (asks _ _ _ (λ rs. alike_slots_set concurrency x y (alike_region o t (first_bits rs) new_size align (h (first_bits rs))))))

alike_each : (i n : ℕ) (f g : ℕ → Action (List CoreValue)) → ((j : ℕ) → Alike Bits (f j) (g j)) → Alike Bits (each_from i n f) (each_from i n g)
alike_each i zero f g h = gives [] [] refl
alike_each i (suc n) f g h = alike_bind (h i) (λ xs us b. alike_bind (alike_each (suc i) n f g h) (λ ys vs b'. gives _ _ (bits_on xs us ys vs b b')))

-- ---- all types

module _ (tr : Transfer) where
  abbrev Moves : Action (List CoreValue) → Action (List CoreValue) → Type 0
  Moves q r = Alike Bits q r

  alike_text : (s : Source) (d e : Target) → IsSourceInRange s → AreTargetsAlike d e → Moves (move_string tr s d) (move_string tr (source_as_i64 s) e)
  alike_text s d e h g = alike_pair tr.debug tr.from s h (λ p n. alike_region tr.from StringOutOfBounds p _ _ (alike_behind _ _ _ (λ v. alike_write_pair tr.to d e v.region v.written g)))

  alike_move_number : (size size' : ℕ) (f : ℕ → ℕ) (s : Source) (d e : Target) → IsSourceInRange s → AreTargetsAlike d e → Moves (move_number tr size size' f s d) (move_number tr size size' f (source_as_i64 s) e)
  alike_move_number size size' f s d e h g = alike_number tr.debug tr.from size s h (λ n. alike_write tr.to size' d e (f n) g)

  alike_char : (s : Source) (d e : Target) → IsSourceInRange s → AreTargetsAlike d e → Moves (move_char tr s d) (move_char tr (source_as_i64 s) e)
  alike_char s d e h g = alike_number tr.debug tr.from 4 s h (λ n. alike_unless InvalidChar (is_scalar_value n) (alike_write tr.to 4 d e n g))

  alike_handle : (i : Import) (t u : ℕ) (s : Source) (d e : Target) → IsSourceInRange s → AreTargetsAlike d e → Moves (move_handle tr i t u s d) (move_handle tr i t u (source_as_i64 s) e)
  alike_handle i t u s d e h g = alike_number tr.debug tr.from 4 s h (λ n. asks i _ _ (λ rs. alike_write tr.to 4 d e (first_bits rs) g))

  alike_plain : (t u : InterfaceType) (s : Source) (d e : Target) → IsSourceInRange s → AreTargetsAlike d e → Moves (move_plain tr t u s d) (move_plain tr t u (source_as_i64 s) e)
  alike_plain ty.Char ty.Char s d e h g = alike_char s d e h g
  alike_plain ty.String ty.String s d e h g = alike_text s d e h g
  alike_plain (ty.Own i) (ty.Own j) s d e h g = alike_handle import.ResourceTransferOwn i.number j.number s d e h g
  alike_plain (ty.Borrow i) (ty.Borrow j) s d e h g = alike_handle import.ResourceTransferBorrow i.number j.number s d e h g
  alike_plain (ty.ErrorContext i) (ty.ErrorContext j) s d e h g = alike_handle import.ErrorContextTransfer i.number j.number s d e h g
  alike_plain t u s d e h g = alike_move_number (plain_size t) (plain_size u) (canonical_number t) s d e h g

  alike_to_plain : (t : Shape) (u : InterfaceType) (s : Source) (d e : Target) → IsSourceInRange s → AreTargetsAlike d e → Moves (move_to_plain tr t u s d) (move_to_plain tr t u (source_as_i64 s) e)
  alike_to_plain (s_plain t) u s d e h g = alike_plain t u s d e h g
  alike_to_plain (s_node k ms) u s d e h g = stops

  -- ---- nodes

  source_alike : (debug : Bool) (t : Shape) (s : Source) {q r : Action (List CoreValue)} → Moves q r → Moves (aligned_source debug tr.from t s q) (aligned_source debug tr.from t (source_as_i64 s) r)
  source_alike true t (Values vs) h = h
  source_alike true t (AtAddress a) h = alike_unless _ _ h
  source_alike false t s h = h

  target_alike : (debug : Bool) (u : Shape) (d e : Target) {q r : Action (List CoreValue)} → AreTargetsAlike d e → Moves q r → Moves (aligned_target debug tr.to u d q) (aligned_target debug tr.to u e r)
  target_alike true u (Slots ts) (Slots us) g h = h
  target_alike true u (Into a) (Into b) {q} {r} g h = subst (λ x. Moves (aligned_target true tr.to u (Into a) q) (aligned_target true tr.to u (Into x) r)) g (alike_unless _ _ h)
  target_alike true u (Slots ts) (Into b) g h = absurd g
  target_alike true u (Into a) (Slots us) g h = absurd g
  target_alike false u d e g h = h

  node_alike : (t u : Shape) (s : Source) (d e : Target) {q r : Action (List CoreValue)} → AreTargetsAlike d e → Moves q r → Moves (aligned_node tr t u s d q) (aligned_node tr t u (source_as_i64 s) e r)
  node_alike t u s d e g h = source_alike tr.debug t s (target_alike tr.debug u d e g h)

  alike_field : {k l : Field → Action (List CoreValue)} (o : Option Field) → ((f : Field) → Moves (k f) (l f)) → Moves (with_field o k) (with_field o l)
  alike_field None h = stops
  alike_field (Some f) h = h f

  -- how parts are moved out of the same numbers
  abbrev MovesParts : (Shape → Source → Target → Action (List CoreValue)) → Type 0
  MovesParts f = (t : Shape) (s : Source) (d e : Target) → IsSourceInRange s → AreTargetsAlike d e → Moves (f t s d) (f t (source_as_i64 s) e)

  at_as_i64 : {f : Shape → Source → Target → Action (List CoreValue)} → MovesParts f → (t : Shape) {s s' : Source} (d e : Target) → IsAsI64 s s' → AreTargetsAlike d e → Moves (f t s d) (f t s' e)
  at_as_i64 {f = f} h t {s = s} {s' = s'} d e w g = subst (λ x. Moves (f t s d) (f t x e)) (sym w.is) (h t s d e w.within g)

  alike_write_case : (ms ns : Members) (s : Source) (d e : Target) (n : ℕ) (p q : Option Shape) {f : Shape → Source → Target → Action (List CoreValue)} → IsSourceInRange s → AreTargetsAlike d e → MovesParts f
      → Moves (write_case tr ms ns s d n p q f) (write_case tr ms ns (source_as_i64 s) e n p q f)
  alike_write_case ms ns s d e n (Some p) (Some u) {f = f} h g m =
      alike_bind (alike_write tr.to (case_bytes ns) d e n g) (λ tag tag' b.
      alike_bind (at_as_i64 {f = f} m p _ _ (payload_as_i64 tr.from p _ s h) (payload_alike tr.to u _ d e g)) (λ vs us b'. gives _ _ (padded_alike d e (tag ++ vs) (tag' ++ us) g (bits_on tag tag' vs us b b'))))
  alike_write_case ms ns s d e n None None h g m = alike_bind (alike_write tr.to (case_bytes ns) d e n g) (λ tag tag' b. gives _ _ (padded_alike d e tag tag' g b))
  alike_write_case ms ns s d e n (Some p) None h g m = stops
  alike_write_case ms ns s d e n None (Some u) h g m = stops

  record MembersAlike (m : MovingMembers) : Type 0 where
    fields : (ms : Members) (s : Source) (d e : Target) → IsSourceInRange s → AreTargetsAlike d e → Moves (m.fields ms s d) (m.fields ms (source_as_i64 s) e)
    case : (ms : Members) (c : CaseType) (s : Source) (d e : Target) → IsSourceInRange s → AreTargetsAlike d e → Moves (m.case ms c s d) (m.case ms c (source_as_i64 s) e)

  alike_sum : (ms : Members) (m : MovingMembers) (s : Source) (d e : Target) → IsSourceInRange s → AreTargetsAlike d e → MembersAlike m → Moves (move_sum tr ms m s d) (move_sum tr ms m (source_as_i64 s) e)
  alike_sum ms m s d e h g a = alike_number tr.debug tr.from (case_bytes ms) s h (λ x. by_case (case_type ms x))
    where
      by_case : (o : Option CaseType) → Alike {A = List CoreValue} {B = List CoreValue} Bits (elim o [ None ↦ trap InvalidDiscriminant | Some c ↦ m.case ms c s d ]) (elim o [ None ↦ trap InvalidDiscriminant | Some c ↦ m.case ms c (source_as_i64 s) e ])
      by_case None = alike_trap InvalidDiscriminant
      by_case (Some c) = a.case ms c s d e h g

  alike_list : (ms ns : Members) (m : MovingMembers) (s : Source) (d e : Target) → IsSourceInRange s → AreTargetsAlike d e → Moves (move_list tr ms ns (m.fields ms) s d) (move_list tr ms ns (m.fields ms) (source_as_i64 s) e)
  alike_list ms ns m s d e h g =
      let a = entry_extent tr.from ms in
      let b = entry_extent tr.to ns in
      alike_pair tr.debug tr.from s h (λ p x.
      alike_unless ListOutOfBounds (nat_lt (x * a.size) (2 ^ 32)) (
      alike_unless ListOutOfBounds (nat_lt (x * b.size) (2 ^ 32)) (
      alike_region tr.from ListOutOfBounds p (x * a.size) a.align (
      alike_realloc tr.concurrency tr.to ListOutOfBounds 0 0 b.align (x * b.size) (λ q.
      alike_behind (each x (λ i. m.fields ms (AtAddress (p + i * a.size)) (Into (q + i * b.size)))) (λ vs. write_pair tr.to d q x) (λ vs. write_pair tr.to e q x) (λ vs. alike_write_pair tr.to d e q x g))))))

  alike_fixed : (j : ℕ) (ms ns : Members) (m : MovingMembers) (s : Source) (d e : Target) → IsSourceInRange s → AreTargetsAlike d e → MembersAlike m → Moves (move_fixed tr j ms ns (m.fields ms) s d) (move_fixed tr j ms ns (m.fields ms) (source_as_i64 s) e)
  alike_fixed j ms ns m s d e h g a =
      alike_each 0 j _ _ (λ i.
      at_as_i64 {f = λ t. m.fields ms} (λ t. a.fields ms) (s_plain ty.Bool) _ _ (nth_as_i64 (element_flats tr.from ms) _ i s h) (nth_alike (element_flats tr.to ns) _ i d e g))

  alike_node : (k : Kind) (ms : Members) (l : Kind) (ns : Members) (m : MovingMembers) (s : Source) (d e : Target) → IsSourceInRange s → AreTargetsAlike d e → MembersAlike m → Moves (move_node tr k ms l ns m s d) (move_node tr k ms l ns m (source_as_i64 s) e)
  alike_node k_record ms k_record ns m s d e h g a = a.fields ms s d e h g
  alike_node k_tuple ms k_tuple ns m s d e h g a = a.fields ms s d e h g
  alike_node k_variant ms k_variant ns m s d e h g a = alike_sum ms m s d e h g a
  alike_node k_option ms k_option ns m s d e h g a = alike_sum ms m s d e h g a
  alike_node k_result ms k_result ns m s d e h g a = alike_sum ms m s d e h g a
  alike_node k_enum ms k_enum ns m s d e h g a = alike_number tr.debug tr.from (case_bytes ms) s h (λ n. alike_unless InvalidDiscriminant (nat_lt n (count_of_members ms)) (alike_write tr.to (case_bytes ns) d e n g))
  alike_node k_flags ms k_flags ns m s d e h g a = alike_move_number (flags_bytes ms) (flags_bytes ns) _ s d e h g
  alike_node k_list ms k_list ns m s d e h g a = alike_list ms ns m s d e h g
  alike_node k_map ms k_map ns m s d e h g a = alike_list ms ns m s d e h g
  alike_node (k_fixed i) ms (k_fixed j) ns m s d e h g a = alike_fixed j ms ns m s d e h g a
  alike_node (k_future t i) ms (k_future u j) ns m s d e h g a = alike_handle import.FutureTransfer t u s d e h g
  alike_node (k_stream t i) ms (k_stream u j) ns m s d e h g a = alike_handle import.StreamTransfer t u s d e h g
  alike_node k ms l ns m s d e h g a = stops

  alike_to_node : (t : Shape) (l : Kind) (ns : Members) (m : MovingMembers) (s : Source) (d e : Target) → IsSourceInRange s → AreTargetsAlike d e → MembersAlike m → Moves (move_to_node tr t l ns m s d) (move_to_node tr t l ns m (source_as_i64 s) e)
  alike_to_node (s_plain t) l ns m s d e h g a = stops
  alike_to_node (s_node k ms) l ns m s d e h g a = visits _ (alike_node k ms l ns m s d e h g a)

  mutual
    unfolding move

    pub alike_move : (t u : Shape) (s : Source) (d e : Target) → IsSourceInRange s → AreTargetsAlike d e → Alike HaveSameBits (move tr t u s d) (move tr t u (source_as_i64 s) e)
    alike_move t (s_plain u) s d e h g = node_alike t (s_plain u) s d e g (visits 1 (alike_to_plain t u s d e h g))
    alike_move t (s_node l ns) s d e h g =
        node_alike t (s_node l ns) s d e g
        (alike_to_node t l ns _ s d e h g (record { fields = λ ms s' d' e' h' g'. alike_fields ms ns 0 s' d' e' h' g'; case = λ ms c s' d' e' h' g'. alike_case ms ns c ns 0 s' d' e' h' g' }))

    pub alike_fields : (ms ns : Members) (end : ℕ) (s : Source) (d e : Target) → IsSourceInRange s → AreTargetsAlike d e → Alike HaveSameBits (move_fields tr ms ns end s d) (move_fields tr ms ns end (source_as_i64 s) e)
    alike_fields ms no_members end s d e h g = gives [] [] refl
    alike_fields ms (bare x ns) end s d e h g = alike_fields ms ns end s d e h g
    alike_fields ms (typed x u ns) end s d e h g =
        alike_field (field_of x ms) (λ f.
        alike_bind (at_as_i64 {f = λ t s' d'. move tr f.shape u s' d'} (λ t s' d' e' h' g'. alike_move f.shape u s' d' e' h' g') f.shape _ _ (part_as_i64 tr.from f s h) (spot_alike tr.to u end d e g)) (λ vs us b.
        alike_bind (alike_fields ms ns _ s (past tr.to u d) (past tr.to u e) h (past_alike tr.to u d e g)) (λ vs' us' b'. gives _ _ (bits_on vs us vs' us' b b'))))

    pub alike_case : (ms all : Members) (c : CaseType) (ns : Members) (n : ℕ) (s : Source) (d e : Target) → IsSourceInRange s → AreTargetsAlike d e → Alike HaveSameBits (move_case tr ms all c ns n s d) (move_case tr ms all c ns n (source_as_i64 s) e)
    alike_case ms all c no_members n s d e h g = stops
    alike_case ms all c (bare x ns) n s d e h g = alike_if (bytes_eq x c.name) (alike_write_case ms all s d e n c.payload None h g (λ t s' d' e' h' g'. stops)) (alike_case ms all c ns (suc n) s d e h g)
    alike_case ms all c (typed x u ns) n s d e h g =
        alike_if (bytes_eq x c.name) (alike_write_case ms all s d e n c.payload (Some u) h g (λ t s' d' e' h' g'. alike_move t u s' d' e' h' g')) (alike_case ms all c ns (suc n) s d e h g)
