-- The memories of both sides from one answer to the next.
use Rattle.std.proofs.Common.{◌≡◌, ℕ, zero, suc, ◌/◌, ◌%◌, ◌^◌, ◌≤◌, ◌<◌, Bool, true, false, List, [], ◌∷◌, length, get_or, Option, Some, None, refl, sym, ap, ◌∙◌, subst, arith}
use Rattle.std.specs.Prelude.{slice_get, nat_eq, nat_lt, nat_le, ◌&&◌}
use Rattle.std.specs.List.{list_all}
use Rattle.std.proofs.lemmas.Bool.{false≢true, ltb-true, leb-true}
use Rattle.std.proofs.lemmas.Option.{get_or_from_slice_get}
use Rattle.fact_wasm.specs.declared.types.ValType.{ValType}
use Rattle.fact_types.proofs.ShapeLaws.{same_some, none_some}
use Rattle.fact_machine.specs.declared.types.CoreValue.{CoreValue}
use Rattle.fact_machine.specs.declared.types.CoreValue.TheVariants.{I32, I64, F32, F64, Func}
use Rattle.fact_machine.specs.declared.types.MachineState.{MachineState}
use Rattle.fact_machine.specs.Machine.{page_bytes}
use Rattle.fact_machine.specs.Typed.{is_value, are_values, is_memory, are_memories, fits_width, are_globals, is_grown}
use Rattle.fact_actions.specs.Running.{is_state, is_answer}
use Rattle.fact_actions.specs.Sides.{LiftLowerOptions, address_value, type_of_addresses, first_bits}
use Rattle.fact_types.specs.Adapters.{is_wide}
use Rattle.fact_machine.specs.Typing.{address_bits, address_operand}
use Rattle.fact_types.specs.Signatures.{address as pointer_type}
use Rattle.fact_values.specs.Lift.{bits_of}
use Rattle.fact_action_laws.specs.Regions.{TransferSetting, request_by}
use Rattle.fact_actions.specs.Calls.{side_memory}
use Rattle.fact_actions.proofs.States.{and_left, and_right}
use Rattle.fact_action_laws.proofs.Equipped.{IsEquipped}

-- ---- memories in a list

-- a memory is there still, no shorter, and no longer than addresses reach
record StaysAt (ns : List (List ℕ)) (i : ℕ) (wide : Bool) (bytes : List ℕ) : Type 0 where
  later : List ℕ
  there : slice_get ns i ≡ Some later
  longer : length bytes ≤ length later
  cap : length later ≤ 2 ^ address_bits wide

fits_cap : (wide : Bool) (bytes pages : ℕ) → fits_width wide bytes pages ≡ true → bytes ≤ 2 ^ address_bits wide
fits_cap true bytes pages h = let lt = ltb-true bytes (2 ^ 64) h in omega (arith, lt)
fits_cap false bytes pages h = leb-true bytes (2 ^ 32) (and_left (nat_le bytes (2 ^ 32)) (nat_lt pages (2 ^ 32)) h)

stays_at : (ks : List (Bool × Option ℕ)) (ms ns : List (List ℕ)) (i : ℕ) (wide : Bool) (page : Option ℕ) (bytes : List ℕ) → are_memories ks ns ≡ true → is_grown ms ns ≡ true
    → slice_get ks i ≡ Some (wide, page) → slice_get ms i ≡ Some bytes → StaysAt ns i wide bytes
stays_at ks [] ns i wide page bytes t g k e = absurd (none_some None bytes refl e)
stays_at ks (x ∷ ms) [] i wide page bytes t g k e = absurd (false≢true g)
stays_at [] (x ∷ ms) (y ∷ ns) i wide page bytes t g k e = absurd (false≢true t)
stays_at (kind ∷ ks) (x ∷ ms) (y ∷ ns) zero wide page bytes t g k e =
    let same : x ≡ bytes = same_some (Some x) x bytes refl e in
    let of_kind : kind ≡ (wide, page) = same_some (Some kind) kind (wide, page) refl k in
    let memory : is_memory kind.0 kind.1 y ≡ true = and_left (is_memory kind.0 kind.1 y) (are_memories ks ns) t in
    let fits : fits_width kind.0 (length y) (length y / page_bytes kind.1) ≡ true =
    and_right (nat_eq (length y % page_bytes kind.1) 0) (fits_width kind.0 (length y) (length y / page_bytes kind.1))
    (and_right (list_all (λ b. nat_lt b 256) y) (nat_eq (length y % page_bytes kind.1) 0 && fits_width kind.0 (length y) (length y / page_bytes kind.1)) memory) in
    record {
      later = y;
      there = refl;
      longer = subst (λ z. length z ≤ length y) same (leb-true (length x) (length y) (and_left (nat_le (length x) (length y)) (is_grown ms ns) g));
      cap = subst (λ b. length y ≤ 2 ^ address_bits b) (ap (λ k. k.0) of_kind) (fits_cap kind.0 (length y) (length y / page_bytes kind.1) fits);
    }
stays_at (kind ∷ ks) (x ∷ ms) (y ∷ ns) (suc i) wide page bytes t g k e =
    let r = stays_at ks ms ns i wide page bytes (and_right (is_memory kind.0 kind.1 y) (are_memories ks ns) t) (and_right (nat_le (length x) (length y)) (is_grown ms ns) g) k e in
    record { later = r.later; there = r.there; longer = r.longer; cap = r.cap }

-- a memory of a known kind is there
pub kind_there : (ks : List (Bool × Option ℕ)) (ms : List (List ℕ)) (i : ℕ) (k : Bool × Option ℕ) → are_memories ks ms ≡ true → slice_get ks i ≡ Some k → (x : List ℕ) × (slice_get ms i ≡ Some x)
kind_there [] ms i k t h = absurd (none_some None k refl h)
kind_there (y ∷ ks) [] i k t h = absurd (false≢true t)
kind_there (y ∷ ks) (m ∷ ms) zero k t h = (m, refl)
kind_there (y ∷ ks) (m ∷ ms) (suc i) k t h = kind_there ks ms i k (and_right (is_memory y.0 y.1 m) (are_memories ks ms) t) h

-- ---- the two sides

module _ {c : TransferSetting} (e : IsEquipped c) where
  abbrev pub from_bytes : MachineState → List ℕ
  from_bytes s = side_memory c.places c.transfer.from s

  abbrev pub to_bytes : MachineState → List ℕ
  to_bytes s = side_memory c.places c.transfer.to s

  pub record There (s : MachineState) : Type 0 where
    pub from : slice_get s.memories (c.places.memory e.from.def) ≡ Some (from_bytes s)
    pub to : slice_get s.memories (c.places.memory e.to.def) ≡ Some (to_bytes s)

  pub record Later (s s' : MachineState) : Type 0 where
    pub there : There s'
    pub from_longer : length (from_bytes s) ≤ length (from_bytes s')
    pub to_longer : length (to_bytes s) ≤ length (to_bytes s')
    pub from_cap : length (from_bytes s') ≤ 2 ^ address_bits (is_wide c.transfer.from.memory)
    pub to_cap : length (to_bytes s') ≤ 2 ^ address_bits (is_wide c.transfer.to.memory)

  pub from_are : (s : MachineState) → from_bytes s ≡ get_or s.memories (c.places.memory e.from.def) []
  from_are s = ap (λ o. elim o [ None ↦ [] | Some m ↦ get_or s.memories (c.places.memory m.def) [] ]) e.from_is

  to_are : (s : MachineState) → to_bytes s ≡ get_or s.memories (c.places.memory e.to.def) []
  to_are s = ap (λ o. elim o [ None ↦ [] | Some m ↦ get_or s.memories (c.places.memory m.def) [] ]) e.to_is

  from_wide : is_wide c.transfer.from.memory ≡ e.from.memory64
  from_wide = ap is_wide e.from_is

  to_wide : is_wide c.transfer.to.memory ≡ e.to.memory64
  to_wide = ap is_wide e.to_is

  pub typed_later : (ts : List ValType) (rs : List CoreValue) (s s' : MachineState) → There s → is_answer c.places ts s rs s' ≡ true → Later s s'
  typed_later ts rs s s' there typed =
      let both = and_right (are_values rs ts) (is_state c.places s' && is_grown s.memories s'.memories) typed in
      let grown : is_grown s.memories s'.memories ≡ true = and_right (is_state c.places s') (is_grown s.memories s'.memories) both in
      let state : is_state c.places s' ≡ true = and_left (is_state c.places s') (is_grown s.memories s'.memories) both in
      let ms : are_memories c.places.memory_types s'.memories ≡ true = and_left (are_memories c.places.memory_types s'.memories) (are_globals c.places.global_types s'.globals) state in
      let f = stays_at c.places.memory_types s.memories s'.memories (c.places.memory e.from.def) e.from.memory64 e.from_page (from_bytes s) ms grown e.from_known there.from in
      let t = stays_at c.places.memory_types s.memories s'.memories (c.places.memory e.to.def) e.to.memory64 e.to_page (to_bytes s) ms grown e.to_known there.to in
      let fb : from_bytes s' ≡ f.later = from_are s' ∙ get_or_from_slice_get s'.memories (c.places.memory e.from.def) f.later [] f.there in
      let tb : to_bytes s' ≡ t.later = to_are s' ∙ get_or_from_slice_get s'.memories (c.places.memory e.to.def) t.later [] t.there in
      record {
        there = record { from = f.there ∙ ap (λ l. Some l) (sym fb); to = t.there ∙ ap (λ l. Some l) (sym tb) };
        from_longer = subst (λ l. length (from_bytes s) ≤ length l) (sym fb) f.longer;
        to_longer = subst (λ l. length (to_bytes s) ≤ length l) (sym tb) t.longer;
        from_cap = subst (λ l. length l ≤ 2 ^ address_bits (is_wide c.transfer.from.memory)) (sym fb) (subst (λ b. length f.later ≤ 2 ^ address_bits b) (sym from_wide) f.cap);
        to_cap = subst (λ l. length l ≤ 2 ^ address_bits (is_wide c.transfer.to.memory)) (sym tb) (subst (λ b. length t.later ≤ 2 ^ address_bits b) (sym to_wide) t.cap);
      }

  -- both are there where something is
  pub there_of : (s : MachineState) → (x : List ℕ) × (slice_get s.memories (c.places.memory e.from.def) ≡ Some x) → (y : List ℕ) × (slice_get s.memories (c.places.memory e.to.def) ≡ Some y) → There s
  there_of s f t = record {
    from = f.1 ∙ ap (λ l. Some l) (sym (from_are s ∙ get_or_from_slice_get s.memories (c.places.memory e.from.def) f.0 [] f.1));
    to = t.1 ∙ ap (λ l. Some l) (sym (to_are s ∙ get_or_from_slice_get s.memories (c.places.memory e.to.def) t.0 [] t.1));
  }

  -- both are there in a typed state
  pub typed_there : (s : MachineState) → is_state c.places s ≡ true → There s
  typed_there s typed =
      let ms : are_memories c.places.memory_types s.memories ≡ true = and_left (are_memories c.places.memory_types s.memories) (are_globals c.places.global_types s.globals) typed in
      there_of s (kind_there c.places.memory_types s.memories (c.places.memory e.from.def) _ ms e.from_known) (kind_there c.places.memory_types s.memories (c.places.memory e.to.def) _ ms e.to_known)

-- ---- numbers of a width

-- the request of a call of realloc
pub request_is : (o : LiftLowerOptions) (a b align size : ℕ) → request_by (address_value o a ∷ address_value o b ∷ address_value o align ∷ address_value o size ∷ []) ≡ record { old = a; old_size = b; align = align; new_size = size }
request_is o a b align size = by_width (is_wide o.memory)
  where
    by_width : (w : Bool) → request_by (address_operand w a ∷ address_operand w b ∷ address_operand w align ∷ address_operand w size ∷ []) ≡ record { old = a; old_size = b; align = align; new_size = size }
    by_width true = refl
    by_width false = refl

-- a value of the type of addresses is below the numbers of their width
value_below : (w : Bool) (v : CoreValue) → is_value v (pointer_type w) ≡ true → bits_of v < 2 ^ address_bits w
value_below false (I32 n) h = ltb-true n (2 ^ 32) h
value_below false (I64 n) h = absurd (false≢true h)
value_below false (F32 n) h = absurd (false≢true h)
value_below false (F64 n) h = absurd (false≢true h)
value_below false (Func f) h = absurd (false≢true h)
value_below true (I32 n) h = absurd (false≢true h)
value_below true (I64 n) h = ltb-true n (2 ^ 64) h
value_below true (F32 n) h = absurd (false≢true h)
value_below true (F64 n) h = absurd (false≢true h)
value_below true (Func f) h = absurd (false≢true h)

-- an address that was answered
pub answer_below : (o : LiftLowerOptions) (rs : List CoreValue) → are_values rs (type_of_addresses o ∷ []) ≡ true → first_bits rs < 2 ^ address_bits (is_wide o.memory)
answer_below o [] h = absurd (false≢true h)
answer_below o (v ∷ vs) h = value_below (is_wide o.memory) v (and_left (is_value v (type_of_addresses o)) (are_values vs []) h)
