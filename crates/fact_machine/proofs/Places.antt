-- Numbers in memory: what a store leaves at each place, and loads after stores.
use Rattle.std.proofs.Common.{◌≡◌, ℕ, ◌+◌, ◌-◌, ◌<◌, ◌≤◌, ◌⊎◌, inl, inr, List, ◌++◌, refl, sym, ap, ◌∙◌, arith, length, get_or, take, drop}
use Rattle.std.proofs.lemmas.Bool.{cases_lt}
use Rattle.std.proofs.lemmas.List.{length-append, length-take, length-take-le, length-drop, get_or_append_left, get_or-append_right, get_or-take, get_or-drop, drop_at, take_at, same_lists}
use Rattle.fact_machine.specs.World.{bytes_of, number_of, put_at, with_number}
use Rattle.fact_machine.specs.MemoryLaws.{Digits, LoadAfterStore, StoreKeepsOthers, StoreKeepsLength, Apart, LoadApart, StoresCommute}
use Rattle.fact_machine.proofs.Bytes.{length-bytes_of, bytes_of_below, number_of-bytes_of}

-- ---- bytes put over those of a memory

module _ (m : List ℕ) (a : ℕ) (bs : List ℕ) where
  -- below them nothing changes
  pub put_below : (i d : ℕ) → a ≤ length m → i < a → get_or (put_at m a bs) i d ≡ get_or m i d
  put_below i d fits lt =
      let len : length (take a m) ≡ a = length-take-le a m fits in
      get_or_append_left (take a m) (bs ++ drop (a + length bs) m) d i (omega arith) ∙ get_or-take a m i d lt

  -- they stand there
  pub put_within : (i d : ℕ) → a ≤ length m → a ≤ i → i < a + length bs → get_or (put_at m a bs) i d ≡ get_or bs (i - a) d
  put_within i d fits le lt =
      let len : length (take a m) ≡ a = length-take-le a m fits in
      get_or-append_right (take a m) (bs ++ drop (a + length bs) m) a i d len le ∙ get_or_append_left bs (drop (a + length bs) m) d (i - a) (omega arith)

  -- above them nothing changes
  pub put_above : (i d : ℕ) → a ≤ length m → a + length bs ≤ i → get_or (put_at m a bs) i d ≡ get_or m i d
  put_above i d fits le =
      let len : length (take a m) ≡ a = length-take-le a m fits in
      let e : a + length bs + (i - a - length bs) ≡ i = omega arith in
      get_or-append_right (take a m) (bs ++ drop (a + length bs) m) a i d len (omega arith)
      ∙ get_or-append_right bs (drop (a + length bs) m) (length bs) (i - a) d refl (omega arith)
      ∙ get_or-drop (a + length bs) m (i - a - length bs) d
      ∙ ap (λ k. get_or m k d) e

  pub put_length : a + length bs ≤ length m → length (put_at m a bs) ≡ length m
  put_length fits =
      let len : length (take a m) ≡ a = length-take-le a m (omega arith) in
      omega (arith, length-append (take a m) (bs ++ drop (a + length bs) m), length-append bs (drop (a + length bs) m), length-drop (a + length bs) m)

  -- a part that is read where they were put
  pub put_read : a ≤ length m → take (length bs) (drop a (put_at m a bs)) ≡ bs
  put_read fits =
      ap (take (length bs)) (drop_at (take a m) (bs ++ drop (a + length bs) m) a (length-take-le a m fits)) ∙ take_at bs (drop (a + length bs) m) (length bs) refl

-- a part of two lists that are alike there
same_part : (m m' : List ℕ) (b k : ℕ) → length m ≡ length m' → ((i d : ℕ) → b ≤ i → i < b + k → get_or m i d ≡ get_or m' i d) → take k (drop b m) ≡ take k (drop b m')
same_part m m' b k len h =
    same_lists _ _ (omega (arith, length-take k (drop b m), length-take k (drop b m'), length-drop b m, length-drop b m')) (λ i d lt.
    let within : i < k = omega (arith, lt, length-take k (drop b m)) in
    get_or-take k (drop b m) i d within ∙ get_or-drop b m i d ∙ h (b + i) d (omega arith) (omega arith)
    ∙ sym (get_or-take k (drop b m') i d within ∙ get_or-drop b m' i d))

-- ---- the laws

pub digits : Digits
digits n value = record { count = length-bytes_of n value; below = λ k. bytes_of_below n value k; number = number_of-bytes_of n value }

pub load_after_store : LoadAfterStore
load_after_store memory n address value fits =
    let len : length (bytes_of n value) ≡ n = length-bytes_of n value in
    ap (λ k. number_of (take k (drop address (with_number n memory address value)))) (sym len)
    ∙ ap number_of (put_read memory address (bytes_of n value) (omega arith)) ∙ number_of-bytes_of n value

pub store_keeps_others : StoreKeepsOthers
store_keeps_others memory n address value k fits (inl below) = put_below memory address (bytes_of n value) k 0 (omega arith) below
store_keeps_others memory n address value k fits (inr above) = put_above memory address (bytes_of n value) k 0 (omega arith) (omega (arith, length-bytes_of n value))

pub store_keeps_length : StoreKeepsLength
store_keeps_length memory n address value fits = put_length memory address (bytes_of n value) (omega (arith, length-bytes_of n value))

apart_at : (memory : List ℕ) (n a value m b : ℕ) → a + n ≤ length memory → Apart n a m b → (i d : ℕ) → b ≤ i → i < b + m → get_or (with_number n memory a value) i d ≡ get_or memory i d
apart_at memory n a value m b fits (inl before) i d le lt = put_above memory a (bytes_of n value) i d (omega arith) (omega (arith, length-bytes_of n value))
apart_at memory n a value m b fits (inr behind) i d le lt = put_below memory a (bytes_of n value) i d (omega arith) (omega arith)

pub load_apart : LoadApart
load_apart memory n a value m b fits apart = ap number_of (same_part _ memory b m (store_keeps_length memory n a value fits) (apart_at memory n a value m b fits apart))

module _ (m : List ℕ) (a b : ℕ) (us vs : List ℕ) (before : a + length us ≤ b) (fits : b + length vs ≤ length m) where
  past_second : (i d : ℕ) → b ≤ i → (i < b + length vs) ⊎ (b + length vs ≤ i) → get_or (put_at (put_at m a us) b vs) i d ≡ get_or (put_at (put_at m b vs) a us) i d
  past_second i d le (inl lt) =
      let len : length (put_at m a us) ≡ length m = put_length m a us (omega arith) in
      let len' : length (put_at m b vs) ≡ length m = put_length m b vs fits in
      put_within (put_at m a us) b vs i d (omega arith) le lt
      ∙ sym (put_above (put_at m b vs) a us i d (omega arith) (omega arith) ∙ put_within m b vs i d (omega arith) le lt)
  past_second i d le (inr over) =
      let len : length (put_at m a us) ≡ length m = put_length m a us (omega arith) in
      let len' : length (put_at m b vs) ≡ length m = put_length m b vs fits in
      put_above (put_at m a us) b vs i d (omega arith) over ∙ put_above m a us i d (omega arith) (omega arith)
      ∙ sym (put_above (put_at m b vs) a us i d (omega arith) (omega arith) ∙ put_above m b vs i d (omega arith) over)

  -- below the second range the second store changes nothing
  before_second : (i d : ℕ) → i < b → (i < a) ⊎ (a ≤ i) → (i < a + length us) ⊎ (a + length us ≤ i) → get_or (put_at (put_at m a us) b vs) i d ≡ get_or (put_at (put_at m b vs) a us) i d
  before_second i d lt (inl low) other =
      let len : length (put_at m a us) ≡ length m = put_length m a us (omega arith) in
      let len' : length (put_at m b vs) ≡ length m = put_length m b vs fits in
      put_below (put_at m a us) b vs i d (omega arith) lt ∙ put_below m a us i d (omega arith) low
      ∙ sym (put_below (put_at m b vs) a us i d (omega arith) low ∙ put_below m b vs i d (omega arith) lt)
  before_second i d lt (inr le) (inl in_first) =
      let len : length (put_at m a us) ≡ length m = put_length m a us (omega arith) in
      let len' : length (put_at m b vs) ≡ length m = put_length m b vs fits in
      put_below (put_at m a us) b vs i d (omega arith) lt ∙ put_within m a us i d (omega arith) le in_first
      ∙ sym (put_within (put_at m b vs) a us i d (omega arith) le in_first)
  before_second i d lt (inr le) (inr between) =
      let len : length (put_at m a us) ≡ length m = put_length m a us (omega arith) in
      let len' : length (put_at m b vs) ≡ length m = put_length m b vs fits in
      put_below (put_at m a us) b vs i d (omega arith) lt ∙ put_above m a us i d (omega arith) between
      ∙ sym (put_above (put_at m b vs) a us i d (omega arith) between ∙ put_below m b vs i d (omega arith) lt)

  at_each : (i d : ℕ) → (i < b) ⊎ (b ≤ i) → get_or (put_at (put_at m a us) b vs) i d ≡ get_or (put_at (put_at m b vs) a us) i d
  at_each i d (inl lt) = before_second i d lt (cases_lt i a) (cases_lt i (a + length us))
  at_each i d (inr le) = past_second i d le (cases_lt i (b + length vs))

  puts_commute : put_at (put_at m a us) b vs ≡ put_at (put_at m b vs) a us
  puts_commute =
      let len : length (put_at m a us) ≡ length m = put_length m a us (omega arith) in
      let len' : length (put_at m b vs) ≡ length m = put_length m b vs fits in
      same_lists _ _ (put_length (put_at m a us) b vs (omega arith) ∙ len ∙ sym (put_length (put_at m b vs) a us (omega arith) ∙ len')) (λ i d lt. at_each i d (cases_lt i b))

pub stores_commute : StoresCommute
stores_commute memory n a u m b v fits fits' (inl before) =
    puts_commute memory a b (bytes_of n u) (bytes_of m v) (omega (arith, length-bytes_of n u)) (omega (arith, length-bytes_of m v))
stores_commute memory n a u m b v fits fits' (inr behind) =
    sym (puts_commute memory b a (bytes_of m v) (bytes_of n u) (omega (arith, length-bytes_of m v)) (omega (arith, length-bytes_of n u)))
