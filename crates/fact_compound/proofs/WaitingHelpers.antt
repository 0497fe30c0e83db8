-- Helpers that wait are written one after another, the last one first, and those that they ask for wait behind the others.
use Rattle.std.proofs.Common.{◌≡◌, ℕ, zero, suc, ◌+◌, ◌-◌, ◌<◌, ◌≤◌, ◌^◌, ◌⊎◌, Bool, List, [], ◌∷◌, ◌++◌, Some, refl, sym, ap, ◌∙◌, subst, arith, inl, inr, Contains, append-nil, append_assoc, length, length-append, map, slice_get, get_or}
use Rattle.std.specs.Prelude.{slice_set}
use Rattle.std.specs.List.{AllByRecursion, range_with_len}
use Rattle.std.proofs.lemmas.Bool.{cases_lt}
use Rattle.std.proofs.lemmas.Bool.Decides.{eqb_tells}
use Rattle.std.proofs.lemmas.List.Elements.{Contains-append_cases, Contains-append_left, Contains-append_right}
use Rattle.std.proofs.lemmas.List.{length-set}
use Rattle.std.proofs.lemmas.List.FromFn.{length-range_with_len}
use Rattle.std.proofs.lemmas.Option.{get_or_from_slice_get, slice_get-get_or, slice_get_within}
use Rattle.fact_wasm.proofs.Ranged.{all-append}
use Rattle.fact_wasm.specs.declared.module.WasmFunc.{WasmFunc}
use Rattle.fact_machine.proofs.Tests.{get_append}
use Rattle.fact_types.specs.Tables.{Tables}
use Rattle.fact_emit.specs.declared.helpers.Helper.{Helper}
use Rattle.fact_emit.specs.Asked.{AskedHelper, entry_of}
use Rattle.fact_emit.specs.Imports.{Extended}
use Rattle.fact_emit.specs.States.{KeepsDefined, ModuleSoFar, next_number}
use Rattle.fact_emit.proofs.DefinedKept.{defined_brought, defined_on, defined_type}
use Rattle.fact_emit.proofs.ImportLaws.{extended_none, extended_on}
use Rattle.fact_compound.specs.Asks.{AsksFor, CanBeWritten, IsAskedHere, helpers_from}
use Rattle.fact_compound.specs.Helpers.{AreBeingWritten, AreWritable, AreWrittenInTurn, IsInPlace, IsRising, IsTurn, NoneWaits, OneIsNext, WasWritten, WroteHelper, WroteHelpers}
use Rattle.fact_compound.proofs.AsksLaws.{asks_none, asks_on, new_none, writable_later}

-- ---- elements

none_in : {X : Type 0} (x : X) → Contains [] x → ⊥
none_in x c = omega (arith, c.1)

first_in : {X : Type 0} (x : X) (xs : List X) → Contains (x ∷ xs) x
first_in x xs = (0, omega arith, refl)

rest_in : {X : Type 0} (x y : X) (xs : List X) → Contains xs y → Contains (x ∷ xs) y
rest_in x y xs (k, l, e) = (suc k, omega (arith, l), e)

either_in : {X : Type 0} (x y : X) (xs : List X) → Contains (x ∷ xs) y → (x ≡ y) ⊎ Contains xs y
either_in x y xs (zero, l, e) = inl e
either_in x y xs (suc k, l, e) = inr (k, omega (arith, l), e)

pub get_in : {X : Type 0} (xs : List X) (k : ℕ) (x : X) → slice_get xs k ≡ Some x → Contains xs x
get_in xs k x e = (k, slice_get_within xs k x e, get_or_from_slice_get xs k x x e)

pub in_get : {X : Type 0} (xs : List X) (x : X) → Contains xs x → (k : ℕ) × (slice_get xs k ≡ Some x)
in_get xs x (k, l, e) = (k, slice_get-get_or xs k x l ∙ ap Some e)

-- ---- what is asked for can be written

-- one that is asked for has this number
with_number : {t : Tables} {debug concurrency : Bool} {s : ModuleSoFar} (asks : List AskedHelper) → AllByRecursion (IsAskedHere t debug concurrency s) asks → (n : ℕ) → Contains (map (λ (a : AskedHelper). a.number) asks) n
    → (a : AskedHelper) × (a.number ≡ n) × IsAskedHere t debug concurrency s a
with_number [] h n c = absurd (none_in n c)
with_number {t} {debug} {concurrency} {s} (a ∷ asks) h n c = elim (either_in a.number n (map (λ (a : AskedHelper). a.number) asks) c) [
  | inl here ↦ (a, here, h.0)
  | inr later ↦ with_number {t = t} {debug = debug} {concurrency = concurrency} {s = s} asks h.1 n later
]

-- helpers that follow one another have their numbers, each one of its own
from_bounds : (n : ℕ) (ks : List Helper) (e : Helper × ℕ) → Contains (helpers_from n ks) e → (n ≤ e.1) × (e.1 < n + length ks)
from_bounds n [] e c = absurd (none_in e c)
from_bounds n (k ∷ ks) e c = elim (either_in (k, n) e (helpers_from (suc n) ks) c) [
  | inl here ↦ let is : n ≡ e.1 = ap (λ (x : Helper × ℕ). x.1) here in (omega (arith, is), omega (arith, is))
  | inr later ↦ let rest = from_bounds (suc n) ks e later in (omega (arith, rest.0), omega (arith, rest.1))
]

from_once : (n : ℕ) (ks : List Helper) (e f : Helper × ℕ) → Contains (helpers_from n ks) e → Contains (helpers_from n ks) f → e.1 ≡ f.1 → e ≡ f
from_once n [] e f c g same = absurd (none_in e c)
from_once n (k ∷ ks) e f c g same = elim (either_in (k, n) e (helpers_from (suc n) ks) c) [
  | inl here ↦ elim (either_in (k, n) f (helpers_from (suc n) ks) g) [
    | inl there ↦ sym here ∙ there
    | inr later ↦ absurd (let rest = from_bounds (suc n) ks f later in let is : n ≡ e.1 = ap (λ (x : Helper × ℕ). x.1) here in omega (arith, rest.0, is, same))
  ]
  | inr later ↦ elim (either_in (k, n) f (helpers_from (suc n) ks) g) [
    | inl there ↦ absurd (let rest = from_bounds (suc n) ks e later in let is : n ≡ f.1 = ap (λ (x : Helper × ℕ). x.1) there in omega (arith, rest.0, is, same))
    | inr later' ↦ from_once (suc n) ks e f later later' same
  ]
]

module _ {t : Tables} {debug concurrency : Bool} {old new : ModuleSoFar} {asks : List AskedHelper} (x : Extended old new) (f : AsksFor t debug concurrency asks old new) (w : AreWritable t debug concurrency old) where
  abbrev more : List (Helper × ℕ)
  more = helpers_from (next_number old) f.new_asked.more

  apart : (e : Helper × ℕ) → Contains new.helpers e → Contains old.helpers e ⊎ Contains more e
  apart e c = Contains-append_cases old.helpers more e (subst (λ es. Contains es e) f.new_asked.helpers c)

  low : (e : Helper × ℕ) → Contains old.helpers e ⊎ Contains more e → e.1 < next_number new
  low e (inl before) = let lt = w.below e before in omega (arith, lt, f.new_asked.next)
  low e (inr anew) = let bounds = from_bounds (next_number old) f.new_asked.more e anew in omega (arith, bounds.1, f.new_asked.next)

  can : (e : Helper × ℕ) → Contains old.helpers e ⊎ Contains more e → CanBeWritten t debug concurrency new e.0
  can e (inl before) = writable_later x (w.all e before)
  can e (inr anew) =
      let bounds = from_bounds (next_number old) f.new_asked.more e anew in
      let a = with_number {t = t} {debug = debug} {concurrency = concurrency} {s = new} asks f.asked e.1 (f.new_asked.asked e.1 bounds.0 (omega (arith, bounds.1, f.new_asked.next))) in
      let same : entry_of a.0 ≡ e = elim (apart (entry_of a.0) a.2.there) [
        | inl before ↦ absurd (let lt = w.below (entry_of a.0) before in omega (arith, lt, bounds.0, a.1))
        | inr anew' ↦ from_once (next_number old) f.new_asked.more (entry_of a.0) e anew' anew a.1
      ] in
      subst (λ (q : Helper × ℕ). CanBeWritten t debug concurrency new q.0) same a.2.writable

  -- What is asked for can be written, as what was there before.
  pub writable_on : AreWritable t debug concurrency new
  writable_on = record { all = λ e c. can e (apart e c); below = λ e c. low e (apart e c) }

-- ---- places that wait

in_range : (n m k : ℕ) → n ≤ k → k < n + m → Contains (range_with_len n m) k
in_range n zero k le lt = absurd (omega (arith, le, lt))
in_range n (suc m) k le lt = elim (eqb_tells k n) [
  | inl e ↦ subst (Contains (range_with_len n (suc m))) (sym e.1) (first_in n (range_with_len (n + 1) m))
  | inr e ↦ rest_in n k (range_with_len (n + 1) m) (in_range (n + 1) m k (omega (arith, le, e.1)) (omega (arith, lt)))
]

-- places that rise
rising_last : (low top : ℕ) (ks : List ℕ) (p : ℕ) → IsRising low (ks ++ p ∷ []) top → (low ≤ p) × (p < top) × IsRising low ks p
rising_last low top [] p h = (h.0, h.1, tt)
rising_last low top (k ∷ ks) p h = let rest = rising_last (suc k) top ks p h.2 in (omega (arith, h.0, rest.0), rest.1, (h.0, omega (arith, rest.0), rest.2))

rising_in : (low top : ℕ) (ks : List ℕ) (k : ℕ) → IsRising low ks top → Contains ks k → (low ≤ k) × (k < top)
rising_in low top [] k h c = absurd (none_in k c)
rising_in low top (j ∷ ks) k h c = elim (either_in j k ks c) [
  | inl same ↦ (omega (arith, h.0, same), omega (arith, h.1, same))
  | inr later ↦ let rest = rising_in (suc j) top ks k h.2 later in (omega (arith, h.0, rest.0), rest.1)
]

rising_top : (low top more : ℕ) (ks : List ℕ) → top ≤ more → IsRising low ks top → IsRising low ks more
rising_top low top more [] le h = tt
rising_top low top more (k ∷ ks) le h = (h.0, omega (arith, h.1, le), rising_top (suc k) top more ks le h.2)

rising_range : (low n m : ℕ) → low ≤ n → IsRising low (range_with_len n m) (n + m)
rising_range low n zero le = tt
rising_range low n (suc m) le =
    let top : n + 1 + m ≡ n + suc m = omega arith in
    (le, omega arith, subst (IsRising (suc n) (range_with_len (n + 1) m)) top (rising_range (suc n) (n + 1) m (omega arith)))

rising_behind : (low n m : ℕ) (ks : List ℕ) → low ≤ n → IsRising low ks n → IsRising low (ks ++ range_with_len n m) (n + m)
rising_behind low n m [] le h = rising_range low n m le
rising_behind low n m (k ∷ ks) le h = (h.0, omega (arith, h.1), rising_behind (suc k) n m ks (omega (arith, h.1)) h.2)

range_from : (n m k : ℕ) → Contains (range_with_len n m) k → n ≤ k
range_from n m k c = (rising_in n (n + m) (range_with_len n m) k (rising_range n n m (omega arith)) c).0

-- an entry that stands in front was there before
get_front : (es more : List (Helper × ℕ)) (k : ℕ) (e : Helper × ℕ) → k < length es → slice_get (es ++ more) k ≡ Some e → slice_get es k ≡ Some e
get_front es more k e lt at =
    let there = slice_get-get_or es k e lt in
    there ∙ sym (get_append es more k (get_or es k e) there) ∙ at

same_entry : (es : List (Helper × ℕ)) (k : ℕ) (e f : Helper × ℕ) → slice_get es k ≡ Some e → slice_get es k ≡ Some f → f ≡ e
same_entry es k e f x y = let both : Some f ≡ Some e = sym y ∙ x in cc

-- ---- a turn

-- the last of those that wait is one of the helpers
pub next_place : {t : Tables} {debug concurrency : Bool} {fuel : ℕ} {first : ℕ} (place : ℕ) {start s : ModuleSoFar} {before : List ℕ} (waiting : List ℕ) {written : List WasmFunc} → AreBeingWritten t debug concurrency fuel first start s before written → before ≡ waiting ++ place ∷ []
    → (first ≤ place) × (place < length s.helpers)
next_place {first = first} place {s = s} waiting x popped = let last = rising_last first (length s.helpers) waiting place (subst (λ ks. IsRising first ks (length s.helpers)) popped x.rising) in (last.0, last.1)

module _ {t : Tables} {debug concurrency : Bool} {fuel : ℕ} {first place : ℕ} {start s s' : ModuleSoFar} {before waiting still : List ℕ} {written after : List WasmFunc}
    (x : AreBeingWritten t debug concurrency fuel first start s before written) (popped : before ≡ waiting ++ place ∷ []) (turn : IsTurn t debug concurrency fuel first place s s' waiting still written after) where
  grown : length s'.helpers ≡ length s.helpers + length turn.wrote.imports.helpers.more
  grown = ap length turn.wrote.imports.helpers.is ∙ length-append s.helpers turn.wrote.imports.helpers.more

  abbrev count : ℕ
  count = length s'.helpers - length s.helpers

  keeps : KeepsDefined s s'
  keeps = defined_on (defined_type turn.wrote.declares) (defined_brought turn.wrote.brought)

  taken : (first ≤ place) × (place < length s.helpers) × IsRising first waiting place
  taken = rising_last first (length s.helpers) waiting place (subst (λ ks. IsRising first ks (length s.helpers)) popped x.rising)

  within : first ≤ length s.helpers
  within = omega (arith, x.count)

  later_place : (k : ℕ) → Contains waiting k → Contains still k
  later_place k c = subst (λ ks. Contains ks k) (sym turn.waits) (Contains-append_left waiting (range_with_len (length s.helpers) count) k c)

  one_done : (k : ℕ) (e : Helper × ℕ) → first ≤ k → slice_get s'.helpers k ≡ Some e → Contains still k ⊎ ((f : WasmFunc) × (slice_get after (k - first) ≡ Some f) × WasWritten t debug concurrency fuel s' e.0 f)
  one_done k e le at = elim (cases_lt k (length s.helpers)) [ inl here ↦ below here | inr past ↦ behind past ]
    where
      below : k < length s.helpers → Contains still k ⊎ ((f : WasmFunc) × (slice_get after (k - first) ≡ Some f) × WasWritten t debug concurrency fuel s' e.0 f)
      below lt =
          let here : slice_get s.helpers k ≡ Some e = get_front s.helpers turn.wrote.imports.helpers.more k e lt (ap (λ es. slice_get es k) (sym turn.wrote.imports.helpers.is) ∙ at) in
          elim (eqb_tells k place) [
            | inl same ↦
                let is : e ≡ turn.entry = same_entry s.helpers place turn.entry e turn.at (ap (slice_get s.helpers) (sym same.1) ∙ here) in
                inr (
                  turn.function,
                  ap (λ n. slice_get after (n - first)) same.1 ∙ turn.there,
                  subst (λ (q : Helper × ℕ). WasWritten t debug concurrency fuel s' q.0 turn.function) (sym is) (record { before = s; written = s'; wrote = turn.wrote; later = extended_none refl; kept = record { functions = refl; exports = refl; callees = refl } }),
                )
            | inr other ↦ elim (x.done k e le here) [
              | inl waits ↦ elim (Contains-append_cases waiting (place ∷ []) k (subst (λ ks. Contains ks k) popped waits)) [
                | inl still_waits ↦ inl (later_place k still_waits)
                | inr last ↦ absurd (elim (either_in place k [] last) [ inl same ↦ other.1 (sym same) | inr none ↦ none_in k none ])
              ]
              | inr was ↦ inr (
                was.0,
                turn.others (k - first) was.0 (λ same. other.1 (omega (arith, same, le, taken.0))) was.1,
                record { before = was.2.before; written = was.2.written; wrote = was.2.wrote; later = extended_on was.2.later turn.wrote.imports; kept = defined_on was.2.kept keeps },
              )
            ]
          ]

      behind : length s.helpers ≤ k → Contains still k ⊎ ((f : WasmFunc) × (slice_get after (k - first) ≡ Some f) × WasWritten t debug concurrency fuel s' e.0 f)
      behind past =
          let top = slice_get_within s'.helpers k e at in
          inl (subst (λ ks. Contains ks k) (sym turn.waits) (Contains-append_right waiting (range_with_len (length s.helpers) count) k (in_range (length s.helpers) count k past (omega (arith, top, grown)))))

  -- what waits still is not the place that was taken
  still_apart : (k : ℕ) → Contains still k → Contains waiting k ⊎ (length s.helpers ≤ k)
  still_apart k c = elim (Contains-append_cases waiting (range_with_len (length s.helpers) count) k (subst (λ ks. Contains ks k) turn.waits c)) [
    | inl waits ↦ inl waits
    | inr anew ↦ inr (range_from (length s.helpers) count k anew)
  ]

  place_waits : Contains before place
  place_waits = subst (λ ks. Contains ks place) (sym popped) (Contains-append_right waiting (place ∷ []) place (first_in place []))

  waited : (k : ℕ) → Contains waiting k → Contains before k
  waited k c = subst (λ ks. Contains ks k) (sym popped) (Contains-append_left waiting (place ∷ []) k c)

  one_placed : (e : ℕ × WasmFunc) → IsInPlace first (length s.helpers) before written e → IsInPlace first (length s'.helpers) still after e
  one_placed e h =
      let other : e.0 ≡ place → ⊥ = λ same. h.3 (subst (Contains before) (sym same) place_waits) in (
        h.0,
        omega (arith, h.1, grown),
        turn.others (e.0 - first) e.1 (λ same. other (omega (arith, same, h.0, taken.0))) h.2,
        λ c. elim (still_apart e.0 c) [ inl waits ↦ h.3 (waited e.0 waits) | inr past ↦ absurd (omega (arith, past, h.1)) ],
      )

  still_placed : (order : List (ℕ × WasmFunc)) → AllByRecursion (IsInPlace first (length s.helpers) before written) order → AllByRecursion (IsInPlace first (length s'.helpers) still after) order
  still_placed [] h = tt
  still_placed (e ∷ order) h = (one_placed e h.0, still_placed order h.1)

  now_placed : IsInPlace first (length s'.helpers) still after (place, turn.function)
  now_placed = (
    taken.0,
    omega (arith, taken.1, grown),
    turn.there,
    λ c. elim (still_apart place c) [
      | inl waits ↦ absurd (let lt = (rising_in first place waiting place taken.2 waits).1 in omega (arith, lt))
      | inr past ↦ absurd (omega (arith, past, taken.1))
    ],
  )

  pub next_turn : AreBeingWritten t debug concurrency fuel first start s' still after
  next_turn = record {
    imports = extended_on x.imports turn.wrote.imports;
    kept = defined_on x.kept keeps;
    once = λ o. turn.wrote.once (x.once o);
    asks = x.asks ++ turn.wrote.asks;
    asked = asks_on turn.wrote.imports x.asked turn.wrote.asked;
    writable = writable_on turn.wrote.imports turn.wrote.asked x.writable;
    count = turn.count;
    small = turn.small;
    rising =
        let top : length s.helpers + count ≡ length s'.helpers = omega (arith, grown) in
        subst (λ ks. IsRising first ks (length s'.helpers)) (sym turn.waits)
        (subst (IsRising first (waiting ++ range_with_len (length s.helpers) count)) top
        (rising_behind first (length s.helpers) count waiting within (rising_top first place (length s.helpers) waiting (omega (arith, taken.1)) taken.2)));
    order = x.order ++ (place, turn.function) ∷ [];
    in_turn = λ end rest h.
        subst (AreWrittenInTurn t debug concurrency fuel end start (range_with_len first (length start.helpers - first))) (sym (append_assoc x.order ((place, turn.function) ∷ []) rest))
        (x.in_turn end ((place, turn.function) ∷ rest) (subst (λ ks. AreWrittenInTurn t debug concurrency fuel end s ks ((place, turn.function) ∷ rest)) (sym popped)
        (OneIsNext s s' waiting place turn.entry turn.function rest turn.at turn.wrote (subst (λ ks. AreWrittenInTurn t debug concurrency fuel end s' ks rest) turn.waits h))));
    placed = all-append (IsInPlace first (length s'.helpers) still after) x.order ((place, turn.function) ∷ []) (still_placed x.order x.placed) (now_placed, tt);
    as_many = omega (
      arith,
      length-append x.order ((place, turn.function) ∷ []),
      ap length turn.waits,
      length-append waiting (range_with_len (length s.helpers) count),
      length-range_with_len (length s.helpers) count,
      grown,
      x.as_many,
      ap length popped,
      length-append waiting (place ∷ []),
      x.count,
      turn.count,
    );
    done = one_done;
  }

  -- one more was written
  pub fewer_wait : 2 ^ 64 + length still - length after < 2 ^ 64 + length before - length written
  fewer_wait = omega (arith, ap length turn.waits, length-append waiting (range_with_len (length s.helpers) count), length-range_with_len (length s.helpers) count, grown, ap length popped, length-append waiting (place ∷ []), x.count, turn.count, x.small, turn.small, x.as_many)

-- ---- what is put on the waiting list

range_push : (n m : ℕ) → range_with_len n m ++ (n + m) ∷ [] ≡ range_with_len n (suc m)
range_push n zero = let same : n + 0 ≡ n = omega arith in ap (λ k. k ∷ []) same
range_push n (suc m) = let same : n + suc m ≡ n + 1 + m = omega arith in ap (λ k. n ∷ (range_with_len (n + 1) m ++ k ∷ [])) same ∙ ap (λ ks. n ∷ ks) (range_push (n + 1) m)

-- The helpers before a place are on the list, each with a function in its place.
pub record AddsWaiting (first place top : ℕ) (waiting still : List ℕ) (before after : List WasmFunc) : Type 0 where
  pub count : first + length after ≡ place
  pub within : place ≤ top
  pub behind : first + length before ≤ place
  pub same : (k : ℕ) (f : WasmFunc) → slice_get before k ≡ Some f → slice_get after k ≡ Some f
  pub waits : still ≡ waiting ++ range_with_len (first + length before) (place - (first + length before))

pub adds_first : {first place top : ℕ} {waiting : List ℕ} {before : List WasmFunc} → place ≡ first + length before → first + length before ≤ top → AddsWaiting first place top waiting waiting before before
adds_first {first} {place} {top} {waiting} {before} is le =
    let none : place - (first + length before) ≡ 0 = omega (arith, is) in
    record {
      count = sym is;
      within = omega (arith, is, le);
      behind = omega (arith, is);
      same = λ k f e. e;
      waits = sym (append-nil waiting) ∙ ap (λ n. waiting ++ range_with_len (first + length before) n) (sym none);
    }

pub adds_next : {first place top : ℕ} {waiting still still' : List ℕ} {before after after' : List WasmFunc} (f : WasmFunc) → place < top → after' ≡ after ++ f ∷ [] → still' ≡ still ++ place ∷ [] → AddsWaiting first place top waiting still before after
    → AddsWaiting first (place + 1) top waiting still' before after'
adds_next {first} {place} {top} {waiting} {before = before} {after} f lt put pushed x =
    let start : ℕ = first + length before in
    let here : start + (place - start) ≡ place = omega (arith, x.behind) in
    let more : suc (place - start) ≡ place + 1 - start = omega (arith, x.behind) in
    record {
      count = omega (arith, ap length put, length-append after (f ∷ []), x.count);
      within = omega (arith, lt);
      behind = omega (arith, x.behind);
      same = λ k g e. ap (λ fs. slice_get fs k) put ∙ get_append after (f ∷ []) k g (x.same k g e);
      waits = pushed ∙ ap (λ ks. ks ++ place ∷ []) x.waits ∙ append_assoc waiting (range_with_len start (place - start)) (place ∷ [])
          ∙ ap (λ ks. waiting ++ ks) (ap (λ k. range_with_len start (place - start) ++ k ∷ []) (sym here) ∙ range_push start (place - start) ∙ ap (range_with_len start) more);
    }

-- all of them are
pub adds_count : {first place top : ℕ} {waiting still : List ℕ} {before after : List WasmFunc} → top ≤ place → AddsWaiting first place top waiting still before after → first + length after ≡ top
adds_count le x = omega (arith, le, x.count, x.within)

pub adds_waits : {first place top : ℕ} {waiting still : List ℕ} {before after : List WasmFunc} → top ≤ place → AddsWaiting first place top waiting still before after
    → still ≡ waiting ++ range_with_len (first + length before) (top - (first + length before))
adds_waits {first} {place} {top} {waiting} {before = before} le x = let all : place ≡ top = omega (arith, le, x.within) in x.waits ∙ ap (λ n. waiting ++ range_with_len (first + length before) (n - (first + length before))) all

-- where a function was put it stands, and the others stay
put_there : {X : Type 0} (xs : List X) (k : ℕ) (x : X) → k < length xs → slice_get (slice_set xs k x) k ≡ Some x
put_there [] k x lt = absurd (omega (arith, lt))
put_there (y ∷ ys) zero x lt = refl
put_there (y ∷ ys) (suc k) x lt = put_there ys k x (omega (arith, lt))

others_stay : {X : Type 0} (xs : List X) (k : ℕ) (x : X) (i : ℕ) → (i ≡ k → ⊥) → slice_get (slice_set xs k x) i ≡ slice_get xs i
others_stay [] k x i other = refl
others_stay (y ∷ ys) zero x zero other = absurd (other refl)
others_stay (y ∷ ys) zero x (suc i) other = refl
others_stay (y ∷ ys) (suc k) x zero other = refl
others_stay (y ∷ ys) (suc k) x (suc i) other = others_stay ys k x i (λ same. other (ap suc same))

-- The helper of a place was written, and its function put there; those that it is the first to ask for wait.
pub turn_by : {t : Tables} {debug concurrency : Bool} {fuel : ℕ} {first place : ℕ} {old new : ModuleSoFar} {waiting still : List ℕ} {before put after : List WasmFunc} {e : Helper × ℕ} {f : WasmFunc} → slice_get old.helpers place ≡ Some e → WroteHelper t debug concurrency fuel e.0 old new f
    → first ≤ place → place < length old.helpers → first + length before ≡ length old.helpers → put ≡ slice_set before (place - first) f
    → first + length after ≡ length new.helpers → length new.helpers < 2 ^ 64 → ((k : ℕ) (g : WasmFunc) → slice_get put k ≡ Some g → slice_get after k ≡ Some g)
    → still ≡ waiting ++ range_with_len (first + length put) (length new.helpers - (first + length put)) → IsTurn t debug concurrency fuel first place old new waiting still before after
turn_by {first = first} {place} {old} {new} {waiting} {before = before} {put} {e = e} {f} at wrote low within count is all small kept waits =
    let many : length put ≡ length before = ap length is ∙ length-set before (place - first) f in
    let start : first + length put ≡ length old.helpers = omega (arith, count, many) in
    record {
      entry = e;
      at = at;
      function = f;
      wrote = wrote;
      count = all;
      small = small;
      there = kept (place - first) f (ap (λ fs. slice_get fs (place - first)) is ∙ put_there before (place - first) f (omega (arith, low, within, count)));
      others = λ k g other was. kept k g (ap (λ fs. slice_get fs k) is ∙ others_stay before (place - first) f k other ∙ was);
      waits = waits ∙ ap (λ n. waiting ++ range_with_len n (length new.helpers - n)) start;
    }

-- the functions that are put there behind leave room for the new ones
pub room_behind : {t : Tables} {debug concurrency : Bool} {fuel : ℕ} (first place : ℕ) {old new : ModuleSoFar} (before : List WasmFunc) {put : List WasmFunc} {k : Helper} {f : WasmFunc} → WroteHelper t debug concurrency fuel k old new f → first + length before ≡ length old.helpers
    → put ≡ slice_set before place f → first + length put ≤ length new.helpers
room_behind first place {old} before {f = f} wrote full is =
    omega (arith, full, ap length is, length-set before place f, ap length wrote.imports.helpers.is, length-append old.helpers wrote.imports.helpers.more)

-- ---- the first turn, and the last

-- all of them wait where none did and none was written
pub first_waits : (first top : ℕ) {waiting still : List ℕ} {written : List WasmFunc} → waiting ≡ [] → written ≡ [] → still ≡ waiting ++ range_with_len (first + length written) (top - (first + length written)) → still ≡ range_with_len first (top - first)
first_waits first top none empty is =
    let start : first + length {A = WasmFunc} [] ≡ first = omega arith in
    is ∙ (λ i. none i ++ range_with_len (first + length (empty i)) (top - (first + length (empty i)))) ∙ ap (λ n. range_with_len n (top - n)) start

pub first_turn : {t : Tables} {debug concurrency : Bool} {fuel : ℕ} {first : ℕ} {s : ModuleSoFar} {waiting : List ℕ} {written : List WasmFunc} → AreWritable t debug concurrency s → first ≤ length s.helpers → first + length written ≡ length s.helpers → length s.helpers < 2 ^ 64
    → waiting ≡ range_with_len first (length s.helpers - first) → AreBeingWritten t debug concurrency fuel first s s waiting written
first_turn {t} {debug} {concurrency} {fuel} {first} {s} {waiting} {written} w le count small is = record {
  imports = extended_none refl;
  kept = record { functions = refl; exports = refl; callees = refl };
  once = λ o. o;
  asks = [];
  asked = asks_none (new_none refl);
  writable = w;
  count = count;
  small = small;
  rising =
      let top : first + (length s.helpers - first) ≡ length s.helpers = omega (arith, le) in
      subst (λ ks. IsRising first ks (length s.helpers)) (sym is) (subst (IsRising first (range_with_len first (length s.helpers - first))) top (rising_range first first (length s.helpers - first) (omega arith)));
  order = [];
  in_turn = λ end rest h. subst (λ ks. AreWrittenInTurn t debug concurrency fuel end s ks rest) is h;
  placed = tt;
  as_many = omega (arith, ap length is, length-range_with_len first (length s.helpers - first), count);
  done = λ k e le' at. let top = slice_get_within s.helpers k e at in inl (subst (λ ks. Contains ks k) (sym is) (in_range first (length s.helpers - first) k le' (omega (arith, top, le))));
}

pub last_turn : {t : Tables} {debug concurrency : Bool} {fuel : ℕ} {first : ℕ} {start s : ModuleSoFar} {waiting : List ℕ} {written : List WasmFunc} → waiting ≡ [] → AreBeingWritten t debug concurrency fuel first start s waiting written → WroteHelpers t debug concurrency fuel first start s written
last_turn {t} {debug} {concurrency} {fuel} {first} {start} {s} {waiting} {written} none x = record {
  imports = x.imports;
  kept = x.kept;
  once = x.once;
  asks = x.asks;
  asked = x.asked;
  writable = x.writable;
  count = x.count;
  order = x.order;
  in_turn = subst (AreWrittenInTurn t debug concurrency fuel s start (range_with_len first (length start.helpers - first))) (append-nil x.order)
      (x.in_turn s [] (subst (λ ks. AreWrittenInTurn t debug concurrency fuel s s ks []) (sym none) NoneWaits));
  placed = in_places x.order x.placed;
  as_many = omega (arith, x.as_many, ap length none);
  all = λ k e le at. elim (x.done k e le at) [
    | inl waits ↦ absurd (none_in k (subst (λ ks. Contains ks k) none waits))
    | inr done ↦ done
  ];
}
  where
    in_places : (order : List (ℕ × WasmFunc)) → AllByRecursion (IsInPlace first (length s.helpers) waiting written) order → AllByRecursion (λ (e : ℕ × WasmFunc). slice_get written (e.0 - first) ≡ Some e.1) order
    in_places [] h = tt
    in_places (e ∷ order) h = (h.0.2, in_places order h.1)

-- ---- their functions behind those of the module

pub defines_none : (s : ModuleSoFar) → s ≡ record s { functions = s.functions ++ [] }
defines_none s = ap (λ (fs : List WasmFunc). record s { functions = fs }) (sym (append-nil s.functions))

pub defines_next : (s : ModuleSoFar) (fs : List WasmFunc) (f : WasmFunc) {s' s'' : ModuleSoFar} → s' ≡ record s { functions = s.functions ++ fs } → s'' ≡ record s' { functions = s'.functions ++ f ∷ [] } → s'' ≡ record s { functions = s.functions ++ (fs ++ f ∷ []) }
defines_next s fs f is next =
    next ∙ ap (λ (q : ModuleSoFar). record q { functions = q.functions ++ f ∷ [] }) is ∙ ap (λ (gs : List WasmFunc). record s { functions = gs }) (append_assoc s.functions fs (f ∷ []))
