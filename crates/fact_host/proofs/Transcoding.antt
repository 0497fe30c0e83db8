-- What the operations of transcoders make of a text is honest, and nothing stops it.
use Rattle.std.proofs.Common.{◌≡◌, ℕ, zero, suc, ◌+◌, ◌*◌, ◌^◌, ◌≤◌, ◌<◌, ◌⊎◌, inl, inr, Bool, true, false, List, [], ◌∷◌, ◌++◌, Some, None, length, take, drop, get_or, refl, sym, ap, ◌∙◌, subst, arith}
use Rattle.std.specs.Prelude.{bit_or, cond, nat_lt, ◌&&◌, if◌then◌else◌}
use Rattle.std.proofs.Math.Seq.{drop-cons, drop-length}
use Rattle.std.proofs.Math.Utf8.{low_scalar}
use Rattle.std.proofs.lemmas.Bool.{cases_lt, lt-ltb, ltb-true}
use Rattle.std.proofs.lemmas.List.{append-nil, append_assoc, take-append-drop, length-take-le, length-drop}
use Rattle.fact_types.specs.declared.outside.FixedEncoding.{FixedEncoding}
use Rattle.fact_types.specs.declared.outside.FixedEncoding.TheVariants.{Utf8, Utf16, Latin1}
use Rattle.fact_types.specs.declared.outside.Transcode.{Transcode}
use Rattle.fact_types.specs.declared.outside.Transcode.TheVariants as op
use Rattle.fact_values.specs.Texts.{AreSpelled, IsSpelled, char_spelling, decoded, spelled_text, unit_bytes, units_of_text}
use Rattle.fact_actions.specs.Transcoders.{TranscodeKind, AllUnits, Counted, Fitting, Narrow, Tagged, Widening, Room, IsHonestPass, IsFull, StopsBy, all_latin1, bytes_written, numbers_answered, from_encoding, to_encoding, transcode_kind, widened}
use Rattle.fact_action_laws.proofs.Decoded.{one_text}
use Rattle.fact_action_laws.proofs.Splits.{can_parts, no_low_left}
use Rattle.fact_host.specs.declared.transcoders.Told.{Told}
use Rattle.fact_host.specs.Hosts.{IsTranscodedByHost, IsMadeOf, IsPass, FitsDestination}
use Rattle.fact_host.specs.Rules.{AreWrittenBytes, IsHonestlyMade, MustStop, SourceOutside, Malformed, LatinOutside, Overflows, DestinationOutside, told_room, units_read}
use Rattle.fact_host.proofs.Passing.{one_pass}

-- ---- texts that other encodings can spell

low_spelled : (e : FixedEncoding) (text : List ℕ) → ((c : ℕ) → c < 256 → IsSpelled e c) → AreSpelled Latin1 text → AreSpelled e text
low_spelled e [] each h = tt
low_spelled e (c ∷ text) each h = (each c h.0, low_spelled e text each h.1)

low_scalars : (c : ℕ) → c < 256 → IsSpelled Utf8 c
low_scalars c h = low_scalar c (omega (arith, h))

pub as_utf8 : (text : List ℕ) → AreSpelled Utf16 text → AreSpelled Utf8 text
as_utf8 [] h = tt
as_utf8 (c ∷ text) h = (h.0, as_utf8 text h.1)

pub as_utf16 : (text : List ℕ) → AreSpelled Utf8 text → AreSpelled Utf16 text
as_utf16 [] h = tt
as_utf16 (c ∷ text) h = (h.0, as_utf16 text h.1)

-- What an operation reads, it can write, if it stops at no scalar value that is not Latin-1.
pub can_write : (o : Transcode) (text : List ℕ) → (transcode_kind o ≡ Narrow → ⊥) → AreSpelled (from_encoding o) text → AreSpelled (to_encoding o) text
can_write (op.Copy e) text not_so h = h
can_write op.Latin1ToUtf16 text not_so h = low_spelled Utf16 text low_scalars h
can_write op.Latin1ToUtf8 text not_so h = low_spelled Utf8 text low_scalars h
can_write op.Utf16ToCompactProbablyUtf16 text not_so h = h
can_write op.Utf16ToCompactUtf16 text not_so h = h
can_write op.Utf16ToLatin1 text not_so h = absurd (not_so refl)
can_write op.Utf16ToUtf8 text not_so h = as_utf8 text h
can_write op.Utf8ToCompactUtf16 text not_so h = as_utf16 text h
can_write op.Utf8ToLatin1 text not_so h = absurd (not_so refl)
can_write op.Utf8ToUtf16 text not_so h = as_utf16 text h

-- ---- kinds

-- the encodings of operations of a kind
abbrev HasEncodings : TranscodeKind → (from to : FixedEncoding) → Type 0
HasEncodings AllUnits f t = Unit {0}
HasEncodings Counted f t = Unit {0}
HasEncodings Fitting f t = t ≡ Utf8
HasEncodings Narrow f t = t ≡ Latin1
HasEncodings Tagged f t = (f ≡ Utf16) × (t ≡ Utf16)
HasEncodings Widening f t = t ≡ Utf16

encodings : (o : Transcode) → HasEncodings (transcode_kind o) (from_encoding o) (to_encoding o)
encodings (op.Copy e) = tt
encodings op.Latin1ToUtf16 = tt
encodings op.Latin1ToUtf8 = refl
encodings op.Utf16ToCompactProbablyUtf16 = (refl, refl)
encodings op.Utf16ToCompactUtf16 = refl
encodings op.Utf16ToLatin1 = refl
encodings op.Utf16ToUtf8 = refl
encodings op.Utf8ToCompactUtf16 = refl
encodings op.Utf8ToLatin1 = refl
encodings op.Utf8ToUtf16 = tt

of_kind : (o : Transcode) (k : TranscodeKind) → transcode_kind o ≡ k → HasEncodings k (from_encoding o) (to_encoding o)
of_kind o k e = subst (λ z. HasEncodings z (from_encoding o) (to_encoding o)) e (encodings o)

-- what a pass of a kind into an encoding makes, an operation of that kind makes
by_kind : (o : Transcode) (k : TranscodeKind) (e : FixedEncoding) (text destination : List ℕ) (t : Told) (bytes numbers : List ℕ) → transcode_kind o ≡ k → to_encoding o ≡ e
    → IsPass k (from_encoding o) e (told_room k t (drop t.to destination)) text bytes numbers → IsMadeOf o text destination t bytes numbers
by_kind o k e text destination t bytes numbers q r h =
    subst (λ z. IsPass z (from_encoding o) (to_encoding o) (told_room z t (drop t.to destination)) text bytes numbers) (sym q)
    (subst (λ z. IsPass k (from_encoding o) z (told_room k t (drop t.to destination)) text bytes numbers) (sym r) h)

-- ---- passes over whole texts

whole : (k : TranscodeKind) (f t : FixedEncoding) (g : Room) (text bytes numbers : List ℕ) → AreSpelled f text → AreSpelled t text → StopsBy k f t g text [] → bytes ≡ bytes_written k t g text → numbers ≡ numbers_answered k f t g text → IsPass k f t g text bytes numbers
whole k f t g text bytes numbers can write stops is answers = record {
  text = text;
  rest = [];
  reads = sym (append-nil (spelled_text f text));
  can_read = can;
  can_write = write;
  stops = stops;
  writes = is;
  answers = answers;
}

pub made_all : (o : Transcode) (text bytes : List ℕ) → transcode_kind o ≡ AllUnits → AreSpelled (from_encoding o) text → bytes ≡ spelled_text (to_encoding o) text → (destination : List ℕ) (t : Told) → IsMadeOf o text destination t bytes []
made_all o text bytes k h e destination t =
    by_kind o AllUnits (to_encoding o) text destination t bytes [] k refl
    (whole AllUnits (from_encoding o) (to_encoding o) (told_room AllUnits t (drop t.to destination)) text bytes [] h (can_write o text (λ q. let z : AllUnits ≡ Narrow = sym k ∙ q in absurd cc) h) refl e refl)

pub made_counted : (o : Transcode) (text bytes : List ℕ) (n : ℕ) → transcode_kind o ≡ Counted → AreSpelled (from_encoding o) text → bytes ≡ spelled_text (to_encoding o) text → n ≡ units_of_text (to_encoding o) text
    → (destination : List ℕ) (t : Told) → IsMadeOf o text destination t bytes (n ∷ [])
made_counted o text bytes n k h e u destination t =
    by_kind o Counted (to_encoding o) text destination t bytes (n ∷ []) k refl
    (whole Counted (from_encoding o) (to_encoding o) (told_room Counted t (drop t.to destination)) text bytes (n ∷ []) h (can_write o text (λ q. let z : Counted ≡ Narrow = sym k ∙ q in absurd cc) h) refl e (ap (λ m. m ∷ []) u))

-- ---- Latin-1 where it can be

pub latin1_all : (text : List ℕ) → AreSpelled Latin1 text → all_latin1 text ≡ true
latin1_all [] h = refl
latin1_all (c ∷ text) h = rw (lt-ltb c 256 h.0) (latin1_all text h.1)

and_false : (b : Bool) → (b && false) ≡ false
and_false true = refl
and_false false = refl

high_at : (text : List ℕ) (n : ℕ) → n < length text → 256 ≤ get_or text n 0 → all_latin1 text ≡ false
high_at [] n lt high = absurd (omega (arith, lt))
high_at (c ∷ text) zero lt high = by (nat_lt c 256) refl
  where
    by : (b : Bool) → nat_lt c 256 ≡ b → (b && all_latin1 text) ≡ false
    by true e = let low = ltb-true c 256 e in absurd (omega (arith, low, high))
    by false e = refl
high_at (c ∷ text) (suc n) lt high = ap (λ b. nat_lt c 256 && b) (high_at text n (omega (arith, lt)) high) ∙ and_false (nat_lt c 256)

-- what reads UTF-16 by its kind does so
pub reads_utf16 : (o : Transcode) (text : List ℕ) → transcode_kind o ≡ Tagged → AreSpelled (from_encoding o) text → AreSpelled Utf16 text
reads_utf16 o text k h = subst (λ z. AreSpelled z text) (of_kind o Tagged k).0 h

tagged_op : (o : Transcode) (text bytes : List ℕ) (n : ℕ) → transcode_kind o ≡ Tagged → AreSpelled (from_encoding o) text
    → bytes ≡ (if all_latin1 text then spelled_text Latin1 text else spelled_text Utf16 text) → n ≡ (if all_latin1 text then units_of_text Utf16 text else bit_or (units_of_text Utf16 text) (2 ^ 31))
    → (destination : List ℕ) (t : Told) → IsMadeOf o text destination t bytes (n ∷ [])
tagged_op o text bytes n k h e u destination t =
    by_kind o Tagged Utf16 text destination t bytes (n ∷ []) k (of_kind o Tagged k).1
    (subst (λ f. IsPass Tagged f Utf16 (told_room Tagged t (drop t.to destination)) text bytes (n ∷ [])) (sym (of_kind o Tagged k).0)
    (whole Tagged Utf16 Utf16 (told_room Tagged t (drop t.to destination)) text bytes (n ∷ []) (reads_utf16 o text k h) (reads_utf16 o text k h) refl e (ap (λ m. m ∷ []) u)))

pub made_low : (o : Transcode) (text bytes : List ℕ) (n : ℕ) → transcode_kind o ≡ Tagged → AreSpelled (from_encoding o) text → AreSpelled Latin1 text → bytes ≡ spelled_text Latin1 text → n ≡ units_of_text Utf16 text
    → (destination : List ℕ) (t : Told) → IsMadeOf o text destination t bytes (n ∷ [])
made_low o text bytes n k h low e u =
    tagged_op o text bytes n k h
    (e ∙ sym (ap (λ b. cond b (spelled_text Latin1 text) (spelled_text Utf16 text)) (latin1_all text low)))
    (u ∙ sym (ap (λ b. cond b (units_of_text Utf16 text) (bit_or (units_of_text Utf16 text) (2 ^ 31))) (latin1_all text low)))

pub made_high : (o : Transcode) (text bytes : List ℕ) (n i : ℕ) → transcode_kind o ≡ Tagged → AreSpelled (from_encoding o) text → i < length text → 256 ≤ get_or text i 0 → bytes ≡ spelled_text Utf16 text → n ≡ bit_or (units_of_text Utf16 text) (2 ^ 31)
    → (destination : List ℕ) (t : Told) → IsMadeOf o text destination t bytes (n ∷ [])
made_high o text bytes n i k h lt high e u =
    tagged_op o text bytes n k h
    (e ∙ sym (ap (λ b. cond b (spelled_text Latin1 text) (spelled_text Utf16 text)) (high_at text i lt high)))
    (u ∙ sym (ap (λ b. cond b (units_of_text Utf16 text) (bit_or (units_of_text Utf16 text) (2 ^ 31))) (high_at text i lt high)))

-- ---- passes over fronts

spelled_parts : (e : FixedEncoding) (a b : List ℕ) → spelled_text e (a ++ b) ≡ spelled_text e a ++ spelled_text e b
spelled_parts e [] b = refl
spelled_parts e (c ∷ a) b = ap (λ l. char_spelling e c ++ l) (spelled_parts e a b) ∙ sym (append_assoc (char_spelling e c) (spelled_text e a) (spelled_text e b))

can_front : (e : FixedEncoding) (text : List ℕ) (n : ℕ) → AreSpelled e text → AreSpelled e (take n text) × AreSpelled e (drop n text)
can_front e text n h = can_parts e (take n text) (drop n text) (subst (AreSpelled e) (sym (take-append-drop n text)) h)

pub front_can : (e : FixedEncoding) (text : List ℕ) (n : ℕ) → AreSpelled e text → AreSpelled e (take n text)
front_can e text n h = (can_front e text n h).0

front : (k : TranscodeKind) (f t : FixedEncoding) (g : Room) (text bytes numbers : List ℕ) (n : ℕ) → AreSpelled f text → AreSpelled t (take n text) → StopsBy k f t g (take n text) (spelled_text f (drop n text))
    → bytes ≡ bytes_written k t g (take n text) → numbers ≡ numbers_answered k f t g (take n text) → IsPass k f t g text bytes numbers
front k f t g text bytes numbers n can write stops is answers = record {
  text = take n text;
  rest = spelled_text f (drop n text);
  reads = ap (spelled_text f) (sym (take-append-drop n text)) ∙ spelled_parts f (take n text) (drop n text);
  can_read = (can_front f text n can).0;
  can_write = write;
  stops = stops;
  writes = is;
  answers = answers;
}

-- at the end, or at the next scalar value
at_end : (text : List ℕ) (n : ℕ) → n ≤ length text → ((n < length text → ⊥) → drop n text ≡ [])
at_end text n le not_so = elim (cases_lt n (length text)) [ inl lt ↦ absurd (not_so lt) | inr ge ↦ (let e : n ≡ length text = omega (arith, ge, le) in ap (λ i. drop i text) e ∙ drop-length text) ]

fitting_stops : (f : FixedEncoding) (g : Room) (text : List ℕ) (n : ℕ) → AreSpelled f text → n ≤ length text → length (spelled_text Utf8 (take n text)) ≤ g.room
    → (n < length text → g.room < length (spelled_text Utf8 (take n text)) + length (char_spelling Utf8 (get_or text n 0))) → StopsBy Fitting f Utf8 g (take n text) (spelled_text f (drop n text))
fitting_stops f g text n can le fits full = (fits, by (cases_lt n (length text)))
  where
    by : (n < length text) ⊎ (length text ≤ n) → (spelled_text f (drop n text) ≡ []) ⊎ IsFull f Utf8 g.room (take n text) (spelled_text f (drop n text))
    by (inr ge) = inl (ap (spelled_text f) (at_end text n le (λ lt. absurd (omega (arith, lt, ge)))))
    by (inl lt) = inr (record {
      next = get_or text n 0;
      more = spelled_text f (drop (suc n) text);
      can = (subst (AreSpelled f) (drop-cons text n 0 lt) (can_front f text n can).1).0;
      begins = ap (spelled_text f) (drop-cons text n 0 lt);
      full = full lt;
    })

pub made_fitting : (o : Transcode) (text bytes : List ℕ) (n room read written : ℕ) → transcode_kind o ≡ Fitting → AreSpelled (from_encoding o) text → n ≤ length text → length (spelled_text Utf8 (take n text)) ≤ room
    → (n < length text → room < length (spelled_text Utf8 (take n text)) + length (char_spelling Utf8 (get_or text n 0))) → bytes ≡ spelled_text Utf8 (take n text) → read ≡ units_of_text (from_encoding o) (take n text) → written ≡ length bytes
    → (destination : List ℕ) (t : Told) → t.room ≡ room → IsMadeOf o text destination t bytes (read ∷ written ∷ [])
made_fitting o text bytes n room read written k h le fits full e u v destination t q =
    let f : FixedEncoding = from_encoding o in
    let g : Room = told_room Fitting t (drop t.to destination) in
    let write : AreSpelled Utf8 (take n text) = subst (λ z. AreSpelled z (take n text)) (of_kind o Fitting k) (front_can (to_encoding o) text n (can_write o text (λ r. let z : Fitting ≡ Narrow = sym k ∙ r in absurd cc) h)) in
    by_kind o Fitting Utf8 text destination t bytes (read ∷ written ∷ []) k (of_kind o Fitting k)
    (front Fitting f Utf8 g text bytes (read ∷ written ∷ []) n h write
    (fitting_stops f g text n h le (omega (arith, fits, q)) (λ lt. let over = full lt in omega (arith, over, q)))
    e (ap (λ m. m ∷ written ∷ []) u ∙ ap (λ m. units_of_text f (take n text) ∷ m ∷ []) (v ∙ ap length e)))

narrow_stops : (f : FixedEncoding) (g : Room) (text : List ℕ) (n : ℕ) → n ≤ length text → (n < length text → 256 ≤ get_or text n 0) → StopsBy Narrow f Latin1 g (take n text) (spelled_text f (drop n text))
narrow_stops f g text n le next c more can low e = no_low_left f (drop n text) (by (cases_lt n (length text))) c more low e
  where
    by : (n < length text) ⊎ (length text ≤ n) → (c : ℕ) (more : List ℕ) → drop n text ≡ c ∷ more → 256 ≤ c
    by (inr ge) c more q = absurd (let l = ap length (sym (at_end text n le (λ lt. absurd (omega (arith, lt, ge)))) ∙ q) in omega (arith, l))
    by (inl lt) c more q = subst (λ d. 256 ≤ d) (ap (λ l. get_or l 0 0) (sym (drop-cons text n 0 lt) ∙ q)) (next lt)

pub made_narrow : (o : Transcode) (text bytes : List ℕ) (n read written : ℕ) → transcode_kind o ≡ Narrow → AreSpelled (from_encoding o) text → n ≤ length text → AreSpelled Latin1 (take n text)
    → (n < length text → 256 ≤ get_or text n 0) → bytes ≡ spelled_text Latin1 (take n text) → read ≡ units_of_text (from_encoding o) (take n text) → written ≡ length bytes
    → (destination : List ℕ) (t : Told) → IsMadeOf o text destination t bytes (read ∷ written ∷ [])
made_narrow o text bytes n read written k h le low next e u v destination t =
    let f : FixedEncoding = from_encoding o in
    let g : Room = told_room Narrow t (drop t.to destination) in
    by_kind o Narrow Latin1 text destination t bytes (read ∷ written ∷ []) k (of_kind o Narrow k)
    (front Narrow f Latin1 g text bytes (read ∷ written ∷ []) n h low (narrow_stops f g text n le next)
    e (ap (λ m. m ∷ written ∷ []) u ∙ ap (λ m. units_of_text f (take n text) ∷ m ∷ []) (v ∙ ap length e)))

-- ---- bytes made units

there_long : (destination : List ℕ) (t : Told) → t.to + t.latin1 ≤ length destination → length (take t.latin1 (drop t.to destination)) ≡ t.latin1
there_long destination t le = let d = length-drop t.to destination in length-take-le t.latin1 (drop t.to destination) (omega (arith, d, le))

pub made_widening : (o : Transcode) (text bytes destination : List ℕ) (t : Told) (n : ℕ) → transcode_kind o ≡ Widening → AreSpelled (from_encoding o) text → t.to + t.latin1 ≤ length destination
    → bytes ≡ widened (take t.latin1 (drop t.to destination)) ++ spelled_text Utf16 text → n ≡ t.latin1 + units_of_text Utf16 text → n ≤ t.room → IsMadeOf o text destination t bytes (n ∷ [])
made_widening o text bytes destination t n k h within e u le =
    let f : FixedEncoding = from_encoding o in
    let g : Room = told_room Widening t (drop t.to destination) in
    let long : length g.latin1_bytes ≡ t.latin1 = there_long destination t within in
    let write : AreSpelled Utf16 text = subst (λ z. AreSpelled z text) (of_kind o Widening k) (can_write o text (λ r. let z : Widening ≡ Narrow = sym k ∙ r in absurd cc) h) in
    by_kind o Widening Utf16 text destination t bytes (n ∷ []) k (of_kind o Widening k)
    (whole Widening f Utf16 g text bytes (n ∷ []) h write (refl, omega (arith, long, u, le)) e (ap (λ m. m ∷ []) (u ∙ ap (λ m. m + units_of_text Utf16 text) (sym long))))

pub counted_can : (o : Transcode) (text : List ℕ) → transcode_kind o ≡ Counted → AreSpelled (from_encoding o) text → AreSpelled (to_encoding o) text
counted_can o text k h = can_write o text (λ r. let z : Counted ≡ Narrow = sym k ∙ r in absurd cc) h

pub all_can : (o : Transcode) (text : List ℕ) → transcode_kind o ≡ AllUnits → AreSpelled (from_encoding o) text → AreSpelled (to_encoding o) text
all_can o text k h = can_write o text (λ r. let z : AllUnits ≡ Narrow = sym k ∙ r in absurd cc) h

-- ---- nothing stops it

-- where text has no room behind the bytes that are there, no pass is honest
no_room : (f : FixedEncoding) (destination : List ℕ) (t : Told) (text bytes numbers : List ℕ) → AreSpelled f text → IsPass Widening f Utf16 (told_room Widening t (drop t.to destination)) text bytes numbers
    → t.to + t.latin1 ≤ length destination → t.room < t.latin1 + units_of_text Utf16 text → ⊥
no_room f destination t text bytes numbers can h within over =
    let same : h.text ≡ text = one_text f h.text text h.can_read can (sym (append-nil (spelled_text f h.text)) ∙ ap (λ r. spelled_text f h.text ++ r) (sym h.stops.0) ∙ sym h.reads) in
    let long = there_long destination t within in
    let le = h.stops.1 in
    let units : units_of_text Utf16 h.text ≡ units_of_text Utf16 text = ap (units_of_text Utf16) same in
    absurd (omega (arith, long, le, units, over))

overflows : (o : Transcode) (destination : List ℕ) (t : Told) (text bytes numbers : List ℕ) → transcode_kind o ≡ Widening → AreSpelled (from_encoding o) text → IsMadeOf o text destination t bytes numbers
    → t.to + t.latin1 ≤ length destination → t.room < t.latin1 + units_of_text Utf16 text → ⊥
overflows o destination t text bytes numbers k can h within over =
    no_room (from_encoding o) destination t text bytes numbers can
    (subst (λ z. IsPass Widening (from_encoding o) z (told_room Widening t (drop t.to destination)) text bytes numbers) (of_kind o Widening k)
    (subst (λ z. IsPass z (from_encoding o) (to_encoding o) (told_room z t (drop t.to destination)) text bytes numbers) k h)) within over

same_text : (x : List ℕ) (a b : List ℕ) (e : FixedEncoding) → decoded e x ≡ Some a → decoded e x ≡ Some b → a ≡ b
same_text x a b e p q = let z : Some a ≡ Some b = sym p ∙ q in cc

-- What is made of the text that is read, is an honest answer, if its bytes have their places.
pub made_is : (o : Transcode) (source destination : List ℕ) (t : Told) (text bytes numbers : List ℕ) → units_read o source t ≡ spelled_text (from_encoding o) text → AreSpelled (from_encoding o) text
    → decoded (from_encoding o) (units_read o source t) ≡ Some text → t.from + unit_bytes (from_encoding o) * t.units ≤ length source
    → IsMadeOf o text destination t bytes numbers → FitsDestination o destination t → t.to + length bytes ≤ length destination → AreWrittenBytes bytes → IsTranscodedByHost o source destination t bytes numbers
made_is o source destination t text bytes numbers is can some there h within inside are = record {
  honest = honest;
  are_bytes = are;
  inside = inside;
  goes_on = never;
}
  where
    honest : IsHonestlyMade o source destination t bytes numbers
    honest = subst (λ s. IsHonestPass (transcode_kind o) (from_encoding o) (to_encoding o) (told_room (transcode_kind o) t (drop t.to destination)) s bytes numbers) (sym is) h

    never : MustStop o source destination t → ⊥
    never (SourceOutside lt) = absurd (omega (arith, lt, there))
    never (Malformed none) = let z : None ≡ Some text = sym none ∙ some in absurd cc
    never (LatinOutside k lt) = let le = within k in absurd (omega (arith, lt, le))
    never (Overflows k other decodes lt) =
        let e : other ≡ text = same_text (units_read o source t) other text (from_encoding o) decodes some in
        overflows o destination t text bytes numbers k can h (within k) (let u : units_of_text Utf16 other ≡ units_of_text Utf16 text = ap (units_of_text Utf16) e in omega (arith, lt, u))
    never (DestinationOutside others more other lt) =
        let e : bytes ≡ others = one_pass (transcode_kind o) (from_encoding o) (to_encoding o) (told_room (transcode_kind o) t (drop t.to destination)) (units_read o source t) bytes numbers others more honest other in
        let l = ap length e in
        absurd (omega (arith, lt, l, inside))
