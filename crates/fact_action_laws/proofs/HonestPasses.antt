-- There is an honest pass over each text, within what its transcoder may write, whose numbers are values of its types.
use Rattle.std.proofs.Common.{◌≡◌, ℕ, ◌+◌, ◌*◌, ◌^◌, ◌≤◌, ◌<◌, inl, inr, ⊎_elim, Bool, true, false, List, [], ◌∷◌, ◌++◌, length, map, refl, sym, ap, ◌∙◌, subst, arith, length-append, length-take}
use Rattle.std.specs.Prelude.{bit_or, ◌&&◌, if◌then◌else◌}
use Rattle.std.proofs.Math.Utf8.{low_scalar}
use Rattle.std.proofs.lemmas.Bool.{lt-ltb}
use Rattle.std.proofs.lemmas.List.{append-nil}
use Rattle.std.proofs.lemmas.Nat.{or_shifted, or_comm}
use Rattle.fact_wasm.specs.declared.types.ValType.{ValType}
use Rattle.fact_types.specs.Signatures.{address}
use Rattle.fact_types.specs.declared.outside.FixedEncoding.{FixedEncoding}
use Rattle.fact_types.specs.declared.outside.FixedEncoding.TheVariants.{Utf8, Utf16, Latin1}
use Rattle.fact_types.specs.declared.outside.Transcode.{Transcode}
use Rattle.fact_types.specs.declared.outside.Transcode.TheVariants as op
use Rattle.fact_machine.specs.declared.types.CoreValue.{CoreValue}
use Rattle.fact_machine.specs.Typed.{are_values, is_value}
use Rattle.fact_machine.specs.Typing.{address_operand}
use Rattle.fact_values.specs.Lift.{bits_of}
use Rattle.fact_values.specs.Texts.{AreSpelled, IsSpelled, spelled_text, unit_bytes, units_of_text}
use Rattle.fact_actions.specs.Calls.{arg_number}
use Rattle.fact_actions.specs.Confined.{room_bytes}
use Rattle.fact_actions.specs.Honest.{room_of}
use Rattle.fact_actions.specs.Running.{Call}
use Rattle.fact_actions.specs.Transcoders.{TranscodeKind, AllUnits, Counted, Fitting, Narrow, Tagged, Widening, Room, IsFull, IsHonestPass, all_latin1, from_encoding, to_encoding, transcode_kind, transcode_types, widened}
use Rattle.fact_action_laws.proofs.Bounds.{growth, length_text}
use Rattle.fact_action_laws.proofs.IntoCompact.{length_widened, low_spelled, units16}
use Rattle.fact_action_laws.proofs.IntoUtf8.{spelled8}
use Rattle.fact_action_laws.proofs.Served.{Fits}
use Rattle.fact_action_laws.proofs.Splits.{IsNextTooMuch, as_far, can_parts, low_front, no_low_left}
use Rattle.fact_action_laws.proofs.TextTransfers.{fewer_low, fewer_units, text_bytes_append, text_units_append}
use Rattle.fact_action_laws.proofs.TypedTexts.{are_bytes, bytes_append, bytes_text, bytes_widened}

-- ---- values of numbers

-- Values of these types that have these bits.
pub record HasValues (types : List ValType) (numbers : List ℕ) : Type 0 where
  pub values : List CoreValue
  pub typed : are_values values types ≡ true
  pub are : map bits_of values ≡ numbers

operand_typed : (w : Bool) (x : ℕ) → x < 2 ^ 32 → is_value (address_operand w x) (address w) ≡ true
operand_typed false x h = lt-ltb x (2 ^ 32) h
operand_typed true x h = lt-ltb x (2 ^ 64) (omega (arith, h))

operand_bits : (w : Bool) (x : ℕ) → bits_of (address_operand w x) ≡ x
operand_bits false x = refl
operand_bits true x = refl

no_number : HasValues [] []
no_number = record { values = []; typed = refl; are = refl }

one_number : (w : Bool) (x : ℕ) → x < 2 ^ 32 → HasValues (address w ∷ []) (x ∷ [])
one_number w x h = record { values = address_operand w x ∷ []; typed = ap (λ b. b && true) (operand_typed w x h); are = ap (λ n. n ∷ []) (operand_bits w x) }

two_numbers : (v w : Bool) (x y : ℕ) → x < 2 ^ 32 → y < 2 ^ 32 → HasValues (address v ∷ address w ∷ []) (x ∷ y ∷ [])
two_numbers v w x y h g = record {
  values = address_operand v x ∷ address_operand w y ∷ [];
  typed = ap (λ b. b && (is_value (address_operand w y) (address w) && true)) (operand_typed v x h) ∙ ap (λ b. b && true) (operand_typed w y g);
  are = ap (λ n. n ∷ bits_of (address_operand w y) ∷ []) (operand_bits v x) ∙ ap (λ n. x ∷ n ∷ []) (operand_bits w y);
}

-- ---- passes

-- An honest pass that writes no more than so many bytes.
pub record HasPass (k : TranscodeKind) (f t : FixedEncoding) (g : Room) (source : List ℕ) (most : ℕ) : Type 0 where
  pub bytes : List ℕ
  pub numbers : List ℕ
  pub pass : IsHonestPass k f t g source bytes numbers
  pub short : length bytes ≤ most
  pub in_bytes : are_bytes g.latin1_bytes ≡ true → are_bytes bytes ≡ true
  pub values : (from64 to64 : Bool) → HasValues (transcode_types k from64 to64) numbers

scaled : (t : FixedEncoding) (x n : ℕ) → x ≤ n → unit_bytes t * x ≤ unit_bytes t * n
scaled Utf8 x n h = omega (arith, h)
scaled Utf16 x n h = omega (arith, h)
scaled Latin1 x n h = omega (arith, h)

no_fewer_bytes : (t : FixedEncoding) (n : ℕ) → unit_bytes t * n < 2 ^ 32 → n < 2 ^ 32
no_fewer_bytes Utf8 n h = omega (arith, h)
no_fewer_bytes Utf16 n h = omega (arith, h)
no_fewer_bytes Latin1 n h = omega (arith, h)

respelled : (f t : FixedEncoding) → ((c : ℕ) → IsSpelled f c → IsSpelled t c) → (text : List ℕ) → AreSpelled f text → AreSpelled t text
respelled f t h [] can = tt
respelled f t h (c ∷ text) can = (h c can.0, respelled f t h text can.1)

-- The source spells a text, of n units.
module _ (f : FixedEncoding) (text source : List ℕ) (n : ℕ) (can : AreSpelled f text) (is : source ≡ spelled_text f text) (count : n ≡ units_of_text f text) where
  read_all : source ≡ spelled_text f text ++ []
  read_all = is ∙ sym (append-nil (spelled_text f text))

  -- All of it is written, in an encoding that takes no more units.
  module _ (t : FixedEncoding) (grows : growth f t ≡ unit_bytes t) (write : AreSpelled t text) where
    fewer : units_of_text t text ≤ n
    fewer = let le = fewer_units f t text grows can write in omega (arith, le, count)

    all_written : length (spelled_text t text) ≤ unit_bytes t * n
    all_written = let l = length_text t text in let s = scaled t (units_of_text t text) n fewer in omega (arith, l, s)

    pass_all : (g : Room) → HasPass AllUnits f t g source (unit_bytes t * n)
    pass_all g = record {
      bytes = spelled_text t text;
      numbers = [];
      pass = record { text = text; rest = []; reads = read_all; can_read = can; can_write = write; stops = refl; writes = refl; answers = refl };
      short = all_written;
      in_bytes = λ h. bytes_text t text write;
      values = λ from64 to64. no_number;
    }

    pass_counted : (g : Room) → unit_bytes t * n < 2 ^ 32 → HasPass Counted f t g source (unit_bytes t * n)
    pass_counted g small = record {
      bytes = spelled_text t text;
      numbers = units_of_text t text ∷ [];
      pass = record { text = text; rest = []; reads = read_all; can_read = can; can_write = write; stops = refl; writes = refl; answers = refl };
      short = all_written;
      in_bytes = λ h. bytes_text t text write;
      values = λ from64 to64. one_number to64 (units_of_text t text) (let le = fewer in let s = no_fewer_bytes t n small in omega (arith, le, s));
    }

  -- So it is behind bytes that are there, for which there is room too.
  pass_widening : (g : Room) → growth f Utf16 ≡ 2 → AreSpelled Utf16 text → length g.latin1_bytes + n ≤ g.room → 2 * g.room < 2 ^ 32 → HasPass Widening f Utf16 g source (2 * g.room)
  pass_widening g grows write fits small =
      let le = fewer Utf16 grows write in
      record {
        bytes = widened g.latin1_bytes ++ spelled_text Utf16 text;
        numbers = (length g.latin1_bytes + units_of_text Utf16 text) ∷ [];
        pass = record { text = text; rest = []; reads = read_all; can_read = can; can_write = write; stops = (refl, omega (arith, le, fits)); writes = refl; answers = refl };
        short = (let a = length-append (widened g.latin1_bytes) (spelled_text Utf16 text) in let b = length_widened g.latin1_bytes in let l = length_text Utf16 text in omega (arith, a, b, l, le, fits));
        in_bytes = λ h. bytes_append (widened g.latin1_bytes) (spelled_text Utf16 text) (bytes_widened g.latin1_bytes h) (bytes_text Utf16 text write);
        values = λ from64 to64. one_number to64 (length g.latin1_bytes + units_of_text Utf16 text) (omega (arith, le, fits, small));
      }

  -- As much as there is room for.
  pass_fitting : (g : Room) → g.room < 2 ^ 32 → HasPass Fitting f Utf8 g source g.room
  pass_fitting g small =
      let r = as_far Utf8 text g.room in
      let parts = can_parts f r.front r.rest (subst (AreSpelled f) r.is can) in
      let write = respelled f Utf8 (spelled8 f) r.front parts.0 in
      let fits = r.fits in
      let units = fewer_units Utf8 f r.front (grows f) write parts.0 in
      let l = length_text Utf8 r.front in
      record {
        bytes = spelled_text Utf8 r.front;
        numbers = units_of_text f r.front ∷ length (spelled_text Utf8 r.front) ∷ [];
        pass = record {
          text = r.front;
          rest = spelled_text f r.rest;
          reads = is ∙ ap (spelled_text f) r.is ∙ text_bytes_append f r.front r.rest;
          can_read = parts.0;
          can_write = write;
          stops = (fits, ⊎_elim (λ e. inl (ap (spelled_text f) e)) (λ x. inr (no_more_room r.front r.rest parts.1 x)) r.stops);
          writes = refl;
          answers = refl;
        };
        short = fits;
        in_bytes = λ h. bytes_text Utf8 r.front write;
        values = λ from64 to64. two_numbers from64 to64 (units_of_text f r.front) (length (spelled_text Utf8 r.front)) (omega (arith, units, l, fits, small)) (omega (arith, fits, small));
      }
    where
      no_more_room : (front rest : List ℕ) → AreSpelled f rest → IsNextTooMuch Utf8 g.room front rest → IsFull f Utf8 g.room front (spelled_text f rest)
      no_more_room front rest can x =
          let both : AreSpelled f (x.next ∷ x.more) = subst (AreSpelled f) x.rest_is can in
          record { next = x.next; more = spelled_text f x.more; can = both.0; begins = ap (spelled_text f) x.rest_is; full = x.full }

      grows : (f : FixedEncoding) → growth Utf8 f ≡ unit_bytes f
      grows Utf8 = refl
      grows Utf16 = refl
      grows Latin1 = refl

  -- As much as is Latin-1.
  pass_narrow : (g : Room) → n < 2 ^ 32 → HasPass Narrow f Latin1 g source n
  pass_narrow g small =
      let r = low_front text in
      let parts = can_parts f r.front r.rest (subst (AreSpelled f) r.is can) in
      let units : units_of_text f text ≡ units_of_text f r.front + units_of_text f r.rest = ap (units_of_text f) r.is ∙ text_units_append f r.front r.rest in
      let le = fewer_low f r.front parts.0 r.low in
      let l = length_text Latin1 r.front in
      record {
        bytes = spelled_text Latin1 r.front;
        numbers = units_of_text f r.front ∷ length (spelled_text Latin1 r.front) ∷ [];
        pass = record {
          text = r.front;
          rest = spelled_text f r.rest;
          reads = is ∙ ap (spelled_text f) r.is ∙ text_bytes_append f r.front r.rest;
          can_read = parts.0;
          can_write = r.low;
          stops = λ c more read low e. no_low_left f r.rest r.stops c more low e;
          writes = refl;
          answers = refl;
        };
        short = omega (arith, l, le, units, count);
        in_bytes = λ h. bytes_text Latin1 r.front r.low;
        values = λ from64 to64. two_numbers from64 to64 (units_of_text f r.front) (length (spelled_text Latin1 r.front)) (omega (arith, units, count, small)) (omega (arith, l, le, units, count, small));
      }

-- All of it, as Latin-1 where that can be.
pass_tagged : (text source : List ℕ) (n : ℕ) → AreSpelled Utf16 text → source ≡ spelled_text Utf16 text → n ≡ units_of_text Utf16 text → (g : Room) → 2 * n < 2 ^ 32 → HasPass Tagged Utf16 Utf16 g source (2 * n)
pass_tagged text source n can is count g small = record {
  bytes = if all_latin1 text then spelled_text Latin1 text else spelled_text Utf16 text;
  numbers = (if all_latin1 text then u else bit_or u (2 ^ 31)) ∷ [];
  pass = record { text = text; rest = []; reads = read_all Utf16 text source n can is count; can_read = can; can_write = can; stops = refl; writes = refl; answers = refl };
  short = short_by (all_latin1 text) refl;
  in_bytes = λ h. bytes_by (all_latin1 text) refl;
  values = λ from64 to64. one_number to64 (if all_latin1 text then u else bit_or u (2 ^ 31)) (small_by (all_latin1 text));
}
  where
    u : ℕ
    u = units_of_text Utf16 text

    short_by : (b : Bool) → all_latin1 text ≡ b → length (if b then spelled_text Latin1 text else spelled_text Utf16 text) ≤ 2 * n
    short_by true low = let l = length_text Latin1 text in let s = units16 text (low_spelled text low) in omega (arith, l, s, count)
    short_by false wide = let l = length_text Utf16 text in omega (arith, l, count)

    bytes_by : (b : Bool) → all_latin1 text ≡ b → are_bytes (if b then spelled_text Latin1 text else spelled_text Utf16 text) ≡ true
    bytes_by true low = bytes_text Latin1 text (low_spelled text low)
    bytes_by false wide = bytes_text Utf16 text can

    tag : bit_or u (2 ^ 31) ≡ u + 2 ^ 31
    tag = or_comm u (2 ^ 31) ∙ or_shifted 1 31 u (omega (arith, small, count)) ∙ omega arith

    small_by : (b : Bool) → (if b then u else bit_or u (2 ^ 31)) < 2 ^ 32
    small_by true = omega (arith, small, count)
    small_by false = omega (arith, tag, small, count)

-- ---- transcoders

low16 : (c : ℕ) → c < 256 → IsSpelled Utf16 c
low16 c h = low_scalar c (omega (arith, h))

-- A call of a transcoder that reads a text has room for an honest pass.
pub has_pass : (o : Transcode) (c : Call) (there source text : List ℕ) → AreSpelled (from_encoding o) text → source ≡ spelled_text (from_encoding o) text → arg_number c 1 ≡ units_of_text (from_encoding o) text
    → room_bytes o c < 2 ^ 32 → Fits (transcode_kind o) c.args → HasPass (transcode_kind o) (from_encoding o) (to_encoding o) (room_of (transcode_kind o) c there) source (room_bytes o c)
has_pass (op.Copy Utf8) c there source text can is count small fits = pass_all Utf8 text source (arg_number c 1) can is count Utf8 refl can _
has_pass (op.Copy Utf16) c there source text can is count small fits = pass_all Utf16 text source (arg_number c 1) can is count Utf16 refl can _
has_pass (op.Copy Latin1) c there source text can is count small fits = pass_all Latin1 text source (arg_number c 1) can is count Latin1 refl can _
has_pass op.Latin1ToUtf16 c there source text can is count small fits = pass_all Latin1 text source (arg_number c 1) can is count Utf16 refl (respelled Latin1 Utf16 low16 text can) _
has_pass op.Utf8ToUtf16 c there source text can is count small fits = pass_counted Utf8 text source (arg_number c 1) can is count Utf16 refl (respelled Utf8 Utf16 (λ c h. h) text can) _ small
has_pass op.Latin1ToUtf8 c there source text can is count small fits = pass_fitting Latin1 text source (arg_number c 1) can is count (room_of Fitting c there) small
has_pass op.Utf16ToUtf8 c there source text can is count small fits = pass_fitting Utf16 text source (arg_number c 1) can is count (room_of Fitting c there) small
has_pass op.Utf8ToLatin1 c there source text can is count small fits = pass_narrow Utf8 text source (arg_number c 1) can is count _ small
has_pass op.Utf16ToLatin1 c there source text can is count small fits = pass_narrow Utf16 text source (arg_number c 1) can is count _ small
has_pass op.Utf16ToCompactProbablyUtf16 c there source text can is count small fits = pass_tagged text source (arg_number c 1) can is count _ small
has_pass op.Utf8ToCompactUtf16 c there source text can is count small fits =
    pass_widening Utf8 text source (arg_number c 1) can is count (room_of Widening c there) refl (respelled Utf8 Utf16 (λ c h. h) text can) (let l = length-take (arg_number c 4) there in omega (arith, l, fits)) small
has_pass op.Utf16ToCompactUtf16 c there source text can is count small fits =
    pass_widening Utf16 text source (arg_number c 1) can is count (room_of Widening c there) refl can (let l = length-take (arg_number c 4) there in omega (arith, l, fits)) small
