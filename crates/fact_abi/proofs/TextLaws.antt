-- How texts are read, step by step.
use Rattle.std.proofs.Common.{◌≡◌, ℕ, ◌+◌, ◌*◌, ◌-◌, ◌<◌, ◌≤◌, ◌⊎◌, inl, inr, List, [], ◌∷◌, ◌++◌, append_assoc, length, take, drop, get_or, Option, Some, None, refl, sym, ap, ◌∙◌, arith}
use Rattle.std.specs.Prelude.{Bool, true, false, nat_le, nat_lt, if◌then◌else◌, option_map, IsSomeAnd}
use denote.Ref.{Bor}
use Rattle.std.proofs.lemmas.List.{take_all, length-take-le, length-drop}
use Rattle.std.proofs.lemmas.Str.{utf16_chars_lone, utf16_chars_pair, utf16_chars-nil, IsUtf8-from_is_utf8, is_utf8-from_IsUtf8}
use Rattle.std.proofs.str.Utf16.{lone_unit_char_low, lone_unit_char_high}
use Rattle.std.specs.Char.Utf16.{utf16_chars, lone_unit_char}
use Rattle.std.specs.Str.{IsUtf8, is_utf8, chars}
use Rattle.fact_types.specs.declared.outside.FixedEncoding.{FixedEncoding}
use Rattle.fact_types.specs.Options.{◌>>=◌}
use Rattle.fact_abi.specs.Decoding.{Begins}
use Rattle.fact_values.specs.Texts.{all_there, two_byte_units, Form, text_of_form, lies_aligned, decoded, unit_bytes, byte_length}

-- ---- a scalar value at the front of units

-- what is read is in front of what the units behind it spell
pub begins : (o : Option (ℕ × Bor (List ℕ))) (code : ℕ) (rest units : List ℕ) → IsSomeAnd o (λ r. (r.0 ≡ code) × (r.1.now ≡ rest))
    → utf16_chars units ≡ Some code ∷ utf16_chars rest → Begins o units
begins None code rest units h e = absurd h
begins (Some r) code rest units h e =
    ap all_there e ∙ ap (λ us. all_there (utf16_chars us) >>= (λ cs. Some (code ∷ cs))) (sym h.1) ∙ ap (λ (c : ℕ). all_there (utf16_chars r.1.now) >>= (λ cs. Some (c ∷ cs))) (sym h.0)

pub alone_is : (u : ℕ) (us : List ℕ) → (u < 55296) ⊎ (57344 ≤ u) → utf16_chars (u ∷ us) ≡ Some u ∷ utf16_chars us
alone_is u us (inl low) = utf16_chars_lone u us (λ p. omega (arith, low, p.0)) ∙ ap (λ o. o ∷ utf16_chars us) (lone_unit_char_low u low)
alone_is u us (inr high) = utf16_chars_lone u us (λ p. omega (arith, high, p.1)) ∙ ap (λ o. o ∷ utf16_chars us) (lone_unit_char_high u high)

lone_none : (u : ℕ) → 55296 ≤ u → u < 57344 → lone_unit_char u ≡ None
lone_none u ge lt = let a : nat_le 55296 u ≡ true = grind (arith, ge) in let b : nat_lt u 57344 ≡ true = grind (arith, lt) in rw (a, b) refl

-- a surrogate without partner spells nothing
pub no_partner : (u : ℕ) (us : List ℕ) → 55296 ≤ u → u < 57344 → (56320 ≤ u) ⊎ ((get_or us 0 0 < 56320) ⊎ (57344 ≤ get_or us 0 0)) → all_there (utf16_chars (u ∷ us)) ≡ None
no_partner u us ge lt h = ap all_there (utf16_chars_lone u us (λ p. lone (get_or us 0 0) p.1 p.2 p.3 h) ∙ ap (λ o. o ∷ utf16_chars us) (lone_none u ge lt))
  where
    lone : (v : ℕ) → u < 56320 → 56320 ≤ v → v < 57344 → (56320 ≤ u) ⊎ ((v < 56320) ⊎ (57344 ≤ v)) → ⊥
    lone v a b c (inl h) = omega (arith, a, h)
    lone v a b c (inr (inl h)) = omega (arith, b, h)
    lone v a b c (inr (inr h)) = omega (arith, c, h)

pub pair_is : (u v : ℕ) (us : List ℕ) (code : ℕ) → 55296 ≤ u → u < 56320 → 56320 ≤ v → v < 57344 → code ≡ 65536 + (u - 55296) * 1024 + (v - 56320) → utf16_chars (u ∷ v ∷ us) ≡ Some code ∷ utf16_chars us
pair_is u v us code a b c d e = utf16_chars_pair u v us (a, b, c, d) ∙ ap (λ (k : ℕ). Some k ∷ utf16_chars us) (sym e)

-- ---- bytes as UTF-8

pub not_utf8 : (bytes : List ℕ) → (IsUtf8 bytes → ⊥) → None ≡ (if is_utf8 bytes then Some (chars bytes) else None)
not_utf8 bytes h = go (is_utf8 bytes) refl
  where
    go : (b : Bool) → is_utf8 bytes ≡ b → None ≡ (if b then Some (chars bytes) else None)
    go true e = absurd (h (IsUtf8-from_is_utf8 bytes e))
    go false e = refl

pub as_utf8 : (bytes text read : List ℕ) → text ≡ bytes → IsUtf8 bytes → read ≡ chars text → Some read ≡ (if is_utf8 bytes then Some (chars bytes) else None)
as_utf8 bytes text read e h r =
    ap Some (r ∙ ap chars e) ∙ sym (ap (λ (b : Bool). if b then Some (chars bytes) else None) (is_utf8-from_IsUtf8 bytes h))

-- ---- what is left to read gives what all gives

put_front : {X : Type 0} (xs : List X) (x : X) (o : Option (List X)) → option_map (λ ys. xs ++ ys) (o >>= (λ ys. Some (x ∷ ys))) ≡ option_map (λ ys. (xs ++ x ∷ []) ++ ys) o
put_front xs x None = refl
put_front xs x (Some ys) = ap Some (sym (append_assoc xs (x ∷ []) ys))

-- one more is read
pub one_more : {X : Type 0} (all left rest : Option (List X)) (xs xs' : List X) (x : X) → all ≡ option_map (λ ys. xs ++ ys) left → left ≡ rest >>= (λ ys. Some (x ∷ ys)) → xs' ≡ xs ++ x ∷ []
    → all ≡ option_map (λ ys. xs' ++ ys) rest
one_more all left rest xs xs' x a b e =
    a ∙ ap (option_map (λ ys. xs ++ ys)) b ∙ put_front xs x rest ∙ ap (λ zs. option_map (λ ys. zs ++ ys) rest) (sym e)

-- nothing is left, or what is left gives nothing
pub none_left : {X : Type 0} (all left : Option (List X)) (xs : List X) → all ≡ option_map (λ ys. xs ++ ys) left → left ≡ None → None ≡ all
none_left all left xs a e = sym (a ∙ ap (option_map (λ ys. xs ++ ys)) e)

append_nil : {X : Type 0} (xs : List X) → xs ++ [] ≡ xs
append_nil [] = refl
append_nil (x ∷ xs) = ap (λ l. x ∷ l) (append_nil xs)

pub all_read : {X : Type 0} (all left : Option (List X)) (xs : List X) → all ≡ option_map (λ ys. xs ++ ys) left → left ≡ Some [] → Some xs ≡ all
all_read all left xs a e = sym (a ∙ ap (option_map (λ ys. xs ++ ys)) e ∙ ap Some (append_nil xs))

pub starts : {X : Type 0} (all : Option (List X)) → all ≡ option_map (λ ys. [] ++ ys) all
starts None = refl
starts (Some xs) = refl

-- ---- a slice by its first item
pub first_and_rest : (xs : List ℕ) → 1 ≤ length xs → xs ≡ get_or xs 0 0 ∷ take (length xs - 1) (drop 1 xs)
first_and_rest [] h = absurd (omega (arith, h))
first_and_rest (x ∷ xs) h = let n : length (x ∷ xs) - 1 ≡ length xs = omega arith in ap (λ ys. x ∷ ys) (sym (ap (λ n. take n xs) n ∙ take_all (length xs) xs (omega arith)))

pub nothing_first : (xs : List ℕ) (n : ℕ) → length xs < 1 → 0 < n → get_or xs 0 0 < n
nothing_first [] n h p = p
nothing_first (x ∷ xs) n h p = absurd (omega (arith, h))

pub is_nil : {X : Type 0} (xs : List X) → length xs < 1 → xs ≡ []
is_nil [] h = refl
is_nil (x ∷ xs) h = absurd (omega (arith, h))

pub units_end : (xs : List ℕ) → length xs < 1 → two_byte_units xs ≡ Some []
units_end xs h = ap two_byte_units (is_nil xs h)

pub chars_end : (us : List ℕ) → length us < 1 → all_there (utf16_chars us) ≡ Some []
chars_end us h = ap (λ us. all_there (utf16_chars us)) (is_nil us h) ∙ ap all_there utf16_chars-nil

pub rest_shorter : (xs ys : List ℕ) → 1 ≤ length xs → length ys ≤ length (take (length xs - 1) (drop 1 xs)) → length ys < length xs
rest_shorter xs ys h le = omega (arith, h, le, length-take-le (length xs - 1) (drop 1 xs) (omega (arith, length-drop 1 xs)))

-- ---- a text of a form, where the range is in bounds
pub text_read : (bytes : List ℕ) (p : ℕ) (g : Form) (e : FixedEncoding) (align units n m : ℕ) (o : Option (List ℕ)) → e ≡ g.encoding → align ≡ g.align → units ≡ g.units
    → n ≡ units * unit_bytes e → true ≡ lies_aligned bytes align p n → m ≡ n → o ≡ decoded e (take m (drop p bytes)) → o ≡ text_of_form bytes p g
text_read bytes p g e align units n m o is_e is_a is_u is_n inside is_m read =
    let whole : n ≡ byte_length g = is_n ∙ (λ i. is_u i * unit_bytes (is_e i)) in
    let there : lies_aligned bytes g.align p (byte_length g) ≡ true = sym (inside ∙ (λ i. lies_aligned bytes (is_a i) p (whole i))) in
    read ∙ (λ i. decoded (is_e i) (take ((is_m ∙ whole) i) (drop p bytes))) ∙ sym (ap (λ (b : Bool). if b then decoded g.encoding (take (byte_length g) (drop p bytes)) else None) there)
