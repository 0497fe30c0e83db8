-- What is read of bytes is within its range.
use Rattle.std.proofs.Common.{◌≡◌, ℕ, zero, suc, ◌+◌, ◌*◌, ◌-◌, ◌%◌, ◌^◌, ◌<◌, ◌≤◌, List, [], ◌∷◌, length, take, drop, get_or, Option, Some, None, refl, sym, ap, ◌∙◌, subst, arith, lit<}
use Rattle.std.specs.Prelude.{pos, negsuc, Bool, true, false, nat_lt, nat_le, ◌&&◌, ◌||◌, cond, if◌then◌else◌, option_map}
use Rattle.std.specs.List.{AllByRecursion}
use Rattle.std.specs.Char.{IsScalar}
use Rattle.std.specs.Char.Utf16 as U16
use Rattle.std.specs.Char.Utf16.{utf16_chars, lone_unit_char, surrogate_pair_char, is_high_surrogate, is_low_surrogate}
use Rattle.std.specs.Str.{is_utf8, chars}
use Rattle.std.proofs.lemmas.Bool.{true≢false, ltb-true, ltb-false}
use Rattle.std.proofs.lemmas.Nat.{mod_below}
use Rattle.std.proofs.lemmas.Str.{scalars-chars, IsUtf8-from_is_utf8}
use Rattle.std.proofs.Math.Nat.{one-le-pow, pow-suc, pow-le-pow_right}
use Rattle.std.proofs.Math.Utf8.{scalar, scalars, low_scalar}
use Rattle.fact_machine.proofs.Bytes.{number_below}
use Rattle.fact_machine.specs.World.{number_at}
use Rattle.fact_types.proofs.ShapeLaws.{same_some, none_some}
use Rattle.fact_types.specs.declared.outside.FixedEncoding.{FixedEncoding}
use Rattle.fact_types.specs.declared.outside.FixedEncoding.TheVariants.{Utf8, Utf16, Latin1}
use Rattle.fact_types.specs.declared.outside.StringEncoding.{StringEncoding}
use Rattle.fact_types.specs.Options.{◌>>=◌}
use Rattle.fact_values.specs.Bytes.{AreBytes}
use Rattle.fact_values.specs.declared.value.Value.{Value, out-Value}
use Rattle.fact_values.specs.declared.value.Value.TheVariants as value
use Rattle.fact_values.specs.IsA.{IsSigned, IsPlainValue}
use Rattle.fact_values.specs.Numbers.{Plain, boolean, unsigned, signed, float32, float64, character, text, handle, nothing, twos_complement, is_scalar_value, value_of_number, number_in}
use Rattle.fact_values.specs.Texts.{all_there, two_byte_units, decoded, Form, form_of, byte_length, lies_aligned, text_at}

-- ---- something that is there

pub then_some : {A B : Type 0} (o : Option A) (f : A → Option B) (y : B) → o >>= f ≡ Some y → (x : A) × (o ≡ Some x) × (f x ≡ Some y)
then_some None f y e = absurd (none_some None y refl e)
then_some (Some x) f y e = (x, refl, e)

pub map_some : {A B : Type 0} (f : A → B) (o : Option A) (y : B) → option_map f o ≡ Some y → (x : A) × (o ≡ Some x) × (f x ≡ y)
map_some f None y e = absurd (none_some None y refl e)
map_some f (Some x) y e = (x, refl, same_some (Some (f x)) (f x) y refl e)

pub when_some : {A : Type 0} (b : Bool) (o : Option A) (y : A) → (if b then o else None) ≡ Some y → (b ≡ true) × (o ≡ Some y)
when_some true o y e = (refl, e)
when_some false o y e = absurd (none_some None y refl e)

-- ---- bytes

pub bytes_drop : (n : ℕ) (bs : List ℕ) → AreBytes bs → AreBytes (drop n bs)
bytes_drop zero bs h = h
bytes_drop (suc n) [] h = tt
bytes_drop (suc n) (b ∷ bs) h = bytes_drop n bs h.1

pub bytes_take : (n : ℕ) (bs : List ℕ) → AreBytes bs → AreBytes (take n bs)
bytes_take zero bs h = tt
bytes_take (suc n) [] h = tt
bytes_take (suc n) (b ∷ bs) h = (h.0, bytes_take n bs h.1)

pub byte_at : (bs : List ℕ) → AreBytes bs → (k : ℕ) → get_or bs k 0 < 256
byte_at [] h k = lit< tt
byte_at (b ∷ bs) h zero = h.0
byte_at (b ∷ bs) h (suc k) = byte_at bs h.1 k

take_at_most : {X : Type 0} (n : ℕ) (xs : List X) → length (take n xs) ≤ n
take_at_most zero xs = omega arith
take_at_most (suc n) [] = omega arith
take_at_most (suc n) (x ∷ xs) = omega (arith, take_at_most n xs)

-- a number of so many bytes
pub number_small : (bytes : List ℕ) (n a m : ℕ) → AreBytes bytes → number_in bytes n a ≡ Some m → m < 256 ^ n
number_small bytes n a m h e =
    let (there, is) = when_some (nat_le (a + n) (length bytes)) (Some (number_at n bytes a)) m e in
    let part = take n (drop a bytes) in
    let small = number_below part (byte_at part (bytes_take n (drop a bytes) (bytes_drop a bytes h))) in
    let more : 256 ^ length part ≤ 256 ^ n = pow-le-pow_right (lit< tt) (take_at_most n (drop a bytes)) in
    let same : number_at n bytes a ≡ m = same_some (Some (number_at n bytes a)) (number_at n bytes a) m refl is in
    omega (arith, small, more, same)

-- ---- values of numbers

-- how small the number of a type must be
abbrev pub IsSmall : Plain → ℕ → Type 0
IsSmall float32 n = n < 2 ^ 32
IsSmall float64 n = n < 2 ^ 64
IsSmall (handle kind table) n = n < 2 ^ 32
IsSmall (signed bits) n = 1 ≤ bits
IsSmall _ n = Unit {0}

signed_range : (bits m : ℕ) → 1 ≤ bits → m < 2 ^ bits → IsSigned bits (twos_complement bits m)
signed_range bits m h lt = go (nat_lt m (2 ^ (bits - 1))) refl
  where
    whole : 2 ^ bits ≡ 2 ^ (bits - 1) * 2
    whole = let e : bits ≡ suc (bits - 1) = omega (arith, h) in ap (λ n. 2 ^ n) e ∙ pow-suc 2 (bits - 1)

    go : (b : Bool) → nat_lt m (2 ^ (bits - 1)) ≡ b → IsSigned bits (if b then pos m else negsuc (2 ^ bits - 1 - m))
    go true e = ltb-true m (2 ^ (bits - 1)) e
    go false e = omega (arith, ltb-false m (2 ^ (bits - 1)) e, lt, whole)

pub scalar_from : (n : ℕ) → is_scalar_value n ≡ true → IsScalar n
scalar_from n e = same (nat_lt n 55296) (nat_le 57344 n && nat_lt n 1114112) ∙ e
  where
    same : (a b : Bool) → cond a true b ≡ (a || b)
    same true b = refl
    same false b = refl

pub number_is_a : (q : Plain) (n : ℕ) (v : Value) → value_of_number q n ≡ Some v → IsSmall q n → IsPlainValue q (out-Value v)
number_is_a boolean n v e s = let is = same_some _ _ v refl e in subst (λ v. IsPlainValue boolean (out-Value v)) is (subst (IsPlainValue boolean) (sym (value.outs-Bool (nat_lt 0 n))) tt)
number_is_a (unsigned bits) n v e s =
    let is = same_some _ _ v refl e in
    subst (λ v. IsPlainValue (unsigned bits) (out-Value v)) is (subst (IsPlainValue (unsigned bits)) (sym (value.outs-Int (pos (n % 2 ^ bits)))) (mod_below n (2 ^ bits) (one-le-pow bits 2 (lit< tt))))
number_is_a (signed bits) n v e s =
    let is = same_some _ _ v refl e in
    subst (λ v. IsPlainValue (signed bits) (out-Value v)) is (subst (IsPlainValue (signed bits)) (sym (value.outs-Int (twos_complement bits (n % 2 ^ bits)))) (signed_range bits (n % 2 ^ bits) s (mod_below n (2 ^ bits) (one-le-pow bits 2 (lit< tt)))))
number_is_a float32 n v e s = let is = same_some _ _ v refl e in subst (λ v. IsPlainValue float32 (out-Value v)) is (subst (IsPlainValue float32) (sym (value.outs-Float32 n)) s)
number_is_a float64 n v e s = let is = same_some _ _ v refl e in subst (λ v. IsPlainValue float64 (out-Value v)) is (subst (IsPlainValue float64) (sym (value.outs-Float64 n)) s)
number_is_a character n v e s =
    let (yes', there) = when_some (is_scalar_value n) (Some (value.Char n)) v e in
    let is = same_some _ _ v refl there in
    subst (λ v. IsPlainValue character (out-Value v)) is (subst (IsPlainValue character) (sym (value.outs-Char n)) (scalar_from n yes'))
number_is_a (handle kind table) n v e s = let is = same_some _ _ v refl e in subst (λ v. IsPlainValue (handle kind table) (out-Value v)) is (subst (IsPlainValue (handle kind table)) (sym (value.outs-Handle kind table n)) (refl, refl, s))
number_is_a text n v e s = absurd (none_some None v refl e)
number_is_a nothing n v e s = absurd (none_some None v refl e)

-- ---- texts

pub all_scalars : (cs : List ℕ) → scalars cs ≡ true → AllByRecursion IsScalar cs
all_scalars [] e = tt
all_scalars (c ∷ cs) e = let (a, b) = both (scalar c) (scalars cs) e in (a, all_scalars cs b)
  where
    both : (a b : Bool) → (a && b) ≡ true → (a ≡ true) × (b ≡ true)
    both true b e = (refl, e)
    both false b e = absurd (true≢false (sym e))

bytes_scalars : (bs : List ℕ) → AreBytes bs → AllByRecursion IsScalar bs
bytes_scalars [] h = tt
bytes_scalars (b ∷ bs) h = (low_scalar b (omega (arith, h.0)), bytes_scalars bs h.1)

-- units of two bytes
abbrev AreUnits : List ℕ → Type 0
AreUnits us = AllByRecursion (λ u. u < 65536) us

units_small : (bs us : List ℕ) → AreBytes bs → two_byte_units bs ≡ Some us → AreUnits us
units_small [] us h e = subst AreUnits (same_some _ [] us refl e) tt
units_small (a ∷ []) us h e = absurd (none_some None us refl e)
units_small (a ∷ b ∷ bs) us h e =
    let (vs, rest, is) = then_some (two_byte_units bs) (λ us. Some ((a + 256 * b) ∷ us)) us e in
    subst AreUnits (same_some _ ((a + 256 * b) ∷ vs) us refl is) (omega (arith, h.0, h.1.0), units_small bs vs h.1.1 rest)

high_scalar : (n : ℕ) → 57344 ≤ n → n < 1114112 → IsScalar n
high_scalar n h k =
    let a : nat_le 57344 n ≡ true = grind (arith, h) in
    let b : nat_lt n 1114112 ≡ true = grind (arith, k) in
    scalar_from n ((λ i. nat_lt n 55296 || (a i && b i)) ∙ or_true (nat_lt n 55296))
  where
    or_true : (b : Bool) → (b || true) ≡ true
    or_true true = refl
    or_true false = refl

-- a unit alone, and a pair
alone_scalar : (u c : ℕ) → u < 65536 → lone_unit_char u ≡ Some c → IsScalar c
alone_scalar u c lt e = go (nat_le 55296 u) (nat_lt u 57344) refl refl e
  where
    go : (a b : Bool) → nat_le 55296 u ≡ a → nat_lt u 57344 ≡ b → (if a && b then None else Some u) ≡ Some c → IsScalar c
    go true true p q e = absurd (none_some None c refl e)
    go true false p q e = subst IsScalar (same_some _ u c refl e) (high_scalar u (ltb-false u 57344 q) (omega (arith, lt)))
    go false b p q e = subst IsScalar (same_some _ u c refl e) (low_scalar u (grind (arith, p)))

pair_scalar : (u v : ℕ) → (is_high_surrogate u && is_low_surrogate v) ≡ true → IsScalar (surrogate_pair_char u v)
pair_scalar u v e = high_scalar (surrogate_pair_char u v) (omega arith) (small (nat_le 55296 u) (nat_lt u 56320) (nat_le 56320 v) (nat_lt v 57344) refl refl refl refl e)
  where
    small : (a b c d : Bool) → nat_le 55296 u ≡ a → nat_lt u 56320 ≡ b → nat_le 56320 v ≡ c → nat_lt v 57344 ≡ d → ((a && b) && (c && d)) ≡ true → surrogate_pair_char u v < 1114112
    small true true true true p q r s e = let x : u < 56320 = ltb-true u 56320 q in let y : v < 57344 = ltb-true v 57344 s in omega arith
    small true true true false p q r s e = absurd (true≢false (sym e))
    small true true false d p q r s e = absurd (true≢false (sym e))
    small true false c d p q r s e = absurd (true≢false (sym e))
    small false b c d p q r s e = absurd (true≢false (sym e))

utf16_scalars : (us cs : List ℕ) → AreUnits us → all_there (utf16_chars us) ≡ Some cs → AllByRecursion IsScalar cs
unfolding U16.utf16_chars
utf16_scalars [] cs h e = subst (AllByRecursion IsScalar) (same_some _ [] cs refl e) tt
utf16_scalars (u ∷ []) cs h e = go (lone_unit_char u) refl e
  where
    go : (o : Option ℕ) → lone_unit_char u ≡ o → all_there (o ∷ []) ≡ Some cs → AllByRecursion IsScalar cs
    go None p e = absurd (none_some None cs refl e)
    go (Some c) p e = subst (AllByRecursion IsScalar) (same_some _ (c ∷ []) cs refl e) (alone_scalar u c h.0 p, tt)
utf16_scalars (u ∷ v ∷ us) cs h e = by_pair (is_high_surrogate u && is_low_surrogate v) refl (λ ds q. utf16_scalars us ds h.1.1 q) (λ ds q. utf16_scalars (v ∷ us) ds h.1 q) e
  where
    more : (o : Option ℕ) (left : List (Option ℕ)) → ((c : ℕ) → o ≡ Some c → IsScalar c) → ((ds : List ℕ) → all_there left ≡ Some ds → AllByRecursion IsScalar ds) → all_there (o ∷ left) ≡ Some cs → AllByRecursion IsScalar cs
    more None left f g e = absurd (none_some None cs refl e)
    more (Some c) left f g e =
        let (ds, there, is) = then_some (all_there left) (λ ys. Some (c ∷ ys)) cs e in
        subst (AllByRecursion IsScalar) (same_some _ (c ∷ ds) cs refl is) (f c refl, g ds there)

    by_pair : (b : Bool) → (is_high_surrogate u && is_low_surrogate v) ≡ b
        → ((ds : List ℕ) → all_there (utf16_chars us) ≡ Some ds → AllByRecursion IsScalar ds) → ((ds : List ℕ) → all_there (utf16_chars (v ∷ us)) ≡ Some ds → AllByRecursion IsScalar ds)
        → all_there (if b then Some (surrogate_pair_char u v) ∷ utf16_chars us else lone_unit_char u ∷ utf16_chars (v ∷ us)) ≡ Some cs → AllByRecursion IsScalar cs
    by_pair true p f g e = more (Some (surrogate_pair_char u v)) (utf16_chars us) (λ c q. subst IsScalar (same_some _ (surrogate_pair_char u v) c refl q) (pair_scalar u v p)) f e
    by_pair false p f g e = more (lone_unit_char u) (utf16_chars (v ∷ us)) (λ c q. alone_scalar u c h.0 q) g e

decoded_scalars : (f : FixedEncoding) (bytes cs : List ℕ) → AreBytes bytes → decoded f bytes ≡ Some cs → AllByRecursion IsScalar cs
decoded_scalars Utf8 bytes cs h e =
    let (is, there) = when_some (is_utf8 bytes) (Some (chars bytes)) cs e in
    subst (AllByRecursion IsScalar) (same_some _ (chars bytes) cs refl there) (all_scalars (chars bytes) (scalars-chars bytes (IsUtf8-from_is_utf8 bytes is)))
decoded_scalars Utf16 bytes cs h e =
    let (us, there, is) = then_some (two_byte_units bytes) (λ us. all_there (utf16_chars us)) cs e in
    utf16_scalars us cs (units_small bytes us h there) is
decoded_scalars Latin1 bytes cs h e = subst (AllByRecursion IsScalar) (same_some _ bytes cs refl e) (bytes_scalars bytes h)

-- a text that is read is of scalar values
pub text_scalars : (encoding : StringEncoding) (bytes : List ℕ) (p n : ℕ) (cs : List ℕ) → AreBytes bytes → text_at encoding bytes p n ≡ Some cs → AllByRecursion IsScalar cs
text_scalars encoding bytes p n cs h e =
    let f : Form = form_of encoding n in
    let (inside, there) = when_some (lies_aligned bytes f.align p (byte_length f)) (decoded f.encoding (take (byte_length f) (drop p bytes))) cs e in
    decoded_scalars f.encoding (take (byte_length f) (drop p bytes)) cs (bytes_take (byte_length f) (drop p bytes) (bytes_drop p bytes h)) there
