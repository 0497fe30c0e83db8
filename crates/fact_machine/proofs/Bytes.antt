-- The bytes of numbers, and bytes put over those of a memory.
use Rattle.std.proofs.Common.{◌≡◌, ℕ, zero, suc, ◌+◌, ◌-◌, ◌*◌, ◌/◌, ◌%◌, ◌^◌, ◌<◌, ◌≤◌, List, [], ◌∷◌, ◌++◌, Some, IfSome, slice_get, subst, refl, sym, ap, ◌∙◌, arith, lit<, length, get_or, take, drop, set, append_assoc}
use Rattle.std.proofs.Math.Nat.{pow-suc, pow-le-pow_right, one-le-pow, div-eq_of_lt}
use Rattle.std.proofs.Math.Arith.{mod-mul}
use Rattle.std.proofs.lemmas.Nat.{mod_below}
use Rattle.std.proofs.lemmas.List.{set-set, length-take-le, length-drop, take_all, take-append-drop, take_more_set, drop-set-lt}
use Rattle.fact_machine.specs.World.{bytes_of, number_of, put_at}
use Rattle.fact_machine.specs.Machine.{page_bytes}

-- ---- the bytes of a number

pub length-bytes_of : (n v : ℕ) → length (bytes_of n v) ≡ n
length-bytes_of zero v = refl
length-bytes_of (suc n) v = ap suc (length-bytes_of n (v / 256))

-- each is below 256
pub bytes_of_below : (n v k : ℕ) → get_or (bytes_of n v) k 0 < 256
bytes_of_below zero v k = lit< tt
bytes_of_below (suc n) v zero = mod_below v 256 (lit< tt)
bytes_of_below (suc n) v (suc k) = bytes_of_below n (v / 256) k

-- they make the number again, modulo 256 to the power of their count
pub number_of-bytes_of : (n v : ℕ) → number_of (bytes_of n v) ≡ v % 256 ^ n
number_of-bytes_of zero v = omega arith
number_of-bytes_of (suc n) v =
    let rest : number_of (bytes_of n (v / 256)) ≡ (v / 256) % 256 ^ n = number_of-bytes_of n (v / 256) in
    let wide : v % 256 ^ suc n ≡ v % (256 ^ n * 256) = ap (λ m. v % m) (pow-suc 256 n) in
    let digits : v % (256 ^ n * 256) ≡ (v / 256 % 256 ^ n) * 256 + v % 256 = mod-mul v (one-le-pow n 256 (lit< tt)) (lit< tt) in
    omega arith

-- the number that bytes make
pub number_below : (bs : List ℕ) → ((k : ℕ) → get_or bs k 0 < 256) → number_of bs < 256 ^ length bs
number_below [] h = lit< tt
number_below (b ∷ bs) h =
    let low : b < 256 = h 0 in
    let rest : number_of bs < 256 ^ length bs = number_below bs (λ k. h (suc k)) in
    let wide : 256 ^ suc (length bs) ≡ 256 ^ length bs * 256 = pow-suc 256 (length bs) in
    omega arith

-- at most 8 bytes make a number of 64 bits
pub eight_bytes : (n : ℕ) → n ≤ 8 → 256 ^ n ≤ 2 ^ 64
eight_bytes n le = let wide : 256 ^ n ≤ 256 ^ 8 = pow-le-pow_right (lit< tt) le in omega arith

-- the number that the first byte and the number of the others make
pub number_rest : (bs : List ℕ) (r : ℕ) → 1 ≤ length bs → ((k : ℕ) → get_or bs k 0 < 256) → r ≡ number_of (take (length bs - 1) (drop 1 bs)) → get_or bs 0 0 + 256 * r < 256 ^ length bs
number_rest [] r some h e = absurd (omega arith)
number_rest (b ∷ bs) r some h e =
    let len : length (b ∷ bs) - 1 ≡ length bs = omega arith in
    let all : take (length (b ∷ bs) - 1) bs ≡ bs = ap (λ n. take n bs) len ∙ take_all (length bs) bs (omega arith) in
    let rest : r ≡ number_of bs = e ∙ ap number_of all in
    let whole : b + 256 * number_of bs < 256 ^ length (b ∷ bs) = number_below (b ∷ bs) h in
    omega arith

-- ---- bytes put over those of a memory

put_none : (m : List ℕ) (a : ℕ) → put_at m a [] ≡ m
put_none m a = let e : a + 0 ≡ a = omega arith in ap (λ k. take a m ++ drop k m) e ∙ take-append-drop a m

put_next : (m : List ℕ) (a b : ℕ) (bs : List ℕ) → a < length m → put_at (set m a b) (a + 1) bs ≡ put_at m a (b ∷ bs)
put_next m a b bs h =
    let past : a < a + 1 + length bs = omega arith in
    let e : a + 1 + length bs ≡ a + suc (length bs) = omega arith in
    ap (λ l. l ++ (bs ++ drop (a + 1 + length bs) (set m a b))) (take_more_set m a b h)
    ∙ append_assoc (take a m) (b ∷ []) _
    ∙ ap (λ l. take a m ++ b ∷ (bs ++ l)) (drop-set-lt (a + 1 + length bs) m a b past ∙ ap (λ k. drop k m) e)

-- one byte more of a number, where some are put already
pub put_step : (m after : List ℕ) (place end left : ℕ) → place < end → place < length m → after ≡ set m place (left % 256)
    → put_at after (place + 1) (bytes_of (end - (place + 1)) (left / 256)) ≡ put_at m place (bytes_of (end - place) left)
put_step m after place end left lt room e =
    let rest : end - place ≡ suc (end - (place + 1)) = omega arith in
    ap (λ l. put_at l (place + 1) (bytes_of (end - (place + 1)) (left / 256))) e
    ∙ put_next m place (left % 256) (bytes_of (end - (place + 1)) (left / 256)) room
    ∙ ap (λ n. put_at m place (bytes_of n left)) (sym rest)

-- all are put
pub put_all : (m : List ℕ) (place end left : ℕ) → end ≤ place → put_at m place (bytes_of (end - place) left) ≡ m
put_all m place end left le =
    let rest : end - place ≡ 0 = omega arith in
    ap (λ n. put_at m place (bytes_of n left)) rest ∙ put_none m place

-- a memory taken out and put back with bytes put over it
pub put_back : (ms now after : List (List ℕ)) (index start : ℕ) (memory hole changed bs : List ℕ)
    → slice_get ms index ≡ Some memory → now ≡ set ms index hole → changed ≡ put_at memory start bs → after ≡ set now index changed
    → IfSome (slice_get ms index) (λ m. after ≡ set ms index (put_at m start bs))
put_back ms now after index start memory hole changed bs there taken put back =
    let is : after ≡ set ms index (put_at memory start bs) = back ∙ ap (λ l. set l index changed) taken ∙ set-set ms index hole changed ∙ ap (set ms index) put in
    subst (λ o. IfSome o (λ m. after ≡ set ms index (put_at m start bs))) (sym there) is

-- the length of a part of a memory
pub length-part : (m : List ℕ) (start end : ℕ) → end ≤ length m → length (take (end - start) (drop start m)) ≡ end - start
length-part m start end le = length-take-le (end - start) (drop start m) (omega (arith, length-drop start m))

-- ---- pages

-- no memory has a page of 2 to the power of 64 bytes
pub no_page : (len log2 : ℕ) → len < 2 ^ 64 → 64 ≤ log2 → 0 ≡ len / page_bytes (Some log2)
no_page len log2 h le =
    let wide : 2 ^ 64 ≤ 2 ^ log2 = pow-le-pow_right (lit< tt) le in
    let small : len < 2 ^ log2 = omega arith in
    sym (div-eq_of_lt small)
