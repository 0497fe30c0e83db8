-- What is put in a memory that has room, so that it is read there: numbers, values one behind the other, and what stands behind a pointer.
use Rattle.std.proofs.Common.{◌≡◌, ℕ, zero, suc, ◌+◌, ◌*◌, ◌/◌, ◌%◌, ◌^◌, ◌≤◌, ◌<◌, List, [], ◌∷◌, ◌++◌, length, Option, Some, refl, ap, ◌∙◌, arith, lit<, take, drop}
use Rattle.std.specs.Prelude.{sum_by}
use Rattle.std.specs.List.{AllByRecursion}
use Rattle.std.proofs.lemmas.List.Elements.{All-append, All-cons, All-drop, All-nil, All-take}
use Rattle.std.proofs.lemmas.List.Sums.{sum_by-cons}
use Rattle.std.proofs.lemmas.Nat.{mod_below}
use Rattle.fact_machine.specs.World.{bytes_of, put_at, with_number}
use Rattle.fact_types.specs.Options.{◌>>=◌}
use Rattle.fact_values.specs.Numbers.{number_in}
use Rattle.fact_values.specs.Places.{each_at}
use Rattle.fact_lowering.specs.Lowered.{IsWritten}
use Rattle.fact_lowering.specs.Stores.{IsShort}
use Rattle.fact_lowering.proofs.Agreeing.{number_written, written_also, written_both, written_nothing, written_wider}
use Rattle.fact_lowering.proofs.StoreWalks.{ReadsAll}
use Rattle.fact_host.specs.Rules.{AreWrittenBytes}

-- A memory of bytes, in which so much fits behind a cursor.
pub record HasBytes (low most : ℕ) (m : List ℕ) : Type 0 where
  pub fits : low + most ≤ length m
  pub short : IsShort m
  pub are : AreWrittenBytes m

-- Something can be put at a place and behind a cursor, so that it is read.
pub record Puts (R : List ℕ → Type 0) (place size low most : ℕ) (m : List ℕ) : Type 0 where
  pub high : ℕ
  pub after : List ℕ
  pub written : IsWritten R place size low high most m after
  pub are : AreWrittenBytes after

-- ---- bytes

pub put_bytes : (bytes : List ℕ) (at : ℕ) (chunk : List ℕ) → AreWrittenBytes bytes → AreWrittenBytes chunk → AreWrittenBytes (put_at bytes at chunk)
put_bytes bytes at chunk h g =
    All-append (λ b. b < 256) (take at bytes) (chunk ++ drop (at + length chunk) bytes) (All-take (λ b. b < 256) at bytes h) (All-append (λ b. b < 256) chunk (drop (at + length chunk) bytes) g (All-drop (λ b. b < 256) (at + length chunk) bytes h))

pub number_bytes : (n v : ℕ) → AreWrittenBytes (bytes_of n v)
number_bytes zero v = All-nil (λ b. b < 256)
number_bytes (suc n) v = All-cons (λ b. b < 256) (v % 256) (bytes_of n (v / 256)) (mod_below v 256 (lit< tt)) (number_bytes n (v / 256))

-- ---- one thing and another

-- what is read tells something else, in a wider place and with more room
pub puts_wider : {R Q : List ℕ → Type 0} {place size low most : ℕ} {m : List ℕ} (place' size' most' : ℕ) → place' ≤ place → place + size ≤ place' + size' → most ≤ most' → ((b : List ℕ) → length m ≡ length b → R b → Q b) → Puts R place size low most m → Puts Q place' size' low most' m
puts_wider place' size' most' ge le more tells p = record { high = p.high; after = p.after; written = written_wider place' size' most' ge le more (written_also p.written tells); are = p.are }

-- the memory behind what was put
pub bytes_behind : {R : List ℕ → Type 0} {place size low most : ℕ} {m : List ℕ} (more all : ℕ) → most + more ≤ all → HasBytes low all m → (p : Puts R place size low most m) → HasBytes p.high more p.after
bytes_behind more all le h p = record {
  fits = omega (arith, h.fits, p.written.rises.few, p.written.changed.same_length, le);
  short = omega (arith, h.short, p.written.changed.same_length);
  are = p.are;
}

pub less_bytes : (low most all : ℕ) (m : List ℕ) → most ≤ all → HasBytes low all m → HasBytes low most m
less_bytes low most all m le h = record { fits = omega (arith, h.fits, le); short = h.short; are = h.are }

-- one thing, and another behind it
pub puts_both : {R Q : List ℕ → Type 0} {p n q k low most more : ℕ} {m : List ℕ} (place size : ℕ) → place ≤ p → p + n ≤ q → q + k ≤ place + size → q + k ≤ low → (v : Puts R p n low most m) → Puts Q q k v.high more v.after → Puts (λ b. R b × Q b) place size low (most + more) m
puts_both place size ge before within below v w = record { high = w.high; after = w.after; written = written_both place size ge before within below v.written w.written; are = w.are }

-- nothing
pub puts_nothing : (R : List ℕ → Type 0) (place size low : ℕ) (m : List ℕ) → HasBytes low 0 m → ((b : List ℕ) → R b) → Puts R place size low 0 m
puts_nothing R place size low m h reads = record { high = low; after = m; written = written_nothing R place size low m (omega (arith, h.fits)) (λ b e. reads b); are = h.are }

-- a number
pub puts_number : (R : List ℕ → Type 0) (size a low n : ℕ) (m : List ℕ) → a + size ≤ low → HasBytes low 0 m → n < 256 ^ size → ((b : List ℕ) → number_in b size a ≡ Some n → R b) → Puts R a size low 0 m
puts_number R size a low n m below h small reads = record {
  high = low;
  after = with_number size m a n;
  written = written_also (number_written m size a n low below (omega (arith, h.fits)) small) (λ b e r. reads b r);
  are = put_bytes m a (bytes_of size n) h.are (number_bytes size n);
}

-- ---- items of one kind, one behind the other

module _ {X : Type 0} (f : List ℕ → ℕ → Option X) (P : List ℕ → ℕ → Type 0) (room : X → ℕ) (stride : ℕ) (Is : X → Type 0)
    (each : (x : X) → Is x → (at low : ℕ) (m : List ℕ) → at + stride ≤ low → HasBytes low (room x) m → Puts (λ b. (f b at ≡ Some x) × P b at) at stride low (room x) m) where
  one_read : (b : List ℕ) (x : X) (ys : List X) (c : ℕ) → (f b c ≡ Some x) × P b c → ReadsAll f P stride ys (c + stride) b → ReadsAll f P stride (x ∷ ys) c b
  one_read b x ys c r q = (ap (λ o. o >>= (λ v. each_at (length ys) stride (f b) (c + stride) >>= (λ vs. Some (v ∷ vs)))) r.0 ∙ ap (λ o. o >>= (λ vs. Some (x ∷ vs))) q.0, (r.1, q.1))

  pub puts_all : (xs : List X) → AllByRecursion Is xs → (at low : ℕ) (m : List ℕ) → at + length xs * stride ≤ low → HasBytes low (sum_by room xs) m → Puts (ReadsAll f P stride xs at) at (length xs * stride) low (sum_by room xs) m
  puts_all [] are at low m below h =
      puts_wider at (0 * stride) (sum_by room []) (omega arith) (omega arith) (omega arith) (λ b e r. r) (puts_nothing (ReadsAll f P stride [] at) at (0 * stride) low m (less_bytes low 0 (sum_by room []) m (omega arith) h) (λ b. (refl, tt)))
  puts_all (x ∷ xs) are at low m below h =
      let sum : sum_by room (x ∷ xs) ≡ room x + sum_by room xs = sum_by-cons room x xs in
      let first = each x are.0 at low m (omega (arith, below)) (less_bytes low (room x) (sum_by room (x ∷ xs)) m (omega (arith, sum)) h) in
      let behind = bytes_behind (sum_by room xs) (sum_by room (x ∷ xs)) (omega (arith, sum)) h first in
      let rest = puts_all xs are.1 (at + stride) first.high first.after (omega (arith, below, first.written.rises.up)) behind in
      puts_wider at (suc (length xs) * stride) (sum_by room (x ∷ xs)) (omega arith) (omega arith) (omega (arith, sum)) (λ b e r. one_read b x xs at r.0 r.1)
      (puts_both at (suc (length xs) * stride) (omega arith) (omega arith) (omega arith) (omega (arith, below)) first rest)
