-- What spells a text are bytes.
use Rattle.std.proofs.Common.{◌≡◌, ℕ, ◌+◌, ◌-◌, ◌/◌, ◌%◌, ◌<◌, ⊎_elim, Bool, true, false, cond, List, [], ◌∷◌, refl, arith}
use Rattle.std.specs.Prelude.{nat_lt}
use Rattle.std.specs.Char.{IsScalar, encode_utf8}
use Rattle.std.specs.List.{AllByRecursion}
use Rattle.std.proofs.Math.Utf8.{scalar_cases}
use Rattle.std.proofs.lemmas.Bool.{ltb-true}
use Rattle.std.proofs.lemmas.List.Elements.{All-append, All-from_recursion, All-nil}
use Rattle.fact_types.specs.declared.outside.FixedEncoding.{FixedEncoding}
use Rattle.fact_types.specs.declared.outside.FixedEncoding.TheVariants.{Utf8, Utf16, Latin1}
use Rattle.fact_values.specs.Texts.{AreSpelled, IsSpelled, char_spelling, low_first, spelled_text}
use Rattle.fact_host.specs.Rules.{AreWrittenBytes}

abbrev AreSmall : List ℕ → Type 0
AreSmall bytes = AllByRecursion (λ b. b < 256) bytes

scalar_small : (c : ℕ) → IsScalar c → c < 1114112
scalar_small c h = ⊎_elim (λ l. omega (arith, l)) (λ r. r.1) (scalar_cases c h)

small_utf8 : (c : ℕ) → c < 1114112 → AreSmall (encode_utf8 c)
unfolding encode_utf8
small_utf8 c h = go (nat_lt c 128) (nat_lt c 2048) (nat_lt c 65536) refl refl refl
  where
    go : (x y z : Bool) → nat_lt c 128 ≡ x → nat_lt c 2048 ≡ y → nat_lt c 65536 ≡ z
        → AreSmall (cond x (c ∷ []) (cond y ((192 + c / 64) ∷ (128 + c % 64) ∷ []) (cond z ((224 + c / 4096) ∷ (128 + (c / 64) % 64) ∷ (128 + c % 64) ∷ []) ((240 + c / 262144) ∷ (128 + (c / 4096) % 64) ∷ (128 + (c / 64) % 64) ∷ (128 + c % 64) ∷ []))))
    go true y z a b d = let l = ltb-true c 128 a in (omega (arith, l), tt)
    go false true z a b d = let l = ltb-true c 2048 b in (omega (arith, l), (omega arith, tt))
    go false false true a b d = let l = ltb-true c 65536 d in (omega (arith, l), (omega arith, (omega arith, tt)))
    go false false false a b d = (omega (arith, h), (omega arith, (omega arith, (omega arith, tt))))

small_utf16 : (c : ℕ) → c < 1114112 → AreSmall (char_spelling Utf16 c)
small_utf16 c h = go (nat_lt c 0x1_0000) refl
  where
    go : (b : Bool) → nat_lt c 0x1_0000 ≡ b → AreSmall (low_first (cond b (c ∷ []) ((0xD800 + (c - 0x1_0000) / 0x400) ∷ (0xDC00 + (c - 0x1_0000) % 0x400) ∷ [])))
    go true e = let l = ltb-true c 0x1_0000 e in (omega arith, (omega (arith, l), tt))
    go false e = (omega arith, (omega (arith, h), (omega arith, (omega arith, tt))))

small_char : (e : FixedEncoding) (c : ℕ) → IsSpelled e c → AreSmall (char_spelling e c)
small_char Utf8 c h = small_utf8 c (scalar_small c h)
small_char Utf16 c h = small_utf16 c (scalar_small c h)
small_char Latin1 c h = (h, tt)

pub spelled_bytes : (e : FixedEncoding) (text : List ℕ) → AreSpelled e text → AreWrittenBytes (spelled_text e text)
spelled_bytes e [] h = All-nil (λ b. b < 256)
spelled_bytes e (c ∷ text) h = All-append (λ b. b < 256) (char_spelling e c) (spelled_text e text) (All-from_recursion (λ b. b < 256) (char_spelling e c) (small_char e c h.0)) (spelled_bytes e text h.1)
