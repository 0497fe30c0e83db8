-- What the numeric instructions compute (core specification, "Execution", "Numerics", "Integer Operations"). An integer of n
-- bits is the unsigned number below 2 to the power of n that its bits spell; a float is its bits.
use Rattle.std.specs.Prelude.{ℕ, Bool, true, false, not, ◌+◌, ◌-◌, ◌*◌, ◌/◌, ◌%◌, ◌^◌, nat_eq, nat_lt, nat_le, if◌then◌else◌}

-- "iadd", "isub" and "imul" are modulo 2 to the power of n.
abbrev pub iadd : ℕ → ℕ → ℕ → ℕ
iadd n i j = (i + j) % 2 ^ n

abbrev pub isub : ℕ → ℕ → ℕ → ℕ
isub n i j = (i + (2 ^ n - j)) % 2 ^ n

abbrev pub imul : ℕ → ℕ → ℕ → ℕ
imul n i j = (i * j) % 2 ^ n

-- "ishl" and "ishr_u": the count is taken modulo the width.
abbrev pub ishl : ℕ → ℕ → ℕ → ℕ
ishl n i k = (i * 2 ^ (k % n)) % 2 ^ n

abbrev pub ishr_u : ℕ → ℕ → ℕ → ℕ
ishr_u n i k = i / 2 ^ (k % n)

-- a test gives 1 where it holds, and else 0 ("bool")
abbrev pub truth : Bool → ℕ
truth true = 1
truth false = 0

-- "ieqz", "ieq", "ine", and the unsigned comparisons "ilt_u", "igt_u" and "ige_u"
abbrev pub ieqz : ℕ → ℕ
ieqz i = truth (nat_eq i 0)

abbrev pub ieq : ℕ → ℕ → ℕ
ieq i j = truth (nat_eq i j)

abbrev pub ine : ℕ → ℕ → ℕ
ine i j = truth (not (nat_eq i j))

abbrev pub ilt_u : ℕ → ℕ → ℕ
ilt_u i j = truth (nat_lt i j)

abbrev pub igt_u : ℕ → ℕ → ℕ
igt_u i j = truth (nat_lt j i)

abbrev pub ige_u : ℕ → ℕ → ℕ
ige_u i j = truth (nat_le j i)

-- "wrap" to 32 bits
abbrev pub wrap_32 : ℕ → ℕ
wrap_32 i = i % 2 ^ 32

-- "extend_s": the m low bits of a number as a signed number, in n bits
abbrev pub extend_s : ℕ → ℕ → ℕ → ℕ
extend_s m n i = let low = i % 2 ^ m in if nat_lt low (2 ^ (m - 1)) then low else low + (2 ^ n - 2 ^ m)
