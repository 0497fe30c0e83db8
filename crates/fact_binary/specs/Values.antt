-- What groups of seven bits stand for, and the laws of the shortest form (core specification, "Binary Format", "Values",
-- "Integers", LEB128).
use Rattle.std.specs.Prelude.{◌≡◌, ℤ, pos, negsuc, ℕ, ◌+◌, ◌-◌, ◌*◌, ◌%◌, ◌^◌, ◌<◌, ◌≤◌, List, [], ◌∷◌, length, nat_lt, if◌then◌else◌}
use Rattle.fact_binary.specs.Numbers.{unsigned, signed, magnitude}

-- bytes are groups: each but the last has 128 added, which says that more follow
abbrev pub AreGroups : List ℕ → Type 0
AreGroups [] = ⊥
AreGroups (b ∷ []) = b < 128
AreGroups (b ∷ c ∷ bs) = (128 ≤ b) × (b < 256) × AreGroups (c ∷ bs)

-- the number that groups stand for, the lowest first
abbrev pub value_of : List ℕ → ℕ
value_of [] = 0
value_of (b ∷ bs) = b % 128 + 128 * value_of bs

-- the number that they stand for in two's complement
abbrev pub signed_value_of : List ℕ → ℤ
signed_value_of bs = if nat_lt (2 * value_of bs) (128 ^ length bs) then pos (value_of bs) else negsuc (128 ^ length bs - 1 - value_of bs)

-- bytes are groups that stand for a value, and no fewer groups do
pub record IsShortest {V : Type 0} (meaning : List ℕ → V) (v : V) (bytes : List ℕ) : Type 0 where
  pub groups : AreGroups bytes
  pub means : meaning bytes ≡ v
  pub least : (others : List ℕ) → AreGroups others → meaning others ≡ v → length bytes ≤ length others

abbrev pub UnsignedIsShortest : Type 0
UnsignedIsShortest = (n : ℕ) → n < 2 ^ 64 → IsShortest value_of n (unsigned n)

abbrev pub SignedIsShortest : Type 0
SignedIsShortest = (z : ℤ) → magnitude z < 2 ^ 63 → IsShortest signed_value_of z (signed z)
