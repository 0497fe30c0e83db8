-- Laws of numbers in memory (core specification, "Execution", "Numerics", "Storage", and "Memory Instructions").
use Rattle.std.specs.Prelude.{◌≡◌, ℕ, ◌+◌, ◌%◌, ◌^◌, ◌≤◌, ◌<◌, ◌⊎◌, List, length, slice_index}
use Rattle.fact_machine.specs.World.{bytes_of, number_of, number_at, with_number}

-- The bytes of a number are its digits to the base 256, as many as are asked for, the lowest first.
pub record DigitsOf (n value : ℕ) : Type 0 where
  pub count : length (bytes_of n value) ≡ n
  pub below : (k : ℕ) → slice_index (bytes_of n value) k < 256
  pub number : number_of (bytes_of n value) ≡ value % 256 ^ n

abbrev pub Digits : Type 0
Digits = (n value : ℕ) → DigitsOf n value

-- A load after a store at the same place gives the number that was stored, modulo 256 to the power of its bytes.
abbrev pub LoadAfterStore : Type 0
LoadAfterStore = (memory : List ℕ) (n address value : ℕ) → address + n ≤ length memory → number_at n (with_number n memory address value) address ≡ value % 256 ^ n

-- A store changes no byte outside its range.
abbrev pub StoreKeepsOthers : Type 0
StoreKeepsOthers =
    (memory : List ℕ) (n address value k : ℕ) → address + n ≤ length memory → (k < address) ⊎ (address + n ≤ k)
    → slice_index (with_number n memory address value) k ≡ slice_index memory k

-- A store keeps the length.
abbrev pub StoreKeepsLength : Type 0
StoreKeepsLength = (memory : List ℕ) (n address value : ℕ) → address + n ≤ length memory → length (with_number n memory address value) ≡ length memory

-- two ranges with no byte in common
abbrev pub Apart : (n a m b : ℕ) → Type 0
Apart n a m b = (a + n ≤ b) ⊎ (b + m ≤ a)

-- A load does not see a store to a range apart from its own.
abbrev pub LoadApart : Type 0
LoadApart =
    (memory : List ℕ) (n a value m b : ℕ) → a + n ≤ length memory → Apart n a m b → number_at m (with_number n memory a value) b ≡ number_at m memory b

-- Stores to ranges apart from one another commute.
abbrev pub StoresCommute : Type 0
StoresCommute =
    (memory : List ℕ) (n a u m b v : ℕ) → a + n ≤ length memory → b + m ≤ length memory → Apart n a m b
    → with_number m (with_number n memory a u) b v ≡ with_number n (with_number m memory b v) a u
