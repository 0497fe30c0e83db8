-- Numbers whose bits are those of another number, each at a place of its own: the moves of bits that make them, and the code of these.
use Rattle.std.specs.Prelude.{◌≡◌, ℕ, ◌+◌, ◌-◌, ◌*◌, ◌^◌, ◌<◌, ◌≤◌, List, [], ◌∷◌, ◌++◌, length, Option, Some, None, All, slice_get, nat_lt, bit_and, bit_or, if◌then◌else◌}
use Rattle.std.specs.Int.{bit_at}
use Rattle.std.specs.List.{AllByRecursion}
use Rattle.fact_wasm.specs.declared.instr.Instr.{Instr}
use Rattle.fact_wasm.specs.declared.instr.Instr.TheVariants as I
use Rattle.fact_machine.specs.Numerics.{ishl, ishr_u}
use Rattle.fact_emit.specs.declared.bits.BitMove.{BitMove}

-- ---- bits at places

-- the bit of a number at a place, and 0 where there is none
abbrev pub placed_bit : Option ℕ → ℕ → ℕ
placed_bit None n = 0
placed_bit (Some i) n = bit_at n i

-- the number of its bits at these places, the first the lowest
abbrev pub placed_bits : List (Option ℕ) → ℕ → ℕ
placed_bits [] n = 0
placed_bits (i ∷ is) n = placed_bit i n + 2 * placed_bits is n

-- one of 32 bits
abbrev pub IsBitPlace : Option ℕ → Type 0
IsBitPlace None = Unit {0}
IsBitPlace (Some i) = i < 32

-- at most 32 places, each of one of 32 bits
pub record AreBitPlaces (is : List (Option ℕ)) : Type 0 where
  pub few : length is ≤ 32
  pub bits : All IsBitPlace is

-- ---- moves of bits

-- a number shifted by the distance of two places
abbrev pub shifted : (from to : ℕ) → ℕ → ℕ
shifted from to n = if nat_lt to from then ishr_u 32 n (from - to) else (if nat_lt from to then ishl 32 n (to - from) else n)

-- the bits of a number that a move takes, where it takes them to
abbrev pub moved : BitMove → ℕ → ℕ
moved m n = bit_and (shifted m.from m.to n) m.mask

abbrev pub moved_bits : List BitMove → ℕ → ℕ
moved_bits [] n = 0
moved_bits (m ∷ ms) n = bit_or (moved_bits ms n) (moved m n)

-- a move of bits to places below this one
pub record IsMove (k : ℕ) (m : BitMove) : Type 0 where
  pub from : m.from < 32
  pub to : m.to < 32
  pub mask : m.mask < 2 ^ k

-- The move at a place takes bits as far as from one place to another.
pub record IsTogether (ms : List BitMove) (at from to : ℕ) : Type 0 where
  pub move : BitMove
  pub there : slice_get ms at ≡ Some move
  pub same : move.from + to ≡ from + move.to

-- The bit at a place, where there is one, goes to another place too, past those that the moves take bits to.
pub record AddsPlace (old new : List BitMove) (place : Option ℕ) (to : ℕ) : Type 0 where
  pub few : length new ≤ length old + 1
  pub each : AllByRecursion (IsMove (to + 1)) new
  pub number : (n : ℕ) → moved_bits new n ≡ moved_bits old n + placed_bit place n * 2 ^ to

-- These moves make of each number that of its bits at these places. There are at most as many of them.
pub record MakeBits (ms : List BitMove) (is : List (Option ℕ)) : Type 0 where
  pub few : length ms ≤ length is
  pub number : (n : ℕ) → moved_bits ms n ≡ placed_bits is n

-- ---- the code

abbrev pub shift_code : (from to : ℕ) → List Instr
shift_code from to = if nat_lt to from then (I.I32Const (from - to) ∷ I.I32ShrU ∷ []) else (if nat_lt from to then (I.I32Const (to - from) ∷ I.I32Shl ∷ []) else [])

-- the bits that a move takes of a number in a local, beside those of a number on the stack
abbrev pub bit_move_code : (local : ℕ) → BitMove → List Instr
bit_move_code local m = I.LocalGet local ∷ (shift_code m.from m.to ++ (I.I32Const m.mask ∷ I.I32And ∷ I.I32Or ∷ []))

-- from the last move on
abbrev pub bit_moves_code : (local : ℕ) → List BitMove → List Instr
bit_moves_code local [] = I.I32Const 0 ∷ []
bit_moves_code local (m ∷ ms) = bit_moves_code local ms ++ bit_move_code local m
