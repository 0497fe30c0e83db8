-- Actions: what an adapter asks of memories, flags and the outside, one thing after another, until it has what it gives.
-- An action knows nothing of instructions, locals, places of imports or helpers.
use Rattle.std.specs.Prelude.{ℕ, zero, suc, ◌++◌, Bool, true, false, List, []}
use Rattle.fact_wasm.specs.declared.types.ValType.{ValType}
use Rattle.fact_types.specs.declared.outside.CoreDef.{CoreDef}
use Rattle.fact_types.specs.declared.outside.Trap.{Trap}
use Rattle.fact_machine.specs.declared.types.CoreValue.{CoreValue}
use Rattle.fact_types.specs.declared.import.Import.{Import}
use Rattle.fact_types.specs.declared.import.Import.TheVariants as import

pub data Action (A : Type 0) : Type 0 where
  Give : A → Action A
  -- a node of a value, of this weight, is moved
  Visit : (weight : ℕ) → Action A → Action A
  -- the number that so many bytes of a memory make at an address, the lowest first
  Read : (size : ℕ) (memory : CoreDef) (address : ℕ) → (ℕ → Action A) → Action A
  -- the lowest bytes of a number are put at an address
  Write : (size : ℕ) (memory : CoreDef) (address number : ℕ) → Action A → Action A
  -- the length of a memory, in bytes
  MemoryLength : (memory : CoreDef) → (ℕ → Action A) → Action A
  -- the flags of an instance
  GetFlags : (instance : ℕ) → (ℕ → Action A) → Action A
  SetFlags : (instance number : ℕ) → Action A → Action A
  -- an imported function is called, which answers values of these types
  Ask : Import → (args : List CoreValue) (results : List ValType) → (List CoreValue → Action A) → Action A
  -- a trap without a call
  Unreachable : Action A

-- what is done with what an action gives
infixl 10 ◌>>=◌
abbrev pub ◌>>=◌ : {A B : Type 0} → Action A → (A → Action B) → Action B
Give a >>= f = f a
Visit n p >>= f = Visit n (p >>= f)
Read n m a k >>= f = Read n m a (λ x. k x >>= f)
Write n m a x p >>= f = Write n m a x (p >>= f)
MemoryLength m k >>= f = MemoryLength m (λ x. k x >>= f)
GetFlags i k >>= f = GetFlags i (λ x. k x >>= f)
SetFlags i x p >>= f = SetFlags i x (p >>= f)
Ask i args ts k >>= f = Ask i args ts (λ rs. k rs >>= f)
Unreachable >>= f = Unreachable

-- one action and then another
infixl 10 ◌>>◌
abbrev pub ◌>>◌ : {A B : Type 0} → Action A → Action B → Action B
p >> q = p >>= (λ a. q)

-- a trap: its function is called, which does not return
abbrev pub trap : {A : Type 0} → Trap → Action A
trap t = Ask (import.Trap t) [] [] (λ rs. Unreachable)

-- a test, with a trap where it fails
abbrev pub unless : {A : Type 0} → Trap → Bool → Action A → Action A
unless t true p = p
unless t false p = trap t

-- what is given for each number from one on, so many times, one behind the other
abbrev pub each_from : {A : Type 0} → ℕ → ℕ → (ℕ → Action (List A)) → Action (List A)
each_from i zero f = Give []
each_from i (suc n) f = f i >>= (λ xs. each_from (suc i) n f >>= (λ ys. Give (xs ++ ys)))

abbrev pub each : {A : Type 0} → ℕ → (ℕ → Action (List A)) → Action (List A)
each n f = each_from 0 n f
