-- What holds of every action by which values are moved, where it holds of the parts that such actions are made of.
use Rattle.std.proofs.Common.{◌≡◌, ℕ, zero, suc, ◌+◌, ◌≤◌, Bool, true, false, List, [], ◌∷◌, ◌++◌, Option, Some, None, refl, arith, inl, inr}
use Rattle.std.specs.Prelude.{◌⊎◌, nat_eq, nat_lt, ◌%◌, ◌^◌, if◌then◌else◌}
use Rattle.fact_wasm.specs.declared.types.ValType.{ValType}
use Rattle.fact_types.specs.declared.outside.CoreDef.{CoreDef}
use Rattle.fact_types.specs.declared.outside.Trap.{Trap}
use Rattle.fact_machine.specs.declared.types.CoreValue.{CoreValue}
use Rattle.fact_machine.specs.declared.types.CoreValue.TheVariants.{I32, I64, F32, F64, Func}
use Rattle.fact_types.specs.declared.import.Import.{Import}
use Rattle.fact_types.specs.declared.outside.MemoryOption.{MemoryOption}
use Rattle.fact_actions.specs.Actions.{Action, Give, Visit, Read, Write, MemoryLength, Ask, Unreachable, ◌>>=◌, trap, unless, each_from}
use Rattle.fact_actions.specs.Sides.{LiftLowerOptions, Transfer, Source, Values, AtAddress, Target, Slots, Into, bytes_of_addresses, nth_part, nth_spot, low_half, in_value, with_memory, read_number, write_number, read_pair, write_pair, check_region, reallocate}
use Rattle.fact_actions.specs.Order.{IsValueCall}
use Rattle.fact_actions.specs.TypedAnswers.{result_types}

-- the memory of one side or of the other
abbrev pub IsSideMemory : (from to : LiftLowerOptions) → CoreDef → Type 0
IsSideMemory from to d = (m : MemoryOption) × (from.memory ≡ Some m ⊎ to.memory ≡ Some m) × (m.def ≡ d)

-- P c A q is to hold of an action q that makes no more than c calls beside those of the nodes that it visits and that of a trap
-- which ends it, where memories are read that are so.
pub record IsPlain (Has : CoreDef → Type 0) (P : ℕ → (A : Type 0) → Action A → Type 0) : Type 1 where
  pub more : (c d : ℕ) (A : Type 0) (q : Action A) → c ≤ d → P c A q → P d A q
  pub gives : (A : Type 0) (a : A) → P 0 A (Give a)
  pub stops : (A : Type 0) → P 0 A Unreachable
  pub traps : (A : Type 0) (t : Trap) → P 0 A (trap t)
  pub reads : (c : ℕ) (A : Type 0) (size : ℕ) (m : CoreDef) (a : ℕ) (k : ℕ → Action A) → Has m → ((x : ℕ) → P c A (k x)) → P c A (Read size m a k)
  pub lengths : (c : ℕ) (A : Type 0) (m : CoreDef) (k : ℕ → Action A) → Has m → ((x : ℕ) → P c A (k x)) → P c A (MemoryLength m k)

-- A node makes no more than 30 calls of its own. Writes go to the memory that values go to.
pub record IsKept (tr : Transfer) (P : ℕ → (A : Type 0) → Action A → Type 0) : Type 1 where
  pub plain : IsPlain (IsSideMemory tr.from tr.to) P
  pub writes : (c : ℕ) (A : Type 0) (size : ℕ) (m : MemoryOption) (a x : ℕ) (q : Action A) → tr.to.memory ≡ Some m → P c A q → P c A (Write size m.def a x q)
  pub visits : (n : ℕ) (A : Type 0) (q : Action A) → 1 ≤ n → P 30 A q → P 0 A (Visit n q)
  pub values : (c : ℕ) (A : Type 0) (i : Import) (args : List CoreValue) (ts : List ValType) (k : List CoreValue → Action A)
      → IsValueCall tr.from tr.to i → ((core : CoreDef → List ValType) (start : (callback post_return : Option CoreDef) → List ValType) → ts ≡ result_types core start i) → ((rs : List CoreValue) → P c A (k rs)) → P (1 + c) A (Ask i args ts k)
  pub requests : (c : ℕ) (A : Type 0) (t : Trap) (old old_size align new_size : ℕ) (k : ℕ → Action A)
      → ((q : ℕ) → P c A (k q)) → P (7 + c) A (reallocate tr.concurrency tr.to t old old_size align new_size k)
  pub binds : (c d : ℕ) (A B : Type 0) (q : Action A) (f : A → Action B) → P c A q → ((a : A) → P d B (f a)) → P (c + d) B (q >>= f)

module _ {Has : CoreDef → Type 0} {P : ℕ → (A : Type 0) → Action A → Type 0} (kept : IsPlain Has P) where
  -- ---- parts

  pub from_none : (c : ℕ) (A : Type 0) (q : Action A) → P 0 A q → P c A q
  from_none c A q h = kept.more 0 c A q (omega arith) h

  pub unless_kept : (c : ℕ) (A : Type 0) (t : Trap) (b : Bool) (q : Action A) → P c A q → P c A (unless t b q)
  unless_kept c A t true q h = h
  unless_kept c A t false q h = from_none c A (trap t) (kept.traps A t)

  pub if_kept : (c : ℕ) (A : Type 0) (b : Bool) (q r : Action A) → P c A q → P c A r → P c A (if b then q else r)
  if_kept c A true q r h g = h
  if_kept c A false q r h g = g

  -- what hangs on something that may not be there
  or_stop : (c : ℕ) (A X : Type 0) (o : Option X) (k : X → Action A) → ((x : X) → o ≡ Some x → P c A (k x)) → P c A (elim o [ None ↦ Unreachable | Some x ↦ k x ])
  or_stop c A X None k h = from_none c A Unreachable (kept.stops A)
  or_stop c A X (Some x) k h = h x refl

  pub memory_kept : (c : ℕ) (A : Type 0) (o : LiftLowerOptions) (k : MemoryOption → Action A) → ((m : MemoryOption) → o.memory ≡ Some m → P c A (k m)) → P c A (with_memory o k)
  memory_kept c A o k h = or_stop c A MemoryOption o.memory k h

  low_kept : (c : ℕ) (A : Type 0) (debug : Bool) (v : CoreValue) (k : ℕ → Action A) → ((n : ℕ) → P c A (k n)) → P c A (low_half debug v k)
  low_kept c A true (I32 n) k h = h _
  low_kept c A true (I64 n) k h = unless_kept c A _ (nat_lt n (2 ^ 32)) (k (n % 2 ^ 32)) (h _)
  low_kept c A true (F32 n) k h = h _
  low_kept c A true (F64 n) k h = unless_kept c A _ (nat_lt n (2 ^ 32)) (k (n % 2 ^ 32)) (h _)
  low_kept c A true (Func f) k h = h _
  low_kept c A false v k h = h _

  value_kept : (c : ℕ) (A : Type 0) (debug : Bool) (size : ℕ) (vs : List CoreValue) (k : ℕ → Action A) → ((n : ℕ) → P c A (k n)) → P c A (in_value debug size vs k)
  value_kept c A debug size [] k h = from_none c A Unreachable (kept.stops A)
  value_kept c A debug size (v ∷ vs) k h = if_kept c A (nat_eq size 8) _ _ (h _) (low_kept c A debug v k h)

  pub read_kept : (c : ℕ) (A : Type 0) (debug : Bool) (o : LiftLowerOptions) (see : (m : MemoryOption) → o.memory ≡ Some m → Has m.def) (size : ℕ) (s : Source) (k : ℕ → Action A) → ((n : ℕ) → P c A (k n)) → P c A (read_number debug o size s k)
  read_kept c A debug o see size (Values vs) k h = value_kept c A debug size vs k h
  read_kept c A debug o see size (AtAddress a) k h = memory_kept c A o _ (λ m e. kept.reads c A size m.def a k (see m e) h)

  pub read_pair_kept : (c : ℕ) (A : Type 0) (debug : Bool) (o : LiftLowerOptions) (see : (m : MemoryOption) → o.memory ≡ Some m → Has m.def) (s : Source) (k : ℕ → ℕ → Action A) → ((p n : ℕ) → P c A (k p n)) → P c A (read_pair debug o s k)
  read_pair_kept c A debug o see s k h =
      read_kept c A debug o see (bytes_of_addresses o) (nth_part 1 (bytes_of_addresses o) 0 s) _ (λ p.
      read_kept c A debug o see (bytes_of_addresses o) (nth_part 1 (bytes_of_addresses o) 1 s) (k p) (λ n. h p n))

  pub region_kept : (c : ℕ) (A : Type 0) (o : LiftLowerOptions) (see : (m : MemoryOption) → o.memory ≡ Some m → Has m.def) (t : Trap) (p bytes align : ℕ) (q : Action A) → P c A q → P c A (check_region o t p bytes align q)
  region_kept c A o see t p bytes align q h = unless_kept c A _ _ _ (memory_kept c A o _ (λ m e. kept.lengths c A m.def _ (see m e) (λ x. unless_kept c A t _ q h)))

module _ {tr : Transfer} {P : ℕ → (A : Type 0) → Action A → Type 0} (kept : IsKept tr P) where
  pub from_seen : (m : MemoryOption) → tr.from.memory ≡ Some m → IsSideMemory tr.from tr.to m.def
  from_seen m e = (m, inl e, refl)

  pub to_seen : (m : MemoryOption) → tr.to.memory ≡ Some m → IsSideMemory tr.from tr.to m.def
  to_seen m e = (m, inr e, refl)

  -- what is read of the side that values come from
  pub from_read : (c : ℕ) (A : Type 0) (size : ℕ) (s : Source) (k : ℕ → Action A) → ((n : ℕ) → P c A (k n)) → P c A (read_number tr.debug tr.from size s k)
  from_read c A size s k h = read_kept kept.plain c A tr.debug tr.from from_seen size s k h

  pub from_pair : (c : ℕ) (A : Type 0) (s : Source) (k : ℕ → ℕ → Action A) → ((p n : ℕ) → P c A (k p n)) → P c A (read_pair tr.debug tr.from s k)
  from_pair c A s k h = read_pair_kept kept.plain c A tr.debug tr.from from_seen s k h

  pub from_region : (c : ℕ) (A : Type 0) (t : Trap) (p bytes align : ℕ) (q : Action A) → P c A q → P c A (check_region tr.from t p bytes align q)
  from_region c A t p bytes align q h = region_kept kept.plain c A tr.from from_seen t p bytes align q h

  pub write_kept : (size : ℕ) (d : Target) (n : ℕ) → P 0 (List CoreValue) (write_number tr.to size d n)
  write_kept size (Slots []) n = kept.plain.gives _ _
  write_kept size (Slots (t ∷ ts)) n = kept.plain.gives _ _
  write_kept size (Into a) n = memory_kept kept.plain 0 _ tr.to _ (λ m e. kept.writes 0 _ size m a n (Give []) e (kept.plain.gives _ []))

  pub write_pair_kept : (d : Target) (p n : ℕ) → P 0 (List CoreValue) (write_pair tr.to d p n)
  write_pair_kept d p n =
      kept.binds 0 0 _ _ _ _ (write_kept (bytes_of_addresses tr.to) (nth_spot 1 (bytes_of_addresses tr.to) 0 d) p) (λ a.
      kept.binds 0 0 _ _ _ _ (write_kept (bytes_of_addresses tr.to) (nth_spot 1 (bytes_of_addresses tr.to) 1 d) n) (λ b. kept.plain.gives _ (a ++ b)))

  -- one after another
  pub each_kept : (A : Type 0) (i n : ℕ) (f : ℕ → Action (List A)) → ((j : ℕ) → P 0 (List A) (f j)) → P 0 (List A) (each_from i n f)
  each_kept A i zero f h = kept.plain.gives _ []
  each_kept A i (suc n) f h = kept.binds 0 0 _ _ _ _ (h i) (λ xs. kept.binds 0 0 _ _ _ _ (each_kept A (suc i) n f h) (λ ys. kept.plain.gives _ _))
