-- Actions that ask for the same things in the same order, and give what is alike.
use Rattle.std.proofs.Common.{ℕ, Bool, true, false, List, [], Option, Some, None}
use Rattle.std.specs.Prelude.{if◌then◌else◌}
use Rattle.fact_wasm.specs.declared.types.ValType.{ValType}
use Rattle.fact_types.specs.declared.import.Import.{Import}
use Rattle.fact_types.specs.declared.outside.CoreDef.{CoreDef}
use Rattle.fact_types.specs.declared.outside.MemoryOption.{MemoryOption}
use Rattle.fact_types.specs.declared.outside.Trap.{Trap as Reason}
use Rattle.fact_machine.specs.declared.types.CoreValue.{CoreValue}
use Rattle.fact_actions.specs.Actions.{Action, Give, Visit, Read, Write, MemoryLength, GetFlags, SetFlags, Ask, Unreachable, ◌>>=◌, trap, unless}
use Rattle.fact_actions.specs.Sides.{LiftLowerOptions, with_memory}

pub data Alike {A B : Type 0} (R : A → B → Type 0) : Action A → Action B → Type 0 where
  gives : (a : A) (b : B) → R a b → Alike R (Give a) (Give b)
  visits : (n : ℕ) {q : Action A} {r : Action B} → Alike R q r → Alike R (Visit n q) (Visit n r)
  reads : (n : ℕ) (m : CoreDef) (a : ℕ) {k : ℕ → Action A} {l : ℕ → Action B} → ((x : ℕ) → Alike R (k x) (l x)) → Alike R (Read n m a k) (Read n m a l)
  writes : (n : ℕ) (m : CoreDef) (a x : ℕ) {q : Action A} {r : Action B} → Alike R q r → Alike R (Write n m a x q) (Write n m a x r)
  lengths : (m : CoreDef) {k : ℕ → Action A} {l : ℕ → Action B} → ((x : ℕ) → Alike R (k x) (l x)) → Alike R (MemoryLength m k) (MemoryLength m l)
  gets : (i : ℕ) {k : ℕ → Action A} {l : ℕ → Action B} → ((x : ℕ) → Alike R (k x) (l x)) → Alike R (GetFlags i k) (GetFlags i l)
  sets : (i x : ℕ) {q : Action A} {r : Action B} → Alike R q r → Alike R (SetFlags i x q) (SetFlags i x r)
  asks : (i : Import) (args : List CoreValue) (ts : List ValType) {k : List CoreValue → Action A} {l : List CoreValue → Action B} → ((rs : List CoreValue) → Alike R (k rs) (l rs)) → Alike R (Ask i args ts k) (Ask i args ts l)
  stops : Alike R Unreachable Unreachable

-- an action is alike itself
pub alike_same : {A : Type 0} {R : A → A → Type 0} → ((a : A) → R a a) → (q : Action A) → Alike R q q
alike_same h (Give a) = gives a a (h a)
alike_same h (Visit n q) = visits n (alike_same h q)
alike_same h (Read n m a k) = reads n m a (λ x. alike_same h (k x))
alike_same h (Write n m a x q) = writes n m a x (alike_same h q)
alike_same h (MemoryLength m k) = lengths m (λ x. alike_same h (k x))
alike_same h (GetFlags i k) = gets i (λ x. alike_same h (k x))
alike_same h (SetFlags i x q) = sets i x (alike_same h q)
alike_same h (Ask i args ts k) = asks i args ts (λ rs. alike_same h (k rs))
alike_same h Unreachable = stops

pub alike_bind : {A B C D : Type 0} {R : A → B → Type 0} {S : C → D → Type 0} {q : Action A} {r : Action B} {f : A → Action C} {g : B → Action D}
    → Alike R q r → ((a : A) (b : B) → R a b → Alike S (f a) (g b)) → Alike S (q >>= f) (r >>= g)
alike_bind (gives a b e) h = h a b e
alike_bind (visits n c) h = visits n (alike_bind c h)
alike_bind (reads n m a c) h = reads n m a (λ x. alike_bind (c x) h)
alike_bind (writes n m a x c) h = writes n m a x (alike_bind c h)
alike_bind (lengths m c) h = lengths m (λ x. alike_bind (c x) h)
alike_bind (gets i c) h = gets i (λ x. alike_bind (c x) h)
alike_bind (sets i x c) h = sets i x (alike_bind c h)
alike_bind (asks i args ts c) h = asks i args ts (λ rs. alike_bind (c rs) h)
alike_bind stops h = stops

pub alike_trap : {A B : Type 0} {R : A → B → Type 0} (t : Reason) → Alike R (trap t) (trap t)
alike_trap t = asks _ [] [] (λ rs. stops)

pub alike_unless : {A B : Type 0} {R : A → B → Type 0} (t : Reason) (b : Bool) {q : Action A} {r : Action B} → Alike R q r → Alike R (unless t b q) (unless t b r)
alike_unless t true h = h
alike_unless t false h = alike_trap t

pub alike_if : {A B : Type 0} {R : A → B → Type 0} (b : Bool) {q q' : Action A} {r r' : Action B} → Alike R q r → Alike R q' r' → Alike R (if b then q else q') (if b then r else r')
alike_if true h g = h
alike_if false h g = g

pub alike_memory : {A B : Type 0} {R : A → B → Type 0} (o : LiftLowerOptions) {k : MemoryOption → Action A} {l : MemoryOption → Action B} → ((m : MemoryOption) → Alike R (k m) (l m)) → Alike R (with_memory o k) (with_memory o l)
alike_memory {A} {B} {R} o {k} {l} h = by_memory o.memory
  where
    by_memory : (x : Option MemoryOption) → Alike R (elim x [ None ↦ Unreachable | Some m ↦ k m ]) (elim x [ None ↦ Unreachable | Some m ↦ l m ])
    by_memory None = stops
    by_memory (Some m) = h m
