use Rattle.std.proofs.Common.{◌≡◌, ℕ, false, nat_eq, ◌+◌, ◌-◌, ◌≤◌, List, ◌++◌, refl, sym, ap, ◌∙◌, append_assoc, arith}
use Rattle.std.proofs.lemmas.Bool.Decides.{nat_tests}
use Rattle.fact_wasm.specs.declared.instr.MemArg.{MemArg}
use Rattle.fact_binary.specs.Numbers.{unsigned}
use Rattle.fact_binary.specs.Grammar.{memarg}
use Rattle.fact_binary.proofs.Unique.{mem-unique}
use Rattle.fact_binary.proofs.read_code.memarg_at.Goals as goal

abbrev place : ℕ → ℕ → ℕ → MemArg
place o a i = record { offset = o; align = a; memory_index = i }

-- a memory that is told
told : (o a i : ℕ) → (i ≡ 0 → ⊥) → memarg (place o a i) ≡ unsigned (a + 64) ++ (unsigned i ++ unsigned o)
told o a i h = let e : nat_eq i 0 ≡ false = grind (arith, nat_tests) in rw e refl

module _ (bytes r1 r2 : List ℕ) (b : ℕ) (p : bytes ≡ unsigned b ++ r1) where
  first_memory : (o : ℕ) → r1 ≡ unsigned o ++ r2 → bytes ≡ memarg (place o b 0) ++ r2
  first_memory o q = p ∙ ap (λ (t : List ℕ). unsigned b ++ t) q ∙ sym (append_assoc (unsigned b) (unsigned o) r2)

  told_memory : (o i : ℕ) (r3 : List ℕ) → r1 ≡ unsigned i ++ r2 → r2 ≡ unsigned o ++ r3 → 64 ≤ b → (i ≡ 0 → ⊥) → bytes ≡ memarg (place o (b - 64) i) ++ r3
  told_memory o i r3 q r h n =
      let e : b ≡ b - 64 + 64 = omega arith in
      let more : r1 ≡ (unsigned i ++ unsigned o) ++ r3 = q ∙ ap (λ (t : List ℕ). unsigned i ++ t) r ∙ sym (append_assoc (unsigned i) (unsigned o) r3) in
      p ∙ ap (λ (t : List ℕ). unsigned b ++ t) more ∙ sym (append_assoc (unsigned b) (unsigned i ++ unsigned o) r3)
      ∙ ap (λ (k : ℕ). (unsigned k ++ (unsigned i ++ unsigned o)) ++ r3) e ∙ ap (λ (t : List ℕ). t ++ r3) (sym (told o (b - 64) i n))

pub returns-then-flags-lt64-clause-found : goal.returns-then-flags-lt64-clause-found
returns-then-flags-lt64-clause-found c =
    let f = c.in_ok-offset.ensures.found in
    ((c.if-flags-lt64.true, f.0, omega arith), first_memory _ _ _ _ c.in_ok-flags.ensures.found.1 _ f.1)

pub returns-then-flags-lt64-clause-only : goal.returns-then-flags-lt64-clause-only
returns-then-flags-lt64-clause-only c m rest k e =
    let f = returns-then-flags-lt64-clause-found c in
    mem-unique (place c.in_ok-offset.offset c.in_ok-flags.flags 0) m c.in_ok-offset.rest.now rest f.0 k (sym f.1 ∙ e)

pub returns-clause-found : goal.returns-clause-found
returns-clause-found c =
    let f = c.in_ok-memory_index.ensures.found in
    let g = c.in_ok-offset-2.ensures.found in
    ((omega (arith, c.if-flags-ge128.false, c.if-flags-lt64.false), g.0, f.0), told_memory _ _ _ _ c.in_ok-flags.ensures.found.1 _ _ _ f.1 g.1 c.if-flags-lt64.false c.if-memory_index-eq0.false)

pub returns-clause-only : goal.returns-clause-only
returns-clause-only c m rest k e =
    let f = returns-clause-found c in
    mem-unique (place c.in_ok-offset-2.offset (c.in_ok-flags.flags - 64) c.in_ok-memory_index.memory_index) m c.in_ok-offset-2.rest.now rest f.0 k (sym f.1 ∙ e)
