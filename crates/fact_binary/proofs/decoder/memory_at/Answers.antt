use Rattle.std.proofs.Common.{◌≡◌, ℕ, zero, suc, ◌+◌, ◌-◌, ◌<◌, ◌≤◌, ◌%◌, ◌^◌, List, ◌∷◌, ◌++◌, Option, Some, None, nat_eq, refl, sym, ap, ◌∙◌, subst, append_assoc, append-nil, arith}
use Rattle.std.proofs.lemmas.Result.{err_from_is_err_and}
use Rattle.fact_binary.specs.Numbers.{unsigned}
use Rattle.fact_binary.specs.Spelling.{memory_flags, page_size, memory_type, IsMemoryType}
use Rattle.fact_binary.proofs.Items.{passes}
use Rattle.fact_binary.proofs.Parts.{heads, memory_unique}
use Rattle.fact_binary.proofs.decoder.memory_at.Goals as goal

-- flags below 8, and flags from 8 on
flags_without : (b : ℕ) → b < 8 → b % 4 ≡ 0 → memory_flags (nat_eq (b % 8) 4) None ≡ b
flags_without zero h m = refl
flags_without (suc zero) h m = absurd (omega arith)
flags_without (suc (suc zero)) h m = absurd (omega arith)
flags_without (suc (suc (suc zero))) h m = absurd (omega arith)
flags_without (suc (suc (suc (suc zero)))) h m = refl
flags_without (suc (suc (suc (suc (suc zero))))) h m = absurd (omega arith)
flags_without (suc (suc (suc (suc (suc (suc zero)))))) h m = absurd (omega arith)
flags_without (suc (suc (suc (suc (suc (suc (suc zero))))))) h m = absurd (omega arith)
flags_without (suc (suc (suc (suc (suc (suc (suc (suc n)))))))) h m = absurd (omega arith)

flags_above : (n k : ℕ) → n ≤ 4 → (n + 8) % 4 ≡ 0 → memory_flags (nat_eq ((n + 8) % 8) 4) (Some k) ≡ n + 8
flags_above zero k h m = refl
flags_above (suc zero) k h m = absurd (omega arith)
flags_above (suc (suc zero)) k h m = absurd (omega arith)
flags_above (suc (suc (suc zero))) k h m = absurd (omega arith)
flags_above (suc (suc (suc (suc zero)))) k h m = refl
flags_above (suc (suc (suc (suc (suc n))))) k h m = absurd (omega arith)

flags_with : (b k : ℕ) → b ≤ 12 → 8 ≤ b → b % 4 ≡ 0 → memory_flags (nat_eq (b % 8) 4) (Some k) ≡ b
flags_with b k h g m =
    let e : (b - 8) + 8 ≡ b = omega arith in
    subst (λ (n : ℕ). memory_flags (nat_eq (n % 8) 4) (Some k) ≡ n) e (flags_above (b - 8) k (omega arith) (rw e m))

least_fits : (l : ℕ) (p : Option ℕ) → IsMemoryType l p → l < 2 ^ 64
least_fits l None h = h
least_fits l (Some k) h = h.0

module _ (bytes r1 r2 : List ℕ) (b l : ℕ) (p : bytes ≡ b ∷ r1) (q : r1 ≡ unsigned l ++ r2) (m : b % 4 ≡ 0) where
  spelled_without : b < 8 → bytes ≡ memory_type l (nat_eq (b % 8) 4) None ++ r2
  spelled_without h =
      p ∙ ap (λ (n : ℕ). n ∷ r1) (sym (flags_without b h m)) ∙ ap (λ (t : List ℕ). memory_flags (nat_eq (b % 8) 4) None ∷ t) (q ∙ ap (λ (t : List ℕ). t ++ r2) (sym (append-nil (unsigned l))))

  spelled_with : (k : ℕ) (r3 : List ℕ) → r2 ≡ unsigned k ++ r3 → b ≤ 12 → 8 ≤ b → bytes ≡ memory_type l (nat_eq (b % 8) 4) (Some k) ++ r3
  spelled_with k r3 r h g =
      p ∙ ap (λ (n : ℕ). n ∷ r1) (sym (flags_with b k h g m)) ∙ ap (λ (t : List ℕ). memory_flags (nat_eq (b % 8) 4) (Some k) ∷ t) (q ∙ ap (λ (t : List ℕ). unsigned l ++ t) r ∙ sym (append_assoc (unsigned l) (unsigned k) r3))

pub returns-in_err-minimum-clause-only : goal.returns-in_err-minimum-clause-only
returns-in_err-minimum-clause-only c l w p rest k e =
    let q = err_from_is_err_and c.from_residual-in_err-minimum.result c.from_residual-in_err-minimum.ensures.1 in
    let h = heads _ _ _ _ (sym c.in_ok-flags.ensures.found ∙ e) in
    rw (q.1, q.2) (passes c.in_err-minimum.field-0.0 _ _ (c.in_err-minimum.ensures.only l (page_size p ++ rest) (least_fits l p k) (h.1 ∙ append_assoc (unsigned l) (page_size p) rest)))

pub returns-then-flags-lt8-clause-found : goal.returns-then-flags-lt8-clause-found
returns-then-flags-lt8-clause-found c =
    let f = c.in_ok-minimum.ensures.found in
    (f.0, spelled_without _ _ _ _ _ c.in_ok-flags.ensures.found f.1 c.if-flags-ne0.false c.if-flags-lt8.true)

pub returns-then-flags-lt8-clause-only : goal.returns-then-flags-lt8-clause-only
returns-then-flags-lt8-clause-only c l w p rest k e =
    let f = returns-then-flags-lt8-clause-found c in
    memory_unique c.in_ok-minimum.minimum l (nat_eq (c.in_ok-flags.flags % 8) 4) w None p c.in_ok-minimum.rest.now rest f.0 k (sym f.1 ∙ e)

pub returns-clause-found : goal.returns-clause-found
returns-clause-found c =
    let f = c.in_ok-minimum.ensures.found in
    let g = c.in_ok-log2.ensures.found in
    ((f.0, g.0), spelled_with _ _ _ _ _ c.in_ok-flags.ensures.found f.1 c.if-flags-ne0.false _ _ g.1 c.if-flags-gt12.false c.if-flags-lt8.false)

pub returns-clause-only : goal.returns-clause-only
returns-clause-only c l w p rest k e =
    let f = returns-clause-found c in
    memory_unique c.in_ok-minimum.minimum l (nat_eq (c.in_ok-flags.flags % 8) 4) w (Some c.in_ok-log2.log2) p c.in_ok-log2.rest.now rest f.0 k (sym f.1 ∙ e)
