-- What bits decide.
use Rattle.std.proofs.Common.{◌≡◌, Bool, true, false, Result, Ok, Err, IfOk, ◌⊎◌, inl, inr, refl, sym, ◌∙◌}
use Rattle.std.proofs.lemmas.Bool.{true≢false}
use Rattle.std.specs.Prelude.{◌↔◌, IsFalse, IsTrue, not}

pub granted : (b : Bool) (P : Type 0) → IsTrue b ↔ P → b ≡ true → P
granted b P h e = h.0 e

pub denied : (b : Bool) (P : Type 0) → IsTrue b ↔ P → b ≡ false → P → ⊥
denied b P h e p = true≢false (sym (h.1 p) ∙ e)

-- the first of two is so
pub here : (P Q : Type 0) → P → IsTrue true ↔ (P ⊎ Q)
here P Q p = (λ _. inl p, λ _. refl)

-- the first is not so, and the second decides
pub there : (b : Bool) (P Q : Type 0) → (P → ⊥) → IsTrue b ↔ Q → IsTrue b ↔ (P ⊎ Q)
there b P Q none h = (λ e. inr (h.0 e), λ s. elim s [ inl p ↦ absurd (none p) | inr q ↦ h.1 q ])

-- what a result decides
pub mapped : {X E : Type 0} (r : Result X E) (P Q : X → Type 0) → ((x : X) → P x → Q x) → IfOk r P → IfOk r Q
mapped (Ok x) P Q f h = f x h
mapped (Err e) P Q f h = tt

pub unless-not : (b : Bool) → IsFalse (not b) → b ≡ true
unless-not true h = refl
unless-not false h = absurd (true≢false h)
