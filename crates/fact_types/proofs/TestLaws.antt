-- What tests tell.
use Rattle.std.proofs.Common.{◌≡◌, ◌↔◌, Bool, true, false, IsTrue, Option, Some, None, sym, ◌∙◌, subst}
use Rattle.std.specs.Option.{SomeIff, is_some}

-- a test of one fact is a test of another that holds with it
pub told_as : {P Q : Type 0} (b : Bool) → (IsTrue b ↔ P) → (P → Q) → (Q → P) → IsTrue b ↔ Q
told_as b t f g = (λ h. f (t.0 h), λ q. t.1 (g q))

-- a value is there exactly where a fact holds
pub told_by_some : {A : Type 0} (o : Option A) (P : Type 0) (v : A) (b : Bool) → b ≡ is_some o → SomeIff o P v → IsTrue b ↔ P
told_by_some None P v b e s = (λ h. absurd (let x : false ≡ true = sym e ∙ h in cc), λ p. absurd (s p))
told_by_some (Some x) P v b e s = (λ _. s.0, λ _. e)

-- where a test of what a fact needs fails, so does the fact
pub refused : {P Q : Type 0} (b : Bool) → b ≡ false → (IsTrue b ↔ P) → (Q → P) → IsTrue false ↔ Q
refused b e t f = (λ h. cc, λ q. subst IsTrue e (t.1 (f q)))

-- the same, where the answer is the test's
pub first_refused : {P Q : Type 0} (b : Bool) → b ≡ false → (IsTrue b ↔ P) → (Q → P) → IsTrue b ↔ Q
first_refused {P} {Q} b e t f = subst (λ (x : Bool). IsTrue x ↔ Q) (sym e) (refused b e t f)
