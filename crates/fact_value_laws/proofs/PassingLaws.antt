-- Steps that gave something, and steps that give the same.
use Rattle.std.proofs.Common.{◌≡◌, List, [], ◌∷◌, Option, Some, None, refl, sym, ap, ◌∙◌}
use Rattle.fact_types.specs.Options.{◌>>=◌}
use Rattle.fact_types.proofs.ShapeLaws.{same_some, none_some}
use Rattle.fact_values.specs.Handles.{Step, done_step, then_step, given, each_step}
use Rattle.fact_values.proofs.NumberLaws.{then_some}

-- A step gave something from a state.
pub record Came {S A : Type 0} (f : Step S A) (a : A) : Type 0 where
  pub from : S
  pub left : S
  pub gave : f from ≡ Some (a, left)

pub came_done : {S A : Type 0} (a b : A) → Came {S = S} (done_step a) b → a ≡ b
came_done a b c = ap (λ r. r.0) (same_some (Some (a, c.from)) (a, c.from) (b, c.left) refl c.gave)

pub came_given : {S A B : Type 0} (o : Option A) (f : A → Step S B) (b : B) → Came (given o f) b → (a : A) × (o ≡ Some a) × Came (f a) b
came_given None f b c = absurd (none_some None (b, c.left) refl c.gave)
came_given (Some a) f b c = (a, refl, record { from = c.from; left = c.left; gave = c.gave })

pub nothing_came : {S A : Type 0} (a : A) → Came {S = S} (given {A = A} None done_step) a → ⊥
nothing_came a c = let (b, e, rest) = came_given None done_step a c in none_some None b refl e

pub came_then : {S A B : Type 0} (f : Step S A) (g : A → Step S B) (b : B) → Came (then_step f g) b → (a : A) × Came f a × Came (g a) b
came_then f g b c =
    let (r, here, rest) = then_some (f c.from) (λ r. g r.0 r.1) (b, c.left) c.gave in
    (r.0, record { from = c.from; left = r.1; gave = here }, record { from = r.1; left = c.left; gave = rest })

-- Two steps give the same from each state.
abbrev pub Same : {S A : Type 0} → Step S A → Step S A → Type 0
Same {S} f g = (t : S) → f t ≡ g t

pub same_then : {S A B : Type 0} (f g : Step S A) (h k : A → Step S B) → Same f g → ((a : A) → Same (h a) (k a)) → Same (then_step f h) (then_step g k)
same_then {S} {A} {B} f g h k p q t = ap (λ o. o >>= (λ r. h r.0 r.1)) (p t) ∙ rest (g t)
  where
    rest : (o : Option (A × S)) → o >>= (λ r. h r.0 r.1) ≡ o >>= (λ r. k r.0 r.1)
    rest None = refl
    rest (Some r) = q r.0 r.1

pub same_given : {S A B C : Type 0} (o : Option A) (a : A) (p : Option B) (b : B) (f : A → Step S C) (g : B → Step S C) → o ≡ Some a → p ≡ Some b → Same (f a) (g b) → Same (given o f) (given p g)
same_given o a p b f g e k h t = ap (λ o. given o f t) e ∙ h t ∙ sym (ap (λ p. given p g t) k)

-- Steps one after another: where each item became another one, the steps of the other ones give what those of the items do.
pub same_each : {S T A B C : Type 0} (f : A → Step S B) (g : B → Step T C) (h : A → Step T C) → ((a : A) (b : B) → Came (f a) b → Same (g b) (h a)) → (xs : List A) (bs : List B) → Came (each_step f xs) bs → Same (each_step g bs) (each_step h xs)
same_each f g h p [] bs c t = ap (λ bs. each_step g bs t) (sym (came_done [] bs c))
same_each f g h p (a ∷ xs) bs c t =
    let (b, here, rest) = came_then (f a) (λ b. then_step (each_step f xs) (λ bs. done_step (b ∷ bs))) bs c in
    let (more, behind, is) = came_then (each_step f xs) (λ bs. done_step (b ∷ bs)) bs rest in
    ap (λ bs. each_step g bs t) (sym (came_done (b ∷ more) bs is))
    ∙ same_then (g b) (h a) (λ c. then_step (each_step g more) (λ cs. done_step (c ∷ cs))) (λ c. then_step (each_step h xs) (λ cs. done_step (c ∷ cs))) (p a b here)
    (λ c. same_then (each_step g more) (each_step h xs) (λ cs. done_step (c ∷ cs)) (λ cs. done_step (c ∷ cs)) (same_each f g h p xs more behind) (λ cs t. refl)) t
