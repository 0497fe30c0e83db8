-- What tests of rules decide.
use Rattle.std.proofs.Common.{◌≡◌, Bool, true, false, sym, ◌∙◌}
use Rattle.std.proofs.lemmas.Bool.{true≢false}
use Rattle.std.specs.Prelude.{◌↔◌, IsTrue}

pub granted : (b : Bool) (P : Type 0) → IsTrue b ↔ P → b ≡ true → P
granted b P h e = h.0 e

pub denied : (b : Bool) (P : Type 0) → IsTrue b ↔ P → b ≡ false → P → ⊥
denied b P h e p = true≢false (sym (h.1 p) ∙ e)
