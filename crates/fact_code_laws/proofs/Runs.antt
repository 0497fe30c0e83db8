-- Ends with weight before them, and with nothing behind them.
use Rattle.std.proofs.Common.{◌≡◌, [], ◌++◌, refl, ap, ◌∙◌, arith, append-nil}
use Rattle.fact_actions.specs.Running.{Ended, Gave, Halted, Strayed, heavier, then_ended}

pub no_heavier : {A : Type 0} (e : Ended A) → heavier 0 e ≡ e
no_heavier (Gave n cs a w) = ap (λ m. Gave m cs a w) (omega arith)
no_heavier (Halted n cs s w) = ap (λ m. Halted m cs s w) (omega arith)
no_heavier (Strayed n cs w) = ap (λ m. Strayed m cs w) (omega arith)

-- an end, behind which what was given is given on
pub then_given : {A : Type 0} (e : Ended A) → then_ended e (λ a w. Gave 0 [] a w) ≡ e
then_given (Gave n cs a w) = ap (λ m. Gave m (cs ++ []) a w) (omega arith) ∙ ap (λ ds. Gave n ds a w) (append-nil cs)
then_given (Halted n cs s w) = refl
then_given (Strayed n cs w) = refl
