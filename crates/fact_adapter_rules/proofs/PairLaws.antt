-- What is so of each element of a list and each later one.
use Rattle.std.proofs.Common.{◌<◌, List, ◌∷◌, ◌++◌, length, get_or, Contains, AllPairs, subst, ◌∙◌, arith, length-append}
use Rattle.std.proofs.Math.Seq.{get_or-append_seam}
use Rattle.std.proofs.lemmas.List.{get_or_append_left}

-- is so of an element and the one behind its list
pub last_pair : {X : Type 0} (R : X → X → Type 0) (xs ys : List X) (x y : X) → Contains xs x → AllPairs R (xs ++ y ∷ ys) → R x y
last_pair R xs ys x y at pairs =
    let within : length xs < length (xs ++ y ∷ ys) = omega (arith, length-append xs (y ∷ ys)) in
    let here = pairs at.0 (length xs) x at.1 within in
    subst (λ z. R z y) (get_or_append_left xs (y ∷ ys) x at.0 at.1 ∙ at.2) (subst (R (get_or (xs ++ y ∷ ys) at.0 x)) (get_or-append_seam xs y ys x) here)
