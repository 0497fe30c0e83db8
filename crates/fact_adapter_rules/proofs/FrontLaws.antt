-- Lists that begin others.
use Rattle.std.proofs.Common.{◌≡◌, ◌≤◌, List, ◌++◌, length, take, drop, sym, ap, ◌∙◌, arith, length-take}
use Rattle.std.proofs.Math.Seq.{take-append_seam, take-length}
use Rattle.std.proofs.lemmas.List.{take-append-drop, take-append-le}
use Rattle.fact_adapter_rules.specs.Fronts.{IsFront}

-- a list begins itself, and each list that it is followed by more in
pub IsFront-itself : {X : Type 0} (xs : List X) → IsFront xs xs
IsFront-itself xs = take-length xs

pub IsFront-append : {X : Type 0} (xs ys : List X) → IsFront xs (xs ++ ys)
IsFront-append xs ys = take-append_seam xs ys

-- what begins a list begins each list that this one begins
pub IsFront-trans : {X : Type 0} (xs ys zs : List X) → IsFront xs ys → IsFront ys zs → IsFront xs zs
IsFront-trans xs ys zs f g =
    let n = length xs in
    let shorter : n ≤ length ys = omega (arith, ap length f, length-take n ys) in
    let rest = drop (length ys) zs in
    let whole : zs ≡ ys ++ rest = sym (take-append-drop (length ys) zs) ∙ ap (λ front. front ++ rest) g in
    ap (take n) whole ∙ take-append-le n ys rest shorter ∙ f
