-- Operands whose last ones are looked at.
use Rattle.std.proofs.Common.{◌≡◌, ◌≤◌, ◌<◌, ◌-◌, suc, true, false, List, [], ◌∷◌, ◌++◌, Option, Some, refl, sym, ap, ◌∙◌, length, reverse, take, drop, drop-cons, get_or, arith}
use Rattle.std.specs.Prelude.{is_some, option_and_then}
use Rattle.std.proofs.lemmas.List.{reverse-append, length-reverse, take-append-drop}
use Rattle.std.proofs.Math.Seq.{drop-length}
use Rattle.fact_wasm.specs.declared.types.ValType.{ValType}
use Rattle.fact_machine.specs.Typing.{Known, Open, only_if, matches, pop_all}

-- no operand is taken of none
none_taken : (ts : List ValType) → 1 ≤ length ts → is_some (pop_all ts (Known [])) ≡ false
none_taken [] h = absurd (omega arith)
none_taken (t ∷ ts) h = refl

pub none_left : (types left known below : List ValType) → is_some (pop_all (reverse types) (Known (reverse known))) ≡ is_some (pop_all (reverse left) (Known (reverse below))) → 1 ≤ length left → length below < 1
    → false ≡ is_some (pop_all (reverse types) (Known (reverse known)))
none_left types left known [] h some none =
    let many : length (reverse left) ≡ length left = length-reverse left in
    sym (h ∙ none_taken (reverse left) (omega (arith, some, many)))
none_left types left known (t ∷ below) h some none = absurd (omega arith)

-- below operands of code that is not reached there are any
any_taken : (ts : List ValType) → is_some (pop_all ts (Open [])) ≡ true
any_taken [] = refl
any_taken (t ∷ ts) = any_taken ts

pub any_left : (types left : List ValType) (known below : List (Option ValType)) → is_some (pop_all (reverse types) (Open (reverse known))) ≡ is_some (pop_all (reverse left) (Open (reverse below))) → length below < 1
    → true ≡ is_some (pop_all (reverse types) (Open (reverse known)))
any_left types left known [] h none = sym (h ∙ any_taken (reverse left))
any_left types left known (t ∷ below) h none = absurd (omega arith)

-- a list by its last item
by_last : {A : Type 0} (xs : List A) (d : A) → 1 ≤ length xs → xs ≡ take (length xs - 1) xs ++ get_or xs (length xs - 1) d ∷ []
by_last xs d some =
    let at : length xs - 1 < length xs = omega (arith, some) in
    let end : suc (length xs - 1) ≡ length xs = omega (arith, some) in
    sym (take-append-drop (length xs - 1) xs)
    ∙ ap (λ l. take (length xs - 1) xs ++ l) (drop-cons xs (length xs - 1) d at ∙ ap (λ l. get_or xs (length xs - 1) d ∷ l) (ap (λ k. drop k xs) end ∙ drop-length xs))

-- the last one is taken
pub last_taken : (left : List ValType) (below : List (Option ValType)) (d : ValType) (e : Option ValType) → 1 ≤ length left → 1 ≤ length below → matches (get_or left (length left - 1) d) (get_or below (length below - 1) e) ≡ true
    → is_some (pop_all (reverse left) (Open (reverse below))) ≡ is_some (pop_all (reverse (take (length left - 1) left)) (Open (reverse (take (length below - 1) below))))
last_taken left below d e some more fits =
    let t = get_or left (length left - 1) d in
    let u = get_or below (length below - 1) e in
    let rest = take (length left - 1) left in
    let under = take (length below - 1) below in
    ap (λ l. is_some (pop_all (reverse l) (Open (reverse below)))) (by_last left d some) ∙ ap (λ l. is_some (pop_all l (Open (reverse below)))) (reverse-append rest (t ∷ []))
    ∙ ap (λ l. is_some (pop_all (t ∷ reverse rest) (Open (reverse l)))) (by_last below e more) ∙ ap (λ l. is_some (pop_all (t ∷ reverse rest) (Open l))) (reverse-append under (u ∷ []))
    ∙ ap (λ b. is_some (option_and_then (λ s. pop_all (reverse rest) s) (only_if b (Some (Open (reverse under)))))) fits
