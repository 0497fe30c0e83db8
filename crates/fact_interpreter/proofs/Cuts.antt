-- Cuts of the stack.
use Rattle.std.proofs.Common.{◌≡◌, ℕ, zero, suc, ◌-◌, ◌≤◌, ◌<◌, List, [], ◌∷◌, ◌++◌, Option, Some, None, refl, sym, ap, ◌∙◌, arith, length, reverse, take, drop, subst, length-drop}
use Rattle.std.proofs.lemmas.List.{reverse-append, length-reverse, take-append-drop}
use Rattle.fact_machine.specs.declared.types.CoreValue.{CoreValue}
use Rattle.fact_machine.specs.Machine.{grab, onto}
use Rattle.fact_interpreter.specs.Cut.{IsCut}

pub grab_all : (us vs : List CoreValue) → grab (length us) (us ++ vs) ≡ Some (us, vs)
grab_all [] vs = refl
grab_all (a ∷ us) vs = ap (onto a) (grab_all us vs)

pub grab_few : (n : ℕ) (vs : List CoreValue) → length vs < n → grab n vs ≡ None
grab_few zero vs h = absurd (omega arith)
grab_few (suc n) [] h = refl
grab_few (suc n) (v ∷ vs) h = ap (onto v) (grab_few n vs (omega arith))

pub grab_back : (n : ℕ) (items top rest : List CoreValue) → n ≤ length items → top ≡ drop (length items - n) items → rest ≡ take (length items - n) items → grab n (reverse items) ≡ Some (reverse top, reverse rest)
grab_back n items top rest h et er =
    let joined : rest ++ top ≡ items = rw (et, er) (take-append-drop (length items - n) items) in
    let len : length (reverse top) ≡ n = rw (length-reverse, et, length-drop) (omega arith) in
    ap (λ l. grab n (reverse l)) (sym joined) ∙ ap (grab n) (reverse-append rest top) ∙ ap (λ m. grab m (reverse top ++ reverse rest)) (sym len) ∙ grab_all (reverse top) (reverse rest)

pub cut_none : (n : ℕ) (vs below : List CoreValue) → length vs < n → IsCut (grab n vs) None below
cut_none n vs below h = subst (λ o. IsCut o None below) (sym (grab_few n vs h)) tt

pub cut_some : (n : ℕ) (items top rest : List CoreValue) → n ≤ length items → top ≡ drop (length items - n) items → rest ≡ take (length items - n) items → IsCut (grab n (reverse items)) (Some (reverse top)) (reverse rest)
cut_some n items top rest h et er = subst (λ o. IsCut o (Some (reverse top)) (reverse rest)) (sym (grab_back n items top rest h et er)) (refl, refl)

-- ---- what a cut that was told was

pub cut_is_none : (o : Option (List CoreValue × List CoreValue)) (top : Option (List CoreValue)) (s : List CoreValue) → IsCut o top s → top ≡ None → o ≡ None
cut_is_none None None s h e = refl
cut_is_none None (Some t) s h e = absurd h
cut_is_none (Some p) None s h e = absurd h
cut_is_none (Some p) (Some t) s h e = cc

pub cut_is_some : (o : Option (List CoreValue × List CoreValue)) (top : Option (List CoreValue)) (s t : List CoreValue) → IsCut o top s → top ≡ Some t → o ≡ Some (t, s)
cut_is_some None None s t h e = cc
cut_is_some None (Some u) s t h e = absurd h
cut_is_some (Some p) None s t h e = absurd h
cut_is_some (Some p) (Some u) s t h e =
    let d : u ≡ t = cc in
    let a : p.0 ≡ t = sym h.0 ∙ d in
    ap (λ x. let q : List CoreValue × List CoreValue = (x, p.1) in Some q) a ∙ ap (λ x. let q : List CoreValue × List CoreValue = (t, x) in Some q) (sym h.1)
