-- The locals that a function declares.
use Rattle.std.proofs.Common.{◌≡◌, ℕ, zero, suc, ◌+◌, List, [], ◌∷◌, ◌++◌, Option, refl, sym, ap, ◌∙◌, arith, append_assoc, append-nil, ◌<◌, length, take, get_or}
use Rattle.std.proofs.lemmas.List.{take_more}
use Rattle.fact_wasm.specs.declared.types.ValType.{ValType}
use Rattle.fact_machine.specs.declared.types.CoreValue.{CoreValue}
use Rattle.fact_machine.specs.Machine.{several, locals_of, zero_of}

several_last : (n : ℕ) (v : Option CoreValue) → several (suc n) v [] ≡ several n v [] ++ v ∷ []
several_last zero v = refl
several_last (suc n) v = ap (λ l. v ∷ l) (several_last n v)

pub several_next : (n : ℕ) (v : Option CoreValue) → several (n + 1) v [] ≡ several n v [] ++ v ∷ []
several_next n v = let e : n + 1 ≡ suc n = omega arith in ap (λ m. several m v []) e ∙ several_last n v

-- one more run of declared locals
locals_next : (ps : List (ℕ × ValType)) (p : ℕ × ValType) → locals_of (ps ++ p ∷ []) ≡ locals_of ps ++ several p.0 (zero_of p.1) []
locals_next [] p = append-nil (several p.0 (zero_of p.1) [])
locals_next (q ∷ ps) p = ap (λ l. several q.0 (zero_of q.1) [] ++ l) (locals_next ps p) ∙ sym (append_assoc (several q.0 (zero_of q.1) []) (locals_of ps) _)

-- the locals after one more run of them, which stands at a place of the list
pub locals_more : (runs : List (ℕ × ValType)) (i : ℕ) (d : ℕ × ValType) (first now more : List (Option CoreValue)) (v : Option CoreValue)
    → i < length runs → v ≡ zero_of (get_or runs i d).1 → now ≡ first ++ locals_of (take i runs) → more ≡ now ++ several (get_or runs i d).0 v []
    → more ≡ first ++ locals_of (take (i + 1) runs)
locals_more runs i d first now more v h hv hn hm =
    let p : ℕ × ValType = get_or runs i d in
    hm ∙ ap (λ u. now ++ several p.0 u []) hv ∙ ap (λ l. l ++ several p.0 (zero_of p.1) []) hn ∙ append_assoc first (locals_of (take i runs)) _
    ∙ sym (ap (λ l. first ++ l) (ap locals_of (take_more runs i d h) ∙ locals_next (take i runs) p))
