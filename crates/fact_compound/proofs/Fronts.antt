-- Values behind those of a tuple do not matter to a move of its members.
use Rattle.std.proofs.Common.{◌≡◌, ℕ, zero, suc, ◌+◌, ◌≤◌, List, [], ◌∷◌, ◌++◌, Option, Some, None, refl, ap, ◌∙◌, arith, length, take, drop}
use Rattle.std.proofs.lemmas.List.{length-append}
use Rattle.fact_types.specs.Fields.{Field, field_of}
use Rattle.fact_types.specs.FlatShapes.{flat, flat_members, AreCounted}
use Rattle.fact_types.specs.Shapes.{Members, no_members, bare, typed, next_of}
use Rattle.fact_machine.specs.declared.types.CoreValue.{CoreValue}
use Rattle.fact_actions.specs.Actions.{Give, ◌>>=◌}
use Rattle.fact_actions.specs.Moves.{flat_length, part, spot, past, with_field, move, move_fields}
use Rattle.fact_actions.specs.Sides.{Transfer, Values, Target, width_of_side}
use Rattle.fact_kinds.proofs.Found.{IsAmong, among}

take_front : {X : Type 0} (n : ℕ) (xs more : List X) → n ≤ length xs → take n (xs ++ more) ≡ take n xs
take_front zero xs more h = refl
take_front (suc n) [] more h = absurd (omega (arith, h))
take_front (suc n) (x ∷ xs) more h = ap (λ l. x ∷ l) (take_front n xs more (omega (arith, h)))

part_front : {X : Type 0} (k n : ℕ) (xs more : List X) → k + n ≤ length xs → take n (drop k (xs ++ more)) ≡ take n (drop k xs)
part_front zero n xs more h = take_front n xs more (omega (arith, h))
part_front (suc k) zero [] more h = absurd (omega (arith, h))
part_front (suc k) (suc n) [] more h = absurd (omega (arith, h))
part_front (suc k) n (x ∷ xs) more h = part_front k n xs more (omega (arith, h))

pub fields_front : (tr : Transfer) (ms ns : Members) (end : ℕ) (xs more : List CoreValue) (d : Target) → AreCounted ms → length (flat_members (width_of_side tr.from) ms) ≤ 16 → length xs ≡ length (flat_members (width_of_side tr.from) ms)
    → move_fields tr ms ns end (Values (xs ++ more)) d ≡ move_fields tr ms ns end (Values xs) d
unfolding move_fields
fields_front tr ms no_members end xs more d counted few long = refl
fields_front tr ms (bare x ns) end xs more d counted few long = fields_front tr ms ns end xs more d counted few long
fields_front tr ms (typed x u ns) end xs more d counted few long = go (field_of x ms) refl (fields_front tr ms ns (next_of (width_of_side tr.to) u end) xs more (past tr.to u d) counted few long)
  where
    same_part : (f : Field) (bytes : ℕ) → IsAmong (width_of_side tr.from) ms 0 bytes f → part tr.from f (Values (xs ++ more)) ≡ part tr.from f (Values xs)
    same_part f bytes a =
        let parts = ap length a.is ∙ length-append a.front (flat (width_of_side tr.from) f.shape ++ a.rest) in
        let more' = length-append (flat (width_of_side tr.from) f.shape) a.rest in
        ap Values (part_front f.flat_place (flat_length tr.from f.shape) xs more (omega (arith, a.place counted few, parts, more', long)))

    go : (o : Option Field) → field_of x ms ≡ o
        → move_fields tr ms ns (next_of (width_of_side tr.to) u end) (Values (xs ++ more)) (past tr.to u d) ≡ move_fields tr ms ns (next_of (width_of_side tr.to) u end) (Values xs) (past tr.to u d)
        → with_field o (λ f. move tr f.shape u (part tr.from f (Values (xs ++ more))) (spot tr.to u end d) >>= (λ vs. move_fields tr ms ns (next_of (width_of_side tr.to) u end) (Values (xs ++ more)) (past tr.to u d) >>= (λ us. Give (vs ++ us))))
        ≡ with_field o (λ f. move tr f.shape u (part tr.from f (Values xs)) (spot tr.to u end d) >>= (λ vs. move_fields tr ms ns (next_of (width_of_side tr.to) u end) (Values xs) (past tr.to u d) >>= (λ us. Give (vs ++ us))))
    go None e rest = refl
    go (Some f) e rest =
        let here = same_part f _ (among (width_of_side tr.from) x ms 0 0 0 f e) in
        (λ i. move tr f.shape u (here i) (spot tr.to u end d) >>= (λ vs. rest i >>= (λ us. Give (vs ++ us))))
