-- Imports that stand once in a list.
use Rattle.std.proofs.Common.{◌≡◌, ℕ, ◌⊎◌, inl, inr, true, List, [], ◌∷◌, ◌++◌, length, Some, None, Contains, sym, ap, ◌∙◌, slice_get}
use Rattle.fact_types.specs.declared.import.Import.{Import}
use Rattle.fact_emit.specs.ImportSection.{is_made_once}
use Rattle.fact_emit.specs.Imports.{AreOnce, StandOnce}
use Rattle.fact_emit.specs.States.{nothing_so_far}
use Rattle.fact_emit.proofs.ImportLists.{last-or-before, there-get}

-- a new import behind the last one
pub once_more : {xs : List Import} {x : Import} → (is_made_once x ≡ true → Contains xs x → ⊥) → StandOnce xs → StandOnce (xs ++ x ∷ [])
once_more {xs} {x} absent o = record { one = λ j k y made h g. go j k y made (last-or-before xs x j y h) (last-or-before xs x k y g) }
  where
    go : (j k : ℕ) (y : Import) → is_made_once y ≡ true → (slice_get xs j ≡ Some y) ⊎ ((j ≡ length xs) × (x ≡ y)) → (slice_get xs k ≡ Some y) ⊎ ((k ≡ length xs) × (x ≡ y)) → j ≡ k
    go j k y made (inl h) (inl g) = o.one j k y made h g
    go j k y made (inr h) (inr g) = h.0 ∙ sym g.0
    go j k y made (inl h) (inr g) = absurd (absent (ap is_made_once g.1 ∙ made) (there-get xs j x (h ∙ ap Some (sym g.1))))
    go j k y made (inr h) (inl g) = absurd (absent (ap is_made_once h.1 ∙ made) (there-get xs k x (g ∙ ap Some (sym h.1))))

nothing_at : (i : ℕ) (x : Import) → slice_get {X = Import} [] i ≡ Some x → ⊥
nothing_at i x h = let none : None ≡ Some x = h in cc

once_none : StandOnce []
once_none = record { one = λ i j x made h g. absurd (nothing_at i x h) }

pub once_nothing : AreOnce nothing_so_far
once_nothing = record { functions = once_none; memories = once_none; globals = once_none; starts = λ i j callback post_return params results h g. absurd (nothing_at i _ h.there) }
