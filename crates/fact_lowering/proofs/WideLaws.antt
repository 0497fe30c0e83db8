-- Slots that are as wide as flat types, or wider.
use Rattle.std.proofs.Common.{◌≡◌, suc, ◌≤◌, List, [], ◌∷◌, ◌++◌, length, take, drop, get_or, refl, sym, ap, ◌∙◌, subst, arith}
use Rattle.fact_types.specs.declared.flats.FlatType.{FlatType}
use Rattle.fact_types.specs.Flat.{join}
use Rattle.fact_types.specs.FlatShapes.{joined}
use Rattle.fact_types.proofs.JoinLaws.{joined_same, joined_swaps, joined_joins}
use Rattle.fact_lowering.specs.Lowered.{AreWideFor, BeginWideFor}

pub first_of_flats : (f g : FlatType) (fs gs : List FlatType) → f ∷ fs ≡ g ∷ gs → f ≡ g
first_of_flats f g fs gs e = ap (λ l. get_or l 0 f) e

pub rest_of_flats : (f g : FlatType) (fs gs : List FlatType) → f ∷ fs ≡ g ∷ gs → fs ≡ gs
rest_of_flats f g fs gs e = ap (λ l. drop 1 l) e

pub wide_begins : (fs slots : List FlatType) → AreWideFor fs slots → BeginWideFor fs slots
wide_begins fs slots w = (omega (arith, w.0), w.1)

pub wide_front : (fs gs slots : List FlatType) → BeginWideFor (fs ++ gs) slots → BeginWideFor fs slots
wide_front [] gs slots w = (omega arith, refl)
wide_front (f ∷ fs) gs [] w = absurd (omega (arith, w.0))
wide_front (f ∷ fs) gs (s ∷ slots) w =
    let p = wide_front fs gs slots (omega (arith, w.0), rest_of_flats (join f s) s (joined (fs ++ gs) slots) slots w.1) in
    (omega (arith, p.0), λ i. first_of_flats (join f s) s (joined (fs ++ gs) slots) slots w.1 i ∷ p.1 i)

pub wide_behind : (fs gs slots : List FlatType) → BeginWideFor (fs ++ gs) slots → BeginWideFor gs (drop (length fs) slots)
wide_behind [] gs slots w = w
wide_behind (f ∷ fs) gs [] w = absurd (omega (arith, w.0))
wide_behind (f ∷ fs) gs (s ∷ slots) w = wide_behind fs gs slots (omega (arith, w.0), rest_of_flats (join f s) s (joined (fs ++ gs) slots) slots w.1)

-- those behind as many slots
pub wide_left : (fs gs slots : List FlatType) → AreWideFor (fs ++ gs) slots → AreWideFor gs (drop (length fs) slots)
wide_left fs gs slots w = (both_long fs gs slots w.0, (wide_behind fs gs slots (wide_begins (fs ++ gs) slots w)).1)
  where
    both_long : (fs gs slots : List FlatType) → length (fs ++ gs) ≡ length slots → length gs ≡ length (drop (length fs) slots)
    both_long [] gs slots e = e
    both_long (f ∷ fs) gs [] e = absurd (omega (arith, e))
    both_long (f ∷ fs) gs (s ∷ slots) e = both_long fs gs slots (omega (arith, e))

-- as many slots as there are flat types
pub wide_taken : (fs slots : List FlatType) → BeginWideFor fs slots → AreWideFor fs (take (length fs) slots)
wide_taken [] slots w = (refl, refl)
wide_taken (f ∷ fs) [] w = absurd (omega (arith, w.0))
wide_taken (f ∷ fs) (s ∷ slots) w =
    let p = wide_taken fs slots (omega (arith, w.0), rest_of_flats (join f s) s (joined fs slots) slots w.1) in
    (ap suc p.0, λ i. first_of_flats (join f s) s (joined fs slots) slots w.1 i ∷ p.1 i)

-- ---- payloads of cases

joined_long : (fs gs : List FlatType) → length fs ≤ length (joined fs gs)
joined_long [] gs = omega arith
joined_long (f ∷ fs) [] = omega arith
joined_long (f ∷ fs) (g ∷ gs) = omega (arith, joined_long fs gs)

wide_long : (fs gs slots : List FlatType) → BeginWideFor (joined fs gs) slots → length fs ≤ length slots
wide_long fs gs slots w = omega (arith, w.0, joined_long fs gs)

-- one of two that are joined
pub wide_one : (fs gs slots : List FlatType) → BeginWideFor (joined fs gs) slots → BeginWideFor fs slots
wide_one fs gs slots w = (
  wide_long fs gs slots w,
  ap (joined fs) (sym w.1) ∙ sym (joined_joins fs (joined fs gs) slots) ∙ ap (λ l. joined l slots) (sym (joined_joins fs fs gs) ∙ ap (λ l. joined l gs) (joined_same fs)) ∙ w.1,
)

pub wide_other : (fs gs slots : List FlatType) → BeginWideFor (joined fs gs) slots → BeginWideFor gs slots
wide_other fs gs slots w = wide_one gs fs slots (subst (λ l. BeginWideFor l slots) (joined_swaps fs gs) w)
