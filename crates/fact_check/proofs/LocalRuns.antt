-- Locals by the ends of their runs.
use Rattle.std.proofs.Common.{◌≡◌, ◌≤◌, ◌<◌, ◌+◌, ◌-◌, ◌^◌, ℕ, zero, suc, true, false, List, [], ◌∷◌, ◌++◌, Option, refl, sym, ap, ◌∙◌, subst, length, slice_get, get_or, drop, drop-cons, arith, leb}
use Rattle.std.specs.Prelude.{option_map}
use Rattle.std.specs.List.Sorted.{IsNonDecreasingBy, IsPartitionPoint}
use Rattle.std.proofs.lemmas.Bool.{leb-true, leb-false}
use Rattle.std.proofs.lemmas.List.{append_assoc}
use Rattle.fact_wasm.specs.declared.types.ValType.{ValType}
use Rattle.fact_machine.specs.Typing.{local_types}
use Rattle.fact_check.specs.Sections.{end_of, ends_from}
use Rattle.fact_check.proofs.Sections.{get_behind, in_run, past_run}

-- ---- one run more

pub one_end_more : (locals : List (ℕ × ValType)) (i : ℕ) (d : ℕ × ValType) (all ends ends' : List ℕ) (before after : ℕ) → i < length locals → after ≡ end_of before (get_or locals i d) → ends' ≡ ends ++ after ∷ []
    → all ≡ ends ++ ends_from before (drop i locals) → all ≡ ends' ++ ends_from after (drop (i + 1) locals)
one_end_more locals i d all ends ends' before after lt end more h =
    let next : suc i ≡ i + 1 = omega arith in
    h ∙ ap (λ l. ends ++ ends_from before l) (drop-cons locals i d lt) ∙ ap (λ e. ends ++ e ∷ ends_from e (drop (suc i) locals)) (sym end)
    ∙ ap (λ k. ends ++ after ∷ ends_from after (drop k locals)) next ∙ sym (append_assoc ends (after ∷ []) (ends_from after (drop (i + 1) locals)))
    ∙ ap (λ l. l ++ ends_from after (drop (i + 1) locals)) (sym more)

-- ---- ends rise

above : (before : ℕ) (ps : List (ℕ × ValType)) (i d : ℕ) → before ≤ 2 ^ 64 - 1 → i < length (ends_from before ps) → before ≤ get_or (ends_from before ps) i d
above before [] i d h lt = absurd (omega arith)
above before (p ∷ ps) zero d h lt = omega arith
above before (p ∷ ps) (suc i) d h lt = let r = above (end_of before p) ps i d (omega arith) (omega arith) in omega (arith, r)

pub rising : (before : ℕ) (ps : List (ℕ × ValType)) → before ≤ 2 ^ 64 - 1 → IsNonDecreasingBy (λ (e : ℕ). e) (ends_from before ps)
rising before [] h i j d le lt = absurd (omega arith)
rising before (p ∷ ps) h zero zero d le lt = omega arith
rising before (p ∷ ps) h zero (suc j) d le lt = above (end_of before p) ps j d (omega arith) (omega arith)
rising before (p ∷ ps) h (suc i) zero d le lt = absurd (omega arith)
rising before (p ∷ ps) h (suc i) (suc j) d le lt = rising (end_of before p) ps (omega arith) i j d (omega arith) (omega arith)

-- ---- the run of a place

-- the first end past the place is that of its run
run_at : (before : ℕ) (ps : List (ℕ × ValType)) (n i : ℕ) → before ≤ n → n < 2 ^ 64 - 1 → i ≤ length (ends_from before ps) → IsPartitionPoint (λ e. leb e n ≡ true) (λ e. leb e n ≡ false) (ends_from before ps) i
    → option_map (λ (p : ℕ × ValType). p.1) (slice_get ps i) ≡ slice_get (local_types ps) (n - before)
run_at before [] n i low small within point = refl
run_at before (p ∷ ps) n zero low small within point =
    let past : n < end_of before p = leb-false (end_of before p) n (point.1 0 0 (omega arith) (omega arith)) in
    in_run p.0 p.1 (local_types ps) (n - before) (omega (arith, past, low))
run_at before (p ∷ ps) n (suc i) low small within point =
    let up : end_of before p ≤ n = leb-true (end_of before p) n (point.0 0 0 (omega arith) (omega arith)) in
    let place : n - end_of before p ≡ (n - before) - p.0 = omega (arith, up, low, small) in
    run_at (end_of before p) ps n i up small (omega (arith, within))
    (λ k d lo hi. point.0 (suc k) d (omega arith) (omega (arith, hi)), λ k d lo hi. point.1 (suc k) d (omega (arith, lo)) (omega (arith, hi)))
    ∙ ap (slice_get (local_types ps)) place ∙ past_run p.0 p.1 (local_types ps) (n - before) (omega (arith, up, low, small))

pub local_at : (params : List ValType) (ps : List (ℕ × ValType)) (n i : ℕ) → length params ≤ n → n < 2 ^ 32 → i ≤ length (ends_from 0 ps) → IsPartitionPoint (λ e. leb e (n - length params) ≡ true) (λ e. leb e (n - length params) ≡ false) (ends_from 0 ps) i
    → option_map (λ (p : ℕ × ValType). p.1) (slice_get ps i) ≡ slice_get (params ++ local_types ps) n
local_at params ps n i le small within point =
    let none : (n - length params) - 0 ≡ n - length params = omega arith in
    run_at 0 ps (n - length params) i (omega arith) (omega (arith, small)) within point ∙ ap (slice_get (local_types ps)) none ∙ get_behind params (local_types ps) n le

-- so with the ends that were told, and the run that was found there
pub local_is : (params : List ValType) (ps : List (ℕ × ValType)) (ends : List ℕ) (n i : ℕ) (found : Option (ℕ × ValType)) → ends ≡ ends_from 0 ps → length params ≤ n → n < 2 ^ 32 → i ≤ length ends
    → IsPartitionPoint (λ e. leb e (n - length params) ≡ true) (λ e. leb e (n - length params) ≡ false) ends i → found ≡ slice_get ps i → option_map (λ (p : ℕ × ValType). p.1) found ≡ slice_get (params ++ local_types ps) n
local_is params ps ends n i found are le small within point is =
    ap (option_map (λ (p : ℕ × ValType). p.1)) is
    ∙ local_at params ps n i le small (subst (λ l. i ≤ length l) are within) (subst (λ l. IsPartitionPoint (λ e. leb e (n - length params) ≡ true) (λ e. leb e (n - length params) ≡ false) l i) are point)
