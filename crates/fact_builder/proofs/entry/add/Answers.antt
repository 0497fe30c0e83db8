use Rattle.std.proofs.Common.{◌≡◌, List, [], ◌∷◌, ◌++◌, Option, None, Some, refl, sym, ap, ◌∙◌, arith, length, length-append}
use Rattle.std.specs.Prelude.{MatchOption}
use Rattle.fact_builder.specs.Keeps.{Keeps}
use Rattle.fact_types.specs.Tables.{Tables}
use Rattle.fact_builder.proofs.entry.add.Goals as goal

snoc-first : {X : Type 0} (xs ys : List X) (x y : X) → xs ++ x ∷ [] ≡ ys ++ y ∷ [] → xs ≡ ys
snoc-first [] [] x y e = refl
snoc-first [] (z ∷ ys) x y e = absurd (omega (arith, ap length e, length-append ys (y ∷ [])))
snoc-first (w ∷ xs) [] x y e = absurd (omega (arith, ap length e, length-append xs (x ∷ [])))
snoc-first (w ∷ xs) (z ∷ ys) x y e =
    let same : w ≡ z = cc in
    let rest : xs ++ x ∷ [] ≡ ys ++ y ∷ [] = cc in
    let first : xs ≡ ys = snoc-first xs ys x y rest in
    λ i. same i ∷ first i

-- a value that was put last is taken off again
popped : {X : Type 0} (before after new : List X) (x : X) (o : Option X) → after ≡ before ++ x ∷ [] → MatchOption o ((after ≡ []) × (new ≡ [])) (λ last. after ≡ new ++ last ∷ []) → new ≡ before
popped before after new x None pushed e = absurd (omega (arith, ap length (sym pushed ∙ e.0), length-append before (x ∷ [])))
popped before after new x (Some last) pushed e = snoc-first new before last x (sym e ∙ pushed)

-- tables that are as before
all_stays : (t : Tables) → Keeps t t
all_stays t = record { live = λ ty h. h; shapes = λ ty s h. h; signatures = λ i params results h. h }

pub returns-in-Some-clause-interned : goal.returns-in-Some-clause-interned
returns-in-Some-clause-interned g c =
    rw (← c.requires.known) c.in-Some.ensures.interned

pub returns-in-Some-clause-entry : goal.returns-in-Some-clause-entry
returns-in-Some-clause-entry g c =
    let held = c.in-Some.ensures.interned.only.holds in
    rw (← c.requires.known) (held.1 ∙ ap Some (sym (g.met.T.Entry.exact _ _ held.2)))

pub returns-in-Some-clause-rest : goal.returns-in-Some-clause-rest
returns-in-Some-clause-rest g c =
    sym (g.met.T.Entry.with_its_entries _)

pub returns-in-Some-clause-keeps : goal.returns-in-Some-clause-keeps
returns-in-Some-clause-keeps g c =
    all_stays _

pub returns-then-len-eq-MAX_ENTRIES-clause-rest : goal.returns-then-len-eq-MAX_ENTRIES-clause-rest
returns-then-len-eq-MAX_ENTRIES-clause-rest g c =
    sym (g.met.T.Entry.with_its_entries _)

pub returns-then-len-eq-MAX_ENTRIES-clause-keeps : goal.returns-then-len-eq-MAX_ENTRIES-clause-keeps
returns-then-len-eq-MAX_ENTRIES-clause-keeps g c =
    all_stays _

pub returns-in_err-copied-clause-rest : goal.returns-in_err-copied-clause-rest
returns-in_err-copied-clause-rest g c =
    sym (g.met.T.Entry.with_its_entries _)

pub returns-in_err-copied-clause-keeps : goal.returns-in_err-copied-clause-keeps
returns-in_err-copied-clause-keeps g c =
    all_stays _

pub returns-in_err-index-clause-rest : goal.returns-in_err-index-clause-rest
returns-in_err-index-clause-rest g c =
    sym (g.met.T.Entry.with_its_entries _)

pub returns-in_err-index-clause-keeps : goal.returns-in_err-index-clause-keeps
returns-in_err-index-clause-keeps g c =
    all_stays _

pub returns-in-Err-clause-known : goal.returns-in-Err-clause-known
returns-in-Err-clause-known g c =
    popped c.args.known.now _ _ _ c.pop.result c.in_ok-index.ensures.list c.pop.ensures ∙ c.requires.known ∙ ap g.T.Entry.entries (sym c.in-Err.ensures.refused)

pub returns-in-Err-clause-rest : goal.returns-in-Err-clause-rest
returns-in-Err-clause-rest g c =
    c.in-Err.ensures.refused ∙ sym (g.met.T.Entry.with_its_entries _) ∙ ap (λ t. g.T.Entry.with_entries c.args.types.now (g.T.Entry.entries t)) (sym c.in-Err.ensures.refused)

pub returns-in-Err-clause-keeps : goal.returns-in-Err-clause-keeps
returns-in-Err-clause-keeps g c =
    c.in-Err.ensures.keeps

pub returns-clause-known : goal.returns-clause-known
returns-clause-known g c =
    c.in_ok-index.ensures.list ∙ ap (λ e. c.args.known.now ++ e ∷ []) c.in_ok-copied.ensures ∙ ap (λ es. es ++ c.args.entry ∷ []) c.requires.known ∙ sym (ap g.T.Entry.entries c.in_default-push.ensures.table ∙ g.met.T.Entry.entries_of_with _ _)

pub returns-clause-rest : goal.returns-clause-rest
returns-clause-rest g c =
    c.in_default-push.ensures.table ∙ ap (g.T.Entry.with_entries c.args.types.now) (sym (ap g.T.Entry.entries c.in_default-push.ensures.table ∙ g.met.T.Entry.entries_of_with _ _))

pub returns-clause-keeps : goal.returns-clause-keeps
returns-clause-keeps g c =
    c.in_default-push.ensures.keeps
