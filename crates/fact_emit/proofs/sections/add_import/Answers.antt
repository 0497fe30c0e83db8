use Rattle.std.proofs.Common.{◌≡◌, List, [], ◌∷◌, ◌++◌, Option, None, Some, refl, sym, ap, ◌∙◌, arith, length, length-append}
use Rattle.std.specs.Prelude.{MatchOption}
use Rattle.fact_emit.specs.contracts.imported.ImportedItemEq.TheImpl.Laws.{laws-law}
use Rattle.fact_emit.proofs.ExactItems.{exact_item}
use Rattle.fact_emit.proofs.ImportLists.{interned-new}
use Rattle.fact_emit.proofs.sections.add_import.Goals as goal

snoc-first : {X : Type 0} (xs ys : List X) (x y : X) → xs ++ x ∷ [] ≡ ys ++ y ∷ [] → xs ≡ ys
snoc-first [] [] x y e = refl
snoc-first [] (z ∷ ys) x y e = absurd (omega (arith, ap length e, length-append ys (y ∷ [])))
snoc-first (w ∷ xs) [] x y e = absurd (omega (arith, ap length e, length-append xs (x ∷ [])))
snoc-first (w ∷ xs) (z ∷ ys) x y e =
    let same : w ≡ z = cc in
    let rest : xs ++ x ∷ [] ≡ ys ++ y ∷ [] = cc in
    let first : xs ≡ ys = snoc-first xs ys x y rest in
    λ i. same i ∷ first i

-- a value that was put last is taken off again
popped : {X : Type 0} (before after new : List X) (x : X) (o : Option X) → after ≡ before ++ x ∷ [] → MatchOption o ((after ≡ []) × (new ≡ [])) (λ last. after ≡ new ++ last ∷ []) → new ≡ before
popped before after new x None pushed e = absurd (omega (arith, ap length (sym pushed ∙ e.0), length-append before (x ∷ [])))
popped before after new x (Some last) pushed e = snoc-first new before last x (sym e ∙ pushed)

pub returns-in-Ok-add_new-clause-place : goal.returns-in-Ok-add_new-clause-place
returns-in-Ok-add_new-clause-place g c =
    let held = c.in-Ok-add_new.ensures.interned.only.holds in
    rw c.as_u32.ensures (held.1 ∙ ap Some (sym (exact_item _ _ held.2)))

pub returns-in-Ok-add_new-clause-added : goal.returns-in-Ok-add_new-clause-added
returns-in-Ok-add_new-clause-added g c = record {
  section = c.in_default-push_import.ensures.pushed.0;
  imports = c.in_default-push_import.ensures.pushed.1 ∙ ap (λ i. c.args.imports.now ++ i ∷ []) c.in-Ok.ensures;
  items = c.in-Ok-add_new.ensures.list;
  absent = interned-new _ exact_item laws-law.refl _ _ _ _ c.in-Ok-add_new.ensures.key c.in-Ok-add_new.ensures.interned;
}

pub returns-in-Err-add_new-clause-refused : goal.returns-in-Err-add_new-clause-refused
returns-in-Err-add_new-clause-refused g c = record {
  section = popped c.args.section.now _ _ _ c.pop-in-Err-add_new.result c.in_default-push_import.ensures.pushed.0 c.pop-in-Err-add_new.ensures;
  imports = popped c.args.imports.now _ _ _ c.pop.result c.in_default-push_import.ensures.pushed.1 c.pop.ensures;
  items = c.in-Err-add_new.ensures.refused;
}
