-- A component of one export is linked.
use Rattle.std.proofs.Common.{◌≡◌, ◌<◌, ◌∙◌, ◌++◌, ap, ℕ, zero, suc, List, [], ◌∷◌, All, length, get_or, sym, subst, arith, Some}
use Rattle.std.specs.Prelude.{slice_get}
use Rattle.std.proofs.lemmas.Option.{slice_get_within}
use Rattle.fact_entity.specs.declared.id.Id.{Id}
use Rattle.fact_entity.specs.declared.table.Exports.{Exports}
use Rattle.fact_types.specs.declared.externs.ComponentExtern.{ComponentExtern}
use Rattle.fact_types.specs.declared.externs.ComponentExternData.{ComponentExternData}
use Rattle.fact_types.specs.Tables.{Tables, IsLiveDef, AreLiveExterns}
use Rattle.fact_convert.specs.declared.component.Component.{Component}
use Rattle.fact_convert.specs.declared.component.Export.{Export}
use Rattle.fact_convert.specs.Finished.{type_of_export, NamesLiveItems}

one_all : {X : Type 0} (P : X → Type 0) (xs : List X) (x : X) → xs ≡ x ∷ [] → P x → All P xs
one_all P xs x e h = subst (All P) (sym e) (λ i d l. alone i d l)
  where
    alone : (i : ℕ) (d : _) → i < length (x ∷ []) → P (get_or (x ∷ []) i d)
    alone zero d l = h
    alone (suc i) d l = absurd (omega (arith, l))

-- its one item has a type that is live whatever the tables are
pub one_linked : (t : Tables) (c : Component) (es : List (List ℕ × Id Exports × ComponentExternData)) (x : List ℕ × Id Exports × ComponentExternData) (is : List Export) (item : Export) → AreLiveExterns t c.import_types → c.exports ≡ es ++ x ∷ [] → es ≡ [] → c.export_items ≡ is ++ item ∷ [] → is ≡ [] → slice_get c.export_items x.1.number ≡ Some item → IsLiveDef t (type_of_export item) → NamesLiveItems t c
one_linked t c es x is item imports exports none items first there live = record {
  exports = one_all (λ x. x.1.number < length c.export_items) c.exports x (exports ∙ ap (λ ys. ys ++ x ∷ []) none) (slice_get_within c.export_items x.1.number item there);
  imports = imports;
  items = one_all (λ x. IsLiveDef t (type_of_export x)) c.export_items item (items ∙ ap (λ ys. ys ++ item ∷ []) first) live;
}
