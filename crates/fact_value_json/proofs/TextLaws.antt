-- The texts in a JSON value of the library are texts.
use Rattle.std.proofs.Common.{List, [], ◌∷◌, map, String, Global, subst, sym}
use Rattle.std.proofs.lemmas.Str.{IsUtf8-string_bytes}
use Rattle.serde_json.specs.Data.{Data}
use Rattle.serde_json.specs.View.{items_of, members_of, view, view_step}
use Rattle.serde_json.specs.declared.value.Value.{Value, roll-Value, fold-roll-Value, ind-Value, map-Value}
use Rattle.serde_json.specs.declared.value.Value.TheOpen as o
use Rattle.serde_json.specs.declared.value.Value.TheOpen.{Value-F}
use Rattle.fact_value_json.specs.JsonLaws.{HasTexts, ItemsHaveTexts, MembersHaveTexts}

module _ {Z : Type 0} (f : Z → Value) (each : (z : Z) → HasTexts (view (f z))) where
  items : (zs : List Z) → ItemsHaveTexts (items_of (map view (map f zs)))
  items [] = tt
  items (z ∷ zs) = (each z, items zs)

  members : (zs : List (String Global × Z)) → MembersHaveTexts (members_of (map (λ (m : String Global × Value). (m.0, view m.1)) (map (λ (m : String Global × Z). (m.0, f m.1)) zs)))
  members [] = tt
  members (z ∷ zs) = (each z.1, members zs)

  layer : (y : Value-F Z) → HasTexts (view_step (map-Value Value Data view (map-Value Z Value f y)))
  layer o.Null = tt
  layer (o.Bool b) = tt
  layer (o.Number n) = tt
  layer (o.String s) = IsUtf8-string_bytes s
  layer (o.Array v) = items v.items
  layer (o.Object m) = members m.entries

pub value_has_texts : (v : Value) → HasTexts (view v)
value_has_texts = ind-Value (λ v. HasTexts (view v)) (λ x y is. subst (λ (z : Value-F Value). HasTexts (view (roll-Value z))) is
    (subst HasTexts (sym (fold-roll-Value Data view_step (map-Value _ Value (λ e. e.0) y))) (layer (λ e. e.0) (λ e. e.1) y)))
