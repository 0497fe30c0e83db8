-- Core items are equal by `==` where they are the same.
use Rattle.std.proofs.Common.{◌≡◌, List, [], ◌∷◌, ◌++◌, Contains, Some, None, sym, ap, subst, ◌∙◌}
use Rattle.std.proofs.lemmas.Map.Views.{hash_map_get_iff}
use Rattle.indexmap.specs.IndexMap.{IndexMap, IsUnique, get, insert_entry}
use Rattle.indexmap.proofs.CallerLemmas.{insert_entry-new}
use Rattle.fact_types.specs.Exact.{exact_def}
use Rattle.fact_types.specs.declared.outside.CoreDef.{CoreDef}
use Rattle.fact_types.specs.contracts.outside.CoreDefPartialEq.TheImpl as def_eq
use Rattle.fact_types.specs.contracts.outside.CoreDefEq.TheImpl.Laws.{laws-law}

-- ---- the pairs of a map of items
module _ {V S : Type 0} (m : IndexMap CoreDef V S) (unique : IsUnique def_eq.ghosts.eq m) (es : List (CoreDef × V)) (is : m.entries ≡ es) (d : CoreDef) where
  pub found : (v : V) → Some v ≡ get def_eq.ghosts.eq m d → Contains es (d, v)
  found v e = subst (λ ps. Contains ps (d, v)) is ((hash_map_get_iff laws-law exact_def m unique d v).0 (sym e))

  pub absent : None ≡ get def_eq.ghosts.eq m d → (v : V) → Contains es (d, v) → ⊥
  absent e v there =
      let f = (hash_map_get_iff laws-law exact_def m unique d v).1 (subst (λ ps. Contains ps (d, v)) (sym is) there) in
      cc

  pub pushed : (new : List (CoreDef × V)) (v : V) → None ≡ get def_eq.ghosts.eq m d → new ≡ insert_entry def_eq.ghosts.eq m.entries d v → new ≡ es ++ (d, v) ∷ []
  pushed new v e inserts = inserts ∙ insert_entry-new def_eq.ghosts.eq m d v (sym e) ∙ ap (λ ps. ps ++ (d, v) ∷ []) is
