-- Adapters that use each definition as one thing, and one more: their first mentions and its mentions are alike.
use Rattle.std.proofs.Common.{◌≡◌, List, [], ◌∷◌, ◌++◌, Contains, sym, ap, ◌∙◌, subst, append-nil, inl, inr}
use Rattle.std.specs.List.{flat_map}
use Rattle.std.proofs.lemmas.Grind.{flat_map-append}
use Rattle.std.proofs.lemmas.List.Elements.{Contains-append_cases, Contains-append_left, Contains-append_right}
use Rattle.fact_types.specs.Adapters.{LinkedAdapter}
use Rattle.fact_adapter_rules.specs.Bindings.{AreConsistent}
use Rattle.fact_adapter_rules.specs.AdapterRules.{uses_of}
use Rattle.fact_emit.specs.ImportSection.{Mention, adapter_mentions, mentions}
use Rattle.fact_emit.specs.Known.{AreUsedAlike}
use Rattle.fact_emit.proofs.Mentions.{in-mentions}
use Rattle.fact_assembly.proofs.Uses.{mentions_alike}

pub alike_next : (adapters : List LinkedAdapter) (a : LinkedAdapter) → AreConsistent (flat_map uses_of (adapters ++ a ∷ [])) → AreUsedAlike (mentions adapters ++ adapter_mentions a)
alike_next adapters a consistent = record { alike = λ q r q_in r_in e. (mentions_alike (adapters ++ a ∷ []) consistent).alike q r (all-in q q_in) (all-in r r_in) e }
  where
    are : flat_map adapter_mentions (adapters ++ a ∷ []) ≡ flat_map adapter_mentions adapters ++ adapter_mentions a
    are = flat_map-append adapter_mentions adapters (a ∷ []) ∙ ap (λ l. flat_map adapter_mentions adapters ++ l) (append-nil (adapter_mentions a))

    all-in : (m : Mention) → Contains (mentions adapters ++ adapter_mentions a) m → Contains (flat_map adapter_mentions (adapters ++ a ∷ [])) m
    all-in m c =
        subst (λ l. Contains l m) (sym are) (elim (Contains-append_cases (mentions adapters) (adapter_mentions a) m c) [
          | inl x ↦ Contains-append_left (flat_map adapter_mentions adapters) (adapter_mentions a) m (in-mentions [] (flat_map adapter_mentions adapters) m x)
          | inr y ↦ Contains-append_right (flat_map adapter_mentions adapters) (adapter_mentions a) m y
        ])
