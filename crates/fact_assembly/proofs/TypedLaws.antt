-- The faults of an adapter's types.
use Rattle.std.proofs.Common.{◌≡◌, ℕ, ◌<◌, ◌≤◌, ◌⊎◌, ◌↔◌, Bool, false, List, length, sym, ◌∙◌, inl, inr}
use Rattle.std.specs.Prelude.{IsTrue}
use Rattle.std.proofs.lemmas.Bool.{true≢false}
use Rattle.fact_entity.specs.declared.id.Id.{Id}
use Rattle.fact_entity.specs.declared.table.TypeFuncs.{TypeFuncs}
use Rattle.fact_types.specs.Functions.{HasSignature}
use Rattle.fact_types.specs.Shapes.{Shape}
use Rattle.fact_types.specs.Tables.{IsSound as IsSoundTables}
use Rattle.fact_builder.specs.Builder.{Builder}
use Rattle.fact_plan_types.specs.Faults.{Fault, unknown_index, bad_type, too_large}
use Rattle.fact_plan_types.specs.TypeRules.{most_entries}
use Rattle.fact_type_rules.specs.TypeFaults.{IsBadFunction, IsLargeFunction}
use Rattle.fact_adapter_rules.specs.declared.adapter.Adapter.{Adapter}
use Rattle.fact_types.specs.Adapters.{LinkedAdapter}
use Rattle.fact_adapter_rules.specs.AdapterRules.{most_instance}
use Rattle.fact_adapter_rules.specs.Linked.{HasSides, NamesTypesOf}
use Rattle.fact_assembly.specs.Adapted.{IsBadFunctionType, IsLargeFunctionType, TypesHave}
use Rattle.fact_assembly.specs.Typed.{HasSoundTypes}
use Rattle.fact_assembly.proofs.TakeLaws.{signature-of}

-- ---- a function type has a signature

module _ (b : Builder) (sound : IsSoundTables b.tables) (ty : Id TypeFuncs) (live : ty.number < length b.tables.functions) (found : Bool) where
  pub bad-type : ((params results : List Shape) (s : HasSignature b.tables ty params results) → (IsTrue found ↔ IsBadFunction s.func.param_names params results)) → (IsTrue found ↔ IsBadFunctionType b ty)
  bad-type h =
      let (params, results, s) = signature-of b.tables sound ty live in
      (λ t. record { params = params; results = results; signature = s; is_bad = (h params results s).0 t }, λ x. (h x.params x.results x.signature).1 x.is_bad)

  pub large-type : ((params results : List Shape) (s : HasSignature b.tables ty params results) → (IsTrue found ↔ IsLargeFunction s.func.param_names params results)) → (IsTrue found ↔ IsLargeFunctionType b ty)
  large-type h =
      let (params, results, s) = signature-of b.tables sound ty live in
      (λ t. record { params = params; results = results; signature = s; is_large = (h params results s).0 t }, λ x. (h x.params x.results x.signature).1 x.is_large)

-- ---- what was not found

pub not-found : {P : Type 0} (found : Bool) → (IsTrue found ↔ P) → found ≡ false → P → ⊥
not-found found h none p = true≢false (sym (h.1 p) ∙ none)

pub sound-types : (b : Builder) (k : ℕ) (a : Adapter) → NamesTypesOf b a → ((l : LinkedAdapter) × HasSides b a l) → (IsBadFunctionType b a.lift_ty ⊎ IsBadFunctionType b a.lower_ty → ⊥) → (IsLargeFunctionType b a.lift_ty ⊎ IsLargeFunctionType b a.lower_ty → ⊥)
    → ((most_entries ≤ k) ⊎ ((most_instance < a.lift_options.instance.number) ⊎ (most_instance < a.lower_options.instance.number)) → ⊥) → HasSoundTypes b k a
sound-types b k a typed linked not_bad not_large small = record { typed = typed; linked = linked.0; sides = linked.1; sound = none }
  where
    none : (f : Fault) → TypesHave b k a f → ⊥
    none unknown_index h = h typed
    none bad_type h = not_bad h
    none too_large (inl h) = not_large h
    none too_large (inr h) = small h
    none _ h = h
