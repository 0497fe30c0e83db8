-- Adapters of a component that a module is to take: their faults.
use Rattle.std.specs.Prelude.{◌≡◌, ℕ, ◌<◌, ◌≤◌, ◌⊎◌, Bool, nat_eq, List, [], ◌∷◌, ◌++◌, Some, slice_get, if◌then◌else◌}
use Rattle.std.specs.List.{list_any}
use Rattle.fact_entity.specs.declared.id.Id.{Id}
use Rattle.fact_entity.specs.declared.table.Adapters.{Adapters}
use Rattle.fact_entity.specs.declared.table.TypeFuncs.{TypeFuncs}
use Rattle.fact_types.specs.Functions.{HasSignature}
use Rattle.fact_types.specs.Shapes.{Shape}
use Rattle.fact_builder.specs.Builder.{Builder}
use Rattle.fact_plan_types.specs.Faults.{Fault, unknown_index, bad_type, too_large, rank}
use Rattle.fact_plan_types.specs.TypeRules.{most_entries}
use Rattle.fact_type_rules.specs.TypeFaults.{IsBadFunction, IsLargeFunction}
use Rattle.fact_adapter_rules.specs.declared.adapter.Adapter.{Adapter}
use Rattle.fact_adapter_rules.specs.AdapterRules.{most_instance}
use Rattle.fact_adapter_rules.specs.Linked.{NamesTypesOf}
use Rattle.fact_assembly.specs.declared.dfg.ComponentDfg.{ComponentDfg}
use Rattle.fact_assembly.specs.declared.taken.TakenAdapter.{TakenAdapter}
use Rattle.fact_assembly.specs.Collected.{Collected, HasLinkedFault}

-- ---- the adapters of a component

abbrev pub is_marked : Id Adapters → List (Id Adapters) → Bool
is_marked id marked = list_any (λ i. nat_eq i.number id.number) marked

abbrev pub with_mark : Bool → Id Adapters → List (Id Adapters) → List (Id Adapters)
with_mark transparent id marked = if transparent then marked ++ id ∷ [] else marked

-- Of the adapter of an id, under a name and with its mark, something is so.
abbrev pub OfAdapter : ComponentDfg → Id Adapters → List ℕ → (TakenAdapter → Type 0) → Type 0
OfAdapter component id name P =
    (a : Adapter) → slice_get component.adapters id.number ≡ Some a → P (record { name = name; transparent = is_marked id component.transparent_adapters; adapter = a })

-- ---- faults of its types

-- A function type is none, or a type in it is.
pub record IsBadFunctionType (b : Builder) (ty : Id TypeFuncs) : Type 0 where
  pub params : List Shape
  pub results : List Shape
  pub signature : HasSignature b.tables ty params results
  pub is_bad : IsBadFunction signature.func.param_names params results

-- A function type is too large, or a type in it is.
pub record IsLargeFunctionType (b : Builder) (ty : Id TypeFuncs) : Type 0 where
  pub params : List Shape
  pub results : List Shape
  pub signature : HasSignature b.tables ty params results
  pub is_large : IsLargeFunction signature.func.param_names params results

-- The types of an adapter of this number are none or too large, or its numbers are.
abbrev pub TypesHave : Builder → ℕ → Adapter → Fault → Type 0
TypesHave b k a unknown_index = NamesTypesOf b a → ⊥
TypesHave b k a bad_type = IsBadFunctionType b a.lift_ty ⊎ IsBadFunctionType b a.lower_ty
TypesHave b k a too_large =
    (IsLargeFunctionType b a.lift_ty ⊎ IsLargeFunctionType b a.lower_ty)
    ⊎ ((most_entries ≤ k) ⊎ ((most_instance < a.lift_options.instance.number) ⊎ (most_instance < a.lower_options.instance.number)))
TypesHave b k a _ = ⊥

-- ---- faults behind the adapters that a module took

abbrev pub HasFaultFor : Collected → ℕ → TakenAdapter → Fault → Type 0
HasFaultFor c k t f = TypesHave c.builder k t.adapter f ⊎ HasLinkedFault c t f

-- It has none.
abbrev pub IsFaultlessFor : Collected → ℕ → TakenAdapter → Type 0
IsFaultlessFor c k t = (f : Fault) → HasFaultFor c k t f → ⊥

-- It has this one, and none that is looked for before it.
pub record IsFirst (c : Collected) (k : ℕ) (t : TakenAdapter) (f : Fault) : Type 0 where
  pub has : HasFaultFor c k t f
  pub none_before : (g : Fault) → rank g < rank f → HasFaultFor c k t g → ⊥
