-- Which ids an entry names, that they are live, and that they were there before it.
use Rattle.std.specs.Prelude.{ℕ, ◌≡◌, ◌+◌, ◌<◌, ◌≤◌, suc, List, length, All, Option, Some, None, slice_get}
use Rattle.fact_entity.specs.declared.source_ids.ComponentAnyTypeId.{ComponentAnyTypeId}
use Rattle.fact_entity.specs.declared.source_ids.ComponentAnyTypeId.TheVariants as any
use Rattle.fact_source.specs.declared.defined.ComponentValType.{ComponentValType}
use Rattle.fact_source.specs.declared.defined.ComponentValType.TheVariants as val
use Rattle.fact_source.specs.declared.defined.ComponentDefinedType.{ComponentDefinedType}
use Rattle.fact_source.specs.declared.defined.ComponentDefinedType.TheVariants as ty
use Rattle.fact_source.specs.declared.defined.SourceFunc.{SourceFunc}
use Rattle.fact_source.specs.declared.items.ComponentEntityType.{ComponentEntityType}
use Rattle.fact_source.specs.declared.items.ComponentEntityType.TheVariants as entity
use Rattle.fact_source.specs.declared.items.SourceItem.{SourceItem}
use Rattle.fact_source.specs.declared.items.SourceInstance.{SourceInstance}
use Rattle.fact_source.specs.declared.items.SourceComponent.{SourceComponent}
use Rattle.fact_source.specs.declared.tables.Ranked.{Ranked}
use Rattle.fact_source.specs.SourceTables.{SourceTables}

-- ---- types of values: the defined types that they name stand among the first so many

abbrev pub IsValueBelow : ℕ → ComponentValType → Type 0
IsValueBelow defined (val.Primitive p) = Unit {0}
IsValueBelow defined (val.Defined i) = i.number < defined

abbrev pub IsPayloadBelow : ℕ → Option ComponentValType → Type 0
IsPayloadBelow defined None = Unit {0}
IsPayloadBelow defined (Some v) = IsValueBelow defined v

-- An entry names defined types and resources that stand among the first so many.
abbrev pub IsDefinedBelow : ℕ → ℕ → ComponentDefinedType → Type 0
IsDefinedBelow defined resources (ty.Primitive p) = Unit {0}
IsDefinedBelow defined resources (ty.Record fields) = All (λ f. IsValueBelow defined f.1) fields
IsDefinedBelow defined resources (ty.Variant cases) = All (λ c. IsPayloadBelow defined c.1) cases
IsDefinedBelow defined resources (ty.List v) = IsValueBelow defined v
IsDefinedBelow defined resources (ty.Map k v) = IsValueBelow defined k × IsValueBelow defined v
IsDefinedBelow defined resources (ty.Tuple vs) = All (IsValueBelow defined) vs
IsDefinedBelow defined resources (ty.Flags names) = Unit {0}
IsDefinedBelow defined resources (ty.Enum names) = Unit {0}
IsDefinedBelow defined resources (ty.Option v) = IsValueBelow defined v
IsDefinedBelow defined resources (ty.Result ok err) = IsPayloadBelow defined ok × IsPayloadBelow defined err
IsDefinedBelow defined resources (ty.Own r) = r.number < resources
IsDefinedBelow defined resources (ty.Borrow r) = r.number < resources
IsDefinedBelow defined resources (ty.Future payload) = IsPayloadBelow defined payload
IsDefinedBelow defined resources (ty.Stream payload) = IsPayloadBelow defined payload
IsDefinedBelow defined resources (ty.FixedLengthList v n) = IsValueBelow defined v

-- ---- live ids: those below the lengths of their tables

abbrev pub IsLiveDefined : SourceTables → ComponentDefinedType → Type 0
IsLiveDefined s t = IsDefinedBelow (length s.defined) s.resources t

abbrev pub IsLiveSourceFunc : SourceTables → SourceFunc → Type 0
IsLiveSourceFunc s f = All (λ p. IsValueBelow (length s.defined) p.1) f.params × IsPayloadBelow (length s.defined) f.result

abbrev pub IsLiveAny : SourceTables → ComponentAnyTypeId → Type 0
IsLiveAny s (any.Resource i) = i.number < s.resources
IsLiveAny s (any.Defined i) = i.number < length s.defined
IsLiveAny s (any.Func i) = i.number < length s.funcs
IsLiveAny s (any.Instance i) = i.number < length s.instances
IsLiveAny s (any.Component i) = i.number < length s.components

abbrev pub IsLiveEntity : SourceTables → ComponentEntityType → Type 0
IsLiveEntity s (entity.Module i) = i.number < length s.modules
IsLiveEntity s (entity.Func i) = i.number < length s.funcs
IsLiveEntity s (entity.Value v) = IsValueBelow (length s.defined) v
IsLiveEntity s (entity.AnyType i) = IsLiveAny s i
IsLiveEntity s (entity.Instance i) = i.number < length s.instances
IsLiveEntity s (entity.Component i) = i.number < length s.components

abbrev pub AreLiveItems : SourceTables → List (List ℕ × SourceItem) → Type 0
AreLiveItems s items = All (λ x. IsLiveEntity s x.1.ty) items

abbrev pub IsLiveSourceInstance : SourceTables → SourceInstance → Type 0
IsLiveSourceInstance s e = AreLiveItems s e.exports

abbrev pub IsLiveSourceComponent : SourceTables → SourceComponent → Type 0
IsLiveSourceComponent s e = AreLiveItems s e.imports × AreLiveItems s e.exports

-- ---- ranks

-- One more than the rank of an entry that is there.
abbrev pub above_rank : {X : Type 0} → Option (Ranked X) → ℕ
above_rank None = 0
above_rank (Some r) = suc r.rank

-- How far down an import or export may reach: above the rank of its instance or component.
abbrev pub reach_of : SourceTables → ComponentEntityType → ℕ
reach_of s (entity.Instance i) = above_rank (slice_get s.instances i.number)
reach_of s (entity.Component i) = above_rank (slice_get s.components i.number)
reach_of s _ = 0

-- The imports or exports are live, and reach no further than a rank.
abbrev pub ReachBelow : SourceTables → ℕ → List (List ℕ × SourceItem) → Type 0
ReachBelow s rank items = All (λ x. IsLiveEntity s x.1.ty × (reach_of s x.1.ty ≤ rank)) items

-- What holds of the tables at all times: every id that an entry names is live, a defined type names defined types before
-- it, and an instance or a component names instances and components before it.
pub record IsSoundSource (s : SourceTables) : Type 0 where
  pub defined : (i : ℕ) (e : ComponentDefinedType) → slice_get s.defined i ≡ Some e → IsDefinedBelow i s.resources e
  pub funcs : All (IsLiveSourceFunc s) s.funcs
  pub instances : All (λ r. ReachBelow s r.rank r.entry.exports × (r.rank < length s.instances + length s.components)) s.instances
  pub components : All (λ r. ReachBelow s r.rank r.entry.imports × ReachBelow s r.rank r.entry.exports × (r.rank < length s.instances + length s.components)) s.components
