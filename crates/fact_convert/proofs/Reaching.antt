-- The tasks of an instance or a component are those of its imports and exports, each of which reaches less far, and then its own.
use Rattle.std.proofs.Common.{◌≡◌, ◌≤◌, ◌<◌, ◌+◌, ◌∙◌, ℕ, zero, suc, List, [], ◌∷◌, ◌++◌, Option, Some, None, All, length, refl, sym, ap, arith, subst}
use Rattle.std.specs.Prelude.{flat_map, map, slice_get, option_map}
use Rattle.std.proofs.lemmas.Option.{get_or_from_slice_get, slice_get_within}
use Rattle.fact_entity.specs.declared.id.Id.{Id}
use Rattle.fact_entity.specs.declared.table.SourceInstanceTypes.{SourceInstanceTypes}
use Rattle.fact_entity.specs.declared.table.SourceComponentTypes.{SourceComponentTypes}
use Rattle.fact_entity.specs.declared.source_ids.ComponentAnyTypeId.TheVariants as any
use Rattle.fact_source.specs.declared.items.ComponentEntityType.{ComponentEntityType}
use Rattle.fact_source.specs.declared.items.ComponentEntityType.TheVariants as entity
use Rattle.fact_source.specs.declared.items.SourceItem.{SourceItem}
use Rattle.fact_source.specs.declared.items.SourceInstance.{SourceInstance}
use Rattle.fact_source.specs.declared.items.SourceComponent.{SourceComponent}
use Rattle.fact_source.specs.declared.tables.Ranked.{Ranked}
use Rattle.fact_source.specs.SourceTables.{SourceTables, instance_at, component_at}
use Rattle.fact_source.specs.Live.{above_rank, reach_of, ReachBelow, IsSoundSource}
use Rattle.fact_builder.specs.Walk.{resources_of}
use Rattle.fact_convert.specs.Tasks.{Task, registers, appends_instance, appends_component, items_where_any, item_tasks, tasks_within, tasks_of}

-- ---- items of a list, one by one

same_items : (s : SourceTables) (f g : ComponentEntityType → List Task) (rank : ℕ) (items : List (List ℕ × SourceItem)) → ReachBelow s rank items → ((e : ComponentEntityType) → reach_of s e ≤ rank → f e ≡ g e) → flat_map (item_tasks s f) items ≡ flat_map (item_tasks s g) items
same_items s f g rank [] k h = refl
same_items s f g rank (x ∷ xs) k h =
    let here : item_tasks s f x ≡ item_tasks s g x = ap (λ (ts : List Task). map (λ r. registers r.1) (resources_of s [] x.1.ty) ++ ts) (h x.1.ty (k 0 x (omega arith)).1) in
    λ i. here i ++ same_items s f g rank xs (λ j d l. k (suc j) d (omega (arith, l))) h i

le_refl : (n : ℕ) → n ≤ n
le_refl n = omega arith

le_trans : (a b c : ℕ) → a ≤ b → b ≤ c → a ≤ c
le_trans a b c h k = omega (arith, h, k)

below_suc : (a b : ℕ) → suc a ≤ suc b → a ≤ b
below_suc a b h = omega (arith, h)

none_there : (n : ℕ) → suc n ≤ 0 → ⊥
none_there n h = omega (arith, h)

-- what holds of all items holds of the one at a place
at_place : {X : Type 0} (P : X → Type 0) (xs : List X) (i : ℕ) (x : X) → All P xs → slice_get xs i ≡ Some x → P x
at_place P xs i x a h = subst P (get_or_from_slice_get xs i x x h) (a i x (slice_get_within xs i x h))

-- ---- more steps than an item reaches change nothing

abbrev tasks_in_instance : ℕ → SourceTables → Option (Ranked SourceInstance) → List Task
tasks_in_instance n s o = items_where_any (λ x. flat_map (item_tasks s (λ e. tasks_within n s e)) x.exports ++ appends_instance x ∷ []) (option_map (λ r. r.entry) o)

abbrev tasks_in_component : ℕ → SourceTables → Option (Ranked SourceComponent) → List Task
tasks_in_component n s o = items_where_any (λ x. flat_map (item_tasks s (λ e. tasks_within n s e)) x.imports ++ flat_map (item_tasks s (λ e. tasks_within n s e)) x.exports ++ appends_component x ∷ []) (option_map (λ r. r.entry) o)

abbrev pub IsSoundInstance : SourceTables → Option (Ranked SourceInstance) → Type 0
IsSoundInstance s None = Unit {0}
IsSoundInstance s (Some r) = ReachBelow s r.rank r.entry.exports

abbrev pub IsSoundComponent : SourceTables → Option (Ranked SourceComponent) → Type 0
IsSoundComponent s None = Unit {0}
IsSoundComponent s (Some r) = ReachBelow s r.rank r.entry.imports × ReachBelow s r.rank r.entry.exports

pub instance_sound : (s : SourceTables) → IsSoundSource s → (i : ℕ) (o : Option (Ranked SourceInstance)) → slice_get s.instances i ≡ o → IsSoundInstance s o
instance_sound s k i None h = tt
instance_sound s k i (Some r) h = (at_place (λ (r : Ranked SourceInstance). ReachBelow s r.rank r.entry.exports × (r.rank < length s.instances + length s.components)) s.instances i r k.instances h).0

pub component_sound : (s : SourceTables) → IsSoundSource s → (i : ℕ) (o : Option (Ranked SourceComponent)) → slice_get s.components i ≡ o → IsSoundComponent s o
component_sound s k i None h = tt
component_sound s k i (Some r) h =
    let (imports, exports, rank) = at_place (λ (r : Ranked SourceComponent). ReachBelow s r.rank r.entry.imports × ReachBelow s r.rank r.entry.exports × (r.rank < length s.instances + length s.components)) s.components i r k.components h in
    (imports, exports)

abbrev SameTasks : SourceTables → ℕ → ℕ → Type 0
SameTasks s n m = (e : ComponentEntityType) → reach_of s e ≤ n → reach_of s e ≤ m → tasks_within n s e ≡ tasks_within m s e

same_instance : (s : SourceTables) (n m : ℕ) (o : Option (Ranked SourceInstance)) → IsSoundInstance s o → above_rank o ≤ suc n → above_rank o ≤ suc m → SameTasks s n m → tasks_in_instance n s o ≡ tasks_in_instance m s o
same_instance s n m None k l h same = refl
same_instance s n m (Some r) k l h same =
    ap (λ (ts : List Task). ts ++ appends_instance r.entry ∷ [])
    (same_items s (λ e. tasks_within n s e) (λ e. tasks_within m s e) r.rank r.entry.exports k (λ e b. same e (le_trans _ _ _ b (below_suc _ _ l)) (le_trans _ _ _ b (below_suc _ _ h))))

same_component : (s : SourceTables) (n m : ℕ) (o : Option (Ranked SourceComponent)) → IsSoundComponent s o → above_rank o ≤ suc n → above_rank o ≤ suc m → SameTasks s n m → tasks_in_component n s o ≡ tasks_in_component m s o
same_component s n m None k l h same = refl
same_component s n m (Some r) (imports, exports) l h same =
    let same_of : (items : List (List ℕ × SourceItem)) → ReachBelow s r.rank items → flat_map (item_tasks s (λ e. tasks_within n s e)) items ≡ flat_map (item_tasks s (λ e. tasks_within m s e)) items
    = λ items k. same_items s (λ e. tasks_within n s e) (λ e. tasks_within m s e) r.rank items k (λ e b. same e (le_trans _ _ _ b (below_suc _ _ l)) (le_trans _ _ _ b (below_suc _ _ h))) in
    λ i. same_of r.entry.imports imports i ++ same_of r.entry.exports exports i ++ appends_component r.entry ∷ []

no_instance : (s : SourceTables) (m : ℕ) (o : Option (Ranked SourceInstance)) → above_rank o ≤ 0 → [] ≡ tasks_in_instance m s o
no_instance s m None l = refl
no_instance s m (Some r) l = absurd (none_there _ l)

no_component : (s : SourceTables) (m : ℕ) (o : Option (Ranked SourceComponent)) → above_rank o ≤ 0 → [] ≡ tasks_in_component m s o
no_component s m None l = refl
no_component s m (Some r) l = absurd (none_there _ l)

same_tasks : (s : SourceTables) → IsSoundSource s → (n m : ℕ) → SameTasks s n m
same_tasks s k n m (entity.Module i) l h = refl
same_tasks s k n m (entity.Func i) l h = refl
same_tasks s k n m (entity.Value v) l h = refl
same_tasks s k n m (entity.AnyType (any.Resource i)) l h = refl
same_tasks s k n m (entity.AnyType (any.Defined i)) l h = refl
same_tasks s k n m (entity.AnyType (any.Func i)) l h = refl
same_tasks s k n m (entity.AnyType (any.Instance i)) l h = refl
same_tasks s k n m (entity.AnyType (any.Component i)) l h = refl
same_tasks s k zero zero (entity.Instance i) l h = refl
same_tasks s k zero (suc m) (entity.Instance i) l h = no_instance s m (slice_get s.instances i.number) l
same_tasks s k (suc n) zero (entity.Instance i) l h = sym (no_instance s n (slice_get s.instances i.number) h)
same_tasks s k (suc n) (suc m) (entity.Instance i) l h = same_instance s n m (slice_get s.instances i.number) (instance_sound s k i.number _ refl) l h (same_tasks s k n m)
same_tasks s k zero zero (entity.Component i) l h = refl
same_tasks s k zero (suc m) (entity.Component i) l h = no_component s m (slice_get s.components i.number) l
same_tasks s k (suc n) zero (entity.Component i) l h = sym (no_component s n (slice_get s.components i.number) h)
same_tasks s k (suc n) (suc m) (entity.Component i) l h = same_component s n m (slice_get s.components i.number) (component_sound s k i.number _ refl) l h (same_tasks s k n m)

-- ---- the tasks of an instance, and of a component

items_at : (s : SourceTables) → IsSoundSource s → (rank : ℕ) (items : List (List ℕ × SourceItem)) → ReachBelow s rank items → flat_map (item_tasks s (λ e. tasks_within rank s e)) items ≡ flat_map (item_tasks s (tasks_of s)) items
items_at s k rank items b = same_items s (λ e. tasks_within rank s e) (tasks_of s) rank items b (λ e l. same_tasks s k rank (reach_of s e) e l (le_refl _))

instance_at_rank : (s : SourceTables) → IsSoundSource s → (i : Id SourceInstanceTypes) (x : SourceInstance) (o : Option (Ranked SourceInstance)) → slice_get s.instances i.number ≡ o → option_map (λ r. r.entry) o ≡ Some x → tasks_within (above_rank o) s (entity.Instance i) ≡ flat_map (item_tasks s (tasks_of s)) x.exports ++ appends_instance x ∷ []
instance_at_rank s k i x None q h = cc
instance_at_rank s k i x (Some r) q h =
    let same : r.entry ≡ x = cc in
    ap (tasks_in_instance r.rank s) q
    ∙ ap (λ (ts : List Task). ts ++ appends_instance r.entry ∷ []) (items_at s k r.rank r.entry.exports (instance_sound s k i.number (Some r) q))
    ∙ ap (λ (y : SourceInstance). flat_map (item_tasks s (tasks_of s)) y.exports ++ appends_instance y ∷ []) same

pub instance_tasks : (s : SourceTables) → IsSoundSource s → (i : Id SourceInstanceTypes) (x : SourceInstance) → instance_at s i ≡ Some x → tasks_of s (entity.Instance i) ≡ flat_map (item_tasks s (tasks_of s)) x.exports ++ appends_instance x ∷ []
instance_tasks s k i x h = instance_at_rank s k i x (slice_get s.instances i.number) refl h

component_at_rank : (s : SourceTables) → IsSoundSource s → (i : Id SourceComponentTypes) (x : SourceComponent) (o : Option (Ranked SourceComponent)) → slice_get s.components i.number ≡ o → option_map (λ r. r.entry) o ≡ Some x → tasks_within (above_rank o) s (entity.Component i) ≡ flat_map (item_tasks s (tasks_of s)) x.imports ++ flat_map (item_tasks s (tasks_of s)) x.exports ++ appends_component x ∷ []
component_at_rank s k i x None q h = cc
component_at_rank s k i x (Some r) q h =
    let same : r.entry ≡ x = cc in
    let (imports, exports) = component_sound s k i.number (Some r) q in
    let both : tasks_in_component r.rank s (Some r) ≡ flat_map (item_tasks s (tasks_of s)) r.entry.imports ++ flat_map (item_tasks s (tasks_of s)) r.entry.exports ++ appends_component r.entry ∷ []
    = λ j. items_at s k r.rank r.entry.imports imports j ++ items_at s k r.rank r.entry.exports exports j ++ appends_component r.entry ∷ [] in
    ap (tasks_in_component r.rank s) q ∙ both
    ∙ ap (λ (y : SourceComponent). flat_map (item_tasks s (tasks_of s)) y.imports ++ flat_map (item_tasks s (tasks_of s)) y.exports ++ appends_component y ∷ []) same

pub component_tasks : (s : SourceTables) → IsSoundSource s → (i : Id SourceComponentTypes) (x : SourceComponent) → component_at s i ≡ Some x → tasks_of s (entity.Component i) ≡ flat_map (item_tasks s (tasks_of s)) x.imports ++ flat_map (item_tasks s (tasks_of s)) x.exports ++ appends_component x ∷ []
component_tasks s k i x h = component_at_rank s k i x (slice_get s.components i.number) refl h
