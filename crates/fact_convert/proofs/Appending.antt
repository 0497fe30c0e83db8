-- What comes of instances and components whose imports and exports were converted.
use Rattle.std.proofs.Common.{◌≡◌, ◌↔◌, ℕ, List, [], ◌∷◌, ◌++◌, length, Option, Some, None, refl, sym, ◌∙◌, ap, subst}
use Rattle.std.specs.Prelude.{nat_eq, slice_get, option_map, flat_map, Result, Ok, Err}
use Rattle.std.specs.List.{AllZip}
use Rattle.std.specs.Cmp.Lexicographic.{pointwise}
use Rattle.indexmap.specs.IndexMap.{insert_entry}
use Rattle.fact_entity.specs.declared.error.PushError.{PushError}
use Rattle.fact_entity.specs.declared.error.PushError.TheVariants as push
use Rattle.fact_entity.specs.declared.id.Id.{Id}
use Rattle.fact_entity.specs.declared.table.SourceComponentTypes.{SourceComponentTypes}
use Rattle.fact_entity.specs.declared.table.SourceInstanceTypes.{SourceInstanceTypes}
use Rattle.fact_entity.specs.declared.table.TypeComponentInstances.{TypeComponentInstances}
use Rattle.fact_entity.specs.declared.table.TypeComponents.{TypeComponents}
use Rattle.fact_source.specs.declared.items.ComponentEntityType.TheVariants as entity
use Rattle.fact_source.specs.declared.items.SourceComponent.{SourceComponent}
use Rattle.fact_source.specs.declared.items.SourceInstance.{SourceInstance}
use Rattle.fact_source.specs.declared.items.SourceItem.{SourceItem}
use Rattle.fact_source.specs.declared.tables.Ranked.{Ranked}
use Rattle.fact_source.specs.Live.{above_rank, ReachBelow, IsSoundSource}
use Rattle.fact_source.specs.SourceTables.{SourceTables, instance_at, component_at}
use Rattle.fact_types.specs.declared.externs.ComponentExtern.{ComponentExtern}
use Rattle.fact_types.specs.declared.interface.TypeDef.TheVariants as def
use Rattle.fact_types.specs.Externs.{ComponentType, InstanceType}
use Rattle.fact_builder.specs.Builder.{Builder}
use Rattle.fact_builder.specs.Keeps.{Keeps}
use Rattle.fact_builder.specs.declared.error.BuildError.{BuildError}
use Rattle.fact_builder.specs.Errors.{build_error}
use Rattle.fact_convert.specs.Appended.{IsDefMade, AreLastInTurn}
use Rattle.fact_convert.specs.Conversion.{BuilderGrows}
use Rattle.fact_convert.specs.Converted.{IsItemFrom, IsDefFrom, IsDefWithin}
use Rattle.fact_convert.specs.BuilderTables.{tables_of}
use Rattle.fact_convert.specs.Merging.{merged}
use Rattle.fact_convert.specs.Progress.{Comes, AreKeyed, IsExternFrom, AreItemsFrom}
use Rattle.fact_convert.specs.Tasks.{Task, appends_instance, appends_component, item_tasks, tasks_of}
use Rattle.fact_convert.proofs.Adding.{gains_instance, gains_component, gains_grow, gains_kept}
use Rattle.fact_convert.proofs.Coming.{comes_by, comes_refused, comes_then, comes_not, comes_as}
use Rattle.fact_convert.proofs.CoreLaws.{last_there, last_number, no_err}
use Rattle.fact_convert.proofs.Merged.{zip_so, both_put, one_more_merged}
use Rattle.fact_convert.proofs.Reaching.{instance_sound, component_sound, instance_tasks, component_tasks}
use Rattle.fact_convert.proofs.Within.{items_stay, items_within}

-- ---- each item by its name, its type and what is said of it

pub as_items : (s : SourceTables) (c : Builder) (items : List (List ℕ × SourceItem)) (made : List (List ℕ × ComponentExtern)) → AreItemsFrom s c items made → AllZip (IsItemFrom (IsDefFrom s c)) (merged items) made
as_items s c items made h = zip_so _ _ _ _ (λ x y k. record { name = k.0; implements = k.1.0; external_id = k.1.1; ty = k.1.2 }) h

-- one more import or export was converted, and put under its name
pub one_more_item : (s : SourceTables) (a b : Builder) → BuilderGrows a b → (items : List (List ℕ × SourceItem)) (x : List ℕ × SourceItem) (y : ComponentExtern) (old new : List (List ℕ × ComponentExtern)) → AreItemsFrom s a items old → IsExternFrom s b x.1 y → new ≡ insert_entry (pointwise nat_eq) old x.0 y → AreItemsFrom s b (items ++ x ∷ []) new
one_more_item s a b g items x y old new k h e =
    subst (λ es. AreKeyed (IsExternFrom s b) es new) (sym (one_more_merged (pointwise nat_eq) items x))
    (subst (AreKeyed (IsExternFrom s b) (insert_entry (pointwise nat_eq) (merged items) x.0 x.1)) (sym e) (both_put (pointwise nat_eq) (IsExternFrom s b) (merged items) old x.0 x.0 x.1 y (items_stay s a b g items old k) refl h))

-- ---- instances

instance_within : (s : SourceTables) → IsSoundSource s → (c : Builder) (i : Id SourceInstanceTypes) (j : Id TypeComponentInstances) (x : SourceInstance) (e : InstanceType) (o : Option (Ranked SourceInstance)) → slice_get s.instances i.number ≡ o → option_map (λ r. r.entry) o ≡ Some x
    → slice_get (tables_of c).component_instances j.number ≡ Some e → AllZip (IsItemFrom (IsDefFrom s c)) (merged x.exports) e.exports → IsDefWithin (above_rank o) s c (entity.Instance i) (def.ComponentInstance j)
instance_within s k c i j x e None q at there z = cc
instance_within s k c i j x e (Some r) q at there z =
    let same : r.entry ≡ x = cc in
    let sound : ReachBelow s r.rank x.exports = subst (λ (y : SourceInstance). ReachBelow s r.rank y.exports) same (instance_sound s k i.number (Some r) q) in
    (x, e, ap (option_map (λ r. r.entry)) q ∙ at, there, items_within s k c r.rank x.exports e.exports sound z)

pub instance_made : (s : SourceTables) → IsSoundSource s → (a : Builder) (b : Builder) (i : Id SourceInstanceTypes) (x : SourceInstance) (e : InstanceType) (k : Id TypeComponentInstances) → instance_at s i ≡ Some x → AreItemsFrom s a x.exports e.exports → AreLastInTurn s (tables_of a) [] x.exports [] e.exports
    → b ≡ record a { tables = record a.tables { component_instances = a.tables.component_instances ++ e ∷ [] } } → Keeps a.tables b.tables → ((Ok k ≡ Err push.TooLarge) ↔ (length a.tables.component_instances ≡ 4294967295)) → k.number ≡ length a.tables.component_instances
    → Comes s a (appends_instance x ∷ []) (λ c j. IsDefMade s c (entity.Instance i) (def.ComponentInstance j)) b (Ok k)
instance_made s sound a b i x e k there from turn rest keeps t place =
    let b' : Builder = record a { tables = record a.tables { component_instances = a.tables.component_instances ++ e ∷ [] } } in
    let g = gains_instance a e (subst (λ (z : Builder). Keeps a.tables z.tables) rest keeps) in
    let c : Builder = b' in
    subst (λ (z : Builder). Comes s a (appends_instance x ∷ []) (λ c j. IsDefMade s c (entity.Instance i) (def.ComponentInstance j)) z (Ok k)) (sym rest)
    (comes_by s a c (appends_instance x) (λ c j. IsDefMade s c (entity.Instance i) (def.ComponentInstance j)) k (e, as_items s a x.exports e.exports from, turn, no_err k _ t, refl) (gains_grow a b' g) (gains_kept a b' g)
    (instance_within s sound c i k x e (slice_get s.instances i.number) refl there (last_there a.tables.component_instances e k.number place) (as_items s c x.exports e.exports (items_stay s a c (gains_grow a b' g) x.exports e.exports from)), last_number a.tables.component_instances e k.number place))

pub instance_full : {K Y : Type 0} (s : SourceTables) (a : Builder) (x : SourceInstance) (F : Builder → Y → Type 0) (res : Result K PushError) (y : PushError) → res ≡ Err y → ((res ≡ Err push.TooLarge) ↔ (length a.tables.component_instances ≡ 4294967295)) → Comes s a (appends_instance x ∷ []) F a (Err (build_error y))
instance_full s a x F res y q t = comes_refused s a (appends_instance x) [] F y (λ z. t.0 (q ∙ ap Err z))

-- ---- components

component_within : (s : SourceTables) → IsSoundSource s → (c : Builder) (i : Id SourceComponentTypes) (j : Id TypeComponents) (x : SourceComponent) (e : ComponentType) (o : Option (Ranked SourceComponent)) → slice_get s.components i.number ≡ o → option_map (λ r. r.entry) o ≡ Some x
    → slice_get (tables_of c).components j.number ≡ Some e → AllZip (IsItemFrom (IsDefFrom s c)) (merged x.imports) e.imports → AllZip (IsItemFrom (IsDefFrom s c)) (merged x.exports) e.exports → IsDefWithin (above_rank o) s c (entity.Component i) (def.Component j)
component_within s k c i j x e None q at there z w = cc
component_within s k c i j x e (Some r) q at there z w =
    let same : r.entry ≡ x = cc in
    let sound : ReachBelow s r.rank x.imports × ReachBelow s r.rank x.exports = subst (λ (y : SourceComponent). ReachBelow s r.rank y.imports × ReachBelow s r.rank y.exports) same (component_sound s k i.number (Some r) q) in
    (x, e, ap (option_map (λ r. r.entry)) q ∙ at, there, items_within s k c r.rank x.imports e.imports sound.0 z, items_within s k c r.rank x.exports e.exports sound.1 w)

pub component_made : (s : SourceTables) → IsSoundSource s → (a : Builder) (b : Builder) (i : Id SourceComponentTypes) (x : SourceComponent) (e : ComponentType) (k : Id TypeComponents) → component_at s i ≡ Some x → AreItemsFrom s a x.imports e.imports → AreItemsFrom s a x.exports e.exports → AreLastInTurn s (tables_of a) x.imports x.exports e.imports e.exports
    → b ≡ record a { tables = record a.tables { components = a.tables.components ++ e ∷ [] } } → Keeps a.tables b.tables → ((Ok k ≡ Err push.TooLarge) ↔ (length a.tables.components ≡ 4294967295)) → k.number ≡ length a.tables.components
    → Comes s a (appends_component x ∷ []) (λ c j. IsDefMade s c (entity.Component i) (def.Component j)) b (Ok k)
component_made s sound a b i x e k there imports exports turn rest keeps t place =
    let b' : Builder = record a { tables = record a.tables { components = a.tables.components ++ e ∷ [] } } in
    let g = gains_component a e (subst (λ (z : Builder). Keeps a.tables z.tables) rest keeps) in
    let c : Builder = b' in
    let h = gains_grow a b' g in
    subst (λ (z : Builder). Comes s a (appends_component x ∷ []) (λ c j. IsDefMade s c (entity.Component i) (def.Component j)) z (Ok k)) (sym rest)
    (comes_by s a c (appends_component x) (λ c j. IsDefMade s c (entity.Component i) (def.Component j)) k (e, as_items s a x.imports e.imports imports, as_items s a x.exports e.exports exports, turn, no_err k _ t, refl) h (gains_kept a b' g)
    (component_within s sound c i k x e (slice_get s.components i.number) refl there (last_there a.tables.components e k.number place) (as_items s c x.imports e.imports (items_stay s a c h x.imports e.imports imports)) (as_items s c x.exports e.exports (items_stay s a c h x.exports e.exports exports)), last_number a.tables.components e k.number place))

pub component_full : {K Y : Type 0} (s : SourceTables) (a : Builder) (x : SourceComponent) (F : Builder → Y → Type 0) (res : Result K PushError) (y : PushError) → res ≡ Err y → ((res ≡ Err push.TooLarge) ↔ (length a.tables.components ≡ 4294967295)) → Comes s a (appends_component x ∷ []) F a (Err (build_error y))
component_full s a x F res y q t = comes_refused s a (appends_component x) [] F y (λ z. t.0 (q ∙ ap Err z))

-- ---- the whole of an instance, and of a component

items_named : (s : SourceTables) (xs ys : List (List ℕ × SourceItem)) → xs ≡ ys → flat_map (item_tasks s (tasks_of s)) xs ≡ flat_map (item_tasks s (tasks_of s)) ys
items_named s xs ys e = ap (flat_map (item_tasks s (tasks_of s))) e

pub instance_comes : {X Y : Type 0} (s : SourceTables) → IsSoundSource s → (a b c : Builder) (i : Id SourceInstanceTypes) (x : SourceInstance) → instance_at s i ≡ Some x → (xs : List (List ℕ × SourceItem)) → xs ≡ x.exports → (F : Builder → X → Type 0) (G : Builder → Y → Type 0) (y : X) (r : Result Y BuildError)
    → Comes s a (flat_map (item_tasks s (tasks_of s)) xs) F b (Ok y) → Comes s b (appends_instance x ∷ []) G c r → Comes s a (tasks_of s (entity.Instance i)) G c r
instance_comes s k a b c i x h xs e F G y r p q =
    comes_as s a c _ _ G r (ap (λ (ts : List Task). ts ++ appends_instance x ∷ []) (items_named s xs x.exports e) ∙ sym (instance_tasks s k i x h)) (comes_then s a b c (flat_map (item_tasks s (tasks_of s)) xs) (appends_instance x ∷ []) F G y r p q)

pub instance_fails : {X Y : Type 0} (s : SourceTables) → IsSoundSource s → (a b : Builder) (i : Id SourceInstanceTypes) (x : SourceInstance) → instance_at s i ≡ Some x → (xs : List (List ℕ × SourceItem)) → xs ≡ x.exports → (F : Builder → X → Type 0) (G : Builder → Y → Type 0) (y : BuildError)
    → Comes s a (flat_map (item_tasks s (tasks_of s)) xs) F b (Err y) → Comes s a (tasks_of s (entity.Instance i)) G b (Err y)
instance_fails s k a b i x h xs e F G y p =
    comes_as s a b _ _ G (Err y) (ap (λ (ts : List Task). ts ++ appends_instance x ∷ []) (items_named s xs x.exports e) ∙ sym (instance_tasks s k i x h)) (comes_not s a b (flat_map (item_tasks s (tasks_of s)) xs) (appends_instance x ∷ []) F G y p)

component_named : (s : SourceTables) → IsSoundSource s → (i : Id SourceComponentTypes) (x : SourceComponent) → component_at s i ≡ Some x → (xs ys : List (List ℕ × SourceItem)) → xs ≡ x.imports → ys ≡ x.exports → flat_map (item_tasks s (tasks_of s)) xs ++ flat_map (item_tasks s (tasks_of s)) ys ++ appends_component x ∷ [] ≡ tasks_of s (entity.Component i)
component_named s k i x h xs ys e f = (λ j. items_named s xs x.imports e j ++ items_named s ys x.exports f j ++ appends_component x ∷ []) ∙ sym (component_tasks s k i x h)

pub component_comes : {X Z Y : Type 0} (s : SourceTables) → IsSoundSource s → (a b c d : Builder) (i : Id SourceComponentTypes) (x : SourceComponent) → component_at s i ≡ Some x → (xs ys : List (List ℕ × SourceItem)) → xs ≡ x.imports → ys ≡ x.exports → (F : Builder → X → Type 0) (G : Builder → Z → Type 0) (H : Builder → Y → Type 0) (y : X) (z : Z) (r : Result Y BuildError)
    → Comes s a (flat_map (item_tasks s (tasks_of s)) xs) F b (Ok y) → Comes s b (flat_map (item_tasks s (tasks_of s)) ys) G c (Ok z) → Comes s c (appends_component x ∷ []) H d r → Comes s a (tasks_of s (entity.Component i)) H d r
component_comes s k a b c d i x h xs ys e f F G H y z r p q t =
    comes_as s a d _ _ H r (component_named s k i x h xs ys e f)
    (comes_then s a c d _ (appends_component x ∷ []) G H z r (comes_then s a b c _ _ F G y (Ok z) p q) t)

pub imports_fail : {X Y : Type 0} (s : SourceTables) → IsSoundSource s → (a b : Builder) (i : Id SourceComponentTypes) (x : SourceComponent) → component_at s i ≡ Some x → (xs : List (List ℕ × SourceItem)) → xs ≡ x.imports → (F : Builder → X → Type 0) (H : Builder → Y → Type 0) (y : BuildError)
    → Comes s a (flat_map (item_tasks s (tasks_of s)) xs) F b (Err y) → Comes s a (tasks_of s (entity.Component i)) H b (Err y)
imports_fail s k a b i x h xs e F H y p =
    comes_as s a b _ _ H (Err y) (component_named s k i x h xs x.exports e refl)
    (comes_not s a b (flat_map (item_tasks s (tasks_of s)) xs ++ flat_map (item_tasks s (tasks_of s)) x.exports) (appends_component x ∷ []) F H y (comes_not s a b (flat_map (item_tasks s (tasks_of s)) xs) (flat_map (item_tasks s (tasks_of s)) x.exports) F F y p))

pub exports_fail : {X Z Y : Type 0} (s : SourceTables) → IsSoundSource s → (a b c : Builder) (i : Id SourceComponentTypes) (x : SourceComponent) → component_at s i ≡ Some x → (xs ys : List (List ℕ × SourceItem)) → xs ≡ x.imports → ys ≡ x.exports → (F : Builder → X → Type 0) (G : Builder → Z → Type 0) (H : Builder → Y → Type 0) (y : X) (z : BuildError)
    → Comes s a (flat_map (item_tasks s (tasks_of s)) xs) F b (Ok y) → Comes s b (flat_map (item_tasks s (tasks_of s)) ys) G c (Err z) → Comes s a (tasks_of s (entity.Component i)) H c (Err z)
exports_fail s k a b c i x h xs ys e f F G H y z p q =
    comes_as s a c _ _ H (Err z) (component_named s k i x h xs ys e f)
    (comes_not s a c _ (appends_component x ∷ []) G H z (comes_then s a b c _ _ F G y (Err z) p q))
