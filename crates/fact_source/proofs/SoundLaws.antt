-- One more entry of a table keeps the tables of the source sound.
use Rattle.std.proofs.Common.{◌≡◌, ◌<◌, ◌≤◌, ◌+◌, ℕ, zero, suc, List, [], ◌∷◌, ◌++◌, length, get_or, Option, Some, None, refl, sym, ◌∙◌, ap, subst, arith, All, length-append}
use Rattle.std.specs.Prelude.{slice_get, IfSome, Result, Ok, Err, OnOk, OnErr}
use Rattle.std.proofs.lemmas.List.Elements.{All-push}
use Rattle.fact_entity.specs.declared.source_ids.ComponentAnyTypeId.{ComponentAnyTypeId}
use Rattle.fact_entity.specs.declared.source_ids.ComponentAnyTypeId.TheVariants as any
use Rattle.fact_source.specs.declared.defined.ComponentValType.{ComponentValType}
use Rattle.fact_source.specs.declared.defined.ComponentValType.TheVariants as val
use Rattle.fact_source.specs.declared.defined.ComponentDefinedType.{ComponentDefinedType}
use Rattle.fact_source.specs.declared.defined.ComponentDefinedType.TheVariants as ty
use Rattle.fact_source.specs.declared.defined.SourceFunc.{SourceFunc}
use Rattle.fact_source.specs.declared.items.ComponentEntityType.{ComponentEntityType}
use Rattle.fact_source.specs.declared.items.ComponentEntityType.TheVariants as entity
use Rattle.fact_source.specs.declared.items.SourceItem.{SourceItem}
use Rattle.fact_source.specs.declared.items.SourceInstance.{SourceInstance}
use Rattle.fact_source.specs.declared.items.SourceComponent.{SourceComponent}
use Rattle.fact_source.specs.declared.tables.Ranked.{Ranked}
use Rattle.fact_source.specs.SourceTables.{SourceTables, ranked}
use Rattle.fact_source.specs.Live.{IsValueBelow, IsPayloadBelow, IsDefinedBelow, IsLiveDefined, IsLiveSourceFunc, IsLiveAny, IsLiveEntity, AreLiveItems, IsLiveSourceInstance, IsLiveSourceComponent, above_rank, reach_of, ReachBelow, IsSoundSource}

-- ---- what is live stays live where the tables grow
record SourceGrows (s t : SourceTables) : Type 0 where
  defined : length s.defined ≤ length t.defined
  funcs : length s.funcs ≤ length t.funcs
  modules : length s.modules ≤ length t.modules
  resources : s.resources ≤ t.resources
  instances : (i : ℕ) → i < length s.instances → slice_get t.instances i ≡ slice_get s.instances i
  more_instances : length s.instances ≤ length t.instances
  components : (i : ℕ) → i < length s.components → slice_get t.components i ≡ slice_get s.components i
  more_components : length s.components ≤ length t.components

lt_le : (a b c : ℕ) → a < b → b ≤ c → a < c
lt_le a b c h k = omega (arith, h, k)

le_refl : (n : ℕ) → n ≤ n
le_refl n = omega arith

value_longer : (m n : ℕ) → m ≤ n → (v : ComponentValType) → IsValueBelow m v → IsValueBelow n v
value_longer m n g (val.Primitive p) l = tt
value_longer m n g (val.Defined i) l = lt_le _ _ _ l g

payload_longer : (m n : ℕ) → m ≤ n → (o : Option ComponentValType) → IsPayloadBelow m o → IsPayloadBelow n o
payload_longer m n g None l = tt
payload_longer m n g (Some v) l = value_longer m n g v l

defined_longer : (m n a b : ℕ) → m ≤ n → a ≤ b → (t : ComponentDefinedType) → IsDefinedBelow m a t → IsDefinedBelow n b t
defined_longer m n a b g h (ty.Primitive p) l = tt
defined_longer m n a b g h (ty.Record fields) l = λ i d k. value_longer m n g (get_or fields i d).1 (l i d k)
defined_longer m n a b g h (ty.Variant cases) l = λ i d k. payload_longer m n g (get_or cases i d).1 (l i d k)
defined_longer m n a b g h (ty.List v) l = value_longer m n g v l
defined_longer m n a b g h (ty.Map k v) l = (value_longer m n g k l.0, value_longer m n g v l.1)
defined_longer m n a b g h (ty.Tuple vs) l = λ i d k. value_longer m n g (get_or vs i d) (l i d k)
defined_longer m n a b g h (ty.Flags names) l = tt
defined_longer m n a b g h (ty.Enum names) l = tt
defined_longer m n a b g h (ty.Option v) l = value_longer m n g v l
defined_longer m n a b g h (ty.Result ok err) l = (payload_longer m n g ok l.0, payload_longer m n g err l.1)
defined_longer m n a b g h (ty.Own r) l = lt_le _ _ _ l h
defined_longer m n a b g h (ty.Borrow r) l = lt_le _ _ _ l h
defined_longer m n a b g h (ty.Future payload) l = payload_longer m n g payload l
defined_longer m n a b g h (ty.Stream payload) l = payload_longer m n g payload l
defined_longer m n a b g h (ty.FixedLengthList v n2) l = value_longer m n g v l

func_longer : (s t : SourceTables) → SourceGrows s t → (f : SourceFunc) → IsLiveSourceFunc s f → IsLiveSourceFunc t f
func_longer s t g f l = (λ i d k. value_longer _ _ g.defined (get_or f.params i d).1 (l.0 i d k), payload_longer _ _ g.defined f.result l.1)

any_longer : (s t : SourceTables) → SourceGrows s t → (i : ComponentAnyTypeId) → IsLiveAny s i → IsLiveAny t i
any_longer s t g (any.Resource i) l = lt_le _ _ _ l g.resources
any_longer s t g (any.Defined i) l = lt_le _ _ _ l g.defined
any_longer s t g (any.Func i) l = lt_le _ _ _ l g.funcs
any_longer s t g (any.Instance i) l = lt_le _ _ _ l g.more_instances
any_longer s t g (any.Component i) l = lt_le _ _ _ l g.more_components

entity_longer : (s t : SourceTables) → SourceGrows s t → (e : ComponentEntityType) → IsLiveEntity s e → IsLiveEntity t e
entity_longer s t g (entity.Module i) l = lt_le _ _ _ l g.modules
entity_longer s t g (entity.Func i) l = lt_le _ _ _ l g.funcs
entity_longer s t g (entity.Value v) l = value_longer _ _ g.defined v l
entity_longer s t g (entity.AnyType i) l = any_longer s t g i l
entity_longer s t g (entity.Instance i) l = lt_le _ _ _ l g.more_instances
entity_longer s t g (entity.Component i) l = lt_le _ _ _ l g.more_components

same_reach : (s t : SourceTables) → SourceGrows s t → (e : ComponentEntityType) → IsLiveEntity s e → reach_of t e ≡ reach_of s e
same_reach s t g (entity.Module i) l = refl
same_reach s t g (entity.Func i) l = refl
same_reach s t g (entity.Value v) l = refl
same_reach s t g (entity.AnyType i) l = refl
same_reach s t g (entity.Instance i) l = ap above_rank (g.instances i.number l)
same_reach s t g (entity.Component i) l = ap above_rank (g.components i.number l)

items_longer : (s t : SourceTables) → SourceGrows s t → (n : ℕ) (xs : List (List ℕ × SourceItem)) → ReachBelow s n xs → ReachBelow t n xs
items_longer s t g n xs a = λ i d l.
    let h = a i d l in
    let e = (get_or xs i d).1.ty in
    (entity_longer s t g e h.0, subst (λ m. m ≤ n) (sym (same_reach s t g e h.0)) h.1)

-- ---- what is live reaches no further than there are instances and components
above_all : {X : Type 0} (xs : List (Ranked X)) (n i : ℕ) → i < length xs → ((r : Ranked X) → slice_get xs i ≡ Some r → r.rank < n) → above_rank (slice_get xs i) ≤ n
above_all [] n i l h = omega (arith, l)
above_all (x ∷ xs) n zero l h = let k = h x refl in omega (arith, k)
above_all (x ∷ xs) n (suc i) l h = above_all xs n i (omega (arith, l)) h

at_place : {X : Type 0} (P : X → Type 0) (xs : List X) (i : ℕ) (x : X) → All P xs → slice_get xs i ≡ Some x → P x
at_place P [] i x a h = cc
at_place P (y ∷ ys) zero x a h = subst (λ o. IfSome o P) h (a 0 y (omega arith))
at_place P (y ∷ ys) (suc i) x a h = at_place P ys i x (λ j d l. a (suc j) d (omega (arith, l))) h

within : (s : SourceTables) → IsSoundSource s → (e : ComponentEntityType) → IsLiveEntity s e → reach_of s e ≤ length s.instances + length s.components
within s k (entity.Module i) l = omega arith
within s k (entity.Func i) l = omega arith
within s k (entity.Value v) l = omega arith
within s k (entity.AnyType i) l = omega arith
within s k (entity.Instance i) l = above_all s.instances _ i.number l (λ r h. (at_place (λ (q : Ranked SourceInstance). ReachBelow s q.rank q.entry.exports × (q.rank < length s.instances + length s.components)) s.instances i.number r k.instances h).1)
within s k (entity.Component i) l = above_all s.components _ i.number l (λ r h. (at_place (λ (q : Ranked SourceComponent). ReachBelow s q.rank q.entry.imports × ReachBelow s q.rank q.entry.exports × (q.rank < length s.instances + length s.components)) s.components i.number r k.components h).2)

live_within : (s : SourceTables) → IsSoundSource s → (xs : List (List ℕ × SourceItem)) → AreLiveItems s xs → ReachBelow s (length s.instances + length s.components) xs
live_within s k xs a = λ i d l. let h = a i d l in (h, within s k (get_or xs i d).1.ty h)

-- ---- lists that grew by one
get_before : {X : Type 0} (xs : List X) (y : X) (i : ℕ) → i < length xs → slice_get (xs ++ y ∷ []) i ≡ slice_get xs i
get_before [] y i l = absurd (omega (arith, l))
get_before (x ∷ xs) y zero l = refl
get_before (x ∷ xs) y (suc i) l = get_before xs y i (omega (arith, l))

longer_by_one : {X : Type 0} (xs : List X) (y : X) → length xs ≤ length (xs ++ y ∷ [])
longer_by_one xs y = omega (arith, length-append xs (y ∷ []))

-- what holds of each entry at its place, and of one more at the end, holds of all
each_more : {X : Type 0} (P : ℕ → X → Type 0) (xs : List X) (y : X) → ((i : ℕ) (x : X) → slice_get xs i ≡ Some x → P i x) → P (length xs) y → (i : ℕ) (x : X) → slice_get (xs ++ y ∷ []) i ≡ Some x → P i x
each_more P [] y a p zero x h = subst (λ o. IfSome o (P 0)) h p
each_more P [] y a p (suc i) x h = cc
each_more P (z ∷ zs) y a p zero x h = a 0 x h
each_more P (z ∷ zs) y a p (suc i) x h = each_more (λ j. P (suc j)) zs y (λ j w k. a (suc j) w k) p i x h

-- what holds of a list and of the list with one more entry holds after a push
after_push : {A E X : Type 0} (P : List X → Type 0) (xs news : List X) (y : X) (res : Result A E) → OnOk res (news ≡ xs ++ y ∷ []) → OnErr res (news ≡ xs) → P xs → P (xs ++ y ∷ []) → P news
after_push P xs news y (Ok x) e o p q = subst P (sym e) q
after_push P xs news y (Err x) e o p q = subst P (sym o) p

-- ---- one more entry keeps what holds of the instances and components
instance_longer : (s t : SourceTables) → SourceGrows s t → (r : Ranked SourceInstance) → ReachBelow s r.rank r.entry.exports × (r.rank < length s.instances + length s.components) → ReachBelow t r.rank r.entry.exports × (r.rank < length t.instances + length t.components)
instance_longer s t g r h = (items_longer s t g r.rank r.entry.exports h.0, let k = h.1 in omega (arith, k, g.more_instances, g.more_components))

component_longer : (s t : SourceTables) → SourceGrows s t → (r : Ranked SourceComponent) → ReachBelow s r.rank r.entry.imports × ReachBelow s r.rank r.entry.exports × (r.rank < length s.instances + length s.components) → ReachBelow t r.rank r.entry.imports × ReachBelow t r.rank r.entry.exports × (r.rank < length t.instances + length t.components)
component_longer s t g r h = (items_longer s t g r.rank r.entry.imports h.0, items_longer s t g r.rank r.entry.exports h.1, let k = h.2 in omega (arith, k, g.more_instances, g.more_components))

instances_longer : (s t : SourceTables) → SourceGrows s t → IsSoundSource s → All (λ (r : Ranked SourceInstance). ReachBelow t r.rank r.entry.exports × (r.rank < length t.instances + length t.components)) s.instances
instances_longer s t g k = λ i d l. instance_longer s t g (get_or s.instances i d) (k.instances i d l)

components_longer : (s t : SourceTables) → SourceGrows s t → IsSoundSource s → All (λ (r : Ranked SourceComponent). ReachBelow t r.rank r.entry.imports × ReachBelow t r.rank r.entry.exports × (r.rank < length t.instances + length t.components)) s.components
components_longer s t g k = λ i d l. component_longer s t g (get_or s.components i d) (k.components i d l)

funcs_longer : (s t : SourceTables) → SourceGrows s t → IsSoundSource s → All (IsLiveSourceFunc t) s.funcs
funcs_longer s t g k = λ i d l. func_longer s t g (get_or s.funcs i d) (k.funcs i d l)

-- ---- defined types
defined_grows : (s : SourceTables) (e : ComponentDefinedType) → SourceGrows s (record s { defined = s.defined ++ e ∷ [] })
defined_grows s e = record { defined = longer_by_one s.defined e; funcs = le_refl _; modules = le_refl _; resources = le_refl _; instances = λ i l. refl; more_instances = le_refl _; components = λ i l. refl; more_components = le_refl _ }

more_defined : (s : SourceTables) (e : ComponentDefinedType) → IsSoundSource s → IsLiveDefined s e → IsSoundSource (record s { defined = s.defined ++ e ∷ [] })
more_defined s e k l = let g = defined_grows s e in record {
  defined = each_more (λ i x. IsDefinedBelow i s.resources x) s.defined e k.defined l;
  funcs = funcs_longer s _ g k;
  instances = instances_longer s _ g k;
  components = components_longer s _ g k;
}

pub pushed_defined : {A E : Type 0} (s v : SourceTables) → s ≡ v → (news : List ComponentDefinedType) (e : ComponentDefinedType) (res : Result A E) → OnOk res (news ≡ s.defined ++ e ∷ []) → OnErr res (news ≡ s.defined) → IsSoundSource s → IsLiveDefined v e → IsSoundSource (record s { defined = news })
pushed_defined s v w news e res o r k l = after_push (λ (xs : List ComponentDefinedType). IsSoundSource (record s { defined = xs })) s.defined news e res o r k (more_defined s e k (subst (λ (z : SourceTables). IsLiveDefined z e) (sym w) l))

-- ---- instances
instances_grow : (s : SourceTables) (r : Ranked SourceInstance) → SourceGrows s (record s { instances = s.instances ++ r ∷ [] })
instances_grow s r = record { defined = le_refl _; funcs = le_refl _; modules = le_refl _; resources = le_refl _; instances = get_before s.instances r; more_instances = longer_by_one s.instances r; components = λ i l. refl; more_components = le_refl _ }

more_instances : (s : SourceTables) (e : SourceInstance) → IsSoundSource s → IsLiveSourceInstance s e → IsSoundSource (record s { instances = s.instances ++ ranked s e ∷ [] })
more_instances s e k l = let g = instances_grow s (ranked s e) in record {
  defined = k.defined;
  funcs = funcs_longer s _ g k;
  instances = All-push (λ (q : Ranked SourceInstance). ReachBelow (record s { instances = s.instances ++ ranked s e ∷ [] }) q.rank q.entry.exports × (q.rank < length (s.instances ++ ranked s e ∷ []) + length s.components)) s.instances (ranked s e) (instances_longer s _ g k) (items_longer s _ g _ e.exports (live_within s k e.exports l), omega (arith, length-append s.instances (ranked s e ∷ [])));
  components = components_longer s _ g k;
}

pub pushed_instance : {A E : Type 0} (s v : SourceTables) → s ≡ v → (news : List (Ranked SourceInstance)) (e : SourceInstance) (n : ℕ) → n ≡ length v.instances + length v.components → (res : Result A E) → OnOk res (news ≡ s.instances ++ record { entry = e; rank = n } ∷ []) → OnErr res (news ≡ s.instances) → IsSoundSource s → IsLiveSourceInstance v e → IsSoundSource (record s { instances = news })
pushed_instance s v w news e n m res o r k l =
    after_push (λ (xs : List (Ranked SourceInstance)). IsSoundSource (record s { instances = xs })) s.instances news _ res o r k
    (subst (λ (q : ℕ). IsSoundSource (record s { instances = s.instances ++ record { entry = e; rank = q } ∷ [] })) (ap (λ (z : SourceTables). length z.instances + length z.components) w ∙ sym m) (more_instances s e k (subst (λ (z : SourceTables). IsLiveSourceInstance z e) (sym w) l)))

-- ---- components
components_grow : (s : SourceTables) (r : Ranked SourceComponent) → SourceGrows s (record s { components = s.components ++ r ∷ [] })
components_grow s r = record { defined = le_refl _; funcs = le_refl _; modules = le_refl _; resources = le_refl _; instances = λ i l. refl; more_instances = le_refl _; components = get_before s.components r; more_components = longer_by_one s.components r }

more_components : (s : SourceTables) (e : SourceComponent) → IsSoundSource s → IsLiveSourceComponent s e → IsSoundSource (record s { components = s.components ++ ranked s e ∷ [] })
more_components s e k l = let g = components_grow s (ranked s e) in record {
  defined = k.defined;
  funcs = funcs_longer s _ g k;
  instances = instances_longer s _ g k;
  components = All-push (λ (q : Ranked SourceComponent). ReachBelow (record s { components = s.components ++ ranked s e ∷ [] }) q.rank q.entry.imports × ReachBelow (record s { components = s.components ++ ranked s e ∷ [] }) q.rank q.entry.exports × (q.rank < length s.instances + length (s.components ++ ranked s e ∷ []))) s.components (ranked s e) (components_longer s _ g k) (items_longer s _ g _ e.imports (live_within s k e.imports l.0), items_longer s _ g _ e.exports (live_within s k e.exports l.1), omega (arith, length-append s.components (ranked s e ∷ [])));
}

pub pushed_component : {A E : Type 0} (s v : SourceTables) → s ≡ v → (news : List (Ranked SourceComponent)) (e : SourceComponent) (n : ℕ) → n ≡ length v.instances + length v.components → (res : Result A E) → OnOk res (news ≡ s.components ++ record { entry = e; rank = n } ∷ []) → OnErr res (news ≡ s.components) → IsSoundSource s → IsLiveSourceComponent v e → IsSoundSource (record s { components = news })
pushed_component s v w news e n m res o r k l =
    after_push (λ (xs : List (Ranked SourceComponent)). IsSoundSource (record s { components = xs })) s.components news _ res o r k
    (subst (λ (q : ℕ). IsSoundSource (record s { components = s.components ++ record { entry = e; rank = q } ∷ [] })) (ap (λ (z : SourceTables). length z.instances + length z.components) w ∙ sym m) (more_components s e k (subst (λ (z : SourceTables). IsLiveSourceComponent z e) (sym w) l)))

-- ---- resources
resources_grow : (s : SourceTables) (n : ℕ) → s.resources ≤ n → SourceGrows s (record s { resources = n })
resources_grow s n l = record { defined = le_refl _; funcs = le_refl _; modules = le_refl _; resources = l; instances = λ i l. refl; more_instances = le_refl _; components = λ i l. refl; more_components = le_refl _ }

pub more_resources : (s : SourceTables) (n : ℕ) → s.resources ≤ n → IsSoundSource s → IsSoundSource (record s { resources = n })
more_resources s n l k = let g = resources_grow s n l in record {
  defined = λ i e h. defined_longer i i s.resources n (le_refl i) l e (k.defined i e h);
  funcs = funcs_longer s _ g k;
  instances = instances_longer s _ g k;
  components = components_longer s _ g k;
}
