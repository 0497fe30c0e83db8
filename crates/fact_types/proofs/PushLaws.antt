-- One more entry of a table keeps the tables sound.
use Rattle.std.proofs.Common.{◌≡◌, ◌<◌, ◌≤◌, ◌+◌, ℕ, zero, suc, List, [], ◌∷◌, ◌++◌, length, get_or, Option, Some, None, Bool, true, false, refl, sym, ◌∙◌, ap, subst, arith, All, inl, inr, ◌⊎◌, length-append}
use Rattle.std.specs.Prelude.{slice_get, option_map, IfSome, Result, Ok, Err, OnOk, OnErr}
use Rattle.fact_wasm.specs.declared.types.FuncType.{FuncType}
use Rattle.fact_types.specs.declared.interface.InterfaceType.{InterfaceType}
use Rattle.fact_types.specs.declared.interface.InterfaceType.TheVariants.{Record as t_record, Variant as t_variant, List as t_list, Tuple as t_tuple, Map as t_map, Flags as t_flags, Enum as t_enum, Option as t_option, Result as t_result, Own as t_own, Borrow as t_borrow, Future as t_future, Stream as t_stream, ErrorContext as t_error_context, FixedLengthList as t_fixed_length_list}
use Rattle.fact_types.specs.declared.interface.TypeDef.{TypeDef}
use Rattle.fact_types.specs.declared.interface.TypeDef.TheVariants.{Component, ComponentInstance, ComponentFunc, Interface, Module, CoreFunc, Resource}
use Rattle.fact_types.specs.declared.externs.ComponentExtern.{ComponentExtern}
use Rattle.fact_types.specs.declared.kinds.TypeFunc.{TypeFunc}
use Rattle.fact_types.specs.declared.kinds.TypeRecord.{TypeRecord}
use Rattle.fact_types.specs.declared.kinds.TypeTuple.{TypeTuple}
use Rattle.fact_types.specs.declared.kinds.TypeOption.{TypeOption}
use Rattle.fact_types.specs.declared.kinds.TypeResult.{TypeResult}
use Rattle.fact_types.specs.declared.kinds.TypeList.{TypeList}
use Rattle.fact_types.specs.declared.kinds.TypeMap.{TypeMap}
use Rattle.fact_types.specs.declared.kinds.TypeFixedLengthList.{TypeFixedLengthList}
use Rattle.fact_types.specs.declared.kinds.TypeFuture.{TypeFuture}
use Rattle.fact_types.specs.declared.kinds.TypeFutureTable.{TypeFutureTable}
use Rattle.fact_types.specs.declared.kinds.TypeStream.{TypeStream}
use Rattle.fact_types.specs.declared.kinds.TypeStreamTable.{TypeStreamTable}
use Rattle.fact_types.specs.declared.kinds.TypeErrorContextTable.{TypeErrorContextTable}
use Rattle.fact_types.specs.declared.kinds.TypeResourceTable.{TypeResourceTable}
use Rattle.fact_types.specs.Externs.{ModuleType, ComponentType, InstanceType}
use Rattle.fact_types.specs.Ordered.{VariantType, FlagsType, EnumType}
use Rattle.fact_types.specs.Shapes.{Shape, s_plain, s_node, depth}
use Rattle.fact_types.specs.Tables.{Tables, Table, of_modules, of_components, of_component_instances, of_functions, of_records, of_variants, of_tuples, of_flags, of_enums, of_options, of_results, of_lists, of_maps, of_fixed_length_lists, of_futures, of_future_tables, of_streams, of_stream_tables, of_error_context_tables, of_resource_tables, entries_in, no_tables, Node, record_node, variant_node, tuple_node, flags_node, enum_node, option_node, result_node, list_node, map_node, fixed_length_list_node, future_node, stream_node, payload_in, node_of, is_plain, IsLive, IsLiveMember, IsLiveDef, IsLiveFunc, AreLiveExterns, IsLiveComponent, AreHeldLive, HasShape, Stands, IsSound, entries}
use Rattle.fact_types.proofs.ShapeLaws.{Grows, keeps_shape, keeps_members, stays, shaped_members}

-- ---- what one more entry changes for one type: a and b are the entries that it names before and after, l and m say that it
-- is live before and after, and new is the new entry where it has members
pub record Step (a b : Option Node) (l m : Type 0) (plain : Bool) (new : Option Node) : Type 0 where
  pub nodes : (n : Node) → a ≡ Some n → b ≡ Some n
  pub last : (n : Node) → b ≡ Some n → (a ≡ Some n) ⊎ (new ≡ Some n)
  pub lives : m → (l ⊎ (plain ≡ true)) ⊎ ((n : Node) × (b ≡ Some n) × (new ≡ Some n))

abbrev added : Option Node → ℕ
added None = 0
added (Some n) = 1

pub record GrowsBy (t u : Tables) (new : Option Node) : Type 0 where
  pub longer : (table : Table) → entries_in t table ≤ entries_in u table
  pub step : (ty : InterfaceType) → Step (node_of t ty) (node_of u ty) (IsLive t ty) (IsLive u ty) (is_plain ty) new
  pub held_live : (table : Table) → AreHeldLive u u table
  pub more : entries t + added new ≤ entries u

-- ---- live indices stay live
lt_le : (a b c : ℕ) → a < b → b ≤ c → a < c
lt_le a b c h k = omega (arith, h, k)

le_refl : (n : ℕ) → n ≤ n
le_refl n = omega arith

live_longer : (t u : Tables) → ((table : Table) → entries_in t table ≤ entries_in u table) → (ty : InterfaceType) → IsLive t ty → IsLive u ty
live_longer t u g (t_record i) l = lt_le _ _ _ l (g of_records)
live_longer t u g (t_variant i) l = lt_le _ _ _ l (g of_variants)
live_longer t u g (t_tuple i) l = lt_le _ _ _ l (g of_tuples)
live_longer t u g (t_flags i) l = lt_le _ _ _ l (g of_flags)
live_longer t u g (t_enum i) l = lt_le _ _ _ l (g of_enums)
live_longer t u g (t_option i) l = lt_le _ _ _ l (g of_options)
live_longer t u g (t_result i) l = lt_le _ _ _ l (g of_results)
live_longer t u g (t_list i) l = lt_le _ _ _ l (g of_lists)
live_longer t u g (t_map i) l = lt_le _ _ _ l (g of_maps)
live_longer t u g (t_fixed_length_list i) l = lt_le _ _ _ l (g of_fixed_length_lists)
live_longer t u g (t_own i) l = lt_le _ _ _ l (g of_resource_tables)
live_longer t u g (t_borrow i) l = lt_le _ _ _ l (g of_resource_tables)
live_longer t u g (t_future i) l = lt_le _ _ _ l (g of_future_tables)
live_longer t u g (t_stream i) l = lt_le _ _ _ l (g of_stream_tables)
live_longer t u g (t_error_context i) l = lt_le _ _ _ l (g of_error_context_tables)
live_longer t u g ty l = l

member_longer : (t u : Tables) → ((table : Table) → entries_in t table ≤ entries_in u table) → (o : Option InterfaceType) → IsLiveMember t o → IsLiveMember u o
member_longer t u g None l = tt
member_longer t u g (Some ty) l = live_longer t u g ty l

def_longer : (t u : Tables) → ((table : Table) → entries_in t table ≤ entries_in u table) → (d : TypeDef) → IsLiveDef t d → IsLiveDef u d
def_longer t u g (Component i) l = lt_le _ _ _ l (g of_components)
def_longer t u g (ComponentInstance i) l = lt_le _ _ _ l (g of_component_instances)
def_longer t u g (ComponentFunc i) l = lt_le _ _ _ l (g of_functions)
def_longer t u g (Interface ty) l = live_longer t u g ty l
def_longer t u g (Module i) l = lt_le _ _ _ l (g of_modules)
def_longer t u g (CoreFunc i) l = tt
def_longer t u g (Resource i) l = lt_le _ _ _ l (g of_resource_tables)

func_longer : (t u : Tables) → ((table : Table) → entries_in t table ≤ entries_in u table) → (f : TypeFunc) → IsLiveFunc t f → IsLiveFunc u f
func_longer t u g f l = record { params = lt_le _ _ _ l.params (g of_tuples); results = lt_le _ _ _ l.results (g of_tuples) }

externs_longer : (t u : Tables) → ((table : Table) → entries_in t table ≤ entries_in u table) → (xs : List (List ℕ × ComponentExtern)) → AreLiveExterns t xs → AreLiveExterns u xs
externs_longer t u g xs a = λ i d l. def_longer t u g (get_or xs i d).1.ty (a i d l)

component_longer : (t u : Tables) → ((table : Table) → entries_in t table ≤ entries_in u table) → (c : ComponentType) → IsLiveComponent t c → IsLiveComponent u c
component_longer t u g c l = record { imports = externs_longer t u g c.imports l.imports; exports = externs_longer t u g c.exports l.exports }

keeps_links : (t u : Tables) → ((table : Table) → entries_in t table ≤ entries_in u table) → (table : Table) → AreHeldLive t t table → AreHeldLive u t table
keeps_links t u g of_functions a = λ i d l. func_longer t u g (get_or t.functions i d) (a i d l)
keeps_links t u g of_components a = λ i d l. component_longer t u g (get_or t.components i d) (a i d l)
keeps_links t u g of_component_instances a = λ i d l. externs_longer t u g (get_or t.component_instances i d).exports (a i d l)
keeps_links t u g of_futures a = λ i d l. member_longer t u g (get_or t.futures i d).payload (a i d l)
keeps_links t u g of_streams a = λ i d l. member_longer t u g (get_or t.streams i d).payload (a i d l)
keeps_links t u g of_future_tables a = λ i d l. lt_le _ _ _ (a i d l) (g of_futures)
keeps_links t u g of_stream_tables a = λ i d l. lt_le _ _ _ (a i d l) (g of_streams)
keeps_links t u g table a = tt

-- ---- tables that grew by one entry are sound
grows : (t u : Tables) (new : Option Node) → GrowsBy t u new → Grows t u
grows t u new g = record { nodes = λ ty n h. (g.step ty).nodes n h; live = live_longer t u g.longer }

entry_stands : (t u : Tables) (new : Option Node) → GrowsBy t u new → IsSound t → IfSome new (Stands t) → (ty : InterfaceType) (n : Node) → (node_of t ty ≡ Some n) ⊎ (new ≡ Some n) → Stands u n
entry_stands t u new g k s ty n (inl h) = stays t u (grows t u new g) n (k.stands ty n h)
entry_stands t u new g k s ty n (inr h) = stays t u (grows t u new g) n (subst (λ (o : Option Node). IfSome o (Stands t)) h s)

type_shaped : (t u : Tables) (new : Option Node) → GrowsBy t u new → IsSound t → IfSome new (Stands t) → (ty : InterfaceType) → (IsLive t ty ⊎ (is_plain ty ≡ true)) ⊎ ((n : Node) × (node_of u ty ≡ Some n) × (new ≡ Some n)) → (s : Shape) × HasShape u ty s × (depth s ≤ entries u)
type_shaped t u new g k s ty (inl (inl l)) = let (sh, h, b) = k.shaped ty l in (sh, keeps_shape t u (grows t u new g) sh ty h, omega (arith, b, g.more))
type_shaped t u new g k s ty (inl (inr p)) = (s_plain ty, (refl, p), omega arith)
type_shaped t u new g k s ty (inr (n, h, e)) =
    let st : Stands t n = subst (λ (o : Option Node). IfSome o (Stands t)) e s in
    let one : entries t + 1 ≤ entries u = subst (λ (o : Option Node). entries t + added o ≤ entries u) e g.more in
    let (ms, hs, b) = shaped_members t k n.members st.live in
    (s_node n.kind ms, (n, h, refl, keeps_members t u (grows t u new g) ms n.members hs), omega (arith, b, one))

pub pushed : (t u : Tables) (new : Option Node) → GrowsBy t u new → IsSound t → IfSome new (Stands t) → IsSound u
pushed t u new g k s = record {
  stands = λ ty n h. entry_stands t u new g k s ty n ((g.step ty).last n h);
  shaped = λ ty l. type_shaped t u new g k s ty ((g.step ty).lives l);
  held_live = g.held_live;
}

-- ---- lists that grew by one
kept : {X : Type 0} (f : ℕ → X → Node) (xs : List X) (y : X) (i : ℕ) (r : Node) → option_map (f i) (slice_get xs i) ≡ Some r → option_map (f i) (slice_get (xs ++ y ∷ []) i) ≡ Some r
kept f [] y i r h = cc
kept f (x ∷ xs) y zero r h = h
kept f (x ∷ xs) y (suc i) r h = kept (λ n. f (suc n)) xs y i r h

before_or_last : {X : Type 0} (f : ℕ → X → Node) (xs : List X) (y : X) (i : ℕ) (r : Node) → option_map (f i) (slice_get (xs ++ y ∷ []) i) ≡ Some r → (option_map (f i) (slice_get xs i) ≡ Some r) ⊎ (Some (f (length xs) y) ≡ Some r)
before_or_last f [] y zero r h = inr h
before_or_last f [] y (suc i) r h = inl h
before_or_last f (x ∷ xs) y zero r h = inl h
before_or_last f (x ∷ xs) y (suc i) r h = before_or_last (λ n. f (suc n)) xs y i r h

within_or_last : {X : Type 0} (f : ℕ → X → Node) (xs : List X) (y : X) (i : ℕ) → i < length (xs ++ y ∷ []) → (i < length xs) ⊎ (option_map (f i) (slice_get (xs ++ y ∷ []) i) ≡ Some (f (length xs) y))
within_or_last f [] y zero l = inr refl
within_or_last f [] y (suc i) l = absurd (omega (arith, l))
within_or_last f (x ∷ xs) y zero l = inl (omega arith)
within_or_last f (x ∷ xs) y (suc i) l = elim (within_or_last (λ n. f (suc n)) xs y i (omega (arith, l))) [ inl p ↦ inl (omega (arith, p)) | inr e ↦ inr e ]

longer_by_one : {X : Type 0} (xs : List X) (y : X) → length xs ≤ length (xs ++ y ∷ [])
longer_by_one xs y = omega (arith, length-append xs (y ∷ []))

all_more : {X : Type 0} (P : X → Type 0) (xs : List X) (y : X) → All P xs → P y → All P (xs ++ y ∷ [])
all_more P [] y a p zero d l = p
all_more P [] y a p (suc i) d l = absurd (omega (arith, l))
all_more P (x ∷ xs) y a p zero d l = a 0 x (omega arith)
all_more P (x ∷ xs) y a p (suc i) d l = all_more P xs y (λ i d l. a (suc i) d (omega (arith, l))) p i d (omega (arith, l))

-- ---- the steps
step_end : {X : Type 0} (f : ℕ → X → Node) (xs : List X) (y : X) (i : ℕ) (plain : Bool) → Step (option_map (f i) (slice_get xs i)) (option_map (f i) (slice_get (xs ++ y ∷ []) i)) (i < length xs) (i < length (xs ++ y ∷ [])) plain (Some (f (length xs) y))
step_end f xs y i plain = record {
  nodes = kept f xs y i;
  last = before_or_last f xs y i;
  lives = λ l. elim (within_or_last f xs y i l) [ inl p ↦ inl (inl p) | inr e ↦ inr (f (length xs) y, e, refl) ];
}

step_same : (a : Option Node) (l : Type 0) (plain : Bool) (new : Option Node) → Step a a l l plain new
step_same a l plain new = record { nodes = λ n h. h; last = λ n h. inl h; lives = λ x. inl (inl x) }

step_plain : (a : Option Node) (l m : Type 0) → Step a a l m true None
step_plain a l m = record { nodes = λ n h. h; last = λ n h. inl h; lives = λ x. inl (inr refl) }

step_equal : (a b : Option Node) (l : Type 0) (plain : Bool) → a ≡ b → Step a b l l plain None
step_equal a b l plain e = record { nodes = λ n h. sym e ∙ h; last = λ n h. inl (e ∙ h); lives = λ x. inl (inl x) }

-- what holds of a list and of the list with one more entry holds after a push
after_push : {A E X : Type 0} (P : List X → Type 0) (xs news : List X) (y : X) (res : Result A E) → OnOk res (news ≡ xs ++ y ∷ []) → OnErr res (news ≡ xs) → P xs → P (xs ++ y ∷ []) → P news
after_push P xs news y (Ok x) e o p q = subst P (sym e) q
after_push P xs news y (Err x) e o p q = subst P (sym o) p

-- an entry that was there is found as before
get_before : {X : Type 0} (xs : List X) (y : X) (i : ℕ) → i < length xs → slice_get (xs ++ y ∷ []) i ≡ slice_get xs i
get_before [] y i l = absurd (omega (arith, l))
get_before (x ∷ xs) y zero l = refl
get_before (x ∷ xs) y (suc i) l = get_before xs y i (omega (arith, l))

same_mapped : {X Y : Type 0} (f g : X → Y) (xs : List X) (i : ℕ) → All (λ x. f x ≡ g x) xs → option_map f (slice_get xs i) ≡ option_map g (slice_get xs i)
same_mapped f g [] i a = refl
same_mapped f g (x ∷ xs) zero a = ap Some (a 0 x (omega arith))
same_mapped f g (x ∷ xs) (suc i) a = same_mapped f g xs i (λ i d l. a (suc i) d (omega (arith, l)))

-- the payload of a live entry is live
payload_live : {X : Type 0} (t : Tables) (f : X → Option InterfaceType) (xs : List X) (i : ℕ) → i < length xs → All (λ x. IsLiveMember t (f x)) xs → IsLiveMember t (payload_in f (slice_get xs i))
payload_live t f [] i l a = absurd (omega (arith, l))
payload_live t f (x ∷ xs) zero l a = a 0 x (omega arith)
payload_live t f (x ∷ xs) (suc i) l a = payload_live t f xs i (omega (arith, l)) (λ i d l. a (suc i) d (omega (arith, l)))

one_live : (t : Tables) (o : Option InterfaceType) → IsLiveMember t o → All (λ (m : List ℕ × Option InterfaceType). IsLiveMember t m.1) (([], o) ∷ [])
one_live t o p zero d l = p
one_live t o p (suc i) d l = absurd (omega (arith, l))

-- ---- one more entry of modules
longer_module : (t : Tables) (r : ModuleType) (table : Table) → entries_in t table ≤ entries_in (record t { modules = t.modules ++ r ∷ [] }) table
longer_module t r of_modules = longer_by_one t.modules r
longer_module t r table = le_refl (entries_in t table)

step_module : (t : Tables) (r : ModuleType) → (ty : InterfaceType) → Step (node_of t ty) (node_of (record t { modules = t.modules ++ r ∷ [] }) ty) (IsLive t ty) (IsLive (record t { modules = t.modules ++ r ∷ [] }) ty) (is_plain ty) None
step_module t r (t_record i) = step_same _ _ _ _
step_module t r ty = step_same (node_of t ty) (IsLive t ty) (is_plain ty) _

links_module : (t : Tables) (r : ModuleType) → ((table : Table) → AreHeldLive t t table) → (table : Table) → AreHeldLive (record t { modules = t.modules ++ r ∷ [] }) (record t { modules = t.modules ++ r ∷ [] }) table
links_module t r h of_modules = tt
links_module t r h table = keeps_links t (record t { modules = t.modules ++ r ∷ [] }) (longer_module t r) table (h table)

more_module : (t : Tables) (r : ModuleType) → entries t + 0 ≤ entries (record t { modules = t.modules ++ r ∷ [] })
more_module t r = omega arith

pub pushed_module : {A E : Type 0} (t : Tables) → (news : List ModuleType) (r : ModuleType) (res : Result A E) → OnOk res (news ≡ t.modules ++ r ∷ []) → OnErr res (news ≡ t.modules) → IsSound t → IsSound (record t { modules = news })
pushed_module t news r res e o k =
    after_push (λ (xs : List ModuleType). IsSound (record t { modules = xs })) t.modules news r res e o k
    (pushed t _ None (record { longer = longer_module t r; step = step_module t r; held_live = links_module t r k.held_live; more = more_module t r }) k tt)

-- ---- one more entry of components
longer_component : (t : Tables) (r : ComponentType) (table : Table) → entries_in t table ≤ entries_in (record t { components = t.components ++ r ∷ [] }) table
longer_component t r of_components = longer_by_one t.components r
longer_component t r table = le_refl (entries_in t table)

step_component : (t : Tables) (r : ComponentType) → (ty : InterfaceType) → Step (node_of t ty) (node_of (record t { components = t.components ++ r ∷ [] }) ty) (IsLive t ty) (IsLive (record t { components = t.components ++ r ∷ [] }) ty) (is_plain ty) None
step_component t r (t_record i) = step_same _ _ _ _
step_component t r ty = step_same (node_of t ty) (IsLive t ty) (is_plain ty) _

links_component : (t : Tables) (r : ComponentType) → IsLiveComponent t r → ((table : Table) → AreHeldLive t t table) → (table : Table) → AreHeldLive (record t { components = t.components ++ r ∷ [] }) (record t { components = t.components ++ r ∷ [] }) table
links_component t r s h of_components = all_more (IsLiveComponent (record t { components = t.components ++ r ∷ [] })) t.components r (keeps_links t (record t { components = t.components ++ r ∷ [] }) (longer_component t r) of_components (h of_components)) (component_longer t (record t { components = t.components ++ r ∷ [] }) (longer_component t r) r s)
links_component t r s h table = keeps_links t (record t { components = t.components ++ r ∷ [] }) (longer_component t r) table (h table)

more_component : (t : Tables) (r : ComponentType) → entries t + 0 ≤ entries (record t { components = t.components ++ r ∷ [] })
more_component t r = omega arith

pub pushed_component : {A E : Type 0} (t v : Tables) → t ≡ v → (news : List ComponentType) (r : ComponentType) (res : Result A E) → OnOk res (news ≡ t.components ++ r ∷ []) → OnErr res (news ≡ t.components) → IsSound t → IsLiveComponent v r → IsSound (record t { components = news })
pushed_component t v w news r res e o k s =
    after_push (λ (xs : List ComponentType). IsSound (record t { components = xs })) t.components news r res e o k
    (pushed t _ None (record { longer = longer_component t r; step = step_component t r; held_live = links_component t r (subst (λ (z : Tables). IsLiveComponent z r) (sym w) s) k.held_live; more = more_component t r }) k tt)

-- ---- one more entry of component_instances
longer_component_instance : (t : Tables) (r : InstanceType) (table : Table) → entries_in t table ≤ entries_in (record t { component_instances = t.component_instances ++ r ∷ [] }) table
longer_component_instance t r of_component_instances = longer_by_one t.component_instances r
longer_component_instance t r table = le_refl (entries_in t table)

step_component_instance : (t : Tables) (r : InstanceType) → (ty : InterfaceType) → Step (node_of t ty) (node_of (record t { component_instances = t.component_instances ++ r ∷ [] }) ty) (IsLive t ty) (IsLive (record t { component_instances = t.component_instances ++ r ∷ [] }) ty) (is_plain ty) None
step_component_instance t r (t_record i) = step_same _ _ _ _
step_component_instance t r ty = step_same (node_of t ty) (IsLive t ty) (is_plain ty) _

links_component_instance : (t : Tables) (r : InstanceType) → AreLiveExterns t r.exports → ((table : Table) → AreHeldLive t t table) → (table : Table) → AreHeldLive (record t { component_instances = t.component_instances ++ r ∷ [] }) (record t { component_instances = t.component_instances ++ r ∷ [] }) table
links_component_instance t r s h of_component_instances = all_more (λ (c : InstanceType). AreLiveExterns (record t { component_instances = t.component_instances ++ r ∷ [] }) c.exports) t.component_instances r (keeps_links t (record t { component_instances = t.component_instances ++ r ∷ [] }) (longer_component_instance t r) of_component_instances (h of_component_instances)) (externs_longer t (record t { component_instances = t.component_instances ++ r ∷ [] }) (longer_component_instance t r) r.exports s)
links_component_instance t r s h table = keeps_links t (record t { component_instances = t.component_instances ++ r ∷ [] }) (longer_component_instance t r) table (h table)

more_component_instance : (t : Tables) (r : InstanceType) → entries t + 0 ≤ entries (record t { component_instances = t.component_instances ++ r ∷ [] })
more_component_instance t r = omega arith

pub pushed_component_instance : {A E : Type 0} (t v : Tables) → t ≡ v → (news : List InstanceType) (r : InstanceType) (res : Result A E) → OnOk res (news ≡ t.component_instances ++ r ∷ []) → OnErr res (news ≡ t.component_instances) → IsSound t → AreLiveExterns v r.exports → IsSound (record t { component_instances = news })
pushed_component_instance t v w news r res e o k s =
    after_push (λ (xs : List InstanceType). IsSound (record t { component_instances = xs })) t.component_instances news r res e o k
    (pushed t _ None (record { longer = longer_component_instance t r; step = step_component_instance t r; held_live = links_component_instance t r (subst (λ (z : Tables). AreLiveExterns z r.exports) (sym w) s) k.held_live; more = more_component_instance t r }) k tt)

-- ---- one more entry of functions
longer_func : (t : Tables) (r : TypeFunc) (table : Table) → entries_in t table ≤ entries_in (record t { functions = t.functions ++ r ∷ [] }) table
longer_func t r of_functions = longer_by_one t.functions r
longer_func t r table = le_refl (entries_in t table)

step_func : (t : Tables) (r : TypeFunc) → (ty : InterfaceType) → Step (node_of t ty) (node_of (record t { functions = t.functions ++ r ∷ [] }) ty) (IsLive t ty) (IsLive (record t { functions = t.functions ++ r ∷ [] }) ty) (is_plain ty) None
step_func t r (t_record i) = step_same _ _ _ _
step_func t r ty = step_same (node_of t ty) (IsLive t ty) (is_plain ty) _

links_func : (t : Tables) (r : TypeFunc) → IsLiveFunc t r → ((table : Table) → AreHeldLive t t table) → (table : Table) → AreHeldLive (record t { functions = t.functions ++ r ∷ [] }) (record t { functions = t.functions ++ r ∷ [] }) table
links_func t r s h of_functions = all_more (IsLiveFunc (record t { functions = t.functions ++ r ∷ [] })) t.functions r (keeps_links t (record t { functions = t.functions ++ r ∷ [] }) (longer_func t r) of_functions (h of_functions)) (func_longer t (record t { functions = t.functions ++ r ∷ [] }) (longer_func t r) r s)
links_func t r s h table = keeps_links t (record t { functions = t.functions ++ r ∷ [] }) (longer_func t r) table (h table)

more_func : (t : Tables) (r : TypeFunc) → entries t + 0 ≤ entries (record t { functions = t.functions ++ r ∷ [] })
more_func t r = omega arith

pub pushed_func : {A E : Type 0} (t v : Tables) → t ≡ v → (news : List TypeFunc) (r : TypeFunc) (res : Result A E) → OnOk res (news ≡ t.functions ++ r ∷ []) → OnErr res (news ≡ t.functions) → IsSound t → IsLiveFunc v r → IsSound (record t { functions = news })
pushed_func t v w news r res e o k s =
    after_push (λ (xs : List TypeFunc). IsSound (record t { functions = xs })) t.functions news r res e o k
    (pushed t _ None (record { longer = longer_func t r; step = step_func t r; held_live = links_func t r (subst (λ (z : Tables). IsLiveFunc z r) (sym w) s) k.held_live; more = more_func t r }) k tt)

-- ---- one more entry of records
longer_record : (t : Tables) (r : TypeRecord) (table : Table) → entries_in t table ≤ entries_in (record t { records = t.records ++ r ∷ [] }) table
longer_record t r of_records = longer_by_one t.records r
longer_record t r table = le_refl (entries_in t table)

step_record : (t : Tables) (r : TypeRecord) → (ty : InterfaceType) → Step (node_of t ty) (node_of (record t { records = t.records ++ r ∷ [] }) ty) (IsLive t ty) (IsLive (record t { records = t.records ++ r ∷ [] }) ty) (is_plain ty) (Some (record_node r))
step_record t r (t_record i) = step_end (λ n. record_node) t.records r i.number false
step_record t r ty = step_same (node_of t ty) (IsLive t ty) (is_plain ty) _

links_record : (t : Tables) (r : TypeRecord) → ((table : Table) → AreHeldLive t t table) → (table : Table) → AreHeldLive (record t { records = t.records ++ r ∷ [] }) (record t { records = t.records ++ r ∷ [] }) table
links_record t r h of_records = tt
links_record t r h table = keeps_links t (record t { records = t.records ++ r ∷ [] }) (longer_record t r) table (h table)

more_record : (t : Tables) (r : TypeRecord) → entries t + 1 ≤ entries (record t { records = t.records ++ r ∷ [] })
more_record t r = omega (arith, length-append t.records (r ∷ []))

pub pushed_record : {A E : Type 0} (t v : Tables) → t ≡ v → (news : List TypeRecord) (r : TypeRecord) (res : Result A E) → OnOk res (news ≡ t.records ++ r ∷ []) → OnErr res (news ≡ t.records) → IsSound t → Stands v (record_node r) → IsSound (record t { records = news })
pushed_record t v w news r res e o k s =
    after_push (λ (xs : List TypeRecord). IsSound (record t { records = xs })) t.records news r res e o k
    (pushed t _ (Some (record_node r)) (record { longer = longer_record t r; step = step_record t r; held_live = links_record t r k.held_live; more = more_record t r }) k (subst (λ (z : Tables). Stands z (record_node r)) (sym w) s))

-- ---- one more entry of variants
longer_variant : (t : Tables) (r : VariantType) (table : Table) → entries_in t table ≤ entries_in (record t { variants = t.variants ++ r ∷ [] }) table
longer_variant t r of_variants = longer_by_one t.variants r
longer_variant t r table = le_refl (entries_in t table)

step_variant : (t : Tables) (r : VariantType) → (ty : InterfaceType) → Step (node_of t ty) (node_of (record t { variants = t.variants ++ r ∷ [] }) ty) (IsLive t ty) (IsLive (record t { variants = t.variants ++ r ∷ [] }) ty) (is_plain ty) (Some (variant_node r))
step_variant t r (t_variant i) = step_end (λ n. variant_node) t.variants r i.number false
step_variant t r ty = step_same (node_of t ty) (IsLive t ty) (is_plain ty) _

links_variant : (t : Tables) (r : VariantType) → ((table : Table) → AreHeldLive t t table) → (table : Table) → AreHeldLive (record t { variants = t.variants ++ r ∷ [] }) (record t { variants = t.variants ++ r ∷ [] }) table
links_variant t r h of_variants = tt
links_variant t r h table = keeps_links t (record t { variants = t.variants ++ r ∷ [] }) (longer_variant t r) table (h table)

more_variant : (t : Tables) (r : VariantType) → entries t + 1 ≤ entries (record t { variants = t.variants ++ r ∷ [] })
more_variant t r = omega (arith, length-append t.variants (r ∷ []))

pub pushed_variant : {A E : Type 0} (t v : Tables) → t ≡ v → (news : List VariantType) (r : VariantType) (res : Result A E) → OnOk res (news ≡ t.variants ++ r ∷ []) → OnErr res (news ≡ t.variants) → IsSound t → Stands v (variant_node r) → IsSound (record t { variants = news })
pushed_variant t v w news r res e o k s =
    after_push (λ (xs : List VariantType). IsSound (record t { variants = xs })) t.variants news r res e o k
    (pushed t _ (Some (variant_node r)) (record { longer = longer_variant t r; step = step_variant t r; held_live = links_variant t r k.held_live; more = more_variant t r }) k (subst (λ (z : Tables). Stands z (variant_node r)) (sym w) s))

-- ---- one more entry of tuples
longer_tuple : (t : Tables) (r : TypeTuple) (table : Table) → entries_in t table ≤ entries_in (record t { tuples = t.tuples ++ r ∷ [] }) table
longer_tuple t r of_tuples = longer_by_one t.tuples r
longer_tuple t r table = le_refl (entries_in t table)

step_tuple : (t : Tables) (r : TypeTuple) → (ty : InterfaceType) → Step (node_of t ty) (node_of (record t { tuples = t.tuples ++ r ∷ [] }) ty) (IsLive t ty) (IsLive (record t { tuples = t.tuples ++ r ∷ [] }) ty) (is_plain ty) (Some (tuple_node r))
step_tuple t r (t_tuple i) = step_end (λ n. tuple_node) t.tuples r i.number false
step_tuple t r ty = step_same (node_of t ty) (IsLive t ty) (is_plain ty) _

links_tuple : (t : Tables) (r : TypeTuple) → ((table : Table) → AreHeldLive t t table) → (table : Table) → AreHeldLive (record t { tuples = t.tuples ++ r ∷ [] }) (record t { tuples = t.tuples ++ r ∷ [] }) table
links_tuple t r h of_tuples = tt
links_tuple t r h table = keeps_links t (record t { tuples = t.tuples ++ r ∷ [] }) (longer_tuple t r) table (h table)

more_tuple : (t : Tables) (r : TypeTuple) → entries t + 1 ≤ entries (record t { tuples = t.tuples ++ r ∷ [] })
more_tuple t r = omega (arith, length-append t.tuples (r ∷ []))

pub pushed_tuple : {A E : Type 0} (t v : Tables) → t ≡ v → (news : List TypeTuple) (r : TypeTuple) (res : Result A E) → OnOk res (news ≡ t.tuples ++ r ∷ []) → OnErr res (news ≡ t.tuples) → IsSound t → Stands v (tuple_node r) → IsSound (record t { tuples = news })
pushed_tuple t v w news r res e o k s =
    after_push (λ (xs : List TypeTuple). IsSound (record t { tuples = xs })) t.tuples news r res e o k
    (pushed t _ (Some (tuple_node r)) (record { longer = longer_tuple t r; step = step_tuple t r; held_live = links_tuple t r k.held_live; more = more_tuple t r }) k (subst (λ (z : Tables). Stands z (tuple_node r)) (sym w) s))

-- ---- one more entry of flags
longer_flags : (t : Tables) (r : FlagsType) (table : Table) → entries_in t table ≤ entries_in (record t { flags = t.flags ++ r ∷ [] }) table
longer_flags t r of_flags = longer_by_one t.flags r
longer_flags t r table = le_refl (entries_in t table)

step_flags : (t : Tables) (r : FlagsType) → (ty : InterfaceType) → Step (node_of t ty) (node_of (record t { flags = t.flags ++ r ∷ [] }) ty) (IsLive t ty) (IsLive (record t { flags = t.flags ++ r ∷ [] }) ty) (is_plain ty) (Some (flags_node r))
step_flags t r (t_flags i) = step_end (λ n. flags_node) t.flags r i.number false
step_flags t r ty = step_same (node_of t ty) (IsLive t ty) (is_plain ty) _

links_flags : (t : Tables) (r : FlagsType) → ((table : Table) → AreHeldLive t t table) → (table : Table) → AreHeldLive (record t { flags = t.flags ++ r ∷ [] }) (record t { flags = t.flags ++ r ∷ [] }) table
links_flags t r h of_flags = tt
links_flags t r h table = keeps_links t (record t { flags = t.flags ++ r ∷ [] }) (longer_flags t r) table (h table)

more_flags : (t : Tables) (r : FlagsType) → entries t + 1 ≤ entries (record t { flags = t.flags ++ r ∷ [] })
more_flags t r = omega (arith, length-append t.flags (r ∷ []))

pub pushed_flags : {A E : Type 0} (t v : Tables) → t ≡ v → (news : List FlagsType) (r : FlagsType) (res : Result A E) → OnOk res (news ≡ t.flags ++ r ∷ []) → OnErr res (news ≡ t.flags) → IsSound t → Stands v (flags_node r) → IsSound (record t { flags = news })
pushed_flags t v w news r res e o k s =
    after_push (λ (xs : List FlagsType). IsSound (record t { flags = xs })) t.flags news r res e o k
    (pushed t _ (Some (flags_node r)) (record { longer = longer_flags t r; step = step_flags t r; held_live = links_flags t r k.held_live; more = more_flags t r }) k (subst (λ (z : Tables). Stands z (flags_node r)) (sym w) s))

-- ---- one more entry of enums
longer_enum : (t : Tables) (r : EnumType) (table : Table) → entries_in t table ≤ entries_in (record t { enums = t.enums ++ r ∷ [] }) table
longer_enum t r of_enums = longer_by_one t.enums r
longer_enum t r table = le_refl (entries_in t table)

step_enum : (t : Tables) (r : EnumType) → (ty : InterfaceType) → Step (node_of t ty) (node_of (record t { enums = t.enums ++ r ∷ [] }) ty) (IsLive t ty) (IsLive (record t { enums = t.enums ++ r ∷ [] }) ty) (is_plain ty) (Some (enum_node r))
step_enum t r (t_enum i) = step_end (λ n. enum_node) t.enums r i.number false
step_enum t r ty = step_same (node_of t ty) (IsLive t ty) (is_plain ty) _

links_enum : (t : Tables) (r : EnumType) → ((table : Table) → AreHeldLive t t table) → (table : Table) → AreHeldLive (record t { enums = t.enums ++ r ∷ [] }) (record t { enums = t.enums ++ r ∷ [] }) table
links_enum t r h of_enums = tt
links_enum t r h table = keeps_links t (record t { enums = t.enums ++ r ∷ [] }) (longer_enum t r) table (h table)

more_enum : (t : Tables) (r : EnumType) → entries t + 1 ≤ entries (record t { enums = t.enums ++ r ∷ [] })
more_enum t r = omega (arith, length-append t.enums (r ∷ []))

pub pushed_enum : {A E : Type 0} (t v : Tables) → t ≡ v → (news : List EnumType) (r : EnumType) (res : Result A E) → OnOk res (news ≡ t.enums ++ r ∷ []) → OnErr res (news ≡ t.enums) → IsSound t → Stands v (enum_node r) → IsSound (record t { enums = news })
pushed_enum t v w news r res e o k s =
    after_push (λ (xs : List EnumType). IsSound (record t { enums = xs })) t.enums news r res e o k
    (pushed t _ (Some (enum_node r)) (record { longer = longer_enum t r; step = step_enum t r; held_live = links_enum t r k.held_live; more = more_enum t r }) k (subst (λ (z : Tables). Stands z (enum_node r)) (sym w) s))

-- ---- one more entry of options
longer_option : (t : Tables) (r : TypeOption) (table : Table) → entries_in t table ≤ entries_in (record t { options = t.options ++ r ∷ [] }) table
longer_option t r of_options = longer_by_one t.options r
longer_option t r table = le_refl (entries_in t table)

step_option : (t : Tables) (r : TypeOption) → (ty : InterfaceType) → Step (node_of t ty) (node_of (record t { options = t.options ++ r ∷ [] }) ty) (IsLive t ty) (IsLive (record t { options = t.options ++ r ∷ [] }) ty) (is_plain ty) (Some (option_node r))
step_option t r (t_option i) = step_end (λ n. option_node) t.options r i.number false
step_option t r ty = step_same (node_of t ty) (IsLive t ty) (is_plain ty) _

links_option : (t : Tables) (r : TypeOption) → ((table : Table) → AreHeldLive t t table) → (table : Table) → AreHeldLive (record t { options = t.options ++ r ∷ [] }) (record t { options = t.options ++ r ∷ [] }) table
links_option t r h of_options = tt
links_option t r h table = keeps_links t (record t { options = t.options ++ r ∷ [] }) (longer_option t r) table (h table)

more_option : (t : Tables) (r : TypeOption) → entries t + 1 ≤ entries (record t { options = t.options ++ r ∷ [] })
more_option t r = omega (arith, length-append t.options (r ∷ []))

pub pushed_option : {A E : Type 0} (t v : Tables) → t ≡ v → (news : List TypeOption) (r : TypeOption) (res : Result A E) → OnOk res (news ≡ t.options ++ r ∷ []) → OnErr res (news ≡ t.options) → IsSound t → Stands v (option_node r) → IsSound (record t { options = news })
pushed_option t v w news r res e o k s =
    after_push (λ (xs : List TypeOption). IsSound (record t { options = xs })) t.options news r res e o k
    (pushed t _ (Some (option_node r)) (record { longer = longer_option t r; step = step_option t r; held_live = links_option t r k.held_live; more = more_option t r }) k (subst (λ (z : Tables). Stands z (option_node r)) (sym w) s))

-- ---- one more entry of results
longer_result : (t : Tables) (r : TypeResult) (table : Table) → entries_in t table ≤ entries_in (record t { results = t.results ++ r ∷ [] }) table
longer_result t r of_results = longer_by_one t.results r
longer_result t r table = le_refl (entries_in t table)

step_result : (t : Tables) (r : TypeResult) → (ty : InterfaceType) → Step (node_of t ty) (node_of (record t { results = t.results ++ r ∷ [] }) ty) (IsLive t ty) (IsLive (record t { results = t.results ++ r ∷ [] }) ty) (is_plain ty) (Some (result_node r))
step_result t r (t_result i) = step_end (λ n. result_node) t.results r i.number false
step_result t r ty = step_same (node_of t ty) (IsLive t ty) (is_plain ty) _

links_result : (t : Tables) (r : TypeResult) → ((table : Table) → AreHeldLive t t table) → (table : Table) → AreHeldLive (record t { results = t.results ++ r ∷ [] }) (record t { results = t.results ++ r ∷ [] }) table
links_result t r h of_results = tt
links_result t r h table = keeps_links t (record t { results = t.results ++ r ∷ [] }) (longer_result t r) table (h table)

more_result : (t : Tables) (r : TypeResult) → entries t + 1 ≤ entries (record t { results = t.results ++ r ∷ [] })
more_result t r = omega (arith, length-append t.results (r ∷ []))

pub pushed_result : {A E : Type 0} (t v : Tables) → t ≡ v → (news : List TypeResult) (r : TypeResult) (res : Result A E) → OnOk res (news ≡ t.results ++ r ∷ []) → OnErr res (news ≡ t.results) → IsSound t → Stands v (result_node r) → IsSound (record t { results = news })
pushed_result t v w news r res e o k s =
    after_push (λ (xs : List TypeResult). IsSound (record t { results = xs })) t.results news r res e o k
    (pushed t _ (Some (result_node r)) (record { longer = longer_result t r; step = step_result t r; held_live = links_result t r k.held_live; more = more_result t r }) k (subst (λ (z : Tables). Stands z (result_node r)) (sym w) s))

-- ---- one more entry of lists
longer_list : (t : Tables) (r : TypeList) (table : Table) → entries_in t table ≤ entries_in (record t { lists = t.lists ++ r ∷ [] }) table
longer_list t r of_lists = longer_by_one t.lists r
longer_list t r table = le_refl (entries_in t table)

step_list : (t : Tables) (r : TypeList) → (ty : InterfaceType) → Step (node_of t ty) (node_of (record t { lists = t.lists ++ r ∷ [] }) ty) (IsLive t ty) (IsLive (record t { lists = t.lists ++ r ∷ [] }) ty) (is_plain ty) (Some (list_node r))
step_list t r (t_list i) = step_end (λ n. list_node) t.lists r i.number false
step_list t r ty = step_same (node_of t ty) (IsLive t ty) (is_plain ty) _

links_list : (t : Tables) (r : TypeList) → ((table : Table) → AreHeldLive t t table) → (table : Table) → AreHeldLive (record t { lists = t.lists ++ r ∷ [] }) (record t { lists = t.lists ++ r ∷ [] }) table
links_list t r h of_lists = tt
links_list t r h table = keeps_links t (record t { lists = t.lists ++ r ∷ [] }) (longer_list t r) table (h table)

more_list : (t : Tables) (r : TypeList) → entries t + 1 ≤ entries (record t { lists = t.lists ++ r ∷ [] })
more_list t r = omega (arith, length-append t.lists (r ∷ []))

pub pushed_list : {A E : Type 0} (t v : Tables) → t ≡ v → (news : List TypeList) (r : TypeList) (res : Result A E) → OnOk res (news ≡ t.lists ++ r ∷ []) → OnErr res (news ≡ t.lists) → IsSound t → Stands v (list_node r) → IsSound (record t { lists = news })
pushed_list t v w news r res e o k s =
    after_push (λ (xs : List TypeList). IsSound (record t { lists = xs })) t.lists news r res e o k
    (pushed t _ (Some (list_node r)) (record { longer = longer_list t r; step = step_list t r; held_live = links_list t r k.held_live; more = more_list t r }) k (subst (λ (z : Tables). Stands z (list_node r)) (sym w) s))

-- ---- one more entry of maps
longer_map : (t : Tables) (r : TypeMap) (table : Table) → entries_in t table ≤ entries_in (record t { maps = t.maps ++ r ∷ [] }) table
longer_map t r of_maps = longer_by_one t.maps r
longer_map t r table = le_refl (entries_in t table)

step_map : (t : Tables) (r : TypeMap) → (ty : InterfaceType) → Step (node_of t ty) (node_of (record t { maps = t.maps ++ r ∷ [] }) ty) (IsLive t ty) (IsLive (record t { maps = t.maps ++ r ∷ [] }) ty) (is_plain ty) (Some (map_node r))
step_map t r (t_map i) = step_end (λ n. map_node) t.maps r i.number false
step_map t r ty = step_same (node_of t ty) (IsLive t ty) (is_plain ty) _

links_map : (t : Tables) (r : TypeMap) → ((table : Table) → AreHeldLive t t table) → (table : Table) → AreHeldLive (record t { maps = t.maps ++ r ∷ [] }) (record t { maps = t.maps ++ r ∷ [] }) table
links_map t r h of_maps = tt
links_map t r h table = keeps_links t (record t { maps = t.maps ++ r ∷ [] }) (longer_map t r) table (h table)

more_map : (t : Tables) (r : TypeMap) → entries t + 1 ≤ entries (record t { maps = t.maps ++ r ∷ [] })
more_map t r = omega (arith, length-append t.maps (r ∷ []))

pub pushed_map : {A E : Type 0} (t v : Tables) → t ≡ v → (news : List TypeMap) (r : TypeMap) (res : Result A E) → OnOk res (news ≡ t.maps ++ r ∷ []) → OnErr res (news ≡ t.maps) → IsSound t → Stands v (map_node r) → IsSound (record t { maps = news })
pushed_map t v w news r res e o k s =
    after_push (λ (xs : List TypeMap). IsSound (record t { maps = xs })) t.maps news r res e o k
    (pushed t _ (Some (map_node r)) (record { longer = longer_map t r; step = step_map t r; held_live = links_map t r k.held_live; more = more_map t r }) k (subst (λ (z : Tables). Stands z (map_node r)) (sym w) s))

-- ---- one more entry of fixed_length_lists
longer_fixed_length_list : (t : Tables) (r : TypeFixedLengthList) (table : Table) → entries_in t table ≤ entries_in (record t { fixed_length_lists = t.fixed_length_lists ++ r ∷ [] }) table
longer_fixed_length_list t r of_fixed_length_lists = longer_by_one t.fixed_length_lists r
longer_fixed_length_list t r table = le_refl (entries_in t table)

step_fixed_length_list : (t : Tables) (r : TypeFixedLengthList) → (ty : InterfaceType) → Step (node_of t ty) (node_of (record t { fixed_length_lists = t.fixed_length_lists ++ r ∷ [] }) ty) (IsLive t ty) (IsLive (record t { fixed_length_lists = t.fixed_length_lists ++ r ∷ [] }) ty) (is_plain ty) (Some (fixed_length_list_node r))
step_fixed_length_list t r (t_fixed_length_list i) = step_end (λ n. fixed_length_list_node) t.fixed_length_lists r i.number false
step_fixed_length_list t r ty = step_same (node_of t ty) (IsLive t ty) (is_plain ty) _

links_fixed_length_list : (t : Tables) (r : TypeFixedLengthList) → ((table : Table) → AreHeldLive t t table) → (table : Table) → AreHeldLive (record t { fixed_length_lists = t.fixed_length_lists ++ r ∷ [] }) (record t { fixed_length_lists = t.fixed_length_lists ++ r ∷ [] }) table
links_fixed_length_list t r h of_fixed_length_lists = tt
links_fixed_length_list t r h table = keeps_links t (record t { fixed_length_lists = t.fixed_length_lists ++ r ∷ [] }) (longer_fixed_length_list t r) table (h table)

more_fixed_length_list : (t : Tables) (r : TypeFixedLengthList) → entries t + 1 ≤ entries (record t { fixed_length_lists = t.fixed_length_lists ++ r ∷ [] })
more_fixed_length_list t r = omega (arith, length-append t.fixed_length_lists (r ∷ []))

pub pushed_fixed_length_list : {A E : Type 0} (t v : Tables) → t ≡ v → (news : List TypeFixedLengthList) (r : TypeFixedLengthList) (res : Result A E) → OnOk res (news ≡ t.fixed_length_lists ++ r ∷ []) → OnErr res (news ≡ t.fixed_length_lists) → IsSound t → Stands v (fixed_length_list_node r) → IsSound (record t { fixed_length_lists = news })
pushed_fixed_length_list t v w news r res e o k s =
    after_push (λ (xs : List TypeFixedLengthList). IsSound (record t { fixed_length_lists = xs })) t.fixed_length_lists news r res e o k
    (pushed t _ (Some (fixed_length_list_node r)) (record { longer = longer_fixed_length_list t r; step = step_fixed_length_list t r; held_live = links_fixed_length_list t r k.held_live; more = more_fixed_length_list t r }) k (subst (λ (z : Tables). Stands z (fixed_length_list_node r)) (sym w) s))

-- ---- one more entry of futures
longer_future : (t : Tables) (r : TypeFuture) (table : Table) → entries_in t table ≤ entries_in (record t { futures = t.futures ++ r ∷ [] }) table
longer_future t r of_futures = longer_by_one t.futures r
longer_future t r table = le_refl (entries_in t table)

-- a table of futures names an entry that was there
payload_future : (t : Tables) (r : TypeFuture) (e : TypeFutureTable) (n : ℕ) → e.ty.number < length t.futures → future_node t.futures n e ≡ future_node (record t { futures = t.futures ++ r ∷ [] }).futures n e
payload_future t r e n l = ap (λ (o : Option TypeFuture). record { kind = (future_node t.futures n e).kind; members = ([], payload_in (λ f. f.payload) o) ∷ []; abi = (future_node t.futures n e).abi; parts = (future_node t.futures n e).parts }) (sym (get_before t.futures r e.ty.number l))

same_future : (t : Tables) (r : TypeFuture) → IsSound t → (i : ℕ) → option_map (future_node t.futures i) (slice_get t.future_tables i) ≡ option_map (future_node (record t { futures = t.futures ++ r ∷ [] }).futures i) (slice_get t.future_tables i)
same_future t r h i = same_mapped (future_node t.futures i) (future_node (record t { futures = t.futures ++ r ∷ [] }).futures i) t.future_tables i (λ j d l. payload_future t r (get_or t.future_tables j d) i (h.held_live of_future_tables j d l))

step_future : (t : Tables) (r : TypeFuture) → IsSound t → (ty : InterfaceType) → Step (node_of t ty) (node_of (record t { futures = t.futures ++ r ∷ [] }) ty) (IsLive t ty) (IsLive (record t { futures = t.futures ++ r ∷ [] }) ty) (is_plain ty) None
step_future t r h (t_future i) = step_equal _ _ _ false (same_future t r h i.number)
step_future t r h ty = step_same (node_of t ty) (IsLive t ty) (is_plain ty) _

links_future : (t : Tables) (r : TypeFuture) → IsLiveMember t r.payload → ((table : Table) → AreHeldLive t t table) → (table : Table) → AreHeldLive (record t { futures = t.futures ++ r ∷ [] }) (record t { futures = t.futures ++ r ∷ [] }) table
links_future t r s h of_futures = all_more (λ (f : TypeFuture). IsLiveMember (record t { futures = t.futures ++ r ∷ [] }) f.payload) t.futures r (keeps_links t (record t { futures = t.futures ++ r ∷ [] }) (longer_future t r) of_futures (h of_futures)) (member_longer t (record t { futures = t.futures ++ r ∷ [] }) (longer_future t r) r.payload s)
links_future t r s h table = keeps_links t (record t { futures = t.futures ++ r ∷ [] }) (longer_future t r) table (h table)

more_future : (t : Tables) (r : TypeFuture) → entries t + 0 ≤ entries (record t { futures = t.futures ++ r ∷ [] })
more_future t r = omega arith

pub pushed_future : {A E : Type 0} (t v : Tables) → t ≡ v → (news : List TypeFuture) (r : TypeFuture) (res : Result A E) → OnOk res (news ≡ t.futures ++ r ∷ []) → OnErr res (news ≡ t.futures) → IsSound t → IsLiveMember v r.payload → IsSound (record t { futures = news })
pushed_future t v w news r res e o k s =
    after_push (λ (xs : List TypeFuture). IsSound (record t { futures = xs })) t.futures news r res e o k
    (pushed t _ None (record { longer = longer_future t r; step = step_future t r k; held_live = links_future t r (subst (λ (z : Tables). IsLiveMember z r.payload) (sym w) s) k.held_live; more = more_future t r }) k tt)

-- ---- one more entry of future_tables
longer_future_table : (t : Tables) (r : TypeFutureTable) (table : Table) → entries_in t table ≤ entries_in (record t { future_tables = t.future_tables ++ r ∷ [] }) table
longer_future_table t r of_future_tables = longer_by_one t.future_tables r
longer_future_table t r table = le_refl (entries_in t table)

step_future_table : (t : Tables) (r : TypeFutureTable) → (ty : InterfaceType) → Step (node_of t ty) (node_of (record t { future_tables = t.future_tables ++ r ∷ [] }) ty) (IsLive t ty) (IsLive (record t { future_tables = t.future_tables ++ r ∷ [] }) ty) (is_plain ty) (Some (future_node t.futures (length t.future_tables) r))
step_future_table t r (t_future i) = step_end (future_node t.futures) t.future_tables r i.number false
step_future_table t r ty = step_same (node_of t ty) (IsLive t ty) (is_plain ty) _

links_future_table : (t : Tables) (r : TypeFutureTable) → r.ty.number < length t.futures → ((table : Table) → AreHeldLive t t table) → (table : Table) → AreHeldLive (record t { future_tables = t.future_tables ++ r ∷ [] }) (record t { future_tables = t.future_tables ++ r ∷ [] }) table
links_future_table t r s h of_future_tables = all_more (λ (e : TypeFutureTable). e.ty.number < length t.futures) t.future_tables r (keeps_links t (record t { future_tables = t.future_tables ++ r ∷ [] }) (longer_future_table t r) of_future_tables (h of_future_tables)) s
links_future_table t r s h table = keeps_links t (record t { future_tables = t.future_tables ++ r ∷ [] }) (longer_future_table t r) table (h table)

more_future_table : (t : Tables) (r : TypeFutureTable) → entries t + 1 ≤ entries (record t { future_tables = t.future_tables ++ r ∷ [] })
more_future_table t r = omega (arith, length-append t.future_tables (r ∷ []))

table_stands_future : (t : Tables) → IsSound t → (n : ℕ) (r : TypeFutureTable) → r.ty.number < length t.futures → Stands t (future_node t.futures n r)
table_stands_future t k n r l = record { live = λ i d b. one_live t _ (payload_live t (λ f. f.payload) t.futures r.ty.number l (k.held_live of_futures)) i d b; laid = refl; parts = refl }

pub pushed_future_table : {A E : Type 0} (t v : Tables) → t ≡ v → (news : List TypeFutureTable) (r : TypeFutureTable) (res : Result A E) → OnOk res (news ≡ t.future_tables ++ r ∷ []) → OnErr res (news ≡ t.future_tables) → IsSound t → r.ty.number < length v.futures → IsSound (record t { future_tables = news })
pushed_future_table t v w news r res e o k s =
    after_push (λ (xs : List TypeFutureTable). IsSound (record t { future_tables = xs })) t.future_tables news r res e o k
    (pushed t _ (Some (future_node t.futures (length t.future_tables) r)) (record { longer = longer_future_table t r; step = step_future_table t r; held_live = links_future_table t r (subst (λ (z : Tables). r.ty.number < length z.futures) (sym w) s) k.held_live; more = more_future_table t r }) k (table_stands_future t k (length t.future_tables) r (subst (λ (z : Tables). r.ty.number < length z.futures) (sym w) s)))

-- ---- one more entry of streams
longer_stream : (t : Tables) (r : TypeStream) (table : Table) → entries_in t table ≤ entries_in (record t { streams = t.streams ++ r ∷ [] }) table
longer_stream t r of_streams = longer_by_one t.streams r
longer_stream t r table = le_refl (entries_in t table)

-- a table of streams names an entry that was there
payload_stream : (t : Tables) (r : TypeStream) (e : TypeStreamTable) (n : ℕ) → e.ty.number < length t.streams → stream_node t.streams n e ≡ stream_node (record t { streams = t.streams ++ r ∷ [] }).streams n e
payload_stream t r e n l = ap (λ (o : Option TypeStream). record { kind = (stream_node t.streams n e).kind; members = ([], payload_in (λ f. f.payload) o) ∷ []; abi = (stream_node t.streams n e).abi; parts = (stream_node t.streams n e).parts }) (sym (get_before t.streams r e.ty.number l))

same_stream : (t : Tables) (r : TypeStream) → IsSound t → (i : ℕ) → option_map (stream_node t.streams i) (slice_get t.stream_tables i) ≡ option_map (stream_node (record t { streams = t.streams ++ r ∷ [] }).streams i) (slice_get t.stream_tables i)
same_stream t r h i = same_mapped (stream_node t.streams i) (stream_node (record t { streams = t.streams ++ r ∷ [] }).streams i) t.stream_tables i (λ j d l. payload_stream t r (get_or t.stream_tables j d) i (h.held_live of_stream_tables j d l))

step_stream : (t : Tables) (r : TypeStream) → IsSound t → (ty : InterfaceType) → Step (node_of t ty) (node_of (record t { streams = t.streams ++ r ∷ [] }) ty) (IsLive t ty) (IsLive (record t { streams = t.streams ++ r ∷ [] }) ty) (is_plain ty) None
step_stream t r h (t_stream i) = step_equal _ _ _ false (same_stream t r h i.number)
step_stream t r h ty = step_same (node_of t ty) (IsLive t ty) (is_plain ty) _

links_stream : (t : Tables) (r : TypeStream) → IsLiveMember t r.payload → ((table : Table) → AreHeldLive t t table) → (table : Table) → AreHeldLive (record t { streams = t.streams ++ r ∷ [] }) (record t { streams = t.streams ++ r ∷ [] }) table
links_stream t r s h of_streams = all_more (λ (f : TypeStream). IsLiveMember (record t { streams = t.streams ++ r ∷ [] }) f.payload) t.streams r (keeps_links t (record t { streams = t.streams ++ r ∷ [] }) (longer_stream t r) of_streams (h of_streams)) (member_longer t (record t { streams = t.streams ++ r ∷ [] }) (longer_stream t r) r.payload s)
links_stream t r s h table = keeps_links t (record t { streams = t.streams ++ r ∷ [] }) (longer_stream t r) table (h table)

more_stream : (t : Tables) (r : TypeStream) → entries t + 0 ≤ entries (record t { streams = t.streams ++ r ∷ [] })
more_stream t r = omega arith

pub pushed_stream : {A E : Type 0} (t v : Tables) → t ≡ v → (news : List TypeStream) (r : TypeStream) (res : Result A E) → OnOk res (news ≡ t.streams ++ r ∷ []) → OnErr res (news ≡ t.streams) → IsSound t → IsLiveMember v r.payload → IsSound (record t { streams = news })
pushed_stream t v w news r res e o k s =
    after_push (λ (xs : List TypeStream). IsSound (record t { streams = xs })) t.streams news r res e o k
    (pushed t _ None (record { longer = longer_stream t r; step = step_stream t r k; held_live = links_stream t r (subst (λ (z : Tables). IsLiveMember z r.payload) (sym w) s) k.held_live; more = more_stream t r }) k tt)

-- ---- one more entry of stream_tables
longer_stream_table : (t : Tables) (r : TypeStreamTable) (table : Table) → entries_in t table ≤ entries_in (record t { stream_tables = t.stream_tables ++ r ∷ [] }) table
longer_stream_table t r of_stream_tables = longer_by_one t.stream_tables r
longer_stream_table t r table = le_refl (entries_in t table)

step_stream_table : (t : Tables) (r : TypeStreamTable) → (ty : InterfaceType) → Step (node_of t ty) (node_of (record t { stream_tables = t.stream_tables ++ r ∷ [] }) ty) (IsLive t ty) (IsLive (record t { stream_tables = t.stream_tables ++ r ∷ [] }) ty) (is_plain ty) (Some (stream_node t.streams (length t.stream_tables) r))
step_stream_table t r (t_stream i) = step_end (stream_node t.streams) t.stream_tables r i.number false
step_stream_table t r ty = step_same (node_of t ty) (IsLive t ty) (is_plain ty) _

links_stream_table : (t : Tables) (r : TypeStreamTable) → r.ty.number < length t.streams → ((table : Table) → AreHeldLive t t table) → (table : Table) → AreHeldLive (record t { stream_tables = t.stream_tables ++ r ∷ [] }) (record t { stream_tables = t.stream_tables ++ r ∷ [] }) table
links_stream_table t r s h of_stream_tables = all_more (λ (e : TypeStreamTable). e.ty.number < length t.streams) t.stream_tables r (keeps_links t (record t { stream_tables = t.stream_tables ++ r ∷ [] }) (longer_stream_table t r) of_stream_tables (h of_stream_tables)) s
links_stream_table t r s h table = keeps_links t (record t { stream_tables = t.stream_tables ++ r ∷ [] }) (longer_stream_table t r) table (h table)

more_stream_table : (t : Tables) (r : TypeStreamTable) → entries t + 1 ≤ entries (record t { stream_tables = t.stream_tables ++ r ∷ [] })
more_stream_table t r = omega (arith, length-append t.stream_tables (r ∷ []))

table_stands_stream : (t : Tables) → IsSound t → (n : ℕ) (r : TypeStreamTable) → r.ty.number < length t.streams → Stands t (stream_node t.streams n r)
table_stands_stream t k n r l = record { live = λ i d b. one_live t _ (payload_live t (λ f. f.payload) t.streams r.ty.number l (k.held_live of_streams)) i d b; laid = refl; parts = refl }

pub pushed_stream_table : {A E : Type 0} (t v : Tables) → t ≡ v → (news : List TypeStreamTable) (r : TypeStreamTable) (res : Result A E) → OnOk res (news ≡ t.stream_tables ++ r ∷ []) → OnErr res (news ≡ t.stream_tables) → IsSound t → r.ty.number < length v.streams → IsSound (record t { stream_tables = news })
pushed_stream_table t v w news r res e o k s =
    after_push (λ (xs : List TypeStreamTable). IsSound (record t { stream_tables = xs })) t.stream_tables news r res e o k
    (pushed t _ (Some (stream_node t.streams (length t.stream_tables) r)) (record { longer = longer_stream_table t r; step = step_stream_table t r; held_live = links_stream_table t r (subst (λ (z : Tables). r.ty.number < length z.streams) (sym w) s) k.held_live; more = more_stream_table t r }) k (table_stands_stream t k (length t.stream_tables) r (subst (λ (z : Tables). r.ty.number < length z.streams) (sym w) s)))

-- ---- one more entry of error_context_tables
longer_error_context_table : (t : Tables) (r : TypeErrorContextTable) (table : Table) → entries_in t table ≤ entries_in (record t { error_context_tables = t.error_context_tables ++ r ∷ [] }) table
longer_error_context_table t r of_error_context_tables = longer_by_one t.error_context_tables r
longer_error_context_table t r table = le_refl (entries_in t table)

step_error_context_table : (t : Tables) (r : TypeErrorContextTable) → (ty : InterfaceType) → Step (node_of t ty) (node_of (record t { error_context_tables = t.error_context_tables ++ r ∷ [] }) ty) (IsLive t ty) (IsLive (record t { error_context_tables = t.error_context_tables ++ r ∷ [] }) ty) (is_plain ty) None
step_error_context_table t r (t_error_context i) = step_plain None _ _
step_error_context_table t r ty = step_same (node_of t ty) (IsLive t ty) (is_plain ty) _

links_error_context_table : (t : Tables) (r : TypeErrorContextTable) → ((table : Table) → AreHeldLive t t table) → (table : Table) → AreHeldLive (record t { error_context_tables = t.error_context_tables ++ r ∷ [] }) (record t { error_context_tables = t.error_context_tables ++ r ∷ [] }) table
links_error_context_table t r h of_error_context_tables = tt
links_error_context_table t r h table = keeps_links t (record t { error_context_tables = t.error_context_tables ++ r ∷ [] }) (longer_error_context_table t r) table (h table)

more_error_context_table : (t : Tables) (r : TypeErrorContextTable) → entries t + 0 ≤ entries (record t { error_context_tables = t.error_context_tables ++ r ∷ [] })
more_error_context_table t r = omega arith

pub pushed_error_context_table : {A E : Type 0} (t : Tables) → (news : List TypeErrorContextTable) (r : TypeErrorContextTable) (res : Result A E) → OnOk res (news ≡ t.error_context_tables ++ r ∷ []) → OnErr res (news ≡ t.error_context_tables) → IsSound t → IsSound (record t { error_context_tables = news })
pushed_error_context_table t news r res e o k =
    after_push (λ (xs : List TypeErrorContextTable). IsSound (record t { error_context_tables = xs })) t.error_context_tables news r res e o k
    (pushed t _ None (record { longer = longer_error_context_table t r; step = step_error_context_table t r; held_live = links_error_context_table t r k.held_live; more = more_error_context_table t r }) k tt)

-- ---- one more entry of resource_tables
longer_resource_table : (t : Tables) (r : TypeResourceTable) (table : Table) → entries_in t table ≤ entries_in (record t { resource_tables = t.resource_tables ++ r ∷ [] }) table
longer_resource_table t r of_resource_tables = longer_by_one t.resource_tables r
longer_resource_table t r table = le_refl (entries_in t table)

step_resource_table : (t : Tables) (r : TypeResourceTable) → (ty : InterfaceType) → Step (node_of t ty) (node_of (record t { resource_tables = t.resource_tables ++ r ∷ [] }) ty) (IsLive t ty) (IsLive (record t { resource_tables = t.resource_tables ++ r ∷ [] }) ty) (is_plain ty) None
step_resource_table t r (t_own i) = step_plain None _ _
step_resource_table t r (t_borrow i) = step_plain None _ _
step_resource_table t r ty = step_same (node_of t ty) (IsLive t ty) (is_plain ty) _

links_resource_table : (t : Tables) (r : TypeResourceTable) → ((table : Table) → AreHeldLive t t table) → (table : Table) → AreHeldLive (record t { resource_tables = t.resource_tables ++ r ∷ [] }) (record t { resource_tables = t.resource_tables ++ r ∷ [] }) table
links_resource_table t r h of_resource_tables = tt
links_resource_table t r h table = keeps_links t (record t { resource_tables = t.resource_tables ++ r ∷ [] }) (longer_resource_table t r) table (h table)

more_resource_table : (t : Tables) (r : TypeResourceTable) → entries t + 0 ≤ entries (record t { resource_tables = t.resource_tables ++ r ∷ [] })
more_resource_table t r = omega arith

pub pushed_resource_table : {A E : Type 0} (t : Tables) → (news : List TypeResourceTable) (r : TypeResourceTable) (res : Result A E) → OnOk res (news ≡ t.resource_tables ++ r ∷ []) → OnErr res (news ≡ t.resource_tables) → IsSound t → IsSound (record t { resource_tables = news })
pushed_resource_table t news r res e o k =
    after_push (λ (xs : List TypeResourceTable). IsSound (record t { resource_tables = xs })) t.resource_tables news r res e o k
    (pushed t _ None (record { longer = longer_resource_table t r; step = step_resource_table t r; held_live = links_resource_table t r k.held_live; more = more_resource_table t r }) k tt)

-- ---- other module types
longer_types : (t : Tables) (m : Option (List FuncType)) (table : Table) → entries_in t table ≤ entries_in (record t { module_types = m }) table
longer_types t m of_modules = le_refl (length t.modules)
longer_types t m table = le_refl (entries_in t table)

step_types : (t : Tables) (m : Option (List FuncType)) (ty : InterfaceType) → Step (node_of t ty) (node_of (record t { module_types = m }) ty) (IsLive t ty) (IsLive (record t { module_types = m }) ty) (is_plain ty) None
step_types t m (t_record i) = step_same _ _ _ _
step_types t m ty = step_same (node_of t ty) (IsLive t ty) (is_plain ty) _

links_types : (t : Tables) (m : Option (List FuncType)) → ((table : Table) → AreHeldLive t t table) → (table : Table) → AreHeldLive (record t { module_types = m }) (record t { module_types = m }) table
links_types t m h of_modules = tt
links_types t m h table = keeps_links t (record t { module_types = m }) (longer_types t m) table (h table)

pub types_set : (t : Tables) (m : Option (List FuncType)) → IsSound t → IsSound (record t { module_types = m })
types_set t m k = pushed t _ None (record { longer = longer_types t m; step = step_types t m; held_live = links_types t m k.held_live; more = omega arith }) k tt

-- ---- other core modules, as many as before
longer_modules : (t : Tables) (ms : List ModuleType) → length ms ≡ length t.modules → (table : Table) → entries_in t table ≤ entries_in (record t { modules = ms }) table
longer_modules t ms e of_modules = omega (arith, e)
longer_modules t ms e table = le_refl (entries_in t table)

step_modules : (t : Tables) (ms : List ModuleType) (ty : InterfaceType) → Step (node_of t ty) (node_of (record t { modules = ms }) ty) (IsLive t ty) (IsLive (record t { modules = ms }) ty) (is_plain ty) None
step_modules t ms (t_record i) = step_same _ _ _ _
step_modules t ms ty = step_same (node_of t ty) (IsLive t ty) (is_plain ty) _

links_modules : (t : Tables) (ms : List ModuleType) → length ms ≡ length t.modules → ((table : Table) → AreHeldLive t t table) → (table : Table) → AreHeldLive (record t { modules = ms }) (record t { modules = ms }) table
links_modules t ms e h of_modules = tt
links_modules t ms e h table = keeps_links t (record t { modules = ms }) (longer_modules t ms e) table (h table)

pub modules_set : (t : Tables) (ms : List ModuleType) → length ms ≡ length t.modules → IsSound t → IsSound (record t { modules = ms })
modules_set t ms e k = pushed t _ None (record { longer = longer_modules t ms e; step = step_modules t ms; held_live = links_modules t ms e k.held_live; more = omega arith }) k tt

-- ---- no entries
no_entry : {X Y : Type 0} (f : X → Y) (i : ℕ) (y : Y) → option_map f (slice_get [] i) ≡ Some y → ⊥
no_entry f i y h = cc

pub empty_sound : IsSound no_tables
empty_sound = record { stands = empty_stands; shaped = empty_shaped; held_live = empty_held }
  where
    empty_held : (table : Table) → AreHeldLive no_tables no_tables table
    empty_held of_functions = λ i d l. absurd (omega (arith, l))
    empty_held of_components = λ i d l. absurd (omega (arith, l))
    empty_held of_component_instances = λ i d l. absurd (omega (arith, l))
    empty_held of_futures = λ i d l. absurd (omega (arith, l))
    empty_held of_streams = λ i d l. absurd (omega (arith, l))
    empty_held of_future_tables = λ i d l. absurd (omega (arith, l))
    empty_held of_stream_tables = λ i d l. absurd (omega (arith, l))
    empty_held table = tt

    empty_stands : (ty : InterfaceType) (n : Node) → node_of no_tables ty ≡ Some n → Stands no_tables n
    empty_stands (t_record i) n h = absurd (no_entry record_node i.number n h)
    empty_stands (t_variant i) n h = absurd (no_entry variant_node i.number n h)
    empty_stands (t_tuple i) n h = absurd (no_entry tuple_node i.number n h)
    empty_stands (t_flags i) n h = absurd (no_entry flags_node i.number n h)
    empty_stands (t_enum i) n h = absurd (no_entry enum_node i.number n h)
    empty_stands (t_option i) n h = absurd (no_entry option_node i.number n h)
    empty_stands (t_result i) n h = absurd (no_entry result_node i.number n h)
    empty_stands (t_list i) n h = absurd (no_entry list_node i.number n h)
    empty_stands (t_map i) n h = absurd (no_entry map_node i.number n h)
    empty_stands (t_fixed_length_list i) n h = absurd (no_entry fixed_length_list_node i.number n h)
    empty_stands (t_future i) n h = absurd (no_entry (future_node [] i.number) i.number n h)
    empty_stands (t_stream i) n h = absurd (no_entry (stream_node [] i.number) i.number n h)
    empty_stands ty n h = absurd cc

    empty_shaped : (ty : InterfaceType) → IsLive no_tables ty → (s : Shape) × HasShape no_tables ty s × (depth s ≤ 0)
    empty_shaped (t_record i) l = absurd (omega (arith, l))
    empty_shaped (t_variant i) l = absurd (omega (arith, l))
    empty_shaped (t_tuple i) l = absurd (omega (arith, l))
    empty_shaped (t_flags i) l = absurd (omega (arith, l))
    empty_shaped (t_enum i) l = absurd (omega (arith, l))
    empty_shaped (t_option i) l = absurd (omega (arith, l))
    empty_shaped (t_result i) l = absurd (omega (arith, l))
    empty_shaped (t_list i) l = absurd (omega (arith, l))
    empty_shaped (t_map i) l = absurd (omega (arith, l))
    empty_shaped (t_fixed_length_list i) l = absurd (omega (arith, l))
    empty_shaped (t_own i) l = absurd (omega (arith, l))
    empty_shaped (t_borrow i) l = absurd (omega (arith, l))
    empty_shaped (t_future i) l = absurd (omega (arith, l))
    empty_shaped (t_stream i) l = absurd (omega (arith, l))
    empty_shaped (t_error_context i) l = absurd (omega (arith, l))
    empty_shaped ty l = (s_plain ty, (refl, refl), omega arith)
