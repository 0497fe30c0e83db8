-- What an import or export has become stays so while a builder grows, is live, and does not hang on how many steps it takes to say so.
use Rattle.std.proofs.Common.{◌≡◌, ◌≤◌, ℕ, zero, suc, List, [], ◌∷◌, Option, Some, None, All, refl, subst, arith}
use Rattle.std.specs.Prelude.{slice_get, option_map, nat_eq}
use Rattle.std.specs.List.{AllZip}
use Rattle.std.specs.Cmp.Lexicographic.{pointwise}
use Rattle.std.proofs.lemmas.Option.{slice_get_within}
use Rattle.fact_source.specs.declared.defined.ComponentValType.{ComponentValType}
use Rattle.fact_source.specs.declared.defined.ComponentValType.TheVariants as val
use Rattle.fact_source.specs.declared.defined.SourceFunc.{SourceFunc}
use Rattle.fact_entity.specs.declared.source_ids.ComponentAnyTypeId.{ComponentAnyTypeId}
use Rattle.fact_entity.specs.declared.source_ids.ComponentAnyTypeId.TheVariants as any
use Rattle.fact_source.specs.declared.items.ComponentEntityType.{ComponentEntityType}
use Rattle.fact_source.specs.declared.items.ComponentEntityType.TheVariants as entity
use Rattle.fact_source.specs.declared.items.SourceComponent.{SourceComponent}
use Rattle.fact_source.specs.declared.items.SourceInstance.{SourceInstance}
use Rattle.fact_source.specs.declared.items.SourceItem.{SourceItem}
use Rattle.fact_source.specs.declared.modules.SourceEntityType.{SourceEntityType}
use Rattle.fact_source.specs.declared.modules.SourceEntityType.TheVariants as source
use Rattle.fact_source.specs.declared.modules.SourceModule.{SourceModule}
use Rattle.fact_source.specs.declared.tables.Ranked.{Ranked}
use Rattle.fact_source.specs.Live.{above_rank, reach_of, ReachBelow, IsSoundSource, IsLiveAny, IsLiveEntity}
use Rattle.fact_source.specs.SourceTables.{SourceTables}
use Rattle.fact_types.specs.declared.externs.ComponentExtern.{ComponentExtern}
use Rattle.fact_types.specs.declared.externs.EngineOrModuleTypeIndex.TheVariants as core
use Rattle.fact_types.specs.declared.externs.EntityType.{EntityType}
use Rattle.fact_types.specs.declared.externs.EntityType.TheVariants as made
use Rattle.fact_types.specs.declared.interface.InterfaceType.{InterfaceType}
use Rattle.fact_types.specs.declared.interface.InterfaceType.TheVariants as plain
use Rattle.fact_types.specs.declared.interface.TypeDef.{TypeDef}
use Rattle.fact_types.specs.declared.interface.TypeDef.TheVariants as def
use Rattle.fact_types.specs.declared.kinds.TypeFunc.{TypeFunc}
use Rattle.fact_types.specs.Externs.{ModuleType}
use Rattle.fact_types.specs.Shapes.{k_tuple, s_node}
use Rattle.fact_types.specs.Tables.{IsLiveDef}
use Rattle.fact_builder.specs.Known.{AreKeptLive}
use Rattle.fact_builder.proofs.TableLaws.{kept_is_live}
use Rattle.fact_convert.specs.Conversion.{BuilderGrows}
use Rattle.fact_convert.specs.Converted.{IsTupleFrom, IsFuncFrom, IsEntityFrom, IsModuleFrom, IsItemFrom, IsDefWithin, IsDefFrom, entity_of}
use Rattle.fact_convert.specs.BuilderTables.{tables_of}
use Rattle.fact_builder.specs.Builder.{Builder}
use Rattle.fact_convert.specs.Merging.{merged}
use Rattle.fact_convert.specs.Progress.{IsExternFrom, AreItemsFrom}
use Rattle.fact_convert.proofs.Growing.{type_stays, members_stay}
use Rattle.fact_convert.proofs.LiveLaws.{type_live}
use Rattle.fact_convert.proofs.Merged.{Each, each_merged, zip_right, zip_so}
use Rattle.fact_convert.proofs.Reaching.{instance_sound, component_sound}

-- ---- functions and core modules stay

pub tuple_stays : (s : SourceTables) (a b : Builder) → BuilderGrows a b → (vs : List ComponentValType) (t : InterfaceType) → IsTupleFrom s a vs t → IsTupleFrom s b vs t
tuple_stays s a b g vs t (ms, h, q) = (ms, g.types.shapes t (s_node k_tuple ms) h, members_stay s a b g _ ms q)

pub func_stays : (s : SourceTables) (a b : Builder) → BuilderGrows a b → (f : SourceFunc) (g' : TypeFunc) → IsFuncFrom s a f g' → IsFuncFrom s b f g'
func_stays s a b g f g' h = record { async_ = h.async_; names = h.names; params = tuple_stays s a b g _ (plain.Tuple g'.params) h.params; results = tuple_stays s a b g _ (plain.Tuple g'.results) h.results }

pub entity_stays : (a b : Builder) → BuilderGrows a b → (x : SourceEntityType) (e : EntityType) → IsEntityFrom a x e → IsEntityFrom b x e
entity_stays a b g (source.Func ps rs) (made.Function (core.Module i)) h = g.core i.number _ h
entity_stays a b g (source.Tag ps rs) (made.Tag (core.Module i)) h = g.core i.number _ h
entity_stays a b g x e h = h

pub module_stays : (a b : Builder) → BuilderGrows a b → (m : SourceModule) (e : ModuleType) → IsModuleFrom a m e → IsModuleFrom b m e
module_stays a b g m e h = record {
  imports = zip_so _ _ _ _ (λ x y k. (k.0, entity_stays a b g x.1 y.1 k.1)) h.imports;
  exports = zip_so _ _ _ _ (λ x y k. (k.0, entity_stays a b g x.1 y.1 k.1)) h.exports;
}

-- ---- so does what any import or export has become

item_so : (P Q : ComponentEntityType → TypeDef → Type 0) → ((e : ComponentEntityType) (d : TypeDef) → P e d → Q e d) → (x : List ℕ × SourceItem) (y : List ℕ × ComponentExtern) → IsItemFrom P x y → IsItemFrom Q x y
item_so P Q f x y h = record { name = h.name; implements = h.implements; external_id = h.external_id; ty = f x.1.ty y.1.ty h.ty }

pub def_stays : (n : ℕ) (s : SourceTables) (a b : Builder) → BuilderGrows a b → (e : ComponentEntityType) (d : TypeDef) → IsDefWithin n s a e d → IsDefWithin n s b e d
def_stays n s a b g (entity.Module i) (def.Module j) (m, e, h, at, k) = (m, e, h, g.tables.modules j.number e at, module_stays a b g m e k)
def_stays n s a b g (entity.Func i) (def.ComponentFunc j) (f, e, h, at, k) = (f, e, h, g.tables.functions j.number e at, func_stays s a b g f e k)
def_stays n s a b g (entity.AnyType (any.Defined i)) (def.Interface t) h = type_stays s a b g (val.Defined i) t h
def_stays n s a b g (entity.AnyType (any.Resource r)) (def.Resource j) h = g.kept r j h
def_stays (suc n) s a b g (entity.Instance i) (def.ComponentInstance j) (x, e, h, at, k) = (x, e, h, g.tables.component_instances j.number e at, zip_so _ _ _ _ (item_so _ _ (λ c d. def_stays n s a b g c d)) k)
def_stays (suc n) s a b g (entity.Component i) (def.Component j) (x, e, h, at, k, l) = (x, e, h, g.tables.components j.number e at, zip_so _ _ _ _ (item_so _ _ (λ c d. def_stays n s a b g c d)) k, zip_so _ _ _ _ (item_so _ _ (λ c d. def_stays n s a b g c d)) l)
def_stays n s a b g e d h = absurd h

pub extern_stays : (s : SourceTables) (a b : Builder) → BuilderGrows a b → (x : SourceItem) (y : ComponentExtern) → IsExternFrom s a x y → IsExternFrom s b x y
extern_stays s a b g x y (h, k, l) = (h, k, def_stays _ s a b g x.ty y.ty l)

pub items_stay : (s : SourceTables) (a b : Builder) → BuilderGrows a b → (items : List (List ℕ × SourceItem)) (made : List (List ℕ × ComponentExtern)) → AreItemsFrom s a items made → AreItemsFrom s b items made
items_stay s a b g items made h = zip_so _ _ _ _ (λ x y k. (k.0, extern_stays s a b g x.1 y.1 k.1)) h

-- ---- and it is live

pub def_live : (n : ℕ) (s : SourceTables) (c : Builder) → AreKeptLive c.resources (tables_of c) → (e : ComponentEntityType) (d : TypeDef) → IsDefWithin n s c e d → IsLiveDef (tables_of c) d
def_live n s c k (entity.Module i) (def.Module j) (m, e, h, at, l) = slice_get_within _ j.number e at
def_live n s c k (entity.Func i) (def.ComponentFunc j) (f, e, h, at, l) = slice_get_within _ j.number e at
def_live n s c k (entity.AnyType (any.Defined i)) (def.Interface t) h = type_live s c k (val.Defined i) t h
def_live n s c k (entity.AnyType (any.Resource r)) (def.Resource j) h = kept_is_live c.resources (tables_of c) r j k h
def_live (suc n) s c k (entity.Instance i) (def.ComponentInstance j) (x, e, h, at, l) = slice_get_within _ j.number e at
def_live (suc n) s c k (entity.Component i) (def.Component j) (x, e, h, at, l, m) = slice_get_within _ j.number e at
def_live n s c k e d h = absurd h

-- ---- a list of items that were converted is live

pub items_live : (s : SourceTables) (c : Builder) → AreKeptLive c.resources (tables_of c) → (items : List (List ℕ × SourceItem)) (made : List (List ℕ × ComponentExtern)) → AreItemsFrom s c items made → All (λ y. IsLiveDef (tables_of c) y.1.ty) made
items_live s c k items made h = zip_right _ _ (λ x y l. def_live _ s c k x.1.ty y.1.ty l.1.2) (merged items) made h

-- ---- more steps than an item reaches say nothing else

reaches : (s : SourceTables) (rank : ℕ) (items : List (List ℕ × SourceItem)) → ReachBelow s rank items → Each (λ (x : SourceItem). reach_of s x.ty ≤ rank) items
reaches s rank [] k = tt
reaches s rank (x ∷ xs) k = ((k 0 x (omega arith)).1, reaches s rank xs (λ j d l. k (suc j) d (omega (arith, l))))

zip_each : {K V W : Type 0} (P : V → Type 0) (R Q : K × V → K × W → Type 0) → ((x : K × V) (y : K × W) → P x.1 → R x y → Q x y) → (xs : List (K × V)) (ys : List (K × W)) → Each P xs → AllZip R xs ys → AllZip Q xs ys
zip_each P R Q f [] [] e a = tt
zip_each P R Q f [] (y ∷ ys) e a = absurd a
zip_each P R Q f (x ∷ xs) [] e a = absurd a
zip_each P R Q f (x ∷ xs) (y ∷ ys) (p, e) (h, a) = (f x y p h, zip_each P R Q f xs ys e a)

le_refl : (n : ℕ) → n ≤ n
le_refl n = omega arith

le_trans : (a b c : ℕ) → a ≤ b → b ≤ c → a ≤ c
le_trans a b c h k = omega (arith, h, k)

below_suc : (a b : ℕ) → suc a ≤ suc b → a ≤ b
below_suc a b h = omega (arith, h)

abbrev SameWithin : SourceTables → Builder → ℕ → ℕ → Type 0
SameWithin s c n m = (e : ComponentEntityType) (d : TypeDef) → reach_of s e ≤ n → reach_of s e ≤ m → IsDefWithin n s c e d → IsDefWithin m s c e d

same_items : (s : SourceTables) (c : Builder) (n m rank : ℕ) (items : List (List ℕ × SourceItem)) (made : List (List ℕ × ComponentExtern)) → ReachBelow s rank items → rank ≤ n → rank ≤ m → SameWithin s c n m
    → AllZip (IsItemFrom (λ a b. IsDefWithin n s c a b)) (merged items) made → AllZip (IsItemFrom (λ a b. IsDefWithin m s c a b)) (merged items) made
same_items s c n m rank items made k l h same a =
    zip_each (λ (x : SourceItem). reach_of s x.ty ≤ rank) (IsItemFrom (λ a b. IsDefWithin n s c a b)) (IsItemFrom (λ a b. IsDefWithin m s c a b))
    (λ x y b i. record { name = i.name; implements = i.implements; external_id = i.external_id; ty = same x.1.ty y.1.ty (le_trans _ _ _ b l) (le_trans _ _ _ b h) i.ty })
    (merged items) made (each_merged (pointwise nat_eq) (λ (x : SourceItem). reach_of s x.ty ≤ rank) [] items tt (reaches s rank items k)) a

zero_suc : (n : ℕ) → 0 ≡ suc n → ⊥
zero_suc n h = omega (arith, h)

-- one less on both sides
suc_le : (n m r : ℕ) → suc n ≡ suc m → r ≤ m → r ≤ n
suc_le n m r e l = omega (arith, e, l)

rank_within : {X : Type 0} (o : Option (Ranked X)) (n : ℕ) (x : X) → option_map (λ r. r.entry) o ≡ Some x → above_rank o ≤ n → (r : Ranked X) × (m : ℕ) × (o ≡ Some r) × (r.entry ≡ x) × (n ≡ suc m) × (r.rank ≤ m)
rank_within None n x h l = cc
rank_within (Some r) zero x h l = absurd (omega (arith, l))
rank_within (Some r) (suc m) x h l = (r, m, refl, cc, refl, below_suc _ _ l)

pub same_within : (s : SourceTables) → IsSoundSource s → (c : Builder) (n m : ℕ) → SameWithin s c n m
same_within s k c n m (entity.Module i) (def.Module j) l h a = a
same_within s k c n m (entity.Func i) (def.ComponentFunc j) l h a = a
same_within s k c n m (entity.AnyType (any.Defined i)) (def.Interface t) l h a = a
same_within s k c n m (entity.AnyType (any.Resource r)) (def.Resource j) l h a = a
same_within s k c (suc n) zero (entity.Instance i) (def.ComponentInstance j) l h (x, e, at, there, z) =
    let (r, m, is, same, big, fits) = rank_within (slice_get s.instances i.number) zero x at h in absurd (zero_suc m big)
same_within s k c (suc n) (suc m) (entity.Instance i) (def.ComponentInstance j) l h (x, e, at, there, z) =
    let (r, n', is, same, big, low) = rank_within (slice_get s.instances i.number) (suc n) x at l in
    let (r', m', is', same', big', high) = rank_within (slice_get s.instances i.number) (suc m) x at h in
    let sound : ReachBelow s r.rank x.exports = subst (λ (y : SourceInstance). ReachBelow s r.rank y.exports) same (instance_sound s k i.number (Some r) is) in
    let one : r' ≡ r = cc in
    (x, e, at, there, same_items s c n m r.rank x.exports e.exports sound (suc_le n n' _ big low) (subst (λ (q : Ranked SourceInstance). q.rank ≤ m) one (suc_le m m' _ big' high)) (same_within s k c n m) z)
same_within s k c (suc n) zero (entity.Component i) (def.Component j) l h (x, e, at, there, z, w) =
    let (r, m, is, same, big, fits) = rank_within (slice_get s.components i.number) zero x at h in absurd (zero_suc m big)
same_within s k c (suc n) (suc m) (entity.Component i) (def.Component j) l h (x, e, at, there, z, w) =
    let (r, n', is, same, big, low) = rank_within (slice_get s.components i.number) (suc n) x at l in
    let (r', m', is', same', big', high) = rank_within (slice_get s.components i.number) (suc m) x at h in
    let sound : ReachBelow s r.rank x.imports × ReachBelow s r.rank x.exports = subst (λ (y : SourceComponent). ReachBelow s r.rank y.imports × ReachBelow s r.rank y.exports) same (component_sound s k i.number (Some r) is) in
    let one : r' ≡ r = cc in
    let high' = subst (λ (q : Ranked SourceComponent). q.rank ≤ m) one (suc_le m m' _ big' high) in
    (x, e, at, there, same_items s c n m r.rank x.imports e.imports sound.0 (suc_le n n' _ big low) high' (same_within s k c n m) z, same_items s c n m r.rank x.exports e.exports sound.1 (suc_le n n' _ big low) high' (same_within s k c n m) w)
same_within s k c n m e d l h a = absurd a

-- items that each reach so far at most are as they are within just so many steps
pub items_within : (s : SourceTables) → IsSoundSource s → (c : Builder) (rank : ℕ) (items : List (List ℕ × SourceItem)) (made : List (List ℕ × ComponentExtern)) → ReachBelow s rank items → AllZip (IsItemFrom (IsDefFrom s c)) (merged items) made → AllZip (IsItemFrom (λ a b. IsDefWithin rank s c a b)) (merged items) made
items_within s k c rank items made b a =
    zip_each (λ (x : SourceItem). reach_of s x.ty ≤ rank) (IsItemFrom (IsDefFrom s c)) (IsItemFrom (λ a b. IsDefWithin rank s c a b))
    (λ x y l i. record { name = i.name; implements = i.implements; external_id = i.external_id; ty = same_within s k c (reach_of s x.1.ty) rank x.1.ty y.1.ty (le_refl _) l i.ty })
    (merged items) made (each_merged (pointwise nat_eq) (λ (x : SourceItem). reach_of s x.ty ≤ rank) [] items tt (reaches s rank items b)) a

-- a type of any kind is live as an import or export of that type
pub live_entity_of : (s : SourceTables) (i : ComponentAnyTypeId) → IsLiveAny s i → IsLiveEntity s (entity_of i)
live_entity_of s (any.Resource i) l = l
live_entity_of s (any.Defined i) l = l
live_entity_of s (any.Func i) l = l
live_entity_of s (any.Instance i) l = l
live_entity_of s (any.Component i) l = l

-- imports or exports are from the source under another name of their list
pub items_in : (s : SourceTables) (a : Builder) (xs ys : List (List ℕ × SourceItem)) → xs ≡ ys → (made : List (List ℕ × ComponentExtern)) → AreItemsFrom s a xs made → AreItemsFrom s a ys made
items_in s a xs ys same made h = subst (λ us. AreItemsFrom s a us made) same h
