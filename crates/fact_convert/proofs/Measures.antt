-- What the calls of a conversion go by: how far down the types of values stand, and how far imports and exports reach.
use Rattle.std.proofs.Common.{◌≡◌, ◌<◌, ◌≤◌, ℕ, zero, suc, List, [], ◌∷◌, length, Option, Some, None, All, get_or, refl, subst, arith}
use Rattle.std.specs.Prelude.{slice_get, option_map, max}
use Rattle.fact_entity.specs.declared.id.Id.{Id}
use Rattle.fact_entity.specs.declared.table.SourceComponentTypes.{SourceComponentTypes}
use Rattle.fact_entity.specs.declared.table.SourceInstanceTypes.{SourceInstanceTypes}
use Rattle.fact_source.specs.declared.defined.ComponentDefinedType.{ComponentDefinedType}
use Rattle.fact_source.specs.declared.defined.ComponentValType.{ComponentValType}
use Rattle.fact_source.specs.declared.defined.ComponentValType.TheVariants as val
use Rattle.fact_source.specs.declared.items.ComponentEntityType.TheVariants as entity
use Rattle.fact_source.specs.declared.items.SourceComponent.{SourceComponent}
use Rattle.fact_source.specs.declared.items.SourceInstance.{SourceInstance}
use Rattle.fact_source.specs.declared.items.SourceItem.{SourceItem}
use Rattle.fact_source.specs.declared.tables.Ranked.{Ranked}
use Rattle.fact_source.specs.Live.{IsValueBelow, IsSoundSource, above_rank, reach_of, ReachBelow, AreLiveItems}
use Rattle.fact_source.specs.SourceTables.{SourceTables, instance_at, component_at}
use Rattle.fact_convert.specs.Tasks.{member_types}
use Rattle.fact_convert.proofs.Enough.{EachIs, members_below}
use Rattle.fact_convert.proofs.Reaching.{instance_sound, component_sound}

-- ---- types of values: how many defined types stand up to one, and up to the last of a list

abbrev pub height : ComponentValType → ℕ
height (val.Primitive p) = 0
height (val.Defined i) = suc i.number

abbrev pub heights : List ComponentValType → ℕ
heights [] = 0
heights (v ∷ vs) = max (height v) (heights vs)

no_higher : (v : ComponentValType) (n : ℕ) → IsValueBelow n v → height v ≤ n
no_higher (val.Primitive p) n h = omega arith
no_higher (val.Defined i) n h = omega (arith, h)

both_low : (m n k : ℕ) → m ≤ k → n ≤ k → max m n ≤ k
both_low m n k h l = omega (arith, h, l)

low_heights : (n : ℕ) (vs : List ComponentValType) → EachIs (IsValueBelow n) vs → heights vs ≤ n
low_heights n [] e = omega arith
low_heights n (v ∷ vs) (h, e) = both_low (height v) (heights vs) n (no_higher v n h) (low_heights n vs e)

-- the members of a defined type stand below it
pub members_lower : (s : SourceTables) → IsSoundSource s → (i : ℕ) (e : ComponentDefinedType) → slice_get s.defined i ≡ Some e → heights (member_types e) ≤ i
members_lower s k i e h = low_heights i (member_types e) (members_below i s.resources e (k.defined i e h))

first_low : (m n k : ℕ) → k ≤ m → k ≤ max m n
first_low m n k h = omega (arith, h)

second_low : (m n k : ℕ) → k ≤ n → k ≤ max m n
second_low m n k h = omega (arith, h)

-- one of a list stands no higher than the highest
pub one_no_higher : (vs : List ComponentValType) (i : ℕ) (d : ComponentValType) → i < length vs → height (get_or vs i d) ≤ heights vs
one_no_higher [] i d l = absurd (omega (arith, l))
one_no_higher (v ∷ vs) zero d l = first_low (height v) (heights vs) (height v) (omega arith)
one_no_higher (v ∷ vs) (suc i) d l = second_low (height v) (heights vs) _ (one_no_higher vs i d (omega (arith, l)))

each_to_all : {X : Type 0} (P : X → Type 0) (xs : List X) → EachIs P xs → All P xs
each_to_all P [] e i d l = absurd (omega (arith, l))
each_to_all P (x ∷ xs) (h, e) zero d l = h
each_to_all P (x ∷ xs) (h, e) (suc i) d l = each_to_all P xs e i d (omega (arith, l))

raised : (m n : ℕ) (v : ComponentValType) → m ≤ n → IsValueBelow m v → IsValueBelow n v
raised m n (val.Primitive p) l h = tt
raised m n (val.Defined i) l h = omega (arith, l, h)

each_raised : (m n : ℕ) (vs : List ComponentValType) → m ≤ n → EachIs (IsValueBelow m) vs → EachIs (IsValueBelow n) vs
each_raised m n [] l e = tt
each_raised m n (v ∷ vs) l (h, e) = (raised m n v l h, each_raised m n vs l e)

-- the members of a defined type are live
pub members_live : (s : SourceTables) → IsSoundSource s → (i : ℕ) (e : ComponentDefinedType) → slice_get s.defined i ≡ Some e → i < length s.defined → All (IsValueBelow (length s.defined)) (member_types e)
members_live s k i e h l = each_to_all _ _ (each_raised i (length s.defined) (member_types e) (omega (arith, l)) (members_below i s.resources e (k.defined i e h)))

-- ---- imports and exports

abbrev pub reach_of_items : SourceTables → List (List ℕ × SourceItem) → ℕ
reach_of_items s [] = 0
reach_of_items s (x ∷ xs) = max (reach_of s x.1.ty) (reach_of_items s xs)

pub items_reach : (s : SourceTables) (rank : ℕ) (items : List (List ℕ × SourceItem)) → ReachBelow s rank items → reach_of_items s items ≤ rank
items_reach s rank [] k = omega arith
items_reach s rank (x ∷ xs) k = both_low (reach_of s x.1.ty) (reach_of_items s xs) rank (k 0 x (omega arith)).1 (items_reach s rank xs (λ j d l. k (suc j) d (omega (arith, l))))

pub one_reaches_no_further : (s : SourceTables) (items : List (List ℕ × SourceItem)) (i : ℕ) (d : List ℕ × SourceItem) → i < length items → reach_of s (get_or items i d).1.ty ≤ reach_of_items s items
one_reaches_no_further s [] i d l = absurd (omega (arith, l))
one_reaches_no_further s (x ∷ xs) zero d l = first_low (reach_of s x.1.ty) (reach_of_items s xs) (reach_of s x.1.ty) (omega arith)
one_reaches_no_further s (x ∷ xs) (suc i) d l = second_low (reach_of s x.1.ty) (reach_of_items s xs) _ (one_reaches_no_further s xs i d (omega (arith, l)))

-- the exports of an instance reach less far than it does, and so do the imports and exports of a component
below_suc : (a b : ℕ) → a ≤ b → suc a ≤ suc b
below_suc a b h = omega (arith, h)

exports_lower_at : (s : SourceTables) → IsSoundSource s → (i : ℕ) (x : SourceInstance) (o : Option (Ranked SourceInstance)) → slice_get s.instances i ≡ o → option_map (λ r. r.entry) o ≡ Some x → (suc (reach_of_items s x.exports) ≤ above_rank o) × AreLiveItems s x.exports
exports_lower_at s k i x None q h = cc
exports_lower_at s k i x (Some r) q h =
    let same : r.entry ≡ x = cc in
    let sound : ReachBelow s r.rank x.exports = subst (λ (y : SourceInstance). ReachBelow s r.rank y.exports) same (instance_sound s k i (Some r) q) in
    (below_suc _ _ (items_reach s r.rank x.exports sound), λ j d l. (sound j d l).0)

pub exports_lower : (s : SourceTables) → IsSoundSource s → (i : Id SourceInstanceTypes) (x : SourceInstance) → instance_at s i ≡ Some x → (suc (reach_of_items s x.exports) ≤ reach_of s (entity.Instance i)) × AreLiveItems s x.exports
exports_lower s k i x h = exports_lower_at s k i.number x (slice_get s.instances i.number) refl h

items_lower_at : (s : SourceTables) → IsSoundSource s → (i : ℕ) (x : SourceComponent) (o : Option (Ranked SourceComponent)) → slice_get s.components i ≡ o → option_map (λ r. r.entry) o ≡ Some x → ((suc (reach_of_items s x.imports) ≤ above_rank o) × AreLiveItems s x.imports) × ((suc (reach_of_items s x.exports) ≤ above_rank o) × AreLiveItems s x.exports)
items_lower_at s k i x None q h = cc
items_lower_at s k i x (Some r) q h =
    let same : r.entry ≡ x = cc in
    let sound : ReachBelow s r.rank x.imports × ReachBelow s r.rank x.exports = subst (λ (y : SourceComponent). ReachBelow s r.rank y.imports × ReachBelow s r.rank y.exports) same (component_sound s k i (Some r) q) in
    ((below_suc _ _ (items_reach s r.rank x.imports sound.0), λ j d l. (sound.0 j d l).0), (below_suc _ _ (items_reach s r.rank x.exports sound.1), λ j d l. (sound.1 j d l).0))

pub items_lower : (s : SourceTables) → IsSoundSource s → (i : Id SourceComponentTypes) (x : SourceComponent) → component_at s i ≡ Some x → ((suc (reach_of_items s x.imports) ≤ reach_of s (entity.Component i)) × AreLiveItems s x.imports) × ((suc (reach_of_items s x.exports) ≤ reach_of s (entity.Component i)) × AreLiveItems s x.exports)
items_lower s k i x h = items_lower_at s k i.number x (slice_get s.components i.number) refl h
