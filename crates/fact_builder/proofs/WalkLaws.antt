-- What the walk finds in an instance, and that no item lies within more instances than it reaches.
use Rattle.std.proofs.Common.{◌≡◌, ◌≤◌, ◌<◌, ℕ, zero, suc, List, [], ◌∷◌, ◌++◌, Option, Some, None, refl, sym, ◌∙◌, ap, subst, arith, All, length, ◌+◌, take, get_or, append_assoc}
use Rattle.std.proofs.lemmas.Grind.{flat_map-append}
use Rattle.std.proofs.lemmas.List.{append-nil, take_all, take_more}
use Rattle.std.proofs.lemmas.Option.{get_or_from_slice_get, slice_get_within}
use Rattle.std.specs.Prelude.{flat_map, slice_get, option_map}
use Rattle.fact_entity.specs.declared.id.Id.{Id}
use Rattle.fact_entity.specs.declared.table.SourceInstanceTypes.{SourceInstanceTypes}
use Rattle.fact_entity.specs.declared.table.SourceResources.{SourceResources}
use Rattle.fact_source.specs.declared.items.ComponentEntityType.{ComponentEntityType}
use Rattle.fact_source.specs.declared.items.ComponentEntityType.TheVariants as entity
use Rattle.fact_source.specs.declared.items.SourceItem.{SourceItem}
use Rattle.fact_source.specs.declared.items.SourceInstance.{SourceInstance}
use Rattle.fact_source.specs.declared.tables.Ranked.{Ranked}
use Rattle.fact_source.specs.SourceTables.{SourceTables, instance_at}
use Rattle.fact_source.specs.Live.{IsLiveEntity, above_rank, reach_of, ReachBelow, IsSoundSource}
use Rattle.fact_builder.specs.Walk.{ExportPath, exports_of, resources_within, resources_of}

-- ---- items of a list, one by one

same_joined : {X Y : Type 0} (P : X → Type 0) (f g : X → List Y) (xs : List X) → All P xs → ((x : X) → P x → f x ≡ g x) → flat_map f xs ≡ flat_map g xs
same_joined P f g [] a h = refl
same_joined P f g (x ∷ xs) a h = λ i. h x (a 0 x (omega arith)) i ++ same_joined P f g xs (λ j d l. a (suc j) d (omega (arith, l))) h i

le_refl : (n : ℕ) → n ≤ n
le_refl n = omega arith

le_trans : (a b c : ℕ) → a ≤ b → b ≤ c → a ≤ c
le_trans a b c h k = omega (arith, h, k)

below_suc : (a b : ℕ) → suc a ≤ suc b → a ≤ b
below_suc a b h = omega (arith, h)

-- an instance that reaches no rank is not there
none_there : (n : ℕ) → suc n ≤ 0 → ⊥
none_there n h = omega (arith, h)

-- ---- more steps than an item reaches find nothing more

-- what is found in an instance, where so many steps are left below it
abbrev found_in : ℕ → SourceTables → ExportPath → Option (Ranked SourceInstance) → List (ExportPath × Id SourceResources)
found_in n s path o = flat_map (λ x. resources_within n s (path ++ x.0 ∷ []) x.1.ty) (exports_of (option_map (λ r. r.entry) o))

-- what is sound of an instance that may be there
abbrev IsSoundEntry : SourceTables → Option (Ranked SourceInstance) → Type 0
IsSoundEntry s None = Unit {0}
IsSoundEntry s (Some r) = ReachBelow s r.rank r.entry.exports

abbrev SameBelow : SourceTables → ℕ → ℕ → Type 0
SameBelow s n m = (path : ExportPath) (e : ComponentEntityType) → reach_of s e ≤ n → reach_of s e ≤ m → resources_within n s path e ≡ resources_within m s path e

same_found : (s : SourceTables) (n m : ℕ) (path : ExportPath) (o : Option (Ranked SourceInstance)) → IsSoundEntry s o → above_rank o ≤ suc n → above_rank o ≤ suc m → SameBelow s n m → found_in n s path o ≡ found_in m s path o
same_found s n m path None k l h same = refl
same_found s n m path (Some r) k l h same =
    same_joined (λ (x : List ℕ × SourceItem). IsLiveEntity s x.1.ty × (reach_of s x.1.ty ≤ r.rank)) (λ x. resources_within n s (path ++ x.0 ∷ []) x.1.ty) (λ x. resources_within m s (path ++ x.0 ∷ []) x.1.ty) r.entry.exports k
    (λ x b. same (path ++ x.0 ∷ []) x.1.ty (le_trans _ _ _ b.1 (below_suc _ _ l)) (le_trans _ _ _ b.1 (below_suc _ _ h)))

none_found : (s : SourceTables) (m : ℕ) (path : ExportPath) (o : Option (Ranked SourceInstance)) → above_rank o ≤ 0 → [] ≡ found_in m s path o
none_found s m path None l = refl
none_found s m path (Some r) l = absurd (none_there _ l)

-- what holds of all items holds of the one at a place
at_place : {X : Type 0} (P : X → Type 0) (xs : List X) (i : ℕ) (x : X) → All P xs → slice_get xs i ≡ Some x → P x
at_place P xs i x a h = subst P (get_or_from_slice_get xs i x x h) (a i x (slice_get_within xs i x h))

entry_sound : (s : SourceTables) → IsSoundSource s → (i : ℕ) (o : Option (Ranked SourceInstance)) → slice_get s.instances i ≡ o → IsSoundEntry s o
entry_sound s k i None h = tt
entry_sound s k i (Some r) h = (at_place (λ (r : Ranked SourceInstance). ReachBelow s r.rank r.entry.exports × (r.rank < length s.instances + length s.components)) s.instances i r k.instances h).0

same_below : (s : SourceTables) → IsSoundSource s → (n m : ℕ) → SameBelow s n m
same_below s k n m path (entity.Module i) l h = refl
same_below s k n m path (entity.Func i) l h = refl
same_below s k n m path (entity.Value v) l h = refl
same_below s k n m path (entity.AnyType i) l h = refl
same_below s k n m path (entity.Component i) l h = refl
same_below s k zero zero path (entity.Instance i) l h = refl
same_below s k zero (suc m) path (entity.Instance i) l h = none_found s m path (slice_get s.instances i.number) l
same_below s k (suc n) zero path (entity.Instance i) l h = sym (none_found s n path (slice_get s.instances i.number) h)
same_below s k (suc n) (suc m) path (entity.Instance i) l h = same_found s n m path (slice_get s.instances i.number) (entry_sound s k i.number _ refl) l h (same_below s k n m)

-- ---- the resources of an instance are those of its exports, each of which reaches less far

walk_at : (s : SourceTables) → IsSoundSource s → (path : ExportPath) (i : Id SourceInstanceTypes) (e : SourceInstance) (o : Option (Ranked SourceInstance)) → slice_get s.instances i.number ≡ o → option_map (λ r. r.entry) o ≡ Some e → resources_within (above_rank o) s path (entity.Instance i) ≡ flat_map (λ x. resources_of s (path ++ x.0 ∷ []) x.1.ty) e.exports
walk_at s k path i e None q h = cc
walk_at s k path i e (Some r) q h =
    let same : r.entry ≡ e = cc in
    ap (found_in r.rank s path) q
    ∙ same_joined (λ (x : List ℕ × SourceItem). IsLiveEntity s x.1.ty × (reach_of s x.1.ty ≤ r.rank)) (λ x. resources_within r.rank s (path ++ x.0 ∷ []) x.1.ty) (λ x. resources_of s (path ++ x.0 ∷ []) x.1.ty) r.entry.exports (entry_sound s k i.number (Some r) q)
    (λ x b. same_below s k r.rank (reach_of s x.1.ty) (path ++ x.0 ∷ []) x.1.ty b.1 (le_refl _))
    ∙ ap (λ (y : SourceInstance). flat_map (λ x. resources_of s (path ++ x.0 ∷ []) x.1.ty) y.exports) same

pub walk_instance : (s : SourceTables) → IsSoundSource s → (path : ExportPath) (i : Id SourceInstanceTypes) (e : SourceInstance) → instance_at s i ≡ Some e → resources_of s path (entity.Instance i) ≡ flat_map (λ x. resources_of s (path ++ x.0 ∷ []) x.1.ty) e.exports
walk_instance s k path i e h = walk_at s k path i e (slice_get s.instances i.number) refl h

below_rank : (a b : ℕ) → a ≤ b → a < suc b
below_rank a b h = omega (arith, h)

reaches_at : (s : SourceTables) → IsSoundSource s → (i : ℕ) (e : SourceInstance) (o : Option (Ranked SourceInstance)) → slice_get s.instances i ≡ o → option_map (λ r. r.entry) o ≡ Some e → (x : List ℕ × SourceItem) (j : ℕ) → slice_get e.exports j ≡ Some x → reach_of s x.1.ty < above_rank o
reaches_at s k i e None q h x j g = cc
reaches_at s k i e (Some r) q h x j g =
    let same : r.entry ≡ e = cc in
    let within : slice_get r.entry.exports j ≡ Some x = subst (λ (y : SourceInstance). slice_get y.exports j ≡ Some x) (sym same) g in
    below_rank _ _ (at_place (λ (x : List ℕ × SourceItem). IsLiveEntity s x.1.ty × (reach_of s x.1.ty ≤ r.rank)) r.entry.exports j x (entry_sound s k i (Some r) q) within).1

pub export_reaches_less : (s : SourceTables) → IsSoundSource s → (i : Id SourceInstanceTypes) (e : SourceInstance) → instance_at s i ≡ Some e → (x : List ℕ × SourceItem) (j : ℕ) → slice_get e.exports j ≡ Some x → reach_of s x.1.ty < reach_of s (entity.Instance i)
export_reaches_less s k i e h x j g = reaches_at s k i.number e (slice_get s.instances i.number) refl h x j g

-- ---- how far the walk has come through the exports of an instance, from a path and what was found before
pub record FoundTo (s : SourceTables) (path : ExportPath) (found : List (ExportPath × Id SourceResources)) (path' : ExportPath) (found' : List (ExportPath × Id SourceResources)) (seen : List (List ℕ × SourceItem)) : Type 0 where
  pub at_path : path' ≡ path
  pub found_so_far : found' ≡ found ++ flat_map (λ x. resources_of s (path ++ x.0 ∷ []) x.1.ty) seen

pub none_seen : (s : SourceTables) (path : ExportPath) (found : List (ExportPath × Id SourceResources)) → FoundTo s path found path found []
none_seen s path found = record { at_path = refl; found_so_far = sym (append-nil found) }

-- one more export was walked, with its name at the end of the path, and the name was taken off
pub one_more_seen : (s : SourceTables) (path : ExportPath) (found : List (ExportPath × Id SourceResources)) (exports : List (List ℕ × SourceItem)) (i : ℕ) (d : List ℕ × SourceItem)
    → i < length exports → (now after : ExportPath) (more rest : List (ExportPath × Id SourceResources)) → FoundTo s path found now more (take i exports)
    → after ≡ now → rest ≡ more ++ resources_of s (now ++ (get_or exports i d).0 ∷ []) (get_or exports i d).1.ty → FoundTo s path found after rest (take (i + 1) exports)
one_more_seen s path found exports i d l now after more rest so_far back here =
    let f = λ (x : List ℕ × SourceItem). resources_of s (path ++ x.0 ∷ []) x.1.ty in
    let x = get_or exports i d in
    let walked : flat_map f (take (i + 1) exports) ≡ flat_map f (take i exports) ++ f x =
    ap (flat_map f) (take_more exports i d l) ∙ flat_map-append f (take i exports) (x ∷ []) ∙ ap (λ ys. flat_map f (take i exports) ++ ys) (append-nil (f x)) in
    let there : resources_of s (now ++ x.0 ∷ []) x.1.ty ≡ f x = ap (λ p. resources_of s (p ++ x.0 ∷ []) x.1.ty) so_far.at_path in record {
      at_path = back ∙ so_far.at_path;
      found_so_far = here ∙ ap (λ ys. more ++ ys) there ∙ ap (λ ys. ys ++ f x) so_far.found_so_far ∙ append_assoc found (flat_map f (take i exports)) (f x) ∙ ap (λ ys. found ++ ys) (sym walked);
    }

-- all exports of an instance were walked
pub all_seen : (s : SourceTables) → IsSoundSource s → (path : ExportPath) (found : List (ExportPath × Id SourceResources)) (i : Id SourceInstanceTypes) (e : SourceInstance) → instance_at s i ≡ Some e
    → (items : List (List ℕ × SourceItem)) → items ≡ e.exports → (n : ℕ) → length items ≤ n
    → (now : ExportPath) (more : List (ExportPath × Id SourceResources)) → FoundTo s path found now more (take n items) → more ≡ found ++ resources_of s path (entity.Instance i)
all_seen s k path found i e h items same n l now more so_far =
    let f = λ (x : List ℕ × SourceItem). resources_of s (path ++ x.0 ∷ []) x.1.ty in
    so_far.found_so_far ∙ ap (λ xs. found ++ flat_map f xs) (take_all n items l ∙ same) ∙ ap (λ ys. found ++ ys) (sym (walk_instance s k path i e h))
