-- No type of the source lies within more defined types than those before it; so its tasks are those of its members, and then its own.
use Rattle.std.proofs.Common.{◌≡◌, ◌≤◌, ◌<◌, ◌∙◌, ℕ, zero, suc, List, [], ◌∷◌, ◌++◌, Option, Some, None, All, length, map, refl, ap, arith}
use Rattle.std.specs.Prelude.{flat_map, slice_get, option_to_list}
use Rattle.fact_source.specs.declared.defined.ComponentValType.{ComponentValType}
use Rattle.fact_source.specs.declared.defined.ComponentValType.TheVariants as val
use Rattle.fact_source.specs.declared.defined.ComponentDefinedType.{ComponentDefinedType}
use Rattle.fact_source.specs.declared.defined.ComponentDefinedType.TheVariants as ty
use Rattle.fact_entity.specs.declared.id.Id.{Id}
use Rattle.fact_entity.specs.declared.table.SourceDefinedTypes.{SourceDefinedTypes}
use Rattle.fact_source.specs.SourceTables.{SourceTables}
use Rattle.fact_source.specs.Live.{IsValueBelow, IsPayloadBelow, IsDefinedBelow, IsSoundSource}
use Rattle.fact_convert.specs.Tasks.{Task, member_types, own_tasks, items_where_any, value_tasks_within, value_tasks}

-- each item of a list holds
abbrev pub EachIs : {X : Type 0} → (X → Type 0) → List X → Type 0
EachIs P [] = Unit {0}
EachIs P (x ∷ xs) = P x × EachIs P xs

same_joined : {X Y : Type 0} (f g : X → List Y) (xs : List X) → EachIs (λ x. f x ≡ g x) xs → flat_map f xs ≡ flat_map g xs
same_joined f g [] e = refl
same_joined f g (x ∷ xs) e = λ i. e.0 i ++ same_joined f g xs e.1 i

each_so : {X : Type 0} (P Q : X → Type 0) (xs : List X) → ((x : X) → P x → Q x) → EachIs P xs → EachIs Q xs
each_so P Q [] h e = tt
each_so P Q (x ∷ xs) h e = (h x e.0, each_so P Q xs h e.1)

below : (n i : ℕ) → i ≤ n → (x : ComponentValType) → IsValueBelow i x → IsValueBelow n x
below n i l (val.Primitive p) b = tt
below n i l (val.Defined j) b = omega (arith, b, l)

same_members : (f g : ComponentValType → List Task) (n i : ℕ) → i ≤ n → ((x : ComponentValType) → IsValueBelow n x → f x ≡ g x) → (o : Option ComponentDefinedType) → ((e : ComponentDefinedType) → o ≡ Some e → EachIs (IsValueBelow i) (member_types e)) → flat_map f (items_where_any member_types o) ++ items_where_any own_tasks o ≡ flat_map g (items_where_any member_types o) ++ items_where_any own_tasks o
same_members f g n i l h None k = refl
same_members f g n i l h (Some e) k = ap (λ (xs : List Task). xs ++ own_tasks e) (same_joined f g (member_types e) (each_so (IsValueBelow i) (λ x. f x ≡ g x) (member_types e) (λ x b. h x (below n i l x b)) (k e refl)))

-- where the members of each defined type lie below it, more steps than its number change nothing
enough : (s : SourceTables) → ((i : ℕ) (e : ComponentDefinedType) → slice_get s.defined i ≡ Some e → EachIs (IsValueBelow i) (member_types e)) → (n m : ℕ) (v : ComponentValType) → IsValueBelow n v → n ≤ m → value_tasks_within (suc n) s v ≡ value_tasks_within (suc m) s v
enough s k n m (val.Primitive p) l h = refl
enough s k zero m (val.Defined i) l h = absurd (omega (arith, l))
enough s k (suc n) zero (val.Defined i) l h = absurd (omega (arith, h))
enough s k (suc n) (suc m) (val.Defined i) l h = same_members (value_tasks_within (suc n) s) (value_tasks_within (suc m) s) n i.number (omega (arith, l)) (λ x b. enough s k n m x b (omega (arith, h))) (slice_get s.defined i.number) (k i.number)

-- ---- the members of a defined type lie below it

each_of_all : {X : Type 0} (P : X → Type 0) (xs : List X) → All P xs → EachIs P xs
each_of_all P [] a = tt
each_of_all P (x ∷ xs) a = (a 0 x (omega arith), each_of_all P xs (λ j d l. a (suc j) d (omega (arith, l))))

each_of_fields : (n : ℕ) (fields : List (List ℕ × ComponentValType)) → All (λ f. IsValueBelow n f.1) fields → EachIs (IsValueBelow n) (map (λ f. f.1) fields)
each_of_fields n [] a = tt
each_of_fields n (f ∷ fields) a = (a 0 f (omega arith), each_of_fields n fields (λ j d l. a (suc j) d (omega (arith, l))))

each_appended : {X : Type 0} (P : X → Type 0) (xs ys : List X) → EachIs P xs → EachIs P ys → EachIs P (xs ++ ys)
each_appended P [] ys a b = b
each_appended P (x ∷ xs) ys a b = (a.0, each_appended P xs ys a.1 b)

each_payload : (n : ℕ) (p : Option ComponentValType) → IsPayloadBelow n p → EachIs (IsValueBelow n) (option_to_list p)
each_payload n None b = tt
each_payload n (Some v) b = (b, tt)

each_of_cases : (n : ℕ) (cases : List (List ℕ × Option ComponentValType)) → All (λ c. IsPayloadBelow n c.1) cases → EachIs (IsValueBelow n) (flat_map (λ c. option_to_list c.1) cases)
each_of_cases n [] a = tt
each_of_cases n (c ∷ cases) a = each_appended (IsValueBelow n) (option_to_list c.1) (flat_map (λ c. option_to_list c.1) cases) (each_payload n c.1 (a 0 c (omega arith))) (each_of_cases n cases (λ j d l. a (suc j) d (omega (arith, l))))

pub members_below : (n resources : ℕ) (e : ComponentDefinedType) → IsDefinedBelow n resources e → EachIs (IsValueBelow n) (member_types e)
members_below n r (ty.Primitive p) b = tt
members_below n r (ty.Record fields) b = each_of_fields n fields b
members_below n r (ty.Variant cases) b = each_of_cases n cases b
members_below n r (ty.List v) b = (b, tt)
members_below n r (ty.Map k v) b = (b.0, (b.1, tt))
members_below n r (ty.Tuple vs) b = each_of_all (IsValueBelow n) vs b
members_below n r (ty.Flags names) b = tt
members_below n r (ty.Enum names) b = tt
members_below n r (ty.Option v) b = (b, tt)
members_below n r (ty.Result ok err) b = each_appended (IsValueBelow n) (option_to_list ok) (option_to_list err) (each_payload n ok b.0) (each_payload n err b.1)
members_below n r (ty.Own i) b = tt
members_below n r (ty.Borrow i) b = tt
members_below n r (ty.Future p) b = each_payload n p b
members_below n r (ty.Stream p) b = each_payload n p b
members_below n r (ty.FixedLengthList v m) b = (b, tt)

-- ---- the tasks of a defined type are those of its members, and then its own

tasks_at : (s : SourceTables) → ((i : ℕ) (e : ComponentDefinedType) → slice_get s.defined i ≡ Some e → EachIs (IsValueBelow i) (member_types e)) → (n : ℕ) (i : Id SourceDefinedTypes) → i.number < n → (e : ComponentDefinedType) → slice_get s.defined i.number ≡ Some e
    → value_tasks_within (suc n) s (val.Defined i) ≡ flat_map (value_tasks_within (suc n) s) (member_types e) ++ own_tasks e
tasks_at s k zero i l e h = absurd (omega (arith, l))
tasks_at s k (suc n) i l e h =
    ap (λ o. flat_map (value_tasks_within (suc n) s) (items_where_any member_types o) ++ items_where_any own_tasks o) h
    ∙ ap (λ (ts : List Task). ts ++ own_tasks e)
    (same_joined (value_tasks_within (suc n) s) (value_tasks_within (suc (suc n)) s) (member_types e)
    (each_so (IsValueBelow i.number) (λ x. value_tasks_within (suc n) s x ≡ value_tasks_within (suc (suc n)) s x) (member_types e)
    (λ x b. enough s k n (suc n) x (below n i.number (omega (arith, l)) x b) (omega arith)) (k i.number e h)))

pub defined_tasks : (s : SourceTables) → IsSoundSource s → (i : Id SourceDefinedTypes) → i.number < length s.defined → (e : ComponentDefinedType) → slice_get s.defined i.number ≡ Some e
    → value_tasks s (val.Defined i) ≡ flat_map (value_tasks s) (member_types e) ++ own_tasks e
defined_tasks s k i l e h = tasks_at s (λ j d g. members_below j s.resources d (k.defined j d g)) (length s.defined) i l e h
