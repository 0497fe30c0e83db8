-- What the code tests of each kind of type, and the types of its members, by its table.
use Rattle.std.proofs.Common.{◌≡◌, ◌⊎◌, ◌<◌, ℕ, suc, List, [], ◌∷◌, length, map, Option, Some, None, inl, inr, refl, sym, ◌∙◌, ap, subst, arith}
use Rattle.std.specs.Prelude.{◌↔◌, IsTrue, nat_eq, nat_lt, slice_get, option_map}
use Rattle.std.specs.List.{IsDistinct}
use Rattle.std.specs.Str.{bytes_eq}
use Rattle.std.proofs.lemmas.Map.Made.{AllPairs-from_IsDistinct}
use Rattle.std.proofs.lemmas.Slice.Eq.{bytes_eq-Decides}
use Rattle.fact_entity.specs.declared.id.Id.{Id}
use Rattle.fact_entity.specs.declared.table.TypeRecords.{TypeRecords}
use Rattle.fact_entity.specs.declared.table.TypeVariants.{TypeVariants}
use Rattle.fact_entity.specs.declared.table.TypeTuples.{TypeTuples}
use Rattle.fact_entity.specs.declared.table.TypeLists.{TypeLists}
use Rattle.fact_entity.specs.declared.table.TypeMaps.{TypeMaps}
use Rattle.fact_entity.specs.declared.table.TypeOptions.{TypeOptions}
use Rattle.fact_entity.specs.declared.table.TypeResults.{TypeResults}
use Rattle.fact_entity.specs.declared.table.TypeFutureTables.{TypeFutureTables}
use Rattle.fact_entity.specs.declared.table.TypeStreamTables.{TypeStreamTables}
use Rattle.fact_entity.specs.declared.table.TypeFixedLengthLists.{TypeFixedLengthLists}
use Rattle.fact_types.specs.declared.interface.InterfaceType.{InterfaceType}
use Rattle.fact_types.specs.declared.interface.InterfaceType.TheVariants.{Record as t_record, Variant as t_variant, List as t_list, Tuple as t_tuple, Map as t_map, Flags as t_flags, Enum as t_enum, Option as t_option, Result as t_result, Future as t_future, Stream as t_stream, FixedLengthList as t_fixed_length_list}
use Rattle.fact_types.specs.declared.kinds.RecordField.{RecordField}
use Rattle.fact_types.specs.declared.kinds.TypeRecord.{TypeRecord}
use Rattle.fact_types.specs.declared.kinds.TypeTuple.{TypeTuple}
use Rattle.fact_types.specs.Layout.{payloads}
use Rattle.fact_types.specs.Ordered.{FlagsType, EnumType}
use Rattle.fact_types.specs.Shapes.{k_tuple, k_flags}
use Rattle.fact_types.specs.Tables.{Tables, Node, node_of, placed, record_node, tuple_node, flags_node, enum_node}
use Rattle.fact_plan_types.specs.TypeRules.{IsRepeated, most_entries}
use Rattle.fact_type_rules.specs.TypeFaults.{IsBadKind}
use Rattle.fact_type_rules.specs.Walk.{IsBadNode, IsLongType, IsLongNode, types_of_node}

abbrev pub Member : Type 0
Member = List ℕ × Option InterfaceType

-- a flag or a case of an enum
abbrev bare_member : List ℕ → Member
bare_member n = (n, None)

-- ---- the types of members

field_types : (fs : List RecordField) → payloads (map (λ (m : Member). m.1) (map (λ (f : RecordField). (f.name, Some f.ty)) fs)) ≡ map (λ f. f.ty) fs
field_types [] = refl
field_types (f ∷ fs) = ap (λ ts. f.ty ∷ ts) (field_types fs)

pub record-types : (t : Tables) (i : Id TypeRecords) (e : TypeRecord) → slice_get t.records i.number ≡ Some e → map (λ f. f.ty) e.fields ≡ types_of_node (node_of t (t_record i))
record-types t i e there = sym (ap (λ o. types_of_node (option_map record_node o)) there ∙ field_types e.fields)

place_types : (n : ℕ) (ys : List InterfaceType) → payloads (map (λ (m : Member). m.1) (placed n ys)) ≡ ys
place_types n [] = refl
place_types n (y ∷ ys) = ap (λ ts. y ∷ ts) (place_types (suc n) ys)

pub tuple-types : (t : Tables) (i : Id TypeTuples) (e : TypeTuple) → slice_get t.tuples i.number ≡ Some e → e.types ≡ types_of_node (node_of t (t_tuple i))
tuple-types t i e there = sym (ap (λ o. types_of_node (option_map tuple_node o)) there ∙ place_types 0 e.types)

bare_types : (names : List (List ℕ)) → payloads (map (λ (m : Member). m.1) (map bare_member names)) ≡ []
bare_types [] = refl
bare_types (n ∷ ns) = bare_types ns

flags_types : (o : Option FlagsType) → types_of_node (option_map flags_node o) ≡ []
flags_types None = refl
flags_types (Some e) = bare_types e.names

enum_types : (o : Option EnumType) → types_of_node (option_map enum_node o) ≡ []
enum_types None = refl
enum_types (Some e) = bare_types e.names

-- other types have no members, or members without types
pub no-types : (t : Tables) (p : InterfaceType)
    → ((x : Id TypeRecords) → p ≡ t_record x → ⊥)
    → ((x : Id TypeVariants) → p ≡ t_variant x → ⊥)
    → ((x : Id TypeTuples) → p ≡ t_tuple x → ⊥)
    → ((x : Id TypeLists) → p ≡ t_list x → ⊥)
    → ((x : Id TypeMaps) → p ≡ t_map x → ⊥)
    → ((x : Id TypeOptions) → p ≡ t_option x → ⊥)
    → ((x : Id TypeResults) → p ≡ t_result x → ⊥)
    → ((x : Id TypeFixedLengthLists) → p ≡ t_fixed_length_list x → ⊥)
    → ((x : Id TypeFutureTables) → p ≡ t_future x → ⊥)
    → ((x : Id TypeStreamTables) → p ≡ t_stream x → ⊥)
    → types_of_node (node_of t p) ≡ []
no-types t (t_record x) a b c d e f g h i j = absurd (a x refl)
no-types t (t_variant x) a b c d e f g h i j = absurd (b x refl)
no-types t (t_tuple x) a b c d e f g h i j = absurd (c x refl)
no-types t (t_list x) a b c d e f g h i j = absurd (d x refl)
no-types t (t_map x) a b c d e f g h i j = absurd (e x refl)
no-types t (t_option x) a b c d e f g h i j = absurd (f x refl)
no-types t (t_result x) a b c d e f g h i j = absurd (g x refl)
no-types t (t_fixed_length_list x) a b c d e f g h i j = absurd (h x refl)
no-types t (t_future x) a b c d e f g h i j = absurd (i x refl)
no-types t (t_stream x) a b c d e f g h i j = absurd (j x refl)
no-types t (t_flags x) a b c d e f g h i j = flags_types (slice_get t.flags x.number)
no-types t (t_enum x) a b c d e f g h i j = enum_types (slice_get t.enums x.number)
no-types t _ a b c d e f g h i j = refl

-- ---- kinds of types that are none

-- what is so for the names of an entry's members is so for the entry
pub by-node : (A : Type 0) (o : Option Node) (n : Node) (names : List (List ℕ)) → o ≡ Some n → map (λ (m : Member). m.0) n.members ≡ names → A ↔ IsBadKind n.kind names → A ↔ IsBadNode o
by-node A o n names e f h = (λ a. subst IsBadNode (sym e) (subst (IsBadKind n.kind) (sym f) (h.0 a)), λ b. h.1 (subst (IsBadKind n.kind) f (subst IsBadNode e b)))

pub field-names : (fs : List RecordField) → map (λ (m : Member). m.0) (map (λ (f : RecordField). (f.name, Some f.ty)) fs) ≡ map (λ f. f.name) fs
field-names [] = refl
field-names (f ∷ fs) = ap (λ ns. f.name ∷ ns) (field-names fs)

pub bare-names : (names : List (List ℕ)) → map (λ (m : Member). m.0) (map bare_member names) ≡ names
bare-names [] = refl
bare-names (n ∷ ns) = ap (λ ns. n ∷ ns) (bare-names ns)

place_count : (n : ℕ) (ys : List InterfaceType) → length (map (λ (m : Member). m.0) (placed n ys)) ≡ length ys
place_count n [] = refl
place_count n (y ∷ ys) = omega (arith, place_count (suc n) ys)

member_count : (n : ℕ) (ys : List InterfaceType) → length (placed n ys) ≡ length ys
member_count n [] = refl
member_count n (y ∷ ys) = omega (arith, member_count (suc n) ys)

zero_test : (n : ℕ) → IsTrue (nat_eq n 0) → n ≡ 0
zero_test n h = grind (arith, h)

is_zero : (n : ℕ) → n ≡ 0 → IsTrue (nat_eq n 0)
is_zero n h = grind (arith, h)

pub above-test : (m n : ℕ) → IsTrue (nat_lt m n) → m < n
above-test m n h = grind (arith, h)

pub is-above : (m n : ℕ) → m < n → IsTrue (nat_lt m n)
is-above m n h = grind (arith, h)

-- names of a map or a set
not_repeated : (names : List (List ℕ)) → IsDistinct bytes_eq names → IsRepeated names → ⊥
not_repeated names d repeated = repeated (AllPairs-from_IsDistinct bytes_eq-Decides names d)

pub none-named : (names : List (List ℕ)) (n : ℕ) → IsDistinct bytes_eq names → n ≡ length names → IsTrue (nat_eq n 0) ↔ ((length names ≡ 0) ⊎ (IsRepeated names ⊎ ⊥))
none-named names n d e = (λ b. inl (sym e ∙ zero_test n b), to)
  where
    to : (length names ≡ 0) ⊎ (IsRepeated names ⊎ ⊥) → IsTrue (nat_eq n 0)
    to (inl h) = is_zero n (e ∙ h)
    to (inr (inl h)) = absurd (not_repeated names d h)
    to (inr (inr h)) = absurd h

pub many-flags : (names : List (List ℕ)) (n : ℕ) → IsDistinct bytes_eq names → n ≡ length names → (n ≡ 0 → ⊥) → IsTrue (nat_lt 32 n) ↔ IsBadKind k_flags names
many-flags names n d e some = (λ b. inr (inr (omega (arith, e, above-test 32 n b))), to)
  where
    to : IsBadKind k_flags names → IsTrue (nat_lt 32 n)
    to (inl h) = absurd (some (e ∙ h))
    to (inr (inl h)) = absurd (not_repeated names d h)
    to (inr (inr h)) = is-above 32 n (omega (arith, e, h))

pub no-places : (t : Tables) (i : Id TypeTuples) (e : TypeTuple) (n : ℕ) → slice_get t.tuples i.number ≡ Some e → n ≡ length e.types → IsTrue (nat_eq n 0) ↔ IsBadNode (node_of t (t_tuple i))
no-places t i e n there k = by-node (IsTrue (nat_eq n 0)) _ (tuple_node e) _ (ap (option_map tuple_node) there) refl (λ b. inl (place_count 0 e.types ∙ sym k ∙ zero_test n b), to)
  where
    to : IsBadKind k_tuple (map (λ (m : Member). m.0) (placed 0 e.types)) → IsTrue (nat_eq n 0)
    to (inl h) = is_zero n (k ∙ sym (place_count 0 e.types) ∙ h)
    to (inr (inl h)) = absurd h
    to (inr (inr h)) = absurd h

pub long-tuple : (t : Tables) (i : Id TypeTuples) (e : TypeTuple) (n : ℕ) → slice_get t.tuples i.number ≡ Some e → n ≡ length e.types → IsTrue (nat_lt 268435456 n) ↔ IsLongType t (t_tuple i)
long-tuple t i e n there k = (λ b. inr (subst IsLongNode (sym node) (inl (omega (arith, member_count 0 e.types, k, above-test 268435456 n b)))), to)
  where
    node : node_of t (t_tuple i) ≡ Some (tuple_node e)
    node = ap (option_map tuple_node) there

    long : (most_entries < length (placed 0 e.types)) ⊎ ⊥ → IsTrue (nat_lt 268435456 n)
    long (inl h) = is-above 268435456 n (omega (arith, member_count 0 e.types, k, h))
    long (inr h) = absurd h

    to : ⊥ ⊎ IsLongNode (node_of t (t_tuple i)) → IsTrue (nat_lt 268435456 n)
    to (inl h) = absurd h
    to (inr h) = long (subst IsLongNode node h)
