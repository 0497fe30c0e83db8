-- Types that stand for one shape are one. By induction on the shape they have the same members, and so the same entry, since
-- layouts and parts are those of the members; and no entry stands at two places of its table.
use Rattle.std.proofs.Common.{◌≡◌, ◌<◌, ℕ, suc, List, [], ◌∷◌, map, Option, Some, None, Bool, true, refl, sym, ◌∙◌, ap, arith, inl, inr, true≢false}
use Rattle.std.specs.List.{IsDistinct}
use Rattle.std.specs.Prelude.{option_map, slice_get, unwrap_or}
use Rattle.std.proofs.lemmas.Bool.{cases_lt}
use Rattle.std.proofs.lemmas.Map.Keys.{apart_from_distinct}
use Rattle.std.proofs.lemmas.Option.{get_or_from_slice_get, slice_get_within}
use Rattle.fact_types.specs.declared.interface.InterfaceType.{InterfaceType}
use Rattle.fact_types.specs.declared.interface.InterfaceType.TheVariants.{Bool as t_bool, Record as t_record, Variant as t_variant, List as t_list, Tuple as t_tuple, Map as t_map, Flags as t_flags, Enum as t_enum, Option as t_option, Result as t_result, Future as t_future, Stream as t_stream, FixedLengthList as t_fixed_length_list}
use Rattle.fact_types.specs.declared.kinds.RecordField.{RecordField}
use Rattle.fact_types.specs.declared.kinds.TypeMap.{TypeMap}
use Rattle.fact_types.specs.declared.variants.VariantInfo.{VariantInfo}
use Rattle.fact_types.specs.Layout.{variant_info, zero_layout}
use Rattle.fact_types.specs.Shapes.{Kind, k_record, k_variant, k_list, k_tuple, k_map, k_flags, k_enum, k_option, k_result, k_fixed, k_future, k_stream, Shape, s_plain, s_node, Members, no_members, bare, typed, layout_by, Parts, case_parts, entry_parts, parts_by}
use Rattle.fact_types.specs.Tables.{Tables, Node, node_of, record_node, variant_node, placed, tuple_node, flags_node, enum_node, option_node, result_node, list_node, map_node, fixed_length_list_node, payload_in, future_node, stream_node, abi_at, HasShape, HasMembers, Stands, IsSound}
use Rattle.fact_builder.specs.Kinds.{type_at}

-- ---- no entry stands at two places of its table
abbrev pub IsOnce : {X : Type 0} → List X → Type 0
IsOnce {X} xs = (i j : ℕ) (x : X) → slice_get xs i ≡ Some x → slice_get xs j ≡ Some x → i ≡ j

pub record HoldsOnce (t : Tables) : Type 0 where
  pub records : IsOnce t.records
  pub variants : IsOnce t.variants
  pub tuples : IsOnce t.tuples
  pub flags : IsOnce t.flags
  pub enums : IsOnce t.enums
  pub options : IsOnce t.options
  pub results : IsOnce t.results
  pub lists : IsOnce t.lists
  pub maps : IsOnce t.maps
  pub fixed_length_lists : IsOnce t.fixed_length_lists

apart : {X : Type 0} (eq : X → X → Bool) → ((x : X) → eq x x ≡ true) → (xs : List X) → IsDistinct eq xs → (i j : ℕ) (x : X) → slice_get xs i ≡ Some x → slice_get xs j ≡ Some x → i < j → ⊥
apart eq same xs d i j x p q l =
    true≢false (sym (same x) ∙ sym (λ k. eq (get_or_from_slice_get xs i x x p k) (get_or_from_slice_get xs j x x q k)) ∙ apart_from_distinct eq xs i j x d l (slice_get_within xs j x q))

pub once : {X : Type 0} (eq : X → X → Bool) → ((x : X) → eq x x ≡ true) → (xs : List X) → IsDistinct eq xs → IsOnce xs
once eq same xs d i j x p q = elim (cases_lt i j) [
  | inl l ↦ absurd (apart eq same xs d i j x p q l)
  | inr m ↦ elim (cases_lt j i) [
    | inl l ↦ absurd (apart eq same xs d j i x q p l)
    | inr n ↦ omega (arith, m, n)
  ]
]

-- ---- the entry of a node
some_tells : {X : Type 0} (x y : X) → Some x ≡ Some y → x ≡ y
some_tells x y h = cc

-- what all nodes of a table tell
told : {X Y : Type 0} (f : X → Node) (g : Node → Y) (y : Y) → ((x : X) → y ≡ g (f x)) → (o : Option X) (n : Node) → option_map f o ≡ Some n → y ≡ g n
told f g y all None n h = cc
told f g y all (Some x) n h = all x ∙ ap g (some_tells (f x) n h)

pub entry_in : {X : Type 0} (f : X → Node) (o : Option X) (n : Node) → option_map f o ≡ Some n → (x : X) × (o ≡ Some x) × (f x ≡ n)
entry_in f None n h = cc
entry_in f (Some x) n h = (x, refl, some_tells (f x) n h)

-- no two entries have one node
abbrev pub IsTold : {X : Type 0} → (X → Node) → Type 0
IsTold {X} f = (x y : X) → f x ≡ f y → x ≡ y

told_by : {X : Type 0} (f : X → Node) (g : Node → X) → ((x : X) → x ≡ g (f x)) → IsTold f
told_by f g all x y h = all x ∙ ap g h ∙ sym (all y)

-- so two places of one node are one
one_place : {X : Type 0} (f : X → Node) → IsTold f → (xs : List X) → IsOnce xs → (i j : ℕ) (n : Node) → option_map f (slice_get xs i) ≡ Some n → option_map f (slice_get xs j) ≡ Some n → i ≡ j
one_place f tells xs is_once i j n h l =
    let (x, p, e) = entry_in f (slice_get xs i) n h in
    let (y, q, g) = entry_in f (slice_get xs j) n l in
    is_once i j x p (q ∙ ap Some (tells y x (g ∙ sym e)))

-- ---- what an entry's members, kind and parts tell
abbrev Member : Type 0
Member = List ℕ × Option InterfaceType

abbrev type_of : Member → InterfaceType
type_of m = unwrap_or m.1 t_bool

abbrev name_of : Member → List ℕ
name_of m = m.0

abbrev field_of : Member → RecordField
field_of m = record { name = m.0; ty = type_of m }

abbrev member_type : ℕ → Node → Option InterfaceType
member_type k n = payload_in (λ (m : Member). m.1) (slice_get n.members k)

abbrev member : ℕ → Node → InterfaceType
member k n = unwrap_or (member_type k n) t_bool

abbrev number_in : Kind → ℕ
number_in (k_fixed size) = size
number_in (k_future table instance) = table
number_in (k_stream table instance) = table
number_in k = 0

abbrev info_in : Parts → VariantInfo
info_in (case_parts info) = info
info_in p = variant_info []

abbrev map_by : InterfaceType → InterfaceType → Parts → TypeMap
map_by k v (entry_parts abi place32 place64) = record { key = k; value = v; entry_abi = abi; value_offset32 = place32; value_offset64 = place64 }
map_by k v p = record { key = k; value = v; entry_abi = zero_layout; value_offset32 = 0; value_offset64 = 0 }

fields_told : (fs : List RecordField) → fs ≡ map field_of (map (λ f. (f.name, Some f.ty)) fs)
fields_told [] = refl
fields_told (f ∷ fs) = λ i. f ∷ fields_told fs i

types_told : (n : ℕ) (ts : List InterfaceType) → ts ≡ map type_of (placed n ts)
types_told n [] = refl
types_told n (t ∷ ts) = λ i. t ∷ types_told (suc n) ts i

names_told : (ns : List (List ℕ)) → ns ≡ map name_of (map (λ n. (n, None)) ns)
names_told [] = refl
names_told (n ∷ ns) = λ i. n ∷ names_told ns i

-- ---- so it tells its entry
pub record_told : IsTold record_node
record_told = told_by record_node (λ n. record { fields = map field_of n.members; abi = n.abi }) (λ x i. record { fields = fields_told x.fields i; abi = x.abi })

pub variant_told : IsTold variant_node
variant_told = told_by variant_node (λ n. record { cases = n.members; abi = n.abi; info = info_in n.parts }) (λ x. refl)

pub list_told : IsTold list_node
list_told = told_by list_node (λ n. record { element = member 0 n }) (λ x. refl)

pub tuple_told : IsTold tuple_node
tuple_told = told_by tuple_node (λ n. record { types = map type_of n.members; abi = n.abi }) (λ x i. record { types = types_told 0 x.types i; abi = x.abi })

pub map_told : IsTold map_node
map_told = told_by map_node (λ n. map_by (member 0 n) (member 1 n) n.parts) (λ x. refl)

pub flags_told : IsTold flags_node
flags_told = told_by flags_node (λ n. record { names = map name_of n.members; abi = n.abi }) (λ x i. record { names = names_told x.names i; abi = x.abi })

pub enum_told : IsTold enum_node
enum_told = told_by enum_node (λ n. record { names = map name_of n.members; abi = n.abi; info = info_in n.parts }) (λ x i. record { names = names_told x.names i; abi = x.abi; info = x.info })

pub option_told : IsTold option_node
option_told = told_by option_node (λ n. record { ty = member 1 n; abi = n.abi; info = info_in n.parts }) (λ x. refl)

pub result_told : IsTold result_node
result_told = told_by result_node (λ n. record { ok = member_type 0 n; err = member_type 1 n; abi = n.abi; info = info_in n.parts }) (λ x. refl)

pub fixed_length_list_told : IsTold fixed_length_list_node
fixed_length_list_told = told_by fixed_length_list_node (λ n. record { element = member 0 n; size = number_in n.kind; abi = n.abi }) (λ x. refl)

-- ---- and the type that names it
pub is_named : (t : Tables) (ty : InterfaceType) (n : Node) → node_of t ty ≡ Some n → (i : ℕ) × (ty ≡ type_at n.kind i)
is_named t (t_record i) n h = (i.number, told record_node (λ n. type_at n.kind i.number) (t_record i) (λ x. refl) (slice_get t.records i.number) n h)
is_named t (t_variant i) n h = (i.number, told variant_node (λ n. type_at n.kind i.number) (t_variant i) (λ x. refl) (slice_get t.variants i.number) n h)
is_named t (t_list i) n h = (i.number, told list_node (λ n. type_at n.kind i.number) (t_list i) (λ x. refl) (slice_get t.lists i.number) n h)
is_named t (t_tuple i) n h = (i.number, told tuple_node (λ n. type_at n.kind i.number) (t_tuple i) (λ x. refl) (slice_get t.tuples i.number) n h)
is_named t (t_map i) n h = (i.number, told map_node (λ n. type_at n.kind i.number) (t_map i) (λ x. refl) (slice_get t.maps i.number) n h)
is_named t (t_flags i) n h = (i.number, told flags_node (λ n. type_at n.kind i.number) (t_flags i) (λ x. refl) (slice_get t.flags i.number) n h)
is_named t (t_enum i) n h = (i.number, told enum_node (λ n. type_at n.kind i.number) (t_enum i) (λ x. refl) (slice_get t.enums i.number) n h)
is_named t (t_option i) n h = (i.number, told option_node (λ n. type_at n.kind i.number) (t_option i) (λ x. refl) (slice_get t.options i.number) n h)
is_named t (t_result i) n h = (i.number, told result_node (λ n. type_at n.kind i.number) (t_result i) (λ x. refl) (slice_get t.results i.number) n h)
is_named t (t_future i) n h = (i.number, told (future_node t.futures i.number) (λ n. type_at n.kind i.number) (t_future i) (λ x. refl) (slice_get t.future_tables i.number) n h)
is_named t (t_stream i) n h = (i.number, told (stream_node t.streams i.number) (λ n. type_at n.kind i.number) (t_stream i) (λ x. refl) (slice_get t.stream_tables i.number) n h)
is_named t (t_fixed_length_list i) n h = (i.number, told fixed_length_list_node (λ n. type_at n.kind i.number) (t_fixed_length_list i) (λ x. refl) (slice_get t.fixed_length_lists i.number) n h)
is_named t ty n h = cc

one_number : (t : Tables) → HoldsOnce t → (k : Kind) (i j : ℕ) (n : Node) → node_of t (type_at k i) ≡ Some n → node_of t (type_at k j) ≡ Some n → i ≡ j
one_number t d k_record i j n h l = one_place record_node record_told t.records d.records i j n h l
one_number t d k_variant i j n h l = one_place variant_node variant_told t.variants d.variants i j n h l
one_number t d k_list i j n h l = one_place list_node list_told t.lists d.lists i j n h l
one_number t d k_tuple i j n h l = one_place tuple_node tuple_told t.tuples d.tuples i j n h l
one_number t d k_map i j n h l = one_place map_node map_told t.maps d.maps i j n h l
one_number t d k_flags i j n h l = one_place flags_node flags_told t.flags d.flags i j n h l
one_number t d k_enum i j n h l = one_place enum_node enum_told t.enums d.enums i j n h l
one_number t d k_option i j n h l = one_place option_node option_told t.options d.options i j n h l
one_number t d k_result i j n h l = one_place result_node result_told t.results d.results i j n h l
one_number t d (k_fixed size) i j n h l = one_place fixed_length_list_node fixed_length_list_told t.fixed_length_lists d.fixed_length_lists i j n h l
one_number t d (k_future table instance) i j n h l =
    told (future_node t.futures i) (λ n. number_in n.kind) i (λ x. refl) (slice_get t.future_tables i) n h
    ∙ sym (told (future_node t.futures j) (λ n. number_in n.kind) j (λ x. refl) (slice_get t.future_tables j) n l)
one_number t d (k_stream table instance) i j n h l =
    told (stream_node t.streams i) (λ n. number_in n.kind) i (λ x. refl) (slice_get t.stream_tables i) n h
    ∙ sym (told (stream_node t.streams j) (λ n. number_in n.kind) j (λ x. refl) (slice_get t.stream_tables j) n l)

one_type : (t : Tables) → HoldsOnce t → (a b : InterfaceType) (n : Node) → node_of t a ≡ Some n → node_of t b ≡ Some n → a ≡ b
one_type t d a b n h l =
    let (i, e) = is_named t a n h in
    let (j, f) = is_named t b n l in
    e ∙ ap (type_at n.kind) (one_number t d n.kind i j n (sym (ap (node_of t) e) ∙ h) (sym (ap (node_of t) f) ∙ l)) ∙ sym f

-- ---- one kind and one list of members make one node
pub one_node : (t : Tables) (n m : Node) → Stands t n → Stands t m → n.kind ≡ m.kind → n.members ≡ m.members → n ≡ m
one_node t n m s z k e =
    let abi = s.laid ∙ (λ i. layout_by (k i) (map (λ (x : Member). option_map (abi_at t) x.1) (e i))) ∙ sym z.laid in
    let parts = s.parts ∙ (λ i. parts_by (k i) (map (λ (x : Member). option_map (abi_at t) x.1) (e i))) ∙ sym z.parts in
    λ i. record { kind = k i; members = e i; abi = abi i; parts = parts i }

one_list : (x y : Member) (xs ys : List Member) → x.0 ≡ y.0 → x.1 ≡ y.1 → xs ≡ ys → x ∷ xs ≡ y ∷ ys
one_list x y xs ys name ty others = λ i. (name i, ty i) ∷ others i

mutual
  pub one_index : (t : Tables) → IsSound t → HoldsOnce t → (s : Shape) (a b : InterfaceType) → HasShape t a s → HasShape t b s → a ≡ b
  one_index t k d (s_plain p) a b g h = g.0 ∙ sym h.0
  one_index t k d (s_node c ms) a b g h =
      let e = one_node t g.0 h.0 (k.stands a g.0 g.1) (k.stands b h.0 h.1) (g.2 ∙ sym h.2) (same_members t k d ms g.0.members h.0.members g.3 h.3) in
      one_type t d a b h.0 (g.1 ∙ ap Some e) h.1

  same_members : (t : Tables) → IsSound t → HoldsOnce t → (ms : Members) (xs ys : List Member) → HasMembers t xs ms → HasMembers t ys ms → xs ≡ ys
  same_members t k d no_members [] [] g h = refl
  same_members t k d no_members [] (y ∷ ys) g h = absurd h
  same_members t k d no_members (x ∷ xs) ys g h = absurd g
  same_members t k d (bare n ms) [] ys g h = absurd g
  same_members t k d (bare n ms) (x ∷ xs) [] g h = absurd h
  same_members t k d (bare n ms) (x ∷ xs) (y ∷ ys) g h = one_list x y xs ys (g.0 ∙ sym h.0) (g.1 ∙ sym h.1) (same_members t k d ms xs ys g.2 h.2)
  same_members t k d (typed n s ms) [] ys g h = absurd g
  same_members t k d (typed n s ms) (x ∷ xs) [] g h = absurd h
  same_members t k d (typed n s ms) (x ∷ xs) (y ∷ ys) g h =
      let ty = g.1.1 ∙ ap Some (one_index t k d s g.1.0 h.1.0 g.1.2 h.1.2) ∙ sym h.1.1 in
      one_list x y xs ys (g.0 ∙ sym h.0) ty (same_members t k d ms xs ys g.2 h.2)
