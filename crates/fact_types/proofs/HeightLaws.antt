-- The height of a live type is the depth of its shape, and members are live and lower.
use Rattle.std.proofs.Common.{◌≡◌, ◌<◌, ◌≤◌, ◌+◌, ℕ, zero, suc, List, [], ◌∷◌, length, max, Option, Some, None, refl, sym, ◌∙◌, ap, subst, arith}
use Rattle.std.specs.Prelude.{slice_get, option_map}
use Rattle.std.proofs.lemmas.Option.{slice_get-get_or, slice_get_within, slice_get-map}
use Rattle.fact_entity.specs.declared.id.Id.{Id}
use Rattle.fact_entity.specs.declared.table.TypeRecords.{TypeRecords}
use Rattle.fact_entity.specs.declared.table.TypeVariants.{TypeVariants}
use Rattle.fact_entity.specs.declared.table.TypeTuples.{TypeTuples}
use Rattle.fact_entity.specs.declared.table.TypeOptions.{TypeOptions}
use Rattle.fact_entity.specs.declared.table.TypeResults.{TypeResults}
use Rattle.fact_entity.specs.declared.table.TypeLists.{TypeLists}
use Rattle.fact_entity.specs.declared.table.TypeMaps.{TypeMaps}
use Rattle.fact_entity.specs.declared.table.TypeFixedLengthLists.{TypeFixedLengthLists}
use Rattle.fact_entity.specs.declared.table.TypeFutureTables.{TypeFutureTables}
use Rattle.fact_entity.specs.declared.table.TypeStreamTables.{TypeStreamTables}
use Rattle.fact_types.specs.declared.interface.InterfaceType.{InterfaceType}
use Rattle.fact_types.specs.declared.interface.InterfaceType.TheVariants.{Record as t_record, Variant as t_variant, List as t_list, Tuple as t_tuple, Map as t_map, Option as t_option, Result as t_result, Future as t_future, Stream as t_stream, FixedLengthList as t_fixed_length_list}
use Rattle.fact_types.specs.declared.kinds.RecordField.{RecordField}
use Rattle.fact_types.specs.declared.kinds.TypeRecord.{TypeRecord}
use Rattle.fact_types.specs.declared.kinds.TypeTuple.{TypeTuple}
use Rattle.fact_types.specs.declared.kinds.TypeOption.{TypeOption}
use Rattle.fact_types.specs.declared.kinds.TypeResult.{TypeResult}
use Rattle.fact_types.specs.declared.kinds.TypeFuture.{TypeFuture}
use Rattle.fact_types.specs.declared.kinds.TypeFutureTable.{TypeFutureTable}
use Rattle.fact_types.specs.declared.kinds.TypeStream.{TypeStream}
use Rattle.fact_types.specs.declared.kinds.TypeStreamTable.{TypeStreamTable}
use Rattle.fact_types.specs.declared.kinds.TypeList.{TypeList}
use Rattle.fact_types.specs.declared.kinds.TypeMap.{TypeMap}
use Rattle.fact_types.specs.declared.kinds.TypeFixedLengthList.{TypeFixedLengthList}
use Rattle.fact_types.specs.Ordered.{VariantType}
use Rattle.fact_types.specs.Shapes.{ok_name, error_name, Shape, s_plain, s_node, Members, no_members, bare, typed, depth, deepest}
use Rattle.fact_types.specs.Tables.{Tables, Node, node_of, record_node, variant_node, placed, tuple_node, option_node, result_node, list_node, map_node, fixed_length_list_node, IsLive, IsLiveMember, HasShape, HasMembers, payload_in, future_node, stream_node, IsSound, entries}
use Rattle.fact_types.specs.Heights.{tallest, over_members, height_in, height, IsMemberOf}
use Rattle.fact_types.proofs.ShapeLaws.{no_node, same_some, none_some}

left_le : (a b c : ℕ) → max a b ≤ c → a ≤ c
left_le a b c h = grind (arith, h)

right_le : (a b c : ℕ) → max a b ≤ c → b ≤ c
right_le a b c h = grind (arith, h)

mutual
  pub height_is : (t : Tables) (s : Shape) (ty : InterfaceType) (n : ℕ) → HasShape t ty s → depth s ≤ n → height_in n t ty ≡ depth s
  height_is t (s_plain p) ty zero h b = refl
  height_is t (s_plain p) ty (suc n) h b = ap (over_members (height_in n t)) (ap (node_of t) h.0 ∙ no_node t p h.1)
  height_is t (s_node k ms) ty zero h b = absurd (omega (arith, b))
  height_is t (s_node k ms) ty (suc n) h b = ap (over_members (height_in n t)) h.1 ∙ ap (λ x. 1 + x) (tallest_is t ms h.0.members n h.3 (omega (arith, b)))

  tallest_is : (t : Tables) (ms : Members) (xs : List (List ℕ × Option InterfaceType)) (n : ℕ) → HasMembers t xs ms → deepest ms ≤ n → tallest (height_in n t) xs ≡ deepest ms
  tallest_is t no_members [] n h b = refl
  tallest_is t no_members (x ∷ xs) n h b = absurd h
  tallest_is t (bare m ms) [] n h b = absurd h
  tallest_is t (bare m ms) ((y, None) ∷ xs) n h b = tallest_is t ms xs n h.2 b
  tallest_is t (bare m ms) ((y, Some ty) ∷ xs) n h b = absurd (none_some _ ty h.1 refl)
  tallest_is t (typed m s ms) [] n h b = absurd h
  tallest_is t (typed m s ms) ((y, None) ∷ xs) n h b = absurd (none_some _ h.1.0 refl h.1.1)
  tallest_is t (typed m s ms) ((y, Some ty) ∷ xs) n h b =
      let e : ty ≡ h.1.0 = same_some (Some ty) ty h.1.0 refl h.1.1 in
      let one = height_is t s ty n (subst (λ ty. HasShape t ty s) (sym e) h.1.2) (left_le (depth s) (deepest ms) n b) in
      let others = tallest_is t ms xs n h.2 (right_le (depth s) (deepest ms) n b) in
      λ i. max (one i) (others i)

-- a member with a type has a shape that lies within
pub member_shape : (t : Tables) (ms : Members) (xs : List (List ℕ × Option InterfaceType)) → HasMembers t xs ms → (i : ℕ) (x : List ℕ) (ty : InterfaceType) → slice_get xs i ≡ Some (x, Some ty) → (s : Shape) × HasShape t ty s × (depth s ≤ deepest ms)
member_shape t no_members [] h i x ty e = absurd (none_some None _ refl e)
member_shape t no_members (y ∷ xs) h i x ty e = absurd h
member_shape t (bare m ms) [] h i x ty e = absurd h
member_shape t (bare m ms) (y ∷ xs) h zero x ty e = absurd (none_some y.1 ty h.1 (ap (λ z. z.1) (same_some (Some y) y (x, Some ty) refl e)))
member_shape t (bare m ms) (y ∷ xs) h (suc i) x ty e = member_shape t ms xs h.2 i x ty e
member_shape t (typed m s ms) [] h i x ty e = absurd h
member_shape t (typed m s ms) (y ∷ xs) h zero x ty e =
    let is : h.1.0 ≡ ty = same_some y.1 h.1.0 ty h.1.1 (ap (λ z. z.1) (same_some (Some y) y (x, Some ty) refl e)) in
    (s, subst (λ ty. HasShape t ty s) is h.1.2, max_left (depth s) (deepest ms))
  where
    max_left : (a b : ℕ) → a ≤ max a b
    max_left a b = grind arith
member_shape t (typed m s ms) (y ∷ xs) h (suc i) x ty e =
    let (z, k, b) = member_shape t ms xs h.2 i x ty e in
    (z, k, right (depth s) (deepest ms) (depth z) b)
  where
    right : (a b c : ℕ) → c ≤ b → c ≤ max a b
    right a b c h = grind (arith, h)

-- a member is lower
pub member_lower : (t : Tables) → IsSound t → (ty : InterfaceType) (n : Node) → IsLive t ty → node_of t ty ≡ Some n → (i : ℕ) (x : List ℕ) (m : InterfaceType) → slice_get n.members i ≡ Some (x, Some m) → height t m < height t ty
unfolding height
member_lower t k ty n l e i x m g = go (k.shaped ty l)
  where
    go : ((s : Shape) × HasShape t ty s × (depth s ≤ entries t)) → height_in (entries t) t m < height_in (entries t) t ty
    go (s_plain p, h, b) = absurd (none_some (node_of t ty) n (ap (node_of t) h.0 ∙ no_node t p h.1) e)
    go (s_node kd ms, h, b) =
        let same : h.0 ≡ n = same_some (node_of t ty) h.0 n h.1 e in
        let (s, hs, d) = member_shape t ms n.members (subst (λ (n : Node). HasMembers t n.members ms) same h.3) i x m g in
        let low = height_is t s m (entries t) hs (omega (arith, d, b)) in
        let high = height_is t (s_node kd ms) ty (entries t) h b in
        omega (arith, low, high, d)

-- and live
pub member_live : (t : Tables) → IsSound t → (ty : InterfaceType) (n : Node) → node_of t ty ≡ Some n → (i : ℕ) (x : List ℕ) (m : InterfaceType) → i < length n.members → slice_get n.members i ≡ Some (x, Some m) → IsLive t m
member_live t k ty n e i x m lt g = subst (λ o. IsLiveMember t o) (ap (λ z. z.1) (same_some (slice_get n.members i) _ _ (slice_get-get_or n.members i (x, Some m) lt) g)) ((k.stands ty n e).live i (x, Some m) lt)

pub member_within : (t : Tables) → IsSound t → (ty : InterfaceType) (n : Node) → IsLive t ty → node_of t ty ≡ Some n → (i : ℕ) (x : List ℕ) (m : InterfaceType) → slice_get n.members i ≡ Some (x, Some m) → IsMemberOf t m ty
member_within t k ty n l e i x m g = record { lower = member_lower t k ty n l e i x m g; live = member_live t k ty n e i x m (slice_get_within n.members i (x, Some m) g) g }

-- ---- the members of each kind
pub list_within : (t : Tables) → IsSound t → (i : Id TypeLists) (e : TypeList) → slice_get t.lists i.number ≡ Some e → IsMemberOf t e.element (t_list i)
list_within t k i e h = member_within t k (t_list i) (list_node e) (slice_get_within t.lists i.number e h) (ap (option_map list_node) h) 0 _ e.element refl

pub fixed_length_list_within : (t : Tables) → IsSound t → (i : Id TypeFixedLengthLists) (e : TypeFixedLengthList) → slice_get t.fixed_length_lists i.number ≡ Some e → IsMemberOf t e.element (t_fixed_length_list i)
fixed_length_list_within t k i e h = member_within t k (t_fixed_length_list i) (fixed_length_list_node e) (slice_get_within t.fixed_length_lists i.number e h) (ap (option_map fixed_length_list_node) h) 0 _ e.element refl

pub option_within : (t : Tables) → IsSound t → (i : Id TypeOptions) (e : TypeOption) → slice_get t.options i.number ≡ Some e → IsMemberOf t e.ty (t_option i)
option_within t k i e h = member_within t k (t_option i) (option_node e) (slice_get_within t.options i.number e h) (ap (option_map option_node) h) 1 _ e.ty refl

pub map_key_within : (t : Tables) → IsSound t → (i : Id TypeMaps) (e : TypeMap) → slice_get t.maps i.number ≡ Some e → IsMemberOf t e.key (t_map i)
map_key_within t k i e h = member_within t k (t_map i) (map_node e) (slice_get_within t.maps i.number e h) (ap (option_map map_node) h) 0 _ e.key refl

pub map_value_within : (t : Tables) → IsSound t → (i : Id TypeMaps) (e : TypeMap) → slice_get t.maps i.number ≡ Some e → IsMemberOf t e.value (t_map i)
map_value_within t k i e h = member_within t k (t_map i) (map_node e) (slice_get_within t.maps i.number e h) (ap (option_map map_node) h) 1 _ e.value refl

pub ok_within : (t : Tables) → IsSound t → (i : Id TypeResults) (e : TypeResult) (m : InterfaceType) → slice_get t.results i.number ≡ Some e → e.ok ≡ Some m → IsMemberOf t m (t_result i)
ok_within t k i e m h g = member_within t k (t_result i) (result_node e) (slice_get_within t.results i.number e h) (ap (option_map result_node) h) 0 _ m (ap (λ (o : Option InterfaceType). Some (ok_name, o)) g)

pub error_within : (t : Tables) → IsSound t → (i : Id TypeResults) (e : TypeResult) (m : InterfaceType) → slice_get t.results i.number ≡ Some e → e.err ≡ Some m → IsMemberOf t m (t_result i)
error_within t k i e m h g = member_within t k (t_result i) (result_node e) (slice_get_within t.results i.number e h) (ap (option_map result_node) h) 1 _ m (ap (λ (o : Option InterfaceType). Some (error_name, o)) g)

pub record_within : (t : Tables) → IsSound t → (i : Id TypeRecords) (e : TypeRecord) → slice_get t.records i.number ≡ Some e → (j : ℕ) (f : RecordField) → slice_get e.fields j ≡ Some f → IsMemberOf t f.ty (t_record i)
record_within t k i e h j f g = member_within t k (t_record i) (record_node e) (slice_get_within t.records i.number e h) (ap (option_map record_node) h) j f.name f.ty
    (slice_get-map (λ (f : RecordField). (f.name, Some f.ty)) e.fields j ∙ ap (option_map (λ (f : RecordField). (f.name, Some f.ty))) g)

pub variant_within : (t : Tables) → IsSound t → (i : Id TypeVariants) (e : VariantType) → slice_get t.variants i.number ≡ Some e → (j : ℕ) (x : List ℕ) (m : InterfaceType) → slice_get e.cases j ≡ Some (x, Some m) → IsMemberOf t m (t_variant i)
variant_within t k i e h j x m g = member_within t k (t_variant i) (variant_node e) (slice_get_within t.variants i.number e h) (ap (option_map variant_node) h) j x m g

get_placed : (ys : List InterfaceType) (n j : ℕ) (m : InterfaceType) → slice_get ys j ≡ Some m → (x : List ℕ) × (slice_get (placed n ys) j ≡ Some (x, Some m))
get_placed [] n j m g = absurd (none_some None m refl g)
get_placed (y ∷ ys) n zero m g = (n ∷ [], ap (λ (o : Option InterfaceType). option_map (λ (z : InterfaceType). (n ∷ [], Some z)) o) g)
get_placed (y ∷ ys) n (suc j) m g = get_placed ys (suc n) j m g

pub tuple_within : (t : Tables) → IsSound t → (i : Id TypeTuples) (e : TypeTuple) → slice_get t.tuples i.number ≡ Some e → (j : ℕ) (m : InterfaceType) → slice_get e.types j ≡ Some m → IsMemberOf t m (t_tuple i)
tuple_within t k i e h j m g =
    let (x, found) = get_placed e.types 0 j m g in
    member_within t k (t_tuple i) (tuple_node e) (slice_get_within t.tuples i.number e h) (ap (option_map tuple_node) h) j x m found

-- ---- the payloads of futures and of streams
pub future_within : (t : Tables) → IsSound t → (i : Id TypeFutureTables) (e : TypeFutureTable) (f : TypeFuture) (m : InterfaceType)
    → slice_get t.future_tables i.number ≡ Some e → slice_get t.futures e.ty.number ≡ Some f → f.payload ≡ Some m → IsMemberOf t m (t_future i)
future_within t k i e f m h g p = member_within t k (t_future i) (future_node t.futures i.number e) (slice_get_within t.future_tables i.number e h) (ap (option_map (future_node t.futures i.number)) h) 0 [] m
    (ap (λ (o : Option TypeFuture). Some ([], payload_in (λ (f : TypeFuture). f.payload) o)) g ∙ ap (λ (o : Option InterfaceType). Some ([], o)) p)

pub stream_within : (t : Tables) → IsSound t → (i : Id TypeStreamTables) (e : TypeStreamTable) (f : TypeStream) (m : InterfaceType)
    → slice_get t.stream_tables i.number ≡ Some e → slice_get t.streams e.ty.number ≡ Some f → f.payload ≡ Some m → IsMemberOf t m (t_stream i)
stream_within t k i e f m h g p = member_within t k (t_stream i) (stream_node t.streams i.number e) (slice_get_within t.stream_tables i.number e h) (ap (option_map (stream_node t.streams i.number)) h) 0 [] m
    (ap (λ (o : Option TypeStream). Some ([], payload_in (λ (f : TypeStream). f.payload) o)) g ∙ ap (λ (o : Option InterfaceType). Some ([], o)) p)
