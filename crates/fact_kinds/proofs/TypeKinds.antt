-- The kinds of the shapes that types stand for.
use Rattle.std.proofs.Common.{◌≡◌, ℕ, suc, true, false, List, [], ◌∷◌, length, map, Option, Some, None, refl, sym, ap, ◌∙◌, subst}
use Rattle.std.specs.Prelude.{option_map, slice_get}
use Rattle.fact_entity.specs.declared.id.Id.{Id}
use Rattle.fact_entity.specs.declared.table.TypeRecords.{TypeRecords}
use Rattle.fact_entity.specs.declared.table.TypeTuples.{TypeTuples}
use Rattle.fact_entity.specs.declared.table.TypeLists.{TypeLists}
use Rattle.fact_entity.specs.declared.table.TypeMaps.{TypeMaps}
use Rattle.fact_entity.specs.declared.table.TypeFixedLengthLists.{TypeFixedLengthLists}
use Rattle.fact_entity.specs.declared.table.TypeFlags.{TypeFlags as FlagsTable}
use Rattle.fact_entity.specs.declared.table.TypeEnums.{TypeEnums}
use Rattle.fact_entity.specs.declared.table.TypeOptions.{TypeOptions}
use Rattle.fact_entity.specs.declared.table.TypeResults.{TypeResults}
use Rattle.fact_entity.specs.declared.table.TypeVariants.{TypeVariants}
use Rattle.fact_entity.specs.declared.table.TypeFutureTables.{TypeFutureTables}
use Rattle.fact_entity.specs.declared.table.TypeStreamTables.{TypeStreamTables}
use Rattle.fact_types.specs.declared.interface.InterfaceType.{InterfaceType}
use Rattle.fact_types.specs.declared.interface.InterfaceType.TheVariants as ty
use Rattle.fact_types.specs.declared.kinds.TypeFixedLengthList.{TypeFixedLengthList}
use Rattle.fact_types.specs.declared.kinds.TypeList.{TypeList}
use Rattle.fact_types.specs.declared.kinds.TypeMap.{TypeMap}
use Rattle.fact_types.specs.declared.kinds.TypeTuple.{TypeTuple}
use Rattle.fact_types.specs.Ordered.{FlagsType, EnumType}
use Rattle.fact_types.specs.Agrees.{names_of}
use Rattle.fact_types.specs.Shapes.{Kind, k_record, k_variant, k_list, k_tuple, k_map, k_flags, k_enum, k_option, k_result, k_fixed, k_future, k_stream, Shape, s_plain, s_node, Members, no_members, bare, typed}
use Rattle.fact_types.specs.Tables.{Tables, Node, node_of, record_node, variant_node, list_node, tuple_node, map_node, flags_node, enum_node, option_node, result_node, future_node, stream_node, fixed_length_list_node, placed, is_plain, HasShape, HasMembers}
use Rattle.fact_types.proofs.ShapeLaws.{same_some, none_some}
use Rattle.fact_values.specs.Places.{count_of_members}

-- the kind of the shapes of a type with members
abbrev KindIs : InterfaceType → Kind → Type 0
KindIs (ty.Record i) k = k ≡ k_record
KindIs (ty.Variant i) k = k ≡ k_variant
KindIs (ty.List i) k = k ≡ k_list
KindIs (ty.Tuple i) k = k ≡ k_tuple
KindIs (ty.Map i) k = k ≡ k_map
KindIs (ty.Flags i) k = k ≡ k_flags
KindIs (ty.Enum i) k = k ≡ k_enum
KindIs (ty.Option i) k = k ≡ k_option
KindIs (ty.Result i) k = k ≡ k_result
KindIs (ty.Future i) k = (a : ℕ) × (b : ℕ) × (k ≡ k_future a b)
KindIs (ty.Stream i) k = (a : ℕ) × (b : ℕ) × (k ≡ k_stream a b)
KindIs (ty.FixedLengthList i) k = (n : ℕ) × (k ≡ k_fixed n)
KindIs _ k = false ≡ true

entry_kind : {E : Type 0} (o : Option E) (f : E → Node) (n : Node) → option_map f o ≡ Some n → (e : E) × (n.kind ≡ (f e).kind)
entry_kind None f n h = absurd (none_some None n refl h)
entry_kind (Some e) f n h = (e, ap (λ (n : Node). n.kind) (sym (same_some (Some (f e)) (f e) n refl h)))

kind_is : (t : Tables) (a : InterfaceType) (k : Kind) (ms : Members) → HasShape t a (s_node k ms) → KindIs a k
kind_is t (ty.Record i) k ms h = sym h.2 ∙ (entry_kind (slice_get t.records i.number) record_node h.0 h.1).1
kind_is t (ty.Variant i) k ms h = sym h.2 ∙ (entry_kind (slice_get t.variants i.number) variant_node h.0 h.1).1
kind_is t (ty.List i) k ms h = sym h.2 ∙ (entry_kind (slice_get t.lists i.number) list_node h.0 h.1).1
kind_is t (ty.Tuple i) k ms h = sym h.2 ∙ (entry_kind (slice_get t.tuples i.number) tuple_node h.0 h.1).1
kind_is t (ty.Map i) k ms h = sym h.2 ∙ (entry_kind (slice_get t.maps i.number) map_node h.0 h.1).1
kind_is t (ty.Flags i) k ms h = sym h.2 ∙ (entry_kind (slice_get t.flags i.number) flags_node h.0 h.1).1
kind_is t (ty.Enum i) k ms h = sym h.2 ∙ (entry_kind (slice_get t.enums i.number) enum_node h.0 h.1).1
kind_is t (ty.Option i) k ms h = sym h.2 ∙ (entry_kind (slice_get t.options i.number) option_node h.0 h.1).1
kind_is t (ty.Result i) k ms h = sym h.2 ∙ (entry_kind (slice_get t.results i.number) result_node h.0 h.1).1
kind_is t (ty.Future i) k ms h = let r = entry_kind (slice_get t.future_tables i.number) (future_node t.futures i.number) h.0 h.1 in (i.number, r.0.instance.number, sym h.2 ∙ r.1)
kind_is t (ty.Stream i) k ms h = let r = entry_kind (slice_get t.stream_tables i.number) (stream_node t.streams i.number) h.0 h.1 in (i.number, r.0.instance.number, sym h.2 ∙ r.1)
kind_is t (ty.FixedLengthList i) k ms h = let r = entry_kind (slice_get t.fixed_length_lists i.number) fixed_length_list_node h.0 h.1 in (r.0.size, sym h.2 ∙ r.1)
kind_is t _ k ms h = absurd (none_some None h.0 refl h.1)

-- a type with members has no plain shape
plain_kind : (t : Tables) (a : InterfaceType) → is_plain a ≡ false → (s : Shape) → HasShape t a s → (k : Kind) × (ms : Members) × (s ≡ s_node k ms)
plain_kind t a members (s_plain p) h = absurd (let both : true ≡ false = sym h.1 ∙ sym (ap is_plain h.0) ∙ members in cc)
plain_kind t a members (s_node k ms) h = (k, ms, refl)

-- ---- the shapes of the types that are moved

module _ (t : Tables) where
  pub record_kind : (i : Id TypeRecords) (s : Shape) → HasShape t (ty.Record i) s → (ms : Members) × (s ≡ s_node k_record ms)
  record_kind i s h =
      let (k, ms, is) = plain_kind t (ty.Record i) refl s h in
      (ms, is ∙ ap (λ k. s_node k ms) (kind_is t (ty.Record i) k ms (subst (HasShape t (ty.Record i)) is h)))

  pub tuple_kind : (i : Id TypeTuples) (s : Shape) → HasShape t (ty.Tuple i) s → (ms : Members) × (s ≡ s_node k_tuple ms)
  tuple_kind i s h =
      let (k, ms, is) = plain_kind t (ty.Tuple i) refl s h in
      (ms, is ∙ ap (λ k. s_node k ms) (kind_is t (ty.Tuple i) k ms (subst (HasShape t (ty.Tuple i)) is h)))

  pub list_kind : (i : Id TypeLists) (s : Shape) → HasShape t (ty.List i) s → (ms : Members) × (s ≡ s_node k_list ms)
  list_kind i s h =
      let (k, ms, is) = plain_kind t (ty.List i) refl s h in
      (ms, is ∙ ap (λ k. s_node k ms) (kind_is t (ty.List i) k ms (subst (HasShape t (ty.List i)) is h)))

  pub map_kind : (i : Id TypeMaps) (s : Shape) → HasShape t (ty.Map i) s → (ms : Members) × (s ≡ s_node k_map ms)
  map_kind i s h =
      let (k, ms, is) = plain_kind t (ty.Map i) refl s h in
      (ms, is ∙ ap (λ k. s_node k ms) (kind_is t (ty.Map i) k ms (subst (HasShape t (ty.Map i)) is h)))

  pub fixed_kind : (i : Id TypeFixedLengthLists) (s : Shape) → HasShape t (ty.FixedLengthList i) s → (n : ℕ) × (ms : Members) × (s ≡ s_node (k_fixed n) ms)
  fixed_kind i s h =
      let (k, ms, is) = plain_kind t (ty.FixedLengthList i) refl s h in
      let (n, k_is) = kind_is t (ty.FixedLengthList i) k ms (subst (HasShape t (ty.FixedLengthList i)) is h) in
      (n, ms, is ∙ ap (λ k. s_node k ms) k_is)

  pub flags_kind : (i : Id FlagsTable) (s : Shape) → HasShape t (ty.Flags i) s → (ms : Members) × (s ≡ s_node k_flags ms)
  flags_kind i s h =
      let (k, ms, is) = plain_kind t (ty.Flags i) refl s h in
      (ms, is ∙ ap (λ k. s_node k ms) (kind_is t (ty.Flags i) k ms (subst (HasShape t (ty.Flags i)) is h)))

  pub enum_kind : (i : Id TypeEnums) (s : Shape) → HasShape t (ty.Enum i) s → (ms : Members) × (s ≡ s_node k_enum ms)
  enum_kind i s h =
      let (k, ms, is) = plain_kind t (ty.Enum i) refl s h in
      (ms, is ∙ ap (λ k. s_node k ms) (kind_is t (ty.Enum i) k ms (subst (HasShape t (ty.Enum i)) is h)))

  pub variant_kind : (i : Id TypeVariants) (s : Shape) → HasShape t (ty.Variant i) s → (ms : Members) × (s ≡ s_node k_variant ms)
  variant_kind i s h =
      let (k, ms, is) = plain_kind t (ty.Variant i) refl s h in
      (ms, is ∙ ap (λ k. s_node k ms) (kind_is t (ty.Variant i) k ms (subst (HasShape t (ty.Variant i)) is h)))

  pub option_kind : (i : Id TypeOptions) (s : Shape) → HasShape t (ty.Option i) s → (ms : Members) × (s ≡ s_node k_option ms)
  option_kind i s h =
      let (k, ms, is) = plain_kind t (ty.Option i) refl s h in
      (ms, is ∙ ap (λ k. s_node k ms) (kind_is t (ty.Option i) k ms (subst (HasShape t (ty.Option i)) is h)))

  pub result_kind : (i : Id TypeResults) (s : Shape) → HasShape t (ty.Result i) s → (ms : Members) × (s ≡ s_node k_result ms)
  result_kind i s h =
      let (k, ms, is) = plain_kind t (ty.Result i) refl s h in
      (ms, is ∙ ap (λ k. s_node k ms) (kind_is t (ty.Result i) k ms (subst (HasShape t (ty.Result i)) is h)))

  -- futures and streams, by the numbers of their tables
  pub future_kind : (i : Id TypeFutureTables) (s : Shape) → HasShape t (ty.Future i) s → (n : ℕ) × (ms : Members) × (s ≡ s_node (k_future i.number n) ms)
  future_kind i s h =
      let (k, ms, is) = plain_kind t (ty.Future i) refl s h in
      let shaped = subst (HasShape t (ty.Future i)) is h in
      let r = entry_kind (slice_get t.future_tables i.number) (future_node t.futures i.number) shaped.0 shaped.1 in
      (r.0.instance.number, ms, is ∙ ap (λ k. s_node k ms) (sym shaped.2 ∙ r.1))

  pub stream_kind : (i : Id TypeStreamTables) (s : Shape) → HasShape t (ty.Stream i) s → (n : ℕ) × (ms : Members) × (s ≡ s_node (k_stream i.number n) ms)
  stream_kind i s h =
      let (k, ms, is) = plain_kind t (ty.Stream i) refl s h in
      let shaped = subst (HasShape t (ty.Stream i)) is h in
      let r = entry_kind (slice_get t.stream_tables i.number) (stream_node t.streams i.number) shaped.0 shaped.1 in
      (r.0.instance.number, ms, is ∙ ap (λ k. s_node k ms) (sym shaped.2 ∙ r.1))

  -- a type without members
  pub plain_only : (a : InterfaceType) → node_of t a ≡ None → (s : Shape) → HasShape t a s → s ≡ s_plain a
  plain_only a none (s_plain p) h = ap s_plain (sym h.0)
  plain_only a none (s_node k ms) h = absurd (none_some (node_of t a) h.0 none h.1)

  -- only records have shapes of records, and so on
  pub record_type : (a : InterfaceType) (ms : Members) → HasShape t a (s_node k_record ms) → (i : Id TypeRecords) × (a ≡ ty.Record i)
  record_type a ms h = go a (kind_is t a k_record ms h)
    where
      go : (a : InterfaceType) → KindIs a k_record → (i : Id TypeRecords) × (a ≡ ty.Record i)
      go (ty.Record i) e = (i, refl)
      go (ty.Future i) e = absurd (let no : k_record ≡ k_future e.0 e.1 = e.2 in cc)
      go (ty.Stream i) e = absurd (let no : k_record ≡ k_stream e.0 e.1 = e.2 in cc)
      go (ty.FixedLengthList i) e = absurd (let no : k_record ≡ k_fixed e.0 = e.1 in cc)
      go _ e = absurd cc

  pub tuple_type : (a : InterfaceType) (ms : Members) → HasShape t a (s_node k_tuple ms) → (i : Id TypeTuples) × (a ≡ ty.Tuple i)
  tuple_type a ms h = go a (kind_is t a k_tuple ms h)
    where
      go : (a : InterfaceType) → KindIs a k_tuple → (i : Id TypeTuples) × (a ≡ ty.Tuple i)
      go (ty.Tuple i) e = (i, refl)
      go (ty.Future i) e = absurd (let no : k_tuple ≡ k_future e.0 e.1 = e.2 in cc)
      go (ty.Stream i) e = absurd (let no : k_tuple ≡ k_stream e.0 e.1 = e.2 in cc)
      go (ty.FixedLengthList i) e = absurd (let no : k_tuple ≡ k_fixed e.0 = e.1 in cc)
      go _ e = absurd cc

  pub list_type : (a : InterfaceType) (ms : Members) → HasShape t a (s_node k_list ms) → (i : Id TypeLists) × (a ≡ ty.List i)
  list_type a ms h = go a (kind_is t a k_list ms h)
    where
      go : (a : InterfaceType) → KindIs a k_list → (i : Id TypeLists) × (a ≡ ty.List i)
      go (ty.List i) e = (i, refl)
      go (ty.Future i) e = absurd (let no : k_list ≡ k_future e.0 e.1 = e.2 in cc)
      go (ty.Stream i) e = absurd (let no : k_list ≡ k_stream e.0 e.1 = e.2 in cc)
      go (ty.FixedLengthList i) e = absurd (let no : k_list ≡ k_fixed e.0 = e.1 in cc)
      go _ e = absurd cc

  pub map_type : (a : InterfaceType) (ms : Members) → HasShape t a (s_node k_map ms) → (i : Id TypeMaps) × (a ≡ ty.Map i)
  map_type a ms h = go a (kind_is t a k_map ms h)
    where
      go : (a : InterfaceType) → KindIs a k_map → (i : Id TypeMaps) × (a ≡ ty.Map i)
      go (ty.Map i) e = (i, refl)
      go (ty.Future i) e = absurd (let no : k_map ≡ k_future e.0 e.1 = e.2 in cc)
      go (ty.Stream i) e = absurd (let no : k_map ≡ k_stream e.0 e.1 = e.2 in cc)
      go (ty.FixedLengthList i) e = absurd (let no : k_map ≡ k_fixed e.0 = e.1 in cc)
      go _ e = absurd cc

  pub fixed_type : (a : InterfaceType) (n : ℕ) (ms : Members) → HasShape t a (s_node (k_fixed n) ms) → (i : Id TypeFixedLengthLists) × (a ≡ ty.FixedLengthList i)
  fixed_type a n ms h = go a (kind_is t a (k_fixed n) ms h)
    where
      go : (a : InterfaceType) → KindIs a (k_fixed n) → (i : Id TypeFixedLengthLists) × (a ≡ ty.FixedLengthList i)
      go (ty.FixedLengthList i) e = (i, refl)
      go (ty.Future i) e = absurd (let no : k_fixed n ≡ k_future e.0 e.1 = e.2 in cc)
      go (ty.Stream i) e = absurd (let no : k_fixed n ≡ k_stream e.0 e.1 = e.2 in cc)
      go _ e = absurd cc

  pub flags_type : (a : InterfaceType) (ms : Members) → HasShape t a (s_node k_flags ms) → (i : Id FlagsTable) × (a ≡ ty.Flags i)
  flags_type a ms h = go a (kind_is t a k_flags ms h)
    where
      go : (a : InterfaceType) → KindIs a k_flags → (i : Id FlagsTable) × (a ≡ ty.Flags i)
      go (ty.Flags i) e = (i, refl)
      go (ty.Future i) e = absurd (let no : k_flags ≡ k_future e.0 e.1 = e.2 in cc)
      go (ty.Stream i) e = absurd (let no : k_flags ≡ k_stream e.0 e.1 = e.2 in cc)
      go (ty.FixedLengthList i) e = absurd (let no : k_flags ≡ k_fixed e.0 = e.1 in cc)
      go _ e = absurd cc

  pub enum_type : (a : InterfaceType) (ms : Members) → HasShape t a (s_node k_enum ms) → (i : Id TypeEnums) × (a ≡ ty.Enum i)
  enum_type a ms h = go a (kind_is t a k_enum ms h)
    where
      go : (a : InterfaceType) → KindIs a k_enum → (i : Id TypeEnums) × (a ≡ ty.Enum i)
      go (ty.Enum i) e = (i, refl)
      go (ty.Future i) e = absurd (let no : k_enum ≡ k_future e.0 e.1 = e.2 in cc)
      go (ty.Stream i) e = absurd (let no : k_enum ≡ k_stream e.0 e.1 = e.2 in cc)
      go (ty.FixedLengthList i) e = absurd (let no : k_enum ≡ k_fixed e.0 = e.1 in cc)
      go _ e = absurd cc

  pub variant_type : (a : InterfaceType) (ms : Members) → HasShape t a (s_node k_variant ms) → (i : Id TypeVariants) × (a ≡ ty.Variant i)
  variant_type a ms h = go a (kind_is t a k_variant ms h)
    where
      go : (a : InterfaceType) → KindIs a k_variant → (i : Id TypeVariants) × (a ≡ ty.Variant i)
      go (ty.Variant i) e = (i, refl)
      go (ty.Future i) e = absurd (let no : k_variant ≡ k_future e.0 e.1 = e.2 in cc)
      go (ty.Stream i) e = absurd (let no : k_variant ≡ k_stream e.0 e.1 = e.2 in cc)
      go (ty.FixedLengthList i) e = absurd (let no : k_variant ≡ k_fixed e.0 = e.1 in cc)
      go _ e = absurd cc

  pub option_type : (a : InterfaceType) (ms : Members) → HasShape t a (s_node k_option ms) → (i : Id TypeOptions) × (a ≡ ty.Option i)
  option_type a ms h = go a (kind_is t a k_option ms h)
    where
      go : (a : InterfaceType) → KindIs a k_option → (i : Id TypeOptions) × (a ≡ ty.Option i)
      go (ty.Option i) e = (i, refl)
      go (ty.Future i) e = absurd (let no : k_option ≡ k_future e.0 e.1 = e.2 in cc)
      go (ty.Stream i) e = absurd (let no : k_option ≡ k_stream e.0 e.1 = e.2 in cc)
      go (ty.FixedLengthList i) e = absurd (let no : k_option ≡ k_fixed e.0 = e.1 in cc)
      go _ e = absurd cc

  pub result_type : (a : InterfaceType) (ms : Members) → HasShape t a (s_node k_result ms) → (i : Id TypeResults) × (a ≡ ty.Result i)
  result_type a ms h = go a (kind_is t a k_result ms h)
    where
      go : (a : InterfaceType) → KindIs a k_result → (i : Id TypeResults) × (a ≡ ty.Result i)
      go (ty.Result i) e = (i, refl)
      go (ty.Future i) e = absurd (let no : k_result ≡ k_future e.0 e.1 = e.2 in cc)
      go (ty.Stream i) e = absurd (let no : k_result ≡ k_stream e.0 e.1 = e.2 in cc)
      go (ty.FixedLengthList i) e = absurd (let no : k_result ≡ k_fixed e.0 = e.1 in cc)
      go _ e = absurd cc

  pub future_type : (a : InterfaceType) (ms : Members) {m n : ℕ} → HasShape t a (s_node (k_future m n) ms) → (i : Id TypeFutureTables) × (a ≡ ty.Future i)
  future_type a ms {m} {n} h = go a (kind_is t a (k_future m n) ms h)
    where
      go : (a : InterfaceType) → KindIs a (k_future m n) → (i : Id TypeFutureTables) × (a ≡ ty.Future i)
      go (ty.Future i) e = (i, refl)
      go (ty.Stream i) e = absurd (let no : k_future m n ≡ k_stream e.0 e.1 = e.2 in cc)
      go (ty.FixedLengthList i) e = absurd (let no : k_future m n ≡ k_fixed e.0 = e.1 in cc)
      go _ e = absurd cc

  pub stream_type : (a : InterfaceType) (ms : Members) {m n : ℕ} → HasShape t a (s_node (k_stream m n) ms) → (i : Id TypeStreamTables) × (a ≡ ty.Stream i)
  stream_type a ms {m} {n} h = go a (kind_is t a (k_stream m n) ms h)
    where
      go : (a : InterfaceType) → KindIs a (k_stream m n) → (i : Id TypeStreamTables) × (a ≡ ty.Stream i)
      go (ty.Stream i) e = (i, refl)
      go (ty.Future i) e = absurd (let no : k_stream m n ≡ k_future e.0 e.1 = e.2 in cc)
      go (ty.FixedLengthList i) e = absurd (let no : k_stream m n ≡ k_fixed e.0 = e.1 in cc)
      go _ e = absurd cc

  -- ---- their members

  -- the members of a node that is known
  pub node_members : (a : InterfaceType) (n : Node) → node_of t a ≡ Some n → (k : Kind) (ms : Members) → HasShape t a (s_node k ms) → HasMembers t n.members ms
  node_members a n is k ms h = subst (λ (n : Node). HasMembers t n.members ms) (same_some (node_of t a) h.0 n h.1 is) h.3

  bare_count : (names : List (List ℕ)) (ms : Members) → HasMembers t (map (λ n. (n, None)) names) ms → count_of_members ms ≡ length names
  bare_count [] no_members h = refl
  bare_count [] (bare x ms) h = absurd h
  bare_count [] (typed x s ms) h = absurd h
  bare_count (n ∷ names) no_members h = absurd h
  bare_count (n ∷ names) (bare x ms) h = ap suc (bare_count names ms h.2)
  bare_count (n ∷ names) (typed x s ms) h = absurd (none_some None h.1.0 refl h.1.1)

  bare_names : (names : List (List ℕ)) (ms : Members) → HasMembers t (map (λ n. (n, None)) names) ms → names_of ms ≡ names
  bare_names [] no_members h = refl
  bare_names [] (bare x ms) h = absurd h
  bare_names [] (typed x s ms) h = absurd h
  bare_names (n ∷ names) no_members h = absurd h
  bare_names (n ∷ names) (bare x ms) h = λ j. sym h.0 j ∷ bare_names names ms h.2 j
  bare_names (n ∷ names) (typed x s ms) h = absurd (none_some None h.1.0 refl h.1.1)

  pub flags_names : (i : Id FlagsTable) (e : FlagsType) → slice_get t.flags i.number ≡ Some e → (ms : Members) → HasShape t (ty.Flags i) (s_node k_flags ms) → names_of ms ≡ e.names
  flags_names i e is ms h = bare_names e.names ms (node_members (ty.Flags i) (flags_node e) (ap (option_map flags_node) is) k_flags ms h)

  pub flags_count : (i : Id FlagsTable) (e : FlagsType) → slice_get t.flags i.number ≡ Some e → (ms : Members) → HasShape t (ty.Flags i) (s_node k_flags ms) → count_of_members ms ≡ length e.names
  flags_count i e is ms h = bare_count e.names ms (node_members (ty.Flags i) (flags_node e) (ap (option_map flags_node) is) k_flags ms h)

  pub enum_count : (i : Id TypeEnums) (e : EnumType) → slice_get t.enums i.number ≡ Some e → (ms : Members) → HasShape t (ty.Enum i) (s_node k_enum ms) → count_of_members ms ≡ length e.names
  enum_count i e is ms h = bare_count e.names ms (node_members (ty.Enum i) (enum_node e) (ap (option_map enum_node) is) k_enum ms h)

  pub tuple_members : (i : Id TypeTuples) (e : TypeTuple) → slice_get t.tuples i.number ≡ Some e → (ys : List InterfaceType) → ys ≡ e.types → (ms : Members) → HasShape t (ty.Tuple i) (s_node k_tuple ms) → HasMembers t (placed 0 ys) ms
  tuple_members i e is ys from ms h = subst (λ ys. HasMembers t (placed 0 ys) ms) (sym from) (node_members (ty.Tuple i) (tuple_node e) (ap (option_map tuple_node) is) k_tuple ms h)

  pub list_members : (i : Id TypeLists) (e : TypeList) → slice_get t.lists i.number ≡ Some e → (ms : Members) → HasShape t (ty.List i) (s_node k_list ms) → HasMembers t (([], Some e.element) ∷ []) ms
  list_members i e is ms h = node_members (ty.List i) (list_node e) (ap (option_map list_node) is) k_list ms h

  pub map_members : (i : Id TypeMaps) (e : TypeMap) → slice_get t.maps i.number ≡ Some e → (ms : Members) → HasShape t (ty.Map i) (s_node k_map ms) → HasMembers t ((0 ∷ [], Some e.key) ∷ (1 ∷ [], Some e.value) ∷ []) ms
  map_members i e is ms h = node_members (ty.Map i) (map_node e) (ap (option_map map_node) is) k_map ms h

  pub fixed_members : (i : Id TypeFixedLengthLists) (e : TypeFixedLengthList) → slice_get t.fixed_length_lists i.number ≡ Some e → (n : ℕ) (ms : Members) → HasShape t (ty.FixedLengthList i) (s_node (k_fixed n) ms) → HasMembers t (([], Some e.element) ∷ []) ms
  fixed_members i e is n ms h = node_members (ty.FixedLengthList i) (fixed_length_list_node e) (ap (option_map fixed_length_list_node) is) (k_fixed n) ms h

  -- how many elements its values have
  pub fixed_size : (i : Id TypeFixedLengthLists) (e : TypeFixedLengthList) → slice_get t.fixed_length_lists i.number ≡ Some e → (n : ℕ) (ms : Members) → HasShape t (ty.FixedLengthList i) (s_node (k_fixed n) ms) → n ≡ e.size
  fixed_size i e is n ms h =
      let same : h.0 ≡ fixed_length_list_node e = same_some (node_of t (ty.FixedLengthList i)) h.0 (fixed_length_list_node e) h.1 (ap (option_map fixed_length_list_node) is) in
      let kinds : k_fixed n ≡ k_fixed e.size = sym h.2 ∙ ap (λ (n : Node). n.kind) same in
      cc
