-- What is told of each kind of type with members.
use Rattle.std.proofs.Common.{◌≡◌, ℕ, List, [], ◌∷◌, map, Option, Some, None, refl, sym, ◌∙◌, ap, subst, IfOk, Result, Ok, Err}
use Rattle.std.specs.Prelude.{slice_get, option_map}
use Rattle.fact_entity.specs.declared.id.Id.{Id}
use Rattle.fact_entity.specs.declared.table.TypeRecords.{TypeRecords}
use Rattle.fact_entity.specs.declared.table.TypeVariants.{TypeVariants}
use Rattle.fact_entity.specs.declared.table.TypeTuples.{TypeTuples}
use Rattle.fact_entity.specs.declared.table.TypeFlags.{TypeFlags as FlagsTable}
use Rattle.fact_entity.specs.declared.table.TypeEnums.{TypeEnums}
use Rattle.fact_entity.specs.declared.table.TypeOptions.{TypeOptions}
use Rattle.fact_entity.specs.declared.table.TypeResults.{TypeResults}
use Rattle.fact_entity.specs.declared.table.TypeLists.{TypeLists}
use Rattle.fact_entity.specs.declared.table.TypeMaps.{TypeMaps}
use Rattle.fact_entity.specs.declared.table.TypeFixedLengthLists.{TypeFixedLengthLists}
use Rattle.fact_entity.specs.declared.table.TypeFutureTables.{TypeFutureTables}
use Rattle.fact_entity.specs.declared.table.TypeStreamTables.{TypeStreamTables}
use Rattle.fact_types.specs.declared.interface.InterfaceType.{InterfaceType}
use Rattle.fact_types.specs.declared.interface.InterfaceType.TheVariants as ty
use Rattle.fact_types.specs.declared.kinds.RecordField.{RecordField}
use Rattle.fact_types.specs.declared.kinds.TypeRecord.{TypeRecord}
use Rattle.fact_types.specs.declared.kinds.TypeTuple.{TypeTuple}
use Rattle.fact_types.specs.declared.kinds.TypeOption.{TypeOption}
use Rattle.fact_types.specs.declared.kinds.TypeResult.{TypeResult}
use Rattle.fact_types.specs.declared.kinds.TypeList.{TypeList}
use Rattle.fact_types.specs.declared.kinds.TypeMap.{TypeMap}
use Rattle.fact_types.specs.declared.kinds.TypeFixedLengthList.{TypeFixedLengthList}
use Rattle.fact_types.specs.declared.kinds.TypeFutureTable.{TypeFutureTable}
use Rattle.fact_types.specs.declared.kinds.TypeStreamTable.{TypeStreamTable}
use Rattle.fact_types.specs.Ordered.{VariantType, FlagsType, EnumType}
use Rattle.fact_types.specs.Shapes.{k_future, k_stream, Members, none_name, some_name, ok_name, error_name}
use Rattle.fact_types.specs.Tables.{Tables, node_of, IsLive, HasMembers, IsSound, record_node, variant_node, tuple_node, flags_node, enum_node, option_node, result_node, list_node, map_node, fixed_length_list_node, future_node, stream_node}
use Rattle.fact_abi.specs.declared.nodes.NodeKind.TheVariants as is
use Rattle.fact_abi.specs.Nodes.{HasNode, field_types, field_names_of, AreOf}
use Rattle.fact_values.proofs.MemberLaws.{names_told}
use Rattle.fact_abi.proofs.ToldLaws.{fields_told, types_told, member_told, no_types, told, field_types_are, placed_types_are, bare_types_are, bare_names_are}

pub if_ok : {A E : Type 0} (P Q : A → Type 0) (r : Result A E) → ((a : A) → P a → Q a) → IfOk r P → IfOk r Q
if_ok P Q (Ok a) f h = f a h
if_ok P Q (Err e) f h = tt

-- types and names as they stand in an entry
types_from : (t : Tables) (types : List (Option InterfaceType)) (xs : List (List ℕ × Option InterfaceType)) → types ≡ map (λ m. m.1) xs → (ms : Members) → HasMembers t xs ms → AreOf t types ms
types_from t types xs e ms h = subst (λ ys. AreOf t ys ms) (sym e) (types_told t xs ms h)

found_from : (types : List (Option InterfaceType)) (xs : List (List ℕ × Option InterfaceType)) → types ≡ map (λ m. m.1) xs → (i : ℕ) (m : InterfaceType) → slice_get types i ≡ Some (Some m) → (y : List ℕ) × (slice_get xs i ≡ Some (y, Some m))
found_from types xs e i m h = member_told xs i m (ap (λ ys. slice_get ys i) (sym e) ∙ h)

module _ (t : Tables) (k : IsSound t) (y : InterfaceType) (live : IsLive t y) (names : List (List ℕ)) (types : List (Option InterfaceType)) where
  pub record_told : (i : Id TypeRecords) → y ≡ ty.Record i → (e : TypeRecord) → slice_get t.records i.number ≡ Some e → (fs : List RecordField) → fs ≡ e.fields
      → names ≡ field_names_of fs → types ≡ field_types fs → HasNode t y (record { kind = is.Record; names = names; types = types })
  record_told i at e here fs from nm tp =
      let types_are = tp ∙ ap field_types from ∙ field_types_are e.fields in
      told t k y (record_node e) (record { kind = is.Record; names = names; types = types }) live (ap (node_of t) at ∙ ap (option_map record_node) here) refl
      (λ ms h. (nm ∙ ap field_names_of from ∙ fields_told t e.fields ms h, types_from t types (record_node e).members types_are ms h))
      (found_from types (record_node e).members types_are)

  pub variant_told : (i : Id TypeVariants) → y ≡ ty.Variant i → (e : VariantType) → slice_get t.variants i.number ≡ Some e
      → names ≡ map (λ c. c.0) e.cases → types ≡ map (λ c. c.1) e.cases → HasNode t y (record { kind = is.Variant; names = names; types = types })
  variant_told i at e here nm tp =
      told t k y (variant_node e) (record { kind = is.Variant; names = names; types = types }) live (ap (node_of t) at ∙ ap (option_map variant_node) here) refl
      (λ ms h. (nm ∙ names_told t e.cases ms h, types_from t types e.cases tp ms h)) (found_from types e.cases tp)

  pub tuple_told : (i : Id TypeTuples) → y ≡ ty.Tuple i → (e : TypeTuple) → slice_get t.tuples i.number ≡ Some e → (ys : List InterfaceType) → ys ≡ e.types
      → types ≡ map (λ y. Some y) ys → HasNode t y (record { kind = is.Tuple; names = names; types = types })
  tuple_told i at e here ys from tp =
      let types_are = tp ∙ ap (map (λ y. Some y)) from ∙ placed_types_are 0 e.types in
      told t k y (tuple_node e) (record { kind = is.Tuple; names = names; types = types }) live (ap (node_of t) at ∙ ap (option_map tuple_node) here) refl
      (λ ms h. types_from t types (tuple_node e).members types_are ms h) (found_from types (tuple_node e).members types_are)

  pub flags_told : (i : Id FlagsTable) → y ≡ ty.Flags i → (e : FlagsType) → slice_get t.flags i.number ≡ Some e
      → names ≡ e.names → types ≡ [] → HasNode t y (record { kind = is.Flags; names = names; types = types })
  flags_told i at e here nm tp =
      told t k y (flags_node e) (record { kind = is.Flags; names = names; types = types }) live (ap (node_of t) at ∙ ap (option_map flags_node) here) refl
      (λ ms h. nm ∙ bare_names_are e.names ∙ names_told t (flags_node e).members ms h)
      (λ j m g. no_types (flags_node e) j m (ap (λ ys. slice_get ys j) (sym tp) ∙ g))

  pub enum_told : (i : Id TypeEnums) → y ≡ ty.Enum i → (e : EnumType) → slice_get t.enums i.number ≡ Some e
      → names ≡ e.names → types ≡ map (λ n. None) names → HasNode t y (record { kind = is.Enum; names = names; types = types })
  enum_told i at e here nm tp =
      let types_are = tp ∙ ap (map (λ n. None)) nm ∙ bare_types_are e.names in
      told t k y (enum_node e) (record { kind = is.Enum; names = names; types = types }) live (ap (node_of t) at ∙ ap (option_map enum_node) here) refl
      (λ ms h. (nm ∙ bare_names_are e.names ∙ names_told t (enum_node e).members ms h, types_from t types (enum_node e).members types_are ms h))
      (found_from types (enum_node e).members types_are)

module _ (t : Tables) (k : IsSound t) (y : InterfaceType) (live : IsLive t y) where
  pub option_told : (i : Id TypeOptions) → y ≡ ty.Option i → (e : TypeOption) → slice_get t.options i.number ≡ Some e
      → HasNode t y (record { kind = is.Option; names = none_name ∷ some_name ∷ []; types = None ∷ Some e.ty ∷ [] })
  option_told i at e here =
      told t k y (option_node e) _ live (ap (node_of t) at ∙ ap (option_map option_node) here) refl
      (λ ms h. (names_told t (option_node e).members ms h, types_told t (option_node e).members ms h)) (member_told (option_node e).members)

  pub result_told : (i : Id TypeResults) → y ≡ ty.Result i → (e : TypeResult) → slice_get t.results i.number ≡ Some e
      → HasNode t y (record { kind = is.Result; names = ok_name ∷ error_name ∷ []; types = e.ok ∷ e.err ∷ [] })
  result_told i at e here =
      told t k y (result_node e) _ live (ap (node_of t) at ∙ ap (option_map result_node) here) refl
      (λ ms h. (names_told t (result_node e).members ms h, types_told t (result_node e).members ms h)) (member_told (result_node e).members)

  pub list_told : (i : Id TypeLists) → y ≡ ty.List i → (e : TypeList) → slice_get t.lists i.number ≡ Some e
      → HasNode t y (record { kind = is.List e.element; names = []; types = Some e.element ∷ [] })
  list_told i at e here =
      told t k y (list_node e) _ live (ap (node_of t) at ∙ ap (option_map list_node) here) refl
      (λ ms h. (refl, types_told t (list_node e).members ms h)) (member_told (list_node e).members)

  pub map_told : (i : Id TypeMaps) → y ≡ ty.Map i → (e : TypeMap) → slice_get t.maps i.number ≡ Some e
      → HasNode t y (record { kind = is.Map e.key e.value; names = []; types = Some e.key ∷ Some e.value ∷ [] })
  map_told i at e here =
      told t k y (map_node e) _ live (ap (node_of t) at ∙ ap (option_map map_node) here) refl
      (λ ms h. (refl, types_told t (map_node e).members ms h)) (member_told (map_node e).members)

  pub fixed_list_told : (i : Id TypeFixedLengthLists) → y ≡ ty.FixedLengthList i → (e : TypeFixedLengthList) → slice_get t.fixed_length_lists i.number ≡ Some e
      → HasNode t y (record { kind = is.FixedList e.size e.element; names = []; types = Some e.element ∷ [] })
  fixed_list_told i at e here =
      told t k y (fixed_length_list_node e) _ live (ap (node_of t) at ∙ ap (option_map fixed_length_list_node) here) refl
      (λ ms h. (refl, types_told t (fixed_length_list_node e).members ms h)) (member_told (fixed_length_list_node e).members)

  pub future_told : (i : Id TypeFutureTables) → y ≡ ty.Future i → (e : TypeFutureTable) → slice_get t.future_tables i.number ≡ Some e
      → (a b : ℕ) → a ≡ i.number → b ≡ e.instance.number → HasNode t y (record { kind = is.Future a b; names = []; types = [] })
  future_told i at e here a b p q =
      told t k y (future_node t.futures i.number e) _ live (ap (node_of t) at ∙ ap (option_map (future_node t.futures i.number)) here)
      (λ j. k_future (p j) (q j)) (λ ms h. tt) (no_types (future_node t.futures i.number e))

  pub stream_told : (i : Id TypeStreamTables) → y ≡ ty.Stream i → (e : TypeStreamTable) → slice_get t.stream_tables i.number ≡ Some e
      → (a b : ℕ) → a ≡ i.number → b ≡ e.instance.number → HasNode t y (record { kind = is.Stream a b; names = []; types = [] })
  stream_told i at e here a b p q =
      told t k y (stream_node t.streams i.number e) _ live (ap (node_of t) at ∙ ap (option_map (stream_node t.streams i.number)) here)
      (λ j. k_stream (p j) (q j)) (λ ms h. tt) (no_types (stream_node t.streams i.number e))

-- the types that are none of these have no entry
pub others_plain : (t : Tables) (y : InterfaceType) → ((x : Id TypeRecords) → y ≡ ty.Record x → ⊥) → ((x : Id TypeVariants) → y ≡ ty.Variant x → ⊥) → ((x : Id TypeLists) → y ≡ ty.List x → ⊥)
    → ((x : Id TypeTuples) → y ≡ ty.Tuple x → ⊥) → ((x : Id TypeMaps) → y ≡ ty.Map x → ⊥) → ((x : Id FlagsTable) → y ≡ ty.Flags x → ⊥) → ((x : Id TypeEnums) → y ≡ ty.Enum x → ⊥)
    → ((x : Id TypeOptions) → y ≡ ty.Option x → ⊥) → ((x : Id TypeResults) → y ≡ ty.Result x → ⊥) → ((x : Id TypeFutureTables) → y ≡ ty.Future x → ⊥) → ((x : Id TypeStreamTables) → y ≡ ty.Stream x → ⊥)
    → ((x : Id TypeFixedLengthLists) → y ≡ ty.FixedLengthList x → ⊥) → node_of t y ≡ None
others_plain t (ty.Record x) a b c d e f g h i j k l = absurd (a x refl)
others_plain t (ty.Variant x) a b c d e f g h i j k l = absurd (b x refl)
others_plain t (ty.List x) a b c d e f g h i j k l = absurd (c x refl)
others_plain t (ty.Tuple x) a b c d e f g h i j k l = absurd (d x refl)
others_plain t (ty.Map x) a b c d e f g h i j k l = absurd (e x refl)
others_plain t (ty.Flags x) a b c d e f g h i j k l = absurd (f x refl)
others_plain t (ty.Enum x) a b c d e f g h i j k l = absurd (g x refl)
others_plain t (ty.Option x) a b c d e f g h i j k l = absurd (h x refl)
others_plain t (ty.Result x) a b c d e f g h i j k l = absurd (i x refl)
others_plain t (ty.Future x) a b c d e f g h i j k l = absurd (j x refl)
others_plain t (ty.Stream x) a b c d e f g h i j k l = absurd (k x refl)
others_plain t (ty.FixedLengthList x) a b c d e f g h i j k l = absurd (l x refl)
others_plain t _ a b c d e f g h i j k l = refl
