-- What types name, when one of the tables with kept entries gets one more.
use Rattle.std.proofs.Common.{◌≡◌, ◌<◌, ℕ, zero, suc, List, [], ◌∷◌, ◌++◌, length, Some, refl, sym, ◌∙◌, ap, subst, arith, inl, inr, ◌⊎◌}
use Rattle.std.specs.Prelude.{Option, option_map, slice_get, All, Result, Ok, Err, OnOk, OnErr}
use Rattle.fact_entity.specs.declared.id.Id.{Id}
use Rattle.fact_entity.specs.declared.table.TypeRecords.{TypeRecords}
use Rattle.fact_entity.specs.declared.table.TypeVariants.{TypeVariants}
use Rattle.fact_entity.specs.declared.table.TypeLists.{TypeLists}
use Rattle.fact_entity.specs.declared.table.TypeTuples.{TypeTuples}
use Rattle.fact_entity.specs.declared.table.TypeMaps.{TypeMaps}
use Rattle.fact_entity.specs.declared.table.TypeFlags.{TypeFlags}
use Rattle.fact_entity.specs.declared.table.TypeEnums.{TypeEnums}
use Rattle.fact_entity.specs.declared.table.TypeOptions.{TypeOptions}
use Rattle.fact_entity.specs.declared.table.TypeResults.{TypeResults}
use Rattle.fact_entity.specs.declared.table.TypeFixedLengthLists.{TypeFixedLengthLists}
use Rattle.fact_entity.specs.declared.table.TypeFutureTables.{TypeFutureTables}
use Rattle.fact_entity.specs.declared.table.TypeStreamTables.{TypeStreamTables}
use Rattle.fact_types.specs.declared.interface.InterfaceType.TheVariants.{Record as t_record, Variant as t_variant, List as t_list, Tuple as t_tuple, Map as t_map, Flags as t_flags, Enum as t_enum, Option as t_option, Result as t_result, Future as t_future, Stream as t_stream, FixedLengthList as t_fixed_length_list}
use Rattle.fact_types.specs.declared.kinds.TypeRecord.{TypeRecord}
use Rattle.fact_types.specs.declared.kinds.TypeList.{TypeList}
use Rattle.fact_types.specs.declared.kinds.TypeTuple.{TypeTuple}
use Rattle.fact_types.specs.declared.kinds.TypeMap.{TypeMap}
use Rattle.fact_types.specs.declared.kinds.TypeOption.{TypeOption}
use Rattle.fact_types.specs.declared.kinds.TypeResult.{TypeResult}
use Rattle.fact_types.specs.declared.kinds.TypeFixedLengthList.{TypeFixedLengthList}
use Rattle.fact_types.specs.declared.kinds.TypeFutureTable.{TypeFutureTable}
use Rattle.fact_types.specs.declared.kinds.TypeStreamTable.{TypeStreamTable}
use Rattle.fact_types.specs.declared.interface.InterfaceType.{InterfaceType}
use Rattle.fact_types.specs.Ordered.{VariantType, FlagsType, EnumType}
use Rattle.fact_types.specs.Tables.{Tables, Node, record_node, variant_node, list_node, tuple_node, map_node, flags_node, enum_node, option_node, result_node, fixed_length_list_node, future_node, stream_node, payload_in, IsLiveMember, of_futures, of_streams, Stands, IsSound}
use Rattle.fact_builder.specs.declared.information.TypeInformation.{TypeInformation}
use Rattle.fact_builder.specs.Information.{deeper, made_of, known_members, AllKept}
use Rattle.fact_builder.proofs.KeptLaws.{Kept, Splits, one_more, still_kept, Updated, live_kept}

-- an entry of a list with one more is one of the list, or the last
end_splits : {X : Type 0} (f : ℕ → X → Node) (xs : List X) (y : X) (i : ℕ) (n : Node) → option_map (f i) (slice_get (xs ++ y ∷ []) i) ≡ Some n → ((option_map (f i) (slice_get xs i) ≡ Some n) × (i < length xs)) ⊎ ((i ≡ length xs) × (n ≡ f (length xs) y))
end_splits f [] y zero n h = inr (refl, inside (f 0 y) n h)
  where
    inside : (a b : Node) → Some a ≡ Some b → b ≡ a
    inside a b e = cc
end_splits f [] y (suc i) n h = cc
end_splits f (x ∷ xs) y zero n h = inl (h, omega arith)
end_splits f (x ∷ xs) y (suc i) n h = elim (end_splits (λ m. f (suc m)) xs y i n h) [
  | inl (p, l) ↦ inl (p, omega (arith, l))
  | inr (p, q) ↦ inr (ap suc p, q)
]

beyond : (n m : ℕ) → n ≡ m → n < m → ⊥
beyond n m e l = omega (arith, e, l)

-- ---- one more entry of records
splits_record : (t : Tables) (r : TypeRecord) (key : Id TypeRecords) → key.number ≡ length t.records → Splits t (record t { records = t.records ++ r ∷ [] }) (t_record key) (record_node r)
splits_record t r key e (t_record i) n h = elim (end_splits (λ m. record_node) t.records r i.number n h) [
  | inl (p, l) ↦ inl (p, l)
  | inr (p, q) ↦ inr (ap (λ (m : ℕ). t_record (record { number = m; table = i.table })) (p ∙ sym e), q)
]
splits_record t r key e ty n h = inl (h, live_kept t ty n h)

pub pushed_record : {A E : Type 0} (t v : Tables) (kept news : Kept) (r : TypeRecord) (key : Id TypeRecords) (information : TypeInformation) (res : Result A E) (last : Tables) → AllKept t kept → IsSound t → t ≡ v → Stands v (record_node r) → key.number ≡ length v.records → Updated kept news (t_record key) (deeper information) → information ≡ made_of (record_node r).kind (known_members kept (record_node r)) → OnOk res (last ≡ record t { records = t.records ++ r ∷ [] }) → OnErr res (last ≡ t) → AllKept last news
pushed_record t v kept news r key information (Ok x) last a s e st k u told o f = subst (λ z. AllKept z news) (sym o) (one_more t kept news (t_record key) (deeper information) a s (beyond _ _ (k ∙ ap (λ z. length z.records) (sym e))) refl u _ (record_node r) (subst (λ z. Stands z (record_node r)) (sym e) st) (splits_record t r key (k ∙ ap (λ z. length z.records) (sym e))) (ap deeper told))
pushed_record t v kept news r key information (Err x) last a s e st k u told o f = subst (λ z. AllKept z news) (sym f) (still_kept t kept news (t_record key) (deeper information) a s (beyond _ _ (k ∙ ap (λ z. length z.records) (sym e))) refl u)

-- ---- one more entry of variants
splits_variant : (t : Tables) (r : VariantType) (key : Id TypeVariants) → key.number ≡ length t.variants → Splits t (record t { variants = t.variants ++ r ∷ [] }) (t_variant key) (variant_node r)
splits_variant t r key e (t_variant i) n h = elim (end_splits (λ m. variant_node) t.variants r i.number n h) [
  | inl (p, l) ↦ inl (p, l)
  | inr (p, q) ↦ inr (ap (λ (m : ℕ). t_variant (record { number = m; table = i.table })) (p ∙ sym e), q)
]
splits_variant t r key e ty n h = inl (h, live_kept t ty n h)

pub pushed_variant : {A E : Type 0} (t v : Tables) (kept news : Kept) (r : VariantType) (key : Id TypeVariants) (information : TypeInformation) (res : Result A E) (last : Tables) → AllKept t kept → IsSound t → t ≡ v → Stands v (variant_node r) → key.number ≡ length v.variants → Updated kept news (t_variant key) (deeper information) → information ≡ made_of (variant_node r).kind (known_members kept (variant_node r)) → OnOk res (last ≡ record t { variants = t.variants ++ r ∷ [] }) → OnErr res (last ≡ t) → AllKept last news
pushed_variant t v kept news r key information (Ok x) last a s e st k u told o f = subst (λ z. AllKept z news) (sym o) (one_more t kept news (t_variant key) (deeper information) a s (beyond _ _ (k ∙ ap (λ z. length z.variants) (sym e))) refl u _ (variant_node r) (subst (λ z. Stands z (variant_node r)) (sym e) st) (splits_variant t r key (k ∙ ap (λ z. length z.variants) (sym e))) (ap deeper told))
pushed_variant t v kept news r key information (Err x) last a s e st k u told o f = subst (λ z. AllKept z news) (sym f) (still_kept t kept news (t_variant key) (deeper information) a s (beyond _ _ (k ∙ ap (λ z. length z.variants) (sym e))) refl u)

-- ---- one more entry of lists
splits_list : (t : Tables) (r : TypeList) (key : Id TypeLists) → key.number ≡ length t.lists → Splits t (record t { lists = t.lists ++ r ∷ [] }) (t_list key) (list_node r)
splits_list t r key e (t_list i) n h = elim (end_splits (λ m. list_node) t.lists r i.number n h) [
  | inl (p, l) ↦ inl (p, l)
  | inr (p, q) ↦ inr (ap (λ (m : ℕ). t_list (record { number = m; table = i.table })) (p ∙ sym e), q)
]
splits_list t r key e ty n h = inl (h, live_kept t ty n h)

pub pushed_list : {A E : Type 0} (t v : Tables) (kept news : Kept) (r : TypeList) (key : Id TypeLists) (information : TypeInformation) (res : Result A E) (last : Tables) → AllKept t kept → IsSound t → t ≡ v → Stands v (list_node r) → key.number ≡ length v.lists → Updated kept news (t_list key) (deeper information) → information ≡ made_of (list_node r).kind (known_members kept (list_node r)) → OnOk res (last ≡ record t { lists = t.lists ++ r ∷ [] }) → OnErr res (last ≡ t) → AllKept last news
pushed_list t v kept news r key information (Ok x) last a s e st k u told o f = subst (λ z. AllKept z news) (sym o) (one_more t kept news (t_list key) (deeper information) a s (beyond _ _ (k ∙ ap (λ z. length z.lists) (sym e))) refl u _ (list_node r) (subst (λ z. Stands z (list_node r)) (sym e) st) (splits_list t r key (k ∙ ap (λ z. length z.lists) (sym e))) (ap deeper told))
pushed_list t v kept news r key information (Err x) last a s e st k u told o f = subst (λ z. AllKept z news) (sym f) (still_kept t kept news (t_list key) (deeper information) a s (beyond _ _ (k ∙ ap (λ z. length z.lists) (sym e))) refl u)

-- ---- one more entry of tuples
splits_tuple : (t : Tables) (r : TypeTuple) (key : Id TypeTuples) → key.number ≡ length t.tuples → Splits t (record t { tuples = t.tuples ++ r ∷ [] }) (t_tuple key) (tuple_node r)
splits_tuple t r key e (t_tuple i) n h = elim (end_splits (λ m. tuple_node) t.tuples r i.number n h) [
  | inl (p, l) ↦ inl (p, l)
  | inr (p, q) ↦ inr (ap (λ (m : ℕ). t_tuple (record { number = m; table = i.table })) (p ∙ sym e), q)
]
splits_tuple t r key e ty n h = inl (h, live_kept t ty n h)

pub pushed_tuple : {A E : Type 0} (t v : Tables) (kept news : Kept) (r : TypeTuple) (key : Id TypeTuples) (information : TypeInformation) (res : Result A E) (last : Tables) → AllKept t kept → IsSound t → t ≡ v → Stands v (tuple_node r) → key.number ≡ length v.tuples → Updated kept news (t_tuple key) (deeper information) → information ≡ made_of (tuple_node r).kind (known_members kept (tuple_node r)) → OnOk res (last ≡ record t { tuples = t.tuples ++ r ∷ [] }) → OnErr res (last ≡ t) → AllKept last news
pushed_tuple t v kept news r key information (Ok x) last a s e st k u told o f = subst (λ z. AllKept z news) (sym o) (one_more t kept news (t_tuple key) (deeper information) a s (beyond _ _ (k ∙ ap (λ z. length z.tuples) (sym e))) refl u _ (tuple_node r) (subst (λ z. Stands z (tuple_node r)) (sym e) st) (splits_tuple t r key (k ∙ ap (λ z. length z.tuples) (sym e))) (ap deeper told))
pushed_tuple t v kept news r key information (Err x) last a s e st k u told o f = subst (λ z. AllKept z news) (sym f) (still_kept t kept news (t_tuple key) (deeper information) a s (beyond _ _ (k ∙ ap (λ z. length z.tuples) (sym e))) refl u)

-- ---- one more entry of maps
splits_map : (t : Tables) (r : TypeMap) (key : Id TypeMaps) → key.number ≡ length t.maps → Splits t (record t { maps = t.maps ++ r ∷ [] }) (t_map key) (map_node r)
splits_map t r key e (t_map i) n h = elim (end_splits (λ m. map_node) t.maps r i.number n h) [
  | inl (p, l) ↦ inl (p, l)
  | inr (p, q) ↦ inr (ap (λ (m : ℕ). t_map (record { number = m; table = i.table })) (p ∙ sym e), q)
]
splits_map t r key e ty n h = inl (h, live_kept t ty n h)

pub pushed_map : {A E : Type 0} (t v : Tables) (kept news : Kept) (r : TypeMap) (key : Id TypeMaps) (information : TypeInformation) (res : Result A E) (last : Tables) → AllKept t kept → IsSound t → t ≡ v → Stands v (map_node r) → key.number ≡ length v.maps → Updated kept news (t_map key) (deeper information) → information ≡ made_of (map_node r).kind (known_members kept (map_node r)) → OnOk res (last ≡ record t { maps = t.maps ++ r ∷ [] }) → OnErr res (last ≡ t) → AllKept last news
pushed_map t v kept news r key information (Ok x) last a s e st k u told o f = subst (λ z. AllKept z news) (sym o) (one_more t kept news (t_map key) (deeper information) a s (beyond _ _ (k ∙ ap (λ z. length z.maps) (sym e))) refl u _ (map_node r) (subst (λ z. Stands z (map_node r)) (sym e) st) (splits_map t r key (k ∙ ap (λ z. length z.maps) (sym e))) (ap deeper told))
pushed_map t v kept news r key information (Err x) last a s e st k u told o f = subst (λ z. AllKept z news) (sym f) (still_kept t kept news (t_map key) (deeper information) a s (beyond _ _ (k ∙ ap (λ z. length z.maps) (sym e))) refl u)

-- ---- one more entry of flags
splits_flags : (t : Tables) (r : FlagsType) (key : Id TypeFlags) → key.number ≡ length t.flags → Splits t (record t { flags = t.flags ++ r ∷ [] }) (t_flags key) (flags_node r)
splits_flags t r key e (t_flags i) n h = elim (end_splits (λ m. flags_node) t.flags r i.number n h) [
  | inl (p, l) ↦ inl (p, l)
  | inr (p, q) ↦ inr (ap (λ (m : ℕ). t_flags (record { number = m; table = i.table })) (p ∙ sym e), q)
]
splits_flags t r key e ty n h = inl (h, live_kept t ty n h)

pub pushed_flags : {A E : Type 0} (t v : Tables) (kept news : Kept) (r : FlagsType) (key : Id TypeFlags) (information : TypeInformation) (res : Result A E) (last : Tables) → AllKept t kept → IsSound t → t ≡ v → Stands v (flags_node r) → key.number ≡ length v.flags → Updated kept news (t_flags key) (deeper information) → information ≡ made_of (flags_node r).kind (known_members kept (flags_node r)) → OnOk res (last ≡ record t { flags = t.flags ++ r ∷ [] }) → OnErr res (last ≡ t) → AllKept last news
pushed_flags t v kept news r key information (Ok x) last a s e st k u told o f = subst (λ z. AllKept z news) (sym o) (one_more t kept news (t_flags key) (deeper information) a s (beyond _ _ (k ∙ ap (λ z. length z.flags) (sym e))) refl u _ (flags_node r) (subst (λ z. Stands z (flags_node r)) (sym e) st) (splits_flags t r key (k ∙ ap (λ z. length z.flags) (sym e))) (ap deeper told))
pushed_flags t v kept news r key information (Err x) last a s e st k u told o f = subst (λ z. AllKept z news) (sym f) (still_kept t kept news (t_flags key) (deeper information) a s (beyond _ _ (k ∙ ap (λ z. length z.flags) (sym e))) refl u)

-- ---- one more entry of enums
splits_enum : (t : Tables) (r : EnumType) (key : Id TypeEnums) → key.number ≡ length t.enums → Splits t (record t { enums = t.enums ++ r ∷ [] }) (t_enum key) (enum_node r)
splits_enum t r key e (t_enum i) n h = elim (end_splits (λ m. enum_node) t.enums r i.number n h) [
  | inl (p, l) ↦ inl (p, l)
  | inr (p, q) ↦ inr (ap (λ (m : ℕ). t_enum (record { number = m; table = i.table })) (p ∙ sym e), q)
]
splits_enum t r key e ty n h = inl (h, live_kept t ty n h)

pub pushed_enum : {A E : Type 0} (t v : Tables) (kept news : Kept) (r : EnumType) (key : Id TypeEnums) (information : TypeInformation) (res : Result A E) (last : Tables) → AllKept t kept → IsSound t → t ≡ v → Stands v (enum_node r) → key.number ≡ length v.enums → Updated kept news (t_enum key) (deeper information) → information ≡ made_of (enum_node r).kind (known_members kept (enum_node r)) → OnOk res (last ≡ record t { enums = t.enums ++ r ∷ [] }) → OnErr res (last ≡ t) → AllKept last news
pushed_enum t v kept news r key information (Ok x) last a s e st k u told o f = subst (λ z. AllKept z news) (sym o) (one_more t kept news (t_enum key) (deeper information) a s (beyond _ _ (k ∙ ap (λ z. length z.enums) (sym e))) refl u _ (enum_node r) (subst (λ z. Stands z (enum_node r)) (sym e) st) (splits_enum t r key (k ∙ ap (λ z. length z.enums) (sym e))) (ap deeper told))
pushed_enum t v kept news r key information (Err x) last a s e st k u told o f = subst (λ z. AllKept z news) (sym f) (still_kept t kept news (t_enum key) (deeper information) a s (beyond _ _ (k ∙ ap (λ z. length z.enums) (sym e))) refl u)

-- ---- one more entry of options
splits_option : (t : Tables) (r : TypeOption) (key : Id TypeOptions) → key.number ≡ length t.options → Splits t (record t { options = t.options ++ r ∷ [] }) (t_option key) (option_node r)
splits_option t r key e (t_option i) n h = elim (end_splits (λ m. option_node) t.options r i.number n h) [
  | inl (p, l) ↦ inl (p, l)
  | inr (p, q) ↦ inr (ap (λ (m : ℕ). t_option (record { number = m; table = i.table })) (p ∙ sym e), q)
]
splits_option t r key e ty n h = inl (h, live_kept t ty n h)

pub pushed_option : {A E : Type 0} (t v : Tables) (kept news : Kept) (r : TypeOption) (key : Id TypeOptions) (information : TypeInformation) (res : Result A E) (last : Tables) → AllKept t kept → IsSound t → t ≡ v → Stands v (option_node r) → key.number ≡ length v.options → Updated kept news (t_option key) (deeper information) → information ≡ made_of (option_node r).kind (known_members kept (option_node r)) → OnOk res (last ≡ record t { options = t.options ++ r ∷ [] }) → OnErr res (last ≡ t) → AllKept last news
pushed_option t v kept news r key information (Ok x) last a s e st k u told o f = subst (λ z. AllKept z news) (sym o) (one_more t kept news (t_option key) (deeper information) a s (beyond _ _ (k ∙ ap (λ z. length z.options) (sym e))) refl u _ (option_node r) (subst (λ z. Stands z (option_node r)) (sym e) st) (splits_option t r key (k ∙ ap (λ z. length z.options) (sym e))) (ap deeper told))
pushed_option t v kept news r key information (Err x) last a s e st k u told o f = subst (λ z. AllKept z news) (sym f) (still_kept t kept news (t_option key) (deeper information) a s (beyond _ _ (k ∙ ap (λ z. length z.options) (sym e))) refl u)

-- ---- one more entry of results
splits_result : (t : Tables) (r : TypeResult) (key : Id TypeResults) → key.number ≡ length t.results → Splits t (record t { results = t.results ++ r ∷ [] }) (t_result key) (result_node r)
splits_result t r key e (t_result i) n h = elim (end_splits (λ m. result_node) t.results r i.number n h) [
  | inl (p, l) ↦ inl (p, l)
  | inr (p, q) ↦ inr (ap (λ (m : ℕ). t_result (record { number = m; table = i.table })) (p ∙ sym e), q)
]
splits_result t r key e ty n h = inl (h, live_kept t ty n h)

pub pushed_result : {A E : Type 0} (t v : Tables) (kept news : Kept) (r : TypeResult) (key : Id TypeResults) (information : TypeInformation) (res : Result A E) (last : Tables) → AllKept t kept → IsSound t → t ≡ v → Stands v (result_node r) → key.number ≡ length v.results → Updated kept news (t_result key) (deeper information) → information ≡ made_of (result_node r).kind (known_members kept (result_node r)) → OnOk res (last ≡ record t { results = t.results ++ r ∷ [] }) → OnErr res (last ≡ t) → AllKept last news
pushed_result t v kept news r key information (Ok x) last a s e st k u told o f = subst (λ z. AllKept z news) (sym o) (one_more t kept news (t_result key) (deeper information) a s (beyond _ _ (k ∙ ap (λ z. length z.results) (sym e))) refl u _ (result_node r) (subst (λ z. Stands z (result_node r)) (sym e) st) (splits_result t r key (k ∙ ap (λ z. length z.results) (sym e))) (ap deeper told))
pushed_result t v kept news r key information (Err x) last a s e st k u told o f = subst (λ z. AllKept z news) (sym f) (still_kept t kept news (t_result key) (deeper information) a s (beyond _ _ (k ∙ ap (λ z. length z.results) (sym e))) refl u)

-- ---- one more entry of fixed_length_lists
splits_fixed_length_list : (t : Tables) (r : TypeFixedLengthList) (key : Id TypeFixedLengthLists) → key.number ≡ length t.fixed_length_lists → Splits t (record t { fixed_length_lists = t.fixed_length_lists ++ r ∷ [] }) (t_fixed_length_list key) (fixed_length_list_node r)
splits_fixed_length_list t r key e (t_fixed_length_list i) n h = elim (end_splits (λ m. fixed_length_list_node) t.fixed_length_lists r i.number n h) [
  | inl (p, l) ↦ inl (p, l)
  | inr (p, q) ↦ inr (ap (λ (m : ℕ). t_fixed_length_list (record { number = m; table = i.table })) (p ∙ sym e), q)
]
splits_fixed_length_list t r key e ty n h = inl (h, live_kept t ty n h)

pub pushed_fixed_length_list : {A E : Type 0} (t v : Tables) (kept news : Kept) (r : TypeFixedLengthList) (key : Id TypeFixedLengthLists) (information : TypeInformation) (res : Result A E) (last : Tables) → AllKept t kept → IsSound t → t ≡ v → Stands v (fixed_length_list_node r) → key.number ≡ length v.fixed_length_lists → Updated kept news (t_fixed_length_list key) (deeper information) → information ≡ made_of (fixed_length_list_node r).kind (known_members kept (fixed_length_list_node r)) → OnOk res (last ≡ record t { fixed_length_lists = t.fixed_length_lists ++ r ∷ [] }) → OnErr res (last ≡ t) → AllKept last news
pushed_fixed_length_list t v kept news r key information (Ok x) last a s e st k u told o f = subst (λ z. AllKept z news) (sym o) (one_more t kept news (t_fixed_length_list key) (deeper information) a s (beyond _ _ (k ∙ ap (λ z. length z.fixed_length_lists) (sym e))) refl u _ (fixed_length_list_node r) (subst (λ z. Stands z (fixed_length_list_node r)) (sym e) st) (splits_fixed_length_list t r key (k ∙ ap (λ z. length z.fixed_length_lists) (sym e))) (ap deeper told))
pushed_fixed_length_list t v kept news r key information (Err x) last a s e st k u told o f = subst (λ z. AllKept z news) (sym f) (still_kept t kept news (t_fixed_length_list key) (deeper information) a s (beyond _ _ (k ∙ ap (λ z. length z.fixed_length_lists) (sym e))) refl u)

-- ---- one more table of futures or of streams
-- the payload of an entry is live where the payloads of all are
payload_live : {X : Type 0} (t : Tables) (f : X → Option InterfaceType) (xs : List X) (i : ℕ) → All (λ x. IsLiveMember t (f x)) xs → IsLiveMember t (payload_in f (slice_get xs i))
payload_live t f [] i a = tt
payload_live t f (x ∷ xs) zero a = a 0 x (omega arith)
payload_live t f (x ∷ xs) (suc i) a = payload_live t f xs i (λ k d l. a (suc k) d (omega (arith, l)))

only_member : (t : Tables) (o : Option InterfaceType) → IsLiveMember t o → All (λ (m : List ℕ × Option InterfaceType). IsLiveMember t m.1) (([], o) ∷ [])
only_member t o p zero d l = p
only_member t o p (suc i) d l = absurd (omega (arith, l))

splits_future_table : (t : Tables) (r : TypeFutureTable) (key : Id TypeFutureTables) → key.number ≡ length t.future_tables → Splits t (record t { future_tables = t.future_tables ++ r ∷ [] }) (t_future key) (future_node t.futures (length t.future_tables) r)
splits_future_table t r key e (t_future i) n h = elim (end_splits (future_node t.futures) t.future_tables r i.number n h) [
  | inl (p, l) ↦ inl (p, l)
  | inr (p, q) ↦ inr (ap (λ (m : ℕ). t_future (record { number = m; table = i.table })) (p ∙ sym e), q)
]
splits_future_table t r key e ty n h = inl (h, live_kept t ty n h)

future_table_stands : (t : Tables) → IsSound t → (r : TypeFutureTable) → Stands t (future_node t.futures (length t.future_tables) r)
future_table_stands t s r = record { live = λ i d l. only_member t _ (payload_live t (λ f. f.payload) t.futures r.ty.number (s.held_live of_futures)) i d l; laid = refl; parts = refl }

pub pushed_future_table : {A E : Type 0} (t v : Tables) (kept news : Kept) (r : TypeFutureTable) (key : Id TypeFutureTables) (information : TypeInformation) (res : Result A E) (last : Tables) → AllKept t kept → IsSound t → t ≡ v → key.number ≡ length v.future_tables → Updated kept news (t_future key) (deeper information) → information ≡ made_of (future_node t.futures (length t.future_tables) r).kind (known_members kept (future_node t.futures (length t.future_tables) r)) → OnOk res (last ≡ record t { future_tables = t.future_tables ++ r ∷ [] }) → OnErr res (last ≡ t) → AllKept last news
pushed_future_table t v kept news r key information (Ok x) last a s e k u told o f = subst (λ z. AllKept z news) (sym o) (one_more t kept news (t_future key) (deeper information) a s (beyond _ _ (k ∙ ap (λ z. length z.future_tables) (sym e))) refl u _ (future_node t.futures (length t.future_tables) r) (future_table_stands t s r) (splits_future_table t r key (k ∙ ap (λ z. length z.future_tables) (sym e))) (ap deeper told))
pushed_future_table t v kept news r key information (Err x) last a s e k u told o f = subst (λ z. AllKept z news) (sym f) (still_kept t kept news (t_future key) (deeper information) a s (beyond _ _ (k ∙ ap (λ z. length z.future_tables) (sym e))) refl u)

splits_stream_table : (t : Tables) (r : TypeStreamTable) (key : Id TypeStreamTables) → key.number ≡ length t.stream_tables → Splits t (record t { stream_tables = t.stream_tables ++ r ∷ [] }) (t_stream key) (stream_node t.streams (length t.stream_tables) r)
splits_stream_table t r key e (t_stream i) n h = elim (end_splits (stream_node t.streams) t.stream_tables r i.number n h) [
  | inl (p, l) ↦ inl (p, l)
  | inr (p, q) ↦ inr (ap (λ (m : ℕ). t_stream (record { number = m; table = i.table })) (p ∙ sym e), q)
]
splits_stream_table t r key e ty n h = inl (h, live_kept t ty n h)

stream_table_stands : (t : Tables) → IsSound t → (r : TypeStreamTable) → Stands t (stream_node t.streams (length t.stream_tables) r)
stream_table_stands t s r = record { live = λ i d l. only_member t _ (payload_live t (λ f. f.payload) t.streams r.ty.number (s.held_live of_streams)) i d l; laid = refl; parts = refl }

pub pushed_stream_table : {A E : Type 0} (t v : Tables) (kept news : Kept) (r : TypeStreamTable) (key : Id TypeStreamTables) (information : TypeInformation) (res : Result A E) (last : Tables) → AllKept t kept → IsSound t → t ≡ v → key.number ≡ length v.stream_tables → Updated kept news (t_stream key) (deeper information) → information ≡ made_of (stream_node t.streams (length t.stream_tables) r).kind (known_members kept (stream_node t.streams (length t.stream_tables) r)) → OnOk res (last ≡ record t { stream_tables = t.stream_tables ++ r ∷ [] }) → OnErr res (last ≡ t) → AllKept last news
pushed_stream_table t v kept news r key information (Ok x) last a s e k u told o f = subst (λ z. AllKept z news) (sym o) (one_more t kept news (t_stream key) (deeper information) a s (beyond _ _ (k ∙ ap (λ z. length z.stream_tables) (sym e))) refl u _ (stream_node t.streams (length t.stream_tables) r) (stream_table_stands t s r) (splits_stream_table t r key (k ∙ ap (λ z. length z.stream_tables) (sym e))) (ap deeper told))
pushed_stream_table t v kept news r key information (Err x) last a s e k u told o f = subst (λ z. AllKept z news) (sym f) (still_kept t kept news (t_stream key) (deeper information) a s (beyond _ _ (k ∙ ap (λ z. length z.stream_tables) (sym e))) refl u)
