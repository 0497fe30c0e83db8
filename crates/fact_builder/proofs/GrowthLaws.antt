-- What stays when one of the tables gets one more entry.
use Rattle.std.proofs.Common.{◌≡◌, ◌<◌, ℕ, zero, suc, List, [], ◌∷◌, ◌++◌, length, Option, Some, None, refl, sym, ◌∙◌, ap, subst, arith, All}
use Rattle.std.specs.Prelude.{slice_get, option_map, Result, Ok, Err, IfOk, IfErr, OnOk, OnErr}
use Rattle.fact_entity.specs.declared.id.Id.{Id}
use Rattle.fact_entity.specs.declared.table.SourceResources.{SourceResources}
use Rattle.fact_entity.specs.declared.table.TypeResourceTables.{TypeResourceTables}
use Rattle.std.proofs.lemmas.Option.{get_or_from_slice_get, slice_get-get_or, slice_get_within}
use Rattle.fact_types.specs.declared.interface.InterfaceType.{InterfaceType}
use Rattle.fact_types.specs.declared.interface.InterfaceType.TheVariants.{Record as t_record, Variant as t_variant, List as t_list, Tuple as t_tuple, Map as t_map, Flags as t_flags, Enum as t_enum, Option as t_option, Result as t_result, Own as t_own, Borrow as t_borrow, Future as t_future, Stream as t_stream, ErrorContext as t_error_context, FixedLengthList as t_fixed_length_list}
use Rattle.fact_types.specs.declared.kinds.TypeFunc.{TypeFunc}
use Rattle.fact_types.specs.declared.kinds.TypeRecord.{TypeRecord}
use Rattle.fact_types.specs.declared.kinds.TypeTuple.{TypeTuple}
use Rattle.fact_types.specs.declared.kinds.TypeFixedLengthList.{TypeFixedLengthList}
use Rattle.fact_types.specs.declared.kinds.TypeOption.{TypeOption}
use Rattle.fact_types.specs.declared.kinds.TypeResult.{TypeResult}
use Rattle.fact_types.specs.declared.kinds.TypeList.{TypeList}
use Rattle.fact_types.specs.declared.kinds.TypeMap.{TypeMap}
use Rattle.fact_types.specs.declared.kinds.TypeFuture.{TypeFuture}
use Rattle.fact_types.specs.declared.kinds.TypeFutureTable.{TypeFutureTable}
use Rattle.fact_types.specs.declared.kinds.TypeStream.{TypeStream}
use Rattle.fact_types.specs.declared.kinds.TypeStreamTable.{TypeStreamTable}
use Rattle.fact_types.specs.declared.kinds.TypeErrorContextTable.{TypeErrorContextTable}
use Rattle.fact_types.specs.declared.kinds.TypeResourceTable.{TypeResourceTable}
use Rattle.fact_types.specs.Functions.{HaveShapes}
use Rattle.fact_types.specs.Layout.{scalar_layout}
use Rattle.fact_types.specs.Ordered.{VariantType, FlagsType, EnumType}
use Rattle.fact_types.specs.Shapes.{k_future, k_stream, no_parts, Shape}
use Rattle.fact_types.specs.Tables.{Tables, Table, of_functions, of_records, of_variants, of_tuples, of_flags, of_enums, of_options, of_results, of_lists, of_maps, of_fixed_length_lists, of_futures, of_future_tables, of_streams, of_stream_tables, of_error_context_tables, of_resource_tables, Node, record_node, variant_node, tuple_node, flags_node, enum_node, option_node, result_node, list_node, map_node, fixed_length_list_node, future_node, stream_node, payload_in, node_of, IsLive, IsSound}
use Rattle.fact_types.proofs.ShapeLaws.{Grows, keeps_shape}
use Rattle.fact_builder.specs.declared.error.BuildError.{BuildError}
use Rattle.fact_builder.specs.Known.{KnownResources, MakesTable, MayRefuseTable}
use Rattle.fact_builder.specs.Keeps.{Keeps}

-- ---- tables whose entries stay where they were
abbrev Stay : {X : Type 0} → List X → List X → Type 0
Stay {X} xs ys = (i : ℕ) (x : X) → slice_get xs i ≡ Some x → slice_get ys i ≡ Some x

-- of futures and streams it is enough that tables of them find what they found
abbrev StayIn : Tables → Tables → Table → Type 0
StayIn t u of_futures = (i : ℕ) (e : TypeFutureTable) → slice_get t.future_tables i ≡ Some e → slice_get t.futures e.ty.number ≡ slice_get u.futures e.ty.number
StayIn t u of_streams = (i : ℕ) (e : TypeStreamTable) → slice_get t.stream_tables i ≡ Some e → slice_get t.streams e.ty.number ≡ slice_get u.streams e.ty.number
StayIn t u of_functions = Stay t.functions u.functions
StayIn t u of_records = Stay t.records u.records
StayIn t u of_flags = Stay t.flags u.flags
StayIn t u of_tuples = Stay t.tuples u.tuples
StayIn t u of_fixed_length_lists = Stay t.fixed_length_lists u.fixed_length_lists
StayIn t u of_variants = Stay t.variants u.variants
StayIn t u of_enums = Stay t.enums u.enums
StayIn t u of_options = Stay t.options u.options
StayIn t u of_results = Stay t.results u.results
StayIn t u of_lists = Stay t.lists u.lists
StayIn t u of_maps = Stay t.maps u.maps
StayIn t u of_future_tables = Stay t.future_tables u.future_tables
StayIn t u of_stream_tables = Stay t.stream_tables u.stream_tables
StayIn t u of_error_context_tables = Stay t.error_context_tables u.error_context_tables
StayIn t u of_resource_tables = Stay t.resource_tables u.resource_tables
StayIn t u table = Unit {0}

still_there : {X : Type 0} (xs ys : List X) → Stay xs ys → (i : ℕ) → i < length xs → i < length ys
still_there [] ys s i l = absurd (omega (arith, l))
still_there (x ∷ xs) ys s i l = slice_get_within ys i _ (s i _ (slice_get-get_or (x ∷ xs) i x l))

still_live : (t u : Tables) → ((table : Table) → StayIn t u table) → (ty : InterfaceType) → IsLive t ty → IsLive u ty
still_live t u s (t_record i) l = still_there t.records u.records (s of_records) i.number l
still_live t u s (t_variant i) l = still_there t.variants u.variants (s of_variants) i.number l
still_live t u s (t_list i) l = still_there t.lists u.lists (s of_lists) i.number l
still_live t u s (t_tuple i) l = still_there t.tuples u.tuples (s of_tuples) i.number l
still_live t u s (t_map i) l = still_there t.maps u.maps (s of_maps) i.number l
still_live t u s (t_flags i) l = still_there t.flags u.flags (s of_flags) i.number l
still_live t u s (t_enum i) l = still_there t.enums u.enums (s of_enums) i.number l
still_live t u s (t_option i) l = still_there t.options u.options (s of_options) i.number l
still_live t u s (t_result i) l = still_there t.results u.results (s of_results) i.number l
still_live t u s (t_own i) l = still_there t.resource_tables u.resource_tables (s of_resource_tables) i.number l
still_live t u s (t_borrow i) l = still_there t.resource_tables u.resource_tables (s of_resource_tables) i.number l
still_live t u s (t_future i) l = still_there t.future_tables u.future_tables (s of_future_tables) i.number l
still_live t u s (t_stream i) l = still_there t.stream_tables u.stream_tables (s of_stream_tables) i.number l
still_live t u s (t_error_context i) l = still_there t.error_context_tables u.error_context_tables (s of_error_context_tables) i.number l
still_live t u s (t_fixed_length_list i) l = still_there t.fixed_length_lists u.fixed_length_lists (s of_fixed_length_lists) i.number l
still_live t u s ty l = l

node_stays : {X : Type 0} (f g : X → Node) (o p : Option X) → ((x : X) → o ≡ Some x → p ≡ Some x) → ((x : X) → o ≡ Some x → f x ≡ g x) → (n : Node) → option_map f o ≡ Some n → option_map g p ≡ Some n
node_stays f g None p s e n h = cc
node_stays f g (Some x) p s e n h = ap (option_map g) (s x refl) ∙ ap Some (sym (e x refl)) ∙ h

nodes_stay : (t u : Tables) → ((table : Table) → StayIn t u table) → (ty : InterfaceType) (n : Node) → node_of t ty ≡ Some n → node_of u ty ≡ Some n
nodes_stay t u s (t_record i) n h = node_stays record_node record_node _ _ (s of_records i.number) (λ e k. refl) n h
nodes_stay t u s (t_variant i) n h = node_stays variant_node variant_node _ _ (s of_variants i.number) (λ e k. refl) n h
nodes_stay t u s (t_list i) n h = node_stays list_node list_node _ _ (s of_lists i.number) (λ e k. refl) n h
nodes_stay t u s (t_tuple i) n h = node_stays tuple_node tuple_node _ _ (s of_tuples i.number) (λ e k. refl) n h
nodes_stay t u s (t_map i) n h = node_stays map_node map_node _ _ (s of_maps i.number) (λ e k. refl) n h
nodes_stay t u s (t_flags i) n h = node_stays flags_node flags_node _ _ (s of_flags i.number) (λ e k. refl) n h
nodes_stay t u s (t_enum i) n h = node_stays enum_node enum_node _ _ (s of_enums i.number) (λ e k. refl) n h
nodes_stay t u s (t_option i) n h = node_stays option_node option_node _ _ (s of_options i.number) (λ e k. refl) n h
nodes_stay t u s (t_result i) n h = node_stays result_node result_node _ _ (s of_results i.number) (λ e k. refl) n h
nodes_stay t u s (t_future i) n h =
    node_stays (future_node t.futures i.number) (future_node u.futures i.number) _ _ (s of_future_tables i.number)
    (λ e k j. record { kind = k_future i.number e.instance.number; members = ([], payload_in (λ f. f.payload) (s of_futures i.number e k j)) ∷ []; abi = scalar_layout 4; parts = no_parts }) n h
nodes_stay t u s (t_stream i) n h =
    node_stays (stream_node t.streams i.number) (stream_node u.streams i.number) _ _ (s of_stream_tables i.number)
    (λ e k j. record { kind = k_stream i.number e.instance.number; members = ([], payload_in (λ f. f.payload) (s of_streams i.number e k j)) ∷ []; abi = scalar_layout 4; parts = no_parts }) n h
nodes_stay t u s (t_fixed_length_list i) n h = node_stays fixed_length_list_node fixed_length_list_node _ _ (s of_fixed_length_lists i.number) (λ e k. refl) n h
nodes_stay t u s ty n h = h

shapes_stay : (t u : Tables) → Grows t u → (tys : List InterfaceType) (ss : List Shape) → HaveShapes t tys ss → HaveShapes u tys ss
shapes_stay t u g [] [] h = tt
shapes_stay t u g [] (s ∷ ss) h = h
shapes_stay t u g (ty ∷ tys) [] h = h
shapes_stay t u g (ty ∷ tys) (s ∷ ss) (h, hs) = (keeps_shape t u g s ty h, shapes_stay t u g tys ss hs)

keeps : (t u : Tables) → ((table : Table) → StayIn t u table) → Keeps t u
keeps t u s =
    let g : Grows t u = record { nodes = nodes_stay t u s; live = still_live t u s } in
    record {
      live = still_live t u s;
      shapes = λ ty shape h. keeps_shape t u g shape ty h;
      signatures = λ i ps rs h. record {
        func = h.func;
        func_there = s of_functions i.number h.func h.func_there;
        taken = h.taken;
        taken_there = s of_tuples h.func.params.number h.taken h.taken_there;
        takes = shapes_stay t u g h.taken.types ps h.takes;
        given = h.given;
        given_there = s of_tuples h.func.results.number h.given h.given_there;
        gives = shapes_stay t u g h.given.types rs h.gives;
      };
    }

-- ---- the same tables
all_stay : (t : Tables) (table : Table) → StayIn t t table
all_stay t of_futures = λ i e h. refl
all_stay t of_streams = λ i e h. refl
all_stay t of_functions = λ i x h. h
all_stay t of_records = λ i x h. h
all_stay t of_flags = λ i x h. h
all_stay t of_tuples = λ i x h. h
all_stay t of_fixed_length_lists = λ i x h. h
all_stay t of_variants = λ i x h. h
all_stay t of_enums = λ i x h. h
all_stay t of_options = λ i x h. h
all_stay t of_results = λ i x h. h
all_stay t of_lists = λ i x h. h
all_stay t of_maps = λ i x h. h
all_stay t of_future_tables = λ i x h. h
all_stay t of_stream_tables = λ i x h. h
all_stay t of_error_context_tables = λ i x h. h
all_stay t of_resource_tables = λ i x h. h
all_stay t table = tt

pub same_keeps : (t u : Tables) → t ≡ u → Keeps t u
same_keeps t u e = subst (Keeps t) e (keeps t t (all_stay t))

-- ---- one more entry
one_more : {X : Type 0} (xs : List X) (y : X) → Stay xs (xs ++ y ∷ [])
one_more [] y i x h = cc
one_more (z ∷ zs) y zero x h = h
one_more (z ∷ zs) y (suc i) x h = one_more zs y i x h

found_before : {X : Type 0} (xs : List X) (y : X) (i : ℕ) → i < length xs → slice_get xs i ≡ slice_get (xs ++ y ∷ []) i
found_before [] y i l = absurd (omega (arith, l))
found_before (x ∷ xs) y zero l = refl
found_before (x ∷ xs) y (suc i) l = found_before xs y i (omega (arith, l))

pub held : {X : Type 0} (P : X → Type 0) (xs : List X) (i : ℕ) (x : X) → slice_get xs i ≡ Some x → All P xs → P x
held P xs i x h a = subst P (get_or_from_slice_get xs i x x h) (a i x (slice_get_within xs i x h))

-- after a call that may refuse
after : {A E : Type 0} (t v u last : Tables) → t ≡ v → (res : Result A E) → OnOk res (last ≡ u) → OnErr res (last ≡ t) → Keeps t u → Keeps v last
after t v u last w (Ok x) o e k = subst (λ (z : Tables). Keeps z last) w (subst (Keeps t) (sym o) k)
after t v u last w (Err x) o e k = subst (λ (z : Tables). Keeps z last) w (same_keeps t last (sym e))

stay_func : (t : Tables) (r : TypeFunc) → (table : Table) → StayIn t (record t { functions = t.functions ++ r ∷ [] }) table
stay_func t r of_functions = one_more t.functions r
stay_func t r table = all_stay t table

pub func_keeps : {A E : Type 0} (t v last : Tables) → t ≡ v → (r : TypeFunc) (res : Result A E) → OnOk res (last ≡ record t { functions = t.functions ++ r ∷ [] }) → OnErr res (last ≡ t) → Keeps v last
func_keeps t v last w r res o e = after t v _ last w res o e (keeps t _ (stay_func t r))

stay_record : (t : Tables) (r : TypeRecord) → (table : Table) → StayIn t (record t { records = t.records ++ r ∷ [] }) table
stay_record t r of_records = one_more t.records r
stay_record t r table = all_stay t table

pub record_keeps : {A E : Type 0} (t v last : Tables) → t ≡ v → (r : TypeRecord) (res : Result A E) → OnOk res (last ≡ record t { records = t.records ++ r ∷ [] }) → OnErr res (last ≡ t) → Keeps v last
record_keeps t v last w r res o e = after t v _ last w res o e (keeps t _ (stay_record t r))

stay_flags : (t : Tables) (r : FlagsType) → (table : Table) → StayIn t (record t { flags = t.flags ++ r ∷ [] }) table
stay_flags t r of_flags = one_more t.flags r
stay_flags t r table = all_stay t table

pub flags_keeps : {A E : Type 0} (t v last : Tables) → t ≡ v → (r : FlagsType) (res : Result A E) → OnOk res (last ≡ record t { flags = t.flags ++ r ∷ [] }) → OnErr res (last ≡ t) → Keeps v last
flags_keeps t v last w r res o e = after t v _ last w res o e (keeps t _ (stay_flags t r))

stay_tuple : (t : Tables) (r : TypeTuple) → (table : Table) → StayIn t (record t { tuples = t.tuples ++ r ∷ [] }) table
stay_tuple t r of_tuples = one_more t.tuples r
stay_tuple t r table = all_stay t table

pub tuple_keeps : {A E : Type 0} (t v last : Tables) → t ≡ v → (r : TypeTuple) (res : Result A E) → OnOk res (last ≡ record t { tuples = t.tuples ++ r ∷ [] }) → OnErr res (last ≡ t) → Keeps v last
tuple_keeps t v last w r res o e = after t v _ last w res o e (keeps t _ (stay_tuple t r))

stay_fixed_length_list : (t : Tables) (r : TypeFixedLengthList) → (table : Table) → StayIn t (record t { fixed_length_lists = t.fixed_length_lists ++ r ∷ [] }) table
stay_fixed_length_list t r of_fixed_length_lists = one_more t.fixed_length_lists r
stay_fixed_length_list t r table = all_stay t table

pub fixed_length_list_keeps : {A E : Type 0} (t v last : Tables) → t ≡ v → (r : TypeFixedLengthList) (res : Result A E) → OnOk res (last ≡ record t { fixed_length_lists = t.fixed_length_lists ++ r ∷ [] }) → OnErr res (last ≡ t) → Keeps v last
fixed_length_list_keeps t v last w r res o e = after t v _ last w res o e (keeps t _ (stay_fixed_length_list t r))

stay_variant : (t : Tables) (r : VariantType) → (table : Table) → StayIn t (record t { variants = t.variants ++ r ∷ [] }) table
stay_variant t r of_variants = one_more t.variants r
stay_variant t r table = all_stay t table

pub variant_keeps : {A E : Type 0} (t v last : Tables) → t ≡ v → (r : VariantType) (res : Result A E) → OnOk res (last ≡ record t { variants = t.variants ++ r ∷ [] }) → OnErr res (last ≡ t) → Keeps v last
variant_keeps t v last w r res o e = after t v _ last w res o e (keeps t _ (stay_variant t r))

stay_enum : (t : Tables) (r : EnumType) → (table : Table) → StayIn t (record t { enums = t.enums ++ r ∷ [] }) table
stay_enum t r of_enums = one_more t.enums r
stay_enum t r table = all_stay t table

pub enum_keeps : {A E : Type 0} (t v last : Tables) → t ≡ v → (r : EnumType) (res : Result A E) → OnOk res (last ≡ record t { enums = t.enums ++ r ∷ [] }) → OnErr res (last ≡ t) → Keeps v last
enum_keeps t v last w r res o e = after t v _ last w res o e (keeps t _ (stay_enum t r))

stay_option : (t : Tables) (r : TypeOption) → (table : Table) → StayIn t (record t { options = t.options ++ r ∷ [] }) table
stay_option t r of_options = one_more t.options r
stay_option t r table = all_stay t table

pub option_keeps : {A E : Type 0} (t v last : Tables) → t ≡ v → (r : TypeOption) (res : Result A E) → OnOk res (last ≡ record t { options = t.options ++ r ∷ [] }) → OnErr res (last ≡ t) → Keeps v last
option_keeps t v last w r res o e = after t v _ last w res o e (keeps t _ (stay_option t r))

stay_result : (t : Tables) (r : TypeResult) → (table : Table) → StayIn t (record t { results = t.results ++ r ∷ [] }) table
stay_result t r of_results = one_more t.results r
stay_result t r table = all_stay t table

pub result_keeps : {A E : Type 0} (t v last : Tables) → t ≡ v → (r : TypeResult) (res : Result A E) → OnOk res (last ≡ record t { results = t.results ++ r ∷ [] }) → OnErr res (last ≡ t) → Keeps v last
result_keeps t v last w r res o e = after t v _ last w res o e (keeps t _ (stay_result t r))

stay_list : (t : Tables) (r : TypeList) → (table : Table) → StayIn t (record t { lists = t.lists ++ r ∷ [] }) table
stay_list t r of_lists = one_more t.lists r
stay_list t r table = all_stay t table

pub list_keeps : {A E : Type 0} (t v last : Tables) → t ≡ v → (r : TypeList) (res : Result A E) → OnOk res (last ≡ record t { lists = t.lists ++ r ∷ [] }) → OnErr res (last ≡ t) → Keeps v last
list_keeps t v last w r res o e = after t v _ last w res o e (keeps t _ (stay_list t r))

stay_map : (t : Tables) (r : TypeMap) → (table : Table) → StayIn t (record t { maps = t.maps ++ r ∷ [] }) table
stay_map t r of_maps = one_more t.maps r
stay_map t r table = all_stay t table

pub map_keeps : {A E : Type 0} (t v last : Tables) → t ≡ v → (r : TypeMap) (res : Result A E) → OnOk res (last ≡ record t { maps = t.maps ++ r ∷ [] }) → OnErr res (last ≡ t) → Keeps v last
map_keeps t v last w r res o e = after t v _ last w res o e (keeps t _ (stay_map t r))

pub stay_future : (t : Tables) (r : TypeFuture) → IsSound t → (table : Table) → StayIn t (record t { futures = t.futures ++ r ∷ [] }) table
stay_future t r sound of_futures = λ i e h. found_before t.futures r e.ty.number (held (λ e. e.ty.number < length t.futures) t.future_tables i e h (sound.held_live of_future_tables))
stay_future t r sound table = all_stay t table

pub future_keeps : {A E : Type 0} (t v last : Tables) → t ≡ v → (r : TypeFuture) (res : Result A E) → IsSound t → OnOk res (last ≡ record t { futures = t.futures ++ r ∷ [] }) → OnErr res (last ≡ t) → Keeps v last
future_keeps t v last w r res sound o e = after t v _ last w res o e (keeps t _ (stay_future t r sound))

stay_future_table : (t : Tables) (r : TypeFutureTable) → (table : Table) → StayIn t (record t { future_tables = t.future_tables ++ r ∷ [] }) table
stay_future_table t r of_future_tables = one_more t.future_tables r
stay_future_table t r table = all_stay t table

pub future_table_keeps : {A E : Type 0} (t v last : Tables) → t ≡ v → (r : TypeFutureTable) (res : Result A E) → OnOk res (last ≡ record t { future_tables = t.future_tables ++ r ∷ [] }) → OnErr res (last ≡ t) → Keeps v last
future_table_keeps t v last w r res o e = after t v _ last w res o e (keeps t _ (stay_future_table t r))

pub stay_stream : (t : Tables) (r : TypeStream) → IsSound t → (table : Table) → StayIn t (record t { streams = t.streams ++ r ∷ [] }) table
stay_stream t r sound of_streams = λ i e h. found_before t.streams r e.ty.number (held (λ e. e.ty.number < length t.streams) t.stream_tables i e h (sound.held_live of_stream_tables))
stay_stream t r sound table = all_stay t table

pub stream_keeps : {A E : Type 0} (t v last : Tables) → t ≡ v → (r : TypeStream) (res : Result A E) → IsSound t → OnOk res (last ≡ record t { streams = t.streams ++ r ∷ [] }) → OnErr res (last ≡ t) → Keeps v last
stream_keeps t v last w r res sound o e = after t v _ last w res o e (keeps t _ (stay_stream t r sound))

stay_stream_table : (t : Tables) (r : TypeStreamTable) → (table : Table) → StayIn t (record t { stream_tables = t.stream_tables ++ r ∷ [] }) table
stay_stream_table t r of_stream_tables = one_more t.stream_tables r
stay_stream_table t r table = all_stay t table

pub stream_table_keeps : {A E : Type 0} (t v last : Tables) → t ≡ v → (r : TypeStreamTable) (res : Result A E) → OnOk res (last ≡ record t { stream_tables = t.stream_tables ++ r ∷ [] }) → OnErr res (last ≡ t) → Keeps v last
stream_table_keeps t v last w r res o e = after t v _ last w res o e (keeps t _ (stay_stream_table t r))

stay_error_context_table : (t : Tables) (r : TypeErrorContextTable) → (table : Table) → StayIn t (record t { error_context_tables = t.error_context_tables ++ r ∷ [] }) table
stay_error_context_table t r of_error_context_tables = one_more t.error_context_tables r
stay_error_context_table t r table = all_stay t table

pub error_context_table_keeps : {A E : Type 0} (t v last : Tables) → t ≡ v → (r : TypeErrorContextTable) (res : Result A E) → OnOk res (last ≡ record t { error_context_tables = t.error_context_tables ++ r ∷ [] }) → OnErr res (last ≡ t) → Keeps v last
error_context_table_keeps t v last w r res o e = after t v _ last w res o e (keeps t _ (stay_error_context_table t r))

stay_resource_table : (t : Tables) (r : TypeResourceTable) → (table : Table) → StayIn t (record t { resource_tables = t.resource_tables ++ r ∷ [] }) table
stay_resource_table t r of_resource_tables = one_more t.resource_tables r
stay_resource_table t r table = all_stay t table

pub resource_table_keeps : {A E : Type 0} (t v last : Tables) → t ≡ v → (r : TypeResourceTable) (res : Result A E) → OnOk res (last ≡ record t { resource_tables = t.resource_tables ++ r ∷ [] }) → OnErr res (last ≡ t) → Keeps v last
resource_table_keeps t v last w r res o e = after t v _ last w res o e (keeps t _ (stay_resource_table t r))

-- the same where the table is made for a resource
pub made_table_keeps : (a b : KnownResources) (t v last : Tables) → t ≡ v → (id : Id SourceResources) (res : Result (Id TypeResourceTables) BuildError) → IfOk res (MakesTable a t id b last) → IfErr res (λ e. (b ≡ a) × (last ≡ t) × MayRefuseTable a t id e) → Keeps v last
made_table_keeps a b t v last w id (Ok i) made refused = resource_table_keeps {E = BuildError} t v last w made.table (Ok i) made.added tt
made_table_keeps a b t v last w id (Err e) made (back, same, why) = subst (λ (z : Tables). Keeps z last) w (same_keeps t last (sym same))
