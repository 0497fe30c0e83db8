-- The shapes that the types of a plan stand for.
use Rattle.std.specs.Prelude.{ℕ, suc, Bool, true, false, ◌&&◌, nat_eq, List, [], ◌∷◌, ◌++◌, map, Option, Some, None, slice_get, unwrap_or}
use Rattle.std.specs.List.{position_or_len}
use Rattle.std.specs.Str.{bytes_eq}
use Rattle.indexmap.specs.IndexSet.{insert_key}
use Rattle.fact_types.specs.declared.interface.InterfaceType.{InterfaceType}
use Rattle.fact_types.specs.declared.interface.InterfaceType.TheVariants as type
use Rattle.fact_types.specs.contracts.interface.InterfaceTypePartialEq.TheImpl as type_eq
use Rattle.fact_types.specs.Shapes.{Kind, k_record, k_variant, k_list, k_tuple, k_map, k_flags, k_enum, k_option, k_result, k_fixed, k_future, k_stream, Shape, s_plain, s_node, Members, no_members, bare, typed, none_name, some_name, ok_name, error_name}
use Rattle.fact_source.specs.declared.defined.PrimitiveValType.{PrimitiveValType}
use Rattle.fact_source.specs.declared.defined.PrimitiveValType.TheVariants as word
use Rattle.fact_plan.specs.declared.plan.PlanRef.{PlanRef}
use Rattle.fact_plan.specs.declared.plan.PlanRef.TheVariants.{Word, Entry}
use Rattle.fact_plan.specs.declared.plan.PlanType.{PlanType}
use Rattle.fact_plan.specs.declared.plan.PlanType.TheVariants as entry
use Rattle.fact_plan.specs.declared.plan.FusePlan.{FusePlan}

-- ---- shapes that are the same

abbrev pub same_kind : Kind → Kind → Bool
same_kind k_record k_record = true
same_kind k_variant k_variant = true
same_kind k_list k_list = true
same_kind k_tuple k_tuple = true
same_kind k_map k_map = true
same_kind k_flags k_flags = true
same_kind k_enum k_enum = true
same_kind k_option k_option = true
same_kind k_result k_result = true
same_kind (k_fixed m) (k_fixed n) = nat_eq m n
same_kind (k_future t i) (k_future u j) = nat_eq t u && nat_eq i j
same_kind (k_stream t i) (k_stream u j) = nat_eq t u && nat_eq i j
same_kind _ _ = false

abbrev mutual
  pub same_shape : Shape → Shape → Bool
  same_shape (s_plain p) (s_plain q) = type_eq.ghosts.eq p q
  same_shape (s_node k ms) (s_node l ns) = same_kind k l && same_members ms ns
  same_shape _ _ = false

  pub same_members : Members → Members → Bool
  same_members no_members no_members = true
  same_members (bare x ms) (bare y ns) = bytes_eq x y && same_members ms ns
  same_members (typed x s ms) (typed y z ns) = bytes_eq x y && (same_shape s z && same_members ms ns)
  same_members _ _ = false

-- ---- tables of futures, streams and error contexts

-- A table of futures or of streams has a payload, or none, and the number of its instance.
pub record HandleTable : Type 0 where
  pub payload : Option Shape
  pub instance : ℕ

abbrev pub same_payload : Option Shape → Option Shape → Bool
same_payload None None = true
same_payload (Some s) (Some z) = same_shape s z
same_payload _ _ = false

abbrev pub same_table : HandleTable → HandleTable → Bool
same_table a b = same_payload a.payload b.payload && nat_eq a.instance b.instance

-- The tables that the entries before a place make, those of one kind with one payload and one instance once. A table of
-- error contexts has the number of its instance alone.
pub record HandleTables : Type 0 where
  pub futures : List HandleTable
  pub streams : List HandleTable
  pub error_contexts : List ℕ

abbrev pub no_handle_tables : HandleTables
no_handle_tables = record { futures = []; streams = []; error_contexts = [] }

-- ---- the shapes of entries, given those of the entries before

-- Words of scalars and of text.
abbrev pub word_type : PrimitiveValType → InterfaceType
word_type word.Bool = type.Bool
word_type word.S8 = type.S8
word_type word.U8 = type.U8
word_type word.S16 = type.S16
word_type word.U16 = type.U16
word_type word.S32 = type.S32
word_type word.U32 = type.U32
word_type word.S64 = type.S64
word_type word.U64 = type.U64
word_type word.Float32 = type.Float32
word_type word.Float64 = type.Float64
word_type word.Char = type.Char
word_type word.String = type.String
word_type word.ErrorContext = type.Bool

-- A type: a word, or an entry before. A plan in which a member names no entry before, or the word of an error context, has
-- a fault, and what stands for the member is of no account.
abbrev pub shape_of : List Shape → PlanRef → Shape
shape_of before (Word w) = s_plain (word_type w)
shape_of before (Entry k) = unwrap_or (slice_get before k) (s_plain type.Bool)

abbrev pub shapes_of : List Shape → List PlanRef → List Shape
shapes_of before rs = map (shape_of before) rs

-- a member that may have no type
abbrev pub member_of : List Shape → List ℕ → Option PlanRef → Members → Members
member_of before name None ms = bare name ms
member_of before name (Some r) ms = typed name (shape_of before r) ms

abbrev pub fields_of : List Shape → List (List ℕ × PlanRef) → Members
fields_of before [] = no_members
fields_of before (f ∷ fs) = typed f.0 (shape_of before f.1) (fields_of before fs)

abbrev pub cases_of : List Shape → List (List ℕ × Option PlanRef) → Members
cases_of before [] = no_members
cases_of before (c ∷ cs) = member_of before c.0 c.1 (cases_of before cs)

-- members that are named by their places, from a place on
abbrev pub places_of : List Shape → ℕ → List PlanRef → Members
places_of before n [] = no_members
places_of before n (r ∷ rs) = typed (n ∷ []) (shape_of before r) (places_of before (suc n) rs)

-- the tuple of types
abbrev pub tuple_shape : List Shape → List PlanRef → Shape
tuple_shape before rs = s_node k_tuple (places_of before 0 rs)

abbrev pub names_alone : List (List ℕ) → Members
names_alone [] = no_members
names_alone (n ∷ ns) = bare n (names_alone ns)

abbrev pub payload_of : List Shape → Option PlanRef → Option Shape
payload_of before None = None
payload_of before (Some r) = Some (shape_of before r)

abbrev pub handle_table : List Shape → Option PlanRef → ℕ → HandleTable
handle_table before payload instance = record { payload = payload_of before payload; instance = instance }

abbrev pub entry_shape : List Shape → HandleTables → PlanType → Shape
entry_shape before t (entry.Record fs) = s_node k_record (fields_of before fs)
entry_shape before t (entry.Variant cs) = s_node k_variant (cases_of before cs)
entry_shape before t (entry.Tuple rs) = tuple_shape before rs
entry_shape before t (entry.List r) = s_node k_list (typed [] (shape_of before r) no_members)
entry_shape before t (entry.Option r) = s_node k_option (bare none_name (typed some_name (shape_of before r) no_members))
entry_shape before t (entry.Map key value) = s_node k_map (places_of before 0 (key ∷ value ∷ []))
entry_shape before t (entry.Result ok err) = s_node k_result (member_of before ok_name ok (member_of before error_name err no_members))
entry_shape before t (entry.Flags ns) = s_node k_flags (names_alone ns)
entry_shape before t (entry.Enum ns) = s_node k_enum (names_alone ns)
entry_shape before t (entry.FixedList r n) = s_node (k_fixed n) (typed [] (shape_of before r) no_members)
entry_shape before t (entry.Own n) = s_plain (type.Own (record { table = _; number = n }))
entry_shape before t (entry.Borrow n) = s_plain (type.Borrow (record { table = _; number = n }))
entry_shape before t (entry.Future p i) = s_node (k_future (position_or_len (same_table (handle_table before p i)) t.futures) i) (member_of before [] p no_members)
entry_shape before t (entry.Stream p i) = s_node (k_stream (position_or_len (same_table (handle_table before p i)) t.streams) i) (member_of before [] p no_members)
entry_shape before t (entry.ErrorContext i) = s_plain (type.ErrorContext (record { table = _; number = position_or_len (nat_eq i) t.error_contexts }))

-- the tables, with that of an entry
abbrev pub tables_with : List Shape → HandleTables → PlanType → HandleTables
tables_with before t (entry.Future p i) = record t { futures = insert_key same_table t.futures (handle_table before p i) }
tables_with before t (entry.Stream p i) = record t { streams = insert_key same_table t.streams (handle_table before p i) }
tables_with before t (entry.ErrorContext i) = record t { error_contexts = insert_key nat_eq t.error_contexts i }
tables_with before t _ = t

-- ---- the shapes of all entries

abbrev pub shapes_from : List Shape → HandleTables → List PlanType → List Shape
shapes_from before t [] = before
shapes_from before t (e ∷ es) = shapes_from (before ++ entry_shape before t e ∷ []) (tables_with before t e) es

-- ---- tuples

-- Tuples with another one behind them, where it is not among them. What is no tuple changes nothing.
abbrev pub with_tuple : List Shape → Shape → List Shape
with_tuple ts (s_node k_tuple ms) = insert_key same_shape ts (s_node k_tuple ms)
with_tuple ts s = ts

-- The tuples among shapes, each once, at its first place, behind other tuples.
abbrev pub tuples_among : List Shape → List Shape → List Shape
tuples_among ts [] = ts
tuples_among ts (s ∷ ss) = tuples_among (with_tuple ts s) ss

-- The shapes of the entries of a plan, in order.
abbrev pub plan_shapes : FusePlan → List Shape
plan_shapes p = shapes_from [] no_handle_tables p.types
