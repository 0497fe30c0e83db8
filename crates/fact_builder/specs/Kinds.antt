-- The kinds of types that have members, and the tables in which these types stand.
use Rattle.std.specs.Prelude.{ℕ}
use Rattle.fact_types.specs.declared.interface.InterfaceType.{InterfaceType}
use Rattle.fact_types.specs.declared.interface.InterfaceType.TheVariants.{Record as t_record, Variant as t_variant, List as t_list, Tuple as t_tuple, Map as t_map, Flags as t_flags, Enum as t_enum, Option as t_option, Result as t_result, Future as t_future, Stream as t_stream, FixedLengthList as t_fixed_length_list}
use Rattle.fact_types.specs.Shapes.{Kind, k_record, k_variant, k_list, k_tuple, k_map, k_flags, k_enum, k_option, k_result, k_fixed, k_future, k_stream}
use Rattle.fact_types.specs.Tables.{Tables, Table, of_records, of_variants, of_tuples, of_flags, of_enums, of_options, of_results, of_lists, of_maps, of_fixed_length_lists, of_future_tables, of_stream_tables, entries_in}

-- The table of the types of a kind.
abbrev pub table_of : Kind → Table
table_of k_record = of_records
table_of k_variant = of_variants
table_of k_list = of_lists
table_of k_tuple = of_tuples
table_of k_map = of_maps
table_of k_flags = of_flags
table_of k_enum = of_enums
table_of k_option = of_options
table_of k_result = of_results
table_of (k_fixed size) = of_fixed_length_lists
table_of (k_future table instance) = of_future_tables
table_of (k_stream table instance) = of_stream_tables

-- How many types of a kind there are.
abbrev pub count_of : Kind → Tables → ℕ
count_of k t = entries_in t (table_of k)

-- The type of a kind at a place of its table.
abbrev pub type_at : Kind → ℕ → InterfaceType
type_at k_record i = t_record (record { number = i; table = _ })
type_at k_variant i = t_variant (record { number = i; table = _ })
type_at k_list i = t_list (record { number = i; table = _ })
type_at k_tuple i = t_tuple (record { number = i; table = _ })
type_at k_map i = t_map (record { number = i; table = _ })
type_at k_flags i = t_flags (record { number = i; table = _ })
type_at k_enum i = t_enum (record { number = i; table = _ })
type_at k_option i = t_option (record { number = i; table = _ })
type_at k_result i = t_result (record { number = i; table = _ })
type_at (k_fixed size) i = t_fixed_length_list (record { number = i; table = _ })
type_at (k_future table instance) i = t_future (record { number = i; table = _ })
type_at (k_stream table instance) i = t_stream (record { number = i; table = _ })
