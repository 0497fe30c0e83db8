-- What a call that makes a type of its members does to a builder.
use Rattle.std.specs.Prelude.{◌≡◌, ℕ, ◌<◌, ◌≤◌, ◌+◌, ◌⊎◌, List, Option, Result, Err, Some, IfOk, IsErr, OnErr, length}
use Rattle.fact_entity.specs.declared.error.PushError.{PushError}
use Rattle.fact_entity.specs.declared.error.PushError.TheVariants.{TooLarge}
use Rattle.fact_types.specs.declared.interface.InterfaceType.{InterfaceType}
use Rattle.fact_types.specs.Layout.{payloads}
use Rattle.fact_types.specs.Shapes.{Kind, k_record, k_variant, k_list, k_tuple, k_map, k_flags, k_enum, k_option, k_result, k_fixed, k_future, k_stream, Members, s_node, layout_of, layouts_of, IsWithin}
use Rattle.fact_types.specs.Tables.{Tables, Node, node_of, IsLive, HasShape, HasMembers, entries}
use Rattle.fact_types.specs.Valid.{IsEntryWithin}
use Rattle.fact_builder.specs.Builder.{Builder}
use Rattle.fact_builder.specs.Keeps.{Keeps}
use Rattle.fact_builder.specs.Kinds.{count_of, type_at}

-- How many members types of a kind can have: variants and enums at most 4,294,967,295 cases, flags at most 8,160 names.
abbrev pub AreFew : Kind → ℕ → Type 0
AreFew k_variant n = n ≤ 4294967295
AreFew k_enum n = n ≤ 4294967295
AreFew k_flags n = n ≤ 8160
AreFew _ n = Unit {0}

-- Values of a kind with these members, and the entries of a map, take at most 4,294,967,295 bytes in either memory, and
-- there are not too many members.
pub record FitsBytes (k : Kind) (ms : Members) : Type 0 where
  pub within : IsWithin (layout_of (s_node k ms))
  pub entry_within : IsEntryWithin k (payloads (layouts_of ms))
  pub few : AreFew k (length (layouts_of ms))

-- The tables have no type of a kind with these members.
abbrev pub IsNew : Tables → Kind → List (List ℕ × Option InterfaceType) → Type 0
IsNew t k xs = (ty : InterfaceType) (n : Node) → node_of t ty ≡ Some n → n.kind ≡ k → n.members ≡ xs → ⊥

-- A type of a kind with these members cannot be had: it does not fit, or it is new and the table of its kind is full.
abbrev pub CannotBeMade : Tables → Kind → List (List ℕ × Option InterfaceType) → Type 0
CannotBeMade t k xs = ((ms : Members) → HasMembers t xs ms → FitsBytes k ms → ⊥) ⊎ (IsNew t k xs × (count_of k t ≡ 4294967295))

-- A builder with the table of a kind of another; all else is its own. Handles are not made of their members.
abbrev pub with_table_of : Kind → Builder → Builder → Builder
with_table_of k_record old new = record old { tables = record old.tables { records = new.tables.records } }
with_table_of k_variant old new = record old { tables = record old.tables { variants = new.tables.variants } }
with_table_of k_list old new = record old { tables = record old.tables { lists = new.tables.lists } }
with_table_of k_tuple old new = record old { tables = record old.tables { tuples = new.tables.tuples } }
with_table_of k_map old new = record old { tables = record old.tables { maps = new.tables.maps } }
with_table_of k_flags old new = record old { tables = record old.tables { flags = new.tables.flags } }
with_table_of k_enum old new = record old { tables = record old.tables { enums = new.tables.enums } }
with_table_of k_option old new = record old { tables = record old.tables { options = new.tables.options } }
with_table_of k_result old new = record old { tables = record old.tables { results = new.tables.results } }
with_table_of (k_fixed size) old new = record old { tables = record old.tables { fixed_length_lists = new.tables.fixed_length_lists } }
with_table_of (k_future table instance) old new = old
with_table_of (k_stream table instance) old new = old

-- A type is of a kind. It was there, and the builder is as before, or it is the last one of its table, which has one more,
-- and is new.
pub record IsPlaced (old new : Builder) (k : Kind) (xs : List (List ℕ × Option InterfaceType)) (ty : InterfaceType) : Type 0 where
  pub place : ℕ
  pub of_kind : ty ≡ type_at k place
  pub found_or_added : ((new ≡ old) × (place < count_of k old.tables)) ⊎ ((place ≡ count_of k old.tables) × (count_of k new.tables ≡ count_of k old.tables + 1) × IsNew old.tables k xs)

-- A type of kind k with members xs was looked for in the builder, and added where it was not there. A type that is too large
-- is never answered.
pub record Makes (old new : Builder) (k : Kind) (xs : List (List ℕ × Option InterfaceType)) (result : Result InterfaceType PushError) : Type 0 where
  pub live : IfOk result (IsLive new.tables)
  pub shaped : IfOk result (λ ty. (ms : Members) → HasMembers old.tables xs ms → HasShape new.tables ty (s_node k ms))
  pub placed : IfOk result (IsPlaced old new k xs)
  pub fits : IfOk result (λ ty. (ms : Members) → HasMembers old.tables xs ms → FitsBytes k ms)
  pub too_large : result ≡ Err TooLarge → CannotBeMade old.tables k xs
  pub refuses : CannotBeMade old.tables k xs → IsErr result
  pub refused : OnErr result (new ≡ old)
  pub keeps : Keeps old.tables new.tables
  pub grows : entries new.tables ≤ entries old.tables + 1
  pub rest : new ≡ with_table_of k old new
