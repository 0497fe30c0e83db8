-- What the canonical options of a side say of its memory.
use Rattle.std.specs.Prelude.{ℕ, Option, Some, None, is_some, option_map}
use Rattle.fact_entity.specs.declared.id.Id.{Id}
use Rattle.fact_entity.specs.declared.table.Memories.{Memories}
use Rattle.fact_emit.specs.ImportSection.{custom_page_size}
use Rattle.fact_emit.specs.declared.options.Options.{Options}
use Rattle.fact_emit.specs.declared.places.LinearMemory.{LinearMemory}

-- the place of a memory among the imported memories, or 0 where there is none
abbrev pub memory_place : Option (Id Memories) → ℕ
memory_place None = 0
memory_place (Some m) = m.number

-- the place of what is imported, where there is some
abbrev pub number_if_any : {T : Type 0} → Option (Id T) → Option ℕ
number_if_any place = option_map (λ i. i.number) place

-- a side's memory as code uses it
abbrev pub linear_of_options : Options → LinearMemory
linear_of_options o = record {
  has_memory = is_some o.linear.memory;
  memory = memory_place o.linear.memory;
  memory64 = o.linear.memory64;
  page_size_log2 = custom_page_size o.linear.page_size_log2;
  realloc = number_if_any o.linear.realloc;
  encoding = o.string_encoding;
  options = o;
}
