-- Cited by private clauses alone.
-- The data that an adapter's code is written by, and the places in them.
use Rattle.std.specs.Prelude.{◌≡◌, ℕ, List, ◌++◌, Option, None, Some}
use Rattle.fact_entity.specs.declared.id.Id.{Id}
use Rattle.fact_entity.specs.declared.table.TypeFuncs.{TypeFuncs}
use Rattle.fact_types.specs.Adapters.{LinkedAdapter, Side, is_wide}
use Rattle.fact_types.specs.declared.outside.MemoryOption.{MemoryOption}
use Rattle.fact_builder.specs.Builder.{Builder}
use Rattle.fact_adapter_rules.specs.Linked.{IsLinked}
use Rattle.fact_adapter_rules.specs.declared.adapter.AdapterOptionsDfg.{AdapterOptionsDfg}
use Rattle.fact_adapter_rules.specs.declared.sides.Candidate.{Candidate}
use Rattle.fact_compound.specs.declared.adapters.AdapterData.{AdapterData}
use Rattle.fact_compound.specs.declared.adapters.AdapterOptions.{AdapterOptions}
use Rattle.fact_emit.specs.AdapterImports.{AdapterImports, SideImports}
use Rattle.fact_emit.specs.ImportSection.{Mention, adapter_mentions}
use Rattle.fact_emit.specs.Known.{AreKnown, AreUsedAlike}
use Rattle.fact_emit.specs.Options.{number_if_any}
use Rattle.fact_emit.specs.States.{ModuleSoFar}

-- where the module has what a side names
abbrev pub side_imports_of : AdapterOptions → SideImports
side_imports_of o = record {
  flags = o.flags.number;
  memory = number_if_any o.options.linear.memory;
  realloc = number_if_any o.options.linear.realloc;
  callback = number_if_any o.options.callback;
}

abbrev pub imports_of_data : AdapterData → AdapterImports
imports_of_data d = record { lift = side_imports_of d.lift; lower = side_imports_of d.lower; callee = d.callee.number; post_return = number_if_any d.lift.post_return }

-- a side names what these options name
pub record NamesOf (o : AdapterOptionsDfg) (s : Side) : Type 0 where
  pub instance : s.instance ≡ o.instance.number
  pub memory : s.memory ≡ o.memory
  pub realloc : s.realloc ≡ o.realloc
  pub callback : s.callback ≡ o.callback

abbrev pub page_size_log2_of : Option MemoryOption → ℕ
page_size_log2_of None = 16
page_size_log2_of (Some m) = m.page_size_log2

-- the data of a side of this function type and these options
pub record IsDataOfSide (ty : Id TypeFuncs) (o : AdapterOptionsDfg) (d : AdapterOptions) : Type 0 where
  pub instance : d.instance ≡ o.instance
  pub ty_is : d.ty ≡ ty
  pub encoding : d.options.string_encoding ≡ o.string_encoding
  pub memory64 : d.options.linear.memory64 ≡ is_wide o.memory
  pub page_size_log2 : d.options.linear.page_size_log2 ≡ page_size_log2_of o.memory
  pub async_ : d.options.async_ ≡ o.async_
  pub core_type : d.options.core_type ≡ o.core_type

-- the data of an adapter
pub record IsDataOfCandidate (c : Candidate) (d : AdapterData) : Type 0 where
  pub name : d.name ≡ c.name.now
  pub lift : IsDataOfSide c.adapter.now.lift_ty c.adapter.now.lift_options d.lift
  pub lower : IsDataOfSide c.adapter.now.lower_ty c.adapter.now.lower_options d.lower
  pub transparent : d.transparent ≡ c.transparent

-- An adapter that a candidate is, where what is imported so far is what these mentions say, and the adapter uses no definition in another way.
pub record CanBeImported (b : Builder) (c : Candidate) (s : ModuleSoFar) : Type 0 where
  pub adapter : LinkedAdapter
  pub is : IsLinked b c adapter
  pub before : List Mention
  pub known : AreKnown s before
  pub alike : AreUsedAlike (before ++ adapter_mentions adapter)
