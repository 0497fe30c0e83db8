-- Adapters whose types stand in a builder.
use Rattle.std.specs.Prelude.{◌≡◌, ◌<◌, Some, is_some, slice_get, length}
use Rattle.fact_entity.specs.declared.id.Id.{Id}
use Rattle.fact_entity.specs.declared.table.TypeFuncs.{TypeFuncs}
use Rattle.fact_types.specs.declared.signature.SideSig.{SideSig}
use Rattle.fact_types.specs.Functions.{HasSignature}
use Rattle.fact_builder.specs.Builder.{Builder}
use Rattle.fact_adapter_rules.specs.declared.adapter.Adapter.{Adapter}
use Rattle.fact_adapter_rules.specs.declared.adapter.AdapterOptionsDfg.{AdapterOptionsDfg}
use Rattle.fact_adapter_rules.specs.declared.sides.Candidate.{Candidate}
use Rattle.fact_types.specs.Adapters.{LinkedAdapter, Side, is_wide}

-- The side of a function type and options, as its types stand in a builder.
pub record IsSideOf (b : Builder) (ty : Id TypeFuncs) (o : AdapterOptionsDfg) (s : Side) : Type 0 where
  pub signature : HasSignature b.tables ty s.params s.results
  pub async_type : s.async_type ≡ signature.func.async_
  pub core_type : slice_get b.module_types o.core_type.number ≡ Some s.core_type
  pub instance : s.instance ≡ o.instance.number
  pub encoding : s.encoding ≡ o.string_encoding
  pub async_side : s.async_side ≡ o.async_
  pub memory : s.memory ≡ o.memory
  pub realloc : s.realloc ≡ o.realloc
  pub callback : s.callback ≡ o.callback
  pub post_return : s.post_return ≡ o.post_return

-- An adapter with all that it names looked up, as its types stand in a builder.
pub record HasSides (b : Builder) (a : Adapter) (linked : LinkedAdapter) : Type 0 where
  pub lift : IsSideOf b a.lift_ty a.lift_options linked.lift
  pub lower : IsSideOf b a.lower_ty a.lower_options linked.lower
  pub callee : linked.callee ≡ a.func

-- The same, with its name and its mark of transparency.
pub record IsLinked (b : Builder) (c : Candidate) (linked : LinkedAdapter) : Type 0 where
  pub sides : HasSides b c.adapter.now linked
  pub name : linked.name ≡ c.name.now
  pub transparent : linked.transparent ≡ c.transparent

-- The function types and core types that an adapter names are in a builder.
pub record NamesTypesOf (b : Builder) (a : Adapter) : Type 0 where
  pub lift : a.lift_ty.number < length b.tables.functions
  pub lower : a.lower_ty.number < length b.tables.functions
  pub lift_core : a.lift_options.core_type.number < length b.module_types
  pub lower_core : a.lower_options.core_type.number < length b.module_types

-- What the core signature of a side hangs on.
abbrev pub sig_of : Id TypeFuncs → AdapterOptionsDfg → SideSig
sig_of ty o = record { ty = ty; async_ = o.async_; callback = is_some o.callback; memory64 = is_wide o.memory }
