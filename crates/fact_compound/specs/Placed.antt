-- The data of an adapter whose core definitions have these places in a module.
use Rattle.std.specs.Prelude.{◌≡◌, true, Some, None, is_some}
use Rattle.fact_types.specs.Adapters.{Side, LinkedAdapter, is_wide}
use Rattle.fact_types.specs.PointerPairs.{have_pointer_pair}
use Rattle.fact_types.specs.Signatures.{flat_values, lift_results_limit, lower_limit}
use Rattle.fact_types.specs.Tuples.{tuple_members}
use Rattle.fact_types.specs.declared.outside.CoreDef.{CoreDef}
use Rattle.fact_types.specs.declared.outside.MemoryOption.{MemoryOption}
use Rattle.fact_actions.specs.Adapters.{flat_results}
use Rattle.fact_emit.specs.AdapterImports.{AdapterImports, SideImports}
use Rattle.fact_emit.specs.ImportSection.{custom_page_size}
use Rattle.fact_emit.specs.Options.{number_if_any}
use Rattle.fact_compound.specs.Described.{linear_of}
use Rattle.fact_compound.specs.declared.adapters.AdapterOptions.{AdapterOptions}
use Rattle.fact_compound.specs.declared.adapters.AdapterData.{AdapterData}

-- The options of a side: its instance, the places of its flags, of its memory and of its realloc, the width of its addresses, the
-- memory's page size, and the encoding of its strings.
pub record AreOptionsOf (s : Side) (at : SideImports) (o : AdapterOptions) : Type 0 where
  pub instance : o.instance.number ≡ s.instance
  pub flags : o.flags.number ≡ at.flags
  pub wide : is_wide s.memory ≡ o.options.linear.memory64
  pub has_memory : (m : MemoryOption) → s.memory ≡ Some m → (linear_of o).has_memory ≡ true
  pub memory : (m : MemoryOption) → s.memory ≡ Some m → at.memory ≡ Some (linear_of o).memory
  pub realloc : (linear_of o).realloc ≡ at.realloc
  pub page_size : (m : MemoryOption) → s.memory ≡ Some m → (linear_of o).page_size_log2 ≡ custom_page_size m.page_size_log2
  pub encoding : s.encoding ≡ (linear_of o).encoding

-- a side that has a memory, and one that has a realloc
abbrev pub HasMemoryOption : Side → Type 0
HasMemoryOption s = (m : MemoryOption) × (s.memory ≡ Some m)

abbrev pub HasReallocOption : Side → Type 0
HasReallocOption s = (f : CoreDef) × (s.realloc ≡ Some f)

-- What the types of an adapter ask of its sides: a memory where parameters or results are not flat, and both memories and the realloc
-- of the destination where the source's values are or hold lists, maps or strings.
pub record HasMemoriesFor (a : LinkedAdapter) : Type 0 where
  pub lift_results : flat_values (is_wide a.lift.memory) (lift_results_limit a.lift.async_side) a.lift.results ≡ None → HasMemoryOption a.lift
  pub lower_results : flat_results a.lower ≡ None → HasMemoryOption a.lower
  pub lower_params : flat_values (is_wide a.lower.memory) (lower_limit a.lower.async_side) a.lower.params ≡ None → HasMemoryOption a.lower
  pub lift_params : flat_values (is_wide a.lift.memory) 16 a.lift.params ≡ None → HasMemoryOption a.lift × HasReallocOption a.lift
  pub params_lists : have_pointer_pair (tuple_members a.lower.params) ≡ true → HasMemoryOption a.lower × HasMemoryOption a.lift × HasReallocOption a.lift
  pub results_lists : have_pointer_pair (tuple_members a.lift.results) ≡ true → HasMemoryOption a.lift × HasMemoryOption a.lower × HasReallocOption a.lower

-- those of both sides, the callee and the post-return, and the adapter's mark
pub record IsDataOf (a : LinkedAdapter) (at : AdapterImports) (d : AdapterData) : Type 0 where
  pub lift : AreOptionsOf a.lift at.lift d.lift
  pub lower : AreOptionsOf a.lower at.lower d.lower
  pub callee : d.callee.number ≡ at.callee
  pub post_return : number_if_any d.lift.post_return ≡ at.post_return
  pub has_post_return : is_some d.lift.post_return ≡ is_some a.lift.post_return
  pub transparent : d.transparent ≡ a.transparent
