-- The core definitions of an adapter, imported one after another in the order in which it mentions them.
use Rattle.std.specs.Prelude.{◌≡◌, ℕ, Option, None, Some}
use Rattle.fact_types.specs.declared.outside.CoreDef.{CoreDef}
use Rattle.fact_types.specs.declared.outside.CoreDef.TheVariants as def
use Rattle.fact_types.specs.declared.outside.MemoryOption.{MemoryOption}
use Rattle.fact_types.specs.Adapters.{LinkedAdapter, Side, is_wide}
use Rattle.fact_emit.specs.ImportSection.{Role, Flags, Storage, Realloc, Callback, Callee, PostReturn}
use Rattle.fact_emit.specs.DefImports.{IsDefImported}
use Rattle.fact_emit.specs.States.{ModuleSoFar}

-- a core definition that an adapter may name, with its place among the imports of its kind
pub record IsDefImportedAt (old new : ModuleSoFar) (role : Role) (d : CoreDef) (place : Option ℕ) : Type 0 where
  pub number : ℕ
  pub place_is : place ≡ Some number
  pub imported : IsDefImported old new role d number

-- it is imported where there is one
abbrev pub IsImportedIfAny : (old new : ModuleSoFar) → Role → Option CoreDef → (place : Option ℕ) → Type 0
IsImportedIfAny old new role None place = (new ≡ old) × (place ≡ None)
IsImportedIfAny old new role (Some d) place = IsDefImportedAt old new role d place

abbrev pub IsMemoryImportedIfAny : (old new : ModuleSoFar) → Option MemoryOption → (place : Option ℕ) → Type 0
IsMemoryImportedIfAny old new None place = (new ≡ old) × (place ≡ None)
IsMemoryImportedIfAny old new (Some m) place = IsDefImportedAt old new (Storage m.memory64 m.page_size_log2) m.def place

-- where a module has what a side names, each among the imports of its kind
pub record SideImports : Type 0 where
  pub flags : ℕ
  pub memory : Option ℕ
  pub realloc : Option ℕ
  pub callback : Option ℕ

-- flags, memory, realloc and callback of a side
pub record IsSideImported (old new : ModuleSoFar) (s : Side) (at : SideImports) : Type 0 where
  pub flagged : ModuleSoFar
  pub stored : ModuleSoFar
  pub supplied : ModuleSoFar
  pub flags : IsDefImported old flagged (Flags s.instance) (def.InstanceFlags (record { table = _; number = s.instance })) at.flags
  pub memory : IsMemoryImportedIfAny flagged stored s.memory at.memory
  pub realloc : IsImportedIfAny stored supplied (Realloc (is_wide s.memory)) s.realloc at.realloc
  pub callback : IsImportedIfAny supplied new Callback s.callback at.callback

pub record AdapterImports : Type 0 where
  pub lift : SideImports
  pub lower : SideImports
  pub callee : ℕ
  pub post_return : Option ℕ

-- the lift side's, the lower side's, the callee, the post-return
pub record IsAdapterImported (old new : ModuleSoFar) (a : LinkedAdapter) (at : AdapterImports) : Type 0 where
  pub lifted : ModuleSoFar
  pub lowered : ModuleSoFar
  pub called : ModuleSoFar
  pub lift : IsSideImported old lifted a.lift at.lift
  pub lower : IsSideImported lifted lowered a.lower at.lower
  pub callee : IsDefImported lowered called (Callee a.name a.lift.core_type) a.callee at.callee
  pub post_return : IsImportedIfAny called new (PostReturn a.name a.lift.core_type.results) a.lift.post_return at.post_return
