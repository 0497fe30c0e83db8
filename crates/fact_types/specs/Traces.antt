-- Which core function types a type names by index, and what a trace of it visits and leaves.
use Rattle.std.specs.Prelude.{◌≡◌, ◌⊎◌, ◌++◌, ◌∷◌, [], List, Result, Ok, Err, ⊤, flat_map}
use Rattle.std.specs.List.{AllZip}
use Rattle.fact_types.specs.declared.externs.EngineOrModuleTypeIndex.{EngineOrModuleTypeIndex}
use Rattle.fact_types.specs.declared.externs.EntityType.{EntityType}
use Rattle.fact_types.specs.declared.externs.EntityType.TheVariants.{Function, Tag}
use Rattle.fact_types.specs.Externs.{ModuleType}
use Rattle.fact_types.specs.Tables.{Tables}

-- ---- indices

-- An import or export of a core module names the type of a function, or the signature of a tag.
abbrev pub named_index : EntityType → List EngineOrModuleTypeIndex
named_index (Function i) = i ∷ []
named_index (Tag i) = i ∷ []
named_index e = []

-- Those of imports or exports, in order.
abbrev pub named_indices : {N : Type 0} → List (N × EntityType) → List EngineOrModuleTypeIndex
named_indices es = flat_map (λ x. named_index x.1) es

-- A core module names those of its imports, and then those of its exports; tables name those of their core modules.
abbrev pub module_indices : ModuleType → List EngineOrModuleTypeIndex
module_indices m = named_indices m.imports ++ named_indices m.exports

abbrev pub table_indices : Tables → List EngineOrModuleTypeIndex
table_indices t = flat_map module_indices t.modules

-- ---- what is alike but for its indices

abbrev pub IsAlike : EntityType → EntityType → Type 0
IsAlike (Function i) (Function j) = Unit {0}
IsAlike (Tag i) (Tag j) = Unit {0}
IsAlike a b = b ≡ a

abbrev pub AreAlikeEntries : {N : Type 0} → List (N × EntityType) → List (N × EntityType) → Type 0
AreAlikeEntries xs ys = AllZip (λ x y. (y.0 ≡ x.0) × IsAlike x.1 y.1) xs ys

pub record IsAlikeModule (a b : ModuleType) : Type 0 where
  pub imports : AreAlikeEntries a.imports b.imports
  pub exports : AreAlikeEntries a.exports b.exports

-- Only core modules differ, and these in their indices alone.
pub record AreAlikeTables (t u : Tables) : Type 0 where
  pub modules : AllZip IsAlikeModule t.modules u.modules
  pub rest : u ≡ record t { modules = u.modules }

-- ---- visits: a call is a step of the closure's state

-- The closure is called for each index in order, until it answers an error, which is handed on.
abbrev pub Visits : {F I E : Type 0} → (F → I → Result ⊤ E → F → Type 0) → F → List I → F → Result ⊤ E → Type 0
Visits Call f [] g r = (g ≡ f) × (r ≡ Ok tt)
Visits {F} {I} {E} Call f (x ∷ xs) g r = ((h : F) × Call f x (Ok tt) h × Visits Call h xs g r) ⊎ ((e : E) × Call f x (Err e) g × (r ≡ Err e))

-- The same, where the closure may change the index that it is called for: a place that was visited holds what the closure
-- left there, and the others what they held.
abbrev pub VisitsEach : {F I E : Type 0} → (F → I → Result ⊤ E → F → I → Type 0) → F → List I → F → List I → Result ⊤ E → Type 0
VisitsEach Call f [] g left r = (g ≡ f) × (left ≡ []) × (r ≡ Ok tt)
VisitsEach {F} {I} {E} Call f (x ∷ xs) g left r = ((h : F) × (y : I) × (rest : List I) × Call f x (Ok tt) h y × (left ≡ y ∷ rest) × VisitsEach Call h xs g rest r) ⊎ ((e : E) × (y : I) × Call f x (Err e) g y × (left ≡ y ∷ xs) × (r ≡ Err e))
