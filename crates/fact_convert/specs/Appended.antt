-- The indices of what is appended, whatever the tables hold: modules, instances and components.
use Rattle.std.specs.Prelude.{ℕ, suc, ◌≡◌, ◌+◌, Bool, true, false, List, [], ◌∷◌, ◌++◌, length, flat_map, count_by}
use Rattle.std.specs.List.{AllZip}
use Rattle.fact_source.specs.declared.items.ComponentEntityType.{ComponentEntityType}
use Rattle.fact_source.specs.declared.items.SourceItem.{SourceItem}
use Rattle.fact_source.specs.SourceTables.{SourceTables}
use Rattle.fact_types.specs.declared.externs.ComponentExtern.{ComponentExtern}
use Rattle.fact_types.specs.declared.interface.TypeDef.{TypeDef}
use Rattle.fact_types.specs.declared.interface.TypeDef.TheVariants as def
use Rattle.fact_types.specs.Tables.{Tables}
use Rattle.fact_convert.specs.Converted.{IsDefFrom}
use Rattle.fact_convert.specs.BuilderTables.{tables_of}
use Rattle.fact_builder.specs.Builder.{Builder}
use Rattle.fact_convert.specs.Merging.{merged}
use Rattle.fact_convert.specs.Tasks.{Task, appends_module, appends_instance, appends_component, item_tasks, tasks_of}

-- The tables to which entries are appended.
pub data AppendedTable : Type 0 where
  module_table : AppendedTable
  instance_table : AppendedTable
  component_table : AppendedTable

-- How many entries each of them has.
abbrev pub Sizes : Type 0
Sizes = AppendedTable → ℕ

abbrev pub size_of : Tables → Sizes
size_of t module_table = length t.modules
size_of t instance_table = length t.component_instances
size_of t component_table = length t.components

-- How many of them there are after these tasks.
abbrev pub appends : Task → AppendedTable → Bool
appends (appends_module m) module_table = true
appends (appends_instance x) instance_table = true
appends (appends_component x) component_table = true
appends m k = false

abbrev pub appended : AppendedTable → List Task → ℕ
appended k ms = count_by (λ m. appends m k) ms

abbrev pub size_after : Sizes → List Task → Sizes
size_after before done k = before k + appended k done

-- The index of a module, an instance or a component is that of the last entry of its table.
abbrev pub IsLast : Sizes → TypeDef → Type 0
IsLast sizes (def.Module j) = suc j.number ≡ sizes module_table
IsLast sizes (def.ComponentInstance j) = suc j.number ≡ sizes instance_table
IsLast sizes (def.Component j) = suc j.number ≡ sizes component_table
IsLast sizes d = Unit {0}

-- What an import or export becomes, and that what was appended for it stands behind all others.
abbrev pub IsDefMade : SourceTables → Builder → ComponentEntityType → TypeDef → Type 0
IsDefMade s c e d = IsDefFrom s c e d × IsLast (size_of (tables_of c)) d

-- ---- imports and exports that were converted one after another

-- Each by its name, with the tasks that were done behind it: these, those of the items before it, and its own.
abbrev pub done_at : {X : Type 0} → (List ℕ × X → List Task) → List Task → List (List ℕ × X) → List (List ℕ × List Task)
done_at tasks done [] = []
done_at tasks done (x ∷ xs) = (x.0, done ++ tasks x) ∷ done_at tasks (done ++ tasks x) xs

-- From tables of these sizes on, each got an index that was the last of its table behind its own tasks; repeated names are
-- merged.
abbrev pub AreLast : SourceTables → Sizes → List (List ℕ × SourceItem) → List (List ℕ × ComponentExtern) → Type 0
AreLast s before items made = AllZip (λ x y. (y.0 ≡ x.0) × IsLast (size_after before x.1) y.1.ty) (merged (done_at (item_tasks s (tasks_of s)) [] items)) made

abbrev pub AreSizes : Tables → Sizes → Type 0
AreSizes t sizes = (k : AppendedTable) → size_of t k ≡ sizes k

-- Imports, and then exports, were converted in turn, and the tables are as they were left; an instance has no imports.
abbrev pub AreLastInTurn : SourceTables → Tables → (imports exports : List (List ℕ × SourceItem)) → (made_imports made_exports : List (List ℕ × ComponentExtern)) → Type 0
AreLastInTurn s t imports exports made_imports made_exports =
    (before : Sizes) × AreSizes t (size_after before (flat_map (item_tasks s (tasks_of s)) imports ++ flat_map (item_tasks s (tasks_of s)) exports))
    × AreLast s before imports made_imports × AreLast s (size_after before (flat_map (item_tasks s (tasks_of s)) imports)) exports made_exports
