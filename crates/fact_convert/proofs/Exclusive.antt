-- A task that was performed has not failed: that of a resource's table, and those that append.
use Rattle.std.proofs.Common.{◌≡◌, ℕ, Option, Some, None, sym, ◌∙◌}
use Rattle.std.specs.Prelude.{Result, Ok, Err}
use Rattle.fact_entity.specs.declared.id.Id.{Id}
use Rattle.fact_entity.specs.declared.table.SourceResources.{SourceResources}
use Rattle.fact_entity.specs.declared.table.TypeResourceTables.{TypeResourceTables}
use Rattle.fact_types.specs.declared.kinds.TypeResourceTable.{TypeResourceTable}
use Rattle.fact_source.specs.declared.modules.SourceModule.{SourceModule}
use Rattle.fact_source.specs.SourceTables.{SourceTables}
use Rattle.fact_builder.specs.declared.error.BuildError.{BuildError}
use Rattle.fact_builder.specs.Known.{kept_table, new_table}
use Rattle.fact_builder.specs.Builder.{Builder}
use Rattle.fact_builder.specs.Registering.{TakesTable}
use Rattle.fact_convert.specs.Performing.{Performs, LacksRoomFor, NeedsInstance, NeedsRegistration}
use Rattle.fact_convert.specs.Tasks.{takes_table, appends_module}

-- a table is not made and refused
not_both : (w : Result TypeResourceTable BuildError) (x : TypeResourceTable) (e : BuildError) → w ≡ Ok x → w ≡ Err e → ⊥
not_both w x e h k = let both : Ok x ≡ Err e = sym h ∙ k in cc

-- where no table is kept and none can be made, none was taken
none_taken : (a b : Builder) (r : Id SourceResources) (t : Option (Id TypeResourceTables)) (e : BuildError) → t ≡ None → new_table a.resources r ≡ Err e → TakesTable a r t b → ⊥
none_taken a b r (Some t) e h k m = cc
none_taken a b r None e h k (i, m, q) = not_both (new_table a.resources r) m.table e m.asked k

registration_there : (s : SourceTables) (a b : Builder) (r : Id SourceResources) → Performs s a (takes_table r) b → NeedsRegistration a (takes_table r) → ⊥
registration_there s a b r m (h, k) = none_taken a b r (kept_table a.resources r) _ h k m

instance_there : (s : SourceTables) (a b : Builder) (r : Id SourceResources) → Performs s a (takes_table r) b → NeedsInstance a (takes_table r) → ⊥
instance_there s a b r m (h, k) = none_taken a b r (kept_table a.resources r) _ h k m

-- a table that had room for one more was not full
not_full : (n : ℕ) → (n ≡ 4294967295 → ⊥) → n ≡ 4294967295 → ⊥
not_full n l e = l e

room_there : (s : SourceTables) (a b : Builder) (m : SourceModule) → Performs s a (appends_module m) b → LacksRoomFor s a (appends_module m) → ⊥
room_there s a b m (e, f, l, h) k = not_full _ l k
