-- The core definitions that an adapter names are imported in the order in which it mentions them.
use Rattle.std.proofs.Common.{ℕ, List, [], ◌∷◌, ◌++◌, Option, Some, None, refl, subst}
use Rattle.fact_types.specs.declared.outside.CoreDef.{CoreDef}
use Rattle.fact_types.specs.declared.outside.CoreDef.TheVariants as def
use Rattle.fact_types.specs.declared.outside.MemoryOption.{MemoryOption}
use Rattle.fact_types.specs.Adapters.{LinkedAdapter, Side, is_wide}
use Rattle.fact_emit.specs.AdapterImports.{AdapterImports, IsAdapterImported, IsImportedIfAny, IsMemoryImportedIfAny, IsSideImported, SideImports}
use Rattle.fact_emit.specs.ImportSection.{Callback, Callee, Flags, Mention, Realloc, Role, adapter_mentions, memory_mention, mention, side_mentions}
use Rattle.fact_emit.specs.DefImports.{IsDefImported}
use Rattle.fact_emit.specs.Listed.{AreImportedInTurn}
use Rattle.fact_emit.specs.States.{ModuleSoFar}

pub imported_on : (rs qs : List Mention) (a b c : ModuleSoFar) → AreImportedInTurn a b rs → AreImportedInTurn b c qs → AreImportedInTurn a c (rs ++ qs)
imported_on [] qs a b c x y = subst (λ s. AreImportedInTurn s c qs) x y
imported_on (r ∷ rs) qs a b c x y = (x.0, x.1, x.2, imported_on rs qs x.0 b c x.3 y)

imported_one : (a b : ModuleSoFar) (r : Role) (d : CoreDef) (place : ℕ) → IsDefImported a b r d place → AreImportedInTurn a b (record { def = d; role = r } ∷ [])
imported_one a b r d place h = (b, place, h, refl)

imported_mention : (a b : ModuleSoFar) (r : Role) (d : Option CoreDef) (place : Option ℕ) → IsImportedIfAny a b r d place → AreImportedInTurn a b (mention r d)
imported_mention a b r None place h = h.0
imported_mention a b r (Some d) place h = imported_one a b r d h.number h.imported

imported_memory : (a b : ModuleSoFar) (m : Option MemoryOption) (place : Option ℕ) → IsMemoryImportedIfAny a b m place → AreImportedInTurn a b (memory_mention m)
imported_memory a b None place h = h.0
imported_memory a b (Some m) place h = (b, h.number, h.imported, refl)

imported_side : (a b : ModuleSoFar) (s : Side) (at : SideImports) → IsSideImported a b s at → AreImportedInTurn a b (side_mentions s)
imported_side a b s at h =
    imported_on (record { def = def.InstanceFlags (record { table = _; number = s.instance }); role = Flags s.instance } ∷ []) _ a h.flagged b (imported_one a h.flagged _ _ at.flags h.flags)
    (imported_on (memory_mention s.memory) _ h.flagged h.stored b (imported_memory h.flagged h.stored s.memory at.memory h.memory)
    (imported_on (mention (Realloc (is_wide s.memory)) s.realloc) (mention Callback s.callback) h.stored h.supplied b (imported_mention h.stored h.supplied _ s.realloc at.realloc h.realloc)
    (imported_mention h.supplied b Callback s.callback at.callback h.callback)))

-- All of one adapter.
pub imported_adapter : (old new : ModuleSoFar) (a : LinkedAdapter) (at : AdapterImports) → IsAdapterImported old new a at → AreImportedInTurn old new (adapter_mentions a)
imported_adapter old new a at h =
    imported_on (side_mentions a.lift) _ old h.lifted new (imported_side old h.lifted a.lift at.lift h.lift)
    (imported_on (side_mentions a.lower) _ h.lifted h.lowered new (imported_side h.lifted h.lowered a.lower at.lower h.lower)
    (imported_on (record { def = a.callee; role = Callee a.name a.lift.core_type } ∷ []) _ h.lowered h.called new (imported_one h.lowered h.called _ a.callee at.callee h.callee)
    (imported_mention h.called new _ a.lift.post_return at.post_return h.post_return)))
