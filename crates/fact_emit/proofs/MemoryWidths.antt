-- The memories that were imported for an adapter have addresses of the widths that its sides say.
use Rattle.std.proofs.Common.{◌≡◌, ℕ, List, ◌++◌, Contains, Option, Some, None, refl, subst, slice_get}
use Rattle.std.proofs.lemmas.List.Elements.{Contains-append_left, Contains-append_right}
use Rattle.fact_types.specs.Adapters.{LinkedAdapter, Side}
use Rattle.fact_types.specs.declared.import.Import.TheVariants as known
use Rattle.fact_types.specs.declared.outside.MemoryOption.{MemoryOption}
use Rattle.fact_emit.specs.AdapterImports.{AdapterImports, IsAdapterImported, IsMemoryImportedIfAny, IsSideImported, SideImports}
use Rattle.fact_emit.specs.ImportSection.{HasMemoryWidth, Mention, Storage, adapter_mentions, custom_page_size, memory_mention, side_mentions}
use Rattle.fact_emit.specs.Imports.{Extended}
use Rattle.fact_emit.specs.Known.{AreKnown, AreUsedAlike}
use Rattle.fact_emit.specs.States.{ModuleSoFar, memories_of}
use Rattle.fact_emit.proofs.AdapterKnown.{adapter_imports, behind_lift, behind_lower, behind_memory, callback_mention, ends, flags_mention, memory_imports, memory_mentioned, realloc_mention, side_imports}
use Rattle.fact_emit.proofs.ImportLaws.{extended_on, grown_get, memory_at}
use Rattle.fact_emit.proofs.KnownLaws.{extended_defs, known_def, known_defs, imported_at}
use Rattle.fact_emit.proofs.KnownImports.{memory_there}

-- The memory of a side, where it has one, stands at its place, with addresses of its width.
pub record IsSideWide (s : ModuleSoFar) (side : Side) (at : SideImports) : Type 0 where
  pub none : side.memory ≡ None → at.memory ≡ None
  pub some : (m : MemoryOption) → side.memory ≡ Some m → (n : ℕ) × (at.memory ≡ Some n) × HasMemoryWidth s.section n m.memory64

-- a memory that is mentioned, where no mention wants another width
mentioned_wide : (s : ModuleSoFar) (ms : List Mention) → AreKnown s ms → AreUsedAlike ms → (m : MemoryOption) (place : ℕ) → Contains ms (record { def = m.def; role = Storage m.memory64 m.page_size_log2 })
    → slice_get (memories_of s) place ≡ Some (known.CoreDef m.def) → HasMemoryWidth s.section place m.memory64
mentioned_wide s ms are_known alike m place there at =
    let role = Storage m.memory64 m.page_size_log2 in
    let has = memory_there s ms are_known m.def role (λ q c. alike.alike (record { def = m.def; role = q }) (record { def = m.def; role = role }) c there refl) place m.memory64 (custom_page_size m.page_size_log2) refl at in
    record { page = custom_page_size m.page_size_log2; imported = memory_at s.section place (m.memory64, custom_page_size m.page_size_log2) has.imported }

-- a side, in a later module
side_wide : (old new last : ModuleSoFar) (before ms : List Mention) (s : Side) (at : SideImports) → AreKnown old before → IsSideImported old new s at → Extended new last → AreKnown last ms → AreUsedAlike ms
    → ((m : Mention) → Contains (side_mentions s) m → Contains ms m) → IsSideWide last s at
side_wide old new last before ms s at held l later are_known alike within = record {
  none = λ is. (subst (λ o. IsMemoryImportedIfAny l.flagged l.stored o at.memory) is l.memory).1;
  some = λ m is.
      let here = subst (λ o. IsMemoryImportedIfAny l.flagged l.stored o at.memory) is l.memory in
      let there = grown_get (extended_on stored_later later).memories here.number (known.CoreDef m.def) (imported_at (Storage m.memory64 m.page_size_log2) here.imported) in
      (here.number, here.place_is, mentioned_wide last ms are_known alike m here.number (within _ (memory_mentioned s m is)) there);
}
  where
    stored_later : Extended l.stored new
    stored_later =
        let memories = memory_imports l.flagged l.stored s.memory at.memory l.memory in
        let stored = known_defs l.flagged l.stored _ (memory_mention s.memory) memories.0 memories.1 (known_def (flags_mention s) at.flags l.flags held) in
        let behind = behind_memory old new s at l in
        extended_defs l.stored new _ (realloc_mention s ++ callback_mention s) behind.0 behind.1 stored

-- Both sides of an adapter are so, where its mentions and those before are used alike.
pub sides_wide : (old new : ModuleSoFar) (before : List Mention) (a : LinkedAdapter) (at : AdapterImports) → AreKnown old before → AreUsedAlike (before ++ adapter_mentions a) → IsAdapterImported old new a at
    → IsSideWide new a.lift at.lift × IsSideWide new a.lower at.lower
sides_wide old new before a at known alike l =
    let all = adapter_imports old new a at l in
    let are_known = known_defs old new before (adapter_mentions a) all.0 all.1 known in
    let lifts = side_imports old l.lifted a.lift at.lift l.lift in
    let lifted = known_defs old l.lifted before (side_mentions a.lift) lifts.0 lifts.1 known in
    let lowers = side_imports l.lifted l.lowered a.lower at.lower l.lower in
    let lowered = known_defs l.lifted l.lowered _ (side_mentions a.lower) lowers.0 lowers.1 lifted in
    let behind_first = behind_lift old new a at l in
    let behind_second = behind_lower old new a at l in (
      side_wide old l.lifted new before _ a.lift at.lift known l.lift (extended_defs l.lifted new _ (side_mentions a.lower ++ ends a) behind_first.0 behind_first.1 lifted) are_known alike
          (λ m c. Contains-append_right before (adapter_mentions a) m (Contains-append_left (side_mentions a.lift) (side_mentions a.lower ++ ends a) m c)),
      side_wide l.lifted l.lowered new _ _ a.lower at.lower lifted l.lower (extended_defs l.lowered new _ (ends a) behind_second.0 behind_second.1 lowered) are_known alike
          (λ m c. Contains-append_right before (adapter_mentions a) m (Contains-append_right (side_mentions a.lift) (side_mentions a.lower ++ ends a) m (Contains-append_left (side_mentions a.lower) (ends a) m c))),
    )
