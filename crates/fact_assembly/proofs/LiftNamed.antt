-- What the data of an adapter name on its lift side is imported at their places, from when it is imported on.
use Rattle.std.proofs.Common.{◌≡◌, ℕ, List, [], ◌∷◌, ◌++◌, Option, Some, None, refl, sym, ap, ◌∙◌, subst, slice_get}
use Rattle.fact_entity.specs.declared.id.Id.{Id}
use Rattle.fact_entity.specs.declared.table.Funcs.{Funcs}
use Rattle.fact_entity.specs.declared.table.Memories.{Memories}
use Rattle.fact_types.specs.Adapters.{LinkedAdapter, Side}
use Rattle.fact_types.specs.Tables.{Tables}
use Rattle.fact_types.specs.declared.import.Import.TheVariants as known
use Rattle.fact_types.specs.declared.outside.CoreDef.{CoreDef}
use Rattle.fact_types.specs.declared.outside.MemoryOption.{MemoryOption}
use Rattle.fact_actions.specs.Adapters.{AdapterTunables, def_of_memory}
use Rattle.fact_actions.specs.Sides.{options_of}
use Rattle.fact_emit.specs.AdapterImports.{IsImportedIfAny, IsMemoryImportedIfAny, IsSideImported, SideImports}
use Rattle.fact_emit.specs.ImportSection.{Callback, Callee, Mention, PostReturn, Role, Storage, a_function, imports_of}
use Rattle.fact_emit.specs.Imports.{Extended}
use Rattle.fact_emit.specs.Known.{AreKnown}
use Rattle.fact_emit.specs.DefImports.{IsDefImported}
use Rattle.fact_emit.specs.Options.{number_if_any}
use Rattle.fact_emit.specs.States.{ModuleSoFar, functions_of, memories_of}
use Rattle.fact_emit.specs.TaskCalls.{IsFunctionThere, IsMemoryThere}
use Rattle.fact_emit.proofs.ImportLaws.{extended_none, extended_on, grown_get}
use Rattle.fact_emit.proofs.KnownLaws.{extended_def, known_def, imported_at}
use Rattle.fact_emit.proofs.Named.{sort_for}
use Rattle.fact_compound.specs.Entries.{NamesLift}
use Rattle.fact_compound.specs.declared.adapters.AdapterData.{AdapterData}
use Rattle.fact_assembly.specs.Adding.{Adds, Given}

-- ---- what stands at a place still does in a later module

module _ {s later : ModuleSoFar} (grown : Extended s later) where
  pub function-later : (f : Option (Id Funcs)) (d : Option CoreDef) → IsFunctionThere s f d → IsFunctionThere later f d
  function-later None None h = tt
  function-later None (Some d) h = absurd h
  function-later (Some f) None h = absurd h
  function-later (Some f) (Some d) h = grown_get grown.functions f.number (known.CoreDef d) h

  pub memory-later : (m : Option (Id Memories)) (d : Option CoreDef) → IsMemoryThere s m d → IsMemoryThere later m d
  memory-later None None h = tt
  memory-later None (Some d) h = absurd h
  memory-later (Some m) None h = absurd h
  memory-later (Some m) (Some d) h = grown_get grown.memories m.number (known.CoreDef d) h

  pub lift-later : (d : AdapterData) (a : LinkedAdapter) → NamesLift s d a → NamesLift later d a
  lift-later d a h = record {
    memory = memory-later d.lift.options.linear.memory (def_of_memory (options_of a.lift)) h.memory;
    callback = function-later d.lift.options.callback a.lift.callback h.callback;
    post_return = function-later d.lift.post_return a.lift.post_return h.post_return;
  }

-- ---- what was imported stands at its place

same-number : (m n : ℕ) → Some m ≡ Some n → n ≡ m
same-number m n e = cc

pub function-imported : (old new : ModuleSoFar) (role : Role) (o : Option CoreDef) (f : Option (Id Funcs)) → sort_for role ≡ a_function → IsImportedIfAny old new role o (number_if_any f) → IsFunctionThere new f o
function-imported old new role None None is l = tt
function-imported old new role None (Some f) is l = absurd (let no : Some f.number ≡ None = l.1 in cc)
function-imported old new role (Some d) None is l = absurd (let no : None ≡ Some l.number = l.place_is in cc)
function-imported old new role (Some d) (Some f) is l =
    let there = subst (λ q. slice_get (imports_of q new.section new.imports) l.number ≡ Some (known.CoreDef d)) is (imported_at role l.imported) in
    ap (slice_get (functions_of new)) (sym (same-number f.number l.number l.place_is)) ∙ there

pub memory-imported : (old new : ModuleSoFar) (o : Option MemoryOption) (m : Option (Id Memories)) → IsMemoryImportedIfAny old new o (number_if_any m)
    → IsMemoryThere new m (elim o as (λ (x : Option MemoryOption). Option CoreDef) [ None ↦ None | Some k ↦ Some k.def ])
memory-imported old new None None l = tt
memory-imported old new None (Some m) l = absurd (let no : Some m.number ≡ None = l.1 in cc)
memory-imported old new (Some o) None l = absurd (let no : None ≡ Some l.number = l.place_is in cc)
memory-imported old new (Some o) (Some m) l = ap (slice_get (memories_of new)) (sym (same-number m.number l.number l.place_is)) ∙ imported_at (Storage o.memory64 o.page_size_log2) l.imported

-- ---- the module grows by imports, and each import stays known as what it is mentioned as

pub record IsLater (old new : ModuleSoFar) : Type 0 where
  pub grown : Extended old new
  pub mentioned : List Mention
  pub known : AreKnown new mentioned

later-same : (old new : ModuleSoFar) (ms : List Mention) → AreKnown old ms → new ≡ old → IsLater old new
later-same old new ms known same = record { grown = extended_none same; mentioned = ms; known = subst (λ s. AreKnown s ms) (sym same) known }

later-def : (old new : ModuleSoFar) (role : Role) (d : CoreDef) (place : ℕ) (ms : List Mention) → AreKnown old ms → IsDefImported old new role d place → IsLater old new
later-def old new role d place ms known l =
    let m : Mention = record { def = d; role = role } in
    record { grown = extended_def known l; mentioned = ms ++ m ∷ []; known = known_def m place l known }

later-any : (old new : ModuleSoFar) (role : Role) (o : Option CoreDef) (place : Option ℕ) (ms : List Mention) → AreKnown old ms → IsImportedIfAny old new role o place → IsLater old new
later-any old new role None place ms known l = later-same old new ms known l.0
later-any old new role (Some d) place ms known l = later-def old new role d l.number ms known l.imported

later-memory : (old new : ModuleSoFar) (o : Option MemoryOption) (place : Option ℕ) (ms : List Mention) → AreKnown old ms → IsMemoryImportedIfAny old new o place → IsLater old new
later-memory old new None place ms known l = later-same old new ms known l.0
later-memory old new (Some m) place ms known l = later-def old new (Storage m.memory64 m.page_size_log2) m.def l.number ms known l.imported

later-on : {a b c : ModuleSoFar} → IsLater a b → IsLater b c → IsLater a c
later-on x y = record { grown = extended_on x.grown y.grown; mentioned = y.mentioned; known = y.known }

-- what a side names, behind its memory
module _ (old new : ModuleSoFar) (s : Side) (at : SideImports) (ms : List Mention) (known : AreKnown old ms) (l : IsSideImported old new s at) where
  pub stored : IsLater old l.stored
  stored =
      let flagged = later-def old l.flagged _ _ at.flags ms known l.flags in
      later-on flagged (later-memory l.flagged l.stored s.memory at.memory flagged.mentioned flagged.known l.memory)

  supplied : IsLater l.stored l.supplied
  supplied = later-any l.stored l.supplied _ s.realloc at.realloc stored.mentioned stored.known l.realloc

  pub from-supplied : IsLater l.supplied new
  from-supplied = later-any l.supplied new Callback s.callback at.callback supplied.mentioned supplied.known l.callback

  pub from-stored : IsLater l.stored new
  from-stored = later-on supplied from-supplied

-- ---- an adapter

module _ {t : Tables} {u : AdapterTunables} {given : Given} {old new : ModuleSoFar} {a : LinkedAdapter} {tuple : ℕ} (add : Adds t u given old new a tuple) (ms : List Mention) (are_known : AreKnown old ms) where
  lift-stored : IsLater add.is_imported.lift.stored add.is_imported.lifted
  lift-stored = from-stored old add.is_imported.lifted a.lift _ ms are_known add.is_imported.lift

  pub from-lifted : IsLater add.is_imported.lifted add.imported
  from-lifted =
      let lower-stored = stored add.is_imported.lifted add.is_imported.lowered a.lower _ lift-stored.mentioned lift-stored.known add.is_imported.lower in
      let lowered = from-stored add.is_imported.lifted add.is_imported.lowered a.lower _ lift-stored.mentioned lift-stored.known add.is_imported.lower in
      let called = later-def add.is_imported.lowered add.is_imported.called _ a.callee _ lowered.mentioned lowered.known add.is_imported.callee in
      later-on lower-stored (later-on lowered (later-on called (later-any add.is_imported.called add.imported _ a.lift.post_return _ called.mentioned called.known add.is_imported.post_return)))

  pub lifted : IsLater old add.is_imported.lifted
  lifted = later-on (stored old add.is_imported.lifted a.lift _ ms are_known add.is_imported.lift) lift-stored

  -- What was there before it is there still.
  pub imported-grown : Extended old add.imported
  imported-grown = extended_on lifted.grown from-lifted.grown

  -- So is what was there when both sides were imported.
  pub from-lowered : IsLater add.is_imported.lowered add.imported
  from-lowered =
      let lowered = later-on (stored add.is_imported.lifted add.is_imported.lowered a.lower _ lifted.mentioned lifted.known add.is_imported.lower) (from-stored add.is_imported.lifted add.is_imported.lowered a.lower _ lifted.mentioned lifted.known add.is_imported.lower) in
      let called = later-def add.is_imported.lowered add.is_imported.called _ a.callee _ lowered.mentioned lowered.known add.is_imported.callee in
      later-on called (later-any add.is_imported.called add.imported _ a.lift.post_return _ called.mentioned called.known add.is_imported.post_return)

  -- The callee stands at its place.
  pub callee-at-place : slice_get (functions_of add.imported) add.«data».callee.number ≡ Some (known.CoreDef a.callee)
  callee-at-place =
      let lowered = later-on (stored add.is_imported.lifted add.is_imported.lowered a.lower _ lifted.mentioned lifted.known add.is_imported.lower) (from-stored add.is_imported.lifted add.is_imported.lowered a.lower _ lifted.mentioned lifted.known add.is_imported.lower) in
      let called = later-def add.is_imported.lowered add.is_imported.called _ a.callee _ lowered.mentioned lowered.known add.is_imported.callee in
      let behind = later-any add.is_imported.called add.imported _ a.lift.post_return _ called.mentioned called.known add.is_imported.post_return in
      grown_get behind.grown.functions add.«data».callee.number (known.CoreDef a.callee) (imported_at (Callee a.name a.lift.core_type) add.is_imported.callee)

  -- All imports are known behind the imports.
  pub known-imported : AreKnown add.imported from-lifted.mentioned
  known-imported = from-lifted.known

  -- The lift side's memory, its callback and its post-return stand at the places that the data say.
  pub names-lift : NamesLift add.imported add.«data» a
  names-lift = record {
    memory =
        memory-later (extended_on lift-stored.grown from-lifted.grown) add.«data».lift.options.linear.memory (def_of_memory (options_of a.lift))
        (memory-imported add.is_imported.lift.flagged add.is_imported.lift.stored a.lift.memory add.«data».lift.options.linear.memory add.is_imported.lift.memory);
    callback =
        function-later from-lifted.grown add.«data».lift.options.callback a.lift.callback
        (function-imported add.is_imported.lift.supplied add.is_imported.lifted Callback a.lift.callback add.«data».lift.options.callback refl add.is_imported.lift.callback);
    post_return =
        function-imported add.is_imported.called add.imported (PostReturn a.name a.lift.core_type.results) a.lift.post_return add.«data».lift.post_return refl add.is_imported.post_return;
  }
