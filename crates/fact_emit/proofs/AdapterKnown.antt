-- A last module knows what was imported for an adapter.
use Rattle.std.proofs.Common.{◌≡◌, ℕ, List, [], ◌∷◌, ◌++◌, Contains, Option, Some, None, refl, ap, ◌∙◌, subst, slice_get, length, ◌<◌}
use Rattle.std.proofs.lemmas.List.Elements.{Contains-append_left, Contains-append_right}
use Rattle.std.proofs.lemmas.Option.{slice_get_within}
use Rattle.fact_wasm.specs.declared.module.WasmModule.{WasmModule}
use Rattle.fact_wasm.specs.declared.types.FuncType.{FuncType}
use Rattle.fact_wasm.specs.declared.types.ValType.{ValType}
use Rattle.fact_machine.specs.Typed.{type_of_import}
use Rattle.fact_types.specs.Adapters.{Side, LinkedAdapter, is_wide}
use Rattle.fact_types.specs.ImportTypes.{callback_type, post_return_type, realloc_type}
use Rattle.fact_types.specs.declared.import.Import.TheVariants as import
use Rattle.fact_types.specs.declared.outside.CoreDef.{CoreDef}
use Rattle.fact_types.specs.declared.outside.CoreDef.TheVariants as def
use Rattle.fact_types.specs.declared.outside.MemoryOption.{MemoryOption}
use Rattle.fact_actions.specs.Adapters.{lift_signature_of}
use Rattle.fact_actions.specs.Running.{ImportPlaces}
use Rattle.fact_actions.specs.TypedAnswers.{HasPlaces, HaveCoreTypes}
use Rattle.fact_code_laws.specs.Knows.{KnowsFunction}
use Rattle.fact_emit.specs.AdapterImports.{AdapterImports, IsAdapterImported, IsImportedIfAny, IsMemoryImportedIfAny, IsSideImported, SideImports}
use Rattle.fact_emit.specs.ImportSection.{Callback, Callee, Flags, Mention, PostReturn, Realloc, Role, Storage, adapter_mentions, memory_mention, mention, side_mentions}
use Rattle.fact_emit.specs.Imports.{Extended, Serves}
use Rattle.fact_emit.specs.Known.{AreKnown, AreImportedAt, AreUsedAlike}
use Rattle.fact_emit.specs.KnownAdapters.{KnowsAdapter, KnowsFunctionAt, KnowsMemoryAt, KnowsSide, results_of_import}
use Rattle.fact_emit.specs.DefImports.{type_of_role}
use Rattle.fact_emit.specs.States.{ModuleSoFar}
use Rattle.fact_emit.proofs.ImportLaws.{extended_on}
use Rattle.fact_emit.proofs.ImportLists.{there-get}
use Rattle.fact_emit.proofs.KnownLaws.{extended_defs, known_def, known_defs, imports_on}
use Rattle.fact_emit.proofs.KnownImports.{knows_flags, knows_function, knows_memory}

-- ---- the steps are imports of the mentions

abbrev pub flags_mention : Side → Mention
flags_mention s = record { def = def.InstanceFlags (record { table = _; number = s.instance }); role = Flags s.instance }

abbrev pub realloc_mention : Side → List Mention
realloc_mention s = mention (Realloc (is_wide s.memory)) s.realloc

abbrev pub callback_mention : Side → List Mention
callback_mention s = mention Callback s.callback

-- mentions are imported, with places that are found
abbrev pub AreImportedSomewhere : (old new : ModuleSoFar) → List Mention → Type 0
AreImportedSomewhere old new ms = (places : List ℕ) × AreImportedAt old new ms places

pub memory_imports : (old new : ModuleSoFar) (o : Option MemoryOption) (place : Option ℕ) → IsMemoryImportedIfAny old new o place → AreImportedSomewhere old new (memory_mention o)
memory_imports old new None place l = ([], l.0)
memory_imports old new (Some m) place l = (l.number ∷ [], (new, l.imported, refl))

imports_if_any : (old new : ModuleSoFar) (role : Role) (o : Option CoreDef) (place : Option ℕ) → IsImportedIfAny old new role o place → AreImportedSomewhere old new (mention role o)
imports_if_any old new role None place l = ([], l.0)
imports_if_any old new role (Some d) place l = (l.number ∷ [], (new, l.imported, refl))

joined : (a b c : ModuleSoFar) (xs ys : List Mention) → AreImportedSomewhere a b xs → AreImportedSomewhere b c ys → AreImportedSomewhere a c (xs ++ ys)
joined a b c xs ys l k = (l.0 ++ k.0, imports_on a b c xs ys l.0 k.0 l.1 k.1)

module _ (old new : ModuleSoFar) (s : Side) (at : SideImports) (l : IsSideImported old new s at) where
  behind_realloc : AreImportedSomewhere l.supplied new (callback_mention s)
  behind_realloc = imports_if_any l.supplied new Callback s.callback at.callback l.callback

  pub behind_memory : AreImportedSomewhere l.stored new (realloc_mention s ++ callback_mention s)
  behind_memory = joined l.stored l.supplied new (realloc_mention s) (callback_mention s) (imports_if_any l.stored l.supplied (Realloc (is_wide s.memory)) s.realloc at.realloc l.realloc) behind_realloc

  behind_flags : AreImportedSomewhere l.flagged new (memory_mention s.memory ++ (realloc_mention s ++ callback_mention s))
  behind_flags = joined l.flagged l.stored new (memory_mention s.memory) (realloc_mention s ++ callback_mention s) (memory_imports l.flagged l.stored s.memory at.memory l.memory) behind_memory

  pub side_imports : AreImportedSomewhere old new (side_mentions s)
  side_imports = (at.flags ∷ behind_flags.0, (l.flagged, l.flags, behind_flags.1))

-- the mentions behind those of the sides
abbrev pub ends : LinkedAdapter → List Mention
ends a = record { def = a.callee; role = Callee a.name a.lift.core_type } ∷ mention (PostReturn a.name a.lift.core_type.results) a.lift.post_return

module _ (old new : ModuleSoFar) (a : LinkedAdapter) (at : AdapterImports) (l : IsAdapterImported old new a at) where
  behind_callee : AreImportedSomewhere l.called new (mention (PostReturn a.name a.lift.core_type.results) a.lift.post_return)
  behind_callee = imports_if_any l.called new (PostReturn a.name a.lift.core_type.results) a.lift.post_return at.post_return l.post_return

  pub behind_lower : AreImportedSomewhere l.lowered new (ends a)
  behind_lower = (at.callee ∷ behind_callee.0, (l.called, l.callee, behind_callee.1))

  pub behind_lift : AreImportedSomewhere l.lifted new (side_mentions a.lower ++ ends a)
  behind_lift = joined l.lifted l.lowered new (side_mentions a.lower) (ends a) (side_imports l.lifted l.lowered a.lower at.lower l.lower) behind_lower

  -- all mentions of an adapter are imported
  pub adapter_imports : (places : List ℕ) × AreImportedAt old new (adapter_mentions a) places
  adapter_imports = joined old l.lifted new (side_mentions a.lift) (side_mentions a.lower ++ ends a) (side_imports old l.lifted a.lift at.lift l.lift) behind_lift

-- ---- what a side mentions

module _ (s : Side) where
  pub memory_mentioned : (m : MemoryOption) → s.memory ≡ Some m → Contains (side_mentions s) (record { def = m.def; role = Storage m.memory64 m.page_size_log2 })
  memory_mentioned m is = there-get (side_mentions s) 1 _ (rw is refl)

  realloc_mentioned : (f : CoreDef) → s.realloc ≡ Some f → Contains (side_mentions s) (record { def = f; role = Realloc (is_wide s.memory) })
  realloc_mentioned f is =
      Contains-append_right (flags_mention s ∷ memory_mention s.memory) (realloc_mention s ++ callback_mention s) _ (Contains-append_left (realloc_mention s) (callback_mention s) _ (there-get (realloc_mention s) 0 _ (rw is refl)))

  callback_mentioned : (f : CoreDef) → s.callback ≡ Some f → Contains (side_mentions s) (record { def = f; role = Callback })
  callback_mentioned f is =
      Contains-append_right (flags_mention s ∷ memory_mention s.memory) (realloc_mention s ++ callback_mention s) _ (Contains-append_right (realloc_mention s) (callback_mention s) _ (there-get (callback_mention s) 0 _ (rw is refl)))

-- ---- what a last module knows

module _ {M : WasmModule} {p : ImportPlaces} {last : ModuleSoFar} {ms : List Mention} (serves : Serves M p last) (are_known : AreKnown last ms) (alike : AreUsedAlike ms) where
  memory_known : (old new : ModuleSoFar) (o : Option MemoryOption) (place : Option ℕ) → IsMemoryImportedIfAny old new o place → Extended new last → (m : MemoryOption) → o ≡ Some m
      → Contains ms (record { def = m.def; role = Storage m.memory64 m.page_size_log2 }) → KnowsMemoryAt M p m place
  memory_known old new o place l later m is there =
      let here = subst (λ x. IsMemoryImportedIfAny old new x place) is l in
      record { number = here.number; place_is = here.place_is; knows = knows_memory serves are_known later alike m.def m.memory64 m.page_size_log2 here.number there here.imported }

  function_known : (old new : ModuleSoFar) (role : Role) (ty : FuncType) (o : Option CoreDef) (place : Option ℕ) → type_of_role role ≡ Some ty → IsImportedIfAny old new role o place → Extended new last → (f : CoreDef) → o ≡ Some f
      → Contains ms (record { def = f; role = role }) → KnowsFunctionAt M p f ty place
  function_known old new role ty o place typed l later f is there =
      let here = subst (λ x. IsImportedIfAny old new role x place) is l in
      record { number = here.number; place_is = here.place_is; knows = knows_function serves are_known later alike f role ty here.number typed there here.imported }

  module _ (old new : ModuleSoFar) (before : List Mention) (s : Side) (at : SideImports) (known : AreKnown old before) (l : IsSideImported old new s at) (later : Extended new last)
      (within : (m : Mention) → Contains (side_mentions s) m → Contains ms m) where
    known_flagged : AreKnown l.flagged (before ++ flags_mention s ∷ [])
    known_flagged = known_def (flags_mention s) at.flags l.flags known

    known_stored : AreKnown l.stored ((before ++ flags_mention s ∷ []) ++ memory_mention s.memory)
    known_stored = let found = memory_imports l.flagged l.stored s.memory at.memory l.memory in known_defs l.flagged l.stored _ (memory_mention s.memory) found.0 found.1 known_flagged

    known_supplied : AreKnown l.supplied (((before ++ flags_mention s ∷ []) ++ memory_mention s.memory) ++ realloc_mention s)
    known_supplied = let found = imports_if_any l.stored l.supplied (Realloc (is_wide s.memory)) s.realloc at.realloc l.realloc in known_defs l.stored l.supplied _ (realloc_mention s) found.0 found.1 known_stored

    from_flagged : Extended l.flagged last
    from_flagged = let behind = behind_flags old new s at l in extended_on (extended_defs l.flagged new _ (memory_mention s.memory ++ (realloc_mention s ++ callback_mention s)) behind.0 behind.1 known_flagged) later

    from_stored : Extended l.stored last
    from_stored = let behind = behind_memory old new s at l in extended_on (extended_defs l.stored new _ (realloc_mention s ++ callback_mention s) behind.0 behind.1 known_stored) later

    from_supplied : Extended l.supplied last
    from_supplied = let behind = behind_realloc old new s at l in extended_on (extended_defs l.supplied new _ (callback_mention s) behind.0 behind.1 known_supplied) later

    pub knows_side : KnowsSide M p s at
    knows_side = record {
      flags = knows_flags serves are_known from_flagged s.instance at.flags l.flags;
      memory = λ m is. memory_known l.flagged l.stored s.memory at.memory l.memory from_stored m is (within _ (memory_mentioned s m is));
      realloc = λ f is. function_known l.stored l.supplied (Realloc (is_wide s.memory)) (realloc_type (is_wide s.memory)) s.realloc at.realloc refl l.realloc from_supplied f is (within _ (realloc_mentioned s f is));
      callback = λ f is. function_known l.supplied new Callback callback_type s.callback at.callback refl l.callback later f is (within _ (callback_mentioned s f is));
    }

  module _ (old new : ModuleSoFar) (before : List Mention) (a : LinkedAdapter) (at : AdapterImports) (known : AreKnown old before) (l : IsAdapterImported old new a at) (later : Extended new last)
      (within : (m : Mention) → Contains (adapter_mentions a) m → Contains ms m) where
    known_lifted : AreKnown l.lifted (before ++ side_mentions a.lift)
    known_lifted = let found = side_imports old l.lifted a.lift at.lift l.lift in known_defs old l.lifted before (side_mentions a.lift) found.0 found.1 known

    known_lowered : AreKnown l.lowered ((before ++ side_mentions a.lift) ++ side_mentions a.lower)
    known_lowered = let found = side_imports l.lifted l.lowered a.lower at.lower l.lower in known_defs l.lifted l.lowered _ (side_mentions a.lower) found.0 found.1 known_lifted

    from_lifted : Extended l.lifted last
    from_lifted = let behind = behind_lift old new a at l in extended_on (extended_defs l.lifted new _ (side_mentions a.lower ++ ends a) behind.0 behind.1 known_lifted) later

    from_lowered : Extended l.lowered last
    from_lowered = let behind = behind_lower old new a at l in extended_on (extended_defs l.lowered new _ (ends a) behind.0 behind.1 known_lowered) later

    from_called : Extended l.called last
    from_called =
        let behind = behind_callee old new a at l in
        extended_on (extended_defs l.called new _ (mention (PostReturn a.name a.lift.core_type.results) a.lift.post_return) behind.0 behind.1 (known_def (record { def = a.callee; role = Callee a.name a.lift.core_type }) at.callee l.callee known_lowered)) later

    -- what stands behind the lift side's mentions, and behind the lower side's
    within_rest : (m : Mention) → Contains (side_mentions a.lower ++ ends a) m → Contains ms m
    within_rest m c = within m (Contains-append_right (side_mentions a.lift) (side_mentions a.lower ++ ends a) m c)

    within_ends : (m : Mention) → Contains (ends a) m → Contains ms m
    within_ends m c = within_rest m (Contains-append_right (side_mentions a.lower) (ends a) m c)

    pub knows_adapter : KnowsAdapter M p a at
    knows_adapter = record {
      lift = knows_side old l.lifted before a.lift at.lift known l.lift from_lifted (λ m c. within m (Contains-append_left (side_mentions a.lift) (side_mentions a.lower ++ ends a) m c));
      lower = knows_side l.lifted l.lowered _ a.lower at.lower known_lifted l.lower from_lowered (λ m c. within_rest m (Contains-append_left (side_mentions a.lower) (ends a) m c));
      callee = knows_function serves are_known from_called alike a.callee (Callee a.name a.lift.core_type) a.lift.core_type at.callee refl (within_ends _ (there-get (ends a) 0 _ refl)) l.callee;
      post_return = λ f is. function_known l.called new (PostReturn a.name a.lift.core_type.results) (post_return_type a.lift.core_type.results) a.lift.post_return at.post_return refl l.post_return later f is
          (within_ends _ (there-get (ends a) 1 _ (rw is refl)));
    }

-- ---- what actions ask of it

abbrev given : Option FuncType → List ValType
given o = elim o [ None ↦ [] | Some t ↦ t.results ]

-- a function that is known has the results of its type
results_known : {M : WasmModule} {p : ImportPlaces} {d : CoreDef} {place : ℕ} {params results : List ValType} → KnowsFunction M p (import.CoreDef d) place params results → results_of_import M p d ≡ results
results_known {M} h =
    ap (λ n. given (type_of_import M n)) h.placed
    ∙ ap (λ o. given (elim o [ None ↦ None | Some t ↦ slice_get M.types t ])) h.imported
    ∙ ap given h.type_is

module _ (M : WasmModule) (p : ImportPlaces) (a : LinkedAdapter) (at : AdapterImports) (h : KnowsAdapter M p a at) where
  memory_placed : (s : Side) (places : SideImports) → KnowsSide M p s places → (m : MemoryOption) → s.memory ≡ Some m → p.memory m.def < length p.memory_types
  memory_placed s places k m is =
      let here = k.memory m is in
      slice_get_within p.memory_types (p.memory m.def) _ (ap (λ n. slice_get p.memory_types n) here.knows.placed ∙ here.knows.kind)

  pub has_places : HasPlaces p a
  has_places = record {
    lift_memory = memory_placed a.lift at.lift h.lift;
    lower_memory = memory_placed a.lower at.lower h.lower;
    lift_flags = ap (λ n. slice_get p.global_types n) h.lift.flags.placed ∙ h.lift.flags.kind;
    lower_flags = ap (λ n. slice_get p.global_types n) h.lower.flags.placed ∙ h.lower.flags.kind;
  }

  pub have_core_types : a.lift.core_type ≡ record { params = (lift_signature_of a).params; results = (lift_signature_of a).results } → HaveCoreTypes (results_of_import M p) a
  have_core_types signature = record {
    callee = results_known h.callee ∙ ap (λ (ty : FuncType). ty.results) signature;
    lift_realloc = λ f is. results_known (h.lift.realloc f is).knows;
    lower_realloc = λ f is. results_known (h.lower.realloc f is).knows;
    post_return = λ f is. results_known (h.post_return f is).knows;
  }
