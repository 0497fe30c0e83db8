-- What comes of core function types, of the imports and exports of core modules, and of modules.
use Rattle.std.proofs.Common.{◌≡◌, ◌↔◌, ℕ, List, [], ◌∷◌, ◌++◌, length, map, Some, None, refl, sym, ◌∙◌, ap, subst, suc, arith, length-append}
use Rattle.std.specs.Prelude.{nat_eq, slice_get, position, flat_map, Result, Ok, Err}
use Rattle.std.specs.Cmp.Lexicographic.{pointwise}
use Rattle.std.proofs.lemmas.List.{map-append}
use Rattle.indexmap.specs.IndexMap.{insert_entry}
use Rattle.fact_entity.specs.declared.error.PushError.{PushError}
use Rattle.fact_entity.specs.declared.error.PushError.TheVariants as push
use Rattle.fact_entity.specs.declared.id.Id.{Id}
use Rattle.fact_entity.specs.declared.table.ModuleInternedTypes.{ModuleInternedTypes}
use Rattle.fact_entity.specs.declared.table.SourceModuleTypes.{SourceModuleTypes}
use Rattle.fact_entity.specs.declared.table.TypeModules.{TypeModules}
use Rattle.fact_entity.specs.Places.{IsInterned}
use Rattle.fact_wasm.proofs.Signatures.{exact_func}
use Rattle.fact_wasm.specs.contracts.types.FuncTypeEq.TheImpl.Laws.{laws-law as func_laws}
use Rattle.fact_wasm.specs.contracts.types.FuncTypePartialEq.TheImpl as func_eq
use Rattle.fact_wasm.specs.declared.types.FuncType.{FuncType}
use Rattle.fact_source.specs.declared.items.ComponentEntityType.TheVariants as entity
use Rattle.fact_source.specs.declared.modules.SourceEntityType.{SourceEntityType}
use Rattle.fact_source.specs.declared.modules.SourceModule.{SourceModule}
use Rattle.fact_source.specs.SourceTables.{SourceTables}
use Rattle.fact_types.specs.declared.externs.EngineOrModuleTypeIndex.TheVariants as core
use Rattle.fact_types.specs.declared.externs.EntityType.{EntityType}
use Rattle.fact_types.specs.declared.interface.TypeDef.TheVariants as def
use Rattle.fact_types.specs.Externs.{ModuleType}
use Rattle.fact_builder.specs.Builder.{Builder}
use Rattle.fact_builder.specs.Keeps.{Keeps}
use Rattle.fact_builder.specs.Errors.{build_error}
use Rattle.fact_convert.specs.Appended.{IsDefMade}
use Rattle.fact_convert.specs.Conversion.{BuilderGrows}
use Rattle.fact_convert.specs.Converted.{IsEntityFrom, IsModuleFrom}
use Rattle.fact_convert.specs.Merging.{merged, merged_pairs, same_pair}
use Rattle.fact_convert.specs.Progress.{Comes, AreKeyed, IsCoreFrom, AreCoreImportsFrom, AreCoreExportsFrom}
use Rattle.fact_convert.specs.Tasks.{makes_core, core_tasks, module_tasks, appends_module, items_where_any, tasks_of}
use Rattle.fact_convert.proofs.Adding.{gains_core, gains_module, gains_grow, gains_kept}
use Rattle.fact_convert.proofs.Coming.{comes_by, comes_refused}
use Rattle.fact_convert.proofs.InternLaws.{interned, exactly_at, no_room}
use Rattle.fact_convert.proofs.Merged.{zip_so, both_put, one_more_merged}
use Rattle.fact_convert.proofs.Within.{entity_stays, module_stays}

-- ---- core function types

pub core_made : (s : SourceTables) (a : Builder) (fs : List FuncType) (f : FuncType) (k : Id ModuleInternedTypes)
    → IsInterned func_eq.ghosts.eq a.module_types fs f k.number → ((Ok k ≡ Err push.TooLarge) ↔ ((position (func_eq.ghosts.eq f) a.module_types ≡ None) × (length a.module_types ≡ 4294967295)))
    → Comes s a (makes_core f.params f.results ∷ []) (λ c i. IsCoreFrom c f.params f.results i) (record a { module_types = fs }) (Ok (core.Module k))
core_made s a fs f k d t =
    let at = exactly_at func_eq.ghosts.eq exact_func a.module_types fs f k.number d in
    let n = interned func_eq.ghosts.eq func_laws.refl a.module_types fs f k.number k d at t in
    let g = gains_core a f fs n in
    let b : Builder = record a { module_types = fs } in
    comes_by s a b (makes_core f.params f.results) (λ c i. IsCoreFrom c f.params f.results i) (core.Module k) (fs, n, refl) (gains_grow a b g) (gains_kept a b g) at

pub core_full : {K Y : Type 0} (s : SourceTables) (a : Builder) (f : FuncType) (F : Builder → Y → Type 0) (res : Result K PushError) (x : PushError) → res ≡ Err x
    → ((res ≡ Err push.TooLarge) ↔ ((position (func_eq.ghosts.eq f) a.module_types ≡ None) × (length a.module_types ≡ 4294967295))) → Comes s a (makes_core f.params f.results ∷ []) F a (Err (build_error x))
core_full s a f F res x q t = comes_refused s a (makes_core f.params f.results) [] F x (λ z. no_room func_eq.ghosts.eq func_laws.refl a.module_types f (t.0 (q ∙ ap Err z)))

-- ---- imports and exports that were converted before

pub core_imports_stay : (a b : Builder) → BuilderGrows a b → (xs : List (List ℕ × List ℕ × SourceEntityType)) (made : List ((List ℕ × List ℕ) × EntityType)) → AreCoreImportsFrom a xs made → AreCoreImportsFrom b xs made
core_imports_stay a b g xs made h = zip_so _ _ _ _ (λ x y k. (k.0, entity_stays a b g x.1 y.1 k.1)) h

pub core_exports_stay : (a b : Builder) → BuilderGrows a b → (xs : List (List ℕ × SourceEntityType)) (made : List (List ℕ × EntityType)) → AreCoreExportsFrom a xs made → AreCoreExportsFrom b xs made
core_exports_stay a b g xs made h = zip_so _ _ _ _ (λ x y k. (k.0, entity_stays a b g x.1 y.1 k.1)) h

-- one more was converted, and put under its name, or under its two names
pub one_more_core_import : (a b : Builder) → BuilderGrows a b → (xs : List (List ℕ × List ℕ × SourceEntityType)) (x : List ℕ × List ℕ × SourceEntityType) (y : EntityType) (old new : List ((List ℕ × List ℕ) × EntityType)) → AreCoreImportsFrom a xs old → IsEntityFrom b x.2 y → new ≡ insert_entry same_pair old (x.0, x.1) y → AreCoreImportsFrom b (xs ++ x ∷ []) new
one_more_core_import a b g xs x y old new k h e =
    subst (λ es. AreKeyed (IsEntityFrom b) es new) (sym (ap merged_pairs (map-append (λ (x : List ℕ × List ℕ × SourceEntityType). ((x.0, x.1), x.2)) xs (x ∷ [])) ∙ one_more_merged same_pair (map (λ x. ((x.0, x.1), x.2)) xs) ((x.0, x.1), x.2)))
    (subst (AreKeyed (IsEntityFrom b) (insert_entry same_pair (merged_pairs (map (λ x. ((x.0, x.1), x.2)) xs)) (x.0, x.1) x.2)) (sym e) (both_put same_pair (IsEntityFrom b) (merged_pairs (map (λ x. ((x.0, x.1), x.2)) xs)) old (x.0, x.1) (x.0, x.1) x.2 y (core_imports_stay a b g xs old k) refl h))

pub one_more_core_export : (a b : Builder) → BuilderGrows a b → (xs : List (List ℕ × SourceEntityType)) (x : List ℕ × SourceEntityType) (y : EntityType) (old new : List (List ℕ × EntityType)) → AreCoreExportsFrom a xs old → IsEntityFrom b x.1 y → new ≡ insert_entry (pointwise nat_eq) old x.0 y → AreCoreExportsFrom b (xs ++ x ∷ []) new
one_more_core_export a b g xs x y old new k h e =
    subst (λ es. AreKeyed (IsEntityFrom b) es new) (sym (one_more_merged (pointwise nat_eq) xs x))
    (subst (AreKeyed (IsEntityFrom b) (insert_entry (pointwise nat_eq) (merged xs) x.0 x.1)) (sym e) (both_put (pointwise nat_eq) (IsEntityFrom b) (merged xs) old x.0 x.0 x.1 y (core_exports_stay a b g xs old k) refl h))

-- ---- modules

pub last_there : {X : Type 0} (xs : List X) (x : X) (n : ℕ) → n ≡ length xs → slice_get (xs ++ x ∷ []) n ≡ Some x
last_there xs x n e = ap (λ m. slice_get (xs ++ x ∷ []) m) e ∙ at_end xs x
  where
    at_end : {X : Type 0} (xs : List X) (x : X) → slice_get (xs ++ x ∷ []) (length xs) ≡ Some x
    at_end [] x = refl
    at_end (y ∷ ys) x = at_end ys x

pub last_number : {X : Type 0} (xs : List X) (x : X) (n : ℕ) → n ≡ length xs → suc n ≡ length (xs ++ x ∷ [])
last_number xs x n e = omega (arith, length-append xs (x ∷ []), e)

pub no_err : {K : Type 0} (k : K) (P : Type 0) → ((Ok k ≡ Err push.TooLarge) ↔ P) → P → ⊥
no_err k P t p = let both : Ok k ≡ Err push.TooLarge = t.1 p in cc

pub module_made : (s : SourceTables) (a : Builder) (b : Builder) (i : Id SourceModuleTypes) (m : SourceModule) (e : ModuleType) (k : Id TypeModules) → slice_get s.modules i.number ≡ Some m → IsModuleFrom a m e
    → b ≡ record a { tables = record a.tables { modules = a.tables.modules ++ e ∷ [] } } → Keeps a.tables b.tables → ((Ok k ≡ Err push.TooLarge) ↔ (length a.tables.modules ≡ 4294967295)) → k.number ≡ length a.tables.modules
    → Comes s a (appends_module m ∷ []) (λ c j. IsDefMade s c (entity.Module i) (def.Module j)) b (Ok k)
module_made s a b i m e k there from rest keeps t place =
    let b' : Builder = record a { tables = record a.tables { modules = a.tables.modules ++ e ∷ [] } } in
    let g = gains_module a e (subst (λ (z : Builder). Keeps a.tables z.tables) rest keeps) in
    let c : Builder = b' in
    subst (λ (z : Builder). Comes s a (appends_module m ∷ []) (λ c j. IsDefMade s c (entity.Module i) (def.Module j)) z (Ok k)) (sym rest)
    (comes_by s a c (appends_module m) (λ c j. IsDefMade s c (entity.Module i) (def.Module j)) k (e, from, no_err k _ t, refl) (gains_grow a b' g) (gains_kept a b' g)
    ((m, e, there, last_there a.tables.modules e k.number place, module_stays a c (gains_grow a b' g) m e from), last_number a.tables.modules e k.number place))

pub module_full : {K Y : Type 0} (s : SourceTables) (a : Builder) (m : SourceModule) (F : Builder → Y → Type 0) (res : Result K PushError) (x : PushError) → res ≡ Err x → ((res ≡ Err push.TooLarge) ↔ (length a.tables.modules ≡ 4294967295)) → Comes s a (appends_module m ∷ []) F a (Err (build_error x))
module_full s a m F res x q t = comes_refused s a (appends_module m) [] F x (λ z. t.0 (q ∙ ap Err z))

pub module_tasks_at : (s : SourceTables) (i : Id SourceModuleTypes) (m : SourceModule) → slice_get s.modules i.number ≡ Some m → tasks_of s (entity.Module i) ≡ flat_map (λ x. core_tasks x.2) m.imports ++ flat_map (λ x. core_tasks x.1) m.exports ++ appends_module m ∷ []
module_tasks_at s i m h = ap (items_where_any module_tasks) h
