use Rattle.std.proofs.Common.{◌≡◌, ◌↔◌, List, [], ◌∷◌, length, None, sym, subst}
use Rattle.std.specs.Prelude.{position, Result, Ok, Err}
use Rattle.std.proofs.lemmas.Result.{err_from_is_err_and}
use Rattle.fact_entity.specs.declared.error.PushError.{PushError}
use Rattle.fact_entity.specs.declared.error.PushError.TheVariants as push
use Rattle.fact_entity.specs.declared.id.Id.{Id}
use Rattle.fact_entity.specs.declared.table.ModuleInternedTypes.{ModuleInternedTypes}
use Rattle.fact_entity.specs.Places.{IsInterned}
use Rattle.fact_wasm.specs.contracts.types.FuncTypePartialEq.TheImpl as func_eq
use Rattle.fact_wasm.specs.declared.types.FuncType.{FuncType}
use Rattle.fact_wasm.specs.declared.types.ValType.{ValType}
use Rattle.fact_source.specs.SourceTables.{SourceTables}
use Rattle.fact_types.specs.declared.externs.EngineOrModuleTypeIndex.TheVariants as core
use Rattle.fact_builder.specs.Builder.{Builder}
use Rattle.fact_builder.specs.Errors.{build_error}
use Rattle.fact_convert.specs.Progress.{Comes, IsCoreFrom}
use Rattle.fact_convert.specs.Tasks.{makes_core}
use Rattle.fact_convert.proofs.Coming.{comes_out, comes_to_nothing}
use Rattle.fact_convert.proofs.CoreLaws.{core_made, core_full}
use Rattle.fact_convert.proofs.modules.core_func.Goals as goal

-- the type of these parameters and results was found or added
core_added : (s : SourceTables) (a : Builder) (b : Builder) (f : FuncType) (k : Id ModuleInternedTypes) (ps rs : List ValType) → f ≡ record { params = ps; results = rs } → IsInterned func_eq.ghosts.eq a.module_types b.module_types f k.number → b ≡ record a { module_types = b.module_types }
    → ((Ok k ≡ Err push.TooLarge) ↔ ((position (func_eq.ghosts.eq f) a.module_types ≡ None) × (length a.module_types ≡ 4294967295)))
    → Comes s a (makes_core ps rs ∷ []) (λ c i. IsCoreFrom c ps rs i) b (Ok (core.Module k))
core_added s a b f k ps rs e d rest t =
    subst (λ (z : Builder). Comes s a (makes_core ps rs ∷ []) (λ c i. IsCoreFrom c ps rs i) z (Ok (core.Module k))) (sym rest)
    (subst (λ (z : FuncType). Comes s a (makes_core z.params z.results ∷ []) (λ c i. IsCoreFrom c z.params z.results i) (record a { module_types = b.module_types }) (Ok (core.Module k))) e (core_made s a b.module_types f k d t))

-- there was no room for it
core_refused : {K : Type 0} (s : SourceTables) (a : Builder) (b : Builder) (f : FuncType) (ps rs : List ValType) (r : Result K PushError) (x : PushError) → f ≡ record { params = ps; results = rs } → r ≡ Err x → b ≡ a
    → ((r ≡ Err push.TooLarge) ↔ ((position (func_eq.ghosts.eq f) a.module_types ≡ None) × (length a.module_types ≡ 4294967295)))
    → Comes s a (makes_core ps rs ∷ []) (λ c i. IsCoreFrom c ps rs i) b (Err (build_error x))
core_refused s a b f ps rs r x e q same t =
    subst (λ (z : Builder). Comes s a (makes_core ps rs ∷ []) (λ c i. IsCoreFrom c ps rs i) z (Err (build_error x))) (sym same)
    (subst (λ (z : FuncType). Comes s a (makes_core z.params z.results ∷ []) (λ c i. IsCoreFrom c ps rs i) a (Err (build_error x))) e (core_full s a f (λ c i. IsCoreFrom c ps rs i) r x q t))

pub returns-in_err-ty : goal.returns-in_err-ty
returns-in_err-ty c = λ s. comes_out _ _ _ _ _ c.from_residual.result _ (err_from_is_err_and c.from_residual.result c.from_residual.ensures.1) (comes_to_nothing _ _ _ _)

pub returns-in_err-index : goal.returns-in_err-index
returns-in_err-index c = λ s. (comes_out _ _ _ _ _ c.from_residual-in_err-index.result _ (err_from_is_err_and c.from_residual-in_err-index.result c.from_residual-in_err-index.ensures.1)
    (core_refused s _ c.intern_core.new.builder _ _ _ c.intern_core.result _ c.in_ok-ty.ensures c.in_err-index.was c.in_err-index.ensures.refused c.intern_core.ensures.too_large))

pub returns : goal.returns
returns c = λ s. (core_added s _ c.intern_core.new.builder _ c.in_ok-index.index _ _ c.in_ok-ty.ensures c.in_ok-index.ensures.interned c.in_ok-index.ensures.rest c.in_ok-index.ensures.too_large)
