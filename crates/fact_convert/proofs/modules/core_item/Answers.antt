use Rattle.std.proofs.Common.{◌≡◌, List, [], ◌∷◌, subst, refl}
use Rattle.std.specs.Prelude.{Ok}
use Rattle.std.proofs.lemmas.Result.{err_from_is_err_and}
use Rattle.fact_wasm.specs.declared.types.ValType.{ValType}
use Rattle.fact_source.specs.declared.modules.SourceEntityType.TheVariants as source
use Rattle.fact_source.specs.SourceTables.{SourceTables}
use Rattle.fact_types.specs.declared.externs.EngineOrModuleTypeIndex.{EngineOrModuleTypeIndex}
use Rattle.fact_types.specs.declared.externs.EngineOrModuleTypeIndex.TheVariants as core
use Rattle.fact_types.specs.declared.externs.EntityType.TheVariants as made
use Rattle.fact_builder.specs.declared.error.BuildError.TheVariants.{CustomDescriptors}
use Rattle.fact_convert.specs.Converted.{IsEntityFrom}
use Rattle.fact_convert.specs.Progress.{Comes, IsCoreFrom}
use Rattle.fact_builder.specs.Builder.{Builder}
use Rattle.fact_convert.specs.Tasks.{core_tasks, makes_core}
use Rattle.fact_convert.proofs.Coming.{comes_none, comes_out, comes_as, comes_with, comes_failed, comes_at_once}
use Rattle.fact_convert.proofs.Opening.{comes_named}
use Rattle.fact_convert.proofs.modules.core_item.Goals as goal

-- a core function type, as that of a function and as the signature of a tag
entity_func : (c : Builder) (ps rs : List ValType) (i : EngineOrModuleTypeIndex) → IsCoreFrom c ps rs i → IsEntityFrom c (source.Func ps rs) (made.Function i)
entity_func c ps rs (core.Module i) h = h
entity_func c ps rs (core.Engine n) h = absurd h

entity_tag : (c : Builder) (ps rs : List ValType) (i : EngineOrModuleTypeIndex) → IsCoreFrom c ps rs i → IsEntityFrom c (source.Tag ps rs) (made.Tag i)
entity_tag c ps rs (core.Module i) h = h
entity_tag c ps rs (core.Engine n) h = absurd h

core_func_of : (s : SourceTables) (a b : Builder) (ps rs qs us : List ValType) (i : EngineOrModuleTypeIndex) → ps ≡ qs → rs ≡ us → Comes s a (makes_core ps rs ∷ []) (λ c k. IsCoreFrom c ps rs k) b (Ok i) → Comes s a (core_tasks (source.Func qs us)) (λ c y. IsEntityFrom c (source.Func qs us) y) b (Ok (made.Function i))
core_func_of s a b ps rs qs us i e q h = subst (λ xs. Comes s a (core_tasks (source.Func xs us)) (λ c y. IsEntityFrom c (source.Func xs us) y) b (Ok (made.Function i))) e (subst (λ xs. Comes s a (core_tasks (source.Func ps xs)) (λ c y. IsEntityFrom c (source.Func ps xs) y) b (Ok (made.Function i))) q (comes_with s a b _ _ _ i (made.Function i) (entity_func b ps rs i) h))

core_tag_of : (s : SourceTables) (a b : Builder) (ps rs qs us : List ValType) (i : EngineOrModuleTypeIndex) → ps ≡ qs → rs ≡ us → Comes s a (makes_core ps rs ∷ []) (λ c k. IsCoreFrom c ps rs k) b (Ok i) → Comes s a (core_tasks (source.Tag qs us)) (λ c y. IsEntityFrom c (source.Tag qs us) y) b (Ok (made.Tag i))
core_tag_of s a b ps rs qs us i e q h = subst (λ xs. Comes s a (core_tasks (source.Tag xs us)) (λ c y. IsEntityFrom c (source.Tag xs us) y) b (Ok (made.Tag i))) e (subst (λ xs. Comes s a (core_tasks (source.Tag ps xs)) (λ c y. IsEntityFrom c (source.Tag ps xs) y) b (Ok (made.Tag i))) q (comes_with s a b _ _ _ i (made.Tag i) (entity_tag b ps rs i) h))

pub returns-in-Table : goal.returns-in-Table
returns-in-Table c = λ s. comes_named s _ _ core_tasks (λ e c' y. IsEntityFrom c' e y) _ _ _ c.in-Table.is (comes_none s _ _ _ refl)

pub returns-in-Memory : goal.returns-in-Memory
returns-in-Memory c = λ s. comes_named s _ _ core_tasks (λ e c' y. IsEntityFrom c' e y) _ _ _ c.in-Memory.is (comes_none s _ _ _ refl)

pub returns-in-Global : goal.returns-in-Global
returns-in-Global c = λ s. comes_named s _ _ core_tasks (λ e c' y. IsEntityFrom c' e y) _ _ _ c.in-Global.is (comes_none s _ _ _ refl)

pub returns-in-FuncExact : goal.returns-in-FuncExact
returns-in-FuncExact c = λ s. comes_named s _ _ core_tasks (λ e c' y. IsEntityFrom c' e y) _ _ _ c.in-FuncExact.is (comes_at_once s _ _ _ CustomDescriptors refl)

pub returns-in_err-index-in-Func : goal.returns-in_err-index-in-Func
returns-in_err-index-in-Func c = λ s. comes_named s _ _ core_tasks (λ e c' y. IsEntityFrom c' e y) _ _ _ c.in-Func.is (comes_out _ _ _ _ _ c.from_residual.result _ (err_from_is_err_and c.from_residual.result c.from_residual.ensures.1) (comes_as _ _ _ _ _ _ _ (λ j. makes_core (c.as_slice.ensures j) (c.as_slice-in-Func.ensures j) ∷ []) (comes_failed _ _ _ _ _ _ _ (c.in_err-index-in-Func.ensures s))))

pub returns-in_ok-index-in-Func : goal.returns-in_ok-index-in-Func
returns-in_ok-index-in-Func c = λ s. comes_named s _ _ core_tasks (λ e c' y. IsEntityFrom c' e y) _ _ _ c.in-Func.is (core_func_of s _ _ _ _ _ _ _ c.as_slice.ensures c.as_slice-in-Func.ensures (c.in_ok-index-in-Func.ensures s))

pub returns-in_err-signature-in-Tag : goal.returns-in_err-signature-in-Tag
returns-in_err-signature-in-Tag c = λ s. comes_named s _ _ core_tasks (λ e c' y. IsEntityFrom c' e y) _ _ _ c.in-Tag.is (comes_out _ _ _ _ _ c.from_residual-in_err-signature-in-Tag.result _ (err_from_is_err_and c.from_residual-in_err-signature-in-Tag.result c.from_residual-in_err-signature-in-Tag.ensures.1) (comes_as _ _ _ _ _ _ _ (λ j. makes_core (c.as_slice-in-Tag.ensures j) (c.as_slice-in-Tag-2.ensures j) ∷ []) (comes_failed _ _ _ _ _ _ _ (c.in_err-signature-in-Tag.ensures s))))

pub returns-in_ok-signature-in-Tag : goal.returns-in_ok-signature-in-Tag
returns-in_ok-signature-in-Tag c = λ s. comes_named s _ _ core_tasks (λ e c' y. IsEntityFrom c' e y) _ _ _ c.in-Tag.is (core_tag_of s _ _ _ _ _ _ _ c.as_slice-in-Tag.ensures c.as_slice-in-Tag-2.ensures (c.in_ok-signature-in-Tag.ensures s))
