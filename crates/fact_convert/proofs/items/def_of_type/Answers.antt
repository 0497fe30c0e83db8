use Rattle.std.proofs.Common.{◌≡◌, subst, refl}
use Rattle.std.specs.Prelude.{Err}
use Rattle.std.proofs.lemmas.Result.{err_from_is_err_and}
use Rattle.fact_convert.specs.Progress.{Comes}
use Rattle.fact_source.specs.declared.items.ComponentEntityType.TheVariants as entity
use Rattle.fact_entity.specs.declared.source_ids.ComponentAnyTypeId.{ComponentAnyTypeId}
use Rattle.fact_entity.specs.declared.source_ids.ComponentAnyTypeId.TheVariants as any
use Rattle.fact_source.specs.Live.{IsLiveAny}
use Rattle.fact_source.specs.SourceTables.{SourceTables}
use Rattle.fact_types.specs.declared.interface.TypeDef.{TypeDef}
use Rattle.fact_builder.specs.declared.error.BuildError.TheVariants.{UnsupportedTypeExport}
use Rattle.fact_convert.specs.Appended.{IsDefMade}
use Rattle.fact_builder.specs.Builder.{Builder}
use Rattle.fact_convert.specs.Tasks.{tasks_of}
use Rattle.fact_convert.proofs.Coming.{comes_out, comes_with, comes_failed, comes_at_once}
use Rattle.fact_convert.proofs.Opening.{comes_named}
use Rattle.fact_convert.proofs.items.def_of_type.Goals as goal

pub type_of_defined-requires-clause-live : goal.type_of_defined-requires-clause-live
type_of_defined-requires-clause-live c = subst (IsLiveAny c.args.types.now) c.in-Defined.is c.requires.live

pub returns-in_err-ty-in-Defined : goal.returns-in_err-ty-in-Defined
returns-in_err-ty-in-Defined c = comes_named _ _ _ (λ i. tasks_of c.args.types.now (entity.AnyType i)) (λ i c' d. IsDefMade c.args.types.now c' (entity.AnyType i) d) _ _ _ c.in-Defined.is (comes_out _ _ _ _ _ c.from_residual.result _ (err_from_is_err_and c.from_residual.result c.from_residual.ensures.1) (comes_failed _ _ _ _ _ _ _ c.in_err-ty-in-Defined.ensures))

pub returns-in_ok-ty-in-Defined : goal.returns-in_ok-ty-in-Defined
returns-in_ok-ty-in-Defined c = comes_named _ _ _ (λ i. tasks_of c.args.types.now (entity.AnyType i)) (λ i c' d. IsDefMade c.args.types.now c' (entity.AnyType i) d) _ _ _ c.in-Defined.is (comes_with _ _ _ _ _ _ _ _ (λ h. (h, tt)) c.in_ok-ty-in-Defined.ensures)

pub returns-in_err-index-in-Resource : goal.returns-in_err-index-in-Resource
returns-in_err-index-in-Resource c = comes_named _ _ _ (λ i. tasks_of c.args.types.now (entity.AnyType i)) (λ i c' d. IsDefMade c.args.types.now c' (entity.AnyType i) d) _ _ _ c.in-Resource.is (comes_out _ _ _ _ _ c.from_residual-in_err-index-in-Resource.result _ (err_from_is_err_and c.from_residual-in_err-index-in-Resource.result c.from_residual-in_err-index-in-Resource.ensures.1) (comes_failed _ _ _ _ _ _ _ (c.in_err-index-in-Resource.ensures c.args.types.now)))

pub returns-in_ok-index-in-Resource : goal.returns-in_ok-index-in-Resource
returns-in_ok-index-in-Resource c = comes_named _ _ _ (λ i. tasks_of c.args.types.now (entity.AnyType i)) (λ i c' d. IsDefMade c.args.types.now c' (entity.AnyType i) d) _ _ _ c.in-Resource.is (comes_with _ _ _ _ _ _ _ _ (λ h. (h, tt)) (c.in_ok-index-in-Resource.ensures c.args.types.now))

-- any other type is refused
refused_type : (s : SourceTables) (a : Builder) (i : ComponentAnyTypeId) (F : Builder → TypeDef → Type 0) → ((k : _) → i ≡ any.Defined k → ⊥) → ((k : _) → i ≡ any.Resource k → ⊥) → Comes s a (tasks_of s (entity.AnyType i)) F a (Err UnsupportedTypeExport)
refused_type s a (any.Defined k) F h q = absurd (h k refl)
refused_type s a (any.Resource k) F h q = absurd (q k refl)
refused_type s a (any.Func k) F h q = comes_at_once s a _ F UnsupportedTypeExport refl
refused_type s a (any.Instance k) F h q = comes_at_once s a _ F UnsupportedTypeExport refl
refused_type s a (any.Component k) F h q = comes_at_once s a _ F UnsupportedTypeExport refl

pub returns-in_default : goal.returns-in_default
returns-in_default c = refused_type c.args.types.now _ c.args.created _ c.in_default.not-Defined c.in_default.not-Resource
