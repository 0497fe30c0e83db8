use Rattle.std.proofs.Common.{sym}
use Rattle.std.proofs.lemmas.Result.{err_from_is_err_and}
use Rattle.fact_source.specs.declared.modules.SourceModule.{SourceModule}
use Rattle.fact_types.specs.Externs.{ModuleType}
use Rattle.fact_convert.specs.Conversion.{BuilderGrows}
use Rattle.fact_convert.specs.Converted.{IsModuleFrom}
use Rattle.fact_builder.specs.Builder.{Builder}
use Rattle.fact_convert.specs.Progress.{AreCoreImportsFrom, AreCoreExportsFrom}
use Rattle.fact_convert.proofs.Coming.{comes_out, comes_then, comes_not, comes_as}
use Rattle.fact_convert.proofs.CoreLaws.{module_made, module_full, module_tasks_at, core_imports_stay}
use Rattle.fact_convert.proofs.Opening.{comes_still, first_failed}
use Rattle.fact_convert.proofs.modules.module_type.Goals as goal

-- the imports are what they became while the exports were converted
module_from : (a b : Builder) → BuilderGrows a b → (m : SourceModule) (e : ModuleType) → AreCoreImportsFrom a m.imports e.imports → AreCoreExportsFrom b m.exports e.exports → IsModuleFrom b m e
module_from a b g m e h k = record { imports = core_imports_stay a b g m.imports e.imports h; exports = k }

pub returns-in_err-imports : goal.returns-in_err-imports
returns-in_err-imports c = comes_out _ _ _ _ _ c.from_residual.result _ (err_from_is_err_and c.from_residual.result c.from_residual.ensures.1) (comes_as _ _ _ _ _ _ _ (sym (module_tasks_at c.args.types.now c.args.id c.in-Some.module.now (sym c.in-Some.ensures.value))) (first_failed _ _ _ _ _ _ _ _ _ (c.in_err-imports.ensures c.args.types.now)))

pub returns-in_err-exports : goal.returns-in_err-exports
returns-in_err-exports c = comes_out _ _ _ _ _ c.from_residual-in_err-exports.result _ (err_from_is_err_and c.from_residual-in_err-exports.result c.from_residual-in_err-exports.ensures.1) (comes_as _ _ _ _ _ _ _ (sym (module_tasks_at c.args.types.now c.args.id c.in-Some.module.now (sym c.in-Some.ensures.value))) (comes_not _ _ _ _ _ _ _ _ (comes_then _ _ _ _ _ _ _ _ _ _ (c.in_ok-imports.ensures c.args.types.now) (c.in_err-exports.ensures c.args.types.now))))

pub returns-in_err-index : goal.returns-in_err-index
returns-in_err-index c =
    comes_out _ _ _ _ _ c.from_residual-in_err-index.result _ (err_from_is_err_and c.from_residual-in_err-index.result c.from_residual-in_err-index.ensures.1)
    (comes_as _ _ _ _ _ _ _ (sym (module_tasks_at c.args.types.now c.args.id c.in-Some.module.now (sym c.in-Some.ensures.value)))
    (comes_then _ _ _ _ _ _ _ _ _ _ (comes_then _ _ _ _ _ _ _ _ _ _ (c.in_ok-imports.ensures c.args.types.now) (c.in_ok-exports.ensures c.args.types.now))
    ((comes_still _ _ _ _ _ _ _ c.in_err-index.ensures.refused (module_full c.args.types.now _ c.in-Some.module.now _ c.push_module.result _ c.in_err-index.was c.push_module.ensures.too_large)))))

pub returns : goal.returns
returns c =
    let there = sym c.in-Some.ensures.value in
    let imports = c.in_ok-imports.ensures c.args.types.now in
    let exports = c.in_ok-exports.ensures c.args.types.now in
    comes_as _ _ _ _ _ _ _ (sym (module_tasks_at c.args.types.now c.args.id c.in-Some.module.now there))
    (comes_then _ _ _ _ _ _ _ _ _ _ (comes_then _ _ _ _ _ _ _ _ _ _ imports exports)
    ((module_made c.args.types.now _ c.push_module.new.self c.args.id c.in-Some.module.now (record { imports = c.in_ok-imports.imports.entries; exports = c.in_ok-exports.exports.entries }) c.in_ok-index.index there (module_from _ _ exports.grows c.in-Some.module.now _ imports.converts.1 exports.converts.1) c.in_ok-index.ensures.table c.in_ok-index.ensures.keeps c.in_ok-index.ensures.too_large c.in_ok-index.ensures.key)))
