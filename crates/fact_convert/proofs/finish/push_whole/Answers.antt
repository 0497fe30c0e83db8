use Rattle.std.proofs.lemmas.Result.{err_from_is_err_and}
use Rattle.fact_convert.proofs.CoreLaws.{no_err}
use Rattle.fact_convert.proofs.FinishLaws.{imports_live, exports_live, whole_pushed, whole_refused, whole_short}
use Rattle.fact_convert.proofs.finish.push_whole.Goals as goal

pub push_component-requires : goal.push_component-requires
push_component-requires c = record {
  imports = imports_live c.args.builder.now.tables _ _ c.in_ok-imports.ensures c.requires.imports;
  exports = exports_live c.args.builder.now.tables _ _ c.requires.items _ c.in_ok-exports.ensures;
}

pub returns-in_err-imports : goal.returns-in_err-imports
returns-in_err-imports c = whole_short _ _ c.from_residual.result (err_from_is_err_and c.from_residual.result c.from_residual.ensures.1)

pub returns-in_err-exports : goal.returns-in_err-exports
returns-in_err-exports c = whole_short _ _ c.from_residual-in_err-exports.result (err_from_is_err_and c.from_residual-in_err-exports.result c.from_residual-in_err-exports.ensures.1)

pub returns-in_err-push_component : goal.returns-in_err-push_component
returns-in_err-push_component c = whole_refused _ _ _ c.push_component.result _ c.in_err-push_component.was c.push_component.ensures.too_large c.from_residual-in_err-push_component.result (err_from_is_err_and c.from_residual-in_err-push_component.result c.from_residual-in_err-push_component.ensures.1) c.in_err-push_component.ensures.refused

pub returns : goal.returns
returns c = whole_pushed _ _ _ _ _ (record { imports = c.in_ok-imports.ensures; exports = c.in_ok-exports.ensures }) (no_err _ _ c.in_ok-push_component.ensures.too_large) c.in_ok-push_component.ensures.table c.in_ok-push_component.ensures.key
