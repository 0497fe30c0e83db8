use Rattle.std.proofs.Common.{ap, length, ◌∙◌}
use Rattle.fact_type_rules.proofs.FunctionLaws.{many-names, same-names}
use Rattle.fact_type_rules.proofs.functions.has_many_names.Goals as goal

pub returns : goal.returns
returns c = λ ps rs s. many-names s.func.param_names _ (c.len.ensures ∙ ap length (same-names c.args.builder.now.tables c.args.ty c.index.result.now ps rs c.index.ensures s))
