use Rattle.std.proofs.Common.{◌∙◌, [], ◌∷◌, ap, subst}
use Rattle.fact_code_laws.specs.Code.{cases_code}
use Rattle.fact_emit.specs.Writers.{Wrote}
use Rattle.fact_emit.proofs.choices.put_either.Goals as goal

pub returns : goal.returns
returns c = subst (Wrote _ _) (c.in_ok-code.ensures ∙ ap (cases_code c.args.test.items (0 ∷ []) 1) c.in_ok-bodies.ensures.items) c.in_ok-put.ensures
