use Rattle.std.proofs.Common.{sym, append-nil, ◌∙◌, ap, ◌++◌}
use Rattle.std.specs.Prelude.{option_to_list}
use Rattle.fact_convert.proofs.members.push_payload.Goals as goal

pub returns-in-None : goal.returns-in-None
returns-in-None c = sym (append-nil _) ∙ ap (λ p. c.args.types.now ++ option_to_list p) (sym c.in-None.is)
