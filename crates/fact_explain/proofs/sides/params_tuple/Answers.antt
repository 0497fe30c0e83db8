use Rattle.std.proofs.Common.{refl}
use Rattle.fact_builder.proofs.HandleLaws.{params_shape}
use Rattle.fact_explain.proofs.sides.params_tuple.Goals as goal

pub returns-clause-shaped : goal.returns-clause-shaped
returns-clause-shaped c = λ ps rs h. params_shape _ _ refl c.args.ty _ c.index.ensures ps rs h
