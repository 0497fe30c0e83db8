use Rattle.fact_compound.proofs.FunctionShapes.{params_shape, results_shape}
use Rattle.fact_compound.proofs.tuples.tuples_of.Goals as goal

pub returns-clause-params : goal.returns-clause-params
returns-clause-params c = λ ps rs h. params_shape c.index-entry.ensures ps rs h

pub returns-clause-results : goal.returns-clause-results
returns-clause-results c = λ ps rs h. results_shape c.index-entry.ensures ps rs h
