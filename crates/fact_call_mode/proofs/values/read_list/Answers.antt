use Rattle.serde_json.specs.View.{view}
use Rattle.fact_call_laws.proofs.CarriedLists.{types_formed}
use Rattle.fact_call_mode.proofs.values.read_list.Goals as goal

pub returns-in-Ok-clause-typed : goal.returns-in-Ok-clause-typed
returns-in-Ok-clause-typed c = λ ss have.
    c.laws_of_json_values.ensures.list_read c.args.path.now ss (view c.args.json.now) c.in-Ok.values (types_formed c.args.types.now c.args.tys.now ss 0 have)
    (c.laws_of_json_values.ensures.texts c.args.json.now) (c.in-Ok.ensures ss have)
