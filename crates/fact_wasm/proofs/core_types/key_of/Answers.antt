use Rattle.fact_wasm.proofs.TypePlaces.{found_alone}
use Rattle.fact_wasm.proofs.core_types.key_of.Goals as goal

pub returns-clause-found : goal.returns-clause-found
returns-clause-found c = found_alone c.find.result c.args.places.now c.args.ty.now c.find.ensures.interned
