use Rattle.std.proofs.Common.{refl, subst, sym}
use Rattle.fact_types.specs.Functions.{HaveShapes}
use Rattle.fact_function_laws.specs.Names.{places_in}
use Rattle.fact_call_mode.proofs.HostSides.{side_described}
use Rattle.fact_call_mode.proofs.places.host_side.Goals as goal

pub returns-clause-side : goal.returns-clause-side
returns-clause-side c = λ s side sync.
    let t = c.args.types.now.builder.tables in
    side_described c.args.types.now.builder c.args.ty c.args.options.now s (places_in c.args.fused.now.«module» c.args.fused.now.imports) _ side sync
    (subst (λ tys. HaveShapes t tys s.params) (sym c.in_ok-params.ensures) (c.params_of.ensures.shaped s.params s.results side.signature))
    (subst (λ tys. HaveShapes t tys s.results) (sym c.in_ok-results.ensures) (c.results_of.ensures.shaped s.params s.results side.signature))
    (record { memory64 = c.is_memory64.ensures; encoding = refl; memory = c.memory_place.ensures; realloc = c.function_place.ensures; flags = c.place_of.ensures })
