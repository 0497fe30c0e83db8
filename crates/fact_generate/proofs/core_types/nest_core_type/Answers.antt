-- A nest of at most seven levels is passed flat, a deeper one behind a pointer.
use Rattle.std.proofs.Common.{◌≡◌, List, [], ◌∷◌, IfOk, sym, subst, ◌∙◌}
use Rattle.fact_wasm.specs.declared.types.FuncType.{FuncType}
use Rattle.fact_wasm.specs.declared.types.ValType.{ValType}
use Rattle.fact_generate.proofs.NestFlats.{nest-core-flat, nest-core-behind, only_params}
use Rattle.fact_generate.proofs.core_types.nest_core_type.Goals as goal

pub returns-then-depth-gt-FLAT_NEST : goal.returns-then-depth-gt-FLAT_NEST
returns-then-depth-gt-FLAT_NEST c =
    subst (λ (t : FuncType). IfOk c.from_slices.result (λ core. core ≡ t)) (sym (nest-core-behind c.args.lifts c.args.depth c.if-depth-gt-FLAT_NEST.true))
    (subst (λ (a : ValType). IfOk c.from_slices.result (λ core. core ≡ only_params (a ∷ []))) c.address_type.ensures c.from_slices.ensures)

pub returns : goal.returns
returns c =
    subst (λ (t : FuncType). IfOk c.from_slices-2.result (λ core. core ≡ t)) (sym (nest-core-flat c.args.lifts c.args.depth c.if-depth-gt-FLAT_NEST.false))
    (subst (λ (ps : List ValType). IfOk c.from_slices-2.result (λ core. core ≡ only_params ps)) (c.as_slice.ensures ∙ c.in_ok-values.ensures) c.from_slices-2.ensures)
