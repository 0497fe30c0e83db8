use Rattle.std.specs.Prelude.{◌≡◌, replicate}
use Rattle.fact_wasm.specs.declared.types.ValType.TheVariants as val
use Rattle.fact_kinds.proofs.helpers.helper_params.Given as goal

abbrev pub invariant-loop : goal.invariant-loop
invariant-loop l = l.values ≡ replicate l.counter val.I64
