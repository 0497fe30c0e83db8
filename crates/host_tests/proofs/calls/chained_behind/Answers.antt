use Rattle.std.proofs.Common.{◌≡◌, arith, subst, sym}
use Rattle.fact_wasm.specs.declared.module.WasmModule.{WasmModule}
use Rattle.fact_host.specs.declared.calling.HostCall.{HostCall}
use Rattle.fact_chain.specs.Between.{CanBeRun}
use Rattle.host_tests.specs.Samples.{calling_module}
use Rattle.host_tests.proofs.Callable.{can_be_called}
use Rattle.host_tests.proofs.calls.chained_behind.Goals as goal

pub chain-chained-requires-clause-first : goal.chain-chained-requires-clause-first
chain-chained-requires-clause-first c =
    subst (λ (m : WasmModule). CanBeRun m c.new-types.result c.plain_call-outer.result) (sym c.in_ok-adapter_module.ensures)
    (subst (λ (x : HostCall). CanBeRun calling_module c.new-types.result x) (sym c.plain_call-outer.ensures) (can_be_called c.new-types.result c.args.func c.requires))

pub chain-chained-requires-clause-second : goal.chain-chained-requires-clause-second
chain-chained-requires-clause-second c =
    subst (λ (m : WasmModule). CanBeRun m c.new-types.result c.plain_call-inner.result) (sym c.in_ok-adapter_module.ensures)
    (subst (λ (x : HostCall). CanBeRun calling_module c.new-types.result x) (sym c.plain_call-inner.ensures) (can_be_called c.new-types.result 0 (omega arith)))
