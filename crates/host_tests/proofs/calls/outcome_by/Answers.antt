use Rattle.std.proofs.Common.{◌≡◌, arith, subst, sym}
use Rattle.fact_wasm.specs.declared.module.WasmModule.{WasmModule}
use Rattle.fact_host.specs.declared.calling.HostCall.{HostCall}
use Rattle.fact_host.specs.Contract.{AreTypesLive, IsCallable}
use Rattle.host_tests.specs.Samples.{calling_module, no_shapes, plain_call}
use Rattle.host_tests.proofs.Callable.{sample_callable, sample_live}
use Rattle.host_tests.proofs.calls.outcome_by.Goals as goal

pub call-outcome-requires-clause-callable : goal.call-outcome-requires-clause-callable
call-outcome-requires-clause-callable g c =
    let adapter_module : c.in_ok-adapter_module.adapter_module ≡ calling_module = c.in_ok-adapter_module.ensures in
    let sample : c.plain_call-sample.result ≡ plain_call 0 = c.plain_call-sample.ensures in
    (no_shapes, subst (λ (m : WasmModule). IsCallable m c.new-types.result c.plain_call-sample.result no_shapes) (sym adapter_module) (subst (λ (x : HostCall). IsCallable calling_module c.new-types.result x no_shapes) (sym sample) (sample_callable c.new-types.result 0 (omega arith))))

pub call-outcome-requires-clause-live : goal.call-outcome-requires-clause-live
call-outcome-requires-clause-live g c = subst (λ (x : HostCall). AreTypesLive c.new-types.result x) (sym c.plain_call-sample.ensures) (sample_live c.new-types.result 0)
