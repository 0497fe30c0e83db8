use Rattle.std.proofs.Common.{take}
use Rattle.std.specs.List.{AllByRecursion}
use Rattle.fact_wasm.specs.declared.module.WasmFunc.{WasmFunc}
use Rattle.fact_check.specs.Constants.{AreTypedConstants}
use Rattle.fact_check.proofs.constants.read_constants.Given as goal

abbrev pub invariant-loop-func : goal.invariant-loop-func
invariant-loop-func l = AllByRecursion (λ (f : WasmFunc). AreTypedConstants f.body) (take l.func-index l.fn.module.funcs)
