use Rattle.std.proofs.Common.{◌≡◌, ℕ, List, ap, sym, ◌∙◌}
use Rattle.fact_wasm.specs.declared.module.WasmModule.{WasmModule}
use Rattle.fact_machine.specs.declared.types.CoreValue.{CoreValue}
use Rattle.fact_machine.specs.declared.types.Outcome.{Outcome}
use Rattle.fact_machine.specs.Machine.{Config, At, run_of, after, exec, check, takes, call_inside}
use Rattle.fact_machine.specs.Causes.{answers_of}
use Rattle.fact_machine.proofs.Answered.{run_asks}
use Rattle.fact_machine.proofs.Causes.{run_going, run_lacks}
use Rattle.fact_interpreter.proofs.run.Machine.run.Goals as goal

-- a call of a function where a machine stands so
unfoldable called : WasmModule → ℕ → List CoreValue → ℕ → Config → Outcome
called M f args n (At w vs ls code k) = after (exec M n) (check w (takes M f args) (call_inside M f w vs ls code k))

pub returns-in_ok-outcome-in-Ok : goal.returns-in_ok-outcome-in-Ok
unfolding called
returns-in_ok-outcome-in-Ok c =
    let M = c.args.«module».now in
    let n = c.args.steps in
    let is : c.in_ok-outcome-in-Ok.outcome ≡ run_of M c.args.func c.args.args.now c.args.state.now c.args.answers.now n = c.in_ok-outcome-in-Ok.ensures ∙ c.in-Ok.ensures ∙ ap (called M c.args.func c.args.args.now n) c.in_ok-run.ensures in
    record {
      outcome = is;
      going = λ q. run_going M c.args.func c.args.args.now c.args.state.now c.args.answers.now n (sym (ap (λ x. x.end) is) ∙ q);
      lacks = λ q. ap (λ x. answers_of x.log) is ∙ run_lacks M c.args.func c.args.args.now c.args.state.now c.args.answers.now n (sym (ap (λ x. x.end) is) ∙ q);
      asks = λ q. run_asks M c.args.func c.args.args.now c.args.state.now c.args.answers.now n (sym (ap (λ x. x.end) is) ∙ q);
    }
