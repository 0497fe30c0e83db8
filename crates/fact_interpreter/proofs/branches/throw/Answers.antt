use Rattle.std.proofs.Common.{◌≡◌, [], ◌∷◌, length-append, ap, length, arith}
use Rattle.fact_interpreter.specs.declared.running.Running.{Running}
use Rattle.fact_interpreter.proofs.branches.throw.Goals as goal
use Rattle.fact_interpreter.proofs.branches.throw.Goals.{in-Frame, in-Label+in_default-catches}

-- what stands around the code gets less
pub loop-entry-smaller : goal.loop-entry-smaller
loop-entry-smaller c =
    let left : c.match-entry.run.around ≡ c.pop.new.self =
    elim c.match-entry.branch [
      | in-Frame w ↦ ap (λ (r : Running). r.around) w.run-is
      | in-Label+in_default-catches w ↦ ap (λ (r : Running). r.around) w.run-is
    ] in
    omega (arith, ap length left, ap length c.in-Some.ensures, length-append c.pop.new.self (c.in-Some.entry ∷ []))
