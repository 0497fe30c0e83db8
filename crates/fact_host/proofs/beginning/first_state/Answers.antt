use Rattle.std.proofs.Common.{◌+◌, ◌∙◌, [], ap, arith, get_or, length, refl, subst, sym}
use Rattle.fact_host.specs.Begun.{AreMade}
use Rattle.fact_host.proofs.FirstLoops.{made_all, made_none}
use Rattle.fact_host.proofs.beginning.first_state.Goals as goal

pub loop-import-init : goal.loop-import-init
loop-import-init c =
    let imports = c.args.«module».now.imports in
    subst (λ ms. AreMade c.args.call.now imports 0 ms c.new-globals.result) (sym c.new-memories.ensures) (subst (λ gs. AreMade c.args.call.now imports 0 [] gs) (sym c.new-globals.ensures) (made_none c.args.call.now imports))

pub loop-import-preserved : goal.loop-import-preserved
loop-import-preserved c =
    let i = c.loop-import.import-index in
    let w = c.import-item.result in
    c.in_ok-add_first.ensures c.args.«module».now.imports i (i + 1) w refl (omega (arith, c.loop-import-test.true, ap length c.as_slice-import-items.ensures)) (c.import-item.is ∙ ap (λ l. get_or l i w) c.as_slice-import-items.ensures) refl
    c.loop-import.invariant

pub returns : goal.returns
returns c =
    made_all c.args.call.now c.args.«module».now.imports c.loop-import.import-index c.loop-import.memories c.loop-import.globals (omega (arith, c.loop-import-test.false, ap length c.as_slice-import-items.ensures)) c.loop-import.invariant
