use Rattle.std.proofs.Common.{List, Option, ap, ◌∙◌}
use Rattle.fact_wasm.specs.declared.instr.Instr.{Instr}
use Rattle.fact_wasm.specs.declared.instr.Instr.TheVariants.{If}
use Rattle.fact_check.specs.Constants.{constants}
use Rattle.fact_check.proofs.Layers.{constants-block, constants-loop, constants-try_table, constants-if, constants-else, one_body, two_bodies}
use Rattle.fact_check.proofs.constants.+constants.Goals as goal

pub read_constant-returns-in-Block : goal.read_constant-returns-in-Block
read_constant-returns-in-Block t c = one_body c.args.instr.now c.in-Block.body _ (ap constants c.in-Block.is ∙ constants-block c.in-Block.field-0 c.in-Block.body) c.as_slice.ensures c.read_body.ensures

pub read_constant-returns-in-Loop : goal.read_constant-returns-in-Loop
read_constant-returns-in-Loop t c =
    one_body c.args.instr.now c.in-Loop.body _ (ap constants c.in-Loop.is ∙ constants-loop c.in-Loop.field-0 c.in-Loop.body) c.as_slice-in-Loop.ensures c.read_body-in-Loop.ensures

pub read_constant-returns-in-TryTable : goal.read_constant-returns-in-TryTable
read_constant-returns-in-TryTable t c =
    one_body c.args.instr.now c.in-TryTable.body _ (ap constants c.in-TryTable.is ∙ constants-try_table c.in-TryTable.field-0 c.in-TryTable.field-1 c.in-TryTable.body) c.as_slice-in-TryTable.ensures c.read_body-in-TryTable.ensures

pub read_constant-returns-in-None : goal.read_constant-returns-in-None
read_constant-returns-in-None t c =
    let a = c.in-If in
    let e = ap constants a.is ∙ ap (λ (o : Option (List Instr)). constants (If a.field-0 a.body o)) c.in-None.is ∙ constants-if a.field-0 a.body in
    one_body c.args.instr.now a.body _ e c.as_slice-in-None.ensures c.read_body-in-None.ensures

pub read_constant-returns-in-Some : goal.read_constant-returns-in-Some
read_constant-returns-in-Some t c =
    let a = c.in-If in
    let e = ap constants a.is ∙ ap (λ (o : Option (List Instr)). constants (If a.field-0 a.body o)) c.in-Some.is ∙ constants-else a.field-0 a.body c.in-Some.other in
    two_bodies c.args.instr.now a.body c.in-Some.other _ _ e c.as_slice-in-Some.ensures c.as_slice-in-Some-2.ensures c.read_body-in-Some.ensures c.read_body-in-Some-2.ensures
