use Rattle.std.proofs.Common.{arith, List, Option, sym, ap, ◌∙◌}
use Rattle.std.proofs.lemmas.Bool.{false≢true}
use Rattle.fact_wasm.specs.declared.instr.Instr.{Instr}
use Rattle.fact_wasm.specs.declared.instr.Instr.TheVariants.{If}
use Rattle.fact_wasm.specs.Ranges.{points}
use Rattle.fact_wasm.proofs.Ranged.{points-block, points-loop, points-try_table, points-if, points-else, one_body, first_ranged, first_not_ranged}
use Rattle.fact_wasm.proofs.range.+ranged.Goals as goal

pub is_ranged-returns-in-Block : goal.is_ranged-returns-in-Block
is_ranged-returns-in-Block t c =
    one_body c.args.imports c.args.funcs (points c.args.instr.now) c.in-Block.body c.are_ranged.result (ap points c.in-Block.is ∙ points-block c.in-Block.field-0 c.in-Block.body) (rw c.as_slice.ensures at c.are_ranged.ensures)

pub is_ranged-returns-in-Loop : goal.is_ranged-returns-in-Loop
is_ranged-returns-in-Loop t c =
    one_body c.args.imports c.args.funcs (points c.args.instr.now) c.in-Loop.body c.are_ranged-in-Loop.result (ap points c.in-Loop.is ∙ points-loop c.in-Loop.field-0 c.in-Loop.body) (rw c.as_slice-in-Loop.ensures at c.are_ranged-in-Loop.ensures)

pub is_ranged-returns-in-TryTable : goal.is_ranged-returns-in-TryTable
is_ranged-returns-in-TryTable t c =
    one_body c.args.imports c.args.funcs (points c.args.instr.now) c.in-TryTable.body c.are_ranged-in-TryTable.result (ap points c.in-TryTable.is ∙ points-try_table c.in-TryTable.field-0 c.in-TryTable.field-1 c.in-TryTable.body) (rw c.as_slice-in-TryTable.ensures at c.are_ranged-in-TryTable.ensures)

pub is_ranged-returns-in-None : goal.is_ranged-returns-in-None
is_ranged-returns-in-None t c =
    let a = c.in-If in
    let e = ap points a.is ∙ ap (λ (o : Option (List Instr)). points (If a.field-0 a.body o)) c.in-None.is ∙ points-if a.field-0 a.body in
    one_body c.args.imports c.args.funcs (points c.args.instr.now) a.body c.are_ranged-in-None.result e (rw c.as_slice-in-None.ensures at c.are_ranged-in-None.ensures)

pub is_ranged-returns-then-not-are_ranged : goal.is_ranged-returns-then-not-are_ranged
is_ranged-returns-then-not-are_ranged t c =
    let a = c.in-If in
    let e = ap points a.is ∙ ap (λ (o : Option (List Instr)). points (If a.field-0 a.body o)) c.in-Some.is ∙ points-else a.field-0 a.body c.in-Some.other in
    (λ u. absurd (false≢true u), λ all. absurd (first_not_ranged c.args.imports c.args.funcs (points c.args.instr.now) a.body c.in-Some.other c.are_ranged-in-Some.result e (rw c.as_slice-in-Some.ensures at c.are_ranged-in-Some.ensures) (λ u. false≢true (sym c.if-not-are_ranged.true ∙ u)) all))

pub is_ranged-returns-else-not-are_ranged : goal.is_ranged-returns-else-not-are_ranged
is_ranged-returns-else-not-are_ranged t c =
    let a = c.in-If in
    let e = ap points a.is ∙ ap (λ (o : Option (List Instr)). points (If a.field-0 a.body o)) c.in-Some.is ∙ points-else a.field-0 a.body c.in-Some.other in
    first_ranged c.args.imports c.args.funcs (points c.args.instr.now) a.body c.in-Some.other c.are_ranged-in-Some.result c.are_ranged-in-Some-2.result e (omega (arith, c.len.ensures, c.if-len-eq0.false))
    (rw c.as_slice-in-Some.ensures at c.are_ranged-in-Some.ensures) c.if-not-are_ranged.false (rw c.as_slice-in-Some-2.ensures at c.are_ranged-in-Some-2.ensures)
