use Rattle.fact_wasm.specs.Ranges.{body_points}
use Rattle.std.specs.List.{AllByRecursion}
use Rattle.fact_binary.specs.declared.code.Operands.TheVariants as o
use Rattle.fact_binary.specs.Encode.{IsAligned, points_of}
use Rattle.fact_wasm.proofs.Ranged.{apart, all-first, all-second}
use Rattle.fact_binary.proofs.code.bodies_of.Goals as goal

pub returns-in-Body-clause-placed : goal.returns-in-Body-clause-placed
returns-in-Body-clause-placed c = λ p. apart IsAligned c.in-Body.body.now (rw c.in-Body.is at p)

pub returns-in-Catching-clause-placed : goal.returns-in-Catching-clause-placed
returns-in-Catching-clause-placed c = λ p. apart IsAligned c.in-Catching.body.now (rw c.in-Catching.is at p)

pub returns-in-If-clause-placed : goal.returns-in-If-clause-placed
returns-in-If-clause-placed c = λ p. (apart IsAligned c.in-If.body.now (rw c.in-If.is at p), tt)

pub returns-in-IfElse-clause-placed : goal.returns-in-IfElse-clause-placed
returns-in-IfElse-clause-placed c = λ p.
    let a = body_points c.in-IfElse.body.now in
    let b = body_points c.in-IfElse.other.now in
    let q : AllByRecursion IsAligned (points_of (o.IfElse c.in-IfElse.field-0 c.in-IfElse.body c.in-IfElse.other)) = rw c.in-IfElse.is at p in
    (apart IsAligned c.in-IfElse.body.now (all-first IsAligned a b q.1), apart IsAligned c.in-IfElse.other.now (all-second IsAligned a b q.1))
