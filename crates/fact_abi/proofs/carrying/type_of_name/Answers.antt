use Rattle.std.proofs.Common.{◌∙◌, sym, arith}
use Rattle.fact_abi.proofs.WalkLaws.{seeking_starts, seeking_past, seeking_found, seeking_ends, found_typed}
use Rattle.fact_abi.proofs.carrying.type_of_name.Goals as goal

pub loop-place-init : goal.loop-place-init
loop-place-init c = λ t ms n h. seeking_starts t ms c.args.node.now.names c.args.node.now.types c.args.name.now n h

pub returns-in-Some : goal.returns-in-Some
returns-in-Some c = record {
  shaped = λ t ms n h. seeking_found (c.loop-place.invariant t ms n h) c.in-Some.ty (omega (arith, c.loop-place-test.true, c.len-place-end.ensures)) (sym c.type_at_name.ensures ∙ c.in-Some.is);
  there = (c.loop-place.place, found_typed c.args.name.now _ c.args.node.now.types c.loop-place.place c.in-Some.ty (sym c.type_at_name.ensures ∙ c.in-Some.is));
}

pub loop-place-preserved : goal.loop-place-preserved
loop-place-preserved c = λ t ms n h. seeking_past (c.loop-place.invariant t ms n h) (omega (arith, c.loop-place-test.true, c.len-place-end.ensures)) (sym c.type_at_name.ensures ∙ c.in_default.is)

pub returns : goal.returns
returns c = record {
  shaped = λ t ms n h. seeking_ends (c.loop-place.invariant t ms n h) (omega (arith, c.loop-place-test.false, c.len-place-end.ensures));
  there = tt;
}
