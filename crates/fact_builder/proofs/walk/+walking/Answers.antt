use Rattle.std.proofs.Common.{◌≡◌, ◌++◌, sym, subst}
use Rattle.fact_builder.specs.Walk.{resources_of}
use Rattle.fact_builder.proofs.WalkLaws.{all_seen}
use Rattle.fact_builder.proofs.walk.+walking.Goals as goal

pub find_resources-returns-after-loop-name-clause-found : goal.find_resources-returns-after-loop-name-clause-found
find_resources-returns-after-loop-name-clause-found t c =
    subst (λ ty. c.loop-name.found ≡ c.args.found.now ++ resources_of c.args.types.now c.args.path.now ty) (sym c.in-Instance.is)
    (all_seen c.args.types.now c.reveal.ensures c.args.path.now c.args.found.now c.in-Instance.id c.in-Some.instance.now (sym c.in-Some.ensures.value)
    _ c.as_slice-name-items.ensures c.loop-name.name-index c.loop-name-test.false c.loop-name.path c.loop-name.found c.loop-name.invariant)
