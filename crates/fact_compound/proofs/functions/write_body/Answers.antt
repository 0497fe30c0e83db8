use Rattle.fact_compound.proofs.WholeBodies.{wrote_body}
use Rattle.fact_compound.proofs.OptionsImported.{can_same}
use Rattle.fact_compound.proofs.functions.write_body.Goals as goal

pub put_body-requires-clause-can : goal.put_body-requires-clause-can
put_body-requires-clause-can c = can_same c.in_ok-locals.ensures.added.imports c.requires.can

pub returns : goal.returns
returns c =
    wrote_body c.are_passed_on-passed.result (λ e ps rs qs ss h k. (c.are_passed_on-passed.ensures ps rs qs ss h k).0 e) c.requires.no_code c.requires.no_locals c.in_ok-locals.ensures c.in_ok-put_body.ensures
