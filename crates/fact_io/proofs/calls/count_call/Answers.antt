use Rattle.std.proofs.Common.{◌+◌, arith}
use Rattle.std.proofs.lemmas.Bool.{false≢true}
use Rattle.std.proofs.lemmas.Grind.{get_or_default_zero}
use Rattle.fact_io.proofs.calls.count_call.Goals as goal

-- a number past the last one of 64 bits is no item
pub returns-in-None-clause-listed : goal.returns-in-None-clause-listed
returns-in-None-clause-listed c = (
  λ e. absurd (false≢true e),
  λ found.
      let item = c.type_inv.failing found.0 in
      let same = get_or_default_zero c.args.failing.now found.0 (c.args.calls.now + 1) found.1 in
      absurd (c.in-None.ensures (omega (arith, item.fits, same, found.2))),
)
