use Rattle.fact_kinds.proofs.ListParts.{bytes_checked}
use Rattle.fact_kinds.proofs.lists.check_bytes.Goals as goal

pub returns : goal.returns
returns c = bytes_checked c.args.l c.in_ok-put_bytes.ensures c.in_ok-check_region.ensures
