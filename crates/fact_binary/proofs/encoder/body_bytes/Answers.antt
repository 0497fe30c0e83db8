use Rattle.std.proofs.Common.{[]}
use Rattle.fact_binary.proofs.Written.{three}
use Rattle.fact_binary.proofs.encoder.body_bytes.Goals as goal

pub returns-clause-bytes : goal.returns-clause-bytes
returns-clause-bytes c =
    let locals = rw (c.as_slice.ensures, c.new-content.ensures.items) at c.in_ok-push_list.ensures.bytes in
    let body = rw c.as_slice-2.ensures at c.in_ok-push_body.ensures.bytes in
    three [] _ _ _ _ _ _ locals body c.in_ok-push.ensures.items
