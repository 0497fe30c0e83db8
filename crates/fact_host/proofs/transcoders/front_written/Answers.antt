use Rattle.std.proofs.Common.{◌≡◌, [], ◌∷◌, arith, length}
use Rattle.fact_host.proofs.transcoders.front_written.Goals as goal

pub returns-clause-numbers : goal.returns-clause-numbers
returns-clause-numbers c =
    let written : c.len-written.result ≡ length c.in_ok-bytes.bytes.items = omega (arith, c.len-written.ensures) in
    λ i. c.in_ok-read.ensures i ∷ written i ∷ []
