use Rattle.std.proofs.Common.{Result, Ok, Err}
use Rattle.std.specs.Prelude.{OnOk}
use Rattle.fact_binary.proofs.Written.{args-two, two}
use Rattle.fact_binary.proofs.code.push_immediates.Goals as goal

module _ {T E : Type 0} where
  from_one : (r : Result T E) (P Q : Type 0) → (P → Q) → OnOk r P → OnOk r Q
  from_one (Ok x) P Q f p = f p
  from_one (Err e) P Q f p = tt

  from_two : (r : Result T E) (P P2 Q : Type 0) → (P → P2 → Q) → OnOk r P → OnOk r P2 → OnOk r Q
  from_two (Ok x) P P2 Q f p q = f p q
  from_two (Err e) P P2 Q f p q = tt

pub returns-in_ok-push_block_type-in-Catching-clause-bytes : goal.returns-in_ok-push_block_type-in-Catching-clause-bytes
returns-in_ok-push_block_type-in-Catching-clause-bytes c =
    rw (c.in-Catching.is, args-two) (from_one c.push_list-in-Catching.result _ _ (λ e. two _ _ _ _ _ c.in_ok-push_block_type-in-Catching.ensures.1 e) c.push_list-in-Catching.ensures.bytes)

pub returns-in_ok-push_block_type-in-Catching-clause-fit : goal.returns-in_ok-push_block_type-in-Catching-clause-fit
returns-in_ok-push_block_type-in-Catching-clause-fit c =
    let listed = c.push_list-in-Catching.ensures in
    rw c.in-Catching.is (from_two c.push_list-in-Catching.result _ _ _ (λ n all p. (c.in_ok-push_block_type-in-Catching.ensures.0, ((n, all), tt))) listed.count listed.fits)
