use Rattle.std.proofs.Common.{◌≡◌, ℕ, ◌+◌, ◌-◌, ◌/◌, ◌%◌, ◌≤◌, ◌++◌, List, [], ◌∷◌, arith, ap, ◌∙◌, append_assoc}
use Rattle.fact_binary.specs.Numbers.{groups}
use Rattle.fact_binary.proofs.Groups.{groups-more, groups-one, part-below}
use Rattle.fact_binary.proofs.number.push_groups.Goals as goal

pushed : (out old new : List ℕ) (b : ℕ) (more all : List ℕ) (rest : List ℕ) → new ≡ out ++ b ∷ [] → rest ≡ b ∷ more → out ++ rest ≡ old ++ all → new ++ more ≡ old ++ all
pushed out old new b more all rest e f so_far = rw (e, append_assoc) (rw f at so_far)

pub loop-left-preserved : goal.loop-left-preserved
loop-left-preserved c =
    let l = c.loop-left in
    let many : 2 ≤ l.left = omega arith in
    record {
      low = omega arith;
      fits = part-below l.left l.rest many l.invariant.fits;
      bytes = pushed l.out.items c.args.out.now.items c.push.new.self.items (l.rest % 128 + 128) (groups (l.left - 1) (l.rest / 128)) (groups c.args.k c.args.n) (groups l.left l.rest) c.in_ok-push.ensures.items (groups-more l.left l.rest many) l.invariant.bytes;
    }

pub returns : goal.returns
returns c =
    let l = c.loop-left in
    let one : l.left ≡ 1 = omega arith in
    let all : groups l.left l.rest ≡ l.rest ∷ [] = ap (λ k. groups k l.rest) one ∙ groups-one l.rest in
    c.in_ok-push-2.ensures.items ∙ rw all at l.invariant.bytes
