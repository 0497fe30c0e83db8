use Rattle.std.proofs.Common.{◌≡◌, ℕ, ◌*◌, ◌<◌, ◌^◌, arith, ap, rules}
use Rattle.fact_binary.specs.Numbers.{count}
use Rattle.fact_binary.proofs.Groups.{count-most, count-positive, count-holds}
use Rattle.fact_binary.proofs.number.push_signed.Goals as goal

pub scale-requires : goal.scale-requires
scale-requires c = omega (arith, c.group_count-k.ensures, count-most (2 * c.magnitude_of-n.result))

holds : (n k s : ℕ) → n < 2 ^ 64 → k ≡ count (2 * n) → s ≡ 128 ^ k → 2 * n < s
holds n k s lt e f = let h = count-holds (2 * n) (omega arith) in rw (f, e) h

pub overflow_sub-scale : goal.overflow_sub-scale
overflow_sub-scale c = let h = holds c.magnitude_of-n.result c.group_count-k.result c.scale.result (search rules) c.group_count-k.ensures c.scale.ensures in omega arith

pub overflow_sub-scale-then-z-lt0 : goal.overflow_sub-scale-then-z-lt0
overflow_sub-scale-then-z-lt0 c = let h = holds c.magnitude_of-n.result c.group_count-k.result c.scale.result (search rules) c.group_count-k.ensures c.scale.ensures in omega arith

pub push_groups-requires-clause-low : goal.push_groups-requires-clause-low
push_groups-requires-clause-low c = omega (arith, c.group_count-k.ensures, count-positive (2 * c.magnitude_of-n.result))

pub push_groups-requires-clause-fits : goal.push_groups-requires-clause-fits
push_groups-requires-clause-fits c = let h = holds c.magnitude_of-n.result c.group_count-k.result c.scale.result (search rules) c.group_count-k.ensures c.scale.ensures in omega (arith, c.scale.ensures)

pub push_groups-requires-else-z-lt0-clause-low : goal.push_groups-requires-else-z-lt0-clause-low
push_groups-requires-else-z-lt0-clause-low c = omega (arith, c.group_count-k.ensures, count-positive (2 * c.magnitude_of-n.result))

pub push_groups-requires-else-z-lt0-clause-fits : goal.push_groups-requires-else-z-lt0-clause-fits
push_groups-requires-else-z-lt0-clause-fits c =
    let n = c.magnitude_of-n.result in
    let lt : n < 2 ^ 64 = search rules in
    let h = count-holds (2 * n) (omega arith) in
    let e : 128 ^ c.group_count-k.result ≡ 128 ^ count (2 * n) = ap (λ k. 128 ^ k) c.group_count-k.ensures in
    omega (arith, e)
