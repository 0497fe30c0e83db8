-- Lists of values that are carried through types between: as many handles cross onward as directly, and they become what they become directly.
use Rattle.std.proofs.Common.{◌≡◌, ℕ, zero, suc, ◌+◌, ◌^◌, ◌≤◌, List, [], ◌∷◌, length, length-append, Some, refl, sym, ap, ◌∙◌, subst, arith}
use Rattle.std.specs.Prelude.{option_map}
use Rattle.fact_types.specs.Agrees.{AgreesPlaces}
use Rattle.fact_types.specs.Shapes.{Shape}
use Rattle.fact_types.specs.Tuples.{members_from, tuple_members}
use Rattle.fact_types.proofs.ShapeLaws.{same_some}
use Rattle.fact_values.specs.declared.value.Value.{Value}
use Rattle.fact_values.specs.Carry.{crossed, handles, take_number}
use Rattle.fact_values.specs.Formed.{AreFormed}
use Rattle.fact_values.specs.Handles.{cross_places, done_step, then_step}
use Rattle.fact_values.specs.IsA.{AreMembers}
use Rattle.fact_values.proofs.NumberLaws.{then_some}
use Rattle.fact_action_laws.specs.Faithful.{all_handles}
use Rattle.fact_value_laws.proofs.CompositionLaws.{places_crossed_through, same_count_between}
use Rattle.fact_host.specs.Called.{carried_from, handle_count, numbers_from}
pub use Rattle.fact_call_laws.proofs.CarriedLists.{count_few, fitting_weight, types_carried, types_formed}
use Rattle.fact_call_laws.proofs.CarriedLists.{crossed_left, numbers_small, there_crossed}

-- as many handles cross onward as directly
counts : (n : ℕ) (ss ms ds : List Shape) (vs us : List Value) (ns left : List ℕ) → AreFormed (members_from n ss) → AreFormed (members_from n ms) → AreFormed (members_from n ds)
    → AgreesPlaces (members_from n ss) (members_from n ms) → AgreesPlaces (members_from n ms) (members_from n ds) → AreMembers (members_from n ss) vs → AreMembers (members_from n ms) us
    → cross_places take_number (members_from n ss) vs (members_from n ms) ns ≡ Some (us, left) → length (all_handles ms ds us) ≡ length (all_handles ss ds vs)
unfolding cross_places AreMembers
counts n [] [] ds vs us ns left fs fm fd to on are are_us e = refl
counts n [] (m ∷ ms) ds vs us ns left fs fm fd to on are are_us e = absurd to
counts n (s ∷ ss) [] ds vs us ns left fs fm fd to on are are_us e = absurd to
counts n (s ∷ ss) (m ∷ ms) [] vs us ns left fs fm fd to on are are_us e = absurd on
counts n (s ∷ ss) (m ∷ ms) (d ∷ ds) [] us ns left fs fm fd to on are are_us e = absurd are
counts n (s ∷ ss) (m ∷ ms) (d ∷ ds) (v ∷ vs) [] ns left fs fm fd to on are are_us e = absurd are_us
counts n (s ∷ ss) (m ∷ ms) (d ∷ ds) (v ∷ vs) (u ∷ us) ns left fs fm fd to on are are_us e =
    let (r, here, rest) = then_some (crossed s m v ns) (λ r. then_step (cross_places take_number (members_from (suc n) ss) vs (members_from (suc n) ms)) (λ ws. done_step (r.0 ∷ ws)) r.1) (u ∷ us, left) e in
    let (q, there, is) = then_some (cross_places take_number (members_from (suc n) ss) vs (members_from (suc n) ms) r.1) (λ q. done_step (r.0 ∷ q.0) q.1) (u ∷ us, left) rest in
    let both : r.0 ∷ q.0 ≡ u ∷ us = ap (λ (z : List Value × List ℕ). z.0) (same_some (Some (r.0 ∷ q.0, q.1)) (r.0 ∷ q.0, q.1) (u ∷ us, left) refl is) in
    let head : r.0 ≡ u = cc in
    let tail : q.0 ≡ us = cc in
    let one = same_count_between s m d v u ns r.1 fs.0 fm.0 fd.0 are.0 are_us.0 to.0 on.0 (subst (λ z. crossed s m v ns ≡ Some (z, r.1)) head here) in
    let more =
    counts (suc n) ss ms ds vs us r.1 q.1 fs.1 fm.1 fd.1 to.1 on.1 are.1 are_us.1 (subst (λ z. cross_places take_number (members_from (suc n) ss) vs (members_from (suc n) ms) r.1 ≡ Some (z, q.1)) tail there) in
    omega (arith, one, more, length-append (handles m d u) (all_handles ms ds us), length-append (handles s d v) (all_handles ss ds vs))

-- ---- through types between

module _ (ss ms ds : List Shape) (vs us ws : List Value) (k n : ℕ) (fs : AreFormed (tuple_members ss)) (fm : AreFormed (tuple_members ms)) (fd : AreFormed (tuple_members ds)) (to : AgreesPlaces (tuple_members ss) (tuple_members ms))
    (on : AgreesPlaces (tuple_members ms) (tuple_members ds)) (are : AreMembers (tuple_members ss) vs) (are_us : AreMembers (tuple_members ms) us) where
  pub carried_through : carried_from k ss ms vs ≡ Some us → carried_from n ms ds us ≡ Some ws → carried_from n ss ds vs ≡ Some ws
  carried_through first onward =
      let l = crossed_left (cross_places take_number (tuple_members ss) vs (tuple_members ms) (numbers_from k (handle_count ss ms vs))) us first in
      let same : handle_count ms ds us ≡ handle_count ss ds vs = counts 0 ss ms ds vs us (numbers_from k (handle_count ss ms vs)) l.0 fs fm fd to on are are_us l.1 in
      let through = places_crossed_through (tuple_members ss) (tuple_members ms) (tuple_members ds) vs us (numbers_from k (handle_count ss ms vs)) l.0 (numbers_from n (handle_count ms ds us)) fm fd on l.1 in
      sym (ap (λ count. option_map (λ r. r.0) (cross_places take_number (tuple_members ss) vs (tuple_members ds) (numbers_from n count))) same) ∙ sym (ap (option_map (λ r. r.0)) through) ∙ onward

-- so many numbers
numbers_count : (n count : ℕ) → length (numbers_from n count) ≡ count
numbers_count n zero = refl
numbers_count n (suc count) = ap suc (numbers_count (suc n) count)

-- lists of few handles are carried
pub lists_carried : (ss ds : List Shape) (vs : List Value) (n : ℕ) → AreFormed (tuple_members ss) → AreFormed (tuple_members ds) → AgreesPlaces (tuple_members ss) (tuple_members ds) → AreMembers (tuple_members ss) vs
    → n + handle_count ss ds vs ≤ 2 ^ 32 → (us : List Value) × (carried_from n ss ds vs ≡ Some us)
lists_carried ss ds vs n fs fd agree are few =
    let l = there_crossed 0 ss ds vs (numbers_from n (handle_count ss ds vs)) fs fd agree are (numbers_small n (handle_count ss ds vs) few) (omega (arith, numbers_count n (handle_count ss ds vs))) in
    (l.outs, ap (option_map (λ r. r.0)) l.is)
