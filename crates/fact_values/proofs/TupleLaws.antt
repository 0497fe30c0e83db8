-- The values of a tuple are values of its types.
use Rattle.std.proofs.Common.{◌≡◌, ℕ, suc, Bool, true, false, List, [], ◌∷◌, length, take, drop, Option, Some, None, refl, subst}
use Rattle.fact_machine.specs.declared.types.CoreValue.{CoreValue}
use Rattle.fact_types.specs.declared.flats.FlatType.{FlatType}
use Rattle.fact_types.specs.FlatShapes.{flat, flat_all, pointer}
use Rattle.fact_types.specs.Shapes.{Shape}
use Rattle.fact_types.specs.Options.{◌>>=◌}
use Rattle.fact_types.specs.Valid.{AreRuled}
use Rattle.fact_types.proofs.ShapeLaws.{same_some, none_some}
use Rattle.fact_values.specs.Bytes.{AreBytes, AreCores}
use Rattle.fact_values.specs.declared.side.SideAbi.{SideAbi}
use Rattle.fact_values.specs.declared.value.Value.{Value}
use Rattle.fact_values.specs.IsA.{IsA, AreMembers}
use Rattle.fact_values.specs.Lift.{can_stand, number_as, lift}
use Rattle.fact_values.specs.Load.{load_members}
use Rattle.fact_values.specs.Places.{width_of, extent_on}
use Rattle.fact_values.specs.Texts.{lies_aligned}
use Rattle.fact_values.specs.Tuples.{lift_all, load_tuple, behind, behind_only, behind_last, where_flat, flat_or_behind, lower_result_values}
use Rattle.fact_types.specs.Tuples.{members_from, tuple_of}
use Rattle.fact_values.proofs.IsALaws.{load_members_are}
use Rattle.fact_values.proofs.LiftLaws.{cores_take, cores_drop, lift_is_a}
use Rattle.fact_values.proofs.NumberLaws.{then_some, when_some}

lifted_are : (side : SideAbi) (bytes : List ℕ) → AreBytes bytes → (n : ℕ) (ss : List Shape) → AreRuled (members_from n ss) → (cs : List CoreValue) (vs : List Value) → AreCores cs → lift_all side bytes ss cs ≡ Some vs → AreMembers (members_from n ss) vs
unfolding IsA
lifted_are side bytes h n [] r [] vs k e = subst (AreMembers (members_from n [])) (same_some _ [] vs refl e) tt
lifted_are side bytes h n [] r (c ∷ cs) vs k e = absurd (none_some None vs refl e)
lifted_are side bytes h n (s ∷ ss) r cs vs k e =
    let m = length (flat (width_of side) s) in
    let (v, here, rest) = then_some (lift side bytes s (take m cs)) (λ v. lift_all side bytes ss (drop m cs) >>= (λ vs. Some (v ∷ vs))) vs e in
    let (ws, there, is) = then_some (lift_all side bytes ss (drop m cs)) (λ vs. Some (v ∷ vs)) vs rest in
    subst (AreMembers (members_from n (s ∷ ss))) (same_some _ (v ∷ ws) vs refl is)
    (lift_is_a side bytes h s r.0 (take m cs) v (cores_take m cs k) here, lifted_are side bytes h (suc n) ss r.1 (drop m cs) ws (cores_drop m cs k) there)

behind_are : (side : SideAbi) (bytes : List ℕ) → AreBytes bytes → (ss : List Shape) → AreRuled (members_from 0 ss) → (c : CoreValue) (vs : List Value) → behind side bytes ss c ≡ Some vs → AreMembers (members_from 0 ss) vs
behind_are side bytes h ss r c vs e =
    let p = number_as (pointer (width_of side)) c in
    let (stands, there) = when_some (can_stand (pointer (width_of side)) c) (load_tuple side bytes ss p) vs e in
    let (inside, is) = when_some (lies_aligned bytes (extent_on side (tuple_of ss)).align p (extent_on side (tuple_of ss)).size) (load_members side bytes (members_from 0 ss) p 0) vs there in
    load_members_are side bytes h (members_from 0 ss) r p 0 vs is

only_are : (side : SideAbi) (bytes : List ℕ) → AreBytes bytes → (ss : List Shape) → AreRuled (members_from 0 ss) → (cs : List CoreValue) (vs : List Value) → behind_only side bytes ss cs ≡ Some vs → AreMembers (members_from 0 ss) vs
only_are side bytes h ss r [] vs e = absurd (none_some None vs refl e)
only_are side bytes h ss r (c ∷ []) vs e = behind_are side bytes h ss r c vs e
only_are side bytes h ss r (c ∷ d ∷ cs) vs e = absurd (none_some None vs refl e)

pub tuples_are : (side : SideAbi) (bytes : List ℕ) → AreBytes bytes → (limit : ℕ) (ss : List Shape) → AreRuled (members_from 0 ss) → (cs : List CoreValue) (vs : List Value) → AreCores cs → flat_or_behind side bytes limit ss cs ≡ Some vs → AreMembers (members_from 0 ss) vs
tuples_are side bytes h limit ss r cs vs k e = go (flat_all (width_of side) limit ss) e
  where
    go : (o : Option (List FlatType)) → where_flat o (lift_all side bytes ss cs) (behind_only side bytes ss cs) ≡ Some vs → AreMembers (members_from 0 ss) vs
    go None e = only_are side bytes h ss r cs vs e
    go (Some fs) e = lifted_are side bytes h 0 ss r cs vs k e

last_are : (side : SideAbi) (bytes : List ℕ) → AreBytes bytes → (ss : List Shape) → AreRuled (members_from 0 ss) → (cs : List CoreValue) (vs : List Value) → behind_last side bytes ss cs ≡ Some vs → AreMembers (members_from 0 ss) vs
last_are side bytes h ss r [] vs e = absurd (none_some None vs refl e)
last_are side bytes h ss r (c ∷ []) vs e = behind_are side bytes h ss r c vs e
last_are side bytes h ss r (c ∷ d ∷ cs) vs e = last_are side bytes h ss r (d ∷ cs) vs e

pub results_are : (async : Bool) (side : SideAbi) (bytes : List ℕ) → AreBytes bytes → (rs : List Shape) → AreRuled (members_from 0 rs) → (args results : List CoreValue) (vs : List Value) → AreCores args → AreCores results → lower_result_values async side bytes rs args results ≡ Some vs → AreMembers (members_from 0 rs) vs
results_are false side bytes h rs r args results vs j k e = go (flat_all (width_of side) 1 rs) e
  where
    go : (o : Option (List FlatType)) → where_flat o (lift_all side bytes rs results) (behind_last side bytes rs args) ≡ Some vs → AreMembers (members_from 0 rs) vs
    go None e = last_are side bytes h rs r args vs e
    go (Some fs) e = lifted_are side bytes h 0 rs r results vs k e
results_are true side bytes h [] r args results vs j k e = lifted_are side bytes h 0 [] r [] vs tt e
results_are true side bytes h (s ∷ ss) r args results vs j k e = last_are side bytes h (s ∷ ss) r args vs e
