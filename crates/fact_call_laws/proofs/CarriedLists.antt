-- Lists of values that are carried: as many numbers as there are handles are few, and what they become is of the types.
use Rattle.std.proofs.Common.{◌≡◌, ℕ, zero, suc, ◌+◌, ◌^◌, ◌<◌, ◌≤◌, ◌⊎◌, inl, inr, true, List, [], ◌∷◌, length, length-append, drop, Option, Some, refl, ap, ◌∙◌, subst, arith}
use Rattle.std.specs.Cmp.{second_so}
use Rattle.std.specs.Prelude.{option_map}
use Rattle.std.proofs.lemmas.Bool.{cases_lt, leb-true}
use Rattle.fact_types.specs.declared.interface.InterfaceType.{InterfaceType}
use Rattle.fact_types.specs.Agrees.{Agrees, AgreesPlaces}
use Rattle.fact_types.specs.Functions.{HaveShapes}
use Rattle.fact_types.specs.Shapes.{Shape}
use Rattle.fact_types.specs.Options.{◌>>=◌}
use Rattle.fact_types.specs.Tables.{Tables}
use Rattle.fact_types.specs.Tuples.{members_from, tuple_members}
use Rattle.fact_types.proofs.ShapeLaws.{none_some, same_some}
use Rattle.fact_values.specs.declared.side.SideAbi.{SideAbi}
use Rattle.fact_values.specs.declared.value.Value.{Value}
use Rattle.fact_values.specs.Carry.{crossed, handles, take_number}
use Rattle.fact_values.specs.Formed.{AreFormed, IsFormed}
use Rattle.fact_values.specs.Handles.{cross_places, done_step, then_step}
use Rattle.fact_values.specs.IsA.{AreMembers, IsA}
use Rattle.fact_values.specs.Weight.{weight_members}
use Rattle.fact_values.proofs.CarriedLaws.{carried, not_carried}
use Rattle.fact_values.proofs.FormedLaws.{formed}
use Rattle.fact_values.proofs.NumberLaws.{map_some, then_some}
use Rattle.fact_values.proofs.StepLaws.{AreNumbers, numbers_drop}
use Rattle.fact_action_laws.specs.Faithful.{all_handles}
use Rattle.fact_action_laws.specs.FaithfulLaws.{AreWellFormedTypes}
use Rattle.fact_action_laws.specs.Items.{HandleItem, RegionItem, TextItem, ValueItem, items_places}
use Rattle.fact_action_laws.proofs.Counted.{places_bound}
use Rattle.fact_action_laws.proofs.Crossed.{handles_in}
use Rattle.fact_action_laws.proofs.Grounding.{members_ruled}
use Rattle.fact_action_laws.proofs.Membered.{handles_placed, members_formed}
use Rattle.fact_value_laws.proofs.CompositionLaws.{length_dropped, length_zeros, zeros, zeros_small}
use Rattle.fact_lowering.specs.Room.{fits}
use Rattle.fact_host.specs.Called.{carried_from, handle_count, numbers_from}

-- ---- types and numbers

-- the types that a call names have formed shapes
pub types_formed : (t : Tables) (tys : List InterfaceType) (ss : List Shape) (n : ℕ) → HaveShapes t tys ss → AreFormed (members_from n ss)
types_formed t [] [] n h = tt
types_formed t [] (s ∷ ss) n h = absurd h
types_formed t (x ∷ xs) [] n h = absurd h
types_formed t (x ∷ xs) (s ∷ ss) n h = (formed t x s h.0, types_formed t xs ss (suc n) h.1)

-- few numbers are of 32 bits
pub numbers_small : (n count : ℕ) → n + count ≤ 2 ^ 32 → AreNumbers (numbers_from n count)
numbers_small n zero le = tt
numbers_small n (suc count) le = (omega (arith, le), numbers_small (suc n) count (omega (arith, le)))

-- values that fit weigh little
pub fitting_weight : (ts us : List Shape) (vs : List Value) → fits ts us vs ≡ true → weight_members (tuple_members ts) vs ≤ 1000000
fitting_weight ts us vs e = leb-true (weight_members (tuple_members ts) vs) 1000000 (second_so _ _ (second_so _ _ e))

-- what was carried was so with numbers left
pub crossed_left : (o : Option (List Value × List ℕ)) (us : List Value) → option_map (λ r. r.0) o ≡ Some us → (left : List ℕ) × (o ≡ Some (us, left))
crossed_left o us e = let (r, there, at) = map_some (λ r. r.0) o us e in (r.1, subst (λ z. o ≡ Some (z, r.1)) at there)

-- ---- how many handles there are

handles_few : (is : List ValueItem) → length (handles_in is) ≤ length is
handles_few [] = omega arith
handles_few (HandleItem x ∷ is) = omega (arith, handles_few is)
handles_few (RegionItem a n ∷ is) = omega (arith, handles_few is)
handles_few (TextItem cs ∷ is) = omega (arith, handles_few is)

-- with enough numbers a tuple is carried
pub record Crossed (n : ℕ) (ss ds : List Shape) (vs : List Value) (ns : List ℕ) : Type 0 where
  pub outs : List Value
  pub left : List ℕ
  pub is : cross_places take_number (members_from n ss) vs (members_from n ds) ns ≡ Some (outs, left)

pub there_crossed : (n : ℕ) (ss ds : List Shape) (vs : List Value) (ns : List ℕ) → AreFormed (members_from n ss) → AreFormed (members_from n ds) → AgreesPlaces (members_from n ss) (members_from n ds) → AreMembers (members_from n ss) vs → AreNumbers ns
    → length (all_handles ss ds vs) ≤ length ns → Crossed n ss ds vs ns
unfolding cross_places AreMembers
there_crossed n [] [] vs ns fs fd agree are small le = record { outs = []; left = ns; is = refl }
there_crossed n [] (d ∷ ds) vs ns fs fd agree are small le = absurd agree
there_crossed n (s ∷ ss) [] vs ns fs fd agree are small le = absurd agree
there_crossed n (s ∷ ss) (d ∷ ds) [] ns fs fd agree are small le = absurd are
there_crossed n (s ∷ ss) (d ∷ ds) (v ∷ vs) ns fs fd agree are small le =
    let both = length-append (handles s d v) (all_handles ss ds vs) in
    let a = carried s d v ns fs.0 fd.0 are.0 agree.0 (omega (arith, le, both)) small in
    let r = there_crossed (suc n) ss ds vs (drop (length (handles s d v)) ns) fs.1 fd.1 agree.1 are.1 (numbers_drop (length (handles s d v)) ns small) (omega (arith, le, both, length_dropped (length (handles s d v)) ns)) in
    record {
      outs = a.value ∷ r.outs;
      left = r.left;
      is =
          ap (λ o. o >>= (λ x. then_step (cross_places take_number (members_from (suc n) ss) vs (members_from (suc n) ds)) (λ ws. done_step (x.0 ∷ ws)) x.1)) a.crossed
          ∙ ap (λ o. o >>= (λ x. done_step (a.value ∷ x.0) x.1)) r.is;
    }

-- there are no more than the values weigh, on whatever side
pub count_few : (side : SideAbi) (ss ds : List Shape) (vs : List Value) → AreFormed (tuple_members ss) → AreFormed (tuple_members ds) → AreWellFormedTypes ss → AreWellFormedTypes ds → AgreesPlaces (tuple_members ss) (tuple_members ds)
    → AreMembers (tuple_members ss) vs → handle_count ss ds vs ≤ weight_members (tuple_members ss) vs
count_few side ss ds vs fs fd ks kd agree are =
    let ns = zeros (handle_count ss ds vs) in
    let l = there_crossed 0 ss ds vs ns fs fd agree are (zeros_small (handle_count ss ds vs)) (omega (arith, length_zeros (handle_count ss ds vs))) in
    let placed = handles_placed side 0 ss ds vs ns (l.outs, l.left) l.is in
    let few = handles_few (items_places side (tuple_members ss) vs (tuple_members ds)) in
    let bound = places_bound side (tuple_members ds) (tuple_members ss) vs agree (members_ruled 0 ss ks.valid) (members_ruled 0 ds kd.valid) (members_formed 0 ss ks.formed) (members_formed 0 ds kd.formed) are in
    omega (arith, ap length placed, few, bound)

-- ---- what is carried

-- a value that was carried is of its type, and the numbers that are left are of 32 bits
value_carried : (s d : Shape) (v : Value) (r : Value × List ℕ) (ns : List ℕ) → IsFormed s → IsFormed d → IsA s v → Agrees s d → AreNumbers ns → crossed s d v ns ≡ Some r → IsA d r.0 × AreNumbers r.1
value_carried s d v r ns fs fd is agree small e = go (cases_lt (length ns) (length (handles s d v)))
  where
    go : (length ns < length (handles s d v)) ⊎ (length (handles s d v) ≤ length ns) → IsA d r.0 × AreNumbers r.1
    go (inl few) = absurd (none_some (crossed s d v ns) r (not_carried s d v ns fs fd is agree few) e)
    go (inr enough) =
        let a = carried s d v ns fs fd is agree enough small in
        let same = same_some (crossed s d v ns) (a.value, drop (length (handles s d v)) ns) r a.crossed e in
        (subst (λ (z : Value × List ℕ). IsA d z.0) same a.is_a, subst (λ (z : Value × List ℕ). AreNumbers z.1) same (numbers_drop (length (handles s d v)) ns small))

-- and so are those of a tuple
pub members_carried : (n : ℕ) (ss ds : List Shape) (vs us : List Value) (ns left : List ℕ) → AreFormed (members_from n ss) → AreFormed (members_from n ds) → AgreesPlaces (members_from n ss) (members_from n ds) → AreMembers (members_from n ss) vs → AreNumbers ns
    → cross_places take_number (members_from n ss) vs (members_from n ds) ns ≡ Some (us, left) → AreMembers (members_from n ds) us
unfolding cross_places AreMembers
members_carried n [] [] vs us ns left fs fd agree are small e =
    let same = ap (λ (z : List Value × List ℕ). z.0) (same_some (Some ([], ns)) ([], ns) (us, left) refl e) in
    subst (AreMembers (members_from n [])) same tt
members_carried n [] (d ∷ ds) vs us ns left fs fd agree are small e = absurd agree
members_carried n (s ∷ ss) [] vs us ns left fs fd agree are small e = absurd agree
members_carried n (s ∷ ss) (d ∷ ds) [] us ns left fs fd agree are small e = absurd are
members_carried n (s ∷ ss) (d ∷ ds) (v ∷ vs) us ns left fs fd agree are small e =
    let (r, here, rest) = then_some (crossed s d v ns) (λ r. then_step (cross_places take_number (members_from (suc n) ss) vs (members_from (suc n) ds)) (λ ws. done_step (r.0 ∷ ws)) r.1) (us, left) e in
    let (q, there, is) = then_some (cross_places take_number (members_from (suc n) ss) vs (members_from (suc n) ds) r.1) (λ q. done_step (r.0 ∷ q.0) q.1) (us, left) rest in
    let same = ap (λ (z : List Value × List ℕ). z.0) (same_some (Some (r.0 ∷ q.0, q.1)) (r.0 ∷ q.0, q.1) (us, left) refl is) in
    let one = value_carried s d v r ns fs.0 fd.0 are.0 agree.0 small here in
    let more = members_carried (suc n) ss ds vs q.0 r.1 q.1 fs.1 fd.1 agree.1 are.1 one.1 there in
    subst (AreMembers (members_from n (d ∷ ds))) same (one.0, more)

-- lists that were carried with few numbers are of their types
pub types_carried : (ss ds : List Shape) (vs us : List Value) (n : ℕ) → AreFormed (tuple_members ss) → AreFormed (tuple_members ds) → AgreesPlaces (tuple_members ss) (tuple_members ds) → AreMembers (tuple_members ss) vs
    → n + handle_count ss ds vs ≤ 2 ^ 32 → carried_from n ss ds vs ≡ Some us → AreMembers (tuple_members ds) us
types_carried ss ds vs us n fs fd agree are few e =
    let l = crossed_left (cross_places take_number (tuple_members ss) vs (tuple_members ds) (numbers_from n (handle_count ss ds vs))) us e in
    members_carried 0 ss ds vs us (numbers_from n (handle_count ss ds vs)) l.0 fs fd agree are (numbers_small n (handle_count ss ds vs) few) l.1
