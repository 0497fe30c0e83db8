-- What fact_values lifts from the core values of a side is what comes in by them.
use Rattle.std.proofs.Common.{◌≡◌, ℕ, zero, suc, ◌+◌, ◌%◌, ◌≤◌, Bool, true, false, List, [], ◌∷◌, length, take, drop, Some, None, refl, sym, ap, ◌∙◌, subst, arith, length-append, length-take, length-drop}
use Rattle.std.specs.Prelude.{nat_le, if◌then◌else◌, ◌==◌}
use Rattle.std.proofs.lemmas.Bool.{false≢true, eqb-true, leb-true}
use Rattle.fact_types.specs.declared.flats.FlatType.{FlatType}
use Rattle.fact_types.specs.FlatShapes.{flat, flat_members}
use Rattle.fact_types.specs.Shapes.{Shape, Members, typed}
use Rattle.fact_types.specs.Signatures.{width}
use Rattle.fact_types.proofs.ShapeLaws.{none_some}
use Rattle.fact_machine.specs.declared.types.CoreValue.{CoreValue}
use Rattle.fact_types.specs.Tuples.{members_from, tuple_members}
use Rattle.fact_actions.specs.Moves.{entry_extent}
use Rattle.fact_actions.specs.Sides.{Values, AtAddress, width_of_side}
use Rattle.fact_values.specs.declared.side.SideAbi.{SideAbi}
use Rattle.fact_values.specs.declared.value.Value.{Value}
use Rattle.fact_values.specs.Lift.{can_stand, can_stand_all, lift, lift_leading, lift_members}
use Rattle.fact_values.specs.Load.{load_members}
use Rattle.fact_types.specs.Options.{◌>>=◌}
use Rattle.fact_values.specs.Texts.{lies_aligned}
use Rattle.fact_values.specs.Tuples.{lift_all, load_tuple}
use Rattle.fact_action_laws.specs.MoveTerms.{AreWellFormed}
use Rattle.fact_action_laws.specs.Places.{from_side, AreInRange, HasSideMemory, IsSource}
use Rattle.fact_action_laws.specs.Regions.{TransferSetting}
use Rattle.fact_action_laws.proofs.Fields.{members_taken}
use Rattle.fact_action_laws.proofs.FixedLaws.{leads_back}
use Rattle.fact_action_laws.proofs.Plain.{both}
use Rattle.fact_action_laws.proofs.Targets.{left_true, right_true}

pub stand_length : (fs : List FlatType) (cs : List CoreValue) → can_stand_all fs cs ≡ true → length fs ≡ length cs
stand_length [] [] h = refl
stand_length [] (c ∷ cs) h = absurd (false≢true h)
stand_length (f ∷ fs) [] h = absurd (false≢true h)
stand_length (f ∷ fs) (c ∷ cs) h = ap suc (stand_length fs cs (right_true (can_stand f c) _ h))

-- what is lifted from core values that are as many as it needs
record IsLifted (side : SideAbi) (bytes : List ℕ) (s : Shape) (cs : List CoreValue) (v : Value) : Type 0 where
  pub leads : lift_leading side bytes s cs ≡ Some v
  pub long : length (flat (width side.memory64) s) ≡ length cs

is_lifted : (side : SideAbi) (bytes : List ℕ) (s : Shape) (cs : List CoreValue) (v : Value) → lift side bytes s cs ≡ Some v → IsLifted side bytes s cs v
is_lifted side bytes s cs v h = go (nat_le (length (flat (width side.memory64) s)) 16) h
  where
    last : (b : Bool) → can_stand_all (flat (width side.memory64) s) cs ≡ b → (if b then lift_leading side bytes s cs else None) ≡ Some v → IsLifted side bytes s cs v
    last true e h = record { leads = h; long = stand_length (flat (width side.memory64) s) cs e }
    last false e h = absurd (none_some None v refl h)

    go : (b : Bool) → (if b then Some (flat (width side.memory64) s) else None) >>= (λ fs. if can_stand_all fs cs then lift_leading side bytes s cs else None) ≡ Some v → IsLifted side bytes s cs v
    go true h = last (can_stand_all (flat (width side.memory64) s) cs) refl h
    go false h = absurd (none_some None v refl h)

-- several values as the members of a tuple
record AreLifted (side : SideAbi) (bytes : List ℕ) (ms : Members) (cs : List CoreValue) (rs : List Value) : Type 0 where
  pub lifts : lift_members side bytes ms cs ≡ Some rs
  pub long : length (flat_members (width side.memory64) ms) ≡ length cs

are_lifted : (side : SideAbi) (bytes : List ℕ) (n : ℕ) (ss : List Shape) (cs : List CoreValue) (rs : List Value) → AreWellFormed (members_from n ss) → lift_all side bytes ss cs ≡ Some rs → AreLifted side bytes (members_from n ss) cs rs
unfolding lift_members
are_lifted side bytes n [] [] rs f h = record { lifts = h; long = refl }
are_lifted side bytes n [] (c ∷ cs) rs f h = absurd (none_some None rs refl h)
are_lifted side bytes n (s ∷ ss) cs rs f h =
    let w = width side.memory64 in
    let k = length (flat w s) in
    let a = both (lift side bytes s (take k cs)) _ rs h in
    let b = both (lift_all side bytes ss (drop k cs)) _ rs a.last in
    let one = is_lifted side bytes s (take k cs) a.mid a.first in
    let rest = are_lifted side bytes (suc n) ss (drop k cs) b.mid f.1 b.first in
    let enough : k ≤ length cs = omega (arith, one.long, length-take k cs) in
    record {
      lifts = ap (λ o. o >>= (λ v. (lift_members side bytes (members_from (suc n) ss) (drop k cs)) >>= (λ vs. Some (v ∷ vs)))) (leads_back side bytes s k cs f.0 refl enough ∙ one.leads)
          ∙ ap (λ o. o >>= (λ vs. Some (a.mid ∷ vs))) rest.lifts ∙ b.last;
      long = length-append (flat w s) (flat_members w (members_from (suc n) ss)) ∙ omega (arith, rest.long, length-drop k cs, enough);
    }

pub same_members : (n : ℕ) (ss : List Shape) → members_from n ss ≡ members_from n ss
same_members n [] = refl
same_members n (s ∷ ss) = ap (λ l. typed (n ∷ []) s l) (same_members (suc n) ss)

take_same : {A : Type 0} (k n : ℕ) (xs : List A) → n ≡ length (take k xs) → take n xs ≡ take k xs
take_same zero n xs h = ap (λ n. take n xs) h
take_same (suc k) n [] h = ap (λ n. take n []) h
take_same (suc k) zero (x ∷ xs) h = absurd (omega (arith, h))
take_same (suc k) (suc n) (x ∷ xs) h = ap (λ l. x ∷ l) (take_same k n xs (omega (arith, h)))

module _ (c : TransferSetting) (ts : List Shape) (formed : AreWellFormed (tuple_members ts)) where
  -- flat values are lifted from as many core values as their types need
  pub leading_same : (k : ℕ) (args : List CoreValue) (rs : List Value) → lift_all (from_side c) c.source ts (take k args) ≡ Some rs
      → take (length (flat_members (width_of_side c.transfer.from) (tuple_members ts))) args ≡ take k args
  leading_same k args rs h = take_same k (length (flat_members (width_of_side c.transfer.from) (tuple_members ts))) args (are_lifted (from_side c) c.source 0 ts (take k args) rs formed h).long

  -- flat values come in by leading core values
  pub come_flat : (k : ℕ) (args : List CoreValue) (rs : List Value) → AreInRange (take k args) → lift_all (from_side c) c.source ts (take k args) ≡ Some rs
      → IsSource c (length (flat_members (width_of_side c.transfer.from) (tuple_members ts))) (Values (take (length (flat_members (width_of_side c.transfer.from) (tuple_members ts))) args))
      × (members_taken c (tuple_members ts) (Values (take (length (flat_members (width_of_side c.transfer.from) (tuple_members ts))) args)) ≡ Some rs)
  come_flat k args rs range h =
      let r = are_lifted (from_side c) c.source 0 ts (take k args) rs formed h in
      let same = take_same k (length (flat_members (width_of_side c.transfer.from) (tuple_members ts))) args r.long in (
        subst (λ l. IsSource c (length (flat_members (width_of_side c.transfer.from) (tuple_members ts))) (Values l)) (sym same) (sym r.long, range),
        subst (λ l. members_taken c (tuple_members ts) (Values l) ≡ Some rs) (sym same) r.lifts,
      )

  -- those of a tuple behind a pointer
  pub come_behind : (p : ℕ) (rs : List Value) → HasSideMemory c.transfer.from → load_tuple (from_side c) c.source ts p ≡ Some rs
      → HasSideMemory c.transfer.from × (p % (entry_extent c.transfer.from (tuple_members ts)).align ≡ 0) × (p + (entry_extent c.transfer.from (tuple_members ts)).size ≤ length c.source) × (members_taken c (tuple_members ts) (AtAddress p) ≡ Some rs)
  come_behind p rs there h = subst (λ l. HasSideMemory c.transfer.from × (p % (entry_extent c.transfer.from l).align ≡ 0) × (p + (entry_extent c.transfer.from l).size ≤ length c.source) × (members_taken c l (AtAddress p) ≡ Some rs)) (same_members 0 ts)
      (go (lies_aligned c.source (entry_extent c.transfer.from (members_from 0 ts)).align p (entry_extent c.transfer.from (members_from 0 ts)).size) refl h)
    where
      go : (b : Bool) → lies_aligned c.source (entry_extent c.transfer.from (members_from 0 ts)).align p (entry_extent c.transfer.from (members_from 0 ts)).size ≡ b → (if b then load_members (from_side c) c.source (members_from 0 ts) p 0 else None) ≡ Some rs
          → HasSideMemory c.transfer.from × (p % (entry_extent c.transfer.from (members_from 0 ts)).align ≡ 0) × (p + (entry_extent c.transfer.from (members_from 0 ts)).size ≤ length c.source) × (members_taken c (members_from 0 ts) (AtAddress p) ≡ Some rs)
      go true e h = (
        there,
        eqb-true (p % (entry_extent c.transfer.from (members_from 0 ts)).align) 0 (left_true (p % (entry_extent c.transfer.from (members_from 0 ts)).align == 0) _ e),
        leb-true (p + (entry_extent c.transfer.from (members_from 0 ts)).size) (length c.source) (right_true (p % (entry_extent c.transfer.from (members_from 0 ts)).align == 0) _ e),
        h,
      )
      go false e h = absurd (none_some None rs refl h)
