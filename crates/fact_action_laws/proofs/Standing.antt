-- What stands at a destination is what fact_values lifts there.
use Rattle.std.proofs.Common.{◌≡◌, ℕ, suc, ◌≤◌, true, List, [], ◌∷◌, ◌++◌, length, length-append, map, take, drop, Option, Some, None, refl, sym, ap, ◌∙◌, arith}
use Rattle.std.specs.Prelude.{if◌then◌else◌}
use Rattle.std.proofs.lemmas.Bool.{false≢true}
use Rattle.fact_types.specs.declared.flats.FlatType.{FlatType}
use Rattle.fact_types.specs.declared.flats.FlatType.TheVariants as flat_type
use Rattle.fact_types.specs.declared.extents.MemoryWidth.{MemoryWidth}
use Rattle.fact_types.specs.Flat.{value_type}
use Rattle.fact_types.specs.FlatShapes.{flat, flat_members, flat_types, flat_each, after_flat}
use Rattle.fact_types.specs.Shapes.{Shape}
use Rattle.fact_types.specs.Signatures.{width}
use Rattle.fact_types.proofs.ShapeLaws.{none_some}
use Rattle.fact_machine.specs.declared.types.CoreValue.{CoreValue}
use Rattle.fact_machine.specs.declared.types.CoreValue.TheVariants.{I32, I64, F32, F64, Func}
use Rattle.fact_types.specs.Tuples.{members_from}
use Rattle.fact_machine.specs.Typed.{is_value, are_values}
use Rattle.fact_values.specs.declared.side.SideAbi.{SideAbi}
use Rattle.fact_values.specs.declared.value.Value.{Value}
use Rattle.fact_values.specs.Lift.{can_stand, can_stand_all, lift, lift_leading, lift_members}
use Rattle.fact_types.specs.Options.{◌>>=◌}
use Rattle.fact_values.specs.Tuples.{lift_all}
use Rattle.fact_action_laws.specs.MoveTerms.{AreWellFormed}
use Rattle.fact_action_laws.proofs.FixedLaws.{leads_back}
use Rattle.fact_action_laws.proofs.Plain.{both}
use Rattle.fact_action_laws.proofs.Targets.{both_true, left_true, right_true}
use Rattle.fact_action_laws.proofs.Transfers.{upto_is}
use Rattle.fact_action_laws.proofs.Tupled.{stand_length}

-- ---- typed core values stand for flat types

pub stands : (f : FlatType) (v : CoreValue) → is_value v (value_type f) ≡ true → can_stand f v ≡ true
stands flat_type.I32 (I32 n) h = refl
stands flat_type.I32 (I64 n) h = absurd (false≢true h)
stands flat_type.I32 (F32 n) h = absurd (false≢true h)
stands flat_type.I32 (F64 n) h = absurd (false≢true h)
stands flat_type.I32 (Func f) h = absurd (false≢true h)
stands flat_type.I64 (I32 n) h = absurd (false≢true h)
stands flat_type.I64 (I64 n) h = refl
stands flat_type.I64 (F32 n) h = absurd (false≢true h)
stands flat_type.I64 (F64 n) h = absurd (false≢true h)
stands flat_type.I64 (Func f) h = absurd (false≢true h)
stands flat_type.F32 (I32 n) h = absurd (false≢true h)
stands flat_type.F32 (I64 n) h = absurd (false≢true h)
stands flat_type.F32 (F32 n) h = refl
stands flat_type.F32 (F64 n) h = absurd (false≢true h)
stands flat_type.F32 (Func f) h = absurd (false≢true h)
stands flat_type.F64 (I32 n) h = absurd (false≢true h)
stands flat_type.F64 (I64 n) h = absurd (false≢true h)
stands flat_type.F64 (F32 n) h = absurd (false≢true h)
stands flat_type.F64 (F64 n) h = refl
stands flat_type.F64 (Func f) h = absurd (false≢true h)

pub all_stand : (fs : List FlatType) (vs : List CoreValue) → are_values vs (map value_type fs) ≡ true → can_stand_all fs vs ≡ true
all_stand [] [] h = refl
all_stand [] (v ∷ vs) h = absurd (false≢true h)
all_stand (f ∷ fs) [] h = absurd (false≢true h)
all_stand (f ∷ fs) (v ∷ vs) h = both_true (can_stand f v) (can_stand_all fs vs) (stands f v (left_true (is_value v (value_type f)) _ h)) (all_stand fs vs (right_true (is_value v (value_type f)) _ h))

stand_first : (fs gs : List FlatType) (cs : List CoreValue) → can_stand_all (fs ++ gs) cs ≡ true → can_stand_all fs (take (length fs) cs) ≡ true
stand_first [] gs cs h = refl
stand_first (f ∷ fs) gs [] h = absurd (false≢true h)
stand_first (f ∷ fs) gs (c ∷ cs) h = both_true (can_stand f c) (can_stand_all fs (take (length fs) cs)) (left_true (can_stand f c) _ h) (stand_first fs gs cs (right_true (can_stand f c) _ h))

stand_others : (fs gs : List FlatType) (cs : List CoreValue) → can_stand_all (fs ++ gs) cs ≡ true → can_stand_all gs (drop (length fs) cs) ≡ true
stand_others [] gs cs h = h
stand_others (f ∷ fs) gs [] h = absurd (false≢true h)
stand_others (f ∷ fs) gs (c ∷ cs) h = stand_others fs gs cs (right_true (can_stand f c) _ h)

-- ---- each type is flat

abbrev pub AreFlat : MemoryWidth → List Shape → Type 0
AreFlat w [] = Unit {0}
AreFlat w (s ∷ ss) = (flat_types w s ≡ Some (flat w s)) × AreFlat w ss

pub each_flat : (w : MemoryWidth) (ss : List Shape) (fs : List FlatType) → flat_each w ss ≡ Some fs → AreFlat w ss
each_flat w [] fs h = tt
each_flat w (s ∷ ss) fs h = go (flat_types w s) refl (flat_each w ss) refl (each_flat w ss)
  where
    go : (o : Option (List FlatType)) → flat_types w s ≡ o → (p : Option (List FlatType)) → flat_each w ss ≡ p → ((gs : List FlatType) → flat_each w ss ≡ Some gs → AreFlat w ss) → (flat_types w s ≡ Some (flat w s)) × AreFlat w ss
    go None e p f more = absurd (none_some None fs refl (ap (λ o. after_flat o (flat_each w ss)) (sym e) ∙ h))
    go (Some xs) e None f more = absurd (none_some None fs refl (ap (λ o. after_flat o None) (sym e) ∙ ap (after_flat (flat_types w s)) (sym f) ∙ h))
    go (Some xs) e (Some ys) f more = (e ∙ ap (λ l. Some l) (sym (upto_is 16 (flat w s) xs e)), more ys f)

-- ---- members that are lifted one behind the other

lifts_one : (side : SideAbi) (bytes : List ℕ) (s : Shape) (cs : List CoreValue) (v : Value) → flat_types (width side.memory64) s ≡ Some (flat (width side.memory64) s) → can_stand_all (flat (width side.memory64) s) cs ≡ true
    → lift_leading side bytes s cs ≡ Some v → lift side bytes s cs ≡ Some v
lifts_one side bytes s cs v e stand h =
    ap (λ o. o >>= (λ fs. if can_stand_all fs cs then lift_leading side bytes s cs else None)) e ∙ ap (λ b. if b then lift_leading side bytes s cs else None) stand ∙ h

-- The values of members are those of a tuple.
pub lifts_all : (side : SideAbi) (bytes : List ℕ) (n : ℕ) (ss : List Shape) (cs : List CoreValue) (rs : List Value) → AreWellFormed (members_from n ss) → AreFlat (width side.memory64) ss
    → can_stand_all (flat_members (width side.memory64) (members_from n ss)) cs ≡ true → lift_members side bytes (members_from n ss) cs ≡ Some rs → lift_all side bytes ss cs ≡ Some rs
unfolding lift_members
lifts_all side bytes n [] [] rs f e stand h = h
lifts_all side bytes n [] (c ∷ cs) rs f e stand h = absurd (false≢true stand)
lifts_all side bytes n (s ∷ ss) cs rs f e stand h =
    let w = width side.memory64 in
    let k = length (flat w s) in
    let a = both (lift_leading side bytes s cs) _ rs h in
    let b = both (lift_members side bytes (members_from (suc n) ss) (drop k cs)) _ rs a.last in
    let long = stand_length (flat w s ++ flat_members w (members_from (suc n) ss)) cs stand in
    let enough : k ≤ length cs = omega (arith, long, length-append (flat w s) (flat_members w (members_from (suc n) ss))) in
    let one : lift side bytes s (take k cs) ≡ Some a.mid = lifts_one side bytes s (take k cs) a.mid e.0 (stand_first (flat w s) (flat_members w (members_from (suc n) ss)) cs stand) (sym (leads_back side bytes s k cs f.0 refl enough) ∙ a.first) in
    let rest : lift_all side bytes ss (drop k cs) ≡ Some b.mid = lifts_all side bytes (suc n) ss (drop k cs) b.mid f.1 e.1 (stand_others (flat w s) (flat_members w (members_from (suc n) ss)) cs stand) b.first in
    ap (λ o. o >>= (λ v. (lift_all side bytes ss (drop k cs)) >>= (λ vs. Some (v ∷ vs)))) one ∙ ap (λ o. o >>= (λ vs. Some (a.mid ∷ vs))) rest ∙ b.last
