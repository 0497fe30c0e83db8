-- The flat values of several types are those of the tuple of them, where they are few.
use Rattle.std.proofs.Common.{◌≡◌, ℕ, suc, ◌≤◌, Bool, true, false, List, [], ◌∷◌, ◌++◌, Option, Some, None, refl, sym, ap, ◌∙◌, subst, arith, length, map}
use Rattle.std.specs.Prelude.{nat_le, is_some, if◌then◌else◌}
use Rattle.std.proofs.lemmas.Bool.{le-leb, leb-true}
use Rattle.std.proofs.lemmas.Bool.Decides.{nat_tests}
use Rattle.std.proofs.lemmas.List.{length-append}
use Rattle.fact_wasm.specs.declared.types.ValType.{ValType}
use Rattle.fact_types.specs.declared.flats.FlatType.{FlatType}
use Rattle.fact_types.specs.declared.flats.FlatType.TheVariants as flat_type
use Rattle.fact_types.specs.declared.extents.MemoryWidth.{MemoryWidth}
use Rattle.fact_types.specs.Flat.{value_type, flat_within}
use Rattle.fact_types.specs.FlatShapes.{flat, flat_members, upto, flat_types, after_flat, flat_each, when_upto, AreCounted}
use Rattle.fact_types.proofs.CountLaws.{count_is_length}
use Rattle.fact_types.specs.Shapes.{Shape, layout_of}
use Rattle.fact_types.specs.Signatures.{width, flat_values, lift_results_limit, lower_limit}
use Rattle.fact_types.specs.Tuples.{members_from, tuple_members, tuple_of}
use Rattle.fact_actions.specs.Adapters.{lowered_flats}
use Rattle.fact_code_laws.specs.Places.{Slot}
use Rattle.fact_emit.specs.Fitting.{IsSlotFor, AreRoom}

pub upto_some : {X : Type 0} (n : ℕ) (xs : List X) → length xs ≤ n → upto n xs ≡ Some xs
upto_some n xs h = ap (λ b. if b then Some xs else None) (le-leb (length xs) n h)

upto_is : {X : Type 0} (n : ℕ) (xs ys : List X) → upto n xs ≡ Some ys → xs ≡ ys
upto_is n xs ys = go (nat_le (length xs) n)
  where
    go : (b : Bool) → (if b then Some xs else None) ≡ Some ys → xs ≡ ys
    go true h = cc
    go false h = cc

-- the flat types of each one behind the other are those of the tuple
pub each_are : (w : MemoryWidth) (n : ℕ) (ss : List Shape) (xs : List FlatType) → flat_each w ss ≡ Some xs → xs ≡ flat_members w (members_from n ss)
each_are w n [] xs h = cc
each_are w n (s ∷ ss) xs h = go (flat_types w s) (flat_each w ss) refl refl (λ zs e. each_are w (suc n) ss zs e) h
  where
    go : (o r : Option (List FlatType)) → flat_types w s ≡ o → flat_each w ss ≡ r → ((zs : List FlatType) → flat_each w ss ≡ Some zs → zs ≡ flat_members w (members_from (suc n) ss)) → after_flat o r ≡ Some xs → xs ≡ flat w s ++ flat_members w (members_from (suc n) ss)
    go None r e f rest h = cc
    go (Some ys) None e f rest h = cc
    go (Some ys) (Some zs) e f rest h =
        let all : ys ++ zs ≡ xs = cc in
        let first : ys ≡ flat w s = sym (upto_is 16 (flat w s) ys e) in
        sym all ∙ (λ i. first i ++ rest zs f i)

each_few : (w : MemoryWidth) (n : ℕ) (ss : List Shape) → length (flat_members w (members_from n ss)) ≤ 16 → flat_each w ss ≡ Some (flat_members w (members_from n ss))
each_few w n [] h = refl
each_few w n (s ∷ ss) h =
    let both = length-append (flat w s) (flat_members w (members_from (suc n) ss)) in
    let one : flat_types w s ≡ Some (flat w s) = upto_some 16 (flat w s) (omega (arith, both, h)) in
    let rest = each_few w (suc n) ss (omega (arith, both, h)) in
    (λ i. after_flat (one i) (rest i))

abbrev pub values_of : Option (List FlatType) → Option (List ValType)
values_of None = None
values_of (Some fs) = Some (map value_type fs)

pub by_each : (m : Bool) (limit : ℕ) (ss : List Shape) → flat_values m limit ss ≡ values_of (when_upto limit (flat_each (width m) ss))
by_each m limit ss = go (when_upto limit (flat_each (width m) ss))
  where
    flat_of : Option (List FlatType) → Option (List ValType)
    flat_of None = None
    flat_of (Some fs) = Some (map value_type fs)

    go : (o : Option (List FlatType)) → flat_of o ≡ values_of o
    go None = refl
    go (Some fs) = refl

pub flat_values_some : (m : Bool) (limit : ℕ) (ss : List Shape) → length (flat_members (width m) (tuple_members ss)) ≤ limit → limit ≤ 16 → flat_values m limit ss ≡ Some (map value_type (flat_members (width m) (tuple_members ss)))
flat_values_some m limit ss few small =
    let fs = flat_members (width m) (tuple_members ss) in
    by_each m limit ss ∙ ap (λ o. values_of (when_upto limit o)) (each_few (width m) 0 ss (omega (arith, few, small))) ∙ ap values_of (upto_some limit fs few)

-- flat values are those of the tuple, no more than the limit
pub record AreFlat (m : Bool) (limit : ℕ) (ss : List Shape) (ts : List ValType) : Type 0 where
  pub are : ts ≡ map value_type (flat_members (width m) (tuple_members ss))
  pub few : length (flat_members (width m) (tuple_members ss)) ≤ limit

pub are_flat : (m : Bool) (limit : ℕ) (ss : List Shape) (ts : List ValType) → flat_values m limit ss ≡ Some ts → AreFlat m limit ss ts
are_flat m limit ss ts h = go (flat_each (width m) ss) refl (sym (by_each m limit ss) ∙ h)
  where
    limited : (xs : List FlatType) (b : Bool) → nat_le (length xs) limit ≡ b → flat_each (width m) ss ≡ Some xs → values_of (if b then Some xs else None) ≡ Some ts → AreFlat m limit ss ts
    limited xs true le e h =
        let is : xs ≡ flat_members (width m) (tuple_members ss) = each_are (width m) 0 ss xs e in
        let are : map value_type xs ≡ ts = cc in
        record { are = sym are ∙ ap (map value_type) is; few = subst (λ (ys : List FlatType). length ys ≤ limit) is (leb-true (length xs) limit le) }
    limited xs false le e h = cc

    go : (o : Option (List FlatType)) → flat_each (width m) ss ≡ o → values_of (when_upto limit o) ≡ Some ts → AreFlat m limit ss ts
    go None e h = cc
    go (Some xs) e h = limited xs (nat_le (length xs) limit) refl e h

-- ---- flat on a side, be it sync or async

flat_less : (m : Bool) (limit : ℕ) (ss : List Shape) (ts : List ValType) → limit ≤ 16 → AreFlat m limit ss ts → AreFlat m 16 ss ts
flat_less m limit ss ts small f = record { are = f.are; few = omega (arith, f.few, small) }

pub lower_limit_small : (mark : Bool) → lower_limit mark ≤ 16
lower_limit_small true = omega arith
lower_limit_small false = omega arith

pub lift_results_small : (mark : Bool) → lift_results_limit mark ≤ 16
lift_results_small true = omega arith
lift_results_small false = omega arith

pub params_flat : (m mark : Bool) (ss : List Shape) (ts : List ValType) → flat_values m (lower_limit mark) ss ≡ Some ts → AreFlat m 16 ss ts
params_flat m mark ss ts e = flat_less m (lower_limit mark) ss ts (lower_limit_small mark) (are_flat m (lower_limit mark) ss ts e)

pub given_flat : (m mark : Bool) (ss : List Shape) (ts : List ValType) → flat_values m (lift_results_limit mark) ss ≡ Some ts → AreFlat m 16 ss ts
given_flat m mark ss ts e = flat_less m (lift_results_limit mark) ss ts (lift_results_small mark) (are_flat m (lift_results_limit mark) ss ts e)

-- an async side that lowers gets no flat values: there are no results then
pub lowered_flat : (m mark : Bool) (ss : List Shape) (ts : List ValType) → lowered_flats mark m ss ≡ Some ts → AreFlat m 16 ss ts
lowered_flat m false ss ts e = flat_less m 1 ss ts (omega arith) (are_flat m 1 ss ts e)
lowered_flat m true [] ts e = let none : [] ≡ ts = cc in record { are = sym none; few = omega arith }
lowered_flat m true (s ∷ ss) ts e = cc

-- ---- room

is_slot : (f : FlatType) → IsSlotFor f (value_type f)
is_slot flat_type.I32 = tt
is_slot flat_type.I64 = tt
is_slot flat_type.F32 = tt
is_slot flat_type.F64 = tt

-- slots of the value types of flat types have room for their values
pub slots_room : (slots : List Slot) (fs : List FlatType) → map (λ (s : Slot). s.1) slots ≡ map value_type fs → AreRoom slots fs
slots_room [] [] e = tt
slots_room [] (f ∷ fs) e = cc
slots_room (s ∷ ss) [] e = cc
slots_room (s ∷ ss) (f ∷ fs) e =
    let here : s.1 ≡ value_type f = cc in
    let rest : map (λ (s : Slot). s.1) ss ≡ map value_type fs = cc in
    (subst (IsSlotFor f) (sym here) (is_slot f), slots_room ss fs rest)

-- ---- the count of a layout

-- whether values are flat is told by how many flat types their tuple has
flat_decides : (m : Bool) (limit : ℕ) (ss : List Shape) → limit ≤ 16 → is_some (flat_values m limit ss) ≡ nat_le (length (flat_members (width m) (tuple_members ss))) limit
flat_decides m limit ss small = go (nat_le (length (flat_members (width m) (tuple_members ss))) limit) refl
  where
    none : nat_le (length (flat_members (width m) (tuple_members ss))) limit ≡ false → (o : Option (List ValType)) → flat_values m limit ss ≡ o → is_some o ≡ false
    none b None e = refl
    none b (Some ts) e = let no : true ≡ false = sym (le-leb (length (flat_members (width m) (tuple_members ss))) limit (are_flat m limit ss ts e).few) ∙ b in absurd (cc)

    go : (b : Bool) → nat_le (length (flat_members (width m) (tuple_members ss))) limit ≡ b → is_some (flat_values m limit ss) ≡ b
    go true e = ap is_some (flat_values_some m limit ss (leb-true (length (flat_members (width m) (tuple_members ss))) limit e) small)
    go false e = none e (flat_values m limit ss) refl

pub count_some : (m : Bool) (limit count : ℕ) (ss : List Shape) → limit ≤ 16 → AreCounted (tuple_members ss) → Some count ≡ (layout_of (tuple_of ss)).flat_count → nat_le count limit ≡ is_some (flat_values m limit ss)
count_some m limit count ss small counted e =
    let n = length (flat_members (width m) (tuple_members ss)) in
    let same : count ≡ n = within n (e ∙ count_is_length (width m) (tuple_of ss) (tt, counted)) in
    ap (λ k. nat_le k limit) same ∙ sym (flat_decides m limit ss small)
  where
    within : (n : ℕ) → Some count ≡ flat_within n → count ≡ n
    within n = go (nat_le n 16)
      where
        go : (b : Bool) → Some count ≡ (if b then Some n else None) → count ≡ n
        go true h = cc
        go false h = cc

pub count_none : (m : Bool) (limit : ℕ) (ss : List Shape) → limit ≤ 16 → AreCounted (tuple_members ss) → None ≡ (layout_of (tuple_of ss)).flat_count → false ≡ is_some (flat_values m limit ss)
count_none m limit ss small counted e =
    let n = length (flat_members (width m) (tuple_members ss)) in
    sym (flat_decides m limit ss small ∙ past n (e ∙ count_is_length (width m) (tuple_of ss) (tt, counted)))
  where
    past : (n : ℕ) → None ≡ flat_within n → nat_le n limit ≡ false
    past n h = go (nat_le n 16) refl h
      where
        go : (b : Bool) → nat_le n 16 ≡ b → None ≡ (if b then Some n else None) → nat_le n limit ≡ false
        go true e h = cc
        go false e h = grind (arith, nat_tests, e, small)
