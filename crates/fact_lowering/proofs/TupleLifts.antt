-- How the values of tuples are lifted and loaded, one behind the other.
use Rattle.std.proofs.Common.{◌≡◌, inl, inr, ℕ, suc, ◌+◌, ◌-◌, ◌%◌, ◌<◌, ◌≤◌, List, [], ◌∷◌, ◌++◌, length, length-drop, take, drop, get_or, Option, Some, None, refl, sym, ap, ◌∙◌, subst, arith, add-one}
use Rattle.std.specs.Prelude.{option_map, slice_get, nat_le, ◌==◌, ◌&&◌, if◌then◌else◌, Bool, true, false, min}
use Rattle.std.proofs.lemmas.Bool.Decides.{nat_tests}
use Rattle.std.proofs.lemmas.List.{drop-drop, drop_all, take_all}
use Rattle.std.proofs.lemmas.Option.{slice_get-get_or}
use Rattle.fact_machine.specs.declared.types.CoreValue.{CoreValue}
use Rattle.fact_types.specs.declared.flats.FlatType.{FlatType}
use Rattle.fact_types.specs.declared.interface.InterfaceType.{InterfaceType}
use Rattle.fact_types.specs.FlatShapes.{flat, flat_all, flat_types, pointer, upto}
use Rattle.fact_types.specs.Functions.{HaveShapes}
use Rattle.fact_types.specs.Shapes.{Shape, ends_of, next_of, place_of}
use Rattle.fact_types.specs.Options.{◌>>=◌}
use Rattle.fact_types.specs.Tables.{Tables}
use Rattle.fact_types.specs.Tuples.{members_from, tuple_members, tuple_of}
use Rattle.fact_types.proofs.PlaceLaws.{ends_grow}
use Rattle.fact_types.proofs.ShapeLaws.{same_some, none_some}
use Rattle.fact_values.specs.declared.side.SideAbi.{SideAbi}
use Rattle.fact_values.specs.declared.value.Value.{Value}
use Rattle.fact_values.specs.Lift.{can_stand, can_stand_all, lift, lift_leading, number_as}
use Rattle.fact_values.specs.Load.{load, load_members}
use Rattle.fact_values.specs.Places.{extent_on, width_of}
use Rattle.fact_values.specs.Tuples.{behind, behind_last, behind_only, flat_or_behind, lift_all, load_tuple, sync_lower_results, where_flat}
use Rattle.fact_abi.proofs.LeadingLaws.{from_place}
use Rattle.fact_abi.proofs.TextLaws.{one_more, none_left, all_read, starts}
use Rattle.fact_lowering.specs.TupleSteps.{IsPartLifted, pointer_number}
use Rattle.fact_lowering.proofs.CoreWrites.{below_or_not}
use Rattle.fact_lowering.proofs.TupleExtents.{ShapeHere, shapes_past}

-- ---- one value

pub flats_are : (n : ℕ) (fs gs : List FlatType) → Some gs ≡ upto n fs → gs ≡ fs
flats_are n fs gs e = go (nat_le (length fs) n) e
  where
    go : (b : Bool) → Some gs ≡ (if b then Some fs else None) → gs ≡ fs
    go true e = same_some (Some gs) gs fs refl e
    go false e = absurd (none_some None gs refl (sym e))

pub no_part : (side : SideAbi) (bytes : List ℕ) (s : Shape) (cs : List CoreValue) → None ≡ flat_types (width_of side) s → lift side bytes s cs ≡ None
no_part side bytes s cs e = ap (λ o. o >>= (λ fs. if can_stand_all fs cs then lift_leading side bytes s cs else None)) (sym e)

least_taken : {X : Type 0} (n : ℕ) (xs : List X) → take (min n (length xs)) xs ≡ take n xs
least_taken n xs = elim (below_or_not n (length xs)) [
  | inl h ↦ (let e : min n (length xs) ≡ n = omega (arith, h) in ap (λ k. take k xs) e)
  | inr h ↦ (let e : min n (length xs) ≡ length xs = omega (arith, h) in ap (λ k. take k xs) e ∙ take_all (length xs) xs (omega arith) ∙ sym (take_all n xs h))
]

least_dropped : {X : Type 0} (n : ℕ) (xs : List X) → drop (min n (length xs)) xs ≡ drop n xs
least_dropped n xs = elim (below_or_not n (length xs)) [
  | inl h ↦ (let e : min n (length xs) ≡ n = omega (arith, h) in ap (λ k. drop k xs) e)
  | inr h ↦ (let e : min n (length xs) ≡ length xs = omega (arith, h) in ap (λ k. drop k xs) e ∙ drop_all (length xs) xs (omega arith) ∙ sym (drop_all n xs h))
]

module _ (side : SideAbi) (bytes : List ℕ) (s : Shape) (cs : List CoreValue) (fs : List FlatType) (count : ℕ) (there : Some fs ≡ flat_types (width_of side) s) (least : count ≡ min (length fs) (length cs)) where
  part_is : count ≡ min (length (flat (width_of side) s)) (length cs)
  part_is = least ∙ ap (λ l. min (length l) (length cs)) (flats_are 16 (flat (width_of side) s) fs there)

  pub part_lifted : (o : Option Value) (v : Value) → o ≡ lift side bytes s (take count cs) → o ≡ Some v → IsPartLifted side bytes s cs (Some (v, count))
  part_lifted o v e is = (
    ap (lift side bytes s) (sym (ap (λ k. take k cs) part_is ∙ least_taken (length (flat (width_of side) s)) cs)) ∙ sym e ∙ is,
    ap (λ k. drop k cs) part_is ∙ least_dropped (length (flat (width_of side) s)) cs,
    omega (arith, part_is),
  )

  pub part_missing : (o : Option Value) → o ≡ lift side bytes s (take count cs) → o ≡ None → IsPartLifted side bytes s cs None
  part_missing o e is = ap (lift side bytes s) (sym (ap (λ k. take k cs) part_is ∙ least_taken (length (flat (width_of side) s)) cs)) ∙ sym e ∙ is

-- ---- values one behind the other

-- In front of a type, with these values lifted before it, and the core values from a place on left.
pub record LiftsAll (side : SideAbi) (bytes : List ℕ) (ss : List Shape) (cs : List CoreValue) (i at : ℕ) (values : List Value) : Type 0 where
  pub same : lift_all side bytes ss cs ≡ option_map (λ vs. values ++ vs) (lift_all side bytes (drop i ss) (drop at cs))

pub lifts_start : (side : SideAbi) (bytes : List ℕ) (ss : List Shape) (cs : List CoreValue) (values : List Value) → values ≡ [] → LiftsAll side bytes ss cs 0 0 values
lifts_start side bytes ss cs values none = record { same = starts (lift_all side bytes ss cs) ∙ ap (λ us. option_map (λ vs. us ++ vs) (lift_all side bytes ss cs)) (sym none) }

module _ {t : Tables} {tys : List InterfaceType} {side : SideAbi} {bytes : List ℕ} {ss : List Shape} {cs : List CoreValue} {i at : ℕ} {values : List Value} {y : InterfaceType} (g : LiftsAll side bytes ss cs i at values) (h : ShapeHere t tys ss i y) where
  next : lift_all side bytes (drop i ss) (drop at cs) ≡ lift side bytes h.shape (take (length (flat (width_of side) h.shape)) (drop at cs)) >>= (λ v. lift_all side bytes (drop (suc i) ss) (drop (length (flat (width_of side) h.shape)) (drop at cs)) >>= (λ vs. Some (v ∷ vs)))
  next = ap (λ l. lift_all side bytes l (drop at cs)) h.front

  pub lifts_on : (o : Option (Value × ℕ)) (v : Value) (count at' : ℕ) (values' : List Value) → o ≡ Some (v, count) → IsPartLifted side bytes h.shape (take (length cs - at) (drop at cs)) o → values' ≡ values ++ v ∷ [] → at' ≡ at + count → LiftsAll side bytes ss cs (i + 1) at' values'
  lifts_on o v count at' values' is part pushed moved =
      let p = subst (λ cs. IsPartLifted side bytes h.shape cs (Some (v, count))) (from_place at cs) (subst (IsPartLifted side bytes h.shape (take (length cs - at) (drop at cs))) is part) in
      let left : drop (length (flat (width_of side) h.shape)) (drop at cs) ≡ drop at' cs = sym p.1 ∙ drop-drop count at cs ∙ ap (λ k. drop k cs) (sym moved) in
      record {
        same = one_more _ _ (lift_all side bytes (drop (i + 1) ss) (drop at' cs)) values values' v g.same
            (next ∙ ap (λ o. o >>= (λ v. lift_all side bytes (drop (suc i) ss) (drop (length (flat (width_of side) h.shape)) (drop at cs)) >>= (λ vs. Some (v ∷ vs)))) p.0
            ∙ ap (λ ds. lift_all side bytes (drop (suc i) ss) ds >>= (λ vs. Some (v ∷ vs))) left ∙ ap (λ k. lift_all side bytes (drop k ss) (drop at' cs) >>= (λ vs. Some (v ∷ vs))) (sym (add-one i))) pushed;
      }

  pub lifts_not : (o : Option (Value × ℕ)) → o ≡ None → IsPartLifted side bytes h.shape (take (length cs - at) (drop at cs)) o → None ≡ lift_all side bytes ss cs
  lifts_not o is part =
      let p = subst (λ cs. IsPartLifted side bytes h.shape cs None) (from_place at cs) (subst (IsPartLifted side bytes h.shape (take (length cs - at) (drop at cs))) is part) in
      none_left _ _ values g.same (next ∙ ap (λ o. o >>= (λ v. lift_all side bytes (drop (suc i) ss) (drop (length (flat (width_of side) h.shape)) (drop at cs)) >>= (λ vs. Some (v ∷ vs)))) p)

pub part_count : (side : SideAbi) (bytes : List ℕ) (s : Shape) (cs : List CoreValue) (at : ℕ) (o : Option (Value × ℕ)) (v : Value) (count : ℕ) → at ≤ length cs → o ≡ Some (v, count) → IsPartLifted side bytes s (take (length cs - at) (drop at cs)) o → at + count ≤ length cs
part_count side bytes s cs at o v count le is part =
    let p = subst (IsPartLifted side bytes s (take (length cs - at) (drop at cs))) is part in
    omega (arith, le, p.2, ap length (from_place at cs), length-drop at cs)

module _ (t : Tables) (tys : List InterfaceType) {side : SideAbi} {bytes : List ℕ} {ss : List Shape} {cs : List CoreValue} {i at : ℕ} {values : List Value} (g : LiftsAll side bytes ss cs i at values) (h : HaveShapes t tys ss) (past : length tys ≤ i) where
  pub lifts_done : length cs ≤ at → Some values ≡ lift_all side bytes ss cs
  lifts_done all = all_read _ _ values g.same ((λ j. lift_all side bytes (shapes_past t tys ss i h past j) (drop_all at cs all j)))

  -- some are left
  pub lifts_more : at < length cs → None ≡ lift_all side bytes ss cs
  lifts_more lt = none_left _ _ values g.same (ap (λ l. lift_all side bytes l (drop at cs)) (shapes_past t tys ss i h past) ∙ some_left (drop at cs) (omega (arith, lt, length-drop at cs)))
    where
      some_left : (ds : List CoreValue) → 1 ≤ length ds → lift_all side bytes [] ds ≡ None
      some_left [] le = absurd (omega (arith, le))
      some_left (d ∷ ds) le = refl

-- ---- values in memory

-- In front of a type, with these values loaded before it, behind so many bytes of the tuple.
pub record LoadsAll (side : SideAbi) (bytes : List ℕ) (ss : List Shape) (a i offset : ℕ) (values : List Value) : Type 0 where
  pub from : ℕ
  pub ends : ends_of (width_of side) (tuple_members ss) 0 ≡ ends_of (width_of side) (members_from from (drop i ss)) offset
  pub same : load_members side bytes (tuple_members ss) a 0 ≡ option_map (λ vs. values ++ vs) (load_members side bytes (members_from from (drop i ss)) a offset)

pub loads_start : (side : SideAbi) (bytes : List ℕ) (ss : List Shape) (a : ℕ) (values : List Value) → values ≡ [] → LoadsAll side bytes ss a 0 0 values
loads_start side bytes ss a values none = record {
  from = 0;
  ends = refl;
  same = starts (load_members side bytes (tuple_members ss) a 0) ∙ ap (λ us. option_map (λ vs. us ++ vs) (load_members side bytes (tuple_members ss) a 0)) (sym none);
}

module _ {t : Tables} {tys : List InterfaceType} {side : SideAbi} {bytes : List ℕ} {ss : List Shape} {a i offset : ℕ} {values : List Value} {y : InterfaceType} (g : LoadsAll side bytes ss a i offset values) (h : ShapeHere t tys ss i y) where
  next_loads : load_members side bytes (members_from g.from (drop i ss)) a offset ≡ load side bytes h.shape (a + place_of (width_of side) h.shape offset) >>= (λ v. load_members side bytes (members_from (suc g.from) (drop (suc i) ss)) a (next_of (width_of side) h.shape offset) >>= (λ vs. Some (v ∷ vs)))
  unfolding load
  next_loads = ap (λ l. load_members side bytes (members_from g.from l) a offset) h.front

  -- it ends within the tuple
  pub loads_within : next_of (width_of side) h.shape offset ≤ ends_of (width_of side) (tuple_members ss) 0
  loads_within =
      let e : ends_of (width_of side) (tuple_members ss) 0 ≡ ends_of (width_of side) (members_from (suc g.from) (drop (suc i) ss)) (next_of (width_of side) h.shape offset) = g.ends ∙ ap (λ l. ends_of (width_of side) (members_from g.from l) offset) h.front in
      omega (arith, e, ends_grow (width_of side) (members_from (suc g.from) (drop (suc i) ss)) (next_of (width_of side) h.shape offset))

  pub loads_on : (o : Option Value) (v : Value) (place offset' : ℕ) (values' : List Value) → place ≡ a + place_of (width_of side) h.shape offset → offset' ≡ next_of (width_of side) h.shape offset → o ≡ load side bytes h.shape place → o ≡ Some v → values' ≡ values ++ v ∷ [] → LoadsAll side bytes ss a (i + 1) offset' values'
  loads_on o v place offset' values' at moved e is pushed = record {
    from = suc g.from;
    ends = g.ends ∙ ap (λ l. ends_of (width_of side) (members_from g.from l) offset) h.front ∙ (λ j. ends_of (width_of side) (members_from (suc g.from) (drop (sym (add-one i) j) ss)) (sym moved j));
    same = one_more _ _ (load_members side bytes (members_from (suc g.from) (drop (i + 1) ss)) a offset') values values' v g.same
        (next_loads ∙ ap (λ o. o >>= (λ v. load_members side bytes (members_from (suc g.from) (drop (suc i) ss)) a (next_of (width_of side) h.shape offset) >>= (λ vs. Some (v ∷ vs)))) (ap (load side bytes h.shape) (sym at) ∙ sym e ∙ is)
        ∙ (λ j. load_members side bytes (members_from (suc g.from) (drop (sym (add-one i) j) ss)) a (sym moved j) >>= (λ vs. Some (v ∷ vs)))) pushed;
  }

  pub loads_not : (o : Option Value) (place : ℕ) → place ≡ a + place_of (width_of side) h.shape offset → o ≡ load side bytes h.shape place → o ≡ None → None ≡ load_members side bytes (tuple_members ss) a 0
  loads_not o place at e is =
      none_left _ _ values g.same (next_loads ∙ ap (λ o. o >>= (λ v. load_members side bytes (members_from (suc g.from) (drop (suc i) ss)) a (next_of (width_of side) h.shape offset) >>= (λ vs. Some (v ∷ vs)))) (ap (load side bytes h.shape) (sym at) ∙ sym e ∙ is))

pub loads_done : (t : Tables) (tys : List InterfaceType) {side : SideAbi} {bytes : List ℕ} {ss : List Shape} {a i offset : ℕ} {values : List Value} → LoadsAll side bytes ss a i offset values → HaveShapes t tys ss → length tys ≤ i → Some values ≡ load_members side bytes (tuple_members ss) a 0
unfolding load
loads_done t tys {side} {bytes} {ss} {a} {i} {offset} {values} g h past = all_read _ _ values g.same (ap (λ l. load_members side bytes (members_from g.from l) a offset) (shapes_past t tys ss i h past))

-- ---- behind a pointer

module _ (side : SideAbi) (bytes : List ℕ) (ss : List Shape) (c : CoreValue) where
  behind_by : behind side bytes ss c ≡ pointer_number side c >>= (λ p. load_tuple side bytes ss p)
  behind_by = go (can_stand (pointer (width_of side)) c)
    where
      go : (b : Bool) → (if b then load_tuple side bytes ss (number_as (pointer (width_of side)) c) else None) ≡ (if b then Some (number_as (pointer (width_of side)) c) else None) >>= (λ p. load_tuple side bytes ss p)
      go true = refl
      go false = refl

  pub no_pointer : None ≡ pointer_number side c → None ≡ behind side bytes ss c
  no_pointer e = sym (behind_by ∙ ap (λ o. o >>= (λ p. load_tuple side bytes ss p)) (sym e))

  pub behind_pointer : (p : ℕ) (o : Option (List Value)) → Some p ≡ pointer_number side c → o ≡ load_tuple side bytes ss p → o ≡ behind side bytes ss c
  behind_pointer p o e is = is ∙ sym (behind_by ∙ ap (λ o. o >>= (λ p. load_tuple side bytes ss p)) (sym e))

module _ (side : SideAbi) (bytes : List ℕ) (ss : List Shape) (p : ℕ) where
  -- the tuple is aligned and all there
  pub tuple_there : (o : Option (List Value)) → p % (extent_on side (tuple_of ss)).align ≡ 0 → p + (extent_on side (tuple_of ss)).size ≤ length bytes → o ≡ load_members side bytes (tuple_members ss) p 0 → o ≡ load_tuple side bytes ss p
  tuple_there o at le e =
      let one : (p % (extent_on side (tuple_of ss)).align == 0) ≡ true = ap (λ n. n == 0) at in
      let two : nat_le (p + (extent_on side (tuple_of ss)).size) (length bytes) ≡ true = grind (arith, le, nat_tests) in
      e ∙ sym (λ j. if (one j && two j) then load_members side bytes (tuple_members ss) p 0 else None)

  pub tuple_not_aligned : (p % (extent_on side (tuple_of ss)).align ≡ 0 → ⊥) → None ≡ load_tuple side bytes ss p
  tuple_not_aligned never =
      let one : (p % (extent_on side (tuple_of ss)).align == 0) ≡ false = grind (arith, never, nat_tests) in
      sym (λ j. if (one j && nat_le (p + (extent_on side (tuple_of ss)).size) (length bytes)) then load_members side bytes (tuple_members ss) p 0 else None)

  pub tuple_not_there : length bytes < p + (extent_on side (tuple_of ss)).size → None ≡ load_tuple side bytes ss p
  tuple_not_there lt =
      let two : nat_le (p + (extent_on side (tuple_of ss)).size) (length bytes) ≡ false = grind (arith, lt, nat_tests) in
      sym (ap (λ (b : Bool). if ((p % (extent_on side (tuple_of ss)).align == 0) && b) then load_members side bytes (tuple_members ss) p 0 else None) two ∙ never (p % (extent_on side (tuple_of ss)).align == 0))
    where
      never : (b : Bool) → (if (b && false) then load_members side bytes (tuple_members ss) p 0 else None) ≡ None
      never true = refl
      never false = refl

-- ---- flat, or behind a pointer

module _ (side : SideAbi) (bytes : List ℕ) (limit : ℕ) (ss : List Shape) (o : Option (List Value)) where
  pub flat_lifted : (fs : List FlatType) (cs : List CoreValue) → Some fs ≡ flat_all (width_of side) limit ss → o ≡ lift_all side bytes ss cs → o ≡ flat_or_behind side bytes limit ss cs
  flat_lifted fs cs e is = is ∙ ap (λ f. where_flat f (lift_all side bytes ss cs) (behind_only side bytes ss cs)) e

  pub behind_lifted : (cs : List CoreValue) → None ≡ flat_all (width_of side) limit ss → o ≡ behind_only side bytes ss cs → o ≡ flat_or_behind side bytes limit ss cs
  behind_lifted cs e is = is ∙ ap (λ f. where_flat f (lift_all side bytes ss cs) (behind_only side bytes ss cs)) e

  pub one_behind : (cs : List CoreValue) (c : CoreValue) → cs ≡ c ∷ [] → o ≡ behind side bytes ss c → o ≡ behind_only side bytes ss cs
  one_behind cs c e is = is ∙ ap (behind_only side bytes ss) (sym e)

pub only_one : (cs : List CoreValue) (d : CoreValue) → length cs ≡ 1 → cs ≡ get_or cs 0 d ∷ []
only_one [] d e = absurd (omega (arith, e))
only_one (c ∷ []) d e = refl
only_one (c ∷ b ∷ cs) d e = absurd (omega (arith, e))

pub other_behind : (side : SideAbi) (bytes : List ℕ) (ss : List Shape) (cs : List CoreValue) → (length cs ≡ 1 → ⊥) → None ≡ behind_only side bytes ss cs
other_behind side bytes ss [] never = refl
other_behind side bytes ss (c ∷ []) never = absurd (never refl)
other_behind side bytes ss (c ∷ d ∷ cs) never = refl

module _ (side : SideAbi) (bytes : List ℕ) (ss : List Shape) (args results : List CoreValue) (o : Option (List Value)) where
  pub flat_results : (fs : List FlatType) → Some fs ≡ flat_all (width_of side) 1 ss → o ≡ lift_all side bytes ss results → o ≡ sync_lower_results side bytes ss args results
  flat_results fs e is = is ∙ ap (λ f. where_flat f (lift_all side bytes ss results) (behind_last side bytes ss args)) e

  pub behind_results : None ≡ flat_all (width_of side) 1 ss → o ≡ behind_last side bytes ss args → o ≡ sync_lower_results side bytes ss args results
  behind_results e is = is ∙ ap (λ f. where_flat f (lift_all side bytes ss results) (behind_last side bytes ss args)) e

pub last_behind : (side : SideAbi) (bytes : List ℕ) (ss : List Shape) (args : List CoreValue) (c : CoreValue) → slice_get args (length args - 1) ≡ Some c → behind side bytes ss c ≡ behind_last side bytes ss args
last_behind side bytes ss [] c e = absurd (none_some None c refl e)
last_behind side bytes ss (d ∷ []) c e = ap (behind side bytes ss) (sym (same_some (Some d) d c refl e))
last_behind side bytes ss (d ∷ b ∷ more) c e =
    let before : suc (length (b ∷ more) - 1) ≡ length (d ∷ b ∷ more) - 1 = omega arith in
    last_behind side bytes ss (b ∷ more) c (ap (slice_get (d ∷ b ∷ more)) before ∙ e)

pub none_behind : (side : SideAbi) (bytes : List ℕ) (ss : List Shape) (args : List CoreValue) → slice_get args (length args - 1) ≡ None → None ≡ behind_last side bytes ss args
none_behind side bytes ss [] e = refl
none_behind side bytes ss (d ∷ args) e =
    let lt : length (d ∷ args) - 1 < length (d ∷ args) = omega arith in
    absurd (none_some (slice_get (d ∷ args) (length (d ∷ args) - 1)) (get_or (d ∷ args) (length (d ∷ args) - 1) d) e (slice_get-get_or (d ∷ args) (length (d ∷ args) - 1) d lt))
