-- Members and elements as core values, one behind the other.
use Rattle.std.proofs.Common.{◌≡◌, ℕ, zero, suc, ◌+◌, ◌<◌, ◌≤◌, List, [], ◌∷◌, ◌++◌, length, length-drop, take, drop, Option, Some, None, refl, sym, ap, ◌∙◌, subst, arith, append_assoc}
use Rattle.std.specs.Prelude.{slice_get, sum_by}
use Rattle.std.specs.List.{AllByRecursion}
use Rattle.std.proofs.lemmas.List.{drop-drop, drop_all}
use Rattle.std.proofs.lemmas.List.Sums.{sum_by-cons}
use Rattle.fact_machine.specs.declared.types.CoreValue.{CoreValue}
use Rattle.fact_types.specs.declared.flats.FlatType.{FlatType}
use Rattle.fact_types.specs.declared.interface.InterfaceType.{InterfaceType}
use Rattle.fact_types.specs.FlatShapes.{flat, flat_members, times}
use Rattle.fact_types.specs.Shapes.{Shape, Members, no_members, bare, typed}
use Rattle.fact_types.specs.Options.{◌>>=◌}
use Rattle.fact_types.specs.Tables.{Tables, HasShape}
use Rattle.fact_values.specs.declared.side.SideAbi.{SideAbi}
use Rattle.fact_values.specs.declared.value.Value.{Value}
use Rattle.fact_values.specs.Canonical.{EachOf}
use Rattle.fact_values.specs.IsA.{IsA, AreMembers}
use Rattle.fact_values.specs.Lift.{lift_leading, lift_members, each_of}
use Rattle.fact_values.specs.Places.{width_of}
use Rattle.fact_abi.specs.Nodes.{AreOf}
use Rattle.fact_abi.proofs.BelongLaws.{slice_front}
use Rattle.fact_abi.proofs.LoadLaws.{split_typed, split_bare}
use Rattle.fact_lowering.specs.Lowered.{AreWideFor, BeginWideFor, ReadsAs, ReadsMembersAs, ReadsEachAs, IsLoweredTo, IsLowered, LacksRoom, CanStore, own_room, own_rooms}
use Rattle.fact_lowering.specs.Room.{measured}
use Rattle.fact_lowering.specs.TextForms.{IsByForm, AreByForm}
use Rattle.fact_lowering.proofs.CoreWrites.{both_lowered, also_lowered, none_lowered}
use Rattle.fact_lowering.proofs.WideLaws.{wide_begins, wide_front, wide_left, wide_taken}

-- ---- lists

pub drop_front : {X : Type 0} (xs ys : List X) (n : ℕ) → length xs ≡ n → drop n (xs ++ ys) ≡ ys
drop_front [] ys zero e = refl
drop_front [] ys (suc n) e = absurd (omega (arith, e))
drop_front (x ∷ xs) ys zero e = absurd (omega (arith, e))
drop_front (x ∷ xs) ys (suc n) e = drop_front xs ys n (omega (arith, e))

pub take_front : {X : Type 0} (xs ys : List X) (n : ℕ) → length xs ≡ n → take n (xs ++ ys) ≡ xs
take_front [] ys zero e = refl
take_front [] ys (suc n) e = absurd (omega (arith, e))
take_front (x ∷ xs) ys zero e = absurd (omega (arith, e))
take_front (x ∷ xs) ys (suc n) e = ap (λ l. x ∷ l) (take_front xs ys n (omega (arith, e)))

none_taken : {X : Type 0} (n : ℕ) (xs : List X) → length xs ≡ 0 → take n xs ≡ xs
none_taken zero [] e = refl
none_taken (suc n) [] e = refl
none_taken n (x ∷ xs) e = absurd (omega (arith, e))

pub take_more : {X : Type 0} (xs : List X) (m n : ℕ) → take (m + n) xs ≡ take m xs ++ take n (drop m xs)
take_more xs zero n = let e : 0 + n ≡ n = omega arith in ap (λ k. take k xs) e
take_more [] (suc m) n = none_taken (suc m + n) [] refl ∙ sym (none_taken n [] refl)
take_more (x ∷ xs) (suc m) n = let e : suc m + n ≡ suc (m + n) = omega arith in ap (λ k. take k (x ∷ xs)) e ∙ ap (λ l. x ∷ l) (take_more xs m n)

pub nothing_behind : {X : Type 0} (xs : List X) → xs ++ [] ≡ xs
nothing_behind [] = refl
nothing_behind (x ∷ xs) = ap (λ l. x ∷ l) (nothing_behind xs)

-- ---- what is read

pub members_read : (side : SideAbi) (x : List ℕ) (s : Shape) (ms : Members) (v : Value) (vs : List Value) (c d : List CoreValue) (bytes : List ℕ) → length c ≡ length (flat (width_of side) s) → ReadsAs side s v c bytes → ReadsMembersAs side ms vs d bytes
    → ReadsMembersAs side (typed x s ms) (v ∷ vs) (c ++ d) bytes
unfolding lift_members AreByForm
members_read side x s ms v vs c d bytes long r q = λ more.
    let behind : drop (length (flat (width_of side) s)) ((c ++ d) ++ more) ≡ d ++ more = ap (drop (length (flat (width_of side) s))) (append_assoc c d more) ∙ drop_front c (d ++ more) _ long in
    let before : take (length (flat (width_of side) s)) ((c ++ d) ++ more) ≡ c ++ [] = ap (take (length (flat (width_of side) s))) (append_assoc c d more) ∙ take_front c (d ++ more) _ long ∙ sym (nothing_behind c) in (
      ap (λ cs. lift_leading side bytes s cs >>= (λ w. lift_members side bytes ms (drop (length (flat (width_of side) s)) ((c ++ d) ++ more)) >>= (λ ws. Some (w ∷ ws)))) (append_assoc c d more)
          ∙ ap (λ o. o >>= (λ w. lift_members side bytes ms (drop (length (flat (width_of side) s)) ((c ++ d) ++ more)) >>= (λ ws. Some (w ∷ ws)))) (r (d ++ more)).0
          ∙ ap (λ cs. lift_members side bytes ms cs >>= (λ ws. Some (v ∷ ws))) behind ∙ ap (λ o. o >>= (λ ws. Some (v ∷ ws))) (q more).0,
      (subst (IsByForm side bytes s) (sym before) (r []).1, subst (AreByForm side bytes ms) (sym behind) (q more).1),
    )

pub bare_members_read : (side : SideAbi) (x : List ℕ) (ms : Members) (vs : List Value) (d : List CoreValue) (bytes : List ℕ) → ReadsMembersAs side ms vs d bytes → ReadsMembersAs side (bare x ms) vs d bytes
unfolding lift_members AreByForm
bare_members_read side x ms vs d bytes q = q

pub no_members_read : (side : SideAbi) (bytes : List ℕ) → ReadsMembersAs side no_members [] [] bytes
unfolding lift_members AreByForm
no_members_read side bytes = λ more. (refl, tt)

pub elements_read : (side : SideAbi) (s : Shape) (v : Value) (vs : List Value) (c d : List CoreValue) (bytes : List ℕ) → length c ≡ length (flat (width_of side) s) → ReadsAs side s v c bytes → ReadsEachAs side s vs d bytes → ReadsEachAs side s (v ∷ vs) (c ++ d) bytes
elements_read side s v vs c d bytes long r q = λ more.
    let n = length (flat (width_of side) s) in
    let lifts = λ (cs : List CoreValue). lift_leading side bytes s cs in
    let behind : drop n ((c ++ d) ++ more) ≡ d ++ more = ap (drop n) (append_assoc c d more) ∙ drop_front c (d ++ more) n long in
    let before : take n ((c ++ d) ++ more) ≡ c ++ [] = ap (take n) (append_assoc c d more) ∙ take_front c (d ++ more) n long ∙ sym (nothing_behind c) in (
      ap (λ cs. lift_leading side bytes s cs >>= (λ w. each_of (length vs) n lifts (drop n ((c ++ d) ++ more)) >>= (λ ws. Some (w ∷ ws)))) (append_assoc c d more)
          ∙ ap (λ o. o >>= (λ w. each_of (length vs) n lifts (drop n ((c ++ d) ++ more)) >>= (λ ws. Some (w ∷ ws)))) (r (d ++ more)).0
          ∙ ap (λ cs. each_of (length vs) n lifts cs >>= (λ ws. Some (v ∷ ws))) behind ∙ ap (λ o. o >>= (λ ws. Some (v ∷ ws))) (q more).0,
      (subst (IsByForm side bytes s) (sym before) (r []).1, subst (EachOf (length vs) n (λ cs. IsByForm side bytes s cs)) (sym behind) (q more).1),
    )

pub no_elements_read : (side : SideAbi) (s : Shape) (bytes : List ℕ) → ReadsEachAs side s [] [] bytes
no_elements_read side s bytes = λ more. (refl, tt)

-- ---- room

pub rooms_of_members : (side : SideAbi) (x : List ℕ) (s : Shape) (ms : Members) (v : Value) (vs : List Value) → own_rooms side (typed x s ms) (v ∷ vs) ≡ own_room side s v + own_rooms side ms vs
unfolding measured
rooms_of_members side x s ms v vs = refl

pub rooms_of_bare : (side : SideAbi) (x : List ℕ) (ms : Members) (vs : List Value) → own_rooms side (bare x ms) vs ≡ own_rooms side ms vs
unfolding measured
rooms_of_bare side x ms vs = refl

pub rooms_of_none : (side : SideAbi) (vs : List Value) → own_rooms side no_members vs ≡ 0
unfolding measured
rooms_of_none side vs = refl

-- ---- a walk over members

-- In front of the member of a place: the values, the slots and the room that are left for the others, and what the core values so far stand for
-- with those of the others behind them.
pub record LowersMembers (t : Tables) (side : SideAbi) (ms : Members) (types : List (Option InterfaceType)) (values : List Value) (slots : List FlatType) (low : ℕ) (before : List ℕ) (out : List CoreValue) (i taken at cursor : ℕ) (bytes : List ℕ) (now : List CoreValue) : Type 0 where
  pub rest : Members
  pub has : AreOf t (drop i types) rest
  pub are : AreMembers rest (drop taken values)
  pub wide : AreWideFor (flat_members (width_of side) rest) (drop at slots)
  pub few : at ≤ length slots
  pub most : ℕ
  pub rooms : own_rooms side ms values ≡ most + own_rooms side rest (drop taken values)
  pub done : IsLoweredTo (λ cs other. (ds : List CoreValue) → ReadsMembersAs side rest (drop taken values) ds other → ReadsMembersAs side ms values (cs ++ ds) other) (take at slots) low cursor most before bytes out now

-- The member of a place has a value and slots, and those behind it are left.
pub record MemberHere (t : Tables) (side : SideAbi) (types : List (Option InterfaceType)) (values : List Value) (slots : List FlatType) (i taken at : ℕ) (y : InterfaceType) (rest : Members) : Type 0 where
  pub name : List ℕ
  pub shape : Shape
  pub others : Members
  pub is : rest ≡ typed name shape others
  pub shaped : HasShape t y shape
  pub has : AreOf t (drop (suc i) types) others
  pub value : Value
  pub there : drop taken values ≡ value ∷ drop (suc taken) values
  pub is_a : IsA shape value
  pub are : AreMembers others (drop (suc taken) values)
  pub wide : BeginWideFor (flat (width_of side) shape) (drop at slots)
  pub others_wide : AreWideFor (flat_members (width_of side) others) (drop (length (flat (width_of side) shape)) (drop at slots))

drop_suc : {X : Type 0} (n : ℕ) (xs : List X) → drop (suc n) xs ≡ drop 1 (drop n xs)
drop_suc n xs = let e : suc n ≡ n + 1 = omega arith in ap (λ k. drop k xs) e ∙ sym (drop-drop 1 n xs)

member_there : (t : Tables) (side : SideAbi) (types : List (Option InterfaceType)) (values : List Value) (slots : List FlatType) (i taken at : ℕ) (y : InterfaceType) (rest : Members) (vs : List Value) → drop taken values ≡ vs → drop i types ≡ Some y ∷ drop (suc i) types
    → AreOf t (drop i types) rest → AreMembers rest vs → AreWideFor (flat_members (width_of side) rest) (drop at slots) → MemberHere t side types values slots i taken at y rest
unfolding IsA
member_there t side types values slots i taken at y rest vs left front has are wide =
    let p = split_typed t y (drop (suc i) types) rest (subst (λ l. AreOf t l rest) front has) in
    go p.name p.shape p.rest p.is p.shaped p.has vs left (subst (λ r. AreMembers r vs) p.is are) (subst (λ r. AreWideFor (flat_members (width_of side) r) (drop at slots)) p.is wide)
  where
    go : (x : List ℕ) (s : Shape) (ms : Members) → rest ≡ typed x s ms → HasShape t y s → AreOf t (drop (suc i) types) ms → (vs : List Value) → drop taken values ≡ vs → AreMembers (typed x s ms) vs → AreWideFor (flat_members (width_of side) (typed x s ms)) (drop at slots) → MemberHere t side types values slots i taken at y rest
    go x s ms is shaped has [] left are wide = absurd are
    go x s ms is shaped has (v ∷ vs) left are wide =
        let more : drop (suc taken) values ≡ vs = drop_suc taken values ∙ ap (drop 1) left in
        let begins = wide_begins _ _ wide in
        record {
          name = x;
          shape = s;
          others = ms;
          is = is;
          shaped = shaped;
          has = has;
          value = v;
          there = left ∙ ap (λ l. v ∷ l) (sym more);
          is_a = are.0;
          are = subst (AreMembers ms) (sym more) are.1;
          wide = wide_front (flat (width_of side) s) (flat_members (width_of side) ms) (drop at slots) begins;
          others_wide = wide_left (flat (width_of side) s) (flat_members (width_of side) ms) (drop at slots) wide;
        }

module _ {t : Tables} {side : SideAbi} {ms : Members} {types : List (Option InterfaceType)} {values : List Value} {slots : List FlatType} {low : ℕ} {before : List ℕ} {out : List CoreValue} {i taken at cursor : ℕ} {bytes : List ℕ} {now : List CoreValue}
    (g : LowersMembers t side ms types values slots low before out i taken at cursor bytes now) where
  -- the memory can be stored to still
  pub members_can : CanStore low before → CanStore cursor bytes
  members_can can = record { inside = g.done.written.rises.inside; short = subst (λ n. n < 2147483648) g.done.written.changed.same_length can.short }

  pub member_here : (y : InterfaceType) → drop i types ≡ Some y ∷ drop (suc i) types → MemberHere t side types values slots i taken at y g.rest
  member_here y front = member_there t side types values slots i taken at y g.rest (drop taken values) refl front g.has g.are g.wide

  -- a member without a type is passed over
  pub member_past : drop i types ≡ None ∷ drop (suc i) types → LowersMembers t side ms types values slots low before out (suc i) taken at cursor bytes now
  unfolding IsA
  member_past front =
      let p = split_bare t (drop (suc i) types) g.rest (subst (λ l. AreOf t l g.rest) front g.has) in
      record {
        rest = p.rest;
        has = p.has;
        are = subst (λ r. AreMembers r (drop taken values)) p.is g.are;
        wide = subst (λ r. AreWideFor (flat_members (width_of side) r) (drop at slots)) p.is g.wide;
        few = g.few;
        most = g.most;
        rooms = g.rooms ∙ ap (λ r. g.most + own_rooms side r (drop taken values)) p.is ∙ ap (λ n. g.most + n) (rooms_of_bare side p.name p.rest (drop taken values));
        done = also_lowered (λ cs other f ds r. f ds (subst (λ r. ReadsMembersAs side r (drop taken values) ds other) (sym p.is) (bare_members_read side p.name p.rest (drop taken values) ds other r))) g.done;
      }

  -- the value of a member was lowered
  pub member_on : (y : InterfaceType) (h : MemberHere t side types values slots i taken at y g.rest) (count at' cursor' : ℕ) (bytes' : List ℕ) (now' : List CoreValue) → count ≡ length (flat (width_of side) h.shape) → at' ≡ at + count
      → IsLowered side h.shape h.value (take count (drop at slots)) cursor cursor' bytes bytes' now now' → LowersMembers t side ms types values slots low before out (suc i) (suc taken) at' cursor' bytes' now'
  member_on y h count at' cursor' bytes' now' counted moved lowered =
      let w = wide_taken (flat (width_of side) h.shape) (drop at slots) h.wide in
      let left : drop count (drop at slots) ≡ drop at' slots = drop-drop count at slots ∙ ap (λ k. drop k slots) (sym moved) in
      let behind : drop (length (flat (width_of side) h.shape)) (drop at slots) ≡ drop at' slots = ap (λ k. drop k (drop at slots)) (sym counted) ∙ left in
      let here : take at' slots ≡ take at slots ++ take count (drop at slots) = ap (λ k. take k slots) moved ∙ take_more slots at count in
      let sum : own_rooms side ms values ≡ (g.most + own_room side h.shape h.value) + own_rooms side h.others (drop (suc taken) values) =
      g.rooms ∙ ap (λ r. g.most + own_rooms side r (drop taken values)) h.is ∙ ap (λ vs. g.most + own_rooms side (typed h.name h.shape h.others) vs) h.there
      ∙ ap (λ n. g.most + n) (rooms_of_members side h.name h.shape h.others h.value (drop (suc taken) values)) ∙ omega arith in
      record {
        rest = h.others;
        has = h.has;
        are = h.are;
        wide = subst (AreWideFor (flat_members (width_of side) h.others)) behind h.others_wide;
        few = omega (arith, moved, counted, h.wide.0, g.few, length-drop at slots);
        most = g.most + own_room side h.shape h.value;
        rooms = sum;
        done = subst (λ l. IsLoweredTo (λ cs other. (ds : List CoreValue) → ReadsMembersAs side h.others (drop (suc taken) values) ds other → ReadsMembersAs side ms values (cs ++ ds) other) l low cursor' (g.most + own_room side h.shape h.value) before bytes' out now') (sym here)
            (both_lowered (λ c d long other_long other f r ds q. subst (λ l. ReadsMembersAs side ms values l other) (sym (append_assoc c d ds))
            (f (d ++ ds) (subst (λ r. ReadsMembersAs side r (drop taken values) (d ++ ds) other) (sym h.is) (subst (λ vs. ReadsMembersAs side (typed h.name h.shape h.others) vs (d ++ ds) other) (sym h.there)
            (members_read side h.name h.shape h.others h.value (drop (suc taken) values) d ds other (other_long ∙ ap (λ k. length (take k (drop at slots))) counted ∙ sym w.0) r q))))) g.done lowered);
      }

-- at first nothing is lowered
pub members_start : (t : Tables) (side : SideAbi) (ms : Members) (types : List (Option InterfaceType)) (values : List Value) (slots : List FlatType) (low : ℕ) (bytes : List ℕ) (out : List CoreValue) → AreOf t types ms → AreMembers ms values
    → AreWideFor (flat_members (width_of side) ms) slots → low ≤ length bytes → LowersMembers t side ms types values slots low bytes out 0 0 0 low bytes out
members_start t side ms types values slots low bytes out has are wide inside = record {
  rest = ms;
  has = has;
  are = are;
  wide = wide;
  few = omega arith;
  most = 0;
  rooms = omega arith;
  done = none_lowered (λ other ds r. r) inside;
}

module _ {t : Tables} {side : SideAbi} {ms : Members} {types : List (Option InterfaceType)} {values : List Value} {slots : List FlatType} {low : ℕ} {before : List ℕ} {out : List CoreValue} {i taken at cursor : ℕ} {bytes : List ℕ} {now : List CoreValue}
    (g : LowersMembers t side ms types values slots low before out i taken at cursor bytes now) where
  -- all members are lowered
  pub members_done : length types ≤ i → IsLoweredTo (λ cs other. ReadsMembersAs side ms values cs other) slots low cursor (own_rooms side ms values) before bytes out now
  unfolding IsA
  members_done past = last g.rest (drop taken values) (drop at slots) refl (subst (λ l. AreOf t l g.rest) (drop_all i types past) g.has) g.are g.wide g.rooms g.done
    where
      all_taken : drop at slots ≡ [] → take at slots ≡ slots
      all_taken e = all slots at e
        where
          all : (fs : List FlatType) (n : ℕ) → drop n fs ≡ [] → take n fs ≡ fs
          all [] zero e = refl
          all [] (suc n) e = refl
          all (f ∷ fs) zero e = absurd (omega (arith, ap length e))
          all (f ∷ fs) (suc n) e = ap (λ l. f ∷ l) (all fs n e)

      last : (r : Members) (vs : List Value) (fs : List FlatType) → drop at slots ≡ fs → AreOf t [] r → AreMembers r vs → AreWideFor (flat_members (width_of side) r) fs → own_rooms side ms values ≡ g.most + own_rooms side r vs
          → IsLoweredTo (λ cs other. (ds : List CoreValue) → ReadsMembersAs side r vs ds other → ReadsMembersAs side ms values (cs ++ ds) other) (take at slots) low cursor g.most before bytes out now
          → IsLoweredTo (λ cs other. ReadsMembersAs side ms values cs other) slots low cursor (own_rooms side ms values) before bytes out now
      last no_members [] [] left h are wide rooms done =
          let all : own_rooms side ms values ≡ g.most = rooms ∙ ap (λ n. g.most + n) (rooms_of_none side []) ∙ omega arith in
          subst (λ n. IsLoweredTo (λ cs other. ReadsMembersAs side ms values cs other) slots low cursor n before bytes out now) (sym all)
          (subst (λ l. IsLoweredTo (λ cs other. ReadsMembersAs side ms values cs other) l low cursor g.most before bytes out now) (all_taken left)
          (also_lowered (λ cs other f. subst (λ l. ReadsMembersAs side ms values l other) (nothing_behind cs) (f [] (no_members_read side other))) done))
      last no_members [] (f ∷ fs) left h are wide rooms done = absurd (omega (arith, wide.0))
      last no_members (v ∷ vs) fs left h are wide rooms done = absurd are
      last (bare x r) vs fs left h are wide rooms done = absurd h
      last (typed x s r) vs fs left h are wide rooms done = absurd h

  -- one of them lacked room
  pub member_lacks : (y : InterfaceType) (h : MemberHere t side types values slots i taken at y g.rest) → LacksRoom cursor (own_room side h.shape h.value) bytes → LacksRoom low (own_rooms side ms values) before
  member_lacks y h lacks =
      let sum : own_rooms side ms values ≡ g.most + (own_room side h.shape h.value + own_rooms side h.others (drop (suc taken) values)) =
      g.rooms ∙ ap (λ r. g.most + own_rooms side r (drop taken values)) h.is ∙ ap (λ vs. g.most + own_rooms side (typed h.name h.shape h.others) vs) h.there
      ∙ ap (λ n. g.most + n) (rooms_of_members side h.name h.shape h.others h.value (drop (suc taken) values)) in
      omega (arith, sum, lacks, g.done.written.rises.few, g.done.written.changed.same_length)

-- ---- a walk over elements

-- In front of an element.
pub record LowersElements (side : SideAbi) (s : Shape) (values : List Value) (slots : List FlatType) (low : ℕ) (before : List ℕ) (out : List CoreValue) (i at cursor : ℕ) (bytes : List ℕ) (now : List CoreValue) : Type 0 where
  pub are : AllByRecursion (λ v. IsA s v) (drop i values)
  pub wide : AreWideFor (times (length (drop i values)) (flat (width_of side) s)) (drop at slots)
  pub few : at ≤ length slots
  pub most : ℕ
  pub rooms : sum_by (λ v. own_room side s v) values ≡ most + sum_by (λ v. own_room side s v) (drop i values)
  pub done : IsLoweredTo (λ cs other. (ds : List CoreValue) → ReadsEachAs side s (drop i values) ds other → ReadsEachAs side s values (cs ++ ds) other) (take at slots) low cursor most before bytes out now

pub elements_start : (side : SideAbi) (s : Shape) (values : List Value) (slots : List FlatType) (low : ℕ) (bytes : List ℕ) (out : List CoreValue) → AllByRecursion (λ v. IsA s v) values → AreWideFor (times (length values) (flat (width_of side) s)) slots → low ≤ length bytes
    → LowersElements side s values slots low bytes out 0 0 low bytes out
elements_start side s values slots low bytes out are wide inside = record {
  are = are;
  wide = wide;
  few = omega arith;
  most = 0;
  rooms = omega arith;
  done = none_lowered (λ other ds r. r) inside;
}

-- The element of a place.
pub record ElementHere (side : SideAbi) (s : Shape) (values : List Value) (slots : List FlatType) (i at : ℕ) (v : Value) : Type 0 where
  pub there : drop i values ≡ v ∷ drop (suc i) values
  pub is_a : IsA s v
  pub are : AllByRecursion (λ v. IsA s v) (drop (suc i) values)
  pub wide : BeginWideFor (flat (width_of side) s) (drop at slots)
  pub others_wide : AreWideFor (times (length (drop (suc i) values)) (flat (width_of side) s)) (drop (length (flat (width_of side) s)) (drop at slots))

module _ {side : SideAbi} {s : Shape} {values : List Value} {slots : List FlatType} {low : ℕ} {before : List ℕ} {out : List CoreValue} {i at cursor : ℕ} {bytes : List ℕ} {now : List CoreValue} (g : LowersElements side s values slots low before out i at cursor bytes now) where
  pub elements_can : CanStore low before → CanStore cursor bytes
  elements_can can = record { inside = g.done.written.rises.inside; short = subst (λ n. n < 2147483648) g.done.written.changed.same_length can.short }

  pub element_here : (v : Value) → slice_get values i ≡ Some v → ElementHere side s values slots i at v
  element_here v there =
      let front = slice_front values i v there in
      let are = subst (AllByRecursion (λ v. IsA s v)) front g.are in
      let wide = subst (λ vs. AreWideFor (times (length vs) (flat (width_of side) s)) (drop at slots)) front g.wide in
      let rest = times (length (drop (suc i) values)) (flat (width_of side) s) in
      record {
        there = front;
        is_a = are.0;
        are = are.1;
        wide = wide_front (flat (width_of side) s) rest (drop at slots) (wide_begins _ _ wide);
        others_wide = wide_left (flat (width_of side) s) rest (drop at slots) wide;
      }

  pub element_on : (v : Value) (h : ElementHere side s values slots i at v) (count at' cursor' : ℕ) (bytes' : List ℕ) (now' : List CoreValue) → count ≡ length (flat (width_of side) s) → at' ≡ at + count
      → IsLowered side s v (take count (drop at slots)) cursor cursor' bytes bytes' now now' → LowersElements side s values slots low before out (suc i) at' cursor' bytes' now'
  element_on v h count at' cursor' bytes' now' counted moved lowered =
      let w = wide_taken (flat (width_of side) s) (drop at slots) h.wide in
      let left : drop count (drop at slots) ≡ drop at' slots = drop-drop count at slots ∙ ap (λ k. drop k slots) (sym moved) in
      let behind : drop (length (flat (width_of side) s)) (drop at slots) ≡ drop at' slots = ap (λ k. drop k (drop at slots)) (sym counted) ∙ left in
      let here : take at' slots ≡ take at slots ++ take count (drop at slots) = ap (λ k. take k slots) moved ∙ take_more slots at count in
      let sum : sum_by (λ v. own_room side s v) values ≡ (g.most + own_room side s v) + sum_by (λ v. own_room side s v) (drop (suc i) values) =
      g.rooms ∙ ap (λ vs. g.most + sum_by (λ v. own_room side s v) vs) h.there ∙ ap (λ n. g.most + n) (sum_by-cons (λ v. own_room side s v) v (drop (suc i) values)) ∙ omega arith in
      record {
        are = h.are;
        wide = subst (AreWideFor (times (length (drop (suc i) values)) (flat (width_of side) s))) behind h.others_wide;
        few = omega (arith, moved, counted, h.wide.0, g.few, length-drop at slots);
        most = g.most + own_room side s v;
        rooms = sum;
        done = subst (λ l. IsLoweredTo (λ cs other. (ds : List CoreValue) → ReadsEachAs side s (drop (suc i) values) ds other → ReadsEachAs side s values (cs ++ ds) other) l low cursor' (g.most + own_room side s v) before bytes' out now') (sym here)
            (both_lowered (λ c d long other_long other f r ds q. subst (λ l. ReadsEachAs side s values l other) (sym (append_assoc c d ds))
            (f (d ++ ds) (subst (λ vs. ReadsEachAs side s vs (d ++ ds) other) (sym h.there)
            (elements_read side s v (drop (suc i) values) d ds other (other_long ∙ ap (λ k. length (take k (drop at slots))) counted ∙ sym w.0) r q)))) g.done lowered);
      }

  pub elements_done : length values ≤ i → IsLoweredTo (λ cs other. ReadsEachAs side s values cs other) slots low cursor (sum_by (λ v. own_room side s v) values) before bytes out now
  elements_done past = last (drop i values) (drop_all i values past) g.wide g.rooms g.done
    where
      all : (fs : List FlatType) (n : ℕ) → length (drop n fs) ≡ 0 → take n fs ≡ fs
      all [] zero e = refl
      all [] (suc n) e = refl
      all (f ∷ fs) zero e = absurd (omega (arith, e))
      all (f ∷ fs) (suc n) e = ap (λ l. f ∷ l) (all fs n e)

      last : (vs : List Value) → vs ≡ [] → AreWideFor (times (length vs) (flat (width_of side) s)) (drop at slots) → sum_by (λ v. own_room side s v) values ≡ g.most + sum_by (λ v. own_room side s v) vs
          → IsLoweredTo (λ cs other. (ds : List CoreValue) → ReadsEachAs side s vs ds other → ReadsEachAs side s values (cs ++ ds) other) (take at slots) low cursor g.most before bytes out now
          → IsLoweredTo (λ cs other. ReadsEachAs side s values cs other) slots low cursor (sum_by (λ v. own_room side s v) values) before bytes out now
      last [] e wide rooms done =
          let sum : sum_by (λ v. own_room side s v) values ≡ g.most = rooms ∙ omega arith in
          subst (λ n. IsLoweredTo (λ cs other. ReadsEachAs side s values cs other) slots low cursor n before bytes out now) (sym sum)
          (subst (λ l. IsLoweredTo (λ cs other. ReadsEachAs side s values cs other) l low cursor g.most before bytes out now) (all slots at (sym wide.0))
          (also_lowered (λ cs other f. subst (λ l. ReadsEachAs side s values l other) (nothing_behind cs) (f [] (no_elements_read side s other))) done))
      last (v ∷ vs) e wide rooms done = absurd (omega (arith, ap length e))

  pub element_lacks : (v : Value) (h : ElementHere side s values slots i at v) → LacksRoom cursor (own_room side s v) bytes → LacksRoom low (sum_by (λ v. own_room side s v) values) before
  element_lacks v h lacks =
      let sum : sum_by (λ v. own_room side s v) values ≡ g.most + (own_room side s v + sum_by (λ v. own_room side s v) (drop (suc i) values)) =
      g.rooms ∙ ap (λ vs. g.most + sum_by (λ v. own_room side s v) vs) h.there ∙ ap (λ n. g.most + n) (sum_by-cons (λ v. own_room side s v) v (drop (suc i) values)) in
      omega (arith, sum, lacks, g.done.written.rises.few, g.done.written.changed.same_length)
