-- How tuples are lowered: as core values, or behind a pointer.
use Rattle.std.proofs.Common.{◌≡◌, ℕ, zero, suc, ◌+◌, ◌<◌, ◌≤◌, List, [], ◌∷◌, ◌++◌, length, map, take, drop, Option, Some, None, refl, sym, ap, ◌∙◌, subst, arith, add-one, append_assoc}
use Rattle.std.specs.Prelude.{slice_get, nat_le, ◌&&◌, if◌then◌else◌, Bool, true, false}
use Rattle.std.specs.List.{AllZip}
use Rattle.std.proofs.lemmas.Bool.{leb-true}
use Rattle.fact_machine.specs.Machine.{has_type}
use Rattle.fact_machine.specs.Typed.{IsValue}
use Rattle.fact_machine.specs.declared.types.CoreValue.{CoreValue}
use Rattle.fact_machine.specs.declared.types.CoreValue.TheVariants as core
use Rattle.fact_types.specs.declared.flats.FlatType.{FlatType}
use Rattle.fact_types.specs.declared.flats.FlatType.TheVariants.{I32, I64, F32, F64}
use Rattle.fact_types.specs.declared.interface.InterfaceType.{InterfaceType}
use Rattle.fact_types.specs.declared.extents.MemoryWidth.{MemoryWidth}
use Rattle.fact_types.specs.Agrees.{chosen}
use Rattle.fact_types.specs.Flat.{value_type}
use Rattle.fact_types.specs.FlatShapes.{after_flat, flat, flat_each, flat_types}
use Rattle.fact_types.specs.Functions.{HaveShapes}
use Rattle.fact_types.specs.Shapes.{Shape}
use Rattle.fact_types.specs.Options.{◌>>=◌}
use Rattle.fact_types.specs.Tables.{Tables}
use Rattle.fact_types.specs.Tuples.{members_from, tuple_members}
use Rattle.fact_types.proofs.JoinLaws.{joined_same}
use Rattle.fact_types.proofs.ShapeLaws.{same_some, none_some}
use Rattle.fact_values.specs.declared.side.SideAbi.{SideAbi}
use Rattle.fact_values.specs.declared.value.Value.{Value}
use Rattle.fact_values.specs.IsA.{IsA, AreMembers}
use Rattle.fact_values.specs.Lift.{can_stand, can_stand_all, lift, lift_leading}
use Rattle.fact_values.specs.Places.{width_of}
use Rattle.fact_values.specs.Tuples.{lift_all}
use Rattle.fact_lowering.specs.CoreSteps.{IsLowerable, LoweredOr}
use Rattle.fact_lowering.specs.Lowered.{AreWideFor, CanStore, IsLowered, IsLoweredTo, LacksRoom, ReadsAs, own_room, own_rooms}
use Rattle.fact_lowering.specs.TextForms.{AreByForm, IsByForm}
use Rattle.fact_lowering.specs.TupleSteps.{ReadsTuple}
use Rattle.fact_lowering.proofs.CoreMembers.{drop_front, nothing_behind, rooms_of_members, rooms_of_none, take_front}
use Rattle.fact_lowering.proofs.CoreWrites.{also_lowered, also_written, as_many_cores, both_lowered, none_lowered}
use Rattle.fact_lowering.proofs.TupleExtents.{ShapeHere, shapes_past}
use Rattle.fact_lowering.proofs.TupleLifts.{flats_are}

-- ---- core values of the flat types of a type can stand for it

stands_itself : (c : CoreValue) (f : FlatType) → has_type c (value_type f) ≡ true → can_stand f c ≡ true
stands_itself (core.I32 n) I32 h = refl
stands_itself (core.I32 n) I64 h = absurd (cc)
stands_itself (core.I32 n) F32 h = absurd (cc)
stands_itself (core.I32 n) F64 h = absurd (cc)
stands_itself (core.I64 n) I32 h = absurd (cc)
stands_itself (core.I64 n) I64 h = refl
stands_itself (core.I64 n) F32 h = absurd (cc)
stands_itself (core.I64 n) F64 h = absurd (cc)
stands_itself (core.F32 n) I32 h = absurd (cc)
stands_itself (core.F32 n) I64 h = absurd (cc)
stands_itself (core.F32 n) F32 h = refl
stands_itself (core.F32 n) F64 h = absurd (cc)
stands_itself (core.F64 n) I32 h = absurd (cc)
stands_itself (core.F64 n) I64 h = absurd (cc)
stands_itself (core.F64 n) F32 h = absurd (cc)
stands_itself (core.F64 n) F64 h = refl
stands_itself (core.Func g) I32 h = absurd (cc)
stands_itself (core.Func g) I64 h = absurd (cc)
stands_itself (core.Func g) F32 h = absurd (cc)
stands_itself (core.Func g) F64 h = absurd (cc)

pub all_stand : (cs : List CoreValue) (fs : List FlatType) → AllZip (λ c t. IsValue c t) cs (map value_type fs) → can_stand_all fs cs ≡ true
all_stand [] [] h = refl
all_stand [] (f ∷ fs) h = absurd h
all_stand (c ∷ cs) [] h = absurd h
all_stand (c ∷ cs) (f ∷ fs) h = (λ i. stands_itself c f h.0.0 i && all_stand cs fs h.1 i)

-- one value of a tuple, and those behind it
pub tuple_read : (side : SideAbi) (n : ℕ) (s : Shape) (ss : List Shape) (v : Value) (vs : List Value) (c d : List CoreValue) (bytes : List ℕ) → Some (flat (width_of side) s) ≡ flat_types (width_of side) s → AllZip (λ c t. IsValue c t) c (map value_type (flat (width_of side) s))
    → ReadsAs side s v c bytes → ReadsTuple side (suc n) ss vs d bytes → ReadsTuple side n (s ∷ ss) (v ∷ vs) (c ++ d) bytes
unfolding AreByForm
tuple_read side n s ss v vs c d bytes flats typed r q =
    let long : length c ≡ length (flat (width_of side) s) = as_many_cores c (flat (width_of side) s) typed in
    let before : take (length (flat (width_of side) s)) (c ++ d) ≡ c = take_front c d _ long in
    let behind : drop (length (flat (width_of side) s)) (c ++ d) ≡ d = drop_front c d _ long in
    let whole : c ++ [] ≡ c = nothing_behind c in
    let here : lift side bytes s c ≡ Some v =
    ap (λ o. o >>= (λ fs. if can_stand_all fs c then lift_leading side bytes s c else None)) (sym flats)
    ∙ ap (λ (b : Bool). if b then lift_leading side bytes s c else None) (all_stand c (flat (width_of side) s) typed) ∙ ap (lift_leading side bytes s) (sym whole) ∙ (r []).0 in (
      ap (λ cs. lift side bytes s cs >>= (λ w. lift_all side bytes ss (drop (length (flat (width_of side) s)) (c ++ d)) >>= (λ ws. Some (w ∷ ws)))) before
          ∙ ap (λ o. o >>= (λ w. lift_all side bytes ss (drop (length (flat (width_of side) s)) (c ++ d)) >>= (λ ws. Some (w ∷ ws)))) here
          ∙ ap (λ cs. lift_all side bytes ss cs >>= (λ ws. Some (v ∷ ws))) behind ∙ ap (λ o. o >>= (λ ws. Some (v ∷ ws))) q.0,
      (subst (IsByForm side bytes s) (whole ∙ sym before) (r []).1, subst (AreByForm side bytes (members_from (suc n) ss)) (sym behind) q.1),
    )

-- ---- values one by one

pub flats_on : (w : MemoryWidth) (flats fs : List FlatType) (o : Option (List FlatType)) → after_flat (Some flats) (after_flat (Some fs) o) ≡ after_flat (Some (flats ++ fs)) o
flats_on w flats fs None = refl
flats_on w flats fs (Some gs) = ap Some (sym (append_assoc flats fs gs))

-- In front of a type: what the core values so far stand for with those of the others behind them, and the room that is left for them.
pub record LowersTuple (side : SideAbi) (ss : List Shape) (values : List Value) (low : ℕ) (before : List ℕ) (i cursor : ℕ) (bytes : List ℕ) (now : List CoreValue) : Type 0 where
  pub from : ℕ
  pub are : AreMembers (members_from from (drop i ss)) (drop i values)
  pub flats : List FlatType
  pub each : flat_each (width_of side) ss ≡ after_flat (Some flats) (flat_each (width_of side) (drop i ss))
  pub most : ℕ
  pub rooms : own_rooms side (tuple_members ss) values ≡ most + own_rooms side (members_from from (drop i ss)) (drop i values)
  pub done : IsLoweredTo (λ cs other. (ds : List CoreValue) → ReadsTuple side from (drop i ss) (drop i values) ds other → ReadsTuple side 0 ss values (cs ++ ds) other) flats low cursor most before bytes [] now

pub tuple_starts : (side : SideAbi) (ss : List Shape) (values : List Value) (low : ℕ) (before : List ℕ) (now : List CoreValue) → now ≡ [] → AreMembers (tuple_members ss) values → low ≤ length before → LowersTuple side ss values low before 0 low before now
tuple_starts side ss values low before now none are inside = record {
  from = 0;
  are = are;
  flats = [];
  each = nothing_before (flat_each (width_of side) ss);
  most = 0;
  rooms = omega arith;
  done = subst (λ l. IsLoweredTo (λ cs other. (ds : List CoreValue) → ReadsTuple side 0 ss values ds other → ReadsTuple side 0 ss values (cs ++ ds) other) [] low low 0 before before [] l) (sym none) (none_lowered (λ other ds r. r) inside);
}
  where
    nothing_before : (o : Option (List FlatType)) → o ≡ after_flat (Some []) o
    nothing_before None = refl
    nothing_before (Some fs) = refl

-- The value of a type, and those behind it.
pub record TupleHere (side : SideAbi) (ss : List Shape) (values : List Value) (i from : ℕ) (s : Shape) : Type 0 where
  pub value : Value
  pub there : drop i values ≡ value ∷ drop (suc i) values
  pub is : IsA s value
  pub are : AreMembers (members_from (suc from) (drop (suc i) ss)) (drop (suc i) values)

rest_of : {X : Type 0} (i : ℕ) (xs : List X) (x : X) (ys : List X) → drop i xs ≡ x ∷ ys → drop (suc i) xs ≡ ys
rest_of zero [] x ys e = absurd (omega (arith, ap length e))
rest_of zero (z ∷ xs) x ys e = ap (drop 1) e
rest_of (suc i) [] x ys e = absurd (omega (arith, ap length e))
rest_of (suc i) (z ∷ xs) x ys e = rest_of i xs x ys e

module _ {t : Tables} {tys : List InterfaceType} {side : SideAbi} {ss : List Shape} {values : List Value} {low : ℕ} {before : List ℕ} {i cursor : ℕ} {bytes : List ℕ} {now : List CoreValue} {y : InterfaceType} (g : LowersTuple side ss values low before i cursor bytes now) (h : ShapeHere t tys ss i y) where
  pub tuple_here : TupleHere side ss values i g.from h.shape
  unfolding IsA
  tuple_here = go (drop i values) refl (subst (λ l. AreMembers (members_from g.from l) (drop i values)) h.front g.are)
    where
      go : (vs : List Value) → drop i values ≡ vs → AreMembers (members_from g.from (h.shape ∷ drop (suc i) ss)) (drop i values) → TupleHere side ss values i g.from h.shape
      go [] left are = absurd (subst (AreMembers (members_from g.from (h.shape ∷ drop (suc i) ss))) left are)
      go (v ∷ vs) left are =
          let both = subst (AreMembers (members_from g.from (h.shape ∷ drop (suc i) ss))) left are in
          let more = rest_of i values v vs left in
          record { value = v; there = left ∙ ap (λ l. v ∷ l) (sym more); is = both.0; are = subst (AreMembers (members_from (suc g.from) (drop (suc i) ss))) (sym more) both.1 }

  pub tuple_can : CanStore low before → CanStore cursor bytes
  tuple_can can = record { inside = g.done.written.rises.inside; short = subst (λ n. n < 2147483648) g.done.written.changed.same_length can.short }

  -- the value of the type is there, and can be lowered to its own flat types
  value_at : (v : Value) → slice_get values i ≡ Some v → tuple_here.value ≡ v
  value_at v there = same_some (slice_get (drop i values) 0) tuple_here.value v (ap (λ l. slice_get l 0) tuple_here.there) (first i values ∙ there)
    where
      first : (i : ℕ) (xs : List Value) → slice_get (drop i xs) 0 ≡ slice_get xs i
      first zero [] = refl
      first zero (x ∷ xs) = refl
      first (suc i) [] = refl
      first (suc i) (x ∷ xs) = first i xs

  pub tuple_value : {X : Type 0} → slice_get values i ≡ None → X
  tuple_value none = absurd (none_some (slice_get values i) tuple_here.value none (sym (first i values) ∙ ap (λ l. slice_get l 0) tuple_here.there))
    where
      first : (i : ℕ) (xs : List Value) → slice_get (drop i xs) 0 ≡ slice_get xs i
      first zero [] = refl
      first zero (x ∷ xs) = refl
      first (suc i) [] = refl
      first (suc i) (x ∷ xs) = first i xs

  pub tuple_lowerable : (fs : List FlatType) (v : Value) → Some fs ≡ flat_types (width_of side) h.shape → slice_get values i ≡ Some v → CanStore low before → IsLowerable t side y v fs cursor bytes
  tuple_lowerable fs v there found can =
      let same : fs ≡ flat (width_of side) h.shape = flats_are 16 (flat (width_of side) h.shape) fs there in
      record {
        shape = h.shape;
        shaped = h.shaped;
        is = subst (IsA h.shape) (value_at v found) tuple_here.is;
        wide = subst (AreWideFor (flat (width_of side) h.shape)) (sym same) (refl, joined_same (flat (width_of side) h.shape));
        few = subst (λ l. length l ≤ 16) (sym same) (few (nat_le (length (flat (width_of side) h.shape)) 16) refl there);
        can = tuple_can can;
      }
    where
      few : (b : Bool) → nat_le (length (flat (width_of side) h.shape)) 16 ≡ b → Some fs ≡ (if b then Some (flat (width_of side) h.shape) else None) → length (flat (width_of side) h.shape) ≤ 16
      few true p e = leb-true (length (flat (width_of side) h.shape)) 16 p
      few false p e = absurd (none_some None fs refl (sym e))

  sum : own_rooms side (tuple_members ss) values ≡ g.most + (own_room side h.shape tuple_here.value + own_rooms side (members_from (suc g.from) (drop (suc i) ss)) (drop (suc i) values))
  sum = g.rooms ∙ ap (λ l. g.most + own_rooms side (members_from g.from l) (drop i values)) h.front ∙ ap (λ vs. g.most + own_rooms side (members_from g.from (h.shape ∷ drop (suc i) ss)) vs) tuple_here.there
      ∙ ap (λ n. g.most + n) (rooms_of_members side (g.from ∷ []) h.shape (members_from (suc g.from) (drop (suc i) ss)) tuple_here.value (drop (suc i) values))

  pub tuple_on : (fs : List FlatType) (v : Value) (cursor' : ℕ) (bytes' : List ℕ) (now' : List CoreValue) → Some fs ≡ flat_types (width_of side) h.shape → slice_get values i ≡ Some v → IsLowered side h.shape v fs cursor cursor' bytes bytes' now now'
      → LowersTuple side ss values low before (i + 1) cursor' bytes' now'
  tuple_on fs v cursor' bytes' now' there found l =
      let same : fs ≡ flat (width_of side) h.shape = flats_are 16 (flat (width_of side) h.shape) fs there in
      let flats : Some (flat (width_of side) h.shape) ≡ flat_types (width_of side) h.shape = ap Some (sym same) ∙ there in
      let own : IsLowered side h.shape tuple_here.value (flat (width_of side) h.shape) cursor cursor' bytes bytes' now now' =
      subst (λ w. IsLowered side h.shape w (flat (width_of side) h.shape) cursor cursor' bytes bytes' now now') (sym (value_at v found)) (subst (λ fs. IsLowered side h.shape v fs cursor cursor' bytes bytes' now now') same l) in
      let typed : IsLoweredTo (λ cs other. ReadsAs side h.shape tuple_here.value cs other × AllZip (λ c t. IsValue c t) cs (map value_type (flat (width_of side) h.shape))) (flat (width_of side) h.shape) cursor cursor' (own_room side h.shape tuple_here.value) bytes bytes' now now' =
      with_types own in
      let next : LowersTuple side ss values low before (suc i) cursor' bytes' now' = record {
        from = suc g.from;
        are = tuple_here.are;
        flats = g.flats ++ flat (width_of side) h.shape;
        each = g.each ∙ ap (λ l. after_flat (Some g.flats) (flat_each (width_of side) l)) h.front ∙ ap (λ o. after_flat (Some g.flats) (after_flat o (flat_each (width_of side) (drop (suc i) ss)))) (sym flats)
            ∙ flats_on (width_of side) g.flats (flat (width_of side) h.shape) (flat_each (width_of side) (drop (suc i) ss));
        most = g.most + own_room side h.shape tuple_here.value;
        rooms = sum ∙ omega arith;
        done = both_lowered (λ c d long other_long other f r ds q. subst (λ l. ReadsTuple side 0 ss values l other) (sym (append_assoc c d ds))
            (f (d ++ ds) (subst (λ l. ReadsTuple side g.from l (drop i values) (d ++ ds) other) (sym h.front) (subst (λ vs. ReadsTuple side g.from (h.shape ∷ drop (suc i) ss) vs (d ++ ds) other) (sym tuple_here.there)
            (tuple_read side g.from h.shape (drop (suc i) ss) tuple_here.value (drop (suc i) values) d ds other flats r.1 r.0 q))))) g.done typed;
      } in
      subst (λ k. LowersTuple side ss values low before k cursor' bytes' now') (sym (add-one i)) next
    where
      with_types : {R : List CoreValue → List ℕ → Type 0} {fs : List FlatType} {low high most : ℕ} {x y : List ℕ} {o o' : List CoreValue} → IsLoweredTo R fs low high most x y o o' → IsLoweredTo (λ cs other. R cs other × AllZip (λ c t. IsValue c t) cs (map value_type fs)) fs low high most x y o o'
      with_types {R} {fs} {low} {high} {most} {x} {y} {o} {o'} v = record { cores = v.cores; pushed = v.pushed; typed = v.typed; written = also_written (λ other r. (r, v.typed)) v.written }

  pub tuple_lacks : (v : Value) → slice_get values i ≡ Some v → LacksRoom cursor (own_room side h.shape v) bytes → LacksRoom low (own_rooms side (tuple_members ss) values) before
  tuple_lacks v found l =
      let here : LacksRoom cursor (own_room side h.shape tuple_here.value) bytes = subst (λ w. LacksRoom cursor (own_room side h.shape w) bytes) (sym (value_at v found)) l in
      omega (arith, sum, here, g.done.written.rises.few, g.done.written.changed.same_length)

  -- by what lowering answered
  pub tuple_next : (fs : List FlatType) (v : Value) (done : Bool) (cursor' : ℕ) (bytes' : List ℕ) (now' : List CoreValue) → Some fs ≡ flat_types (width_of side) h.shape → slice_get values i ≡ Some v → done ≡ true → LoweredOr t side y v fs done cursor cursor' bytes bytes' now now'
      → LowersTuple side ss values low before (i + 1) cursor' bytes' now'
  tuple_next fs v done cursor' bytes' now' there found met l =
      tuple_on fs v cursor' bytes' now' there found (subst (λ b. chosen b (IsLowered side h.shape v fs cursor cursor' bytes bytes' now now') (LacksRoom cursor (own_room side h.shape v) bytes)) met (l h.shape h.shaped))

  pub tuple_fails : (slots : List FlatType) (v : Value) (done : Bool) (cursor' : ℕ) (bytes' : List ℕ) (now' : List CoreValue) → slice_get values i ≡ Some v → done ≡ false → LoweredOr t side y v slots done cursor cursor' bytes bytes' now now' → LacksRoom low (own_rooms side (tuple_members ss) values) before
  tuple_fails slots v done cursor' bytes' now' found unmet l =
      tuple_lacks v found (subst (λ b. chosen b (IsLowered side h.shape v slots cursor cursor' bytes bytes' now now') (LacksRoom cursor (own_room side h.shape v) bytes)) unmet (l h.shape h.shaped))

  -- a type that has no flat types leaves the tuple none
  pub tuple_flats : {X : Type 0} (fs : List FlatType) → flat_each (width_of side) ss ≡ Some fs → None ≡ flat_types (width_of side) h.shape → X
  tuple_flats fs each none =
      absurd (none_some (flat_each (width_of side) ss) fs (g.each ∙ ap (λ l. after_flat (Some g.flats) (flat_each (width_of side) l)) h.front ∙ ap (λ o. after_flat (Some g.flats) (after_flat o (flat_each (width_of side) (drop (suc i) ss)))) (sym none)) each)

-- all of them
pub tuple_done : (t : Tables) (tys : List InterfaceType) {side : SideAbi} {ss : List Shape} {values : List Value} {low : ℕ} {before : List ℕ} {i cursor : ℕ} {bytes : List ℕ} {now : List CoreValue} → LowersTuple side ss values low before i cursor bytes now → HaveShapes t tys ss → length tys ≤ i
    → (fs : List FlatType) → flat_each (width_of side) ss ≡ Some fs → IsLoweredTo (λ cs other. ReadsTuple side 0 ss values cs other) fs low cursor (own_rooms side (tuple_members ss) values) before bytes [] now
unfolding IsA AreByForm
tuple_done t tys {side} {ss} {values} {low} {before} {i} {cursor} {bytes} {now} g h past fs each =
    let none : drop i ss ≡ [] = shapes_past t tys ss i h past in
    let all : g.flats ≡ fs = ends g.flats fs (sym each ∙ g.each ∙ ap (λ l. after_flat (Some g.flats) (flat_each (width_of side) l)) none) in
    let left : drop i values ≡ [] = no_values (drop i values) (subst (λ l. AreMembers (members_from g.from l) (drop i values)) none g.are) in
    let rooms : own_rooms side (tuple_members ss) values ≡ g.most = g.rooms ∙ (λ j. g.most + own_rooms side (members_from g.from (none j)) (left j)) ∙ ap (λ n. g.most + n) (rooms_of_none side []) ∙ omega arith in
    subst (λ n. IsLoweredTo (λ cs other. ReadsTuple side 0 ss values cs other) fs low cursor n before bytes [] now) (sym rooms)
    (subst (λ l. IsLoweredTo (λ cs other. ReadsTuple side 0 ss values cs other) l low cursor g.most before bytes [] now) all
    (also_lowered (λ cs other f. subst (λ l. ReadsTuple side 0 ss values l other) (nothing_behind cs)
    (f [] (subst (λ l. ReadsTuple side g.from l (drop i values) [] other) (sym none) (subst (λ vs. ReadsTuple side g.from [] vs [] other) (sym left) (refl, tt))))) g.done))
  where
    ends : (xs ys : List FlatType) → Some ys ≡ Some (xs ++ []) → xs ≡ ys
    ends xs ys e = sym (nothing_behind xs) ∙ sym (same_some (Some ys) ys (xs ++ []) refl e)

    no_values : (vs : List Value) → AreMembers (members_from g.from []) vs → vs ≡ []
    no_values [] a = refl
    no_values (v ∷ vs) a = absurd a
