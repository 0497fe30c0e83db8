-- The members of a tuple are those of its types: what holds of the types holds of them, and by place is by name.
use Rattle.std.proofs.Common.{◌≡◌, ℕ, zero, suc, ◌+◌, List, [], ◌∷◌, ◌++◌, length, Option, Some, None, refl, sym, ap, ◌∙◌, subst, arith, append-nil, append_assoc}
use Rattle.std.specs.Prelude.{slice_get}
use Rattle.std.specs.List.{zip, AllByRecursion}
use Rattle.fact_types.specs.Agrees.{names_of, AgreesFields, AgreesPlaces}
use Rattle.fact_types.specs.Shapes.{Shape}
use Rattle.fact_types.specs.Valid.{IsValid, AreDistinct}
use Rattle.fact_types.proofs.ShapeLaws.{same_some, none_some}
use Rattle.fact_machine.specs.declared.types.CoreValue.{CoreValue}
use Rattle.fact_machine.specs.World.{World}
use Rattle.fact_types.specs.Tuples.{members_from, tuple_members}
use Rattle.fact_actions.specs.Running.{Call}
use Rattle.fact_actions.specs.Sides.{Target}
use Rattle.fact_values.specs.declared.side.SideAbi.{SideAbi}
use Rattle.fact_values.specs.declared.value.Value.{Value}
use Rattle.fact_values.specs.Carry.{take_number, handles}
use Rattle.fact_values.specs.Handles.{cross, cross_fields, cross_places, then_step, done_step}
use Rattle.fact_values.specs.IsA.{AreMembers}
use Rattle.fact_values.specs.Places.{typed_names}
use Rattle.fact_values.specs.Weight.{weight_members}
use Rattle.fact_action_laws.specs.Faithful.{AreCarried, all_handles, IsTransferred}
use Rattle.fact_action_laws.specs.Items.{items, items_fields, items_places, crossing, crossings, number_if, numbers}
use Rattle.fact_action_laws.specs.MoveTerms.{AreTyped, ArePlaces, IsWellFormed, AreWellFormed}
use Rattle.fact_action_laws.specs.Places.{to_side}
use Rattle.fact_actions.specs.Regions.{Region}
use Rattle.fact_action_laws.specs.Regions.{TransferSetting}
use Rattle.fact_action_laws.proofs.Crossed.{handles_in, handles_append, told_crossings, handles_are}
use Rattle.fact_action_laws.proofs.MoveLaws.{AreMoved, fields_weight}
use Rattle.fact_action_laws.proofs.Plain.{both}
use Rattle.fact_action_laws.proofs.Regional.{no_numbers}
use Rattle.fact_action_laws.proofs.Telling.{crossings_append}
use Rattle.fact_action_laws.proofs.Theorem.{AreValid, places_names}
use Rattle.fact_action_laws.proofs.Tuples.{places_fields, crosses_alike, items_alike, weighs_alike}

-- ---- what holds of the types

pub members_typed : (n : ℕ) (ss : List Shape) → AreTyped (members_from n ss)
members_typed n [] = tt
members_typed n (s ∷ ss) = members_typed (suc n) ss

pub members_placed : (n : ℕ) (ss : List Shape) → ArePlaces n (names_of (members_from n ss))
members_placed n [] = tt
members_placed n (s ∷ ss) = let e : suc n ≡ 1 + n = omega arith in (refl, subst (λ k. ArePlaces k (names_of (members_from (suc n) ss))) e (members_placed (suc n) ss))

pub members_formed : (n : ℕ) (ss : List Shape) → AllByRecursion IsWellFormed ss → AreWellFormed (members_from n ss)
members_formed n [] h = tt
members_formed n (s ∷ ss) h = (h.0, members_formed (suc n) ss h.1)

pub members_valid : (n : ℕ) (ss : List Shape) → AllByRecursion IsValid ss → AreValid (members_from n ss)
members_valid n [] h = tt
members_valid n (s ∷ ss) h = (h.0, members_valid (suc n) ss h.1)

-- ---- names

-- the name at a place is that place
name_at : (n : ℕ) (ss : List Shape) (i : ℕ) (x : List ℕ) → slice_get (names_of (members_from n ss)) i ≡ Some x → x ≡ (n + i) ∷ []
name_at n [] i x h = absurd (none_some None x refl h)
name_at n (s ∷ ss) zero x h = same_some (Some x) x (n ∷ []) refl (sym h) ∙ ap (λ k. k ∷ []) (let e : n ≡ n + 0 = omega arith in e)
name_at n (s ∷ ss) (suc i) x h = name_at (suc n) ss i x h ∙ ap (λ k. k ∷ []) (let e : suc n + i ≡ n + suc i = omega arith in e)

abbrev head_of : List ℕ → ℕ
head_of [] = 0
head_of (x ∷ xs) = x

pub names_distinct : (n : ℕ) (ss : List Shape) → AreDistinct (names_of (members_from n ss))
names_distinct n ss i j x h k = let e : n + i ≡ n + j = ap head_of (sym (name_at n ss i x h) ∙ name_at n ss j x k) in omega (arith, e)

module _ (ss ds : List Shape) (agree : AgreesPlaces (tuple_members ss) (tuple_members ds)) where
  pub names_same : names_of (tuple_members ss) ≡ names_of (tuple_members ds)
  names_same = places_names 0 (tuple_members ss) (tuple_members ds) agree (members_placed 0 ss) (members_placed 0 ds)

  -- Tuples that agree by place agree by name.
  pub fields_agree : AgreesFields (tuple_members ss) (tuple_members ds)
  fields_agree = places_fields (tuple_members ss) (tuple_members ds) agree names_same (names_distinct 0 ds) (members_typed 0 ss)

  module _ (vs : List Value) (long : length vs ≡ length (typed_names (tuple_members ss))) where
    pub crosses_placed : (ns : List ℕ) → cross_fields take_number (tuple_members ss) (zip (typed_names (tuple_members ss)) vs) (tuple_members ds) ns ≡ cross_places take_number (tuple_members ss) vs (tuple_members ds) ns
    crosses_placed = crosses_alike (tuple_members ss) (tuple_members ds) vs names_same (names_distinct 0 ds) (members_typed 0 ss) (members_typed 0 ds) long

    pub items_placed : (side : SideAbi) → items_fields side (tuple_members ss) (zip (typed_names (tuple_members ss)) vs) (tuple_members ds) ≡ items_places side (tuple_members ss) vs (tuple_members ds)
    items_placed side = items_alike side (tuple_members ss) (tuple_members ds) vs names_same (names_distinct 0 ds) (members_typed 0 ss) (members_typed 0 ds) long

    pub weighs_placed : fields_weight (tuple_members ss) (zip (typed_names (tuple_members ss)) vs) (tuple_members ds) ≡ weight_members (tuple_members ss) vs
    weighs_placed = weighs_alike (tuple_members ss) (tuple_members ds) vs names_same (names_distinct 0 ds) (members_typed 0 ss) (members_typed 0 ds) long

-- ---- handles

-- The handles of values that cross are those that their items tell.
pub handles_placed : (side : SideAbi) (n : ℕ) (ss ds : List Shape) (vs : List Value) (s : List ℕ) (r : List Value × List ℕ) → cross_places take_number (members_from n ss) vs (members_from n ds) s ≡ Some r
    → handles_in (items_places side (members_from n ss) vs (members_from n ds)) ≡ all_handles ss ds vs
unfolding cross_places items_places
handles_placed side n [] [] vs s r h = refl
handles_placed side n [] (d ∷ ds) vs s r h = absurd (none_some None r refl h)
handles_placed side n (t ∷ ss) [] [] s r h = absurd (none_some None r refl h)
handles_placed side n (t ∷ ss) [] (v ∷ vs) s r h = absurd (none_some None r refl h)
handles_placed side n (t ∷ ss) (d ∷ ds) [] s r h = absurd (none_some None r refl h)
handles_placed side n (t ∷ ss) (d ∷ ds) (v ∷ vs) s r h =
    let F = cross_places take_number (members_from (suc n) ss) vs (members_from (suc n) ds) in
    let a = both (cross take_number t d v s) (λ y. then_step F (λ us. done_step (y.0 ∷ us)) y.1) r h in
    let b = both (F a.mid.1) (λ y. done_step (a.mid.0 ∷ y.0) y.1) r a.last in
    handles_append (items side t d v) (items_places side (members_from (suc n) ss) vs (members_from (suc n) ds))
    ∙ ap (λ l. l ++ handles_in (items_places side (members_from (suc n) ss) vs (members_from (suc n) ds))) (sym (handles_are side d t v s a.mid a.first))
    ∙ ap (λ l. handles t d v ++ l) (handles_placed side (suc n) ss ds vs a.mid.1 b.mid b.first)

-- ---- numbers

numbers_append : (cs ds : List Call) → numbers (cs ++ ds) ≡ numbers cs ++ numbers ds
numbers_append [] ds = refl
numbers_append (c ∷ cs) ds = ap (λ l. number_if (crossing c.what c.args) c.answer ++ l) (numbers_append cs ds) ∙ sym (append_assoc (number_if (crossing c.what c.args) c.answer) (numbers cs) (numbers ds))

-- A transfer stays one with calls around it that move no handle.
pub transferred_among : (ss ds : List Shape) (source destination : Option (List Value)) (before cs behind : List Call) → crossings before ≡ [] → crossings behind ≡ []
    → IsTransferred ss ds source destination cs → IsTransferred ss ds source destination (before ++ (cs ++ behind))
transferred_among ss ds source destination before cs behind h k t =
    let quiet : numbers (before ++ (cs ++ behind)) ≡ numbers cs =
    numbers_append before (cs ++ behind) ∙ ap (λ l. l ++ numbers (cs ++ behind)) (no_numbers before h) ∙ numbers_append cs behind ∙ ap (λ l. numbers cs ++ l) (no_numbers behind k) ∙ append-nil (numbers cs) in
    record {
      values = t.values;
      there = t.there;
      outs = t.outs;
      stand = t.stand;
      carried = subst (λ l. AreCarried ss ds t.values l t.outs) (sym quiet) t.carried;
      handles_are =
          crossings_append before (cs ++ behind) ∙ ap (λ l. l ++ crossings (cs ++ behind)) h ∙ crossings_append cs behind ∙ ap (λ l. crossings cs ++ l) k ∙ append-nil (crossings cs) ∙ t.handles_are;
    }

-- What was moved was carried.
pub moved_carries : (c : TransferSetting) (gs : List Region) (m : List ℕ) (ss ds : List Shape) (d : Target) (vs : List Value) (n : ℕ) (cs : List Call) (us : List CoreValue) (w : World)
    → AgreesPlaces (tuple_members ss) (tuple_members ds) → AreMembers (tuple_members ss) vs → length vs ≡ length (typed_names (tuple_members ss))
    → (moved : AreMoved c gs m (tuple_members ss) (tuple_members ds) 0 d vs n cs us w)
    → (source destination : Option (List Value)) → source ≡ Some vs → destination ≡ Some moved.outs → IsTransferred ss ds source destination cs
moved_carries c gs m ss ds d vs n cs us w agree are long moved source destination from to =
    let placed : cross_places take_number (tuple_members ss) vs (tuple_members ds) (numbers cs) ≡ Some (moved.outs, []) =
    sym (crosses_placed ss ds agree vs long (numbers cs)) ∙ ap (cross_fields take_number (tuple_members ss) (zip (typed_names (tuple_members ss)) vs) (tuple_members ds)) (sym (append-nil (numbers cs))) ∙ moved.crosses [] in
    record {
      values = vs;
      there = from;
      outs = moved.outs;
      stand = to;
      carried = record { are_members = are; agree = agree; are = placed };
      handles_are =
          told_crossings (items_fields (to_side c) (tuple_members ss) (zip (typed_names (tuple_members ss)) vs) (tuple_members ds)) cs moved.told
          ∙ ap handles_in (items_placed ss ds agree vs long (to_side c))
          ∙ handles_placed (to_side c) 0 ss ds vs (numbers cs) (moved.outs, []) placed;
    }
