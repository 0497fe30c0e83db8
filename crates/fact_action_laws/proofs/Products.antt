-- Records are moved as the law says, where their fields are.
use Rattle.std.proofs.Common.{◌≡◌, ℕ, ◌+◌, List, ◌++◌, map, Option, Some, None, refl, sym, ap, ◌∙◌, subst, arith}
use Rattle.std.specs.Prelude.{option_map}
use Rattle.std.specs.List.{zip}
use Rattle.fact_types.specs.FlatShapes.{flat_members}
use Rattle.fact_types.specs.Layout.{extent}
use Rattle.fact_types.specs.Shapes.{k_record, k_tuple, s_node, Members, layout_of}
use Rattle.fact_types.proofs.PlaceLaws.{ends_within}
use Rattle.fact_types.proofs.ShapeLaws.{same_some, none_some}
use Rattle.fact_machine.specs.declared.types.CoreValue.{CoreValue}
use Rattle.fact_machine.specs.World.{Stop, Trap, Throw, Lack}
use Rattle.fact_actions.specs.Actions.{Visit}
use Rattle.fact_actions.specs.Moves.{move, move_fields}
use Rattle.fact_actions.specs.Running.{Call}
use Rattle.fact_actions.specs.Sides.{Source, Values, AtAddress, Target, Slots, Into, width_of_side}
use Rattle.fact_values.specs.declared.value.Value.{Value, out-Value}
use Rattle.fact_values.specs.declared.value.Value.TheVariants as value
use Rattle.fact_values.specs.Canonical.{IsCanonicalFlat, IsCanonicalAt}
use Rattle.fact_values.specs.Carry.{take_number}
use Rattle.fact_values.specs.Handles.{cross, cross_fields, cross_places, then_step, done_step, given}
use Rattle.fact_values.specs.Lift.{lift_leading}
use Rattle.fact_values.specs.Limits.{IsWithinLimits, IsWithinAt}
use Rattle.fact_values.specs.Load.{load}
use Rattle.fact_types.specs.Options.{◌>>=◌}
use Rattle.fact_values.specs.Opened.{fields_in, members_in}
use Rattle.fact_values.specs.Places.{typed_names}
use Rattle.fact_values.specs.Weight.{weight, weight_members, weight_in}
use Rattle.fact_action_laws.specs.Items.{ValueItem, items, items_fields, items_places, of_some, numbers, AreItemCalls}
use Rattle.fact_action_laws.specs.MoveTerms.{IsFit, IsMoved, MayStop}
use Rattle.fact_action_laws.specs.Places.{to_side, value_at_source, IsTarget, IsAtTarget, StandsAtTarget, IsGrounded}
use Rattle.fact_action_laws.specs.Regions.{TransferSetting, IsInHand}
use Rattle.fact_action_laws.proofs.Fields.{members_taken}
use Rattle.fact_action_laws.proofs.Judges.{does_visit, does_more}
use Rattle.fact_action_laws.proofs.MoveLaws.{IsMembersTarget, IsAmong, MembersStand, AreFit, fields_weight, AreLawfulMoves}
use Rattle.fact_action_laws.proofs.Plain.{does_aligned}
use Rattle.fact_action_laws.proofs.Placing.{leaves_wider}
use Rattle.fact_action_laws.specs.Judged.{RunsHonestly}
use Rattle.fact_action_laws.specs.MoveLaws.{IsLawfulMove}

pub record Mapped {A B : Type 0} (q : Option A) (f : A → B) (y : B) : Type 0 where
  pub mid : A
  pub first : q ≡ Some mid
  pub is : f mid ≡ y

pub mapped : {A B : Type 0} (q : Option A) (f : A → B) (y : B) → option_map f q ≡ Some y → Mapped q f y
mapped None f y h = absurd (none_some None y refl h)
mapped (Some a) f y h = record { mid = a; first = refl; is = same_some (Some (f a)) (f a) y refl h }

pub fields_of : (fs : List (List ℕ × Value)) → fields_in (out-Value (value.Record fs)) ≡ Some fs
fields_of fs = ap fields_in (value.outs-Record fs)

-- ---- records

pub record_taken : (c : TransferSetting) (ms : Members) (s : Source) (v : Value) → value_at_source c (s_node k_record ms) s ≡ Some v → Mapped (members_taken c ms s) (λ vs. value.Record (zip (typed_names ms) vs)) v
unfolding load lift_leading
record_taken c ms (Values vs) v h = mapped (members_taken c ms (Values vs)) (λ vs. value.Record (zip (typed_names ms) vs)) v h
record_taken c ms (AtAddress a) v h = mapped (members_taken c ms (AtAddress a)) (λ vs. value.Record (zip (typed_names ms) vs)) v h

record_stands : (c : TransferSetting) (ns : Members) (outs : List Value) (d : Target) (us : List CoreValue) (b : List ℕ) → MembersStand c ns 0 outs d us b → StandsAtTarget c (s_node k_record ns) (value.Record (zip (typed_names ns) outs)) d us b
unfolding load lift_leading IsCanonicalAt IsCanonicalFlat
record_stands c ns outs (Slots ts) us b h = (ap (option_map (λ vs. value.Record (zip (typed_names ns) vs))) h.0, h.1)
record_stands c ns outs (Into a) us b h = (ap (option_map (λ vs. value.Record (zip (typed_names ns) vs))) h.0, h.1)

record_fit : (c : TransferSetting) (ms ns : Members) (s : Source) → IsFit c (s_node k_record ms) (s_node k_record ns) s → AreFit c ms ns s
unfolding IsWithinLimits IsWithinAt
record_fit c ms ns (Values vs) h = h
record_fit c ms ns (AtAddress a) h = h

-- the target of a record or a tuple is that of its members
pub product_target : (c : TransferSetting) (ns : Members) (live : ℕ → Type 0) (m : List ℕ) (d : Target) → IsTarget c (flat_members (width_of_side c.transfer.to) ns) (extent (width_of_side c.transfer.to) (layout_of (s_node k_record ns))).size live m d → IsMembersTarget c ns 0 live m d
product_target c ns live m (Slots ts) h = h
product_target c ns live m (Into b) h = let within = ends_within (width_of_side c.transfer.to) ns in (h.0, omega (arith, h.1, within), λ j lo hi. h.2 j (omega (arith, lo)) (omega (arith, hi, within)))

pub product_among : (c : TransferSetting) (ns : Members) (d : Target) (j : ℕ) → IsAmong c ns 0 d j → IsAtTarget (extent (width_of_side c.transfer.to) (layout_of (s_node k_record ns))).size d j
product_among c ns (Slots ts) j h = h
product_among c ns (Into b) j h = let within = ends_within (width_of_side c.transfer.to) ns in (omega (arith, h.0), omega (arith, h.1, within))

pub fit_less : (Fit Fit' : Type 0) (is : List ValueItem) → (Fit' → Fit) → (s : Stop) (cs : List Call) → MayStop Fit is s cs → MayStop Fit' is s cs
fit_less Fit Fit' is f Trap cs h = λ k. h (f k)
fit_less Fit Fit' is f Throw cs h = h
fit_less Fit Fit' is f Lack cs h = h

record_crosses : (ms ns : Members) (fs : List (List ℕ × Value)) (outs : List Value) (a b : List ℕ) → cross_fields take_number ms fs ns a ≡ Some (outs, b) → cross take_number (s_node k_record ms) (s_node k_record ns) (value.Record fs) a ≡ Some (value.Record (zip (typed_names ns) outs), b)
unfolding cross
record_crosses ms ns fs outs a b h =
    ap (λ o. given o (λ fs. then_step (cross_fields take_number ms fs ns) (λ us. done_step (value.Record (zip (typed_names ns) us)))) a) (fields_of fs)
    ∙ ap (λ o. o >>= (λ r. done_step (value.Record (zip (typed_names ns) r.0)) r.1)) h

record_items : (c : TransferSetting) (ms ns : Members) (fs : List (List ℕ × Value)) → items (to_side c) (s_node k_record ms) (s_node k_record ns) (value.Record fs) ≡ items_fields (to_side c) ms fs ns
unfolding items
record_items c ms ns fs = ap (λ o. of_some o (λ fs. items_fields (to_side c) ms fs ns)) (fields_of fs)

record_weighs : (ms : Members) (fs : List (List ℕ × Value)) → weight (s_node k_record ms) (value.Record fs) ≡ 1 + weight_members ms (map (λ f. f.1) fs)
unfolding weight
record_weighs ms fs = ap (λ o. 1 + weight_in (λ fs. weight_members ms (map (λ f. f.1) fs)) o) (fields_of fs)

pub record_law : (c : TransferSetting) → IsGrounded c → (ms ns : Members) → AreLawfulMoves c ms ns 0
    → ((vs : List Value) (s : Source) → members_taken c ms s ≡ Some vs → fields_weight ms (zip (typed_names ms) vs) ns ≡ weight_members ms (map (λ f. f.1) (zip (typed_names ms) vs))) → IsLawfulMove c (s_node k_record ms) (s_node k_record ns)
unfolding move
record_law c g ms ns fields weights = record {
  by = λ s d v gs w m is h ready target.
      let r = record_taken c ms s v h in
      let fs = zip (typed_names ms) r.mid in
      subst (λ v. RunsHonestly c gs (MayStop (IsFit c (s_node k_record ms) (s_node k_record ns) s) (items (to_side c) (s_node k_record ms) (s_node k_record ns) v)) (IsMoved c gs m (s_node k_record ms) (s_node k_record ns) d v) (move c.transfer (s_node k_record ms) (s_node k_record ns) s d) w) r.is
      (subst (λ is. RunsHonestly c gs (MayStop (IsFit c (s_node k_record ms) (s_node k_record ns) s) is) (IsMoved c gs m (s_node k_record ms) (s_node k_record ns) d (value.Record fs)) (move c.transfer (s_node k_record ms) (s_node k_record ns) s d) w) (sym (record_items c ms ns fs))
      (does_aligned g (s_node k_record ms) (s_node k_record ns) s d (Visit 1 (move_fields c.transfer ms ns 0 s d)) w
      (does_visit (does_more
      (λ t cs o k. fit_less _ _ (items_fields (to_side c) ms fs ns) (record_fit c ms ns s) t cs k)
      (λ n cs us w' o t. record {
        out = value.Record (zip (typed_names ns) t.outs);
        carried = record {
          crosses = λ rest. record_crosses ms ns fs t.outs (numbers cs ++ rest) rest (t.crosses rest);
          told = subst (λ is. AreItemCalls is cs) (sym (record_items c ms ns fs)) t.told;
          weighs = ap (λ k. 1 + k) (t.weighs ∙ weights r.mid s r.first) ∙ sym (record_weighs ms fs);
        };
        given = t.given;
        leaves = leaves_wider (product_among c ns d) (λ b k. record_stands c ns t.outs d us b k) t.leaves;
      })
      (fields.by s d r.mid gs w m is r.first ready (product_target c ns (IsInHand c gs) m d target))))));
}

-- ---- tuples

pub members_of_tuple : (vs : List Value) → members_in (out-Value (value.Tuple vs)) ≡ Some vs
members_of_tuple vs = ap members_in (value.outs-Tuple vs)

pub tuple_taken : (c : TransferSetting) (ms : Members) (s : Source) (v : Value) → value_at_source c (s_node k_tuple ms) s ≡ Some v → Mapped (members_taken c ms s) (λ vs. value.Tuple vs) v
unfolding load lift_leading
tuple_taken c ms (Values vs) v h = mapped (members_taken c ms (Values vs)) (λ vs. value.Tuple vs) v h
tuple_taken c ms (AtAddress a) v h = mapped (members_taken c ms (AtAddress a)) (λ vs. value.Tuple vs) v h

tuple_stands : (c : TransferSetting) (ns : Members) (outs : List Value) (d : Target) (us : List CoreValue) (b : List ℕ) → MembersStand c ns 0 outs d us b → StandsAtTarget c (s_node k_tuple ns) (value.Tuple outs) d us b
unfolding load lift_leading IsCanonicalAt IsCanonicalFlat
tuple_stands c ns outs (Slots ts) us b h = (ap (option_map (λ vs. value.Tuple vs)) h.0, h.1)
tuple_stands c ns outs (Into a) us b h = (ap (option_map (λ vs. value.Tuple vs)) h.0, h.1)

tuple_fit : (c : TransferSetting) (ms ns : Members) (s : Source) → IsFit c (s_node k_tuple ms) (s_node k_tuple ns) s → AreFit c ms ns s
unfolding IsWithinLimits IsWithinAt
tuple_fit c ms ns (Values vs) h = h
tuple_fit c ms ns (AtAddress a) h = h

tuple_crosses : (ms ns : Members) (vs outs : List Value) (a b : List ℕ) → cross_places take_number ms vs ns a ≡ Some (outs, b) → cross take_number (s_node k_tuple ms) (s_node k_tuple ns) (value.Tuple vs) a ≡ Some (value.Tuple outs, b)
unfolding cross
tuple_crosses ms ns vs outs a b h =
    ap (λ o. given o (λ vs. then_step (cross_places take_number ms vs ns) (λ us. done_step (value.Tuple us))) a) (members_of_tuple vs) ∙ ap (λ o. o >>= (λ r. done_step (value.Tuple r.0) r.1)) h

tuple_items : (c : TransferSetting) (ms ns : Members) (vs : List Value) → items (to_side c) (s_node k_tuple ms) (s_node k_tuple ns) (value.Tuple vs) ≡ items_places (to_side c) ms vs ns
unfolding items
tuple_items c ms ns vs = ap (λ o. of_some o (λ vs. items_places (to_side c) ms vs ns)) (members_of_tuple vs)

tuple_weighs : (ms : Members) (vs : List Value) → weight (s_node k_tuple ms) (value.Tuple vs) ≡ 1 + weight_members ms vs
unfolding weight
tuple_weighs ms vs = ap (λ o. 1 + weight_in (λ vs. weight_members ms vs) o) (members_of_tuple vs)

-- what is the same by place and by name
pub record AreAlike (c : TransferSetting) (ms ns : Members) (vs : List Value) : Type 0 where
  pub crosses : (a : List ℕ) → cross_fields take_number ms (zip (typed_names ms) vs) ns a ≡ cross_places take_number ms vs ns a
  pub items : items_fields (to_side c) ms (zip (typed_names ms) vs) ns ≡ items_places (to_side c) ms vs ns
  pub weighs : fields_weight ms (zip (typed_names ms) vs) ns ≡ weight_members ms vs

pub tuple_law : (c : TransferSetting) → IsGrounded c → (ms ns : Members) → AreLawfulMoves c ms ns 0
    → ((vs : List Value) (s : Source) → members_taken c ms s ≡ Some vs → AreAlike c ms ns vs) → IsLawfulMove c (s_node k_tuple ms) (s_node k_tuple ns)
unfolding move
tuple_law c g ms ns fields alike = record {
  by = λ s d v gs w m is h ready target.
      let r = tuple_taken c ms s v h in
      let k = alike r.mid s r.first in
      let its : items_fields (to_side c) ms (zip (typed_names ms) r.mid) ns ≡ items (to_side c) (s_node k_tuple ms) (s_node k_tuple ns) (value.Tuple r.mid) = k.items ∙ sym (tuple_items c ms ns r.mid) in
      subst (λ v. RunsHonestly c gs (MayStop (IsFit c (s_node k_tuple ms) (s_node k_tuple ns) s) (items (to_side c) (s_node k_tuple ms) (s_node k_tuple ns) v)) (IsMoved c gs m (s_node k_tuple ms) (s_node k_tuple ns) d v) (move c.transfer (s_node k_tuple ms) (s_node k_tuple ns) s d) w) r.is
      (does_aligned g (s_node k_tuple ms) (s_node k_tuple ns) s d (Visit 1 (move_fields c.transfer ms ns 0 s d)) w
      (does_visit (does_more
      (λ t cs o x. subst (λ is. MayStop (IsFit c (s_node k_tuple ms) (s_node k_tuple ns) s) is t cs) its (fit_less _ _ (items_fields (to_side c) ms (zip (typed_names ms) r.mid) ns) (tuple_fit c ms ns s) t cs x))
      (λ n cs us w' o t. record {
        out = value.Tuple t.outs;
        carried = record {
          crosses = λ rest. tuple_crosses ms ns r.mid t.outs (numbers cs ++ rest) rest (sym (k.crosses (numbers cs ++ rest)) ∙ t.crosses rest);
          told = subst (λ is. AreItemCalls is cs) its t.told;
          weighs = ap (λ k. 1 + k) (t.weighs ∙ k.weighs) ∙ sym (tuple_weighs ms r.mid);
        };
        given = t.given;
        leaves = leaves_wider (product_among c ns d) (λ b x. tuple_stands c ns t.outs d us b x) t.leaves;
      })
      (fields.by s d r.mid gs w m is r.first ready (product_target c ns (IsInHand c gs) m d target)))));
}
