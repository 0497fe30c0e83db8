-- The fields of records are moved one after another, each as its types say.
use Rattle.std.proofs.Common.{◌≡◌, ℕ, ◌+◌, ⊎_elim, List, [], ◌∷◌, ◌++◌, length, take, drop, Some, refl, sym, ap, ◌∙◌, subst, arith, append_assoc}
use Rattle.std.specs.List.{zip}
use Rattle.std.proofs.lemmas.Bool.{false≢true}
use Rattle.std.proofs.Math.Seq.{drop-append_seam, take-append_seam}
use Rattle.fact_types.specs.Agrees.{named}
use Rattle.fact_types.specs.Fields.{Field, field_of}
use Rattle.fact_types.specs.FlatShapes.{flat}
use Rattle.fact_types.specs.Shapes.{Shape, Members, no_members, bare, typed, next_of}
use Rattle.fact_machine.specs.declared.types.CoreValue.{CoreValue}
use Rattle.fact_machine.specs.World.{World, Stop, Trap, Throw, Lack}
use Rattle.fact_actions.specs.Actions.{Action, Give, ◌>>=◌}
use Rattle.fact_actions.specs.Moves.{move, move_fields, with_field, part, spot, past}
use Rattle.fact_actions.specs.Running.{Call}
use Rattle.fact_actions.specs.Sides.{Source, Values, AtAddress, Target, Slots, Into, width_of_side}
use Rattle.fact_values.specs.declared.value.Value.{Value}
use Rattle.fact_values.specs.Canonical.{ThereIs, IsCanonicalFlat, AreCanonicalFlat, AreCanonicalAt}
use Rattle.fact_values.specs.Carry.{take_number}
use Rattle.fact_values.specs.Handles.{cross, cross_fields, value_named, then_step, done_step, given}
use Rattle.fact_values.specs.Lift.{lift_members}
use Rattle.fact_values.specs.Load.{load_members}
use Rattle.fact_values.specs.Limits.{place_in, AreWithinLimits, AreWithinAt, IsWithinLimits, IsWithinAt}
use Rattle.fact_types.specs.Options.{◌>>=◌ as and_then}
use Rattle.fact_values.specs.Places.{typed_names}
use Rattle.fact_values.specs.Weight.{weight}
use Rattle.fact_action_laws.specs.Items.{ValueItem, items, items_fields, of_some, numbers, AreItemCalls}
use Rattle.fact_action_laws.specs.MoveTerms.{IsWellFormed, AreWellFormed, size_on, moving, IsFit, IsMoved, MayStop}
use Rattle.fact_action_laws.specs.Places.{to_side, IsTarget, IsGiven, StandsAtTarget}
use Rattle.fact_actions.specs.Regions.{Region}
use Rattle.fact_action_laws.specs.Regions.{TransferSetting, IsInHand, regions_after}
use Rattle.fact_action_laws.proofs.Fields.{field_taken}
use Rattle.fact_action_laws.proofs.Flats.{value_leads}
use Rattle.fact_action_laws.proofs.Judges.{does_give, does_bind, does_map, does_more}
use Rattle.fact_action_laws.proofs.MoveLaws.{IsMembersTarget, IsAmong, MembersStand, AreFit, field_weight, fields_weight, AreMoved, AreLawfulMoves}
use Rattle.fact_action_laws.proofs.Placing.{placed_nothing, leaves_wider, leaves_then}
use Rattle.fact_action_laws.proofs.Targets.{values_append, values_length, hold_length, field_target, others_target, apart, field_among, others_among, among_live}
use Rattle.fact_action_laws.proofs.Telling.{numbers_append, told_append, begun_first, begun_later}
use Rattle.fact_action_laws.specs.Judged.{RunsHonestly}
use Rattle.fact_action_laws.specs.MoveLaws.{IsLawfulMove}

-- ---- crossing

-- a field crosses, and then the others
pub fields_cross : (ms ns : Members) (fs : List (List ℕ × Value)) (x : List ℕ) (s u : Shape) (v out : Value) (outs : List Value) (a b c : List ℕ)
    → named x ms ≡ Some s → value_named x fs ≡ Some v → cross take_number s u v a ≡ Some (out, b) → cross_fields take_number ms fs ns b ≡ Some (outs, c) → cross_fields take_number ms fs (typed x u ns) a ≡ Some (out ∷ outs, c)
unfolding cross cross_fields
fields_cross ms ns fs x s u v out outs a b c e1 e2 e3 e4 =
    ap (λ o. given o (λ s. given (value_named x fs) (λ v. then_step (cross take_number s u v) (λ u1. then_step (cross_fields take_number ms fs ns) (λ us. done_step (u1 ∷ us))))) a) e1
    ∙ ap (λ o. given o (λ v. then_step (cross take_number s u v) (λ u1. then_step (cross_fields take_number ms fs ns) (λ us. done_step (u1 ∷ us)))) a) e2
    ∙ ap (λ o. and_then o (λ r. then_step (cross_fields take_number ms fs ns) (λ us. done_step (r.0 ∷ us)) r.1)) e3
    ∙ ap (λ o. and_then o (λ r. done_step (out ∷ r.0) r.1)) e4

-- what a field calls for, and then the others
pub fields_items : (c : TransferSetting) (ms ns : Members) (fs : List (List ℕ × Value)) (x : List ℕ) (s u : Shape) (v : Value) → named x ms ≡ Some s → value_named x fs ≡ Some v
    → items_fields (to_side c) ms fs (typed x u ns) ≡ items (to_side c) s u v ++ items_fields (to_side c) ms fs ns
unfolding items items_fields
fields_items c ms ns fs x s u v e1 e2 =
    ap (λ o. of_some o (λ s. of_some (value_named x fs) (λ v. items (to_side c) s u v)) ++ items_fields (to_side c) ms fs ns) e1
    ∙ ap (λ o. of_some o (λ v. items (to_side c) s u v) ++ items_fields (to_side c) ms fs ns) e2

-- ---- standing

-- a field stands, and then the others
fields_stand : (c : TransferSetting) (x : List ℕ) (u : Shape) (ns : Members) (e : ℕ) (live : ℕ → Type 0) (m : List ℕ) (d : Target) (out : Value) (outs : List Value) (us vs : List CoreValue) (b : List ℕ) → IsWellFormed u
    → IsTarget c (flat (width_of_side c.transfer.to) u) (size_on c.transfer.to u) live m (spot c.transfer.to u e d) → IsGiven (spot c.transfer.to u e d) us
    → StandsAtTarget c u out (spot c.transfer.to u e d) us b → MembersStand c ns (next_of (width_of_side c.transfer.to) u e) outs (past c.transfer.to u d) vs b → MembersStand c (typed x u ns) e (out ∷ outs) d (us ++ vs) b
unfolding load_members lift_members AreCanonicalAt AreCanonicalFlat
fields_stand c x u ns e live m (Into a) out outs us vs b formed t given h k =
    (ap (λ o. and_then o (λ v. and_then (load_members (to_side c) b ns a (next_of (width_of_side c.transfer.to) u e)) (λ vs. Some (v ∷ vs)))) h.0 ∙ ap (λ o. and_then o (λ vs. Some (out ∷ vs))) k.0, (h.1, k.1))
fields_stand c x u ns e live m (Slots ts) out outs us vs b formed t given h k =
    let f = flat (width_of_side c.transfer.to) u in
    let long : length f ≡ length us = hold_length f (take (length f) ts) t ∙ sym (values_length us (take (length f) ts) given) in
    let first : take (length f) (us ++ vs) ≡ us = ap (λ n. take n (us ++ vs)) long ∙ take-append_seam us vs in
    let others : drop (length f) (us ++ vs) ≡ vs = ap (λ n. drop n (us ++ vs)) long ∙ drop-append_seam us vs in (
      ap (λ o. and_then o (λ v. and_then (lift_members (to_side c) b ns (drop (length f) (us ++ vs))) (λ vs. Some (v ∷ vs)))) (value_leads (to_side c) b u formed us vs (omega (arith, long)) ∙ h.0)
          ∙ ap (λ l. and_then (lift_members (to_side c) b ns l) (λ vs. Some (out ∷ vs))) others ∙ ap (λ o. and_then o (λ vs. Some (out ∷ vs))) k.0,
      (subst (IsCanonicalFlat (to_side c) b u) (sym first) h.1, subst (AreCanonicalFlat (to_side c) b ns) (sym others) k.1),
    )

fields_given : (c : TransferSetting) (u : Shape) (e : ℕ) (d : Target) (us vs : List CoreValue) → IsGiven (spot c.transfer.to u e d) us → IsGiven (past c.transfer.to u d) vs → IsGiven d (us ++ vs)
fields_given c u e (Into a) us vs h k = ap (λ l. l ++ vs) h ∙ k
fields_given c u e (Slots ts) us vs h k = values_append (length (flat (width_of_side c.transfer.to) u)) us vs ts h k

-- ---- limits

field_fit : (c : TransferSetting) (ms ns : Members) (x : List ℕ) (u : Shape) (f : Field) (s : Source) → field_of x ms ≡ Some f → AreFit c ms (typed x u ns) s → IsFit c f.shape u (part c.transfer.from f s) × AreFit c ms ns s
unfolding AreWithinLimits AreWithinAt
field_fit c ms ns x u f (Values vs) e h =
    (subst (λ o. ThereIs o (λ f. IsWithinLimits (moving c) f.shape u (take (length (flat (width_of_side c.transfer.from) f.shape)) (drop f.flat_place vs)))) e h.0, h.1)
field_fit c ms ns x u f (AtAddress a) e h =
    (subst (λ o. ThereIs o (λ f. IsWithinAt (moving c) f.shape u (a + place_in (width_of_side c.transfer.from) f))) e h.0, h.1)

-- ---- moves

none_given : (c : TransferSetting) (e : ℕ) (live : ℕ → Type 0) (m : List ℕ) (d : Target) → IsMembersTarget c no_members e live m d → IsGiven d []
none_given c e live m (Slots []) h = refl
none_given c e live m (Slots (t ∷ ts)) h = absurd (false≢true h)
none_given c e live m (Into a) h = refl

none_stand : (c : TransferSetting) (e : ℕ) (d : Target) (b : List ℕ) → MembersStand c no_members e [] d [] b
unfolding load_members lift_members AreCanonicalAt AreCanonicalFlat
none_stand c e (Slots ts) b = (refl, tt)
none_stand c e (Into a) b = (refl, tt)

pub no_fields : (c : TransferSetting) (ms : Members) (e : ℕ) → AreLawfulMoves c ms no_members e
unfolding move_fields cross_fields items_fields
no_fields c ms e = record {
  by = λ s d vs gs w m is l ready target. does_give (record {
    outs = [];
    crosses = λ rest. refl;
    told = refl;
    weighs = refl;
    given = none_given c e (IsInHand c gs) m d target;
    leaves = leaves_wider (λ j h. absurd h) (λ b h. h) (record { now = m; ready = ready; placed = placed_nothing _ (λ b. none_stand c e d b) });
  });
}

-- a member without a type counts for nothing
bare_stand : (c : TransferSetting) (ns : Members) (x : List ℕ) (e : ℕ) (outs : List Value) (d : Target) (us : List CoreValue) (b : List ℕ) → MembersStand c ns e outs d us b → MembersStand c (bare x ns) e outs d us b
unfolding load_members lift_members AreCanonicalAt AreCanonicalFlat
bare_stand c ns x e outs (Slots ts) us b h = h
bare_stand c ns x e outs (Into a) us b h = h

pub bare_target : (c : TransferSetting) (ns : Members) (x : List ℕ) (e : ℕ) (live : ℕ → Type 0) (m : List ℕ) (d : Target) → IsMembersTarget c (bare x ns) e live m d → IsMembersTarget c ns e live m d
bare_target c ns x e live m (Slots ts) h = h
bare_target c ns x e live m (Into a) h = h

bare_among : (c : TransferSetting) (ns : Members) (x : List ℕ) (e : ℕ) (d : Target) (j : ℕ) → IsAmong c ns e d j → IsAmong c (bare x ns) e d j
bare_among c ns x e (Slots ts) j h = h
bare_among c ns x e (Into a) j h = h

bare_fit : (c : TransferSetting) (ms ns : Members) (x : List ℕ) (s : Source) → AreFit c ms (bare x ns) s → AreFit c ms ns s
unfolding AreWithinLimits AreWithinAt
bare_fit c ms ns x (Values vs) h = h
bare_fit c ms ns x (AtAddress a) h = h

fit_less : (Fit Fit' : Type 0) (is : List ValueItem) → (Fit' → Fit) → (s : Stop) (cs : List Call) → MayStop Fit is s cs → MayStop Fit' is s cs
fit_less Fit Fit' is f Trap cs h = λ k. h (f k)
fit_less Fit Fit' is f Throw cs h = h
fit_less Fit Fit' is f Lack cs h = h

pub bare_fields : (c : TransferSetting) (ms ns : Members) (x : List ℕ) (e : ℕ) → AreLawfulMoves c ms ns e → AreLawfulMoves c ms (bare x ns) e
unfolding move_fields cross_fields items_fields
bare_fields c ms ns x e h = record {
  by = λ s d vs gs w m is l ready target.
      does_more (λ t cs o k. fit_less _ _ _ (bare_fit c ms ns x s) t cs k)
      (λ n cs us w' o r. record { outs = r.outs; crosses = r.crosses; told = r.told; weighs = r.weighs; given = r.given; leaves = leaves_wider (bare_among c ns x e d) (λ b k. bare_stand c ns x e r.outs d us b k) r.leaves })
      (h.by s d vs gs w m is l ready (bare_target c ns x e (IsInHand c gs) m d target));
}

-- where a field stops, its record does
pub stops_first : (Fit Fit' : Type 0) (is js : List ValueItem) → (Fit' → Fit) → (s : Stop) (cs : List Call) → MayStop Fit is s cs → MayStop Fit' (is ++ js) s cs
stops_first Fit Fit' is js f Trap cs h = λ k. h (f k)
stops_first Fit Fit' is js f Throw cs h = h
stops_first Fit Fit' is js f Lack cs h = begun_first is js cs h

-- where the others stop
pub stops_later : (Fit Fit' : Type 0) (is js : List ValueItem) (cs : List Call) → (Fit' → Fit) → AreItemCalls is cs → (s : Stop) (ds : List Call) → MayStop Fit js s ds → MayStop Fit' (is ++ js) s (cs ++ ds)
stops_later Fit Fit' is js cs f told Trap ds h = λ k. h (f k)
stops_later Fit Fit' is js cs f told Throw ds h = h
stops_later Fit Fit' is js cs f told Lack ds h = begun_later is js cs ds told h

-- a field of a name, and then the others
module _ (c : TransferSetting) (ms ns : Members) (x : List ℕ) (u : Shape) (e : ℕ) (f : Field) (formed_u : IsWellFormed u) (is_field : field_of x ms ≡ Some f) (is_named : named x ms ≡ Some f.shape) where
  -- both have been moved
  both_moved : (gs : List Region) (m : List ℕ) (d : Target) (vs : List Value) (v : Value) → value_named x (zip (typed_names ms) vs) ≡ Some v
      → IsMembersTarget c (typed x u ns) e (IsInHand c gs) m d
      → (n k : ℕ) (cs ds : List Call) (us ws : List CoreValue) (w w' : World) → (r : IsMoved c gs m f.shape u (spot c.transfer.to u e d) v n cs us w)
      → AreMoved c (regions_after gs cs) r.leaves.now ms ns (next_of (width_of_side c.transfer.to) u e) (past c.transfer.to u d) vs k ds ws w'
      → AreMoved c gs m ms (typed x u ns) e d vs (n + k) (cs ++ ds) (us ++ ws) w'
  both_moved gs m d vs v nv target n k cs ds us ws w w' r t =
      let fs = zip (typed_names ms) vs in
      record {
        outs = r.out ∷ t.outs;
        crosses = λ rest. fields_cross ms ns fs x f.shape u v r.out t.outs (numbers (cs ++ ds) ++ rest) (numbers ds ++ rest) rest is_named nv
            (ap (λ l. cross take_number f.shape u v l) (ap (λ l. l ++ rest) (numbers_append cs ds) ∙ append_assoc (numbers cs) (numbers ds) rest) ∙ r.carried.crosses (numbers ds ++ rest))
            (t.crosses rest);
        told = subst (λ is. AreItemCalls is (cs ++ ds)) (sym (fields_items c ms ns fs x f.shape u v is_named nv)) (told_append (items (to_side c) f.shape u v) (items_fields (to_side c) ms fs ns) cs ds r.carried.told t.told);
        weighs = ap (λ i. i + k) r.carried.weighs ∙ ap (λ i. weight f.shape v + i) t.weighs ∙ ap (λ o. field_weight o (Some v) + fields_weight ms fs ns) (sym is_named) ∙ ap (λ o. field_weight (named x ms) o + fields_weight ms fs ns) (sym nv);
        given = fields_given c u e d us ws r.given t.given;
        leaves = leaves_wider
            (λ j. ⊎_elim (field_among c x u ns e d j) (others_among c x u ns e d j))
            (λ b p. fields_stand c x u ns e (IsInHand c gs) m d r.out t.outs us ws b formed_u (field_target c x u ns e (IsInHand c gs) m d target) r.given p.0 p.1)
            (leaves_then (apart c x u ns e d) (λ j h. among_live c (typed x u ns) e (IsInHand c gs) m d target j (field_among c x u ns e d j h)) (λ j h. among_live c (typed x u ns) e (IsInHand c gs) m d target j (others_among c x u ns e d j h)) r.leaves t.leaves);
      }

  pub typed_fields : AreWellFormed ms → IsLawfulMove c f.shape u → AreLawfulMoves c ms ns (next_of (width_of_side c.transfer.to) u e) → AreLawfulMoves c ms (typed x u ns) e
  unfolding move_fields
  typed_fields formed one rest = record {
    by = λ s d vs gs w m is l ready target.
        let v = field_taken c x ms f s vs formed is_field is l in
        let fs = zip (typed_names ms) vs in
        let its = items (to_side c) f.shape u v.value in
        let others = items_fields (to_side c) ms fs ns in
        let rest_of : Field → List CoreValue → Action (List CoreValue) = λ g us. move_fields c.transfer ms ns (next_of (width_of_side c.transfer.to) u e) s (past c.transfer.to u d) >>= (λ ws. Give (us ++ ws)) in
        subst (λ o. RunsHonestly c gs (MayStop (AreFit c ms (typed x u ns) s) (items_fields (to_side c) ms fs (typed x u ns))) (AreMoved c gs m ms (typed x u ns) e d vs)
        (with_field o (λ g. move c.transfer g.shape u (part c.transfer.from g s) (spot c.transfer.to u e d) >>= rest_of g)) w) (sym is_field)
        (subst (λ is. RunsHonestly c gs (MayStop (AreFit c ms (typed x u ns) s) is) (AreMoved c gs m ms (typed x u ns) e d vs)
        (move c.transfer f.shape u (part c.transfer.from f s) (spot c.transfer.to u e d) >>= rest_of f) w) (sym (fields_items c ms ns fs x f.shape u v.value is_named v.named))
        (does_bind (move c.transfer f.shape u (part c.transfer.from f s) (spot c.transfer.to u e d)) (rest_of f) w
        (one.by (part c.transfer.from f s) (spot c.transfer.to u e d) v.value gs w m v.at.source v.at.taken ready (field_target c x u ns e (IsInHand c gs) m d target))
        (λ t cs h. stops_first _ _ its others (λ k. (field_fit c ms ns x u f s is_field k).0) t cs h)
        (λ n cs us w' o r. does_map (move_fields c.transfer ms ns (next_of (width_of_side c.transfer.to) u e) s (past c.transfer.to u d)) (λ ws. us ++ ws) w'
        (does_more
        (λ t ds o' h. stops_later _ _ its others cs (λ k. (field_fit c ms ns x u f s is_field k).1) r.carried.told t ds h)
        (λ k ds ws w'' o' t. both_moved gs m d vs v.value v.named target n k cs ds us ws w' w'' r t)
        (rest.by s (past c.transfer.to u d) vs (regions_after gs cs) w' r.leaves.now is l r.leaves.ready
        (others_target c x u ns e (IsInHand c gs) m (IsInHand c (regions_after gs cs)) r.leaves.now d r.leaves.placed.room r.leaves.placed.grows target))))));
  }
