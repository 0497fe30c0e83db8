-- The elements of a list, each of them the fields of a tuple, are moved one after another.
use Rattle.std.proofs.Common.{◌≡◌, ℕ, zero, suc, ◌+◌, ◌*◌, ◌≤◌, ◌<◌, ⊎_elim, List, [], ◌∷◌, ◌++◌, length, Option, Some, refl, sym, ap, ◌∙◌, subst, arith, append_assoc}
use Rattle.std.specs.Prelude.{sum_by}
use Rattle.std.specs.List.{zip, flat_map}
use Rattle.std.proofs.lemmas.List.Sums.{sum_by-cons}
use Rattle.fact_types.specs.Shapes.{Members, ends_of}
use Rattle.fact_types.proofs.ShapeLaws.{same_some}
use Rattle.fact_machine.specs.declared.types.CoreValue.{CoreValue}
use Rattle.fact_machine.specs.World.{World}
use Rattle.fact_actions.specs.Actions.{Action, Give, each_from, ◌>>=◌}
use Rattle.fact_actions.specs.Moves.{move_fields}
use Rattle.fact_actions.specs.Running.{Call}
use Rattle.fact_actions.specs.Sides.{AtAddress, Into, width_of_side}
use Rattle.fact_values.specs.declared.value.Value.{Value}
use Rattle.fact_values.specs.Canonical.{EachAt, AreCanonicalAt}
use Rattle.fact_values.specs.Carry.{take_number}
use Rattle.fact_values.specs.Handles.{each_step, then_step, done_step, cross_fields}
use Rattle.fact_values.specs.Limits.{AreWithinAt}
use Rattle.fact_values.specs.Load.{load_members}
use Rattle.fact_types.specs.Options.{◌>>=◌ as and_then}
use Rattle.fact_values.specs.Places.{typed_names, each_at}
use Rattle.fact_action_laws.specs.Footprints.{HasChanged}
use Rattle.fact_action_laws.specs.Items.{ValueItem, items_fields, numbers, AreItemCalls}
use Rattle.fact_action_laws.specs.MoveTerms.{moving, MayStop}
use Rattle.fact_action_laws.specs.Places.{from_side, to_side, HasSideMemory, HoldsMemories}
use Rattle.fact_actions.specs.Regions.{Region}
use Rattle.fact_action_laws.specs.Regions.{TransferSetting, IsInHand, regions_after}
use Rattle.fact_action_laws.proofs.Judges.{does_give, does_bind, does_map, does_more}
use Rattle.fact_action_laws.proofs.MoveLaws.{fields_weight, AreMoved, AreLawfulMoves}
use Rattle.fact_action_laws.proofs.Placing.{placed_nothing, leaves_wider, leaves_then}
use Rattle.fact_action_laws.proofs.Plain.{both}
use Rattle.fact_action_laws.proofs.Records.{stops_first, stops_later}
use Rattle.fact_action_laws.proofs.Telling.{numbers_append, told_append}
use Rattle.fact_action_laws.specs.Judged.{RunsHonestly}

module _ (c : TransferSetting) (ms ns : Members) where
  -- a row crosses, and what it calls for
  abbrev pub row_crosses : List Value → List ℕ → Option (List Value × List ℕ)
  row_crosses row a = cross_fields take_number ms (zip (typed_names ms) row) ns a

  abbrev pub row_items : List Value → List ValueItem
  row_items row = items_fields (to_side c) ms (zip (typed_names ms) row) ns

  abbrev pub row_weight : List Value → ℕ
  row_weight row = fields_weight ms (zip (typed_names ms) row) ns

  -- rows stand from an address on, so many bytes from one to the next
  abbrev pub RowsStand : (n stride b : ℕ) → List (List Value) → List ℕ → Type 0
  RowsStand n stride b outs bytes = (each_at n stride (λ a. load_members (to_side c) bytes ns a 0) b ≡ Some outs) × EachAt n stride (λ a. AreCanonicalAt (to_side c) bytes ns a 0) b

  pub record RowsMoved (gs : List Region) (m : List ℕ) (n stride b : ℕ) (rows : List (List Value)) (k : ℕ) (cs : List Call) (us : List CoreValue) (w : World) : Type 0 where
    pub outs : List (List Value)
    pub crosses : (rest : List ℕ) → each_step row_crosses rows (numbers cs ++ rest) ≡ Some (outs, rest)
    pub told : AreItemCalls (flat_map row_items rows) cs
    pub weighs : k ≡ sum_by row_weight rows
    pub given : us ≡ []
    pub leaves : HasChanged c gs m (λ j. (b ≤ j) × (j < b + n * stride)) (RowsStand n stride b outs) cs w

  abbrev pub RowsFit : (n stride a : ℕ) → Type 0
  RowsFit n stride a = EachAt n stride (λ a. AreWithinAt (moving c) ms ns a) a

  module _ (there_from : HasSideMemory c.transfer.from) (there_to : HasSideMemory c.transfer.to) (fields : AreLawfulMoves c ms ns 0) (p q e f : ℕ) (fits : ends_of (width_of_side c.transfer.to) ns 0 ≤ f) where
    abbrev move_row : ℕ → Action (List CoreValue)
    move_row i = move_fields c.transfer ms ns 0 (AtAddress (p + i * e)) (Into (q + i * f))

    -- one row, and then the others
    row_moved : (gs : List Region) (m : List ℕ) (n b : ℕ) (row : List Value) (rows : List (List Value)) (k l : ℕ) (cs ds : List Call) (us vs : List CoreValue) (w w' : World) → ((j : ℕ) → b ≤ j → j < b + suc n * f → IsInHand c gs j)
        → (r : AreMoved c gs m ms ns 0 (Into b) row k cs us w) → RowsMoved (regions_after gs cs) r.leaves.now n f (b + f) rows l ds vs w' → RowsMoved gs m (suc n) f b (row ∷ rows) (k + l) (cs ++ ds) (us ++ vs) w'
    row_moved gs m n b row rows k l cs ds us vs w w' live r t = record {
      outs = r.outs ∷ t.outs;
      crosses = λ rest.
          ap (λ x. and_then x (λ y. then_step (each_step row_crosses rows) (λ bs. done_step (y.0 ∷ bs)) y.1)) (ap (row_crosses row) (ap (λ x. x ++ rest) (numbers_append cs ds) ∙ append_assoc (numbers cs) (numbers ds) rest) ∙ r.crosses (numbers ds ++ rest))
          ∙ ap (λ x. and_then x (λ y. done_step (r.outs ∷ y.0) y.1)) (t.crosses rest);
      told = told_append (row_items row) (flat_map row_items rows) cs ds r.told t.told;
      weighs = ap (λ i. i + l) r.weighs ∙ ap (λ i. row_weight row + i) t.weighs ∙ sym (sum_by-cons row_weight row rows);
      given = ap (λ x. x ++ vs) r.given ∙ t.given;
      leaves = leaves_wider
          (λ j. ⊎_elim (λ d. (omega (arith, d.0), omega (arith, d.1, fits))) (λ d. (omega (arith, d.0), omega (arith, d.1))))
          (λ x h. (ap (λ o. and_then o (λ v. and_then (each_at n f (λ a. load_members (to_side c) x ns a 0) (b + f)) (λ vs. Some (v ∷ vs)))) h.0.0 ∙ ap (λ o. and_then o (λ vs. Some (r.outs ∷ vs))) h.1.0, (h.0.1, h.1.1)))
          (leaves_then (λ j d d2. omega (arith, d.1, d2.0, fits)) (λ j d. live j (omega (arith, d.0)) (omega (arith, d.1, fits))) (λ j d. live j (omega (arith, d.0)) (omega (arith, d.1))) r.leaves t.leaves);
    }

    pub rows_move : (n i a b : ℕ) (rows : List (List Value)) (gs : List Region) (w : World) (m : List ℕ) → a ≡ p + i * e → b ≡ q + i * f → each_at n e (λ a. load_members (from_side c) c.source ms a 0) a ≡ Some rows
        → HoldsMemories c m w → b + n * f ≤ length m → ((j : ℕ) → b ≤ j → j < b + n * f → IsInHand c gs j)
        → RunsHonestly c gs (MayStop (RowsFit n e a) (flat_map row_items rows)) (RowsMoved gs m n f b rows) (each_from i n move_row) w
    rows_move zero i a b rows gs w m ea eb h ready le live =
        let is : [] ≡ rows = same_some (Some []) [] rows refl h in
        subst (λ rows. RunsHonestly c gs (MayStop (RowsFit 0 e a) (flat_map row_items rows)) (RowsMoved gs m 0 f b rows) (Give []) w) is
        (does_give (record {
          outs = [];
          crosses = λ rest. refl;
          told = refl;
          weighs = refl;
          given = refl;
          leaves = leaves_wider (λ j d. absurd d) (λ x d. d) (record { now = m; ready = ready; placed = placed_nothing _ (λ x. (refl, tt)) });
        }))
    rows_move (suc n) i a b rows gs w m ea eb h ready le live =
        let one = both (load_members (from_side c) c.source ms a 0) _ rows h in
        let rest = both (each_at n e (λ a. load_members (from_side c) c.source ms a 0) (a + e)) _ rows one.last in
        let is : one.mid ∷ rest.mid ≡ rows = same_some (Some (one.mid ∷ rest.mid)) (one.mid ∷ rest.mid) rows refl rest.last in
        let later : List CoreValue → Action (List CoreValue) = λ us. each_from (suc i) n move_row >>= (λ vs. Give (us ++ vs)) in
        subst (λ rows. RunsHonestly c gs (MayStop (RowsFit (suc n) e a) (flat_map row_items rows)) (RowsMoved gs m (suc n) f b rows) (move_row i >>= later) w) is
        (subst (λ x. RunsHonestly c gs (MayStop (RowsFit (suc n) e a) (row_items one.mid ++ flat_map row_items rest.mid)) (RowsMoved gs m (suc n) f b (one.mid ∷ rest.mid)) (move_fields c.transfer ms ns 0 (AtAddress x) (Into (q + i * f)) >>= later) w) ea
        (subst (λ y. RunsHonestly c gs (MayStop (RowsFit (suc n) e a) (row_items one.mid ++ flat_map row_items rest.mid)) (RowsMoved gs m (suc n) f b (one.mid ∷ rest.mid)) (move_fields c.transfer ms ns 0 (AtAddress a) (Into y) >>= later) w) eb
        (does_bind (move_fields c.transfer ms ns 0 (AtAddress a) (Into b)) later w
        (fields.by (AtAddress a) (Into b) one.mid gs w m there_from one.first ready (there_to, omega (arith, le, fits), λ j lo hi. live j (omega (arith, lo)) (omega (arith, hi, fits))))
        (λ t cs x. stops_first _ _ (row_items one.mid) (flat_map row_items rest.mid) (λ k. k.0) t cs x)
        (λ k cs us w' o r. does_map (each_from (suc i) n move_row) (λ vs. us ++ vs) w'
        (does_more
        (λ t ds o' x. stops_later _ _ (row_items one.mid) (flat_map row_items rest.mid) cs (λ k. k.1) r.told t ds x)
        (λ l ds vs w'' o' t. row_moved gs m n b one.mid rest.mid k l cs ds us vs w' w'' live r t)
        (rows_move n (suc i) (a + e) (b + f) rest.mid (regions_after gs cs) w' r.leaves.now (omega (arith, ea)) (omega (arith, eb)) rest.first r.leaves.ready
        (omega (arith, le, r.leaves.placed.room)) (λ j lo hi. r.leaves.placed.grows j (live j (omega (arith, lo)) (omega (arith, hi))))))))))
