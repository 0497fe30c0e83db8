-- Lists and maps are moved as the law says, where their elements are.
use Rattle.std.proofs.Common.{◌≡◌, ℕ, zero, suc, ◌+◌, ◌*◌, ◌%◌, ◌^◌, ◌≤◌, ◌<◌, inl, ⊎_elim, Bool, true, false, List, [], ◌∷◌, ◌++◌, length, Some, sym, ap, ◌∙◌, subst, arith, append_assoc}
use Rattle.std.specs.Prelude.{nat_lt, nat_le, ◌==◌, sum_by}
use Rattle.std.specs.List.{flat_map}
use Rattle.std.proofs.lemmas.List.{append-nil}
use Rattle.std.proofs.lemmas.Bool.{false≢true, lt-ltb, ltb-true, leb-true, eqb-true}
use Rattle.fact_types.specs.declared.outside.Trap.TheVariants.{ListOutOfBounds}
use Rattle.fact_types.specs.declared.extents.Extent.{Extent}
use Rattle.fact_types.specs.FlatShapes.{pointer}
use Rattle.fact_types.specs.Shapes.{Members, ends_of}
use Rattle.fact_types.specs.Signatures.{width}
use Rattle.fact_machine.specs.declared.types.CoreValue.{CoreValue}
use Rattle.fact_machine.specs.World.{World}
use Rattle.fact_actions.specs.Actions.{Action, each, unless, ◌>>=◌}
use Rattle.fact_actions.specs.Moves.{entry_extent, move_fields, move_list}
use Rattle.fact_actions.specs.Running.{Call}
use Rattle.fact_actions.specs.Sides.{Source, AtAddress, Target, Into, width_of_side, bytes_of_addresses, write_pair, check_region, reallocate}
use Rattle.fact_types.specs.Adapters.{is_wide}
use Rattle.fact_values.specs.declared.value.Value.{Value}
use Rattle.fact_values.specs.Handles.{each_step}
use Rattle.fact_values.specs.Load.{load_members}
use Rattle.fact_values.specs.Places.{Pair, each_at}
use Rattle.fact_values.specs.Texts.{lies_aligned}
use Rattle.fact_action_laws.specs.Footprints.{HasChanged}
use Rattle.fact_action_laws.specs.Items.{RegionItem, numbers, AreItemCalls}
use Rattle.fact_action_laws.specs.MoveTerms.{HasPointers, MayStop}
use Rattle.fact_action_laws.specs.Places.{from_side, IsSource, IsTarget, IsAtTarget, IsGiven, HoldsMemories, IsGrounded}
use Rattle.fact_actions.specs.Regions.{Region}
use Rattle.fact_action_laws.specs.Regions.{TransferSetting, IsInHand, regions_after}
use Rattle.fact_action_laws.proofs.Judges.{does_bind, does_more, does_unless, regions_append}
use Rattle.fact_action_laws.proofs.MoveLaws.{AreLawfulMoves}
use Rattle.fact_action_laws.proofs.Numbers.{flat_bound}
use Rattle.fact_action_laws.proofs.Pairs.{address_bound, pair_taken, reads_pair, IsPairAt, PairWrote, does_write_pair}
use Rattle.fact_action_laws.proofs.Placing.{leaves_wider, leaves_then}
use Rattle.fact_action_laws.proofs.NewRegions.{NewRegion, does_reallocate, does_check}
use Rattle.fact_action_laws.proofs.Records.{stops_later}
use Rattle.fact_action_laws.proofs.Regional.{leaves_new, no_numbers}
use Rattle.fact_action_laws.proofs.Rows.{row_crosses, row_items, row_weight, RowsStand, RowsMoved, RowsFit, rows_move}
use Rattle.fact_action_laws.proofs.Sums.{target_later}
use Rattle.fact_action_laws.proofs.Targets.{at_live, left_true, right_true}
use Rattle.fact_action_laws.proofs.Telling.{numbers_append, told_append, told_one, begun_none}
use Rattle.fact_action_laws.specs.Judged.{RunsHonestly}

-- an element of a list, as a tuple of members, from one side to the other
pub record ListFit (c : TransferSetting) (ms ns : Members) (q : Pair) : Type 0 where
  pub source : q.count * (entry_extent c.transfer.from ms).size < 2 ^ 32
  pub destination : q.count * (entry_extent c.transfer.to ns).size < 2 ^ 32
  pub each : RowsFit c ms ns q.count (entry_extent c.transfer.from ms).size q.pointer

pub record ListMoved (c : TransferSetting) (gs : List Region) (m : List ℕ) (ms ns : Members) (d : Target) (count : ℕ) (rows : List (List Value)) (k : ℕ) (cs : List Call) (us : List CoreValue) (w : World) : Type 0 where
  pub outs : List (List Value)
  pub at : ℕ
  pub aligned : at % (entry_extent c.transfer.to ns).align ≡ 0
  pub crosses : (rest : List ℕ) → each_step (row_crosses c ms ns) rows (numbers cs ++ rest) ≡ Some (outs, rest)
  pub told : AreItemCalls (RegionItem (entry_extent c.transfer.to ns).align (count * (entry_extent c.transfer.to ns).size) ∷ flat_map (row_items c ms ns) rows) cs
  pub weighs : k ≡ sum_by (row_weight c ms ns) rows
  pub given : IsGiven d us
  pub leaves : HasChanged c gs m (IsAtTarget (2 * bytes_of_addresses c.transfer.to) d)
      (λ b. IsPairAt c at count d us b × (at + count * (entry_extent c.transfer.to ns).size ≤ length b) × RowsStand c ms ns count (entry_extent c.transfer.to ns).size at outs b) cs w

-- a range that is there
pub in_range : (bytes : List ℕ) (align p n : ℕ) → lies_aligned bytes align p n ≡ true → (p % align ≡ 0) × (p + n ≤ length bytes)
in_range bytes align p n h = (eqb-true (p % align) 0 (left_true (p % align == 0) (nat_le (p + n) (length bytes)) h), leb-true (p + n) (length bytes) (right_true (p % align == 0) (nat_le (p + n) (length bytes)) h))

count_small : (b : Bool) (n size : ℕ) → 1 ≤ size → n * size < 2 ^ 32 → n < flat_bound (pointer (width b))
count_small true n (suc k) some h = omega (arith, h)
count_small false n (suc k) some h = omega (arith, h)
count_small b n zero some h = absurd (omega (arith, some))

module _ (c : TransferSetting) (g : IsGrounded c) (has : HasPointers c.transfer.from c.transfer.to) (ms ns : Members) (fields : AreLawfulMoves c ms ns 0) (fits : ends_of (width_of_side c.transfer.to) ns 0 ≤ (entry_extent c.transfer.to ns).size) (some : 1 ≤ (entry_extent c.transfer.to ns).size) where
  abbrev e : Extent
  e = entry_extent c.transfer.from ms

  abbrev f : Extent
  f = entry_extent c.transfer.to ns

  -- the region is filled, and the pair written
  list_done : (gs : List Region) (m : List ℕ) (d : Target) (q : Pair) (rows : List (List Value)) (at k l : ℕ) (cs ds zs : List Call) (us vs : List CoreValue) (w1 w2 w3 : World)
      → IsTarget c (pointer (width (is_wide c.transfer.to.memory)) ∷ pointer (width (is_wide c.transfer.to.memory)) ∷ []) (2 * bytes_of_addresses c.transfer.to) (IsInHand c gs) m d
      → (r : NewRegion c gs m f.align (q.count * f.size) at cs w1) → (t : RowsMoved c ms ns (regions_after gs cs) r.now q.count f.size at rows k ds us w2)
      → PairWrote c (regions_after (regions_after gs cs) ds) t.leaves.now at q.count d l zs vs w3 → ListMoved c gs m ms ns d q.count rows (k + l) (cs ++ (ds ++ zs)) vs w3
  list_done gs m d q rows at k l cs ds zs us vs w1 w2 w3 target r t p =
      let none : ds ++ zs ≡ ds = ap (λ x. ds ++ x) p.quiet ∙ append-nil ds in
      let new = leaves_new r t.leaves in
      record {
        outs = t.outs;
        at = at;
        aligned = r.aligned;
        crosses = λ rest. ap (λ x. each_step (row_crosses c ms ns) rows (x ++ rest)) (numbers_append cs (ds ++ zs) ∙ ap (λ x. x ++ numbers (ds ++ zs)) (no_numbers cs r.told.crosses) ∙ ap (λ x. numbers x) none) ∙ t.crosses rest;
        told = told_append (RegionItem f.align (q.count * f.size) ∷ []) (flat_map (row_items c ms ns) rows) cs (ds ++ zs) (told_one (RegionItem f.align (q.count * f.size)) cs r.told) (subst (AreItemCalls (flat_map (row_items c ms ns) rows)) (sym none) t.told);
        weighs = ap (λ x. k + x) p.weightless ∙ omega (arith, t.weighs);
        given = p.given;
        leaves = subst (λ l. HasChanged c gs m (IsAtTarget (2 * bytes_of_addresses c.transfer.to) d) (λ b. IsPairAt c at q.count d vs b × (at + q.count * f.size ≤ length b) × RowsStand c ms ns q.count f.size at t.outs b) l w3) (append_assoc cs ds zs)
            (leaves_wider (λ j. ⊎_elim (λ x. absurd x) (λ x. x)) (λ b h. (h.1, h.0.1, h.0.0))
            (leaves_then (λ j x y. absurd x) (λ j x. absurd x) (λ j x. at_live c (pointer (width (is_wide c.transfer.to.memory)) ∷ pointer (width (is_wide c.transfer.to.memory)) ∷ []) (2 * bytes_of_addresses c.transfer.to) (IsInHand c gs) m d target j x) new
            (subst (λ rs. HasChanged c rs t.leaves.now (IsAtTarget (2 * bytes_of_addresses c.transfer.to) d) (λ b. IsPairAt c at q.count d vs b) zs w3) (sym (regions_append gs cs ds)) p.leaves)));
      }

  -- the law of lists and maps, with their elements as tuples
  pub list_moves : (s : Source) (d : Target) (n : ℕ) (q : Pair) (rows : List (List Value)) (Fit : Type 0) (gs : List Region) (w : World) (m : List ℕ) → IsSource c n s → pair_taken c s ≡ Some q
      → lies_aligned c.source e.align q.pointer (q.count * e.size) ≡ true → each_at q.count e.size (λ a. load_members (from_side c) c.source ms a 0) q.pointer ≡ Some rows → (Fit → ListFit c ms ns q) → HoldsMemories c m w
      → IsTarget c (pointer (width (is_wide c.transfer.to.memory)) ∷ pointer (width (is_wide c.transfer.to.memory)) ∷ []) (2 * bytes_of_addresses c.transfer.to) (IsInHand c gs) m d
      → RunsHonestly c gs (MayStop Fit (RegionItem f.align (q.count * f.size) ∷ flat_map (row_items c ms ns) rows)) (ListMoved c gs m ms ns d q.count rows) (move_list c.transfer ms ns (λ s d. move_fields c.transfer ms ns 0 s d) s d) w
  list_moves s d n q rows Fit gs w m is h range loads fit ready target =
      let its = flat_map (row_items c ms ns) rows in
      let all = RegionItem f.align (q.count * f.size) ∷ its in
      let element : Source → Target → Action (List CoreValue) = λ s d. move_fields c.transfer ms ns 0 s d in
      let ends : ℕ → ℕ → List CoreValue → Action (List CoreValue) = λ at n vs. write_pair c.transfer.to d at n in
      let filled : ℕ → ℕ → ℕ → Action (List CoreValue) = λ p n at. each n (λ i. element (AtAddress (p + i * e.size)) (Into (at + i * f.size))) >>= (λ vs. write_pair c.transfer.to d at n) in
      let made : ℕ → ℕ → Action (List CoreValue) = λ p n. reallocate c.transfer.concurrency c.transfer.to ListOutOfBounds 0 0 f.align (n * f.size) (filled p n) in
      let checked : ℕ → ℕ → Action (List CoreValue) = λ p n. check_region c.transfer.from ListOutOfBounds p (n * e.size) e.align (made p n) in
      let second : ℕ → ℕ → Action (List CoreValue) = λ p n. unless ListOutOfBounds (nat_lt (n * f.size) (2 ^ 32)) (checked p n) in
      let r = in_range c.source e.align q.pointer (q.count * e.size) range in
      reads_pair g n s q (λ p n. unless ListOutOfBounds (nat_lt (n * e.size) (2 ^ 32)) (second p n)) w is ready.from h
      (does_unless ListOutOfBounds (nat_lt (q.count * e.size) (2 ^ 32)) (begun_none all) (λ no cs k. absurd (false≢true (sym no ∙ lt-ltb (q.count * e.size) (2 ^ 32) (fit k).source))) (λ ok1.
      does_unless ListOutOfBounds (nat_lt (q.count * f.size) (2 ^ 32)) (begun_none all) (λ no cs k. absurd (false≢true (sym no ∙ lt-ltb (q.count * f.size) (2 ^ 32) (fit k).destination))) (λ ok2.
      does_check c.transfer.from c.transfer.from.memory ListOutOfBounds q.pointer (q.count * e.size) e.align (made q.pointer q.count) w c.source has.from ready.from r.0 r.1
      (does_reallocate c m f.align (q.count * f.size) ListOutOfBounds (filled q.pointer q.count) gs (MayStop Fit all) (ListMoved c gs m ms ns d q.count rows) w ready has.to has.realloc (λ cs b. inl b)
      (λ at cs w1 new.
      let small : q.count * f.size < 2 ^ 32 = ltb-true (q.count * f.size) (2 ^ 32) ok2 in
      does_bind (each q.count (λ i. element (AtAddress (q.pointer + i * e.size)) (Into (at + i * f.size)))) (λ vs. write_pair c.transfer.to d at q.count) w1
      (rows_move c ms ns has.from has.to fields q.pointer at e.size f.size fits q.count 0 q.pointer at rows (regions_after gs cs) w1 new.now (omega arith) (omega arith) loads new.ready new.inside (λ j lo hi. (new.made.fresh j (lo, hi)).0))
      (λ t ds x. stops_later _ Fit (RegionItem f.align (q.count * f.size) ∷ []) its cs (λ k. (fit k).each) (told_one (RegionItem f.align (q.count * f.size)) cs new.told) t ds x)
      (λ k ds us w2 o t. does_more (λ t zs o2 x. absurd x)
      (λ l zs vs w3 o2 p. list_done gs m d q rows at k l cs ds zs us vs w1 w2 w3 target new t p)
      (does_write_pair {H = λ s cs. ⊥} g at q.count d t.leaves.now w2 t.leaves.ready
      (target_later c (pointer (width (is_wide c.transfer.to.memory)) ∷ pointer (width (is_wide c.transfer.to.memory)) ∷ []) (2 * bytes_of_addresses c.transfer.to) (IsInHand c gs) (IsInHand c (regions_after (regions_after gs cs) ds)) m t.leaves.now d
      (omega (arith, new.made.room, t.leaves.placed.room)) (λ j live. t.leaves.placed.grows j (new.made.grows j live)) target)
      (subst (λ z. at < z) (address_bound (is_wide c.transfer.to.memory)) new.small) (count_small (is_wide c.transfer.to.memory) q.count f.size some small))))))))
