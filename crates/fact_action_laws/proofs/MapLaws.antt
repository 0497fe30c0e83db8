-- Maps are moved as the law says.
use Rattle.std.proofs.Common.{◌≡◌, ℕ, ◌+◌, ◌*◌, ◌%◌, ◌≤◌, false, List, [], ◌∷◌, ◌++◌, length, map, Option, Some, None, refl, sym, ap, ◌∙◌, subst, arith}
use Rattle.std.specs.Prelude.{sum_by, option_map}
use Rattle.std.specs.List.{flat_map}
use Rattle.fact_types.specs.declared.extents.Extent.{Extent}
use Rattle.fact_types.specs.FlatShapes.{pointer}
use Rattle.fact_types.specs.Shapes.{k_map, Shape, s_node, Members, no_members, typed}
use Rattle.fact_types.specs.Signatures.{width}
use Rattle.fact_types.specs.Valid.{IsValid, AreDistinct}
use Rattle.fact_types.proofs.PlaceLaws.{ends_within}
use Rattle.fact_types.proofs.ShapeLaws.{same_some, none_some}
use Rattle.fact_machine.specs.declared.types.CoreValue.{CoreValue}
use Rattle.fact_actions.specs.Actions.{Visit}
use Rattle.fact_actions.specs.Moves.{move, move_fields, move_list, entry_extent}
use Rattle.fact_actions.specs.Sides.{Source, Values, AtAddress, Target, Slots, Into, width_of_side}
use Rattle.fact_types.specs.Adapters.{is_wide}
use Rattle.fact_values.specs.declared.side.SideAbi.{SideAbi}
use Rattle.fact_values.specs.declared.value.Value.{Value, out-Value}
use Rattle.fact_values.specs.declared.value.Value.TheVariants as value
use Rattle.fact_values.specs.Canonical.{ThereIs, EachAt, IsCanonicalAt, IsCanonicalFlat, AreCanonicalAt}
use Rattle.fact_values.specs.Carry.{take_number}
use Rattle.fact_values.specs.Handles.{cross, cross_places, each_step, then_step, done_step, given}
use Rattle.fact_values.specs.Lift.{lift_leading, leading_pair}
use Rattle.fact_values.specs.Limits.{IsWithinLimits, IsWithinAt, AreWithinAt, IsListWithin}
use Rattle.fact_values.specs.Load.{load, load_members, map_value, elements_of, entry_of}
use Rattle.fact_types.specs.Options.{◌>>=◌}
use Rattle.fact_values.specs.Opened.{map_entries_in}
use Rattle.fact_values.specs.Places.{Pair, pair_at}
use Rattle.fact_values.specs.Weight.{weight, weight_members, weight_in}
use Rattle.fact_action_laws.specs.Items.{RegionItem, items, items_places, of_some, numbers, AreItemCalls}
use Rattle.fact_action_laws.specs.MoveTerms.{HasPointers, moving, IsFit, IsMoved, MayStop}
use Rattle.fact_action_laws.specs.Places.{from_side, to_side, value_at_source, IsTarget, IsAtTarget, StandsAtTarget, IsGrounded}
use Rattle.fact_action_laws.specs.Regions.{TransferSetting, IsInHand}
use Rattle.fact_action_laws.proofs.Elements.{each_at_map, each_map, flat_each, sum_each, length_each, takes_some}
use Rattle.fact_action_laws.proofs.Judges.{does_visit, does_more}
use Rattle.fact_action_laws.proofs.MoveLaws.{AreLawfulMoves}
use Rattle.fact_action_laws.proofs.ListLaws.{ElementsOf, elements_are, elements_stand, behind_flat, behind_memory, pair_size}
use Rattle.fact_action_laws.proofs.Lists.{ListFit, list_moves}
use Rattle.fact_action_laws.proofs.Pairs.{pair_taken, IsPairAt}
use Rattle.fact_action_laws.proofs.Placing.{leaves_wider}
use Rattle.fact_action_laws.proofs.Plain.{both, does_aligned}
use Rattle.fact_action_laws.proofs.Products.{mapped}
use Rattle.fact_action_laws.proofs.Rows.{row_crosses, row_items, row_weight, RowsStand}
use Rattle.fact_action_laws.proofs.Tuples.{crosses_alike, items_alike, weighs_alike}
use Rattle.fact_action_laws.specs.Judged.{RunsHonestly}
use Rattle.fact_action_laws.specs.MoveLaws.{IsLawfulMove}

-- ---- entries

abbrev pub two : (x y : List ℕ) → Shape → Shape → Members
two x y k w = typed x k (typed y w no_members)

-- an entry as a tuple of two members
abbrev pub pair_row : Value × Value → List Value
pair_row e = e.0 ∷ e.1 ∷ []

abbrev pub unpair : List Value → Value × Value
unpair (a ∷ (b ∷ vs)) = (a, b)
unpair (a ∷ []) = (a, a)
unpair [] = (value.Bool false, value.Bool false)

-- the entry that members make
abbrev pub entry_at : SideAbi → List ℕ → Members → ℕ → Option (Value × Value)
entry_at side bytes ms a = (load_members side bytes ms a 0) >>= (λ vs. entry_of vs)

entry_row : (vs : List Value) (e : Value × Value) → entry_of vs ≡ Some e → vs ≡ pair_row e
entry_row [] e h = absurd (none_some None e refl h)
entry_row (a ∷ []) e h = absurd (none_some None e refl h)
entry_row (a ∷ (b ∷ [])) e h = ap pair_row (same_some (Some (a, b)) (a, b) e refl h)
entry_row (a ∷ (b ∷ (d ∷ vs))) e h = absurd (none_some None e refl h)

pub entry_loads : (side : SideAbi) (bytes : List ℕ) (ms : Members) (a : ℕ) (e : Value × Value) → entry_at side bytes ms a ≡ Some e → load_members side bytes ms a 0 ≡ Some (pair_row e)
entry_loads side bytes ms a e h =
    let b = both (load_members side bytes ms a 0) (λ vs. entry_of vs) e h in b.first ∙ ap (λ l. Some l) (entry_row b.mid e b.last)

pub members_load : (side : SideAbi) (bytes : List ℕ) (x y : List ℕ) (k w : Shape) (a : ℕ) (r : List Value) → load_members side bytes (two x y k w) a 0 ≡ Some r → entry_at side bytes (two x y k w) a ≡ Some (unpair r)
unfolding load_members
members_load side bytes x y k w a r h =
    let first = both (load side bytes k _) _ r h in
    let rest = both ((load side bytes w _) >>= (λ v. Some (v ∷ []))) _ r first.last in
    let second = both (load side bytes w _) (λ v. Some (v ∷ [])) rest.mid rest.first in
    let is : r ≡ first.mid ∷ second.mid ∷ [] = same_some (Some r) r (first.mid ∷ second.mid ∷ []) refl (sym rest.last ∙ ap (λ l. Some (first.mid ∷ l)) (same_some (Some rest.mid) rest.mid (second.mid ∷ []) refl (sym second.last))) in
    ap (λ o. o >>= (λ vs. entry_of vs)) (h ∙ ap (λ l. Some l) is) ∙ ap (λ l. Some (unpair l)) (sym is)

-- what crosses as a tuple of two has two values
two_cross : (x y z t : List ℕ) (k1 w1 k2 w2 : Shape) (vs : List Value) (a b : List ℕ) (r : List Value) → cross_places take_number (two x y k1 w1) vs (two z t k2 w2) a ≡ Some (r, b) → entry_of r ≡ Some (unpair r)
unfolding cross_places
two_cross x y z t k1 w1 k2 w2 [] a b r h = absurd (none_some None (r, b) refl h)
two_cross x y z t k1 w1 k2 w2 (v ∷ []) a b r h =
    let first = both (cross take_number k1 k2 v a) _ (r, b) h in absurd (none_some None (r, b) refl first.last)
two_cross x y z t k1 w1 k2 w2 (v ∷ (u ∷ us)) a b r h =
    let first = both (cross take_number k1 k2 v a) _ (r, b) h in
    let rest = both ((cross take_number w1 w2 u first.mid.1) >>= (λ q. Some (q.0 ∷ [], q.1))) _ (r, b) first.last in
    let second = both (cross take_number w1 w2 u first.mid.1) (λ q. Some (q.0 ∷ [], q.1)) rest.mid rest.first in
    let tail : rest.mid.0 ≡ second.mid.0 ∷ [] = ap (λ q. q.0) (same_some (Some rest.mid) rest.mid (second.mid.0 ∷ [], second.mid.1) refl (sym second.last)) in
    let is : r ≡ first.mid.0 ∷ second.mid.0 ∷ [] = ap (λ q. q.0) (same_some (Some (r, b)) (r, b) (first.mid.0 ∷ rest.mid.0, rest.mid.1) refl (sym rest.last)) ∙ ap (λ l. first.mid.0 ∷ l) tail in
    ap entry_of is ∙ ap (λ l. Some (unpair l)) (sym is)

module _ (c : TransferSetting) (k1 w1 k2 w2 : Shape) (distinct : AreDistinct ((0 ∷ []) ∷ (1 ∷ []) ∷ [])) where
  abbrev ms : Members
  ms = two (0 ∷ []) (1 ∷ []) k1 w1

  abbrev ns : Members
  ns = two (0 ∷ []) (1 ∷ []) k2 w2

  abbrev places : List Value → List ℕ → Option (List Value × List ℕ)
  places vs a = cross_places take_number ms vs ns a

  abbrev entry_step : Value × Value → List ℕ → Option ((Value × Value) × List ℕ)
  entry_step e a = then_step (places (pair_row e)) (λ us. given (entry_of us) done_step) a

  pair_crossed : (e : Value × Value) (a b : List ℕ) (r : List Value) → row_crosses c ms ns (pair_row e) a ≡ Some (r, b) → entry_step e a ≡ Some (unpair r, b)
  pair_crossed e a b r h =
      let p = sym (crosses_alike ms ns (pair_row e) refl distinct tt tt refl a) ∙ h in
      ap (λ o. o >>= (λ q. given (entry_of q.0) done_step q.1)) p ∙ ap (λ o. given o done_step b) (two_cross (0 ∷ []) (1 ∷ []) (0 ∷ []) (1 ∷ []) k1 w1 k2 w2 (pair_row e) a b r p)

  pair_asks : (e : Value × Value) → row_items c ms ns (pair_row e) ≡ items_places (to_side c) ms (pair_row e) ns
  pair_asks e = items_alike (to_side c) ms ns (pair_row e) refl distinct tt tt refl

  pair_weighs : (e : Value × Value) → row_weight c ms ns (pair_row e) ≡ weight_members ms (pair_row e)
  pair_weighs e = weighs_alike ms ns (pair_row e) refl distinct tt tt refl

-- ---- maps

pub record MapTaken (c : TransferSetting) (ms : Members) (src : Source) (v : Value) : Type 0 where
  pub pair : Pair
  pub at : pair_taken c src ≡ Some pair
  pub entries : List (Value × Value)
  pub elements : ElementsOf c.source (entry_extent c.transfer.from ms) (entry_at (from_side c) c.source ms) pair entries
  pub is : value.Map entries ≡ v

pub map_taken : (c : TransferSetting) (ms : Members) (src : Source) (v : Value) → value_at_source c (s_node k_map ms) src ≡ Some v → MapTaken c ms src v
unfolding load lift_leading load_members
map_taken c ms (Values vs) v h =
    let q = both (leading_pair (from_side c) vs) _ v h in
    let r = mapped (elements_of (from_side c) c.source k_map ms (entry_at (from_side c) c.source ms) q.mid) (λ es. value.Map es) v q.last in
    record { pair = q.mid; at = q.first; entries = r.mid; elements = elements_are (from_side c) c.source k_map ms (entry_at (from_side c) c.source ms) q.mid r.mid r.first; is = r.is }
map_taken c ms (AtAddress a) v h =
    let q = both (pair_at (from_side c) c.source a) _ v h in
    let r = mapped (elements_of (from_side c) c.source k_map ms (entry_at (from_side c) c.source ms) q.mid) (λ es. value.Map es) v q.last in
    record { pair = q.mid; at = q.first; entries = r.mid; elements = elements_are (from_side c) c.source k_map ms (entry_at (from_side c) c.source ms) q.mid r.mid r.first; is = r.is }

module _ (c : TransferSetting) (k1 w1 k2 w2 : Shape) (distinct : AreDistinct ((0 ∷ []) ∷ (1 ∷ []) ∷ [])) where
  abbrev from_ms : Members
  from_ms = two (0 ∷ []) (1 ∷ []) k1 w1

  abbrev to_ns : Members
  to_ns = two (0 ∷ []) (1 ∷ []) k2 w2

  map_stands : (at count : ℕ) (outs : List (List Value)) (d : Target) (us : List CoreValue) (b : List ℕ) → at % (entry_extent c.transfer.to to_ns).align ≡ 0 → IsPairAt c at count d us b
      → at + count * (entry_extent c.transfer.to to_ns).size ≤ length b → RowsStand c from_ms to_ns count (entry_extent c.transfer.to to_ns).size at outs b → StandsAtTarget c (s_node k_map to_ns) (value.Map (map unpair outs)) d us b
  unfolding load lift_leading load_members IsCanonicalAt IsCanonicalFlat AreCanonicalAt
  map_stands at count outs d us b e h le rows = go d h
    where
      x : Extent
      x = entry_extent c.transfer.to to_ns

      loaded : map_value (to_side c) b to_ns (λ a. load_members (to_side c) b to_ns a 0) (record { pointer = at; count = count }) ≡ Some (value.Map (map unpair outs))
      loaded = ap (option_map (λ es. value.Map es)) (elements_stand (to_side c) b k_map to_ns (entry_at (to_side c) b to_ns) (record { pointer = at; count = count }) (map unpair outs) e le
          (each_at_map count x.size (λ a. load_members (to_side c) b to_ns a 0) (entry_at (to_side c) b to_ns) unpair (λ a r l. members_load (to_side c) b (0 ∷ []) (1 ∷ []) k2 w2 a r l) at outs rows.0))

      go : (d : Target) → IsPairAt c at count d us b → StandsAtTarget c (s_node k_map to_ns) (value.Map (map unpair outs)) d us b
      go (Into a) h = behind_memory c at count a us b (λ q. map_value (to_side c) b to_ns (λ a. load_members (to_side c) b to_ns a 0) q) (λ p. EachAt p.count x.size (λ a. AreCanonicalAt (to_side c) b to_ns a 0) p.pointer) (value.Map (map unpair outs)) h loaded rows.1
      go (Slots ts) h = behind_flat c at count ts us b (λ q. map_value (to_side c) b to_ns (λ a. load_members (to_side c) b to_ns a 0) q) (λ p. EachAt p.count x.size (λ a. AreCanonicalAt (to_side c) b to_ns a 0) p.pointer) (value.Map (map unpair outs)) h loaded rows.1

  map_fit : (src : Source) (q : Pair) → pair_taken c src ≡ Some q → IsFit c (s_node k_map from_ms) (s_node k_map to_ns) src → ListFit c from_ms to_ns q
  unfolding IsWithinLimits IsWithinAt AreWithinAt
  map_fit src q at fit = from_parts (go src at fit)
    where
      go : (src : Source) → pair_taken c src ≡ Some q → IsFit c (s_node k_map from_ms) (s_node k_map to_ns) src → IsListWithin (moving c) k_map from_ms to_ns (λ a. AreWithinAt (moving c) from_ms to_ns a) q
      go (Values vs) at fit = subst (λ o. ThereIs o (IsListWithin (moving c) k_map from_ms to_ns (λ a. AreWithinAt (moving c) from_ms to_ns a))) at fit
      go (AtAddress a) at fit = subst (λ o. ThereIs o (IsListWithin (moving c) k_map from_ms to_ns (λ a. AreWithinAt (moving c) from_ms to_ns a))) at fit

      from_parts : IsListWithin (moving c) k_map from_ms to_ns (λ a. AreWithinAt (moving c) from_ms to_ns a) q → ListFit c from_ms to_ns q
      from_parts l = record { source = l.source; destination = l.destination; each = l.each }

  entries_of_map : (es : List (Value × Value)) → map_entries_in (out-Value (value.Map es)) ≡ Some es
  entries_of_map es = ap map_entries_in (value.outs-Map es)

  map_crosses : (es us : List (Value × Value)) (a b : List ℕ) → each_step (entry_step c k1 w1 k2 w2 distinct) es a ≡ Some (us, b) → cross take_number (s_node k_map from_ms) (s_node k_map to_ns) (value.Map es) a ≡ Some (value.Map us, b)
  unfolding cross cross_places
  map_crosses es us a b h =
      ap (λ o. given o (λ es. then_step (each_step (entry_step c k1 w1 k2 w2 distinct) es) (λ fs. done_step (value.Map fs))) a) (entries_of_map es)
      ∙ ap (λ o. o >>= (λ r. done_step (value.Map r.0) r.1)) h

  map_items : (es : List (Value × Value)) → items (to_side c) (s_node k_map from_ms) (s_node k_map to_ns) (value.Map es)
      ≡ RegionItem (entry_extent c.transfer.to to_ns).align (length es * (entry_extent c.transfer.to to_ns).size) ∷ flat_map (λ e. items_places (to_side c) from_ms (pair_row e) to_ns) es
  unfolding items items_places
  map_items es = ap (λ o. of_some o (λ es. RegionItem (entry_extent c.transfer.to to_ns).align (length es * (entry_extent c.transfer.to to_ns).size) ∷ flat_map (λ e. items_places (to_side c) from_ms (pair_row e) to_ns) es)) (entries_of_map es)

  map_weighs : (es : List (Value × Value)) → weight (s_node k_map from_ms) (value.Map es) ≡ 1 + sum_by (λ e. weight_members from_ms (pair_row e)) es
  unfolding weight weight_members
  map_weighs es = ap (λ o. 1 + weight_in (sum_by (λ e. weight_members from_ms (pair_row e))) o) (entries_of_map es)

  pub map_law : IsGrounded c → HasPointers c.transfer.from c.transfer.to → IsValid k2 → AreLawfulMoves c from_ms to_ns 0 → IsLawfulMove c (s_node k_map from_ms) (s_node k_map to_ns)
  unfolding move
  map_law g has valid fields = record {
    by = λ src d v gs w m is h ready target.
        let t = map_taken c from_ms src v h in
        let e = entry_extent c.transfer.from from_ms in
        let f = entry_extent c.transfer.to to_ns in
        let rows = map pair_row t.entries in
        let count : length t.entries ≡ t.pair.count = length_each t.pair.count e.size (entry_at (from_side c) c.source from_ms) t.pair.pointer t.entries t.elements.each in
        let its = items (to_side c) (s_node k_map from_ms) (s_node k_map to_ns) (value.Map t.entries) in
        let same : RegionItem f.align (t.pair.count * f.size) ∷ flat_map (row_items c from_ms to_ns) rows ≡ its =
        ap (λ l. RegionItem f.align (t.pair.count * f.size) ∷ l) (flat_each (row_items c from_ms to_ns) (λ e. items_places (to_side c) from_ms (pair_row e) to_ns) pair_row (pair_asks c k1 w1 k2 w2 distinct) t.entries)
        ∙ ap (λ n. RegionItem f.align (n * f.size) ∷ flat_map (λ e. items_places (to_side c) from_ms (pair_row e) to_ns) t.entries) (sym count) ∙ sym (map_items t.entries) in
        let loads = each_at_map t.pair.count e.size (entry_at (from_side c) c.source from_ms) (λ a. load_members (from_side c) c.source from_ms a 0) pair_row (λ a x l. entry_loads (from_side c) c.source from_ms a x l) t.pair.pointer t.entries t.elements.each in
        let fits = ends_within (width_of_side c.transfer.to) to_ns in
        subst (λ v. RunsHonestly c gs (MayStop (IsFit c (s_node k_map from_ms) (s_node k_map to_ns) src) (items (to_side c) (s_node k_map from_ms) (s_node k_map to_ns) v)) (IsMoved c gs m (s_node k_map from_ms) (s_node k_map to_ns) d v) (move c.transfer (s_node k_map from_ms) (s_node k_map to_ns) src d) w) t.is
        (does_aligned g (s_node k_map from_ms) (s_node k_map to_ns) src d (Visit 1 (move_list c.transfer from_ms to_ns (λ s' d'. move_fields c.transfer from_ms to_ns 0 s' d') src d)) w
        (does_visit (does_more
        (λ r cs o x. subst (λ is. MayStop (IsFit c (s_node k_map from_ms) (s_node k_map to_ns) src) is r cs) same x)
        (λ k cs us w' o r. record {
          out = value.Map (map unpair r.outs);
          carried = record {
            crosses = λ rest. map_crosses t.entries (map unpair r.outs) (numbers cs ++ rest) rest
                (each_map (row_crosses c from_ms to_ns) (entry_step c k1 w1 k2 w2 distinct) pair_row unpair (λ x a b z y. pair_crossed c k1 w1 k2 w2 distinct x a b z y) t.entries r.outs (numbers cs ++ rest) rest (r.crosses rest));
            told = subst (λ is. AreItemCalls is cs) same r.told;
            weighs = ap (λ i. 1 + i) (r.weighs ∙ sum_each (row_weight c from_ms to_ns) (λ e. weight_members from_ms (pair_row e)) pair_row (pair_weighs c k1 w1 k2 w2 distinct) t.entries) ∙ sym (map_weighs t.entries);
          };
          given = r.given;
          leaves = leaves_wider (λ j a. subst (λ z. IsAtTarget z d j) (sym (pair_size c.transfer.to)) a) (λ b a. map_stands r.at t.pair.count r.outs d us b r.aligned a.0 a.1 a.2) r.leaves;
        })
        (list_moves c g has from_ms to_ns fields fits (omega (arith, takes_some (width_of_side c.transfer.to) (0 ∷ []) k2 (typed (1 ∷ []) w2 no_members) valid, fits)) src d _ t.pair rows (IsFit c (s_node k_map from_ms) (s_node k_map to_ns) src) gs w m is t.at
        t.elements.range loads (λ k. map_fit src t.pair t.at k) ready
        (subst (λ z. IsTarget c (pointer (width (is_wide c.transfer.to.memory)) ∷ pointer (width (is_wide c.transfer.to.memory)) ∷ []) z (IsInHand c gs) m d) (pair_size c.transfer.to) target)))));
  }
