-- Lists of fixed length are moved as the law says, and not where they do not lift.
use Rattle.std.proofs.Common.{◌≡◌, ℕ, zero, suc, ◌+◌, ◌*◌, ◌≤◌, ◌<◌, List, [], ◌∷◌, ◌++◌, length, map, take, drop, Option, Some, None, refl, sym, ap, ◌∙◌, subst, arith, length-append, length-take, length-drop, take-append-drop}
use Rattle.std.specs.Prelude.{sum_by, option_map}
use Rattle.std.specs.List.{flat_map}
use Rattle.fact_wasm.specs.declared.types.ValType.{ValType}
use Rattle.fact_types.specs.declared.abi.CanonicalAbiInfo.{CanonicalAbiInfo}
use Rattle.fact_types.specs.declared.extents.MemoryWidth.{MemoryWidth}
use Rattle.fact_types.specs.declared.extents.MemoryWidth.TheVariants.{Memory32, Memory64}
use Rattle.fact_types.specs.FlatShapes.{flat, flat_members, times}
use Rattle.fact_types.specs.Layout.{extent, fixed_list_layout}
use Rattle.fact_types.specs.Shapes.{k_fixed, Shape, s_node, layout_of}
use Rattle.fact_types.specs.Signatures.{width}
use Rattle.fact_types.proofs.PlaceLaws.{ends_within}
use Rattle.fact_types.proofs.ShapeLaws.{same_some, none_some}
use Rattle.fact_machine.specs.declared.types.CoreValue.{CoreValue}
use Rattle.fact_actions.specs.Actions.{Visit}
use Rattle.fact_actions.specs.Moves.{move, move_fields, move_fixed, entry_extent}
use Rattle.fact_actions.specs.Sides.{Source, Values, AtAddress, Target, Slots, Into, width_of_side}
use Rattle.fact_values.specs.declared.side.SideAbi.{SideAbi}
use Rattle.fact_values.specs.declared.value.Value.{Value}
use Rattle.fact_values.specs.declared.value.Value.TheVariants as value
use Rattle.fact_values.specs.Canonical.{EachAt, EachOf, IsCanonicalAt, IsCanonicalFlat, AreCanonicalFlat, IsCanonicalElementAt, IsCanonicalElementFlat}
use Rattle.fact_values.specs.Carry.{take_number}
use Rattle.fact_values.specs.Handles.{cross, cross_element, each_step, then_step, done_step, given}
use Rattle.fact_values.specs.Lift.{lift_leading, lift_members, lift_element, each_of}
use Rattle.fact_values.specs.Limits.{IsWithinLimits, IsWithinAt, AreWithinLimits, IsElementWithin, IsElementWithinAt}
use Rattle.fact_values.specs.Load.{load, load_members, load_element}
use Rattle.fact_types.specs.Options.{◌>>=◌}
use Rattle.fact_values.specs.Opened.{elements_in}
use Rattle.fact_values.specs.Places.{each_at}
use Rattle.fact_values.specs.Weight.{weight, weight_element, weight_in}
use Rattle.fact_action_laws.specs.Items.{items, items_element, of_some, numbers, AreItemCalls}
use Rattle.fact_action_laws.specs.MoveTerms.{size_on, moving, IsFit, IsWellFormed, IsMoved, MayStop}
use Rattle.fact_action_laws.specs.Places.{from_side, to_side, value_at_source, IsSource, IsTarget, IsGiven, IsAtTarget, StandsAtTarget, IsGrounded}
use Rattle.fact_action_laws.specs.Regions.{TransferSetting, IsInHand}
use Rattle.fact_action_laws.proofs.Elements.{each_map, flat_each, sum_each}
use Rattle.fact_action_laws.proofs.Fields.{part_lifts, members_taken}
use Rattle.fact_action_laws.proofs.Flats.{value_leads, length-times}
use Rattle.fact_action_laws.proofs.Judges.{does_visit, does_more}
use Rattle.fact_action_laws.proofs.MoveLaws.{AreLawfulMoves}
use Rattle.fact_action_laws.proofs.ListLaws.{one, row, unrow, element_loads, row_loads, row_crossed, row_asks, row_weighs, row_canonical, from_extent, to_extent, element_fit}
use Rattle.fact_action_laws.proofs.Placing.{leaves_wider}
use Rattle.fact_action_laws.proofs.Plain.{both, does_aligned}
use Rattle.fact_action_laws.proofs.Products.{mapped, fit_less}
use Rattle.fact_action_laws.proofs.Refusals.{RefusesFields, never_visit}
use Rattle.fact_action_laws.proofs.Rows.{row_crosses, row_items, row_weight}
use Rattle.fact_action_laws.proofs.Spans.{parts_from, spots_from, flats_from, flats_to, spans_taken, SpansFit, IsSpansTarget, InSpans, SpansStand, spans_move, spans_never}
use Rattle.fact_action_laws.proofs.Targets.{hold_length, values_length}
use Rattle.fact_action_laws.specs.Judged.{RunsHonestly}
use Rattle.fact_action_laws.specs.MoveLaws.{IsLawfulMove, Refuses}

-- ---- one member

one_flat : (w : MemoryWidth) (s : Shape) → length (flat_members w (one [] s)) ≡ length (flat w s)
one_flat w s = length-append (flat w s) [] ∙ omega arith

take_twice : {A : Type 0} (n : ℕ) (xs : List A) → take n (take n xs) ≡ take n xs
take_twice zero xs = refl
take_twice (suc n) [] = refl
take_twice (suc n) (x ∷ xs) = ap (λ l. x ∷ l) (take_twice n xs)

lifts_row : (side : SideAbi) (bytes : List ℕ) (s : Shape) (cs : List CoreValue) (v : Value) → lift_leading side bytes s cs ≡ Some v → lift_members side bytes (one [] s) cs ≡ Some (row v)
unfolding lift_members
lifts_row side bytes s cs v h = ap (λ o. o >>= (λ v. Some (v ∷ []))) h

row_lifts : (side : SideAbi) (bytes : List ℕ) (s : Shape) (cs : List CoreValue) (r : List Value) → lift_members side bytes (one [] s) cs ≡ Some r → lift_leading side bytes s cs ≡ Some (unrow r)
unfolding lift_members
row_lifts side bytes s cs r h =
    let b = both (lift_leading side bytes s cs) (λ v. Some (v ∷ [])) r h in
    b.first ∙ ap (λ r. Some (unrow r)) (same_some (Some (b.mid ∷ [])) (b.mid ∷ []) r refl b.last)

-- a value that as many core values as it needs stand for is that of all
pub leads_back : (side : SideAbi) (bytes : List ℕ) (s : Shape) (n : ℕ) (vs : List CoreValue) → IsWellFormed s → n ≡ length (flat (width side.memory64) s) → n ≤ length vs → lift_leading side bytes s vs ≡ lift_leading side bytes s (take n vs)
leads_back side bytes s n vs formed e le =
    ap (λ cs. lift_leading side bytes s cs) (sym (take-append-drop n vs)) ∙ value_leads side bytes s formed (take n vs) (drop n vs) (omega (arith, length-take n vs, le, e))

fixed_size : (w : MemoryWidth) (l : CanonicalAbiInfo) (n : ℕ) → (extent w (fixed_list_layout l n)).size ≡ n * (extent w l).size
fixed_size Memory32 l n = omega arith
fixed_size Memory64 l n = omega arith

module _ (c : TransferSetting) (s u : Shape) (formed_s : IsWellFormed s) (formed_u : IsWellFormed u) (e f : ℕ) where
  -- ---- elements at a source

  flat_spans : (n : ℕ) (vs : List CoreValue) (xs : List Value) → n * flats_from c (one [] s) (one [] u) ≤ length vs → each_of n (flats_from c (one [] s) (one [] u)) (λ cs. lift_leading (from_side c) c.source s cs) vs ≡ Some xs
      → spans_taken c (one [] s) (one [] u) e f n (Values vs) ≡ Some (map row xs)
  flat_spans zero vs xs le h = ap (λ l. Some (map row l)) (same_some (Some []) [] xs refl h)
  flat_spans (suc n) vs xs le h =
      let F = flats_from c (one [] s) (one [] u) in
      let b = both (lift_leading (from_side c) c.source s vs) _ xs h in
      let t = both (each_of n F (λ cs. lift_leading (from_side c) c.source s cs) (drop F vs)) _ xs b.last in
      let is : b.mid ∷ t.mid ≡ xs = same_some (Some (b.mid ∷ t.mid)) (b.mid ∷ t.mid) xs refl t.last in
      ap (λ o. o >>= (λ v. (spans_taken c (one [] s) (one [] u) e f n (Values (drop F vs))) >>= (λ vs. Some (v ∷ vs))))
      (lifts_row (from_side c) c.source s (take F vs) b.mid (part_lifts (from_side c) c.source s F 0 vs b.mid formed_s (one_flat (width_of_side c.transfer.from) s) (omega (arith, le)) b.first))
      ∙ ap (λ o. o >>= (λ vs. Some (row b.mid ∷ vs))) (flat_spans n (drop F vs) t.mid (omega (arith, le, length-drop F vs)) t.first) ∙ ap (λ l. Some (map row l)) is

  at_spans : (n a : ℕ) (xs : List Value) → each_at n e (λ a. load_element (from_side c) c.source (one [] s) a) a ≡ Some xs → spans_taken c (one [] s) (one [] u) e f n (AtAddress a) ≡ Some (map row xs)
  at_spans zero a xs h = ap (λ l. Some (map row l)) (same_some (Some []) [] xs refl h)
  at_spans (suc n) a xs h =
      let b = both (load_element (from_side c) c.source (one [] s) a) _ xs h in
      let t = both (each_at n e (λ a. load_element (from_side c) c.source (one [] s) a) (a + e)) _ xs b.last in
      let is : b.mid ∷ t.mid ≡ xs = same_some (Some (b.mid ∷ t.mid)) (b.mid ∷ t.mid) xs refl t.last in
      ap (λ o. o >>= (λ v. (spans_taken c (one [] s) (one [] u) e f n (AtAddress (a + e))) >>= (λ vs. Some (v ∷ vs)))) (element_loads (from_side c) c.source [] s a b.mid b.first)
      ∙ ap (λ o. o >>= (λ vs. Some (row b.mid ∷ vs))) (at_spans n (a + e) t.mid t.first) ∙ ap (λ l. Some (map row l)) is

  -- and the other way
  spans_flat : (n : ℕ) (vs : List CoreValue) (rows : List (List Value)) → n * flats_from c (one [] s) (one [] u) ≤ length vs → spans_taken c (one [] s) (one [] u) e f n (Values vs) ≡ Some rows
      → each_of n (flats_from c (one [] s) (one [] u)) (λ cs. lift_leading (from_side c) c.source s cs) vs ≡ Some (map unrow rows)
  spans_flat zero vs rows le h = ap (λ l. Some (map unrow l)) (same_some (Some []) [] rows refl h)
  spans_flat (suc n) vs rows le h =
      let F = flats_from c (one [] s) (one [] u) in
      let b = both (lift_members (from_side c) c.source (one [] s) (take F vs)) _ rows h in
      let t = both (spans_taken c (one [] s) (one [] u) e f n (Values (drop F vs))) _ rows b.last in
      let is : b.mid ∷ t.mid ≡ rows = same_some (Some (b.mid ∷ t.mid)) (b.mid ∷ t.mid) rows refl t.last in
      ap (λ o. o >>= (λ v. (each_of n F (λ cs. lift_leading (from_side c) c.source s cs) (drop F vs)) >>= (λ vs. Some (v ∷ vs))))
      (leads_back (from_side c) c.source s F vs formed_s (one_flat (width_of_side c.transfer.from) s) (omega (arith, le)) ∙ row_lifts (from_side c) c.source s (take F vs) b.mid b.first)
      ∙ ap (λ o. o >>= (λ vs. Some (unrow b.mid ∷ vs))) (spans_flat n (drop F vs) t.mid (omega (arith, le, length-drop F vs)) t.first) ∙ ap (λ l. Some (map unrow l)) is

  spans_at : (n a : ℕ) (rows : List (List Value)) → spans_taken c (one [] s) (one [] u) e f n (AtAddress a) ≡ Some rows → each_at n e (λ a. load_element (from_side c) c.source (one [] s) a) a ≡ Some (map unrow rows)
  spans_at zero a rows h = ap (λ l. Some (map unrow l)) (same_some (Some []) [] rows refl h)
  spans_at (suc n) a rows h =
      let b = both (load_members (from_side c) c.source (one [] s) a 0) _ rows h in
      let t = both (spans_taken c (one [] s) (one [] u) e f n (AtAddress (a + e))) _ rows b.last in
      let is : b.mid ∷ t.mid ≡ rows = same_some (Some (b.mid ∷ t.mid)) (b.mid ∷ t.mid) rows refl t.last in
      ap (λ o. o >>= (λ v. (each_at n e (λ a. load_element (from_side c) c.source (one [] s) a) (a + e)) >>= (λ vs. Some (v ∷ vs)))) (row_loads (from_side c) c.source [] s a b.mid b.first)
      ∙ ap (λ o. o >>= (λ vs. Some (unrow b.mid ∷ vs))) (spans_at n (a + e) t.mid t.first) ∙ ap (λ l. Some (map unrow l)) is

  -- ---- limits

  flat_fit : (n : ℕ) (vs : List CoreValue) → EachOf n (flats_from c (one [] s) (one [] u)) (λ cs. IsWithinLimits (moving c) s u cs) vs → SpansFit c (one [] s) (one [] u) e f n (Values vs)
  unfolding AreWithinLimits
  flat_fit zero vs h = tt
  flat_fit (suc n) vs h =
      let F = flats_from c (one [] s) (one [] u) in
      let all : take F vs ≡ take (length (flat (width_of_side c.transfer.from) s)) (take F vs) = sym (take_twice F vs) ∙ ap (λ k. take k (take F vs)) (one_flat (width_of_side c.transfer.from) s) in
      ((subst (λ l. IsWithinLimits (moving c) s u l) all h.0, tt), flat_fit n (drop F vs) h.1)

  at_fit : (n a : ℕ) → EachAt n e (λ a. IsElementWithinAt (moving c) (one [] s) (one [] u) a) a → SpansFit c (one [] s) (one [] u) e f n (AtAddress a)
  at_fit zero a h = tt
  at_fit (suc n) a h = (element_fit c s u a h.0, at_fit n (a + e) h.1)

  -- ---- elements at a target

  flat_stand : (n : ℕ) (outs : List (List Value)) (ts : List ValType) (us : List CoreValue) (b : List ℕ) → n * flats_to c (one [] s) (one [] u) ≤ length us → SpansStand c (one [] s) (one [] u) e f n outs (Slots ts) us b
      → (each_of n (flats_to c (one [] s) (one [] u)) (λ cs. lift_leading (to_side c) b u cs) us ≡ Some (map unrow outs)) × EachOf n (flats_to c (one [] s) (one [] u)) (λ cs. IsCanonicalFlat (to_side c) b u cs) us
  unfolding AreCanonicalFlat
  flat_stand zero outs ts us b le h = (ap (λ l. Some (map unrow l)) (sym h), tt)
  flat_stand (suc n) [] ts us b le h = absurd h
  flat_stand (suc n) (out ∷ outs) ts us b le h =
      let G = flats_to c (one [] s) (one [] u) in
      let all : take (length (flat (width_of_side c.transfer.to) u)) (take G us) ≡ take G us = ap (λ k. take k (take G us)) (sym (one_flat (width_of_side c.transfer.to) u)) ∙ take_twice G us in
      let r = flat_stand n outs (drop G ts) (drop G us) b (omega (arith, le, length-drop G us)) h.1 in (
        ap (λ o. o >>= (λ v. (each_of n G (λ cs. lift_leading (to_side c) b u cs) (drop G us)) >>= (λ vs. Some (v ∷ vs))))
            (leads_back (to_side c) b u G us formed_u (one_flat (width_of_side c.transfer.to) u) (omega (arith, le)) ∙ row_lifts (to_side c) b u (take G us) out h.0.0)
            ∙ ap (λ o. o >>= (λ vs. Some (unrow out ∷ vs))) r.0,
        (subst (λ l. IsCanonicalFlat (to_side c) b u l) all h.0.1.0, r.1),
      )

  memory_stand : (n : ℕ) (outs : List (List Value)) (a : ℕ) (us : List CoreValue) (b : List ℕ) → SpansStand c (one [] s) (one [] u) e f n outs (Into a) us b
      → (each_at n f (λ a. load_element (to_side c) b (one [] u) a) a ≡ Some (map unrow outs)) × EachAt n f (λ a. IsCanonicalElementAt (to_side c) b (one [] u) a) a
  memory_stand zero outs a us b h = (ap (λ l. Some (map unrow l)) (sym h), tt)
  memory_stand (suc n) [] a us b h = absurd h
  memory_stand (suc n) (out ∷ outs) a us b h =
      let r = memory_stand n outs (a + f) us b h.1 in (
        ap (λ o. o >>= (λ v. (each_at n f (λ a. load_element (to_side c) b (one [] u) a) (a + f)) >>= (λ vs. Some (v ∷ vs)))) (row_loads (to_side c) b [] u a out h.0.0) ∙ ap (λ o. o >>= (λ vs. Some (unrow out ∷ vs))) r.0,
        (row_canonical (to_side c) b [] u a h.0.1, r.1),
      )

-- ---- lists of fixed length

module _ (c : TransferSetting) (n : ℕ) (s u : Shape) (formed_s : IsWellFormed s) (formed_u : IsWellFormed u) where
  abbrev from_kind : Shape
  from_kind = s_node (k_fixed n) (one [] s)

  abbrev to_kind : Shape
  to_kind = s_node (k_fixed n) (one [] u)

  -- the bytes from one to the next
  abbrev e : ℕ
  e = (entry_extent c.transfer.from (one [] s)).size

  abbrev f : ℕ
  f = (entry_extent c.transfer.to (one [] u)).size

  to_size : size_on c.transfer.to to_kind ≡ n * f
  to_size = fixed_size (width_of_side c.transfer.to) (layout_of u) n ∙ ap (λ x. n * x.size) (sym (to_extent c s u))

  pub fixed_source : (src : Source) → IsSource c (length (flat (width_of_side c.transfer.from) from_kind)) src → IsSource c (n * flats_from c (one [] s) (one [] u)) src
  fixed_source src h = subst (λ k. IsSource c k src) (length-times n (flat_members (width_of_side c.transfer.from) (one [] s))) h

  -- the value of a list at a source
  pub record FixedTaken (src : Source) (v : Value) : Type 0 where
    pub values : List Value
    pub spans : spans_taken c (one [] s) (one [] u) e f n src ≡ Some (map row values)
    pub is : value.List values ≡ v

  pub fixed_taken : (src : Source) (v : Value) → IsSource c (n * flats_from c (one [] s) (one [] u)) src → value_at_source c from_kind src ≡ Some v → FixedTaken src v
  unfolding load lift_leading lift_element load_element
  fixed_taken (Values vs) v is h =
      let r = mapped (each_of n (length (flat (width_of_side c.transfer.from) s)) (λ cs. lift_leading (from_side c) c.source s cs) vs) (λ vs. value.List vs) v h in
      record { values = r.mid; is = r.is; spans = flat_spans c s u formed_s formed_u e f n vs r.mid (omega (arith, is.0)) (subst (λ k. each_of n k (λ cs. lift_leading (from_side c) c.source s cs) vs ≡ Some r.mid) (sym (one_flat (width_of_side c.transfer.from) s)) r.first) }
  fixed_taken (AtAddress a) v is h =
      let r = mapped (each_at n (extent (width_of_side c.transfer.from) (layout_of s)).size (λ a. load_element (from_side c) c.source (one [] s) a) a) (λ vs. value.List vs) v h in
      record { values = r.mid; is = r.is; spans = at_spans c s u formed_s formed_u e f n a r.mid (subst (λ x. each_at n x.size (λ a. load_element (from_side c) c.source (one [] s) a) a ≡ Some r.mid) (sym (from_extent c s u)) r.first) }

  -- where the list does not lift
  fixed_lacks : (src : Source) → IsSource c (n * flats_from c (one [] s) (one [] u)) src → value_at_source c from_kind src ≡ None → spans_taken c (one [] s) (one [] u) e f n src ≡ None
  unfolding load lift_leading lift_element load_element
  fixed_lacks src is h = go (spans_taken c (one [] s) (one [] u) e f n src) refl
    where
      some : (src : Source) (rows : List (List Value)) → IsSource c (n * flats_from c (one [] s) (one [] u)) src → spans_taken c (one [] s) (one [] u) e f n src ≡ Some rows → value_at_source c from_kind src ≡ Some (value.List (map unrow rows))
      some (Values vs) rows is t = ap (option_map (λ vs. value.List vs)) (subst (λ k. each_of n k (λ cs. lift_leading (from_side c) c.source s cs) vs ≡ Some (map unrow rows)) (one_flat (width_of_side c.transfer.from) s) (spans_flat c s u formed_s formed_u e f n vs rows (omega (arith, is.0)) t))
      some (AtAddress a) rows is t = ap (option_map (λ vs. value.List vs)) (subst (λ x. each_at n x.size (λ a. load_element (from_side c) c.source (one [] s) a) a ≡ Some (map unrow rows)) (from_extent c s u) (spans_at c s u formed_s formed_u e f n a rows t))

      go : (o : Option (List (List Value))) → spans_taken c (one [] s) (one [] u) e f n src ≡ o → spans_taken c (one [] s) (one [] u) e f n src ≡ None
      go None t = t
      go (Some rows) t = absurd (none_some (value_at_source c from_kind src) (value.List (map unrow rows)) h (some src rows is t))

  fixed_fit : (src : Source) → IsFit c from_kind to_kind src → SpansFit c (one [] s) (one [] u) e f n src
  unfolding IsWithinLimits IsWithinAt IsElementWithin
  fixed_fit (Values vs) h = flat_fit c s u formed_s formed_u e f n vs (subst (λ k. EachOf n k (λ cs. IsWithinLimits (moving c) s u cs) vs) (sym (one_flat (width_of_side c.transfer.from) s)) h)
  fixed_fit (AtAddress a) h = at_fit c s u formed_s formed_u e f n a (subst (λ x. EachAt n x.size (λ a. IsElementWithinAt (moving c) (one [] s) (one [] u) a) a) (sym (from_extent c s u)) h)

  fixed_target : (live : ℕ → Type 0) (m : List ℕ) (d : Target) → IsTarget c (flat (width_of_side c.transfer.to) to_kind) (size_on c.transfer.to to_kind) live m d → IsSpansTarget c (one [] s) (one [] u) e f n live m d
  fixed_target live m (Slots ts) h = h
  fixed_target live m (Into b) h = (h.0, subst (λ k. b + k ≤ length m) to_size h.1, λ j lo hi. h.2 j lo (subst (λ k. j < b + k) (sym to_size) hi))

  fixed_in : (d : Target) (j : ℕ) → InSpans c (one [] s) (one [] u) e f n d j → IsAtTarget (size_on c.transfer.to to_kind) d j
  fixed_in (Slots ts) j h = h
  fixed_in (Into b) j h = (h.0, subst (λ k. j < b + k) (sym to_size) h.1)

  fixed_stands : (live : ℕ → Type 0) (m : List ℕ) (outs : List (List Value)) (d : Target) (us : List CoreValue) (b : List ℕ) → IsSpansTarget c (one [] s) (one [] u) e f n live m d → IsGiven d us → SpansStand c (one [] s) (one [] u) e f n outs d us b
      → StandsAtTarget c to_kind (value.List (map unrow outs)) d us b
  unfolding load lift_leading lift_element IsCanonicalAt IsCanonicalFlat IsCanonicalElementFlat
  fixed_stands live m outs (Slots ts) us b t g h =
      let G = flats_to c (one [] s) (one [] u) in
      let fs = flat_members (width_of_side c.transfer.to) (one [] u) in
      let long : n * G ≡ length us = sym (length-times n fs) ∙ hold_length (times n fs) ts t ∙ sym (values_length us ts g) in
      let r = flat_stand c s u formed_s formed_u e f n outs ts us b (omega (arith, long)) h in
      let one_is = one_flat (width_of_side c.transfer.to) u in (
        ap (option_map (λ vs. value.List vs)) (subst (λ k. each_of n k (λ cs. lift_leading (to_side c) b u cs) us ≡ Some (map unrow outs)) one_is r.0),
        subst (λ k. EachOf n k (λ cs. IsCanonicalFlat (to_side c) b u cs) us) one_is r.1,
      )
  fixed_stands live m outs (Into a) us b t g h =
      let r = memory_stand c s u formed_s formed_u e f n outs a us b h in (
        ap (option_map (λ vs. value.List vs)) (subst (λ x. each_at n x.size (λ a. load_element (to_side c) b (one [] u) a) a ≡ Some (map unrow outs)) (to_extent c s u) r.0),
        subst (λ x. EachAt n x.size (λ a. IsCanonicalElementAt (to_side c) b (one [] u) a) a) (to_extent c s u) r.1,
      )

  fixed_crosses : (vs us : List Value) (a b : List ℕ) → each_step (λ v. cross_element take_number (one [] s) v (one [] u)) vs a ≡ Some (us, b) → cross take_number from_kind to_kind (value.List vs) a ≡ Some (value.List us, b)
  unfolding cross cross_element
  fixed_crosses vs us a b h =
      ap (λ o. given o (λ vs. then_step (each_step (λ v. cross_element take_number (one [] s) v (one [] u)) vs) (λ us. done_step (value.List us))) a) (ap elements_in (value.outs-List vs))
      ∙ ap (λ o. o >>= (λ r. done_step (value.List r.0) r.1)) h

  fixed_items : (vs : List Value) → items (to_side c) from_kind to_kind (value.List vs) ≡ flat_map (λ v. items_element (to_side c) (one [] s) v (one [] u)) vs
  unfolding items items_element
  fixed_items vs = ap (λ o. of_some o (flat_map (λ v. items_element (to_side c) (one [] s) v (one [] u)))) (ap elements_in (value.outs-List vs))

  fixed_weighs : (vs : List Value) → weight from_kind (value.List vs) ≡ 1 + sum_by (λ v. weight_element (one [] s) v) vs
  unfolding weight weight_element
  fixed_weighs vs = ap (λ o. 1 + weight_in (sum_by (λ v. weight_element (one [] s) v)) o) (ap elements_in (value.outs-List vs))

  from_start : (F k : ℕ) (src : Source) → src ≡ parts_from F k 0 src
  from_start F k (Values vs) = let h : 0 ≡ 0 * F = omega arith in ap (λ x. Values (drop x vs)) h
  from_start F k (AtAddress a) = let h : a ≡ a + 0 * k = omega arith in ap (λ x. AtAddress x) h

  to_start : (G k : ℕ) (d : Target) → d ≡ spots_from G k 0 d
  to_start G k (Slots ts) = let h : 0 ≡ 0 * G = omega arith in ap (λ x. Slots (drop x ts)) h
  to_start G k (Into a) = let h : a ≡ a + 0 * k = omega arith in ap (λ x. Into x) h

  pub fixed_law : IsGrounded c → AreLawfulMoves c (one [] s) (one [] u) 0 → IsLawfulMove c from_kind to_kind
  unfolding move
  fixed_law g fields = record {
    by = λ src d v gs w m is h ready target.
        let source = fixed_source src is in
        let t = fixed_taken src v source h in
        let spots = fixed_target (IsInHand c gs) m d target in
        let same : flat_map (row_items c (one [] s) (one [] u)) (map row t.values) ≡ items (to_side c) from_kind to_kind (value.List t.values) =
        flat_each (row_items c (one [] s) (one [] u)) (λ v. items_element (to_side c) (one [] s) v (one [] u)) row (row_asks c s u) t.values ∙ sym (fixed_items t.values) in
        subst (λ v. RunsHonestly c gs (MayStop (IsFit c from_kind to_kind src) (items (to_side c) from_kind to_kind v)) (IsMoved c gs m from_kind to_kind d v) (move c.transfer from_kind to_kind src d) w) t.is
        (does_aligned g from_kind to_kind src d (Visit 1 (move_fixed c.transfer n (one [] s) (one [] u) (λ s' d'. move_fields c.transfer (one [] s) (one [] u) 0 s' d') src d)) w
        (does_visit (does_more
        (λ r cs o x. subst (λ is. MayStop (IsFit c from_kind to_kind src) is r cs) same (fit_less _ _ _ (fixed_fit src) r cs x))
        (λ k cs us w' o r. record {
          out = value.List (map unrow r.outs);
          carried = record {
            crosses = λ rest. fixed_crosses t.values (map unrow r.outs) (numbers cs ++ rest) rest
                (each_map (row_crosses c (one [] s) (one [] u)) (λ v. cross_element take_number (one [] s) v (one [] u)) row unrow (λ x a b z y. row_crossed c s u x a b z y) t.values r.outs (numbers cs ++ rest) rest (r.crosses rest));
            told = subst (λ is. AreItemCalls is cs) same r.told;
            weighs = ap (λ i. 1 + i) (r.weighs ∙ sum_each (row_weight c (one [] s) (one [] u)) (λ v. weight_element (one [] s) v) row (row_weighs c s u) t.values) ∙ sym (fixed_weighs t.values);
          };
          given = r.given;
          leaves = leaves_wider (fixed_in d) (λ b a. fixed_stands (IsInHand c gs) m r.outs d us b spots r.given a) r.leaves;
        })
        (spans_move c (one [] s) (one [] u) e f (ends_within (width_of_side c.transfer.to) (one [] u)) fields src d n 0 src d (map row t.values) gs w m (from_start _ _ src) (to_start _ _ d) t.spans source ready spots))));
  }

  pub fixed_refuses : IsGrounded c → AreLawfulMoves c (one [] s) (one [] u) 0 → RefusesFields c (one [] s) (one [] u) 0 (λ src. members_taken c (one [] s) src ≡ None) → Refuses c from_kind to_kind
  unfolding move
  fixed_refuses g fields never = record {
    by = λ src d gs w m is h ready target.
        let source = fixed_source src is in
        does_aligned g from_kind to_kind src d (Visit 1 (move_fixed c.transfer n (one [] s) (one [] u) (λ s' d'. move_fields c.transfer (one [] s) (one [] u) 0 s' d') src d)) w
        (never_visit 1 _ w
        (spans_never c (one [] s) (one [] u) e f (ends_within (width_of_side c.transfer.to) (one [] u)) fields never src d n 0 src d gs w m (from_start _ _ src) (to_start _ _ d) (fixed_lacks src source h) source ready (fixed_target (IsInHand c gs) m d target)));
  }
