-- Lists and maps are moved as the law says.
use Rattle.std.proofs.Common.{◌≡◌, ℕ, ◌+◌, ◌*◌, ◌%◌, ◌^◌, ◌≤◌, ◌<◌, Bool, true, false, List, [], ◌∷◌, ◌++◌, length, map, Option, Some, None, refl, sym, ap, ◌∙◌, subst, arith, eq-eqb}
use Rattle.std.specs.Prelude.{sum_by, option_map, if◌then◌else◌, nat_le, ◌&&◌}
use Rattle.std.specs.List.{flat_map}
use Rattle.std.proofs.lemmas.List.{append-nil}
use Rattle.std.proofs.lemmas.Bool.{le-leb}
use Rattle.fact_wasm.specs.declared.types.ValType.{ValType}
use Rattle.fact_types.specs.declared.extents.Extent.{Extent}
use Rattle.fact_types.specs.declared.extents.MemoryWidth.{MemoryWidth}
use Rattle.fact_types.specs.declared.extents.MemoryWidth.TheVariants.{Memory32, Memory64}
use Rattle.fact_types.specs.FlatShapes.{pointer}
use Rattle.fact_types.specs.Layout.{extent, pointer_pair_layout}
use Rattle.fact_types.specs.Shapes.{Kind, k_list, Shape, s_node, Members, no_members, typed, layout_of, place_of}
use Rattle.fact_types.specs.Signatures.{pointer_bytes, width}
use Rattle.fact_types.specs.Valid.{IsValid}
use Rattle.fact_types.proofs.PlaceLaws.{ends_within}
use Rattle.fact_types.proofs.ShapeLaws.{same_some, none_some}
use Rattle.fact_machine.specs.declared.types.CoreValue.{CoreValue}
use Rattle.fact_actions.specs.Actions.{Visit}
use Rattle.fact_actions.specs.Moves.{move, move_fields, move_list, entry_extent}
use Rattle.fact_actions.specs.Sides.{LiftLowerOptions, Source, Values, AtAddress, Target, Slots, Into, width_of_side, bytes_of_addresses}
use Rattle.fact_types.specs.Adapters.{is_wide}
use Rattle.fact_values.specs.declared.side.SideAbi.{SideAbi}
use Rattle.fact_values.specs.declared.value.Value.{Value, out-Value}
use Rattle.fact_values.specs.declared.value.Value.TheVariants as value
use Rattle.fact_values.specs.Canonical.{ThereIs, EachAt, IsCanonicalAt, IsCanonicalFlat, AreCanonicalAt, IsCanonicalElementAt, AreNarrow}
use Rattle.fact_values.specs.Carry.{take_number}
use Rattle.fact_values.specs.Handles.{cross, cross_fields, cross_element, each_step, then_step, done_step, given}
use Rattle.fact_values.specs.Lift.{lift_leading, number_as, leading_pair}
use Rattle.fact_values.specs.Limits.{place_in, IsWithinLimits, IsWithinAt, AreWithinAt, IsElementWithinAt, IsListWithin}
use Rattle.fact_values.specs.Load.{load, load_members, load_element, list_value, elements_of}
use Rattle.fact_types.specs.Options.{◌>>=◌}
use Rattle.fact_values.specs.Opened.{elements_in}
use Rattle.fact_values.specs.Places.{Pair, pair_at, each_at, element_extent as abi_extent}
use Rattle.fact_values.specs.Texts.{lies_aligned}
use Rattle.fact_values.specs.Weight.{weight, weight_element, weight_in}
use Rattle.fact_action_laws.specs.Items.{RegionItem, items, items_fields, items_element, of_some, numbers, AreItemCalls}
use Rattle.fact_action_laws.specs.MoveTerms.{HasPointers, moving, IsFit, IsMoved, MayStop}
use Rattle.fact_action_laws.specs.Places.{from_side, to_side, value_at_source, IsTarget, IsAtTarget, StandsAtTarget, IsGrounded}
use Rattle.fact_action_laws.specs.Regions.{TransferSetting, IsInHand}
use Rattle.fact_action_laws.proofs.Elements.{each_at_map, each_holds_map, each_map, flat_each, sum_each, length_each, first_place, takes_some}
use Rattle.fact_actions.proofs.ValidTypes.{single_extent}
use Rattle.fact_action_laws.proofs.Judges.{does_visit, does_more}
use Rattle.fact_action_laws.proofs.MoveLaws.{AreLawfulMoves}
use Rattle.fact_action_laws.proofs.Lists.{ListFit, list_moves}
use Rattle.fact_action_laws.proofs.Pairs.{pair_taken, IsPairAt}
use Rattle.fact_action_laws.proofs.Placing.{leaves_wider}
use Rattle.fact_action_laws.proofs.Plain.{both, does_aligned}
use Rattle.fact_action_laws.proofs.Products.{mapped}
use Rattle.fact_action_laws.proofs.Rows.{row_crosses, row_items, row_weight, RowsStand, RowsFit}
use Rattle.fact_action_laws.specs.Judged.{RunsHonestly}
use Rattle.fact_action_laws.specs.MoveLaws.{IsLawfulMove}

-- ---- elements

abbrev pub one : List ℕ → Shape → Members
one x s = typed x s no_members

-- the value of a tuple of one member
abbrev pub row : Value → List Value
row v = v ∷ []

abbrev pub unrow : List Value → Value
unrow [] = value.Bool false
unrow (v ∷ vs) = v

pub element_loads : (side : SideAbi) (bytes : List ℕ) (x : List ℕ) (s : Shape) (a : ℕ) (v : Value) → load_element side bytes (one x s) a ≡ Some v → load_members side bytes (one x s) a 0 ≡ Some (row v)
unfolding load_members load_element
element_loads side bytes x s a v h =
    ap (λ b. (load side bytes s b) >>= (λ v. Some (v ∷ []))) (first_place (width side.memory64) s a) ∙ ap (λ o. o >>= (λ v. Some (v ∷ []))) h

pub row_loads : (side : SideAbi) (bytes : List ℕ) (x : List ℕ) (s : Shape) (a : ℕ) (r : List Value) → load_members side bytes (one x s) a 0 ≡ Some r → load_element side bytes (one x s) a ≡ Some (unrow r)
unfolding load_members load_element
row_loads side bytes x s a r h =
    let b = both (load side bytes s (a + place_of (width side.memory64) s 0)) (λ v. Some (v ∷ [])) r h in
    ap (load side bytes s) (sym (first_place (width side.memory64) s a)) ∙ b.first ∙ ap (λ r. Some (unrow r)) (same_some (Some (b.mid ∷ [])) (b.mid ∷ []) r refl b.last)

pub row_canonical : (side : SideAbi) (bytes : List ℕ) (x : List ℕ) (s : Shape) (a : ℕ) → AreCanonicalAt side bytes (one x s) a 0 → IsCanonicalElementAt side bytes (one x s) a
unfolding AreCanonicalAt IsCanonicalElementAt
row_canonical side bytes x s a h = subst (IsCanonicalAt side bytes s) (first_place (width side.memory64) s a) h.0

module _ (c : TransferSetting) (s u : Shape) where
  -- the element crosses as its tuple does
  pub row_crossed : (v : Value) (a b : List ℕ) (r : List Value) → row_crosses c (one [] s) (one [] u) (row v) a ≡ Some (r, b) → cross_element take_number (one [] s) v (one [] u) a ≡ Some (unrow r, b)
  unfolding cross_fields cross_element
  row_crossed v a b r h =
      let o = both (cross take_number s u v a) (λ y. Some (y.0 ∷ [], y.1)) (r, b) h in
      o.first ∙ ap (λ y. Some (unrow y.0, y.1)) (same_some (Some (o.mid.0 ∷ [], o.mid.1)) (o.mid.0 ∷ [], o.mid.1) (r, b) refl o.last)

  pub row_asks : (v : Value) → row_items c (one [] s) (one [] u) (row v) ≡ items_element (to_side c) (one [] s) v (one [] u)
  unfolding items_fields items_element
  row_asks v = append-nil (items (to_side c) s u v)

  pub row_weighs : (v : Value) → row_weight c (one [] s) (one [] u) (row v) ≡ weight_element (one [] s) v
  unfolding weight_element
  row_weighs v = omega arith

-- ---- a pair, and what stands behind it

-- what stands behind a pair at a source
pub record Behind (c : TransferSetting) (s : Source) (T : Pair → Option Value) (v : Value) : Type 0 where
  pub pair : Pair
  pub at : pair_taken c s ≡ Some pair
  pub is : T pair ≡ Some v

-- what stands behind a pair at a target
pub behind_flat : (c : TransferSetting) (at count : ℕ) (ts : List ValType) (us : List CoreValue) (b : List ℕ) (T : Pair → Option Value) (Q : Pair → Type 0) (out : Value) → IsPairAt c at count (Slots ts) us b → T (record { pointer = at; count = count }) ≡ Some out → Q (record { pointer = at; count = count })
    → ((leading_pair (to_side c) us) >>= T ≡ Some out) × (AreNarrow (pointer (width (is_wide c.transfer.to.memory)) ∷ pointer (width (is_wide c.transfer.to.memory)) ∷ []) us × ThereIs (leading_pair (to_side c) us) Q)
behind_flat c at count ts us b T Q out h t q =
    let f = pointer (width (is_wide c.transfer.to.memory)) in
    let is : leading_pair (to_side c) us ≡ Some (record { pointer = at; count = count }) = ap (leading_pair (to_side c)) h.2 ∙ ap (λ p. Some (record { pointer = p; count = number_as f h.1 })) h.4 ∙ ap (λ n. Some (record { pointer = at; count = n })) h.6 in (
      ap (λ o. o >>= T) is ∙ t,
      (subst (AreNarrow (f ∷ f ∷ [])) (sym h.2) (h.3 ∙ sym h.4, (h.5 ∙ sym h.6, tt)), subst (λ o. ThereIs o Q) (sym is) q),
    )

pub behind_memory : (c : TransferSetting) (at count a : ℕ) (us : List CoreValue) (b : List ℕ) (T : Pair → Option Value) (Q : Pair → Type 0) (out : Value) → IsPairAt c at count (Into a) us b → T (record { pointer = at; count = count }) ≡ Some out → Q (record { pointer = at; count = count })
    → ((pair_at (to_side c) b a) >>= T ≡ Some out) × ThereIs (pair_at (to_side c) b a) Q
behind_memory c at count a us b T Q out h t q = (ap (λ o. o >>= T) h ∙ t, subst (λ o. ThereIs o Q) (sym h) q)

-- a range in order
range_holds : (bytes : List ℕ) (align p n : ℕ) → p % align ≡ 0 → p + n ≤ length bytes → lies_aligned bytes align p n ≡ true
range_holds bytes align p n e le = ap (λ b. b && nat_le (p + n) (length bytes)) (eq-eqb (p % align) 0 e) ∙ le-leb (p + n) (length bytes) le

-- the elements behind a pair
pub record ElementsOf {X : Type 0} (bytes : List ℕ) (x : Extent) (f : ℕ → Option X) (p : Pair) (xs : List X) : Type 0 where
  pub range : lies_aligned bytes x.align p.pointer (p.count * x.size) ≡ true
  pub each : each_at p.count x.size f p.pointer ≡ Some xs

pub elements_are : {X : Type 0} (side : SideAbi) (bytes : List ℕ) (k : Kind) (ms : Members) (f : ℕ → Option X) (p : Pair) (xs : List X) → elements_of side bytes k ms f p ≡ Some xs → ElementsOf bytes (abi_extent side k ms) f p xs
elements_are side bytes k ms f p xs h = go (lies_aligned bytes (abi_extent side k ms).align p.pointer (p.count * (abi_extent side k ms).size)) refl h
  where
    go : (b : Bool) → lies_aligned bytes (abi_extent side k ms).align p.pointer (p.count * (abi_extent side k ms).size) ≡ b → (if b then each_at p.count (abi_extent side k ms).size f p.pointer else None) ≡ Some xs → ElementsOf bytes (abi_extent side k ms) f p xs
    go true e h = record { range = e; each = h }
    go false e h = absurd (none_some None xs refl h)

pub elements_stand : {X : Type 0} (side : SideAbi) (bytes : List ℕ) (k : Kind) (ms : Members) (f : ℕ → Option X) (p : Pair) (xs : List X) → p.pointer % (abi_extent side k ms).align ≡ 0 → p.pointer + p.count * (abi_extent side k ms).size ≤ length bytes
    → each_at p.count (abi_extent side k ms).size f p.pointer ≡ Some xs → elements_of side bytes k ms f p ≡ Some xs
elements_stand side bytes k ms f p xs e le h =
    ap (λ b. if b then each_at p.count (abi_extent side k ms).size f p.pointer else None) (range_holds bytes (abi_extent side k ms).align p.pointer (p.count * (abi_extent side k ms).size) e le) ∙ h

-- ---- lists

-- a value of a list at a source
pub record ListTaken (c : TransferSetting) (s : Shape) (src : Source) (v : Value) : Type 0 where
  pub pair : Pair
  pub at : pair_taken c src ≡ Some pair
  pub values : List Value
  pub elements : ElementsOf c.source (extent (width_of_side c.transfer.from) (layout_of s)) (λ a. load_element (from_side c) c.source (one [] s) a) pair values
  pub is : value.List values ≡ v

pub list_taken : (c : TransferSetting) (s : Shape) (src : Source) (v : Value) → value_at_source c (s_node k_list (one [] s)) src ≡ Some v → ListTaken c s src v
unfolding load lift_leading load_element
list_taken c s (Values vs) v h =
    let q = both (leading_pair (from_side c) vs) _ v h in
    let r = mapped (elements_of (from_side c) c.source k_list (one [] s) (λ a. load_element (from_side c) c.source (one [] s) a) q.mid) (λ vs. value.List vs) v q.last in
    record { pair = q.mid; at = q.first; values = r.mid; elements = elements_are (from_side c) c.source k_list (one [] s) (λ a. load_element (from_side c) c.source (one [] s) a) q.mid r.mid r.first; is = r.is }
list_taken c s (AtAddress a) v h =
    let q = both (pair_at (from_side c) c.source a) _ v h in
    let r = mapped (elements_of (from_side c) c.source k_list (one [] s) (λ a. load_element (from_side c) c.source (one [] s) a) q.mid) (λ vs. value.List vs) v q.last in
    record { pair = q.mid; at = q.first; values = r.mid; elements = elements_are (from_side c) c.source k_list (one [] s) (λ a. load_element (from_side c) c.source (one [] s) a) q.mid r.mid r.first; is = r.is }

fit_place : (w : MemoryWidth) (s : Shape) (a : ℕ) → a + place_in w (record { shape = s; flat_place = 0; place32 = place_of Memory32 s 0; place64 = place_of Memory64 s 0 }) ≡ a
fit_place Memory32 s a = first_place Memory32 s a
fit_place Memory64 s a = first_place Memory64 s a

module _ (c : TransferSetting) (s u : Shape) where
  -- the extents of elements, as tuples and by themselves
  pub from_extent : entry_extent c.transfer.from (one [] s) ≡ extent (width_of_side c.transfer.from) (layout_of s)
  from_extent = single_extent (width_of_side c.transfer.from) s

  pub to_extent : entry_extent c.transfer.to (one [] u) ≡ extent (width_of_side c.transfer.to) (layout_of u)
  to_extent = single_extent (width_of_side c.transfer.to) u

  list_tail : List ℕ → Pair → Option Value
  list_tail b q = list_value (to_side c) b (one [] u) (λ a. load_element (to_side c) b (one [] u) a) q

  list_stands : (at count : ℕ) (outs : List (List Value)) (d : Target) (us : List CoreValue) (b : List ℕ) → at % (entry_extent c.transfer.to (one [] u)).align ≡ 0 → IsPairAt c at count d us b
      → at + count * (entry_extent c.transfer.to (one [] u)).size ≤ length b → RowsStand c (one [] s) (one [] u) count (entry_extent c.transfer.to (one [] u)).size at outs b → StandsAtTarget c (s_node k_list (one [] u)) (value.List (map unrow outs)) d us b
  unfolding load lift_leading load_element IsCanonicalAt IsCanonicalFlat IsCanonicalElementAt
  list_stands at count outs d us b e h le rows = go d h
    where
      x : Extent
      x = extent (width_of_side c.transfer.to) (layout_of u)

      e2 : at % x.align ≡ 0
      e2 = subst (λ y. at % y.align ≡ 0) to_extent e

      le2 : at + count * x.size ≤ length b
      le2 = subst (λ y. at + count * y.size ≤ length b) to_extent le

      rows2 : RowsStand c (one [] s) (one [] u) count x.size at outs b
      rows2 = subst (λ y. RowsStand c (one [] s) (one [] u) count y.size at outs b) to_extent rows

      loaded : list_value (to_side c) b (one [] u) (λ a. load_element (to_side c) b (one [] u) a) (record { pointer = at; count = count }) ≡ Some (value.List (map unrow outs))
      loaded = ap (option_map (λ vs. value.List vs)) (elements_stand (to_side c) b k_list (one [] u) (λ a. load_element (to_side c) b (one [] u) a) (record { pointer = at; count = count }) (map unrow outs) e2 le2
          (each_at_map count x.size (λ a. load_members (to_side c) b (one [] u) a 0) (λ a. load_element (to_side c) b (one [] u) a) unrow (λ a r l. row_loads (to_side c) b [] u a r l) at outs rows2.0))

      canonical : EachAt count x.size (λ a. IsCanonicalElementAt (to_side c) b (one [] u) a) at
      canonical = each_holds_map count x.size (λ a. AreCanonicalAt (to_side c) b (one [] u) a 0) (λ a. IsCanonicalElementAt (to_side c) b (one [] u) a) (λ a k. row_canonical (to_side c) b [] u a k) at rows2.1

      go : (d : Target) → IsPairAt c at count d us b → StandsAtTarget c (s_node k_list (one [] u)) (value.List (map unrow outs)) d us b
      go (Into a) h = behind_memory c at count a us b (λ q. list_value (to_side c) b (one [] u) (λ a. load_element (to_side c) b (one [] u) a) q) (λ p. EachAt p.count x.size (λ a. IsCanonicalElementAt (to_side c) b (one [] u) a) p.pointer) (value.List (map unrow outs)) h loaded canonical
      go (Slots ts) h = behind_flat c at count ts us b (λ q. list_value (to_side c) b (one [] u) (λ a. load_element (to_side c) b (one [] u) a) q) (λ p. EachAt p.count x.size (λ a. IsCanonicalElementAt (to_side c) b (one [] u) a) p.pointer) (value.List (map unrow outs)) h loaded canonical

  -- limits
  pub element_fit : (a : ℕ) → IsElementWithinAt (moving c) (one [] s) (one [] u) a → AreWithinAt (moving c) (one [] s) (one [] u) a
  unfolding IsElementWithinAt AreWithinAt
  element_fit a h = (subst (IsWithinAt (moving c) s u) (sym (fit_place (width_of_side c.transfer.from) s a)) h, tt)

  list_fit : (src : Source) (q : Pair) → pair_taken c src ≡ Some q → IsFit c (s_node k_list (one [] s)) (s_node k_list (one [] u)) src → ListFit c (one [] s) (one [] u) q
  unfolding IsWithinLimits IsWithinAt IsElementWithinAt AreWithinAt
  list_fit src q at fit = from_parts (go src at fit)
    where
      go : (src : Source) → pair_taken c src ≡ Some q → IsFit c (s_node k_list (one [] s)) (s_node k_list (one [] u)) src → IsListWithin (moving c) k_list (one [] s) (one [] u) (λ a. IsElementWithinAt (moving c) (one [] s) (one [] u) a) q
      go (Values vs) at fit = subst (λ o. ThereIs o (IsListWithin (moving c) k_list (one [] s) (one [] u) (λ a. IsElementWithinAt (moving c) (one [] s) (one [] u) a))) at fit
      go (AtAddress a) at fit = subst (λ o. ThereIs o (IsListWithin (moving c) k_list (one [] s) (one [] u) (λ a. IsElementWithinAt (moving c) (one [] s) (one [] u) a))) at fit

      from_parts : IsListWithin (moving c) k_list (one [] s) (one [] u) (λ a. IsElementWithinAt (moving c) (one [] s) (one [] u) a) q → ListFit c (one [] s) (one [] u) q
      from_parts l = record {
        source = subst (λ y. q.count * y.size < 2 ^ 32) (sym from_extent) l.source;
        destination = subst (λ y. q.count * y.size < 2 ^ 32) (sym to_extent) l.destination;
        each = subst (λ y. RowsFit c (one [] s) (one [] u) q.count y.size q.pointer) (sym from_extent)
            (each_holds_map q.count (extent (width_of_side c.transfer.from) (layout_of s)).size (λ a. IsElementWithinAt (moving c) (one [] s) (one [] u) a) (λ a. AreWithinAt (moving c) (one [] s) (one [] u) a) element_fit q.pointer l.each);
      }

  pub elements_of_list : (vs : List Value) → elements_in (out-Value (value.List vs)) ≡ Some vs
  elements_of_list vs = ap elements_in (value.outs-List vs)

  list_crosses : (vs us : List Value) (a b : List ℕ) → each_step (λ v. cross_element take_number (one [] s) v (one [] u)) vs a ≡ Some (us, b) → cross take_number (s_node k_list (one [] s)) (s_node k_list (one [] u)) (value.List vs) a ≡ Some (value.List us, b)
  unfolding cross cross_element
  list_crosses vs us a b h =
      ap (λ o. given o (λ vs. then_step (each_step (λ v. cross_element take_number (one [] s) v (one [] u)) vs) (λ us. done_step (value.List us))) a) (elements_of_list vs)
      ∙ ap (λ o. o >>= (λ r. done_step (value.List r.0) r.1)) h

  list_items : (vs : List Value) → items (to_side c) (s_node k_list (one [] s)) (s_node k_list (one [] u)) (value.List vs)
      ≡ RegionItem (extent (width_of_side c.transfer.to) (layout_of u)).align (length vs * (extent (width_of_side c.transfer.to) (layout_of u)).size) ∷ flat_map (λ v. items_element (to_side c) (one [] s) v (one [] u)) vs
  unfolding items items_element
  list_items vs = ap (λ o. of_some o (λ vs. RegionItem (extent (width_of_side c.transfer.to) (layout_of u)).align (length vs * (extent (width_of_side c.transfer.to) (layout_of u)).size) ∷ flat_map (λ v. items_element (to_side c) (one [] s) v (one [] u)) vs)) (elements_of_list vs)

  list_weighs : (vs : List Value) → weight (s_node k_list (one [] s)) (value.List vs) ≡ 1 + sum_by (λ v. weight_element (one [] s) v) vs
  unfolding weight weight_element
  list_weighs vs = ap (λ o. 1 + weight_in (sum_by (λ v. weight_element (one [] s) v)) o) (elements_of_list vs)

-- the pair of a list or a map in memory
pub pair_size : (o : LiftLowerOptions) → (extent (width_of_side o) pointer_pair_layout).size ≡ 2 * bytes_of_addresses o
pair_size o = go (is_wide o.memory)
  where
    go : (b : Bool) → (extent (width b) pointer_pair_layout).size ≡ 2 * pointer_bytes (width b)
    go true = refl
    go false = refl

pub list_law : (c : TransferSetting) → IsGrounded c → HasPointers c.transfer.from c.transfer.to → (s u : Shape) → IsValid u → AreLawfulMoves c (one [] s) (one [] u) 0 → IsLawfulMove c (s_node k_list (one [] s)) (s_node k_list (one [] u))
unfolding move
list_law c g has s u valid fields = record {
  by = λ src d v gs w m is h ready target.
      let t = list_taken c s src v h in
      let e = entry_extent c.transfer.from (one [] s) in
      let f = entry_extent c.transfer.to (one [] u) in
      let rows = map row t.values in
      let count : length t.values ≡ t.pair.count = length_each t.pair.count (extent (width_of_side c.transfer.from) (layout_of s)).size (λ a. load_element (from_side c) c.source (one [] s) a) t.pair.pointer t.values t.elements.each in
      let its = items (to_side c) (s_node k_list (one [] s)) (s_node k_list (one [] u)) (value.List t.values) in
      let same : RegionItem f.align (t.pair.count * f.size) ∷ flat_map (row_items c (one [] s) (one [] u)) rows ≡ its =
      ap (λ l. RegionItem f.align (t.pair.count * f.size) ∷ l) (flat_each (row_items c (one [] s) (one [] u)) (λ v. items_element (to_side c) (one [] s) v (one [] u)) row (row_asks c s u) t.values)
      ∙ ap (λ n. RegionItem f.align (n * f.size) ∷ flat_map (λ v. items_element (to_side c) (one [] s) v (one [] u)) t.values) (sym count)
      ∙ ap (λ x. RegionItem x.align (length t.values * x.size) ∷ flat_map (λ v. items_element (to_side c) (one [] s) v (one [] u)) t.values) (to_extent c s u)
      ∙ sym (list_items c s u t.values) in
      let loads = each_at_map t.pair.count (extent (width_of_side c.transfer.from) (layout_of s)).size (λ a. load_element (from_side c) c.source (one [] s) a) (λ a. load_members (from_side c) c.source (one [] s) a 0) row (λ a x l. element_loads (from_side c) c.source [] s a x l) t.pair.pointer t.values t.elements.each in
      let fits = ends_within (width_of_side c.transfer.to) (one [] u) in
      subst (λ v. RunsHonestly c gs (MayStop (IsFit c (s_node k_list (one [] s)) (s_node k_list (one [] u)) src) (items (to_side c) (s_node k_list (one [] s)) (s_node k_list (one [] u)) v)) (IsMoved c gs m (s_node k_list (one [] s)) (s_node k_list (one [] u)) d v) (move c.transfer (s_node k_list (one [] s)) (s_node k_list (one [] u)) src d) w) t.is
      (does_aligned g (s_node k_list (one [] s)) (s_node k_list (one [] u)) src d (Visit 1 (move_list c.transfer (one [] s) (one [] u) (λ s' d'. move_fields c.transfer (one [] s) (one [] u) 0 s' d') src d)) w
      (does_visit (does_more
      (λ r cs o x. subst (λ is. MayStop (IsFit c (s_node k_list (one [] s)) (s_node k_list (one [] u)) src) is r cs) same x)
      (λ k cs us w' o r. record {
        out = value.List (map unrow r.outs);
        carried = record {
          crosses = λ rest. list_crosses c s u t.values (map unrow r.outs) (numbers cs ++ rest) rest
              (each_map (row_crosses c (one [] s) (one [] u)) (λ v. cross_element take_number (one [] s) v (one [] u)) row unrow (λ x a b z y. row_crossed c s u x a b z y) t.values r.outs (numbers cs ++ rest) rest (r.crosses rest));
          told = subst (λ is. AreItemCalls is cs) same r.told;
          weighs = ap (λ i. 1 + i) (r.weighs ∙ sum_each (row_weight c (one [] s) (one [] u)) (λ v. weight_element (one [] s) v) row (row_weighs c s u) t.values) ∙ sym (list_weighs c s u t.values);
        };
        given = r.given;
        leaves = leaves_wider (λ j a. subst (λ z. IsAtTarget z d j) (sym (pair_size c.transfer.to)) a) (λ b a. list_stands c s u r.at t.pair.count r.outs d us b r.aligned a.0 a.1 a.2) r.leaves;
      })
      (list_moves c g has (one [] s) (one [] u) fields fits (omega (arith, takes_some (width_of_side c.transfer.to) [] u no_members valid, fits)) src d _ t.pair rows (IsFit c (s_node k_list (one [] s)) (s_node k_list (one [] u)) src) gs w m is t.at
      (subst (λ x. lies_aligned c.source x.align t.pair.pointer (t.pair.count * x.size) ≡ true) (sym (from_extent c s u)) t.elements.range)
      (subst (λ x. each_at t.pair.count x.size (λ a. load_members (from_side c) c.source (one [] s) a 0) t.pair.pointer ≡ Some rows) (sym (from_extent c s u)) loads)
      (λ k. list_fit c s u src t.pair t.at k) ready
      (subst (λ z. IsTarget c (pointer (width (is_wide c.transfer.to.memory)) ∷ pointer (width (is_wide c.transfer.to.memory)) ∷ []) z (IsInHand c gs) m d) (pair_size c.transfer.to) target)))));
}
