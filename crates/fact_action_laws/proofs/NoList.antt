-- A list that does not lift is never moved.
use Rattle.std.proofs.Common.{◌≡◌, ℕ, zero, suc, ◌+◌, ◌*◌, ◌%◌, ◌^◌, ◌≤◌, ◌<◌, Bool, true, List, [], ◌∷◌, ◌++◌, length, map, Option, Some, None, refl, sym, ap, ◌∙◌, subst, arith, eq-eqb}
use Rattle.std.specs.Prelude.{nat_lt, nat_le, ◌&&◌, if◌then◌else◌, option_map}
use Rattle.std.proofs.lemmas.Bool.{le-leb}
use Rattle.fact_types.specs.declared.outside.Trap.TheVariants.{ListOutOfBounds}
use Rattle.fact_types.specs.declared.extents.Extent.{Extent}
use Rattle.fact_types.specs.Layout.{extent}
use Rattle.fact_types.specs.Shapes.{k_list, k_map, Shape, s_node, Members, layout_of, ends_of}
use Rattle.fact_types.specs.Signatures.{pointer_bytes, width}
use Rattle.fact_types.proofs.PlaceLaws.{ends_within}
use Rattle.fact_types.proofs.ShapeLaws.{none_some}
use Rattle.fact_machine.specs.declared.types.CoreValue.{CoreValue}
use Rattle.fact_machine.specs.World.{World}
use Rattle.fact_actions.specs.Actions.{Action, Give, Visit, each, each_from, unless, ◌>>=◌}
use Rattle.fact_actions.specs.Moves.{entry_extent, move, move_fields, move_list}
use Rattle.fact_actions.specs.Sides.{Source, Values, AtAddress, Target, Into, width_of_side, bytes_of_addresses, read_number, read_pair, write_pair, check_region, reallocate}
use Rattle.fact_types.specs.Adapters.{is_wide}
use Rattle.fact_values.specs.declared.value.Value.{Value}
use Rattle.fact_values.specs.declared.value.Value.TheVariants as value
use Rattle.fact_values.specs.Lift.{lift_leading}
use Rattle.fact_values.specs.Load.{load, load_members, load_element, list_value, map_value}
use Rattle.fact_types.specs.Options.{◌>>=◌ as and_then}
use Rattle.fact_values.specs.Numbers.{number_in}
use Rattle.fact_values.specs.Places.{Pair, pair_at, each_at}
use Rattle.fact_values.specs.Texts.{lies_aligned}
use Rattle.fact_action_laws.specs.MoveTerms.{HasPointers}
use Rattle.fact_action_laws.specs.Places.{from_side, value_at_source, IsSource, HoldsMemories, IsGrounded, HasSideMemory}
use Rattle.fact_actions.specs.Regions.{Region}
use Rattle.fact_action_laws.specs.Regions.{TransferSetting, IsInHand, AreBytesOf, regions_after}
use Rattle.fact_action_laws.proofs.Elements.{each_at_map}
use Rattle.fact_action_laws.proofs.Fields.{members_taken}
use Rattle.fact_action_laws.proofs.MoveLaws.{AreLawfulMoves}
use Rattle.fact_action_laws.proofs.ListLaws.{one, unrow, row_loads, from_extent}
use Rattle.fact_action_laws.proofs.MapLaws.{two, unpair, entry_at, members_load}
use Rattle.fact_action_laws.proofs.Never.{never_unless, never_first, never_after, never_number, never_check}
use Rattle.fact_action_laws.proofs.Numbers.{reads_number}
use Rattle.fact_action_laws.proofs.Pairs.{same_bytes, pair_taken, reads_pair}
use Rattle.fact_action_laws.proofs.Plain.{does_aligned}
use Rattle.fact_action_laws.proofs.NewRegions.{does_reallocate}
use Rattle.fact_action_laws.proofs.Refusals.{RefusesFields, never_visit}
use Rattle.fact_action_laws.specs.Judged.{GivesNothing}
use Rattle.fact_action_laws.specs.MoveLaws.{Refuses}

-- ---- a pair that is not there

pub never_pair : (c : TransferSetting) → IsGrounded c → {gs : List Region} {A : Type 0} (s : Source) (k : ℕ → ℕ → Action A) (w : World) → IsSource c 2 s → AreBytesOf c.places c.transfer.from w.state c.source → pair_taken c s ≡ None → GivesNothing c gs (read_pair c.transfer.debug c.transfer.from s k) w
never_pair c g (Values []) k w is from h = absurd (omega (arith, is.0))
never_pair c g (Values (v ∷ [])) k w is from h = absurd (let z : 1 ≡ 2 = is.0 in omega (arith, z))
never_pair c g (Values (v ∷ (u ∷ vs))) k w is from h = absurd (none_some None _ refl (sym h))
never_pair c g {gs} {A} (AtAddress a) k w is from h = go (number_in c.source b (a + 0 * b)) refl (number_in c.source b (a + 1 * b)) refl
  where
    b : ℕ
    b = bytes_of_addresses c.transfer.from

    second : ℕ → Action A
    second p = read_number c.transfer.debug c.transfer.from b (AtAddress (a + 1 * b)) (λ n. k p n)

    go : (q : Option ℕ) → number_in c.source b (a + 0 * b) ≡ q → (r : Option ℕ) → number_in c.source b (a + 1 * b) ≡ r → GivesNothing c gs (read_number c.transfer.debug c.transfer.from b (AtAddress (a + 0 * b)) second) w
    go None e r f = never_number g b 0 (AtAddress (a + 0 * b)) second w is from e
    go (Some p) e None f = reads_number g b p 1 (AtAddress (a + 0 * b)) second w is from e (never_number g b 0 (AtAddress (a + 1 * b)) (λ n. k p n) w is from f)
    go (Some p) e (Some n) f = absurd (none_some None (record { pointer = p; count = n }) refl (sym h ∙ there))
      where
        wide : Bool
        wide = is_wide c.transfer.from.memory

        there : pair_at (from_side c) c.source a ≡ Some (record { pointer = p; count = n })
        there =
            let z : a ≡ a + 0 * b = omega arith in
            let o : a + b ≡ a + 1 * b = omega arith in
            let first : number_in c.source (pointer_bytes (width wide)) a ≡ Some p = ap (λ s. number_in c.source s a) (sym (same_bytes wide)) ∙ ap (number_in c.source b) z ∙ e in
            let second : number_in c.source (pointer_bytes (width wide)) (a + pointer_bytes (width wide)) ≡ Some n = ap (λ s. number_in c.source s (a + s)) (sym (same_bytes wide)) ∙ ap (number_in c.source b) o ∙ f in
            ap (λ o. and_then o (λ p. and_then (number_in c.source (pointer_bytes (width wide)) (a + pointer_bytes (width wide))) (λ n. Some (record { pointer = p; count = n })))) first ∙ ap (λ o. and_then o (λ n. Some (record { pointer = p; count = n }))) second

-- ---- rows of which one does not lift

module _ (c : TransferSetting) (ms ns : Members) (there_from : HasSideMemory c.transfer.from) (there_to : HasSideMemory c.transfer.to) (fields : AreLawfulMoves c ms ns 0) (never : RefusesFields c ms ns 0 (λ s. members_taken c ms s ≡ None)) (p q e f : ℕ) (fits : ends_of (width_of_side c.transfer.to) ns 0 ≤ f) where
  pub rows_never : (n i a b : ℕ) (gs : List Region) (w : World) (m : List ℕ) → a ≡ p + i * e → b ≡ q + i * f → each_at n e (λ a. load_members (from_side c) c.source ms a 0) a ≡ None
      → HoldsMemories c m w → b + n * f ≤ length m → ((j : ℕ) → b ≤ j → j < b + n * f → IsInHand c gs j) → GivesNothing c gs (each_from i n (λ i. move_fields c.transfer ms ns 0 (AtAddress (p + i * e)) (Into (q + i * f)))) w
  rows_never zero i a b gs w m ea eb h ready le live = absurd (none_some None [] refl (sym h))
  rows_never (suc n) i a b gs w m ea eb h ready le live =
      first (load_members (from_side c) c.source ms a 0) refl (each_at n e (λ a. load_members (from_side c) c.source ms a 0) (a + e)) refl
      (λ gs2 w2 m2 h2 r2 le2 live2. rows_never n (suc i) (a + e) (b + f) gs2 w2 m2 (omega (arith, ea)) (omega (arith, eb)) h2 r2 le2 live2)
    where
      later : List CoreValue → Action (List CoreValue)
      later us = each_from (suc i) n (λ i. move_fields c.transfer ms ns 0 (AtAddress (p + i * e)) (Into (q + i * f))) >>= (λ vs. Give (us ++ vs))

      moved : GivesNothing c gs (move_fields c.transfer ms ns 0 (AtAddress a) (Into b) >>= later) w → GivesNothing c gs (move_fields c.transfer ms ns 0 (AtAddress (p + i * e)) (Into (q + i * f)) >>= later) w
      moved d = subst (λ x. GivesNothing c gs (move_fields c.transfer ms ns 0 (AtAddress x) (Into (q + i * f)) >>= later) w) ea (subst (λ y. GivesNothing c gs (move_fields c.transfer ms ns 0 (AtAddress a) (Into y) >>= later) w) eb d)

      first : (o : Option (List Value)) → load_members (from_side c) c.source ms a 0 ≡ o → (r : Option (List (List Value))) → each_at n e (λ a. load_members (from_side c) c.source ms a 0) (a + e) ≡ r
          → ((gs2 : List Region) (w2 : World) (m2 : List ℕ) → each_at n e (λ a. load_members (from_side c) c.source ms a 0) (a + e) ≡ None → HoldsMemories c m2 w2 → (b + f) + n * f ≤ length m2 → ((j : ℕ) → b + f ≤ j → j < (b + f) + n * f → IsInHand c gs2 j)
          → GivesNothing c gs2 (each_from (suc i) n (λ i. move_fields c.transfer ms ns 0 (AtAddress (p + i * e)) (Into (q + i * f)))) w2)
          → GivesNothing c gs (move_fields c.transfer ms ns 0 (AtAddress (p + i * e)) (Into (q + i * f)) >>= later) w
      first None o r s more = moved (never_first (move_fields c.transfer ms ns 0 (AtAddress a) (Into b)) later w
          (never.by (AtAddress a) (Into b) gs w m there_from o ready (there_to, omega (arith, le, fits), λ j lo hi. live j (omega (arith, lo)) (omega (arith, hi, fits)))))
      first (Some row) o None s more = moved (never_after (move_fields c.transfer ms ns 0 (AtAddress a) (Into b)) later w
          (fields.by (AtAddress a) (Into b) row gs w m there_from o ready (there_to, omega (arith, le, fits), λ j lo hi. live j (omega (arith, lo)) (omega (arith, hi, fits))))
          (λ k cs us w' r. never_first (each_from (suc i) n (λ i. move_fields c.transfer ms ns 0 (AtAddress (p + i * e)) (Into (q + i * f)))) (λ vs. Give (us ++ vs)) w'
          (more (regions_after gs cs) w' r.leaves.now s r.leaves.ready (omega (arith, le, r.leaves.placed.room)) (λ j lo hi. r.leaves.placed.grows j (live j (omega (arith, lo)) (omega (arith, hi)))))))
      first (Some row) o (Some rows) s more = absurd (none_some None (row ∷ rows) refl (sym h ∙ ap (λ o. and_then o (λ v. and_then (each_at n e (λ a. load_members (from_side c) c.source ms a 0) (a + e)) (λ vs. Some (v ∷ vs)))) o ∙ ap (λ o. and_then o (λ vs. Some (row ∷ vs))) s))

-- ---- lists

-- what a list lacks at a source
pub data ListLacks (c : TransferSetting) (s : Shape) (src : Source) : Type 0 where
  lacks_pair : pair_taken c src ≡ None → ListLacks c s src
  lacks_elements : (q : Pair) → pair_taken c src ≡ Some q
      → (q.pointer % (extent (width_of_side c.transfer.from) (layout_of s)).align ≡ 0 → q.pointer + q.count * (extent (width_of_side c.transfer.from) (layout_of s)).size ≤ length c.source
      → each_at q.count (extent (width_of_side c.transfer.from) (layout_of s)).size (λ a. load_element (from_side c) c.source (one [] s) a) q.pointer ≡ None)
      → ListLacks c s src

elements_lack : (bytes : List ℕ) (x : Extent) (f : ℕ → Option Value) (q : Pair) → option_map (λ vs. value.List vs) (if lies_aligned bytes x.align q.pointer (q.count * x.size) then each_at q.count x.size f q.pointer else None) ≡ None
    → q.pointer % x.align ≡ 0 → q.pointer + q.count * x.size ≤ length bytes → each_at q.count x.size f q.pointer ≡ None
elements_lack bytes x f q h e le =
    go (each_at q.count x.size f q.pointer) refl
  where
    range : lies_aligned bytes x.align q.pointer (q.count * x.size) ≡ true
    range = ap (λ b. b && nat_le (q.pointer + q.count * x.size) (length bytes)) (eq-eqb (q.pointer % x.align) 0 e) ∙ le-leb (q.pointer + q.count * x.size) (length bytes) le

    go : (o : Option (List Value)) → each_at q.count x.size f q.pointer ≡ o → each_at q.count x.size f q.pointer ≡ None
    go None t = t
    go (Some vs) t = absurd (none_some None (value.List vs) refl
        (sym h ∙ ap (λ b. option_map (λ vs. value.List vs) (if b then each_at q.count x.size f q.pointer else None)) range ∙ ap (option_map (λ vs. value.List vs)) t))

list_lacks : (c : TransferSetting) (s : Shape) (src : Source) → value_at_source c (s_node k_list (one [] s)) src ≡ None → ListLacks c s src
unfolding load lift_leading load_element
list_lacks c s src h = go (pair_taken c src) refl
  where
    tail : Pair → Option Value
    tail q = list_value (from_side c) c.source (one [] s) (λ a. load_element (from_side c) c.source (one [] s) a) q

    both_kinds : (src : Source) → value_at_source c (s_node k_list (one [] s)) src ≡ and_then (pair_taken c src) (λ q. list_value (from_side c) c.source (one [] s) (λ a. load_element (from_side c) c.source (one [] s) a) q)
    both_kinds (Values vs) = refl
    both_kinds (AtAddress a) = refl

    go : (o : Option Pair) → pair_taken c src ≡ o → ListLacks c s src
    go None e = lacks_pair e
    go (Some q) e = lacks_elements q e (elements_lack c.source (extent (width_of_side c.transfer.from) (layout_of s)) (λ a. load_element (from_side c) c.source (one [] s) a) q
        (ap (λ o. and_then o (λ q. list_value (from_side c) c.source (one [] s) (λ a. load_element (from_side c) c.source (one [] s) a) q)) (sym e) ∙ sym (both_kinds src) ∙ h))

-- the tuples lack what the elements lack
rows_lack : (c : TransferSetting) (s : Shape) (n stride a : ℕ) → each_at n stride (λ a. load_element (from_side c) c.source (one [] s) a) a ≡ None → each_at n stride (λ a. load_members (from_side c) c.source (one [] s) a 0) a ≡ None
rows_lack c s n stride a h = go (each_at n stride (λ a. load_members (from_side c) c.source (one [] s) a 0) a) refl
  where
    go : (o : Option (List (List Value))) → each_at n stride (λ a. load_members (from_side c) c.source (one [] s) a 0) a ≡ o → each_at n stride (λ a. load_members (from_side c) c.source (one [] s) a 0) a ≡ None
    go None t = t
    go (Some rows) t = absurd (none_some None (map unrow rows) refl
        (sym h ∙ each_at_map n stride (λ a. load_members (from_side c) c.source (one [] s) a 0) (λ a. load_element (from_side c) c.source (one [] s) a) unrow (λ a r l. row_loads (from_side c) c.source [] s a r l) a rows t))

-- what tuples behind a pair lack
pub data RowsLack (c : TransferSetting) (ms : Members) (src : Source) : Type 0 where
  no_pair : pair_taken c src ≡ None → RowsLack c ms src
  no_rows : (q : Pair) → pair_taken c src ≡ Some q
      → (q.pointer % (entry_extent c.transfer.from ms).align ≡ 0 → q.pointer + q.count * (entry_extent c.transfer.from ms).size ≤ length c.source
      → each_at q.count (entry_extent c.transfer.from ms).size (λ a. load_members (from_side c) c.source ms a 0) q.pointer ≡ None)
      → RowsLack c ms src

-- elements that lack something are never moved
module _ (c : TransferSetting) (g : IsGrounded c) (has : HasPointers c.transfer.from c.transfer.to) (ms ns : Members) (fields : AreLawfulMoves c ms ns 0) (never : RefusesFields c ms ns 0 (λ src. members_taken c ms src ≡ None)) where
  abbrev e : Extent
  e = entry_extent c.transfer.from ms

  abbrev f : Extent
  f = entry_extent c.transfer.to ns

  abbrev filled : Target → ℕ → ℕ → ℕ → Action (List CoreValue)
  filled d p n at = each n (λ i. move_fields c.transfer ms ns 0 (AtAddress (p + i * e.size)) (Into (at + i * f.size))) >>= (λ vs. write_pair c.transfer.to d at n)

  abbrev made : Target → ℕ → ℕ → Action (List CoreValue)
  made d p n = reallocate c.transfer.concurrency c.transfer.to ListOutOfBounds 0 0 f.align (n * f.size) (filled d p n)

  abbrev checked : Target → ℕ → ℕ → Action (List CoreValue)
  checked d p n = check_region c.transfer.from ListOutOfBounds p (n * e.size) e.align (made d p n)

  abbrev second : Target → ℕ → ℕ → Action (List CoreValue)
  second d p n = unless ListOutOfBounds (nat_lt (n * f.size) (2 ^ 32)) (checked d p n)

  abbrev first : Target → ℕ → ℕ → Action (List CoreValue)
  first d p n = unless ListOutOfBounds (nat_lt (n * e.size) (2 ^ 32)) (second d p n)

  pub list_never : (src : Source) (d : Target) (gs : List Region) (w : World) (m : List ℕ) → IsSource c 2 src → HoldsMemories c m w → RowsLack c ms src → GivesNothing c gs (move_list c.transfer ms ns (λ s' d'. move_fields c.transfer ms ns 0 s' d') src d) w
  list_never src d gs w m is ready (no_pair h) = never_pair c g src (first d) w is ready.from h
  list_never src d gs w m is ready (no_rows q at none) =
      reads_pair g 2 src q (first d) w is ready.from at
      (never_unless ListOutOfBounds (nat_lt (q.count * e.size) (2 ^ 32)) (second d q.pointer q.count) w (λ ok1.
      never_unless ListOutOfBounds (nat_lt (q.count * f.size) (2 ^ 32)) (checked d q.pointer q.count) w (λ ok2.
      never_check c.transfer.from c.transfer.from.memory ListOutOfBounds q.pointer (q.count * e.size) e.align (made d q.pointer q.count) w c.source ready.from has.from (λ aligned inside.
      does_reallocate c m f.align (q.count * f.size) ListOutOfBounds (filled d q.pointer q.count) gs (λ s cs. Unit {0}) (λ n cs a w'. ⊥) w ready has.to has.realloc (λ cs b. tt)
      (λ at2 cs w1 new. never_first (each q.count (λ i. move_fields c.transfer ms ns 0 (AtAddress (q.pointer + i * e.size)) (Into (at2 + i * f.size)))) (λ vs. write_pair c.transfer.to d at2 q.count) w1
      (rows_never c ms ns has.from has.to fields never q.pointer at2 e.size f.size (ends_within (width_of_side c.transfer.to) ns) q.count 0 q.pointer at2 (regions_after gs cs) w1 new.now (omega arith) (omega arith)
      (none aligned inside) new.ready new.inside (λ j lo hi. (new.made.fresh j (lo, hi)).0)))))))

list_rows : (c : TransferSetting) (s u : Shape) (src : Source) → ListLacks c s src → RowsLack c (one [] s) src
list_rows c s u src (lacks_pair h) = no_pair h
list_rows c s u src (lacks_elements q at none) =
    let same = from_extent c s u in
    no_rows q at (λ aligned inside. subst (λ x. each_at q.count x.size (λ a. load_members (from_side c) c.source (one [] s) a 0) q.pointer ≡ None) (sym same)
    (rows_lack c s q.count (extent (width_of_side c.transfer.from) (layout_of s)).size q.pointer (none (subst (λ x. q.pointer % x.align ≡ 0) same aligned) (subst (λ x. q.pointer + q.count * x.size ≤ length c.source) same inside))))

pub list_refuses : (c : TransferSetting) → IsGrounded c → HasPointers c.transfer.from c.transfer.to → (s u : Shape) → AreLawfulMoves c (one [] s) (one [] u) 0 → RefusesFields c (one [] s) (one [] u) 0 (λ src. members_taken c (one [] s) src ≡ None) → Refuses c (s_node k_list (one [] s)) (s_node k_list (one [] u))
unfolding move
list_refuses c g has s u fields never = record {
  by = λ src d gs w m is h ready target.
      does_aligned g (s_node k_list (one [] s)) (s_node k_list (one [] u)) src d (Visit 1 (move_list c.transfer (one [] s) (one [] u) (λ s' d'. move_fields c.transfer (one [] s) (one [] u) 0 s' d') src d)) w
      (never_visit 1 (move_list c.transfer (one [] s) (one [] u) (λ s' d'. move_fields c.transfer (one [] s) (one [] u) 0 s' d') src d) w
      (list_never c g has (one [] s) (one [] u) fields never src d gs w m is ready (list_rows c s u src (list_lacks c s src h))));
}

-- ---- maps

entries_lack : (bytes : List ℕ) (x : Extent) (f : ℕ → Option (Value × Value)) (q : Pair) → option_map (λ es. value.Map es) (if lies_aligned bytes x.align q.pointer (q.count * x.size) then each_at q.count x.size f q.pointer else None) ≡ None
    → q.pointer % x.align ≡ 0 → q.pointer + q.count * x.size ≤ length bytes → each_at q.count x.size f q.pointer ≡ None
entries_lack bytes x f q h e le = go (each_at q.count x.size f q.pointer) refl
  where
    range : lies_aligned bytes x.align q.pointer (q.count * x.size) ≡ true
    range = ap (λ b. b && nat_le (q.pointer + q.count * x.size) (length bytes)) (eq-eqb (q.pointer % x.align) 0 e) ∙ le-leb (q.pointer + q.count * x.size) (length bytes) le

    go : (o : Option (List (Value × Value))) → each_at q.count x.size f q.pointer ≡ o → each_at q.count x.size f q.pointer ≡ None
    go None t = t
    go (Some es) t = absurd (none_some None (value.Map es) refl
        (sym h ∙ ap (λ b. option_map (λ es. value.Map es) (if b then each_at q.count x.size f q.pointer else None)) range ∙ ap (option_map (λ es. value.Map es)) t))

module _ (c : TransferSetting) (k1 w1 k2 w2 : Shape) where
  entry_rows : (n stride a : ℕ) → each_at n stride (entry_at (from_side c) c.source (two (0 ∷ []) (1 ∷ []) k1 w1)) a ≡ None → each_at n stride (λ a. load_members (from_side c) c.source (two (0 ∷ []) (1 ∷ []) k1 w1) a 0) a ≡ None
  entry_rows n stride a h = go (each_at n stride (λ a. load_members (from_side c) c.source (two (0 ∷ []) (1 ∷ []) k1 w1) a 0) a) refl
    where
      go : (o : Option (List (List Value))) → each_at n stride (λ a. load_members (from_side c) c.source (two (0 ∷ []) (1 ∷ []) k1 w1) a 0) a ≡ o → each_at n stride (λ a. load_members (from_side c) c.source (two (0 ∷ []) (1 ∷ []) k1 w1) a 0) a ≡ None
      go None t = t
      go (Some rows) t = absurd (none_some None (map unpair rows) refl
          (sym h ∙ each_at_map n stride (λ a. load_members (from_side c) c.source (two (0 ∷ []) (1 ∷ []) k1 w1) a 0) (entry_at (from_side c) c.source (two (0 ∷ []) (1 ∷ []) k1 w1)) unpair (λ a r l. members_load (from_side c) c.source (0 ∷ []) (1 ∷ []) k1 w1 a r l) a rows t))

  map_lacks : (src : Source) → value_at_source c (s_node k_map (two (0 ∷ []) (1 ∷ []) k1 w1)) src ≡ None → RowsLack c (two (0 ∷ []) (1 ∷ []) k1 w1) src
  unfolding load lift_leading load_members
  map_lacks src h = go (pair_taken c src) refl
    where
      tail : Pair → Option Value
      tail q = map_value (from_side c) c.source (two (0 ∷ []) (1 ∷ []) k1 w1) (λ a. load_members (from_side c) c.source (two (0 ∷ []) (1 ∷ []) k1 w1) a 0) q

      both_kinds : (src : Source) → value_at_source c (s_node k_map (two (0 ∷ []) (1 ∷ []) k1 w1)) src ≡ and_then (pair_taken c src) (λ q. map_value (from_side c) c.source (two (0 ∷ []) (1 ∷ []) k1 w1) (λ a. load_members (from_side c) c.source (two (0 ∷ []) (1 ∷ []) k1 w1) a 0) q)
      both_kinds (Values vs) = refl
      both_kinds (AtAddress a) = refl

      go : (o : Option Pair) → pair_taken c src ≡ o → RowsLack c (two (0 ∷ []) (1 ∷ []) k1 w1) src
      go None e = no_pair e
      go (Some q) e = no_rows q e (λ aligned inside. entry_rows q.count (entry_extent c.transfer.from (two (0 ∷ []) (1 ∷ []) k1 w1)).size q.pointer
          (entries_lack c.source (entry_extent c.transfer.from (two (0 ∷ []) (1 ∷ []) k1 w1)) (entry_at (from_side c) c.source (two (0 ∷ []) (1 ∷ []) k1 w1)) q
          (ap (λ o. and_then o (λ q. map_value (from_side c) c.source (two (0 ∷ []) (1 ∷ []) k1 w1) (λ a. load_members (from_side c) c.source (two (0 ∷ []) (1 ∷ []) k1 w1) a 0) q)) (sym e) ∙ sym (both_kinds src) ∙ h) aligned inside))

  pub map_refuses : IsGrounded c → HasPointers c.transfer.from c.transfer.to → AreLawfulMoves c (two (0 ∷ []) (1 ∷ []) k1 w1) (two (0 ∷ []) (1 ∷ []) k2 w2) 0
      → RefusesFields c (two (0 ∷ []) (1 ∷ []) k1 w1) (two (0 ∷ []) (1 ∷ []) k2 w2) 0 (λ src. members_taken c (two (0 ∷ []) (1 ∷ []) k1 w1) src ≡ None) → Refuses c (s_node k_map (two (0 ∷ []) (1 ∷ []) k1 w1)) (s_node k_map (two (0 ∷ []) (1 ∷ []) k2 w2))
  unfolding move
  map_refuses g has fields never = record {
    by = λ src d gs w m is h ready target.
        let ms = two (0 ∷ []) (1 ∷ []) k1 w1 in
        let ns = two (0 ∷ []) (1 ∷ []) k2 w2 in
        does_aligned g (s_node k_map ms) (s_node k_map ns) src d (Visit 1 (move_list c.transfer ms ns (λ s' d'. move_fields c.transfer ms ns 0 s' d') src d)) w
        (never_visit 1 (move_list c.transfer ms ns (λ s' d'. move_fields c.transfer ms ns 0 s' d') src d) w (list_never c g has ms ns fields never src d gs w m is ready (map_lacks src h)));
  }
