-- The parameters of a function, flat or through a pointer, are moved as the law says.
use Rattle.std.proofs.Common.{◌≡◌, ℕ, suc, ◌+◌, ◌%◌, ◌≤◌, ◌<◌, inl, Bool, true, false, List, [], ◌∷◌, ◌++◌, length, length-drop, take, drop, map, Option, Some, None, refl, sym, ap, ◌∙◌, subst, arith}
use Rattle.std.specs.Prelude.{nat_le, if◌then◌else◌}
use Rattle.std.specs.List.{zip}
use Rattle.std.proofs.lemmas.List.{append-nil, take-append-le, drop-append-le, take-append-drop}
use Rattle.fact_wasm.specs.declared.types.ValType.{ValType}
use Rattle.fact_types.specs.declared.flats.FlatType.{FlatType}
use Rattle.fact_types.specs.declared.flats.FlatType.TheVariants as flat_type
use Rattle.fact_types.specs.declared.extents.MemoryWidth.{MemoryWidth}
use Rattle.fact_types.specs.declared.outside.Trap.TheVariants.{MemoryOutOfBounds}
use Rattle.fact_types.specs.Fields.{Field, field_of}
use Rattle.fact_types.specs.Flat.{value_type}
use Rattle.fact_types.specs.FlatShapes.{flat, flat_members, upto, flat_types, after_flat, flat_each, when_upto}
use Rattle.fact_types.specs.Shapes.{Shape, Members, no_members, bare, typed, next_of}
use Rattle.fact_types.specs.Signatures.{width, flat_values}
use Rattle.fact_types.proofs.PlaceLaws.{ends_within}
use Rattle.fact_types.proofs.ShapeLaws.{same_some, none_some}
use Rattle.fact_machine.specs.declared.types.CoreValue.{CoreValue}
use Rattle.fact_machine.specs.World.{World}
use Rattle.fact_actions.specs.Actions.{Action, Give, ◌>>=◌, ◌>>◌}
use Rattle.fact_actions.specs.Moves.{move, move_fields, entry_extent, with_field, part, spot, past}
use Rattle.fact_actions.specs.Running.{Call}
use Rattle.fact_actions.specs.Sides.{Source, Values, AtAddress, Target, Slots, Into, width_of_side, address_value, first_bits, reallocate}
use Rattle.fact_types.specs.Adapters.{is_wide, Side}
use Rattle.fact_types.specs.Tuples.{members_from, tuple_members}
use Rattle.fact_actions.specs.Adapters.{check_tuple, from_values, into_params, flat_results, into_results}
use Rattle.fact_values.specs.declared.value.Value.{Value}
use Rattle.fact_values.specs.Places.{typed_names}
use Rattle.fact_action_laws.specs.Items.{ValueItem, RegionItem, items_fields}
use Rattle.fact_action_laws.specs.MoveTerms.{MayStop, CanAllocate}
use Rattle.fact_action_laws.specs.Places.{to_side, HasSideMemory, IsSource, HoldsMemories, can_hold, can_hold_all}
use Rattle.fact_actions.specs.Regions.{Region}
use Rattle.fact_action_laws.specs.Regions.{TransferSetting, IsInHand, regions_after}
use Rattle.fact_action_laws.proofs.Fields.{members_taken}
use Rattle.fact_action_laws.proofs.Judges.{does_give, does_bind}
use Rattle.fact_action_laws.proofs.MoveLaws.{AreMoved, AreLawfulMoves, AreFit}
use Rattle.fact_action_laws.proofs.Missing.{found_within}
use Rattle.fact_action_laws.proofs.NewRegions.{NewRegion, does_reallocate, does_check}
use Rattle.fact_action_laws.proofs.Records.{stops_later}
use Rattle.fact_action_laws.proofs.Targets.{both_true}
use Rattle.fact_action_laws.proofs.Telling.{told_one}
use mathlib.Core.Path.{fun_ext}
use Rattle.fact_action_laws.specs.Judged.{RunsHonestly}

-- ---- the slots of several types

holds_itself : (fs : List FlatType) → can_hold_all fs (map value_type fs) ≡ true
holds_itself [] = refl
holds_itself (f ∷ fs) = both_true (can_hold f (value_type f)) (can_hold_all fs (map value_type fs)) (one f) (holds_itself fs)
  where
    one : (f : FlatType) → can_hold f (value_type f) ≡ true
    one flat_type.I32 = refl
    one flat_type.I64 = refl
    one flat_type.F32 = refl
    one flat_type.F64 = refl

pub upto_is : {X : Type 0} (n : ℕ) (xs ys : List X) → upto n xs ≡ Some ys → xs ≡ ys
upto_is n xs ys h = go (nat_le (length xs) n) h
  where
    go : (b : Bool) → (if b then Some xs else None) ≡ Some ys → xs ≡ ys
    go true h = same_some (Some xs) xs ys refl h
    go false h = absurd (none_some None ys refl h)

pub flats_are : (w : MemoryWidth) (n : ℕ) (ss : List Shape) (fs : List FlatType) → flat_each w ss ≡ Some fs → flat_members w (members_from n ss) ≡ fs
flats_are w n [] fs h = same_some (Some []) [] fs refl h
flats_are w n (s ∷ ss) fs h = go (flat_types w s) refl (flat_each w ss) refl (λ gs e. flats_are w (suc n) ss gs e) h
  where
    go : (o : Option (List FlatType)) → flat_types w s ≡ o → (p : Option (List FlatType)) → flat_each w ss ≡ p → ((gs : List FlatType) → flat_each w ss ≡ Some gs → flat_members w (members_from (suc n) ss) ≡ gs)
        → after_flat (flat_types w s) (flat_each w ss) ≡ Some fs → flat w s ++ flat_members w (members_from (suc n) ss) ≡ fs
    go None e p f more h = absurd (none_some None fs refl (ap (λ o. after_flat o (flat_each w ss)) (sym e) ∙ h))
    go (Some xs) e None f more h = absurd (none_some None fs refl (ap (λ o. after_flat o None) (sym e) ∙ ap (after_flat (flat_types w s)) (sym f) ∙ h))
    go (Some xs) e (Some ys) f more h =
        ap (λ l. l ++ flat_members w (members_from (suc n) ss)) (upto_is 16 (flat w s) xs e) ∙ ap (λ l. xs ++ l) (more ys f)
        ∙ same_some (Some (xs ++ ys)) (xs ++ ys) fs refl (ap (λ o. after_flat o (Some ys)) (sym e) ∙ ap (after_flat (flat_types w s)) (sym f) ∙ h)

pub slots_hold : (b : Bool) (limit : ℕ) (ss : List Shape) (ts : List ValType) → flat_values b limit ss ≡ Some ts → can_hold_all (flat_members (width b) (tuple_members ss)) ts ≡ true
slots_hold b limit ss ts h = go (flat_each (width b) ss) refl h
  where
    flat_of : Option (List FlatType) → Option (List ValType)
    flat_of None = None
    flat_of (Some fs) = Some (map value_type fs)

    last : (fs : List FlatType) → flat_each (width b) ss ≡ Some fs → (q : Bool) → nat_le (length fs) limit ≡ q → flat_values b limit ss ≡ Some ts → can_hold_all (flat_members (width b) (tuple_members ss)) ts ≡ true
    last fs e true f h =
        let is : Some (map value_type fs) ≡ Some ts = ap flat_of (sym (ap (when_upto limit) e ∙ ap (λ q. if q then Some fs else None) f)) ∙ h in
        subst (λ l. can_hold_all (flat_members (width b) (tuple_members ss)) l ≡ true) (same_some (Some (map value_type fs)) (map value_type fs) ts refl is)
        (subst (λ l. can_hold_all l (map value_type fs) ≡ true) (sym (flats_are (width b) 0 ss fs e)) (holds_itself fs))
    last fs e false f h = absurd (none_some None ts refl (ap flat_of (sym (ap (when_upto limit) e ∙ ap (λ q. if q then Some fs else None) f)) ∙ h))

    go : (o : Option (List FlatType)) → flat_each (width b) ss ≡ o → flat_values b limit ss ≡ Some ts → can_hold_all (flat_members (width b) (tuple_members ss)) ts ≡ true
    go None e h = absurd (none_some None ts refl (ap flat_of (sym (ap (when_upto limit) e)) ∙ h))
    go (Some fs) e h = last fs e (nat_le (length fs) limit) refl h

-- ---- leading core values

pub take_within : {A : Type 0} (n k : ℕ) (vs xs : List A) → k + n ≤ length vs → take n (drop k (vs ++ xs)) ≡ take n (drop k vs)
take_within n k vs xs le = ap (take n) (drop-append-le k vs xs (omega (arith, le))) ∙ take-append-le n (drop k vs) xs (omega (arith, length-drop k vs, le))

-- fields are moved from those core values that stand for them, whatever is behind
fields_lead : (c : TransferSetting) (ms ns : Members) (e : ℕ) (vs xs : List CoreValue) (d : Target) → length (flat_members (width_of_side c.transfer.from) ms) ≤ length vs → move_fields c.transfer ms ns e (Values vs) d ≡ move_fields c.transfer ms ns e (Values (vs ++ xs)) d
unfolding move_fields
fields_lead c ms no_members e vs xs d le = refl
fields_lead c ms (bare x ns) e vs xs d le = fields_lead c ms ns e vs xs d le
fields_lead c ms (typed x u ns) e vs xs d le =
    go (field_of x ms) refl
    ∙ ap (λ R. with_field (field_of x ms) (λ f. move c.transfer f.shape u (part c.transfer.from f (Values (vs ++ xs))) (spot c.transfer.to u e d) >>= (λ us. R >>= (λ ws. Give (us ++ ws)))))
    (fields_lead c ms ns (next_of (width_of_side c.transfer.to) u e) vs xs (past c.transfer.to u d) le)
  where
    rest : List CoreValue → Action (List CoreValue)
    rest us = move_fields c.transfer ms ns (next_of (width_of_side c.transfer.to) u e) (Values vs) (past c.transfer.to u d) >>= (λ ws. Give (us ++ ws))

    go : (o : Option Field) → field_of x ms ≡ o → with_field o (λ f. move c.transfer f.shape u (part c.transfer.from f (Values vs)) (spot c.transfer.to u e d) >>= rest) ≡ with_field o (λ f. move c.transfer f.shape u (part c.transfer.from f (Values (vs ++ xs))) (spot c.transfer.to u e d) >>= rest)
    go None h = refl
    go (Some f) h =
        let within = found_within (width_of_side c.transfer.from) x ms 0 0 0 f h in
        ap (λ l. move c.transfer f.shape u (Values l) (spot c.transfer.to u e d) >>= rest) (sym (take_within (length (flat (width_of_side c.transfer.from) f.shape)) f.flat_place vs xs (omega (arith, within, le))))

-- ---- parameters

module _ (c : TransferSetting) (ts us : List Shape) where
  abbrev ms : Members
  ms = tuple_members ts

  abbrev ns : Members
  ns = tuple_members us

  -- so many core values, where they are flat
  abbrev pub leading : ℕ
  leading = length (flat_members (width_of_side c.transfer.from) ms)

  -- all of them are moved as these
  pub leads : (vs : List CoreValue) (d : Target) → IsSource c leading (Values (take leading vs)) → move_fields c.transfer ms ns 0 (Values (take leading vs)) d ≡ move_fields c.transfer ms ns 0 (Values vs) d
  leads vs d is = fields_lead c ms ns 0 (take leading vs) (drop leading vs) d (omega (arith, is.0)) ∙ ap (λ l. move_fields c.transfer ms ns 0 (Values l) d) (take-append-drop leading vs)

  -- The values that core values stand for: flat ones, or those of a tuple behind a pointer, which is aligned and all there.
  abbrev pub ComeBy : Option (List ValType) → List CoreValue → List Value → Type 0
  ComeBy (Some flats) vs rs = IsSource c leading (Values (take leading vs)) × (members_taken c ms (Values (take leading vs)) ≡ Some rs)
  ComeBy None vs rs =
      HasSideMemory c.transfer.from × (first_bits vs % (entry_extent c.transfer.from ms).align ≡ 0) × (first_bits vs + (entry_extent c.transfer.from ms).size ≤ length c.source) × (members_taken c ms (AtAddress (first_bits vs)) ≡ Some rs)

  -- they are within limits
  abbrev pub AreInLimits : Option (List ValType) → List CoreValue → Type 0
  AreInLimits (Some flats) vs = AreFit c ms ns (Values (take leading vs))
  AreInLimits None vs = AreFit c ms ns (AtAddress (first_bits vs))

  -- what the values call for: the region of their tuple is the first
  abbrev pub called_for : Option (List ValType) → List Value → List ValueItem
  called_for (Some flats) rs = items_fields (to_side c) ms (zip (typed_names ms) rs) ns
  called_for None rs = RegionItem (entry_extent c.transfer.to ns).align (entry_extent c.transfer.to ns).size ∷ items_fields (to_side c) ms (zip (typed_names ms) rs) ns

  -- a tuple was passed through a new region
  pub record Passed (gs : List Region) (m : List ℕ) (rs : List Value) (k : ℕ) (cs : List Call) (vs : List CoreValue) (w : World) : Type 0 where
    pub at : ℕ
    pub first : List Call
    pub others : List Call
    pub between : World
    pub is : cs ≡ first ++ others
    pub new : NewRegion c gs m (entry_extent c.transfer.to ns).align (entry_extent c.transfer.to ns).size at first between
    pub moved : AreMoved c (regions_after gs first) new.now ms ns 0 (Into at) rs k others [] w
    pub given : vs ≡ address_value c.transfer.to at ∷ []

  abbrev pub WentBy : Option (List ValType) → List Region → List ℕ → List Value → ℕ → List Call → List CoreValue → World → Type 0
  WentBy (Some flats) gs m rs k cs vs w = AreMoved c gs m ms ns 0 (Slots flats) rs k cs vs w
  WentBy None gs m rs k cs vs w = Passed gs m rs k cs vs w

  -- from a source into the parameters
  into : AreLawfulMoves c ms ns 0 → (q : Option (List ValType)) → flat_values (is_wide c.transfer.to.memory) 16 us ≡ q → (flat_values (is_wide c.transfer.to.memory) 16 us ≡ None → CanAllocate c.transfer.to) → (s : Source) (rs : List Value) (gs : List Region) (w : World) (m : List ℕ) → IsSource c (length (flat_members (width_of_side c.transfer.from) ms)) s → members_taken c ms s ≡ Some rs → HoldsMemories c m w
      → RunsHonestly c gs (MayStop (AreFit c ms ns s) (called_for q rs)) (WentBy q gs m rs)
      (elim q [
        | Some flats ↦ move_fields c.transfer ms ns 0 s (Slots flats)
        | None ↦ reallocate c.transfer.concurrency c.transfer.to MemoryOutOfBounds 0 0 (entry_extent c.transfer.to ns).align (entry_extent c.transfer.to ns).size (λ q. move_fields c.transfer ms ns 0 s (Into q) >> Give (address_value c.transfer.to q ∷ []))
      ]) w
  into fields (Some flats) e has s rs gs w m is h ready = fields.by s (Slots flats) rs gs w m is h ready (slots_hold (is_wide c.transfer.to.memory) 16 us flats e)
  into fields None e has s rs gs w m is h ready =
      let x = entry_extent c.transfer.to ns in
      let its = items_fields (to_side c) ms (zip (typed_names ms) rs) ns in
      let fits = ends_within (width_of_side c.transfer.to) ns in
      let filled : ℕ → Action (List CoreValue) = λ q. move_fields c.transfer ms ns 0 s (Into q) >>= (λ us. Give (address_value c.transfer.to q ∷ [])) in
      does_reallocate c m x.align x.size MemoryOutOfBounds filled gs (MayStop (AreFit c ms ns s) (RegionItem x.align x.size ∷ its)) (Passed gs m rs) w ready (has e).memory (has e).realloc (λ cs b. inl b)
      (λ q cs w1 new.
      does_bind (move_fields c.transfer ms ns 0 s (Into q)) (λ us. Give (address_value c.transfer.to q ∷ [])) w1
      (fields.by s (Into q) rs (regions_after gs cs) w1 new.now is h new.ready ((has e).memory, omega (arith, new.inside, fits), λ j lo hi. (new.made.fresh j (omega (arith, lo), omega (arith, hi, fits))).0))
      (λ t ds k. stops_later (AreFit c ms ns s) (AreFit c ms ns s) (RegionItem x.align x.size ∷ []) its cs (λ k. k) (told_one (RegionItem x.align x.size) cs new.told) t ds k)
      (λ k ds us w2 o t. does_give (record {
        at = q;
        first = cs;
        others = ds;
        between = w1;
        is = ap (λ l. cs ++ l) (append-nil ds);
        new = new;
        given = refl;
        moved = let z : k ≡ k + 0 = omega arith in
            subst (λ l. AreMoved c (regions_after gs cs) new.now ms ns 0 (Into q) rs (k + 0) ds l w2) t.given (subst (λ n. AreMoved c (regions_after gs cs) new.now ms ns 0 (Into q) rs n ds us w2) z t);
      })))

  -- Parameters that come in by core values of one side are moved to the other.
  pub params_law : AreLawfulMoves c ms ns 0 → (flat_values (is_wide c.transfer.to.memory) 16 us ≡ None → CanAllocate c.transfer.to) → (limit : ℕ) (vs : List CoreValue) (rs : List Value) (gs : List Region) (w : World) (m : List ℕ) → ComeBy (flat_values (is_wide c.transfer.from.memory) limit ts) vs rs → HoldsMemories c m w
      → RunsHonestly c gs (MayStop (AreInLimits (flat_values (is_wide c.transfer.from.memory) limit ts) vs) (called_for (flat_values (is_wide c.transfer.to.memory) 16 us) rs)) (WentBy (flat_values (is_wide c.transfer.to.memory) 16 us) gs m rs)
      (from_values c.transfer.from limit ts vs (λ s. into_params c.transfer us (λ d. move_fields c.transfer ms ns 0 s d))) w
  params_law fields has limit vs rs gs w m come ready = go (flat_values (is_wide c.transfer.from.memory) limit ts) come
    where
      further : (s : Source) → Action (List CoreValue)
      further s = into_params c.transfer us (λ d. move_fields c.transfer ms ns 0 s d)

      done : (s : Source) → IsSource c (length (flat_members (width_of_side c.transfer.from) ms)) s → members_taken c ms s ≡ Some rs
          → RunsHonestly c gs (MayStop (AreFit c ms ns s) (called_for (flat_values (is_wide c.transfer.to.memory) 16 us) rs)) (WentBy (flat_values (is_wide c.transfer.to.memory) 16 us) gs m rs) (further s) w
      done s is h = into fields (flat_values (is_wide c.transfer.to.memory) 16 us) refl has s rs gs w m is h ready

      go : (q : Option (List ValType)) → ComeBy q vs rs
          → RunsHonestly c gs (MayStop (AreInLimits q vs) (called_for (flat_values (is_wide c.transfer.to.memory) 16 us) rs)) (WentBy (flat_values (is_wide c.transfer.to.memory) 16 us) gs m rs)
          (elim q [ Some flats ↦ further (Values vs) | None ↦ check_tuple c.transfer.from ts (first_bits vs) (further (AtAddress (first_bits vs))) ]) w
      go (Some flats) come = subst (λ q. RunsHonestly c gs (MayStop (AreFit c ms ns (Values (take leading vs))) (called_for (flat_values (is_wide c.transfer.to.memory) 16 us) rs)) (WentBy (flat_values (is_wide c.transfer.to.memory) 16 us) gs m rs) q w) (ap (λ F. into_params c.transfer us F) (fun_ext (λ d. leads vs d come.0))) (done (Values (take leading vs)) come.0 come.1)
      go None come = does_check c.transfer.from c.transfer.from.memory MemoryOutOfBounds (first_bits vs) (entry_extent c.transfer.from ms).size (entry_extent c.transfer.from ms).align (further (AtAddress (first_bits vs))) w c.source come.0 ready.from come.1 come.2
          (done (AtAddress (first_bits vs)) come.0 come.3)

  -- ---- results

  -- where results go: into slots, or to a return pointer, which is aligned and whose place is all live
  abbrev pub IsPlaceOf : Option (List ValType) → ℕ → (live : ℕ → Type 0) → List ℕ → Type 0
  IsPlaceOf (Some flats) pointer live m = Unit {0}
  IsPlaceOf None pointer live m =
      HasSideMemory c.transfer.to × (pointer % (entry_extent c.transfer.to ns).align ≡ 0) × (pointer + (entry_extent c.transfer.to ns).size ≤ length m) × ((j : ℕ) → pointer ≤ j → j < pointer + (entry_extent c.transfer.to ns).size → live j)

  abbrev pub spot_of : Option (List ValType) → ℕ → Target
  spot_of (Some flats) pointer = Slots flats
  spot_of None pointer = Into pointer

  -- the side that results go to
  abbrev pub ends_at : Side → Side
  ends_at s = record s { encoding = c.transfer.to.encoding; memory = c.transfer.to.memory; realloc = c.transfer.to.realloc; results = us }

  pub results_hold : (s : Side) (async : Bool) (rs : List Shape) (flats : List ValType) → flat_results (record s { memory = c.transfer.to.memory; async_side = async; results = rs }) ≡ Some flats → can_hold_all (flat_members (width_of_side c.transfer.to) (tuple_members rs)) flats ≡ true
  results_hold s false rs flats e = slots_hold (is_wide c.transfer.to.memory) 1 rs flats e
  results_hold s true [] flats e = subst (λ l. can_hold_all [] l ≡ true) (same_some (Some []) [] flats refl e) refl
  results_hold s true (r ∷ rs) flats e = absurd (none_some None flats refl e)

  results_into : AreLawfulMoves c ms ns 0 → (s : Side) (q : Option (List ValType)) → flat_results (ends_at s) ≡ q → (pointer : ℕ) (src : Source) (rs : List Value) (gs : List Region) (w : World) (m : List ℕ) → IsSource c (length (flat_members (width_of_side c.transfer.from) ms)) src → members_taken c ms src ≡ Some rs
      → HoldsMemories c m w → IsPlaceOf q pointer (IsInHand c gs) m
      → RunsHonestly c gs (MayStop (AreFit c ms ns src) (items_fields (to_side c) ms (zip (typed_names ms) rs) ns)) (AreMoved c gs m ms ns 0 (spot_of q pointer) rs)
      (elim q [ Some flats ↦ move_fields c.transfer ms ns 0 src (Slots flats) | None ↦ check_tuple c.transfer.to us pointer (move_fields c.transfer ms ns 0 src (Into pointer)) ]) w
  results_into fields s (Some flats) e pointer src rs gs w m is h ready place = fields.by src (Slots flats) rs gs w m is h ready (results_hold s s.async_side us flats e)
  results_into fields s None e pointer src rs gs w m is h ready place =
      let fits = ends_within (width_of_side c.transfer.to) ns in
      does_check c.transfer.to c.transfer.to.memory MemoryOutOfBounds pointer (entry_extent c.transfer.to ns).size (entry_extent c.transfer.to ns).align (move_fields c.transfer ms ns 0 src (Into pointer)) w m place.0 ready.to place.1 place.2
      (fields.by src (Into pointer) rs gs w m is h ready (place.0, omega (arith, place.2, fits), λ j lo hi. place.3 j (omega (arith, lo)) (omega (arith, hi, fits))))

  -- Results that come out by core values of one side are moved to the other.
  pub results_law : AreLawfulMoves c ms ns 0 → (s : Side) (limit pointer : ℕ) (vs : List CoreValue) (rs : List Value) (gs : List Region) (w : World) (m : List ℕ) → ComeBy (flat_values (is_wide c.transfer.from.memory) limit ts) vs rs → HoldsMemories c m w → IsPlaceOf (flat_results (ends_at s)) pointer (IsInHand c gs) m
      → RunsHonestly c gs (MayStop (AreInLimits (flat_values (is_wide c.transfer.from.memory) limit ts) vs) (items_fields (to_side c) ms (zip (typed_names ms) rs) ns)) (AreMoved c gs m ms ns 0 (spot_of (flat_results (ends_at s)) pointer) rs)
      (from_values c.transfer.from limit ts vs (λ src. into_results (ends_at s) pointer (λ d. move_fields c.transfer ms ns 0 src d))) w
  results_law fields s limit pointer vs rs gs w m come ready place = go (flat_values (is_wide c.transfer.from.memory) limit ts) come
    where
      further : (src : Source) → Action (List CoreValue)
      further src = into_results (ends_at s) pointer (λ d. move_fields c.transfer ms ns 0 src d)

      done : (src : Source) → IsSource c (length (flat_members (width_of_side c.transfer.from) ms)) src → members_taken c ms src ≡ Some rs
          → RunsHonestly c gs (MayStop (AreFit c ms ns src) (items_fields (to_side c) ms (zip (typed_names ms) rs) ns)) (AreMoved c gs m ms ns 0 (spot_of (flat_results (ends_at s)) pointer) rs) (further src) w
      done src is h = results_into fields s (flat_results (ends_at s)) refl pointer src rs gs w m is h ready place

      go : (q : Option (List ValType)) → ComeBy q vs rs
          → RunsHonestly c gs (MayStop (AreInLimits q vs) (items_fields (to_side c) ms (zip (typed_names ms) rs) ns)) (AreMoved c gs m ms ns 0 (spot_of (flat_results (ends_at s)) pointer) rs)
          (elim q [ Some flats ↦ further (Values vs) | None ↦ check_tuple c.transfer.from ts (first_bits vs) (further (AtAddress (first_bits vs))) ]) w
      go (Some flats) come = subst (λ q. RunsHonestly c gs (MayStop (AreFit c ms ns (Values (take leading vs))) (items_fields (to_side c) ms (zip (typed_names ms) rs) ns)) (AreMoved c gs m ms ns 0 (spot_of (flat_results (ends_at s)) pointer) rs) q w) (ap (λ F. into_results (ends_at s) pointer F) (fun_ext (λ d. leads vs d come.0))) (done (Values (take leading vs)) come.0 come.1)
      go None come = does_check c.transfer.from c.transfer.from.memory MemoryOutOfBounds (first_bits vs) (entry_extent c.transfer.from ms).size (entry_extent c.transfer.from ms).align (further (AtAddress (first_bits vs))) w c.source come.0 ready.from come.1 come.2
          (done (AtAddress (first_bits vs)) come.0 come.3)
