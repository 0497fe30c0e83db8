-- Where the values of a tuple do not lift at a source, its transfer never gives anything; so where it may give, they do.
use Rattle.std.proofs.Common.{◌≡◌, ℕ, ◌+◌, ◌%◌, ◌≤◌, ◌<◌, ◌⊎◌, inl, inr, Bool, true, false, List, [], ◌∷◌, ◌++◌, length, take, map, Option, Some, None, refl, sym, ap, ◌∙◌, subst, arith, nat_eq, eq-eqb, le-leb, ⊎_elim}
use Rattle.std.specs.Prelude.{nat_le, if◌then◌else◌, ◌==◌}
use Rattle.std.proofs.lemmas.Bool.{false≢true, eqb-true, leb-true}
use mathlib.Core.Path.{fun_ext}
use Rattle.fact_wasm.specs.declared.types.ValType.{ValType}
use Rattle.fact_types.specs.declared.outside.Trap.TheVariants.{MemoryOutOfBounds}
use Rattle.fact_types.specs.Adapters.{Side, is_wide}
use Rattle.fact_types.specs.Agrees.{AgreesPlaces}
use Rattle.fact_types.specs.Shapes.{Shape, Members}
use Rattle.fact_types.specs.Signatures.{flat_values, flat_params, flat_or, address}
use Rattle.fact_types.specs.Tuples.{tuple_members, tuple_of}
use Rattle.fact_types.proofs.PlaceLaws.{ends_within}
use Rattle.fact_machine.specs.declared.types.CoreValue.{CoreValue}
use Rattle.fact_machine.specs.World.{World}
use Rattle.fact_actions.specs.Actions.{Action, Give, ◌>>=◌, ◌>>◌}
use Rattle.fact_actions.specs.Adapters.{check_tuple, from_values, into_params, flat_results, into_results}
use Rattle.fact_actions.specs.Moves.{move_fields, entry_extent}
use Rattle.fact_actions.specs.Regions.{Region}
use Rattle.fact_actions.specs.Sides.{Source, Values, AtAddress, Slots, Into, width_of_side, address_value, first_bits, reallocate}
use Rattle.fact_values.specs.declared.value.Value.{Value}
use Rattle.fact_action_laws.specs.MoveTerms.{CanAllocate, AreSupplied, AreWellFormed}
use Rattle.fact_action_laws.specs.Places.{IsSource, HoldsMemories, IsGrounded, HasSideMemory, from_side}
use Rattle.fact_action_laws.specs.Regions.{TransferSetting, IsInHand, regions_after}
use Rattle.fact_action_laws.proofs.Converse.{carries_fields, fields_refuse, places_lack}
use Rattle.fact_action_laws.proofs.Fields.{members_taken}
use Rattle.fact_action_laws.proofs.MoveLaws.{AreLawfulMoves}
use Rattle.fact_action_laws.proofs.Membered.{members_typed, names_distinct, names_same}
use Rattle.fact_action_laws.proofs.Never.{never_check, never_first}
use Rattle.fact_action_laws.proofs.NewRegions.{does_check, does_reallocate}
use Rattle.fact_action_laws.proofs.Refusals.{RefusesFields}
use Rattle.fact_action_laws.proofs.Theorem.{AreValid}
use Rattle.fact_action_laws.proofs.Transfers.{ComeBy, IsPlaceOf, ends_at, leading, leads, slots_hold, results_hold, flats_are}
use Rattle.fact_machine.specs.Typed.{are_values, is_value}
use Rattle.fact_values.specs.Tuples.{flat_or_behind, behind_only, where_flat, lift_all, load_tuple}
use Rattle.fact_values.specs.Load.{load_members}
use Rattle.fact_values.specs.Places.{extent_on}
use Rattle.fact_values.specs.declared.side.SideAbi.{SideAbi}
use Rattle.fact_action_laws.proofs.Landed.{flat_of}
use Rattle.fact_action_laws.proofs.Landing.{behind_typed, all_each}
use Rattle.fact_action_laws.proofs.Standing.{lifts_all, each_flat, all_stand}
use Rattle.fact_values.specs.Lift.{can_stand_all, bits_of}
use Rattle.fact_types.specs.FlatShapes.{flat_all, flat_members}
use Rattle.fact_types.specs.declared.flats.FlatType.{FlatType}
use Rattle.fact_types.specs.Flat.{value_type}
use Rattle.fact_action_laws.proofs.Targets.{both_true, left_true, right_true}
use Rattle.std.proofs.lemmas.List.{length-map}
use Rattle.fact_action_laws.specs.Judged.{GivesNothing}
use Rattle.fact_action_laws.specs.MoveLaws.{Texts}

-- tuples of which not all members lift are never moved
pub tuple_lacks : (c : TransferSetting) → IsGrounded c → Texts c → (ts us : List Shape) → AgreesPlaces (tuple_members ts) (tuple_members us) → AreValid (tuple_members ts) → AreWellFormed (tuple_members ts) → AreValid (tuple_members us) → AreWellFormed (tuple_members us)
    → AreSupplied c (tuple_members ts) → AreLawfulMoves c (tuple_members ts) (tuple_members us) 0 × RefusesFields c (tuple_members ts) (tuple_members us) 0 (λ s. members_taken c (tuple_members ts) s ≡ None)
tuple_lacks c g texts ts us agree valid_from formed_from valid_to formed_to has =
    places_lack c g texts (tuple_members ts) (tuple_members us) agree (names_same ts us agree) (names_distinct 0 us) (members_typed 0 ts) (members_typed 0 us) valid_from formed_from has
    (λ ms af vm fm h. (carries_fields c g texts (tuple_members us) ms 0 af vm fm valid_to formed_to h, fields_refuse c g texts (tuple_members us) ms 0 af vm fm valid_to formed_to h))

-- a tuple at an address that is in order
module _ (side : SideAbi) where
  pub tuple_loads : (bytes : List ℕ) (ts : List Shape) (q : ℕ) (rs : List Value) → q % (extent_on side (tuple_of ts)).align ≡ 0 → q + (extent_on side (tuple_of ts)).size ≤ length bytes → load_members side bytes (tuple_members ts) q 0 ≡ Some rs → load_tuple side bytes ts q ≡ Some rs
  tuple_loads bytes ts q rs aligned inside h =
      ap (λ b. if b then load_members side bytes (tuple_members ts) q 0 else None)
      (both_true (q % (extent_on side (tuple_of ts)).align == 0) (nat_le (q + (extent_on side (tuple_of ts)).size) (length bytes)) (eq-eqb _ 0 aligned) (le-leb _ (length bytes) inside))
      ∙ h

-- Either values come in, or nothing is ever given.
module _ (c : TransferSetting) (ts us : List Shape) (gs : List Region) (w : World) (m : List ℕ) (ready : HoldsMemories c m w) where
  abbrev ms : Members
  ms = tuple_members ts

  abbrev ns : Members
  ns = tuple_members us

  come_or_never : (q : Option (List ValType)) (vs : List CoreValue) (rest : Source → Action (List CoreValue))
      → ((flats : List ValType) → q ≡ Some flats → IsSource c (leading c ts us) (Values (take (leading c ts us) vs))) → (q ≡ None → HasSideMemory c.transfer.from)
      → (IsSource c (leading c ts us) (Values (take (leading c ts us) vs)) → rest (Values (take (leading c ts us) vs)) ≡ rest (Values vs))
      → ((s : Source) → IsSource c (leading c ts us) s → members_taken c ms s ≡ None → GivesNothing c gs (rest s) w)
      → ((rs : List Value) × ComeBy c ts us q vs rs) ⊎ GivesNothing c gs (elim q [ Some flats ↦ rest (Values vs) | None ↦ check_tuple c.transfer.from ts (first_bits vs) (rest (AtAddress (first_bits vs))) ]) w
  come_or_never (Some flats) vs rest source memory same refuses = go (members_taken c ms (Values (take (leading c ts us) vs))) refl
    where
      is : IsSource c (leading c ts us) (Values (take (leading c ts us) vs))
      is = source flats refl

      go : (o : Option (List Value)) → members_taken c ms (Values (take (leading c ts us) vs)) ≡ o → ((rs : List Value) × ComeBy c ts us (Some flats) vs rs) ⊎ GivesNothing c gs (rest (Values vs)) w
      go None e = inr (subst (λ q. GivesNothing c gs q w) (same is) (refuses (Values (take (leading c ts us) vs)) is e))
      go (Some rs) e = inl (rs, (is, e))
  come_or_never None vs rest source memory same refuses =
      aligned (nat_eq (first_bits vs % (entry_extent c.transfer.from ms).align) 0) refl (nat_le (first_bits vs + (entry_extent c.transfer.from ms).size) (length c.source)) refl (members_taken c ms (AtAddress (first_bits vs))) refl
    where
      checked : Action (List CoreValue)
      checked = check_tuple c.transfer.from ts (first_bits vs) (rest (AtAddress (first_bits vs)))

      never : (first_bits vs % (entry_extent c.transfer.from ms).align ≡ 0 → first_bits vs + (entry_extent c.transfer.from ms).size ≤ length c.source → GivesNothing c gs (rest (AtAddress (first_bits vs))) w) → GivesNothing c gs checked w
      never h = never_check c.transfer.from c.transfer.from.memory MemoryOutOfBounds (first_bits vs) (entry_extent c.transfer.from ms).size (entry_extent c.transfer.from ms).align (rest (AtAddress (first_bits vs))) w c.source ready.from (memory refl) h

      not_so : (b : Bool) → b ≡ false → b ≡ true → GivesNothing c gs (rest (AtAddress (first_bits vs))) w
      not_so b e f = absurd (false≢true (sym e ∙ f))

      aligned : (b : Bool) → nat_eq (first_bits vs % (entry_extent c.transfer.from ms).align) 0 ≡ b → (d : Bool) → nat_le (first_bits vs + (entry_extent c.transfer.from ms).size) (length c.source) ≡ d
          → (o : Option (List Value)) → members_taken c ms (AtAddress (first_bits vs)) ≡ o → ((rs : List Value) × ComeBy c ts us None vs rs) ⊎ GivesNothing c gs checked w
      aligned false e d f o k = inr (never (λ x y. not_so _ e (eq-eqb (first_bits vs % (entry_extent c.transfer.from ms).align) 0 x)))
      aligned true e false f o k = inr (never (λ x y. not_so _ f (le-leb _ (length c.source) y)))
      aligned true e true f None k = inr (never (λ x y. refuses (AtAddress (first_bits vs)) (memory refl) k))
      aligned true e true f (Some rs) k = inl (rs, (memory refl, eqb-true _ 0 e, leb-true _ (length c.source) f, k))

  -- what does not lift does not get into parameters
  into_refuses : RefusesFields c ms ns 0 (λ s. members_taken c ms s ≡ None) → (q : Option (List ValType)) → flat_values (is_wide c.transfer.to.memory) 16 us ≡ q → (q ≡ None → CanAllocate c.transfer.to) → (s : Source) → IsSource c (leading c ts us) s → members_taken c ms s ≡ None
      → GivesNothing c gs (elim q [
        | Some flats ↦ move_fields c.transfer ms ns 0 s (Slots flats)
        | None ↦ reallocate c.transfer.concurrency c.transfer.to MemoryOutOfBounds 0 0 (entry_extent c.transfer.to ns).align (entry_extent c.transfer.to ns).size (λ q. move_fields c.transfer ms ns 0 s (Into q) >> Give (address_value c.transfer.to q ∷ []))
      ]) w
  into_refuses never (Some flats) e has s is none = never.by s (Slots flats) gs w m is none ready (slots_hold (is_wide c.transfer.to.memory) 16 us flats e)
  into_refuses never None e has s is none =
      let x = entry_extent c.transfer.to ns in
      let fits = ends_within (width_of_side c.transfer.to) ns in
      let filled : ℕ → Action (List CoreValue) = λ q. move_fields c.transfer ms ns 0 s (Into q) >>= (λ us. Give (address_value c.transfer.to q ∷ [])) in
      does_reallocate c m x.align x.size MemoryOutOfBounds filled gs (λ s cs. Unit {0}) (λ n cs a w'. ⊥) w ready (has refl).memory (has refl).realloc (λ cs b. tt)
      (λ q cs w1 new. never_first (move_fields c.transfer ms ns 0 s (Into q)) (λ us. Give (address_value c.transfer.to q ∷ [])) w1
      (never.by s (Into q) (regions_after gs cs) w1 new.now is none new.ready ((has refl).memory, omega (arith, new.inside, fits), λ j lo hi. (new.made.fresh j (omega (arith, lo), omega (arith, hi, fits))).0)))

  -- Parameters come in, or are never passed on.
  pub params_come : RefusesFields c ms ns 0 (λ s. members_taken c ms s ≡ None) → (flat_values (is_wide c.transfer.to.memory) 16 us ≡ None → CanAllocate c.transfer.to) → (limit : ℕ) (vs : List CoreValue)
      → ((flats : List ValType) → flat_values (is_wide c.transfer.from.memory) limit ts ≡ Some flats → IsSource c (leading c ts us) (Values (take (leading c ts us) vs))) → (flat_values (is_wide c.transfer.from.memory) limit ts ≡ None → HasSideMemory c.transfer.from)
      → ((rs : List Value) × ComeBy c ts us (flat_values (is_wide c.transfer.from.memory) limit ts) vs rs) ⊎ GivesNothing c gs (from_values c.transfer.from limit ts vs (λ s. into_params c.transfer us (λ d. move_fields c.transfer ms ns 0 s d))) w
  params_come never has limit vs source memory =
      come_or_never (flat_values (is_wide c.transfer.from.memory) limit ts) vs (λ s. into_params c.transfer us (λ d. move_fields c.transfer ms ns 0 s d)) source memory
      (λ is. ap (λ F. into_params c.transfer us F) (fun_ext (λ d. leads c ts us vs d is)))
      (λ s is none. into_refuses never (flat_values (is_wide c.transfer.to.memory) 16 us) refl has s is none)

  -- where every source is refused, all is
  never_from : (q : Option (List ValType)) (vs : List CoreValue) (rest : Source → Action (List CoreValue)) → (q ≡ None → HasSideMemory c.transfer.from) → ((s : Source) → GivesNothing c gs (rest s) w)
      → GivesNothing c gs (elim q [ Some flats ↦ rest (Values vs) | None ↦ check_tuple c.transfer.from ts (first_bits vs) (rest (AtAddress (first_bits vs))) ]) w
  never_from (Some flats) vs rest memory h = h (Values vs)
  never_from None vs rest memory h =
      never_check c.transfer.from c.transfer.from.memory MemoryOutOfBounds (first_bits vs) (entry_extent c.transfer.from ms).size (entry_extent c.transfer.from ms).align (rest (AtAddress (first_bits vs))) w c.source ready.from (memory refl) (λ x y. h (AtAddress (first_bits vs)))

  -- what does not lift does not get into results
  results_refuse : RefusesFields c ms ns 0 (λ s. members_taken c ms s ≡ None) → (s : Side) (q : Option (List ValType)) → flat_results (ends_at c ts us s) ≡ q → (pointer : ℕ) (src : Source) → IsSource c (leading c ts us) src → members_taken c ms src ≡ None
      → IsPlaceOf c ts us q pointer (IsInHand c gs) m
      → GivesNothing c gs (elim q [ Some flats ↦ move_fields c.transfer ms ns 0 src (Slots flats) | None ↦ check_tuple c.transfer.to us pointer (move_fields c.transfer ms ns 0 src (Into pointer)) ]) w
  results_refuse never s (Some flats) e pointer src is none place = never.by src (Slots flats) gs w m is none ready (results_hold c ts us s s.async_side us flats e)
  results_refuse never s None e pointer src is none place =
      let fits = ends_within (width_of_side c.transfer.to) ns in
      does_check c.transfer.to c.transfer.to.memory MemoryOutOfBounds pointer (entry_extent c.transfer.to ns).size (entry_extent c.transfer.to ns).align (move_fields c.transfer ms ns 0 src (Into pointer)) w m place.0 ready.to place.1 place.2
      (never.by src (Into pointer) gs w m is none ready (place.0, omega (arith, place.2, fits), λ j lo hi. place.3 j (omega (arith, lo)) (omega (arith, hi, fits))))

  -- The place of results is in order, or they are never moved.
  place_or_never : (q : Option (List ValType)) (pointer : ℕ) → (q ≡ None → HasSideMemory c.transfer.to) → (q ≡ None → (j : ℕ) → pointer ≤ j → j < pointer + (entry_extent c.transfer.to ns).size → IsInHand c gs j)
      → IsPlaceOf c ts us q pointer (IsInHand c gs) m
      ⊎ ((src : Source) → GivesNothing c gs (elim q [ Some flats ↦ move_fields c.transfer ms ns 0 src (Slots flats) | None ↦ check_tuple c.transfer.to us pointer (move_fields c.transfer ms ns 0 src (Into pointer)) ]) w)
  place_or_never (Some flats) pointer memory live = inl tt
  place_or_never None pointer memory live = go (nat_eq (pointer % (entry_extent c.transfer.to ns).align) 0) refl (nat_le (pointer + (entry_extent c.transfer.to ns).size) (length m)) refl
    where
      never : (src : Source) → (pointer % (entry_extent c.transfer.to ns).align ≡ 0 → pointer + (entry_extent c.transfer.to ns).size ≤ length m → GivesNothing c gs (move_fields c.transfer ms ns 0 src (Into pointer)) w)
          → GivesNothing c gs (check_tuple c.transfer.to us pointer (move_fields c.transfer ms ns 0 src (Into pointer))) w
      never src h = never_check c.transfer.to c.transfer.to.memory MemoryOutOfBounds pointer (entry_extent c.transfer.to ns).size (entry_extent c.transfer.to ns).align (move_fields c.transfer ms ns 0 src (Into pointer)) w m ready.to (memory refl) h

      go : (b : Bool) → nat_eq (pointer % (entry_extent c.transfer.to ns).align) 0 ≡ b → (d : Bool) → nat_le (pointer + (entry_extent c.transfer.to ns).size) (length m) ≡ d
          → IsPlaceOf c ts us None pointer (IsInHand c gs) m ⊎ ((src : Source) → GivesNothing c gs (check_tuple c.transfer.to us pointer (move_fields c.transfer ms ns 0 src (Into pointer))) w)
      go false e d f = inr (λ src. never src (λ x y. absurd (false≢true (sym e ∙ eq-eqb (pointer % (entry_extent c.transfer.to ns).align) 0 x))))
      go true e false f = inr (λ src. never src (λ x y. absurd (false≢true (sym f ∙ le-leb _ (length m) y))))
      go true e true f = inl (memory refl, eqb-true _ 0 e, leb-true _ (length m) f, live refl)

  -- Results come out, to a place that is in order, or are never passed on.
  pub results_come : RefusesFields c ms ns 0 (λ s. members_taken c ms s ≡ None) → (s : Side) (limit pointer : ℕ) (vs : List CoreValue)
      → ((flats : List ValType) → flat_values (is_wide c.transfer.from.memory) limit ts ≡ Some flats → IsSource c (leading c ts us) (Values (take (leading c ts us) vs))) → (flat_values (is_wide c.transfer.from.memory) limit ts ≡ None → HasSideMemory c.transfer.from)
      → (flat_results (ends_at c ts us s) ≡ None → HasSideMemory c.transfer.to) → (flat_results (ends_at c ts us s) ≡ None → (j : ℕ) → pointer ≤ j → j < pointer + (entry_extent c.transfer.to ns).size → IsInHand c gs j)
      → (((rs : List Value) × ComeBy c ts us (flat_values (is_wide c.transfer.from.memory) limit ts) vs rs) × IsPlaceOf c ts us (flat_results (ends_at c ts us s)) pointer (IsInHand c gs) m)
      ⊎ GivesNothing c gs (from_values c.transfer.from limit ts vs (λ src. into_results (ends_at c ts us s) pointer (λ d. move_fields c.transfer ms ns 0 src d))) w
  results_come never s limit pointer vs source memory to_memory live = go (place_or_never (flat_results (ends_at c ts us s)) pointer to_memory live)
    where
      rest : Source → Action (List CoreValue)
      rest src = into_results (ends_at c ts us s) pointer (λ d. move_fields c.transfer ms ns 0 src d)

      go : IsPlaceOf c ts us (flat_results (ends_at c ts us s)) pointer (IsInHand c gs) m ⊎ ((src : Source) → GivesNothing c gs (rest src) w)
          → (((rs : List Value) × ComeBy c ts us (flat_values (is_wide c.transfer.from.memory) limit ts) vs rs) × IsPlaceOf c ts us (flat_results (ends_at c ts us s)) pointer (IsInHand c gs) m) ⊎ GivesNothing c gs (from_values c.transfer.from limit ts vs rest) w
      go (inr h) = inr (never_from (flat_values (is_wide c.transfer.from.memory) limit ts) vs rest memory h)
      go (inl place) =
          ⊎_elim (λ h. inl (h, place)) (λ h. inr h)
          (come_or_never (flat_values (is_wide c.transfer.from.memory) limit ts) vs rest source memory (λ is. ap (λ F. into_results (ends_at c ts us s) pointer F) (fun_ext (λ d. leads c ts us vs d is)))
          (λ src is none. results_refuse never s (flat_results (ends_at c ts us s)) refl pointer src is none place))

-- ---- what comes in is what is lifted

-- several values at a source, as a tuple has them
module _ (c : TransferSetting) (ts us : List Shape) (formed : AreWellFormed (tuple_members ts)) (limit : ℕ) (rs : List Value) where
  pub come_back : (args : List CoreValue) (others : List ValType) → are_values args (flat_params (is_wide c.transfer.from.memory) limit ts ++ others) ≡ true → ComeBy c ts us (flat_values (is_wide c.transfer.from.memory) limit ts) args rs
      → flat_or_behind (from_side c) c.source limit ts (take (length (flat_params (is_wide c.transfer.from.memory) limit ts)) args) ≡ Some rs
  come_back args others typed come = go (flat_all (width_of_side c.transfer.from) limit ts) refl typed come
    where
      wide : Bool
      wide = is_wide c.transfer.from.memory

      typed_first : (xs ys : List ValType) (vs : List CoreValue) → are_values vs (xs ++ ys) ≡ true → are_values (take (length xs) vs) xs ≡ true
      typed_first [] ys vs h = refl
      typed_first (x ∷ xs) ys [] h = absurd (false≢true h)
      typed_first (x ∷ xs) ys (v ∷ vs) h = both_true (is_value v x) (are_values (take (length xs) vs) xs) (left_true (is_value v x) _ h) (typed_first xs ys vs (right_true (is_value v x) _ h))

      behind_first : (args : List CoreValue) → are_values args (address wide ∷ others) ≡ true → ComeBy c ts us None args rs → behind_only (from_side c) c.source ts (take 1 args) ≡ Some rs
      behind_first [] typed h = absurd (false≢true typed)
      behind_first (v ∷ vs) typed h =
          behind_typed wide c.transfer.from.encoding c.source ts v (left_true (is_value v (address wide)) _ typed) ∙ tuple_loads (from_side c) c.source ts (bits_of v) rs h.1 h.2 h.3

      go : (o : Option (List FlatType)) → flat_all (width_of_side c.transfer.from) limit ts ≡ o → are_values args (flat_or (address wide ∷ []) (flat_of o) ++ others) ≡ true → ComeBy c ts us (flat_of o) args rs
          → where_flat o (lift_all (from_side c) c.source ts (take (length (flat_or (address wide ∷ []) (flat_of o))) args)) (behind_only (from_side c) c.source ts (take (length (flat_or (address wide ∷ []) (flat_of o))) args)) ≡ Some rs
      go (Some fs) e typed come =
          let each = all_each (width_of_side c.transfer.from) limit ts fs e in
          let same : flat_members (width_of_side c.transfer.from) (tuple_members ts) ≡ fs = flats_are (width_of_side c.transfer.from) 0 ts fs each in
          let long : leading c ts us ≡ length (map value_type fs) = ap length same ∙ sym (length-map fs value_type) in
          let first = typed_first (map value_type fs) others args typed in
          lifts_all (from_side c) c.source 0 ts (take (length (map value_type fs)) args) rs formed (each_flat (width_of_side c.transfer.from) ts fs each)
          (subst (λ l. can_stand_all l (take (length (map value_type fs)) args) ≡ true) (sym same) (all_stand fs (take (length (map value_type fs)) args) first))
          (subst (λ n. members_taken c (tuple_members ts) (Values (take n args)) ≡ Some rs) long come.1)
      go None e typed come = behind_first args typed come
