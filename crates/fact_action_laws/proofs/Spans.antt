-- So many tuples one behind another, in core values or in memory, are moved one after another.
use Rattle.std.proofs.Common.{◌≡◌, ℕ, zero, suc, ◌+◌, ◌*◌, ◌≤◌, ◌<◌, ⊎_elim, true, List, [], ◌∷◌, ◌++◌, length, take, drop, Option, Some, None, refl, sym, ap, ◌∙◌, subst, arith, append_assoc, length-take, length-drop}
use Rattle.std.specs.Prelude.{sum_by}
use Rattle.std.specs.List.{flat_map}
use Rattle.std.proofs.lemmas.Bool.{false≢true}
use Rattle.std.proofs.lemmas.List.{drop-drop}
use Rattle.std.proofs.Math.Seq.{drop-append_seam, take-append_seam}
use Rattle.std.proofs.lemmas.List.Sums.{sum_by-cons}
use Rattle.fact_types.specs.FlatShapes.{flat_members, times}
use Rattle.fact_types.specs.Shapes.{Members, ends_of}
use Rattle.fact_types.proofs.ShapeLaws.{same_some, none_some}
use Rattle.fact_machine.specs.declared.types.CoreValue.{CoreValue}
use Rattle.fact_machine.specs.World.{World}
use Rattle.fact_actions.specs.Actions.{Action, Give, each_from, ◌>>=◌}
use Rattle.fact_actions.specs.Moves.{move_fields}
use Rattle.fact_actions.specs.Running.{Call}
use Rattle.fact_actions.specs.Sides.{Source, Values, AtAddress, Target, Slots, Into, width_of_side, nth_part, nth_spot}
use Rattle.fact_values.specs.declared.value.Value.{Value}
use Rattle.fact_values.specs.Handles.{each_step, then_step, done_step}
use Rattle.fact_types.specs.Options.{◌>>=◌ as and_then}
use Rattle.fact_action_laws.specs.Footprints.{HasChanged}
use Rattle.fact_action_laws.specs.Items.{numbers, AreItemCalls}
use Rattle.fact_action_laws.specs.MoveTerms.{MayStop}
use Rattle.fact_action_laws.specs.Places.{HasSideMemory, AreInRange, IsSource, IsGiven, HoldsMemories, can_hold_all}
use Rattle.fact_actions.specs.Regions.{Region}
use Rattle.fact_action_laws.specs.Regions.{TransferSetting, IsInHand, regions_after}
use Rattle.fact_action_laws.proofs.Fields.{members_taken}
use Rattle.fact_action_laws.proofs.Judges.{does_give, does_bind, does_map, does_more}
use Rattle.fact_action_laws.proofs.MoveLaws.{AreMoved, AreLawfulMoves, IsMembersTarget, IsAmong, MembersStand, AreFit}
use Rattle.fact_action_laws.proofs.Never.{never_first, never_after}
use Rattle.fact_action_laws.proofs.Placing.{placed_nothing, leaves_wider, leaves_then}
use Rattle.fact_action_laws.proofs.Plain.{both}
use Rattle.fact_action_laws.proofs.Records.{stops_first, stops_later}
use Rattle.fact_action_laws.proofs.Refusals.{RefusesFields}
use Rattle.fact_action_laws.proofs.Rows.{row_crosses, row_items, row_weight}
use Rattle.fact_action_laws.proofs.Targets.{hold_first, hold_others, hold_length, values_length, values_append}
use Rattle.fact_action_laws.proofs.Telling.{numbers_append, told_append}
use Rattle.fact_action_laws.specs.Judged.{RunsHonestly, GivesNothing}

-- the first of parts of so many core values or so many bytes, the parts behind it, and those behind so many
abbrev pub first_part : ℕ → Source → Source
first_part F (Values vs) = Values (take F vs)
first_part F (AtAddress a) = AtAddress a

abbrev pub next_part : (F e : ℕ) → Source → Source
next_part F e (Values vs) = Values (drop F vs)
next_part F e (AtAddress a) = AtAddress (a + e)

abbrev pub parts_from : (F e i : ℕ) → Source → Source
parts_from F e i (Values vs) = Values (drop (i * F) vs)
parts_from F e i (AtAddress a) = AtAddress (a + i * e)

abbrev pub first_spot : ℕ → Target → Target
first_spot G (Slots ts) = Slots (take G ts)
first_spot G (Into b) = Into b

abbrev pub next_spot : (G f : ℕ) → Target → Target
next_spot G f (Slots ts) = Slots (drop G ts)
next_spot G f (Into b) = Into (b + f)

abbrev pub spots_from : (G f i : ℕ) → Target → Target
spots_from G f i (Slots ts) = Slots (drop (i * G) ts)
spots_from G f i (Into b) = Into (b + i * f)

part_is : (F e i : ℕ) (s : Source) → nth_part F e i s ≡ first_part F (parts_from F e i s)
part_is F e i (Values vs) = refl
part_is F e i (AtAddress a) = refl

spot_is : (G f i : ℕ) (d : Target) → nth_spot G f i d ≡ first_spot G (spots_from G f i d)
spot_is G f i (Slots ts) = refl
spot_is G f i (Into b) = refl

parts_next : (F e i : ℕ) (s : Source) → next_part F e (parts_from F e i s) ≡ parts_from F e (suc i) s
parts_next F e i (Values vs) = let h : i * F + F ≡ suc i * F = omega arith in ap (λ l. Values l) (drop-drop F (i * F) vs ∙ ap (λ k. drop k vs) h)
parts_next F e i (AtAddress a) = let h : (a + i * e) + e ≡ a + suc i * e = omega arith in ap (λ k. AtAddress k) h

spots_next : (G f i : ℕ) (d : Target) → next_spot G f (spots_from G f i d) ≡ spots_from G f (suc i) d
spots_next G f i (Slots ts) = let h : i * G + G ≡ suc i * G = omega arith in ap (λ l. Slots l) (drop-drop G (i * G) ts ∙ ap (λ k. drop k ts) h)
spots_next G f i (Into b) = let h : (b + i * f) + f ≡ b + suc i * f = omega arith in ap (λ k. Into k) h

module _ (c : TransferSetting) (ms ns : Members) where
  -- how many core values one takes
  abbrev pub flats_from : ℕ
  flats_from = length (flat_members (width_of_side c.transfer.from) ms)

  abbrev pub flats_to : ℕ
  flats_to = length (flat_members (width_of_side c.transfer.to) ns)

  in_range_drop : (n : ℕ) (vs : List CoreValue) → AreInRange vs → AreInRange (drop n vs)
  in_range_drop zero vs h = h
  in_range_drop (suc n) [] h = tt
  in_range_drop (suc n) (v ∷ vs) h = in_range_drop n vs h.1

  in_range_take : (n : ℕ) (vs : List CoreValue) → AreInRange vs → AreInRange (take n vs)
  in_range_take zero vs h = tt
  in_range_take (suc n) [] h = tt
  in_range_take (suc n) (v ∷ vs) h = (h.0, in_range_take n vs h.1)

  module _ (e f : ℕ) where
    abbrev pub spans_taken : ℕ → Source → Option (List (List Value))
    spans_taken zero s = Some []
    spans_taken (suc n) s = and_then (members_taken c ms (first_part flats_from s)) (λ v. and_then (spans_taken n (next_part flats_from e s)) (λ vs. Some (v ∷ vs)))

    abbrev pub SpansFit : ℕ → Source → Type 0
    SpansFit zero s = Unit {0}
    SpansFit (suc n) s = AreFit c ms ns (first_part flats_from s) × SpansFit n (next_part flats_from e s)

    abbrev pub IsSpansTarget : ℕ → (live : ℕ → Type 0) → List ℕ → Target → Type 0
    IsSpansTarget n live m (Slots ts) = can_hold_all (times n (flat_members (width_of_side c.transfer.to) ns)) ts ≡ true
    IsSpansTarget n live m (Into b) = HasSideMemory c.transfer.to × (b + n * f ≤ length m) × ((j : ℕ) → b ≤ j → j < b + n * f → live j)

    abbrev pub InSpans : ℕ → Target → ℕ → Type 0
    InSpans n (Slots ts) j = ⊥
    InSpans n (Into b) j = (b ≤ j) × (j < b + n * f)

    -- what was given for the first, and for the others
    abbrev pub first_given : Target → List CoreValue → List CoreValue
    first_given (Slots ts) us = take flats_to us
    first_given (Into b) us = us

    abbrev pub next_given : Target → List CoreValue → List CoreValue
    next_given (Slots ts) us = drop flats_to us
    next_given (Into b) us = us

    abbrev pub SpansStand : ℕ → List (List Value) → Target → List CoreValue → List ℕ → Type 0
    SpansStand zero outs d us bytes = outs ≡ []
    SpansStand (suc n) [] d us bytes = ⊥
    SpansStand (suc n) (out ∷ outs) d us bytes = MembersStand c ns 0 out (first_spot flats_to d) (first_given d us) bytes × SpansStand n outs (next_spot flats_to f d) (next_given d us) bytes

    pub record SpansMoved (gs : List Region) (m : List ℕ) (n : ℕ) (d : Target) (rows : List (List Value)) (k : ℕ) (cs : List Call) (us : List CoreValue) (w : World) : Type 0 where
      pub outs : List (List Value)
      pub crosses : (rest : List ℕ) → each_step (row_crosses c ms ns) rows (numbers cs ++ rest) ≡ Some (outs, rest)
      pub told : AreItemCalls (flat_map (row_items c ms ns) rows) cs
      pub weighs : k ≡ sum_by (row_weight c ms ns) rows
      pub given : IsGiven d us
      pub leaves : HasChanged c gs m (InSpans n d) (λ b. SpansStand n outs d us b) cs w

    -- ---- one, and the others

    first_source : (n : ℕ) (s : Source) → IsSource c (suc n * flats_from) s → IsSource c flats_from (first_part flats_from s)
    first_source n (Values vs) h = (omega (arith, length-take flats_from vs, h.0), in_range_take flats_from vs h.1)
    first_source n (AtAddress a) h = h

    next_source : (n : ℕ) (s : Source) → IsSource c (suc n * flats_from) s → IsSource c (n * flats_from) (next_part flats_from e s)
    next_source n (Values vs) h = (omega (arith, length-drop flats_from vs, h.0), in_range_drop flats_from vs h.1)
    next_source n (AtAddress a) h = h

    module _ (fits : ends_of (width_of_side c.transfer.to) ns 0 ≤ f) where
      first_target : (n : ℕ) (live : ℕ → Type 0) (m : List ℕ) (d : Target) → IsSpansTarget (suc n) live m d → IsMembersTarget c ns 0 live m (first_spot flats_to d)
      first_target n live m (Slots ts) h = hold_first (flat_members (width_of_side c.transfer.to) ns) (times n (flat_members (width_of_side c.transfer.to) ns)) ts h
      first_target n live m (Into b) h = (h.0, omega (arith, h.1, fits), λ j lo hi. h.2 j (omega (arith, lo)) (omega (arith, hi, fits)))

      next_target : (n : ℕ) (live live' : ℕ → Type 0) (m m' : List ℕ) (d : Target) → length m ≤ length m' → ((j : ℕ) → live j → live' j) → IsSpansTarget (suc n) live m d → IsSpansTarget n live' m' (next_spot flats_to f d)
      next_target n live live' m m' (Slots ts) le g h = hold_others (flat_members (width_of_side c.transfer.to) ns) (times n (flat_members (width_of_side c.transfer.to) ns)) ts h
      next_target n live live' m m' (Into b) le g h = (h.0, omega (arith, h.1, le), λ j lo hi. g j (h.2 j (omega (arith, lo)) (omega (arith, hi))))

      first_in : (n : ℕ) (d : Target) (j : ℕ) → IsAmong c ns 0 (first_spot flats_to d) j → InSpans (suc n) d j
      first_in n (Slots ts) j h = h
      first_in n (Into b) j h = (omega (arith, h.0), omega (arith, h.1, fits))

      next_in : (n : ℕ) (d : Target) (j : ℕ) → InSpans n (next_spot flats_to f d) j → InSpans (suc n) d j
      next_in n (Slots ts) j h = h
      next_in n (Into b) j h = (omega (arith, h.0), omega (arith, h.1))

      spans_apart : (n : ℕ) (d : Target) (j : ℕ) → IsAmong c ns 0 (first_spot flats_to d) j → InSpans n (next_spot flats_to f d) j → ⊥
      spans_apart n (Slots ts) j h k = h
      spans_apart n (Into b) j h k = omega (arith, h.1, k.0, fits)

      spans_live : (n : ℕ) (live : ℕ → Type 0) (m : List ℕ) (d : Target) → IsSpansTarget n live m d → (j : ℕ) → InSpans n d j → live j
      spans_live n live m (Slots ts) h j k = absurd k
      spans_live n live m (Into b) h j k = h.2 j k.0 k.1

      spans_given : (d : Target) (us vs : List CoreValue) → IsGiven (first_spot flats_to d) us → IsGiven (next_spot flats_to f d) vs → IsGiven d (us ++ vs)
      spans_given (Slots ts) us vs h k = values_append flats_to us vs ts h k
      spans_given (Into b) us vs h k = ap (λ l. l ++ vs) h ∙ k

      spans_stand : (n : ℕ) (live : ℕ → Type 0) (m : List ℕ) (d : Target) (out : List Value) (outs : List (List Value)) (us vs : List CoreValue) (b : List ℕ) → IsSpansTarget (suc n) live m d → IsGiven (first_spot flats_to d) us → IsGiven (next_spot flats_to f d) vs
          → MembersStand c ns 0 out (first_spot flats_to d) us b → SpansStand n outs (next_spot flats_to f d) vs b → SpansStand (suc n) (out ∷ outs) d (us ++ vs) b
      spans_stand n live m (Slots ts) out outs us vs b t given later h k =
          let fs = flat_members (width_of_side c.transfer.to) ns in
          let long : flats_to ≡ length us = hold_length fs (take flats_to ts) (hold_first fs (times n fs) ts t) ∙ sym (values_length us (take flats_to ts) given) in
          let first : take flats_to (us ++ vs) ≡ us = ap (λ n. take n (us ++ vs)) long ∙ take-append_seam us vs in
          let others : drop flats_to (us ++ vs) ≡ vs = ap (λ n. drop n (us ++ vs)) long ∙ drop-append_seam us vs in
          (subst (λ l. MembersStand c ns 0 out (Slots (take flats_to ts)) l b) (sym first) h, subst (λ l. SpansStand n outs (Slots (drop flats_to ts)) l b) (sym others) k)
      spans_stand n live m (Into a) out outs us vs b t given later h k =
          (h, subst (λ l. SpansStand n outs (Into (a + f)) l b) (sym later ∙ ap (λ l. l ++ vs) (sym given)) (subst (λ l. SpansStand n outs (Into (a + f)) l b) later k))

      none_given : (live : ℕ → Type 0) (m : List ℕ) (d : Target) → IsSpansTarget zero live m d → IsGiven d []
      none_given live m (Slots []) h = refl
      none_given live m (Slots (t ∷ ts)) h = absurd (false≢true h)
      none_given live m (Into a) h = refl

      no_spans : (d : Target) (j : ℕ) → ⊥ → InSpans zero d j
      no_spans d j h = absurd h

      span_moved : (gs : List Region) (m : List ℕ) (n : ℕ) (d : Target) (row : List Value) (rows : List (List Value)) (k l : ℕ) (cs ds : List Call) (us vs : List CoreValue) (w w' : World) → IsSpansTarget (suc n) (IsInHand c gs) m d
          → (r : AreMoved c gs m ms ns 0 (first_spot flats_to d) row k cs us w) → SpansMoved (regions_after gs cs) r.leaves.now n (next_spot flats_to f d) rows l ds vs w' → SpansMoved gs m (suc n) d (row ∷ rows) (k + l) (cs ++ ds) (us ++ vs) w'
      span_moved gs m n d row rows k l cs ds us vs w w' target r t = record {
        outs = r.outs ∷ t.outs;
        crosses = λ rest.
            ap (λ x. and_then x (λ y. then_step (each_step (row_crosses c ms ns) rows) (λ bs. done_step (y.0 ∷ bs)) y.1)) (ap (row_crosses c ms ns row) (ap (λ x. x ++ rest) (numbers_append cs ds) ∙ append_assoc (numbers cs) (numbers ds) rest) ∙ r.crosses (numbers ds ++ rest))
            ∙ ap (λ x. and_then x (λ y. done_step (r.outs ∷ y.0) y.1)) (t.crosses rest);
        told = told_append (row_items c ms ns row) (flat_map (row_items c ms ns) rows) cs ds r.told t.told;
        weighs = ap (λ i. i + l) r.weighs ∙ ap (λ i. row_weight c ms ns row + i) t.weighs ∙ sym (sum_by-cons (row_weight c ms ns) row rows);
        given = spans_given d us vs r.given t.given;
        leaves = leaves_wider
            (λ j. ⊎_elim (first_in n d j) (next_in n d j))
            (λ b p. spans_stand n (IsInHand c gs) m d r.outs t.outs us vs b target r.given t.given p.0 p.1)
            (leaves_then (spans_apart n d) (λ j h. spans_live (suc n) (IsInHand c gs) m d target j (first_in n d j h)) (λ j h. spans_live (suc n) (IsInHand c gs) m d target j (next_in n d j h)) r.leaves t.leaves);
      }

      -- ---- all

      abbrev span : Source → Target → ℕ → Action (List CoreValue)
      span s0 d0 i = move_fields c.transfer ms ns 0 (nth_part flats_from e i s0) (nth_spot flats_to f i d0)

      pub spans_move : AreLawfulMoves c ms ns 0 → (s0 : Source) (d0 : Target) (n i : ℕ) (s : Source) (d : Target) (rows : List (List Value)) (gs : List Region) (w : World) (m : List ℕ) → s ≡ parts_from flats_from e i s0 → d ≡ spots_from flats_to f i d0
          → spans_taken n s ≡ Some rows → IsSource c (n * flats_from) s → HoldsMemories c m w → IsSpansTarget n (IsInHand c gs) m d
          → RunsHonestly c gs (MayStop (SpansFit n s) (flat_map (row_items c ms ns) rows)) (SpansMoved gs m n d rows) (each_from i n (span s0 d0)) w
      spans_move fields s0 d0 zero i s d rows gs w m es ed h is ready target =
          let none : [] ≡ rows = same_some (Some []) [] rows refl h in
          subst (λ rows. RunsHonestly c gs (MayStop (SpansFit 0 s) (flat_map (row_items c ms ns) rows)) (SpansMoved gs m 0 d rows) (Give []) w) none
          (does_give (record {
            outs = [];
            crosses = λ rest. refl;
            told = refl;
            weighs = refl;
            given = none_given (IsInHand c gs) m d target;
            leaves = leaves_wider (no_spans d) (λ x d. d) (record { now = m; ready = ready; placed = placed_nothing _ (λ x. refl) });
          }))
      spans_move fields s0 d0 (suc n) i s d rows gs w m es ed h is ready target =
          let one = both (members_taken c ms (first_part flats_from s)) _ rows h in
          let rest = both (spans_taken n (next_part flats_from e s)) _ rows one.last in
          let same : one.mid ∷ rest.mid ≡ rows = same_some (Some (one.mid ∷ rest.mid)) (one.mid ∷ rest.mid) rows refl rest.last in
          let later : List CoreValue → Action (List CoreValue) = λ us. each_from (suc i) n (span s0 d0) >>= (λ vs. Give (us ++ vs)) in
          subst (λ rows. RunsHonestly c gs (MayStop (SpansFit (suc n) s) (flat_map (row_items c ms ns) rows)) (SpansMoved gs m (suc n) d rows) (span s0 d0 i >>= later) w) same
          (subst (λ x. RunsHonestly c gs (MayStop (SpansFit (suc n) s) (row_items c ms ns one.mid ++ flat_map (row_items c ms ns) rest.mid)) (SpansMoved gs m (suc n) d (one.mid ∷ rest.mid)) (move_fields c.transfer ms ns 0 x (nth_spot flats_to f i d0) >>= later) w) (ap (first_part flats_from) es ∙ sym (part_is flats_from e i s0))
          (subst (λ y. RunsHonestly c gs (MayStop (SpansFit (suc n) s) (row_items c ms ns one.mid ++ flat_map (row_items c ms ns) rest.mid)) (SpansMoved gs m (suc n) d (one.mid ∷ rest.mid)) (move_fields c.transfer ms ns 0 (first_part flats_from s) y >>= later) w) (ap (first_spot flats_to) ed ∙ sym (spot_is flats_to f i d0))
          (does_bind (move_fields c.transfer ms ns 0 (first_part flats_from s) (first_spot flats_to d)) later w
          (fields.by (first_part flats_from s) (first_spot flats_to d) one.mid gs w m (first_source n s is) one.first ready (first_target n (IsInHand c gs) m d target))
          (λ t cs x. stops_first _ _ (row_items c ms ns one.mid) (flat_map (row_items c ms ns) rest.mid) (λ k. k.0) t cs x)
          (λ k cs us w' o r. does_map (each_from (suc i) n (span s0 d0)) (λ vs. us ++ vs) w'
          (does_more
          (λ t ds o' x. stops_later _ _ (row_items c ms ns one.mid) (flat_map (row_items c ms ns) rest.mid) cs (λ k. k.1) r.told t ds x)
          (λ l ds vs w'' o' t. span_moved gs m n d one.mid rest.mid k l cs ds us vs w' w'' target r t)
          (spans_move fields s0 d0 n (suc i) (next_part flats_from e s) (next_spot flats_to f d) rest.mid (regions_after gs cs) w' r.leaves.now
          (ap (next_part flats_from e) es ∙ parts_next flats_from e i s0) (ap (next_spot flats_to f) ed ∙ spots_next flats_to f i d0) rest.first (next_source n s is) r.leaves.ready
          (next_target n (IsInHand c gs) (IsInHand c (regions_after gs cs)) m r.leaves.now d r.leaves.placed.room r.leaves.placed.grows target)))))))

      -- one of them does not lift
      pub spans_never : AreLawfulMoves c ms ns 0 → RefusesFields c ms ns 0 (λ s. members_taken c ms s ≡ None) → (s0 : Source) (d0 : Target) (n i : ℕ) (s : Source) (d : Target) (gs : List Region) (w : World) (m : List ℕ) → s ≡ parts_from flats_from e i s0 → d ≡ spots_from flats_to f i d0
          → spans_taken n s ≡ None → IsSource c (n * flats_from) s → HoldsMemories c m w → IsSpansTarget n (IsInHand c gs) m d → GivesNothing c gs (each_from i n (span s0 d0)) w
      spans_never fields never s0 d0 zero i s d gs w m es ed h is ready target = absurd (none_some None [] refl (sym h))
      spans_never fields never s0 d0 (suc n) i s d gs w m es ed h is ready target =
          first (members_taken c ms (first_part flats_from s)) refl (spans_taken n (next_part flats_from e s)) refl
          (λ gs2 w2 m2 h2 r2 t2. spans_never fields never s0 d0 n (suc i) (next_part flats_from e s) (next_spot flats_to f d) gs2 w2 m2 (ap (next_part flats_from e) es ∙ parts_next flats_from e i s0) (ap (next_spot flats_to f) ed ∙ spots_next flats_to f i d0) h2 (next_source n s is) r2 t2)
        where
          later : List CoreValue → Action (List CoreValue)
          later us = each_from (suc i) n (span s0 d0) >>= (λ vs. Give (us ++ vs))

          moved : GivesNothing c gs (move_fields c.transfer ms ns 0 (first_part flats_from s) (first_spot flats_to d) >>= later) w → GivesNothing c gs (span s0 d0 i >>= later) w
          moved k =
              subst (λ x. GivesNothing c gs (move_fields c.transfer ms ns 0 x (nth_spot flats_to f i d0) >>= later) w) (ap (first_part flats_from) es ∙ sym (part_is flats_from e i s0))
              (subst (λ y. GivesNothing c gs (move_fields c.transfer ms ns 0 (first_part flats_from s) y >>= later) w) (ap (first_spot flats_to) ed ∙ sym (spot_is flats_to f i d0)) k)

          first : (o : Option (List Value)) → members_taken c ms (first_part flats_from s) ≡ o → (r : Option (List (List Value))) → spans_taken n (next_part flats_from e s) ≡ r
              → ((gs2 : List Region) (w2 : World) (m2 : List ℕ) → spans_taken n (next_part flats_from e s) ≡ None → HoldsMemories c m2 w2 → IsSpansTarget n (IsInHand c gs2) m2 (next_spot flats_to f d) → GivesNothing c gs2 (each_from (suc i) n (span s0 d0)) w2)
              → GivesNothing c gs (span s0 d0 i >>= later) w
          first None o r t more = moved (never_first (move_fields c.transfer ms ns 0 (first_part flats_from s) (first_spot flats_to d)) later w
              (never.by (first_part flats_from s) (first_spot flats_to d) gs w m (first_source n s is) o ready (first_target n (IsInHand c gs) m d target)))
          first (Some row) o None t more = moved (never_after (move_fields c.transfer ms ns 0 (first_part flats_from s) (first_spot flats_to d)) later w
              (fields.by (first_part flats_from s) (first_spot flats_to d) row gs w m (first_source n s is) o ready (first_target n (IsInHand c gs) m d target))
              (λ k cs us w' r. never_first (each_from (suc i) n (span s0 d0)) (λ vs. Give (us ++ vs)) w'
              (more (regions_after gs cs) w' r.leaves.now t r.leaves.ready (next_target n (IsInHand c gs) (IsInHand c (regions_after gs cs)) m r.leaves.now d r.leaves.placed.room r.leaves.placed.grows target))))
          first (Some row) o (Some rows) t more = absurd (none_some None (row ∷ rows) refl (sym h ∙ ap (λ o. and_then o (λ v. and_then (spans_taken n (next_part flats_from e s)) (λ vs. Some (v ∷ vs)))) o ∙ ap (λ o. and_then o (λ vs. Some (row ∷ vs))) t))
