-- A sum whose payload does not lift, or whose discriminant names no case, is never moved.
use Rattle.std.proofs.Common.{◌≡◌, ℕ, zero, suc, ◌+◌, ◌^◌, ◌≤◌, Bool, true, false, List, [], ◌∷◌, ◌++◌, length, take, drop, Option, Some, None, refl, sym, ap, ◌∙◌, subst, arith, length-take}
use Rattle.std.specs.Prelude.{option_map, if◌then◌else◌}
use Rattle.std.specs.Str.{bytes_eq}
use Rattle.std.proofs.lemmas.List.{take-append-drop}
use Rattle.fact_types.specs.declared.flats.FlatType.TheVariants as flat_type
use Rattle.fact_types.specs.Agrees.{Agrees, AgreesCase, BothThere, chosen}
use Rattle.fact_types.specs.FlatShapes.{flat, flat_any}
use Rattle.fact_types.specs.Shapes.{Kind, k_variant, Shape, s_node, Members, no_members, bare, typed}
use Rattle.fact_types.proofs.ShapeLaws.{none_some}
use Rattle.fact_machine.specs.declared.types.CoreValue.{CoreValue}
use Rattle.fact_machine.specs.World.{World}
use Rattle.fact_actions.specs.Actions.{Action, Give, ◌>>=◌}
use Rattle.fact_values.specs.Limits.{CaseType, case_type}
use Rattle.fact_values.specs.Places.{count_of_members, case_bytes, payload_place}
use Rattle.fact_actions.specs.Moves.{move, move_case, write_case, payload_part, payload_spot, padded}
use Rattle.fact_actions.specs.Sides.{Source, Values, AtAddress, Target, width_of_side, read_number, write_number, side_abi}
use Rattle.fact_values.specs.declared.value.Value.{Value}
use Rattle.fact_values.specs.declared.value.Value.TheVariants as value
use Rattle.fact_values.specs.Lift.{lift_leading, number_as}
use Rattle.fact_values.specs.Load.{load, load_case}
use Rattle.fact_types.specs.Options.{◌>>=◌ as and_then}
use Rattle.fact_values.specs.Numbers.{number_in}
use Rattle.fact_action_laws.specs.MoveTerms.{AreWellFormed, size_on}
use Rattle.fact_action_laws.specs.Places.{from_side, value_at_source, AreInRange, IsSource, IsTarget, HoldsMemories, IsGrounded, HasSideMemory}
use Rattle.fact_actions.specs.Regions.{Region}
use Rattle.fact_action_laws.specs.Regions.{TransferSetting, IsInHand, regions_after}
use Rattle.fact_action_laws.proofs.Cases.{tag_same, place_same, tag_is, case_by, loads_by, lifts_by}
use Rattle.fact_action_laws.proofs.Fields.{part_source}
use Rattle.fact_action_laws.proofs.Flats.{value_leads}
use Rattle.fact_action_laws.proofs.Never.{never_trap, never_first, never_after, never_number}
use Rattle.fact_action_laws.proofs.Numbers.{number_at_source, reads_number}
use Rattle.fact_action_laws.proofs.Sums.{IsSumTarget, does_tag, target_later}
use Rattle.fact_action_laws.proofs.Variants.{SumKind, loads_sum, lifts_sum, sum_flat, sum_number, any_room, case_formed, sum_target, sum_layout, does_sum, move_of}
use Rattle.fact_action_laws.specs.Judged.{GivesNothing}
use Rattle.fact_action_laws.specs.MoveLaws.{Refuses}

-- ---- what is missing at a source

pub data Lacking (read : Shape → Option Value) (ms : Members) (n : ℕ) : Type 0 where
  no_case : case_type ms n ≡ None → Lacking read ms n
  no_payload : (k : CaseType) (p : Shape) → case_type ms n ≡ Some k → k.payload ≡ Some p → read p ≡ None → Lacking read ms n

lacking_later : (read : Shape → Option Value) (ms rest : Members) (n : ℕ) → ((k : CaseType) → case_type rest n ≡ Some k → case_type ms (suc n) ≡ Some k) → (case_type rest n ≡ None → case_type ms (suc n) ≡ None) → Lacking read rest n → Lacking read ms (suc n)
lacking_later read ms rest n f g (no_case h) = no_case (g h)
lacking_later read ms rest n f g (no_payload k p h e r) = no_payload k p (f k h) e r

lacking : (read : Shape → Option Value) (ms : Members) (n : ℕ) → case_by read ms n ≡ None → Lacking read ms n
lacking read no_members n h = no_case refl
lacking read (bare x ms) zero h = absurd (none_some None (value.Case x []) refl (sym h))
lacking read (bare x ms) (suc n) h = lacking_later read (bare x ms) ms n (λ k e. e) (λ e. e) (lacking read ms n h)
lacking read (typed x s ms) zero h = no_payload (record { name = x; payload = Some s }) s refl refl (go (read s) h)
  where
    go : (q : Option Value) → option_map (λ w. value.Case x (w ∷ [])) q ≡ None → q ≡ None
    go None h = refl
    go (Some w) h = absurd (none_some None (value.Case x (w ∷ [])) refl (sym h))
lacking read (typed x s ms) (suc n) h = lacking_later read (typed x s ms) ms n (λ k e. e) (λ e. e) (lacking read ms n h)

-- what a sum lacks at a source
pub data SumLacks (c : TransferSetting) (ms : Members) (s : Source) : Type 0 where
  lacks_number : number_at_source c (case_bytes ms) s ≡ None → SumLacks c ms s
  lacks_case : (n : ℕ) → number_at_source c (case_bytes ms) s ≡ Some n → case_type ms n ≡ None → SumLacks c ms s
  lacks_payload : (n : ℕ) (k : CaseType) (p : Shape) → number_at_source c (case_bytes ms) s ≡ Some n → case_type ms n ≡ Some k → k.payload ≡ Some p
      → value_at_source c p (payload_part c.transfer.from p (payload_place (side_abi c.transfer.from) ms) s) ≡ None → IsSource c (length (flat (width_of_side c.transfer.from) p)) (payload_part c.transfer.from p (payload_place (side_abi c.transfer.from) ms) s) → SumLacks c ms s

memory_lacks : (c : TransferSetting) (ms : Members) (a n : ℕ) → HasSideMemory c.transfer.from → number_in c.source (case_bytes ms) a ≡ Some n → Lacking (λ s. load (from_side c) c.source s (a + payload_place (side_abi c.transfer.from) ms)) ms n → SumLacks c ms (AtAddress a)
memory_lacks c ms a n is e (no_case h) = lacks_case n e h
memory_lacks c ms a n is e (no_payload k p h t r) = lacks_payload n k p e h t r is

values_lack : (c : TransferSetting) (ms : Members) (v : CoreValue) (vs : List CoreValue) (n : ℕ) → AreWellFormed ms → length vs ≡ length (flat_any (width_of_side c.transfer.from) ms) → AreInRange vs → number_at_source c (case_bytes ms) (Values (v ∷ vs)) ≡ Some n
    → Lacking (λ s. lift_leading (from_side c) c.source s vs) ms n → SumLacks c ms (Values (v ∷ vs))
values_lack c ms v vs n formed long range e (no_case h) = lacks_case n e h
values_lack c ms v vs n formed long range e (no_payload k p h t r) =
    let f = length (flat (width_of_side c.transfer.from) p) in
    let room = any_room (width_of_side c.transfer.from) ms n k p h t in
    lacks_payload n k p e h t
    (sym (value_leads (from_side c) c.source p (case_formed ms n k p formed h t) (take f vs) (drop f vs) (omega (arith, length-take f vs, room, long))) ∙ ap (λ cs. lift_leading (from_side c) c.source p cs) (take-append-drop f vs) ∙ r)
    (part_source c f 0 vs (omega (arith, room, long)) range)

pub sum_lacks : {k : Kind} → SumKind k → (c : TransferSetting) (ms : Members) (s : Source) → AreWellFormed ms → IsSource c (length (flat (width_of_side c.transfer.from) (s_node k ms))) s → value_at_source c (s_node k ms) s ≡ None → SumLacks c ms s
sum_lacks {k} kind c ms (Values []) formed is h = lacks_number refl
sum_lacks {k} kind c ms (Values (v ∷ vs)) formed is h =
    let n = number_as flat_type.I32 v in
    let long : suc (length vs) ≡ suc (length (flat_any (width_of_side c.transfer.from) ms)) = is.0 ∙ ap length (sum_flat kind (width_of_side c.transfer.from) ms) in
    values_lack c ms v vs n formed (omega (arith, long)) is.1.1 (sum_number ms v vs c)
    (lacking (λ s. lift_leading (from_side c) c.source s vs) ms n (sym (lifts_by (from_side c) c.source ms n vs) ∙ sym (lifts_sum kind (from_side c) c.source ms (v ∷ vs)) ∙ h))
sum_lacks {k} kind c ms (AtAddress a) formed is h = go (number_in c.source (case_bytes ms) a) refl
  where
    go : (q : Option ℕ) → number_in c.source (case_bytes ms) a ≡ q → SumLacks c ms (AtAddress a)
    go None e = lacks_number (ap (λ n. number_in c.source n a) (tag_same ms) ∙ e)
    go (Some n) e =
        let place = place_same c.transfer.from ms in
        let none : load_case (from_side c) c.source ms n (a + payload_place (from_side c) ms) ≡ None = ap (λ o. and_then o (λ x. load_case (from_side c) c.source ms x (a + payload_place (from_side c) ms))) (sym e) ∙ sym (loads_sum kind (from_side c) c.source ms a) ∙ h in
        memory_lacks c ms a n is (ap (λ n. number_in c.source n a) (tag_same ms) ∙ e)
        (lacking (λ s. load (from_side c) c.source s (a + payload_place (side_abi c.transfer.from) ms)) ms n
        (ap (λ o. case_by (λ s. load (from_side c) c.source s (a + o)) ms n) place ∙ sym (loads_by (from_side c) c.source ms n (a + payload_place (from_side c) ms)) ∙ none))

-- ---- the case of a name, whose payload does not lift

pub record RefusesCase (c : TransferSetting) (ms all : Members) (k : CaseType) (p : Shape) (ns : Members) (i size : ℕ) : Type 0 where
  pub by : (s : Source) (d : Target) (gs : List Region) (w : World) (m : List ℕ)
      → value_at_source c p (payload_part c.transfer.from p (payload_place (side_abi c.transfer.from) ms) s) ≡ None → IsSource c (length (flat (width_of_side c.transfer.from) p)) (payload_part c.transfer.from p (payload_place (side_abi c.transfer.from) ms) s)
      → HoldsMemories c m w → IsSumTarget c all ns size (IsInHand c gs) m d → i + count_of_members ns ≤ 256 ^ case_bytes all → GivesNothing c gs (move_case c.transfer ms all k ns i s d) w

module _ (c : TransferSetting) (g : IsGrounded c) (ms all : Members) (k : CaseType) (p : Shape) (typed_p : k.payload ≡ Some p) (ns : Members) (i size : ℕ) (x : List ℕ) where
  pub bare_case_refuses : AgreesCase k.name k.payload (bare x ns) → (AgreesCase k.name k.payload ns → RefusesCase c ms all k p ns (suc i) size) → RefusesCase c ms all k p (bare x ns) i size
  unfolding move_case
  bare_case_refuses a more = go (bytes_eq x k.name) refl a
    where
      go : (b : Bool) → bytes_eq x k.name ≡ b → chosen b (k.payload ≡ None) (AgreesCase k.name k.payload ns) → RefusesCase c ms all k p (bare x ns) i size
      go true e h = absurd (none_some k.payload p h typed_p)
      go false e h = record {
        by = λ s d gs w m none is ready target few.
            subst (λ q. GivesNothing c gs q w) (sym (ap (λ b. if b then write_case c.transfer ms all s d i k.payload None (λ p s' d'. Action.Unreachable) else move_case c.transfer ms all k ns (suc i) s d) e))
            ((more h).by s d gs w m none is ready (record { tag = target.tag; zeroable = target.zeroable; payloads = target.payloads; inside = target.inside; behind = target.behind; room = target.room }) (omega (arith, few)));
      }

  pub typed_case_refuses : (u : Shape) → 256 ^ case_bytes all ≤ 2 ^ 32 → AgreesCase k.name k.payload (typed x u ns) → (Agrees p u → Refuses c p u) → (AgreesCase k.name k.payload ns → RefusesCase c ms all k p ns (suc i) size) → RefusesCase c ms all k p (typed x u ns) i size
  unfolding move_case
  typed_case_refuses u small a one more = go (bytes_eq x k.name) refl a
    where
      go : (b : Bool) → bytes_eq x k.name ≡ b → chosen b (BothThere k.payload (λ s. Agrees s u)) (AgreesCase k.name k.payload ns) → RefusesCase c ms all k p (typed x u ns) i size
      go true e h = record {
        by = λ s d gs w m none is ready target few.
            let part = payload_part c.transfer.from p (payload_place (side_abi c.transfer.from) ms) s in
            let spot = payload_spot c.transfer.to u (payload_place (side_abi c.transfer.to) all) d in
            let payload_of : List CoreValue → Action (List CoreValue) = λ tag. move c.transfer p u part spot >>= (λ vs. Give (padded d (tag ++ vs))) in
            subst (λ q. GivesNothing c gs q w) (sym (ap (λ b. if b then write_case c.transfer ms all s d i k.payload (Some u) (λ p s' d'. move c.transfer p u s' d') else move_case c.transfer ms all k ns (suc i) s d) e
            ∙ ap (λ q. write_case c.transfer ms all s d i q (Some u) (λ p s' d'. move c.transfer p u s' d')) typed_p))
            (never_after (write_number c.transfer.to (case_bytes all) d i) payload_of w (does_tag g all small {H = λ t cs. Unit {0}} i d m w (IsInHand c gs) ready target.tag (omega (arith, few)))
            (λ n cs tag w' r. never_first (move c.transfer p u part spot) (λ vs. Give (padded d (tag ++ vs))) w'
            ((one (subst (λ q. BothThere q (λ s. Agrees s u)) typed_p h)).by part spot (regions_after gs cs) w' r.leaves.now is none r.leaves.ready
            (target_later c (flat (width_of_side c.transfer.to) u) (size_on c.transfer.to u) (IsInHand c gs) (IsInHand c (regions_after gs cs)) m r.leaves.now spot r.leaves.placed.room r.leaves.placed.grows target.payloads.0))));
      }
      go false e h = record {
        by = λ s d gs w m none is ready target few.
            subst (λ q. GivesNothing c gs q w) (sym (ap (λ b. if b then write_case c.transfer ms all s d i k.payload (Some u) (λ p s' d'. move c.transfer p u s' d') else move_case c.transfer ms all k ns (suc i) s d) e))
            ((more h).by s d gs w m none is ready (record { tag = target.tag; zeroable = target.zeroable; payloads = target.payloads.1; inside = target.inside.1; behind = target.behind; room = target.room }) (omega (arith, few)));
      }

-- ---- the sum

pub sum_refuses : {k : Kind} → SumKind k → (c : TransferSetting) → IsGrounded c → (ms ns : Members) → AreWellFormed ms → count_of_members ns ≤ 268435456
    → ((n : ℕ) (case : CaseType) (p : Shape) → case_type ms n ≡ Some case → case.payload ≡ Some p → RefusesCase c ms ns case p ns 0 (size_on c.transfer.to (s_node k_variant ns))) → Refuses c (s_node k ms) (s_node k ns)
sum_refuses {k} kind c g ms ns formed few one = record {
  by = λ s d gs w m is h ready target.
      does_sum kind g ms ns s d w (go s d gs w m is ready target (sum_lacks kind c ms s formed is h));
}
  where
    go : (s : Source) (d : Target) (gs : List Region) (w : World) (m : List ℕ) → IsSource c (length (flat (width_of_side c.transfer.from) (s_node k ms))) s → HoldsMemories c m w → IsTarget c (flat (width_of_side c.transfer.to) (s_node k ns)) (size_on c.transfer.to (s_node k ns)) (IsInHand c gs) m d
        → SumLacks c ms s → GivesNothing c gs (read_number c.transfer.debug c.transfer.from (case_bytes ms) s (λ x. move_of c.transfer ms ns s d (case_type ms x))) w
    go s d gs w m is ready target (lacks_number e) = never_number g (case_bytes ms) (length (flat_any (width_of_side c.transfer.from) ms)) s (λ x. move_of c.transfer ms ns s d (case_type ms x)) w (subst (λ fs. IsSource c (length fs) s) (sum_flat kind (width_of_side c.transfer.from) ms) is) ready.from e
    go s d gs w m is ready target (lacks_case n e none) =
        reads_number g (case_bytes ms) n _ s (λ x. move_of c.transfer ms ns s d (case_type ms x)) w is ready.from e (subst (λ q. GivesNothing c gs (move_of c.transfer ms ns s d q) w) (sym none) never_trap)
    go s d gs w m is ready target (lacks_payload n case p e at t none part_is) =
        reads_number g (case_bytes ms) n _ s (λ x. move_of c.transfer ms ns s d (case_type ms x)) w is ready.from e (subst (λ q. GivesNothing c gs (move_of c.transfer ms ns s d q) w) (sym at)
        ((one n case p at t).by s d gs w m none part_is ready
        (sum_target c ns (IsInHand c gs) m d (subst (λ z. IsTarget c (flat_type.I32 ∷ flat_any (width_of_side c.transfer.to) ns) z (IsInHand c gs) m d) (sum_layout kind c.transfer.to ns) (subst (λ fs. IsTarget c fs (size_on c.transfer.to (s_node k ns)) (IsInHand c gs) m d) (sum_flat kind (width_of_side c.transfer.to) ns) target)))
        (let f : count_of_members ns ≤ 256 ^ case_bytes ns = (tag_is (count_of_members ns)).tells (omega (arith, few)) in omega (arith, f))))
