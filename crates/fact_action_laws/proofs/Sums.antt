-- Cases of sums are moved as the law says, where their payloads are.
use Rattle.std.proofs.Common.{◌≡◌, ℕ, suc, ◌+◌, ◌%◌, ◌^◌, ◌≤◌, ◌<◌, ⊎_elim, Bool, true, false, List, [], ◌∷◌, ◌++◌, length, drop, take, Option, Some, None, refl, sym, ap, ◌∙◌, subst, arith, mod-eq_of_lt}
use Rattle.std.specs.Prelude.{option_map, if◌then◌else◌}
use Rattle.std.specs.List.{AllByRecursion}
use Rattle.std.specs.Str.{bytes_eq}
use Rattle.std.proofs.lemmas.Bool.{false≢true}
use Rattle.std.proofs.Math.Seq.{drop-append_seam, take-append_seam}
use Rattle.fact_wasm.specs.declared.types.ValType.{ValType}
use Rattle.fact_wasm.specs.declared.types.ValType.TheVariants as val
use Rattle.fact_types.specs.declared.flats.FlatType.{FlatType}
use Rattle.fact_types.specs.declared.flats.FlatType.TheVariants as flat_type
use Rattle.fact_types.specs.Agrees.{Agrees, AgreesCase, BothThere, chosen}
use Rattle.fact_types.specs.FlatShapes.{flat}
use Rattle.fact_types.specs.Shapes.{Shape, Members, no_members, bare, typed}
use Rattle.fact_machine.specs.declared.types.CoreValue.{CoreValue}
use Rattle.fact_machine.specs.World.{World, Stop}
use Rattle.fact_actions.specs.Actions.{Action, Give, ◌>>=◌}
use Rattle.fact_values.specs.Limits.{CaseType, Where, IsWithinLimits, IsWithinAt, IsCaseWithin, IsCaseWithinAt}
use Rattle.fact_actions.specs.Moves.{move, move_case, write_case, payload_part, payload_spot, padded}
use Rattle.fact_values.specs.Places.{payload_place, case_bytes, count_of_members}
use Rattle.fact_actions.specs.Running.{Call}
use Rattle.fact_machine.specs.Typed.{is_value, are_values}
use Rattle.fact_actions.specs.Sides.{LiftLowerOptions, Source, Values, AtAddress, Target, Slots, Into, width_of_side, zeros, write_number, side_abi}
use Rattle.fact_values.specs.declared.value.Value.{Value}
use Rattle.fact_values.specs.declared.value.Value.TheVariants as value
use Rattle.fact_values.specs.Canonical.{IsCanonicalCaseAt, IsCanonicalCaseFlat, IsCanonicalFlat, IsZero}
use Rattle.fact_values.specs.Carry.{take_number}
use Rattle.fact_values.specs.Handles.{cross, cross_case, only, given, then_step, done_step}
use Rattle.fact_values.specs.Lift.{bits_of, number_as, lift_case}
use Rattle.fact_values.specs.Load.{load_case}
use Rattle.fact_types.specs.Options.{◌>>=◌ as and_then}
use Rattle.fact_values.specs.Numbers.{number_in}
use Rattle.fact_values.specs.Weight.{weight}
use Rattle.fact_action_laws.specs.Footprints.{HasChanged}
use Rattle.fact_action_laws.specs.Items.{items, items_case, of_some, numbers, AreItemCalls}
use Rattle.fact_action_laws.specs.MoveTerms.{IsWellFormed, size_on, moving, IsFit, MayStop}
use Rattle.fact_action_laws.specs.Places.{to_side, value_at_source, IsSource, IsTarget, IsAtTarget, IsGiven, StandsAtTarget, HoldsMemories, IsGrounded}
use Rattle.fact_actions.specs.Regions.{Region}
use Rattle.fact_action_laws.specs.Regions.{TransferSetting, IsInHand, regions_after}
use Rattle.fact_action_laws.proofs.Flats.{value_leads}
use Rattle.fact_action_laws.proofs.Judges.{does_bind, does_map, does_more}
use Rattle.fact_action_laws.proofs.Numbers.{IsNumberAt, Wrote, does_write_number}
use Rattle.fact_action_laws.proofs.Placing.{leaves_wider, leaves_then}
use Rattle.fact_action_laws.proofs.Products.{fit_less}
use Rattle.fact_action_laws.proofs.Records.{stops_later}
use Rattle.fact_action_laws.proofs.Targets.{at_live, both_true, left_true, right_true, hold_length, values_length, values_append}
use Rattle.fact_action_laws.specs.Judged.{RunsHonestly}
use Rattle.fact_action_laws.specs.MoveLaws.{IsLawfulMove}

-- ---- targets

-- the place of a discriminant
abbrev pub tag_spot : Target → Target
tag_spot (Slots []) = Slots []
tag_spot (Slots (t ∷ ts)) = Slots (t ∷ [])
tag_spot (Into a) = Into a

tag_written : (o : LiftLowerOptions) (size x : ℕ) (d : Target) → write_number o size d x ≡ write_number o size (tag_spot d) x
tag_written o size x (Slots []) = refl
tag_written o size x (Slots (t ∷ ts)) = refl
tag_written o size x (Into a) = refl

-- zeros are values of the slots behind the first
abbrev pub AreZeroable : Target → Type 0
AreZeroable (Slots ts) = (k : ℕ) → are_values (zeros (drop k ts)) (drop k ts) ≡ true
AreZeroable (Into a) = Unit {0}

-- the payloads of all cases have their targets
abbrev pub ArePayloadTargets : TransferSetting → (offset : ℕ) → (live : ℕ → Type 0) → List ℕ → Target → Members → Type 0
ArePayloadTargets c offset live m d no_members = Unit {0}
ArePayloadTargets c offset live m d (bare x ns) = ArePayloadTargets c offset live m d ns
ArePayloadTargets c offset live m d (typed x u ns) =
    IsTarget c (flat (width_of_side c.transfer.to) u) (size_on c.transfer.to u) live m (payload_spot c.transfer.to u offset d) × ArePayloadTargets c offset live m d ns

-- they lie within so many bytes
abbrev pub AreInside : TransferSetting → (offset size : ℕ) → Members → Type 0
AreInside c offset n no_members = Unit {0}
AreInside c offset n (bare x ns) = AreInside c offset n ns
AreInside c offset n (typed x u ns) = (offset + size_on c.transfer.to u ≤ n) × AreInside c offset n ns

pub record IsSumTarget (c : TransferSetting) (all ns : Members) (size : ℕ) (live : ℕ → Type 0) (m : List ℕ) (d : Target) : Type 0 where
  pub tag : IsTarget c (flat_type.I32 ∷ []) (case_bytes all) live m (tag_spot d)
  pub zeroable : AreZeroable d
  pub payloads : ArePayloadTargets c (payload_place (side_abi c.transfer.to) all) live m d ns
  pub inside : AreInside c (payload_place (side_abi c.transfer.to) all) size ns
  pub behind : case_bytes all ≤ payload_place (side_abi c.transfer.to) all
  pub room : payload_place (side_abi c.transfer.to) all ≤ size

-- ---- sources

-- the payload of a case at a source
abbrev pub IsPayloadAt : TransferSetting → Members → Option Shape → Source → List Value → Type 0
IsPayloadAt c ms None s ps = ps ≡ []
IsPayloadAt c ms (Some p) s ps =
    (w : Value) × (ps ≡ w ∷ []) × (value_at_source c p (payload_part c.transfer.from p (payload_place (side_abi c.transfer.from) ms) s) ≡ Some w)
    × IsSource c (length (flat (width_of_side c.transfer.from) p)) (payload_part c.transfer.from p (payload_place (side_abi c.transfer.from) ms) s)

abbrev pub IsCaseFit : TransferSetting → Members → CaseType → Members → Source → Type 0
IsCaseFit c ms k ns (Values []) = ⊥
IsCaseFit c ms k ns (Values (v ∷ vs)) = IsCaseWithin (moving c) k ns vs
IsCaseFit c ms k ns (AtAddress a) = IsCaseWithinAt (moving c) k ns (a + payload_place (side_abi c.transfer.from) ms)

-- ---- what a move of a case comes to

abbrev pub payload_weight : Option Shape → List Value → ℕ
payload_weight (Some p) (v ∷ []) = weight p v
payload_weight _ _ = 0

-- a case of a number k, which is that of an index among given ones, stands at a target
abbrev pub CaseStands : TransferSetting → (all ns : Members) → (k index : ℕ) → Value → Target → List CoreValue → List ℕ → Type 0
CaseStands c all ns k index out (Into a) us b =
    (number_in b (case_bytes all) a ≡ Some k) × (load_case (to_side c) b ns index (a + payload_place (side_abi c.transfer.to) all) ≡ Some out) × IsCanonicalCaseAt (to_side c) b ns index (a + payload_place (side_abi c.transfer.to) all)
CaseStands c all ns k index out (Slots ts) us b =
    (v : CoreValue) × (rest : List CoreValue) × (us ≡ v ∷ rest) × (bits_of v ≡ k) × (number_as flat_type.I32 v ≡ k) × (lift_case (to_side c) b ns index rest ≡ Some out) × IsCanonicalCaseFlat (to_side c) b ns index rest

pub record IsCaseMoved (c : TransferSetting) (gs : List Region) (m : List ℕ) (all : Members) (k : CaseType) (ns : Members) (i size : ℕ) (d : Target) (ps : List Value) (n : ℕ) (cs : List Call) (us : List CoreValue) (w : World) : Type 0 where
  pub index : ℕ
  pub name : List ℕ
  pub outs : List Value
  pub crosses : (rest : List ℕ) → cross_case take_number k.payload k.name ps ns (numbers cs ++ rest) ≡ Some (value.Case name outs, rest)
  pub told : AreItemCalls (items_case (to_side c) k.payload k.name ps ns) cs
  pub weighs : n ≡ payload_weight k.payload ps
  pub given : IsGiven d us
  pub leaves : HasChanged c gs m (IsAtTarget size d) (λ b. CaseStands c all ns (i + index) index (value.Case name outs) d us b) cs w

pub record IsLawfulCase (c : TransferSetting) (ms all : Members) (k : CaseType) (ns : Members) (i size : ℕ) : Type 0 where
  pub by : (s : Source) (d : Target) (ps : List Value) (gs : List Region) (w : World) (m : List ℕ)
      → IsPayloadAt c ms k.payload s ps → HoldsMemories c m w → IsSumTarget c all ns size (IsInHand c gs) m d → i + count_of_members ns ≤ 256 ^ case_bytes all
      → RunsHonestly c gs (MayStop (IsCaseFit c ms k ns s) (items_case (to_side c) k.payload k.name ps ns)) (IsCaseMoved c gs m all k ns i size d ps) (move_case c.transfer ms all k ns i s d) w

-- ---- discriminants

-- a discriminant is written
module _ {c : TransferSetting} (g : IsGrounded c) (all : Members) (small : 256 ^ case_bytes all ≤ 2 ^ 32) {gs : List Region} {H : Stop → List Call → Type 0} where
  pub does_tag : (i : ℕ) (d : Target) (m : List ℕ) (w : World) (live : ℕ → Type 0) → HoldsMemories c m w → IsTarget c (flat_type.I32 ∷ []) (case_bytes all) live m (tag_spot d) → i < 256 ^ case_bytes all
      → RunsHonestly c gs H (Wrote c gs m (case_bytes all) flat_type.I32 i (tag_spot d)) (write_number c.transfer.to (case_bytes all) d i) w
  does_tag i d m w live ready t lt =
      subst (λ q. RunsHonestly c gs H (Wrote c gs m (case_bytes all) flat_type.I32 i (tag_spot d)) q w) (sym (tag_written c.transfer.to (case_bytes all) i d))
      (does_write_number g m (case_bytes all) i flat_type.I32 (tag_spot d) w live ready t (omega (arith, lt, small)))

tag_at : (n size : ℕ) (d : Target) (j : ℕ) → n ≤ size → IsAtTarget n (tag_spot d) j → IsAtTarget size d j
tag_at n size (Slots []) j le h = h
tag_at n size (Slots (t ∷ ts)) j le h = h
tag_at n size (Into a) j le h = (h.0, omega (arith, h.1, le))

-- ---- a case without a payload

zeros_are : (ts : List ValType) → AllByRecursion IsZero (zeros ts)
zeros_are [] = tt
zeros_are (val.I32 ∷ ts) = (refl, zeros_are ts)
zeros_are (val.I64 ∷ ts) = (refl, zeros_are ts)
zeros_are (val.F32 ∷ ts) = (refl, zeros_are ts)
zeros_are (val.F64 ∷ ts) = (refl, zeros_are ts)
zeros_are (val.FuncRef ∷ ts) = (refl, zeros_are ts)

padded_given : (d : Target) (us : List CoreValue) → IsGiven (tag_spot d) us → AreZeroable d → IsGiven d (padded d us)
padded_given (Into a) us h z = h
padded_given (Slots []) [] h z = refl
padded_given (Slots []) (u ∷ us) h z = absurd (false≢true h)
padded_given (Slots (t ∷ ts)) [] h z = absurd (false≢true h)
padded_given (Slots (t ∷ ts)) (u ∷ []) h z = both_true (is_value u t) (are_values (zeros ts) ts) (left_true (is_value u t) true h) (z 1)
padded_given (Slots (t ∷ ts)) (u ∷ (v ∷ us)) h z = absurd (false≢true (right_true (is_value u t) false h))

bare_stands : (c : TransferSetting) (all ns : Members) (x : List ℕ) (i : ℕ) (live : ℕ → Type 0) (m : List ℕ) (d : Target) (us : List CoreValue) (b : List ℕ) → IsTarget c (flat_type.I32 ∷ []) (case_bytes all) live m (tag_spot d)
    → i < 256 ^ case_bytes all → IsNumberAt (case_bytes all) flat_type.I32 i (tag_spot d) us b → CaseStands c all (bare x ns) (i + 0) 0 (value.Case x []) d (padded d us) b
unfolding load_case lift_case IsCanonicalCaseAt IsCanonicalCaseFlat
bare_stands c all ns x i live m (Into a) us b t lt h = let z : i % 256 ^ case_bytes all ≡ i + 0 = mod-eq_of_lt lt ∙ omega arith in (h ∙ ap (λ k. Some k) z, refl, tt)
bare_stands c all ns x i live m (Slots []) us b t lt h = absurd (false≢true t)
bare_stands c all ns x i live m (Slots (t1 ∷ ts)) us b t lt h = let z : i ≡ i + 0 = omega arith in
    subst (λ us. CaseStands c all (bare x ns) (i + 0) 0 (value.Case x []) (Slots (t1 ∷ ts)) (padded (Slots (t1 ∷ ts)) us) b) (sym h.1) (h.0, zeros ts, refl, h.2 ∙ z, h.3 ∙ z, refl, zeros_are ts)

-- ---- the name of a case is not that of the first one

module _ (c : TransferSetting) (ms all : Members) (k : CaseType) (ns : Members) (i size : ℕ) where
  -- what is said of the others is said of all
  abbrev Further : (first : Members) → Type 1
  Further first =
      ((s : Source) (d : Target) → move_case c.transfer ms all k first i s d ≡ move_case c.transfer ms all k ns (suc i) s d)
      × ((ps : List Value) (a : List ℕ) → cross_case take_number k.payload k.name ps first a ≡ cross_case take_number k.payload k.name ps ns a)
      × ((ps : List Value) → items_case (to_side c) k.payload k.name ps first ≡ items_case (to_side c) k.payload k.name ps ns)
      × ((s : Source) → IsCaseFit c ms k first s → IsCaseFit c ms k ns s)
      × ((j index : ℕ) (out : Value) (d : Target) (us : List CoreValue) (b : List ℕ) → CaseStands c all ns j index out d us b → CaseStands c all first j (suc index) out d us b)
      × ((live : ℕ → Type 0) (m : List ℕ) (d : Target) → IsSumTarget c all first size live m d → IsSumTarget c all ns size live m d)
      × (count_of_members first ≡ suc (count_of_members ns))

  further : (first : Members) → Further first → IsLawfulCase c ms all k ns (suc i) size → IsLawfulCase c ms all k first i size
  further first f h = record {
    by = λ s d ps gs w m p ready target few.
        subst (λ q. RunsHonestly c gs (MayStop (IsCaseFit c ms k first s) (items_case (to_side c) k.payload k.name ps first)) (IsCaseMoved c gs m all k first i size d ps) q w) (sym (f.0 s d))
        (subst (λ is. RunsHonestly c gs (MayStop (IsCaseFit c ms k first s) is) (IsCaseMoved c gs m all k first i size d ps) (move_case c.transfer ms all k ns (suc i) s d) w) (sym (f.2 ps))
        (does_more (λ t cs o h. fit_less _ _ _ (f.3 s) t cs h)
        (λ n cs us w' o r. let e : suc i + r.index ≡ i + suc r.index = omega arith in record {
          index = suc r.index;
          name = r.name;
          outs = r.outs;
          crosses = λ rest. f.1 ps (numbers cs ++ rest) ∙ r.crosses rest;
          told = subst (λ is. AreItemCalls is cs) (sym (f.2 ps)) r.told;
          weighs = r.weighs;
          given = r.given;
          leaves = leaves_wider (λ j a. a) (λ b a. f.4 (i + suc r.index) r.index (value.Case r.name r.outs) d us b (subst (λ j. CaseStands c all ns j r.index (value.Case r.name r.outs) d us b) e a)) r.leaves;
        })
        (h.by s d ps gs w m p ready (f.5 (IsInHand c gs) m d target) (omega (arith, few, f.6)))));
  }

  bare_fit : (x : List ℕ) (s : Source) → IsCaseFit c ms k (bare x ns) s → IsCaseFit c ms k ns s
  unfolding IsCaseWithin IsCaseWithinAt
  bare_fit x (Values []) h = h
  bare_fit x (Values (v ∷ vs)) h = h
  bare_fit x (AtAddress a) h = h

  bare_case_stands : (x : List ℕ) (j index : ℕ) (out : Value) (d : Target) (us : List CoreValue) (b : List ℕ) → CaseStands c all ns j index out d us b → CaseStands c all (bare x ns) j (suc index) out d us b
  unfolding load_case lift_case IsCanonicalCaseAt IsCanonicalCaseFlat
  bare_case_stands x j index out (Slots ts) us b h = h
  bare_case_stands x j index out (Into a) us b h = h

  typed_fit : (x : List ℕ) (u : Shape) → bytes_eq x k.name ≡ false → (s : Source) → IsCaseFit c ms k (typed x u ns) s → IsCaseFit c ms k ns s
  unfolding IsCaseWithin IsCaseWithinAt
  typed_fit x u e (Values []) h = h
  typed_fit x u e (Values (v ∷ vs)) h =
      subst (λ b. chosen b (Where k.payload (λ s. IsWithinLimits (moving c) s u (take (length (flat (width_of_side c.transfer.from) s)) vs))) (IsCaseWithin (moving c) k ns vs)) e h
  typed_fit x u e (AtAddress a) h =
      subst (λ b. chosen b (Where k.payload (λ s. IsWithinAt (moving c) s u (a + payload_place (side_abi c.transfer.from) ms))) (IsCaseWithinAt (moving c) k ns (a + payload_place (side_abi c.transfer.from) ms))) e h

  typed_case_stands : (x : List ℕ) (u : Shape) (j index : ℕ) (out : Value) (d : Target) (us : List CoreValue) (b : List ℕ) → CaseStands c all ns j index out d us b → CaseStands c all (typed x u ns) j (suc index) out d us b
  unfolding load_case lift_case IsCanonicalCaseAt IsCanonicalCaseFlat
  typed_case_stands x u j index out (Slots ts) us b h = h
  typed_case_stands x u j index out (Into a) us b h = h

  bare_further : (x : List ℕ) → bytes_eq x k.name ≡ false → IsLawfulCase c ms all k ns (suc i) size → IsLawfulCase c ms all k (bare x ns) i size
  unfolding move_case cross_case items_case
  bare_further x e h = further (bare x ns) (
    (λ s d. ap (λ b. if b then write_case c.transfer ms all s d i k.payload None (λ p s' d'. Action.Unreachable) else move_case c.transfer ms all k ns (suc i) s d) e),
    (λ ps a. ap (λ b. (if b then done_step (value.Case x []) else cross_case take_number k.payload k.name ps ns) a) e),
    (λ ps. ap (λ b. if b then [] else items_case (to_side c) k.payload k.name ps ns) e),
    (λ s h. bare_fit x s h),
    (λ j index out d us b h. bare_case_stands x j index out d us b h),
    (λ live m d t. record { tag = t.tag; zeroable = t.zeroable; payloads = t.payloads; inside = t.inside; behind = t.behind; room = t.room }),
    refl,
  ) h

  typed_further : (x : List ℕ) (u : Shape) → bytes_eq x k.name ≡ false → IsLawfulCase c ms all k ns (suc i) size → IsLawfulCase c ms all k (typed x u ns) i size
  unfolding move_case cross_case items_case
  typed_further x u e h = further (typed x u ns) (
    (λ s d. ap (λ b. if b then write_case c.transfer ms all s d i k.payload (Some u) (λ p s' d'. move c.transfer p u s' d') else move_case c.transfer ms all k ns (suc i) s d) e),
    (λ ps a. ap (λ b. (if b then given k.payload (λ s. given (only ps) (λ v. then_step (cross take_number s u v) (λ u1. done_step (value.Case x (u1 ∷ []))))) else cross_case take_number k.payload k.name ps ns) a) e),
    (λ ps. ap (λ b. if b then of_some k.payload (λ s. of_some (only ps) (λ v. items (to_side c) s u v)) else items_case (to_side c) k.payload k.name ps ns) e),
    (λ s h. typed_fit x u e s h),
    (λ j index out d us b h. typed_case_stands x u j index out d us b h),
    (λ live m d t. record { tag = t.tag; zeroable = t.zeroable; payloads = t.payloads.1; inside = t.inside.1; behind = t.behind; room = t.room }),
    refl,
  ) h

-- ---- the name is that of the first one

-- a case without a payload
bare_first : (c : TransferSetting) → IsGrounded c → (ms all : Members) (k : CaseType) (ns : Members) (i size : ℕ) (x : List ℕ) → 256 ^ case_bytes all ≤ 2 ^ 32 → bytes_eq x k.name ≡ true → k.payload ≡ None → IsLawfulCase c ms all k (bare x ns) i size
unfolding move_case cross_case items_case
bare_first c g ms all k ns i size x small e none = record {
  by = λ s d ps gs w m p ready target few.
      let moves : move_case c.transfer ms all k (bare x ns) i s d ≡ (write_number c.transfer.to (case_bytes all) d i >>= (λ tag. Give (padded d tag))) =
      ap (λ b. if b then write_case c.transfer ms all s d i k.payload None (λ p s' d'. Action.Unreachable) else move_case c.transfer ms all k ns (suc i) s d) e
      ∙ ap (λ q. write_case c.transfer ms all s d i q None (λ p s' d'. Action.Unreachable)) none in
      let its : items_case (to_side c) k.payload k.name ps (bare x ns) ≡ [] = ap (λ b. if b then [] else items_case (to_side c) k.payload k.name ps ns) e in
      subst (λ q. RunsHonestly c gs (MayStop (IsCaseFit c ms k (bare x ns) s) (items_case (to_side c) k.payload k.name ps (bare x ns))) (IsCaseMoved c gs m all k (bare x ns) i size d ps) q w) (sym moves)
      (does_map (write_number c.transfer.to (case_bytes all) d i) (λ tag. padded d tag) w
      (does_more (λ t cs o h. absurd h)
      (λ n cs tag w' o r. record {
        index = 0;
        name = x;
        outs = [];
        crosses = λ rest. ap (λ b. (if b then done_step (value.Case x []) else cross_case take_number k.payload k.name ps ns) (numbers cs ++ rest)) e ∙ ap (λ l. Some (value.Case x [], numbers l ++ rest)) r.quiet;
        told = subst (λ is. AreItemCalls is cs) (sym its) r.quiet;
        weighs = r.weightless ∙ ap (λ q. payload_weight q ps) (sym none);
        given = padded_given d tag r.given target.zeroable;
        leaves = leaves_wider (λ j a. tag_at (case_bytes all) size d j (omega (arith, target.behind, target.room)) a)
            (λ b a. bare_stands c all ns x i (IsInHand c gs) m d tag b target.tag (omega (arith, few)) a) r.leaves;
      })
      (does_tag g all small {H = λ t cs. ⊥} i d m w (IsInHand c gs) ready target.tag (omega (arith, few)))));
}

-- the payload and zeros stand behind the discriminant
typed_given : (c : TransferSetting) (u : Shape) (offset n : ℕ) (live : ℕ → Type 0) (m : List ℕ) (d : Target) (tag us : List CoreValue) → IsTarget c (flat_type.I32 ∷ []) n live m (tag_spot d) → IsGiven (tag_spot d) tag
    → IsTarget c (flat (width_of_side c.transfer.to) u) (size_on c.transfer.to u) live m (payload_spot c.transfer.to u offset d) → IsGiven (payload_spot c.transfer.to u offset d) us → AreZeroable d → IsGiven d (padded d (tag ++ us))
typed_given c u offset n live m (Into a) tag us t1 g t h z = ap (λ l. l ++ us) g ∙ h
typed_given c u offset n live m (Slots []) tag us t1 g t h z = absurd (false≢true t1)
typed_given c u offset n live m (Slots (t1 ∷ ts)) [] us tt1 g t h z = absurd (false≢true g)
typed_given c u offset n live m (Slots (t1 ∷ ts)) (v ∷ (v2 ∷ vs)) us tt1 g t h z = absurd (false≢true (right_true (is_value v t1) false g))
typed_given c u offset n live m (Slots (t1 ∷ ts)) (v ∷ []) us tt1 g t h z =
    let f = flat (width_of_side c.transfer.to) u in
    let long : length us ≡ length f = values_length us (take (length f) ts) h ∙ sym (hold_length f (take (length f) ts) t) in
    both_true (is_value v t1) (are_values (us ++ zeros (drop (length us) ts)) ts) (left_true (is_value v t1) true g)
    (values_append (length f) us (zeros (drop (length us) ts)) ts h (subst (λ n. are_values (zeros (drop n ts)) (drop (length f) ts) ≡ true) (sym long) (z (suc (length f)))))

typed_stands : (c : TransferSetting) (all ns : Members) (x : List ℕ) (u : Shape) (i : ℕ) (live : ℕ → Type 0) (m : List ℕ) (d : Target) (tag us : List CoreValue) (out : Value) (b : List ℕ) → IsWellFormed u
    → IsTarget c (flat_type.I32 ∷ []) (case_bytes all) live m (tag_spot d)
    → IsTarget c (flat (width_of_side c.transfer.to) u) (size_on c.transfer.to u) live m (payload_spot c.transfer.to u (payload_place (side_abi c.transfer.to) all) d) → IsGiven (payload_spot c.transfer.to u (payload_place (side_abi c.transfer.to) all) d) us
    → i < 256 ^ case_bytes all → IsNumberAt (case_bytes all) flat_type.I32 i (tag_spot d) tag b → StandsAtTarget c u out (payload_spot c.transfer.to u (payload_place (side_abi c.transfer.to) all) d) us b
    → CaseStands c all (typed x u ns) (i + 0) 0 (value.Case x (out ∷ [])) d (padded d (tag ++ us)) b
unfolding load_case lift_case IsCanonicalCaseAt IsCanonicalCaseFlat
typed_stands c all ns x u i live m (Into a) tag us out b formed t1 t2 given lt h p =
    let z : i % 256 ^ case_bytes all ≡ i + 0 = mod-eq_of_lt lt ∙ omega arith in (h ∙ ap (λ k. Some k) z, ap (option_map (λ w. value.Case x (w ∷ []))) p.0, p.1)
typed_stands c all ns x u i live m (Slots []) tag us out b formed t1 t2 given lt h p = absurd (false≢true t1)
typed_stands c all ns x u i live m (Slots (t ∷ ts)) tag us out b formed t1 t2 given lt h p =
    let z : i ≡ i + 0 = omega arith in
    let f = flat (width_of_side c.transfer.to) u in
    let long : length f ≡ length us = hold_length f (take (length f) ts) t2 ∙ sym (values_length us (take (length f) ts) given) in
    let zs = zeros (drop (length us) ts) in
    let first : take (length f) (us ++ zs) ≡ us = ap (λ n. take n (us ++ zs)) long ∙ take-append_seam us zs in
    let others : drop (length f) (us ++ zs) ≡ zs = ap (λ n. drop n (us ++ zs)) long ∙ drop-append_seam us zs in
    subst (λ tag. CaseStands c all (typed x u ns) (i + 0) 0 (value.Case x (out ∷ [])) (Slots (t ∷ ts)) (padded (Slots (t ∷ ts)) (tag ++ us)) b) (sym h.1) (
      h.0,
      us ++ zs,
      refl,
      h.2 ∙ z,
      h.3 ∙ z,
      ap (option_map (λ w. value.Case x (w ∷ []))) (value_leads (to_side c) b u formed us zs (omega (arith, long)) ∙ p.0),
      (subst (IsCanonicalFlat (to_side c) b u) (sym first) p.1, subst (AllByRecursion IsZero) (sym others) (zeros_are (drop (length us) ts))),
    )

payload_among : (c : TransferSetting) (u : Shape) (offset size : ℕ) (d : Target) (j : ℕ) → offset + size_on c.transfer.to u ≤ size → IsAtTarget (size_on c.transfer.to u) (payload_spot c.transfer.to u offset d) j → IsAtTarget size d j
payload_among c u offset size (Slots ts) j le h = h
payload_among c u offset size (Into a) j le h = (omega (arith, h.0), omega (arith, h.1, le))

payload_apart : (c : TransferSetting) (u : Shape) (offset n : ℕ) (d : Target) (j : ℕ) → n ≤ offset → IsAtTarget n (tag_spot d) j → IsAtTarget (size_on c.transfer.to u) (payload_spot c.transfer.to u offset d) j → ⊥
payload_apart c u offset n (Slots []) j le h k = h
payload_apart c u offset n (Slots (t ∷ ts)) j le h k = h
payload_apart c u offset n (Into a) j le h k = omega (arith, h.1, k.0, le)

-- a target later on
pub target_later : (c : TransferSetting) (fs : List FlatType) (n : ℕ) (live live' : ℕ → Type 0) (m m' : List ℕ) (d : Target) → length m ≤ length m' → ((j : ℕ) → live j → live' j) → IsTarget c fs n live m d → IsTarget c fs n live' m' d
target_later c fs n live live' m m' (Slots ts) le f h = h
target_later c fs n live live' m m' (Into a) le f h = (h.0, omega (arith, h.1, le), λ j lo hi. f j (h.2 j lo hi))

-- a case with a payload
module _ (c : TransferSetting) (g : IsGrounded c) (ms all : Members) (k : CaseType) (ns : Members) (i size : ℕ) (x : List ℕ) (p u : Shape) (formed_u : IsWellFormed u) (small : 256 ^ case_bytes all ≤ 2 ^ 32) (same : bytes_eq x k.name ≡ true) (typed_p : k.payload ≡ Some p) where
  payload_fit : (s : Source) (n : ℕ) → IsSource c n (payload_part c.transfer.from p (payload_place (side_abi c.transfer.from) ms) s) → IsCaseFit c ms k (typed x u ns) s → IsFit c p u (payload_part c.transfer.from p (payload_place (side_abi c.transfer.from) ms) s)
  unfolding IsCaseWithin IsCaseWithinAt
  payload_fit (Values []) n is h = absurd h
  payload_fit (Values (v ∷ vs)) n is h =
      subst (λ q. Where q (λ s. IsWithinLimits (moving c) s u (take (length (flat (width_of_side c.transfer.from) s)) vs))) typed_p
      (subst (λ b. chosen b (Where k.payload (λ s. IsWithinLimits (moving c) s u (take (length (flat (width_of_side c.transfer.from) s)) vs))) (IsCaseWithin (moving c) k ns vs)) same h)
  payload_fit (AtAddress a) n is h =
      subst (λ q. Where q (λ s. IsWithinAt (moving c) s u (a + payload_place (side_abi c.transfer.from) ms))) typed_p
      (subst (λ b. chosen b (Where k.payload (λ s. IsWithinAt (moving c) s u (a + payload_place (side_abi c.transfer.from) ms))) (IsCaseWithinAt (moving c) k ns (a + payload_place (side_abi c.transfer.from) ms))) same h)

  -- the case and its payload are left at the target
  typed_left : (gs : List Region) (m : List ℕ) (d : Target) (tag us : List CoreValue) (out : Value) (cs ds : List Call) (w1 w2 : World) → IsSumTarget c all (typed x u ns) size (IsInHand c gs) m d → i < 256 ^ case_bytes all
      → (a : HasChanged c gs m (IsAtTarget (case_bytes all) (tag_spot d)) (λ b. IsNumberAt (case_bytes all) flat_type.I32 i (tag_spot d) tag b) cs w1)
      → HasChanged c (regions_after gs cs) a.now (IsAtTarget (size_on c.transfer.to u) (payload_spot c.transfer.to u (payload_place (side_abi c.transfer.to) all) d)) (λ b. StandsAtTarget c u out (payload_spot c.transfer.to u (payload_place (side_abi c.transfer.to) all) d) us b) ds w2
      → IsGiven (payload_spot c.transfer.to u (payload_place (side_abi c.transfer.to) all) d) us
      → HasChanged c gs m (IsAtTarget size d) (λ b. CaseStands c all (typed x u ns) (i + 0) 0 (value.Case x (out ∷ [])) d (padded d (tag ++ us)) b) (cs ++ ds) w2
  typed_left gs m d tag us out cs ds w1 w2 target lt a b given =
      leaves_wider
      (λ j. ⊎_elim (tag_at (case_bytes all) size d j (omega (arith, target.behind, target.room))) (payload_among c u (payload_place (side_abi c.transfer.to) all) size d j target.inside.0))
      (λ bytes h. typed_stands c all ns x u i (IsInHand c gs) m d tag us out bytes formed_u target.tag target.payloads.0 given lt h.0 h.1)
      (leaves_then (λ j. payload_apart c u (payload_place (side_abi c.transfer.to) all) (case_bytes all) d j target.behind)
      (λ j h. at_live c (flat_type.I32 ∷ []) (case_bytes all) (IsInHand c gs) m (tag_spot d) target.tag j h)
      (λ j h. at_live c (flat (width_of_side c.transfer.to) u) (size_on c.transfer.to u) (IsInHand c gs) m (payload_spot c.transfer.to u (payload_place (side_abi c.transfer.to) all) d) target.payloads.0 j h) a b)

  pub typed_first : IsLawfulMove c p u → IsLawfulCase c ms all k (typed x u ns) i size
  unfolding move_case cross_case items_case
  typed_first one = record {
    by = λ s d ps gs w m pay ready target few.
        let q = subst (λ q. IsPayloadAt c ms q s ps) typed_p pay in
        let part = payload_part c.transfer.from p (payload_place (side_abi c.transfer.from) ms) s in
        let spot = payload_spot c.transfer.to u (payload_place (side_abi c.transfer.to) all) d in
        let its = items (to_side c) p u q.0 in
        let payload_of : List CoreValue → Action (List CoreValue) = λ tag. move c.transfer p u part spot >>= (λ vs. Give (padded d (tag ++ vs))) in
        let moves : move_case c.transfer ms all k (typed x u ns) i s d ≡ (write_number c.transfer.to (case_bytes all) d i >>= payload_of) =
        ap (λ b. if b then write_case c.transfer ms all s d i k.payload (Some u) (λ p s' d'. move c.transfer p u s' d') else move_case c.transfer ms all k ns (suc i) s d) same
        ∙ ap (λ q. write_case c.transfer ms all s d i q (Some u) (λ p s' d'. move c.transfer p u s' d')) typed_p in
        let calls_for : items_case (to_side c) k.payload k.name ps (typed x u ns) ≡ its =
        ap (λ b. if b then of_some k.payload (λ s. of_some (only ps) (λ v. items (to_side c) s u v)) else items_case (to_side c) k.payload k.name ps ns) same
        ∙ ap (λ q. of_some q (λ s. of_some (only ps) (λ v. items (to_side c) s u v))) typed_p ∙ ap (λ ps. of_some (only ps) (λ v. items (to_side c) p u v)) q.1 in
        subst (λ r. RunsHonestly c gs (MayStop (IsCaseFit c ms k (typed x u ns) s) (items_case (to_side c) k.payload k.name ps (typed x u ns))) (IsCaseMoved c gs m all k (typed x u ns) i size d ps) r w) (sym moves)
        (subst (λ is. RunsHonestly c gs (MayStop (IsCaseFit c ms k (typed x u ns) s) is) (IsCaseMoved c gs m all k (typed x u ns) i size d ps) (write_number c.transfer.to (case_bytes all) d i >>= payload_of) w) (sym calls_for)
        (does_bind (write_number c.transfer.to (case_bytes all) d i) payload_of w
        (does_tag g all small {H = λ t cs. ⊥} i d m w (IsInHand c gs) ready target.tag (omega (arith, few)))
        (λ t cs h. absurd h)
        (λ n cs tag w' o r. does_map (move c.transfer p u part spot) (λ vs. padded d (tag ++ vs)) w'
        (does_more
        (λ t ds o' h. stops_later _ _ [] its cs (λ f. payload_fit s _ q.3 f) r.quiet t ds h)
        (λ k2 ds us w'' o' t.
        let z : cs ++ ds ≡ ds = ap (λ l. l ++ ds) r.quiet in
        record {
          index = 0;
          name = x;
          outs = t.out ∷ [];
          crosses = λ rest.
              ap (λ b. (if b then given k.payload (λ s. given (only ps) (λ v. then_step (cross take_number s u v) (λ u1. done_step (value.Case x (u1 ∷ []))))) else cross_case take_number k.payload k.name ps ns) (numbers (cs ++ ds) ++ rest)) same
              ∙ ap (λ q. given q (λ s. given (only ps) (λ v. then_step (cross take_number s u v) (λ u1. done_step (value.Case x (u1 ∷ []))))) (numbers (cs ++ ds) ++ rest)) typed_p
              ∙ ap (λ ps. given (only ps) (λ v. then_step (cross take_number p u v) (λ u1. done_step (value.Case x (u1 ∷ [])))) (numbers (cs ++ ds) ++ rest)) q.1
              ∙ ap (λ l. and_then (cross take_number p u q.0 (numbers l ++ rest)) (λ r. done_step (value.Case x (r.0 ∷ [])) r.1)) z
              ∙ ap (λ o. and_then o (λ r. done_step (value.Case x (r.0 ∷ [])) r.1)) (t.carried.crosses rest);
          told = subst (λ is. AreItemCalls is (cs ++ ds)) (sym calls_for) (subst (AreItemCalls its) (sym z) t.carried.told);
          weighs = ap (λ n. n + k2) r.weightless ∙ omega (arith, t.carried.weighs) ∙ sym (ap (λ q. payload_weight q ps) typed_p ∙ ap (payload_weight (Some p)) q.1);
          given = typed_given c u (payload_place (side_abi c.transfer.to) all) (case_bytes all) (IsInHand c gs) m d tag us target.tag r.given target.payloads.0 t.given target.zeroable;
          leaves = typed_left gs m d tag us t.out cs ds w' w'' target (omega (arith, few)) r.leaves t.leaves t.given;
        })
        (one.by part spot q.0 (regions_after gs cs) w' r.leaves.now q.3 q.2 r.leaves.ready
        (target_later c (flat (width_of_side c.transfer.to) u) (size_on c.transfer.to u) (IsInHand c gs) (IsInHand c (regions_after gs cs)) m r.leaves.now spot r.leaves.placed.room r.leaves.placed.grows target.payloads.0))))));
  }

-- ---- the case of a name

pub bare_case : (c : TransferSetting) → IsGrounded c → (ms all : Members) (k : CaseType) (ns : Members) (i size : ℕ) (x : List ℕ) → 256 ^ case_bytes all ≤ 2 ^ 32 → AgreesCase k.name k.payload (bare x ns)
    → (AgreesCase k.name k.payload ns → IsLawfulCase c ms all k ns (suc i) size) → IsLawfulCase c ms all k (bare x ns) i size
bare_case c g ms all k ns i size x small ag more = go (bytes_eq x k.name) refl ag
  where
    go : (b : Bool) → bytes_eq x k.name ≡ b → chosen b (k.payload ≡ None) (AgreesCase k.name k.payload ns) → IsLawfulCase c ms all k (bare x ns) i size
    go true e h = bare_first c g ms all k ns i size x small e h
    go false e h = bare_further c ms all k ns i size x e (more h)

pub typed_case : (c : TransferSetting) → IsGrounded c → (ms all : Members) (k : CaseType) (ns : Members) (i size : ℕ) (x : List ℕ) (u : Shape) → IsWellFormed u → 256 ^ case_bytes all ≤ 2 ^ 32 → AgreesCase k.name k.payload (typed x u ns)
    → ((p : Shape) → k.payload ≡ Some p → Agrees p u → IsLawfulMove c p u) → (AgreesCase k.name k.payload ns → IsLawfulCase c ms all k ns (suc i) size) → IsLawfulCase c ms all k (typed x u ns) i size
typed_case c g ms all k ns i size x u formed small ag one more = go (bytes_eq x k.name) refl ag
  where
    with_payload : (q : Option Shape) → k.payload ≡ q → bytes_eq x k.name ≡ true → BothThere q (λ s. Agrees s u) → IsLawfulCase c ms all k (typed x u ns) i size
    with_payload None e t h = absurd h
    with_payload (Some p) e t h = typed_first c g ms all k ns i size x p u formed small t e (one p e h)

    go : (b : Bool) → bytes_eq x k.name ≡ b → chosen b (BothThere k.payload (λ s. Agrees s u)) (AgreesCase k.name k.payload ns) → IsLawfulCase c ms all k (typed x u ns) i size
    go true e h = with_payload k.payload refl e h
    go false e h = typed_further c ms all k ns i size x u e (more h)
