-- Types that are one number are moved as the law says.
use Rattle.std.proofs.Common.{◌≡◌, ℕ, ◌+◌, ◌%◌, ◌^◌, ◌<◌, List, [], ◌∷◌, ◌++◌, length, Option, Some, None, refl, sym, ap, ◌∙◌, subst, arith}
use Rattle.std.specs.Prelude.{if◌then◌else◌}
use Rattle.fact_types.specs.declared.flats.FlatType.{FlatType}
use Rattle.fact_types.specs.declared.flats.FlatType.TheVariants as flat_type
use Rattle.fact_types.specs.declared.interface.InterfaceType.{InterfaceType}
use Rattle.fact_types.specs.declared.extents.MemoryWidth.TheVariants.{Memory32}
use Rattle.fact_types.specs.FlatShapes.{flat, flat_plain}
use Rattle.fact_types.specs.Shapes.{Shape, s_plain}
use Rattle.fact_types.proofs.ShapeLaws.{none_some}
use Rattle.fact_machine.specs.declared.types.CoreValue.{CoreValue}
use Rattle.fact_machine.specs.declared.types.CoreValue.TheVariants.{I32, I64, F32, F64, Func}
use Rattle.fact_machine.specs.World.{World, Stop}
use Rattle.fact_actions.specs.Actions.{Action, Visit}
use Rattle.fact_actions.specs.Running.{Call}
use Rattle.fact_actions.specs.Moves.{move, move_plain, plain_size, canonical_number, aligned_node, aligned_source, aligned_target}
use Rattle.fact_actions.specs.Sides.{Source, Values, AtAddress, Target, Slots, Into, width_of_side, write_number}
use Rattle.fact_values.specs.Lift.{bits_of, number_as, lift_leading, lift_number}
use Rattle.fact_values.specs.declared.value.Value.{Value}
use Rattle.fact_values.specs.Canonical.{IsCanonicalAt, IsCanonicalFlat, ThereIs, IsCanonicalByte, AreNarrow, IsCanonicalFirst, IsCanonicalNumber}
use Rattle.fact_values.specs.Carry.{take_number}
use Rattle.fact_values.specs.Handles.{cross, cross_plain, table_number_of}
use Rattle.fact_values.specs.Load.{load}
use Rattle.fact_types.specs.Options.{◌>>=◌}
use Rattle.fact_values.specs.Numbers.{plain_of, value_of_number, number_in}
use Rattle.fact_values.specs.Places.{extent_on}
use Rattle.fact_values.specs.Weight.{weight}
use Rattle.fact_action_laws.specs.Items.{items, numbers, AreItemCalls}
use Rattle.fact_action_laws.specs.MoveTerms.{size_on, IsMoved, MayStop}
use Rattle.fact_action_laws.specs.Places.{from_side, to_side, value_at_source, IsInRange, IsSource, IsTarget, IsAtTarget, StandsAtTarget, HoldsMemories, IsGrounded}
use Rattle.fact_actions.specs.Regions.{Region}
use Rattle.fact_action_laws.specs.Regions.{TransferSetting, IsInHand}
use Rattle.fact_action_laws.proofs.Bytes.{number_small}
use Rattle.fact_action_laws.proofs.Judges.{does_visit, does_more}
use Rattle.fact_action_laws.proofs.Numbers.{number_at_source, reads_number, does_write_number, flat_bound, IsNumberAt, Wrote}
use Rattle.fact_action_laws.proofs.Numeric.{IsNumeric, IsSilent, is_wide_flat}
use Rattle.fact_action_laws.proofs.Placing.{leaves_wider}
use Rattle.fact_action_laws.specs.Judged.{RunsHonestly}

-- ---- options

pub record Both {A B : Type 0} (q : Option A) (f : A → Option B) (y : B) : Type 0 where
  pub mid : A
  pub first : q ≡ Some mid
  pub last : f mid ≡ Some y

pub both : {A B : Type 0} (q : Option A) (f : A → Option B) (y : B) → q >>= f ≡ Some y → Both q f y
both None f y h = absurd (none_some None y refl h)
both (Some a) f y h = record { mid = a; first = refl; last = h }

-- ---- debug checks are off

pub does_aligned : {c : TransferSetting} {gs : List Region} {A : Type 0} {H : Stop → List Call → Type 0} {P : ℕ → List Call → A → World → Type 0} → IsGrounded c → (t u : Shape) (s : Source) (d : Target) (q : Action A) (w : World)
    → RunsHonestly c gs H P q w → RunsHonestly c gs H P (aligned_node c.transfer t u s d q) w
does_aligned {c} {gs} {A} {H} {P} g t u s d q w h =
    subst (λ b. RunsHonestly c gs H P (aligned_source b c.transfer.from t s (aligned_target b c.transfer.to u d q)) w) (sym g.quiet) h

-- ---- the number at a source

bits_same : (v : CoreValue) → bits_of v ≡ bits_of v
bits_same (I32 n) = refl
bits_same (I64 n) = refl
bits_same (F32 n) = refl
bits_same (F64 n) = refl
bits_same (Func f) = refl

pub reads_flat : (f : FlatType) (v : CoreValue) → (if is_wide_flat f then bits_of v else bits_of v % 2 ^ 32) ≡ number_as f v
reads_flat flat_type.I32 v = ap (λ n. n % 2 ^ 32) (bits_same v)
reads_flat flat_type.I64 v = bits_same v
reads_flat flat_type.F32 v = ap (λ n. n % 2 ^ 32) (bits_same v)
reads_flat flat_type.F64 v = bits_same v

range_of : (v : CoreValue) → IsInRange v → bits_of v < 2 ^ 64
range_of (I32 n) h = omega (arith, h)
range_of (I64 n) h = h
range_of (F32 n) h = omega (arith, h)
range_of (F64 n) h = h
range_of (Func f) h = absurd h

pub flat_below : (f : FlatType) (v : CoreValue) → IsInRange v → number_as f v < flat_bound f
flat_below flat_type.I32 v h = omega arith
flat_below flat_type.I64 v h = range_of v h
flat_below flat_type.F32 v h = omega arith
flat_below flat_type.F64 v h = range_of v h

-- a value that stands at a source as a number
pub record SourceNumber (c : TransferSetting) (p : InterfaceType) (size : ℕ) (f : FlatType) (s : Source) (v : Value) : Type 0 where
  pub number : ℕ
  pub at : number_at_source c size s ≡ Some number
  pub below : number < flat_bound f
  pub value : value_of_number (plain_of p) number ≡ Some v

module _ {c : TransferSetting} (g : IsGrounded c) {p : InterfaceType} {size : ℕ} {f : FlatType} (n : IsNumeric p size f) where
  pub source_number : (s : Source) (k : ℕ) (v : Value) → IsSource c k s → value_at_source c (s_plain p) s ≡ Some v → SourceNumber c p size f s v
  unfolding load lift_leading
  source_number (AtAddress a) k v is h =
      let b = both (number_in c.source (extent_on (from_side c) (s_plain p)).size a) _ v (sym (n.loads (from_side c) c.source a) ∙ h) in
      let e : number_in c.source size a ≡ Some b.mid = ap (λ z. number_in c.source z a) (sym (n.sized (width_of_side c.transfer.from))) ∙ b.first in
      record { number = b.mid; at = e; below = omega (arith, number_small c.source size a b.mid g.bytes e, n.fits); value = b.last }
  source_number (Values []) k v is h =
      absurd (none_some None v refl (sym (ap (λ fs. lift_number (plain_of p) fs []) (n.flats (width_of_side c.transfer.from))) ∙ sym (n.lifts (from_side c) c.source []) ∙ h))
  source_number (Values (x ∷ xs)) k v is h =
      record {
        number = number_as f x;
        at = ap (λ b. Some (if b then bits_of x else bits_of x % 2 ^ 32)) n.wide ∙ ap (λ y. Some y) (reads_flat f x);
        below = flat_below f x is.1.0;
        value = sym (ap (λ fs. lift_number (plain_of p) fs (x ∷ xs)) (n.flats (width_of_side c.transfer.from))) ∙ sym (n.lifts (from_side c) c.source (x ∷ xs)) ∙ h;
      }

  -- what stands at a target
  pub number_stands : (x : ℕ) (v : Value) (d : Target) (vs : List CoreValue) (b : List ℕ) → x < flat_bound f → value_of_number (plain_of p) x ≡ Some v → IsNumberAt size f (canonical_number p x) d vs b → StandsAtTarget c (s_plain p) v d vs b
  unfolding load lift_leading IsCanonicalAt IsCanonicalFlat
  number_stands x v (Into a) vs b lt e h =
      let there : number_in b (extent_on (to_side c) (s_plain p)).size a ≡ Some (canonical_number p x % 256 ^ size) = ap (λ z. number_in b z a) (n.sized (width_of_side c.transfer.to)) ∙ h in (
        n.loads (to_side c) b a ∙ ap (λ o. o >>= (λ k. value_of_number (plain_of p) k)) there ∙ n.same_low x lt ∙ e,
        subst (λ o. ThereIs o (IsCanonicalByte (plain_of p))) (sym there) (n.canonical_byte x lt),
      )
  number_stands x v (Slots ts) vs b lt e h = (
    n.lifts (to_side c) b vs ∙ ap (λ fs. lift_number (plain_of p) fs vs) (n.flats (width_of_side c.transfer.to)) ∙ ap (λ us. lift_number (plain_of p) (f ∷ []) us) h.1 ∙ ap (value_of_number (plain_of p)) h.3 ∙ n.same x lt ∙ e,
    subst (λ fs. AreNarrow fs vs × IsCanonicalFirst (plain_of p) fs vs) (sym (n.flats (width_of_side c.transfer.to)))
        (subst (λ us. AreNarrow (f ∷ []) us × IsCanonicalFirst (plain_of p) (f ∷ []) us) (sym h.1)
        ((h.2 ∙ sym h.3, tt), subst (IsCanonicalNumber (plain_of p)) (sym h.3) (n.canonical x lt))),
  )

  -- the law for these types
  pub numeric_law : IsSilent p → (s : Source) (d : Target) (v : Value) (gs : List Region) (w : World) (m : List ℕ) (Fit : Type 0)
      → IsSource c (length (flat (width_of_side c.transfer.from) (s_plain p))) s → value_at_source c (s_plain p) s ≡ Some v → HoldsMemories c m w
      → IsTarget c (flat (width_of_side c.transfer.to) (s_plain p)) (size_on c.transfer.to (s_plain p)) (IsInHand c gs) m d
      → RunsHonestly c gs (MayStop Fit (items (to_side c) (s_plain p) (s_plain p) v)) (IsMoved c gs m (s_plain p) (s_plain p) d v) (move c.transfer (s_plain p) (s_plain p) s d) w
  unfolding move cross items weight
  numeric_law silent s d v gs w m Fit is h ready target =
      let x = source_number s _ v is h in
      let same : size_on c.transfer.to (s_plain p) ≡ size = n.sized (width_of_side c.transfer.to) in
      let y = canonical_number p x.number in
      does_aligned g (s_plain p) (s_plain p) s d (Visit 1 (move_plain c.transfer p p s d)) w
      (does_visit
      (subst (λ q. RunsHonestly c gs (MayStop Fit (items (to_side c) (s_plain p) (s_plain p) v)) (λ k cs vs w'. IsMoved c gs m (s_plain p) (s_plain p) d v (1 + k) cs vs w') q w) (sym (silent.moves c.transfer s d))
      (reads_number g (plain_size p) x.number _ s (λ k. write_number c.transfer.to (plain_size p) d (canonical_number p k)) w is ready.from (ap (λ z. number_at_source c z s) (n.sized Memory32) ∙ x.at)
      (does_more (λ t cs o k. absurd k) (λ k cs vs w' o r. record {
        out = v;
        carried = record {
          crosses = λ rest. subst (λ l. cross_plain take_number (table_number_of (s_plain p)) (plain_of p) v (numbers l ++ rest) ≡ Some (v, rest)) (sym r.quiet) (silent.stays (table_number_of (s_plain p)) v rest);
          told = subst (λ is. AreItemCalls is cs) (sym (silent.silent (table_number_of (s_plain p)) v)) r.quiet;
          weighs = omega (arith, r.weightless);
        };
        given = r.given;
        leaves = leaves_wider (λ j a. subst (λ z. IsAtTarget z d j) (n.sized Memory32 ∙ sym same) a) (λ b a. number_stands x.number v d vs b x.below x.value (subst (λ z. IsNumberAt z f y d vs b) (n.sized Memory32) a)) r.leaves;
      })
      (subst (λ z. RunsHonestly c gs (λ t cs. ⊥) (Wrote c gs m z f y d) (write_number c.transfer.to z d y) w) (sym (n.sized Memory32))
      (does_write_number g m size y f d w (IsInHand c gs) ready (subst (λ fs. IsTarget c fs size (IsInHand c gs) m d) (n.flats (width_of_side c.transfer.to)) (subst (λ z. IsTarget c (flat_plain (width_of_side c.transfer.to) p) z (IsInHand c gs) m d) same target)) (n.below x.number x.below)))))))
