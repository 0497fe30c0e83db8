-- Where a walk begins.
use Rattle.std.proofs.Common.{◌≡◌, ℕ, ◌+◌, ◌*◌, ◌%◌, ◌^◌, ◌≤◌, ◌<◌, ◌⊎◌, inl, inr, Bool, true, false, List, [], ◌∷◌, length, take, drop, refl, sym, ap, subst, arith, length-take, length-drop}
use Rattle.std.specs.Prelude.{nat_eq, ◌&&◌, if◌then◌else◌}
use Rattle.std.proofs.lemmas.Bool.{eqb-true, false≢true}
use Rattle.fact_types.specs.declared.outside.FixedEncoding.{FixedEncoding}
use Rattle.fact_types.specs.declared.outside.StringEncoding.{StringEncoding}
use Rattle.fact_types.specs.declared.outside.StringEncoding.TheVariants as string
use Rattle.fact_types.specs.Adapters.{is_wide}
use Rattle.fact_machine.specs.declared.types.MachineState.{MachineState}
use Rattle.fact_machine.specs.Typing.{address_bits}
use Rattle.fact_values.specs.Texts.{unit_bytes}
use Rattle.fact_actions.specs.Paths.{align_of}
use Rattle.fact_actions.specs.Regions.{Region, IsIn, IsInAny, without}
use Rattle.fact_actions.specs.Strings.{PathPoint, path_start}
use Rattle.fact_actions.proofs.States.{and_right}
use Rattle.fact_action_laws.specs.Regions.{TransferSetting, IsInHand}
use Rattle.fact_action_laws.proofs.Equipped.{IsEquipped}
use Rattle.fact_action_laws.proofs.Stages.{Stage, beginning}
use Rattle.fact_action_laws.proofs.States.{from_bytes, to_bytes, There}
use Rattle.fact_action_laws.proofs.Invariant.{Inv}
use Rattle.fact_action_laws.proofs.ReadCalls.{SpellsSome}
use Rattle.fact_action_laws.proofs.TextTransfers.{first as from_first}

-- ---- live regions

-- what is given up at first
abbrev pub no_region : StringEncoding → Region
no_region enc = record { at = 0; size = 0; align = align_of enc }

kept_region : (r : Region) (gs rest : List Region) (j : ℕ) (b : Bool) → (nat_eq r.at 0 && nat_eq r.size 0) ≡ b → (IsInAny gs j → IsInAny rest j) → IsIn r j ⊎ IsInAny gs j → IsInAny (if b then gs else r ∷ rest) j
kept_region r gs rest j true is f (inl h) = let z : r.size ≡ 0 = eqb-true r.size 0 (and_right (nat_eq r.at 0) (nat_eq r.size 0) is) in absurd (omega (arith, h.0, h.1, z))
kept_region r gs rest j true is f (inr h) = h
kept_region r gs rest j false is f (inl h) = inl h
kept_region r gs rest j false is f (inr h) = inr (f h)

region_stays : (enc : StringEncoding) (gs : List Region) (j : ℕ) → IsInAny gs j → IsInAny (without (no_region enc) gs) j
region_stays enc [] j h = h
region_stays enc (r ∷ gs) j h = kept_region r gs (without (no_region enc) gs) j (nat_eq r.at 0 && nat_eq r.size 0) refl (region_stays enc gs j) h

-- an empty region holds no address
pub live_stays : (c : TransferSetting) (gs : List Region) (j : ℕ) → IsInHand c gs j → IsInHand c (without (no_region c.transfer.to.encoding) gs) j
live_stays c gs j (inl h) = inl (region_stays c.transfer.to.encoding gs j h)
live_stays c gs j (inr h) = inr h

first_aligned : (enc : StringEncoding) → 0 % align_of enc ≡ 0
first_aligned string.Utf8 = refl
first_aligned string.Utf16 = refl
first_aligned string.CompactUtf16 = refl

power_positive : (b : Bool) → 0 < 2 ^ address_bits b
power_positive true = omega arith
power_positive false = omega arith

module _ {c : TransferSetting} (e : IsEquipped c) (Kept Good : Type 0) (kept : Good → Kept) (f : FixedEncoding) (n p : ℕ) (gs : List Region) (s : MachineState) where
  -- what is known where a walk begins
  abbrev pub Known : List Region → List ℕ → Stage → PathPoint → MachineState → Type 0
  Known live us st v s1 = Inv e Kept Good kept f n p (unit_bytes f * n) (without (no_region c.transfer.to.encoding) gs) (to_bytes e s) (from_bytes e s) live us st v s1

  abbrev pub units_at : List ℕ
  units_at = take (unit_bytes f * n) (drop p (from_bytes e s))

  pub length_units : p + unit_bytes f * n ≤ length (from_bytes e s) → length units_at ≡ unit_bytes f * n
  length_units le = omega (arith, length-take (unit_bytes f * n) (drop p (from_bytes e s)), length-drop p (from_bytes e s), le)

  pub known_first : There e s → p % unit_bytes f ≡ 0 → p + unit_bytes f * n ≤ length (from_bytes e s) → Known gs units_at beginning (path_start p n) s
  known_first there aligned le =
      let size = length_units le in record {
        there = there;
        length_is = refl;
        source_is = refl;
        size_is = size;
        read_is = refl;
        written_is = refl;
        source_aligned = aligned;
        source = ap (λ k. take k (drop p (from_bytes e s))) size;
        source_in = omega (arith, size, le);
        others = refl;
        given = λ no1. absurd (false≢true no1);
        aligned = first_aligned c.transfer.to.encoding;
        below = power_positive (is_wide c.transfer.to.memory);
        inside = omega arith;
        apart = λ k j h l. omega (arith, h.0, h.1);
        stand = λ i lt. absurd (omega (arith, lt));
        long = omega arith;
        small = omega arith;
        frame = λ k j l. refl;
        grown = omega arith;
        same = λ k. refl;
        left = λ k t. subst (SpellsSome f) (sym (from_first f units_at)) t;
      }
