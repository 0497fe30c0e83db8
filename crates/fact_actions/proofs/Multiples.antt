-- Places that are multiples of alignments: of a member within a record, of a payload, of an element.
use Rattle.std.proofs.Common.{◌≡◌, ℕ, zero, suc, ◌+◌, ◌-◌, ◌*◌, ◌≤◌, ◌^◌, Bool, true, false, List, length, Option, Some, None, refl, sym, ap, ◌∙◌, subst, arith, inl, inr, pow-add}
use Rattle.std.proofs.lemmas.Bool.{cases_lt}
use Rattle.std.proofs.Math.Nat.{le-max_left, le-max_right, max-le}
use Rattle.std.proofs.lemmas.Nat.Gcd.{dvd_trans, dvd_of_mod-eq-zero}
use Rattle.std.proofs.Math.Nat.{dvd-mul_left, one-dvd}
use Rattle.std.proofs.Math.Pow.{pow-lt}
use Rattle.std.specs.Prelude.{if◌then◌else◌}
use Rattle.std.specs.Str.{bytes_eq}
use Rattle.std.specs.Int.{IsPowerOfTwo, ◌∣◌}
use Rattle.fact_types.specs.declared.extents.MemoryWidth.{MemoryWidth}
use Rattle.fact_types.specs.declared.extents.MemoryWidth.TheVariants.{Memory32, Memory64}
use Rattle.fact_types.specs.Fields.{Field, find, field_of}
use Rattle.fact_types.specs.FlatShapes.{flat, IsCounted, AreCounted}
use Rattle.fact_types.specs.Layout.{extent, extents, aligned, payload_offset, payloads, discriminant_size, discriminant_bytes}
use Rattle.fact_types.specs.Shapes.{k_record, k_variant, k_fixed, Shape, s_node, Members, no_members, bare, typed, layout_of, layouts_of, place_of, next_of}
use Rattle.fact_types.proofs.AlignLaws.{power_pos}
use Rattle.fact_types.proofs.PlaceLaws.{sound_in}
use Rattle.fact_values.specs.Limits.{CaseType, case_type, place_in}

-- the alignment of a value, and of a record of members
abbrev pub align_in : MemoryWidth → Shape → ℕ
align_in w s = (extent w (layout_of s)).align

abbrev pub record_align : MemoryWidth → Members → ℕ
record_align w ms = align_in w (s_node k_record ms)

pub power_divides : (a b : ℕ) → IsPowerOfTwo a → IsPowerOfTwo b → a ≤ b → a ∣ b
power_divides a b (i, e) (j, f) le =
    elim (cases_lt j i) [
      | inl lt ↦ absurd (let l = pow-lt lt in omega (arith, e, f, l))
      | inr more ↦
          let split : 2 ^ j ≡ 2 ^ (j - i) * 2 ^ i = ap (λ k. 2 ^ k) (omega (arith, more)) ∙ pow-add 2 (j - i) i in
          subst (λ x. x ∣ b) (sym e) (subst (λ x. 2 ^ i ∣ x) (sym (f ∙ split)) (dvd-mul_left (2 ^ i) (2 ^ (j - i))))
    ]

power_in : (w : MemoryWidth) (s : Shape) → IsPowerOfTwo (align_in w s)
power_in w s = (sound_in w s).power

-- the alignment of each of the members divides a number
abbrev pub Covers : MemoryWidth → ℕ → Members → Type 0
Covers w n no_members = Unit {0}
Covers w n (bare x ms) = Covers w n ms
Covers w n (typed x s ms) = (align_in w s ∣ n) × Covers w n ms

pub covers_more : (w : MemoryWidth) (m n : ℕ) (ms : Members) → m ∣ n → Covers w m ms → Covers w n ms
covers_more w m n no_members d h = tt
covers_more w m n (bare x ms) d h = covers_more w m n ms d h
covers_more w m n (typed x s ms) d h = (dvd_trans _ h.0 d, covers_more w m n ms d h.1)

head_least : (w : MemoryWidth) (x : List ℕ) (s : Shape) (ms : Members) → align_in w s ≤ record_align w (typed x s ms)
head_least Memory32 x s ms = le-max_left _ _
head_least Memory64 x s ms = le-max_left _ _

tail_least : (w : MemoryWidth) (x : List ℕ) (s : Shape) (ms : Members) → record_align w ms ≤ record_align w (typed x s ms)
tail_least Memory32 x s ms = le-max_right _ _
tail_least Memory64 x s ms = le-max_right _ _

bare_same : (w : MemoryWidth) (x : List ℕ) (ms : Members) → record_align w (bare x ms) ≡ record_align w ms
bare_same Memory32 x ms = refl
bare_same Memory64 x ms = refl

-- a record's alignment is a multiple of that of each member
pub covers_record : (w : MemoryWidth) (ms : Members) → Covers w (record_align w ms) ms
covers_record w no_members = tt
covers_record w (bare x ms) = subst (λ n. Covers w n ms) (sym (bare_same w x ms)) (covers_record w ms)
covers_record w (typed x s ms) = (
  power_divides _ _ (power_in w s) (power_in w (s_node k_record (typed x s ms))) (head_least w x s ms),
  covers_more w _ _ ms (power_divides _ _ (power_in w (s_node k_record ms)) (power_in w (s_node k_record (typed x s ms))) (tail_least w x s ms)) (covers_record w ms),
)

-- ---- places

-- the next multiple of an alignment is one
pub aligned_divides : (n a : ℕ) → a ∣ aligned n a
unfolding aligned
aligned_divides n a = dvd-mul_left a _

pub place_divides : (w : MemoryWidth) (s : Shape) (n : ℕ) → align_in w s ∣ place_of w s n
place_divides w s n = aligned_divides n (align_in w s)

-- a record's bytes are a multiple of its alignment
pub size_divides : (w : MemoryWidth) (ms : Members) → record_align w ms ∣ (extent w (layout_of (s_node k_record ms))).size
size_divides w ms = dvd_of_mod-eq-zero _ (sound_in w (s_node k_record ms)).divides

-- payloads begin at a multiple of the alignment of a record of them
pub offset_divides : (w : MemoryWidth) (d : ℕ) (ms : Members) → record_align w ms ∣ payload_offset d (extents w (payloads (layouts_of ms)))
offset_divides Memory32 d ms = aligned_divides d _
offset_divides Memory64 d ms = aligned_divides d _

-- and that divides the alignment of the sum
pub sum_divides : (w : MemoryWidth) (ms : Members) → record_align w ms ∣ align_in w (s_node k_variant ms)
sum_divides w ms = power_divides _ _ (power_in w (s_node k_record ms)) (power_in w (s_node k_variant ms)) (least w)
  where
    least : (w : MemoryWidth) → record_align w ms ≤ align_in w (s_node k_variant ms)
    least Memory32 = le-max_right (discriminant_bytes (discriminant_size (length (layouts_of ms)))) _
    least Memory64 = le-max_right (discriminant_bytes (discriminant_size (length (layouts_of ms)))) _

-- the elements of a list of fixed length, which have one type
pub fixed_divides : (w : MemoryWidth) (n : ℕ) (ms : Members) → length (layouts_of ms) ≡ 1 → record_align w ms ∣ align_in w (s_node (k_fixed n) ms)
fixed_divides w n no_members e = absurd (omega (arith, e))
fixed_divides w n (bare x no_members) e = subst (λ m. m ∣ align_in w (s_node (k_fixed n) (bare x no_members))) (one_is w) (one-dvd _)
  where
    one_is : (w : MemoryWidth) → 1 ≡ record_align w (bare x no_members)
    one_is Memory32 = refl
    one_is Memory64 = refl
fixed_divides w n (bare x (bare y ms)) e = absurd (omega (arith, e))
fixed_divides w n (bare x (typed y s ms)) e = absurd (omega (arith, e))
fixed_divides w n (typed x s no_members) e =
    power_divides _ _ (power_in w (s_node k_record (typed x s no_members))) (power_in w (s_node (k_fixed n) (typed x s no_members))) (least w)
  where
    least : (w : MemoryWidth) → record_align w (typed x s no_members) ≤ align_in w (s_node (k_fixed n) (typed x s no_members))
    least Memory32 = max-le (omega arith) (power_pos _ (power_in Memory32 s))
    least Memory64 = max-le (omega arith) (power_pos _ (power_in Memory64 s))
fixed_divides w n (typed x s (bare y ms)) e = absurd (omega (arith, e))
fixed_divides w n (typed x s (typed y t ms)) e = absurd (omega (arith, e))

-- ---- fields and cases

-- a field that was found stands at a multiple of its alignment, which divides what those of all members divide
pub record FieldFits (w : MemoryWidth) (n : ℕ) (f : Field) : Type 0 where
  pub place : align_in w f.shape ∣ place_in w f
  pub covered : align_in w f.shape ∣ n
  pub counted : IsCounted f.shape

unfoldable pub FitsField : MemoryWidth → ℕ → Option Field → Type 0
FitsField w n None = Unit {0}
FitsField w n (Some f) = FieldFits w n f

found_fits : (x : List ℕ) (w : MemoryWidth) (n : ℕ) (ms : Members) (f a b : ℕ) → Covers w n ms → AreCounted ms → FitsField w n (find x ms f a b)
unfolding FitsField
found_fits x w n no_members f a b h k = tt
found_fits x w n (bare y ms) f a b h k = found_fits x w n ms f a b h k
found_fits x w n (typed y s ms) f a b h k =
    by_name (bytes_eq y x) _ (found_fits x w n ms (f + length (flat Memory32 s)) (next_of Memory32 s a) (next_of Memory64 s b) h.1 k.1)
  where
    here : Field
    here = record { shape = s; flat_place = f; place32 = place_of Memory32 s a; place64 = place_of Memory64 s b }

    stands : (w : MemoryWidth) → align_in w s ∣ place_in w here
    stands Memory32 = place_divides Memory32 s a
    stands Memory64 = place_divides Memory64 s b

    by_name : (c : Bool) (later : Option Field) → FitsField w n later → FitsField w n (if c then Some here else later)
    by_name true later g = record { place = stands w; covered = h.0; counted = k.0 }
    by_name false later g = g

pub field_fits : (x : List ℕ) (w : MemoryWidth) (n : ℕ) (ms : Members) → Covers w n ms → AreCounted ms → FitsField w n (field_of x ms)
field_fits x w n ms h k = found_fits x w n ms 0 0 0 h k

-- the payload of a case
unfoldable pub PayloadFits : MemoryWidth → ℕ → Option Shape → Type 0
PayloadFits w n None = Unit {0}
PayloadFits w n (Some s) = (align_in w s ∣ n) × IsCounted s

unfoldable pub CaseFits : MemoryWidth → ℕ → Option CaseType → Type 0
CaseFits w n None = Unit {0}
CaseFits w n (Some c) = PayloadFits w n c.payload

pub case_fits : (w : MemoryWidth) (n : ℕ) (ms : Members) (i : ℕ) → Covers w n ms → AreCounted ms → CaseFits w n (case_type ms i)
unfolding PayloadFits CaseFits
case_fits w n no_members i h k = tt
case_fits w n (bare x ms) zero h k = tt
case_fits w n (bare x ms) (suc i) h k = case_fits w n ms i h k
case_fits w n (typed x s ms) zero h k = (h.0, k.0)
case_fits w n (typed x s ms) (suc i) h k = case_fits w n ms i h.1 k.1
