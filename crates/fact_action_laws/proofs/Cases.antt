-- Cases of variants: where they stand, and what is read of them.
use Rattle.std.proofs.Common.{◌≡◌, ℕ, zero, suc, ◌+◌, ◌^◌, ◌≤◌, max, Bool, true, false, List, [], ◌∷◌, Option, Some, None, refl, sym, ap, arith, lit≤}
use Rattle.std.specs.Prelude.{option_map, nat_le, nat_eq, if◌then◌else◌}
use Rattle.std.proofs.lemmas.Bool.{leb-true}
use Rattle.fact_types.specs.declared.extents.Extent.{Extent}
use Rattle.fact_types.specs.declared.sizes.DiscriminantSize.TheVariants.{Size1 as one_byte, Size2 as two_bytes, Size4 as four_bytes}
use Rattle.fact_types.specs.declared.extents.MemoryWidth.{MemoryWidth}
use Rattle.fact_types.specs.declared.extents.MemoryWidth.TheVariants.{Memory32, Memory64}
use Rattle.fact_types.specs.Layout.{extent, extents, payloads, payload_offset, greatest_align, greatest_size, discriminant_size, discriminant_bytes, variant_extent}
use Rattle.fact_types.specs.Shapes.{k_variant, Shape, s_node, Members, no_members, bare, typed, layout_of, layouts_of}
use Rattle.fact_types.proofs.AlignLaws.{aligned_bounds, inside_tagged}
use Rattle.fact_types.proofs.FieldLaws.{greatest_align_pos}
use Rattle.fact_types.proofs.ShapeLaws.{same_some, none_some}
use Rattle.fact_machine.specs.declared.types.CoreValue.{CoreValue}
use Rattle.fact_values.specs.Limits.{CaseType, case_type}
use Rattle.fact_values.specs.Places.{count_of_members, case_bytes, payload_place}
use Rattle.fact_actions.specs.Sides.{LiftLowerOptions, width_of_side, side_abi}
use Rattle.fact_values.specs.declared.side.SideAbi.{SideAbi}
use Rattle.fact_values.specs.declared.value.Value.{Value}
use Rattle.fact_values.specs.declared.value.Value.TheVariants as value
use Rattle.fact_values.specs.Lift.{lift_leading, lift_case}
use Rattle.fact_values.specs.Load.{load, load_case}
use Rattle.fact_action_laws.proofs.Products.{mapped}

-- ---- discriminants

pub count_same : (ms : Members) → count_of_members ms ≡ count_of_members ms
count_same no_members = refl
count_same (bare n ms) = ap suc (count_same ms)
count_same (typed n s ms) = ap suc (count_same ms)

pub tag_same : (ms : Members) → case_bytes ms ≡ case_bytes ms
tag_same ms = ap (λ n. discriminant_bytes (discriminant_size n)) (count_same ms)

pub place_same : (o : LiftLowerOptions) (ms : Members) → payload_place (side_abi o) ms ≡ payload_offset (case_bytes ms) (extents (width_of_side o) (payloads (layouts_of ms)))
place_same o ms = ap (λ d. payload_offset d (extents (width_of_side o) (payloads (layouts_of ms)))) (tag_same ms)

-- the bytes of a discriminant tell the cases apart
pub record IsTag (n d : ℕ) : Type 0 where
  pub tells : n ≤ 2 ^ 32 → n ≤ 256 ^ d
  pub small : 256 ^ d ≤ 2 ^ 32
  pub narrow : nat_eq d 8 ≡ false

pub tag_is : (n : ℕ) → IsTag n (discriminant_bytes (discriminant_size n))
tag_is n = go (nat_le n 256) (nat_le n 65536) refl refl
  where
    go : (a b : Bool) → nat_le n 256 ≡ a → nat_le n 65536 ≡ b → IsTag n (discriminant_bytes (if a then one_byte else (if b then two_bytes else four_bytes)))
    go true b e f = let le : n ≤ 256 = leb-true n 256 e in record { tells = λ h. le; small = lit≤ tt; narrow = refl }
    go false true e f = let le : n ≤ 65536 = leb-true n 65536 f in record { tells = λ h. le; small = lit≤ tt; narrow = refl }
    go false false e f = record { tells = λ h. h; small = lit≤ tt; narrow = refl }

-- ---- payloads lie within

left_most : (a b : ℕ) → a ≤ max a b
left_most a b = grind arith

right_most : (a b : ℕ) → b ≤ max a b
right_most a b = grind arith

-- the bytes of each payload are no more than the greatest
abbrev pub AreAtMost : MemoryWidth → ℕ → Members → Type 0
AreAtMost w n no_members = Unit {0}
AreAtMost w n (bare x ms) = AreAtMost w n ms
AreAtMost w n (typed x s ms) = ((extent w (layout_of s)).size ≤ n) × AreAtMost w n ms

pub at_most : (w : MemoryWidth) (n : ℕ) (ms : Members) → greatest_size (extents w (payloads (layouts_of ms))) ≤ n → AreAtMost w n ms
at_most w n no_members h = tt
at_most w n (bare x ms) h = at_most w n ms h
at_most w n (typed x s ms) h =
    let a = (extent w (layout_of s)).size in
    let b = greatest_size (extents w (payloads (layouts_of ms))) in
    (omega (arith, h, left_most a b), at_most w n ms (omega (arith, h, right_most a b)))

-- a variant: its discriminant, and behind it its payloads
pub record IsVariantPlace (d offset greatest size : ℕ) : Type 0 where
  pub behind : d ≤ offset
  pub within : offset + greatest ≤ size

variant_within : (d : ℕ) (ps : List Extent) → IsVariantPlace d (payload_offset d ps) (greatest_size ps) (variant_extent d ps).size
variant_within d ps = record { behind = (aligned_bounds d (greatest_align ps) (greatest_align_pos ps)).0; within = inside_tagged d (greatest_size ps) (greatest_align ps) (greatest_align_pos ps) }

pub variant_place : (w : MemoryWidth) (ms : Members) → IsVariantPlace (case_bytes ms) (payload_offset (case_bytes ms) (extents w (payloads (layouts_of ms)))) (greatest_size (extents w (payloads (layouts_of ms)))) (extent w (layout_of (s_node k_variant ms))).size
variant_place Memory32 ms = variant_within (case_bytes ms) (extents Memory32 (payloads (layouts_of ms)))
variant_place Memory64 ms = variant_within (case_bytes ms) (extents Memory64 (payloads (layouts_of ms)))

-- ---- what is read

-- the case of a number, with what is read of its payload
abbrev pub case_by : (Shape → Option Value) → Members → ℕ → Option Value
case_by read no_members x = None
case_by read (bare n ms) zero = Some (value.Case n [])
case_by read (typed n s ms) zero = option_map (λ w. value.Case n (w ∷ [])) (read s)
case_by read (bare n ms) (suc x) = case_by read ms x
case_by read (typed n s ms) (suc x) = case_by read ms x

pub loads_by : (side : SideAbi) (bytes : List ℕ) (ms : Members) (x a : ℕ) → load_case side bytes ms x a ≡ case_by (λ s. load side bytes s a) ms x
unfolding load load_case
loads_by side bytes no_members x a = refl
loads_by side bytes (bare n ms) zero a = refl
loads_by side bytes (bare n ms) (suc x) a = loads_by side bytes ms x a
loads_by side bytes (typed n s ms) zero a = refl
loads_by side bytes (typed n s ms) (suc x) a = loads_by side bytes ms x a

pub lifts_by : (side : SideAbi) (bytes : List ℕ) (ms : Members) (x : ℕ) (cs : List CoreValue) → lift_case side bytes ms x cs ≡ case_by (λ s. lift_leading side bytes s cs) ms x
unfolding lift_leading lift_case
lifts_by side bytes no_members x cs = refl
lifts_by side bytes (bare n ms) zero cs = refl
lifts_by side bytes (bare n ms) (suc x) cs = lifts_by side bytes ms x cs
lifts_by side bytes (typed n s ms) zero cs = refl
lifts_by side bytes (typed n s ms) (suc x) cs = lifts_by side bytes ms x cs

-- a payload that was read
abbrev pub IsPayload : (Shape → Option Value) → Option Shape → List Value → Type 0
IsPayload read None ps = ps ≡ []
IsPayload read (Some s) ps = (w : Value) × (ps ≡ w ∷ []) × (read s ≡ Some w)

pub record IsCase (read : Shape → Option Value) (ms : Members) (x : ℕ) (v : Value) : Type 0 where
  pub case : CaseType
  pub at : case_type ms x ≡ Some case
  pub payload : List Value
  pub is : v ≡ value.Case case.name payload
  pub read_as : IsPayload read case.payload payload

pub case_is : (read : Shape → Option Value) (ms : Members) (x : ℕ) (v : Value) → case_by read ms x ≡ Some v → IsCase read ms x v
case_is read no_members x v h = absurd (none_some None v refl h)
case_is read (bare n ms) zero v h =
    record { case = record { name = n; payload = None }; at = refl; payload = []; is = same_some (Some v) v (value.Case n []) refl (sym h); read_as = refl }
case_is read (bare n ms) (suc x) v h = let r = case_is read ms x v h in record { case = r.case; at = r.at; payload = r.payload; is = r.is; read_as = r.read_as }
case_is read (typed n s ms) zero v h =
    let m = mapped (read s) (λ w. value.Case n (w ∷ [])) v h in
    record { case = record { name = n; payload = Some s }; at = refl; payload = m.mid ∷ []; is = sym m.is; read_as = (m.mid, refl, m.first) }
case_is read (typed n s ms) (suc x) v h = let r = case_is read ms x v h in record { case = r.case; at = r.at; payload = r.payload; is = r.is; read_as = r.read_as }
