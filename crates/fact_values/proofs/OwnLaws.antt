-- A value that stands whole at its place is read from its own bytes alone.
use Rattle.std.proofs.Common.{◌≡◌, ℕ, zero, suc, ◌+◌, ◌*◌, ◌<◌, ◌≤◌, max, List, [], ◌∷◌, length, take, drop, Option, Some, None, refl, sym, ap, ◌∙◌, subst, arith}
use Rattle.std.specs.Prelude.{option_map, nat_le, if◌then◌else◌}
use Rattle.std.specs.List.{zip}
use Rattle.std.proofs.Math.Seq.{drop-nil}
use Rattle.std.proofs.lemmas.List.{take-take, drop-take}
use Rattle.fact_machine.specs.World.{number_of}
use Rattle.std.proofs.Common.{replicate}
use Rattle.std.proofs.Math.Nat.{mul_comm}
use Rattle.fact_types.specs.declared.abi.CanonicalAbiInfo.{CanonicalAbiInfo}
use Rattle.fact_types.specs.declared.interface.InterfaceType.{InterfaceType}
use Rattle.fact_types.specs.declared.extents.Extent.{Extent}
use Rattle.fact_types.specs.declared.extents.MemoryWidth.{MemoryWidth}
use Rattle.fact_types.specs.declared.extents.MemoryWidth.TheVariants.{Memory32, Memory64}
use Rattle.fact_types.specs.Agrees.{names_of}
use Rattle.fact_types.specs.Layout.{extent, extents, payloads, payload_offset, greatest_size, greatest_align, variant_extent, variant_layout, scalar_layout}
use Rattle.fact_types.specs.Shapes.{Kind, k_record, k_tuple, k_variant, k_option, k_result, k_enum, k_list, k_map, k_fixed, k_flags, k_future, k_stream, Shape, s_plain, s_node, Members, no_members, bare, typed, layout_of, layouts_of, place_of, next_of, ends_of}
use Rattle.fact_types.specs.Options.{◌>>=◌}
use Rattle.fact_types.proofs.AlignLaws.{aligned_bounds}
use Rattle.fact_types.proofs.FieldLaws.{greatest_align_pos}
use Rattle.fact_types.proofs.PlaceLaws.{ends_grow, ends_within}
use Rattle.fact_values.specs.declared.side.SideAbi.{SideAbi}
use Rattle.fact_values.specs.declared.value.HandleKind.TheVariants.{Future, Stream}
use Rattle.fact_values.specs.declared.value.Value.{Value}
use Rattle.fact_values.specs.declared.value.Value.TheVariants as value
use Rattle.fact_values.specs.Formed.{AreBare}
use Rattle.fact_values.specs.Load.{load, load_members, load_case, load_plain, load_variant}
use Rattle.fact_values.specs.Numbers.{Plain, text, plain_of, value_of_number, flags_of_number, number_in}
use Rattle.fact_values.specs.Own.{StandsWhole, StandWhole, StandsWholePlain, SameBytes}
use Rattle.fact_values.specs.Places.{width_of, extent_on, case_bytes, payload_place, flags_bytes, typed_names, each_at}

-- ---- parts of the same bytes

drop_drop : (a k : ℕ) (xs : List ℕ) → drop (a + k) xs ≡ drop k (drop a xs)
drop_drop zero k xs = ap (λ n. drop n xs) (let e : zero + k ≡ k = omega arith in e)
drop_drop (suc a) k [] = drop-nil (suc a + k) ∙ sym (drop-nil k)
drop_drop (suc a) k (x ∷ xs) = ap (λ n. drop n (x ∷ xs)) (let e : suc a + k ≡ suc (a + k) = omega arith in e) ∙ drop_drop a k xs

part_of : (a k m n : ℕ) (xs : List ℕ) → k + m ≤ n → take m (drop (a + k) xs) ≡ drop k (take (k + m) (take n (drop a xs)))
part_of a k m n xs le = ap (take m) (drop_drop a k xs) ∙ sym (drop-take k m (drop a xs)) ∙ ap (drop k) (sym (take-take (k + m) n (drop a xs) le))

same_part : (xs ys : List ℕ) (a k m n : ℕ) → k + m ≤ n → SameBytes xs ys a n → SameBytes xs ys (a + k) m
same_part xs ys a k m n le g = record { long = g.long; same = part_of a k m n xs le ∙ ap (λ zs. drop k (take (k + m) zs)) g.same ∙ sym (part_of a k m n ys le) }

same_front : (xs ys : List ℕ) (a m n : ℕ) → m ≤ n → SameBytes xs ys a n → SameBytes xs ys a m
same_front xs ys a m n le g = subst (λ b. SameBytes xs ys b m) (omega arith) (same_part xs ys a 0 m n (omega (arith, le)) g)

same_number : (xs ys : List ℕ) (a n : ℕ) → SameBytes xs ys a n → number_in xs n a ≡ number_in ys n a
same_number xs ys a n g = (λ i. if nat_le (a + n) (g.long i) then Some (number_of (g.same i)) else None)

same_number_in : (xs ys : List ℕ) (a m n : ℕ) → m ≤ n → SameBytes xs ys a n → number_in xs m a ≡ number_in ys m a
same_number_in xs ys a m n le g = same_number xs ys a m (same_front xs ys a m n le g)

-- ---- sizes

variant_is : (w : MemoryWidth) (ms : Members) → extent w (variant_layout (layouts_of ms)) ≡ variant_extent (case_bytes ms) (extents w (payloads (layouts_of ms)))
variant_is Memory32 ms = refl
variant_is Memory64 ms = refl

variant_sizes : (d : ℕ) (es : List Extent) → (d ≤ (variant_extent d es).size) × (payload_offset d es + greatest_size es ≤ (variant_extent d es).size)
variant_sizes d es =
    let pos : 0 < max d (greatest_align es) = omega (arith, greatest_align_pos es) in
    let all = (aligned_bounds (payload_offset d es + greatest_size es) (max d (greatest_align es)) pos).0 in
    let start = (aligned_bounds d (greatest_align es) (greatest_align_pos es)).0 in
    (omega (arith, all, start), all)

fixed_size : (w : MemoryWidth) (n : ℕ) (x : List ℕ) (s : Shape) (ms : Members) → (extent w (layout_of (s_node (k_fixed n) (typed x s ms)))).size ≡ n * (extent w (layout_of s)).size
fixed_size Memory32 n x s ms = mul_comm (extent Memory32 (layout_of s)).size n
fixed_size Memory64 n x s ms = mul_comm (extent Memory64 (layout_of s)).size n

flags_are : (w : MemoryWidth) (ms : Members) → (extent w (layout_of (s_node k_flags ms))).size ≡ flags_bytes ms
flags_are Memory32 ms = refl
flags_are Memory64 ms = refl

handle_size : (w : MemoryWidth) (k : Kind) (ms : Members) → layout_of (s_node k ms) ≡ scalar_layout 4 → (extent w (layout_of (s_node k ms))).size ≡ 4
handle_size Memory32 k ms e = ap (λ (l : CanonicalAbiInfo). l.size32) e
handle_size Memory64 k ms e = ap (λ (l : CanonicalAbiInfo). l.size64) e

bare_layouts : (ms : Members) → AreBare ms → replicate (length (layouts_of ms)) None ≡ layouts_of ms
bare_layouts no_members h = refl
bare_layouts (bare n ms) h = ap (λ ls. None ∷ ls) (bare_layouts ms h)
bare_layouts (typed n s ms) h = absurd h

enum_is : (w : MemoryWidth) (ms : Members) → AreBare ms → extent w (layout_of (s_node k_enum ms)) ≡ variant_extent (case_bytes ms) (extents w (payloads (layouts_of ms)))
enum_is w ms h = ap (λ ls. extent w (variant_layout ls)) (bare_layouts ms h) ∙ variant_is w ms

bare_whole : (ms : Members) → AreBare ms → StandWhole ms
bare_whole no_members h = tt
bare_whole (bare n ms) h = bare_whole ms h
bare_whole (typed n s ms) h = absurd h

-- ---- values

module _ (side : SideAbi) (xs ys : List ℕ) where
  same_plain : (p : InterfaceType) (k : Plain) (a : ℕ) → StandsWholePlain k → SameBytes xs ys a (extent_on side (s_plain p)).size → load_plain side xs p k a ≡ load_plain side ys p k a
  same_plain p text a h g = absurd h
  same_plain p k a h g = ap (λ o. o >>= (λ n. value_of_number k n)) (same_number xs ys a (extent_on side (s_plain p)).size g)

  -- a variant whose case is read alike
  same_variant : (ms : Members) (a size : ℕ) → size ≡ (variant_extent (case_bytes ms) (extents (width_of side) (payloads (layouts_of ms)))).size → SameBytes xs ys a size
      → ((x b m : ℕ) → greatest_size (extents (width_of side) (payloads (layouts_of ms))) ≤ m → SameBytes xs ys b m → load_case side xs ms x b ≡ load_case side ys ms x b)
      → load_variant side xs ms (λ x b. load_case side xs ms x b) a ≡ load_variant side ys ms (λ x b. load_case side ys ms x b) a
  same_variant ms a size is g each =
      let es : List Extent = extents (width_of side) (payloads (layouts_of ms)) in
      let sizes = variant_sizes (case_bytes ms) es in
      let part = same_part xs ys a (payload_place side ms) (greatest_size es) size (omega (arith, sizes.1, is)) g in
      ap (λ o. o >>= (λ x. load_case side xs ms x (a + payload_place side ms))) (same_number_in xs ys a (case_bytes ms) size (omega (arith, sizes.0, is)) g)
      ∙ same_then (number_in ys (case_bytes ms) a) (λ x. each x (a + payload_place side ms) (greatest_size es) (omega arith) part)
    where
      same_then : {f g : ℕ → Option Value} (o : Option ℕ) → ((x : ℕ) → f x ≡ g x) → o >>= f ≡ o >>= g
      same_then None h = refl
      same_then (Some x) h = h x

  same_each : (f g : ℕ → Option Value) (count stride a : ℕ) → ((b : ℕ) → SameBytes xs ys b stride → f b ≡ g b) → SameBytes xs ys a (count * stride) → each_at count stride f a ≡ each_at count stride g a
  same_each f g zero stride a each h = refl
  same_each f g (suc count) stride a each h =
      let rest = same_each f g count stride (a + stride) each (same_part xs ys a stride (count * stride) (suc count * stride) (omega arith) h) in
      (λ i. each a (same_front xs ys a stride (suc count * stride) (omega arith) h) i >>= (λ v. rest i >>= (λ vs. Some (v ∷ vs))))

  mutual
    unfolding load

    pub same_value : (s : Shape) (a : ℕ) → StandsWhole s → SameBytes xs ys a (extent_on side s).size → load side xs s a ≡ load side ys s a
    same_value (s_plain p) a h g = same_plain p (plain_of p) a h g
    same_value (s_node k_record ms) a h g = ap (option_map (λ vs. value.Record (zip (typed_names ms) vs))) (same_members ms a 0 (extent_on side (s_node k_record ms)).size h (ends_within (width_of side) ms) g)
    same_value (s_node k_tuple ms) a h g = ap (option_map (λ vs. value.Tuple vs)) (same_members ms a 0 (extent_on side (s_node k_tuple ms)).size h (ends_within (width_of side) ms) g)
    same_value (s_node k_list ms) a h g = absurd h
    same_value (s_node k_map ms) a h g = absurd h
    same_value (s_node (k_fixed n) no_members) a h g = refl
    same_value (s_node (k_fixed n) (bare x ms)) a h g = refl
    same_value (s_node (k_fixed n) (typed x s ms)) a h g =
        ap (option_map (λ vs. value.List vs)) (same_each (λ b. load side xs s b) (λ b. load side ys s b) n (extent_on side s).size a (λ b k. same_value s b h.0 k) (subst (λ m. SameBytes xs ys a m) (fixed_size (width_of side) n x s ms) g))
    same_value (s_node k_flags ms) a h g = ap (option_map (λ n. value.Flags (flags_of_number (names_of ms) n))) (same_number xs ys a (flags_bytes ms) (subst (λ m. SameBytes xs ys a m) (flags_are (width_of side) ms) g))
    same_value (s_node k_variant ms) a h g = same_variant ms a _ (ap (λ (x : Extent). x.size) (variant_is (width_of side) ms)) g (λ x b m le k. same_case ms x b m h le k)
    same_value (s_node k_enum ms) a h g = same_variant ms a _ (ap (λ (x : Extent). x.size) (enum_is (width_of side) ms h)) g (λ x b m le k. same_case ms x b m (bare_whole ms h) le k)
    same_value (s_node k_option ms) a h g = same_variant ms a _ (ap (λ (x : Extent). x.size) (variant_is (width_of side) ms)) g (λ x b m le k. same_case ms x b m h le k)
    same_value (s_node k_result ms) a h g = same_variant ms a _ (ap (λ (x : Extent). x.size) (variant_is (width_of side) ms)) g (λ x b m le k. same_case ms x b m h le k)
    same_value (s_node (k_future table instance) ms) a h g = ap (option_map (λ n. value.Handle Future table n)) (same_number xs ys a 4 (subst (λ m. SameBytes xs ys a m) (handle_size (width_of side) (k_future table instance) ms refl) g))
    same_value (s_node (k_stream table instance) ms) a h g = ap (option_map (λ n. value.Handle Stream table n)) (same_number xs ys a 4 (subst (λ m. SameBytes xs ys a m) (handle_size (width_of side) (k_stream table instance) ms refl) g))

    same_members : (ms : Members) (a n m : ℕ) → StandWhole ms → ends_of (width_of side) ms n ≤ m → SameBytes xs ys a m → load_members side xs ms a n ≡ load_members side ys ms a n
    same_members no_members a n m h le g = refl
    same_members (bare x ms) a n m h le g = same_members ms a n m h le g
    same_members (typed x s ms) a n m h le g =
        let rest = same_members ms a (next_of (width_of side) s n) m h.1 le g in
        let first = same_value s (a + place_of (width_of side) s n) h.0 (same_part xs ys a (place_of (width_of side) s n) (extent_on side s).size m (omega (arith, le, ends_grow (width_of side) ms (next_of (width_of side) s n))) g) in
        (λ i. first i >>= (λ v. rest i >>= (λ vs. Some (v ∷ vs))))

    same_case : (ms : Members) (x a m : ℕ) → StandWhole ms → greatest_size (extents (width_of side) (payloads (layouts_of ms))) ≤ m → SameBytes xs ys a m → load_case side xs ms x a ≡ load_case side ys ms x a
    same_case no_members x a m h le g = refl
    same_case (bare n ms) zero a m h le g = refl
    same_case (bare n ms) (suc x) a m h le g = same_case ms x a m h le g
    same_case (typed n s ms) zero a m h le g = ap (option_map (λ w. value.Case n (w ∷ []))) (same_value s a h.0 (same_front xs ys a (extent_on side s).size m (omega (arith, le)) g))
    same_case (typed n s ms) (suc x) a m h le g = same_case ms x a m h.1 (omega (arith, le)) g
