-- Discriminants, and payloads behind them, in a width of memory.
use Rattle.std.proofs.Common.{◌≡◌, ℕ, zero, suc, ◌≤◌, List, [], length, map, replicate, Option, Some, None, refl, arith, ap, ◌∙◌}
use Rattle.std.proofs.lemmas.List.{length-replicate}
use Rattle.fact_types.specs.declared.abi.CanonicalAbiInfo.{CanonicalAbiInfo}
use Rattle.fact_types.specs.declared.extents.Extent.{Extent}
use Rattle.fact_types.specs.declared.extents.MemoryWidth.{MemoryWidth}
use Rattle.fact_types.specs.declared.sizes.DiscriminantSize.{DiscriminantSize}
use Rattle.fact_types.specs.declared.sizes.DiscriminantSize.TheVariants.{Size1, Size2, Size4}
use Rattle.fact_types.specs.Flat.{add_flat, flat_greatest}
use Rattle.fact_types.specs.Layout.{layout, scalar_layout, enum_layout, extents, aligned, greatest_align, greatest_size, payloads, payload_offset, discriminant_size, discriminant_bytes, variant_extent}
use Rattle.fact_types.specs.Fits.{CasesFit}
use Rattle.fact_types.proofs.AlignLaws.{inside_tagged}
use Rattle.fact_types.proofs.FieldLaws.{greatest_align_pos}

-- the payload of a variant that fits begins within bounds
pub payload_fits : (w : MemoryWidth) (cs : List (Option CanonicalAbiInfo)) → CasesFit w cs
    → payload_offset (discriminant_bytes (discriminant_size (length cs))) (extents w (payloads cs)) ≤ 4294967295
payload_fits w cs fit =
    let es = extents w (payloads cs) in
    let d = discriminant_bytes (discriminant_size (length cs)) in
    omega (arith, inside_tagged d (greatest_size es) (greatest_align es) (greatest_align_pos es), fit.within)

payloads-replicate : (n : ℕ) → payloads {A = CanonicalAbiInfo} (replicate n None) ≡ []
payloads-replicate zero = refl
payloads-replicate (suc n) = payloads-replicate n

-- a discriminant alone
scalar_extent : (s : DiscriminantSize) → variant_extent (discriminant_bytes s) [] ≡ record { size = discriminant_bytes s; align = discriminant_bytes s }
unfolding aligned
scalar_extent Size1 = refl
scalar_extent Size2 = refl
scalar_extent Size4 = refl

-- the layout of variants by the number of cases and the payloads
abbrev by_parts : ℕ → List CanonicalAbiInfo → CanonicalAbiInfo
by_parts n ps = layout (λ w. variant_extent (discriminant_bytes (discriminant_size n)) (extents w ps)) (add_flat (Some 1) (flat_greatest (map (λ p. p.flat_count) ps)))

-- an enum is stored and passed as its discriminant is
pub enum_is_scalar : (n : ℕ) → enum_layout n ≡ scalar_layout (discriminant_bytes (discriminant_size n))
enum_is_scalar n =
    ap (λ (k : ℕ). by_parts k (payloads {A = CanonicalAbiInfo} (replicate n None))) (length-replicate n None)
    ∙ ap (by_parts n) (payloads-replicate n)
    ∙ ap (λ (e : Extent). layout (λ w. e) (Some 1)) (scalar_extent (discriminant_size n))
