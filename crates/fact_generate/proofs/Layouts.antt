-- How large the values of generated types are, and how deep the types nest.
use Rattle.std.proofs.Common.{ℕ, zero, suc, ◌+◌, ◌*◌, ◌<◌, ◌≤◌, max, Bool, true, false, [], ◌∷◌, arith, inl, inr}
use Rattle.fact_types.specs.declared.abi.CanonicalAbiInfo.{CanonicalAbiInfo}
use Rattle.fact_types.specs.declared.extents.Extent.{Extent}
use Rattle.fact_types.specs.declared.extents.MemoryWidth.{MemoryWidth}
use Rattle.fact_types.specs.declared.extents.MemoryWidth.TheVariants.{Memory32, Memory64}
use Rattle.fact_types.specs.Layout.{aligned, extent, pointer_pair_layout, record_extent}
use Rattle.fact_types.specs.Shapes.{Shape, layout_of}
use Rattle.fact_types.specs.Valid.{nesting}
use Rattle.fact_types.proofs.AlignLaws.{aligned_bounds}
use Rattle.fact_plan_types.specs.TypeRules.{IsEntryPast, IsPast, IsTooLarge, tuple_layout}
use Rattle.fact_generate.specs.declared.form.AdapterForm.{AdapterForm}
use Rattle.fact_generate.specs.declared.form.AdapterForm.TheVariants as form
use Rattle.fact_generate.specs.Linked.{list_shape, nest_shape, option_shape, params_shaped, record_shape, result_shape, results_shaped, variant_shape}
use Rattle.fact_generate.proofs.Counts.{IsShallow}

-- ---- few bytes

-- at most so many bytes, at places that are multiples of 8 at most
record IsNestLayout (m : ℕ) (e : Extent) : Type 0 where
  pub size : e.size ≤ m
  pub low : 0 < e.align
  pub high : e.align ≤ 8

rounded : (n a : ℕ) → 0 < a → a ≤ 8 → aligned n a ≤ n + 8
rounded n a p l = let b = aligned_bounds n a p in omega (arith, b.1, l)

-- one field, and two of them
one-small : (m : ℕ) (a : Extent) → IsNestLayout m a → (record_extent (a ∷ [])).size ≤ m + 16
one-small m a h =
    let first = rounded 0 a.align h.low h.high in
    let whole = rounded (aligned 0 a.align + a.size) (max a.align 1) (omega (arith, h.low)) (omega (arith, h.high)) in
    omega (arith, first, whole, h.size)

two-small : (m n : ℕ) (a b : Extent) → IsNestLayout m a → IsNestLayout n b → IsNestLayout (m + n + 24) (record_extent (a ∷ b ∷ []))
two-small m n a b h k =
    let high : max a.align (max b.align 1) ≤ 8 = omega (arith, h.high, k.high) in
    let low : 0 < max a.align (max b.align 1) = omega (arith, h.low) in
    let first = rounded 0 a.align h.low h.high in
    let second = rounded (aligned 0 a.align + a.size) b.align k.low k.high in
    let whole = rounded (aligned (aligned 0 a.align + a.size) b.align + b.size) (max a.align (max b.align 1)) low high in
    record { size = omega (arith, first, second, whole, h.size, k.size); low = low; high = high }

pointers-small : (w : MemoryWidth) → IsNestLayout 16 (extent w pointer_pair_layout)
pointers-small Memory32 = record { size = omega arith; low = omega arith; high = omega arith }
pointers-small Memory64 = record { size = omega arith; low = omega arith; high = omega arith }

-- one list and one tuple more
more-small : (d : ℕ) (e : Extent) → IsNestLayout (4 + 40 * d + 16 + 24) e → IsNestLayout (4 + 40 * suc d) e
more-small d e h = record { size = omega (arith, h.size); low = h.low; high = h.high }

nest-small : (w : MemoryWidth) (d : ℕ) → IsNestLayout (4 + 40 * d) (extent w (layout_of (nest_shape d)))
nest-small Memory32 zero = record { size = omega arith; low = omega arith; high = omega arith }
nest-small Memory64 zero = record { size = omega arith; low = omega arith; high = omega arith }
nest-small Memory32 (suc d) = more-small d (record_extent (extent Memory32 (layout_of (nest_shape d)) ∷ extent Memory32 pointer_pair_layout ∷ [])) (two-small (4 + 40 * d) 16 (extent Memory32 (layout_of (nest_shape d))) (extent Memory32 pointer_pair_layout) (nest-small Memory32 d) (pointers-small Memory32))
nest-small Memory64 (suc d) = more-small d (record_extent (extent Memory64 (layout_of (nest_shape d)) ∷ extent Memory64 pointer_pair_layout ∷ [])) (two-small (4 + 40 * d) 16 (extent Memory64 (layout_of (nest_shape d))) (extent Memory64 pointer_pair_layout) (nest-small Memory64 d) (pointers-small Memory64))

not-past : (c : CanonicalAbiInfo) → c.size32 ≤ 1000 → c.size64 ≤ 1000 → IsPast c → ⊥
not-past c a b h = elim h [ inl l ↦ omega (arith, a, l) | inr l ↦ omega (arith, b, l) ]

-- ---- types

not-large : (s : Shape) → (layout_of s).size32 ≤ 1000 → (layout_of s).size64 ≤ 1000 → (IsEntryPast s → ⊥) → nesting s ≤ 100 → IsTooLarge s → ⊥
not-large s a b e n h = elim h [ inl l ↦ not-past (layout_of s) a b l | inr r ↦ elim r [ inl p ↦ e p | inr d ↦ omega (arith, n, d) ] ]

pub record-fits : (lifts : Bool) → IsTooLarge (record_shape lifts) → ⊥
unfolding aligned
record-fits false = not-large (record_shape false) (omega arith) (omega arith) (λ h. h) (omega arith)
record-fits true = not-large (record_shape true) (omega arith) (omega arith) (λ h. h) (omega arith)

pub variant-fits : (lifts : Bool) → IsTooLarge (variant_shape lifts) → ⊥
unfolding aligned
variant-fits false = not-large (variant_shape false) (omega arith) (omega arith) (λ h. h) (omega arith)
variant-fits true = not-large (variant_shape true) (omega arith) (omega arith) (λ h. h) (omega arith)

pub option-fits : IsTooLarge option_shape → ⊥
unfolding aligned
option-fits = not-large option_shape (omega arith) (omega arith) (λ h. h) (omega arith)

pub result-fits : IsTooLarge result_shape → ⊥
unfolding aligned
result-fits = not-large result_shape (omega arith) (omega arith) (λ h. h) (omega arith)

pub list-fits : (s : Shape) → nesting s ≤ 99 → IsTooLarge (list_shape s) → ⊥
list-fits s n = not-large (list_shape s) (omega arith) (omega arith) (λ h. h) (omega (arith, n))

pub nest-nesting : (d : ℕ) → nesting (nest_shape d) ≤ 2 * d + 1
nest-nesting zero = omega arith
nest-nesting (suc d) = omega (arith, nest-nesting d)

pub nest-fits : (d : ℕ) → suc d ≤ 10 → IsTooLarge (nest_shape (suc d)) → ⊥
nest-fits d l =
    let a = nest-small Memory32 (suc d) in
    let b = nest-small Memory64 (suc d) in
    let n = nest-nesting (suc d) in
    not-large (nest_shape (suc d)) (omega (arith, a.size, l)) (omega (arith, b.size, l)) (λ h. h) (omega (arith, n, l))

-- ---- parameters and results

nest-tuple-fits : (d : ℕ) → d ≤ 10 → IsPast (tuple_layout (nest_shape d ∷ [])) → ⊥
nest-tuple-fits d l =
    let a = one-small (4 + 40 * d) (extent Memory32 (layout_of (nest_shape d))) (nest-small Memory32 d) in
    let b = one-small (4 + 40 * d) (extent Memory64 (layout_of (nest_shape d))) (nest-small Memory64 d) in
    not-past (tuple_layout (nest_shape d ∷ [])) (omega (arith, a, l)) (omega (arith, b, l))

pub params-fit : (lifts : Bool) (form : AdapterForm) → IsShallow form → IsPast (tuple_layout (params_shaped lifts form)) → ⊥
unfolding aligned
params-fit lifts form.Number h = not-past (tuple_layout (params_shaped false form.Number)) (omega arith) (omega arith)
params-fit lifts form.Chars h = not-past (tuple_layout (params_shaped false form.Chars)) (omega arith) (omega arith)
params-fit false form.Record h = not-past (tuple_layout (params_shaped false form.Record)) (omega arith) (omega arith)
params-fit true form.Record h = not-past (tuple_layout (params_shaped true form.Record)) (omega arith) (omega arith)
params-fit lifts form.Text h = not-past (tuple_layout (params_shaped false form.Text)) (omega arith) (omega arith)
params-fit lifts form.List h = not-past (tuple_layout (params_shaped false form.List)) (omega arith) (omega arith)
params-fit false form.Variant h = not-past (tuple_layout (params_shaped false form.Variant)) (omega arith) (omega arith)
params-fit true form.Variant h = not-past (tuple_layout (params_shaped true form.Variant)) (omega arith) (omega arith)
params-fit lifts (form.Nest depth) h = nest-tuple-fits depth h
params-fit lifts form.Many h = not-past (tuple_layout (params_shaped false form.Many)) (omega arith) (omega arith)

pub results-fit : (form : AdapterForm) → IsPast (tuple_layout (results_shaped form)) → ⊥
unfolding aligned
results-fit form.Number = not-past (tuple_layout []) (omega arith) (omega arith)
results-fit form.Chars = not-past (tuple_layout (results_shaped form.Chars)) (omega arith) (omega arith)
results-fit form.Record = not-past (tuple_layout []) (omega arith) (omega arith)
results-fit form.Text = not-past (tuple_layout (results_shaped form.Text)) (omega arith) (omega arith)
results-fit form.List = not-past (tuple_layout (results_shaped form.List)) (omega arith) (omega arith)
results-fit form.Variant = not-past (tuple_layout []) (omega arith) (omega arith)
results-fit (form.Nest depth) = not-past (tuple_layout []) (omega arith) (omega arith)
results-fit form.Many = not-past (tuple_layout (results_shaped form.Many)) (omega arith) (omega arith)
