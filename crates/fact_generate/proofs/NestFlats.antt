-- The flat values of what is nested, and of functions of one type that is passed flat or behind a pointer.
use Rattle.std.proofs.Common.{◌≡◌, ℕ, zero, suc, ◌+◌, ◌*◌, ◌<◌, ◌≤◌, Bool, true, false, List, [], ◌∷◌, length, Option, Some, None, refl, ap, ◌∙◌, arith, length-append}
use Rattle.std.specs.Prelude.{map, if◌then◌else◌}
use Rattle.std.proofs.lemmas.Bool.{le-leb, lt-leb}
use Rattle.std.proofs.lemmas.List.{append-nil}
use Rattle.fact_wasm.specs.declared.types.FuncType.{FuncType}
use Rattle.fact_wasm.specs.declared.types.ValType.{ValType}
use Rattle.fact_types.specs.declared.flats.FlatType.{FlatType}
use Rattle.fact_types.specs.declared.extents.MemoryWidth.{MemoryWidth}
use Rattle.fact_types.specs.Flat.{value_type}
use Rattle.fact_types.specs.FlatShapes.{after_flat, flat, flat_all, upto, when_upto}
use Rattle.fact_types.specs.Shapes.{Shape}
use Rattle.fact_types.specs.Signatures.{address, flat_or, flat_params, width}
use Rattle.fact_generate.specs.declared.form.AdapterForm.TheVariants as form
use Rattle.fact_generate.specs.Linked.{linked_side, nest_shape}

-- ---- what is nested once more has two flat values more

length-nest-flat : (w : MemoryWidth) (d : ℕ) → length (flat w (nest_shape d)) ≡ 1 + 2 * d
length-nest-flat w zero = refl
length-nest-flat w (suc d) =
    let e : length (flat w (nest_shape (suc d))) ≡ length (flat w (nest_shape d)) + 2 = length-append (flat w (nest_shape d)) _ in
    let h : length (flat w (nest_shape d)) ≡ 1 + 2 * d = length-nest-flat w d in
    omega arith

-- ---- a type alone is passed flat up to 16 values

upto-all : (n : ℕ) (xs : List FlatType) → length xs ≤ n → upto n xs ≡ Some xs
upto-all n xs few = ap (λ (b : Bool). if b then Some xs else None) (le-leb (length xs) n few)

upto-none : (n : ℕ) (xs : List FlatType) → n < length xs → upto n xs ≡ None
upto-none n xs many = ap (λ (b : Bool). if b then Some xs else None) (lt-leb (length xs) n many)

flat-one : (w : MemoryWidth) (s : Shape) → length (flat w s) ≤ 16 → flat_all w 16 (s ∷ []) ≡ Some (flat w s)
flat-one w s few =
    ap (λ (o : Option (List FlatType)). when_upto 16 (after_flat o (Some []))) (upto-all 16 (flat w s) few)
    ∙ (ap (λ (xs : List FlatType). upto 16 xs) (append-nil (flat w s)) ∙ upto-all 16 (flat w s) few)

flat-past : (w : MemoryWidth) (s : Shape) → 16 < length (flat w s) → flat_all w 16 (s ∷ []) ≡ None
flat-past w s many = ap (λ (o : Option (List FlatType)). when_upto 16 (after_flat o (Some []))) (upto-none 16 (flat w s) many)

abbrev flat_value_types : Option (List FlatType) → Option (List ValType)
flat_value_types None = None
flat_value_types (Some fs) = Some (map value_type fs)

passed-flat : (lifts : Bool) (s : Shape) → length (flat (width lifts) s) ≤ 16 → flat_params lifts 16 (s ∷ []) ≡ map value_type (flat (width lifts) s)
passed-flat lifts s few = ap (λ (o : Option (List FlatType)). flat_or (address lifts ∷ []) (flat_value_types o)) (flat-one (width lifts) s few)

passed-behind : (lifts : Bool) (s : Shape) → 16 < length (flat (width lifts) s) → flat_params lifts 16 (s ∷ []) ≡ address lifts ∷ []
passed-behind lifts s many = ap (λ (o : Option (List FlatType)). flat_or (address lifts ∷ []) (flat_value_types o)) (flat-past (width lifts) s many)

-- ---- the core types of nests

-- parameters alone
abbrev pub only_params : List ValType → FuncType
only_params ps = record { params = ps; results = [] }

nest-core : (lifts : Bool) (d : ℕ) (ps : List ValType) → flat_params lifts 16 (nest_shape d ∷ []) ≡ ps → (linked_side lifts (form.Nest d)).core_type ≡ only_params ps
nest-core false d ps e = ap only_params (append-nil (flat_params false 16 (nest_shape d ∷ [])) ∙ e)
nest-core true d ps e = ap only_params e

pub nest-core-flat : (lifts : Bool) (d : ℕ) → d ≤ 7 → (linked_side lifts (form.Nest d)).core_type ≡ only_params (map value_type (flat (width lifts) (nest_shape d)))
nest-core-flat lifts d few = nest-core lifts d _ (passed-flat lifts (nest_shape d) (omega (arith, length-nest-flat (width lifts) d)))

pub nest-core-behind : (lifts : Bool) (d : ℕ) → 7 < d → (linked_side lifts (form.Nest d)).core_type ≡ only_params (address lifts ∷ [])
nest-core-behind lifts d many = nest-core lifts d _ (passed-behind lifts (nest_shape d) (omega (arith, length-nest-flat (width lifts) d)))
