-- Core values that are typed as the arguments or results of a function.
use Rattle.std.proofs.Common.{◌≡◌, ℕ, ◌^◌, Bool, true, false, List, [], ◌∷◌, ◌++◌, map, take, Option, Some, None, refl, mod-eq_of_lt}
use Rattle.std.specs.Prelude.{zero, suc}
use Rattle.std.proofs.lemmas.Bool.{false≢true, ltb-true}
use Rattle.fact_wasm.specs.declared.types.ValType.{ValType}
use Rattle.fact_wasm.specs.declared.types.ValType.TheVariants as val
use Rattle.fact_types.specs.declared.flats.FlatType.{FlatType}
use Rattle.fact_types.specs.declared.flats.FlatType.TheVariants as flat_type
use Rattle.fact_types.specs.Flat.{value_type}
use Rattle.fact_types.specs.FlatShapes.{pointer, flat_all}
use Rattle.fact_types.specs.Shapes.{Shape}
use Rattle.fact_types.specs.Signatures.{width, address, flat_values, flat_or, unless_flat, flat_params, sync_lower, sync_lift}
use Rattle.fact_machine.specs.declared.types.CoreValue.{CoreValue}
use Rattle.fact_machine.specs.declared.types.CoreValue.TheVariants.{I32, I64, F32, F64, Func}
use Rattle.fact_machine.specs.Typed.{is_value, are_values}
use Rattle.fact_values.specs.Lift.{bits_of, number_as}
use Rattle.fact_action_laws.specs.Places.{IsInRange, AreInRange}
use Rattle.fact_action_laws.proofs.Targets.{left_true, right_true}
use Rattle.fact_machine.specs.Machine.{has_type}

-- ---- types of numbers

abbrev pub IsNumeric : ValType → Type 0
IsNumeric val.FuncRef = ⊥
IsNumeric t = Unit {0}

abbrev pub AreNumeric : List ValType → Type 0
AreNumeric [] = Unit {0}
AreNumeric (t ∷ ts) = IsNumeric t × AreNumeric ts

numeric_flat : (f : FlatType) → IsNumeric (value_type f)
numeric_flat flat_type.I32 = tt
numeric_flat flat_type.I64 = tt
numeric_flat flat_type.F32 = tt
numeric_flat flat_type.F64 = tt

numeric_flats : (fs : List FlatType) → AreNumeric (map value_type fs)
numeric_flats [] = tt
numeric_flats (f ∷ fs) = (numeric_flat f, numeric_flats fs)

numeric_append : (ts us : List ValType) → AreNumeric ts → AreNumeric us → AreNumeric (ts ++ us)
numeric_append [] us h k = k
numeric_append (t ∷ ts) us h k = (h.0, numeric_append ts us h.1 k)

-- flat values, or what stands in their place
numeric_or : (b : Bool) (limit : ℕ) (ss : List Shape) (others : List ValType) → AreNumeric others → AreNumeric (flat_or others (flat_values b limit ss))
numeric_or b limit ss others h = go (flat_all (width b) limit ss)
  where
    flat_of : Option (List FlatType) → Option (List ValType)
    flat_of None = None
    flat_of (Some fs) = Some (map value_type fs)

    go : (o : Option (List FlatType)) → AreNumeric (flat_or others (flat_of o))
    go None = h
    go (Some fs) = numeric_flats fs

numeric_unless : (o : Option (List ValType)) (others : List ValType) → AreNumeric others → AreNumeric (unless_flat others o)
numeric_unless None others h = h
numeric_unless (Some ts) others h = tt

pub lower_numeric : (b : Bool) (ps rs : List Shape) → AreNumeric (sync_lower b ps rs).params
lower_numeric b ps rs =
    let one : AreNumeric (address b ∷ []) = (numeric_flat (pointer (width b)), tt) in
    numeric_append (flat_params b 16 ps) (unless_flat (address b ∷ []) (flat_values b 1 rs)) (numeric_or b 16 ps (address b ∷ []) one) (numeric_unless (flat_values b 1 rs) (address b ∷ []) one)

pub lift_numeric : (b : Bool) (ps rs : List Shape) → AreNumeric (sync_lift b ps rs).results
lift_numeric b ps rs = numeric_or b 1 rs (address b ∷ []) (numeric_flat (pointer (width b)), tt)

-- ---- ranges

in_range : (v : CoreValue) (t : ValType) → IsNumeric t → is_value v t ≡ true → IsInRange v
in_range (I32 n) t k h = ltb-true n (2 ^ 32) (right_true (has_type (I32 n) t) _ h)
in_range (I64 n) t k h = ltb-true n (2 ^ 64) (right_true (has_type (I64 n) t) _ h)
in_range (F32 n) t k h = ltb-true n (2 ^ 32) (right_true (has_type (F32 n) t) _ h)
in_range (F64 n) t k h = ltb-true n (2 ^ 64) (right_true (has_type (F64 n) t) _ h)
in_range (Func f) val.I32 k h = absurd (false≢true h)
in_range (Func f) val.I64 k h = absurd (false≢true h)
in_range (Func f) val.F32 k h = absurd (false≢true h)
in_range (Func f) val.F64 k h = absurd (false≢true h)
in_range (Func f) val.FuncRef k h = absurd k

-- Typed core values are bits of their types.
pub typed_in_range : (vs : List CoreValue) (ts : List ValType) → AreNumeric ts → are_values vs ts ≡ true → AreInRange vs
typed_in_range [] ts k h = tt
typed_in_range (v ∷ vs) [] k h = absurd (false≢true h)
typed_in_range (v ∷ vs) (t ∷ ts) k h = (in_range v t k.0 (left_true (is_value v t) _ h), typed_in_range vs ts k.1 (right_true (is_value v t) _ h))

pub in_range_leading : (n : ℕ) (vs : List CoreValue) → AreInRange vs → AreInRange (take n vs)
in_range_leading zero vs h = tt
in_range_leading (suc n) [] h = tt
in_range_leading (suc n) (v ∷ vs) h = (h.0, in_range_leading n vs h.1)

-- ---- pointers

-- The number of a typed pointer is that of its bits.
pub pointer_bits : (b : Bool) (v : CoreValue) → is_value v (address b) ≡ true → number_as (pointer (width b)) v ≡ bits_of v
pointer_bits false (I32 n) h = mod-eq_of_lt (ltb-true n (2 ^ 32) h)
pointer_bits false (I64 n) h = absurd (false≢true h)
pointer_bits false (F32 n) h = absurd (false≢true h)
pointer_bits false (F64 n) h = absurd (false≢true h)
pointer_bits false (Func f) h = absurd (false≢true h)
pointer_bits true (I32 n) h = refl
pointer_bits true (I64 n) h = refl
pointer_bits true (F32 n) h = refl
pointer_bits true (F64 n) h = refl
pointer_bits true (Func f) h = refl
