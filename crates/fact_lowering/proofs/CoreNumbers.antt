-- Numbers as core values of slots that are wider than their flat types.
use Rattle.std.proofs.Common.{◌≡◌, ℕ, ◌^◌, ◌%◌, ◌<◌, List, [], ◌∷◌, ◌++◌, map, Some, refl, ap, ◌∙◌, arith}
use Rattle.std.specs.Prelude.{option_map}
use Rattle.std.specs.List.{AllZip}
use Rattle.fact_machine.specs.declared.types.CoreValue.{CoreValue}
use Rattle.fact_machine.specs.Typed.{IsValue}
use Rattle.fact_types.specs.declared.flats.FlatType.{FlatType}
use Rattle.fact_types.specs.declared.flats.FlatType.TheVariants.{I32, I64, F32, F64}
use Rattle.fact_types.specs.Flat.{join, value_type}
use Rattle.fact_types.specs.FlatShapes.{joined}
use Rattle.fact_values.specs.Lift.{number_as, numbers_as}
use Rattle.fact_lowering.specs.Lowered.{AreWideFor, BeginWideFor}
use Rattle.fact_lowering.specs.Lowerings.{core_of, cores_of}
use Rattle.fact_lowering.proofs.WideLaws.{first_of_flats, rest_of_flats}

-- a number that a flat type holds
abbrev pub IsBitsOf : FlatType → ℕ → Type 0
IsBitsOf I32 n = n < 2 ^ 32
IsBitsOf I64 n = n < 2 ^ 64
IsBitsOf F32 n = n < 2 ^ 32
IsBitsOf F64 n = n < 2 ^ 64

abbrev pub AreBitsOf : List FlatType → List ℕ → Type 0
AreBitsOf [] [] = Unit {0}
AreBitsOf [] (n ∷ ns) = ⊥
AreBitsOf (f ∷ fs) [] = ⊥
AreBitsOf (f ∷ fs) (n ∷ ns) = IsBitsOf f n × AreBitsOf fs ns

pub core_typed : (f : FlatType) (n : ℕ) → n < 2 ^ 64 → IsValue (core_of f n) (value_type f)
core_typed I32 n h = (refl, omega arith)
core_typed I64 n h = (refl, h)
core_typed F32 n h = (refl, omega arith)
core_typed F64 n h = (refl, h)

pub small_number : (f : FlatType) (n : ℕ) → IsBitsOf f n → n < 2 ^ 64
small_number I32 n h = omega (arith, h)
small_number I64 n h = h
small_number F32 n h = omega (arith, h)
small_number F64 n h = h

low : (n : ℕ) → n < 2 ^ 32 → n % 2 ^ 32 ≡ n
low n h = omega (arith, h)

low_twice : (n : ℕ) → n < 2 ^ 32 → (n % 2 ^ 32) % 2 ^ 32 ≡ n
low_twice n h = omega (arith, h)

-- read back as the flat type
pub number_back : (f slot : FlatType) (n : ℕ) → join f slot ≡ slot → IsBitsOf f n → number_as f (core_of slot n) ≡ n
number_back I32 I32 n e h = low_twice n h
number_back I32 I64 n e h = low n h
number_back I32 F32 n e h = absurd (cc)
number_back I32 F64 n e h = absurd (cc)
number_back I64 I32 n e h = absurd (cc)
number_back I64 I64 n e h = refl
number_back I64 F32 n e h = absurd (cc)
number_back I64 F64 n e h = absurd (cc)
number_back F32 I32 n e h = low_twice n h
number_back F32 I64 n e h = low n h
number_back F32 F32 n e h = low_twice n h
number_back F32 F64 n e h = absurd (cc)
number_back F64 I32 n e h = absurd (cc)
number_back F64 I64 n e h = refl
number_back F64 F32 n e h = absurd (cc)
number_back F64 F64 n e h = refl

pub numbers_back : (fs slots : List FlatType) (ns : List ℕ) (more : List CoreValue) → BeginWideFor fs slots → AreBitsOf fs ns → numbers_as fs (cores_of slots ns ++ more) ≡ Some ns
numbers_back [] slots [] more w h = refl
numbers_back [] slots (n ∷ ns) more w h = absurd h
numbers_back (f ∷ fs) slots [] more w h = absurd h
numbers_back (f ∷ fs) [] (n ∷ ns) more w h = absurd (omega (arith, w.0))
numbers_back (f ∷ fs) (s ∷ slots) (n ∷ ns) more w h =
    ap (option_map (λ ms. number_as f (core_of s n) ∷ ms)) (numbers_back fs slots ns more (omega (arith, w.0), rest_of_flats (join f s) s (joined fs slots) slots w.1) h.1)
    ∙ ap (λ m. Some (m ∷ ns)) (number_back f s n (first_of_flats (join f s) s (joined fs slots) slots w.1) h.0)

-- as many numbers as slots are as many core values of their types
pub cores_typed : (fs slots : List FlatType) (ns : List ℕ) → AreWideFor fs slots → AreBitsOf fs ns → AllZip (λ c t. IsValue c t) (cores_of slots ns) (map value_type slots)
cores_typed [] [] [] w h = tt
cores_typed [] [] (n ∷ ns) w h = absurd h
cores_typed [] (s ∷ slots) ns w h = absurd (omega (arith, w.0))
cores_typed (f ∷ fs) [] ns w h = absurd (omega (arith, w.0))
cores_typed (f ∷ fs) (s ∷ slots) [] w h = absurd h
cores_typed (f ∷ fs) (s ∷ slots) (n ∷ ns) w h =
    (core_typed s n (small_number f n h.0), cores_typed fs slots ns (omega (arith, w.0), rest_of_flats (join f s) s (joined fs slots) slots w.1) h.1)
