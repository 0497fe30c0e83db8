-- A value is carried through a type between to what it is carried to directly.
use Rattle.std.proofs.Common.{◌≡◌, ℕ, zero, suc, ◌⊎◌, inl, inr, ◌+◌, ◌-◌, ◌^◌, ◌<◌, ◌≤◌, List, [], ◌∷◌, length, drop, replicate, Some, None, refl, sym, ap, ◌∙◌, subst, arith}
use Rattle.std.specs.Prelude.{option_map}
use Rattle.std.specs.List.{AllByRecursion}
use Rattle.fact_types.specs.Agrees.{Agrees, AgreesPlaces}
use Rattle.fact_types.specs.Shapes.{Shape, Members}
use Rattle.fact_types.proofs.ShapeLaws.{same_some, none_some}
use Rattle.std.proofs.lemmas.Bool.{cases_lt}
use Rattle.fact_values.specs.Carry.{take_number, crossed, Carries, handles}
use Rattle.fact_values.specs.declared.value.Value.{Value}
use Rattle.fact_values.specs.Formed.{IsFormed, AreFormed}
use Rattle.fact_values.specs.Handles.{cross_places}
use Rattle.fact_values.specs.IsA.{IsA}
use Rattle.fact_values.proofs.CarriedLaws.{carried, not_carried}
use Rattle.fact_values.proofs.NumberLaws.{map_some}
use Rattle.fact_value_laws.specs.Composition.{CarriedThrough}
use Rattle.fact_value_laws.proofs.AgreementLaws.{agrees_through}
use Rattle.fact_value_laws.proofs.CrossingLaws.{IsBlind, through, places_through}

-- a number of a list is taken whatever the handle
numbers_blind : IsBlind take_number
numbers_blind c e k t [] = refl
numbers_blind c e k t (n ∷ ns) = refl

pub crossed_through : (s m d : Shape) (v between : Value) (first left second : List ℕ) → IsFormed m → IsFormed d → Agrees m d → crossed s m v first ≡ Some (between, left) → crossed m d between second ≡ crossed s d v second
crossed_through s m d v between first left second km kd h e = through take_number take_number numbers_blind d m s v between km kd h (record { from = first; left = left; gave = e }) second

pub places_crossed_through : (from middle to : Members) (vs between : List Value) (first left second : List ℕ) → AreFormed middle → AreFormed to → AgreesPlaces middle to → cross_places take_number from vs middle first ≡ Some (between, left)
    → cross_places take_number middle between to second ≡ cross_places take_number from vs to second
places_crossed_through from middle to vs between first left second km kt h e = places_through take_number take_number numbers_blind to middle from vs between km kt h (record { from = first; left = left; gave = e }) second

pub carried_through : (s m d : Shape) (v : Value) (first second : List ℕ) → IsFormed s → IsFormed m → IsFormed d → IsA s v → Agrees s m → Agrees m d → length (handles s m v) ≤ length first → length (handles s d v) ≤ length second
    → AllByRecursion (λ n. n < 2 ^ 32) first → AllByRecursion (λ n. n < 2 ^ 32) second → CarriedThrough s m d v first second
carried_through s m d v first second ks km kd h to on le lf small small2 =
    let a = carried s m v first ks km h to le small in
    let agrees = agrees_through d m s to on in
    let b = carried s d v second ks kd h agrees lf small2 in
    let same = crossed_through s m d v a.value first (drop (length (handles s m v)) first) second km kd on a.crossed in
    record {
      agrees = agrees;
      between = a.value;
      value = b.value;
      to_between = record { is_a = h; agrees = to; is = ap (option_map (λ r. r.0)) a.crossed };
      onward = record { is_a = a.is_a; agrees = on; is = ap (option_map (λ r. r.0)) (same ∙ b.crossed) };
      directly = record { is_a = h; agrees = agrees; is = ap (option_map (λ r. r.0)) b.crossed };
    }

-- ---- how many handles cross

-- so many numbers
pub zeros : ℕ → List ℕ
zeros n = replicate n 0

pub zeros_small : (n : ℕ) → AllByRecursion (λ n. n < 2 ^ 32) (zeros n)
unfolding zeros
zeros_small zero = tt
zeros_small (suc n) = (omega arith, zeros_small n)

pub length_zeros : (n : ℕ) → length (zeros n) ≡ n
unfolding zeros
length_zeros zero = refl
length_zeros (suc n) = ap suc (length_zeros n)

pub length_dropped : {X : Type 0} (n : ℕ) (xs : List X) → length (drop n xs) ≡ length xs - n
length_dropped zero xs = omega arith
length_dropped (suc n) [] = omega arith
length_dropped (suc n) (x ∷ xs) = omega (arith, length_dropped n xs)

-- as many numbers left, as many taken
same_taken : (m n : ℕ) → drop m (zeros (m + n)) ≡ drop n (zeros (m + n)) → m ≡ n
same_taken m n e = omega (arith, ap length e, length_dropped m (zeros (m + n)), length_dropped n (zeros (m + n)), length_zeros (m + n))

-- what a value was carried to is a value of the type
carried_is_a : (s m : Shape) (v between : Value) (first : List ℕ) → IsFormed s → IsFormed m → Carries s m v first between → AllByRecursion (λ n. n < 2 ^ 32) first → IsA m between
carried_is_a s m v between first ks km c small = go (cases_lt (length first) (length (handles s m v)))
  where
    go : (length first < length (handles s m v)) ⊎ (length (handles s m v) ≤ length first) → IsA m between
    go (inl few) = absurd (none_some None between refl (sym (ap (option_map (λ r. r.0)) (not_carried s m v first ks km c.is_a c.agrees few)) ∙ c.is))
    go (inr enough) =
        let a = carried s m v first ks km c.is_a c.agrees enough small in
        subst (IsA m) (same_some (Some a.value) a.value between refl (sym (ap (option_map (λ r. r.0)) a.crossed) ∙ c.is)) a.is_a

-- as many handles cross onward as directly, whatever the numbers of the first way
pub same_count_between : (s m d : Shape) (v between : Value) (first left : List ℕ) → IsFormed s → IsFormed m → IsFormed d → IsA s v → IsA m between → Agrees s m → Agrees m d → crossed s m v first ≡ Some (between, left)
    → length (handles m d between) ≡ length (handles s d v)
same_count_between s m d v between first left ks km kd is_s is_m to on there =
    let count = length (handles m d between) + length (handles s d v) in
    let ns = zeros count in
    let a = carried m d between ns km kd is_m on (omega (arith, length_zeros count)) (zeros_small count) in
    let b = carried s d v ns ks kd is_s (agrees_through d m s to on) (omega (arith, length_zeros count)) (zeros_small count) in
    let same = crossed_through s m d v between first left ns km kd on there in
    let both = sym a.crossed ∙ same ∙ b.crossed in
    same_taken (length (handles m d between)) (length (handles s d v)) (ap (λ r. r.1) (same_some (Some (a.value, drop (length (handles m d between)) ns)) (a.value, drop (length (handles m d between)) ns) (b.value, drop (length (handles s d v)) ns) refl both))

pub same_count : (s m d : Shape) (v between : Value) (first : List ℕ) → IsFormed s → IsFormed m → IsFormed d → Agrees m d → Carries s m v first between → AllByRecursion (λ n. n < 2 ^ 32) first
    → length (handles m d between) ≡ length (handles s d v)
same_count s m d v between first ks km kd on c small =
    let (r, there, at) = map_some (λ r. r.0) (crossed s m v first) between c.is in
    same_count_between s m d v between first r.1 ks km kd c.is_a (carried_is_a s m v between first ks km c small) c.agrees on (subst (λ u. crossed s m v first ≡ Some (u, r.1)) at there)
