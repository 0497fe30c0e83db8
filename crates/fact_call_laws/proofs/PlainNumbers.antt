-- The numbers that stand for values without members, but texts, and for flags.
use Rattle.std.proofs.Common.{◌≡◌, ℕ, suc, ◌+◌, ◌-◌, ◌*◌, ◌/◌, ◌%◌, ◌^◌, ◌≤◌, ◌<◌, Bool, true, false, cond, List, [], ◌∷◌, length, map, Some, None, refl, sym, ap, ◌∙◌, subst, arith, mod-eq_of_lt}
use Rattle.std.specs.Prelude.{ℤ, pos, negsuc, nat_lt, nat_le, ◌==◌, ◌&&◌, ◌||◌, if◌then◌else◌}
use Rattle.std.specs.Char.{IsScalar}
use Rattle.std.proofs.Math.Nat.{pow-succ', pow-suc}
use Rattle.std.proofs.lemmas.Bool.{le-ltb, lt-ltb, ltb-true}
use Rattle.fact_types.specs.declared.interface.InterfaceType.{InterfaceType}
use Rattle.fact_types.specs.declared.interface.InterfaceType.TheVariants as ty
use Rattle.fact_types.specs.declared.extents.MemoryWidth.{MemoryWidth}
use Rattle.fact_types.specs.declared.extents.MemoryWidth.TheVariants.{Memory32, Memory64}
use Rattle.fact_types.specs.Layout.{extent}
use Rattle.fact_types.specs.Shapes.{plain_layout}
use Rattle.fact_values.specs.declared.value.HandleKind.{HandleKind}
use Rattle.fact_values.specs.declared.value.Value.{Value, out-Value, roll-Value, roll-out-Value}
use Rattle.fact_values.specs.declared.value.Value.TheOpen.{Value-F}
use Rattle.fact_values.specs.declared.value.Value.TheOpen as o
use Rattle.fact_values.specs.declared.value.Value.TheVariants as value
use Rattle.fact_values.specs.IsA.{IsHandle, IsPlainValue, IsSigned, IsUnsigned}
use Rattle.fact_values.specs.Numbers.{Plain, boolean, unsigned, signed, float32, float64, character, text, handle, flags_of_number, is_scalar_value, plain_of, twos_complement, value_of_number}

-- A number that stands for a value, of at most so many bytes.
pub record HasNumber (q : Plain) (bytes : ℕ) (v : Value) : Type 0 where
  pub number : ℕ
  pub small : number < 256 ^ bytes
  pub stands : value_of_number q number ≡ Some v

-- ---- kind by kind

bool_number : (v : Value) → IsPlainValue boolean (out-Value v) → HasNumber boolean 1 v
bool_number v h = by (out-Value v) (sym (roll-out-Value v)) h
  where
    by : (w : Value-F Value) → v ≡ roll-Value w → IsPlainValue boolean w → HasNumber boolean 1 v
    by (o.Bool true) e h = record { number = 1; small = omega arith; stands = ap Some (sym (e ∙ value.rolls-Bool true)) }
    by (o.Bool false) e h = record { number = 0; small = omega arith; stands = ap Some (sym (e ∙ value.rolls-Bool false)) }
    by w e h = absurd h

unsigned_number : (bits bytes : ℕ) → 2 ^ bits ≡ 256 ^ bytes → (v : Value) → IsPlainValue (unsigned bits) (out-Value v) → HasNumber (unsigned bits) bytes v
unsigned_number bits bytes wide v h = by (out-Value v) (sym (roll-out-Value v)) h
  where
    of_int : (z : ℤ) → v ≡ value.Int z → IsUnsigned bits z → HasNumber (unsigned bits) bytes v
    of_int (pos n) e lt = record { number = n; small = subst (λ m. n < m) wide lt; stands = ap (λ m. Some (value.Int (pos m))) (mod-eq_of_lt lt) ∙ ap Some (sym e) }
    of_int (negsuc n) e lt = absurd lt

    by : (w : Value-F Value) → v ≡ roll-Value w → IsPlainValue (unsigned bits) w → HasNumber (unsigned bits) bytes v
    by (o.Int z) e h = of_int z (e ∙ value.rolls-Int z) h
    by w e h = absurd h

signed_number : (bits bytes : ℕ) → 1 ≤ bits → 2 ^ bits ≡ 256 ^ bytes → (v : Value) → IsPlainValue (signed bits) (out-Value v) → HasNumber (signed bits) bytes v
signed_number bits bytes some wide v h = by (out-Value v) (sym (roll-out-Value v)) h
  where
    whole : 2 ^ bits ≡ 2 ^ (bits - 1) * 2
    whole = let e : bits ≡ suc (bits - 1) = omega (arith, some) in ap (λ n. 2 ^ n) e ∙ pow-suc 2 (bits - 1)

    of_int : (z : ℤ) → v ≡ value.Int z → IsSigned bits z → HasNumber (signed bits) bytes v
    of_int (pos n) e lt =
        let below : n < 2 ^ bits = omega (arith, lt, whole) in
        record {
          number = n;
          small = subst (λ m. n < m) wide below;
          stands = ap (λ m. Some (value.Int (twos_complement bits m))) (mod-eq_of_lt below)
              ∙ ap (λ (b : Bool). Some (value.Int (if b then pos n else negsuc (2 ^ bits - 1 - n)))) (lt-ltb n (2 ^ (bits - 1)) lt) ∙ ap Some (sym e);
        }
    of_int (negsuc n) e lt =
        let m : ℕ = 2 ^ bits - 1 - n in
        let below : m < 2 ^ bits = omega (arith, lt, whole) in
        let high : 2 ^ (bits - 1) ≤ m = omega (arith, lt, whole) in
        let back : 2 ^ bits - 1 - m ≡ n = omega (arith, lt, whole) in
        record {
          number = m;
          small = subst (λ k. m < k) wide below;
          stands = ap (λ k. Some (value.Int (twos_complement bits k))) (mod-eq_of_lt below)
              ∙ ap (λ (b : Bool). Some (value.Int (if b then pos m else negsuc (2 ^ bits - 1 - m)))) (le-ltb m (2 ^ (bits - 1)) high) ∙ ap (λ k. Some (value.Int (negsuc k))) back ∙ ap Some (sym e);
        }

    by : (w : Value-F Value) → v ≡ roll-Value w → IsPlainValue (signed bits) w → HasNumber (signed bits) bytes v
    by (o.Int z) e h = of_int z (e ∙ value.rolls-Int z) h
    by w e h = absurd h

float32_number : (v : Value) → IsPlainValue float32 (out-Value v) → HasNumber float32 4 v
float32_number v h = by (out-Value v) (sym (roll-out-Value v)) h
  where
    by : (w : Value-F Value) → v ≡ roll-Value w → IsPlainValue float32 w → HasNumber float32 4 v
    by (o.Float32 n) e h = record { number = n; small = omega (arith, h); stands = ap Some (sym (e ∙ value.rolls-Float32 n)) }
    by w e h = absurd h

float64_number : (v : Value) → IsPlainValue float64 (out-Value v) → HasNumber float64 8 v
float64_number v h = by (out-Value v) (sym (roll-out-Value v)) h
  where
    by : (w : Value-F Value) → v ≡ roll-Value w → IsPlainValue float64 w → HasNumber float64 8 v
    by (o.Float64 n) e h = record { number = n; small = omega (arith, h); stands = ap Some (sym (e ∙ value.rolls-Float64 n)) }
    by w e h = absurd h

-- a scalar value passes the test, and is small
scalar_to : (n : ℕ) → IsScalar n → is_scalar_value n ≡ true
scalar_to n h = same (nat_lt n 0xD800) (nat_le 0xE000 n && nat_lt n 0x110000) ∙ h
  where
    same : (a b : Bool) → (a || b) ≡ cond a true b
    same true b = refl
    same false b = refl

scalar_small : (n : ℕ) → IsScalar n → n < 0x110000
scalar_small n h = by (nat_lt n 0xD800) (nat_le 0xE000 n) (nat_lt n 0x110000) refl refl (scalar_to n h)
  where
    by : (a b c : Bool) → nat_lt n 0xD800 ≡ a → nat_lt n 0x110000 ≡ c → (a || (b && c)) ≡ true → n < 0x110000
    by true b c e f q = let lt : n < 0xD800 = ltb-true n 0xD800 e in omega (arith, lt)
    by false true true e f q = ltb-true n 0x110000 f
    by false true false e f q = absurd cc
    by false false c e f q = absurd cc

char_number : (v : Value) → IsPlainValue character (out-Value v) → HasNumber character 4 v
char_number v h = by (out-Value v) (sym (roll-out-Value v)) h
  where
    by : (w : Value-F Value) → v ≡ roll-Value w → IsPlainValue character w → HasNumber character 4 v
    by (o.Char n) e h = record {
      number = n;
      small = omega (arith, scalar_small n h);
      stands = ap (λ (b : Bool). if b then Some (value.Char n) else None) (scalar_to n h) ∙ ap Some (sym (e ∙ value.rolls-Char n));
    }
    by w e h = absurd h

-- a handle
pub record HasHandle (kind : HandleKind) (table : ℕ) (v : Value) : Type 0 where
  pub number : ℕ
  pub small : number < 2 ^ 32
  pub is : v ≡ value.Handle kind table number

pub handle_number : (kind : HandleKind) (table : ℕ) (v : Value) → IsHandle kind table (out-Value v) → HasHandle kind table v
handle_number kind table v h = by (out-Value v) (sym (roll-out-Value v)) h
  where
    by : (w : Value-F Value) → v ≡ roll-Value w → IsHandle kind table w → HasHandle kind table v
    by (o.Handle k t n) e h = record { number = n; small = h.2; is = e ∙ value.rolls-Handle k t n ∙ (λ i. value.Handle (h.0 i) (h.1 i) n) }
    by w e h = absurd h

handle_plain : (kind : HandleKind) (table : ℕ) (v : Value) → IsPlainValue (handle kind table) (out-Value v) → HasNumber (handle kind table) 4 v
handle_plain kind table v h = let x = handle_number kind table v h in record { number = x.number; small = omega (arith, x.small); stands = ap Some (sym x.is) }

-- ---- any type without members, but texts

pub plain_number : (y : InterfaceType) (v : Value) → (plain_of y ≡ text → ⊥) → IsPlainValue (plain_of y) (out-Value v) → HasNumber (plain_of y) (plain_layout y).size32 v
plain_number ty.Bool v never h = bool_number v h
plain_number ty.S8 v never h = signed_number 8 1 (omega arith) refl v h
plain_number ty.U8 v never h = unsigned_number 8 1 refl v h
plain_number ty.S16 v never h = signed_number 16 2 (omega arith) refl v h
plain_number ty.U16 v never h = unsigned_number 16 2 refl v h
plain_number ty.S32 v never h = signed_number 32 4 (omega arith) refl v h
plain_number ty.U32 v never h = unsigned_number 32 4 refl v h
plain_number ty.S64 v never h = signed_number 64 8 (omega arith) refl v h
plain_number ty.U64 v never h = unsigned_number 64 8 refl v h
plain_number ty.Float32 v never h = float32_number v h
plain_number ty.Float64 v never h = float64_number v h
plain_number ty.Char v never h = char_number v h
plain_number ty.String v never h = absurd (never refl)
plain_number (ty.Own i) v never h = handle_plain _ i.number v h
plain_number (ty.Borrow i) v never h = handle_plain _ i.number v h
plain_number (ty.ErrorContext i) v never h = handle_plain _ i.number v h
plain_number _ v never h = absurd h

-- its bytes are as many in either memory
pub plain_size : (w : MemoryWidth) (y : InterfaceType) → (plain_of y ≡ text → ⊥) → (extent w (plain_layout y)).size ≡ (plain_layout y).size32
plain_size Memory32 y never = refl
plain_size Memory64 ty.String never = absurd (never refl)
plain_size Memory64 ty.Bool never = refl
plain_size Memory64 ty.S8 never = refl
plain_size Memory64 _ never = refl

-- ---- flags

abbrev bit_of : Bool → ℕ
bit_of false = 0
bit_of true = 1

abbrev pub flags_number : List (List ℕ × Bool) → ℕ
flags_number [] = 0
flags_number (f ∷ fs) = bit_of f.1 + 2 * flags_number fs

pub flags_small : (fs : List (List ℕ × Bool)) → flags_number fs < 2 ^ length fs
flags_small [] = omega arith
flags_small (f ∷ fs) = by f.1 (flags_small fs)
  where
    wide : 2 ^ suc (length fs) ≡ 2 * 2 ^ length fs
    wide = pow-succ' 2 (length fs)

    by : (b : Bool) → flags_number fs < 2 ^ length fs → bit_of b + 2 * flags_number fs < 2 ^ suc (length fs)
    by true lt = omega (arith, lt, wide)
    by false lt = omega (arith, lt, wide)

pub flags_back : (fs : List (List ℕ × Bool)) → flags_of_number (map (λ f. f.0) fs) (flags_number fs) ≡ fs
flags_back [] = refl
flags_back (f ∷ fs) = (λ i. (f.0, parity f.1 (flags_number fs) i) ∷ flags_of_number (map (λ f. f.0) fs) (halved f.1 (flags_number fs) i)) ∙ ap (λ l. f ∷ l) (flags_back fs)
  where
    parity : (b : Bool) (n : ℕ) → ((bit_of b + 2 * n) % 2 == 1) ≡ b
    parity false n = let e : (0 + 2 * n) % 2 ≡ 0 = omega arith in ap (λ k. k == 1) e
    parity true n = let e : (1 + 2 * n) % 2 ≡ 1 = omega arith in ap (λ k. k == 1) e

    halved : (b : Bool) (n : ℕ) → (bit_of b + 2 * n) / 2 ≡ n
    halved false n = omega arith
    halved true n = omega arith
