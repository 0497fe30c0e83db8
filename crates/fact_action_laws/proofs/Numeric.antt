-- Types that are one number: what is read of it, and what the canonical number that is written stands for.
use Rattle.std.proofs.Common.{◌≡◌, ℕ, zero, suc, ◌+◌, ◌-◌, ◌%◌, ◌^◌, ◌≤◌, ◌<◌, Bool, true, false, List, [], ◌∷◌, Option, Some, refl, sym, ap, ◌∙◌, arith, lit<, lit≤}
use Rattle.std.specs.Prelude.{nat_eq, nat_lt, if◌then◌else◌, pos}
use Rattle.std.proofs.lemmas.Bool.{false≢true, lt-ltb, eqb-true}
use Rattle.std.proofs.Math.Nat.{mod-eq_of_lt, mod-mod}
use Rattle.fact_entity.specs.declared.id.Id.{Id}
use Rattle.fact_entity.specs.declared.table.TypeResourceTables.{TypeResourceTables}
use Rattle.fact_entity.specs.declared.table.TypeComponentLocalErrorContextTables.{TypeComponentLocalErrorContextTables}
use Rattle.fact_types.specs.declared.flats.FlatType.{FlatType}
use Rattle.fact_types.specs.declared.flats.FlatType.TheVariants as flat_type
use Rattle.fact_types.specs.declared.interface.InterfaceType.{InterfaceType}
use Rattle.fact_types.specs.declared.interface.InterfaceType.TheVariants as ty
use Rattle.fact_types.specs.declared.extents.MemoryWidth.{MemoryWidth}
use Rattle.fact_types.specs.declared.extents.MemoryWidth.TheVariants.{Memory32, Memory64}
use Rattle.fact_types.specs.FlatShapes.{flat_plain}
use Rattle.fact_types.specs.Layout.{extent, scalar_layout}
use Rattle.fact_types.specs.Shapes.{plain_layout, s_plain}
use Rattle.fact_machine.specs.declared.types.CoreValue.{CoreValue}
use Rattle.fact_machine.specs.Numerics.{extend_s}
use Rattle.fact_actions.specs.Moves.{canonical_number, plain_size, move_number, move_plain}
use Rattle.fact_actions.specs.Sides.{Transfer, Source, Target}
use Rattle.fact_values.specs.declared.side.SideAbi.{SideAbi}
use Rattle.fact_values.specs.Carry.{take_number}
use Rattle.fact_values.specs.Handles.{cross_plain}
use Rattle.fact_values.specs.Lift.{lift_plain, lift_number}
use Rattle.fact_values.specs.Load.{load_plain}
use Rattle.fact_values.specs.Places.{width_of, extent_on}
use Rattle.fact_action_laws.specs.Items.{items_plain}
use Rattle.fact_values.specs.declared.value.HandleKind.TheVariants.{Own, Borrow, ErrorContext}
use Rattle.fact_values.specs.declared.value.Value.{Value}
use Rattle.fact_values.specs.declared.value.Value.TheVariants as value
use Rattle.fact_values.specs.Canonical.{IsCanonicalByte, IsCanonicalNumber}
use Rattle.fact_values.specs.Numbers.{character, handle, number_in, plain_of, value_of_number, twos_complement}
use Rattle.fact_types.specs.Options.{◌>>=◌}
use Rattle.fact_action_laws.proofs.Numbers.{flat_bound}

abbrev pub is_wide_flat : FlatType → Bool
is_wide_flat flat_type.I32 = false
is_wide_flat flat_type.I64 = true
is_wide_flat flat_type.F32 = false
is_wide_flat flat_type.F64 = true

-- A plain type that is a number of so many bytes, passed as one flat type; what is written of a number that was read stands
-- for the same value, and is canonical.
pub record IsNumeric (p : InterfaceType) (size : ℕ) (f : FlatType) : Type 0 where
  pub sized : (w : MemoryWidth) → (extent w (plain_layout p)).size ≡ size
  pub flats : (w : MemoryWidth) → flat_plain w p ≡ f ∷ []
  pub fits : 256 ^ size ≤ flat_bound f
  pub wide : nat_eq size 8 ≡ is_wide_flat f
  pub below : (x : ℕ) → x < flat_bound f → canonical_number p x < flat_bound f
  pub same : (x : ℕ) → x < flat_bound f → value_of_number (plain_of p) (canonical_number p x) ≡ value_of_number (plain_of p) x
  pub same_low : (x : ℕ) → x < flat_bound f → value_of_number (plain_of p) (canonical_number p x % 256 ^ size) ≡ value_of_number (plain_of p) x
  pub canonical : (x : ℕ) → x < flat_bound f → IsCanonicalNumber (plain_of p) (canonical_number p x)
  pub canonical_byte : (x : ℕ) → x < flat_bound f → IsCanonicalByte (plain_of p) (canonical_number p x % 256 ^ size)
  -- it is read as a number
  pub loads : (side : SideAbi) (bytes : List ℕ) (a : ℕ) → load_plain side bytes p (plain_of p) a ≡ (number_in bytes (extent_on side (s_plain p)).size a) >>= (λ n. value_of_number (plain_of p) n)
  pub lifts : (side : SideAbi) (bytes : List ℕ) (cs : List CoreValue) → lift_plain side bytes p (plain_of p) cs ≡ lift_number (plain_of p) (flat_plain (width_of side) p) cs

-- It is moved as one number, and asks for nothing.
pub record IsSilent (p : InterfaceType) : Type 0 where
  pub moves : (tr : Transfer) (s : Source) (d : Target) → move_plain tr p p s d ≡ move_number tr (plain_size p) (plain_size p) (canonical_number p) s d
  pub stays : (from : ℕ) (v : Value) (ns : List ℕ) → cross_plain take_number from (plain_of p) v ns ≡ Some (v, ns)
  pub silent : (from : ℕ) (v : Value) → items_plain from (plain_of p) v ≡ []

-- ---- signed numbers

pub record IsExtended (bits n y : ℕ) : Type 0 where
  pub below : y < 2 ^ 32
  pub low : y % 2 ^ bits ≡ n % 2 ^ bits
  pub low_bytes : y % 2 ^ bits % 2 ^ bits ≡ n % 2 ^ bits
  pub canonical : y ≡ extend_s bits 32 y

-- a number that is extended, is extended to itself
extended_again : (bits n : ℕ) → extend_s bits 32 n % 2 ^ bits ≡ n % 2 ^ bits → extend_s bits 32 n ≡ extend_s bits 32 (extend_s bits 32 n)
extended_again bits n h = sym (ap (λ low. if nat_lt low (2 ^ (bits - 1)) then low else low + (2 ^ 32 - 2 ^ bits)) h)

-- what is known of an extended number: its low bits are as before, and it is the canonical one of its low bits
extended8 : (n : ℕ) → IsExtended 8 n (extend_s 8 32 n)
extended8 n =
    let e = low (nat_lt (n % 2 ^ 8) (2 ^ 7)) refl in
    record { below = e.0; low = e.1; low_bytes = mod-mod (extend_s 8 32 n) (2 ^ 8) ∙ e.1; canonical = extended_again 8 n e.1 }
  where
    low : (b : Bool) → nat_lt (n % 2 ^ 8) (2 ^ 7) ≡ b → ((if b then n % 2 ^ 8 else n % 2 ^ 8 + (2 ^ 32 - 2 ^ 8)) < 2 ^ 32) × ((if b then n % 2 ^ 8 else n % 2 ^ 8 + (2 ^ 32 - 2 ^ 8)) % 2 ^ 8 ≡ n % 2 ^ 8)
    low true e = (omega arith, omega arith)
    low false e = (omega arith, omega arith)

extended16 : (n : ℕ) → IsExtended 16 n (extend_s 16 32 n)
extended16 n =
    let e = low (nat_lt (n % 2 ^ 16) (2 ^ 15)) refl in
    record { below = e.0; low = e.1; low_bytes = mod-mod (extend_s 16 32 n) (2 ^ 16) ∙ e.1; canonical = extended_again 16 n e.1 }
  where
    low : (b : Bool) → nat_lt (n % 2 ^ 16) (2 ^ 15) ≡ b → ((if b then n % 2 ^ 16 else n % 2 ^ 16 + (2 ^ 32 - 2 ^ 16)) < 2 ^ 32) × ((if b then n % 2 ^ 16 else n % 2 ^ 16 + (2 ^ 32 - 2 ^ 16)) % 2 ^ 16 ≡ n % 2 ^ 16)
    low true e = (omega arith, omega arith)
    low false e = (omega arith, omega arith)

scalar_size : (n : ℕ) (w : MemoryWidth) → (extent w (scalar_layout n)).size ≡ n
scalar_size n Memory32 = refl
scalar_size n Memory64 = refl

signed_value : ℕ → ℕ → Option Value
signed_value bits k = Some (value.Int (twos_complement bits k))

-- ---- the types

bool_is : IsNumeric ty.Bool 1 flat_type.I32
bool_is = record {
  sized = scalar_size 1;
  flats = λ w. refl;
  fits = lit≤ tt;
  wide = refl;
  loads = λ side bytes a. refl;
  lifts = λ side bytes cs. refl;
  below = λ x lt. below (nat_eq x 0);
  same = λ x lt. same (nat_eq x 0) x refl;
  same_low = λ x lt. same_low (nat_eq x 0) x refl;
  canonical = λ x lt. canonical (nat_eq x 0);
  canonical_byte = λ x lt. low (nat_eq x 0);
}
  where
    below : (b : Bool) → (if b then 0 else 1) < 2 ^ 32
    below true = lit< tt
    below false = lit< tt

    canonical : (b : Bool) → (if b then 0 else 1) < 2
    canonical true = lit< tt
    canonical false = lit< tt

    low : (b : Bool) → (if b then 0 else 1) % 256 ^ 1 < 2
    low true = lit< tt
    low false = lit< tt

    same : (b : Bool) (x : ℕ) → nat_eq x 0 ≡ b → Some (value.Bool (nat_lt 0 (if b then 0 else 1))) ≡ Some (value.Bool (nat_lt 0 x))
    same true x e = let z : x ≡ 0 = eqb-true x 0 e in ap (λ y. Some (value.Bool (nat_lt 0 y))) (sym z)
    same false x e = ap (λ y. Some (value.Bool y)) (sym (lt-ltb 0 x (positive x e)))
      where
        positive : (x : ℕ) → nat_eq x 0 ≡ false → 0 < x
        positive zero e = absurd (false≢true (sym e))
        positive (suc n) e = omega arith

    same_low : (b : Bool) (x : ℕ) → nat_eq x 0 ≡ b → Some (value.Bool (nat_lt 0 ((if b then 0 else 1) % 256 ^ 1))) ≡ Some (value.Bool (nat_lt 0 x))
    same_low true x e = same true x e
    same_low false x e = same false x e

u8_is : IsNumeric ty.U8 1 flat_type.I32
u8_is = record {
  sized = scalar_size 1;
  flats = λ w. refl;
  fits = lit≤ tt;
  wide = refl;
  loads = λ side bytes a. refl;
  lifts = λ side bytes cs. refl;
  below = λ x lt. omega arith;
  same = λ x lt. ap (λ k. Some (value.Int (pos k))) (omega arith);
  same_low = λ x lt. ap (λ k. Some (value.Int (pos k))) (omega arith);
  canonical = λ x lt. omega arith;
  canonical_byte = λ x lt. tt;
}

u16_is : IsNumeric ty.U16 2 flat_type.I32
u16_is = record {
  sized = scalar_size 2;
  flats = λ w. refl;
  fits = lit≤ tt;
  wide = refl;
  loads = λ side bytes a. refl;
  lifts = λ side bytes cs. refl;
  below = λ x lt. omega arith;
  same = λ x lt. ap (λ k. Some (value.Int (pos k))) (omega arith);
  same_low = λ x lt. ap (λ k. Some (value.Int (pos k))) (omega arith);
  canonical = λ x lt. omega arith;
  canonical_byte = λ x lt. tt;
}

u32_is : IsNumeric ty.U32 4 flat_type.I32
u32_is = record {
  sized = scalar_size 4;
  flats = λ w. refl;
  fits = lit≤ tt;
  wide = refl;
  loads = λ side bytes a. refl;
  lifts = λ side bytes cs. refl;
  below = λ x lt. lt;
  same = λ x lt. refl;
  same_low = λ x lt. ap (λ k. Some (value.Int (pos (k % 2 ^ 32)))) (mod-eq_of_lt lt);
  canonical = λ x lt. lt;
  canonical_byte = λ x lt. tt;
}

u64_is : IsNumeric ty.U64 8 flat_type.I64
u64_is = record {
  sized = scalar_size 8;
  flats = λ w. refl;
  fits = lit≤ tt;
  wide = refl;
  loads = λ side bytes a. refl;
  lifts = λ side bytes cs. refl;
  below = λ x lt. lt;
  same = λ x lt. refl;
  same_low = λ x lt. ap (λ k. Some (value.Int (pos (k % 2 ^ 64)))) (mod-eq_of_lt lt);
  canonical = λ x lt. lt;
  canonical_byte = λ x lt. tt;
}

float32_is : IsNumeric ty.Float32 4 flat_type.F32
float32_is = record {
  sized = scalar_size 4;
  flats = λ w. refl;
  fits = lit≤ tt;
  wide = refl;
  loads = λ side bytes a. refl;
  lifts = λ side bytes cs. refl;
  below = λ x lt. lt;
  same = λ x lt. refl;
  same_low = λ x lt. ap (λ k. Some (value.Float32 k)) (mod-eq_of_lt lt);
  canonical = λ x lt. tt;
  canonical_byte = λ x lt. tt;
}

float64_is : IsNumeric ty.Float64 8 flat_type.F64
float64_is = record {
  sized = scalar_size 8;
  flats = λ w. refl;
  fits = lit≤ tt;
  wide = refl;
  loads = λ side bytes a. refl;
  lifts = λ side bytes cs. refl;
  below = λ x lt. lt;
  same = λ x lt. refl;
  same_low = λ x lt. ap (λ k. Some (value.Float64 k)) (mod-eq_of_lt lt);
  canonical = λ x lt. tt;
  canonical_byte = λ x lt. tt;
}

s8_is : IsNumeric ty.S8 1 flat_type.I32
s8_is = record {
  sized = scalar_size 1;
  flats = λ w. refl;
  fits = lit≤ tt;
  wide = refl;
  loads = λ side bytes a. refl;
  lifts = λ side bytes cs. refl;
  below = λ x lt. (extended8 x).below;
  same = λ x lt. ap (λ k. Some (value.Int (twos_complement 8 k))) (extended8 x).low;
  same_low = λ x lt. ap (λ k. Some (value.Int (twos_complement 8 k))) (extended8 x).low_bytes;
  canonical = λ x lt. (extended8 x).canonical;
  canonical_byte = λ x lt. tt;
}

s16_is : IsNumeric ty.S16 2 flat_type.I32
s16_is = record {
  sized = scalar_size 2;
  flats = λ w. refl;
  fits = lit≤ tt;
  wide = refl;
  loads = λ side bytes a. refl;
  lifts = λ side bytes cs. refl;
  below = λ x lt. (extended16 x).below;
  same = λ x lt. ap (λ k. Some (value.Int (twos_complement 16 k))) (extended16 x).low;
  same_low = λ x lt. ap (λ k. Some (value.Int (twos_complement 16 k))) (extended16 x).low_bytes;
  canonical = λ x lt. (extended16 x).canonical;
  canonical_byte = λ x lt. tt;
}

whole32 : (x : ℕ) → x < 2 ^ 32 → x ≡ extend_s 32 32 x
whole32 x lt = go (nat_lt (x % 2 ^ 32) (2 ^ 31))
  where
    go : (c : Bool) → x ≡ (if c then x % 2 ^ 32 else x % 2 ^ 32 + (2 ^ 32 - 2 ^ 32))
    go true = sym (mod-eq_of_lt lt)
    go false = let e : x % 2 ^ 32 ≡ x = mod-eq_of_lt lt in omega (arith, e)

s32_is : IsNumeric ty.S32 4 flat_type.I32
s32_is = record {
  sized = scalar_size 4;
  flats = λ w. refl;
  fits = lit≤ tt;
  wide = refl;
  loads = λ side bytes a. refl;
  lifts = λ side bytes cs. refl;
  below = λ x lt. lt;
  same = λ x lt. refl;
  same_low = λ x lt. ap (λ k. Some (value.Int (twos_complement 32 (k % 2 ^ 32)))) (mod-eq_of_lt lt);
  canonical = λ x lt. whole32 x lt;
  canonical_byte = λ x lt. tt;
}

whole64 : (x : ℕ) → x < 2 ^ 64 → x ≡ extend_s 64 64 x
whole64 x lt = go (nat_lt (x % 2 ^ 64) (2 ^ 63))
  where
    go : (c : Bool) → x ≡ (if c then x % 2 ^ 64 else x % 2 ^ 64 + (2 ^ 64 - 2 ^ 64))
    go true = sym (mod-eq_of_lt lt)
    go false = let e : x % 2 ^ 64 ≡ x = mod-eq_of_lt lt in omega (arith, e)

s64_is : IsNumeric ty.S64 8 flat_type.I64
s64_is = record {
  sized = scalar_size 8;
  flats = λ w. refl;
  fits = lit≤ tt;
  wide = refl;
  loads = λ side bytes a. refl;
  lifts = λ side bytes cs. refl;
  below = λ x lt. lt;
  same = λ x lt. refl;
  same_low = λ x lt. ap (λ k. Some (value.Int (twos_complement 64 (k % 2 ^ 64)))) (mod-eq_of_lt lt);
  canonical = λ x lt. whole64 x lt;
  canonical_byte = λ x lt. tt;
}

pub char_is : IsNumeric ty.Char 4 flat_type.I32
char_is = record {
  sized = scalar_size 4;
  flats = λ w. refl;
  fits = lit≤ tt;
  wide = refl;
  loads = λ side bytes a. refl;
  lifts = λ side bytes cs. refl;
  below = λ x lt. lt;
  same = λ x lt. refl;
  same_low = λ x lt. ap (λ k. value_of_number character k) (mod-eq_of_lt lt);
  canonical = λ x lt. tt;
  canonical_byte = λ x lt. tt;
}

pub own_is : (i : Id TypeResourceTables) → IsNumeric (ty.Own i) 4 flat_type.I32
own_is i = record {
  sized = scalar_size 4;
  flats = λ w. refl;
  fits = lit≤ tt;
  wide = refl;
  loads = λ side bytes a. refl;
  lifts = λ side bytes cs. refl;
  below = λ x lt. lt;
  same = λ x lt. refl;
  same_low = λ x lt. ap (λ k. value_of_number (handle Own i.number) k) (mod-eq_of_lt lt);
  canonical = λ x lt. tt;
  canonical_byte = λ x lt. tt;
}

pub borrow_is : (i : Id TypeResourceTables) → IsNumeric (ty.Borrow i) 4 flat_type.I32
borrow_is i = record {
  sized = scalar_size 4;
  flats = λ w. refl;
  fits = lit≤ tt;
  wide = refl;
  loads = λ side bytes a. refl;
  lifts = λ side bytes cs. refl;
  below = λ x lt. lt;
  same = λ x lt. refl;
  same_low = λ x lt. ap (λ k. value_of_number (handle Borrow i.number) k) (mod-eq_of_lt lt);
  canonical = λ x lt. tt;
  canonical_byte = λ x lt. tt;
}

pub error_context_is : (i : Id TypeComponentLocalErrorContextTables) → IsNumeric (ty.ErrorContext i) 4 flat_type.I32
error_context_is i = record {
  sized = scalar_size 4;
  flats = λ w. refl;
  fits = lit≤ tt;
  wide = refl;
  loads = λ side bytes a. refl;
  lifts = λ side bytes cs. refl;
  below = λ x lt. lt;
  same = λ x lt. refl;
  same_low = λ x lt. ap (λ k. value_of_number (handle ErrorContext i.number) k) (mod-eq_of_lt lt);
  canonical = λ x lt. tt;
  canonical_byte = λ x lt. tt;
}

-- those that ask for nothing
pub record IsScalar (p : InterfaceType) : Type 0 where
  pub size : ℕ
  pub flat : FlatType
  pub numeric : IsNumeric p size flat
  pub silent : IsSilent p

pub bool_scalar : IsScalar ty.Bool
bool_scalar = record { size = 1; flat = flat_type.I32; numeric = bool_is; silent = record { moves = λ tr s d. refl; stays = λ from v ns. refl; silent = λ from v. refl } }

pub s8_scalar : IsScalar ty.S8
s8_scalar = record { size = 1; flat = flat_type.I32; numeric = s8_is; silent = record { moves = λ tr s d. refl; stays = λ from v ns. refl; silent = λ from v. refl } }

pub u8_scalar : IsScalar ty.U8
u8_scalar = record { size = 1; flat = flat_type.I32; numeric = u8_is; silent = record { moves = λ tr s d. refl; stays = λ from v ns. refl; silent = λ from v. refl } }

pub s16_scalar : IsScalar ty.S16
s16_scalar = record { size = 2; flat = flat_type.I32; numeric = s16_is; silent = record { moves = λ tr s d. refl; stays = λ from v ns. refl; silent = λ from v. refl } }

pub u16_scalar : IsScalar ty.U16
u16_scalar = record { size = 2; flat = flat_type.I32; numeric = u16_is; silent = record { moves = λ tr s d. refl; stays = λ from v ns. refl; silent = λ from v. refl } }

pub s32_scalar : IsScalar ty.S32
s32_scalar = record { size = 4; flat = flat_type.I32; numeric = s32_is; silent = record { moves = λ tr s d. refl; stays = λ from v ns. refl; silent = λ from v. refl } }

pub u32_scalar : IsScalar ty.U32
u32_scalar = record { size = 4; flat = flat_type.I32; numeric = u32_is; silent = record { moves = λ tr s d. refl; stays = λ from v ns. refl; silent = λ from v. refl } }

pub s64_scalar : IsScalar ty.S64
s64_scalar = record { size = 8; flat = flat_type.I64; numeric = s64_is; silent = record { moves = λ tr s d. refl; stays = λ from v ns. refl; silent = λ from v. refl } }

pub u64_scalar : IsScalar ty.U64
u64_scalar = record { size = 8; flat = flat_type.I64; numeric = u64_is; silent = record { moves = λ tr s d. refl; stays = λ from v ns. refl; silent = λ from v. refl } }

pub float32_scalar : IsScalar ty.Float32
float32_scalar = record { size = 4; flat = flat_type.F32; numeric = float32_is; silent = record { moves = λ tr s d. refl; stays = λ from v ns. refl; silent = λ from v. refl } }

pub float64_scalar : IsScalar ty.Float64
float64_scalar = record { size = 8; flat = flat_type.F64; numeric = float64_is; silent = record { moves = λ tr s d. refl; stays = λ from v ns. refl; silent = λ from v. refl } }
