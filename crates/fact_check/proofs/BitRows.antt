-- What instructions make of numbers is as wide as its type.
use Rattle.std.proofs.Common.{◌≡◌, ℕ, zero, suc, ◌+◌, ◌-◌, ◌%◌, ◌^◌, ◌<◌, ◌≤◌, inl, inr, All, Bool, true, false, List, [], ◌∷◌, ◌++◌, Some, None, refl, subst, arith, lit<, length, get_or, take, drop}
use Rattle.std.specs.Prelude.{bit_and, bit_or, bit_xor, nat_lt, if◌then◌else◌}
use Rattle.std.proofs.Math.ListN.{get_or-eq_default}
use Rattle.std.proofs.Math.Nat.{div-le_self}
use Rattle.std.proofs.lemmas.Bool.{cases_lt, ltb-true}
use Rattle.std.proofs.lemmas.List.{length-drop, length-take-le}
use Rattle.std.proofs.lemmas.List.Elements.{All-append, All-drop, All-from_get_or, All-get_or, All-take}
use Rattle.std.proofs.lemmas.Nat.{and_le_l, mod_below, or_lt, xor_lt}
use Rattle.fact_wasm.specs.declared.instr.Instr.{Instr}
use Rattle.fact_wasm.specs.declared.instr.Instr.TheOpen as o
use Rattle.fact_wasm.specs.declared.instr.Instr.TheOpen.{Instr-F}
use Rattle.fact_machine.specs.declared.types.CoreValue.{CoreValue}
use Rattle.fact_machine.specs.declared.types.CoreValue.TheVariants.{I32, I64, F32, F64, Func}
use Rattle.fact_machine.specs.Machine.{size_value}
use Rattle.fact_machine.specs.Numerics.{iadd, isub, imul, ishl, ishr_u, truth, ieqz, ieq, ine, ilt_u, igt_u, ige_u, wrap_32, extend_s}
use Rattle.fact_machine.specs.Operands.{alike, binary_i32, binary_i64, operate, pick, unary_f32, unary_f64, unary_i32, unary_i64}
use Rattle.fact_machine.specs.Typed.{IsBits}
use Rattle.fact_machine.specs.World.{bytes_of, number_at, number_of, with_number}
use Rattle.fact_machine.proofs.Bytes.{bytes_of_below, number_below}
use Rattle.fact_check.specs.Constants.{AreBits}
use Rattle.fact_check.proofs.Bits.{row_constants}

-- ---- numbers

truth_32 : (b : Bool) → truth b < 2 ^ 32
truth_32 true = lit< tt
truth_32 false = lit< tt

mod_32 : (n : ℕ) → n % 2 ^ 32 < 2 ^ 32
mod_32 n = mod_below n (2 ^ 32) (lit< tt)

mod_64 : (n : ℕ) → n % 2 ^ 64 < 2 ^ 64
mod_64 n = mod_below n (2 ^ 64) (lit< tt)

less : (a b n : ℕ) → a ≤ b → b < n → a < n
less a b n h g = omega (arith, h, g)

extended : (low m n : ℕ) (b : Bool) → low < m → m ≤ n → (if b then low else low + (n - m)) < n
extended low m n true h g = omega (arith, h, g)
extended low m n false h g = omega (arith, h, g)

pub extended_8 : (i : ℕ) → extend_s 8 32 i < 2 ^ 32
extended_8 i = extended (i % 2 ^ 8) (2 ^ 8) (2 ^ 32) (nat_lt (i % 2 ^ 8) (2 ^ 7)) (mod_below i (2 ^ 8) (lit< tt)) (omega arith)

pub extended_16 : (i : ℕ) → extend_s 16 32 i < 2 ^ 32
extended_16 i = extended (i % 2 ^ 16) (2 ^ 16) (2 ^ 32) (nat_lt (i % 2 ^ 16) (2 ^ 15)) (mod_below i (2 ^ 16) (lit< tt)) (omega arith)

-- ---- memories

small : (bytes : List ℕ) → All (λ b. b < 256) bytes → (i : ℕ) → get_or bytes i 0 < 256
small bytes h i = elim (cases_lt i (length bytes)) [ inl lt ↦ All-get_or (λ b. b < 256) bytes i 0 lt h | inr ge ↦ (let e = get_or-eq_default bytes 0 ge in omega (arith, e)) ]

-- the number of so many bytes that are there
pub number_at_below : (n : ℕ) (bytes : List ℕ) (address : ℕ) → All (λ b. b < 256) bytes → address + n ≤ length bytes → number_at n bytes address < 256 ^ n
number_at_below n bytes address h le =
    let part : List ℕ = take n (drop address bytes) in
    let rest = length-drop address bytes in
    let long : length part ≡ n = length-take-le n (drop address bytes) (omega (arith, rest, le)) in
    subst (λ m. number_of part < 256 ^ m) long (number_below part (small part (All-take (λ b. b < 256) n (drop address bytes) (All-drop (λ b. b < 256) address bytes h))))

-- bytes of a number among others
pub with_number_bytes : (n : ℕ) (bytes : List ℕ) (address value : ℕ) → All (λ b. b < 256) bytes → All (λ b. b < 256) (with_number n bytes address value)
with_number_bytes n bytes address value h =
    All-append (λ b. b < 256) (take address bytes) (bytes_of n value ++ drop (address + length (bytes_of n value)) bytes) (All-take (λ b. b < 256) address bytes h)
    (All-append (λ b. b < 256) (bytes_of n value) (drop (address + length (bytes_of n value)) bytes) (All-from_get_or (λ b. b < 256) (bytes_of n value) 0 (λ i lt. bytes_of_below n value i)) (All-drop (λ b. b < 256) (address + length (bytes_of n value)) bytes h))

size_by : (n bound : ℕ) (v : ℕ → CoreValue) (b : Bool) (u : CoreValue) → nat_lt n bound ≡ b → (n < bound → IsBits (v n)) → (if b then Some (v n) else None) ≡ Some u → IsBits u
size_by n bound v true u e h g = let same : v n ≡ u = cc in subst IsBits same (h (ltb-true n bound e))
size_by n bound v false u e h g = cc

pub size_bits : (wide : Bool) (n : ℕ) (v : CoreValue) → size_value wide n ≡ Some v → IsBits v
size_bits true n v e = size_by n (2 ^ 64) (λ k. I64 k) (nat_lt n (2 ^ 64)) v refl (λ h. h) e
size_bits false n v e = size_by n (2 ^ 32) (λ k. I32 k) (nat_lt n (2 ^ 32)) v refl (λ h. h) e

-- ---- rows of the operand stack

unary32 : (f : ℕ → CoreValue) → ((i : ℕ) → i < 2 ^ 32 → IsBits (f i)) → (vs us : List CoreValue) → AreBits vs → unary_i32 f vs ≡ Some us → AreBits us
unary32 f each [] us h e = cc
unary32 f each (I32 i ∷ vs) us h e = let same : f i ∷ vs ≡ us = cc in subst AreBits same (each i h.0, h.1)
unary32 f each (I64 i ∷ vs) us h e = cc
unary32 f each (F32 i ∷ vs) us h e = cc
unary32 f each (F64 i ∷ vs) us h e = cc
unary32 f each (Func i ∷ vs) us h e = cc

unary64 : (f : ℕ → CoreValue) → ((i : ℕ) → i < 2 ^ 64 → IsBits (f i)) → (vs us : List CoreValue) → AreBits vs → unary_i64 f vs ≡ Some us → AreBits us
unary64 f each [] us h e = cc
unary64 f each (I32 i ∷ vs) us h e = cc
unary64 f each (I64 i ∷ vs) us h e = let same : f i ∷ vs ≡ us = cc in subst AreBits same (each i h.0, h.1)
unary64 f each (F32 i ∷ vs) us h e = cc
unary64 f each (F64 i ∷ vs) us h e = cc
unary64 f each (Func i ∷ vs) us h e = cc

float32 : (f : ℕ → CoreValue) → ((i : ℕ) → i < 2 ^ 32 → IsBits (f i)) → (vs us : List CoreValue) → AreBits vs → unary_f32 f vs ≡ Some us → AreBits us
float32 f each [] us h e = cc
float32 f each (I32 i ∷ vs) us h e = cc
float32 f each (I64 i ∷ vs) us h e = cc
float32 f each (F32 i ∷ vs) us h e = let same : f i ∷ vs ≡ us = cc in subst AreBits same (each i h.0, h.1)
float32 f each (F64 i ∷ vs) us h e = cc
float32 f each (Func i ∷ vs) us h e = cc

float64 : (f : ℕ → CoreValue) → ((i : ℕ) → i < 2 ^ 64 → IsBits (f i)) → (vs us : List CoreValue) → AreBits vs → unary_f64 f vs ≡ Some us → AreBits us
float64 f each [] us h e = cc
float64 f each (I32 i ∷ vs) us h e = cc
float64 f each (I64 i ∷ vs) us h e = cc
float64 f each (F32 i ∷ vs) us h e = cc
float64 f each (F64 i ∷ vs) us h e = let same : f i ∷ vs ≡ us = cc in subst AreBits same (each i h.0, h.1)
float64 f each (Func i ∷ vs) us h e = cc

-- by the operand below the top
second32 : (f : ℕ → ℕ → CoreValue) → ((i j : ℕ) → i < 2 ^ 32 → j < 2 ^ 32 → IsBits (f i j)) → (j : ℕ) (vs us : List CoreValue) → j < 2 ^ 32 → AreBits vs → binary_i32 f (I32 j ∷ vs) ≡ Some us → AreBits us
second32 f each j [] us k h e = cc
second32 f each j (I32 i ∷ vs) us k h e = let same : f i j ∷ vs ≡ us = cc in subst AreBits same (each i j h.0 k, h.1)
second32 f each j (I64 i ∷ vs) us k h e = cc
second32 f each j (F32 i ∷ vs) us k h e = cc
second32 f each j (F64 i ∷ vs) us k h e = cc
second32 f each j (Func i ∷ vs) us k h e = cc

binary32 : (f : ℕ → ℕ → CoreValue) → ((i j : ℕ) → i < 2 ^ 32 → j < 2 ^ 32 → IsBits (f i j)) → (vs us : List CoreValue) → AreBits vs → binary_i32 f vs ≡ Some us → AreBits us
binary32 f each [] us h e = cc
binary32 f each (I32 j ∷ vs) us h e = second32 f each j vs us h.0 h.1 e
binary32 f each (I64 i ∷ vs) us h e = cc
binary32 f each (F32 i ∷ vs) us h e = cc
binary32 f each (F64 i ∷ vs) us h e = cc
binary32 f each (Func i ∷ vs) us h e = cc

second64 : (f : ℕ → ℕ → CoreValue) → ((i j : ℕ) → i < 2 ^ 64 → j < 2 ^ 64 → IsBits (f i j)) → (j : ℕ) (vs us : List CoreValue) → j < 2 ^ 64 → AreBits vs → binary_i64 f (I64 j ∷ vs) ≡ Some us → AreBits us
second64 f each j [] us k h e = cc
second64 f each j (I32 i ∷ vs) us k h e = cc
second64 f each j (I64 i ∷ vs) us k h e = let same : f i j ∷ vs ≡ us = cc in subst AreBits same (each i j h.0 k, h.1)
second64 f each j (F32 i ∷ vs) us k h e = cc
second64 f each j (F64 i ∷ vs) us k h e = cc
second64 f each j (Func i ∷ vs) us k h e = cc

binary64 : (f : ℕ → ℕ → CoreValue) → ((i j : ℕ) → i < 2 ^ 64 → j < 2 ^ 64 → IsBits (f i j)) → (vs us : List CoreValue) → AreBits vs → binary_i64 f vs ≡ Some us → AreBits us
binary64 f each [] us h e = cc
binary64 f each (I32 i ∷ vs) us h e = cc
binary64 f each (I64 j ∷ vs) us h e = second64 f each j vs us h.0 h.1 e
binary64 f each (F32 i ∷ vs) us h e = cc
binary64 f each (F64 i ∷ vs) us h e = cc
binary64 f each (Func i ∷ vs) us h e = cc

picked : (c : ℕ) (u v : CoreValue) → IsBits u → IsBits v → IsBits (pick c u v)
picked zero u v h g = g
picked (suc c) u v h g = h

selected : (c : ℕ) (vs us : List CoreValue) → AreBits vs → operate o.Select (I32 c ∷ vs) ≡ Some us → AreBits us
selected c [] us h e = cc
selected c (v ∷ []) us h e = cc
selected c (v ∷ u ∷ vs) us h e = by (alike u v) e
  where
    by : (b : Bool) → (if b then Some (pick c u v ∷ vs) else None) ≡ Some us → AreBits us
    by true q = let same : pick c u v ∷ vs ≡ us = cc in subst AreBits same (picked c u v h.1.0 h.0, h.1.1)
    by false q = cc

selects : (vs us : List CoreValue) → AreBits vs → operate o.Select vs ≡ Some us → AreBits us
selects [] us h e = cc
selects (I32 c ∷ vs) us h e = selected c vs us h.1 e
selects (I64 i ∷ vs) us h e = cc
selects (F32 i ∷ vs) us h e = cc
selects (F64 i ∷ vs) us h e = cc
selects (Func i ∷ vs) us h e = cc

drops : (vs us : List CoreValue) → AreBits vs → operate o.Drop vs ≡ Some us → AreBits us
drops [] us h e = cc
drops (v ∷ vs) us h e = let same : vs ≡ us = cc in subst AreBits same h.1

constant : (v : CoreValue) (vs us : List CoreValue) → AreBits (v ∷ []) → AreBits vs → Some (v ∷ vs) ≡ Some us → AreBits us
constant v vs us b h e = let same : v ∷ vs ≡ us = cc in subst AreBits same (b.0, h)

-- what an instruction makes of the stack alone
pub operated : (y : Instr-F Instr) (vs us : List CoreValue) → AreBits (row_constants y) → AreBits vs → operate y vs ≡ Some us → AreBits us
operated o.Drop vs us c h e = drops vs us h e
operated o.Select vs us c h e = selects vs us h e
operated (o.I32Const n) vs us c h e = constant (I32 n) vs us c h e
operated (o.I64Const n) vs us c h e = constant (I64 n) vs us c h e
operated (o.F32Const n) vs us c h e = constant (F32 n) vs us c h e
operated (o.F64Const n) vs us c h e = constant (F64 n) vs us c h e
operated o.I32Eqz vs us c h e = unary32 (λ i. I32 (ieqz i)) (λ i p. truth_32 _) vs us h e
operated o.I32Eq vs us c h e = binary32 (λ i j. I32 (ieq i j)) (λ i j p q. truth_32 _) vs us h e
operated o.I32Ne vs us c h e = binary32 (λ i j. I32 (ine i j)) (λ i j p q. truth_32 _) vs us h e
operated o.I32LtU vs us c h e = binary32 (λ i j. I32 (ilt_u i j)) (λ i j p q. truth_32 _) vs us h e
operated o.I32GtU vs us c h e = binary32 (λ i j. I32 (igt_u i j)) (λ i j p q. truth_32 _) vs us h e
operated o.I32GeU vs us c h e = binary32 (λ i j. I32 (ige_u i j)) (λ i j p q. truth_32 _) vs us h e
operated o.I64Eqz vs us c h e = unary64 (λ i. I32 (ieqz i)) (λ i p. truth_32 _) vs us h e
operated o.I64Eq vs us c h e = binary64 (λ i j. I32 (ieq i j)) (λ i j p q. truth_32 _) vs us h e
operated o.I64Ne vs us c h e = binary64 (λ i j. I32 (ine i j)) (λ i j p q. truth_32 _) vs us h e
operated o.I64LtU vs us c h e = binary64 (λ i j. I32 (ilt_u i j)) (λ i j p q. truth_32 _) vs us h e
operated o.I64GtU vs us c h e = binary64 (λ i j. I32 (igt_u i j)) (λ i j p q. truth_32 _) vs us h e
operated o.I64GeU vs us c h e = binary64 (λ i j. I32 (ige_u i j)) (λ i j p q. truth_32 _) vs us h e
operated o.I32Add vs us c h e = binary32 (λ i j. I32 (iadd 32 i j)) (λ i j p q. mod_32 _) vs us h e
operated o.I32Sub vs us c h e = binary32 (λ i j. I32 (isub 32 i j)) (λ i j p q. mod_32 _) vs us h e
operated o.I32Mul vs us c h e = binary32 (λ i j. I32 (imul 32 i j)) (λ i j p q. mod_32 _) vs us h e
operated o.I32And vs us c h e = binary32 (λ i j. I32 (bit_and i j)) (λ i j p q. less (bit_and i j) i (2 ^ 32) (and_le_l i j) p) vs us h e
operated o.I32Or vs us c h e = binary32 (λ i j. I32 (bit_or i j)) (λ i j p q. or_lt 32 i j p q) vs us h e
operated o.I32Xor vs us c h e = binary32 (λ i j. I32 (bit_xor i j)) (λ i j p q. xor_lt 32 i j p q) vs us h e
operated o.I32Shl vs us c h e = binary32 (λ i j. I32 (ishl 32 i j)) (λ i j p q. mod_32 _) vs us h e
operated o.I32ShrU vs us c h e = binary32 (λ i j. I32 (ishr_u 32 i j)) (λ i j p q. less (ishr_u 32 i j) i (2 ^ 32) (div-le_self i (2 ^ (j % 32))) p) vs us h e
operated o.I64Add vs us c h e = binary64 (λ i j. I64 (iadd 64 i j)) (λ i j p q. mod_64 _) vs us h e
operated o.I64Sub vs us c h e = binary64 (λ i j. I64 (isub 64 i j)) (λ i j p q. mod_64 _) vs us h e
operated o.I64Mul vs us c h e = binary64 (λ i j. I64 (imul 64 i j)) (λ i j p q. mod_64 _) vs us h e
operated o.I64And vs us c h e = binary64 (λ i j. I64 (bit_and i j)) (λ i j p q. less (bit_and i j) i (2 ^ 64) (and_le_l i j) p) vs us h e
operated o.I64Or vs us c h e = binary64 (λ i j. I64 (bit_or i j)) (λ i j p q. or_lt 64 i j p q) vs us h e
operated o.I64Xor vs us c h e = binary64 (λ i j. I64 (bit_xor i j)) (λ i j p q. xor_lt 64 i j p q) vs us h e
operated o.I64Shl vs us c h e = binary64 (λ i j. I64 (ishl 64 i j)) (λ i j p q. mod_64 _) vs us h e
operated o.I64ShrU vs us c h e = binary64 (λ i j. I64 (ishr_u 64 i j)) (λ i j p q. less (ishr_u 64 i j) i (2 ^ 64) (div-le_self i (2 ^ (j % 64))) p) vs us h e
operated o.I32WrapI64 vs us c h e = unary64 (λ i. I32 (wrap_32 i)) (λ i p. mod_32 i) vs us h e
operated o.I64ExtendI32U vs us c h e = unary32 (λ i. I64 i) (λ i p. less i (2 ^ 32) (2 ^ 64) (omega (arith, p)) (lit< tt)) vs us h e
operated o.I32ReinterpretF32 vs us c h e = float32 (λ i. I32 i) (λ i p. p) vs us h e
operated o.I64ReinterpretF64 vs us c h e = float64 (λ i. I64 i) (λ i p. p) vs us h e
operated o.F32ReinterpretI32 vs us c h e = unary32 (λ i. F32 i) (λ i p. p) vs us h e
operated o.F64ReinterpretI64 vs us c h e = unary64 (λ i. F64 i) (λ i p. p) vs us h e
operated o.I32Extend8S vs us c h e = unary32 (λ i. I32 (extend_s 8 32 i)) (λ i p. extended_8 i) vs us h e
operated o.I32Extend16S vs us c h e = unary32 (λ i. I32 (extend_s 16 32 i)) (λ i p. extended_16 i) vs us h e
operated _ vs us c h e = cc
