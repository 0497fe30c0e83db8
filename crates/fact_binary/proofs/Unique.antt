-- No spelling of an instruction begins another.
use Rattle.std.proofs.Common.{◌≡◌, ℕ, ℤ, pos, negsuc, suc, ◌+◌, ◌-◌, ◌*◌, ◌^◌, ◌<◌, ◌≤◌, Bool, true, false, cond, eqb, List, [], ◌∷◌, ◌++◌, length, map, refl, sym, ap, subst, ◌∙◌, append_assoc, arith, inl, inr}
use Rattle.std.specs.List.{flat_map, AllByRecursion}
use Rattle.std.specs.Int.{w32, w64, cast_signed, to_le_bytes, from_le_bytes}
use Rattle.std.proofs.lemmas.List.Concat.{flat_map-cons}
use Rattle.std.proofs.lemmas.Bool.{eqb-true, cases_lt, lt-ltb, le-ltb}
use Rattle.std.proofs.lemmas.Nat.{from_le_bytes-to_le_bytes_4, from_le_bytes-to_le_bytes_8}
use Rattle.fact_binary.specs.Numbers.{unsigned, signed, groups, count, needed, magnitude}
use Rattle.fact_wasm.specs.declared.types.ValType.{ValType}
use Rattle.fact_wasm.specs.declared.types.ValType.TheVariants as val
use Rattle.fact_wasm.specs.declared.instr.BlockType.{BlockType}
use Rattle.fact_wasm.specs.declared.instr.BlockType.TheVariants as typ
use Rattle.fact_wasm.specs.declared.instr.MemArg.{MemArg}
use Rattle.fact_binary.specs.Answers.{IsEnd}
use Rattle.fact_binary.specs.Grammar.{Arg, Index, Int32, Int64, Float32, Float64, Typ, Memory, Labels, Catches, kind, val_type, block_type, list, memarg, catch_all, arg, args, IsIndex, IsBlockType, IsMemArg, IsArg, InstrNode, Leaf, Nest, Choice, Nodes, Nil, Cons, choice_end, code, codes, NoShape, shape, IsNode, AreNodes}
use Rattle.fact_binary.proofs.Signed.{even}
use Rattle.fact_binary.proofs.Groups.{last, more, groups-first, groups-some, unsigned-unique, groups-unique, needed-positive, needed-holds, count-positive, count-holds}

-- what begins another is it, for the values in P
abbrev pub IsPrefixFree : {A : Type 0} → (A → List ℕ) → (A → Type 0) → Type 0
IsPrefixFree f P = (x y : _) (r s : List ℕ) → P x → P y → f x ++ r ≡ f y ++ s → (x ≡ y) × (r ≡ s)

-- lists of such items, as far as their spelling tells them
module _ {A B : Type 0} (key : A → B) (f : A → List ℕ) (P : A → Type 0) (one : (x y : A) (r s : List ℕ) → P x → P y → f x ++ r ≡ f y ++ s → (key x ≡ key y) × (r ≡ s)) where
  pub flat_map-unique : (xs ys : List A) (r s : List ℕ) → AllByRecursion P xs → AllByRecursion P ys → length xs ≡ length ys → flat_map f xs ++ r ≡ flat_map f ys ++ s → (map key xs ≡ map key ys) × (r ≡ s)
  flat_map-unique [] [] r s p q n e = (refl, e)
  flat_map-unique [] (y ∷ ys) r s p q n e = absurd (omega arith)
  flat_map-unique (x ∷ xs) [] r s p q n e = absurd (omega arith)
  flat_map-unique (x ∷ xs) (y ∷ ys) r s p q n e =
      let split = rw (flat_map-cons f x xs, flat_map-cons f y ys, append_assoc, append_assoc) at e in
      let first = one x y (flat_map f xs ++ r) (flat_map f ys ++ s) p.0 q.0 split in
      let rest = flat_map-unique xs ys r s p.1 q.1 (omega arith) first.1 in
      (cc (first.0, rest.0), rest.1)

  pub list-unique : (xs ys : List A) (r s : List ℕ) → length xs < 2 ^ 32 → length ys < 2 ^ 32 → AllByRecursion P xs → AllByRecursion P ys → list f xs ++ r ≡ list f ys ++ s → (map key xs ≡ map key ys) × (r ≡ s)
  list-unique xs ys r s m n p q e =
      let split = rw (append_assoc, append_assoc) at e in
      let first = unsigned-unique (length xs) (length ys) (flat_map f xs ++ r) (flat_map f ys ++ s) (omega arith) (omega arith) split in
      flat_map-unique xs ys r s p q first.0 first.1

map-self : {A : Type 0} → (xs : List A) → map (λ x. x) xs ≡ xs
map-self [] = refl
map-self (x ∷ xs) = ap (λ ys. x ∷ ys) (map-self xs)

pub lists-unique : {A : Type 0} → (f : A → List ℕ) (P : A → Type 0) → IsPrefixFree f P → (xs ys : List A) (r s : List ℕ) → length xs < 2 ^ 32 → length ys < 2 ^ 32 → AllByRecursion P xs → AllByRecursion P ys → list f xs ++ r ≡ list f ys ++ s → (xs ≡ ys) × (r ≡ s)
lists-unique f P one xs ys r s m n p q e =
    let u = list-unique (λ x. x) f P one xs ys r s m n p q e in
    (sym (map-self xs) ∙ u.0 ∙ map-self ys, u.1)

heads : (a b : ℕ) (x y : List ℕ) → a ∷ x ≡ b ∷ y → a ≡ b
heads a b x y e = cc

pub index_unique : IsPrefixFree unsigned IsIndex
index_unique x y r s p q e = unsigned-unique x y r s (omega arith) (omega arith) e

catch_unique : IsPrefixFree catch_all IsIndex
catch_unique x y r s p q e = let rest : unsigned x ++ r ≡ unsigned y ++ s = cc in index_unique x y r s p q rest

-- lists of one length, before what follows
four : (a b c d a2 b2 c2 d2 : ℕ) (r s : List ℕ) → a ∷ b ∷ c ∷ d ∷ r ≡ a2 ∷ b2 ∷ c2 ∷ d2 ∷ s → (a ∷ b ∷ c ∷ d ∷ [] ≡ a2 ∷ b2 ∷ c2 ∷ d2 ∷ []) × (r ≡ s)
four a b c d a2 b2 c2 d2 r s p = (cc, cc)

eight : (a b c d e f g h : ℕ) (a2 b2 c2 d2 e2 f2 g2 h2 : ℕ) (r s : List ℕ) → a ∷ b ∷ c ∷ d ∷ e ∷ f ∷ g ∷ h ∷ r ≡ a2 ∷ b2 ∷ c2 ∷ d2 ∷ e2 ∷ f2 ∷ g2 ∷ h2 ∷ s → (a ∷ b ∷ c ∷ d ∷ e ∷ f ∷ g ∷ h ∷ [] ≡ a2 ∷ b2 ∷ c2 ∷ d2 ∷ e2 ∷ f2 ∷ g2 ∷ h2 ∷ []) × (r ≡ s)
eight a b c d e f g h a2 b2 c2 d2 e2 f2 g2 h2 r s p = (cc, cc)

f32-unique : IsPrefixFree (to_le_bytes w32) (λ n. n < 2 ^ 32)
f32-unique x y r s p q e =
    let u = four _ _ _ _ _ _ _ _ r s e in
    (sym (from_le_bytes-to_le_bytes_4 x p) ∙ ap (from_le_bytes w32) u.0 ∙ from_le_bytes-to_le_bytes_4 y q, u.1)

f64-unique : IsPrefixFree (to_le_bytes w64) (λ n. n < 2 ^ 64)
f64-unique x y r s p q e =
    let u = eight _ _ _ _ _ _ _ _ _ _ _ _ _ _ _ _ r s e in
    (sym (from_le_bytes-to_le_bytes_8 x p) ∙ ap (from_le_bytes w64) u.0 ∙ from_le_bytes-to_le_bytes_8 y q, u.1)

-- ---- signed numbers

pub signed-unique : (y z : ℤ) (r s : List ℕ) → magnitude y < 2 ^ 63 → magnitude z < 2 ^ 63 → signed y ++ r ≡ signed z ++ s → (y ≡ z) × (r ≡ s)
signed-unique (pos m) (pos n) r s p q e =
    let a = count-holds (2 * m) (omega arith) in
    let b = count-holds (2 * n) (omega arith) in
    let u = groups-unique (count (2 * m)) m (count (2 * n)) n r s (count-positive (2 * m)) (count-positive (2 * n)) (omega (arith, a)) (omega (arith, b)) e in
    (ap pos u.1, u.2)
signed-unique (pos m) (negsuc n) r s p q e =
    let a = count-holds (2 * m) (omega arith) in
    let b = count-holds (2 * n) (omega arith) in
    let h = even (count (2 * n)) (count-positive (2 * n)) in
    let u = groups-unique (count (2 * m)) m (count (2 * n)) (128 ^ count (2 * n) - 1 - n) r s (count-positive (2 * m)) (count-positive (2 * n)) (omega (arith, a)) (omega (arith, b)) e in
    let same : 128 ^ count (2 * m) ≡ 128 ^ count (2 * n) = ap (λ (k : ℕ). 128 ^ k) u.0 in
    absurd (omega (arith, a, b, h.1, u.1, same))
signed-unique (negsuc m) (pos n) r s p q e =
    let a = count-holds (2 * m) (omega arith) in
    let b = count-holds (2 * n) (omega arith) in
    let h = even (count (2 * n)) (count-positive (2 * n)) in
    let u = groups-unique (count (2 * m)) (128 ^ count (2 * m) - 1 - m) (count (2 * n)) n r s (count-positive (2 * m)) (count-positive (2 * n)) (omega (arith, a)) (omega (arith, b)) e in
    let same : 128 ^ count (2 * m) ≡ 128 ^ count (2 * n) = ap (λ (k : ℕ). 128 ^ k) u.0 in
    absurd (omega (arith, a, b, h.1, u.1, same))
signed-unique (negsuc m) (negsuc n) r s p q e =
    let a = count-holds (2 * m) (omega arith) in
    let b = count-holds (2 * n) (omega arith) in
    let u = groups-unique (count (2 * m)) (128 ^ count (2 * m) - 1 - m) (count (2 * n)) (128 ^ count (2 * n) - 1 - n) r s (count-positive (2 * m)) (count-positive (2 * n)) (omega (arith, a)) (omega (arith, b)) e in
    let same : 128 ^ count (2 * m) ≡ 128 ^ count (2 * n) = ap (λ (k : ℕ). 128 ^ k) u.0 in
    let even : m ≡ n = omega (arith, a, b, u.1, same) in
    (ap negsuc even, u.2)

-- which number the bits of a constant are, half being half the number of values
pub data Cast (half x : ℕ) (z : ℤ) : Type 0 where
  Low : x < half → z ≡ pos x → Cast half x z
  High : half ≤ x → z ≡ negsuc (2 * half - suc x) → Cast half x z

pub cast-int32 : (x : ℕ) → Cast (2 ^ 31) x (cast_signed w32 x)
cast-int32 x = elim (cases_lt x (2 ^ 31)) [
  | inl lt ↦ Low lt (rw (lt-ltb x (2 ^ 31) lt) refl)
  | inr le ↦ High le (rw (le-ltb x (2 ^ 31) le) refl)
]

pub cast-int64 : (x : ℕ) → Cast (2 ^ 63) x (cast_signed w64 x)
cast-int64 x = elim (cases_lt x (2 ^ 63)) [
  | inl lt ↦ Low lt (rw (lt-ltb x (2 ^ 63) lt) refl)
  | inr le ↦ High le (rw (le-ltb x (2 ^ 63) le) refl)
]

pub cast-within : (half x : ℕ) (z : ℤ) → x < 2 * half → Cast half x z → magnitude z < half
cast-within half x z h (Low lt e) = rw e lt
cast-within half x z h (High le e) = rw e (omega arith)

cast-same : (half x y : ℕ) (z : ℤ) → x < 2 * half → y < 2 * half → Cast half x z → Cast half y z → x ≡ y
cast-same half x y z p q (Low _ e) (Low _ f) = let g : pos x ≡ pos y = sym e ∙ f in cc
cast-same half x y z p q (Low _ e) (High _ f) = let g : pos x ≡ negsuc (2 * half - suc y) = sym e ∙ f in absurd cc
cast-same half x y z p q (High _ e) (Low _ f) = let g : pos y ≡ negsuc (2 * half - suc x) = sym f ∙ e in absurd cc
cast-same half x y z p q (High a e) (High b f) = let g : negsuc (2 * half - suc x) ≡ negsuc (2 * half - suc y) = sym e ∙ f in let h : 2 * half - suc x ≡ 2 * half - suc y = cc in omega arith

module _ (half : ℕ) (bound : half ≤ 2 ^ 63) (cast : ℕ → ℤ) (is : (x : ℕ) → Cast half x (cast x)) where
  cast-unique : IsPrefixFree (λ x. signed (cast x)) (λ x. x < 2 * half)
  cast-unique x y r s p q e =
      let u = signed-unique (cast x) (cast y) r s (omega (arith, cast-within half x (cast x) p (is x))) (omega (arith, cast-within half y (cast y) q (is y))) e in
      (cast-same half x y (cast x) p q (is x) (subst (Cast half y) (sym u.0) (is y)), u.1)

int32-unique : IsPrefixFree (λ x. signed (cast_signed w32 x)) (λ x. x < 2 ^ 32)
int32-unique = cast-unique (2 ^ 31) (omega arith) (cast_signed w32) cast-int32

int64-unique : IsPrefixFree (λ x. signed (cast_signed w64 x)) (λ x. x < 2 ^ 64)
int64-unique = cast-unique (2 ^ 63) (omega arith) (cast_signed w64) cast-int64

-- the value type that a byte stands for
abbrev type_of : ℕ → ValType
type_of b = cond (eqb b 0x7F) val.I32 (cond (eqb b 0x7E) val.I64 (cond (eqb b 0x7D) val.F32 (cond (eqb b 0x7C) val.F64 val.FuncRef)))

type_of_val : (x : ValType) → type_of (val_type x) ≡ x
type_of_val val.I32 = refl
type_of_val val.I64 = refl
type_of_val val.F32 = refl
type_of_val val.F64 = refl
type_of_val val.FuncRef = refl

pub val_type-unique : (x y : ValType) → val_type x ≡ val_type y → x ≡ y
val_type-unique x y e = sym (type_of_val x) ∙ ap type_of e ∙ type_of_val y

val_type-high : (x : ValType) → (64 < val_type x) × (val_type x < 128)
val_type-high val.I32 = (omega arith, omega arith)
val_type-high val.I64 = (omega arith, omega arith)
val_type-high val.F32 = (omega arith, omega arith)
val_type-high val.F64 = (omega arith, omega arith)
val_type-high val.FuncRef = (omega arith, omega arith)

-- an index begins with a byte outside 64 to 127
index-begins : (n b : ℕ) (r t : List ℕ) → n < 2 ^ 32 → 64 ≤ b → b < 128 → groups (count (2 * n)) n ++ r ≡ b ∷ t → ⊥
unfolding count
index-begins n b r t p low high e =
    let pos = needed-positive 9 (2 * n) in
    let holds = needed-holds 9 (2 * n) (omega arith) in
    elim (groups-first b t (needed 9 (2 * n)) n r pos (omega (arith, holds)) (sym e)) [
      | last _ one same _ ↦ let h : 2 * n < 128 = rw one at holds in omega (arith, h, same)
      | more le _ _ _ _ _ _ ↦ omega (arith, le)
    ]

index-unique : (m n : ℕ) (r s : List ℕ) → m < 2 ^ 32 → n < 2 ^ 32 → groups (count (2 * m)) m ++ r ≡ groups (count (2 * n)) n ++ s → (m ≡ n) × (r ≡ s)
unfolding count
index-unique m n r s p q e =
    let h = needed-holds 9 (2 * m) (omega arith) in
    let k = needed-holds 9 (2 * n) (omega arith) in
    let u = groups-unique (needed 9 (2 * m)) m (needed 9 (2 * n)) n r s (needed-positive 9 (2 * m)) (needed-positive 9 (2 * n)) (omega (arith, h)) (omega (arith, k)) e in
    (u.1, u.2)

pub type-unique : IsPrefixFree block_type IsBlockType
type-unique typ.Empty typ.Empty r s p q e = (refl, cc)
type-unique typ.Empty (typ.Result t) r s p q e = let h = val_type-high t in absurd (omega (arith, h.0, heads 0x40 (val_type t) r s e))
type-unique typ.Empty (typ.FunctionType n) r s p q e = absurd (index-begins n 0x40 s r q (omega arith) (omega arith) (sym e))
type-unique (typ.Result t) typ.Empty r s p q e = let h = val_type-high t in absurd (omega (arith, h.0, heads (val_type t) 0x40 r s e))
type-unique (typ.Result t) (typ.Result u) r s p q e = (ap typ.Result (val_type-unique t u (heads (val_type t) (val_type u) r s e)), cc)
type-unique (typ.Result t) (typ.FunctionType n) r s p q e = let h = val_type-high t in absurd (index-begins n (val_type t) s r q (omega (arith, h.0)) h.1 (sym e))
type-unique (typ.FunctionType m) typ.Empty r s p q e = absurd (index-begins m 0x40 r s p (omega arith) (omega arith) e)
type-unique (typ.FunctionType m) (typ.Result t) r s p q e = let h = val_type-high t in absurd (index-begins m (val_type t) r s p (omega (arith, h.0)) h.1 e)
type-unique (typ.FunctionType m) (typ.FunctionType n) r s p q e = let u = index-unique m n r s p q e in (ap typ.FunctionType u.0, u.1)

begin_of : (xs : List ℕ) → (xs ≡ [] → ⊥) → (b : ℕ) × (tail : List ℕ) × (xs ≡ b ∷ tail)
begin_of [] h = absurd (h refl)
begin_of (b ∷ tail) h = (b, tail, refl)

-- a block type is spelled by a byte at least
pub type-begins : (t : BlockType) (rest : List ℕ) → (b : ℕ) × (tail : List ℕ) × (block_type t ++ rest ≡ b ∷ tail)
type-begins typ.Empty rest = (0x40, rest, refl)
type-begins (typ.Result t) rest = (val_type t, rest, refl)
type-begins (typ.FunctionType n) rest = begin_of (groups (count (2 * n)) n ++ rest) (groups-some (count (2 * n)) n rest (count-positive (2 * n)))

-- a memarg, whose index may be 0
mem-cases : (x y : MemArg) (b c : Bool) (r s : List ℕ) → eqb x.memory_index 0 ≡ b → eqb y.memory_index 0 ≡ c → IsMemArg x → IsMemArg y
    → cond b (unsigned x.align ++ unsigned x.offset) (unsigned (x.align + 64) ++ (unsigned x.memory_index ++ unsigned x.offset)) ++ r
    ≡ cond c (unsigned y.align ++ unsigned y.offset) (unsigned (y.align + 64) ++ (unsigned y.memory_index ++ unsigned y.offset)) ++ s
    → (x.offset ≡ y.offset) × (x.align ≡ y.align) × (x.memory_index ≡ y.memory_index) × (r ≡ s)
mem-cases x y true true r s b c p q e =
    let u = unsigned-unique x.align y.align (unsigned x.offset ++ r) (unsigned y.offset ++ s) (omega (arith, p.0)) (omega (arith, q.0)) (rw (append_assoc, append_assoc) at e) in
    let v = unsigned-unique x.offset y.offset r s (omega (arith, p.1)) (omega (arith, q.1)) u.1 in
    (v.0, u.0, eqb-true _ _ b ∙ sym (eqb-true _ _ c), v.1)
mem-cases x y true false r s b c p q e =
    let u = unsigned-unique x.align (y.align + 64) (unsigned x.offset ++ r) ((unsigned y.memory_index ++ unsigned y.offset) ++ s) (omega (arith, p.0)) (omega (arith, q.0)) (sym (append_assoc (unsigned x.align) (unsigned x.offset) r) ∙ e ∙ append_assoc (unsigned (y.align + 64)) (unsigned y.memory_index ++ unsigned y.offset) s) in
    absurd (omega (arith, u.0, p.0))
mem-cases x y false true r s b c p q e =
    let u = unsigned-unique (x.align + 64) y.align ((unsigned x.memory_index ++ unsigned x.offset) ++ r) (unsigned y.offset ++ s) (omega (arith, p.0)) (omega (arith, q.0)) (sym (append_assoc (unsigned (x.align + 64)) (unsigned x.memory_index ++ unsigned x.offset) r) ∙ e ∙ append_assoc (unsigned y.align) (unsigned y.offset) s) in
    absurd (omega (arith, u.0, q.0))
mem-cases x y false false r s b c p q e =
    let u = unsigned-unique (x.align + 64) (y.align + 64) ((unsigned x.memory_index ++ unsigned x.offset) ++ r) ((unsigned y.memory_index ++ unsigned y.offset) ++ s) (omega (arith, p.0)) (omega (arith, q.0)) (sym (append_assoc (unsigned (x.align + 64)) (unsigned x.memory_index ++ unsigned x.offset) r) ∙ e ∙ append_assoc (unsigned (y.align + 64)) (unsigned y.memory_index ++ unsigned y.offset) s) in
    let v = unsigned-unique x.memory_index y.memory_index (unsigned x.offset ++ r) (unsigned y.offset ++ s) (omega (arith, p.2)) (omega (arith, q.2)) (sym (append_assoc (unsigned x.memory_index) (unsigned x.offset) r) ∙ u.1 ∙ append_assoc (unsigned y.memory_index) (unsigned y.offset) s) in
    let w = unsigned-unique x.offset y.offset r s (omega (arith, p.1)) (omega (arith, q.1)) v.1 in
    (w.0, omega (arith, u.0), v.0, w.1)

abbrev mem_of : ℕ → ℕ → ℕ → MemArg
mem_of o a i = record { offset = o; align = a; memory_index = i }

mem-same : (x y : MemArg) → x.offset ≡ y.offset → x.align ≡ y.align → x.memory_index ≡ y.memory_index → x ≡ y
mem-same x y o a i = ap (λ (n : ℕ). mem_of n x.align x.memory_index) o ∙ ap (λ (n : ℕ). mem_of y.offset n x.memory_index) a ∙ ap (λ (n : ℕ). mem_of y.offset y.align n) i

pub mem-unique : IsPrefixFree memarg IsMemArg
mem-unique x y r s p q e =
    let u = mem-cases x y (eqb x.memory_index 0) (eqb y.memory_index 0) r s refl refl p q e in
    (mem-same x y u.0 u.1 u.2, u.3)

pub arg-unique : (x y : Arg) (r s : List ℕ) → kind x ≡ kind y → IsArg x → IsArg y → arg x ++ r ≡ arg y ++ s → (x ≡ y) × (r ≡ s)
arg-unique (Index m) (Index n) r s k p q e = let u = index_unique m n r s p q e in (ap Index u.0, u.1)
arg-unique (Int32 m) (Int32 n) r s k p q e = let u = int32-unique m n r s p q e in (ap Int32 u.0, u.1)
arg-unique (Int64 m) (Int64 n) r s k p q e = let u = int64-unique m n r s p q e in (ap Int64 u.0, u.1)
arg-unique (Float32 m) (Float32 n) r s k p q e = let u = f32-unique m n r s p q e in (ap Float32 u.0, u.1)
arg-unique (Float64 m) (Float64 n) r s k p q e = let u = f64-unique m n r s p q e in (ap Float64 u.0, u.1)
arg-unique (Typ m) (Typ n) r s k p q e = let u = type-unique m n r s p q e in (ap Typ u.0, u.1)
arg-unique (Memory m) (Memory n) r s k p q e = let u = mem-unique m n r s p q e in (ap Memory u.0, u.1)
arg-unique (Labels m) (Labels n) r s k p q e = let u = lists-unique unsigned IsIndex index_unique m n r s p.0 q.0 p.1 q.1 e in (ap Labels u.0, u.1)
arg-unique (Catches m) (Catches n) r s k p q e = let u = lists-unique catch_all IsIndex catch_unique m n r s p.0 q.0 p.1 q.1 e in (ap Catches u.0, u.1)
arg-unique _ _ r s k _ _ _ = absurd cc

first_and_rest : {A : Type 0} (a b : A) (xs ys : List A) → a ∷ xs ≡ b ∷ ys → (a ≡ b) × (xs ≡ ys)
first_and_rest a b xs ys e = (cc, cc)

pub args-unique : (xs ys : List Arg) (r s : List ℕ) → map kind xs ≡ map kind ys → AllByRecursion IsArg xs → AllByRecursion IsArg ys → args xs ++ r ≡ args ys ++ s → (xs ≡ ys) × (r ≡ s)
args-unique [] [] r s k p q e = (refl, e)
args-unique [] (y ∷ ys) r s k _ _ _ = absurd cc
args-unique (x ∷ xs) [] r s k _ _ _ = absurd cc
args-unique (x ∷ xs) (y ∷ ys) r s k p q e =
    let split = rw (flat_map-cons arg x xs, flat_map-cons arg y ys, append_assoc, append_assoc) at e in
    let kinds = first_and_rest (kind x) (kind y) (map kind xs) (map kind ys) k in
    let first = arg-unique x y (args xs ++ r) (args ys ++ s) kinds.0 p.0 q.0 split in
    let rest = args-unique xs ys r s kinds.1 p.1 q.1 first.1 in
    (cc (first.0, rest.0), rest.1)

-- ---- instructions

pub no_end : (op : ℕ) → IsEnd op → shape op ≡ NoShape
unfolding shape
no_end op (inl e) = rw e refl
no_end op (inr e) = rw e refl

pub code-begins : (i : InstrNode) (r t : List ℕ) (b : ℕ) → IsEnd b → IsNode i → code i ++ r ≡ b ∷ t → ⊥
unfolding code IsNode
code-begins (Leaf op xs) r t b end p e = let n = no_end b end in cc
code-begins (Nest op xs a) r t b end p e = let n = no_end b end in cc
code-begins (Choice op xs a els) r t b end p e = let n = no_end b end in cc

end-unique : (a b : List ℕ) (r s : List ℕ) (x y : ℕ) → (a ++ x ∷ []) ++ r ≡ (b ++ y ∷ []) ++ s → a ++ x ∷ r ≡ b ++ y ∷ s
end-unique a b r s x y e = sym (append_assoc a (x ∷ []) r) ∙ e ∙ append_assoc b (y ∷ []) s

-- a body and what ends it, with another body behind an 0x05
choice-unique : (a b c d : Nodes) (r s : List ℕ)
    → ((x y : ℕ) (t u : List ℕ) → IsEnd x → IsEnd y → codes a ++ x ∷ t ≡ codes b ++ y ∷ u → (a ≡ b) × (x ≡ y) × (t ≡ u))
    → ((t u : List ℕ) → codes c ++ 0x0B ∷ t ≡ codes d ++ 0x0B ∷ u → (c ≡ d) × (t ≡ u))
    → (codes a ++ choice_end c (codes c)) ++ r ≡ (codes b ++ choice_end d (codes d)) ++ s → (a ≡ b) × (c ≡ d) × (r ≡ s)
choice-unique a b Nil Nil r s f g e =
    let v = f 0x0B 0x0B r s (inr refl) (inr refl) (end-unique (codes a) (codes b) r s 0x0B 0x0B e) in (v.0, refl, v.2)
choice-unique a b Nil (Cons j js) r s f g e =
    let v = f 0x0B 0x05 r ((codes (Cons j js) ++ 0x0B ∷ []) ++ s) (inr refl) (inl refl) (sym (append_assoc (codes a) (0x0B ∷ []) r) ∙ e ∙ append_assoc (codes b) (0x05 ∷ (codes (Cons j js) ++ 0x0B ∷ [])) s) in absurd (omega (arith, v.1))
choice-unique a b (Cons i is) Nil r s f g e =
    let v = f 0x05 0x0B ((codes (Cons i is) ++ 0x0B ∷ []) ++ r) s (inl refl) (inr refl) (sym (append_assoc (codes a) (0x05 ∷ (codes (Cons i is) ++ 0x0B ∷ [])) r) ∙ e ∙ append_assoc (codes b) (0x0B ∷ []) s) in absurd (omega (arith, v.1))
choice-unique a b (Cons i is) (Cons j js) r s f g e =
    let v = f 0x05 0x05 ((codes (Cons i is) ++ 0x0B ∷ []) ++ r) ((codes (Cons j js) ++ 0x0B ∷ []) ++ s) (inl refl) (inl refl) (sym (append_assoc (codes a) (0x05 ∷ (codes (Cons i is) ++ 0x0B ∷ [])) r) ∙ e ∙ append_assoc (codes b) (0x05 ∷ (codes (Cons j js) ++ 0x0B ∷ [])) s) in
    let w = g r s (end-unique (codes (Cons i is)) (codes (Cons j js)) r s 0x0B 0x0B v.2) in
    (v.0, w.0, w.1)

mutual
  unfolding code codes IsNode AreNodes

  pub code-unique : (i j : InstrNode) (r s : List ℕ) → IsNode i → IsNode j → code i ++ r ≡ code j ++ s → (i ≡ j) × (r ≡ s)
  code-unique (Leaf op xs) (Leaf op2 ys) r s p q e =
      let u = args-unique xs ys r s (cc) p.1 q.1 (cc) in (cc (u.0), u.1)
  code-unique (Nest op xs a) (Nest op2 ys b) r s p q e =
      let u = args-unique xs ys ((codes a ++ 0x0B ∷ []) ++ r) ((codes b ++ 0x0B ∷ []) ++ s) (cc) p.1 q.1 (sym (append_assoc (args xs) (codes a ++ 0x0B ∷ []) r) ∙ (cc) ∙ append_assoc (args ys) (codes b ++ 0x0B ∷ []) s) in
      let v = codes-unique a b 0x0B 0x0B r s (inr refl) (inr refl) p.2 q.2 (end-unique (codes a) (codes b) r s 0x0B 0x0B u.1) in
      (cc (u.0, v.0), v.2)
  code-unique (Choice op xs a c) (Choice op2 ys b d) r s p q e =
      let u = args-unique xs ys ((codes a ++ choice_end c (codes c)) ++ r) ((codes b ++ choice_end d (codes d)) ++ s) (cc) p.1 q.1 (sym (append_assoc (args xs) (codes a ++ choice_end c (codes c)) r) ∙ (cc) ∙ append_assoc (args ys) (codes b ++ choice_end d (codes d)) s) in
      let v = choice-unique a b c d r s
      (λ x y t w xe ye f. codes-unique a b x y t w xe ye p.2 q.2 f)
      (λ t w f. let z = codes-unique c d 0x0B 0x0B t w (inr refl) (inr refl) p.3 q.3 f in (z.0, z.2)) u.1 in
      (cc (u.0, v.0, v.1), v.2)
  code-unique _ _ r s p q e = absurd cc

  pub codes-unique : (is js : Nodes) (x y : ℕ) (r s : List ℕ) → IsEnd x → IsEnd y → AreNodes is → AreNodes js → codes is ++ x ∷ r ≡ codes js ++ y ∷ s → (is ≡ js) × (x ≡ y) × (r ≡ s)
  codes-unique Nil Nil x y r s xe ye p q e = (refl, cc, cc)
  codes-unique Nil (Cons j js) x y r s xe ye p q e = absurd (code-begins j (codes js ++ y ∷ s) r x xe q.0 (sym (append_assoc (code j) (codes js) (y ∷ s)) ∙ sym e))
  codes-unique (Cons i is) Nil x y r s xe ye p q e = absurd (code-begins i (codes is ++ x ∷ r) s y ye p.0 (sym (append_assoc (code i) (codes is) (x ∷ r)) ∙ e))
  codes-unique (Cons i is) (Cons j js) x y r s xe ye p q e =
      let u = code-unique i j (codes is ++ x ∷ r) (codes js ++ y ∷ s) p.0 q.0 (sym (append_assoc (code i) (codes is) (x ∷ r)) ∙ e ∙ append_assoc (code j) (codes js) (y ∷ s)) in
      let v = codes-unique is js x y r s xe ye p.1 q.1 u.1 in
      (cc (u.0, v.0), v.1, v.2)
