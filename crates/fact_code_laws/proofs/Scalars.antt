-- Moves of numbers and characters.
use Rattle.std.proofs.Common.{◌≡◌, ℕ, ◌+◌, ◌-◌, ◌%◌, ◌^◌, ◌<◌, ◌≤◌, Bool, true, false, List, [], ◌∷◌, ◌++◌, refl, sym, ap, ◌∙◌, subst, arith, lit<}
use Rattle.std.specs.Prelude.{nat_lt, nat_eq, not, bit_and, if◌then◌else◌}
use Rattle.std.proofs.lemmas.Nat.{mod_below}
use Rattle.std.proofs.lemmas.Grind.{and_numeral}
use Rattle.fact_wasm.specs.declared.types.ValType.{ValType}
use Rattle.fact_wasm.specs.declared.types.ValType.TheVariants as val
use Rattle.fact_wasm.specs.declared.instr.Instr.{Instr}
use Rattle.fact_wasm.specs.declared.instr.Instr.TheVariants as I
use Rattle.fact_wasm.specs.declared.instr.Instr.TheOpen as o
use Rattle.fact_wasm.specs.declared.module.WasmModule.{WasmModule}
use Rattle.fact_types.specs.declared.interface.InterfaceType.{InterfaceType}
use Rattle.fact_types.specs.declared.interface.InterfaceType.TheVariants as ty
use Rattle.fact_machine.specs.declared.types.CoreValue.{CoreValue}
use Rattle.fact_machine.specs.declared.types.CoreValue.TheVariants.{I32}
use Rattle.fact_machine.specs.World.{World}
use Rattle.fact_machine.specs.Numerics.{truth, extend_s}
use Rattle.fact_machine.proofs.Laws.{leaves_next, leaves_none, leaves_as}
use Rattle.fact_machine.proofs.RowLaws.{leaves_i32_const}
use Rattle.fact_machine.proofs.NumericLaws.{leaves_i32_ne, leaves_i32_and, leaves_i32_extend8_s, leaves_i32_extend16_s}
use Rattle.fact_actions.specs.Actions.{Action, Visit}
use Rattle.fact_actions.specs.Running.{ImportPlaces}
use Rattle.fact_actions.specs.Sides.{Source, Target}
use Rattle.fact_actions.specs.Moves.{canonical_number, move_number, move}
use Rattle.fact_types.specs.Shapes.{s_plain}
use Rattle.fact_code_laws.specs.Does.{Locals, Way, Onward, Does}
use Rattle.fact_code_laws.specs.Places.{Setting, transfer, FitsNumber, From, To, StandsAt, MayGo, Stood, KeepsLocals, Moves, Number, N8, N16, N32, N64, size_of, stack_type, stacked, limit_of, read_code, code_before, code_behind, DebugChecks, node_check, FromChecked, ToChecked}
use Rattle.fact_code_laws.specs.Typed.{OnStack, IsTyped}
use Rattle.fact_code_laws.proofs.Rules.{within, visit, stretch}
use Rattle.fact_code_laws.proofs.Numbers.{reads, writes, begins}
use Rattle.fact_code_laws.proofs.TypingLaws.{typed_done, typed_then, typed_next, typed_one}
use Rattle.fact_code_laws.proofs.TypedRows.{takes_plain}
use Rattle.fact_code_laws.proofs.TypedPlaces.{typed_read, typed_before, typed_behind}
use Rattle.fact_machine.specs.Exits.{Falls, Leaves}
use Rattle.fact_code_laws.proofs.Aligned.{moves_checked, checked_by, one_from, one_to, aligns_one, aligns_two, aligns_four, aligns_eight}
use lib.Bits.{and_mask}
use Rattle.std.proofs.Math.Pow.{pow_pos}

-- ---- the number that stands for a value at its destination

-- code that makes one number on the stack of another, in at most two steps
pub record Converts (n : Number) (f : ℕ → ℕ) (code : List Instr) : Type 0 where
  pub steps : ℕ
  pub few : steps ≤ 2
  pub bound : (x : ℕ) → x < limit_of n → f x < limit_of n
  pub leaves : {M : WasmModule} (ls : Locals) (x : ℕ) (w : World) (vs : List CoreValue) → Leaves M steps code w (stacked n x ∷ vs) ls (Falls w (stacked n (f x) ∷ vs) ls)
  pub typed : {M : WasmModule} {locals : List ValType} {labels : List (List ValType)} {ins : List ValType} → IsTyped M locals labels code (stack_type n ∷ ins) (OnStack (stack_type n ∷ ins))

pub converts_none : (n : Number) → Converts n (λ x. x) []
converts_none n = record { steps = 0; few = omega arith; bound = λ x lt. lt; leaves = λ ls x w vs. leaves_none; typed = typed_done }

pub converts_bool : Converts N8 (canonical_number ty.Bool) (I.I32Const 0 ∷ I.I32Ne ∷ [])
converts_bool = record {
  steps = 2;
  few = omega arith;
  bound = λ x lt. one (nat_eq x 0);
  leaves = λ ls x w vs. leaves_next leaves_i32_const (leaves_as (ap (λ n. Falls w (I32 n ∷ vs) ls) (tested (nat_eq x 0))) leaves_i32_ne);
  typed = typed_next (takes_plain (o.I32Const 0) (I.outs-I32Const 0) refl) (typed_one (takes_plain o.I32Ne I.outs-I32Ne refl));
}
  where
    one : (b : Bool) → (if b then 0 else 1) < 2 ^ 32
    one true = lit< tt
    one false = lit< tt

    tested : (b : Bool) → truth (not b) ≡ (if b then 0 else 1)
    tested true = refl
    tested false = refl

-- it in front of other code
pub converting : {A : Type 0} {M : WasmModule} {p : ImportPlaces} {way : Way} {extra spare : ℕ} {ins : List CoreValue} {ls : Locals} {c code : List Instr} {q : Action A} {out : A → List CoreValue} {Holds : A → Locals → Type 0} {n : Number} {f : ℕ → ℕ} (x : ℕ)
    (h : Converts n f code) → Does M p way extra spare (stacked n (f x) ∷ ins) ls c q out Holds → Does M p way (2 + extra) spare (stacked n x ∷ ins) ls (code ++ c) q out Holds
converting {ls = ls} x h d = within (omega (arith, h.few)) (stretch (λ w below. h.leaves ls x w _) d)

-- a number that is an i32 on the stack
pub record IsNarrow (n : Number) : Type 0 where
  pub value : (x : ℕ) → stacked n x ≡ I32 x
  pub type : stack_type n ≡ val.I32
  pub below : limit_of n ≡ 2 ^ 32

pub narrow_8 : IsNarrow N8
narrow_8 = record { value = λ x. refl; type = refl; below = refl }

pub narrow_16 : IsNarrow N16
narrow_16 = record { value = λ x. refl; type = refl; below = refl }

pub narrow_32 : IsNarrow N32
narrow_32 = record { value = λ x. refl; type = refl; below = refl }

-- the low bits, by a mask
module _ (n : Number) (narrow : IsNarrow n) (mask bits : ℕ) (fits : 2 ^ bits ≤ 2 ^ 32) (masks : (x : ℕ) → bit_and x mask ≡ x % 2 ^ bits) (some : 0 < 2 ^ bits) where
  pub converts_mask : Converts n (λ x. x % 2 ^ bits) (I.I32Const mask ∷ I.I32And ∷ [])
  converts_mask = record {
    steps = 2;
    few = omega arith;
    bound = λ x lt. let low = mod_below x (2 ^ bits) some in omega (arith, low, fits, narrow.below);
    leaves = λ {M} ls x w vs.
        subst (λ (v : CoreValue). Leaves M 2 (I.I32Const mask ∷ I.I32And ∷ []) w (v ∷ vs) ls (Falls w (stacked n (x % 2 ^ bits) ∷ vs) ls)) (sym (narrow.value x))
        (leaves_next leaves_i32_const (leaves_as (ap (λ v. Falls w (v ∷ vs) ls) (ap (λ m. I32 m) (masks x) ∙ sym (narrow.value (x % 2 ^ bits)))) leaves_i32_and));
    typed = λ {M} {locals} {labels} {ins}.
        subst (λ t. IsTyped M locals labels (I.I32Const mask ∷ I.I32And ∷ []) (t ∷ ins) (OnStack (t ∷ ins))) (sym narrow.type)
        (typed_next (takes_plain (o.I32Const mask) (I.outs-I32Const mask) refl) (typed_one (takes_plain o.I32And I.outs-I32And refl)));
  }

pub converts_u8 : Converts N8 (canonical_number ty.U8) (I.I32Const 255 ∷ I.I32And ∷ [])
converts_u8 = converts_mask N8 narrow_8 255 8 (omega arith) (λ x. and_numeral x 254 refl) (lit< tt)

pub converts_u16 : Converts N16 (canonical_number ty.U16) (I.I32Const 65535 ∷ I.I32And ∷ [])
converts_u16 = converts_mask N16 narrow_16 65535 16 (omega arith) (λ x. and_numeral x 65534 refl) (lit< tt)

-- so many low bits
pub converts_low : (n : Number) → IsNarrow n → (bits : ℕ) → 2 ^ bits ≤ 2 ^ 32 → Converts n (λ x. x % 2 ^ bits) (I.I32Const (2 ^ bits - 1) ∷ I.I32And ∷ [])
converts_low n narrow bits fits = converts_mask n narrow (2 ^ bits - 1) bits fits (λ x. and_mask x bits) (pow_pos bits)

signed_bound : (m x : ℕ) → m ≤ 31 → 2 ^ m ≤ 2 ^ 32 → x % 2 ^ m < 2 ^ m → extend_s m 32 x < 2 ^ 32
signed_bound m x le small low = go (nat_lt (x % 2 ^ m) (2 ^ (m - 1))) refl
  where
    go : (b : Bool) → nat_lt (x % 2 ^ m) (2 ^ (m - 1)) ≡ b → (if b then x % 2 ^ m else x % 2 ^ m + (2 ^ 32 - 2 ^ m)) < 2 ^ 32
    go true h = omega (arith, small, low)
    go false h = omega (arith, small, low)

pub converts_s8 : Converts N8 (canonical_number ty.S8) (I.I32Extend8S ∷ [])
converts_s8 = record {
  steps = 1;
  few = omega arith;
  bound = λ x lt. signed_bound 8 x (omega arith) (omega arith) (mod_below x (2 ^ 8) (lit< tt));
  leaves = λ ls x w vs. leaves_i32_extend8_s;
  typed = typed_one (takes_plain o.I32Extend8S I.outs-I32Extend8S refl);
}

pub converts_s16 : Converts N16 (canonical_number ty.S16) (I.I32Extend16S ∷ [])
converts_s16 = record {
  steps = 1;
  few = omega arith;
  bound = λ x lt. signed_bound 16 x (omega arith) (omega arith) (mod_below x (2 ^ 16) (lit< tt));
  leaves = λ ls x w vs. leaves_i32_extend16_s;
  typed = typed_one (takes_plain o.I32Extend16S I.outs-I32Extend16S refl);
}

-- ---- moves of numbers

abbrev pub number_code : DebugChecks → Number → From → List Instr → To → List Instr
number_code checks n from convert to = code_before to ++ (read_code checks n from ++ (convert ++ code_behind n to))

module _ (S : Setting) (used : ℕ → Bool) (from : From) (to : To) where
  pub number_does : {f : ℕ → ℕ} {code : List Instr} (n : Number) → FitsNumber S n from to → Converts n f code → (ls : Locals) (s : Source) (d : Target) → StandsAt ls S.from64 from s → MayGo used ls S.to64 to d
      → Does S.whole S.places Onward 13 0 [] ls (number_code S.checks n from code to) (move_number (transfer S) (size_of n) (size_of n) f s d) (λ vs. []) (λ vs ls'. Stood ls' to vs × KeepsLocals used ls ls')
  number_does n h c ls s d st g =
      within (omega (arith, c.few)) (begins S.to64 used to d g (reads S.checks n S.from S.from64 from s h.readable st (λ x lt.
      converting x c (writes used n S.to S.to64 to d h.writable g (c.bound x lt)))))

  -- A number is read, made canonical and written, within the steps that one node has beside its checks.
  pub moves_number : {f : ℕ → ℕ} {code : List Instr} (n : Number) → FitsNumber S n from to → Converts n f code
      → Moves S used 0 516 from to (λ s d. Visit 1 (move_number (transfer S) (size_of n) (size_of n) f s d)) (number_code S.checks n from code to)
  moves_number n h c = record {
    effect = λ ls s d e st g rooms. visit (omega arith) (number_does n h c ls s d st g);
    typed =
        typed_then (typed_before S.to64 to h.to_typed) (typed_then (typed_read S.places S.checks S.from S.from64 n from h.readable h.from_typed)
        (typed_then c.typed (typed_behind S.places S.to S.to64 n to h.writable h.to_typed)));
  }

  -- ---- the moves of types

  -- a type of so many bytes moved to itself
  abbrev pub MovesPlain : InterfaceType → (bytes : ℕ) → List Instr → Type 0
  MovesPlain t bytes code = Moves S used 0 500 from to (move (transfer S) (s_plain t) (s_plain t)) (node_check S bytes bytes from to ++ code)

  -- the functions of the traps that the checks of its places ask for
  abbrev pub IsChecked : (bytes : ℕ) → Type 0
  IsChecked bytes = FromChecked S.whole S.places S.checks bytes from × ToChecked S.whole S.places S.checks bytes to

  pub moves_bool : FitsNumber S N8 from to → MovesPlain ty.Bool 1 (number_code S.checks N8 from (I.I32Const 0 ∷ I.I32Ne ∷ []) to)
  unfolding move
  moves_bool h = moves_checked (checked_by 1 refl refl refl refl aligns_one (one_from S.whole S.places S.checks from) (one_to S.whole S.places S.checks to) h.from_typed h.to_typed) (moves_number N8 h converts_bool)

  pub moves_s8 : FitsNumber S N8 from to → MovesPlain ty.S8 1 (number_code S.checks N8 from (I.I32Extend8S ∷ []) to)
  unfolding move
  moves_s8 h = moves_checked (checked_by 1 refl refl refl refl aligns_one (one_from S.whole S.places S.checks from) (one_to S.whole S.places S.checks to) h.from_typed h.to_typed) (moves_number N8 h converts_s8)

  pub moves_u8 : FitsNumber S N8 from to → MovesPlain ty.U8 1 (number_code S.checks N8 from (I.I32Const 255 ∷ I.I32And ∷ []) to)
  unfolding move
  moves_u8 h = moves_checked (checked_by 1 refl refl refl refl aligns_one (one_from S.whole S.places S.checks from) (one_to S.whole S.places S.checks to) h.from_typed h.to_typed) (moves_number N8 h converts_u8)

  pub moves_s16 : FitsNumber S N16 from to → IsChecked 2 → MovesPlain ty.S16 2 (number_code S.checks N16 from (I.I32Extend16S ∷ []) to)
  unfolding move
  moves_s16 h a = moves_checked (checked_by 2 refl refl refl refl aligns_two a.0 a.1 h.from_typed h.to_typed) (moves_number N16 h converts_s16)

  pub moves_u16 : FitsNumber S N16 from to → IsChecked 2 → MovesPlain ty.U16 2 (number_code S.checks N16 from (I.I32Const 65535 ∷ I.I32And ∷ []) to)
  unfolding move
  moves_u16 h a = moves_checked (checked_by 2 refl refl refl refl aligns_two a.0 a.1 h.from_typed h.to_typed) (moves_number N16 h converts_u16)

  pub moves_s32 : FitsNumber S N32 from to → IsChecked 4 → MovesPlain ty.S32 4 (number_code S.checks N32 from [] to)
  unfolding move
  moves_s32 h a = moves_checked (checked_by 4 refl refl refl refl aligns_four a.0 a.1 h.from_typed h.to_typed) (moves_number N32 h (converts_none N32))

  pub moves_u32 : FitsNumber S N32 from to → IsChecked 4 → MovesPlain ty.U32 4 (number_code S.checks N32 from [] to)
  unfolding move
  moves_u32 h a = moves_checked (checked_by 4 refl refl refl refl aligns_four a.0 a.1 h.from_typed h.to_typed) (moves_number N32 h (converts_none N32))

  pub moves_f32 : FitsNumber S N32 from to → IsChecked 4 → MovesPlain ty.Float32 4 (number_code S.checks N32 from [] to)
  unfolding move
  moves_f32 h a = moves_checked (checked_by 4 refl refl refl refl aligns_four a.0 a.1 h.from_typed h.to_typed) (moves_number N32 h (converts_none N32))

  pub moves_s64 : FitsNumber S N64 from to → IsChecked 8 → MovesPlain ty.S64 8 (number_code S.checks N64 from [] to)
  unfolding move
  moves_s64 h a = moves_checked (checked_by 8 refl refl refl refl aligns_eight a.0 a.1 h.from_typed h.to_typed) (moves_number N64 h (converts_none N64))

  pub moves_u64 : FitsNumber S N64 from to → IsChecked 8 → MovesPlain ty.U64 8 (number_code S.checks N64 from [] to)
  unfolding move
  moves_u64 h a = moves_checked (checked_by 8 refl refl refl refl aligns_eight a.0 a.1 h.from_typed h.to_typed) (moves_number N64 h (converts_none N64))

  pub moves_f64 : FitsNumber S N64 from to → IsChecked 8 → MovesPlain ty.Float64 8 (number_code S.checks N64 from [] to)
  unfolding move
  moves_f64 h a = moves_checked (checked_by 8 refl refl refl refl aligns_eight a.0 a.1 h.from_typed h.to_typed) (moves_number N64 h (converts_none N64))
