-- Numbers whose bits go to places of their own: what is written, and what it does.
use Rattle.std.proofs.Common.{◌≡◌, ◌≢◌, ℕ, ◌+◌, ◌-◌, ◌^◌, ◌<◌, ◌≤◌, Bool, true, false, List, [], ◌∷◌, ◌++◌, length, drop, get_or, Option, sym, ap, ◌∙◌, subst, arith}
use Rattle.std.specs.Prelude.{nat_lt, if◌then◌else◌}
use Rattle.std.proofs.lemmas.Bool.{le-ltb, lt-ltb}
use Rattle.std.proofs.lemmas.List.{drop_more, drop_all}
use Rattle.fact_wasm.specs.Ranges.{AreRanged}
use Rattle.fact_wasm.specs.declared.instr.Instr.{the_lemmas}
use Rattle.fact_wasm.specs.declared.instr.Instr.TheVariants as I
use Rattle.fact_wasm.specs.declared.types.ValType.TheVariants as val
use Rattle.fact_code_laws.specs.Places.{From, To, Number, N64, Setting, code_before, code_behind}
use Rattle.fact_code_laws.proofs.Rules.{within}
use Rattle.fact_emit.specs.declared.bits.BitMove.{BitMove}
use Rattle.fact_emit.specs.declared.places.Sides.{Sides}
use Rattle.fact_emit.specs.declared.writer.Writer.{Writer}
use Rattle.fact_emit.specs.Emits.{Emits}
use Rattle.fact_emit.specs.MovesValue.{Act, MovesValue, except, HasLocal}
use Rattle.fact_emit.specs.Numbers.{ReadsNumber, FitsUnchecked}
use Rattle.fact_emit.specs.Pieces.{Is}
use Rattle.fact_emit.specs.PlacedBits.{placed_bits, moved_bits, shift_code, bit_move_code, bit_moves_code, MakeBits}
use Rattle.fact_emit.specs.Places.{checks_at, setting_of}
use Rattle.fact_emit.specs.Scalars.{number_moves}
use Rattle.fact_emit.specs.Writers.{Took, Freed, Wrote, taken_in}
use Rattle.fact_emit.proofs.BitCode.{bits_code, moves_bits}
use Rattle.fact_emit.proofs.Emitting.{emits_as, emits_then, emits_wrote, wrote_then, wrote_none}
use Rattle.fact_emit.proofs.NamedLaws.{ranged_append, ranged_none}
use Rattle.fact_emit.proofs.NumberMoves.{ReadsThen, reads_then, fits_checked, narrow_of}
use Rattle.fact_emit.proofs.RangedCode.{before_ranged, behind_ranged, set_ranged}
use Rattle.fact_emit.proofs.Using.{free_except, moves_around}

-- ---- what is written

pub right_put : {a b c : Writer} {from to : ℕ} → to < from → Wrote a b (I.I32Const (from - to) ∷ []) → Wrote b c (I.I32ShrU ∷ []) → Wrote a c (shift_code from to)
right_put {a} {c = c} {from} {to} below u v =
    subst (λ (t : Bool). Wrote a c (if t then (I.I32Const (from - to) ∷ I.I32ShrU ∷ []) else (if nat_lt from to then (I.I32Const (to - from) ∷ I.I32Shl ∷ []) else []))) (sym (lt-ltb to from below)) (wrote_then u v)

not_right : {a c : Writer} {from to : ℕ} → from ≤ to → Wrote a c (if nat_lt from to then (I.I32Const (to - from) ∷ I.I32Shl ∷ []) else []) → Wrote a c (shift_code from to)
not_right {a} {c} {from} {to} le w =
    subst (λ (t : Bool). Wrote a c (if t then (I.I32Const (from - to) ∷ I.I32ShrU ∷ []) else (if nat_lt from to then (I.I32Const (to - from) ∷ I.I32Shl ∷ []) else []))) (sym (le-ltb to from le)) w

pub left_put : {a b c : Writer} {from to : ℕ} → from < to → Wrote a b (I.I32Const (to - from) ∷ []) → Wrote b c (I.I32Shl ∷ []) → Wrote a c (shift_code from to)
left_put {a} {c = c} {from} {to} below u v =
    not_right (omega (arith, below)) (subst (λ (t : Bool). Wrote a c (if t then (I.I32Const (to - from) ∷ I.I32Shl ∷ []) else [])) (sym (lt-ltb from to below)) (wrote_then u v))

pub no_shift : (a : Writer) {from to : ℕ} → from ≤ to → to ≤ from → Wrote a a (shift_code from to)
no_shift a {from} {to} le ge =
    not_right le (subst (λ (t : Bool). Wrote a a (if t then (I.I32Const (to - from) ∷ I.I32Shl ∷ []) else [])) (sym (le-ltb from to ge)) (wrote_none a))

pub move_put : {a b c d e f : Writer} {local : ℕ} (m : BitMove) → Wrote a b (I.LocalGet local ∷ []) → Wrote b c (shift_code m.from m.to) → Wrote c d (I.I32Const m.mask ∷ []) → Wrote d e (I.I32And ∷ []) → Wrote e f (I.I32Or ∷ []) → Wrote a f (bit_move_code local m)
move_put m u x v y z = wrote_then u (wrote_then x (wrote_then v (wrote_then y z)))

-- the code of the moves from one on was written
pub record PutsFrom (local left : ℕ) (moves : List BitMove) (first now : Writer) : Type 0 where
  pub wrote : Wrote first now (bit_moves_code local (drop left moves))

pub moves_first : {a b : Writer} {local : ℕ} {moves : List BitMove} → Wrote a b (I.I32Const 0 ∷ []) → PutsFrom local (length moves) moves a b
moves_first {a} {b} {local} {moves} h = record { wrote = subst (λ ms. Wrote a b (bit_moves_code local ms)) (sym (drop_all (length moves) moves (omega arith))) h }

pub moves_next : {a b c : Writer} {local left at : ℕ} {moves : List BitMove} (x : BitMove) → left ≡ at + 1 → left ≤ length moves → PutsFrom local left moves a b → Wrote b c (bit_move_code local (get_or moves at x)) → PutsFrom local at moves a c
moves_next {a} {c = c} {local} {left} {at} {moves} x is le h w =
    let more : drop at moves ≡ get_or moves at x ∷ drop left moves = drop_more moves at x (omega (arith, is, le)) ∙ ap (λ k. get_or moves at x ∷ drop k moves) (sym is) in
    record { wrote = subst (λ ms. Wrote a c (bit_moves_code local ms)) (sym more) (wrote_then h.wrote w) }

pub moves_all : {a b : Writer} {local left : ℕ} {moves : List BitMove} → left ≡ 0 → PutsFrom local left moves a b → Wrote a b (bit_moves_code local moves)
moves_all {a} {b} {local} {left} {moves} is h = subst (λ k. Wrote a b (bit_moves_code local (drop k moves))) is h.wrote

-- ---- what it does

shift_ranged : (from to : ℕ) → AreRanged 0 0 (shift_code from to)
shift_ranged from to = go (nat_lt to from) (nat_lt from to)
  where
    go : (a b : Bool) → AreRanged 0 0 (if a then (I.I32Const (from - to) ∷ I.I32ShrU ∷ []) else (if b then (I.I32Const (to - from) ∷ I.I32Shl ∷ []) else []))
    go true b = ranged_none 0 0 (I.I32Const (from - to) ∷ I.I32ShrU ∷ []) (simp the_lemmas)
    go false true = ranged_none 0 0 (I.I32Const (to - from) ∷ I.I32Shl ∷ []) (simp the_lemmas)
    go false false = tt

move_ranged : (local : ℕ) (m : BitMove) → AreRanged 0 0 (bit_move_code local m)
move_ranged local m =
    ranged_append 0 0 (I.LocalGet local ∷ []) (shift_code m.from m.to ++ (I.I32Const m.mask ∷ I.I32And ∷ I.I32Or ∷ [])) (ranged_none 0 0 (I.LocalGet local ∷ []) (simp the_lemmas))
    (ranged_append 0 0 (shift_code m.from m.to) (I.I32Const m.mask ∷ I.I32And ∷ I.I32Or ∷ []) (shift_ranged m.from m.to) (ranged_none 0 0 (I.I32Const m.mask ∷ I.I32And ∷ I.I32Or ∷ []) (simp the_lemmas)))

moves_ranged : (local : ℕ) (ms : List BitMove) → AreRanged 0 0 (bit_moves_code local ms)
moves_ranged local [] = ranged_none 0 0 (I.I32Const 0 ∷ []) (simp the_lemmas)
moves_ranged local (m ∷ ms) = ranged_append 0 0 (bit_moves_code local ms) (bit_move_code local m) (moves_ranged local ms) (move_ranged local m)

-- A number that is read, and that of the bits that moves take of it written.
pub bits_emits : {a b c d e f : Writer} {n : Number} {src : From} {dst : To} (ms : List BitMove) (local : ℕ) (sides : Sides) → n ≢ N64 → length ms ≤ 32 → ((x : ℕ) → moved_bits ms x < 2 ^ 32)
    → Wrote a b (code_before dst) → Emits b c (ReadsNumber sides.debug n src) → Wrote c d (I.LocalSet local ∷ []) → Wrote d e (bit_moves_code local ms) → Wrote e f (code_behind n dst)
    → Emits a f (MovesValue sides src dst (except local (taken_in a)) 600 (λ S. FitsUnchecked n src dst S × HasLocal local val.I32 S) (number_moves n (moved_bits ms)))
bits_emits {a} {n = n} {src} {dst} ms local sides short few small u v x y r =
    let behind = I.LocalSet local ∷ (bit_moves_code local ms ++ code_behind n dst) in
    emits_then {P = Is (code_before dst)} {Q = ReadsThen sides.debug n src behind}
    (λ M p locals c l is q.
    let all : c ++ l ≡ bits_code (checks_at sides.debug p) n ms local src dst = λ i. is i ++ q.1 i in
    subst (λ code. MovesValue sides src dst (except local (taken_in a)) 600 (λ S. FitsUnchecked n src dst S × HasLocal local val.I32 S) (number_moves n (moved_bits ms)) M p locals code) (sym all)
    (record {
      moves = λ o o' rooms used using fits.
          let S = setting_of sides o o' rooms M p locals in
          moves_bits S used src dst local n (narrow_of n short) (fits_checked S q.0 fits.0) using.to (record { local = fits.1; free = free_except (taken_in a) using }) ms few small;
    }))
    (emits_wrote (before_ranged dst) u)
    (reads_then (ranged_append 0 0 (I.LocalSet local ∷ []) (bit_moves_code local ms ++ code_behind n dst) (set_ranged local) (ranged_append 0 0 (bit_moves_code local ms) (code_behind n dst) (moves_ranged local ms) (behind_ranged n dst)))
    v (wrote_then x (wrote_then y r)))

-- with a local for it, by moves that make the number of the bits at places
pub bits_around : {a b c d : Writer} {i : ℕ} {sides : Sides} {src : From} {dst : To} {Fit : Setting → Type 0} {ms ds : List BitMove} {is : List (Option ℕ)} (n : Number) → ds ≡ ms → MakeBits ms is → Took a b val.I32 i
    → Emits b c (MovesValue sides src dst (except i (taken_in b)) 600 (λ S. Fit S × HasLocal i val.I32 S) (number_moves n (moved_bits ds))) → Freed c d i
    → Emits a d (MovesValue sides src dst (taken_in a) 600 Fit (number_moves n (placed_bits is)))
bits_around {b = b} {c} {i = i} {sides} {src} {dst} {Fit} {ms} {ds} {is} n e h took x freed =
    let same : moved_bits ds ≡ placed_bits is = λ j y. (ap (λ l. moved_bits l y) e ∙ h.number y) j in
    moves_around took (subst (λ f. Emits b c (MovesValue sides src dst (except i (taken_in b)) 600 (λ S. Fit S × HasLocal i val.I32 S) (number_moves n f))) same x) freed

-- with less left of what the weight of the node pays for
pub bits_paid : {a b : Writer} {sides : Sides} {src : From} {dst : To} {taken : ℕ → Bool} {Fit : Setting → Type 0} {act : Act} → Emits a b (MovesValue sides src dst taken 600 Fit act) → Emits a b (MovesValue sides src dst taken 516 Fit act)
bits_paid x = emits_as (λ M p locals code h. record {
  moves = λ o o' rooms used using fit.
      let m = h.moves o o' rooms used using fit in
      record { effect = λ ls s d e st g r. within (omega arith) (m.effect ls s d e st g r); typed = m.typed };
}) x
