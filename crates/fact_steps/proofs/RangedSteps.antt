-- The steps of adapters are in range, and name no function but the callee.
use Rattle.std.proofs.Common.{ℕ, ◌<◌, List, [], ◌∷◌, ◌++◌, arith}
use Rattle.fact_wasm.specs.declared.instr.FuncName.TheVariants as func
use Rattle.fact_wasm.specs.declared.instr.Instr.{the_lemmas}
use Rattle.fact_wasm.specs.declared.instr.Instr.TheVariants as I
use Rattle.fact_wasm.specs.Ranges.{AreRanged}
use Rattle.fact_code_laws.specs.Places.{Slot}
use Rattle.fact_emit.proofs.NamedLaws.{ranged_append, ranged_more, ranged_none}
use Rattle.fact_emit.proofs.RangedCode.{get_ranged, set_ranged}
use Rattle.fact_steps.specs.Code.{back_code, call_code, popped_code, pushed_code, saved_code, started_code, zero_flags_code}

pub pushed_ranged : (ss : List Slot) → AreRanged 0 0 (pushed_code ss)
pushed_ranged [] = tt
pushed_ranged (s ∷ ss) = ranged_append 0 0 (I.LocalGet s.0 ∷ []) (pushed_code ss) (get_ranged s.0) (pushed_ranged ss)

pub popped_ranged : (ss : List Slot) → AreRanged 0 0 (popped_code ss)
popped_ranged [] = tt
popped_ranged (s ∷ ss) = ranged_append 0 0 (popped_code ss) (I.LocalSet s.0 ∷ []) (popped_ranged ss) (set_ranged s.0)

saved_ranged : (flags saved : ℕ) → AreRanged 0 0 (saved_code flags saved)
saved_ranged flags saved = ranged_none 0 0 (saved_code flags saved) (simp the_lemmas)

-- flags are set to 0, and to what a local holds
pub zero_ranged : (flags : ℕ) → AreRanged 0 0 (zero_flags_code flags)
zero_ranged flags = ranged_none 0 0 (zero_flags_code flags) (simp the_lemmas)

pub back_ranged : (flags saved : ℕ) → AreRanged 0 0 (back_code flags saved)
back_ranged flags saved = ranged_none 0 0 (back_code flags saved) (simp the_lemmas)

-- flags are kept, and 0 from then on
pub started_ranged : (flags saved : ℕ) → AreRanged 0 0 (started_code flags saved)
started_ranged flags saved = ranged_append 0 0 (saved_code flags saved) (zero_flags_code flags) (saved_ranged flags saved) (zero_ranged flags)

-- flags are kept and stand on the stack
pub kept_ranged : (flags saved : ℕ) → AreRanged 0 0 (I.GlobalGet flags ∷ I.LocalTee saved ∷ [])
kept_ranged flags saved = ranged_none 0 0 (I.GlobalGet flags ∷ I.LocalTee saved ∷ []) (simp the_lemmas)

-- two numbers are pushed
pub constants_ranged : (x y : ℕ) → AreRanged 0 0 (I.I32Const x ∷ I.I32Const y ∷ [])
constants_ranged x y = ranged_none 0 0 (I.I32Const x ∷ I.I32Const y ∷ []) (simp the_lemmas)

-- a post-return is called
pub post_ranged : (imports function : ℕ) (given : List Slot) → function < imports → AreRanged imports 0 (pushed_code given ++ I.Call (func.Import function) ∷ [])
post_ranged imports function given below = ranged_append imports 0 (pushed_code given) (I.Call (func.Import function) ∷ []) (ranged_more 0 imports (omega arith) (pushed_code given) (pushed_ranged given)) (simp the_lemmas (below, tt), tt)

-- an imported function is called
pub call_ranged : (imports flags saved callee : ℕ) (core given : List Slot) → callee < imports → AreRanged imports 0 (call_code core flags saved callee given)
call_ranged imports flags saved callee core given below =
    ranged_append imports 0 (pushed_code core) (I.LocalGet saved ∷ I.GlobalSet flags ∷ I.Call (func.Import callee) ∷ popped_code given) (ranged_more 0 imports (omega arith) (pushed_code core) (pushed_ranged core))
    (ranged_append imports 0 (back_code flags saved) (I.Call (func.Import callee) ∷ popped_code given) (ranged_more 0 imports (omega arith) (back_code flags saved) (back_ranged flags saved))
    (ranged_append imports 0 (I.Call (func.Import callee) ∷ []) (popped_code given) (simp the_lemmas (below, tt), tt) (ranged_more 0 imports (omega arith) (popped_code given) (popped_ranged given))))
