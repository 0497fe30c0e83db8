-- Functions that write calls of functions of the runtime: of the slots of the context, and of the transfers of handles.
use Rattle.std.proofs.Common.{◌≡◌, ℕ, suc, Bool, true, false, List, [], ◌∷◌, ◌++◌, refl, sym, ap, ◌∙◌, arith}
use Rattle.fact_wasm.specs.declared.instr.FuncName.TheVariants as func
use Rattle.fact_wasm.specs.declared.instr.Instr.{Instr, the_lemmas}
use Rattle.fact_wasm.specs.declared.instr.Instr.TheVariants as I
use Rattle.fact_wasm.specs.Ranges.{AreRanged}
use Rattle.fact_machine.specs.Machine.{func_import}
use Rattle.fact_types.specs.declared.outside.UnsafeIntrinsic.TheVariants as slot
use Rattle.fact_emit.specs.declared.context.ContextLocals.{ContextLocals}
use Rattle.fact_emit.specs.declared.imported.RuntimeFunction.{RuntimeFunction}
use Rattle.fact_emit.specs.declared.imported.RuntimeFunction.TheVariants as runtime
use Rattle.fact_emit.specs.declared.writer.Writer.{Writer}
use Rattle.fact_emit.specs.Emits.{Emits}
use Rattle.fact_emit.specs.NamedFunctions.{imported_named}
use Rattle.fact_emit.specs.RuntimeCalls.{CallsRuntime, CallsAmid, ReadsSlots, SavesSlots, WritesSlots, ZeroesSlots}
use Rattle.fact_emit.specs.Writers.{Wrote, TookRuntime}
use Rattle.fact_emit.proofs.NamedLaws.{ranged_none}
use Rattle.fact_emit.proofs.Emitting.{emits_nothing, emits_taking, emits_then, emits_wrote}

-- ---- a call

call_named : (place : ℕ) → imported_named (I.Call (func.Import place) ∷ []) ≡ place ∷ []
call_named place = simp the_lemmas

call_ranged : (place : ℕ) → AreRanged (suc place) 0 (I.Call (func.Import place) ∷ [])
call_ranged place = (simp the_lemmas (omega arith, tt), tt)

pub calls_emits : {a b c : Writer} {f : RuntimeFunction} {place : ℕ} → TookRuntime a b f place → Wrote b c (I.Call (func.Import place) ∷ []) → Emits a c (CallsRuntime f)
calls_emits {f = f} {place} x y =
    emits_taking (call_named place) (call_ranged place) x y (λ M p locals k. record {
      is = ap (λ n. I.Call (func.Import n) ∷ []) (sym k.placed);
      has = record { type_at = k.type_at; placed = refl; imported = ap (λ n. func_import M.imports n) k.placed ∙ k.imported; type_is = k.type_is };
    })

-- a number is pushed
pub zero_ranged : AreRanged 0 0 (I.I32Const 0 ∷ [])
zero_ranged = ranged_none 0 0 (I.I32Const 0 ∷ []) (simp the_lemmas)

-- with code behind it, and in front of it
pub calls_behind : {a b c : Writer} {f : RuntimeFunction} {xs : List Instr} → AreRanged 0 0 xs → Emits a b (CallsRuntime f) → Wrote b c xs → Emits a c (CallsAmid f [] xs)
calls_behind ranged x y = emits_then (λ M p locals c k g is. record { is = λ i. g.is i ++ is i; has = g.has }) x (emits_wrote ranged y)

pub calls_front : {a b c : Writer} {f : RuntimeFunction} {xs : List Instr} → AreRanged 0 0 xs → Wrote a b xs → Emits b c (CallsRuntime f) → Emits a c (CallsAmid f xs [])
calls_front ranged x y = emits_then (λ M p locals c k is g. record { is = λ i. is i ++ g.is i; has = g.has }) (emits_wrote ranged x) y

-- ---- the slots of the context

abbrev get0 : RuntimeFunction
get0 = runtime.UnsafeIntrinsic slot.ContextGetI32_0

abbrev get1 : RuntimeFunction
get1 = runtime.UnsafeIntrinsic slot.ContextGetI32_1

abbrev set0 : RuntimeFunction
set0 = runtime.UnsafeIntrinsic slot.ContextSetI32_0

abbrev set1 : RuntimeFunction
set1 = runtime.UnsafeIntrinsic slot.ContextSetI32_1

pub reads_emits : {a b c : Writer} (b1 : Bool) (l : ContextLocals) → b1 ≡ true → Emits a b (CallsAmid get0 [] (I.LocalSet l.first ∷ [])) → Emits b c (CallsAmid get1 [] (I.LocalSet l.second ∷ [])) → Emits a c (ReadsSlots b1 l)
reads_emits true l e x y = emits_then (λ M p locals c k g h. record { is = λ i. g.is i ++ h.is i; can = record { gets0 = g.has; gets1 = h.has } }) x y
reads_emits false l e x y = absurd (let no : false ≡ true = e in cc)

pub no_reads : (a : Writer) (b1 : Bool) (l : ContextLocals) → b1 ≡ false → Emits a a (ReadsSlots b1 l)
no_reads a false l e = emits_nothing (λ M p locals. record { is = refl; can = tt })
no_reads a true l e = absurd (let no : true ≡ false = e in cc)

pub zeroes_emits : {a b c : Writer} (b1 : Bool) → b1 ≡ true → Emits a b (CallsAmid set0 (I.I32Const 0 ∷ []) []) → Emits b c (CallsAmid set1 (I.I32Const 0 ∷ []) []) → Emits a c (ZeroesSlots b1)
zeroes_emits true e x y = emits_then (λ M p locals c k g h. record { is = λ l i. g.is i ++ h.is i; can = λ l. record { sets0 = g.has; sets1 = h.has } }) x y
zeroes_emits false e x y = absurd (let no : false ≡ true = e in cc)

pub no_zeroes : (a : Writer) (b1 : Bool) → b1 ≡ false → Emits a a (ZeroesSlots b1)
no_zeroes a false e = emits_nothing (λ M p locals. record { is = λ l. refl; can = λ l. tt })
no_zeroes a true e = absurd (let no : true ≡ false = e in cc)

pub writes_emits : {a b c : Writer} (b1 : Bool) (l : ContextLocals) → b1 ≡ true → Emits a b (CallsAmid set0 (I.LocalGet l.first ∷ []) []) → Emits b c (CallsAmid set1 (I.LocalGet l.second ∷ []) []) → Emits a c (WritesSlots b1 l)
writes_emits true l e x y = emits_then (λ M p locals c k g h. record { is = λ i. g.is i ++ h.is i; can = record { sets0 = g.has; sets1 = h.has } }) x y
writes_emits false l e x y = absurd (let no : false ≡ true = e in cc)

pub no_writes : (a : Writer) (b1 : Bool) (l : ContextLocals) → b1 ≡ false → Emits a a (WritesSlots b1 l)
no_writes a false l e = emits_nothing (λ M p locals. record { is = refl; can = tt })
no_writes a true l e = absurd (let no : true ≡ false = e in cc)

pub saves_emits : {a b c : Writer} (b1 : Bool) (l : ContextLocals) → Emits a b (ReadsSlots b1 l) → Emits b c (ZeroesSlots b1) → Emits a c (SavesSlots b1 l)
saves_emits true l x y = emits_then (λ M p locals c k g h. record { is = λ i. g.is i ++ h.is l i; has = record { reads = g.can; writes = h.can l } }) x y
saves_emits false l x y = emits_then (λ M p locals c k g h. record { is = λ i. g.is i ++ h.is l i; has = tt }) x y
