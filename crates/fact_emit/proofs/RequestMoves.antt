-- Functions that write requests of regions.
use Rattle.std.proofs.Common.{◌≡◌, ℕ, Bool, true, false, List, [], ◌∷◌, ◌++◌, refl, sym, ap, ◌∙◌, subst}
use Rattle.std.specs.Prelude.{nat_eq}
use Rattle.fact_wasm.specs.declared.types.ValType.{ValType}
use Rattle.fact_wasm.specs.declared.types.ValType.TheVariants as val
use Rattle.fact_wasm.specs.declared.instr.Instr.{Instr}
use Rattle.fact_wasm.specs.declared.instr.Instr.TheVariants as I
use Rattle.fact_wasm.specs.declared.module.WasmModule.{WasmModule}
use Rattle.fact_types.specs.declared.import.Import.TheVariants as import
use Rattle.fact_types.specs.declared.outside.Trap.{Trap}
use Rattle.fact_types.specs.declared.outside.Trap.TheVariants.{UnalignedPointer}
use Rattle.fact_actions.specs.Running.{ImportPlaces}
use Rattle.fact_code_laws.specs.Context.{restore_code}
use Rattle.fact_code_laws.specs.Knows.{KnowsFunction}
use Rattle.fact_code_laws.specs.Places.{widen}
use Rattle.fact_code_laws.specs.Tests.{HasUnaligned, aligned_guard, pointer_of_width, region_code}
use Rattle.fact_emit.specs.declared.places.LinearMemory.{LinearMemory}
use Rattle.fact_emit.specs.declared.requests.NewRegion.{NewRegion}
use Rattle.fact_emit.specs.declared.writer.Writer.{Writer}
use Rattle.fact_emit.specs.Checks.{ChecksRegion}
use Rattle.fact_emit.specs.Emits.{Emits}
use Rattle.fact_emit.specs.Pieces.{Is}
use Rattle.fact_emit.specs.Requests.{IsReallocImported, ask_code_if, AsksRegion, CallsRealloc}
use Rattle.fact_emit.specs.RuntimeCalls.{slots_of, SavesSlots, WritesSlots}
use Rattle.fact_emit.specs.Writers.{Wrote}
use Rattle.fact_emit.proofs.Emitting.{emits_then, emits_as, emits_before, emits_wrote}
use Rattle.fact_emit.proofs.RangedCode.{kept_ranged}
use Rattle.fact_emit.proofs.RequestRanged.{asked_ranged}

-- where there is no test, any place will do
aligned_at : (one : Bool) (M : WasmModule) (p : ImportPlaces) (local align place : ℕ) → HasUnaligned one M p place
    → HasUnaligned one M p (p.function (import.Trap UnalignedPointer)) × (aligned_guard one local align place ≡ aligned_guard one local align (p.function (import.Trap UnalignedPointer)))
aligned_at true M p local align place h = (tt, refl)
aligned_at false M p local align place h =
    (subst (λ n. KnowsFunction M p (import.Trap UnalignedPointer) n [] []) (sym h.placed) h, ap (λ n. aligned_guard false local align n) (sym h.placed))

-- the checks of a region, with these places
pub record RegionAt (m : LinearMemory) (align address bytes length : ℕ) (t : Trap) (M : WasmModule) (p : ImportPlaces) (locals : List ValType) (code : List Instr) : Type 0 where
  pub unaligned : HasUnaligned (nat_eq align 1) M p (p.function (import.Trap UnalignedPointer))
  pub outside : KnowsFunction M p (import.Trap t) (p.function (import.Trap t)) [] []
  pub is : code ≡ region_code m.memory m.memory64 m.page_size_log2 align address bytes length (p.function (import.Trap UnalignedPointer)) (p.function (import.Trap t))

pub region_at : {m : LinearMemory} {align address bytes length : ℕ} {t : Trap} (M : WasmModule) (p : ImportPlaces) (locals : List ValType) (code : List Instr) → ChecksRegion m align address bytes length t M p locals code → RegionAt m align address bytes length t M p locals code
region_at {m} {align} {address} {bytes} {length} {t} M p locals code r =
    let a = aligned_at (nat_eq align 1) M p address align r.unaligned r.has_unaligned in
    let one = region_code m.memory m.memory64 m.page_size_log2 align address bytes length in
    record {
      unaligned = a.0;
      outside = subst (λ n. KnowsFunction M p (import.Trap t) n [] []) (sym r.has_outside.placed) r.has_outside;
      is = r.is ∙ ap (λ g. g ++ region_code m.memory m.memory64 m.page_size_log2 1 address bytes length 0 r.outside) a.1 ∙ ap (λ n. one (p.function (import.Trap UnalignedPointer)) n) (sym r.has_outside.placed);
    }

-- realloc is called, with the slots saved in front of the call and set back behind it
pub calls_realloc : {a b c d : Writer} {concurrency : Bool} {m : LinearMemory} (r : NewRegion) → IsReallocImported m b.sections → Emits a b (SavesSlots concurrency r.context) → Wrote b c (ask_code_if m.realloc m.memory64 r.align r.bytes) → Emits c d (WritesSlots concurrency r.context)
    → Emits a d (CallsRealloc concurrency m r)
calls_realloc {b = b} {concurrency = concurrency} {m} r imported x y z =
    let ask : List Instr = ask_code_if m.realloc m.memory64 r.align r.bytes in
    emits_then {Q = λ M p locals k. k ≡ ask ++ restore_code concurrency (slots_of p r.context)} (λ M p locals c k s is. record { slots = s.has; is = λ i. s.is i ++ is i }) x
    (emits_then {P = Is ask} (λ M p locals c k is w. λ i. is i ++ w.is i) (emits_before (asked_ranged m b.sections r.align r.bytes imported) y) z)

pub asks_region : {a b c d : Writer} {t : Trap} {concurrency : Bool} {m : LinearMemory} (r : NewRegion) → Emits a b (CallsRealloc concurrency m r) → Wrote b c (widen (pointer_of_width m.memory64) val.I64 ++ I.LocalSet r.address ∷ []) → Emits c d (ChecksRegion m r.align r.address r.bytes r.length t)
    → Emits a d (AsksRegion concurrency m r t)
asks_region {t = t} {concurrency} {m} r x y z =
    let keep : List Instr = widen (pointer_of_width m.memory64) val.I64 ++ I.LocalSet r.address ∷ [] in
    emits_then {Q = λ M p locals k. (checks : List Instr) × RegionAt m r.align r.address r.bytes r.length t M p locals checks × (k ≡ keep ++ checks)} (λ M p locals c k q g. record {
      slots = q.slots;
      unaligned = g.1.unaligned;
      outside = g.1.outside;
      is = λ i. q.is i ++ (g.2 ∙ ap (λ k. keep ++ k) g.1.is) i;
    }) x
    (emits_then {P = Is keep} (λ M p locals c k is g. (k, g, ap (λ c. c ++ k) is)) (emits_wrote (kept_ranged (pointer_of_width m.memory64) val.I64 r.address) y) (emits_as region_at z))
