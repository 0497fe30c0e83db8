-- Functions that write tests.
use Rattle.std.proofs.Common.{◌≡◌, ◌≢◌, ℕ, suc, ◌⊎◌, inl, inr, Bool, true, false, List, [], ◌∷◌, ◌++◌, refl, sym, ap, ◌∙◌, subst, append_assoc, append-nil}
use Rattle.std.specs.Prelude.{nat_eq}
use Rattle.std.proofs.lemmas.Bool.{ne_eqb, eq-eqb, eqb-false}
use Rattle.fact_wasm.specs.declared.types.ValType.{ValType}
use Rattle.fact_wasm.specs.declared.instr.BlockType.TheVariants.{Empty}
use Rattle.fact_wasm.specs.declared.instr.Instr.{Instr}
use Rattle.fact_wasm.specs.declared.instr.Instr.TheVariants as I
use Rattle.fact_wasm.specs.declared.module.WasmModule.{WasmModule}
use Rattle.fact_wasm.specs.Ranges.{AreRanged}
use Rattle.fact_types.specs.declared.import.Import.TheVariants as import
use Rattle.fact_types.specs.declared.outside.Trap.{Trap}
use Rattle.fact_types.specs.declared.outside.Trap.TheVariants.{UnalignedPointer, DebugAssertPointerAligned, DebugAssertUpperBitsUnset}
use Rattle.fact_actions.specs.Running.{ImportPlaces}
use Rattle.fact_code_laws.specs.Code.{guard_code, trap_code, length_code}
use Rattle.fact_code_laws.specs.Knows.{KnowsFunction}
use Rattle.fact_code_laws.specs.Places.{From, To, upper_test, place_test, place_check, HasAligned}
use Rattle.fact_code_laws.specs.Tests.{aligned_code, bounds_code, HasUnaligned, aligned_guard}
use Rattle.std.proofs.Common.{Bor}
use Rattle.fact_emit.specs.declared.places.Address.{Address}
use Rattle.fact_emit.specs.declared.places.LinearMemory.{LinearMemory}
use Rattle.fact_emit.specs.declared.places.SourcePlace.{SourcePlace}
use Rattle.fact_emit.specs.declared.places.SourcePlace.TheVariants as source
use Rattle.fact_emit.specs.declared.places.TargetPlace.{TargetPlace}
use Rattle.fact_emit.specs.declared.places.TargetPlace.TheVariants as target
use Rattle.fact_emit.specs.declared.places.TypedLocal.{TypedLocal}
use Rattle.fact_emit.specs.declared.writer.Writer.{Writer}
use Rattle.fact_emit.specs.Checks.{Guarded, ChecksUpper, ChecksAddress, ChecksFrom, ChecksTo, ChecksPlaces, ChecksAligned, ChecksRegion}
use Rattle.fact_emit.specs.Emits.{Emits}
use Rattle.fact_emit.specs.NamedFunctions.{imported_named}
use Rattle.fact_emit.specs.Pieces.{Is}
use Rattle.fact_emit.specs.Places.{checks_at, from_of, to_of}
use Rattle.fact_emit.specs.Writers.{Wrote, TookTrap}
use Rattle.fact_emit.proofs.Emitting.{emits_then, emits_as, emits_wrote, emits_taking, emits_nothing, wrote_then}
use Rattle.fact_emit.proofs.NamedLaws.{ranged_append}
use Rattle.fact_emit.proofs.RangedCode.{guard_named, guard_ranged, length_ranged, set_ranged}

-- A test with a trap that has a place.
pub guard_emits : {a b c : Writer} {t : Trap} {place : ℕ} (test body : List Instr) → AreRanged 0 0 test → TookTrap a b t place → body ≡ test ++ I.BrIf 0 ∷ trap_code place → Wrote b c (I.Block Empty body ∷ []) → Emits a c (Guarded test t [])
guard_emits {place = place} test body ranged x same y =
    emits_taking (ap (λ b. imported_named (I.Block Empty b ∷ [])) same ∙ guard_named test place ranged) (subst (λ b. AreRanged (suc place) 0 (I.Block Empty b ∷ [])) (sym same) (guard_ranged test place ranged)) x y (λ M p locals k. record { place = place; has = k; is = ap (λ b. I.Block Empty b ∷ []) same })

pub guarded_as : {a b : Writer} {t : Trap} {test test' : List Instr} → test ≡ test' → Emits a b (Guarded test t []) → Emits a b (Guarded test' t [])
guarded_as {a} {b} {t} e x = subst (λ test. Emits a b (Guarded test t [])) e x

-- with code behind it
pub guarded_then : {a b c : Writer} {test ys : List Instr} {t : Trap} → AreRanged 0 0 ys → Emits a b (Guarded test t []) → Wrote b c ys → Emits a c (Guarded test t ys)
guarded_then {test = test} ranged x y = emits_then (λ M p locals x y g is. record { place = g.place; has = g.has; is = ap (λ c. c ++ y) g.is ∙ ap (λ c. guard_code test g.place ++ c) is }) x (emits_wrote ranged y)

-- The place of a trap that is known is the one that the places of imports have.
module _ {M : WasmModule} {p : ImportPlaces} {t : Trap} {test : List Instr} {locals : List ValType} {code : List Instr} (g : Guarded test t [] M p locals code) where
  pub guard_is : code ≡ guard_code test (p.function (import.Trap t))
  guard_is = g.is ∙ ap (λ n. guard_code test n) (sym g.has.placed)

  pub trap_is : KnowsFunction M p (import.Trap t) (p.function (import.Trap t)) [] []
  trap_is = subst (λ n. KnowsFunction M p (import.Trap t) n [] []) (sym g.has.placed) g.has

-- ---- debug checks

pub upper_emits : {a b : Writer} (debug halved : Bool) (local : ℕ) {test : List Instr} → debug ≡ true → halved ≡ true → test ≡ upper_test local → Emits a b (Guarded test DebugAssertUpperBitsUnset []) → Emits a b (ChecksUpper debug halved local)
upper_emits true true local d h e x = emits_as (λ M p locals code g. record { is = guard_is g; has = trap_is g }) (guarded_as e x)
upper_emits true false local d h e x = absurd (let no : false ≡ true = h in cc)
upper_emits false halved local d h e x = absurd (let no : false ≡ true = d in cc)

pub no_upper_emits : (a : Writer) (debug halved : Bool) (local : ℕ) → ((debug ≡ true) × (halved ≡ false)) ⊎ (debug ≡ false) → Emits a a (ChecksUpper debug halved local)
no_upper_emits a false halved local h = emits_nothing (λ M p locals. record { is = refl; has = tt })
no_upper_emits a true false local h = emits_nothing (λ M p locals. record { is = refl; has = tt })
no_upper_emits a true true local (inl h) = absurd (let no : true ≡ false = h.1 in cc)
no_upper_emits a true true local (inr h) = absurd (let no : true ≡ false = h in cc)

pub address_emits : {a b : Writer} (debug memory64 : Bool) (align base offset : ℕ) {test : List Instr} → debug ≡ true → align ≢ 1 → test ≡ place_test memory64 base offset align → Emits a b (Guarded test DebugAssertPointerAligned []) → Emits a b (ChecksAddress debug memory64 align base offset)
address_emits false memory64 align base offset d many e x = absurd (let no : false ≡ true = d in cc)
address_emits true memory64 align base offset d many e x =
    emits_as (λ M p locals code g. record {
      is = guard_is g ∙ ap (λ q. place_check q (checks_at true p) memory64 base offset align) (sym (ne_eqb align 1 many));
      has = subst (λ q. HasAligned q M p (checks_at true p)) (sym (ne_eqb align 1 many)) (trap_is g);
    }) (guarded_as e x)

-- no test is needed
none_checked : (M : WasmModule) (p : ImportPlaces) (debug one memory64 : Bool) (base offset align : ℕ) → (debug ≡ true → one ≡ false → ⊥) → ([] ≡ place_check one (checks_at debug p) memory64 base offset align) × HasAligned one M p (checks_at debug p)
none_checked M p debug true memory64 base offset align h = (refl, tt)
none_checked M p false false memory64 base offset align h = (refl, tt)
none_checked M p true false memory64 base offset align h = absurd (h refl refl)

pub no_address_emits : (a : Writer) (debug memory64 : Bool) (align base offset : ℕ) → ((debug ≡ true) × (align ≡ 1)) ⊎ (debug ≡ false) → Emits a a (ChecksAddress debug memory64 align base offset)
no_address_emits a debug memory64 align base offset h =
    emits_nothing (λ M p locals.
    let none = none_checked M p debug (nat_eq align 1) memory64 base offset align (λ d many. unneeded h d (eqb-false align 1 many)) in
    record { is = none.0; has = none.1 })
  where
    unneeded : ((debug ≡ true) × (align ≡ 1)) ⊎ (debug ≡ false) → debug ≡ true → align ≢ 1 → ⊥
    unneeded (inl h) d many = many h.1
    unneeded (inr h) d many = let no : true ≡ false = sym d ∙ h in absurd (cc)

pub from_locals_checked : (a : Writer) (debug memory64 : Bool) (align : ℕ) (m : LinearMemory) {place : SourcePlace} {ls : Bor (List TypedLocal)} → place ≡ source.Locals ls → Emits a a (ChecksFrom debug memory64 align (from_of m place))
from_locals_checked a debug memory64 align m is = subst (λ s. Emits a a (ChecksFrom debug memory64 align (from_of m s))) (sym is) (emits_nothing (λ M p locals. record { is = refl; has = tt }))

pub from_memory_checked : {a b : Writer} (debug memory64 : Bool) (align : ℕ) (m : LinearMemory) (address : Address) {place : SourcePlace} → place ≡ source.Memory address → Emits a b (ChecksAddress debug memory64 align address.local address.offset) → Emits a b (ChecksFrom debug memory64 align (from_of m place))
from_memory_checked {a} {b} debug memory64 align m address is x =
    subst (λ s. Emits a b (ChecksFrom debug memory64 align (from_of m s))) (sym is) (emits_as (λ M p locals code r. record { is = r.is; has = r.has }) x)

pub to_locals_checked : (a : Writer) (debug memory64 : Bool) (align : ℕ) (m : LinearMemory) {place : TargetPlace} {ls : Bor (List TypedLocal)} → place ≡ target.Locals ls → Emits a a (ChecksTo debug memory64 align (to_of m place))
to_locals_checked a debug memory64 align m is = subst (λ s. Emits a a (ChecksTo debug memory64 align (to_of m s))) (sym is) (emits_nothing (λ M p locals. record { is = refl; has = tt }))

pub to_memory_checked : {a b : Writer} (debug memory64 : Bool) (align : ℕ) (m : LinearMemory) (address : Address) {place : TargetPlace} → place ≡ target.Memory address → Emits a b (ChecksAddress debug memory64 align address.local address.offset) → Emits a b (ChecksTo debug memory64 align (to_of m place))
to_memory_checked {a} {b} debug memory64 align m address is x =
    subst (λ s. Emits a b (ChecksTo debug memory64 align (to_of m s))) (sym is) (emits_as (λ M p locals code r. record { is = r.is; has = r.has }) x)

-- both places of a node
pub places_emits : {a b c : Writer} {debug from64 to64 : Bool} {from_align to_align : ℕ} {from : From} {to : To} → Emits a b (ChecksFrom debug from64 from_align from) → Emits b c (ChecksTo debug to64 to_align to) → Emits a c (ChecksPlaces debug from64 to64 from_align to_align from to)
places_emits x y = emits_then (λ M p locals c k f t. record { is = (λ i. f.is i ++ t.is i); from_has = f.has; to_has = t.has }) x y

-- ---- pointers and regions

pub aligned_emits : {a b : Writer} {test : List Instr} (align local : ℕ) → align ≢ 1 → test ≡ aligned_code local align → Emits a b (Guarded test UnalignedPointer []) → Emits a b (ChecksAligned align local)
aligned_emits align local many e x =
    emits_as (λ M p locals code g. record {
      place = g.place;
      has = subst (λ q. HasUnaligned q M p g.place) (sym (ne_eqb align 1 many)) g.has;
      is = g.is ∙ append-nil (guard_code (aligned_code local align) g.place) ∙ ap (λ q. aligned_guard q local align g.place) (sym (ne_eqb align 1 many));
    }) (guarded_as e x)

pub no_aligned_emits : (a : Writer) (align local : ℕ) → align ≡ 1 → Emits a a (ChecksAligned align local)
no_aligned_emits a align local one =
    emits_nothing (λ M p locals. record {
      place = 0;
      has = subst (λ q. HasUnaligned q M p 0) (sym (eq-eqb align 1 one)) tt;
      is = ap (λ q. aligned_guard q local align 0) (sym (eq-eqb align 1 one));
    })

-- the test of the alignment, the length of the memory, and the test of the bounds
pub region_emits : {a b c d e : Writer} {t : Trap} {m : LinearMemory} {align pointer bytes length : ℕ} {bounds : List Instr} → bounds ≡ bounds_code pointer bytes length
    → Emits a b (ChecksAligned align pointer) → Wrote b c (length_code m.memory m.memory64 m.page_size_log2) → Wrote c d (I.LocalSet length ∷ []) → Emits d e (Guarded bounds t [])
    → Emits a e (ChecksRegion m align pointer bytes length t)
region_emits {t = t} {m} {align} {pointer} {bytes} {length} same x y z v =
    let code : List Instr = length_code m.memory m.memory64 m.page_size_log2 in
    emits_then {P = ChecksAligned align pointer} {Q = λ M p locals k. (g : List Instr) × Guarded (bounds_code pointer bytes length) t [] M p locals g × (k ≡ (code ++ I.LocalSet length ∷ []) ++ g)}
    (λ M p locals c k g r. record {
      unaligned = g.place;
      outside = r.1.place;
      has_unaligned = g.has;
      has_outside = r.1.has;
      is = ap (λ c. c ++ k) g.is ∙ ap (λ k. aligned_guard (nat_eq align 1) pointer align g.place ++ k) (r.2 ∙ append_assoc code (I.LocalSet length ∷ []) r.0 ∙ ap (λ g. code ++ I.LocalSet length ∷ g) (r.1.is ∙ append-nil _));
    })
    x
    (emits_then {P = Is (code ++ I.LocalSet length ∷ [])} {Q = Guarded (bounds_code pointer bytes length) t []} (λ M p locals c k is g. (k, g, ap (λ c. c ++ k) is)) (emits_wrote (ranged_append 0 0 code (I.LocalSet length ∷ []) (length_ranged m.memory m.memory64 m.page_size_log2) (set_ranged length)) (wrote_then y z)) (guarded_as same v))
