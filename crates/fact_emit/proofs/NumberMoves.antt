-- Functions that write code of numbers.
use Rattle.std.proofs.Common.{◌≡◌, ◌≢◌, ℕ, ◌^◌, ◌≤◌, lit<, Bool, List, [], ◌∷◌, ◌++◌, refl, sym, ap, ◌∙◌, subst, append_assoc, Some, None, slice_get}
use Rattle.std.specs.Prelude.{if◌then◌else◌}
use Rattle.std.proofs.lemmas.Bool.{eq-eqb, ne_eqb}
use Rattle.std.proofs.Math.Nat.{pow-le-pow_right}
use Rattle.fact_wasm.specs.declared.types.ValType.{ValType}
use Rattle.fact_wasm.specs.declared.types.ValType.TheVariants as val
use Rattle.fact_wasm.specs.declared.instr.Instr.{Instr}
use Rattle.fact_wasm.specs.declared.instr.Instr.TheVariants as I
use Rattle.fact_wasm.specs.declared.module.WasmModule.{WasmModule}
use Rattle.fact_wasm.specs.Ranges.{AreRanged}
use Rattle.fact_actions.specs.Running.{ImportPlaces}
use Rattle.fact_actions.specs.Sides.{LiftLowerOptions}
use Rattle.fact_code_laws.specs.Code.{scaled_code}
use Rattle.fact_code_laws.specs.Places.{From, InLocals, InMemory, To, Number, N8, N16, N32, N64, FitsNumber, DebugChecks, Off, Setting, is_halved, Readable, code_before, code_behind, read_code, narrow, widen}
use Rattle.fact_code_laws.proofs.Chars.{scalar_is, case_is}
use Rattle.fact_code_laws.specs.Tests.{pointer_of_width}
use Rattle.fact_code_laws.proofs.Scalars.{Converts, converts_none, converts_bool, converts_s8, converts_s16, converts_low, IsNarrow, narrow_8, narrow_16, narrow_32, moves_number, number_code}
use Rattle.fact_code_laws.proofs.Tested.{IsTest, moves_tested, tested_code}
use Rattle.fact_types.proofs.ShapeLaws.{same_some, none_some}
use Rattle.std.proofs.Common.{Bor}
use Rattle.fact_emit.specs.declared.places.Address.{Address}
use Rattle.fact_emit.specs.declared.places.LinearMemory.{LinearMemory}
use Rattle.fact_emit.specs.declared.places.SourcePlace.{SourcePlace}
use Rattle.fact_emit.specs.declared.places.SourcePlace.TheVariants as source
use Rattle.fact_emit.specs.declared.places.Sides.{Sides}
use Rattle.fact_emit.specs.declared.places.TypedLocal.{TypedLocal}
use Rattle.fact_emit.specs.declared.scalars.Canonical.{Canonical}
use Rattle.fact_emit.specs.declared.scalars.Canonical.TheVariants.{AsIs, Truth, Signed8, Signed16, Low}
use Rattle.fact_emit.specs.declared.scalars.NumberTest.{NumberTest}
use Rattle.fact_emit.specs.declared.scalars.NumberTest.TheVariants.{ScalarValue, CaseBelow}
use Rattle.fact_emit.specs.declared.writer.Writer.{Writer}
use Rattle.fact_emit.specs.Checks.{Guarded, ChecksUpper, ReadsPointer}
use Rattle.fact_emit.specs.Emits.{Emits}
use Rattle.fact_emit.specs.MovesValue.{MovesValue, except, HasLocal}
use Rattle.fact_emit.specs.Numbers.{HasUpperAt, ReadsNumber, FitsUnchecked}
use Rattle.fact_emit.specs.Pieces.{Is}
use Rattle.fact_emit.specs.Places.{checks_at, setting_of, from_of, slots_of_locals}
use Rattle.fact_emit.specs.Scalars.{canonical_code, canonical_of, IsCanonicalFor, number_moves, tested_moves, passes_test, code_of_test, trap_of_test}
use Rattle.fact_emit.specs.Writers.{taken_in, Wrote}
use Rattle.fact_emit.proofs.CheckMoves.{guarded_then}
use Rattle.fact_emit.proofs.Emitting.{emits_as, emits_then, emits_wrote, emits_nothing, wrote_none, wrote_then}
use Rattle.fact_emit.proofs.NamedLaws.{ranged_append}
use Rattle.fact_emit.proofs.RangedCode.{before_ranged, behind_ranged, canonical_ranged, get_ranged, kept_ranged, local_ranged, memory_ranged, set_ranged}
use Rattle.fact_emit.proofs.Using.{free_except}

-- ---- products

pub scaled_put : {a b c : Writer} {factor : ℕ} → factor ≢ 1 → Wrote a b (I.I64Const factor ∷ []) → Wrote b c (I.I64Mul ∷ []) → Wrote a c (scaled_code factor)
scaled_put {a} {c = c} {factor} many x y = subst (λ (one : Bool). Wrote a c (if one then [] else (I.I64Const factor ∷ I.I64Mul ∷ []))) (sym (ne_eqb factor 1 many)) (wrote_then x y)

pub not_scaled : (a : Writer) {factor : ℕ} → factor ≡ 1 → Wrote a a (scaled_code factor)
not_scaled a {factor} is = subst (λ (one : Bool). Wrote a a (if one then [] else (I.I64Const factor ∷ I.I64Mul ∷ []))) (sym (eq-eqb factor 1 is)) (wrote_none a)

pub scaled_as : {a b : Writer} {n m : ℕ} → n ≡ m → Wrote a b (scaled_code n) → Wrote a b (scaled_code m)
scaled_as {a} {b} is x = subst (λ n. Wrote a b (scaled_code n)) is x

-- ---- numbers that are read

-- of a local, behind the check of what is left out
pub local_emits : {a b c d : Writer} (debug : Bool) (n : Number) (local : ℕ) (t : ValType) {halved : Bool} → halved ≡ is_halved n t → Emits a b (ChecksUpper debug halved local) → Wrote b c (I.LocalGet local ∷ []) → Wrote c d (narrow n t)
    → Emits a d (ReadsNumber debug n (InLocals ((local, t) ∷ [])))
local_emits {a} {b} debug n local t e x y z =
    emits_then (λ M p locals c k h is. record { is = (λ i. h.is i ++ is i); has = h.has }) (subst (λ h. Emits a b (ChecksUpper debug h local)) e x) (emits_wrote (local_ranged local n t) (wrote_then y z))

-- of a place of that local and others
first_emits : {a b : Writer} (debug : Bool) (n : Number) (l : TypedLocal) (ls : List TypedLocal) → slice_get ls 0 ≡ Some l → Emits a b (ReadsNumber debug n (InLocals ((l.local, l.ty) ∷ []))) → Emits a b (ReadsNumber debug n (InLocals (slots_of_locals ls)))
first_emits debug n l [] e x = absurd (none_some None l refl e)
first_emits {a} {b} debug n l (m ∷ ls) e x =
    let same : l ≡ m = sym (same_some (Some m) m l refl e) in
    subst (λ k. Emits a b (ReadsNumber debug n (InLocals ((k.local, k.ty) ∷ slots_of_locals ls)))) same (emits_as (λ M p locals code r. record { is = r.is; has = r.has }) x)

no_local_emits : (a : Writer) (debug : Bool) (n : Number) (ls : List TypedLocal) → slice_get ls 0 ≡ None → Emits a a (ReadsNumber debug n (InLocals (slots_of_locals ls)))
no_local_emits a debug n [] e = emits_nothing (λ M p locals. record { is = refl; has = tt })
no_local_emits a debug n (l ∷ ls) e = absurd (none_some None l refl (sym e))

-- of a memory, which has no check
memory_emits : {a b : Writer} {debug : Bool} {n : Number} {memory base offset : ℕ} → Wrote a b (read_code Off n (InMemory memory base offset)) → Emits a b (ReadsNumber debug n (InMemory memory base offset))
memory_emits {n = n} {memory} {base} {offset} w = emits_as (λ M p locals code is. record { is = is; has = tt }) (emits_wrote (memory_ranged n memory base offset) w)

-- of a source place of the writing functions
pub read_first : {a b : Writer} (debug : Bool) (n : Number) (m : LinearMemory) {place : SourcePlace} {ls : Bor (List TypedLocal)} (l : TypedLocal) → place ≡ source.Locals ls → slice_get ls.now 0 ≡ Some l → Emits a b (ReadsNumber debug n (InLocals ((l.local, l.ty) ∷ []))) → Emits a b (ReadsNumber debug n (from_of m place))
read_first {a} {b} debug n m {ls = ls} l is e x = subst (λ s. Emits a b (ReadsNumber debug n (from_of m s))) (sym is) (first_emits debug n l ls.now e x)

pub read_none : (a : Writer) (debug : Bool) (n : Number) (m : LinearMemory) {place : SourcePlace} {ls : Bor (List TypedLocal)} → place ≡ source.Locals ls → slice_get ls.now 0 ≡ None → Emits a a (ReadsNumber debug n (from_of m place))
read_none a debug n m {ls = ls} is e = subst (λ s. Emits a a (ReadsNumber debug n (from_of m s))) (sym is) (no_local_emits a debug n ls.now e)

pub read_address : {a b : Writer} (debug : Bool) (n : Number) (m : LinearMemory) {place : SourcePlace} (address : Address) → place ≡ source.Memory address → Wrote a b (read_code Off n (InMemory m.memory address.local address.offset)) → Emits a b (ReadsNumber debug n (from_of m place))
read_address {a} {b} debug n m address is w = subst (λ s. Emits a b (ReadsNumber debug n (from_of m s))) (sym is) (memory_emits w)

-- with code behind it
abbrev pub ReadsThen : Bool → Number → From → List Instr → WasmModule → ImportPlaces → List ValType → List Instr → Type 0
ReadsThen debug n from ys M p locals code = HasUpperAt M p (checks_at debug p) n from × (code ≡ read_code (checks_at debug p) n from ++ ys)

pub reads_then : {a b c : Writer} {debug : Bool} {n : Number} {from : From} {ys : List Instr} → AreRanged 0 0 ys → Emits a b (ReadsNumber debug n from) → Wrote b c ys → Emits a c (ReadsThen debug n from ys)
reads_then ranged x y = emits_then (λ M p locals c k r is. (r.has, λ i. r.is i ++ is i)) x (emits_wrote ranged y)

pub pointer_emits : {a b c d : Writer} {debug memory64 : Bool} {n : Number} {from : From} {local : ℕ} → n ≡ pointer_of_width memory64 → Emits a b (ReadsNumber debug n from) → Wrote b c (widen n val.I64) → Wrote c d (I.LocalSet local ∷ []) → Emits a d (ReadsPointer debug memory64 from local)
pointer_emits {debug = debug} {memory64} {n} {from} {local} e x y z =
    emits_as (λ M p locals code r. record {
      is = r.1 ∙ ap (λ n. read_code (checks_at debug p) n from ++ (widen n val.I64 ++ I.LocalSet local ∷ [])) e;
      has = subst (λ n. HasUpperAt M p (checks_at debug p) n from) e r.0;
    }) (reads_then (kept_ranged n val.I64 local) x (wrote_then y z))

-- ---- settings with checks

module _ (M : WasmModule) (p : ImportPlaces) (checks : DebugChecks) (o : LiftLowerOptions) (memory64 : Bool) (n : Number) where
  pub readable : (from : From) → HasUpperAt M p checks n from → Readable M p Off o memory64 n from → Readable M p checks o memory64 n from
  readable (InLocals []) h r = r
  readable (InLocals (s ∷ ss)) h r = (r.0, h)
  readable (InMemory memory base offset) h r = r

-- the function of the check's trap is there
pub fits_checked : {n : Number} {from : From} {to : To} (S : Setting) → HasUpperAt S.whole S.places S.checks n from → FitsUnchecked n from to S → FitsNumber S n from to
fits_checked {n} {from} S h f = record { readable = readable S.whole S.places S.checks S.from S.from64 n from h f.readable; writable = f.writable; from_typed = f.from_typed; to_typed = f.to_typed }

-- ---- canonical numbers

low_converts : (n : Number) (bits : ℕ) → n ≢ N64 → 2 ^ bits ≤ 2 ^ 32 → Converts n (canonical_of (Low bits)) (canonical_code (Low bits))
low_converts N8 bits ne fits = converts_low N8 narrow_8 bits fits
low_converts N16 bits ne fits = converts_low N16 narrow_16 bits fits
low_converts N32 bits ne fits = converts_low N32 narrow_32 bits fits
low_converts N64 bits ne fits = absurd (ne refl)

canonical_converts : (c : Canonical) (n : Number) → IsCanonicalFor c n → Converts n (canonical_of c) (canonical_code c)
canonical_converts AsIs n h = converts_none n
canonical_converts Truth n h = subst (λ n. Converts n (canonical_of Truth) (canonical_code Truth)) (sym h) converts_bool
canonical_converts Signed8 n h = subst (λ n. Converts n (canonical_of Signed8) (canonical_code Signed8)) (sym h) converts_s8
canonical_converts Signed16 n h = subst (λ n. Converts n (canonical_of Signed16) (canonical_code Signed16)) (sym h) converts_s16
canonical_converts (Low bits) n h = low_converts n bits h.0 (pow-le-pow_right {n = 2} (lit< tt) h.1)

-- A number that is read, made canonical and written.
pub number_emits : {a b c d e : Writer} {n : Number} (k : Canonical) {src : From} {dst : To} (sides : Sides) → IsCanonicalFor k n
    → Wrote a b (code_before dst) → Emits b c (ReadsNumber sides.debug n src) → Wrote c d (canonical_code k) → Wrote d e (code_behind n dst)
    → Emits a e (MovesValue sides src dst (taken_in a) 516 (FitsUnchecked n src dst) (number_moves n (canonical_of k)))
number_emits {a} {n = n} k {src} {dst} sides h x y z v =
    emits_then {P = Is (code_before dst)} {Q = ReadsThen sides.debug n src (canonical_code k ++ code_behind n dst)}
    (λ M p locals c l is r.
    let all : c ++ l ≡ number_code (checks_at sides.debug p) n src (canonical_code k) dst = λ i. is i ++ r.1 i in
    subst (λ code. MovesValue sides src dst (taken_in a) 516 (FitsUnchecked n src dst) (number_moves n (canonical_of k)) M p locals code) (sym all)
    (record { moves = λ o o' rooms used u fits. let S = setting_of sides o o' rooms M p locals in moves_number S used src dst n (fits_checked S r.0 fits) (canonical_converts k n h) }))
    (emits_wrote (before_ranged dst) x) (reads_then (ranged_append 0 0 (canonical_code k) (code_behind n dst) (canonical_ranged k) (behind_ranged n dst)) y (wrote_then z v))

-- ---- numbers that are tested

pub narrow_of : (n : Number) → n ≢ N64 → IsNarrow n
narrow_of N8 ne = narrow_8
narrow_of N16 ne = narrow_16
narrow_of N32 ne = narrow_32
narrow_of N64 ne = absurd (ne refl)

test_is : (t : NumberTest) → IsTest (passes_test t) (code_of_test t)
test_is ScalarValue = scalar_is
test_is (CaseBelow cases) = case_is cases

-- A number that is read, tested and written.
pub tested_emits : {a b c d e f g : Writer} {n : Number} (local : ℕ) {src : From} {dst : To} (sides : Sides) (t : NumberTest) → n ≢ N64
    → Wrote a b (code_before dst) → Emits b c (ReadsNumber sides.debug n src) → Wrote c d (I.LocalSet local ∷ []) → Emits d e (Guarded (code_of_test t local) (trap_of_test t) []) → Wrote e f (I.LocalGet local ∷ []) → Wrote f g (code_behind n dst)
    → Emits a g (MovesValue sides src dst (except local (taken_in a)) 516 (λ S. FitsUnchecked n src dst S × HasLocal local val.I32 S) (tested_moves n t))
tested_emits {a} {n = n} local {src} {dst} sides t short u v x y z r =
    emits_then {P = λ M p locals c. HasUpperAt M p (checks_at sides.debug p) n src × (c ≡ code_before dst ++ (read_code (checks_at sides.debug p) n src ++ I.LocalSet local ∷ []))} {Q = Guarded (code_of_test t local) (trap_of_test t) (I.LocalGet local ∷ code_behind n dst)}
    (λ M p locals c k h g.
    let reads = read_code (checks_at sides.debug p) n src in
    let all : c ++ k ≡ tested_code (checks_at sides.debug p) n (code_of_test t) local g.place src dst =
    ap (λ c. c ++ k) h.1 ∙ append_assoc (code_before dst) (reads ++ I.LocalSet local ∷ []) k
    ∙ ap (λ c. code_before dst ++ c) (append_assoc reads (I.LocalSet local ∷ []) k)
    ∙ ap (λ k. code_before dst ++ (reads ++ I.LocalSet local ∷ k)) g.is in
    subst (λ code. MovesValue sides src dst (except local (taken_in a)) 516 (λ S. FitsUnchecked n src dst S × HasLocal local val.I32 S) (tested_moves n t) M p locals code) (sym all)
    (record {
      moves = λ o o' rooms used using fits.
          let S = setting_of sides o o' rooms M p locals in
          moves_tested S used src dst local g.place n (narrow_of n short) (fits_checked S h.0 fits.0) using.to (record { local = fits.1; free = free_except (taken_in a) using }) (trap_of_test t) g.has (test_is t);
    }))
    (emits_then {P = Is (code_before dst)} {Q = ReadsThen sides.debug n src (I.LocalSet local ∷ [])} (λ M p locals c k is q. (q.0, λ i. is i ++ q.1 i)) (emits_wrote (before_ranged dst) u) (reads_then (set_ranged local) v x))
    (guarded_then (ranged_append 0 0 (I.LocalGet local ∷ []) (code_behind n dst) (get_ranged local) (behind_ranged n dst)) y (wrote_then z r))
