-- The request of a new area that a tuple is passed through.
use Rattle.std.proofs.Common.{◌≡◌, ℕ, ◌^◌, ◌<◌, ◌≤◌, Bool, true, false, List, [], ◌∷◌, ◌++◌, length, Option, Some, None, refl, sym, ap, ◌∙◌, subst, arith, append_assoc, slice_get}
use Rattle.std.specs.Prelude.{nat_eq, if◌then◌else◌}
use Rattle.std.specs.Int.{IsPowerOfTwo}
use Rattle.std.specs.List.{AllByRecursion}
use Rattle.std.proofs.lemmas.Bool.{eqb-false, ne_eqb}
use Rattle.fact_wasm.specs.declared.types.ValType.{ValType}
use Rattle.fact_wasm.specs.declared.types.ValType.TheVariants as val
use Rattle.fact_wasm.specs.declared.instr.Instr.{Instr}
use Rattle.fact_wasm.specs.declared.instr.Instr.TheVariants as I
use Rattle.fact_wasm.specs.declared.instr.Instr.TheOpen as op
use Rattle.fact_wasm.specs.declared.module.WasmModule.{WasmModule}
use Rattle.fact_types.specs.declared.import.Import.TheVariants as import
use Rattle.fact_types.specs.declared.outside.CoreDef.{CoreDef}
use Rattle.fact_types.specs.declared.outside.Trap.TheVariants.{MemoryOutOfBounds, UnalignedPointer}
use Rattle.fact_types.specs.Adapters.{is_wide}
use Rattle.fact_types.specs.Signatures.{address as pointer_type}
use Rattle.fact_machine.specs.declared.types.CoreValue.TheVariants.{I32}
use Rattle.fact_machine.specs.Machine.{has_type}
use Rattle.fact_machine.specs.Typing.{address_type, address_operand}
use Rattle.fact_machine.proofs.NumericLaws.{leaves_i64_const}
use Rattle.fact_actions.specs.Actions as action
use Rattle.fact_actions.specs.Actions.{Action, Give, Ask}
use Rattle.fact_actions.specs.Running.{ImportPlaces}
use Rattle.fact_actions.specs.Sides.{LiftLowerOptions, check_region, first_bits, get_slots, reallocate, set_slots}
use Rattle.fact_code_laws.specs.Does.{Locals, Onward, held_types, Does}
use Rattle.fact_code_laws.specs.Context.{ContextSlots}
use Rattle.fact_code_laws.specs.Lists.{address_code}
use Rattle.fact_code_laws.specs.Places.{Slot, AreLocals, limit_of, widen}
use Rattle.fact_code_laws.specs.Typed.{OnStack, IsTyped}
use Rattle.fact_code_laws.specs.Tests.{pointer_of_width, region_code}
use Rattle.fact_code_laws.proofs.Guards.{takes_aligned}
use Rattle.fact_code_laws.proofs.Keeping.{keeps_then}
use Rattle.fact_code_laws.proofs.ListCode.{realloc_code, reallocates, region_action}
use Rattle.fact_code_laws.proofs.ListTyped.{typed_as_address, typed_ask, typed_keep_address}
use Rattle.fact_code_laws.proofs.Numbers.{set_keeps}
use Rattle.fact_code_laws.proofs.ListTurns.{length_addresses}
use Rattle.fact_code_laws.proofs.Pointers.{gets_address, limit_wide, region}
use Rattle.fact_code_laws.proofs.Regions.{typed_bounds}
use Rattle.fact_code_laws.proofs.Rules.{within, pushing, local_set, done}
use Rattle.fact_code_laws.proofs.Slots.{others, typed_slots}
use Rattle.fact_code_laws.proofs.Temporaries.{Temporaries, standing, set_temp}
use Rattle.fact_code_laws.proofs.TypedRows.{takes_plain, takes_local_set}
use Rattle.fact_code_laws.proofs.TypedShapes.{takes_guard, typed_length}
use Rattle.fact_code_laws.proofs.TypingLaws.{typed_done, typed_then, typed_next, typed_one}
use Rattle.fact_emit.specs.declared.context.ContextLocals.{ContextLocals}
use Rattle.fact_emit.specs.declared.places.LinearMemory.{LinearMemory}
use Rattle.fact_emit.specs.declared.pointers.AreaLocals.{AreaLocals}
use Rattle.fact_emit.specs.declared.requests.NewRegion.{NewRegion}
use Rattle.fact_emit.specs.declared.writer.Writer.{Writer}
use Rattle.fact_emit.specs.Areas.{IsLinearMemoryOf}
use Rattle.fact_emit.specs.Emits.{Emits}
use Rattle.fact_emit.specs.NewAreas.{NewAreaCode, HoldsArea, AsksArea}
use Rattle.fact_emit.specs.Pieces.{Is, Piece}
use Rattle.fact_emit.specs.Places.{AreDistinctSlots}
use Rattle.fact_emit.specs.Requests.{AsksRegion, IsReallocOf, request_code}
use Rattle.fact_emit.specs.RuntimeCalls.{slots_of}
use Rattle.fact_emit.specs.Writers.{taken_in, Wrote, Took, TookAll, Freed}
use Rattle.fact_emit.proofs.AreaMoves.{apart, each_of, limit_is, masks_of, three}
use Rattle.fact_emit.proofs.Emitting.{emits_as, emits_then, emits_wrote, emits_around, wrote_then, IsLocal}
use Rattle.fact_emit.proofs.NamedLaws.{ranged_append}
use Rattle.fact_emit.proofs.RangedCode.{constant_ranged, set_ranged}
use Rattle.fact_emit.proofs.RequestRanged.{address_ranged}
use Rattle.fact_emit.proofs.TakenLocals.{took_more, took_none}

-- ---- what was written

-- the region that is asked for
abbrev new_region : AreaLocals → ContextLocals → (align : ℕ) → NewRegion
new_region t s align = record { align = align; bytes = t.bytes; address = t.pointer; length = t.length; context = s }

pub new_area_emits : {a b c d e f : Writer} {concurrency : Bool} {m : LinearMemory} {address size wide align : ℕ} (t : AreaLocals) (s : ContextLocals) → wide ≡ size → Wrote a b (I.I64Const wide ∷ []) → Wrote b c (I.LocalSet t.bytes ∷ [])
    → Emits c d (AsksRegion concurrency m (new_region t s align) MemoryOutOfBounds) → Wrote d e (address_code m.memory64 t.pointer) → Wrote e f (I.LocalSet address ∷ []) → Emits a f (NewAreaCode concurrency m address size align t s)
new_area_emits {concurrency = concurrency} {m} {address} {size} {wide} {align} t s same x y z v w =
    let front : List Instr = I.I64Const wide ∷ I.LocalSet t.bytes ∷ [] in
    let back : List Instr = address_code m.memory64 t.pointer ++ I.LocalSet address ∷ [] in
    emits_then {P = Is front}
    {Q = λ M p locals k. (c : List Instr) × AsksRegion concurrency m (new_region t s align) MemoryOutOfBounds M p locals c × (k ≡ c ++ back)}
    (λ M p locals c k is r.
    let request : List Instr = request_code concurrency (slots_of p s) m.realloc m.memory64 align t.bytes in
    let keep : List Instr = widen (pointer_of_width m.memory64) val.I64 ++ I.LocalSet t.pointer ∷ [] in
    let checks : List Instr = region_code m.memory m.memory64 m.page_size_log2 align t.pointer t.bytes t.length (p.function (import.Trap UnalignedPointer)) (p.function (import.Trap MemoryOutOfBounds)) in
    record {
      slots = r.1.slots;
      unaligned = r.1.unaligned;
      outside = r.1.outside;
      is = ap (λ c. c ++ k) is ∙ ap (λ k. front ++ k) (r.2 ∙ ap (λ c. c ++ back) r.1.is ∙ append_assoc request (keep ++ checks) back ∙ ap (λ c. request ++ c) (append_assoc keep checks back))
          ∙ ap (λ n. I.I64Const n ∷ I.LocalSet t.bytes ∷ (request ++ (keep ++ (checks ++ back)))) same;
    })
    (emits_wrote (constant_ranged wide t.bytes) (wrote_then x y))
    (emits_then {Q = Is back} (λ M p locals c k r is. (c, r, ap (λ k. c ++ k) is)) z (emits_wrote (ranged_append 0 0 (address_code m.memory64 t.pointer) (I.LocalSet address ∷ []) (address_ranged m.memory64 t.pointer) (set_ranged address)) (wrote_then v w)))

-- ---- the action, over the width and realloc of its side

abbrev asks_bytes : {A : Type 0} → Bool → LiftLowerOptions → Bool → CoreDef → (align size : ℕ) → (ℕ → Action A) → Action A
asks_bytes concurrency o w f align size k = region_action concurrency w f align size (λ rs. check_region o MemoryOutOfBounds (first_bits rs) size align (k (first_bits rs)))

request_is : {A : Type 0} (concurrency : Bool) (o : LiftLowerOptions) (w : Bool) (f : CoreDef) (align size : ℕ) (k : ℕ → Action A) → is_wide o.memory ≡ w → o.realloc ≡ Some f
    → reallocate concurrency o MemoryOutOfBounds 0 0 align size k ≡ asks_bytes concurrency o w f align size k
request_is {A} concurrency o w f align size k wide given = ap (by_realloc (is_wide o.memory)) given ∙ ap (λ w. by_realloc w (Some f)) wide ∙ typed w
  where
    by_realloc : Bool → Option CoreDef → Action A
    by_realloc w r =
        elim r as (λ (r : Option CoreDef). Action A) [
          | None ↦ action.Unreachable
          | Some f ↦
              get_slots concurrency (λ a b. set_slots concurrency (I32 0 ∷ []) (I32 0 ∷ [])
              (Ask (import.CoreDef f) (address_operand w 0 ∷ address_operand w 0 ∷ address_operand w align ∷ address_operand w size ∷ []) (pointer_type w ∷ []) (λ rs.
              set_slots concurrency a b (check_region o MemoryOutOfBounds (first_bits rs) size align (k (first_bits rs))))))
        ]

    typed : (w : Bool) → by_realloc w (Some f) ≡ asks_bytes concurrency o w f align size k
    typed true = refl
    typed false = refl

limit_least : (memory64 : Bool) → 2 ^ 32 ≤ limit_of (pointer_of_width memory64)
limit_least true = omega arith
limit_least false = omega arith

address_has_type : (memory64 : Bool) (n : ℕ) → has_type (address_operand memory64 n) (address_type memory64) ≡ true
address_has_type true n = refl
address_has_type false n = refl

-- ---- what it does

-- the locals of a request
abbrev area_slots : AreaLocals → ContextLocals → List Slot
area_slots t s = (t.pointer, val.I64) ∷ (t.bytes, val.I64) ∷ (t.length, val.I64) ∷ (s.first, val.I32) ∷ (s.second, val.I32) ∷ []

-- a local that is neither of the two of the slots
other_than : (s : ContextSlots) (i : ℕ) → nat_eq i s.saved0 ≡ false → nat_eq i s.saved1 ≡ false → others s i ≡ true
other_than s i h k = ap (λ (b : Bool). if b then false else (if nat_eq i s.saved1 then false else true)) h ∙ ap (λ (b : Bool). if b then false else true) k

pub area_asks : (concurrency : Bool) (m : LinearMemory) (taken : ℕ → Bool) (address size align : ℕ) (t : AreaLocals) (s : ContextLocals) (M : WasmModule) (p : ImportPlaces) (locals : List ValType) (code : List Instr)
    → AreDistinctSlots (area_slots t s) → AllByRecursion (λ x. taken x.0 ≡ false) (area_slots t s) → AreLocals locals (area_slots t s)
    → NewAreaCode concurrency m address size align t s M p locals code → AsksArea concurrency m taken address size align M p locals code
area_asks concurrency m taken address size align t s M p locals code (px, (bx, (lx, (fx, sx)))) (fp, (fb, (fl, (ff, (fs, end))))) (tp, (tb, (tl, (tf, (ts, last))))) k = record { does = does; typed = typed }
  where
    unaligned : ℕ
    unaligned = p.function (import.Trap UnalignedPointer)

    outside : ℕ
    outside = p.function (import.Trap MemoryOutOfBounds)

    slots : ContextSlots
    slots = slots_of p s

    checks : Option ℕ → List Instr
    checks log2 = region_code m.memory m.memory64 log2 align t.pointer t.bytes t.length unaligned outside

    back : List Instr
    back = address_code m.memory64 t.pointer ++ I.LocalSet address ∷ []

    keep : List Instr
    keep = widen (pointer_of_width m.memory64) val.I64 ++ I.LocalSet t.pointer ∷ []

    -- the code with the place of realloc
    code_with : ℕ → Option ℕ → List Instr
    code_with place log2 = I.I64Const size ∷ I.LocalSet t.bytes ∷ (realloc_code concurrency slots m.memory64 align t.bytes t.pointer place ++ (checks log2 ++ back))

    code_is : {o : LiftLowerOptions} (side : IsLinearMemoryOf M p o m) (r : IsReallocOf M p o m) → code ≡ code_with r.place side.side.log2
    code_is side r =
        let request : Option ℕ → List Instr = λ q. request_code concurrency slots q m.memory64 align t.bytes in
        k.is ∙ ap (λ q. I.I64Const size ∷ I.LocalSet t.bytes ∷ (request q ++ (keep ++ (checks m.page_size_log2 ++ back)))) r.is
        ∙ ap (λ l. I.I64Const size ∷ I.LocalSet t.bytes ∷ (request (Some r.place) ++ (keep ++ (checks l ++ back)))) (sym side.log2)
        ∙ ap (λ c. I.I64Const size ∷ I.LocalSet t.bytes ∷ c) (sym (append_assoc (request (Some r.place)) keep (checks side.side.log2 ++ back)))

    unkept : (used : ℕ → Bool) → ((i : ℕ) → used i ≡ true → taken i ≡ true) → (i : ℕ) → taken i ≡ false → used i ≡ false
    unkept used inside i f = go (used i) refl
      where
        go : (b : Bool) → used i ≡ b → used i ≡ false
        go true e = absurd (let no : true ≡ false = sym (inside i e) ∙ f in cc)
        go false e = e

    -- a local in use is none that was not
    unlike : (i j : ℕ) → taken i ≡ true → taken j ≡ false → nat_eq i j ≡ false
    unlike i j u f = ne_eqb i j (λ e. absurd (let no : true ≡ false = sym u ∙ ap taken e ∙ f in cc))

    unsaved : (i : ℕ) → taken i ≡ true → others slots i ≡ true
    unsaved i u = other_than slots i (unlike i s.first u ff) (unlike i s.second u fs)

    wide_of : {o : LiftLowerOptions} → IsLinearMemoryOf M p o m → is_wide o.memory ≡ m.memory64
    wide_of side = ap is_wide side.side.is ∙ side.side.wide

    does : (o : LiftLowerOptions) (used : ℕ → Bool) (ls : Locals) → IsLinearMemoryOf M p o m → IsReallocOf M p o m → ((i : ℕ) → used i ≡ true → taken i ≡ true) → used address ≡ false → IsPowerOfTwo align → size < 2 ^ 32
        → held_types ls ≡ locals → slice_get locals address ≡ Some (address_type m.memory64)
        → Does M p Onward 60 0 [] ls code (reallocate concurrency o MemoryOutOfBounds 0 0 align size (λ at. Give at)) (λ at. []) (λ at ls'. HoldsArea m used address size ls at ls')
    does o used ls side r inside free power small e local =
        let temps : Temporaries locals used 3 (three t.pointer t.bytes t.length) (λ i. val.I64) = record {
          distinct = apart t.pointer t.bytes t.length (eqb-false t.pointer t.bytes px.0) (eqb-false t.pointer t.length px.1.0) (eqb-false t.bytes t.length bx.0);
          typed = each_of (λ i. slice_get locals i ≡ Some val.I64) t.pointer t.bytes t.length tp tb tl;
          free = each_of (λ i. used i ≡ false) t.pointer t.bytes t.length (unkept used inside t.pointer fp) (unkept used inside t.bytes fb) (unkept used inside t.length fl);
        } in
        let fits : size < limit_of (pointer_of_width m.memory64) = omega (arith, small, limit_least m.memory64) in
        let bytes_other : others slots t.bytes ≡ true = other_than slots t.bytes bx.1.0 bx.1.1.0 in
        subst (λ c. Does M p Onward 60 0 [] ls c (reallocate concurrency o MemoryOutOfBounds 0 0 align size (λ at. Give at)) (λ at. []) (λ at ls'. HoldsArea m used address size ls at ls')) (sym (code_is side r))
        (subst (λ q. Does M p Onward 60 0 [] ls (code_with r.place side.side.log2) q (λ at. []) (λ at ls'. HoldsArea m used address size ls at ls')) (sym (request_is concurrency o m.memory64 r.def align size (λ at. Give at) (wide_of side) r.given))
        (within (omega arith) (pushing (record { by = λ w vs. leaves_i64_const }) (set_temp temps e 1 (omega arith) refl standing (λ ls1 s1.
        reallocates temps e s1 concurrency slots k.slots (eqb-false s.first s.second fx.0) tf ts (λ i u. unsaved i (inside i u)) (bytes_other, tt) m.memory64 r.def r.place align 1 0 size (omega arith) refl fits s1.holds.0 bytes_other r.knows (λ rs lt ls2 s2.
        region temps e s2 o m.memory64 m.memory align side.side MemoryOutOfBounds 0 1 2 unaligned outside (first_bits rs) size (omega arith) (omega arith) (omega arith) (λ z. absurd (omega arith)) (λ z. absurd (omega arith)) refl
        (masks_of align power) (omega (arith, lt, limit_wide m.memory64)) (omega (arith, small)) s2.holds.0 s2.holds.1.0 k.unaligned k.outside (λ length is_length inside ls3 s3.
        gets_address m.memory64 t.pointer (first_bits rs) lt s3.holds.1.0 (local_set (address_type m.memory64) (ap (λ ts. slice_get ts address) (s3.keeps.types ∙ e) ∙ local) (address_has_type m.memory64 (first_bits rs)) (λ ls4 set.
        done refl (record { there = set.here; below = subst (λ n. first_bits rs < n) (limit_is m.memory64) lt; room = omega (arith, inside, length_addresses m.memory64 length is_length); keeps = keeps_then s3.keeps (set_keeps free set) }))))))))))

    typed : (o : LiftLowerOptions) → IsLinearMemoryOf M p o m → IsReallocOf M p o m → slice_get locals address ≡ Some (address_type m.memory64) → IsTyped M locals [] code [] (OnStack [])
    typed o side r h =
        subst (λ x. IsTyped M locals [] x [] (OnStack [])) (sym (code_is side r))
        (typed_next (takes_plain (op.I64Const size) (I.outs-I64Const size) refl) (typed_next (takes_local_set tb)
        (typed_then (typed_then (typed_slots p concurrency slots k.slots tf ts (typed_ask p m.memory64 align t.bytes r.place r.def tb r.knows)) (typed_keep_address m.memory64 t.pointer tp))
        (typed_then (takes_aligned p (nat_eq align 1) t.pointer align unaligned k.unaligned tp
        (typed_then (typed_length m.memory64 side.side.has) (typed_next (takes_local_set tl) (takes_guard {c = []} k.outside (typed_bounds t.pointer t.bytes t.length tp tb tl) typed_done))))
        (typed_then (typed_as_address m.memory64 t.pointer tp) (typed_one (takes_local_set h)))))))

-- ---- the locals taken around it

-- the five locals of a request by their numbers
abbrev five_slots : (pointer bytes length first second : ℕ) → List Slot
five_slots pointer bytes length first second = area_slots (record { pointer = pointer; bytes = bytes; length = length }) (record { first = first; second = second })

took_five : {a b c d e f : Writer} {pointer bytes length first second : ℕ} → Took a b val.I64 pointer → Took b c val.I64 bytes → Took c d val.I64 length → Took d e val.I32 first → Took e f val.I32 second → TookAll a f (five_slots pointer bytes length first second)
took_five tp tb tl tf ts = took_more tp (took_more tb (took_more tl (took_more tf (took_more ts took_none))))

still_taken : {a b : Writer} (i j : ℕ) → nat_eq i j ≡ false → Freed a b j → taken_in a i ≡ true → taken_in b i ≡ true
still_taken i j apart freed taken = freed.others i (eqb-false i j apart) ∙ taken

-- Each of them is in use till it is freed, the last one first.
module _ {a b c d e f g : Writer} {pointer bytes length first second : ℕ} {P : Piece} (tp : Took a b val.I64 pointer) (tb : Took b c val.I64 bytes) (tl : Took c d val.I64 length) (tf : Took d e val.I32 first) (ts : Took e f val.I32 second) (x : Emits f g P) where
  pub second_taken : taken_in g second ≡ true
  second_taken = x.grew.still second ∙ (took_five tp tb tl tf ts).taken.1.1.1.1.0

  pub first_taken : {h : Writer} → Freed g h second → taken_in h first ≡ true
  first_taken fs =
      let all = took_five tp tb tl tf ts in
      still_taken first second all.distinct.1.1.1.0.0 fs (x.grew.still first ∙ all.taken.1.1.1.0)

  pub length_taken : {h i : Writer} → Freed g h second → Freed h i first → taken_in i length ≡ true
  length_taken fs ff =
      let all = took_five tp tb tl tf ts in
      still_taken length first all.distinct.1.1.0.0 ff (still_taken length second all.distinct.1.1.0.1.0 fs (x.grew.still length ∙ all.taken.1.1.0))

  pub bytes_taken : {h i j : Writer} → Freed g h second → Freed h i first → Freed i j length → taken_in j bytes ≡ true
  bytes_taken fs ff fl =
      let all = took_five tp tb tl tf ts in
      still_taken bytes length all.distinct.1.0.0 fl (still_taken bytes first all.distinct.1.0.1.0 ff (still_taken bytes second all.distinct.1.0.1.1.0 fs (x.grew.still bytes ∙ all.taken.1.0)))

  pub pointer_taken : {h i j k : Writer} → Freed g h second → Freed h i first → Freed i j length → Freed j k bytes → taken_in k pointer ≡ true
  pointer_taken fs ff fl fb =
      let all = took_five tp tb tl tf ts in
      still_taken pointer bytes all.distinct.0.0 fb (still_taken pointer length all.distinct.0.1.0 fl (still_taken pointer first all.distinct.0.1.1.0 ff (still_taken pointer second all.distinct.0.1.1.1.0 fs (x.grew.still pointer ∙ all.taken.0))))

-- code with a local
record WithLocal (i : ℕ) (t : ValType) (P : Piece) (M : WasmModule) (p : ImportPlaces) (locals : List ValType) (code : List Instr) : Type 0 where
  pub local : IsLocal i t locals
  pub holds : P M p locals code

around : {a b c d : Writer} {t : ValType} {i : ℕ} {P : Piece} → Took a b t i → Emits b c P → Freed c d i → Emits a d (WithLocal i t P)
around {P = P} took x freed = emits_around {P = P} (λ M p locals code l h. record { local = l; holds = h }) took x freed

pub new_area_around : {a b c d e f g h i j k l : Writer} {concurrency : Bool} {m : LinearMemory} {address size align : ℕ} (t : AreaLocals) (s : ContextLocals)
    → Took a b val.I64 t.pointer → Took b c val.I64 t.bytes → Took c d val.I64 t.length → Took d e val.I32 s.first → Took e f val.I32 s.second → Emits f g (NewAreaCode concurrency m address size align t s)
    → Freed g h s.second → Freed h i s.first → Freed i j t.length → Freed j k t.bytes → Freed k l t.pointer → Emits a l (AsksArea concurrency m (taken_in a) address size align)
new_area_around {a} {concurrency = concurrency} {m} {address} {size} {align} t s tp tb tl tf ts x fs ff fl fb fp =
    let all = took_five tp tb tl tf ts in
    emits_as (λ M p locals code h.
    let h2 = h.holds in
    let h3 = h2.holds in
    let h4 = h3.holds in
    let h5 = h4.holds in
    area_asks concurrency m (taken_in a) address size align t s M p locals code all.distinct all.were_free (h.local, (h2.local, (h3.local, (h4.local, (h5.local, tt))))) h5.holds)
    (around tp (around tb (around tl (around tf (around ts x fs) ff) fl) fb) fp)
