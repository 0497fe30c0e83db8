-- The check of the area that results are passed through.
use Rattle.std.proofs.Common.{◌≡◌, ◌≢◌, ℕ, zero, suc, ◌+◌, ◌-◌, ◌%◌, ◌^◌, ◌<◌, ◌≤◌, Bool, true, false, List, [], ◌∷◌, ◌++◌, Option, Some, refl, sym, ap, ◌∙◌, subst, arith, append_assoc, append-nil, slice_get}
use Rattle.std.specs.Prelude.{nat_eq, bit_and}
use Rattle.std.specs.Int.{IsPowerOfTwo}
use lib.Bits.{and_mask}
use Rattle.fact_wasm.specs.declared.types.ValType.{ValType}
use Rattle.fact_wasm.specs.declared.types.ValType.TheVariants as val
use Rattle.fact_wasm.specs.declared.instr.Instr.{Instr}
use Rattle.fact_wasm.specs.declared.instr.Instr.TheVariants as I
use Rattle.fact_wasm.specs.declared.instr.Instr.TheOpen as op
use Rattle.fact_wasm.specs.declared.module.WasmModule.{WasmModule}
use Rattle.fact_types.specs.declared.outside.Trap.TheVariants.{MemoryOutOfBounds}
use Rattle.fact_machine.specs.declared.types.CoreValue.{CoreValue}
use Rattle.fact_machine.specs.Typing.{address_bits, address_type, address_operand}
use Rattle.fact_machine.proofs.NumericLaws.{leaves_i64_const}
use Rattle.fact_actions.specs.Actions.{Action, Give}
use Rattle.fact_actions.specs.Running.{ImportPlaces}
use Rattle.fact_actions.specs.Sides.{LiftLowerOptions, check_region}
use Rattle.fact_code_laws.specs.Does.{Locals, Way, Onward, held_types, Does}
use Rattle.fact_code_laws.specs.Places.{KeepsLocals, stack_type, limit_of, widen}
use Rattle.fact_code_laws.specs.Typed.{OnStack, IsTyped}
use Rattle.fact_code_laws.proofs.Guards.{takes_aligned}
use Rattle.fact_code_laws.proofs.ListTurns.{length_addresses}
use Rattle.fact_code_laws.proofs.Pointers.{address_is, may_hold, keep_number, region}
use Rattle.fact_code_laws.specs.Tests.{pointer_of_width, region_code}
use Rattle.fact_code_laws.proofs.Regions.{typed_bounds}
use Rattle.fact_code_laws.proofs.Rules.{within, pushing, local_get, done}
use Rattle.fact_code_laws.proofs.Temporaries.{Temporaries, standing, set_temp}
use Rattle.fact_code_laws.proofs.TypedPlaces.{typed_widen}
use Rattle.fact_code_laws.proofs.TypedRows.{takes_plain, takes_local_get, takes_local_set}
use Rattle.fact_code_laws.proofs.TypedShapes.{takes_guard, typed_length}
use Rattle.fact_code_laws.proofs.TypingLaws.{typed_done, typed_then, typed_next, typed_one}
use Rattle.fact_emit.specs.declared.places.LinearMemory.{LinearMemory}
use Rattle.fact_emit.specs.declared.pointers.AreaLocals.{AreaLocals}
use Rattle.fact_emit.specs.declared.writer.Writer.{Writer}
use Rattle.fact_emit.specs.Areas.{widened_code, AreaCode, IsLinearMemoryOf, ChecksArea}
use Rattle.fact_emit.specs.Checks.{ChecksRegion}
use Rattle.fact_emit.specs.Emits.{Emits}
use Rattle.fact_emit.specs.Pieces.{Is}
use Rattle.fact_emit.specs.Writers.{taken_in, Wrote, Took, Freed}
use Rattle.fact_emit.proofs.Emitting.{emits_then, emits_wrote, emits_around, wrote_then, IsLocal}
use Rattle.fact_emit.proofs.NamedLaws.{ranged_append}
use Rattle.fact_emit.proofs.RangedCode.{constant_ranged, widened_ranged}

-- ---- what was written

pub area_emits : {a b c d e : Writer} {m : LinearMemory} {address size wide align : ℕ} (t : AreaLocals) → wide ≡ size → Wrote a b (widened_code m.memory64 address t.pointer) → Wrote b c (I.I64Const wide ∷ []) → Wrote c d (I.LocalSet t.bytes ∷ [])
    → Emits d e (ChecksRegion m align t.pointer t.bytes t.length MemoryOutOfBounds) → Emits a e (AreaCode m address size align t)
area_emits {m = m} {address} {size} {wide} {align} t same x y z v =
    let front : List Instr = widened_code m.memory64 address t.pointer in
    emits_then {P = Is (front ++ (I.I64Const wide ∷ I.LocalSet t.bytes ∷ []))} (λ M p locals c k is r. record {
      unaligned = r.unaligned;
      outside = r.outside;
      has_unaligned = r.has_unaligned;
      has_outside = r.has_outside;
      is = ap (λ c. c ++ k) is ∙ append_assoc front (I.I64Const wide ∷ I.LocalSet t.bytes ∷ []) k ∙ ap (λ k. front ++ (I.I64Const wide ∷ I.LocalSet t.bytes ∷ k)) r.is ∙ ap (λ n. front ++ (I.I64Const n ∷ I.LocalSet t.bytes ∷ region_code m.memory m.memory64 m.page_size_log2 align t.pointer t.bytes t.length r.unaligned r.outside)) same;
    }) (emits_wrote (ranged_append 0 0 front (I.I64Const wide ∷ I.LocalSet t.bytes ∷ []) (widened_ranged m.memory64 address t.pointer) (constant_ranged wide t.bytes)) (wrote_then x (wrote_then y z))) v

-- ---- three locals

abbrev pub three : (x y z : ℕ) → ℕ → ℕ
three x y z zero = x
three x y z (suc zero) = y
three x y z (suc (suc i)) = z

module _ (x y z : ℕ) (xy : x ≢ y) (xz : x ≢ z) (yz : y ≢ z) where
  pub apart : (i j : ℕ) → i < 3 → j < 3 → three x y z i ≡ three x y z j → i ≡ j
  apart zero zero li lj e = refl
  apart zero (suc zero) li lj e = absurd (xy e)
  apart zero (suc (suc j)) li lj e = absurd (xz e)
  apart (suc zero) zero li lj e = absurd (xy (sym e))
  apart (suc zero) (suc zero) li lj e = refl
  apart (suc zero) (suc (suc j)) li lj e = absurd (yz e)
  apart (suc (suc i)) zero li lj e = absurd (xz (sym e))
  apart (suc (suc i)) (suc zero) li lj e = absurd (yz (sym e))
  apart (suc (suc i)) (suc (suc j)) li lj e = omega (arith, li, lj)

pub each_of : (P : ℕ → Type 0) (x y z : ℕ) → P x → P y → P z → (i : ℕ) → i < 3 → P (three x y z i)
each_of P x y z a b c zero lt = a
each_of P x y z a b c (suc zero) lt = b
each_of P x y z a b c (suc (suc i)) lt = c

-- ---- what it does

pub limit_is : (memory64 : Bool) → limit_of (pointer_of_width memory64) ≡ 2 ^ address_bits memory64
limit_is true = refl
limit_is false = refl

pub below_wide : (memory64 : Bool) (n : ℕ) → n < 2 ^ address_bits memory64 → n < 2 ^ 64
below_wide true n h = h
below_wide false n h = omega (arith, h)

pub stack_address : (memory64 : Bool) → stack_type (pointer_of_width memory64) ≡ address_type memory64
stack_address true = refl
stack_address false = refl

pub masks_of : (align : ℕ) → IsPowerOfTwo align → (n : ℕ) → bit_and n (align - 1) ≡ n % align
masks_of align (k, is) n = ap (λ a. bit_and n (a - 1)) is ∙ and_mask n k ∙ ap (λ a. n % a) (sym is)

-- Its locals are distinct, of type i64, and not kept.
pub area_checks : (m : LinearMemory) (taken : ℕ → Bool) (address size align : ℕ) (t : AreaLocals) (M : WasmModule) (p : ImportPlaces) (locals : List ValType) (code : List Instr)
    → t.pointer ≢ t.bytes → t.pointer ≢ t.length → t.bytes ≢ t.length → taken t.pointer ≡ false → taken t.bytes ≡ false → taken t.length ≡ false
    → IsLocal t.pointer val.I64 locals → IsLocal t.bytes val.I64 locals → IsLocal t.length val.I64 locals → AreaCode m address size align t M p locals code → ChecksArea m taken address size align M p locals code
area_checks m taken address size align t M p locals code xy xz yz fx fy fz tx ty tz k = record {
  does = λ o used ls at side within_taken power size_wide at_wide e there.
      subst (λ x. Does M p Onward 40 0 [] ls x (check_region o MemoryOutOfBounds at size align (Give [])) (λ (vs : List CoreValue). []) (λ vs ls'. KeepsLocals used ls ls' × (at + size ≤ 2 ^ address_bits m.memory64))) (append-nil code)
      (does {way = Onward} {extra = 0} {spare = 0} {ins = []} {c = []} {q = Give []} {out = λ vs. []} {Holds = λ vs ls'. KeepsLocals used ls ls' × (at + size ≤ 2 ^ address_bits m.memory64)} o used ls at side within_taken (masks_of align power) size_wide at_wide e there (λ ls' k room. done refl (k, room)));
  typed = typed;
}
  where
    region_at : Option ℕ → List Instr
    region_at log2 = region_code m.memory m.memory64 log2 align t.pointer t.bytes t.length k.unaligned k.outside

    unkept : (used : ℕ → Bool) → ((i : ℕ) → used i ≡ true → taken i ≡ true) → (i : ℕ) → taken i ≡ false → used i ≡ false
    unkept used inside i f = go (used i) refl
      where
        go : (b : Bool) → used i ≡ b → used i ≡ false
        go true e = absurd (let no : true ≡ false = sym (inside i e) ∙ f in cc)
        go false e = e

    does : {way : Way} {extra spare : ℕ} {ins : List CoreValue} {c : List Instr} {q : Action (List CoreValue)} {out : List CoreValue → List CoreValue} {Holds : List CoreValue → Locals → Type 0}
        (o : LiftLowerOptions) (used : ℕ → Bool) (ls : Locals) (at : ℕ) → IsLinearMemoryOf M p o m → ((i : ℕ) → used i ≡ true → taken i ≡ true) → ((n : ℕ) → bit_and n (align - 1) ≡ n % align) → size < 2 ^ 64 → at < 2 ^ address_bits m.memory64
        → held_types ls ≡ locals → slice_get ls address ≡ Some (Some (address_operand m.memory64 at))
        → ((ls' : Locals) → KeepsLocals used ls ls' → at + size ≤ 2 ^ address_bits m.memory64 → Does M p way extra spare ins ls' c q out Holds)
        → Does M p way (40 + extra) spare ins ls (code ++ c) (check_region o MemoryOutOfBounds at size align q) out Holds
    does {way} {extra} {spare} {ins} {c} {q} {out} {Holds} o used ls at side within_taken masks size_wide at_wide e there go =
        let temps : Temporaries locals used 3 (three t.pointer t.bytes t.length) (λ i. val.I64) = record {
          distinct = apart t.pointer t.bytes t.length xy xz yz;
          typed = each_of (λ i. slice_get locals i ≡ Some val.I64) t.pointer t.bytes t.length tx ty tz;
          free = each_of (λ i. used i ≡ false) t.pointer t.bytes t.length (unkept used within_taken t.pointer fx) (unkept used within_taken t.bytes fy) (unkept used within_taken t.length fz);
        } in
        let r = check_region o MemoryOutOfBounds at size align q in
        let keep : List Instr = widen (pointer_of_width m.memory64) val.I64 ++ I.LocalSet t.pointer ∷ [] in
        let rest : List Instr = I.I64Const size ∷ I.LocalSet t.bytes ∷ region_at m.page_size_log2 in
        let all : code ++ c ≡ I.LocalGet address ∷ (keep ++ (rest ++ c)) = ap (λ x. x ++ c) k.is ∙ ap (λ x. I.LocalGet address ∷ x) (append_assoc keep rest c) in
        subst (λ x. Does M p way (40 + extra) spare ins ls x r out Holds) (sym all)
        (within (omega arith) (local_get there (subst (λ v. Does M p way (2 + (1 + suc (22 + extra))) spare (v ∷ ins) ls (keep ++ (rest ++ c)) r out Holds) (address_is m.memory64 at)
        (keep_number temps e standing m.memory64 0 at (omega arith) refl (λ ls1 s1.
        pushing (record { by = λ w vs. leaves_i64_const })
        (set_temp temps e 1 (omega arith) refl s1 (λ ls2 s2.
        subst (λ log2. Does M p way (22 + extra) spare ins ls2 (region_at log2 ++ c) r out Holds) side.log2
        (region temps e s2 o m.memory64 m.memory align side.side MemoryOutOfBounds 0 1 2 k.unaligned k.outside at size (omega arith) (omega arith) (omega arith) (λ z. cc) (λ z. cc) refl
        masks (below_wide m.memory64 at at_wide) size_wide s2.holds.1.0 s2.holds.0 k.has_unaligned k.has_outside (λ length fits inside ls3 s3. go ls3 s3.keeps (omega (arith, inside, length_addresses m.memory64 length fits)))))))))))

    typed : (o : LiftLowerOptions) → IsLinearMemoryOf M p o m → slice_get locals address ≡ Some (address_type m.memory64) → IsTyped M locals [] code [] (OnStack [])
    typed o side h =
        subst (λ x. IsTyped M locals [] x [] (OnStack [])) (sym k.is)
        (typed_next (takes_local_get h) (subst (λ v. IsTyped M locals [] ((widen (pointer_of_width m.memory64) val.I64 ++ I.LocalSet t.pointer ∷ []) ++ (I.I64Const size ∷ I.LocalSet t.bytes ∷ region_at m.page_size_log2)) (v ∷ []) (OnStack [])) (stack_address m.memory64)
        (typed_then (typed_then (typed_widen (pointer_of_width m.memory64) val.I64 (may_hold m.memory64)) (typed_one (takes_local_set tx)))
        (typed_next (takes_plain (op.I64Const size) (I.outs-I64Const size) refl) (typed_next (takes_local_set ty)
        (subst (λ log2. IsTyped M locals [] (region_at log2) [] (OnStack [])) side.log2
        (takes_aligned p (nat_eq align 1) t.pointer align k.unaligned k.has_unaligned tx
        (typed_then (typed_length m.memory64 side.side.has) (typed_next (takes_local_set tz) (takes_guard {c = []} k.has_outside (typed_bounds t.pointer t.bytes t.length tx ty tz) typed_done))))))))))

-- ---- the three locals taken around it

differs : (w : Writer) (i j : ℕ) → taken_in w i ≡ true → taken_in w j ≡ false → i ≢ j
differs w i j a b e = let no : true ≡ false = sym a ∙ ap (taken_in w) e ∙ b in absurd (cc)

module _ {a b c d : Writer} {x y z : ℕ} (tx : Took a b val.I64 x) (ty : Took b c val.I64 y) (tz : Took c d val.I64 z) where
  pub pointer_bytes : x ≢ y
  pointer_bytes = differs b x y tx.taken ty.was_free

  pub pointer_length : x ≢ z
  pointer_length = differs c x z (ty.others x pointer_bytes ∙ tx.taken) tz.was_free

  pub bytes_length : y ≢ z
  bytes_length = differs c y z ty.taken tz.was_free

  pub free_bytes : taken_in a y ≡ false
  free_bytes = sym (tx.others y (λ q. pointer_bytes (sym q))) ∙ ty.was_free

  pub free_length : taken_in a z ≡ false
  free_length = sym (tx.others z (λ q. pointer_length (sym q))) ∙ sym (ty.others z (λ q. bytes_length (sym q))) ∙ tz.was_free

pub area_around : {a b c d e f g h : Writer} {m : LinearMemory} {address size align : ℕ} (t : AreaLocals) → Took a b val.I64 t.pointer → Took b c val.I64 t.bytes → Took c d val.I64 t.length → Emits d e (AreaCode m address size align t)
    → Freed e f t.length → Freed f g t.bytes → Freed g h t.pointer → Emits a h (ChecksArea m (taken_in a) address size align)
area_around {a} {m = m} {address} {size} {align} t tx ty tz k fz fy fx =
    emits_around (λ M p locals code lx r. area_checks m (taken_in a) address size align t M p locals code (pointer_bytes tx ty tz) (pointer_length tx ty tz) (bytes_length tx ty tz) tx.was_free (free_bytes tx ty tz) (free_length tx ty tz) lx r.0 r.1 r.2) tx
    (emits_around {Q = λ M p locals code. IsLocal t.bytes val.I64 locals × IsLocal t.length val.I64 locals × AreaCode m address size align t M p locals code} (λ M p locals code ly r. (ly, r.0, r.1)) ty
    (emits_around {Q = λ M p locals code. IsLocal t.length val.I64 locals × AreaCode m address size align t M p locals code} (λ M p locals code lz r. (lz, r)) tz k fz) fy) fx
