-- Moves of lists, whatever their elements.
use Rattle.std.proofs.Common.{◌≡◌, ◌≢◌, ℕ, zero, suc, ◌+◌, ◌-◌, ◌*◌, ◌%◌, ◌^◌, ◌<◌, ◌≤◌, Bool, true, false, List, [], ◌∷◌, ◌++◌, Option, Some, refl, ap, ◌∙◌, arith, slice_get, sym, ◌&&◌}
use Rattle.std.specs.Prelude.{nat_lt, nat_eq, bit_and, if◌then◌else◌}
use Rattle.fact_wasm.specs.declared.types.ValType.{ValType}
use Rattle.std.proofs.lemmas.Bool.{ltb-true, eqb-false, ne_eqb}
use Rattle.fact_wasm.specs.declared.instr.Instr.{Instr}
use Rattle.fact_wasm.specs.declared.instr.Instr.TheVariants as I
use Rattle.fact_wasm.specs.declared.module.WasmModule.{WasmModule}
use Rattle.fact_types.specs.declared.outside.CoreDef.{CoreDef}
use Rattle.fact_types.specs.declared.outside.Trap.TheVariants.{ListOutOfBounds}
use Rattle.fact_machine.specs.declared.types.CoreValue.{CoreValue}
use Rattle.fact_machine.specs.declared.types.CoreValue.TheVariants.{I64}
use Rattle.fact_types.specs.declared.import.Import.TheVariants as import
use Rattle.fact_actions.specs.Actions.{Action, Give, ◌>>=◌, each}
use Rattle.fact_actions.specs.Running.{ImportPlaces}
use Rattle.fact_actions.specs.Sides.{Source, AtAddress, Target, Into, first_bits, write_number}
use Rattle.fact_code_laws.specs.Code.{counted_code}
use Rattle.fact_code_laws.specs.Does.{Locals, Way, Onward, held_types, Does}
use Rattle.fact_code_laws.specs.Knows.{KnowsFunction}
use Rattle.fact_code_laws.specs.Places.{is_on, Setting, From, To, Readable, Writable, FromUsed, ToUsed, SideMemory, StandsAt, MayGo, Stood, KeepsLocals, size_of, limit_of}
use Rattle.fact_machine.specs.Typing.{address_bits, address_type, address_operand}
use Rattle.fact_code_laws.proofs.Rules.{within, in_turn, pushing, local_get}
use Rattle.fact_code_laws.proofs.Blocks.{mapped}
use Rattle.fact_code_laws.proofs.Keeping.{keeps_all, keeps_then}
use Rattle.fact_code_laws.proofs.Temporaries.{Temporaries, standing, Standing, set_temp}
use Rattle.fact_code_laws.proofs.Lengths.{IsLength}
use Rattle.fact_code_laws.proofs.Regions.{pushes_bytes}
use Rattle.fact_code_laws.proofs.Scaled.{scaled_few}
use Rattle.fact_code_laws.proofs.Guards.{few_bytes, checks_few}
use Rattle.fact_code_laws.specs.Tests.{HasUnaligned, pointer_of_width, read_into, region_code}
use Rattle.fact_code_laws.proofs.Pointers.{limit_wide, reads_into, region, gets_address}
use Rattle.fact_code_laws.proofs.Slots.{ContextSlots, HasSlotsIf, others}
use Rattle.fact_code_laws.proofs.ListCode.{list_action, realloc_code, reallocates, puts, address_typed}
use Rattle.fact_code_laws.proofs.ListTurns.{list_type, turn_body, elements}
use Rattle.fact_machine.proofs.Tests.{first_of, second_of}
use Rattle.fact_code_laws.specs.Lists.{bytes_code, is_few, few_guard, left_code, address_code, put_code}

-- ---- what stands in a list's code

-- A list's move: the sizes and alignments of its elements, its temporaries, the places of the functions of its traps and of
-- realloc, where its pointer and its length stand and go, and the code and action of an element.
pub record ListMove : Type 0 where
  pub size1 : ℕ
  pub align1 : ℕ
  pub size2 : ℕ
  pub align2 : ℕ
  pub temp : ℕ → ℕ
  pub unaligned : ℕ
  pub outside : ℕ
  pub realloc : CoreDef
  pub realloc_at : ℕ
  pub get0 : ℕ
  pub get1 : ℕ
  pub set0 : ℕ
  pub set1 : ℕ
  pub memory1 : ℕ
  pub memory2 : ℕ
  pub pointer1 : From
  pub length1 : From
  pub pointer2 : To
  pub length2 : To
  pub code : List Instr
  pub element : Source → Target → Action (List CoreValue)

abbrev pub slots_of : ListMove → ContextSlots
slots_of l = record { get0 = l.get0; get1 = l.get1; set0 = l.set0; set1 = l.set1; saved0 = l.temp 8; saved1 = l.temp 9 }

-- what it needs of its setting
pub record IsListMove (S : Setting) (used inner used1 used2 : ℕ → Bool) (l : ListMove) : Type 0 where
  pub some1 : 0 < l.size1
  pub some2 : 0 < l.size2
  pub masks1 : (x : ℕ) → bit_and x (l.align1 - 1) ≡ x % l.align1
  pub masks2 : (x : ℕ) → bit_and x (l.align2 - 1) ≡ x % l.align2
  pub temps : Temporaries S.locals used 10 l.temp (list_type S.from64 S.to64)
  pub side1 : SideMemory S.whole S.places S.from S.from64 l.memory1
  pub side2 : SideMemory S.whole S.places S.to S.to64 l.memory2
  pub aligned1 : HasUnaligned (nat_eq l.align1 1) S.whole S.places l.unaligned
  pub aligned2 : HasUnaligned (nat_eq l.align2 1) S.whole S.places l.unaligned
  pub traps : KnowsFunction S.whole S.places (import.Trap ListOutOfBounds) l.outside [] []
  pub reallocs : KnowsFunction S.whole S.places (import.CoreDef l.realloc) l.realloc_at (address_type S.to64 ∷ address_type S.to64 ∷ address_type S.to64 ∷ address_type S.to64 ∷ []) (address_type S.to64 ∷ [])
  pub slots : HasSlotsIf S.concurrency S.whole S.places (slots_of l)
  pub readable1 : Readable S.whole S.places S.checks S.from S.from64 (pointer_of_width S.from64) l.pointer1
  pub readable2 : Readable S.whole S.places S.checks S.from S.from64 (pointer_of_width S.from64) l.length1
  pub from_used1 : FromUsed used l.pointer1
  pub from_used2 : FromUsed used l.length1
  pub writable1 : Writable S.whole S.places S.to S.to64 (pointer_of_width S.to64) l.pointer2
  pub writable2 : Writable S.whole S.places S.to S.to64 (pointer_of_width S.to64) l.length2
  pub to_used1 : ToUsed used1 l.pointer2
  pub to_used2 : ToUsed used2 l.length2
  -- the locals in use while elements are moved, when its pointer is put into its place, and behind that
  pub inner_used : (i : ℕ) → used i ≡ true → inner i ≡ true
  pub inner_temps : (j : ℕ) → j < 10 → inner (l.temp j) ≡ true
  pub used2_used : (i : ℕ) → used i ≡ true → used2 i ≡ true
  pub used1_used : (i : ℕ) → used i ≡ true → used1 i ≡ true
  pub used1_number : used1 (l.temp 1) ≡ true
  pub stays : (ls ls' : Locals) (vs : List CoreValue) → KeepsLocals used2 ls ls' → Stood ls l.pointer2 vs → Stood ls' l.pointer2 vs
  pub element_does : (ls : Locals) (a b : ℕ) → held_types ls ≡ S.locals → slice_get ls (l.temp 6) ≡ Some (Some (address_operand S.from64 a)) → slice_get ls (l.temp 7) ≡ Some (Some (address_operand S.to64 b)) → a + l.size1 ≤ 2 ^ address_bits S.from64 → b + l.size2 ≤ 2 ^ address_bits S.to64
      → Does S.whole S.places Onward 0 100 [] ls l.code (l.element (AtAddress a) (Into b)) (λ vs. []) (λ vs ls'. KeepsLocals inner ls ls')

abbrev pub pair_code : Setting → ListMove → List Instr
pair_code S l = put_code S.to64 (l.temp 3) l.pointer2 ++ put_code S.to64 (l.temp 1) l.length2

abbrev pub elements_code : Setting → ListMove → List Instr
elements_code S l =
    address_code S.from64 (l.temp 0) ++ (I.LocalSet (l.temp 6) ∷ (address_code S.to64 (l.temp 3) ++ (I.LocalSet (l.temp 7) ∷ I.LocalGet (l.temp 1) ∷ I.LocalSet (l.temp 5)
    ∷ (counted_code (left_code (l.temp 5)) (turn_body S.from64 S.to64 l.size1 l.size2 l.temp l.code) ++ pair_code S l))))

abbrev pub list_target_code : Setting → ListMove → Option ℕ → List Instr
list_target_code S l log2 =
    bytes_code (l.temp 1) l.size2 ++ (I.LocalSet (l.temp 2) ∷ (realloc_code S.concurrency (slots_of l) S.to64 l.align2 (l.temp 2) (l.temp 3) l.realloc_at
    ++ (region_code l.memory2 S.to64 log2 l.align2 (l.temp 3) (l.temp 2) (l.temp 4) l.unaligned l.outside ++ elements_code S l)))

abbrev pub list_source_code : Setting → ListMove → Option ℕ → Option ℕ → List Instr
list_source_code S l log1 log2 =
    bytes_code (l.temp 1) l.size1 ++ (I.LocalSet (l.temp 2) ∷ (region_code l.memory1 S.from64 log1 l.align1 (l.temp 0) (l.temp 2) (l.temp 4) l.unaligned l.outside ++ list_target_code S l log2))

abbrev pub list_code : Setting → ListMove → Option ℕ → Option ℕ → List Instr
list_code S l log1 log2 =
    read_into S.checks S.from64 l.pointer1 (l.temp 0) ++ (read_into S.checks S.from64 l.length1 (l.temp 1)
    ++ (few_guard (is_few S.from64 l.size1) (l.temp 1) l.size1 l.outside ++ (few_guard (is_few S.to64 l.size2) (l.temp 1) l.size2 l.outside ++ list_source_code S l log1 log2)))

-- ---- what it does

-- the bytes of a number of things of a size, in front of other code
gets_bytes : {A : Type 0} {M : WasmModule} {p : ImportPlaces} {way : Way} {extra spare : ℕ} {ins : List CoreValue} {ls : Locals} {c : List Instr} {q : Action A} {out : A → List CoreValue} {Holds : A → Locals → Type 0} (number n size : ℕ) → n * size < 2 ^ 64
    → slice_get ls number ≡ Some (Some (I64 n)) → Does M p way extra spare (I64 (n * size) ∷ ins) ls c q out Holds → Does M p way (3 + extra) spare ins ls (bytes_code number size ++ c) q out Holds
gets_bytes number n size lt h d = within (omega (arith, scaled_few size)) (pushing (pushes_bytes number n size lt h) d)

limit_least : (memory64 : Bool) → 2 ^ 32 ≤ limit_of (pointer_of_width memory64)
limit_least true = omega arith
limit_least false = omega arith

below_narrow : (memory64 : Bool) (n : ℕ) → n < limit_of (pointer_of_width memory64) → memory64 ≡ false → n < 2 ^ 32
below_narrow true n lt narrow = cc
below_narrow false n lt narrow = lt

below_product : (n s b : ℕ) → 0 < s → n * s < b → n < b
below_product n zero b h lt = absurd (omega arith)
below_product n (suc s) b h lt = omega arith

pub less_used : {used more : ℕ → Bool} {ls ls' : Locals} → ((i : ℕ) → used i ≡ true → more i ≡ true) → KeepsLocals more ls ls' → KeepsLocals used ls ls'
less_used h k = record { same = λ i u. k.same i (h i u); types = k.types }

pub apart : {locals : List ValType} {used : ℕ → Bool} {temp : ℕ → ℕ} {type : ℕ → ValType} → Temporaries locals used 10 temp type → (i j : ℕ) → (nat_lt i 10 && nat_lt j 10) ≡ true → nat_eq i j ≡ false → temp i ≢ temp j
apart t i j h ne same =
    eqb-false i j ne (t.distinct i j (ltb-true i 10 (first_of (nat_lt i 10) (nat_lt j 10) h)) (ltb-true j 10 (second_of (nat_lt i 10) (nat_lt j 10) h)) same)

-- the temporaries of the slots are no others, and not in use
other_than : (s : ContextSlots) (i : ℕ) → i ≢ s.saved0 → i ≢ s.saved1 → others s i ≡ true
other_than s i h h' = ap (λ b. if b then false else (if nat_eq i s.saved1 then false else true)) (ne_eqb i s.saved0 h) ∙ ap (λ b. if b then false else true) (ne_eqb i s.saved1 h')

module _ {locals : List ValType} {used : ℕ → Bool} {temp : ℕ → ℕ} {type : ℕ → ValType} (t : Temporaries locals used 10 temp type) (s : ContextSlots) (is0 : s.saved0 ≡ temp 8) (is1 : s.saved1 ≡ temp 9) where
  pub slots_apart : (j : ℕ) → nat_lt j 8 ≡ true → others s (temp j) ≡ true
  slots_apart j lt =
      let less : j < 8 = ltb-true j 8 lt in
      other_than s (temp j) (λ same. let e : j ≡ 8 = t.distinct j 8 (omega arith) (omega arith) (same ∙ is0) in absurd (omega arith)) (λ same. let e : j ≡ 9 = t.distinct j 9 (omega arith) (omega arith) (same ∙ is1) in absurd (omega arith))

  pub slots_unused : (i : ℕ) → used i ≡ true → others s i ≡ true
  slots_unused i u =
      other_than s i (λ same. let no : false ≡ true = sym (t.free 8 (omega arith)) ∙ ap used (sym (same ∙ is0)) ∙ u in cc) (λ same. let no : false ≡ true = sym (t.free 9 (omega arith)) ∙ ap used (sym (same ∙ is1)) ∙ u in cc)

saved_apart : {S : Setting} {used inner used1 used2 : ℕ → Bool} {l : ListMove} → IsListMove S used inner used1 used2 l → (j : ℕ) → nat_lt j 8 ≡ true → others (slots_of l) (l.temp j) ≡ true
saved_apart {l = l} h j lt = slots_apart h.temps (slots_of l) refl refl j lt

unsaved : {S : Setting} {used inner used1 used2 : ℕ → Bool} {l : ListMove} → IsListMove S used inner used1 used2 l → (i : ℕ) → used i ≡ true → others (slots_of l) i ≡ true
unsaved {l = l} h i u = slots_unused h.temps (slots_of l) refl refl i u

module _ {S : Setting} {used inner used1 used2 : ℕ → Bool} {l : ListMove} (h : IsListMove S used inner used1 used2 l) (first : Locals) (e : held_types first ≡ S.locals) where
  -- what holds behind a list: its two numbers stand in their places, and the locals in use are as they were
  pub record IsMoved (vs : List CoreValue) (ls : Locals) : Type 0 where
    pub pointer_values : List CoreValue
    pub length_values : List CoreValue
    pub is : vs ≡ pointer_values ++ length_values
    pub pointer_stands : Stood ls l.pointer2 pointer_values
    pub length_stands : Stood ls l.length2 length_values
    pub keeps : KeepsLocals used first ls

  module _ (d1 d2 : Target) (g1 : (ls : Locals) → KeepsLocals used first ls → MayGo used1 ls S.to64 l.pointer2 d1) (g2 : (ls : Locals) → KeepsLocals used first ls → MayGo used2 ls S.to64 l.length2 d2) where
    pair_does : {q n : ℕ} {ls : Locals} → KeepsLocals used first ls → q < limit_of (pointer_of_width S.to64) → n < limit_of (pointer_of_width S.to64) → slice_get ls (l.temp 3) ≡ Some (Some (I64 q)) → slice_get ls (l.temp 1) ≡ Some (Some (I64 n))
        → Does S.whole S.places Onward 10 0 [] ls (pair_code S l) (write_number S.to (size_of (pointer_of_width S.to64)) d1 q >>= (λ a. write_number S.to (size_of (pointer_of_width S.to64)) d2 n >>= (λ b. Give (a ++ b)))) (λ vs. []) (λ vs ls'. IsMoved vs ls')
    pair_does {q} {n} {ls} k lq ln hq hn =
        in_turn (puts used1 S.to S.to64 l.pointer2 d1 (l.temp 3) q h.writable1 h.to_used1 (g1 ls k) keeps_all lq hq) (λ a ls1 r.
        let k1 : KeepsLocals used first ls1 = keeps_then k (less_used h.used1_used r.1) in
        mapped (λ b. a ++ b) (λ b. refl) (λ b ls2 r2. record {
          pointer_values = a;
          length_values = b;
          is = refl;
          pointer_stands = h.stays ls1 ls2 a r2.1 r.0;
          length_stands = r2.0;
          keeps = keeps_then k1 (less_used h.used2_used r2.1);
        })
        (puts used2 S.to S.to64 l.length2 d2 (l.temp 1) n h.writable2 h.to_used2 (g2 ls1 k1) keeps_all ln (r.1.same (l.temp 1) h.used1_number ∙ hn)))

    -- the elements, and then the new numbers
    elements_do : {from to n bytes length1 length2 : ℕ} {ls : Locals} → Standing used 10 l.temp first ls ((4, I64 length2) ∷ (3, I64 to) ∷ (2, I64 bytes) ∷ (1, I64 n) ∷ (0, I64 from) ∷ [])
        → from < limit_of (pointer_of_width S.from64) → to < limit_of (pointer_of_width S.to64) → n < limit_of (pointer_of_width S.to64) → n < 2 ^ 64 → from + n * l.size1 ≤ length1 → to + n * l.size2 ≤ length2 → IsLength S.from64 length1 → IsLength S.to64 length2
        → Does S.whole S.places Onward 23 0 [] ls (elements_code S l)
        (each n (λ i. l.element (AtAddress (from + i * l.size1)) (Into (to + i * l.size2))) >>= (λ vs. write_number S.to (size_of (pointer_of_width S.to64)) d1 to >>= (λ a. write_number S.to (size_of (pointer_of_width S.to64)) d2 n >>= (λ b. Give (a ++ b)))))
        (λ vs. []) (λ vs ls'. IsMoved vs ls')
    elements_do {from} {to} {n} {ls = ls} s lp lq ln wide fits1 fits2 is1 is2 =
        within (omega arith) (gets_address S.from64 (l.temp 0) from lp s.holds.1.1.1.1.0 (set_temp h.temps e 6 (omega arith) (address_typed S.from64 from) s (λ ls1 s1.
        gets_address S.to64 (l.temp 3) to lq s1.holds.1.1.0 (set_temp h.temps e 7 (omega arith) (address_typed S.to64 to) s1 (λ ls2 s2.
        local_get s2.holds.1.1.1.1.1.0 (set_temp h.temps e 5 (omega arith) refl s2 (λ ls3 s3.
        let types3 : held_types ls3 ≡ S.locals = s3.keeps.types ∙ e in
        let begin1 : from ≡ from + 0 * l.size1 = omega arith in
        let begin2 : to ≡ to + 0 * l.size2 = omega arith in
        in_turn
        (elements S.from64 S.to64 h.temps h.inner_used h.inner_temps ls3 types3 l.size1 l.size2 h.some1 h.some2 from to n wide fits1 fits2 is1 is2 l.element h.element_does ls3 (record {
          keeps = keeps_all;
          left = s3.holds.0 ∙ ap (λ m. Some (Some (I64 m))) (omega arith);
          number = s3.holds.1.1.1.1.1.1.0;
          region = s3.holds.1.1.1.1.0;
          source = λ some. s3.holds.1.1.0 ∙ ap (λ a. Some (Some (address_operand S.from64 a))) begin1;
          target = λ some. s3.holds.1.0 ∙ ap (λ a. Some (Some (address_operand S.to64 a))) begin2;
        }))
        (λ vs ls4 turn. pair_does (keeps_then s3.keeps turn.keeps) lq ln turn.region turn.number))))))))

    -- a list's move
    pub list_does : (p1 n1 : Source) → StandsAt first S.from64 l.pointer1 p1 → StandsAt first S.from64 l.length1 n1
        → Does S.whole S.places Onward 125 0 [] first (list_code S l h.side1.log2 h.side2.log2)
        (list_action (is_on S.checks) S.concurrency S.from64 S.to64 S.from S.to l.realloc l.size1 l.align1 l.size2 l.align2 l.element p1 n1 d1 d2) (λ vs. []) (λ vs ls'. IsMoved vs ls')
    list_does p1 n1 st1 st2 =
        reads_into h.temps e standing S.checks S.from S.from64 l.pointer1 p1 0 (omega arith) refl h.readable1 h.from_used1 st1 (λ from lp ls0 s0.
        reads_into h.temps e s0 S.checks S.from S.from64 l.length1 n1 1 (omega arith) refl h.readable2 h.from_used2 st2 (λ n ln ls1 s1.
        checks_few (is_few S.from64 l.size1) (l.temp 1) n l.size1 l.outside (few_bytes S.from64 n l.size1 (below_narrow S.from64 n ln)) h.some1 h.traps s1.holds.0 (λ small1.
        checks_few (is_few S.to64 l.size2) (l.temp 1) n l.size2 l.outside (few_bytes S.to64 n l.size2 (λ narrow. below_product n l.size1 (2 ^ 32) h.some1 small1)) h.some2 h.traps s1.holds.0 (λ small2.
        gets_bytes (l.temp 1) n l.size1 (omega (arith, small1)) s1.holds.0 (set_temp h.temps e 2 (omega arith) refl s1 (λ ls2 s2.
        region h.temps e s2 S.from S.from64 l.memory1 l.align1 h.side1 ListOutOfBounds 0 2 4 l.unaligned l.outside from (n * l.size1) (omega arith) (omega arith) (omega arith) (λ z. absurd (omega arith)) (λ z. absurd (omega arith)) refl h.masks1
        (omega (arith, lp, limit_wide S.from64)) (omega (arith, small1)) s2.holds.1.1.0 s2.holds.0 h.aligned1 h.traps (λ length1 is1 fits1 ls3 s3.
        gets_bytes (l.temp 1) n l.size2 (omega (arith, small2)) s3.holds.1.1.0 (set_temp h.temps e 2 (omega arith) refl s3 (λ ls4 s4.
        reallocates h.temps e s4 S.concurrency (slots_of l) h.slots (apart h.temps 8 9 refl refl) (h.temps.typed 8 (omega arith)) (h.temps.typed 9 (omega arith)) (unsaved h) (saved_apart h 2 refl, (saved_apart h 4 refl, (saved_apart h 1 refl, (saved_apart h 0 refl, tt)))) S.to64 l.realloc l.realloc_at l.align2 2 3 (n * l.size2) (omega arith) refl (omega (arith, small2, limit_least S.to64)) s4.holds.0 (saved_apart h 2 refl) h.reallocs (λ rs lq ls5 s5.
        region h.temps e s5 S.to S.to64 l.memory2 l.align2 h.side2 ListOutOfBounds 3 2 4 l.unaligned l.outside (first_bits rs) (n * l.size2) (omega arith) (omega arith) (omega arith) (λ z. absurd (omega arith)) (λ z. absurd (omega arith)) refl h.masks2
        (omega (arith, lq, limit_wide S.to64)) (omega (arith, small2)) s5.holds.0 s5.holds.1.0 h.aligned2 h.traps (λ length2 is2 fits2 ls6 s6.
        let few : n < 2 ^ 32 = below_product n l.size2 (2 ^ 32) h.some2 small2 in
        elements_do s6 lp lq (omega (arith, few, limit_least S.to64)) (omega (arith, few)) fits1 fits2 is1 is2)))))))))))
