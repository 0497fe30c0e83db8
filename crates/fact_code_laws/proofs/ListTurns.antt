-- The loop of a list: an element is moved, both addresses go on, and one turn less is left.
use Rattle.std.proofs.Common.{◌≡◌, ◌≢◌, ℕ, suc, ◌+◌, ◌-◌, ◌*◌, ◌^◌, ◌<◌, ◌≤◌, Bool, true, false, ◌&&◌, List, [], ◌++◌, Some, refl, ap, ◌∙◌, subst, arith, slice_get}
use Rattle.std.specs.Prelude.{nat_lt, nat_eq, if◌then◌else◌}
use Rattle.std.proofs.lemmas.Bool.{ltb-true, eqb-false}
use Rattle.fact_wasm.specs.declared.types.ValType.{ValType}
use Rattle.fact_wasm.specs.declared.types.ValType.TheVariants as val
use Rattle.fact_wasm.specs.declared.instr.Instr.{Instr}
use Rattle.fact_wasm.specs.declared.module.WasmModule.{WasmModule}
use Rattle.fact_machine.specs.declared.types.CoreValue.{CoreValue}
use Rattle.fact_machine.specs.declared.types.CoreValue.TheVariants.{I64}
use Rattle.fact_actions.specs.Actions.{Action, each}
use Rattle.fact_actions.specs.Running.{ImportPlaces}
use Rattle.fact_actions.specs.Sides.{Source, AtAddress, Target, Into}
use Rattle.fact_code_laws.specs.Code.{counted_code}
use Rattle.fact_code_laws.specs.Does.{Locals, Onward, held_types, Does}
use Rattle.fact_code_laws.specs.Places.{KeepsLocals, limit_of}
use Rattle.fact_machine.specs.Typing.{address_bits, address_type, address_operand}
use Rattle.fact_code_laws.proofs.Rules.{within, in_turn, done}
use Rattle.fact_code_laws.proofs.Blocks.{same_run, alone}
use Rattle.fact_code_laws.proofs.Loops.{counted}
use Rattle.fact_code_laws.proofs.Lengths.{IsLength}
use Rattle.fact_code_laws.proofs.Numbers.{set_keeps}
use Rattle.fact_code_laws.proofs.Keeping.{keeps_then}
use Rattle.fact_code_laws.proofs.Temporaries.{Temporaries}
use Rattle.fact_code_laws.specs.Tests.{pointer_of_width}
use Rattle.fact_code_laws.proofs.ListCode.{bumps, counts, pushes_left}
use Rattle.fact_machine.proofs.Tests.{first_of, second_of}
use Rattle.fact_code_laws.specs.Lists.{bump_code, count_code, left_code}

-- The temporaries of a list: 0 its pointer, 1 its length, 2 bytes, 3 the new pointer, 4 the length of a memory, 5 the elements
-- that are left, 6 and 7 the addresses of an element at the source and at the destination, 8 and 9 the slots of the context.
abbrev pub list_type : (w1 w2 : Bool) → ℕ → ValType
list_type w1 w2 i = if nat_eq i 6 then address_type w1 else (if nat_eq i 7 then address_type w2 else (if nat_lt i 8 then val.I64 else val.I32))

abbrev pub turn_body : (w1 w2 : Bool) (e1 e2 : ℕ) (temp : ℕ → ℕ) → List Instr → List Instr
turn_body w1 w2 e1 e2 temp element = element ++ (bump_code w1 (temp 6) e1 ++ (bump_code w2 (temp 7) e2 ++ count_code (temp 5)))

length_limit : (memory64 : Bool) (n : ℕ) → IsLength memory64 n → n ≤ limit_of (pointer_of_width memory64)
length_limit true n h = let lt : n < 2 ^ 64 = h in omega arith
length_limit false n h = h

pub length_addresses : (memory64 : Bool) (n : ℕ) → IsLength memory64 n → n ≤ 2 ^ address_bits memory64
length_addresses true n h = let lt : n < 2 ^ 64 = h in omega arith
length_addresses false n h = h

-- an element of a region within a memory has addresses
all_within : (i m e p len : ℕ) → p + (suc i + m) * e ≤ len → p + i * e + e ≤ len
all_within i m e p len le = omega (arith, le)

-- where an element is left, the address of the next is within the region
next_within : (i m e p len : ℕ) → 0 < e → p + (suc i + suc m) * e ≤ len → p + i * e + e < len
next_within i m e p len some le = omega (arith, some, le)

module _ {M : WasmModule} {p : ImportPlaces} {locals : List ValType} {used inner : ℕ → Bool} (w1 w2 : Bool) {temp : ℕ → ℕ} (t : Temporaries locals used 10 temp (list_type w1 w2)) (inner_used : (i : ℕ) → used i ≡ true → inner i ≡ true) (inner_temp : (j : ℕ) → j < 10 → inner (temp j) ≡ true)
    (first : Locals) (e : held_types first ≡ locals) (e1 e2 : ℕ) (some1 : 0 < e1) (some2 : 0 < e2) (from to n : ℕ) (small : n < 2 ^ 64)
    {length1 length2 : ℕ} (fits1 : from + n * e1 ≤ length1) (fits2 : to + n * e2 ≤ length2) (is1 : IsLength w1 length1) (is2 : IsLength w2 length2)
    {code : List Instr} (element : Source → Target → Action (List CoreValue))
    (element_does : (ls : Locals) (a b : ℕ) → held_types ls ≡ locals → slice_get ls (temp 6) ≡ Some (Some (address_operand w1 a)) → slice_get ls (temp 7) ≡ Some (Some (address_operand w2 b)) → a + e1 ≤ 2 ^ address_bits w1 → b + e2 ≤ 2 ^ address_bits w2
    → Does M p Onward 0 100 [] ls code (element (AtAddress a) (Into b)) (λ vs. []) (λ vs ls'. KeepsLocals inner ls ls')) where
  apart : (i j : ℕ) → (nat_lt i 10 && nat_lt j 10) ≡ true → nat_eq i j ≡ false → temp i ≢ temp j
  apart i j h ne same =
      eqb-false i j ne (t.distinct i j (ltb-true i 10 (first_of (nat_lt i 10) (nat_lt j 10) h)) (ltb-true j 10 (second_of (nat_lt i 10) (nat_lt j 10) h)) same)

  -- how the locals stand before the turn of this number
  pub record Turn (i : ℕ) (ls : Locals) : Type 0 where
    pub keeps : KeepsLocals used first ls
    pub left : slice_get ls (temp 5) ≡ Some (Some (I64 (n - i)))
    pub number : slice_get ls (temp 1) ≡ Some (Some (I64 n))
    pub region : slice_get ls (temp 3) ≡ Some (Some (I64 to))
    pub source : i < n → slice_get ls (temp 6) ≡ Some (Some (address_operand w1 (from + i * e1)))
    pub target : i < n → slice_get ls (temp 7) ≡ Some (Some (address_operand w2 (to + i * e2)))

  next_address : (w : Bool) (q s i length x : ℕ) → 0 < s → q + n * s ≤ length → IsLength w length → (q + i * s + s < limit_of (pointer_of_width w) → x ≡ q + i * s + s) → suc i < n → x ≡ q + suc i * s
  next_address w q s i length x some fits is up lt =
      let m : ℕ = n - (suc i + 1) in
      let all : n ≡ suc i + suc m = omega arith in
      let inside : q + i * s + s < length = next_within i m s q length some (subst (λ k. q + k * s ≤ length) all fits) in
      let wide = length_limit w length is in
      let is : x ≡ q + i * s + s = up (omega (arith, inside, wide)) in
      is ∙ omega arith

  within_addresses : (w : Bool) (q s i length : ℕ) → q + n * s ≤ length → IsLength w length → i < n → q + i * s + s ≤ 2 ^ address_bits w
  within_addresses w q s i length fits is lt =
      let m : ℕ = n - suc i in
      let all : n ≡ suc i + m = omega arith in
      let inside : q + i * s + s ≤ length = all_within i m s q length (subst (λ k. q + k * s ≤ length) all fits) in
      let wide = length_addresses w length is in
      omega (arith, inside, wide)

  turned : (i : ℕ) (ls : Locals) → i < n → Turn i ls → Does M p Onward 12 100 [] ls (turn_body w1 w2 e1 e2 temp code) (element (AtAddress (from + i * e1)) (Into (to + i * e2))) (λ vs. []) (λ vs ls'. Turn (suc i) ls')
  turned i ls lt h =
      let types : held_types ls ≡ locals = h.keeps.types ∙ e in
      let one = element_does ls (from + i * e1) (to + i * e2) types (h.source lt) (h.target lt) (within_addresses w1 from e1 i length1 fits1 is1 lt) (within_addresses w2 to e2 i length2 fits2 is2 lt) in
      same_run (alone p (element (AtAddress (from + i * e1)) (Into (to + i * e2)))) (within (omega arith) (in_turn one (λ vs ls1 k.
      let types1 : held_types ls1 ≡ locals = k.types ∙ types in
      bumps w1 (temp 6) (from + i * e1) e1 (k.same (temp 6) (inner_temp 6 (omega arith)) ∙ h.source lt) (ap (λ l. slice_get l (temp 6)) types1 ∙ t.typed 6 (omega arith)) (λ x up ls2 s2.
      let types2 : held_types ls2 ≡ locals = s2.types ∙ types1 in
      bumps w2 (temp 7) (to + i * e2) e2 (s2.others (temp 7) (apart 7 6 refl refl) ∙ (k.same (temp 7) (inner_temp 7 (omega arith)) ∙ h.target lt)) (ap (λ l. slice_get l (temp 7)) types2 ∙ t.typed 7 (omega arith)) (λ y up' ls3 s3.
      let types3 : held_types ls3 ≡ locals = s3.types ∙ types2 in
      let less : n - i ≡ suc (n - suc i) = omega arith in
      let left3 : slice_get ls3 (temp 5) ≡ Some (Some (I64 (suc (n - suc i)))) =
      s3.others (temp 5) (apart 5 7 refl refl) ∙ (s2.others (temp 5) (apart 5 6 refl refl) ∙ (k.same (temp 5) (inner_temp 5 (omega arith)) ∙ (h.left ∙ ap (λ m. Some (Some (I64 m))) less))) in
      counts (temp 5) (n - suc i) (omega arith) left3 (ap (λ l. slice_get l (temp 5)) types3 ∙ t.typed 5 (omega arith)) (λ ls4 s4.
      done refl (record {
        keeps = keeps_then (keeps_then (keeps_then (keeps_then h.keeps (record { same = λ j u. k.same j (inner_used j u); types = k.types })) (set_keeps (t.free 6 (omega arith)) s2)) (set_keeps (t.free 7 (omega arith)) s3)) (set_keeps (t.free 5 (omega arith)) s4);
        left = s4.here;
        number = s4.others (temp 1) (apart 1 5 refl refl) ∙ (s3.others (temp 1) (apart 1 7 refl refl) ∙ (s2.others (temp 1) (apart 1 6 refl refl) ∙ (k.same (temp 1) (inner_temp 1 (omega arith)) ∙ h.number)));
        region = s4.others (temp 3) (apart 3 5 refl refl) ∙ (s3.others (temp 3) (apart 3 7 refl refl) ∙ (s2.others (temp 3) (apart 3 6 refl refl) ∙ (k.same (temp 3) (inner_temp 3 (omega arith)) ∙ h.region)));
        source = λ more. s4.others (temp 6) (apart 6 5 refl refl) ∙ (s3.others (temp 6) (apart 6 7 refl refl) ∙ (s2.here ∙ ap (λ a. Some (Some (address_operand w1 a))) (next_address w1 from e1 i length1 x some1 fits1 is1 up more)));
        target = λ more. s4.others (temp 7) (apart 7 5 refl refl) ∙ (s3.here ∙ ap (λ a. Some (Some (address_operand w2 a))) (next_address w2 to e2 i length2 y some2 fits2 is2 up' more));
      })))))))

  -- all elements, one after another
  pub elements : (ls : Locals) → Turn 0 ls
      → Does M p Onward 5 0 [] ls (counted_code (left_code (temp 5)) (turn_body w1 w2 e1 e2 temp code)) (each n (λ i. element (AtAddress (from + i * e1)) (Into (to + i * e2)))) (λ vs. []) (λ vs ls'. Turn n ls')
  elements ls h =
      counted {tests = 2} {extra = 12} {spare = 100} n (λ i. element (AtAddress (from + i * e1)) (Into (to + i * e2))) Turn (omega arith)
      (λ i k l same inv. pushes_left (temp 5) k (inv.left ∙ ap (λ m. Some (Some (I64 m))) (left_is i k same))) (λ i l lt inv. turned i l lt inv) ls h
    where
      left_is : (i k : ℕ) → i + k ≡ n → n - i ≡ k
      left_is i k same = omega arith
