-- The cases of a sum in one table, by the number of its case: one piece of code for each, and a trap past the last.
use Rattle.std.proofs.Common.{◌≡◌, ℕ, zero, suc, ◌+◌, ◌<◌, ◌≤◌, inl, inr, List, [], ◌∷◌, ◌++◌, Option, Some, None, refl, ap, ◌∙◌, arith, length, length-append, slice_get}
use Rattle.std.specs.List.{AllByRecursion}
use Rattle.std.proofs.lemmas.Bool.{cases_lt}
use Rattle.std.proofs.lemmas.Option.{slice_get_within}
use Rattle.fact_wasm.specs.declared.types.ValType.{ValType}
use Rattle.fact_wasm.specs.declared.types.ValType.TheVariants as val
use Rattle.fact_wasm.specs.declared.instr.Instr.{Instr}
use Rattle.fact_wasm.specs.declared.module.WasmModule.{WasmModule}
use Rattle.fact_types.specs.declared.outside.Trap.TheVariants.{InvalidDiscriminant}
use Rattle.fact_types.specs.Shapes.{Members, no_members, bare, typed}
use Rattle.fact_machine.specs.declared.types.CoreValue.TheVariants.{I32}
use Rattle.fact_machine.specs.Machine.{label_at}
use Rattle.fact_types.specs.declared.import.Import.TheVariants as import
use Rattle.fact_values.specs.Limits.{CaseType, case_type}
use Rattle.fact_values.specs.Places.{count_of_members}
use Rattle.fact_actions.specs.Actions.{Action, trap}
use Rattle.fact_actions.specs.Running.{ImportPlaces}
use Rattle.fact_code_laws.specs.Code.{trap_code, labels_from, sum_code}
use Rattle.fact_code_laws.specs.Does.{Locals, Onward, Does, PushesValue}
use Rattle.fact_code_laws.specs.Knows.{KnowsFunction}
use Rattle.fact_code_laws.specs.Typed.{OnStack, Never, IsTyped}
use Rattle.fact_code_laws.proofs.Rules.{within}
use Rattle.fact_code_laws.proofs.Blocks.{cases}
use Rattle.fact_code_laws.proofs.Primitives.{calls_trap}
use Rattle.fact_code_laws.proofs.TypedShapes.{IsClosedCode, typed_trap, typed_cases}
use Rattle.fact_machine.proofs.Tests.{get_append}

-- ---- numbers of cases

number_at : (i n x : ℕ) → x < n → slice_get (labels_from i n) x ≡ Some (i + x)
number_at i zero x lt = absurd (omega arith)
number_at i (suc n) zero lt = let e : i ≡ i + 0 = omega arith in ap (λ m. Some m) e
number_at i (suc n) (suc x) lt = let e : suc i + x ≡ i + suc x = omega arith in number_at (suc i) n x (omega arith) ∙ ap (λ m. Some m) e

number_past : (i n x : ℕ) → n ≤ x → slice_get (labels_from i n) x ≡ None
number_past i zero x le = refl
number_past i (suc n) zero le = absurd (omega arith)
number_past i (suc n) (suc x) le = number_past (suc i) n x (omega arith)

pub numbers_below : (i n most : ℕ) → i + n ≤ suc most → AllByRecursion (λ l. l ≤ most) (labels_from i n)
numbers_below i zero most le = tt
numbers_below i (suc n) most le = (omega arith, numbers_below (suc i) n most (omega arith))

pub case_within : (ms : Members) (n : ℕ) (c : CaseType) → case_type ms n ≡ Some c → n < count_of_members ms
case_within no_members n c h = cc
case_within (bare x ms) zero c h = omega arith
case_within (bare x ms) (suc n) c h = let lt = case_within ms n c h in omega arith
case_within (typed x s ms) zero c h = omega arith
case_within (typed x s ms) (suc n) c h = let lt = case_within ms n c h in omega arith

pub case_past : (ms : Members) (n : ℕ) → case_type ms n ≡ None → count_of_members ms ≤ n
case_past no_members n h = omega arith
case_past (bare x ms) zero h = cc
case_past (bare x ms) (suc n) h = let le = case_past ms n h in omega arith
case_past (typed x s ms) zero h = cc
case_past (typed x s ms) (suc n) h = let le = case_past ms n h in omega arith

pub last_of : {A : Type 0} (xs : List A) (y : A) (n : ℕ) → length xs ≡ n → slice_get (xs ++ y ∷ []) n ≡ Some y
last_of [] y n e = let z : n ≡ 0 = omega arith in ap (λ m. slice_get (y ∷ []) m) z
last_of (x ∷ xs) y zero e = cc
last_of (x ∷ xs) y (suc n) e = last_of xs y n (omega arith)

-- ---- the code of a sum

-- the last label past all, and the label of a number
label_past : (n x : ℕ) → n ≤ x → label_at (labels_from 0 n) n x ≡ n
label_past n x le = ap (λ o. elim o as (λ (o : Option ℕ). ℕ) [ None ↦ n | Some l ↦ l ]) (number_past 0 n x le)

pub label_there : (n x : ℕ) → x ≤ n → label_at (labels_from 0 n) n x ≡ x
label_there n x le = elim (cases_lt x n) [
  | inl lt ↦ let same : 0 + x ≡ x = omega arith in ap (λ o. elim o as (λ (o : Option ℕ). ℕ) [ None ↦ n | Some l ↦ l ]) (number_at 0 n x lt) ∙ same
  | inr ge ↦ let same : n ≡ x = omega (arith, le, ge) in label_past n x ge ∙ same
]

module _ {A : Type 0} {M : WasmModule} {p : ImportPlaces} {ls : Locals} {Holds : A → Locals → Type 0} {spare steps : ℕ} {number : List Instr} (codes : List (List Instr)) (trap_at x : ℕ) (pushes : PushesValue M steps ls number (I32 x)) where
  -- what the code of a number does, where it is one of those in the table
  pub in_table : {extra : ℕ} {q : Action A} {code : List Instr} → slice_get codes x ≡ Some code → Does M p Onward extra spare [] ls code q (λ a. []) Holds
      → Does M p Onward (extra + steps + length codes + 5) spare [] ls (sum_code number trap_at codes) q (λ a. []) Holds
  in_table {code = code} there d =
      let lt = slice_get_within codes x code there in
      let at = label_there (length codes) x (omega (arith, lt)) in
      within (omega (arith, length-append codes (trap_code trap_at ∷ []))) (cases (labels_from 0 (length codes)) (length codes) x (codes ++ trap_code trap_at ∷ []) pushes (ap (slice_get (codes ++ trap_code trap_at ∷ [])) at ∙ get_append codes (trap_code trap_at ∷ []) x code there) d)

  -- the trap past the last
  pub past_table : (extra : ℕ) → KnowsFunction M p (import.Trap InvalidDiscriminant) trap_at [] [] → length codes ≤ x
      → Does M p Onward (extra + steps + length codes + 5) spare [] ls (sum_code number trap_at codes) (trap InvalidDiscriminant) (λ (a : A). []) Holds
  past_table extra traps le =
      let trapped : Does M p Onward (suc extra) spare [] ls (trap_code trap_at) (trap InvalidDiscriminant) (λ (a : A). []) Holds = calls_trap traps in
      within (omega (arith, length-append codes (trap_code trap_at ∷ []))) (cases (labels_from 0 (length codes)) (length codes) x (codes ++ trap_code trap_at ∷ []) pushes (ap (slice_get (codes ++ trap_code trap_at ∷ [])) (label_past (length codes) x le) ∙ last_of codes (trap_code trap_at) (length codes) refl) trapped)

pub closed_append : {M : WasmModule} {locals : List ValType} (cs : List (List Instr)) (c : List Instr) → AllByRecursion (IsClosedCode M locals) cs → IsClosedCode M locals c → AllByRecursion (IsClosedCode M locals) (cs ++ c ∷ [])
closed_append [] c h l = (l, tt)
closed_append (d ∷ cs) c h l = (h.0, closed_append cs c h.1 l)

-- The code of a sum is typed where that of each case is.
pub typed_sum : {M : WasmModule} {locals : List ValType} {labels : List (List ValType)} {p : ImportPlaces} {number : List Instr} {ins : List ValType} (codes : List (List Instr)) (trap_at : ℕ) → KnowsFunction M p (import.Trap InvalidDiscriminant) trap_at [] []
    → IsTyped M locals [] number [] (OnStack (val.I32 ∷ [])) → AllByRecursion (IsClosedCode M locals) codes → IsTyped M locals labels (sum_code number trap_at codes) ins (OnStack ins)
typed_sum codes trap_at h x each =
    typed_cases (labels_from 0 (length codes)) (length codes) (codes ++ trap_code trap_at ∷ []) (omega (arith, length-append codes (trap_code trap_at ∷ []))) (numbers_below 0 (length codes) (length (codes ++ trap_code trap_at ∷ [])) (omega (arith, length-append codes (trap_code trap_at ∷ [])))) x
    (closed_append codes (trap_code trap_at) each (record { ends = Never; closed = tt; typed = typed_trap h }))
