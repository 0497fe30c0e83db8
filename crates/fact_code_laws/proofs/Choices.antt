-- The choice of a case by its number, in one table or in two levels of tables, does what the code of the case does.
use Rattle.std.proofs.Common.{◌≡◌, ℕ, zero, suc, ◌+◌, ◌*◌, ◌/◌, ◌%◌, ◌<◌, ◌≤◌, ◌⊎◌, inl, inr, List, [], ◌∷◌, ◌++◌, Option, Some, None, refl, sym, ap, ◌∙◌, subst, arith, length, length-append, slice_get, map, append_assoc}
use Rattle.std.specs.List.{AllByRecursion}
use Rattle.std.specs.Prelude.{option_map}
use Rattle.std.proofs.lemmas.Bool.{cases_lt}
use Rattle.std.proofs.lemmas.Grind.{and_numeral}
use Rattle.std.proofs.lemmas.List.{length-map}
use Rattle.std.proofs.lemmas.Option.{slice_get_within, slice_get-map}
use Rattle.fact_wasm.specs.declared.types.ValType.{ValType}
use Rattle.fact_wasm.specs.declared.types.ValType.TheVariants as val
use Rattle.fact_wasm.specs.declared.instr.Instr.{Instr}
use Rattle.fact_wasm.specs.declared.instr.Instr.TheVariants as I
use Rattle.fact_wasm.specs.declared.instr.Instr.TheOpen as o
use Rattle.fact_wasm.specs.declared.module.WasmModule.{WasmModule}
use Rattle.fact_wasm.proofs.Ranged.{all-first, all-second}
use Rattle.fact_types.specs.declared.import.Import.TheVariants as import
use Rattle.fact_types.specs.declared.outside.Trap.TheVariants.{InvalidDiscriminant}
use Rattle.fact_types.specs.Shapes.{Members}
use Rattle.fact_machine.specs.declared.types.CoreValue.TheVariants.{I32}
use Rattle.fact_machine.specs.Exits.{Falls}
use Rattle.fact_machine.proofs.Laws.{leaves_then, leaves_next, leaves_as}
use Rattle.fact_machine.proofs.NumericLaws.{leaves_i32_and, leaves_i32_shr_u}
use Rattle.fact_machine.proofs.RowLaws.{leaves_i32_const}
use Rattle.fact_machine.proofs.Tests.{get_append}
use Rattle.fact_values.specs.Limits.{CaseType, case_type}
use Rattle.fact_values.specs.Places.{count_of_members}
use Rattle.fact_actions.specs.Actions.{Action, trap}
use Rattle.fact_actions.specs.Running.{ImportPlaces}
use Rattle.fact_code_laws.specs.Choices.{all_of_chunks, AreChunks, chunk_number, place_in_chunk, full_chunk_code, chunk_codes, IsChoice, InOneTable, InChunks}
use Rattle.fact_code_laws.specs.Code.{labels_from, sum_code}
use Rattle.fact_code_laws.specs.Does.{Locals, Onward, Does, PushesValue}
use Rattle.fact_code_laws.specs.Knows.{KnowsFunction}
use Rattle.fact_code_laws.specs.Typed.{OnStack, IsTyped}
use Rattle.fact_code_laws.proofs.Rules.{within}
use Rattle.fact_code_laws.proofs.Blocks.{cases}
use Rattle.fact_code_laws.proofs.Sums.{case_past, in_table, label_there, last_of, numbers_below, past_table, typed_sum}
use Rattle.fact_code_laws.proofs.TypedRows.{takes_plain}
use Rattle.fact_code_laws.proofs.TypedShapes.{IsClosedCode, typed_cases}
use Rattle.fact_code_laws.proofs.TypingLaws.{typed_then, typed_next, typed_one}

-- ---- places in chunks

get_front : {X : Type 0} (xs ys : List X) (i : ℕ) → i < length xs → slice_get (xs ++ ys) i ≡ slice_get xs i
get_front [] ys i lt = absurd (omega arith)
get_front (x ∷ xs) ys zero lt = refl
get_front (x ∷ xs) ys (suc i) lt = get_front xs ys i (omega arith)

get_behind : {X : Type 0} (xs ys : List X) (i : ℕ) → slice_get (xs ++ ys) (length xs + i) ≡ slice_get ys i
get_behind [] ys i = let same : 0 + i ≡ i = omega arith in ap (slice_get ys) same
get_behind (x ∷ xs) ys i = let same : suc (length xs) + i ≡ suc (length xs + i) = omega arith in ap (slice_get (x ∷ (xs ++ ys))) same ∙ get_behind xs ys i

-- What has a number among all stands at a place of its chunk, or of those behind the chunks.
abbrev StandsInChunk : {X : Type 0} → List (List X) → List X → (chunk place : ℕ) → X → Type 0
StandsInChunk {X} chunks rest h l x =
    ((c : List X) × (slice_get chunks h ≡ Some c) × (length c ≡ 64) × (slice_get c l ≡ Some x)) ⊎ ((h ≡ length chunks) × (slice_get rest l ≡ Some x))

stands_in_chunk : {X : Type 0} (chunks : List (List X)) (rest : List X) (h l : ℕ) (x : X) → AllByRecursion (λ c. length c ≡ 64) chunks → length rest ≤ 64 → l < 64 → slice_get (all_of_chunks chunks ++ rest) (64 * h + l) ≡ Some x → StandsInChunk chunks rest h l x
stands_in_chunk [] rest zero l x full few lt e = let same : 64 * 0 + l ≡ l = omega arith in inr (refl, ap (slice_get rest) (sym same) ∙ e)
stands_in_chunk [] rest (suc h) l x full few lt e = absurd (omega (arith, few, slice_get_within rest (64 * suc h + l) x e))
stands_in_chunk (c ∷ cs) rest zero l x full few lt e =
    let same : 64 * 0 + l ≡ l = omega arith in
    let there = ap (slice_get (c ++ (all_of_chunks cs ++ rest))) (sym same) ∙ ap (λ xs. slice_get xs (64 * 0 + l)) (sym (append_assoc c (all_of_chunks cs) rest)) ∙ e in
    inl (c, refl, full.0, sym (get_front c (all_of_chunks cs ++ rest) l (omega (arith, full.0, lt))) ∙ there)
stands_in_chunk (c ∷ cs) rest (suc h) l x full few lt e =
    let same : 64 * suc h + l ≡ length c + (64 * h + l) = omega (arith, full.0) in
    let there = sym (get_behind c (all_of_chunks cs ++ rest) (64 * h + l)) ∙ ap (slice_get (c ++ (all_of_chunks cs ++ rest))) (sym same) ∙ ap (λ xs. slice_get xs (64 * suc h + l)) (sym (append_assoc c (all_of_chunks cs) rest)) ∙ e in
    elim (stands_in_chunk cs rest h l x full.1 few lt there) [
      | inl in_one ↦ inl in_one
      | inr behind ↦ inr (ap suc behind.0, behind.1)
    ]

pub length_of_chunks : {X : Type 0} (chunks : List (List X)) (rest : List X) → AllByRecursion (λ c. length c ≡ 64) chunks → length (all_of_chunks chunks ++ rest) ≡ 64 * length chunks + length rest
length_of_chunks [] rest full = omega arith
length_of_chunks (c ∷ cs) rest full =
    omega (arith, full.0, ap length (append_assoc c (all_of_chunks cs) rest), length-append c (all_of_chunks cs ++ rest), length_of_chunks cs rest full.1)

-- ---- the number of a chunk, and the place there

module _ {M : WasmModule} {ls : Locals} {steps x : ℕ} {number : List Instr} (pushes : PushesValue M steps ls number (I32 x)) where
  pushes_chunk : PushesValue M (steps + 2) ls (chunk_number number) (I32 (x / 64))
  pushes_chunk = record { by = λ w vs. leaves_then (pushes.by w vs) (leaves_next leaves_i32_const leaves_i32_shr_u) }

  pushes_place : PushesValue M (steps + 2) ls (place_in_chunk number) (I32 (x % 64))
  pushes_place = record { by = λ w vs. leaves_then (pushes.by w vs) (leaves_next leaves_i32_const (leaves_as (ap (λ n. Falls w (I32 n ∷ vs) ls) (and_numeral x 62 refl)) leaves_i32_and)) }

-- ---- the codes of chunks

module _ (number : List Instr) (trap_at : ℕ) (chunks : List (List (List Instr))) (rest : List (List Instr)) where
  chunk_there : (h : ℕ) (chunk : List (List Instr)) → slice_get chunks h ≡ Some chunk → slice_get (chunk_codes number trap_at chunks rest) h ≡ Some (full_chunk_code number chunk)
  chunk_there h chunk there =
      get_append (map (full_chunk_code number) chunks) (sum_code (place_in_chunk number) trap_at rest ∷ []) h (full_chunk_code number chunk) (slice_get-map (full_chunk_code number) chunks h ∙ ap (option_map (full_chunk_code number)) there)

  rest_there : (h : ℕ) → h ≡ length chunks → slice_get (chunk_codes number trap_at chunks rest) h ≡ Some (sum_code (place_in_chunk number) trap_at rest)
  rest_there h is = last_of (map (full_chunk_code number) chunks) (sum_code (place_in_chunk number) trap_at rest) h (length-map chunks (full_chunk_code number) ∙ sym is)

  count_chunks : length (chunk_codes number trap_at chunks rest) ≡ length chunks + 1
  count_chunks = omega (arith, length-append (map (full_chunk_code number) chunks) (sum_code (place_in_chunk number) trap_at rest ∷ []), length-map chunks (full_chunk_code number))

-- ---- what a choice does

module _ {A : Type 0} {M : WasmModule} {p : ImportPlaces} {ls : Locals} {Holds : A → Locals → Type 0} {spare steps : ℕ} {number : List Instr} (extra trap_at x : ℕ) (pushes : PushesValue M steps ls number (I32 x)) where
  -- in a chunk of 64
  in_full_chunk : {q : Action A} {code : List Instr} (chunk : List (List Instr)) → length chunk ≡ 64 → slice_get chunk (x % 64) ≡ Some code → Does M p Onward extra spare [] ls code q (λ a. []) Holds
      → Does M p Onward (extra + steps + 71) spare [] ls (full_chunk_code number chunk) q (λ a. []) Holds
  in_full_chunk chunk full there d =
      within (omega (arith, full)) (cases (labels_from 0 63) 63 (x % 64) chunk (pushes_place pushes) (ap (slice_get chunk) (label_there 63 (x % 64) (omega arith)) ∙ there) d)

  -- the code of a number in its chunk
  in_chunks : {q : Action A} {code : List Instr} (chunks : List (List (List Instr))) (rest : List (List Instr)) → length rest ≤ 64 → StandsInChunk chunks rest (x / 64) (x % 64) code → Does M p Onward extra spare [] ls code q (λ a. []) Holds
      → Does M p Onward (extra + 2 * steps + length chunks + 80) spare [] ls (sum_code (chunk_number number) trap_at (chunk_codes number trap_at chunks rest)) q (λ a. []) Holds
  in_chunks chunks rest few (inl s) d =
      within (omega (arith, count_chunks number trap_at chunks rest)) (in_table (chunk_codes number trap_at chunks rest) trap_at (x / 64) (pushes_chunk pushes) (chunk_there number trap_at chunks rest (x / 64) s.0 s.1) (in_full_chunk s.0 s.2 s.3 d))
  in_chunks chunks rest few (inr s) d =
      within (omega (arith, count_chunks number trap_at chunks rest, few)) (in_table (chunk_codes number trap_at chunks rest) trap_at (x / 64) (pushes_chunk pushes) (rest_there number trap_at chunks rest (x / 64) s.0) (in_table rest trap_at (x % 64) (pushes_place pushes) s.1 d))

  -- the trap past the last
  past_chunks : (chunks : List (List (List Instr))) (rest : List (List Instr)) → length rest ≤ 64 → KnowsFunction M p (import.Trap InvalidDiscriminant) trap_at [] [] → 64 * length chunks + length rest ≤ x
      → Does M p Onward (extra + 2 * steps + length chunks + 80) spare [] ls (sum_code (chunk_number number) trap_at (chunk_codes number trap_at chunks rest)) (trap InvalidDiscriminant) (λ (a : A). []) Holds
  past_chunks chunks rest few traps le = elim (cases_lt (length chunks) (x / 64)) [
    | inl past ↦ within {spare = spare} (omega (arith, count_chunks number trap_at chunks rest)) (past_table (chunk_codes number trap_at chunks rest) trap_at (x / 64) (pushes_chunk pushes) extra traps (omega (arith, count_chunks number trap_at chunks rest, past)))
    | inr at_most ↦
        let at : x / 64 ≡ length chunks = omega (arith, le, at_most, few) in
        within {spare = spare} (omega (arith, count_chunks number trap_at chunks rest, few)) (in_table (chunk_codes number trap_at chunks rest) trap_at (x / 64) (pushes_chunk pushes) (rest_there number trap_at chunks rest (x / 64) at) (past_table rest trap_at (x % 64) (pushes_place pushes) extra traps (omega (arith, le, at))))
  ]

module _ {A : Type 0} {M : WasmModule} {p : ImportPlaces} {ls : Locals} {Holds : A → Locals → Type 0} {extra spare steps : ℕ} {number : List Instr} (ms : Members) (codes : List (List Instr)) (trap_at x : ℕ) (k : CaseType → Action A) (all : length codes ≡ count_of_members ms)
    (traps : KnowsFunction M p (import.Trap InvalidDiscriminant) trap_at [] []) (pushes : PushesValue M steps ls number (I32 x))
    (each : (n : ℕ) (c : CaseType) → case_type ms n ≡ Some c → (code : List Instr) × (slice_get codes n ≡ Some code) × Does M p Onward extra spare [] ls code (k c) (λ a. []) Holds) where
  abbrev by_case : Option CaseType → Action A
  by_case o = elim o as (λ (o : Option CaseType). Action A) [ None ↦ trap InvalidDiscriminant | Some c ↦ k c ]

  in_one_table : (o : Option CaseType) → case_type ms x ≡ o → Does M p Onward (extra + steps + length codes + 5) spare [] ls (sum_code number trap_at codes) (by_case o) (λ a. []) Holds
  in_one_table (Some c) e = let one = each x c e in in_table codes trap_at x pushes one.1 one.2
  in_one_table None e = past_table codes trap_at x pushes extra traps (subst (λ n. n ≤ x) (sym all) (case_past ms x e))

  in_two_levels : (chunks : List (List (List Instr))) (rest : List (List Instr)) → AreChunks codes chunks rest → (o : Option CaseType) → case_type ms x ≡ o
      → Does M p Onward (extra + 2 * steps + length chunks + 80) spare [] ls (sum_code (chunk_number number) trap_at (chunk_codes number trap_at chunks rest)) (by_case o) (λ a. []) Holds
  in_two_levels chunks rest are (Some c) e =
      let one = each x c e in
      let same : x ≡ 64 * (x / 64) + x % 64 = omega arith in
      in_chunks extra trap_at x pushes chunks rest are.few (stands_in_chunk chunks rest (x / 64) (x % 64) one.0 are.full are.few (omega arith) (ap (slice_get (all_of_chunks chunks ++ rest)) (sym same) ∙ ap (λ cs. slice_get cs x) (sym are.all) ∙ one.1)) one.2
  in_two_levels chunks rest are None e =
      past_chunks extra trap_at x pushes chunks rest are.few traps (omega (arith, length_of_chunks chunks rest are.full, ap length are.all, all, case_past ms x e))

  -- What is done with the case of a number, or a trap where there is none: two levels of tables do what one table does.
  pub choice_does : {code : List Instr} → IsChoice number trap_at codes code → Does M p Onward (extra + 2 * steps + length codes + 20) spare [] ls code (by_case (case_type ms x)) (λ a. []) Holds
  choice_does (InOneTable few is) =
      subst (λ c. Does M p Onward (extra + 2 * steps + length codes + 20) spare [] ls c (by_case (case_type ms x)) (λ a. []) Holds) (sym is) (within (omega arith) (in_one_table (case_type ms x) refl))
  choice_does (InChunks chunks rest many are is) =
      subst (λ c. Does M p Onward (extra + 2 * steps + length codes + 20) spare [] ls c (by_case (case_type ms x)) (λ a. []) Holds) (sym is)
      (within (omega (arith, many, length_of_chunks chunks rest are.full, ap length are.all, are.few)) (in_two_levels chunks rest are (case_type ms x) refl))

-- ---- types

module _ {M : WasmModule} {locals : List ValType} {p : ImportPlaces} {number : List Instr} (trap_at : ℕ) (h : KnowsFunction M p (import.Trap InvalidDiscriminant) trap_at [] []) (pushes : IsTyped M locals [] number [] (OnStack (val.I32 ∷ []))) where
  chunk_typed : IsTyped M locals [] (chunk_number number) [] (OnStack (val.I32 ∷ []))
  chunk_typed = typed_then pushes (typed_next (takes_plain (o.I32Const 6) (I.outs-I32Const 6) refl) (typed_one (takes_plain o.I32ShrU I.outs-I32ShrU refl)))

  place_typed : IsTyped M locals [] (place_in_chunk number) [] (OnStack (val.I32 ∷ []))
  place_typed = typed_then pushes (typed_next (takes_plain (o.I32Const 63) (I.outs-I32Const 63) refl) (typed_one (takes_plain o.I32And I.outs-I32And refl)))

  full_chunk_closed : (chunk : List (List Instr)) → length chunk ≡ 64 → AllByRecursion (IsClosedCode M locals) chunk → IsClosedCode M locals (full_chunk_code number chunk)
  full_chunk_closed chunk full each = record { ends = OnStack []; closed = tt; typed = typed_cases (labels_from 0 63) 63 chunk (omega (arith, full)) (numbers_below 0 63 (length chunk) (omega (arith, full))) place_typed each }

  chunks_closed : (chunks : List (List (List Instr))) (rest : List (List Instr)) → AllByRecursion (λ c. length c ≡ 64) chunks → AllByRecursion (IsClosedCode M locals) (all_of_chunks chunks ++ rest) → AllByRecursion (IsClosedCode M locals) (chunk_codes number trap_at chunks rest)
  chunks_closed [] rest full each = (record { ends = OnStack []; closed = tt; typed = typed_sum rest trap_at h place_typed each }, tt)
  chunks_closed (c ∷ cs) rest full each =
      let split = subst (AllByRecursion (IsClosedCode M locals)) (append_assoc c (all_of_chunks cs) rest) each in
      (full_chunk_closed c full.0 (all-first (IsClosedCode M locals) c (all_of_chunks cs ++ rest) split), chunks_closed cs rest full.1 (all-second (IsClosedCode M locals) c (all_of_chunks cs ++ rest) split))

  -- A choice is typed where the code of each case is.
  pub typed_choice : {labels : List (List ValType)} {ins : List ValType} {codes : List (List Instr)} {code : List Instr} → AllByRecursion (IsClosedCode M locals) codes → IsChoice number trap_at codes code → IsTyped M locals labels code ins (OnStack ins)
  typed_choice {labels} {ins} {codes} each (InOneTable few is) = subst (λ c. IsTyped M locals labels c ins (OnStack ins)) (sym is) (typed_sum codes trap_at h pushes each)
  typed_choice {labels} {ins} each (InChunks chunks rest many are is) =
      subst (λ c. IsTyped M locals labels c ins (OnStack ins)) (sym is)
      (typed_sum (chunk_codes number trap_at chunks rest) trap_at h chunk_typed (chunks_closed chunks rest are.full (subst (AllByRecursion (IsClosedCode M locals)) are.all each)))
