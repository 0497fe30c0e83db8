-- Bodies that were written aside, and the choice of one of them.
use Rattle.std.proofs.Common.{◌≡◌, ℕ, zero, suc, ◌+◌, List, [], ◌∷◌, ◌++◌, length, refl, sym, ap, ◌∙◌, subst, arith, append_assoc, append-nil}
use Rattle.std.specs.List.{AllByRecursion, filter_map}
use Rattle.std.proofs.lemmas.Grind.{flat_map-append}
use Rattle.std.proofs.lemmas.List.{map-append}
use Rattle.fact_wasm.specs.declared.types.ValType.{ValType}
use Rattle.fact_wasm.specs.declared.instr.BlockType.TheVariants.{Empty}
use Rattle.fact_wasm.specs.declared.instr.Instr.{Instr, the_lemmas}
use Rattle.fact_wasm.specs.declared.instr.Instr.TheVariants as I
use Rattle.fact_wasm.specs.declared.module.WasmModule.{WasmModule}
use Rattle.fact_wasm.specs.Ranges.{AreRanged, IsPoint, points}
use Rattle.fact_wasm.proofs.Ranged.{all-first, all-second}
use Rattle.fact_machine.specs.Exits.{nest}
use Rattle.fact_actions.specs.Running.{ImportPlaces}
use Rattle.fact_code_laws.specs.Choices.{all_of_chunks, chunk_codes, chunk_number, full_chunk_code, place_in_chunk, IsChoice, InOneTable, InChunks}
use Rattle.fact_code_laws.specs.Code.{arms, cases_code, labels_from, trap_code, sum_code}
use Rattle.fact_emit.specs.declared.writer.Writer.{Writer}
use Rattle.fact_emit.specs.Asked.{AskedHelper, HasHelpers}
use Rattle.fact_emit.specs.Choices.{ChoosesCase, WroteChoice, code_of_bodies}
use Rattle.fact_emit.specs.Brought.{Brought}
use Rattle.fact_emit.specs.Emits.{GrewAside, GrewAsideAsking, GrewAsking, EmitsAsking, Later}
use Rattle.fact_emit.specs.Imports.{AreOnce}
use Rattle.fact_emit.specs.NamedFunctions.{defined_named, defined_place, functions_named, imported_named}
use Rattle.fact_emit.specs.Pieces.{Piece}
use Rattle.fact_emit.specs.States.{ModuleSoFar}
use Rattle.fact_emit.specs.Writers.{Began, EndedBody}
use Rattle.fact_emit.proofs.BroughtLaws.{brought_as, brought_before, brought_between, brought_on, brought_runtime}
use Rattle.fact_emit.proofs.Emitting.{same_locals, same_still, same_types, serves_imported, sooner, still_numbers}
use Rattle.fact_emit.proofs.ImportLaws.{extended_none, extended_on, grows_none, grows_on}
use Rattle.fact_emit.proofs.NamedLaws.{defined_append, defined_none, named_append, named_block, names_none, ranged_append, ranged_block, ranged_in, ranged_none}

-- ---- labels

labels_more_from : (i n : ℕ) → labels_from i (suc n) ≡ labels_from i n ++ (i + n) ∷ []
labels_more_from i zero = let same : i ≡ i + 0 = omega arith in ap (λ m. m ∷ []) same
labels_more_from i (suc n) =
    let same : suc i + n ≡ i + suc n = omega arith in
    ap (λ ls. i ∷ ls) (labels_more_from (suc i) n) ∙ ap (λ m. i ∷ (labels_from (suc i) n ++ m ∷ [])) same

-- one label more
pub labels_more : (n : ℕ) → labels_from 0 n ++ n ∷ [] ≡ labels_from 0 (n + 1)
labels_more n =
    let one : suc n ≡ n + 1 = omega arith in
    let same : 0 + n ≡ n = omega arith in
    ap (λ m. labels_from 0 n ++ m ∷ []) (sym same) ∙ sym (labels_more_from 0 n) ∙ ap (labels_from 0) one

-- ---- what nested bodies name, and that they are in range

branch_none : (label : ℕ) → AreRanged 0 0 (I.Br label ∷ [])
branch_none label = ranged_none 0 0 (I.Br label ∷ []) (simp the_lemmas)

-- a body behind the block of what is within it
arm_named : (inner body : List Instr) (label : ℕ) → functions_named (I.Block Empty inner ∷ (body ++ I.Br label ∷ [])) ≡ functions_named inner ++ functions_named body
arm_named inner body label =
    named_append (I.Block Empty inner ∷ []) (body ++ I.Br label ∷ []) ∙ ap (λ ns. ns ++ functions_named (body ++ I.Br label ∷ [])) (named_block Empty inner)
    ∙ ap (λ ns. functions_named inner ++ ns) (named_append body (I.Br label ∷ []) ∙ ap (λ ns. functions_named body ++ ns) (names_none (I.Br label ∷ []) (branch_none label)) ∙ append-nil (functions_named body))

nested_named : (bodies : List (List Instr)) (inner : List Instr) → functions_named (nest (arms bodies) inner) ≡ functions_named inner ++ functions_named (code_of_bodies bodies)
nested_named [] inner = sym (append-nil (functions_named inner))
nested_named (b ∷ bs) inner =
    nested_named bs (I.Block Empty inner ∷ (b ++ I.Br (length bs) ∷ [])) ∙ ap (λ ns. ns ++ functions_named (code_of_bodies bs)) (arm_named inner b (length bs))
    ∙ append_assoc (functions_named inner) (functions_named b) (functions_named (code_of_bodies bs)) ∙ ap (λ ns. functions_named inner ++ ns) (sym (named_append b (code_of_bodies bs)))

nested_ranged : (n k : ℕ) (bodies : List (List Instr)) (inner : List Instr) → AreRanged n k inner → AreRanged n k (code_of_bodies bodies) → AreRanged n k (nest (arms bodies) inner)
nested_ranged n k [] inner h g = h
nested_ranged n k (b ∷ bs) inner h g =
    let body = all-first (λ i. AllByRecursion (IsPoint n k) (points i)) b (code_of_bodies bs) g in
    let rest = all-second (λ i. AllByRecursion (IsPoint n k) (points i)) b (code_of_bodies bs) g in
    nested_ranged n k bs (I.Block Empty inner ∷ (b ++ I.Br (length bs) ∷ []))
    (ranged_append n k (I.Block Empty inner ∷ []) (b ++ I.Br (length bs) ∷ []) (ranged_block n k Empty inner h) (ranged_append n k b (I.Br (length bs) ∷ []) body (ranged_in 0 n 0 k (omega arith) (omega arith) (I.Br (length bs) ∷ []) (branch_none (length bs)))))
    rest

-- the bodies, and the one of the trap
pub bodies_behind : (bodies : List (List Instr)) (last : List Instr) → code_of_bodies (bodies ++ last ∷ []) ≡ code_of_bodies bodies ++ last
bodies_behind [] last = append-nil last
bodies_behind (b ∷ bs) last = ap (λ l. b ++ l) (bodies_behind bs last) ∙ sym (append_assoc b (code_of_bodies bs) last)

-- A table names what its bodies name, where the code of its number names nothing.
module _ (number : List Instr) (none : AreRanged 0 0 number) where
  jump_none : (count : ℕ) → AreRanged 0 0 (number ++ I.BrTable (labels_from 0 count) count ∷ [])
  jump_none count = ranged_append 0 0 number (I.BrTable (labels_from 0 count) count ∷ []) none (ranged_none 0 0 (I.BrTable (labels_from 0 count) count ∷ []) (simp the_lemmas))

  pub table_named : (count : ℕ) (bodies : List (List Instr)) → functions_named (cases_code number (labels_from 0 count) count bodies) ≡ functions_named (code_of_bodies bodies)
  table_named count bodies =
      let jump : List Instr = number ++ I.BrTable (labels_from 0 count) count ∷ [] in
      named_block Empty (nest (arms bodies) jump) ∙ nested_named bodies jump ∙ ap (λ ns. ns ++ functions_named (code_of_bodies bodies)) (names_none jump (jump_none count))

  pub table_ranged : (n k count : ℕ) (bodies : List (List Instr)) → AreRanged n k (code_of_bodies bodies) → AreRanged n k (cases_code number (labels_from 0 count) count bodies)
  table_ranged n k count bodies h =
      let jump : List Instr = number ++ I.BrTable (labels_from 0 count) count ∷ [] in
      ranged_block n k Empty (nest (arms bodies) jump) (nested_ranged n k bodies jump (ranged_in 0 n 0 k (omega arith) (omega arith) jump (jump_none count)) h)

  sum_named : (place : ℕ) (bodies : List (List Instr)) → functions_named (sum_code number place bodies) ≡ functions_named (code_of_bodies bodies ++ trap_code place)
  sum_named place bodies = table_named (length bodies) (bodies ++ trap_code place ∷ []) ∙ ap functions_named (bodies_behind bodies (trap_code place))

  sum_ranged : (n k place : ℕ) (bodies : List (List Instr)) → AreRanged n k (code_of_bodies bodies ++ trap_code place) → AreRanged n k (sum_code number place bodies)
  sum_ranged n k place bodies h = table_ranged n k (length bodies) (bodies ++ trap_code place ∷ []) (subst (AreRanged n k) (sym (bodies_behind bodies (trap_code place))) h)

-- ---- chunks of bodies

code_behind : (xs ys : List (List Instr)) (last : List Instr) → code_of_bodies (xs ++ ys) ++ last ≡ code_of_bodies xs ++ (code_of_bodies ys ++ last)
code_behind xs ys last = ap (λ code. code ++ last) (flat_map-append (λ body. body) xs ys) ∙ append_assoc (code_of_bodies xs) (code_of_bodies ys) last

module _ (number : List Instr) (none : AreRanged 0 0 (place_in_chunk number)) (place : ℕ) (rest : List (List Instr)) where
  -- the codes of chunks name what the bodies name, and then the trap
  chunks_named : (chunks : List (List (List Instr))) → functions_named (code_of_bodies (chunk_codes number place chunks rest)) ≡ functions_named (code_of_bodies (all_of_chunks chunks ++ rest) ++ trap_code place)
  chunks_named [] = ap functions_named (append-nil (sum_code (place_in_chunk number) place rest)) ∙ sum_named (place_in_chunk number) none place rest
  chunks_named (c ∷ cs) =
      let more : List (List Instr) = all_of_chunks cs ++ rest in
      named_append (full_chunk_code number c) (code_of_bodies (chunk_codes number place cs rest))
      ∙ (λ i. table_named (place_in_chunk number) none 63 c i ++ chunks_named cs i)
      ∙ sym (named_append (code_of_bodies c) (code_of_bodies more ++ trap_code place))
      ∙ ap functions_named (sym (code_behind c more (trap_code place)) ∙ ap (λ bs. code_of_bodies bs ++ trap_code place) (sym (append_assoc c (all_of_chunks cs) rest)))

  chunks_ranged : (n k : ℕ) (chunks : List (List (List Instr))) → AreRanged n k (code_of_bodies (all_of_chunks chunks ++ rest) ++ trap_code place) → AreRanged n k (code_of_bodies (chunk_codes number place chunks rest))
  chunks_ranged n k [] h = subst (AreRanged n k) (sym (append-nil (sum_code (place_in_chunk number) place rest))) (sum_ranged (place_in_chunk number) none n k place rest h)
  chunks_ranged n k (c ∷ cs) h =
      let more : List Instr = code_of_bodies (all_of_chunks cs ++ rest) ++ trap_code place in
      let all = subst (AreRanged n k) (ap (λ bs. code_of_bodies bs ++ trap_code place) (append_assoc c (all_of_chunks cs) rest) ∙ code_behind c (all_of_chunks cs ++ rest) (trap_code place)) h in
      ranged_append n k (full_chunk_code number c) (code_of_bodies (chunk_codes number place cs rest))
      (table_ranged (place_in_chunk number) none n k 63 c (all-first (λ i. AllByRecursion (IsPoint n k) (points i)) (code_of_bodies c) more all))
      (chunks_ranged n k cs (all-second (λ i. AllByRecursion (IsPoint n k) (points i)) (code_of_bodies c) more all))

-- ---- the code of a choice

module _ (local place : ℕ) where
  whole_none : AreRanged 0 0 (I.LocalGet local ∷ [])
  whole_none = ranged_none 0 0 (I.LocalGet local ∷ []) (simp the_lemmas)

  chunk_none : AreRanged 0 0 (chunk_number (I.LocalGet local ∷ []))
  chunk_none = ranged_none 0 0 (chunk_number (I.LocalGet local ∷ [])) (simp the_lemmas)

  place_none : AreRanged 0 0 (place_in_chunk (I.LocalGet local ∷ []))
  place_none = ranged_none 0 0 (place_in_chunk (I.LocalGet local ∷ [])) (simp the_lemmas)

  -- two levels name what the bodies name, and then the trap twice
  levels_named : (chunks : List (List (List Instr))) (rest : List (List Instr))
      → functions_named (sum_code (chunk_number (I.LocalGet local ∷ [])) place (chunk_codes (I.LocalGet local ∷ []) place chunks rest)) ≡ functions_named ((code_of_bodies (all_of_chunks chunks ++ rest) ++ trap_code place) ++ trap_code place)
  levels_named chunks rest =
      let codes : List (List Instr) = chunk_codes (I.LocalGet local ∷ []) place chunks rest in
      sum_named (chunk_number (I.LocalGet local ∷ [])) chunk_none place codes ∙ named_append (code_of_bodies codes) (trap_code place)
      ∙ ap (λ ns. ns ++ functions_named (trap_code place)) (chunks_named (I.LocalGet local ∷ []) place_none place rest chunks)
      ∙ sym (named_append (code_of_bodies (all_of_chunks chunks ++ rest) ++ trap_code place) (trap_code place))

  levels_ranged : (n k : ℕ) (chunks : List (List (List Instr))) (rest : List (List Instr)) → AreRanged n k ((code_of_bodies (all_of_chunks chunks ++ rest) ++ trap_code place) ++ trap_code place)
      → AreRanged n k (sum_code (chunk_number (I.LocalGet local ∷ [])) place (chunk_codes (I.LocalGet local ∷ []) place chunks rest))
  levels_ranged n k chunks rest h =
      let codes : List (List Instr) = chunk_codes (I.LocalGet local ∷ []) place chunks rest in
      let once : List Instr = code_of_bodies (all_of_chunks chunks ++ rest) ++ trap_code place in
      sum_ranged (chunk_number (I.LocalGet local ∷ [])) chunk_none n k place codes
      (ranged_append n k (code_of_bodies codes) (trap_code place)
      (chunks_ranged (I.LocalGet local ∷ []) place_none place rest n k chunks (all-first (λ i. AllByRecursion (IsPoint n k) (points i)) once (trap_code place) h))
      (all-second (λ i. AllByRecursion (IsPoint n k) (points i)) once (trap_code place) h))

  -- A choice brings what its bodies bring, and then its trap.
  choice_brought : {a b : ModuleSoFar} {bodies : List (List Instr)} {code : List Instr} → Brought a b (code_of_bodies bodies ++ trap_code place) → Brought b b (trap_code place) → IsChoice (I.LocalGet local ∷ []) place bodies code → Brought a b code
  choice_brought {a} {b} {bodies} x again (InOneTable few is) =
      subst (Brought a b) (sym is) (brought_as (sum_named (I.LocalGet local ∷ []) whole_none place bodies) (λ n k. sum_ranged (I.LocalGet local ∷ []) whole_none n k place bodies) x)
  choice_brought {a} {b} x again (InChunks chunks rest many are is) =
      subst (Brought a b) (sym is) (brought_as (levels_named chunks rest) (λ n k. levels_ranged n k chunks rest)
      (brought_on (subst (λ bs. Brought a b (code_of_bodies bs ++ trap_code place)) are.all x) again))

-- ---- bodies aside, one after another

pub aside_nothing : (a : Writer) → GrewAside a a []
aside_nothing a = record {
  code = refl;
  calls = refl;
  brought = brought_before refl tt;
  imports = extended_none refl;
  once = λ o. o;
  locals = grows_none refl;
  numbers = λ n. n;
  still = λ i. refl;
}

pub aside_on : {first second : List AskedHelper} {a b c : Writer} {xs ys : List Instr} → GrewAsideAsking first a b xs → GrewAsideAsking second b c ys → GrewAsideAsking (first ++ second) a c (xs ++ ys)
aside_on {first} {second} {xs = xs} {ys} x y = record {
  code = y.code ∙ x.code;
  calls = defined_append xs ys ∙ (λ i. x.calls i ++ y.calls i) ∙ sym (map-append (λ (h : AskedHelper). h.number) first second);
  brought = brought_on x.brought y.brought;
  imports = extended_on x.imports y.imports;
  once = λ o. y.once (x.once o);
  locals = grows_on x.locals y.locals;
  numbers = λ n. y.numbers (x.numbers n);
  still = λ i. y.still i ∙ x.still i;
}

-- A body was written aside: the code was set aside, the body was written, and the code from before is back.
module _ {a b c d : Writer} {outer body : List Instr} (began : Began a b outer) (ended : EndedBody c d outer body) where
  pub body_aside : {asks : List AskedHelper} (x : GrewAsking asks b c) → body ≡ x.added
  body_aside x = ended.body ∙ x.code ∙ ap (λ l. l ++ x.added) began.code

  pub aside_grew : {asks : List AskedHelper} → GrewAsking asks b c → GrewAsideAsking asks a d body
  aside_grew x = record {
    code = ended.code ∙ began.outer;
    calls = ap defined_named (body_aside x) ∙ x.calls;
    brought = subst (Brought a.sections d.sections) (sym (body_aside x)) (brought_between began.imports (sym ended.imports) x.brought);
    imports = extended_on (extended_none began.imports) (extended_on x.imports (extended_none ended.imports));
    once = λ o. subst AreOnce (sym ended.imports) (x.once (subst AreOnce (sym began.imports) o));
    locals = grows_on (same_locals a b began.locals) (grows_on x.locals (same_locals c d ended.locals));
    numbers = λ n. still_numbers c d (same_types c d ended.locals) (x.numbers (still_numbers a b (same_types a b began.locals) n));
    still = λ i. same_still c d ended.locals i ∙ x.still i ∙ same_still a b began.locals i;
  }

  -- what is said of it, in later modules and functions
  pub aside_does : {asks : List AskedHelper} {P : Piece} (x : EmitsAsking asks b c P) (M : WasmModule) (p : ImportPlaces) (locals : List ValType) → Later d M p locals → HasHelpers M p asks → P M p locals body
  aside_does {P = P} x M p locals l h = subst (P M p locals) (sym (body_aside x.grew)) (x.does M p locals (sooner {a = c} (extended_none ended.imports) (same_locals c d ended.locals) l) h)

-- ---- the choice

trap_names : (place : ℕ) → imported_named (trap_code place) ≡ place ∷ []
trap_names place = simp the_lemmas

trap_in_range : (place : ℕ) → AreRanged (suc place) 0 (trap_code place)
trap_in_range place = (simp the_lemmas (omega arith, tt), (simp the_lemmas tt, tt))

trap_defined : (place : ℕ) → defined_named (trap_code place) ≡ []
trap_defined place = defined_none (suc place) (trap_code place) (trap_in_range place)

-- The trap is none of the functions that the module defines.
without_trap : (code : List Instr) (place : ℕ) → defined_named (code ++ trap_code place) ≡ defined_named code
without_trap code place = defined_append code (trap_code place) ∙ ap (λ ns. defined_named code ++ ns) (trap_defined place) ∙ append-nil (defined_named code)

choice_defined : (local place : ℕ) {bodies : List (List Instr)} {code : List Instr} → IsChoice (I.LocalGet local ∷ []) place bodies code → defined_named code ≡ defined_named (code_of_bodies bodies)
choice_defined local place {bodies} (InOneTable few is) =
    ap defined_named is ∙ ap (filter_map defined_place) (sum_named (I.LocalGet local ∷ []) (whole_none local place) place bodies) ∙ without_trap (code_of_bodies bodies) place
choice_defined local place {bodies} (InChunks chunks rest many are is) =
    ap defined_named is ∙ ap (filter_map defined_place) (levels_named local place chunks rest)
    ∙ without_trap (code_of_bodies (all_of_chunks chunks ++ rest) ++ trap_code place) place ∙ without_trap (code_of_bodies (all_of_chunks chunks ++ rest)) place
    ∙ ap (λ bs. defined_named (code_of_bodies bs)) (sym are.all)

-- Bodies were written aside, and then the choice among them. It brings what they bring, and then the trap.
module _ {asks : List AskedHelper} {a b c : Writer} {local : ℕ} {bodies : List (List Instr)} (aside : GrewAsideAsking asks a b (code_of_bodies bodies)) (w : WroteChoice b c local bodies) where
  trap_brought : Brought b.sections c.sections (trap_code w.place)
  trap_brought = brought_between refl (sym w.wrote.imports) (brought_runtime (trap_names w.place) (trap_in_range w.place) w.took.imported)

  pub choice_grew : GrewAsking asks a c
  choice_grew = record {
    added = w.code;
    code = w.wrote.code ∙ ap (λ l. l ++ w.code) (w.took.code ∙ aside.code);
    calls = choice_defined local w.place w.chooses ∙ aside.calls;
    brought = choice_brought local w.place (brought_on aside.brought trap_brought) (brought_before refl trap_brought.ranged) w.chooses;
    imports = extended_on aside.imports (extended_on w.took.imports (extended_none w.wrote.imports));
    once = λ o. subst AreOnce (sym w.wrote.imports) (w.took.once (aside.once o));
    locals = grows_on aside.locals (grows_on (same_locals b w.between w.took.locals) (same_locals w.between c w.wrote.locals));
    numbers = λ n. still_numbers w.between c (same_types w.between c w.wrote.locals) (still_numbers b w.between (same_types b w.between w.took.locals) (aside.numbers n));
    still = λ i. same_still w.between c w.wrote.locals i ∙ same_still b w.between w.took.locals i ∙ aside.still i;
  }

  -- what is said of the bodies, and the choice
  pub choice_emits : {P : WasmModule → ImportPlaces → List ValType → Type 0} {Q : Piece} → ((M : WasmModule) (p : ImportPlaces) (locals : List ValType) (code : List Instr) → P M p locals → ChoosesCase local bodies M p locals code → Q M p locals code)
      → ((M : WasmModule) (p : ImportPlaces) (locals : List ValType) → Later b M p locals → HasHelpers M p asks → P M p locals) → EmitsAsking asks a c Q
  unfolding choice_grew
  choice_emits join does = record {
    grew = choice_grew;
    does = λ M p locals l h.
        let between : Later w.between M p locals = sooner {a = w.between} (extended_none w.wrote.imports) (same_locals w.between c w.wrote.locals) l in
        join M p locals w.code (does M p locals (sooner {a = b} w.took.imports (same_locals b w.between w.took.locals) between) h) (record { place = w.place; has = serves_imported refl between.serves w.took.there; chooses = w.chooses });
  }
