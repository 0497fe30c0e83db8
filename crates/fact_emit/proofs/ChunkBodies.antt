-- Bodies in chunks of 64, one body after another.
use Rattle.std.proofs.Common.{◌≡◌, ◌≢◌, ℕ, ◌+◌, ◌<◌, ◌≤◌, inl, inr, List, [], ◌∷◌, ◌++◌, length, map, refl, sym, ap, ◌∙◌, subst, arith, append_assoc, append-nil, length-append}
use Rattle.std.specs.List.{AllByRecursion}
use Rattle.std.proofs.Math.Nat.{eq-or-lt_of_le}
use Rattle.std.proofs.lemmas.Grind.{flat_map-append}
use Rattle.std.proofs.lemmas.List.{map-append, length-map}
use Rattle.fact_wasm.specs.declared.instr.Instr.{Instr}
use Rattle.fact_code_laws.specs.Choices.{all_of_chunks, chunk_number, full_chunk_code, place_in_chunk, IsChoice, InChunks}
use Rattle.fact_code_laws.specs.Code.{cases_code, labels_from, sum_code}
use Rattle.fact_code_laws.proofs.Choices.{length_of_chunks}
use Rattle.fact_emit.specs.Choices.{AreChunkCodes, HasChunks}

full_more : (chunks : List (List (List Instr))) (chunk : List (List Instr)) → AllByRecursion (λ c. length c ≡ 64) chunks → length chunk ≡ 64 → AllByRecursion (λ c. length c ≡ 64) (chunks ++ chunk ∷ [])
full_more [] chunk full one = (one, tt)
full_more (c ∷ cs) chunk full one = (full.0, full_more cs chunk full.1 one)

pub has_none : {number : List Instr} → HasChunks number [] [] []
has_none = record { chunks = []; are = record { full = tt; few = omega arith; all = refl }; is = refl }

-- A body goes to those behind the chunks, where they are fewer than 64.
pub has_more : {number : List Instr} {done codes chunk : List (List Instr)} (body : List Instr) → length chunk ≢ 64 → HasChunks number done codes chunk → HasChunks number (done ++ body ∷ []) codes (chunk ++ body ∷ [])
has_more {chunk = chunk} body not_full h = record {
  chunks = h.chunks;
  are = record {
    full = h.are.full;
    few = fewer (length chunk) (length (chunk ++ body ∷ [])) h.are.few not_full (length-append chunk (body ∷ []));
    all = ap (λ bs. bs ++ body ∷ []) h.are.all ∙ append_assoc (all_of_chunks h.chunks) chunk (body ∷ []);
  };
  is = h.is;
}
  where
    fewer : (n m : ℕ) → n ≤ 64 → n ≢ 64 → m ≡ n + 1 → m ≤ 64
    fewer n m le ne e = elim (eq-or-lt_of_le le) [
      | inl same ↦ absurd (ne same)
      | inr lt ↦ omega (arith, lt, e)
    ]

-- Those behind the chunks are a chunk, and the body is the first one behind it.
pub has_full : {number : List Instr} {done codes chunk : List (List Instr)} (body : List Instr) → length chunk ≡ 64 → HasChunks number done codes chunk → HasChunks number (done ++ body ∷ []) (codes ++ full_chunk_code number chunk ∷ []) (body ∷ [])
has_full {number} {chunk = chunk} body full h = record {
  chunks = h.chunks ++ chunk ∷ [];
  are = record {
    full = full_more h.chunks chunk h.are.full full;
    few = omega arith;
    all = ap (λ bs. bs ++ body ∷ []) (h.are.all ∙ sym (flat_map-append (λ c. c) h.chunks (chunk ∷ []) ∙ ap (λ bs. all_of_chunks h.chunks ++ bs) (append-nil chunk)));
  };
  is = ap (λ cs. cs ++ full_chunk_code number chunk ∷ []) h.is ∙ sym (map-append (full_chunk_code number) h.chunks (chunk ∷ []));
}

-- The two ways in which a body is put into the last chunk.
pub more_put : {number : List Instr} {done codes next chunk behind last : List (List Instr)} (body : List Instr) → length chunk ≢ 64 → next ≡ codes → behind ≡ chunk → last ≡ behind ++ body ∷ [] → HasChunks number done codes chunk → HasChunks number (done ++ body ∷ []) next last
more_put {number} {done} {codes} {next} {chunk} {last = last} body not_full next_is behind_is last_is h =
    subst (λ cs. HasChunks number (done ++ body ∷ []) cs last) (sym next_is)
    (subst (HasChunks number (done ++ body ∷ []) codes) (sym (last_is ∙ ap (λ bs. bs ++ body ∷ []) behind_is)) (has_more body not_full h))

pub full_put : {number pushed code block : List Instr} {done codes next chunk full behind last : List (List Instr)} (body : List Instr) → length chunk ≡ 64 → full ≡ chunk → pushed ≡ place_in_chunk number → code ≡ cases_code pushed (labels_from 0 63) 63 full → block ≡ code
    → next ≡ codes ++ block ∷ [] → behind ≡ [] → last ≡ behind ++ body ∷ [] → HasChunks number done codes chunk → HasChunks number (done ++ body ∷ []) next last
full_put {number} {done = done} {codes} {next} {full = full} {last = last} body is_full full_is pushed_is code_is block_is next_is behind_is last_is h =
    let one = block_is ∙ code_is ∙ ap (λ n. cases_code n (labels_from 0 63) 63 full) pushed_is ∙ ap (full_chunk_code number) full_is in
    subst (λ cs. HasChunks number (done ++ body ∷ []) cs last) (sym (next_is ∙ ap (λ c. codes ++ c ∷ []) one))
    (subst (HasChunks number (done ++ body ∷ []) _) (sym (last_is ∙ ap (λ bs. bs ++ body ∷ []) behind_is)) (has_full body is_full h))

-- All bodies are in chunks, but for those behind them, of which the code comes last.
pub has_all : {number : List Instr} {trap : ℕ} {bodies codes rest : List (List Instr)} → HasChunks number bodies codes rest → AreChunkCodes number trap bodies (codes ++ sum_code (place_in_chunk number) trap rest ∷ [])
has_all {number} {trap} {rest = rest} h = record { chunks = h.chunks; rest = rest; are = h.are; is = ap (λ cs. cs ++ sum_code (place_in_chunk number) trap rest ∷ []) h.is }

-- there are fewer codes than bodies, if they are many
pub fewer_codes : {number : List Instr} {trap : ℕ} {bodies codes : List (List Instr)} → AreChunkCodes number trap bodies codes → 64 < length bodies → length codes < length bodies
fewer_codes {number} {trap} h many =
    omega (
      arith,
      many,
      h.are.few,
      ap length h.are.all,
      length_of_chunks h.chunks h.rest h.are.full,
      ap length h.is,
      length-append (map (full_chunk_code number) h.chunks) (sum_code (place_in_chunk number) trap h.rest ∷ []),
      length-map h.chunks (full_chunk_code number),
    )

pub chosen_in_chunks : {number : List Instr} {trap : ℕ} {bodies codes : List (List Instr)} {all : List Instr} → AreChunkCodes number trap bodies codes → 64 < length bodies → all ≡ sum_code (chunk_number number) trap codes → IsChoice number trap bodies all
chosen_in_chunks {number} {trap} h many is = InChunks h.chunks h.rest many h.are (is ∙ ap (sum_code (chunk_number number) trap) h.is)

none_left : {X : Type 0} (xs : List X) → length xs ≡ 0 → xs ≡ []
none_left [] e = refl
none_left (x ∷ xs) e = absurd (omega (arith, e))

-- The code of those behind the chunks goes behind the codes, once no body is left.
pub all_put : {number pushed code block : List Instr} {trap : ℕ} {bodies done codes chunk all : List (List Instr)} (rest : List (List Instr)) → bodies ≡ done ++ rest → length rest ≡ 0 → pushed ≡ place_in_chunk number → code ≡ sum_code pushed trap chunk → block ≡ code
    → all ≡ codes ++ block ∷ [] → HasChunks number done codes chunk → AreChunkCodes number trap bodies all
all_put {number} {trap = trap} {bodies = bodies} {done = done} {codes = codes} {chunk = chunk} rest bodies_are none pushed_is code_is block_is all_is h =
    subst (AreChunkCodes number trap bodies) (sym (all_is ∙ ap (λ code. codes ++ code ∷ []) (block_is ∙ code_is ∙ ap (λ n. sum_code n trap chunk) pushed_is)))
    (subst (λ bs. AreChunkCodes number trap bs (codes ++ sum_code (place_in_chunk number) trap chunk ∷ [])) (sym (bodies_are ∙ ap (λ bs. done ++ bs) (none_left rest none) ∙ append-nil done)) (has_all h))
