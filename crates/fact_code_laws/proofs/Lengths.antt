-- The length of a memory in bytes, from the number of its pages.
use Rattle.std.proofs.Common.{◌≡◌, ℕ, suc, ◌+◌, ◌*◌, ◌/◌, ◌%◌, ◌^◌, ◌<◌, ◌≤◌, ◌⊎◌, inl, inr, Bool, true, false, List, ◌∷◌, ◌++◌, Option, Some, None, sym, ap, ◌∙◌, subst, arith, length, slice_get}
use Rattle.std.specs.Prelude.{nat_lt, nat_le, if◌then◌else◌}
use Rattle.std.proofs.lemmas.Bool.{cases_lt, ltb-true, leb-true, eqb-true, lt-ltb}
use Rattle.std.proofs.Math.Nat.{mod-add-div', mod-eq_of_lt, div-eq_of_lt, div-le_self}
use Rattle.fact_wasm.specs.declared.instr.Instr.{Instr}
use Rattle.fact_wasm.specs.declared.module.WasmModule.{WasmModule}
use Rattle.fact_types.specs.declared.outside.CoreDef.{CoreDef}
use Rattle.fact_machine.specs.declared.types.CoreValue.{CoreValue}
use Rattle.fact_machine.specs.declared.types.CoreValue.TheVariants.{I32, I64}
use Rattle.fact_machine.specs.World.{World}
use Rattle.fact_machine.specs.Numerics.{imul}
use Rattle.fact_machine.specs.Machine.{page_bytes, size_value}
use Rattle.fact_machine.proofs.Laws.{leaves_next, leaves_as}
use Rattle.fact_machine.proofs.NumericLaws.{leaves_i64_extend_i32_u}
use Rattle.fact_machine.proofs.MemoryRows as machine
use Rattle.fact_machine.proofs.MemoryRows.{leaves_memory_size}
use Rattle.fact_actions.specs.Actions.{Action, MemoryLength}
use Rattle.fact_actions.specs.Running.{ImportPlaces, or_strayed, run}
use Rattle.fact_code_laws.specs.Code.{length_code}
use Rattle.fact_code_laws.specs.Does.{Locals, Way, EndsOn, Does}
use Rattle.fact_code_laws.specs.Knows.{KnowsMemory}
use Rattle.fact_code_laws.proofs.Runs.{no_heavier}
use Rattle.fact_code_laws.proofs.Rules.{ends_after}
use Rattle.fact_code_laws.proofs.Scaled.{scaled_steps, scaled_few, leaves_scaled}
use Rattle.fact_code_laws.proofs.Worlds.{typed_memory, length_fits, length_pages}
use Rattle.fact_code_laws.proofs.Primitives.{memory_of}
use Rattle.fact_machine.specs.Exits.{Falls, Leaves}
use Rattle.fact_machine.specs.Typed.{is_memory}
use Rattle.fact_machine.proofs.Tests.{first_of, second_of}

-- a length of a memory of this width
abbrev pub IsLength : Bool → ℕ → Type 0
IsLength true n = n < 2 ^ 64
IsLength false n = n ≤ 2 ^ 32

-- whole pages, multiplied in 64 bits
whole_pages : (len page : ℕ) → len < 2 ^ 64 → len % page ≡ 0 → imul 64 (len / page) (page % 2 ^ 64) ≡ len
whole_pages len page lt e = go (cases_lt page (2 ^ 64))
  where
    go : (page < 2 ^ 64) ⊎ (2 ^ 64 ≤ page) → imul 64 (len / page) (page % 2 ^ 64) ≡ len
    go (inl small) =
        let whole : len / page * page ≡ len = omega (arith, mod-add-div' len page, e) in
        ap (λ m. (len / page * m) % 2 ^ 64) (mod-eq_of_lt small) ∙ ap (λ m. m % 2 ^ 64) whole ∙ mod-eq_of_lt lt
    go (inr large) =
        let short : len < page = omega arith in
        let none : len ≡ 0 = sym (mod-eq_of_lt short) ∙ e in
        let nothing : 0 * (page % 2 ^ 64) ≡ 0 = omega arith in
        ap (λ q. (q * (page % 2 ^ 64)) % 2 ^ 64) (div-eq_of_lt short) ∙ ap (λ m. m % 2 ^ 64) nothing ∙ sym none

module _ {M : WasmModule} {w : World} {vs : List CoreValue} {ls : Locals} {place : ℕ} {bytes : List ℕ} where
  leaves_length : (memory64 : Bool) (h : machine.HasMemory M w place memory64 bytes) → is_memory memory64 h.log2 bytes ≡ true
      → (t : ℕ) × (t ≤ 4) × Leaves M t (length_code place memory64 h.log2) w vs ls (Falls w (I64 (length bytes) ∷ vs) ls) × IsLength memory64 (length bytes)
  leaves_length true h typed =
      let factor : ℕ = page_bytes h.log2 % 2 ^ 64 in
      let fits : length bytes < 2 ^ 64 = ltb-true (length bytes) (2 ^ 64) (length_fits (true, h.log2) bytes typed) in
      let pages : length bytes / page_bytes h.log2 < 2 ^ 64 = omega (arith, div-le_self (length bytes) (page_bytes h.log2)) in
      let size : size_value true (length bytes / page_bytes h.log2) ≡ Some (I64 (length bytes / page_bytes h.log2)) =
      ap (λ b. if b then Some (I64 (length bytes / page_bytes h.log2)) else None) (lt-ltb (length bytes / page_bytes h.log2) (2 ^ 64) pages) in
      let is : imul 64 (length bytes / page_bytes h.log2) (page_bytes h.log2 % 2 ^ 64) ≡ length bytes = whole_pages (length bytes) (page_bytes h.log2) fits (eqb-true (length bytes % page_bytes h.log2) 0 (length_pages (true, h.log2) bytes typed)) in
      (suc (scaled_steps factor), omega (arith, scaled_few factor), leaves_next (leaves_memory_size h size) (leaves_as (ap (λ n. Falls w (I64 n ∷ vs) ls) is) (leaves_scaled factor (length bytes / page_bytes h.log2) (λ one. pages))), fits)
  leaves_length false h typed =
      let factor : ℕ = page_bytes h.log2 % 2 ^ 64 in
      let both = length_fits (false, h.log2) bytes typed in
      let fits : length bytes ≤ 2 ^ 32 = leb-true (length bytes) (2 ^ 32) (first_of (nat_le (length bytes) (2 ^ 32)) (nat_lt (length bytes / page_bytes h.log2) (2 ^ 32)) both) in
      let wide : length bytes < 2 ^ 64 = omega arith in
      let pages : nat_lt (length bytes / page_bytes h.log2) (2 ^ 32) ≡ true = second_of (nat_le (length bytes) (2 ^ 32)) (nat_lt (length bytes / page_bytes h.log2) (2 ^ 32)) both in
      let size : size_value false (length bytes / page_bytes h.log2) ≡ Some (I32 (length bytes / page_bytes h.log2)) = ap (λ b. if b then Some (I32 (length bytes / page_bytes h.log2)) else None) pages in
      let is : imul 64 (length bytes / page_bytes h.log2) (page_bytes h.log2 % 2 ^ 64) ≡ length bytes = whole_pages (length bytes) (page_bytes h.log2) wide (eqb-true (length bytes % page_bytes h.log2) 0 (length_pages (false, h.log2) bytes typed)) in
      let below : length bytes / page_bytes h.log2 < 2 ^ 64 = omega (arith, div-le_self (length bytes) (page_bytes h.log2)) in
      (suc (suc (scaled_steps factor)), omega (arith, scaled_few factor), leaves_next (leaves_memory_size h size) (leaves_next leaves_i64_extend_i32_u (leaves_as (ap (λ n. Falls w (I64 n ∷ vs) ls) is) (leaves_scaled factor (length bytes / page_bytes h.log2) (λ one. below)))), fits)

-- the length of a memory, in front of other code
pub measure : {A : Type 0} {M : WasmModule} {p : ImportPlaces} {way : Way} {extra spare : ℕ} {ins : List CoreValue} {ls : Locals} {c : List Instr} {out : A → List CoreValue} {Holds : A → Locals → Type 0} {d : CoreDef} {memory64 : Bool} {log2 : Option ℕ} {k : ℕ → Action A} (place : ℕ)
    → KnowsMemory M p d place memory64 log2 → ((n : ℕ) → IsLength memory64 n → Does M p way extra spare (I64 n ∷ ins) ls c (k n) out Holds)
    → Does M p way (4 + extra) spare ins ls (length_code place memory64 log2 ++ c) (MemoryLength d k) out Holds
measure {M = M} {p} {way} {extra} {spare} {ins} {ls} {c} {out} {Holds} {d} {memory64} {log2} {k} place h go = record {
  by = λ w. record {
    by = λ ty below.
        let t = typed_memory p w place (memory64, log2) ty h.kind in
        let l = leaves_length {vs = ins ++ below} {ls = ls} memory64 (memory_of h t) t.typed in
        let is : run p (MemoryLength d k) w ≡ run p (k (length t.bytes)) w =
        ap (λ i. or_strayed w (slice_get w.state.memories i) (λ bytes. run p (k (length bytes)) w)) h.placed
        ∙ ap (λ o. or_strayed w o (λ bytes. run p (k (length bytes)) w)) t.there in
        subst (EndsOn M p way (4 + extra) spare w (ins ++ below) ls (length_code place memory64 log2 ++ c) below out Holds) (no_heavier (run p (k (length t.bytes)) w) ∙ sym is)
        (ends_after 0 (run p (k (length t.bytes)) w) (omega (arith, l.1)) l.2 (((go (length t.bytes) l.3).by w).by ty below));
  };
}
