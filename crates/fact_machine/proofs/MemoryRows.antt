-- How each memory instruction is left, one lemma for each row.
use Rattle.std.proofs.Common.{◌≡◌, ℕ, ◌+◌, ◌/◌, ◌≤◌, ◌<◌, Bool, true, false, List, [], ◌∷◌, Option, Some, refl, ap, ◌∙◌, length, take, drop, slice_get}
use Rattle.std.specs.Prelude.{if◌then◌else◌}
use Rattle.std.proofs.lemmas.Bool.{le-leb, lt-leb}
use Rattle.fact_wasm.specs.declared.instr.MemArg.{MemArg}
use Rattle.fact_wasm.specs.declared.instr.Instr.{Instr}
use Rattle.fact_wasm.specs.declared.instr.Instr.TheVariants as I
use Rattle.fact_wasm.specs.declared.module.WasmModule.{WasmModule}
use Rattle.fact_machine.specs.declared.types.CoreValue.{CoreValue}
use Rattle.fact_machine.specs.declared.types.CoreValue.TheVariants.{I32, I64, F32, F64}
use Rattle.fact_machine.specs.World.{World, Done, Halt, Trap, read, write, written, number_of}
use Rattle.fact_machine.specs.Numerics.{extend_s}
use Rattle.fact_machine.specs.Typing.{address_operand}
use Rattle.fact_machine.specs.Machine.{Around, At, Did, Goes, or_stuck, on_res, memory_import, with_address, load, store, i32_of, i64_of, f32_of, f64_of, page_bytes, size_value}
use Rattle.fact_machine.specs.Exits.{Falls, leads, Leaves, res_exit}
use Rattle.fact_machine.proofs.OutsideCalls.{res_leads}
use Rattle.fact_machine.proofs.RowLaws.{leaves_row}

-- a memory that the module imports and the state has
pub record HasMemory (M : WasmModule) (w : World) (index : ℕ) (memory64 : Bool) (bytes : List ℕ) : Type 0 where
  pub log2 : Option ℕ
  pub imported : memory_import M.imports index ≡ Some (memory64, log2)
  pub there : slice_get w.state.memories index ≡ Some bytes

-- ---- what a read and a write come to

-- a read of bytes that are all there
pub read_within : (n a : ℕ) (bytes : List ℕ) (w : World) → a + n ≤ length bytes → read n bytes a w ≡ Done (number_of (take n (drop a bytes))) w
read_within n a bytes w le = ap (λ b. if b then Done (number_of (take n (drop a bytes))) w else Halt Trap w) (le-leb (a + n) (length bytes) le)

-- a read past the end
pub read_outside : (n a : ℕ) (bytes : List ℕ) (w : World) → length bytes < a + n → read n bytes a w ≡ Halt Trap w
read_outside n a bytes w lt = ap (λ b. if b then Done (number_of (take n (drop a bytes))) w else Halt Trap w) (lt-leb (a + n) (length bytes) lt)

-- a write with room for all bytes
pub write_within : (n index a v : ℕ) (bytes : List ℕ) (w : World) → a + n ≤ length bytes → write n index bytes a v w ≡ Done tt (written n index bytes a v w)
write_within n index a v bytes w le = ap (λ b. if b then Done tt (written n index bytes a v w) else Halt Trap w) (le-leb (a + n) (length bytes) le)

-- a write past the end
pub write_outside : (n index a v : ℕ) (bytes : List ℕ) (w : World) → length bytes < a + n → write n index bytes a v w ≡ Halt Trap w
write_outside n index a v bytes w lt = ap (λ b. if b then Done tt (written n index bytes a v w) else Halt Trap w) (lt-leb (a + n) (length bytes) lt)

-- ---- rows

addressed : (memory64 : Bool) (w : World) (a : ℕ) (vs : List CoreValue) (go : ℕ → List CoreValue → Did) → with_address memory64 w (address_operand memory64 a ∷ vs) go ≡ go a vs
addressed true w a vs go = refl
addressed false w a vs go = refl

module _ (M : WasmModule) (w : World) (vs : List CoreValue) (ls : List (Option CoreValue)) (m : MemArg) {memory64 : Bool} {bytes : List ℕ} where
  loads : (n : ℕ) (value : ℕ → CoreValue) (a : ℕ) (rest : List Instr) (k : Around) → HasMemory M w m.memory_index memory64 bytes
      → load M n value m w (address_operand memory64 a ∷ vs) ls rest k ≡ leads (res_exit (read n bytes (a + m.offset) w) ls (λ n w'. Falls w' (value n ∷ vs) ls)) rest k
  loads n value a rest k h =
      let go : List ℕ → ℕ → List CoreValue → Did = λ memory base us. on_res (read n memory (base + m.offset) w) ls k (λ number w'. Goes (At w' (value number ∷ us) ls rest k)) in
      ap (λ o. or_stuck w o (λ t. with_address t.0 w (address_operand memory64 a ∷ vs) (λ base us. or_stuck w (slice_get w.state.memories m.memory_index) (λ memory. go memory base us)))) h.imported
      ∙ addressed memory64 w a vs _
      ∙ ap (λ o. or_stuck w o (λ memory. go memory a vs)) h.there
      ∙ res_leads (read n bytes (a + m.offset) w) ls (λ n w'. Falls w' (value n ∷ vs) ls) rest k

  stores : (n : ℕ) (number : CoreValue → Option ℕ) (v : CoreValue) (i a : ℕ) (rest : List Instr) (k : Around) → number v ≡ Some i → HasMemory M w m.memory_index memory64 bytes
      → store M n number m w (v ∷ address_operand memory64 a ∷ vs) ls rest k ≡ leads (res_exit (write n m.memory_index bytes (a + m.offset) i w) ls (λ done w'. Falls w' vs ls)) rest k
  stores n number v i a rest k e h =
      let go : ℕ → List ℕ → ℕ → List CoreValue → Did = λ value memory base us. on_res (write n m.memory_index memory (base + m.offset) value w) ls k (λ done w'. Goes (At w' us ls rest k)) in
      ap (λ o. or_stuck w o (λ value. or_stuck w (memory_import M.imports m.memory_index) (λ t. with_address t.0 w (address_operand memory64 a ∷ vs) (λ base us. or_stuck w (slice_get w.state.memories m.memory_index) (λ memory. go value memory base us))))) e
      ∙ ap (λ o. or_stuck w o (λ t. with_address t.0 w (address_operand memory64 a ∷ vs) (λ base us. or_stuck w (slice_get w.state.memories m.memory_index) (λ memory. go i memory base us)))) h.imported
      ∙ addressed memory64 w a vs _
      ∙ ap (λ o. or_stuck w o (λ memory. go i memory a vs)) h.there
      ∙ res_leads (write n m.memory_index bytes (a + m.offset) i w) ls (λ done w'. Falls w' vs ls) rest k

module _ {M : WasmModule} {w : World} {vs : List CoreValue} {ls : List (Option CoreValue)} {memory64 : Bool} {bytes : List ℕ} {m : MemArg} where
  pub leaves_i32_load : (a : ℕ) → HasMemory M w m.memory_index memory64 bytes
      → Leaves M 1 (I.I32Load m ∷ []) w (address_operand memory64 a ∷ vs) ls (res_exit (read 4 bytes (a + m.offset) w) ls (λ n w'. Falls w' (I32 n ∷ vs) ls))
  leaves_i32_load a h = leaves_row _ (I.outs-I32Load m) (λ rest k. loads M w vs ls m 4 (λ n. I32 n) a rest k h)

  pub leaves_i64_load : (a : ℕ) → HasMemory M w m.memory_index memory64 bytes
      → Leaves M 1 (I.I64Load m ∷ []) w (address_operand memory64 a ∷ vs) ls (res_exit (read 8 bytes (a + m.offset) w) ls (λ n w'. Falls w' (I64 n ∷ vs) ls))
  leaves_i64_load a h = leaves_row _ (I.outs-I64Load m) (λ rest k. loads M w vs ls m 8 (λ n. I64 n) a rest k h)

  pub leaves_f32_load : (a : ℕ) → HasMemory M w m.memory_index memory64 bytes
      → Leaves M 1 (I.F32Load m ∷ []) w (address_operand memory64 a ∷ vs) ls (res_exit (read 4 bytes (a + m.offset) w) ls (λ n w'. Falls w' (F32 n ∷ vs) ls))
  leaves_f32_load a h = leaves_row _ (I.outs-F32Load m) (λ rest k. loads M w vs ls m 4 (λ n. F32 n) a rest k h)

  pub leaves_f64_load : (a : ℕ) → HasMemory M w m.memory_index memory64 bytes
      → Leaves M 1 (I.F64Load m ∷ []) w (address_operand memory64 a ∷ vs) ls (res_exit (read 8 bytes (a + m.offset) w) ls (λ n w'. Falls w' (F64 n ∷ vs) ls))
  leaves_f64_load a h = leaves_row _ (I.outs-F64Load m) (λ rest k. loads M w vs ls m 8 (λ n. F64 n) a rest k h)

  pub leaves_i32_load8_s : (a : ℕ) → HasMemory M w m.memory_index memory64 bytes
      → Leaves M 1 (I.I32Load8S m ∷ []) w (address_operand memory64 a ∷ vs) ls (res_exit (read 1 bytes (a + m.offset) w) ls (λ n w'. Falls w' (I32 (extend_s 8 32 n) ∷ vs) ls))
  leaves_i32_load8_s a h = leaves_row _ (I.outs-I32Load8S m) (λ rest k. loads M w vs ls m 1 (λ n. I32 (extend_s 8 32 n)) a rest k h)

  pub leaves_i32_load8_u : (a : ℕ) → HasMemory M w m.memory_index memory64 bytes
      → Leaves M 1 (I.I32Load8U m ∷ []) w (address_operand memory64 a ∷ vs) ls (res_exit (read 1 bytes (a + m.offset) w) ls (λ n w'. Falls w' (I32 n ∷ vs) ls))
  leaves_i32_load8_u a h = leaves_row _ (I.outs-I32Load8U m) (λ rest k. loads M w vs ls m 1 (λ n. I32 n) a rest k h)

  pub leaves_i32_load16_s : (a : ℕ) → HasMemory M w m.memory_index memory64 bytes
      → Leaves M 1 (I.I32Load16S m ∷ []) w (address_operand memory64 a ∷ vs) ls (res_exit (read 2 bytes (a + m.offset) w) ls (λ n w'. Falls w' (I32 (extend_s 16 32 n) ∷ vs) ls))
  leaves_i32_load16_s a h = leaves_row _ (I.outs-I32Load16S m) (λ rest k. loads M w vs ls m 2 (λ n. I32 (extend_s 16 32 n)) a rest k h)

  pub leaves_i32_load16_u : (a : ℕ) → HasMemory M w m.memory_index memory64 bytes
      → Leaves M 1 (I.I32Load16U m ∷ []) w (address_operand memory64 a ∷ vs) ls (res_exit (read 2 bytes (a + m.offset) w) ls (λ n w'. Falls w' (I32 n ∷ vs) ls))
  leaves_i32_load16_u a h = leaves_row _ (I.outs-I32Load16U m) (λ rest k. loads M w vs ls m 2 (λ n. I32 n) a rest k h)

  pub leaves_i32_store : (a : ℕ) {i : ℕ} → HasMemory M w m.memory_index memory64 bytes
      → Leaves M 1 (I.I32Store m ∷ []) w (I32 i ∷ address_operand memory64 a ∷ vs) ls (res_exit (write 4 m.memory_index bytes (a + m.offset) i w) ls (λ done w'. Falls w' vs ls))
  leaves_i32_store a {i} h = leaves_row _ (I.outs-I32Store m) (λ rest k. stores M w vs ls m 4 i32_of (I32 i) i a rest k refl h)

  pub leaves_i64_store : (a : ℕ) {i : ℕ} → HasMemory M w m.memory_index memory64 bytes
      → Leaves M 1 (I.I64Store m ∷ []) w (I64 i ∷ address_operand memory64 a ∷ vs) ls (res_exit (write 8 m.memory_index bytes (a + m.offset) i w) ls (λ done w'. Falls w' vs ls))
  leaves_i64_store a {i} h = leaves_row _ (I.outs-I64Store m) (λ rest k. stores M w vs ls m 8 i64_of (I64 i) i a rest k refl h)

  pub leaves_f32_store : (a : ℕ) {i : ℕ} → HasMemory M w m.memory_index memory64 bytes
      → Leaves M 1 (I.F32Store m ∷ []) w (F32 i ∷ address_operand memory64 a ∷ vs) ls (res_exit (write 4 m.memory_index bytes (a + m.offset) i w) ls (λ done w'. Falls w' vs ls))
  leaves_f32_store a {i} h = leaves_row _ (I.outs-F32Store m) (λ rest k. stores M w vs ls m 4 f32_of (F32 i) i a rest k refl h)

  pub leaves_f64_store : (a : ℕ) {i : ℕ} → HasMemory M w m.memory_index memory64 bytes
      → Leaves M 1 (I.F64Store m ∷ []) w (F64 i ∷ address_operand memory64 a ∷ vs) ls (res_exit (write 8 m.memory_index bytes (a + m.offset) i w) ls (λ done w'. Falls w' vs ls))
  leaves_f64_store a {i} h = leaves_row _ (I.outs-F64Store m) (λ rest k. stores M w vs ls m 8 f64_of (F64 i) i a rest k refl h)

  pub leaves_i32_store8 : (a : ℕ) {i : ℕ} → HasMemory M w m.memory_index memory64 bytes
      → Leaves M 1 (I.I32Store8 m ∷ []) w (I32 i ∷ address_operand memory64 a ∷ vs) ls (res_exit (write 1 m.memory_index bytes (a + m.offset) i w) ls (λ done w'. Falls w' vs ls))
  leaves_i32_store8 a {i} h = leaves_row _ (I.outs-I32Store8 m) (λ rest k. stores M w vs ls m 1 i32_of (I32 i) i a rest k refl h)

  pub leaves_i32_store16 : (a : ℕ) {i : ℕ} → HasMemory M w m.memory_index memory64 bytes
      → Leaves M 1 (I.I32Store16 m ∷ []) w (I32 i ∷ address_operand memory64 a ∷ vs) ls (res_exit (write 2 m.memory_index bytes (a + m.offset) i w) ls (λ done w'. Falls w' vs ls))
  leaves_i32_store16 a {i} h = leaves_row _ (I.outs-I32Store16 m) (λ rest k. stores M w vs ls m 2 i32_of (I32 i) i a rest k refl h)

-- memory.size, where the number of pages is a value of the address type
pub leaves_memory_size : {M : WasmModule} {w : World} {vs : List CoreValue} {ls : List (Option CoreValue)} {index : ℕ} {memory64 : Bool} {bytes : List ℕ} {v : CoreValue} (h : HasMemory M w index memory64 bytes)
    → size_value memory64 (length bytes / page_bytes h.log2) ≡ Some v → Leaves M 1 (I.MemorySize index ∷ []) w vs ls (Falls w (v ∷ vs) ls)
leaves_memory_size {M} {w} {vs} {ls} {index} {memory64} {bytes} h e =
    leaves_row _ (I.outs-MemorySize index) (λ rest k.
    ap (λ o. or_stuck w o (λ t. or_stuck w (slice_get w.state.memories index) (λ memory. or_stuck w (size_value t.0 (length memory / page_bytes t.1)) (λ v. Goes (At w (v ∷ vs) ls rest k))))) h.imported
    ∙ ap (λ o. or_stuck w o (λ memory. or_stuck w (size_value memory64 (length memory / page_bytes h.log2)) (λ v. Goes (At w (v ∷ vs) ls rest k)))) h.there
    ∙ ap (λ o. or_stuck w o (λ v. Goes (At w (v ∷ vs) ls rest k))) e)
