-- What each instruction takes and gives, one lemma for each kind of row.
use Rattle.std.proofs.Common.{◌≡◌, ℕ, ◌≤◌, ◌<◌, ◌^◌, Bool, ◌&&◌, List, [], ◌∷◌, ◌++◌, Option, Some, None, refl, sym, ap, ◌∙◌, append_assoc, reverse, slice_get}
use Rattle.std.specs.Prelude.{nat_le, nat_lt, option_and_then}
use Rattle.std.proofs.lemmas.Bool.{le-leb, lt-ltb}
use Rattle.fact_wasm.specs.declared.types.ValType.{ValType}
use Rattle.fact_wasm.specs.declared.types.ValType.TheVariants.{I32, I64}
use Rattle.fact_wasm.specs.declared.types.FuncType.{FuncType}
use Rattle.fact_wasm.specs.declared.instr.FuncName.{FuncName}
use Rattle.fact_wasm.specs.declared.instr.FuncName.TheVariants as func
use Rattle.fact_wasm.specs.declared.instr.MemArg.{MemArg}
use Rattle.fact_wasm.specs.declared.instr.Instr.{Instr, out-Instr, map-Instr}
use Rattle.fact_wasm.specs.declared.instr.Instr.TheVariants as I
use Rattle.fact_wasm.specs.declared.instr.Instr.TheOpen as o
use Rattle.fact_wasm.specs.declared.instr.Instr.TheOpen.{Instr-F}
use Rattle.fact_wasm.specs.declared.module.WasmModule.{WasmModule}
use Rattle.fact_machine.specs.Machine.{memory_import}
use Rattle.fact_types.specs.declared.import.Import.{Import}
use Rattle.fact_types.specs.declared.outside.CoreDef.{CoreDef}
use Rattle.fact_actions.specs.Running.{ImportPlaces}
use Rattle.fact_code_laws.specs.Knows.{KnowsFunction, KnowsMemory, KnowsFlags}
use Rattle.fact_code_laws.specs.Rows.{Load, LoadI32, LoadI64, LoadU8, LoadU16, load_code, load_align, load_type, Store, StoreI32, StoreI64, StoreI8, StoreI16, store_code, store_align, store_type}
use Rattle.fact_machine.specs.Typing.{Typing, typing, Known, Context, instruction_type, only_if, pop, change, jump, function_type, address_bits, address_type, address_at, load_typing, store_typing}
use Rattle.fact_code_laws.specs.Typed.{OnStack, Never, context}
use Rattle.fact_code_laws.proofs.TypingLaws.{Takes, by_row}
use Rattle.fact_machine.proofs.TypingRows.{row_of, plain_row, changed}
use Rattle.fact_machine.proofs.Tests.{both, get_append}

-- a place in a memory that code may name: at most naturally aligned, with an offset that its addresses reach
pub record IsPlaced (natural : ℕ) (memory64 : Bool) (m : MemArg) : Type 0 where
  pub aligned : m.align ≤ natural
  pub reached : m.offset < 2 ^ address_bits memory64

address_is : (G : Context) (natural : ℕ) (m : MemArg) {memory64 : Bool} {log2 : Option ℕ} → memory_import G.whole.imports m.memory_index ≡ Some (memory64, log2) → IsPlaced natural memory64 m → address_at G natural m ≡ Some (address_type memory64)
address_is G natural m {memory64} h i =
    ap (λ x. option_and_then (λ k. only_if (nat_le m.align natural && nat_lt m.offset (2 ^ address_bits k.0)) (Some (address_type k.0))) x) h
    ∙ ap (λ b. only_if b (Some (address_type memory64))) (both (le-leb m.align natural i.aligned) (lt-ltb m.offset (2 ^ address_bits memory64) i.reached))

module _ (natural : ℕ) (t : ValType) (m : MemArg) (G : Context) {memory64 : Bool} {log2 : Option ℕ} (us : List ValType) (h : memory_import G.whole.imports m.memory_index ≡ Some (memory64, log2)) (i : IsPlaced natural memory64 m) where
  loads : load_typing natural t m G (Known (address_type memory64 ∷ us)) ≡ Some (Known (t ∷ us))
  loads = ap (λ x. option_and_then (λ a. change (a ∷ []) (t ∷ []) (Known (address_type memory64 ∷ us))) x) (address_is G natural m h i) ∙ changed (address_type memory64 ∷ []) (t ∷ []) us

  stores : store_typing natural t m G (Known (t ∷ address_type memory64 ∷ us)) ≡ Some (Known us)
  stores = ap (λ x. option_and_then (λ a. change (t ∷ a ∷ []) [] (Known (t ∷ address_type memory64 ∷ us))) x) (address_is G natural m h i) ∙ changed (t ∷ address_type memory64 ∷ []) [] us

calls : (G : Context) (f : FuncName) (t : FuncType) (ins below : List ValType) → function_type G.whole f ≡ Some t
    → option_and_then (λ (u : FuncType). change (reverse u.params) (reverse u.results) (Known ((reverse t.params ++ ins) ++ below))) (function_type G.whole f) ≡ Some (Known ((reverse t.results ++ ins) ++ below))
calls G f t ins below h =
    ap (λ x. option_and_then (λ (u : FuncType). change (reverse u.params) (reverse u.results) (Known ((reverse t.params ++ ins) ++ below))) x) h
    ∙ ap (λ us. change (reverse t.params) (reverse t.results) (Known us)) (append_assoc (reverse t.params) ins below)
    ∙ changed (reverse t.params) (reverse t.results) (ins ++ below) ∙ ap (λ us. Some (Known us)) (sym (append_assoc (reverse t.results) ins below))

module _ {M : WasmModule} {locals : List ValType} {labels : List (List ValType)} {ins : List ValType} where
  -- an instruction that looks at nothing else
  pub takes_plain : {i : Instr} {ts : List ValType} {t : ValType} (f : Instr-F Instr) → out-Instr i ≡ f → instruction_type (map-Instr Instr Typing typing f) ≡ Some (ts, t) → Takes M locals labels i (ts ++ ins) (OnStack (t ∷ ins))
  takes_plain {i} {ts} {t} f e h = by_row f e (λ outer below.
      ap (λ us. row_of f (context M locals (labels ++ outer)) (Known us)) (append_assoc ts ins below) ∙ plain_row (map-Instr Instr Typing typing f) (ts, t) (context M locals (labels ++ outer)) (Known (ts ++ (ins ++ below))) h ∙ changed ts (t ∷ []) (ins ++ below))

  -- ---- locals

  module _ {n : ℕ} {t : ValType} (h : slice_get locals n ≡ Some t) where
    pub takes_local_get : Takes M locals labels (I.LocalGet n) ins (OnStack (t ∷ ins))
    takes_local_get = by_row (o.LocalGet n) (I.outs-LocalGet n) (λ outer below. ap (λ x. option_and_then (λ t. change [] (t ∷ []) (Known (ins ++ below))) x) h)

    pub takes_local_set : Takes M locals labels (I.LocalSet n) (t ∷ ins) (OnStack ins)
    takes_local_set = by_row (o.LocalSet n) (I.outs-LocalSet n) (λ outer below. ap (λ x. option_and_then (λ u. change (u ∷ []) [] (Known (t ∷ (ins ++ below)))) x) h ∙ changed (t ∷ []) [] (ins ++ below))

    pub takes_local_tee : Takes M locals labels (I.LocalTee n) (t ∷ ins) (OnStack (t ∷ ins))
    takes_local_tee = by_row (o.LocalTee n) (I.outs-LocalTee n) (λ outer below. ap (λ x. option_and_then (λ u. change (u ∷ []) (u ∷ []) (Known (t ∷ (ins ++ below)))) x) h ∙ changed (t ∷ []) (t ∷ []) (ins ++ below))

  -- ---- what is imported

  module _ {p : ImportPlaces} where
    pub takes_global_get : {i place : ℕ} → KnowsFlags M p i place → Takes M locals labels (I.GlobalGet place) ins (OnStack (I32 ∷ ins))
    takes_global_get {place = place} h = by_row (o.GlobalGet place) (I.outs-GlobalGet place) (λ outer below. ap (λ x. option_and_then (λ g. change [] (g.0 ∷ []) (Known (ins ++ below))) x) h.imported)

    pub takes_global_set : {i place : ℕ} → KnowsFlags M p i place → Takes M locals labels (I.GlobalSet place) (I32 ∷ ins) (OnStack ins)
    takes_global_set {place = place} h =
        by_row (o.GlobalSet place) (I.outs-GlobalSet place) (λ outer below. ap (λ x. option_and_then (λ g. only_if g.1 (change (g.0 ∷ []) [] (Known (I32 ∷ (ins ++ below))))) x) h.imported)

    module _ {d : CoreDef} {memory64 : Bool} {log2 : Option ℕ} where
      pub takes_memory_size : {place : ℕ} → KnowsMemory M p d place memory64 log2 → Takes M locals labels (I.MemorySize place) ins (OnStack (address_type memory64 ∷ ins))
      takes_memory_size {place} h = by_row (o.MemorySize place) (I.outs-MemorySize place) (λ outer below. ap (λ x. option_and_then (λ k. change [] (address_type k.0 ∷ []) (Known (ins ++ below))) x) h.imported)

      -- loads and stores, by their tables
      pub takes_load : (kind : Load) (m : MemArg) → KnowsMemory M p d m.memory_index memory64 log2 → IsPlaced (load_align kind) memory64 m → Takes M locals labels (load_code kind m) (address_type memory64 ∷ ins) (OnStack (load_type kind ∷ ins))
      takes_load LoadI32 m h i = by_row (o.I32Load m) (I.outs-I32Load m) (λ outer below. loads 2 I32 m (context M locals (labels ++ outer)) (ins ++ below) h.imported i)
      takes_load LoadI64 m h i = by_row (o.I64Load m) (I.outs-I64Load m) (λ outer below. loads 3 I64 m (context M locals (labels ++ outer)) (ins ++ below) h.imported i)
      takes_load LoadU8 m h i = by_row (o.I32Load8U m) (I.outs-I32Load8U m) (λ outer below. loads 0 I32 m (context M locals (labels ++ outer)) (ins ++ below) h.imported i)
      takes_load LoadU16 m h i = by_row (o.I32Load16U m) (I.outs-I32Load16U m) (λ outer below. loads 1 I32 m (context M locals (labels ++ outer)) (ins ++ below) h.imported i)

      pub takes_store : (kind : Store) (m : MemArg) → KnowsMemory M p d m.memory_index memory64 log2 → IsPlaced (store_align kind) memory64 m → Takes M locals labels (store_code kind m) (store_type kind ∷ address_type memory64 ∷ ins) (OnStack ins)
      takes_store StoreI32 m h i = by_row (o.I32Store m) (I.outs-I32Store m) (λ outer below. stores 2 I32 m (context M locals (labels ++ outer)) (ins ++ below) h.imported i)
      takes_store StoreI64 m h i = by_row (o.I64Store m) (I.outs-I64Store m) (λ outer below. stores 3 I64 m (context M locals (labels ++ outer)) (ins ++ below) h.imported i)
      takes_store StoreI8 m h i = by_row (o.I32Store8 m) (I.outs-I32Store8 m) (λ outer below. stores 0 I32 m (context M locals (labels ++ outer)) (ins ++ below) h.imported i)
      takes_store StoreI16 m h i = by_row (o.I32Store16 m) (I.outs-I32Store16 m) (λ outer below. stores 1 I32 m (context M locals (labels ++ outer)) (ins ++ below) h.imported i)

  -- ---- branches

  pub takes_unreachable : Takes M locals labels I.Unreachable ins Never
  takes_unreachable = by_row o.Unreachable I.outs-Unreachable (λ outer below. refl)

  -- a branch to a label that takes nothing
  pub takes_br : {l : ℕ} → slice_get labels l ≡ Some [] → Takes M locals labels (I.Br l) ins Never
  takes_br {l} h = by_row (o.Br l) (I.outs-Br l) (λ outer below. ap (λ x. option_and_then (λ ts. jump (reverse ts) (Known (ins ++ below))) x) (get_append labels outer l [] h))

  pub takes_br_if : {l : ℕ} → slice_get labels l ≡ Some [] → Takes M locals labels (I.BrIf l) (I32 ∷ ins) (OnStack ins)
  takes_br_if {l} h =
      by_row (o.BrIf l) (I.outs-BrIf l) (λ outer below.
      ap (λ x. option_and_then (λ ts. option_and_then (λ s. change (reverse ts) (reverse ts) s) (pop I32 (Known (I32 ∷ (ins ++ below))))) x) (get_append labels outer l [] h))

-- ---- calls

module _ {M : WasmModule} {locals : List ValType} {labels : List (List ValType)} (ins : List ValType) where
  -- of any function that is there
  pub takes_call : (f : FuncName) (t : FuncType) → function_type M f ≡ Some t → Takes M locals labels (I.Call f) (reverse t.params ++ ins) (OnStack (reverse t.results ++ ins))
  takes_call f t h = by_row (o.Call f) (I.outs-Call f) (λ outer below. calls (context M locals (labels ++ outer)) f t ins below h)

  -- of an import
  pub takes_import : {p : ImportPlaces} {i : Import} {place : ℕ} {params results : List ValType} → KnowsFunction M p i place params results
      → Takes M locals labels (I.Call (func.Import place)) (reverse params ++ ins) (OnStack (reverse results ++ ins))
  takes_import {place = place} {params} {results} h =
      takes_call (func.Import place) (record { params = params; results = results }) (ap (λ o. elim o as (λ (o : Option ℕ). Option FuncType) [ None ↦ None | Some t ↦ slice_get M.types t ]) h.imported ∙ h.type_is)
