-- The memories that a module imports: what holds behind some imports holds behind all, and their numbers have 32 bits.
use Rattle.std.proofs.Common.{◌≡◌, ℕ, zero, suc, ◌<◌, ◌^◌, Bool, true, false, List, [], ◌∷◌, Option, Some, refl, ap, ◌∙◌, subst, arith, cond, length, slice_get, take}
use Rattle.std.specs.List.{filter_map}
use Rattle.std.proofs.lemmas.Option.{slice_get_within}
use Rattle.fact_wasm.specs.declared.module.ImportType.{ImportType}
use Rattle.fact_wasm.specs.declared.module.ImportType.TheVariants as import
use Rattle.fact_wasm.specs.declared.module.WasmImport.{WasmImport}
use Rattle.fact_wasm.specs.declared.module.WasmModule.{WasmModule}
use Rattle.fact_machine.specs.Machine.{memory_import}
use Rattle.fact_machine.specs.Typed.{type_of_memory}
use Rattle.fact_check.specs.Accepted.{IsAdapterModule}
use Rattle.fact_check.specs.Imports.{IsAdapterImport, IsRow, memories_in}
use Rattle.fact_types.specs.declared.import.Import.{Import}
use Rattle.fact_types.proofs.ShapeLaws.{same_some, none_some}
use Rattle.fact_emit.specs.ImportSection.{Sort, imports_of, is_of}

-- ---- behind some imports, and behind all

pub widths_more : (k : ℕ) (ws : List WasmImport) (n : ℕ) (x : Bool × Option ℕ) → slice_get (filter_map type_of_memory (take k ws)) n ≡ Some x → slice_get (filter_map type_of_memory ws) n ≡ Some x
widths_more zero ws n x h = absurd (none_some (slice_get {X = Bool × Option ℕ} [] n) x refl h)
widths_more (suc k) [] n x h = h
widths_more (suc k) (w ∷ ws) n x h = by (λ i g. widths_more k ws i x g) w.ty n h
  where
    by : ((i : ℕ) → slice_get (filter_map type_of_memory (take k ws)) i ≡ Some x → slice_get (filter_map type_of_memory ws) i ≡ Some x) → (ty : ImportType) (n : ℕ) → slice_get (filter_map type_of_memory (record { «module» = w.module; name = w.name; ty = ty } ∷ take k ws)) n ≡ Some x
        → slice_get (filter_map type_of_memory (record { «module» = w.module; name = w.name; ty = ty } ∷ ws)) n ≡ Some x
    by more (import.Func t) n h = more n h
    by more (import.Memory a b c) zero h = h
    by more (import.Memory a b c) (suc n) h = more n h
    by more (import.Global a b) n h = more n h

pub imports_more : (sort : Sort) (k : ℕ) (ws : List WasmImport) (is : List Import) (n : ℕ) (x : Import) → slice_get (imports_of sort (take k ws) (take k is)) n ≡ Some x → slice_get (imports_of sort ws is) n ≡ Some x
imports_more sort zero ws is n x h = absurd (none_some (slice_get {X = Import} [] n) x refl h)
imports_more sort (suc k) [] is n x h = absurd (none_some (slice_get {X = Import} [] n) x refl h)
imports_more sort (suc k) (w ∷ ws) [] n x h = absurd (none_some (slice_get {X = Import} [] n) x refl h)
imports_more sort (suc k) (w ∷ ws) (i ∷ is) n x h = by (λ j g. imports_more sort k ws is j x g) (is_of sort w) n h
  where
    by : ((j : ℕ) → slice_get (imports_of sort (take k ws) (take k is)) j ≡ Some x → slice_get (imports_of sort ws is) j ≡ Some x) → (b : Bool) (n : ℕ) → slice_get (cond b (i ∷ imports_of sort (take k ws) (take k is)) (imports_of sort (take k ws) (take k is))) n ≡ Some x → slice_get (cond b (i ∷ imports_of sort ws is) (imports_of sort ws is)) n ≡ Some x
    by more true zero h = h
    by more true (suc n) h = more n h
    by more false n h = more n h

pub memory_from : (ws : List WasmImport) (n : ℕ) (k : Bool × Option ℕ) → slice_get (filter_map type_of_memory ws) n ≡ Some k → memory_import ws n ≡ Some k
memory_from [] n k h = absurd (none_some (slice_get {X = Bool × Option ℕ} [] n) k refl h)
memory_from (w ∷ ws) n k h = by (λ j g. memory_from ws j k g) w.ty n h
  where
    by : ((j : ℕ) → slice_get (filter_map type_of_memory ws) j ≡ Some k → memory_import ws j ≡ Some k) → (ty : ImportType) (n : ℕ) → slice_get (filter_map type_of_memory (record { «module» = w.module; name = w.name; ty = ty } ∷ ws)) n ≡ Some k
        → elim ty as (λ (x : ImportType). Option (Bool × Option ℕ)) [ import.Func t ↦ memory_import ws n | import.Memory minimum memory64 log2 ↦ elim n [ zero ↦ Some (memory64, log2) | suc m ↦ memory_import ws m ] | import.Global a b ↦ memory_import ws n ] ≡ Some k
    by more (import.Func t) n h = more n h
    by more (import.Memory a b c) zero h = h
    by more (import.Memory a b c) (suc n) h = more n h
    by more (import.Global a b) n h = more n h

-- ---- numbers

-- the nth memory is imported at a place
record MemoryAt (ws : List WasmImport) (n : ℕ) : Type 0 where
  pub place : ℕ
  pub entry : WasmImport
  pub there : slice_get ws place ≡ Some entry
  pub least : ℕ
  pub wide : Bool
  pub page : Option ℕ
  pub type_is : entry.ty ≡ import.Memory least wide page
  pub count : length (memories_in (take place ws)) ≡ n

memory_placed : (ws : List WasmImport) (n : ℕ) (k : Bool × Option ℕ) → slice_get (filter_map type_of_memory ws) n ≡ Some k → MemoryAt ws n
memory_placed [] n k h = absurd (none_some (slice_get {X = Bool × Option ℕ} [] n) k refl h)
memory_placed (w ∷ ws) n k h = by (λ j g. memory_placed ws j k g) w.ty n h
  where
    by : ((j : ℕ) → slice_get (filter_map type_of_memory ws) j ≡ Some k → MemoryAt ws j) → (ty : ImportType) (n : ℕ) → slice_get (filter_map type_of_memory (record { «module» = w.module; name = w.name; ty = ty } ∷ ws)) n ≡ Some k
        → MemoryAt (record { «module» = w.module; name = w.name; ty = ty } ∷ ws) n
    by more (import.Func t) n h =
        let m = more n h in
        record { place = suc m.place; entry = m.entry; there = m.there; least = m.least; wide = m.wide; page = m.page; type_is = m.type_is; count = m.count }
    by more (import.Memory a b c) zero h = record { place = 0; entry = record { «module» = w.module; name = w.name; ty = import.Memory a b c }; there = refl; least = a; wide = b; page = c; type_is = refl; count = refl }
    by more (import.Memory a b c) (suc n) h =
        let m = more n h in
        record { place = suc m.place; entry = m.entry; there = m.there; least = m.least; wide = m.wide; page = m.page; type_is = m.type_is; count = ap suc m.count }
    by more (import.Global a b) n h =
        let m = more n h in
        record { place = suc m.place; entry = m.entry; there = m.there; least = m.least; wide = m.wide; page = m.page; type_is = m.type_is; count = m.count }

-- an adapter module has as many memories as numbers of 32 bits can tell
pub memory_small : (m : WasmModule) (n : ℕ) (k : Bool × Option ℕ) → IsAdapterModule m → slice_get (filter_map type_of_memory m.imports) n ≡ Some k → n < 2 ^ 32
memory_small m n k adapter h =
    let at = memory_placed m.imports n k h in
    let row : IsAdapterImport m at.place = adapter.imports at.place (slice_get_within m.imports at.place at.entry at.there) in
    let same : row.import ≡ at.entry = same_some (slice_get m.imports at.place) row.import at.entry row.there at.there in
    let memory : IsRow m.types (take at.place m.imports) row.import.module row.import.name (import.Memory at.least at.wide at.page) =
    subst (IsRow m.types (take at.place m.imports) row.import.module row.import.name) (ap (λ (w : WasmImport). w.ty) same ∙ at.type_is) row.is_row in
    omega (arith, memory.1.0, at.count)
