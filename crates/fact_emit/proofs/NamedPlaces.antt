-- Imports of a kind by their places among them, and what their types say of the roles that they stand for.
use Rattle.std.proofs.Common.{◌≡◌, ℕ, zero, suc, Bool, true, List, [], ◌∷◌, ◌++◌, Option, Some, refl, sym, ap, ◌∙◌, subst, slice_get}
use Rattle.fact_wasm.specs.declared.types.ValType.{ValType}
use Rattle.fact_wasm.specs.declared.types.ValType.TheVariants as val
use Rattle.fact_wasm.specs.declared.types.FuncType.{FuncType}
use Rattle.fact_wasm.specs.declared.module.ImportType.{ImportType}
use Rattle.fact_wasm.specs.declared.module.ImportType.TheVariants as import
use Rattle.fact_wasm.specs.declared.module.WasmImport.{WasmImport}
use Rattle.fact_machine.specs.Machine.{memory_import}
use Rattle.fact_machine.specs.Typing.{global_import}
use Rattle.fact_types.specs.declared.import.Import.{Import}
use Rattle.fact_emit.specs.ImportSection.{AreNamed, Callback, Callee, Flags, IsNamed, Mention, PostReturn, Realloc, Role, StandsFor, Storage, a_function, a_global, a_memory, custom_page_size, imported_type, imports_of, sort_of}
use Rattle.fact_emit.specs.Known.{memory_of_role}
use Rattle.fact_emit.specs.DefImports.{type_of_role}
use Rattle.fact_emit.proofs.Named.{function-sort, sort_for}

-- ---- by their places

-- An import of a kind: what it is, and what it is behind.
pub record Stands (types : List FuncType) (ms : List Mention) (ty : ImportType) (i : Import) : Type 0 where
  pub import : WasmImport
  pub is : import.ty ≡ ty
  pub before : List WasmImport
  pub named : IsNamed types ms before import i

-- the nth imported memory
pub memory-at : (types : List FuncType) (ms : List Mention) (before ws : List WasmImport) (is : List Import) (n : ℕ) (i : Import)
    → AreNamed types ms before ws is → slice_get (imports_of a_memory ws is) n ≡ Some i
    → (least : ℕ) × (wide : Bool) × (page : Option ℕ) × (memory_import ws n ≡ Some (wide, page)) × Stands types ms (import.Memory least wide page) i
memory-at types ms before [] [] n i h e = cc
memory-at types ms before [] (j ∷ is) n i h e = absurd h
memory-at types ms before (v ∷ ws) [] n i h e = absurd h
memory-at types ms before (v ∷ ws) (j ∷ is) n i h e = step v.ty refl n e (λ m f. memory-at types ms (before ++ v ∷ []) ws is m i h.1 f)
  where
    step : (ty : ImportType) → v.ty ≡ ty → (n : ℕ) → slice_get (imports_of a_memory (v ∷ ws) (j ∷ is)) n ≡ Some i
        → ((m : ℕ) → slice_get (imports_of a_memory ws is) m ≡ Some i → (least : ℕ) × (wide : Bool) × (page : Option ℕ) × (memory_import ws m ≡ Some (wide, page)) × Stands types ms (import.Memory least wide page) i)
        → (least : ℕ) × (wide : Bool) × (page : Option ℕ) × (memory_import (v ∷ ws) n ≡ Some (wide, page)) × Stands types ms (import.Memory least wide page) i
    step (import.Memory a b c) same zero e rest =
        let f : Some j ≡ Some i = rw same at e in
        let is_i : j ≡ i = cc in
        (a, b, c, rw same refl, record { import = v; is = same; before = before; named = subst (IsNamed types ms before v) is_i h.0 })
    step (import.Memory a b c) same (suc n) e rest = let r = rest n (rw same at e) in (r.0, r.1, r.2, rw same r.3, r.4)
    step (import.Func t) same n e rest = let r = rest n (rw same at e) in (r.0, r.1, r.2, rw same r.3, r.4)
    step (import.Global a b) same n e rest = let r = rest n (rw same at e) in (r.0, r.1, r.2, rw same r.3, r.4)

-- the nth imported global
pub global-at : (types : List FuncType) (ms : List Mention) (before ws : List WasmImport) (is : List Import) (n : ℕ) (i : Import)
    → AreNamed types ms before ws is → slice_get (imports_of a_global ws is) n ≡ Some i
    → (ty : ValType) × (mutable : Bool) × (global_import ws n ≡ Some (ty, mutable)) × Stands types ms (import.Global ty mutable) i
global-at types ms before [] [] n i h e = cc
global-at types ms before [] (j ∷ is) n i h e = absurd h
global-at types ms before (v ∷ ws) [] n i h e = absurd h
global-at types ms before (v ∷ ws) (j ∷ is) n i h e = step v.ty refl n e (λ m f. global-at types ms (before ++ v ∷ []) ws is m i h.1 f)
  where
    step : (ty : ImportType) → v.ty ≡ ty → (n : ℕ) → slice_get (imports_of a_global (v ∷ ws) (j ∷ is)) n ≡ Some i
        → ((m : ℕ) → slice_get (imports_of a_global ws is) m ≡ Some i → (ty : ValType) × (mutable : Bool) × (global_import ws m ≡ Some (ty, mutable)) × Stands types ms (import.Global ty mutable) i)
        → (ty : ValType) × (mutable : Bool) × (global_import (v ∷ ws) n ≡ Some (ty, mutable)) × Stands types ms (import.Global ty mutable) i
    step (import.Global a b) same zero e rest =
        let f : Some j ≡ Some i = rw same at e in
        let is_i : j ≡ i = cc in
        (a, b, rw same refl, record { import = v; is = same; before = before; named = subst (IsNamed types ms before v) is_i h.0 })
    step (import.Global a b) same (suc n) e rest = let r = rest n (rw same at e) in (r.0, r.1, rw same r.2, r.3)
    step (import.Func t) same n e rest = let r = rest n (rw same at e) in (r.0, r.1, rw same r.2, r.3)
    step (import.Memory a b c) same n e rest = let r = rest n (rw same at e) in (r.0, r.1, rw same r.2, r.3)

-- ---- what they stand for

module _ (types : List FuncType) (before : List WasmImport) (w : WasmImport) where
  -- what is imported as a function of a type
  pub stands-function : (r : Role) (ty : FuncType) → type_of_role r ≡ Some ty → StandsFor types before r w → imported_type types w.ty ≡ Some ty
  stands-function (Flags i) ty e h = cc
  stands-function (Storage wide k) ty e h = cc
  stands-function (Realloc wide) ty e h = h.is_typed ∙ e
  stands-function Callback ty e h = h.is_typed ∙ e
  stands-function (Callee adapter t) ty e h = h.is_typed ∙ e
  stands-function (PostReturn adapter results) ty e h = h.is_typed ∙ e

  -- a function is no memory and no global
  no-memory : (ty : FuncType) (least : ℕ) (wide : Bool) (page : Option ℕ) → imported_type types w.ty ≡ Some ty → w.ty ≡ import.Memory least wide page → ⊥
  no-memory ty least wide page h e = let f : a_function ≡ a_memory = sym (function-sort types w.ty ty h) ∙ ap sort_of e in cc

  no-global : (ty : FuncType) (t : ValType) (mutable : Bool) → imported_type types w.ty ≡ Some ty → w.ty ≡ import.Global t mutable → ⊥
  no-global ty t mutable h e = let f : a_function ≡ a_global = sym (function-sort types w.ty ty h) ∙ ap sort_of e in cc

  -- a memory has the width and the page size of its role
  pub stands-memory : (r : Role) (least : ℕ) (wide : Bool) (page : Option ℕ) → StandsFor types before r w → w.ty ≡ import.Memory least wide page → memory_of_role r ≡ Some (wide, page)
  stands-memory (Flags i) least wide page h e = let f : import.Global val.I32 true ≡ import.Memory least wide page = sym (ap (λ (v : WasmImport). v.ty) h) ∙ e in cc
  stands-memory (Storage wide' k) least wide page h e =
      let f : import.Memory 0 wide' (custom_page_size k) ≡ import.Memory least wide page = sym (ap (λ (v : WasmImport). v.ty) h) ∙ e in
      let same : wide' ≡ wide = cc in
      let custom : custom_page_size k ≡ page = cc in
      λ j. Some (same j, custom j)
  stands-memory (Realloc x) least wide page h e = absurd (no-memory _ least wide page h.is_typed e)
  stands-memory Callback least wide page h e = absurd (no-memory _ least wide page h.is_typed e)
  stands-memory (Callee adapter t) least wide page h e = absurd (no-memory _ least wide page h.is_typed e)
  stands-memory (PostReturn adapter results) least wide page h e = absurd (no-memory _ least wide page h.is_typed e)

  -- a global has the type of flags
  pub stands-global : (r : Role) (t : ValType) (mutable : Bool) → StandsFor types before r w → w.ty ≡ import.Global t mutable → ◌≡◌ {A = ValType × Bool} (t, mutable) (val.I32, true)
  stands-global (Flags i) t mutable h e =
      let f : import.Global val.I32 true ≡ import.Global t mutable = sym (ap (λ (v : WasmImport). v.ty) h) ∙ e in
      let is : val.I32 ≡ t = cc in
      let may : true ≡ mutable = cc in
      λ j. (sym is j, sym may j)
  stands-global (Storage wide k) t mutable h e = let f : import.Memory 0 wide (custom_page_size k) ≡ import.Global t mutable = sym (ap (λ (v : WasmImport). v.ty) h) ∙ e in cc
  stands-global (Realloc x) t mutable h e = absurd (no-global _ t mutable h.is_typed e)
  stands-global Callback t mutable h e = absurd (no-global _ t mutable h.is_typed e)
  stands-global (Callee adapter ty) t mutable h e = absurd (no-global _ t mutable h.is_typed e)
  stands-global (PostReturn adapter results) t mutable h e = absurd (no-global _ t mutable h.is_typed e)

-- what is used as a function is one of the imported functions
pub function-role : (r : Role) (ty : FuncType) → type_of_role r ≡ Some ty → sort_for r ≡ a_function
function-role (Flags i) ty e = cc
function-role (Storage wide k) ty e = cc
function-role (Realloc wide) ty e = refl
function-role Callback ty e = refl
function-role (Callee adapter t) ty e = refl
function-role (PostReturn adapter results) ty e = refl
