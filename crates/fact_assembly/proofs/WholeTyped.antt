-- The module of adapters is well typed.
use Rattle.std.proofs.Common.{◌≡◌, ◌≢◌, ℕ, zero, suc, ◌+◌, ◌≤◌, Bool, true, false, ◌||◌, ◌⊎◌, List, [], ◌∷◌, ◌++◌, Option, Some, None, Contains, AllPairs, refl, sym, ap, subst, arith, cond, map, slice_get, inl, inr}
use Rattle.std.specs.Prelude.{All, is_some, not, option_and_then}
use Rattle.std.specs.List.{AllByRecursion, AllZip, flat_map, list_all, list_any}
use Rattle.std.specs.Str.{bytes_eq}
use Rattle.std.proofs.lemmas.List.Elements.{All-contains, All-from_recursion}
use Rattle.fact_wasm.specs.declared.instr.FuncName.{FuncName}
use Rattle.fact_wasm.specs.declared.instr.FuncName.TheVariants as func
use Rattle.fact_wasm.specs.declared.types.FuncType.{FuncType}
use Rattle.fact_wasm.specs.declared.module.ImportType.{ImportType}
use Rattle.fact_wasm.specs.declared.module.ImportType.TheVariants as import
use Rattle.fact_wasm.specs.declared.module.WasmExport.{WasmExport}
use Rattle.fact_wasm.specs.declared.module.WasmFunc.{WasmFunc}
use Rattle.fact_wasm.specs.declared.module.WasmImport.{WasmImport}
use Rattle.fact_wasm.specs.declared.module.WasmModule.{WasmModule}
use Rattle.fact_machine.specs.Machine.{func_import}
use Rattle.fact_machine.specs.Typing.{are_distinct, function_type, is_memory_type, is_typed_export, is_typed_function, is_typed_import, typed_module}
use Rattle.fact_machine.proofs.Tests.{both}
use Rattle.fact_types.specs.Adapters.{LinkedAdapter, Side, is_wide}
use Rattle.fact_types.specs.Tables.{Tables}
use Rattle.fact_types.specs.declared.import.Import.{Import}
use Rattle.fact_types.specs.declared.import.Import.TheVariants as known
use Rattle.fact_types.specs.declared.outside.CoreDef.{CoreDef}
use Rattle.fact_types.specs.declared.outside.MemoryOption.{MemoryOption}
use Rattle.fact_adapter_rules.specs.AdapterRules.{export_names}
use Rattle.fact_actions.specs.Adapters.{AdapterTunables}
use Rattle.fact_actions.proofs.States.{and_left, and_right}
use Rattle.fact_emit.specs.ImportSection.{AreNamed, Callback, Callee as CalleeRole, Flags, IsNamed, Mention, PostReturn, Realloc, Role, StandsFor, Storage, a_function, adapter_mentions, custom_page_size, imported_function, imported_type, imports_of, memory_mention, mention, mentions, same_sort, side_mentions, sort_of}
use Rattle.fact_emit.specs.States.{ModuleSoFar, module_of}
use Rattle.fact_emit.proofs.Mentions.{in-mentions}
use Rattle.fact_assembly.specs.Sound.{HasUsualPages, IsSoundAdapter}
use Rattle.fact_assembly.specs.Adding.{Given}
use Rattle.fact_assembly.specs.Exports.{Callee, Exported, IsExportOf, Own, defined_type, exported, function_type_in}
use Rattle.fact_assembly.specs.Holding.{Holds}
use Rattle.fact_assembly.proofs.NameLaws.{named-once, times, times-here}
use Rattle.fact_assembly.proofs.WholeExports.{all-at, exports-are}

-- ---- lists

each-passes : {X : Type 0} (test : X → Bool) (xs : List X) → ((k : ℕ) (x : X) → slice_get xs k ≡ Some x → test x ≡ true) → list_all test xs ≡ true
each-passes test [] h = refl
each-passes test (x ∷ xs) h = both (h 0 x refl) (each-passes test xs (λ k y e. h (suc k) y e))

all-append : {X : Type 0} (P : X → Type 0) (xs ys : List X) → AllByRecursion P xs → AllByRecursion P ys → AllByRecursion P (xs ++ ys)
all-append P [] ys h g = g
all-append P (x ∷ xs) ys h g = (h.0, all-append P xs ys h.1 g)

-- ---- memories that adapters mention have usual pages

-- a memory's pages are of 1 or of 65,536 bytes
abbrev IsUsualRole : Role → Type 0
IsUsualRole (Storage wide k) = (k ≡ 0) ⊎ (k ≡ 16)
IsUsualRole _ = Unit {0}

abbrev AreUsual : List Mention → Type 0
AreUsual ms = AllByRecursion (λ (m : Mention). IsUsualRole m.role) ms

usual-joined : (ms ns : List Mention) → AreUsual ms → AreUsual ns → AreUsual (ms ++ ns)
usual-joined ms ns h g = all-append (λ (m : Mention). IsUsualRole m.role) ms ns h g

usual-mention : (r : Role) (d : Option CoreDef) → IsUsualRole r → AreUsual (mention r d)
usual-mention r None h = tt
usual-mention r (Some d) h = (h, tt)

usual-memory : (m : Option MemoryOption) → HasUsualPages m → AreUsual (memory_mention m)
usual-memory None h = tt
usual-memory (Some m) h = (h, tt)

usual-side : (s : Side) → HasUsualPages s.memory → AreUsual (side_mentions s)
usual-side s h =
    let realloc : AreUsual (mention (Realloc (is_wide s.memory)) s.realloc) = usual-mention (Realloc (is_wide s.memory)) s.realloc tt in
    let callback : AreUsual (mention Callback s.callback) = usual-mention Callback s.callback tt in
    (tt, usual-joined (memory_mention s.memory) _ (usual-memory s.memory h) (usual-joined (mention (Realloc (is_wide s.memory)) s.realloc) _ realloc callback))

usual-adapter : (a : LinkedAdapter) → IsSoundAdapter a → AreUsual (adapter_mentions a)
usual-adapter a h =
    usual-joined (side_mentions a.lift) _ (usual-side a.lift h.lift_pages) (usual-joined (side_mentions a.lower) _ (usual-side a.lower h.lower_pages)
    (tt, usual-mention (PostReturn a.name a.lift.core_type.results) a.lift.post_return tt))

usual-adapters : (adapters : List LinkedAdapter) → ((k : ℕ) (a : LinkedAdapter) → slice_get adapters k ≡ Some a → IsSoundAdapter a) → AreUsual (flat_map adapter_mentions adapters)
usual-adapters [] h = tt
usual-adapters (a ∷ adapters) h = usual-joined (adapter_mentions a) _ (usual-adapter a (h 0 a refl)) (usual-adapters adapters (λ k b e. h (suc k) b e))

usual-mentions : (adapters : List LinkedAdapter) → All IsSoundAdapter adapters → (r : Mention) → Contains (mentions adapters) r → IsUsualRole r.role
usual-mentions adapters sound r c =
    let all = flat_map adapter_mentions adapters in
    All-contains (λ (m : Mention). IsUsualRole m.role) all r (All-from_recursion (λ (m : Mention). IsUsualRole m.role) all (usual-adapters adapters (all-at IsSoundAdapter adapters sound))) (in-mentions [] all r c)

-- ---- imports

module _ (M : WasmModule) where
  typed-function-import : (w : WasmImport) (t : FuncType) → imported_type M.types w.ty ≡ Some t → is_typed_import M w ≡ true
  typed-function-import w t h = step w.ty h
    where
      step : (ty : ImportType) → imported_type M.types ty ≡ Some t → is_typed_import M (record w { ty = ty }) ≡ true
      step (import.Func n) h = ap is_some h
      step (import.Memory least wide page) h = cc
      step (import.Global v mutable) h = cc

  usual-memory-type : (wide : Bool) (k : ℕ) → (k ≡ 0) ⊎ (k ≡ 16) → is_memory_type wide (custom_page_size k) 0 ≡ true
  usual-memory-type wide k (inl is) = subst (λ n. is_memory_type wide (custom_page_size n) 0 ≡ true) (sym is) (at-once wide)
    where
      at-once : (wide : Bool) → is_memory_type wide (custom_page_size 0) 0 ≡ true
      at-once true = refl
      at-once false = refl
  usual-memory-type wide k (inr is) = subst (λ n. is_memory_type wide (custom_page_size n) 0 ≡ true) (sym is) (at-once wide)
    where
      at-once : (wide : Bool) → is_memory_type wide (custom_page_size 16) 0 ≡ true
      at-once true = refl
      at-once false = refl

  typed-role : (before : List WasmImport) (r : Role) (w : WasmImport) → IsUsualRole r → StandsFor M.types before r w → is_typed_import M w ≡ true
  typed-role before (Flags i) w u h = subst (λ v. is_typed_import M v ≡ true) (sym h) refl
  typed-role before (Storage wide k) w u h = subst (λ v. is_typed_import M v ≡ true) (sym h) (usual-memory-type wide k u)
  typed-role before (Realloc wide) w u h = typed-function-import w _ h.is_typed
  typed-role before Callback w u h = typed-function-import w _ h.is_typed
  typed-role before (CalleeRole adapter ty) w u h = typed-function-import w _ h.is_typed
  typed-role before (PostReturn adapter results) w u h = typed-function-import w _ h.is_typed

  module _ (ms : List Mention) (usual : (r : Mention) → Contains ms r → IsUsualRole r.role) where
    typed-import : (before : List WasmImport) (w : WasmImport) (i : Import) → IsNamed M.types ms before w i → is_typed_import M w ≡ true
    typed-import before w (known.CoreDef d) h = typed-role before h.0 w (usual (record { def = d; role = h.0 }) h.1) h.2
    typed-import before w (known.Trap t) h = typed-function-import w _ h.is_typed
    typed-import before w known.ResourceTransferOwn h = typed-function-import w _ h.is_typed
    typed-import before w known.ResourceTransferBorrow h = typed-function-import w _ h.is_typed
    typed-import before w known.FutureTransfer h = typed-function-import w _ h.is_typed
    typed-import before w known.StreamTransfer h = typed-function-import w _ h.is_typed
    typed-import before w known.ErrorContextTransfer h = typed-function-import w _ h.is_typed
    typed-import before w known.EnterSyncCall h = typed-function-import w _ h.is_typed
    typed-import before w known.ExitSyncCall h = typed-function-import w _ h.is_typed
    typed-import before w (known.UnsafeIntrinsic s) h = typed-function-import w _ h.is_typed
    typed-import before w (known.Transcode a b c d e) h = typed-function-import w _ h
    typed-import before w (known.PrepareCall a) h = typed-function-import w _ h.1
    typed-import before w (known.StartCall a b) h = typed-function-import w _ h.1

    typed-imports : (before ws : List WasmImport) (is : List Import) → AreNamed M.types ms before ws is → list_all (is_typed_import M) ws ≡ true
    typed-imports before [] is h = refl
    typed-imports before (w ∷ ws) [] h = absurd h
    typed-imports before (w ∷ ws) (i ∷ is) h = both (typed-import before w i h.0) (typed-imports (before ++ w ∷ []) ws is h.1)

-- ---- exports

-- an option that is there
is-there : {X : Type 0} (o : Option X) (x : X) → o ≡ Some x → is_some o ≡ true
is-there o x e = ap is_some e

-- the type of a number, where there is one
abbrev TypeAt : WasmModule → Option ℕ → Option FuncType
TypeAt M o = elim o as (λ (x : Option ℕ). Option FuncType) [ None ↦ None | Some t ↦ slice_get M.types t ]

module _ (M : WasmModule) where
  -- a function that the module defines has a type
  defined-typed : (f : FuncName) (ty : FuncType) → defined_type M f ≡ Some ty → is_some (function_type M f) ≡ true
  defined-typed (func.Import k) ty e = cc
  defined-typed (func.Defined k) ty e = by (slice_get M.funcs k) e
    where
      by : (o : Option WasmFunc) → function_type_in M o ≡ Some ty → is_some (option_and_then (λ (f : WasmFunc). slice_get M.types f.ty) o) ≡ true
      by None e = cc
      by (Some f) e = is-there (slice_get M.types f.ty) ty e

  -- and so does a function that it imports, where its imports are typed
  imported-typed : (ws : List WasmImport) (is : List Import) (k : ℕ) (i : Import) → list_all (is_typed_import M) ws ≡ true → slice_get (imports_of a_function ws is) k ≡ Some i
      → is_some (TypeAt M (func_import ws k)) ≡ true
  imported-typed [] is k i typed at = cc
  imported-typed (w ∷ ws) [] k i typed at = cc
  imported-typed (w ∷ ws) (j ∷ is) k i typed at = by w.ty k (and_left (is_typed_import M w) (list_all (is_typed_import M) ws) typed) (λ n e. imported-typed ws is n i (and_right (is_typed_import M w) (list_all (is_typed_import M) ws) typed) e) at
    where
      rest : List Import
      rest = imports_of a_function ws is

      by : (ty : ImportType) (k : ℕ) → is_typed_import M (record w { ty = ty }) ≡ true → ((n : ℕ) → slice_get rest n ≡ Some i → is_some (TypeAt M (func_import ws n)) ≡ true)
          → slice_get (cond (same_sort a_function (sort_of ty)) (j ∷ rest) rest) k ≡ Some i
          → is_some (TypeAt M (elim ty as (λ (x : ImportType). Option ℕ) [ import.Func t ↦ elim k [ zero ↦ Some t | suc n ↦ func_import ws n ] | import.Memory a b c ↦ func_import ws k | import.Global a b ↦ func_import ws k ])) ≡ true
      by (import.Func t) zero here more e = here
      by (import.Func t) (suc n) here more e = more n e
      by (import.Memory a b c) k here more e = more k e
      by (import.Global a b) k here more e = more k e

  module _ (is : List Import) (imports : list_all (is_typed_import M) M.imports ≡ true) where
    typed-export : (e : WasmExport) (x : Exported) → IsExportOf M is e x → is_typed_export M e ≡ true
    typed-export e (Own name ty) h = defined-typed e.func ty h.1
    typed-export e (Callee name d) h = by e.func h.1
      where
        by : (f : FuncName) → imported_function M is f ≡ Some (known.CoreDef d) → is_some (function_type M f) ≡ true
        by (func.Import k) there = imported-typed M.imports is k (known.CoreDef d) imports there
        by (func.Defined k) there = cc

    typed-exports : (es : List WasmExport) (xs : List Exported) → AllZip (IsExportOf M is) es xs → list_all (is_typed_export M) es ≡ true
    typed-exports [] xs h = refl
    typed-exports (e ∷ es) [] h = absurd h
    typed-exports (e ∷ es) (x ∷ xs) h = both (typed-export e x h.0) (typed-exports es xs h.1)

-- ---- names

none-named : (name : List ℕ) (es : List WasmExport) → times name (map (λ (e : WasmExport). e.name) es) ≡ 0 → list_any (λ (d : WasmExport). bytes_eq name d.name) es ≡ false
none-named name [] h = refl
none-named name (e ∷ es) h = by (bytes_eq name e.name) h (none-named name es)
  where
    by : (b : Bool) → cond b 1 0 + times name (map (λ (e : WasmExport). e.name) es) ≡ 0 → (times name (map (λ (e : WasmExport). e.name) es) ≡ 0 → list_any (λ (d : WasmExport). bytes_eq name d.name) es ≡ false)
        → (b || list_any (λ (d : WasmExport). bytes_eq name d.name) es) ≡ false
    by true none rest = absurd (omega (arith, none))
    by false none rest = rest (omega (arith, none))

-- names that stand once at most are distinct
distinct-names : (es : List WasmExport) → ((x : List ℕ) → times x (map (λ (e : WasmExport). e.name) es) ≤ 1) → are_distinct es ≡ true
distinct-names [] h = refl
distinct-names (e ∷ es) h =
    let once = h e.name in
    let here = times-here e.name (map (λ (e : WasmExport). e.name) es) in
    both (ap not (none-named e.name es (omega (arith, once, here)))) (distinct-names es (λ x. let first = h x in omega (arith, first)))

-- ---- the module

-- The function has a type in the module, and is typed.
pub record HasTypedFunction (M : WasmModule) (f : WasmFunc) : Type 0 where
  pub ty : FuncType
  pub type_is : slice_get M.types f.ty ≡ Some ty
  pub typed : is_typed_function M f ≡ true

module _ (t : Tables) (u : AdapterTunables) (given : Given) (s : ModuleSoFar) (adapters : List LinkedAdapter) (tuples : ℕ → ℕ) (h : Holds t u given s adapters tuples) (sound : All IsSoundAdapter adapters)
    (distinct : AllPairs (λ x y. x ≢ y) (flat_map export_names adapters)) (each : (k : ℕ) (f : WasmFunc) → slice_get s.functions k ≡ Some f → HasTypedFunction (module_of s) f) where
  pub typed-module : typed_module (module_of s) ≡ true
  typed-module =
      let M = module_of s in
      let imports : list_all (is_typed_import M) s.section ≡ true = typed-imports M (mentions adapters) (usual-mentions adapters sound) [] s.section s.imports h.lists.named in
      let exports : list_all (is_typed_export M) (s.exports ++ s.callees) ≡ true = typed-exports M s.imports imports (s.exports ++ s.callees) (exported adapters) (exports-are t u given s adapters tuples h sound) in
      let names : are_distinct (s.exports ++ s.callees) ≡ true = distinct-names (s.exports ++ s.callees) (named-once M s.imports s.exports s.callees h.counts adapters distinct h.exports h.callees) in
      let functions : list_all (is_typed_function M) s.functions ≡ true = each-passes (is_typed_function M) s.functions (λ k f e. (each k f e).typed) in
      both imports (both exports (both names functions))
