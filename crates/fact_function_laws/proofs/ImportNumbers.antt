-- What a module imports at a number, and which calls the events of a log are.
use Rattle.std.proofs.Common.{◌≡◌, ℕ, zero, suc, List, [], ◌∷◌, ◌++◌, Option, Some, refl, ap, ◌∙◌, cond, length, map, slice_get, All}
use Rattle.std.proofs.lemmas.List.Elements.{All-head, All-tail}
use Rattle.fact_wasm.specs.declared.types.FuncType.{FuncType}
use Rattle.fact_wasm.specs.declared.module.ImportType.{ImportType}
use Rattle.fact_wasm.specs.declared.module.ImportType.TheVariants as import
use Rattle.fact_wasm.specs.declared.module.WasmImport.{WasmImport}
use Rattle.fact_wasm.specs.declared.module.WasmModule.{WasmModule}
use Rattle.fact_machine.specs.declared.types.Event.{Event}
use Rattle.fact_machine.specs.Machine.{func_import}
use Rattle.fact_wasm.specs.declared.instr.FuncName.TheVariants as func
use Rattle.fact_types.specs.declared.import.Import.{Import}
use Rattle.fact_actions.specs.Laws.{call_event}
use Rattle.fact_actions.specs.Running.{ImportPlaces, Call}
use Rattle.fact_emit.specs.ImportSection.{imported_function, Mention, AreNamed, IsNamed, a_function, imports_of, same_sort, sort_of}
use Rattle.fact_emit.proofs.PlacesOfLaws.{placed_is}
use Rattle.fact_function_laws.specs.Names.{places_in, IsCall, AreCalls, IsNamedLog}
use Rattle.fact_function_laws.proofs.LoggedImports.{IsOfImport}

-- ---- what stands at a number

-- At this number among these imported functions stands one of this type, with the names of what it is.
pub record StandsAt (types : List FuncType) (ms : List Mention) (is : List Import) (k t : ℕ) : Type 0 where
  pub before : List WasmImport
  pub entry : WasmImport
  pub what : Import
  pub there : slice_get is k ≡ Some what
  pub type_is : entry.ty ≡ import.Func t
  pub named : IsNamed types ms before entry what

pub stands_at : (types : List FuncType) (ms : List Mention) (before ws : List WasmImport) (is : List Import) (k t : ℕ)
    → AreNamed types ms before ws is → func_import ws k ≡ Some t → StandsAt types ms (imports_of a_function ws is) k t
stands_at types ms before [] is k t named h = cc
stands_at types ms before (w ∷ ws) [] k t named h = absurd named
stands_at types ms before (w ∷ ws) (i ∷ is) k t named h = by_type w.ty refl k (λ n e. stands_at types ms (before ++ w ∷ []) ws is n t named.1 e) h
  where
    behind : List Import
    behind = imports_of a_function ws is

    more : (n : ℕ) → StandsAt types ms behind n t → StandsAt types ms (i ∷ behind) (suc n) t
    more n s = record { before = s.before; entry = s.entry; what = s.what; there = s.there; type_is = s.type_is; named = s.named }

    by_type : (ty : ImportType) → w.ty ≡ ty → (k : ℕ) → ((n : ℕ) → func_import ws n ≡ Some t → StandsAt types ms behind n t)
        → elim ty as (λ (x : ImportType). Option ℕ) [ import.Func u ↦ elim k [ zero ↦ Some u | suc n ↦ func_import ws n ] | import.Memory a b c ↦ func_import ws k | import.Global a b ↦ func_import ws k ] ≡ Some t
        → StandsAt types ms (cond (same_sort a_function (sort_of ty)) (i ∷ behind) behind) k t
    by_type (import.Func u) e zero rest h =
        let same : u ≡ t = cc in
        record { before = before; entry = w; what = i; there = refl; type_is = e ∙ ap import.Func same; named = named.0 }
    by_type (import.Func u) e (suc n) rest h = more n (rest n h)
    by_type (import.Memory a b c) e k rest h = rest k h
    by_type (import.Global a b) e k rest h = rest k h

-- ---- calls

-- What stands at the place of an import is that import.
pub record IsNaming (m : WasmModule) (is : List Import) (p : ImportPlaces) : Type 0 where
  pub names : (i j : Import) → imported_function m is (func.Import (p.function i)) ≡ Some j → j ≡ i

pub places_name : (m : WasmModule) (is : List Import) → IsNaming m is (places_in m is)
places_name m is = record { names = λ i j h. placed_is i j (imports_of a_function m.imports is) h }

module _ (m : WasmModule) (is : List Import) (p : ImportPlaces) (naming : IsNaming m is p) where
  pub call_is : (c d : Call) → IsCall m is (call_event p c) d → d ≡ c
  call_is c d h =
      let what : d.what ≡ c.what = naming.names c.what d.what h.what in
      λ k. record { what = what k; args = h.args k; before = h.before k; answer = h.answer k }

  -- the calls that the events of calls are, are those
  pub calls_are : (cs ds : List Call) → AreCalls m is (map (call_event p) cs) ds → ds ≡ cs
  calls_are [] [] h = refl
  calls_are [] (d ∷ ds) h = absurd h
  calls_are (c ∷ cs) [] h = absurd h
  calls_are (c ∷ cs) (d ∷ ds) h =
      let one = call_is c d h.0 in
      let more = calls_are cs ds h.1 in
      λ k. one k ∷ more k

module _ (m : WasmModule) (is : List Import) where
  -- a log has as many events as calls
  pub as_many : (log : List Event) (cs : List Call) → AreCalls m is log cs → length log ≡ length cs
  as_many [] [] h = refl
  as_many [] (c ∷ cs) h = absurd h
  as_many (e ∷ log) [] h = absurd h
  as_many (e ∷ log) (c ∷ cs) h = ap suc (as_many log cs h.1)

  module _ (ms : List Mention) (named : AreNamed m.types ms [] m.imports is) where
    call_of_event : (e : Event) → IsOfImport m e → (c : Call) × IsCall m is e c
    call_of_event e h =
        let s = stands_at m.types ms [] m.imports is e.func h.0 named h.1 in
        (record { what = s.what; args = e.args; before = e.before; answer = e.answer }, record { what = s.there; args = refl; before = refl; answer = refl })

    -- events of imported functions are calls of what is imported
    pub named_log : (log : List Event) → All (IsOfImport m) log → IsNamedLog m is log
    named_log [] h = record { calls = []; are_calls = tt }
    named_log (e ∷ log) h =
        let one = call_of_event e (All-head (IsOfImport m) e log h) in
        let more = named_log log (All-tail (IsOfImport m) e log h) in
        record { calls = one.0 ∷ more.calls; are_calls = (one.1, more.are_calls) }
