-- The two calls of an async adapter, imported while its functions are compiled, stand in each later module at their numbers, with their names
-- and types.
use Rattle.std.proofs.Common.{◌≡◌, ℕ, zero, suc, Bool, true, false, List, [], ◌∷◌, ◌++◌, Option, Some, codes, refl, sym, ap, ◌∙◌, subst, arith, cond, length, length-append, slice_get, inl, inr}
use Rattle.std.specs.Prelude.{filter}
use Rattle.std.proofs.lemmas.List.Elements.{filter-append}
use Rattle.fact_entity.specs.declared.id.Id.{Id}
use Rattle.fact_entity.specs.declared.table.Memories.{Memories}
use Rattle.fact_wasm.specs.declared.module.ImportType.{ImportType}
use Rattle.fact_wasm.specs.declared.module.ImportType.TheVariants as import
use Rattle.fact_wasm.specs.declared.module.WasmFunc.{WasmFunc}
use Rattle.fact_wasm.specs.declared.module.WasmImport.{WasmImport}
use Rattle.fact_wasm.specs.declared.types.FuncType.{FuncType}
use Rattle.fact_wasm.specs.declared.types.ValType.{ValType}
use Rattle.fact_machine.specs.Machine.{func_import}
use Rattle.fact_machine.specs.Trace.{Grows}
use Rattle.fact_types.specs.Adapters.{LinkedAdapter}
use Rattle.fact_types.specs.Tables.{Tables}
use Rattle.fact_types.specs.declared.import.Import.{Import}
use Rattle.fact_types.specs.declared.import.Import.TheVariants as known
use Rattle.fact_types.specs.declared.signature.Signature.{Signature}
use Rattle.fact_actions.specs.Adapters.{def_of_memory}
use Rattle.fact_actions.specs.Sides.{options_of}
use Rattle.fact_emit.specs.ImportSection.{a_function, imported_type, imports_of, is_of, same_sort, sort_of}
use Rattle.fact_emit.specs.Imports.{Extended, HasImport}
use Rattle.fact_emit.specs.States.{HasType, ModuleSoFar, functions_of, import_as, module_of, with_import}
use Rattle.fact_emit.specs.TaskCalls.{IsPrepareCallImported}
use Rattle.fact_emit.specs.TaskTypes.{prepare_call_name, prepare_call_type, start_call_type}
use Rattle.fact_emit.proofs.BroughtLaws.{IsEven, even_all, even_type}
use Rattle.fact_emit.proofs.ImportLaws.{extended_on, grown_get, later_import}
use Rattle.fact_emit.proofs.ImportLists.{get-last}
use Rattle.fact_emit.proofs.ListedCalls.{function-unique, memory-unique}
use Rattle.fact_compound.specs.Asks.{Having}
use Rattle.fact_compound.specs.Asyncs.{CompiledAsync}
use Rattle.fact_compound.specs.Entries.{ImportsCalls, NamesLift}
use Rattle.fact_compound.specs.Puts.{PutsFunction}
use Rattle.fact_compound.specs.declared.adapters.AdapterData.{AdapterData}
use Rattle.fact_compound.specs.declared.entries.EntryPlaces.{EntryPlaces}
use Rattle.fact_function_laws.specs.AsyncRuns.{IsCallNamed, IsCallTyped}
use Rattle.fact_assembly.proofs.LiftNamed.{lift-later}

-- ---- imported functions of a section

abbrev functions_among : List WasmImport → List WasmImport
functions_among ws = filter (is_of a_function) ws

-- the import of the function of a number
record FunctionEntry (ws : List WasmImport) (n k : ℕ) : Type 0 where
  entry : WasmImport
  there : slice_get (functions_among ws) n ≡ Some entry
  type_is : entry.ty ≡ import.Func k

function-entry : (ws : List WasmImport) (n k : ℕ) → func_import ws n ≡ Some k → FunctionEntry ws n k
function-entry [] n k h = cc
function-entry (w ∷ ws) n k h = by w.ty refl n (λ m e. function-entry ws m k e) h
  where
    behind : List WasmImport
    behind = functions_among ws

    here : (ty : ImportType) → w.ty ≡ ty → functions_among (w ∷ ws) ≡ cond (same_sort a_function (sort_of ty)) (w ∷ behind) behind
    here ty e = ap (λ t. cond (same_sort a_function (sort_of t)) (w ∷ behind) behind) e

    by : (ty : ImportType) → w.ty ≡ ty → (n : ℕ) → ((m : ℕ) → func_import ws m ≡ Some k → FunctionEntry ws m k)
        → elim ty as (λ (t : ImportType). Option ℕ) [ import.Func u ↦ elim n [ zero ↦ Some u | suc m ↦ func_import ws m ] | import.Memory a b c ↦ func_import ws n | import.Global a b ↦ func_import ws n ] ≡ Some k
        → FunctionEntry (w ∷ ws) n k
    by (import.Func u) e zero rest h = let same : u ≡ k = cc in record { entry = w; there = ap (λ vs. slice_get vs 0) (here (import.Func u) e); type_is = e ∙ ap import.Func same }
    by (import.Func u) e (suc n) rest h = let r = rest n h in record { entry = r.entry; there = ap (λ vs. slice_get vs (suc n)) (here (import.Func u) e) ∙ r.there; type_is = r.type_is }
    by (import.Memory a b c) e n rest h = let r = rest n h in record { entry = r.entry; there = ap (λ vs. slice_get vs n) (here (import.Memory a b c) e) ∙ r.there; type_is = r.type_is }
    by (import.Global a b) e n rest h = let r = rest n h in record { entry = r.entry; there = ap (λ vs. slice_get vs n) (here (import.Global a b) e) ∙ r.there; type_is = r.type_is }

-- they are as many as the imports of functions
filtered-count : (ws : List WasmImport) (is : List Import) → length ws ≡ length is → length (functions_among ws) ≡ length (imports_of a_function ws is)
filtered-count [] is e = refl
filtered-count (w ∷ ws) [] e = absurd (omega arith)
filtered-count (w ∷ ws) (i ∷ is) e = by (is_of a_function w) (filtered-count ws is (omega arith))
  where
    by : (b : Bool) → length (functions_among ws) ≡ length (imports_of a_function ws is) → length (cond b (w ∷ functions_among ws) (functions_among ws)) ≡ length (cond b (i ∷ imports_of a_function ws is) (imports_of a_function ws is))
    by true h = omega (arith, h)
    by false h = h

filtered-grown : {ws vs : List WasmImport} → Grows ws vs → Grows (functions_among ws) (functions_among vs)
filtered-grown {ws} {vs} g = record { more = functions_among g.more; is = ap functions_among g.is ∙ filter-append (is_of a_function) ws g.more }

-- ---- a start-call

-- An import that has a number and a type is a call of this type there.
pub call-typed : (s : ModuleSoFar) (i : Import) (n : ℕ) (ty : FuncType) → HasImport s i n ty.params ty.results → IsCallTyped (module_of s) s.imports n i ty
call-typed s i n ty h =
    let x = function-entry s.section n h.type_at h.imported in
    record {
      origin = x.entry.module;
      name = x.entry.name;
      named = record { is_what = h.there; import = x.entry; there = x.there; named = record { is_from = refl; is_named = refl; is_typed = ap (imported_type s.types) x.type_is ∙ h.type_is } };
    }

-- ---- a prepare-call

-- The last import, where it is a function, has the number of the functions before it.
last-there : (s : ModuleSoFar) (w : WasmImport) → IsEven s → is_of a_function w ≡ true → slice_get (functions_among (s.section ++ w ∷ [])) (length (functions_of s)) ≡ Some w
last-there s w even is =
    let only : functions_among (w ∷ []) ≡ w ∷ [] = ap (λ b. cond b (w ∷ []) []) is in
    let all : functions_among (s.section ++ w ∷ []) ≡ functions_among s.section ++ w ∷ [] = filter-append (is_of a_function) s.section (w ∷ []) ∙ ap (λ vs. functions_among s.section ++ vs) only in
    (λ k. slice_get (all k) (sym (filtered-count s.section s.imports even) k)) ∙ get-last (functions_among s.section) w

-- types alone come with a type
functions-typed : {old new : ModuleSoFar} {ty : FuncType} → HasType old new ty → functions_of new ≡ functions_of old
functions-typed (inl same) = ap functions_of same
functions-typed (inr anew) = ap functions_of anew.1

prepare-there : (old new : ModuleSoFar) (name : List ℕ) (m : Option (Id Memories)) (params : List ValType) (place : ℕ) → IsEven old → (p : IsPrepareCallImported old new name m params place)
    → slice_get (functions_among new.section) place ≡ Some (import_as (codes "sync") (prepare_call_name name) (import.Func p.ty))
prepare-there old new name m params place even p =
    let w : WasmImport = import_as (codes "sync") (prepare_call_name name) (import.Func p.ty) in
    let number : place ≡ length (functions_of p.typed) = p.place_is ∙ ap length (sym (functions-typed p.types)) in
    ap (λ (s : ModuleSoFar). slice_get (functions_among s.section) place) p.is_new ∙ ap (slice_get (functions_among (p.typed.section ++ w ∷ []))) number
    ∙ last-there p.typed w (even_type p.types even) refl

-- In a later module it is that adapter's prepare-call.
pub prepare-named : (old new s : ModuleSoFar) (name : List ℕ) (m : Option (Id Memories)) (params : List ValType) (place : ℕ) → IsEven old → Extended new s → (p : IsPrepareCallImported old new name m params place)
    → IsCallNamed (module_of s) s.imports place (known.PrepareCall p.memory) (codes "sync") (prepare_call_name name) (prepare_call_type params)
prepare-named old new s name m params place even later p =
    let there = prepare-there old new name m params place even p in
    let ty_there : slice_get new.types p.ty ≡ Some (prepare_call_type params) = ap (λ (v : ModuleSoFar). slice_get v.types p.ty) p.is_new ∙ p.ty_there in
    record {
      is_what = grown_get later.functions place _ p.has.there;
      import = import_as (codes "sync") (prepare_call_name name) (import.Func p.ty);
      there = grown_get (filtered-grown later.section) place _ there;
      named = record { is_from = refl; is_named = refl; is_typed = grown_get later.types p.ty _ ty_there };
    }

-- ---- the calls of an adapter

even-with : (s : ModuleSoFar) (w : WasmImport) (i : Import) → IsEven s → IsEven (with_import s w i)
even-with s w i even = omega (arith, even, length-append s.section (w ∷ []), length-append s.imports (i ∷ []))

module _ {d : AdapterData} {lower : Signature} {start return : ℕ} {old new : ModuleSoFar} {e : EntryPlaces} (c : ImportsCalls d lower start return old new e) (a : LinkedAdapter) (lift : NamesLift old d a) where
  pub starts-callback : c.starts.callback ≡ a.lift.callback
  starts-callback = function-unique old d.lift.options.callback c.starts.callback a.lift.callback c.starts.callback_is lift.callback

  pub starts-post-return : c.starts.post_return ≡ a.lift.post_return
  starts-post-return = function-unique old d.lift.post_return c.starts.post_return a.lift.post_return c.starts.post_return_is lift.post_return

  pub prepares-memory : c.prepares.memory ≡ def_of_memory (options_of a.lift)
  prepares-memory = memory-unique c.between d.lift.options.linear.memory c.prepares.memory (def_of_memory (options_of a.lift)) c.prepares.memory_is (lift-later c.started d a lift).memory

  -- the start-call is imported anew, or was before
  even-started : IsEven old → IsEven c.between
  even-started even = elim c.starts.step [
    | inl there ↦ subst IsEven (sym there.0) (even_type c.starts.types even)
    | inr anew ↦ subst IsEven (sym anew.0) (even-with c.starts.typed _ _ (even_type c.starts.types even))
  ]

  module _ (s : ModuleSoFar) (later : Extended new s) where
    pub start-is : IsCallTyped (module_of s) s.imports e.start_call (known.StartCall a.lift.callback a.lift.post_return) (start_call_type lower.results)
    start-is =
        let call : known.StartCall c.starts.callback c.starts.post_return ≡ known.StartCall a.lift.callback a.lift.post_return = λ k. known.StartCall (starts-callback k) (starts-post-return k) in
        subst (λ i. IsCallTyped (module_of s) s.imports e.start_call i (start_call_type lower.results)) call
        (call-typed s _ e.start_call (start_call_type lower.results) (later_import (extended_on c.prepared later) c.starts.has))

    pub prepare-is : IsEven old → IsCallNamed (module_of s) s.imports e.prepare_call (known.PrepareCall (def_of_memory (options_of a.lift))) (codes "sync") (prepare_call_name d.name) (prepare_call_type lower.params)
    prepare-is even =
        subst (λ o. IsCallNamed (module_of s) s.imports e.prepare_call (known.PrepareCall o) (codes "sync") (prepare_call_name d.name) (prepare_call_type lower.params)) prepares-memory
        (prepare-named c.between new s d.name d.lift.options.linear.memory lower.params e.prepare_call (even-started even) later c.prepares)

-- ---- the imports stand beside what they are, up to there

even-put : {name : List ℕ} {old new : ModuleSoFar} {f : WasmFunc} → PutsFunction name old new f → IsEven old → IsEven new
even-put x even = subst IsEven (sym x.is_last) (even_all x.brought.called _ _ x.brought.imported (even_type x.declares even))

pub even-returned : {Has : Having} {t : Tables} {d : AdapterData} {debug concurrency : Bool} {old new : ModuleSoFar} (c : CompiledAsync Has t d debug concurrency old new) → IsEven old → IsEven c.entry.declared
even-returned c even = even_type c.entry.declares (even-put c.return.puts (even-put c.start.puts even))
