-- Whether an item is among the imports: a start-call is found by its type too, and a prepare-call never is.
use Rattle.std.proofs.Common.{◌≡◌, ℕ, inl, inr, true, List, [], Option, Some, None, Contains, codes, refl, sym, subst, ap, ◌∙◌, arith, length, map, slice_get}
use Rattle.std.proofs.lemmas.List.{length-map}
use Rattle.std.proofs.lemmas.Option.{slice_get_within}
use Rattle.fact_entity.specs.declared.id.Id.{Id}
use Rattle.fact_entity.specs.declared.table.Funcs.{Funcs}
use Rattle.fact_entity.specs.declared.table.Memories.{Memories}
use Rattle.fact_wasm.specs.declared.module.ImportType.TheVariants as import_type
use Rattle.fact_wasm.specs.declared.module.WasmImport.{WasmImport}
use Rattle.fact_wasm.specs.declared.types.FuncType.{FuncType}
use Rattle.fact_wasm.specs.declared.types.ValType.{ValType}
use Rattle.fact_machine.specs.Machine.{func_import}
use Rattle.fact_types.specs.declared.outside.CoreDef.{CoreDef}
use Rattle.fact_types.specs.declared.import.Import.{Import}
use Rattle.fact_types.specs.declared.import.Import.TheVariants as known
use Rattle.fact_types.proofs.ShapeLaws.{same_some}
use Rattle.fact_emit.specs.declared.imported.ImportedItem.{ImportedItem}
use Rattle.fact_emit.specs.declared.imported.ImportedItem.TheVariants as item
use Rattle.fact_emit.specs.declared.imported.PrepareCallItem.{PrepareCallItem}
use Rattle.fact_emit.specs.declared.imported.RuntimeFunction.{RuntimeFunction}
use Rattle.fact_emit.specs.declared.imported.StartCallItem.{StartCallItem}
use Rattle.fact_emit.specs.declared.task_calls.StartCall.{StartCall}
use Rattle.fact_emit.specs.declared.transcoders.Transcoder.{Transcoder}
use Rattle.fact_emit.specs.ImportSection.{Sort, a_function, imports_of, is_made_once}
use Rattle.fact_emit.specs.Imports.{HasImport}
use Rattle.fact_emit.specs.Runtime.{import_of}
use Rattle.fact_emit.specs.State.{IsIndexed, IsItemOf, IsPrepareItem, IsStartItem}
use Rattle.fact_emit.specs.States.{HasType, HaveMemoryWidths, IsImported, IsTranscoderImported, MayImport, ModuleSoFar, functions_of, import_as, known_as, memories_of, name_of_transcoder, type_of_item, type_of_transcoder}
use Rattle.fact_emit.specs.TaskCalls.{IsFunctionThere, IsItemImported, IsItemThere, IsMemoryThere, IsPrepareCallImported, IsStartCallImported}
use Rattle.fact_emit.specs.TaskTypes.{prepare_call_name, prepare_call_type, start_call_name, start_call_type}
use Rattle.fact_emit.proofs.ExactItems.{known-once, runtime-made-once, runtime-no-start}
use Rattle.fact_emit.proofs.ImportLists.{get-map, get-there, there-get, unmap}

-- an item that stands in its list
pub known-there : (is : List Import) (xs : List ImportedItem) (x : ImportedItem) (k : ℕ) → is ≡ map known_as xs → slice_get xs k ≡ Some x → slice_get is k ≡ Some (known_as x)
known-there is xs x k e at = ap (λ ys. slice_get ys k) e ∙ get-map known_as xs k x at

-- an item that does not stand in its list
pub absent-known : (is : List Import) (xs : List ImportedItem) (x : ImportedItem) → is ≡ map known_as xs → is_made_once (known_as x) ≡ true → (Contains xs x → ⊥) → Contains is (known_as x) → ⊥
absent-known is xs x e made absent c =
    let at = get-there is (known_as x) c in
    let y = unmap known_as xs at.0 (known_as x) (ap (λ ys. slice_get ys at.0) (sym e) ∙ at.1) in
    absent (there-get xs at.0 x (y.1 ∙ ap Some (sym (known-once x y.0 made (sym y.2)))))

-- ---- types

-- the function of one place has one type
pub one-type : {s : ModuleSoFar} {i j : Import} {n : ℕ} {ps rs qs ss : List ValType} → HasImport s i n ps rs → HasImport s j n qs ss → (ps ≡ qs) × (rs ≡ ss)
one-type {s} {n = n} a b =
    let at = same_some (func_import s.section n) a.type_at b.type_at a.imported b.imported in
    let ty = same_some (slice_get s.types a.type_at) _ _ a.type_is (ap (slice_get s.types) at ∙ b.type_is) in
    (ap (λ (t : FuncType). t.params) ty, ap (λ (t : FuncType). t.results) ty)

module _ (s : ModuleSoFar) (gs ms fs : List ImportedItem) (h : IsIndexed s gs ms fs) where
  -- ---- start-calls

  pub record StartThere (callback post_return : Option CoreDef) (n : ℕ) (params results : List ValType) : Type 0 where
    pub call : StartCallItem
    pub at : slice_get fs n ≡ Some (item.StartCall call)
    pub callback_is : call.callback ≡ callback
    pub post_return_is : call.post_return ≡ post_return
    pub params_are : params ≡ (start_call_type call.results).params
    pub results_are : results ≡ call.results

  -- a start-call that is imported is an item of this type
  pub start-there : (callback post_return : Option CoreDef) (n : ℕ) (params results : List ValType) → HasImport s (known.StartCall callback post_return) n params results → StartThere callback post_return n params results
  start-there callback post_return n params results has =
      let y = unmap known_as fs n _ (ap (λ l. slice_get l n) (sym (h.lists a_function)) ∙ has.there) in go y.0 y.1 y.2
    where
      go : (x : ImportedItem) → slice_get fs n ≡ Some x → known_as x ≡ known.StartCall callback post_return → StartThere callback post_return n params results
      go (item.StartCall c) at is =
          let types = one-type has (h.typed n (item.StartCall c) (start_call_type c.results) refl at) in
          record { call = c; at = at; callback_is = cc; post_return_is = cc; params_are = types.0; results_are = types.1 }
      go (item.Runtime f) at is = absurd (runtime-no-start f callback post_return is)
      go (item.Def d) at is = cc
      go (item.Transcoder t) at is = cc
      go (item.PrepareCall c) at is = cc

  -- ---- functions

  pub item-there : (x : ImportedItem) (n : ℕ) → ((c : PrepareCallItem) → x ≡ item.PrepareCall c → c.place ≡ length (functions_of s)) → slice_get fs n ≡ Some x → IsItemThere s a_function x
  item-there (item.Def d) n placed at = there-get _ n _ (known-there _ fs (item.Def d) n (h.lists a_function) at)
  item-there (item.Runtime f) n placed at = there-get _ n _ (known-there _ fs (item.Runtime f) n (h.lists a_function) at)
  item-there (item.Transcoder t) n placed at = there-get _ n _ (known-there _ fs (item.Transcoder t) n (h.lists a_function) at)
  item-there (item.StartCall c) n placed at = record { place = n; has = h.typed n (item.StartCall c) (start_call_type c.results) refl at }
  item-there (item.PrepareCall c) n placed at = absurd (omega (arith, placed c refl, h.prepared n c at, slice_get_within fs n (item.PrepareCall c) at, length-map fs known_as, ap length (h.lists a_function)))

  pub item-absent : (x : ImportedItem) → (Contains fs x → ⊥) → IsItemThere s a_function x → ⊥
  item-absent (item.Def d) absent c = absent-known _ fs (item.Def d) (h.lists a_function) refl absent c
  item-absent (item.Runtime f) absent c = absent-known _ fs (item.Runtime f) (h.lists a_function) (runtime-made-once f) absent c
  item-absent (item.Transcoder t) absent c = absent-known _ fs (item.Transcoder t) (h.lists a_function) refl absent c
  item-absent (item.StartCall c) absent has =
      let found = start-there c.callback c.post_return has.place _ c.results has.has in
      let same : found.call ≡ c = λ k. record { callback = found.callback_is k; post_return = found.post_return_is k; results = (sym found.results_are) k } in
      absent (there-get fs has.place (item.StartCall c) (found.at ∙ ap (λ d. Some (item.StartCall d)) same))
  item-absent (item.PrepareCall c) absent none = absurd none

-- ---- memories and globals, which have no type

pub untyped-made-once : (x : ImportedItem) → type_of_item x ≡ None → is_made_once (known_as x) ≡ true
untyped-made-once (item.Def d) e = refl
untyped-made-once (item.Runtime f) e = cc
untyped-made-once (item.Transcoder t) e = cc
untyped-made-once (item.StartCall c) e = cc
untyped-made-once (item.PrepareCall c) e = cc

pub untyped-there : (s : ModuleSoFar) (sort : Sort) (x : ImportedItem) → type_of_item x ≡ None → Contains (imports_of sort s.section s.imports) (known_as x) → IsItemThere s sort x
untyped-there s sort (item.Def d) e c = c
untyped-there s sort (item.Runtime f) e c = c
untyped-there s sort (item.Transcoder t) e c = c
untyped-there s sort (item.StartCall d) e c = cc
untyped-there s sort (item.PrepareCall d) e c = cc

pub untyped-found : (s : ModuleSoFar) (sort : Sort) (x : ImportedItem) → type_of_item x ≡ None → IsItemThere s sort x → Contains (imports_of sort s.section s.imports) (known_as x)
untyped-found s sort (item.Def d) e c = c
untyped-found s sort (item.Runtime f) e c = c
untyped-found s sort (item.Transcoder t) e c = c
untyped-found s sort (item.StartCall d) e c = cc
untyped-found s sort (item.PrepareCall d) e c = cc

-- ---- which items may be imported, and what comes of it

pub transcoder-may : {s t : ModuleSoFar} (x : Transcoder) (y : ImportedItem) (k : ℕ) → IsItemOf x s y → slice_get t.types k ≡ Some (type_of_transcoder x) → MayImport t y (import_type.Func k)
transcoder-may x y k is at = rw is.is (record { typed = λ f e. at ∙ e; placed = λ c e. cc })

pub start-may : {s : ModuleSoFar} (c : StartCall) (results : List ValType) (y : ImportedItem) (k : ℕ) → IsStartItem s c results y → slice_get s.types k ≡ Some (start_call_type results) → MayImport s y (import_type.Func k)
start-may c results (item.StartCall x) k is at = record { typed = λ f e. at ∙ ap (λ rs. Some (start_call_type rs)) (sym is.2) ∙ e; placed = λ d e. cc }
start-may c results (item.Def d) k is at = absurd is
start-may c results (item.Runtime f) k is at = absurd is
start-may c results (item.Transcoder t) k is at = absurd is
start-may c results (item.PrepareCall d) k is at = absurd is

pub prepare-may : {s : ModuleSoFar} (m : Option (Id Memories)) (params : List ValType) (y : ImportedItem) (k : ℕ) → IsPrepareItem s m params y → slice_get s.types k ≡ Some (prepare_call_type params) → MayImport s y (import_type.Func k)
prepare-may m params (item.PrepareCall x) k is at = record {
  typed = λ f e. at ∙ ap (λ ps. Some (prepare_call_type ps)) (sym is.1) ∙ e;
  placed = λ c e. ap (λ (d : PrepareCallItem). d.place) (same_prepare e) ∙ is.2;
}
  where
    same_prepare : {x c : PrepareCallItem} → item.PrepareCall x ≡ item.PrepareCall c → c ≡ x
    same_prepare e = cc
prepare-may m params (item.Def d) k is at = absurd is
prepare-may m params (item.Runtime f) k is at = absurd is
prepare-may m params (item.Transcoder t) k is at = absurd is
prepare-may m params (item.StartCall c) k is at = absurd is

-- types keep imports
type_functions : {old typed : ModuleSoFar} {f : FuncType} → HasType old typed f → functions_of typed ≡ functions_of old
type_functions (inl same) = ap functions_of same
type_functions (inr more) = ap functions_of more.1

type_memories : {old typed : ModuleSoFar} {f : FuncType} → HasType old typed f → memories_of typed ≡ memories_of old
type_memories (inl same) = ap memories_of same
type_memories (inr more) = ap memories_of more.1

function_before : (s t : ModuleSoFar) → functions_of t ≡ functions_of s → (f : Option (Id Funcs)) (d : Option CoreDef) → IsFunctionThere t f d → IsFunctionThere s f d
function_before s t same None None h = tt
function_before s t same (Some f) (Some d) h = ap (λ is. slice_get is f.number) (sym same) ∙ h
function_before s t same None (Some d) h = absurd h
function_before s t same (Some f) None h = absurd h

memory_before : (s t : ModuleSoFar) → memories_of t ≡ memories_of s → (m : Option (Id Memories)) (d : Option CoreDef) → IsMemoryThere t m d → IsMemoryThere s m d
memory_before s t same None None h = tt
memory_before s t same (Some m) (Some d) h = ap (λ is. slice_get is m.number) (sym same) ∙ h
memory_before s t same None (Some d) h = absurd h
memory_before s t same (Some m) None h = absurd h

module _ {old typed new : ModuleSoFar} (adapter name : List ℕ) (k place : ℕ) where
  -- an item of a start-call was imported
  pub start-imported : (c : StartCall) (results : List ValType) (y : ImportedItem) → name ≡ start_call_name adapter → HasType old typed (start_call_type results) → slice_get typed.types k ≡ Some (start_call_type results) → IsStartItem typed c results y
      → IsItemImported typed new (import_as (codes "async") name (import_type.Func k)) y place
      → ((f : FuncType) → type_of_item y ≡ Some f → HasImport new (known_as y) place f.params f.results)
      → IsStartCallImported old new adapter c results place
  start-imported c results (item.StartCall x) named types at is imported has = record {
    callback = x.callback;
    post_return = x.post_return;
    callback_is = function_before old typed (type_functions types) c.callback x.callback is.0;
    post_return_is = function_before old typed (type_functions types) c.post_return x.post_return is.1;
    ty = k;
    typed = typed;
    types = types;
    ty_there = at;
    has = subst (λ (rs : List ValType). HasImport new (known.StartCall x.callback x.post_return) place (start_call_type rs).params rs) is.2 (has (start_call_type x.results) refl);
    step = rw (← named, ← is.2) imported.step;
  }
  start-imported c results (item.Def d) named types at is imported has = absurd is
  start-imported c results (item.Runtime f) named types at is imported has = absurd is
  start-imported c results (item.Transcoder t) named types at is imported has = absurd is
  start-imported c results (item.PrepareCall d) named types at is imported has = absurd is

  -- one of a prepare-call is new
  pub prepare-imported : (m : Option (Id Memories)) (params : List ValType) (y : ImportedItem) → name ≡ prepare_call_name adapter → HasType old typed (prepare_call_type params) → slice_get typed.types k ≡ Some (prepare_call_type params) → IsPrepareItem typed m params y
      → IsItemImported typed new (import_as (codes "sync") name (import_type.Func k)) y place
      → ((f : FuncType) → type_of_item y ≡ Some f → HasImport new (known_as y) place f.params f.results)
      → IsPrepareCallImported old new adapter m params place
  prepare-imported m params (item.PrepareCall x) named types at is imported has = record {
    memory = x.memory;
    memory_is = memory_before old typed (type_memories types) m x.memory is.0;
    ty = k;
    typed = typed;
    types = types;
    ty_there = at;
    is_new = elim imported.step [ inl old ↦ absurd old.1 | inr more ↦ rw (← named) more.0 ];
    place_is = imported.last (λ none. none) ∙ ap length (type_functions types);
    has = subst (λ (ps : List ValType). HasImport new (known.PrepareCall x.memory) place (prepare_call_type ps).params []) is.1 (has (prepare_call_type x.params) refl);
  }
  prepare-imported m params (item.Def d) named types at is imported has = absurd is
  prepare-imported m params (item.Runtime f) named types at is imported has = absurd is
  prepare-imported m params (item.Transcoder t) named types at is imported has = absurd is
  prepare-imported m params (item.StartCall c) named types at is imported has = absurd is

-- ---- the definitions of places

pub no-function-place : (s : ModuleSoFar) (f : Option (Id Funcs)) → ((g : Id Funcs) → f ≡ Some g → ⊥) → IsFunctionThere s f None
no-function-place s None none = tt
no-function-place s (Some f) none = absurd (none f refl)

pub function-at-place : (s : ModuleSoFar) (f : Option (Id Funcs)) {g : Id Funcs} {d e : CoreDef} → f ≡ Some g → slice_get (functions_of s) g.number ≡ Some (known.CoreDef d) → e ≡ d → IsFunctionThere s f (Some e)
function-at-place s f is at same = rw (is, same) at

pub no-memory-place : (s : ModuleSoFar) (m : Option (Id Memories)) → ((n : Id Memories) → m ≡ Some n → ⊥) → IsMemoryThere s m None
no-memory-place s None none = tt
no-memory-place s (Some m) none = absurd (none m refl)

pub memory-at-place : (s : ModuleSoFar) (m : Option (Id Memories)) {n : Id Memories} {d e : CoreDef} → m ≡ Some n → slice_get (memories_of s) n.number ≡ Some (known.CoreDef d) → e ≡ d → IsMemoryThere s m (Some e)
memory-at-place s m is at same = rw (is, same) at

-- ---- what a core definition, a function of the runtime and a transcoder are imported as

pub def-imported : {old new : ModuleSoFar} {w : WasmImport} {place : ℕ} (d e : CoreDef) → d ≡ e → IsItemImported old new w (item.Def d) place → IsImported old new w (known.CoreDef e) place
def-imported {old} {new} {w} {place} d e same h = subst (λ x. IsImported old new w (known.CoreDef x) place) same (record { there = h.there; step = h.step })

pub runtime-imported : {old new : ModuleSoFar} {v w : WasmImport} {place : ℕ} (f : RuntimeFunction) → v ≡ w → IsItemImported old new v (item.Runtime f) place → IsImported old new w (import_of f) place
runtime-imported {old} {new} {place = place} f same h = subst (λ u. IsImported old new u (import_of f) place) same (record { there = h.there; step = h.step })

pub transcoder-imported : {old typed new : ModuleSoFar} (name : List ℕ) (k place : ℕ) (t : Transcoder) (y : ImportedItem) → name ≡ name_of_transcoder t → HasType old typed (type_of_transcoder t)
    → slice_get typed.types k ≡ Some (type_of_transcoder t) → IsItemOf t typed y → HaveMemoryWidths t old → IsItemImported typed new (import_as (codes "transcode") name (import_type.Func k)) y place → IsTranscoderImported old new t place
transcoder-imported {old} {typed} {new} name k place t y named types at is widths imported =
    let h = subst (λ z. IsItemImported typed new (import_as (codes "transcode") name (import_type.Func k)) z place) is.is imported in
    record {
      from = is.from;
      to = is.to;
      from_there = ap (λ ms. slice_get ms t.from_memory.number) (sym (type_memories types)) ∙ is.from_there;
      to_there = ap (λ ms. slice_get ms t.to_memory.number) (sym (type_memories types)) ∙ is.to_there;
      widths = widths;
      ty = k;
      typed = typed;
      types = types;
      ty_there = at;
      imported = subst (λ n. IsImported typed new (import_as (codes "transcode") n (import_type.Func k)) (known.Transcode t.op is.from t.from_memory64 is.to t.to_memory64) place) named (record { there = h.there; step = h.step });
    }
