-- A module that is being made lists the two calls of one more async adapter, once they are imported.
use Rattle.std.proofs.Common.{◌≡◌, ℕ, true, List, [], ◌∷◌, ◌++◌, Option, Some, None, codes, refl, sym, ap, ◌∙◌, subst, slice_get, inl, inr}
use Rattle.std.specs.Prelude.{filter}
use Rattle.std.specs.List.{AllZip}
use Rattle.std.proofs.lemmas.Bool.{false≢true}
use Rattle.fact_entity.specs.declared.id.Id.{Id}
use Rattle.fact_entity.specs.declared.table.Funcs.{Funcs}
use Rattle.fact_entity.specs.declared.table.Memories.{Memories}
use Rattle.fact_wasm.specs.declared.types.FuncType.{FuncType}
use Rattle.fact_wasm.specs.declared.types.ValType.{ValType}
use Rattle.fact_wasm.specs.declared.module.ImportType.TheVariants as import
use Rattle.fact_wasm.specs.declared.module.WasmImport.{WasmImport}
use Rattle.fact_types.specs.Adapters.{LinkedAdapter}
use Rattle.fact_types.specs.declared.outside.CoreDef.{CoreDef}
use Rattle.fact_types.specs.declared.import.Import.{Import}
use Rattle.fact_types.specs.declared.import.Import.TheVariants as known
use Rattle.fact_actions.specs.Adapters.{def_of_memory}
use Rattle.fact_actions.specs.Sides.{options_of}
use Rattle.fact_emit.specs.declared.task_calls.StartCall.{StartCall}
use Rattle.fact_emit.specs.ImportSection.{AreStartCallsNamed, HasStartOf, IsPrepareNamed, Mention, imported_type, is_awaited, prepares_in}
use Rattle.fact_emit.specs.Listed.{ListsMentions}
use Rattle.fact_emit.specs.States.{HasType, ModuleSoFar, import_as, with_import}
use Rattle.fact_emit.specs.TaskCalls.{HasStartCall, IsFunctionThere, IsMemoryThere, IsPrepareCallImported, IsStartCallImported}
use Rattle.fact_emit.specs.TaskTypes.{prepare_call_name, start_call_name, start_call_type}
use Rattle.fact_emit.proofs.ListedLaws.{ListsOthers, listed-of, listed_type, others-even, others-function, others-of, others-typed}
use Rattle.fact_emit.proofs.SectionPlaces.{numbered_at, stands_in}
use Rattle.fact_emit.proofs.StateLaws.{type-number}
use Rattle.fact_emit.proofs.TaskCallsNamed.{prepares-one, prepares-other, prepares-typed, prepares-with, starts-behind, starts-new, starts-typed, starts-with}

-- ---- the definition of a place

pub function-unique : (s : ModuleSoFar) (f : Option (Id Funcs)) (d e : Option CoreDef) → IsFunctionThere s f d → IsFunctionThere s f e → d ≡ e
function-unique s None None None h g = refl
function-unique s None (Some d) e h g = absurd h
function-unique s None None (Some e) h g = absurd g
function-unique s (Some f) None e h g = absurd h
function-unique s (Some f) (Some d) None h g = absurd g
function-unique s (Some f) (Some d) (Some e) h g =
    let same : Some (known.CoreDef d) ≡ Some (known.CoreDef e) = sym h ∙ g in
    let is : d ≡ e = cc in
    ap Some is

pub memory-unique : (s : ModuleSoFar) (m : Option (Id Memories)) (d e : Option CoreDef) → IsMemoryThere s m d → IsMemoryThere s m e → d ≡ e
memory-unique s None None None h g = refl
memory-unique s None (Some d) e h g = absurd h
memory-unique s None None (Some e) h g = absurd g
memory-unique s (Some m) None e h g = absurd h
memory-unique s (Some m) (Some d) None h g = absurd g
memory-unique s (Some m) (Some d) (Some e) h g =
    let same : Some (known.CoreDef d) ≡ Some (known.CoreDef e) = sym h ∙ g in
    let is : d ≡ e = cc in
    ap Some is

-- ---- a start-call by its number, and by its place in the section

pub start-of-call : (s : ModuleSoFar) (a : LinkedAdapter) → HasStartCall s a.lift.callback a.lift.post_return a.lower.core_type.results → HasStartOf s.types s.section s.imports a
start-of-call s a h =
    let x = stands_in s.section s.imports h.place (known.StartCall a.lift.callback a.lift.post_return) h.has.type_at h.has.there h.has.imported in
    record { place = x.position; import = x.entry; there = x.entry_there; is_call = x.import_there; typed = ap (imported_type s.types) x.type_is ∙ h.has.type_is }

pub call-of-place : (s : ModuleSoFar) (callback post_return : Option CoreDef) (results : List ValType) (k : ℕ) (w : WasmImport) → slice_get s.section k ≡ Some w → slice_get s.imports k ≡ Some (known.StartCall callback post_return)
    → imported_type s.types w.ty ≡ Some (start_call_type results) → HasStartCall s callback post_return results
call-of-place s callback post_return results k w at is_at typed =
    let (t, is, found) = type-number s w.ty (start_call_type results) typed in
    let n = numbered_at s.section s.imports k w (known.StartCall callback post_return) t at is_at is in
    record { place = n.number; has = record { there = n.there; type_at = t; imported = n.imported; type_is = found } }

-- ---- between the two calls

-- The start-call of one more adapter is there, and its prepare-call is not yet.
record HasStarted (s : ModuleSoFar) (ms : List Mention) (adapters : List LinkedAdapter) (a : LinkedAdapter) : Type 0 where
  others : ListsOthers s ms
  starts : AreStartCallsNamed s.types (adapters ++ a ∷ []) s.section s.imports
  prepares : AllZip (IsPrepareNamed s.types) (prepares_in s.section s.imports) (filter is_awaited adapters)

started_typed : (old new : ModuleSoFar) (ms : List Mention) (adapters : List LinkedAdapter) (a : LinkedAdapter) (ty : FuncType) → HasType old new ty → HasStarted old ms adapters a → HasStarted new ms adapters a
started_typed old new ms adapters a ty (inl there) h = subst (λ s. HasStarted s ms adapters a) (sym there) h
started_typed old new ms adapters a ty (inr anew) h = subst (λ s. HasStarted s ms adapters a) (sym anew.1) (record {
  others = others-typed old ms ty anew.0 h.others;
  starts = starts-typed old.types (ty ∷ []) (adapters ++ a ∷ []) old.section old.imports h.starts;
  prepares = prepares-typed old.types (ty ∷ []) (prepares_in old.section old.imports) (filter is_awaited adapters) h.prepares;
})

-- ---- both calls

module _ (s : ModuleSoFar) (ms : List Mention) (adapters : List LinkedAdapter) (a : LinkedAdapter) (h : ListsMentions s ms adapters) where
  -- its start-call was there
  start-found : HasStartCall s a.lift.callback a.lift.post_return a.lower.core_type.results → HasStarted s ms adapters a
  start-found found = record {
    others = others-of h;
    starts = starts-with s.types adapters s.section s.imports a (λ awaited. start-of-call s a found) h.task_calls.starts;
    prepares = h.task_calls.prepares;
  }

  -- it was not
  start-added : is_awaited a ≡ true → (ty : ℕ) → slice_get s.types ty ≡ Some (start_call_type a.lower.core_type.results) → (HasStartCall s a.lift.callback a.lift.post_return a.lower.core_type.results → ⊥)
      → HasStarted (with_import s (import_as (codes "async") (start_call_name a.name) (import.Func ty)) (known.StartCall a.lift.callback a.lift.post_return)) ms adapters a
  start-added awaited ty typed absent =
      let w : WasmImport = import_as (codes "async") (start_call_name a.name) (import.Func ty) in
      let call : Import = known.StartCall a.lift.callback a.lift.post_return in
      let even = others-even (others-of h) in
      record {
        others = others-function s ms w call refl (λ made. absurd (false≢true made)) (a.lower.core_type.results, typed) tt (others-of h);
        starts = starts-new s.types adapters s.section s.imports a w even awaited refl refl typed (λ k v at is_at same. absent (call-of-place s a.lift.callback a.lift.post_return a.lower.core_type.results k v at is_at same)) h.task_calls.starts;
        prepares = subst (λ xs. AllZip (IsPrepareNamed s.types) xs (filter is_awaited adapters)) (sym (prepares-other s.section s.imports w call even refl)) h.task_calls.prepares;
      }

module _ (old started : ModuleSoFar) (ms : List Mention) (adapters : List LinkedAdapter) (a : LinkedAdapter) (awaited : is_awaited a ≡ true) (c : StartCall) (start : ℕ)
    (s : IsStartCallImported old started a.name c a.lower.core_type.results start) (callback_is : s.callback ≡ a.lift.callback) (post_return_is : s.post_return ≡ a.lift.post_return) (h : ListsMentions old ms adapters) where
  before : ListsMentions s.typed ms adapters
  before = listed_type old s.typed ms adapters _ s.types h

  has_started : HasStarted started ms adapters a
  has_started = elim s.step [
    | inl found ↦ subst (λ t. HasStarted t ms adapters a) (sym found.0) (start-found s.typed ms adapters a before (rw (← callback_is, ← post_return_is) found.1))
    | inr anew ↦ subst (λ t. HasStarted t ms adapters a) (sym anew.0)
        (rw (callback_is, post_return_is) (start-added s.typed ms adapters a before awaited s.ty s.ty_there (rw (← callback_is, ← post_return_is) anew.1)))
  ]

  pub listed_calls : (new : ModuleSoFar) (m : Option (Id Memories)) (prepare : ℕ) (p : IsPrepareCallImported started new a.name m a.lower.core_type.params prepare) → p.memory ≡ def_of_memory (options_of a.lift)
      → ListsMentions new ms (adapters ++ a ∷ [])
  listed_calls new m prepare p memory_is =
      let x = started_typed started p.typed ms adapters a _ p.types has_started in
      let w : WasmImport = import_as (codes "sync") (prepare_call_name a.name) (import.Func p.ty) in
      let call : Import = known.PrepareCall p.memory in
      let even = others-even x.others in
      subst (λ t. ListsMentions t ms (adapters ++ a ∷ [])) (sym p.is_new)
      (listed-of (others-function p.typed ms w call refl (λ made. absurd (false≢true made)) (a.lower.core_type.params, p.ty_there) tt x.others) (record {
        starts = starts-behind p.typed.types (adapters ++ a ∷ []) p.typed.section p.typed.imports w call even x.starts (λ callback post_return e. cc);
        prepares = subst (λ xs. AllZip (IsPrepareNamed p.typed.types) xs (filter is_awaited (adapters ++ a ∷ []))) (sym (prepares-one p.typed.section p.typed.imports w p.memory even))
            (prepares-with p.typed.types (prepares_in p.typed.section p.typed.imports) adapters a (w, p.memory) awaited (record { memory = memory_is; named = record { is_from = refl; is_named = refl; is_typed = p.ty_there } }) x.prepares);
      }))
