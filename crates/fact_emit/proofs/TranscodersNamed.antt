-- Transcoders are named by the places of memories that are imported before them, whatever is imported behind them.
use Rattle.std.proofs.Common.{◌≡◌, ◌≤◌, ℕ, Bool, List, [], ◌∷◌, ◌++◌, Some, refl, sym, ap, ◌∙◌, subst, arith, length, slice_get, take, take_all, ◌⊎◌, inl, inr}
use Rattle.std.specs.List.{filter_map}
use Rattle.std.proofs.lemmas.List.{take-append-le}
use Rattle.std.proofs.lemmas.List.Elements.{filter_map-append}
use Rattle.std.specs.Prelude.{codes}
use Rattle.std.proofs.lemmas.Option.{slice_get_within}
use Rattle.fact_wasm.specs.declared.types.FuncType.{FuncType}
use Rattle.fact_wasm.specs.declared.module.ImportType.TheVariants as import
use Rattle.fact_wasm.specs.declared.module.WasmImport.{WasmImport}
use Rattle.fact_machine.specs.Typed.{type_of_memory}
use Rattle.fact_machine.proofs.Tests.{get_append}
use Rattle.fact_types.specs.declared.import.Import.{Import}
use Rattle.fact_types.specs.declared.import.Import.TheVariants as known
use Rattle.fact_emit.specs.declared.imported.RuntimeFunction.{RuntimeFunction}
use Rattle.fact_emit.specs.declared.imported.RuntimeFunction.TheVariants as runtime
use Rattle.fact_emit.specs.declared.transcoders.Transcoder.{Transcoder}
use Rattle.fact_emit.specs.ImportSection.{AreTranscodersNamed, HasMemoryWidth, IsNamedIfTranscoder, a_memory, imports_of}
use Rattle.fact_emit.specs.Runtime.{import_of}
use Rattle.fact_emit.specs.States.{HasType, IsTranscoderImported, ModuleSoFar, import_as, memories_of, name_of_transcoder}
use Rattle.fact_emit.proofs.ImportLists.{last-or-before}
use Rattle.fact_emit.proofs.Named.{function-more}

-- ---- one import

-- a memory keeps its width with more behind it
pub width-more : {ws : List WasmImport} {place : ℕ} {memory64 : Bool} (more : List WasmImport) → HasMemoryWidth ws place memory64 → HasMemoryWidth (ws ++ more) place memory64
width-more {ws} {place} more h = record {
  page = h.page;
  imported = ap (λ ks. slice_get ks place) (filter_map-append type_of_memory ws more) ∙ get_append (filter_map type_of_memory ws) (filter_map type_of_memory more) place _ h.imported;
}

module _ (types : List FuncType) (ws : List WasmImport) (memories : List Import) (w : WasmImport) where
  -- with more types
  named-typed : (more : List FuncType) (i : Import) → IsNamedIfTranscoder types ws memories w i → IsNamedIfTranscoder (types ++ more) ws memories w i
  named-typed more (known.Transcode o d v e x) h = record {
    from_place = h.from_place;
    to_place = h.to_place;
    from_there = h.from_there;
    to_there = h.to_there;
    from_wide = h.from_wide;
    to_wide = h.to_wide;
    is = function-more types more w _ _ _ h.is;
  }
  named-typed more (known.CoreDef d) h = tt
  named-typed more (known.Trap t) h = tt
  named-typed more known.ResourceTransferOwn h = tt
  named-typed more known.ResourceTransferBorrow h = tt
  named-typed more (known.PrepareCall m) h = tt
  named-typed more (known.StartCall c p) h = tt
  named-typed more known.FutureTransfer h = tt
  named-typed more known.StreamTransfer h = tt
  named-typed more known.ErrorContextTransfer h = tt
  named-typed more known.EnterSyncCall h = tt
  named-typed more known.ExitSyncCall h = tt
  named-typed more (known.UnsafeIntrinsic s) h = tt

  -- the other functions of the runtime are no transcoders
  pub runtime-as : (f : RuntimeFunction) → IsNamedIfTranscoder types ws memories w (import_of f)
  runtime-as (runtime.Trap t) = tt
  runtime-as runtime.ResourceTransferOwn = tt
  runtime-as runtime.ResourceTransferBorrow = tt
  runtime-as runtime.FutureTransfer = tt
  runtime-as runtime.StreamTransfer = tt
  runtime-as runtime.ErrorContextTransfer = tt
  runtime-as runtime.EnterSyncCall = tt
  runtime-as runtime.ExitSyncCall = tt
  runtime-as (runtime.UnsafeIntrinsic s) = tt

-- behind the same imports
pub named-same : (types : List FuncType) {vs ws : List WasmImport} {is js : List Import} (w : WasmImport) (i : Import) → vs ≡ ws → is ≡ js
    → IsNamedIfTranscoder types ws (imports_of a_memory ws js) w i → IsNamedIfTranscoder types vs (imports_of a_memory vs is) w i
named-same types {ws = ws} {is = is} w i e f h =
    subst (λ vs. IsNamedIfTranscoder types vs (imports_of a_memory vs is) w i) (sym e) (subst (λ js. IsNamedIfTranscoder types ws (imports_of a_memory ws js) w i) (sym f) h)

-- ---- all imports

-- behind those before a place
abbrev IsNamedAt : List FuncType → (k : ℕ) (ws : List WasmImport) (is : List Import) → WasmImport → Import → Type 0
IsNamedAt types k ws is w i = IsNamedIfTranscoder types (take k ws) (imports_of a_memory (take k ws) (take k is)) w i

pub transcoders-typed : (types more : List FuncType) (ws : List WasmImport) (is : List Import) → AreTranscodersNamed types ws is → AreTranscodersNamed (types ++ more) ws is
transcoders-typed types more ws is h = record { each = λ k w i at is_at. named-typed types (take k ws) _ w more i (h.each k w i at is_at) }

-- one more import, which is named by the memories before it
pub transcoders-push : (types : List FuncType) (ws : List WasmImport) (is : List Import) (w : WasmImport) (i : Import) → length ws ≡ length is
    → AreTranscodersNamed types ws is → IsNamedIfTranscoder types ws (imports_of a_memory ws is) w i → AreTranscodersNamed types (ws ++ w ∷ []) (is ++ i ∷ [])
transcoders-push types ws is w i even h n = record { each = λ k v j at is_at. here k v j (last-or-before ws w k v at) (last-or-before is i k j is_at) }
  where
    before : (k : ℕ) (v : WasmImport) (j : Import) → k ≤ length ws → IsNamedAt types k ws is v j → IsNamedAt types k (ws ++ w ∷ []) (is ++ i ∷ []) v j
    before k v j within m = named-same types v j (take-append-le k ws (w ∷ []) within) (take-append-le k is (i ∷ []) (omega (arith, within, even))) m

    last : (k : ℕ) → k ≡ length ws → IsNamedAt types k ws is w i
    last k e = named-same types w i (take_all k ws (omega (arith, e))) (take_all k is (omega (arith, e, even))) n

    here : (k : ℕ) (v : WasmImport) (j : Import) → (slice_get ws k ≡ Some v) ⊎ ((k ≡ length ws) × (w ≡ v)) → (slice_get is k ≡ Some j) ⊎ ((k ≡ length is) × (i ≡ j)) → IsNamedAt types k (ws ++ w ∷ []) (is ++ i ∷ []) v j
    here k v j (inl a) (inl b) = before k v j (omega (arith, slice_get_within ws k v a)) (h.each k v j a b)
    here k v j (inl a) (inr b) = absurd (omega (arith, b.0, even, slice_get_within ws k v a))
    here k v j (inr a) (inl b) = absurd (omega (arith, a.0, even, slice_get_within is k j b))
    here k v j (inr a) (inr b) = before k v j (omega (arith, a.0)) (subst (λ u. IsNamedAt types k ws is u j) a.1 (subst (IsNamedAt types k ws is w) b.1 (last k a.0)))

-- ---- a transcoder that is imported

pub memories_typed : {old new : ModuleSoFar} {ty : FuncType} → HasType old new ty → memories_of new ≡ memories_of old
memories_typed (inl same) = ap memories_of same
memories_typed (inr anew) = ap memories_of anew.1

section_typed : {old new : ModuleSoFar} {ty : FuncType} → HasType old new ty → new.section ≡ old.section
section_typed (inl same) = ap (λ (s : ModuleSoFar). s.section) same
section_typed (inr anew) = ap (λ (s : ModuleSoFar). s.section) anew.1

-- it is named by the places of its memories, and typed by their widths
pub transcoder-as : {old new : ModuleSoFar} {t : Transcoder} {place : ℕ} (x : IsTranscoderImported old new t place)
    → IsNamedIfTranscoder x.typed.types x.typed.section (memories_of x.typed) (import_as (codes "transcode") (name_of_transcoder t) (import.Func x.ty)) (known.Transcode t.op x.from t.from_memory64 x.to t.to_memory64)
transcoder-as {t = t} x = record {
  from_place = t.from_memory.number;
  to_place = t.to_memory.number;
  from_there = subst (λ memories. slice_get memories t.from_memory.number ≡ Some (known.CoreDef x.from)) (sym (memories_typed x.types)) x.from_there;
  to_there = subst (λ memories. slice_get memories t.to_memory.number ≡ Some (known.CoreDef x.to)) (sym (memories_typed x.types)) x.to_there;
  from_wide = subst (λ ws. HasMemoryWidth ws t.from_memory.number t.from_memory64) (sym (section_typed x.types)) x.widths.from;
  to_wide = subst (λ ws. HasMemoryWidth ws t.to_memory.number t.to_memory64) (sym (section_typed x.types)) x.widths.to;
  is = record { is_from = refl; is_named = refl; is_typed = x.ty_there };
}
