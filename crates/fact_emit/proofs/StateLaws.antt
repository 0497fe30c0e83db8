-- One more import of a kind, over the lists by which the imports are found.
use Rattle.std.proofs.Common.{◌≡◌, ℕ, Bool, true, false, ◌+◌, ◌<◌, ◌^◌, List, [], ◌∷◌, ◌++◌, Option, Some, None, Contains, refl, sym, ap, ◌∙◌, subst, arith, length, map, slice_get, length-append, append-nil, ◌⊎◌, inl, inr}
use Rattle.std.specs.Prelude.{Err, IfOk, IsFalse, IsTrue, Ok, OnOk, Result, cond, count_by, max, not}
use Rattle.std.specs.List.{AllByRecursion}
use Rattle.std.proofs.lemmas.List.{length-map}
use Rattle.std.proofs.lemmas.Option.{slice_get_within}
use Rattle.fact_wasm.specs.CoreTypes.{IsOnlyPlaceOfType}
use Rattle.fact_wasm.specs.declared.types.FuncType.{FuncType}
use Rattle.fact_wasm.specs.declared.types.ValType.{ValType}
use Rattle.fact_wasm.specs.declared.module.ImportType.{ImportType}
use Rattle.fact_wasm.specs.declared.module.ImportType.TheVariants as import
use Rattle.fact_wasm.specs.declared.module.WasmExport.{WasmExport}
use Rattle.fact_wasm.specs.declared.module.WasmFunc.{WasmFunc}
use Rattle.fact_wasm.specs.declared.module.WasmImport.{WasmImport}
use Rattle.fact_machine.specs.Trace.{Grows}
use Rattle.fact_types.specs.declared.outside.CoreDef.{CoreDef}
use Rattle.fact_types.specs.declared.import.Import.{Import}
use Rattle.fact_types.specs.declared.import.Import.TheVariants as known
use Rattle.fact_emit.specs.declared.helpers.Helper.{Helper}
use Rattle.fact_emit.specs.declared.imported.ImportedItem.{ImportedItem}
use Rattle.fact_emit.specs.declared.imported.ImportedItem.TheVariants as item
use Rattle.fact_emit.specs.declared.imported.PrepareCallItem.{PrepareCallItem}
use Rattle.fact_emit.specs.declared.imported.StartCallItem.{StartCallItem}
use Rattle.fact_emit.specs.declared.transcoders.Transcoder.{Transcoder}
use Rattle.fact_emit.specs.ImportSection.{Sort, a_function, a_memory, a_global, imports_of, imported_type, is_of, is_made_once, same_sort, sort_of}
use Rattle.fact_emit.specs.Imports.{AreOnce, Extended, HasImport, HasTranscoder, StandOnce}
use Rattle.fact_emit.specs.State.{IsAdded, IsIndexed, IsItemOf, IsKept, by_sort}
use Rattle.fact_emit.specs.TaskCalls.{IsItemImported, IsItemThere}
use Rattle.fact_emit.specs.TaskTypes.{start_call_type}
use Rattle.fact_emit.specs.States.{HasType, MayImport, ModuleSoFar, functions_of, known_as, memories_of, next_number, type_of_item, type_of_transcoder, with_import}
use Rattle.fact_emit.proofs.ImportLaws.{extended_none, grown_get, grows_none, later_import}
use Rattle.fact_emit.proofs.ImportLists.{count-of, func-last, get-last, get-there, imports-append, last-or-before, map-push, there-get}
use Rattle.fact_emit.proofs.Once.{once_more}
use Rattle.fact_emit.proofs.TaskItems.{absent-known, item-absent, item-there, known-there, start-there, untyped-found, untyped-made-once, untyped-there}

-- ---- sorts

same-sort : (a b : Sort) → same_sort a b ≡ true → a ≡ b
same-sort a_function a_function h = refl
same-sort a_memory a_memory h = refl
same-sort a_global a_global h = refl
same-sort a_function a_memory h = cc
same-sort a_function a_global h = cc
same-sort a_memory a_function h = cc
same-sort a_memory a_global h = cc
same-sort a_global a_function h = cc
same-sort a_global a_memory h = cc

-- an item is one of a kind
abbrev if_of : Sort → Sort → ImportedItem → List ImportedItem
if_of sort of x = cond (same_sort sort of) (x ∷ []) []

pub with-function : (gs ms fs : List ImportedItem) (x : ImportedItem) (q : Sort) → by_sort gs ms (fs ++ x ∷ []) q ≡ by_sort gs ms fs q ++ if_of q a_function x
with-function gs ms fs x a_function = refl
with-function gs ms fs x a_memory = sym (append-nil ms)
with-function gs ms fs x a_global = sym (append-nil gs)

pub with-memory : (gs ms fs : List ImportedItem) (x : ImportedItem) (q : Sort) → by_sort gs (ms ++ x ∷ []) fs q ≡ by_sort gs ms fs q ++ if_of q a_memory x
with-memory gs ms fs x a_function = sym (append-nil fs)
with-memory gs ms fs x a_memory = refl
with-memory gs ms fs x a_global = sym (append-nil gs)

pub with-global : (gs ms fs : List ImportedItem) (x : ImportedItem) (q : Sort) → by_sort (gs ++ x ∷ []) ms fs q ≡ by_sort gs ms fs q ++ if_of q a_global x
with-global gs ms fs x a_function = sym (append-nil fs)
with-global gs ms fs x a_memory = sym (append-nil ms)
with-global gs ms fs x a_global = refl

-- ---- one more import

module _ (s : ModuleSoFar) (same : length s.section ≡ length s.imports) (w : WasmImport) (i : Import) where
  more : (q : Sort) → imports_of q (s.section ++ w ∷ []) (s.imports ++ i ∷ []) ≡ imports_of q s.section s.imports ++ imports_of q (w ∷ []) (i ∷ [])
  more q = imports-append q s.section (w ∷ []) s.imports (i ∷ []) same

  grown-of : (q : Sort) → Grows (imports_of q s.section s.imports) (imports_of q (s.section ++ w ∷ []) (s.imports ++ i ∷ []))
  grown-of q = record { more = imports_of q (w ∷ []) (i ∷ []); is = more q }

  pub extended-by : Extended s (with_import s w i)
  extended-by = record {
    types = grows_none refl;
    section = record { more = w ∷ []; is = refl };
    imports = record { more = i ∷ []; is = refl };
    functions = grown-of a_function;
    memories = grown-of a_memory;
    globals = grown-of a_global;
    helpers = grows_none refl;
    numbered = omega arith;
  }

  module _ (absent : is_made_once i ≡ true → Contains (imports_of (sort_of w.ty) s.section s.imports) i → ⊥) where
    pub once-of : (q : Sort) → StandOnce (imports_of q s.section s.imports) → StandOnce (imports_of q (s.section ++ w ∷ []) (s.imports ++ i ∷ []))
    once-of q o = subst StandOnce (sym (more q)) (go (same_sort q (sort_of w.ty)) refl)
      where
        go : (b : Bool) → same_sort q (sort_of w.ty) ≡ b → StandOnce (imports_of q s.section s.imports ++ cond b (i ∷ []) [])
        go true e = once_more (λ made c. absent made (subst (λ r. Contains (imports_of r s.section s.imports) i) (same-sort q _ e) c)) o
        go false e = subst StandOnce (sym (append-nil _)) o

-- ---- items

-- the number of a type that there is
pub type-number : (s : ModuleSoFar) (ty : ImportType) (t : FuncType) → imported_type s.types ty ≡ Some t → (k : ℕ) × (ty ≡ import.Func k) × (slice_get s.types k ≡ Some t)
type-number s (import.Func k) t h = (k, refl, h)
type-number s (import.Memory least wide page) t h = cc
type-number s (import.Global u mutable) t h = cc

module _ (s : ModuleSoFar) (gs ms fs : List ImportedItem) (h : IsIndexed s gs ms fs) where
  -- One more item among those of its kind.
  module _ (w : WasmImport) (x : ImportedItem) (typed : (f : FuncType) → type_of_item x ≡ Some f → imported_type s.types w.ty ≡ Some f)
      (placed : (c : PrepareCallItem) → x ≡ item.PrepareCall c → c.place ≡ length (functions_of s)) where
    abbrev new : ModuleSoFar
    new = with_import s w (known_as x)

    module _ (gs' ms' fs' : List ImportedItem) (items : (q : Sort) → by_sort gs' ms' fs' q ≡ by_sort gs ms fs q ++ if_of q (sort_of w.ty) x) (room : length fs' + next_number s < 2 ^ 32) where
      list-added : (q : Sort) → imports_of q new.section new.imports ≡ map known_as (by_sort gs' ms' fs' q)
      list-added q =
          more s h.same_length w (known_as x) q ∙ go (same_sort q (sort_of w.ty)) ∙ ap (map known_as) (sym (items q))
        where
          go : (b : Bool) → imports_of q s.section s.imports ++ cond b (known_as x ∷ []) [] ≡ map known_as (by_sort gs ms fs q ++ cond b (x ∷ []) [])
          go true = ap (λ is. is ++ known_as x ∷ []) (h.lists q) ∙ sym (map-push known_as (by_sort gs ms fs q) x)
          go false = append-nil _ ∙ h.lists q ∙ ap (map known_as) (sym (append-nil (by_sort gs ms fs q)))

      -- a memory is no function, so it has no type
      no-memory : (ty : ImportType) → w.ty ≡ ty → same_sort a_memory (sort_of ty) ≡ true → (t : Option FuncType) → type_of_item x ≡ t → t ≡ None
      no-memory ty is e None is_typed = refl
      no-memory (import.Memory least wide page) is e (Some t) is_typed = let none : None ≡ Some t = ap (imported_type s.types) (sym is) ∙ typed t is_typed in cc
      no-memory (import.Func k) is e (Some t) is_typed = cc
      no-memory (import.Global u mutable) is e (Some t) is_typed = cc

      memory-added : (n : ℕ) (y : ImportedItem) → slice_get ms' n ≡ Some y → type_of_item y ≡ None
      memory-added n y at = go (same_sort a_memory (sort_of w.ty)) refl (ap (λ l. slice_get l n) (sym (items a_memory)) ∙ at)
        where
          go : (b : Bool) → same_sort a_memory (sort_of w.ty) ≡ b → slice_get (ms ++ cond b (x ∷ []) []) n ≡ Some y → type_of_item y ≡ None
          go false e there = h.memory_defs n y (ap (λ l. slice_get l n) (sym (append-nil ms)) ∙ there)
          go true e there = elim (last-or-before ms x n y there) [
            | inl before ↦ h.memory_defs n y before
            | inr last ↦ ap type_of_item (sym last.1) ∙ no-memory w.ty refl e (type_of_item x) refl
          ]

      -- the last function is this item
      added-typed : (n : ℕ) (ty : FuncType) → type_of_item x ≡ Some ty → n ≡ length (functions_of s) → slice_get fs' n ≡ Some x → HasImport new (known_as x) n ty.params ty.results
      added-typed n ty is_typed last at =
          let (k, is, found) = type-number s w.ty ty (typed ty is_typed) in
          record { there = known-there _ fs' x n (list-added a_function) at; type_at = k; imported = rw last (func-last s.section s.imports w k h.same_length is); type_is = found }

      by-place : (P : ImportedItem → Type 0) (n : ℕ) (y : ImportedItem) → slice_get fs' n ≡ Some y → (slice_get fs n ≡ Some y → P y) → (n ≡ length (functions_of s) → x ≡ y → P y) → P y
      by-place P n y at old last = go (same_sort a_function (sort_of w.ty)) (ap (λ l. slice_get l n) (sym (items a_function)) ∙ at)
        where
          go : (b : Bool) → slice_get (fs ++ cond b (x ∷ []) []) n ≡ Some y → P y
          go false e = old (ap (λ l. slice_get l n) (sym (append-nil fs)) ∙ e)
          go true e = elim (last-or-before fs x n y e) [
            | inl before ↦ old before
            | inr end ↦ last (end.0 ∙ sym (length-map fs known_as) ∙ ap length (sym (h.lists a_function))) end.1
          ]

      typed-added : (n : ℕ) (y : ImportedItem) (ty : FuncType) → type_of_item y ≡ Some ty → slice_get fs' n ≡ Some y → HasImport new (known_as y) n ty.params ty.results
      typed-added n y ty is_typed at =
          by-place (λ z. type_of_item z ≡ Some ty → slice_get fs' n ≡ Some z → HasImport new (known_as z) n ty.params ty.results) n y at
          (λ before is_typed at. later_import (extended-by s h.same_length w (known_as x)) (h.typed n y ty is_typed before))
          (λ last same. subst (λ z. type_of_item z ≡ Some ty → slice_get fs' n ≡ Some z → HasImport new (known_as z) n ty.params ty.results) same (λ is_typed at. added-typed n ty is_typed last at))
          is_typed at

      prepared-added : (n : ℕ) (c : PrepareCallItem) → slice_get fs' n ≡ Some (item.PrepareCall c) → c.place ≡ n
      prepared-added n c at =
          by-place (λ z. z ≡ item.PrepareCall c → c.place ≡ n) n (item.PrepareCall c) at (λ before is. h.prepared n c before) (λ last same is. placed c same ∙ sym last) refl

      pub indexed-with : IsIndexed new gs' ms' fs'
      indexed-with = record {
        same_length = omega (arith, h.same_length, length-append s.section (w ∷ []), length-append s.imports (known_as x ∷ []));
        lists = list-added;
        memory_defs = memory-added;
        numbered = room;
        helpers_below = h.helpers_below;
        typed = typed-added;
        prepared = prepared-added;
      }

      -- an item stands at a number among those that stood there, or is the new one
      abbrev IsPlaced : ℕ → ImportedItem → Type 0
      IsPlaced n z = (slice_get fs n ≡ Some z) ⊎ ((n ≡ length (functions_of s)) × (x ≡ z))

      -- A start-call of one callback, one post-return and one type stands once, where one more is new.
      pub starts-added : ((c : StartCallItem) → x ≡ item.StartCall c → Contains fs (item.StartCall c) → ⊥) → AreOnce s → (i j : ℕ) (callback post_return : Option CoreDef) (params results : List ValType)
          → HasImport new (known.StartCall callback post_return) i params results → HasImport new (known.StartCall callback post_return) j params results → i ≡ j
      starts-added fresh o i j callback post_return params results g k =
          let first = start-there new gs' ms' fs' indexed-with callback post_return i params results g in
          let second = start-there new gs' ms' fs' indexed-with callback post_return j params results k in
          go first.call second.call
          (λ n. record { callback = (first.callback_is ∙ sym second.callback_is) n; post_return = (first.post_return_is ∙ sym second.post_return_is) n; results = (sym first.results_are ∙ second.results_are) n })
          (place-of i first.call first.at) (place-of j second.call second.at)
        where
          place-of : (n : ℕ) (c : StartCallItem) → slice_get fs' n ≡ Some (item.StartCall c) → IsPlaced n (item.StartCall c)
          place-of n c at = by-place (IsPlaced n) n (item.StartCall c) at (λ before. inl before) (λ last same. inr (last, same))

          go : (c d : StartCallItem) → c ≡ d → IsPlaced i (item.StartCall c) → IsPlaced j (item.StartCall d) → i ≡ j
          go c d same (inl a) (inl b) =
              o.starts i j c.callback c.post_return (start_call_type c.results).params c.results (h.typed i (item.StartCall c) (start_call_type c.results) refl a)
              (h.typed j (item.StartCall c) (start_call_type c.results) refl (b ∙ ap (λ e. Some (item.StartCall e)) (sym same)))
          go c d same (inl a) (inr b) = absurd (fresh d b.1 (there-get fs i (item.StartCall d) (a ∙ ap (λ e. Some (item.StartCall e)) same)))
          go c d same (inr a) (inl b) = absurd (fresh c a.1 (there-get fs j (item.StartCall c) (b ∙ ap (λ e. Some (item.StartCall e)) (sym same))))
          go c d same (inr a) (inr b) = a.0 ∙ sym b.0

-- ---- an item that is looked up among those of its kind

-- What a step leaves: the lists stand as they have to, and the item is imported.
pub record Leaves (old new : ModuleSoFar) (gs ms fs xs : List ImportedItem) (w : WasmImport) (x : ImportedItem) : Type 0 where
  pub indexed : IsIndexed new gs ms fs
  pub imported : (n : ℕ) → slice_get xs n ≡ Some x → IsItemImported old new w x n
  pub keeps : Extended old new
  pub once : AreOnce old → AreOnce new

module _ (v : ModuleSoFar) (xs xs' : List ImportedItem) (G M F : List ImportedItem → List ImportedItem) (h : IsIndexed v (G xs) (M xs) (F xs))
    (w : WasmImport) (x : ImportedItem) (section' : List WasmImport) (imports' : List Import)
    (typed : (f : FuncType) → type_of_item x ≡ Some f → imported_type v.types w.ty ≡ Some f)
    (placed : (c : PrepareCallItem) → x ≡ item.PrepareCall c → c.place ≡ length (functions_of v))
    (item_there : (n : ℕ) → slice_get xs n ≡ Some x → IsItemThere v (sort_of w.ty) x)
    (item_absent : (Contains xs x → ⊥) → IsItemThere v (sort_of w.ty) x → ⊥)
    (fresh_start : (Contains xs x → ⊥) → (c : StartCallItem) → x ≡ item.StartCall c → Contains (F xs) (item.StartCall c) → ⊥)
    (items : (q : Sort) → by_sort (G (xs ++ x ∷ [])) (M (xs ++ x ∷ [])) (F (xs ++ x ∷ [])) q ≡ by_sort (G xs) (M xs) (F xs) q ++ if_of q (sort_of w.ty) x)
    (of : (ys : List ImportedItem) → by_sort (G ys) (M ys) (F ys) (sort_of w.ty) ≡ ys)
    (Room : Type 0) (room : Room → length (F (xs ++ x ∷ [])) + next_number v < 2 ^ 32)
    (step : IsKept v.section section' v.imports imports' xs xs' ⊎ (Room × IsAdded v.section section' v.imports imports' xs xs' x w)) where
  abbrev after : ModuleSoFar
  after = record v { section = section'; imports = imports' }

  same-after : IsKept v.section section' v.imports imports' xs xs' → after ≡ v
  same-after k = λ i. record v { section = k.section i; imports = k.imports i }

  more-after : IsAdded v.section section' v.imports imports' xs xs' x w → after ≡ with_import v w (known_as x)
  more-after a = λ i. record v { section = a.section i; imports = a.imports i }

  step-indexed : IsKept v.section section' v.imports imports' xs xs' ⊎ (Room × IsAdded v.section section' v.imports imports' xs xs' x w) → IsIndexed after (G xs') (M xs') (F xs')
  step-indexed (inl k) = rw (k.section, k.imports, k.items) h
  step-indexed (inr a) = rw (a.1.section, a.1.imports, a.1.items) (indexed-with v (G xs) (M xs) (F xs) h w x typed placed (G (xs ++ x ∷ [])) (M (xs ++ x ∷ [])) (F (xs ++ x ∷ [])) items (room a.0))

  before : imports_of (sort_of w.ty) v.section v.imports ≡ map known_as xs
  before = h.lists (sort_of w.ty) ∙ ap (map known_as) (of xs)

  there : imports_of (sort_of w.ty) section' imports' ≡ map known_as xs'
  there = (step-indexed step).lists (sort_of w.ty) ∙ ap (map known_as) (of xs')

  absent : IsAdded v.section section' v.imports imports' xs xs' x w → is_made_once (known_as x) ≡ true → Contains (imports_of (sort_of w.ty) v.section v.imports) (known_as x) → ⊥
  absent a made = absent-known _ xs x before made a.absent

  step-imported : (n : ℕ) → slice_get xs' n ≡ Some x → IsItemImported v after w x n
  step-imported n at = record { there = known-there _ xs' x n there at; step = go step; last = λ none. end step none }
    where
      end : IsKept v.section section' v.imports imports' xs xs' ⊎ (Room × IsAdded v.section section' v.imports imports' xs xs' x w) → (IsItemThere v (sort_of w.ty) x → ⊥) → n ≡ length (imports_of (sort_of w.ty) v.section v.imports)
      end (inl k) none = absurd (none (item_there n (ap (λ ys. slice_get ys n) (sym k.items) ∙ at)))
      end (inr a) none = elim (last-or-before xs x n x (ap (λ ys. slice_get ys n) (sym a.1.items) ∙ at)) [
        | inl there ↦ absurd (a.1.absent (there-get xs n x there))
        | inr last ↦ last.0 ∙ sym (length-map xs known_as) ∙ ap length (sym before)
      ]

      go : IsKept v.section section' v.imports imports' xs xs' ⊎ (Room × IsAdded v.section section' v.imports imports' xs xs' x w)
          → ((after ≡ v) × IsItemThere v (sort_of w.ty) x) ⊎ ((after ≡ with_import v w (known_as x)) × (IsItemThere v (sort_of w.ty) x → ⊥))
      go (inl k) = inl (same-after k, item_there n (ap (λ ys. slice_get ys n) (sym k.items) ∙ at))
      go (inr a) = inr (more-after a.1, item_absent a.1.absent)

  step-keeps : IsKept v.section section' v.imports imports' xs xs' ⊎ (Room × IsAdded v.section section' v.imports imports' xs xs' x w) → Extended v after
  step-keeps (inl k) = extended_none (same-after k)
  step-keeps (inr a) = subst (Extended v) (sym (more-after a.1)) (extended-by v h.same_length w (known_as x))

  step-once : IsKept v.section section' v.imports imports' xs xs' ⊎ (Room × IsAdded v.section section' v.imports imports' xs xs' x w) → AreOnce v → AreOnce after
  step-once (inl k) o = subst AreOnce (sym (same-after k)) o
  step-once (inr a) o = subst AreOnce (sym (more-after a.1)) (record {
    functions = once-of v h.same_length w (known_as x) (absent a.1) a_function o.functions;
    memories = once-of v h.same_length w (known_as x) (absent a.1) a_memory o.memories;
    globals = once-of v h.same_length w (known_as x) (absent a.1) a_global o.globals;
    starts = starts-added v (G xs) (M xs) (F xs) h w x typed placed (G (xs ++ x ∷ [])) (M (xs ++ x ∷ [])) (F (xs ++ x ∷ [])) items (room a.0) (fresh_start a.1.absent) o;
  })

  leaves : Leaves v after (G xs') (M xs') (F xs') xs' w x
  leaves = record { indexed = step-indexed step; imported = step-imported; keeps = step-keeps step; once = step-once step }

-- The state that contracts see, and the import that is asked for.
module _ (v t : ModuleSoFar) (same : v ≡ t) (gs ms fs : List ImportedItem) (h : IsIndexed v gs ms fs) (w w' : WasmImport) (is_w : w ≡ w') (x : ImportedItem)
    (may : MayImport t x w'.ty) (section' : List WasmImport) (imports' : List Import) (xs' : List ImportedItem) where
  typed-here : (f : FuncType) → type_of_item x ≡ Some f → imported_type v.types w.ty ≡ Some f
  typed-here = rw (same, is_w) may.typed

  placed-here : (c : PrepareCallItem) → x ≡ item.PrepareCall c → c.place ≡ length (functions_of v)
  placed-here = rw same may.placed

  -- what is imported as a memory or a global has no type
  untyped : (ty : ImportType) → w.ty ≡ ty → imported_type v.types ty ≡ None → (f : Option FuncType) → type_of_item x ≡ f → f ≡ None
  untyped ty is none None e = refl
  untyped ty is none (Some f) e = let no : None ≡ Some f = sym none ∙ ap (imported_type v.types) (sym is) ∙ typed-here f e in cc

  -- and so is no start-call
  no-start : type_of_item x ≡ None → (c : StartCallItem) → x ≡ item.StartCall c → Contains fs (item.StartCall c) → ⊥
  no-start none c is there = let no : None ≡ Some (start_call_type c.results) = sym none ∙ ap type_of_item is in cc

  seen : {new : ModuleSoFar} {gs' ms' fs' : List ImportedItem} → Leaves v new gs' ms' fs' xs' w x → Leaves t new gs' ms' fs' xs' w' x
  seen {new} {gs'} {ms'} {fs'} l = subst (λ (u : ModuleSoFar). Leaves u new gs' ms' fs' xs' w' x) same (subst (λ (y : WasmImport). Leaves v new gs' ms' fs' xs' y x) is_w l)

  pub leaves-function : (k : ℕ) → w.ty ≡ import.Func k → (full : Bool) → (IsFalse full → length (functions_of t) + next_number t + 1 < 2 ^ 32)
      → IsKept v.section section' v.imports imports' fs xs' ⊎ (IsTrue (not full) × IsAdded v.section section' v.imports imports' fs xs' x w)
      → Leaves t (record v { section = section'; imports = imports' }) gs ms xs' xs' w' x
  leaves-function k is full room step =
      seen (leaves v fs xs' (λ ys. gs) (λ ys. ms) (λ ys. ys) h w x section' imports' typed-here placed-here (λ n at. rw is (item-there v gs ms fs h x n placed-here at)) (λ absent there. item-absent v gs ms fs h x absent (rw is at there))
      (λ absent c same there. absent (subst (Contains fs) (sym same) there)) (rw is (with-function gs ms fs x)) (λ ys. rw is refl) (IsTrue (not full)) fits step)
    where
      is-false : (b : Bool) → IsTrue (not b) → IsFalse b
      is-false false e = refl
      is-false true e = cc

      fits : IsTrue (not full) → length (fs ++ x ∷ []) + next_number v < 2 ^ 32
      fits free = omega (arith, length-append fs (x ∷ []), length-map fs known_as, ap length (h.lists a_function), subst (λ (u : ModuleSoFar). length (functions_of u) + next_number u + 1 < 2 ^ 32) (sym same) (room (is-false full free)))

  pub leaves-memory : (least : ℕ) (wide : Bool) (page : Option ℕ) → w.ty ≡ import.Memory least wide page
      → IsKept v.section section' v.imports imports' ms xs' ⊎ (IsTrue true × IsAdded v.section section' v.imports imports' ms xs' x w)
      → Leaves t (record v { section = section'; imports = imports' }) gs xs' fs xs' w' x
  leaves-memory least wide page is step =
      seen (leaves v ms xs' (λ ys. gs) (λ ys. ys) (λ ys. fs) h w x section' imports' typed-here placed-here
      (λ n at. rw is (untyped-there v a_memory x none (there-get _ n (known_as x) (known-there _ ms x n (h.lists a_memory) at))))
      (λ absent there. absent-known _ ms x (h.lists a_memory) (untyped-made-once x none) absent (untyped-found v a_memory x none (rw is at there)))
      (λ absent. no-start none) (rw is (with-memory gs ms fs x)) (λ ys. rw is refl) (IsTrue true) (λ u. h.numbered) step)
    where
      none : type_of_item x ≡ None
      none = untyped (import.Memory least wide page) is refl (type_of_item x) refl

  pub leaves-global : (ty : ValType) (mutable : Bool) → w.ty ≡ import.Global ty mutable
      → IsKept v.section section' v.imports imports' gs xs' ⊎ (IsTrue true × IsAdded v.section section' v.imports imports' gs xs' x w)
      → Leaves t (record v { section = section'; imports = imports' }) xs' ms fs xs' w' x
  leaves-global ty mutable is step =
      seen (leaves v gs xs' (λ ys. ys) (λ ys. ms) (λ ys. fs) h w x section' imports' typed-here placed-here
      (λ n at. rw is (untyped-there v a_global x none (there-get _ n (known_as x) (known-there _ gs x n (h.lists a_global) at))))
      (λ absent there. absent-known _ gs x (h.lists a_global) (untyped-made-once x none) absent (untyped-found v a_global x none (rw is at there)))
      (λ absent. no-start none) (rw is (with-global gs ms fs x)) (λ ys. rw is refl) (IsTrue true) (λ u. h.numbered) step)
    where
      none : type_of_item x ≡ None
      none = untyped (import.Global ty mutable) is refl (type_of_item x) refl

-- a memory or a global is no function, so none of the runtime
pub memory-untyped : (types : List FuncType) {w w' : WasmImport} {least : ℕ} {wide : Bool} {page : Option ℕ} {t : FuncType} → w ≡ w' → w.ty ≡ import.Memory least wide page → imported_type types w'.ty ≡ Some t → ⊥
memory-untyped types {t = t} is_w is h = let none : None ≡ Some t = ap (imported_type types) (sym is ∙ ap (λ (v : WasmImport). v.ty) is_w) ∙ h in cc

pub global-untyped : (types : List FuncType) {w w' : WasmImport} {ty : ValType} {mutable : Bool} {t : FuncType} → w ≡ w' → w.ty ≡ import.Global ty mutable → imported_type types w'.ty ≡ Some t → ⊥
global-untyped types {t = t} is_w is h = let none : None ≡ Some t = ap (imported_type types) (sym is ∙ ap (λ (v : WasmImport). v.ty) is_w) ∙ h in cc

-- a function of the runtime that is there has its type
pub typed-there : (s : ModuleSoFar) (gs ms fs : List ImportedItem) (h : IsIndexed s gs ms fs) (x : ImportedItem) (n : ℕ) → slice_get fs n ≡ Some x → (f : FuncType) → type_of_item x ≡ Some f → HasImport s (known_as x) n f.params f.results
typed-there s gs ms fs h x n at f e = h.typed n x f e at

-- A transcoder that is imported as an item is the function of this place.
pub has_transcoder : {s t : ModuleSoFar} (x : Transcoder) (y : ImportedItem) (place : ℕ) → IsItemOf x s y → Extended s t → ((f : FuncType) → type_of_item y ≡ Some f → HasImport t (known_as y) place f.params f.results) → HasTranscoder t x place
has_transcoder {t = t} x y place i e typed = record {
  from = i.from;
  to = i.to;
  from_there = grown_get e.memories x.from_memory.number _ i.from_there;
  to_there = grown_get e.memories x.to_memory.number _ i.to_there;
  has = subst (λ z. HasImport t z place (type_of_transcoder x).params (type_of_transcoder x).results) (ap known_as i.is) (typed (type_of_transcoder x) (ap type_of_item i.is));
}

-- A memory that is there is a core definition.
pub memory-there : (v t : ModuleSoFar) → v ≡ t → (gs ms fs : List ImportedItem) → IsIndexed v gs ms fs → (d : CoreDef) (n : ℕ) → slice_get ms n ≡ Some (item.Def d) → slice_get (memories_of t) n ≡ Some (known.CoreDef d)
memory-there v t same gs ms fs h d n at = ap (λ (u : ModuleSoFar). slice_get (memories_of u) n) (sym same) ∙ known-there _ ms (item.Def d) n (h.lists a_memory) at

-- It is no function of the runtime.
pub memory-untold : (s : ModuleSoFar) (gs ms fs : List ImportedItem) → IsIndexed s gs ms fs → (x : ImportedItem) (n : ℕ) → slice_get ms n ≡ Some x → (t : FuncType) → type_of_item x ≡ Some t → ⊥
memory-untold s gs ms fs h x n at t is = let none : Some t ≡ None = sym is ∙ h.memory_defs n x at in cc

-- ---- types

-- Only types were added.
pub typed-indexed : (v : ModuleSoFar) (types : List FuncType) (gs ms fs : List ImportedItem) → IsIndexed v gs ms fs → ((k : ℕ) (ty : FuncType) → slice_get v.types k ≡ Some ty → slice_get types k ≡ Some ty)
    → IsIndexed (record v { types = types }) gs ms fs
typed-indexed v types gs ms fs h keeps = record {
  same_length = h.same_length;
  lists = h.lists;
  memory_defs = h.memory_defs;
  numbered = h.numbered;
  helpers_below = h.helpers_below;
  typed = λ n y ty e at. let i = h.typed n y ty e at in record { there = i.there; type_at = i.type_at; imported = i.imported; type_is = keeps i.type_at _ i.type_is };
  prepared = h.prepared;
}

-- They are no further start-calls.
pub typed-once : (v t : ModuleSoFar) → v ≡ t → (types : List FuncType) (gs ms fs : List ImportedItem) → IsIndexed v gs ms fs → ((k : ℕ) (ty : FuncType) → slice_get v.types k ≡ Some ty → slice_get types k ≡ Some ty)
    → AreOnce t → AreOnce (record v { types = types })
typed-once v t same types gs ms fs h keeps once = record { functions = o.functions; memories = o.memories; globals = o.globals; starts = starts }
  where
    o : AreOnce v
    o = subst AreOnce (sym same) once

    -- the type of a start-call was there before
    before : (callback post_return : Option CoreDef) (results : List ValType) (n : ℕ) (c : StartCallItem) → c.callback ≡ callback → c.post_return ≡ post_return → results ≡ c.results → slice_get fs n ≡ Some (item.StartCall c)
        → HasImport v (known.StartCall callback post_return) n (start_call_type results).params results
    before callback post_return results n c callback_is post_return_is results_are at =
        rw (← callback_is, ← post_return_is, results_are) (h.typed n (item.StartCall c) (start_call_type c.results) refl at)

    starts : (i j : ℕ) (callback post_return : Option CoreDef) (params results : List ValType) → HasImport (record v { types = types }) (known.StartCall callback post_return) i params results → HasImport (record v { types = types }) (known.StartCall callback post_return) j params results → i ≡ j
    starts i j callback post_return params results g k =
        let first = start-there (record v { types = types }) gs ms fs (typed-indexed v types gs ms fs h keeps) callback post_return i params results g in
        let second = start-there (record v { types = types }) gs ms fs (typed-indexed v types gs ms fs h keeps) callback post_return j params results k in
        o.starts i j callback post_return (start_call_type results).params results
        (before callback post_return results i first.call first.callback_is first.post_return_is first.results_are first.at)
        (before callback post_return results j second.call second.callback_is second.post_return_is second.results_are second.at)

-- A function was defined, or one was exported.
module _ (v : ModuleSoFar) (gs ms fs : List ImportedItem) (h : IsIndexed v gs ms fs) where
  pub defined-indexed : (t : ModuleSoFar) → v ≡ t → (f : WasmFunc) (functions : List WasmFunc) → functions ≡ v.functions ++ f ∷ [] → length (functions_of t) + max t.numbered (length t.functions + 1) < 2 ^ 32 → IsIndexed (record v { functions = functions }) gs ms fs
  defined-indexed t same f functions is room = record {
    same_length = h.same_length;
    lists = h.lists;
    memory_defs = h.memory_defs;
    numbered = omega (arith, ap length is, length-append v.functions (f ∷ []), length-map fs known_as, ap length (h.lists a_function), subst (λ (u : ModuleSoFar). length (functions_of u) + max u.numbered (length u.functions + 1) < 2 ^ 32) (sym same) room);
    helpers_below = h.helpers_below;
    typed = λ n y ty e at. let i = h.typed n y ty e at in record { there = i.there; type_at = i.type_at; imported = i.imported; type_is = i.type_is };
    prepared = h.prepared;
  }

  pub exported-indexed : (exports : List WasmExport) → IsIndexed (record v { exports = exports }) gs ms fs
  exported-indexed exports = record {
    same_length = h.same_length;
    lists = h.lists;
    memory_defs = h.memory_defs;
    numbered = h.numbered;
    helpers_below = h.helpers_below;
    typed = λ n y ty e at. let i = h.typed n y ty e at in record { there = i.there; type_at = i.type_at; imported = i.imported; type_is = i.type_is };
    prepared = h.prepared;
  }

  pub callees-indexed : (callees : List WasmExport) → IsIndexed (record v { callees = callees }) gs ms fs
  callees-indexed callees = record {
    same_length = h.same_length;
    lists = h.lists;
    memory_defs = h.memory_defs;
    numbered = h.numbered;
    helpers_below = h.helpers_below;
    typed = λ n y ty e at. let i = h.typed n y ty e at in record { there = i.there; type_at = i.type_at; imported = i.imported; type_is = i.type_is };
    prepared = h.prepared;
  }

-- Helpers were asked for, or functions were numbered ahead.
pub helped-indexed : (v : ModuleSoFar) (gs ms fs : List ImportedItem) → IsIndexed v gs ms fs → (helpers : List (Helper × ℕ)) (numbered : ℕ) → length fs + max numbered (length v.functions) < 2 ^ 32
    → AllByRecursion (λ e. e.1 < numbered) helpers → IsIndexed (record v { helpers = helpers; numbered = numbered }) gs ms fs
helped-indexed v gs ms fs h helpers numbered room below = record {
  same_length = h.same_length;
  lists = h.lists;
  memory_defs = h.memory_defs;
  numbered = room;
  helpers_below = below;
  typed = λ n y ty e at. let i = h.typed n y ty e at in record { there = i.there; type_at = i.type_at; imported = i.imported; type_is = i.type_is };
  prepared = h.prepared;
}

-- A list to which a type came, or in which it was, has it at one place.
has-type : (s : ModuleSoFar) (types : List FuncType) (ty : FuncType) (place : ℕ) → IsOnlyPlaceOfType types ty place
    → ((k : ℕ) (t : FuncType) → slice_get s.types k ≡ Some t → slice_get types k ≡ Some t) → (types ≡ s.types) ⊎ (types ≡ s.types ++ ty ∷ []) → HasType s (record s { types = types }) ty
has-type s types ty place is_at keeps (inl same) = inl (λ k. record s { types = same k })
has-type s types ty place is_at keeps (inr more) = inr (absent, λ k. record s { types = more k })
  where
    -- else it would stand at two
    absent : Contains s.types ty → ⊥
    absent there =
        let (k, at) = get-there s.types ty there in
        let first : k ≡ place = is_at.only k (keeps k ty at) in
        let last : length s.types ≡ place = is_at.only (length s.types) (ap (λ ts. slice_get ts (length s.types)) more ∙ get-last s.types ty) in
        omega (arith, first, last, slice_get_within s.types k ty at)

pub type-there : {E : Type 0} (r : Result ℕ E) (v t : ModuleSoFar) → v ≡ t → (types : List FuncType) (ty : FuncType) → IfOk r (λ place. IsOnlyPlaceOfType types ty place)
    → ((k : ℕ) (ty' : FuncType) → slice_get v.types k ≡ Some ty' → slice_get types k ≡ Some ty') → OnOk r ((types ≡ v.types) ⊎ (types ≡ v.types ++ ty ∷ [])) → OnOk r (HasType t (record v { types = types }) ty)
type-there (Ok place) v t same types ty is_at keeps list = subst (λ (u : ModuleSoFar). HasType u (record v { types = types }) ty) same (has-type v types ty place is_at keeps list)
type-there (Err e) v t same types ty is_at keeps list = tt

-- ---- numbers of imports

pub counted : (v t : ModuleSoFar) → v ≡ t → (gs ms fs : List ImportedItem) → IsIndexed v gs ms fs → (q : Sort) (n : ℕ) → n ≡ length (by_sort gs ms fs q) → n ≡ count_by (is_of q) t.section
counted v t same gs ms fs h q n is =
    is ∙ sym (length-map (by_sort gs ms fs q) known_as) ∙ ap length (sym (h.lists q)) ∙ sym (count-of q v.section v.imports h.same_length) ∙ ap (λ (u : ModuleSoFar). count_by (is_of q) u.section) same

-- each function has a number
pub all_numbered : (v t : ModuleSoFar) → v ≡ t → (gs ms fs : List ImportedItem) → IsIndexed v gs ms fs → length (functions_of t) + length t.functions < 2 ^ 32
all_numbered v t same gs ms fs h = subst (λ (u : ModuleSoFar). length (functions_of u) + length u.functions < 2 ^ 32) same (omega (arith, h.numbered, length-map fs known_as, ap length (h.lists a_function)))

-- a place behind them has their number
pub functions-counted : (v t : ModuleSoFar) → v ≡ t → (gs ms fs : List ImportedItem) → IsIndexed v gs ms fs → (n : ℕ) → n ≡ length fs → n ≡ length (functions_of t)
functions-counted v t same gs ms fs h n is = is ∙ sym (length-map fs known_as) ∙ ap length (sym (h.lists a_function)) ∙ ap (λ (u : ModuleSoFar). length (functions_of u)) same
