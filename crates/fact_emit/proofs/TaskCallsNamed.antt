-- Start-calls and prepare-calls are named by adapters, as more is imported and as more adapters come.
use Rattle.std.proofs.Common.{◌≡◌, ◌∙◌, ℕ, ◌<◌, Bool, true, false, List, [], ◌∷◌, ◌++◌, Option, Some, codes, refl, sym, ap, subst, arith, length, slice_get, append-nil, append_assoc, cond, ◌⊎◌, inl, inr}
use Rattle.std.specs.Prelude.{filter}
use Rattle.std.specs.List.{AllZip}
use Rattle.std.proofs.lemmas.Bool.{false≢true}
use Rattle.std.proofs.lemmas.List.Elements.{filter-append}
use Rattle.std.proofs.lemmas.Option.{slice_get_within}
use Rattle.fact_wasm.specs.declared.types.FuncType.{FuncType}
use Rattle.fact_wasm.specs.declared.module.ImportType.{ImportType}
use Rattle.fact_wasm.specs.declared.module.WasmImport.{WasmImport}
use Rattle.fact_machine.proofs.Tests.{get_append}
use Rattle.fact_types.specs.Adapters.{LinkedAdapter}
use Rattle.fact_types.specs.declared.outside.CoreDef.{CoreDef}
use Rattle.fact_types.specs.declared.import.Import.{Import}
use Rattle.fact_types.specs.declared.import.Import.TheVariants as known
use Rattle.fact_emit.specs.ImportSection.{AreStartCallsNamed, AreTaskCallsNamed, HasStartOf, IsPrepareNamed, IsStartNamed, IsStartOf, if_prepare, imported_type, is_awaited, is_made_once, prepares_in}
use Rattle.fact_emit.specs.TaskTypes.{start_call_name, start_call_type}
use Rattle.fact_emit.proofs.ImportLists.{get-last, last-or-before}
use Rattle.fact_emit.proofs.Named.{function-more, typed-more}

-- ---- lists side by side

zip_more : {X Y : Type 0} (R : X → Y → Type 0) (xs : List X) (ys : List Y) (x : X) (y : Y) → AllZip R xs ys → R x y → AllZip R (xs ++ x ∷ []) (ys ++ y ∷ [])
zip_more R [] [] x y h r = (r, tt)
zip_more R [] (b ∷ ys) x y h r = absurd h
zip_more R (a ∷ xs) [] x y h r = absurd h
zip_more R (a ∷ xs) (b ∷ ys) x y h r = (h.0, zip_more R xs ys x y h.1 r)

zip_as : {X Y : Type 0} (R S : X → Y → Type 0) (xs : List X) (ys : List Y) → ((x : X) (y : Y) → R x y → S x y) → AllZip R xs ys → AllZip S xs ys
zip_as R S [] [] f h = tt
zip_as R S [] (y ∷ ys) f h = absurd h
zip_as R S (x ∷ xs) [] f h = absurd h
zip_as R S (x ∷ xs) (y ∷ ys) f h = (f x y h.0, zip_as R S xs ys f h.1)

-- ---- more types

-- an import that has a type has no other with more types
typed-back : (types more : List FuncType) (ty : ImportType) (t u : FuncType) → imported_type types ty ≡ Some t → imported_type (types ++ more) ty ≡ Some u → imported_type types ty ≡ Some u
typed-back types more ty t u e h = e ∙ sym (typed-more types more ty t e) ∙ h

start-of-back : (types more : List FuncType) (a : LinkedAdapter) (w : WasmImport) (callback post_return : Option CoreDef) (t : FuncType) → imported_type types w.ty ≡ Some t
    → IsStartOf (types ++ more) a w callback post_return → IsStartOf types a w callback post_return
start-of-back types more a w callback post_return t e h = record { awaited = h.awaited; callback_is = h.callback_is; post_return_is = h.post_return_is; typed = typed-back types more w.ty t _ e h.typed }

start-of-more : (types more : List FuncType) (a : LinkedAdapter) (w : WasmImport) (callback post_return : Option CoreDef) → IsStartOf types a w callback post_return → IsStartOf (types ++ more) a w callback post_return
start-of-more types more a w callback post_return h = record { awaited = h.awaited; callback_is = h.callback_is; post_return_is = h.post_return_is; typed = typed-more types more w.ty _ h.typed }

start-named-more : (types more : List FuncType) (adapters : List LinkedAdapter) (w : WasmImport) (callback post_return : Option CoreDef)
    → IsStartNamed types adapters w callback post_return → IsStartNamed (types ++ more) adapters w callback post_return
start-named-more types more adapters w callback post_return h = record {
  number = h.number;
  first = h.first;
  first_there = h.first_there;
  is = start-of-more types more h.first w callback post_return h.is;
  none_before = λ k a lt at is. h.none_before k a lt at (start-of-back types more a w callback post_return _ h.is.typed is);
  named = function-more types more w _ _ _ h.named;
}

pub starts-typed : (types more : List FuncType) (adapters : List LinkedAdapter) (ws : List WasmImport) (is : List Import) → AreStartCallsNamed types adapters ws is → AreStartCallsNamed (types ++ more) adapters ws is
starts-typed types more adapters ws is h = record {
  named = λ k w callback post_return at is_at. start-named-more types more adapters w callback post_return (h.named k w callback post_return at is_at);
  once = λ j k v w callback post_return at_j at_k is_j is_k same.
      let x = (h.named j v callback post_return at_j is_j).is.typed in
      let y = (h.named k w callback post_return at_k is_k).is.typed in
      h.once j k v w callback post_return at_j at_k is_j is_k (x ∙ sym (typed-more types more v.ty _ x) ∙ same ∙ typed-more types more w.ty _ y ∙ sym y);
  each = λ k a at awaited. let s = h.each k a at awaited in record { place = s.place; import = s.import; there = s.there; is_call = s.is_call; typed = typed-more types more s.import.ty _ s.typed };
}

prepare-more : (types more : List FuncType) (x : WasmImport × Option CoreDef) (a : LinkedAdapter) → IsPrepareNamed types x a → IsPrepareNamed (types ++ more) x a
prepare-more types more x a h = record { memory = h.memory; named = function-more types more x.0 _ _ _ h.named }

pub prepares-typed : (types more : List FuncType) (xs : List (WasmImport × Option CoreDef)) (adapters : List LinkedAdapter) → AllZip (IsPrepareNamed types) xs adapters → AllZip (IsPrepareNamed (types ++ more)) xs adapters
prepares-typed types more xs adapters h = zip_as (IsPrepareNamed types) (IsPrepareNamed (types ++ more)) xs adapters (λ x a p. prepare-more types more x a p) h

-- ---- one more import

-- what stands in both lists with one import more
pub both-before : (ws : List WasmImport) (is : List Import) (w : WasmImport) (i : Import) → length ws ≡ length is → (k : ℕ) (v : WasmImport) (j : Import) → slice_get (ws ++ w ∷ []) k ≡ Some v → slice_get (is ++ i ∷ []) k ≡ Some j
    → ((slice_get ws k ≡ Some v) × (slice_get is k ≡ Some j)) ⊎ ((k ≡ length ws) × (w ≡ v) × (i ≡ j))
both-before ws is w i even k v j at is_at = go (last-or-before ws w k v at) (last-or-before is i k j is_at)
  where
    go : (slice_get ws k ≡ Some v) ⊎ ((k ≡ length ws) × (w ≡ v)) → (slice_get is k ≡ Some j) ⊎ ((k ≡ length is) × (i ≡ j))
        → ((slice_get ws k ≡ Some v) × (slice_get is k ≡ Some j)) ⊎ ((k ≡ length ws) × (w ≡ v) × (i ≡ j))
    go (inl a) (inl b) = inl (a, b)
    go (inr a) (inr b) = inr (a.0, a.1, b.1)
    go (inl a) (inr b) = absurd (omega (arith, b.0, even, slice_get_within ws k v a))
    go (inr a) (inl b) = absurd (omega (arith, a.0, even, slice_get_within is k j b))

start-behind : (types : List FuncType) (ws : List WasmImport) (is : List Import) (w : WasmImport) (i : Import) (a : LinkedAdapter) → HasStartOf types ws is a → HasStartOf types (ws ++ w ∷ []) (is ++ i ∷ []) a
start-behind types ws is w i a s = record { place = s.place; import = s.import; there = get_append ws (w ∷ []) s.place _ s.there; is_call = get_append is (i ∷ []) s.place _ s.is_call; typed = s.typed }

no_start : (i : Import) (callback post_return : Option CoreDef) → is_made_once i ≡ true → i ≡ known.StartCall callback post_return → ⊥
no_start i callback post_return made e = false≢true (sym (ap is_made_once e) ∙ made)

module _ (types : List FuncType) (adapters : List LinkedAdapter) (ws : List WasmImport) (is : List Import) (w : WasmImport) (i : Import) (even : length ws ≡ length is) (h : AreStartCallsNamed types adapters ws is) where
  -- which is no start-call
  pub starts-behind : ((callback post_return : Option CoreDef) → i ≡ known.StartCall callback post_return → ⊥) → AreStartCallsNamed types adapters (ws ++ w ∷ []) (is ++ i ∷ [])
  starts-behind other = record {
    named = λ k v callback post_return at is_at. let x = before k v callback post_return at is_at in h.named k v callback post_return x.0 x.1;
    once = λ j k v u callback post_return at_j at_k is_j is_k same.
        let x = before j v callback post_return at_j is_j in
        let y = before k u callback post_return at_k is_k in
        h.once j k v u callback post_return x.0 y.0 x.1 y.1 same;
    each = λ k a at awaited. start-behind types ws is w i a (h.each k a at awaited);
  }
    where
      before : (k : ℕ) (v : WasmImport) (callback post_return : Option CoreDef) → slice_get (ws ++ w ∷ []) k ≡ Some v → slice_get (is ++ i ∷ []) k ≡ Some (known.StartCall callback post_return)
          → (slice_get ws k ≡ Some v) × (slice_get is k ≡ Some (known.StartCall callback post_return))
      before k v callback post_return at is_at = elim (both-before ws is w i even k v (known.StartCall callback post_return) at is_at) [ inl x ↦ x | inr last ↦ absurd (other callback post_return last.2) ]

-- ---- the start-call of one more adapter

named-behind : (types : List FuncType) (adapters : List LinkedAdapter) (a : LinkedAdapter) (w : WasmImport) (callback post_return : Option CoreDef)
    → IsStartNamed types adapters w callback post_return → IsStartNamed types (adapters ++ a ∷ []) w callback post_return
named-behind types adapters a w callback post_return h = record {
  number = h.number;
  first = h.first;
  first_there = get_append adapters (a ∷ []) h.number _ h.first_there;
  is = h.is;
  none_before = λ k b lt at is. h.none_before k b lt (elim (last-or-before adapters a k b at) [ inl x ↦ x | inr last ↦ absurd (omega (arith, lt, last.0, slice_get_within adapters h.number _ h.first_there)) ]) is;
  named = h.named;
}

-- An adapter comes behind whose start-call is there, if it is to have one.
pub starts-with : (types : List FuncType) (adapters : List LinkedAdapter) (ws : List WasmImport) (is : List Import) (a : LinkedAdapter) → (is_awaited a ≡ true → HasStartOf types ws is a)
    → AreStartCallsNamed types adapters ws is → AreStartCallsNamed types (adapters ++ a ∷ []) ws is
starts-with types adapters ws is a has h = record {
  named = λ k w callback post_return at is_at. named-behind types adapters a w callback post_return (h.named k w callback post_return at is_at);
  once = h.once;
  each = λ k b at awaited. elim (last-or-before adapters a k b at) [
    | inl x ↦ h.each k b x awaited
    | inr last ↦ subst (HasStartOf types ws is) last.1 (has (ap is_awaited last.1 ∙ awaited))
  ];
}

-- Its start-call is imported, which was not there.
module _ (types : List FuncType) (adapters : List LinkedAdapter) (ws : List WasmImport) (is : List Import) (a : LinkedAdapter) (w : WasmImport) (even : length ws ≡ length is)
    (awaited : is_awaited a ≡ true) (is_from : w.module ≡ codes "async") (is_named : w.name ≡ start_call_name a.name) (typed : imported_type types w.ty ≡ Some (start_call_type a.lower.core_type.results))
    (absent : (k : ℕ) (v : WasmImport) → slice_get ws k ≡ Some v → slice_get is k ≡ Some (known.StartCall a.lift.callback a.lift.post_return) → imported_type types v.ty ≡ Some (start_call_type a.lower.core_type.results) → ⊥)
    (h : AreStartCallsNamed types adapters ws is) where
  abbrev call : Import
  call = known.StartCall a.lift.callback a.lift.post_return

  -- no earlier adapter has this start-call
  none-before : (k : ℕ) (b : LinkedAdapter) → k < length adapters → slice_get (adapters ++ a ∷ []) k ≡ Some b → IsStartOf types b w a.lift.callback a.lift.post_return → ⊥
  none-before k b lt at s =
      let there : slice_get adapters k ≡ Some b = elim (last-or-before adapters a k b at) [ inl x ↦ x | inr last ↦ absurd (omega (arith, lt, last.0)) ] in
      let e = h.each k b there s.awaited in
      absent e.place e.import e.there (e.is_call ∙ (λ i. Some (known.StartCall (s.callback_is i) (s.post_return_is i)))) (e.typed ∙ sym s.typed ∙ typed)

  here : IsStartNamed types (adapters ++ a ∷ []) w a.lift.callback a.lift.post_return
  here = record {
    number = length adapters;
    first = a;
    first_there = get-last adapters a;
    is = record { awaited = awaited; callback_is = refl; post_return_is = refl; typed = typed };
    none_before = none-before;
    named = record { is_from = is_from; is_named = is_named; is_typed = typed };
  }

  same_calls : {callback post_return : Option CoreDef} → call ≡ known.StartCall callback post_return → (a.lift.callback ≡ callback) × (a.lift.post_return ≡ post_return)
  same_calls {callback} {post_return} e = (cc, cc)

  not-both : (k : ℕ) (v : WasmImport) (callback post_return : Option CoreDef) → slice_get ws k ≡ Some v → slice_get is k ≡ Some (known.StartCall callback post_return) → call ≡ known.StartCall callback post_return
      → imported_type types v.ty ≡ imported_type types w.ty → ⊥
  not-both k v callback post_return at is_at e same = absent k v at (is_at ∙ ap Some (sym e)) (same ∙ typed)

  -- an import stands at a place among those from before, or it is this call
  abbrev At : ℕ → WasmImport → Import → Type 0
  At k v j = ((slice_get ws k ≡ Some v) × (slice_get is k ≡ Some j)) ⊎ ((k ≡ length ws) × (w ≡ v) × (call ≡ j))

  pub starts-new : AreStartCallsNamed types (adapters ++ a ∷ []) (ws ++ w ∷ []) (is ++ call ∷ [])
  starts-new = record {
    named = λ k v callback post_return at is_at. elim (both-before ws is w call even k v (known.StartCall callback post_return) at is_at) [
      | inl x ↦ named-behind types adapters a v callback post_return (h.named k v callback post_return x.0 x.1)
      | inr last ↦
          let same = same_calls last.2 in
          subst (λ (u : WasmImport). IsStartNamed types (adapters ++ a ∷ []) u callback post_return) last.1
          (subst (λ p. IsStartNamed types (adapters ++ a ∷ []) w callback p) same.1 (subst (λ c. IsStartNamed types (adapters ++ a ∷ []) w c a.lift.post_return) same.0 here))
    ];
    once = λ j k v u callback post_return at_j at_k is_j is_k same.
        once_by j k v u callback post_return same (both-before ws is w call even j v (known.StartCall callback post_return) at_j is_j) (both-before ws is w call even k u (known.StartCall callback post_return) at_k is_k);
    each = λ k b at b_awaited. elim (last-or-before adapters a k b at) [
      | inl x ↦ start-behind types ws is w call b (h.each k b x b_awaited)
      | inr last ↦ subst (HasStartOf types (ws ++ w ∷ []) (is ++ call ∷ [])) last.1 (record { place = length ws; import = w; there = get-last ws w; is_call = subst (λ n. slice_get (is ++ call ∷ []) n ≡ Some call) (sym even) (get-last is call); typed = typed })
    ];
  }
    where
      once_by : (j k : ℕ) (v u : WasmImport) (callback post_return : Option CoreDef) → imported_type types v.ty ≡ imported_type types u.ty
          → At j v (known.StartCall callback post_return) → At k u (known.StartCall callback post_return) → j ≡ k
      once_by j k v u callback post_return same (inl x) (inl y) = h.once j k v u callback post_return x.0 y.0 x.1 y.1 same
      once_by j k v u callback post_return same (inr x) (inr y) = x.0 ∙ sym y.0
      once_by j k v u callback post_return same (inl x) (inr y) = absurd (not-both j v callback post_return x.0 x.1 y.2 (same ∙ sym (ap (λ (b : WasmImport). imported_type types b.ty) y.1)))
      once_by j k v u callback post_return same (inr x) (inl y) = absurd (not-both k u callback post_return y.0 y.1 x.2 (sym same ∙ sym (ap (λ (b : WasmImport). imported_type types b.ty) x.1)))

-- ---- prepare-calls

prepares-append : (ws vs : List WasmImport) (is js : List Import) → length ws ≡ length is → prepares_in (ws ++ vs) (is ++ js) ≡ prepares_in ws is ++ prepares_in vs js
prepares-append [] vs [] js e = refl
prepares-append [] vs (i ∷ is) js e = absurd (omega arith)
prepares-append (w ∷ ws) vs [] js e = absurd (omega arith)
prepares-append (w ∷ ws) vs (i ∷ is) js e = ap (λ l. if_prepare w i ++ l) (prepares-append ws vs is js (omega arith)) ∙ sym (append_assoc (if_prepare w i) (prepares_in ws is) (prepares_in vs js))

-- one more import, which is no prepare-call
pub prepares-other : (ws : List WasmImport) (is : List Import) (w : WasmImport) (i : Import) → length ws ≡ length is → if_prepare w i ≡ [] → prepares_in (ws ++ w ∷ []) (is ++ i ∷ []) ≡ prepares_in ws is
prepares-other ws is w i even none = prepares-append ws (w ∷ []) is (i ∷ []) even ∙ ap (λ l. prepares_in ws is ++ (l ++ [])) none ∙ append-nil (prepares_in ws is)

pub prepares-one : (ws : List WasmImport) (is : List Import) (w : WasmImport) (memory : Option CoreDef) → length ws ≡ length is
    → prepares_in (ws ++ w ∷ []) (is ++ known.PrepareCall memory ∷ []) ≡ prepares_in ws is ++ (w, memory) ∷ []
prepares-one ws is w memory even = prepares-append ws (w ∷ []) is (known.PrepareCall memory ∷ []) even

awaited-more : (adapters : List LinkedAdapter) (a : LinkedAdapter) (b : Bool) → is_awaited a ≡ b → filter is_awaited (adapters ++ a ∷ []) ≡ filter is_awaited adapters ++ cond b (a ∷ []) []
awaited-more adapters a b e = filter-append is_awaited adapters (a ∷ []) ∙ ap (λ b. filter is_awaited adapters ++ cond b (a ∷ []) []) e

-- an adapter comes behind that has no prepare-call
pub prepares-without : (types : List FuncType) (xs : List (WasmImport × Option CoreDef)) (adapters : List LinkedAdapter) (a : LinkedAdapter) → is_awaited a ≡ false
    → AllZip (IsPrepareNamed types) xs (filter is_awaited adapters) → AllZip (IsPrepareNamed types) xs (filter is_awaited (adapters ++ a ∷ []))
prepares-without types xs adapters a e h = subst (AllZip (IsPrepareNamed types) xs) (sym (awaited-more adapters a false e ∙ append-nil (filter is_awaited adapters))) h

-- one comes with its prepare-call
pub prepares-with : (types : List FuncType) (xs : List (WasmImport × Option CoreDef)) (adapters : List LinkedAdapter) (a : LinkedAdapter) (x : WasmImport × Option CoreDef) → is_awaited a ≡ true → IsPrepareNamed types x a
    → AllZip (IsPrepareNamed types) xs (filter is_awaited adapters) → AllZip (IsPrepareNamed types) (xs ++ x ∷ []) (filter is_awaited (adapters ++ a ∷ []))
prepares-with types xs adapters a x e p h =
    subst (AllZip (IsPrepareNamed types) (xs ++ x ∷ [])) (sym (awaited-more adapters a true e)) (zip_more (IsPrepareNamed types) xs (filter is_awaited adapters) x a h p)

-- ---- all calls

pub calls-nothing : (types : List FuncType) → AreTaskCallsNamed types [] [] []
calls-nothing types = record {
  starts = record {
    named = λ k w callback post_return at is_at. absurd cc;
    once = λ j k v w callback post_return at_j at_k is_j is_k same. absurd cc;
    each = λ k a at awaited. absurd cc;
  };
  prepares = tt;
}

pub calls-typed : (types more : List FuncType) (adapters : List LinkedAdapter) (ws : List WasmImport) (is : List Import) → AreTaskCallsNamed types adapters ws is → AreTaskCallsNamed (types ++ more) adapters ws is
calls-typed types more adapters ws is h = record { starts = starts-typed types more adapters ws is h.starts; prepares = prepares-typed types more (prepares_in ws is) (filter is_awaited adapters) h.prepares }

-- one more adapter that has no calls
pub calls-without : (types : List FuncType) (adapters : List LinkedAdapter) (ws : List WasmImport) (is : List Import) (a : LinkedAdapter) → is_awaited a ≡ false → AreTaskCallsNamed types adapters ws is
    → AreTaskCallsNamed types (adapters ++ a ∷ []) ws is
calls-without types adapters ws is a e h = record {
  starts = starts-with types adapters ws is a (λ awaited. absurd (false≢true (sym e ∙ awaited))) h.starts;
  prepares = prepares-without types (prepares_in ws is) adapters a e h.prepares;
}

-- what is made once is no prepare-call
no_prepare : (w : WasmImport) (i : Import) → is_made_once i ≡ true → if_prepare w i ≡ []
no_prepare w (known.CoreDef d) made = refl
no_prepare w (known.Trap t) made = refl
no_prepare w (known.Transcode a b c d e) made = refl
no_prepare w known.ResourceTransferOwn made = refl
no_prepare w known.ResourceTransferBorrow made = refl
no_prepare w (known.PrepareCall m) made = absurd (false≢true made)
no_prepare w (known.StartCall c p) made = refl
no_prepare w known.FutureTransfer made = refl
no_prepare w known.StreamTransfer made = refl
no_prepare w known.ErrorContextTransfer made = refl
no_prepare w known.EnterSyncCall made = refl
no_prepare w known.ExitSyncCall made = refl
no_prepare w (known.UnsafeIntrinsic s) made = refl

-- one more import that is made once
pub calls-behind : (types : List FuncType) (adapters : List LinkedAdapter) (ws : List WasmImport) (is : List Import) (w : WasmImport) (i : Import) → length ws ≡ length is → is_made_once i ≡ true
    → AreTaskCallsNamed types adapters ws is → AreTaskCallsNamed types adapters (ws ++ w ∷ []) (is ++ i ∷ [])
calls-behind types adapters ws is w i even made h = record {
  starts = starts-behind types adapters ws is w i even h.starts (λ callback post_return e. no_start i callback post_return made e);
  prepares = subst (λ xs. AllZip (IsPrepareNamed types) xs (filter is_awaited adapters)) (sym (prepares-other ws is w i even (no_prepare w i made))) h.prepares;
}
