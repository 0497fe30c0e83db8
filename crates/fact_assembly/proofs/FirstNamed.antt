-- The imported functions that code is the first to name, by their numbers: those of core definitions left out.
use Rattle.std.proofs.Common.{◌≡◌, ℕ, suc, ◌+◌, ◌<◌, Bool, true, false, List, [], ◌∷◌, ◌++◌, Some, None, refl, sym, ap, ◌∙◌, arith, get_or, length, slice_get, append-nil, nat_eq}
use Rattle.std.specs.Prelude.{cond, filter, not, ◌||◌}
use Rattle.std.specs.List.{AllByRecursion, cons_option, list_any, range_with_len}
use Rattle.std.proofs.lemmas.Bool.{eq-eqb, eqb-true, true≢false}
use Rattle.std.proofs.lemmas.List.Elements.{filter-append}
use Rattle.std.proofs.lemmas.List.Folds.{list_any-append, list_any_at}
use Rattle.std.proofs.lemmas.List.FromFn.{get_or-range_with_len, length-range_with_len}
use Rattle.fact_wasm.specs.declared.types.FuncType.{FuncType}
use Rattle.fact_wasm.specs.declared.module.WasmImport.{WasmImport}
use Rattle.fact_types.specs.declared.import.Import.{Import}
use Rattle.fact_types.specs.declared.import.Import.TheVariants as known
use Rattle.fact_emit.specs.ImportSection.{AreNamed, IsNamed, Mention, a_function, imported_type, imports_of, is_of, same_sort}
use Rattle.fact_emit.specs.NamedFunctions.{added_once, all_added_once}
use Rattle.fact_emit.proofs.Named.{function-sort}
use Rattle.fact_emit.proofs.NamedLaws.{added_on}
use Rattle.fact_assembly.specs.Order.{is_definition, is_prepare_call, item_of, items, prepare_calls_last}
use Rattle.fact_assembly.proofs.Ordered.{numbers_of, other_number}

-- ---- numbers that pass a test

module _ (p : ℕ → Bool) where
  pub any_kept : (k : ℕ) → p k ≡ true → (ns : List ℕ) → list_any (λ x. nat_eq x k) (filter p ns) ≡ list_any (λ x. nat_eq x k) ns
  any_kept k passes [] = refl
  any_kept k passes (x ∷ ns) = step (p x) refl (nat_eq x k) refl (any_kept k passes ns)
    where
      step : (b : Bool) → p x ≡ b → (c : Bool) → nat_eq x k ≡ c → list_any (λ x. nat_eq x k) (filter p ns) ≡ list_any (λ x. nat_eq x k) ns
          → list_any (λ x. nat_eq x k) (cond b (x ∷ filter p ns) (filter p ns)) ≡ (nat_eq x k || list_any (λ x. nat_eq x k) ns)
      step true e c f rest = ap (λ d. nat_eq x k || d) rest
      step false e true f rest = absurd (true≢false (sym (ap p (eqb-true x k f) ∙ passes) ∙ e))
      step false e false f rest = rest ∙ ap (λ c. c || list_any (λ x. nat_eq x k) ns) (sym f)

  one_kept : (k : ℕ) (ns : List ℕ) → filter p (added_once ns k) ≡ all_added_once (filter p ns) (filter p (k ∷ []))
  one_kept k ns = step (p k) refl (list_any (λ x. nat_eq x k) ns) refl
    where
      step : (b : Bool) → p k ≡ b → (c : Bool) → list_any (λ x. nat_eq x k) ns ≡ c → filter p (cond c ns (ns ++ k ∷ [])) ≡ all_added_once (filter p ns) (cond b (k ∷ []) [])
      step true e true f = rw (any_kept k e ns, f) refl
      step true e false f = rw (any_kept k e ns, f) (filter-append p ns (k ∷ []) ∙ ap (λ b. filter p ns ++ cond b (k ∷ []) []) e)
      step false e true f = refl
      step false e false f = filter-append p ns (k ∷ []) ∙ ap (λ b. filter p ns ++ cond b (k ∷ []) []) e ∙ append-nil (filter p ns)

  pub added_kept : (ns ks : List ℕ) → filter p (all_added_once ns ks) ≡ all_added_once (filter p ns) (filter p ks)
  added_kept ns [] = refl
  added_kept ns (k ∷ ks) = added_kept (added_once ns k) ks ∙ ap (λ ms. all_added_once ms (filter p ks)) (one_kept k ns) ∙ step (p k)
    where
      step : (b : Bool) → all_added_once (all_added_once (filter p ns) (cond b (k ∷ []) [])) (filter p ks) ≡ all_added_once (filter p ns) (cond b (k ∷ filter p ks) (filter p ks))
      step true = refl
      step false = refl

-- ---- the numbers of the functions that are no core definitions

abbrev pub is_other : List Import → ℕ → Bool
is_other all n = not (is_definition (slice_get all n))

-- an import of a function is of the functions
function_kind : {A : Type 0} (types : List FuncType) (w : WasmImport) {t : FuncType} → imported_type types w.ty ≡ Some t → is_of a_function w ≡ false → A
function_kind types w typed e = let same : is_of a_function w ≡ true = ap (same_sort a_function) (function-sort types w.ty _ typed) in absurd (true≢false (sym same ∙ e))

no_function : (types : List FuncType) (ms : List Mention) (before : List WasmImport) (w : WasmImport) (n : ℕ) (i : Import) → IsNamed types ms before w i → is_of a_function w ≡ false → other_number (item_of n i) ≡ None
no_function types ms before w n (known.CoreDef d) h e = refl
no_function types ms before w n (known.Trap t) h e = function_kind types w h.is_typed e
no_function types ms before w n known.ResourceTransferOwn h e = function_kind types w h.is_typed e
no_function types ms before w n known.ResourceTransferBorrow h e = function_kind types w h.is_typed e
no_function types ms before w n known.FutureTransfer h e = function_kind types w h.is_typed e
no_function types ms before w n known.StreamTransfer h e = function_kind types w h.is_typed e
no_function types ms before w n known.ErrorContextTransfer h e = function_kind types w h.is_typed e
no_function types ms before w n known.EnterSyncCall h e = function_kind types w h.is_typed e
no_function types ms before w n known.ExitSyncCall h e = function_kind types w h.is_typed e
no_function types ms before w n (known.UnsafeIntrinsic s) h e = function_kind types w h.is_typed e
no_function types ms before w n (known.Transcode a b c d e) h g = function_kind types w h g
no_function types ms before w n (known.PrepareCall a) h g = function_kind types w h.1 g
no_function types ms before w n (known.StartCall a b) h g = function_kind types w h.1 g

one_number : (n : ℕ) (i : Import) (ns : List ℕ) → cons_option (other_number (item_of n i)) ns ≡ cond (not (is_definition (Some i))) (n ∷ ns) ns
one_number n (known.CoreDef d) ns = refl
one_number n i ns = refl

pub numbers_others : (all : List Import) (types : List FuncType) (ms : List Mention) (n : ℕ) (before ws : List WasmImport) (is : List Import) → AreNamed types ms before ws is
    → ((k : ℕ) (i : Import) → slice_get (imports_of a_function ws is) k ≡ Some i → slice_get all (n + k) ≡ Some i)
    → numbers_of (items n ws is) ≡ filter (is_other all) (range_with_len n (length (imports_of a_function ws is)))
numbers_others all types ms n before [] [] h at = refl
numbers_others all types ms n before [] (i ∷ is) h at = absurd h
numbers_others all types ms n before (w ∷ ws) [] h at = absurd h
numbers_others all types ms n before (w ∷ ws) (i ∷ is) h at =
    step (is_of a_function w) refl at (λ m f. numbers_others all types ms m (before ++ w ∷ []) ws is h.1 f)
  where
    rest : List Import
    rest = imports_of a_function ws is

    step : (b : Bool) → is_of a_function w ≡ b → ((k : ℕ) (j : Import) → slice_get (cond b (i ∷ rest) rest) k ≡ Some j → slice_get all (n + k) ≡ Some j)
        → ((m : ℕ) → ((k : ℕ) (j : Import) → slice_get rest k ≡ Some j → slice_get all (m + k) ≡ Some j) → numbers_of (items m ws is) ≡ filter (is_other all) (range_with_len m (length rest)))
        → cons_option (other_number (item_of n i)) (numbers_of (items (cond b (suc n) n) ws is)) ≡ filter (is_other all) (range_with_len n (length (cond b (i ∷ rest) rest)))
    step true e at more =
        let here : slice_get all n ≡ Some i = (let same : n ≡ n + 0 = omega arith in ap (slice_get all) same) ∙ at 0 i refl in
        let next : suc n ≡ n + 1 = omega arith in
        let behind : numbers_of (items (suc n) ws is) ≡ filter (is_other all) (range_with_len (n + 1) (length rest)) =
        more (suc n) (λ k j f. (let same : suc n + k ≡ n + suc k = omega arith in ap (slice_get all) same) ∙ at (suc k) j f) ∙ ap (λ m. filter (is_other all) (range_with_len m (length rest))) next in
        ap (cons_option (other_number (item_of n i))) behind ∙ one_number n i _ ∙ ap (λ o. cond (not (is_definition o)) (n ∷ filter (is_other all) (range_with_len (n + 1) (length rest))) (filter (is_other all) (range_with_len (n + 1) (length rest)))) (sym here)
    step false e at more = ap (λ o. cons_option o (numbers_of (items n ws is))) (no_function types ms before w n i h.0 e) ∙ more n at

-- ---- prepare-calls that are there already

-- a number that is there stays there
there_still : (ns : List ℕ) (j k : ℕ) → list_any (λ x. nat_eq x k) ns ≡ true → list_any (λ x. nat_eq x k) (added_once ns j) ≡ true
there_still ns j k there = by (list_any (λ x. nat_eq x j) ns)
  where
    by : (b : Bool) → list_any (λ x. nat_eq x k) (cond b ns (ns ++ j ∷ [])) ≡ true
    by true = there
    by false = list_any-append (λ x. nat_eq x k) ns (j ∷ []) ∙ ap (λ c. c || list_any (λ x. nat_eq x k) (j ∷ [])) there

there_added : (ns : List ℕ) (k : ℕ) → list_any (λ x. nat_eq x k) ns ≡ true → added_once ns k ≡ ns
there_added ns k there = rw there refl

-- each number below a bound is there among those below it
pub any_below : (n k : ℕ) → k < n → list_any (λ x. nat_eq x k) (range_with_len 0 n) ≡ true
any_below n k lt =
    let is : get_or (range_with_len 0 n) k 0 ≡ k = omega (arith, get_or-range_with_len 0 n k 0 lt) in
    list_any_at (λ x. nat_eq x k) (range_with_len 0 n) k 0 (omega (arith, lt, length-range_with_len 0 n)) (eq-eqb (get_or (range_with_len 0 n) k 0) k is)

pub all_with : (P Q : ℕ → Type 0) → ((k : ℕ) → P k → Q k) → (ks : List ℕ) → AllByRecursion P ks → AllByRecursion Q ks
all_with P Q f [] h = tt
all_with P Q f (k ∷ ks) h = (f k h.0, all_with P Q f ks h.1)

module _ (p : ℕ → Bool) where
  abbrev AreThere : (ns ks : List ℕ) → Type 0
  AreThere ns ks = AllByRecursion (λ k. p k ≡ true → list_any (λ x. nat_eq x k) ns ≡ true) ks

  those_still : (ns : List ℕ) (j : ℕ) (ks : List ℕ) → AreThere ns ks → AreThere (added_once ns j) ks
  those_still ns j = all_with (λ k. p k ≡ true → list_any (λ x. nat_eq x k) ns ≡ true) (λ k. p k ≡ true → list_any (λ x. nat_eq x k) (added_once ns j) ≡ true) (λ k h e. there_still ns j k (h e))

  those_after : (ns js ks : List ℕ) → AreThere ns ks → AreThere (all_added_once ns js) ks
  those_after ns [] ks h = h
  those_after ns (j ∷ js) ks h = those_after (added_once ns j) js ks (those_still ns j ks h)

  -- where they are left out
  left_out : (ns ks : List ℕ) → AreThere ns ks → all_added_once ns (filter (λ k. not (p k)) ks) ≡ all_added_once ns ks
  left_out ns [] h = refl
  left_out ns (k ∷ ks) h = step (p k) refl (λ ms g. left_out ms ks g)
    where
      step : (b : Bool) → p k ≡ b → ((ms : List ℕ) → AreThere ms ks → all_added_once ms (filter (λ k. not (p k)) ks) ≡ all_added_once ms ks)
          → all_added_once ns (cond (not b) (k ∷ filter (λ k. not (p k)) ks) (filter (λ k. not (p k)) ks)) ≡ all_added_once (added_once ns k) ks
      step true e rest = rest ns h.1 ∙ ap (λ ms. all_added_once ms ks) (sym (there_added ns k (h.0 e)))
      step false e rest = rest (added_once ns k) (those_still ns k ks h.1)

  -- and where they come again
  come_again : (ns ks : List ℕ) → AreThere ns ks → all_added_once ns (filter p ks) ≡ ns
  come_again ns [] h = refl
  come_again ns (k ∷ ks) h = step (p k) refl (come_again ns ks h.1)
    where
      step : (b : Bool) → p k ≡ b → all_added_once ns (filter p ks) ≡ ns → all_added_once ns (cond b (k ∷ filter p ks) (filter p ks)) ≡ ns
      step true e rest = ap (λ ms. all_added_once ms (filter p ks)) (there_added ns k (h.0 e)) ∙ rest
      step false e rest = rest

-- Where each prepare-call among them is there already, the others come in their order.
pub calls_in_order : (all : List Import) (ns ks : List ℕ) → AllByRecursion (λ k. is_prepare_call (slice_get all k) ≡ true → list_any (λ x. nat_eq x k) ns ≡ true) ks
    → all_added_once ns (prepare_calls_last all ks) ≡ all_added_once ns ks
calls_in_order all ns ks h =
    let p : ℕ → Bool = λ k. is_prepare_call (slice_get all k) in
    added_on ns (filter (λ k. not (p k)) ks) (filter p ks)
    ∙ ap (λ ms. all_added_once ms (filter p ks)) (left_out p ns ks h)
    ∙ come_again p (all_added_once ns ks) ks (those_after p ns ks ks h)

-- a test that each number passes, those that are left out apart
pub all_filtered : (p : ℕ → Bool) (P : ℕ → Type 0) (ns : List ℕ) → AllByRecursion P ns → AllByRecursion P (filter p ns)
all_filtered p P [] h = tt
all_filtered p P (n ∷ ns) h = step (p n) (all_filtered p P ns h.1)
  where
    step : (b : Bool) → AllByRecursion P (filter p ns) → AllByRecursion P (cond b (n ∷ filter p ns) (filter p ns))
    step true rest = (h.0, rest)
    step false rest = rest
