-- Mentions of core definitions, and the imports that are what they mention.
use Rattle.std.proofs.Common.{◌≡◌, ℕ, zero, suc, Bool, true, false, List, [], ◌∷◌, ◌++◌, Some, None, Option, Contains, refl, sym, ap, ◌∙◌, subst, slice_get, append-nil, append_assoc, inl, inr}
use Rattle.std.specs.Prelude.{cond}
use Rattle.std.specs.Cmp.{first_so, second_so}
use Rattle.std.specs.List.{cons_option, filter_map, flat_map}
use Rattle.std.proofs.lemmas.Bool.{eqb-true, eq-eqb, true≢false}
use Rattle.std.proofs.lemmas.Grind.{flat_map-append}
use Rattle.std.proofs.lemmas.List.Elements.{Contains-append_left, Contains-append_cases, Contains-append_right}
use Rattle.std.proofs.lemmas.List.Folds.{Any-from_list_any}
use Rattle.std.proofs.lemmas.Map.Keys.{any_passes_from_place}
use Rattle.std.proofs.lemmas.Option.{slice_get-get_or}
use Rattle.std.proofs.lemmas.Slice.Eq.{bytes_eq-Decides}
use Rattle.fact_wasm.specs.declared.module.WasmImport.{WasmImport}
use Rattle.fact_types.specs.declared.outside.CoreDef.{CoreDef}
use Rattle.fact_types.specs.declared.outside.CoreDef.TheVariants as def
use Rattle.fact_types.specs.Adapters.{LinkedAdapter, same_def}
use Rattle.fact_types.specs.Exact.{exact_key}
use Rattle.fact_types.specs.declared.import.Import.{Import}
use Rattle.fact_types.specs.declared.import.Import.TheVariants as known
use Rattle.fact_emit.specs.ImportSection.{Mention, Sort, a_function, a_global, a_memory, adapter_mentions, def_of, imports_of, is_mentioned, is_of, mentions, same_sort, sort_of, with_mention, with_mentions}

-- ---- definitions that are equal by content

pub same-exact : (a b : CoreDef) → same_def a b ≡ true → a ≡ b
same-exact (def.Export i x) (def.Export j y) h =
    let e1 = eqb-true i.number j.number (first_so _ _ h) in
    let e2 = (bytes_eq-Decides x y).0 (second_so _ _ h) in
    λ k. def.Export (record { number = e1 k; table = i.table }) (e2 k)
same-exact (def.InstanceFlags i) (def.InstanceFlags j) h = ap def.InstanceFlags (exact_key i j h)
same-exact (def.Trampoline i) (def.Trampoline j) h = ap def.Trampoline (exact_key i j h)
same-exact a b h = absurd (true≢false (sym h))

pub same-itself : (a : CoreDef) → same_def a a ≡ true
same-itself (def.Export i x) = rw (eq-eqb i.number i.number refl) ((bytes_eq-Decides x x).1 refl)
same-itself (def.InstanceFlags i) = eq-eqb i.number i.number refl
same-itself (def.Trampoline i) = eq-eqb i.number i.number refl

-- a definition that is mentioned has a mention
pub mention-of : (d : CoreDef) (ms : List Mention) → is_mentioned d ms ≡ true → (k : ℕ) × (r : Mention) × (slice_get ms k ≡ Some r) × (r.def ≡ d)
mention-of d ms h =
    let (k, r, within, is, same) = Any-from_list_any (λ r. same_def r.def d) ms h in
    (k, r, slice_get-get_or ms k r within ∙ ap Some is, same-exact r.def d same)

pub mentioned : (d : CoreDef) (ms : List Mention) (k : ℕ) (r : Mention) → slice_get ms k ≡ Some r → r.def ≡ d → is_mentioned d ms ≡ true
mentioned d ms k r at is = any_passes_from_place (λ r. same_def r.def d) ms k r at (rw is (same-itself d))

-- ---- what a partial function gives of a list

module _ {X Y : Type 0} (f : X → Option Y) where
  pub given : (xs : List X) (k : ℕ) (x : X) (y : Y) → slice_get xs k ≡ Some x → f x ≡ Some y → (m : ℕ) × (slice_get (filter_map f xs) m ≡ Some y)
  given [] k x y e g = cc
  given (z ∷ xs) zero x y e g = let is_x : z ≡ x = cc in (0, ap (λ o. slice_get (cons_option o (filter_map f xs)) 0) (ap f is_x ∙ g))
  given (z ∷ xs) (suc k) x y e g = later (f z) (given xs k x y e g)
    where
      later : (o : Option Y) → (m : ℕ) × (slice_get (filter_map f xs) m ≡ Some y) → (m : ℕ) × (slice_get (cons_option o (filter_map f xs)) m ≡ Some y)
      later None r = r
      later (Some w) r = (suc r.0, r.1)

  pub giver : (xs : List X) (m : ℕ) (y : Y) → slice_get (filter_map f xs) m ≡ Some y → (k : ℕ) × (x : X) × (slice_get xs k ≡ Some x) × (f x ≡ Some y)
  giver [] m y e = cc
  giver (z ∷ xs) m y e = cases (f z) refl m e (giver xs)
    where
      cases : (o : Option Y) → f z ≡ o → (m : ℕ) → slice_get (cons_option o (filter_map f xs)) m ≡ Some y
          → ((n : ℕ) (y : Y) → slice_get (filter_map f xs) n ≡ Some y → (k : ℕ) × (x : X) × (slice_get xs k ≡ Some x) × (f x ≡ Some y))
          → (k : ℕ) × (x : X) × (slice_get (z ∷ xs) k ≡ Some x) × (f x ≡ Some y)
      cases None is m e rest = let (k, x, at, g) = rest m y e in (suc k, x, at, g)
      cases (Some w) is zero e rest = (0, z, refl, is ∙ e)
      cases (Some w) is (suc m) e rest = let (k, x, at, g) = rest m y e in (suc k, x, at, g)

pub def_of-is : (i : Import) (d : CoreDef) → def_of i ≡ Some d → i ≡ known.CoreDef d
def_of-is (known.CoreDef e) d h = ap known.CoreDef cc
def_of-is (known.Trap t) d h = cc
def_of-is (known.Transcode a b c e f) d h = cc
def_of-is known.ResourceTransferOwn d h = cc
def_of-is known.ResourceTransferBorrow d h = cc
def_of-is (known.PrepareCall a) d h = cc
def_of-is (known.StartCall a b) d h = cc
def_of-is known.FutureTransfer d h = cc
def_of-is known.StreamTransfer d h = cc
def_of-is known.ErrorContextTransfer d h = cc
def_of-is known.EnterSyncCall d h = cc
def_of-is known.ExitSyncCall d h = cc
def_of-is (known.UnsafeIntrinsic a) d h = cc

same-sort : (sort : Sort) → same_sort sort sort ≡ true
same-sort a_function = refl
same-sort a_memory = refl
same-sort a_global = refl

-- ---- imports of a kind are imports, and each import is one of its kind

pub of-a-kind : (sort : Sort) (ws : List WasmImport) (is : List Import) (n : ℕ) (i : Import) → slice_get (imports_of sort ws is) n ≡ Some i → (k : ℕ) × (slice_get is k ≡ Some i)
of-a-kind sort [] [] n i e = cc
of-a-kind sort [] (j ∷ is) n i e = cc
of-a-kind sort (w ∷ ws) [] n i e = cc
of-a-kind sort (w ∷ ws) (j ∷ is) n i e = cases (is_of sort w) n e (of-a-kind sort ws is)
  where
    cases : (b : Bool) (n : ℕ) → slice_get (cond b (j ∷ imports_of sort ws is) (imports_of sort ws is)) n ≡ Some i
        → ((m : ℕ) (i : Import) → slice_get (imports_of sort ws is) m ≡ Some i → (k : ℕ) × (slice_get is k ≡ Some i)) → (k : ℕ) × (slice_get (j ∷ is) k ≡ Some i)
    cases true zero e rest = (0, e)
    cases true (suc n) e rest = let r = rest n i e in (suc r.0, r.1)
    cases false n e rest = let r = rest n i e in (suc r.0, r.1)

pub in-its-kind : (ws : List WasmImport) (is : List Import) (k : ℕ) (w : WasmImport) (i : Import) → slice_get ws k ≡ Some w → slice_get is k ≡ Some i → (n : ℕ) × (slice_get (imports_of (sort_of w.ty) ws is) n ≡ Some i)
in-its-kind [] is k w i e f = cc
in-its-kind (v ∷ ws) [] k w i e f = cc
in-its-kind (v ∷ ws) (j ∷ is) zero w i e f = let same : v ≡ w = cc in let is_i : j ≡ i = cc in (0, rw (same, same-sort (sort_of w.ty)) (ap Some is_i))
in-its-kind (v ∷ ws) (j ∷ is) (suc k) w i e f = later (is_of (sort_of w.ty) v) (in-its-kind ws is k w i e f)
  where
    later : (b : Bool) → (n : ℕ) × (slice_get (imports_of (sort_of w.ty) ws is) n ≡ Some i) → (n : ℕ) × (slice_get (cond b (j ∷ imports_of (sort_of w.ty) ws is) (imports_of (sort_of w.ty) ws is)) n ≡ Some i)
    later true r = (suc r.0, r.1)
    later false r = r

-- ---- first mentions

pub in-one : (ms : List Mention) (x r : Mention) → Contains (with_mention ms x) r → Contains (ms ++ x ∷ []) r
in-one ms x r c = cases (is_mentioned x.def ms) c
  where
    cases : (b : Bool) → Contains (cond b ms (ms ++ x ∷ [])) r → Contains (ms ++ x ∷ []) r
    cases true c = Contains-append_left ms (x ∷ []) r c
    cases false c = c

-- each first mention is one of the mentions
pub in-mentions : (ms xs : List Mention) (r : Mention) → Contains (with_mentions ms xs) r → Contains (ms ++ xs) r
in-mentions ms [] r c = subst (λ l. Contains l r) (sym (append-nil ms)) c
in-mentions ms (x ∷ xs) r c =
    elim (Contains-append_cases (with_mention ms x) xs r (in-mentions (with_mention ms x) xs r c)) [
      | inl a ↦ subst (λ l. Contains l r) (append_assoc ms (x ∷ []) xs) (Contains-append_left (ms ++ x ∷ []) xs r (in-one ms x r a))
      | inr b ↦ subst (λ l. Contains l r) (append_assoc ms (x ∷ []) xs) (Contains-append_right (ms ++ x ∷ []) xs r b)
    ]

pub mentions-on : (ms xs ys : List Mention) → with_mentions ms (xs ++ ys) ≡ with_mentions (with_mentions ms xs) ys
mentions-on ms [] ys = refl
mentions-on ms (x ∷ xs) ys = mentions-on (with_mention ms x) xs ys

-- those of one adapter more
pub mentions-push : (adapters : List LinkedAdapter) (a : LinkedAdapter) → mentions (adapters ++ a ∷ []) ≡ with_mentions (mentions adapters) (adapter_mentions a)
mentions-push adapters a =
    ap (with_mentions []) (flat_map-append adapter_mentions adapters (a ∷ []) ∙ ap (λ l. flat_map adapter_mentions adapters ++ l) (append-nil (adapter_mentions a)))
    ∙ mentions-on [] (flat_map adapter_mentions adapters) (adapter_mentions a)
