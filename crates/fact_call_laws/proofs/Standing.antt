-- What a module imports at a number: the import of one place, which stands at no other number.
use Rattle.std.proofs.Common.{◌≡◌, ◌≢◌, ℕ, zero, suc, ◌<◌, ◌⊎◌, inl, inr, Bool, true, false, List, [], ◌∷◌, ◌++◌, Some, AllPairs, refl, sym, ap, ◌∙◌, subst, arith, cond, length, filter, get_or, slice_get}
use Rattle.std.proofs.lemmas.Bool.{true≢false}
use Rattle.std.proofs.lemmas.List.Sums.{position_or_len_is}
use Rattle.std.proofs.lemmas.Option.{slice_get-get_or, get_or_from_slice_get, slice_get_within}
use Rattle.fact_wasm.specs.declared.types.FuncType.{FuncType}
use Rattle.fact_wasm.specs.declared.module.ImportType.{ImportType}
use Rattle.fact_wasm.specs.declared.module.ImportType.TheVariants as import
use Rattle.fact_wasm.specs.declared.module.WasmImport.{WasmImport}
use Rattle.fact_types.specs.declared.import.Import.{Import}
use Rattle.fact_types.proofs.ShapeLaws.{same_some, none_some}
use Rattle.fact_host.specs.Roles.{is_function}
use Rattle.fact_emit.specs.ImportSection.{Mention, AreNamed, IsNamed, Sort, a_function, imports_of, is_made_once, is_of, same_sort, sort_of}
use Rattle.fact_emit.specs.PlacesOf.{place_among, same_import}
use Rattle.fact_emit.proofs.PlacesOfLaws.{exact_import, import_self}

-- ---- at a number

-- At this number among imported functions stands this one, which is the import of a place, named as what it is behind those before it.
pub record Stands (types : List FuncType) (ms : List Mention) (ws : List WasmImport) (is functions : List Import) (n : ℕ) (w : WasmImport) : Type 0 where
  pub place : ℕ
  pub what : Import
  pub before : List WasmImport
  pub entry_there : slice_get ws place ≡ Some w
  pub what_there : slice_get is place ≡ Some what
  pub named : IsNamed types ms before w what
  pub there : slice_get functions n ≡ Some what

pub stands : (types : List FuncType) (ms : List Mention) (before ws : List WasmImport) (is : List Import) (n : ℕ) (w : WasmImport) → AreNamed types ms before ws is
    → slice_get (filter is_function ws) n ≡ Some w → Stands types ms ws is (imports_of a_function ws is) n w
stands types ms before [] is n w named h = absurd (none_some (slice_get {X = WasmImport} [] n) w refl h)
stands types ms before (v ∷ ws) [] n w named h = absurd named
stands types ms before (v ∷ ws) (i ∷ is) n w named h = by_type v.ty n h (λ k e. stands types ms (before ++ v ∷ []) ws is k w named.1 e)
  where
    behind : List Import
    behind = imports_of a_function ws is

    more : (k j : ℕ) (functions : List Import) → (s : Stands types ms ws is behind k w) → slice_get functions j ≡ slice_get behind k → Stands types ms (v ∷ ws) (i ∷ is) functions j w
    more k j functions s e = record { place = suc s.place; what = s.what; before = s.before; entry_there = s.entry_there; what_there = s.what_there; named = s.named; there = e ∙ s.there }

    by_type : (ty : ImportType) (n : ℕ)
        → slice_get (cond (elim ty as (λ (x : ImportType). Bool) [ import.Func t ↦ true | import.Memory a b c ↦ false | import.Global a b ↦ false ]) (v ∷ filter is_function ws) (filter is_function ws)) n ≡ Some w
        → ((k : ℕ) → slice_get (filter is_function ws) k ≡ Some w → Stands types ms ws is behind k w)
        → Stands types ms (v ∷ ws) (i ∷ is) (cond (same_sort a_function (sort_of ty)) (i ∷ behind) behind) n w
    by_type (import.Func t) zero h rest =
        let same : v ≡ w = cc in
        record { place = 0; what = i; before = before; entry_there = ap Some same; what_there = refl; named = subst (λ x. IsNamed types ms before x i) same named.0; there = refl }
    by_type (import.Func t) (suc k) h rest = more k (suc k) (i ∷ behind) (rest k h) refl
    by_type (import.Memory a b c) k h rest = more k k behind (rest k h) refl
    by_type (import.Global a b) k h rest = more k k behind (rest k h) refl

-- ---- once

-- it is one of these
abbrev pub In : Import → List Import → Type 0
In x [] = ⊥
In x (i ∷ is) = (i ≡ x) ⊎ In x is

-- none that is made once stands at two places
abbrev pub AreApart : List Import → Type 0
AreApart [] = Unit {0}
AreApart (i ∷ is) = (is_made_once i ≡ true → In i is → ⊥) × AreApart is

in_kept : (x : Import) (is : List Import) → is_made_once x ≡ true → In x is → In x (filter is_made_once is)
in_kept x [] made h = h
in_kept x (i ∷ is) made h = by (λ g. in_kept x is made g) (is_made_once i) refl h
  where
    by : (In x is → In x (filter is_made_once is)) → (b : Bool) → is_made_once i ≡ b → (i ≡ x) ⊎ In x is → In x (cond b (i ∷ filter is_made_once is) (filter is_made_once is))
    by rest true e (inl same) = inl same
    by rest true e (inr more) = inr (rest more)
    by rest false e (inl same) = absurd (true≢false (sym made ∙ ap is_made_once (sym same) ∙ e))
    by rest false e (inr more) = rest more

in_at : (x : Import) (is : List Import) (d : Import) → In x is → (j : ℕ) × (j < length is) × (get_or is j d ≡ x)
in_at x [] d h = absurd h
in_at x (i ∷ is) d (inl e) = (0, omega arith, e)
in_at x (i ∷ is) d (inr h) = let m = in_at x is d h in (suc m.0, omega (arith, m.1), m.2)

pub apart : (is : List Import) → AllPairs (λ i j. i ≢ j) (filter is_made_once is) → AreApart is
apart [] h = tt
apart (i ∷ is) h = by (λ g. apart is g) (is_made_once i) refl h
  where
    by : (AllPairs (λ i j. i ≢ j) (filter is_made_once is) → AreApart is) → (b : Bool) → is_made_once i ≡ b → AllPairs (λ i j. i ≢ j) (cond b (i ∷ filter is_made_once is) (filter is_made_once is)) → (is_made_once i ≡ true → In i is → ⊥) × AreApart is
    by rest true e h = (
      (λ made here.
          let m = in_at i (filter is_made_once is) i (in_kept i is made here) in
          h 0 (suc m.0) i (omega arith) (omega (arith, m.1)) (sym m.2)),
      rest (λ j k d lt within. h (suc j) (suc k) d (omega (arith, lt)) (omega (arith, within))),
    )
    by rest false e h = ((λ made here. true≢false (sym made ∙ e)), rest h)

-- what stands among the imports of a kind is one of them
in_sort : (sort : Sort) (ws : List WasmImport) (is : List Import) (k : ℕ) (x : Import) → slice_get (imports_of sort ws is) k ≡ Some x → In x is
in_sort sort [] is k x h = absurd (none_some (slice_get {X = Import} [] k) x refl h)
in_sort sort (w ∷ ws) [] k x h = absurd (none_some (slice_get {X = Import} [] k) x refl h)
in_sort sort (w ∷ ws) (i ∷ is) k x h = by (λ j g. in_sort sort ws is j x g) (is_of sort w) k h
  where
    by : ((j : ℕ) → slice_get (imports_of sort ws is) j ≡ Some x → In x is) → (b : Bool) (k : ℕ) → slice_get (cond b (i ∷ imports_of sort ws is) (imports_of sort ws is)) k ≡ Some x → (i ≡ x) ⊎ In x is
    by more true zero h = inl (same_some (Some i) i x refl h)
    by more true (suc k) h = inr (more k h)
    by more false k h = inr (more k h)

-- so it stands there at one number
pub at_one : (sort : Sort) (ws : List WasmImport) (is : List Import) → AreApart is → (j k : ℕ) (x : Import) → is_made_once x ≡ true → slice_get (imports_of sort ws is) j ≡ Some x → slice_get (imports_of sort ws is) k ≡ Some x → j ≡ k
at_one sort [] is a j k x made h g = absurd (none_some (slice_get {X = Import} [] j) x refl h)
at_one sort (w ∷ ws) [] a j k x made h g = absurd (none_some (slice_get {X = Import} [] j) x refl h)
at_one sort (w ∷ ws) (i ∷ is) a j k x made h g = by (λ u v p q. at_one sort ws is a.1 u v x made p q) (is_of sort w) j k h g
  where
    first_alone : (k : ℕ) → i ≡ x → slice_get (imports_of sort ws is) k ≡ Some x → ⊥
    first_alone k e g = a.0 (ap is_made_once e ∙ made) (subst (λ y. In y is) (sym e) (in_sort sort ws is k x g))

    by : ((u v : ℕ) → slice_get (imports_of sort ws is) u ≡ Some x → slice_get (imports_of sort ws is) v ≡ Some x → u ≡ v) → (b : Bool) (j k : ℕ) → slice_get (cond b (i ∷ imports_of sort ws is) (imports_of sort ws is)) j ≡ Some x → slice_get (cond b (i ∷ imports_of sort ws is) (imports_of sort ws is)) k ≡ Some x → j ≡ k
    by more true zero zero h g = refl
    by more true zero (suc k) h g = absurd (first_alone k (same_some (Some i) i x refl h) g)
    by more true (suc j) zero h g = absurd (first_alone j (same_some (Some i) i x refl g) h)
    by more true (suc j) (suc k) h g = ap suc (more j k h g)
    by more false j k h g = more j k h g

-- and is found there
pub placed : (sort : Sort) (ws : List WasmImport) (is : List Import) → AreApart is → (n : ℕ) (x : Import) → is_made_once x ≡ true → slice_get (imports_of sort ws is) n ≡ Some x → place_among x (imports_of sort ws is) ≡ n
placed sort ws is a n x made at =
    let within = slice_get_within (imports_of sort ws is) n x at in
    position_or_len_is (same_import x) (imports_of sort ws is) n x (omega (arith, within)) (λ k lt. before k lt (same_import x (get_or (imports_of sort ws is) k x)) refl) (λ lt. ap (same_import x) (get_or_from_slice_get (imports_of sort ws is) n x x at) ∙ import_self x)
  where
    before : (k : ℕ) → k < n → (b : Bool) → same_import x (get_or (imports_of sort ws is) k x) ≡ b → same_import x (get_or (imports_of sort ws is) k x) ≡ false
    before k lt false e = e
    before k lt true e =
        let within = slice_get_within (imports_of sort ws is) n x at in
        let there : slice_get (imports_of sort ws is) k ≡ Some x = slice_get-get_or (imports_of sort ws is) k x (omega (arith, within, lt)) ∙ ap Some (sym (exact_import x (get_or (imports_of sort ws is) k x) e)) in
        let same : k ≡ n = at_one sort ws is a k n x made there at in
        absurd (omega (arith, same, lt))
