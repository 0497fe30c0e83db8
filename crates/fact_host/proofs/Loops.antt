-- The steps of loops over imports, texts and memories.
use Rattle.std.proofs.Common.{◌≡◌, ℕ, zero, suc, ◌+◌, ◌*◌, ◌-◌, ◌<◌, ◌≤◌, ◌⊎◌, inl, inr, List, [], ◌∷◌, ◌++◌, None, refl, sym, ap, ◌∙◌, subst, arith, length, take, drop, get_or, length-append}
use Rattle.std.specs.Prelude.{filter, slice_get}
use Rattle.std.proofs.Math.ListN.{get_or-append}
use Rattle.std.proofs.Math.Seq.{take-suc, get_or-append_seam}
use Rattle.std.proofs.lemmas.Bool.{cases_lt}
use Rattle.std.proofs.lemmas.List.{append-nil, drop_all}
use Rattle.fact_wasm.specs.declared.module.WasmModule.{WasmModule}
use Rattle.fact_types.specs.declared.outside.FixedEncoding.TheVariants.{Utf8, Latin1}
use Rattle.fact_values.specs.Texts.{AreSpelled, char_spelling, spelled_text, units}
use Rattle.fact_action_laws.proofs.Bounds.{length_spelling}
use Rattle.fact_host.specs.declared.calling.HostCall.{HostCall}
use Rattle.fact_host.specs.declared.roles.Role.{Role}
use Rattle.fact_host.specs.Roles.{HaveRoles, function_imports, is_function}
use Rattle.fact_host.proofs.Passing.{length_with_more}

-- what is not there is the default
pub none_there : {A : Type 0} (xs : List A) (i : ℕ) (d : A) → slice_get xs i ≡ None → get_or xs i d ≡ d
none_there [] i d e = refl
none_there (x ∷ xs) zero d e = absurd cc
none_there (x ∷ xs) (suc i) d e = none_there xs i d e

-- ---- roles

-- these roles were found before the ith import
abbrev pub AreFound : WasmModule → HostCall → ℕ → List Role → Type 0
AreFound m c i roles = (rest : List Role) → HaveRoles m c (length roles) (filter is_function (drop i m.imports)) rest → HaveRoles m c 0 (function_imports m) (roles ++ rest)

pub found_all : (m : WasmModule) (c : HostCall) (i : ℕ) (roles : List Role) → length m.imports ≤ i → AreFound m c i roles → HaveRoles m c 0 (function_imports m) roles
found_all m c i roles le found =
    subst (HaveRoles m c 0 (function_imports m)) (append-nil roles) (found [] (subst (λ ws. HaveRoles m c (length roles) (filter is_function ws) []) (sym (drop_all i m.imports le)) tt))

-- ---- texts

pub fits_next : (text : List ℕ) (i j used c more : ℕ) → j ≡ i + 1 → i < length text → used ≡ length (spelled_text Utf8 (take i text)) → more ≡ units Utf8 c → get_or text i 0 ≡ c → used + more ≡ length (spelled_text Utf8 (take j text))
fits_next text i j used c more e lt is units_are here =
    let front : length (spelled_text Utf8 (take j text)) ≡ length (spelled_text Utf8 (take i text)) + length (spelled_text Utf8 (get_or text i 0 ∷ [])) =
    ap (λ k. length (spelled_text Utf8 (take k text))) (e ∙ one_more i) ∙ ap (λ l. length (spelled_text Utf8 l)) (take-suc text i 0 lt) ∙ length_with_more Utf8 (take i text) (get_or text i 0 ∷ []) in
    let one : length (spelled_text Utf8 (get_or text i 0 ∷ [])) ≡ length (char_spelling Utf8 (get_or text i 0)) = ap length (append-nil (char_spelling Utf8 (get_or text i 0))) in
    let long : length (char_spelling Utf8 (get_or text i 0)) ≡ units Utf8 c = length_spelling Utf8 (get_or text i 0) ∙ times_one (units Utf8 (get_or text i 0)) ∙ ap (units Utf8) here in
    omega (arith, front, one, long, is, units_are)
  where
    one_more : (n : ℕ) → n + 1 ≡ suc n
    one_more n = omega arith

    times_one : (n : ℕ) → 1 * n ≡ n
    times_one n = omega arith

pub full_next : (text : List ℕ) (i used c more room : ℕ) → used ≡ length (spelled_text Utf8 (take i text)) → used ≤ room → more ≡ units Utf8 c → get_or text i 0 ≡ c → room - used < more
    → room < length (spelled_text Utf8 (take i text)) + length (char_spelling Utf8 (get_or text i 0))
full_next text i used c more room is le units_are here lt =
    let long : length (char_spelling Utf8 (get_or text i 0)) ≡ 1 * units Utf8 (get_or text i 0) = length_spelling Utf8 (get_or text i 0) in
    let same : units Utf8 (get_or text i 0) ≡ units Utf8 c = ap (units Utf8) here in
    omega (arith, long, same, is, le, units_are, lt)

pub low_next : (text : List ℕ) (i j : ℕ) → j ≡ i + 1 → i < length text → get_or text i 0 < 256 → AreSpelled Latin1 (take i text) → AreSpelled Latin1 (take j text)
low_next text i j e lt low h = subst (λ k. AreSpelled Latin1 (take k text)) (sym (e ∙ one_more i)) (by text i lt low h)
  where
    one_more : (n : ℕ) → n + 1 ≡ suc n
    one_more n = omega arith

    by : (text : List ℕ) (i : ℕ) → i < length text → get_or text i 0 < 256 → AreSpelled Latin1 (take i text) → AreSpelled Latin1 (take (suc i) text)
    by [] i lt low h = tt
    by (c ∷ text) zero lt low h = (low, tt)
    by (c ∷ text) (suc i) lt low h = (h.0, by text i (omega (arith, lt)) low h.1)

-- ---- lists that grow

pub each_next : (f : ℕ → ℕ) (xs : List ℕ) (i j x : ℕ) → j ≡ i + 1 → length xs ≡ i → x ≡ f i → ((n : ℕ) → n < i → get_or xs n 0 ≡ f n) → (n : ℕ) → n < j → get_or (xs ++ x ∷ []) n 0 ≡ f n
each_next f xs i j x e long is each n lt = by (cases_lt n i)
  where
    by : (n < i) ⊎ (i ≤ n) → get_or (xs ++ x ∷ []) n 0 ≡ f n
    by (inl less) = get_or-append xs (x ∷ []) 0 n (omega (arith, less, long)) ∙ each n less
    by (inr ge) =
        let same : n ≡ length xs = omega (arith, lt, ge, e, long) in
        let at_i : n ≡ i = omega (arith, lt, ge, e) in
        ap (λ k. get_or (xs ++ x ∷ []) k 0) same ∙ get_or-append_seam xs x [] 0 ∙ is ∙ ap f (sym at_i)

pub lengths_next : (f : ℕ → ℕ) (xs : List (List ℕ)) (x : List ℕ) → length x ≡ f (length xs) → ((n : ℕ) → n < length xs → length (get_or xs n []) ≡ f n) → (n : ℕ) → n < length (xs ++ x ∷ []) → length (get_or (xs ++ x ∷ []) n []) ≡ f n
lengths_next f xs x is each n lt = by (cases_lt n (length xs))
  where
    long : length (xs ++ x ∷ []) ≡ length xs + 1
    long = length-append xs (x ∷ [])

    by : (n < length xs) ⊎ (length xs ≤ n) → length (get_or (xs ++ x ∷ []) n []) ≡ f n
    by (inl less) = ap length (get_or-append xs (x ∷ []) [] n less) ∙ each n less
    by (inr ge) =
        let same : n ≡ length xs = omega (arith, lt, ge, long) in
        ap (λ k. length (get_or (xs ++ x ∷ []) k [])) same ∙ ap length (get_or-append_seam xs x [] []) ∙ is ∙ ap f (sym same)
