-- What is exported under each name of a whole module: no name is exported twice, though the order is not that of the adapters' names.
use Rattle.std.proofs.Common.{◌≡◌, ◌≢◌, ℕ, zero, suc, ◌+◌, ◌≤◌, Bool, true, false, List, [], ◌∷◌, ◌++◌, Some, AllPairs, refl, sym, ap, ◌∙◌, arith, length, map, slice_get, append-nil}
use Rattle.std.specs.Prelude.{cond, if◌then◌else◌}
use Rattle.std.specs.List.{AllZip, flat_map}
use Rattle.std.specs.Str.{bytes_eq}
use Rattle.std.proofs.lemmas.Grind.{flat_map-append}
use Rattle.std.proofs.lemmas.List.{map-append}
use Rattle.std.proofs.lemmas.Option.{get_or_from_slice_get, slice_get_within}
use Rattle.std.proofs.lemmas.Slice.Eq.{bytes_eq-Decides}
use Rattle.fact_wasm.specs.declared.instr.FuncName.{FuncName}
use Rattle.fact_wasm.specs.declared.instr.FuncName.TheVariants as func
use Rattle.fact_wasm.specs.declared.module.WasmExport.{WasmExport}
use Rattle.fact_wasm.specs.declared.module.WasmModule.{WasmModule}
use Rattle.fact_machine.proofs.Tests.{get_append}
use Rattle.fact_types.specs.declared.import.Import.{Import}
use Rattle.fact_types.specs.Adapters.{LinkedAdapter}
use Rattle.fact_adapter_rules.specs.AdapterRules.{export_names}
use Rattle.fact_emit.specs.ImportSection.{is_awaited}
use Rattle.fact_emit.proofs.ImportLists.{get-map}
use Rattle.fact_compound.specs.AsyncParts.{callee_name, part_name}
use Rattle.fact_compound.specs.declared.asyncs.AsyncPart.TheVariants as part
use Rattle.fact_assembly.specs.Exports.{Callee, IsExportOf, callee_of, exported_as}
use Rattle.fact_assembly.specs.Holding.{counts_behind, first_count, first_function, named_from, numbered, own_names}
use Rattle.fact_assembly.proofs.WholeExports.{found-export, names-counted}

-- ---- how often a name stands in a list

abbrev one_if : Bool → ℕ
one_if b = cond b 1 0

abbrev pub times : List ℕ → List (List ℕ) → ℕ
times x [] = 0
times x (y ∷ ys) = one_if (bytes_eq x y) + times x ys

times-behind : (x : List ℕ) (xs ys : List (List ℕ)) → times x (xs ++ ys) ≡ times x xs + times x ys
times-behind x [] ys = omega arith
times-behind x (y ∷ xs) ys = let rest = times-behind x xs ys in omega (arith, rest)

same-name : (x : List ℕ) → bytes_eq x x ≡ true
same-name x = (bytes_eq-Decides x x).1 refl

times-one : (x : List ℕ) → one_if (bytes_eq x x) ≡ 1
times-one x = ap one_if (same-name x)

pub times-here : (x : List ℕ) (xs : List (List ℕ)) → times x (x ∷ xs) ≡ 1 + times x xs
times-here x xs = ap (λ n. n + times x xs) (times-one x)

times-there : (x : List ℕ) (xs : List (List ℕ)) (i : ℕ) → slice_get xs i ≡ Some x → 1 ≤ times x xs
times-there x [] i e = cc
times-there x (y ∷ xs) zero e =
    let same : y ≡ x = cc in
    let one = ap (λ z. one_if (bytes_eq x z)) same ∙ times-one x in
    omega (arith, one)
times-there x (y ∷ xs) (suc i) e = let rest = times-there x xs i e in omega (arith, rest)

-- where it stands once at most, it stands at one place
pub one-name : (x : List ℕ) (xs : List (List ℕ)) → times x xs ≤ 1 → (i j : ℕ) → slice_get xs i ≡ Some x → slice_get xs j ≡ Some x → i ≡ j
one-name x [] h i j e g = cc
one-name x (y ∷ xs) h zero zero e g = refl
one-name x (y ∷ xs) h zero (suc j) e g =
    let same : y ≡ x = cc in
    let one = ap (λ z. one_if (bytes_eq x z)) same ∙ times-one x in
    let rest = times-there x xs j g in
    absurd (omega (arith, h, one, rest))
one-name x (y ∷ xs) h (suc i) zero e g =
    let same : y ≡ x = cc in
    let one = ap (λ z. one_if (bytes_eq x z)) same ∙ times-one x in
    let rest = times-there x xs i e in
    absurd (omega (arith, h, one, rest))
one-name x (y ∷ xs) h (suc i) (suc j) e g = ap suc (one-name x xs (omega (arith, h)) i j e g)

-- in a list without repetition each stands once at most
absent : (x : List ℕ) (xs : List (List ℕ)) → ((k : ℕ) → slice_get xs k ≡ Some x → ⊥) → times x xs ≡ 0
absent x [] h = refl
absent x (y ∷ xs) h = step (bytes_eq x y) refl (absent x xs (λ k e. h (suc k) e))
  where
    step : (b : Bool) → bytes_eq x y ≡ b → times x xs ≡ 0 → one_if b + times x xs ≡ 0
    step true e rest = absurd (h 0 (ap Some (sym ((bytes_eq-Decides x y).0 e))))
    step false e rest = omega (arith, rest)

pub once-at-most : (x : List ℕ) (xs : List (List ℕ)) → AllPairs (λ x y. x ≢ y) xs → times x xs ≤ 1
once-at-most x [] h = omega arith
once-at-most x (y ∷ xs) h = step (bytes_eq x y) refl (once-at-most x xs (λ i j d below within. h (suc i) (suc j) d (omega (arith, below)) (omega (arith, within))))
  where
    step : (b : Bool) → bytes_eq x y ≡ b → times x xs ≤ 1 → one_if b + times x xs ≤ 1
    step true e rest =
        let same = (bytes_eq-Decides x y).0 e in
        let none = absent x xs (λ k at. let within = slice_get_within xs k x at in h 0 (suc k) x (omega arith) (omega (arith, within)) (sym same ∙ sym (get_or_from_slice_get xs k x x at))) in
        omega (arith, none)
    step false e rest = omega (arith, rest)

-- ---- the names of a module's exports

abbrev pub callee_names : LinkedAdapter → List (List ℕ)
callee_names a = if is_awaited a then callee_name a.name ∷ [] else []

one-adapter : (x : List ℕ) (a : LinkedAdapter) → times x (export_names a) ≡ times x (own_names a) + times x (callee_names a)
one-adapter x a = by a.name (part_name part.Start a.name) (part_name part.Return a.name) (callee_name a.name) (is_awaited a)
  where
    by : (name start return callee : List ℕ) (b : Bool) → times x (name ∷ cond b (start ∷ return ∷ callee ∷ []) []) ≡ times x (cond b (start ∷ return ∷ name ∷ []) (name ∷ [])) + times x (cond b (callee ∷ []) [])
    by name start return callee true = omega arith
    by name start return callee false = omega arith

pub as-often : (x : List ℕ) (adapters : List LinkedAdapter) → times x (flat_map export_names adapters) ≡ times x (flat_map own_names adapters ++ flat_map callee_names adapters)
as-often x [] = refl
as-often x (a ∷ adapters) =
    let own = flat_map own_names adapters in
    let callees = flat_map callee_names adapters in
    omega (
      arith,
      times-behind x (export_names a) (flat_map export_names adapters),
      as-often x adapters,
      one-adapter x a,
      times-behind x own callees,
      times-behind x (own_names a ++ own) (callee_names a ++ callees),
      times-behind x (own_names a) own,
      times-behind x (callee_names a) callees,
    )

-- ---- what stands under them

named-get : (n q : ℕ) (xs : List (List ℕ)) (x : List ℕ) → slice_get xs q ≡ Some x → slice_get (named_from n xs) q ≡ Some (record { name = x; func = func.Defined (n + q) })
named-get n q [] x e = cc
named-get n zero (y ∷ xs) x e =
    let same : y ≡ x = cc in
    let sum : n ≡ n + 0 = omega arith in
    λ k. Some (record { name = same k; func = func.Defined (sum k) })
named-get n (suc q) (y ∷ xs) x e =
    let sum : suc n + q ≡ n + suc q = omega arith in
    named-get (suc n) q xs x e ∙ ap (λ m. Some (record { name = x; func = func.Defined m })) sum

names-from : (n : ℕ) (xs : List (List ℕ)) → map (λ (e : WasmExport). e.name) (named_from n xs) ≡ xs
names-from n [] = refl
names-from n (x ∷ xs) = ap (λ ys. x ∷ ys) (names-from (suc n) xs)

named-length : (n : ℕ) (xs : List (List ℕ)) → length (named_from n xs) ≡ length xs
named-length n [] = refl
named-length n (x ∷ xs) = ap suc (named-length (suc n) xs)

pub get-behind : {X : Type 0} (xs ys : List X) (m : ℕ) → slice_get (xs ++ ys) (length xs + m) ≡ slice_get ys m
get-behind {X} [] ys m = let none : length {A = X} [] + m ≡ m = omega arith in ap (slice_get ys) none
get-behind (x ∷ xs) ys m = let more : length (x ∷ xs) + m ≡ suc (length xs + m) = omega arith in ap (slice_get (x ∷ xs ++ ys)) more ∙ get-behind xs ys m

-- the names of all adapters
names-numbered : (n : ℕ) (counts : List ℕ) (adapters : List LinkedAdapter) → map (λ (e : WasmExport). e.name) (numbered n counts adapters) ≡ flat_map own_names adapters
names-numbered n counts [] = refl
names-numbered n counts (a ∷ adapters) =
    map-append (λ (e : WasmExport). e.name) (named_from n (own_names a)) (numbered (n + length (own_names a) + first_count counts) (counts_behind counts) adapters)
    ∙ (λ k. names-from n (own_names a) k ++ names-numbered (n + length (own_names a) + first_count counts) (counts_behind counts) adapters k)

-- Under an adapter's own name stands its function. Its place among the names is its number where there are no helpers.
pub numbered-at : (n : ℕ) (counts : List ℕ) (adapters : List LinkedAdapter) (j i : ℕ) (a : LinkedAdapter) (x : List ℕ) → slice_get adapters j ≡ Some a → slice_get (own_names a) i ≡ Some x
    → slice_get (numbered n counts adapters) (first_function [] adapters j + i) ≡ Some (record { name = x; func = func.Defined (n + first_function counts adapters j + i) })
numbered-at n counts [] j i a x e g = cc
numbered-at n counts (b ∷ adapters) zero i a x e g =
    let same : b ≡ a = cc in
    let place : first_function [] (b ∷ adapters) 0 + i ≡ i = omega arith in
    let number : n + i ≡ n + first_function counts (b ∷ adapters) 0 + i = omega arith in
    let rest : List WasmExport = numbered (n + length (own_names b) + first_count counts) (counts_behind counts) adapters in
    ap (slice_get (named_from n (own_names b) ++ rest)) place
    ∙ get_append (named_from n (own_names b)) rest i _ (named-get n i (own_names b) x (ap (λ (c : LinkedAdapter). slice_get (own_names c) i) same ∙ g))
    ∙ ap (λ m. Some (record { name = x; func = func.Defined m })) number
numbered-at n counts (b ∷ adapters) (suc j) i a x e g =
    let counted = names-counted b in
    let next : ℕ = n + length (own_names b) + first_count counts in
    let many : length (named_from n (own_names b)) ≡ length (own_names b) = named-length n (own_names b) in
    let place : first_function [] (b ∷ adapters) (suc j) + i ≡ length (named_from n (own_names b)) + (first_function [] adapters j + i) = omega (arith, counted, many) in
    let number : next + first_function (counts_behind counts) adapters j + i ≡ n + first_function counts (b ∷ adapters) (suc j) + i = omega (arith, counted) in
    ap (slice_get (named_from n (own_names b) ++ numbered next (counts_behind counts) adapters)) place
    ∙ get-behind (named_from n (own_names b)) (numbered next (counts_behind counts) adapters) (first_function [] adapters j + i)
    ∙ numbered-at next (counts_behind counts) adapters j i a x e g
    ∙ ap (λ m. Some (record { name = x; func = func.Defined m })) number

module _ (m : WasmModule) (is : List Import) where
  -- the callees' exports have their names
  callees-named : (es : List WasmExport) (adapters : List LinkedAdapter) → AllZip (IsExportOf m is) es (flat_map callee_of adapters) → map (λ (e : WasmExport). e.name) es ≡ flat_map callee_names adapters
  callees-named es [] h = no-more es h
    where
      no-more : (es : List WasmExport) → AllZip (IsExportOf m is) es [] → map (λ (e : WasmExport). e.name) es ≡ []
      no-more [] h = refl
      no-more (e ∷ es) h = absurd h
  callees-named es (a ∷ adapters) h = by (is_awaited a) es h (λ fs g. callees-named fs adapters g)
    where
      by : (b : Bool) (es : List WasmExport) → AllZip (IsExportOf m is) es (cond b (Callee (callee_name a.name) a.callee ∷ []) [] ++ flat_map callee_of adapters)
          → ((fs : List WasmExport) → AllZip (IsExportOf m is) fs (flat_map callee_of adapters) → map (λ (e : WasmExport). e.name) fs ≡ flat_map callee_names adapters)
          → map (λ (e : WasmExport). e.name) es ≡ cond b (callee_name a.name ∷ []) [] ++ flat_map callee_names adapters
      by false es h rest = rest es h
      by true [] h rest = absurd h
      by true (e ∷ es) h rest = let named = h.0.0 in λ k. named k ∷ rest es h.1 k

  module _ (exports callees : List WasmExport) (counts : List ℕ) (adapters : List LinkedAdapter) (distinct : AllPairs (λ x y. x ≢ y) (flat_map export_names adapters)) (own : exports ≡ numbered 0 counts adapters)
      (rest : AllZip (IsExportOf m is) callees (flat_map callee_of adapters)) where
    names-are : map (λ (e : WasmExport). e.name) (exports ++ callees) ≡ flat_map own_names adapters ++ flat_map callee_names adapters
    names-are =
        map-append (λ (e : WasmExport). e.name) exports callees
        ∙ (λ k. (ap (map (λ (e : WasmExport). e.name)) own ∙ names-numbered 0 counts adapters) k ++ callees-named callees adapters rest k)

    -- No name is exported twice.
    pub named-once : (x : List ℕ) → times x (map (λ (e : WasmExport). e.name) (exports ++ callees)) ≤ 1
    named-once x =
        let once = once-at-most x (flat_map export_names adapters) distinct in
        let often = as-often x adapters in
        let names = ap (times x) names-are in
        omega (arith, once, often, names)

    -- Under the name of an export stands what it exports.
    pub exported-at : (q : ℕ) (e : WasmExport) (f : FuncName) → slice_get (exports ++ callees) q ≡ Some e → exported_as e.name (exports ++ callees) ≡ Some f → f ≡ e.func
    exported-at q e f at found =
        let es = exports ++ callees in
        let (k, x, there, named, is_f) = found-export e.name es f found in
        let names = map (λ (e : WasmExport). e.name) es in
        let first : slice_get names k ≡ Some e.name = get-map (λ (e : WasmExport). e.name) es k x there ∙ ap Some named in
        let second : slice_get names q ≡ Some e.name = get-map (λ (e : WasmExport). e.name) es q e at in
        let same : k ≡ q = one-name e.name names (named-once e.name) k q first second in
        let both : Some x ≡ Some e = sym there ∙ ap (slice_get es) same ∙ at in
        let is : x ≡ e = cc in
        sym is_f ∙ ap (λ (y : WasmExport). y.func) is

    -- A function of an adapter is exported under its name, at this place,
    pub own-there : (j i : ℕ) (a : LinkedAdapter) (x : List ℕ) → slice_get adapters j ≡ Some a → slice_get (own_names a) i ≡ Some x
        → slice_get (exports ++ callees) (first_function [] adapters j + i) ≡ Some (record { name = x; func = func.Defined (first_function counts adapters j + i) })
    own-there j i a x at here =
        let number : 0 + first_function counts adapters j + i ≡ first_function counts adapters j + i = omega arith in
        get_append exports callees (first_function [] adapters j + i) _ (ap (λ es. slice_get es (first_function [] adapters j + i)) own ∙ numbered-at 0 counts adapters j i a x at here)
        ∙ ap (λ m. Some (record { name = x; func = func.Defined m })) number

    -- and found there.
    pub exported-own : (j i : ℕ) (a : LinkedAdapter) (x : List ℕ) → slice_get adapters j ≡ Some a → slice_get (own_names a) i ≡ Some x
        → (f : FuncName) → exported_as x (exports ++ callees) ≡ Some f → f ≡ func.Defined (first_function counts adapters j + i)
    exported-own j i a x at here f found =
        exported-at (first_function [] adapters j + i) (record { name = x; func = func.Defined (first_function counts adapters j + i) }) f (own-there j i a x at here) found

-- ---- what is exported stays so

exported-on : (name : List ℕ) (es more : List WasmExport) (f : FuncName) → exported_as name es ≡ Some f → exported_as name (es ++ more) ≡ Some f
exported-on name [] more f e = cc
exported-on name (x ∷ es) more f e = step (bytes_eq x.name name) e (exported-on name es more f)
  where
    step : (b : Bool) → cond b (Some x.func) (exported_as name es) ≡ Some f → (exported_as name es ≡ Some f → exported_as name (es ++ more) ≡ Some f) → cond b (Some x.func) (exported_as name (es ++ more)) ≡ Some f
    step true e rest = e
    step false e rest = rest e

-- exports of other names before it change nothing
exported-behind : (name : List ℕ) (us es : List WasmExport) (f : FuncName) → ((i : ℕ) (u : WasmExport) → slice_get us i ≡ Some u → u.name ≡ name → ⊥) → exported_as name es ≡ Some f → exported_as name (us ++ es) ≡ Some f
exported-behind name [] es f apart e = e
exported-behind name (u ∷ us) es f apart e = step (bytes_eq u.name name) refl (exported-behind name us es f (λ i x at is. apart (suc i) x at is) e)
  where
    step : (b : Bool) → bytes_eq u.name name ≡ b → exported_as name (us ++ es) ≡ Some f → cond b (Some u.func) (exported_as name (us ++ es)) ≡ Some f
    step true is rest = absurd (apart 0 u refl ((bytes_eq-Decides u.name name).0 is))
    step false is rest = rest

exported-between : (name : List ℕ) (es fs us vs : List WasmExport) (f : FuncName) → ((k i : ℕ) (e u : WasmExport) → slice_get fs k ≡ Some e → slice_get us i ≡ Some u → e.name ≡ u.name → ⊥)
    → exported_as name (es ++ fs) ≡ Some f → exported_as name ((es ++ us) ++ (fs ++ vs)) ≡ Some f
exported-between name [] fs us vs f apart e =
    let (k, x, at, named, is) = found-export name fs f e in
    exported-behind name us (fs ++ vs) f (λ i u there same. apart k i x u at there (named ∙ sym same)) (exported-on name fs vs f e)
exported-between name (x ∷ es) fs us vs f apart e = step (bytes_eq x.name name) e (exported-between name es fs us vs f apart)
  where
    step : (b : Bool) → cond b (Some x.func) (exported_as name (es ++ fs)) ≡ Some f → (exported_as name (es ++ fs) ≡ Some f → exported_as name ((es ++ us) ++ (fs ++ vs)) ≡ Some f)
        → cond b (Some x.func) (exported_as name ((es ++ us) ++ (fs ++ vs))) ≡ Some f
    step true e rest = e
    step false e rest = rest e

-- no callee's export has the name of a function of a later adapter
own-apart : (adapters : List LinkedAdapter) (a : LinkedAdapter) → AllPairs (λ x y. x ≢ y) (flat_map export_names (adapters ++ a ∷ [])) → (x : List ℕ) (i k : ℕ) → slice_get (own_names a) i ≡ Some x → slice_get (flat_map callee_names adapters) k ≡ Some x → ⊥
own-apart adapters a distinct x i k own callee =
    let once = once-at-most x (flat_map export_names (adapters ++ a ∷ [])) distinct in
    let often = as-often x (adapters ++ a ∷ []) in
    let both = times-behind x (flat_map own_names (adapters ++ a ∷ [])) (flat_map callee_names (adapters ++ a ∷ [])) in
    let owns = ap (times x) (flat_map-append own_names adapters (a ∷ [])) ∙ times-behind x (flat_map own_names adapters) (own_names a ++ []) ∙ ap (λ xs. times x (flat_map own_names adapters) + times x xs) (append-nil (own_names a)) in
    let callees = ap (times x) (flat_map-append callee_names adapters (a ∷ [])) ∙ times-behind x (flat_map callee_names adapters) (callee_names a ++ []) ∙ ap (λ xs. times x (flat_map callee_names adapters) + times x xs) (append-nil (callee_names a)) in
    let one = times-there x (own_names a) i own in
    let two = times-there x (flat_map callee_names adapters) k callee in
    omega (arith, once, often, both, owns, callees, one, two)

module _ (m : WasmModule) (is : List Import) where
  -- With one adapter more each name exports what it exported.
  pub exported-still : (adapters : List LinkedAdapter) (a : LinkedAdapter) → AllPairs (λ x y. x ≢ y) (flat_map export_names (adapters ++ a ∷ [])) → (es fs vs : List WasmExport) (n : ℕ) → AllZip (IsExportOf m is) fs (flat_map callee_of adapters)
      → (name : List ℕ) (f : FuncName) → exported_as name (es ++ fs) ≡ Some f → exported_as name ((es ++ named_from n (own_names a)) ++ (fs ++ vs)) ≡ Some f
  exported-still adapters a distinct es fs vs n callees name f e =
      exported-between name es fs (named_from n (own_names a)) vs f
      (λ k i x u at there same.
      own-apart adapters a distinct x.name i k
      (ap (λ ns. slice_get ns i) (sym (names-from n (own_names a))) ∙ get-map (λ (y : WasmExport). y.name) (named_from n (own_names a)) i u there ∙ ap Some (sym same))
      (ap (λ ns. slice_get ns k) (sym (callees-named m is fs adapters callees)) ∙ get-map (λ (y : WasmExport). y.name) fs k x at))
      e
