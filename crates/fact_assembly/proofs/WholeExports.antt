-- What a whole module of adapters exports.
use Rattle.std.proofs.Common.{◌≡◌, ℕ, zero, suc, ◌+◌, ◌≤◌, Bool, true, false, List, [], ◌∷◌, ◌++◌, Some, Contains, refl, sym, ap, ◌∙◌, subst, arith, append_assoc, length, slice_get}
use Rattle.std.specs.Prelude.{All, cond}
use Rattle.std.specs.List.{AllZip, flat_map}
use Rattle.std.proofs.lemmas.List.Elements.{Contains-append_left, Contains-append_right}
use Rattle.std.proofs.lemmas.Option.{get_or_from_slice_get, slice_get_within}
use Rattle.std.proofs.lemmas.Slice.Eq.{bytes_eq-Decides}
use Rattle.std.specs.Str.{bytes_eq}
use Rattle.fact_wasm.specs.declared.instr.FuncName.{FuncName}
use Rattle.fact_wasm.specs.declared.instr.FuncName.TheVariants as func
use Rattle.fact_wasm.specs.declared.module.WasmExport.{WasmExport}
use Rattle.fact_wasm.specs.declared.module.WasmFunc.{WasmFunc}
use Rattle.fact_wasm.specs.declared.types.FuncType.{FuncType}
use Rattle.fact_wasm.specs.Ranges.{AreExportsNamed, HasFunction, imported_functions}
use Rattle.fact_types.specs.Adapters.{LinkedAdapter}
use Rattle.fact_types.specs.declared.import.Import.{Import}
use Rattle.fact_types.specs.Tables.{Tables}
use Rattle.fact_actions.specs.Adapters.{AdapterTunables}
use Rattle.fact_emit.specs.ImportSection.{imported_function, is_awaited}
use Rattle.fact_emit.specs.States.{ModuleSoFar, functions_of, module_of}
use Rattle.fact_emit.proofs.ImportLaws.{grown_get}
use Rattle.fact_plan_types.proofs.HandleLaws.{zip_map}
use Rattle.fact_compound.specs.AsyncParts.{callee_name, part_name, part_type}
use Rattle.fact_compound.specs.declared.asyncs.AsyncPart.TheVariants as part
use Rattle.fact_assembly.specs.Sound.{IsSoundAdapter}
use Rattle.fact_assembly.specs.Adding.{AsParts, AsSync, AsTrap, CompiledAs, Given, own_functions}
use Rattle.fact_assembly.specs.Exports.{Callee, Exported, IsExportOf, Own, callee_of, defined_type, exported, exported_as, exported_functions_of}
use Rattle.fact_assembly.specs.Holding.{HasAdded, Holds, count_at, counts_behind, first_count, first_function, function_count, named_from, numbered, own_names}
use Rattle.fact_assembly.proofs.CompiledLaws.{not-awaited-sync, not-awaited-within, own_types, types-added}

-- ---- lists

pub in-flat : {X Y : Type 0} (f : X → List Y) (xs : List X) (k : ℕ) (x : X) (y : Y) → slice_get xs k ≡ Some x → Contains (f x) y → Contains (flat_map f xs) y
in-flat f [] k x y e c = cc
in-flat f (z ∷ xs) zero x y e c = let same : z ≡ x = cc in Contains-append_left (f z) (flat_map f xs) y (subst (λ w. Contains (f w) y) (sym same) c)
in-flat f (z ∷ xs) (suc k) x y e c = Contains-append_right (f z) (flat_map f xs) y (in-flat f xs k x y e c)

pub all-at : {X : Type 0} (P : X → Type 0) (xs : List X) → All P xs → (k : ℕ) (x : X) → slice_get xs k ≡ Some x → P x
all-at P xs h k x e = subst P (get_or_from_slice_get xs k x x e) (h k x (slice_get_within xs k x e))

-- two lists beside each other, one behind the other
pub zip-behind : {A B : Type 0} (R : A → B → Type 0) (xs : List A) (ys : List B) (us : List A) (vs : List B) → AllZip R xs ys → AllZip R us vs → AllZip R (xs ++ us) (ys ++ vs)
zip-behind R [] [] us vs h g = g
zip-behind R [] (y ∷ ys) us vs h g = absurd h
zip-behind R (x ∷ xs) [] us vs h g = absurd h
zip-behind R (x ∷ xs) (y ∷ ys) us vs h g = (h.0, zip-behind R xs ys us vs h.1 g)

-- ---- names and numbers

-- what is found under a name is exported under it
pub found-export : (name : List ℕ) (es : List WasmExport) (f : FuncName) → exported_as name es ≡ Some f → (i : ℕ) × (e : WasmExport) × (slice_get es i ≡ Some e) × (e.name ≡ name) × (e.func ≡ f)
found-export name [] f h = cc
found-export name (e ∷ es) f h = step (bytes_eq e.name name) refl h (found-export name es f)
  where
    step : (b : Bool) → bytes_eq e.name name ≡ b → cond b (Some e.func) (exported_as name es) ≡ Some f
        → (exported_as name es ≡ Some f → (i : ℕ) × (x : WasmExport) × (slice_get es i ≡ Some x) × (x.name ≡ name) × (x.func ≡ f))
        → (i : ℕ) × (x : WasmExport) × (slice_get (e ∷ es) i ≡ Some x) × (x.name ≡ name) × (x.func ≡ f)
    step true is found rest = let same : e.func ≡ f = cc in (0, e, refl, (bytes_eq-Decides e.name name).0 is, same)
    step false is found rest = let (i, x, at, named, here) = rest found in (suc i, x, at, named, here)

pub named-within : (imports funcs n : ℕ) (names : List (List ℕ)) → n + length names ≤ funcs → AreExportsNamed imports funcs (named_from n names)
named-within imports funcs n [] h = tt
named-within imports funcs n (x ∷ names) h = (omega (arith, h), named-within imports funcs (suc n) names (omega (arith, h)))

pub named-behind : (n : ℕ) (xs ys : List (List ℕ)) → named_from n (xs ++ ys) ≡ named_from n xs ++ named_from (n + length xs) ys
named-behind n [] ys = let same : n ≡ n + 0 = omega arith in ap (λ k. named_from k ys) same
named-behind n (x ∷ xs) ys =
    let same : suc n + length xs ≡ n + suc (length xs) = omega arith in
    ap (λ es. record { name = x; func = func.Defined n } ∷ es) (named-behind (suc n) xs ys ∙ ap (λ k. named_from (suc n) xs ++ named_from k ys) same)

-- an adapter has as many names as functions
pub names-counted : (a : LinkedAdapter) → length (own_names a) ≡ length (exported_functions_of a)
names-counted a =
    by a.name (part_name part.Start a.name) (part_name part.Return a.name)
    (Own a.name a.lower.core_type) (Own (part_name part.Start a.name) (part_type part.Start a)) (Own (part_name part.Return a.name) (part_type part.Return a)) (is_awaited a)
  where
    by : (name start return : List ℕ) (own first second : Exported) (b : Bool) → length (cond b (start ∷ return ∷ name ∷ []) (name ∷ [])) ≡ length (cond b (first ∷ second ∷ own ∷ []) (own ∷ []))
    by name start return own first second true = refl
    by name start return own first second false = refl

-- exports one behind the other
exports-both : (imports funcs : ℕ) (es fs : List WasmExport) → AreExportsNamed imports funcs es → AreExportsNamed imports funcs fs → AreExportsNamed imports funcs (es ++ fs)
exports-both imports funcs [] fs h g = g
exports-both imports funcs (e ∷ es) fs h g = (h.0, exports-both imports funcs es fs h.1 g)

-- all names of adapters are exported for functions that are there
numbered-within : (imports funcs n : ℕ) (counts : List ℕ) (adapters : List LinkedAdapter) → n + function_count counts adapters ≤ funcs → AreExportsNamed imports funcs (numbered n counts adapters)
numbered-within imports funcs n counts [] h = tt
numbered-within imports funcs n counts (a ∷ adapters) h =
    let counted = names-counted a in
    let next : ℕ = n + length (own_names a) + first_count counts in
    exports-both imports funcs (named_from n (own_names a)) (numbered next (counts_behind counts) adapters) (named-within imports funcs n (own_names a) (omega (arith, h, counted)))
    (numbered-within imports funcs next (counts_behind counts) adapters (omega (arith, h, counted)))

-- behind other adapters
pub numbered-behind : (n : ℕ) (cs ds : List ℕ) (xs ys : List LinkedAdapter) → length cs ≡ length xs → numbered n (cs ++ ds) (xs ++ ys) ≡ numbered n cs xs ++ numbered (n + function_count cs xs) ds ys
numbered-behind n [] ds [] ys even = let same : n ≡ n + 0 = omega arith in ap (λ k. numbered k ds ys) same
numbered-behind n [] ds (x ∷ xs) ys even = absurd (omega (arith, even))
numbered-behind n (c ∷ cs) ds [] ys even = absurd (omega (arith, even))
numbered-behind n (c ∷ cs) ds (x ∷ xs) ys even =
    let counted = names-counted x in
    let next : ℕ = n + length (own_names x) + c in
    let same : next + function_count cs xs ≡ n + (length (exported_functions_of x) + c + function_count cs xs) = omega (arith, counted) in
    ap (λ es. named_from n (own_names x) ++ es) (numbered-behind next cs ds xs ys (omega (arith, even)) ∙ ap (λ k. numbered next cs xs ++ numbered k ds ys) same)
    ∙ sym (append_assoc (named_from n (own_names x)) (numbered next cs xs) (numbered (n + (length (exported_functions_of x) + c + function_count cs xs)) ds ys))

-- ---- the exports of the module

module _ (t : Tables) (u : AdapterTunables) (given : Given) (s : ModuleSoFar) (adapters : List LinkedAdapter) (tuples : ℕ → ℕ) (h : Holds t u given s adapters tuples) (sound : All IsSoundAdapter adapters) where
  -- a function of the module has this type
  defined : (k : ℕ) (f : WasmFunc) (ty : FuncType) → slice_get s.functions k ≡ Some f → slice_get s.types f.ty ≡ Some ty → defined_type (module_of s) (func.Defined k) ≡ Some ty
  defined k f ty there typed = rw (there, typed) refl

  -- the functions of the adapter at a place
  own-exports : (j : ℕ) (a : LinkedAdapter) → slice_get adapters j ≡ Some a → AllZip (IsExportOf (module_of s) s.imports) (named_from (first_function h.counts adapters j) (own_names a)) (exported_functions_of a)
  own-exports j a at = by placed.adds.compiled placed.functions_there (zip_map _ _ (λ f ty e. grown_get placed.later.types f.ty ty e) _ _ (types-added placed.adds is_sound))
    where
      placed : HasAdded t u given s a (first_function h.counts adapters j) (count_at h.counts j) (tuples j)
      placed = h.placed j a at

      is_sound : IsSoundAdapter a
      is_sound = all-at IsSoundAdapter adapters sound j a at

      by : {end old new : ModuleSoFar} (c : CompiledAs end t placed.adds.«data» u a old new) → ((i : ℕ) (f : WasmFunc) → slice_get (own_functions c) i ≡ Some f → slice_get s.functions (first_function h.counts adapters j + i) ≡ Some f)
          → AllZip (λ (f : WasmFunc) ty. slice_get s.types f.ty ≡ Some ty) (own_functions c) (own_types c)
          → AllZip (IsExportOf (module_of s) s.imports) (named_from (first_function h.counts adapters j) (own_names a)) (exported_functions_of a)
      by (AsTrap within c) there typed =
          let none = not-awaited-within a within in
          let here : slice_get s.functions (first_function h.counts adapters j) ≡ Some c.function = ap (slice_get s.functions) (omega arith) ∙ there 0 c.function refl in
          rw none ((refl, defined _ c.function _ here typed.0 ∙ ap Some (sym is_sound.lower_core_type)), tt)
      by (AsSync crosses sync c) there typed =
          let none = not-awaited-sync a sync in
          let here : slice_get s.functions (first_function h.counts adapters j) ≡ Some c.function = ap (slice_get s.functions) (omega arith) ∙ there 0 c.function refl in
          rw none ((refl, defined _ c.function _ here typed.0 ∙ ap Some (sym is_sound.lower_core_type)), tt)
      by (AsParts awaited c) there typed =
          let start : slice_get s.functions (first_function h.counts adapters j) ≡ Some c.start.function = ap (slice_get s.functions) (omega arith) ∙ there 0 c.start.function refl in
          let return : slice_get s.functions (suc (first_function h.counts adapters j)) ≡ Some c.return.function = ap (slice_get s.functions) (omega arith) ∙ there 1 c.return.function refl in
          let entry : slice_get s.functions (suc (suc (first_function h.counts adapters j))) ≡ Some c.entry.function = ap (slice_get s.functions) (omega arith) ∙ there 2 c.entry.function refl in
          rw awaited ((refl, defined _ c.start.function _ start typed.0), ((refl, defined _ c.return.function _ return typed.1.0), ((refl, defined _ c.entry.function _ entry typed.1.1.0 ∙ ap Some (sym is_sound.lower_core_type)), tt)))

  exports-from : (n : ℕ) (counts : List ℕ) (rest : List LinkedAdapter) → ((i : ℕ) (a : LinkedAdapter) → slice_get rest i ≡ Some a → AllZip (IsExportOf (module_of s) s.imports) (named_from (n + first_function counts rest i) (own_names a)) (exported_functions_of a))
      → AllZip (IsExportOf (module_of s) s.imports) (numbered n counts rest) (flat_map exported_functions_of rest)
  exports-from n counts [] each = tt
  exports-from n counts (a ∷ rest) each =
      let counted = names-counted a in
      let here : n + first_function counts (a ∷ rest) 0 ≡ n = omega arith in
      let own = subst (λ k. AllZip (IsExportOf (module_of s) s.imports) (named_from k (own_names a)) (exported_functions_of a)) here (each 0 a refl) in
      let more = exports-from (n + length (own_names a) + first_count counts) (counts_behind counts) rest (λ i b e.
      let follows : n + first_function counts (a ∷ rest) (suc i) ≡ n + length (own_names a) + first_count counts + first_function (counts_behind counts) rest i = omega (arith, counted) in
      subst (λ k. AllZip (IsExportOf (module_of s) s.imports) (named_from k (own_names b)) (exported_functions_of b)) follows (each (suc i) b e)) in
      zip-behind (IsExportOf (module_of s) s.imports) _ _ _ _ own more

  -- The exports are the adapters' functions by their names, and behind them the callees of async ones.
  pub exports-are : AllZip (IsExportOf (module_of s) s.imports) (s.exports ++ s.callees) (exported adapters)
  exports-are =
      zip-behind (IsExportOf (module_of s) s.imports) s.exports (flat_map exported_functions_of adapters) s.callees (flat_map callee_of adapters)
      (subst (λ es. AllZip (IsExportOf (module_of s) s.imports) es (flat_map exported_functions_of adapters)) (sym h.exports) (exports-from 0 h.counts adapters (λ j a at.
      let same : first_function h.counts adapters j ≡ 0 + first_function h.counts adapters j = omega arith in
      subst (λ k. AllZip (IsExportOf (module_of s) s.imports) (named_from k (own_names a)) (exported_functions_of a)) same (own-exports j a at))))
      h.callees

-- ---- numbers in range

module _ (s : ModuleSoFar) (count : imported_functions (module_of s) ≡ length (functions_of s)) where
  imported-within : (funcs : ℕ) (f : FuncName) (i : Import) → imported_function (module_of s) s.imports f ≡ Some i → HasFunction (imported_functions (module_of s)) funcs f
  imported-within funcs (func.Import k) i e = let within = slice_get_within (functions_of s) k i e in omega (arith, within, count)
  imported-within funcs (func.Defined k) i e = cc

  callees-within : (funcs : ℕ) (es : List WasmExport) (adapters : List LinkedAdapter) → AllZip (IsExportOf (module_of s) s.imports) es (flat_map callee_of adapters) → AreExportsNamed (imported_functions (module_of s)) funcs es
  callees-within funcs [] [] h = tt
  callees-within funcs (e ∷ es) [] h = absurd h
  callees-within funcs es (a ∷ adapters) h = by (is_awaited a) es h (λ fs g. callees-within funcs fs adapters g)
    where
      by : (b : Bool) (es : List WasmExport) → AllZip (IsExportOf (module_of s) s.imports) es (cond b (Callee (callee_name a.name) a.callee ∷ []) [] ++ flat_map callee_of adapters)
          → ((fs : List WasmExport) → AllZip (IsExportOf (module_of s) s.imports) fs (flat_map callee_of adapters) → AreExportsNamed (imported_functions (module_of s)) funcs fs)
          → AreExportsNamed (imported_functions (module_of s)) funcs es
      by false es h rest = rest es h
      by true [] h rest = absurd h
      by true (e ∷ es) h rest = (imported-within funcs e.func _ h.0.1, rest es h.1)

  -- each export names a function that is there
  pub exports-within : (counts : List ℕ) (adapters : List LinkedAdapter) → s.exports ≡ numbered 0 counts adapters → AllZip (IsExportOf (module_of s) s.imports) s.callees (flat_map callee_of adapters) → length s.functions ≡ function_count counts adapters
      → AreExportsNamed (imported_functions (module_of s)) (length s.functions) (s.exports ++ s.callees)
  exports-within counts adapters own callees functions =
      exports-both _ _ s.exports s.callees
      (subst (AreExportsNamed (imported_functions (module_of s)) (length s.functions)) (sym own) (numbered-within _ _ 0 counts adapters (omega (arith, functions))))
      (callees-within (length s.functions) s.callees adapters callees)
