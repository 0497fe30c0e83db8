-- Helpers that code asks for, one after another, and functions that are numbered ahead.
use Rattle.std.proofs.Common.{◌≡◌, ℕ, zero, suc, ◌+◌, ◌<◌, ◌≤◌, ◌^◌, false, List, [], ◌∷◌, ◌++◌, Some, None, Contains, refl, sym, ap, ◌∙◌, subst, inl, inr, arith, length, map, slice_get}
use Rattle.std.specs.Prelude.{max}
use Rattle.std.specs.List.{AllByRecursion}
use Rattle.std.specs.Map.{lookup}
use Rattle.std.proofs.lemmas.Bool.{true≢false}
use Rattle.std.proofs.lemmas.List.{length-map}
use Rattle.std.proofs.lemmas.List.Elements.{Contains-push}
use Rattle.std.proofs.lemmas.Map.{none_passes_from_lookup}
use Rattle.std.proofs.lemmas.Map.Views.{Contains-from_lookup}
use Rattle.fact_wasm.specs.declared.types.ValType.{ValType}
use Rattle.fact_wasm.proofs.Ranged.{all-append}
use Rattle.fact_types.specs.declared.import.Import.{Import}
use Rattle.fact_types.proofs.ShapeLaws.{none_some}
use Rattle.fact_emit.specs.declared.helpers.Helper.{Helper}
use Rattle.fact_emit.specs.contracts.helpers.HelperEq.TheImpl.Laws.{laws-law}
use Rattle.fact_emit.specs.contracts.helpers.HelperPartialEq.TheImpl as helper_eq
use Rattle.fact_emit.specs.declared.imported.ImportedItem.{ImportedItem}
use Rattle.fact_emit.specs.ImportSection.{Sort, a_function, a_global, a_memory, imports_of}
use Rattle.fact_emit.specs.Imports.{AreOnce, Extended, HasImport}
use Rattle.fact_emit.specs.State.{IsIndexed, by_sort}
use Rattle.fact_emit.specs.States.{IsHelperAsked, ModuleSoFar, functions_of, known_as, next_number, nothing_so_far, with_helper, with_numbered}
use Rattle.fact_emit.proofs.ExactHelpers.{exact_helper}
use Rattle.fact_emit.proofs.ImportLaws.{grows_none}
use Rattle.fact_emit.proofs.ImportLists.{get-there}
use Rattle.fact_emit.proofs.StateLaws.{helped-indexed}

-- no import is looked at that was not there
once_helped : (v : ModuleSoFar) (helpers : List (Helper × ℕ)) (numbered : ℕ) → AreOnce v → AreOnce (record v { helpers = helpers; numbered = numbered })
once_helped v helpers numbered o = record {
  functions = o.functions;
  memories = o.memories;
  globals = o.globals;
  starts = λ i j callback post_return params results g k. o.starts i j callback post_return params results (back g) (back k);
}
  where
    back : {i : Import} {n : ℕ} {params results : List ValType} → HasImport (record v { helpers = helpers; numbered = numbered }) i n params results → HasImport v i n params results
    back g = record { there = g.there; type_at = g.type_at; imported = g.imported; type_is = g.type_is }

-- a key that is not found is the key of no entry
none-found : (key : Helper) (n : ℕ) (es : List (Helper × ℕ)) → lookup (helper_eq.ghosts.eq key) es ≡ None → Contains es (key, n) → ⊥
none-found key n es none there = let (k, at) = get-there es (key, n) there in go es k (none_passes_from_lookup (helper_eq.ghosts.eq key) es none) at
  where
    go : (es : List (Helper × ℕ)) (k : ℕ) → AllByRecursion (λ e. helper_eq.ghosts.eq key e.0 ≡ false) es → slice_get es k ≡ Some (key, n) → ⊥
    go [] k h at = cc
    go (e ∷ es) zero h at =
        let is : e ≡ (key, n) = cc in
        true≢false (sym (laws-law.refl key) ∙ sym (ap (λ (f : Helper × ℕ). helper_eq.ghosts.eq key f.0) is) ∙ h.0)
    go (e ∷ es) (suc k) h at = go es k h.1 at

-- what holds of all entries holds of one
all_at : {A : Type 0} (P : A → Type 0) (es : List A) (k : ℕ) (e : A) → AllByRecursion P es → slice_get es k ≡ Some e → P e
all_at P [] k e h at = cc
all_at P (x ∷ es) zero e h at = let same : x ≡ e = cc in subst P same h.0
all_at P (x ∷ es) (suc k) e h at = all_at P es k e h.1 at

below_more : (m n : ℕ) → m ≤ n → (es : List (Helper × ℕ)) → AllByRecursion (λ e. e.1 < m) es → AllByRecursion (λ e. e.1 < n) es
below_more m n le [] h = tt
below_more m n le (e ∷ es) h = (omega (arith, le, h.0), below_more m n le es h.1)

-- ---- a helper that was asked for before

pub helper-before : (v t : ModuleSoFar) → v ≡ t → (gs ms fs : List ImportedItem) → IsIndexed v gs ms fs → (key : Helper) (number : ℕ) → lookup (helper_eq.ghosts.eq key) v.helpers ≡ Some number → IsHelperAsked t t key number
helper-before v t same gs ms fs h key number found = subst (λ (u : ModuleSoFar). IsHelperAsked u u key number) same (record {
  there = there;
  below = let (k, at) = get-there v.helpers (key, number) there in all_at (λ e. e.1 < v.numbered) v.helpers k (key, number) h.helpers_below at;
  step = inl refl;
})
  where
    there : Contains v.helpers (key, number)
    there = Contains-from_lookup exact_helper key number v.helpers found

-- ---- one that is new, which comes last, with the next number

module _ (v t : ModuleSoFar) (same : v ≡ t) (key : Helper) (number : ℕ) (helpers : List (Helper × ℕ)) (numbered : ℕ) (none : lookup (helper_eq.ghosts.eq key) v.helpers ≡ None)
    (is : helpers ≡ v.helpers ++ (key, number) ∷ []) (number_is : number ≡ next_number t) (numbered_is : numbered ≡ number + 1) where
  abbrev last : ModuleSoFar
  last = record v { helpers = helpers; numbered = numbered }

  number_here : number ≡ next_number v
  number_here = number_is ∙ ap next_number (sym same)

  is_with : last ≡ with_helper v key
  is_with = λ i. record v { helpers = (is ∙ ap (λ n. v.helpers ++ (key, n) ∷ []) number_here) i; numbered = (numbered_is ∙ ap (λ n. n + 1) number_here) i }

  here : IsHelperAsked v last key number
  here = record {
    there = subst (λ es. Contains es (key, number)) (sym is) (Contains-push v.helpers (key, number));
    below = omega (arith, numbered_is);
    step = inr (is_with, number_here, λ n there. none-found key n v.helpers none there);
  }

  pub helper-added : IsHelperAsked t last key number
  helper-added = subst (λ u. IsHelperAsked u last key number) same here

  pub helper-keeps : Extended t last
  helper-keeps = subst (λ u. Extended u last) same (record {
    types = grows_none refl;
    section = grows_none refl;
    imports = grows_none refl;
    functions = grows_none refl;
    memories = grows_none refl;
    globals = grows_none refl;
    helpers = record { more = (key, number) ∷ []; is = is };
    numbered = omega (arith, numbered_is, number_here);
  })

  pub helper-once : AreOnce t → AreOnce last
  helper-once o = once_helped v helpers numbered (subst AreOnce (sym same) o)

  pub helper-indexed : (gs ms fs : List ImportedItem) → IsIndexed v gs ms fs → length (functions_of t) + next_number t + 1 < 2 ^ 32 → IsIndexed last gs ms fs
  helper-indexed gs ms fs h room =
      let room_here = subst (λ (u : ModuleSoFar). length (functions_of u) + next_number u + 1 < 2 ^ 32) (sym same) room in
      let more : v.numbered ≤ numbered = omega (arith, numbered_is, number_here) in
      let last_below : number < numbered = omega (arith, numbered_is) in
      helped-indexed v gs ms fs h helpers numbered (omega (arith, numbered_is, number_here, room_here, length-map fs known_as, ap length (h.lists a_function)))
      (subst (AllByRecursion (λ e. e.1 < numbered)) (sym is) (all-append (λ e. e.1 < numbered) v.helpers ((key, number) ∷ []) (below_more v.numbered numbered more v.helpers h.helpers_below) (last_below, tt)))

-- ---- numbers ahead

module _ (v t : ModuleSoFar) (same : v ≡ t) (numbered : ℕ) where
  abbrev ahead : ModuleSoFar
  ahead = record v { numbered = numbered }

  pub numbered-keeps : v.numbered ≤ numbered → Extended t ahead
  numbered-keeps le = subst (λ u. Extended u ahead) same (record {
    types = grows_none refl;
    section = grows_none refl;
    imports = grows_none refl;
    functions = grows_none refl;
    memories = grows_none refl;
    globals = grows_none refl;
    helpers = grows_none refl;
    numbered = le;
  })

  pub numbered-once : AreOnce t → AreOnce ahead
  numbered-once o = once_helped v v.helpers numbered (subst AreOnce (sym same) o)

  pub numbered-indexed : (gs ms fs : List ImportedItem) → IsIndexed v gs ms fs → v.numbered ≤ numbered → length fs + max numbered (length v.functions) < 2 ^ 32 → IsIndexed ahead gs ms fs
  numbered-indexed gs ms fs h le room = helped-indexed v gs ms fs h v.helpers numbered room (below_more v.numbered numbered le v.helpers h.helpers_below)

  pub numbered-ahead : (count : ℕ) → numbered ≡ max v.numbered (length v.functions) + count → ahead ≡ with_numbered t count
  numbered-ahead count is = (λ i. record v { numbered = is i }) ∙ ap (λ u. with_numbered u count) same

-- ---- at the beginning

no_imports : (q : Sort) → imports_of q [] [] ≡ map known_as (by_sort [] [] [] q)
no_imports a_function = refl
no_imports a_memory = refl
no_imports a_global = refl

empty-indexed : IsIndexed nothing_so_far [] [] []
empty-indexed = record {
  same_length = refl;
  lists = no_imports;
  memory_defs = λ n x at. cc;
  numbered = omega arith;
  helpers_below = tt;
  typed = λ n x ty e at. absurd (none_some None x refl at);
  prepared = λ n c at. cc;
}

pub nothing-indexed : (s : ModuleSoFar) → s ≡ nothing_so_far → (gs ms fs : List ImportedItem) → gs ≡ [] → ms ≡ [] → fs ≡ [] → IsIndexed s gs ms fs
nothing-indexed s is gs ms fs gs_are ms_are fs_are =
    subst (λ (u : ModuleSoFar). IsIndexed u gs ms fs) (sym is) (subst (λ xs. IsIndexed nothing_so_far xs ms fs) (sym gs_are) (subst (λ xs. IsIndexed nothing_so_far [] xs fs) (sym ms_are) (subst (λ xs. IsIndexed nothing_so_far [] [] xs) (sym fs_are) empty-indexed)))
