-- The number of a core definition among the imports of a kind, counted from the front.
use Rattle.std.proofs.Common.{◌≡◌, ℕ, suc, ◌+◌, ◌≤◌, Bool, true, false, List, ◌∷◌, drop, length, Some, cond, sym, ap, ◌∙◌, add-one, arith}
use Rattle.std.specs.Prelude.{if◌then◌else◌, not, slice_get}
use Rattle.std.proofs.lemmas.List.{drop_all}
use Rattle.fact_wasm.specs.declared.module.WasmImport.{WasmImport}
use Rattle.fact_types.specs.declared.import.Import.{Import}
use Rattle.fact_types.specs.declared.import.Import.TheVariants as known
use Rattle.fact_types.specs.declared.outside.CoreDef.{CoreDef}
use Rattle.fact_emit.specs.ImportSection.{Sort, imports_of, is_of}
use Rattle.fact_emit.specs.PlacesOf.{place_among, same_import}
use Rattle.fact_abi.proofs.BelongLaws.{slice_front}

-- the number among the imports of a kind
abbrev pub among : Sort → CoreDef → List WasmImport → List Import → ℕ
among sort d ws is = place_among (known.CoreDef d) (imports_of sort ws is)

-- So many imports of the kind stand before a place, and none of them is the one.
pub record IsCounted (sort : Sort) (d : CoreDef) (ws : List WasmImport) (is : List Import) (place number : ℕ) : Type 0 where
  pub below : number ≤ place
  pub so_far : number + among sort d (drop place ws) (drop place is) ≡ among sort d ws is

pub counted_first : (sort : Sort) (d : CoreDef) (ws : List WasmImport) (is : List Import) → IsCounted sort d ws is 0 0
counted_first sort d ws is = record { below = omega arith; so_far = omega arith }

module _ (sort : Sort) (d : CoreDef) (ws : List WasmImport) (is : List Import) (place number : ℕ) (w : WasmImport) (i : Import) (at : slice_get ws place ≡ Some w) (is_there : slice_get is place ≡ Some i) (counted : IsCounted sort d ws is place number) where
  -- those behind the place
  abbrev rest : List Import
  rest = imports_of sort (drop (suc place) ws) (drop (suc place) is)

  abbrev behind : ℕ
  behind = place_among (known.CoreDef d) rest

  front : among sort d (drop place ws) (drop place is) ≡ place_among (known.CoreDef d) (if is_of sort w then i ∷ rest else rest)
  front = λ k. among sort d (slice_front ws place w at k) (slice_front is place i is_there k)

  by_kind : (b : Bool) → is_of sort w ≡ b → among sort d (drop place ws) (drop place is) ≡ place_among (known.CoreDef d) (if b then i ∷ rest else rest)
  by_kind b e = front ∙ ap (λ (c : Bool). place_among (known.CoreDef d) (if c then i ∷ rest else rest)) e

  by_def : (b : Bool) → is_of sort w ≡ true → same_import (known.CoreDef d) i ≡ b → among sort d (drop place ws) (drop place is) ≡ cond (not b) (1 + behind) 0
  by_def b e same = by_kind true e ∙ ap (λ c. cond (not c) (1 + behind) 0) same

  next_behind : behind ≡ among sort d (drop (place + 1) ws) (drop (place + 1) is)
  next_behind = ap (λ j. among sort d (drop j ws) (drop j is)) (sym (add-one place))

  pub other_kind : is_of sort w ≡ false → IsCounted sort d ws is (place + 1) number
  other_kind e =
      let here = by_kind false e in
      let next = next_behind in
      record { below = omega (arith, counted.below); so_far = omega (arith, counted.so_far, here, next) }

  pub is_found : is_of sort w ≡ true → same_import (known.CoreDef d) i ≡ true → number ≡ among sort d ws is
  is_found e same = let here = by_def true e same in omega (arith, counted.so_far, here)

  pub one_more : is_of sort w ≡ true → same_import (known.CoreDef d) i ≡ false → IsCounted sort d ws is (place + 1) (number + 1)
  one_more e same =
      let here = by_def false e same in
      let next = next_behind in
      record { below = omega (arith, counted.below); so_far = omega (arith, counted.so_far, here, next) }

pub all_counted : (sort : Sort) (d : CoreDef) (ws : List WasmImport) (is : List Import) (place number : ℕ) → length ws ≤ place → length is ≤ place → IsCounted sort d ws is place number → number ≡ among sort d ws is
all_counted sort d ws is place number past past' counted =
    let none : among sort d (drop place ws) (drop place is) ≡ 0 = λ k. among sort d (drop_all place ws past k) (drop_all place is past' k) in
    omega (arith, counted.so_far, none)
