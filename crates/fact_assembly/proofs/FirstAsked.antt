-- Functions whose code is the first to ask for the helpers that are new with them.
use Rattle.std.proofs.Common.{◌≡◌, ℕ, zero, suc, ◌+◌, ◌-◌, ◌≤◌, true, false, List, [], ◌∷◌, ◌++◌, refl, sym, ap, ◌∙◌, arith, inl, inr, append-nil, filter, length}
use Rattle.std.specs.Prelude.{nat_le}
use Rattle.std.specs.List.{filter_map, flat_map, range_with_len}
use Rattle.std.proofs.lemmas.Bool.{le-leb, lt-leb}
use Rattle.std.proofs.lemmas.Grind.{flat_map-append}
use Rattle.std.proofs.lemmas.List.Elements.{filter-append, filter_map-append}
use Rattle.fact_wasm.specs.declared.module.WasmFunc.{WasmFunc}
use Rattle.fact_wasm.specs.declared.types.FuncType.{FuncType}
use Rattle.fact_emit.specs.Brought.{Brought}
use Rattle.fact_emit.specs.NamedFunctions.{all_added_once, defined_place}
use Rattle.fact_emit.specs.States.{HasType, ModuleSoFar, next_number}
use Rattle.fact_emit.proofs.BroughtLaws.{brought_numbers}
use Rattle.fact_emit.proofs.NamedLaws.{added_on}
use Rattle.fact_assembly.specs.Order.{names, newly_asked}
use Rattle.fact_assembly.proofs.FirstNamed.{added_kept}

-- The helpers that are new are those that the code of these functions is the first to name, in order.
pub record AreFirstAsked (old new : ModuleSoFar) (fs : List WasmFunc) : Type 0 where
  pub in_order : all_added_once (range_with_len 0 (next_number old)) (filter_map defined_place (flat_map names fs)) ≡ range_with_len 0 (next_number new)
  pub numbers : next_number old ≤ next_number new

pub asked-none : {old new : ModuleSoFar} → next_number new ≡ next_number old → AreFirstAsked old new []
asked-none same = record { in_order = ap (range_with_len 0) (sym same); numbers = omega (arith, same) }

pub asked-on : {a b c : ModuleSoFar} {fs gs : List WasmFunc} → AreFirstAsked a b fs → AreFirstAsked b c gs → AreFirstAsked a c (fs ++ gs)
asked-on {a} {fs = fs} {gs} x y =
    let n = range_with_len 0 (next_number a) in
    record {
      in_order = ap (λ ks. all_added_once n (filter_map defined_place ks)) (flat_map-append names fs gs)
          ∙ ap (all_added_once n) (filter_map-append defined_place (flat_map names fs) (flat_map names gs))
          ∙ added_on n (filter_map defined_place (flat_map names fs)) (filter_map defined_place (flat_map names gs))
          ∙ ap (λ ns. all_added_once ns (filter_map defined_place (flat_map names gs))) x.in_order ∙ y.in_order;
      numbers = omega (arith, x.numbers, y.numbers);
    }

-- the same of a module with the same next number
pub asked-same : {old new last : ModuleSoFar} {fs : List WasmFunc} → next_number last ≡ next_number new → AreFirstAsked old new fs → AreFirstAsked old last fs
asked-same same x = record { in_order = x.in_order ∙ ap (range_with_len 0) (sym same); numbers = omega (arith, x.numbers, same) }

pub type-number : {old new : ModuleSoFar} {ty : FuncType} → HasType old new ty → next_number new ≡ next_number old
type-number (inl same) = ap next_number same
type-number (inr anew) = ap next_number anew.1

pub type-helpers : {old new : ModuleSoFar} {ty : FuncType} → HasType old new ty → length new.helpers ≡ length old.helpers
type-helpers (inl same) = ap (λ (s : ModuleSoFar). length s.helpers) same
type-helpers (inr anew) = ap (λ (s : ModuleSoFar). length s.helpers) anew.1

pub asked-type : {old new : ModuleSoFar} {ty : FuncType} → HasType old new ty → AreFirstAsked old new []
asked-type types = asked-none (type-number types)

pub asked-brought : {old new : ModuleSoFar} (f : WasmFunc) → Brought old new f.body → AreFirstAsked old new (f ∷ [])
asked-brought {old} f b = record {
  in_order = ap (λ ks. all_added_once (range_with_len 0 (next_number old)) (filter_map defined_place ks)) (append-nil (names f)) ∙ b.asked;
  numbers = brought_numbers b;
}

-- numbers from one on among those below another one
from-range : (n k m : ℕ) → n ≤ k → filter (nat_le n) (range_with_len k m) ≡ range_with_len k m
from-range n k zero le = refl
from-range n k (suc m) le = let here : nat_le n k ≡ true = le-leb n k le in rw here (ap (λ ks. k ∷ ks) (from-range n (k + 1) m (omega (arith, le))))

below-range : (n k m : ℕ) → k + m ≤ n → filter (nat_le n) (range_with_len k m) ≡ []
below-range n k zero le = refl
below-range n k (suc m) le = let here : nat_le n k ≡ false = lt-leb n k (omega (arith, le)) in rw here (below-range n (k + 1) m (omega (arith, le)))

range-split : (k m l : ℕ) → range_with_len k (m + l) ≡ range_with_len k m ++ range_with_len (k + m) l
range-split k zero l =
    let same : k ≡ k + 0 = omega arith in
    let many : 0 + l ≡ l = omega arith in
    λ i. range_with_len (same i) (many i)
range-split k (suc m) l =
    let same : k + 1 + m ≡ k + suc m = omega arith in
    let many : suc m + l ≡ suc (m + l) = omega arith in
    ap (range_with_len k) many ∙ ap (λ ks. k ∷ ks) (range-split (k + 1) m l ∙ ap (λ j. range_with_len (k + 1) m ++ range_with_len j l) same)

-- Behind the number from before these are asked for.
pub newly-are : {old new : ModuleSoFar} {fs : List WasmFunc} → AreFirstAsked old new fs → newly_asked (next_number old) fs ≡ range_with_len (next_number old) (next_number new - next_number old)
newly-are {old} {new} {fs} x =
    let n = next_number old in
    let more = next_number new - n in
    let all : next_number new ≡ n + more = omega (arith, x.numbers) in
    let from : 0 + n ≡ n = omega arith in
    let ks = filter_map defined_place (flat_map names fs) in
    ap (λ ns. all_added_once ns (filter (nat_le n) ks)) (sym (below-range n 0 n (omega arith)))
    ∙ sym (added_kept (nat_le n) (range_with_len 0 n) ks)
    ∙ ap (filter (nat_le n)) (x.in_order ∙ ap (range_with_len 0) all ∙ range-split 0 n more)
    ∙ filter-append (nat_le n) (range_with_len 0 n) (range_with_len (0 + n) more)
    ∙ (λ k. below-range n 0 n (omega arith) k ++ from-range n (0 + n) more (omega arith) k)
    ∙ ap (λ j. range_with_len j more) from
