-- The cases of variants by name, and what stands in the tables for types of cases.
use Rattle.std.proofs.Common.{◌≡◌, ℕ, suc, ◌+◌, ◌<◌, ◌≤◌, ◌⊎◌, inl, inr, Bool, true, false, not, List, [], ◌∷◌, length, map, Option, Some, None, cond, refl, sym, ap, ◌∙◌, arith}
use Rattle.std.specs.Prelude.{slice_get, if◌then◌else◌, option_map, position, nat_lt}
use Rattle.std.specs.List.{position_or_len}
use Rattle.std.specs.Str.{bytes_eq}
use Rattle.std.specs.Cmp.Lexicographic.{nat_list_eq_equiv}
use Rattle.std.proofs.lemmas.Bool.{cases_lt, lt-ltb}
use Rattle.fact_entity.specs.declared.id.Id.{Id}
use Rattle.fact_entity.specs.declared.table.TypeOptions.{TypeOptions}
use Rattle.fact_entity.specs.declared.table.TypeResults.{TypeResults}
use Rattle.fact_entity.specs.declared.table.TypeVariants.{TypeVariants}
use Rattle.fact_types.specs.declared.interface.InterfaceType.{InterfaceType}
use Rattle.fact_types.specs.declared.interface.InterfaceType.TheVariants as ty
use Rattle.fact_types.specs.declared.kinds.TypeOption.{TypeOption}
use Rattle.fact_types.specs.declared.kinds.TypeResult.{TypeResult}
use Rattle.fact_types.specs.Ordered.{VariantType}
use Rattle.fact_types.specs.Shapes.{case_parts}
use Rattle.fact_types.specs.Tables.{Tables, variant_node, option_node, result_node}
use Rattle.fact_types.proofs.ShapeLaws.{same_some, none_some}
use Rattle.fact_kinds.specs.declared.sums.Sum.{Sum}
use Rattle.fact_kinds.specs.Sums.{numbered_case, case_at_name, paired_cases, IsSumOf}

-- ---- the case of a name

abbrev Cases : Type 0
Cases = List (List ℕ × Option InterfaceType)

-- the first place of a name, or the number of cases
abbrev place : List ℕ → Cases → ℕ
place x ys = position_or_len (bytes_eq x) (map (λ y. y.0) ys)

named_at : (x : List ℕ) (ys : Cases) (n : ℕ) (y : List ℕ × Option InterfaceType) → slice_get ys (place x ys) ≡ Some y → case_at_name x n ys ≡ Some (numbered_case (n + place x ys) y.1)
named_at x [] n y h = absurd (none_some None y refl h)
named_at x (z ∷ ys) n y h =
    ap (λ (b : Bool). if b then Some (numbered_case n z.1) else case_at_name x (suc n) ys) (nat_list_eq_equiv.symm z.0 x)
    ∙ go (bytes_eq x z.0) (named_at x ys (suc n) y) h
  where
    go : (b : Bool) → (slice_get ys (place x ys) ≡ Some y → case_at_name x (suc n) ys ≡ Some (numbered_case (suc n + place x ys) y.1)) → slice_get (z ∷ ys) (cond (not b) (1 + place x ys) 0) ≡ Some y
        → (if b then Some (numbered_case n z.1) else case_at_name x (suc n) ys) ≡ Some (numbered_case (n + cond (not b) (1 + place x ys) 0) y.1)
    go true rest h =
        let zero_more : n ≡ n + 0 = omega arith in
        ap (λ (m : ℕ). Some (numbered_case m z.1)) zero_more ∙ ap (λ (w : List ℕ × Option InterfaceType). Some (numbered_case (n + 0) w.1)) (same_some (Some z) z y refl h)
    go false rest h =
        let same : suc n + place x ys ≡ n + (1 + place x ys) = omega arith in
        let one : suc (place x ys) ≡ 1 + place x ys = omega arith in
        rest (ap (slice_get (z ∷ ys)) one ∙ h) ∙ ap (λ (m : ℕ). Some (numbered_case m y.1)) same

not_named : (x : List ℕ) (ys : Cases) (n : ℕ) → length ys ≤ place x ys → case_at_name x n ys ≡ None
not_named x [] n h = refl
not_named x (z ∷ ys) n h =
    ap (λ (b : Bool). if b then Some (numbered_case n z.1) else case_at_name x (suc n) ys) (nat_list_eq_equiv.symm z.0 x)
    ∙ go (bytes_eq x z.0) (not_named x ys (suc n)) h
  where
    go : (b : Bool) → (length ys ≤ place x ys → case_at_name x (suc n) ys ≡ None) → suc (length ys) ≤ cond (not b) (1 + place x ys) 0 → (if b then Some (numbered_case n z.1) else case_at_name x (suc n) ys) ≡ None
    go true rest h = absurd (omega (arith, h))
    go false rest h = rest (omega (arith, h))

place_some : (b : Bool) (a i : ℕ) → cond b (Some a) None ≡ Some i → a ≡ i
place_some true a i h = same_some (Some a) a i refl h
place_some false a i h = absurd (none_some None i refl h)

-- a case that was found is the first one of the name
pub named_found : (x : List ℕ) (ys : Cases) {number : ℕ} {key : List ℕ} {payload : Option InterfaceType} → Some number ≡ position (bytes_eq x) (map (λ y. y.0) ys) → slice_get ys number ≡ Some (key, payload) → Some (numbered_case number payload) ≡ case_at_name x 0 ys
named_found x ys {number} {key} {payload} at there =
    let is : place x ys ≡ number = place_some (nat_lt (place x ys) (length (map (λ (y : List ℕ × Option InterfaceType). y.0) ys))) (place x ys) number (sym at) in
    let found = named_at x ys 0 (key, payload) (ap (slice_get ys) is ∙ there) in
    let same : 0 + place x ys ≡ number = omega (arith, is) in
    sym (found ∙ ap (λ (m : ℕ). Some (numbered_case m payload)) same)

pub not_found : (x : List ℕ) (ys : Cases) → None ≡ position (bytes_eq x) (map (λ y. y.0) ys) → None ≡ case_at_name x 0 ys
not_found x ys at = sym (not_named x ys 0 (past (cases_lt (place x ys) (length ys))))
  where
    same_length : (ys : Cases) → length (map (λ (y : List ℕ × Option InterfaceType). y.0) ys) ≡ length ys
    same_length [] = refl
    same_length (y ∷ ys) = ap suc (same_length ys)

    past : (place x ys < length ys) ⊎ (length ys ≤ place x ys) → length ys ≤ place x ys
    past (inr le) = le
    past (inl lt) =
        let yes : nat_lt (place x ys) (length (map (λ (y : List ℕ × Option InterfaceType). y.0) ys)) ≡ true = ap (nat_lt (place x ys)) (same_length ys) ∙ lt-ltb (place x ys) (length ys) lt in
        absurd (none_some None (place x ys) refl (at ∙ ap (λ (b : Bool). cond b (Some (place x ys)) None) yes))

-- ---- types of cases

pub variant_is : (t : Tables) (i j : Id TypeVariants) (x y : VariantType) (s : Sum) → slice_get t.variants i.number ≡ Some x → slice_get t.variants j.number ≡ Some y → s.from ≡ x.info → s.to ≡ y.info → s.cases.items ≡ paired_cases x.cases y.cases → IsSumOf t (ty.Variant i) (ty.Variant j) s
variant_is t i j x y s at at' from to cases = record {
  source = variant_node x;
  destination = variant_node y;
  source_is = ap (option_map variant_node) at;
  destination_is = ap (option_map variant_node) at';
  source_kind = tt;
  destination_kind = tt;
  source_info = ap case_parts (sym from);
  destination_info = ap case_parts (sym to);
  cases = cases;
}

pub option_is : (t : Tables) (i j : Id TypeOptions) (x y : TypeOption) (s : Sum) → slice_get t.options i.number ≡ Some x → slice_get t.options j.number ≡ Some y → s.from ≡ x.info → s.to ≡ y.info
    → s.cases.items ≡ record { payload = None; found = Some (numbered_case 0 None) } ∷ record { payload = Some x.ty; found = Some (numbered_case 1 (Some y.ty)) } ∷ [] → IsSumOf t (ty.Option i) (ty.Option j) s
option_is t i j x y s at at' from to cases = record {
  source = option_node x;
  destination = option_node y;
  source_is = ap (option_map option_node) at;
  destination_is = ap (option_map option_node) at';
  source_kind = tt;
  destination_kind = tt;
  source_info = ap case_parts (sym from);
  destination_info = ap case_parts (sym to);
  cases = cases;
}

pub result_is : (t : Tables) (i j : Id TypeResults) (x y : TypeResult) (s : Sum) → slice_get t.results i.number ≡ Some x → slice_get t.results j.number ≡ Some y → s.from ≡ x.info → s.to ≡ y.info
    → s.cases.items ≡ record { payload = x.ok; found = Some (numbered_case 0 y.ok) } ∷ record { payload = x.err; found = Some (numbered_case 1 y.err) } ∷ [] → IsSumOf t (ty.Result i) (ty.Result j) s
result_is t i j x y s at at' from to cases = record {
  source = result_node x;
  destination = result_node y;
  source_is = ap (option_map result_node) at;
  destination_is = ap (option_map result_node) at';
  source_kind = tt;
  destination_kind = tt;
  source_info = ap case_parts (sym from);
  destination_info = ap case_parts (sym to);
  cases = cases;
}
