-- Types of a list that are converted one after another.
use Rattle.std.proofs.Common.{◌≡◌, ◌<◌, ◌≤◌, ◌+◌, ℕ, zero, suc, Option, Some, List, [], ◌∷◌, ◌++◌, length, take, drop, get_or, All, arith, refl, sym, ◌∙◌, ap, subst, append-nil, append_assoc}
use Rattle.std.specs.Prelude.{flat_map, option_to_list, nat_eq, slice_get, Result, IfOk}
use Rattle.std.specs.List.{AllZip}
use Rattle.std.specs.Cmp.Lexicographic.{pointwise}
use Rattle.std.proofs.lemmas.List.{take_more, take_all, drop_more}
use Rattle.std.proofs.lemmas.Grind.{flat_map-append}
use Rattle.std.proofs.lemmas.Option.{get_or_from_slice_get, slice_get_within}
use Rattle.std.proofs.Math.ListN.{drop_of_length-le}
use Rattle.indexmap.specs.IndexMap.{insert_entry}
use Rattle.fact_source.specs.declared.defined.ComponentValType.{ComponentValType}
use Rattle.fact_source.specs.SourceTables.{SourceTables}
use Rattle.fact_types.specs.declared.interface.InterfaceType.{InterfaceType}
use Rattle.fact_types.specs.declared.kinds.RecordField.{RecordField}
use Rattle.fact_types.specs.Tables.{IsLive}
use Rattle.fact_builder.specs.Known.{AreKeptLive}
use Rattle.fact_convert.specs.Conversion.{BuilderGrows}
use Rattle.fact_convert.specs.Converted.{IsTypeFrom}
use Rattle.fact_convert.specs.BuilderTables.{tables_of}
use Rattle.fact_builder.specs.Builder.{Builder}
use Rattle.fact_convert.specs.Merging.{merged}
use Rattle.fact_convert.specs.Progress.{fields_with, cases_with, taken_payload, left_behind}
use Rattle.fact_convert.proofs.Growing.{types_stay}
use Rattle.fact_convert.proofs.LiveLaws.{type_live}
use Rattle.fact_convert.proofs.Merged.{one_more_merged}

zip_more : {A B : Type 0} (R : A → B → Type 0) (xs : List A) (ys : List B) (x : A) (y : B) → AllZip R xs ys → R x y → AllZip R (xs ++ x ∷ []) (ys ++ y ∷ [])
zip_more R [] [] x y h k = (k, tt)
zip_more R [] (z ∷ ys) x y h k = absurd h
zip_more R (w ∷ xs) [] x y h k = absurd h
zip_more R (w ∷ xs) (z ∷ ys) x y (h, l) k = (h, zip_more R xs ys x y l k)

-- one more type was converted: those before it are still from the source
pub one_more_type : (s : SourceTables) (a b : Builder) → BuilderGrows a b → (vs : List ComponentValType) (ts : List InterfaceType) (v : ComponentValType) (t : InterfaceType) → AllZip (IsTypeFrom s a) vs ts → IsTypeFrom s b v t → AllZip (IsTypeFrom s b) (vs ++ v ∷ []) (ts ++ t ∷ [])
one_more_type s a b g vs ts v t h k = zip_more (IsTypeFrom s b) vs ts v t (types_stay s a b g vs ts h) k

-- types that are from the source are live
pub types_live : (s : SourceTables) (c : Builder) → AreKeptLive c.resources (tables_of c) → (vs : List ComponentValType) (ts : List InterfaceType) → AllZip (IsTypeFrom s c) vs ts → All (IsLive (tables_of c)) ts
types_live s c k [] [] a i d l = absurd (omega (arith, l))
types_live s c k [] (t ∷ ts) a i d l = absurd a
types_live s c k (v ∷ vs) [] a i d l = absurd a
types_live s c k (v ∷ vs) (t ∷ ts) (h, a) zero d l = type_live s c k v t h
types_live s c k (v ∷ vs) (t ∷ ts) (h, a) (suc i) d l = types_live s c k vs ts a i d (omega (arith, l))

-- ---- fields and cases, one by one

next_suc : (i : ℕ) → suc i + 1 ≡ suc (i + 1)
next_suc i = omega arith

-- one more field, and its type
pub one_more_field : (fs : List (List ℕ × ComponentValType)) (ts : List InterfaceType) (i : ℕ) (d : List ℕ × ComponentValType) (e : InterfaceType) → i < length fs → i < length ts → fields_with (take (i + 1) fs) (take (i + 1) ts) ≡ fields_with (take i fs) (take i ts) ++ (record { name = (get_or fs i d).0; ty = get_or ts i e }) ∷ []
one_more_field [] ts i d e l m = absurd (omega (arith, l))
one_more_field (f ∷ fs) [] i d e l m = absurd (omega (arith, m))
one_more_field (f ∷ fs) (t ∷ ts) zero d e l m = refl
one_more_field (f ∷ fs) (t ∷ ts) (suc i) d e l m = ap (λ n. fields_with (take n (f ∷ fs)) (take n (t ∷ ts))) (next_suc i) ∙ ap (λ xs. (record { name = f.0; ty = t }) ∷ xs) (one_more_field fs ts i d e (omega (arith, l)) (omega (arith, m)))

pub field_added : (fs : List (List ℕ × ComponentValType)) (ts : List InterfaceType) (i : ℕ) (x : List ℕ × ComponentValType) (t : InterfaceType) (f : RecordField) (old new : List RecordField) → i < length fs → x ≡ get_or fs i x → slice_get ts i ≡ Some t → f ≡ record { name = x.0; ty = t } → old ≡ fields_with (take i fs) (take i ts) → new ≡ old ++ f ∷ [] → new ≡ fields_with (take (i + 1) fs) (take (i + 1) ts)
field_added fs ts i x t f old new l at there is h q =
    let named : f ≡ record { name = (get_or fs i x).0; ty = get_or ts i t } = is ∙ (λ j. record { name = (at j).0; ty = sym (get_or_from_slice_get ts i t t there) j }) in
    q ∙ (λ j. h j ++ named j ∷ []) ∙ sym (one_more_field fs ts i x t l (slice_get_within ts i t there))

pub all_fields : (fs : List (List ℕ × ComponentValType)) (ts : List InterfaceType) (i : ℕ) (made : List RecordField) → length fs ≤ i → length ts ≡ length fs → made ≡ fields_with (take i fs) (take i ts) → made ≡ fields_with fs ts
all_fields fs ts i made l same h = h ∙ (λ j. fields_with (take_all i fs l j) (take_all i ts (omega (arith, l, same)) j))

-- how far the cases were made: what they became, and what is left of the types
pub record CasesTo (cases : List (List ℕ × Option ComponentValType)) (ts : List InterfaceType) (i : ℕ) (rest : List InterfaceType) (made : List (List ℕ × Option InterfaceType)) : Type 0 where
  pub done : List (List ℕ × Option InterfaceType)
  pub merges : made ≡ merged done
  pub leaves : cases_with cases ts ≡ done ++ cases_with (drop i cases) rest

pub no_cases : (cases : List (List ℕ × Option ComponentValType)) (ts : List InterfaceType) (made : List (List ℕ × Option InterfaceType)) → made ≡ [] → CasesTo cases ts 0 ts made
no_cases cases ts made e = record { done = []; merges = e; leaves = refl }

pub one_more_case : (cases : List (List ℕ × Option ComponentValType)) (ts : List InterfaceType) (i : ℕ) (x : List ℕ × Option ComponentValType) (rest left : List InterfaceType) (q : Option InterfaceType) (old new : List (List ℕ × Option InterfaceType)) → i < length cases → x ≡ get_or cases i x → CasesTo cases ts i rest old
    → q ≡ taken_payload x.1 rest → left ≡ left_behind x.1 rest → new ≡ insert_entry (pointwise nat_eq) old x.0 q → CasesTo cases ts (i + 1) left new
one_more_case cases ts i x rest left q old new l is c taken behind e = record {
  done = c.done ++ (x.0, taken_payload x.1 rest) ∷ [];
  merges = e ∙ (λ j. insert_entry (pointwise nat_eq) (c.merges j) x.0 (taken j)) ∙ sym (one_more_merged (pointwise nat_eq) c.done (x.0, taken_payload x.1 rest));
  leaves =
      c.leaves ∙ ap (λ ys. c.done ++ cases_with ys rest) (drop_more cases i x l ∙ ap (λ y. y ∷ drop (i + 1) cases) (sym is))
      ∙ sym (append_assoc c.done ((x.0, taken_payload x.1 rest) ∷ []) (cases_with (drop (i + 1) cases) (left_behind x.1 rest)))
      ∙ ap (λ us. (c.done ++ (x.0, taken_payload x.1 rest) ∷ []) ++ cases_with (drop (i + 1) cases) us) (sym behind);
}

pub all_cases : (cases : List (List ℕ × Option ComponentValType)) (ts : List InterfaceType) (i : ℕ) (rest : List InterfaceType) (made : List (List ℕ × Option InterfaceType)) → length cases ≤ i → CasesTo cases ts i rest made → made ≡ merged (cases_with cases ts)
all_cases cases ts i rest made l c = c.merges ∙ ap merged (sym (c.leaves ∙ ap (λ ys. c.done ++ cases_with ys rest) (drop_of_length-le cases l) ∙ append-nil c.done))

-- the payloads of one more case
pub one_more_payload : (cases : List (List ℕ × Option ComponentValType)) (i : ℕ) (x : List ℕ × Option ComponentValType) (old new : List ComponentValType) → i < length cases → x ≡ get_or cases i x → old ≡ flat_map (λ x. option_to_list x.1) (take i cases) → new ≡ old ++ option_to_list x.1 → new ≡ flat_map (λ x. option_to_list x.1) (take (i + 1) cases)
one_more_payload cases i x old new l is h q =
    q ∙ (λ j. h j ++ option_to_list x.1) ∙ ap (λ (ys : List ComponentValType). flat_map (λ (x : List ℕ × Option ComponentValType). option_to_list x.1) (take i cases) ++ ys) (sym (append-nil (option_to_list x.1)))
    ∙ sym (flat_map-append (λ (x : List ℕ × Option ComponentValType). option_to_list x.1) (take i cases) (x ∷ []))
    ∙ ap (flat_map (λ (x : List ℕ × Option ComponentValType). option_to_list x.1)) (ap (λ y. take i cases ++ y ∷ []) is ∙ sym (take_more cases i x l))

-- a list that was answered, by another name
pub answered_as : {X E : Type 0} (r : Result (List X) E) (xs ys : List X) → xs ≡ ys → IfOk r (λ zs. zs ≡ xs) → IfOk r (λ zs. zs ≡ ys)
answered_as r xs ys e h = subst (λ ws. IfOk r (λ zs. zs ≡ ws)) e h
