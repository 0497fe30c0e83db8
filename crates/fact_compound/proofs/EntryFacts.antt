-- What the two calls of an async adapter are told.
use Rattle.std.proofs.Common.{◌≡◌, ◌∙◌, refl, sym, ap, ℕ, Bool, true, false, List, [], ◌∷◌, Option, Some, None, length, arith}
use Rattle.std.specs.Prelude.{nat_eq}
use Rattle.std.proofs.lemmas.Bool.{eqb-false, eqb-true}
use Rattle.std.specs.List.{AllByRecursion}
use Rattle.fact_wasm.specs.declared.types.ValType.{ValType}
use Rattle.fact_types.specs.Adapters.{LinkedAdapter, Side}
use Rattle.fact_types.specs.FlatShapes.{flat_each}
use Rattle.fact_types.specs.Functions.{HaveShapes}
use Rattle.fact_types.specs.Shapes.{Shape}
use Rattle.fact_types.specs.Signatures.{flat_values}
use Rattle.fact_types.specs.Tables.{Tables}
use Rattle.fact_types.specs.Valid.{IsValid}
use Rattle.fact_types.specs.declared.flats.FlatType.{FlatType}
use Rattle.fact_types.specs.declared.interface.InterfaceType.{InterfaceType}
use Rattle.fact_machine.specs.Numerics.{truth}
use Rattle.fact_actions.specs.Adapters.{encoding_number, results_number}
use Rattle.fact_actions.specs.Sides.{options_of, width_of_side}
use Rattle.fact_compound.specs.Described.{DescribesEntry, DescribesSide, is_marked_type}
use Rattle.fact_compound.specs.Entries.{call_facts, tuple_of_results, whether_any}
use Rattle.fact_compound.specs.Passing.{tuple_size}
use Rattle.fact_compound.specs.declared.adapters.AdapterData.{AdapterData}
use Rattle.fact_compound.specs.declared.adapters.AdapterOptions.{AdapterOptions}
use Rattle.fact_compound.proofs.CoreCounts.{results_counted}

pub none_there : {T : Type 0} (xs : List T) → nat_eq (length xs) 0 ≡ true → 0xFFFF_FFFF ≡ whether_any xs
none_there [] e = refl
none_there (x ∷ xs) e = absurd (omega (arith, eqb-true (length (x ∷ xs)) 0 e))

pub some_there : {T : Type 0} (xs : List T) → nat_eq (length xs) 0 ≡ false → 0xFFFF_FFFE ≡ whether_any xs
some_there [] e = absurd (eqb-false 0 0 e refl)
some_there (x ∷ xs) e = refl

-- there are as many types as shapes
shapes_any : (t : Tables) (xs : List InterfaceType) (ss : List Shape) → HaveShapes t xs ss → whether_any xs ≡ whether_any ss
shapes_any t [] [] h = refl
shapes_any t [] (s ∷ ss) h = absurd h
shapes_any t (x ∷ xs) [] h = absurd h
shapes_any t (x ∷ xs) (s ∷ ss) h = refl

-- the number for the results of an async lower side
pub any_number : {t : Tables} {o : AdapterOptions} {s : Side} (xs : List InterfaceType) → DescribesSide t o s → o.options.async_ ≡ true → HaveShapes t xs s.results → whether_any xs ≡ results_number s
any_number {t} {s = s} xs h async have = shapes_any t xs s.results have ∙ sym (ap (λ b. by_mark b s.results) (h.mark ∙ async) ∙ go s.results)
  where
    flats : Option (List FlatType) → ℕ
    flats None = 2147483647
    flats (Some ts) = length ts

    by_mark : Bool → List Shape → ℕ
    by_mark false ts = flats (flat_each (width_of_side (options_of s)) ts)
    by_mark true [] = 0xFFFF_FFFF
    by_mark true (t ∷ ts) = 0xFFFF_FFFE

    go : (ss : List Shape) → by_mark true ss ≡ whether_any ss
    go [] = refl
    go (s ∷ ss) = refl

abbrev counted : Option (List ValType) → ℕ
counted None = 2147483647
counted (Some vs) = length vs

-- that of a sync one, by flat values up to as many as their tuple has bytes
pub sync_number : {t : Tables} {o : AdapterOptions} {s : Side} {bytes : ℕ} → DescribesSide t o s → o.options.async_ ≡ false → AllByRecursion IsValid s.results → bytes ≡ tuple_size false s.results
    → results_number s ≡ counted (flat_values o.options.linear.memory64 bytes s.results)
sync_number {o = o} {s} h sync valid e = results_counted s o.options.linear.memory64 (h.mark ∙ sync) h.wide valid ∙ ap (λ n. counted (flat_values o.options.linear.memory64 n s.results)) (sym e)

pub number_of_some : {t : Tables} {o : AdapterOptions} {s : Side} {bytes : ℕ} {flat : Option (List ValType)} {vs : List ValType} → DescribesSide t o s → o.options.async_ ≡ false → AllByRecursion IsValid s.results → bytes ≡ tuple_size false s.results
    → flat ≡ flat_values o.options.linear.memory64 bytes s.results → flat ≡ Some vs → length vs ≡ results_number s
number_of_some h sync valid e f g = ap counted (sym g ∙ f) ∙ sym (sync_number h sync valid e)

pub number_of_none : {t : Tables} {o : AdapterOptions} {s : Side} {bytes : ℕ} {flat : Option (List ValType)} → DescribesSide t o s → o.options.async_ ≡ false → AllByRecursion IsValid s.results → bytes ≡ tuple_size false s.results
    → flat ≡ flat_values o.options.linear.memory64 bytes s.results → flat ≡ None → 2147483647 ≡ results_number s
number_of_none h sync valid e f g = ap counted (sym g ∙ f) ∙ sym (sync_number h sync valid e)

-- what a prepare-call is told
pub facts_are : {t : Tables} {d : AdapterData} {a : LinkedAdapter} {lower lift tuple mark encoding results : ℕ} → DescribesEntry t d a → lower ≡ d.lower.instance.number → lift ≡ d.lift.instance.number → tuple ≡ tuple_of_results t d.lift.ty → mark ≡ truth (is_marked_type t d.lift.ty)
    → encoding ≡ encoding_number d.lift.options.string_encoding → results ≡ results_number a.lower → lower ∷ lift ∷ tuple ∷ mark ∷ encoding ∷ results ∷ [] ≡ call_facts a (tuple_of_results t d.lift.ty)
facts_are h e1 e2 e3 e4 e5 e6 =
    λ i. (e1 ∙ h.lower_instance) i ∷ (e2 ∙ h.lift_instance) i ∷ e3 i ∷ (e4 ∙ ap truth (sym h.marked)) i ∷ (e5 ∙ ap encoding_number h.encoding) i ∷ e6 i ∷ []
