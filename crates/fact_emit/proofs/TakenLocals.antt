-- Several locals that are taken one after another.
use Rattle.std.proofs.Common.{◌≡◌, ◌≢◌, ℕ, true, false, List, [], ◌∷◌, refl, sym, ap, ◌∙◌, subst}
use Rattle.std.specs.List.{AllByRecursion}
use Rattle.std.proofs.lemmas.Bool.{eqb-false, ne_eqb}
use Rattle.fact_wasm.specs.declared.types.ValType.{ValType}
use Rattle.fact_code_laws.specs.Places.{Slot, IsNone}
use Rattle.fact_emit.specs.declared.writer.Writer.{Writer}
use Rattle.fact_emit.specs.Writers.{taken_in, Took, TookAll}
use Rattle.fact_emit.proofs.ImportLaws.{grown_get, grows_none, grows_on}

pub took_none : {a : Writer} → TookAll a a []
took_none = record { code = refl; imports = refl; were_free = tt; taken = tt; others = λ i h. refl; grows = grows_none refl; typed = tt; numbers = λ n. n; distinct = tt }

-- a local that is in use is none of those that are free
pub not_free : (b : Writer) (i : ℕ) → taken_in b i ≡ true → (ss : List Slot) → AllByRecursion (λ s. taken_in b s.0 ≡ false) ss → IsNone i ss
not_free b i taken [] h = tt
not_free b i taken (s ∷ ss) h = (ne_eqb i s.0 (λ e. absurd (let no : true ≡ false = sym taken ∙ ap (taken_in b) e ∙ h.0 in cc)), not_free b i taken ss h.1)

free_before : (a b : Writer) (i : ℕ) → ((j : ℕ) → j ≢ i → taken_in b j ≡ taken_in a j) → (ss : List Slot) → IsNone i ss → AllByRecursion (λ s. taken_in b s.0 ≡ false) ss → AllByRecursion (λ s. taken_in a s.0 ≡ false) ss
free_before a b i others [] n h = tt
free_before a b i others (s ∷ ss) n h = (sym (others s.0 (λ e. eqb-false i s.0 n.0 (sym e))) ∙ h.0, free_before a b i others ss n.1 h.1)

pub took_more : {a b c : Writer} {t : ValType} {i : ℕ} {ss : List Slot} → Took a b t i → TookAll b c ss → TookAll a c ((i, t) ∷ ss)
took_more {a} {b} {c} {t} {i} {ss} x xs =
    let none : IsNone i ss = not_free b i x.taken ss xs.were_free in
    record {
      code = xs.code ∙ x.code;
      imports = xs.imports ∙ x.imports;
      were_free = (x.was_free, free_before a b i x.others ss none xs.were_free);
      taken = (xs.others i none ∙ x.taken, xs.taken);
      others = λ j h. xs.others j h.1 ∙ x.others j (eqb-false j i h.0);
      grows = grows_on x.grows xs.grows;
      typed = (grown_get xs.grows i t x.typed, xs.typed);
      numbers = λ n. xs.numbers (x.numbers n);
      distinct = (none, xs.distinct);
    }

pub took_typed : {a b : Writer} {t t' : ValType} {i : ℕ} → t ≡ t' → Took a b t i → Took a b t' i
took_typed {a} {b} {i = i} e x = subst (λ t. Took a b t i) e x
