-- Zeros, one after another.
use Rattle.std.proofs.Common.{◌≡◌, ℕ, ◌+◌, ◌<◌, ◌≤◌, List, [], ◌∷◌, length, drop, get_or, refl, sym, ap, ◌∙◌, subst, add-one, append-nil}
use Rattle.std.proofs.Math.Seq.{drop-cons}
use Rattle.std.proofs.lemmas.List.{drop_all}
use Rattle.fact_wasm.specs.declared.instr.Instr.TheVariants as I
use Rattle.fact_code_laws.specs.Cases.{zero_const, zero_slots}
use Rattle.fact_emit.specs.declared.places.TypedLocal.{TypedLocal}
use Rattle.fact_emit.specs.declared.writer.Writer.{Writer}
use Rattle.fact_emit.specs.Places.{slots_of_locals}
use Rattle.fact_emit.specs.Writers.{Wrote}
use Rattle.fact_emit.proofs.Emitting.{wrote_then}

-- zeros for what is left complete those for all
pub record ZerosLeft (locals : List TypedLocal) (i : ℕ) (first now : Writer) : Type 0 where
  pub goes_on : (last : Writer) → Wrote now last (zero_slots (slots_of_locals (drop i locals))) → Wrote first last (zero_slots (slots_of_locals locals))

pub zeros_begin : {locals : List TypedLocal} {first : Writer} → ZerosLeft locals 0 first first
zeros_begin = record { goes_on = λ last x. x }

pub zeros_on : {locals : List TypedLocal} {i : ℕ} {first now next : Writer} (d : TypedLocal) → i < length locals → Wrote now next (zero_const (get_or locals i d).ty ∷ I.LocalSet (get_or locals i d).local ∷ []) → ZerosLeft locals i first now → ZerosLeft locals (i + 1) first next
zeros_on {locals} {i} {now = now} d lt w x =
    let front : drop i locals ≡ get_or locals i d ∷ drop (i + 1) locals = drop-cons locals i d lt ∙ ap (λ k. get_or locals i d ∷ drop k locals) (sym (add-one i)) in
    record { goes_on = λ last rest. x.goes_on last (subst (λ ss. Wrote now last (zero_slots (slots_of_locals ss))) (sym front) (wrote_then w rest)) }

pub zeros_end : {locals : List TypedLocal} {i : ℕ} {first last : Writer} → length locals ≤ i → ZerosLeft locals i first last → Wrote first last (zero_slots (slots_of_locals locals))
zeros_end {locals} {i} {last = last} ge x =
    x.goes_on last (subst (λ ss. Wrote last last (zero_slots (slots_of_locals ss))) (sym (drop_all i locals ge)) (record { code = sym (append-nil last.code.items); locals = refl; imports = refl }))
