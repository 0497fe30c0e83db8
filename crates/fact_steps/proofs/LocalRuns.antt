-- Loops that push locals and that set them.
use Rattle.std.proofs.Common.{◌≡◌, ℕ, ◌+◌, ◌<◌, ◌≤◌, List, [], ◌∷◌, ◌++◌, refl, sym, ap, ◌∙◌, subst, arith, length, take, drop, get_or}
use Rattle.std.proofs.lemmas.List.{drop_more, drop_all, take_more, take_all}
use Rattle.fact_wasm.specs.declared.instr.Instr.TheVariants as I
use Rattle.fact_emit.specs.Places.{slots_of_locals}
use Rattle.fact_emit.specs.Writers.{Wrote}
use Rattle.fact_emit.specs.declared.places.TypedLocal.{TypedLocal}
use Rattle.fact_emit.specs.declared.writer.Writer.{Writer}
use Rattle.fact_emit.proofs.Emitting.{wrote_none, wrote_then}
use Rattle.fact_steps.specs.Code.{pushed_code, popped_code}

-- ---- pushed

-- what is left to push makes the whole
pub record PushesOn (locals : List TypedLocal) (at : ℕ) (first now : Writer) : Type 0 where
  pub goes_on : (last : Writer) → Wrote now last (pushed_code (slots_of_locals (drop at locals))) → Wrote first last (pushed_code (slots_of_locals locals))

pub pushes_first : {locals : List TypedLocal} {w : Writer} → PushesOn locals 0 w w
pushes_first = record { goes_on = λ last x. x }

pub pushes_next : {locals : List TypedLocal} {at : ℕ} {first now next : Writer} (d : TypedLocal) → at < length locals → Wrote now next (I.LocalGet (get_or locals at d).local ∷ []) → PushesOn locals at first now → PushesOn locals (at + 1) first next
pushes_next {locals} {at} {first} {now} {next} d lt x h = record {
  goes_on = λ last y. h.goes_on last (subst (λ ls. Wrote now last (pushed_code (slots_of_locals ls))) (sym (drop_more locals at d lt)) (wrote_then x y));
}

pub pushes_all : {locals : List TypedLocal} {at : ℕ} {first now : Writer} → length locals ≤ at → PushesOn locals at first now → Wrote first now (pushed_code (slots_of_locals locals))
pushes_all {locals} {at} {first} {now} le h = h.goes_on now (subst (λ ls. Wrote now now (pushed_code (slots_of_locals ls))) (sym (drop_all at locals le)) (wrote_none now))

-- ---- set

popped_more : (xs : List TypedLocal) (s : TypedLocal) → popped_code (slots_of_locals (xs ++ s ∷ [])) ≡ I.LocalSet s.local ∷ popped_code (slots_of_locals xs)
popped_more [] s = refl
popped_more (x ∷ xs) s = ap (λ c. c ++ I.LocalSet x.local ∷ []) (popped_more xs s)

pub record PopsOn (locals : List TypedLocal) (left : ℕ) (first now : Writer) : Type 0 where
  pub goes_on : (last : Writer) → Wrote now last (popped_code (slots_of_locals (take left locals))) → Wrote first last (popped_code (slots_of_locals locals))

pub pops_first : {locals : List TypedLocal} {left : ℕ} {w : Writer} → left ≡ length locals → PopsOn locals left w w
pops_first {locals} {left} {w} e = record { goes_on = λ last x. subst (λ ls. Wrote w last (popped_code (slots_of_locals ls))) (take_all left locals (omega (arith, e))) x }

pub pops_next : {locals : List TypedLocal} {left at : ℕ} {first now next : Writer} (d : TypedLocal) → left ≡ at + 1 → left ≤ length locals → Wrote now next (I.LocalSet (get_or locals at d).local ∷ []) → PopsOn locals left first now → PopsOn locals at first next
pops_next {locals} {left} {at} {first} {now} {next} d e le x h = record {
  goes_on = λ last y.
      h.goes_on last (subst (λ c. Wrote now last c)
      (sym (ap (λ n. popped_code (slots_of_locals (take n locals))) e ∙ ap (λ ls. popped_code (slots_of_locals ls)) (take_more locals at d (omega (arith, e, le))) ∙ popped_more (take at locals) (get_or locals at d))) (wrote_then x y));
}

pub pops_all : {locals : List TypedLocal} {left : ℕ} {first now : Writer} → left ≡ 0 → PopsOn locals left first now → Wrote first now (popped_code (slots_of_locals locals))
pops_all {locals} {left} {first} {now} e h = h.goes_on now (subst (λ n. Wrote now now (popped_code (slots_of_locals (take n locals)))) (sym e) (wrote_none now))
