-- Declared locals in runs of one type.
use Rattle.std.proofs.Common.{◌≡◌, ℕ, zero, suc, ◌+◌, ◌<◌, ◌≤◌, true, ◌||◌, List, [], ◌∷◌, ◌++◌, refl, sym, ap, ◌∙◌, arith, length, map, take, get_or}
use Rattle.std.specs.Prelude.{nat_eq, replicate}
use Rattle.std.specs.List.{list_all}
use Rattle.std.proofs.lemmas.Bool.{ne_eqb}
use Rattle.std.proofs.lemmas.List.{take_more, take_all, map-append}
use Rattle.fact_wasm.specs.declared.types.ValType.{ValType}
use Rattle.fact_machine.specs.Typing.{declares_numbers, is_number, local_types}
use Rattle.fact_machine.proofs.Tests.{first_of, second_of, both}
use Rattle.fact_emit.specs.Writers.{AreNumberTypes}
use Rattle.fact_emit.specs.declared.writer.Local.{Local}

-- ---- the loop

pub record RunsOn (locals : List Local) (at : ℕ) (runs : List (ℕ × ValType)) : Type 0 where
  pub are : local_types runs ≡ map (λ (l : Local). l.ty) (take at locals)

pub runs_first : {locals : List Local} {runs : List (ℕ × ValType)} → runs ≡ [] → RunsOn locals 0 runs
runs_first e = record { are = ap local_types e }

pub runs_next : {locals : List Local} {at : ℕ} {runs more : List (ℕ × ValType)} (d : Local) → at < length locals → local_types more ≡ local_types runs ++ (get_or locals at d).ty ∷ [] → RunsOn locals at runs → RunsOn locals (at + 1) more
runs_next {locals} {at} d lt e h = record {
  are = e ∙ ap (λ ts. ts ++ (get_or locals at d).ty ∷ []) h.are ∙ sym (map-append (λ (l : Local). l.ty) (take at locals) (get_or locals at d ∷ [])) ∙ ap (map (λ (l : Local). l.ty)) (sym (take_more locals at d lt));
}

pub runs_all : {locals : List Local} {at : ℕ} {runs : List (ℕ × ValType)} → length locals ≤ at → RunsOn locals at runs → local_types runs ≡ map (λ (l : Local). l.ty) locals
runs_all {locals} {at} le h = h.are ∙ ap (map (λ (l : Local). l.ty)) (take_all at locals le)

-- ---- types of numbers

pub numbers_append : (xs ys : List ValType) → AreNumberTypes xs → AreNumberTypes ys → AreNumberTypes (xs ++ ys)
numbers_append [] ys h k = k
numbers_append (x ∷ xs) ys h k = both (first_of (is_number x) (list_all is_number xs) h) (numbers_append xs ys (second_of (is_number x) (list_all is_number xs) h) k)

pub numbers_front : (xs ys : List ValType) → AreNumberTypes (xs ++ ys) → AreNumberTypes xs
numbers_front [] ys h = refl
numbers_front (x ∷ xs) ys h = both (first_of (is_number x) (list_all is_number (xs ++ ys)) h) (numbers_front xs ys (second_of (is_number x) (list_all is_number (xs ++ ys)) h))

pub numbers_behind : (xs ys : List ValType) → AreNumberTypes (xs ++ ys) → AreNumberTypes ys
numbers_behind [] ys h = h
numbers_behind (x ∷ xs) ys h = numbers_behind xs ys (second_of (is_number x) (list_all is_number (xs ++ ys)) h)

-- runs of numbers declare numbers
pub declares_all : (runs : List (ℕ × ValType)) → AreNumberTypes (local_types runs) → list_all declares_numbers runs ≡ true
declares_all [] h = refl
declares_all (r ∷ runs) h = both (declares r.0 r.1 h) (declares_all runs (numbers_behind (replicate r.0 r.1) (local_types runs) h))
  where
    declares : (n : ℕ) (t : ValType) → AreNumberTypes (replicate n t ++ local_types runs) → (nat_eq n 0 || is_number t) ≡ true
    declares zero t h = refl
    declares (suc n) t h = ap (λ b. b || is_number t) (ne_eqb (suc n) 0 (λ e. omega (arith, e))) ∙ first_of (is_number t) (list_all is_number (replicate n t ++ local_types runs)) h
