-- Locals that are taken and freed.
use Rattle.std.proofs.Common.{◌≡◌, ◌≢◌, ℕ, zero, suc, ◌<◌, ◌≤◌, ◌⊎◌, inl, inr, Bool, true, false, List, [], ◌∷◌, ◌++◌, Some, refl, sym, ap, ◌∙◌, subst, arith, length, map, slice_get, slice_set, get_or}
use Rattle.std.specs.Prelude.{vec_len}
use Rattle.std.specs.List.{list_all}
use Rattle.std.proofs.lemmas.Bool.{cases_lt}
use Rattle.std.proofs.lemmas.List.{map-append, length-append, append-nil}
use Rattle.std.proofs.lemmas.Option.{slice_get_past}
use Rattle.fact_wasm.specs.declared.types.ValType.{ValType}
use Rattle.fact_machine.proofs.Tests.{first_of, second_of, both}
use Rattle.fact_machine.specs.Typing.{is_number}
use Rattle.fact_code_laws.proofs.Lists.{get_set_here, get_set_other, map_set}
use Rattle.fact_emit.specs.declared.writer.Local.{Local}
use Rattle.fact_emit.specs.declared.writer.Writer.{Writer}
use Rattle.fact_emit.specs.Writers.{AreNumberTypes, types_of_locals, free_local_of, used_local_of, is_local_in_use, taken_in, AddedLocal, Took, Freed}

module _ {A : Type 0} where
  pub get_last : (xs : List A) (x : A) → slice_get (xs ++ x ∷ []) (length xs) ≡ Some x
  get_last [] x = refl
  get_last (y ∷ xs) x = get_last xs x

  pub get_map : {B : Type 0} (f : A → B) (xs : List A) (i : ℕ) (x : A) → slice_get xs i ≡ Some x → slice_get (map f xs) i ≡ Some (f x)
  get_map f [] i x h = cc
  get_map f (y ∷ xs) zero x h = let same : y ≡ x = cc in ap (λ z. Some (f z)) same
  get_map f (y ∷ xs) (suc i) x h = get_map f xs i x h

  pub get_left : (xs ys : List A) (i : ℕ) → i < length xs → slice_get (xs ++ ys) i ≡ slice_get xs i
  get_left [] ys i h = absurd (omega arith)
  get_left (x ∷ xs) ys zero h = refl
  get_left (x ∷ xs) ys (suc i) h = get_left xs ys i (omega arith)

module _ (a b : Writer) (i : ℕ) (l : Local) (used : Bool) (h : slice_get a.locals.items i ≡ Some l) (is : b.locals.items ≡ slice_set a.locals.items i (record { ty = l.ty; in_use = used })) where
  set_types : types_of_locals b ≡ types_of_locals a
  set_types = ap (λ xs. map (λ (l : Local). l.ty) xs) is ∙ map_set (λ l. l.ty) a.locals.items i (record { ty = l.ty; in_use = used }) l h refl

  set_here : taken_in b i ≡ used
  set_here = ap (λ xs. is_local_in_use (slice_get xs i)) is ∙ ap is_local_in_use (get_set_here a.locals.items i (record { ty = l.ty; in_use = used }) l h)

  set_others : (j : ℕ) → j ≢ i → taken_in b j ≡ taken_in a j
  set_others j ne = ap (λ xs. is_local_in_use (slice_get xs j)) is ∙ ap is_local_in_use (get_set_other a.locals.items i j (record { ty = l.ty; in_use = used }) ne)

there : (xs : List Local) (i : ℕ) (l : Local) → is_local_in_use (slice_get xs i) ≡ true → l ≡ get_or xs i l → slice_get xs i ≡ Some l
there [] i l h e = cc
there (x ∷ xs) zero l h e = ap Some (sym e)
there (x ∷ xs) (suc i) l h e = there xs i l h e

pub freed : (a b : Writer) (i : ℕ) (l : Local) → taken_in a i ≡ true → l ≡ get_or a.locals.items i l → b.locals.items ≡ slice_set a.locals.items i (record { ty = l.ty; in_use = false })
    → b.code.items ≡ a.code.items → b.sections ≡ a.sections → Freed a b i
freed a b i l h e is code imports =
    let at = there a.locals.items i l h e in
    record { code = code; imports = imports; free = set_here a b i l false at is; others = set_others a b i l false at is; types = set_types a b i l false at is }

pub took_freed : (a b : Writer) (i : ℕ) (t : ValType) → slice_get a.locals.items i ≡ Some (free_local_of t) → b.locals.items ≡ slice_set a.locals.items i (record { ty = t; in_use = true })
    → b.code.items ≡ a.code.items → b.sections ≡ a.sections → Took a b t i
took_freed a b i t h is code imports = record {
  code = code;
  imports = imports;
  was_free = ap is_local_in_use h;
  taken = set_here a b i (free_local_of t) true h is;
  others = set_others a b i (free_local_of t) true h is;
  grows = record { more = []; is = set_types a b i (free_local_of t) true h is ∙ sym (append-nil (types_of_locals a)) };
  typed = ap (λ ts. slice_get ts i) (set_types a b i (free_local_of t) true h is) ∙ get_map (λ (l : Local). l.ty) a.locals.items i (free_local_of t) h;
  numbers = λ n. subst AreNumberTypes (sym (set_types a b i (free_local_of t) true h is)) n;
}

pub added_local : (a b : Writer) (t : ValType) (i : ℕ) → i ≡ vec_len a.locals → b.locals.items ≡ a.locals.items ++ used_local_of t ∷ [] → b.code.items ≡ a.code.items → b.sections ≡ a.sections → AddedLocal a b t i
added_local a b t i e is code imports = record { code = code; imports = imports; locals = is; place = e ∙ a.locals.ok.0 }

-- one more type of numbers
numbers_more : (ts : List ValType) (t : ValType) → is_number t ≡ true → AreNumberTypes ts → AreNumberTypes (ts ++ t ∷ [])
numbers_more [] t h n = both h refl
numbers_more (u ∷ ts) t h n = both (first_of (is_number u) (list_all is_number ts) n) (numbers_more ts t h (second_of (is_number u) (list_all is_number ts) n))

pub took_added : (a b : Writer) (t : ValType) (i : ℕ) → is_number t ≡ true → AddedLocal a b t i → Took a b t i
took_added a b t i number added = subst (λ i. Took a b t i) (sym added.place) record {
  code = added.code;
  imports = added.imports;
  was_free = ap is_local_in_use (slice_get_past a.locals.items (length a.locals.items) (omega arith));
  taken = ap (λ xs. is_local_in_use (slice_get xs (length a.locals.items))) added.locals ∙ ap is_local_in_use (get_last a.locals.items (used_local_of t));
  others = λ j ne. ap (λ xs. is_local_in_use (slice_get xs j)) added.locals ∙ other j ne (cases_lt j (length a.locals.items));
  grows = record { more = t ∷ []; is = types };
  typed = ap (λ xs. slice_get (map (λ (l : Local). l.ty) xs) (length a.locals.items)) added.locals ∙ get_map (λ (l : Local). l.ty) (a.locals.items ++ used_local_of t ∷ []) (length a.locals.items) (used_local_of t) (get_last a.locals.items (used_local_of t));
  numbers = λ n. subst AreNumberTypes (sym types) (numbers_more (types_of_locals a) t number n);
}
  where
    types : types_of_locals b ≡ types_of_locals a ++ t ∷ []
    types = ap (map (λ (l : Local). l.ty)) added.locals ∙ map-append (λ (l : Local). l.ty) a.locals.items (used_local_of t ∷ [])

    other : (j : ℕ) → j ≢ length a.locals.items → (j < length a.locals.items) ⊎ (length a.locals.items ≤ j) → is_local_in_use (slice_get (a.locals.items ++ used_local_of t ∷ []) j) ≡ taken_in a j
    other j ne (inl lt) = ap is_local_in_use (get_left a.locals.items (used_local_of t ∷ []) j lt)
    other j ne (inr ge) = ap is_local_in_use (slice_get_past (a.locals.items ++ used_local_of t ∷ []) j (omega (arith, ne, length-append a.locals.items (used_local_of t ∷ [])))) ∙ sym (ap is_local_in_use (slice_get_past a.locals.items j ge))
