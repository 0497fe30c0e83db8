-- Core values that are pushed one by one.
use Rattle.std.proofs.Common.{◌≡◌, ℕ, suc, ◌+◌, ◌<◌, ◌≤◌, List, [], ◌∷◌, ◌++◌, length, drop, get_or, refl, sym, ap, ◌∙◌, add-one, append_assoc}
use Rattle.std.proofs.Math.Seq.{drop-cons}
use Rattle.std.proofs.lemmas.List.{drop_all}
use Rattle.fact_machine.specs.declared.types.CoreValue.{CoreValue}
use Rattle.fact_types.specs.declared.flats.FlatType.{FlatType}
use Rattle.fact_lowering.specs.CoreSteps.{zeros_of}
use Rattle.fact_lowering.specs.Lowerings.{core_of, cores_of}
use Rattle.fact_lowering.proofs.CoreMembers.{nothing_behind}

pub front_of : {X : Type 0} (xs : List X) (i : ℕ) (x : X) → i < length xs → x ≡ get_or xs i x → drop i xs ≡ x ∷ drop (i + 1) xs
front_of xs i x lt e = drop-cons xs i x lt ∙ ap (λ y. y ∷ drop (suc i) xs) (sym e) ∙ ap (λ k. x ∷ drop k xs) (sym (add-one i))

one_more : (out out' cs : List CoreValue) (c : CoreValue) → out' ≡ out ++ c ∷ [] → out' ++ cs ≡ out ++ c ∷ cs
one_more out out' cs c pushed = ap (λ l. l ++ cs) pushed ∙ append_assoc out (c ∷ []) cs

pub number_pushed : (out out' all : List CoreValue) (slots : List FlatType) (numbers : List ℕ) (i : ℕ) (slot : FlatType) (number : ℕ) (c : CoreValue) → i < length slots → i < length numbers → slot ≡ get_or slots i slot → number ≡ get_or numbers i number → c ≡ core_of slot number → out' ≡ out ++ c ∷ []
    → out ++ cores_of (drop i slots) (drop i numbers) ≡ all → out' ++ cores_of (drop (i + 1) slots) (drop (i + 1) numbers) ≡ all
number_pushed out out' all slots numbers i slot number c lt less at here is pushed g =
    one_more out out' (cores_of (drop (i + 1) slots) (drop (i + 1) numbers)) c pushed
    ∙ ap (λ k. out ++ k ∷ cores_of (drop (i + 1) slots) (drop (i + 1) numbers)) is
    ∙ sym (λ j. out ++ cores_of (front_of slots i slot lt at j) (front_of numbers i number less here j))
    ∙ g

pub zero_pushed : (out out' all : List CoreValue) (slots : List FlatType) (i : ℕ) (slot : FlatType) (c : CoreValue) → i < length slots → slot ≡ get_or slots i slot → c ≡ core_of slot 0 → out' ≡ out ++ c ∷ [] → out ++ zeros_of (drop i slots) ≡ all → out' ++ zeros_of (drop (i + 1) slots) ≡ all
zero_pushed out out' all slots i slot c lt at is pushed g =
    one_more out out' (zeros_of (drop (i + 1) slots)) c pushed ∙ ap (λ k. out ++ k ∷ zeros_of (drop (i + 1) slots)) is ∙ ap (λ l. out ++ zeros_of l) (sym (front_of slots i slot lt at)) ∙ g

no_numbers : (fs : List FlatType) → cores_of fs [] ≡ []
no_numbers [] = refl
no_numbers (f ∷ fs) = refl

-- one number in the first slot
pub one_pushed : (slots rest : List FlatType) (slot : FlatType) (n : ℕ) → slots ≡ slot ∷ rest → cores_of slots (n ∷ []) ≡ core_of slot n ∷ []
one_pushed slots rest slot n e = ap (λ l. cores_of l (n ∷ [])) e ∙ ap (λ l. core_of slot n ∷ l) (no_numbers rest)

pub numbers_pushed : (out all : List CoreValue) (slots : List FlatType) (numbers : List ℕ) (i : ℕ) → length numbers ≤ i → out ++ cores_of (drop i slots) (drop i numbers) ≡ all → out ≡ all
numbers_pushed out all slots numbers i ge g = sym (nothing_behind out) ∙ sym (ap (λ l. out ++ l) (ap (cores_of (drop i slots)) (drop_all i numbers ge) ∙ no_numbers (drop i slots))) ∙ g

pub zeros_pushed : (out all : List CoreValue) (slots : List FlatType) (i : ℕ) → length slots ≤ i → out ++ zeros_of (drop i slots) ≡ all → out ≡ all
zeros_pushed out all slots i ge g = sym (nothing_behind out) ∙ sym (ap (λ l. out ++ zeros_of l) (drop_all i slots ge)) ∙ g
