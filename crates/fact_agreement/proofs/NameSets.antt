-- Sets of names: each has the names of the other.
use Rattle.std.proofs.Common.{◌≡◌, ◌↔◌, ◌<◌, ℕ, zero, suc, List, [], ◌∷◌, length, get_or, None, Bool, true, refl, sym, ◌∙◌, ap, subst, arith, Contains}
use Rattle.std.specs.Prelude.{map, IsTrue, ◌&&◌}
use Rattle.std.specs.Str.{bytes_eq}
use Rattle.std.specs.List.{list_all, list_any}
use Rattle.std.specs.Cmp.Lexicographic.{nat_list_eq_equiv}
use Rattle.std.proofs.lemmas.Bool.{and_parts, and_from}
use Rattle.std.proofs.lemmas.Map.Views.{Contains-from_any, list_any-from_Contains}
use Rattle.std.proofs.lemmas.Slice.Eq.{bytes_eq-Decides}
use Rattle.fact_types.specs.Agrees.{HaveSameNames, names_of}
use Rattle.fact_types.specs.Shapes.{Members}
use Rattle.fact_types.specs.Tables.{Tables, HasMembers}
use Rattle.fact_agreement.proofs.MemberLaws.{names_are, names_alone}

all_to : (p : List ℕ → Bool) (xs : List (List ℕ)) → list_all p xs ≡ true → (x : List ℕ) (i : ℕ) → i < length xs → get_or xs i x ≡ x → p x ≡ true
all_to p [] h x i lt at = absurd (omega (arith, lt))
all_to p (y ∷ xs) h x zero lt at = ap p (sym at) ∙ (and_parts _ _ h).0
all_to p (y ∷ xs) h x (suc i) lt at = all_to p xs (and_parts (p y) _ h).1 x i (omega (arith, lt)) at

all_from : (p : List ℕ → Bool) (xs : List (List ℕ)) → ((x : List ℕ) → Contains xs x → p x ≡ true) → list_all p xs ≡ true
all_from p [] h = refl
all_from p (x ∷ xs) h = and_from _ _ (h x (0, omega arith, refl)) (all_from p xs (λ y k. h y (suc k.0, omega (arith, k.1), k.2)))

-- each name of a list is one of another
among_to : (xs ys : List (List ℕ)) → list_all (λ x. list_any (bytes_eq x) ys) xs ≡ true → (x : List ℕ) → Contains xs x → Contains ys x
among_to xs ys h x c = Contains-from_any {eq = bytes_eq} (λ x y e. (bytes_eq-Decides x y).0 e) x ys (all_to (λ x. list_any (bytes_eq x) ys) xs h x c.0 c.1 c.2)

among_from : (xs ys : List (List ℕ)) → ((x : List ℕ) → Contains xs x → Contains ys x) → list_all (λ x. list_any (bytes_eq x) ys) xs ≡ true
among_from xs ys h = all_from (λ x. list_any (bytes_eq x) ys) xs (λ x c. list_any-from_Contains {eq = bytes_eq} nat_list_eq_equiv x ys (h x c))

-- members without types, which have given names
pub same_sets : (t : Tables) (names others : List (List ℕ)) (b : Bool) → b ≡ (list_all (λ x. list_any (bytes_eq x) others) names && list_all (λ x. list_any (bytes_eq x) names) others) → (ms ns : Members)
    → HasMembers t (map (λ n. (n, None)) names) ms → HasMembers t (map (λ n. (n, None)) others) ns → (IsTrue b ↔ HaveSameNames ms ns)
same_sets t names others b is ms ns h k =
    let same : names_of ms ≡ names = names_are t _ ms h ∙ names_alone names in
    let other : names_of ns ≡ others = names_are t _ ns k ∙ names_alone others in (
      λ e.
          let p = and_parts _ _ (sym is ∙ e) in
          record {
            given = λ x c. subst (λ l. Contains l x) (sym other) (among_to names others p.0 x (subst (λ l. Contains l x) same c));
            asked = λ x c. subst (λ l. Contains l x) (sym same) (among_to others names p.1 x (subst (λ l. Contains l x) other c));
          },
      λ a. is
          ∙ and_from _ _ (among_from names others (λ x c. subst (λ l. Contains l x) other (a.given x (subst (λ l. Contains l x) (sym same) c))))
          (among_from others names (λ x c. subst (λ l. Contains l x) same (a.asked x (subst (λ l. Contains l x) (sym other) c)))),
    )
