-- Pairs of item and value, and a list that has one of them an item.
use Rattle.std.proofs.Common.{◌≡◌, ◌≢◌, ℕ, ◌<◌, List, [], ◌∷◌, ◌++◌, length, get_or, Contains, AllPairs, refl, sym, ap, subst, ◌∙◌, inl, inr, arith}
use Rattle.std.proofs.lemmas.Bool.{cases_lt}
use Rattle.std.proofs.lemmas.List.{get_or_default}
use Rattle.std.proofs.lemmas.List.Elements.{Contains-get_or, Contains-append_left, Contains-push, Contains-push_cases}
use Rattle.std.proofs.lemmas.List.Quantifiers.{all_pairs_push}
use Rattle.fact_adapter_rules.specs.Bindings.{AreConsistent, Covers, IsBoundToAnother}
use Rattle.fact_adapter_rules.proofs.PairLaws.{last_pair}

module _ {D V : Type 0} where
  -- ---- no pairs, and one more

  pub Covers-nothing : Covers {D = D} {V = V} [] []
  Covers-nothing = record { same = λ p. (λ c. c, λ c. c); once = λ i j d below within. absurd (omega arith) }

  -- a pair that is there
  pub Covers-again : (m xs : List (D × V)) (p : D × V) → Contains m p → Covers m xs → Covers m (xs ++ p ∷ [])
  Covers-again m xs p there h = record {
    same = λ q. (λ c. Contains-append_left xs (p ∷ []) q ((h.same q).0 c), λ c. elim (Contains-push_cases xs p q c) [ inl a ↦ (h.same q).1 a | inr e ↦ subst (Contains m) e there ]);
    once = h.once;
  }

  push_both : (xs ys : List (D × V)) (p q : D × V) → (Contains xs q → Contains ys q) → Contains (xs ++ p ∷ []) q → Contains (ys ++ p ∷ []) q
  push_both xs ys p q f c =
      elim (Contains-push_cases xs p q c) [
        | inl a ↦ Contains-append_left ys (p ∷ []) q (f a)
        | inr e ↦ subst (Contains (ys ++ p ∷ [])) e (Contains-push ys p)
      ]

  -- a pair of an item that has none
  pub Covers-new : (m xs : List (D × V)) (p : D × V) → ((w : V) → Contains m (p.0, w) → ⊥) → Covers m xs → Covers (m ++ p ∷ []) (xs ++ p ∷ [])
  Covers-new m xs p absent h = record {
    same = λ q. (push_both m xs p q (h.same q).0, push_both xs m p q (h.same q).1);
    once = all_pairs_push (λ a b. a.0 ≢ b.0) m p h.once (λ k x within e. absent (get_or m k x).1 (subst (λ d. Contains m (d, (get_or m k x).1)) e (Contains-get_or m k x within)));
  }

  -- ---- consistency

  -- two places of one list have two items
  apart : (m : List (D × V)) (p q : D × V) → AllPairs (λ a b. a.0 ≢ b.0) m → (at : Contains m p) (to : Contains m q) → at.0 < to.0 → p.0 ≢ q.0
  apart m p q once at to below e =
      once at.0 to.0 p below to.1 (ap (λ x. x.0) at.2 ∙ e ∙ sym (ap (λ x. x.0) (get_or_default m to.0 p q to.1 ∙ to.2)))

  -- two pairs of one item are one
  one_value : (m : List (D × V)) (p q : D × V) → AllPairs (λ a b. a.0 ≢ b.0) m → Contains m p → Contains m q → p.0 ≡ q.0 → p.1 ≡ q.1
  one_value m p q once at to e =
      elim (cases_lt at.0 to.0) [
        | inl below ↦ absurd (apart m p q once at to below e)
        | inr not_below ↦
            elim (cases_lt to.0 at.0) [
              | inl above ↦ absurd (apart m q p once to at above (sym e))
              | inr not_above ↦
                  let same : at.0 ≡ to.0 = omega arith in
                  ap (λ x. x.1) (sym at.2 ∙ get_or_default m at.0 p q at.1 ∙ ap (λ k. get_or m k q) same ∙ to.2)
            ]
      ]

  -- what is covered is consistent
  pub AreConsistent-covered : (m xs : List (D × V)) → Covers m xs → AreConsistent xs
  AreConsistent-covered m xs h i j d below within e =
      let at = λ (k : ℕ) (inside : k < length xs). (h.same (get_or xs k d)).1 (Contains-get_or xs k d inside) in
      one_value m (get_or xs i d) (get_or xs j d) h.once (at i (omega arith)) (at j within) e

  -- a pair of an item that is bound to another value
  pub IsBoundToAnother-covered : (m xs : List (D × V)) (d : D) (v w : V) → Contains m (d, w) → w ≢ v → Covers m xs → IsBoundToAnother xs d v
  IsBoundToAnother-covered m xs d v w there other h =
      let c = (h.same (d, w)).0 there in
      (c.0, (d, w), c.1, c.2, (refl, other))

  -- and it contradicts what it is bound to, whatever comes behind it
  pub not_consistent : (xs ys : List (D × V)) (d : D) (v : V) → IsBoundToAnother xs d v → AreConsistent (xs ++ (d, v) ∷ ys) → ⊥
  not_consistent xs ys d v b h = b.4.1 (last_pair (λ p q. p.0 ≡ q.0 → p.1 ≡ q.1) xs ys b.1 (d, v) (b.0, b.2, b.3) h b.4.0)
