-- Which keys are new where code asks for helpers: those of the helpers that are new with it, in that order.
use Rattle.std.proofs.Common.{◌≡◌, ℕ, zero, suc, ◌+◌, ◌<◌, ◌≤◌, ◌⊎◌, Bool, true, false, List, [], ◌∷◌, ◌++◌, Some, sym, ap, ◌∙◌, subst, arith, inl, inr, append-nil, append_assoc, length, map, nat_eq, slice_get, Contains}
use Rattle.std.specs.Prelude.{if◌then◌else◌}
use Rattle.std.specs.List.{AllByRecursion, AllZip, list_any, range_with_len}
use Rattle.std.proofs.lemmas.Bool.{cases_lt}
use Rattle.std.proofs.lemmas.List.Elements.{Contains-append_cases, Contains-append_left, Contains-append_right, Contains-push}
use Rattle.std.proofs.lemmas.List.FromFn.{get_or-range_with_len, length-range_with_len}
use Rattle.std.proofs.lemmas.Option.{get_or_from_slice_get, slice_get_within}
use Rattle.fact_machine.proofs.Tests.{get_append}
use Rattle.fact_actions.specs.Outlining.{AreNew, AskedAnew, AskedBefore, HelperKey, NoneAsked}
use Rattle.fact_emit.specs.Asked.{AskedHelper, entry_of}
use Rattle.fact_emit.specs.NamedFunctions.{added_once, all_added_once}
use Rattle.fact_emit.specs.declared.helpers.Helper.{Helper}
use Rattle.fact_emit.proofs.NamedLaws.{below_added, next_added, number_out}
use Rattle.fact_compound.specs.Asks.{helpers_from}
use Rattle.fact_compound.proofs.HelpersUsed.{among}
use Rattle.fact_assembly.proofs.NameLaws.{get-behind}

-- ---- helpers that are asked for, and those that are new

-- Behind helpers that were there these are asked for, and the new ones are these, in order.
pub data AreFirst : (before : List (Helper × ℕ)) → List AskedHelper → (fresh : List (Helper × ℕ)) → Type 0 where
  NoneIsAsked : (before : List (Helper × ℕ)) → AreFirst before [] []
  WasBefore : (before : List (Helper × ℕ)) (x : AskedHelper) (xs : List AskedHelper) (fresh : List (Helper × ℕ)) → Contains before (entry_of x) → AreFirst before xs fresh → AreFirst before (x ∷ xs) fresh
  IsAnew : (before : List (Helper × ℕ)) (x : AskedHelper) (xs : List AskedHelper) (fresh : List (Helper × ℕ)) → ((n : ℕ) → Contains before (x.key, n) → ⊥) → AreFirst (before ++ entry_of x ∷ []) xs fresh
      → AreFirst before (x ∷ xs) (entry_of x ∷ fresh)

-- no helper stands there with two numbers
abbrev pub AreOnceThere : List (Helper × ℕ) → Type 0
AreOnceThere es = (k : Helper) (m n : ℕ) → Contains es (k, m) → Contains es (k, n) → m ≡ n

-- ---- in the order of their numbers

abbrev numbers : List AskedHelper → List ℕ
numbers asks = map (λ (a : AskedHelper). a.number) asks

added-front : (ns xs : List ℕ) → (more : List ℕ) × (all_added_once ns xs ≡ ns ++ more)
added-front ns [] = ([], sym (append-nil ns))
added-front ns (x ∷ xs) = by (list_any (λ j. nat_eq j x) ns) (added-front ns xs) (added-front (ns ++ x ∷ []) xs)
  where
    by : (b : Bool) → (more : List ℕ) × (all_added_once ns xs ≡ ns ++ more) → (more : List ℕ) × (all_added_once (ns ++ x ∷ []) xs ≡ (ns ++ x ∷ []) ++ more) → (more : List ℕ) × (all_added_once (if b then ns else ns ++ x ∷ []) xs ≡ ns ++ more)
    by true same rest = same
    by false same rest = (x ∷ rest.0, rest.1 ∙ append_assoc ns (x ∷ []) rest.0)

in-range : (n m k : ℕ) → slice_get (range_with_len 0 n) m ≡ Some k → k < n
in-range n m k e =
    let within = slice_get_within (range_with_len 0 n) m k e in
    let long = length-range_with_len 0 n in
    let is = get_or_from_slice_get (range_with_len 0 n) m k 0 e in
    let at = get_or-range_with_len 0 n m 0 (omega (arith, within, long)) in
    let same : k ≡ 0 + m = sym is ∙ at in
    omega (arith, within, long, same)

-- a number behind a range that is added once is the next one, where all come to a range
next-is : (n m k : ℕ) (xs : List ℕ) → n ≤ k → all_added_once (added_once (range_with_len 0 n) k) xs ≡ range_with_len 0 m → (k ≡ n) × (n < m)
next-is n m k xs le order =
    let out : all_added_once (range_with_len 0 n) (k ∷ []) ≡ range_with_len 0 n ++ k ∷ [] = number_out (range_with_len 0 n) k (λ i e. let lt = in-range n i k e in omega (arith, lt, le)) in
    let front = added-front (range_with_len 0 n ++ k ∷ []) xs in
    let all : range_with_len 0 m ≡ (range_with_len 0 n ++ k ∷ []) ++ front.0 = sym order ∙ ap (λ ns. all_added_once ns xs) out ∙ front.1 in
    let long = length-range_with_len 0 n in
    let behind : slice_get (range_with_len 0 n ++ k ∷ []) n ≡ Some k = (let at : n ≡ length (range_with_len 0 n) + 0 = omega (arith, long) in ap (slice_get (range_with_len 0 n ++ k ∷ [])) at ∙ get-behind (range_with_len 0 n) (k ∷ []) 0) in
    let there : slice_get (range_with_len 0 m) n ≡ Some k = ap (λ ns. slice_get ns n) all ∙ get_append (range_with_len 0 n ++ k ∷ []) front.0 n k behind in
    let within = slice_get_within (range_with_len 0 m) n k there in
    let long' = length-range_with_len 0 m in
    let below : n < m = omega (arith, within, long') in
    let is = get_or_from_slice_get (range_with_len 0 m) n k 0 there in
    let at = get_or-range_with_len 0 m n 0 below in
    let same : k ≡ 0 + n = sym is ∙ at in
    (omega (arith, same), below)

-- what is asked for stands among those that were there and those from a number on, in order
abbrev InOrder : (n : ℕ) (rest : List Helper) (before : List (Helper × ℕ)) → List AskedHelper → Type 0
InOrder n rest before asks =
    all_added_once (range_with_len 0 n) (numbers asks) ≡ range_with_len 0 (n + length rest) → ((e : Helper × ℕ) → Contains before e → e.1 < n) → AreOnceThere (before ++ helpers_from n rest)
    → AllByRecursion (λ x. Contains (before ++ helpers_from n rest) (entry_of x)) asks → AreFirst before asks (helpers_from n rest)

-- the next one is asked for
next-asked : (n : ℕ) (rest : List Helper) (before : List (Helper × ℕ)) (x : AskedHelper) (xs : List AskedHelper) → x.number ≡ n → n < n + length rest → ((m : ℕ) (few : List Helper) (es : List (Helper × ℕ)) → InOrder m few es xs) → InOrder n rest before (x ∷ xs)
next-asked n [] before x xs is lt later order below once there = absurd (omega (arith, lt))
next-asked n (r ∷ rs) before x xs is lt later order below once there =
    let key : x.key ≡ r = by (Contains-append_cases before (helpers_from n (r ∷ rs)) (entry_of x) there.0) in
    let entry : entry_of x ≡ (r, n) = (λ k. (key k, is k)) in
    let grown : all_added_once (range_with_len 0 n) (x.number ∷ []) ≡ range_with_len 0 (suc n) = ap (λ k. all_added_once (range_with_len 0 n) (k ∷ [])) is ∙ next_added n in
    let many : n + length (r ∷ rs) ≡ suc n + length rs = omega arith in
    let rest-order : all_added_once (range_with_len 0 (suc n)) (numbers xs) ≡ range_with_len 0 (suc n + length rs) = sym (ap (λ ns. all_added_once ns (numbers xs)) grown) ∙ order ∙ ap (range_with_len 0) many in
    let moved : (before ++ (r, n) ∷ []) ++ helpers_from (suc n) rs ≡ before ++ helpers_from n (r ∷ rs) = append_assoc before ((r, n) ∷ []) (helpers_from (suc n) rs) in
    let behind : AreFirst (before ++ (r, n) ∷ []) xs (helpers_from (suc n) rs) =
    later (suc n) rs (before ++ (r, n) ∷ []) rest-order grown-below (subst AreOnceThere (sym moved) once) (subst (λ es. AllByRecursion (λ y. Contains es (entry_of y)) xs) (sym moved) there.1) in
    subst (λ e. AreFirst before (x ∷ xs) (e ∷ helpers_from (suc n) rs)) entry
    (IsAnew before x xs (helpers_from (suc n) rs) fresh (subst (λ e. AreFirst (before ++ e ∷ []) xs (helpers_from (suc n) rs)) (sym entry) behind))
  where
    by : Contains before (entry_of x) ⊎ Contains (helpers_from n (r ∷ rs)) (entry_of x) → x.key ≡ r
    by (inl was) = absurd (let low = below (entry_of x) was in omega (arith, low, is))
    by (inr new) =
        let at = among n (r ∷ rs) (entry_of x) new in
        let first : at.place ≡ 0 = omega (arith, at.number, is) in
        let same : Some r ≡ Some x.key = sym (ap (slice_get (r ∷ rs)) first) ∙ at.key in
        cc

    grown-below : (e : Helper × ℕ) → Contains (before ++ (r, n) ∷ []) e → e.1 < suc n
    grown-below e c = elim (Contains-append_cases before ((r, n) ∷ []) e c) [
      | inl was ↦ let low = below e was in omega (arith, low)
      | inr here ↦ let at = among n (r ∷ []) e here in omega (arith, at.number, at.below)
    ]

    fresh : (m : ℕ) → Contains before (x.key, m) → ⊥
    fresh m c =
        let low = below (x.key, m) c in
        let same = once x.key m x.number (Contains-append_left before (helpers_from n (r ∷ rs)) (x.key, m) c) there.0 in
        omega (arith, low, same, is)

-- Helpers that are asked for have numbers, and those from the next one on are new, in the order in which they are asked for.
pub first-asked : (asks : List AskedHelper) (n : ℕ) (rest : List Helper) (before : List (Helper × ℕ)) → InOrder n rest before asks
first-asked [] n [] before order below once there = NoneIsAsked before
first-asked [] n (r ∷ rs) before order below once there = absurd (omega (arith, ap length order, length-range_with_len 0 n, length-range_with_len 0 (n + length (r ∷ rs))))
first-asked (x ∷ xs) n rest before order below once there = elim (cases_lt x.number n) [
  | inl lt ↦
      let same : all_added_once (range_with_len 0 n) (x.number ∷ []) ≡ range_with_len 0 n = below_added n (x.number ∷ []) (lt, tt) in
      let rest-order : all_added_once (range_with_len 0 n) (numbers xs) ≡ range_with_len 0 (n + length rest) = sym (ap (λ ns. all_added_once ns (numbers xs)) same) ∙ order in
      WasBefore before x xs (helpers_from n rest) (old lt (Contains-append_cases before (helpers_from n rest) (entry_of x) there.0)) (first-asked xs n rest before rest-order below once there.1)
  | inr ge ↦
      let next = next-is n (n + length rest) x.number (numbers xs) ge order in
      next-asked n rest before x xs next.0 next.1 (λ m few es. first-asked xs m few es) order below once there
]
  where
    old : x.number < n → Contains before (entry_of x) ⊎ Contains (helpers_from n rest) (entry_of x) → Contains before (entry_of x)
    old lt (inl was) = was
    old lt (inr new) = absurd (let at = among n rest (entry_of x) new in omega (arith, lt, at.number))

-- ---- and their keys

-- Helpers have keys, each one, and each key is that of one helper.
module _ (IsKey : Helper → HelperKey → Type 0) (one-key : (h : Helper) (k l : HelperKey) → IsKey h k → IsKey h l → k ≡ l) (one-helper : (h g : Helper) (k : HelperKey) → IsKey h k → IsKey g k → h ≡ g) where
  abbrev pub HaveKeys : List (Helper × ℕ) → List HelperKey → Type 0
  HaveKeys es ks = AllZip (λ (e : Helper × ℕ) k. IsKey e.0 k) es ks

  abbrev pub AskKeys : List AskedHelper → List HelperKey → Type 0
  AskKeys asks ks = AllZip (λ (x : AskedHelper) k. IsKey x.key k) asks ks

  pub keys-behind : (es fs : List (Helper × ℕ)) (ks ls : List HelperKey) → HaveKeys es ks → HaveKeys fs ls → HaveKeys (es ++ fs) (ks ++ ls)
  keys-behind [] fs [] ls h g = g
  keys-behind [] fs (k ∷ ks) ls h g = absurd h
  keys-behind (e ∷ es) fs [] ls h g = absurd h
  keys-behind (e ∷ es) fs (k ∷ ks) ls h g = (h.0, keys-behind es fs ks ls h.1 g)

  key-there : (es : List (Helper × ℕ)) (ks : List HelperKey) (e : Helper × ℕ) (k : HelperKey) → HaveKeys es ks → Contains es e → IsKey e.0 k → Contains ks k
  key-there [] ks e k h c is = absurd (omega (arith, c.1))
  key-there (f ∷ es) [] e k h c is = absurd h
  key-there (f ∷ es) (l ∷ ks) e k h c is = elim (Contains-append_cases (f ∷ []) es e c) [
    | inl first ↦
        let same : f ≡ e = first-only f e first in
        let key : l ≡ k = one-key e.0 l k (subst (λ (g : Helper × ℕ). IsKey g.0 l) same h.0) is in
        Contains-append_left (l ∷ []) ks k (subst (Contains (l ∷ [])) key (Contains-push [] l))
    | inr later ↦ Contains-append_right (l ∷ []) ks k (key-there es ks e k h.1 later is)
  ]
    where
      first-only : (f e : Helper × ℕ) → Contains (f ∷ []) e → f ≡ e
      first-only f e (zero, lt, is) = is
      first-only f e (suc i, lt, is) = absurd (omega (arith, lt))

  record HasHelperOf (es : List (Helper × ℕ)) (k : HelperKey) : Type 0 where
    entry : Helper × ℕ
    there : Contains es entry
    is : IsKey entry.0 k

  helper-there : (es : List (Helper × ℕ)) (ks : List HelperKey) (k : HelperKey) → HaveKeys es ks → Contains ks k → HasHelperOf es k
  helper-there [] [] k h c = absurd (omega (arith, c.1))
  helper-there [] (l ∷ ks) k h c = absurd h
  helper-there (e ∷ es) [] k h c = absurd h
  helper-there (e ∷ es) (l ∷ ks) k h (zero, lt, is) = record { entry = e; there = Contains-append_left (e ∷ []) es e (Contains-push [] e); is = subst (IsKey e.0) is h.0 }
  helper-there (e ∷ es) (l ∷ ks) k h (suc i, lt, is) =
      let rest = helper-there es ks k h.1 (i, omega (arith, lt), is) in
      record { entry = rest.entry; there = Contains-append_right (e ∷ []) es rest.entry rest.there; is = rest.is }

  pub record HasNewKeys (known asked : List HelperKey) (fresh : List (Helper × ℕ)) : Type 0 where
    pub new : List HelperKey
    pub are : AreNew known asked new
    pub keyed : HaveKeys fresh new

  -- The new helpers have the keys that are new.
  pub new-keys : {before fresh : List (Helper × ℕ)} {asks : List AskedHelper} (known asked : List HelperKey) → AreFirst before asks fresh → HaveKeys before known → AskKeys asks asked → HasNewKeys known asked fresh
  new-keys known [] (NoneIsAsked before) h a = record { new = []; are = NoneAsked known; keyed = tt }
  new-keys known (k ∷ ks) (NoneIsAsked before) h a = absurd a
  new-keys known [] (WasBefore before x xs fresh there first) h a = absurd a
  new-keys known (k ∷ ks) (WasBefore before x xs fresh there first) h a =
      let rest = new-keys known ks first h a.1 in
      record { new = rest.new; are = AskedBefore known k ks rest.new (key-there before known (entry_of x) k h there a.0) rest.are; keyed = rest.keyed }
  new-keys known [] (IsAnew before x xs fresh anew first) h a = absurd a
  new-keys known (k ∷ ks) (IsAnew before x xs fresh anew first) h a =
      let rest = new-keys (known ++ k ∷ []) ks first (keys-behind before (entry_of x ∷ []) known (k ∷ []) h (a.0, tt)) a.1 in
      let not-known : Contains known k → ⊥ = λ c.
      let was = helper-there before known k h c in
      let same : was.entry.0 ≡ x.key = one-helper was.entry.0 x.key k was.is a.0 in
      anew was.entry.1 (subst (λ g. Contains before (g, was.entry.1)) same was.there) in
      record { new = k ∷ rest.new; are = AskedAnew known k ks rest.new not-known rest.are; keyed = (a.0, rest.keyed) }
