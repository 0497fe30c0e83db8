-- The cases of variants by their names.
use Rattle.std.proofs.Common.{◌≡◌, ◌↔◌, ℕ, suc, List, [], ◌∷◌, Option, Some, None, Bool, true, false, cond, refl, sym, subst, arith}
use Rattle.std.specs.Str.{bytes_eq}
use Rattle.std.specs.Map.{lookup}
use Rattle.std.specs.Cmp.Lexicographic.{nat_list_eq_equiv}
use Rattle.fact_types.specs.declared.interface.InterfaceType.{InterfaceType}
use Rattle.fact_types.specs.Agrees.{Agrees, chosen, BothThere, AgreesCase, EachCase}
use Rattle.fact_types.specs.Shapes.{Shape, Members}
use Rattle.fact_types.specs.Tables.{Tables, HasMembers, IsLiveMember}
use Rattle.fact_types.proofs.ShapeLaws.{same_some, none_some}
use Rattle.fact_agreement.specs.Told.{AreLive, HasPayload, AgreePayload, TellsPayload}
use Rattle.fact_agreement.proofs.MemberLaws.{both_ways, yes_says, no_says, member, Front, front, none_left}

-- ---- a case among those of the destination
same_bare : (p : Option Shape) → (p ≡ None) ↔ AgreePayload p None
same_bare None = (λ e. tt, λ a. refl)
same_bare (Some s) = (λ e. absurd (none_some (Some s) s e refl), λ a. absurd a)

same_typed : (p : Option Shape) (d : Shape) → BothThere p (λ s. Agrees s d) ↔ AgreePayload p (Some d)
same_typed None d = (λ b. b, λ a. a)
same_typed (Some s) d = (λ b. b, λ a. a)

at_front : (x y : List ℕ) (p e : Option Shape) (ns : Members) → bytes_eq y x ≡ true → AgreesCase x p (member y e ns) ↔ AgreePayload p e
at_front x y p None ns h = subst (λ b. chosen b (p ≡ None) (AgreesCase x p ns) ↔ AgreePayload p None) (sym h) (same_bare p)
at_front x y p (Some d) ns h = subst (λ b. chosen b (BothThere p (λ s. Agrees s d)) (AgreesCase x p ns) ↔ AgreePayload p (Some d)) (sym h) (same_typed p d)

past_front : (x y : List ℕ) (p e : Option Shape) (ns : Members) → bytes_eq y x ≡ false → AgreesCase x p (member y e ns) ↔ AgreesCase x p ns
past_front x y p None ns h = subst (λ b. chosen b (p ≡ None) (AgreesCase x p ns) ↔ AgreesCase x p ns) (sym h) (λ a. a, λ a. a)
past_front x y p (Some d) ns h = subst (λ b. chosen b (BothThere p (λ s. Agrees s d)) (AgreesCase x p ns) ↔ AgreesCase x p ns) (sym h) (λ a. a, λ a. a)

-- the first case of a name: its payload, which decides
pub record Case (t : Tables) (x : List ℕ) (q : Option InterfaceType) (ns : Members) : Type 0 where
  pub payload : Option Shape
  pub shaped : HasPayload t q payload
  pub agrees : (p : Option Shape) → AgreesCase x p ns ↔ AgreePayload p payload

found_case : (t : Tables) (x : List ℕ) (q : Option InterfaceType) (ys : List (List ℕ × Option InterfaceType)) (ns : Members) → HasMembers t ys ns → lookup (bytes_eq x) ys ≡ Some q → Case t x q ns
found_case t x q [] ns h e = absurd (none_some None q refl e)
found_case t x q (y ∷ ys) ns h e =
    let f = front t y.0 y.1 ys ns h in
    subst (Case t x q) (sym f.is) (go f (bytes_eq x y.0) (nat_list_eq_equiv.symm y.0 x) e (found_case t x q ys f.rest f.others))
  where
    go : (f : Front t y ys ns) (b : Bool) → bytes_eq y.0 x ≡ b → cond b (Some y.1) (lookup (bytes_eq x) ys) ≡ Some q → (lookup (bytes_eq x) ys ≡ Some q → Case t x q f.rest) → Case t x q (member y.0 f.payload f.rest)
    go f true s e rest = record { payload = f.payload; shaped = subst (λ q. HasPayload t q f.payload) (same_some (Some y.1) y.1 q refl e) f.shaped; agrees = λ p. at_front x y.0 p f.payload f.rest s }
    go f false s e rest = let r = rest e in record { payload = r.payload; shaped = r.shaped; agrees = λ p. both_ways (past_front x y.0 p f.payload f.rest s) (r.agrees p) }

no_case : (t : Tables) (x : List ℕ) (p : Option Shape) (ys : List (List ℕ × Option InterfaceType)) (ns : Members) → HasMembers t ys ns → lookup (bytes_eq x) ys ≡ None → AgreesCase x p ns → ⊥
no_case t x p [] ns h e a = subst (AgreesCase x p) (none_left t ns h) a
no_case t x p (y ∷ ys) ns h e a =
    let f = front t y.0 y.1 ys ns h in
    go f (bytes_eq x y.0) (nat_list_eq_equiv.symm y.0 x) e (subst (AgreesCase x p) f.is a) (no_case t x p ys f.rest f.others)
  where
    go : (f : Front t y ys ns) (b : Bool) → bytes_eq y.0 x ≡ b → cond b (Some y.1) (lookup (bytes_eq x) ys) ≡ None → AgreesCase x p (member y.0 f.payload f.rest) → (lookup (bytes_eq x) ys ≡ None → AgreesCase x p f.rest → ⊥) → ⊥
    go f true s e a rest = none_some (Some y.1) y.1 e refl
    go f false s e a rest = rest e ((past_front x y.0 p f.payload f.rest s).0 a)

pub case_live : (t : Tables) (test : List ℕ → Bool) (ys : List (List ℕ × Option InterfaceType)) (q : Option InterfaceType) → AreLive t ys → lookup test ys ≡ Some q → IsLiveMember t q
case_live t test [] q l e = absurd (none_some None q refl e)
case_live t test (y ∷ ys) q l e = go (test y.0) e (case_live t test ys q (λ i d m. l (suc i) d (omega (arith, m))))
  where
    go : (b : Bool) → cond b (Some y.1) (lookup test ys) ≡ Some q → (lookup test ys ≡ Some q → IsLiveMember t q) → IsLiveMember t q
    go true e rest = subst (IsLiveMember t) (same_some (Some y.1) y.1 q refl e) (l 0 y (omega arith))
    go false e rest = rest e

pub rest_live : (t : Tables) (x : List ℕ × Option InterfaceType) (xs : List (List ℕ × Option InterfaceType)) → AreLive t (x ∷ xs) → AreLive t xs
rest_live t x xs l = λ k d m. l (suc k) d (omega (arith, m))

-- ---- the cases of the source, one after another: those that are left give the same
abbrev EachOf : Members → Members → Type 0
EachOf ns ms = EachCase ms (λ x p. AgreesCase x p ns)

each_member : (ns : Members) (x : List ℕ) (p : Option Shape) (ms : Members) → EachOf ns (member x p ms) ↔ (AgreesCase x p ns × EachOf ns ms)
each_member ns x None ms = (λ a. a, λ a. a)
each_member ns x (Some s) ms = (λ a. a, λ a. a)

pub record LeftCases (t : Tables) (xs : List (List ℕ × Option InterfaceType)) (ms ns : Members) : Type 0 where
  pub rest : Members
  pub has : HasMembers t xs rest
  pub same : EachOf ns ms ↔ EachOf ns rest

module _ (t : Tables) (ys : List (List ℕ × Option InterfaceType)) (x : List ℕ) (p : Option InterfaceType) (xs : List (List ℕ × Option InterfaceType)) (ms ns : Members)
    (l : LeftCases t ((x, p) ∷ xs) ms ns) (h : HasMembers t ys ns) where
  -- the case at hand, and the others
  at_hand : (f : Front t (x, p) xs l.rest) → EachOf ns ms ↔ (AgreesCase x f.payload ns × EachOf ns f.rest)
  at_hand f = both_ways l.same (subst (λ rest. EachOf ns rest ↔ (AgreesCase x f.payload ns × EachOf ns f.rest)) (sym f.is) (each_member ns x f.payload f.rest))

  pub next_case : (q : Option InterfaceType) (b : Bool) → lookup (bytes_eq x) ys ≡ Some q → TellsPayload t p q b → b ≡ true → LeftCases t xs ms ns
  next_case q b e k holds =
      let f = front t x p xs l.rest l.has in
      let c = found_case t x q ys ns h e in
      let there = (c.agrees f.payload).1 (yes_says b (k f.payload c.payload f.shaped c.shaped) holds) in
      record { rest = f.rest; has = f.others; same = (λ a. ((at_hand f).0 a).1, λ a. (at_hand f).1 (there, a)) }

  pub wrong_case : (q : Option InterfaceType) (b : Bool) → lookup (bytes_eq x) ys ≡ Some q → TellsPayload t p q b → b ≡ false → EachOf ns ms → ⊥
  wrong_case q b e k fails a =
      let f = front t x p xs l.rest l.has in
      let c = found_case t x q ys ns h e in
      no_says b (k f.payload c.payload f.shaped c.shaped) fails ((c.agrees f.payload).0 ((at_hand f).0 a).0)

  pub missing_case : lookup (bytes_eq x) ys ≡ None → EachOf ns ms → ⊥
  missing_case e a = let f = front t x p xs l.rest l.has in no_case t x f.payload ys ns h e ((at_hand f).0 a).0

pub no_more_cases : (t : Tables) (ms ns : Members) → LeftCases t [] ms ns → EachOf ns ms
no_more_cases t ms ns l = l.same.1 (subst (EachOf ns) (sym (none_left t l.rest l.has)) tt)
