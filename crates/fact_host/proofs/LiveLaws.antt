-- Regions that are in use lie below a cursor and apart from each other, and stay so.
use Rattle.std.proofs.Common.{◌≡◌, ℕ, ◌+◌, ◌<◌, ◌≤◌, ◌⊎◌, inl, inr, Bool, true, false, List, [], ◌∷◌, ◌++◌, refl, ap, arith, map}
use Rattle.std.specs.Prelude.{◌&&◌, nat_eq, cond, if◌then◌else◌}
use Rattle.std.proofs.lemmas.Bool.{eqb-true}
use Rattle.std.specs.Cmp.{first_so, second_so}
use Rattle.fact_actions.specs.Regions.{Region, IsIn, IsInAny, AreApart, without}
use Rattle.fact_host.specs.declared.allocator.Region.{Region as HostRegion}
use Rattle.fact_host.specs.Rules.{live_without, is_live}

-- ---- the host's regions are those of the transfer

abbrev pub kept : Region → HostRegion
kept r = record { at = r.at; size = r.size }

-- whether a region is among others, by its place and size
abbrev pub has : Region → List Region → Bool
has r [] = false
has r (s ∷ rs) = if nat_eq s.at r.at && nat_eq s.size r.size then true else has r rs

pub live_is_has : (r : Region) (rs : List Region) → is_live (kept r) (map kept rs) ≡ has r rs
live_is_has r [] = refl
live_is_has r (s ∷ rs) = ap (λ b. cond (nat_eq s.at r.at && nat_eq s.size r.size) true b) (live_is_has r rs)

kept_by : (s : Region) (rs others : List Region) (us : List HostRegion) (b : Bool) → map kept others ≡ us → map kept (cond b rs (s ∷ others)) ≡ cond b (map kept rs) (kept s ∷ us)
kept_by s rs others us true h = refl
kept_by s rs others us false h = ap (λ l. kept s ∷ l) h

pub kept_without : (r : Region) (rs : List Region) → map kept (without r rs) ≡ live_without (kept r) (map kept rs)
kept_without r [] = refl
kept_without r (s ∷ rs) = kept_by s rs (without r rs) _ (nat_eq s.at r.at && nat_eq s.size r.size) (kept_without r rs)

-- ---- below a cursor

abbrev pub AllBelow : ℕ → List Region → Type 0
AllBelow m [] = Unit {0}
AllBelow m (r ∷ rs) = (r.at + r.size ≤ m) × AllBelow m rs

pub below_rises : (m n : ℕ) (rs : List Region) → m ≤ n → AllBelow m rs → AllBelow n rs
below_rises m n [] le h = tt
below_rises m n (r ∷ rs) le h = (omega (arith, h.0), below_rises m n rs le h.1)

below_by : (m : ℕ) (s : Region) (rs others : List Region) (b : Bool) → AllBelow m (s ∷ rs) → AllBelow m others → AllBelow m (cond b rs (s ∷ others))
below_by m s rs others true h g = h.1
below_by m s rs others false h g = (h.0, g)

pub below_without : (m : ℕ) (r : Region) (rs : List Region) → AllBelow m rs → AllBelow m (without r rs)
below_without m r [] h = tt
below_without m r (s ∷ rs) h = below_by m s rs (without r rs) (nat_eq s.at r.at && nat_eq s.size r.size) h (below_without m r rs h.1)

-- ---- below a cursor, or behind a memory

abbrev pub AllOut : (m top : ℕ) → List Region → Type 0
AllOut m top [] = Unit {0}
AllOut m top (r ∷ rs) = ((r.at + r.size ≤ m) ⊎ (top ≤ r.at)) × AllOut m top rs

out_rise : (m n top : ℕ) (r : Region) → m ≤ n → (r.at + r.size ≤ m) ⊎ (top ≤ r.at) → (r.at + r.size ≤ n) ⊎ (top ≤ r.at)
out_rise m n top r le (inl h) = inl (omega (arith, h, le))
out_rise m n top r le (inr h) = inr h

pub out_rises : (m n top : ℕ) (rs : List Region) → m ≤ n → AllOut m top rs → AllOut n top rs
out_rises m n top [] le h = tt
out_rises m n top (r ∷ rs) le h = (out_rise m n top r le h.0, out_rises m n top rs le h.1)

pub out_below : (m top : ℕ) (rs : List Region) → AllBelow m rs → AllOut m top rs
out_below m top [] h = tt
out_below m top (r ∷ rs) h = (inl h.0, out_below m top rs h.1)

pub out_both : (m top : ℕ) (rs area : List Region) → AllOut m top rs → AllOut m top area → AllOut m top (rs ++ area)
out_both m top [] area h g = g
out_both m top (r ∷ rs) area h g = (h.0, out_both m top rs area h.1 g)

pub out_right : (m top : ℕ) (rs area : List Region) → AllOut m top (rs ++ area) → AllOut m top area
out_right m top [] area h = h
out_right m top (r ∷ rs) area h = out_right m top rs area h.1

in_out : (m top : ℕ) (r : Region) (j : ℕ) → (r.at + r.size ≤ m) ⊎ (top ≤ r.at) → IsIn r j → (j < m) ⊎ (top ≤ j)
in_out m top r j (inl h) here = inl (omega (arith, h, here.1))
in_out m top r j (inr h) here = inr (omega (arith, h, here.0))

pub any_out : (m top : ℕ) (rs : List Region) (j : ℕ) → AllOut m top rs → IsInAny rs j → (j < m) ⊎ (top ≤ j)
any_out m top [] j h i = absurd i
any_out m top (r ∷ rs) j h (inl i) = in_out m top r j h.0 i
any_out m top (r ∷ rs) j h (inr i) = any_out m top rs j h.1 i

-- the region is the first of others, or among the rest
pub first_or_rest : (r s : Region) (b c : Bool) → (nat_eq s.at r.at && nat_eq s.size r.size) ≡ b → cond b true c ≡ true → ((b ≡ true) × (s.at ≡ r.at) × (s.size ≡ r.size)) ⊎ ((b ≡ false) × (c ≡ true))
first_or_rest r s true c e q = inl (refl, eqb-true s.at r.at (first_so _ _ e), eqb-true s.size r.size (second_so _ _ e))
first_or_rest r s false c e q = inr (refl, q)

pub has_below : (m : ℕ) (r : Region) (rs : List Region) → AllBelow m rs → has r rs ≡ true → r.at + r.size ≤ m
has_below m r [] h e = absurd cc
has_below m r (s ∷ rs) h e = elim (first_or_rest r s (nat_eq s.at r.at && nat_eq s.size r.size) (has r rs) refl e) [
  | inl q ↦ omega (arith, h.0, q.1, q.2)
  | inr q ↦ has_below m r rs h.1 q.1
]

-- ---- apart

abbrev pub AllApart : List Region → Type 0
AllApart [] = Unit {0}
AllApart (r ∷ rs) = AreApart r rs × AllApart rs

-- what is in others without a region is in them
any_by : (s : Region) (rs others area : List Region) (j : ℕ) (b : Bool) → (IsInAny (others ++ area) j → IsInAny (rs ++ area) j) → IsInAny (cond b rs (s ∷ others) ++ area) j → IsInAny (s ∷ (rs ++ area)) j
any_by s rs others area j true h q = inr q
any_by s rs others area j false h (inl q) = inl q
any_by s rs others area j false h (inr q) = inr (h q)

pub any_without : (r : Region) (rs area : List Region) (j : ℕ) → IsInAny (without r rs ++ area) j → IsInAny (rs ++ area) j
any_without r [] area j i = i
any_without r (s ∷ rs) area j i = any_by s rs (without r rs) area j (nat_eq s.at r.at && nat_eq s.size r.size) (any_without r rs area j) i

apart_by : (s : Region) (rs others area : List Region) (b : Bool) → ((j : ℕ) → IsInAny (others ++ area) j → IsInAny (rs ++ area) j) → AllApart (s ∷ (rs ++ area)) → AllApart (others ++ area) → AllApart (cond b rs (s ∷ others) ++ area)
apart_by s rs others area true f h g = h.1
apart_by s rs others area false f h g = ((λ j here in_others. h.0 j here (f j in_others)), g)

pub apart_without : (r : Region) (rs area : List Region) → AllApart (rs ++ area) → AllApart (without r rs ++ area)
apart_without r [] area h = h
apart_without r (s ∷ rs) area h = apart_by s rs (without r rs) area (nat_eq s.at r.at && nat_eq s.size r.size) (any_without r rs area) h (apart_without r rs area h.1)

pub any_left : (rs area : List Region) (j : ℕ) → IsInAny rs j → IsInAny (rs ++ area) j
any_left [] area j i = absurd i
any_left (r ∷ rs) area j (inl i) = inl i
any_left (r ∷ rs) area j (inr i) = inr (any_left rs area j i)

-- a region that is among others holds what it holds
pub has_in : (r : Region) (rs : List Region) (j : ℕ) → has r rs ≡ true → IsIn r j → IsInAny rs j
has_in r [] j e here = absurd cc
has_in r (s ∷ rs) j e here = elim (first_or_rest r s (nat_eq s.at r.at && nat_eq s.size r.size) (has r rs) refl e) [
  | inl q ↦ inl (omega (arith, here.0, q.1), omega (arith, here.1, q.1, q.2))
  | inr q ↦ inr (has_in r rs j q.1 here)
]

given_up_by : (r s : Region) (rs others area : List Region) (b : Bool) (c : Bool) → (nat_eq s.at r.at && nat_eq s.size r.size) ≡ b → cond b true c ≡ true
    → AreApart s (rs ++ area) → (c ≡ true → AreApart r (others ++ area)) → (c ≡ true → (j : ℕ) → IsIn r j → IsInAny (rs ++ area) j) → AreApart r (cond b rs (s ∷ others) ++ area)
given_up_by r s rs others area true c e q h f g j here in_others =
    let at : s.at ≡ r.at = eqb-true s.at r.at (first_so _ _ e) in
    let size : s.size ≡ r.size = eqb-true s.size r.size (second_so _ _ e) in
    let in_s : IsIn s j = (omega (arith, here.0), omega (arith, here.1)) in
    h j in_s in_others
given_up_by r s rs others area false c e q h f g j here (inl i) = h j i (g q j here)
given_up_by r s rs others area false c e q h f g j here (inr i) = f q j here i

-- a region that is given up is apart from the others
pub given_up_apart : (r : Region) (rs area : List Region) → AllApart (rs ++ area) → has r rs ≡ true → AreApart r (without r rs ++ area)
given_up_apart r [] area h e = absurd cc
given_up_apart r (s ∷ rs) area h e =
    given_up_by r s rs (without r rs) area (nat_eq s.at r.at && nat_eq s.size r.size) (has r rs) refl e h.0 (λ q. given_up_apart r rs area h.1 q) (λ q j here. any_left rs area j (has_in r rs j q here))

-- a smaller region at the same place, and one behind the cursor
pub smaller_apart : (r s : Region) (rs : List Region) → s.at ≡ r.at → s.size ≤ r.size → AreApart r rs → AreApart s rs
smaller_apart r s rs at size h j here others =
    let in_r : IsIn r j = (omega (arith, here.0), omega (arith, here.1)) in
    h j in_r others

pub between_apart : (m top : ℕ) (r : Region) (rs : List Region) → AllOut m top rs → m ≤ r.at → r.at + r.size ≤ top → AreApart r rs
between_apart m top r rs h le end j here others = by (any_out m top rs j h others)
  where
    by : (j < m) ⊎ (top ≤ j) → ⊥
    by (inl lt) = absurd (omega (arith, here.0, lt, le))
    by (inr ge) = absurd (omega (arith, here.1, ge, end))

pub empty_apart : (r : Region) (rs : List Region) → r.size ≡ 0 → AreApart r rs
empty_apart r rs e j here others = absurd (omega (arith, here.0, here.1))
