-- Steps that ask for numbers: which handles they ask for, in which order, and what they make of the numbers.
use Rattle.std.proofs.Common.{◌≡◌, ℕ, zero, suc, ◌+◌, ◌-◌, ◌^◌, ◌<◌, ◌≤◌, List, [], ◌∷◌, ◌++◌, length, take, drop, Option, Some, None, refl, sym, ap, ◌∙◌, arith, append_assoc}
use Rattle.std.specs.List.{AllByRecursion}
use Rattle.fact_types.specs.Options.{◌>>=◌}
use Rattle.fact_values.specs.Carry.{take_number, note}
use Rattle.fact_values.specs.Handles.{Crossing, Step, Asked, done_step, then_step, given, each_step}
use Rattle.fact_types.proofs.ShapeLaws.{same_some}
use Rattle.fact_values.proofs.NumberLaws.{then_some}

-- numbers of 32 bits
abbrev pub AreNumbers : List ℕ → Type 0
AreNumbers ns = AllByRecursion (λ n. n < 2 ^ 32) ns

pub numbers_take : (n : ℕ) (ns : List ℕ) → AreNumbers ns → AreNumbers (take n ns)
numbers_take zero ns h = tt
numbers_take (suc n) [] h = tt
numbers_take (suc n) (m ∷ ns) h = (h.0, numbers_take n ns h.1)

pub numbers_drop : (n : ℕ) (ns : List ℕ) → AreNumbers ns → AreNumbers (drop n ns)
numbers_drop zero ns h = h
numbers_drop (suc n) [] h = tt
numbers_drop (suc n) (m ∷ ns) h = numbers_drop n ns h.1

-- ---- lists by length

take_front : {X : Type 0} (xs ys : List X) → take (length xs) (xs ++ ys) ≡ xs
take_front [] ys = refl
take_front (x ∷ xs) ys = ap (λ l. x ∷ l) (take_front xs ys)

drop_front : {X : Type 0} (xs ys : List X) → drop (length xs) (xs ++ ys) ≡ ys
drop_front [] ys = refl
drop_front (x ∷ xs) ys = drop_front xs ys

length_both : {X : Type 0} (xs ys : List X) → length (xs ++ ys) ≡ length xs + length ys
length_both [] ys = omega arith
length_both (x ∷ xs) ys = omega (arith, length_both xs ys)

pub length_taken : {X : Type 0} (n : ℕ) (xs : List X) → n ≤ length xs → length (take n xs) ≡ n
length_taken zero xs h = refl
length_taken (suc n) [] h = absurd (omega (arith, h))
length_taken (suc n) (x ∷ xs) h = ap suc (length_taken n xs (omega (arith, h)))

length_dropped : {X : Type 0} (n : ℕ) (xs : List X) → length (drop n xs) ≡ length xs - n
length_dropped zero xs = omega arith
length_dropped (suc n) [] = omega arith
length_dropped (suc n) (x ∷ xs) = omega (arith, length_dropped n xs)

-- ---- what steps ask for

-- A step asks for handles one after another, whatever answers, and then gives what it makes of the numbers: Q holds of
-- that in any case, and P where the numbers are of 32 bits.
pub record Crosses {A : Type 0} (step : (S : Type 0) → Asked S → Step S A) (Q P : A → Type 0) : Type 1 where
  pub asks : List Crossing
  pub made : List ℕ → A
  pub is : (S : Type 0) (ask : Asked S) (st : S) → step S ask st ≡ then_step (each_step ask asks) (λ ns. done_step (made ns)) st
  pub held : (ns : List ℕ) → Q (made ns)
  pub good : (ns : List ℕ) → length ns ≡ length asks → AreNumbers ns → P (made ns)

pub crosses_give : {A : Type 0} {Q P : A → Type 0} (a : A) → Q a → P a → Crosses (λ S ask. done_step a) Q P
crosses_give a q p = record { asks = []; made = λ ns. a; is = λ S ask st. refl; held = λ ns. q; good = λ ns l h. p }

abbrev first_or : List ℕ → ℕ
first_or [] = 0
first_or (n ∷ ns) = n

-- one handle
pub crosses_ask : {A : Type 0} {Q P : A → Type 0} (c : Crossing) (f : ℕ → A) → ((n : ℕ) → Q (f n)) → ((n : ℕ) → n < 2 ^ 32 → P (f n)) → Crosses (λ S ask. then_step (ask c) (λ m. done_step (f m))) Q P
crosses_ask {A} {Q} {P} c f q p = record {
  asks = c ∷ [];
  made = λ ns. f (first_or ns);
  is = λ S ask st. one S (ask c st);
  held = λ ns. q (first_or ns);
  good = good;
}
  where
    one : (S : Type 0) (o : Option (ℕ × S)) → o >>= (λ r. done_step (f r.0) r.1)
        ≡ o >>= (λ r. done_step {S = S} [] r.1 >>= (λ q. done_step (r.0 ∷ q.0) q.1)) >>= (λ r. done_step (f (first_or r.0)) r.1)
    one S None = refl
    one S (Some r) = refl

    good : (ns : List ℕ) → length ns ≡ 1 → AreNumbers ns → P (f (first_or ns))
    good [] l h = absurd (omega (arith, l))
    good (n ∷ ns) l h = p n h.0

-- a step, and something made of what it gives
pub crosses_map : {A B : Type 0} {step : (S : Type 0) → Asked S → Step S A} {Q P : A → Type 0} {R T : B → Type 0} (f : A → B) → Crosses step Q P → ((a : A) → Q a → R (f a)) → ((a : A) → P a → T (f a)) → Crosses (λ S ask. then_step (step S ask) (λ a. done_step (f a))) R T
crosses_map {A} {B} {step} f c r t = record {
  asks = c.asks;
  made = λ ns. f (c.made ns);
  is = λ S ask st. ap (λ o. o >>= (λ a. done_step (f a.0) a.1)) (c.is S ask st) ∙ mapped S (each_step ask c.asks st);
  held = λ ns. r (c.made ns) (c.held ns);
  good = λ ns l h. t (c.made ns) (c.good ns l h);
}
  where
    mapped : (S : Type 0) (o : Option (List ℕ × S)) → o >>= (λ r. done_step (c.made r.0) r.1) >>= (λ a. done_step (f a.0) a.1) ≡ o >>= (λ r. done_step (f (c.made r.0)) r.1)
    mapped S None = refl
    mapped S (Some r) = refl

-- asking for some and then for others
each_both : {S : Type 0} (ask : Asked S) (xs ys : List Crossing) (st : S) → each_step ask (xs ++ ys) st ≡ then_step (each_step ask xs) (λ a. then_step (each_step ask ys) (λ b. done_step (a ++ b))) st
each_both ask [] ys st = whole (each_step ask ys st)
  where
    whole : {S : Type 0} (o : Option (List ℕ × S)) → o ≡ o >>= (λ r. done_step ([] ++ r.0) r.1)
    whole None = refl
    whole (Some r) = refl
each_both {S} ask (x ∷ xs) ys st = first (ask x st) (λ t. each_both ask xs ys t)
  where
    rest : (n : ℕ) (o : Option (List ℕ × S)) → o >>= (λ a. then_step (each_step ask ys) (λ b. done_step (a.0 ++ b)) a.1) >>= (λ r. done_step (n ∷ r.0) r.1)
        ≡ o >>= (λ r. done_step (n ∷ r.0) r.1) >>= (λ a. then_step (each_step ask ys) (λ b. done_step (a.0 ++ b)) a.1)
    rest n None = refl
    rest n (Some r) = last (each_step ask ys r.1)
      where
        last : (o : Option (List ℕ × S)) → o >>= (λ b. done_step (r.0 ++ b.0) b.1) >>= (λ r. done_step (n ∷ r.0) r.1) ≡ o >>= (λ b. done_step ((n ∷ r.0) ++ b.0) b.1)
        last None = refl
        last (Some b) = refl

    first : (o : Option (ℕ × S)) → ((t : S) → each_step ask (xs ++ ys) t ≡ then_step (each_step ask xs) (λ a. then_step (each_step ask ys) (λ b. done_step (a ++ b))) t)
        → o >>= (λ r. then_step (each_step ask (xs ++ ys)) (λ ns. done_step (r.0 ∷ ns)) r.1) ≡ o >>= (λ r. then_step (each_step ask xs) (λ ns. done_step (r.0 ∷ ns)) r.1) >>= (λ a. then_step (each_step ask ys) (λ b. done_step (a.0 ++ b)) a.1)
    first None h = refl
    first (Some r) h = ap (λ o. o >>= (λ q. done_step (r.0 ∷ q.0) q.1)) (h r.1) ∙ rest r.0 (each_step ask xs r.1)

-- as many numbers as were asked for
pub each_length : {S : Type 0} (ask : Asked S) (xs : List Crossing) (st : S) (r : List ℕ × S) → each_step ask xs st ≡ Some r → length r.0 ≡ length xs
each_length ask [] st r e = ap (λ q. length q.0) (sym (same_some _ ([], st) r refl e))
each_length ask (x ∷ xs) st r e =
    let (n, here, rest) = then_some (ask x st) (λ q. then_step (each_step ask xs) (λ ns. done_step (q.0 ∷ ns)) q.1) r e in
    let (ns, there, is) = then_some (each_step ask xs n.1) (λ q. done_step (n.0 ∷ q.0) q.1) r rest in
    ap (λ q. length q.0) (sym (same_some _ (n.0 ∷ ns.0, ns.1) r refl is)) ∙ ap suc (each_length ask xs n.1 ns there)

-- two steps, and something made of what they give
pub crosses_pair : {A B C : Type 0} {f : (S : Type 0) → Asked S → Step S A} {g : (S : Type 0) → Asked S → Step S B} {Q P : A → Type 0} {R T : B → Type 0} {V W : C → Type 0} (c : A → B → C)
    → Crosses f Q P → Crosses g R T → ((a : A) (b : B) → Q a → R b → V (c a b)) → ((a : A) (b : B) → P a → T b → W (c a b))
    → Crosses (λ S ask. then_step (f S ask) (λ a. then_step (g S ask) (λ b. done_step (c a b)))) V W
crosses_pair {A} {B} {C} {f} {g} c x y v w = record {
  asks = x.asks ++ y.asks;
  made = λ ns. c (x.made (take (length x.asks) ns)) (y.made (drop (length x.asks) ns));
  is = λ S ask st. both S ask st;
  held = λ ns. v _ _ (x.held (take (length x.asks) ns)) (y.held (drop (length x.asks) ns));
  good = λ ns l h. let e : length ns ≡ length x.asks + length y.asks = l ∙ length_both x.asks y.asks in
      w _ _ (x.good (take (length x.asks) ns) (length_taken (length x.asks) ns (omega (arith, e))) (numbers_take (length x.asks) ns h))
      (y.good (drop (length x.asks) ns) (omega (arith, length_dropped (length x.asks) ns, e)) (numbers_drop (length x.asks) ns h));
}
  where
    put : (S : Type 0) → List ℕ × S → Option (C × S)
    put S r = done_step (c (x.made (take (length x.asks) r.0)) (y.made (drop (length x.asks) r.0))) r.1

    second : (S : Type 0) (a : List ℕ) → length a ≡ length x.asks → (o : Option (List ℕ × S)) → o >>= (λ r. done_step (y.made r.0) r.1) >>= (λ b. done_step (c (x.made a) b.0) b.1) ≡ o >>= (λ b. done_step (a ++ b.0) b.1) >>= put S
    second S a l None = refl
    second S a l (Some b) =
        let front : take (length x.asks) (a ++ b.0) ≡ a = ap (λ n. take n (a ++ b.0)) (sym l) ∙ take_front a b.0 in
        let back : drop (length x.asks) (a ++ b.0) ≡ b.0 = ap (λ n. drop n (a ++ b.0)) (sym l) ∙ drop_front a b.0 in
        sym (λ i. Some (c (x.made (front i)) (y.made (back i)), b.1))

    first : (S : Type 0) (ask : Asked S) (o : Option (List ℕ × S)) → ((r : List ℕ × S) → o ≡ Some r → length r.0 ≡ length x.asks)
        → o >>= (λ r. done_step (x.made r.0) r.1) >>= (λ a. g S ask a.1 >>= (λ b. done_step (c a.0 b.0) b.1)) ≡ o >>= (λ a. then_step (each_step ask y.asks) (λ b. done_step (a.0 ++ b)) a.1) >>= put S
    first S ask None h = refl
    first S ask (Some a) h = ap (λ o. o >>= (λ b. done_step (c (x.made a.0) b.0) b.1)) (y.is S ask a.1) ∙ second S a.0 (h a refl) (each_step ask y.asks a.1)

    both : (S : Type 0) (ask : Asked S) (st : S) → then_step (f S ask) (λ a. then_step (g S ask) (λ b. done_step (c a b))) st ≡ then_step (each_step ask (x.asks ++ y.asks)) (λ ns. done_step (c (x.made (take (length x.asks) ns)) (y.made (drop (length x.asks) ns)))) st
    both S ask st =
        ap (λ o. o >>= (λ a. g S ask a.1 >>= (λ b. done_step (c a.0 b.0) b.1))) (x.is S ask st)
        ∙ first S ask (each_step ask x.asks st) (λ r e. each_length ask x.asks st r e)
        ∙ ap (λ o. o >>= put S) (sym (each_both ask x.asks y.asks st))

-- ---- numbers from a list, and handles written down

pub numbers_taken : (cs : List Crossing) (ns : List ℕ) → length cs ≤ length ns → each_step take_number cs ns ≡ Some (take (length cs) ns, drop (length cs) ns)
numbers_taken [] ns h = refl
numbers_taken (c ∷ cs) [] h = absurd (omega (arith, h))
numbers_taken (c ∷ cs) (n ∷ ns) h = ap (λ o. o >>= (λ r. done_step (n ∷ r.0) r.1)) (numbers_taken cs ns (omega (arith, h)))

pub numbers_missing : (cs : List Crossing) (ns : List ℕ) → length ns < length cs → each_step take_number cs ns ≡ None
numbers_missing [] ns h = absurd (omega (arith, h))
numbers_missing (c ∷ cs) [] h = refl
numbers_missing (c ∷ cs) (n ∷ ns) h = ap (λ o. o >>= (λ r. done_step (n ∷ r.0) r.1)) (numbers_missing cs ns (omega (arith, h)))

pub handles_noted : (cs before : List Crossing) → (ns : List ℕ) × (each_step note cs before ≡ Some (ns, before ++ cs))
handles_noted [] before = ([], ap (λ l. Some ([], l)) (sym (append_nil before)))
  where
    append_nil : (xs : List Crossing) → xs ++ [] ≡ xs
    append_nil [] = refl
    append_nil (x ∷ xs) = ap (λ l. x ∷ l) (append_nil xs)
handles_noted (c ∷ cs) before =
    let (ns, e) = handles_noted cs (before ++ c ∷ []) in
    (0 ∷ ns, ap (λ o. o >>= (λ r. done_step (0 ∷ r.0) r.1)) e ∙ ap (λ l. Some (0 ∷ ns, l)) (append_assoc before (c ∷ []) cs))

-- a step, and something that is there of what it gives
pub crosses_some : {A B : Type 0} {step : (S : Type 0) → Asked S → Step S A} {Q P : A → Type 0} {R T : B → Type 0} (f : A → Option B) (g : A → B) → Crosses step Q P → ((a : A) → Q a → f a ≡ Some (g a)) → ((b : B) → R b) → ((a : A) → Q a → P a → T (g a))
    → Crosses (λ S ask. then_step (step S ask) (λ a. given (f a) done_step)) R T
crosses_some {A} {B} {step} f g c there r t = record {
  asks = c.asks;
  made = λ ns. g (c.made ns);
  is = λ S ask st. ap (λ o. o >>= (λ a. given (f a.0) done_step a.1)) (c.is S ask st) ∙ found S (each_step ask c.asks st);
  held = λ ns. r (g (c.made ns));
  good = λ ns l h. t (c.made ns) (c.held ns) (c.good ns l h);
}
  where
    found : (S : Type 0) (o : Option (List ℕ × S)) → o >>= (λ r. done_step (c.made r.0) r.1) >>= (λ a. given (f a.0) done_step a.1) ≡ o >>= (λ r. done_step (g (c.made r.0)) r.1)
    found S None = refl
    found S (Some r) = ap (λ o. given o done_step r.1) (there (c.made r.0) (c.held r.0))

-- what holds in any case holds beside what holds of numbers of 32 bits
pub crosses_also : {A : Type 0} {step : (S : Type 0) → Asked S → Step S A} {Q P : A → Type 0} → Crosses step Q P → Crosses step Q (λ a. Q a × P a)
crosses_also c = record { asks = c.asks; made = c.made; is = c.is; held = c.held; good = λ ns l h. (c.held ns, c.good ns l h) }

pub crosses_weaker : {A : Type 0} {step : (S : Type 0) → Asked S → Step S A} {Q P T : A → Type 0} → Crosses step Q P → ((a : A) → P a → T a) → Crosses step Q T
crosses_weaker c t = record { asks = c.asks; made = c.made; is = c.is; held = c.held; good = λ ns l h. t (c.made ns) (c.good ns l h) }
