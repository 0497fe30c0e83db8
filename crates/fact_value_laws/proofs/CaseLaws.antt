-- The fields, flags and cases that values have behind a crossing, by their names.
use Rattle.std.proofs.Common.{◌≡◌, ℕ, zero, suc, ◌⊎◌, inl, inr, List, [], ◌∷◌, Option, Some, None, refl, sym, ap, ◌∙◌, subst}
use Rattle.std.specs.Prelude.{Bool, true, false, if◌then◌else◌, slice_get}
use Rattle.std.specs.List.{Contains, zip}
use Rattle.std.specs.Str.{bytes_eq}
use Rattle.std.proofs.lemmas.Option.{slice_get_within, get_or_from_slice_get, slice_get-get_or}
use Rattle.fact_types.specs.Agrees.{chosen, first_of, names_of, named, BothThere, EachCase, Agrees, AgreesCase, AgreesPlaces}
use Rattle.fact_types.specs.Shapes.{Shape, Members, no_members, bare, typed}
use Rattle.fact_types.specs.Options.{◌>>=◌}
use Rattle.fact_types.proofs.ShapeLaws.{same_some, none_some}
use Rattle.fact_values.specs.declared.value.Value.{Value}
use Rattle.fact_values.specs.declared.value.Value.TheVariants as value
use Rattle.fact_values.specs.Formed.{AreBare, IsFormed, AreFormed}
use Rattle.fact_values.specs.Handles.{Asked, done_step, then_step, given, value_named, flag_named, flags_named, only, cross, cross_fields, cross_case}
use Rattle.fact_values.specs.Places.{typed_names}
use Rattle.fact_values.proofs.IsALaws.{bytes_are, bytes_same}
use Rattle.fact_values.proofs.NumberLaws.{then_some}
use Rattle.fact_value_laws.proofs.PassingLaws.{Came, came_done, came_given, came_then}

-- ---- lists of names
head_of : List (List ℕ) → List ℕ
head_of [] = []
head_of (x ∷ xs) = x

tail_of : List (List ℕ) → List (List ℕ)
tail_of [] = []
tail_of (x ∷ xs) = xs

heads_same : (x y : List ℕ) (xs ys : List (List ℕ)) → x ∷ xs ≡ y ∷ ys → x ≡ y
unfolding head_of
heads_same x y xs ys e = ap head_of e

tails_same : (x y : List ℕ) (xs ys : List (List ℕ)) → x ∷ xs ≡ y ∷ ys → xs ≡ ys
unfolding tail_of
tails_same x y xs ys e = ap tail_of e

none_cons : (x : List ℕ) (xs : List (List ℕ)) → [] ≡ x ∷ xs → ⊥
none_cons x xs e = cc

true_false : (b : Bool) → b ≡ true → b ≡ false → ⊥
true_false b p q = cc

-- ---- members

pub named_formed : (ns : Members) (x : List ℕ) (d : Shape) → AreFormed ns → named x ns ≡ Some d → IsFormed d
named_formed no_members x d k e = absurd (none_some None d refl e)
named_formed (bare y ns) x d k e = named_formed ns x d k e
named_formed (typed y z ns) x d k e = go (bytes_eq y x) e (λ e. named_formed ns x d k.1 e)
  where
    go : (b : Bool) → first_of b (Some z) (named x ns) ≡ Some d → (named x ns ≡ Some d → IsFormed d) → IsFormed d
    go true e f = subst IsFormed (same_some (Some z) z d refl e) k.0
    go false e f = f e

-- ---- fields

-- The field of a name behind a crossing: what it was before.
pub record FieldCame {S : Type 0} (ask : Asked S) (ms : Members) (fs : List (List ℕ × Value)) (ns : Members) (us : List Value) (x : List ℕ) (d : Shape) : Type 0 where
  pub source : Shape
  pub before : Value
  pub behind : Value
  pub from : named x ms ≡ Some source
  pub was : value_named x fs ≡ Some before
  pub is : value_named x (zip (typed_names ns) us) ≡ Some behind
  pub came : Came (cross ask source d before) behind

pub field_came : {S : Type 0} (ask : Asked S) (ms : Members) (fs : List (List ℕ × Value)) (ns : Members) (us : List Value) (x : List ℕ) (d : Shape) → named x ns ≡ Some d → Came (cross_fields ask ms fs ns) us → FieldCame ask ms fs ns us x d
unfolding cross
field_came ask ms fs no_members us x d e c = absurd (none_some None d refl e)
field_came ask ms fs (bare y ns) us x d e c =
    let r = field_came ask ms fs ns us x d e c in
    record { source = r.source; before = r.before; behind = r.behind; from = r.from; was = r.was; is = r.is; came = r.came }
field_came ask ms fs (typed y z ns) us x d e c =
    let (s, from, c1) = came_given (named y ms) (λ s. given (value_named y fs) (λ v. then_step (cross ask s z v) (λ u. then_step (cross_fields ask ms fs ns) (λ us. done_step (u ∷ us))))) us c in
    let (v, was, c2) = came_given (value_named y fs) (λ v. then_step (cross ask s z v) (λ u. then_step (cross_fields ask ms fs ns) (λ us. done_step (u ∷ us)))) us c1 in
    let (w, here, c3) = came_then (cross ask s z v) (λ u. then_step (cross_fields ask ms fs ns) (λ us. done_step (u ∷ us))) us c2 in
    let (ws, rest, c4) = came_then (cross_fields ask ms fs ns) (λ us. done_step (w ∷ us)) us c3 in
    subst (λ us. FieldCame ask ms fs (typed y z ns) us x d) (came_done (w ∷ ws) us c4)
    (go s v w ws from was here (bytes_eq y x) refl e (λ e. field_came ask ms fs ns ws x d e rest))
  where
    go : (s : Shape) (v w : Value) (ws : List Value) → named y ms ≡ Some s → value_named y fs ≡ Some v → Came (cross ask s z v) w
        → (b : Bool) → bytes_eq y x ≡ b → first_of b (Some z) (named x ns) ≡ Some d → (named x ns ≡ Some d → FieldCame ask ms fs ns ws x d) → FieldCame ask ms fs (typed y z ns) (w ∷ ws) x d
    go s v w ws from was here true q e f = record {
      source = s;
      before = v;
      behind = w;
      from = subst (λ x. named x ms ≡ Some s) (bytes_are y x q) from;
      was = subst (λ x. value_named x fs ≡ Some v) (bytes_are y x q) was;
      is = ap (λ b. if b then Some w else value_named x (zip (typed_names ns) ws)) q;
      came = subst (λ d. Came (cross ask s d v) w) (same_some (Some z) z d refl e) here;
    }
    go s v w ws from was here false q e f =
        let r = f e in
        record {
          source = r.source;
          before = r.before;
          behind = r.behind;
          from = r.from;
          was = r.was;
          is = ap (λ b. if b then Some w else value_named x (zip (typed_names ns) ws)) q ∙ r.is;
          came = r.came;
        }

-- ---- flags

flag_again : (xs : List (List ℕ)) (fs gs : List (List ℕ × Bool)) → flags_named xs fs ≡ Some gs → (i : ℕ) (y : List ℕ) → slice_get xs i ≡ Some y → flag_named y gs ≡ flag_named y fs
flag_again [] fs gs e i y at = absurd (none_some None y refl at)
flag_again (x ∷ xs) fs gs e i y at =
    let (b, here, e1) = then_some (flag_named x fs) (λ b. flags_named xs fs >>= (λ gs. Some ((x, b) ∷ gs))) gs e in
    let (more, rest, e2) = then_some (flags_named xs fs) (λ gs. Some ((x, b) ∷ gs)) gs e1 in
    ap (flag_named y) (sym (same_some (Some ((x, b) ∷ more)) ((x, b) ∷ more) gs refl e2)) ∙ go b more here (bytes_eq x y) refl (later i at more (λ j a. flag_again xs fs more rest j y a))
  where
    go : (b : Bool) (more : List (List ℕ × Bool)) → flag_named x fs ≡ Some b → (t : Bool) → bytes_eq x y ≡ t → (bytes_eq x y ≡ false → flag_named y more ≡ flag_named y fs) → flag_named y ((x, b) ∷ more) ≡ flag_named y fs
    go b more here true q f = ap (λ (t : Bool). if t then Some b else flag_named y more) q ∙ sym here ∙ ap (λ z. flag_named z fs) (bytes_are x y q)
    go b more here false q f = ap (λ (t : Bool). if t then Some b else flag_named y more) q ∙ f q

    later : (i : ℕ) → slice_get (x ∷ xs) i ≡ Some y → (more : List (List ℕ × Bool)) → ((j : ℕ) → slice_get xs j ≡ Some y → flag_named y more ≡ flag_named y fs) → bytes_eq x y ≡ false → flag_named y more ≡ flag_named y fs
    later zero at more f q = absurd (true_false (bytes_eq x y) (ap (λ z. bytes_eq x z) (sym (same_some (Some x) x y refl at)) ∙ bytes_same x) q)
    later (suc i) at more f q = f i at

-- a name at a place of a list stands at some place of a list that has it
pub name_at : (ys xs : List (List ℕ)) (i : ℕ) (y : List ℕ) → slice_get ys i ≡ Some y → (Contains ys y → Contains xs y) → (j : ℕ) × (slice_get xs j ≡ Some y)
name_at ys xs i y at h =
    let c = h (i, slice_get_within ys i y at, get_or_from_slice_get ys i y y at) in
    (c.0, slice_get-get_or xs c.0 y c.1 ∙ ap Some c.2)

-- Flags that crossed hold for each of their names what they held before.
pub flags_again : (ys xs : List (List ℕ)) (fs gs : List (List ℕ × Bool)) → flags_named xs fs ≡ Some gs → ((i : ℕ) (y : List ℕ) → slice_get ys i ≡ Some y → (j : ℕ) × (slice_get xs j ≡ Some y)) → flags_named ys gs ≡ flags_named ys fs
flags_again [] xs fs gs e h = refl
flags_again (y ∷ ys) xs fs gs e h =
    let (j, at) = h 0 y refl in
    ap (λ o. o >>= (λ b. flags_named ys gs >>= (λ more. Some ((y, b) ∷ more)))) (flag_again xs fs gs e j y at)
    ∙ ap (λ p. flag_named y fs >>= (λ b. p >>= (λ more. Some ((y, b) ∷ more)))) (flags_again ys xs fs gs e (λ i z a. h (suc i) z a))

-- ---- cases

-- The case of a name behind a crossing, with a payload: what the payload was before.
pub record PayloadCame {S : Type 0} (ask : Asked S) (p : Option Shape) (x : List ℕ) (vs : List Value) (ns : Members) (u : Value) (C : List ℕ → Option Shape → Type 0) : Type 0 where
  pub source : Shape
  pub type : Shape
  pub before : Value
  pub behind : Value
  pub from : p ≡ Some source
  pub was : only vs ≡ Some before
  pub to : named x ns ≡ Some type
  pub formed : IsFormed type
  pub came : Came (cross ask source type before) behind
  pub is : u ≡ value.Case x (behind ∷ [])
  pub holds : C x (Some type)

-- The case of a name behind a crossing: it has no payload, or one.
abbrev pub CaseCame : {S : Type 0} → Asked S → Option Shape → List ℕ → List Value → Members → Value → (List ℕ → Option Shape → Type 0) → Type 0
CaseCame ask p x vs ns u C = ((u ≡ value.Case x []) × C x None) ⊎ PayloadCame ask p x vs ns u C

-- the same case further on
case_later : {S : Type 0} (ask : Asked S) (p : Option Shape) (x : List ℕ) (vs : List Value) (ns more : Members) (u : Value) (C D : List ℕ → Option Shape → Type 0)
    → ((d : Shape) → named x ns ≡ Some d → named x more ≡ Some d) → ((q : Option Shape) → C x q → D x q) → CaseCame ask p x vs ns u C → CaseCame ask p x vs more u D
case_later ask p x vs ns more u C D f g (inl (e, c)) = inl (e, g None c)
case_later ask p x vs ns more u C D f g (inr r) = inr (record {
  source = r.source;
  type = r.type;
  before = r.before;
  behind = r.behind;
  from = r.from;
  was = r.was;
  to = f r.type r.to;
  formed = r.formed;
  came = r.came;
  is = r.is;
  holds = g (Some r.type) r.holds;
})

-- the case that was found is this one
case_here : {S : Type 0} (ask : Asked S) (p : Option Shape) (n x : List ℕ) (vs : List Value) (d : Shape) (ns : Members) (u : Value) (C : List ℕ → Option Shape → Type 0) → bytes_eq n x ≡ true → IsFormed d → C x (Some d)
    → Came (given p (λ s. given (only vs) (λ v. then_step (cross ask s d v) (λ u. done_step (value.Case n (u ∷ [])))))) u → CaseCame ask p x vs (typed n d ns) u C
case_here ask p n x vs d ns u C q k h c =
    let (s, from, c1) = came_given p (λ s. given (only vs) (λ v. then_step (cross ask s d v) (λ u. done_step (value.Case n (u ∷ []))))) u c in
    let (v, was, c2) = came_given (only vs) (λ v. then_step (cross ask s d v) (λ u. done_step (value.Case n (u ∷ [])))) u c1 in
    let (w, here, c3) = came_then (cross ask s d v) (λ u. done_step (value.Case n (u ∷ []))) u c2 in
    inr (record {
      source = s;
      type = d;
      before = v;
      behind = w;
      from = from;
      was = was;
      to = ap (λ b. first_of b (Some d) (named x ns)) q;
      formed = k;
      came = here;
      is = sym (came_done (value.Case n (w ∷ [])) u c3) ∙ ap (λ n. value.Case n (w ∷ [])) (bytes_are n x q);
      holds = h;
    })

module _ {S : Type 0} (ask : Asked S) (p : Option Shape) (x : List ℕ) (vs : List Value) where
  -- by what is said of each case
  pub case_came : (ns : Members) (u : Value) (C : List ℕ → Option Shape → Type 0) → AreFormed ns → EachCase ns C → Came (cross_case ask p x vs ns) u → CaseCame ask p x vs ns u C
  unfolding cross
  case_came no_members u C k h c = let (a, e, rest) = came_given None done_step u c in absurd (none_some None a refl e)
  case_came (bare n ns) u C k h c = go (bytes_eq n x) refl c (λ c. case_came ns u C k h.1 c)
    where
      go : (b : Bool) → bytes_eq n x ≡ b → Came (if b then done_step (value.Case n []) else cross_case ask p x vs ns) u → (Came (cross_case ask p x vs ns) u → CaseCame ask p x vs ns u C) → CaseCame ask p x vs (bare n ns) u C
      go true q c f = inl (sym (came_done (value.Case n []) u c) ∙ ap (λ n. value.Case n []) (bytes_are n x q), subst (λ n. C n None) (bytes_are n x q) h.0)
      go false q c f = case_later ask p x vs ns (bare n ns) u C C (λ d e. e) (λ q c. c) (f c)
  case_came (typed n d ns) u C k h c = go (bytes_eq n x) refl c (λ c. case_came ns u C k.1 h.1 c)
    where
      go : (b : Bool) → bytes_eq n x ≡ b → Came (if b then given p (λ s. given (only vs) (λ v. then_step (cross ask s d v) (λ u. done_step (value.Case n (u ∷ []))))) else cross_case ask p x vs ns) u
          → (Came (cross_case ask p x vs ns) u → CaseCame ask p x vs ns u C) → CaseCame ask p x vs (typed n d ns) u C
      go true q c f = case_here ask p n x vs d ns u C q k.0 (subst (λ n. C n (Some d)) (bytes_are n x q) h.0) c
      go false q c f = case_later ask p x vs ns (typed n d ns) u C C (λ z e. ap (λ b. first_of b (Some d) (named x ns)) q ∙ e) (λ q c. c) (f c)

  -- by the places of cases of the same names
  pub case_came_at : (ns ks : Members) (u : Value) → AreFormed ns → names_of ns ≡ names_of ks → AgreesPlaces ns ks → Came (cross_case ask p x vs ns) u → CaseCame ask p x vs ns u (λ x p. AgreesCase x p ks)
  unfolding cross
  case_came_at no_members no_members u k e h c = let (a, is, rest) = came_given None done_step u c in absurd (none_some None a refl is)
  case_came_at (bare n ns) (bare m ks) u k e h c = go (bytes_eq n x) refl c (λ c. case_came_at ns ks u k (tails_same n m (names_of ns) (names_of ks) e) h c)
    where
      same : (b : Bool) → bytes_eq n x ≡ b → bytes_eq m x ≡ b
      same b q = ap (λ m. bytes_eq m x) (sym (heads_same n m (names_of ns) (names_of ks) e)) ∙ q

      go : (b : Bool) → bytes_eq n x ≡ b → Came (if b then done_step (value.Case n []) else cross_case ask p x vs ns) u → (Came (cross_case ask p x vs ns) u → CaseCame ask p x vs ns u (λ x p. AgreesCase x p ks)) → CaseCame ask p x vs (bare n ns) u (λ x p. AgreesCase x p (bare m ks))
      go true q c f = inl (sym (came_done (value.Case n []) u c) ∙ ap (λ n. value.Case n []) (bytes_are n x q), subst (λ b. chosen b (◌≡◌ {A = Option Shape} None None) (AgreesCase x None ks)) (sym (same true q)) refl)
      go false q c f = case_later ask p x vs ns (bare n ns) u (λ x p. AgreesCase x p ks) (λ x p. AgreesCase x p (bare m ks)) (λ d e. e) (λ o z. subst (λ b. chosen b (o ≡ None) (AgreesCase x o ks)) (sym (same false q)) z) (f c)
  case_came_at (typed n d ns) (typed m z ks) u k e h c = go (bytes_eq n x) refl c (λ c. case_came_at ns ks u k.1 (tails_same n m (names_of ns) (names_of ks) e) h.1 c)
    where
      same : (b : Bool) → bytes_eq n x ≡ b → bytes_eq m x ≡ b
      same b q = ap (λ m. bytes_eq m x) (sym (heads_same n m (names_of ns) (names_of ks) e)) ∙ q

      go : (b : Bool) → bytes_eq n x ≡ b → Came (if b then given p (λ s. given (only vs) (λ v. then_step (cross ask s d v) (λ u. done_step (value.Case n (u ∷ []))))) else cross_case ask p x vs ns) u
          → (Came (cross_case ask p x vs ns) u → CaseCame ask p x vs ns u (λ x p. AgreesCase x p ks)) → CaseCame ask p x vs (typed n d ns) u (λ x p. AgreesCase x p (typed m z ks))
      go true q c f = case_here ask p n x vs d ns u (λ x p. AgreesCase x p (typed m z ks)) q k.0 (subst (λ b. chosen b (Agrees d z) (AgreesCase x (Some d) ks)) (sym (same true q)) h.0) c
      go false q c f = case_later ask p x vs ns (typed n d ns) u (λ x p. AgreesCase x p ks) (λ x p. AgreesCase x p (typed m z ks)) (λ y e. ap (λ b. first_of b (Some d) (named x ns)) q ∙ e)
          (λ o y. subst (λ b. chosen b (BothThere o (λ s. Agrees s z)) (AgreesCase x o ks)) (sym (same false q)) y) (f c)
  case_came_at ns ks u k e h c = absurd h

-- enums of the same names
pub bare_places : (ns ks : Members) → AreBare ns → AreBare ks → names_of ns ≡ names_of ks → AgreesPlaces ns ks
bare_places no_members no_members p q e = tt
bare_places no_members (bare m ks) p q e = absurd (none_cons m (names_of ks) e)
bare_places no_members (typed m d ks) p q e = absurd q
bare_places (bare n ns) no_members p q e = absurd (none_cons n (names_of ns) (sym e))
bare_places (bare n ns) (bare m ks) p q e = bare_places ns ks p q (tails_same n m (names_of ns) (names_of ks) e)
bare_places (bare n ns) (typed m d ks) p q e = absurd q
bare_places (typed n s ns) ks p q e = absurd p
