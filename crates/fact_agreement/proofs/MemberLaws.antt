-- The shapes of members, and how they agree one by one.
use Rattle.std.proofs.Common.{◌≡◌, ◌↔◌, ℕ, suc, List, [], ◌∷◌, Option, Some, None, Bool, true, false, refl, sym, ◌∙◌, ap, subst, true≢false}
use Rattle.std.specs.Prelude.{map, IsTrue}
use Rattle.std.specs.Cmp.Lexicographic.{pointwise}
use Rattle.std.specs.Str.{bytes_eq}
use Rattle.std.proofs.lemmas.Slice.Eq.{bytes_eq-Decides, slice_eq-Decides}
use Rattle.fact_types.specs.declared.interface.InterfaceType.{InterfaceType}
use Rattle.fact_types.specs.Agrees.{Agrees, AgreesPlaces, names_of}
use Rattle.fact_types.specs.Functions.{HaveShapes}
use Rattle.fact_types.specs.Shapes.{Shape, s_plain, s_node, Members, no_members, bare, typed}
use Rattle.fact_types.specs.Tables.{Tables, Node, node_of, placed, HasShape, HasMembers}
use Rattle.fact_types.proofs.ShapeLaws.{same_some, none_some, no_node, more}
use Rattle.fact_agreement.specs.Lists.{AgreeAll}
use Rattle.fact_agreement.specs.Told.{Tells, TellsAll, HasPayload, AgreePayload, TellsPayload, TellsBoth}

-- ---- answers
pub both_ways : {P Q R : Type 0} → (P ↔ Q) → (Q ↔ R) → (P ↔ R)
both_ways f g = (λ p. g.0 (f.0 p), λ r. f.1 (g.1 r))

pub other_way : {P Q : Type 0} → (P ↔ Q) → (Q ↔ P)
other_way f = (f.1, f.0)

pub is_so : {P : Type 0} → P → (IsTrue true ↔ P)
is_so p = (λ _. p, λ _. refl)

pub is_not : {P : Type 0} → (P → ⊥) → (IsTrue false ↔ P)
is_not f = (λ e. absurd (true≢false (sym e)), λ p. absurd (f p))

-- what an answer of yes or no says
pub yes_says : {P : Type 0} (b : Bool) → (IsTrue b ↔ P) → b ≡ true → P
yes_says b f e = f.0 e

pub no_says : {P : Type 0} (b : Bool) → (IsTrue b ↔ P) → b ≡ false → P → ⊥
no_says b f e p = true≢false (sym (f.1 p) ∙ e)

-- two answers, the second asked for only where the first is yes
pub both_told : (t : Tables) (p q : Option InterfaceType × Option InterfaceType) (b c : Bool) → TellsPayload t p.0 p.1 b → b ≡ true → TellsPayload t q.0 q.1 c → TellsBoth t p q c
both_told t p q b c h holds k o e ho he u v hu hv = let first = yes_says b (h o e ho he) holds in let second = k u v hu hv in (λ x. (first, second.0 x), λ a. second.1 a.1)

pub first_told : (t : Tables) (p q : Option InterfaceType × Option InterfaceType) (b : Bool) → TellsPayload t p.0 p.1 b → b ≡ false → TellsBoth t p q b
first_told t p q b h fails o e ho he u v hu hv = (λ x. absurd (true≢false (sym x ∙ fails)), λ a. (h o e ho he).1 a.0)

-- ---- the first of members, and the others
-- a member, with a shape where it has a type
abbrev pub member : List ℕ → Option Shape → Members → Members
member x None ms = bare x ms
member x (Some s) ms = typed x s ms

pub record Front (t : Tables) (x : List ℕ × Option InterfaceType) (xs : List (List ℕ × Option InterfaceType)) (ms : Members) : Type 0 where
  pub payload : Option Shape
  pub rest : Members
  pub is : ms ≡ member x.0 payload rest
  pub shaped : HasPayload t x.1 payload
  pub others : HasMembers t xs rest

pub front : (t : Tables) (x : List ℕ) (p : Option InterfaceType) (xs : List (List ℕ × Option InterfaceType)) (ms : Members) → HasMembers t ((x, p) ∷ xs) ms → Front t (x, p) xs ms
front t x p xs no_members h = absurd h
front t x None xs (bare n ms) h = record { payload = None; rest = ms; is = ap (λ y. bare y ms) (sym h.0); shaped = tt; others = h.2 }
front t x (Some ty) xs (bare n ms) h = absurd (none_some (Some ty) ty h.1 refl)
front t x None xs (typed n s ms) h = absurd (none_some None h.1.0 refl h.1.1)
front t x (Some ty) xs (typed n s ms) h = record {
  payload = Some s;
  rest = ms;
  is = ap (λ y. typed y s ms) (sym h.0);
  shaped = subst (λ ty. HasShape t ty s) (sym (same_some (Some ty) ty h.1.0 refl h.1.1)) h.1.2;
  others = h.2;
}

pub none_left : (t : Tables) (ms : Members) → HasMembers t [] ms → ms ≡ no_members
none_left t no_members h = refl
none_left t (bare n ms) h = absurd h
none_left t (typed n s ms) h = absurd h

-- ---- members one by one
same_places : (x y : List ℕ) (o e : Option Shape) (ms ns : Members) → AgreesPlaces (member x o ms) (member y e ns) ↔ (AgreePayload o e × AgreesPlaces ms ns)
same_places x y None None ms ns = (λ h. (tt, h), λ h. h.1)
same_places x y None (Some d) ms ns = (λ h. absurd h, λ h. absurd h.0)
same_places x y (Some s) None ms ns = (λ h. absurd h, λ h. absurd h.0)
same_places x y (Some s) (Some d) ms ns = (λ h. h, λ h. h)

abbrev pub TellsPlaces : Tables → List (List ℕ × Option InterfaceType) → List (List ℕ × Option InterfaceType) → Bool → Type 0
TellsPlaces t xs ys b = (ms ns : Members) → HasMembers t xs ms → HasMembers t ys ns → (IsTrue b ↔ AgreesPlaces ms ns)

-- the same for one more member
one_more : {P : Type 0} (t : Tables) (x y : List ℕ × Option InterfaceType) (xs ys : List (List ℕ × Option InterfaceType)) (ms ns : Members) (f : Front t x xs ms) (g : Front t y ys ns)
    → (P ↔ (AgreePayload f.payload g.payload × AgreesPlaces f.rest g.rest)) → (P ↔ AgreesPlaces ms ns)
one_more {P} t x y xs ys ms ns f g h =
    subst (λ ms. P ↔ AgreesPlaces ms ns) (sym f.is) (subst (λ ns. P ↔ AgreesPlaces (member x.0 f.payload f.rest) ns) (sym g.is)
    (both_ways h (other_way (same_places x.0 y.0 f.payload g.payload f.rest g.rest))))

nothing_more : (t : Tables) (ms ns : Members) → HasMembers t [] ms → HasMembers t [] ns → AgreesPlaces ms ns
nothing_more t ms ns h k = subst (λ ms. AgreesPlaces ms ns) (sym (none_left t ms h)) (subst (λ ns. AgreesPlaces no_members ns) (sym (none_left t ns k)) tt)

pub one_place : (t : Tables) (x y : List ℕ) (p : Option InterfaceType × Option InterfaceType) (b : Bool) → TellsBoth t p (None, None) b → TellsPlaces t ((x, p.0) ∷ []) ((y, p.1) ∷ []) b
one_place t x y p b h ms ns hs ks =
    let f = front t x p.0 [] ms hs in
    let g = front t y p.1 [] ns ks in
    let r = h f.payload g.payload f.shaped g.shaped None None tt tt in
    one_more t (x, p.0) (y, p.1) [] [] ms ns f g (λ e. ((r.0 e).0, nothing_more t f.rest g.rest f.others g.others), λ a. r.1 (a.0, tt))

pub two_places : (t : Tables) (x y u v : List ℕ) (p q : Option InterfaceType × Option InterfaceType) (b : Bool) → TellsBoth t p q b
    → TellsPlaces t ((x, p.0) ∷ (u, q.0) ∷ []) ((y, p.1) ∷ (v, q.1) ∷ []) b
two_places t x y u v p q b h ms ns hs ks =
    let f = front t x p.0 ((u, q.0) ∷ []) ms hs in
    let g = front t y p.1 ((v, q.1) ∷ []) ns ks in
    let k = front t u q.0 [] f.rest f.others in
    let l = front t v q.1 [] g.rest g.others in
    let r = h f.payload g.payload f.shaped g.shaped k.payload l.payload k.shaped l.shaped in
    let rest : AgreePayload k.payload l.payload ↔ AgreesPlaces f.rest g.rest =
    one_more t (u, q.0) (v, q.1) [] [] f.rest g.rest k l (λ a. (a, nothing_more t k.rest l.rest k.others l.others), λ a. a.0) in
    one_more t (x, p.0) (y, p.1) ((u, q.0) ∷ []) ((v, q.1) ∷ []) ms ns f g (λ e. ((r.0 e).0, rest.0 (r.0 e).1), λ a. r.1 (a.0, rest.1 a.1))

-- ---- the members of tuples
at_places : ℕ → List Shape → Members
at_places n [] = no_members
at_places n (s ∷ ss) = typed (n ∷ []) s (at_places (suc n) ss)

same_typed : {m n : List ℕ} {s : Shape} {ms ns : Members} → m ≡ n → ms ≡ ns → typed m s ms ≡ typed n s ns
same_typed {s = s} e f = λ i. typed (e i) s (f i)

placed_shapes : (t : Tables) (n : ℕ) (xs : List InterfaceType) (ms : Members) → HasMembers t (placed n xs) ms → (ss : List Shape) × HaveShapes t xs ss × (ms ≡ at_places n ss)
unfolding at_places
placed_shapes t n [] no_members h = ([], tt, refl)
placed_shapes t n [] (bare m ms) h = absurd h
placed_shapes t n [] (typed m s ms) h = absurd h
placed_shapes t n (x ∷ xs) no_members h = absurd h
placed_shapes t n (x ∷ xs) (bare m ms) h = absurd (none_some (Some x) x h.1 refl)
placed_shapes t n (x ∷ xs) (typed m s ms) h =
    let r = placed_shapes t (suc n) xs ms h.2 in (
      s ∷ r.0,
      (subst (λ ty. HasShape t ty s) (sym (same_some (Some x) x h.1.0 refl h.1.1)) h.1.2, r.1),
      same_typed (sym h.0) r.2,
    )

same_all : (n m : ℕ) (ss ds : List Shape) → AgreeAll ss ds ↔ AgreesPlaces (at_places n ss) (at_places m ds)
unfolding at_places
same_all n m [] [] = (λ h. h, λ h. h)
same_all n m [] (d ∷ ds) = (λ h. h, λ h. h)
same_all n m (s ∷ ss) [] = (λ h. h, λ h. h)
same_all n m (s ∷ ss) (d ∷ ds) = let r = same_all (suc n) (suc m) ss ds in (λ h. (h.0, r.0 h.1), λ h. (h.0, r.1 h.1))

pub all_places : (t : Tables) (xs ys : List InterfaceType) (b : Bool) → TellsAll t xs ys b → TellsPlaces t (placed 0 xs) (placed 0 ys) b
all_places t xs ys b h ms ns hs ks =
    let (ss, f, i) = placed_shapes t 0 xs ms hs in
    let (ds, g, j) = placed_shapes t 0 ys ns ks in
    subst (λ ms. IsTrue b ↔ AgreesPlaces ms ns) (sym i) (subst (λ ns. IsTrue b ↔ AgreesPlaces (at_places 0 ss) ns) (sym j) (both_ways (h ss ds f g) (same_all 0 0 ss ds)))

-- ---- the names of members
pub names_are : (t : Tables) (xs : List (List ℕ × Option InterfaceType)) (ms : Members) → HasMembers t xs ms → names_of ms ≡ map (λ x. x.0) xs
names_are t [] no_members h = refl
names_are t [] (bare n ms) h = absurd h
names_are t [] (typed n s ms) h = absurd h
names_are t (x ∷ xs) no_members h = absurd h
names_are t (x ∷ xs) (bare n ms) h = more n x.0 (names_of ms) (map (λ x. x.0) xs) (sym h.0) (names_are t xs ms h.2)
names_are t (x ∷ xs) (typed n s ms) h = more n x.0 (names_of ms) (map (λ x. x.0) xs) (sym h.0) (names_are t xs ms h.2)

-- members without types, which have given names
pub names_alone : (names : List (List ℕ)) → map (λ (x : List ℕ × Option InterfaceType). x.0) (map (λ n. (n, None)) names) ≡ names
names_alone [] = refl
names_alone (n ∷ names) = ap (λ ns. n ∷ ns) (names_alone names)

pub only_names : (t : Tables) (names others : List (List ℕ)) (b : Bool) → b ≡ pointwise bytes_eq names others → (ms ns : Members)
    → HasMembers t (map (λ n. (n, None)) names) ms → HasMembers t (map (λ n. (n, None)) others) ns → (IsTrue b ↔ (names_of ms ≡ names_of ns))
only_names t names others b is ms ns h k =
    let same = names_are t _ ms h ∙ names_alone names in
    let other = names_are t _ ns k ∙ names_alone others in
    let test = slice_eq-Decides bytes_eq-Decides names others b is in
    (λ e. same ∙ test.0 e ∙ sym other, λ e. test.1 (sym same ∙ e ∙ other))

-- ---- whole types
-- the shape of a type that names an entry has the entry's members
of_node : (t : Tables) (ty : InterfaceType) (n : Node) → node_of t ty ≡ Some n → (s : Shape) → HasShape t ty s → (ms : Members) × (s ≡ s_node n.kind ms) × HasMembers t n.members ms
of_node t ty n e (s_plain p) h = absurd (none_some (node_of t ty) n (ap (node_of t) h.0 ∙ no_node t p h.1) e)
of_node t ty n e (s_node k ms) h =
    let same : h.0 ≡ n = same_some (node_of t ty) h.0 n h.1 e in
    (ms, ap (λ k. s_node k ms) (sym h.2 ∙ ap (λ (n : Node). n.kind) same), subst (λ (n : Node). HasMembers t n.members ms) same h.3)

-- types that name entries agree where the entries do
pub by_members : (t : Tables) (from to : InterfaceType) (n m : Node) → node_of t from ≡ Some n → node_of t to ≡ Some m → (b : Bool)
    → ((ms ns : Members) → HasMembers t n.members ms → HasMembers t m.members ns → (IsTrue b ↔ Agrees (s_node n.kind ms) (s_node m.kind ns))) → Tells t from to b
by_members t from to n m e f b k s d h g =
    let (ms, i, a) = of_node t from n e s h in
    let (ns, j, c) = of_node t to m f d g in
    subst (λ s. IsTrue b ↔ Agrees s d) (sym i) (subst (λ d. IsTrue b ↔ Agrees (s_node n.kind ms) d) (sym j) (k ms ns a c))
