-- Whether values are of a type, told step by step.
use Rattle.std.proofs.Common.{◌≡◌, ◌↔◌, ℕ, zero, suc, ◌+◌, ◌<◌, ◌≤◌, List, [], ◌∷◌, length, map, drop, get_or, Option, Some, None, refl, sym, ap, ◌∙◌, subst, arith, add-one, true≢false}
use Rattle.std.specs.Prelude.{Bool, true, false, IsTrue, slice_get}
use Rattle.std.specs.List.{AllByRecursion}
use Rattle.std.specs.Str.{bytes_eq}
use Rattle.std.proofs.lemmas.List.{drop_all}
use Rattle.std.proofs.lemmas.Option.{slice_get-get_or}
use Rattle.fact_types.specs.Heights.{IsMemberOf}
use Rattle.fact_types.specs.declared.interface.InterfaceType.{InterfaceType}
use Rattle.fact_types.specs.Agrees.{chosen, names_of}
use Rattle.fact_types.specs.Shapes.{Kind, k_list, k_map, k_fixed, Shape, s_plain, s_node, Members, no_members, bare, typed}
use Rattle.fact_types.specs.Tables.{Tables, HasShape}
use Rattle.fact_types.proofs.ShapeLaws.{same_some, none_some}
use Rattle.fact_values.specs.declared.value.HandleKind.{HandleKind}
use Rattle.fact_values.specs.declared.value.Value.{Value, out-Value}
use Rattle.fact_values.specs.declared.value.Value.TheOpen.{Value-F}
use Rattle.fact_values.specs.declared.value.Value.TheOpen as o
use Rattle.fact_values.specs.declared.value.Value.TheVariants as value
use Rattle.fact_abi.specs.Finding.{IsFirstNamed, IsIndexOf, IsNowhere, name_is, member_type_at, IsMapOf, IsTaken, Matching}
use Rattle.fact_values.specs.Handles.{only}
use Rattle.fact_values.specs.IsA.{IsHandle, IsPlainValue, IsRecord, IsTuple, IsListOf, IsFixedList, IsMap, IsFlags, IsCase, IsNodeValue, IsOnePayload, IsA, AreMembers, HasCase, IsElement}
use Rattle.fact_abi.specs.Nodes.{AreOf, AreLower}
use Rattle.fact_types.specs.Options.{◌>>=◌}
use Rattle.fact_values.specs.Numbers.{plain_of}
use Rattle.fact_values.proofs.IsALaws.{bytes_are, bytes_same}
use Rattle.fact_abi.proofs.LoadLaws.{split_typed, split_bare}

-- ---- answers
pub is_so : {P : Type 0} → P → (IsTrue true ↔ P)
is_so p = (λ _. p, λ _. refl)

pub is_not : {P : Type 0} → (P → ⊥) → (IsTrue false ↔ P)
is_not f = (λ e. absurd (true≢false (sym e)), λ p. absurd (f p))

pub yes_says : {P : Type 0} (b : Bool) → (IsTrue b ↔ P) → b ≡ true → P
yes_says b f e = f.0 e

pub no_says : {P : Type 0} (b : Bool) → (IsTrue b ↔ P) → b ≡ false → P → ⊥
no_says b f e p = true≢false (sym (f.1 p) ∙ e)

pub by_same : {P Q R : Type 0} → (P ↔ Q) → (Q ↔ R) → (P ↔ R)
by_same f g = (λ p. g.0 (f.0 p), λ r. f.1 (g.1 r))

pub other_way : {P Q : Type 0} → (P ↔ Q) → (Q ↔ P)
other_way f = (f.1, f.0)

-- ---- lists
pub slice_past : {X : Type 0} (xs : List X) (i : ℕ) → slice_get xs i ≡ None → drop i xs ≡ []
slice_past [] zero e = refl
slice_past [] (suc i) e = refl
slice_past (x ∷ xs) zero e = absurd (none_some (Some x) x e refl)
slice_past (x ∷ xs) (suc i) e = slice_past xs i e

pub slice_front : {X : Type 0} (xs : List X) (i : ℕ) (x : X) → slice_get xs i ≡ Some x → drop i xs ≡ x ∷ drop (suc i) xs
slice_front [] i x e = absurd (none_some None x refl e)
slice_front (y ∷ xs) zero x e = ap (λ z. z ∷ xs) (same_some (Some y) y x refl e)
slice_front (y ∷ xs) (suc i) x e = slice_front xs i x e

pub slice_mapped : {X Y : Type 0} (f : X → Y) (xs : List X) (i : ℕ) (x : X) → slice_get xs i ≡ Some x → slice_get (map f xs) i ≡ Some (f x)
slice_mapped f [] i x e = absurd (none_some None x refl e)
slice_mapped f (y ∷ xs) zero x e = ap (λ z. Some (f z)) (same_some (Some y) y x refl e)
slice_mapped f (y ∷ xs) (suc i) x e = slice_mapped f xs i x e

pub slice_missing : {X Y : Type 0} (f : X → Y) (xs : List X) (i : ℕ) → slice_get xs i ≡ None → slice_get (map f xs) i ≡ None
slice_missing f [] i e = refl
slice_missing f (y ∷ xs) zero e = absurd (none_some (Some y) y e refl)
slice_missing f (y ∷ xs) (suc i) e = slice_missing f xs i e

pub length_mapped : {X Y : Type 0} (f : X → Y) (xs : List X) → length (map f xs) ≡ length xs
length_mapped f [] = refl
length_mapped f (x ∷ xs) = ap suc (length_mapped f xs)

pub item_at : {X : Type 0} (xs : List X) (i : ℕ) (x : X) → i < length xs → x ≡ get_or xs i x → slice_get xs i ≡ Some x
item_at xs i x lt e = slice_get-get_or xs i x lt ∙ ap (λ x. Some x) (sym e)

-- ---- the types of places
found : (o : Option (Option InterfaceType)) (y : InterfaceType) → o >>= (λ o. o) ≡ Some y → o ≡ Some (Some y)
found None y e = absurd (none_some None y refl e)
found (Some z) y e = ap (λ z. Some z) e

pub place_found : (types : List (Option InterfaceType)) (i : ℕ) (y : InterfaceType) → member_type_at types i ≡ Some y → slice_get types i ≡ Some (Some y)
place_found types i y e = found (slice_get types i) y e

pub place_within : (t : Tables) (owner : InterfaceType) (types : List (Option InterfaceType)) (i : ℕ) (y : InterfaceType) → AreLower t owner types → member_type_at types i ≡ Some y → IsMemberOf t y owner
place_within t owner types i y w e = w.each i y (place_found types i y e)

pub front_typed : (types : List (Option InterfaceType)) (i : ℕ) (y : InterfaceType) → member_type_at types i ≡ Some y → drop i types ≡ Some y ∷ drop (suc i) types
front_typed types i y e = slice_front types i (Some y) (place_found types i y e)

pub bare_at : (types : List (Option InterfaceType)) (i : ℕ) → i < length types → member_type_at types i ≡ None → slice_get types i ≡ Some None
bare_at [] i lt e = absurd (omega (arith, lt))
bare_at (x ∷ xs) zero lt e = ap (λ x. Some x) e
bare_at (x ∷ xs) (suc i) lt e = bare_at xs i (omega (arith, lt)) e

-- ---- members one by one

pub matching_starts : (t : Tables) (ms : Members) (types : List (Option InterfaceType)) (values : List Value) → AreOf t types ms → Matching t ms types 0 0 values
matching_starts t ms types values h = record { rest = ms; has = h; same = (λ a. a, λ a. a) }

pub matching_past : (t : Tables) (ms : Members) (types : List (Option InterfaceType)) (i at : ℕ) (values : List Value) → i < length types → member_type_at types i ≡ None → Matching t ms types i at values → Matching t ms types (i + 1) at values
unfolding IsA
matching_past t ms types i at values lt e g =
    let p = split_bare t (drop (suc i) types) g.rest (subst (λ xs. AreOf t xs g.rest) (slice_front types i None (bare_at types i lt e)) g.has) in
    record { rest = p.rest; has = subst (λ k. AreOf t (drop k types) p.rest) (sym (add-one i)) p.has; same = subst (λ r. AreMembers ms values ↔ AreMembers r (drop at values)) p.is g.same }

-- the member of a place, and the others
pub record MatchesHere (t : Tables) (ms : Members) (types : List (Option InterfaceType)) (i at : ℕ) (values : List Value) (y : InterfaceType) : Type 0 where
  pub name : List ℕ
  pub shape : Shape
  pub rest : Members
  pub shaped : HasShape t y shape
  pub has : AreOf t (drop (i + 1) types) rest
  pub same : AreMembers ms values ↔ AreMembers (typed name shape rest) (drop at values)

pub matches_here : {t : Tables} {ms : Members} {types : List (Option InterfaceType)} {i at : ℕ} {values : List Value} (y : InterfaceType) → member_type_at types i ≡ Some y → Matching t ms types i at values → MatchesHere t ms types i at values y
matches_here {t} {ms} {types} {i} {at} {values} y e g =
    let p = split_typed t y (drop (suc i) types) g.rest (subst (λ xs. AreOf t xs g.rest) (front_typed types i y e) g.has) in
    record { name = p.name; shape = p.shape; rest = p.rest; shaped = p.shaped; has = subst (λ k. AreOf t (drop k types) p.rest) (sym (add-one i)) p.has; same = subst (λ r. AreMembers ms values ↔ AreMembers r (drop at values)) p.is g.same }

pub matching_on : {t : Tables} {ms : Members} {types : List (Option InterfaceType)} {i at : ℕ} {values : List Value} {y : InterfaceType} (h : MatchesHere t ms types i at values y) (at' : ℕ) (v : Value) → slice_get values at ≡ Some v → IsA h.shape v → at' ≡ at + 1
    → Matching t ms types (i + 1) at' values
unfolding IsA
matching_on {t} {ms} {types} {i} {at} {values} h at' v there is moved =
    let here : AreMembers ms values ↔ (IsA h.shape v × AreMembers h.rest (drop (suc at) values)) =
    subst (λ vs. AreMembers ms values ↔ AreMembers (typed h.name h.shape h.rest) vs) (slice_front values at v there) h.same in
    record {
      rest = h.rest;
      has = h.has;
      same = subst (λ n. AreMembers ms values ↔ AreMembers h.rest (drop n values)) (sym (moved ∙ add-one at)) (λ a. (here.0 a).1, λ a. here.1 (is, a));
    }

pub not_matched : {t : Tables} {ms : Members} {types : List (Option InterfaceType)} {i at : ℕ} {values : List Value} {y : InterfaceType} (h : MatchesHere t ms types i at values y) (v : Value) → slice_get values at ≡ Some v → (IsA h.shape v → ⊥) → AreMembers ms values → ⊥
unfolding IsA
not_matched {t} {ms} {types} {i} {at} {values} h v there never all =
    never (subst (λ vs. AreMembers (typed h.name h.shape h.rest) vs) (slice_front values at v there) (h.same.0 all)).0

pub none_matched : {t : Tables} {ms : Members} {types : List (Option InterfaceType)} {i at : ℕ} {values : List Value} {y : InterfaceType} (h : MatchesHere t ms types i at values y) → slice_get values at ≡ None → AreMembers ms values → ⊥
unfolding IsA
none_matched {t} {ms} {types} {i} {at} {values} h there all =
    subst (λ vs. AreMembers (typed h.name h.shape h.rest) vs) (slice_past values at there) (h.same.0 all)

-- what is taken of the values that are left
pub few_taken : (t : Tables) (m : Option InterfaceType) (w : Option Value) (n : ℕ) → IsTaken t m w (Some n) → n ≤ 1
few_taken t None w n k = omega (arith, same_some (Some n) n 0 refl k)
few_taken t (Some y) None n k = absurd (none_some (Some n) n k refl)
few_taken t (Some y) (Some v) n k = omega (arith, k.0)

pub takes_none : (t : Tables) (m : Option InterfaceType) (w : Option Value) → m ≡ None → IsTaken t m w (Some 0)
takes_none t None w e = refl
takes_none t (Some y) w e = absurd (none_some (Some y) y e refl)

pub takes_missing : (t : Tables) (m : Option InterfaceType) (w : Option Value) (y : InterfaceType) → m ≡ Some y → w ≡ None → IsTaken t m w None
takes_missing t None w y e q = absurd (none_some None y refl e)
takes_missing t (Some z) None y e q = refl
takes_missing t (Some z) (Some v) y e q = absurd (none_some (Some v) v q refl)

pub takes_one : (t : Tables) (m : Option InterfaceType) (w : Option Value) (y : InterfaceType) (v : Value) → m ≡ Some y → w ≡ Some v → ((s : Shape) → HasShape t y s → IsA s v) → IsTaken t m w (Some 1)
takes_one t None w y v e q f = absurd (none_some None y refl e)
takes_one t (Some z) None y v e q f = absurd (none_some None v refl q)
takes_one t (Some z) (Some u) y v e q f = (refl, λ s h. subst (IsA s) (sym (same_some (Some u) u v refl q)) (f s (subst (λ y. HasShape t y s) (same_some (Some z) z y refl e) h)))

pub takes_other : (t : Tables) (m : Option InterfaceType) (w : Option Value) (y : InterfaceType) (v : Value) → m ≡ Some y → w ≡ Some v → ((s : Shape) → HasShape t y s → IsA s v → ⊥) → IsTaken t m w None
takes_other t None w y v e q f = absurd (none_some None y refl e)
takes_other t (Some z) None y v e q f = absurd (none_some None v refl q)
takes_other t (Some z) (Some u) y v e q f = λ s h a. f s (subst (λ y. HasShape t y s) (same_some (Some z) z y refl e) h) (subst (IsA s) (same_some (Some u) u v refl q) a)

module _ {t : Tables} {ms : Members} {types : List (Option InterfaceType)} {i at : ℕ} {values : List Value} (g : Matching t ms types i at values) where
  took : (m : Option InterfaceType) (w : Option Value) (n : ℕ) → i < length types → member_type_at types i ≡ m → slice_get values at ≡ w → IsTaken t m w (Some n) → Matching t ms types (i + 1) (at + n) values
  took None w n lt e q k = subst (λ a. Matching t ms types (i + 1) a values) (omega (arith, same_some (Some n) n 0 refl k)) (matching_past t ms types i at values lt e g)
  took (Some y) None n lt e q k = absurd (none_some (Some n) n k refl)
  took (Some y) (Some v) n lt e q k = let h = matches_here y e g in matching_on h (at + n) v q (k.1 h.shape h.shaped) (ap (λ n. at + n) k.0)

  pub matching_taken : (n : ℕ) (o : Option ℕ) (w : Option Value) → i < length types → w ≡ slice_get values at → o ≡ Some n → IsTaken t (member_type_at types i) w o → Matching t ms types (i + 1) (at + n) values
  matching_taken n o w lt q is k = took (member_type_at types i) w n lt refl (sym q) (subst (IsTaken t (member_type_at types i) w) is k)

  took_none : (m : Option InterfaceType) (w : Option Value) → member_type_at types i ≡ m → slice_get values at ≡ w → IsTaken t m w None → AreMembers ms values → ⊥
  took_none None w e q k = absurd (none_some None 0 refl k)
  took_none (Some y) None e q k = none_matched (matches_here y e g) q
  took_none (Some y) (Some v) e q k = let h = matches_here y e g in not_matched h v q (k h.shape h.shaped)

  pub matching_fails : (o : Option ℕ) (w : Option Value) → w ≡ slice_get values at → o ≡ None → IsTaken t (member_type_at types i) w o → AreMembers ms values → ⊥
  matching_fails o w q is k = took_none (member_type_at types i) w refl (sym q) (subst (IsTaken t (member_type_at types i) w) is k)

nothing_left : (t : Tables) (r : Members) (vs : List Value) → AreOf t [] r → AreMembers r vs ↔ (vs ≡ [])
unfolding IsA
nothing_left t no_members [] h = (λ a. refl, λ a. tt)
nothing_left t no_members (v ∷ vs) h = (λ a. absurd a, λ e. absurd (omega (arith, ap length e)))
nothing_left t (bare n r) vs h = absurd h
nothing_left t (typed n s r) vs h = absurd h

past_end : {X : Type 0} (xs : List X) (i : ℕ) → length xs ≤ i → drop i xs ≡ []
past_end xs i ge = drop_all i xs ge

nothing_dropped : {X : Type 0} (xs : List X) (i : ℕ) → drop i xs ≡ [] → length xs ≤ i
nothing_dropped [] i e = omega arith
nothing_dropped (x ∷ xs) zero e = absurd (omega (arith, ap length e))
nothing_dropped (x ∷ xs) (suc i) e = omega (arith, nothing_dropped xs i e)

pub all_matched : (t : Tables) (ms : Members) (types : List (Option InterfaceType)) (i at : ℕ) (values : List Value) → length types ≤ i → Matching t ms types i at values → AreMembers ms values ↔ (length values ≤ at)
all_matched t ms types i at values ge g =
    let last = nothing_left t g.rest (drop at values) (subst (λ xs. AreOf t xs g.rest) (drop_all i types ge) g.has) in
    (λ a. nothing_dropped values at (last.0 (g.same.0 a)), λ le. g.same.1 (last.1 (past_end values at le)))

-- ---- several values of which something holds

pub all_past : {X : Type 0} (P : X → Type 0) (xs : List X) (i : ℕ) (x : X) → slice_get xs i ≡ Some x → P x → (AllByRecursion P xs ↔ AllByRecursion P (drop i xs)) → AllByRecursion P xs ↔ AllByRecursion P (drop (i + 1) xs)
all_past P xs i x there p g =
    let here : AllByRecursion P xs ↔ (P x × AllByRecursion P (drop (suc i) xs)) = subst (λ ys. AllByRecursion P xs ↔ AllByRecursion P ys) (slice_front xs i x there) g in
    subst (λ n. AllByRecursion P xs ↔ AllByRecursion P (drop n xs)) (sym (add-one i)) (λ a. (here.0 a).1, λ a. here.1 (p, a))

pub not_all : {X : Type 0} (P : X → Type 0) (xs : List X) (i : ℕ) (x : X) → slice_get xs i ≡ Some x → (P x → ⊥) → (AllByRecursion P xs ↔ AllByRecursion P (drop i xs)) → AllByRecursion P xs → ⊥
not_all P xs i x there never g all = never (subst (λ ys. AllByRecursion P ys) (slice_front xs i x there) (g.0 all)).0

pub all_passed : {X : Type 0} (P : X → Type 0) (xs : List X) (i : ℕ) → length xs ≤ i → (AllByRecursion P xs ↔ AllByRecursion P (drop i xs)) → AllByRecursion P xs
all_passed P xs i ge g = g.1 (subst (λ ys. AllByRecursion P ys) (sym (drop_all i xs ge)) tt)

-- ---- items that have names, one by one
heads : (x y : List ℕ) (xs ys : List (List ℕ)) → x ∷ xs ≡ y ∷ ys → x ≡ y
heads x y xs ys e = same_some (slice_get (x ∷ xs) 0) x y refl (ap (λ l. slice_get l 0) e)

one_named : (x : List ℕ) (names : List (List ℕ)) (i : ℕ) (n : Option (List ℕ)) → slice_get names i ≡ n → name_is x n ≡ true → slice_get names i ≡ Some x
one_named x names i None e b = absurd (true≢false (sym b))
one_named x names i (Some n) e b = e ∙ ap (λ n. Some n) (bytes_are n x b)

pub named_past : (xs names : List (List ℕ)) (i : ℕ) (x : List ℕ) → slice_get xs i ≡ Some x → name_is x (slice_get names i) ≡ true → ((xs ≡ names) ↔ (drop i xs ≡ drop i names)) → (xs ≡ names) ↔ (drop (i + 1) xs ≡ drop (i + 1) names)
named_past xs names i x e b g =
    let here = slice_front xs i x e in
    let there = slice_front names i x (one_named x names i (slice_get names i) refl b) in
    (λ s. ap (λ l. drop (i + 1) l) s, λ s. g.1 (here ∙ ap (λ l. x ∷ l) (ap (λ k. drop k xs) (sym (add-one i)) ∙ s ∙ ap (λ k. drop k names) (add-one i)) ∙ sym there))

pub not_named : (xs names : List (List ℕ)) (i : ℕ) (x : List ℕ) → slice_get xs i ≡ Some x → name_is x (slice_get names i) ≡ false → xs ≡ names → ⊥
not_named xs names i x e b s = true≢false (sym (bytes_same x) ∙ ap (name_is x) (sym e ∙ ap (λ l. slice_get l i) s) ∙ b)

pub all_named : (xs names : List (List ℕ)) (i : ℕ) → length xs ≡ length names → length xs ≤ i → ((xs ≡ names) ↔ (drop i xs ≡ drop i names)) → xs ≡ names
all_named xs names i l ge g = g.1 (drop_all i xs ge ∙ sym (drop_all i names (omega (arith, l, ge))))

-- ---- places of names

-- none of so many names is a name
abbrev pub IsNotBefore : List ℕ → List (List ℕ) → ℕ → Type 0
IsNotBefore x ns zero = Unit {0}
IsNotBefore x [] (suc i) = Unit {0}
IsNotBefore x (n ∷ ns) (suc i) = (bytes_eq n x ≡ false) × IsNotBefore x ns i

not_before_suc : (x : List ℕ) (ns : List (List ℕ)) (i : ℕ) → name_is x (slice_get ns i) ≡ false → IsNotBefore x ns i → IsNotBefore x ns (suc i)
not_before_suc x [] i e g = tt
not_before_suc x (m ∷ ns) zero e g = (e, tt)
not_before_suc x (m ∷ ns) (suc i) e g = (g.0, not_before_suc x ns i e g.1)

pub not_before : (x : List ℕ) (ns : List (List ℕ)) (i : ℕ) → name_is x (slice_get ns i) ≡ false → IsNotBefore x ns i → IsNotBefore x ns (i + 1)
not_before x ns i e g = subst (IsNotBefore x ns) (sym (add-one i)) (not_before_suc x ns i e g)

pub first_at : (x : List ℕ) (ns : List (List ℕ)) (i : ℕ) → name_is x (slice_get ns i) ≡ true → IsNotBefore x ns i → IsFirstNamed x ns i
first_at x [] i e g = absurd (true≢false (sym e))
first_at x (m ∷ ns) zero e g = e
first_at x (m ∷ ns) (suc i) e g = (g.0, first_at x ns i e g.1)

pub nowhere : (x : List ℕ) (ns : List (List ℕ)) (i : ℕ) → length ns ≤ i → IsNotBefore x ns i → IsNowhere x ns
nowhere x [] i ge g = tt
nowhere x (n ∷ ns) zero ge g = absurd (omega (arith, ge))
nowhere x (n ∷ ns) (suc i) ge g = (g.0, nowhere x ns i (omega (arith, ge)) g.1)

-- ---- the payload of a case

pub no_such_case : (x : List ℕ) (vs : List Value) (ms : Members) → IsNowhere x (names_of ms) → HasCase ms x vs → ⊥
unfolding IsA
no_such_case x vs no_members g h = h
no_such_case x vs (bare n ms) g h = no_such_case x vs ms g.1 (subst (λ b. chosen b (vs ≡ []) (HasCase ms x vs)) g.0 h)
no_such_case x vs (typed n s ms) g h = no_such_case x vs ms g.1 (subst (λ b. chosen b (IsOnePayload (λ v. IsA s v) vs) (HasCase ms x vs)) g.0 h)

pub bare_case_has : (t : Tables) (x : List ℕ) (vs : List Value) (types : List (Option InterfaceType)) (ms : Members) (i : ℕ) → AreOf t types ms → IsFirstNamed x (names_of ms) i → member_type_at types i ≡ None → HasCase ms x vs ↔ (vs ≡ [])
unfolding IsA
bare_case_has t x vs types no_members i h g e = absurd g
bare_case_has t x vs [] (bare n ms) i h g e = absurd h
bare_case_has t x vs (z ∷ zs) (bare n ms) zero h g e = subst (λ b. chosen b (vs ≡ []) (HasCase ms x vs) ↔ (vs ≡ [])) (sym g) (λ a. a, λ a. a)
bare_case_has t x vs (z ∷ zs) (bare n ms) (suc i) h g e = subst (λ b. chosen b (vs ≡ []) (HasCase ms x vs) ↔ (vs ≡ [])) (sym g.0) (bare_case_has t x vs zs ms i h.1 g.1 e)
bare_case_has t x vs [] (typed n s ms) i h g e = absurd h
bare_case_has t x vs (z ∷ zs) (typed n s ms) zero h g e = absurd (none_some z h.0.0 e h.0.1)
bare_case_has t x vs (z ∷ zs) (typed n s ms) (suc i) h g e = subst (λ b. chosen b (IsOnePayload (λ v. IsA s v) vs) (HasCase ms x vs) ↔ (vs ≡ [])) (sym g.0) (bare_case_has t x vs zs ms i h.1 g.1 e)

pub record TypedCase (t : Tables) (ms : Members) (x : List ℕ) (vs : List Value) (y : InterfaceType) : Type 0 where
  pub shape : Shape
  pub shaped : HasShape t y shape
  pub same : HasCase ms x vs ↔ IsOnePayload (λ v. IsA shape v) vs

pub typed_case_has : (t : Tables) (x : List ℕ) (vs : List Value) (y : InterfaceType) (types : List (Option InterfaceType)) (ms : Members) (i : ℕ) → AreOf t types ms → IsFirstNamed x (names_of ms) i → member_type_at types i ≡ Some y → TypedCase t ms x vs y
unfolding IsA
typed_case_has t x vs y types no_members i h g e = absurd g
typed_case_has t x vs y [] (bare n ms) i h g e = absurd h
typed_case_has t x vs y (z ∷ zs) (bare n ms) zero h g e = absurd (none_some z y h.0 e)
typed_case_has t x vs y (z ∷ zs) (bare n ms) (suc i) h g e =
    let c = typed_case_has t x vs y zs ms i h.1 g.1 e in
    record { shape = c.shape; shaped = c.shaped; same = subst (λ b. chosen b (vs ≡ []) (HasCase ms x vs) ↔ IsOnePayload (λ v. IsA c.shape v) vs) (sym g.0) c.same }
typed_case_has t x vs y [] (typed n s ms) i h g e = absurd h
typed_case_has t x vs y (z ∷ zs) (typed n s ms) zero h g e = record {
  shape = s;
  shaped = subst (λ y. HasShape t y s) (same_some z h.0.0 y h.0.1 e) h.0.2;
  same = subst (λ b. chosen b (IsOnePayload (λ v. IsA s v) vs) (HasCase ms x vs) ↔ IsOnePayload (λ v. IsA s v) vs) (sym g) (λ a. a, λ a. a);
}
typed_case_has t x vs y (z ∷ zs) (typed n s ms) (suc i) h g e =
    let c = typed_case_has t x vs y zs ms i h.1 g.1 e in
    record { shape = c.shape; shaped = c.shaped; same = subst (λ b. chosen b (IsOnePayload (λ v. IsA s v) vs) (HasCase ms x vs) ↔ IsOnePayload (λ v. IsA c.shape v) vs) (sym g.0) c.same }

pub one_payload : (P : Value → Type 0) (vs : List Value) (v : Value) → only vs ≡ Some v → IsOnePayload P vs ↔ P v
one_payload P [] v e = absurd (none_some None v refl e)
one_payload P (w ∷ []) v e = subst (λ v. P w ↔ P v) (same_some (Some w) w v refl e) (λ p. p, λ p. p)
one_payload P (w ∷ u ∷ vs) v e = absurd (none_some None v refl e)

pub no_payload : (P : Value → Type 0) (vs : List Value) → only vs ≡ None → IsOnePayload P vs → ⊥
no_payload P [] e p = p
no_payload P (w ∷ []) e p = none_some (Some w) w e refl
no_payload P (w ∷ u ∷ vs) e p = p

pub none_there : {X : Type 0} (xs : List X) → slice_get xs 0 ≡ None → xs ≡ []
none_there [] e = refl
none_there (x ∷ xs) e = absurd (none_some (Some x) x e refl)

pub one_there : {X : Type 0} (xs : List X) (x : X) → slice_get xs 0 ≡ Some x → xs ≡ [] → ⊥
one_there xs x e q = none_some (slice_get xs 0) x (ap (λ l. slice_get l 0) q) e

-- a case, by its name and its payload
pub case_form : (v : Value) (x : List ℕ) (vs : List Value) (ms : Members) (b : Bool) → v ≡ value.Case x vs → (IsTrue b ↔ HasCase ms x vs) → IsTrue b ↔ IsCase (λ x vs. HasCase ms x vs) (out-Value v)
case_form v x vs ms b e g = subst (λ v. IsTrue b ↔ IsCase (λ x vs. HasCase ms x vs) (out-Value v)) (sym e) (subst (λ w. IsTrue b ↔ IsCase (λ x vs. HasCase ms x vs) w) (sym (value.outs-Case x vs)) g)

pub map_form : (Key Item : Value → Type 0) (v : Value) (es : List (Value × Value)) (b : Bool) → v ≡ value.Map es → (IsTrue b ↔ AllByRecursion (λ e. Key e.0 × Item e.1) es) → IsTrue b ↔ IsMapOf Key Item (out-Value v)
map_form Key Item v es b e g = subst (λ v. IsTrue b ↔ IsMapOf Key Item (out-Value v)) (sym e) (subst (λ w. IsTrue b ↔ IsMapOf Key Item w) (sym (value.outs-Map es)) g)

pub index_nowhere : (x : List ℕ) (names : List (List ℕ)) (ms : Members) (o : Option ℕ) → names ≡ names_of ms → o ≡ None → IsIndexOf x names o → IsNowhere x (names_of ms)
index_nowhere x names ms None n e g = subst (IsNowhere x) n g
index_nowhere x names ms (Some i) n e g = absurd (none_some (Some i) i e refl)

pub case_missing : (x : List ℕ) (vs : List Value) (names : List (List ℕ)) (ms : Members) (i : Option ℕ) → names ≡ names_of ms → i ≡ None → IsIndexOf x names i → IsTrue false ↔ HasCase ms x vs
case_missing x vs names ms o n e g = is_not (no_such_case x vs ms (index_nowhere x names ms o n e g))

pub case_found : (x : List ℕ) (names : List (List ℕ)) (ms : Members) (o : Option ℕ) (i : ℕ) → names ≡ names_of ms → o ≡ Some i → IsIndexOf x names o → IsFirstNamed x (names_of ms) i
case_found x names ms None i n e g = absurd (none_some None i refl e)
case_found x names ms (Some j) i n e g = subst (IsFirstNamed x (names_of ms)) (same_some (Some j) j i refl e) (subst (λ ns. IsFirstNamed x ns j) n g)

pub many_payloads : {t : Tables} {ms : Members} {x : List ℕ} {vs : List Value} {y : InterfaceType} (p : TypedCase t ms x vs y) → only vs ≡ None → IsTrue false ↔ HasCase ms x vs
many_payloads {t} {ms} {x} {vs} {y} p e = is_not (λ h. no_payload (λ v. IsA p.shape v) vs e (p.same.0 h))

pub payload_belongs : {t : Tables} {ms : Members} {x : List ℕ} {vs : List Value} {y : InterfaceType} (p : TypedCase t ms x vs y) (v : Value) (b : Bool) → only vs ≡ Some v → ((s : Shape) → HasShape t y s → (IsTrue b ↔ IsA s v)) → IsTrue b ↔ HasCase ms x vs
payload_belongs {t} {ms} {x} {vs} {y} p v b e g = by_same (g p.shape p.shaped) (other_way (by_same p.same (one_payload (λ v. IsA p.shape v) vs v e)))

-- ---- values by their forms

-- a value of another form is none of the type
pub no_record : (ms : Members) (Are : List Value → Type 0) (w : Value-F Value) → ((fs : List (List ℕ × Value)) → w ≡ o.Record fs → ⊥) → IsRecord ms Are w → ⊥
no_record ms Are (o.Record fs) never h = never fs refl
no_record ms Are _ never h = h

pub no_tuple : (Are : List Value → Type 0) (w : Value-F Value) → ((vs : List Value) → w ≡ o.Tuple vs → ⊥) → IsTuple Are w → ⊥
no_tuple Are (o.Tuple vs) never h = never vs refl
no_tuple Are _ never h = h

pub no_list : (Is : Value → Type 0) (w : Value-F Value) → ((vs : List Value) → w ≡ o.List vs → ⊥) → IsListOf Is w → ⊥
no_list Is (o.List vs) never h = never vs refl
no_list Is _ never h = h

pub no_fixed_list : (n : ℕ) (Is : Value → Type 0) (w : Value-F Value) → ((vs : List Value) → w ≡ o.List vs → ⊥) → IsFixedList n Is w → ⊥
no_fixed_list n Is (o.List vs) never h = never vs refl
no_fixed_list n Is _ never h = h

pub no_map : (Key Item : Value → Type 0) (w : Value-F Value) → ((es : List (Value × Value)) → w ≡ o.Map es → ⊥) → IsMapOf Key Item w → ⊥
no_map Key Item (o.Map es) never h = never es refl
no_map Key Item _ never h = h

pub no_flags : (ms : Members) (w : Value-F Value) → ((fs : List (List ℕ × Bool)) → w ≡ o.Flags fs → ⊥) → IsFlags ms w → ⊥
no_flags ms (o.Flags fs) never h = never fs refl
no_flags ms _ never h = h

pub no_case : (Is : List ℕ → List Value → Type 0) (w : Value-F Value) → ((x : List ℕ) (vs : List Value) → w ≡ o.Case x vs → ⊥) → IsCase Is w → ⊥
no_case Is (o.Case x vs) never h = never x vs refl
no_case Is _ never h = h

pub no_handle : (kind : HandleKind) (table : ℕ) (w : Value-F Value) → ((k : HandleKind) (t n : ℕ) → w ≡ o.Handle k t n → ⊥) → IsHandle kind table w → ⊥
no_handle kind table (o.Handle k t n) never h = never k t n refl
no_handle kind table _ never h = h

-- ---- whole types

pub plain_belongs : (y : InterfaceType) (s : Shape) (v : Value) (b : Bool) → s ≡ s_plain y → (IsTrue b ↔ IsPlainValue (plain_of y) (out-Value v)) → IsTrue b ↔ IsA s v
unfolding IsA
plain_belongs y s v b e g = subst (λ s. IsTrue b ↔ IsA s v) (sym e) g

-- a kind of type with members
pub node_belongs : (k : Kind) (ms : Members) (v : Value) (b : Bool) → (IsTrue b ↔ IsNodeValue k ms (λ vs. AreMembers ms vs) (λ x vs. HasCase ms x vs) (λ w. IsElement ms w) (out-Value v)) → IsTrue b ↔ IsA (s_node k ms) v
unfolding IsA
node_belongs k ms v b g = g

pub list_belongs : (t : Tables) (y : InterfaceType) (ms : Members) (v : Value) (b : Bool) → AreOf t (Some y ∷ []) ms → ((s : Shape) → HasShape t y s → (IsTrue b ↔ IsListOf (λ w. IsA s w) (out-Value v))) → IsTrue b ↔ IsA (s_node k_list ms) v
unfolding IsA
list_belongs t y ms v b h g = let p = split_typed t y [] ms h in subst (λ ms. IsTrue b ↔ IsA (s_node k_list ms) v) (sym p.is) (g p.shape p.shaped)

pub fixed_list_belongs : (t : Tables) (y : InterfaceType) (n : ℕ) (ms : Members) (v : Value) (b : Bool) → AreOf t (Some y ∷ []) ms → ((s : Shape) → HasShape t y s → (IsTrue b ↔ IsFixedList n (λ w. IsA s w) (out-Value v))) → IsTrue b ↔ IsA (s_node (k_fixed n) ms) v
unfolding IsA
fixed_list_belongs t y n ms v b h g = let p = split_typed t y [] ms h in subst (λ ms. IsTrue b ↔ IsA (s_node (k_fixed n) ms) v) (sym p.is) (g p.shape p.shaped)

each_also : {X : Type 0} (P Q : X → Type 0) (xs : List X) → ((x : X) → P x → Q x) → AllByRecursion P xs → AllByRecursion Q xs
each_also P Q [] f h = tt
each_also P Q (x ∷ xs) f h = (f x h.0, each_also P Q xs f h.1)

pub map_belongs : (t : Tables) (y z : InterfaceType) (ms : Members) (v : Value) (b : Bool) → AreOf t (Some y ∷ Some z ∷ []) ms → ((s u : Shape) → HasShape t y s → HasShape t z u → (IsTrue b ↔ IsMapOf (λ k. IsA s k) (λ i. IsA u i) (out-Value v))) → IsTrue b ↔ IsA (s_node k_map ms) v
unfolding IsA
map_belongs t y z ms v b h g =
    let p = split_typed t y (Some z ∷ []) ms h in
    let q = split_typed t z [] p.rest p.has in
    subst (λ ms. IsTrue b ↔ IsA (s_node k_map ms) v) (sym (p.is ∙ ap (typed p.name p.shape) q.is))
    (by_same (g p.shape q.shape p.shaped q.shaped) (forms p.name q.name p.shape q.shape q.rest q.has (out-Value v)))
  where
    none : (r : Members) → AreOf t [] r → AreMembers r []
    none r a = (nothing_left t r [] a).1 refl

    forms : (m n : List ℕ) (s u : Shape) (r : Members) → AreOf t [] r → (w : Value-F Value) → IsMapOf (λ k. IsA s k) (λ i. IsA u i) w ↔ IsMap (λ vs. AreMembers (typed m s (typed n u r)) vs) w
    forms m n s u r a (o.Map es) = (each_also _ _ es (λ e x. (x.0, (x.1, none r a))), each_also _ _ es (λ e x. (x.0, x.1.0)))
    forms m n s u r a _ = (λ x. x, λ x. x)
