-- Types that do not fail to agree agree: agreement rests on equality of types, names and lengths, which can be decided.
use Rattle.std.proofs.Common.{◌≡◌, ℕ, zero, suc, Bool, true, false, List, [], ◌∷◌, Option, Some, None, refl, sym, ap, ◌∙◌, arith}
use Rattle.std.specs.Prelude.{nat_eq}
use Rattle.std.specs.List.{Contains}
use Rattle.std.specs.Str.{bytes_eq}
use Rattle.std.proofs.lemmas.Bool.{eqb-true, eq-eqb, true≢false}
use Rattle.std.proofs.lemmas.Slice.Eq.{bytes_eq-Decides}
use Rattle.fact_types.specs.Exact.{exact_type}
use Rattle.fact_types.specs.declared.interface.InterfaceType.{InterfaceType}
use Rattle.fact_types.specs.declared.interface.InterfaceType.TheVariants.{Own as t_own, Borrow as t_borrow, ErrorContext as t_error_context}
use Rattle.fact_types.specs.contracts.interface.InterfaceTypePartialEq.TheImpl as type_eq
use Rattle.fact_types.specs.contracts.interface.InterfaceTypeEq.TheImpl.Laws.{laws-law}
use Rattle.fact_types.specs.Agrees.{Agrees, AgreesPlain, AgreesBy, AgreesFields, AgreesCase, AgreesPlaces, BothThere, EachCase, chosen, named, names_of}
use Rattle.fact_types.specs.Shapes.{Kind, k_record, k_variant, k_list, k_tuple, k_map, k_flags, k_enum, k_option, k_result, k_fixed, k_future, k_stream, Shape, s_plain, s_node, Members, no_members, bare, typed}
use Rattle.fact_agreement.specs.Lists.{AgreeAll}

-- what does not fail to hold holds
abbrev pub IsStable : Type 0 → Type 0
IsStable A = ((A → ⊥) → ⊥) → A

-- ---- equality

-- where a test decides it
pub stable_equal : {X : Type 0} (E : X → X → Bool) → ((a b : X) → E a b ≡ true → a ≡ b) → ((a : X) → E a a ≡ true) → (a b : X) → IsStable (a ≡ b)
stable_equal E exact self a b h = go (E a b) refl
  where
    go : (c : Bool) → E a b ≡ c → a ≡ b
    go true e = exact a b e
    go false e = absurd (h (λ same. true≢false (sym (self a) ∙ ap (E a) same ∙ e)))

pub stable_nat : (a b : ℕ) → IsStable (a ≡ b)
stable_nat a b h = stable_equal nat_eq eqb-true (λ n. eq-eqb n n refl) a b h

stable_name : (a b : List ℕ) → IsStable (a ≡ b)
stable_name a b h = stable_equal bytes_eq (λ x y. (bytes_eq-Decides x y).0) (λ x. (bytes_eq-Decides x x).1 refl) a b h

stable_type : (p q : InterfaceType) → IsStable (p ≡ q)
stable_type p q h = stable_equal type_eq.ghosts.eq exact_type laws-law.refl p q h

stable_names : (xs ys : List (List ℕ)) → IsStable (xs ≡ ys)
stable_names [] [] h = refl
stable_names [] (y ∷ ys) h = absurd (h (λ e. cc))
stable_names (x ∷ xs) [] h = absurd (h (λ e. cc))
stable_names (x ∷ xs) (y ∷ ys) h =
    let first : x ≡ y = stable_name x y (λ n. h (λ e. n cc)) in
    let rest : xs ≡ ys = stable_names xs ys (λ n. h (λ e. n cc)) in
    λ i. first i ∷ rest i

stable_none : (p : Option Shape) → IsStable (p ≡ None)
stable_none None h = refl
stable_none (Some s) h = absurd (h (λ e. cc))

-- ---- names among names

later : (x y : List ℕ) (ys : List (List ℕ)) → (y ≡ x → ⊥) → Contains (y ∷ ys) x → Contains ys x
later x y ys other (zero, within, is) = absurd (other is)
later x y ys other (suc k, within, is) = (k, omega (arith, within), is)

stable_contains : (x : List ℕ) (ys : List (List ℕ)) → IsStable (Contains ys x)
stable_contains x [] h = absurd (h (λ c. let w = c.1 in omega (arith, w)))
stable_contains x (y ∷ ys) h = go (bytes_eq y x) refl (stable_contains x ys)
  where
    go : (b : Bool) → bytes_eq y x ≡ b → IsStable (Contains ys x) → Contains (y ∷ ys) x
    go true e rest = (0, omega arith, (bytes_eq-Decides y x).0 e)
    go false e rest =
        let other = λ (same : y ≡ x). true≢false (sym ((bytes_eq-Decides y x).1 same) ∙ e) in
        let r = rest (λ n. h (λ c. n (later x y ys other c))) in
        (suc r.0, omega (arith, r.1), r.2)

-- ---- parts of agreement

stable_there : (q : Option Shape) (P : Shape → Type 0) → ((s : Shape) → IsStable (P s)) → IsStable (BothThere q P)
stable_there None P p h = absurd (h (λ a. a))
stable_there (Some s) P p h = p s h

stable_chosen : (b : Bool) (A B : Type 0) → IsStable A → IsStable B → IsStable (chosen b A B)
stable_chosen true A B a b h = a h
stable_chosen false A B a b h = b h

stable_cases : (ms : Members) (C : List ℕ → Option Shape → Type 0) → ((x : List ℕ) (p : Option Shape) → IsStable (C x p)) → IsStable (EachCase ms C)
stable_cases no_members C c h = tt
stable_cases (bare n ms) C c h = (c n None (λ x. h (λ a. x a.0)), stable_cases ms C c (λ x. h (λ a. x a.1)))
stable_cases (typed n s ms) C c h = (c n (Some s) (λ x. h (λ a. x a.0)), stable_cases ms C c (λ x. h (λ a. x a.1)))

stable_plain : (q : InterfaceType) (s : Shape) → IsStable (AgreesPlain q s)
stable_plain (t_own j) (s_plain (t_own i)) h = tt
stable_plain (t_borrow j) (s_plain (t_borrow i)) h = tt
stable_plain (t_error_context j) (s_plain (t_error_context i)) h = tt
stable_plain q (s_plain p) h = stable_type p q h
stable_plain q (s_node k ms) h = absurd (h (λ a. a))

stable_kind : (k : Kind) (s : Shape) (ns : Members) (F : Members → Type 0) (C : List ℕ → Option Shape → Type 0) (P : Members → Type 0)
    → ((ms : Members) → IsStable (F ms)) → ((x : List ℕ) (p : Option Shape) → IsStable (C x p)) → ((ms : Members) → IsStable (P ms)) → IsStable (AgreesBy k s ns F C P)
stable_kind k_record (s_node k_record ms) ns F C P f c p h =
    record { fields = f ms (λ n. h (λ a. n a.fields)); names = λ x at. stable_contains x (names_of ns) (λ n. h (λ a. n (a.names x at))) }
stable_kind k_variant (s_node k_variant ms) ns F C P f c p h = stable_cases ms C c h
stable_kind k_list (s_node k_list ms) ns F C P f c p h = p ms h
stable_kind k_tuple (s_node k_tuple ms) ns F C P f c p h = p ms h
stable_kind k_map (s_node k_map ms) ns F C P f c p h = p ms h
stable_kind k_option (s_node k_option ms) ns F C P f c p h = p ms h
stable_kind k_result (s_node k_result ms) ns F C P f c p h = p ms h
stable_kind k_flags (s_node k_flags ms) ns F C P f c p h =
    record { given = λ x at. stable_contains x (names_of ns) (λ n. h (λ a. n (a.given x at))); asked = λ x at. stable_contains x (names_of ms) (λ n. h (λ a. n (a.asked x at))) }
stable_kind k_enum (s_node k_enum ms) ns F C P f c p h = stable_names (names_of ms) (names_of ns) h
stable_kind (k_fixed m) (s_node (k_fixed n) ms) ns F C P f c p h = (stable_nat n m (λ x. h (λ a. x a.0)), p ms (λ x. h (λ a. x a.1)))
stable_kind (k_future t i) (s_node (k_future u j) ms) ns F C P f c p h = tt
stable_kind (k_stream t i) (s_node (k_stream u j) ms) ns F C P f c p h = tt
stable_kind k s ns F C P f c p h = absurd (h (λ a. a))

-- ---- agreement

mutual
  pub stable_agrees : (d s : Shape) → IsStable (Agrees s d)
  stable_agrees (s_plain q) s h = stable_plain q s h
  stable_agrees (s_node k ns) s h =
      stable_kind k s ns (λ ms. AgreesFields ms ns) (λ x p. AgreesCase x p ns) (λ ms. AgreesPlaces ms ns) (λ ms n. stable_fields ns ms n) (λ x p n. stable_case ns x p n) (λ ms n. stable_places ns ms n) h

  stable_fields : (ns ms : Members) → IsStable (AgreesFields ms ns)
  stable_fields no_members ms h = tt
  stable_fields (bare x ns) ms h = stable_fields ns ms h
  stable_fields (typed x d ns) ms h =
      (stable_there (named x ms) (λ s. Agrees s d) (λ s n. stable_agrees d s n) (λ n. h (λ a. n a.0)), stable_fields ns ms (λ n. h (λ a. n a.1)))

  stable_case : (ns : Members) (x : List ℕ) (p : Option Shape) → IsStable (AgreesCase x p ns)
  stable_case no_members x p h = absurd (h (λ a. a))
  stable_case (bare n ns) x p h = stable_chosen (bytes_eq n x) (p ≡ None) (AgreesCase x p ns) (λ m. stable_none p m) (λ m. stable_case ns x p m) h
  stable_case (typed n d ns) x p h =
      stable_chosen (bytes_eq n x) (BothThere p (λ s. Agrees s d)) (AgreesCase x p ns) (λ m. stable_there p (λ s. Agrees s d) (λ s l. stable_agrees d s l) m) (λ m. stable_case ns x p m) h

  stable_places : (ns ms : Members) → IsStable (AgreesPlaces ms ns)
  stable_places no_members no_members h = tt
  stable_places no_members (bare m ms) h = absurd (h (λ a. a))
  stable_places no_members (typed m s ms) h = absurd (h (λ a. a))
  stable_places (bare n ns) no_members h = absurd (h (λ a. a))
  stable_places (bare n ns) (bare m ms) h = stable_places ns ms h
  stable_places (bare n ns) (typed m s ms) h = absurd (h (λ a. a))
  stable_places (typed n d ns) no_members h = absurd (h (λ a. a))
  stable_places (typed n d ns) (bare m ms) h = absurd (h (λ a. a))
  stable_places (typed n d ns) (typed m s ms) h = (stable_agrees d s (λ x. h (λ a. x a.0)), stable_places ns ms (λ x. h (λ a. x a.1)))

-- so it is with lists of types
pub stable_all : (ss ds : List Shape) → IsStable (AgreeAll ss ds)
stable_all [] [] h = tt
stable_all [] (d ∷ ds) h = absurd (h (λ a. a))
stable_all (s ∷ ss) [] h = absurd (h (λ a. a))
stable_all (s ∷ ss) (d ∷ ds) h = (stable_agrees d s (λ x. h (λ a. x a.0)), stable_all ss ds (λ x. h (λ a. x a.1)))
