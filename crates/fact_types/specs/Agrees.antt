-- Which types a value can cross between: a source type agrees with a destination type. The fields of records, the cases
-- of variants and flags pair up by name, and the members of other types by place; resources, parameter names and the payloads of
-- futures and streams are not compared.
use Rattle.std.specs.Prelude.{◌≡◌, ℕ, List, [], ◌∷◌, Option, Some, None, Bool, true, false}
use Rattle.std.specs.Str.{bytes_eq}
use Rattle.std.specs.List.{Contains}
use Rattle.fact_types.specs.declared.interface.InterfaceType.{InterfaceType}
use Rattle.fact_types.specs.declared.interface.InterfaceType.TheVariants.{Own as t_own, Borrow as t_borrow, ErrorContext as t_error_context}
use Rattle.fact_types.specs.Shapes.{Kind, k_record, k_variant, k_list, k_tuple, k_map, k_flags, k_enum, k_option, k_result, k_fixed, k_future, k_stream, Shape, s_plain, s_node, Members, no_members, bare, typed}

-- The names of members, in order.
abbrev pub names_of : Members → List (List ℕ)
names_of no_members = []
names_of (bare n ms) = n ∷ names_of ms
names_of (typed n s ms) = n ∷ names_of ms

abbrev pub chosen : {X : Type 1} → Bool → X → X → X
chosen true a b = a
chosen false a b = b

abbrev pub first_of : {X : Type 0} → Bool → X → X → X
first_of true a b = a
first_of false a b = b

-- The first member of a name that has a type.
abbrev pub named : List ℕ → Members → Option Shape
named x no_members = None
named x (bare n ms) = named x ms
named x (typed n s ms) = first_of (bytes_eq n x) (Some s) (named x ms)

-- A shape that is there and has a property.
abbrev pub BothThere : Option Shape → (Shape → Type 0) → Type 0
BothThere None P = ⊥
BothThere (Some s) P = P s

-- Plain types: equal ones, or two handles of one kind.
abbrev pub AgreesPlain : InterfaceType → Shape → Type 0
AgreesPlain (t_own j) (s_plain (t_own i)) = Unit {0}
AgreesPlain (t_borrow j) (s_plain (t_borrow i)) = Unit {0}
AgreesPlain (t_error_context j) (s_plain (t_error_context i)) = Unit {0}
AgreesPlain q (s_plain p) = p ≡ q
AgreesPlain q (s_node k ms) = ⊥

-- Records have the same names, and fields of one name agree.
pub record AgreeFields (ms ns : Members) (Fields : Type 0) : Type 0 where
  pub fields : Fields
  pub names : (x : List ℕ) → Contains (names_of ms) x → Contains (names_of ns) x

-- Members have the same names, in whatever order.
pub record HaveSameNames (ms ns : Members) : Type 0 where
  pub given : (x : List ℕ) → Contains (names_of ms) x → Contains (names_of ns) x
  pub asked : (x : List ℕ) → Contains (names_of ns) x → Contains (names_of ms) x

-- Each case of the source, with its payload, is one of the destination.
abbrev pub EachCase : Members → (List ℕ → Option Shape → Type 0) → Type 0
EachCase no_members Case = Unit {0}
EachCase (bare n ms) Case = Case n None × EachCase ms Case
EachCase (typed n s ms) Case = Case n (Some s) × EachCase ms Case

-- A source over a destination of a kind with members ns: Fields says that each of ns has its field among given ones,
-- Case that a name and a payload are among ns, and Places that ns pair up with given members one by one.
abbrev pub AgreesBy : Kind → Shape → Members → (Members → Type 0) → (List ℕ → Option Shape → Type 0) → (Members → Type 0) → Type 0
AgreesBy k_record (s_node k_record ms) ns Fields Case Places = AgreeFields ms ns (Fields ms)
AgreesBy k_variant (s_node k_variant ms) ns Fields Case Places = EachCase ms Case
AgreesBy k_list (s_node k_list ms) ns Fields Case Places = Places ms
AgreesBy k_tuple (s_node k_tuple ms) ns Fields Case Places = Places ms
AgreesBy k_map (s_node k_map ms) ns Fields Case Places = Places ms
AgreesBy k_option (s_node k_option ms) ns Fields Case Places = Places ms
AgreesBy k_result (s_node k_result ms) ns Fields Case Places = Places ms
AgreesBy k_flags (s_node k_flags ms) ns Fields Case Places = HaveSameNames ms ns
AgreesBy k_enum (s_node k_enum ms) ns Fields Case Places = names_of ms ≡ names_of ns
AgreesBy (k_fixed m) (s_node (k_fixed n) ms) ns Fields Case Places = (n ≡ m) × Places ms
AgreesBy (k_future t i) (s_node (k_future u j) ms) ns Fields Case Places = Unit {0}
AgreesBy (k_stream t i) (s_node (k_stream u j) ms) ns Fields Case Places = Unit {0}
AgreesBy k s ns Fields Case Places = ⊥

abbrev mutual
  pub Agrees : Shape → Shape → Type 0
  Agrees s (s_plain q) = AgreesPlain q s
  Agrees s (s_node k ns) = AgreesBy k s ns (λ ms. AgreesFields ms ns) (λ x p. AgreesCase x p ns) (λ ms. AgreesPlaces ms ns)

  -- each field of the destination is a field of the source, and the two agree
  pub AgreesFields : Members → Members → Type 0
  AgreesFields ms no_members = Unit {0}
  AgreesFields ms (bare x ns) = AgreesFields ms ns
  AgreesFields ms (typed x d ns) = BothThere (named x ms) (λ s. Agrees s d) × AgreesFields ms ns

  -- the first case of a name has a payload that agrees, or none as given
  pub AgreesCase : List ℕ → Option Shape → Members → Type 0
  AgreesCase x p no_members = ⊥
  AgreesCase x p (bare n ns) = chosen (bytes_eq n x) (p ≡ None) (AgreesCase x p ns)
  AgreesCase x p (typed n d ns) = chosen (bytes_eq n x) (BothThere p (λ s. Agrees s d)) (AgreesCase x p ns)

  -- members pair up one by one, both with a type that agrees or both without
  pub AgreesPlaces : Members → Members → Type 0
  AgreesPlaces no_members no_members = Unit {0}
  AgreesPlaces (bare n ms) (bare m ns) = AgreesPlaces ms ns
  AgreesPlaces (typed n s ms) (typed m d ns) = Agrees s d × AgreesPlaces ms ns
  AgreesPlaces ms ns = ⊥
