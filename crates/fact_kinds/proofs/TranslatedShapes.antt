-- What is translated of shapes of each kind: of those without members nothing, the members of records and tuples, elements and entries, and cases one by one.
use Rattle.std.proofs.Common.{◌≡◌, ℕ, zero, suc, ◌+◌, Bool, true, false, List, [], ◌∷◌, Option, Some, None, length, refl, sym, ap, ◌∙◌, subst, arith}
use Rattle.std.specs.Prelude.{if◌then◌else◌}
use Rattle.std.specs.Str.{bytes_eq}
use Rattle.std.proofs.lemmas.Bool.{true≢false}
use Rattle.fact_types.specs.declared.extents.MemoryWidth.TheVariants.{Memory32, Memory64}
use Rattle.fact_types.specs.Agrees.{first_of, named}
use Rattle.fact_types.specs.Fields.{Field, find}
use Rattle.fact_types.specs.FlatShapes.{flat}
use Rattle.fact_types.specs.Shapes.{k_flags, k_enum, k_future, k_stream, Shape, s_plain, s_node, Members, no_members, bare, typed, next_of, place_of}
use Rattle.fact_types.specs.Tables.{Tables}
use Rattle.fact_types.proofs.ShapeLaws.{same_some}
use Rattle.fact_values.specs.Limits.{CaseType, case_type}
use Rattle.fact_values.specs.Places.{count_of_members}
use Rattle.fact_actions.specs.Outlining.{Route, Translating, asked_before, translates, translates_cases, translates_fields, translates_if, translates_none, translates_then, translates_times}
use Rattle.fact_code_laws.specs.Places.{From, To}
use Rattle.fact_emit.specs.declared.places.Sides.{Sides}
use Rattle.fact_emit.specs.Asked.{AskedHelper}
use Rattle.fact_kinds.specs.declared.fuel.Fuel.{Fuel}
use Rattle.fact_kinds.specs.Kinds.{is_leaf}
use Rattle.fact_kinds.specs.Translations.{TranslatesAs, translates_first, translates_inside}
use Rattle.fact_kinds.proofs.Translating.{nothing_translated, then_behind, then_none}

-- of shapes that are these
pub translated_shapes : {t : Tables} {sides : Sides} {src : From} {dst : To} {before after : Fuel} {asks : List AskedHelper} {s s' u u' : Shape} → s ≡ s' → u ≡ u'
    → TranslatesAs t sides src dst before after asks (λ i r. translates_inside i r s' u') → TranslatesAs t sides src dst before after asks (λ i r. translates_inside i r s u)
translated_shapes {t} {sides} {src} {dst} {before} {after} {asks} {s} {s'} {u} {u'} is is' x =
    subst (λ s. TranslatesAs t sides src dst before after asks (λ i r. translates_inside i r s u)) (sym is)
    (subst (λ u. TranslatesAs t sides src dst before after asks (λ i r. translates_inside i r s' u)) (sym is') x)

-- ---- shapes without members

leaf_none : (i : ℕ) (r : Route) (s u : Shape) (n : ℕ) → is_leaf s ≡ true → translates_inside i r s u n ≡ translates_none n
leaf_none i r s (s_plain p) n e = refl
leaf_none i r (s_plain a) (s_node l ns) n e = refl
leaf_none i r (s_node k_flags ms) (s_node l ns) n e = refl
leaf_none i r (s_node k_enum ms) (s_node l ns) n e = refl
leaf_none i r (s_node (k_future t j) ms) (s_node l ns) n e = refl
leaf_none i r (s_node (k_stream t j) ms) (s_node l ns) n e = refl
leaf_none i r (s_node _ ms) (s_node l ns) n e = absurd (true≢false (sym e))

pub leaf_translated : {t : Tables} {sides : Sides} {src : From} {dst : To} {before : Fuel} (s u : Shape) → is_leaf s ≡ true → TranslatesAs t sides src dst before before [] (λ i r. translates_inside i r s u)
leaf_translated s u leaf = nothing_translated (λ i r n. leaf_none i r s u n leaf)

-- ---- members

-- a member of a name is the field of that name
pub named_found : (x : List ℕ) (ms : Members) (flats a b : ℕ) (f : Field) → find x ms flats a b ≡ Some f → named x ms ≡ Some f.shape
named_found x no_members flats a b f h = cc
named_found x (bare n ms) flats a b f h = named_found x ms flats a b f h
named_found x (typed n s ms) flats a b f h = go (bytes_eq n x) h (named_found x ms (flats + length (flat Memory32 s)) (next_of Memory32 s a) (next_of Memory64 s b) f)
  where
    here : Field
    here = record { shape = s; flat_place = flats; place32 = place_of Memory32 s a; place64 = place_of Memory64 s b }

    go : (q : Bool) → (if q then Some here else find x ms (flats + length (flat Memory32 s)) (next_of Memory32 s a) (next_of Memory64 s b)) ≡ Some f
        → (find x ms (flats + length (flat Memory32 s)) (next_of Memory32 s a) (next_of Memory64 s b) ≡ Some f → named x ms ≡ Some f.shape) → first_of q (Some s) (named x ms) ≡ Some f.shape
    go true h later = ap (λ (g : Field). Some g.shape) (same_some (Some here) here f refl h)
    go false h later = later h

-- the first member of a destination, and those behind it
pub fields_are : (i : ℕ) (r : Route) (ms : Members) (x : List ℕ) (s u : Shape) (more : Members) (n : ℕ) → named x ms ≡ Some s
    → translates_then (translates i r s u) (translates_fields i r ms more) n ≡ translates_fields i r ms (typed x u more) n
unfolding translates_fields
fields_are i r ms x s u more n e = ap (λ (o : Option Shape). translates_then (translates_if o (λ s m. translates i r s u m)) (λ m. translates_fields i r ms more m) n) (sym e)

pub no_fields : (i : ℕ) (r : Route) (ms : Members) (n : ℕ) → translates_fields i r ms no_members n ≡ translates_none n
unfolding translates_fields
no_fields i r ms n = refl

-- ---- elements and entries

pub single_is : (i : ℕ) (r : Route) (s u : Shape) (n : ℕ) → translates i r s u n ≡ translates_fields i r (typed [] s no_members) (typed [] u no_members) n
unfolding translates_fields
single_is i r s u n = sym (then_none (translates i r s u) n)

pub entry_members : (i : ℕ) (r : Route) (k v k' v' : Shape) (n : ℕ) → translates_then (translates i r k k') (translates i r v v') n ≡ translates_fields i r (typed (0 ∷ []) k (typed (1 ∷ []) v no_members)) (typed (0 ∷ []) k' (typed (1 ∷ []) v' no_members)) n
unfolding translates_fields
entry_members i r k v k' v' n = ap (asked_before (translates i r k k' n).asked) (sym (then_none (translates i r v v') (translates i r k k' n).left))

-- so many times, of the only member of a tuple
pub times_are : (i : ℕ) (r : Route) (s u : Shape) (k n : ℕ) → translates_times k (translates i r s u) n ≡ translates_times k (λ m. translates_fields i r (typed [] s no_members) (typed [] u no_members) m) n
times_are i r s u k n = λ j. translates_times k (λ m. single_is i r s u m j) n

-- ---- cases

abbrev case_of : List ℕ → Option Shape → CaseType
case_of x payload = record { name = x; payload = payload }

-- the cases before one, and that one
pub first_more : (k : ℕ) (ms : Members) (c : CaseType) (payload : List ℕ → Shape → Translating) (n : ℕ) → case_type ms k ≡ Some c
    → translates_then (translates_first k ms payload) (translates_if c.payload (payload c.name)) n ≡ translates_first (suc k) ms payload n
first_more k no_members c payload n h = cc
first_more zero (bare x ms) c payload n h =
    let is : case_of x None ≡ c = same_some (Some (case_of x None)) (case_of x None) c refl h in
    ap (λ (c : CaseType). translates_then translates_none (translates_if c.payload (payload c.name)) n) (sym is)
first_more zero (typed x s ms) c payload n h =
    let is : case_of x (Some s) ≡ c = same_some (Some (case_of x (Some s))) (case_of x (Some s)) c refl h in
    ap (λ (c : CaseType). translates_then translates_none (translates_if c.payload (payload c.name)) n) (sym is) ∙ sym (then_none (payload x s) n)
first_more (suc k) (bare x ms) c payload n h = first_more k ms c payload n h
first_more (suc k) (typed x s ms) c payload n h =
    then_behind (payload x s) (translates_first k ms payload) (translates_if c.payload (payload c.name)) n
    ∙ ap (asked_before (payload x s n).asked) (first_more k ms c payload (payload x s n).left h)

-- as many as there are
pub first_all : (k : ℕ) (ms : Members) (payload : List ℕ → Shape → Translating) (n : ℕ) → k ≡ count_of_members ms → translates_first k ms payload n ≡ translates_cases ms payload n
first_all zero no_members payload n e = refl
first_all (suc k) no_members payload n e = refl
first_all zero (bare x ms) payload n e = absurd (omega (arith, e))
first_all zero (typed x s ms) payload n e = absurd (omega (arith, e))
first_all (suc k) (bare x ms) payload n e = first_all k ms payload n (omega (arith, e))
first_all (suc k) (typed x s ms) payload n e = ap (asked_before (payload x s n).asked) (first_all k ms payload (payload x s n).left (omega (arith, e)))
