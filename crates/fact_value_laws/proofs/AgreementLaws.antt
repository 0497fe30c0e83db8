-- Agreement of types goes through a type between.
use Rattle.std.proofs.Common.{◌≡◌, ℕ, List, Option, Some, None, refl, sym, ap, ◌∙◌, subst}
use Rattle.std.specs.Prelude.{Bool, true, false}
use Rattle.std.specs.Str.{bytes_eq}
use Rattle.fact_entity.specs.declared.id.Id.{Id}
use Rattle.fact_entity.specs.declared.table.TypeResourceTables.{TypeResourceTables}
use Rattle.fact_entity.specs.declared.table.TypeComponentLocalErrorContextTables.{TypeComponentLocalErrorContextTables}
use Rattle.fact_types.specs.declared.interface.InterfaceType.{InterfaceType}
use Rattle.fact_types.specs.declared.interface.InterfaceType.TheVariants as ty
use Rattle.fact_types.specs.Agrees.{chosen, first_of, named, BothThere, AgreesPlain, AgreeFields, HaveSameNames, EachCase, Agrees, AgreesFields, AgreesCase, AgreesPlaces}
use Rattle.fact_types.specs.Shapes.{k_record, k_variant, k_list, k_tuple, k_map, k_flags, k_enum, k_option, k_result, k_fixed, k_future, k_stream, Shape, s_plain, s_node, Members, no_members, bare, typed}
use Rattle.fact_types.proofs.ShapeLaws.{same_some, none_some}
use Rattle.fact_values.proofs.CarryLaws.{record_source, tuple_source, list_source, map_source, fixed_source, flags_source, enum_source, variant_source, option_source, result_source, future_source, stream_source}
use Rattle.fact_values.proofs.IsALaws.{bytes_are}

-- ---- what is there
pub there : (o : Option Shape) (P : Shape → Type 0) → BothThere o P → (s : Shape) × (o ≡ Some s) × P s
there None P h = absurd h
there (Some s) P h = (s, refl, h)

-- ---- types without members

pub own_from : (i : Id TypeResourceTables) (s : Shape) → AgreesPlain (ty.Own i) s → (j : Id TypeResourceTables) × (s ≡ s_plain (ty.Own j))
own_from i (s_plain (ty.Own j)) a = (j, refl)
own_from i (s_plain p) a = (i, ap s_plain a)
own_from i (s_node k ms) a = absurd a

pub borrow_from : (i : Id TypeResourceTables) (s : Shape) → AgreesPlain (ty.Borrow i) s → (j : Id TypeResourceTables) × (s ≡ s_plain (ty.Borrow j))
borrow_from i (s_plain (ty.Borrow j)) a = (j, refl)
borrow_from i (s_plain p) a = (i, ap s_plain a)
borrow_from i (s_node k ms) a = absurd a

pub error_context_from : (i : Id TypeComponentLocalErrorContextTables) (s : Shape) → AgreesPlain (ty.ErrorContext i) s → (j : Id TypeComponentLocalErrorContextTables) × (s ≡ s_plain (ty.ErrorContext j))
error_context_from i (s_plain (ty.ErrorContext j)) a = (j, refl)
error_context_from i (s_plain p) a = (i, ap s_plain a)
error_context_from i (s_node k ms) a = absurd a

plain_agrees : (q : InterfaceType) (m s : Shape) → Agrees s m → AgreesPlain q m → AgreesPlain q s
plain_agrees (ty.Own i) m s g h =
    let (j, is) = own_from i m h in
    let (l, from) = own_from j s (subst (λ m. Agrees s m) is g) in
    subst (λ s. AgreesPlain (ty.Own i) s) (sym from) tt
plain_agrees (ty.Borrow i) m s g h =
    let (j, is) = borrow_from i m h in
    let (l, from) = borrow_from j s (subst (λ m. Agrees s m) is g) in
    subst (λ s. AgreesPlain (ty.Borrow i) s) (sym from) tt
plain_agrees (ty.ErrorContext i) m s g h =
    let (j, is) = error_context_from i m h in
    let (l, from) = error_context_from j s (subst (λ m. Agrees s m) is g) in
    subst (λ s. AgreesPlain (ty.ErrorContext i) s) (sym from) tt
plain_agrees q (s_plain p) s g h = subst (λ m. Agrees s m) (ap s_plain h) g
plain_agrees q (s_node k ms) s g h = absurd h

-- ---- members by name

-- a field of a type between, and the one of its name in the source
pub field_of : (ns ms : Members) (x : List ℕ) (d : Shape) → AgreesFields ms ns → named x ns ≡ Some d → BothThere (named x ms) (λ s. Agrees s d)
field_of no_members ms x d a e = absurd (none_some None d refl e)
field_of (bare y ns) ms x d a e = field_of ns ms x d a e
field_of (typed y z ns) ms x d a e = go (bytes_eq y x) refl e (λ e. field_of ns ms x d a.1 e)
  where
    go : (b : Bool) → bytes_eq y x ≡ b → first_of b (Some z) (named x ns) ≡ Some d → (named x ns ≡ Some d → BothThere (named x ms) (λ s. Agrees s d)) → BothThere (named x ms) (λ s. Agrees s d)
    go true q e f = subst (λ x. BothThere (named x ms) (λ s. Agrees s d)) (bytes_are y x q) (subst (λ z. BothThere (named y ms) (λ s. Agrees s z)) (same_some (Some z) z d refl e) a.0)
    go false q e f = f e

-- what is said of each case of a type between, of the first of a name
pub case_of : (ns : Members) (x : List ℕ) (p : Option Shape) (C : List ℕ → Option Shape → Type 0) → AgreesCase x p ns → EachCase ns C
    → (C x None → p ≡ None → C x p) → ((s d : Shape) → p ≡ Some s → Agrees s d → C x (Some d) → C x p) → C x p
case_of no_members x p C a c f g = absurd a
case_of (bare n ns) x p C a c f g = go (bytes_eq n x) refl a (λ a. case_of ns x p C a c.1 f g)
  where
    go : (b : Bool) → bytes_eq n x ≡ b → chosen b (p ≡ None) (AgreesCase x p ns) → (AgreesCase x p ns → C x p) → C x p
    go true q a h = f (subst (λ n. C n None) (bytes_are n x q) c.0) a
    go false q a h = h a
case_of (typed n d ns) x p C a c f g = go (bytes_eq n x) refl a (λ a. case_of ns x p C a c.1 f g)
  where
    go : (b : Bool) → bytes_eq n x ≡ b → chosen b (BothThere p (λ s. Agrees s d)) (AgreesCase x p ns) → (AgreesCase x p ns → C x p) → C x p
    go true q a h = let (s, is, agrees) = there p (λ s. Agrees s d) a in g s d is agrees (subst (λ n. C n (Some d)) (bytes_are n x q) c.0)
    go false q a h = h a

pub each_case : (ms : Members) (C D : List ℕ → Option Shape → Type 0) → ((x : List ℕ) (p : Option Shape) → C x p → D x p) → EachCase ms C → EachCase ms D
each_case no_members C D f c = tt
each_case (bare n ms) C D f c = (f n None c.0, each_case ms C D f c.1)
each_case (typed n s ms) C D f c = (f n (Some s) c.0, each_case ms C D f c.1)

-- ---- all types

mutual
  pub agrees_through : (d m s : Shape) → Agrees s m → Agrees m d → Agrees s d
  agrees_through (s_plain q) m s g h = plain_agrees q m s g h
  agrees_through (s_node k_record ks) m s g h =
      let (ns, is, on) = record_source ks (λ ms. AgreesFields ms ks) (λ x p. AgreesCase x p ks) (λ ms. AgreesPlaces ms ks) m h in
      let (ms, from, to) = record_source ns (λ ms. AgreesFields ms ns) (λ x p. AgreesCase x p ns) (λ ms. AgreesPlaces ms ns) s (subst (λ m. Agrees s m) is g) in
      let both : AgreeFields ms ks (AgreesFields ms ks) = record { fields = fields_through ks ns ms to.fields on.fields; names = λ x c. on.names x (to.names x c) } in
      subst (λ s. Agrees s (s_node k_record ks)) (sym from) both
  agrees_through (s_node k_tuple ks) m s g h =
      let (ns, is, on) = tuple_source ks (λ ms. AgreesFields ms ks) (λ x p. AgreesCase x p ks) (λ ms. AgreesPlaces ms ks) m h in
      let (ms, from, to) = tuple_source ns (λ ms. AgreesFields ms ns) (λ x p. AgreesCase x p ns) (λ ms. AgreesPlaces ms ns) s (subst (λ m. Agrees s m) is g) in
      subst (λ s. Agrees s (s_node k_tuple ks)) (sym from) (places_through ks ns ms to on)
  agrees_through (s_node k_list ks) m s g h =
      let (ns, is, on) = list_source ks (λ ms. AgreesFields ms ks) (λ x p. AgreesCase x p ks) (λ ms. AgreesPlaces ms ks) m h in
      let (ms, from, to) = list_source ns (λ ms. AgreesFields ms ns) (λ x p. AgreesCase x p ns) (λ ms. AgreesPlaces ms ns) s (subst (λ m. Agrees s m) is g) in
      subst (λ s. Agrees s (s_node k_list ks)) (sym from) (places_through ks ns ms to on)
  agrees_through (s_node k_map ks) m s g h =
      let (ns, is, on) = map_source ks (λ ms. AgreesFields ms ks) (λ x p. AgreesCase x p ks) (λ ms. AgreesPlaces ms ks) m h in
      let (ms, from, to) = map_source ns (λ ms. AgreesFields ms ns) (λ x p. AgreesCase x p ns) (λ ms. AgreesPlaces ms ns) s (subst (λ m. Agrees s m) is g) in
      subst (λ s. Agrees s (s_node k_map ks)) (sym from) (places_through ks ns ms to on)
  agrees_through (s_node (k_fixed c) ks) m s g h =
      let (b, ns, is, e, on) = fixed_source ks (λ ms. AgreesFields ms ks) (λ x p. AgreesCase x p ks) (λ ms. AgreesPlaces ms ks) c m h in
      let (a, ms, from, f, to) = fixed_source ns (λ ms. AgreesFields ms ns) (λ x p. AgreesCase x p ns) (λ ms. AgreesPlaces ms ns) b s (subst (λ m. Agrees s m) is g) in
      subst (λ s. Agrees s (s_node (k_fixed c) ks)) (sym from) (f ∙ e, places_through ks ns ms to on)
  agrees_through (s_node k_flags ks) m s g h =
      let (ns, is, on) = flags_source ks (λ ms. AgreesFields ms ks) (λ x p. AgreesCase x p ks) (λ ms. AgreesPlaces ms ks) m h in
      let (ms, from, to) = flags_source ns (λ ms. AgreesFields ms ns) (λ x p. AgreesCase x p ns) (λ ms. AgreesPlaces ms ns) s (subst (λ m. Agrees s m) is g) in
      let both : HaveSameNames ms ks = record { given = λ x c. on.given x (to.given x c); asked = λ x c. to.asked x (on.asked x c) } in
      subst (λ s. Agrees s (s_node k_flags ks)) (sym from) both
  agrees_through (s_node k_enum ks) m s g h =
      let (ns, is, on) = enum_source ks (λ ms. AgreesFields ms ks) (λ x p. AgreesCase x p ks) (λ ms. AgreesPlaces ms ks) m h in
      let (ms, from, to) = enum_source ns (λ ms. AgreesFields ms ns) (λ x p. AgreesCase x p ns) (λ ms. AgreesPlaces ms ns) s (subst (λ m. Agrees s m) is g) in
      subst (λ s. Agrees s (s_node k_enum ks)) (sym from) (to ∙ on)
  agrees_through (s_node k_variant ks) m s g h =
      let (ns, is, on) = variant_source ks (λ ms. AgreesFields ms ks) (λ x p. AgreesCase x p ks) (λ ms. AgreesPlaces ms ks) m h in
      let (ms, from, to) = variant_source ns (λ ms. AgreesFields ms ns) (λ x p. AgreesCase x p ns) (λ ms. AgreesPlaces ms ns) s (subst (λ m. Agrees s m) is g) in
      subst (λ s. Agrees s (s_node k_variant ks)) (sym from) (each_case ms (λ x p. AgreesCase x p ns) (λ x p. AgreesCase x p ks) (λ x p a. case_of ns x p (λ x p. AgreesCase x p ks) a on (λ c e. subst (λ p. AgreesCase x p ks) (sym e) c)
      (λ s d e agrees c. subst (λ p. AgreesCase x p ks) (sym e) (case_through ks x d s agrees c))) to)
  agrees_through (s_node k_option ks) m s g h =
      let (ns, is, on) = option_source ks (λ ms. AgreesFields ms ks) (λ x p. AgreesCase x p ks) (λ ms. AgreesPlaces ms ks) m h in
      let (ms, from, to) = option_source ns (λ ms. AgreesFields ms ns) (λ x p. AgreesCase x p ns) (λ ms. AgreesPlaces ms ns) s (subst (λ m. Agrees s m) is g) in
      subst (λ s. Agrees s (s_node k_option ks)) (sym from) (places_through ks ns ms to on)
  agrees_through (s_node k_result ks) m s g h =
      let (ns, is, on) = result_source ks (λ ms. AgreesFields ms ks) (λ x p. AgreesCase x p ks) (λ ms. AgreesPlaces ms ks) m h in
      let (ms, from, to) = result_source ns (λ ms. AgreesFields ms ns) (λ x p. AgreesCase x p ns) (λ ms. AgreesPlaces ms ns) s (subst (λ m. Agrees s m) is g) in
      subst (λ s. Agrees s (s_node k_result ks)) (sym from) (places_through ks ns ms to on)
  agrees_through (s_node (k_future t i) ks) m s g h =
      let (u, j, ns, is) = future_source ks (λ ms. AgreesFields ms ks) (λ x p. AgreesCase x p ks) (λ ms. AgreesPlaces ms ks) t i m h in
      let (w, l, ms, from) = future_source ns (λ ms. AgreesFields ms ns) (λ x p. AgreesCase x p ns) (λ ms. AgreesPlaces ms ns) u j s (subst (λ m. Agrees s m) is g) in
      subst (λ s. Agrees s (s_node (k_future t i) ks)) (sym from) tt
  agrees_through (s_node (k_stream t i) ks) m s g h =
      let (u, j, ns, is) = stream_source ks (λ ms. AgreesFields ms ks) (λ x p. AgreesCase x p ks) (λ ms. AgreesPlaces ms ks) t i m h in
      let (w, l, ms, from) = stream_source ns (λ ms. AgreesFields ms ns) (λ x p. AgreesCase x p ns) (λ ms. AgreesPlaces ms ns) u j s (subst (λ m. Agrees s m) is g) in
      subst (λ s. Agrees s (s_node (k_stream t i) ks)) (sym from) tt

  fields_through : (ks ns ms : Members) → AgreesFields ms ns → AgreesFields ns ks → AgreesFields ms ks
  fields_through no_members ns ms g h = tt
  fields_through (bare x ks) ns ms g h = fields_through ks ns ms g h
  fields_through (typed x d ks) ns ms g h =
      let (m, at, on) = there (named x ns) (λ s. Agrees s d) h.0 in
      let (s, from, to) = there (named x ms) (λ s. Agrees s m) (field_of ns ms x m g at) in
      (subst (λ o. BothThere o (λ s. Agrees s d)) (sym from) (agrees_through d m s to on), fields_through ks ns ms g h.1)

  case_through : (ks : Members) (x : List ℕ) (m s : Shape) → Agrees s m → AgreesCase x (Some m) ks → AgreesCase x (Some s) ks
  case_through no_members x m s g a = absurd a
  case_through (bare n ks) x m s g a = go (bytes_eq n x) a (λ a. case_through ks x m s g a)
    where
      go : (b : Bool) → chosen b (◌≡◌ {A = Option Shape} (Some m) None) (AgreesCase x (Some m) ks) → (AgreesCase x (Some m) ks → AgreesCase x (Some s) ks) → chosen b (◌≡◌ {A = Option Shape} (Some s) None) (AgreesCase x (Some s) ks)
      go true a f = absurd (none_some (Some m) m a refl)
      go false a f = f a
  case_through (typed n d ks) x m s g a = go (bytes_eq n x) a (λ on. agrees_through d m s g on) (λ a. case_through ks x m s g a)
    where
      go : (b : Bool) → chosen b (Agrees m d) (AgreesCase x (Some m) ks) → (Agrees m d → Agrees s d) → (AgreesCase x (Some m) ks → AgreesCase x (Some s) ks) → chosen b (Agrees s d) (AgreesCase x (Some s) ks)
      go true a h f = h a
      go false a h f = f a

  pub places_through : (ks ns ms : Members) → AgreesPlaces ms ns → AgreesPlaces ns ks → AgreesPlaces ms ks
  places_through no_members no_members no_members g h = tt
  places_through no_members no_members ms g h = absurd g
  places_through (bare n ks) (bare m ns) (bare l ms) g h = places_through ks ns ms g h
  places_through (bare n ks) (bare m ns) ms g h = absurd g
  places_through (typed n d ks) (typed m b ns) (typed l s ms) g h = (agrees_through d b s g.0 h.0, places_through ks ns ms g.1 h.1)
  places_through (typed n d ks) (typed m b ns) ms g h = absurd g
  places_through ks ns ms g h = absurd h
