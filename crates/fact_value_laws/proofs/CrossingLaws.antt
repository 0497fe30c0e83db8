-- A value that crossed to a type between crosses from there on as it would directly.
use Rattle.std.proofs.Common.{◌≡◌, ℕ, inl, inr, List, [], ◌∷◌, Option, Some, None, refl, sym, ap, ◌∙◌, subst}
use Rattle.std.specs.Prelude.{Bool, true, false, if◌then◌else◌, slice_get}
use Rattle.std.specs.List.{zip}
use Rattle.std.specs.Str.{bytes_eq}
use Rattle.fact_types.specs.declared.interface.InterfaceType.{InterfaceType}
use Rattle.fact_types.specs.declared.interface.InterfaceType.TheVariants as ty
use Rattle.fact_types.specs.Agrees.{chosen, names_of, named, BothThere, AgreesPlain, Agrees, AgreesFields, AgreesCase, AgreesPlaces}
use Rattle.fact_types.specs.Shapes.{k_record, k_variant, k_list, k_tuple, k_map, k_flags, k_enum, k_option, k_result, k_fixed, k_future, k_stream, Shape, s_plain, s_node, Members, no_members, bare, typed}
use Rattle.fact_types.proofs.ShapeLaws.{same_some, none_some}
use Rattle.fact_values.specs.declared.value.HandleKind.{HandleKind}
use Rattle.fact_values.specs.declared.value.HandleKind.TheVariants.{Own, Borrow, Future, Stream, ErrorContext}
use Rattle.fact_values.specs.declared.value.Value.{Value, out-Value}
use Rattle.fact_values.specs.declared.value.Value.TheVariants as value
use Rattle.fact_values.specs.Formed.{IsFormed, AreFormed}
use Rattle.fact_values.specs.Handles.{Crossing, Step, Asked, done_step, then_step, given, each_step, members_of, table_number_of, value_named, flags_named, only, cross_handle, cross_plain, cross_flags, cross, cross_fields, cross_case, cross_places, cross_element}
use Rattle.fact_values.specs.Load.{entry_of}
use Rattle.fact_values.specs.Numbers.{plain_of}
use Rattle.fact_values.specs.Opened.{fields_in, members_in, elements_in, flags_in, map_entries_in, CaseOf, case_in, number_of_handle}
use Rattle.fact_values.specs.Places.{typed_names}
use Rattle.fact_values.proofs.CarryLaws.{record_source, tuple_source, list_source, map_source, fixed_source, flags_source, enum_source, variant_source, option_source, result_source, future_source, stream_source}
use Rattle.fact_value_laws.proofs.AgreementLaws.{there, own_from, borrow_from, error_context_from}
use Rattle.fact_value_laws.proofs.CaseLaws.{named_formed, field_came, name_at, flags_again, CaseCame, case_came, case_came_at, bare_places}
use Rattle.fact_value_laws.proofs.PassingLaws.{Came, came_done, came_given, nothing_came, came_then, Same, same_then, same_given, same_each}

-- Answers that go by the kind of a handle and its table in the destination alone.
abbrev pub IsBlind : {T : Type 0} → Asked T → Type 0
IsBlind {T} answer = (c e : Crossing) → c.kind ≡ e.kind → c.to ≡ e.to → (t : T) → answer c t ≡ answer e t

module _ {S T : Type 0} (ask : Asked S) (answer : Asked T) (blind : IsBlind answer) where
  -- ---- types without members

  handle_through : (kind : HandleKind) (from to p q r : ℕ) (v u : Value) → Came (cross_handle ask kind from to v) u → Same (cross_handle answer kind p r u) (cross_handle answer kind q r v)
  handle_through kind from to p q r v u c =
      let (n, held, c1) = came_given (number_of_handle (out-Value v)) (λ n. then_step (ask (record { kind = kind; number = n; from = from; to = to })) (λ m. done_step (value.Handle kind to m))) u c in
      let (m, asked, c2) = came_then (ask (record { kind = kind; number = n; from = from; to = to })) (λ m. done_step (value.Handle kind to m)) u c1 in
      same_given (number_of_handle (out-Value u)) m (number_of_handle (out-Value v)) n
      (λ n. then_step (answer (record { kind = kind; number = n; from = p; to = r })) (λ m. done_step (value.Handle kind r m)))
      (λ n. then_step (answer (record { kind = kind; number = n; from = q; to = r })) (λ m. done_step (value.Handle kind r m)))
      (ap (λ u. number_of_handle (out-Value u)) (sym (came_done (value.Handle kind to m) u c2)) ∙ ap number_of_handle (value.outs-Handle kind to m)) held
      (same_then (answer (record { kind = kind; number = m; from = p; to = r })) (answer (record { kind = kind; number = n; from = q; to = r })) (λ m. done_step (value.Handle kind r m)) (λ m. done_step (value.Handle kind r m))
      (blind (record { kind = kind; number = m; from = p; to = r }) (record { kind = kind; number = n; from = q; to = r }) refl refl) (λ m t. refl))

  plain_through : (q : InterfaceType) (m s : Shape) (v u : Value) → AgreesPlain q m → Came (cross ask s m v) u → Same (cross_plain answer (table_number_of m) (plain_of q) u) (cross_plain answer (table_number_of s) (plain_of q) v)
  unfolding cross
  plain_through (ty.Own i) m s v u h c =
      let (j, is) = own_from i m h in
      handle_through Own (table_number_of s) j.number (table_number_of m) (table_number_of s) i.number v u (subst (λ m. Came (cross ask s m v) u) is c)
  plain_through (ty.Borrow i) m s v u h c =
      let (j, is) = borrow_from i m h in
      handle_through Borrow (table_number_of s) j.number (table_number_of m) (table_number_of s) i.number v u (subst (λ m. Came (cross ask s m v) u) is c)
  plain_through (ty.ErrorContext i) m s v u h c =
      let (j, is) = error_context_from i m h in
      handle_through ErrorContext (table_number_of s) j.number (table_number_of m) (table_number_of s) i.number v u (subst (λ m. Came (cross ask s m v) u) is c)
  plain_through q (s_plain p) s v u h c =
      let e : v ≡ u = came_done v u (subst (λ p. Came (cross ask s (s_plain p) v) u) h c) in
      λ t. ap (λ w. Some (w, t)) (sym e)
  plain_through q (s_node k ms) s v u h c = absurd h

  -- ---- kinds of types, where their members cross

  record_through : (ms ns ks : Members) (v u : Value) → Came (given (fields_in (out-Value v)) (λ fs. then_step (cross_fields ask ms fs ns) (λ us. done_step (value.Record (zip (typed_names ns) us))))) u
      → ((fs : List (List ℕ × Value)) (us : List Value) → Came (cross_fields ask ms fs ns) us → Same (cross_fields answer ns (zip (typed_names ns) us) ks) (cross_fields answer ms fs ks))
      → Same (given (fields_in (out-Value u)) (λ fs. then_step (cross_fields answer ns fs ks) (λ us. done_step (value.Record (zip (typed_names ks) us)))))
      (given (fields_in (out-Value v)) (λ fs. then_step (cross_fields answer ms fs ks) (λ us. done_step (value.Record (zip (typed_names ks) us)))))
  record_through ms ns ks v u c f =
      let (fs, held, c1) = came_given (fields_in (out-Value v)) (λ fs. then_step (cross_fields ask ms fs ns) (λ us. done_step (value.Record (zip (typed_names ns) us)))) u c in
      let (us, came, c2) = came_then (cross_fields ask ms fs ns) (λ us. done_step (value.Record (zip (typed_names ns) us))) u c1 in
      same_given (fields_in (out-Value u)) (zip (typed_names ns) us) (fields_in (out-Value v)) fs
      (λ fs. then_step (cross_fields answer ns fs ks) (λ us. done_step (value.Record (zip (typed_names ks) us)))) (λ fs. then_step (cross_fields answer ms fs ks) (λ us. done_step (value.Record (zip (typed_names ks) us))))
      (ap (λ u. fields_in (out-Value u)) (sym (came_done (value.Record (zip (typed_names ns) us)) u c2)) ∙ ap fields_in (value.outs-Record (zip (typed_names ns) us))) held
      (same_then (cross_fields answer ns (zip (typed_names ns) us) ks) (cross_fields answer ms fs ks) (λ us. done_step (value.Record (zip (typed_names ks) us))) (λ us. done_step (value.Record (zip (typed_names ks) us))) (f fs us came) (λ us t. refl))

  tuple_through : (ms ns ks : Members) (v u : Value) → Came (given (members_in (out-Value v)) (λ vs. then_step (cross_places ask ms vs ns) (λ us. done_step (value.Tuple us)))) u
      → ((vs us : List Value) → Came (cross_places ask ms vs ns) us → Same (cross_places answer ns us ks) (cross_places answer ms vs ks))
      → Same (given (members_in (out-Value u)) (λ vs. then_step (cross_places answer ns vs ks) (λ us. done_step (value.Tuple us))))
      (given (members_in (out-Value v)) (λ vs. then_step (cross_places answer ms vs ks) (λ us. done_step (value.Tuple us))))
  tuple_through ms ns ks v u c f =
      let (vs, held, c1) = came_given (members_in (out-Value v)) (λ vs. then_step (cross_places ask ms vs ns) (λ us. done_step (value.Tuple us))) u c in
      let (us, came, c2) = came_then (cross_places ask ms vs ns) (λ us. done_step (value.Tuple us)) u c1 in
      same_given (members_in (out-Value u)) us (members_in (out-Value v)) vs
      (λ vs. then_step (cross_places answer ns vs ks) (λ us. done_step (value.Tuple us))) (λ vs. then_step (cross_places answer ms vs ks) (λ us. done_step (value.Tuple us)))
      (ap (λ u. members_in (out-Value u)) (sym (came_done (value.Tuple us) u c2)) ∙ ap members_in (value.outs-Tuple us)) held
      (same_then (cross_places answer ns us ks) (cross_places answer ms vs ks) (λ us. done_step (value.Tuple us)) (λ us. done_step (value.Tuple us)) (f vs us came) (λ us t. refl))

  list_through : (ms ns ks : Members) (v u : Value) → Came (given (elements_in (out-Value v)) (λ vs. then_step (each_step (λ w. cross_element ask ms w ns) vs) (λ us. done_step (value.List us)))) u
      → ((w x : Value) → Came (cross_element ask ms w ns) x → Same (cross_element answer ns x ks) (cross_element answer ms w ks))
      → Same (given (elements_in (out-Value u)) (λ vs. then_step (each_step (λ w. cross_element answer ns w ks) vs) (λ us. done_step (value.List us))))
      (given (elements_in (out-Value v)) (λ vs. then_step (each_step (λ w. cross_element answer ms w ks) vs) (λ us. done_step (value.List us))))
  list_through ms ns ks v u c f =
      let (vs, held, c1) = came_given (elements_in (out-Value v)) (λ vs. then_step (each_step (λ w. cross_element ask ms w ns) vs) (λ us. done_step (value.List us))) u c in
      let (us, came, c2) = came_then (each_step (λ w. cross_element ask ms w ns) vs) (λ us. done_step (value.List us)) u c1 in
      same_given (elements_in (out-Value u)) us (elements_in (out-Value v)) vs
      (λ vs. then_step (each_step (λ w. cross_element answer ns w ks) vs) (λ us. done_step (value.List us))) (λ vs. then_step (each_step (λ w. cross_element answer ms w ks) vs) (λ us. done_step (value.List us)))
      (ap (λ u. elements_in (out-Value u)) (sym (came_done (value.List us) u c2)) ∙ ap elements_in (value.outs-List us)) held
      (same_then (each_step (λ w. cross_element answer ns w ks) us) (each_step (λ w. cross_element answer ms w ks) vs) (λ us. done_step (value.List us)) (λ us. done_step (value.List us))
      (same_each (λ w. cross_element ask ms w ns) (λ w. cross_element answer ns w ks) (λ w. cross_element answer ms w ks) f vs us came) (λ us t. refl))

  -- an entry of a map
  entry_step : {R : Type 0} → Asked R → Members → Members → Value × Value → Step R (Value × Value)
  entry_step a ms ns e = then_step (cross_places a ms (e.0 ∷ e.1 ∷ []) ns) (λ us. given (entry_of us) done_step)

  entry_is : (us : List Value) (e : Value × Value) → entry_of us ≡ Some e → us ≡ e.0 ∷ e.1 ∷ []
  entry_is [] e h = absurd (none_some None e refl h)
  entry_is (k ∷ []) e h = absurd (none_some None e refl h)
  entry_is (k ∷ w ∷ []) e h = ap (λ (e : Value × Value). e.0 ∷ e.1 ∷ []) (same_some (Some (k, w)) (k, w) e refl h)
  entry_is (k ∷ w ∷ u ∷ us) e h = absurd (none_some None e refl h)

  entry_through : (ms ns ks : Members) → ((vs us : List Value) → Came (cross_places ask ms vs ns) us → Same (cross_places answer ns us ks) (cross_places answer ms vs ks))
      → (e x : Value × Value) → Came (entry_step ask ms ns e) x → Same (entry_step answer ns ks x) (entry_step answer ms ks e)
  unfolding entry_step
  entry_through ms ns ks f e x c =
      let (us, came, c1) = came_then (cross_places ask ms (e.0 ∷ e.1 ∷ []) ns) (λ us. given (entry_of us) done_step) x c in
      let (y, is, c2) = came_given (entry_of us) done_step x c1 in
      let same : us ≡ x.0 ∷ x.1 ∷ [] = entry_is us x (is ∙ ap Some (came_done y x c2)) in
      same_then (cross_places answer ns (x.0 ∷ x.1 ∷ []) ks) (cross_places answer ms (e.0 ∷ e.1 ∷ []) ks) (λ us. given (entry_of us) done_step) (λ us. given (entry_of us) done_step)
      (f (e.0 ∷ e.1 ∷ []) (x.0 ∷ x.1 ∷ []) (subst (λ us. Came (cross_places ask ms (e.0 ∷ e.1 ∷ []) ns) us) same came)) (λ us t. refl)

  map_through : (ms ns ks : Members) (v u : Value) → Came (given (map_entries_in (out-Value v)) (λ es. then_step (each_step (λ e. then_step (cross_places ask ms (e.0 ∷ e.1 ∷ []) ns) (λ us. given (entry_of us) done_step)) es) (λ fs. done_step (value.Map fs)))) u
      → ((vs us : List Value) → Came (cross_places ask ms vs ns) us → Same (cross_places answer ns us ks) (cross_places answer ms vs ks))
      → Same (given (map_entries_in (out-Value u)) (λ es. then_step (each_step (λ e. then_step (cross_places answer ns (e.0 ∷ e.1 ∷ []) ks) (λ us. given (entry_of us) done_step)) es) (λ fs. done_step (value.Map fs))))
      (given (map_entries_in (out-Value v)) (λ es. then_step (each_step (λ e. then_step (cross_places answer ms (e.0 ∷ e.1 ∷ []) ks) (λ us. given (entry_of us) done_step)) es) (λ fs. done_step (value.Map fs))))
  unfolding entry_step
  map_through ms ns ks v u c f =
      let (es, held, c1) = came_given (map_entries_in (out-Value v)) (λ es. then_step (each_step (entry_step ask ms ns) es) (λ fs. done_step (value.Map fs))) u c in
      let (fs, came, c2) = came_then (each_step (entry_step ask ms ns) es) (λ fs. done_step (value.Map fs)) u c1 in
      same_given (map_entries_in (out-Value u)) fs (map_entries_in (out-Value v)) es
      (λ es. then_step (each_step (entry_step answer ns ks) es) (λ fs. done_step (value.Map fs))) (λ es. then_step (each_step (entry_step answer ms ks) es) (λ fs. done_step (value.Map fs)))
      (ap (λ u. map_entries_in (out-Value u)) (sym (came_done (value.Map fs) u c2)) ∙ ap map_entries_in (value.outs-Map fs)) held
      (same_then (each_step (entry_step answer ns ks) fs) (each_step (entry_step answer ms ks) es) (λ fs. done_step (value.Map fs)) (λ fs. done_step (value.Map fs))
      (same_each (entry_step ask ms ns) (entry_step answer ns ks) (entry_step answer ms ks) (entry_through ms ns ks f) es fs came) (λ fs t. refl))

  -- each flag of the destination is one of the type between
  flags_through : (ns ks : Members) (v u : Value) → ((i : ℕ) (y : List ℕ) → slice_get (names_of ks) i ≡ Some y → (j : ℕ) × (slice_get (names_of ns) j ≡ Some y)) → Came (cross_flags {S = S} ns v) u → Same {S = T} (cross_flags ks u) (cross_flags ks v)
  flags_through ns ks v u h c =
      let (fs, held, c1) = came_given (flags_in (out-Value v)) (λ fs. given (flags_named (names_of ns) fs) (λ gs. done_step (value.Flags gs))) u c in
      let (gs, found, c2) = came_given (flags_named (names_of ns) fs) (λ gs. done_step (value.Flags gs)) u c1 in
      same_given (flags_in (out-Value u)) gs (flags_in (out-Value v)) fs
      (λ fs. given (flags_named (names_of ks) fs) (λ gs. done_step (value.Flags gs))) (λ fs. given (flags_named (names_of ks) fs) (λ gs. done_step (value.Flags gs)))
      (ap (λ u. flags_in (out-Value u)) (sym (came_done (value.Flags gs) u c2)) ∙ ap flags_in (value.outs-Flags gs)) held
      (λ t. ap (λ o. given o (λ gs. done_step (value.Flags gs)) t) (flags_again (names_of ks) (names_of ns) fs gs found h))

  -- ---- cases

  bare_through : (ks : Members) (x : List ℕ) (p q : Option Shape) (vs ws : List Value) → AgreesCase x None ks → Same (cross_case answer p x vs ks) (cross_case answer q x ws ks)
  unfolding cross
  bare_through no_members x p q vs ws a t = absurd a
  bare_through (bare n ks) x p q vs ws a t = go (bytes_eq n x) a (λ a. bare_through ks x p q vs ws a t)
    where
      go : (b : Bool) → chosen b (◌≡◌ {A = Option Shape} None None) (AgreesCase x None ks) → (AgreesCase x None ks → cross_case answer p x vs ks t ≡ cross_case answer q x ws ks t)
          → (if b then done_step (value.Case n []) else cross_case answer p x vs ks) t ≡ (if b then done_step (value.Case n []) else cross_case answer q x ws ks) t
      go true a f = refl
      go false a f = f a
  bare_through (typed n d ks) x p q vs ws a t = go (bytes_eq n x) a (λ a. bare_through ks x p q vs ws a t)
    where
      go : (b : Bool) → chosen b (BothThere None (λ s. Agrees s d)) (AgreesCase x None ks) → (AgreesCase x None ks → cross_case answer p x vs ks t ≡ cross_case answer q x ws ks t)
          → (if b then given p (λ s. given (only vs) (λ v. then_step (cross answer s d v) (λ u. done_step (value.Case n (u ∷ []))))) else cross_case answer p x vs ks) t
          ≡ (if b then given q (λ s. given (only ws) (λ v. then_step (cross answer s d v) (λ u. done_step (value.Case n (u ∷ []))))) else cross_case answer q x ws ks) t
      go true a f = absurd a
      go false a f = f a

  -- the payload of a case crosses from a type between, or directly
  typed_case_through : (n x : List ℕ) (m s d : Shape) (w v : Value) (vs : List Value) (ks : Members) → only vs ≡ Some v → (b : Bool) → chosen b (Agrees m d) (AgreesCase x (Some m) ks)
      → (Agrees m d → Same (cross answer m d w) (cross answer s d v)) → (AgreesCase x (Some m) ks → Same (cross_case answer (Some m) x (w ∷ []) ks) (cross_case answer (Some s) x vs ks))
      → Same (if b then then_step (cross answer m d w) (λ u. done_step (value.Case n (u ∷ []))) else cross_case answer (Some m) x (w ∷ []) ks)
      (if b then given (only vs) (λ v. then_step (cross answer s d v) (λ u. done_step (value.Case n (u ∷ [])))) else cross_case answer (Some s) x vs ks)
  typed_case_through n x m s d w v vs ks e true a f g = λ t.
      same_then (cross answer m d w) (cross answer s d v) (λ u. done_step (value.Case n (u ∷ []))) (λ u. done_step (value.Case n (u ∷ []))) (f a) (λ u t. refl) t
      ∙ sym (ap (λ o. given o (λ v. then_step (cross answer s d v) (λ u. done_step (value.Case n (u ∷ [])))) t) e)
  typed_case_through n x m s d w v vs ks e false a f g = g a

  case_value_through : (ms ns ks : Members) (v u : Value) → Came (given (case_in (out-Value v)) (λ c. cross_case ask (named c.name ms) c.name c.payload ns)) u
      → ((x : List ℕ) (vs : List Value) → Came (cross_case ask (named x ms) x vs ns) u → CaseCame ask (named x ms) x vs ns u (λ x p. AgreesCase x p ks))
      → ((x : List ℕ) (m s : Shape) (w v : Value) (vs : List Value) → IsFormed m → only vs ≡ Some v → Came (cross ask s m v) w → AgreesCase x (Some m) ks → Same (cross_case answer (Some m) x (w ∷ []) ks) (cross_case answer (Some s) x vs ks))
      → Same (given (case_in (out-Value u)) (λ c. cross_case answer (named c.name ns) c.name c.payload ks)) (given (case_in (out-Value v)) (λ c. cross_case answer (named c.name ms) c.name c.payload ks))
  case_value_through ms ns ks v u c f g =
      let (x, held, c1) = came_given (case_in (out-Value v)) (λ c. cross_case ask (named c.name ms) c.name c.payload ns) u c in
      go x held (f x.name x.payload c1)
    where
      case_held : (x : List ℕ) (ws : List Value) → u ≡ value.Case x ws → case_in (out-Value u) ≡ Some (record { name = x; payload = ws })
      case_held x ws e = ap (λ u. case_in (out-Value u)) e ∙ ap case_in (value.outs-Case x ws)

      go : (x : CaseOf) → case_in (out-Value v) ≡ Some x → CaseCame ask (named x.name ms) x.name x.payload ns u (λ x p. AgreesCase x p ks)
          → Same (given (case_in (out-Value u)) (λ c. cross_case answer (named c.name ns) c.name c.payload ks)) (given (case_in (out-Value v)) (λ c. cross_case answer (named c.name ms) c.name c.payload ks))
      go x held (inl (e, a)) =
          same_given (case_in (out-Value u)) (record { name = x.name; payload = [] }) (case_in (out-Value v)) x (λ c. cross_case answer (named c.name ns) c.name c.payload ks) (λ c. cross_case answer (named c.name ms) c.name c.payload ks)
          (case_held x.name [] e) held (bare_through ks x.name (named x.name ns) (named x.name ms) [] x.payload a)
      go x held (inr r) =
          same_given (case_in (out-Value u)) (record { name = x.name; payload = r.behind ∷ [] }) (case_in (out-Value v)) x (λ c. cross_case answer (named c.name ns) c.name c.payload ks) (λ c. cross_case answer (named c.name ms) c.name c.payload ks)
          (case_held x.name (r.behind ∷ []) r.is) held
          (λ t. ap (λ o. cross_case answer o x.name (r.behind ∷ []) ks t) r.to ∙ g x.name r.type r.source r.behind r.before x.payload r.formed r.was r.came r.holds t ∙ sym (ap (λ o. cross_case answer o x.name x.payload ks t) r.from))

  -- ---- all types

  mutual
    unfolding cross

    pub through : (d m s : Shape) (v u : Value) → IsFormed m → IsFormed d → Agrees m d → Came (cross ask s m v) u → Same (cross answer m d u) (cross answer s d v)
    through (s_plain q) m s v u km kd h c = plain_through q m s v u h c
    through (s_node k_record ks) m s v u km kd h c =
        let (ns, is, agree) = record_source ks (λ ms. AgreesFields ms ks) (λ x p. AgreesCase x p ks) (λ ms. AgreesPlaces ms ks) m h in
        subst (λ m. IsFormed m → Came (cross ask s m v) u → Same (cross answer m (s_node k_record ks) u) (cross answer s (s_node k_record ks) v)) (sym is)
        (λ km c. record_through (members_of s) ns ks v u c (λ fs us came. fields_through ks ns (members_of s) fs us km.1 kd.1 agree.fields came)) km c
    through (s_node k_tuple ks) m s v u km kd h c =
        let (ns, is, agree) = tuple_source ks (λ ms. AgreesFields ms ks) (λ x p. AgreesCase x p ks) (λ ms. AgreesPlaces ms ks) m h in
        subst (λ m. IsFormed m → Came (cross ask s m v) u → Same (cross answer m (s_node k_tuple ks) u) (cross answer s (s_node k_tuple ks) v)) (sym is)
        (λ km c. tuple_through (members_of s) ns ks v u c (λ vs us came. places_through ks ns (members_of s) vs us km.1 kd.1 agree came)) km c
    through (s_node k_list ks) m s v u km kd h c =
        let (ns, is, agree) = list_source ks (λ ms. AgreesFields ms ks) (λ x p. AgreesCase x p ks) (λ ms. AgreesPlaces ms ks) m h in
        subst (λ m. IsFormed m → Came (cross ask s m v) u → Same (cross answer m (s_node k_list ks) u) (cross answer s (s_node k_list ks) v)) (sym is)
        (λ km c. list_through (members_of s) ns ks v u c (λ w x came. element_through ks ns (members_of s) w x km.1 kd.1 agree came)) km c
    through (s_node (k_fixed l) ks) m s v u km kd h c =
        let (n, ns, is, e, agree) = fixed_source ks (λ ms. AgreesFields ms ks) (λ x p. AgreesCase x p ks) (λ ms. AgreesPlaces ms ks) l m h in
        subst (λ m. IsFormed m → Came (cross ask s m v) u → Same (cross answer m (s_node (k_fixed l) ks) u) (cross answer s (s_node (k_fixed l) ks) v)) (sym is)
        (λ km c. list_through (members_of s) ns ks v u c (λ w x came. element_through ks ns (members_of s) w x km.1 kd.1 agree came)) km c
    through (s_node k_map ks) m s v u km kd h c =
        let (ns, is, agree) = map_source ks (λ ms. AgreesFields ms ks) (λ x p. AgreesCase x p ks) (λ ms. AgreesPlaces ms ks) m h in
        subst (λ m. IsFormed m → Came (cross ask s m v) u → Same (cross answer m (s_node k_map ks) u) (cross answer s (s_node k_map ks) v)) (sym is)
        (λ km c. map_through (members_of s) ns ks v u c (λ vs us came. places_through ks ns (members_of s) vs us km.1 kd.1 agree came)) km c
    through (s_node k_flags ks) m s v u km kd h c =
        let (ns, is, agree) = flags_source ks (λ ms. AgreesFields ms ks) (λ x p. AgreesCase x p ks) (λ ms. AgreesPlaces ms ks) m h in
        subst (λ m. Came (cross ask s m v) u → Same (cross answer m (s_node k_flags ks) u) (cross answer s (s_node k_flags ks) v)) (sym is)
        (λ c. flags_through ns ks v u (λ i y at. name_at (names_of ks) (names_of ns) i y at (agree.asked y)) c) c
    through (s_node k_variant ks) m s v u km kd h c =
        let (ns, is, agree) = variant_source ks (λ ms. AgreesFields ms ks) (λ x p. AgreesCase x p ks) (λ ms. AgreesPlaces ms ks) m h in
        subst (λ m. IsFormed m → Came (cross ask s m v) u → Same (cross answer m (s_node k_variant ks) u) (cross answer s (s_node k_variant ks) v)) (sym is)
        (λ km c. case_value_through (members_of s) ns ks v u c (λ x vs c. case_came ask (named x (members_of s)) x vs ns u (λ x p. AgreesCase x p ks) km.1 agree c)
        (λ x m s w v vs km e came a. case_through ks x m s w v vs km kd.1 e came a)) km c
    through (s_node k_enum ks) m s v u km kd h c =
        let (ns, is, agree) = enum_source ks (λ ms. AgreesFields ms ks) (λ x p. AgreesCase x p ks) (λ ms. AgreesPlaces ms ks) m h in
        subst (λ m. IsFormed m → Came (cross ask s m v) u → Same (cross answer m (s_node k_enum ks) u) (cross answer s (s_node k_enum ks) v)) (sym is)
        (λ km c. case_value_through (members_of s) ns ks v u c (λ x vs c. case_came_at ask (named x (members_of s)) x vs ns ks u km.1 agree (bare_places ns ks km.0 kd.0 agree) c)
        (λ x m s w v vs km e came a. case_through ks x m s w v vs km kd.1 e came a)) km c
    through (s_node k_option ks) m s v u km kd h c =
        let (ns, is, agree) = option_source ks (λ ms. AgreesFields ms ks) (λ x p. AgreesCase x p ks) (λ ms. AgreesPlaces ms ks) m h in
        subst (λ m. IsFormed m → Came (cross ask s m v) u → Same (cross answer m (s_node k_option ks) u) (cross answer s (s_node k_option ks) v)) (sym is)
        (λ km c. case_value_through (members_of s) ns ks v u c (λ x vs c. case_came_at ask (named x (members_of s)) x vs ns ks u km.1 (km.0 ∙ sym kd.0) agree c)
        (λ x m s w v vs km e came a. case_through ks x m s w v vs km kd.1 e came a)) km c
    through (s_node k_result ks) m s v u km kd h c =
        let (ns, is, agree) = result_source ks (λ ms. AgreesFields ms ks) (λ x p. AgreesCase x p ks) (λ ms. AgreesPlaces ms ks) m h in
        subst (λ m. IsFormed m → Came (cross ask s m v) u → Same (cross answer m (s_node k_result ks) u) (cross answer s (s_node k_result ks) v)) (sym is)
        (λ km c. case_value_through (members_of s) ns ks v u c (λ x vs c. case_came_at ask (named x (members_of s)) x vs ns ks u km.1 (km.0 ∙ sym kd.0) agree c)
        (λ x m s w v vs km e came a. case_through ks x m s w v vs km kd.1 e came a)) km c
    through (s_node (k_future t i) ks) m s v u km kd h c =
        let (r, j, ns, is) = future_source ks (λ ms. AgreesFields ms ks) (λ x p. AgreesCase x p ks) (λ ms. AgreesPlaces ms ks) t i m h in
        handle_through Future (table_number_of s) r (table_number_of m) (table_number_of s) t v u (subst (λ m. Came (cross ask s m v) u) is c)
    through (s_node (k_stream t i) ks) m s v u km kd h c =
        let (r, j, ns, is) = stream_source ks (λ ms. AgreesFields ms ks) (λ x p. AgreesCase x p ks) (λ ms. AgreesPlaces ms ks) t i m h in
        handle_through Stream (table_number_of s) r (table_number_of m) (table_number_of s) t v u (subst (λ m. Came (cross ask s m v) u) is c)

    fields_through : (ks ns ms : Members) (fs : List (List ℕ × Value)) (us : List Value) → AreFormed ns → AreFormed ks → AgreesFields ns ks → Came (cross_fields ask ms fs ns) us
        → Same (cross_fields answer ns (zip (typed_names ns) us) ks) (cross_fields answer ms fs ks)
    fields_through no_members ns ms fs us kn kk h c = λ t. refl
    fields_through (bare x ks) ns ms fs us kn kk h c = fields_through ks ns ms fs us kn kk h c
    fields_through (typed x d ks) ns ms fs us kn kk h c =
        let (m, at, on) = there (named x ns) (λ s. Agrees s d) h.0 in
        let r = field_came ask ms fs ns us x m at c in
        same_given (named x ns) m (named x ms) r.source
        (λ s. given (value_named x (zip (typed_names ns) us)) (λ v. then_step (cross answer s d v) (λ u. then_step (cross_fields answer ns (zip (typed_names ns) us) ks) (λ us. done_step (u ∷ us)))))
        (λ s. given (value_named x fs) (λ v. then_step (cross answer s d v) (λ u. then_step (cross_fields answer ms fs ks) (λ us. done_step (u ∷ us)))))
        at r.from
        (same_given (value_named x (zip (typed_names ns) us)) r.behind (value_named x fs) r.before
        (λ v. then_step (cross answer m d v) (λ u. then_step (cross_fields answer ns (zip (typed_names ns) us) ks) (λ us. done_step (u ∷ us))))
        (λ v. then_step (cross answer r.source d v) (λ u. then_step (cross_fields answer ms fs ks) (λ us. done_step (u ∷ us))))
        r.is r.was
        (same_then (cross answer m d r.behind) (cross answer r.source d r.before)
        (λ u. then_step (cross_fields answer ns (zip (typed_names ns) us) ks) (λ us. done_step (u ∷ us))) (λ u. then_step (cross_fields answer ms fs ks) (λ us. done_step (u ∷ us)))
        (through d m r.source r.before r.behind (named_formed ns x m kn at) kk.0 on r.came)
        (λ u. same_then (cross_fields answer ns (zip (typed_names ns) us) ks) (cross_fields answer ms fs ks) (λ us. done_step (u ∷ us)) (λ us. done_step (u ∷ us)) (fields_through ks ns ms fs us kn kk.1 h.1 c) (λ us t. refl))))

    case_through : (ks : Members) (x : List ℕ) (m s : Shape) (w v : Value) (vs : List Value) → IsFormed m → AreFormed ks → only vs ≡ Some v → Came (cross ask s m v) w → AgreesCase x (Some m) ks
        → Same (cross_case answer (Some m) x (w ∷ []) ks) (cross_case answer (Some s) x vs ks)
    case_through no_members x m s w v vs km kk e c a = absurd a
    case_through (bare n ks) x m s w v vs km kk e c a = go (bytes_eq n x) a (λ a. case_through ks x m s w v vs km kk e c a)
      where
        go : (b : Bool) → chosen b (◌≡◌ {A = Option Shape} (Some m) None) (AgreesCase x (Some m) ks) → (AgreesCase x (Some m) ks → Same (cross_case answer (Some m) x (w ∷ []) ks) (cross_case answer (Some s) x vs ks))
            → Same (if b then done_step (value.Case n []) else cross_case answer (Some m) x (w ∷ []) ks) (if b then done_step (value.Case n []) else cross_case answer (Some s) x vs ks)
        go true a f = absurd (none_some (Some m) m a refl)
        go false a f = f a
    case_through (typed n d ks) x m s w v vs km kk e c a =
        typed_case_through n x m s d w v vs ks e (bytes_eq n x) a (λ on. through d m s v w km kk.0 on c) (λ a. case_through ks x m s w v vs km kk.1 e c a)

    pub places_through : (ks ns ms : Members) (vs us : List Value) → AreFormed ns → AreFormed ks → AgreesPlaces ns ks → Came (cross_places ask ms vs ns) us → Same (cross_places answer ns us ks) (cross_places answer ms vs ks)
    places_through no_members no_members no_members vs us kn kk h c = λ t. refl
    places_through (bare n ks) no_members no_members vs us kn kk h c = absurd h
    places_through (typed n d ks) no_members no_members vs us kn kk h c = absurd h
    places_through ks (bare m ns) no_members vs us kn kk h c = absurd (nothing_came us c)
    places_through ks (typed m b ns) no_members vs us kn kk h c = absurd (nothing_came us c)
    places_through (bare n ks) (bare m ns) (bare l ms) vs us kn kk h c = places_through ks ns ms vs us kn kk h c
    places_through no_members (bare m ns) (bare l ms) vs us kn kk h c = absurd h
    places_through (typed n d ks) (bare m ns) (bare l ms) vs us kn kk h c = absurd h
    places_through ks no_members (bare l ms) vs us kn kk h c = absurd (nothing_came us c)
    places_through ks (typed m b ns) (bare l ms) vs us kn kk h c = absurd (nothing_came us c)
    places_through ks ns (typed l s ms) [] us kn kk h c = absurd (nothing_came us c)
    places_through ks no_members (typed l s ms) (v ∷ vs) us kn kk h c = absurd (nothing_came us c)
    places_through ks (bare m ns) (typed l s ms) (v ∷ vs) us kn kk h c = absurd (nothing_came us c)
    places_through no_members (typed m b ns) (typed l s ms) (v ∷ vs) us kn kk h c = absurd h
    places_through (bare n ks) (typed m b ns) (typed l s ms) (v ∷ vs) us kn kk h c = absurd h
    places_through (typed n d ks) (typed m b ns) (typed l s ms) (v ∷ vs) us kn kk h c = λ t.
        let (u, here, c1) = came_then (cross ask s b v) (λ u. then_step (cross_places ask ms vs ns) (λ us. done_step (u ∷ us))) us c in
        let (more, rest, c2) = came_then (cross_places ask ms vs ns) (λ us. done_step (u ∷ us)) us c1 in
        ap (λ us. cross_places answer (typed m b ns) us (typed n d ks) t) (sym (came_done (u ∷ more) us c2))
        ∙ same_then (cross answer b d u) (cross answer s d v) (λ u. then_step (cross_places answer ns more ks) (λ us. done_step (u ∷ us))) (λ u. then_step (cross_places answer ms vs ks) (λ us. done_step (u ∷ us)))
        (through d b s v u kn.0 kk.0 h.0 here)
        (λ u. same_then (cross_places answer ns more ks) (cross_places answer ms vs ks) (λ us. done_step (u ∷ us)) (λ us. done_step (u ∷ us)) (places_through ks ns ms vs more kn.1 kk.1 h.1 rest) (λ us t. refl)) t

    element_through : (ks ns ms : Members) (v u : Value) → AreFormed ns → AreFormed ks → AgreesPlaces ns ks → Came (cross_element ask ms v ns) u → Same (cross_element answer ns u ks) (cross_element answer ms v ks)
    element_through ks ns no_members v u kn kk h c = absurd (nothing_came u c)
    element_through ks ns (bare l ms) v u kn kk h c = absurd (nothing_came u c)
    element_through ks no_members (typed l s ms) v u kn kk h c = absurd (nothing_came u c)
    element_through ks (bare m ns) (typed l s ms) v u kn kk h c = absurd (nothing_came u c)
    element_through no_members (typed m b ns) (typed l s ms) v u kn kk h c = absurd h
    element_through (bare n ks) (typed m b ns) (typed l s ms) v u kn kk h c = absurd h
    element_through (typed n d ks) (typed m b ns) (typed l s ms) v u kn kk h c = through d b s v u kn.0 kk.0 h.0 c
