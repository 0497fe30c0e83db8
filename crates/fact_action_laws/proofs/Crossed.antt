-- The handles among what a value calls for are those that cross with it.
use Rattle.std.proofs.Common.{◌≡◌, ℕ, suc, Bool, true, false, List, [], ◌∷◌, ◌++◌, length, Option, Some, None, refl, sym, ap, ◌∙◌, subst, arith, append_assoc}
use Rattle.std.specs.Prelude.{if◌then◌else◌}
use Rattle.std.specs.List.{flat_map, zip}
use Rattle.std.specs.Str.{bytes_eq}
use Rattle.std.proofs.lemmas.List.{append-nil}
use Rattle.fact_types.specs.Agrees.{named, names_of}
use Rattle.fact_types.specs.Shapes.{Kind, k_record, k_variant, k_list, k_tuple, k_map, k_flags, k_enum, k_option, k_result, k_fixed, k_future, k_stream, Shape, s_plain, s_node, Members, no_members, bare, typed}
use Rattle.fact_types.proofs.ShapeLaws.{same_some, none_some}
use Rattle.fact_values.specs.declared.side.SideAbi.{SideAbi}
use Rattle.fact_values.specs.declared.value.HandleKind.{HandleKind}
use Rattle.fact_values.specs.declared.value.HandleKind.TheVariants.{Future, Stream}
use Rattle.fact_values.specs.declared.value.Value.{Value, out-Value}
use Rattle.fact_values.specs.declared.value.Value.TheVariants as value
use Rattle.fact_values.specs.Carry.{take_number, note, noted, handles}
use Rattle.fact_values.specs.Handles.{Crossing, Step, Asked, done_step, then_step, given, each_step, members_of, table_number_of, value_named, only, Across, cross, cross_handle, cross_plain, cross_node, cross_entry, cross_list, cross_case_value, cross_fields, cross_case, cross_places, cross_element, flags_named}
use Rattle.fact_values.specs.Load.{entry_of}
use Rattle.fact_values.specs.Numbers.{Plain, boolean, unsigned, signed, float32, float64, character, text, handle, nothing, plain_of}
use Rattle.fact_types.specs.Options.{◌>>=◌}
use Rattle.fact_values.specs.Opened.{fields_in, members_in, elements_in, map_entries_in, case_in, number_of_handle, flags_in}
use Rattle.fact_values.specs.Places.{typed_names}
use Rattle.fact_action_laws.specs.Items.{ValueItem, HandleItem, RegionItem, TextItem, Inner, of_some, chars_in, handle_item, items_plain, case_items, items_node, items, items_fields, items_case, items_places, items_element, crossings, IsItemCalls, AreItemCalls}
use Rattle.fact_actions.specs.Running.{Call}
use Rattle.fact_action_laws.proofs.Plain.{both}
use Rattle.fact_action_laws.proofs.Telling.{crossings_append}

-- the handles of items
abbrev pub handles_in : List ValueItem → List Crossing
handles_in [] = []
handles_in (HandleItem x ∷ is) = x ∷ handles_in is
handles_in (RegionItem a n ∷ is) = handles_in is
handles_in (TextItem t ∷ is) = handles_in is

pub handles_append : (is js : List ValueItem) → handles_in (is ++ js) ≡ handles_in is ++ handles_in js
handles_append [] js = refl
handles_append (HandleItem x ∷ is) js = ap (λ l. x ∷ l) (handles_append is js)
handles_append (RegionItem a n ∷ is) js = handles_append is js
handles_append (TextItem t ∷ is) js = handles_append is js

-- calls that tell items move their handles
pub told_crossings : (is : List ValueItem) (cs : List Call) → AreItemCalls is cs → crossings cs ≡ handles_in is
told_crossings [] cs h = ap crossings h
told_crossings (i ∷ is) cs h = ap crossings h.is ∙ crossings_append h.first h.others ∙ go i h.left (told_crossings is h.others h.right)
  where
    go : (i : ValueItem) → IsItemCalls i h.first → crossings h.others ≡ handles_in is → crossings h.first ++ crossings h.others ≡ handles_in (i ∷ is)
    go (HandleItem x) l rest = ap (λ c. c ++ crossings h.others) l.crosses ∙ ap (λ c. x ∷ c) rest
    go (RegionItem a n) l rest = ap (λ c. c ++ crossings h.others) l.crosses ∙ rest
    go (TextItem t) l rest = ap (λ c. c ++ crossings h.others) l.crosses ∙ rest

-- ---- steps that write down

-- a step writes these down, in order
pub record Notes {A : Type 0} (f : Step (List Crossing) A) (is : List ValueItem) : Type 0 where
  pub by : (acc : List Crossing) → (a : A) × (f acc ≡ Some (a, acc ++ handles_in is))

notes_give : {A : Type 0} (a : A) (is : List ValueItem) → handles_in is ≡ [] → Notes (done_step a) is
notes_give a is h = record { by = λ acc. (a, ap (λ l. Some (a, l)) (sym (append-nil acc) ∙ ap (λ l. acc ++ l) (sym h))) }

notes_next : {A B : Type 0} (f : Step (List Crossing) A) (g : A → Step (List Crossing) B) (is js : List ValueItem) → Notes f is → ((a : A) → (acc acc' : List Crossing) → f acc ≡ Some (a, acc') → Notes (g a) js) → Notes (then_step f g) (is ++ js)
notes_next f g is js h k = record {
  by = λ acc.
      let r = h.by acc in
      let q = (k r.0 acc (acc ++ handles_in is) r.1).by (acc ++ handles_in is) in
      (q.0, ap (λ o. o >>= (λ r. g r.0 r.1)) r.1 ∙ q.1 ∙ ap (λ l. Some (q.0, l)) (append_assoc acc (handles_in is) (handles_in js) ∙ ap (λ l. acc ++ l) (sym (handles_append is js))));
}

notes_map : {A B : Type 0} (f : Step (List Crossing) A) (g : A → B) (is : List ValueItem) → Notes f is → Notes (then_step f (λ a. done_step (g a))) is
notes_map f g is h = record { by = λ acc. let r = h.by acc in (g r.0, ap (λ o. o >>= (λ r. done_step (g r.0) r.1)) r.1) }

-- something that is there for both
notes_given : {S A B : Type 0} (o : Option A) (f : A → Step S B) (f' : A → Step (List Crossing) B) (F : A → List ValueItem) (s : S) (r : B × S) → given o f s ≡ Some r → ((a : A) → f a s ≡ Some r → Notes (f' a) (F a)) → Notes (given o f') (of_some o F)
notes_given None f f' F s r h k = absurd (none_some None r refl h)
notes_given (Some a) f f' F s r h k = record { by = (k a h).by }

each_notes : {A B : Type 0} (f : A → Step (List ℕ) B) (f' : A → Step (List Crossing) B) (F : A → List ValueItem) → ((a : A) (s : List ℕ) (r : B × List ℕ) → f a s ≡ Some r → Notes (f' a) (F a)) → (xs : List A) (s : List ℕ) (r : List B × List ℕ) → each_step f xs s ≡ Some r → Notes (each_step f' xs) (flat_map F xs)
each_notes f f' F k [] s r h = notes_give [] [] refl
each_notes f f' F k (x ∷ xs) s r h =
    let a = both (f x s) (λ y. then_step (each_step f xs) (λ bs. done_step (y.0 ∷ bs)) y.1) r h in
    let b = both (each_step f xs a.mid.1) (λ y. done_step (a.mid.0 ∷ y.0) y.1) r a.last in
    notes_next (f' x) (λ b. then_step (each_step f' xs) (λ bs. done_step (b ∷ bs))) (F x) (flat_map F xs) (k x s a.mid a.first)
    (λ y acc acc' e. notes_map (each_step f' xs) (λ bs. y ∷ bs) (flat_map F xs) (each_notes f f' F k xs a.mid.1 b.mid b.first))

-- ---- plain types

handle_notes : (kind : HandleKind) (from to : ℕ) (v : Value) (s : List ℕ) (r : Value × List ℕ) → cross_handle take_number kind from to v s ≡ Some r → Notes (cross_handle note kind from to v) (handle_item kind from to v)
handle_notes kind from to v s r h =
    notes_given (number_of_handle (out-Value v)) (λ n. then_step (take_number (record { kind = kind; number = n; from = from; to = to })) (λ m. done_step (value.Handle kind to m))) (λ n. then_step (note (record { kind = kind; number = n; from = from; to = to })) (λ m. done_step (value.Handle kind to m)))
    (λ n. HandleItem (record { kind = kind; number = n; from = from; to = to }) ∷ []) s r h (λ n e. record { by = λ acc. (value.Handle kind to 0, refl) })

plain_notes : (from : ℕ) (p : Plain) (v : Value) (s : List ℕ) (r : Value × List ℕ) → cross_plain take_number from p v s ≡ Some r → Notes (cross_plain note from p v) (items_plain from p v)
plain_notes from (handle kind table) v s r h = handle_notes kind from table v s r h
plain_notes from text v s r h = notes_give v (items_plain from text v) (go (chars_in (out-Value v)))
  where
    go : (o : Option (List ℕ)) → handles_in (of_some o (λ cs. TextItem cs ∷ [])) ≡ []
    go None = refl
    go (Some cs) = refl
plain_notes from boolean v s r h = notes_give v [] refl
plain_notes from (unsigned n) v s r h = notes_give v [] refl
plain_notes from (signed n) v s r h = notes_give v [] refl
plain_notes from float32 v s r h = notes_give v [] refl
plain_notes from float64 v s r h = notes_give v [] refl
plain_notes from character v s r h = notes_give v [] refl
plain_notes from nothing v s r h = notes_give v [] refl

-- ---- entries

-- how many members by place cross, whatever is asked
abbrev typed_count : Members → ℕ
typed_count no_members = 0
typed_count (bare x ms) = typed_count ms
typed_count (typed x s ms) = suc (typed_count ms)

places_count : {S : Type 0} (ask : Asked S) (ms ns : Members) (vs : List Value) (s : S) (r : List Value × S) → cross_places ask ms vs ns s ≡ Some r → length r.0 ≡ typed_count ns
unfolding cross_places
places_count ask no_members no_members vs s r h = ap (λ x. length x.0) (sym (same_some (Some ([], s)) ([], s) r refl h))
places_count ask no_members (bare n ns) vs s r h = absurd (none_some None r refl h)
places_count ask no_members (typed n d ns) vs s r h = absurd (none_some None r refl h)
places_count ask (bare m ms) no_members vs s r h = absurd (none_some None r refl h)
places_count ask (bare m ms) (bare n ns) vs s r h = places_count ask ms ns vs s r h
places_count ask (bare m ms) (typed n d ns) vs s r h = absurd (none_some None r refl h)
places_count ask (typed m t ms) no_members [] s r h = absurd (none_some None r refl h)
places_count ask (typed m t ms) no_members (v ∷ vs) s r h = absurd (none_some None r refl h)
places_count ask (typed m t ms) (bare n ns) [] s r h = absurd (none_some None r refl h)
places_count ask (typed m t ms) (bare n ns) (v ∷ vs) s r h = absurd (none_some None r refl h)
places_count ask (typed m t ms) (typed n d ns) [] s r h = absurd (none_some None r refl h)
places_count ask (typed m t ms) (typed n d ns) (v ∷ vs) s r h =
    let a = both (cross ask t d v s) (λ y. then_step (cross_places ask ms vs ns) (λ us. done_step (y.0 ∷ us)) y.1) r h in
    let b = both (cross_places ask ms vs ns a.mid.1) (λ y. done_step (a.mid.0 ∷ y.0) y.1) r a.last in
    ap (λ x. length x.0) (sym (same_some (Some (a.mid.0 ∷ b.mid.0, b.mid.1)) (a.mid.0 ∷ b.mid.0, b.mid.1) r refl b.last)) ∙ ap suc (places_count ask ms ns vs a.mid.1 b.mid b.first)

entry_long : (us : List Value) (s : List ℕ) (r : (Value × Value) × List ℕ) → given (entry_of us) done_step s ≡ Some r → length us ≡ 2
entry_long [] s r h = absurd (none_some None r refl h)
entry_long (k ∷ []) s r h = absurd (none_some None r refl h)
entry_long (k ∷ (w ∷ [])) s r h = refl
entry_long (k ∷ (w ∷ (x ∷ us))) s r h = absurd (none_some None r refl h)

long_entry : (us : List Value) → length us ≡ 2 → Notes (given (entry_of us) done_step) []
long_entry [] h = absurd (omega (arith, h))
long_entry (k ∷ []) h = absurd (omega (arith, h))
long_entry (k ∷ (w ∷ [])) h = notes_give (k, w) [] refl
long_entry (k ∷ (w ∷ (x ∷ us))) h = absurd (omega (arith, h))

-- ---- members of a kind

module _ (side : SideAbi) (ms ns : Members) where
  abbrev taking : Across (List ℕ)
  taking = record { fields = λ fs. cross_fields take_number ms fs ns; case = λ x vs. cross_case take_number (named x ms) x vs ns; places = λ vs. cross_places take_number ms vs ns; element = λ w. cross_element take_number ms w ns }

  abbrev writing : Across (List Crossing)
  writing = record { fields = λ fs. cross_fields note ms fs ns; case = λ x vs. cross_case note (named x ms) x vs ns; places = λ vs. cross_places note ms vs ns; element = λ w. cross_element note ms w ns }

  abbrev calling : Inner
  calling = record { fields = λ fs. items_fields side ms fs ns; case = λ x vs. items_case side (named x ms) x vs ns; places = λ vs. items_places side ms vs ns; element = λ w. items_element side ms w ns }

  module _
      (fields : (fs : List (List ℕ × Value)) (s : List ℕ) (r : List Value × List ℕ) → cross_fields take_number ms fs ns s ≡ Some r → Notes (cross_fields note ms fs ns) (items_fields side ms fs ns))
      (cases : (p : Option Shape) (x : List ℕ) (vs : List Value) (s : List ℕ) (r : Value × List ℕ) → cross_case take_number p x vs ns s ≡ Some r → Notes (cross_case note p x vs ns) (items_case side p x vs ns))
      (places : (vs : List Value) (s : List ℕ) (r : List Value × List ℕ) → cross_places take_number ms vs ns s ≡ Some r → Notes (cross_places note ms vs ns) (items_places side ms vs ns))
      (element : (v : Value) (s : List ℕ) (r : Value × List ℕ) → cross_element take_number ms v ns s ≡ Some r → Notes (cross_element note ms v ns) (items_element side ms v ns)) where
    case_notes : (v : Value) (s : List ℕ) (r : Value × List ℕ) → cross_case_value taking v s ≡ Some r → Notes (cross_case_value writing v) (case_items calling v)
    case_notes v s r h = notes_given (case_in (out-Value v)) (λ c. taking.case c.name c.payload) (λ c. writing.case c.name c.payload) (λ c. calling.case c.name c.payload) s r h (λ c e. cases (named c.name ms) c.name c.payload s r e)

    entry_notes : (e : Value × Value) (s : List ℕ) (r : (Value × Value) × List ℕ) → cross_entry taking e s ≡ Some r → Notes (cross_entry writing e) (calling.places (e.0 ∷ e.1 ∷ []))
    entry_notes e s r h =
        let vs = e.0 ∷ e.1 ∷ [] in
        let a = both (cross_places take_number ms vs ns s) (λ y. given (entry_of y.0) done_step y.1) r h in
        let two : typed_count ns ≡ 2 = sym (places_count take_number ms ns vs s a.mid a.first) ∙ entry_long a.mid.0 a.mid.1 r a.last in
        subst (Notes (cross_entry writing e)) (append-nil (items_places side ms vs ns))
        (notes_next (cross_places note ms vs ns) (λ us. given (entry_of us) done_step) (items_places side ms vs ns) [] (places vs s a.mid a.first)
        (λ us acc acc' g. long_entry us (places_count note ms ns vs acc (us, acc') g ∙ two)))

    list_notes : (v : Value) (s : List ℕ) (r : Value × List ℕ) → cross_list taking v s ≡ Some r → Notes (cross_list writing v) (of_some (elements_in (out-Value v)) (flat_map calling.element))
    list_notes v s r h = notes_given (elements_in (out-Value v)) (λ vs. then_step (each_step taking.element vs) (λ us. done_step (value.List us))) (λ vs. then_step (each_step writing.element vs) (λ us. done_step (value.List us))) (flat_map calling.element) s r h
        (λ vs e. let a = both (each_step taking.element vs s) (λ y. done_step (value.List y.0) y.1) r e in
        notes_map (each_step writing.element vs) (λ us. value.List us) (flat_map calling.element vs) (each_notes taking.element writing.element calling.element element vs s a.mid a.first))

    map_notes : (v : Value) (s : List ℕ) (r : Value × List ℕ) → given (map_entries_in (out-Value v)) (λ es. then_step (each_step (cross_entry taking) es) (λ fs. done_step (value.Map fs))) s ≡ Some r
        → Notes (given (map_entries_in (out-Value v)) (λ es. then_step (each_step (cross_entry writing) es) (λ fs. done_step (value.Map fs)))) (of_some (map_entries_in (out-Value v)) (flat_map (λ e. calling.places (e.0 ∷ e.1 ∷ []))))
    map_notes v s r h = notes_given (map_entries_in (out-Value v)) (λ es. then_step (each_step (cross_entry taking) es) (λ fs. done_step (value.Map fs))) (λ es. then_step (each_step (cross_entry writing) es) (λ fs. done_step (value.Map fs))) (flat_map (λ e. calling.places (e.0 ∷ e.1 ∷ []))) s r h
        (λ es e. let a = both (each_step (cross_entry taking) es s) (λ y. done_step (value.Map y.0) y.1) r e in
        notes_map (each_step (cross_entry writing) es) (λ us. value.Map us) (flat_map (λ e. calling.places (e.0 ∷ e.1 ∷ [])) es) (each_notes (cross_entry taking) (cross_entry writing) (λ e. calling.places (e.0 ∷ e.1 ∷ [])) entry_notes es s a.mid a.first))

    -- flags call for none
    flag_notes : (o : Option (List (List ℕ × Bool))) (s : List ℕ) (r : Value × List ℕ) → given o (λ fs. given (flags_named (names_of ns) fs) (λ gs. done_step (value.Flags gs))) s ≡ Some r
        → Notes (given o (λ fs. given (flags_named (names_of ns) fs) (λ gs. done_step (value.Flags gs)))) []
    flag_notes None s r h = absurd (none_some None r refl h)
    flag_notes (Some fs) s r h = named (flags_named (names_of ns) fs) h
      where
        named : (q : Option (List (List ℕ × Bool))) → given q (λ gs. done_step (value.Flags gs)) s ≡ Some r → Notes (given q (λ gs. done_step (value.Flags gs))) []
        named None h = absurd (none_some None r refl h)
        named (Some gs) h = notes_give (value.Flags gs) [] refl

    -- a region counts for no handle
    room_passes : {A B : Type 0} (f : Step (List Crossing) B) (o : Option A) (room : A → ValueItem) (F : A → List ValueItem) → ((a : A) → handles_in (room a ∷ F a) ≡ handles_in (F a)) → Notes f (of_some o F) → Notes f (of_some o (λ a. room a ∷ F a))
    room_passes f None room F e h = record { by = h.by }
    room_passes f (Some a) room F e h = record { by = λ acc. let r = h.by acc in (r.0, r.1 ∙ ap (λ l. Some (r.0, acc ++ l)) (sym (e a))) }

    node_notes : (from : ℕ) (k : Kind) (v : Value) (s : List ℕ) (r : Value × List ℕ) → cross_node take_number from k ns taking v s ≡ Some r → Notes (cross_node note from k ns writing v) (items_node side from k ns calling v)
    node_notes from k_record v s r h = notes_given (fields_in (out-Value v)) (λ fs. then_step (taking.fields fs) (λ us. done_step (value.Record (zip (typed_names ns) us)))) (λ fs. then_step (writing.fields fs) (λ us. done_step (value.Record (zip (typed_names ns) us)))) calling.fields s r h
        (λ fs e. let a = both (taking.fields fs s) (λ y. done_step (value.Record (zip (typed_names ns) y.0)) y.1) r e in notes_map (writing.fields fs) (λ us. value.Record (zip (typed_names ns) us)) (calling.fields fs) (fields fs s a.mid a.first))
    node_notes from k_tuple v s r h = notes_given (members_in (out-Value v)) (λ vs. then_step (taking.places vs) (λ us. done_step (value.Tuple us))) (λ vs. then_step (writing.places vs) (λ us. done_step (value.Tuple us))) calling.places s r h
        (λ vs e. let a = both (taking.places vs s) (λ y. done_step (value.Tuple y.0) y.1) r e in notes_map (writing.places vs) (λ us. value.Tuple us) (calling.places vs) (places vs s a.mid a.first))
    node_notes from k_list v s r h = room_passes (cross_list writing v) (elements_in (out-Value v)) _ (flat_map calling.element) (λ a. refl) (list_notes v s r h)
    node_notes from (k_fixed n) v s r h = list_notes v s r h
    node_notes from k_map v s r h = room_passes _ (map_entries_in (out-Value v)) _ (flat_map (λ e. calling.places (e.0 ∷ e.1 ∷ []))) (λ a. refl) (map_notes v s r h)
    node_notes from k_flags v s r h = flag_notes (flags_in (out-Value v)) s r h
    node_notes from k_variant v s r h = case_notes v s r h
    node_notes from k_enum v s r h = case_notes v s r h
    node_notes from k_option v s r h = case_notes v s r h
    node_notes from k_result v s r h = case_notes v s r h
    node_notes from (k_future table i) v s r h = handle_notes Future from table v s r h
    node_notes from (k_stream table i) v s r h = handle_notes Stream from table v s r h

-- ---- all types

-- a field, and the others
field_step : (side : SideAbi) (p : Option Shape) (q : Option Value) (d : Shape) (F : Step (List ℕ) (List Value)) (F' : Step (List Crossing) (List Value)) (js : List ValueItem) (s : List ℕ) (r : List Value × List ℕ)
    → given p (λ t. given q (λ v. then_step (cross take_number t d v) (λ u. then_step F (λ us. done_step (u ∷ us))))) s ≡ Some r
    → ((t : Shape) (v : Value) (s : List ℕ) (r : Value × List ℕ) → cross take_number t d v s ≡ Some r → Notes (cross note t d v) (items side t d v)) → ((s : List ℕ) (r : List Value × List ℕ) → F s ≡ Some r → Notes F' js)
    → Notes (given p (λ t. given q (λ v. then_step (cross note t d v) (λ u. then_step F' (λ us. done_step (u ∷ us)))))) (of_some p (λ t. of_some q (λ v. items side t d v)) ++ js)
field_step side None q d F F' js s r h one rest = absurd (none_some None r refl h)
field_step side (Some t) None d F F' js s r h one rest = absurd (none_some None r refl h)
field_step side (Some t) (Some v) d F F' js s r h one rest =
    let a = both (cross take_number t d v s) (λ y. then_step F (λ us. done_step (y.0 ∷ us)) y.1) r h in
    let b = both (F a.mid.1) (λ y. done_step (a.mid.0 ∷ y.0) y.1) r a.last in
    record { by = (notes_next (cross note t d v) (λ u. then_step F' (λ us. done_step (u ∷ us))) (items side t d v) js (one t v s a.mid a.first) (λ u acc acc' e. notes_map F' (λ us. u ∷ us) js (rest a.mid.1 b.mid b.first))).by }

-- a case without a payload, or one of those behind it
bare_step : (q : Bool) (w : Value) (F : Step (List ℕ) Value) (F' : Step (List Crossing) Value) (js : List ValueItem) (s : List ℕ) (r : Value × List ℕ) → (if q then done_step w else F) s ≡ Some r → ((s : List ℕ) (r : Value × List ℕ) → F s ≡ Some r → Notes F' js)
    → Notes (if q then done_step w else F') (if q then [] else js)
bare_step true w F F' js s r h rest = notes_give w [] refl
bare_step false w F F' js s r h rest = record { by = (rest s r h).by }

-- a case with a payload, or one of those behind it
typed_step : (side : SideAbi) (q : Bool) (p : Option Shape) (o : Option Value) (d : Shape) (g : Value → Value) (F : Step (List ℕ) Value) (F' : Step (List Crossing) Value) (js : List ValueItem) (s : List ℕ) (r : Value × List ℕ)
    → (if q then given p (λ t. given o (λ v. then_step (cross take_number t d v) (λ u. done_step (g u)))) else F) s ≡ Some r
    → ((t : Shape) (v : Value) (s : List ℕ) (r : Value × List ℕ) → cross take_number t d v s ≡ Some r → Notes (cross note t d v) (items side t d v)) → ((s : List ℕ) (r : Value × List ℕ) → F s ≡ Some r → Notes F' js)
    → Notes (if q then given p (λ t. given o (λ v. then_step (cross note t d v) (λ u. done_step (g u)))) else F') (if q then of_some p (λ t. of_some o (λ v. items side t d v)) else js)
typed_step side false p o d g F F' js s r h one rest = record { by = (rest s r h).by }
typed_step side true None o d g F F' js s r h one rest = absurd (none_some None r refl h)
typed_step side true (Some t) None d g F F' js s r h one rest = absurd (none_some None r refl h)
typed_step side true (Some t) (Some v) d g F F' js s r h one rest =
    let a = both (cross take_number t d v s) (λ y. done_step (g y.0) y.1) r h in
    record { by = (notes_map (cross note t d v) g (items side t d v) (one t v s a.mid a.first)).by }

-- a member, and the others
place_step : (side : SideAbi) (t d : Shape) (v : Value) (F : Step (List ℕ) (List Value)) (F' : Step (List Crossing) (List Value)) (js : List ValueItem) (s : List ℕ) (r : List Value × List ℕ)
    → then_step (cross take_number t d v) (λ u. then_step F (λ us. done_step (u ∷ us))) s ≡ Some r
    → ((s : List ℕ) (r : Value × List ℕ) → cross take_number t d v s ≡ Some r → Notes (cross note t d v) (items side t d v)) → ((s : List ℕ) (r : List Value × List ℕ) → F s ≡ Some r → Notes F' js)
    → Notes (then_step (cross note t d v) (λ u. then_step F' (λ us. done_step (u ∷ us)))) (items side t d v ++ js)
place_step side t d v F F' js s r h one rest =
    let a = both (cross take_number t d v s) (λ y. then_step F (λ us. done_step (y.0 ∷ us)) y.1) r h in
    let b = both (F a.mid.1) (λ y. done_step (a.mid.0 ∷ y.0) y.1) r a.last in
    notes_next (cross note t d v) (λ u. then_step F' (λ us. done_step (u ∷ us))) (items side t d v) js (one s a.mid a.first) (λ u acc acc' e. notes_map F' (λ us. u ∷ us) js (rest a.mid.1 b.mid b.first))

mutual
  unfolding cross cross_fields cross_case cross_places cross_element items items_fields items_case items_places items_element

  pub value_notes : (side : SideAbi) (u t : Shape) (v : Value) (s : List ℕ) (r : Value × List ℕ) → cross take_number t u v s ≡ Some r → Notes (cross note t u v) (items side t u v)
  value_notes side (s_plain q) t v s r h = plain_notes (table_number_of t) (plain_of q) v s r h
  value_notes side (s_node k ns) t v s r h =
      node_notes side (members_of t) ns (λ fs s r h. fields_note side ns (members_of t) fs s r h) (λ p x vs s r h. cases_note side ns p x vs s r h) (λ vs s r h. places_note side ns (members_of t) vs s r h) (λ v s r h. element_notes side ns (members_of t) v s r h)
      (table_number_of t) k v s r h

  fields_note : (side : SideAbi) (ns ms : Members) (fs : List (List ℕ × Value)) (s : List ℕ) (r : List Value × List ℕ) → cross_fields take_number ms fs ns s ≡ Some r → Notes (cross_fields note ms fs ns) (items_fields side ms fs ns)
  fields_note side no_members ms fs s r h = notes_give [] [] refl
  fields_note side (bare x ns) ms fs s r h = record { by = (fields_note side ns ms fs s r h).by }
  fields_note side (typed x d ns) ms fs s r h =
      record { by = (field_step side (named x ms) (value_named x fs) d (cross_fields take_number ms fs ns) (cross_fields note ms fs ns) (items_fields side ms fs ns) s r h (λ t v s r h. value_notes side d t v s r h) (λ s r h. fields_note side ns ms fs s r h)).by }

  cases_note : (side : SideAbi) (ns : Members) (p : Option Shape) (x : List ℕ) (vs : List Value) (s : List ℕ) (r : Value × List ℕ) → cross_case take_number p x vs ns s ≡ Some r → Notes (cross_case note p x vs ns) (items_case side p x vs ns)
  cases_note side no_members p x vs s r h = absurd (none_some None r refl h)
  cases_note side (bare n ns) p x vs s r h =
      record { by = (bare_step (bytes_eq n x) (value.Case n []) (cross_case take_number p x vs ns) (cross_case note p x vs ns) (items_case side p x vs ns) s r h (λ s r h. cases_note side ns p x vs s r h)).by }
  cases_note side (typed n d ns) p x vs s r h =
      record { by = (typed_step side (bytes_eq n x) p (only vs) d (λ u. value.Case n (u ∷ [])) (cross_case take_number p x vs ns) (cross_case note p x vs ns) (items_case side p x vs ns) s r h (λ t v s r h. value_notes side d t v s r h) (λ s r h. cases_note side ns p x vs s r h)).by }

  places_note : (side : SideAbi) (ns ms : Members) (vs : List Value) (s : List ℕ) (r : List Value × List ℕ) → cross_places take_number ms vs ns s ≡ Some r → Notes (cross_places note ms vs ns) (items_places side ms vs ns)
  places_note side no_members no_members vs s r h = record { by = (notes_give [] [] refl).by }
  places_note side no_members (bare m ms) vs s r h = absurd (none_some None r refl h)
  places_note side no_members (typed m t ms) [] s r h = absurd (none_some None r refl h)
  places_note side no_members (typed m t ms) (v ∷ vs) s r h = absurd (none_some None r refl h)
  places_note side (bare n ns) no_members vs s r h = absurd (none_some None r refl h)
  places_note side (bare n ns) (bare m ms) vs s r h = record { by = (places_note side ns ms vs s r h).by }
  places_note side (bare n ns) (typed m t ms) [] s r h = absurd (none_some None r refl h)
  places_note side (bare n ns) (typed m t ms) (v ∷ vs) s r h = absurd (none_some None r refl h)
  places_note side (typed n d ns) no_members vs s r h = absurd (none_some None r refl h)
  places_note side (typed n d ns) (bare m ms) vs s r h = absurd (none_some None r refl h)
  places_note side (typed n d ns) (typed m t ms) [] s r h = absurd (none_some None r refl h)
  places_note side (typed n d ns) (typed m t ms) (v ∷ vs) s r h =
      record { by = (place_step side t d v (cross_places take_number ms vs ns) (cross_places note ms vs ns) (items_places side ms vs ns) s r h (λ s r h. value_notes side d t v s r h) (λ s r h. places_note side ns ms vs s r h)).by }

  element_notes : (side : SideAbi) (ns ms : Members) (v : Value) (s : List ℕ) (r : Value × List ℕ) → cross_element take_number ms v ns s ≡ Some r → Notes (cross_element note ms v ns) (items_element side ms v ns)
  element_notes side (typed n d ns) (typed m t ms) v s r h = record { by = (value_notes side d t v s r h).by }
  element_notes side (typed n d ns) no_members v s r h = absurd (none_some None r refl h)
  element_notes side (typed n d ns) (bare m ms) v s r h = absurd (none_some None r refl h)
  element_notes side no_members no_members v s r h = absurd (none_some None r refl h)
  element_notes side no_members (bare m ms) v s r h = absurd (none_some None r refl h)
  element_notes side no_members (typed m t ms) v s r h = absurd (none_some None r refl h)
  element_notes side (bare n ns) no_members v s r h = absurd (none_some None r refl h)
  element_notes side (bare n ns) (bare m ms) v s r h = absurd (none_some None r refl h)
  element_notes side (bare n ns) (typed m t ms) v s r h = absurd (none_some None r refl h)

-- Where a value crosses, its handles are those of the items that it calls for.
pub handles_are : (side : SideAbi) (u t : Shape) (v : Value) (s : List ℕ) (r : Value × List ℕ) → cross take_number t u v s ≡ Some r → handles t u v ≡ handles_in (items side t u v)
handles_are side u t v s r h = let k = (value_notes side u t v s r h).by [] in ap noted k.1
