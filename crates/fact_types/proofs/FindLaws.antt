-- The search for a field by its name.
use Rattle.std.proofs.Common.{◌≡◌, ℕ, suc, ◌+◌, ◌≤◌, ◌<◌, List, [], ◌∷◌, length, drop, get_or, Option, Some, None, refl, sym, ap, ◌∙◌, subst, arith, add-one, Bool, true, false}
use Rattle.std.specs.Prelude.{map, option_map, slice_get, if◌then◌else◌}
use Rattle.std.specs.Str.{bytes_eq}
use Rattle.std.proofs.Math.Seq.{drop-cons}
use Rattle.std.proofs.lemmas.List.{drop_all}
use Rattle.std.proofs.lemmas.Option.{slice_get-get_or}
use Rattle.fact_entity.specs.declared.id.Id.{Id}
use Rattle.fact_entity.specs.declared.table.TypeRecords.{TypeRecords}
use Rattle.fact_types.specs.declared.abi.CanonicalAbiInfo.{CanonicalAbiInfo}
use Rattle.fact_types.specs.declared.fields.FieldPlace.{FieldPlace}
use Rattle.fact_types.specs.declared.interface.InterfaceType.{InterfaceType}
use Rattle.fact_types.specs.declared.interface.InterfaceType.TheVariants.{Record as t_record}
use Rattle.fact_types.specs.declared.kinds.RecordField.{RecordField}
use Rattle.fact_types.specs.declared.kinds.TypeRecord.{TypeRecord}
use Rattle.fact_types.specs.declared.extents.MemoryWidth.TheVariants.{Memory32, Memory64}
use Rattle.fact_types.specs.Fields.{Field, find, field_of, Finds}
use Rattle.fact_types.specs.Fits.{FieldFits}
use Rattle.fact_types.specs.Flat.{flat_within, add_flat}
use Rattle.fact_types.specs.FlatShapes.{flat, IsCounted, AreCounted}
use Rattle.fact_types.specs.Layout.{extent, aligned}
use Rattle.fact_types.specs.Shapes.{Kind, k_record, Shape, s_plain, s_node, Members, no_members, bare, typed, layout_of, place_of, next_of, ends_of, IsWithin}
use Rattle.fact_types.specs.Tables.{Tables, Node, node_of, record_node, IsLive, HasShape, HasMembers, IsSound}
use Rattle.fact_types.proofs.HeightLaws.{record_within}
use Rattle.fact_types.proofs.CountLaws.{count_is_length, add_is}
use Rattle.fact_types.proofs.PlaceLaws.{ends_grow, ends_within, sound_in}
use Rattle.fact_types.proofs.ShapeLaws.{same_some, none_some, no_node}

abbrev pub of_fields : List RecordField → List (List ℕ × Option InterfaceType)
of_fields fs = map (λ f. (f.name, Some f.ty)) fs

-- the shape of a record has the record's fields as members
node_members : (t : Tables) (i : Id TypeRecords) (e : TypeRecord) → slice_get t.records i.number ≡ Some e → (fs : List RecordField) → fs ≡ e.fields
    → (k : Kind) (ms : Members) → HasShape t (t_record i) (s_node k ms) → (k ≡ k_record) × HasMembers t (of_fields fs) ms
node_members t i e is fs from k ms h =
    let same : h.0 ≡ record_node e = same_some (node_of t (t_record i)) h.0 (record_node e) h.1 (ap (option_map record_node) is) in
    (sym h.2 ∙ ap (λ (n : Node). n.kind) same, subst (λ fs. HasMembers t (of_fields fs) ms) (sym from) (subst (λ (n : Node). HasMembers t n.members ms) same h.3))

pub record_fields : (t : Tables) (i : Id TypeRecords) (e : TypeRecord) → slice_get t.records i.number ≡ Some e → (fs : List RecordField) → fs ≡ e.fields
    → (ms : Members) → HasShape t (t_record i) (s_node k_record ms) → HasMembers t (of_fields fs) ms
record_fields t i e is fs from ms h = (node_members t i e is fs from k_record ms h).1

pub record_members : (t : Tables) (i : Id TypeRecords) (e : TypeRecord) → slice_get t.records i.number ≡ Some e → (fs : List RecordField) → fs ≡ e.fields
    → (s : Shape) → HasShape t (t_record i) s → (ms : Members) × (s ≡ s_node k_record ms) × HasMembers t (of_fields fs) ms
record_members t i e is fs from (s_plain p) h = absurd (none_some (node_of t (t_record i)) (record_node e) (ap (node_of t) h.0 ∙ no_node t p h.1) (ap (option_map record_node) is))
record_members t i e is fs from (s_node k ms) h = let m = node_members t i e is fs from k ms h in (ms, ap (λ k. s_node k ms) m.0, m.1)

pub field_live : (t : Tables) → IsSound t → (i : Id TypeRecords) (e : TypeRecord) → slice_get t.records i.number ≡ Some e
    → (fs : List RecordField) → fs ≡ e.fields → (j : ℕ) (f : RecordField) → j < length fs → f ≡ get_or fs j f → IsLive t f.ty
field_live t k i e is fs from j f lt at =
    (record_within t k i e is j f (ap (λ fs. slice_get fs j) (sym from) ∙ slice_get-get_or fs j f lt ∙ ap Some (sym at))).live

-- where the search stands: the members from here on, behind so many flat types and bytes, give what all of them give
pub record Remains (t : Tables) (x : List ℕ) (fs : List RecordField) (ms : Members) (i : ℕ) (flat_place : Option ℕ) (a b : ℕ) : Type 0 where
  pub rest : Members
  pub before : ℕ
  pub has : HasMembers t (of_fields (drop i fs)) rest
  pub same : field_of x ms ≡ find x rest before a b
  pub counted : AreCounted ms → AreCounted rest × (flat_place ≡ flat_within before)
  pub ends32 : ends_of Memory32 ms 0 ≡ ends_of Memory32 rest a
  pub ends64 : ends_of Memory64 ms 0 ≡ ends_of Memory64 rest b

pub starts : (t : Tables) (x : List ℕ) (fs : List RecordField) (ms : Members) → HasMembers t (of_fields fs) ms → Remains t x fs ms 0 (Some 0) 0 0
starts t x fs ms h = record { rest = ms; before = 0; has = h; same = refl; counted = λ c. (c, refl); ends32 = refl; ends64 = refl }

-- the member at hand
pub record Opened (t : Tables) (x : List ℕ) (fs : List RecordField) (ms : Members) (i : ℕ) (flat_place : Option ℕ) (a b : ℕ) (f : RecordField) : Type 0 where
  pub shape : Shape
  pub rest : Members
  pub before : ℕ
  pub shaped : HasShape t f.ty shape
  pub has : HasMembers t (of_fields (drop (i + 1) fs)) rest
  pub same : field_of x ms ≡ find x (typed f.name shape rest) before a b
  pub counted : AreCounted ms → IsCounted shape × AreCounted rest × (flat_place ≡ flat_within before)
  pub ends32 : ends_of Memory32 ms 0 ≡ ends_of Memory32 rest (next_of Memory32 shape a)
  pub ends64 : ends_of Memory64 ms 0 ≡ ends_of Memory64 rest (next_of Memory64 shape b)

none_left : (t : Tables) (x : List ℕ) (rest : Members) (n c d : ℕ) → HasMembers t [] rest → find x rest n c d ≡ None
none_left t x no_members n c d h = refl
none_left t x (bare m ns) n c d h = absurd h
none_left t x (typed m s ns) n c d h = absurd h

module _ {t : Tables} {x : List ℕ} {fs : List RecordField} {ms : Members} {i : ℕ} {flat_place : Option ℕ} {a b : ℕ} where
  open_front : (f : RecordField) (gs : List RecordField) (rest : Members) (before : ℕ) → HasMembers t (of_fields (f ∷ gs)) rest → gs ≡ drop (i + 1) fs
      → field_of x ms ≡ find x rest before a b → (AreCounted ms → AreCounted rest × (flat_place ≡ flat_within before))
      → ends_of Memory32 ms 0 ≡ ends_of Memory32 rest a → ends_of Memory64 ms 0 ≡ ends_of Memory64 rest b → Opened t x fs ms i flat_place a b f
  open_front f gs no_members before h e same counted ends32 ends64 = absurd h
  open_front f gs (bare m ns) before h e same counted ends32 ends64 = absurd (none_some (Some f.ty) f.ty h.1 refl)
  open_front f gs (typed m s ns) before h e same counted ends32 ends64 = record {
    shape = s;
    rest = ns;
    before = before;
    shaped = subst (λ ty. HasShape t ty s) (sym (same_some (Some f.ty) f.ty h.1.0 refl h.1.1)) h.1.2;
    has = subst (λ gs. HasMembers t (of_fields gs) ns) e h.2;
    same = same ∙ ap (λ m. find x (typed m s ns) before a b) (sym h.0);
    counted = λ c. let k = counted c in (k.0.0, k.0.1, k.1);
    ends32 = ends32;
    ends64 = ends64;
  }

  pub opened : (f : RecordField) → i < length fs → f ≡ get_or fs i f → Remains t x fs ms i flat_place a b → Opened t x fs ms i flat_place a b f
  opened f lt e r =
      let front : drop i fs ≡ f ∷ drop (i + 1) fs = drop-cons fs i f lt ∙ ap (λ y. y ∷ drop (suc i) fs) (sym e) ∙ ap (λ k. f ∷ drop k fs) (sym (add-one i)) in
      open_front f (drop (i + 1) fs) r.rest r.before (subst (λ gs. HasMembers t (of_fields gs) r.rest) front r.has) refl r.same r.counted r.ends32 r.ends64

  -- the member ends within the record
  ends_before32 : (f : RecordField) → (p : Opened t x fs ms i flat_place a b f) → next_of Memory32 p.shape a ≤ ends_of Memory32 ms 0
  ends_before32 f p = omega (arith, ends_grow Memory32 p.rest (next_of Memory32 p.shape a), p.ends32)

  ends_before64 : (f : RecordField) → (p : Opened t x fs ms i flat_place a b f) → next_of Memory64 p.shape b ≤ ends_of Memory64 ms 0
  ends_before64 f p = omega (arith, ends_grow Memory64 p.rest (next_of Memory64 p.shape b), p.ends64)

  pub fits32 : (f : RecordField) (abi : CanonicalAbiInfo) → IsWithin (layout_of (s_node k_record ms)) → (p : Opened t x fs ms i flat_place a b f) → abi ≡ layout_of p.shape → FieldFits (extent Memory32 abi) a
  fits32 f abi whole p is =
      subst (λ (abi : CanonicalAbiInfo). FieldFits (extent Memory32 abi) a) (sym is)
      (record { power = (sound_in Memory32 p.shape).power; within = omega (arith, ends_before32 f p, ends_within Memory32 ms, whole.memory32) })

  pub fits64 : (f : RecordField) (abi : CanonicalAbiInfo) → IsWithin (layout_of (s_node k_record ms)) → (p : Opened t x fs ms i flat_place a b f) → abi ≡ layout_of p.shape → FieldFits (extent Memory64 abi) b
  fits64 f abi whole p is =
      subst (λ (abi : CanonicalAbiInfo). FieldFits (extent Memory64 abi) b) (sym is)
      (record { power = (sound_in Memory64 p.shape).power; within = omega (arith, ends_before64 f p, ends_within Memory64 ms, whole.memory64) })

  -- past a member of another name
  pub goes_on : (f : RecordField) (abi : CanonicalAbiInfo) (flat_next : Option ℕ) (c d : ℕ) (p : Opened t x fs ms i flat_place a b f) → abi ≡ layout_of p.shape → bytes_eq f.name x ≡ false
      → flat_next ≡ add_flat flat_place abi.flat_count → c ≡ aligned a abi.align32 + abi.size32 → d ≡ aligned b abi.align64 + abi.size64
      → Remains t x fs ms (i + 1) flat_next c d
  goes_on f abi flat_next c d p is other flat_is c_is d_is =
      let here : c ≡ next_of Memory32 p.shape a = c_is ∙ ap (λ (l : CanonicalAbiInfo). aligned a l.align32 + l.size32) is in
      let there : d ≡ next_of Memory64 p.shape b = d_is ∙ ap (λ (l : CanonicalAbiInfo). aligned b l.align64 + l.size64) is in
      let after : ℕ = p.before + length (flat Memory32 p.shape) in
      record {
        rest = p.rest;
        before = after;
        has = p.has;
        same = p.same ∙ ap (λ (y : Bool). if y then Some (record { shape = p.shape; flat_place = p.before; place32 = place_of Memory32 p.shape a; place64 = place_of Memory64 p.shape b }) else find x p.rest after (next_of Memory32 p.shape a) (next_of Memory64 p.shape b)) other
            ∙ ap (λ n. find x p.rest after n (next_of Memory64 p.shape b)) (sym here) ∙ ap (λ n. find x p.rest after c n) (sym there);
        counted = λ k.
            let n = p.counted k in (
              n.1,
              flat_is ∙ ap (λ (l : CanonicalAbiInfo). add_flat flat_place l.flat_count) is ∙ ap (λ (o : Option ℕ). add_flat o (layout_of p.shape).flat_count) n.2
                  ∙ ap (add_flat (flat_within p.before)) (count_is_length Memory32 p.shape n.0) ∙ add_is p.before (length (flat Memory32 p.shape)),
            );
        ends32 = p.ends32 ∙ ap (ends_of Memory32 p.rest) (sym here);
        ends64 = p.ends64 ∙ ap (ends_of Memory64 p.rest) (sym there);
      }

  -- at the member of the name
  pub is_there : (f : RecordField) (abi : CanonicalAbiInfo) (found : FieldPlace) (p : Opened t x fs ms i flat_place a b f) → abi ≡ layout_of p.shape → bytes_eq f.name x ≡ true
      → IsLive t f.ty → found.ty ≡ f.ty → found.flat_place ≡ flat_place → found.place32 ≡ aligned a abi.align32 → found.place64 ≡ aligned b abi.align64
      → Finds t ms (Some found) (field_of x ms)
  is_there f abi found p is named live ty_is flat_is is32 is64 =
      let here : Field = record { shape = p.shape; flat_place = p.before; place32 = place_of Memory32 p.shape a; place64 = place_of Memory64 p.shape b } in
      let at_hand : field_of x ms ≡ Some here =
      p.same ∙ ap (λ (y : Bool). if y then Some here else find x p.rest (p.before + length (flat Memory32 p.shape)) (next_of Memory32 p.shape a) (next_of Memory64 p.shape b)) named in
      subst (λ g. Finds t ms (Some found) g) (sym at_hand) (record {
        live = subst (IsLive t) (sym ty_is) live;
        shaped = subst (λ ty. HasShape t ty p.shape) (sym ty_is) p.shaped;
        flat_place = λ c. flat_is ∙ (p.counted c).2;
        place32 = is32 ∙ ap (λ (l : CanonicalAbiInfo). aligned a l.align32) is;
        place64 = is64 ∙ ap (λ (l : CanonicalAbiInfo). aligned b l.align64) is;
        within32 = ends_before32 f p;
        within64 = ends_before64 f p;
      })

  pub not_there : length fs ≤ i → Remains t x fs ms i flat_place a b → Finds t ms None (field_of x ms)
  not_there ge r =
      let none : drop i fs ≡ [] = drop_all i fs ge in
      subst (λ g. Finds t ms None g) (sym (r.same ∙ none_left t x r.rest r.before a b (subst (λ gs. HasMembers t (of_fields gs) r.rest) none r.has))) tt
