-- The pairs of the members of a destination: how they are made, and each of them.
use Rattle.std.proofs.Common.{◌≡◌, ℕ, zero, suc, ◌+◌, ◌≤◌, ◌<◌, List, [], ◌∷◌, ◌++◌, map, length, drop, get_or, Option, Some, None, ◌⊎◌, inl, inr, ⊎_elim, refl, sym, ap, ◌∙◌, subst, arith}
use Rattle.std.specs.Prelude.{slice_get, option_map}
use Rattle.std.proofs.lemmas.List.{drop_all, length-append, length-map}
use Rattle.std.proofs.lemmas.Option.{slice_get-get_or, slice_get-map}
use Rattle.fact_entity.specs.declared.id.Id.{Id}
use Rattle.fact_entity.specs.declared.table.TypeRecords.{TypeRecords}
use Rattle.fact_entity.specs.declared.table.TypeTuples.{TypeTuples}
use Rattle.fact_types.specs.declared.abi.CanonicalAbiInfo.{CanonicalAbiInfo}
use Rattle.fact_types.specs.declared.fields.FieldPlace.{FieldPlace}
use Rattle.fact_types.specs.declared.interface.InterfaceType.{InterfaceType}
use Rattle.fact_types.specs.declared.interface.InterfaceType.TheVariants as ty
use Rattle.fact_types.specs.declared.kinds.RecordField.{RecordField}
use Rattle.fact_types.specs.declared.kinds.TypeRecord.{TypeRecord}
use Rattle.fact_types.specs.declared.kinds.TypeTuple.{TypeTuple}
use Rattle.fact_types.specs.Fields.{field_of, Finds}
use Rattle.fact_types.specs.FlatShapes.{AreCounted}
use Rattle.fact_types.specs.Shapes.{Kind, k_record, k_tuple, Shape, s_node, Members, layout_of, IsWithin}
use Rattle.fact_types.specs.Tables.{Tables, node_of, record_node, tuple_node, placed, HasShape, HasMembers, IsSound, IsLive}
use Rattle.fact_types.proofs.FindLaws.{of_fields}
use Rattle.fact_types.proofs.HeightLaws.{record_within, tuple_within}
use Rattle.fact_types.proofs.ShapeLaws.{same_some, none_some}
use Rattle.fact_code_laws.specs.Places.{From, To}
use Rattle.fact_emit.specs.declared.places.Sides.{Sides}
use Rattle.fact_emit.specs.declared.writer.Writer.{Writer}
use Rattle.fact_emit.specs.Emits.{EmitsAsking}
use Rattle.fact_emit.specs.Fitting.{MovesFields}
use Rattle.fact_emit.specs.Movable.{CanMoveFields}
use Rattle.fact_emit.specs.Writers.{taken_in}
use Rattle.fact_kinds.specs.declared.members.MemberPair.{MemberPair}
use Rattle.fact_kinds.specs.declared.members.MembersEnd.{MembersEnd}
use Rattle.fact_kinds.specs.MemberPairs.{Member, place_behind, end_behind, members_of_node, members_at, pair_named, EachPair, IsPair, ArePairs, FindsEach, ArePairsOf, MovedPairs}
use Rattle.fact_kinds.specs.Moved.{IsLiveFound, MovedNode, MovedTuple}
use Rattle.fact_kinds.specs.declared.fuel.Fuel.{Fuel}
use Rattle.fact_kinds.specs.Translations.{TranslatesAs}
use Rattle.fact_kinds.proofs.MemberRuns.{IsAt, member_at}
use Rattle.fact_kinds.proofs.NodeMoves.{found_live, record_moved, tuple_moved}
use Rattle.fact_kinds.proofs.SourceMembers.{MembersAhead, IsPlaceFrom, opened, goes_on, is_there, not_there, stays, same_place, from_here, from_later, later_places}
use Rattle.fact_kinds.proofs.TypeKinds.{record_kind, tuple_kind}
use Rattle.fact_actions.specs.Outlining.{translates_fields}

-- ---- the members of a type and of its shapes

pub members_have : (t : Tables) (ty : InterfaceType) (k : Kind) (ns : Members) → HasShape t ty (s_node k ns) → HasMembers t (members_at t ty) ns
members_have t ty k ns h = subst (λ xs. HasMembers t xs ns) (sym (ap members_of_node h.1)) h.3

-- ---- one pair after another

pub record PairAt (t : Tables) (to : InterfaceType) (pairs : List MemberPair) (i : ℕ) (p : MemberPair) : Type 0 where
  pub name : List ℕ
  pub at : IsAt (members_at t to) i name p.ty
  pub pair : IsPair t to (name, Some p.ty) p
  pub finds : (ms : Members) → FindsEach t ms to pairs → Finds t ms p.found (field_of name ms)

-- what a loop over pairs reads where there is none
abbrev pub bare_pair : MemberPair
bare_pair = record { found = None; ty = ty.Bool }

pub pair_at : {t : Tables} {to : InterfaceType} {pairs : List MemberPair} (i : ℕ) → ArePairs t to pairs → i < length pairs → PairAt t to pairs i (get_or pairs i bare_pair)
pair_at {t} {to} {pairs} i a lt =
    let p : MemberPair = get_or pairs i bare_pair in
    let got : slice_get pairs i ≡ Some p = slice_get-get_or pairs i bare_pair lt in
    let x : Member = get_or (members_at t to) i ([], None) in
    let there : slice_get (members_at t to) i ≡ Some x = slice_get-get_or (members_at t to) i ([], None) (omega (arith, lt, a.members.count)) in
    let pair = a.members.each i x p there got in
    record {
      name = x.0;
      at = member_at (members_at t to) i x.0 p.ty (there ∙ ap (λ (o : Option InterfaceType). Some (x.0, o)) pair.has_type);
      pair = record { has_type = refl; within = pair.within; found_live = pair.found_live };
      finds = λ ms f. f.each i x p there got;
    }

pub no_pair : {t : Tables} {to : InterfaceType} {pairs : List MemberPair} (i : ℕ) → ArePairs t to pairs → length pairs ≤ i → drop i (members_at t to) ≡ []
no_pair {t} {to} i a past = drop_all i (members_at t to) (omega (arith, past, a.members.count))

-- ---- the fields of a record

pub field_at : (fs : List RecordField) (i : ℕ) (f : RecordField) → i < length fs → f ≡ get_or fs i f → IsAt (of_fields fs) i f.name f.ty
field_at fs i f lt e = member_at (of_fields fs) i f.name f.ty (slice_get-map (λ (f : RecordField). (f.name, Some f.ty)) fs i ∙ ap (option_map (λ (f : RecordField). (f.name, Some f.ty))) (slice_get-get_or fs i f lt ∙ ap Some (sym e)))

pub no_field : (fs : List RecordField) (i : ℕ) → length fs ≤ i → length (of_fields fs) ≤ i
no_field fs i past = omega (arith, past, length-map {B = Member} fs (λ f. (f.name, Some f.ty)))

each_mapped : (R : Member → MemberPair → Type 0) (fs : List RecordField) (g : RecordField → Member) (h : RecordField → MemberPair) → ((i : ℕ) (f : RecordField) → slice_get fs i ≡ Some f → R (g f) (h f)) → EachPair R (map g fs) (map h fs)
each_mapped R fs g h each = record {
  count = length-map fs h ∙ sym (length-map fs g);
  each = λ i x p gx hp. go i x p (slice_get fs i) refl (sym (slice_get-map g fs i) ∙ gx) (sym (slice_get-map h fs i) ∙ hp);
}
  where
    go : (i : ℕ) (x : Member) (p : MemberPair) (o : Option RecordField) → slice_get fs i ≡ o → option_map g o ≡ Some x → option_map h o ≡ Some p → R x p
    go i x p None e gx hp = absurd (none_some None x refl gx)
    go i x p (Some f) e gx hp = subst (λ x. R x p) (same_some (Some (g f)) (g f) x refl gx) (subst (R (g f)) (same_some (Some (h f)) (h f) p refl hp) (each i f e))

-- Pairs of the fields of a record, with what a map found at their names.
pub fields_paired : {t : Tables} → IsSound t → (i j : Id TypeRecords) (e : TypeRecord) → slice_get t.records j.number ≡ Some e → (fs : List RecordField) → fs ≡ e.fields
    → (found : List ℕ → Option FieldPlace) (pairs : List MemberPair) → pairs ≡ map (pair_named found) fs
    → (s : Shape) → HasShape t (ty.Record i) s → ((ms : Members) → HasShape t (ty.Record i) (s_node k_record ms) → (x : List ℕ) → Finds t ms (found x) (field_of x ms))
    → (abi : CanonicalAbiInfo) → IsWithin abi → (u : Shape) → HasShape t (ty.Record j) u → abi ≡ layout_of u
    → ArePairsOf t (ty.Record i) (ty.Record j) k_record pairs
fields_paired {t} sound i j e is fs from found pairs pairs_are s h finds abi within u k laid = record {
  are = record {
    members = mapped (IsPair t (ty.Record j)) (λ k f g. record {
      has_type = refl;
      within = record_within t sound j e is k f (ap (λ fs. slice_get fs k) (sym from) ∙ g);
      found_live = let (ms, s_is) = record_kind t i s h in found_live t ms (found f.name) (field_of f.name ms) (finds ms (subst (HasShape t (ty.Record i)) s_is h) f.name);
    });
    whole = let (ns, u_is) = record_kind t j u k in (ns, members_have t (ty.Record j) k_record ns (subst (HasShape t (ty.Record j)) u_is k), subst IsWithin (laid ∙ ap layout_of u_is) within);
  };
  found = λ ms hs. mapped (λ x p. Finds t ms p.found (field_of x.0 ms)) (λ k f g. finds ms hs f.name);
}
  where
    node_is : node_of t (ty.Record j) ≡ Some (record_node e)
    node_is = ap (option_map record_node) is

    mapped : (R : Member → MemberPair → Type 0) → ((k : ℕ) (f : RecordField) → slice_get fs k ≡ Some f → R (f.name, Some f.ty) (pair_named found f)) → EachPair R (members_at t (ty.Record j)) pairs
    mapped R each =
        subst (λ xs. EachPair R xs pairs) (sym (ap members_of_node node_is ∙ ap of_fields (sym from)))
        (subst (EachPair R (of_fields fs)) (sym pairs_are) (each_mapped R fs (λ f. (f.name, Some f.ty)) (pair_named found) each))

-- ---- the members of a tuple

-- Of each of the first members this holds, and of its pair.
pub record PairsTo (R : Member → MemberPair → Type 0) (xs : List Member) (pairs : List MemberPair) (n : ℕ) : Type 0 where
  pub count : length pairs ≡ n
  pub each : (i : ℕ) (x : Member) (p : MemberPair) → slice_get xs i ≡ Some x → slice_get pairs i ≡ Some p → R x p

pub none_paired : {R : Member → MemberPair → Type 0} {xs : List Member} (pairs : List MemberPair) → pairs ≡ [] → PairsTo R xs pairs 0
none_paired {R} {xs} pairs none = subst (λ pairs. PairsTo R xs pairs 0) (sym none) (record { count = refl; each = λ i x p gx gp. absurd (none_some None p refl gp) })

last_or_before : (ps : List MemberPair) (q : MemberPair) (i : ℕ) (p : MemberPair) → slice_get (ps ++ q ∷ []) i ≡ Some p → (slice_get ps i ≡ Some p) ⊎ ((i ≡ length ps) × (q ≡ p))
last_or_before [] q zero p h = inr (refl, same_some (Some q) q p refl h)
last_or_before [] q (suc i) p h = absurd (none_some None p refl h)
last_or_before (r ∷ ps) q zero p h = inl h
last_or_before (r ∷ ps) q (suc i) p h = ⊎_elim inl (λ e. inr (ap suc e.0, e.1)) (last_or_before ps q i p h)

one_more_paired : {R : Member → MemberPair → Type 0} {xs : List Member} {pairs : List MemberPair} {n : ℕ} (q : MemberPair) → ((x : Member) → slice_get xs n ≡ Some x → R x q) → PairsTo R xs pairs n → PairsTo R xs (pairs ++ q ∷ []) (n + 1)
one_more_paired {R} {xs} {pairs} {n} q new r = record {
  count = omega (arith, length-append pairs (q ∷ []), r.count);
  each = λ i x p gx gp.
      ⊎_elim (λ old. r.each i x p gx old) (λ e. subst (R x) e.1 (new x (subst (λ k. slice_get xs k ≡ Some x) (e.0 ∙ r.count) gx))) (last_or_before pairs q i p gp);
}

placed_length : (n : ℕ) (ys : List InterfaceType) → length (placed n ys) ≡ length ys
placed_length n [] = refl
placed_length n (y ∷ ys) = ap suc (placed_length (suc n) ys)

placed_get : (n k : ℕ) (ys : List InterfaceType) (y : InterfaceType) → slice_get ys k ≡ Some y → slice_get (placed n ys) k ≡ Some ((n + k) ∷ [], Some y)
placed_get n k [] y h = absurd (none_some None y refl h)
placed_get n zero (z ∷ ys) y h =
    let same : n ≡ n + zero = omega arith in
    ap (λ m. Some (m ∷ [], Some z)) same ∙ ap (λ (o : Option InterfaceType). Some ((n + zero) ∷ [], o)) h
placed_get n (suc k) (z ∷ ys) y h =
    let same : suc n + k ≡ n + suc k = omega arith in
    placed_get (suc n) k ys y h ∙ ap (λ m. Some (m ∷ [], Some y)) same

pub place_at : (i : ℕ) (ys : List InterfaceType) (y : InterfaceType) → slice_get ys i ≡ Some y → slice_get (placed 0 ys) i ≡ Some (i ∷ [], Some y)
place_at i ys y h =
    let same : 0 + i ≡ i = omega arith in
    placed_get 0 i ys y h ∙ ap (λ m. Some (m ∷ [], Some y)) same

pub behind_places : (i : ℕ) (ys : List InterfaceType) → length ys ≤ i → length (placed 0 ys) ≤ i
behind_places i ys past = omega (arith, past, placed_length 0 ys)

-- A pair of a member of a destination, with the member of its name of every shape of a source.
abbrev pub IsPairOf : Tables → (from to : InterfaceType) → Kind → Member → MemberPair → Type 0
IsPairOf t from to kind x p = IsPair t to x p × ((ms : Members) → HasShape t from (s_node kind ms) → Finds t ms p.found (field_of x.0 ms))

module _ {t : Tables} (sound : IsSound t) (i j : Id TypeTuples) (e : TypeTuple) (is : slice_get t.tuples j.number ≡ Some e) (ys : List InterfaceType) (from : ys ≡ e.types) {pairs : List MemberPair} {n : ℕ} (so_far : PairsTo (IsPairOf t (ty.Tuple i) (ty.Tuple j) k_tuple) (placed 0 ys) pairs n) where
  pub member_paired : (y : InterfaceType) (found : Option FieldPlace) → slice_get ys n ≡ Some y → IsLiveFound t found
      → ((ms : Members) → HasShape t (ty.Tuple i) (s_node k_tuple ms) → Finds t ms found (field_of (n ∷ []) ms))
      → PairsTo (IsPairOf t (ty.Tuple i) (ty.Tuple j) k_tuple) (placed 0 ys) (pairs ++ record { found = found; ty = y } ∷ []) (n + 1)
  member_paired y found got live finds = one_more_paired q (λ x there. subst (λ x. IsPairOf t (ty.Tuple i) (ty.Tuple j) k_tuple x q) (same_some (slice_get (placed 0 ys) n) (n ∷ [], Some y) x (place_at n ys y got) there) here) so_far
    where
      q : MemberPair
      q = record { found = found; ty = y }

      here : IsPairOf t (ty.Tuple i) (ty.Tuple j) k_tuple (n ∷ [], Some y) q
      here = (record { has_type = refl; within = tuple_within t sound j e is n y (ap (λ ys. slice_get ys n) (sym from) ∙ got); found_live = live }, finds)

  pub members_paired : n ≡ length ys → (abi : CanonicalAbiInfo) → IsWithin abi → (u : Shape) → HasShape t (ty.Tuple j) u → abi ≡ layout_of u → ArePairsOf t (ty.Tuple i) (ty.Tuple j) k_tuple pairs
  members_paired all abi within u h laid = record {
    are = record {
      members = paired (λ k x p gx gp. (so_far.each k x p gx gp).0);
      whole = let (ns, u_is) = tuple_kind t j u h in (ns, members_have t (ty.Tuple j) k_tuple ns (subst (HasShape t (ty.Tuple j)) u_is h), subst IsWithin (laid ∙ ap layout_of u_is) within);
    };
    found = λ ms hs. paired (λ k x p gx gp. (so_far.each k x p gx gp).1 ms hs);
  }
    where
      node_is : node_of t (ty.Tuple j) ≡ Some (tuple_node e)
      node_is = ap (option_map tuple_node) is

      paired : {R : Member → MemberPair → Type 0} → ((k : ℕ) (x : Member) (p : MemberPair) → slice_get (placed 0 ys) k ≡ Some x → slice_get pairs k ≡ Some p → R x p) → EachPair R (members_at t (ty.Tuple j)) pairs
      paired {R} each =
          subst (λ xs. EachPair R xs pairs) (sym (ap members_of_node node_is ∙ ap (placed 0) (sym from)))
          (record { count = so_far.count ∙ all ∙ sym (placed_length 0 ys); each = each })

-- ---- the next member of a source that is a tuple

pub type_at : (ys : List InterfaceType) (i : ℕ) (y : InterfaceType) → slice_get ys i ≡ Some y → IsAt (placed 0 ys) i (i ∷ []) y
type_at ys i y h = member_at (placed 0 ys) i (i ∷ []) y (place_at i ys y h)

-- what was found at a place, and where the walk stands behind it
pub record NextPair (t : Tables) (from : Id TypeTuples) (ss : List InterfaceType) (n : ℕ) (found : Option FieldPlace) (end : MembersEnd) : Type 0 where
  pub live : IsLiveFound t found
  pub finds : (ms : Members) → HasShape t (ty.Tuple from) (s_node k_tuple ms) → Finds t ms found (field_of (n ∷ []) ms)
  pub ahead : (ms : Members) → HasMembers t (placed 0 ss) ms → MembersAhead t (placed 0 ss) (IsPlaceFrom (n + 1)) ms (n + 1) end

module _ (t : Tables) (from : Id TypeTuples) (ss : List InterfaceType) (n : ℕ) (end : MembersEnd) where
  abbrev StandsAt : Type 0
  StandsAt = (ms : Members) → HasMembers t (placed 0 ss) ms → MembersAhead t (placed 0 ss) (IsPlaceFrom n) ms n end

  abbrev HasSources : Type 0
  HasSources = (ms : Members) → HasShape t (ty.Tuple from) (s_node k_tuple ms) → HasMembers t (placed 0 ss) ms

  pub next_found : {found : Option FieldPlace} {end' : MembersEnd} (y : InterfaceType) → slice_get ss n ≡ Some y → IsLive t y → (abi : CanonicalAbiInfo) → ((s : Shape) → HasShape t y s → abi ≡ layout_of s)
      → StandsAt → HasSources → found ≡ Some (place_behind end abi y) → end' ≡ end_behind end abi → NextPair t from ss n found end'
  next_found {found} {end'} y got live abi laid ahead sources found_is end_is =
      let at = type_at ss n y got in
      subst (λ found. NextPair t from ss n found end') (sym found_is) (subst (NextPair t from ss n (Some (place_behind end abi y))) (sym end_is) (record {
        live = live;
        finds = λ ms h.
            let r = ahead ms (sources ms h) in
            let p = opened (n ∷ []) y at r in
            is_there (n ∷ []) y at r abi (laid p.shape p.shaped) live (n ∷ []) (from_here n) (same_place n n refl);
        ahead = λ ms has.
            let r = ahead ms has in
            let p = opened (n ∷ []) y at r in
            goes_on (n ∷ []) y at r abi (laid p.shape p.shaped) (later_places n);
      }))

  pub next_none : {found : Option FieldPlace} {end' : MembersEnd} → length (placed 0 ss) ≤ n → StandsAt → HasSources → found ≡ None → end' ≡ end → NextPair t from ss n found end'
  next_none {found} {end'} past ahead sources found_is end_is =
      subst (λ found. NextPair t from ss n found end') (sym found_is) (subst (NextPair t from ss n None) (sym end_is) (record {
        live = tt;
        finds = λ ms h. not_there past (ahead ms (sources ms h)) (n ∷ []) (from_here n);
        ahead = λ ms has. stays past (ahead ms has) (from_later n);
      }))

-- ---- records and tuples of pairs that were moved

module _ {t : Tables} {from to : InterfaceType} {kind : Kind} {pairs : List MemberPair} {sides : Sides} {src : From} {dst : To} {before after : Fuel} {first last : Writer} where
  members_are_moved : ArePairsOf t from to kind pairs → (m : MovedPairs t to pairs sides src dst before after first last)
      → (ms ns : Members) → HasShape t from (s_node kind ms) → HasShape t to (s_node kind ns) → AreCounted ms → AreCounted ns → CanMoveFields ms ns → EmitsAsking m.asks first last (MovesFields sides src dst (taken_in first) ms ns 0)
  members_are_moved p m ms ns hs hu cs cu can = m.emits ms ns (p.found ms hs) (members_have t to kind ns hu) cs cu can

  members_are_translated : ArePairsOf t from to kind pairs → (m : MovedPairs t to pairs sides src dst before after first last)
      → (ms ns : Members) → HasShape t from (s_node kind ms) → HasShape t to (s_node kind ns) → AreCounted ms → AreCounted ns → CanMoveFields ms ns → TranslatesAs t sides src dst before after m.asks (λ i r. translates_fields i r ms ns)
  members_are_translated p m ms ns hs hu cs cu can = m.translated ms ns (p.found ms hs) (members_have t to kind ns hu) cs cu can

module _ {t : Tables} {pairs slice : List MemberPair} {sides : Sides} {src : From} {dst : To} {before after : Fuel} {first last : Writer} (same : slice ≡ pairs) where
  pub record_of_pairs : (i j : Id TypeRecords) → ArePairsOf t (ty.Record i) (ty.Record j) k_record pairs → MovedPairs t (ty.Record j) slice sides src dst before after first last → MovedNode t (ty.Record i) (ty.Record j) sides src dst before after first last
  record_of_pairs i j p m =
      let are = subst (λ ps. ArePairsOf t (ty.Record i) (ty.Record j) k_record ps) (sym same) p in
      record_moved m.grew i j m.asked (members_are_moved are m) (members_are_translated are m)

  pub tuple_of_pairs : (i j : Id TypeTuples) → ArePairsOf t (ty.Tuple i) (ty.Tuple j) k_tuple pairs → MovedPairs t (ty.Tuple j) slice sides src dst before after first last → MovedTuple t (ty.Tuple i) (ty.Tuple j) sides src dst before after first last
  tuple_of_pairs i j p m =
      let are = subst (λ ps. ArePairsOf t (ty.Tuple i) (ty.Tuple j) k_tuple ps) (sym same) p in
      tuple_moved m.grew i j m.asked (members_are_moved are m) (members_are_translated are m)
