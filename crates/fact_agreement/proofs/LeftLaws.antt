-- What is left to compare, kind by kind.
use Rattle.std.proofs.Common.{◌≡◌, ◌↔◌, ◌≤◌, ℕ, List, [], ◌∷◌, Option, Some, None, Bool, refl, sym, ◌∙◌, ap, subst, arith}
use Rattle.std.specs.Prelude.{slice_get, option_map, IsTrue}
use Rattle.fact_entity.specs.declared.id.Id.{Id}
use Rattle.fact_entity.specs.declared.table.TypeRecords.{TypeRecords}
use Rattle.fact_entity.specs.declared.table.TypeVariants.{TypeVariants}
use Rattle.fact_entity.specs.declared.table.TypeTuples.{TypeTuples}
use Rattle.fact_entity.specs.declared.table.TypeOptions.{TypeOptions}
use Rattle.fact_entity.specs.declared.table.TypeResults.{TypeResults}
use Rattle.fact_entity.specs.declared.table.TypeLists.{TypeLists}
use Rattle.fact_entity.specs.declared.table.TypeMaps.{TypeMaps}
use Rattle.fact_entity.specs.declared.table.TypeFixedLengthLists.{TypeFixedLengthLists}
use Rattle.fact_types.specs.declared.interface.InterfaceType.{InterfaceType}
use Rattle.fact_types.specs.declared.interface.InterfaceType.TheVariants.{Record as t_record, Variant as t_variant, List as t_list, Tuple as t_tuple, Map as t_map, Option as t_option, Result as t_result, FixedLengthList as t_fixed_length_list}
use Rattle.fact_types.specs.declared.kinds.RecordField.{RecordField}
use Rattle.fact_types.specs.declared.kinds.TypeRecord.{TypeRecord}
use Rattle.fact_types.specs.declared.kinds.TypeTuple.{TypeTuple}
use Rattle.fact_types.specs.declared.kinds.TypeOption.{TypeOption}
use Rattle.fact_types.specs.declared.kinds.TypeResult.{TypeResult}
use Rattle.fact_types.specs.declared.kinds.TypeList.{TypeList}
use Rattle.fact_types.specs.declared.kinds.TypeMap.{TypeMap}
use Rattle.fact_types.specs.declared.kinds.TypeFixedLengthList.{TypeFixedLengthList}
use Rattle.fact_types.specs.Ordered.{VariantType}
use Rattle.fact_types.specs.Agrees.{Agrees, AgreesPlaces}
use Rattle.fact_types.specs.Heights.{height}
use Rattle.fact_types.specs.Shapes.{none_name, some_name, ok_name, error_name, s_node, Members}
use Rattle.fact_types.specs.Tables.{Tables, Node, node_of, record_node, variant_node, tuple_node, list_node, map_node, option_node, result_node, fixed_length_list_node, placed, IsLive, HasMembers, IsSound}
use Rattle.fact_agreement.specs.Left.{above, IsLeft, AreLeft}
use Rattle.fact_agreement.specs.Told.{AreLive, of_fields, TellsAll, TellsRecords, TellsCases}
use Rattle.fact_agreement.proofs.MeasureLaws.{over_member, above_node}
use Rattle.fact_agreement.proofs.MemberLaws.{by_members, one_place, two_places, all_places}

module _ (t : Tables) (k : IsSound t) (from to : InterfaceType) (n m : Node) (l : IsLive t from) (e : node_of t from ≡ Some n) (f : node_of t to ≡ Some m) where
  -- types that name entries, of which all members are compared together
  is_left : (R : Bool → Type 0) → ((b : Bool) → R b → (ms ns : Members) → HasMembers t n.members ms → HasMembers t m.members ns → (IsTrue b ↔ Agrees (s_node n.kind ms) (s_node m.kind ns))) → IsLeft t from to n.members m.members R
  is_left R g = record {
    from_live = (k.stands from n e).live;
    to_live = (k.stands to m f).live;
    lower = above_node t k from n l e;
    tells = λ b r. by_members t from to n m e f b (g b r);
  }

  -- types whose members pair up by place
  abbrev ByPlace : Type 0
  ByPlace = (b : Bool) (ms ns : Members) → (IsTrue b ↔ AgreesPlaces ms ns) → (IsTrue b ↔ Agrees (s_node n.kind ms) (s_node m.kind ns))

  one_left : (x y : List ℕ) (p : Option InterfaceType × Option InterfaceType) → n.members ≡ (x, p.0) ∷ [] → m.members ≡ (y, p.1) ∷ [] → ByPlace → AreLeft t from to p (None, None)
  one_left x y p i j g =
      let first : AreLive t ((x, p.0) ∷ []) = subst (AreLive t) i (k.stands from n e).live in
      let other : AreLive t ((y, p.1) ∷ []) = subst (AreLive t) j (k.stands to m f).live in
      let low : above t ((x, p.0) ∷ []) ≤ height t from = subst (λ xs. above t xs ≤ height t from) i (above_node t k from n l e) in
      record {
        first_live = (first 0 (x, p.0) (omega arith), other 0 (y, p.1) (omega arith));
        second_live = (tt, tt);
        first_lower = omega (arith, low, over_member t ((x, p.0) ∷ []) 0 (x, p.0) refl);
        second_lower = omega arith;
        tells = λ b r. by_members t from to n m e f b (λ ms ns a c. g b ms ns (one_place t x y p b r ms ns (subst (λ xs. HasMembers t xs ms) i a) (subst (λ xs. HasMembers t xs ns) j c)));
      }

  two_left : (x y u v : List ℕ) (p q : Option InterfaceType × Option InterfaceType) → n.members ≡ (x, p.0) ∷ (u, q.0) ∷ [] → m.members ≡ (y, p.1) ∷ (v, q.1) ∷ [] → ByPlace → AreLeft t from to p q
  two_left x y u v p q i j g =
      let first : AreLive t ((x, p.0) ∷ (u, q.0) ∷ []) = subst (AreLive t) i (k.stands from n e).live in
      let other : AreLive t ((y, p.1) ∷ (v, q.1) ∷ []) = subst (AreLive t) j (k.stands to m f).live in
      let low : above t ((x, p.0) ∷ (u, q.0) ∷ []) ≤ height t from = subst (λ xs. above t xs ≤ height t from) i (above_node t k from n l e) in
      record {
        first_live = (first 0 (x, p.0) (omega arith), other 0 (y, p.1) (omega arith));
        second_live = (first 1 (u, q.0) (omega arith), other 1 (v, q.1) (omega arith));
        first_lower = omega (arith, low, over_member t ((x, p.0) ∷ (u, q.0) ∷ []) 0 (x, p.0) refl);
        second_lower = omega (arith, low, over_member t ((x, p.0) ∷ (u, q.0) ∷ []) 1 (u, q.0) refl);
        tells = λ b r. by_members t from to n m e f b (λ ms ns a c. g b ms ns (two_places t x y u v p q b r ms ns (subst (λ xs. HasMembers t xs ms) i a) (subst (λ xs. HasMembers t xs ns) j c)));
      }

module _ (t : Tables) (k : IsSound t) (to : InterfaceType) where
  -- what the second type names
  named_by : {E X : Type 0} (v : X → InterfaceType) (f : E → Node) (xs : List E) (number : X → ℕ) → ((j : X) → node_of t (v j) ≡ option_map f (slice_get xs (number j))) → (j : X) (e : E) → to ≡ v j → slice_get xs (number j) ≡ Some e → node_of t to ≡ Some (f e)
  named_by v f xs number h j e is at = ap (node_of t) is ∙ h j ∙ ap (option_map f) at

  pub left_of_records : (i j : Id TypeRecords) (e f : TypeRecord) (fs gs : List RecordField) → IsLive t (t_record i) → slice_get t.records i.number ≡ Some e → to ≡ t_record j → slice_get t.records j.number ≡ Some f
      → fs ≡ e.fields → gs ≡ f.fields → IsLeft t (t_record i) to (of_fields fs) (of_fields gs) (TellsRecords t fs gs)
  left_of_records i j e f fs gs l at is there p q =
      subst (λ fs. IsLeft t (t_record i) to (of_fields fs) (of_fields gs) (TellsRecords t fs gs)) (sym p) (subst (λ gs. IsLeft t (t_record i) to (of_fields e.fields) (of_fields gs) (TellsRecords t e.fields gs)) (sym q)
      (is_left t k (t_record i) to (record_node e) (record_node f) l (ap (option_map record_node) at) (named_by t_record record_node t.records (λ j. j.number) (λ j. refl) j f is there) (TellsRecords t e.fields f.fields) (λ b r. r)))

  pub left_of_variants : (i j : Id TypeVariants) (e f : VariantType) (xs ys : List (List ℕ × Option InterfaceType)) → IsLive t (t_variant i) → slice_get t.variants i.number ≡ Some e → to ≡ t_variant j → slice_get t.variants j.number ≡ Some f
      → xs ≡ e.cases → ys ≡ f.cases → IsLeft t (t_variant i) to xs ys (TellsCases t xs ys)
  left_of_variants i j e f xs ys l at is there p q =
      subst (λ xs. IsLeft t (t_variant i) to xs ys (TellsCases t xs ys)) (sym p) (subst (λ ys. IsLeft t (t_variant i) to e.cases ys (TellsCases t e.cases ys)) (sym q)
      (is_left t k (t_variant i) to (variant_node e) (variant_node f) l (ap (option_map variant_node) at) (named_by t_variant variant_node t.variants (λ j. j.number) (λ j. refl) j f is there) (TellsCases t e.cases f.cases) (λ b r. r)))

  pub left_of_tuples : (i j : Id TypeTuples) (e f : TypeTuple) (xs ys : List InterfaceType) → IsLive t (t_tuple i) → slice_get t.tuples i.number ≡ Some e → to ≡ t_tuple j → slice_get t.tuples j.number ≡ Some f
      → xs ≡ e.types → ys ≡ f.types → IsLeft t (t_tuple i) to (placed 0 xs) (placed 0 ys) (TellsAll t xs ys)
  left_of_tuples i j e f xs ys l at is there p q =
      subst (λ xs. IsLeft t (t_tuple i) to (placed 0 xs) (placed 0 ys) (TellsAll t xs ys)) (sym p) (subst (λ ys. IsLeft t (t_tuple i) to (placed 0 e.types) (placed 0 ys) (TellsAll t e.types ys)) (sym q)
      (is_left t k (t_tuple i) to (tuple_node e) (tuple_node f) l (ap (option_map tuple_node) at) (named_by t_tuple tuple_node t.tuples (λ j. j.number) (λ j. refl) j f is there) (TellsAll t e.types f.types) (all_places t e.types f.types)))

  pub left_of_lists : (i j : Id TypeLists) (e f : TypeList) → IsLive t (t_list i) → slice_get t.lists i.number ≡ Some e → to ≡ t_list j → slice_get t.lists j.number ≡ Some f
      → AreLeft t (t_list i) to (Some e.element, Some f.element) (None, None)
  left_of_lists i j e f l at is there = one_left t k (t_list i) to (list_node e) (list_node f) l (ap (option_map list_node) at) (named_by t_list list_node t.lists (λ j. j.number) (λ j. refl) j f is there) [] [] _ refl refl (λ b ms ns h. h)

  pub left_of_fixed_length_lists : (i j : Id TypeFixedLengthLists) (e f : TypeFixedLengthList) → IsLive t (t_fixed_length_list i) → slice_get t.fixed_length_lists i.number ≡ Some e → to ≡ t_fixed_length_list j
      → slice_get t.fixed_length_lists j.number ≡ Some f → e.size ≡ f.size → AreLeft t (t_fixed_length_list i) to (Some e.element, Some f.element) (None, None)
  left_of_fixed_length_lists i j e f l at is there same =
      one_left t k (t_fixed_length_list i) to (fixed_length_list_node e) (fixed_length_list_node f) l (ap (option_map fixed_length_list_node) at)
      (named_by t_fixed_length_list fixed_length_list_node t.fixed_length_lists (λ j. j.number) (λ j. refl) j f is there) [] [] _ refl refl (λ b ms ns h. (λ g. (same, h.0 g), λ g. h.1 g.1))

  pub left_of_maps : (i j : Id TypeMaps) (e f : TypeMap) → IsLive t (t_map i) → slice_get t.maps i.number ≡ Some e → to ≡ t_map j → slice_get t.maps j.number ≡ Some f
      → AreLeft t (t_map i) to (Some e.key, Some f.key) (Some e.value, Some f.value)
  left_of_maps i j e f l at is there = two_left t k (t_map i) to (map_node e) (map_node f) l (ap (option_map map_node) at) (named_by t_map map_node t.maps (λ j. j.number) (λ j. refl) j f is there) (0 ∷ []) (0 ∷ []) (1 ∷ []) (1 ∷ []) _ _ refl refl (λ b ms ns h. h)

  pub left_of_options : (i j : Id TypeOptions) (e f : TypeOption) → IsLive t (t_option i) → slice_get t.options i.number ≡ Some e → to ≡ t_option j → slice_get t.options j.number ≡ Some f
      → AreLeft t (t_option i) to (None, None) (Some e.ty, Some f.ty)
  left_of_options i j e f l at is there = two_left t k (t_option i) to (option_node e) (option_node f) l (ap (option_map option_node) at) (named_by t_option option_node t.options (λ j. j.number) (λ j. refl) j f is there) none_name none_name some_name some_name _ _ refl refl (λ b ms ns h. h)

  pub left_of_results : (i j : Id TypeResults) (e f : TypeResult) → IsLive t (t_result i) → slice_get t.results i.number ≡ Some e → to ≡ t_result j → slice_get t.results j.number ≡ Some f
      → AreLeft t (t_result i) to (e.ok, f.ok) (e.err, f.err)
  left_of_results i j e f l at is there = two_left t k (t_result i) to (result_node e) (result_node f) l (ap (option_map result_node) at) (named_by t_result result_node t.results (λ j. j.number) (λ j. refl) j f is there) ok_name ok_name error_name error_name _ _ refl refl (λ b ms ns h. h)
