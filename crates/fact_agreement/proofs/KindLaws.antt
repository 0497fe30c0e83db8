-- Types of other kinds, which never agree.
use Rattle.std.proofs.Common.{◌≡◌, List, Option, Some, None, Bool, true, false, refl, sym, ◌∙◌, ap, subst, true≢false}
use Rattle.std.specs.Prelude.{ℕ, option_map, slice_get}
use Rattle.fact_entity.specs.declared.id.Id.{Id}
use Rattle.fact_entity.specs.declared.table.TypeRecords.{TypeRecords}
use Rattle.fact_entity.specs.declared.table.TypeVariants.{TypeVariants}
use Rattle.fact_entity.specs.declared.table.TypeTuples.{TypeTuples}
use Rattle.fact_entity.specs.declared.table.TypeFlags.{TypeFlags}
use Rattle.fact_entity.specs.declared.table.TypeEnums.{TypeEnums}
use Rattle.fact_entity.specs.declared.table.TypeOptions.{TypeOptions}
use Rattle.fact_entity.specs.declared.table.TypeResults.{TypeResults}
use Rattle.fact_entity.specs.declared.table.TypeLists.{TypeLists}
use Rattle.fact_entity.specs.declared.table.TypeMaps.{TypeMaps}
use Rattle.fact_entity.specs.declared.table.TypeFixedLengthLists.{TypeFixedLengthLists}
use Rattle.fact_entity.specs.declared.table.TypeComponentLocalErrorContextTables.{TypeComponentLocalErrorContextTables}
use Rattle.fact_entity.specs.declared.table.TypeFutureTables.{TypeFutureTables}
use Rattle.fact_entity.specs.declared.table.TypeResourceTables.{TypeResourceTables}
use Rattle.fact_entity.specs.declared.table.TypeStreamTables.{TypeStreamTables}
use Rattle.fact_types.specs.declared.interface.InterfaceType.{InterfaceType}
use Rattle.fact_types.specs.declared.interface.InterfaceType.TheVariants.{Record as t_record, Variant as t_variant, List as t_list, Tuple as t_tuple, Map as t_map, Flags as t_flags, Enum as t_enum, Option as t_option, Result as t_result, Own as t_own, Borrow as t_borrow, Future as t_future, Stream as t_stream, ErrorContext as t_error_context, FixedLengthList as t_fixed_length_list}
use Rattle.fact_types.specs.Agrees.{Agrees, AgreesPlain, AgreesBy}
use Rattle.fact_types.specs.Shapes.{Kind, k_record, k_variant, k_list, k_tuple, k_map, k_flags, k_enum, k_option, k_result, k_fixed, k_future, k_stream, Shape, s_plain, s_node, Members}
use Rattle.fact_types.specs.Tables.{Tables, Node, node_of, is_plain, record_node, variant_node, tuple_node, list_node, map_node, flags_node, enum_node, option_node, result_node, future_node, stream_node, fixed_length_list_node, HasShape}
use Rattle.fact_types.proofs.ShapeLaws.{none_some, no_node}
use Rattle.fact_agreement.specs.Told.{Tells}
use Rattle.fact_agreement.proofs.MemberLaws.{is_so, is_not}

-- ---- the type is one of a kind
abbrev pub IsOf : InterfaceType → Kind → Type 0
IsOf ty k_record = (i : Id TypeRecords) × (ty ≡ t_record i)
IsOf ty k_variant = (i : Id TypeVariants) × (ty ≡ t_variant i)
IsOf ty k_list = (i : Id TypeLists) × (ty ≡ t_list i)
IsOf ty k_tuple = (i : Id TypeTuples) × (ty ≡ t_tuple i)
IsOf ty k_map = (i : Id TypeMaps) × (ty ≡ t_map i)
IsOf ty k_flags = (i : Id TypeFlags) × (ty ≡ t_flags i)
IsOf ty k_enum = (i : Id TypeEnums) × (ty ≡ t_enum i)
IsOf ty k_option = (i : Id TypeOptions) × (ty ≡ t_option i)
IsOf ty k_result = (i : Id TypeResults) × (ty ≡ t_result i)
IsOf ty (k_fixed n) = (i : Id TypeFixedLengthLists) × (ty ≡ t_fixed_length_list i)
IsOf ty (k_future t n) = (i : Id TypeFutureTables) × (ty ≡ t_future i)
IsOf ty (k_stream t n) = (i : Id TypeStreamTables) × (ty ≡ t_stream i)

-- what holds of the kind of each entry holds of the kind of the node of an entry
of_each : {E : Type 0} (P : Kind → Type 0) (f : E → Node) → ((e : E) → P (f e).kind) → (o : Option E) (n : Node) → option_map f o ≡ Some n → P n.kind
of_each P f g None n h = cc
of_each P f g (Some e) n h = let same : f e ≡ n = cc in subst (λ (n : Node). P n.kind) same (g e)

-- a type is of the kind of the entry that it names
is_of : (t : Tables) (ty : InterfaceType) (n : Node) → node_of t ty ≡ Some n → IsOf ty n.kind
is_of t (t_record i) = of_each (IsOf (t_record i)) record_node (λ e. (i, refl)) _
is_of t (t_variant i) = of_each (IsOf (t_variant i)) variant_node (λ e. (i, refl)) _
is_of t (t_list i) = of_each (IsOf (t_list i)) list_node (λ e. (i, refl)) _
is_of t (t_tuple i) = of_each (IsOf (t_tuple i)) tuple_node (λ e. (i, refl)) _
is_of t (t_map i) = of_each (IsOf (t_map i)) map_node (λ e. (i, refl)) _
is_of t (t_flags i) = of_each (IsOf (t_flags i)) flags_node (λ e. (i, refl)) _
is_of t (t_enum i) = of_each (IsOf (t_enum i)) enum_node (λ e. (i, refl)) _
is_of t (t_option i) = of_each (IsOf (t_option i)) option_node (λ e. (i, refl)) _
is_of t (t_result i) = of_each (IsOf (t_result i)) result_node (λ e. (i, refl)) _
is_of t (t_future i) = of_each (IsOf (t_future i)) (future_node t.futures i.number) (λ e. (i, refl)) _
is_of t (t_stream i) = of_each (IsOf (t_stream i)) (stream_node t.streams i.number) (λ e. (i, refl)) _
is_of t (t_fixed_length_list i) = of_each (IsOf (t_fixed_length_list i)) fixed_length_list_node (λ e. (i, refl)) _
is_of t ty = λ n h. absurd (none_some None n refl h)

-- ---- shapes that agree are of one kind
agree_kinds : (ty : InterfaceType) (k l : Kind) (ms ns : Members) (F : Members → Type 0) (C : List ℕ → Option Shape → Type 0) (P : Members → Type 0) → AgreesBy l (s_node k ms) ns F C P → IsOf ty l → IsOf ty k
agree_kinds ty k_record k_record ms ns F C P h i = i
agree_kinds ty k_variant k_variant ms ns F C P h i = i
agree_kinds ty k_list k_list ms ns F C P h i = i
agree_kinds ty k_tuple k_tuple ms ns F C P h i = i
agree_kinds ty k_map k_map ms ns F C P h i = i
agree_kinds ty k_flags k_flags ms ns F C P h i = i
agree_kinds ty k_enum k_enum ms ns F C P h i = i
agree_kinds ty k_option k_option ms ns F C P h i = i
agree_kinds ty k_result k_result ms ns F C P h i = i
agree_kinds ty (k_fixed n) (k_fixed m) ms ns F C P h i = i
agree_kinds ty (k_future u a) (k_future v b) ms ns F C P h i = i
agree_kinds ty (k_stream u a) (k_stream v b) ms ns F C P h i = i
agree_kinds ty k l ms ns F C P h i = absurd h

not_plain : (q : InterfaceType) (k : Kind) (ms : Members) → AgreesPlain q (s_node k ms) → ⊥
not_plain (t_own j) k ms h = h
not_plain (t_borrow j) k ms h = h
not_plain (t_error_context j) k ms h = h
not_plain q k ms h = h

other_shape : (t : Tables) (to : InterfaceType) (k : Kind) (ms : Members) → (IsOf to k → ⊥) → (d : Shape) → HasShape t to d → Agrees (s_node k ms) d → ⊥
other_shape t to k ms apart (s_plain q) h a = not_plain q k ms a
other_shape t to k ms apart (s_node l ns) h a = apart (agree_kinds to k l ms ns _ _ _ a (subst (IsOf to) h.2 (is_of t to h.0 h.1)))

-- a type of entries does not agree with a type that is not of their kinds
pub other_kind : {E : Type 0} (t : Tables) (from to : InterfaceType) (f : E → Node) (o : Option E) → is_plain from ≡ false → node_of t from ≡ option_map f o → ((e : E) → IsOf to (f e).kind → ⊥) → Tells t from to false
other_kind t from to f o has named apart (s_plain p) d h g = absurd (true≢false (sym h.1 ∙ ap is_plain (sym h.0) ∙ has))
other_kind t from to f o has named apart (s_node k ms) d h g =
    is_not (other_shape t to k ms (subst (λ k. IsOf to k → ⊥) h.2 (of_each (λ k. IsOf to k → ⊥) f apart o h.0 (sym named ∙ h.1))) d g)

-- ---- handles, of which two agree where they are of one kind
pub not_node : (p : InterfaceType) (k : Kind) (ns : Members) → Agrees (s_plain p) (s_node k ns) → ⊥
not_node p k_record ns h = h
not_node p k_variant ns h = h
not_node p k_list ns h = h
not_node p k_tuple ns h = h
not_node p k_map ns h = h
not_node p k_flags ns h = h
not_node p k_enum ns h = h
not_node p k_option ns h = h
not_node p k_result ns h = h
not_node p (k_future u j) ns h = h
not_node p (k_stream u j) ns h = h
not_node p (k_fixed m) ns h = h

plain_agree : (t : Tables) (from to : InterfaceType) → is_plain from ≡ true → is_plain to ≡ true → AgreesPlain to (s_plain from) → Tells t from to true
plain_agree t from to p q a (s_node k ms) d h g = absurd (none_some (node_of t from) h.0 (no_node t from p) h.1)
plain_agree t from to p q a (s_plain x) (s_node l ns) h g = absurd (none_some (node_of t to) g.0 (no_node t to q) g.1)
plain_agree t from to p q a (s_plain x) (s_plain y) h g = is_so (subst (λ x. AgreesPlain y (s_plain x)) h.0 (subst (λ y. AgreesPlain y (s_plain from)) g.0 a))

plain_differ : (t : Tables) (from to : InterfaceType) → is_plain from ≡ true → (AgreesPlain to (s_plain from) → ⊥) → Tells t from to false
plain_differ t from to p a (s_node k ms) d h g = absurd (none_some (node_of t from) h.0 (no_node t from p) h.1)
plain_differ t from to p a (s_plain x) (s_node l ns) h g = is_not (not_node x l ns)
plain_differ t from to p a (s_plain x) (s_plain y) h g = is_not (λ b. a (subst (λ y. AgreesPlain y (s_plain from)) (sym g.0) (subst (λ x. AgreesPlain y (s_plain x)) (sym h.0) b)))

-- handles that name no entry
module _ {X : Type 0} (v : X → InterfaceType) (plain : (x : X) → is_plain (v x) ≡ true) (t : Tables) (from to : InterfaceType) (b : Bool) (i : X) (is : from ≡ v i) where
  pub handles_agree : ((x y : X) → AgreesPlain (v y) (s_plain (v x))) → (j : X) → to ≡ v j → b ≡ true → Tells t from to b
  handles_agree agree j there so =
      subst (Tells t from to) (sym so) (subst (λ p. Tells t p to true) (sym is) (subst (λ q. Tells t (v i) q true) (sym there) (plain_agree t (v i) (v j) (plain i) (plain j) (agree i j))))

  pub handles_differ : ((x : X) (q : InterfaceType) → ((y : X) → q ≡ v y → ⊥) → AgreesPlain q (s_plain (v x)) → ⊥) → ((y : X) → to ≡ v y → ⊥) → b ≡ false → Tells t from to b
  handles_differ differ other not_so = subst (Tells t from to) (sym not_so) (subst (λ p. Tells t p to false) (sym is) (plain_differ t (v i) to (plain i) (differ i to other)))

pub other_than_own : (x : Id TypeResourceTables) (q : InterfaceType) → ((y : Id TypeResourceTables) → q ≡ t_own y → ⊥) → AgreesPlain q (s_plain (t_own x)) → ⊥
other_than_own x (t_own j) f a = f j refl
other_than_own x q f a = f x (sym a)

pub other_than_borrow : (x : Id TypeResourceTables) (q : InterfaceType) → ((y : Id TypeResourceTables) → q ≡ t_borrow y → ⊥) → AgreesPlain q (s_plain (t_borrow x)) → ⊥
other_than_borrow x (t_borrow j) f a = f j refl
other_than_borrow x q f a = f x (sym a)

pub other_than_error_context : (x : Id TypeComponentLocalErrorContextTables) (q : InterfaceType) → ((y : Id TypeComponentLocalErrorContextTables) → q ≡ t_error_context y → ⊥) → AgreesPlain q (s_plain (t_error_context x)) → ⊥
other_than_error_context x (t_error_context j) f a = f j refl
other_than_error_context x q f a = f x (sym a)

-- two ends of futures, or two of streams, agree
abbrev AreEnds : Kind → Kind → Type 0
AreEnds (k_future u a) (k_future v b) = Unit {0}
AreEnds (k_stream u a) (k_stream v b) = Unit {0}
AreEnds k l = ⊥

ends_agree : (k l : Kind) (ms ns : Members) → AreEnds k l → Agrees (s_node k ms) (s_node l ns)
ends_agree (k_future u a) (k_future v b) ms ns e = tt
ends_agree (k_stream u a) (k_stream v b) ms ns e = tt
ends_agree k l ms ns e = absurd e

module _ {E : Type 0} (t : Tables) (from to : InterfaceType) (f g : E → Node) (o p : Option E) (has : is_plain from ≡ false) (also : is_plain to ≡ false) (named : node_of t from ≡ option_map f o) (there : node_of t to ≡ option_map g p)
    (ends : (a b : E) → AreEnds (f a).kind (g b).kind) where
  ends_told : Tells t from to true
  ends_told (s_plain x) d h k = absurd (true≢false (sym h.1 ∙ ap is_plain (sym h.0) ∙ has))
  ends_told (s_node k ms) (s_plain y) h i = absurd (true≢false (sym i.1 ∙ ap is_plain (sym i.0) ∙ also))
  ends_told (s_node k ms) (s_node l ns) h i =
      let one = λ (b : E). of_each (λ k. AreEnds k (g b).kind) f (λ a. ends a b) o h.0 (sym named ∙ h.1) in
      let both : AreEnds h.0.kind i.0.kind = of_each (AreEnds h.0.kind) g one p i.0 (sym there ∙ i.1) in
      is_so (ends_agree k l ms ns (subst (λ k. AreEnds k l) h.2 (subst (AreEnds h.0.kind) i.2 both)))

module _ (t : Tables) (from to : InterfaceType) (b : Bool) where
  pub futures_agree : (i j : Id TypeFutureTables) → from ≡ t_future i → to ≡ t_future j → b ≡ true → Tells t from to b
  futures_agree i j is there so =
      subst (Tells t from to) (sym so) (subst (λ p. Tells t p to true) (sym is) (subst (λ q. Tells t (t_future i) q true) (sym there)
      (ends_told t (t_future i) (t_future j) (future_node t.futures i.number) (future_node t.futures j.number) (slice_get t.future_tables i.number) (slice_get t.future_tables j.number) refl refl refl refl (λ a b. tt))))

  pub futures_differ : (i : Id TypeFutureTables) → from ≡ t_future i → ((y : Id TypeFutureTables) → to ≡ t_future y → ⊥) → b ≡ false → Tells t from to b
  futures_differ i is other not_so =
      subst (Tells t from to) (sym not_so) (subst (λ p. Tells t p to false) (sym is) (other_kind t (t_future i) to (future_node t.futures i.number) (slice_get t.future_tables i.number) refl refl (λ e is_of. other is_of.0 is_of.1)))

  pub streams_agree : (i j : Id TypeStreamTables) → from ≡ t_stream i → to ≡ t_stream j → b ≡ true → Tells t from to b
  streams_agree i j is there so =
      subst (Tells t from to) (sym so) (subst (λ p. Tells t p to true) (sym is) (subst (λ q. Tells t (t_stream i) q true) (sym there)
      (ends_told t (t_stream i) (t_stream j) (stream_node t.streams i.number) (stream_node t.streams j.number) (slice_get t.stream_tables i.number) (slice_get t.stream_tables j.number) refl refl refl refl (λ a b. tt))))

  pub streams_differ : (i : Id TypeStreamTables) → from ≡ t_stream i → ((y : Id TypeStreamTables) → to ≡ t_stream y → ⊥) → b ≡ false → Tells t from to b
  streams_differ i is other not_so =
      subst (Tells t from to) (sym not_so) (subst (λ p. Tells t p to false) (sym is) (other_kind t (t_stream i) to (stream_node t.streams i.number) (slice_get t.stream_tables i.number) refl refl (λ e is_of. other is_of.0 is_of.1)))
