-- From what is moved behind checks to the values of types: records, tuples, flags, enums, and all of them with their checks.
use Rattle.std.proofs.Common.{◌≡◌, ◌≢◌, ℕ, ◌≤◌, Bool, List, [], ◌++◌, Option, Some, None, refl, sym, ap, ◌∙◌, subst, arith, inl, inr, ◌-◌, true}
use Rattle.std.specs.Prelude.{unwrap_or}
use Rattle.std.proofs.lemmas.Bool.{true≢false}
use Rattle.fact_entity.specs.declared.id.Id.{Id}
use Rattle.fact_entity.specs.declared.table.TypeFixedLengthLists.{TypeFixedLengthLists}
use Rattle.fact_entity.specs.declared.table.TypeLists.{TypeLists}
use Rattle.fact_entity.specs.declared.table.TypeMaps.{TypeMaps}
use Rattle.fact_entity.specs.declared.table.TypeRecords.{TypeRecords}
use Rattle.fact_entity.specs.declared.table.TypeTuples.{TypeTuples}
use Rattle.fact_entity.specs.declared.table.TypeFlags.{TypeFlags as FlagsTable}
use Rattle.fact_entity.specs.declared.table.TypeEnums.{TypeEnums}
use Rattle.fact_entity.specs.declared.table.TypeOptions.{TypeOptions}
use Rattle.fact_entity.specs.declared.table.TypeResults.{TypeResults}
use Rattle.fact_entity.specs.declared.table.TypeVariants.{TypeVariants}
use Rattle.fact_wasm.specs.declared.types.ValType.{ValType}
use Rattle.fact_wasm.specs.declared.instr.Instr.{Instr}
use Rattle.fact_wasm.specs.declared.module.WasmModule.{WasmModule}
use Rattle.fact_wasm.specs.Ranges.{AreRanged}
use Rattle.fact_types.specs.declared.fields.FieldPlace.{FieldPlace}
use Rattle.fact_types.specs.declared.flats.FlatType.{FlatType}
use Rattle.fact_types.specs.declared.interface.InterfaceType.{InterfaceType}
use Rattle.fact_types.specs.declared.interface.InterfaceType.TheVariants as ty
use Rattle.fact_types.specs.Fields.{Field, IsFound, Finds}
use Rattle.fact_types.specs.FlatShapes.{IsCounted, AreCounted}
use Rattle.fact_types.specs.Heights.{height}
use Rattle.fact_types.specs.Layout.{extent}
use Rattle.fact_types.specs.Shapes.{k_record, k_variant, k_list, k_tuple, k_map, k_flags, k_enum, k_fixed, k_option, k_result, k_future, k_stream, Shape, s_plain, s_node, Members, layout_of, ends_of}
use Rattle.fact_types.specs.Signatures.{width}
use Rattle.fact_types.specs.Tables.{Tables, HasShape}
use Rattle.fact_types.proofs.PlaceLaws.{ends_within}
use Rattle.fact_actions.specs.Moves.{move, aligned_node}
use Rattle.fact_actions.specs.Running.{ImportPlaces}
use Rattle.fact_actions.specs.Sides.{LiftLowerOptions, Transfer, Source, Target, width_of_side}
use Rattle.fact_actions.specs.Outlining.{translates_fields}
use Rattle.fact_code_laws.specs.Places.{From, InLocals, InMemory, To, ToLocals, ToMemory, FromTyped, ToTyped, transfer}
use Rattle.fact_code_laws.proofs.Aligned.{moves_checked}
use Rattle.fact_code_laws.proofs.FieldMoves.{moves_less, moves_same, moves_unpaid, moves_visited}
use Rattle.fact_emit.specs.declared.places.Sides.{Sides}
use Rattle.fact_emit.specs.declared.writer.Writer.{Writer}
use Rattle.fact_emit.specs.Checks.{ChecksFrom, ChecksTo, ChecksPlaces}
use Rattle.fact_emit.specs.Asked.{AskedHelper}
use Rattle.fact_emit.specs.Emits.{Grew, GrewAsking, Emits, EmitsAsking}
use Rattle.fact_emit.specs.Fitting.{CanRead, CanWrite, node_moves, MovesShape, MovesNode, MovesTuple, MovesFields}
use Rattle.fact_emit.specs.Handles.{handle_transfer}
use Rattle.fact_emit.specs.Movable.{CanMove, CanMoveFields, is_scalar}
use Rattle.fact_emit.specs.Parts.{from_behind, bytes_by}
use Rattle.fact_emit.specs.Places.{setting_of}
use Rattle.fact_emit.specs.Scalars.{MovedScalar}
use Rattle.fact_emit.specs.Writers.{taken_in, Wrote}
use Rattle.fact_emit.proofs.CheckMoves.{places_emits}
use Rattle.fact_emit.proofs.Emitting.{emits_as, emits_then, grew_on, grew_wrote}
use Rattle.fact_emit.proofs.ScalarMoves.{reached}
use Rattle.fact_kinds.specs.Asks.{AreAsked, MovesHelped}
use Rattle.fact_kinds.specs.Kinds.{AreLeaves, is_leaf}
use Rattle.fact_kinds.specs.Moved.{MovedBetween, MovedFrom, MovedNode, MovedTuple, MovedInPlace, MovedValue, CheckedPlaces, IsLiveFound, MovedMember, AreSmall}
use Rattle.fact_kinds.specs.declared.fuel.Fuel.{Fuel}
use Rattle.fact_kinds.specs.Translations.{TranslatesAs, place_of_source}
use Rattle.fact_kinds.proofs.Alignments.{aligns_shape}
use Rattle.fact_kinds.proofs.Found.{flat_is, some_within}
use Rattle.fact_kinds.proofs.HandleMoves.{no_future, no_stream, no_transfer}
use Rattle.fact_kinds.proofs.TypeKinds.{record_kind, tuple_kind, record_type, tuple_type, flags_type, enum_type, variant_type, option_type, result_type, list_type, map_type, fixed_type}
use Rattle.fact_kinds.proofs.WithinRooms.{within_less}
use Rattle.fact_kinds.proofs.Translating.{IsCostOf, charged_translated, part_place, translated_at}
use Rattle.fact_kinds.proofs.TranslatedShapes.{leaf_translated, translated_shapes}

-- ---- the checks of places

module _ (M : WasmModule) (p : ImportPlaces) (locals : List ValType) (o : LiftLowerOptions) (memory64 : Bool) (types : List FlatType) (bytes : ℕ) where
  source_typed : (src : From) → CanRead M p locals o memory64 src types bytes → FromTyped locals memory64 src
  source_typed (InLocals slots) c = c.typed
  source_typed (InMemory memory base offset) c = record { local = c.local; reached = reached memory64 offset bytes c.reach }

  target_typed : (dst : To) → CanWrite M p locals o memory64 dst types bytes → ToTyped locals memory64 dst
  target_typed (ToLocals slots) c = c.typed
  target_typed (ToMemory memory base offset) c = record { local = c.local; reached = reached memory64 offset bytes c.reach }

-- checks that were written by the alignments of two types
pub places_checked : {t : Tables} {from to : InterfaceType} {sides : Sides} {src : From} {dst : To} {a b c : Writer} {from_align to_align : ℕ}
    → ((s : Shape) → HasShape t from s → from_align ≡ (extent (width sides.from.memory64) (layout_of s)).align) → ((u : Shape) → HasShape t to u → to_align ≡ (extent (width sides.to.memory64) (layout_of u)).align)
    → AreSmall t from sides.from.memory64 → AreSmall t to sides.to.memory64
    → Emits a b (ChecksFrom sides.debug sides.from.memory64 from_align src) → Emits b c (ChecksTo sides.debug sides.to.memory64 to_align dst) → CheckedPlaces t from to sides src dst a c
places_checked {sides = sides} {src} {dst} {a} {b} {c} from_is to_is from_small to_small x y = record {
  grew = grew_on x.grew y.grew;
  emits = λ s u hs hu. places_emits
      (subst (λ n. Emits a b (ChecksFrom sides.debug sides.from.memory64 n src)) (from_is s hs) x)
      (subst (λ n. Emits b c (ChecksTo sides.debug sides.to.memory64 n dst)) (to_is u hu) y);
  from_small = from_small;
  to_small = to_small;
}

-- a node behind the checks of its places is the move of its value
node_is : (tr : Transfer) (t u : Shape) (s : Source) (d : Target) → aligned_node tr t u s d (node_moves t u tr s d) ≡ move tr t u s d
unfolding move
node_is tr t (s_plain u) s d = refl
node_is tr t (s_node k ns) s d = refl

-- The checks of the places of a node, and its code.
checked_node : {sides : Sides} {src : From} {dst : To} {taken : ℕ → Bool} (t u : Shape) (M : WasmModule) (p : ImportPlaces) (locals : List ValType) (c k : List Instr)
    → ChecksPlaces sides.debug sides.from.memory64 sides.to.memory64 (extent (width sides.from.memory64) (layout_of t)).align (extent (width sides.to.memory64) (layout_of u)).align src dst M p locals c
    → MovesNode sides src dst taken t u M p locals k → MovesShape sides src dst taken t u M p locals (c ++ k)
checked_node {sides} {src} {dst} {taken} t u M p locals c k h m =
    subst (λ c. MovesShape sides src dst taken t u M p locals (c ++ k)) (sym h.is) (record {
      moves = λ a b rooms used using fit.
          let S = setting_of sides a b rooms M p locals in
          moves_same (node_is (transfer S) t u) (moves_checked (record {
            from_is = ap (λ m. (extent (width m) (layout_of t)).align) fit.from_wide;
            to_is = ap (λ m. (extent (width m) (layout_of u)).align) fit.to_wide;
            from_aligns = aligns_shape (width sides.from.memory64) t;
            to_aligns = aligns_shape (width sides.to.memory64) u;
            from_checked = h.from_has;
            to_checked = h.to_has;
            from_typed = source_typed M p locals a S.from64 _ _ src fit.reads;
            to_typed = target_typed M p locals b S.to64 _ _ dst fit.writes;
          }) (m.moves a b rooms used using fit));
    })

-- the locals in use are the same behind code that was written
same_taken : {sides : Sides} {src : From} {dst : To} {a b c : Writer} {asks : List AskedHelper} (t u : Shape) → Grew a b → EmitsAsking asks b c (MovesNode sides src dst (taken_in b) t u) → EmitsAsking asks b c (MovesNode sides src dst (taken_in a) t u)
same_taken {sides} {src} {dst} {a} {b} {c} {asks} t u g x =
    let same : taken_in b ≡ taken_in a = λ j. λ i. (g.still i) j in
    subst (λ taken. EmitsAsking asks b c (MovesNode sides src dst taken t u)) same x

pub value_moved : {t : Tables} {from to : InterfaceType} {sides : Sides} {src : From} {dst : To} {a b c : Writer} {before between after : Fuel} {charge : ℕ} → IsCostOf t from charge → between.initial ≡ before.initial → between.left ≡ before.left - charge
    → CheckedPlaces t from to sides src dst a b → MovedNode t from to sides src dst between after b c → MovedInPlace t from to sides src dst before after a c
value_moved {t} {from} {to} {sides} {src} {dst} {a} {b} {c} costs initial left x y = record {
  grew = grew_on x.grew y.grew;
  asks = y.asks;
  asked = y.asked;
  emits = λ s u hs hu cs cu can. emits_then (checked_node s u) (x.emits s u hs hu) (same_taken s u x.grew (y.emits s u hs hu cs cu can));
  translated = λ s u hs hu cs cu can. charged_translated costs s u hs initial left (y.translated s u hs hu cs cu can);
  from_small = x.from_small;
  to_small = x.to_small;
}

-- ---- records and tuples

module _ (M : WasmModule) (p : ImportPlaces) (locals : List ValType) (o : LiftLowerOptions) (memory64 : Bool) (types : List FlatType) (m n : ℕ) (le : m ≤ n) where
  read_less : (src : From) → CanRead M p locals o memory64 src types n → CanRead M p locals o memory64 src types m
  read_less (InLocals slots) c = c
  read_less (InMemory memory base offset) c = record { side = c.side; local = c.local; reach = omega (arith, le, c.reach) }

  write_less : (dst : To) → CanWrite M p locals o memory64 dst types n → CanWrite M p locals o memory64 dst types m
  write_less (ToLocals slots) c = c
  write_less (ToMemory memory base offset) c = record { side = c.side; local = c.local; reach = omega (arith, le, c.reach) }

-- The code of all fields is that of the record, and that of all members that of the tuple.
record_node : {sides : Sides} {src : From} {dst : To} {taken : ℕ → Bool} {ms ns : Members} (M : WasmModule) (p : ImportPlaces) (locals : List ValType) (code : List Instr)
    → MovesFields sides src dst taken ms ns 0 M p locals code → MovesNode sides src dst taken (s_node k_record ms) (s_node k_record ns) M p locals code
record_node {src = src} {dst} {ms = ms} {ns} M p locals code x = record {
  moves = λ a b rooms used using fit. moves_visited (x.moves a b rooms used using (record {
    from_wide = fit.from_wide;
    to_wide = fit.to_wide;
    reads = read_less M p locals a _ _ (ends_of (width_of_side a) ms 0) _ (ends_within (width_of_side a) ms) src fit.reads;
    writes = write_less M p locals b _ _ (ends_of (width_of_side b) ns 0) _ (ends_within (width_of_side b) ns) dst fit.writes;
    within = within_less src dst (ends_within (width_of_side a) ms) (ends_within (width_of_side b) ns) fit.within;
    lists = fit.lists;
  }));
}

tuple_node : {sides : Sides} {src : From} {dst : To} {taken : ℕ → Bool} {ms ns : Members} (M : WasmModule) (p : ImportPlaces) (locals : List ValType) (code : List Instr)
    → MovesFields sides src dst taken ms ns 0 M p locals code → MovesTuple sides src dst taken (s_node k_tuple ms) (s_node k_tuple ns) M p locals code
tuple_node {src = src} {dst} {ms = ms} {ns} M p locals code x = record {
  moves = λ a b rooms used using fit. moves_unpaid (x.moves a b rooms used using (record {
    from_wide = fit.from_wide;
    to_wide = fit.to_wide;
    reads = read_less M p locals a _ _ (ends_of (width_of_side a) ms 0) _ (ends_within (width_of_side a) ms) src fit.reads;
    writes = write_less M p locals b _ _ (ends_of (width_of_side b) ns 0) _ (ends_within (width_of_side b) ns) dst fit.writes;
    within = within_less src dst (ends_within (width_of_side a) ms) (ends_within (width_of_side b) ns) fit.within;
    lists = fit.lists;
  }));
}

-- a tuple as any other node
pub tuple_as_node : {t : Tables} {from to kind kind' : InterfaceType} {sides : Sides} {src : From} {dst : To} {first last : Writer} {before after : Fuel} → from ≡ kind → to ≡ kind' → MovedTuple t kind kind' sides src dst before after first last → MovedNode t from to sides src dst before after first last
tuple_as_node {t} {sides = sides} {last = last} is is' m = record {
  grew = m.grew;
  asks = m.asks;
  asked = subst (λ y. AreAsked t sides (height t y) last.sections m.asks) (sym is') m.asked;
  emits = λ s u hs hu cs cu can.
      emits_as (λ M p locals code x. record { moves = λ a b rooms used using fit. moves_less (x.moves a b rooms used using fit) })
      (m.emits s u (subst (λ y. HasShape t y s) is hs) (subst (λ y. HasShape t y u) is' hu) cs cu can);
  translated = λ s u hs hu cs cu can. m.translated s u (subst (λ y. HasShape t y s) is hs) (subst (λ y. HasShape t y u) is' hu) cs cu can;
}

-- two types whose shapes are of a kind, and can be moved
module _ {t : Tables} {sides : Sides} {src : From} {dst : To} {first last : Writer} {asks : List AskedHelper} (grew : GrewAsking asks first last) {before after : Fuel} where
  pub record_moved : (i j : Id TypeRecords) → AreAsked t sides (height t (ty.Record j)) last.sections asks
      → ((ms ns : Members) → HasShape t (ty.Record i) (s_node k_record ms) → HasShape t (ty.Record j) (s_node k_record ns) → AreCounted ms → AreCounted ns → CanMoveFields ms ns → EmitsAsking asks first last (MovesFields sides src dst (taken_in first) ms ns 0))
      → ((ms ns : Members) → HasShape t (ty.Record i) (s_node k_record ms) → HasShape t (ty.Record j) (s_node k_record ns) → AreCounted ms → AreCounted ns → CanMoveFields ms ns → TranslatesAs t sides src dst before after asks (λ i r. translates_fields i r ms ns))
      → MovedNode t (ty.Record i) (ty.Record j) sides src dst before after first last
  record_moved i j asked go translates = record {
    grew = grew;
    asks = asks;
    asked = asked;
    emits = λ s u hs hu cs cu can.
        let (ms, is_s) = record_kind t i s hs in
        let (ns, is_u) = record_kind t j u hu in
        let can' : CanMove (s_node k_record ms) (s_node k_record ns) = subst (CanMove (s_node k_record ms)) is_u (subst (λ s. CanMove s u) is_s can) in
        subst (λ s. EmitsAsking asks first last (MovesNode sides src dst (taken_in first) s u)) (sym is_s)
        (subst (λ u. EmitsAsking asks first last (MovesNode sides src dst (taken_in first) (s_node k_record ms) u)) (sym is_u)
        (emits_as record_node (go ms ns (subst (HasShape t (ty.Record i)) is_s hs) (subst (HasShape t (ty.Record j)) is_u hu) (subst IsCounted is_s cs).1 (subst IsCounted is_u cu).1 can')));
    translated = λ s u hs hu cs cu can.
        let (ms, is_s) = record_kind t i s hs in
        let (ns, is_u) = record_kind t j u hu in
        let can' : CanMove (s_node k_record ms) (s_node k_record ns) = subst (CanMove (s_node k_record ms)) is_u (subst (λ s. CanMove s u) is_s can) in
        translated_shapes is_s is_u (translates ms ns (subst (HasShape t (ty.Record i)) is_s hs) (subst (HasShape t (ty.Record j)) is_u hu) (subst IsCounted is_s cs).1 (subst IsCounted is_u cu).1 can');
  }

  pub tuple_moved : (i j : Id TypeTuples) → AreAsked t sides (height t (ty.Tuple j)) last.sections asks
      → ((ms ns : Members) → HasShape t (ty.Tuple i) (s_node k_tuple ms) → HasShape t (ty.Tuple j) (s_node k_tuple ns) → AreCounted ms → AreCounted ns → CanMoveFields ms ns → EmitsAsking asks first last (MovesFields sides src dst (taken_in first) ms ns 0))
      → ((ms ns : Members) → HasShape t (ty.Tuple i) (s_node k_tuple ms) → HasShape t (ty.Tuple j) (s_node k_tuple ns) → AreCounted ms → AreCounted ns → CanMoveFields ms ns → TranslatesAs t sides src dst before after asks (λ i r. translates_fields i r ms ns))
      → MovedTuple t (ty.Tuple i) (ty.Tuple j) sides src dst before after first last
  tuple_moved i j asked go translates = record {
    grew = grew;
    asks = asks;
    asked = asked;
    emits = λ s u hs hu cs cu can.
        let (ms, is_s) = tuple_kind t i s hs in
        let (ns, is_u) = tuple_kind t j u hu in
        let can' : CanMove (s_node k_tuple ms) (s_node k_tuple ns) = subst (CanMove (s_node k_tuple ms)) is_u (subst (λ s. CanMove s u) is_s can) in
        subst (λ s. EmitsAsking asks first last (MovesTuple sides src dst (taken_in first) s u)) (sym is_s)
        (subst (λ u. EmitsAsking asks first last (MovesTuple sides src dst (taken_in first) (s_node k_tuple ms) u)) (sym is_u)
        (emits_as tuple_node (go ms ns (subst (HasShape t (ty.Tuple i)) is_s hs) (subst (HasShape t (ty.Tuple j)) is_u hu) (subst IsCounted is_s cs).1 (subst IsCounted is_u cu).1 can')));
    translated = λ s u hs hu cs cu can.
        let (ms, is_s) = tuple_kind t i s hs in
        let (ns, is_u) = tuple_kind t j u hu in
        let can' : CanMove (s_node k_tuple ms) (s_node k_tuple ns) = subst (CanMove (s_node k_tuple ms)) is_u (subst (λ s. CanMove s u) is_s can) in
        translated_shapes is_s is_u (translates ms ns (subst (HasShape t (ty.Tuple i)) is_s hs) (subst (HasShape t (ty.Tuple j)) is_u hu) (subst IsCounted is_s cs).1 (subst IsCounted is_u cu).1 can');
  }

-- types of different kinds, whose values are not moved
pub record_alone : {t : Tables} {from : InterfaceType} {sides : Sides} {src : From} {dst : To} {first last : Writer} {before : Fuel} {xs : List Instr} → AreRanged 0 0 xs → (i : Id TypeRecords) (to : InterfaceType) → from ≡ ty.Record i → ((j : Id TypeRecords) → to ≢ ty.Record j) → Wrote first last xs → MovedNode t from to sides src dst before before first last
record_alone {t} ranged i to is other w = record {
  grew = grew_wrote ranged w;
  asks = [];
  asked = record { each = tt };
  emits = λ s u hs hu cs cu can. let (ms, is_s) = record_kind t i s (subst (λ y. HasShape t y s) is hs) in absurd (alone ms u hu (subst (λ s. CanMove s u) is_s can));
  translated = λ s u hs hu cs cu can. let (ms, is_s) = record_kind t i s (subst (λ y. HasShape t y s) is hs) in absurd (alone ms u hu (subst (λ s. CanMove s u) is_s can));
}
  where
    alone : (ms : Members) (u : Shape) → HasShape t to u → CanMove (s_node k_record ms) u → ⊥
    alone ms (s_plain b) hu can = can
    alone ms (s_node k_record ns) hu can = let (j, at) = record_type t to ns hu in other j at
    alone ms (s_node _ ns) hu can = can

pub tuple_alone : {t : Tables} {from : InterfaceType} {sides : Sides} {src : From} {dst : To} {first last : Writer} {before : Fuel} {xs : List Instr} → AreRanged 0 0 xs → (i : Id TypeTuples) (to : InterfaceType) → from ≡ ty.Tuple i → ((j : Id TypeTuples) → to ≢ ty.Tuple j) → Wrote first last xs → MovedNode t from to sides src dst before before first last
tuple_alone {t} ranged i to is other w = record {
  grew = grew_wrote ranged w;
  asks = [];
  asked = record { each = tt };
  emits = λ s u hs hu cs cu can. let (ms, is_s) = tuple_kind t i s (subst (λ y. HasShape t y s) is hs) in absurd (alone ms u hu (subst (λ s. CanMove s u) is_s can));
  translated = λ s u hs hu cs cu can. let (ms, is_s) = tuple_kind t i s (subst (λ y. HasShape t y s) is hs) in absurd (alone ms u hu (subst (λ s. CanMove s u) is_s can));
}
  where
    alone : (ms : Members) (u : Shape) → HasShape t to u → CanMove (s_node k_tuple ms) u → ⊥
    alone ms (s_plain b) hu can = can
    alone ms (s_node k_tuple ns) hu can = let (j, at) = tuple_type t to ns hu in other j at
    alone ms (s_node _ ns) hu can = can

-- ---- values without members

-- to all shapes of a type, by what they are moved to whatever it is
pub between_from : {t : Tables} {from kind to : InterfaceType} {sides : Sides} {src : From} {dst : To} {first last : Writer} → from ≡ kind → MovedFrom t kind sides src dst first last → MovedBetween t from to sides src dst first last
between_from {t} is m = record {
  grew = m.grew;
  emits = λ s u hs hu can. m.emits s u (subst (λ y. HasShape t y s) is hs) can;
}

-- by what the two types are
pub between_kinds : {t : Tables} {from to kind kind' : InterfaceType} {sides : Sides} {src : From} {dst : To} {first last : Writer} → from ≡ kind → to ≡ kind' → MovedBetween t kind kind' sides src dst first last → MovedBetween t from to sides src dst first last
between_kinds {t} is is' m = record {
  grew = m.grew;
  emits = λ s u hs hu can. m.emits s u (subst (λ y. HasShape t y s) is hs) (subst (λ y. HasShape t y u) is' hu) can;
}

-- without members nothing is left to helpers
pub leaf_moved : {t : Tables} {from to : InterfaceType} {sides : Sides} {src : From} {dst : To} {first last : Writer} {before : Fuel} → AreLeaves t from → MovedBetween t from to sides src dst first last → MovedNode t from to sides src dst before before first last
leaf_moved {t} leaf m = record {
  grew = m.grew;
  asks = [];
  asked = record { each = tt };
  emits = λ s u hs hu cs cu can. m.emits s u hs hu can;
  translated = λ s u hs hu cs cu can. leaf_translated s u (leaf s hs);
}

-- the types that have no members are those of no kind that has
pub leaf_besides : (t : Tables) {from : InterfaceType}
    → ((i : Id TypeRecords) → from ≢ ty.Record i) → ((i : Id TypeTuples) → from ≢ ty.Tuple i)
    → ((i : Id TypeVariants) → from ≢ ty.Variant i) → ((i : Id TypeOptions) → from ≢ ty.Option i) → ((i : Id TypeResults) → from ≢ ty.Result i)
    → ((i : Id TypeLists) → from ≢ ty.List i) → ((i : Id TypeMaps) → from ≢ ty.Map i) → ((i : Id TypeFixedLengthLists) → from ≢ ty.FixedLengthList i) → AreLeaves t from
leaf_besides t {from} no_record no_tuple no_variant no_option no_result no_list no_map no_fixed = leaf
  where
    leaf : (s : Shape) → HasShape t from s → is_leaf s ≡ true
    leaf (s_plain a) hs = refl
    leaf (s_node k_flags ms) hs = refl
    leaf (s_node k_enum ms) hs = refl
    leaf (s_node (k_future i m) ms) hs = refl
    leaf (s_node (k_stream i m) ms) hs = refl
    leaf (s_node k_record ms) hs = let (i, is) = record_type t from ms hs in absurd (no_record i is)
    leaf (s_node k_tuple ms) hs = let (i, is) = tuple_type t from ms hs in absurd (no_tuple i is)
    leaf (s_node k_variant ms) hs = let (i, is) = variant_type t from ms hs in absurd (no_variant i is)
    leaf (s_node k_option ms) hs = let (i, is) = option_type t from ms hs in absurd (no_option i is)
    leaf (s_node k_result ms) hs = let (i, is) = result_type t from ms hs in absurd (no_result i is)
    leaf (s_node k_list ms) hs = let (i, is) = list_type t from ms hs in absurd (no_list i is)
    leaf (s_node k_map ms) hs = let (i, is) = map_type t from ms hs in absurd (no_map i is)
    leaf (s_node (k_fixed m) ms) hs = let (i, is) = fixed_type t from m ms hs in absurd (no_fixed i is)

-- a scalar, where the type is of no other kind without members
pub scalar_moved : {t : Tables} {from to : InterfaceType} {sides : Sides} {src : From} {dst : To} {first last : Writer}
    → AreLeaves t from → ((i : Id FlagsTable) → from ≢ ty.Flags i) → ((i : Id TypeEnums) → from ≢ ty.Enum i) → from ≢ ty.String
    → handle_transfer from to ≡ None → MovedScalar from sides src dst first last → MovedBetween t from to sides src dst first last
scalar_moved {t} {from} {to} {sides} {src} {dst} {first} {last} leaf no_flags no_enum no_string no_handle scalar = record {
  grew = scalar.grew;
  emits = moved;
}
  where
    moved : (s u : Shape) → HasShape t from s → HasShape t to u → CanMove s u → Emits first last (MovesNode sides src dst (taken_in first) s u)
    moved (s_plain a) (s_plain b) hs hu (inl can) =
        subst (λ b. Emits first last (MovesNode sides src dst (taken_in first) (s_plain a) (s_plain b))) can.0
        (subst (λ a. Emits first last (MovesNode sides src dst (taken_in first) (s_plain a) (s_plain a))) hs.0 (scalar.emits (ap is_scalar hs.0 ∙ can.1)))
    moved (s_plain a) (s_plain b) hs hu (inr (inl can)) = absurd (no_string (hs.0 ∙ can.0))
    moved (s_plain a) (s_plain b) hs hu (inr (inr can)) = absurd (no_transfer a b (ap (λ a. handle_transfer a b) (sym hs.0) ∙ ap (handle_transfer from) (sym hu.0) ∙ no_handle) can)
    moved (s_node k ms) (s_plain b) hs hu can = absurd can
    moved (s_node (k_future i m) ms) (s_node (k_future j n) ns) hs hu can = absurd (no_future t from to ms ns no_handle hs hu)
    moved (s_node (k_stream i m) ms) (s_node (k_stream j n) ns) hs hu can = absurd (no_stream t from to ms ns no_handle hs hu)
    moved (s_node k_flags ms) (s_node k_flags ns) hs hu can = let (i, is) = flags_type t from ms hs in absurd (no_flags i is)
    moved (s_node k_enum ms) (s_node k_enum ns) hs hu can = let (i, is) = enum_type t from ms hs in absurd (no_enum i is)
    moved (s_node k_record ms) (s_node k_record ns) hs hu can = absurd (true≢false (sym (leaf (s_node k_record ms) hs)))
    moved (s_node k_tuple ms) (s_node k_tuple ns) hs hu can = absurd (true≢false (sym (leaf (s_node k_tuple ms) hs)))
    moved (s_node k_variant ms) (s_node k_variant ns) hs hu can = absurd (true≢false (sym (leaf (s_node k_variant ms) hs)))
    moved (s_node k_option ms) (s_node k_option ns) hs hu can = absurd (true≢false (sym (leaf (s_node k_option ms) hs)))
    moved (s_node k_result ms) (s_node k_result ns) hs hu can = absurd (true≢false (sym (leaf (s_node k_result ms) hs)))
    moved (s_node k_list ms) (s_node k_list ns) hs hu can = absurd (true≢false (sym (leaf (s_node k_list ms) hs)))
    moved (s_node k_map ms) (s_node k_map ns) hs hu can = absurd (true≢false (sym (leaf (s_node k_map ms) hs)))
    moved (s_node (k_fixed m) ms) (s_node (k_fixed n) ns) hs hu can = absurd (true≢false (sym (leaf (s_node (k_fixed m) ms) hs)))
    moved _ _ hs hu can = absurd can

-- ---- members

pub found_live : (t : Tables) (ms : Members) (found : Option FieldPlace) (o : Option Field) → Finds t ms found o → IsLiveFound t found
found_live t ms None o h = tt
found_live t ms (Some f) None h = absurd h
found_live t ms (Some f) (Some g) h = h.live

pub member_emits : {t : Tables} {y : InterfaceType} {sides : Sides} {src part : From} {dst : To} {old new : Writer} {before after : Fuel} {found : FieldPlace} {o : Option FieldPlace} (skip count bytes : ℕ) → o ≡ Some found
    → skip ≡ unwrap_or found.flat_place 0 → ((s : Shape) → HasShape t found.ty s → count ≡ unwrap_or (layout_of s).flat_count 0) → bytes ≡ bytes_by (width sides.from.memory64) found.place32 found.place64
    → part ≡ from_behind skip count bytes src → MovedValue t found.ty y sides part dst before after old new → MovedMember t o y sides src dst before after old new
member_emits {t} {y} {sides} {src} {part} {dst} {old} {new} {found} skip count bytes is skip_is count_is bytes_is part_is moved = record {
  grew = moved.grew;
  asks = moved.asks;
  asked = moved.asked;
  emits = λ ms f u finds hu cm cf cu can.
      let x : IsFound t ms found f = subst (λ o. Finds t ms o (Some f)) is finds in
      record {
        skip = skip;
        count = count;
        bytes = bytes;
        skip_is = λ le. skip_is ∙ ap (λ o. unwrap_or o 0) (x.flat_place cm ∙ some_within f.flat_place le);
        count_is = λ w few. count_is f.shape x.shaped ∙ flat_is w f.shape (layout_of f.shape).flat_count refl cf few;
        bytes_is = bytes_is ∙ ap (λ n. bytes_by (width sides.from.memory64) n found.place64) x.place32 ∙ ap (λ n. bytes_by (width sides.from.memory64) f.place32 n) x.place64;
        emits = subst (λ s. EmitsAsking moved.asks old new (MovesHelped sides s dst (taken_in old) f.shape u)) part_is (moved.emits f.shape u x.shaped hu cf cu can);
      };
  translated = λ ms f u finds hu cm cf cu can.
      let x : IsFound t ms found f = subst (λ o. Finds t ms o (Some f)) is finds in
      translated_at (ap place_of_source part_is ∙ part_place skip count bytes src) refl (moved.translated f.shape u x.shaped hu cf cu can);
}

-- no source member was found
pub member_missing : {t : Tables} {y : InterfaceType} {sides : Sides} {src : From} {dst : To} {old new : Writer} {before : Fuel} {xs : List Instr} {o : Option FieldPlace} → AreRanged 0 0 xs → o ≡ None → Wrote old new xs → MovedMember t o y sides src dst before before old new
member_missing {t} ranged is w = record {
  grew = grew_wrote ranged w;
  asks = [];
  asked = record { each = tt };
  emits = λ ms f u finds hu cm cf cu can. absurd (subst (λ o. Finds t ms o (Some f)) is finds);
  translated = λ ms f u finds hu cm cf cu can. absurd (subst (λ o. Finds t ms o (Some f)) is finds);
}
