-- The entries of maps: their keys at the begin, and their values behind them.
use Rattle.std.proofs.Common.{◌≡◌, ◌≢◌, ℕ, ◌+◌, ◌<◌, ◌≤◌, Bool, List, [], ◌∷◌, ◌++◌, length, Some, refl, sym, ap, ◌∙◌, subst, arith, append-nil, slice_get}
use Rattle.std.specs.Prelude.{unwrap_or, option_map}
use Rattle.fact_entity.specs.declared.id.Id.{Id}
use Rattle.fact_entity.specs.declared.table.TypeMaps.{TypeMaps}
use Rattle.fact_wasm.specs.declared.types.ValType.{ValType}
use Rattle.fact_wasm.specs.declared.instr.Instr.{Instr}
use Rattle.fact_wasm.specs.declared.module.WasmModule.{WasmModule}
use Rattle.fact_wasm.specs.Ranges.{AreRanged}
use Rattle.fact_types.specs.declared.interface.InterfaceType.{InterfaceType}
use Rattle.fact_types.specs.declared.interface.InterfaceType.TheVariants as ty
use Rattle.fact_types.specs.declared.kinds.TypeMap.{TypeMap}
use Rattle.fact_types.specs.declared.extents.MemoryWidth.{MemoryWidth}
use Rattle.fact_types.specs.declared.extents.MemoryWidth.TheVariants.{Memory32, Memory64}
use Rattle.fact_types.specs.Fields.{Field}
use Rattle.fact_types.specs.FlatShapes.{flat, IsCounted}
use Rattle.fact_types.specs.Heights.{height}
use Rattle.fact_types.specs.Layout.{extent, aligned, record_layout}
use Rattle.fact_types.specs.Shapes.{k_map, k_tuple, Shape, s_plain, s_node, Members, no_members, typed, entry_parts, layout_of, place_of, next_of, ends_of, second_place}
use Rattle.fact_types.specs.Signatures.{width}
use Rattle.fact_types.specs.Sound.{TakesBytes}
use Rattle.fact_types.specs.Tables.{Tables, HasShape, HasMembers, IsSound, abi_at, map_node}
use Rattle.fact_types.proofs.PlaceLaws.{align_pos, ends_within}
use Rattle.fact_types.proofs.ShapeLaws.{layout_is}
use Rattle.fact_actions.specs.Running.{ImportPlaces}
use Rattle.fact_actions.specs.Outlining.{in_memories, translates}
use Rattle.fact_code_laws.specs.Places.{From, InMemory, To, ToMemory}
use Rattle.fact_emit.specs.declared.places.Sides.{Sides}
use Rattle.fact_emit.specs.declared.writer.Writer.{Writer}
use Rattle.fact_emit.specs.Emits.{Emits, EmitsAsking}
use Rattle.fact_emit.specs.Fitting.{MovesNode, MovesFields}
use Rattle.fact_emit.specs.Movable.{CanMove, CanMoveElements, CanMoveFields}
use Rattle.fact_emit.specs.Parts.{bytes_by, from_behind, to_behind}
use Rattle.fact_emit.specs.Writers.{taken_in, Began, TookAll, FreedAll, Wrote}
use Rattle.fact_emit.proofs.Emitting.{emits_then, grew_on, grew_wrote}
use Rattle.fact_emit.proofs.ImportLaws.{extended_none}
use Rattle.fact_kinds.specs.declared.lists.Elements.{Elements}
use Rattle.fact_kinds.specs.declared.lists.ListLocals.{ListLocals}
use Rattle.fact_kinds.specs.Asks.{MovesHelped, MovesHelpedFields}
use Rattle.fact_kinds.specs.Lists.{list_slots, list_numbers, OpensList, ClosesList, IsEntryOf}
use Rattle.fact_kinds.specs.MemberPairs.{Member}
use Rattle.fact_kinds.specs.Moved.{MovedNode, MovedValue}
use Rattle.fact_kinds.specs.declared.fuel.Fuel.{Fuel}
use Rattle.fact_kinds.specs.Translations.{TranslatesAs, place_of_source, place_of_target}
use Rattle.fact_kinds.proofs.Asking.{asked_below, asked_both, asked_later}
use Rattle.fact_kinds.proofs.FieldJoin.{fields_join, fields_join_paid}
use Rattle.fact_kinds.proofs.Found.{flat_is}
use Rattle.fact_kinds.proofs.ListJoin.{entry_layout}
use Rattle.fact_kinds.proofs.ListMembers.{AreEntries, entries_grew, first_bytes, first_next, first_place, map_emits}
use Rattle.fact_kinds.proofs.MemberRuns.{NextMember, open_next, none_left, nothing_moves}
use Rattle.fact_kinds.proofs.TypeKinds.{map_kind, map_type}
use Rattle.fact_kinds.proofs.Translating.{both_translated, translated_at, translated_in_memories, translated_with}
use Rattle.fact_kinds.proofs.TranslatedShapes.{entry_members, translated_shapes}

-- ---- entries

abbrev pair : (key value : Shape) → Members
pair k v = typed (0 ∷ []) k (typed (1 ∷ []) v no_members)

-- a map has a key of the one type and a value of the other
pub map_entry : (t : Tables) (y z : InterfaceType) (ms : Members) → HasMembers t ((0 ∷ [], Some y) ∷ (1 ∷ [], Some z) ∷ []) ms → (k v : Shape) × HasShape t y k × HasShape t z v × (ms ≡ pair k v)
map_entry t y z ms h =
    let both : List Member = (0 ∷ [], Some y) ∷ (1 ∷ [], Some z) ∷ [] in
    let first : NextMember t both 0 (0 ∷ []) y ms = open_next t both 0 (0 ∷ []) y ms h in
    let second : NextMember t both 1 (1 ∷ []) z first.more = open_next t both 1 (1 ∷ []) z first.more first.has in
    (first.shape, second.shape, first.shaped, second.shaped, first.is ∙ ap (typed (0 ∷ []) first.shape) (second.is ∙ ap (typed (1 ∷ []) second.shape) (none_left t second.more second.has)))

-- where the value stands behind the key
second_is : (w : MemoryWidth) (k v : Shape) → second_place w (layout_of k) (layout_of v) ≡ place_of w v (next_of w k 0)
second_is w k v = ap (λ n. aligned n (extent w (layout_of v)).align) (sym (first_next w k))

abbrev value_field : (key value : Shape) → Field
value_field k v = record { shape = v; flat_place = 0 + length (flat Memory32 k); place32 = place_of Memory32 v (next_of Memory32 k 0); place64 = place_of Memory64 v (next_of Memory64 k 0) }

-- code that moves a key, and then a value, moves the members of an entry
pair_moved : {sides : Sides} {taken : ℕ → Bool} {memory base memory' base' : ℕ} (bytes place : ℕ) (k v k' v' : Shape) → IsCounted k → IsCounted v → IsCounted k' → IsCounted v'
    → bytes ≡ bytes_by (width sides.from.memory64) (place_of Memory32 v (next_of Memory32 k 0)) (place_of Memory64 v (next_of Memory64 k 0)) → place ≡ place_of (width sides.to.memory64) v' (next_of (width sides.to.memory64) k' 0)
    → (M : WasmModule) (p : ImportPlaces) (locals : List ValType) (c d : List Instr)
    → MovesHelped sides (InMemory memory base 0) (ToMemory memory' base' 0) taken k k' M p locals c → MovesHelped sides (from_behind 0 0 bytes (InMemory memory base 0)) (to_behind 0 0 place (ToMemory memory' base' 0)) taken v v' M p locals d
    → MovesHelpedFields sides (InMemory memory base 0) (ToMemory memory' base' 0) taken (pair k v) (pair k' v') 0 M p locals (c ++ d)
pair_moved {sides} {taken} {memory} {base} {memory'} {base'} bytes place k v k' v' ck cv ck' cv' bytes_is place_is M p locals c d one two =
    let from : From = InMemory memory base 0 in
    let to : To = ToMemory memory' base' 0 in
    let end : ℕ = next_of (width sides.to.memory64) k' 0 in
    let value : MovesFields sides from to taken (pair k v) (typed (1 ∷ []) v' no_members) end M p locals d =
    subst (MovesFields sides from to taken (pair k v) (typed (1 ∷ []) v' no_members) end M p locals) (append-nil d)
    (fields_join {psrc = from_behind 0 0 bytes from} {src = from} {pdst = to_behind 0 0 place to} {dst = to} {after = to} {f = value_field k v}
    (0 + length (flat Memory32 k)) (unwrap_or (layout_of v).flat_count 0) bytes (unwrap_or (layout_of v').flat_count 0) place refl (ck, (cv, tt)) refl refl refl (λ le. refl) (λ w few. flat_is w v (layout_of v).flat_count refl cv few) bytes_is
    (λ w few. flat_is w v' (layout_of v').flat_count refl cv' few) place_is refl M p locals d [] two (nothing_moves M p locals)) in
    fields_join_paid {psrc = from} {src = from} {pdst = to} {dst = to} {after = to} {f = record { shape = k; flat_place = 0; place32 = place_of Memory32 k 0; place64 = place_of Memory64 k 0 }}
    0 (unwrap_or (layout_of k).flat_count 0) 0 (unwrap_or (layout_of k').flat_count 0) 0 refl (ck, (cv, tt)) refl refl refl (λ le. refl) (λ w few. flat_is w k (layout_of k).flat_count refl ck few) (first_bytes (width sides.from.memory64) k)
    (λ w few. flat_is w k' (layout_of k').flat_count refl ck' few) (sym (first_place (extent (width sides.to.memory64) (layout_of k')).align)) refl M p locals c d one value

-- ---- what stands in the tables for a map

pub record IsMapEntry (t : Tables) (e : TypeMap) : Type 0 where
  pub entry : e.entry_abi ≡ record_layout (abi_at t e.key ∷ abi_at t e.value ∷ [])
  pub place32 : e.value_offset32 ≡ second_place Memory32 (abi_at t e.key) (abi_at t e.value)
  pub place64 : e.value_offset64 ≡ second_place Memory64 (abi_at t e.key) (abi_at t e.value)

pub map_laid : (t : Tables) → IsSound t → (i : Id TypeMaps) (e : TypeMap) → slice_get t.maps i.number ≡ Some e → IsMapEntry t e
map_laid t sound i e here =
    let parts : entry_parts e.entry_abi e.value_offset32 e.value_offset64
    ≡ entry_parts (record_layout (abi_at t e.key ∷ abi_at t e.value ∷ [])) (second_place Memory32 (abi_at t e.key) (abi_at t e.value)) (second_place Memory64 (abi_at t e.key) (abi_at t e.value)) =
    (sound.stands (ty.Map i) (map_node e) (ap (option_map map_node) here)).parts in
    record { entry = cc; place32 = cc; place64 = cc }

module _ {t : Tables} (sound : IsSound t) {e : TypeMap} (laid : IsMapEntry t e) (k v : Shape) (hk : HasShape t e.key k) (hv : HasShape t e.value v) where
  key_is : abi_at t e.key ≡ layout_of k
  key_is = layout_is t sound k e.key hk

  value_is : abi_at t e.value ≡ layout_of v
  value_is = layout_is t sound v e.value hv

  entry_is : e.entry_abi ≡ entry_layout (pair k v)
  entry_is = laid.entry ∙ (λ i. record_layout (key_is i ∷ value_is i ∷ []))

  place32_is : e.value_offset32 ≡ place_of Memory32 v (next_of Memory32 k 0)
  place32_is = laid.place32 ∙ (λ i. second_place Memory32 (key_is i) (value_is i)) ∙ second_is Memory32 k v

  place64_is : e.value_offset64 ≡ place_of Memory64 v (next_of Memory64 k 0)
  place64_is = laid.place64 ∙ (λ i. second_place Memory64 (key_is i) (value_is i)) ∙ second_is Memory64 k v

  pub value_bytes : (w : MemoryWidth) → bytes_by w e.value_offset32 e.value_offset64 ≡ bytes_by w (place_of Memory32 v (next_of Memory32 k 0)) (place_of Memory64 v (next_of Memory64 k 0))
  value_bytes w = λ i. bytes_by w (place32_is i) (place64_is i)

  pub value_place : (w : MemoryWidth) → bytes_by w e.value_offset32 e.value_offset64 ≡ place_of w v (next_of w k 0)
  value_place Memory32 = place32_is
  value_place Memory64 = place64_is

  pub pair_entries : {memory64 : Bool} {size align : ℕ} → IsEntryOf memory64 e.entry_abi size align → TakesBytes (entry_layout (pair k v)) → AreEntries memory64 (pair k v) size align
  pair_entries {memory64} {size} {align} h takes =
      let x : IsEntryOf memory64 (entry_layout (pair k v)) size align = subst (λ c. IsEntryOf memory64 c size align) entry_is h in
      record {
        size_is = x.bytes (some (width memory64) takes);
        align_is = x.alignment (align_pos (width memory64) (s_node k_tuple (pair k v)));
        small = let ends : ends_of (width memory64) (pair k v) 0 ≤ (extent (width memory64) (entry_layout (pair k v))).size = ends_within (width memory64) (pair k v) in omega (arith, ends, x.small);
      }
    where
      some : (w : MemoryWidth) → TakesBytes (entry_layout (pair k v)) → 0 < (extent w (entry_layout (pair k v))).size
      some Memory32 h = h.memory32
      some Memory64 h = h.memory64

-- ---- maps

module _ {t : Tables} {sides : Sides} {src : From} {dst : To} {a b c d m e f g : Writer} {x : Elements} {l : ListLocals} {outer : List Instr} {y z : TypeMap} {bytes place : ℕ} {value_from : From} {value_to : To} {before between after : Fuel}
    (took : TookAll a b (list_slots sides.from.memory64 sides.to.memory64 l)) (opened : Emits b c (OpensList sides x l src)) (began : Began c d outer)
    (key : MovedValue t y.key z.key sides (InMemory sides.from.memory l.source 0) (ToMemory sides.to.memory l.target 0) before between d m) (value : MovedValue t y.value z.value sides value_from value_to between after m e)
    (closed : ClosesList sides x l outer dst e f) (freed : FreedAll f g (list_numbers l))
    (from_is : value_from ≡ from_behind 0 0 bytes (InMemory sides.from.memory l.source 0)) (to_is : value_to ≡ to_behind 0 0 place (ToMemory sides.to.memory l.target 0))
    (bytes_is : bytes ≡ bytes_by (width sides.from.memory64) y.value_offset32 y.value_offset64) (place_is : place ≡ bytes_by (width sides.to.memory64) z.value_offset32 z.value_offset64)
    (from : IsEntryOf sides.from.memory64 y.entry_abi x.from_size x.from_align) (to : IsEntryOf sides.to.memory64 z.entry_abi x.to_size x.to_align)
    (sound : IsSound t) (from_laid : IsMapEntry t y) (to_laid : IsMapEntry t z) where
  pair_emits : (k v k' v' : Shape) → HasShape t y.key k → HasShape t y.value v → HasShape t z.key k' → HasShape t z.value v' → IsCounted k → IsCounted v → IsCounted k' → IsCounted v'
      → CanMoveElements (pair k v) (pair k' v') (CanMoveFields (pair k v) (pair k' v')) → EmitsAsking (key.asks ++ value.asks) a g (MovesNode sides src dst (taken_in a) (s_node k_map (pair k v)) (s_node k_map (pair k' v')))
  pair_emits k v k' v' hk hv hk' hv' ck cv ck' cv' can =
      let used : taken_in m ≡ taken_in d = λ j. λ i. (key.grew.still i) j in
      let from_spot : From = from_behind 0 0 bytes (InMemory sides.from.memory l.source 0) in
      let to_spot : To = to_behind 0 0 place (ToMemory sides.to.memory l.target 0) in
      let second = subst (λ u. EmitsAsking value.asks m e (MovesHelped sides from_spot to_spot u v v')) used (subst (λ s. EmitsAsking value.asks m e (MovesHelped sides s to_spot (taken_in m) v v')) from_is (subst (λ s. EmitsAsking value.asks m e (MovesHelped sides value_from s (taken_in m) v v')) to_is
      (value.emits v v' hv hv' cv cv' can.fields.1.0))) in
      map_emits took opened began closed freed (pair_entries sound from_laid k v hk hv from can.from_bytes) (pair_entries sound to_laid k' v' hk' hv' to can.to_bytes) can.from_bytes can.to_bytes
      (emits_then (pair_moved bytes place k v k' v' ck cv ck' cv' (bytes_is ∙ value_bytes sound from_laid k v hk hv (width sides.from.memory64)) (place_is ∙ value_place sound to_laid k' v' hk' hv' (width sides.to.memory64)))
      (key.emits k k' hk hk' ck ck' can.fields.0) second)

  -- A map was moved by the code of its keys and values.
  pub map_moved : (i j : Id TypeMaps) → ((ms : Members) → HasShape t (ty.Map i) (s_node k_map ms) → HasMembers t ((0 ∷ [], Some y.key) ∷ (1 ∷ [], Some y.value) ∷ []) ms)
      → ((ns : Members) → HasShape t (ty.Map j) (s_node k_map ns) → HasMembers t ((0 ∷ [], Some z.key) ∷ (1 ∷ [], Some z.value) ∷ []) ns) → height t z.key < height t (ty.Map j) → height t z.value < height t (ty.Map j) → MovedNode t (ty.Map i) (ty.Map j) sides src dst before after a g
  map_moved i j members members' key_lower value_lower = record {
    grew = entries_grew took opened began closed freed (grew_on key.grew value.grew);
    asks = key.asks ++ value.asks;
    asked = asked_later (extended_none (freed.imports ∙ closed.imports)) (key.asks ++ value.asks)
        (asked_both value.grew.imports key.asks value.asks (asked_below (omega (arith, key_lower)) key.asks key.asked) (asked_below (omega (arith, value_lower)) value.asks value.asked));
    emits = λ s u hs hu cs cu can.
        let (ms, is_s) = map_kind t i s hs in
        let (ns, is_u) = map_kind t j u hu in
        let (k, v, hk, hv, ms_is) = map_entry t y.key y.value ms (members ms (subst (HasShape t (ty.Map i)) is_s hs)) in
        let (k', v', hk', hv', ns_is) = map_entry t z.key z.value ns (members' ns (subst (HasShape t (ty.Map j)) is_u hu)) in
        let s_is : s ≡ s_node k_map (pair k v) = is_s ∙ ap (s_node k_map) ms_is in
        let u_is : u ≡ s_node k_map (pair k' v') = is_u ∙ ap (s_node k_map) ns_is in
        let counted = (subst IsCounted s_is cs).1 in
        let counted' = (subst IsCounted u_is cu).1 in
        let can' : CanMove (s_node k_map (pair k v)) (s_node k_map (pair k' v')) = subst (CanMove (s_node k_map (pair k v))) u_is (subst (λ s. CanMove s u) s_is can) in
        subst (λ s. EmitsAsking (key.asks ++ value.asks) a g (MovesNode sides src dst (taken_in a) s u)) (sym s_is) (subst (λ u. EmitsAsking (key.asks ++ value.asks) a g (MovesNode sides src dst (taken_in a) (s_node k_map (pair k v)) u)) (sym u_is)
        (pair_emits k v k' v' hk hv hk' hv' counted.0 counted.1.0 counted'.0 counted'.1.0 can'));
    translated = λ s u hs hu cs cu can.
        let (ms, is_s) = map_kind t i s hs in
        let (ns, is_u) = map_kind t j u hu in
        let (k, v, hk, hv, ms_is) = map_entry t y.key y.value ms (members ms (subst (HasShape t (ty.Map i)) is_s hs)) in
        let (k', v', hk', hv', ns_is) = map_entry t z.key z.value ns (members' ns (subst (HasShape t (ty.Map j)) is_u hu)) in
        let s_is : s ≡ s_node k_map (pair k v) = is_s ∙ ap (s_node k_map) ms_is in
        let u_is : u ≡ s_node k_map (pair k' v') = is_u ∙ ap (s_node k_map) ns_is in
        let counted = (subst IsCounted s_is cs).1 in
        let counted' = (subst IsCounted u_is cu).1 in
        let can' : CanMove (s_node k_map (pair k v)) (s_node k_map (pair k' v')) = subst (CanMove (s_node k_map (pair k v))) u_is (subst (λ s. CanMove s u) s_is can) in
        let first = key.translated k k' hk hk' counted.0 counted'.0 can'.fields.0 in
        let second : TranslatesAs t sides (InMemory sides.from.memory l.source 0) (ToMemory sides.to.memory l.target 0) between after value.asks (λ i r. translates i r v v') =
        translated_at (ap place_of_source from_is) (ap place_of_target to_is) (value.translated v v' hv hv' counted.1.0 counted'.1.0 can'.fields.1.0) in
        translated_shapes s_is u_is (translated_with (λ i r n route. entry_members i (in_memories r) k v k' v' n) (translated_in_memories (both_translated first second)));
  }

-- a map at a type of another kind, whose values are not moved
pub map_alone : {t : Tables} {from : InterfaceType} {sides : Sides} {src : From} {dst : To} {first last : Writer} {before : Fuel} {xs : List Instr} → AreRanged 0 0 xs → (i : Id TypeMaps) (to : InterfaceType) → from ≡ ty.Map i → ((j : Id TypeMaps) → to ≢ ty.Map j) → Wrote first last xs → MovedNode t from to sides src dst before before first last
map_alone {t} ranged i to is other w = record {
  grew = grew_wrote ranged w;
  asks = [];
  asked = record { each = tt };
  emits = λ s u hs hu cs cu can. let (ms, is_s) = map_kind t i s (subst (λ y. HasShape t y s) is hs) in absurd (alone ms u hu (subst (λ s. CanMove s u) is_s can));
  translated = λ s u hs hu cs cu can. let (ms, is_s) = map_kind t i s (subst (λ y. HasShape t y s) is hs) in absurd (alone ms u hu (subst (λ s. CanMove s u) is_s can));
}
  where
    alone : (ms : Members) (u : Shape) → HasShape t to u → CanMove (s_node k_map ms) u → ⊥
    alone ms (s_plain b) hu can = can
    alone ms (s_node k_map ns) hu can = let (j, at) = map_type t to ns hu in other j at
    alone ms (s_node _ ns) hu can = can
