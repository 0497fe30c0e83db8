-- How maps and flags are loaded.
use Rattle.std.proofs.Common.{◌≡◌, ℕ, suc, ◌+◌, ◌*◌, ◌/◌, ◌%◌, ◌^◌, ◌<◌, ◌≤◌, List, [], ◌∷◌, ◌++◌, length, drop, get_or, map, Option, Some, None, refl, sym, ap, ◌∙◌, subst, arith, add-one}
use Rattle.std.specs.Prelude.{Bool, true, false, option_map, slice_get, ◌==◌, if◌then◌else◌}
use Rattle.std.proofs.Math.Nat.{add-mul-div_left, add-mul-mod_self_left, pow-succ', mul_assoc, mul-le-mul_right}
use Rattle.std.proofs.Math.Seq.{drop-cons}
use Rattle.std.proofs.lemmas.List.{drop_all}
use Rattle.fact_entity.specs.declared.id.Id.{Id}
use Rattle.fact_entity.specs.declared.table.TypeMaps.{TypeMaps}
use Rattle.fact_machine.specs.World.{number_of}
use Rattle.fact_types.specs.declared.abi.CanonicalAbiInfo.{CanonicalAbiInfo}
use Rattle.fact_types.specs.declared.interface.InterfaceType.{InterfaceType}
use Rattle.fact_types.specs.declared.interface.InterfaceType.TheVariants as ty
use Rattle.fact_types.specs.declared.kinds.TypeMap.{TypeMap}
use Rattle.fact_types.specs.declared.extents.MemoryWidth.{MemoryWidth}
use Rattle.fact_types.specs.declared.extents.MemoryWidth.TheVariants.{Memory32, Memory64}
use Rattle.fact_types.specs.Layout.{extent, extents, record_layout, payloads, zero_layout, flags_size, flags_extent}
use Rattle.fact_types.proofs.FieldLaws.{greatest_align_pos}
use Rattle.fact_values.specs.declared.side.SideAbi.{SideAbi}
use Rattle.fact_values.specs.Places.{width_of, element_extent, count_of_members, Pair, pair_at, each_at}
use Rattle.fact_values.specs.Load.{load, load_members, entry_of, map_value}
use Rattle.fact_values.specs.Texts.{lies_aligned}
use Rattle.fact_abi.specs.Nodes.{AreOf}
use Rattle.fact_abi.specs.Rooms.{RoomForMembers}
use Rattle.fact_types.proofs.PlaceLaws.{ends_within}
use Rattle.fact_types.specs.Agrees.{names_of}
use Rattle.fact_values.specs.declared.value.Value.{Value}
use Rattle.fact_values.specs.declared.value.Value.TheVariants as value
use Rattle.fact_types.specs.Shapes.{k_map, k_flags, ends_of, Shape, s_node, Members, no_members, bare, typed, layouts_of, Parts, no_parts, case_parts, entry_parts, parts_by}
use Rattle.fact_types.specs.Options.{◌>>=◌}
use Rattle.fact_types.specs.Tables as tables
use Rattle.fact_types.specs.Tables.{Tables, node_of, HasShape, HasMembers, IsSound, abi_at, map_node}
use Rattle.fact_types.proofs.ShapeLaws.{same_some, none_some, layout_is}
use Rattle.fact_abi.specs.Loading.{Flagging}
use Rattle.fact_values.specs.Numbers.{flags_of_number, number_in}

-- ---- the layout of an entry

entry_layout : Parts → CanonicalAbiInfo
entry_layout no_parts = zero_layout
entry_layout (case_parts i) = zero_layout
entry_layout (entry_parts a p q) = a

two_layouts : (t : Tables) → IsSound t → (key value : InterfaceType) (ms : Members) → HasMembers t ((0 ∷ [], Some key) ∷ (1 ∷ [], Some value) ∷ []) ms → record_layout (abi_at t key ∷ abi_at t value ∷ []) ≡ record_layout (payloads (layouts_of ms))
two_layouts t sound key value no_members h = absurd h
two_layouts t sound key value (bare n ms) h = absurd (none_some (Some key) key h.1 refl)
two_layouts t sound key value (typed n s no_members) h = absurd h.2
two_layouts t sound key value (typed n s (bare m ms)) h = absurd (none_some (Some value) value h.2.1 refl)
two_layouts t sound key value (typed n s (typed m z (bare k ms))) h = absurd h.2.2
two_layouts t sound key value (typed n s (typed m z (typed k r ms))) h = absurd h.2.2
two_layouts t sound key value (typed n s (typed m z no_members)) h =
    (λ i. record_layout (layout_is t sound s key (of_type key s h.1) i ∷ layout_is t sound z value (of_type value z h.2.1) i ∷ []))
  where
    of_type : (y : InterfaceType) (s : Shape) → ((x : InterfaceType) × (Some y ≡ Some x) × HasShape t x s) → HasShape t y s
    of_type y s h = subst (λ x. HasShape t x s) (sym (same_some (Some y) y h.0 refl h.1)) h.2

pub entry_laid : (t : Tables) → IsSound t → (i : Id TypeMaps) (y : InterfaceType) (e : TypeMap) → y ≡ ty.Map i → slice_get t.maps i.number ≡ Some e → (ms : Members) → HasShape t y (s_node k_map ms) → e.entry_abi ≡ record_layout (payloads (layouts_of ms))
unfolding entry_layout
entry_laid t sound i y e is here ms h =
    let found : node_of t y ≡ Some (map_node e) = ap (node_of t) is ∙ ap (option_map map_node) here in
    let same : h.0 ≡ map_node e = same_some (node_of t y) h.0 (map_node e) h.1 found in
    let parts : entry_parts e.entry_abi e.value_offset32 e.value_offset64 ≡ parts_by k_map (map (λ m. option_map (abi_at t) m.1) (map_node e).members) = (sound.stands y (map_node e) found).parts in
    ap entry_layout parts ∙ two_layouts t sound e.key e.value ms (subst (λ (n : tables.Node). HasMembers t n.members ms) same h.3)

pub entry_size : (t : Tables) → IsSound t → (i : Id TypeMaps) (y : InterfaceType) (e : TypeMap) → y ≡ ty.Map i → slice_get t.maps i.number ≡ Some e → (side : SideAbi) (w : MemoryWidth) → width_of side ≡ w
    → (ms : Members) → HasShape t y (s_node k_map ms) → extent w e.entry_abi ≡ element_extent side k_map ms
entry_size t sound i y e is here side w wide ms h = ap (extent w) (entry_laid t sound i y e is here ms h) ∙ ap (λ w. extent w (record_layout (payloads (layouts_of ms)))) (sym wide)

pub entry_aligned : (side : SideAbi) (ms : Members) → 1 ≤ (element_extent side k_map ms).align
entry_aligned side ms = by_width (width_of side)
  where
    by_width : (w : MemoryWidth) → 1 ≤ (extent w (record_layout (payloads (layouts_of ms)))).align
    by_width Memory32 = omega (arith, greatest_align_pos (extents Memory32 (payloads (layouts_of ms))))
    by_width Memory64 = omega (arith, greatest_align_pos (extents Memory64 (payloads (layouts_of ms))))

-- ---- maps

module _ (side : SideAbi) (bytes : List ℕ) (ms : Members) where
  pub map_loads : (p : Pair) (size align : ℕ) (o : Option (List (Value × Value))) → size ≡ (element_extent side k_map ms).size → align ≡ (element_extent side k_map ms).align
      → lies_aligned bytes align p.pointer (p.count * size) ≡ true → o ≡ each_at p.count size (λ b. load_members side bytes ms b 0 >>= (λ vs. entry_of vs)) p.pointer → option_map (λ es. value.Map es) o ≡ map_value side bytes ms (λ b. load_members side bytes ms b 0) p
  map_loads p size align o is_s is_a inside read =
      let inside' : lies_aligned bytes (element_extent side k_map ms).align p.pointer (p.count * (element_extent side k_map ms).size) ≡ true = sym (λ i. lies_aligned bytes (is_a i) p.pointer (p.count * is_s i)) ∙ inside in
      ap (option_map (λ es. value.Map es)) (read ∙ ap (λ z. each_at p.count z (λ b. load_members side bytes ms b 0 >>= (λ vs. entry_of vs)) p.pointer) is_s)
      ∙ sym (ap (λ b. option_map (λ es. value.Map es) (if b then each_at p.count (element_extent side k_map ms).size (λ b. load_members side bytes ms b 0 >>= (λ vs. entry_of vs)) p.pointer else None)) inside')

  pub no_map_range : (p : Pair) (size align : ℕ) → size ≡ (element_extent side k_map ms).size → align ≡ (element_extent side k_map ms).align
      → lies_aligned bytes align p.pointer (p.count * size) ≡ false → None ≡ map_value side bytes ms (λ b. load_members side bytes ms b 0) p
  no_map_range p size align is_s is_a outside =
      let outside' : lies_aligned bytes (element_extent side k_map ms).align p.pointer (p.count * (element_extent side k_map ms).size) ≡ false = sym (λ i. lies_aligned bytes (is_a i) p.pointer (p.count * is_s i)) ∙ outside in
      sym (ap (λ b. option_map (λ es. value.Map es) (if b then each_at p.count (element_extent side k_map ms).size (λ b. load_members side bytes ms b 0 >>= (λ vs. entry_of vs)) p.pointer else None)) outside')

module _ (side : SideAbi) (bytes : List ℕ) (a : ℕ) (ms : Members) where
  -- a map whose pointer and length stand at an address
  pub map_stands : (p : Pair) (o : Option Value) → Some p ≡ pair_at side bytes a → o ≡ map_value side bytes ms (λ b. load_members side bytes ms b 0) p → o ≡ load side bytes (s_node k_map ms) a
  unfolding load
  map_stands p o pair is = is ∙ ap (λ o. o >>= (λ q. map_value side bytes ms (λ b. load_members side bytes ms b 0) q)) pair

  pub no_map_pair : None ≡ pair_at side bytes a → None ≡ load side bytes (s_node k_map ms) a
  unfolding load
  no_map_pair none = ap (λ o. o >>= (λ q. map_value side bytes ms (λ b. load_members side bytes ms b 0) q)) none

  pub flags_load : (names : List (List ℕ)) (o : Option Value) → names ≡ names_of ms → o ≡ option_map (λ n. value.Flags (flags_of_number names n)) (number_in bytes (flags_extent (flags_size (length names))).size a) → o ≡ load side bytes (s_node k_flags ms) a
  unfolding load
  flags_load names o is read = read ∙ ap (λ ns. option_map (λ n. value.Flags (flags_of_number ns n)) (number_in bytes (flags_extent (flags_size (length ns))).size a)) is
      ∙ ap (λ k. option_map (λ n. value.Flags (flags_of_number (names_of ms) n)) (number_in bytes (flags_extent (flags_size k)).size a)) (count_names ms)
    where
      count_names : (ms : Members) → length (names_of ms) ≡ count_of_members ms
      count_names no_members = refl
      count_names (bare n ms) = ap suc (count_names ms)
      count_names (typed n s ms) = ap suc (count_names ms)

-- an entry has room where the map has
pub entries_room : (t : Tables) (w : MemoryWidth) (a : ℕ) (types : List (Option InterfaceType)) (count size i at : ℕ) → i < count → size ≤ 4294967295 → a + count * size ≤ 2 ^ 90 → at ≡ a + i * size
    → ((ms : Members) × AreOf t types ms × (ends_of w ms 0 ≤ size)) → RoomForMembers t w at types
entries_room t w a types count size i at lt small room place (ms, are, le) =
    let more : (i + 1) * size ≤ count * size = mul-le-mul_right size (omega (arith, lt)) in
    record { members = ms; are = are; fits = record { ends = omega (arith, le, small); room = omega (arith, le, place, room, more) } }

pub entries_end : (side : SideAbi) (ms : Members) (size : ℕ) → size ≡ (element_extent side k_map ms).size → ends_of (width_of side) ms 0 ≤ size
entries_end side ms size is = omega (arith, ends_within (width_of side) ms, is)

-- the entry of two values
pub entry_read : (f : ℕ → Option (List Value)) (at : ℕ) (o : Option (List Value)) (vs : List Value) (e : Option (Value × Value)) → o ≡ f at → o ≡ Some vs → e ≡ entry_of vs → e ≡ f at >>= (λ vs. entry_of vs)
entry_read f at o vs e read there is = is ∙ ap (λ o. o >>= (λ vs. entry_of vs)) (sym there ∙ read)

pub no_entry_read : (f : ℕ → Option (List Value)) (at : ℕ) (o : Option (List Value)) → o ≡ f at → o ≡ None → None ≡ f at >>= (λ vs. entry_of vs)
no_entry_read f at o read none = ap (λ o. o >>= (λ vs. entry_of vs)) (sym none ∙ read)

-- ---- flags

pub flagging_starts : (names items : List (List ℕ)) (bytes : List ℕ) (flags : List (List ℕ × Bool)) → items ≡ names → flags ≡ [] → Flagging names items bytes 0 0 0 0 flags
flagging_starts names items bytes flags is none = record {
  same = ap (λ ns. flags_of_number ns (number_of bytes)) (sym is) ∙ ap (flags_of_number items) (omega arith) ∙ ap (λ fs. fs ++ flags_of_number items (0 + 2 ^ 0 * number_of bytes)) (sym none);
  below = omega arith;
  few = omega arith;
  behind = omega arith;
}

-- a new byte where no bits are left
pub flagging_byte : (names items : List (List ℕ)) (bytes : List ℕ) (i index left byte byte' : ℕ) (flags : List (List ℕ × Bool)) → left ≡ 0 → byte' < 256 → number_of (drop index bytes) ≡ byte' + 256 * number_of (drop (index + 1) bytes)
    → Flagging names items bytes i index left byte flags → (flags_of_number names (number_of bytes) ≡ flags ++ flags_of_number (drop i items) (byte' + 2 ^ 8 * number_of (drop (index + 1) bytes)))
flagging_byte names items bytes i index left byte byte' flags none small is g =
    let below : byte < 2 ^ 0 = subst (λ l. byte < 2 ^ l) none g.below in
    let scale : 2 ^ left * number_of (drop index bytes) ≡ 1 * number_of (drop index bytes) = ap (λ l. 2 ^ l * number_of (drop index bytes)) none in
    g.same ∙ ap (λ n. flags ++ flags_of_number (drop i items) n) (omega (arith, below, scale, is))

append_assoc : {X : Type 0} (xs ys zs : List X) → (xs ++ ys) ++ zs ≡ xs ++ (ys ++ zs)
append_assoc [] ys zs = refl
append_assoc (x ∷ xs) ys zs = ap (λ l. x ∷ l) (append_assoc xs ys zs)

-- one flag more
pub flagging_on : (names items : List (List ℕ)) (bytes : List ℕ) (i index left left' byte byte' : ℕ) (name : List ℕ) (b : Bool) (flags flags' : List (List ℕ × Bool)) → i < length items → name ≡ get_or items i name
    → left ≡ suc left' → byte' ≡ byte / 2 → b ≡ (byte % 2 == 1) → flags' ≡ flags ++ (name, b) ∷ [] → byte < 2 ^ left → left ≤ 8 → index ≤ i + 1
    → flags_of_number names (number_of bytes) ≡ flags ++ flags_of_number (drop i items) (byte + 2 ^ left * number_of (drop index bytes)) → Flagging names items bytes (i + 1) index left' byte' flags'
flagging_on names items bytes i index left left' byte byte' name b flags flags' lt at less halved bit pushed below few behind same =
    let front : drop i items ≡ name ∷ drop (i + 1) items = drop-cons items i name lt ∙ ap (λ y. y ∷ drop (suc i) items) (sym at) ∙ ap (λ k. name ∷ drop k items) (sym (add-one i)) in
    let r : ℕ = number_of (drop index bytes) in
    let scale : 2 ^ left ≡ 2 * 2 ^ left' = ap (λ l. 2 ^ l) less ∙ pow-succ' 2 left' in
    let number : byte + 2 ^ left * r ≡ byte + 2 * (2 ^ left' * r) = ap (λ z. byte + z * r) scale ∙ ap (λ z. byte + z) (mul_assoc 2 (2 ^ left') r) in
    let low : (byte + 2 * (2 ^ left' * r)) % 2 ≡ byte % 2 = add-mul-mod_self_left byte 2 (2 ^ left' * r) in
    let high : (byte + 2 * (2 ^ left' * r)) / 2 ≡ byte' + 2 ^ left' * r = add-mul-div_left byte (2 ^ left' * r) (omega arith) ∙ ap (λ z. z + 2 ^ left' * r) (sym halved) in
    let step : flags_of_number (drop i items) (byte + 2 ^ left * r) ≡ (name, b) ∷ flags_of_number (drop (i + 1) items) (byte' + 2 ^ left' * r) =
    (λ j. flags_of_number (front j) (number j)) ∙ (λ j. (name, low j == 1) ∷ flags_of_number (drop (i + 1) items) (high j)) ∙ ap (λ b. (name, b) ∷ flags_of_number (drop (i + 1) items) (byte' + 2 ^ left' * r)) (sym bit) in
    record {
      same = same ∙ ap (λ fs. flags ++ fs) step ∙ sym (append_assoc flags ((name, b) ∷ []) (flags_of_number (drop (i + 1) items) (byte' + 2 ^ left' * r)))
          ∙ ap (λ fs. fs ++ flags_of_number (drop (i + 1) items) (byte' + 2 ^ left' * r)) (sym pushed);
      below = omega (arith, halved, below, scale);
      few = omega (arith, few, less);
      behind = behind;
    }

append_nil : {X : Type 0} (xs : List X) → xs ++ [] ≡ xs
append_nil [] = refl
append_nil (x ∷ xs) = ap (λ l. x ∷ l) (append_nil xs)

pub flagging_ends : (names items : List (List ℕ)) (bytes : List ℕ) (i index left byte : ℕ) (flags : List (List ℕ × Bool)) → length items ≤ i → Flagging names items bytes i index left byte flags → flags ≡ flags_of_number names (number_of bytes)
flagging_ends names items bytes i index left byte flags ge g = sym (g.same ∙ ap (λ ns. flags ++ flags_of_number ns (byte + 2 ^ left * number_of (drop index bytes))) (drop_all i items ge) ∙ append_nil flags)

pub flagging_same : (names items : List (List ℕ)) (bytes : List ℕ) (i index index' left left' byte byte' : ℕ) (flags : List (List ℕ × Bool)) → index ≡ index' → left ≡ left' → byte ≡ byte'
    → flags_of_number names (number_of bytes) ≡ flags ++ flags_of_number (drop i items) (byte' + 2 ^ left' * number_of (drop index' bytes)) → flags_of_number names (number_of bytes) ≡ flags ++ flags_of_number (drop i items) (byte + 2 ^ left * number_of (drop index bytes))
flagging_same names items bytes i index index' left left' byte byte' flags x l b same = same ∙ sym (λ j. flags ++ flags_of_number (drop i items) (b j + 2 ^ (l j) * number_of (drop (x j) bytes)))

pub below_power : (left left' byte byte' : ℕ) → left ≡ left' → byte ≡ byte' → byte' < 2 ^ left' → byte < 2 ^ left
below_power left left' byte byte' l b lt = subst (λ n. byte < 2 ^ n) (sym l) (subst (λ n. n < 2 ^ left') (sym b) lt)
