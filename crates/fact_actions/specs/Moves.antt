-- Moving a value of a source type from its place to a place of a destination type (canonical ABI, "Loading", "Storing", "Flat
-- Lifting" and "Flat Lowering").
use Rattle.std.specs.Prelude.{ℕ, suc, ◌+◌, ◌*◌, ◌/◌, ◌%◌, ◌^◌, ◌++◌, Bool, true, false, List, [], ◌∷◌, length, take, drop, Option, Some, None, nat_lt, nat_eq, if◌then◌else◌}
use Rattle.std.specs.Str.{bytes_eq}
use Rattle.fact_wasm.specs.declared.types.ValType.TheVariants as val
use Rattle.fact_types.specs.declared.extents.Extent.{Extent}
use Rattle.fact_types.specs.declared.interface.InterfaceType.{InterfaceType}
use Rattle.fact_types.specs.declared.interface.InterfaceType.TheVariants as ty
use Rattle.fact_types.specs.declared.outside.Trap.TheVariants.{ListOutOfBounds, InvalidChar, InvalidDiscriminant, DebugAssertPointerAligned}
use Rattle.fact_types.specs.Agrees.{names_of}
use Rattle.fact_types.specs.Layout.{extent, record_layout, payloads}
use Rattle.fact_types.specs.Shapes.{Kind, k_record, k_variant, k_list, k_tuple, k_map, k_flags, k_enum, k_option, k_result, k_fixed, k_future, k_stream, Shape, s_plain, s_node, Members, no_members, bare, typed, layout_of, layouts_of, plain_layout, place_of, next_of}
use Rattle.fact_types.specs.FlatShapes.{flat, flat_members}
use Rattle.fact_types.specs.Fields.{Field, field_of}
use Rattle.fact_machine.specs.Numerics.{extend_s}
use Rattle.fact_machine.specs.declared.types.CoreValue.{CoreValue}
use Rattle.fact_machine.specs.declared.types.CoreValue.TheVariants.{I32}
use Rattle.fact_types.specs.declared.import.Import.{Import}
use Rattle.fact_types.specs.declared.import.Import.TheVariants as import
use Rattle.fact_values.specs.Limits.{CaseType, case_type, place_in}
use Rattle.fact_values.specs.Numbers.{is_scalar_value}
use Rattle.fact_values.specs.Places.{count_of_members, case_bytes, payload_place, flags_bytes}
use Rattle.fact_actions.specs.Actions.{Action, Give, Visit, Ask, Unreachable, ◌>>=◌, trap, unless, each}
use Rattle.fact_actions.specs.Strings.{move_string}
use Rattle.fact_actions.specs.Sides.{LiftLowerOptions, Transfer, Source, Values, AtAddress, Target, Slots, Into, side_abi, width_of_side, first_bits, zeros, read_number, write_number, nth_part, nth_spot, read_pair, write_pair, check_region, reallocate}

-- ---- places of parts

abbrev pub flat_length : LiftLowerOptions → Shape → ℕ
flat_length o s = length (flat (width_of_side o) s)

-- a field of a record at a source
abbrev pub part : LiftLowerOptions → Field → Source → Source
part o f (Values vs) = Values (take (flat_length o f.shape) (drop f.flat_place vs))
part o f (AtAddress a) = AtAddress (a + place_in (width_of_side o) f)

-- the room of the next field of a record, which ends so many bytes behind its begin, and what is left for later fields
abbrev pub spot : LiftLowerOptions → Shape → ℕ → Target → Target
spot o s end (Slots ts) = Slots (take (flat_length o s) ts)
spot o s end (Into a) = Into (a + place_of (width_of_side o) s end)

abbrev pub past : LiftLowerOptions → Shape → Target → Target
past o s (Slots ts) = Slots (drop (flat_length o s) ts)
past o s (Into a) = Into a

-- the payload of a case, behind a discriminant
abbrev pub payload_part : LiftLowerOptions → Shape → ℕ → Source → Source
payload_part o s offset (Values vs) = Values (take (flat_length o s) (drop 1 vs))
payload_part o s offset (AtAddress a) = AtAddress (a + offset)

abbrev pub payload_spot : LiftLowerOptions → Shape → ℕ → Target → Target
payload_spot o s offset (Slots ts) = Slots (take (flat_length o s) (drop 1 ts))
payload_spot o s offset (Into a) = Into (a + offset)

-- zeros in the core values that a case leaves over
abbrev pub padded : Target → List CoreValue → List CoreValue
padded (Slots ts) vs = vs ++ zeros (drop (length vs) ts)
padded (Into a) vs = vs

-- ---- numbers

-- The number that stands for a value at its destination, of the number that was read: true is 1, a narrower integer is
-- extended to 32 bits.
abbrev pub canonical_number : InterfaceType → ℕ → ℕ
canonical_number ty.Bool n = if nat_eq n 0 then 0 else 1
canonical_number ty.S8 n = extend_s 8 32 n
canonical_number ty.U8 n = n % 2 ^ 8
canonical_number ty.S16 n = extend_s 16 32 n
canonical_number ty.U16 n = n % 2 ^ 16
canonical_number t n = n

abbrev pub plain_size : InterfaceType → ℕ
plain_size t = (plain_layout t).size32

abbrev pub move_number : Transfer → (from_size to_size : ℕ) → (ℕ → ℕ) → Source → Target → Action (List CoreValue)
move_number tr from_size to_size f s d = read_number tr.debug tr.from from_size s (λ n. write_number tr.to to_size d (f n))

-- a Unicode scalar value
abbrev pub move_char : Transfer → Source → Target → Action (List CoreValue)
move_char tr s d = read_number tr.debug tr.from 4 s (λ n. unless InvalidChar (is_scalar_value n) (write_number tr.to 4 d n))

-- a handle, which a function of the runtime takes from a table of the one side to one of the other
abbrev pub move_handle : Transfer → Import → (from_table to_table : ℕ) → Source → Target → Action (List CoreValue)
move_handle tr f from_table to_table s d =
    read_number tr.debug tr.from 4 s (λ n.
    Ask f (I32 n ∷ I32 from_table ∷ I32 to_table ∷ []) (val.I32 ∷ []) (λ rs. write_number tr.to 4 d (first_bits rs)))

-- the bit at the place of the first flag of a name, and 0 where there is none
abbrev pub bit_named : List ℕ → (names : List (List ℕ)) → ℕ → ℕ
bit_named x [] n = 0
bit_named x (y ∷ names) n = if bytes_eq y x then n % 2 else bit_named x names (n / 2)

-- the number of which each bit is that of the flag of its name, the first name's the lowest
abbrev pub bits_named : (from to : List (List ℕ)) → ℕ → ℕ
bits_named from [] n = 0
bits_named from (x ∷ to) n = bit_named x from n + 2 * bits_named from to n

-- flags: each bit of the destination is that of the source's flag of its name
abbrev pub move_flags : Transfer → (ms ns : Members) → Source → Target → Action (List CoreValue)
move_flags tr ms ns s d = move_number tr (flags_bytes ms) (flags_bytes ns) (bits_named (names_of ms) (names_of ns)) s d

-- ---- sums

-- the case that a discriminant names, with a trap past the last one
abbrev pub read_case : Transfer → Members → Source → (CaseType → Action (List CoreValue)) → Action (List CoreValue)
read_case tr ms s k =
    read_number tr.debug tr.from (case_bytes ms) s (λ n. elim (case_type ms n) [ None ↦ trap InvalidDiscriminant | Some c ↦ k c ])

abbrev pub move_enum : Transfer → (ms ns : Members) → Source → Target → Action (List CoreValue)
move_enum tr ms ns s d =
    read_number tr.debug tr.from (case_bytes ms) s (λ n. unless InvalidDiscriminant (nat_lt n (count_of_members ms)) (write_number tr.to (case_bytes ns) d n))

-- the place of a case among those of the destination is written, and then its payload is moved
abbrev pub write_case : Transfer → (ms ns : Members) → Source → Target → ℕ → Option Shape → Option Shape → (Shape → Source → Target → Action (List CoreValue)) → Action (List CoreValue)
write_case tr ms ns s d n (Some p) (Some q) move =
    write_number tr.to (case_bytes ns) d n >>= (λ tag.
    move p (payload_part tr.from p (payload_place (side_abi tr.from) ms) s) (payload_spot tr.to q (payload_place (side_abi tr.to) ns) d) >>= (λ vs. Give (padded d (tag ++ vs))))
write_case tr ms ns s d n None None move = write_number tr.to (case_bytes ns) d n >>= (λ tag. Give (padded d tag))
write_case tr ms ns s d n _ _ move = Unreachable

-- ---- lists

-- an element of a list is a tuple of one member, and an entry of a map one of two: as large as the values of its type, whose size is a
-- multiple of their alignment, stand in a list (`element_extent`)
abbrev pub entry_extent : LiftLowerOptions → Members → Extent
entry_extent o ms = extent (width_of_side o) (record_layout (payloads (layouts_of ms)))

-- The bytes of the list in both layouts are fewer than 2 to the power of 32. Its source region is checked, its destination
-- region is asked for, and its elements are moved in order.
abbrev pub move_list : Transfer → (ms ns : Members) → (Source → Target → Action (List CoreValue)) → Source → Target → Action (List CoreValue)
move_list tr ms ns element s d =
    let e = entry_extent tr.from ms in
    let f = entry_extent tr.to ns in
    read_pair tr.debug tr.from s (λ p n.
    unless ListOutOfBounds (nat_lt (n * e.size) (2 ^ 32)) (
    unless ListOutOfBounds (nat_lt (n * f.size) (2 ^ 32)) (
    check_region tr.from ListOutOfBounds p (n * e.size) e.align (
    reallocate tr.concurrency tr.to ListOutOfBounds 0 0 f.align (n * f.size) (λ q.
    each n (λ i. element (AtAddress (p + i * e.size)) (Into (q + i * f.size))) >>= (λ vs. write_pair tr.to d q n))))))

-- ---- all types

abbrev pub move_plain : Transfer → InterfaceType → InterfaceType → Source → Target → Action (List CoreValue)
move_plain tr ty.Char ty.Char s d = move_char tr s d
move_plain tr ty.String ty.String s d = move_string tr s d
move_plain tr (ty.Own i) (ty.Own j) s d = move_handle tr import.ResourceTransferOwn i.number j.number s d
move_plain tr (ty.Borrow i) (ty.Borrow j) s d = move_handle tr import.ResourceTransferBorrow i.number j.number s d
move_plain tr (ty.ErrorContext i) (ty.ErrorContext j) s d = move_handle tr import.ErrorContextTransfer i.number j.number s d
move_plain tr t u s d = move_number tr (plain_size t) (plain_size u) (canonical_number t) s d

-- a source that is plain at a plain destination
abbrev pub move_to_plain : Transfer → Shape → InterfaceType → Source → Target → Action (List CoreValue)
move_to_plain tr (s_plain t) u s d = move_plain tr t u s d
move_to_plain tr (s_node k ms) u s d = Unreachable

-- With debug checks on, the place in memory of each node is a multiple of its alignment.
abbrev pub aligned_place : {A : Type 0} → LiftLowerOptions → Shape → ℕ → Action A → Action A
aligned_place o t a p = unless DebugAssertPointerAligned (nat_eq (a % (extent (width_of_side o) (layout_of t)).align) 0) p

abbrev pub aligned_source : {A : Type 0} → Bool → LiftLowerOptions → Shape → Source → Action A → Action A
aligned_source true o t (AtAddress a) p = aligned_place o t a p
aligned_source true o t (Values vs) p = p
aligned_source false o t s p = p

abbrev pub aligned_target : {A : Type 0} → Bool → LiftLowerOptions → Shape → Target → Action A → Action A
aligned_target true o t (Into a) p = aligned_place o t a p
aligned_target true o t (Slots ts) p = p
aligned_target false o t d p = p

abbrev pub aligned_node : {A : Type 0} → Transfer → (t u : Shape) → Source → Target → Action A → Action A
aligned_node tr t u s d p = aligned_source tr.debug tr.from t s (aligned_target tr.debug tr.to u d p)

-- How members are moved, from source members to the members of a destination: those of a record from one place to another,
-- and a case of a name with its payload.
pub record MovingMembers : Type 0 where
  pub fields : Members → Source → Target → Action (List CoreValue)
  pub case : Members → CaseType → Source → Target → Action (List CoreValue)

-- nodes of this kind weigh one, and one for each case of a sum
abbrev pub weight_of : Kind → Members → ℕ
weight_of k_variant ms = 1 + count_of_members ms
weight_of k_option ms = 1 + count_of_members ms
weight_of k_result ms = 1 + count_of_members ms
weight_of k ms = 1

abbrev pub move_sum : Transfer → Members → MovingMembers → Source → Target → Action (List CoreValue)
move_sum tr ms m s d = read_case tr ms s (λ c. m.case ms c s d)

abbrev pub element_flats : LiftLowerOptions → Members → ℕ
element_flats o ms = length (flat_members (width_of_side o) ms)

abbrev pub move_fixed : Transfer → ℕ → (ms ns : Members) → (Source → Target → Action (List CoreValue)) → Source → Target → Action (List CoreValue)
move_fixed tr n ms ns element s d =
    each n (λ i. element (nth_part (element_flats tr.from ms) (entry_extent tr.from ms).size i s) (nth_spot (element_flats tr.to ns) (entry_extent tr.to ns).size i d))

abbrev pub move_node : Transfer → Kind → Members → Kind → Members → MovingMembers → Source → Target → Action (List CoreValue)
move_node tr k_record ms k_record ns m s d = m.fields ms s d
move_node tr k_tuple ms k_tuple ns m s d = m.fields ms s d
move_node tr k_variant ms k_variant ns m s d = move_sum tr ms m s d
move_node tr k_option ms k_option ns m s d = move_sum tr ms m s d
move_node tr k_result ms k_result ns m s d = move_sum tr ms m s d
move_node tr k_enum ms k_enum ns m s d = move_enum tr ms ns s d
move_node tr k_flags ms k_flags ns m s d = move_flags tr ms ns s d
move_node tr k_list ms k_list ns m s d = move_list tr ms ns (m.fields ms) s d
move_node tr k_map ms k_map ns m s d = move_list tr ms ns (m.fields ms) s d
move_node tr (k_fixed n) ms (k_fixed n') ns m s d = move_fixed tr n' ms ns (m.fields ms) s d
move_node tr (k_future t i) ms (k_future u j) ns m s d = move_handle tr import.FutureTransfer t u s d
move_node tr (k_stream t i) ms (k_stream u j) ns m s d = move_handle tr import.StreamTransfer t u s d
move_node tr k ms l ns m s d = Unreachable

abbrev pub move_to_node : Transfer → Shape → Kind → Members → MovingMembers → Source → Target → Action (List CoreValue)
move_to_node tr (s_plain t) l ns m s d = Unreachable
move_to_node tr (s_node k ms) l ns m s d = Visit (weight_of k ms) (move_node tr k ms l ns m s d)

abbrev pub with_field : Option Field → (Field → Action (List CoreValue)) → Action (List CoreValue)
with_field None k = Unreachable
with_field (Some f) k = k f

unfoldable mutual
  -- A value of a source shape is moved to a place of a destination shape. What is given are the core values of a target of
  -- slots, and nothing of one in memory.
  pub move : Transfer → Shape → Shape → Source → Target → Action (List CoreValue)
  move tr t (s_plain u) s d = aligned_node tr t (s_plain u) s d (Visit 1 (move_to_plain tr t u s d))
  move tr t (s_node l ns) s d =
      aligned_node tr t (s_node l ns) s d (
      move_to_node tr t l ns (record { fields = λ ms s' d'. move_fields tr ms ns 0 s' d'; case = λ ms c s' d'. move_case tr ms ns c ns 0 s' d' }) s d)

  -- the fields of a record, in the order of its destination, each from the source field of its name
  pub move_fields : Transfer → Members → Members → ℕ → Source → Target → Action (List CoreValue)
  move_fields tr ms no_members end s d = Give []
  move_fields tr ms (bare x ns) end s d = move_fields tr ms ns end s d
  move_fields tr ms (typed x u ns) end s d =
      with_field (field_of x ms) (λ f.
      move tr f.shape u (part tr.from f s) (spot tr.to u end d) >>= (λ vs.
      move_fields tr ms ns (next_of (width_of_side tr.to) u end) s (past tr.to u d) >>= (λ us. Give (vs ++ us))))

  -- a case of the source, to the case of its name among those of the destination
  pub move_case : Transfer → Members → Members → CaseType → Members → ℕ → Source → Target → Action (List CoreValue)
  move_case tr ms all c no_members n s d = Unreachable
  move_case tr ms all c (bare x ns) n s d =
      if bytes_eq x c.name then write_case tr ms all s d n c.payload None (λ p s' d'. Unreachable) else move_case tr ms all c ns (suc n) s d
  move_case tr ms all c (typed x u ns) n s d =
      if bytes_eq x c.name then write_case tr ms all s d n c.payload (Some u) (λ p s' d'. move tr p u s' d') else move_case tr ms all c ns (suc n) s d
