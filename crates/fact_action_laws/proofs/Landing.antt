-- The values that stand at the destination of a transfer are the parameters and the results that fact_values lifts there.
use Rattle.std.proofs.Common.{◌≡◌, ℕ, ◌+◌, ◌%◌, ◌^◌, ◌<◌, ◌≤◌, Bool, true, false, List, [], ◌∷◌, ◌++◌, length, map, Option, Some, None, refl, sym, ap, ◌∙◌, subst, mod-eq_of_lt}
use Rattle.std.specs.Prelude.{nat_le, ◌==◌, if◌then◌else◌}
use Rattle.std.proofs.lemmas.Bool.{false≢true, le-leb, eq-eqb}
use Rattle.std.proofs.lemmas.Option.{get_or_from_slice_get}
use Rattle.fact_wasm.specs.declared.types.ValType.{ValType}
use Rattle.fact_types.specs.declared.outside.StringEncoding.{StringEncoding}
use Rattle.fact_types.specs.declared.flats.FlatType.{FlatType}
use Rattle.fact_types.specs.declared.extents.MemoryWidth.{MemoryWidth}
use Rattle.fact_types.specs.Flat.{value_type}
use Rattle.fact_types.specs.FlatShapes.{pointer, flat_each, flat_all, when_upto}
use Rattle.fact_types.specs.Shapes.{Shape}
use Rattle.fact_types.specs.Signatures.{width, address}
use Rattle.fact_types.proofs.ShapeLaws.{none_some}
use Rattle.fact_machine.specs.declared.types.CoreValue.{CoreValue}
use Rattle.fact_machine.specs.declared.types.MachineState.{MachineState}
use Rattle.fact_types.specs.Tuples.{tuple_members, members_from}
use Rattle.fact_actions.specs.Adapters.{last_bits}
use Rattle.fact_actions.specs.Calls.{side_memory}
use Rattle.fact_actions.specs.Moves.{entry_extent}
use Rattle.fact_actions.specs.Running.{ImportPlaces}
use Rattle.fact_machine.specs.Typed.{is_value, are_values}
use Rattle.fact_types.specs.declared.outside.MemoryOption.{MemoryOption}
use Rattle.fact_actions.specs.Sides.{LiftLowerOptions, Slots, Into, width_of_side}
use Rattle.fact_values.specs.Lift.{bits_of, can_stand_all, number_as}
use Rattle.fact_values.specs.declared.side.SideAbi.{SideAbi}
use Rattle.fact_values.specs.declared.value.Value.{Value}
use Rattle.fact_values.specs.Load.{load_members}
use Rattle.fact_values.specs.Texts.{lies_aligned}
use Rattle.fact_values.specs.Tuples.{lift_all, load_tuple, behind, behind_last}
use Rattle.fact_action_laws.specs.MoveTerms.{AreWellFormed}
use Rattle.fact_action_laws.specs.Places.{to_side}
use Rattle.fact_action_laws.specs.Regions.{TransferSetting, AreBytesOf}
use Rattle.fact_action_laws.proofs.MoveLaws.{MembersStand}
use Rattle.fact_action_laws.proofs.Standing.{stands, all_stand, each_flat, lifts_all}
use Rattle.fact_action_laws.proofs.Targets.{both_true, left_true, right_true}
use Rattle.fact_action_laws.proofs.Transfers.{upto_is, flats_are}
use Rattle.fact_action_laws.proofs.Tupled.{same_members}
use Rattle.fact_action_laws.proofs.TypedArgs.{pointer_bits}
use Rattle.fact_machine.specs.Typing.{address_operand, address_bits}

-- ---- memories

bytes_by : (p : ImportPlaces) (o : LiftLowerOptions) (memory : Option MemoryOption) (s : MachineState) (bytes : List ℕ) → AreBytesOf p (record o { memory = memory }) s bytes → side_memory p (record o { memory = memory }) s ≡ bytes
bytes_by p o None s bytes are = sym are
bytes_by p o (Some m) s bytes are = get_or_from_slice_get s.memories (p.memory m.def) bytes [] are

-- the bytes of a side are those of its memory in a state
pub bytes_there : (p : ImportPlaces) (o : LiftLowerOptions) (s : MachineState) (bytes : List ℕ) → AreBytesOf p o s bytes → side_memory p o s ≡ bytes
bytes_there p o s bytes are = bytes_by p o o.memory s bytes are

-- ---- flat values

pub all_each : (w : MemoryWidth) (limit : ℕ) (us : List Shape) (fs : List FlatType) → flat_all w limit us ≡ Some fs → flat_each w us ≡ Some fs
all_each w limit us fs h = go (flat_each w us) h
  where
    go : (o : Option (List FlatType)) → when_upto limit o ≡ Some fs → o ≡ Some fs
    go None h = absurd (none_some None fs refl h)
    go (Some xs) h = ap (λ l. Some l) (upto_is limit xs fs h)

-- Flat values that stand in slots are those that are lifted from them.
pub stands_flat : (c : TransferSetting) (us : List Shape) (limit : ℕ) (fs : List FlatType) → flat_all (width_of_side c.transfer.to) limit us ≡ Some fs → AreWellFormed (tuple_members us)
    → (outs : List Value) (core : List CoreValue) (bytes : List ℕ) → are_values core (map value_type fs) ≡ true → MembersStand c (tuple_members us) 0 outs (Slots (map value_type fs)) core bytes → lift_all (to_side c) bytes us core ≡ Some outs
stands_flat c us limit fs e formed outs core bytes typed stand =
    let each = all_each (width_of_side c.transfer.to) limit us fs e in
    lifts_all (to_side c) bytes 0 us core outs formed (each_flat (width_of_side c.transfer.to) us fs each)
    (subst (λ l. can_stand_all l core ≡ true) (sym (flats_are (width_of_side c.transfer.to) 0 us fs each)) (all_stand fs core typed)) stand.0

-- ---- values behind a pointer

-- Values that stand at an address are those of the tuple there.
pub stands_behind : (c : TransferSetting) (us : List Shape) (q : ℕ) (outs : List Value) (core : List CoreValue) (bytes : List ℕ) → q % (entry_extent c.transfer.to (tuple_members us)).align ≡ 0 → q + (entry_extent c.transfer.to (tuple_members us)).size ≤ length bytes
    → MembersStand c (tuple_members us) 0 outs (Into q) core bytes → load_tuple (to_side c) bytes us q ≡ Some outs
stands_behind c us q outs core bytes aligned inside stand =
    go (subst (λ l. q % (entry_extent c.transfer.to l).align ≡ 0) (sym (same_members 0 us)) aligned) (subst (λ l. q + (entry_extent c.transfer.to l).size ≤ length bytes) (sym (same_members 0 us)) inside)
    (subst (λ l. load_members (to_side c) bytes l q 0 ≡ Some outs) (sym (same_members 0 us)) stand.0)
  where
    go : q % (entry_extent c.transfer.to (members_from 0 us)).align ≡ 0 → q + (entry_extent c.transfer.to (members_from 0 us)).size ≤ length bytes → load_members (to_side c) bytes (members_from 0 us) q 0 ≡ Some outs
        → (if lies_aligned bytes (entry_extent c.transfer.to (members_from 0 us)).align q (entry_extent c.transfer.to (members_from 0 us)).size then load_members (to_side c) bytes (members_from 0 us) q 0 else None) ≡ Some outs
    go a i h =
        ap (λ b. if b then load_members (to_side c) bytes (members_from 0 us) q 0 else None)
        (both_true (q % (entry_extent c.transfer.to (members_from 0 us)).align == 0) (nat_le (q + (entry_extent c.transfer.to (members_from 0 us)).size) (length bytes)) (eq-eqb _ 0 a) (le-leb _ (length bytes) i))
        ∙ h

-- what is behind a typed pointer
pub behind_typed : (wide : Bool) (encoding : StringEncoding) (bytes : List ℕ) (us : List Shape) (v : CoreValue) → is_value v (address wide) ≡ true
    → behind (record { memory64 = wide; encoding = encoding }) bytes us v ≡ load_tuple (record { memory64 = wide; encoding = encoding }) bytes us (bits_of v)
behind_typed wide encoding bytes us v h =
    let side : SideAbi = record { memory64 = wide; encoding = encoding } in
    ap (λ b. if b then load_tuple side bytes us (number_as (pointer (width wide)) v) else None) (stands (pointer (width wide)) v h)
    ∙ ap (λ n. load_tuple side bytes us n) (pointer_bits wide v h)

-- a new pointer
pub behind_new : (wide : Bool) (encoding : StringEncoding) (bytes : List ℕ) (us : List Shape) (q : ℕ) → q < 2 ^ address_bits wide
    → behind (record { memory64 = wide; encoding = encoding }) bytes us (address_operand wide q) ≡ load_tuple (record { memory64 = wide; encoding = encoding }) bytes us q
behind_new false encoding bytes us q lt = ap (λ n. load_tuple (record { memory64 = false; encoding = encoding }) bytes us n) (mod-eq_of_lt lt)
behind_new true encoding bytes us q lt = refl

-- The return pointer is the last of typed arguments.
pub behind_return : (wide : Bool) (encoding : StringEncoding) (bytes : List ℕ) (us : List Shape) (ts : List ValType) (args : List CoreValue) → are_values args (ts ++ address wide ∷ []) ≡ true
    → behind_last (record { memory64 = wide; encoding = encoding }) bytes us args ≡ load_tuple (record { memory64 = wide; encoding = encoding }) bytes us (last_bits args)
behind_return wide encoding bytes us [] [] h = absurd (false≢true h)
behind_return wide encoding bytes us [] (v ∷ []) h = behind_typed wide encoding bytes us v (left_true (is_value v (address wide)) _ h)
behind_return wide encoding bytes us [] (v ∷ x ∷ vs) h = absurd (false≢true (right_true (is_value v (address wide)) _ h))
behind_return wide encoding bytes us (t ∷ ts) [] h = absurd (false≢true h)
behind_return wide encoding bytes us (t ∷ []) (v ∷ []) h = absurd (false≢true (right_true (is_value v t) _ h))
behind_return wide encoding bytes us (t ∷ u ∷ ts) (v ∷ []) h = absurd (false≢true (right_true (is_value v t) _ h))
behind_return wide encoding bytes us (t ∷ ts) (v ∷ x ∷ vs) h = behind_return wide encoding bytes us ts (x ∷ vs) (right_true (is_value v t) _ h)
