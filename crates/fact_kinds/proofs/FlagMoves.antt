-- Flags and enums: their numbers, and the code that moves them.
use Rattle.std.proofs.Common.{◌≡◌, ◌≢◌, ℕ, ◌*◌, ◌%◌, ◌^◌, ◌<◌, ◌≤◌, min, Bool, true, false, length, replicate, List, Option, Some, refl, sym, ap, ◌∙◌, subst, arith}
use Rattle.std.specs.Prelude.{nat_le, if◌then◌else◌, slice_get, ◌==◌, nat_lt}
use Rattle.std.specs.Int.{div_ceil}
use Rattle.std.proofs.lemmas.Bool.{eqb-true}
use Rattle.fact_entity.specs.declared.id.Id.{Id}
use Rattle.fact_entity.specs.declared.table.TypeFlags.{TypeFlags as FlagsTable}
use Rattle.fact_entity.specs.declared.table.TypeEnums.{TypeEnums}
use Rattle.fact_wasm.specs.Ranges.{AreRanged}
use Rattle.fact_wasm.specs.declared.instr.Instr.{Instr}
use Rattle.fact_wasm.specs.declared.types.ValType.{ValType}
use Rattle.fact_types.specs.declared.flats.FlatType.TheVariants as flat_type
use Rattle.fact_types.specs.declared.interface.InterfaceType.{InterfaceType}
use Rattle.fact_types.specs.declared.interface.InterfaceType.TheVariants as ty
use Rattle.fact_types.specs.declared.sizes.DiscriminantSize.{DiscriminantSize}
use Rattle.fact_types.specs.declared.sizes.DiscriminantSize.TheVariants.{Size1, Size2, Size4}
use Rattle.fact_types.specs.declared.sizes.FlagsSize.TheVariants as flags
use Rattle.fact_types.specs.Agrees.{names_of}
use Rattle.fact_types.specs.Layout.{discriminant_size, discriminant_bytes, flags_size, flags_extent, flags_flat}
use Rattle.fact_types.specs.Ordered.{FlagsType, EnumType}
use Rattle.fact_types.specs.Shapes.{k_flags, k_enum, Shape, s_plain, s_node, Members}
use Rattle.fact_types.specs.Tables.{Tables, HasShape}
use Rattle.fact_values.specs.Places.{count_of_members, case_bytes, flags_bytes}
use Rattle.fact_actions.specs.Actions.{Visit, unless}
use Rattle.fact_actions.specs.Moves.{move_number, bits_named}
use Rattle.fact_actions.specs.Sides.{read_number, write_number}
use Rattle.fact_types.specs.declared.outside.Trap.TheVariants.{InvalidDiscriminant}
use Rattle.fact_code_laws.specs.Places.{From, To, Number, N8, N16, N32, N64, MayHold, size_of, transfer}
use Rattle.fact_emit.specs.declared.places.Sides.{Sides}
use Rattle.fact_emit.specs.declared.scalars.Canonical.TheVariants.{Low}
use Rattle.fact_emit.specs.declared.scalars.NumberTest.TheVariants.{CaseBelow}
use Rattle.fact_emit.specs.declared.writer.Writer.{Writer}
use Rattle.fact_emit.specs.Emits.{Emits}
use Rattle.fact_emit.specs.Fitting.{number_for_flat, MovesNode}
use Rattle.fact_emit.specs.Movable.{CanMove, CanMoveFlags}
use Rattle.fact_emit.specs.MovesValue.{MovesValue}
use Rattle.fact_emit.specs.Numbers.{FitsUnchecked}
use Rattle.fact_emit.specs.PlacedBits.{placed_bits}
use Rattle.fact_emit.specs.Scalars.{canonical_of, number_moves, tested_moves}
use Rattle.fact_emit.specs.Writers.{Wrote, taken_in}
use Rattle.fact_emit.proofs.BitMoves.{bits_paid}
use Rattle.fact_emit.proofs.Emitting.{emits_as, grew_wrote}
use Rattle.fact_emit.proofs.ScalarMoves.{fits_one, moves_as}
use Rattle.fact_kinds.specs.FlagPlaces.{bit_places_of}
use Rattle.fact_kinds.specs.Kinds.{flags_number_of, discriminant_number_of}
use Rattle.fact_kinds.specs.Moved.{MovedBetween, MovedFrom}
use Rattle.fact_kinds.proofs.FlagNames.{bits_stay, bits_by_places, names_count}
use Rattle.fact_kinds.proofs.TypeKinds.{flags_kind, flags_type, enum_kind, flags_count, flags_names, enum_count}

-- ---- numbers of at most 32 bits in slots of an i32

pub flags_short : (names : ℕ) → flags_number_of names ≢ N64
flags_short names = go (nat_le names 8) (nat_le names 16)
  where
    go : (a b : Bool) → (if a then N8 else (if b then N16 else N32)) ≢ N64
    go true b e = cc
    go false true e = cc
    go false false e = cc

pub discriminant_short : (d : DiscriminantSize) → discriminant_number_of d ≢ N64
discriminant_short Size1 e = cc
discriminant_short Size2 e = cc
discriminant_short Size4 e = cc

short_holds : (n : Number) → n ≢ N64 → (v : ValType) → MayHold (number_for_flat flat_type.I32) v → MayHold n v
short_holds N8 ne v h = h
short_holds N16 ne v h = h
short_holds N32 ne v h = h
short_holds N64 ne v h = absurd (ne refl)

-- ---- flags

-- the room of one to 32 flags, by the tests of their number
pub flags_room : (n : ℕ) → 0 < n → n ≤ 32 → ((flags_extent (flags_size n)).size ≡ size_of (flags_number_of n)) × (flags_flat (flags_size n) ≡ 1)
flags_room n some few = go (n == 0) (nat_le n 8) (nat_le n 16) refl refl
  where
    go : (z a b : Bool) → (n == 0) ≡ z → nat_le n 16 ≡ b
        → ((flags_extent (if z then flags.Size0 else (if a then flags.Size1 else (if b then flags.Size2 else flags.Size4Plus (div_ceil n 32))))).size ≡ size_of (if a then N8 else (if b then N16 else N32)))
        × (flags_flat (if z then flags.Size0 else (if a then flags.Size1 else (if b then flags.Size2 else flags.Size4Plus (div_ceil n 32)))) ≡ 1)
    go true a b e f = absurd (let none : n ≡ 0 = eqb-true n 0 e in omega (arith, none, some))
    go false true b e f = (refl, refl)
    go false false true e f = (refl, refl)
    go false false false e f =
        let one : div_ceil n 32 ≡ 1 = omega (arith, some, few) in
        (ap (λ w. w * 4) one, one)

module _ (t : Tables) (i j : Id FlagsTable) (e f : FlagsType) (here : slice_get t.flags i.number ≡ Some e) (there : slice_get t.flags j.number ≡ Some f) {sides : Sides} {src : From} {dst : To} {a b : Writer} where
  flags_node : (ms ns : Members) (g : ℕ → ℕ) → ((x : ℕ) → g x ≡ bits_named (names_of ms) (names_of ns) x) → CanMoveFlags ms ns → Emits a b (MovesValue sides src dst (taken_in a) 516 (FitsUnchecked (flags_number_of (count_of_members ms)) src dst) (number_moves (flags_number_of (count_of_members ms)) g))
      → Emits a b (MovesNode sides src dst (taken_in a) (s_node k_flags ms) (s_node k_flags ns))
  flags_node ms ns g by_name can x =
      let n = flags_number_of (count_of_members ms) in
      let room = flags_room (count_of_members ms) can.some can.few in
      let to_size : flags_bytes ns ≡ size_of n = ap (λ c. (flags_extent (flags_size c)).size) can.same ∙ room.0 in
      let to_flat : flags_flat (flags_size (count_of_members ns)) ≡ 1 = ap (λ c. flags_flat (flags_size c)) can.same ∙ room.1 in
      emits_as (λ M p locals code m. moves_as
      (λ S f. fits_one _ S flat_type.I32 n (short_holds n (flags_short (count_of_members ms))) (λ w. ap (λ k. replicate k flat_type.I32) room.1) (λ w. ap (λ k. replicate k flat_type.I32) to_flat) f)
      (λ S s d. ap (λ z. Visit 1 (move_number (transfer S) z (size_of n) g s d)) (sym room.0)
      ∙ ap (λ z. Visit 1 (move_number (transfer S) (flags_bytes ms) z g s d)) (sym to_size)
      ∙ ap (λ (h : ℕ → ℕ). Visit 1 (move_number (transfer S) (flags_bytes ms) (flags_bytes ns) h s d)) (λ k x. by_name x k))
      m) x

  -- code that moves a number of flags by any of these moves, where the shapes that can be moved are known to be flags
  flags_moved : (n : Number) (g : ℕ → ℕ) → n ≡ flags_number_of (length e.names)
      → ((ms ns : Members) → CanMoveFlags ms ns → names_of ms ≡ e.names → names_of ns ≡ f.names → (x : ℕ) → g x ≡ bits_named (names_of ms) (names_of ns) x)
      → Emits a b (MovesValue sides src dst (taken_in a) 516 (FitsUnchecked n src dst) (number_moves n g)) → MovedBetween t (ty.Flags i) (ty.Flags j) sides src dst a b
  flags_moved n g n_is by_name x = record { grew = x.grew; emits = λ s u hs hu can. moved s u (flags_kind t i s hs) (flags_kind t j u hu) hs hu can }
    where
      moved : (s u : Shape) → (ms : Members) × (s ≡ s_node k_flags ms) → (ns : Members) × (u ≡ s_node k_flags ns) → HasShape t (ty.Flags i) s → HasShape t (ty.Flags j) u → CanMove s u → Emits a b (MovesNode sides src dst (taken_in a) s u)
      moved s u (ms, is) (ns, iu) hs hu can =
          let can' : CanMoveFlags ms ns = subst (λ s. CanMove s (s_node k_flags ns)) is (subst (λ u. CanMove s u) iu can) in
          let from_names = flags_names t i e here ms (subst (HasShape t (ty.Flags i)) is hs) in
          let to_names = flags_names t j f there ns (subst (HasShape t (ty.Flags j)) iu hu) in
          let number : n ≡ flags_number_of (count_of_members ms) = n_is ∙ ap flags_number_of (sym (flags_count t i e here ms (subst (HasShape t (ty.Flags i)) is hs))) in
          subst (λ s. Emits a b (MovesNode sides src dst (taken_in a) s u)) (sym is)
          (subst (λ u. Emits a b (MovesNode sides src dst (taken_in a) (s_node k_flags ms) u)) (sym iu)
          (flags_node ms ns g (by_name ms ns can' from_names to_names) can'
          (subst (λ n. Emits a b (MovesValue sides src dst (taken_in a) 516 (FitsUnchecked n src dst) (number_moves n g))) number x)))

  -- in the same order, where the low bits are kept
  pub flags_copied : {n : Number} {bits : ℕ} → e.names ≡ f.names → n ≡ flags_number_of (length e.names) → bits ≡ min (length e.names) 32
      → Emits a b (MovesValue sides src dst (taken_in a) 516 (FitsUnchecked n src dst) (number_moves n (canonical_of (Low bits)))) → MovedBetween t (ty.Flags i) (ty.Flags j) sides src dst a b
  flags_copied {n} {bits} same n_is bits_is x = flags_moved n (λ x. x % 2 ^ bits) n_is (λ ms ns can from_names to_names x.
      let count : length e.names ≡ count_of_members ms = ap length (sym from_names) ∙ names_count ms in
      let all_bits : bits ≡ length (names_of ms) = (let c = names_count ms in omega (arith, bits_is, count, c, can.few)) in
      let order : names_of ms ≡ names_of ns = from_names ∙ same ∙ sym to_names in
      ap (λ k. x % 2 ^ k) all_bits ∙ sym (bits_stay (names_of ms) can.alone x) ∙ ap (λ l. bits_named (names_of ms) l x) order) x

  -- in any order, where each bit goes to the place of its name
  pub flags_placed : {n : Number} {places : List (Option ℕ)} → places ≡ bit_places_of e.names f.names → n ≡ flags_number_of (length e.names)
      → Emits a b (MovesValue sides src dst (taken_in a) 600 (FitsUnchecked n src dst) (number_moves n (placed_bits places))) → MovedBetween t (ty.Flags i) (ty.Flags j) sides src dst a b
  flags_placed {n} {places} places_are n_is x = flags_moved n (placed_bits places) n_is (λ ms ns can from_names to_names x.
      let count : length e.names ≡ count_of_members ms = ap length (sym from_names) ∙ names_count ms in
      ap (λ (is : List (Option ℕ)). placed_bits is x) places_are ∙ bits_by_places e.names f.names (omega (arith, count, can.few)) x
      ∙ ap (λ l. bits_named l f.names x) (sym from_names) ∙ ap (λ l. bits_named (names_of ms) l x) (sym to_names)) (bits_paid x)

-- a type of another kind
pub flags_alone : {t : Tables} {from : InterfaceType} {sides : Sides} {src : From} {dst : To} {first last : Writer} {xs : List Instr} → AreRanged 0 0 xs → (i : Id FlagsTable) (to : InterfaceType) → from ≡ ty.Flags i → ((j : Id FlagsTable) → to ≢ ty.Flags j) → Wrote first last xs → MovedBetween t from to sides src dst first last
flags_alone {t} ranged i to is other w = record {
  grew = grew_wrote ranged w;
  emits = λ s u hs hu can. let (ms, is_s) = flags_kind t i s (subst (λ y. HasShape t y s) is hs) in absurd (alone ms u hu (subst (λ s. CanMove s u) is_s can));
}
  where
    alone : (ms : Members) (u : Shape) → HasShape t to u → CanMove (s_node k_flags ms) u → ⊥
    alone ms (s_plain b) hu can = can
    alone ms (s_node k_flags ns) hu can = let (j, at) = flags_type t to ns hu in other j at
    alone ms (s_node _ ns) hu can = can

-- ---- enums

pub case_size : (d : DiscriminantSize) → size_of (discriminant_number_of d) ≡ discriminant_bytes d
case_size Size1 = refl
case_size Size2 = refl
case_size Size4 = refl

module _ (t : Tables) (i : Id TypeEnums) (e : EnumType) (here : slice_get t.enums i.number ≡ Some e) {sides : Sides} {src : From} {dst : To} {a b : Writer} where
  enum_node : (ms ns : Members) → count_of_members ns ≡ count_of_members ms
      → Emits a b (MovesValue sides src dst (taken_in a) 516 (FitsUnchecked (discriminant_number_of (discriminant_size (count_of_members ms))) src dst) (tested_moves (discriminant_number_of (discriminant_size (count_of_members ms))) (CaseBelow (count_of_members ms))))
      → Emits a b (MovesNode sides src dst (taken_in a) (s_node k_enum ms) (s_node k_enum ns))
  enum_node ms ns same x =
      let cases = count_of_members ms in
      let n = discriminant_number_of (discriminant_size cases) in
      let size : size_of n ≡ case_bytes ms = case_size (discriminant_size cases) in
      let to_size : size_of n ≡ case_bytes ns = size ∙ ap (λ c. discriminant_bytes (discriminant_size c)) (sym same) in
      emits_as (λ M p locals code m. moves_as
      (λ S f. fits_one _ S flat_type.I32 n (short_holds n (discriminant_short (discriminant_size cases))) (λ w. refl) (λ w. refl) f)
      (λ S s d. ap (λ z. Visit 1 (read_number (transfer S).debug S.from z s (λ x. unless InvalidDiscriminant (nat_lt x cases) (write_number S.to (size_of n) d x)))) size
      ∙ ap (λ z. Visit 1 (read_number (transfer S).debug S.from (case_bytes ms) s (λ x. unless InvalidDiscriminant (nat_lt x cases) (write_number S.to z d x)))) to_size)
      m) x

  pub enum_moved : {n : Number} {d : DiscriminantSize} (cases : ℕ) → cases ≡ length e.names → d ≡ discriminant_size cases → n ≡ discriminant_number_of d
      → Emits a b (MovesValue sides src dst (taken_in a) 516 (FitsUnchecked n src dst) (tested_moves n (CaseBelow cases))) → MovedFrom t (ty.Enum i) sides src dst a b
  enum_moved {n} cases all d_is n_is x = record { grew = x.grew; emits = λ s u hs can. moved s u (enum_kind t i s hs) hs can }
    where
      moved : (s u : Shape) → (ms : Members) × (s ≡ s_node k_enum ms) → HasShape t (ty.Enum i) s → CanMove s u → Emits a b (MovesNode sides src dst (taken_in a) s u)
      moved s (s_plain p) (ms, is) hs can = absurd (subst (λ s. CanMove s (s_plain p)) is can)
      moved s (s_node k_enum ns) (ms, is) hs can =
          let same : count_of_members ns ≡ count_of_members ms = subst (λ s. CanMove s (s_node k_enum ns)) is can in
          let count : cases ≡ count_of_members ms = all ∙ sym (enum_count t i e here ms (subst (HasShape t (ty.Enum i)) is hs)) in
          subst (λ s. Emits a b (MovesNode sides src dst (taken_in a) s (s_node k_enum ns))) (sym is)
          (enum_node ms ns same
          (subst (λ n. Emits a b (MovesValue sides src dst (taken_in a) 516 (FitsUnchecked n src dst) (tested_moves n (CaseBelow (count_of_members ms))))) (n_is ∙ ap discriminant_number_of (d_is ∙ ap discriminant_size count))
          (subst (λ k. Emits a b (MovesValue sides src dst (taken_in a) 516 (FitsUnchecked n src dst) (tested_moves n (CaseBelow k)))) count x)))
      moved s (s_node k ns) (ms, is) hs can = absurd (subst (λ s. CanMove s (s_node k ns)) is can)
