-- Handles, flags and enums that do not lift are never moved.
use Rattle.std.proofs.Common.{◌≡◌, ℕ, zero, suc, ◌+◌, ◌*◌, ◌^◌, ◌≤◌, ◌<◌, List, [], ◌∷◌, length, replicate, Option, Some, None, refl, sym, ap, ◌∙◌, subst, arith}
use Rattle.std.specs.Prelude.{nat_lt, option_map}
use Rattle.std.proofs.lemmas.Bool.{ltb-true}
use Rattle.fact_entity.specs.declared.id.Id.{Id}
use Rattle.fact_entity.specs.declared.table.TypeResourceTables.{TypeResourceTables}
use Rattle.fact_entity.specs.declared.table.TypeComponentLocalErrorContextTables.{TypeComponentLocalErrorContextTables}
use Rattle.fact_wasm.specs.declared.types.ValType.TheVariants as val
use Rattle.fact_types.specs.declared.flats.FlatType.TheVariants as flat_type
use Rattle.fact_types.specs.declared.interface.InterfaceType.{InterfaceType}
use Rattle.fact_types.specs.declared.interface.InterfaceType.TheVariants as ty
use Rattle.fact_types.specs.declared.outside.Trap.TheVariants.{InvalidDiscriminant}
use Rattle.fact_types.specs.Agrees.{names_of}
use Rattle.fact_types.specs.FlatShapes.{flat}
use Rattle.fact_types.specs.Shapes.{k_flags, k_enum, k_future, k_stream, Shape, s_plain, s_node, Members, no_members, bare, typed}
use Rattle.fact_types.proofs.ShapeLaws.{none_some}
use Rattle.fact_machine.specs.declared.types.CoreValue.TheVariants.{I32}
use Rattle.fact_machine.specs.World.{World}
use Rattle.fact_types.specs.declared.import.Import.{Import}
use Rattle.fact_types.specs.declared.import.Import.TheVariants as import
use Rattle.fact_actions.specs.Actions.{Visit, Ask, unless}
use Rattle.fact_actions.specs.Moves.{move, move_handle, move_flags, move_enum, bits_named}
use Rattle.fact_values.specs.Places.{count_of_members, case_bytes, payload_place, flags_bytes}
use Rattle.fact_actions.specs.Sides.{Source, Values, AtAddress, Target, width_of_side, first_bits, write_number}
use Rattle.fact_values.specs.declared.value.HandleKind.TheVariants.{Own, Borrow, Future, Stream, ErrorContext}
use Rattle.fact_values.specs.declared.value.Value.{Value}
use Rattle.fact_values.specs.declared.value.Value.TheVariants as value
use Rattle.fact_values.specs.Lift.{lift_leading, lift_case, number_as, numbers_as}
use Rattle.fact_values.specs.Load.{load, load_case}
use Rattle.fact_types.specs.Options.{◌>>=◌}
use Rattle.fact_values.specs.Numbers.{number_in, plain_of, value_of_number, number_of_words, flags_of_number}
use Rattle.fact_action_laws.specs.Places.{from_side, value_at_source, IsSource, IsGrounded}
use Rattle.fact_actions.specs.Regions.{Region}
use Rattle.fact_action_laws.specs.Regions.{TransferSetting, AreBytesOf}
use Rattle.fact_action_laws.proofs.Cases.{tag_same, case_by, loads_by, lifts_by}
use Rattle.fact_action_laws.proofs.Flagged.{few_flags}
use Rattle.fact_action_laws.proofs.Never.{never_number, never_unless}
use Rattle.fact_action_laws.proofs.Numbers.{number_at_source, reads_number}
use Rattle.fact_action_laws.proofs.Numeric.{IsNumeric, own_is, borrow_is, error_context_is}
use Rattle.fact_action_laws.proofs.Plain.{does_aligned}
use Rattle.fact_action_laws.proofs.Refusals.{NumberAt, no_number, of_number, number_or_none, never_visit}
use Rattle.fact_action_laws.proofs.Variants.{sum_number}
use Rattle.fact_values.specs.Formed.{AreBare}
use Rattle.fact_action_laws.specs.Judged.{GivesNothing}
use Rattle.fact_action_laws.specs.MoveLaws.{Refuses}

-- ---- handles

handle_never : (c : TransferSetting) → IsGrounded c → (gs : List Region) (f : Import) (from to : ℕ) (s : Source) (d : Target) (w : World) → IsSource c 1 s → AreBytesOf c.places c.transfer.from w.state c.source → number_at_source c 4 s ≡ None → GivesNothing c gs (move_handle c.transfer f from to s d) w
handle_never c g gs f from to s d w is are e = never_number g 4 0 s (λ n. Ask f (I32 n ∷ I32 from ∷ I32 to ∷ []) (val.I32 ∷ []) (λ rs. write_number c.transfer.to 4 d (first_bits rs))) w is are e

plain_lacks : (c : TransferSetting) (p : InterfaceType) (s : Source) → IsNumeric p 4 flat_type.I32 → ((x : ℕ) → value_of_number (plain_of p) x ≡ None → ⊥) → value_at_source c (s_plain p) s ≡ None → number_at_source c 4 s ≡ None
plain_lacks c p s n total h = go (number_or_none c p 4 flat_type.I32 n s)
  where
    go : NumberAt c p 4 s → number_at_source c 4 s ≡ None
    go (no_number e) = e
    go (of_number x e t) = absurd (total x (sym t ∙ h))

module _ (c : TransferSetting) (g : IsGrounded c) where
  pub own_refuses : (i j : Id TypeResourceTables) → Refuses c (s_plain (ty.Own i)) (s_plain (ty.Own j))
  unfolding move
  own_refuses i j = record {
    by = λ s d gs w m is h ready target.
        does_aligned g (s_plain (ty.Own i)) (s_plain (ty.Own j)) s d (Visit 1 (move_handle c.transfer import.ResourceTransferOwn i.number j.number s d)) w (never_visit 1 (move_handle c.transfer import.ResourceTransferOwn i.number j.number s d) w
        (handle_never c g gs import.ResourceTransferOwn i.number j.number s d w is ready.from (plain_lacks c (ty.Own i) s (own_is i) (λ x e. none_some None (value.Handle Own i.number x) refl (sym e)) h)));
  }

  pub borrow_refuses : (i j : Id TypeResourceTables) → Refuses c (s_plain (ty.Borrow i)) (s_plain (ty.Borrow j))
  unfolding move
  borrow_refuses i j = record {
    by = λ s d gs w m is h ready target.
        does_aligned g (s_plain (ty.Borrow i)) (s_plain (ty.Borrow j)) s d (Visit 1 (move_handle c.transfer import.ResourceTransferBorrow i.number j.number s d)) w (never_visit 1 (move_handle c.transfer import.ResourceTransferBorrow i.number j.number s d) w
        (handle_never c g gs import.ResourceTransferBorrow i.number j.number s d w is ready.from (plain_lacks c (ty.Borrow i) s (borrow_is i) (λ x e. none_some None (value.Handle Borrow i.number x) refl (sym e)) h)));
  }

  pub error_context_refuses : (i j : Id TypeComponentLocalErrorContextTables) → Refuses c (s_plain (ty.ErrorContext i)) (s_plain (ty.ErrorContext j))
  unfolding move
  error_context_refuses i j = record {
    by = λ s d gs w m is h ready target.
        does_aligned g (s_plain (ty.ErrorContext i)) (s_plain (ty.ErrorContext j)) s d (Visit 1 (move_handle c.transfer import.ErrorContextTransfer i.number j.number s d)) w (never_visit 1 (move_handle c.transfer import.ErrorContextTransfer i.number j.number s d) w
        (handle_never c g gs import.ErrorContextTransfer i.number j.number s d w is ready.from (plain_lacks c (ty.ErrorContext i) s (error_context_is i) (λ x e. none_some None (value.Handle ErrorContext i.number x) refl (sym e)) h)));
  }

  -- ---- futures and streams
  none_mapped : {A B : Type 0} (f : A → B) (q : Option A) → option_map f q ≡ None → q ≡ None
  none_mapped f None h = refl
  none_mapped f (Some a) h = absurd (none_some None (f a) refl (sym h))

  future_lacks : (t i : ℕ) (ms : Members) (s : Source) → IsSource c 1 s → value_at_source c (s_node (k_future t i) ms) s ≡ None → number_at_source c 4 s ≡ None
  unfolding load lift_leading
  future_lacks t i ms (AtAddress a) is h = none_mapped (λ n. value.Handle Future t n) (number_in c.source 4 a) h
  future_lacks t i ms (Values []) is h = refl
  future_lacks t i ms (Values (v ∷ vs)) is h = absurd (none_some None (value.Handle Future t (number_as flat_type.I32 v)) refl (sym h))

  stream_lacks : (t i : ℕ) (ms : Members) (s : Source) → IsSource c 1 s → value_at_source c (s_node (k_stream t i) ms) s ≡ None → number_at_source c 4 s ≡ None
  unfolding load lift_leading
  stream_lacks t i ms (AtAddress a) is h = none_mapped (λ n. value.Handle Stream t n) (number_in c.source 4 a) h
  stream_lacks t i ms (Values []) is h = refl
  stream_lacks t i ms (Values (v ∷ vs)) is h = absurd (none_some None (value.Handle Stream t (number_as flat_type.I32 v)) refl (sym h))

  pub future_refuses : (t i u j : ℕ) (ms ns : Members) → Refuses c (s_node (k_future t i) ms) (s_node (k_future u j) ns)
  unfolding move
  future_refuses t i u j ms ns = record {
    by = λ s d gs w m is h ready target.
        does_aligned g (s_node (k_future t i) ms) (s_node (k_future u j) ns) s d (Visit 1 (move_handle c.transfer import.FutureTransfer t u s d)) w (never_visit 1 (move_handle c.transfer import.FutureTransfer t u s d) w
        (handle_never c g gs import.FutureTransfer t u s d w is ready.from (future_lacks t i ms s is h)));
  }

  pub stream_refuses : (t i u j : ℕ) (ms ns : Members) → Refuses c (s_node (k_stream t i) ms) (s_node (k_stream u j) ns)
  unfolding move
  stream_refuses t i u j ms ns = record {
    by = λ s d gs w m is h ready target.
        does_aligned g (s_node (k_stream t i) ms) (s_node (k_stream u j) ns) s d (Visit 1 (move_handle c.transfer import.StreamTransfer t u s d)) w (never_visit 1 (move_handle c.transfer import.StreamTransfer t u s d) w
        (handle_never c g gs import.StreamTransfer t u s d w is ready.from (stream_lacks t i ms s is h)));
  }

  -- ---- flags
  flags_lack : (ms : Members) (s : Source) → 1 ≤ count_of_members ms → count_of_members ms ≤ 32 → value_at_source c (s_node k_flags ms) s ≡ None → number_at_source c (flags_bytes ms) s ≡ None
  unfolding load lift_leading
  flags_lack ms (AtAddress a) some most h = none_mapped (λ n. value.Flags (flags_of_number (names_of ms) n)) (number_in c.source (flags_bytes ms) a) h
  flags_lack ms (Values []) some most h = refl
  flags_lack ms (Values (v ∷ vs)) some most h =
      absurd (none_some None (value.Flags (flags_of_number (names_of ms) (number_as flat_type.I32 v + 2 ^ 32 * 0))) refl
      (sym h ∙ ap (λ k. option_map (λ ws. value.Flags (flags_of_number (names_of ms) (number_of_words ws))) (numbers_as (replicate k flat_type.I32) (v ∷ vs))) (few_flags (count_of_members ms) some most).one_word))

  one_flat : (ms : Members) (s : Source) → 1 ≤ count_of_members ms → count_of_members ms ≤ 32 → IsSource c (length (flat (width_of_side c.transfer.from) (s_node k_flags ms))) s → IsSource c 1 s
  one_flat ms s some most is = subst (λ k. IsSource c (length (replicate k flat_type.I32)) s) (few_flags (count_of_members ms) some most).one_word is

  pub flags_refuse : (ms ns : Members) → 1 ≤ count_of_members ms → count_of_members ms ≤ 32 → Refuses c (s_node k_flags ms) (s_node k_flags ns)
  unfolding move
  flags_refuse ms ns some most = record {
    by = λ s d gs w m is h ready target.
        does_aligned g (s_node k_flags ms) (s_node k_flags ns) s d (Visit 1 (move_flags c.transfer ms ns s d)) w (never_visit 1 (move_flags c.transfer ms ns s d) w
        (never_number g (flags_bytes ms) 0 s (λ n. write_number c.transfer.to (flags_bytes ns) d (bits_named (names_of ms) (names_of ns) n)) w (one_flat ms s some most is) ready.from (flags_lack ms s some most h)));
  }

  -- ---- enums
  bare_past : (read : Shape → Option Value) (ms : Members) (n : ℕ) → AreBare ms → n < count_of_members ms → case_by read ms n ≡ None → ⊥
  bare_past read no_members n b lt h = omega (arith, lt)
  bare_past read (bare x ms) zero b lt h = none_some None (value.Case x []) refl (sym h)
  bare_past read (bare x ms) (suc n) b lt h = bare_past read ms n b (omega (arith, lt)) h
  bare_past read (typed x s ms) n b lt h = b

  enum_number : (ms ns : Members) (s : Source) (d : Target) (gs : List Region) (w : World) → AreBare ms → IsSource c 1 s → AreBytesOf c.places c.transfer.from w.state c.source → value_at_source c (s_node k_enum ms) s ≡ None → GivesNothing c gs (move_enum c.transfer ms ns s d) w
  unfolding load lift_leading load_case lift_case
  enum_number ms ns (Values []) d gs w b is are h = absurd (omega (arith, is.0))
  enum_number ms ns (Values (v ∷ vs)) d gs w b is are h =
      let n = number_as flat_type.I32 v in
      reads_number g (case_bytes ms) n 1 (Values (v ∷ vs)) (λ n. unless InvalidDiscriminant (nat_lt n (count_of_members ms)) (write_number c.transfer.to (case_bytes ns) d n)) w is are (sum_number ms v vs c)
      (never_unless InvalidDiscriminant (nat_lt n (count_of_members ms)) (write_number c.transfer.to (case_bytes ns) d n) w
      (λ e. absurd (bare_past (λ s. lift_leading (from_side c) c.source s vs) ms n b (ltb-true n (count_of_members ms) e) (sym (lifts_by (from_side c) c.source ms n vs) ∙ h))))
  enum_number ms ns (AtAddress a) d gs w b is are h = go (number_in c.source (case_bytes ms) a) refl
    where
      go : (q : Option ℕ) → number_in c.source (case_bytes ms) a ≡ q → GivesNothing c gs (move_enum c.transfer ms ns (AtAddress a) d) w
      go None e = never_number g (case_bytes ms) 0 (AtAddress a) (λ n. unless InvalidDiscriminant (nat_lt n (count_of_members ms)) (write_number c.transfer.to (case_bytes ns) d n)) w is are (ap (λ n. number_in c.source n a) (tag_same ms) ∙ e)
      go (Some n) e =
          let place = a + payload_place (from_side c) ms in
          reads_number g (case_bytes ms) n 1 (AtAddress a) (λ n. unless InvalidDiscriminant (nat_lt n (count_of_members ms)) (write_number c.transfer.to (case_bytes ns) d n)) w is are (ap (λ n. number_in c.source n a) (tag_same ms) ∙ e)
          (never_unless InvalidDiscriminant (nat_lt n (count_of_members ms)) (write_number c.transfer.to (case_bytes ns) d n) w
          (λ f. absurd (bare_past (λ s. load (from_side c) c.source s place) ms n b (ltb-true n (count_of_members ms) f)
          (sym (loads_by (from_side c) c.source ms n place) ∙ ap (λ o. o >>= (λ x. load_case (from_side c) c.source ms x place)) (sym e) ∙ h))))

  pub enum_refuses : (ms ns : Members) → AreBare ms → Refuses c (s_node k_enum ms) (s_node k_enum ns)
  unfolding move
  enum_refuses ms ns b = record {
    by = λ s d gs w m is h ready target.
        does_aligned g (s_node k_enum ms) (s_node k_enum ns) s d (Visit 1 (move_enum c.transfer ms ns s d)) w (never_visit 1 (move_enum c.transfer ms ns s d) w (enum_number ms ns s d gs w b is ready.from h));
  }
