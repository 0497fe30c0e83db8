-- A transfer of parameters or results that was moved is one as fact_values reads it on both sides.
use Rattle.std.proofs.Common.{◌≡◌, ℕ, Bool, true, false, List, [], ◌∷◌, ◌++◌, length, map, Option, Some, None, refl, sym, ap, ◌∙◌, subst, arith, append-nil}
use Rattle.fact_wasm.specs.declared.types.ValType.{ValType}
use Rattle.fact_types.specs.declared.flats.FlatType.{FlatType}
use Rattle.fact_types.specs.Agrees.{AgreesPlaces}
use Rattle.fact_types.specs.Flat.{value_type}
use Rattle.fact_types.specs.FlatShapes.{flat_all}
use Rattle.fact_types.specs.Shapes.{Shape}
use Rattle.fact_types.specs.Signatures.{address, flat_values, unless_flat}
use Rattle.fact_machine.specs.declared.types.CoreValue.{CoreValue}
use Rattle.fact_machine.specs.declared.types.MachineState.{MachineState}
use Rattle.fact_machine.specs.World.{World}
use Rattle.fact_types.specs.Tuples.{tuple_members}
use Rattle.fact_actions.specs.Adapters.{last_bits}
use Rattle.fact_actions.specs.Calls.{side_memory}
use Rattle.fact_actions.specs.Running.{Call}
use Rattle.fact_machine.specs.Typed.{are_values}
use Rattle.fact_actions.specs.Sides.{Slots, Into, first_bits, width_of_side}
use Rattle.fact_values.specs.Lift.{bits_of}
use Rattle.fact_types.specs.Adapters.{is_wide}
use Rattle.fact_values.specs.declared.value.Value.{Value}
use Rattle.fact_values.specs.Canonical.{AreCanonicalAt, AreCanonicalFlat}
use Rattle.fact_values.specs.IsA.{AreMembers}
use Rattle.fact_values.specs.Places.{typed_names}
use Rattle.fact_values.specs.Tuples.{lift_all, load_tuple, behind_only, behind_last, where_flat, lift_param_values, sync_lower_results}
use Rattle.fact_action_laws.specs.Faithful.{IsTransferred, AreCanonical}
use Rattle.fact_action_laws.specs.MoveTerms.{AreWellFormed}
use Rattle.fact_action_laws.specs.Places.{to_side}
use Rattle.fact_actions.specs.Regions.{Region}
use Rattle.fact_action_laws.specs.Regions.{TransferSetting, IsInHand, AreBytesOf, regions_after}
use Rattle.fact_action_laws.proofs.Landing.{bytes_there, stands_flat, stands_behind, behind_new, behind_return}
use Rattle.fact_action_laws.proofs.MoveLaws.{AreMoved, MembersStand}
use Rattle.fact_action_laws.proofs.Membered.{moved_carries, transferred_among}
use Rattle.fact_action_laws.proofs.Transfers.{WentBy, IsPlaceOf, spot_of}
use Rattle.fact_machine.specs.Typing.{address_operand}

abbrev pub flat_of : Option (List FlatType) → Option (List ValType)
flat_of None = None
flat_of (Some fs) = Some (map value_type fs)

bits_new : (wide : Bool) (q : ℕ) → bits_of (address_operand wide q) ≡ q
bits_new false q = refl
bits_new true q = refl

-- Both that a transfer was one, and that what stands at its destination is canonical.
pub record HasLanded (c : TransferSetting) (ss us : List Shape) (source destination : Option (List Value)) (calls : List Call) (bytes : List ℕ) (flats : Option (List FlatType)) (given : List CoreValue) (pointer : ℕ) : Type 0 where
  pub transferred : IsTransferred ss us source destination calls
  pub canonical : AreCanonical (to_side c) bytes flats us given pointer

module _ (c : TransferSetting) (ss us : List Shape) (agree : AgreesPlaces (tuple_members ss) (tuple_members us)) (formed : AreWellFormed (tuple_members us))
    (rs : List Value) (are : AreMembers (tuple_members ss) rs) (long : length rs ≡ length (typed_names (tuple_members ss))) (source : Option (List Value)) (from : source ≡ Some rs) where
  -- what stands, in a state with the memories of the world where the transfer ended
  module _ (gs : List Region) (m : List ℕ) (w : World) (s : MachineState) (same : s.memories ≡ w.state.memories) where
    now_there : (now : List ℕ) → AreBytesOf c.places c.transfer.to w.state now → side_memory c.places c.transfer.to s ≡ now
    now_there now t = bytes_there c.places c.transfer.to s now (subst (λ ms. AreBytesOf c.places c.transfer.to (record { memories = ms; globals = s.globals }) now) (sym same) t)

    flat_landed : (k : ℕ) (cs : List Call) (core : List CoreValue) (limit : ℕ) (fs : List FlatType) → flat_all (width_of_side c.transfer.to) limit us ≡ Some fs
        → AreMoved c gs m (tuple_members ss) (tuple_members us) 0 (Slots (map value_type fs)) rs k cs core w
        → (other : Option (List Value)) (pointer : ℕ)
        → HasLanded c ss us source (where_flat (flat_all (width_of_side c.transfer.to) limit us) (lift_all (to_side c) (side_memory c.places c.transfer.to s) us core) other) cs (side_memory c.places c.transfer.to s) (flat_all (width_of_side c.transfer.to) limit us) core pointer
    flat_landed k cs core limit fs e moved other pointer =
        let now = moved.leaves.now in
        let there : side_memory c.places c.transfer.to s ≡ now = now_there now moved.leaves.ready.to in
        let stand : MembersStand c (tuple_members us) 0 moved.outs (Slots (map value_type fs)) core now = moved.leaves.placed.stands.holds now (record { same = λ j f. refl; room = omega arith }) in
        record {
          transferred = moved_carries c gs m ss us (Slots (map value_type fs)) rs k cs core w agree are long moved source _ from
              (ap (λ q. where_flat q (lift_all (to_side c) (side_memory c.places c.transfer.to s) us core) other) e ∙ ap (λ b. lift_all (to_side c) b us core) there ∙ stands_flat c us limit fs e formed moved.outs core now moved.given stand);
          canonical = subst (λ q. AreCanonical (to_side c) (side_memory c.places c.transfer.to s) q us core pointer) (sym e) (subst (λ b. AreCanonicalFlat (to_side c) b (tuple_members us) core) (sym there) stand.1);
        }

  -- Parameters that were moved are those that the callee is given.
  pub params_landed : (m : List ℕ) (k : ℕ) (cs : List Call) (core : List CoreValue) (w : World) (s : MachineState) → s.memories ≡ w.state.memories
      → WentBy c ss us (flat_values (is_wide c.transfer.to.memory) 16 us) [] m rs k cs core w
      → HasLanded c ss us source (lift_param_values (to_side c) (side_memory c.places c.transfer.to s) us core) cs (side_memory c.places c.transfer.to s) (flat_all (width_of_side c.transfer.to) 16 us) core (first_bits core)
  params_landed m k cs core w s same went = go (flat_all (width_of_side c.transfer.to) 16 us) refl went
    where
      bytes : List ℕ
      bytes = side_memory c.places c.transfer.to s

      go : (o : Option (List FlatType)) → flat_all (width_of_side c.transfer.to) 16 us ≡ o → WentBy c ss us (flat_of o) [] m rs k cs core w
          → HasLanded c ss us source (lift_param_values (to_side c) (side_memory c.places c.transfer.to s) us core) cs (side_memory c.places c.transfer.to s) (flat_all (width_of_side c.transfer.to) 16 us) core (first_bits core)
      go (Some fs) e moved = flat_landed [] m w s same k cs core 16 fs e moved _ (first_bits core)
      go None e t =
          let now = t.moved.leaves.now in
          let there : side_memory c.places c.transfer.to s ≡ now = now_there [] m w s same now t.moved.leaves.ready.to in
          let stand : MembersStand c (tuple_members us) 0 t.moved.outs (Into t.at) [] now = t.moved.leaves.placed.stands.holds now (record { same = λ j f. refl; room = omega arith }) in
          let at_pointer = bits_new (is_wide c.transfer.to.memory) t.at in
          let one : IsTransferred ss us source (lift_param_values (to_side c) (side_memory c.places c.transfer.to s) us core) t.others =
          moved_carries c (regions_after [] t.first) t.new.now ss us (Into t.at) rs k t.others [] w agree are long t.moved source _ from
          (ap (λ q. where_flat q (lift_all (to_side c) (side_memory c.places c.transfer.to s) us core) (behind_only (to_side c) (side_memory c.places c.transfer.to s) us core)) e
          ∙ ap (λ l. behind_only (to_side c) (side_memory c.places c.transfer.to s) us l) t.given
          ∙ behind_new (is_wide c.transfer.to.memory) c.transfer.to.encoding (side_memory c.places c.transfer.to s) us t.at t.new.small
          ∙ ap (λ b. load_tuple (to_side c) b us t.at) there
          ∙ stands_behind c us t.at t.moved.outs [] now t.new.aligned (omega (arith, t.new.inside, t.moved.leaves.placed.room)) stand) in
          record {
            transferred = subst (λ l. IsTransferred ss us source (lift_param_values (to_side c) (side_memory c.places c.transfer.to s) us core) l) (ap (λ l. t.first ++ l) (append-nil t.others) ∙ sym t.is)
                (transferred_among ss us source _ t.first t.others [] t.new.told.crosses refl one);
            canonical = subst (λ q. AreCanonical (to_side c) (side_memory c.places c.transfer.to s) q us core (first_bits core)) (sym e)
                (subst (λ b. AreCanonicalAt (to_side c) b (tuple_members us) (first_bits core) 0) (sym there)
                (subst (λ q. AreCanonicalAt (to_side c) now (tuple_members us) q 0) (sym (ap first_bits t.given ∙ at_pointer)) stand.1));
          }

  -- Results that were moved are those that the lower side gets.
  pub results_landed : (m : List ℕ) (k : ℕ) (cs : List Call) (given args : List CoreValue) (ts : List ValType) (w : World) (s : MachineState) → s.memories ≡ w.state.memories
      → are_values args (ts ++ unless_flat (address (is_wide c.transfer.to.memory) ∷ []) (flat_values (is_wide c.transfer.to.memory) 1 us)) ≡ true
      → IsPlaceOf c ss us (flat_values (is_wide c.transfer.to.memory) 1 us) (last_bits args) (IsInHand c []) m
      → AreMoved c [] m (tuple_members ss) (tuple_members us) 0 (spot_of c ss us (flat_values (is_wide c.transfer.to.memory) 1 us) (last_bits args)) rs k cs given w
      → HasLanded c ss us source (sync_lower_results (to_side c) (side_memory c.places c.transfer.to s) us args given) cs (side_memory c.places c.transfer.to s) (flat_all (width_of_side c.transfer.to) 1 us) given (last_bits args)
  results_landed m k cs given args ts w s same typed place moved = go (flat_all (width_of_side c.transfer.to) 1 us) refl typed place moved
    where
      go : (o : Option (List FlatType)) → flat_all (width_of_side c.transfer.to) 1 us ≡ o → are_values args (ts ++ unless_flat (address (is_wide c.transfer.to.memory) ∷ []) (flat_of o)) ≡ true
          → IsPlaceOf c ss us (flat_of o) (last_bits args) (IsInHand c []) m
          → AreMoved c [] m (tuple_members ss) (tuple_members us) 0 (spot_of c ss us (flat_of o) (last_bits args)) rs k cs given w
          → HasLanded c ss us source (sync_lower_results (to_side c) (side_memory c.places c.transfer.to s) us args given) cs (side_memory c.places c.transfer.to s) (flat_all (width_of_side c.transfer.to) 1 us) given (last_bits args)
      go (Some fs) e typed place moved = flat_landed [] m w s same k cs given 1 fs e moved _ (last_bits args)
      go None e typed place moved =
          let now = moved.leaves.now in
          let there : side_memory c.places c.transfer.to s ≡ now = now_there [] m w s same now moved.leaves.ready.to in
          let stand : MembersStand c (tuple_members us) 0 moved.outs (Into (last_bits args)) given now = moved.leaves.placed.stands.holds now (record { same = λ j f. refl; room = omega arith }) in
          record {
            transferred = moved_carries c [] m ss us (Into (last_bits args)) rs k cs given w agree are long moved source _ from
                (ap (λ q. where_flat q (lift_all (to_side c) (side_memory c.places c.transfer.to s) us given) (behind_last (to_side c) (side_memory c.places c.transfer.to s) us args)) e
                ∙ behind_return (is_wide c.transfer.to.memory) c.transfer.to.encoding (side_memory c.places c.transfer.to s) us ts args typed
                ∙ ap (λ b. load_tuple (to_side c) b us (last_bits args)) there
                ∙ stands_behind c us (last_bits args) moved.outs given now place.1 (omega (arith, place.2, moved.leaves.placed.room)) stand);
            canonical = subst (λ q. AreCanonical (to_side c) (side_memory c.places c.transfer.to s) q us given (last_bits args)) (sym e)
                (subst (λ b. AreCanonicalAt (to_side c) b (tuple_members us) (last_bits args) 0) (sym there) stand.1);
          }
