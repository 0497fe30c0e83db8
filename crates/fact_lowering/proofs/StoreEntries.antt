-- An entry of a map, stored as the tuple of its key and its value.
use Rattle.std.proofs.Common.{◌≡◌, ℕ, ◌+◌, ◌≤◌, ◌<◌, Bool, List, [], ◌∷◌, length, Option, Some, None, refl, arith}
use Rattle.fact_types.specs.declared.interface.InterfaceType.{InterfaceType}
use Rattle.fact_types.specs.Agrees.{chosen}
use Rattle.fact_types.specs.Shapes.{Members, place_of, next_of, ends_of}
use Rattle.fact_types.specs.Tables.{Tables}
use Rattle.fact_values.specs.declared.side.SideAbi.{SideAbi}
use Rattle.fact_values.specs.declared.value.Value.{Value}
use Rattle.fact_values.specs.IsA.{AreMembers}
use Rattle.fact_values.specs.Places.{width_of}
use Rattle.fact_lowering.specs.Lowered.{IsStored, IsWritten, LacksRoom, ReadsMembers, own_room, own_rooms}
use Rattle.fact_lowering.specs.Storings.{AreEntryMembers}
use Rattle.fact_lowering.proofs.StoreSteps.{chosen_also}
use Rattle.fact_lowering.proofs.StoreWalks.{StoringHere, storing_here, storing_on, storing_starts, lacks_here, all_stored}

module _ (t : Tables) (side : SideAbi) (key item : InterfaceType) (e0 e1 : Value) (a low : ℕ) (m : List ℕ) (ms : Members) (are : AreEntryMembers t key item ms) (values : AreMembers ms (e0 ∷ e1 ∷ [])) (inside : low ≤ length m) where
  -- in front of the key
  pub at_key : StoringHere t side ms (Some key ∷ Some item ∷ []) (e0 ∷ e1 ∷ []) 0 0 0 a low low m m key
  at_key = storing_here key (omega arith) refl (storing_starts are values inside)

  module _ (place n high : ℕ) (m1 : List ℕ) (is : place ≡ a + place_of (width_of side) at_key.shape 0) (moved : n ≡ next_of (width_of side) at_key.shape 0) (fits : a + ends_of (width_of side) ms 0 ≤ low) (w : IsStored side at_key.shape e0 place low high m m1) where
    -- in front of the value
    pub at_item : StoringHere t side ms (Some key ∷ Some item ∷ []) (e0 ∷ e1 ∷ []) 1 n 1 a low high m m1 item
    at_item = storing_here item (omega arith) refl (storing_on at_key e0 refl n 1 place high m1 is moved refl fits w)

    pub both_stored : (behind end : ℕ) (m2 : List ℕ) → behind ≡ a + place_of (width_of side) at_item.shape n → IsStored side at_item.shape e1 behind high end m1 m2 → IsWritten (ReadsMembers side ms (e0 ∷ e1 ∷ []) a 0) a (ends_of (width_of side) ms 0) low end (own_rooms side ms (e0 ∷ e1 ∷ [])) m m2
    both_stored behind end m2 there v = all_stored (omega arith) (storing_on at_item e1 refl (next_of (width_of side) at_item.shape n) 2 behind end m2 there refl refl fits v)

    -- what is stored of the value, or lacks room, is so of both
    pub entry_done : (done : Bool) (behind end : ℕ) (m2 : List ℕ) → behind ≡ a + place_of (width_of side) at_item.shape n → chosen done (IsStored side at_item.shape e1 behind high end m1 m2) (LacksRoom high (own_room side at_item.shape e1) m1)
        → chosen done (IsWritten (ReadsMembers side ms (e0 ∷ e1 ∷ []) a 0) a (ends_of (width_of side) ms 0) low end (own_rooms side ms (e0 ∷ e1 ∷ [])) m m2) (LacksRoom low (own_rooms side ms (e0 ∷ e1 ∷ [])) m)
    entry_done done behind end m2 there f = chosen_also done (λ v. both_stored behind end m2 there v) (λ l. lacks_here at_item e1 refl l) f
