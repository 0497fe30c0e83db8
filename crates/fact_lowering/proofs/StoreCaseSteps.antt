-- What the function that stores a case comes to, step by step.
use Rattle.std.proofs.Common.{◌≡◌, ℕ, ◌+◌, ◌^◌, ◌≤◌, ◌<◌, Bool, List, length, Option, Some, None, refl, sym, ap, ◌∙◌, subst, arith}
use Rattle.std.specs.Prelude.{slice_get}
use Rattle.fact_types.specs.declared.interface.InterfaceType.{InterfaceType}
use Rattle.fact_types.specs.Agrees.{chosen, names_of}
use Rattle.fact_types.specs.Layout.{discriminant_size, discriminant_bytes, extent, extents, payloads, payload_offset, variant_layout}
use Rattle.fact_types.specs.Shapes.{Shape, Members, layouts_of}
use Rattle.fact_types.specs.Tables.{Tables, HasShape}
use Rattle.fact_machine.specs.World.{with_number}
use Rattle.fact_abi.specs.Finding.{IsIndexOf, member_type_at}
use Rattle.fact_abi.specs.Nodes.{AreOf}
use Rattle.fact_values.specs.declared.side.SideAbi.{SideAbi}
use Rattle.fact_values.specs.declared.value.Value.{Value, out-Value}
use Rattle.fact_values.specs.declared.value.Value.TheVariants as value
use Rattle.fact_values.specs.IsA.{IsCase, HasCase}
use Rattle.fact_values.specs.Places.{width_of}
use Rattle.fact_lowering.specs.Lowered.{IsStored, LacksRoom, own_room}
use Rattle.fact_lowering.specs.Storings.{IsCaseStorable, IsCaseStored, IsStorable, own_case_of, variant_bytes}
use Rattle.fact_lowering.proofs.StoredCases.{case_named, number_room, bare_stored, payload_there, payload_storable, payload_stored}
use Rattle.fact_lowering.proofs.StoreItems.{same_layouts}

module _ {t : Tables} {side : SideAbi} {names : List (List ℕ)} {types : List (Option InterfaceType)} {v : Value} {a low : ℕ} {m : List ℕ} (st : IsCaseStorable t side names types v a low m) (x : List ℕ) (vs : List Value) (e : v ≡ value.Case x vs) where
  -- the name is one of a case
  pub name_there : (o : Option ℕ) → o ≡ None → IsIndexOf x names o → ⊥
  name_there o none at = case_named t side names types v x vs e a low (discriminant_bytes (discriminant_size (length types))) m refl o none at st

  -- all members of these types have room
  whole_fits : (ms : Members) → AreOf t types ms → variant_bytes side ms + a ≤ low
  whole_fits ms are =
      let same : variant_bytes side st.members ≡ variant_bytes side ms = ap (λ ls. (extent (width_of side) (variant_layout ls)).size) (same_layouts t types st.members ms st.are are) in
      omega (arith, same, st.room.below)

  module _ (size : ℕ) (size_is : size ≡ discriminant_bytes (discriminant_size (length types))) where
    -- there is room for the number
    pub number_fits : a + size ≤ low
    number_fits = number_room t side names types v x vs e a low size m size_is st

    module _ (i : ℕ) (o : Option ℕ) (there : o ≡ Some i) (at : IsIndexOf x names o) (few : i < 2 ^ 32) (mid : ℕ) (m1 : List ℕ) (same : mid ≡ low) (put : m1 ≡ with_number size m a i) where
      -- the case has no payload
      pub bare_done : member_type_at types i ≡ None → (ms : Members) → names ≡ names_of ms → AreOf t types ms → IsCase (λ x vs. HasCase ms x vs) (out-Value v) → IsCaseStored side ms v a low mid m m1
      bare_done none ms named are is =
          subst (λ k. IsCaseStored side ms v a low k m m1) (sym same) (subst (λ l. IsCaseStored side ms v a low low m l) (sym put)
          (bare_stored t side names types v x vs e a low size m size_is i o there at few st.room.can number_fits none ms named are is (whole_fits ms are)))

      -- it has one
      module _ (y : InterfaceType) (typed_at : member_type_at types i ≡ Some y) where
        pub payload_given : slice_get vs 0 ≡ None → ⊥
        payload_given none = payload_there t side names types v x vs e a low size m size_is i o there at few st.room.can number_fits y typed_at none st

        module _ (w : Value) (first : slice_get vs 0 ≡ Some w) (place : ℕ) (placed : (ms : Members) → AreOf t types ms → place ≡ payload_offset size (extents (width_of side) (payloads (layouts_of ms)))) where
          pub payload_fits : IsStorable t side y w (a + place) mid m1
          payload_fits = subst (λ k. IsStorable t side y w (a + place) k m1) (sym same) (subst (λ l. IsStorable t side y w (a + place) low l) (sym put)
              (payload_storable t side names types v x vs e a low size m size_is i o there at few st.room.can number_fits y typed_at w first place placed st))

          pub payload_done : (done : Bool) (high : ℕ) (m' : List ℕ) → ((s : Shape) → HasShape t y s → chosen done (IsStored side s w (a + place) mid high m1 m') (LacksRoom mid (own_room side s w) m1))
              → (ms : Members) → names ≡ names_of ms → AreOf t types ms → IsCase (λ x vs. HasCase ms x vs) (out-Value v) → chosen done (IsCaseStored side ms v a low high m m') (LacksRoom low (own_case_of side ms v) m)
          payload_done done high m' f ms named are is =
              payload_stored t side names types v x vs e a low size m size_is i o there at few st.room.can number_fits y typed_at w first place placed done high m'
              (λ s h. subst (λ k. chosen done (IsStored side s w (a + place) k high (with_number size m a i) m') (LacksRoom k (own_room side s w) (with_number size m a i))) same
              (subst (λ l. chosen done (IsStored side s w (a + place) mid high l m') (LacksRoom mid (own_room side s w) l)) put (f s h)))
              ms named are is (whole_fits ms are)
