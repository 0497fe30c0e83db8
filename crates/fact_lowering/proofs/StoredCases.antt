-- How a case is stored: its number, and its payload behind it.
use Rattle.std.proofs.Common.{◌≡◌, ℕ, zero, suc, ◌+◌, ◌^◌, ◌≤◌, ◌<◌, Bool, true, false, List, [], ◌∷◌, length, Option, Some, None, refl, sym, ap, ◌∙◌, subst, arith}
use Rattle.std.specs.Prelude.{slice_get}
use Rattle.fact_types.specs.declared.interface.InterfaceType.{InterfaceType}
use Rattle.fact_types.specs.Agrees.{chosen, names_of}
use Rattle.fact_types.specs.Layout.{discriminant_size, discriminant_bytes, extent, extents, greatest_size, payloads, payload_offset}
use Rattle.fact_types.specs.Shapes.{Kind, Shape, s_node, Members, layout_of, layouts_of}
use Rattle.fact_types.specs.Tables.{Tables, HasShape}
use Rattle.fact_types.proofs.ShapeLaws.{same_some, none_some}
use Rattle.fact_machine.specs.World.{with_number}
use Rattle.fact_abi.specs.Finding.{IsFirstNamed, IsIndexOf, member_type_at}
use Rattle.fact_abi.specs.Nodes.{AreOf}
use Rattle.fact_abi.proofs.BelongLaws.{case_found, case_missing, no_such_case, index_nowhere}
use Rattle.fact_abi.proofs.PartLaws.{count_told}
use Rattle.fact_values.specs.declared.side.SideAbi.{SideAbi}
use Rattle.fact_values.specs.declared.value.Value.{Value, out-Value}
use Rattle.fact_values.specs.declared.value.Value.TheVariants as value
use Rattle.fact_values.specs.Formed.{IsFormed}
use Rattle.fact_values.specs.IsA.{IsA, IsCase, HasCase, IsOnePayload}
use Rattle.fact_values.specs.Numbers.{number_in}
use Rattle.fact_values.specs.Opened.{case_in}
use Rattle.fact_values.specs.Places.{width_of, extent_on, count_of_members, case_bytes, payload_place}
use Rattle.fact_lowering.specs.Lowered.{CanStore, IsStored, IsWritten, LacksRoom, ReadsAt, own_room}
use Rattle.fact_lowering.specs.Lowerings.{ReadsCase, own_case}
use Rattle.fact_lowering.specs.Room.{shape_named, where_there}
use Rattle.fact_lowering.specs.Storings.{HasSpace, IsCaseStorable, IsCaseStored, IsStorable, own_case_of, variant_bytes}
use Rattle.fact_lowering.proofs.Agreeing.{number_written, written_also, written_both, written_wider}
use Rattle.fact_lowering.proofs.OwnRooms.{IsCaseKind, case_room, case_rooms}
use Rattle.fact_lowering.proofs.Stored.{reads_case}
use Rattle.fact_lowering.proofs.StoreCases.{TypedCase, typed_case, BareCase, bare_case, reads_bare, reads_payload, case_fits, payload_within, variant_laid}
use Rattle.fact_lowering.proofs.StoreSteps.{chosen_also}
use Rattle.fact_lowering.proofs.StoreWalks.{can_still, lacks_behind}

-- ---- payloads

only_payload : (P : Value → Type 0) (vs : List Value) (w : Value) → IsOnePayload P vs → slice_get vs 0 ≡ Some w → (vs ≡ w ∷ []) × P w
only_payload P [] w h e = absurd h
only_payload P (v ∷ []) w h e = let q = same_some (Some v) v w refl e in (ap (λ v. v ∷ []) q, subst P q h)
only_payload P (v ∷ u ∷ vs) w h e = absurd h

payload_missing : (P : Value → Type 0) (vs : List Value) → IsOnePayload P vs → slice_get vs 0 ≡ None → ⊥
payload_missing P [] h e = h
payload_missing P (v ∷ []) h e = none_some (Some v) v e refl
payload_missing P (v ∷ u ∷ vs) h e = h

-- a case, opened
case_is : (ms : Members) (v : Value) (x : List ℕ) (vs : List Value) → v ≡ value.Case x vs → IsCase (λ x vs. HasCase ms x vs) (out-Value v) → HasCase ms x vs
case_is ms v x vs e h = subst (IsCase (λ x vs. HasCase ms x vs)) (ap out-Value e ∙ value.outs-Case x vs) h

own_case_is : (side : SideAbi) (ms : Members) (v : Value) (x : List ℕ) (vs : List Value) → v ≡ value.Case x vs → own_case_of side ms v ≡ own_case side ms x vs
own_case_is side ms v x vs e = ap (λ w. where_there (case_in w) (λ c. own_case side ms c.name c.payload)) (ap out-Value e ∙ value.outs-Case x vs)

-- ---- the number of a case, and what stands behind it

module _ (t : Tables) (side : SideAbi) (names : List (List ℕ)) (types : List (Option InterfaceType)) (v : Value) (x : List ℕ) (vs : List Value) (e : v ≡ value.Case x vs) (a low size : ℕ) (m : List ℕ) (size_is : size ≡ discriminant_bytes (discriminant_size (length types))) where
  -- the name is one of a case
  pub case_named : (o : Option ℕ) → o ≡ None → IsIndexOf x names o → IsCaseStorable t side names types v a low m → ⊥
  case_named o none at h = no_such_case x vs h.members (index_nowhere x names h.members o h.named none at) (case_is h.members v x vs e h.is)

  size_told : (ms : Members) → AreOf t types ms → size ≡ case_bytes ms
  size_told ms are = size_is ∙ ap (λ n. discriminant_bytes (discriminant_size n)) (count_told t types ms are)

  -- there is room for the number
  pub number_room : IsCaseStorable t side names types v a low m → a + size ≤ low
  number_room h = omega (arith, size_told h.members h.are, (payload_within side h.members).0, (payload_within side h.members).1, h.room.below)

  module _ (i : ℕ) (o : Option ℕ) (there : o ≡ Some i) (at : IsIndexOf x names o) (few : i < 2 ^ 32) (can : CanStore low m) (room : a + size ≤ low) where
    number_put : (ms : Members) → AreOf t types ms → i < count_of_members ms → IsWritten (λ b. number_in b (case_bytes ms) a ≡ Some i) a (case_bytes ms) low low 0 m (with_number size m a i)
    number_put ms are below =
        subst (λ n. IsWritten (λ b. number_in b n a ≡ Some i) a n low low 0 m (with_number size m a i)) (size_told ms are)
        (number_written m size a i low room can.inside (subst (λ n. i < 256 ^ n) (sym (size_told ms are)) (case_fits (count_of_members ms) i below few)))

    -- a case without payload
    pub bare_stored : member_type_at types i ≡ None → (ms : Members) → names ≡ names_of ms → AreOf t types ms → IsCase (λ x vs. HasCase ms x vs) (out-Value v) → variant_bytes side ms + a ≤ low → IsCaseStored side ms v a low low m (with_number size m a i)
    bare_stored none ms named are is fits =
        let c = bare_case t side x types ms i are (case_found x names ms o i named there at) none in
        let empty : vs ≡ [] = c.has vs (case_is ms v x vs e is) in
        record {
          name = x;
          payload = vs;
          is = e;
          written = subst (λ vs. IsWritten (ReadsCase side ms x vs a) a (variant_bytes side ms) low low (own_case side ms x vs) m (with_number size m a i)) (sym empty)
              (written_wider a (variant_bytes side ms) (own_case side ms x []) (omega arith) (omega (arith, (payload_within side ms).0, (payload_within side ms).1)) (omega arith)
              (written_also (number_put ms are c.below) (λ b l r. reads_bare side b ms x i a r c)));
        }

    -- a case with one
    module _ (y : InterfaceType) (typed_at : member_type_at types i ≡ Some y) where
      pub payload_there : slice_get vs 0 ≡ None → IsCaseStorable t side names types v a low m → ⊥
      payload_there none h =
          let c = typed_case t side x y types h.members i h.are (case_found x names h.members o i h.named there at) typed_at in
          payload_missing (λ v. IsA c.shape v) vs (c.has vs (case_is h.members v x vs e h.is)) none

      module _ (w : Value) (first : slice_get vs 0 ≡ Some w) (place : ℕ) (placed : (ms : Members) → AreOf t types ms → place ≡ payload_offset size (extents (width_of side) (payloads (layouts_of ms)))) where
        place_told : (ms : Members) → AreOf t types ms → place ≡ payload_place side ms
        place_told ms are = placed ms are ∙ ap (λ n. payload_offset n (extents (width_of side) (payloads (layouts_of ms)))) (size_told ms are)

        pub payload_storable : IsCaseStorable t side names types v a low m → IsStorable t side y w (a + place) low (with_number size m a i)
        payload_storable h =
            let c = typed_case t side x y types h.members i h.are (case_found x names h.members o i h.named there at) typed_at in
            let put = number_put h.members h.are c.below in
            record {
              shape = c.shape;
              shaped = c.shaped;
              is = (only_payload (λ v. IsA c.shape v) vs w (c.has vs (case_is h.members v x vs e h.is)) first).1;
              room = record { below = omega (arith, place_told h.members h.are, c.size, (payload_within side h.members).1, h.room.below); can = can_still can put };
            }

        pub payload_stored : (done : Bool) (high : ℕ) (m' : List ℕ) → ((s : Shape) → HasShape t y s → chosen done (IsStored side s w (a + place) low high (with_number size m a i) m') (LacksRoom low (own_room side s w) (with_number size m a i)))
            → (ms : Members) → names ≡ names_of ms → AreOf t types ms → IsCase (λ x vs. HasCase ms x vs) (out-Value v) → variant_bytes side ms + a ≤ low → chosen done (IsCaseStored side ms v a low high m m') (LacksRoom low (own_case_of side ms v) m)
        payload_stored done high m' f ms named are is fits =
            let c = typed_case t side x y types ms i are (case_found x names ms o i named there at) typed_at in
            let one = only_payload (λ v. IsA c.shape v) vs w (c.has vs (case_is ms v x vs e is)) first in
            let put = number_put ms are c.below in
            let spent : own_case side ms x vs ≡ own_room side c.shape w = ap (own_case side ms x) one.0 ∙ c.room w (shape_named x ms) in
            let at_place = place_told ms are in
            chosen_also done
            (λ q. record {
              name = x;
              payload = vs;
              is = e;
              written = written_wider a (variant_bytes side ms) (own_case side ms x vs) (omega arith) (omega arith) (omega (arith, spent))
                  (written_also (written_both a (variant_bytes side ms) (omega arith) (omega (arith, at_place, (payload_within side ms).0)) (omega (arith, at_place, c.size, (payload_within side ms).1)) (omega (arith, at_place, c.size, (payload_within side ms).1, fits)) put q)
                  (λ b l r. subst (λ vs. ReadsCase side ms x vs a b) (sym one.0) (reads_payload side b ms x i a r.0 c w (subst (λ n. ReadsAt side c.shape w (a + n) b) at_place r.1))));
            })
            (λ l. omega (arith, lacks_behind (own_room side c.shape w) (own_room side c.shape w) put (omega arith) l, spent, own_case_is side ms v x vs e))
            (f c.shape c.shaped)

-- ---- a variant of each kind

module _ (side : SideAbi) (k : Kind) (ms : Members) (v : Value) (kind : IsCaseKind k) (formed : IsFormed (s_node k ms)) where
  pub variant_size : (extent_on side (s_node k ms)).size ≡ variant_bytes side ms
  variant_size = ap (λ l. (extent (width_of side) l).size) (variant_laid k ms kind formed)

  pub variant_stored : (done : Bool) (a low high : ℕ) (m m' : List ℕ) → IsCase (λ x vs. HasCase ms x vs) (out-Value v) → chosen done (IsCaseStored side ms v a low high m m') (LacksRoom low (own_case_of side ms v) m) → chosen done (IsStored side (s_node k ms) v a low high m m') (LacksRoom low (own_room side (s_node k ms) v) m)
  variant_stored done a low high m m' is h = chosen_also done
      (λ c.
      let spent : own_case side ms c.name c.payload ≡ own_room side (s_node k ms) v = sym (ap (own_room side (s_node k ms)) c.is ∙ case_room side k ms c.name c.payload kind) in
      written_wider a (extent_on side (s_node k ms)).size (own_room side (s_node k ms) v) (omega arith) (omega (arith, variant_size)) (omega (arith, spent))
      (written_also c.written (λ b l r. subst (λ v. ReadsAt side (s_node k ms) v a b) (sym c.is) (reads_case side b k ms a c.name c.payload kind r))))
      (λ l. omega (arith, l, case_rooms side k ms v kind)) h
