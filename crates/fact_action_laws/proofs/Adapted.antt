-- The transfers of adapters carry what comes in.
use Rattle.std.proofs.Common.{◌≡◌, ℕ, List, [], None}
use Rattle.fact_types.specs.Agrees.{AgreesFields}
use Rattle.fact_types.specs.Signatures.{flat_values, lower_limit, lift_results_limit}
use Rattle.fact_machine.specs.declared.types.CoreValue.{CoreValue}
use Rattle.fact_machine.specs.World.{World}
use Rattle.fact_actions.specs.Adapters.{AdapterTunables, flat_results, move_params, move_results}
use Rattle.fact_types.specs.Adapters.{LinkedAdapter, is_wide}
use Rattle.fact_types.specs.Tuples.{tuple_members}
use Rattle.fact_actions.specs.Running.{ImportPlaces}
use Rattle.fact_values.specs.declared.value.Value.{Value}
use Rattle.fact_values.specs.Places.{typed_names}
use Rattle.std.specs.List.{zip}
use Rattle.fact_action_laws.specs.FaithfulLaws.{setting_of_params, setting_of_results}
use Rattle.fact_action_laws.specs.Items.{items_fields}
use Rattle.fact_action_laws.specs.MoveTerms.{AreSupplied, AreWellFormed, MayStop, CanAllocate}
use Rattle.fact_action_laws.specs.Places.{to_side, HoldsMemories, IsGrounded}
use Rattle.fact_actions.specs.Regions.{Region}
use Rattle.fact_action_laws.specs.Regions.{TransferSetting, IsInHand}
use Rattle.fact_action_laws.proofs.Converse.{carries_fields}
use Rattle.fact_action_laws.proofs.MoveLaws.{AreMoved}
use Rattle.fact_action_laws.proofs.Theorem.{AreValid}
use Rattle.fact_action_laws.proofs.Transfers.{ComeBy, AreInLimits, called_for, WentBy, IsPlaceOf, spot_of, params_law, results_law}
use Rattle.fact_action_laws.specs.Judged.{RunsHonestly}
use Rattle.fact_action_laws.specs.MoveLaws.{Texts}

module _ (p : ImportPlaces) (u : AdapterTunables) (a : LinkedAdapter) (source : List ℕ) where
  abbrev c : TransferSetting
  c = setting_of_params p u a source

  pub params_carried : IsGrounded c → Texts c → AgreesFields (tuple_members a.lower.params) (tuple_members a.lift.params) → AreValid (tuple_members a.lower.params) → AreWellFormed (tuple_members a.lower.params) → AreValid (tuple_members a.lift.params) → AreWellFormed (tuple_members a.lift.params)
      → AreSupplied c (tuple_members a.lower.params) → (flat_values (is_wide a.lift.memory) 16 a.lift.params ≡ None → CanAllocate c.transfer.to)
      → (args : List CoreValue) (rs : List Value) (w : World) (m : List ℕ) → ComeBy c a.lower.params a.lift.params (flat_values (is_wide a.lower.memory) (lower_limit a.lower.async_side) a.lower.params) args rs → HoldsMemories c m w
      → RunsHonestly c [] (MayStop (AreInLimits c a.lower.params a.lift.params (flat_values (is_wide a.lower.memory) (lower_limit a.lower.async_side) a.lower.params) args) (called_for c a.lower.params a.lift.params (flat_values (is_wide a.lift.memory) 16 a.lift.params) rs))
      (WentBy c a.lower.params a.lift.params (flat_values (is_wide a.lift.memory) 16 a.lift.params) [] m rs) (move_params u a args) w
  params_carried g texts af vm fm vn fn has pointers args rs w m come ready =
      params_law c a.lower.params a.lift.params (carries_fields c g texts (tuple_members a.lift.params) (tuple_members a.lower.params) 0 af vm fm vn fn has) pointers (lower_limit a.lower.async_side) args rs [] w m come ready

module _ (p : ImportPlaces) (u : AdapterTunables) (a : LinkedAdapter) (area : List Region) (source : List ℕ) where
  abbrev r : TransferSetting
  r = setting_of_results p u a area source

  pub results_carried : IsGrounded r → Texts r → AgreesFields (tuple_members a.lift.results) (tuple_members a.lower.results) → AreValid (tuple_members a.lift.results) → AreWellFormed (tuple_members a.lift.results) → AreValid (tuple_members a.lower.results) → AreWellFormed (tuple_members a.lower.results)
      → AreSupplied r (tuple_members a.lift.results)
      → (given : List CoreValue) (pointer : ℕ) (rs : List Value) (w : World) (m : List ℕ) → ComeBy r a.lift.results a.lower.results (flat_values (is_wide a.lift.memory) (lift_results_limit a.lift.async_side) a.lift.results) given rs → HoldsMemories r m w
      → IsPlaceOf r a.lift.results a.lower.results (flat_results a.lower) pointer (IsInHand r []) m
      → RunsHonestly r [] (MayStop (AreInLimits r a.lift.results a.lower.results (flat_values (is_wide a.lift.memory) (lift_results_limit a.lift.async_side) a.lift.results) given) (items_fields (to_side r) (tuple_members a.lift.results) (zip (typed_names (tuple_members a.lift.results)) rs) (tuple_members a.lower.results)))
      (AreMoved r [] m (tuple_members a.lift.results) (tuple_members a.lower.results) 0 (spot_of r a.lift.results a.lower.results (flat_results a.lower) pointer) rs) (move_results u a given pointer) w
  results_carried g texts af vm fm vn fn has given pointer rs w m come ready place =
      results_law r a.lift.results a.lower.results (carries_fields r g texts (tuple_members a.lower.results) (tuple_members a.lift.results) 0 af vm fm vn fn has) a.lower (lift_results_limit a.lift.async_side) pointer given rs [] w m come ready place
