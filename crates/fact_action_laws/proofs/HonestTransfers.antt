-- The functions of an async adapter that move parameters and results, at work: what their laws ask of a run holds of these.
use Rattle.std.proofs.Common.{◌≡◌, ℕ, zero, suc, true, List, [], ◌∷◌, refl, arith}
use Rattle.std.specs.Prelude.{codes, replicate}
use Rattle.std.specs.List.{Contains}
use Rattle.std.proofs.lemmas.Bool.{leb-true}
use Rattle.fact_entity.specs.declared.id.Id.{Id}
use Rattle.fact_entity.specs.declared.table.RuntimeInstances.{RuntimeInstances}
use Rattle.fact_types.specs.declared.interface.InterfaceType.TheVariants as ty
use Rattle.fact_types.specs.declared.outside.StringEncoding.TheVariants as string
use Rattle.fact_types.specs.Adapters.{LinkedAdapter}
use Rattle.fact_types.specs.Layout.{aligned}
use Rattle.fact_machine.specs.declared.types.CoreValue.{CoreValue}
use Rattle.fact_machine.specs.declared.types.End.TheVariants.{Returned}
use Rattle.fact_machine.specs.declared.types.MachineState.{MachineState}
use Rattle.fact_machine.specs.Exits.{first_world}
use Rattle.fact_values.specs.Lift.{lift_leading}
use Rattle.fact_values.specs.Limits.{AreWithinLimits}
use Rattle.fact_actions.specs.Adapters.{async_start, async_return}
use Rattle.fact_actions.specs.Honest.{IsHonestStart, IsHonestReturn}
use Rattle.fact_actions.specs.Moves.{move_fields}
use Rattle.fact_actions.specs.Plain.{named_outcome}
use Rattle.fact_actions.specs.Regions.{IsAreaSound}
use Rattle.fact_actions.specs.Running.{ImportPlaces, Ended, run}
use Rattle.fact_action_laws.specs.Faithful.{ParamsAreThere}
use Rattle.fact_action_laws.specs.FaithfulLaws.{IsCheckedAdapter}
use Rattle.fact_action_laws.specs.TransferLaws.{TakenAreThere}
use Rattle.fact_action_laws.proofs.WorkedAdapters.{pair, pair_fine, taking, places, state, words, off, fields, a_b_fine, b_a_fine, taking_checked}

module _ (instances : Id RuntimeInstances) where
  abbrev at : ImportPlaces
  at = places instances

  abbrev turned : LinkedAdapter
  turned = taking instances string.Utf8 string.Utf8 (fields (codes "a") ty.U8 (codes "b") ty.U32 ∷ []) (fields (codes "b") ty.U32 (codes "a") ty.U8 ∷ [])

  -- both sides are async, and two results go behind a return pointer
  abbrev waiting : LinkedAdapter
  waiting = record turned { lower = record turned.lower { async_side = true; results = pair }; lift = record turned.lift { async_side = true; results = pair } }

  waiting_checked : IsCheckedAdapter at waiting
  waiting_checked =
      let t = taking_checked instances string.Utf8 string.Utf8 _ _ a_b_fine b_a_fine (record { fields = ((refl, (refl, tt))); names = names }, tt) in
      record {
        lower_params = t.lower_params;
        lower_results = pair_fine;
        lift_params = t.lift_params;
        lift_results = pair_fine;
        params_agree = t.params_agree;
        results_agree = (refl, (refl, tt));
        params_supplied = t.params_supplied;
        results_supplied = λ e. record { from = tt; to = tt; realloc = tt };
        params_behind = λ e. tt;
        params_into = λ e. record { memory = tt; realloc = tt };
        results_behind = λ e. tt;
        results_into = λ e. tt;
        memories = t.memories;
        lower_memory = t.lower_memory;
        lift_memory = t.lift_memory;
        own_callee = record { lift_realloc = t.own_callee.lift_realloc; lower_realloc = t.own_callee.lower_realloc; post_return = t.own_callee.post_return };
      }
    where
      names : (x : List ℕ) → Contains (codes "a" ∷ codes "b" ∷ []) x → Contains (codes "b" ∷ codes "a" ∷ []) x
      names x (zero, lt, e) = (1, leb-true 2 2 refl, e)
      names x (suc zero, lt, e) = (0, leb-true 1 2 refl, e)
      names x (suc (suc k), lt, e) = absurd (omega (arith, lt))

  -- ---- parameters

  abbrev starting : Ended (List CoreValue)
  starting = run at (async_start off waiting (words (511 ∷ 7 ∷ []))) (first_world (state 1 1 [] []) [])

  parameters_arrive : named_outcome starting ≡ record { end = Returned (words (7 ∷ 255 ∷ [])); state = state 1 1 [] []; log = [] }
  unfolding move_fields aligned
  parameters_arrive = refl

  start_meets : IsHonestStart at waiting (words (511 ∷ 7 ∷ [])) (state 1 1 [] []) starting × ParamsAreThere at waiting (words (511 ∷ 7 ∷ [])) (state 1 1 [] [])
  unfolding move_fields aligned lift_leading AreWithinLimits
  start_meets = (record { state_typed = refl; args_typed = refl; typed = tt; honest = tt }, record { values = _; there = refl; bounds = ((tt, (tt, tt)), tt) })

  -- ---- results

  abbrev before : MachineState
  before = state 1 1 [] (replicate 12 9)

  abbrev returning : Ended (List CoreValue)
  returning = run at (async_return off waiting (words (5 ∷ 7 ∷ 4 ∷ []))) (first_world before [])

  -- they stand in the return area, at 4
  results_arrive : named_outcome returning ≡ record { end = Returned []; state = state 1 1 [] (9 ∷ 9 ∷ 9 ∷ 9 ∷ 5 ∷ 9 ∷ 9 ∷ 9 ∷ 7 ∷ 0 ∷ 0 ∷ 0 ∷ []); log = [] }
  unfolding move_fields aligned
  results_arrive = refl

  return_meets : IsHonestReturn at waiting (words (5 ∷ 7 ∷ 4 ∷ [])) before returning × TakenAreThere at waiting (words (5 ∷ 7 ∷ 4 ∷ [])) before × IsAreaSound at waiting (words (5 ∷ 7 ∷ 4 ∷ [])) before
  unfolding move_fields aligned lift_leading AreWithinLimits
  return_meets = (record { state_typed = refl; args_typed = refl; typed = tt; honest = tt }, record { values = _; there = refl; bounds = (tt, (tt, tt)) }, (record { aligned = refl; inside = leb-true 12 12 refl }, tt))
