-- The functions of async adapters ask of realloc what the parts of their values do.
use Rattle.std.proofs.Common.{◌≡◌, ℕ, List, [], Option, Some, None, refl, sym, ap, ◌∙◌, subst}
use Rattle.std.specs.Prelude.{slice_get}
use Rattle.std.proofs.lemmas.List.{append-nil}
use Rattle.fact_types.specs.Adapters.{LinkedAdapter}
use Rattle.fact_machine.specs.Machine.{i32_of}
use Rattle.fact_machine.specs.World.{World, set_global}
use Rattle.fact_machine.specs.declared.types.CoreValue.{CoreValue}
use Rattle.fact_machine.specs.declared.types.CoreValue.TheVariants.{I32}
use Rattle.fact_actions.specs.Actions.{Action, Give, SetFlags, ◌>>=◌}
use Rattle.fact_actions.specs.Adapters.{params_transfer, results_transfer, cleared, get_flags, last_bits, move_params, move_results}
use Rattle.fact_actions.specs.Honest.{AreHonest, IsStraight}
use Rattle.fact_actions.specs.Regions.{Landing, landed, params_landing, results_landing, moved_on}
use Rattle.fact_actions.specs.Requests.{RequestPart, AreRequests, answers_in, parts_requests}
use Rattle.fact_actions.specs.Running.{ImportPlaces, Ended, Gave, Halted, Strayed, heavier, later, then_ended, or_strayed, calls_in, run}
use Rattle.fact_actions.specs.Sides.{Transfer}
use Rattle.fact_actions.proofs.Binds.{binds_run}
use Rattle.fact_action_laws.specs.AdapterValueLaws.{StartRequestsAreCalledFor, ReturnRequestsAreCalledFor}
use Rattle.fact_action_laws.specs.Requested.{AsksForParts, params_parts, results_parts}
use Rattle.fact_action_laws.specs.Rooms.{AllCutsShrink}
use Rattle.fact_action_laws.specs.Trapped.{AreHonestUntilTrap, BeginRequestsSoFar}
use Rattle.fact_action_laws.proofs.AdapterRequests.{params_asked, results_asked}
use Rattle.fact_action_laws.proofs.Trapped.{GivesReturned, all_answers, gives_returned}

-- ---- flags

module _ (p : ImportPlaces) (a : LinkedAdapter) (tr : Transfer) (l : Landing) (xs : List RequestPart) where
  -- an end of calls that are honest until a trap
  abbrev Honestly : Ended (List CoreValue) → Type 0
  Honestly e = AreHonestUntilTrap (AreHonest p a moved_on (landed l)) (calls_in e) → AsksForParts tr l xs e

  module _ (i : ℕ) (q : Action (List CoreValue)) where
    restored : (saved : ℕ) (e : Ended (List CoreValue)) → Honestly e → Honestly (then_ended e (λ r w. run p (SetFlags i saved (Give r)) w))
    restored saved (Gave n cs r w) h = by_flag (slice_get w.state.globals (p.flags i))
      where
        by_flag : (o : Option CoreValue) → Honestly (heavier n (later cs (or_strayed w o (λ v. run p (Give r) (set_global (p.flags i) (I32 saved) w)))))
        by_flag None = λ k. tt
        by_flag (Some v) = λ k. subst (λ ds. AreRequests tr l xs ds × AllCutsShrink tr xs (answers_in l ds)) (sym (append-nil cs)) (h (subst (λ ds. AreHonestUntilTrap (AreHonest p a moved_on (landed l)) ds) (append-nil cs) k))
    restored saved (Halted n cs s w) h = h
    restored saved (Strayed n cs w) h = λ k. tt

    -- the same where flags are 0 meanwhile
    flagged : (w : World) → ((v : World) → v.state.memories ≡ w.state.memories → Honestly (run p q v)) → Honestly (run p (get_flags i >>= (λ saved. cleared i saved q)) w)
    flagged w h = by_value (slice_get w.state.globals (p.flags i))
      where
        by_flag : (saved : ℕ) (o : Option CoreValue) → Honestly (or_strayed w o (λ v. run p (q >>= (λ r. SetFlags i saved (Give r))) (set_global (p.flags i) (I32 0) w)))
        by_flag saved None = λ k. tt
        by_flag saved (Some v) =
            let first = set_global (p.flags i) (I32 0) w in
            subst Honestly (sym (binds_run p q (λ r. SetFlags i saved (Give r)) first)) (restored saved (run p q first) (h first refl))

        by_number : (o : Option ℕ) → Honestly (or_strayed w o (λ n. run p (cleared i n q) w))
        by_number None = λ k. tt
        by_number (Some n) = by_flag n (slice_get w.state.globals (p.flags i))

        by_value : (o : Option CoreValue) → Honestly (or_strayed w o (λ v. or_strayed w (i32_of v) (λ n. run p (cleared i n q) w)))
        by_value None = λ k. tt
        by_value (Some v) = by_number (i32_of v)

-- ---- the functions

pub start_requests_are_called_for : StartRequestsAreCalledFor
start_requests_are_called_for p u a args w known honest =
    flagged p a (params_transfer u a) (params_landing a) (params_parts p u a args w.state) a.lift.instance (move_params u a args) w (λ v same. params_asked p u a known args w.state honest.state_typed v same (run p (move_params u a args) v) refl) honest.honest

pub return_requests_are_called_for : ReturnRequestsAreCalledFor
return_requests_are_called_for p u a args w known honest =
    flagged p a (results_transfer u a) (results_landing a args) (results_parts p u a args args w.state) a.lower.instance (move_results u a args (last_bits args)) w
    (λ v same. results_asked p u a known args args w.state honest.state_typed v same (run p (move_results u a args (last_bits args)) v) refl) honest.honest

-- ---- so far

-- what an end has asked for is so far a front of what is called for, also where it gave something
begun_by : (tr : Transfer) (l : Landing) (xs : List RequestPart) (e : Ended (List CoreValue)) → IsStraight e → GivesReturned e → AsksForParts tr l xs e → BeginRequestsSoFar tr l xs (calls_in e)
begun_by tr l xs (Gave n cs vs w) s returned asked = record { more = []; is = ap (parts_requests tr xs) (all_answers l cs returned) ∙ sym asked.0 ∙ sym (append-nil _) }
begun_by tr l xs (Halted n cs t w) s returned asked = asked.0
begun_by tr l xs (Strayed n cs w) s returned asked = absurd s

pub asks_so_far : (p : ImportPlaces) (tr : Transfer) (l : Landing) (xs : List RequestPart) (q : Action (List CoreValue)) (w : World) → IsStraight (run p q w) → AsksForParts tr l xs (run p q w) → BeginRequestsSoFar tr l xs (calls_in (run p q w))
asks_so_far p tr l xs q w straight asked = begun_by tr l xs (run p q w) straight (gives_returned p q w) asked
