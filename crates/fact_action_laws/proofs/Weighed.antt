-- The weight of a run that gives something is that of its values.
use Rattle.std.proofs.Common.{◌≡◌, ℕ, true, List, [], ◌∷◌, ◌++◌, length, Option, Some, sym, ap, ◌∙◌, subst}
use Rattle.std.specs.Prelude.{if◌then◌else◌}
use Rattle.fact_types.specs.Agrees.{AgreesPlaces}
use Rattle.fact_types.specs.Shapes.{Shape}
use Rattle.fact_machine.specs.declared.types.CoreValue.{CoreValue}
use Rattle.fact_machine.specs.World.{World, Stop}
use Rattle.fact_actions.specs.Actions.{Action}
use Rattle.fact_types.specs.Adapters.{LinkedAdapter}
use Rattle.fact_types.specs.Tuples.{tuple_members}
use Rattle.fact_actions.specs.Calls.{is_call_of}
use Rattle.fact_actions.specs.Running.{ImportPlaces, Call, Gave, run}
use Rattle.fact_actions.specs.Sides.{Target}
use Rattle.fact_values.specs.declared.value.Value.{Value}
use Rattle.fact_values.specs.Places.{typed_names}
use Rattle.fact_action_laws.specs.Faithful.{results_answered, weight_of_values, answered_weight}
use Rattle.fact_action_laws.specs.HonestMoves.{AreHonestCalls}
use Rattle.fact_actions.specs.Regions.{Region}
use Rattle.fact_action_laws.specs.Regions.{TransferSetting}
use Rattle.fact_action_laws.proofs.MoveLaws.{AreMoved}
use Rattle.fact_action_laws.proofs.Membered.{weighs_placed}
use Rattle.fact_action_laws.proofs.Once.{NoneCalls}
use Rattle.fact_action_laws.specs.Judged.{Judged, RunsHonestly}

-- What is said of an action holds of what it gave by honest calls.
pub does_give_so : {A : Type 0} (c : TransferSetting) (gs : List Region) (H : Stop → List Call → Type 0) (P : ℕ → List Call → A → World → Type 0) (q : Action A) (w : World) (n : ℕ) (cs : List Call) (a : A) (w' : World)
    → RunsHonestly c gs H P q w → run c.places q w ≡ Gave n cs a w' → AreHonestCalls c gs cs → P n cs a w'
does_give_so c gs H P q w n cs a w' d e h = subst (λ x. Judged c gs H P x) e d.judged.by h

-- What was moved weighs what the values do, in their source types.
pub moved_weighs : (c : TransferSetting) (gs : List Region) (m : List ℕ) (ss ds : List Shape) (d : Target) (vs : List Value) (n : ℕ) (cs : List Call) (us : List CoreValue) (w : World)
    → AgreesPlaces (tuple_members ss) (tuple_members ds) → length vs ≡ length (typed_names (tuple_members ss)) → AreMoved c gs m (tuple_members ss) (tuple_members ds) 0 d vs n cs us w
    → (source : Option (List Value)) → source ≡ Some vs → n ≡ weight_of_values ss source
moved_weighs c gs m ss ds d vs n cs us w agree long moved source from = moved.weighs ∙ weighs_placed ss ds agree vs long ∙ ap (weight_of_values ss) (sym from)

-- The results that count are those of the one call of the callee.
pub answered_once : (p : ImportPlaces) (a : LinkedAdapter) (before : List Call) (callee : Call) (behind : List Call) → NoneCalls a before → is_call_of a.callee callee ≡ true
    → answered_weight p a (before ++ (callee ∷ behind)) ≡ weight_of_values a.lift.results (results_answered p a callee)
answered_once p a [] callee behind none is = ap (λ b. if b then weight_of_values a.lift.results (results_answered p a callee) else answered_weight p a behind) is
answered_once p a (c ∷ cs) callee behind none is =
    ap (λ b. if b then weight_of_values a.lift.results (results_answered p a c) else answered_weight p a (cs ++ (callee ∷ behind))) none.0 ∙ answered_once p a cs callee behind none.1 is
