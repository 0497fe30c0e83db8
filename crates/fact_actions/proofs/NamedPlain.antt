-- Outcomes of adapters hang on the names of imports alone.
use Rattle.std.proofs.Common.{◌≡◌, ℕ, Bool, true, false, List, [], refl, sym, ap, ◌∙◌}
use Rattle.fact_types.specs.declared.outside.Trap.TheVariants.{UncaughtException}
use Rattle.fact_machine.specs.declared.types.CoreValue.{CoreValue}
use Rattle.fact_machine.specs.declared.types.MachineState.{MachineState}
use Rattle.fact_machine.specs.declared.types.Answer.{Answer}
use Rattle.fact_machine.specs.World.{Trap, Throw, Lack}
use Rattle.fact_types.specs.declared.import.Import.{Import}
use Rattle.fact_types.specs.Adapters.{LinkedAdapter}
use Rattle.fact_actions.specs.Actions.{trap}
use Rattle.fact_actions.specs.Running.{ImportPlaces, Ended, Gave, Halted, Strayed, heavier, later, run}
use Rattle.fact_actions.specs.Adapters.{AdapterTunables, sync}
use Rattle.fact_machine.specs.Exits.{first_world}
use Rattle.fact_actions.specs.Plain.{named_outcome, guarded_if, sync_outcome}
use Rattle.fact_actions.specs.Laws.{untraced}
use Rattle.fact_actions.proofs.Names.{untraced_heavier, untraced_later, are_named}

-- an outcome shows nothing of the trace
outcome_untraced : (e : Ended (List CoreValue)) → named_outcome e ≡ named_outcome (untraced e)
outcome_untraced (Gave n cs a w) = refl
outcome_untraced (Halted n cs s w) = refl
outcome_untraced (Strayed n cs w) = refl

outcome_alike : (d e : Ended (List CoreValue)) → untraced d ≡ untraced e → named_outcome d ≡ named_outcome e
outcome_alike d e h = outcome_untraced d ∙ ap named_outcome h ∙ sym (outcome_untraced e)

module _ (p : ImportPlaces) (g : Import → ℕ) where
  -- behind the barrier an end without its trace comes to the same, wherever functions are
  guarded_untraced : (b : Bool) (e : Ended (List CoreValue)) → named_outcome (guarded_if b p e) ≡ named_outcome (guarded_if b (record p { function = g }) (untraced e))
  guarded_untraced false e = outcome_untraced e
  guarded_untraced true (Gave n cs a w) = refl
  guarded_untraced true (Halted n cs Trap w) = refl
  guarded_untraced true (Halted n cs Lack w) = refl
  guarded_untraced true (Halted n cs Throw w) =
      outcome_alike (heavier n (later cs caught)) (heavier n (later cs moved))
      (untraced_heavier n (later cs caught) ∙ ap (heavier n) (untraced_later cs caught ∙ ap (later cs) (are_named p g (trap UncaughtException) w []) ∙ sym (untraced_later cs moved)) ∙ sym (untraced_heavier n (later cs moved)))
    where
      caught : Ended (List CoreValue)
      caught = run p (trap UncaughtException) w

      moved : Ended (List CoreValue)
      moved = run (record p { function = g }) (trap UncaughtException) (record w { trace = [] })
  guarded_untraced true (Strayed n cs w) = refl

pub sync_is_named : (p : ImportPlaces) (g : Import → ℕ) (u : AdapterTunables) (a : LinkedAdapter) (args : List CoreValue) (state : MachineState) (answers : List Answer)
    → sync_outcome p u a args state answers ≡ sync_outcome (record p { function = g }) u a args state answers
sync_is_named p g u a args state answers =
    guarded_untraced p g u.exceptions (run p (sync u a args) (first_world state answers))
    ∙ ap (λ e. named_outcome (guarded_if u.exceptions (record p { function = g }) e)) (are_named p g (sync u a args) (first_world state answers) [])
    ∙ sym (guarded_untraced (record p { function = g }) g u.exceptions (run (record p { function = g }) (sync u a args) (first_world state answers)))
