-- Cited by private clauses alone.
-- What a machine does whose outside is asked call by call: the same as one that was given these answers beforehand.
use Rattle.std.specs.Prelude.{◌≡◌, ◌≢◌, ℕ, List, [], ◌∷◌, ◌++◌, Option, Some, None}
use Rattle.fact_wasm.specs.declared.instr.FuncName.TheVariants.{Import}
use Rattle.fact_wasm.specs.declared.instr.Instr.{Instr, out-Instr}
use Rattle.fact_wasm.specs.declared.instr.Instr.TheOpen as instr
use Rattle.fact_wasm.specs.declared.instr.Instr.TheOpen.{Instr-F}
use Rattle.fact_wasm.specs.declared.module.WasmModule.{WasmModule}
use Rattle.fact_machine.specs.declared.types.Answer.{Answer}
use Rattle.fact_machine.specs.declared.types.Event.{Event}
use Rattle.fact_machine.specs.declared.types.End.{End}
use Rattle.fact_machine.specs.declared.types.End.TheVariants.{Lacks}
use Rattle.fact_machine.specs.declared.types.Outcome.{Outcome}
use Rattle.fact_interpreter.specs.declared.running.Running.{Running}
use Rattle.fact_machine.specs.Causes.{answers_of}
use Rattle.fact_machine.specs.World.{World, log_of}
use Rattle.fact_machine.specs.Machine.{Bottom, Config, At, Did, Goes, Ends, outcome, next, begin, exec}
use Rattle.fact_interpreter.specs.Running.{Row, around_of, world_of, config_of, did_of}

-- ---- other answers left

abbrev pub with_answers : List Answer → World → World
with_answers answers w = record { state = w.state; answers = answers; trace = w.trace }

abbrev pub config_with : List Answer → Config → Config
config_with answers (At w vs ls code k) = At (with_answers answers w) vs ls code k

abbrev pub did_with : List Answer → Did → Did
did_with answers (Goes c) = Goes (config_with answers c)
did_with answers (Ends e w) = Ends e (with_answers answers w)

-- a row at a running machine, and its next step, with these answers left
abbrev pub at_with : Running → Row → List Answer → Did
at_with r row answers = row (with_answers answers (world_of r)) r.stack r.locals r.code.now (around_of r.around Bottom)

abbrev pub step_with : WasmModule → Running → List Answer → Did
step_with M r answers = begin M (next (config_with answers (config_of r)))

abbrev pub exec_with : WasmModule → ℕ → Running → List Answer → Outcome
exec_with M n r answers = exec M n (config_with answers (config_of r))

-- ---- calls of imports

abbrev pub called_import : Instr-F Instr → Option ℕ
called_import (instr.Call (Import n)) = Some n
called_import _ = None

-- the number of the imported function that code begins with a call of
abbrev pub begins_with_import : List Instr → Option ℕ
begins_with_import [] = None
begins_with_import (i ∷ rest) = called_import (out-Instr i)

-- ---- what was done

abbrev pub HasNotLacked : Option End → Type 0
HasNotLacked None = Unit {0}
HasNotLacked (Some e) = e ≢ Lacks

-- The outside, which had answered the events `before` and then `after`, answered these calls meanwhile; all of them are in the log. With
-- their answers beforehand, and any more behind them, the same is done, and the others are left.
pub record DoesAsked (go : List Answer → Did) (before after log : List Event) (end : Option End) (run : Running) : Type 0 where
  pub asked : List Event
  pub grew : after ≡ before ++ asked
  pub logged : log_of (world_of run) ≡ log ++ asked
  pub left : run.answers.now ≡ []
  pub is : (more : List Answer) → go (answers_of asked ++ more) ≡ did_with more (did_of end run)
  pub not_lacked : HasNotLacked end

-- The same of a run, with its outcome.
pub record RunsAsked (go : List Answer → Outcome) (before after log : List Event) (end : End) (run : Running) : Type 0 where
  pub asked : List Event
  pub grew : after ≡ before ++ asked
  pub logged : log_of (world_of run) ≡ log ++ asked
  pub is : (more : List Answer) → go (answers_of asked ++ more) ≡ outcome end (world_of run)
  pub not_lacked : end ≢ Lacks
