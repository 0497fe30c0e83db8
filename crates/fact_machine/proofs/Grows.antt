-- A trace only grows.
use Rattle.std.proofs.Common.{◌≡◌, ℕ, ◌+◌, ◌≤◌, List, [], ◌++◌, Option, refl, sym, ap, ◌∙◌, arith, append_assoc, append-nil}
use Rattle.fact_wasm.specs.declared.instr.Instr.{Instr}
use Rattle.fact_wasm.specs.declared.module.WasmModule.{WasmModule}
use Rattle.fact_machine.specs.declared.types.CoreValue.{CoreValue}
use Rattle.fact_machine.specs.declared.types.MachineState.{MachineState}
use Rattle.fact_machine.specs.declared.types.Answer.{Answer}
use Rattle.fact_machine.specs.declared.types.TraceEntry.{TraceEntry}
use Rattle.fact_machine.specs.declared.types.Outcome.{Outcome}
use Rattle.fact_machine.specs.World.{World, calls, log_of}
use Rattle.fact_machine.specs.Machine.{Around, Bottom, Config, At, Did, Goes, exec, start, run_of}
use Rattle.fact_machine.specs.Trace.{Reached, reached_after, reach, world_at, trace_of, Grows}
use Rattle.fact_machine.specs.Replay.{Replays}
use Rattle.fact_machine.specs.Exits.{Exit, Leaves, leads, exit_world}
use Rattle.fact_machine.proofs.Laws.{exec_is, run_is}
use Rattle.fact_machine.specs.Exits as exit
use Rattle.fact_machine.proofs.Traces.{calls-append}
use Rattle.fact_machine.proofs.Worlds.{config_world, did_world, branch_world, throw_world, world_at_zero}
use Rattle.fact_machine.proofs.Replays.{steps_replay, more_replays, replays_to}

-- ---- lists that begin with others

-- with itself
pub grows_none : {A : Type 0} (a : List A) → Grows a a
grows_none a = record { more = []; is = sym (append-nil a) }

-- with a part put behind it
pub grows_by : {A : Type 0} (a b : List A) → Grows a (a ++ b)
grows_by a b = record { more = b; is = refl }

-- one after another
pub grows_on : {A : Type 0} {a b c : List A} → Grows a b → Grows b c → Grows a c
grows_on {a = a} p q = record { more = p.more ++ q.more; is = q.is ∙ ap (λ l. l ++ q.more) p.is ∙ append_assoc a p.more q.more }

-- the first list in another form
pub grows_from : {A : Type 0} {a a' b : List A} → a ≡ a' → Grows a' b → Grows a b
grows_from e p = record { more = p.more; is = p.is ∙ ap (λ l. l ++ p.more) (sym e) }

-- the second list in another form
pub grows_to : {A : Type 0} {a b b' : List A} → b ≡ b' → Grows a b → Grows a b'
grows_to e p = record { more = p.more; is = sym e ∙ p.is }

-- where the trace grows, the log does
pub calls_grow : {a b : List TraceEntry} → Grows a b → Grows (calls a) (calls b)
calls_grow {a} p = record { more = calls p.more; is = ap calls p.is ∙ calls-append a p.more }

-- ---- any number of steps

-- what is replayed is behind the trace before
pub replays_grow : {a b : World} → Replays a b → Grows a.trace b.trace
replays_grow p = record { more = p.more; is = p.trace }

-- the trace after some steps begins with the trace before them
pub trace_grows : (M : WasmModule) (n : ℕ) (c : Config) → Grows (config_world c).trace (world_at M n c).trace
trace_grows M n c = replays_grow (steps_replay M n c)

-- more steps only extend it
pub trace_more : (M : WasmModule) (n m : ℕ) (d : Did) → n ≤ m → Grows (reached_after (reach M n) d).world.trace (reached_after (reach M m) d).world.trace
trace_more M n m d le = replays_grow (more_replays M n m d le)

-- ---- outcomes

-- an outcome has the state of the world then
pub exec_state : (M : WasmModule) (n : ℕ) (c : Config) → (exec M n c).state ≡ (world_at M n c).state
exec_state M n c = ap (λ (o : Outcome). o.state) (exec_is M n c)

-- and its log
pub exec_log : (M : WasmModule) (n : ℕ) (c : Config) → (exec M n c).log ≡ log_of (world_at M n c)
exec_log M n c = ap (λ (o : Outcome). o.log) (exec_is M n c)

-- the log of an outcome begins with the log before
pub exec_grows : (M : WasmModule) (n : ℕ) (w : World) (vs : List CoreValue) (ls : List (Option CoreValue)) (code : List Instr) (k : Around) → Grows (log_of w) (exec M n (At w vs ls code k)).log
exec_grows M n w vs ls code k = grows_to (sym (exec_log M n (At w vs ls code k))) (calls_grow (trace_grows M n (At w vs ls code k)))

module _ (M : WasmModule) (f : ℕ) (args : List CoreValue) (state : MachineState) (answers : List Answer) where
  -- a run's log is the outside calls of its trace
  pub run_log : (n : ℕ) → (run_of M f args state answers n).log ≡ calls (trace_of M f args state answers n)
  run_log n = ap (λ (o : Outcome). o.log) (run_is M f args state answers n)

  -- more steps of a run only extend its trace
  pub run_trace_more : (n m : ℕ) → n ≤ m → Grows (trace_of M f args state answers n) (trace_of M f args state answers m)
  run_trace_more n m le = trace_more M n m (start M f args state answers) le

  -- and its log
  pub run_log_more : (n m : ℕ) → n ≤ m → Grows (run_of M f args state answers n).log (run_of M f args state answers m).log
  run_log_more n m le = grows_from (run_log n) (grows_to (sym (run_log m)) (calls_grow (run_trace_more n m le)))

-- ---- stretches of code

leads_world : (x : Exit) (rest : List Instr) (k : Around) → did_world (leads x rest k) ≡ exit_world x
leads_world (exit.Falls w vs ls) rest k = refl
leads_world (exit.Branches w l vs ls) rest k = branch_world w l vs ls k
leads_world (exit.Throws w ls) rest k = throw_world w ls k
leads_world (exit.Halts e w) rest k = refl

module _ {M : WasmModule} {m : ℕ} {code : List Instr} {w : World} {vs : List CoreValue} {ls : List (Option CoreValue)} {x : Exit} (p : Leaves M m code w vs ls x) (rest : List Instr) (k : Around) where
  -- where code is left, the world is that of its exit
  pub leaves_world : world_at M m (At w vs ls (code ++ rest) k) ≡ exit_world x
  leaves_world =
      let e : m ≡ m + 0 = omega arith in
      ap (λ n. world_at M n (At w vs ls (code ++ rest) k)) e ∙ ap (λ (r : Reached). r.world) (p.by rest k 0) ∙ world_at_zero M (leads x rest k) ∙ leads_world x rest k

  -- at each step of it the trace begins with the one before it
  pub leaves_before : (n : ℕ) → Grows w.trace (world_at M n (At w vs ls (code ++ rest) k)).trace
  leaves_before n = trace_grows M n (At w vs ls (code ++ rest) k)

  -- and the one after it begins with that
  pub leaves_after : (n : ℕ) → n ≤ m → Grows (world_at M n (At w vs ls (code ++ rest) k)).trace (exit_world x).trace
  leaves_after n le = grows_to (ap (λ (u : World). u.trace) leaves_world) (trace_more M n m (Goes (At w vs ls (code ++ rest) k)) le)

-- where code is left, its world is the first one with what came onto the trace replayed
pub leaves_replays : {M : WasmModule} {m : ℕ} {code : List Instr} {w : World} {vs : List CoreValue} {ls : List (Option CoreValue)} {x : Exit}
    → Leaves M m code w vs ls x → Replays w (exit_world x)
leaves_replays {M} {m} {code} {w} {vs} {ls} p = replays_to (sym (leaves_world p [] Bottom)) (steps_replay M m (At w vs ls (code ++ []) Bottom))

-- a stretch only extends the trace
pub leaves_grows : {M : WasmModule} {m : ℕ} {code : List Instr} {w : World} {vs : List CoreValue} {ls : List (Option CoreValue)} {x : Exit}
    → Leaves M m code w vs ls x → Grows w.trace (exit_world x).trace
leaves_grows {m = m} p = grows_on (leaves_before p [] Bottom m) (leaves_after p [] Bottom m (omega arith))
