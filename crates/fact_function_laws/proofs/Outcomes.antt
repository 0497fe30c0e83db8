-- Ends of actions, and the traces of runs that come to them.
use Rattle.std.proofs.Common.{◌≡◌, ◌≢◌, ℕ, List, refl, sym, ap, ◌∙◌, arith, inl, inr}
use Rattle.fact_wasm.specs.declared.module.WasmModule.{WasmModule}
use Rattle.fact_machine.specs.declared.types.Answer.{Answer}
use Rattle.fact_machine.specs.declared.types.CoreValue.{CoreValue}
use Rattle.fact_machine.specs.declared.types.End.{End}
use Rattle.fact_machine.specs.declared.types.End.TheVariants.{Returned, Trapped, Thrown, Lacks, Going, Stuck}
use Rattle.fact_machine.specs.declared.types.MachineState.{MachineState}
use Rattle.fact_machine.specs.Trace.{Grows, Reached, run_reach, trace_of}
use Rattle.fact_machine.specs.World.{World, Trap, Throw, Lack}
use Rattle.fact_actions.specs.Honest.{IsStraight}
use Rattle.fact_actions.specs.Plain.{named_outcome}
use Rattle.fact_actions.specs.Running.{Call, Ended, Gave, Halted, Strayed, calls_in, world_in}
use Rattle.fact_code_laws.specs.Runs.{RunsAs}
use Rattle.fact_action_laws.specs.Faithful.{GivesOrLacks}
use Rattle.fact_function_laws.specs.Runs.{IsOver}

-- ---- ends of actions

pub named_calls : (e : Ended (List CoreValue)) → (named_outcome e).log ≡ calls_in e
named_calls (Gave n cs vs w) = refl
named_calls (Halted n cs s w) = refl
named_calls (Strayed n cs w) = refl

pub straight_not_stuck : (e : Ended (List CoreValue)) → IsStraight e → (named_outcome e).end ≢ Stuck
straight_not_stuck (Gave n cs vs w) h q = cc
straight_not_stuck (Halted n cs Trap w) h q = cc
straight_not_stuck (Halted n cs Throw w) h q = cc
straight_not_stuck (Halted n cs Lack w) h q = cc
straight_not_stuck (Strayed n cs w) h q = absurd h

-- ---- ends that are over

pub returned_not_going : {e : End} {results : List CoreValue} → e ≡ Returned results → e ≢ Going
returned_not_going h q = let bad : Returned _ ≡ Going = sym h ∙ q in cc

pub over_not_going : (e : End) → IsOver e → e ≢ Going
over_not_going e (inl returned) going = let bad : Going ≡ Returned returned.0 = sym going ∙ returned.1 in cc
over_not_going e (inr lacks) going = let bad : Going ≡ Lacks = sym going ∙ lacks in cc

pub over_of : (e : Ended (List CoreValue)) → GivesOrLacks e → IsOver (named_outcome e).end
over_of (Gave n cs vs w) h = inl (vs, refl)
over_of (Halted n cs Lack w) h = inr refl
over_of (Halted n cs Trap w) h = absurd h
over_of (Halted n cs Throw w) h = absurd h
over_of (Strayed n cs w) h = absurd h

pub gives_or_lacks : (e : Ended (List CoreValue)) → IsStraight e → IsOver (named_outcome e).end → GivesOrLacks e
gives_or_lacks (Gave n cs vs w) s h = tt
gives_or_lacks (Halted n cs Lack w) s h = tt
gives_or_lacks (Halted n cs Trap w) s h = elim h [ inl returned ↦ (let bad : Trapped ≡ Returned returned.0 = returned.1 in cc) | inr lacks ↦ (let bad : Trapped ≡ Lacks = lacks in cc) ]
gives_or_lacks (Halted n cs Throw w) s h = elim h [ inl returned ↦ (let bad : Thrown ≡ Returned returned.0 = returned.1 in cc) | inr lacks ↦ (let bad : Thrown ≡ Lacks = lacks in cc) ]
gives_or_lacks (Strayed n cs w) s h = absurd s

-- an end that gave these results
pub record GaveResults (e : Ended (List CoreValue)) (results : List CoreValue) : Type 0 where
  pub weight : ℕ
  pub calls : List Call
  pub world : World
  pub is : e ≡ Gave weight calls results world

pub gave_results : (e : Ended (List CoreValue)) (results : List CoreValue) → IsStraight e → (named_outcome e).end ≡ Returned results → GaveResults e results
gave_results (Gave n cs vs w) results h q = let same : vs ≡ results = cc in record { weight = n; calls = cs; world = w; is = ap (λ rs. Gave n cs rs w) same }
gave_results (Halted n cs Trap w) results h q = cc
gave_results (Halted n cs Throw w) results h q = cc
gave_results (Halted n cs Lack w) results h q = cc
gave_results (Strayed n cs w) results h q = absurd h

-- ---- traces

-- a number of steps at which the trace has all that an action has done
pub record HasTraced (m : WasmModule) (f : ℕ) (args : List CoreValue) (before : MachineState) (answers : List Answer) (w : World) : Type 0 where
  pub steps : ℕ
  pub trace : trace_of m f args before answers steps ≡ w.trace

module _ (m : WasmModule) (f : ℕ) (args : List CoreValue) (before : MachineState) (answers : List Answer) where
  trace_in : {r : Reached} (n : ℕ) → run_reach m f args before answers n ≡ r → trace_of m f args before answers n ≡ r.world.trace
  trace_in n e = ap (λ (r : Reached). r.world.trace) e

  pub has_traced : (extra : ℕ) (e : Ended (List CoreValue)) → RunsAs m f args before answers extra 0 (λ (vs : List CoreValue). vs) e → HasTraced m f args before answers (world_in e)
  has_traced extra (Gave n cs vs w) r = record { steps = r.steps; trace = trace_in r.steps (r.comes.reaches r.steps (omega arith)) }
  has_traced extra (Halted n cs s w) r = record { steps = r.steps; trace = trace_in r.steps (r.comes.reaches r.steps (omega arith)) }
  has_traced extra (Strayed n cs w) r = record { steps = r.steps; trace = ap (λ (x : World). x.trace) r.reaches }

  -- where the action did not go astray, the trace is at each number of steps a front of that
  pub traces_grow : (extra : ℕ) (e : Ended (List CoreValue)) → IsStraight e → RunsAs m f args before answers extra 0 (λ (vs : List CoreValue). vs) e → (n : ℕ) → Grows (trace_of m f args before answers n) (world_in e).trace
  traces_grow extra (Gave n cs vs w) s r = r.comes.front
  traces_grow extra (Halted n cs t w) s r = r.comes.front
  traces_grow extra (Strayed n cs w) s r = absurd s
