-- A run of a given module, computed by the rows of the instructions that it begins, one after another.
use Rattle.std.proofs.Common.{◌≡◌, ℕ, zero, suc, List, [], ◌∷◌, Option, Some, None, map, reverse, refl, ap, ◌∙◌, subst}
use Rattle.fact_wasm.specs.declared.instr.Instr.{Instr, out-Instr}
use Rattle.fact_wasm.specs.declared.instr.Instr.TheOpen.{Instr-F}
use Rattle.fact_wasm.specs.declared.module.WasmModule.{WasmModule}
use Rattle.fact_machine.specs.declared.types.Answer.{Answer}
use Rattle.fact_machine.specs.declared.types.CoreValue.{CoreValue}
use Rattle.fact_machine.specs.declared.types.End.TheVariants.{Returned, Stuck}
use Rattle.fact_machine.specs.declared.types.MachineState.{MachineState}
use Rattle.fact_machine.specs.declared.types.Outcome.{Outcome}
use Rattle.fact_machine.specs.Machine.{Did, Goes, Ends, Next, Begins, Finished, Breaks, act, after, at_rest, begin, exec, next, outcome, run_of, start}

-- an instruction with its row
pub record Row : Type 0 where
  pub instr : Instr
  pub row : Instr-F Instr
  pub is : out-Instr instr ≡ row

abbrev pub row : (i : Instr) {f : Instr-F Instr} → out-Instr i ≡ f → Row
row i {f} e = record { instr = i; row = f; is = e }

-- ---- what is begun, and where it leads by its row

abbrev begun_in : Next → Option Instr
begun_in (Begins w vs ls i rest k) = Some i
begun_in (Finished w vs) = None
begun_in (Breaks w) = None

abbrev begun_at : Did → Option Instr
begun_at (Goes c) = begun_in (next c)
begun_at (Ends e w) = None

abbrev did_by : WasmModule → Instr-F Instr → Next → Did
did_by M f (Begins w vs ls i rest k) = act M f w vs ls rest k
did_by M f (Finished w vs) = Ends (Returned (reverse vs)) w
did_by M f (Breaks w) = Ends Stuck w

abbrev step_by : WasmModule → Instr-F Instr → Did → Did
step_by M f (Goes c) = did_by M f (next c)
step_by M f (Ends e w) = Ends e w

abbrev outcome_at : Did → Outcome
outcome_at (Goes c) = at_rest (next c)
outcome_at (Ends e w) = outcome e w

-- what is begun step by step, and what comes of all steps
abbrev pub begun : WasmModule → List Row → Did → List (Option Instr)
begun M [] d = []
begun M (r ∷ rs) d = begun_at d ∷ begun M rs (step_by M r.row d)

abbrev pub replay : WasmModule → List Row → Did → Outcome
replay M [] d = outcome_at d
replay M (r ∷ rs) d = replay M rs (step_by M r.row d)

abbrev pub instrs : List Row → List (Option Instr)
instrs rs = map (λ r. Some r.instr) rs

abbrev pub count_rows : List Row → ℕ
count_rows [] = zero
count_rows (r ∷ rs) = suc (count_rows rs)

-- ---- so the machine does

did_is : (M : WasmModule) (r : Row) (x : Next) → begun_in x ≡ Some r.instr → begin M x ≡ did_by M r.row x
did_is M r (Begins w vs ls i rest k) e = let same : i ≡ r.instr = cc in ap (λ (o : Instr-F Instr). act M o w vs ls rest k) (ap out-Instr same ∙ r.is)
did_is M r (Finished w vs) e = cc
did_is M r (Breaks w) e = cc

replayed : (M : WasmModule) (rs : List Row) (d : Did) → begun M rs d ≡ instrs rs → after (exec M (count_rows rs)) d ≡ replay M rs d
replayed M [] (Goes c) h = refl
replayed M [] (Ends e w) h = refl
replayed M (r ∷ rs) (Ends e w) h = let bad : None ≡ Some r.instr = cc in cc
replayed M (r ∷ rs) (Goes c) h =
    let here : begun_in (next c) ≡ Some r.instr = cc in
    let rest : begun M rs (did_by M r.row (next c)) ≡ instrs rs = cc in
    ap (after (exec M (count_rows rs))) (did_is M r (next c) here) ∙ replayed M rs (did_by M r.row (next c)) rest

-- A run takes a step for each row, where these are what it begins.
pub run_by : (M : WasmModule) (f : ℕ) (args : List CoreValue) (state : MachineState) (answers : List Answer) (rs : List Row) (n : ℕ) → count_rows rs ≡ n
    → begun M rs (start M f args state answers) ≡ instrs rs → run_of M f args state answers n ≡ replay M rs (start M f args state answers)
run_by M f args state answers rs n e h = subst (λ n. run_of M f args state answers n ≡ replay M rs (start M f args state answers)) e (replayed M rs (start M f args state answers) h)
