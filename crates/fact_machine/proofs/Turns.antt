-- Loops that begin again a number of times.
use Rattle.std.proofs.Common.{◌≡◌, ℕ, zero, suc, ◌+◌, ◌*◌, ◌≤◌, ◌<◌, List, [], ◌∷◌, ◌++◌, Option, Some, sym, ap, ◌∙◌, arith, append-nil, length}
use Rattle.fact_wasm.specs.declared.instr.BlockType.{BlockType}
use Rattle.fact_wasm.specs.declared.instr.Instr.{Instr}
use Rattle.fact_wasm.specs.declared.instr.Instr.TheVariants as I
use Rattle.fact_wasm.specs.declared.module.WasmModule.{WasmModule}
use Rattle.fact_machine.specs.declared.types.CoreValue.{CoreValue}
use Rattle.fact_machine.specs.World.{World}
use Rattle.fact_machine.specs.Machine.{grab, block_arity}
use Rattle.fact_machine.specs.Exits.{Exit, Branches, Leaves, Enters, IsOut, block_exit}
use Rattle.fact_machine.proofs.Laws.{leaves_steps}
use Rattle.fact_machine.proofs.Structure.{grab_all, leaves_loop, leaves_loop_again}

-- the steps of n turns, where each body takes so many, and beginning the loop takes one each time
abbrev pub turns : (ℕ → ℕ) → ℕ → ℕ
turns t zero = 0
turns t (suc n) = suc (t 0) + turns (λ i. t (suc i)) n

-- a bound of each turn bounds them all
pub turns_bound : (t : ℕ → ℕ) (n b : ℕ) → ((i : ℕ) → i < n → t i ≤ b) → turns t n ≤ n * suc b
turns_bound t zero b h = omega arith
turns_bound t (suc n) b h =
    let first : t 0 ≤ b = h 0 (omega arith) in
    let rest : turns (λ i. t (suc i)) n ≤ n * suc b = turns_bound (λ i. t (suc i)) n b (λ i lt. h (suc i) (omega arith)) in
    let more : suc n * suc b ≡ suc b + n * suc b = omega arith in
    omega arith

-- where each turn takes as many, this is their number
pub turns_same : (n b : ℕ) → turns (λ i. b) n ≡ n * suc b
turns_same zero b = omega arith
turns_same (suc n) b = let rest : turns (λ i. b) n ≡ n * suc b = turns_same n b in omega arith

-- all values are a cut of as many
grab_whole : (us : List CoreValue) (m : ℕ) → length us ≡ m → grab m us ≡ Some (us, [])
grab_whole us m e = ap (λ n. grab n us) (sym e) ∙ ap (grab (length us)) (sym (append-nil us)) ∙ grab_all us []

module _ {M : WasmModule} {bt : BlockType} {m r : ℕ} (below : List CoreValue) (arity : block_arity M.types bt ≡ Some (m, r)) where
  enters : (us : List CoreValue) → length us ≡ m → Enters M bt (us ++ below) m r us below
  enters us e = record { arity = arity; cut = ap (λ n. grab n (us ++ below)) (sym e) ∙ grab_all us below }

  -- A loop whose body branches back n times, each time to the next world, parameters and locals, and then is left otherwise
  pub leaves_turns : {body : List Instr} (n : ℕ) (w : ℕ → World) (us : ℕ → List CoreValue) (ls : ℕ → List (Option CoreValue)) (t : ℕ → ℕ) {u : ℕ} {x : Exit}
      → ((i : ℕ) → length (us i) ≡ m)
      → ((i : ℕ) → i < n → Leaves M (t i) body (w i) (us i) (ls i) (Branches (w (suc i)) 0 (us (suc i)) (ls (suc i))))
      → IsOut x → Leaves M u body (w n) (us n) (ls n) x
      → Leaves M (turns t n + suc u) (I.Loop bt body ∷ []) (w 0) (us 0 ++ below) (ls 0) (block_exit r below x)
  leaves_turns zero w us ls t sized turn out last = leaves_steps (omega arith) (leaves_loop (enters (us 0) (sized 0)) out last)
  leaves_turns (suc n) w us ls t {u} sized turn out last =
      leaves_steps (omega arith) (leaves_loop_again (enters (us 0) (sized 0)) (turn 0 (omega arith)) (grab_whole (us 1) m (sized 1))
      (leaves_turns n (λ i. w (suc i)) (λ i. us (suc i)) (λ i. ls (suc i)) (λ i. t (suc i)) (λ i. sized (suc i)) (λ i lt. turn (suc i) (omega arith)) out last))
