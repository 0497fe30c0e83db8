-- The world that a step leads to, and that no step changes.
use Rattle.std.proofs.Common.{◌≡◌, zero, suc, ℕ, List, [], ◌∷◌, ◌++◌, Option, Some, None, refl, ◌∙◌, Bool, true, false, reverse}
use Rattle.fact_wasm.specs.declared.instr.Instr.{Instr}
use Rattle.fact_wasm.specs.declared.module.WasmModule.{WasmModule}
use Rattle.fact_machine.specs.declared.types.CoreValue.{CoreValue}
use Rattle.fact_machine.specs.World.{World}
use Rattle.fact_machine.specs.Machine.{Around, Bottom, Label, Frame, Config, At, Did, Goes, Ends, Next, Begins, Finished, Breaks, leaving, or_stuck, grab, have_types, branch, throw, next_in}
use Rattle.fact_machine.specs.Trace.{reached_at_rest, reached_after, reach}

-- ---- the world that a step leads to

abbrev pub config_world : Config → World
config_world (At w vs ls code k) = w

abbrev pub did_world : Did → World
did_world (Goes c) = config_world c
did_world (Ends e w) = w

cut_world : (w : World) (o : Option (List CoreValue × List CoreValue)) (below : List CoreValue) (ls : List (Option CoreValue)) (to : List Instr) (k : Around)
    → did_world (or_stuck w o (λ p. Goes (At w (p.0 ++ below) ls to k))) ≡ w
cut_world w None below ls to k = refl
cut_world w (Some p) below ls to k = refl

-- a branch changes nothing of the world
pub branch_world : (w : World) (l : ℕ) (vs : List CoreValue) (ls : List (Option CoreValue)) (k : Around) → did_world (branch w l vs ls k) ≡ w
branch_world w l vs ls Bottom = refl
branch_world w l vs ls (Frame ts f below rest k) = refl
branch_world w zero vs ls (Label a below to rest c k) = cut_world w (grab a vs) below ls to k
branch_world w (suc l) vs ls (Label a below to rest c k) = branch_world w l vs ls k

-- nor does a throw
pub throw_world : (w : World) (ls : List (Option CoreValue)) (k : Around) → did_world (throw w ls k) ≡ w
throw_world w ls Bottom = refl
throw_world w ls (Frame ts f below rest k) = throw_world w f k
throw_world w ls (Label a below to rest [] k) = throw_world w ls k
throw_world w ls (Label a below to rest (c ∷ cs) k) = branch_world w c [] ls k

-- ---- the world between steps

-- the world as the next instruction is begun, or at the end
abbrev pub next_world : Next → World
next_world (Begins w vs ls i rest k) = w
next_world (Finished w vs) = w
next_world (Breaks w) = w

leaving_keeps : (b : Bool) (w : World) (x : Next) → next_world x ≡ w → next_world (leaving b w x) ≡ w
leaving_keeps true w x h = h
leaving_keeps false w x h = refl

-- ends of bodies change nothing of the world
pub next_keeps : (w : World) (vs : List CoreValue) (ls : List (Option CoreValue)) (code : List Instr) (k : Around) → next_world (next_in w vs ls code k) ≡ w
next_keeps w vs ls (i ∷ rest) k = refl
next_keeps w vs ls [] Bottom = refl
next_keeps w vs ls [] (Label a below to rest c k) = next_keeps w (vs ++ below) ls rest k
next_keeps w vs ls [] (Frame ts f below rest k) = leaving_keeps (have_types (reverse vs) ts) w (next_in w (vs ++ below) f rest k) (next_keeps w (vs ++ below) f rest k)

rest_world : (x : Next) → (reached_at_rest x).world ≡ next_world x
rest_world (Begins w vs ls i rest k) = refl
rest_world (Finished w vs) = refl
rest_world (Breaks w) = refl

-- no step changes nothing of the world
pub world_at_zero : (M : WasmModule) (d : Did) → (reached_after (reach M 0) d).world ≡ did_world d
world_at_zero M (Goes (At w vs ls code k)) = rest_world (next_in w vs ls code k) ∙ next_keeps w vs ls code k
world_at_zero M (Ends e w) = refl
