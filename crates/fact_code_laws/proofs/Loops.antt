-- Loops: a turn of a loop, and the counted loop that does an action for each of so many numbers.
use Rattle.std.proofs.Common.{◌≡◌, ℕ, zero, suc, ◌+◌, ◌*◌, ◌≤◌, List, [], ◌∷◌, ◌++◌, refl, sym, ap, ◌∙◌, subst, arith}
use Rattle.std.proofs.lemmas.Bool.{ne_eqb}
use Rattle.fact_wasm.specs.declared.instr.BlockType.TheVariants.{Empty}
use Rattle.fact_wasm.specs.declared.instr.Instr.{Instr, out-Instr}
use Rattle.fact_wasm.specs.declared.instr.Instr.TheVariants as I
use Rattle.fact_wasm.specs.declared.module.WasmModule.{WasmModule}
use Rattle.fact_machine.specs.declared.types.CoreValue.{CoreValue}
use Rattle.fact_machine.specs.declared.types.CoreValue.TheVariants.{I32}
use Rattle.fact_machine.specs.World.{World, Stop}
use Rattle.fact_machine.specs.World as stopped
use Rattle.fact_machine.specs.Numerics.{truth, ieqz}
use Rattle.fact_machine.specs.Machine.{Around, Label, At, Did, Goes, act}
use Rattle.fact_machine.specs.Trace.{Reached, reached_after, reach}
use Rattle.fact_machine.proofs.Laws.{leaves_then, leaves_early, leaves_whole}
use Rattle.fact_machine.proofs.Structure.{enters_empty, leaves_loop, leaves_loop_again}
use Rattle.fact_machine.proofs.RowLaws.{leaves_br_if_taken}
use Rattle.fact_actions.specs.Actions.{Action, Give, ◌>>=◌, each_from, each}
use Rattle.fact_actions.specs.Running.{ImportPlaces, Ended, Gave, Halted, Strayed, heavier, later, then_ended, run}
use Rattle.fact_code_laws.specs.Code.{turn_code, counted_code}
use Rattle.fact_code_laws.specs.Does.{Locals, Way, Onward, Outward, stop_exit, Strays, EndsOn, Does, PushesValue}
use Rattle.fact_actions.proofs.Binds.{binds_run}
use Rattle.fact_code_laws.proofs.Rules.{within, in_turn, pushing, br_if_zero, branch, ends_later}
use Rattle.fact_code_laws.proofs.Blocks.{Into, strays_into, out_of_block, mapped, same_run, alone}
use Rattle.fact_machine.specs.Exits.{Branches, Leaves}

-- ---- loops

loop_is : (M : WasmModule) (w : World) (vs : List CoreValue) (ls : Locals) (body : List Instr) (rest : List Instr) (k : Around)
    → act M (out-Instr (I.Loop Empty body)) w vs ls rest k ≡ Goes (At w [] ls body (Label 0 vs (I.Loop Empty body ∷ rest) rest [] k))
loop_is M w vs ls body rest k = ap (λ o. act M o w vs ls rest k) (I.outs-Loop Empty body)

pub into_loop : {M : WasmModule} {w : World} {vs : List CoreValue} {ls : Locals} {body : List Instr} → Into M (I.Loop Empty body) w vs ls [] ls body
into_loop {M} {w} {vs} {ls} {body} = record { around = λ rest k. Label 0 vs (I.Loop Empty body ∷ rest) rest [] k; is = loop_is M w vs ls body }

pub stopped_loop : {M : WasmModule} {t : ℕ} {w : World} {vs : List CoreValue} {ls : Locals} {body : List Instr} (s : Stop) (w' : World) (ls' : Locals) → Leaves M t body w [] ls (stop_exit s w' ls') → Leaves M (suc t) (I.Loop Empty body ∷ []) w vs ls (stop_exit s w' ls')
stopped_loop stopped.Trap w' ls' l = leaves_loop enters_empty tt l
stopped_loop stopped.Throw w' ls' l = leaves_loop enters_empty tt l
stopped_loop stopped.Lack w' ls' l = leaves_loop enters_empty tt l

-- a loop that goes astray in a later turn
strays_again : {M : WasmModule} {t : ℕ} {w w1 w' : World} {vs us : List CoreValue} {ls ls1 : Locals} {body : List Instr} → Leaves M t body w [] ls (Branches w1 0 us ls1) → Strays M w1 vs ls1 (I.Loop Empty body ∷ []) w' → Strays M w vs ls (I.Loop Empty body ∷ []) w'
strays_again {M} {t} {w} {w1} {w'} {vs} {us} {ls} {ls1} {body} l s = record {
  steps = suc (t + s.steps);
  by = λ rest k.
      ap (λ (d : Did). (reached_after (reach M (t + s.steps)) d).world) (loop_is M w vs ls body rest k)
      ∙ ap (λ (r : Reached). r.world) (leaves_whole l (Label 0 vs (I.Loop Empty body ∷ rest) rest [] k) s.steps)
      ∙ s.by rest k;
}

module _ {B : Type 0} {M : WasmModule} {p : ImportPlaces} {way : Way} {body : List Instr} {ls ls1 : Locals} {out : B → List CoreValue} {Holds : B → Locals → Type 0} {extra' spare' t : ℕ} {w w1 : World} {vs below us : List CoreValue} where
  ends_again : (extra spare n : ℕ) (e : Ended B) → t + spare ≤ extra + 900 * n → Leaves M t body w [] ls (Branches w1 0 us ls1)
      → EndsOn M p way extra' spare' w1 vs ls1 (I.Loop Empty body ∷ []) below out Holds e → EndsOn M p way (suc extra + extra') (spare + spare') w vs ls (I.Loop Empty body ∷ []) below out Holds (heavier n e)
  ends_again extra spare n (Gave m cs a w') le l d = record {
    by = record {
      steps = suc t + d.by.steps;
      locals = d.by.locals;
      under = d.by.under;
      holds = d.by.holds;
      typed = d.by.typed;
      bound = omega (arith, le, d.by.bound);
      leaves = leaves_loop_again enters_empty l refl d.by.leaves;
    };
  }
  ends_again extra spare n (Halted m cs s w') le l d = record { by = record { steps = suc t + d.by.steps; locals = d.by.locals; typed = d.by.typed; leaves = leaves_loop_again enters_empty l refl d.by.leaves } }
  ends_again extra spare n (Strayed m cs w') le l d = record { by = strays_again l d.by }

module _ {A B : Type 0} {M : WasmModule} {p : ImportPlaces} {way : Way} {body : List Instr} {ls : Locals} {f : A → Action B} {Mid : A → Locals → Type 0} {out : B → List CoreValue} {Holds : B → Locals → Type 0} {extra extra' spare spare' : ℕ} where
  ends_turn : {w : World} {below : List CoreValue} (e : Ended A) → EndsOn M p (Outward 0) extra spare w [] ls body [] (λ a. []) Mid e
      → ((a : A) (ls' : Locals) → Mid a ls' → Does M p way extra' spare' [] ls' (I.Loop Empty body ∷ []) (f a) out Holds)
      → EndsOn M p way (suc extra + extra') (spare + spare') w below ls (I.Loop Empty body ∷ []) below out Holds (then_ended e (λ a w'. run p (f a) w'))
  ends_turn {below = below} (Gave n cs a w') d go = ends_again extra spare n (later cs (run p (f a) w')) d.by.bound d.by.leaves (ends_later cs (run p (f a) w') (((go a d.by.locals d.by.holds).by w').by d.by.typed below))
  ends_turn (Halted m cs s w') d go = record { by = record { steps = suc d.by.steps; locals = d.by.locals; typed = d.by.typed; leaves = stopped_loop s w' d.by.locals d.by.leaves } }
  ends_turn (Strayed m cs w') d go = record { by = strays_into into_loop d.by }

  -- a turn of a loop, and then the loop again
  pub turn : {q : Action A} → Does M p (Outward 0) extra spare [] ls body q (λ a. []) Mid → ((a : A) (ls' : Locals) → Mid a ls' → Does M p way extra' spare' [] ls' (I.Loop Empty body ∷ []) (f a) out Holds)
      → Does M p way (suc extra + extra') (spare + spare') [] ls (I.Loop Empty body ∷ []) (q >>= f) out Holds
  turn {q} d go = record {
    by = λ w. record {
      by = λ ty below.
          subst (EndsOn M p way (suc extra + extra') (spare + spare') w below ls (I.Loop Empty body ∷ []) below out Holds) (sym (binds_run p q f w)) (ends_turn (run p q w) ((d.by w).by ty []) go);
    };
  }

module _ {A : Type 0} {M : WasmModule} {p : ImportPlaces} {body : List Instr} {ls : Locals} {Holds : A → Locals → Type 0} {extra spare : ℕ} {l : ℕ} where
  ends_last : {w : World} {vs : List CoreValue} (e : Ended A) → EndsOn M p (Outward (suc l)) extra spare w [] ls body [] (λ a. []) Holds e → EndsOn M p (Outward l) (suc extra) spare w vs ls (I.Loop Empty body ∷ []) vs (λ a. []) Holds e
  ends_last (Gave n cs a w') d = record {
    by = record {
      steps = suc d.by.steps;
      locals = d.by.locals;
      under = d.by.under;
      holds = d.by.holds;
      typed = d.by.typed;
      bound = omega (arith, d.by.bound);
      leaves = leaves_loop enters_empty tt d.by.leaves;
    };
  }
  ends_last (Halted m cs s w') d = record { by = record { steps = suc d.by.steps; locals = d.by.locals; typed = d.by.typed; leaves = stopped_loop s w' d.by.locals d.by.leaves } }
  ends_last (Strayed m cs w') d = record { by = strays_into into_loop d.by }

  -- the last turn of a loop, which leaves it by a branch further out
  pub last_turn : {q : Action A} → Does M p (Outward (suc l)) extra spare [] ls body q (λ a. []) Holds → Does M p (Outward l) (suc extra) spare [] ls (I.Loop Empty body ∷ []) q (λ a. []) Holds
  last_turn {q} d = record { by = λ w. record { by = λ ty below. ends_last (run p q w) ((d.by w).by ty []) } }

-- ---- counted loops

turns_left : (k : ℕ) → ieqz (suc k) ≡ 0
turns_left k = ap truth (ne_eqb (suc k) 0 (λ e. absurd (omega arith)))

module _ {B : Type 0} {M : WasmModule} {p : ImportPlaces} {test body : List Instr} {tests extra spare : ℕ} (n : ℕ) (f : ℕ → Action (List B)) (Inv : ℕ → Locals → Type 0)
    (room : tests + 3 + extra ≤ spare)
    (tested : (i k : ℕ) (ls : Locals) → i + k ≡ n → Inv i ls → PushesValue M tests ls test (I32 (ieqz k)))
    (each_turn : (i : ℕ) (ls : Locals) → suc i ≤ n → Inv i ls → Does M p Onward extra spare [] ls body (f i) (λ xs. []) (λ xs ls'. Inv (suc i) ls')) where
  leaves_at_end : (ls : Locals) → Inv n ls → Does M p (Outward 1) (tests + 1) 0 [] ls (turn_code test body) (Give []) (λ (xs : List B). []) (λ xs ls'. Inv n ls')
  leaves_at_end ls inv = record {
    by = λ w. record {
      by = λ ty below. record {
        by = record {
          steps = tests + 1;
          locals = ls;
          under = below;
          holds = inv;
          typed = ty;
          bound = omega arith;
          leaves = leaves_then ((tested n 0 ls (omega arith) inv).by w below) (leaves_early (body ++ I.Br 0 ∷ []) tt (leaves_br_if_taken 1 (λ e. absurd (omega arith))));
        };
      };
    };
  }

  goes_on : (i k : ℕ) (ls : Locals) → i + suc k ≡ n → Inv i ls → Does M p (Outward 0) (tests + extra + 2) spare [] ls (turn_code test body) (f i) (λ xs. []) (λ xs ls'. Inv (suc i) ls')
  goes_on i k ls e inv =
      let counted : Does M p (Outward 0) (extra + 1) (spare + 0) [] ls (body ++ I.Br 0 ∷ []) (f i >>= (λ a. Give a)) (λ xs. []) (λ xs ls'. Inv (suc i) ls') =
      in_turn (each_turn i ls (omega arith) inv) (λ a ls' good. branch refl good) in
      within (omega arith) (pushing (subst (λ x. PushesValue M tests ls test (I32 x)) (turns_left k) (tested i (suc k) ls e inv)) (br_if_zero (same_run (alone p (f i)) counted)))

  turns : (k i : ℕ) (ls : Locals) → i + k ≡ n → Inv i ls → Does M p (Outward 0) (tests + 2) 0 [] ls (I.Loop Empty (turn_code test body) ∷ []) (each_from i k f) (λ xs. []) (λ xs ls'. Inv n ls')
  turns zero i ls e inv =
      let here : i ≡ n = omega arith in
      within (omega arith) (last_turn (leaves_at_end ls (subst (λ j. Inv j ls) here inv)))
  turns (suc k) i ls e inv =
      within (omega (arith, room)) (turn (goes_on i k ls e inv) (λ xs ls' good. mapped (λ ys. xs ++ ys) (λ ys. refl) (λ ys l g. g) (turns k (suc i) ls' (omega arith) good)))

  -- a turn for each number below n
  pub counted : (ls : Locals) → Inv 0 ls → Does M p Onward (tests + 3) 0 [] ls (counted_code test body) (each n f) (λ xs. []) (λ xs ls'. Inv n ls')
  counted ls inv = within (omega arith) (out_of_block (turns n 0 ls (omega arith) inv))
