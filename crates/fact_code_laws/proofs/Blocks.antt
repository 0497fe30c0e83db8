-- Pieces of code in blocks, checks, and the cases of a number.
use Rattle.std.proofs.Common.{◌≡◌, ℕ, zero, suc, ◌+◌, Bool, true, false, List, [], ◌∷◌, ◌++◌, Some, refl, sym, ap, ◌∙◌, subst, arith, append-nil, length, slice_get}
use Rattle.fact_wasm.specs.declared.instr.BlockType.TheVariants.{Empty}
use Rattle.fact_wasm.specs.declared.instr.Instr.{Instr, out-Instr}
use Rattle.fact_wasm.specs.declared.instr.Instr.TheVariants as I
use Rattle.fact_wasm.specs.declared.module.WasmModule.{WasmModule}
use Rattle.fact_types.specs.declared.outside.Trap.{Trap}
use Rattle.fact_machine.specs.declared.types.CoreValue.{CoreValue}
use Rattle.fact_machine.specs.declared.types.CoreValue.TheVariants.{I32}
use Rattle.fact_machine.specs.World.{World, Stop}
use Rattle.fact_machine.specs.World as stopped
use Rattle.fact_machine.specs.Numerics.{truth}
use Rattle.fact_machine.specs.Machine.{Around, Label, At, Did, Goes, act, label_at}
use Rattle.fact_machine.specs.Trace.{reached_after, reach, world_at}
use Rattle.fact_machine.proofs.Laws.{leaves_then, leaves_early, leaves_as, leaves_steps}
use Rattle.fact_machine.proofs.Structure.{enters_empty, leaves_block}
use Rattle.fact_machine.proofs.RowLaws.{leaves_br_if_taken, leaves_br_table}
use Rattle.fact_types.specs.declared.import.Import.TheVariants as import
use Rattle.fact_actions.specs.Actions.{Action, Give, ◌>>=◌, trap, unless}
use Rattle.fact_actions.specs.Running.{ImportPlaces, Ended, Gave, Halted, Strayed, then_ended, run}
use Rattle.fact_code_laws.specs.Code.{trap_code, guard_code, arms, cases_code}
use Rattle.fact_code_laws.specs.Does.{Locals, Way, Onward, Outward, exit, stop_exit, Strays, EndsOn, Does, PushesValue}
use Rattle.fact_code_laws.specs.Knows.{KnowsFunction}
use Rattle.fact_actions.proofs.Binds.{binds_run}
use Rattle.fact_code_laws.proofs.Runs.{then_given}
use Rattle.fact_code_laws.proofs.Rules.{within, in_turn, framed, stretch, pushing, br_if_zero, branch, early_stop, strays_early}
use Rattle.fact_code_laws.proofs.Primitives.{calls_trap}
use Rattle.fact_machine.specs.Exits.{Falls, Branches, Leaves, block_exit, nest}

-- ---- actions that come to one

given : {A B : Type 0} {M : WasmModule} {p : ImportPlaces} {way : Way} {extra spare : ℕ} {ls : Locals} {c : List Instr} {w : World} {vs below : List CoreValue} (g : A → B) {out : A → List CoreValue} {out' : B → List CoreValue} {Holds : A → Locals → Type 0} {Holds' : B → Locals → Type 0} (e : Ended A)
    → ((a : A) → out' (g a) ≡ out a) → ((a : A) (ls' : Locals) → Holds a ls' → Holds' (g a) ls')
    → EndsOn M p way extra spare w vs ls c below out Holds e → EndsOn M p way extra spare w vs ls c below out' Holds' (then_ended e (λ a w'. Gave 0 [] (g a) w'))
given {M = M} {way = way} {ls = ls} {c} {w} {vs} {below} g (Gave n cs a w') o h d = record {
  by = record {
    steps = d.by.steps;
    locals = d.by.locals;
    under = d.by.under;
    holds = h a d.by.locals d.by.holds;
    typed = d.by.typed;
    bound = omega (arith, d.by.bound);
    leaves = subst (λ vs'. Leaves M d.by.steps c w vs ls (exit way w' vs' below d.by.under d.by.locals)) (sym (o a)) d.by.leaves;
  };
}
given g (Halted m cs s w') o h d = record { by = d.by }
given g (Strayed m cs w') o h d = record { by = d.by }

module _ {A : Type 0} {M : WasmModule} {p : ImportPlaces} {way : Way} {extra spare : ℕ} {ins : List CoreValue} {ls : Locals} {c : List Instr} where
  -- an action that comes to what another comes to
  pub same_run : {q r : Action A} {out : A → List CoreValue} {Holds : A → Locals → Type 0} → ((w : World) → run p q w ≡ run p r w) → Does M p way extra spare ins ls c q out Holds → Does M p way extra spare ins ls c r out Holds
  same_run {out = out} {Holds} e d = record { by = λ w. record { by = λ ty below. subst (EndsOn M p way extra spare w (ins ++ below) ls c below out Holds) (e w) ((d.by w).by ty below) } }

  -- something is made of what an action gave
  pub mapped : {B : Type 0} {q : Action A} (g : A → B) {out : A → List CoreValue} {out' : B → List CoreValue} {Holds : A → Locals → Type 0} {Holds' : B → Locals → Type 0}
      → ((a : A) → out' (g a) ≡ out a) → ((a : A) (ls' : Locals) → Holds a ls' → Holds' (g a) ls')
      → Does M p way extra spare ins ls c q out Holds → Does M p way extra spare ins ls c (q >>= (λ a. Give (g a))) out' Holds'
  mapped {q = q} g {out' = out'} {Holds' = Holds'} o h d = record {
    by = λ w. record {
      by = λ ty below.
          subst (EndsOn M p way extra spare w (ins ++ below) ls c below out' Holds') (sym (binds_run p q (λ a. Give (g a)) w)) (given g (run p q w) o h ((d.by w).by ty below));
    };
  }

  -- other words for the same operands and less said of the locals
  pub weaker : {q : Action A} {out out' : A → List CoreValue} {Holds Holds' : A → Locals → Type 0}
      → ((a : A) → out' a ≡ out a) → ((a : A) (ls' : Locals) → Holds a ls' → Holds' a ls')
      → Does M p way extra spare ins ls c q out Holds → Does M p way extra spare ins ls c q out' Holds'
  weaker {q} {out} {out'} {Holds} {Holds'} o h d = record { by = λ w. record { by = λ ty below. less (run p q w) ((d.by w).by ty below) } }
    where
      less : {w : World} {vs below : List CoreValue} (e : Ended A) → EndsOn M p way extra spare w vs ls c below out Holds e → EndsOn M p way extra spare w vs ls c below out' Holds' e
      less {w} {vs} {below} (Gave n cs a w') d = record {
        by = record {
          steps = d.by.steps;
          locals = d.by.locals;
          under = d.by.under;
          holds = h a d.by.locals d.by.holds;
          typed = d.by.typed;
          bound = d.by.bound;
          leaves = subst (λ vs'. Leaves M d.by.steps c w vs ls (exit way w' vs' below d.by.under d.by.locals)) (sym (o a)) d.by.leaves;
        };
      }
      less (Halted m cs s w') d = record { by = d.by }
      less (Strayed m cs w') d = record { by = d.by }

-- the action alone, where nothing is done with what it gave
pub alone : {A : Type 0} (p : ImportPlaces) (q : Action A) (w : World) → run p (q >>= (λ a. Give a)) w ≡ run p q w
alone p q w = binds_run p q (λ a. Give a) w ∙ then_given (run p q w)

pub never_ends : {A : Type 0} {M : WasmModule} {p : ImportPlaces} {way way' : Way} {extra extra' spare spare' : ℕ} {w : World} {vs : List CoreValue} {ls : Locals} {c : List Instr} {below : List CoreValue} {out out' : A → List CoreValue} {Holds : A → Locals → Type 0}
    (c' : List Instr) (e : Ended A) → EndsOn M p way extra spare w vs ls c below out (λ a ls'. ⊥) e → EndsOn M p way' extra' spare' w vs ls (c ++ c') below out' Holds e
never_ends c' (Gave n cs a w') d = absurd d.by.holds
never_ends c' (Halted m cs s w') d = record { by = record { steps = d.by.steps; locals = d.by.locals; typed = d.by.typed; leaves = early_stop c' s w' d.by.locals d.by.leaves } }
never_ends c' (Strayed m cs w') d = record { by = strays_early c' d.by }

-- code that never gives anything does its action whatever its bound, and whatever stands behind it
pub never : {A : Type 0} {M : WasmModule} {p : ImportPlaces} {way way' : Way} {extra extra' spare spare' : ℕ} {ins : List CoreValue} {ls : Locals} {c : List Instr} {q : Action A} {out out' : A → List CoreValue} {Holds : A → Locals → Type 0}
    (c' : List Instr) → Does M p way extra spare ins ls c q out (λ a ls'. ⊥) → Does M p way' extra' spare' ins ls (c ++ c') q out' Holds
never {p = p} {q = q} c' d = record { by = λ w. record { by = λ ty below. never_ends c' (run p q w) ((d.by w).by ty below) } }

-- ---- into a body

-- the instruction goes on with the code of a body, whatever stands behind and around it
pub record Into (M : WasmModule) (i : Instr) (w : World) (vs : List CoreValue) (ls : Locals) (top : List CoreValue) (inner : Locals) (body : List Instr) : Type 0 where
  pub around : List Instr → Around → Around
  pub is : (rest : List Instr) (k : Around) → act M (out-Instr i) w vs ls rest k ≡ Goes (At w top inner body (around rest k))

pub strays_into : {M : WasmModule} {i : Instr} {w w' : World} {vs top : List CoreValue} {ls inner : Locals} {body : List Instr} → Into M i w vs ls top inner body → Strays M w top inner body w' → Strays M w vs ls (i ∷ []) w'
strays_into {M} {i} {w} {w'} {vs} {top} {ls} {inner} {body} h s = record {
  steps = suc s.steps;
  by = λ rest k.
      ap (λ (d : Did). (reached_after (reach M s.steps) d).world) (h.is rest k)
      ∙ ap (λ code. world_at M s.steps (At w top inner code (h.around rest k))) (sym (append-nil body)) ∙ s.by [] (h.around rest k);
}

-- ---- blocks

-- a stop passes a block
pub block_stop : (s : Stop) (w : World) (ls : Locals) (below : List CoreValue) → block_exit 0 below (stop_exit s w ls) ≡ stop_exit s w ls
block_stop stopped.Trap w ls below = refl
block_stop stopped.Throw w ls below = refl
block_stop stopped.Lack w ls below = refl

pub into_block : {M : WasmModule} {w : World} {vs : List CoreValue} {ls : Locals} {body : List Instr} → Into M (I.Block Empty body) w vs ls [] ls body
into_block {M} {w} {vs} {ls} {body} = record { around = λ rest k. Label 0 vs rest rest [] k; is = λ rest k. ap (λ o. act M o w vs ls rest k) (I.outs-Block Empty body) }

module _ {A : Type 0} {M : WasmModule} {p : ImportPlaces} {ls : Locals} {body : List Instr} {Holds : A → Locals → Type 0} {extra spare : ℕ} where
  -- a block that its body leaves by a branch to its label
  pub ends_target : {w : World} {vs : List CoreValue} (e : Ended A) → EndsOn M p (Outward 0) extra spare w [] ls body [] (λ a. []) Holds e → EndsOn M p Onward (suc extra) spare w vs ls (I.Block Empty body ∷ []) vs (λ a. []) Holds e
  ends_target (Gave n cs a w') d = record {
    by = record {
      steps = suc d.by.steps;
      locals = d.by.locals;
      under = [];
      holds = d.by.holds;
      typed = d.by.typed;
      bound = omega (arith, d.by.bound);
      leaves = leaves_block enters_empty d.by.leaves;
    };
  }
  ends_target {w} {vs} (Halted m cs s w') d = record { by = record { steps = suc d.by.steps; locals = d.by.locals; typed = d.by.typed; leaves = leaves_as (block_stop s w' d.by.locals vs) (leaves_block enters_empty d.by.leaves) } }
  ends_target (Strayed m cs w') d = record { by = strays_into into_block d.by }

  -- a block that its body leaves by a branch further out; code behind it is not run
  pub ends_outward : {w : World} {vs : List CoreValue} {l : ℕ} (c : List Instr) (e : Ended A) → EndsOn M p (Outward (suc l)) extra spare w [] ls body [] (λ a. []) Holds e → EndsOn M p (Outward l) (suc extra) spare w vs ls (I.Block Empty body ∷ c) vs (λ a. []) Holds e
  ends_outward c (Gave n cs a w') d = record {
    by = record {
      steps = suc d.by.steps;
      locals = d.by.locals;
      under = d.by.under;
      holds = d.by.holds;
      typed = d.by.typed;
      bound = omega (arith, d.by.bound);
      leaves = leaves_early c tt (leaves_block enters_empty d.by.leaves);
    };
  }
  ends_outward {w} {vs} c (Halted m cs s w') d = record { by = record { steps = suc d.by.steps; locals = d.by.locals; typed = d.by.typed; leaves = early_stop c s w' d.by.locals (leaves_as (block_stop s w' d.by.locals vs) (leaves_block enters_empty d.by.leaves)) } }
  ends_outward c (Strayed m cs w') d = record { by = strays_early c (strays_into into_block d.by) }

  module _ {q : Action A} where
    pub out_of_block : Does M p (Outward 0) extra spare [] ls body q (λ a. []) Holds → Does M p Onward (suc extra) spare [] ls (I.Block Empty body ∷ []) q (λ a. []) Holds
    out_of_block d = record { by = λ w. record { by = λ ty below. ends_target (run p q w) ((d.by w).by ty []) } }

    pub past_block : {l : ℕ} (c : List Instr) → Does M p (Outward (suc l)) extra spare [] ls body q (λ a. []) Holds → Does M p (Outward l) (suc extra) spare [] ls (I.Block Empty body ∷ c) q (λ a. []) Holds
    past_block c d = record { by = λ w. record { by = λ ty below. ends_outward c (run p q w) ((d.by w).by ty []) } }

-- ---- checks

passes : {M : WasmModule} {ls : Locals} {condition : List Instr} {steps : ℕ} (place : ℕ) (w : World) (vs : List CoreValue) → PushesValue M steps ls condition (I32 1)
    → Leaves M (suc (suc steps)) (guard_code condition place) w vs ls (Falls w vs ls)
passes {M} {ls} {condition} {steps} place w vs d =
    let taken : Leaves M 1 (I.BrIf 0 ∷ trap_code place) w (I32 1 ∷ []) ls (Branches w 0 [] ls) = leaves_early (trap_code place) tt (leaves_br_if_taken 1 (λ e. absurd (omega arith))) in
    leaves_steps (omega arith) (leaves_block enters_empty (leaves_then (d.by w []) taken))

module _ {A : Type 0} {M : WasmModule} {p : ImportPlaces} {extra spare : ℕ} {ins : List CoreValue} {ls : Locals} {condition : List Instr} {steps : ℕ} {t : Trap} {place : ℕ} {out : A → List CoreValue} {Holds : A → Locals → Type 0} {way : Way} where
  fails : (c : List Instr) → KnowsFunction M p (import.Trap t) place [] [] → PushesValue M steps ls condition (I32 0) → Does M p way extra spare ins ls (guard_code condition place ++ c) (trap t) out Holds
  fails c h d =
      let trapped : Does M p (Outward 0) 1 0 [] ls (trap_code place) (trap t) (λ (a : A). []) (λ a ls'. ⊥) = calls_trap h in
      never c (framed ins (out_of_block (pushing d (br_if_zero trapped))))

  -- A check in front of other code: where the test holds the condition is 1, and else 0.
  pub guard : {q : Action A} {c : List Instr} (b : Bool) → KnowsFunction M p (import.Trap t) place [] [] → PushesValue M steps ls condition (I32 (truth b))
      → (b ≡ true → Does M p way extra spare ins ls c q out Holds) → Does M p way (suc (suc steps) + extra) spare ins ls (guard_code condition place ++ c) (unless t b q) out Holds
  guard true h d go = stretch (λ w below. passes place w (ins ++ below) d) (go refl)
  guard {c = c} false h d go = within (omega arith) (fails c h d)

-- ---- cases

length_arms : (cs : List (List Instr)) → length (arms cs) ≡ length cs
length_arms [] = refl
length_arms (c ∷ cs) = ap suc (length_arms cs)

module _ {A : Type 0} {M : WasmModule} {p : ImportPlaces} {ls : Locals} {Holds : A → Locals → Type 0} {q : Action A} where
  -- code that goes far out leaves a nest of blocks
  past_nest : (blocks : List (List Instr)) {code : List Instr} {extra spare : ℕ} {l : ℕ} → Does M p (Outward (length blocks + l)) extra spare [] ls code q (λ a. []) Holds
      → Does M p (Outward l) (length blocks + extra) spare [] ls (nest blocks code) q (λ a. []) Holds
  past_nest [] {code} {extra} {spare} {l} d =
      let e : 0 + l ≡ l = omega arith in
      within (omega arith) (subst (λ n. Does M p (Outward n) extra spare [] ls code q (λ a. []) Holds) e d)
  past_nest (b ∷ bs) {code} {extra} {spare} {l} d =
      let e : suc (length bs) + l ≡ suc (length bs + l) = omega arith in
      within (omega arith) (past_nest bs (past_block b (subst (λ n. Does M p (Outward n) extra spare [] ls code q (λ a. []) Holds) e d)))

  -- the arm of a number
  in_arms : {code : List Instr} {extra spare extra' : ℕ} (cs : List (List Instr)) (j : ℕ) (inner : List Instr) → slice_get cs j ≡ Some code → Does M p Onward extra spare [] ls code q (λ a. []) Holds
      → Does M p (Outward j) extra' 0 [] ls inner (Give (tt {0})) (λ u. []) (λ u ls'. ls' ≡ ls) → Does M p (Outward 0) (extra + extra' + length cs + 1) spare [] ls (nest (arms cs) inner) q (λ a. []) Holds
  in_arms [] j inner h d i = cc
  in_arms {code} {extra} {spare} {extra'} (c ∷ cs) zero inner h d i =
      let same : code ≡ c = cc in
      let out : length (arms cs) + 0 ≡ length cs = omega (arith, length_arms cs) in
      let branched : Does M p (Outward (length cs)) (extra + 1) (spare + 0) [] ls (c ++ I.Br (length cs) ∷ []) (q >>= (λ a. Give a)) (λ a. []) Holds =
      in_turn (subst (λ c. Does M p Onward extra spare [] ls c q (λ a. []) Holds) same d) (λ a ls' good. branch refl good) in
      let arm : Does M p (Outward (length cs)) (suc extra' + (extra + 1)) (0 + (spare + 0)) [] ls ((I.Block Empty inner ∷ []) ++ (c ++ I.Br (length cs) ∷ [])) (Give (tt {0}) >>= (λ u. q)) (λ a. []) Holds =
      in_turn (out_of_block i) (λ u ls' e. subst (λ l. Does M p (Outward (length cs)) (extra + 1) (spare + 0) [] l (c ++ I.Br (length cs) ∷ []) q (λ a. []) Holds) (sym e) (same_run (alone p q) branched)) in
      within (omega (arith, length_arms cs)) (past_nest (arms cs) (subst (λ n. Does M p (Outward n) (suc extra' + (extra + 1)) (0 + (spare + 0)) [] ls (I.Block Empty inner ∷ (c ++ I.Br (length cs) ∷ [])) q (λ a. []) Holds) (sym out) arm))
  in_arms {code} {extra} {spare} {extra'} (c ∷ cs) (suc j) inner h d i =
      within (omega arith) (in_arms cs j (I.Block Empty inner ∷ (c ++ I.Br (length cs) ∷ [])) h d (past_block (c ++ I.Br (length cs) ∷ []) i))

  -- the case of a number: the code of all cases does what the code of its case does
  pub cases : {code number : List Instr} {extra spare steps : ℕ} (labels : List ℕ) (last x : ℕ) (cs : List (List Instr)) → PushesValue M steps ls number (I32 x) → slice_get cs (label_at labels last x) ≡ Some code
      → Does M p Onward extra spare [] ls code q (λ a. []) Holds → Does M p Onward (extra + steps + length cs + 3) spare [] ls (cases_code number labels last cs) q (λ a. []) Holds
  cases {number = number} {steps = steps} labels last x cs n h d =
      let j = label_at labels last x in
      let table : Does M p (Outward j) (steps + 1) 0 [] ls (number ++ I.BrTable labels last ∷ []) (Give (tt {0})) (λ u. []) (λ u ls'. ls' ≡ ls) = record {
        by = λ w. record {
          by = λ ty below. record {
            by = record {
              steps = steps + 1;
              locals = ls;
              under = below;
              holds = refl;
              typed = ty;
              bound = omega arith;
              leaves = leaves_then (n.by w below) leaves_br_table;
            };
          };
        };
      } in
      within (omega arith) (out_of_block (in_arms cs j (number ++ I.BrTable labels last ∷ []) h d table))
