-- A test of an instance's flags, which keeps them in a local, with a trap where they are 0.
use Rattle.std.proofs.Common.{◌≡◌, ℕ, ◌+◌, ◌^◌, ◌<◌, Bool, true, false, List, [], ◌∷◌, ◌++◌, Some, refl, sym, ap, ◌∙◌, subst, arith, slice_get, slice_set}
use Rattle.std.specs.Prelude.{nat_eq, not}
use Rattle.std.proofs.lemmas.Bool.{eqb-true, eqb-false}
use Rattle.fact_wasm.specs.declared.instr.Instr.{Instr}
use Rattle.fact_wasm.specs.declared.instr.Instr.TheVariants as I
use Rattle.fact_wasm.specs.declared.module.WasmModule.{WasmModule}
use Rattle.fact_wasm.specs.declared.types.ValType.{ValType}
use Rattle.fact_types.specs.declared.import.Import.TheVariants as import
use Rattle.fact_types.specs.declared.outside.Trap.{Trap}
use Rattle.fact_machine.specs.declared.types.CoreValue.{CoreValue}
use Rattle.fact_machine.specs.declared.types.CoreValue.TheVariants.{I32}
use Rattle.fact_machine.specs.Exits.{Falls, Branches, Leaves}
use Rattle.fact_machine.specs.World.{World}
use Rattle.fact_machine.proofs.Laws.{leaves_then, leaves_early, leaves_steps}
use Rattle.fact_wasm.specs.declared.types.ValType.TheVariants as val
use Rattle.fact_machine.proofs.RowLaws.{leaves_br_if_taken}
use Rattle.fact_machine.proofs.Structure.{enters_empty, leaves_block}
use Rattle.fact_actions.specs.Actions.{Action, trap, unless}
use Rattle.fact_actions.specs.Running.{ImportPlaces, Ended, Gave, Halted, Strayed, run}
use Rattle.fact_code_laws.specs.Code.{trap_code}
use Rattle.fact_code_laws.specs.Does.{Locals, Way, Outward, held_types, EndsOn, Does}
use Rattle.fact_code_laws.specs.Knows.{KnowsFunction, KnowsFlags}
use Rattle.fact_code_laws.proofs.Primitives.{calls_trap}
use Rattle.fact_code_laws.proofs.Rules.{IsSet}
use Rattle.fact_machine.proofs.RowLaws.{leaves_global_get, leaves_local_tee, leaves_br_if_zero}
use Rattle.std.specs.Prelude.{option_and_then}
use Rattle.fact_wasm.specs.declared.instr.Instr.TheOpen as op
use Rattle.fact_machine.specs.Typing.{Known, change}
use Rattle.fact_machine.proofs.TypingRows.{changed}
use Rattle.fact_code_laws.specs.Typed.{OnStack}
use Rattle.fact_code_laws.proofs.TypingLaws.{Takes, by_row}
use Rattle.fact_code_laws.specs.Does.{EndsOn}
use Rattle.fact_steps.specs.Code.{may_leave_code}
use Rattle.fact_code_laws.proofs.Blocks.{ends_target}
use Rattle.fact_code_laws.proofs.Rules.{ends_after, early_stop, strays_early, follows, is_set}
use Rattle.fact_code_laws.proofs.Runs.{no_heavier}
use Rattle.fact_code_laws.proofs.Worlds.{typed_flags}
use Rattle.fact_machine.specs.Machine.{i32_of}
use Rattle.fact_actions.specs.Actions.{GetFlags, trap}
use Rattle.fact_actions.specs.Running.{Ended, Gave, Halted, Strayed, run, is_state, or_strayed}

-- code that never gives anything, whatever stands behind it and below
never_gives : {A : Type 0} {M : WasmModule} {p : ImportPlaces} {way way' : Way} {extra extra' spare spare' : ℕ} {w : World} {vs : List CoreValue} {ls : Locals} {c : List Instr} {below below' : List CoreValue} {out out' : A → List CoreValue} {Holds : A → Locals → Type 0}
    (c' : List Instr) (e : Ended A) → EndsOn M p way extra spare w vs ls c below out (λ a ls'. ⊥) e → EndsOn M p way' extra' spare' w vs ls (c ++ c') below' out' Holds e
never_gives c' (Gave n cs a w') d = absurd d.by.holds
never_gives c' (Halted m cs s w') d = record { by = record { steps = d.by.steps; locals = d.by.locals; typed = d.by.typed; leaves = early_stop c' s w' d.by.locals d.by.leaves } }
never_gives c' (Strayed m cs w') d = record { by = strays_early c' d.by }

-- a value is kept and left on the stack
pub takes_local_tee : {M : WasmModule} {locals : List ValType} {labels : List (List ValType)} {ins : List ValType} {n : ℕ} {t : ValType} → slice_get locals n ≡ Some t → Takes M locals labels (I.LocalTee n) (t ∷ ins) (OnStack (t ∷ ins))
takes_local_tee {ins = ins} {n} {t} h = by_row (op.LocalTee n) (I.outs-LocalTee n) (λ outer below. ap (λ x. option_and_then (λ u. change (u ∷ []) (u ∷ []) (Known (t ∷ (ins ++ below)))) x) h ∙ changed (t ∷ []) (t ∷ []) (ins ++ below))

module _ {A : Type 0} {M : WasmModule} {p : ImportPlaces} {way : Way} {extra spare : ℕ} {ins : List CoreValue} {ls : Locals} {c : List Instr} {t : Trap} {place flags i saved : ℕ} {q : ℕ → Action A} {out : A → List CoreValue} {Holds : A → Locals → Type 0}
    (h : KnowsFlags M p i flags) (has : KnowsFunction M p (import.Trap t) place [] []) (local : slice_get (held_types ls) saved ≡ Some val.I32)
    (d : (n : ℕ) → n < 2 ^ 32 → (ls' : Locals) → IsSet saved (I32 n) ls ls' → Does M p way extra spare ins ls' c (q n) out Holds) where
  abbrev after : ℕ → Locals
  after n = slice_set ls saved (Some (I32 n))

  -- the flags are kept, and stand on the stack
  kept : {w : World} {vs : List CoreValue} (n : ℕ) → slice_get w.state.globals flags ≡ Some (I32 n) → Leaves M 2 (I.GlobalGet flags ∷ I.LocalTee saved ∷ []) w vs ls (Falls w (I32 n ∷ vs) (after n))
  kept n there = let x = follows ls saved val.I32 (I32 n) local refl in leaves_then (leaves_global_get there) (leaves_local_tee x.1 x.2)

  -- they are not 0
  passed : {w : World} {vs : List CoreValue} (n : ℕ) → slice_get w.state.globals flags ≡ Some (I32 n) → nat_eq n 0 ≡ false → Leaves M 4 (may_leave_code flags saved place) w vs ls (Falls w vs (after n))
  passed {w} n there e =
      let branches : Leaves M 1 (I.BrIf 0 ∷ trap_code place) w (I32 n ∷ []) (after n) (Branches w 0 [] (after n)) = leaves_early (trap_code place) tt (leaves_br_if_taken n (eqb-false n 0 e)) in
      leaves_steps (omega arith) (leaves_block enters_empty (leaves_then (kept n there) branches))

  -- they are 0
  stopped : (w : World) (vs below : List CoreValue) → is_state p w.state ≡ true → slice_get w.state.globals flags ≡ Some (I32 0) → EndsOn M p way (4 + extra) spare w vs ls (may_leave_code flags saved place ++ c) below out Holds (run {A = A} p (trap t) w)
  stopped w vs below ty there =
      let trapped : Does M p (Outward 0) 1 0 [] (after 0) (trap_code place) (trap t) (λ (a : A). []) (λ a ls'. ⊥) = calls_trap has in
      let e = run {A = A} p (trap {A = A} t) w in
      let front : Leaves M 3 (I.GlobalGet flags ∷ I.LocalTee saved ∷ I.BrIf 0 ∷ []) w [] ls (Falls w [] (after 0)) = leaves_then (kept 0 there) leaves_br_if_zero in
      let behind = ends_after {extra = 4} {spare = 0} 0 e (omega arith) front ((trapped.by w).by ty []) in
      never_gives c e (ends_target e (subst (EndsOn M p (Outward 0) 4 0 w [] ls (I.GlobalGet flags ∷ I.LocalTee saved ∷ I.BrIf 0 ∷ trap_code place) [] (λ (a : A). []) (λ a ls'. ⊥)) (no_heavier e) behind))

  pub guards_flags : Does M p way (4 + extra) spare ins ls (may_leave_code flags saved place ++ c) (GetFlags i (λ n. unless t (not (nat_eq n 0)) (q n))) out Holds
  guards_flags = record {
    by = λ w. record {
      by = λ ty below.
          let f = typed_flags p w flags ty h.kind in
          let k : ℕ → Action A = λ n. unless t (not (nat_eq n 0)) (q n) in
          let is : run p (GetFlags i k) w ≡ run p (k f.number) w =
          ap (λ j. or_strayed w (slice_get w.state.globals j) (λ v. or_strayed w (i32_of v) (λ n. run p (k n) w))) h.placed
          ∙ ap (λ o. or_strayed w o (λ v. or_strayed w (i32_of v) (λ n. run p (k n) w))) f.there in
          let go : (b : Bool) → nat_eq f.number 0 ≡ b → EndsOn M p way (4 + extra) spare w (ins ++ below) ls (may_leave_code flags saved place ++ c) below out Holds (run p (unless t (not b) (q f.number)) w) = λ b.
          elim b as (λ (b : Bool). nat_eq f.number 0 ≡ b → EndsOn M p way (4 + extra) spare w (ins ++ below) ls (may_leave_code flags saved place ++ c) below out Holds (run p (unless t (not b) (q f.number)) w)) [
            | false ↦ λ e.
                subst (EndsOn M p way (4 + extra) spare w (ins ++ below) ls (may_leave_code flags saved place ++ c) below out Holds) (no_heavier (run p (q f.number) w))
                (ends_after 0 (run p (q f.number) w) (omega arith) (passed f.number f.there e) (((d f.number f.below (after f.number) (is_set ls saved val.I32 (I32 f.number) local refl)).by w).by ty below))
            | true ↦ λ e. stopped w (ins ++ below) below ty (f.there ∙ ap (λ n. Some (I32 n)) (eqb-true f.number 0 e))
          ] in
          subst (EndsOn M p way (4 + extra) spare w (ins ++ below) ls (may_leave_code flags saved place ++ c) below out Holds) (sym is) (go (nat_eq f.number 0) refl);
    };
  }
