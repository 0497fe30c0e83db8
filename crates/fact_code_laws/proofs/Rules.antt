-- How pieces of code compose, and the rules of single instructions, each in front of the rest of the code.
use Rattle.std.proofs.Common.{◌≡◌, ◌≢◌, ℕ, suc, ◌+◌, ◌*◌, ◌≤◌, true, List, [], ◌∷◌, ◌++◌, Option, Some, None, refl, sym, ap, ◌∙◌, subst, arith, append_assoc, slice_get, slice_set}
use Rattle.fact_wasm.specs.declared.types.ValType.{ValType}
use Rattle.fact_wasm.specs.declared.types.ValType.TheVariants as val
use Rattle.fact_wasm.specs.declared.instr.Instr.{Instr}
use Rattle.fact_wasm.specs.declared.instr.Instr.TheVariants as I
use Rattle.fact_wasm.specs.declared.module.WasmModule.{WasmModule}
use Rattle.fact_machine.specs.declared.types.CoreValue.{CoreValue}
use Rattle.fact_machine.specs.declared.types.CoreValue.TheVariants as value
use Rattle.fact_machine.specs.declared.types.CoreValue.TheVariants.{I32}
use Rattle.fact_machine.specs.World.{World, Stop, Trap, Throw, Lack}
use Rattle.fact_machine.specs.Machine.{At, has_type, type_of, may_follow}
use Rattle.fact_machine.specs.Trace.{Reached, world_at}
use Rattle.fact_machine.proofs.Laws.{leaves_then, leaves_none, leaves_early, leaves_as}
use Rattle.fact_machine.proofs.RowLaws.{leaves_local_get, leaves_local_set, leaves_local_tee, leaves_br_if_zero, leaves_br_if_taken, leaves_br, leaves_unreachable}
use Rattle.fact_actions.specs.Actions.{Action, Give, Visit, ◌>>=◌}
use Rattle.fact_actions.specs.Actions as action
use Rattle.fact_actions.specs.Running.{ImportPlaces, Call, Ended, Gave, Halted, Strayed, heavier, later, then_ended, run}
use Rattle.fact_code_laws.specs.Does.{Locals, held_type, held_types, Way, Onward, Outward, stop_exit, Strays, EndsOn, Does, PushesValue}
use Rattle.fact_code_laws.proofs.Lists.{get_of_map, get_set_here, get_set_other, map_set}
use Rattle.fact_actions.proofs.Binds.{binds_run}
use Rattle.fact_code_laws.proofs.Runs.{no_heavier}
use Rattle.fact_machine.specs.Exits.{Falls, Branches, Leaves}

-- ---- ends behind a stretch of code

module _ {M : WasmModule} {w w1 : World} {vs vs1 : List CoreValue} {ls ls1 : Locals} {c c1 : List Instr} where
  pub strays_after : {t : ℕ} {w' : World} → Leaves M t c w vs ls (Falls w1 vs1 ls1) → Strays M w1 vs1 ls1 c1 w' → Strays M w vs ls (c ++ c1) w'
  strays_after {t} l s = record {
    steps = t + s.steps;
    by = λ rest k.
        ap (λ code. world_at M (t + s.steps) (At w vs ls code k)) (append_assoc c c1 rest)
        ∙ ap (λ (r : Reached). r.world) (l.by (c1 ++ rest) k s.steps) ∙ s.by rest k;
  }

  -- what ends so behind a stretch of code ends so from its begin
  pub ends_after : {A : Type 0} {p : ImportPlaces} {way : Way} {below : List CoreValue} {out : A → List CoreValue} {Holds : A → Locals → Type 0} {extra extra' spare spare' t : ℕ} (n : ℕ) (e : Ended A)
      → t + extra' + spare ≤ extra + spare' + 900 * n → Leaves M t c w vs ls (Falls w1 vs1 ls1)
      → EndsOn M p way extra' spare' w1 vs1 ls1 c1 below out Holds e → EndsOn M p way extra spare w vs ls (c ++ c1) below out Holds (heavier n e)
  ends_after {t = t} n (Gave m cs a w') le l g = record {
    by = record {
      steps = t + g.by.steps;
      locals = g.by.locals;
      under = g.by.under;
      holds = g.by.holds;
      typed = g.by.typed;
      bound = omega (arith, le, g.by.bound);
      leaves = leaves_then l g.by.leaves;
    };
  }
  ends_after {t = t} n (Halted m cs s w') le l g = record { by = record { steps = t + g.by.steps; locals = g.by.locals; typed = g.by.typed; leaves = leaves_then l g.by.leaves } }
  ends_after n (Strayed m cs w') le l g = record { by = strays_after l g.by }

-- calls before an end
pub ends_later : {A : Type 0} {M : WasmModule} {p : ImportPlaces} {way : Way} {extra spare : ℕ} {w : World} {vs : List CoreValue} {ls : Locals} {c : List Instr} {below : List CoreValue} {out : A → List CoreValue} {Holds : A → Locals → Type 0} (before : List Call) (e : Ended A)
    → EndsOn M p way extra spare w vs ls c below out Holds e → EndsOn M p way extra spare w vs ls c below out Holds (later before e)
ends_later before (Gave n cs a w') d = record { by = d.by }
ends_later before (Halted n cs s w') d = record { by = d.by }
ends_later before (Strayed n cs w') d = record { by = d.by }

-- code that stops does so with any code behind it
pub early_stop : {M : WasmModule} {t : ℕ} {c : List Instr} {w : World} {vs : List CoreValue} {ls : Locals} (c1 : List Instr) (s : Stop) (w' : World) (ls' : Locals)
    → Leaves M t c w vs ls (stop_exit s w' ls') → Leaves M t (c ++ c1) w vs ls (stop_exit s w' ls')
early_stop c1 Trap w' ls' l = leaves_early c1 tt l
early_stop c1 Throw w' ls' l = leaves_early c1 tt l
early_stop c1 Lack w' ls' l = leaves_early c1 tt l

pub strays_early : {M : WasmModule} {c : List Instr} {w w' : World} {vs : List CoreValue} {ls : Locals} (c1 : List Instr) → Strays M w vs ls c w' → Strays M w vs ls (c ++ c1) w'
strays_early {M} {c} {w} {vs = vs} {ls} c1 s = record {
  steps = s.steps;
  by = λ rest k. ap (λ code. world_at M s.steps (At w vs ls code k)) (append_assoc c c1 rest) ∙ s.by (c1 ++ rest) k;
}

-- ---- bounds

module _ {A : Type 0} {M : WasmModule} {p : ImportPlaces} {way : Way} {w : World} {vs : List CoreValue} {ls : Locals} {c : List Instr} {below : List CoreValue} {out : A → List CoreValue} {Holds : A → Locals → Type 0} {extra extra' spare spare' : ℕ} where
  pub ends_within : (e : Ended A) → extra + spare' ≤ extra' + spare → EndsOn M p way extra spare w vs ls c below out Holds e → EndsOn M p way extra' spare' w vs ls c below out Holds e
  ends_within (Gave n cs a w') le g = record {
    by = record {
      steps = g.by.steps;
      locals = g.by.locals;
      under = g.by.under;
      holds = g.by.holds;
      typed = g.by.typed;
      bound = omega (arith, le, g.by.bound);
      leaves = g.by.leaves;
    };
  }
  ends_within (Halted m cs s w') le g = record { by = g.by }
  ends_within (Strayed m cs w') le g = record { by = g.by }

  -- an end with more weight before it
  pub ends_heavier : (n : ℕ) (e : Ended A) → extra + spare' ≤ extra' + spare + 900 * n → EndsOn M p way extra spare w vs ls c below out Holds e → EndsOn M p way extra' spare' w vs ls c below out Holds (heavier n e)
  ends_heavier n (Gave m cs a w') le g = record {
    by = record {
      steps = g.by.steps;
      locals = g.by.locals;
      under = g.by.under;
      holds = g.by.holds;
      typed = g.by.typed;
      bound = omega (arith, le, g.by.bound);
      leaves = g.by.leaves;
    };
  }
  ends_heavier n (Halted m cs s w') le g = record { by = g.by }
  ends_heavier n (Strayed m cs w') le g = record { by = g.by }

module _ {A : Type 0} {M : WasmModule} {p : ImportPlaces} {way : Way} {ins : List CoreValue} {ls : Locals} {c : List Instr} {q : Action A} {out : A → List CoreValue} {Holds : A → Locals → Type 0} {extra extra' spare spare' : ℕ} where
  -- a wider bound
  pub within : extra + spare' ≤ extra' + spare → Does M p way extra spare ins ls c q out Holds → Does M p way extra' spare' ins ls c q out Holds
  within le d = record { by = λ w. record { by = λ ty below. ends_within (run p q w) le ((d.by w).by ty below) } }

  -- a node of a value: its weight pays for steps
  pub visit : {n : ℕ} → extra + spare' ≤ extra' + spare + 900 * n → Does M p way extra spare ins ls c q out Holds → Does M p way extra' spare' ins ls c (Visit n q) out Holds
  visit {n} le d = record { by = λ w. record { by = λ ty below. ends_heavier n (run p q w) le ((d.by w).by ty below) } }

-- ---- one action after another

module _ {A B : Type 0} {M : WasmModule} {p : ImportPlaces} {way : Way} {c c1 : List Instr} {ls : Locals} {f : A → Action B} {mid : A → List CoreValue} {Mid : A → Locals → Type 0} {out : B → List CoreValue} {Holds : B → Locals → Type 0} {extra extra' spare spare' : ℕ} where
  pub ends_then : {w : World} {vs below : List CoreValue} (e : Ended A) → EndsOn M p Onward extra spare w vs ls c below mid Mid e
      → ((a : A) (ls' : Locals) → Mid a ls' → Does M p way extra' spare' (mid a) ls' c1 (f a) out Holds)
      → EndsOn M p way (extra + extra') (spare + spare') w vs ls (c ++ c1) below out Holds (then_ended e (λ a w'. run p (f a) w'))
  ends_then {below = below} (Gave n cs a w') g d =
      ends_after n (later cs (run p (f a) w')) (omega (arith, g.by.bound)) g.by.leaves (ends_later cs (run p (f a) w') (((d a g.by.locals g.by.holds).by w').by g.by.typed below))
  ends_then (Halted m cs s w') g d = record { by = record { steps = g.by.steps; locals = g.by.locals; typed = g.by.typed; leaves = early_stop c1 s w' g.by.locals g.by.leaves } }
  ends_then (Strayed m cs w') g d = record { by = strays_early c1 g.by }

  -- code that does an action, and then code that goes on with what the action gave
  pub in_turn : {ins : List CoreValue} {q : Action A} → Does M p Onward extra spare ins ls c q mid Mid
      → ((a : A) (ls' : Locals) → Mid a ls' → Does M p way extra' spare' (mid a) ls' c1 (f a) out Holds)
      → Does M p way (extra + extra') (spare + spare') ins ls (c ++ c1) (q >>= f) out Holds
  in_turn {ins} {q} d d' = record {
    by = λ w. record {
      by = λ ty below.
          subst (EndsOn M p way (extra + extra') (spare + spare') w (ins ++ below) ls (c ++ c1) below out Holds) (sym (binds_run p q f w)) (ends_then (run p q w) ((d.by w).by ty below) d');
    };
  }

-- ---- code that changes nothing outside, in front of other code

module _ {A : Type 0} {M : WasmModule} {p : ImportPlaces} {way : Way} {extra spare : ℕ} {ins ins1 : List CoreValue} {ls ls1 : Locals} {c : List Instr} {q : Action A} {out : A → List CoreValue} {Holds : A → Locals → Type 0} where
  -- a stretch of so many steps
  pub stretch : {a : List Instr} {t : ℕ} → ((w : World) (below : List CoreValue) → Leaves M t a w (ins ++ below) ls (Falls w (ins1 ++ below) ls1)) → Does M p way extra spare ins1 ls1 c q out Holds
      → Does M p way (t + extra) spare ins ls (a ++ c) q out Holds
  stretch {a} {t} l d = record {
    by = λ w. record {
      by = λ ty below.
          subst (EndsOn M p way (t + extra) spare w (ins ++ below) ls (a ++ c) below out Holds) (no_heavier (run p q w)) (ends_after 0 (run p q w) (omega arith) (l w below) ((d.by w).by ty below));
    };
  }

  -- one instruction
  pub step : {i : Instr} → ((w : World) (below : List CoreValue) → Leaves M 1 (i ∷ []) w (ins ++ below) ls (Falls w (ins1 ++ below) ls1)) → Does M p way extra spare ins1 ls1 c q out Holds
      → Does M p way (suc extra) spare ins ls (i ∷ c) q out Holds
  step {i} l d = within (omega arith) (stretch {a = i ∷ []} l d)

module _ {A : Type 0} {M : WasmModule} {p : ImportPlaces} {way : Way} {extra spare : ℕ} {ins : List CoreValue} {ls : Locals} {c : List Instr} {q : Action A} {out : A → List CoreValue} {Holds : A → Locals → Type 0} where
  -- code that pushes a value
  pub pushing : {a : List Instr} {t : ℕ} {v : CoreValue} → PushesValue M t ls a v → Does M p way extra spare (v ∷ ins) ls c q out Holds → Does M p way (t + extra) spare ins ls (a ++ c) q out Holds
  pushing {a} {t} {v} l d = record {
    by = λ w. record {
      by = λ ty below.
          subst (EndsOn M p way (t + extra) spare w (ins ++ below) ls (a ++ c) below out Holds) (no_heavier (run p q w)) (ends_after 0 (run p q w) (omega arith) (l.by w (ins ++ below)) ((d.by w).by ty below));
    };
  }

  -- a branch that is not taken
  pub br_if_zero : {l : ℕ} → Does M p way extra spare ins ls c q out Holds → Does M p way (suc extra) spare (I32 0 ∷ ins) ls (I.BrIf l ∷ c) q out Holds
  br_if_zero {l} d = within (omega arith) (record {
    by = λ w. record {
      by = λ ty below.
          subst (EndsOn M p way (suc extra) spare w (I32 0 ∷ (ins ++ below)) ls (I.BrIf l ∷ c) below out Holds) (no_heavier (run p q w)) (ends_after 0 (run p q w) (omega arith) leaves_br_if_zero ((d.by w).by ty below));
    };
  })

-- ---- operands below

framing : {A : Type 0} {M : WasmModule} {p : ImportPlaces} {extra spare : ℕ} {w : World} {vs : List CoreValue} {ls : Locals} {c : List Instr} {out : A → List CoreValue} {Holds : A → Locals → Type 0} (more below : List CoreValue) (e : Ended A)
    → EndsOn M p Onward extra spare w vs ls c (more ++ below) out Holds e → EndsOn M p Onward extra spare w vs ls c below (λ a. out a ++ more) Holds e
framing {out = out} more below (Gave n cs a w') d = record {
  by = record {
    steps = d.by.steps;
    locals = d.by.locals;
    under = [];
    holds = d.by.holds;
    typed = d.by.typed;
    bound = d.by.bound;
    leaves = leaves_as (ap (λ vs'. Falls w' vs' d.by.locals) (sym (append_assoc (out a) more below))) d.by.leaves;
  };
}
framing more below (Halted m cs s w') d = record { by = record { steps = d.by.steps; locals = d.by.locals; typed = d.by.typed; leaves = d.by.leaves } }
framing more below (Strayed m cs w') d = record { by = d.by }

-- what code does it does above more operands
pub framed : {A : Type 0} {M : WasmModule} {p : ImportPlaces} {extra spare : ℕ} {ins : List CoreValue} {ls : Locals} {c : List Instr} {q : Action A} {out : A → List CoreValue} {Holds : A → Locals → Type 0} (more : List CoreValue)
    → Does M p Onward extra spare ins ls c q out Holds → Does M p Onward extra spare (ins ++ more) ls c q (λ a. out a ++ more) Holds
framed {M = M} {p} {extra} {spare} {ins} {ls} {c} {q} {out} {Holds} more d = record {
  by = λ w. record {
    by = λ ty below.
        subst (λ vs. EndsOn M p Onward extra spare w vs ls c below (λ a. out a ++ more) Holds (run p q w)) (sym (append_assoc ins more below)) (framing more below (run p q w) ((d.by w).by ty (more ++ below)));
  };
}

-- ---- the end of code

module _ {A : Type 0} {M : WasmModule} {p : ImportPlaces} {ins : List CoreValue} {ls : Locals} {a : A} {out : A → List CoreValue} {Holds : A → Locals → Type 0} where
  -- with no code left the action has given its value
  pub done : out a ≡ ins → Holds a ls → Does M p Onward 0 0 ins ls [] (Give a) out Holds
  done e h = record {
    by = λ w. record {
      by = λ ty below. record {
        by = record {
          steps = 0;
          locals = ls;
          under = [];
          holds = h;
          typed = ty;
          bound = omega arith;
          leaves = leaves_as (ap (λ vs. Falls w (vs ++ below) ls) (sym e)) leaves_none;
        };
      };
    };
  }

  -- a branch out of blocks around
  pub branch : {c : List Instr} {l : ℕ} → out a ≡ ins → Holds a ls → Does M p (Outward l) 1 0 ins ls (I.Br l ∷ c) (Give a) out Holds
  branch {c} {l} e h = record {
    by = λ w. record {
      by = λ ty below. record {
        by = record {
          steps = 1;
          locals = ls;
          under = below;
          holds = h;
          typed = ty;
          bound = omega arith;
          leaves = leaves_early c tt (leaves_as (ap (λ vs. Branches w l (vs ++ below) ls) (sym e)) leaves_br);
        };
      };
    };
  }

  -- one that is taken where a number is not 0
  pub branch_if : {c : List Instr} {l k : ℕ} → out a ≡ ins → Holds a ls → Does M p (Outward l) 1 0 (I32 (suc k) ∷ ins) ls (I.BrIf l ∷ c) (Give a) out Holds
  branch_if {c} {l} {k} e h = record {
    by = λ w. record {
      by = λ ty below. record {
        by = record {
          steps = 1;
          locals = ls;
          under = below;
          holds = h;
          typed = ty;
          bound = omega arith;
          leaves = leaves_early c tt (leaves_as (ap (λ vs. Branches w l (vs ++ below) ls) (sym e)) (leaves_br_if_taken (suc k) (λ z. absurd (omega arith))));
        };
      };
    };
  }

-- unreachable is a trap
pub stop : {A : Type 0} {M : WasmModule} {p : ImportPlaces} {way : Way} {extra spare : ℕ} {ins : List CoreValue} {ls : Locals} {c : List Instr} {out : A → List CoreValue} {Holds : A → Locals → Type 0}
    → Does M p way extra spare ins ls (I.Unreachable ∷ c) action.Unreachable out Holds
stop {ls = ls} {c} = record { by = λ w. record { by = λ ty below. record { by = record { steps = 1; locals = ls; typed = ty; leaves = leaves_early c tt leaves_unreachable } } } }

-- ---- locals

-- a local of a type has something that a value of that type may follow
pub follows : (ls : Locals) (i : ℕ) (t : ValType) (v : CoreValue) → slice_get (held_types ls) i ≡ Some t → has_type v t ≡ true
    → (old : Option CoreValue) × (slice_get ls i ≡ Some old) × (may_follow old v ≡ true) × (held_type (Some v) ≡ held_type old)
follows ls i t v h e =
    let x = get_of_map held_type ls i t h in
    (x.0, x.1, may x.0 (subst (λ u. has_type v u ≡ true) (sym x.2) e), same v t e ∙ sym x.2)
  where
    may : (old : Option CoreValue) → has_type v (held_type old) ≡ true → may_follow old v ≡ true
    may None h = h
    may (Some u) h = h

    same : (v : CoreValue) (t : ValType) → has_type v t ≡ true → type_of v ≡ t
    same (value.I32 n) val.I32 h = refl
    same (value.I64 n) val.I64 h = refl
    same (value.F32 n) val.F32 h = refl
    same (value.F64 n) val.F64 h = refl
    same (value.Func f) val.FuncRef h = refl
    same (value.I32 n) _ h = cc
    same (value.I64 n) _ h = cc
    same (value.F32 n) _ h = cc
    same (value.F64 n) _ h = cc
    same (value.Func f) _ h = cc

-- a local was set: it holds the value, the others hold what they held, and all have their types
pub record IsSet (i : ℕ) (v : CoreValue) (ls ls' : Locals) : Type 0 where
  pub here : slice_get ls' i ≡ Some (Some v)
  pub others : (j : ℕ) → j ≢ i → slice_get ls' j ≡ slice_get ls j
  pub types : held_types ls' ≡ held_types ls

pub is_set : (ls : Locals) (i : ℕ) (t : ValType) (v : CoreValue) → slice_get (held_types ls) i ≡ Some t → has_type v t ≡ true → IsSet i v ls (slice_set ls i (Some v))
is_set ls i t v h e =
    let x = follows ls i t v h e in
    record { here = get_set_here ls i (Some v) x.0 x.1; others = λ j ne. get_set_other ls i j (Some v) ne; types = map_set held_type ls i (Some v) x.0 x.1 x.3 }

module _ {A : Type 0} {M : WasmModule} {p : ImportPlaces} {way : Way} {extra spare : ℕ} {ins : List CoreValue} {ls : Locals} {c : List Instr} {q : Action A} {out : A → List CoreValue} {Holds : A → Locals → Type 0} where
  pub local_get : {i : ℕ} {v : CoreValue} → slice_get ls i ≡ Some (Some v) → Does M p way extra spare (v ∷ ins) ls c q out Holds → Does M p way (suc extra) spare ins ls (I.LocalGet i ∷ c) q out Holds
  local_get h d = step (λ w below. leaves_local_get h) d

  pub local_set : {i : ℕ} {v : CoreValue} (t : ValType) → slice_get (held_types ls) i ≡ Some t → has_type v t ≡ true → ((ls' : Locals) → IsSet i v ls ls' → Does M p way extra spare ins ls' c q out Holds)
      → Does M p way (suc extra) spare (v ∷ ins) ls (I.LocalSet i ∷ c) q out Holds
  local_set {i} {v} t h e d = let x = follows ls i t v h e in step (λ w below. leaves_local_set x.1 x.2) (d (slice_set ls i (Some v)) (is_set ls i t v h e))

  -- the value stays on the stack too
  pub local_tee : {i : ℕ} {v : CoreValue} (t : ValType) → slice_get (held_types ls) i ≡ Some t → has_type v t ≡ true → ((ls' : Locals) → IsSet i v ls ls' → Does M p way extra spare (v ∷ ins) ls' c q out Holds)
      → Does M p way (suc extra) spare (v ∷ ins) ls (I.LocalTee i ∷ c) q out Holds
  local_tee {i} {v} t h e d = let x = follows ls i t v h e in step (λ w below. leaves_local_tee x.1 x.2) (d (slice_set ls i (Some v)) (is_set ls i t v h e))
