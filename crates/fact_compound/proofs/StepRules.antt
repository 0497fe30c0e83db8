-- The rules of the steps of adapters, each in front of the rest of the code.
use Rattle.std.proofs.Common.{◌≡◌, ℕ, suc, ◌+◌, ◌*◌, ◌%◌, ◌^◌, ◌<◌, Bool, true, false, List, [], ◌∷◌, ◌++◌, Option, Some, None, refl, sym, ap, ◌∙◌, subst, arith, append_assoc, length, reverse, slice_get}
use Rattle.std.specs.Prelude.{nat_eq, nat_le}
use Rattle.std.proofs.lemmas.Bool.{eqb-false}
use Rattle.std.proofs.lemmas.List.{reverse-append}
use Rattle.fact_wasm.specs.declared.instr.Instr.{Instr}
use Rattle.fact_wasm.specs.declared.instr.Instr.TheVariants as I
use Rattle.fact_wasm.specs.declared.module.WasmModule.{WasmModule}
use Rattle.fact_wasm.specs.declared.types.ValType.{ValType}
use Rattle.fact_types.specs.declared.outside.MemoryOption.{MemoryOption}
use Rattle.fact_types.specs.declared.outside.Trap.{Trap}
use Rattle.fact_types.specs.declared.outside.Trap.TheVariants.{UnalignedPointer}
use Rattle.fact_machine.specs.declared.types.CoreValue.{CoreValue}
use Rattle.fact_machine.specs.declared.types.CoreValue.TheVariants.{I32}
use Rattle.fact_machine.specs.Typed.{is_value}
use Rattle.fact_machine.specs.World.{World}
use Rattle.fact_machine.proofs.RowLaws.{leaves_i32_const}
use Rattle.fact_actions.specs.Actions.{Action, Visit, MemoryLength, ◌>>=◌, unless}
use Rattle.fact_actions.specs.Actions as action
use Rattle.fact_actions.specs.Adapters.{cleared}
use Rattle.fact_actions.specs.Running.{ImportPlaces, Ended, Gave, Halted, Strayed, heavier, run}
use Rattle.fact_actions.specs.Sides.{LiftLowerOptions, check_region, with_memory}
use Rattle.fact_code_laws.specs.Does.{Locals, Way, Onward, held_types, EndsOn, Does}
use Rattle.fact_code_laws.specs.Knows.{KnowsFlags}
use Rattle.fact_code_laws.specs.Places.{Slot, AreHeld, KeepsLocals, IsNone}
use Rattle.fact_code_laws.proofs.Keeping.{keeps_all, keeps_then}
use Rattle.fact_code_laws.proofs.Numbers.{value_type, set_keeps}
use Rattle.fact_code_laws.proofs.Primitives.{set_flags}
use Rattle.fact_code_laws.proofs.Rules.{within, in_turn, pushing, local_get, local_set, done, IsSet}
use Rattle.fact_steps.specs.Code.{popped_code, pushed_code}
use Rattle.fact_compound.specs.Code.{cleared_code}

-- ---- weight

-- what the weight of a node pays for is paid in steps
ends_lighter : {A : Type 0} {M : WasmModule} {p : ImportPlaces} {way : Way} {extra spare : ℕ} {w : World} {vs : List CoreValue} {ls : Locals} {c : List Instr} {below : List CoreValue} {out : A → List CoreValue} {Holds : A → Locals → Type 0} (n : ℕ) (e : Ended A)
    → EndsOn M p way extra spare w vs ls c below out Holds (heavier n e) → EndsOn M p way (extra + 900 * n) spare w vs ls c below out Holds e
ends_lighter n (Gave m cs a w') g = record {
  by = record {
    steps = g.by.steps;
    locals = g.by.locals;
    under = g.by.under;
    holds = g.by.holds;
    typed = g.by.typed;
    bound = omega (arith, g.by.bound);
    leaves = g.by.leaves;
  };
}
ends_lighter n (Halted m cs s w') g = record { by = record { steps = g.by.steps; locals = g.by.locals; typed = g.by.typed; leaves = g.by.leaves } }
ends_lighter n (Strayed m cs w') g = record { by = record { steps = g.by.steps; by = g.by.by } }

pub unvisited : {A : Type 0} {M : WasmModule} {p : ImportPlaces} {way : Way} {extra spare n : ℕ} {ins : List CoreValue} {ls : Locals} {c : List Instr} {q : Action A} {out : A → List CoreValue} {Holds : A → Locals → Type 0}
    → Does M p way extra spare ins ls c (Visit n q) out Holds → Does M p way (extra + 900 * n) spare ins ls c q out Holds
unvisited {p = p} {n = n} {q = q} d = record { by = λ w. record { by = λ ty below. ends_lighter n (run p q w) ((d.by w).by ty below) } }

-- ---- locals on the stack

pub reversed_cons : (v : CoreValue) (vs ins : List CoreValue) → reverse (v ∷ vs) ++ ins ≡ reverse vs ++ (v ∷ ins)
reversed_cons v vs ins = ap (λ us. us ++ ins) (reverse-append (v ∷ []) vs) ∙ append_assoc (reverse vs) (v ∷ []) ins

module _ {A : Type 0} {M : WasmModule} {p : ImportPlaces} {way : Way} {extra spare : ℕ} {c : List Instr} {q : Action A} {out : A → List CoreValue} {Holds : A → Locals → Type 0} where
  -- locals are pushed in front of other code
  pub pushes : {ls : Locals} (slots : List Slot) (vs ins : List CoreValue) → AreHeld ls slots vs → Does M p way extra spare (reverse vs ++ ins) ls c q out Holds
      → Does M p way (length slots + extra) spare ins ls (pushed_code slots ++ c) q out Holds
  pushes [] [] ins h d = within (omega arith) d
  pushes [] (v ∷ vs) ins h d = absurd h
  pushes (s ∷ ss) [] ins h d = absurd h
  pushes {ls} (s ∷ ss) (v ∷ vs) ins h d =
      within (omega arith) (local_get h.0.there (pushes ss vs (v ∷ ins) h.1 (subst (λ us. Does M p way extra spare us ls c q out Holds) (reversed_cons v vs ins) d)))

-- locals that may be set to these values: distinct ones of their types, none of which is kept
abbrev pub MayBeSet : (ℕ → Bool) → List ValType → List Slot → List CoreValue → Type 0
MayBeSet used locals [] [] = Unit {0}
MayBeSet used locals (s ∷ ss) (v ∷ vs) = (slice_get locals s.0 ≡ Some s.1) × (is_value v s.1 ≡ true) × (used s.0 ≡ false) × IsNone s.0 ss × MayBeSet used locals ss vs
MayBeSet used locals [] (v ∷ vs) = ⊥
MayBeSet used locals (s ∷ ss) [] = ⊥

pub held_others : {i : ℕ} {v : CoreValue} {ls ls' : Locals} → IsSet i v ls ls' → (slots : List Slot) (vs : List CoreValue) → IsNone i slots → AreHeld ls slots vs → AreHeld ls' slots vs
held_others set [] [] n h = tt
held_others set [] (v ∷ vs) n h = absurd h
held_others set (s ∷ ss) [] n h = absurd h
held_others {i} set (s ∷ ss) (v ∷ vs) n h = (record { there = set.others s.0 (λ e. eqb-false i s.0 n.0 (sym e)) ∙ h.0.there; value = h.0.value }, held_others set ss vs n.1 h.1)

-- values on the stack are put into locals, in front of other code
pub pops : {A : Type 0} {M : WasmModule} {p : ImportPlaces} {way : Way} {extra spare : ℕ} {c : List Instr} {q : Action A} {out : A → List CoreValue} {Holds : A → Locals → Type 0} {locals : List ValType} (used : ℕ → Bool) {ls : Locals} (slots : List Slot) (vs ins : List CoreValue)
    → held_types ls ≡ locals → MayBeSet used locals slots vs → ((ls' : Locals) → AreHeld ls' slots vs → KeepsLocals used ls ls' → Does M p way extra spare ins ls' c q out Holds)
    → Does M p way (length slots + extra) spare (reverse vs ++ ins) ls (popped_code slots ++ c) q out Holds
pops used {ls} [] [] ins e m go = within (omega arith) (go ls tt keeps_all)
pops used [] (v ∷ vs) ins e m go = absurd m
pops used (s ∷ ss) [] ins e m go = absurd m
pops {M = M} {p} {way} {extra} {spare} {c} {q} {out} {Holds} {locals} used {ls} (s ∷ ss) (v ∷ vs) ins e m go =
    let last : (ls1 : Locals) → AreHeld ls1 ss vs → KeepsLocals used ls ls1 → Does M p way (suc extra) spare (v ∷ ins) ls1 (I.LocalSet s.0 ∷ c) q out Holds = λ ls1 h k.
    local_set s.1 (ap (λ l. slice_get l s.0) (k.types ∙ e) ∙ m.0) (value_type v s.1 m.1) (λ ls2 set. go ls2 (record { there = set.here; value = m.1 }, held_others set ss vs m.3 h) (keeps_then k (set_keeps m.2 set))) in
    within (omega arith) (subst (λ x. Does M p way (length ss + suc extra) spare (reverse (v ∷ vs) ++ ins) ls x q out Holds) (sym (append_assoc (popped_code ss) (I.LocalSet s.0 ∷ []) c))
    (subst (λ us. Does M p way (length ss + suc extra) spare us ls (popped_code ss ++ I.LocalSet s.0 ∷ c) q out Holds) (sym (reversed_cons v vs ins)) (pops used ss vs (v ∷ ins) e m.4 last)))

-- ---- flags

-- code in which the flags of an instance are 0, and behind which they are what a local holds
pub clears : {A : Type 0} {M : WasmModule} {p : ImportPlaces} {extra spare : ℕ} {ins : List CoreValue} {ls : Locals} {c : List Instr} {q : Action A} {mid : A → List CoreValue} {Mid : A → Locals → Type 0} {instance flags saved n : ℕ}
    → KnowsFlags M p instance flags → n < 2 ^ 32 → Does M p Onward extra spare ins ls c q mid Mid → ((a : A) (ls' : Locals) → Mid a ls' → slice_get ls' saved ≡ Some (Some (I32 n)))
    → Does M p Onward (4 + extra) spare ins ls (cleared_code flags saved c) (cleared instance n q) mid Mid
clears h lt d there =
    within (omega arith) (pushing (record { by = λ w vs. leaves_i32_const }) (set_flags h (omega arith) (in_turn d (λ a ls' m. local_get (there a ls' m) (set_flags h lt (done refl m))))))

-- ---- tests and regions

-- a test and then what is done behind it
pub unless_binds : {A B : Type 0} (t : Trap) (b : Bool) (q : Action A) (f : A → Action B) → (unless t b q >>= f) ≡ unless t b (q >>= f)
unless_binds t true q f = refl
unless_binds t false q f = refl

-- a check and then what is done behind it
pub region_binds : {A B : Type 0} (o : LiftLowerOptions) (t : Trap) (pointer bytes align : ℕ) (q : Action A) (f : A → Action B) → (check_region o t pointer bytes align q >>= f) ≡ check_region o t pointer bytes align (q >>= f)
region_binds {A} {B} o t pointer bytes align q f = aligned (nat_eq (pointer % align) 0)
  where
    measured : (m : Option MemoryOption) → (elim m as (λ (m : Option MemoryOption). Action A) [ None ↦ action.Unreachable | Some m ↦ MemoryLength m.def (λ length. unless t (nat_le (pointer + bytes) length) q) ] >>= f)
        ≡ elim m as (λ (m : Option MemoryOption). Action B) [ None ↦ action.Unreachable | Some m ↦ MemoryLength m.def (λ length. unless t (nat_le (pointer + bytes) length) (q >>= f)) ]
    measured None = refl
    measured (Some m) = λ i. MemoryLength m.def (λ length. unless_binds t (nat_le (pointer + bytes) length) q f i)

    aligned : (b : Bool) → (unless UnalignedPointer b (with_memory o (λ m. MemoryLength m.def (λ length. unless t (nat_le (pointer + bytes) length) q))) >>= f)
        ≡ unless UnalignedPointer b (with_memory o (λ m. MemoryLength m.def (λ length. unless t (nat_le (pointer + bytes) length) (q >>= f))))
    aligned true = measured o.memory
    aligned false = refl
