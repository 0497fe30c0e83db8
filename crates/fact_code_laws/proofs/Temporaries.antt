-- Temporary locals of a piece of code, and what they hold.
use Rattle.std.proofs.Common.{◌≡◌, ℕ, suc, ◌<◌, Bool, true, false, List, [], ◌∷◌, Some, refl, ap, ◌∙◌, slice_get}
use Rattle.std.specs.Prelude.{nat_eq, if◌then◌else◌}
use Rattle.std.specs.List.{AllByRecursion}
use Rattle.std.proofs.lemmas.Bool.{eqb-false}
use Rattle.fact_wasm.specs.declared.types.ValType.{ValType}
use Rattle.fact_wasm.specs.declared.instr.Instr.{Instr}
use Rattle.fact_wasm.specs.declared.instr.Instr.TheVariants as I
use Rattle.fact_wasm.specs.declared.module.WasmModule.{WasmModule}
use Rattle.fact_machine.specs.declared.types.CoreValue.{CoreValue}
use Rattle.fact_machine.specs.Machine.{has_type}
use Rattle.fact_actions.specs.Actions.{Action}
use Rattle.fact_actions.specs.Running.{ImportPlaces}
use Rattle.fact_code_laws.specs.Does.{Locals, Way, held_types, Does}
use Rattle.fact_code_laws.specs.Places.{KeepsLocals}
use Rattle.fact_code_laws.proofs.Rules.{IsSet, local_set}
use Rattle.fact_code_laws.proofs.Numbers.{set_keeps}
use Rattle.fact_code_laws.proofs.Keeping.{keeps_all, keeps_then}

-- So many temporary locals by their numbers: distinct ones of these types, none of which is in use.
pub record Temporaries (locals : List ValType) (used : ℕ → Bool) (count : ℕ) (temp : ℕ → ℕ) (type : ℕ → ValType) : Type 0 where
  pub distinct : (i j : ℕ) → i < count → j < count → temp i ≡ temp j → i ≡ j
  pub typed : (i : ℕ) → i < count → slice_get locals (temp i) ≡ Some (type i)
  pub free : (i : ℕ) → i < count → used (temp i) ≡ false

-- what temporaries hold, by their numbers, the one that was set last first
abbrev pub Facts : Type 0
Facts = List (ℕ × CoreValue)

abbrev pub HoldFacts : (ℕ → ℕ) → Locals → Facts → Type 0
HoldFacts temp ls fs = AllByRecursion (λ f. slice_get ls (temp f.0) ≡ Some (Some f.1)) fs

abbrev pub without : ℕ → Facts → Facts
without j [] = []
without j (f ∷ fs) = if nat_eq f.0 j then without j fs else f ∷ without j fs

abbrev pub AreBelow : ℕ → Facts → Type 0
AreBelow count fs = AllByRecursion (λ f. f.0 < count) fs

-- how the locals stand, since they were so at first: those in use are as they were, and temporaries hold these values
pub record Standing (used : ℕ → Bool) (count : ℕ) (temp : ℕ → ℕ) (first ls : Locals) (fs : Facts) : Type 0 where
  pub keeps : KeepsLocals used first ls
  pub below : AreBelow count fs
  pub holds : HoldFacts temp ls fs

module _ {count : ℕ} {temp : ℕ → ℕ} (distinct : (i j : ℕ) → i < count → j < count → temp i ≡ temp j → i ≡ j) (j : ℕ) (lt : j < count) {v : CoreValue} {ls ls' : Locals} (s : IsSet (temp j) v ls ls') where
  kept : (fs : Facts) → AreBelow count fs → HoldFacts temp ls fs → AreBelow count (without j fs) × HoldFacts temp ls' (without j fs)
  kept [] b h = (tt, tt)
  kept (f ∷ fs) b h = by_test (nat_eq f.0 j) refl (kept fs b.1 h.1)
    where
      by_test : (same : Bool) → nat_eq f.0 j ≡ same → AreBelow count (without j fs) × HoldFacts temp ls' (without j fs)
          → AreBelow count (if same then without j fs else f ∷ without j fs) × HoldFacts temp ls' (if same then without j fs else f ∷ without j fs)
      by_test true e rest = rest
      by_test false e rest = ((b.0, rest.0), (s.others (temp f.0) (λ same. eqb-false f.0 j e (distinct f.0 j b.0 lt same)) ∙ h.0, rest.1))

pub standing : {used : ℕ → Bool} {count : ℕ} {temp : ℕ → ℕ} {ls : Locals} → Standing used count temp ls ls []
standing = record { keeps = keeps_all; below = tt; holds = tt }

module _ {locals : List ValType} {used : ℕ → Bool} {count : ℕ} {temp : ℕ → ℕ} {type : ℕ → ValType} (t : Temporaries locals used count temp type) {first ls : Locals} (e : held_types first ≡ locals) where
  -- a temporary has its type, whatever it holds
  pub temp_type : {fs : Facts} (j : ℕ) → j < count → Standing used count temp first ls fs → slice_get (held_types ls) (temp j) ≡ Some (type j)
  temp_type j lt s = ap (λ l. slice_get l (temp j)) (s.keeps.types ∙ e) ∙ t.typed j lt

  pub standing_set : {fs : Facts} {ls' : Locals} {v : CoreValue} (j : ℕ) → j < count → Standing used count temp first ls fs → IsSet (temp j) v ls ls' → Standing used count temp first ls' ((j, v) ∷ without j fs)
  standing_set {fs} j lt s set =
      let k = kept t.distinct j lt set fs s.below s.holds in
      record { keeps = keeps_then s.keeps (set_keeps (t.free j lt) set); below = (lt, k.0); holds = (set.here, k.1) }

  -- a temporary is set, in front of other code
  pub set_temp : {A : Type 0} {M : WasmModule} {p : ImportPlaces} {way : Way} {extra spare : ℕ} {ins : List CoreValue} {c : List Instr} {q : Action A} {out : A → List CoreValue} {Holds : A → Locals → Type 0} {fs : Facts} {v : CoreValue} (j : ℕ)
      → j < count → has_type v (type j) ≡ true → Standing used count temp first ls fs
      → ((ls' : Locals) → Standing used count temp first ls' ((j, v) ∷ without j fs) → Does M p way extra spare ins ls' c q out Holds)
      → Does M p way (suc extra) spare (v ∷ ins) ls (I.LocalSet (temp j) ∷ c) q out Holds
  set_temp j lt h s go = local_set (type j) (temp_type j lt s) h (λ ls' set. go ls' (standing_set j lt s set))

held_facts : (temp : ℕ → ℕ) {more : ℕ → Bool} {ls ls' : Locals} → KeepsLocals more ls ls' → (fs : Facts) → AllByRecursion (λ f. more (temp f.0) ≡ true) fs → HoldFacts temp ls fs → HoldFacts temp ls' fs
held_facts temp k [] h f = tt
held_facts temp k (x ∷ fs) h f = (k.same (temp x.0) h.0 ∙ f.0, held_facts temp k fs h.1 f.1)

-- code that keeps those locals leaves all as it stands
pub standing_kept : {used more : ℕ → Bool} {count : ℕ} {temp : ℕ → ℕ} {first ls ls' : Locals} {fs : Facts} → Standing used count temp first ls fs → KeepsLocals more ls ls' → ((i : ℕ) → used i ≡ true → more i ≡ true) → AllByRecursion (λ f. more (temp f.0) ≡ true) fs
    → Standing used count temp first ls' fs
standing_kept {temp = temp} {fs = fs} s k h f = record { keeps = keeps_then s.keeps (record { same = λ i u. k.same i (h i u); types = k.types }); below = s.below; holds = held_facts temp k fs f s.holds }
