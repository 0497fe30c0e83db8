-- What the checks of adapters remember of those before.
use Rattle.std.specs.Prelude.{◌≡◌, ◌<◌, Bool, List, [], ◌∷◌, ◌++◌}
use Rattle.std.specs.List.{flat_map}
use Rattle.fact_builder.specs.Builder.{Builder}
use Rattle.fact_adapter_rules.specs.Bindings.{AreAllDifferent, Covers}
use Rattle.fact_plan_types.specs.Faults.{Fault, rank}
use Rattle.fact_adapter_rules.specs.declared.bound.Bound.{Bound}
use Rattle.fact_adapter_rules.specs.declared.sides.Candidate.{Candidate}
use Rattle.fact_types.specs.Adapters.{LinkedAdapter}
use Rattle.fact_adapter_rules.specs.AdapterRules.{LinkedHas, export_names, adapter_memories, reallocs_of, uses_of}
use Rattle.fact_adapter_rules.specs.Linked.{IsLinked}

-- What was bound and exported is what these adapters use and export, each thing once.
pub record AreBound (b : Bound) (before : List LinkedAdapter) : Type 0 where
  pub memories : Covers b.memories (flat_map adapter_memories before)
  pub reallocs : Covers b.reallocs (flat_map reallocs_of before)
  pub uses : Covers b.uses (flat_map uses_of before)
  pub names : b.names ≡ flat_map export_names before
  pub distinct : AreAllDifferent b.names

-- Behind any adapters that are bound, this one has no fault, and is bound now.
abbrev pub IsSoundOver : Builder → Bool → (old new : Bound) → Candidate → Type 0
IsSoundOver b concurrency old new candidate =
    (before : List LinkedAdapter) (a : LinkedAdapter) → AreBound old before → IsLinked b candidate a
    → ((f : Fault) → LinkedHas concurrency before a f → ⊥) × AreBound new (before ++ a ∷ [])

-- Behind any adapters that are bound, this one has the fault, and none that is looked for before it.
abbrev pub IsFirstOver : Builder → Bool → Bound → Candidate → Fault → Type 0
IsFirstOver b concurrency old candidate f =
    (before : List LinkedAdapter) (a : LinkedAdapter) → AreBound old before → IsLinked b candidate a
    → LinkedHas concurrency before a f × ((g : Fault) → rank g < rank f → LinkedHas concurrency before a g → ⊥)

-- The builder of the adapters' types, whether concurrency is there, and what was bound.
pub record Checks : Type 0 where
  pub builder : Builder
  pub concurrency : Bool
  pub bound : Bound

-- The adapters that were checked, without a fault, are these.
abbrev pub AreChecked : Checks → List LinkedAdapter → Type 0
AreChecked c before = AreBound c.bound before

abbrev pub IsSoundNext : (old new : Checks) → Candidate → Type 0
IsSoundNext old new candidate = IsSoundOver old.builder old.concurrency old.bound new.bound candidate

abbrev pub IsFirstOf : Checks → Candidate → Fault → Type 0
IsFirstOf c candidate f = IsFirstOver c.builder c.concurrency c.bound candidate f
