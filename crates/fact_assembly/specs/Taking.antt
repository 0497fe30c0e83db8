-- An adapter whose types have no fault, and what it is behind the adapters that a module took.
use Rattle.std.specs.Prelude.{◌<◌, List}
use Rattle.fact_plan_types.specs.Faults.{Fault, rank}
use Rattle.fact_adapter_rules.specs.declared.sides.Candidate.{Candidate}
use Rattle.fact_types.specs.Adapters.{LinkedAdapter}
use Rattle.fact_adapter_rules.specs.AdapterRules.{LinkedHas}
use Rattle.fact_adapter_rules.specs.Linked.{IsLinked}
use Rattle.fact_assembly.specs.Collected.{AreTaken, Collected}

-- Of the adapters that it took and of this one, with all that they name looked up, something is so.
abbrev pub Behind : Collected → Candidate → (List LinkedAdapter → LinkedAdapter → Type 0) → Type 0
Behind c candidate P = (before : List LinkedAdapter) (a : LinkedAdapter) → AreTaken c before → IsLinked c.builder candidate a → P before a

abbrev pub HasFaultBehind : Collected → List LinkedAdapter → LinkedAdapter → Fault → Type 0
HasFaultBehind c before a f = LinkedHas c.tunables.concurrency_support before a f

-- An adapter has no fault behind those that were taken.
abbrev pub IsSoundBehind : Collected → Candidate → Type 0
IsSoundBehind c candidate = Behind c candidate (λ before a. (f : Fault) → HasFaultBehind c before a f → ⊥)

-- It has this one, and none that is looked for before it.
abbrev pub IsFirstBehind : Collected → Candidate → Fault → Type 0
IsFirstBehind c candidate f = Behind c candidate (λ before a. HasFaultBehind c before a f × ((g : Fault) → rank g < rank f → HasFaultBehind c before a g → ⊥))
