-- What an adapter has that the checks of adapters let pass, in the words of the laws of its runs.
use Rattle.std.specs.Prelude.{◌≡◌, ◌≢◌, ◌⊎◌, ℕ, Bool, true, List, Option, None, Some, slice_get}
use Rattle.std.specs.List.{AllByRecursion}
use Rattle.fact_types.specs.declared.outside.MemoryOption.{MemoryOption}
use Rattle.fact_types.specs.Adapters.{LinkedAdapter, is_crossing, is_wide}
use Rattle.fact_types.specs.Agrees.{AgreesPlaces}
use Rattle.fact_types.specs.PointerPairs.{any_pointer_pair}
use Rattle.fact_types.specs.Signatures.{flat_values, lift_results_limit, lower_limit}
use Rattle.fact_types.specs.Tuples.{tuple_members}
use Rattle.fact_types.specs.Valid.{IsValid}
use Rattle.fact_builder.specs.Builder.{Builder}
use Rattle.fact_plan.specs.declared.plan.FusePlan.{FusePlan}
use Rattle.fact_plan.specs.declared.plan.PlanAdapter.{PlanAdapter}
use Rattle.fact_plan_types.specs.declared.plan_types.PlanTypes.{PlanTypes}
use Rattle.fact_plan_types.specs.Faults.{Fault}
use Rattle.fact_plan_types.specs.PlanTypes.{AreTypesOf}
use Rattle.fact_adapter_rules.specs.declared.adapter.Adapter.{Adapter}
use Rattle.fact_adapter_rules.specs.Adapters.{adapter_of, adapters_before}
use Rattle.fact_adapter_rules.specs.AdapterRules.{LinkedHas}
use Rattle.fact_adapter_rules.specs.FirstFault.{IsFaultlessPlan}
use Rattle.fact_adapter_rules.specs.Linked.{HasSides}
use Rattle.fact_adapter_rules.specs.PlanLinks.{LinksAdapter}
use Rattle.fact_actions.specs.Adapters.{flat_results, lift_signature_of, lower_signature_of}
use Rattle.fact_actions.specs.Calls.{HasOwnCallee}
use Rattle.fact_actions.specs.Confined.{HasValidTypes}
use Rattle.fact_actions.specs.Running.{ImportPlaces}
use Rattle.fact_actions.specs.Sides.{options_of}
use Rattle.fact_action_laws.specs.FaithfulLaws.{AreWellFormedTypes, IsCheckedAdapter}
use Rattle.fact_action_laws.specs.MoveTerms.{CanAllocate, HasPointers}
use Rattle.fact_action_laws.specs.Places.{HasKnownMemory, HasSideMemory}

-- ---- adapters that the checks let pass

-- Each type of the parameters and the results of both sides is valid.
pub record HasValidSides (a : LinkedAdapter) : Type 0 where
  pub lower_params : AllByRecursion IsValid a.lower.params
  pub lower_results : AllByRecursion IsValid a.lower.results
  pub lift_params : AllByRecursion IsValid a.lift.params
  pub lift_results : AllByRecursion IsValid a.lift.results

-- Its function types stand in a builder, its types are valid, and it has no fault behind those before it.
pub record HasPassed (b : Builder) (x : Adapter) (concurrency : Bool) (before : List LinkedAdapter) (a : LinkedAdapter) : Type 0 where
  pub sides : HasSides b x a
  pub types : HasValidSides a
  pub faultless : (f : Fault) → LinkedHas concurrency before a f → ⊥

-- Of each such adapter, behind those before it, something is so.
abbrev pub EachPassed : (List LinkedAdapter → LinkedAdapter → Type 0) → Type 0
EachPassed P = (b : Builder) (x : Adapter) (concurrency : Bool) (before : List LinkedAdapter) (a : LinkedAdapter) → HasPassed b x concurrency before a → P before a

-- The types of an adapter of a plan, with all that it names looked up, are valid where those of the plan stand in a builder.
abbrev pub PlanSidesAreValid : Type 0
PlanSidesAreValid = (p : FusePlan) (t : PlanTypes) (x : PlanAdapter) (a : LinkedAdapter) → AreTypesOf p t → adapter_of p x ≡ Some a → HasValidSides a

-- Each adapter of a plan without faults has passed, with all that it names looked up.
abbrev pub FaultlessHavePassed : Type 0
FaultlessHavePassed =
    (p : FusePlan) (t : PlanTypes) (k : ℕ) (x : PlanAdapter) (y : Adapter) → AreTypesOf p t → IsFaultlessPlan p → slice_get p.adapters k ≡ Some x
    → (links : LinksAdapter p t.builder x y) → HasPassed t.builder y p.tunables.concurrency (adapters_before p k) links.linked

-- ---- what such an adapter has, wherever a module has its imports

-- the memory, where there is one, has pages of 1 or of 65,536 bytes
abbrev pub HasUsualPages : Option MemoryOption → Type 0
HasUsualPages None = Unit {0}
HasUsualPages (Some m) = (m.page_size_log2 ≡ 0) ⊎ (m.page_size_log2 ≡ 16)

-- Its types are valid and well formed and agree, its core types are its canonical signatures, each side has the memories and the
-- realloc that its own types need, memories have usual pages, those of two instances are two definitions, and the callee is a
-- function of its own.
pub record IsSoundAdapter (a : LinkedAdapter) : Type 0 where
  pub valid : HasValidTypes a
  pub lower_params : AreWellFormedTypes a.lower.params
  pub lower_results : AreWellFormedTypes a.lower.results
  pub lift_params : AreWellFormedTypes a.lift.params
  pub lift_results : AreWellFormedTypes a.lift.results
  pub params_agree : AgreesPlaces (tuple_members a.lower.params) (tuple_members a.lift.params)
  pub results_agree : AgreesPlaces (tuple_members a.lift.results) (tuple_members a.lower.results)
  pub lower_core_type : a.lower.core_type ≡ record { params = (lower_signature_of a).params; results = (lower_signature_of a).results }
  pub lift_core_type : a.lift.core_type ≡ record { params = (lift_signature_of a).params; results = (lift_signature_of a).results }
  -- strings, lists and maps go from memory to memory
  pub params_supplied : any_pointer_pair a.lower.params ≡ true → HasPointers (options_of a.lower) (options_of a.lift)
  pub results_supplied : any_pointer_pair a.lift.results ≡ true → HasPointers (options_of a.lift) (options_of a.lower)
  -- tuples that are not flat lie in memories
  pub params_behind : flat_values (is_wide a.lower.memory) (lower_limit a.lower.async_side) a.lower.params ≡ None → HasSideMemory (options_of a.lower)
  pub params_into : flat_values (is_wide a.lift.memory) 16 a.lift.params ≡ None → CanAllocate (options_of a.lift)
  pub results_behind : flat_values (is_wide a.lift.memory) (lift_results_limit a.lift.async_side) a.lift.results ≡ None → HasSideMemory (options_of a.lift)
  pub results_into : flat_results a.lower ≡ None → HasSideMemory (options_of a.lower)
  pub lower_pages : HasUsualPages a.lower.memory
  pub lift_pages : HasUsualPages a.lift.memory
  pub memories : is_crossing a ≡ true → (m n : MemoryOption) → a.lower.memory ≡ Some m → a.lift.memory ≡ Some n → m.def ≢ n.def
  pub own_callee : HasOwnCallee a

abbrev pub PassedAreSound : Type 0
PassedAreSound = EachPassed (λ before a. IsSoundAdapter a)

-- ---- what it has in a module

-- The places of a module tell the memories of an adapter: each has the width that its side says, and those of both sides have one
-- place only where they are one definition.
pub record TellsMemories (p : ImportPlaces) (a : LinkedAdapter) : Type 0 where
  pub lower : HasKnownMemory p a.lower.memory
  pub lift : HasKnownMemory p a.lift.memory
  pub apart : (m n : MemoryOption) → a.lower.memory ≡ Some m → a.lift.memory ≡ Some n → p.memory m.def ≡ p.memory n.def → m.def ≡ n.def

-- Between two instances it is one that the laws of runs speak of.
abbrev pub SoundAreChecked : Type 0
SoundAreChecked = (p : ImportPlaces) (a : LinkedAdapter) → IsSoundAdapter a → is_crossing a ≡ true → TellsMemories p a → IsCheckedAdapter p a
