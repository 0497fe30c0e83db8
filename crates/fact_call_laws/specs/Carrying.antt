-- What a call of an adapter on a host comes to, where the adapter's module was fused without debug checks: it returns, and the callee was given the
-- arguments, and the caller gets the results, each carried.
use Rattle.std.specs.Prelude.{◌≡◌, ℕ, true, false, List, Option, Some, None, option_map}
use Rattle.fact_wasm.specs.declared.module.WasmModule.{WasmModule}
use Rattle.fact_types.specs.declared.import.Import.{Import}
use Rattle.fact_types.specs.declared.import.Import.TheVariants as import
use Rattle.fact_types.specs.Adapters.{LinkedAdapter}
use Rattle.fact_types.specs.Tables.{Tables}
use Rattle.fact_machine.specs.declared.types.CoreValue.{CoreValue}
use Rattle.fact_machine.specs.declared.types.End.TheVariants.{Returned}
use Rattle.fact_check.specs.Constants.{HasTypedConstants}
use Rattle.fact_values.specs.declared.value.Value.{Value}
use Rattle.fact_actions.specs.Adapters.{AdapterTunables, lower_signature_of}
use Rattle.fact_actions.specs.TypedAnswers.{HasPlaces}
use Rattle.fact_action_laws.specs.FaithfulLaws.{IsCheckedAdapter}
use Rattle.fact_lowering.specs.Room.{fits}
use Rattle.fact_host.specs.declared.calling.HostCall.{HostCall}
use Rattle.fact_host.specs.declared.calling.HostOutcome.{HostOutcome}
use Rattle.fact_host.specs.Called.{called_params, called_results}
use Rattle.fact_host.specs.Contract.{AreOfTypes, AreSuited, IsCallable, IsOutcomeOf}
use Rattle.fact_host.specs.Describes.{DescribesHostSide}
use Rattle.fact_host.specs.Rules.{CallShapes}
use Rattle.fact_emit.specs.ImportSection.{NamesImports}
use Rattle.fact_function_laws.specs.Names.{places_in}
use Rattle.fact_function_laws.specs.Runs.{Behaves}

-- An adapter between two instances as the module that was fused without debug checks promises it: its function behaves, and its import section
-- names the imports. The checks of plans have let it through, the module has its memories and flags, and its function has the parameters of its
-- signature. The bits of the constants in its code are as many as their types have.
pub record IsPromised (m : WasmModule) (is : List Import) (u : AdapterTunables) (a : LinkedAdapter) (adapters : List LinkedAdapter) (f : ℕ) : Type 0 where
  pub behaves : Behaves m is u a f
  pub no_debug : u.debug ≡ false
  pub names : NamesImports m is adapters
  pub checked : IsCheckedAdapter (places_in m is) a
  pub places : HasPlaces (places_in m is) a
  pub core_params : a.lower.core_type.params ≡ (lower_signature_of a).params
  pub constants : HasTypedConstants m

-- A call is one of this adapter, neither of whose sides is async: its function, and on each side the types, the width and encoding, and the places
-- where the module imports what the adapter names.
pub record CallsAdapter (m : WasmModule) (is : List Import) (t : Tables) (c : HostCall) (a : LinkedAdapter) (f : ℕ) : Type 0 where
  pub func : c.func ≡ f
  pub lower : DescribesHostSide t c.lower (places_in m is) a.lower
  pub lift : DescribesHostSide t c.lift (places_in m is) a.lift
  pub callee : (places_in m is).function (import.CoreDef a.callee) ≡ c.callee
  pub post_return : option_map (λ d. (places_in m is).function (import.CoreDef d)) a.lift.post_return ≡ c.post_return

-- It returned. The callee was given the arguments and the caller got the results, carried, with the numbers from 1 on for their handles, so that they
-- are of the types of its own side.
pub record CallHasCarried (s : CallShapes) (args answered : List Value) (o : HostOutcome) : Type 0 where
  pub values : List CoreValue
  pub returned : o.outcome.end ≡ Returned values
  pub given : List Value
  pub given_are : called_params s.lower_params s.lift_params args ≡ Some given
  pub given_typed : AreOfTypes s.lift_params given
  pub params : o.params ≡ Some given
  pub got : List Value
  pub got_are : called_results s.lower_params s.lift_params s.lift_results s.lower_results args answered ≡ Some got
  pub got_typed : AreOfTypes s.lower_results got
  pub results : o.results ≡ Some got

-- So it is with every outcome that a host's contract allows, where the arguments and what the callee answered are of the types and fit.
abbrev pub HostsCarry : Type 0
HostsCarry =
    (m : WasmModule) (is : List Import) (u : AdapterTunables) (a : LinkedAdapter) (adapters : List LinkedAdapter) (f : ℕ)
    (t : Tables) (c : HostCall) (s : CallShapes) (args results : List Value) (given : Option (List Value)) (o : HostOutcome)
    → IsPromised m is u a adapters f → CallsAdapter m is t c a f → IsCallable m t c s
    → AreSuited s args → AreOfTypes s.lift_results results → fits s.lift_results s.lower_results results ≡ true
    → IsOutcomeOf m t c s args (Some results) given o → CallHasCarried s args results o

-- And the callee is always asked: of one that would answer such results no outcome is one in which it answered nothing.
abbrev pub HostsAsk : Type 0
HostsAsk =
    (m : WasmModule) (is : List Import) (u : AdapterTunables) (a : LinkedAdapter) (adapters : List LinkedAdapter) (f : ℕ)
    (t : Tables) (c : HostCall) (s : CallShapes) (args results : List Value) (given : Option (List Value)) (o : HostOutcome)
    → IsPromised m is u a adapters f → CallsAdapter m is t c a f → IsCallable m t c s
    → AreSuited s args → AreOfTypes s.lift_results results → fits s.lift_results s.lower_results results ≡ true
    → IsOutcomeOf m t c s args None given o → ⊥
