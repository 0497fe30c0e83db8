-- What a chain on the host tells of two adapters.
use Rattle.std.proofs.Common.{◌≡◌, ◌⊎◌, inl, inr, ℕ, List, Option, Some, None, length, refl, subst}
use Rattle.std.specs.Prelude.{string_bytes}
use Rattle.fact_types.specs.Adapters.{LinkedAdapter}
use Rattle.fact_types.specs.Tables.{Tables}
use Rattle.fact_plan.specs.declared.plan.FusePlan.{FusePlan}
use Rattle.fact_values.specs.declared.value.Value.{Value}
use Rattle.fact_host.specs.declared.callee.HostError.{HostError}
use Rattle.fact_host.specs.declared.callee.HostError.TheVariants.{OutOfMemory}
use Rattle.fact_host.specs.declared.calling.HostCall.{HostCall}
use Rattle.fact_host.specs.declared.calling.HostOutcome.{HostOutcome}
use Rattle.fact_host.specs.Contract.{AreTypesLive}
use Rattle.fact_chain.specs.declared.chaining.Chained.{Chained}
use Rattle.fact_chain.specs.Between.{CanBeRun}
use Rattle.fact_chain.specs.Chained.{IsChainCause, IsChained}
use Rattle.fact_types.proofs.ShapeLaws.{same_some}
use Rattle.fact_module.specs.declared.fusion.Fused.{Fused}
use Rattle.fact_adapter_rules.specs.Adapters.{adapters_of}
use Rattle.fact_chain_laws.specs.Chains.{ChainsCarry, ChainsEnd, HasComeTo, IsOverOneWay}
use Rattle.fact_call_mode.specs.declared.reply.CallReply.{CallReply}
use Rattle.fact_call_mode.specs.declared.reply.CallReply.TheVariants as reply
use Rattle.fact_call_mode.specs.declared.values.Values.{Values}
use Rattle.fact_call_mode.specs.Replies.{quiet_tunables, shapes_of}
use Rattle.fact_chain_mode.specs.ChainReplies.{AreHosted, IsReplyToError, IsReplyToOutcomes, IsToldChain, TellsOutcomes}
use Rattle.fact_chain_mode.specs.ChainTexts.{TellsChain}

module _ (fuel : ℕ) (p : FusePlan) (a b : LinkedAdapter) (t : Tables) (f : Fused) (first second : HostCall) (values : Values) (h : AreHosted fuel p a b t f first second values) where
  -- the host can make both calls
  pub first_can : AreTypesLive t first → CanBeRun f.module t first
  first_can live = record { shapes = shapes_of a; callable = h.first_call.callable; live = live }

  pub second_can : AreTypesLive t second → CanBeRun f.module t second
  second_can live = record { shapes = shapes_of b; callable = h.second_call.callable; live = live }

  -- an error that is no want of memory
  is_over : ChainsEnd → (error : HostError) → IsChainCause f.module t first second values.args values.results error → (error ≡ OutOfMemory → ⊥) → IsOverOneWay (shapes_of a) (shapes_of b) values.args values.results
  is_over end error cause other =
      by (end f.module f.imports (quiet_tunables fuel p) (adapters_of p) a b h.first_call.function h.second_call.function t first second (shapes_of a) (shapes_of b) values.args values.results error
      h.first_call.promised h.second_call.promised h.first_call.calls h.second_call.calls h.first_call.callable h.second_call.callable h.joined h.args_typed h.results_typed cause)
    where
      by : (error ≡ OutOfMemory) ⊎ IsOverOneWay (shapes_of a) (shapes_of b) values.args values.results → IsOverOneWay (shapes_of a) (shapes_of b) values.args values.results
      by (inl e) = absurd (other e)
      by (inr over) = over

  pub is_error : ChainsEnd → (error : HostError) → IsChainCause f.module t first second values.args values.results error → (r : CallReply) → IsReplyToError error r → IsToldChain fuel p a b values r
  is_error end error cause reply.NotJson g = g
  is_error end error cause (reply.BadPlan x) g = g
  is_error end error cause (reply.Refused x) g = g
  is_error end error cause reply.NotCallable g = g
  is_error end error cause (reply.BadValue x) g = g
  is_error end error cause reply.OverLimit g = is_over end error cause g
  is_error end error cause (reply.Page text) g = absurd g
  is_error end error cause reply.OutOfMemory g = tt

  module _ (carry : ChainsCarry) (c : Chained) (chained : IsChained f.module t first second values.args values.results c) where
    comes : HasComeTo (shapes_of a) (shapes_of b) values.args values.results c c.inner
    comes =
        carry f.module f.imports (quiet_tunables fuel p) (adapters_of p) a b h.first_call.function h.second_call.function t first second (shapes_of a) (shapes_of b) values.args values.results c
        h.first_call.promised h.second_call.promised h.first_call.calls h.second_call.calls h.first_call.callable h.second_call.callable h.joined h.args_typed h.results_typed h.results_fit chained

    comes_so : (o : Option HostOutcome) → c.inner ≡ o → HasComeTo (shapes_of a) (shapes_of b) values.args values.results c o
    comes_so o e = subst (HasComeTo (shapes_of a) (shapes_of b) values.args values.results c) e comes

    -- both are there where the second call was made
    pub there : (o : HostOutcome) → c.inner ≡ Some o → ((vs : List Value) × (o.params ≡ Some vs)) × ((vs : List Value) × (c.outer.results ≡ Some vs))
    there o e =
        let k = (comes_so (Some o) e).1 in
        let same : k.inner ≡ o = same_some c.inner k.inner o k.made e in
        ((k.seen, subst (λ (x : HostOutcome). x.params ≡ Some k.seen) same k.params), (k.got, k.results))

    module _ (first_live : AreTypesLive t first) (second_live : AreTypesLive t second) where
      tells : (text : List ℕ) (o : HostOutcome) (e : c.inner ≡ Some o) → TellsOutcomes t first second c.outer o text → TellsChain fuel p a b values.args values.results text
      tells text o e told =
          let k = (comes_so (Some o) e).1 in
          let same : k.inner ≡ o = same_some c.inner k.inner o k.made e in
          record {
            seen = k.seen;
            seen_are = k.seen_are;
            got = k.got;
            got_are = k.got_are;
            outer_count = length c.outer.outcome.log;
            inner_count = length o.outcome.log;
            make = record {
              fused = f;
              is_fused = h.fused;
              outer_func = h.first_call.function;
              outer_exported = h.first_call.exported;
              inner_func = h.second_call.function;
              inner_exported = h.second_call.exported;
              tables = t;
              first = first;
              first_calls = h.first_call.calls;
              first_can = first_can first_live;
              second = second;
              second_calls = h.second_call.calls;
              second_can = second_can second_live;
              joined = h.joined;
              chained = c;
              is_chained = chained;
              outer_count_is = refl;
              inner = o;
              inner_made = e;
              inner_count_is = refl;
            };
            text_is =
                told.told b.lift.params a.lower.results k.seen k.got h.second_call.calls.lift.params h.first_call.calls.lower.results
                (subst (λ (x : HostOutcome). x.params ≡ Some k.seen) same k.params) k.results k.seen_types k.got_types;
          }

      pub is_told : (r : CallReply) → IsReplyToOutcomes t first second c r → IsToldChain fuel p a b values r
      is_told reply.NotJson g = g
      is_told (reply.BadPlan x) g = g
      is_told (reply.Refused x) g = g
      is_told reply.NotCallable g = g
      is_told (reply.BadValue x) g = g
      is_told reply.OverLimit g = comes_so None g
      is_told (reply.Page text) g = ((comes_so (Some g.0) g.1).0, tells (string_bytes text) g.0 g.1 g.2)
      is_told reply.OutOfMemory g = tt
