-- Replies to a chain, by what is known at each step.
use Rattle.std.proofs.Common.{◌≡◌, ℕ, true}
use Rattle.fact_types.specs.Adapters.{LinkedAdapter}
use Rattle.fact_plan.specs.declared.plan.FusePlan.{FusePlan}
use Rattle.fact_plan_types.specs.declared.plan_types.PlanTypes.{PlanTypes}
use Rattle.fact_adapter_rules.specs.Adapters.{adapters_of}
use Rattle.fact_call_mode.specs.declared.reply.CallReply.{CallReply}
use Rattle.fact_call_mode.specs.declared.reply.CallReply.TheVariants as reply
use Rattle.fact_call_mode.specs.declared.values.Values.{Values}
use Rattle.fact_call_mode.specs.Calls.{callable_named}
use Rattle.fact_chain_mode.specs.declared.input.Asked.{Asked}
use Rattle.fact_chain_mode.specs.declared.pairs.Pair.{Pair}
use Rattle.fact_chain_mode.specs.ChainInputs.{ChainInput}
use Rattle.fact_chain_mode.specs.ChainReplies.{ArePaired, AreRead, IsReplyToInput, IsReplyToPair, IsReplyToValues, IsToldChain, input_with}
use Rattle.fact_chain_mode.specs.ChainTexts.{NamesChained, leads_to}
use Rattle.fact_chain_mode.proofs.PairLaws.{apart}

-- ---- two adapters, the first of which leads to the second

pub values_refused : (fuel : ℕ) (a b : LinkedAdapter) (i : ChainInput) (r : CallReply) → leads_to a b ≡ true → IsReplyToValues a b i r → IsReplyToPair fuel a b i r
values_refused fuel a b i reply.NotJson l h = h
values_refused fuel a b i (reply.BadPlan g) l h = h
values_refused fuel a b i (reply.Refused g) l h = h
values_refused fuel a b i reply.NotCallable l h = absurd h
values_refused fuel a b i (reply.BadValue f) l h = (l, h.0, h.1)
values_refused fuel a b i reply.OverLimit l h = (l, h)
values_refused fuel a b i (reply.Page text) l h = absurd h
values_refused fuel a b i reply.OutOfMemory l h = tt

pub chain_told : (fuel : ℕ) (p : FusePlan) (asked : Asked) (a b : LinkedAdapter) (values : Values) (r : CallReply) → leads_to a b ≡ true → AreRead a b (input_with p asked) values → IsToldChain fuel p a b values r
    → IsReplyToPair fuel a b (input_with p asked) r
chain_told fuel p asked a b values reply.NotJson l v h = h
chain_told fuel p asked a b values (reply.BadPlan g) l v h = h
chain_told fuel p asked a b values (reply.Refused g) l v h = h
chain_told fuel p asked a b values reply.NotCallable l v h = absurd h
chain_told fuel p asked a b values (reply.BadValue g) l v h = absurd h
chain_told fuel p asked a b values reply.OverLimit l v h = (l, record { args = values.args; results = values.results; values = v.values_are; over = h })
chain_told fuel p asked a b values (reply.Page text) l v h = (l, record { args = values.args; results = values.results; values = v.values_are; fitting = h.0; tells = h.1 })
chain_told fuel p asked a b values reply.OutOfMemory l v h = tt

-- ---- the adapters of two names

module _ (fuel : ℕ) (p : FusePlan) (asked : Asked) (t : PlanTypes) (x : Pair) (paired : ArePaired p asked.first.now asked.second.now t x) where
  abbrev a : LinkedAdapter
  a = paired.first.links.linked

  abbrev b : LinkedAdapter
  b = paired.second.links.linked

  names : leads_to a b ≡ true → NamesChained (input_with p asked) a b
  names l = record { faultless = paired.first.faultless; first = paired.first.named; second = paired.second.named; leads = l }

  pub pair_replied : (r : CallReply) → IsReplyToPair fuel a b (input_with p asked) r → IsReplyToInput fuel (input_with p asked) r
  pair_replied reply.NotJson h = h
  pair_replied (reply.BadPlan g) h = h
  pair_replied (reply.Refused g) h = absurd h
  pair_replied reply.NotCallable h = record {
    faultless = paired.first.faultless;
    nowhere = apart (callable_named asked.first.now (adapters_of p)) (callable_named asked.second.now (adapters_of p)) a b paired.first.named paired.second.named h;
  }
  pair_replied (reply.BadValue f) h = (h.1, record { first = a; second = b; names = names h.0; fault = h.2 })
  pair_replied reply.OverLimit h = record {
    first = a;
    second = b;
    args = h.1.args;
    results = h.1.results;
    values = record { names = names h.0; values = h.1.values };
    over = h.1.over;
  }
  pair_replied (reply.Page text) h = record {
    has = record {
      first = a;
      second = b;
      args = h.1.args;
      results = h.1.results;
      values = record { names = names h.0; values = h.1.values };
      fitting = h.1.fitting;
    };
    tells = h.1.tells;
  }
  pair_replied reply.OutOfMemory h = tt
