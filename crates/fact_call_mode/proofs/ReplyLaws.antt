-- Replies to a call, by what is known at each step.
use Rattle.std.proofs.Common.{◌≡◌, ℕ, ◌≤◌, inl, inr, Bool, false, List, Some, Result, Ok, length, sym, ap, ◌∙◌, arith, slice_get}
use Rattle.serde_json.specs.Data.{Data}
use Rattle.serde_json.specs.declared.value.Value.{Value as json_value}
use Rattle.fact_types.specs.Adapters.{LinkedAdapter}
use Rattle.fact_types.proofs.ShapeLaws.{same_some}
use Rattle.fact_plan.specs.declared.fault.PlanFault.{PlanFault}
use Rattle.fact_plan.specs.declared.plan.FusePlan.{FusePlan}
use Rattle.fact_plan.specs.declared.plan.PlanAdapter.{PlanAdapter}
use Rattle.fact_plan.specs.Reading.{value_in}
use Rattle.fact_plan.specs.Inputs.{HoldsInput, limit}
use Rattle.fact_plan_types.specs.Faults.{too_large}
use Rattle.fact_plan_types.specs.PlanTypes.{AreTypesOf}
use Rattle.fact_plan_types.specs.TypeRules.{most_entries}
use Rattle.fact_plan_types.specs.declared.plan_types.PlanTypes.{PlanTypes}
use Rattle.fact_adapter_rules.specs.declared.adapter.Adapter.{Adapter}
use Rattle.fact_adapter_rules.specs.Adapters.{adapter_of}
use Rattle.fact_adapter_rules.specs.FirstFault.{IsFaultlessPlan}
use Rattle.fact_adapter_rules.specs.PlanLinks.{LinksAdapter}
use Rattle.fact_values.specs.declared.value.Value.{Value}
use Rattle.fact_call_mode.specs.declared.reply.CallReply.{CallReply}
use Rattle.fact_call_mode.specs.declared.reply.CallReply.TheVariants as reply
use Rattle.fact_call_mode.specs.declared.values.Values.{Values}
use Rattle.fact_call_mode.specs.Calls.{AreFitting, NamesCallable}
use Rattle.fact_call_mode.specs.Inputs.{CallInput}
use Rattle.fact_call_mode.specs.Replies.{HasBadValues, IsAtPlace, IsLinkedAt, IsReplyOver, IsReplyToAdapter, IsReplyToBytes, IsReplyToData, IsReplyToInput, IsReplyToRead, IsReplyToValues, IsToldCall, input_with}

-- ---- values

-- arguments with a fault, and then results
pub bad_args : (read_args read_results : Result (List Value) PlanFault) (over : Type 0) (r : CallReply) → HasBadValues read_args r → IsReplyToRead read_args read_results over r
bad_args x y over reply.NotJson h = h
bad_args x y over (reply.BadPlan g) h = h
bad_args x y over (reply.Refused e) h = h
bad_args x y over reply.NotCallable h = h
bad_args x y over (reply.BadValue f) h = (h.0, inl h.1)
bad_args x y over reply.OverLimit h = absurd h
bad_args x y over (reply.Page text) h = h
bad_args x y over reply.OutOfMemory h = tt

pub bad_results : (read_args read_results : Result (List Value) PlanFault) (over : Type 0) (args : List Value) (r : CallReply) → read_args ≡ Ok args → HasBadValues read_results r → IsReplyToRead read_args read_results over r
bad_results x y over args reply.NotJson is h = h
bad_results x y over args (reply.BadPlan g) is h = h
bad_results x y over args (reply.Refused e) is h = h
bad_results x y over args reply.NotCallable is h = h
bad_results x y over args (reply.BadValue f) is h = (h.0, inr (args, is, h.1))
bad_results x y over args reply.OverLimit is h = absurd h
bad_results x y over args (reply.Page text) is h = h
bad_results x y over args reply.OutOfMemory is h = tt

-- values that do not fit
pub not_fitting : (read_args read_results : Result (List Value) PlanFault) (over : Type 0) (fit : Bool) (r : CallReply) → (fit ≡ false → over) → IsReplyOver fit r → IsReplyToRead read_args read_results over r
not_fitting x y over fit reply.NotJson so h = h
not_fitting x y over fit (reply.BadPlan g) so h = h
not_fitting x y over fit (reply.Refused e) so h = h
not_fitting x y over fit reply.NotCallable so h = h
not_fitting x y over fit (reply.BadValue f) so h = absurd h
not_fitting x y over fit reply.OverLimit so h = so h
not_fitting x y over fit (reply.Page text) so h = h
not_fitting x y over fit reply.OutOfMemory so h = tt

-- ---- an adapter

pub values_refused : (fuel : ℕ) (a : LinkedAdapter) (i : CallInput) (r : CallReply) → IsReplyToValues a i r → IsReplyToAdapter fuel a i r
values_refused fuel a i reply.NotJson h = h
values_refused fuel a i (reply.BadPlan g) h = h
values_refused fuel a i (reply.Refused g) h = h
values_refused fuel a i reply.NotCallable h = h
values_refused fuel a i (reply.BadValue f) h = h
values_refused fuel a i reply.OverLimit h = h
values_refused fuel a i (reply.Page text) h = absurd h
values_refused fuel a i reply.OutOfMemory h = tt

pub call_told : (fuel : ℕ) (p : FusePlan) (args results : json_value) (a : LinkedAdapter) (values : Values) (r : CallReply) → AreFitting a (input_with p args results) values.args values.results → IsToldCall fuel p a values r
    → IsReplyToAdapter fuel a (input_with p args results) r
call_told fuel p args results a values reply.NotJson f h = h
call_told fuel p args results a values (reply.BadPlan g) f h = h
call_told fuel p args results a values (reply.Refused g) f h = h
call_told fuel p args results a values reply.NotCallable f h = h
call_told fuel p args results a values (reply.BadValue g) f h = absurd h
call_told fuel p args results a values reply.OverLimit f h = absurd h
call_told fuel p args results a values (reply.Page text) f h = record { args = values.args; results = values.results; fitting = f; tells = h }
call_told fuel p args results a values reply.OutOfMemory f h = tt

-- ---- the adapter at a place

-- it is one that is called
pub linked_at : (p : FusePlan) (name : List ℕ) (t : PlanTypes) (place : ℕ) (y : PlanAdapter) (x : Adapter) → IsFaultlessPlan p → AreTypesOf p t → (at : IsAtPlace p name place) → slice_get p.adapters place ≡ Some y → LinksAdapter p t.builder y x
    → IsLinkedAt p name t x
linked_at p name t place y x faultless types at there links =
    let same : at.adapter ≡ y = same_some (slice_get p.adapters place) at.adapter y at.there there in
    record {
      faultless = faultless;
      types = types;
      place = place;
      adapter = y;
      there = there;
      links = links;
      named = at.named ∙ sym at.is_linked ∙ ap (adapter_of p) same ∙ links.is_adapter;
    }

pub few_before : (p : FusePlan) (name : List ℕ) (place : ℕ) → IsFaultlessPlan p → (at : IsAtPlace p name place) → place ≤ most_entries
few_before p name place faultless at =
    let there = at.there in
    let near : most_entries ≤ place → ⊥ = λ far. faultless.adapters place too_large (rw there (inl far)) in
    omega arith

pub adapter_replied : (fuel : ℕ) (name : List ℕ) (i : CallInput) (a : LinkedAdapter) (r : CallReply) → NamesCallable name i a → IsReplyToAdapter fuel a i r → IsReplyToInput fuel name i r
adapter_replied fuel name i a reply.NotJson c h = h
adapter_replied fuel name i a (reply.BadPlan g) c h = h
adapter_replied fuel name i a (reply.Refused g) c h = absurd h
adapter_replied fuel name i a reply.NotCallable c h = absurd h
adapter_replied fuel name i a (reply.BadValue f) c h = (h.0, record { adapter = a; callable = c; faulty = h.1 })
adapter_replied fuel name i a reply.OverLimit c h = record { adapter = a; callable = c; over = h }
adapter_replied fuel name i a (reply.Page text) c h = record {
  called = record { adapter = a; callable = c; args = h.args; results = h.results; fitting = h.fitting };
  tells = h.tells;
}
adapter_replied fuel name i a reply.OutOfMemory c h = tt

-- ---- bytes

holds : {I : Type 0} (read : Data → Result I PlanFault) (bytes : List ℕ) (d : Data) (i : I) → length bytes ≤ limit → value_in bytes ≡ Some d → read d ≡ Ok i → HoldsInput read bytes i
holds read bytes d i within json is = record { within = within; value = d; is_json = json; is_input = is }

-- what bytes come to whose JSON value comes to a reply, in each mode
pub value_replied : {I : Type 0} (read : Data → Result I PlanFault) (comes : I → CallReply → Type 0) (bytes : List ℕ) (d : Data) (r : CallReply) → length bytes ≤ limit → value_in bytes ≡ Some d
    → IsReplyToData read comes d r → IsReplyToBytes read comes bytes r
value_replied read comes bytes d reply.NotJson within json h = absurd h
value_replied read comes bytes d (reply.BadPlan f) within json h = (h.0, record { within = within; value = d; is_json = json; is_fault = h.1 })
value_replied read comes bytes d (reply.Refused e) within json h = record { input = h.0; holds = holds read bytes d h.0 within json h.1; is_so = h.2 }
value_replied read comes bytes d reply.NotCallable within json h = record { input = h.0; holds = holds read bytes d h.0 within json h.1; is_so = h.2 }
value_replied read comes bytes d (reply.BadValue f) within json h = record { input = h.0; holds = holds read bytes d h.0 within json h.1; is_so = h.2 }
value_replied read comes bytes d reply.OverLimit within json h = record { input = h.0; holds = holds read bytes d h.0 within json h.1; is_so = h.2 }
value_replied read comes bytes d (reply.Page text) within json h = record { input = h.0; holds = holds read bytes d h.0 within json h.1; is_so = h.2 }
value_replied read comes bytes d reply.OutOfMemory within json h = tt
