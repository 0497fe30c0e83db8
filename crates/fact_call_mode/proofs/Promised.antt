-- What the module of a plan promises of the adapter of a name.
use Rattle.std.proofs.Common.{◌≡◌, ℕ, zero, suc, ◌+◌, ◌≤◌, inr, Bool, true, false, List, [], ◌∷◌, ◌++◌, Contains, Option, Some, None, cond, length, refl, sym, ap, ◌∙◌, subst, arith, slice_get}
use Rattle.std.specs.Prelude.{IsTrue, ◌&&◌, find, not}
use Rattle.std.specs.Cmp.{first_so, second_so}
use Rattle.std.specs.List.{filter_map, flat_map}
use Rattle.std.specs.Str.{bytes_eq}
use Rattle.std.proofs.lemmas.Bool.{false≢true, true≢false}
use Rattle.std.proofs.lemmas.List.{nil_from_length, take_all}
use Rattle.std.proofs.lemmas.Slice.Eq.{bytes_eq-Decides}
use Rattle.fact_wasm.specs.declared.instr.FuncName.TheVariants as func
use Rattle.fact_types.specs.Adapters.{LinkedAdapter, is_async, is_crossing}
use Rattle.fact_types.proofs.ShapeLaws.{same_some}
use Rattle.fact_check.specs.Accepted.{IsAccepted}
use Rattle.fact_check.specs.Constants.{HasTypedConstants}
use Rattle.fact_plan.specs.declared.plan.FusePlan.{FusePlan}
use Rattle.fact_plan.specs.declared.plan.PlanAdapter.{PlanAdapter}
use Rattle.fact_plan_types.specs.Faults.{Fault, import_conflict, too_large, unknown_index}
use Rattle.fact_plan_types.specs.declared.plan_types.PlanTypes.{PlanTypes}
use Rattle.fact_plan_types.proofs.HandleLaws.{there}
use Rattle.fact_adapter_rules.specs.Bindings.{AreConsistent}
use Rattle.fact_adapter_rules.specs.declared.adapter.Adapter.{Adapter}
use Rattle.fact_adapter_rules.specs.Adapters.{adapter_of, adapters_before, adapters_of}
use Rattle.fact_adapter_rules.specs.AdapterRules.{AdapterHas, HasAdapterFault, HasImportConflict, uses_of, with}
use Rattle.fact_adapter_rules.specs.FirstFault.{IsFaultlessPlan}
use Rattle.fact_adapter_rules.proofs.PlanLaws.{before-next}
use Rattle.fact_actions.specs.Adapters.{AdapterTunables, lower_signature_of}
use Rattle.fact_emit.specs.ImportSection.{Mention, NamesImports, adapter_mentions}
use Rattle.fact_emit.specs.Known.{AreUsedAlike}
use Rattle.fact_emit.proofs.Named.{named-lengths}
use Rattle.fact_function_laws.specs.Runs.{Behaves}
use Rattle.fact_assembly.specs.Sound.{HasPassed, IsSoundAdapter}
use Rattle.fact_assembly.proofs.Pairs.{stable_consistent, stable_use}
use Rattle.fact_assembly.proofs.Passed.{passed_are_sound}
use Rattle.fact_assembly.proofs.PlanPassed.{faultless_have_passed}
use Rattle.fact_assembly.proofs.Uses.{mentions_alike}
use Rattle.fact_assembly.specs.Exports.{exported_as}
use Rattle.fact_assembly.specs.Faithful.{Faithful, Promised, adapter_tunables}
use Rattle.fact_assembly.proofs.WholeExports.{all-at, in-flat}
use Rattle.fact_module.specs.declared.fusion.Fused.{Fused}
use Rattle.fact_module.specs.Fused.{IsFused, features_of, tunables_of}
use Rattle.fact_host.specs.declared.calling.HostCall.{HostCall}
use Rattle.fact_host.specs.Contract.{IsCallable}
use Rattle.fact_call_laws.specs.Carrying.{CallsAdapter, IsPromised}
use Rattle.fact_call_mode.specs.Calls.{callable_named, is_callable, without_debug}
use Rattle.fact_call_mode.specs.Replies.{IsLinkedAt, shapes_of}
use Rattle.fact_call_mode.proofs.Callable.{is_callable_on}
use Rattle.fact_call_mode.proofs.Exported.{IsExported, is_exported}
use Rattle.fact_call_mode.proofs.FoundLaws.{linked_all}
use Rattle.fact_call_mode.proofs.KnownImports.{is_checked, places_there}

-- ---- the adapter of a name is one of the adapters

-- It is at a place, has the name, goes between two instances, and is no async one.
record IsOne (adapters : List LinkedAdapter) (name : List ℕ) (a : LinkedAdapter) : Type 0 where
  place : ℕ
  at : slice_get adapters place ≡ Some a
  named : a.name ≡ name
  crosses : is_crossing a ≡ true
  sync : is_async a ≡ false

not_so : (b : Bool) → not b ≡ true → b ≡ false
not_so true e = absurd (false≢true e)
not_so false e = refl

is_one : (adapters : List LinkedAdapter) (name : List ℕ) (a : LinkedAdapter) → callable_named name adapters ≡ Some a → IsOne adapters name a
is_one [] name a e = cc
is_one (x ∷ adapters) name a e = by (bytes_eq x.name name && is_callable x) refl e (is_one adapters name a)
  where
    by : (b : Bool) → bytes_eq x.name name && is_callable x ≡ b → cond b (Some x) (callable_named name adapters) ≡ Some a → (callable_named name adapters ≡ Some a → IsOne adapters name a) → IsOne (x ∷ adapters) name a
    by true test found rest =
        let same : x ≡ a = same_some (Some x) x a refl found in
        let free = second_so (bytes_eq x.name name) (is_callable x) test in
        record {
          place = 0;
          at = found;
          named = ap (λ (y : LinkedAdapter). y.name) (sym same) ∙ (bytes_eq-Decides x.name name).0 (first_so (bytes_eq x.name name) (is_callable x) test);
          crosses = subst (λ y. is_crossing y ≡ true) same (first_so (is_crossing x) (not (is_async x)) free);
          sync = subst (λ y. is_async y ≡ false) same (not_so (is_async x) (second_so (is_crossing x) (not (is_async x)) free));
        }
    by false test found rest = let one = rest found in record { place = suc one.place; at = one.at; named = one.named; crosses = one.crosses; sync = one.sync }

-- ---- the definitions of all adapters are used alike

module _ (p : FusePlan) (faultless : IsFaultlessPlan p) (k : ℕ) (x : PlanAdapter) (at : slice_get p.adapters k ≡ Some x) where
  fault_here : (f : Fault) → AdapterHas p k x f → ⊥
  fault_here f h = faultless.adapters k f (rw at h)

  conflict_here : (a : LinkedAdapter) → adapter_of p x ≡ Some a → HasImportConflict (adapters_before p k) a → AdapterHas p k x import_conflict
  conflict_here a is h = rw is h

  -- where it is the last one
  last_consistent : length p.adapters ≤ k + 1 → AreConsistent (flat_map uses_of (adapters_of p))
  last_consistent last =
      let a = linked_all p faultless k x at in
      let before : adapters_before p (k + 1) ≡ with (adapters_before p k) a.0 = before-next p k x at a.0 a.1 (λ lacks. fault_here unknown_index lacks) (λ large. fault_here too_large large) in
      let all : adapters_before p (k + 1) ≡ adapters_of p = ap (filter_map (adapter_of p)) (take_all (k + 1) p.adapters last) in
      subst (λ xs. AreConsistent (flat_map uses_of xs)) (sym before ∙ all)
      (stable_consistent stable_use (flat_map uses_of (with (adapters_before p k) a.0)) (λ none. fault_here import_conflict (conflict_here a.0 a.1 (inr none))))

all_consistent : (p : FusePlan) → IsFaultlessPlan p → AreConsistent (flat_map uses_of (adapters_of p))
all_consistent p faultless = by (length p.adapters) refl
  where
    by : (n : ℕ) → length p.adapters ≡ n → AreConsistent (flat_map uses_of (adapters_of p))
    by zero e = subst (λ xs. AreConsistent (flat_map uses_of (filter_map (adapter_of p) xs))) (sym (nil_from_length p.adapters e)) (λ i j d below within same. absurd (omega (arith, within)))
    by (suc k) e = let (x, at) = there p.adapters k (omega (arith, e)) in last_consistent p faultless k x at (omega (arith, e))

-- ---- what is promised

module _ (fuel : ℕ) (p : FusePlan) (name : List ℕ) (t : PlanTypes) (x : Adapter) (f : Fused) (linked : IsLinkedAt p name t x) (fused : IsFused f (without_debug fuel p)) where
  abbrev pub a : LinkedAdapter
  a = linked.links.linked

  abbrev pub tunables : AdapterTunables
  tunables = adapter_tunables (tunables_of (without_debug fuel p)) (features_of (without_debug fuel p))

  -- the adapters of the plan are those of the plan that is fused
  same_adapters : adapters_of (without_debug fuel p) ≡ adapters_of p
  same_adapters = refl

  names : NamesImports f.module f.imports (adapters_of p)
  names = fused.promised.faithful.imports

  alike : AreUsedAlike (flat_map adapter_mentions (adapters_of p))
  alike = mentions_alike (adapters_of p) (all_consistent p linked.faultless)

  one : IsOne (adapters_of p) name a
  one = is_one (adapters_of p) name a linked.named

  passed : HasPassed t.builder x p.tunables.concurrency (adapters_before p linked.place) a
  passed = faultless_have_passed p t linked.place linked.adapter x linked.types linked.faultless linked.there linked.links

  sound : IsSoundAdapter a
  sound = passed_are_sound t.builder x p.tunables.concurrency (adapters_before p linked.place) a passed

  within : (r : Mention) → Contains (adapter_mentions a) r → Contains (flat_map adapter_mentions (adapters_of p)) r
  within r h = in-flat adapter_mentions (adapters_of p) one.place a r one.at h

  pub own : IsExported f.module a
  own = is_exported f.module f.imports (adapters_of p) one.place a fused.promised.faithful.exports fused.promised.typed one.at one.sync

  free : IsTrue (not (is_async a) && is_crossing a)
  free = let sync = one.sync in let crosses = one.crosses in λ k. not (sync k) && crosses k

  behaves : Behaves f.module f.imports tunables a own.function
  behaves =
      all-at (λ (b : LinkedAdapter). IsTrue (not (is_async b) && is_crossing b) → (k : ℕ) → exported_as b.name f.module.exports ≡ Some (func.Defined k) → Behaves f.module f.imports tunables b k) (adapters_of p)
      fused.promised.faithful.behaves one.place a one.at free own.function own.exported

  pub promised : HasTypedConstants f.module → IsPromised f.module f.imports tunables a (adapters_of p) own.function
  promised constants = record {
    behaves = behaves;
    no_debug = refl;
    names = names;
    checked = is_checked f.module f.imports (adapters_of p) names alike a within sound one.crosses;
    places = places_there f.module f.imports (adapters_of p) names alike a within;
    core_params = ap (λ ty. ty.params) sound.lower_core_type;
    constants = constants;
  }

  -- ---- the function of its name

  pub name_is : a.name ≡ name
  name_is = one.named

  pub is_sync : is_async a ≡ false
  is_sync = one.sync

  pub exported_here : (k : ℕ) × (exported_as name f.module.exports ≡ Some (func.Defined k))
  exported_here = (own.function, ap (λ n. exported_as n f.module.exports) (sym name_is) ∙ own.exported)

  pub even : length f.module.imports ≡ length f.imports
  even = named-lengths f.module.types _ [] f.module.imports f.imports names.named

  -- a call of the function that is exported under the name
  module _ (number : ℕ) (c : HostCall) (found : exported_as name f.module.exports ≡ Some (func.Defined number)) (calls : CallsAdapter f.module f.imports t.builder.tables c a number) where
    defined_once : (j k : ℕ) → func.Defined j ≡ func.Defined k → j ≡ k
    defined_once j k e = cc

    pub calls_own : CallsAdapter f.module f.imports t.builder.tables c a own.function
    calls_own =
        let here : exported_as name f.module.exports ≡ Some (func.Defined own.function) = ap (λ n. exported_as n f.module.exports) (sym name_is) ∙ own.exported in
        let same : number ≡ own.function = defined_once number own.function (same_some (exported_as name f.module.exports) (func.Defined number) (func.Defined own.function) found here) in
        subst (CallsAdapter f.module f.imports t.builder.tables c a) same calls

    pub callable : IsAccepted f.bytes f.module → IsCallable f.module t.builder.tables c (shapes_of a)
    callable accepted =
        is_callable_on f.module f.imports (adapters_of p) names alike a within t.builder x p.tunables.concurrency (adapters_before p linked.place) passed one.crosses t.builder.tables c own.function calls_own
        accepted.is_adapter own.typed
