-- The adapters of a plan, taken one after another.
use Rattle.std.proofs.Common.{◌≡◌, ℕ, suc, ◌+◌, ◌<◌, ◌≤◌, true, List, [], ◌∷◌, Option, None, Some, refl, sym, ap, ◌∙◌, subst, arith, length, length-append, slice_get, take_all, inl, inr}
use Rattle.std.specs.Prelude.{Err, Ok, OnOk, Result}
use Rattle.std.specs.List.{cons_option, filter_map}
use Rattle.std.proofs.lemmas.Bool.{cases_lt}
use Rattle.std.proofs.lemmas.Option.{slice_get_within}
use Rattle.fact_wasm.specs.Ranges.{InRange}
use Rattle.fact_binary.specs.Spelling.{Spells}
use Rattle.fact_wasm.specs.declared.module.WasmModule.{WasmModule}
use Rattle.fact_types.specs.Adapters.{LinkedAdapter}
use Rattle.fact_types.specs.declared.import.Import.{Import}
use Rattle.fact_builder.specs.Builder.{Builder}
use Rattle.fact_plan.specs.declared.plan.FusePlan.{FusePlan}
use Rattle.fact_plan.specs.declared.plan.PlanAdapter.{PlanAdapter}
use Rattle.fact_plan_types.specs.declared.plan_types.PlanTypes.{PlanTypes}
use Rattle.fact_plan_types.specs.PlanTypes.{HasFaultlessTypes, AreTypesOf}
use Rattle.fact_plan_types.specs.Faults.{Fault, too_large}
use Rattle.fact_plan_types.specs.TypeRules.{most_entries}
use Rattle.fact_plan_types.specs.declared.error.Place.{Place}
use Rattle.fact_plan_types.specs.declared.error.Place.TheVariants.{Adapter as at_adapter}
use Rattle.fact_adapter_rules.specs.declared.sides.Candidate.{Candidate}
use Rattle.fact_adapter_rules.specs.Adapters.{adapter_of, adapters_before, adapters_of}
use Rattle.fact_adapter_rules.specs.AdapterRules.{AdapterHas, AdapterLacks, HasAdapterFault, LinkedHas}
use Rattle.fact_adapter_rules.specs.FirstFault.{IsFaultlessPlan, IsFirstAt}
use Rattle.fact_adapter_rules.specs.Linked.{HasSides, IsLinked, NamesTypesOf}
use Rattle.fact_adapter_rules.specs.PlanLinks.{IsFirstHere, LinksAdapter}
use Rattle.fact_adapter_rules.proofs.LinkLaws.{sides-typed, some_and}
use Rattle.fact_adapter_rules.proofs.PlanLaws.{before-next, first-linked, none-here}
use Rattle.fact_assembly.specs.Sound.{HasValidSides}
use Rattle.fact_assembly.proofs.RulesValid.{looked_up_valid}
use Rattle.fact_types.specs.Tables.{Tables}
use Rattle.fact_plan_types.proofs.HandleLaws.{there as get-within}
use Rattle.fact_emit.specs.declared.tunables.Tunables.{Tunables}
use Rattle.fact_emit.specs.declared.tunables.WasmFeatures.{WasmFeatures}
use Rattle.fact_emit.proofs.ImportLaws.{grown_get}
use Rattle.fact_emit.proofs.ImportLists.{get-last}
use Rattle.fact_compound.specs.Entries.{tuple_of_results}
use Rattle.fact_assembly.specs.declared.taken.TakenAdapter.{TakenAdapter}
use Rattle.fact_assembly.specs.Collected.{AreTaken, Collected, HasTaken, IsTakenAs, KeepsSettings, result_tuple_of, taken_of}
use Rattle.fact_assembly.specs.Taking.{IsFirstBehind, IsSoundBehind}
use Rattle.fact_function_laws.specs.AsyncRuns.{HandsOver}
use Rattle.fact_assembly.specs.Faithful.{Promised}
use Rattle.fact_module.specs.declared.fusion.Fused.{Fused}
use Rattle.fact_module.specs.Fused.{IsFused, features_of, result_tuple, tunables_of}
use Rattle.fact_module.specs.Fusing.{HasTakenAll, HasTakenTo, IsFor}
use Rattle.fact_assembly.proofs.TakeLaws.{is-taken, zip-push}

-- ---- the numbers of result tuples

module _ (old new : Collected) (t : TakenAdapter) (keeps : KeepsSettings old new) (has : HasTaken old new t) where
  tuple_in : Tables → Option TakenAdapter → ℕ
  tuple_in tables found = elim found [ None ↦ 0 | Some t ↦ tuple_of_results tables t.adapter.lift_ty ]

  -- those of the adapters that were taken before stay
  pub earlier-tuple : (j : ℕ) → j < length old.taken → result_tuple_of new j ≡ result_tuple_of old j
  unfolding tuple_in
  earlier-tuple j within =
      let (x, at) = get-within old.taken j within in
      rw (keeps.builder, has.taken) (ap (tuple_in old.builder.tables) (grown_get (record { more = t ∷ []; is = refl }) j x at ∙ sym at))

  -- and the last one has that of its lift side's function type
  pub last-tuple : result_tuple_of new (length old.taken) ≡ tuple_of_results old.builder.tables t.adapter.lift_ty
  unfolding tuple_in
  last-tuple = rw (keeps.builder, has.taken) (ap (tuple_in old.builder.tables) (get-last old.taken t))

-- ---- one adapter more

module _ (p : FusePlan) (b : Builder) (old : Collected) (k : ℕ) (x : PlanAdapter) (c : Candidate) (at : HasTakenTo p b old k) (there : slice_get p.adapters k ≡ Some x)
    (links : LinksAdapter p b x c.adapter.now) (name : c.name.now ≡ x.name) (mark : c.transparent ≡ x.transparent) (known : AdapterLacks p x → ⊥) (small : AdapterHas p k x too_large → ⊥) where
  concurrency : old.tunables.concurrency_support ≡ p.tunables.concurrency
  concurrency = ap (λ t. t.concurrency_support) at.is_for.tunables

  is_linked : IsLinked old.builder c links.linked
  is_linked = record {
    sides = subst (λ (d : Builder). HasSides d c.adapter.now links.linked) (sym at.is_for.builder) links.stands;
    name = links.name ∙ sym name;
    transparent = links.transparent ∙ sym mark;
  }

  pub typed-here : NamesTypesOf old.builder c.adapter.now
  typed-here = sides-typed _ _ links.linked is_linked.sides

  -- its types are valid, as all types of the plan are
  pub valid-here : (t : PlanTypes) → AreTypesOf p t → b ≡ t.builder → (a : LinkedAdapter) → IsLinked old.builder c a → HasValidSides a
  valid-here t types same a h =
      looked_up_valid p t x c.adapter.now a types (subst (λ (d : Builder). LinksAdapter p d x c.adapter.now) same links)
      (subst (λ (d : Builder). HasSides d c.adapter.now a) (at.is_for.builder ∙ same) h.sides)

  none-has : IsSoundBehind old c → (f : Fault) → LinkedHas p.tunables.concurrency (adapters_before p k) links.linked f → ⊥
  none-has sound f has = sound (adapters_before p k) links.linked at.taken is_linked f (subst (λ on. LinkedHas on (adapters_before p k) links.linked f) (sym concurrency) has)

  -- the numbers of result tuples, and that of this adapter
  tuples-next : (new : Collected) → KeepsSettings old new → HasTaken old new (taken_of c) → tuple_of_results b.tables c.adapter.now.lift_ty ≡ result_tuple p k → (j : ℕ) → j < k + 1 → result_tuple_of new j ≡ result_tuple p j
  tuples-next new keeps has tuple j below = elim (cases_lt j k) [
    | inl less ↦ earlier-tuple old new (taken_of c) keeps has j (omega (arith, less, at.count)) ∙ at.tuples j less
    | inr more ↦ subst (λ i. result_tuple_of new i ≡ result_tuple p i) (omega (arith, below, more)) here
  ]
    where
      here : result_tuple_of new k ≡ result_tuple p k
      here =
          subst (λ i. result_tuple_of new i ≡ tuple_of_results old.builder.tables c.adapter.now.lift_ty) at.count (last-tuple old new (taken_of c) keeps has)
          ∙ ap (λ (d : Builder). tuple_of_results d.tables c.adapter.now.lift_ty) at.is_for.builder ∙ tuple

  pub taken-next : (new : Collected) → KeepsSettings old new → HasTaken old new (taken_of c) → tuple_of_results b.tables c.adapter.now.lift_ty ≡ result_tuple p k → IsSoundBehind old c → HasTakenTo p b new (k + 1)
  taken-next new keeps has tuple sound =
      let near : most_entries ≤ k → ⊥ = λ far. small (inl far) in
      record {
        is_for = record {
          builder = keeps.builder ∙ at.is_for.builder;
          tunables = keeps.tunables ∙ at.is_for.tunables;
          features = keeps.features ∙ at.is_for.features;
        };
        whole = has.whole;
        tuples = tuples-next new keeps has tuple;
        count = ap length has.taken ∙ length-append old.taken (taken_of c ∷ []) ∙ ap (λ n. n + 1) at.count;
        taken = rw (before-next p k x there links.linked links.is_adapter known small, keeps.builder, has.taken)
            (zip-push (IsTakenAs old.builder) old.taken (adapters_before p k) (taken_of c) links.linked at.taken (is-taken old.builder c links.linked is_linked));
        sound = λ j f below h.
            elim (cases_lt j k) [
              | inl less ↦ at.sound j f less h
              | inr more ↦ none-here p k x there links.linked links.is_adapter known small (none-has sound) f (subst (λ i. HasAdapterFault p i f) (omega (arith, below, more)) h)
            ];
        few = omega (arith, near);
      }

  pub refused-next : (f : Fault) (place : Place) → IsFirstBehind old c f → place ≡ at_adapter k → IsFirstHere p k f place
  refused-next f place first here =
      let told = first (adapters_before p k) links.linked at.taken is_linked in
      first-linked p k x there links.linked links.is_adapter known small f place here
      (subst (λ on. LinkedHas on (adapters_before p k) links.linked f) concurrency told.0)
      (λ g less has. told.1 g less (subst (λ on. LinkedHas on (adapters_before p k) links.linked g) (sym concurrency) has))

-- two facts of an answer
pub on-both : {T E A B C : Type 0} (r : Result T E) → (A → B → C) → OnOk r A → OnOk r B → OnOk r C
on-both (Ok x) f a b = f a b
on-both (Err e) f a b = tt

-- ---- all adapters

-- none was taken yet
pub taken-first : (p : FusePlan) (b : Builder) (c : Collected) → IsFor p b c → c.whole ≡ true → c.taken ≡ [] → HasTakenTo p b c 0
taken-first p b c is_for whole none = record { is_for = is_for; whole = whole; taken = rw none tt; count = ap length none; tuples = λ j below. absurd (omega (arith, below)); sound = λ j f below h. absurd (omega (arith, below)); few = omega arith }

-- the first fault at a place is the plan's, where none was before
pub first-taken : (p : FusePlan) (b : Builder) (c : Collected) (k : ℕ) (f : Fault) (place : Place) → HasFaultlessTypes p → HasTakenTo p b c k → IsFirstHere p k f place → IsFirstAt p f place
first-taken p b c k f place types at first =
    subst (IsFirstAt p f) (sym first.is_here) (types, record { has = first.has; no_rule_before = first.no_rule_before; no_entry_before = λ j g below h. at.sound j g below h })

-- no place is left
pub none-faulty : (p : FusePlan) (b : Builder) (c : Collected) (k : ℕ) → HasFaultlessTypes p → HasTakenTo p b c k → length p.adapters ≤ k → IsFaultlessPlan p
none-faulty p b c k types at end = record {
  types = types;
  adapters = λ j f h.
      let found = some_and (slice_get p.adapters j) (λ a. AdapterHas p j a f) h in
      let within : j < length p.adapters = slice_get_within p.adapters j found.0 found.1 in
      at.sound j f (omega (arith, within, end)) h;
}

pub all-taken : (p : FusePlan) (b : Builder) (c : Collected) (k : ℕ) → HasTakenTo p b c k → length p.adapters ≤ k → HasTakenAll p c
all-taken p b c k at end = record {
  whole = at.whole;
  tunables = at.is_for.tunables;
  features = at.is_for.features;
  taken = subst (λ (xs : List PlanAdapter). AreTaken c (filter_map (adapter_of p) xs)) (take_all k p.adapters end) at.taken;
  tuples = λ j within. at.tuples j (omega (arith, within, end));
}

-- ---- what the module of all promises

-- The promise hangs on the numbers of the result tuples of these adapters alone.
promised-by : (m : WasmModule) (is : List Import) (t : Tunables) (f : WasmFeatures) (adapters : List LinkedAdapter) (numbers tuples : ℕ → ℕ) → ((j : ℕ) → j < length adapters → numbers j ≡ tuples j)
    → Promised m is t f adapters numbers → Promised m is t f adapters tuples
promised-by m is t f adapters numbers tuples same h = record {
  faithful = record {
    imports = h.faithful.imports;
    exports = h.faithful.exports;
    behaves = h.faithful.behaves;
    traps = h.faithful.traps;
    transfers = h.faithful.transfers;
    hands_over = λ place a start return callee k at awaited start_as return_as callee_as own_as.
        subst (λ n. HandsOver m is a (record { start = start; return = return; callee = callee; results = n }) k) (same place (slice_get_within adapters place a at))
        (h.faithful.hands_over place a start return callee k at awaited start_as return_as callee_as own_as);
  };
  order = h.order;
  outlined = h.outlined;
  typed = h.typed;
}

chosen-few : {X Y : Type 0} (f : X → Option Y) (xs : List X) → length (filter_map f xs) ≤ length xs
chosen-few f [] = omega arith
chosen-few {Y = Y} f (x ∷ xs) = by (f x) (chosen-few f xs)
  where
    by : (o : Option Y) → length (filter_map f xs) ≤ length xs → length (cons_option o (filter_map f xs)) ≤ suc (length xs)
    by None h = omega (arith, h)
    by (Some y) h = omega (arith, h)

-- A module that took all adapters of a plan promises what that of the plan does.
promised-all : (p : FusePlan) (c : Collected) (m : WasmModule) → HasTakenAll p c → ((adapters : List LinkedAdapter) → AreTaken c adapters → Promised m c.imports c.tunables c.features adapters (result_tuple_of c))
    → Promised m c.imports (tunables_of p) (features_of p) (adapters_of p) (result_tuple p)
promised-all p c m all promised =
    let few = chosen-few (adapter_of p) p.adapters in
    promised-by m c.imports (tunables_of p) (features_of p) (adapters_of p) (result_tuple_of c) (result_tuple p) (λ j below. all.tuples j (omega (arith, below, few)))
    (subst (λ t. Promised m c.imports t (features_of p) (adapters_of p) (result_tuple_of c)) all.tunables
    (subst (λ f. Promised m c.imports c.tunables f (adapters_of p) (result_tuple_of c)) all.features (promised (adapters_of p) all.taken)))

-- What was spelled of it is the fused module of the plan.
pub fused-all : (p : FusePlan) (c : Collected) (f : Fused) (m : WasmModule) (is : List Import) → HasTakenAll p c → (f.module ≡ m) × (f.imports ≡ is) × Spells f.bytes m → (m ≡ c.tree) × (is ≡ c.imports) → InRange m
    → ((adapters : List LinkedAdapter) → AreTaken c adapters → Promised m c.imports c.tunables c.features adapters (result_tuple_of c)) → IsFused f p
fused-all p c f m is all same parts in_range promised = record {
  in_range = subst InRange (sym same.0) in_range;
  spelled = subst (Spells f.bytes) (sym same.0) same.2;
  promised =
      subst (λ x. Promised x f.imports (tunables_of p) (features_of p) (adapters_of p) (result_tuple p)) (sym same.0)
      (subst (λ x. Promised m x (tunables_of p) (features_of p) (adapters_of p) (result_tuple p)) (sym (same.1 ∙ parts.1)) (promised-all p c m all promised));
}
