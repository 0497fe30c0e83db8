-- Sides whose function types break no rule have valid types, and so have those of a plan's adapters however they are looked up.
use Rattle.std.proofs.Common.{◌≡◌, suc, List, [], ◌∷◌, refl, ap, ◌∙◌, subst, slice_get, arith, ◌⊎◌, inl, inr}
use Rattle.std.specs.Prelude.{Any}
use Rattle.std.specs.List.{AllByRecursion}
use Rattle.fact_entity.specs.declared.id.Id.{Id}
use Rattle.fact_entity.specs.declared.table.TypeFuncs.{TypeFuncs}
use Rattle.fact_types.specs.declared.interface.InterfaceType.{InterfaceType}
use Rattle.fact_types.specs.declared.kinds.TypeFunc.{TypeFunc}
use Rattle.fact_types.specs.declared.kinds.TypeTuple.{TypeTuple}
use Rattle.fact_types.specs.Adapters.{LinkedAdapter}
use Rattle.fact_types.specs.Functions.{HasSignature, HaveShapes}
use Rattle.fact_types.specs.Shapes.{Shape, s_plain, s_node, Members, no_members, bare, typed}
use Rattle.fact_types.specs.Tables.{Tables}
use Rattle.fact_types.specs.Valid.{IsValid}
use Rattle.fact_types.proofs.ShapeLaws.{one_shape, same_some}
use Rattle.fact_builder.specs.Builder.{Builder}
use Rattle.fact_plan.specs.declared.plan.FusePlan.{FusePlan}
use Rattle.fact_plan.specs.declared.plan.PlanAdapter.{PlanAdapter}
use Rattle.fact_plan_types.specs.declared.plan_types.PlanTypes.{PlanTypes}
use Rattle.fact_plan_types.specs.PlanTypes.{AreTypesOf}
use Rattle.fact_type_rules.specs.RuleLaws.{BreaksRule}
use Rattle.fact_type_rules.specs.TypeFaults.{AnyAmong, AnyIn, IsBadFunction, IsBadShape, IsLargeFunction, IsLargeShape}
use Rattle.fact_type_rules.proofs.RuleLaws.{valid_breaks_none}
use Rattle.fact_adapter_rules.specs.declared.adapter.Adapter.{Adapter}
use Rattle.fact_adapter_rules.specs.Linked.{HasSides}
use Rattle.fact_adapter_rules.specs.PlanLinks.{LinksAdapter}
use Rattle.fact_assembly.specs.Sound.{HasValidSides}
use Rattle.fact_assembly.proofs.PlanPassed.{plan_sides_are_valid}

-- ---- rules

mutual
  either_in : (s : Shape) → AnyIn BreaksRule s → AnyIn IsBadShape s ⊎ AnyIn IsLargeShape s
  either_in (s_plain p) h = h
  either_in (s_node k ms) (inl (inl bad)) = inl (inl bad)
  either_in (s_node k ms) (inl (inr large)) = inr (inl large)
  either_in (s_node k ms) (inr h) = elim (either_among ms h) [ inl bad ↦ inl (inr bad) | inr large ↦ inr (inr large) ]

  either_among : (ms : Members) → AnyAmong BreaksRule ms → AnyAmong IsBadShape ms ⊎ AnyAmong IsLargeShape ms
  either_among no_members h = absurd h
  either_among (bare n ms) h = either_among ms h
  either_among (typed n s ms) (inl h) = elim (either_in s h) [ inl bad ↦ inl (inl bad) | inr large ↦ inr (inl large) ]
  either_among (typed n s ms) (inr h) = elim (either_among ms h) [ inl bad ↦ inl (inr bad) | inr large ↦ inr (inr large) ]

-- the first of types, and a later one
first : (P : Shape → Type 0) (s : Shape) (ss : List Shape) → P s → Any P (s ∷ ss)
first P s ss h = (0, s, omega arith, refl, h)

later : (P : Shape → Type 0) (s : Shape) (ss : List Shape) → Any P ss → Any P (s ∷ ss)
later P s ss (k, x, within, is, h) = (suc k, x, omega (arith, within), is, h)

module _ (t : Tables) where
  each_valid : (tys : List InterfaceType) (ss : List Shape) → HaveShapes t tys ss → (Any (AnyIn IsBadShape) ss → ⊥) → (Any (AnyIn IsLargeShape) ss → ⊥) → AllByRecursion IsValid ss
  each_valid [] [] h bad large = tt
  each_valid [] (s ∷ ss) h bad large = absurd h
  each_valid (ty ∷ tys) [] h bad large = absurd h
  each_valid (ty ∷ tys) (s ∷ ss) h bad large = (
    (valid_breaks_none t ty s h.0).1 (λ breaks. elim (either_in s breaks) [ inl b ↦ bad (first (AnyIn IsBadShape) s ss b) | inr l ↦ large (first (AnyIn IsLargeShape) s ss l) ]),
    each_valid tys ss h.1 (λ b. bad (later (AnyIn IsBadShape) s ss b)) (λ l. large (later (AnyIn IsLargeShape) s ss l)),
  )

  -- types of a function that are neither bad nor large are valid
  pub function_valid : (ty : Id TypeFuncs) (ps rs : List Shape) (s : HasSignature t ty ps rs) → (IsBadFunction s.func.param_names ps rs → ⊥) → (IsLargeFunction s.func.param_names ps rs → ⊥)
      → AllByRecursion IsValid ps × AllByRecursion IsValid rs
  function_valid ty ps rs s bad large = (
    each_valid s.taken.types ps s.takes (λ b. bad (inr (inr (inl b)))) (λ l. large (inr (inr (inl l)))),
    each_valid s.given.types rs s.gives (λ b. bad (inr (inr (inr b)))) (λ l. large (inr (inr (inr l)))),
  )

-- so it is with both sides of an adapter
pub sides_valid : (b : Builder) (x : Adapter) (a : LinkedAdapter) (h : HasSides b x a)
    → (IsBadFunction h.lift.signature.func.param_names a.lift.params a.lift.results → ⊥) → (IsLargeFunction h.lift.signature.func.param_names a.lift.params a.lift.results → ⊥)
    → (IsBadFunction h.lower.signature.func.param_names a.lower.params a.lower.results → ⊥) → (IsLargeFunction h.lower.signature.func.param_names a.lower.params a.lower.results → ⊥)
    → HasValidSides a
sides_valid b x a h lift_bad lift_large lower_bad lower_large =
    let lift = function_valid b.tables x.lift_ty a.lift.params a.lift.results h.lift.signature lift_bad lift_large in
    let lower = function_valid b.tables x.lower_ty a.lower.params a.lower.results h.lower.signature lower_bad lower_large in
    record { lower_params = lower.0; lower_results = lower.1; lift_params = lift.0; lift_results = lift.1 }

-- ---- one function type has one signature

module _ (t : Tables) where
  same_shapes : (tys : List InterfaceType) (ss zs : List Shape) → HaveShapes t tys ss → HaveShapes t tys zs → ss ≡ zs
  same_shapes [] [] [] h g = refl
  same_shapes [] [] (z ∷ zs) h g = absurd g
  same_shapes [] (s ∷ ss) zs h g = absurd h
  same_shapes (ty ∷ tys) [] zs h g = absurd h
  same_shapes (ty ∷ tys) (s ∷ ss) [] h g = absurd g
  same_shapes (ty ∷ tys) (s ∷ ss) (z ∷ zs) h g = λ k. one_shape t s z ty h.0 g.0 k ∷ same_shapes tys ss zs h.1 g.1 k

  pub same_signature : (ty : Id TypeFuncs) (ps rs qs us : List Shape) → HasSignature t ty ps rs → HasSignature t ty qs us → (ps ≡ qs) × (rs ≡ us)
  same_signature ty ps rs qs us h g =
      let f : h.func ≡ g.func = same_some (slice_get t.functions ty.number) h.func g.func h.func_there g.func_there in
      let ins : h.taken ≡ g.taken = same_some (slice_get t.tuples h.func.params.number) h.taken g.taken h.taken_there (ap (λ (c : TypeFunc). slice_get t.tuples c.params.number) f ∙ g.taken_there) in
      let outs : h.given ≡ g.given = same_some (slice_get t.tuples h.func.results.number) h.given g.given h.given_there (ap (λ (c : TypeFunc). slice_get t.tuples c.results.number) f ∙ g.given_there) in (
        same_shapes g.taken.types ps qs (subst (λ (c : TypeTuple). HaveShapes t c.types ps) ins h.takes) g.takes,
        same_shapes g.given.types rs us (subst (λ (c : TypeTuple). HaveShapes t c.types rs) outs h.gives) g.gives,
      )

-- An adapter of a plan has valid types, however what it names is looked up in the builder.
pub looked_up_valid : (p : FusePlan) (t : PlanTypes) (x : PlanAdapter) (y : Adapter) (a : LinkedAdapter) → AreTypesOf p t → LinksAdapter p t.builder x y → HasSides t.builder y a → HasValidSides a
looked_up_valid p t x y a types links h =
    let valid = plan_sides_are_valid p t x links.linked types links.is_adapter in
    let lift = same_signature t.builder.tables y.lift_ty links.linked.lift.params links.linked.lift.results a.lift.params a.lift.results links.stands.lift.signature h.lift.signature in
    let lower = same_signature t.builder.tables y.lower_ty links.linked.lower.params links.linked.lower.results a.lower.params a.lower.results links.stands.lower.signature h.lower.signature in
    record {
      lower_params = subst (AllByRecursion IsValid) lower.0 valid.lower_params;
      lower_results = subst (AllByRecursion IsValid) lower.1 valid.lower_results;
      lift_params = subst (AllByRecursion IsValid) lift.0 valid.lift_params;
      lift_results = subst (AllByRecursion IsValid) lift.1 valid.lift_results;
    }
