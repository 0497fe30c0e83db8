-- A chain of two adapters carries as one adapter from the first caller to the last callee would, and has no error but want of memory, where its values
-- fit on each of their ways.
use Rattle.std.proofs.Common.{◌≡◌, ◌⊎◌, inl, inr, ℕ, ◌+◌, ◌≤◌, Bool, true, false, List, Option, Some, None, refl, sym, ap, ◌∙◌, subst, arith}
use Rattle.std.proofs.lemmas.Bool.{true≢false}
use Rattle.fact_wasm.specs.declared.module.WasmModule.{WasmModule}
use Rattle.fact_types.specs.declared.import.Import.{Import}
use Rattle.fact_types.specs.Adapters.{LinkedAdapter}
use Rattle.fact_types.specs.Agrees.{AgreesPlaces}
use Rattle.fact_types.specs.Functions.{HaveShapes}
use Rattle.fact_types.specs.Shapes.{Shape}
use Rattle.fact_types.specs.Tables.{Tables}
use Rattle.fact_types.specs.Tuples.{tuple_members}
use Rattle.fact_types.proofs.ShapeLaws.{none_some, same_some}
use Rattle.fact_values.specs.declared.value.Value.{Value}
use Rattle.fact_values.specs.Formed.{AreFormed}
use Rattle.fact_actions.specs.Adapters.{AdapterTunables}
use Rattle.fact_action_laws.specs.FaithfulLaws.{AreWellFormedTypes}
use Rattle.fact_lowering.specs.Room.{fits}
use Rattle.fact_host.specs.declared.callee.HostError.{HostError}
use Rattle.fact_host.specs.declared.callee.HostError.TheVariants.{OutOfMemory, Unsuited, OverLimit, NoResults}
use Rattle.fact_host.specs.declared.calling.HostCall.{HostCall}
use Rattle.fact_host.specs.declared.calling.HostOutcome.{HostOutcome}
use Rattle.fact_host.specs.Callees.{number_of_error}
use Rattle.fact_host.specs.Called.{called_params, called_results, carried_from, handle_count}
use Rattle.fact_host.specs.Contract.{AnsweredTooMuch, AnsweredUnsuited, AreOfTypes, AreSuited, IsCallable, IsHostCause, IsOutcomeOf, IsReached, IsReachedBy}
use Rattle.fact_host.specs.Rules.{CallShapes}
use Rattle.fact_chain.specs.declared.chaining.Chained.{Chained}
use Rattle.fact_chain.specs.Between.{AreJoined, HasPassedOn, IsNumberBy, IsSecondOutcome, passed_results}
use Rattle.fact_chain.specs.Chained.{IsChainCause, IsChained, IsInner}
use Rattle.fact_call_laws.specs.Carrying.{CallsAdapter, CallHasCarried, HostsAsk, HostsCarry, IsPromised}
use Rattle.fact_call_laws.proofs.Setting.{one_shapes}
use Rattle.fact_chain_laws.specs.Chains.{FitBothWays, HasChained, HasComeTo, IsOverOneWay, passed_back, passed_on}
use Rattle.fact_chain_laws.proofs.Lists.{carried_through, count_few, fitting_weight, lists_carried, types_carried, types_formed}
use Rattle.fact_chain_laws.proofs.Reaching.{given_carried}

-- what the second call was given, and its outcome
pub record HasSecondOutcome (m : WasmModule) (t : Tables) (second : HostCall) (results : List Value) (c : Chained) (inner : HostOutcome) : Type 0 where
  pub params : List Value
  pub given : c.outer.params ≡ Some params
  pub passed : IsSecondOutcome m t second params results inner

module _ (m : WasmModule) (is : List Import) (u : AdapterTunables) (adapters : List LinkedAdapter) (a b : LinkedAdapter) (f g : ℕ) (t : Tables) (first second : HostCall) (s z : CallShapes) (args results : List Value)
    (promised_a : IsPromised m is u a adapters f) (promised_b : IsPromised m is u b adapters g) (calls_a : CallsAdapter m is t first a f) (calls_b : CallsAdapter m is t second b g) (callable_a : IsCallable m t first s) (callable_b : IsCallable m t second z)
    (joined : AreJoined first second) (args_are : AreOfTypes s.lower_params args) (results_are : AreOfTypes z.lift_results results) (carry : HostsCarry) (ask : HostsAsk) where
  -- ---- types

  params_same : s.lift_params ≡ z.lower_params
  params_same = one_shapes t second.lower.params s.lift_params z.lower_params (subst (λ tys. HaveShapes t tys s.lift_params) joined.params callable_a.shapes.lift_params) callable_b.shapes.lower_params

  results_same : s.lift_results ≡ z.lower_results
  results_same = one_shapes t second.lower.results s.lift_results z.lower_results (subst (λ tys. HaveShapes t tys s.lift_results) joined.results callable_a.shapes.lift_results) callable_b.shapes.lower_results

  -- the checks of plans have looked at the types of both adapters
  given_checked : AreWellFormedTypes s.lower_params
  given_checked = subst AreWellFormedTypes (one_shapes t first.lower.params a.lower.params s.lower_params calls_a.lower.params callable_a.shapes.lower_params) promised_a.checked.lower_params

  given_on_checked : AreWellFormedTypes s.lift_params
  given_on_checked = subst AreWellFormedTypes (one_shapes t first.lift.params a.lift.params s.lift_params calls_a.lift.params callable_a.shapes.lift_params) promised_a.checked.lift_params

  answered_checked : AreWellFormedTypes s.lift_results
  answered_checked = subst AreWellFormedTypes (one_shapes t first.lift.results a.lift.results s.lift_results calls_a.lift.results callable_a.shapes.lift_results) promised_a.checked.lift_results

  got_checked : AreWellFormedTypes s.lower_results
  got_checked = subst AreWellFormedTypes (one_shapes t first.lower.results a.lower.results s.lower_results calls_a.lower.results callable_a.shapes.lower_results) promised_a.checked.lower_results

  lower_params_checked : AreWellFormedTypes z.lower_params
  lower_params_checked = subst AreWellFormedTypes (one_shapes t second.lower.params b.lower.params z.lower_params calls_b.lower.params callable_b.shapes.lower_params) promised_b.checked.lower_params

  lift_params_checked : AreWellFormedTypes z.lift_params
  lift_params_checked = subst AreWellFormedTypes (one_shapes t second.lift.params b.lift.params z.lift_params calls_b.lift.params callable_b.shapes.lift_params) promised_b.checked.lift_params

  lift_results_checked : AreWellFormedTypes z.lift_results
  lift_results_checked = subst AreWellFormedTypes (one_shapes t second.lift.results b.lift.results z.lift_results calls_b.lift.results callable_b.shapes.lift_results) promised_b.checked.lift_results

  lower_results_checked : AreWellFormedTypes z.lower_results
  lower_results_checked = subst AreWellFormedTypes (one_shapes t second.lower.results b.lower.results z.lower_results calls_b.lower.results callable_b.shapes.lower_results) promised_b.checked.lower_results

  -- formed shapes of the first call
  given_formed : AreFormed (tuple_members s.lower_params)
  given_formed = types_formed t first.lower.params s.lower_params 0 callable_a.shapes.lower_params

  given_on_formed : AreFormed (tuple_members s.lift_params)
  given_on_formed = types_formed t first.lift.params s.lift_params 0 callable_a.shapes.lift_params

  answered_formed : AreFormed (tuple_members s.lift_results)
  answered_formed = types_formed t first.lift.results s.lift_results 0 callable_a.shapes.lift_results

  got_formed : AreFormed (tuple_members s.lower_results)
  got_formed = types_formed t first.lower.results s.lower_results 0 callable_a.shapes.lower_results

  -- and of the second call
  lower_params_formed : AreFormed (tuple_members z.lower_params)
  lower_params_formed = types_formed t second.lower.params z.lower_params 0 callable_b.shapes.lower_params

  lift_params_formed : AreFormed (tuple_members z.lift_params)
  lift_params_formed = types_formed t second.lift.params z.lift_params 0 callable_b.shapes.lift_params

  lift_results_formed : AreFormed (tuple_members z.lift_results)
  lift_results_formed = types_formed t second.lift.results z.lift_results 0 callable_b.shapes.lift_results

  lower_results_formed : AreFormed (tuple_members z.lower_results)
  lower_results_formed = types_formed t second.lower.results z.lower_results 0 callable_b.shapes.lower_results

  -- ---- few handles cross with values that fit

  few_given : fits s.lower_params s.lift_params args ≡ true → handle_count s.lower_params s.lift_params args ≤ 1000000
  few_given fit =
      let count = count_few first.lower.abi s.lower_params s.lift_params args given_formed given_on_formed given_checked given_on_checked callable_a.params_agree args_are in
      omega (arith, count, fitting_weight s.lower_params s.lift_params args fit)

  few_passed : (params : List Value) → AreSuited z params → handle_count z.lower_params z.lift_params params ≤ 1000000
  few_passed params suited =
      let count = count_few first.lower.abi z.lower_params z.lift_params params lower_params_formed lift_params_formed lower_params_checked lift_params_checked callable_b.params_agree suited.0 in
      omega (arith, count, fitting_weight z.lower_params z.lift_params params suited.1)

  few_results : fits z.lift_results z.lower_results results ≡ true → handle_count z.lift_results z.lower_results results ≤ 1000000
  few_results fit =
      let count = count_few first.lower.abi z.lift_results z.lower_results results lift_results_formed lower_results_formed lift_results_checked lower_results_checked callable_b.results_agree results_are in
      omega (arith, count, fitting_weight z.lift_results z.lower_results results fit)

  few_back : (vs : List Value) → AreOfTypes s.lift_results vs → fits s.lift_results s.lower_results vs ≡ true → handle_count s.lift_results s.lower_results vs ≤ 1000000
  few_back vs are fit =
      let count = count_few first.lower.abi s.lift_results s.lower_results vs answered_formed got_formed answered_checked got_checked callable_a.results_agree are in
      omega (arith, count, fitting_weight s.lift_results s.lower_results vs fit)

  -- what is passed on is of the types of the second call, and what is passed back of those of the callee between
  passed_types : (vs : List Value) → fits s.lower_params s.lift_params args ≡ true → passed_on s args ≡ Some vs → AreOfTypes z.lower_params vs
  passed_types vs fit is =
      subst (λ ps. AreOfTypes ps vs) params_same (types_carried s.lower_params s.lift_params args vs 1 given_formed given_on_formed callable_a.params_agree args_are (omega (arith, few_given fit)) is)

  back_types : (params vs : List Value) → AreSuited z params → fits z.lift_results z.lower_results results ≡ true → passed_back z params results ≡ Some vs → AreOfTypes s.lift_results vs
  back_types params vs suited fit is =
      subst (λ rs. AreOfTypes rs vs) (sym results_same)
      (types_carried z.lift_results z.lower_results results vs (1 + handle_count z.lower_params z.lift_params params) lift_results_formed lower_results_formed callable_b.results_agree results_are
      (omega (arith, few_passed params suited, few_results fit)) is)

  -- ---- arguments and results fit on each of their ways, or on one of them they do not

  fit_or_over : FitBothWays s z args results ⊎ IsOverOneWay s z args results
  fit_or_over = by_args (fits s.lower_params s.lift_params args) refl
    where
      by_back : fits s.lower_params s.lift_params args ≡ true → (between : List Value) → passed_on s args ≡ Some between → fits z.lower_params z.lift_params between ≡ true → fits z.lift_results z.lower_results results ≡ true
          → (back : List Value) → passed_back z between results ≡ Some back → (x : Bool) → fits s.lift_results s.lower_results back ≡ x → FitBothWays s z args results ⊎ IsOverOneWay s z args results
      by_back p between on q r back is true e = inl (record { args_fit = p; between = between; between_is = on; between_fits = q; results_fit = r; back = back; back_is = is; back_fits = e })
      by_back p between on q r back is false e = inr (inr (inr (inr (between, on, (back, is, e)))))

      by_results : fits s.lower_params s.lift_params args ≡ true → (between : List Value) → passed_on s args ≡ Some between → fits z.lower_params z.lift_params between ≡ true
          → (x : Bool) → fits z.lift_results z.lower_results results ≡ x → FitBothWays s z args results ⊎ IsOverOneWay s z args results
      by_results p between on q true r =
          let before = few_passed between (passed_types between p on, q) in
          let o = lists_carried z.lift_results z.lower_results results (1 + handle_count z.lower_params z.lift_params between) lift_results_formed lower_results_formed callable_b.results_agree results_are (omega (arith, before, few_results r)) in
          by_back p between on q r o.0 o.1 (fits s.lift_results s.lower_results o.0) refl
      by_results p between on q false r = inr (inr (inr (inl r)))

      by_between : fits s.lower_params s.lift_params args ≡ true → (between : List Value) → passed_on s args ≡ Some between → (x : Bool) → fits z.lower_params z.lift_params between ≡ x → FitBothWays s z args results ⊎ IsOverOneWay s z args results
      by_between p between on true q = by_results p between on q (fits z.lift_results z.lower_results results) refl
      by_between p between on false q = inr (inr (inl (between, on, q)))

      by_args : (x : Bool) → fits s.lower_params s.lift_params args ≡ x → FitBothWays s z args results ⊎ IsOverOneWay s z args results
      by_args true p =
          let o = lists_carried s.lower_params s.lift_params args 1 given_formed given_on_formed callable_a.params_agree args_are (omega (arith, few_given p)) in
          by_between p o.0 o.1 (fits z.lower_params z.lift_params o.0) refl
      by_args false p = inr (inl p)

  -- ---- an outcome of the second call

  module _ (params : List Value) (o : HostOutcome) (passed : IsSecondOutcome m t second params results o) where
    passed_suited : AreSuited z params
    passed_suited = (passed.no_cause z callable_b.shapes).suited

    second_carried : fits z.lift_results z.lower_results results ≡ true → CallHasCarried z params results o
    second_carried results_fit = by passed.scripted
      where
        outcome : (answered : Option (List Value)) → passed.answered ≡ answered → IsOutcomeOf m t second z params answered None o
        outcome answered q = subst (λ x. IsOutcomeOf m t second z params x None o) q (passed.outcome z callable_b.shapes)

        by : (passed.answered ≡ None) ⊎ (passed.answered ≡ Some results) → CallHasCarried z params results o
        by (inl none) = absurd (ask m is u b adapters g t second z params results None o promised_b calls_b callable_b passed_suited results_are results_fit (outcome None none))
        by (inr some) = carry m is u b adapters g t second z params results None o promised_b calls_b callable_b passed_suited results_are results_fit (outcome (Some results) some)

  -- ---- a chain whose second call was made

  module _ (c : Chained) (chained : IsChained m t first second args results c) (results_fit : fits z.lift_results z.lower_results results ≡ true) (inner : HostOutcome) (made : c.inner ≡ Some inner) where
    passed_by : (o : Option (List Value)) → c.outer.params ≡ o → HasSecondOutcome m t second results c inner
    passed_by None r =
        let none : IsInner m t second results None (Some inner) = subst (λ x. IsInner m t second results x (Some inner)) r (subst (λ x. IsInner m t second results c.outer.params x) made chained.inner) in
        absurd none
    passed_by (Some params) r =
        let some : IsInner m t second results (Some params) (Some inner) = subst (λ x. IsInner m t second results x (Some inner)) r (subst (λ x. IsInner m t second results c.outer.params x) made chained.inner) in
        record { params = params; given = r; passed = some.0 }

    between : HasSecondOutcome m t second results c inner
    between = passed_by c.outer.params refl

    suited : AreSuited s args
    suited = (chained.no_cause s callable_a.shapes).suited

    suited_between : AreSuited z between.params
    suited_between = passed_suited between.params inner between.passed

    inner_carried : CallHasCarried z between.params results inner
    inner_carried = second_carried between.params inner between.passed results_fit

    -- ---- the first call

    answered_is : passed_results c.inner ≡ Some inner_carried.got
    answered_is = ap passed_results made ∙ inner_carried.results

    answered_types : AreOfTypes s.lift_results inner_carried.got
    answered_types = back_types between.params inner_carried.got suited_between results_fit inner_carried.got_are

    answered_fits : fits s.lift_results s.lower_results inner_carried.got ≡ true
    answered_fits = by (fits s.lift_results s.lower_results inner_carried.got) refl
      where
        by : (x : Bool) → fits s.lift_results s.lower_results inner_carried.got ≡ x → fits s.lift_results s.lower_results inner_carried.got ≡ true
        by true q = q
        by false q = absurd ((chained.no_cause s callable_a.shapes).answer_fits (subst (AnsweredTooMuch s) (sym answered_is) (answered_types, q)))

    outer_carried : CallHasCarried s args inner_carried.got c.outer
    outer_carried =
        carry m is u a adapters f t first s args inner_carried.got c.outer.params c.outer promised_a calls_a callable_a suited answered_types answered_fits
        (subst (λ x. IsOutcomeOf m t first s args x c.outer.params c.outer) answered_is (chained.outer s callable_a.shapes))

    -- ---- the whole

    given_is : outer_carried.given ≡ between.params
    given_is = same_some c.outer.params outer_carried.given between.params outer_carried.params between.given

    on_is : passed_on s args ≡ Some between.params
    on_is = outer_carried.given_are ∙ ap (λ x. Some x) given_is

    chain_fits : FitBothWays s z args results
    chain_fits = record {
      args_fit = suited.1;
      between = between.params;
      between_is = on_is;
      between_fits = suited_between.1;
      results_fit = results_fit;
      back = inner_carried.got;
      back_is = inner_carried.got_are;
      back_fits = answered_fits;
    }

    seen_are : called_params s.lower_params z.lift_params args ≡ Some inner_carried.given
    seen_are =
        carried_through s.lower_params z.lower_params z.lift_params args between.params inner_carried.given 1 1 given_formed lower_params_formed lift_params_formed
        (subst (λ x. AgreesPlaces (tuple_members s.lower_params) (tuple_members x)) params_same callable_a.params_agree) callable_b.params_agree args_are suited_between.0
        (subst (λ x. carried_from 1 s.lower_params x args ≡ Some between.params) params_same on_is) inner_carried.given_are

    seen_types : AreOfTypes z.lift_params inner_carried.given
    seen_types =
        types_carried z.lower_params z.lift_params between.params inner_carried.given 1 lower_params_formed lift_params_formed callable_b.params_agree suited_between.0 (omega (arith, few_passed between.params suited_between)) inner_carried.given_are

    results_through : called_results s.lower_params s.lift_params z.lift_results s.lower_results args results ≡ Some outer_carried.got
    results_through =
        carried_through z.lift_results z.lower_results s.lower_results results inner_carried.got outer_carried.got (1 + handle_count z.lower_params z.lift_params between.params) (1 + handle_count s.lower_params s.lift_params args)
        lift_results_formed lower_results_formed got_formed
        callable_b.results_agree (subst (λ x. AgreesPlaces (tuple_members x) (tuple_members s.lower_results)) results_same callable_a.results_agree) results_are (subst (λ x. AreOfTypes x inner_carried.got) results_same answered_types) inner_carried.got_are
        (subst (λ x. carried_from (1 + handle_count s.lower_params s.lift_params args) x s.lower_results inner_carried.got ≡ Some outer_carried.got) results_same outer_carried.got_are)

    got_types : AreOfTypes s.lower_results outer_carried.got
    got_types =
        types_carried s.lift_results s.lower_results inner_carried.got outer_carried.got (1 + handle_count s.lower_params s.lift_params args) answered_formed got_formed callable_a.results_agree answered_types
        (omega (arith, few_given suited.1, few_back inner_carried.got answered_types answered_fits)) outer_carried.got_are

    chain_carried : HasChained s z args results c
    chain_carried = record {
      inner = inner;
      made = made;
      outer_values = outer_carried.values;
      outer_returned = outer_carried.returned;
      inner_values = inner_carried.values;
      inner_returned = inner_carried.returned;
      seen = inner_carried.given;
      seen_are = seen_are;
      seen_types = seen_types;
      params = inner_carried.params;
      got = outer_carried.got;
      got_are = results_through;
      got_types = got_types;
      results = outer_carried.results;
    }

  -- ---- what came of a chain

  module _ (c : Chained) (chained : IsChained m t first second args results c) where
    -- where all fits the second call was made
    was_made : FitBothWays s z args results → c.inner ≡ None → ⊥
    was_made fit q =
        ask m is u a adapters f t first s args fit.back c.outer.params c.outer promised_a calls_a callable_a (args_are, fit.args_fit)
        (back_types fit.between fit.back (passed_types fit.between fit.args_fit fit.between_is, fit.between_fits) fit.results_fit fit.back_is) fit.back_fits
        (subst (λ x. IsOutcomeOf m t first s args (passed_results x) c.outer.params c.outer) q (chained.outer s callable_a.shapes))

    pub chain_comes : fits z.lift_results z.lower_results results ≡ true → HasComeTo s z args results c c.inner
    chain_comes results_fit = by c.inner refl
      where
        unmade : c.inner ≡ None → FitBothWays s z args results ⊎ IsOverOneWay s z args results → IsOverOneWay s z args results
        unmade q (inl fit) = absurd (was_made fit q)
        unmade q (inr over) = over

        by : (o : Option HostOutcome) → c.inner ≡ o → HasComeTo s z args results c o
        by None q = unmade q fit_or_over
        by (Some inner) q = (chain_fits c chained results_fit inner q, chain_carried c chained results_fit inner q)

  -- ---- a chain that ended with an error

  -- What the callee between told of its last call ends no call.
  record EndsNone (last : ℕ) (answered : Option (List Value)) : Type 0 where
    pub few : last ≤ 1
    pub suited : AnsweredUnsuited s answered → ⊥
    pub fitting : AnsweredTooMuch s answered → ⊥

  clash : (ts us : List Shape) (vs : List Value) → fits ts us vs ≡ true → fits ts us vs ≡ false → ⊥
  clash ts us vs p q = true≢false (sym p ∙ q)

  module _ (fit : FitBothWays s z args results) where
    between_types : AreOfTypes z.lower_params fit.between
    between_types = passed_types fit.between fit.args_fit fit.between_is

    fit_back_types : AreOfTypes s.lift_results fit.back
    fit_back_types = back_types fit.between fit.back (between_types, fit.between_fits) fit.results_fit fit.back_is

    -- the second call has no cause of an error, where it was given what was passed on
    no_second : (e : HostError) → IsHostCause z fit.between 0 (Some results) e → e ≡ OutOfMemory
    no_second OutOfMemory h = refl
    no_second Unsuited h = absurd (by h)
      where
        callee : (◌≡◌ {A = ℕ} 0 2) ⊎ ((◌≡◌ {A = ℕ} 0 0) × AnsweredUnsuited z (Some results)) → ⊥
        callee (inl q) = omega (arith, q)
        callee (inr q) = q.1 results_are

        by : (AreOfTypes z.lower_params fit.between → ⊥) ⊎ (AreSuited z fit.between × ((◌≡◌ {A = ℕ} 0 2) ⊎ ((◌≡◌ {A = ℕ} 0 0) × AnsweredUnsuited z (Some results)))) → ⊥
        by (inl n) = n between_types
        by (inr q) = callee q.1
    no_second OverLimit h = absurd (by h)
      where
        callee : (◌≡◌ {A = ℕ} 0 3) ⊎ ((◌≡◌ {A = ℕ} 0 0) × AnsweredTooMuch z (Some results)) → ⊥
        callee (inl q) = omega (arith, q)
        callee (inr q) = clash z.lift_results z.lower_results results fit.results_fit q.1.1

        by : (AreOfTypes z.lower_params fit.between × (fits z.lower_params z.lift_params fit.between ≡ false)) ⊎ (AreSuited z fit.between × ((◌≡◌ {A = ℕ} 0 3) ⊎ ((◌≡◌ {A = ℕ} 0 0) × AnsweredTooMuch z (Some results)))) → ⊥
        by (inl n) = clash z.lower_params z.lift_params fit.between fit.between_fits n.1
        by (inr q) = callee q.1
    no_second NoResults h = absurd (omega (arith, h.1))

    -- what a run came to is what was passed on
    same_between : (params : List Value) → IsReached m t first s args (Some params) → params ≡ fit.between
    same_between params (inl none) = absurd (none_some (Some params) params none refl)
    same_between params (inr r) =
        let same : params ≡ r.0 = same_some (Some params) params r.0 refl r.1 in
        let given = given_carried m is u a adapters f t first s args r.0 promised_a calls_a callable_a r.2 in
        same ∙ same_some (called_params s.lower_params s.lift_params args) r.0 fit.between given fit.between_is

    no_results : (rs : Option (List Value)) (last : ℕ) → rs ≡ Some fit.back → IsNumberBy rs last → EndsNone last rs
    no_results None last q is = absurd (none_some None fit.back refl q)
    no_results (Some vs) last q is =
        let same : vs ≡ fit.back = same_some (Some vs) vs fit.back refl q in
        record {
          few = omega (arith, is);
          suited = λ n. n (subst (AreOfTypes s.lift_results) (sym same) fit_back_types);
          fitting = λ n. clash s.lift_results s.lower_results fit.back fit.back_fits (subst (λ v. fits s.lift_results s.lower_results v ≡ false) same n.1);
        }

    ends_none : (given : Option (List Value)) (inner : Option HostOutcome) (last : ℕ) → HasPassedOn m t second results given inner last → IsReached m t first s args given → EndsNone last (passed_results inner)
    ends_none None None last h r = record { few = by h; suited = λ n. n; fitting = λ n. n }
      where
        by : (last ≡ 0) ⊎ (last ≡ number_of_error OutOfMemory) → last ≤ 1
        by (inl q) = omega (arith, q)
        by (inr q) = omega (arith, q)
    ends_none None (Some o) last h r = absurd h
    ends_none (Some params) None last h r =
        let same = same_between params r in
        let none : h.0 ≡ OutOfMemory = no_second h.0 (subst (λ vs. IsHostCause z vs 0 (Some results) h.0) same (h.2 z callable_b.shapes)) in
        let few : last ≡ number_of_error OutOfMemory = h.1 ∙ ap number_of_error none in
        record { few = omega (arith, few); suited = λ n. n; fitting = λ n. n }
    ends_none (Some params) (Some o) last h r =
        let same = same_between params r in
        let done = second_carried params o h.0 fit.results_fit in
        let got : done.got ≡ fit.back = same_some (passed_back z fit.between results) done.got fit.back (subst (λ vs. passed_back z vs results ≡ Some done.got) same done.got_are) fit.back_is in
        no_results o.results last (done.results ∙ ap (λ v. Some v) got) h.1

    module _ (error : HostError) (cause : IsChainCause m t first second args results error) where
      -- no error but want of memory has a cause
      without : EndsNone cause.last (passed_results cause.inner) → (e : HostError) → IsHostCause s args cause.last (passed_results cause.inner) e → e ≡ OutOfMemory
      without x OutOfMemory h = refl
      without x Unsuited h = absurd (by h)
        where
          callee : (cause.last ≡ 2) ⊎ ((cause.last ≡ 0) × AnsweredUnsuited s (passed_results cause.inner)) → ⊥
          callee (inl q) = omega (arith, q, x.few)
          callee (inr q) = x.suited q.1

          by : (AreOfTypes s.lower_params args → ⊥) ⊎ (AreSuited s args × ((cause.last ≡ 2) ⊎ ((cause.last ≡ 0) × AnsweredUnsuited s (passed_results cause.inner)))) → ⊥
          by (inl n) = n args_are
          by (inr q) = callee q.1
      without x OverLimit h = absurd (by h)
        where
          callee : (cause.last ≡ 3) ⊎ ((cause.last ≡ 0) × AnsweredTooMuch s (passed_results cause.inner)) → ⊥
          callee (inl q) = omega (arith, q, x.few)
          callee (inr q) = x.fitting q.1

          by : (AreOfTypes s.lower_params args × (fits s.lower_params s.lift_params args ≡ false)) ⊎ (AreSuited s args × ((cause.last ≡ 3) ⊎ ((cause.last ≡ 0) × AnsweredTooMuch s (passed_results cause.inner)))) → ⊥
          by (inl n) = clash s.lower_params s.lift_params args fit.args_fit n.1
          by (inr q) = callee q.1
      without x NoResults h = absurd (omega (arith, h.1, x.few))

      -- what is known of the callee between, where the error is no want of memory
      reached_by : (e : HostError) → IsReachedBy m t first s args cause.given e → (e ≡ OutOfMemory) ⊎ IsReached m t first s args cause.given
      reached_by OutOfMemory r = inl refl
      reached_by Unsuited r = inr r
      reached_by OverLimit r = inr r
      reached_by NoResults r = inr r

      fitting_ends : error ≡ OutOfMemory
      fitting_ends = by (reached_by error (cause.reached s callable_a.shapes))
        where
          by : (error ≡ OutOfMemory) ⊎ IsReached m t first s args cause.given → error ≡ OutOfMemory
          by (inl q) = q
          by (inr r) = without (ends_none cause.given cause.inner cause.last cause.passed r) error (cause.cause s callable_a.shapes)

  pub chain_ends : (error : HostError) → IsChainCause m t first second args results error → (error ≡ OutOfMemory) ⊎ IsOverOneWay s z args results
  chain_ends error cause = by fit_or_over
    where
      by : FitBothWays s z args results ⊎ IsOverOneWay s z args results → (error ≡ OutOfMemory) ⊎ IsOverOneWay s z args results
      by (inl fit) = inl (fitting_ends fit error cause)
      by (inr over) = inr over
