-- What a run asks for first is what its parameters call for first, also where no memory can give it.
use Rattle.std.proofs.Common.{◌≡◌, true, Bool, false, List, [], ◌∷◌, ◌++◌, None, refl, sym, ap, ◌∙◌, subst, cond, map}
use Rattle.std.proofs.lemmas.Bool.{false≢true}
use Rattle.fact_types.specs.Adapters.{LinkedAdapter, same_def}
use Rattle.fact_types.specs.declared.import.Import.TheVariants as import
use Rattle.fact_types.specs.declared.outside.CoreDef.{CoreDef}
use Rattle.fact_types.proofs.ShapeLaws.{none_some}
use Rattle.fact_machine.specs.Trace.{Grows}
use Rattle.fact_machine.specs.declared.types.Answer.TheVariants.{Returns, Traps, Throws}
use Rattle.fact_machine.specs.declared.types.CoreValue.{CoreValue}
use Rattle.fact_machine.specs.declared.types.MachineState.{MachineState}
use Rattle.fact_actions.specs.Adapters.{AdapterTunables, params_transfer}
use Rattle.fact_actions.specs.Calls.{is_import_of, is_call_of_any}
use Rattle.fact_actions.specs.Regions.{params_landing, is_request}
use Rattle.fact_actions.specs.Requests.{request_of, requests_in, parts_requests, answers_in}
use Rattle.fact_actions.specs.Running.{ImportPlaces, Call}
use Rattle.fact_actions.proofs.OwnParts.{same_self}
use Rattle.fact_action_laws.specs.AdapterValueLaws.{FirstRequestIsCalledFor}
use Rattle.fact_action_laws.specs.Requested.{params_parts, IsOutsideTransfers, AreOutsideTransfers, AreFromCallee, ArePassed, AreAnswered, calls_until_results, HaveAskedSoFar, StopsEntering, StopsInParams, StopsCalling, StopsInResults, StopsFinishing}
use Rattle.fact_action_laws.specs.Trapped.{HaveReturned, BeginRequestsSoFar}
use Rattle.fact_action_laws.proofs.Trapped.{both_empty}

-- The only call, of a function other than the callee, trapped: it is one of the transfer of parameters.
in_params : (p : ImportPlaces) (u : AdapterTunables) (a : LinkedAdapter) (args : List CoreValue) (first : MachineState) (c : Call) (f : CoreDef) → c.what ≡ import.CoreDef f → (f ≡ a.callee → ⊥) → c.answer ≡ Traps
    → HaveAskedSoFar p u a args first (c ∷ []) → BeginRequestsSoFar (params_transfer u a) (params_landing a) (params_parts p u a args first) (c ∷ [])
in_params p u a args first c f is other traps h = by h
  where
    B : List Call → Type 0
    B cs = BeginRequestsSoFar (params_transfer u a) (params_landing a) (params_parts p u a args first) cs

    no_outside : IsOutsideTransfers None c.what → ⊥
    no_outside o = none_some None f refl (subst (IsOutsideTransfers None) is o)

    no_callee : (x : Call) → x ≡ c → x.what ≡ import.CoreDef a.callee → ⊥
    no_callee x e k = other cc

    -- nor does the transfer end
    not_all : (params : List Call) → params ≡ c ∷ [] → HaveReturned params → ⊥
    not_all params e r = let q : [] ≡ c ∷ [] = subst (λ x. cond (elim x as (λ y. Bool) [ Returns rs state ↦ true | Traps ↦ false | Throws ↦ false ]) (c ∷ []) [] ≡ c ∷ []) traps (subst HaveReturned e r) in absurd cc

    -- the callee is not reached
    behind : (t : ArePassed p u a args first) (others : List Call) → AreFromCallee a others → (enter params : List Call) → enter ≡ t.enter → params ≡ t.params → c ∷ [] ≡ enter ++ (params ++ others) → ⊥
    behind t others o (x ∷ enter) params ee pe e = let g : x ≡ c = cc in no_outside (subst (λ x. IsOutsideTransfers None x.what) g (subst (AreOutsideTransfers None) (sym ee) t.enter_is).0)
    behind t (x ∷ others) o [] [] ee pe e = let g : x ≡ c = cc in no_callee x g o.0
    behind t [] o [] [] ee pe e = absurd cc
    behind t others o [] (x ∷ params) ee pe e =
        let g : x ≡ c = cc in let n : params ++ others ≡ [] = cc in not_all t.params (sym pe ∙ ap (λ l. x ∷ l) (both_empty params others n).1 ∙ ap (λ x. x ∷ []) g) t.params_return

    answered : (t : AreAnswered p u a args first) (others : List Call) → c ∷ [] ≡ calls_until_results t others → (enter params : List Call) → enter ≡ t.passed.enter → params ≡ t.passed.params → c ∷ [] ≡ enter ++ (params ++ (t.callee ∷ (t.between ++ others))) → ⊥
    answered t others h (x ∷ enter) params ee pe e = let g : x ≡ c = cc in no_outside (subst (λ x. IsOutsideTransfers None x.what) g (subst (AreOutsideTransfers None) (sym ee) t.passed.enter_is).0)
    answered t others h [] [] ee pe e = let g : t.callee ≡ c = cc in no_callee t.callee g t.callee_is
    answered t others h [] (x ∷ params) ee pe e =
        let g : x ≡ c = cc in let n : params ++ (t.callee ∷ (t.between ++ others)) ≡ [] = cc in not_all t.passed.params (sym pe ∙ ap (λ l. x ∷ l) (both_empty params (t.callee ∷ (t.between ++ others)) n).1 ∙ ap (λ x. x ∷ []) g) t.passed.params_return

    entering : (enter params : List Call) → AreOutsideTransfers None enter → c ∷ [] ≡ enter ++ params → B params → B (c ∷ [])
    entering [] params o e b = subst B (sym e) b
    entering (x ∷ enter) params o e b = let g : x ≡ c = cc in absurd (no_outside (subst (λ x. IsOutsideTransfers None x.what) g o.0))

    by : HaveAskedSoFar p u a args first (c ∷ []) → B (c ∷ [])
    by (StopsEntering o) = absurd (no_outside o.0)
    by (StopsInParams enter params o e k b d) = entering enter params o e b
    by (StopsCalling t others o e) = absurd (behind t others o t.enter t.params refl refl e)
    by (StopsInResults t back e o b d) = absurd (answered t back e t.passed.enter t.passed.params refl refl e)
    by (StopsFinishing t) = absurd (answered t.answered (t.back ++ t.finish) t.calls_are t.answered.passed.enter t.answered.passed.params refl refl t.calls_are)

pub first_request_is_called_for : FirstRequestIsCalledFor
first_request_is_called_for p u a args first n s w c f own may realloc is traps h =
    let l = params_landing a in
    let asked : is_request l c ≡ true = ap (λ o. is_call_of_any o c) realloc ∙ ap (is_import_of f) is ∙ same_self f in
    let requests : requests_in l (c ∷ []) ≡ request_of c ∷ [] = ap (λ b. map request_of (cond b (c ∷ []) [])) asked in
    let other : f ≡ a.callee → ⊥ = λ e. false≢true (sym (own.lift_realloc f realloc) ∙ ap (λ d. same_def a.callee d) e ∙ same_self a.callee) in
    subst (λ rs. Grows rs (parts_requests (params_transfer u a) (params_parts p u a args first) [])) requests
    (subst (λ x. Grows (requests_in l (c ∷ [])) (parts_requests (params_transfer u a) (params_parts p u a args first) (answers_in l (cond (elim x as (λ y. Bool) [ Returns rs state ↦ true | Traps ↦ false | Throws ↦ false ]) (c ∷ []) [])))) traps
    (in_params p u a args first c f is other traps (h may)))
