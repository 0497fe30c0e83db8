-- Where a call stands among the calls of a run so far: by what it is of, it enters, is of the transfer of parameters, is the callee's, and so on.
use Rattle.std.proofs.Common.{◌≡◌, ◌⊎◌, inl, inr, false, List, [], ◌∷◌, ◌++◌, Option, Some, None, refl, sym, ap, ◌∙◌, subst, append_assoc, append-nil}
use Rattle.std.proofs.lemmas.Bool.{true≢false}
use Rattle.fact_types.specs.declared.outside.CoreDef.{CoreDef}
use Rattle.fact_types.specs.declared.import.Import.TheVariants as import
use Rattle.fact_types.specs.Adapters.{LinkedAdapter, same_def}
use Rattle.fact_machine.specs.declared.types.CoreValue.{CoreValue}
use Rattle.fact_machine.specs.declared.types.MachineState.{MachineState}
use Rattle.fact_machine.specs.Trace.{Grows}
use Rattle.fact_actions.specs.Adapters.{AdapterTunables, params_transfer, results_transfer}
use Rattle.fact_actions.specs.Calls.{HasOwnCallee}
use Rattle.fact_actions.specs.Regions.{params_landing, results_landing}
use Rattle.fact_actions.specs.Requests.{answers_in, parts_requests, requests_in}
use Rattle.fact_actions.specs.Running.{ImportPlaces, Call}
use Rattle.fact_actions.specs.Sides.{LiftLowerOptions, options_of}
use Rattle.fact_actions.proofs.OwnParts.{same_self}
use Rattle.fact_action_laws.specs.Requested.{AreAnswered, AreFromCallee, AreOutsideTransfers, ArePassed, HaveAskedSoFar, CallOwnRealloc, IsOutsideTransfers, IsOwnRealloc, StopsCalling, StopsEntering, StopsFinishing, StopsInParams, StopsInResults, answered_parts, params_parts}
use Rattle.fact_action_laws.specs.Rooms.{AllCutsShrink}
use Rattle.fact_action_laws.specs.Trapped.{answers_so_far}
use Rattle.fact_call_laws.proofs.Steps.{same_exact}

-- ---- the last of a list

none_right : {A : Type 0} (xs ys : List A) → xs ++ ys ≡ [] → ys ≡ []
none_right [] ys e = e
none_right (x ∷ xs) ys e = absurd cc

none_left : {A : Type 0} (xs ys : List A) → xs ++ ys ≡ [] → xs ≡ []
none_left [] ys e = refl
none_left (x ∷ xs) ys e = absurd cc

last_behind : {A : Type 0} (xs ys front : List A) (x y z : A) → x ≡ y → ((more : List A) × (ys ≡ more ++ z ∷ []) × (front ≡ xs ++ more)) ⊎ ((ys ≡ []) × (xs ≡ front ++ z ∷ []))
    → ((more : List A) × (ys ≡ more ++ z ∷ []) × (y ∷ front ≡ (x ∷ xs) ++ more)) ⊎ ((ys ≡ []) × (x ∷ xs ≡ (y ∷ front) ++ z ∷ []))
last_behind xs ys front x y z same (inl h) = inl (h.0, h.1, (λ k. sym same k ∷ h.2 k))
last_behind xs ys front x y z same (inr h) = inr (h.0, (λ k. same k ∷ h.1 k))

-- the last of two lists in a row is the last of the second, or that is empty
pub last_of : {A : Type 0} (xs ys front : List A) (z : A) → xs ++ ys ≡ front ++ z ∷ [] → ((more : List A) × (ys ≡ more ++ z ∷ []) × (front ≡ xs ++ more)) ⊎ ((ys ≡ []) × (xs ≡ front ++ z ∷ []))
last_of [] ys front z e = inl (front, e, refl)
last_of (x ∷ xs) ys [] z e =
    let same : x ≡ z = cc in
    let none : xs ++ ys ≡ [] = cc in
    inr (none_right xs ys none, (λ k. same k ∷ none_left xs ys none k))
last_of (x ∷ xs) ys (y ∷ front) z e =
    let same : x ≡ y = cc in
    let rest : xs ++ ys ≡ front ++ z ∷ [] = cc in
    last_behind xs ys front x y z same (last_of xs ys front z rest)

-- no list ends so
pub no_last : {A : Type 0} (front : List A) (z : A) → [] ≡ front ++ z ∷ [] → ⊥
no_last [] z e = cc
no_last (x ∷ front) z e = cc

outside_last : (r : Option CoreDef) (cs : List Call) (z : Call) → AreOutsideTransfers r (cs ++ z ∷ []) → IsOutsideTransfers r z.what
outside_last r [] z h = h.0
outside_last r (c ∷ cs) z h = outside_last r cs z h.1

own_last : (o : LiftLowerOptions) (cs : List Call) (z : Call) → CallOwnRealloc o (cs ++ z ∷ []) → IsOwnRealloc o z.what
own_last o [] z h = h.0
own_last o (c ∷ cs) z h = own_last o cs z h.1

module _ (p : ImportPlaces) (u : AdapterTunables) (a : LinkedAdapter) (args : List CoreValue) (first : MachineState) where
  -- ---- where the last call stands

  -- It is of the transfer of parameters, whose requests so far are a front of those that they call for.
  pub record InParams (front : List Call) (z : Call) : Type 0 where
    pub enter : List Call
    pub moved : List Call
    pub front_is : front ≡ enter ++ moved
    pub enter_is : AreOutsideTransfers None enter
    pub moved_own : CallOwnRealloc (options_of a.lift) (moved ++ z ∷ [])
    pub answers : List (List CoreValue)
    pub begin : Grows (requests_in (params_landing a) (moved ++ z ∷ [])) (parts_requests (params_transfer u a) (params_parts p u a args first) answers)
    pub shrink : AllCutsShrink (params_transfer u a) (params_parts p u a args first) answers

  -- It is the callee's, behind all requests of parameters.
  pub record IsCalling (front : List Call) (z : Call) : Type 0 where
    pub passed : ArePassed p u a args first
    pub front_is : front ≡ passed.enter ++ passed.params
    pub what : z.what ≡ import.CoreDef a.callee

  -- It is of the transfer of results, behind the callee.
  pub record InResults (front : List Call) (z : Call) : Type 0 where
    pub answered : AreAnswered p u a args first
    pub moved : List Call
    pub front_is : front ≡ answered.passed.enter ++ (answered.passed.params ++ (answered.callee ∷ (answered.between ++ moved)))
    pub moved_own : CallOwnRealloc (options_of a.lower) (moved ++ z ∷ [])
    pub answers : List (List CoreValue)
    pub begin : Grows (requests_in (results_landing a args) (moved ++ z ∷ [])) (parts_requests (results_transfer u a) (answered_parts answered) answers)
    pub shrink : AllCutsShrink (results_transfer u a) (answered_parts answered) answers

  -- How far a run came whose last call this is.
  pub data Stands (front : List Call) (z : Call) : Type 0 where
    Beside : IsOutsideTransfers None z.what → Stands front z
    OfParams : InParams front z → Stands front z
    Calls : IsCalling front z → Stands front z
    OfResults : InResults front z → Stands front z
    Finishes : IsOutsideTransfers a.lift.post_return z.what → Stands front z

  grows_same : {A : Type 0} (xs ys : List A) → xs ≡ ys → Grows xs ys
  grows_same xs ys e = record { more = []; is = sym e ∙ sym (append-nil xs) }

  -- of the callee on
  from_callee : (t : ArePassed p u a args first) (others front : List Call) (z : Call) → AreFromCallee a others → t.enter ++ (t.params ++ others) ≡ front ++ z ∷ []
      → ((more : List Call) × (others ≡ more ++ z ∷ []) × (front ≡ t.enter ++ (t.params ++ more))) → Stands front z
  from_callee t [] front z from e at = absurd (no_last at.0 z at.1)
  from_callee t (k ∷ others) front z from e at = by at.0 at.1 at.2
    where
      by : (more : List Call) → k ∷ others ≡ more ++ z ∷ [] → front ≡ t.enter ++ (t.params ++ more) → Stands front z
      by [] e f =
          let same : k ≡ z = cc in
          Calls (record { passed = t; front_is = f ∙ ap (λ l. t.enter ++ l) (append-nil t.params); what = ap (λ (x : Call). x.what) (sym same) ∙ from.0 })
      by (m ∷ more) e f = let rest : others ≡ more ++ z ∷ [] = cc in Beside (outside_last None more z (subst (AreOutsideTransfers None) rest from.1))

  -- where the transfer of parameters is done
  of_passed : (t : ArePassed p u a args first) (front : List Call) (z : Call) → t.enter ++ t.params ≡ front ++ z ∷ [] → Stands front z
  of_passed t front z e = elim (last_of t.enter t.params front z e) [
    | inl h ↦ OfParams (record {
      enter = t.enter;
      moved = h.0;
      front_is = h.2;
      enter_is = t.enter_is;
      moved_own = subst (CallOwnRealloc (options_of a.lift)) h.1 t.params_are;
      answers = answers_in (params_landing a) t.params;
      begin = grows_same (requests_in (params_landing a) (h.0 ++ z ∷ [])) _ (ap (requests_in (params_landing a)) (sym h.1) ∙ t.params_ask);
      shrink = t.params_shrink;
    })
    | inr h ↦ Beside (outside_last None front z (subst (AreOutsideTransfers None) h.1 t.enter_is))
  ]

  behind_passed : (t : ArePassed p u a args first) (others front : List Call) (z : Call) → t.enter ++ (t.params ++ others) ≡ front ++ z ∷ []
      → (((more : List Call) × (others ≡ more ++ z ∷ []) × (front ≡ t.enter ++ (t.params ++ more))) → Stands front z) → Stands front z
  behind_passed t others front z e on = elim (last_of (t.enter ++ t.params) others front z (append_assoc t.enter t.params others ∙ e)) [
    | inl h ↦ on (h.0, h.1, h.2 ∙ append_assoc t.enter t.params h.0)
    | inr h ↦ of_passed t front z h.1
  ]

  -- where the callee answered
  behind_answered : (t : AreAnswered p u a args first) (back front : List Call) (z : Call) → t.passed.enter ++ (t.passed.params ++ (t.callee ∷ (t.between ++ back))) ≡ front ++ z ∷ []
      → (((more : List Call) × (back ≡ more ++ z ∷ []) × (front ≡ t.passed.enter ++ (t.passed.params ++ (t.callee ∷ (t.between ++ more))))) → Stands front z) → Stands front z
  behind_answered t back front z e on = behind_passed t.passed (t.callee ∷ (t.between ++ back)) front z e (λ h. by h.0 h.1 h.2)
    where
      by : (more : List Call) → t.callee ∷ (t.between ++ back) ≡ more ++ z ∷ [] → front ≡ t.passed.enter ++ (t.passed.params ++ more) → Stands front z
      by [] e f =
          let same : t.callee ≡ z = cc in
          Calls (record { passed = t.passed; front_is = f ∙ ap (λ l. t.passed.enter ++ l) (append-nil t.passed.params); what = ap (λ (x : Call). x.what) (sym same) ∙ t.callee_is })
      by (m ∷ more) e f =
          let first_same : t.callee ≡ m = cc in
          let rest : t.between ++ back ≡ more ++ z ∷ [] = cc in
          elim (last_of t.between back more z rest) [
            | inl h ↦ on (h.0, h.1, f ∙ ap (λ l. t.passed.enter ++ (t.passed.params ++ l)) (λ j. sym first_same j ∷ h.2 j))
            | inr h ↦ Beside (outside_last None more z (subst (AreOutsideTransfers None) h.1 t.between_is))
          ]

  -- by how far the calls came
  pub stands : (front : List Call) (z : Call) → HaveAskedSoFar p u a args first (front ++ z ∷ []) → Stands front z
  stands front z (StopsEntering out) = Beside (outside_last None front z out)
  stands front z (StopsInParams enter params out e own begin shrink) = elim (last_of enter params front z (sym e)) [
    | inl h ↦ OfParams (record {
      enter = enter;
      moved = h.0;
      front_is = h.2;
      enter_is = out;
      moved_own = subst (CallOwnRealloc (options_of a.lift)) h.1 own;
      answers = answers_so_far (params_landing a) params;
      begin = subst (λ l. Grows (requests_in (params_landing a) l) (parts_requests (params_transfer u a) (params_parts p u a args first) (answers_so_far (params_landing a) params))) h.1 begin;
      shrink = shrink;
    })
    | inr h ↦ Beside (outside_last None front z (subst (AreOutsideTransfers None) h.1 out))
  ]
  stands front z (StopsCalling t others from e) = behind_passed t others front z (sym e) (λ h. from_callee t others front z from (sym e) h)
  stands front z (StopsInResults t back e own begin shrink) = behind_answered t back front z (sym e) (λ h. OfResults (record {
    answered = t;
    moved = h.0;
    front_is = h.2;
    moved_own = subst (CallOwnRealloc (options_of a.lower)) h.1 own;
    answers = answers_so_far (results_landing a args) back;
    begin = subst (λ l. Grows (requests_in (results_landing a args) l) (parts_requests (results_transfer u a) (answered_parts t) (answers_so_far (results_landing a args) back))) h.1 begin;
    shrink = shrink;
  }))
  stands front z (StopsFinishing f) = behind_answered f.answered (f.back ++ f.finish) front z (sym f.calls_are) (λ h. elim (last_of f.back f.finish h.0 z h.1) [
    | inl g ↦ Finishes (outside_last a.lift.post_return g.0 z (subst (AreOutsideTransfers a.lift.post_return) g.1 f.finish_is))
    | inr g ↦ OfResults (record {
      answered = f.answered;
      moved = h.0;
      front_is = h.2;
      moved_own = subst (CallOwnRealloc (options_of a.lower)) g.1 f.back_is;
      answers = answers_in (results_landing a args) f.back;
      begin = grows_same (requests_in (results_landing a args) (h.0 ++ z ∷ [])) _ (ap (requests_in (results_landing a args)) (sym g.1) ∙ f.back_asks);
      shrink = f.back_shrinks;
    })
  ])

  -- ---- calls of core functions

  own_is : (o : LiftLowerOptions) (f : CoreDef) (z : Call) (cs : List Call) → z.what ≡ import.CoreDef f → CallOwnRealloc o (cs ++ z ∷ []) → o.realloc ≡ Some f
  own_is o f z cs e h = let x = subst (IsOwnRealloc o) e (own_last o cs z h) in x.1 ∙ ap Some (same_exact x.0 f x.2)

  not_beside : (f : CoreDef) (z : Call) → z.what ≡ import.CoreDef f → IsOutsideTransfers None z.what → ⊥
  not_beside f z e h = let x : None ≡ Some f = subst (IsOutsideTransfers None) e h in cc

  -- the realloc of the lift side is of the transfer of parameters, where it is neither of the others
  pub lift_realloc_stands : (f : CoreDef) (front : List Call) (z : Call) → z.what ≡ import.CoreDef f → same_def a.callee f ≡ false → (a.lower.realloc ≡ Some f → ⊥) → (a.lift.post_return ≡ Some f → ⊥) → Stands front z → InParams front z
  lift_realloc_stands f front z e not_callee not_lower not_post (Beside h) = absurd (not_beside f z e h)
  lift_realloc_stands f front z e not_callee not_lower not_post (OfParams h) = h
  lift_realloc_stands f front z e not_callee not_lower not_post (Calls h) =
      let same : import.CoreDef a.callee ≡ import.CoreDef f = sym h.what ∙ e in
      let is : a.callee ≡ f = cc in
      absurd (true≢false (sym (same_self a.callee) ∙ ap (same_def a.callee) is ∙ not_callee))
  lift_realloc_stands f front z e not_callee not_lower not_post (OfResults h) = absurd (not_lower (own_is (options_of a.lower) f z h.moved e h.moved_own))
  lift_realloc_stands f front z e not_callee not_lower not_post (Finishes h) = absurd (not_post (subst (IsOutsideTransfers a.lift.post_return) e h))

  -- and that of the lower side of the transfer of results
  pub lower_realloc_stands : (f : CoreDef) (front : List Call) (z : Call) → z.what ≡ import.CoreDef f → same_def a.callee f ≡ false → (a.lift.realloc ≡ Some f → ⊥) → (a.lift.post_return ≡ Some f → ⊥) → Stands front z → InResults front z
  lower_realloc_stands f front z e not_callee not_lift not_post (Beside h) = absurd (not_beside f z e h)
  lower_realloc_stands f front z e not_callee not_lift not_post (OfParams h) = absurd (not_lift (own_is (options_of a.lift) f z h.moved e h.moved_own))
  lower_realloc_stands f front z e not_callee not_lift not_post (Calls h) =
      let same : import.CoreDef a.callee ≡ import.CoreDef f = sym h.what ∙ e in
      let is : a.callee ≡ f = cc in
      absurd (true≢false (sym (same_self a.callee) ∙ ap (same_def a.callee) is ∙ not_callee))
  lower_realloc_stands f front z e not_callee not_lift not_post (OfResults h) = h
  lower_realloc_stands f front z e not_callee not_lift not_post (Finishes h) = absurd (not_post (subst (IsOutsideTransfers a.lift.post_return) e h))

  -- the callee is called once, behind the transfer of parameters
  pub callee_stands : HasOwnCallee a → (front : List Call) (z : Call) → z.what ≡ import.CoreDef a.callee → Stands front z → IsCalling front z
  callee_stands own front z e (Beside h) = absurd (not_beside a.callee z e h)
  callee_stands own front z e (OfParams h) = absurd (true≢false (sym (same_self a.callee) ∙ own.lift_realloc a.callee (own_is (options_of a.lift) a.callee z h.moved e h.moved_own)))
  callee_stands own front z e (Calls h) = h
  callee_stands own front z e (OfResults h) = absurd (true≢false (sym (same_self a.callee) ∙ own.lower_realloc a.callee (own_is (options_of a.lower) a.callee z h.moved e h.moved_own)))
  callee_stands own front z e (Finishes h) = absurd (true≢false (sym (same_self a.callee) ∙ own.post_return a.callee (subst (IsOutsideTransfers a.lift.post_return) e h)))

  -- every other core function is one of these
  pub core_stands : (f : CoreDef) (front : List Call) (z : Call) → z.what ≡ import.CoreDef f → Stands front z → (a.callee ≡ f) ⊎ ((a.lift.realloc ≡ Some f) ⊎ ((a.lower.realloc ≡ Some f) ⊎ (a.lift.post_return ≡ Some f)))
  core_stands f front z e (Beside h) = absurd (not_beside f z e h)
  core_stands f front z e (OfParams h) = inr (inl (own_is (options_of a.lift) f z h.moved e h.moved_own))
  core_stands f front z e (Calls h) = let same : import.CoreDef a.callee ≡ import.CoreDef f = sym h.what ∙ e in let is : a.callee ≡ f = cc in inl is
  core_stands f front z e (OfResults h) = inr (inr (inl (own_is (options_of a.lower) f z h.moved e h.moved_own)))
  core_stands f front z e (Finishes h) = inr (inr (inr (subst (IsOutsideTransfers a.lift.post_return) e h)))

  -- nothing is handed to the runtime
  pub no_start : (callback post_return : Option CoreDef) (front : List Call) (z : Call) → z.what ≡ import.StartCall callback post_return → Stands front z → ⊥
  no_start callback post_return front z e (Beside h) = subst (IsOutsideTransfers None) e h
  no_start callback post_return front z e (OfParams h) = subst (IsOwnRealloc (options_of a.lift)) e (own_last (options_of a.lift) h.moved z h.moved_own)
  no_start callback post_return front z e (Calls h) = let same : import.CoreDef a.callee ≡ import.StartCall callback post_return = sym h.what ∙ e in cc
  no_start callback post_return front z e (OfResults h) = subst (IsOwnRealloc (options_of a.lower)) e (own_last (options_of a.lower) h.moved z h.moved_own)
  no_start callback post_return front z e (Finishes h) = subst (IsOutsideTransfers a.lift.post_return) e h

  pub no_prepare : (memory : Option CoreDef) (front : List Call) (z : Call) → z.what ≡ import.PrepareCall memory → Stands front z → ⊥
  no_prepare memory front z e (Beside h) = subst (IsOutsideTransfers None) e h
  no_prepare memory front z e (OfParams h) = subst (IsOwnRealloc (options_of a.lift)) e (own_last (options_of a.lift) h.moved z h.moved_own)
  no_prepare memory front z e (Calls h) = let same : import.CoreDef a.callee ≡ import.PrepareCall memory = sym h.what ∙ e in cc
  no_prepare memory front z e (OfResults h) = subst (IsOwnRealloc (options_of a.lower)) e (own_last (options_of a.lower) h.moved z h.moved_own)
  no_prepare memory front z e (Finishes h) = subst (IsOutsideTransfers a.lift.post_return) e h
