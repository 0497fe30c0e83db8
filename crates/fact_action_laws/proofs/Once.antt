-- The callee is called once in a run that gives something.
use Rattle.std.proofs.Common.{◌≡◌, ℕ, false, List, [], ◌∷◌, ◌++◌, Option, None, refl, subst, filter, cond, ap, ◌∙◌, Some}
use Rattle.fact_types.specs.declared.outside.CoreDef.{CoreDef}
use Rattle.fact_machine.specs.declared.types.CoreValue.{CoreValue}
use Rattle.fact_machine.specs.World.{World}
use Rattle.fact_types.specs.declared.import.Import.{Import}
use Rattle.fact_types.specs.declared.import.Import.TheVariants as import
use Rattle.fact_types.specs.Adapters.{LinkedAdapter, same_def}
use Rattle.fact_actions.specs.Adapters.{AdapterTunables, last_bits, move_params, move_results}
use Rattle.fact_actions.specs.Calls.{is_import_of, results, is_call_of}
use Rattle.fact_actions.specs.Order.{IsValueCall}
use Rattle.fact_actions.specs.Running.{ImportPlaces, Call, calls_in, run}
use Rattle.fact_actions.specs.Sides.{LiftLowerOptions, options_of}
use Rattle.fact_action_laws.specs.FaithfulLaws.{IsCheckedAdapter}
use Rattle.fact_action_laws.proofs.Framed.{IsAround, AreAround, IsParted}
use Rattle.fact_types.proofs.ShapeLaws.{none_some}
use Rattle.fact_action_laws.proofs.Called.{AllCalled, called_append, params_called, results_called}

-- ---- what calls call

-- no call is of the callee
abbrev pub NoneCalls : LinkedAdapter → List Call → Type 0
NoneCalls a [] = Unit {0}
NoneCalls a (c ∷ cs) = (is_call_of a.callee c ≡ false) × NoneCalls a cs

module _ (a : LinkedAdapter) where
  -- the callee is not this core function
  abbrev IsOther : Option CoreDef → Type 0
  IsOther r = (f : CoreDef) → r ≡ Some f → same_def a.callee f ≡ false

  pub other_none : IsOther None
  other_none f e = absurd (none_some None f refl e)

  -- this is not the callee
  abbrev pub Differs : Import → Type 0
  Differs i = is_import_of a.callee i ≡ false

  value_differs : (from to : LiftLowerOptions) (i : Import) → IsValueCall from to i → Differs i
  value_differs from to (import.CoreDef d) h = absurd h
  value_differs from to (import.Transcode o read read64 written written64) h = refl
  value_differs from to (import.PrepareCall m) h = absurd h
  value_differs from to (import.StartCall f g) h = absurd h
  value_differs from to import.ResourceTransferOwn h = refl
  value_differs from to import.ResourceTransferBorrow h = refl
  value_differs from to import.FutureTransfer h = refl
  value_differs from to import.StreamTransfer h = refl
  value_differs from to import.ErrorContextTransfer h = refl
  value_differs from to (import.Trap t) h = absurd h
  value_differs from to import.EnterSyncCall h = absurd h
  value_differs from to import.ExitSyncCall h = absurd h
  value_differs from to (import.UnsafeIntrinsic s) h = absurd h

  around_differs : (r : Option CoreDef) (i : Import) → IsOther r → IsAround r i → Differs i
  around_differs r (import.CoreDef d) other h = other d h
  around_differs r (import.Transcode o from from64 to to64) other h = refl
  around_differs r (import.PrepareCall m) other h = refl
  around_differs r (import.StartCall f g) other h = refl
  around_differs r import.ResourceTransferOwn other h = refl
  around_differs r import.ResourceTransferBorrow other h = refl
  around_differs r import.FutureTransfer other h = refl
  around_differs r import.StreamTransfer other h = refl
  around_differs r import.ErrorContextTransfer other h = refl
  around_differs r (import.Trap t) other h = refl
  around_differs r import.EnterSyncCall other h = refl
  around_differs r import.ExitSyncCall other h = refl
  around_differs r (import.UnsafeIntrinsic s) other h = refl

  pub aside_differs : (r : Option CoreDef) (cs : List Call) → IsOther r → AreAround r cs → AllCalled Differs cs
  aside_differs r [] other h = tt
  aside_differs r (c ∷ cs) other h = (around_differs r c.what other h.0, aside_differs r cs other h.1)

  pub none_calls : (cs : List Call) → AllCalled Differs cs → NoneCalls a cs
  none_calls [] h = tt
  none_calls (c ∷ cs) h = (h.0, none_calls cs h.1)

  pub none_filtered : (cs : List Call) → NoneCalls a cs → filter (is_call_of a.callee) cs ≡ []
  none_filtered [] h = refl
  none_filtered (c ∷ cs) h = ap (λ b. cond b (c ∷ filter (is_call_of a.callee) cs) (filter (is_call_of a.callee) cs)) h.0 ∙ none_filtered cs h.1

-- ---- the calls of transfers

module _ (p : ImportPlaces) (u : AdapterTunables) (a : LinkedAdapter) (x : IsCheckedAdapter p a) (w : World) where
  -- transfers do not call the callee
  pub params_differ : (args : List CoreValue) → AllCalled (Differs a) (calls_in (run p (move_params u a args) w))
  params_differ args = params_called (Differs a) (λ t. refl) (λ s. refl) u a x.own_callee.lift_realloc (value_differs a (options_of a.lower) (options_of a.lift)) args p w

  pub results_differ : (given : List CoreValue) (pointer : ℕ) → AllCalled (Differs a) (calls_in (run p (move_results u a given pointer) w))
  results_differ given pointer = results_called (Differs a) (λ t. refl) (λ s. refl) u a x.own_callee.lower_realloc (value_differs a (options_of a.lift) (options_of a.lower)) given pointer p w

-- ---- the calls of a parted run

module _ (p : ImportPlaces) (u : AdapterTunables) (a : LinkedAdapter) (args : List CoreValue) (w : World) (n : ℕ) (cs : List Call) (vs : List CoreValue) (w' : World) (k : IsParted p u a args w n cs vs w') where
  -- No call before the callee's is of the callee, and none behind it.
  pub none_before : IsCheckedAdapter p a → NoneCalls a (k.enter ++ k.params)
  none_before x = none_calls a (k.enter ++ k.params)
      (called_append (Differs a) k.enter k.params (aside_differs a None k.enter (other_none a) k.entered.around) (subst (λ e. AllCalled (Differs a) (calls_in e)) k.params_run (params_differ p u a x k.before_params args)))

  pub none_behind : IsCheckedAdapter p a → NoneCalls a (k.between ++ (k.back ++ k.finish))
  none_behind x = none_calls a (k.between ++ (k.back ++ k.finish))
      (called_append (Differs a) k.between (k.back ++ k.finish) (aside_differs a None k.between (other_none a) k.left.around)
      (called_append (Differs a) k.back k.finish (subst (λ e. AllCalled (Differs a) (calls_in e)) k.results_run (results_differ p u a x k.before_results (results k.callee) (last_bits args))) (aside_differs a a.lift.post_return k.finish x.own_callee.post_return k.finished.around)))
