-- The callee is called once in a run of an adapter that returns.
use Rattle.std.proofs.Common.{◌≡◌, ◌⊎◌, inl, inr, Bool, true, false, List, [], ◌∷◌, ◌++◌, map, filter, Option, Some, None, refl, sym, ap, ◌∙◌, subst, cond, append_assoc}
use Rattle.std.proofs.lemmas.List.Elements.{filter-append}
use Rattle.std.specs.Prelude.{ℕ, ◌&&◌, is_some}
use Rattle.fact_types.specs.declared.import.Import.{Import}
use Rattle.fact_types.specs.declared.import.Import.TheVariants as import
use Rattle.fact_types.specs.declared.outside.CoreDef.{CoreDef}
use Rattle.fact_types.specs.Adapters.{LinkedAdapter, same_def}
use Rattle.fact_machine.specs.declared.types.CoreValue.{CoreValue}
use Rattle.fact_machine.specs.declared.types.MachineState.{MachineState}
use Rattle.fact_machine.specs.World.{World}
use Rattle.fact_actions.specs.Adapters.{AdapterTunables, enters}
use Rattle.fact_actions.specs.AdapterLaws.{IsCalledOnce}
use Rattle.fact_actions.specs.Calls.{HasOwnCallee, is_import_of, is_call_of, results}
use Rattle.fact_actions.specs.Order.{AskedCall, asks, request_calls, IsRequest, IsValueCall, IsOne, all_of, AreTransferGroups, AreOfTransfer, AreOrderedCalls, where_due, post_return_calls}
use Rattle.fact_actions.specs.Plain.{ended_sync}
use Rattle.fact_actions.specs.Running.{ImportPlaces, Call, Gave}
use Rattle.fact_actions.specs.Sides.{LiftLowerOptions, options_of}
use Rattle.fact_actions.proofs.Ordered.{calls_are_ordered}

-- none of what is asked is asked of a core function
AllDiffer : CoreDef → List AskedCall → Type 0
AllDiffer d [] = Unit {0}
AllDiffer d (x ∷ xs) = (is_import_of d x.0 ≡ false) × AllDiffer d xs

module _ (a : LinkedAdapter) where
  abbrev Differs : Import → Type 0
  Differs i = is_import_of a.callee i ≡ false

  abbrev Others : Option CoreDef → Type 0
  Others r = (f : CoreDef) → r ≡ Some f → same_def a.callee f ≡ false

  -- no call is of the callee
  abbrev NoneCalls : List Call → Type 0
  NoneCalls cs = filter (is_call_of a.callee) cs ≡ []

  none_more : (c : Call) (cs : List Call) → Differs c.what → NoneCalls cs → NoneCalls (c ∷ cs)
  none_more c cs h k = ap (λ b. cond b (c ∷ filter (is_call_of a.callee) cs) (filter (is_call_of a.callee) cs)) h ∙ k

  none_on : (cs ds : List Call) → NoneCalls cs → NoneCalls ds → NoneCalls (cs ++ ds)
  none_on cs ds h k = filter-append (is_call_of a.callee) cs ds ∙ ap (λ l. l ++ filter (is_call_of a.callee) ds) h ∙ k

  none_asked : (cs : List Call) → AllDiffer a.callee (map asks cs) → NoneCalls cs
  unfolding AllDiffer
  none_asked [] h = refl
  none_asked (c ∷ cs) h = none_more c cs h.0 (none_asked cs h.1)

  request_differs : (b : Bool) (f : CoreDef) (args : List CoreValue) (group : List Call) → same_def a.callee f ≡ false → AllDiffer a.callee (request_calls b f args group)
  unfolding AllDiffer
  request_differs false f args group h = (h, tt)
  request_differs true f args group h = (refl, (refl, (refl, (refl, (h, (refl, (refl, tt)))))))

  value_differs : (from to : LiftLowerOptions) (i : Import) → IsValueCall from to i → Differs i
  value_differs from to (import.CoreDef d) h = absurd h
  value_differs from to (import.Transcode o read read64 written written64) h = refl
  value_differs from to (import.PrepareCall m) h = absurd h
  value_differs from to (import.StartCall f g) h = absurd h
  value_differs from to import.ResourceTransferOwn h = refl
  value_differs from to import.ResourceTransferBorrow h = refl
  value_differs from to import.FutureTransfer h = refl
  value_differs from to import.StreamTransfer h = refl
  value_differs from to import.ErrorContextTransfer h = refl
  value_differs from to (import.Trap t) h = absurd h
  value_differs from to import.EnterSyncCall h = absurd h
  value_differs from to import.ExitSyncCall h = absurd h
  value_differs from to (import.UnsafeIntrinsic s) h = absurd h

  group_none : (b : Bool) (from to : LiftLowerOptions) (group : List Call) → Others to.realloc → IsRequest b to group ⊎ IsOne (IsValueCall from to) group → NoneCalls group
  group_none b from to group other (inl r) =
      none_asked group (subst (AllDiffer a.callee) (sym r.calls_are) (request_differs b r.realloc r.args group (other r.realloc r.realloc_is)))
  group_none b from to group other (inr o) = subst NoneCalls (sym o.1) (none_more o.0 [] (value_differs from to o.0.what o.2) refl)

  groups_none : (b : Bool) (from to : LiftLowerOptions) (groups : List (List Call)) → Others to.realloc → AreTransferGroups b from to groups → NoneCalls (all_of groups)
  groups_none b from to [] other h = refl
  groups_none b from to (group ∷ groups) other h = none_on group (all_of groups) (group_none b from to group other h.0) (groups_none b from to groups other h.1)

  transfer_none : (b : Bool) (from to : LiftLowerOptions) (cs : List Call) → Others to.realloc → AreOfTransfer b from to cs → NoneCalls cs
  transfer_none b from to cs other t = subst NoneCalls (sym t.calls_are) (groups_none b from to t.groups other t.each)

  due_differs : (b : Bool) (xs : List AskedCall) → AllDiffer a.callee xs → AllDiffer a.callee (where_due b xs)
  unfolding AllDiffer
  due_differs true xs h = h
  due_differs false xs h = tt

  finish_differs : (b : Bool) (f : Option CoreDef) (given : List CoreValue) (reads group : List Call) → Others f → AllDiffer a.callee (post_return_calls b f given reads group)
  unfolding AllDiffer
  finish_differs b None given reads group other = tt
  finish_differs false (Some f) given reads group other = (other f refl, tt)
  finish_differs true (Some f) given reads group other = (refl, (refl, (refl, (refl, (other f refl, (refl, (refl, tt)))))))

  one_differs : (i : Import) (args : List CoreValue) → Differs i → AllDiffer a.callee ((i, args) ∷ [])
  unfolding AllDiffer
  one_differs i args h = (h, tt)

  two_differ : (i j : Import) → Differs i → Differs j → AllDiffer a.callee ((i, []) ∷ (j, []) ∷ [])
  unfolding AllDiffer
  two_differ i j h k = (h, (k, tt))

  asked_none : (cs : List Call) (xs : List AskedCall) → map asks cs ≡ xs → AllDiffer a.callee xs → NoneCalls cs
  asked_none cs xs e h = none_asked cs (subst (AllDiffer a.callee) (sym e) h)

-- The calls that are ordered have one of the callee.
pub once_ordered : {p : ImportPlaces} {u : AdapterTunables} {a : LinkedAdapter} {first last : MachineState} {calls : List Call} → HasOwnCallee a → AreOrderedCalls p u a first calls last → IsCalledOnce a calls
once_ordered {u} {a} own o = record {
  before = o.enter ++ o.params;
  callee = o.callee;
  behind = o.reads ++ (o.exit ++ (o.results_moved ++ o.finish));
  calls_are = o.calls_are ∙ sym (append_assoc o.enter o.params (o.callee ∷ (o.reads ++ (o.exit ++ (o.results_moved ++ o.finish)))));
  callee_is = o.callee_is;
  none_before = none_on a o.enter o.params
      (asked_none a o.enter _ o.enter_is (due_differs a (enters u a) _ (one_differs a _ _ refl)))
      (transfer_none a u.concurrency (options_of a.lower) (options_of a.lift) o.params own.lift_realloc o.params_are);
  none_behind = none_on a o.reads _
      (asked_none a o.reads _ o.reads_are (due_differs a (u.concurrency && is_some a.lift.post_return) _ (two_differ a _ _ refl refl)))
      (none_on a o.exit _
      (asked_none a o.exit _ o.exit_is (due_differs a (enters u a) _ (one_differs a _ _ refl)))
      (none_on a o.results_moved o.finish
      (transfer_none a u.concurrency (options_of a.lift) (options_of a.lower) o.results_moved own.lower_realloc o.results_are)
      (asked_none a o.finish _ o.finish_is (finish_differs a u.concurrency a.lift.post_return (results o.callee) o.reads o.finish own.post_return))));
}

pub called_once : (p : ImportPlaces) (u : AdapterTunables) (a : LinkedAdapter) (args : List CoreValue) (w w' : World) (n : ℕ) (cs : List Call) (vs : List CoreValue)
    → HasOwnCallee a → ended_sync p u a args w ≡ Gave n cs vs w' → IsCalledOnce a cs
called_once p u a args w w' n cs vs own e = once_ordered own (calls_are_ordered p u a args w w' n cs vs e)
