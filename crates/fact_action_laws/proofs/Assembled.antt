-- A run whose two transfers were carried is faithful.
use Rattle.std.proofs.Common.{ℕ, List, [], ◌∷◌, ◌++◌, None, refl, sym, ◌∙◌, subst, append_assoc, append-nil}
use Rattle.fact_types.specs.FlatShapes.{flat_all}
use Rattle.fact_machine.specs.declared.types.CoreValue.{CoreValue}
use Rattle.fact_machine.specs.World.{World}
use Rattle.fact_types.specs.Adapters.{LinkedAdapter}
use Rattle.fact_actions.specs.Adapters.{AdapterTunables, last_bits}
use Rattle.fact_actions.specs.Calls.{side_memory}
use Rattle.fact_actions.specs.Running.{ImportPlaces, Call}
use Rattle.fact_actions.specs.Sides.{first_bits, width_of_side, side_abi, options_of}
use Rattle.fact_action_laws.specs.Faithful.{params_given, params_passed, results_answered, results_got, IsTransferred, AreCanonical, flat_results_of, IsFaithful}
use Rattle.fact_action_laws.specs.FaithfulLaws.{IsCheckedAdapter}
use Rattle.fact_action_laws.proofs.Framed.{IsParted, aside_crosses}
use Rattle.fact_action_laws.proofs.Membered.{transferred_among}
use Rattle.fact_action_laws.proofs.Once.{none_before, none_behind, none_filtered}

module _ (p : ImportPlaces) (u : AdapterTunables) (a : LinkedAdapter) (args : List CoreValue) (w : World) (n : ℕ) (cs : List Call) (vs : List CoreValue) (w' : World) where
  pub assembled : IsCheckedAdapter p a → (k : IsParted p u a args w n cs vs w')
      → IsTransferred a.lower.params a.lift.params (params_given p a args w.state) (params_passed p a k.callee) k.params
      → IsTransferred a.lift.results a.lower.results (results_answered p a k.callee) (results_got p a args vs w'.state) k.back
      → AreCanonical (side_abi (options_of a.lift)) (side_memory p (options_of a.lift) k.callee.before) (flat_all (width_of_side (options_of a.lift)) 16 a.lift.params) a.lift.params k.callee.args (first_bits k.callee.args)
      → AreCanonical (side_abi (options_of a.lower)) (side_memory p (options_of a.lower) w'.state) (flat_results_of a.lower) a.lower.results vs (last_bits args)
      → IsFaithful p a args w.state cs vs w'.state
  assembled x k params results params_canonical results_canonical = record {
    may_leave = k.may_leave;
    once = record {
      before = k.enter ++ k.params;
      callee = k.callee;
      behind = k.between ++ (k.back ++ k.finish);
      calls_are = k.calls_are ∙ sym (append_assoc k.enter k.params (k.callee ∷ (k.between ++ (k.back ++ k.finish))));
      callee_is = k.callee_is;
      none_before = none_filtered a (k.enter ++ k.params) (none_before p u a args w n cs vs w' k x);
      none_behind = none_filtered a (k.between ++ (k.back ++ k.finish)) (none_behind p u a args w n cs vs w' k x);
    };
    params = subst (λ l. IsTransferred a.lower.params a.lift.params (params_given p a args w.state) (params_passed p a k.callee) (k.enter ++ l)) (append-nil k.params)
        (transferred_among a.lower.params a.lift.params _ _ k.enter k.params [] (aside_crosses None k.enter k.entered.around) refl params);
    results = transferred_among a.lift.results a.lower.results _ _ k.between k.back k.finish (aside_crosses None k.between k.left.around) (aside_crosses a.lift.post_return k.finish k.finished.around) results;
    params_canonical = params_canonical;
    results_canonical = results_canonical;
  }
