-- The transfers of an honest run that gives something are honest, and begin with the memories that were given to them.
use Rattle.std.proofs.Common.{◌≡◌, ℕ, true, List, [], ◌∷◌, ◌++◌, refl, ap, ◌∙◌, subst}
use Rattle.std.specs.Prelude.{if◌then◌else◌}
use Rattle.fact_machine.specs.declared.types.CoreValue.{CoreValue}
use Rattle.fact_machine.specs.World.{World}
use Rattle.fact_types.specs.declared.import.Import.{Import}
use Rattle.fact_types.specs.declared.import.Import.TheVariants as import
use Rattle.fact_types.specs.Adapters.{LinkedAdapter}
use Rattle.fact_actions.specs.Adapters.{AdapterTunables}
use Rattle.fact_actions.specs.Calls.{is_import_of, is_call_of, is_call_of_any, state_after, side_memory}
use Rattle.fact_actions.specs.Honest.{AreHonest, AreHonestSync, IsHonestBy}
use Rattle.fact_actions.specs.Regions.{Position, landed, params_landing, results_landing, moved_on, sync_moved_on}
use Rattle.fact_actions.specs.Running.{ImportPlaces, Call}
use Rattle.fact_actions.proofs.OwnParts.{same_self}
use Rattle.fact_action_laws.specs.FaithfulLaws.{IsCheckedAdapter}
use Rattle.fact_action_laws.proofs.Apart.{advance, honest_apart, within_transfer, around_stays, around_leaves}
use Rattle.fact_action_laws.proofs.Framed.{Follow, IsAround, AreAround, IsParted}
use Rattle.fact_action_laws.proofs.Once.{none_before, none_behind, NoneCalls}
use Rattle.fact_actions.specs.Sides.{options_of}

none_apart : (a : LinkedAdapter) (cs ds : List Call) → NoneCalls a (cs ++ ds) → NoneCalls a cs × NoneCalls a ds
none_apart a [] ds h = (tt, h)
none_apart a (c ∷ cs) ds h = let r = none_apart a cs ds h.1 in ((h.0, r.0), r.1)

-- ---- post-return leaves the lower side's memory

module _ (p : ImportPlaces) (a : LinkedAdapter) where
  abbrev lower_bytes : List (List ℕ) → List ℕ
  lower_bytes ms = side_memory p (options_of a.lower) (record { memories = ms; globals = [] })

  keeps : (i : Import) (x : Position) (c : Call) → c.what ≡ i → IsAround a.lift.post_return i → IsHonestBy i p (options_of a.lower) a.lift.post_return x c → lower_bytes (state_after c).memories ≡ lower_bytes c.before.memories
  keeps (import.CoreDef e) x c is h k = k.1 (ap (λ r. is_call_of_any r c) h ∙ ap (is_import_of e) is ∙ same_self e)
  keeps (import.Transcode o from from64 to to64) x c is h k = absurd h
  keeps (import.PrepareCall m) x c is h k = absurd h
  keeps (import.StartCall f g) x c is h k = absurd h
  keeps import.ResourceTransferOwn x c is h k = absurd h
  keeps import.ResourceTransferBorrow x c is h k = absurd h
  keeps import.FutureTransfer x c is h k = absurd h
  keeps import.StreamTransfer x c is h k = absurd h
  keeps import.ErrorContextTransfer x c is h k = absurd h
  keeps (import.Trap t) x c is h k = absurd h
  keeps import.EnterSyncCall x c is h k = ap lower_bytes k
  keeps import.ExitSyncCall x c is h k = ap lower_bytes k
  keeps (import.UnsafeIntrinsic s) x c is h k = ap lower_bytes k

  finish_keeps : (next : Call → Position → Position) (x : Position) (first : List (List ℕ)) (cs : List Call) (last : List (List ℕ)) → AreAround a.lift.post_return cs → Follow first cs last → AreHonest p a next x cs → lower_bytes last ≡ lower_bytes first
  finish_keeps next x first [] last h f k = ap lower_bytes f
  finish_keeps next x first (c ∷ cs) last h f k = finish_keeps next (next c x) (state_after c).memories cs last h.1 f.1 k.2 ∙ keeps c.what x c refl h.0 k.1 ∙ ap lower_bytes f.0

-- ---- the parts

module _ (p : ImportPlaces) (u : AdapterTunables) (a : LinkedAdapter) (args : List CoreValue) (w : World) (n : ℕ) (cs : List Call) (vs : List CoreValue) (w' : World) where
  -- What honest calls make of a parted run.
  pub record AreHonestParts (k : IsParted p u a args w n cs vs w') : Type 0 where
    pub params : AreHonest p a moved_on (landed (params_landing a)) k.params
    pub begins : k.before_params.state.memories ≡ w.state.memories
    pub results : AreHonest p a moved_on (landed (results_landing a args)) k.back
    pub returns : k.before_results.state.memories ≡ (state_after k.callee).memories
    pub kept : side_memory p (options_of a.lower) w'.state ≡ side_memory p (options_of a.lower) k.behind_results.state

  pub honest_parts : IsCheckedAdapter p a → (k : IsParted p u a args w n cs vs w') → AreHonestSync p a args cs → AreHonestParts k
  honest_parts x k h =
      let on = sync_moved_on a args in
      let start = landed (params_landing a) in
      let second = landed (results_landing a args) in
      let none = (none_apart a k.enter k.params (none_before p u a args w n cs vs w' k x)).1 in
      let none_back = (none_apart a k.back k.finish (none_apart a k.between (k.back ++ k.finish) (none_behind p u a args w n cs vs w' k x)).1).0 in
      let one = honest_apart p a on start k.enter (k.params ++ (k.callee ∷ (k.between ++ (k.back ++ k.finish)))) (subst (AreHonest p a on start) k.calls_are h) in
      let two = honest_apart p a on start k.params (k.callee ∷ (k.between ++ (k.back ++ k.finish)))
      (subst (λ y. AreHonest p a on y (k.params ++ (k.callee ∷ (k.between ++ (k.back ++ k.finish))))) (around_stays p a args start k.enter k.entered.around) one.1) in
      let called : is_call_of a.callee k.callee ≡ true = ap (is_import_of a.callee) k.callee_is ∙ same_self a.callee in
      let three = honest_apart p a on second k.between (k.back ++ k.finish)
      (subst (λ b. AreHonest p a on (if b then second else moved_on k.callee (advance on start k.params)) (k.between ++ (k.back ++ k.finish))) called two.1.2) in
      let four = honest_apart p a on second k.back k.finish (subst (λ y. AreHonest p a on y (k.back ++ k.finish)) (around_stays p a args second k.between k.left.around) three.1) in
      record {
        params = within_transfer p a args start k.params none two.0;
        begins = around_leaves p a args on start w.state.memories k.enter k.before_params.state.memories k.entered.around k.entered.follow one.0;
        results = within_transfer p a args second k.back none_back four.0;
        returns = around_leaves p a args on second (state_after k.callee).memories k.between k.before_results.state.memories k.left.around k.left.follow three.0;
        kept = finish_keeps p a on (advance on second k.back) k.behind_results.state.memories k.finish w'.state.memories k.finished.around k.finished.follow four.1;
      }
