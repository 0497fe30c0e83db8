-- The function of an async adapter that moves parameters: an honest run that gives something has carried them.
use Rattle.std.proofs.Common.{◌≡◌, ℕ, ◌⊎◌, inl, inr, Bool, true, List, [], ◌∷◌, ◌++◌, length, map, Option, Some, None, refl, sym, subst, append-nil}
use Rattle.fact_wasm.specs.declared.types.ValType.{ValType}
use Rattle.fact_types.specs.Adapters.{LinkedAdapter, is_wide}
use Rattle.fact_types.specs.Agrees.{AgreesPlaces}
use Rattle.fact_types.specs.Flat.{value_type}
use Rattle.fact_types.specs.FlatShapes.{pointer, flat_all}
use Rattle.fact_types.specs.Shapes.{Shape}
use Rattle.fact_types.specs.Signatures.{width, address, flat_or, flat_values, flat_params, lower_limit}
use Rattle.fact_types.specs.Tuples.{tuple_members}
use Rattle.fact_types.specs.declared.flats.FlatType.{FlatType}
use Rattle.fact_types.specs.declared.flats.FlatType.TheVariants as flat_type
use Rattle.fact_machine.specs.declared.types.CoreValue.{CoreValue}
use Rattle.fact_machine.specs.declared.types.MachineState.{MachineState}
use Rattle.fact_machine.specs.Typed.{are_values}
use Rattle.fact_machine.specs.World.{World}
use Rattle.fact_values.specs.declared.value.Value.{Value}
use Rattle.fact_values.specs.Places.{typed_names}
use Rattle.fact_actions.specs.Adapters.{AdapterTunables, start_params, async_start, move_params}
use Rattle.fact_actions.specs.AdapterLaws.{IsChecked, HasNotGiven}
use Rattle.fact_actions.specs.Calls.{side_memory}
use Rattle.fact_actions.specs.Honest.{AreHonestStart, IsHonestStart}
use Rattle.fact_actions.specs.Regions.{Region}
use Rattle.fact_actions.specs.Running.{ImportPlaces, Call, Ended, Gave, Halted, Strayed, is_state, moved_weight, calls_in, run}
use Rattle.fact_actions.specs.Sides.{options_of}
use Rattle.fact_actions.proofs.CheckedMoves.{start_checked}
use Rattle.fact_action_laws.specs.Faithful.{params_given, WhereGiven, weight_of_values}
use Rattle.fact_action_laws.specs.FaithfulLaws.{quiet, IsCheckedAdapter, TextsMove}
use Rattle.fact_action_laws.specs.HonestMoves.{AreHonestCalls}
use Rattle.fact_action_laws.specs.Regions.{TransferSetting}
use Rattle.fact_action_laws.specs.TransferLaws.{HasHandedParams, StartsAreFaithful, StartsWeigh}
use Rattle.fact_action_laws.proofs.Cleared.{IsButForFlags, without_flags, cleared_is}
use Rattle.fact_action_laws.proofs.Deliveries.{params_setting, params_are_come, params_come_or_never, params_does, params_honest}
use Rattle.fact_action_laws.proofs.Landed.{flat_of, params_landed}
use Rattle.fact_action_laws.proofs.Membered.{members_formed}
use Rattle.fact_action_laws.specs.Judged.{GivesNothing}
use Rattle.fact_action_laws.proofs.Transfers.{WentBy, ComeBy}
use Rattle.fact_action_laws.proofs.TypedArgs.{IsNumeric, AreNumeric}
use Rattle.fact_action_laws.proofs.Weighed.{does_give_so, moved_weighs}

-- What gives nothing is never asked what it gave.
pub not_given : (e : Ended (List CoreValue)) (P : List Call → List CoreValue → World → Type 0) → HasNotGiven e → WhereGiven e P
not_given (Gave n cs vs w) P h = absurd h
not_given (Halted n cs s w) P h = tt
not_given (Strayed n cs w) P h = tt

-- ---- flat values, or a pointer to them

flat_number : (f : FlatType) → IsNumeric (value_type f)
flat_number flat_type.I32 = tt
flat_number flat_type.I64 = tt
flat_number flat_type.F32 = tt
flat_number flat_type.F64 = tt

pub flat_numeric : (b : Bool) (limit : ℕ) (ss : List Shape) → AreNumeric (flat_params b limit ss)
flat_numeric b limit ss = go (flat_all (width b) limit ss)
  where
    all : (fs : List FlatType) → AreNumeric (map value_type fs)
    all [] = tt
    all (f ∷ fs) = (flat_number f, all fs)

    go : (o : Option (List FlatType)) → AreNumeric (flat_or (address b ∷ []) (flat_of o))
    go None = (flat_number (pointer (width b)), tt)
    go (Some fs) = all fs

-- what parameters weigh that went so
went_weighs : (c : TransferSetting) (ss us : List Shape) (q : Option (List ValType)) (gs : List Region) (m : List ℕ) (rs : List Value) (n : ℕ) (cs : List Call) (vs : List CoreValue) (w : World)
    → AgreesPlaces (tuple_members ss) (tuple_members us) → length rs ≡ length (typed_names (tuple_members ss)) → WentBy c ss us q gs m rs n cs vs w → (source : Option (List Value)) → source ≡ Some rs → n ≡ weight_of_values ss source
went_weighs c ss us (Some flats) gs m rs n cs vs w agree long went source from = moved_weighs c _ _ ss us _ rs n cs vs w agree long went source from
went_weighs c ss us None gs m rs n cs vs w agree long went source from = moved_weighs c _ _ ss us _ rs n _ _ w agree long went.moved source from

-- ---- runs

module _ (p : ImportPlaces) (u : AdapterTunables) (a : LinkedAdapter) (x : IsCheckedAdapter p a) (texts : TextsMove p u a) (args : List CoreValue) (w : World)
    (typed : is_state p w.state ≡ true) (args_typed : are_values args (start_params a) ≡ true) where
  abbrev pub c : TransferSetting
  c = params_setting p u a x texts w.state typed

  -- where the parameters are moved
  abbrev pub meanwhile : World
  meanwhile = without_flags p a.lift.instance w

  pub numeric : AreNumeric (start_params a ++ [])
  numeric = subst AreNumeric (sym (append-nil (start_params a))) (flat_numeric (is_wide a.lower.memory) (lower_limit a.lower.async_side) a.lower.params)

  pub all_typed : are_values args (start_params a ++ []) ≡ true
  all_typed = subst (λ l. are_values args l ≡ true) (sym (append-nil (start_params a))) args_typed

  -- What a run that gives something has done.
  pub record Started (n : ℕ) (cs : List Call) (vs : List CoreValue) (s : MachineState) : Type 0 where
    pub started : HasHandedParams p a args w.state cs vs s
    pub weighs : n ≡ weight_of_values a.lower.params (params_given p a args w.state)

  started : (n : ℕ) (cs : List Call) (vs : List CoreValue) (w' : World) (s : MachineState) → run p (move_params (quiet u) a args) meanwhile ≡ Gave n cs vs w' → s.memories ≡ w'.state.memories → AreHonestStart p a cs → Started n cs vs s
  started n cs vs w' s is same h = go (params_come_or_never p u a x texts w.state typed args [] numeric all_typed meanwhile refl)
    where
      honest : AreHonestCalls c [] cs
      honest = params_honest p u a x texts w.state typed args [] numeric all_typed meanwhile refl _ is h

      go : ((rs : List Value) × ComeBy c a.lower.params a.lift.params (flat_values (is_wide a.lower.memory) (lower_limit a.lower.async_side) a.lower.params) args rs) ⊎ GivesNothing c [] (move_params (quiet u) a args) meanwhile → Started n cs vs s
      go (inr never) = absurd (does_give_so c [] _ _ (move_params (quiet u) a args) meanwhile n cs vs w' never is honest)
      go (inl k) =
          let rs = k.0 in
          let m = side_memory p (options_of a.lift) w.state in
          let come = params_are_come p u a x texts w.state typed args [] numeric all_typed rs k.1 in
          let formed = members_formed 0 a.lift.params x.lift_params.formed in
          let does = params_does p u a x texts w.state typed args [] numeric all_typed meanwhile refl rs k.1 in
          let went = does_give_so c [] _ _ (move_params (quiet u) a args) meanwhile n cs vs w' does is honest in
          let landed = params_landed c a.lower.params a.lift.params x.params_agree formed rs come.are come.long (params_given p a args w.state) come.given m n cs vs w' s same went in
          record {
            started = record { params = landed.transferred; canonical = landed.canonical };
            weighs = went_weighs c a.lower.params a.lift.params (flat_values (is_wide a.lift.memory) 16 a.lift.params) [] m rs n cs vs w' x.params_agree come.long went (params_given p a args w.state) come.given;
          }

  -- the whole function, without debug checks
  pub in_quiet : (e : Ended (List CoreValue)) → run p (async_start (quiet u) a args) w ≡ e → AreHonestStart p a (calls_in e) → WhereGiven e (λ cs vs w'. Started (moved_weight e) cs vs w'.state)
  in_quiet e is h = go e (subst (λ e. IsButForFlags e (run p (move_params (quiet u) a args) meanwhile)) is (cleared_is p a.lift.instance (move_params (quiet u) a args) w)) h
    where
      go : (e : Ended (List CoreValue)) → IsButForFlags e (run p (move_params (quiet u) a args) meanwhile) → AreHonestStart p a (calls_in e) → WhereGiven e (λ cs vs w'. Started (moved_weight e) cs vs w'.state)
      go (Gave n cs vs w2) f h = started n cs vs f.0 w2.state f.1 f.2 h
      go (Halted n cs s w2) f h = tt
      go (Strayed n cs w2) f h = tt

-- Debug checks only cut a run short.
module _ (p : ImportPlaces) (u : AdapterTunables) (a : LinkedAdapter) (args : List CoreValue) (w : World) (x : IsCheckedAdapter p a) (texts : TextsMove p u a) (h : IsHonestStart p a args w.state (run p (async_start u a args) w)) where
  each_start : WhereGiven (run p (async_start u a args) w) (λ cs vs w'. Started p u a x texts args w h.state_typed h.args_typed (moved_weight (run p (async_start u a args) w)) cs vs w'.state)
  each_start = go (run p (async_start u a args) w) h.honest (start_checked p u a args w)
    where
      go : (e : Ended (List CoreValue)) → AreHonestStart p a (calls_in e) → IsChecked e (run p (async_start (quiet u) a args) w) → WhereGiven e (λ cs vs w'. Started p u a x texts args w h.state_typed h.args_typed (moved_weight e) cs vs w'.state)
      go e honest (inl same) = in_quiet p u a x texts args w h.state_typed h.args_typed e (sym same) honest
      go e honest (inr short) = not_given e _ short.ends

-- where something is given, it is so
pub given_so : (e : Ended (List CoreValue)) (P Q : List Call → List CoreValue → World → Type 0) → WhereGiven e P → ((cs : List Call) (vs : List CoreValue) (w : World) → P cs vs w → Q cs vs w) → WhereGiven e Q
given_so (Gave n cs vs w) P Q h f = f cs vs w h
given_so (Halted n cs s w) P Q h f = tt
given_so (Strayed n cs w) P Q h f = tt

pub starts_faithful : StartsAreFaithful
starts_faithful p u a args w x texts h = given_so (run p (async_start u a args) w) _ _ (each_start p u a args w x texts h) (λ cs vs w' s. s.started)

pub starts_weigh : StartsWeigh
starts_weigh p u a args w x texts h = given_so (run p (async_start u a args) w) _ _ (each_start p u a args w x texts h) (λ cs vs w' s. s.weighs)
