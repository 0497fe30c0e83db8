-- Honest runs within limits come to their end with debug checks on too, where core values are narrow: no check fails.
use Rattle.std.proofs.Common.{◌≡◌, ℕ, suc, Bool, true, false, List, [], ◌∷◌, ◌++◌, refl, sym, ap, ◌∙◌, subst}
use Rattle.fact_types.specs.Adapters.{LinkedAdapter}
use Rattle.fact_types.specs.Shapes.{Shape}
use Rattle.fact_types.specs.declared.import.Import.{Import}
use Rattle.fact_types.specs.declared.import.Import.TheVariants as import
use Rattle.fact_types.specs.declared.outside.CoreDef.{CoreDef}
use Rattle.fact_types.specs.declared.outside.Trap.TheVariants.{UncaughtException}
use Rattle.fact_types.specs.Tuples.{members_from}
use Rattle.fact_types.specs.FlatShapes.{AreCounted}
use Rattle.fact_types.specs.Valid.{IsValid}
use Rattle.fact_types.proofs.ValidLaws.{valid_counted}
use Rattle.std.specs.List.{AllByRecursion}
use Rattle.fact_machine.specs.declared.types.CoreValue.{CoreValue}
use Rattle.fact_machine.specs.World.{Trap, Throw, Lack}
use Rattle.fact_actions.specs.Actions.{trap}
use Rattle.fact_actions.specs.AdapterLaws.{HasCountedTypes}
use Rattle.fact_actions.specs.Adapters.{AdapterTunables, sync, async_start, async_return}
use Rattle.fact_actions.specs.Confined.{HaveHonestTranscoders, IsHonestTranscoder}
use Rattle.fact_actions.specs.Honest.{AreHonest, IsHonestBy, IsHonestRun, IsHonestStart, IsHonestReturn}
use Rattle.fact_actions.specs.Plain.{guarded_if, ended_sync}
use Rattle.fact_actions.specs.Regions.{Position, landed, params_landing, results_landing, moved_on, sync_moved_on}
use Rattle.fact_actions.specs.Running.{ImportPlaces, Call, Ended, Gave, Halted, Strayed, heavier, later, calls_in, run}
use Rattle.fact_actions.specs.Sides.{options_of}
use Rattle.fact_actions.proofs.CheckedMoves.{checks_sync, checks_start, checks_return}
use Rattle.fact_action_laws.specs.Faithful.{params_given, weight_of_values, IsInLimits, ComesToEnd}
use Rattle.fact_action_laws.specs.TransferLaws.{results_taken, EndsInFew}
use Rattle.fact_action_laws.specs.FaithfulLaws.{quiet, IsCheckedAdapter}
use Rattle.fact_action_laws.proofs.Ending.{runs_come_to_end}
use Rattle.fact_action_laws.proofs.TransferEnds.{starts_come_to_end as quiet_starts, returns_come_to_end as quiet_returns}
use Rattle.fact_action_laws.specs.AdapterValueLaws.{AdaptersComeToEnd, CheckedStartsComeToEnd, CheckedReturnsComeToEnd, ChecksPass, StartChecksPass, ReturnChecksPass}
use Rattle.fact_action_laws.specs.Premises.{KnowsMemories}
use Rattle.fact_action_laws.specs.PassingChecks.{AreNarrowResults}
use Rattle.fact_action_laws.proofs.AdapterRanges.{transcoders_are_ranged, start_transcoders_are_ranged, return_transcoders_are_ranged}
use Rattle.fact_action_laws.proofs.Finished.{texts_move}
use Rattle.fact_action_laws.proofs.GoodAnswers.{good_answers}
use Rattle.fact_action_laws.proofs.SparedMoves.{IsGoodBy, spares_sync, spares_start, spares_return}
use Rattle.fact_action_laws.proofs.Spares.{AreGood, same_run}

-- ---- what is known of an adapter

members_counted : (n : ℕ) (ts : List Shape) → AllByRecursion IsValid ts → AreCounted (members_from n ts)
members_counted n [] h = tt
members_counted n (t ∷ ts) h = (valid_counted t h.0, members_counted (suc n) ts h.1)

counted : (p : ImportPlaces) (a : LinkedAdapter) → IsCheckedAdapter p a → HasCountedTypes a
counted p a x = record {
  lower_params = members_counted 0 a.lower.params x.lower_params.valid;
  lower_results = members_counted 0 a.lower.results x.lower_results.valid;
  lift_params = members_counted 0 a.lift.params x.lift_params.valid;
  lift_results = members_counted 0 a.lift.results x.lift_results.valid;
}

memories_known : (p : ImportPlaces) (a : LinkedAdapter) → IsCheckedAdapter p a → KnowsMemories p a
memories_known p a x = record { lower = x.lower_memory; lift = x.lift_memory; two = x.memories }

-- ---- honest transcoders

honest_transcoder : (i : Import) (p : ImportPlaces) (a : LinkedAdapter) (x : Position) (c : Call) → IsHonestBy i p (options_of a.lower) a.lift.post_return x c → IsHonestTranscoder i p c
honest_transcoder (import.Transcode o from from64 to to64) p a x c h = λ returned. h
honest_transcoder (import.CoreDef d) p a x c h = tt
honest_transcoder import.ResourceTransferOwn p a x c h = tt
honest_transcoder import.ResourceTransferBorrow p a x c h = tt
honest_transcoder (import.PrepareCall m) p a x c h = tt
honest_transcoder (import.StartCall callback post_return) p a x c h = tt
honest_transcoder import.FutureTransfer p a x c h = tt
honest_transcoder import.StreamTransfer p a x c h = tt
honest_transcoder import.ErrorContextTransfer p a x c h = tt
honest_transcoder (import.Trap t) p a x c h = tt
honest_transcoder import.EnterSyncCall p a x c h = tt
honest_transcoder import.ExitSyncCall p a x c h = tt
honest_transcoder (import.UnsafeIntrinsic s) p a x c h = tt

honest_transcoders : (p : ImportPlaces) (a : LinkedAdapter) (next : Call → Position → Position) (x : Position) (cs : List Call) → AreHonest p a next x cs → HaveHonestTranscoders p cs
honest_transcoders p a next x [] h = tt
honest_transcoders p a next x (c ∷ cs) h = (honest_transcoder c.what p a x c h.1, honest_transcoders p a next (next c x) cs h.2)

-- ---- the barrier

module _ (Good : Import → (args results : List CoreValue) → Type 0) where
  good_front : (cs ds : List Call) → AreGood Good (cs ++ ds) → AreGood Good cs
  good_front [] ds h = tt
  good_front (c ∷ cs) ds h = (h.0, good_front cs ds h.1)

  -- what was called before it
  good_inside : (b : Bool) (p : ImportPlaces) (e : Ended (List CoreValue)) → AreGood Good (calls_in (guarded_if b p e)) → AreGood Good (calls_in e)
  good_inside false p e h = h
  good_inside true p (Gave n cs vs w) h = h
  good_inside true p (Halted n cs Trap w) h = h
  good_inside true p (Halted n cs Lack w) h = h
  good_inside true p (Halted n cs Throw w) h = good_front cs (calls_in (run p (trap UncaughtException) w)) (subst (AreGood Good) (behind n cs (run p (trap UncaughtException) w)) h)
    where
      behind : {A : Type 0} (n : ℕ) (cs : List Call) (e : Ended A) → calls_in (heavier n (later cs e)) ≡ cs ++ calls_in e
      behind n cs (Gave m ds a w) = refl
      behind n cs (Halted m ds s w) = refl
      behind n cs (Strayed m ds w) = refl
  good_inside true p (Strayed n cs w) h = h

-- ---- runs

quiet_is : (u : AdapterTunables) → u.debug ≡ false → u ≡ quiet u
quiet_is u e = (λ i. record u { debug = e i })

-- what is asked of the answers of core functions: that the callee's are narrow; of those of a transfer alone, nothing
abbrev Answered : LinkedAdapter → CoreDef → List CoreValue → Type 0
Answered a d rs = d ≡ a.callee → AreNarrowResults a rs

abbrev Anything : CoreDef → List CoreValue → Type 0
Anything d rs = Unit {0}

pub checks_pass : ChecksPass
checks_pass p u a args w x honest pass = by_debug u.debug refl
  where
    by_debug : (b : Bool) → u.debug ≡ b → ended_sync p u a args w ≡ ended_sync p (quiet u) a args w
    by_debug false off = ap (λ u. ended_sync p u a args w) (quiet_is u off)
    by_debug true on =
        let cs = calls_in (ended_sync p u a args w) in
        let transcoders = honest_transcoders p a (sync_moved_on a args) (landed (params_landing a)) cs honest.honest in
        let ranged = transcoders_are_ranged p u a args w x.own_callee (memories_known p a x) honest.state_typed honest.typed transcoders in
        let good = good_answers (Answered a) p (sync_moved_on a args) (landed (params_landing a)) cs [] cs refl transcoders ranged (λ before c behind d e is same. pass.results on before c behind e (is ∙ ap import.CoreDef same)) in
        ap (guarded_if u.exceptions p)
        (same_run (IsGoodBy (Answered a)) p (checks_sync u a args) (spares_sync (Answered a) u a (counted p a x) (λ rs h. h refl) args (pass.params on)) w (good_inside (IsGoodBy (Answered a)) u.exceptions p (run p (sync u a args) w) good))

pub start_checks_pass : StartChecksPass
start_checks_pass p u a args w x honest pass = by_debug u.debug refl
  where
    by_debug : (b : Bool) → u.debug ≡ b → run p (async_start u a args) w ≡ run p (async_start (quiet u) a args) w
    by_debug false off = ap (λ u. run p (async_start u a args) w) (quiet_is u off)
    by_debug true on =
        let cs = calls_in (run p (async_start u a args) w) in
        let transcoders = honest_transcoders p a moved_on (landed (params_landing a)) cs honest.honest in
        let ranged = start_transcoders_are_ranged p u a args w x.own_callee (memories_known p a x) honest.state_typed honest.typed transcoders in
        let good = good_answers Anything p moved_on (landed (params_landing a)) cs [] cs refl transcoders ranged (λ before c behind d e is. tt) in
        same_run (IsGoodBy Anything) p (checks_start u a args) (spares_start Anything u a (counted p a x) args (pass on)) w good

pub return_checks_pass : ReturnChecksPass
return_checks_pass p u a args w x honest pass = by_debug u.debug refl
  where
    by_debug : (b : Bool) → u.debug ≡ b → run p (async_return u a args) w ≡ run p (async_return (quiet u) a args) w
    by_debug false off = ap (λ u. run p (async_return u a args) w) (quiet_is u off)
    by_debug true on =
        let cs = calls_in (run p (async_return u a args) w) in
        let transcoders = honest_transcoders p a moved_on (landed (results_landing a args)) cs honest.honest in
        let ranged = return_transcoders_are_ranged p u a args w x.own_callee (memories_known p a x) honest.state_typed honest.typed transcoders in
        let good = good_answers Anything p moved_on (landed (results_landing a args)) cs [] cs refl transcoders ranged (λ before c behind d e is. tt) in
        same_run (IsGoodBy Anything) p (checks_return u a args) (spares_return Anything u a (counted p a x) args (pass on)) w good

-- ---- so they come to their ends

pub adapters_come_to_end : AdaptersComeToEnd
adapters_come_to_end p u a args w pass x sides honest limits =
    let same = checks_pass p u a args w x honest pass in
    subst (λ e. ComesToEnd p a args w.state e) (sym same)
    (runs_come_to_end p (quiet u) a args w refl x sides (texts_move p (quiet u) a x) (subst (IsHonestRun p a args w.state) same honest) (subst (λ e. IsInLimits p a args w.state (calls_in e)) same limits))

pub starts_come_to_end : CheckedStartsComeToEnd
starts_come_to_end p u a args w pass x honest there =
    let same = start_checks_pass p u a args w x honest pass in
    subst (EndsInFew (weight_of_values a.lower.params (params_given p a args w.state))) (sym same)
    (quiet_starts p (quiet u) a args w x (texts_move p (quiet u) a x) (subst (IsHonestStart p a args w.state) same honest) refl there)

pub returns_come_to_end : CheckedReturnsComeToEnd
returns_come_to_end p u a args w pass x honest there area =
    let same = return_checks_pass p u a args w x honest pass in
    subst (EndsInFew (weight_of_values a.lift.results (results_taken p a args w.state))) (sym same)
    (quiet_returns p (quiet u) a args w x (texts_move p (quiet u) a x) (subst (IsHonestReturn p a args w.state) same honest) refl there area)
