-- What a host knows between calls that returned is how far the transfer has come; and what is live is aligned.
use Rattle.std.proofs.Common.{◌≡◌, ℕ, ◌+◌, ◌%◌, Bool, true, false, List, [], ◌∷◌, ◌++◌, Option, Some, None, refl, sym, ap, ◌∙◌, subst, cond, map}
use Rattle.std.specs.Prelude.{◌&&◌, nat_eq}
use Rattle.fact_types.specs.declared.import.Import.{Import}
use Rattle.fact_types.specs.Adapters.{LinkedAdapter}
use Rattle.fact_types.specs.Tables.{Tables}
use Rattle.fact_wasm.specs.declared.module.WasmModule.{WasmModule}
use Rattle.fact_machine.specs.declared.types.CoreValue.{CoreValue}
use Rattle.fact_machine.specs.declared.types.MachineState.{MachineState}
use Rattle.fact_machine.specs.declared.types.Answer.{Answer}
use Rattle.fact_machine.specs.declared.types.Answer.TheVariants.{Returns, Traps, Throws}
use Rattle.fact_machine.specs.declared.types.Event.{Event}
use Rattle.fact_machine.specs.Typing.{address_operand}
use Rattle.fact_values.specs.declared.value.Value.{Value}
use Rattle.fact_values.specs.Lift.{bits_of}
use Rattle.fact_actions.specs.Calls.{is_call_of, is_call_of_any, nth_number}
use Rattle.fact_actions.specs.Honest.{AreHonest, HasReturned, IsHonestBy}
use Rattle.fact_actions.specs.Regions.{Region, Landing, Position, given_region, given_up, is_request, landed, moved_on, params_landing, results_landing, sync_moved_on, without}
use Rattle.fact_actions.specs.Running.{ImportPlaces, Call}
use Rattle.fact_actions.specs.Sides.{options_of}
use Rattle.fact_actions.proofs.OwnParts.{same_self}
use Rattle.fact_host.specs.declared.calling.HostCall.{HostCall}
use Rattle.fact_host.specs.declared.known.Known.{Known}
use Rattle.fact_host.specs.declared.roles.Role.{Role}
use Rattle.fact_host.specs.Contract.{NamesEachOnce}
use Rattle.fact_host.specs.Describes.{Describes, IsImportOf, named_calls}
use Rattle.fact_host.specs.Hosts.{AreAnswersUntil}
use Rattle.fact_host.specs.Rules.{Answers, CallShapes, StoresAt, after_region, next_region, given_at, live_without, raised, stays}
use Rattle.fact_lowering.specs.Room.{room}
use Rattle.fact_host.proofs.LiveLaws.{kept, kept_without}
use Rattle.fact_call_laws.proofs.Steps.{Did, DidNothing, DidRealloc, DidCall, IsSame, Reallocs, ask, call_by, did, event_of, landing_by}

-- the position behind calls
abbrev pub position_after : (next : Call → Position → Position) → Position → List Call → Position
position_after next x [] = x
position_after next x (c ∷ cs) = position_after next (next c x) cs

pub position_on : (next : Call → Position → Position) (x : Position) (cs ds : List Call) → position_after next x (cs ++ ds) ≡ position_after next (position_after next x cs) ds
position_on next x [] ds = refl
position_on next x (c ∷ cs) ds = position_on next (next c x) cs ds

-- ---- aligned regions

abbrev pub AllAligned : List Region → Type 0
AllAligned [] = Unit {0}
AllAligned (r ∷ rs) = (r.at % r.align ≡ 0) × AllAligned rs

aligned_by : (s : Region) (rs others : List Region) (b : Bool) → AllAligned (s ∷ rs) → AllAligned others → AllAligned (cond b rs (s ∷ others))
aligned_by s rs others true h g = h.1
aligned_by s rs others false h g = (h.0, g)

aligned_without : (r : Region) (rs : List Region) → AllAligned rs → AllAligned (without r rs)
aligned_without r [] h = tt
aligned_without r (s ∷ rs) h = aligned_by s rs (without r rs) (nat_eq s.at r.at && nat_eq s.size r.size) h (aligned_without r rs h.1)

module _ (m : WasmModule) (t : Tables) (c : HostCall) (p : ImportPlaces) (a : LinkedAdapter) (names : ℕ → Import) (d : Describes m t c p a names) (once : NamesEachOnce c) (args : List CoreValue) where
  pub record Holds (k : Known) (x : Position) : Type 0 where
    pub landing : x.landing ≡ landing_by k.returned a args
    pub live : map kept x.live ≡ k.live
    pub aligned : AllAligned x.live

  pub first_holds : (k : Known) → k.live ≡ [] → k.returned ≡ false → Holds k (landed (params_landing a))
  first_holds k live returned = record { landing = ap (λ b. landing_by b a args) (sym returned); live = sym live; aligned = tt }

  same_holds : (k k' : Known) (x : Position) → IsSame k k' → Holds k x → Holds k' x
  same_holds k k' x same h = record { landing = h.landing ∙ ap (λ b. landing_by b a args) (sym same.returned); live = h.live ∙ sym same.live; aligned = h.aligned }

  bits_at : (w : Bool) (r : ℕ) → bits_of (address_operand w r) ≡ r
  bits_at true r = refl
  bits_at false r = refl

  -- what a call of realloc leaves is known, whether the region stays or not
  region_live : (k : Known) (n : ℕ) (given : List CoreValue) → (after_region k n (ask given)).live ≡ record { at = given_at k n (ask given); size = nth_number given 3 } ∷ live_without (ask given).old k.live
  region_live k n given = refl

  pub region_returned : (k : Known) (n : ℕ) (given : List CoreValue) → (after_region k n (ask given)).returned ≡ k.returned
  region_returned k n given = by (stays (ask given)) refl
    where
      by : (b : Bool) → stays (ask given) ≡ b → (after_region k n (ask given)).returned ≡ k.returned
      by true e = ap (λ z. (cond z k (raised k n (next_region k n (ask given) + (ask given).size))).returned) e
      by false e = ap (λ z. (cond z k (raised k n (next_region k n (ask given) + (ask given).size))).returned) e

  module _ (s : CallShapes) (answered : Option (List Value)) where
    -- it is a request
    pub is_asked : (k k' : Known) (x : Position) (i : Import) (given results : List CoreValue) (before : MachineState) (ans : Answer) → Holds k x → Reallocs m t c p a names d once args k k' i given results before → is_request x.landing (call_by i given before ans) ≡ true
    is_asked k k' x i given results before ans h r =
        ap (λ (l : Landing). is_call_of_any l.to.realloc (call_by i given before ans)) (h.landing ∙ ap (λ b. landing_by b a args) r.phase_is)
        ∙ ap (λ o. is_call_of_any o (call_by i given before ans)) r.own ∙ ap (λ z. is_call_of r.realloc (call_by z given before ans)) r.what ∙ same_self r.realloc

    -- behind a call of realloc
    realloc_moves : (k k' : Known) (x : Position) (i : Import) (given results : List CoreValue) (before after : MachineState) → Holds k x → (r : Reallocs m t c p a names d once args k k' i given results before)
        → sync_moved_on a args (call_by i given before (Returns results after)) x
        ≡ record { landing = x.landing; live = given_region (call_by i given before (Returns results after)) ∷ without (given_up (call_by i given before (Returns results after))) x.live }
    realloc_moves k k' x i given results before after h r =
        let call : Call = call_by i given before (Returns results after) in
        let of_callee : is_call_of a.callee call ≡ false = ap (λ z. is_call_of a.callee (call_by z given before (Returns results after))) r.what ∙ r.not_callee in
        let request : is_request x.landing call ≡ true = is_asked k k' x i given results before (Returns results after) h r in
        ap (λ z. cond z (landed (results_landing a args)) (moved_on call x)) of_callee ∙ ap (λ z. cond z (record x { live = given_region call ∷ without (given_up call) x.live }) x) request

    -- behind a call that returned honestly
    pub step : (k k' : Known) (x : Position) (i : Import) (given results : List CoreValue) (before after : MachineState)
        → Holds k x → Did m t c p a names d once args s answered k k' i given results before after
        → IsHonestBy i p (options_of a.lower) a.lift.post_return x (call_by i given before (Returns results after))
        → Holds k' (sync_moved_on a args (call_by i given before (Returns results after)) x)
    step k k' x i given results before after h (DidNothing same still) honest = subst (Holds k') (sym (still x h.landing)) (same_holds k k' x same h)
    step k k' x i given results before after h (DidCall values e uncalled answers core stores) honest =
        subst (Holds k') (sym (ap (λ z. cond (is_call_of a.callee (call_by z given before (Returns results after))) (landed (results_landing a args)) (moved_on (call_by i given before (Returns results after)) x)) e
        ∙ ap (λ z. cond z (landed (results_landing a args)) (moved_on (call_by i given before (Returns results after)) x)) (same_self a.callee))) (by c.lift.memory stores.stored)
      where
        by : (o : Option ℕ) → StoresAt k k' before after (room s.lift_results s.lower_results values) o → Holds k' (landed (results_landing a args))
        by None q = record { landing = ap (λ (z : Known). landing_by z.returned a args) (sym q.1); live = sym (ap (λ (z : Known). z.live) q.1); aligned = tt }
        by (Some n) q = record { landing = ap (λ (z : Known). landing_by z.returned a args) (sym q.3); live = sym (ap (λ (z : Known). z.live) q.3); aligned = tt }
    step k k' x i given results before after h (DidRealloc r) honest =
        let call : Call = call_by i given before (Returns results after) in
        let at : nth_number results 0 ≡ given_at k r.memory (ask given) = ap (λ rs. nth_number rs 0) r.at_is ∙ bits_at _ (given_at k r.memory (ask given)) in
        let known_live : k'.live ≡ record { at = given_at k r.memory (ask given); size = nth_number given 3 } ∷ live_without (ask given).old k.live = ap (λ (z : Known). z.live) r.known in
        let known_returned : k'.returned ≡ k.returned = ap (λ (z : Known). z.returned) r.known ∙ region_returned k r.memory given in
        let honest_core = subst (λ z. IsHonestBy z p (options_of a.lower) a.lift.post_return x call) r.what honest in
        let sound = (honest_core.0 (is_asked k k' x i given results before (Returns results after) h r)).sound in
        subst (Holds k') (sym (realloc_moves k k' x i given results before after h r)) (record {
          landing = h.landing ∙ ap (λ b. landing_by b a args) (sym known_returned);
          live =
              (λ j. record { at = at j; size = nth_number given 3 } ∷ kept_without (given_up call) x.live j)
              ∙ ap (λ l. record { at = given_at k r.memory (ask given); size = nth_number given 3 } ∷ live_without (ask given).old l) h.live ∙ sym known_live;
          aligned = (sound.aligned, aligned_without (given_up call) x.live h.aligned);
        })

    -- What an event that returned did.
    pub record Answered (k k' : Known) (e : Event) : Type 0 where
      pub results : List CoreValue
      pub after : MachineState
      pub answer : e.answer ≡ Returns results after
      pub did : Did m t c p a names d once args s answered k k' (names e.func) e.args results e.before after

    pub answered_so : (Named : ℕ → Role → Type 0) → ((n : ℕ) (r : Role) → Named n r → IsImportOf p a r (names n)) → (k k' : Known) (e : Event) (r : Role) → Named e.func r → Answers c s answered r k e k' → HasReturned (call_by (names e.func) e.args e.before e.answer)
        → Answered k k' e
    answered_so Named is k k' e r named rule returned = by e.answer refl returned
      where
        by : (ans : Answer) → e.answer ≡ ans → HasReturned (call_by (names e.func) e.args e.before ans) → Answered k k' e
        by (Returns results after) q h = record {
          results = results;
          after = after;
          answer = q;
          did = did m t c p a names d once args s answered r k k' (names e.func) e.func e.args results e.before after (is e.func r named) (subst (λ z. Answers c s answered r k (event_of e.func e.args e.before z) k') q rule);
        }
        by Traps q h = absurd h
        by Throws q h = absurd h

    pub answered_step : (k k' : Known) (x : Position) (e : Event) → Answered k k' e → Holds k x → IsHonestBy (names e.func) p (options_of a.lower) a.lift.post_return x (call_by (names e.func) e.args e.before e.answer)
        → Holds k' (sync_moved_on a args (call_by (names e.func) e.args e.before e.answer) x)
    answered_step k k' x e did h honest =
        subst (λ z. Holds k' (sync_moved_on a args (call_by (names e.func) e.args e.before z) x)) (sym did.answer)
        (step k k' x (names e.func) e.args did.results e.before did.after h did.did (subst (λ z. IsHonestBy (names e.func) p (options_of a.lower) a.lift.post_return x (call_by (names e.func) e.args e.before z)) did.answer honest))

    -- behind events that returned honestly
    pub along : (Named : ℕ → Role → Type 0) → ((n : ℕ) (r : Role) → Named n r → IsImportOf p a r (names n))
        → (k last : Known) (x : Position) (log : List Event) → AreAnswersUntil Named c s answered k log last → AreHonest p a (sync_moved_on a args) x (named_calls names log) → Holds k x
        → Holds last (position_after (sync_moved_on a args) x (named_calls names log))
    along Named is k last x [] rules honest h = subst (λ z. Holds z x) (sym rules) h
    along Named is k last x (e ∷ es) rules honest h =
        let one = answered_so Named is k rules.2 e rules.0 rules.1 rules.3 honest.0 in
        along Named is rules.2 last (sync_moved_on a args (call_by (names e.func) e.args e.before e.answer) x) es rules.4 honest.2 (answered_step k rules.2 x e one h honest.1)
