-- The numbers that a host's transfers answer: one after another, from 1 on.
use Rattle.std.proofs.Common.{◌≡◌, ℕ, suc, ◌+◌, Bool, true, false, List, [], ◌∷◌, ◌++◌, Option, Some, None, refl, sym, ap, ◌∙◌, subst, arith, cond, inl, inr, length}
use Rattle.std.specs.Prelude.{option_map}
use Rattle.fact_types.specs.declared.outside.CoreDef.{CoreDef}
use Rattle.fact_types.specs.declared.outside.UnsafeIntrinsic.TheVariants as slot
use Rattle.fact_types.specs.declared.import.Import.{Import}
use Rattle.fact_types.specs.declared.import.Import.TheVariants as import
use Rattle.fact_types.specs.Adapters.{LinkedAdapter}
use Rattle.fact_machine.specs.declared.types.Answer.{Answer}
use Rattle.fact_machine.specs.declared.types.Answer.TheVariants.{Returns, Traps, Throws}
use Rattle.fact_machine.specs.declared.types.CoreValue.{CoreValue}
use Rattle.fact_machine.specs.declared.types.CoreValue.TheVariants.{I32}
use Rattle.fact_machine.specs.declared.types.Event.{Event}
use Rattle.fact_machine.specs.declared.types.MachineState.{MachineState}
use Rattle.fact_values.specs.declared.value.Value.{Value}
use Rattle.fact_values.specs.Handles.{Crossing}
use Rattle.fact_action_laws.specs.Items.{answered_number, crossing, crossings, number_if, numbers}
use Rattle.fact_actions.specs.Honest.{AreHonest, HasReturned}
use Rattle.fact_actions.specs.Regions.{Position}
use Rattle.fact_actions.specs.Running.{ImportPlaces, Call}
use Rattle.fact_host.specs.declared.calling.HostCall.{HostCall}
use Rattle.fact_host.specs.declared.calling.HostSide.{HostSide}
use Rattle.fact_host.specs.declared.known.Known.{Known}
use Rattle.fact_host.specs.declared.roles.Role.{Role}
use Rattle.fact_host.specs.declared.roles.Role.TheVariants as role
use Rattle.fact_host.specs.Called.{numbers_from}
use Rattle.fact_host.specs.Describes.{IsImportOf, named_calls}
use Rattle.fact_host.specs.Hosts.{AreAnswersUntil}
use Rattle.fact_host.specs.Rules.{Answers, CallShapes, ReallocsAt, StoresAt, after_region, asked_of, next_region, raised, stays}
use Rattle.fact_lowering.specs.Room.{room}
use Rattle.fact_call_laws.proofs.Steps.{call_by, event_of, not_traps}

-- What a call that returned is to the numbers: none of a handle, or the next one's.
pub data Counts (k k' : Known) (i : Import) (given results : List CoreValue) : Type 0 where
  CountsNone : crossing i given ≡ [] → k'.transfers ≡ k.transfers → Counts k k' i given results
  CountsOne : (y : Crossing) → crossing i given ≡ y ∷ [] → results ≡ I32 (suc k.transfers) ∷ [] → k'.transfers ≡ suc k.transfers → Counts k k' i given results

module _ (c : HostCall) (p : ImportPlaces) (a : LinkedAdapter) (s : CallShapes) (answered : Option (List Value)) where
  -- an import by which no handle crosses
  none_by : (k k' : Known) (i j : Import) (given results : List CoreValue) → i ≡ j → crossing j given ≡ [] → k'.transfers ≡ k.transfers → Counts k k' i given results
  none_by k k' i j given results e none same = CountsNone (ap (λ z. crossing z given) e ∙ none) same

  one_by : (k k' : Known) (i j : Import) (given results : List CoreValue) (y : Crossing) → i ≡ j → crossing j given ≡ y ∷ [] → results ≡ I32 (suc k.transfers) ∷ [] → k'.transfers ≡ suc k.transfers → Counts k k' i given results
  one_by k k' i j given results y e one rs same = CountsOne y (ap (λ z. crossing z given) e ∙ one) rs same

  transfer : (k k' : Known) (i : Import) (given results : List CoreValue) → IsImportOf p a role.Transfer i → results ≡ I32 (suc k.transfers) ∷ [] → k'.transfers ≡ suc k.transfers → Counts k k' i given results
  transfer k k' i given results (inl e) rs same = one_by k k' i import.ResourceTransferOwn given results _ e refl rs same
  transfer k k' i given results (inr (inl e)) rs same = one_by k k' i import.ResourceTransferBorrow given results _ e refl rs same
  transfer k k' i given results (inr (inr (inl e))) rs same = one_by k k' i import.FutureTransfer given results _ e refl rs same
  transfer k k' i given results (inr (inr (inr (inl e)))) rs same = one_by k k' i import.StreamTransfer given results _ e refl rs same
  transfer k k' i given results (inr (inr (inr (inr e)))) rs same = one_by k k' i import.ErrorContextTransfer given results _ e refl rs same

  slots : (k k' : Known) (i : Import) (given results : List CoreValue) → IsImportOf p a role.Slot i → k'.transfers ≡ k.transfers → Counts k k' i given results
  slots k k' i given results (inl e) same = none_by k k' i (import.UnsafeIntrinsic slot.ContextGetI32_0) given results e refl same
  slots k k' i given results (inr e) same = none_by k k' i (import.UnsafeIntrinsic slot.ContextGetI32_1) given results e refl same

  told : (k k' : Known) (i : Import) (given results : List CoreValue) → IsImportOf p a role.Told i → k'.transfers ≡ k.transfers → Counts k k' i given results
  told k k' i given results (inl e) same = none_by k k' i (import.UnsafeIntrinsic slot.ContextSetI32_0) given results e refl same
  told k k' i given results (inr (inl e)) same = none_by k k' i (import.UnsafeIntrinsic slot.ContextSetI32_1) given results e refl same
  told k k' i given results (inr (inr (inl e))) same = none_by k k' i import.EnterSyncCall given results e refl same
  told k k' i given results (inr (inr (inr e))) same = none_by k k' i import.ExitSyncCall given results e refl same

  optional : (k k' : Known) (o : Option CoreDef) (i : Import) (given results : List CoreValue) → option_map (λ z. import.CoreDef z) o ≡ Some i → k'.transfers ≡ k.transfers → Counts k k' i given results
  optional k k' None i given results e same = absurd cc
  optional k k' (Some f) i given results e same = let is : i ≡ import.CoreDef f = cc in none_by k k' i (import.CoreDef f) given results is refl same

  region_transfers : (k : Known) (n : ℕ) (e : Event) → (after_region k n (asked_of e)).transfers ≡ k.transfers
  region_transfers k n e = by (stays (asked_of e)) refl
    where
      by : (b : Bool) → stays (asked_of e) ≡ b → (after_region k n (asked_of e)).transfers ≡ k.transfers
      by true q = ap (λ z. (cond z k (raised k n (next_region k n (asked_of e) + (asked_of e).size))).transfers) q
      by false q = ap (λ z. (cond z k (raised k n (next_region k n (asked_of e) + (asked_of e).size))).transfers) q

  realloc_transfers : (k k' : Known) (side : HostSide) (dest : Bool) (func : ℕ) (given results : List CoreValue) (before after : MachineState) (o : Option ℕ) → ReallocsAt k side dest (event_of func given before (Returns results after)) k' o → k'.transfers ≡ k.transfers
  realloc_transfers k k' side dest func given results before after None rule = absurd (not_traps results after rule)
  realloc_transfers k k' side dest func given results before after (Some n) rule = ap (λ (z : Known). z.transfers) (rule.returns results after refl).3 ∙ region_transfers k n (event_of func given before (Returns results after))

  pub stored_transfers : (most : ℕ) (k k' : Known) (before after : MachineState) (o : Option ℕ) → StoresAt k k' before after most o → k'.transfers ≡ k.transfers
  stored_transfers most k k' before after None q = ap (λ (z : Known). z.transfers) q.1
  stored_transfers most k k' before after (Some n) q = ap (λ (z : Known). z.transfers) q.3

  pub counts : (r : Role) (k k' : Known) (i : Import) (func : ℕ) (given results : List CoreValue) (before after : MachineState) → IsImportOf p a r i → Answers c s answered r k (event_of func given before (Returns results after)) k' → Counts k k' i given results
  counts role.Callee k k' i func given results before after e rule =
      let x = rule.answers.returns results after refl in
      none_by k k' i (import.CoreDef a.callee) given results e refl (stored_transfers (room s.lift_results s.lower_results x.0) k k' before after c.lift.memory x.3.stored)
  counts role.LiftRealloc k k' i func given results before after e rule = optional k k' a.lift.realloc i given results e (realloc_transfers k k' c.lift (cond k.returned false true) func given results before after c.lift.memory rule)
  counts role.LowerRealloc k k' i func given results before after e rule = optional k k' a.lower.realloc i given results e (realloc_transfers k k' c.lower k.returned func given results before after c.lower.memory rule)
  counts role.PostReturn k k' i func given results before after e rule = optional k k' a.lift.post_return i given results e (ap (λ (z : Known). z.transfers) (rule.returns results after refl).2)
  counts (role.Transcoder o from from64 to to64) k k' i func given results before after e rule = none_by k k' i (import.Transcode o e.0 from64 e.1 to64) given results e.2 refl (ap (λ (z : Known). z.transfers) (rule.returns results after refl).5)
  counts role.Transfer k k' i func given results before after e rule = let x = (rule.returns results after refl).1 in transfer k k' i given results e x.1 (ap (λ (z : Known). z.transfers) x.2)
  counts role.Slot k k' i func given results before after e rule = slots k k' i given results e (ap (λ (z : Known). z.transfers) (rule.returns results after refl).2)
  counts role.Told k k' i func given results before after e rule = told k k' i given results e (ap (λ (z : Known). z.transfers) (rule.returns results after refl).2)
  counts role.Refused k k' i func given results before after e rule = absurd (not_traps results after rule)

  module _ (names : ℕ → Import) (Named : ℕ → Role → Type 0) (is : (n : ℕ) (r : Role) → Named n r → IsImportOf p a r (names n)) where
    -- the numbers that calls answered
    pub record Numbered (k last : Known) (cs : List Call) : Type 0 where
      pub are : numbers cs ≡ numbers_from (suc k.transfers) (length (crossings cs))
      pub next : last.transfers ≡ k.transfers + length (crossings cs)

    counted : (k k' last : Known) (z : Call) (cs : List Call) (results : List CoreValue) (after : MachineState) → z.answer ≡ Returns results after → Counts k k' z.what z.args results → Numbered k' last cs → Numbered k last (z ∷ cs)
    counted k k' last z cs results after answer (CountsNone none same) h =
        let crossed : crossings (z ∷ cs) ≡ crossings cs = ap (λ l. l ++ crossings cs) none in
        let long : length (crossings (z ∷ cs)) ≡ length (crossings cs) = ap length crossed in
        record {
          are = ap (λ l. number_if l z.answer ++ numbers cs) none ∙ h.are ∙ ap (λ n. numbers_from (suc n) (length (crossings cs))) same ∙ ap (numbers_from (suc k.transfers)) (sym long);
          next = omega (arith, h.next, same, long);
        }
    counted k k' last z cs results after answer (CountsOne y one rs same) h =
        let long : length (crossings (z ∷ cs)) ≡ suc (length (crossings cs)) = ap (λ l. length (l ++ crossings cs)) one in
        record {
          are =
              ap (λ l. number_if l z.answer ++ numbers cs) one ∙ ap (λ v. answered_number v ++ numbers cs) (answer ∙ ap (λ l. Returns l after) rs)
              ∙ ap (λ l. suc k.transfers ∷ l) (h.are ∙ ap (λ n. numbers_from (suc n) (length (crossings cs))) same) ∙ ap (numbers_from (suc k.transfers)) (sym long);
          next = omega (arith, h.next, same, long);
        }

    pub numbered : (next : Call → Position → Position) (k last : Known) (x : Position) (log : List Event) → AreAnswersUntil Named c s answered k log last → AreHonest p a next x (named_calls names log) → Numbered k last (named_calls names log)
    numbered next k last x [] rules honest = record { are = refl; next = omega (arith, ap (λ (z : Known). z.transfers) rules) }
    numbered next k last x (e ∷ es) rules honest = by (numbered next rules.2 last (next (call_by (names e.func) e.args e.before e.answer) x) es rules.4 honest.2) e.answer refl honest.0
      where
        by : Numbered rules.2 last (named_calls names es) → (ans : Answer) → e.answer ≡ ans → HasReturned (call_by (names e.func) e.args e.before ans) → Numbered k last (named_calls names (e ∷ es))
        by more (Returns results after) q h =
            counted k rules.2 last (call_by (names e.func) e.args e.before e.answer) (named_calls names es) results after q
            (counts rules.0 k rules.2 (names e.func) e.func e.args results e.before after (is e.func rules.0 rules.1) (subst (λ z. Answers c s answered rules.0 k (event_of e.func e.args e.before z) rules.2) q rules.3))
            more
        by more Traps q h = absurd h
        by more Throws q h = absurd h
