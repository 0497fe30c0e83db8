-- Where the last call of a run was answered by a trap, each transcoder that was called is to read a whole text.
use Rattle.std.proofs.Common.{◌≡◌, List, [], ◌∷◌, ◌++◌, sym, ◌∙◌, subst}
use Rattle.fact_machine.specs.declared.types.Answer.{Answer}
use Rattle.fact_machine.specs.Causes.{answers_of}
use Rattle.fact_actions.specs.Honest.{HasReturned}
use Rattle.fact_actions.specs.Running.{ImportPlaces, Call}
use Rattle.fact_action_laws.specs.ReadTexts.{AreValuesThere, ReadTexts, ReadsTextBy}
use Rattle.fact_call_laws.proofs.Answered.{ReadsWhole}
use Rattle.fact_call_laws.proofs.Given.{given_is}
use Rattle.fact_call_laws.proofs.Setting.{Called, Setting, calls, log, may_leave, places, to_trap}
use Rattle.fact_call_laws.proofs.Trapped.{AtTrap, before, calls_are, last_call}
use Rattle.fact_call_laws.proofs.Untrapped.{not_last}
use Rattle.fact_call_laws.proofs.Within.{results_are}

last_reads : (p : ImportPlaces) (cs : List Call) (z : Call) → ReadTexts p (cs ++ z ∷ []) → ReadsTextBy z.what p z
last_reads p [] z h = h.0
last_reads p (c ∷ cs) z h = last_reads p cs z h.1

module _ (x : Setting) (h : Called x) (t : AtTrap x h) where
  -- a call that returned is not the last one
  is_earlier : (c : Call) → HasReturned c → c ≡ last_call x h t → ⊥
  is_earlier c returned e = subst (λ (z : Answer). HasReturned (record (last_call x h t) { answer = z })) t.traps (subst HasReturned e returned)

  -- the arguments are there, and so is what the callee answered
  values_there : AreValuesThere (places x) x.adapter h.outcome.args h.outcome.first (calls x)
  values_there = record {
    params = x.values;
    params_are = given_is x h;
    results = λ front callee behind e what returned.
        let among = not_last (before x h t) (last_call x h t) front callee behind (sym (calls_are x h t) ∙ e) (is_earlier callee returned) in
        (x.answered, results_are x h t.front (t.event ∷ []) t.last t.log_is t.ruled t.honest front callee among.rest among.is what);
  }

  texts_read : ReadTexts (places x) (calls x)
  texts_read = h.promised.behaves.reads_texts h.outcome.args h.outcome.first (answers_of (log x)) x.steps (to_trap x h) (may_leave x h) values_there

  pub reads_whole : ReadsWhole x h t
  reads_whole o from from64 to to64 is =
      subst (λ i. ReadsTextBy i (places x) (last_call x h t)) is (last_reads (places x) (before x h t) (last_call x h t) (subst (ReadTexts (places x)) (calls_are x h t) texts_read))
