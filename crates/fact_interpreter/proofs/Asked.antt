-- What a machine does whose outside is asked is what one does that was given the answers.
use Rattle.std.proofs.Common.{◌≡◌, ◌≢◌, ℕ, zero, suc, ◌-◌, List, [], ◌∷◌, ◌++◌, Option, Some, None, Bool, true, false, reverse, refl, sym, ap, ◌∙◌, subst, arith, append_assoc, append-nil, drop}
use Rattle.std.proofs.lemmas.List.{map-append}
use Rattle.std.specs.Prelude.{◌%◌, ◌^◌}
use Rattle.fact_wasm.specs.declared.types.ValType.{ValType}
use Rattle.fact_wasm.specs.declared.instr.Instr.{Instr, out-Instr}
use Rattle.fact_wasm.specs.declared.instr.FuncName.TheVariants.{Import, Defined}
use Rattle.fact_wasm.specs.declared.instr.Instr.TheOpen as instr
use Rattle.fact_wasm.specs.declared.instr.Instr.TheOpen.{Instr-F}
use Rattle.fact_wasm.specs.declared.module.WasmModule.{WasmModule}
use Rattle.fact_machine.specs.declared.types.CoreValue.{CoreValue}
use Rattle.fact_machine.specs.declared.types.MachineState.{MachineState}
use Rattle.fact_machine.specs.declared.types.Answer.{Answer}
use Rattle.fact_machine.specs.declared.types.Answer.TheVariants.{Returns, Traps, Throws}
use Rattle.fact_machine.specs.declared.types.Event.{Event}
use Rattle.fact_machine.specs.declared.types.TraceEntry.{TraceEntry}
use Rattle.fact_machine.specs.declared.types.TraceEntry.TheVariants.{Called, Stored, GlobalSet}
use Rattle.fact_machine.specs.declared.types.End.{End}
use Rattle.fact_machine.specs.declared.types.End.TheVariants.{Returned, Trapped, Thrown, Lacks, Going, Stuck}
use Rattle.fact_machine.specs.declared.types.Outcome.{Outcome}
use Rattle.fact_interpreter.specs.declared.running.Running.{Running}
use Rattle.fact_interpreter.specs.declared.settle.Settled.{Settled}
use Rattle.fact_interpreter.specs.declared.settle.Settled.TheVariants as settled
use Rattle.fact_machine.specs.World.{World, calls, log_of, answered}
use Rattle.fact_machine.specs.Machine.{Around, Bottom, Label, Frame, Config, At, Did, Goes, Ends, Next, Begins, Finished, Breaks, check, have_types, leaving, on_res, throw, call_inside, call_import, act, next_in, next, begin, outcome, at_rest, after, exec, takes, run_of}
use Rattle.fact_machine.specs.Causes.{answers_of}
use Rattle.fact_interpreter.specs.Running.{Row, around_of, world_of, config_of, did_of, at, answering, asking, defined, imported, HasLeft, IsSettled}
use Rattle.fact_interpreter.specs.Asked.{with_answers, config_with, did_with, at_with, step_with, exec_with, called_import, begins_with_import, HasNotLacked, DoesAsked, RunsAsked}
use Rattle.fact_machine.proofs.Traces.{calls-append}
use Rattle.fact_machine.proofs.Plans.{IsPlain, Leap, To, Stops, leaps, Plan, Leaps, Sets, Writes, Asks, does, MayBe, Acts, asks_outside, throw_leaping, act_acts}
use Rattle.fact_machine.proofs.Worlds.{config_world, did_world, next_world, next_keeps}

-- ---- other answers left

abbrev pub next_with : List Answer → Next → Next
next_with answers (Begins w vs ls i rest k) = Begins (with_answers answers w) vs ls i rest k
next_with answers (Finished w vs) = Finished (with_answers answers w) vs
next_with answers (Breaks w) = Breaks (with_answers answers w)

leaving_with : (b : Bool) (w : World) (more : List Answer) (x y : Next) → x ≡ next_with more y → leaving b (with_answers more w) x ≡ next_with more (leaving b w y)
leaving_with true w more x y h = h
leaving_with false w more x y h = refl

next_in_with : (w : World) (vs : List CoreValue) (ls : List (Option CoreValue)) (code : List Instr) (k : Around) (more : List Answer) → next_in (with_answers more w) vs ls code k ≡ next_with more (next_in w vs ls code k)
next_in_with w vs ls (i ∷ rest) k more = refl
next_in_with w vs ls [] Bottom more = refl
next_in_with w vs ls [] (Label n below to rest cs k) more = next_in_with w (vs ++ below) ls rest k more
next_in_with w vs ls [] (Frame ts f below rest k) more = leaving_with (have_types (reverse vs) ts) w more _ _ (next_in_with w (vs ++ below) f rest k more)

pub config_next_with : (c : Config) (more : List Answer) → next (config_with more c) ≡ next_with more (next c)
config_next_with (At w vs ls code k) more = next_in_with w vs ls code k more

rest_with : (x : Next) (more : List Answer) → at_rest (next_with more x) ≡ at_rest x
rest_with (Begins w vs ls i rest k) more = refl
rest_with (Finished w vs) more = refl
rest_with (Breaks w) more = refl

-- ---- what asks for no answer

abbrev DidNotLack : Did → Type 0
DidNotLack (Goes c) = Unit {0}
DidNotLack (Ends e w) = e ≢ Lacks

-- With any answers left the same is done, and they are still left; nothing was called.
pub record Quietly (w : World) (go : List Answer → Did) (d : Did) : Type 0 where
  pub is : (more : List Answer) → go more ≡ did_with more d
  pub logged : log_of (did_world d) ≡ log_of w
  pub left : (did_world d).answers ≡ w.answers
  pub not_lacked : DidNotLack d

plain_not_lacks : (e : End) → IsPlain e → e ≢ Lacks
plain_not_lacks e p q = subst IsPlain q p

leaps_quietly : (l : Leap) (w : World) → Quietly w (λ more. leaps l (with_answers more w)) (leaps l w)
leaps_quietly (To vs ls code k) w = record { is = λ more. refl; logged = refl; left = refl; not_lacked = tt }
leaps_quietly (Stops e p) w = record { is = λ more. refl; logged = refl; left = refl; not_lacked = plain_not_lacks e p }

does_quietly : (p : Plan) (w : World) → MayBe p false → Quietly w (λ more. does p (with_answers more w)) (does p w)
does_quietly (Leaps l) w m = leaps_quietly l w
does_quietly (Sets i v vs ls code k) w m = record { is = λ more. refl; logged = calls-append w.trace (GlobalSet i v ∷ []) ∙ append-nil (calls w.trace); left = refl; not_lacked = tt }
does_quietly (Writes n index memory address value vs ls code k) w m =
    record { is = λ more. refl; logged = calls-append w.trace (Stored index address n (value % 256 ^ n) ∷ []) ∙ append-nil (calls w.trace); left = refl; not_lacked = tt }
does_quietly (Asks f args vs ls code k) w m = absurd m

quietly_same : (w : World) (go go' : List Answer → Did) (d d' : Did) → Quietly w go d → ((more : List Answer) → go' more ≡ go more) → d' ≡ d → Quietly w go' d'
quietly_same w go go' d d' h g e = record {
  is = λ more. g more ∙ h.is more ∙ ap (did_with more) (sym e);
  logged = subst (λ x. log_of (did_world x) ≡ log_of w) (sym e) h.logged;
  left = subst (λ x. (did_world x).answers ≡ w.answers) (sym e) h.left;
  not_lacked = subst DidNotLack (sym e) h.not_lacked;
}

acts_quietly : (w : World) (b : Bool) (go : List Answer → List TraceEntry → Did) → Acts b w.state go → b ≡ false → Quietly w (λ more. go more w.trace) (go w.answers w.trace)
acts_quietly w b go h e = quietly_same w _ _ _ _ (does_quietly h.plan w (subst (MayBe h.plan) e h.may)) (λ more. h.is more w.trace) (h.is w.answers w.trace)

-- whether what comes next is no call of an import
abbrev pub IsOwn : Next → Type 0
IsOwn (Begins w vs ls i rest k) = asks_outside (out-Instr i) ≡ false
IsOwn (Finished w vs) = Unit {0}
IsOwn (Breaks w) = Unit {0}

begin_quietly : (M : WasmModule) (x : Next) → IsOwn x → Quietly (next_world x) (λ more. begin M (next_with more x)) (begin M x)
begin_quietly M (Begins w vs ls i rest k) h = acts_quietly w (asks_outside (out-Instr i)) (λ a t. act M (out-Instr i) (record { state = w.state; answers = a; trace = t }) vs ls rest k) (act_acts M (out-Instr i) w.state vs ls rest k) h
begin_quietly M (Finished w vs) h = record { is = λ more. refl; logged = refl; left = refl; not_lacked = λ q. cc }
begin_quietly M (Breaks w) h = record { is = λ more. refl; logged = refl; left = refl; not_lacked = λ q. cc }

config_next_world : (c : Config) → next_world (next c) ≡ config_world c
config_next_world (At w vs ls code k) = next_keeps w vs ls code k

pub step_quietly : (M : WasmModule) (c : Config) → IsOwn (next c) → Quietly (config_world c) (λ more. begin M (next (config_with more c))) (begin M (next c))
step_quietly M c h =
    subst (λ w. Quietly w (λ more. begin M (next (config_with more c))) (begin M (next c))) (config_next_world c)
    (quietly_same (next_world (next c)) _ _ _ _ (begin_quietly M (next c) h) (λ more. ap (begin M) (config_next_with c more)) refl)

-- ---- what a machine does

did_of_world : (end : Option End) (r : Running) → did_world (did_of end r) ≡ world_of r
did_of_world None r = refl
did_of_world (Some e) r = refl

not_lacked_of : (end : Option End) (r : Running) → DidNotLack (did_of end r) → HasNotLacked end
not_lacked_of None r h = tt
not_lacked_of (Some e) r h = h

-- nothing was asked for
pub asked_quietly : (w : World) (go : List Answer → Did) (d : Did) (end : Option End) (r : Running) (events log : List Event)
    → Quietly w go d → did_of end r ≡ d → w.answers ≡ [] → log_of w ≡ log → DoesAsked go events events log end r
asked_quietly w go d end r events log h e none l =
    let at_world : did_world d ≡ world_of r = ap did_world (sym e) ∙ did_of_world end r in
    record {
      asked = [];
      grew = sym (append-nil events);
      logged = ap log_of (sym at_world) ∙ h.logged ∙ l ∙ sym (append-nil log);
      left = ap (λ x. x.answers) (sym at_world) ∙ h.left ∙ none;
      is = λ more. h.is more ∙ ap (did_with more) (sym e);
      not_lacked = not_lacked_of end r (subst DidNotLack (sym e) h.not_lacked);
    }

throw_with : (w : World) (ls : List (Option CoreValue)) (k : Around) → Quietly w (λ more. throw (with_answers more w) ls k) (throw w ls k)
throw_with w ls k = let p = throw_leaping ls k in quietly_same w _ _ _ _ (leaps_quietly p.leap w) (λ more. p.is (with_answers more w)) (p.is w)

-- the world behind a call that was answered
abbrev called_world : World → Event → World
called_world w e = record { state = w.state; answers = []; trace = w.trace ++ Called e ∷ [] }

-- an answer is taken, and those behind it are left
answer_taken : (e : Event) (a : Answer) (w : World) (vs : List CoreValue) (ls : List (Option CoreValue)) (code : List Instr) (k : Around)
    → Quietly (called_world w e) (λ more. on_res (answered e (with_answers (a ∷ more) w) more a) ls k (λ results w'. Goes (At w' (reverse results ++ vs) ls code k))) (answering a (called_world w e) vs ls code k)
answer_taken e (Returns results state) w vs ls code k = record { is = λ more. refl; logged = refl; left = refl; not_lacked = tt }
answer_taken e Traps w vs ls code k = record { is = λ more. refl; logged = refl; left = refl; not_lacked = λ q. cc }
answer_taken e Throws w vs ls code k = throw_with (called_world w e) ls k

-- one call was answered
pub asked_once : (w : World) (f : ℕ) (args : List CoreValue) (a : Answer) (vs : List CoreValue) (ls : List (Option CoreValue)) (code : List Instr) (k : Around) (end : Option End) (r : Running)
    → (e : Event) → e ≡ record { func = f; args = args; before = w.state; answer = a }
    → did_of end r ≡ answering a (called_world w e) vs ls code k
    → DoesAsked (λ answers. asking f args (with_answers answers w) vs ls code k) [] (e ∷ []) (log_of w) end r
asked_once w f args a vs ls code k end r e is_event is_did =
    let h : Quietly (called_world w e) (λ more. on_res (answered e (with_answers (a ∷ more) w) more a) ls k (λ results w'. Goes (At w' (reverse results ++ vs) ls code k))) (answering a (called_world w e) vs ls code k)
    = answer_taken e a w vs ls code k in
    let at_world : did_world (answering a (called_world w e) vs ls code k) ≡ world_of r = ap did_world (sym is_did) ∙ did_of_world end r in
    let answer : e.answer ≡ a = ap (λ x. x.answer) is_event in
    record {
      asked = e ∷ [];
      grew = refl;
      logged = ap log_of (sym at_world) ∙ h.logged ∙ calls-append w.trace (Called e ∷ []);
      left = ap (λ x. x.answers) (sym at_world) ∙ h.left;
      is = λ more. ap (λ b. asking f args (with_answers (b ∷ more) w) vs ls code k) answer
          ∙ ap (λ x. on_res (answered x (with_answers (a ∷ more) w) more a) ls k (λ results w'. Goes (At w' (reverse results ++ vs) ls code k))) (sym is_event)
          ∙ h.is more ∙ ap (did_with more) (sym is_did);
      not_lacked = not_lacked_of end r (subst DidNotLack (sym is_did) h.not_lacked);
    }

-- the same of what does the same, and of an outside that had answered other calls before
pub asked_same : {go go' : List Answer → Did} {before after log log' : List Event} {end : Option End} {r : Running}
    → DoesAsked go before after log end r → ((answers : List Answer) → go' answers ≡ go answers) → log' ≡ log → DoesAsked go' before after log' end r
asked_same h g e = record {
  asked = h.asked;
  grew = h.grew;
  logged = h.logged ∙ ap (λ l. l ++ h.asked) (sym e);
  left = h.left;
  is = λ more. g _ ∙ h.is more;
  not_lacked = h.not_lacked;
}

pub asked_behind : {go : List Answer → Did} {es log : List Event} {end : Option End} {r : Running} (before after : List Event)
    → DoesAsked go [] es log end r → after ≡ before ++ es → DoesAsked go before after log end r
asked_behind before after h e = record {
  asked = h.asked;
  grew = e ∙ ap (λ l. before ++ l) h.grew;
  logged = h.logged;
  left = h.left;
  is = h.is;
  not_lacked = h.not_lacked;
}

-- ---- whole runs

-- how far a run has come
pub record HasAsked (M : WasmModule) (n m : ℕ) (before after log : List Event) (old run : Running) : Type 0 where
  pub asked : List Event
  pub grew : after ≡ before ++ asked
  pub logged : log_of (world_of run) ≡ log ++ asked
  pub left : run.answers.now ≡ []
  pub is : (more : List Answer) → exec_with M n old (answers_of asked ++ more) ≡ exec_with M m run more

pub asked_first : (M : WasmModule) (n : ℕ) (events : List Event) (run : Running) → run.answers.now ≡ [] → HasAsked M n n events events (log_of (world_of run)) run run
asked_first M n events run none = record { asked = []; grew = sym (append-nil events); logged = sym (append-nil _); left = none; is = λ more. refl }

-- answers of two lists of events and more
answers_of_both : (a b : List Event) (more : List Answer) → answers_of (a ++ b) ++ more ≡ answers_of a ++ (answers_of b ++ more)
answers_of_both a b more = ap (λ l. l ++ more) (map-append (λ e. e.answer) a b) ∙ append_assoc (answers_of a) (answers_of b) more

-- a step more
pub asked_next : (M : WasmModule) (n m : ℕ) {before between behind log : List Event} {old run new : Running}
    → HasAsked M n (suc m) before between log old run → DoesAsked (step_with M run) between behind (log_of (world_of run)) None new → HasAsked M n m before behind log old new
asked_next M n m {before} {between} {behind} {log} {old} {run} {new} h s = record {
  asked = h.asked ++ s.asked;
  grew = s.grew ∙ ap (λ l. l ++ s.asked) h.grew ∙ append_assoc before h.asked s.asked;
  logged = s.logged ∙ ap (λ l. l ++ s.asked) h.logged ∙ append_assoc log h.asked s.asked;
  left = s.left;
  is = λ more.
      ap (exec_with M n old) (answers_of_both h.asked s.asked more) ∙ h.is (answers_of s.asked ++ more) ∙ ap (after (exec M m)) (s.is more);
}

-- a last step
pub asked_ends : (M : WasmModule) (n m : ℕ) {before between behind log : List Event} {old run new : Running} (end : End)
    → HasAsked M n (suc m) before between log old run → DoesAsked (step_with M run) between behind (log_of (world_of run)) (Some end) new
    → RunsAsked (exec_with M n old) before behind log end new
asked_ends M n m {before} {between} {behind} {log} {old} {run} {new} end h s = record {
  asked = h.asked ++ s.asked;
  grew = s.grew ∙ ap (λ l. l ++ s.asked) h.grew ∙ append_assoc before h.asked s.asked;
  logged = s.logged ∙ ap (λ l. l ++ s.asked) h.logged ∙ append_assoc log h.asked s.asked;
  is = λ more.
      ap (exec_with M n old) (answers_of_both h.asked s.asked more) ∙ h.is (answers_of s.asked ++ more) ∙ ap (after (exec M m)) (s.is more);
  not_lacked = s.not_lacked;
}

rest_log : (x : Next) → (at_rest x).log ≡ log_of (next_world x)
rest_log (Begins w vs ls i rest k) = refl
rest_log (Finished w vs) = refl
rest_log (Breaks w) = refl

rest_not_lacked : (x : Next) → (at_rest x).end ≢ Lacks
rest_not_lacked (Begins w vs ls i rest k) q = cc
rest_not_lacked (Finished w vs) q = cc
rest_not_lacked (Breaks w) q = cc

-- no step is left
pub asked_rests : (M : WasmModule) (n : ℕ) {before behind log : List Event} {old run new : Running} (end : End)
    → HasAsked M n 0 before behind log old run → outcome end (world_of new) ≡ at_rest (next (config_of run)) → RunsAsked (exec_with M n old) before behind log end new
asked_rests M n {before} {behind} {log} {old} {run} {new} end h e = record {
  asked = h.asked;
  grew = h.grew;
  logged = ap (λ o. o.log) e ∙ rest_log (next (config_of run)) ∙ ap log_of (config_next_world (config_of run)) ∙ h.logged;
  is = λ more. h.is more ∙ ap at_rest (config_next_with (config_of run) more) ∙ rest_with (next (config_of run)) more ∙ sym e;
  not_lacked = λ q. rest_not_lacked (next (config_of run)) (ap (λ o. o.end) (sym e) ∙ q);
}

-- a run that was begun
pub runs_same : {go go' : List Answer → Outcome} {before after log log' : List Event} {end : End} {r : Running}
    → RunsAsked go before after log end r → ((answers : List Answer) → go' answers ≡ go answers) → log' ≡ log → RunsAsked go' before after log' end r
runs_same h g e = record {
  asked = h.asked;
  grew = h.grew;
  logged = h.logged ∙ ap (λ l. l ++ h.asked) (sym e);
  is = λ more. g _ ∙ h.is more;
  not_lacked = h.not_lacked;
}

-- ---- one step

-- only ends of bodies lie between the two, which change nothing of the world
pub settled_world : (how : Settled) (old new : Running) → IsSettled how old new → world_of new ≡ world_of old
settled_world settled.Begins old new h = sym (config_next_world (config_of new)) ∙ ap next_world h.same ∙ config_next_world (config_of old)
settled_world settled.Finished old new h = sym (config_next_world (config_of new)) ∙ ap next_world h.same ∙ config_next_world (config_of old)
settled_world settled.Breaks old new h = ap next_world h.same ∙ config_next_world (config_of old)

pub settled_step : (M : WasmModule) (old new : Running) → IsSettled settled.Begins old new → (answers : List Answer) → step_with M old answers ≡ step_with M new answers
settled_step M old new h answers =
    ap (begin M) (config_next_with (config_of old) answers ∙ ap (next_with answers) (sym h.same) ∙ sym (config_next_with (config_of new) answers))

-- a step at which the run has its results, and one at which it breaks
finished_next : (r : Running) → HasLeft settled.Finished r → next (config_of r) ≡ Finished (world_of r) r.stack
finished_next r h = ap (λ code. next_in (world_of r) r.stack r.locals code (around_of r.around Bottom)) h.0 ∙ ap (λ k. next_in (world_of r) r.stack r.locals [] (around_of k Bottom)) h.1

pub asked_finished : (M : WasmModule) (old between new : Running) (results : List CoreValue) (events : List Event)
    → IsSettled settled.Finished old between → results ≡ reverse between.stack → world_of new ≡ world_of between → old.answers.now ≡ []
    → DoesAsked (step_with M old) events events (log_of (world_of old)) (Some (Returned results)) new
asked_finished M old between new results events h is same none =
    let at_end : next (config_of old) ≡ Finished (world_of between) between.stack = sym h.same ∙ finished_next between h.has in
    asked_quietly (world_of old) _ (begin M (next (config_of old))) (Some (Returned results)) new events (log_of (world_of old))
    (step_quietly M (config_of old) (subst IsOwn (sym at_end) tt))
    ((λ i. Ends (Returned (is i)) (same i)) ∙ ap (begin M) (sym at_end)) none refl

pub asked_breaks : (M : WasmModule) (old new : Running) (events : List Event)
    → IsSettled settled.Breaks old new → old.answers.now ≡ [] → DoesAsked (step_with M old) events events (log_of (world_of old)) (Some Stuck) new
asked_breaks M old new events h none =
    asked_quietly (world_of old) _ (begin M (next (config_of old))) (Some Stuck) new events (log_of (world_of old))
    (step_quietly M (config_of old) (subst IsOwn h.same tt)) (ap (begin M) h.same) none refl

own_row : (x : Instr-F Instr) → called_import x ≡ None → asks_outside x ≡ false
own_row (instr.Call (Import n)) e = absurd cc
own_row (instr.Call (Defined n)) e = refl
own_row _ e = refl

own_code : (code : List Instr) (r : Running) → r.code.now ≡ code → r.code.now ≢ [] → begins_with_import code ≡ None → IsOwn (next (config_of r))
own_code [] r e there h = absurd (there e)
own_code (i ∷ rest) r e there h = subst (λ c. IsOwn (next_in (world_of r) r.stack r.locals c (around_of r.around Bottom))) (sym e) (own_row (out-Instr i) h)

-- an instruction that calls no import
pub asked_own : (M : WasmModule) (old new : Running) (end : Option End) (events : List Event)
    → begins_with_import old.code.now ≡ None → old.code.now ≢ [] → old.answers.now ≡ [] → did_of end new ≡ begin M (next (config_of old))
    → DoesAsked (step_with M old) events events (log_of (world_of old)) end new
asked_own M old new end events h there none is =
    asked_quietly (world_of old) _ (begin M (next (config_of old))) end new events (log_of (world_of old))
    (step_quietly M (config_of old) (own_code old.code.now old refl there h)) is none refl

-- one that does is a call of the import
call_row : (M : WasmModule) (x : Instr-F Instr) (n : ℕ) → called_import x ≡ Some n → (w : World) (vs : List CoreValue) (ls : List (Option CoreValue)) (rest : List Instr) (k : Around)
    → act M x w vs ls rest k ≡ call_import M n w vs ls rest k
call_row M (instr.Call (Import m)) n e w vs ls rest k = let same : m ≡ n = cc in ap (λ z. call_import M z w vs ls rest k) same
call_row M (instr.Call (Defined m)) n e w vs ls rest k = absurd cc
call_row M _ n e w vs ls rest k = absurd cc

pub import_step : (M : WasmModule) (old : Running) (code rest : List Instr) (n : ℕ) → old.code.now ≡ code → begins_with_import code ≡ Some n → rest ≡ drop 1 code → (answers : List Answer)
    → step_with M old answers ≡ imported M n (with_answers answers (world_of old)) old.stack old.locals rest (around_of old.around Bottom)
import_step M old [] rest n e h g answers = absurd cc
import_step M old (i ∷ more) rest n e h g answers =
    ap (λ c. begin M (next_in (with_answers answers (world_of old)) old.stack old.locals c (around_of old.around Bottom))) e
    ∙ call_row M (out-Instr i) n h (with_answers answers (world_of old)) old.stack old.locals more (around_of old.around Bottom)
    ∙ ap (λ c. call_import M n (with_answers answers (world_of old)) old.stack old.locals c (around_of old.around Bottom)) (sym g)

-- a step that is stuck, whatever answers are left
pub asked_stuck : (go : List Answer → Did) (old new : Running) (events : List Event)
    → ((answers : List Answer) → go answers ≡ Ends Stuck (with_answers answers (world_of old))) → world_of new ≡ world_of old → old.answers.now ≡ []
    → DoesAsked go events events (log_of (world_of old)) (Some Stuck) new
asked_stuck go old new events h same none = record {
  asked = [];
  grew = sym (append-nil events);
  logged = ap log_of same ∙ sym (append-nil (log_of (world_of old)));
  left = ap (λ w. w.answers) same ∙ none;
  is = λ more. h more ∙ ap (λ w. Ends Stuck (with_answers more w)) (sym same);
  not_lacked = λ q. cc;
}

-- a call of a function where a machine stands so, with these answers left
called_with : WasmModule → ℕ → List CoreValue → ℕ → List Answer → Config → Outcome
called_with M f args n answers (At w vs ls code k) = after (exec M n) (check (with_answers answers w) (takes M f args) (call_inside M f (with_answers answers w) vs ls code k))

-- So a whole run is the one that was given the answers of its log.
pub run_asked : (M : WasmModule) (f : ℕ) (args : List CoreValue) (state : MachineState) (n : ℕ) (before behind : List Event) (end : End) (run new : Running)
    → config_of run ≡ At (record { state = state; answers = []; trace = [] }) (reverse args) [] [] Bottom
    → RunsAsked (λ answers. after (exec M n) (check (with_answers answers (world_of run)) (takes M f args) (at_with run (defined M f) answers))) before behind (log_of (world_of run)) end new
    → outcome end (world_of new) ≡ run_of M f args state (answers_of (log_of (world_of new))) n
unfolding called_with
run_asked M f args state n before behind end run new e h =
    let none : log_of (world_of run) ≡ [] = ap (λ c. log_of (config_world c)) e in
    let log : log_of (world_of new) ≡ h.asked = h.logged ∙ ap (λ l. l ++ h.asked) none in
    sym (h.is [])
    ∙ ap (λ answers. called_with M f args n answers (config_of run)) (append-nil (answers_of h.asked) ∙ ap answers_of (sym log))
    ∙ ap (called_with M f args n (answers_of (log_of (world_of new)))) e
