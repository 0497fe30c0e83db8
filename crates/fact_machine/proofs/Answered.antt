-- The answers of a run: those in its log are the first that it was given; with more of them it is the same, or it lacked one.
use Rattle.std.proofs.Common.{◌≡◌, ◌⊎◌, ℕ, zero, suc, ◌≤◌, List, [], ◌∷◌, ◌++◌, Option, Bool, true, false, length, reverse, refl, sym, ap, ◌∙◌, subst, inl, inr, arith, append_assoc, append-nil, length-append}
use Rattle.std.proofs.lemmas.List.{length-map, nil_from_length}
use Rattle.fact_wasm.specs.declared.instr.Instr.{Instr, out-Instr}
use Rattle.fact_wasm.specs.declared.module.WasmModule.{WasmModule}
use Rattle.fact_machine.specs.declared.types.CoreValue.{CoreValue}
use Rattle.fact_machine.specs.declared.types.MachineState.{MachineState}
use Rattle.fact_machine.specs.declared.types.Answer.{Answer}
use Rattle.fact_machine.specs.declared.types.Answer.TheVariants.{Returns, Traps, Throws}
use Rattle.fact_machine.specs.declared.types.Event.{Event}
use Rattle.fact_machine.specs.declared.types.TraceEntry.{TraceEntry}
use Rattle.fact_machine.specs.declared.types.TraceEntry.TheVariants.{Called}
use Rattle.fact_machine.specs.declared.types.End.TheVariants.{Lacks}
use Rattle.fact_machine.specs.declared.types.Outcome.{Outcome}
use Rattle.fact_machine.specs.World.{World, calls, asked}
use Rattle.fact_machine.specs.Machine.{have_types, Around, Bottom, Label, Frame, Config, At, Did, Goes, Ends, Next, Begins, Finished, Breaks, leaving, on_res, throw, next_in, next, begin, act, start, run_of}
use Rattle.fact_machine.specs.Causes.{answers_of}
use Rattle.fact_machine.specs.RunLaws.{LacksOne}
use Rattle.fact_machine.specs.Trace.{Grows, Reached, reached, outcome_of, reached_at_rest, reached_after, reach, run_reach, trace_of}
use Rattle.fact_machine.proofs.Causes.{Told, run_tells, run_lacks}
use Rattle.fact_machine.proofs.Grows.{grows_from, run_log, run_log_more, trace_more}
use Rattle.fact_machine.proofs.Laws.{run_is}
use Rattle.fact_machine.proofs.Plans.{Leap, To, Stops, leaps, Plan, Leaps, Sets, Writes, Asks, does, world, Planned, throw_leaping, act_planned, start_planned}
use Rattle.fact_machine.proofs.Traces.{calls-append}
use Rattle.fact_machine.proofs.Worlds.{did_world, throw_world, world_at_zero}

-- ---- one step

-- the same world with more answers behind its own
abbrev with_more : List Answer → World → World
with_more more w = record { state = w.state; answers = w.answers ++ more; trace = w.trace }

abbrev config_more : List Answer → Config → Config
config_more more (At w vs ls code k) = At (with_more more w) vs ls code k

abbrev next_more : List Answer → Next → Next
next_more more (Begins w vs ls i rest k) = Begins (with_more more w) vs ls i rest k
next_more more (Finished w vs) = Finished (with_more more w) vs
next_more more (Breaks w) = Breaks (with_more more w)

-- a trace with one outside call more, and whatever came behind it
record TakesOne (before after : List TraceEntry) : Type 0 where
  pub event : Event
  pub more : List TraceEntry
  pub is : after ≡ before ++ (Called event ∷ more)

-- what the same row does with more answers: the same, or it lacked one
abbrev Beside : List Answer → Did → Did → Type 0
Beside more (Goes c) d = d ≡ Goes (config_more more c)
Beside more (Ends e w) d = (d ≡ Ends e (with_more more w)) ⊎ ((e ≡ Lacks) × TakesOne w.trace (did_world d).trace)

leaps_beside : (l : Leap) (w : World) (more : List Answer) → Beside more (leaps l w) (leaps l (with_more more w))
leaps_beside (To vs ls code k) w more = refl
leaps_beside (Stops e p) w more = inl refl

beside_by : (more : List Answer) (b b' d d' : Did) → b ≡ d → b' ≡ d' → Beside more d d' → Beside more b b'
beside_by more b b' d d' e e' h = subst (λ x. Beside more x b') (sym e) (subst (Beside more d) (sym e') h)

throw_beside : (w : World) (ls : List (Option CoreValue)) (k : Around) (more : List Answer) → Beside more (throw w ls k) (throw (with_more more w) ls k)
throw_beside w ls k more = let p = throw_leaping ls k in beside_by more _ _ _ _ (p.is w) (p.is (with_more more w)) (leaps_beside p.leap w more)

asked_beside : (f : ℕ) (args : List CoreValue) (w : World) (left more : List Answer) (vs : List CoreValue) (ls : List (Option CoreValue)) (code : List Instr) (k : Around)
    → Beside more (on_res (asked f args w left) ls k (λ results w'. Goes (At w' (reverse results ++ vs) ls code k)))
    (on_res (asked f args (with_more more w) (left ++ more)) ls k (λ results w'. Goes (At w' (reverse results ++ vs) ls code k)))
asked_beside f args w [] [] vs ls code k = inl refl
asked_beside f args w [] (Returns results state ∷ more) vs ls code k =
    inr (refl, record { event = record { func = f; args = args; before = w.state; answer = Returns results state }; more = []; is = refl })
asked_beside f args w [] (Traps ∷ more) vs ls code k = inr (refl, record { event = record { func = f; args = args; before = w.state; answer = Traps }; more = []; is = refl })
asked_beside f args w [] (Throws ∷ more) vs ls code k =
    let e : Event = record { func = f; args = args; before = w.state; answer = Throws } in
    let u : World = record { state = w.state; answers = more; trace = w.trace ++ Called e ∷ [] } in
    inr (refl, record { event = e; more = []; is = ap (λ (v : World). v.trace) (throw_world u ls k) })
asked_beside f args w (Returns results state ∷ left) more vs ls code k = refl
asked_beside f args w (Traps ∷ left) more vs ls code k = inl refl
asked_beside f args w (Throws ∷ left) more vs ls code k = throw_beside _ ls k more

does_beside : (p : Plan) (w : World) (more : List Answer) → Beside more (does p w) (does p (with_more more w))
does_beside (Leaps l) w more = leaps_beside l w more
does_beside (Sets i v vs ls code k) w more = refl
does_beside (Writes n index memory address value vs ls code k) w more = refl
does_beside (Asks f args vs ls code k) w more = asked_beside f args w w.answers more vs ls code k

planned_beside : (w : World) (go : List Answer → List TraceEntry → Did) (more : List Answer) → Planned w.state go → Beside more (go w.answers w.trace) (go (w.answers ++ more) w.trace)
planned_beside w go more p = beside_by more _ _ _ _ (p.is w.answers w.trace) (p.is (w.answers ++ more) w.trace) (does_beside p.plan w more)

begin_beside : (M : WasmModule) (x : Next) (more : List Answer) → Beside more (begin M x) (begin M (next_more more x))
begin_beside M (Begins w vs ls i rest k) more = planned_beside w (λ b t. act M (out-Instr i) (world w.state b t) vs ls rest k) more (act_planned M (out-Instr i) w.state vs ls rest k)
begin_beside M (Finished w vs) more = inl refl
begin_beside M (Breaks w) more = inl refl

-- ---- any number of steps

leaving_beside : (b : Bool) (w : World) (more : List Answer) (x y : Next) → x ≡ next_more more y → leaving b (with_more more w) x ≡ next_more more (leaving b w y)
leaving_beside true w more x y h = h
leaving_beside false w more x y h = refl

next_beside : (w : World) (vs : List CoreValue) (ls : List (Option CoreValue)) (code : List Instr) (k : Around) (more : List Answer) → next_in (with_more more w) vs ls code k ≡ next_more more (next_in w vs ls code k)
next_beside w vs ls (i ∷ rest) k more = refl
next_beside w vs ls [] Bottom more = refl
next_beside w vs ls [] (Label n below to rest cs k) more = next_beside w (vs ++ below) ls rest k more
next_beside w vs ls [] (Frame ts f below rest k) more = leaving_beside (have_types (reverse vs) ts) w more _ _ (next_beside w (vs ++ below) f rest k more)

config_beside : (c : Config) (more : List Answer) → next (config_more more c) ≡ next_more more (next c)
config_beside (At w vs ls code k) more = next_beside w vs ls code k more

-- how a run stands with more answers: as it stood, or it lacked one
abbrev ReachedBeside : List Answer → Reached → Reached → Type 0
ReachedBeside more r r' = (r' ≡ reached r.end (with_more more r.world)) ⊎ ((r.end ≡ Lacks) × TakesOne r.world.trace r'.world.trace)

rest_beside : (x : Next) (more : List Answer) → reached_at_rest (next_more more x) ≡ reached (reached_at_rest x).end (with_more more (reached_at_rest x).world)
rest_beside (Begins w vs ls i rest k) more = refl
rest_beside (Finished w vs) more = refl
rest_beside (Breaks w) more = refl

takes_on : {a b c : List TraceEntry} → TakesOne a b → Grows b c → TakesOne a c
takes_on {a} p g = record { event = p.event; more = p.more ++ g.more; is = g.is ∙ ap (λ l. l ++ g.more) p.is ∙ append_assoc a (Called p.event ∷ p.more) g.more }

trace_from : (M : WasmModule) (n : ℕ) (d : Did) → Grows (did_world d).trace (reached_after (reach M n) d).world.trace
trace_from M n d = grows_from (ap (λ (w : World). w.trace) (sym (world_at_zero M d))) (trace_more M 0 n d (omega arith))

after_beside : (M : WasmModule) (n : ℕ) (more : List Answer) (d d' : Did) → ((c : Config) → ReachedBeside more (reach M n c) (reach M n (config_more more c)))
    → Beside more d d' → ReachedBeside more (reached_after (reach M n) d) (reached_after (reach M n) d')
after_beside M n more (Goes c) d' ih b = subst (λ x. ReachedBeside more (reach M n c) (reached_after (reach M n) x)) (sym b) (ih c)
after_beside M n more (Ends e w) d' ih b = elim b [ inl same ↦ inl (ap (reached_after (reach M n)) same) | inr took ↦ inr (took.0, takes_on took.1 (trace_from M n d')) ]

reach_beside : (M : WasmModule) (n : ℕ) (more : List Answer) (c : Config) → ReachedBeside more (reach M n c) (reach M n (config_more more c))
reach_beside M zero more c = inl (ap reached_at_rest (config_beside c more) ∙ rest_beside (next c) more)
reach_beside M (suc n) more c =
    let b : Beside more (begin M (next c)) (begin M (next (config_more more c))) = subst (λ x. Beside more (begin M (next c)) (begin M x)) (sym (config_beside c more)) (begin_beside M (next c) more) in
    after_beside M n more (begin M (next c)) (begin M (next (config_more more c))) (reach_beside M n more) b

-- ---- runs

module _ (M : WasmModule) (f : ℕ) (args : List CoreValue) (s : MachineState) where
  run_beside : (answers more : List Answer) (n : ℕ) → ReachedBeside more (run_reach M f args s answers n) (run_reach M f args s (answers ++ more) n)
  run_beside answers more n =
      let b : Beside more (start M f args s answers) (start M f args s (answers ++ more)) = planned_beside (world s answers []) _ more (start_planned M f args s) in
      after_beside M n more (start M f args s answers) (start M f args s (answers ++ more)) (reach_beside M n more) b

  lacks_one : (answers more : List Answer) (n : ℕ) → (run_reach M f args s answers n).end ≡ Lacks → TakesOne (trace_of M f args s answers n) (trace_of M f args s (answers ++ more) n)
      → LacksOne (run_of M f args s answers n) (run_of M f args s (answers ++ more) n)
  lacks_one answers more n lacks took = record {
    lacks = ap (λ (o : Outcome). o.end) (run_is M f args s answers n) ∙ lacks;
    event = took.event;
    more = calls took.more;
    log = run_log M f args s (answers ++ more) n ∙ ap calls took.is ∙ calls-append (trace_of M f args s answers n) (Called took.event ∷ took.more) ∙ ap (λ l. l ++ took.event ∷ calls took.more) (sym (run_log M f args s answers n));
  }

  -- with more answers a run is the same, or it lacked one
  pub more_answers : (answers more : List Answer) (n : ℕ) → (run_of M f args s answers n ≡ run_of M f args s (answers ++ more) n) ⊎ LacksOne (run_of M f args s answers n) (run_of M f args s (answers ++ more) n)
  more_answers answers more n = elim (run_beside answers more n) [
    | inl same ↦ inl (run_is M f args s answers n ∙ sym (ap outcome_of same) ∙ sym (run_is M f args s (answers ++ more) n))
    | inr took ↦ inr (lacks_one answers more n took.0 took.1)
  ]

  abbrev log : List Answer → ℕ → List Event
  log answers n = (run_of M f args s answers n).log

  many : (l : List Event) → length (answers_of l) ≡ length l
  many l = length-map l (λ (e : Event). e.answer)

  -- the answers in its log are the first that it was given
  pub log_takes : (answers : List Answer) (n : ℕ) → Grows (answers_of (log answers n)) answers
  log_takes answers n = let t = run_tells M f args s answers n in record { more = t.left; is = sym t.is }

  -- on these alone it is the same: it lacks none, since its log would have one more
  pub runs_on_its_answers : (answers : List Answer) (n : ℕ) → run_of M f args s (answers_of (log answers n)) n ≡ run_of M f args s answers n
  runs_on_its_answers answers n = elim (more_answers (answers_of (log answers n)) t.left n) [ inl same ↦ same ∙ whole | inr short ↦ absurd (too_long short) ]
    where
      t : Told answers (length answers) (run_of M f args s answers n)
      t = run_tells M f args s answers n

      whole : run_of M f args s (answers_of (log answers n) ++ t.left) n ≡ run_of M f args s answers n
      whole = ap (λ l. run_of M f args s l n) t.is

      too_long : LacksOne (run_of M f args s (answers_of (log answers n)) n) (run_of M f args s (answers_of (log answers n) ++ t.left) n) → ⊥
      too_long short =
          let own : List Event = log (answers_of (log answers n)) n in
          let taken : length (answers_of own) ≡ length (answers_of (log answers n)) = ap length (run_lacks M f args s (answers_of (log answers n)) n short.lacks) in
          let longer : length (log answers n) ≡ length (own ++ short.event ∷ short.more) = sym (ap (λ (o : Outcome). length o.log) whole) ∙ ap length short.log in
          omega (arith, taken, longer, length-append own (short.event ∷ short.more), many own, many (log answers n))

  -- where it has taken all, it makes no more calls
  pub no_more_calls : (answers : List Answer) (n m : ℕ) → n ≤ m → answers_of (log answers n) ≡ answers → log answers m ≡ log answers n
  no_more_calls answers n m le all =
      let g = run_log_more M f args s answers n m le in
      let t = run_tells M f args s answers m in
      let none : length g.more ≡ 0 = omega (arith, ap length g.is, length-append (log answers n) g.more, ap length t.is, length-append (answers_of (log answers m)) t.left, ap length all, many (log answers n), many (log answers m)) in
      g.is ∙ ap (λ l. log answers n ++ l) (nil_from_length g.more none) ∙ append-nil (log answers n)

  -- where it lacks one, it takes one more
  pub run_asks : (answers : List Answer) (n : ℕ) → (run_of M f args s answers n).end ≡ Lacks → (a : Answer) → answers_of (log (answers ++ a ∷ []) n) ≡ answers ++ a ∷ []
  run_asks answers n q a = elim (more_answers answers (a ∷ []) n) [
    | inl same ↦ run_lacks M f args s (answers ++ a ∷ []) n (ap (λ (o : Outcome). o.end) (sym same) ∙ q)
    | inr short ↦ all_taken short
  ]
    where
      t : Told (answers ++ a ∷ []) (length (answers ++ a ∷ [])) (run_of M f args s (answers ++ a ∷ []) n)
      t = run_tells M f args s (answers ++ a ∷ []) n

      all_taken : LacksOne (run_of M f args s answers n) (run_of M f args s (answers ++ a ∷ []) n) → answers_of (log (answers ++ a ∷ []) n) ≡ answers ++ a ∷ []
      all_taken short =
          let took : length (answers_of (log answers n)) ≡ length answers = ap length (run_lacks M f args s answers n q) in
          let none : length t.left ≡ 0
          = omega (arith, took, ap length t.is, length-append (answers_of (log (answers ++ a ∷ []) n)) t.left, length-append answers (a ∷ []), ap length short.log, length-append (log answers n) (short.event ∷ short.more), many (log answers n), many (log (answers ++ a ∷ []) n)) in
          sym (append-nil _) ∙ ap (λ l. answers_of (log (answers ++ a ∷ []) n) ++ l) (sym (nil_from_length t.left none)) ∙ t.is
