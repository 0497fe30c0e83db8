-- What a run has changed is what its trace says.
use Rattle.std.proofs.Common.{◌≡◌, ℕ, zero, suc, ◌+◌, ◌-◌, ◌*◌, ◌/◌, ◌%◌, ◌^◌, ◌≤◌, List, [], ◌∷◌, ◌++◌, Option, Some, None, refl, sym, ap, ◌∙◌, subst, arith, lit<, append_assoc, append-nil, reverse, slice_get}
use Rattle.std.specs.Prelude.{slice_set}
use Rattle.std.proofs.Math.Nat.{pow-suc, one-le-pow}
use Rattle.std.proofs.Math.Arith.{mod-mul}
use Rattle.fact_wasm.specs.declared.instr.Instr.{Instr, out-Instr}
use Rattle.fact_wasm.specs.declared.module.WasmModule.{WasmModule}
use Rattle.fact_machine.specs.declared.types.CoreValue.{CoreValue}
use Rattle.fact_machine.specs.declared.types.MachineState.{MachineState}
use Rattle.fact_machine.specs.declared.types.Answer.{Answer}
use Rattle.fact_machine.specs.declared.types.Answer.TheVariants.{Returns, Traps, Throws}
use Rattle.fact_machine.specs.declared.types.TraceEntry.{TraceEntry}
use Rattle.fact_machine.specs.declared.types.TraceEntry.TheVariants.{Called, Stored, GlobalSet}
use Rattle.fact_machine.specs.declared.types.Outcome.{Outcome}
use Rattle.fact_machine.specs.World.{World, asked, bytes_of, put_at, with_number}
use Rattle.fact_machine.specs.Machine.{Around, Config, At, Did, Goes, Ends, Next, Begins, Finished, Breaks, on_res, act, next, next_in, begin, start}
use Rattle.fact_machine.specs.Trace.{reached_after, reach, run_reach, world_at, trace_of}
use Rattle.fact_machine.specs.Replay.{replay_one, replay, SeesState, SeesReplay, Replays, WorldIsReplayed, RunIsReplayed, CallsSeeReplay, LaterIsReplayed}
use Rattle.fact_machine.proofs.Laws.{run_is}
use Rattle.fact_machine.proofs.Plans.{To, Stops, Plan, Leaps, Sets, Writes, Asks, does, world, IsThere, Planned, act_planned, start_planned}
use Rattle.fact_machine.proofs.Worlds.{config_world, did_world, throw_world, next_world, next_keeps, world_at_zero}

-- ---- traces

-- what is replayed of a trace is replayed part by part
pub replay_append : (s : MachineState) (a b : List TraceEntry) → replay s (a ++ b) ≡ replay (replay s a) b
replay_append s [] b = refl
replay_append s (e ∷ a) b = replay_append (replay_one s e) a b

sees_append : (s : MachineState) (a b : List TraceEntry) → SeesReplay s a → SeesReplay (replay s a) b → SeesReplay s (a ++ b)
sees_append s [] b h g = g
sees_append s (e ∷ a) b h g = (h.0, sees_append (replay_one s e) a b h.1 g)

-- ---- worlds

-- nothing happened
pub replays_none : (w : World) → Replays w w
replays_none w = record { more = []; trace = sym (append-nil w.trace); state = refl; seen = tt }

-- one after another
pub replays_on : {a b c : World} → Replays a b → Replays b c → Replays a c
replays_on {a} p q =
    record {
      more = p.more ++ q.more;
      trace = q.trace ∙ ap (λ l. l ++ q.more) p.trace ∙ append_assoc a.trace p.more q.more;
      state = q.state ∙ ap (λ s. replay s q.more) p.state ∙ sym (replay_append a.state p.more q.more);
      seen = sees_append a.state p.more q.more p.seen (subst (λ s. SeesReplay s q.more) p.state q.seen);
    }

-- the first world in another form
pub replays_from : {a b c : World} → b ≡ a → Replays b c → Replays a c
replays_from {c = c} e p = subst (λ w. Replays w c) e p

-- the second world in another form
pub replays_to : {a b c : World} → c ≡ b → Replays a b → Replays a c
replays_to {a} e p = subst (λ w. Replays a w) (sym e) p

replays_one : (w : World) (s : MachineState) (answers : List Answer) (e : TraceEntry) → s ≡ replay_one w.state e → SeesState w.state e
    → Replays w (record { state = s; answers = answers; trace = w.trace ++ e ∷ [] })
replays_one w s answers e is sees = record { more = e ∷ []; trace = refl; state = is; seen = (sees, tt) }

-- ---- one step

-- the bytes of a number are those of what is left of it modulo 256 to the power of their count
pub bytes_of_rest : (n v : ℕ) → bytes_of n (v % 256 ^ n) ≡ bytes_of n v
bytes_of_rest zero v = refl
bytes_of_rest (suc n) v =
    let wide : v % 256 ^ suc n ≡ v % (256 ^ n * 256) = ap (λ m. v % m) (pow-suc 256 n) in
    let digits : v % (256 ^ n * 256) ≡ (v / 256 % 256 ^ n) * 256 + v % 256 = mod-mul v (one-le-pow n 256 (lit< tt)) (lit< tt) in
    let low : v % 256 ^ suc n % 256 ≡ v % 256 = omega arith in
    let high : v % 256 ^ suc n / 256 ≡ v / 256 % 256 ^ n = omega arith in
    ap (λ b. b ∷ bytes_of n (v % 256 ^ suc n / 256)) low ∙ ap (λ u. (v % 256) ∷ bytes_of n u) high ∙ ap (λ l. (v % 256) ∷ l) (bytes_of_rest n (v / 256))

-- a write is its entry of the trace
written_replays : (n index address value : ℕ) (memory : List ℕ) (s : MachineState) → slice_get s.memories index ≡ Some memory
    → record { memories = slice_set s.memories index (with_number n memory address value); globals = s.globals } ≡ replay_one s (Stored index address n (value % 256 ^ n))
written_replays n index address value memory s there =
    let having : List (List ℕ) → MachineState = λ memories. record { memories = memories; globals = s.globals } in
    ap (λ bytes. having (slice_set s.memories index (put_at memory address bytes))) (sym (bytes_of_rest n value))
    ∙ sym (ap (λ o. having (elim o [ None ↦ s.memories | Some bytes ↦ slice_set s.memories index (with_number n bytes address (value % 256 ^ n)) ])) there)

asked_replays : (f : ℕ) (args : List CoreValue) (w : World) (left : List Answer) (vs : List CoreValue) (ls : List (Option CoreValue)) (code : List Instr) (k : Around)
    → Replays w (did_world (on_res (asked f args w left) ls k (λ results w'. Goes (At w' (reverse results ++ vs) ls code k))))
asked_replays f args w [] vs ls code k = replays_none w
asked_replays f args w (Returns results state ∷ more) vs ls code k = replays_one w state more (Called _) refl refl
asked_replays f args w (Traps ∷ more) vs ls code k = replays_one w w.state more (Called _) refl refl
asked_replays f args w (Throws ∷ more) vs ls code k = replays_to (throw_world _ ls k) (replays_one w w.state more (Called _) refl refl)

does_replays : (p : Plan) (w : World) → IsThere w.state p → Replays w (did_world (does p w))
does_replays (Leaps (To vs ls code k)) w h = replays_none w
does_replays (Leaps (Stops e q)) w h = replays_none w
does_replays (Sets n v vs ls code k) w h = replays_one w _ w.answers (GlobalSet n v) refl tt
does_replays (Writes n index memory address value vs ls code k) w h = replays_one w _ w.answers (Stored index address n (value % 256 ^ n)) (written_replays n index address value memory w.state h.0) tt
does_replays (Asks f args vs ls code k) w h = asked_replays f args w w.answers vs ls code k

planned_replays : (w : World) (go : List Answer → List TraceEntry → Did) → Planned w.state go → Replays w (did_world (go w.answers w.trace))
planned_replays w go p = replays_to (ap did_world (p.is w.answers w.trace)) (does_replays p.plan w p.there)

begin_replays : (M : WasmModule) (x : Next) → Replays (next_world x) (did_world (begin M x))
begin_replays M (Begins w vs ls i rest k) = planned_replays w (λ a t. act M (out-Instr i) (world w.state a t) vs ls rest k) (act_planned M (out-Instr i) w.state vs ls rest k)
begin_replays M (Finished w vs) = replays_none w
begin_replays M (Breaks w) = replays_none w

-- ---- any number of steps

after_replays : (M : WasmModule) (n : ℕ) (d : Did) → ((c : Config) → Replays (config_world c) (world_at M n c)) → Replays (did_world d) (reached_after (reach M n) d).world
after_replays M n (Goes c) h = h c
after_replays M n (Ends e w) h = replays_none w

-- what some steps changed is what they put onto the trace
pub steps_replay : (M : WasmModule) (n : ℕ) (c : Config) → Replays (config_world c) (world_at M n c)
steps_replay M zero c = replays_to (world_at_zero M (Goes c)) (replays_none (config_world c))
steps_replay M (suc n) (At w vs ls code k) =
    let x : Next = next_in w vs ls code k in
    replays_from (next_keeps w vs ls code k) (replays_on (begin_replays M x) (after_replays M n (begin M x) (steps_replay M n)))

more_did : (M : WasmModule) (n m : ℕ) (d : Did) → ((c : Config) → Replays (world_at M n c) (world_at M (n + m) c)) → Replays (reached_after (reach M n) d).world (reached_after (reach M (n + m)) d).world
more_did M n m (Goes c) h = h c
more_did M n m (Ends e w) h = replays_none w

more_add : (M : WasmModule) (n m : ℕ) (c : Config) → Replays (world_at M n c) (world_at M (n + m) c)
more_add M zero m c =
    let e : 0 + m ≡ m = omega arith in
    replays_from (sym (world_at_zero M (Goes c))) (replays_to (ap (λ k. world_at M k c) e) (steps_replay M m c))
more_add M (suc n) m c =
    let e : suc n + m ≡ suc (n + m) = omega arith in
    replays_to (ap (λ k. world_at M k c) e) (more_did M n m (begin M (next c)) (more_add M n m))

-- so of more steps
pub more_replays : (M : WasmModule) (n m : ℕ) (d : Did) → n ≤ m → Replays (reached_after (reach M n) d).world (reached_after (reach M m) d).world
more_replays M n m d le =
    let e : m ≡ n + (m - n) = omega arith in
    replays_to (ap (λ k. (reached_after (reach M k) d).world) e) (more_did M n (m - n) d (more_add M n (m - n)))

-- ---- runs

pub world_is_replayed : WorldIsReplayed
world_is_replayed M n w vs ls code k = steps_replay M n (At w vs ls code k)

pub later_is_replayed : LaterIsReplayed
later_is_replayed M f args state answers n m le = more_replays M n m (start M f args state answers) le

module _ (M : WasmModule) (f : ℕ) (args : List CoreValue) (state : MachineState) (answers : List Answer) (n : ℕ) where
  begun : Replays (world state answers []) (run_reach M f args state answers n).world
  begun = replays_on (planned_replays (world state answers []) _ (start_planned M f args state)) (after_replays M n (start M f args state answers) (steps_replay M n))

  trace_is : trace_of M f args state answers n ≡ begun.more
  trace_is = begun.trace

  pub run_replayed : (run_reach M f args state answers n).world.state ≡ replay state (trace_of M f args state answers n)
  run_replayed = begun.state ∙ ap (replay state) (sym trace_is)

  pub run_sees : SeesReplay state (trace_of M f args state answers n)
  run_sees = subst (SeesReplay state) (sym trace_is) begun.seen

pub run_is_replayed : RunIsReplayed
run_is_replayed M f args state answers n = ap (λ (o : Outcome). o.state) (run_is M f args state answers n) ∙ run_replayed M f args state answers n

pub calls_see_replay : CallsSeeReplay
calls_see_replay M f args state answers n = run_sees M f args state answers n
