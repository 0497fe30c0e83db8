-- An adapter leaves the memory that values come from.
use Rattle.std.proofs.Common.{◌≡◌, ◌≢◌, ℕ, ◌+◌, Bool, true, false, List, [], ◌∷◌, ◌++◌, Option, Some, None, refl, sym, ap, ◌∙◌, subst, append_assoc}
use Rattle.std.proofs.lemmas.List.{get_or-set_other}
use Rattle.std.specs.Prelude.{slice_get, slice_set, get_or, nat_le, length, if◌then◌else◌, ◌&&◌, is_some}
use Rattle.fact_wasm.specs.declared.types.ValType.{ValType}
use Rattle.fact_types.specs.declared.outside.CoreDef.{CoreDef}
use Rattle.fact_types.specs.declared.outside.Trap.{Trap}
use Rattle.fact_types.specs.declared.outside.Trap.TheVariants.{CannotLeaveComponent}
use Rattle.fact_machine.specs.declared.types.CoreValue.{CoreValue}
use Rattle.fact_machine.specs.declared.types.CoreValue.TheVariants.{I32}
use Rattle.fact_machine.specs.declared.types.MachineState.{MachineState}
use Rattle.fact_machine.specs.World.{World, Done, Halt, Trap as stop_trap, number_at, written, set_global}
use Rattle.fact_types.specs.declared.import.Import.{Import}
use Rattle.fact_types.specs.declared.import.Import.TheVariants as import
use Rattle.fact_types.specs.declared.outside.MemoryOption.{MemoryOption}
use Rattle.fact_types.specs.Adapters.{LinkedAdapter}
use Rattle.fact_actions.specs.Actions.{Action, Give, SetFlags, Ask, Unreachable, ◌>>=◌, ◌>>◌}
use Rattle.fact_actions.specs.Running.{ImportPlaces, Call, Ended, Gave, ended, run}
use Rattle.fact_actions.specs.Sides.{LiftLowerOptions, Transfer, address_value, type_of_addresses, first_bits, check_region, reallocate, get_slots, set_slots, options_of}
use Rattle.fact_actions.specs.Adapters.{AdapterTunables, Slotted, none, when_due, cleared, make_call, enters, enter_call, exit_call, read_slots, finish_call, last_bits, params_transfer, results_transfer, move_params, move_results, sync, async_start, async_return}
use Rattle.fact_actions.specs.Calls.{state_after, side_memory}
use Rattle.fact_actions.specs.Order.{KeepsMemory, HaveTwoMemories, LeavesSources}
use Rattle.fact_actions.specs.Plain.{ended_sync}
use Rattle.fact_actions.specs.AdapterLaws.{StartLeavesSource, ReturnLeavesSource}
use Rattle.fact_actions.proofs.Kept.{IsPlain, IsKept, region_kept}
use Rattle.fact_actions.proofs.Passed.{params_kept, results_kept}
use Rattle.fact_actions.proofs.Whenever.{Whenever, whenever_heavier, whenever_stray, Runs, runs_so, runs_bind, IsCall, runs_ask, runs_trap}
use Rattle.fact_actions.proofs.Ordered.{runs_flags, runs_unless, whenever_guarded}

module _ (p : ImportPlaces) (o : LiftLowerOptions) where
  keeps_from : (s t : MachineState) (cs : List Call) (last : MachineState) → side_memory p o t ≡ side_memory p o s → KeepsMemory p o t cs last → KeepsMemory p o s cs last
  keeps_from s t [] last e k = k ∙ e
  keeps_from s t (c ∷ cs) last e k = (k.0 ∙ e, k.1)

  keeps_on : (s : MachineState) (cs : List Call) (t : MachineState) (ds : List Call) (last : MachineState) → KeepsMemory p o s cs t → KeepsMemory p o t ds last → KeepsMemory p o s (cs ++ ds) last
  keeps_on s [] t ds last k l = keeps_from s t ds last k l
  keeps_on s (c ∷ cs) t ds last k l = (k.0, keeps_on (state_after c) cs t ds last k.1 l)

  keeps_call : {c : Call} {i : Import} {args : List CoreValue} {w : World} {rs : List CoreValue} {w' : World} (cs : List Call) (last : MachineState)
      → IsCall c i args w rs w' → KeepsMemory p o w'.state cs last → KeepsMemory p o w.state (c ∷ cs) last
  keeps_call cs last h k = (ap (side_memory p o) h.before, keeps_from _ _ cs last (ap (side_memory p o) (sym h.behind)) k)

  -- an action that leaves the memory, whatever it calls
  record Leaves (c : ℕ) (A : Type 0) (q : Action A) : Type 0 where
    at : (w : World) → Runs p q w (λ cs a w'. KeepsMemory p o w.state cs w'.state)

  asks_leave : (c d : ℕ) (A : Type 0) (i : Import) (args : List CoreValue) (ts : List ValType) (k : List CoreValue → Action A) → ((rs : List CoreValue) → Leaves c A (k rs)) → Leaves d A (Ask i args ts k)
  asks_leave c d A i args ts k h = record { at = λ w. runs_ask (λ e rs w' g. runs_so ((h rs).at w') (λ cs a w'' l. keeps_call cs w''.state g l)) }

  if_done : {A X : Type 0} (b : Bool) (x : X) (u w : World) (F : X → World → Ended A) (Q : List Call → A → World → Type 0) → Whenever (F x u) Q → Whenever (ended (if b then Done x u else Halt stop_trap w) F) Q
  if_done true x u w F Q h = h
  if_done false x u w F Q h = tt

  any_plain_leaves : (Has : CoreDef → Type 0) → IsPlain Has Leaves
  any_plain_leaves Has = record {
    more = λ c d A q l h. record { at = h.at };
    gives = λ A a. record { at = λ w. record { so = refl } };
    stops = λ A. record { at = λ w. record { so = tt } };
    traps = λ A t. record { at = λ w. runs_trap p t w _ };
    reads = λ c A size m a k has h. record {
      at = λ w. record {
        so = whenever_stray w (slice_get w.state.memories (p.memory m)) _ _ (λ bytes e. if_done (nat_le (a + size) (length bytes)) (number_at size bytes a) w w _ _ ((h (number_at size bytes a)).at w).so);
      };
    };
    lengths = λ c A m k has h. record { at = λ w. record { so = whenever_stray w (slice_get w.state.memories (p.memory m)) _ _ (λ bytes e. ((h (length bytes)).at w).so) } };
  }

  plain_leaves : IsPlain (λ d. Unit {0}) Leaves
  plain_leaves = any_plain_leaves (λ d. Unit {0})

  -- a write to another memory
  abbrev bytes_with : Option MemoryOption → List (List ℕ) → List ℕ
  bytes_with x memories = elim x [ None ↦ [] | Some m ↦ get_or memories (p.memory m.def) [] ]

  other_memory : (i : ℕ) (v : List ℕ) (memories : List (List ℕ)) (x : Option MemoryOption) → ((m : MemoryOption) → x ≡ Some m → p.memory m.def ≢ i)
      → bytes_with x (slice_set memories i v) ≡ bytes_with x memories
  other_memory i v memories None h = refl
  other_memory i v memories (Some m) h = get_or-set_other memories i (p.memory m.def) v [] (h m refl)

  bind_leaves : (c d e : ℕ) (A B : Type 0) (q : Action A) (f : A → Action B) → Leaves c A q → ((a : A) → Leaves d B (f a)) → Leaves e B (q >>= f)
  bind_leaves c d e A B q f h g = record { at = λ w. runs_bind q f (h.at w) (λ cs a w' l. runs_so ((g a).at w') (λ ds b w'' l'. keeps_on w.state cs w'.state ds w''.state l l')) }

  -- ---- parts of adapters

  set_leaves : (i x c : ℕ) (A : Type 0) (q : Action A) → Leaves c A q → Leaves c A (SetFlags i x q)
  set_leaves i x c A q h = record {
    at = λ w. record {
      so = whenever_stray w (slice_get w.state.globals (p.flags i)) _ _ (λ v e.
          let u = set_global (p.flags i) (I32 x) w in
          (runs_so (h.at u) (λ cs a w' l. keeps_from w.state u.state cs w'.state refl l)).so);
    };
  }

  cleared_leaves : (i saved c : ℕ) (A : Type 0) (q : Action A) → Leaves c A q → Leaves 0 A (cleared i saved q)
  cleared_leaves i saved c A q h = set_leaves i 0 0 A _ (bind_leaves c 0 0 A A q _ h (λ a. set_leaves i saved 0 A _ (plain_leaves.gives A a)))

  call_leaves : (i : Import) (args : List CoreValue) (ts : List ValType) → Leaves 0 (List CoreValue) (make_call i args ts)
  call_leaves i args ts = asks_leave 0 0 _ i args ts _ (λ rs. plain_leaves.gives _ rs)

  when_leaves : (b : Bool) (q : Action (List CoreValue)) → Leaves 0 _ q → Leaves 0 _ (when_due b q)
  when_leaves true q h = h
  when_leaves false q h = plain_leaves.gives _ []

  get_leaves : (c : ℕ) (A : Type 0) (b : Bool) (k : List CoreValue → List CoreValue → Action A) → ((x y : List CoreValue) → Leaves c A (k x y)) → Leaves c A (get_slots b k)
  get_leaves c A false k h = h [] []
  get_leaves c A true k h = asks_leave c c A _ [] _ _ (λ x. asks_leave c c A _ [] _ _ (λ y. h x y))

  set_slots_leave : (c : ℕ) (A : Type 0) (b : Bool) (x y : List CoreValue) (q : Action A) → Leaves c A q → Leaves c A (set_slots b x y q)
  set_slots_leave c A false x y q h = h
  set_slots_leave c A true x y q h = asks_leave c c A _ x [] _ (λ r. asks_leave c c A _ y [] _ (λ s. h))

  finish_leaves : (b : Bool) (f : Option CoreDef) (given : List CoreValue) (s : Slotted) → Leaves 0 (List CoreValue) (finish_call b f given s)
  finish_leaves b None given s = plain_leaves.gives _ []
  finish_leaves b (Some f) given s =
      bind_leaves 0 0 0 _ _ _ _ (get_leaves 0 Slotted b _ (λ x y. plain_leaves.gives _ _)) (λ own.
      bind_leaves 0 0 0 _ _ _ _ (set_slots_leave 0 _ b s.first s.second none (plain_leaves.gives _ [])) (λ x.
      bind_leaves 0 0 0 _ _ _ _ (call_leaves (import.CoreDef f) given []) (λ y. set_slots_leave 0 _ b own.first own.second none (plain_leaves.gives _ []))))

  requests_leave : (concurrency : Bool) (to : LiftLowerOptions) (c : ℕ) (A : Type 0) (t : Trap) (old old_size align new_size : ℕ) (k : ℕ → Action A)
      → ((q : ℕ) → Leaves c A (k q)) → Leaves (7 + c) A (reallocate concurrency to t old old_size align new_size k)
  requests_leave concurrency to c A t old old_size align new_size k h = by_realloc to.realloc
    where
      by_realloc : (f : Option CoreDef) → Leaves (7 + c) A (elim f [
        | None ↦ Unreachable
        | Some f ↦
            get_slots concurrency (λ a b. set_slots concurrency (I32 0 ∷ []) (I32 0 ∷ [])
            (Ask (import.CoreDef f) (address_value to old ∷ address_value to old_size ∷ address_value to align ∷ address_value to new_size ∷ []) (type_of_addresses to ∷ []) (λ rs.
            set_slots concurrency a b (check_region to t (first_bits rs) new_size align (k (first_bits rs))))))
      ])
      by_realloc None = record { at = λ w. record { so = tt } }
      by_realloc (Some f) =
          record {
            at = (get_leaves c A concurrency _ (λ x y. set_slots_leave c A concurrency _ _ _ (asks_leave c c A (import.CoreDef f) _ _ _ (λ rs.
                set_slots_leave c A concurrency x y _ (region_kept plain_leaves c A to (λ m e. tt) t (first_bits rs) new_size align (k (first_bits rs)) (h (first_bits rs))))))).at;
          }

-- values move from a side to another that has a memory of its own
leaves_kept : (p : ImportPlaces) (tr : Transfer) → HaveTwoMemories p tr.from tr.to → IsKept tr (Leaves p tr.from)
leaves_kept p tr two = record {
  plain = any_plain_leaves p tr.from _;
  writes = λ c A size m a x q is_to h. record {
    at = λ w. record {
      so = whenever_stray w (slice_get w.state.memories (p.memory m.def)) _ _ (λ bytes e.
          let u = written size (p.memory m.def) bytes a x w in
          if_done p tr.from (nat_le (a + size) (length bytes)) tt u w _ _ (runs_so (h.at u) (λ cs b w' l.
          keeps_from p tr.from w.state u.state cs w'.state (other_memory p tr.from (p.memory m.def) _ w.state.memories tr.from.memory (λ n is_from. two n m is_from is_to)) l)).so);
    };
  };
  visits = λ n A q l h. record { at = λ w. record { so = whenever_heavier n (run p q w) _ (h.at w).so } };
  values = λ c A i args ts k v r h. asks_leave p tr.from c (1 + c) A i args ts k h;
  requests = requests_leave p tr.from tr.concurrency tr.to;
  binds = λ c d A B q f h g. bind_leaves p tr.from c d (c + d) A B q f h g;
}

two_back : (p : ImportPlaces) (o q : LiftLowerOptions) → HaveTwoMemories p o q → HaveTwoMemories p q o
two_back p o q h m n e f g = h n m f e (sym g)

module _ (p : ImportPlaces) (u : AdapterTunables) (a : LinkedAdapter) (two : HaveTwoMemories p (options_of a.lower) (options_of a.lift)) where
  -- behind the call of the callee
  behind_leaves : (args given : List CoreValue) (saved : ℕ) → Leaves p (options_of a.lift) 0 (List CoreValue)
      (read_slots (u.concurrency && is_some a.lift.post_return) >>= (λ context. exit_call u a >> (cleared a.lower.instance saved (move_results u a given (last_bits args)) >>= (λ results. finish_call u.concurrency a.lift.post_return given context >> Give results))))
  behind_leaves args given saved =
      bind_leaves p (options_of a.lift) 0 0 0 _ _ _ _ (get_leaves p (options_of a.lift) 0 Slotted (u.concurrency && is_some a.lift.post_return) _ (λ x y. (plain_leaves p (options_of a.lift)).gives _ _)) (λ context.
      bind_leaves p (options_of a.lift) 0 0 0 _ _ _ _ (when_leaves p (options_of a.lift) (enters u a) _ (call_leaves p (options_of a.lift) _ _ _)) (λ r.
      bind_leaves p (options_of a.lift) 0 0 0 _ _ _ _ (cleared_leaves p (options_of a.lift) a.lower.instance saved 0 _ _ (results_kept u a (leaves_kept p (results_transfer u a) (two_back p (options_of a.lower) (options_of a.lift) two)) given (last_bits args))) (λ results.
      bind_leaves p (options_of a.lift) 0 0 0 _ _ _ _ (finish_leaves p (options_of a.lift) u.concurrency a.lift.post_return given context) (λ s. (plain_leaves p (options_of a.lift)).gives _ results))))

  runs_sources : (args : List CoreValue) (w : World) → Runs p (sync u a args) w (λ cs vs w'. LeavesSources p a w.state cs w'.state)
  runs_sources args w =
      runs_flags p a.lower.instance _ w _ (λ saved is_saved.
      runs_unless p CannotLeaveComponent _ _ w (λ cs vs w'. LeavesSources p a w.state cs w'.state) (λ is_set.
      runs_bind (enter_call u a) _ ((when_leaves p (options_of a.lower) (enters u a) _ (call_leaves p (options_of a.lower) import.EnterSyncCall _ [])).at w) (λ enter r0 w1 entered.
      runs_flags p a.lift.instance _ w1 _ (λ lift_saved is_lift.
      runs_bind (cleared a.lift.instance lift_saved (move_params u a args)) _
      ((cleared_leaves p (options_of a.lower) a.lift.instance lift_saved 7 _ _ (params_kept u a (leaves_kept p (params_transfer u a) two) args)).at w1) (λ params core w2 moved.
      runs_ask (λ callee given w3 answered.
      runs_so ((behind_leaves args given saved).at w3) (λ behind vs w4 left. record {
        before = enter ++ params;
        callee = callee;
        behind = behind;
        calls_are = sym (append_assoc enter params (callee ∷ behind));
        callee_is = ap (λ x. x.0) answered.asked;
        lower_kept = subst (λ s. KeepsMemory p (options_of a.lower) w.state (enter ++ params) s) (sym answered.before) (keeps_on p (options_of a.lower) w.state enter w1.state params w2.state entered moved);
        lift_kept = keeps_from p (options_of a.lift) _ _ behind w4.state (ap (side_memory p (options_of a.lift)) (sym answered.behind)) left;
      })))))))

  -- the functions of an async adapter that move parameters and results
  runs_start : (args : List CoreValue) (w : World) → Runs p (async_start u a args) w (λ cs vs w'. KeepsMemory p (options_of a.lower) w.state cs w'.state)
  runs_start args w =
      runs_flags p a.lift.instance _ w _ (λ saved is_saved.
      (cleared_leaves p (options_of a.lower) a.lift.instance saved 7 _ _ (params_kept u a (leaves_kept p (params_transfer u a) two) args)).at w)

  runs_return : (args : List CoreValue) (w : World) → Runs p (async_return u a args) w (λ cs vs w'. KeepsMemory p (options_of a.lift) w.state cs w'.state)
  runs_return args w =
      runs_flags p a.lower.instance _ w _ (λ saved is_saved.
      (cleared_leaves p (options_of a.lift) a.lower.instance saved 0 _ _ (results_kept u a (leaves_kept p (results_transfer u a) (two_back p (options_of a.lower) (options_of a.lift) two)) args (last_bits args))).at w)

pub sources_are_left : (p : ImportPlaces) (u : AdapterTunables) (a : LinkedAdapter) (args : List CoreValue) (w w' : World) (n : ℕ) (cs : List Call) (vs : List CoreValue)
    → HaveTwoMemories p (options_of a.lower) (options_of a.lift) → ended_sync p u a args w ≡ Gave n cs vs w' → LeavesSources p a w.state cs w'.state
sources_are_left p u a args w w' n cs vs two e =
    subst (λ x. Whenever x (λ ds rs w''. LeavesSources p a w.state ds w''.state)) e (whenever_guarded p u.exceptions (run p (sync u a args) w) _ (runs_sources p u a two args w).so)

pub start_leaves_source : StartLeavesSource
start_leaves_source p u a args w w' n cs vs two e = subst (λ x. Whenever x (λ ds rs w''. KeepsMemory p (options_of a.lower) w.state ds w''.state)) e (runs_start p u a two args w).so

pub return_leaves_source : ReturnLeavesSource
return_leaves_source p u a args w w' n cs vs two e = subst (λ x. Whenever x (λ ds rs w''. KeepsMemory p (options_of a.lift) w.state ds w''.state)) e (runs_return p u a two args w).so
