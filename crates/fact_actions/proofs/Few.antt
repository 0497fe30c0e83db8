-- How many calls a run makes, by the weight of what was moved.
use Rattle.std.proofs.Common.{ℕ, ◌+◌, ◌*◌, ◌≤◌, Bool, true, false, List, [], ◌∷◌, Option, Some, None, arith, length, sym, subst}
use Rattle.std.proofs.lemmas.List.{length-append}
use Rattle.std.specs.Prelude.{slice_get}
use Rattle.fact_wasm.specs.declared.types.ValType.{ValType}
use Rattle.fact_types.specs.declared.outside.CoreDef.{CoreDef}
use Rattle.fact_types.specs.declared.outside.Trap.{Trap}
use Rattle.fact_machine.specs.declared.types.CoreValue.{CoreValue}
use Rattle.fact_machine.specs.declared.types.CoreValue.TheVariants.{I32}
use Rattle.fact_machine.specs.declared.types.Answer.{Answer}
use Rattle.fact_machine.specs.declared.types.MachineState.{MachineState}
use Rattle.fact_machine.specs.World.{World, Res, Done, Halt, Trap as stop_trap, read, write, outside, set_global}
use Rattle.fact_machine.specs.Machine.{i32_of}
use Rattle.fact_types.specs.declared.import.Import.{Import}
use Rattle.fact_types.specs.declared.import.Import.TheVariants as import
use Rattle.fact_types.specs.Adapters.{LinkedAdapter}
use Rattle.fact_actions.specs.Actions.{Action, SetFlags, Ask, Unreachable, ◌>>=◌, trap}
use Rattle.fact_actions.specs.Running.{ImportPlaces, Call, Ended, Gave, Halted, Strayed, moved_weight, calls_in, heavier, later, then_ended, or_strayed, ended, if_typed, is_answer, with_answer, call_of, run}
use Rattle.fact_actions.specs.Sides.{LiftLowerOptions, Transfer, address_value, type_of_addresses, first_bits, check_region, reallocate, get_slots, set_slots}
use Rattle.fact_actions.proofs.Binds.{binds_run}
use Rattle.fact_actions.proofs.Kept.{IsPlain, IsKept, unless_kept, region_kept}
use Rattle.fact_actions.proofs.Passed.{params_kept, results_kept}
use Rattle.fact_actions.specs.Adapters.{async_start, async_return, AdapterTunables, Slotted, none, when_due, get_flags, cleared, make_call, enters, read_slots, write_slots, finish_call, last_bits, params_transfer, results_transfer, sync}

-- one more call where an end gives nothing, which is that of a trap
abbrev unended : {A : Type 0} → Ended A → ℕ
unended (Gave n cs a w) = 0
unended (Halted n cs s w) = 1
unended (Strayed n cs w) = 1

-- no more than c calls beside 30 for each unit of weight
pub record Few {A : Type 0} (c : ℕ) (e : Ended A) : Type 0 where
  pub few : length (calls_in e) ≤ 30 * moved_weight e + (c + unended e)

few_more : {A : Type 0} {c d : ℕ} (e : Ended A) → c ≤ d → Few c e → Few d e
few_more e l h = record { few = let g = h.few in omega arith }

few_heavier : {A : Type 0} (n : ℕ) (e : Ended A) → 1 ≤ n → Few 30 e → Few 0 (heavier n e)
few_heavier n (Gave m cs a w) l h = record { few = let g = h.few in omega arith }
few_heavier n (Halted m cs s w) l h = record { few = let g = h.few in omega arith }
few_heavier n (Strayed m cs w) l h = record { few = let g = h.few in omega arith }

-- behind an end with weight and calls of its own
few_behind : {A : Type 0} (n c d : ℕ) (cs : List Call) (e : Ended A) → length cs ≤ 30 * n + c → Few d e → Few (c + d) (heavier n (later cs e))
few_behind n c d cs (Gave m ds a w) l h = record { few = let g = h.few in omega (arith, length-append cs ds) }
few_behind n c d cs (Halted m ds s w) l h = record { few = let g = h.few in omega (arith, length-append cs ds) }
few_behind n c d cs (Strayed m ds w) l h = record { few = let g = h.few in omega (arith, length-append cs ds) }

few_later : {A : Type 0} (c : ℕ) (cs : List Call) (e : Ended A) → length cs ≤ 1 → Few c e → Few (1 + c) (later cs e)
few_later c cs (Gave m ds a w) l h = record { few = let g = h.few in omega (arith, length-append cs ds) }
few_later c cs (Halted m ds s w) l h = record { few = let g = h.few in omega (arith, length-append cs ds) }
few_later c cs (Strayed m ds w) l h = record { few = let g = h.few in omega (arith, length-append cs ds) }

pub few_then : {A B : Type 0} (c d : ℕ) (e : Ended A) (f : A → World → Ended B) → Few c e → ((a : A) (w : World) → Few d (f a w)) → Few (c + d) (then_ended e f)
few_then c d (Gave n cs a w) f h g = few_behind n c d cs (f a w) (let l = h.few in omega arith) (g a w)
few_then c d (Halted n cs s w) f h g = record { few = let l = h.few in omega arith }
few_then c d (Strayed n cs w) f h g = record { few = let l = h.few in omega arith }

stray : {A X : Type 0} (c : ℕ) (w : World) (o : Option X) (F : X → Ended A) → ((x : X) → Few c (F x)) → Few c (or_strayed w o F)
stray c w None F h = record { few = omega arith }
stray c w (Some x) F h = h x

end : {A X : Type 0} (c : ℕ) (r : Res X) (F : X → World → Ended A) → ((x : X) (w : World) → Few c (F x w)) → Few c (ended r F)
end c (Done x w) F h = h x w
end c (Halt s w) F h = record { few = omega arith }

if_so : {A : Type 0} (c : ℕ) (b : Bool) (w : World) (e : Ended A) → Few c e → Few c (if_typed b w e)
if_so c true w e h = h
if_so c false w e h = record { few = omega arith }

one_call : (i : Import) (args : List CoreValue) (state : MachineState) (as_left : List Answer) → length (call_of i args state as_left) ≤ 1
one_call i args state [] = omega arith
one_call i args state (a ∷ more) = omega arith

-- ---- actions

-- no run of an action makes more calls
pub record MakesFew (c : ℕ) (A : Type 0) (q : Action A) : Type 0 where
  pub at : (p : ImportPlaces) (w : World) → Few c (run p q w)

asks_few : (c : ℕ) (A : Type 0) (i : Import) (args : List CoreValue) (ts : List ValType) (k : List CoreValue → Action A)
    → ((rs : List CoreValue) → MakesFew c A (k rs)) → MakesFew (1 + c) A (Ask i args ts k)
asks_few c A i args ts k h = record {
  at = λ p w.
      few_later c (call_of i args w.state w.answers) _ (one_call i args w.state w.answers)
      (end c (outside (p.function i) args w) _ (λ rs w'. if_so c (is_answer p ts w.state rs w'.state) w' _ ((h rs).at p w')));
}

-- a trap ends with its one call
pub traps_few : (A : Type 0) (t : Trap) → MakesFew 0 A (trap t)
traps_few A t = record { at = λ p w. stopped p w (outside (p.function (import.Trap t)) [] w) (call_of (import.Trap t) [] w.state w.answers) (one_call (import.Trap t) [] w.state w.answers) }
  where
    if_stopped : (b : Bool) (w : World) (cs : List Call) → length cs ≤ 1 → Few {A = A} 0 (later cs (if_typed b w (Halted 0 [] stop_trap w)))
    if_stopped true w cs l = record { few = omega (arith, length-append cs []) }
    if_stopped false w cs l = record { few = omega (arith, length-append cs []) }

    stopped : (p : ImportPlaces) (w : World) (r : Res (List CoreValue)) (cs : List Call) → length cs ≤ 1 → Few {A = A} 0 (later cs (with_answer p [] w r (λ rs w'. Halted 0 [] stop_trap w')))
    stopped p w (Done rs w') cs l = if_stopped (is_answer p [] w.state rs w'.state) w' cs l
    stopped p w (Halt s w') cs l = record { few = omega (arith, length-append cs []) }

any_plain_few : (Has : CoreDef → Type 0) → IsPlain Has MakesFew
any_plain_few Has = record {
  more = λ c d A q l h. record { at = λ p w. few_more (run p q w) l (h.at p w) };
  gives = λ A a. record { at = λ p w. record { few = omega arith } };
  stops = λ A. record { at = λ p w. record { few = omega arith } };
  traps = traps_few;
  reads = λ c A size m a k has h. record { at = λ p w. stray c w (slice_get w.state.memories (p.memory m)) _ (λ bytes. end c (read size bytes a w) _ (λ x w'. (h x).at p w')) };
  lengths = λ c A m k has h. record { at = λ p w. stray c w (slice_get w.state.memories (p.memory m)) _ (λ bytes. (h (length bytes)).at p w) };
}

plain_few : IsPlain (λ d. Unit {0}) MakesFew
plain_few = any_plain_few (λ d. Unit {0})

pub binds_few : (c d : ℕ) (A B : Type 0) (q : Action A) (f : A → Action B) → MakesFew c A q → ((a : A) → MakesFew d B (f a)) → MakesFew (c + d) B (q >>= f)
binds_few c d A B q f h g = record { at = λ p w. subst (λ e. Few (c + d) e) (sym (binds_run p q f w)) (few_then c d (run p q w) _ (h.at p w) (λ a w'. (g a).at p w')) }

requests_few : (concurrency : Bool) (o : LiftLowerOptions) (c : ℕ) (A : Type 0) (t : Trap) (old old_size align new_size : ℕ) (k : ℕ → Action A)
    → ((q : ℕ) → MakesFew c A (k q)) → MakesFew (7 + c) A (reallocate concurrency o t old old_size align new_size k)
requests_few concurrency o c A t old old_size align new_size k h = by_realloc o.realloc
  where
    checked : (rs : List CoreValue) → MakesFew c A (check_region o t (first_bits rs) new_size align (k (first_bits rs)))
    checked rs = region_kept plain_few c A o (λ m e. tt) t (first_bits rs) new_size align (k (first_bits rs)) (h (first_bits rs))

    set : (b : Bool) (x y : List CoreValue) (n : ℕ) (q : Action A) → MakesFew n A q → MakesFew (2 + n) A (set_slots b x y q)
    set false x y n q g = plain_few.more n (2 + n) A q (omega arith) g
    set true x y n q g = plain_few.more (1 + (1 + n)) (2 + n) A _ (omega arith) (asks_few (1 + n) A _ x [] _ (λ r. asks_few n A _ y [] _ (λ s. g)))

    get : (b : Bool) (n : ℕ) (k : List CoreValue → List CoreValue → Action A) → ((x y : List CoreValue) → MakesFew n A (k x y)) → MakesFew (2 + n) A (get_slots b k)
    get false n k g = plain_few.more n (2 + n) A (k [] []) (omega arith) (g [] [])
    get true n k g = plain_few.more (1 + (1 + n)) (2 + n) A _ (omega arith) (asks_few (1 + n) A _ [] _ _ (λ x. asks_few n A _ [] _ _ (λ y. g x y)))

    by_realloc : (f : Option CoreDef) → MakesFew (7 + c) A (elim f [
      | None ↦ Unreachable
      | Some f ↦
          get_slots concurrency (λ a b. set_slots concurrency (I32 0 ∷ []) (I32 0 ∷ [])
          (Ask (import.CoreDef f) (address_value o old ∷ address_value o old_size ∷ address_value o align ∷ address_value o new_size ∷ []) (type_of_addresses o ∷ []) (λ rs.
          set_slots concurrency a b (check_region o t (first_bits rs) new_size align (k (first_bits rs))))))
    ])
    by_realloc None = plain_few.more 0 (7 + c) A Unreachable (omega arith) (plain_few.stops A)
    by_realloc (Some f) =
        plain_few.more (2 + (2 + (1 + (2 + c)))) (7 + c) A _ (omega arith)
        (get concurrency _ _ (λ x y. set concurrency _ _ _ _ (asks_few _ A (import.CoreDef f) _ _ _ (λ rs. set concurrency x y c _ (checked rs)))))

pub few_kept : (tr : Transfer) → IsKept tr MakesFew
few_kept tr = record {
  plain = any_plain_few _;
  writes = λ c A size m a x q e h. record { at = λ p w. stray c w (slice_get w.state.memories (p.memory m.def)) _ (λ bytes. end c (write size (p.memory m.def) bytes a x w) _ (λ u w'. h.at p w')) };
  visits = λ n A q l h. record { at = λ p w. few_heavier n (run p q w) l (h.at p w) };
  values = λ c A i args ts k v r h. asks_few c A i args ts k h;
  requests = requests_few tr.concurrency tr.to;
  binds = binds_few;
}

-- ---- adapters

flags_few : (i : ℕ) → MakesFew 0 ℕ (get_flags i)
flags_few i = record { at = λ p w. stray 0 w (slice_get w.state.globals (p.flags i)) _ (λ v. stray 0 w (i32_of v) _ (λ n. record { few = omega arith })) }

set_few : (i x c : ℕ) (A : Type 0) (q : Action A) → MakesFew c A q → MakesFew c A (SetFlags i x q)
set_few i x c A q h = record { at = λ p w. stray c w (slice_get w.state.globals (p.flags i)) _ (λ v. h.at p (set_global (p.flags i) (I32 x) w)) }

cleared_few : (i saved c : ℕ) (A : Type 0) (q : Action A) → MakesFew c A q → MakesFew (c + 0) A (cleared i saved q)
cleared_few i saved c A q h = set_few i 0 (c + 0) A _ (binds_few c 0 A A q _ h (λ a. set_few i saved 0 A _ (plain_few.gives A a)))

when_few : (c : ℕ) (b : Bool) (q : Action (List CoreValue)) → MakesFew c _ q → MakesFew c _ (when_due b q)
when_few c true q h = h
when_few c false q h = plain_few.more 0 c _ none (omega arith) (plain_few.gives _ [])

call_few : (i : Import) (args : List CoreValue) (ts : List ValType) → MakesFew 1 _ (make_call i args ts)
call_few i args ts = asks_few 0 _ i args ts _ (λ rs. plain_few.gives _ rs)

read_slots_few : (b : Bool) → MakesFew 2 Slotted (read_slots b)
read_slots_few false = plain_few.more 0 2 _ _ (omega arith) (plain_few.gives _ _)
read_slots_few true = asks_few 1 _ _ [] _ _ (λ x. asks_few 0 _ _ [] _ _ (λ y. plain_few.gives _ _))

write_slots_few : (b : Bool) (s : Slotted) → MakesFew 2 (List CoreValue) (write_slots b s)
write_slots_few false s = plain_few.more 0 2 _ none (omega arith) (plain_few.gives _ [])
write_slots_few true s = asks_few 1 _ _ _ [] _ (λ x. asks_few 0 _ _ _ [] _ (λ y. plain_few.gives _ []))

finish_few : (b : Bool) (f : Option CoreDef) (given : List CoreValue) (s : Slotted) → MakesFew 7 (List CoreValue) (finish_call b f given s)
finish_few b None given s = plain_few.more 0 7 _ none (omega arith) (plain_few.gives _ [])
finish_few b (Some f) given s =
    binds_few 2 5 _ _ _ _ (read_slots_few b) (λ own.
    binds_few 2 3 _ _ _ _ (write_slots_few b s) (λ x.
    binds_few 1 2 _ _ _ _ (call_few (import.CoreDef f) given []) (λ y. write_slots_few b own)))

pub sync_few : (u : AdapterTunables) (a : LinkedAdapter) (args : List CoreValue) → MakesFew 19 (List CoreValue) (sync u a args)
sync_few u a args =
    binds_few 0 19 _ _ _ _ (flags_few a.lower.instance) (λ saved.
    binds_few 0 19 _ _ _ _ (unless_kept plain_few 0 _ _ _ none (plain_few.gives _ [])) (λ x.
    binds_few 1 18 _ _ _ _ (when_few 1 (enters u a) _ (call_few _ _ _)) (λ y.
    binds_few 0 18 _ _ _ _ (flags_few a.lift.instance) (λ lift_saved.
    binds_few 7 11 _ _ _ _ (cleared_few a.lift.instance lift_saved 7 _ _ (params_kept u a (few_kept (params_transfer u a)) args)) (λ core.
    binds_few 1 10 _ _ _ _ (call_few _ core _) (λ given.
    binds_few 2 8 _ _ _ _ (read_slots_few _) (λ context.
    binds_few 1 7 _ _ _ _ (when_few 1 (enters u a) _ (call_few _ _ _)) (λ z.
    binds_few 0 7 _ _ _ _ (cleared_few a.lower.instance saved 0 _ _ (results_kept u a (few_kept (results_transfer u a)) given (last_bits args))) (λ results.
    binds_few 7 0 _ _ _ _ (finish_few u.concurrency a.lift.post_return given context) (λ r. plain_few.gives _ results))))))))))

pub start_few : (u : AdapterTunables) (a : LinkedAdapter) (args : List CoreValue) → MakesFew 7 (List CoreValue) (async_start u a args)
start_few u a args =
    binds_few 0 7 _ _ _ _ (flags_few a.lift.instance) (λ saved. cleared_few a.lift.instance saved 7 _ _ (params_kept u a (few_kept (params_transfer u a)) args))

pub return_few : (u : AdapterTunables) (a : LinkedAdapter) (args : List CoreValue) → MakesFew 0 (List CoreValue) (async_return u a args)
return_few u a args =
    binds_few 0 0 _ _ _ _ (flags_few a.lower.instance) (λ saved. cleared_few a.lower.instance saved 0 _ _ (results_kept u a (few_kept (results_transfer u a)) args (last_bits args)))
