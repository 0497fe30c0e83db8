-- Moving values makes calls of a transfer, and leaves the globals.
use Rattle.std.proofs.Common.{◌≡◌, ℕ, ◌+◌, Bool, true, false, List, [], ◌∷◌, ◌++◌, map, Option, Some, None, refl, sym, ap, ◌∙◌, subst, append_assoc, inl, inr}
use Rattle.std.specs.Prelude.{◌⊎◌, slice_get, nat_le, length, if◌then◌else◌}
use Rattle.fact_wasm.specs.declared.types.ValType.{ValType}
use Rattle.fact_types.specs.declared.outside.CoreDef.{CoreDef}
use Rattle.fact_types.specs.declared.outside.Trap.{Trap}
use Rattle.fact_types.specs.declared.outside.UnsafeIntrinsic.TheVariants as slot
use Rattle.fact_machine.specs.declared.types.CoreValue.{CoreValue}
use Rattle.fact_machine.specs.declared.types.CoreValue.TheVariants.{I32}
use Rattle.fact_machine.specs.World.{World, Done, Halt, Trap as stop_trap, number_at, written}
use Rattle.fact_types.specs.declared.import.Import.{Import}
use Rattle.fact_types.specs.declared.import.Import.TheVariants as import
use Rattle.fact_actions.specs.Actions.{Action, Ask, Unreachable}
use Rattle.fact_actions.specs.Running.{ImportPlaces, Call, Ended, ended, run}
use Rattle.fact_actions.specs.Sides.{LiftLowerOptions, Transfer, address_value, type_of_addresses, first_bits, check_region, reallocate, get_slots, set_slots}
use Rattle.fact_actions.specs.Calls.{results, state_after}
use Rattle.fact_actions.specs.Order.{asks, get_slot, set_slot, request_calls, IsRequest, IsValueCall, IsOne, all_of, AreTransferGroups, AreOfTransfer, KeepsGlobals}
use Rattle.fact_actions.proofs.Kept.{IsPlain, IsKept, region_kept}
use Rattle.fact_actions.proofs.Whenever.{Whenever, whenever_heavier, whenever_stray, Runs, runs_so, runs_bind, IsCall, runs_ask, runs_trap}

-- ---- globals

pub keeps_from : {g h : List CoreValue} (cs : List Call) (j : List CoreValue) → h ≡ g → KeepsGlobals h cs j → KeepsGlobals g cs j
keeps_from cs j e k = subst (λ x. KeepsGlobals x cs j) e k

pub keeps_on : (g : List CoreValue) (cs : List Call) (h : List CoreValue) (ds : List Call) (j : List CoreValue) → KeepsGlobals g cs h → KeepsGlobals h ds j → KeepsGlobals g (cs ++ ds) j
keeps_on g [] h ds j k l = keeps_from ds j k l
keeps_on g (c ∷ cs) h ds j k l = (k.0, keeps_on (state_after c).globals cs h ds j k.1 l)

pub keeps_call : {c : Call} {i : Import} {args : List CoreValue} {w : World} {rs : List CoreValue} {w' : World} (cs : List Call) (j : List CoreValue)
    → IsCall c i args w rs w' → KeepsGlobals w'.state.globals cs j → KeepsGlobals w.state.globals (c ∷ cs) j
keeps_call cs j h k = (ap (λ s. s.globals) h.before, keeps_from cs j (ap (λ s. s.globals) (sym h.behind)) k)

-- ---- calls of a transfer

groups_on : (concurrency : Bool) (from to : LiftLowerOptions) (gs hs : List (List Call)) → AreTransferGroups concurrency from to gs → AreTransferGroups concurrency from to hs → AreTransferGroups concurrency from to (gs ++ hs)
groups_on concurrency from to [] hs h k = k
groups_on concurrency from to (g ∷ gs) hs h k = (h.0, groups_on concurrency from to gs hs h.1 k)

all_of_on : (gs hs : List (List Call)) → all_of gs ++ all_of hs ≡ all_of (gs ++ hs)
all_of_on [] hs = refl
all_of_on (g ∷ gs) hs = append_assoc g (all_of gs) (all_of hs) ∙ ap (λ l. g ++ l) (all_of_on gs hs)

module _ (concurrency : Bool) (from to : LiftLowerOptions) where
  -- the calls and the globals between two worlds
  pub record IsTidy (w : World) (cs : List Call) (w' : World) : Type 0 where
    pub calls : AreOfTransfer concurrency from to cs
    pub globals : KeepsGlobals w.state.globals cs w'.state.globals

  tidy_none : (w w' : World) → w'.state.globals ≡ w.state.globals → IsTidy w [] w'
  tidy_none w w' e = record { calls = record { groups = []; calls_are = refl; each = tt }; globals = e }

  tidy_on : (w : World) (cs : List Call) (w' : World) (ds : List Call) (w'' : World) → IsTidy w cs w' → IsTidy w' ds w'' → IsTidy w (cs ++ ds) w''
  tidy_on w cs w' ds w'' h g = record {
    calls = record {
      groups = h.calls.groups ++ g.calls.groups;
      calls_are = ap (λ l. l ++ ds) h.calls.calls_are ∙ ap (λ l. all_of h.calls.groups ++ l) g.calls.calls_are ∙ all_of_on h.calls.groups g.calls.groups;
      each = groups_on concurrency from to h.calls.groups g.calls.groups h.calls.each g.calls.each;
    };
    globals = keeps_on w.state.globals cs w'.state.globals ds w''.state.globals h.globals g.globals;
  }

  -- from a world with the same globals
  tidy_from : (w u : World) (cs : List Call) (w' : World) → u.state.globals ≡ w.state.globals → IsTidy u cs w' → IsTidy w cs w'
  tidy_from w u cs w' e h = record { calls = h.calls; globals = keeps_from cs w'.state.globals e h.globals }

  -- a group of calls that belong together
  tidy_group : (group : List Call) → (IsRequest concurrency to group ⊎ IsOne (IsValueCall from to) group) → (w : World) (ds : List Call) (w' w'' : World)
      → KeepsGlobals w.state.globals group w'.state.globals → IsTidy w' ds w'' → IsTidy w (group ++ ds) w''
  tidy_group group g w ds w' w'' k h = record {
    calls = record { groups = group ∷ h.calls.groups; calls_are = ap (λ l. group ++ l) h.calls.calls_are; each = (g, h.calls.each) };
    globals = keeps_on w.state.globals group w'.state.globals ds w''.state.globals k h.globals;
  }

  -- an action whose runs are tidy, whatever they call
  pub record IsOrderly (c : ℕ) (A : Type 0) (q : Action A) : Type 0 where
    pub at : (p : ImportPlaces) (w : World) → Runs p q w (λ cs a w'. IsTidy w cs w')

  if_done : {A X : Type 0} (b : Bool) (x : X) (u w : World) (F : X → World → Ended A) (Q : List Call → A → World → Type 0) → Whenever (F x u) Q → Whenever (ended (if b then Done x u else Halt stop_trap w) F) Q
  if_done true x u w F Q h = h
  if_done false x u w F Q h = tt

  plain_orderly : (Has : CoreDef → Type 0) → IsPlain Has IsOrderly
  plain_orderly Has = record {
    more = λ c d A q l h. record { at = h.at };
    gives = λ A a. record { at = λ p w. record { so = tidy_none w w refl } };
    stops = λ A. record { at = λ p w. record { so = tt } };
    traps = λ A t. record { at = λ p w. runs_trap p t w _ };
    reads = λ c A size m a k has h. record {
      at = λ p w. record {
        so =
            whenever_stray w (slice_get w.state.memories (p.memory m)) _ _ (λ bytes e. if_done (nat_le (a + size) (length bytes)) (number_at size bytes a) w w _ _ ((h (number_at size bytes a)).at p w).so);
      };
    };
    lengths = λ c A m k has h. record { at = λ p w. record { so = whenever_stray w (slice_get w.state.memories (p.memory m)) _ _ (λ bytes e. ((h (length bytes)).at p w).so) } };
  }

  values_orderly : (c : ℕ) (A : Type 0) (i : Import) (args : List CoreValue) (ts : List ValType) (k : List CoreValue → Action A)
      → IsValueCall from to i → ((rs : List CoreValue) → IsOrderly c A (k rs)) → IsOrderly (1 + c) A (Ask i args ts k)
  values_orderly c A i args ts k v h = record {
    at = λ p w. runs_ask (λ d rs w' g.
        runs_so ((h rs).at p w') (λ ds a w'' t.
        tidy_group (d ∷ []) (inr (d, refl, subst (λ x. IsValueCall from to x) (sym (ap (λ x. x.0) g.asked)) v)) w ds w' w'' (keeps_call [] _ g refl) t));
  }

-- ---- calls of realloc

pub pair : {A : Type 0} {x y : A} {xs ys : List A} → x ≡ y → xs ≡ ys → x ∷ xs ≡ y ∷ ys
pair {y} {xs} e es = ap (λ z. z ∷ xs) e ∙ ap (λ zs. y ∷ zs) es

-- with concurrency on, the seven calls that belong together
seven : (f : CoreDef) (args : List CoreValue) (a b c d e g h : Call)
    → asks a ≡ get_slot slot.ContextGetI32_0 → asks b ≡ get_slot slot.ContextGetI32_1
    → asks c ≡ set_slot slot.ContextSetI32_0 (I32 0 ∷ []) → asks d ≡ set_slot slot.ContextSetI32_1 (I32 0 ∷ [])
    → asks e ≡ (import.CoreDef f, args)
    → asks g ≡ set_slot slot.ContextSetI32_0 (results a) → asks h ≡ set_slot slot.ContextSetI32_1 (results b)
    → map asks (a ∷ b ∷ c ∷ d ∷ e ∷ g ∷ h ∷ []) ≡ request_calls true f args (a ∷ b ∷ c ∷ d ∷ e ∷ g ∷ h ∷ [])
seven f args a b c d e g h p q r s t u v = pair p (pair q (pair r (pair s (pair t (pair u (pair v refl))))))

module _ (from to : LiftLowerOptions) where
  -- with concurrency off a call of realloc stands alone
  requests_alone : (n : ℕ) (A : Type 0) (f : CoreDef) (args : List CoreValue) (ts : List ValType) (k : List CoreValue → Action A)
      → to.realloc ≡ Some f → ((rs : List CoreValue) → IsOrderly false from to n A (k rs)) → IsOrderly false from to (7 + n) A (Ask (import.CoreDef f) args ts k)
  requests_alone n A f args ts k is_f h = record {
    at = λ p w. runs_ask (λ d rs w' g.
        runs_so ((h rs).at p w') (λ ds a w'' t.
        tidy_group false from to (d ∷ []) (inl (record { realloc = f; realloc_is = is_f; args = args; calls_are = ap (λ x. x ∷ []) g.asked })) w ds w' w'' (keeps_call [] _ g refl) t));
  }

  requests_among : (n : ℕ) (A : Type 0) (f : CoreDef) (args : List CoreValue) (ts : List ValType) (k : List CoreValue → Action A)
      → to.realloc ≡ Some f → ((rs : List CoreValue) → IsOrderly true from to n A (k rs))
      → IsOrderly true from to (7 + n) A (get_slots true (λ x y. set_slots true (I32 0 ∷ []) (I32 0 ∷ []) (Ask (import.CoreDef f) args ts (λ rs. set_slots true x y (k rs)))))
  requests_among n A f args ts k is_f h = record {
    at = λ p w.
        runs_ask (λ a x wa ga. runs_ask (λ b y wb gb. runs_ask (λ c rc wc gc. runs_ask (λ d rd wd gd. runs_ask (λ e rs we ge. runs_ask (λ g rg wg gg. runs_ask (λ i ri wi gi.
        runs_so ((h rs).at p wi) (λ cs r w' t.
        tidy_group true from to (a ∷ b ∷ c ∷ d ∷ e ∷ g ∷ i ∷ [])
        (inl (record {
          realloc = f;
          realloc_is = is_f;
          args = args;
          calls_are = seven f args a b c d e g i ga.asked gb.asked gc.asked gd.asked ge.asked
              (gg.asked ∙ ap (λ z. set_slot slot.ContextSetI32_0 z) (sym ga.gave)) (gi.asked ∙ ap (λ z. set_slot slot.ContextSetI32_1 z) (sym gb.gave));
        }))
        w cs wi w'
        (let last = wi.state.globals in
        keeps_call (b ∷ c ∷ d ∷ e ∷ g ∷ i ∷ []) last ga (keeps_call (c ∷ d ∷ e ∷ g ∷ i ∷ []) last gb (keeps_call (d ∷ e ∷ g ∷ i ∷ []) last gc (
        keeps_call (e ∷ g ∷ i ∷ []) last gd (keeps_call (g ∷ i ∷ []) last ge (keeps_call (i ∷ []) last gg (keeps_call [] last gi refl)))))))
        t))))))));
  }

  requests_orderly : (concurrency : Bool) (n : ℕ) (A : Type 0) (t : Trap) (old old_size align new_size : ℕ) (k : ℕ → Action A)
      → ((q : ℕ) → IsOrderly concurrency from to n A (k q)) → IsOrderly concurrency from to (7 + n) A (reallocate concurrency to t old old_size align new_size k)
  requests_orderly concurrency n A t old old_size align new_size k h = by_realloc to.realloc concurrency (λ f e. e) h
    where
      by_realloc : (o : Option CoreDef) (b : Bool) → ((f : CoreDef) → o ≡ Some f → to.realloc ≡ Some f) → ((q : ℕ) → IsOrderly b from to n A (k q)) → IsOrderly b from to (7 + n) A (elim o [
        | None ↦ Unreachable
        | Some f ↦
            get_slots b (λ x y. set_slots b (I32 0 ∷ []) (I32 0 ∷ [])
            (Ask (import.CoreDef f) (address_value to old ∷ address_value to old_size ∷ address_value to align ∷ address_value to new_size ∷ []) (type_of_addresses to ∷ []) (λ rs.
            set_slots b x y (check_region to t (first_bits rs) new_size align (k (first_bits rs))))))
      ])
      by_realloc None b is g = record { at = λ p w. record { so = tt } }
      by_realloc (Some f) true is g =
          requests_among n A f _ _ _ (is f refl) (λ rs. region_kept (plain_orderly true from to (λ d. Unit {0})) n A to (λ m e. tt) t (first_bits rs) new_size align (k (first_bits rs)) (g (first_bits rs)))
      by_realloc (Some f) false is g =
          requests_alone n A f _ _ _ (is f refl) (λ rs. region_kept (plain_orderly false from to (λ d. Unit {0})) n A to (λ m e. tt) t (first_bits rs) new_size align (k (first_bits rs)) (g (first_bits rs)))

pub orderly_kept : (tr : Transfer) → IsKept tr (IsOrderly tr.concurrency tr.from tr.to)
orderly_kept tr = record {
  plain = plain_orderly tr.concurrency tr.from tr.to _;
  writes = λ c A size m a x q is_to h. record {
    at = λ p w. record {
      so =
          whenever_stray w (slice_get w.state.memories (p.memory m.def)) _ _ (λ bytes e.
          let u = written size (p.memory m.def) bytes a x w in
          if_done tr.concurrency tr.from tr.to (nat_le (a + size) (length bytes)) tt u w _ _ (runs_so (h.at p u) (λ cs b w' t. tidy_from tr.concurrency tr.from tr.to w u cs w' refl t)).so);
    };
  };
  visits = λ n A q l h. record { at = λ p w. record { so = whenever_heavier n (run p q w) _ (h.at p w).so } };
  values = λ c A i args ts k v r h. values_orderly tr.concurrency tr.from tr.to c A i args ts k v h;
  requests = requests_orderly tr.from tr.to tr.concurrency;
  binds = λ c d A B q f h g. record {
    at = λ p w.
        runs_bind q f (h.at p w) (λ cs a w' t. runs_so ((g a).at p w') (λ ds b w'' t'. tidy_on tr.concurrency tr.from tr.to w cs w' ds w'' t t'));
  };
}
