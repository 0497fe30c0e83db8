-- Writes into regions of one's own.
use Rattle.std.proofs.Common.{◌≡◌, ℕ, zero, suc, ◌+◌, ◌<◌, ◌≤◌, ◌%◌, ◌^◌, Bool, true, false, List, [], ◌∷◌, ◌++◌, Option, Some, None, refl, sym, ap, ◌∙◌, subst, inl, inr, arith, append_assoc, append-nil, length}
use Rattle.std.proofs.lemmas.Bool.{leb-true, eqb-true}
use Rattle.std.specs.Prelude.{◌⊎◌, ◌&&◌, nat_eq, nat_le, slice_get, slice_set, get_or, if◌then◌else◌}
use Rattle.fact_wasm.specs.declared.types.ValType.{ValType}
use Rattle.fact_types.specs.declared.outside.CoreDef.{CoreDef}
use Rattle.fact_machine.specs.declared.types.CoreValue.{CoreValue}
use Rattle.fact_machine.specs.declared.types.CoreValue.TheVariants.{I32}
use Rattle.fact_machine.specs.declared.types.Answer.{Answer}
use Rattle.fact_machine.specs.declared.types.Answer.TheVariants.{Returns, Traps, Throws}
use Rattle.fact_machine.specs.declared.types.MachineState.{MachineState}
use Rattle.fact_machine.specs.declared.types.TraceEntry.{TraceEntry}
use Rattle.fact_machine.specs.declared.types.TraceEntry.TheVariants.{Called, Stored, GlobalSet}
use Rattle.fact_machine.specs.World.{World, Done, Halt, Trap, number_at, with_number, written, asked, set_global}
use Rattle.fact_machine.proofs.Places.{store_keeps_length}
use Rattle.fact_types.specs.declared.import.Import.{Import}
use Rattle.fact_types.specs.declared.outside.MemoryOption.{MemoryOption}
use Rattle.fact_actions.specs.Actions.{Action, Give, Visit, SetFlags, Read, Write, MemoryLength, Ask, Unreachable, ◌>>=◌}
use Rattle.fact_machine.specs.Typed.{are_values, is_grown}
use Rattle.fact_actions.specs.Running.{ImportPlaces, Call, Ended, Gave, Halted, Strayed, heavier, later, then_ended, or_strayed, ended, if_typed, is_state, is_answer, with_answer, call_of, run}
use Rattle.fact_actions.specs.Calls.{state_after, side_memory}
use Rattle.fact_actions.specs.Regions.{Region, Landing, Position, without, moved_on}
use Rattle.fact_actions.specs.Confined.{LiesInSound, in_hand, IsOwnWrite, GivesUpLive}
use Rattle.fact_actions.proofs.Binds.{binds_run}
use Rattle.fact_actions.proofs.States.{and_left, and_right, false_true}

-- ---- own places

pub own_more : (room room' : ℕ) (rs : List Region) (a n : ℕ) → room ≤ room' → LiesInSound room rs a n → LiesInSound room' rs a n
own_more room room' [] a n l h = h
own_more room room' (r ∷ rs) a n l (inl (s, i)) = inl (record { aligned = s.aligned; inside = let g = s.inside in omega arith }, i)
own_more room room' (r ∷ rs) a n l (inr h) = inr (own_more room room' rs a n l h)

pub own_part : (room : ℕ) (rs : List Region) (a n b m : ℕ) → a ≤ b → b + m ≤ a + n → LiesInSound room rs a n → LiesInSound room rs b m
own_part room [] a n b m l g h = h
own_part room (r ∷ rs) a n b m l g (inl (s, i)) = inl (s, (let x = i.0 in omega arith, let y = i.1 in omega arith))
own_part room (r ∷ rs) a n b m l g (inr h) = inr (own_part room rs a n b m l g h)

pub own_left : (room : ℕ) (rs ss : List Region) (a n : ℕ) → LiesInSound room rs a n → LiesInSound room (rs ++ ss) a n
own_left room [] ss a n h = elim h [ ]
own_left room (r ∷ rs) ss a n (inl h) = inl h
own_left room (r ∷ rs) ss a n (inr h) = inr (own_left room rs ss a n h)

pub own_right : (room : ℕ) (rs ss : List Region) (a n : ℕ) → LiesInSound room ss a n → LiesInSound room (rs ++ ss) a n
own_right room [] ss a n h = h
own_right room (r ∷ rs) ss a n h = inr (own_right room rs ss a n h)

pub own_sides : (room : ℕ) (rs ss : List Region) (a n : ℕ) → LiesInSound room (rs ++ ss) a n → LiesInSound room rs a n ⊎ LiesInSound room ss a n
own_sides room [] ss a n h = inr h
own_sides room (r ∷ rs) ss a n (inl h) = inl (inl h)
own_sides room (r ∷ rs) ss a n (inr h) = elim (own_sides room rs ss a n h) [ inl g ↦ inl (inr g) | inr g ↦ inr g ]

-- giving up a region without bytes takes none away
own_test : (room : ℕ) (r s : Region) (rs : List Region) (a n : ℕ) (b c : Bool) → r.size ≡ 0 → 0 < n → nat_eq s.size r.size ≡ c
    → (LiesInSound room rs a n → LiesInSound room (without r rs) a n) → LiesInSound room (s ∷ rs) a n → LiesInSound room (if b && c then rs else s ∷ without r rs) a n
own_test room r s rs a n true true e l t more (inl (sound, i)) = let z : s.size ≡ r.size = eqb-true s.size r.size t in let x = i.0 in let y = i.1 in absurd (omega arith)
own_test room r s rs a n true true e l t more (inr h) = h
own_test room r s rs a n true false e l t more (inl h) = inl h
own_test room r s rs a n true false e l t more (inr h) = inr (more h)
own_test room r s rs a n false c e l t more (inl h) = inl h
own_test room r s rs a n false c e l t more (inr h) = inr (more h)

pub own_without : (room : ℕ) (r : Region) (rs : List Region) (a n : ℕ) → r.size ≡ 0 → 0 < n → LiesInSound room rs a n → LiesInSound room (without r rs) a n
own_without room r [] a n e l h = elim h [ ]
own_without room r (s ∷ rs) a n e l h = own_test room r s rs a n (nat_eq s.at r.at) (nat_eq s.size r.size) e l refl (λ g. own_without room r rs a n e l g) h

-- ---- traces of own writes

module _ (p : ImportPlaces) (next : Call → Position → Position) (l : Landing) where
  abbrev pub at : List Region → Position
  at live = record { landing = l; live = live }

  abbrev pub room : World → ℕ
  room w = length (side_memory p l.to w.state)

  -- entries of a trace, with these calls, lead from so many bytes of the memory and live regions to others
  abbrev pub Leads : ℕ → List Region → List TraceEntry → List Call → ℕ → List Region → Type 0
  Leads r live [] [] r' live' = (r' ≡ r) × (live' ≡ live)
  Leads r live [] (c ∷ cs) r' live' = ⊥
  Leads r live (Stored memory address size value ∷ es) cs r' live' = IsOwnWrite p (at live) r memory address size × Leads r live es cs r' live'
  Leads r live (GlobalSet index value ∷ es) cs r' live' = Leads r live es cs r' live'
  Leads r live (Called e ∷ es) [] r' live' = ⊥
  Leads r live (Called e ∷ es) (c ∷ cs) r' live' =
      (next c (at live) ≡ at (moved_on c (at live)).live) × GivesUpLive (at live) c × Leads (length (side_memory p l.to (state_after c))) (moved_on c (at live)).live es cs r' live'

  leads_on : (r : ℕ) (live : List Region) (es : List TraceEntry) (cs : List Call) (r' : ℕ) (live' : List Region) (fs : List TraceEntry) (ds : List Call) (r'' : ℕ) (live'' : List Region)
      → Leads r live es cs r' live' → Leads r' live' fs ds r'' live'' → Leads r live (es ++ fs) (cs ++ ds) r'' live''
  leads_on r live [] [] r' live' fs ds r'' live'' h g = subst (λ x. Leads x live fs ds r'' live'') h.0 (subst (λ x. Leads r' x fs ds r'' live'') h.1 g)
  leads_on r live [] (c ∷ cs) r' live' fs ds r'' live'' h g = absurd h
  leads_on r live (Stored m a n v ∷ es) cs r' live' fs ds r'' live'' h g = (h.0, leads_on r live es cs r' live' fs ds r'' live'' h.1 g)
  leads_on r live (GlobalSet i v ∷ es) cs r' live' fs ds r'' live'' h g = leads_on r live es cs r' live' fs ds r'' live'' h g
  leads_on r live (Called e ∷ es) [] r' live' fs ds r'' live'' h g = absurd h
  leads_on r live (Called e ∷ es) (c ∷ cs) r' live' fs ds r'' live'' h g = (h.0, h.1, leads_on (length (side_memory p l.to (state_after c))) (moved_on c (at live)).live es cs r' live' fs ds r'' live'' h.2 g)

  -- ---- ends

  -- what an end added to the trace leads on, and where it gives something, to where this holds
  pub record Led (live : List Region) (w : World) (cs : List Call) (w' : World) (live' : List Region) (r' : ℕ) : Type 0 where
    pub entries : List TraceEntry
    pub trace : w'.trace ≡ w.trace ++ entries
    pub leads : Leads (room w) live entries cs r' live'

  abbrev pub Holds : {A : Type 0} → List Region → World → Ended A → (A → List Region → World → Type 0) → Type 0
  Holds live w (Gave n cs a w') Q = (live' : List Region) × Led live w cs w' live' (room w') × Q a live' w'
  Holds live w (Halted n cs s w') Q = (live' : List Region) × (r' : ℕ) × Led live w cs w' live' r'
  Holds live w (Strayed n cs w') Q = (live' : List Region) × (r' : ℕ) × Led live w cs w' live' r'

  pub led_none : (live : List Region) (w : World) → Led live w [] w live (room w)
  led_none live w = record { entries = []; trace = sym (append-nil w.trace); leads = (refl, refl) }

  led_on : (live : List Region) (w : World) (cs : List Call) (w' : World) (live' : List Region) (ds : List Call) (w'' : World) (live'' : List Region) (r'' : ℕ)
      → Led live w cs w' live' (room w') → Led live' w' ds w'' live'' r'' → Led live w (cs ++ ds) w'' live'' r''
  led_on live w cs w' live' ds w'' live'' r'' h g = record {
    entries = h.entries ++ g.entries;
    trace = g.trace ∙ ap (λ t. t ++ g.entries) h.trace ∙ append_assoc w.trace h.entries g.entries;
    leads = leads_on (room w) live h.entries cs (room w') live' g.entries ds r'' live'' h.leads g.leads;
  }

  holds_heavier : {A : Type 0} (live : List Region) (w : World) (n : ℕ) (e : Ended A) (Q : A → List Region → World → Type 0) → Holds live w e Q → Holds live w (heavier n e) Q
  holds_heavier live w n (Gave m cs a w') Q h = h
  holds_heavier live w n (Halted m cs s w') Q h = h
  holds_heavier live w n (Strayed m cs w') Q h = h

  -- behind what leads from one world to another
  holds_behind : {A : Type 0} (live : List Region) (w : World) (cs : List Call) (w' : World) (live' : List Region) (e : Ended A) (Q : A → List Region → World → Type 0)
      → Led live w cs w' live' (room w') → Holds live' w' e Q → Holds live w (later cs e) Q
  holds_behind live w cs w' live' (Gave m ds a w'') Q h g = (g.0, led_on live w cs w' live' ds w'' g.0 (room w'') h g.1, g.2)
  holds_behind live w cs w' live' (Halted m ds s w'') Q h g = (g.0, g.1, led_on live w cs w' live' ds w'' g.0 g.1 h g.2)
  holds_behind live w cs w' live' (Strayed m ds w'') Q h g = (g.0, g.1, led_on live w cs w' live' ds w'' g.0 g.1 h g.2)

  holds_then : {A B : Type 0} (live : List Region) (w : World) (e : Ended A) (f : A → World → Ended B) (R : A → List Region → World → Type 0) (Q : B → List Region → World → Type 0)
      → Holds live w e R → ((a : A) (live' : List Region) (w' : World) → R a live' w' → Holds live' w' (f a w') Q) → Holds live w (then_ended e f) Q
  holds_then live w (Gave n cs a w') f R Q h g = holds_heavier live w n (later cs (f a w')) Q (holds_behind live w cs w' h.0 (f a w') Q h.1 (g a h.0 w' h.2))
  holds_then live w (Halted n cs s w') f R Q h g = h
  holds_then live w (Strayed n cs w') f R Q h g = h

  -- whenever an action runs
  pub record Writes {A : Type 0} (live : List Region) (w : World) (q : Action A) (Q : A → List Region → World → Type 0) : Type 0 where
    pub holds : Holds live w (run p q w) Q

  holds_so : {A : Type 0} (live : List Region) (w : World) (e : Ended A) (R Q : A → List Region → World → Type 0) → Holds live w e R → ((a : A) (live' : List Region) (w' : World) → R a live' w' → Q a live' w') → Holds live w e Q
  holds_so live w (Gave n cs a w') R Q h g = (h.0, h.1, g a h.0 w' h.2)
  holds_so live w (Halted n cs s w') R Q h g = h
  holds_so live w (Strayed n cs w') R Q h g = h

  pub writes_so : {A : Type 0} {live : List Region} {w : World} {q : Action A} {R Q : A → List Region → World → Type 0} → Writes live w q R → ((a : A) (live' : List Region) (w' : World) → R a live' w' → Q a live' w') → Writes live w q Q
  writes_so {live} {w} {q} {R} {Q} h g = record { holds = holds_so live w (run p q w) R Q h.holds g }

  pub writes_bind : {A B : Type 0} {live : List Region} {w : World} (q : Action A) (f : A → Action B) (R : A → List Region → World → Type 0) (Q : B → List Region → World → Type 0)
      → Writes live w q R → ((a : A) (live' : List Region) (w' : World) → R a live' w' → Writes live' w' (f a) Q) → Writes live w (q >>= f) Q
  writes_bind {live} {w} q f R Q h g = record {
    holds = subst (λ e. Holds live w e Q) (sym (binds_run p q f w)) (holds_then live w (run p q w) _ R Q h.holds (λ a live' w' r. (g a live' w' r).holds));
  }

  pub writes_give : {A : Type 0} (live : List Region) (w : World) (a : A) (Q : A → List Region → World → Type 0) → Q a live w → Writes live w (Give a) Q
  writes_give live w a Q h = record { holds = (live, led_none live w, h) }

  pub writes_stop : {A : Type 0} (live : List Region) (w : World) (Q : A → List Region → World → Type 0) → Writes live w Unreachable Q
  writes_stop live w Q = record { holds = (live, room w, led_none live w) }

  pub writes_visit : {A : Type 0} (live : List Region) (w : World) (n : ℕ) (q : Action A) (Q : A → List Region → World → Type 0) → Writes live w q Q → Writes live w (Visit n q) Q
  writes_visit live w n q Q h = record { holds = holds_heavier live w n (run p q w) Q h.holds }

  holds_there : {A X : Type 0} (live : List Region) (w : World) (o : Option X) (F : X → Ended A) (Q : A → List Region → World → Type 0) → ((x : X) → o ≡ Some x → Holds live w (F x) Q) → Holds live w (or_strayed w o F) Q
  holds_there live w None F Q h = (live, room w, led_none live w)
  holds_there live w (Some x) F Q h = h x refl

  holds_done : {A X : Type 0} (live : List Region) (b : Bool) (x : X) (u w : World) (F : X → World → Ended A) (Q : A → List Region → World → Type 0) → (b ≡ true → Holds live w (F x u) Q) → Holds live w (ended (if b then Done x u else Halt Trap w) F) Q
  holds_done live true x u w F Q h = h refl
  holds_done live false x u w F Q h = (live, room w, led_none live w)

  pub writes_read : {A : Type 0} (live : List Region) (w : World) (size : ℕ) (m : CoreDef) (a : ℕ) (k : ℕ → Action A) (Q : A → List Region → World → Type 0) → ((x : ℕ) → Writes live w (k x) Q) → Writes live w (Read size m a k) Q
  writes_read live w size m a k Q h = record {
    holds =
        holds_there live w (slice_get w.state.memories (p.memory m)) _ Q (λ bytes e.
        holds_done live (nat_le (a + size) (length bytes)) (number_at size bytes a) w w _ Q (λ t. (h (number_at size bytes a)).holds));
  }

  -- the length of a memory, which is that of its bytes
  pub writes_length : {A : Type 0} (live : List Region) (w : World) (m : CoreDef) (k : ℕ → Action A) (Q : A → List Region → World → Type 0)
      → ((x : ℕ) → x ≡ length (get_or w.state.memories (p.memory m) []) → Writes live w (k x) Q) → Writes live w (MemoryLength m k) Q
  writes_length live w m k Q h = record { holds = holds_there live w (slice_get w.state.memories (p.memory m)) _ Q (λ bytes e. (h (length bytes) (ap length (sym (got w.state.memories (p.memory m) bytes e)))).holds) }
    where
      got : (ms : List (List ℕ)) (i : ℕ) (b : List ℕ) → slice_get ms i ≡ Some b → get_or ms i [] ≡ b
      got [] i b e' = nothing e'
        where
          IsNone : Option (List ℕ) → Type 0
          IsNone None = Unit {0}
          IsNone (Some x) = ⊥

          nothing : {X : Type 0} → None ≡ Some b → X
          nothing e'' = absurd (subst IsNone e'' tt)
      got (m' ∷ ms) zero b e' = ap (λ o. elim o [ None ↦ m' | Some x ↦ x ]) e'
      got (m' ∷ ms) (suc i) b e' = got ms i b e'

  -- ---- writes and calls

  holds_led : {A : Type 0} (live : List Region) (w u : World) (live' : List Region) (e : Ended A) (Q : A → List Region → World → Type 0) → Led live w [] u live' (room u) → Holds live' u e Q → Holds live w e Q
  holds_led live w u live' (Gave m ds a w'') Q h g = (g.0, led_on live w [] u live' ds w'' g.0 (room w'') h g.1, g.2)
  holds_led live w u live' (Halted m ds s w'') Q h g = (g.0, g.1, led_on live w [] u live' ds w'' g.0 g.1 h g.2)
  holds_led live w u live' (Strayed m ds w'') Q h g = (g.0, g.1, led_on live w [] u live' ds w'' g.0 g.1 h g.2)

  abbrev bytes_with : Option MemoryOption → List (List ℕ) → List ℕ
  bytes_with x memories = elim x [ None ↦ [] | Some m ↦ get_or memories (p.memory m.def) [] ]

  -- a write leaves the lengths of memories
  set_length : (ms : List (List ℕ)) (i : ℕ) (b b' : List ℕ) → slice_get ms i ≡ Some b → length b' ≡ length b → length (get_or (slice_set ms i b') i []) ≡ length (get_or ms i [])
  set_length [] i b b' e l = refl
  set_length (m ∷ ms) zero b b' e l = let same : m ≡ b = ap (λ o. elim o [ None ↦ m | Some x ↦ x ]) e in l ∙ ap (λ (x : List ℕ). length x) (sym same)
  set_length (m ∷ ms) (suc i) b b' e l = set_length ms i b b' e l

  pub writes_write : {A : Type 0} (live : List Region) (w : World) (size : ℕ) (m : MemoryOption) (a x : ℕ) (q : Action A) (Q : A → List Region → World → Type 0)
      → l.to.memory ≡ Some m → LiesInSound (room w) (in_hand (at live)) a size → ((u : World) → room u ≡ room w → Writes live u q Q) → Writes live w (Write size m.def a x q) Q
  writes_write live w size m a x q Q is_to own h = record {
    holds =
        holds_there live w (slice_get w.state.memories (p.memory m.def)) _ Q (λ bytes e.
        let u = written size (p.memory m.def) bytes a x w in
        holds_done live (nat_le (a + size) (length bytes)) tt u w _ Q (λ t.
        let same : room u ≡ room w = ap (λ o. length (bytes_with o u.state.memories)) is_to ∙ set_length w.state.memories (p.memory m.def) bytes (with_number size bytes a x) e (store_keeps_length bytes size a x (leb-true (a + size) (length bytes) t)) ∙ ap (λ o. length (bytes_with o w.state.memories)) (sym is_to) in
        holds_led live w u live (run p q u) Q (record {
          entries = Stored (p.memory m.def) a size (x % 256 ^ size) ∷ [];
          trace = refl;
          leads = (record { to = m; to_is = is_to; memory_is = refl; own = own }, (same, refl));
        }) (h u same).holds));
  }

  grown : (before behind : List (List ℕ)) (i : ℕ) → is_grown before behind ≡ true → length (get_or before i []) ≤ length (get_or behind i [])
  grown [] [] i h = omega arith
  grown [] (n ∷ ns) i h = false_true h
  grown (m ∷ ms) [] i h = false_true h
  grown (m ∷ ms) (n ∷ ns) zero h = leb-true (length m) (length n) (and_left (nat_le (length m) (length n)) (is_grown ms ns) h)
  grown (m ∷ ms) (n ∷ ns) (suc i) h = grown ms ns i (and_right (nat_le (length m) (length n)) (is_grown ms ns) h)

  grown_room : (x : Option MemoryOption) (before behind : MachineState) → is_grown before.memories behind.memories ≡ true → length (bytes_with x before.memories) ≤ length (bytes_with x behind.memories)
  grown_room None before behind h = omega arith
  grown_room (Some m) before behind h = grown before.memories behind.memories (p.memory m.def) h

  -- a call that returned
  abbrev pub made : Import → List CoreValue → World → List CoreValue → MachineState → Call
  made i args w rs state = record { what = i; args = args; before = w.state; answer = Returns rs state }

  holds_typed : {A : Type 0} (live : List Region) (b : Bool) (w : World) (e : Ended A) (Q : A → List Region → World → Type 0) → (b ≡ true → Holds live w e Q) → Holds live w (if_typed b w e) Q
  holds_typed live true w e Q h = h refl
  holds_typed live false w e Q h = (live, room w, led_none live w)

  -- the position moves on at a call of this import, whatever is answered
  abbrev MovesOn : List Region → World → Import → List CoreValue → Type 0
  MovesOn live w i args =
      (a : Answer) → next (record { what = i; args = args; before = w.state; answer = a }) (at live) ≡ at (moved_on (record { what = i; args = args; before = w.state; answer = a }) (at live)).live

  -- nor does it give up what is not live
  abbrev Frees : List Region → World → Import → List CoreValue → Type 0
  Frees live w i args = (a : Answer) → GivesUpLive (at live) (record { what = i; args = args; before = w.state; answer = a })

  -- what its answer may lead to
  abbrev Answered : {A : Type 0} → List Region → World → Import → List CoreValue → (List CoreValue → Action A) → (A → List Region → World → Type 0) → Type 0
  Answered live w i args k Q =
      (rs : List CoreValue) (state : MachineState) (answers : List Answer) (trace : List TraceEntry)
      → room w ≤ room (record { state = state; answers = answers; trace = trace })
      → Writes (moved_on (made i args w rs state) (at live)).live (record { state = state; answers = answers; trace = trace }) (k rs) Q

  answer_holds : {A : Type 0} (live : List Region) (w : World) (i : Import) (args : List CoreValue) (ts : List ValType) (k : List CoreValue → Action A) (Q : A → List Region → World → Type 0) (left : List Answer)
      → MovesOn live w i args → Frees live w i args → Answered live w i args k Q
      → Holds live w (later (call_of i args w.state left) (with_answer p ts w (asked (p.function i) args w left) (λ rs u. run p (k rs) u))) Q
  answer_holds live w i args ts k Q [] n g h = (live, room w, led_none live w)
  answer_holds live w i args ts k Q (Traps ∷ more) n g h = (_, _, record { entries = _ ∷ []; trace = refl; leads = (n Traps, g Traps, (refl, refl)) })
  answer_holds live w i args ts k Q (Throws ∷ more) n g h = (_, _, record { entries = _ ∷ []; trace = refl; leads = (n Throws, g Throws, (refl, refl)) })
  answer_holds live w i args ts k Q (Returns rs state ∷ more) n g h =
      let c = made i args w rs state in
      let u : World = record { state = state; answers = more; trace = w.trace ++ Called (record { func = p.function i; args = args; before = w.state; answer = Returns rs state }) ∷ [] } in
      holds_behind live w (c ∷ []) u (moved_on c (at live)).live _ Q
      (record { entries = Called (record { func = p.function i; args = args; before = w.state; answer = Returns rs state }) ∷ []; trace = refl; leads = (n (Returns rs state), g (Returns rs state), (refl, refl)) })
      (holds_typed (moved_on c (at live)).live (is_answer p ts w.state rs state) u (run p (k rs) u) Q (λ t.
      (h rs state more u.trace (grown_room l.to.memory w.state state (and_right (is_state p state) (is_grown w.state.memories state.memories) (and_right (are_values rs ts) (is_state p state && is_grown w.state.memories state.memories) t)))).holds))

  pub writes_ask : {A : Type 0} (live : List Region) (w : World) (i : Import) (args : List CoreValue) (ts : List ValType) (k : List CoreValue → Action A) (Q : A → List Region → World → Type 0)
      → MovesOn live w i args → Frees live w i args → Answered live w i args k Q → Writes live w (Ask i args ts k) Q
  writes_ask live w i args ts k Q n g h = record { holds = answer_holds live w i args ts k Q w.answers n g h }

  -- flags are no memory
  pub writes_set : {A : Type 0} (live : List Region) (w : World) (i x : ℕ) (q : Action A) (Q : A → List Region → World → Type 0)
      → ((u : World) → room u ≡ room w → Writes live u q Q) → Writes live w (SetFlags i x q) Q
  writes_set live w i x q Q h = record {
    holds =
        holds_there live w (slice_get w.state.globals (p.flags i)) _ Q (λ v e.
        let u = set_global (p.flags i) (I32 x) w in
        holds_led live w u live (run p q u) Q (record { entries = GlobalSet (p.flags i) (I32 x) ∷ []; trace = refl; leads = (refl, refl) }) (h u refl).holds);
  }
