-- Runs by calls that are honest until a trap, whose requests of realloc are what a function of the answers says: one rule for each
-- form of action.
use Rattle.std.proofs.Common.{◌≡◌, ℕ, ◌⊎◌, inl, inr, Bool, true, false, List, [], ◌∷◌, ◌++◌, length, Option, Some, None, refl, sym, ap, ◌∙◌, subst, append_assoc, map, filter, cond}
use Rattle.std.specs.Prelude.{slice_get, get_or, ◌&&◌, ◌||◌}
use Rattle.std.proofs.lemmas.List.{map-append}
use Rattle.std.proofs.lemmas.List.Elements.{filter-append}
use Rattle.std.proofs.lemmas.Option.{get_or_from_slice_get}
use Rattle.fact_wasm.specs.declared.types.ValType.{ValType}
use Rattle.fact_types.specs.declared.import.Import.{Import}
use Rattle.fact_types.specs.declared.import.Import.TheVariants as import
use Rattle.fact_types.specs.declared.outside.CoreDef.{CoreDef}
use Rattle.fact_types.specs.declared.outside.MemoryOption.{MemoryOption}
use Rattle.fact_types.specs.declared.outside.Trap.{Trap as TrapCode}
use Rattle.fact_machine.specs.Trace.{Grows}
use Rattle.fact_machine.specs.Typed.{are_values, is_grown}
use Rattle.fact_machine.specs.World.{World, asked}
use Rattle.fact_machine.specs.declared.types.Answer.{Answer}
use Rattle.fact_machine.specs.declared.types.Answer.TheVariants.{Returns, Traps, Throws}
use Rattle.fact_machine.specs.declared.types.CoreValue.{CoreValue}
use Rattle.fact_machine.specs.declared.types.MachineState.{MachineState}
use Rattle.fact_machine.specs.declared.types.TraceEntry.TheVariants.{Called}
use Rattle.fact_actions.specs.Actions.{Action, Give, Visit, MemoryLength, Ask, Unreachable, ◌>>=◌, trap, unless}
use Rattle.fact_actions.specs.Calls.{is_import_of, is_call_of_any, results, side_memory}
use Rattle.fact_actions.specs.Regions.{Region, Landing, is_request}
use Rattle.fact_actions.specs.Requests.{Request, request_of, requests_in, is_transcode, answers_in, next_answer}
use Rattle.fact_actions.specs.Running.{ImportPlaces, Call, Ended, Gave, Halted, Strayed, heavier, later, then_ended, or_strayed, if_typed, is_answer, is_state, with_answer, call_of, run}
use Rattle.fact_actions.specs.Sides.{LiftLowerOptions, with_memory}
use Rattle.fact_actions.proofs.Binds.{binds_run}
use Rattle.fact_actions.proofs.OwnParts.{same_self}
use Rattle.fact_actions.proofs.States.{and_left, and_right}
use Rattle.fact_action_laws.specs.HonestMoves.{IsHonestResult, AreHonestCalls}
use Rattle.fact_action_laws.specs.Regions.{TransferSetting, AreBytesOf, regions_by, regions_after}
use Rattle.fact_action_laws.proofs.Stopping.{AreReturned}
use Rattle.fact_action_laws.specs.Trapped.{AreHonestUntilTrap, has_returned, answers_so_far}
use Rattle.fact_action_laws.proofs.Answered.{position}
use Rattle.fact_action_laws.proofs.Fine.{typed_is_there, HasKnownSides}
use Rattle.fact_action_laws.proofs.Trapped.{IsBehind, last_behind, no_last, GivesReturned, gives_returned}

-- ---- lists of requests

begins_all : {A : Type 0} (ys : List A) → Grows [] ys
begins_all ys = record { more = ys; is = refl }

-- answers so far, and what is asked for behind them
abbrev pub Answers : Type 0
Answers = List (List CoreValue)

module _ (l : Landing) where
  requests_append : (cs ds : List Call) → requests_in l (cs ++ ds) ≡ requests_in l cs ++ requests_in l ds
  requests_append cs ds = ap (map request_of) (filter-append (is_request l) cs ds) ∙ map-append request_of (filter (is_request l) cs) (filter (is_request l) ds)

  answers_append : (cs ds : List Call) → answers_in l (cs ++ ds) ≡ answers_in l cs ++ answers_in l ds
  answers_append cs ds =
      ap (map results) (filter-append (λ c. is_request l c || is_transcode c.what) cs ds)
      ∙ map-append results (filter (λ c. is_request l c || is_transcode c.what) cs) (filter (λ c. is_request l c || is_transcode c.what) ds)

  pub so_far_append : (cs ds : List Call) → answers_so_far l (cs ++ ds) ≡ answers_so_far l cs ++ answers_so_far l ds
  so_far_append cs ds = ap (answers_in l) (filter-append has_returned cs ds) ∙ answers_append (filter has_returned cs) (filter has_returned ds)

-- ---- the source

-- the bytes of a memory that may be, and that they are these
abbrev MemoryBytes : ImportPlaces → MachineState → Option MemoryOption → List ℕ
MemoryBytes p s o = elim o as (λ x. List ℕ) [ None ↦ [] | Some m ↦ get_or s.memories (p.memory m.def) [] ]

abbrev pub HasBytesOf : ImportPlaces → MachineState → List ℕ → Option MemoryOption → Type 0
HasBytesOf p s bytes o = elim o [ None ↦ bytes ≡ [] | Some m ↦ slice_get s.memories (p.memory m.def) ≡ Some bytes ]

bytes_kept : (p : ImportPlaces) (s s' : MachineState) (bytes : List ℕ) (x : Option MemoryOption) → ((m : MemoryOption) → x ≡ Some m → (y : List ℕ) × (slice_get s'.memories (p.memory m.def) ≡ Some y))
    → MemoryBytes p s' x ≡ MemoryBytes p s x → HasBytesOf p s bytes x → HasBytesOf p s' bytes x
bytes_kept p s s' bytes None there e b = b
bytes_kept p s s' bytes (Some m) there e b =
    let y = there m refl in
    y.1 ∙ ap (λ z. Some z) (sym (get_or_from_slice_get s'.memories (p.memory m.def) y.0 [] y.1) ∙ e ∙ get_or_from_slice_get s.memories (p.memory m.def) bytes [] b)

-- the bytes of the source are as before, where they are the same in a typed state
pub source_kept : (c : TransferSetting) → HasKnownSides c → (s s' : MachineState) → is_state c.places s' ≡ true → side_memory c.places c.transfer.from s' ≡ side_memory c.places c.transfer.from s
    → AreBytesOf c.places c.transfer.from s c.source → AreBytesOf c.places c.transfer.from s' c.source
source_kept c known s s' typed same bytes =
    bytes_kept c.places s s' c.source c.transfer.from.memory (λ m e. (typed_is_there c.places c.transfer.from s' known.from typed).at m e) same bytes

same_side : (c : TransferSetting) (before after : MachineState) → after.memories ≡ before.memories → side_memory c.places c.transfer.from after ≡ side_memory c.places c.transfer.from before
same_side c before after h = ap (λ ms. elim c.transfer.from.memory as (λ x. List ℕ) [ None ↦ [] | Some m ↦ get_or ms (c.places.memory m.def) [] ]) h

-- an honest answer leaves it
pub honest_leaves : (c : TransferSetting) (gs : List Region) (i : Import) (args rs : List CoreValue) (before after : MachineState) → IsHonestResult c gs i args rs before after → side_memory c.places c.transfer.from after ≡ side_memory c.places c.transfer.from before
honest_leaves c gs (import.CoreDef f) args rs before after h = h.source
honest_leaves c gs (import.Transcode o from from64 to to64) args rs before after h = h.source
honest_leaves c gs import.ResourceTransferOwn args rs before after h = same_side c before after h
honest_leaves c gs import.ResourceTransferBorrow args rs before after h = same_side c before after h
honest_leaves c gs (import.PrepareCall m) args rs before after h = same_side c before after h
honest_leaves c gs (import.StartCall callback post_return) args rs before after h = same_side c before after h
honest_leaves c gs import.FutureTransfer args rs before after h = same_side c before after h
honest_leaves c gs import.StreamTransfer args rs before after h = same_side c before after h
honest_leaves c gs import.ErrorContextTransfer args rs before after h = same_side c before after h
honest_leaves c gs (import.Trap t) args rs before after h = same_side c before after h
honest_leaves c gs import.EnterSyncCall args rs before after h = same_side c before after h
honest_leaves c gs import.ExitSyncCall args rs before after h = same_side c before after h
honest_leaves c gs (import.UnsafeIntrinsic s) args rs before after h = same_side c before after h

module _ (c : TransferSetting) (known : HasKnownSides c) where
  abbrev L : Landing
  L = (position c []).landing

  abbrev pub asked_of : List Call → List Request
  asked_of cs = requests_in L cs

  abbrev pub told_to : List Call → Answers
  told_to cs = answers_so_far L cs

  -- What is asked for behind answers: what an action gives is handed on by `app`, where that matters.
  module _ {A K : Type 0} (app : K → A → Answers → List Request) where
    abbrev pub AsksEnd : List Region → (Answers → K → List Request) → Ended A → Type 0
    AsksEnd gs S (Gave n cs a w) = AreHonestCalls c gs cs → ((more : Answers) (k : K) → S (told_to cs ++ more) k ≡ asked_of cs ++ app k a more) × AreBytesOf c.places c.transfer.from w.state c.source
    AsksEnd gs S (Halted n cs s w) = AreHonestUntilTrap (AreHonestCalls c gs) cs → (more : Answers) (k : K) → Grows (asked_of cs) (S (told_to cs ++ more) k)
    AsksEnd gs S (Strayed n cs w) = Unit {0}

    -- Wherever it begins with the bytes of the source, an action asks for just that.
    pub record Asks (S : Answers → K → List Request) (q : Action A) : Type 0 where
      pub by : (gs : List Region) (w : World) → AreBytesOf c.places c.transfer.from w.state c.source → AsksEnd gs S (run c.places q w)

    -- calls before an end, whose requests are so put before what is asked behind them
    pub record Puts (cs : List Call) (S T : Answers → K → List Request) : Type 0 where
      pub is : (more : Answers) (k : K) → S (told_to cs ++ more) k ≡ asked_of cs ++ T more k

  pub honest_split : (gs : List Region) (cs ds : List Call) → AreHonestCalls c gs (cs ++ ds) → AreHonestCalls c gs cs × AreHonestCalls c (regions_after gs cs) ds
  honest_split gs [] ds h = (tt, h)
  honest_split gs (x ∷ cs) ds h = let r = honest_split (regions_by x.what x.args x.answer gs) cs ds h.1 in ((h.0, r.0), r.1)

  -- The calls behind those that returned are honest until a trap too.
  pub until_split : (gs : List Region) (cs ds : List Call) → AreReturned cs → AreHonestUntilTrap (AreHonestCalls c gs) (cs ++ ds) → AreHonestCalls c gs cs × AreHonestUntilTrap (AreHonestCalls c (regions_after gs cs)) ds
  until_split gs cs ds returned (inl h) = let r = honest_split gs cs ds h in (r.0, inl r.1)
  until_split gs cs ds returned (inr t) = by (last_behind cs ds t.front t.last t.calls_are)
    where
      by : ((ds ≡ []) × (cs ≡ t.front ++ t.last ∷ [])) ⊎ IsBehind cs ds t.front t.last → AreHonestCalls c gs cs × AreHonestUntilTrap (AreHonestCalls c (regions_after gs cs)) ds
      by (inl e) = absurd (no_last cs t.front t.last returned e.1 t.last_traps)
      by (inr b) =
          let r = honest_split gs cs b.rest (subst (AreHonestCalls c gs) b.front_is t.front_honest) in
          (r.0, inr (record { front = b.rest; last = t.last; calls_are = b.ds_is; front_honest = r.1; last_traps = t.last_traps }))

  asks_heavier : {A K : Type 0} (app : K → A → Answers → List Request) (gs : List Region) (n : ℕ) (S : Answers → K → List Request) (e : Ended A) → AsksEnd app gs S e → AsksEnd app gs S (heavier n e)
  asks_heavier app gs n S (Gave m ds a w) h = h
  asks_heavier app gs n S (Halted m ds s w) h = h
  asks_heavier app gs n S (Strayed m ds w) h = tt

  pub no_request : (r : Option CoreDef) (k : Call) → ((d : CoreDef) → is_import_of d k.what ≡ false) → is_call_of_any r k ≡ false
  no_request None k h = refl
  no_request (Some d) k h = h d

  -- nothing is told by a call that is none of realloc
  tells_none : {K : Type 0} (S : Answers → K → List Request) (i : Import) (args : List CoreValue) → ((d : CoreDef) → is_import_of d i ≡ false) → (before : MachineState) (answer : Answer) (more : Answers) (z : K)
      → Grows (asked_of (record { what = i; args = args; before = before; answer = answer } ∷ [])) (S more z)
  tells_none S i args apart before answer more z =
      let x : Call = record { what = i; args = args; before = before; answer = answer } in
      record { more = S more z; is = ap (λ b. map request_of (cond b (x ∷ []) []) ++ S more z) (sym (no_request c.transfer.to.realloc x apart)) }

  module _ {A K : Type 0} {app : K → A → Answers → List Request} where
    asks_later : (gs : List Region) (cs : List Call) (S T : Answers → K → List Request) (e : Ended A) → AreReturned cs → (AreHonestCalls c gs cs → Puts app cs S T × AsksEnd app (regions_after gs cs) T e) → AsksEnd app gs S (later cs e)
    asks_later gs cs S T e returned f = by_end e f
      where
        joined : Puts app cs S T → (ds : List Call) (more : Answers) (k : K) → S (told_to (cs ++ ds) ++ more) k ≡ asked_of cs ++ T (told_to ds ++ more) k
        joined p ds more k = ap (λ l. S (l ++ more) k) (so_far_append L cs ds) ∙ ap (λ l. S l k) (append_assoc (told_to cs) (told_to ds) more) ∙ p.is (told_to ds ++ more) k

        by_end : (e : Ended A) → (AreHonestCalls c gs cs → Puts app cs S T × AsksEnd app (regions_after gs cs) T e) → AsksEnd app gs S (later cs e)
        by_end (Gave n ds a w) f = λ o.
            let r = honest_split gs cs ds o in let t = f r.0 in let h = t.1 r.1 in
            (λ more k. joined t.0 ds more k ∙ ap (λ l. asked_of cs ++ l) (h.0 more k) ∙ sym (append_assoc (asked_of cs) (asked_of ds) (app k a more)) ∙ ap (λ l. l ++ app k a more) (sym (requests_append L cs ds)), h.1)
        by_end (Halted n ds s w) f = λ o more k.
            let r = until_split gs cs ds returned o in let t = f r.0 in let b = t.1 r.1 more k in
            record { more = b.more; is = joined t.0 ds more k ∙ ap (λ l. asked_of cs ++ l) b.is ∙ sym (append_assoc (asked_of cs) (asked_of ds) b.more) ∙ ap (λ l. l ++ b.more) (sym (requests_append L cs ds)) }
        by_end (Strayed n ds w) f = tt

    pub asks_give : (a : A) → Asks app (λ l k. app k a l) (Give a)
    asks_give a = record { by = λ gs w bytes o. (λ more k. refl, bytes) }

    pub asks_stop : (S : Answers → K → List Request) → Asks app S Unreachable
    asks_stop S = record { by = λ gs w bytes o more k. begins_all (S more k) }

    pub asks_visit : (n : ℕ) (S : Answers → K → List Request) (q : Action A) → Asks app S q → Asks app S (Visit n q)
    asks_visit n S q h = record { by = λ gs w bytes. asks_heavier app gs n S (run c.places q w) (h.by gs w bytes) }

    -- the same in other words
    pub asks_like : (S T : Answers → K → List Request) (q : Action A) → ((l : Answers) (k : K) → S l k ≡ T l k) → Asks app T q → Asks app S q
    asks_like S T q same h = record { by = λ gs w bytes. by_end gs (run c.places q w) (h.by gs w bytes) }
      where
        by_end : (gs : List Region) (e : Ended A) → AsksEnd app gs T e → AsksEnd app gs S e
        by_end gs (Gave n cs a w') j = λ o. let h = j o in (λ more k. same (told_to cs ++ more) k ∙ h.0 more k, h.1)
        by_end gs (Halted n cs s w') j = λ o more k. let b = j o more k in record { more = b.more; is = same (told_to cs ++ more) k ∙ b.is }
        by_end gs (Strayed n cs w') j = tt

    -- A call after which what is asked goes on, behind what it asks itself; this is told before it is answered.
    asks_call : (S : Answers → K → List Request) (T : List CoreValue → Answers → K → List Request) (i : Import) (args : List CoreValue) (ts : List ValType) (k : List CoreValue → Action A)
        → ((rs : List CoreValue) (before after : MachineState) → Puts app (record { what = i; args = args; before = before; answer = Returns rs after } ∷ []) S (T rs))
        → ((before : MachineState) (answer : Answer) (more : Answers) (k : K) → Grows (asked_of (record { what = i; args = args; before = before; answer = answer } ∷ [])) (S more k))
        → ((rs : List CoreValue) → Asks app (T rs) (k rs)) → Asks app S (Ask i args ts k)
    asks_call S T i args ts k puts tells on = record { by = λ gs w bytes. by_answers gs w bytes w.answers }
      where
        returned : World → List CoreValue → MachineState → List Answer → World
        returned w rs after l = record { state = after; answers = l; trace = w.trace ++ Called (record { func = c.places.function i; args = args; before = w.state; answer = Returns rs after }) ∷ [] }

        one : World → Answer → Call
        one w a = record { what = i; args = args; before = w.state; answer = a }

        if_so : (gs : List Region) (w : World) (t : Bool) (rs : List CoreValue) (after : MachineState) (w' : World) → AreBytesOf c.places c.transfer.from w.state c.source → w'.state ≡ after → is_answer c.places ts w.state rs after ≡ t
            → AsksEnd app gs S (later (one w (Returns rs after) ∷ []) (if_typed t w' (run c.places (k rs) w')))
        if_so gs w true rs after w' bytes e typed =
            asks_later gs (one w (Returns rs after) ∷ []) S (T rs) (run c.places (k rs) w') (tt, tt) (λ o. (
              puts rs w.state after,
              (on rs).by _ w'
                  (subst (λ s. AreBytesOf c.places c.transfer.from s c.source) (sym e) (source_kept c known w.state after (state_typed rs w.state after typed) (honest_leaves c gs i args rs w.state after o.0) bytes)),
            ))
          where
            state_typed : (rs : List CoreValue) (s s' : MachineState) → is_answer c.places ts s rs s' ≡ true → is_state c.places s' ≡ true
            state_typed rs s s' h = and_left (is_state c.places s') (is_grown s.memories s'.memories) (and_right (are_values rs ts) (is_state c.places s' && is_grown s.memories s'.memories) h)
        if_so gs w false rs after w' bytes e typed = tt

        by_answers : (gs : List Region) (w : World) → AreBytesOf c.places c.transfer.from w.state c.source → (l : List Answer)
            → AsksEnd app gs S (later (call_of i args w.state l) (with_answer c.places ts w (asked (c.places.function i) args w l) (λ rs w'. run c.places (k rs) w')))
        by_answers gs w bytes [] = λ o more z. begins_all (S more z)
        by_answers gs w bytes (Returns rs after ∷ l) = if_so gs w (is_answer c.places ts w.state rs after) rs after (returned w rs after l) bytes refl refl
        by_answers gs w bytes (Traps ∷ l) = λ o more z. tells w.state Traps more z
        by_answers gs w bytes (Throws ∷ l) = λ o more z. tells w.state Throws more z

    -- one that asks for nothing, and whose answer nothing hangs on
    pub asks_other : (S : Answers → K → List Request) (i : Import) (args : List CoreValue) (ts : List ValType) (k : List CoreValue → Action A) → ((d : CoreDef) → is_import_of d i ≡ false) → is_transcode i ≡ false
        → ((rs : List CoreValue) → Asks app S (k rs)) → Asks app S (Ask i args ts k)
    asks_other S i args ts k apart other on = asks_call S (λ rs. S) i args ts k (λ rs before after. record {
      is = λ more z.
          let x : Call = record { what = i; args = args; before = before; answer = Returns rs after } in
          let r : is_request L x ≡ false = no_request c.transfer.to.realloc x apart in
          ap (λ b. S (map results (cond b (x ∷ []) []) ++ more) z) (ap (λ b. b || is_transcode i) r ∙ other)
          ∙ ap (λ b. map request_of (cond b (x ∷ []) []) ++ S more z) (sym r);
    }) (tells_none S i args apart) on

    pub asks_transcode : (S : Answers → K → List Request) (T : List CoreValue → Answers → K → List Request) (i : Import) (args : List CoreValue) (ts : List ValType) (k : List CoreValue → Action A) → ((d : CoreDef) → is_import_of d i ≡ false) → is_transcode i ≡ true
        → ((answers : Answers) (z : K) → S answers z ≡ next_answer answers (λ rs more. T rs more z))
        → ((rs : List CoreValue) → Asks app (T rs) (k rs)) → Asks app S (Ask i args ts k)
    asks_transcode S T i args ts k apart is says on = asks_call S T i args ts k (λ rs before after. record {
      is = λ more z.
          let x : Call = record { what = i; args = args; before = before; answer = Returns rs after } in
          let r : is_request L x ≡ false = no_request c.transfer.to.realloc x apart in
          ap (λ b. S (map results (cond b (x ∷ []) []) ++ more) z) (ap (λ b. b || is_transcode i) r ∙ is)
          ∙ says (rs ∷ more) z ∙ ap (λ b. map request_of (cond b (x ∷ []) []) ++ T rs more z) (sym r);
    }) (tells_none S i args apart) on

    pub asks_realloc : (S : Answers → K → List Request) (T : List CoreValue → Answers → K → List Request) (f : CoreDef) (args : List CoreValue) (ts : List ValType) (k : List CoreValue → Action A) (r : Request) → c.transfer.to.realloc ≡ Some f
        → ((before after : MachineState) (rs : List CoreValue) → request_of (record { what = import.CoreDef f; args = args; before = before; answer = Returns rs after }) ≡ r)
        → ((answers : Answers) (z : K) → S answers z ≡ r ∷ next_answer answers (λ rs more. T rs more z))
        → ((rs : List CoreValue) → Asks app (T rs) (k rs)) → Asks app S (Ask (import.CoreDef f) args ts k)
    asks_realloc S T f args ts k r is same says on = asks_call S T (import.CoreDef f) args ts k (λ rs before after. record {
      is = λ more z.
          let x : Call = record { what = import.CoreDef f; args = args; before = before; answer = Returns rs after } in
          let yes : is_request L x ≡ true = ap (λ o. is_call_of_any o x) is ∙ same_self f in
          ap (λ b. S (map results (cond b (x ∷ []) []) ++ more) z) (ap (λ b. b || false) yes)
          ∙ says (rs ∷ more) z ∙ ap (λ q. q ∷ T rs more z) (sym (same before after rs)) ∙ ap (λ b. map request_of (cond b (x ∷ []) []) ++ T rs more z) (sym yes);
    }) (λ before answer more z.
        let x : Call = record { what = import.CoreDef f; args = args; before = before; answer = answer } in
        let yes : is_request L x ≡ true = ap (λ o. is_call_of_any o x) is ∙ same_self f in
        let rest : List Request = next_answer more (λ rs more. T rs more z) in
        record { more = rest; is = says more z ∙ ap (λ q. q ∷ rest) (sym (same before before [])) ∙ ap (λ b. map request_of (cond b (x ∷ []) []) ++ rest) (sym yes) }) on

    pub asks_trap : (S : Answers → K → List Request) (t : TrapCode) → Asks app S (trap t)
    asks_trap S t = asks_other S (import.Trap t) [] [] _ (λ d. refl) refl (λ rs. asks_stop S)

    pub asks_unless : (S : Answers → K → List Request) (t : TrapCode) (b : Bool) (q : Action A) → (b ≡ true → Asks app S q) → Asks app S (unless t b q)
    asks_unless S t true q h = h refl
    asks_unless S t false q h = asks_trap S t

    pub asks_with : (S : Answers → K → List Request) (o : LiftLowerOptions) (k : MemoryOption → Action A) → ((m : MemoryOption) → o.memory ≡ Some m → Asks app S (k m)) → Asks app S (with_memory o k)
    asks_with S o k h = by_memory o.memory (λ m e. h m e)
      where
        by_memory : (x : Option MemoryOption) → ((m : MemoryOption) → x ≡ Some m → Asks app S (k m)) → Asks app S (elim x [ None ↦ Unreachable | Some m ↦ k m ])
        by_memory None g = asks_stop S
        by_memory (Some m) g = g m refl

    pub asks_length : (S : Answers → K → List Request) (m : CoreDef) (k : ℕ → Action A) → ((n : ℕ) → Asks app S (k n)) → Asks app S (MemoryLength m k)
    asks_length S m k on = record { by = λ gs w bytes. by_memory gs w bytes (slice_get w.state.memories (c.places.memory m)) }
      where
        by_memory : (gs : List Region) (w : World) → AreBytesOf c.places c.transfer.from w.state c.source → (o : Option (List ℕ)) → AsksEnd app gs S (or_strayed w o (λ b. run c.places (k (length b)) w))
        by_memory gs w bytes None = tt
        by_memory gs w bytes (Some b) = (on (length b)).by gs w bytes

  -- one action after another: what is asked for behind the first hangs on what it gives
  pub asks_bind : {A B K M : Type 0} {app : K → A → Answers → List Request} {app' : M → B → Answers → List Request} (S : Answers → K → List Request) (T : A → Answers → M → List Request) (behind : M → K)
      → ((k : M) (a : A) (more : Answers) → app (behind k) a more ≡ T a more k) → (q : Action A) (f : A → Action B)
      → Asks app S q → ((a : A) → Asks app' (T a) (f a)) → Asks app' (λ l k. S l (behind k)) (q >>= f)
  asks_bind {A} {B} {K} {M} {app} {app'} S T behind hands q f h g = record { by = λ gs w bytes. subst (AsksEnd app' gs (λ l k. S l (behind k))) (sym (binds_run c.places q f w)) (by_end gs (run c.places q w) (gives_returned c.places q w) (h.by gs w bytes)) }
    where
      by_end : (gs : List Region) (e : Ended A) → GivesReturned e → AsksEnd app gs S e → AsksEnd app' gs (λ l k. S l (behind k)) (then_ended e (λ a w'. run c.places (f a) w'))
      by_end gs (Gave n cs a w') returned j =
          asks_heavier app' gs n (λ l k. S l (behind k)) (later cs (run c.places (f a) w')) (asks_later gs cs (λ l k. S l (behind k)) (T a) (run c.places (f a) w') returned (λ o.
          let h = j o in (record { is = λ more k. h.0 more (behind k) ∙ ap (λ l. asked_of cs ++ l) (hands k a more) }, (g a).by (regions_after gs cs) w' h.1)))
      by_end gs (Halted n cs s w') returned j = λ o more k. j o more (behind k)
      by_end gs (Strayed n cs w') returned j = tt
