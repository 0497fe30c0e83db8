-- A call that lacks an answer can be answered by the host's rules, where transcoders read whole texts and what the callee answers can be stored.
use Rattle.std.proofs.Common.{◌≡◌, ℕ, zero, suc, ◌+◌, ◌*◌, ◌^◌, ◌<◌, ◌≤◌, inl, inr, All, Bool, true, false, cond, List, [], ◌∷◌, ◌++◌, ◌⊎◌, Option, Some, None, refl, sym, ap, ◌∙◌, subst, arith, get_or, length, map, drop, length-append}
use Rattle.std.specs.Cmp.{first_so}
use Rattle.std.specs.List.{AllZip, filter_map}
use Rattle.std.proofs.Math.ListN.{get_or-eq_default}
use Rattle.std.proofs.lemmas.Bool.{cases_lt, true≢false}
use Rattle.std.proofs.lemmas.List.{get_or-set_same, length-map, nil_from_length}
use Rattle.std.proofs.lemmas.List.Elements.{All-drop, All-get_or, All-nil, All-take}
use Rattle.fact_wasm.specs.declared.types.ValType.TheVariants as val
use Rattle.fact_wasm.specs.declared.module.WasmModule.{WasmModule}
use Rattle.fact_types.specs.declared.outside.CoreDef.{CoreDef}
use Rattle.fact_types.specs.declared.outside.Transcode.{Transcode}
use Rattle.fact_types.specs.declared.import.Import.{Import}
use Rattle.fact_types.specs.declared.import.Import.TheVariants as import
use Rattle.fact_types.specs.ImportTypes.{realloc_type}
use Rattle.fact_types.specs.Signatures.{address, sync_lift}
use Rattle.fact_machine.specs.declared.types.Answer.{Answer}
use Rattle.fact_machine.specs.declared.types.Answer.TheVariants.{Returns, Traps}
use Rattle.fact_machine.specs.declared.types.CoreValue.{CoreValue}
use Rattle.fact_machine.specs.declared.types.CoreValue.TheVariants.{I32}
use Rattle.fact_machine.specs.declared.types.End.TheVariants.{Lacks}
use Rattle.fact_machine.specs.declared.types.Event.{Event}
use Rattle.fact_machine.specs.declared.types.MachineState.{MachineState}
use Rattle.fact_machine.specs.Causes.{answers_of}
use Rattle.fact_machine.specs.Lengths.{lengths_of}
use Rattle.fact_machine.specs.Typed.{IsMemory, IsValue, TypedAnswer, TypedState, type_of_memory}
use Rattle.fact_machine.specs.Typing.{address_operand}
use Rattle.fact_machine.specs.World.{put_at}
use Rattle.fact_machine.proofs.TypedTests.{values_decided}
use Rattle.fact_check.specs.Soundness.{AreArguments}
use Rattle.fact_values.specs.declared.value.Value.{Value}
use Rattle.fact_values.specs.Lift.{bits_of}
use Rattle.fact_values.specs.Texts.{decoded, unit_bytes}
use Rattle.fact_actions.specs.Calls.{nth_number}
use Rattle.fact_actions.specs.Confined.{HaveHonestTranscoders}
use Rattle.fact_actions.specs.Honest.{AreHonestSync, room_of}
use Rattle.fact_actions.specs.Regions.{landed, params_landing, sync_moved_on}
use Rattle.fact_actions.specs.Running.{Call, ImportPlaces}
use Rattle.fact_actions.specs.Transcoders.{AllUnits, Counted, Fitting, IsHonestTranscoding, Narrow, Tagged, TranscodeKind, Widening, from_encoding, transcode_kind, transcode_types}
use Rattle.fact_action_laws.specs.Items.{crossing, crossings}
use Rattle.fact_action_laws.specs.Answerable.{CanBeAnswered, CanBeAnsweredBy, HasHonestAnswer, IsMalformed}
use Rattle.fact_action_laws.specs.Trapped.{AreHonestUntilTrap}
use Rattle.fact_action_laws.proofs.Encoded.{AreSmallBytes, encoded}
use Rattle.fact_code_laws.proofs.TypedStates.{states_agree}
use Rattle.fact_lowering.specs.Room.{room}
use Rattle.fact_host.specs.declared.calling.HostCall.{HostCall}
use Rattle.fact_host.specs.declared.calling.HostSide.{HostSide}
use Rattle.fact_host.specs.declared.known.Known.{Known}
use Rattle.fact_host.specs.declared.roles.Role.{Role}
use Rattle.fact_host.specs.declared.roles.Role.TheVariants as role
use Rattle.fact_host.specs.declared.transcoders.Told.{Told}
use Rattle.fact_host.specs.Contract.{HasFirstMemory, HasSideMeans}
use Rattle.fact_host.specs.Describes.{IsImportOf, named_calls}
use Rattle.fact_host.specs.Rules.{Again, Answers, AreWrittenBytes, AreOfCoreTypes, CallShapes, IsHonestlyMade, LeavesAllKnown, Malformed, MustRefuse, MustStop, NoParams, NoRoom, NoRoomForResults, ReallocsAt, ReallocsBy, StoresResults, after_region, bytes_after_region, bytes_of_memory, cursor_of, given_at, memory_at, next_region, params_of, stays, told_of, told_room, units_read, with_memory_at}
use Rattle.fact_emit.specs.ImportSection.{mentions}
use Rattle.fact_function_laws.specs.Names.{AreCalls, IsNamedLog}
use Rattle.fact_function_laws.specs.Runs.{IsTypedRun}
use Rattle.fact_function_laws.proofs.ImportNumbers.{named_log}
use Rattle.fact_function_laws.proofs.LoggedImports.{run_told}
use Rattle.fact_function_laws.proofs.TypedCalls.{are_places}
use Rattle.fact_call_laws.proofs.Bridge.{are_named}
use Rattle.fact_call_laws.proofs.Ends.{few}
use Rattle.fact_call_laws.proofs.Given.{state_typed}
use Rattle.fact_call_laws.proofs.Giving.{callee_gives, callee_refused, first_address, given_address, gives, put_are, realloc_given, realloc_refused, transcoder_goes, transcoder_stops}
use Rattle.fact_call_laws.proofs.Lacking.{AllRead, answered_by, before, before_typed, func, given, given_typed, last, last_ruled, log_with, never, role_here, ruled_with, short, trap_typed}
use Rattle.fact_call_laws.proofs.Later.{IsLog, Laws, later, later_called, run_by}
use Rattle.fact_call_laws.proofs.Numbers.{numbered}
use Rattle.fact_call_laws.proofs.Reading.{honest_transcoders}
use Rattle.fact_call_laws.proofs.Segments.{no_last}
use Rattle.fact_call_laws.proofs.Setting.{Called, Named, Setting, honest, is_import, names, places, typed_log}
use Rattle.fact_call_laws.proofs.Steps.{ask, call_by, not_traps}
use Rattle.fact_call_laws.proofs.Trapped.{map_on, role_is}

-- ---- what the callee answers

-- These values stand as results in a state, behind one in which so much was known.
pub record AreStored (k : Known) (c : HostCall) (s : CallShapes) (values : List Value) (before : MachineState) : Type 0 where
  pub results : List CoreValue
  pub after : MachineState
  pub known : Known
  pub core : AreOfCoreTypes (sync_lift c.lift.abi.memory64 s.lift_params s.lift_results).results results
  pub stores : StoresResults k c s.lift_results s.lower_results values before after results known

-- What the callee answers can be stored, wherever there is room behind the cursor.
abbrev pub CanBeStored : Setting → Type 0
CanBeStored x =
    (k : Known) (before : MachineState) → TypedState x.code before
    → ((n : ℕ) → x.call.lift.memory ≡ Some n → (cursor_of k n + room x.shapes.lift_results x.shapes.lower_results x.answered ≤ length (memory_at before n)) × (length (memory_at before n) ≤ 65536))
    → AreStored k x.call x.shapes x.answered before

abbrev pub AllStored : Type 0
AllStored = (x : Setting) → Called x → CanBeStored x

-- ---- lists

last_is : {A : Type 0} (xs ys : List A) (x y : A) → xs ++ x ∷ [] ≡ ys ++ y ∷ [] → x ≡ y
last_is [] [] x y e = cc
last_is [] (b ∷ ys) x y e =
    let rest : [] ≡ ys ++ y ∷ [] = cc in
    absurd (no_last ys y rest)
last_is (a ∷ xs) [] x y e =
    let rest : [] ≡ xs ++ x ∷ [] = cc in
    absurd (no_last xs x rest)
last_is (a ∷ xs) (b ∷ ys) x y e =
    let rest : xs ++ x ∷ [] ≡ ys ++ y ∷ [] = cc in
    last_is xs ys x y rest

answered_last : (p : ImportPlaces) (cs : List Call) (z : Call) → CanBeAnswered p (cs ++ z ∷ []) → CanBeAnsweredBy z.what p z
answered_last p [] z h = h.0
answered_last p (c ∷ cs) z h = answered_last p cs z h.1

length_at : (ms : List (List ℕ)) (n : ℕ) → length (get_or ms n []) ≡ get_or (map length ms) n 0
length_at [] n = refl
length_at (m ∷ ms) zero = refl
length_at (m ∷ ms) (suc n) = length_at ms n

-- a call moves one handle at most
crossing_few : (i : Import) (args : List CoreValue) → length (crossing i args) ≤ 1
crossing_few import.ResourceTransferOwn args = omega arith
crossing_few import.ResourceTransferBorrow args = omega arith
crossing_few import.FutureTransfer args = omega arith
crossing_few import.StreamTransfer args = omega arith
crossing_few import.ErrorContextTransfer args = omega arith
crossing_few i args = omega arith

crossings_few : (cs : List Call) → length (crossings cs) ≤ length cs
crossings_few [] = omega arith
crossings_few (c ∷ cs) = omega (arith, crossing_few c.what c.args, crossings_few cs, length-append (crossing c.what c.args) (crossings cs))

-- ---- bytes

-- the memories of a typed state hold bytes
pub bytes_in : (m : WasmModule) (s : MachineState) → TypedState m s → (n : ℕ) → AreWrittenBytes (memory_at s n)
bytes_in m s typed n = by (filter_map type_of_memory m.imports) s.memories n typed.memories
  where
    by : (kinds : List (Bool × Option ℕ)) (ms : List (List ℕ)) (n : ℕ) → AllZip (λ t bytes. IsMemory t.0 t.1 bytes) kinds ms → AreWrittenBytes (get_or ms n [])
    by [] [] n h = All-nil (λ b. b < 256)
    by [] (b ∷ ms) n h = absurd h
    by (t ∷ kinds) [] n h = absurd h
    by (t ∷ kinds) (b ∷ ms) zero h = h.0.are_bytes
    by (t ∷ kinds) (b ∷ ms) (suc n) h = by kinds ms n h.1

small : (bytes : List ℕ) → AreWrittenBytes bytes → AreSmallBytes bytes
small bytes h i = elim (cases_lt i (length bytes)) [ inl lt ↦ All-get_or (λ b. b < 256) bytes i 0 lt h | inr ge ↦ (let e = get_or-eq_default bytes 0 ge in omega (arith, e)) ]

-- what is told is what a transcoder's room is
same_told : (k : TranscodeKind) (n : ℕ) (c : Call) (there : List ℕ) → room_of k c there ≡ told_room k (told_of (record { func = n; args = c.args; before = c.before; answer = c.answer })) there
same_told AllUnits n c there = refl
same_told Counted n c there = refl
same_told Fitting n c there = refl
same_told Narrow n c there = refl
same_told Tagged n c there = refl
same_told Widening n c there = refl

module _ (laws : Laws) (reads : AllRead) (stored : AllStored) (x : Setting) (h : Called x) (steps : ℕ) (events : List Event) (g : IsLog x h steps events)
    (whole : AreHonestSync (places x) x.adapter h.outcome.args (named_calls (names x) events)) (lacks : (run_by x h events steps).end ≡ Lacks) where
  abbrev number : ℕ
  number = func x h steps events g lacks

  abbrev told : List CoreValue
  told = given x h steps events g lacks

  abbrev state : MachineState
  state = before x h steps events g lacks

  abbrev known : Known
  known = last x h steps events g lacks

  abbrev event : Answer → Event
  event a = answered_by x h steps events g lacks a

  no_trap : (r : Role) → Named x number r → (k : Known) → Answers x.call x.shapes (Some x.answered) r known (event Traps) k → ⊥
  no_trap = never x h steps events g lacks laws reads whole

  typed : TypedState x.code state
  typed = before_typed x h steps events g lacks laws

  -- An answer by the rules, that returns.
  record HasAnswer (r : Role) : Type 0 where
    results : List CoreValue
    after : MachineState
    behind : Known
    rule : Answers x.call x.shapes (Some x.answered) r known (event (Returns results after)) behind

  -- a memory that a side names has 65,536 bytes
  page : (side : HostSide) → HasFirstMemory side h.outcome.first → (n : ℕ) → side.memory ≡ Some n → length (memory_at state n) ≤ 65536
  page side first n e =
      let there : side.memory ≡ None → ⊥ = λ q. let bad : Some n ≡ None = sym e ∙ q in cc in
      let long : get_or (lengths_of h.outcome.first) n 0 ≤ 65536 = omega (arith, ap (λ o. length (bytes_of_memory o h.outcome.first)) (sym e), first.bytes there, length_at h.outcome.first.memories n) in
      short x h steps events g lacks laws n 65536 long

  -- ---- the callee

  callee : Named x number role.Callee → HasAnswer role.Callee
  callee named =
      let s = stored x h known state typed (λ n here. (room_behind n here, page x.call.lift h.outcome.lift_memory n here)) in
      record {
        results = s.results;
        after = s.after;
        behind = s.known;
        rule = callee_gives known number told state x.call x.shapes x.answered s.known s.results s.after once lifted s.core s.stores;
      }
    where
      once : known.returned ≡ true → ⊥
      once q = no_trap role.Callee named known (callee_refused known number told state x.call x.shapes x.answered true (λ z. absurd (true≢false z)) (Again q))

      lifted : params_of x.call x.shapes.lift_params (event Traps) ≡ None → ⊥
      lifted q = no_trap role.Callee named known (callee_refused known number told state x.call x.shapes x.answered true (λ z. absurd (true≢false z)) (NoParams q))

      room_behind : (n : ℕ) → x.call.lift.memory ≡ Some n → cursor_of known n + room x.shapes.lift_results x.shapes.lower_results x.answered ≤ length (memory_at state n)
      room_behind n here = elim (cases_lt (length (memory_at state n)) (cursor_of known n + room x.shapes.lift_results x.shapes.lower_results x.answered)) [
        | inl lt ↦ absurd (no_trap role.Callee named known (callee_refused known number told state x.call x.shapes x.answered false (λ z. record { values = x.answered; is_answer = refl; memory = n; named = here; full = lt }) (NoRoomForResults refl)))
        | inr le ↦ le
      ]

  -- ---- reallocs

  record HasRegion (side : HostSide) (dest : Bool) : Type 0 where
    results : List CoreValue
    after : MachineState
    behind : Known
    rule : ReallocsBy known side dest (event (Returns results after)) behind

  reallocated : (side : HostSide) (dest : Bool) → ((k : Known) → ReallocsBy known side dest (event Traps) k → ⊥) → HasSideMeans x.code side → HasFirstMemory side h.outcome.first → side.realloc ≡ Some number → HasRegion side dest
  reallocated side dest refuted means first is = by side.memory refl
    where
      old : IsValue (address_operand side.abi.memory64 (nth_number told 0)) (address side.abi.memory64)
      old =
          let all : AreArguments (Some (realloc_type side.abi.memory64)) told = subst (λ o. AreArguments o told) (means.realloc number is) (given_typed x h steps events g lacks laws) in
          first_address side.abi.memory64 told (address side.abi.memory64 ∷ address side.abi.memory64 ∷ address side.abi.memory64 ∷ []) all

      by : (o : Option ℕ) → side.memory ≡ o → HasRegion side dest
      by None q =
          let trapped : ReallocsAt known side dest (event Traps) known None = refl in
          absurd (refuted known (subst (ReallocsAt known side dest (event Traps) known) (sym q) trapped))
      by (Some n) q =
          let must_not : MustRefuse known n dest (memory_at state n) (ask told) → ⊥ = λ m. refuted known (subst (ReallocsAt known side dest (event Traps) known) (sym q) (realloc_refused known number told state n side.abi.memory64 dest m)) in
          let near : stays (ask told) ≡ false → next_region known n (ask told) ≤ 65536 = λ st. elim (cases_lt (length (memory_at state n)) (next_region known n (ask told) + (ask told).size)) [
            | inl lt ↦ absurd (must_not (NoRoom st lt))
            | inr le ↦ omega (arith, le, page side first n q)
          ] in
          let at : IsValue (address_operand side.abi.memory64 (given_at known n (ask told))) (address side.abi.memory64) = given_address side.abi.memory64 known n (ask told) old near in
          record {
            results = address_operand side.abi.memory64 (given_at known n (ask told)) ∷ [];
            after = with_memory_at state n (bytes_after_region known n (ask told) (memory_at state n));
            behind = after_region known n (ask told);
            rule =
                subst
                (ReallocsAt known side dest (event (Returns (address_operand side.abi.memory64 (given_at known n (ask told)) ∷ []) (with_memory_at state n (bytes_after_region known n (ask told) (memory_at state n))))) (after_region known n (ask told)))
                (sym q) (realloc_given known number told state n side.abi.memory64 dest must_not at);
          }

  lift_realloc : Named x number role.LiftRealloc → HasAnswer role.LiftRealloc
  lift_realloc named =
      let z = reallocated x.call.lift (cond known.returned false true) (no_trap role.LiftRealloc named) h.callable.lift_means h.outcome.lift_memory at in
      record { results = z.results; after = z.after; behind = z.behind; rule = z.rule }
    where
      at : x.call.lift.realloc ≡ Some number
      at = elim (role_is x.code x.call number named.0 role.LiftRealloc named.2) [ inl z ↦ z | inr z ↦ absurd z.0 ]

  lower_realloc : Named x number role.LowerRealloc → HasAnswer role.LowerRealloc
  lower_realloc named =
      let z = reallocated x.call.lower known.returned (no_trap role.LowerRealloc named) h.callable.lower_means h.outcome.lower_memory at in
      record { results = z.results; after = z.after; behind = z.behind; rule = z.rule }
    where
      at : x.call.lower.realloc ≡ Some number
      at = elim (role_is x.code x.call number named.0 role.LowerRealloc named.2) [ inl z ↦ z | inr z ↦ absurd z.0 ]

  -- ---- transfers

  few_transfers : suc known.transfers < 2 ^ 32
  few_transfers =
      let made : length events ≤ 60000030 = few (later x h steps events) (later_called x h laws steps events g) whole in
      let calls : length (named_calls (names x) events) ≡ length events = length-map events (λ (e : Event). call_by (names x e.func) e.args e.before e.answer) in
      let crossed : length (crossings (named_calls (names x) events)) ≤ length (named_calls (names x) events) = crossings_few (named_calls (names x) events) in
      let count = numbered x.call (places x) x.adapter x.shapes (Some x.answered) (names x) (Named x) (is_import x h) (sync_moved_on x.adapter h.outcome.args) h.outcome.known known (landed (params_landing x.adapter)) events (last_ruled x h steps events g lacks) whole in
      omega (arith, made, calls, crossed, count.next, h.outcome.known_first.transfers)

  -- ---- transcoders

  abbrev call : Call
  call = call_by (names x number) told state Traps

  abbrev calls : List Call
  calls = named_calls (names x) (events ++ event Traps ∷ [])

  calls_on : calls ≡ named_calls (names x) events ++ call ∷ []
  calls_on = map_on (λ (e : Event). call_by (names x e.func) e.args e.before e.answer) events (event Traps ∷ [])

  are_calls : AreCalls x.code x.imports (run_by x h (events ++ event Traps ∷ []) steps).log calls
  are_calls =
      let n : IsNamedLog x.code x.imports (run_by x h (events ++ event Traps ∷ []) steps).log =
      named_log x.code x.imports (mentions x.adapters) h.promised.names.named (run_by x h (events ++ event Traps ∷ []) steps).log (run_told x.code x.function h.outcome.args h.outcome.first (answers_of (events ++ event Traps ∷ [])) steps) in
      subst (λ l. AreCalls x.code x.imports (run_by x h (events ++ event Traps ∷ []) steps).log (named_calls (names x) l)) (log_with x h steps events g lacks Traps)
      (are_named x.code x.imports (run_by x h (events ++ event Traps ∷ []) steps).log n.calls n.are_calls)

  can_be : CanBeAnsweredBy (names x number) (places x) call
  can_be =
      let run_typed : IsTypedRun x.code x.adapter h.outcome.args h.outcome.first (run_by x h (events ++ event Traps ∷ []) steps).log = record {
        state = (typed_log x h).state;
        arguments = (typed_log x h).arguments;
        answers = subst (λ (l : List Event). All (λ (e : Event). TypedAnswer x.code e.func e.before e.answer) l) (sym (log_with x h steps events g lacks Traps)) (trap_typed x h steps events g lacks laws);
      } in
      let transcoders : HaveHonestTranscoders (places x) calls =
      subst (HaveHonestTranscoders (places x)) (sym calls_on) (honest_transcoders (places x) x.adapter (sync_moved_on x.adapter h.outcome.args) (landed (params_landing x.adapter)) (named_calls (names x) events) call whole refl) in
      let all = h.promised.behaves.can_be_answered h.outcome.args h.outcome.first (answers_of (events ++ event Traps ∷ [])) steps calls run_typed are_calls transcoders in
      answered_last (places x) (named_calls (names x) events) call (subst (CanBeAnswered (places x)) calls_on all)

  module _ (o : Transcode) (from : ℕ) (from64 : Bool) (to : ℕ) (to64 : Bool) (named : Named x number (role.Transcoder o from from64 to to64)) where
    abbrev asks : Told
    asks = told_of (event Traps)

    must_not : MustStop o (memory_at state from) (memory_at state to) asks → ⊥
    must_not m = no_trap (role.Transcoder o from from64 to to64) named known (transcoder_stops known number told state o from from64 to to64 m)

    module _ (d e : CoreDef) (from_is : (places x).memory d ≡ from) (to_is : (places x).memory e ≡ to) where
      -- what is read is no malformed text
      well_formed : IsMalformed (from_encoding o) (units_read o (memory_at state ((places x).memory d)) asks) → ⊥
      well_formed bad = by (decoded (from_encoding o) (units_read o (memory_at state from) asks)) refl
        where
          are : AreWrittenBytes (units_read o (memory_at state from) asks)
          are = All-take (λ b. b < 256) (unit_bytes (from_encoding o) * asks.units) (drop asks.from (memory_at state from)) (All-drop (λ b. b < 256) asks.from (memory_at state from) (bytes_in x.code state typed from))

          by : (t : Option (List ℕ)) → decoded (from_encoding o) (units_read o (memory_at state from) asks) ≡ t → ⊥
          by None q = must_not (Malformed q)
          by (Some text) q =
              let s = encoded (from_encoding o) (units_read o (memory_at state from) asks) text (small (units_read o (memory_at state from) asks) are) q in
              subst (λ n. IsMalformed (from_encoding o) (units_read o (memory_at state n) asks)) from_is bad text s.can s.is

      by_answer : HasHonestAnswer (places x) o d from64 e to64 call → HasAnswer (role.Transcoder o from from64 to to64)
      by_answer a = record {
        results = a.values;
        after = with_memory_at state to (put_at (memory_at state to) (nth_number told 2) a.honest.bytes);
        behind = known;
        rule = transcoder_goes known number told state o from from64 to to64 a.honest.bytes a.values must_not made are ((values_decided a.values (transcode_types (transcode_kind o) from64 to64)).0 a.typed);
      }
        where
          made : IsHonestlyMade o (memory_at state from) (memory_at state to) asks a.honest.bytes (map bits_of a.values)
          made =
              subst (λ n. IsHonestlyMade o (memory_at state n) (memory_at state to) asks a.honest.bytes (map bits_of a.values)) from_is
              (subst (λ n. IsHonestlyMade o (memory_at state ((places x).memory d)) (memory_at state n) asks a.honest.bytes (map bits_of a.values)) to_is
              (subst (λ r. IsHonestTranscoding o r (units_read o (memory_at state ((places x).memory d)) asks) a.honest.bytes (map bits_of a.values))
              (same_told (transcode_kind o) number (call_by (names x number) told state (Returns a.values a.after)) (drop (nth_number told 2) (memory_at state ((places x).memory e)))) a.honest.transcoding))

          after_typed : TypedState x.code a.after
          after_typed = (states_agree x.code (places x) a.after (are_places x.code x.imports)).0 (first_so _ _ (a.state_typed (state_typed x h state typed)))

          written : ((places x).memory e < length state.memories) ⊎ (length state.memories ≤ (places x).memory e) → AreWrittenBytes a.honest.bytes
          written (inl lt) =
              let there : memory_at a.after ((places x).memory e) ≡ put_at (memory_at state ((places x).memory e)) (nth_number told 2) a.honest.bytes =
              ap (λ ms. get_or ms ((places x).memory e) []) a.honest.written ∙ get_or-set_same state.memories ((places x).memory e) (put_at (memory_at state ((places x).memory e)) (nth_number told 2) a.honest.bytes) [] lt in
              put_are (memory_at state ((places x).memory e)) (nth_number told 2) a.honest.bytes (subst AreWrittenBytes there (bytes_in x.code a.after after_typed ((places x).memory e)))
          written (inr ge) =
              let empty : length (memory_at state ((places x).memory e)) ≡ 0 = ap length (get_or-eq_default state.memories [] ge) in
              let inside : nth_number told 2 + length a.honest.bytes ≤ length (memory_at state ((places x).memory e)) = a.honest.inside in
              let none : length a.honest.bytes ≡ 0 = omega (arith, inside, empty) in
              subst AreWrittenBytes (sym (nil_from_length a.honest.bytes none)) (All-nil (λ b. b < 256))

          are : AreWrittenBytes a.honest.bytes
          are = written (cases_lt ((places x).memory e) (length state.memories))

    transcoded : HasAnswer (role.Transcoder o from from64 to to64)
    transcoded = by (is_import x h number (role.Transcoder o from from64 to to64) named)
      where
        by : IsImportOf (places x) x.adapter (role.Transcoder o from from64 to to64) (names x number) → HasAnswer (role.Transcoder o from from64 to to64)
        by q =
            let d : CoreDef = q.0 in
            let e : CoreDef = q.1 in
            let can : CanBeAnsweredBy (import.Transcode o d from64 e to64) (places x) call = subst (λ i. CanBeAnsweredBy i (places x) call) q.2 can_be in
            elim can [
              | inl a ↦ by_answer d e q.3 q.4 a
              | inr bad ↦ absurd (well_formed d e q.3 q.4 bad)
            ]

  -- ---- any role

  by_role : (r : Role) → Named x number r → HasAnswer r
  by_role role.Callee named = callee named
  by_role role.LiftRealloc named = lift_realloc named
  by_role role.LowerRealloc named = lower_realloc named
  by_role role.PostReturn named = record {
    results = [];
    after = state;
    behind = known;
    rule = gives ⊥ (LeavesAllKnown (event (Returns [] state)) known []) known known number told [] state state (λ z. z) (refl, refl, refl);
  }
  by_role (role.Transcoder o from from64 to to64) named = transcoded o from from64 to to64 named
  by_role role.Transfer named = record {
    results = I32 (suc known.transfers) ∷ [];
    after = state;
    behind = record known { transfers = suc known.transfers };
    rule =
        gives ⊥ (λ st rs j. AreOfCoreTypes (val.I32 ∷ []) rs × LeavesAllKnown (event (Returns (I32 (suc known.transfers) ∷ []) state)) (record known { transfers = suc known.transfers }) (I32 (suc known.transfers) ∷ []) st rs j) known
        (record known { transfers = suc known.transfers }) number told (I32 (suc known.transfers) ∷ []) state state (λ z. z) (((refl, few_transfers), tt), (refl, refl, refl));
  }
  by_role role.Slot named = record {
    results = I32 0 ∷ [];
    after = state;
    behind = known;
    rule = gives ⊥ (LeavesAllKnown (event (Returns (I32 0 ∷ []) state)) known (I32 0 ∷ [])) known known number told (I32 0 ∷ []) state state (λ z. z) (refl, refl, refl);
  }
  by_role role.Told named = record {
    results = [];
    after = state;
    behind = known;
    rule = gives ⊥ (LeavesAllKnown (event (Returns [] state)) known []) known known number told [] state state (λ z. z) (refl, refl, refl);
  }
  by_role role.Refused named = absurd (no_trap role.Refused named known refl)

  -- One more call, honestly answered.
  pub record GoesOn : Type 0 where
    pub next : Event
    pub is_log : IsLog x h steps (events ++ next ∷ [])
    pub honestly : AreHonestSync (places x) x.adapter h.outcome.args (named_calls (names x) (events ++ next ∷ []))

  pub goes_on : GoesOn
  goes_on =
      let y : Setting = later x h steps (events ++ event (Returns answer.results answer.after) ∷ []) in
      let hy : Called y = later_called x h laws steps (events ++ event (Returns answer.results answer.after) ∷ []) is_log in
      record { next = event (Returns answer.results answer.after); is_log = is_log; honestly = by (honest y hy) }
    where
      here : (r : Role) × Named x number r
      here = role_here x h steps events g lacks

      answer : HasAnswer here.0
      answer = by_role here.0 here.1

      is_log : IsLog x h steps (events ++ event (Returns answer.results answer.after) ∷ [])
      is_log = ruled_with x h steps events g lacks (Returns answer.results answer.after) here.0 here.1 answer.behind answer.rule

      by : AreHonestUntilTrap (AreHonestSync (places x) x.adapter h.outcome.args) (named_calls (names x) (events ++ event (Returns answer.results answer.after) ∷ []))
          → AreHonestSync (places x) x.adapter h.outcome.args (named_calls (names x) (events ++ event (Returns answer.results answer.after) ∷ []))
      by (inl all) = all
      by (inr t) =
          let one : Call = call_by (names x number) told state (Returns answer.results answer.after) in
          let split : named_calls (names x) (events ++ event (Returns answer.results answer.after) ∷ []) ≡ named_calls (names x) events ++ one ∷ [] =
          map_on (λ (e : Event). call_by (names x e.func) e.args e.before e.answer) events (event (Returns answer.results answer.after) ∷ []) in
          let same : one ≡ t.last = last_is (named_calls (names x) events) t.front one t.last (sym split ∙ t.calls_are) in
          absurd (not_traps answer.results answer.after (ap (λ (c : Call). c.answer) same ∙ t.last_traps))
