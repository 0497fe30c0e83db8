-- Answers by the host's rules: a trap where one must be, and else what the rules leave.
use Rattle.std.proofs.Common.{◌≡◌, ℕ, ◌+◌, ◌<◌, ◌≤◌, All, Bool, true, false, cond, List, [], ◌∷◌, ◌++◌, Some, None, refl, sym, subst, arith, length, map, take, drop}
use Rattle.std.specs.List.{AllZip}
use Rattle.std.proofs.lemmas.Bool.{true≢false}
use Rattle.std.proofs.lemmas.List.Elements.{All-cons, All-head, All-nil, All-tail}
use Rattle.fact_wasm.specs.declared.types.ValType.{ValType}
use Rattle.fact_types.specs.declared.outside.Transcode.{Transcode}
use Rattle.fact_types.specs.Signatures.{address, sync_lift}
use Rattle.fact_machine.specs.declared.types.Answer.TheVariants.{Returns, Traps, Throws}
use Rattle.fact_machine.specs.declared.types.CoreValue.{CoreValue}
use Rattle.fact_machine.specs.declared.types.CoreValue.TheVariants.{I32, I64, F32, F64, Func}
use Rattle.fact_machine.specs.declared.types.MachineState.{MachineState}
use Rattle.fact_machine.specs.Typed.{IsValue}
use Rattle.fact_machine.specs.Typing.{address_operand}
use Rattle.fact_machine.specs.World.{put_at}
use Rattle.fact_values.specs.declared.value.Value.{Value}
use Rattle.fact_values.specs.Lift.{bits_of}
use Rattle.fact_actions.specs.Calls.{nth_number}
use Rattle.fact_actions.specs.Transcoders.{transcode_kind, transcode_types}
use Rattle.fact_host.specs.declared.calling.HostCall.{HostCall}
use Rattle.fact_host.specs.declared.known.Known.{Known}
use Rattle.fact_host.specs.Rules.{Again, AnswersBy, AreWrittenBytes, AreOfCoreTypes, AskedRegion, CallShapes, CallsBy, IsHonestlyMade, LeavesKnown, MayLackRoom, MustNotCall, MustRefuse, MustStop, NoParams, NoRoomForResults, ReallocsIn, StoresResults, TranscodesBy, after_region, bytes_after_region, given_at, memory_at, next_region, params_of, stays, told_of, with_memory_at}
use Rattle.fact_call_laws.proofs.Steps.{ask, event_of, not_traps}

-- ---- any rule

not_throws : (rs : List CoreValue) (st : MachineState) → Returns rs st ≡ Throws → ⊥
not_throws rs st q = cc

traps_not_throws : Traps ≡ Throws → ⊥
traps_not_throws q = cc

pub refuses : (Must : Type 0) (Leave : LeavesKnown) (k k' : Known) (func : ℕ) (args : List CoreValue) (before : MachineState) → Must → AnswersBy Must Leave k (event_of func args before Traps) k'
refuses Must Leave k k' func args before must = record {
  traps = ((λ q. must), (λ m. refl));
  returns = λ rs st q. absurd (not_traps rs st (sym q));
  never_throws = traps_not_throws;
}

pub gives : (Must : Type 0) (Leave : LeavesKnown) (k k' : Known) (func : ℕ) (args results : List CoreValue) (before after : MachineState) → (Must → ⊥) → Leave after results k' → AnswersBy Must Leave k (event_of func args before (Returns results after)) k'
gives Must Leave k k' func args results before after refuted left = record {
  traps = ((λ q. absurd (not_traps results after q)), (λ m. absurd (refuted m)));
  returns = λ rs st q.
      let same : Returns results after ≡ Returns rs st = q in
      let values : results ≡ rs = cc in
      let state : after ≡ st = cc in
      subst (λ z. Leave z rs k') state (subst (λ z. Leave after z k') values left);
  never_throws = not_throws results after;
}

-- ---- addresses

-- a number that is small is an address
pub small_address : (wide : Bool) (n : ℕ) → n ≤ 65536 → IsValue (address_operand wide n) (address wide)
small_address true n le = (refl, omega (arith, le))
small_address false n le = (refl, omega (arith, le))

-- and so is one that is the first of typed values
pub first_address : (wide : Bool) (vs : List CoreValue) (ts : List ValType) → AllZip (λ v t. IsValue v t) vs (address wide ∷ ts) → IsValue (address_operand wide (nth_number vs 0)) (address wide)
first_address wide [] ts h = absurd h
first_address true (I64 n ∷ vs) ts h = h.0
first_address true (I32 n ∷ vs) ts h = absurd (true≢false (sym h.0.0))
first_address true (F32 n ∷ vs) ts h = absurd (true≢false (sym h.0.0))
first_address true (F64 n ∷ vs) ts h = absurd (true≢false (sym h.0.0))
first_address true (Func n ∷ vs) ts h = absurd (true≢false (sym h.0.0))
first_address false (I32 n ∷ vs) ts h = h.0
first_address false (I64 n ∷ vs) ts h = absurd (true≢false (sym h.0.0))
first_address false (F32 n ∷ vs) ts h = absurd (true≢false (sym h.0.0))
first_address false (F64 n ∷ vs) ts h = absurd (true≢false (sym h.0.0))
first_address false (Func n ∷ vs) ts h = absurd (true≢false (sym h.0.0))

-- where a region is given, by the place of the one given up, or behind the cursor
pub given_address : (wide : Bool) (k : Known) (n : ℕ) (q : AskedRegion) → IsValue (address_operand wide q.old.at) (address wide) → (stays q ≡ false → next_region k n q ≤ 65536) → IsValue (address_operand wide (given_at k n q)) (address wide)
given_address wide k n q old near = by (stays q) refl
  where
    by : (b : Bool) → stays q ≡ b → IsValue (address_operand wide (cond b q.old.at (next_region k n q))) (address wide)
    by true e = old
    by false e = small_address wide (next_region k n q) (near e)

-- ---- bytes

-- what holds of each of a list holds of each behind a front
behind_all : {A : Type 0} (P : A → Type 0) (xs ys : List A) → All P (xs ++ ys) → All P ys
behind_all P [] ys h = h
behind_all P (x ∷ xs) ys h = behind_all P xs ys (All-tail P x (xs ++ ys) h)

front_all : {A : Type 0} (P : A → Type 0) (xs ys : List A) → All P (xs ++ ys) → All P xs
front_all P [] ys h = All-nil P
front_all P (x ∷ xs) ys h = All-cons P x xs (All-head P x (xs ++ ys) h) (front_all P xs ys (All-tail P x (xs ++ ys) h))

-- what was put among bytes are bytes
pub put_are : (bytes : List ℕ) (at : ℕ) (chunk : List ℕ) → AreWrittenBytes (put_at bytes at chunk) → AreWrittenBytes chunk
put_are bytes at chunk h = front_all (λ b. b < 256) chunk (drop (at + length chunk) bytes) (behind_all (λ b. b < 256) (take at bytes) (chunk ++ drop (at + length chunk) bytes) h)

-- ---- the rules of imports

module _ (k : Known) (func : ℕ) (args : List CoreValue) (before : MachineState) where
  pub realloc_refused : (n : ℕ) (wide dest : Bool) → MustRefuse k n dest (memory_at before n) (ask args) → ReallocsIn k n wide dest (event_of func args before Traps) k
  realloc_refused n wide dest must = refuses (MustRefuse k n dest (memory_at before n) (ask args)) _ k k func args before must

  pub realloc_given : (n : ℕ) (wide dest : Bool) → (MustRefuse k n dest (memory_at before n) (ask args) → ⊥) → IsValue (address_operand wide (given_at k n (ask args))) (address wide)
      → ReallocsIn k n wide dest (event_of func args before (Returns (address_operand wide (given_at k n (ask args)) ∷ []) (with_memory_at before n (bytes_after_region k n (ask args) (memory_at before n))))) (after_region k n (ask args))
  realloc_given n wide dest refuted typed =
      let Leave : LeavesKnown = λ after rs j. (after ≡ with_memory_at before n (bytes_after_region k n (ask args) (memory_at before n))) × AreOfCoreTypes (address wide ∷ []) rs × (rs ≡ address_operand wide (given_at k n (ask args)) ∷ []) × (j ≡ after_region k n (ask args)) in
      gives (MustRefuse k n dest (memory_at before n) (ask args)) Leave k (after_region k n (ask args)) func args (address_operand wide (given_at k n (ask args)) ∷ []) before (with_memory_at before n (bytes_after_region k n (ask args) (memory_at before n))) refuted
      (refl, (typed, tt), refl, refl)

  module _ (o : Transcode) (from : ℕ) (from64 : Bool) (to : ℕ) (to64 : Bool) where
    pub transcoder_stops : MustStop o (memory_at before from) (memory_at before to) (told_of (event_of func args before Traps)) → TranscodesBy k o from from64 to to64 (event_of func args before Traps) k
    transcoder_stops must = refuses (MustStop o (memory_at before from) (memory_at before to) (told_of (event_of func args before Traps))) _ k k func args before must

    pub transcoder_goes : (bytes : List ℕ) (rs : List CoreValue) → (MustStop o (memory_at before from) (memory_at before to) (told_of (event_of func args before Traps)) → ⊥)
        → IsHonestlyMade o (memory_at before from) (memory_at before to) (told_of (event_of func args before Traps)) bytes (map bits_of rs) → AreWrittenBytes bytes → AreOfCoreTypes (transcode_types (transcode_kind o) from64 to64) rs
        → TranscodesBy k o from from64 to to64 (event_of func args before (Returns rs (with_memory_at before to (put_at (memory_at before to) (nth_number args 2) bytes)))) k
    transcoder_goes bytes rs refuted made are core =
        let Leave : LeavesKnown = λ after vs j. (bs : List ℕ) × IsHonestlyMade o (memory_at before from) (memory_at before to) (told_of (event_of func args before Traps)) bs (map bits_of vs) × AreWrittenBytes bs × AreOfCoreTypes (transcode_types (transcode_kind o) from64 to64) vs × (after ≡ with_memory_at before to (put_at (memory_at before to) (nth_number args 2) bs)) × (j ≡ k) in
        gives (MustStop o (memory_at before from) (memory_at before to) (told_of (event_of func args before Traps))) Leave k k func args rs before (with_memory_at before to (put_at (memory_at before to) (nth_number args 2) bytes)) refuted
        (bytes, made, are, core, refl, refl)

  module _ (c : HostCall) (s : CallShapes) (values : List Value) where
    pub callee_refused : (has_room : Bool) → (has_room ≡ false → MayLackRoom k c s.lift_results s.lower_results (Some values) (event_of func args before Traps)) → MustNotCall k c s.lift_params has_room (event_of func args before Traps)
        → CallsBy k c s (Some values) (event_of func args before Traps) k
    callee_refused has_room lacks must = record { has_room = has_room; lacks_room = lacks; answers = refuses (MustNotCall k c s.lift_params has_room (event_of func args before Traps)) _ k k func args before must }

    pub callee_gives : (k' : Known) (rs : List CoreValue) (after : MachineState) → (k.returned ≡ true → ⊥) → (params_of c s.lift_params (event_of func args before Traps) ≡ None → ⊥)
        → AreOfCoreTypes (sync_lift c.lift.abi.memory64 s.lift_params s.lift_results).results rs → StoresResults k c s.lift_results s.lower_results values before after rs k' → CallsBy k c s (Some values) (event_of func args before (Returns rs after)) k'
    callee_gives k' rs after once there core stores =
        let Leave : LeavesKnown = λ st vs j. (us : List Value) × (Some values ≡ Some us) × AreOfCoreTypes (sync_lift c.lift.abi.memory64 s.lift_params s.lift_results).results vs × StoresResults k c s.lift_results s.lower_results us before st vs j in
        record {
          has_room = true;
          lacks_room = λ q. absurd (true≢false q);
          answers = gives (MustNotCall k c s.lift_params true (event_of func args before (Returns rs after))) Leave k k' func args rs before after refuted (values, refl, core, stores);
        }
      where
        refuted : MustNotCall k c s.lift_params true (event_of func args before (Returns rs after)) → ⊥
        refuted (Again q) = once q
        refuted (NoParams q) = there q
        refuted (NoRoomForResults q) = true≢false q
