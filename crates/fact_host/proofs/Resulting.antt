-- What a callee answered is stored by the rules.
use Rattle.std.proofs.Common.{◌≡◌, ◌≢◌, ℕ, zero, suc, ◌+◌, ◌^◌, ◌<◌, ◌≤◌, inl, inr, true, false, List, [], ◌∷◌, Option, Some, None, refl, sym, ap, ◌∙◌, subst, arith, length, get_or}
use Rattle.std.specs.Prelude.{slice_set}
use Rattle.std.proofs.lemmas.Bool.{cases_lt, true≢false}
use Rattle.std.proofs.lemmas.List.{get_or-set_same}
use Rattle.fact_types.specs.Tables.{Tables}
use Rattle.fact_machine.specs.declared.types.Answer.{Answer}
use Rattle.fact_machine.specs.declared.types.Answer.TheVariants.{Returns, Traps}
use Rattle.fact_machine.specs.declared.types.CoreValue.{CoreValue}
use Rattle.fact_machine.specs.declared.types.MachineState.{MachineState}
use Rattle.fact_values.specs.declared.value.Value.{Value}
use Rattle.fact_values.specs.Tuples.{lift_result_values}
use Rattle.fact_lowering.specs.Lowered.{AreLowered, tuple_room}
use Rattle.fact_lowering.specs.Room.{room}
use Rattle.fact_lowering.specs.TextForms.{TupleIsByForm}
use Rattle.fact_lowering.specs.TupleSteps.{IsTupleLowerable}
use Rattle.fact_host.specs.declared.calling.HostCall.{HostCall}
use Rattle.fact_host.specs.declared.known.Known.{Known}
use Rattle.fact_host.specs.Contract.{AreOfTypes, HaveNeeds}
use Rattle.fact_host.specs.Describes.{HasCallShapes}
use Rattle.fact_host.specs.Hosts.{event_by, cursor_in, left_known, left_state}
use Rattle.fact_host.specs.Lawful.{IsAnswerOf, called_known}
use Rattle.fact_host.specs.Rules.{CallShapes, MayLackRoom, MustNotCall, Again, NoParams, NoRoomForResults, StoresAt, StoresResults, AreWrittenBytes, bytes_of_memory, memory_at, params_of, side_bytes, with_memory_at}
use Rattle.fact_host.proofs.Answering.{by_return, by_trap, returned_same}
use Rattle.fact_host.proofs.Hosting.{trap_stands}
use Rattle.fact_host.proofs.TupleRooms.{tuple_room_most, tuple_room_none}

-- ---- the memory that is left

none_left : (bytes : List ℕ) → length bytes ≡ 0 → bytes ≡ []
none_left [] h = refl
none_left (b ∷ bytes) h = absurd (omega (arith, h))

past_set : (ms : List (List ℕ)) (n : ℕ) (bytes : List ℕ) → length ms ≤ n → get_or (slice_set ms n bytes) n [] ≡ []
past_set [] n bytes le = refl
past_set (m ∷ ms) zero bytes le = absurd (omega (arith, le))
past_set (m ∷ ms) (suc n) bytes le = past_set ms n bytes (omega (arith, le))

past_get : (ms : List (List ℕ)) (n : ℕ) → length ms ≤ n → get_or ms n [] ≡ []
past_get [] n le = refl
past_get (m ∷ ms) zero le = absurd (omega (arith, le))
past_get (m ∷ ms) (suc n) le = past_get ms n (omega (arith, le))

pub left_at : (s : MachineState) (n : ℕ) (bytes : List ℕ) → length bytes ≡ length (memory_at s n) → memory_at (with_memory_at s n bytes) n ≡ bytes
left_at s n bytes same = elim (cases_lt n (length s.memories)) [
  | inl lt ↦ get_or-set_same s.memories n bytes [] lt
  | inr ge ↦ past_set s.memories n bytes ge ∙ sym (none_left bytes (same ∙ ap length (past_get s.memories n ge)))
]

pub left_bytes : (o : Option ℕ) (s : MachineState) (bytes : List ℕ) → length bytes ≡ length (bytes_of_memory o s) → bytes_of_memory o (left_state o s bytes) ≡ bytes
left_bytes None s bytes same = sym (none_left bytes same)
left_bytes (Some n) s bytes same = left_at s n bytes same

same_cursor : (o : Option ℕ) (k : Known) → cursor_in o (called_known k) ≡ cursor_in o k
same_cursor None k = refl
same_cursor (Some n) k = refl

moved : (P : MachineState → List CoreValue → Type 0) (rs vs : List CoreValue) (s t : MachineState) → Returns rs s ≡ Returns vs t → P s rs → P t vs
moved P rs vs s t e h = let b = returned_same rs vs s t e in subst (λ x. P x vs) b.1 (subst (λ x. P s x) b.0 h)

-- ---- values that can be stored

pub results_lowerable : (t : Tables) (c : HostCall) (s : CallShapes) (values : List Value) (cursor : ℕ) (bytes : List ℕ) → HasCallShapes t c s → AreOfTypes s.lift_results values → cursor ≤ length bytes → length bytes < 2 ^ 31
    → IsTupleLowerable t c.lift.abi c.lift.results values cursor bytes
results_lowerable t c s values cursor bytes shapes are inside short = record {
  shapes = s.lift_results;
  shaped = shapes.lift_results;
  are = are;
  can = record { inside = inside; short = short };
}

-- ---- values that were stored

module _ (k : Known) (c : HostCall) (s : CallShapes) (values : List Value) (before : MachineState) (waits : k.returned ≡ false) where
  returned_left : (o : Option ℕ) (cursor : ℕ) → (left_known o (called_known k) cursor).returned ≡ true
  returned_left None cursor = refl
  returned_left (Some n) cursor = refl

  stored_at : (o : Option ℕ) (cores : List CoreValue) (bytes : List ℕ) (cursor most : ℕ)
      → AreWrittenBytes bytes → AreLowered c.lift.abi 1 s.lift_results values cores (cursor_in o k) cursor (bytes_of_memory o before) bytes → tuple_room c.lift.abi 1 s.lift_results values ≤ most
      → StoresAt k (left_known o (called_known k) cursor) before (left_state o before bytes) most o
  stored_at None cores bytes cursor most are l le = (refl, refl)
  stored_at (Some n) cores bytes cursor most are l le =
      let up = l.rises.up in
      let few = l.rises.few in
      (bytes, cursor, refl, refl, are, l.same_length, l.kept, up, omega (arith, few, le), l.rises.inside)

  -- They were lowered.
  pub answer_taken : (cores : List CoreValue) (bytes : List ℕ) (low cursor : ℕ) (first : List ℕ) (answer : Answer) (k' : Known)
      → AreWrittenBytes bytes → low ≡ cursor_in c.lift.memory (called_known k) → first ≡ bytes_of_memory c.lift.memory before
      → AreLowered c.lift.abi 1 s.lift_results values cores low cursor first bytes
      → answer ≡ Returns cores (left_state c.lift.memory before bytes) → k' ≡ left_known c.lift.memory (called_known k) cursor
      → IsAnswerOf k c s values before answer k'
  answer_taken cores bytes low cursor first answer k' are at of given is known =
      let l : AreLowered c.lift.abi 1 s.lift_results values cores (cursor_in c.lift.memory k) cursor (bytes_of_memory c.lift.memory before) bytes =
      subst (λ z. AreLowered c.lift.abi 1 s.lift_results values cores z cursor (bytes_of_memory c.lift.memory before) bytes) (at ∙ same_cursor c.lift.memory k)
      (subst (λ z. AreLowered c.lift.abi 1 s.lift_results values cores low cursor z bytes) of given) in
      let after : MachineState = left_state c.lift.memory before bytes in
      let stands : side_bytes c.lift after ≡ bytes = left_bytes c.lift.memory before bytes l.same_length in
      let lifts : lift_result_values false c.lift.abi (side_bytes c.lift after) s.lift_results cores ≡ Some values = ap (λ z. lift_result_values false c.lift.abi z s.lift_results cores) stands ∙ l.stands in
      let forms : TupleIsByForm c.lift.abi (side_bytes c.lift after) 1 s.lift_results cores = subst (λ z. TupleIsByForm c.lift.abi z 1 s.lift_results cores) (sym stands) l.forms in
      let stored : StoresResults k c s.lift_results s.lower_results values before after cores k' = record {
        lifts = lifts;
        stored = subst (λ z. StoresAt k z before after (room s.lift_results s.lower_results values) c.lift.memory) (sym known) (stored_at c.lift.memory cores bytes cursor _ are l (tuple_room_most c.lift.abi 1 s.lift_results s.lower_results values));
      } in record {
        returned = ap (λ z. z.returned) known ∙ returned_left c.lift.memory cursor;
        ruled = λ func args some. record {
          has_room = true;
          lacks_room = λ q. absurd (true≢false q);
          answers = by_return k k' (event_by func args before answer) cores after is (never func args some) (values, refl, l.typed, stored);
        };
        stands = λ func args. (
          (λ results state callee q. moved (λ st vs. lift_result_values false c.lift.abi (side_bytes c.lift st) s.lift_results vs ≡ Some values) cores results after state (sym is ∙ q) lifts),
          (λ results state callee q. moved (λ st vs. TupleIsByForm c.lift.abi (side_bytes c.lift st) 1 s.lift_results vs) cores results after state (sym is ∙ q) forms),
        );
      }
    where
      never : (func : ℕ) (args : List CoreValue) → params_of c s.lift_params (event_by func args before answer) ≢ None → MustNotCall k c s.lift_params true (event_by func args before answer) → ⊥
      never func args some (Again r) = true≢false (sym r ∙ waits)
      never func args some (NoParams n) = some n
      never func args some (NoRoomForResults n) = true≢false n

  -- There was no room for them.
  pub answer_lacks : (low : ℕ) (first : List ℕ) (answer : Answer) (k' : Known) → low ≡ cursor_in c.lift.memory (called_known k) → first ≡ bytes_of_memory c.lift.memory before → HaveNeeds c s
      → length first < low + tuple_room c.lift.abi 1 s.lift_results values → answer ≡ Traps → k' ≡ called_known k → IsAnswerOf k c s values before answer k'
  answer_lacks low first answer k' at of needs less is known = record {
    returned = ap (λ z. z.returned) known;
    ruled = λ func args some. record {
      has_room = false;
      lacks_room = λ q. may func args c.lift.memory refl (at ∙ same_cursor c.lift.memory k) of;
      answers = by_trap k k' (event_by func args before answer) is (NoRoomForResults refl);
    };
    stands = λ func args. trap_stands c s (Some values) (event_by func args before answer) is;
  }
    where
      may : (func : ℕ) (args : List CoreValue) (o : Option ℕ) → c.lift.memory ≡ o → low ≡ cursor_in o k → first ≡ bytes_of_memory o before → MayLackRoom k c s.lift_results s.lower_results (Some values) (event_by func args before answer)
      may func args None e at' of' =
          let zero_room = tuple_room_none c.lift.abi 1 s.lift_results values (λ p. needs.lift_results p e) (λ p. needs.lift_results_behind p e) in
          let zero_first : length first ≡ 0 = ap length of' in
          absurd (omega (arith, less, zero_room, zero_first, at'))
      may func args (Some n) e at' of' =
          let long : length first ≡ length (memory_at before n) = ap length of' in
          let most = tuple_room_most c.lift.abi 1 s.lift_results s.lower_results values in
          record {
            values = values;
            is_answer = refl;
            memory = n;
            named = e;
            full = omega (arith, less, long, most, at');
          }
