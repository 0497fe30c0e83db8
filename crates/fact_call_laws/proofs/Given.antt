-- What the sides of a call are in an adapter's terms: their memories, and the values that were given.
use Rattle.std.proofs.Common.{◌≡◌, ℕ, zero, suc, ◌≤◌, All, true, false, List, [], ◌∷◌, ◌++◌, Option, Some, None, refl, sym, ap, ◌∙◌, subst, arith, length, map, get_or, slice_get}
use Rattle.std.specs.Prelude.{option_map}
use Rattle.std.specs.Cmp.{first_so}
use Rattle.std.specs.List.{AllZip}
use Rattle.std.proofs.lemmas.Bool.{leb-true}
use Rattle.std.proofs.lemmas.List.Elements.{All-head, All-tail}
use Rattle.fact_types.specs.Adapters.{Side}
use Rattle.fact_types.specs.Shapes.{Shape}
use Rattle.fact_types.specs.Tables.{Tables}
use Rattle.fact_types.specs.Tuples.{tuple_members}
use Rattle.fact_types.specs.declared.outside.MemoryOption.{MemoryOption}
use Rattle.fact_wasm.specs.declared.module.WasmModule.{WasmModule}
use Rattle.fact_machine.specs.declared.types.Answer.{Answer}
use Rattle.fact_machine.specs.declared.types.Answer.TheVariants.{Returns, Traps, Throws}
use Rattle.fact_machine.specs.declared.types.CoreValue.{CoreValue}
use Rattle.fact_machine.specs.declared.types.Event.{Event}
use Rattle.fact_machine.specs.declared.types.MachineState.{MachineState}
use Rattle.fact_machine.specs.Lengths.{SeeLengths, lengths_behind, lengths_of}
use Rattle.fact_machine.specs.Typed.{IsValue, TypedAnswer, TypedState, are_values}
use Rattle.fact_machine.proofs.TypedTests.{values_decided}
use Rattle.fact_values.specs.declared.value.Value.{Value}
use Rattle.fact_values.specs.IsA.{AreMembers}
use Rattle.fact_values.specs.Tuples.{lift_param_values, lower_param_values}
use Rattle.fact_actions.specs.Adapters.{lower_signature_of}
use Rattle.fact_actions.specs.Calls.{side_memory}
use Rattle.fact_actions.specs.Running.{ImportPlaces, is_state}
use Rattle.fact_actions.specs.Sides.{options_of, side_abi}
use Rattle.fact_action_laws.specs.Faithful.{params_given}
use Rattle.fact_action_laws.specs.FaithfulLaws.{HasSyncSides}
use Rattle.fact_lowering.specs.Room.{fits, room}
use Rattle.fact_code_laws.proofs.TypedStates.{states_agree}
use Rattle.fact_host.specs.declared.calling.HostSide.{HostSide}
use Rattle.fact_host.specs.declared.known.Known.{Known}
use Rattle.fact_host.specs.Describes.{DescribesHostSide}
use Rattle.fact_host.specs.Rules.{bytes_of_memory, cursor_of, memory_at, side_bytes}
use Rattle.fact_function_laws.proofs.TypedCalls.{are_places}
use Rattle.fact_call_laws.proofs.Setting.{Called, Setting, lift_params_are, lower_params_are, places, typed_log}

-- ---- sides

-- the bytes of a side, by its description
pub side_is : (t : Tables) (p : ImportPlaces) (h : HostSide) (s : Side) → DescribesHostSide t h p s → (st : MachineState) → side_memory p (options_of s) st ≡ side_bytes h st
side_is t p h s d st = by s.memory d.memory
  where
    by : (o : Option MemoryOption) → option_map (λ m. p.memory m.def) o ≡ h.memory → (elim o as (λ (z : Option MemoryOption). List ℕ) [ None ↦ [] | Some m ↦ get_or st.memories (p.memory m.def) [] ]) ≡ bytes_of_memory h.memory st
    by None q = ap (λ z. bytes_of_memory z st) q
    by (Some m) q = ap (λ z. bytes_of_memory z st) q

-- and its width and encoding
pub abi_is : (t : Tables) (p : ImportPlaces) (h : HostSide) (s : Side) → DescribesHostSide t h p s → side_abi (options_of s) ≡ h.abi
abi_is t p h s d = λ k. record { memory64 = d.memory64 k; encoding = d.encoding k }

-- ---- memories

-- no memory is shorter than one before
longer_at : (before after : List (List ℕ)) (n : ℕ) → AllZip (λ old new. length old ≤ length new) before after → length (get_or before n []) ≤ length (get_or after n [])
longer_at [] [] n h = omega arith
longer_at [] (b ∷ after) n h = absurd h
longer_at (a ∷ before) [] n h = absurd h
longer_at (a ∷ before) (b ∷ after) zero h = h.0
longer_at (a ∷ before) (b ∷ after) (suc n) h = longer_at before after n h.1

length_at : (ms : List (List ℕ)) (n : ℕ) → length (get_or ms n []) ≡ get_or (map length ms) n 0
length_at [] n = refl
length_at (m ∷ ms) zero = refl
length_at (m ∷ ms) (suc n) = length_at ms n

-- a call sees memories that are as long as at first, or longer
pub see_longer : (m : WasmModule) (first : MachineState) (front : List Event) (e : Event) (n : ℕ) (lengths : List ℕ) → get_or (lengths_of first) n 0 ≤ get_or lengths n 0 → SeeLengths lengths (front ++ e ∷ [])
    → All (λ v. TypedAnswer m v.func v.before v.answer) (front ++ e ∷ []) → length (memory_at first n) ≤ length (memory_at e.before n)
see_longer m first [] e n lengths le see typed = omega (arith, le, length_at first.memories n, length_at e.before.memories n, ap (λ l. get_or l n 0) see.0)
see_longer m first (v ∷ front) e n lengths le see typed = see_longer m first front e n (lengths_behind lengths v.answer) (by v.answer (All-head (λ w. TypedAnswer m w.func w.before w.answer) v (front ++ e ∷ []) typed)) see.1 (All-tail (λ w. TypedAnswer m w.func w.before w.answer) v (front ++ e ∷ []) typed)
  where
    by : (ans : Answer) → TypedAnswer m v.func v.before ans → get_or (lengths_of first) n 0 ≤ get_or (lengths_behind lengths ans) n 0
    by (Returns results after) t = omega (arith, le, longer_at v.before.memories after.memories n t.2, length_at v.before.memories n, length_at after.memories n, ap (λ l. get_or l n 0) see.0)
    by Traps t = le
    by Throws t = le

-- ---- cursors at first

-- the cursor of a memory that is not the lower side's begins at 0
pub cursor_zero : (k : Known) (n : ℕ) → ((cursor : ℕ) → slice_get k.cursors n ≡ Some cursor → cursor ≡ 0) → cursor_of k n ≡ 0
cursor_zero k n h = by k.cursors n h
  where
    by : (l : List ℕ) (n : ℕ) → ((cursor : ℕ) → slice_get l n ≡ Some cursor → cursor ≡ 0) → get_or l n 0 ≡ 0
    by [] n h = refl
    by (i ∷ l) zero h = h i refl
    by (i ∷ l) (suc n) h = by l n h

-- ---- values

pub room_fits : (ts us : List Shape) (vs : List Value) → fits ts us vs ≡ true → room ts us vs ≤ 16384
room_fits ts us vs e = leb-true (room ts us vs) 16384 (first_so _ _ e)

module _ (x : Setting) (h : Called x) where
  pub sync_sides : HasSyncSides x.adapter
  sync_sides = record { lower = h.calls.lower.is_sync; lift = h.calls.lift.is_sync }

  pub state_typed : (s : MachineState) → TypedState x.code s → is_state (places x) s ≡ true
  state_typed s t = (states_agree x.code (places x) s (are_places x.code x.imports)).1 t

  pub args_typed : are_values h.outcome.args (lower_signature_of x.adapter).params ≡ true
  args_typed = (values_decided h.outcome.args (lower_signature_of x.adapter).params).1 (subst (λ ts. AllZip (λ v t. IsValue v t) h.outcome.args ts) h.promised.core_params (typed_log x h).arguments)

  -- the arguments
  pub given_is : params_given (places x) x.adapter h.outcome.args h.outcome.first ≡ Some x.values
  given_is =
      ap (λ b. lower_param_values b (side_abi (options_of x.adapter.lower)) (side_memory (places x) (options_of x.adapter.lower) h.outcome.first) x.adapter.lower.params h.outcome.args) h.calls.lower.is_sync
      ∙ ap (λ s. lower_param_values false s (side_memory (places x) (options_of x.adapter.lower) h.outcome.first) x.adapter.lower.params h.outcome.args) (abi_is x.types (places x) x.call.lower x.adapter.lower h.calls.lower)
      ∙ ap (λ l. lower_param_values false x.call.lower.abi l x.adapter.lower.params h.outcome.args) (side_is x.types (places x) x.call.lower x.adapter.lower h.calls.lower h.outcome.first)
      ∙ ap (λ ps. lower_param_values false x.call.lower.abi (side_bytes x.call.lower h.outcome.first) ps h.outcome.args) (lower_params_are x h)
      ∙ h.outcome.stored

  pub given_members : AreMembers (tuple_members x.adapter.lower.params) x.values
  given_members = subst (λ ps. AreMembers (tuple_members ps) x.values) (sym (lower_params_are x h)) h.suited.0

  pub given_room : room x.adapter.lower.params x.adapter.lift.params x.values ≤ 16384
  given_room =
      let e : room x.adapter.lower.params x.adapter.lift.params x.values ≡ room x.shapes.lower_params x.shapes.lift_params x.values =
      ap (λ ps. room ps x.adapter.lift.params x.values) (lower_params_are x h) ∙ ap (λ qs. room x.shapes.lower_params qs x.values) (lift_params_are x h) in
      omega (arith, e, room_fits x.shapes.lower_params x.shapes.lift_params x.values h.suited.1)

  -- what lifts in the terms of the adapter lifts in those of the call
  pub passed_so : (st : MachineState) (args : List CoreValue)
      → lift_param_values x.call.lift.abi (side_bytes x.call.lift st) x.shapes.lift_params args ≡ lift_param_values (side_abi (options_of x.adapter.lift)) (side_memory (places x) (options_of x.adapter.lift) st) x.adapter.lift.params args
  passed_so st args =
      sym (ap (λ s. lift_param_values s (side_memory (places x) (options_of x.adapter.lift) st) x.adapter.lift.params args) (abi_is x.types (places x) x.call.lift x.adapter.lift h.calls.lift)
      ∙ ap (λ l. lift_param_values x.call.lift.abi l x.adapter.lift.params args) (side_is x.types (places x) x.call.lift x.adapter.lift h.calls.lift st)
      ∙ ap (λ ps. lift_param_values x.call.lift.abi (side_bytes x.call.lift st) ps args) (lift_params_are x h))
