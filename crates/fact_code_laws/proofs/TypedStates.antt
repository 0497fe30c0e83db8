-- States and answers that are typed by the places of a module are those that are typed by the module.
use Rattle.std.proofs.Common.{◌≡◌, ◌↔◌, ℕ, ◌&&◌, List, Option, Some, None, sym, ap, ◌∙◌, slice_get}
use Rattle.std.specs.Prelude.{true, IsTrue}
use Rattle.std.specs.List.{filter_map}
use Rattle.std.proofs.lemmas.Bool.Decides.{Decides-at}
use Rattle.fact_wasm.specs.declared.types.ValType.{ValType}
use Rattle.fact_wasm.specs.declared.types.FuncType.{FuncType}
use Rattle.fact_wasm.specs.declared.module.WasmModule.{WasmModule}
use Rattle.fact_types.specs.declared.import.Import.{Import}
use Rattle.fact_machine.specs.declared.types.CoreValue.{CoreValue}
use Rattle.fact_machine.specs.declared.types.MachineState.{MachineState}
use Rattle.fact_machine.specs.declared.types.Answer.{Answer}
use Rattle.fact_machine.specs.declared.types.Answer.TheVariants.{Returns, Traps, Throws}
use Rattle.fact_machine.specs.Typed.{type_of_memory, type_of_import, TypedState, TypedAnswer, are_values, are_memories, are_globals, is_typed_state, are_results, is_grown, is_typed_answer}
use Rattle.fact_machine.proofs.TypedTests.{state_decided, answer_decided}
use Rattle.fact_actions.specs.Running.{ImportPlaces, Call, is_state, is_answer}
use Rattle.fact_actions.specs.TypedAnswers.{HasTypedAnswer}
use Rattle.fact_code_laws.specs.Knows.{KnowsFunction, ArePlacesOf}

same_state : (M : WasmModule) (p : ImportPlaces) (s : MachineState) → ArePlacesOf M p → is_state p s ≡ is_typed_state M s
same_state M p s h =
    ap (λ kinds. are_memories kinds s.memories && are_globals p.global_types s.globals) h.memories
    ∙ ap (λ types. are_memories (filter_map type_of_memory M.imports) s.memories && are_globals types s.globals) h.globals

same_results : {M : WasmModule} {p : ImportPlaces} {i : Import} {place : ℕ} {params ts : List ValType} (rs : List CoreValue) → KnowsFunction M p i place params ts → are_results (type_of_import M place) rs ≡ are_values rs ts
same_results {M} rs k = ap (λ t. are_results t rs) (ap (λ o. elim o as (λ (o : Option ℕ). Option FuncType) [ None ↦ None | Some t ↦ slice_get M.types t ]) k.imported ∙ k.type_is)

pub states_agree : (M : WasmModule) (p : ImportPlaces) (s : MachineState) → ArePlacesOf M p → IsTrue (is_state p s) ↔ TypedState M s
states_agree M p s h = Decides-at (is_state p s) (is_typed_state M s) (same_state M p s h) (state_decided M s)

pub answers_agree : (M : WasmModule) (p : ImportPlaces) (types : Import → List ValType) (c : Call) (place : ℕ) (params : List ValType)
    → ArePlacesOf M p → KnowsFunction M p c.what place params (types c.what) → HasTypedAnswer p types c ↔ TypedAnswer M place c.before c.answer
answers_agree M p types c place params h k = by_answer c.answer
  where
    by_answer : (a : Answer) → (elim a as (λ (x : Answer). Type 0) [ Returns rs state ↦ is_answer p (types c.what) c.before rs state ≡ true | Traps ↦ Unit {0} | Throws ↦ Unit {0} ]) ↔ TypedAnswer M place c.before a
    by_answer (Returns rs after) =
        Decides-at (is_answer p (types c.what) c.before rs after) (is_typed_answer M place c.before (Returns rs after))
        (ap (λ b. b && (is_state p after && is_grown c.before.memories after.memories)) (sym (same_results rs k))
        ∙ ap (λ b. are_results (type_of_import M place) rs && (b && is_grown c.before.memories after.memories)) (same_state M p after h))
        (answer_decided M place c.before (Returns rs after))
    by_answer Traps = (λ e. tt, λ e. tt)
    by_answer Throws = (λ e. tt, λ e. tt)
