-- What is said of the writes of a trace is said of those of a front.
use Rattle.std.proofs.Common.{◌≡◌, ℕ, List, [], ◌∷◌, ◌++◌, sym, subst, map}
use Rattle.fact_wasm.specs.declared.module.WasmModule.{WasmModule}
use Rattle.fact_machine.specs.declared.types.Event.{Event}
use Rattle.fact_machine.specs.declared.types.TraceEntry.{TraceEntry}
use Rattle.fact_machine.specs.declared.types.TraceEntry.TheVariants.{Called, Stored, GlobalSet}
use Rattle.fact_machine.specs.World.{calls}
use Rattle.fact_types.specs.declared.import.Import.{Import}
use Rattle.fact_actions.specs.Calls.{state_after}
use Rattle.fact_actions.specs.Confined.{AreOwnWrites, room_in}
use Rattle.fact_actions.specs.Laws.{call_event}
use Rattle.fact_actions.specs.Regions.{Position}
use Rattle.fact_actions.specs.Running.{Call}
use Rattle.fact_function_laws.specs.Names.{places_in, IsCall, AreCalls}
use Rattle.fact_function_laws.proofs.ImportNumbers.{call_is, places_name}

module _ (m : WasmModule) (is : List Import) (next : Call → Position → Position) where
  pub own_front : (x : Position) (room : ℕ) (es more : List TraceEntry) (cs : List Call) → calls (es ++ more) ≡ map (call_event (places_in m is)) cs
      → AreOwnWrites (places_in m is) next x room (es ++ more) cs → (ds : List Call) → AreCalls m is (calls es) ds → AreOwnWrites (places_in m is) next x room es ds
  own_front x room [] more cs e h [] are = tt
  own_front x room [] more cs e h (d ∷ ds) are = absurd are
  own_front x room (Stored memory address size value ∷ es) more cs e h ds are = (h.0, own_front x room es more cs e h.1 ds are)
  own_front x room (GlobalSet index value ∷ es) more cs e h ds are = own_front x room es more cs e h ds are
  own_front x room (Called event ∷ es) more [] e h ds are = absurd h
  own_front x room (Called event ∷ es) more (c ∷ cs) e h [] are = absurd are
  own_front x room (Called event ∷ es) more (c ∷ cs) e h (d ∷ ds) are =
      let here : event ≡ call_event (places_in m is) c = cc in
      let behind : calls (es ++ more) ≡ map (call_event (places_in m is)) cs = cc in
      let same : d ≡ c = call_is m is (places_in m is) (places_name m is) c d (subst (λ (v : Event). IsCall m is v d) here are.0) in
      subst (λ (k : Call). AreOwnWrites (places_in m is) next (next k x) (room_in (places_in m is) (next k x) (state_after k)) es ds) (sym same)
      (own_front (next c x) (room_in (places_in m is) (next c x) (state_after c)) es more cs behind h ds are.1)
