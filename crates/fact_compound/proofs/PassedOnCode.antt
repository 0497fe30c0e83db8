-- Parameters that are handed on as they are need no code.
use Rattle.std.proofs.Common.{◌≡◌, ℕ, zero, suc, ◌≤◌, Bool, true, false, List, [], ◌∷◌, ◌++◌, Some, refl, sym, ap, ◌∙◌, subst, arith, length, map}
use Rattle.std.specs.List.{list_all}
use Rattle.fact_wasm.specs.declared.types.ValType.{ValType}
use Rattle.fact_wasm.specs.declared.instr.Instr.{Instr}
use Rattle.fact_wasm.specs.declared.module.WasmModule.{WasmModule}
use Rattle.fact_types.specs.Adapters.{LinkedAdapter, is_wide}
use Rattle.fact_types.specs.FlatShapes.{flat_members}
use Rattle.fact_types.specs.Flat.{value_type}
use Rattle.fact_types.specs.Shapes.{Shape, s_plain}
use Rattle.fact_types.specs.declared.interface.InterfaceType.{InterfaceType}
use Rattle.fact_types.specs.Signatures.{width, flat_values}
use Rattle.fact_types.specs.Tuples.{tuple_members}
use Rattle.fact_machine.specs.Typed.{are_values}
use Rattle.fact_machine.specs.declared.types.CoreValue.{CoreValue}
use Rattle.fact_machine.proofs.Tests.{both}
use Rattle.fact_actions.specs.Actions.{Action}
use Rattle.fact_actions.specs.Adapters.{AdapterTunables, move_params}
use Rattle.fact_actions.specs.Running.{ImportPlaces}
use Rattle.fact_code_laws.specs.Does.{Locals, Onward, Does}
use Rattle.fact_code_laws.specs.Places.{Slot, AreHeld, KeepsLocals}
use Rattle.fact_code_laws.proofs.Keeping.{keeps_all}
use Rattle.fact_code_laws.proofs.Rules.{done, visit}
use Rattle.fact_steps.specs.PassedOn.{ArePassedOn, is_passed_on}
use Rattle.fact_compound.specs.PassedOn.{visits, core_type_of}
use Rattle.fact_compound.proofs.Flats.{are_flat, flat_values_some}
use Rattle.fact_compound.proofs.PassedOnMoves.{flats_are, passed_on}
use Rattle.fact_compound.proofs.Slots.{held_parts, values_long}
use Rattle.fact_compound.proofs.SyncSteps.{slot_types}

-- what is held in slots has their types
held_values : (ls : Locals) (ss : List Slot) (vs : List CoreValue) → AreHeld ls ss vs → are_values vs (slot_types ss) ≡ true
held_values ls [] [] h = refl
held_values ls [] (v ∷ vs) h = absurd h
held_values ls (s ∷ ss) [] h = absurd h
held_values ls (s ∷ ss) (v ∷ vs) h = both h.0.value (held_values ls ss vs h.1)

visited : {A : Type 0} {M : WasmModule} {p : ImportPlaces} {ls : Locals} {c : List Instr} {q : Action A} {out : A → List CoreValue} {Holds : A → Locals → Type 0} (n : ℕ) → Does M p Onward 0 0 [] ls c q out Holds → Does M p Onward 0 0 [] ls c (visits n q) out Holds
visited zero d = d
visited (suc n) d = visit (omega arith) (visited n d)

-- the core types are the same on both sides
pub same_flats : (a : LinkedAdapter) {fs gs : List ValType} → ArePassedOn a.lower.params a.lift.params → flat_values (is_wide a.lower.memory) 16 a.lower.params ≡ Some fs → flat_values (is_wide a.lift.memory) 16 a.lift.params ≡ Some gs → fs ≡ gs
same_flats a {fs} {gs} x e f =
    (are_flat (is_wide a.lower.memory) 16 a.lower.params fs e).are ∙ ap (λ ss. map value_type (flat_members (width (is_wide a.lower.memory)) (tuple_members ss))) x.from_are ∙ flats_are (width (is_wide a.lower.memory)) 0 x.types x.all
    ∙ sym ((are_flat (is_wide a.lift.memory) 16 a.lift.params gs f).are ∙ ap (λ ss. map value_type (flat_members (width (is_wide a.lift.memory)) (tuple_members ss))) x.to_are ∙ flats_are (width (is_wide a.lift.memory)) 0 x.types x.all)

-- they are flat
types_long : (ts : List InterfaceType) → length (map core_type_of ts) ≡ length ts
types_long [] = refl
types_long (t ∷ ts) = ap suc (types_long ts)

pub passed_flat : (m : Bool) (ts : List InterfaceType) → list_all is_passed_on ts ≡ true → length ts ≤ 16 → (ss : List Shape) → ss ≡ map (λ t. s_plain t) ts → (fs : List ValType) × (flat_values m 16 ss ≡ Some fs)
passed_flat m ts all few ss is =
    let fs = flat_members (width m) (tuple_members ss) in
    let are : map value_type fs ≡ map core_type_of ts = ap (λ ss. map value_type (flat_members (width m) (tuple_members ss))) is ∙ flats_are (width m) 0 ts all in
    (map value_type fs, flat_values_some m 16 ss (omega (arith, sym (values_long fs) ∙ ap length are, types_long ts, few)) (omega arith))

-- The slots of the parameters hold what the move gives, and nothing is done.
pub passes_on : (u : AdapterTunables) (a : LinkedAdapter) {M : WasmModule} {p : ImportPlaces} (kept : ℕ → Bool) (ps rs : List Slot) (ls : Locals) (args : List CoreValue) {fs gs : List ValType} → a.lower.async_side ≡ false → ArePassedOn a.lower.params a.lift.params
    → flat_values (is_wide a.lower.memory) 16 a.lower.params ≡ Some fs → flat_values (is_wide a.lift.memory) 16 a.lift.params ≡ Some gs → slot_types ps ≡ fs → AreHeld ls (ps ++ rs) args
    → Does M p Onward 0 0 [] ls [] (move_params u a args) (λ vs. []) (λ vs ls'. AreHeld ls' ps vs × KeepsLocals kept ls ls')
passes_on u a {M} {p} kept ps rs ls args {fs} {gs} sync x e f types held =
    let parts = held_parts ls ps rs args held in
    let fs_are : fs ≡ map core_type_of x.types =
    (are_flat (is_wide a.lower.memory) 16 a.lower.params fs e).are ∙ ap (λ ss. map value_type (flat_members (width (is_wide a.lower.memory)) (tuple_members ss))) x.from_are ∙ flats_are (width (is_wide a.lower.memory)) 0 x.types x.all in
    let typed : are_values parts.front (map core_type_of x.types) ≡ true = ap (are_values parts.front) (sym (types ∙ fs_are)) ∙ held_values ls ps parts.front parts.in_front in
    subst (λ q. Does M p Onward 0 0 [] ls [] q (λ vs. []) (λ vs ls'. AreHeld ls' ps vs × KeepsLocals kept ls ls')) (sym (passed_on u a args parts.front parts.rest sync x e f parts.all typed))
    (visited (length x.types) (done refl (parts.in_front, keeps_all)))
