-- Slots of locals: what they hold, split and put together.
use Rattle.std.proofs.Common.{◌≡◌, ℕ, suc, ◌≤◌, Bool, true, List, [], ◌∷◌, ◌++◌, Some, refl, sym, ap, ◌∙◌, arith, length, map}
use Rattle.fact_wasm.specs.declared.types.ValType.{ValType}
use Rattle.fact_types.specs.declared.flats.FlatType.{FlatType}
use Rattle.fact_types.specs.Flat.{value_type}
use Rattle.fact_machine.specs.declared.types.CoreValue.{CoreValue}
use Rattle.fact_code_laws.specs.Does.{Locals, held_types}
use Rattle.fact_code_laws.specs.Places.{Slot, AreHeld, AreFree, AreLocals, KeepsLocals}
use Rattle.fact_emit.specs.Fitting.{SlotsFit}
use Rattle.fact_compound.proofs.Flats.{slots_room}
use Rattle.fact_compound.proofs.SyncSteps.{slot_types, AreUnused}

-- what is held in slots one behind the other
pub record HeldParts (ls : Locals) (xs ys : List Slot) (vs : List CoreValue) : Type 0 where
  pub front : List CoreValue
  pub rest : List CoreValue
  pub all : vs ≡ front ++ rest
  pub in_front : AreHeld ls xs front
  pub in_rest : AreHeld ls ys rest
  pub long : length front ≡ length xs

pub held_parts : (ls : Locals) (xs ys : List Slot) (vs : List CoreValue) → AreHeld ls (xs ++ ys) vs → HeldParts ls xs ys vs
held_parts ls [] ys vs h = record { front = []; rest = vs; all = refl; in_front = tt; in_rest = h; long = refl }
held_parts ls (x ∷ xs) ys [] h = absurd h
held_parts ls (x ∷ xs) ys (v ∷ vs) h =
    let r = held_parts ls xs ys vs h.1 in
    record { front = v ∷ r.front; rest = r.rest; all = ap (λ us. v ∷ us) r.all; in_front = (h.0, r.in_front); in_rest = r.in_rest; long = ap suc r.long }

-- locals that are not kept may be changed
pub slots_free : (used : ℕ → Bool) (ls : Locals) (ss : List Slot) (ts : List ValType) → slot_types ss ≡ ts → AreLocals (held_types ls) ss → AreUnused used ss → AreFree used ls ss ts
slots_free used ls [] [] e l u = tt
slots_free used ls [] (t ∷ ts) e l u = cc
slots_free used ls (s ∷ ss) [] e l u = cc
slots_free used ls (s ∷ ss) (t ∷ ts) e l u =
    let here : s.1 ≡ t = cc in
    let rest : slot_types ss ≡ ts = cc in
    (here, l.0 ∙ ap (λ t. Some t) here, u.0, slots_free used ls ss ts rest l.1 u.1)

pub slots_long : (ss : List Slot) → length (slot_types ss) ≡ length ss
slots_long [] = refl
slots_long (s ∷ ss) = ap suc (slots_long ss)

pub values_long : (fs : List FlatType) → length (map value_type fs) ≡ length fs
values_long [] = refl
values_long (f ∷ fs) = ap suc (values_long fs)

-- slots of flat values have room for them
pub flats_fit : (locals : List ValType) (ss : List Slot) (fs : List FlatType) → slot_types ss ≡ map value_type fs → AreLocals locals ss → length fs ≤ 16 → SlotsFit locals ss fs
flats_fit locals ss fs e l few =
    let long : length ss ≡ length fs = sym (slots_long ss) ∙ ap length e ∙ values_long fs in
    record { room = slots_room ss fs e; typed = l; few = omega (arith, long, few) }

-- fewer locals are kept
pub keeps_less : {used more : ℕ → Bool} {ls ls' : Locals} → ((i : ℕ) → used i ≡ true → more i ≡ true) → KeepsLocals more ls ls' → KeepsLocals used ls ls'
keeps_less h k = record { same = λ i u. k.same i (h i u); types = k.types }
