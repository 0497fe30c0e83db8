-- Locals that hold addresses of a side's memory.
use Rattle.std.proofs.Common.{◌≡◌, ℕ, ◌^◌, ◌<◌, Bool, true, false, List, [], ◌∷◌, ◌++◌, Some, refl, sym, ap, ◌∙◌, subst, slice_get}
use Rattle.std.proofs.lemmas.Bool.{ltb-true}
use Rattle.fact_wasm.specs.declared.types.ValType.{ValType}
use Rattle.fact_types.specs.Signatures.{address}
use Rattle.fact_machine.specs.declared.types.CoreValue.{CoreValue}
use Rattle.fact_machine.specs.declared.types.CoreValue.TheVariants.{I32, I64, F32, F64, Func}
use Rattle.fact_machine.specs.Typed.{is_value}
use Rattle.fact_machine.specs.Typing.{address_bits, address_type, address_operand}
use Rattle.fact_values.specs.Lift.{bits_of}
use Rattle.fact_actions.specs.Adapters.{last_bits}
use Rattle.fact_actions.specs.Sides.{first_bits}
use Rattle.fact_code_laws.specs.Does.{Locals}
use Rattle.fact_code_laws.specs.Places.{Slot, AreHeld, AreLocals, AreUsed}
use Rattle.fact_compound.specs.Passing.{last_local}
use Rattle.fact_compound.proofs.ResultMoves.{Pointed}
use Rattle.fact_compound.proofs.SyncSteps.{slot_types}

-- a value of the type of addresses is one
value_address : (m : Bool) (v : CoreValue) → is_value v (address m) ≡ true → (v ≡ address_operand m (bits_of v)) × (bits_of v < 2 ^ address_bits m)
value_address false (I32 n) h = (refl, ltb-true n (2 ^ 32) h)
value_address true (I64 n) h = (refl, ltb-true n (2 ^ 64) h)
value_address false (I64 n) h = cc
value_address false (F32 n) h = cc
value_address false (F64 n) h = cc
value_address false (Func f) h = cc
value_address true (I32 n) h = cc
value_address true (F32 n) h = cc
value_address true (F64 n) h = cc
value_address true (Func f) h = cc

type_address : (m : Bool) → address m ≡ address_type m
type_address true = refl
type_address false = refl

-- the one local of an address has its type
pub pointed_local : (m : Bool) (locals : List ValType) (ss : List Slot) → slot_types ss ≡ address m ∷ [] → AreLocals locals ss → slice_get locals (last_local ss) ≡ Some (address_type m)
pointed_local m locals [] e l = cc
pointed_local m locals (s ∷ t ∷ ss) e l = cc
pointed_local m locals (s ∷ []) e l = let is : s.1 ≡ address m = cc in l.0 ∙ ap (λ t. Some t) (is ∙ type_address m)

-- and holds an address
pub pointed : (m : Bool) (locals : List ValType) (kept : ℕ → Bool) (ls : Locals) (ss : List Slot) (vs : List CoreValue) → slot_types ss ≡ address m ∷ [] → AreLocals locals ss → AreUsed kept ss → AreHeld ls ss vs → Pointed m locals kept ls (last_local ss) (first_bits vs)
pointed m locals kept ls [] vs e l u h = cc
pointed m locals kept ls (s ∷ t ∷ ss) vs e l u h = cc
pointed m locals kept ls (s ∷ []) [] e l u h = absurd h
pointed m locals kept ls (s ∷ []) (v ∷ w ∷ vs) e l u h = absurd h.1
pointed m locals kept ls (s ∷ []) (v ∷ []) e l u h =
    let is : s.1 ≡ address m = cc in
    let x = value_address m v (subst (λ t. is_value v t ≡ true) is h.0.value) in
    record { local = l.0 ∙ ap (λ t. Some t) (is ∙ type_address m); used = u.0; there = h.0.there ∙ ap (λ v. Some (Some v)) x.0; below = x.1 }

-- the last of several
pub last_slot : (xs ys : List Slot) (t : ValType) → slot_types ys ≡ t ∷ [] → last_local (xs ++ ys) ≡ last_local ys
last_slot [] ys t e = refl
last_slot (x ∷ []) [] t e = cc
last_slot (x ∷ []) (y ∷ ys) t e = refl
last_slot (x ∷ z ∷ xs) ys t e = last_slot (z ∷ xs) ys t e

pub last_value : (us vs : List CoreValue) (v : CoreValue) → vs ≡ v ∷ [] → last_bits (us ++ vs) ≡ first_bits vs
last_value [] vs v e = ap last_bits e ∙ sym (ap first_bits e)
last_value (u ∷ []) vs v e = ap (λ vs. last_bits (u ∷ vs)) e ∙ sym (ap first_bits e)
last_value (u ∷ w ∷ us) vs v e = last_value (w ∷ us) vs v e
