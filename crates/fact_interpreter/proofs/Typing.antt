-- Values and their types, one by one.
use Rattle.std.proofs.Common.{◌≡◌, ◌<◌, ℕ, false, List, [], ◌∷◌, length, drop, refl, arith, length-drop}
use Rattle.fact_wasm.specs.declared.types.ValType.{ValType}
use Rattle.fact_machine.specs.declared.types.CoreValue.{CoreValue}
use Rattle.fact_machine.specs.Machine.{have_types}

some_untyped : (vs : List CoreValue) (ts : List ValType) → 0 < length vs → length ts < 1 → have_types vs ts ≡ false
some_untyped [] ts h k = absurd (omega arith)
some_untyped (v ∷ vs) [] h k = refl
some_untyped (v ∷ vs) (t ∷ ts) h k = absurd (omega arith)

-- a value is left, and no type
pub untyped : (i : ℕ) (vs : List CoreValue) (ts : List ValType) → i < length vs → length ts < 1 → have_types (drop i vs) ts ≡ false
untyped i vs ts h k = some_untyped (drop i vs) ts (omega (arith, length-drop i vs)) k
