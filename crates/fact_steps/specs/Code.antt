-- Shapes of the code of the steps of adapters.
use Rattle.std.specs.Prelude.{ℕ, Bool, true, false, List, [], ◌∷◌, ◌++◌, Option, Some, None}
use Rattle.fact_wasm.specs.declared.instr.FuncName.TheVariants as func
use Rattle.fact_wasm.specs.declared.instr.Instr.{Instr}
use Rattle.fact_wasm.specs.declared.instr.Instr.TheVariants as I
use Rattle.fact_code_laws.specs.Code.{guard_code}
use Rattle.fact_code_laws.specs.Context.{ContextSlots, read_slots_code, restore_code}
use Rattle.fact_code_laws.specs.Places.{Slot}

-- locals are pushed, the first one first
abbrev pub pushed_code : List Slot → List Instr
pushed_code [] = []
pushed_code (s ∷ ss) = I.LocalGet s.0 ∷ pushed_code ss

-- locals are set to values that were pushed so
abbrev pub popped_code : List Slot → List Instr
popped_code [] = []
popped_code (s ∷ ss) = popped_code ss ++ I.LocalSet s.0 ∷ []

-- ---- the flags of an instance

-- they are kept in a local
abbrev pub saved_code : (flags saved : ℕ) → List Instr
saved_code flags saved = I.GlobalGet flags ∷ I.LocalSet saved ∷ []

-- with a trap where they are 0
abbrev pub may_leave_code : (flags saved trap : ℕ) → List Instr
may_leave_code flags saved trap = guard_code (I.GlobalGet flags ∷ I.LocalTee saved ∷ []) trap

-- they are set to 0
abbrev pub zero_flags_code : (flags : ℕ) → List Instr
zero_flags_code flags = I.I32Const 0 ∷ I.GlobalSet flags ∷ []

-- kept in a local, they are 0 from then on
abbrev pub started_code : (flags saved : ℕ) → List Instr
started_code flags saved = saved_code flags saved ++ zero_flags_code flags

-- they are set to what a local holds
abbrev pub back_code : (flags saved : ℕ) → List Instr
back_code flags saved = I.LocalGet saved ∷ I.GlobalSet flags ∷ []

-- ---- calls

-- the callee called with what locals hold, once the flags are what a local holds, and its results in other locals
abbrev pub call_code : (core : List Slot) (flags saved callee : ℕ) (given : List Slot) → List Instr
call_code core flags saved callee given = pushed_code core ++ I.LocalGet saved ∷ I.GlobalSet flags ∷ I.Call (func.Import callee) ∷ popped_code given

-- the runtime is told that an instance is entered by a function whose type is not marked as async, and that it is left again
abbrev pub enter_code : (told : Bool) → (instance place : ℕ) → List Instr
enter_code false instance place = []
enter_code true instance place = I.I32Const 0 ∷ I.I32Const instance ∷ I.Call (func.Import place) ∷ []

abbrev pub exit_code : (told : Bool) → (place : ℕ) → List Instr
exit_code false place = []
exit_code true place = I.Call (func.Import place) ∷ []

-- The post-return is called with what the callee gave, in the context that the callee left, and the adapter's own context is set
-- back behind it.
abbrev pub finish_code : (context : Bool) → Option ℕ → (callee_slots own_slots : ContextSlots) → (given : List Slot) → List Instr
finish_code context None callee_slots own_slots given = []
finish_code context (Some place) callee_slots own_slots given =
    read_slots_code context own_slots ++ (restore_code context callee_slots ++ (pushed_code given ++ I.Call (func.Import place) ∷ restore_code context own_slots))
