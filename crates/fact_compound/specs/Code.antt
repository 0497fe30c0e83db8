-- Shapes of the code that whole adapters are made of.
use Rattle.std.specs.Prelude.{ℕ, Bool, List, ◌∷◌, ◌++◌, map, Option, Some, None}
use Rattle.fact_wasm.specs.declared.instr.Instr.{Instr}
use Rattle.fact_wasm.specs.declared.types.ValType.{ValType}
use Rattle.fact_wasm.specs.declared.instr.Instr.TheVariants as I
use Rattle.fact_code_laws.specs.Code.{barrier_code}
use Rattle.fact_code_laws.specs.Context.{ContextSlots, read_slots_code}
use Rattle.fact_code_laws.specs.Places.{Slot}
use Rattle.fact_steps.specs.Code.{back_code, call_code, enter_code, exit_code, finish_code, may_leave_code, pushed_code, started_code}

-- the types of slots
abbrev pub slot_types : List Slot → List ValType
slot_types ss = map (λ (s : Slot). s.1) ss

-- the flags are 0 meanwhile, and then what a local holds
abbrev pub cleared_code : (flags saved : ℕ) → List Instr → List Instr
cleared_code flags saved code = I.I32Const 0 ∷ I.GlobalSet flags ∷ (code ++ back_code flags saved)

-- what is thrown in a body goes to a trap, where that has a place
abbrev pub with_barrier : Option ℕ → List Instr → List Instr
with_barrier None code = code
with_barrier (Some place) code = barrier_code code place

-- ---- sync adapters

pub record SyncParts : Type 0 where
  pub lower_flags : ℕ
  pub lift_flags : ℕ
  pub may_leave : ℕ
  pub callee : ℕ
  pub saved : ℕ
  pub lift_saved : ℕ
  pub core : List Slot
  pub given : List Slot
  pub results : List Slot
  -- the runtime is told of the call of this instance
  pub told : Bool
  pub instance : ℕ
  pub enter : ℕ
  pub exit : ℕ
  -- the post-return, and whether the slots of the context are looked at around it
  pub post_return : Option ℕ
  pub context : Bool
  pub callee_slots : ContextSlots
  pub own_slots : ContextSlots
  -- the trap of the barrier
  pub uncaught : Option ℕ

-- The steps of a sync adapter: the lower side's flags are tested, the runtime is told of the call, the parameters are moved with the
-- lift side's flags at 0, the callee is called with the flags as they were, the context that it left is kept, the runtime is told
-- that it returned, its results are moved with the lower side's flags at 0, and its post-return is called. The results stay in locals.
abbrev pub call_steps_code : SyncParts → (params : List Instr) → List Instr
call_steps_code s params =
    may_leave_code s.lower_flags s.saved s.may_leave ++ (enter_code s.told s.instance s.enter ++ (started_code s.lift_flags s.lift_saved ++ (params ++ call_code s.core s.lift_flags s.lift_saved s.callee s.given)))

abbrev pub return_steps_code : SyncParts → (results : List Instr) → List Instr
return_steps_code s results =
    read_slots_code s.context s.callee_slots ++ (exit_code s.told s.exit ++ (cleared_code s.lower_flags s.saved results ++ finish_code s.context s.post_return s.callee_slots s.own_slots s.given))

abbrev pub steps_code : SyncParts → (params results : List Instr) → List Instr
steps_code s params results =
    may_leave_code s.lower_flags s.saved s.may_leave ++ (enter_code s.told s.instance s.enter ++ (started_code s.lift_flags s.lift_saved ++ (params ++
    (call_code s.core s.lift_flags s.lift_saved s.callee s.given ++ (read_slots_code s.context s.callee_slots ++ (exit_code s.told s.exit ++
    (cleared_code s.lower_flags s.saved results ++ finish_code s.context s.post_return s.callee_slots s.own_slots s.given)))))))

-- the steps, in a barrier where exceptions are on, and the results on the stack
abbrev pub sync_code : SyncParts → (params results : List Instr) → List Instr
sync_code s params results = with_barrier s.uncaught (steps_code s params results) ++ pushed_code s.results
