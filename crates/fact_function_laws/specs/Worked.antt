-- Worked modules, each with a run of its adapter's function that meets all that the promise on runs asks of one (`Behaves`), so that the
-- promise says something of it.
use Rattle.std.specs.Prelude.{◌≡◌, ℕ, ◌+◌, ◌*◌, ◌≤◌, true, false, List, [], ◌∷◌, None, codes}
use Rattle.fact_binary.specs.Spelling.{spelling}
use Rattle.fact_wasm.specs.declared.instr.BlockType.TheVariants.{Empty}
use Rattle.fact_wasm.specs.declared.instr.FuncName.TheVariants as func
use Rattle.fact_wasm.specs.declared.instr.Instr.{Instr}
use Rattle.fact_wasm.specs.declared.instr.Instr.TheVariants as I
use Rattle.fact_wasm.specs.declared.module.ImportType.TheVariants as wasm
use Rattle.fact_wasm.specs.declared.module.WasmModule.{WasmModule}
use Rattle.fact_wasm.specs.declared.types.FuncType.{FuncType}
use Rattle.fact_wasm.specs.declared.types.ValType.TheVariants as val
use Rattle.fact_machine.specs.declared.types.Answer.{Answer}
use Rattle.fact_machine.specs.declared.types.Answer.TheVariants.{Returns}
use Rattle.fact_machine.specs.declared.types.CoreValue.{CoreValue}
use Rattle.fact_machine.specs.declared.types.CoreValue.TheVariants.{I32}
use Rattle.fact_machine.specs.declared.types.End.TheVariants.{Returned, Going}
use Rattle.fact_machine.specs.declared.types.MachineState.{MachineState}
use Rattle.fact_machine.specs.Machine.{run_of}
use Rattle.fact_types.specs.declared.import.Import.{Import}
use Rattle.fact_types.specs.declared.import.Import.TheVariants as known
use Rattle.fact_types.specs.declared.interface.InterfaceType.TheVariants as ty
use Rattle.fact_types.specs.declared.outside.CoreDef.TheVariants as def
use Rattle.fact_types.specs.declared.outside.StringEncoding.TheVariants as string
use Rattle.fact_types.specs.declared.outside.Trap.TheVariants.{CannotLeaveComponent}
use Rattle.fact_types.specs.Adapters.{Side, LinkedAdapter}
use Rattle.fact_types.specs.Shapes.{s_plain}
use Rattle.fact_actions.specs.Adapters.{AdapterTunables}
use Rattle.fact_actions.specs.Running.{Call}
use Rattle.fact_action_laws.specs.Faithful.{IsInLimits, whole_weight}
use Rattle.fact_action_laws.specs.PassingChecks.{PassChecks}
use Rattle.fact_emit.specs.ImportSection.{NamesImports}
use Rattle.fact_emit.specs.States.{import_as, export_as}
use Rattle.fact_function_laws.specs.Names.{places_in, AreCalls}
use Rattle.fact_function_laws.specs.Runs.{IsHonestSoFar}

-- A run of the one adapter of a module, whose function is the first that the module defines. The module names its imports. At each number of
-- steps all answers are honest, the caller may leave, and the values exist within limits and are as debug checks ask. After so many steps the
-- run goes on, and one more brings it to its return, with these calls and values of this weight; that is within the bound on steps.
pub record IsWorkedRun (m : WasmModule) (is : List Import) (a : LinkedAdapter) (args : List CoreValue) (before : MachineState) (answers : List Answer) (steps : ℕ) (calls : List Call) (weight : ℕ) : Type 0 where
  pub names : NamesImports m is (a ∷ [])
  pub honest : (steps : ℕ) → IsHonestSoFar m is a args before (run_of m 0 args before answers steps).log
  pub checks : (u : AdapterTunables) → (steps : ℕ) → PassChecks u a args (honest steps).calls
  pub limits : (steps : ℕ) → IsInLimits (places_in m is) a args before (honest steps).calls
  pub going : (run_of m 0 args before answers steps).end ≡ Going
  pub returned : (run_of m 0 args before answers (steps + 1)).end ≡ Returned []
  pub are_calls : AreCalls m is (run_of m 0 args before answers (steps + 1)).log calls
  pub weighs : whole_weight (places_in m is) a args before calls ≡ weight
  pub bound : steps + 1 ≤ 1000 * (weight + 1)

-- ---- one u32, from instance 0 to instance 1

abbrev pub takes_i32 : FuncType
takes_i32 = record { params = val.I32 ∷ []; results = [] }

abbrev pub u32_side : (instance : ℕ) → Side
u32_side n = record {
  instance = n;
  params = s_plain ty.U32 ∷ [];
  results = [];
  async_type = false;
  core_type = takes_i32;
  encoding = string.Utf8;
  async_side = false;
  memory = None;
  realloc = None;
  callback = None;
  post_return = None;
}

abbrev pub u32_adapter : LinkedAdapter
u32_adapter = record { name = codes "one-u32"; callee = def.Export (record { table = _; number = 1 }) (codes "run"); transparent = false; lift = u32_side 1; lower = u32_side 0 }

-- the flags of both instances, the callee, and the trap of a caller that may not be left
abbrev pub u32_imports : List Import
u32_imports =
    known.CoreDef (def.InstanceFlags (record { table = _; number = 1 })) ∷ known.CoreDef (def.InstanceFlags (record { table = _; number = 0 }))
    ∷ known.CoreDef u32_adapter.callee ∷ known.Trap CannotLeaveComponent ∷ []

-- it traps where the lower side's flags are 0, which stay in a local
abbrev pub u32_test : List Instr
u32_test = I.GlobalGet 1 ∷ I.LocalTee 1 ∷ I.BrIf 0 ∷ I.Call (func.Import 1) ∷ I.Unreachable ∷ []

-- the parameter is moved while the lift side's flags are 0, and results, of which there are none, while the lower side's are
abbrev pub u32_code : List Instr
u32_code =
    I.Block Empty u32_test
    ∷ I.GlobalGet 0 ∷ I.LocalSet 2 ∷ I.I32Const 0 ∷ I.GlobalSet 0 ∷ I.LocalGet 0 ∷ I.LocalGet 2 ∷ I.GlobalSet 0
    ∷ I.Call (func.Import 0)
    ∷ I.I32Const 0 ∷ I.GlobalSet 1 ∷ I.LocalGet 1 ∷ I.GlobalSet 1
    ∷ []

abbrev pub u32_module : WasmModule
u32_module = record {
  types = takes_i32 ∷ record { params = []; results = [] } ∷ [];
  imports =
      import_as (codes "flags") (codes "instance1") (wasm.Global val.I32 true) ∷ import_as (codes "flags") (codes "instance0") (wasm.Global val.I32 true)
      ∷ import_as (codes "callee") (codes "one-u32") (wasm.Func 0) ∷ import_as (codes "runtime") (codes "trap0") (wasm.Func 1) ∷ [];
  funcs = record { ty = 0; locals = (2, val.I32) ∷ []; body = u32_code } ∷ [];
  exports = export_as (codes "one-u32") (func.Defined 0) ∷ [];
}

-- the bytes that the command prints for such a plan
abbrev pub u32_bytes : List ℕ
u32_bytes =
    0x00 ∷ 0x61 ∷ 0x73 ∷ 0x6D ∷ 0x01 ∷ 0x00 ∷ 0x00 ∷ 0x00 ∷ 0x01 ∷ 0x08 ∷ 0x02 ∷ 0x60 ∷ 0x01 ∷ 0x7F ∷ 0x00 ∷ 0x60 ∷ 0x00 ∷ 0x00 ∷ 0x02 ∷ 0x48
    ∷ 0x04 ∷ 0x05 ∷ 0x66 ∷ 0x6C ∷ 0x61 ∷ 0x67 ∷ 0x73 ∷ 0x09 ∷ 0x69 ∷ 0x6E ∷ 0x73 ∷ 0x74 ∷ 0x61 ∷ 0x6E ∷ 0x63 ∷ 0x65 ∷ 0x31 ∷ 0x03 ∷ 0x7F ∷ 0x01
    ∷ 0x05 ∷ 0x66 ∷ 0x6C ∷ 0x61 ∷ 0x67 ∷ 0x73 ∷ 0x09 ∷ 0x69 ∷ 0x6E ∷ 0x73 ∷ 0x74 ∷ 0x61 ∷ 0x6E ∷ 0x63 ∷ 0x65 ∷ 0x30 ∷ 0x03 ∷ 0x7F ∷ 0x01 ∷ 0x06
    ∷ 0x63 ∷ 0x61 ∷ 0x6C ∷ 0x6C ∷ 0x65 ∷ 0x65 ∷ 0x07 ∷ 0x6F ∷ 0x6E ∷ 0x65 ∷ 0x2D ∷ 0x75 ∷ 0x33 ∷ 0x32 ∷ 0x00 ∷ 0x00 ∷ 0x07 ∷ 0x72 ∷ 0x75 ∷ 0x6E
    ∷ 0x74 ∷ 0x69 ∷ 0x6D ∷ 0x65 ∷ 0x05 ∷ 0x74 ∷ 0x72 ∷ 0x61 ∷ 0x70 ∷ 0x30 ∷ 0x00 ∷ 0x01 ∷ 0x03 ∷ 0x02 ∷ 0x01 ∷ 0x00 ∷ 0x07 ∷ 0x0B ∷ 0x01 ∷ 0x07
    ∷ 0x6F ∷ 0x6E ∷ 0x65 ∷ 0x2D ∷ 0x75 ∷ 0x33 ∷ 0x32 ∷ 0x00 ∷ 0x02 ∷ 0x0A ∷ 0x2A ∷ 0x01 ∷ 0x28 ∷ 0x01 ∷ 0x02 ∷ 0x7F ∷ 0x02 ∷ 0x40 ∷ 0x23 ∷ 0x01
    ∷ 0x22 ∷ 0x01 ∷ 0x0D ∷ 0x00 ∷ 0x10 ∷ 0x01 ∷ 0x00 ∷ 0x0B ∷ 0x23 ∷ 0x00 ∷ 0x21 ∷ 0x02 ∷ 0x41 ∷ 0x00 ∷ 0x24 ∷ 0x00 ∷ 0x20 ∷ 0x00 ∷ 0x20 ∷ 0x02
    ∷ 0x24 ∷ 0x00 ∷ 0x10 ∷ 0x00 ∷ 0x41 ∷ 0x00 ∷ 0x24 ∷ 0x01 ∷ 0x20 ∷ 0x01 ∷ 0x24 ∷ 0x01 ∷ 0x0B
    ∷ []

abbrev pub u32_args : List CoreValue
u32_args = I32 7 ∷ []

-- both instances may leave
abbrev pub u32_state : MachineState
u32_state = record { memories = []; globals = I32 1 ∷ I32 1 ∷ [] }

abbrev pub u32_answers : List Answer
u32_answers = Returns [] u32_state ∷ []

abbrev pub u32_calls : List Call
u32_calls = record { what = known.CoreDef u32_adapter.callee; args = u32_args; before = u32_state; answer = Returns [] u32_state } ∷ []

-- The worked module of one u32: its run takes 16 steps, and the bound for its one value is 2,000.
abbrev pub OneNumberArrives : Type 0
OneNumberArrives = IsWorkedRun u32_module u32_imports u32_adapter u32_args u32_state u32_answers 15 u32_calls 1

abbrev pub OneNumberIsSpelled : Type 0
OneNumberIsSpelled = spelling u32_module ≡ u32_bytes
