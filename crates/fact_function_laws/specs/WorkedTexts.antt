-- A worked module of an adapter that takes a list of texts, from UTF-8 to UTF-8, with a run of it that moves one text: what the promise on
-- runs asks of a run holds of it. Both memories have pages of one byte.
use Rattle.std.specs.Prelude.{◌≡◌, ℕ, true, false, List, [], ◌∷◌, Option, None, Some, codes}
use Rattle.fact_binary.specs.Spelling.{spelling}
use Rattle.fact_wasm.specs.declared.instr.BlockType.TheVariants.{Empty}
use Rattle.fact_wasm.specs.declared.instr.FuncName.TheVariants as func
use Rattle.fact_wasm.specs.declared.instr.Instr.{Instr}
use Rattle.fact_wasm.specs.declared.instr.Instr.TheVariants as I
use Rattle.fact_wasm.specs.declared.instr.MemArg.{MemArg}
use Rattle.fact_wasm.specs.declared.module.ImportType.TheVariants as wasm
use Rattle.fact_wasm.specs.declared.module.WasmModule.{WasmModule}
use Rattle.fact_wasm.specs.declared.types.FuncType.{FuncType}
use Rattle.fact_wasm.specs.declared.types.ValType.TheVariants as val
use Rattle.fact_machine.specs.declared.types.Answer.{Answer}
use Rattle.fact_machine.specs.declared.types.Answer.TheVariants.{Returns}
use Rattle.fact_machine.specs.declared.types.CoreValue.{CoreValue}
use Rattle.fact_machine.specs.declared.types.CoreValue.TheVariants.{I32}
use Rattle.fact_machine.specs.declared.types.MachineState.{MachineState}
use Rattle.fact_types.specs.declared.import.Import.{Import}
use Rattle.fact_types.specs.declared.import.Import.TheVariants as known
use Rattle.fact_types.specs.declared.interface.InterfaceType.TheVariants as ty
use Rattle.fact_types.specs.declared.outside.CoreDef.{CoreDef}
use Rattle.fact_types.specs.declared.outside.CoreDef.TheVariants as def
use Rattle.fact_types.specs.declared.outside.FixedEncoding.TheVariants.{Utf8}
use Rattle.fact_types.specs.declared.outside.StringEncoding.TheVariants as string
use Rattle.fact_types.specs.declared.outside.Transcode.TheVariants.{Copy}
use Rattle.fact_types.specs.declared.outside.Trap.TheVariants.{CannotLeaveComponent, ListOutOfBounds, StringOutOfBounds, UnalignedPointer}
use Rattle.fact_types.specs.Adapters.{Side, LinkedAdapter}
use Rattle.fact_types.specs.ImportTypes.{realloc_type, trap_type}
use Rattle.fact_types.specs.Shapes.{k_list, Shape, s_node, s_plain, no_members, typed}
use Rattle.fact_actions.specs.Running.{Call}
use Rattle.fact_emit.specs.States.{import_as, export_as}
use Rattle.fact_function_laws.specs.Worked.{IsWorkedRun}

-- ---- the adapter, from instance 0 to instance 1

abbrev pub list_of_texts : Shape
list_of_texts = s_node k_list (typed [] (s_plain ty.String) no_members)

abbrev pub pointer_and_length : FuncType
pointer_and_length = record { params = val.I32 ∷ val.I32 ∷ []; results = [] }

abbrev pub texts_export : (instance : ℕ) → (name : List ℕ) → CoreDef
texts_export n name = def.Export (record { table = _; number = n }) name

abbrev pub texts_side : (instance : ℕ) → (realloc : Option CoreDef) → Side
texts_side n realloc = record {
  instance = n;
  params = list_of_texts ∷ [];
  results = [];
  async_type = false;
  core_type = pointer_and_length;
  encoding = string.Utf8;
  async_side = false;
  memory = Some (record { def = texts_export n (codes "memory"); memory64 = false; shared = false; page_size_log2 = 0 });
  realloc = realloc;
  callback = None;
  post_return = None;
}

abbrev pub texts_realloc : CoreDef
texts_realloc = texts_export 1 (codes "realloc")

abbrev pub texts_callee : CoreDef
texts_callee = texts_export 1 (codes "run")

abbrev pub texts_adapter : LinkedAdapter
texts_adapter = record { name = codes "texts"; callee = texts_callee; transparent = false; lift = texts_side 1 (Some texts_realloc); lower = texts_side 0 None }

-- ---- its module

abbrev pub texts_transcoder : Import
texts_transcoder = known.Transcode (Copy Utf8) (texts_export 0 (codes "memory")) false (texts_export 1 (codes "memory")) false

abbrev pub texts_imports : List Import
texts_imports =
    known.CoreDef (def.InstanceFlags (record { table = _; number = 1 })) ∷ known.CoreDef (texts_export 1 (codes "memory")) ∷ known.CoreDef texts_realloc
    ∷ known.CoreDef (def.InstanceFlags (record { table = _; number = 0 })) ∷ known.CoreDef (texts_export 0 (codes "memory")) ∷ known.CoreDef texts_callee
    ∷ known.Trap CannotLeaveComponent ∷ known.Trap ListOutOfBounds ∷ known.Trap UnalignedPointer ∷ known.Trap StringOutOfBounds ∷ texts_transcoder ∷ []

abbrev pub place : (offset align memory : ℕ) → MemArg
place offset align memory = record { offset = offset; align = align; memory_index = memory }

-- Its code: tests, each with the trap where it fails, the turn of the loop over the list, in which a text is moved, and the whole.

abbrev pub texts_may_leave : List Instr
texts_may_leave =
    I.GlobalGet 1 ∷ I.LocalTee 2 ∷ I.BrIf 0 ∷ I.Call (func.Import 2) ∷ I.Unreachable ∷ []

abbrev pub texts_list_fits : List Instr
texts_list_fits =
    I.LocalGet 7 ∷ I.I64Const 536870912 ∷ I.I64LtU ∷ I.BrIf 0 ∷ I.Call (func.Import 3) ∷ I.Unreachable ∷ []

abbrev pub texts_list_aligned : List Instr
texts_list_aligned =
    I.LocalGet 6 ∷ I.I64Const 3 ∷ I.I64And ∷ I.I64Eqz ∷ I.BrIf 0 ∷ I.Call (func.Import 4) ∷ I.Unreachable ∷ []

abbrev pub texts_list_within : List Instr
texts_list_within =
    I.LocalGet 10 ∷ I.LocalGet 8 ∷ I.I64GeU ∷ I.LocalGet 10 ∷ I.LocalGet 8 ∷ I.I64Sub ∷ I.LocalGet 6 ∷ I.I64GeU ∷ I.I32And ∷ I.BrIf 0
    ∷ I.Call (func.Import 3) ∷ I.Unreachable ∷ []

abbrev pub texts_region_aligned : List Instr
texts_region_aligned =
    I.LocalGet 9 ∷ I.I64Const 3 ∷ I.I64And ∷ I.I64Eqz ∷ I.BrIf 0 ∷ I.Call (func.Import 4) ∷ I.Unreachable ∷ []

abbrev pub texts_region_within : List Instr
texts_region_within =
    I.LocalGet 10 ∷ I.LocalGet 8 ∷ I.I64GeU ∷ I.LocalGet 10 ∷ I.LocalGet 8 ∷ I.I64Sub ∷ I.LocalGet 9 ∷ I.I64GeU ∷ I.I32And ∷ I.BrIf 0
    ∷ I.Call (func.Import 3) ∷ I.Unreachable ∷ []

abbrev pub texts_text_within : List Instr
texts_text_within =
    I.LocalGet 23 ∷ I.LocalGet 21 ∷ I.I64GeU ∷ I.LocalGet 23 ∷ I.LocalGet 21 ∷ I.I64Sub ∷ I.LocalGet 16 ∷ I.I64GeU ∷ I.I32And ∷ I.BrIf 0
    ∷ I.Call (func.Import 5) ∷ I.Unreachable ∷ []

abbrev pub texts_text_fits : List Instr
texts_text_fits =
    I.LocalGet 17 ∷ I.I64Const 2147483648 ∷ I.I64LtU ∷ I.BrIf 0 ∷ I.Call (func.Import 5) ∷ I.Unreachable ∷ []

abbrev pub texts_text_region_within : List Instr
texts_text_region_within =
    I.LocalGet 23 ∷ I.LocalGet 21 ∷ I.I64GeU ∷ I.LocalGet 23 ∷ I.LocalGet 21 ∷ I.I64Sub ∷ I.LocalGet 19 ∷ I.I64GeU ∷ I.I32And ∷ I.BrIf 0
    ∷ I.Call (func.Import 5) ∷ I.Unreachable ∷ []

abbrev pub texts_turn : List Instr
texts_turn =
    I.LocalGet 11 ∷ I.I64Eqz ∷ I.BrIf 1 ∷ I.LocalGet 12 ∷ I.I32Load (place 0 2 1) ∷ I.I64ExtendI32U ∷ I.LocalSet 16 ∷ I.LocalGet 12
    ∷ I.I32Load (place 4 2 1) ∷ I.I64ExtendI32U ∷ I.LocalSet 17 ∷ I.LocalGet 17 ∷ I.I64Const 1 ∷ I.I64Mul ∷ I.I32WrapI64 ∷ I.I64ExtendI32U
    ∷ I.LocalSet 21 ∷ I.MemorySize 1 ∷ I.I64ExtendI32U ∷ I.I64Const 1 ∷ I.I64Mul ∷ I.LocalSet 23 ∷ I.Block Empty texts_text_within ∷ I.I64Const 0
    ∷ I.LocalSet 18 ∷ I.I64Const 0 ∷ I.LocalSet 19 ∷ I.I64Const 0 ∷ I.LocalSet 20 ∷ I.Block Empty texts_text_fits ∷ I.LocalGet 17 ∷ I.I64Const 0
    ∷ I.I64Mul ∷ I.I32WrapI64 ∷ I.I64ExtendI32U ∷ I.LocalSet 22 ∷ I.LocalGet 17 ∷ I.I64Const 1 ∷ I.I64Mul ∷ I.I32WrapI64 ∷ I.I64ExtendI32U
    ∷ I.LocalSet 21 ∷ I.LocalGet 19 ∷ I.I32WrapI64 ∷ I.LocalGet 22 ∷ I.I32WrapI64 ∷ I.I32Const 1 ∷ I.LocalGet 21 ∷ I.I32WrapI64
    ∷ I.Call (func.Import 0) ∷ I.I64ExtendI32U ∷ I.LocalSet 19 ∷ I.MemorySize 0 ∷ I.I64ExtendI32U ∷ I.I64Const 1 ∷ I.I64Mul ∷ I.LocalSet 23
    ∷ I.Block Empty texts_text_region_within ∷ I.LocalGet 16 ∷ I.I32WrapI64 ∷ I.LocalGet 17 ∷ I.I32WrapI64 ∷ I.LocalGet 19 ∷ I.I32WrapI64
    ∷ I.Call (func.Import 6) ∷ I.LocalGet 17 ∷ I.LocalSet 20 ∷ I.LocalGet 13 ∷ I.LocalGet 19 ∷ I.I32WrapI64 ∷ I.I32Store (place 0 2 0)
    ∷ I.LocalGet 13 ∷ I.LocalGet 20 ∷ I.I32WrapI64 ∷ I.I32Store (place 4 2 0) ∷ I.LocalGet 12 ∷ I.I32Const 8 ∷ I.I32Add ∷ I.LocalSet 12
    ∷ I.LocalGet 13 ∷ I.I32Const 8 ∷ I.I32Add ∷ I.LocalSet 13 ∷ I.LocalGet 11 ∷ I.I64Const 1 ∷ I.I64Sub ∷ I.LocalSet 11 ∷ I.Br 0 ∷ []

abbrev pub texts_turns : List Instr
texts_turns =
    I.Loop Empty texts_turn ∷ []

abbrev pub texts_code : List Instr
texts_code =
    I.Block Empty texts_may_leave ∷ I.GlobalGet 0 ∷ I.LocalSet 3 ∷ I.I32Const 0 ∷ I.GlobalSet 0 ∷ I.LocalGet 0 ∷ I.I64ExtendI32U ∷ I.LocalSet 6
    ∷ I.LocalGet 1 ∷ I.I64ExtendI32U ∷ I.LocalSet 7 ∷ I.Block Empty texts_list_fits ∷ I.Block Empty texts_list_fits ∷ I.LocalGet 7 ∷ I.I64Const 8
    ∷ I.I64Mul ∷ I.LocalSet 8 ∷ I.Block Empty texts_list_aligned ∷ I.MemorySize 1 ∷ I.I64ExtendI32U ∷ I.I64Const 1 ∷ I.I64Mul ∷ I.LocalSet 10
    ∷ I.Block Empty texts_list_within ∷ I.LocalGet 7 ∷ I.I64Const 8 ∷ I.I64Mul ∷ I.LocalSet 8 ∷ I.I32Const 0 ∷ I.I32Const 0 ∷ I.I32Const 4
    ∷ I.LocalGet 8 ∷ I.I32WrapI64 ∷ I.Call (func.Import 0) ∷ I.I64ExtendI32U ∷ I.LocalSet 9 ∷ I.Block Empty texts_region_aligned ∷ I.MemorySize 0
    ∷ I.I64ExtendI32U ∷ I.I64Const 1 ∷ I.I64Mul ∷ I.LocalSet 10 ∷ I.Block Empty texts_region_within ∷ I.LocalGet 6 ∷ I.I32WrapI64 ∷ I.LocalSet 12
    ∷ I.LocalGet 9 ∷ I.I32WrapI64 ∷ I.LocalSet 13 ∷ I.LocalGet 7 ∷ I.LocalSet 11 ∷ I.Block Empty texts_turns ∷ I.LocalGet 9 ∷ I.I32WrapI64
    ∷ I.LocalSet 4 ∷ I.LocalGet 7 ∷ I.I32WrapI64 ∷ I.LocalSet 5 ∷ I.LocalGet 4 ∷ I.LocalGet 5 ∷ I.LocalGet 3 ∷ I.GlobalSet 0 ∷ I.Call (func.Import 1)
    ∷ I.I32Const 0 ∷ I.GlobalSet 1 ∷ I.LocalGet 2 ∷ I.GlobalSet 1 ∷ []

-- the address, units and destination of a text
abbrev pub texts_transcoder_type : FuncType
texts_transcoder_type = record { params = val.I32 ∷ val.I32 ∷ val.I32 ∷ []; results = [] }

abbrev pub texts_module : WasmModule
texts_module = record {
  types = realloc_type false ∷ pointer_and_length ∷ trap_type ∷ texts_transcoder_type ∷ [];
  imports =
      import_as (codes "flags") (codes "instance1") (wasm.Global val.I32 true) ∷ import_as (codes "memory") (codes "m0") (wasm.Memory 0 false (Some 0))
      ∷ import_as (codes "realloc") (codes "f0") (wasm.Func 0)
      ∷ import_as (codes "flags") (codes "instance0") (wasm.Global val.I32 true) ∷ import_as (codes "memory") (codes "m1") (wasm.Memory 0 false (Some 0))
      ∷ import_as (codes "callee") (codes "texts") (wasm.Func 1)
      ∷ import_as (codes "runtime") (codes "trap0") (wasm.Func 2) ∷ import_as (codes "runtime") (codes "trap4") (wasm.Func 2)
      ∷ import_as (codes "runtime") (codes "trap5") (wasm.Func 2) ∷ import_as (codes "runtime") (codes "trap3") (wasm.Func 2)
      ∷ import_as (codes "transcode") (codes "utf8-to-utf8 (mem1 => mem0)") (wasm.Func 3) ∷ [];
  funcs = record { ty = 1; locals = (4, val.I32) ∷ (6, val.I64) ∷ (4, val.I32) ∷ (8, val.I64) ∷ (2, val.I32) ∷ []; body = texts_code } ∷ [];
  exports = export_as (codes "texts") (func.Defined 0) ∷ [];
}

-- the bytes that the command prints for such a plan
abbrev pub texts_bytes : List ℕ
texts_bytes =
    0x00 ∷ 0x61 ∷ 0x73 ∷ 0x6D ∷ 0x01 ∷ 0x00 ∷ 0x00 ∷ 0x00 ∷ 0x01 ∷ 0x17 ∷ 0x04 ∷ 0x60 ∷ 0x04 ∷ 0x7F ∷ 0x7F ∷ 0x7F ∷ 0x7F ∷ 0x01 ∷ 0x7F ∷ 0x60 ∷ 0x02 ∷ 0x7F ∷ 0x7F ∷ 0x00
    ∷ 0x60 ∷ 0x00 ∷ 0x00 ∷ 0x60 ∷ 0x03 ∷ 0x7F ∷ 0x7F ∷ 0x7F ∷ 0x00 ∷ 0x02 ∷ 0xC7 ∷ 0x01 ∷ 0x0B ∷ 0x05 ∷ 0x66 ∷ 0x6C ∷ 0x61 ∷ 0x67 ∷ 0x73 ∷ 0x09 ∷ 0x69 ∷ 0x6E ∷ 0x73 ∷ 0x74
    ∷ 0x61 ∷ 0x6E ∷ 0x63 ∷ 0x65 ∷ 0x31 ∷ 0x03 ∷ 0x7F ∷ 0x01 ∷ 0x06 ∷ 0x6D ∷ 0x65 ∷ 0x6D ∷ 0x6F ∷ 0x72 ∷ 0x79 ∷ 0x02 ∷ 0x6D ∷ 0x30 ∷ 0x02 ∷ 0x08 ∷ 0x00 ∷ 0x00 ∷ 0x07 ∷ 0x72
    ∷ 0x65 ∷ 0x61 ∷ 0x6C ∷ 0x6C ∷ 0x6F ∷ 0x63 ∷ 0x02 ∷ 0x66 ∷ 0x30 ∷ 0x00 ∷ 0x00 ∷ 0x05 ∷ 0x66 ∷ 0x6C ∷ 0x61 ∷ 0x67 ∷ 0x73 ∷ 0x09 ∷ 0x69 ∷ 0x6E ∷ 0x73 ∷ 0x74 ∷ 0x61 ∷ 0x6E
    ∷ 0x63 ∷ 0x65 ∷ 0x30 ∷ 0x03 ∷ 0x7F ∷ 0x01 ∷ 0x06 ∷ 0x6D ∷ 0x65 ∷ 0x6D ∷ 0x6F ∷ 0x72 ∷ 0x79 ∷ 0x02 ∷ 0x6D ∷ 0x31 ∷ 0x02 ∷ 0x08 ∷ 0x00 ∷ 0x00 ∷ 0x06 ∷ 0x63 ∷ 0x61 ∷ 0x6C
    ∷ 0x6C ∷ 0x65 ∷ 0x65 ∷ 0x05 ∷ 0x74 ∷ 0x65 ∷ 0x78 ∷ 0x74 ∷ 0x73 ∷ 0x00 ∷ 0x01 ∷ 0x07 ∷ 0x72 ∷ 0x75 ∷ 0x6E ∷ 0x74 ∷ 0x69 ∷ 0x6D ∷ 0x65 ∷ 0x05 ∷ 0x74 ∷ 0x72 ∷ 0x61 ∷ 0x70
    ∷ 0x30 ∷ 0x00 ∷ 0x02 ∷ 0x07 ∷ 0x72 ∷ 0x75 ∷ 0x6E ∷ 0x74 ∷ 0x69 ∷ 0x6D ∷ 0x65 ∷ 0x05 ∷ 0x74 ∷ 0x72 ∷ 0x61 ∷ 0x70 ∷ 0x34 ∷ 0x00 ∷ 0x02 ∷ 0x07 ∷ 0x72 ∷ 0x75 ∷ 0x6E ∷ 0x74
    ∷ 0x69 ∷ 0x6D ∷ 0x65 ∷ 0x05 ∷ 0x74 ∷ 0x72 ∷ 0x61 ∷ 0x70 ∷ 0x35 ∷ 0x00 ∷ 0x02 ∷ 0x07 ∷ 0x72 ∷ 0x75 ∷ 0x6E ∷ 0x74 ∷ 0x69 ∷ 0x6D ∷ 0x65 ∷ 0x05 ∷ 0x74 ∷ 0x72 ∷ 0x61 ∷ 0x70
    ∷ 0x33 ∷ 0x00 ∷ 0x02 ∷ 0x09 ∷ 0x74 ∷ 0x72 ∷ 0x61 ∷ 0x6E ∷ 0x73 ∷ 0x63 ∷ 0x6F ∷ 0x64 ∷ 0x65 ∷ 0x1B ∷ 0x75 ∷ 0x74 ∷ 0x66 ∷ 0x38 ∷ 0x2D ∷ 0x74 ∷ 0x6F ∷ 0x2D ∷ 0x75 ∷ 0x74
    ∷ 0x66 ∷ 0x38 ∷ 0x20 ∷ 0x28 ∷ 0x6D ∷ 0x65 ∷ 0x6D ∷ 0x31 ∷ 0x20 ∷ 0x3D ∷ 0x3E ∷ 0x20 ∷ 0x6D ∷ 0x65 ∷ 0x6D ∷ 0x30 ∷ 0x29 ∷ 0x00 ∷ 0x03 ∷ 0x03 ∷ 0x02 ∷ 0x01 ∷ 0x01 ∷ 0x07
    ∷ 0x09 ∷ 0x01 ∷ 0x05 ∷ 0x74 ∷ 0x65 ∷ 0x78 ∷ 0x74 ∷ 0x73 ∷ 0x00 ∷ 0x07 ∷ 0x0A ∷ 0xC4 ∷ 0x03 ∷ 0x01 ∷ 0xC1 ∷ 0x03 ∷ 0x05 ∷ 0x04 ∷ 0x7F ∷ 0x06 ∷ 0x7E ∷ 0x04 ∷ 0x7F ∷ 0x08
    ∷ 0x7E ∷ 0x02 ∷ 0x7F ∷ 0x02 ∷ 0x40 ∷ 0x23 ∷ 0x01 ∷ 0x22 ∷ 0x02 ∷ 0x0D ∷ 0x00 ∷ 0x10 ∷ 0x02 ∷ 0x00 ∷ 0x0B ∷ 0x23 ∷ 0x00 ∷ 0x21 ∷ 0x03 ∷ 0x41 ∷ 0x00 ∷ 0x24 ∷ 0x00 ∷ 0x20
    ∷ 0x00 ∷ 0xAD ∷ 0x21 ∷ 0x06 ∷ 0x20 ∷ 0x01 ∷ 0xAD ∷ 0x21 ∷ 0x07 ∷ 0x02 ∷ 0x40 ∷ 0x20 ∷ 0x07 ∷ 0x42 ∷ 0x80 ∷ 0x80 ∷ 0x80 ∷ 0x80 ∷ 0x02 ∷ 0x54 ∷ 0x0D ∷ 0x00 ∷ 0x10 ∷ 0x03
    ∷ 0x00 ∷ 0x0B ∷ 0x02 ∷ 0x40 ∷ 0x20 ∷ 0x07 ∷ 0x42 ∷ 0x80 ∷ 0x80 ∷ 0x80 ∷ 0x80 ∷ 0x02 ∷ 0x54 ∷ 0x0D ∷ 0x00 ∷ 0x10 ∷ 0x03 ∷ 0x00 ∷ 0x0B ∷ 0x20 ∷ 0x07 ∷ 0x42 ∷ 0x08 ∷ 0x7E
    ∷ 0x21 ∷ 0x08 ∷ 0x02 ∷ 0x40 ∷ 0x20 ∷ 0x06 ∷ 0x42 ∷ 0x03 ∷ 0x83 ∷ 0x50 ∷ 0x0D ∷ 0x00 ∷ 0x10 ∷ 0x04 ∷ 0x00 ∷ 0x0B ∷ 0x3F ∷ 0x01 ∷ 0xAD ∷ 0x42 ∷ 0x01 ∷ 0x7E ∷ 0x21 ∷ 0x0A
    ∷ 0x02 ∷ 0x40 ∷ 0x20 ∷ 0x0A ∷ 0x20 ∷ 0x08 ∷ 0x5A ∷ 0x20 ∷ 0x0A ∷ 0x20 ∷ 0x08 ∷ 0x7D ∷ 0x20 ∷ 0x06 ∷ 0x5A ∷ 0x71 ∷ 0x0D ∷ 0x00 ∷ 0x10 ∷ 0x03 ∷ 0x00 ∷ 0x0B ∷ 0x20 ∷ 0x07
    ∷ 0x42 ∷ 0x08 ∷ 0x7E ∷ 0x21 ∷ 0x08 ∷ 0x41 ∷ 0x00 ∷ 0x41 ∷ 0x00 ∷ 0x41 ∷ 0x04 ∷ 0x20 ∷ 0x08 ∷ 0xA7 ∷ 0x10 ∷ 0x00 ∷ 0xAD ∷ 0x21 ∷ 0x09 ∷ 0x02 ∷ 0x40 ∷ 0x20 ∷ 0x09 ∷ 0x42
    ∷ 0x03 ∷ 0x83 ∷ 0x50 ∷ 0x0D ∷ 0x00 ∷ 0x10 ∷ 0x04 ∷ 0x00 ∷ 0x0B ∷ 0x3F ∷ 0x00 ∷ 0xAD ∷ 0x42 ∷ 0x01 ∷ 0x7E ∷ 0x21 ∷ 0x0A ∷ 0x02 ∷ 0x40 ∷ 0x20 ∷ 0x0A ∷ 0x20 ∷ 0x08 ∷ 0x5A
    ∷ 0x20 ∷ 0x0A ∷ 0x20 ∷ 0x08 ∷ 0x7D ∷ 0x20 ∷ 0x09 ∷ 0x5A ∷ 0x71 ∷ 0x0D ∷ 0x00 ∷ 0x10 ∷ 0x03 ∷ 0x00 ∷ 0x0B ∷ 0x20 ∷ 0x06 ∷ 0xA7 ∷ 0x21 ∷ 0x0C ∷ 0x20 ∷ 0x09 ∷ 0xA7 ∷ 0x21
    ∷ 0x0D ∷ 0x20 ∷ 0x07 ∷ 0x21 ∷ 0x0B ∷ 0x02 ∷ 0x40 ∷ 0x03 ∷ 0x40 ∷ 0x20 ∷ 0x0B ∷ 0x50 ∷ 0x0D ∷ 0x01 ∷ 0x20 ∷ 0x0C ∷ 0x28 ∷ 0x42 ∷ 0x01 ∷ 0x00 ∷ 0xAD ∷ 0x21 ∷ 0x10 ∷ 0x20
    ∷ 0x0C ∷ 0x28 ∷ 0x42 ∷ 0x01 ∷ 0x04 ∷ 0xAD ∷ 0x21 ∷ 0x11 ∷ 0x20 ∷ 0x11 ∷ 0x42 ∷ 0x01 ∷ 0x7E ∷ 0xA7 ∷ 0xAD ∷ 0x21 ∷ 0x15 ∷ 0x3F ∷ 0x01 ∷ 0xAD ∷ 0x42 ∷ 0x01 ∷ 0x7E ∷ 0x21
    ∷ 0x17 ∷ 0x02 ∷ 0x40 ∷ 0x20 ∷ 0x17 ∷ 0x20 ∷ 0x15 ∷ 0x5A ∷ 0x20 ∷ 0x17 ∷ 0x20 ∷ 0x15 ∷ 0x7D ∷ 0x20 ∷ 0x10 ∷ 0x5A ∷ 0x71 ∷ 0x0D ∷ 0x00 ∷ 0x10 ∷ 0x05 ∷ 0x00 ∷ 0x0B ∷ 0x42
    ∷ 0x00 ∷ 0x21 ∷ 0x12 ∷ 0x42 ∷ 0x00 ∷ 0x21 ∷ 0x13 ∷ 0x42 ∷ 0x00 ∷ 0x21 ∷ 0x14 ∷ 0x02 ∷ 0x40 ∷ 0x20 ∷ 0x11 ∷ 0x42 ∷ 0x80 ∷ 0x80 ∷ 0x80 ∷ 0x80 ∷ 0x08 ∷ 0x54 ∷ 0x0D ∷ 0x00
    ∷ 0x10 ∷ 0x05 ∷ 0x00 ∷ 0x0B ∷ 0x20 ∷ 0x11 ∷ 0x42 ∷ 0x00 ∷ 0x7E ∷ 0xA7 ∷ 0xAD ∷ 0x21 ∷ 0x16 ∷ 0x20 ∷ 0x11 ∷ 0x42 ∷ 0x01 ∷ 0x7E ∷ 0xA7 ∷ 0xAD ∷ 0x21 ∷ 0x15 ∷ 0x20 ∷ 0x13
    ∷ 0xA7 ∷ 0x20 ∷ 0x16 ∷ 0xA7 ∷ 0x41 ∷ 0x01 ∷ 0x20 ∷ 0x15 ∷ 0xA7 ∷ 0x10 ∷ 0x00 ∷ 0xAD ∷ 0x21 ∷ 0x13 ∷ 0x3F ∷ 0x00 ∷ 0xAD ∷ 0x42 ∷ 0x01 ∷ 0x7E ∷ 0x21 ∷ 0x17 ∷ 0x02 ∷ 0x40
    ∷ 0x20 ∷ 0x17 ∷ 0x20 ∷ 0x15 ∷ 0x5A ∷ 0x20 ∷ 0x17 ∷ 0x20 ∷ 0x15 ∷ 0x7D ∷ 0x20 ∷ 0x13 ∷ 0x5A ∷ 0x71 ∷ 0x0D ∷ 0x00 ∷ 0x10 ∷ 0x05 ∷ 0x00 ∷ 0x0B ∷ 0x20 ∷ 0x10 ∷ 0xA7 ∷ 0x20
    ∷ 0x11 ∷ 0xA7 ∷ 0x20 ∷ 0x13 ∷ 0xA7 ∷ 0x10 ∷ 0x06 ∷ 0x20 ∷ 0x11 ∷ 0x21 ∷ 0x14 ∷ 0x20 ∷ 0x0D ∷ 0x20 ∷ 0x13 ∷ 0xA7 ∷ 0x36 ∷ 0x02 ∷ 0x00 ∷ 0x20 ∷ 0x0D ∷ 0x20 ∷ 0x14 ∷ 0xA7
    ∷ 0x36 ∷ 0x02 ∷ 0x04 ∷ 0x20 ∷ 0x0C ∷ 0x41 ∷ 0x08 ∷ 0x6A ∷ 0x21 ∷ 0x0C ∷ 0x20 ∷ 0x0D ∷ 0x41 ∷ 0x08 ∷ 0x6A ∷ 0x21 ∷ 0x0D ∷ 0x20 ∷ 0x0B ∷ 0x42 ∷ 0x01 ∷ 0x7D ∷ 0x21 ∷ 0x0B
    ∷ 0x0C ∷ 0x00 ∷ 0x0B ∷ 0x0B ∷ 0x20 ∷ 0x09 ∷ 0xA7 ∷ 0x21 ∷ 0x04 ∷ 0x20 ∷ 0x07 ∷ 0xA7 ∷ 0x21 ∷ 0x05 ∷ 0x20 ∷ 0x04 ∷ 0x20 ∷ 0x05 ∷ 0x20 ∷ 0x03 ∷ 0x24 ∷ 0x00 ∷ 0x10 ∷ 0x01
    ∷ 0x41 ∷ 0x00 ∷ 0x24 ∷ 0x01 ∷ 0x20 ∷ 0x02 ∷ 0x24 ∷ 0x01 ∷ 0x0B
    ∷ []

-- ---- a run

-- The list has one text, "a", whose pointer and length stand at 0; the flags of the lift side, and the bytes of its memory.
abbrev pub texts_state : (lift_flags : ℕ) → (lift : List ℕ) → MachineState
texts_state n lift = record { memories = lift ∷ (8 ∷ 0 ∷ 0 ∷ 0 ∷ 1 ∷ 0 ∷ 0 ∷ 0 ∷ 0x61 ∷ []) ∷ []; globals = I32 n ∷ I32 1 ∷ [] }

-- nothing, the bytes of the text, and then its pointer and length too
abbrev pub none_moved : List ℕ
none_moved = 0 ∷ 0 ∷ 0 ∷ 0 ∷ 0 ∷ 0 ∷ 0 ∷ 0 ∷ 0 ∷ []

abbrev pub text_moved : List ℕ
text_moved = 0 ∷ 0 ∷ 0 ∷ 0 ∷ 0 ∷ 0 ∷ 0 ∷ 0 ∷ 0x61 ∷ []

abbrev pub list_moved : List ℕ
list_moved = 8 ∷ 0 ∷ 0 ∷ 0 ∷ 1 ∷ 0 ∷ 0 ∷ 0 ∷ 0x61 ∷ []

abbrev pub texts_args : List CoreValue
texts_args = I32 0 ∷ I32 1 ∷ []

-- Realloc gives eight bytes at 0 for the list and one at 8 for the text; the text is copied, and the callee returns.
abbrev pub texts_answers : List Answer
texts_answers = Returns (I32 0 ∷ []) (texts_state 0 none_moved) ∷ Returns (I32 8 ∷ []) (texts_state 0 none_moved) ∷ Returns [] (texts_state 0 text_moved) ∷ Returns [] (texts_state 1 list_moved) ∷ []

abbrev pub texts_calls : List Call
texts_calls =
    record { what = known.CoreDef texts_realloc; args = I32 0 ∷ I32 0 ∷ I32 4 ∷ I32 8 ∷ []; before = texts_state 0 none_moved; answer = Returns (I32 0 ∷ []) (texts_state 0 none_moved) }
    ∷ record { what = known.CoreDef texts_realloc; args = I32 0 ∷ I32 0 ∷ I32 1 ∷ I32 1 ∷ []; before = texts_state 0 none_moved; answer = Returns (I32 8 ∷ []) (texts_state 0 none_moved) }
    ∷ record { what = texts_transcoder; args = I32 8 ∷ I32 1 ∷ I32 8 ∷ []; before = texts_state 0 none_moved; answer = Returns [] (texts_state 0 text_moved) }
    ∷ record { what = known.CoreDef texts_callee; args = I32 0 ∷ I32 1 ∷ []; before = texts_state 1 list_moved; answer = Returns [] (texts_state 1 list_moved) }
    ∷ []

-- The run takes 225 steps; a list and a text weigh 2.
abbrev pub OneTextArrives : Type 0
OneTextArrives = IsWorkedRun texts_module texts_imports texts_adapter texts_args (texts_state 1 none_moved) texts_answers 224 texts_calls 2

abbrev pub OneTextIsSpelled : Type 0
OneTextIsSpelled = spelling texts_module ≡ texts_bytes
