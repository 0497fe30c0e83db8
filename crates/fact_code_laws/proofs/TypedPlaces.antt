-- The code of numbers at places is typed.
use Rattle.std.proofs.Common.{◌≡◌, ℕ, ◌<◌, ◌^◌, Bool, true, false, List, [], ◌∷◌, ◌++◌, refl, arith, Some, ap, ◌∙◌, slice_get}
use Rattle.fact_wasm.specs.declared.types.ValType.{ValType}
use Rattle.fact_wasm.specs.declared.types.ValType.TheVariants as val
use Rattle.fact_wasm.specs.declared.instr.Instr.TheVariants as I
use Rattle.fact_wasm.specs.declared.instr.Instr.TheOpen as o
use Rattle.fact_wasm.specs.declared.module.WasmModule.{WasmModule}
use Rattle.fact_actions.specs.Running.{ImportPlaces}
use Rattle.fact_actions.specs.Sides.{LiftLowerOptions}
use Rattle.fact_code_laws.specs.Places.{From, InLocals, InMemory, To, ToLocals, ToMemory, Number, N8, N16, N32, N64, MayHoldI32, MayHoldI64, MayHold, SideMemory, Readable, Writable, stack_type, load_of, store_of, to_i32, to_i64, from_i32, from_i64, narrow, widen, memarg_at, read_code, code_before, code_behind, FromTyped, ToTyped, DebugChecks, Off, On, HasUpper, is_halved, upper_check}
use Rattle.fact_code_laws.specs.Rows.{load_code, load_align, store_code, store_align, LoadU8, LoadU16, LoadI32, LoadI64, StoreI8, StoreI16, StoreI32, StoreI64}
use Rattle.fact_machine.specs.Typing.{address_type, address_bits}
use Rattle.fact_code_laws.specs.Typed.{OnStack, IsTyped, OperandsBehind}
use Rattle.fact_code_laws.proofs.TypingLaws.{typed_done, typed_then, typed_next, typed_one}
use Rattle.fact_code_laws.proofs.TypedShapes.{takes_guard}
use Rattle.fact_code_laws.proofs.TypedRows.{takes_plain, takes_local_get, takes_local_set, takes_load, takes_store}
use Rattle.fact_wasm.specs.declared.instr.Instr.{Instr}

module _ {M : WasmModule} {locals : List ValType} {labels : List (List ValType)} {ins : List ValType} where
  typed_to_i32 : (t : ValType) → MayHoldI32 t → IsTyped M locals labels (to_i32 t) (t ∷ ins) (OnStack (val.I32 ∷ ins))
  typed_to_i32 val.I32 m = typed_done
  typed_to_i32 val.I64 m = typed_one (takes_plain o.I32WrapI64 I.outs-I32WrapI64 refl)
  typed_to_i32 val.F32 m = typed_one (takes_plain o.I32ReinterpretF32 I.outs-I32ReinterpretF32 refl)
  typed_to_i32 val.F64 m = absurd m
  typed_to_i32 val.FuncRef m = absurd m

  typed_to_i64 : (t : ValType) → MayHoldI64 t → IsTyped M locals labels (to_i64 t) (t ∷ ins) (OnStack (val.I64 ∷ ins))
  typed_to_i64 val.I32 m = absurd m
  typed_to_i64 val.I64 m = typed_done
  typed_to_i64 val.F32 m = absurd m
  typed_to_i64 val.F64 m = typed_one (takes_plain o.I64ReinterpretF64 I.outs-I64ReinterpretF64 refl)
  typed_to_i64 val.FuncRef m = absurd m

  typed_from_i32 : (t : ValType) → MayHoldI32 t → IsTyped M locals labels (from_i32 t) (val.I32 ∷ ins) (OnStack (t ∷ ins))
  typed_from_i32 val.I32 m = typed_done
  typed_from_i32 val.I64 m = typed_one (takes_plain o.I64ExtendI32U I.outs-I64ExtendI32U refl)
  typed_from_i32 val.F32 m = typed_one (takes_plain o.F32ReinterpretI32 I.outs-F32ReinterpretI32 refl)
  typed_from_i32 val.F64 m = absurd m
  typed_from_i32 val.FuncRef m = absurd m

  typed_from_i64 : (t : ValType) → MayHoldI64 t → IsTyped M locals labels (from_i64 t) (val.I64 ∷ ins) (OnStack (t ∷ ins))
  typed_from_i64 val.I32 m = absurd m
  typed_from_i64 val.I64 m = typed_done
  typed_from_i64 val.F32 m = absurd m
  typed_from_i64 val.F64 m = typed_one (takes_plain o.F64ReinterpretI64 I.outs-F64ReinterpretI64 refl)
  typed_from_i64 val.FuncRef m = absurd m

  pub typed_narrow : (n : Number) (t : ValType) → MayHold n t → IsTyped M locals labels (narrow n t) (t ∷ ins) (OnStack (stack_type n ∷ ins))
  typed_narrow N8 t m = typed_to_i32 t m
  typed_narrow N16 t m = typed_to_i32 t m
  typed_narrow N32 t m = typed_to_i32 t m
  typed_narrow N64 t m = typed_to_i64 t m

  pub typed_widen : (n : Number) (t : ValType) → MayHold n t → IsTyped M locals labels (widen n t) (stack_type n ∷ ins) (OnStack (t ∷ ins))
  typed_widen N8 t m = typed_from_i32 t m
  typed_widen N16 t m = typed_from_i32 t m
  typed_widen N32 t m = typed_from_i32 t m
  typed_widen N64 t m = typed_from_i64 t m

module _ {M : WasmModule} {locals : List ValType} {labels : List (List ValType)} {ins : List ValType} {p : ImportPlaces} {o : LiftLowerOptions} {memory64 : Bool} {memory : ℕ} (offset : ℕ) (side : SideMemory M p o memory64 memory) (reached : offset < 2 ^ address_bits memory64) where
  typed_load : (n : Number) → IsTyped M locals labels (load_code (load_of n) (memarg_at (load_align (load_of n)) offset memory) ∷ []) (address_type memory64 ∷ ins) (OnStack (stack_type n ∷ ins))
  typed_load N8 = typed_one (takes_load LoadU8 (memarg_at 0 offset memory) side.has (record { aligned = omega arith; reached = reached }))
  typed_load N16 = typed_one (takes_load LoadU16 (memarg_at 1 offset memory) side.has (record { aligned = omega arith; reached = reached }))
  typed_load N32 = typed_one (takes_load LoadI32 (memarg_at 2 offset memory) side.has (record { aligned = omega arith; reached = reached }))
  typed_load N64 = typed_one (takes_load LoadI64 (memarg_at 3 offset memory) side.has (record { aligned = omega arith; reached = reached }))

  typed_store : (n : Number) → IsTyped M locals labels (store_code (store_of n) (memarg_at (store_align (store_of n)) offset memory) ∷ []) (stack_type n ∷ address_type memory64 ∷ ins) (OnStack ins)
  typed_store N8 = typed_one (takes_store StoreI8 (memarg_at 0 offset memory) side.has (record { aligned = omega arith; reached = reached }))
  typed_store N16 = typed_one (takes_store StoreI16 (memarg_at 1 offset memory) side.has (record { aligned = omega arith; reached = reached }))
  typed_store N32 = typed_one (takes_store StoreI32 (memarg_at 2 offset memory) side.has (record { aligned = omega arith; reached = reached }))
  typed_store N64 = typed_one (takes_store StoreI64 (memarg_at 3 offset memory) side.has (record { aligned = omega arith; reached = reached }))

-- only an i64 has an upper half
halved_type : (n : Number) (t : ValType) → is_halved n t ≡ true → t ≡ val.I64
halved_type N64 t e = cc
halved_type n val.I64 e = refl
halved_type _ _ e = cc

typed_upper : {M : WasmModule} {locals : List ValType} {labels : List (List ValType)} {ins : List ValType} {outs : OperandsBehind} {c : List Instr} (p : ImportPlaces) (checks : DebugChecks) (halved : Bool) (i : ℕ) (t : ValType) → (halved ≡ true → t ≡ val.I64) → HasUpper M p checks halved
    → slice_get locals i ≡ Some t → IsTyped M locals labels c ins outs → IsTyped M locals labels (upper_check checks halved i ++ c) ins outs
typed_upper p Off halved i t e h there x = x
typed_upper p (On upper aligned) false i t e h there x = x
typed_upper p (On upper aligned) true i t e h there x =
    takes_guard h (typed_next (takes_local_get (there ∙ ap (λ u. Some u) (e refl))) (typed_next (takes_plain (o.I64Const _) (I.outs-I64Const _) refl) (typed_next (takes_plain o.I64ShrU I.outs-I64ShrU refl) (typed_one (takes_plain o.I64Eqz I.outs-I64Eqz refl))))) x

-- a number out of a place
pub typed_read : {M : WasmModule} {locals : List ValType} {labels : List (List ValType)} {ins : List ValType} (p : ImportPlaces) (checks : DebugChecks) (o : LiftLowerOptions) (memory64 : Bool) (n : Number) (from : From) → Readable M p checks o memory64 n from → FromTyped locals memory64 from
    → IsTyped M locals labels (read_code checks n from) ins (OnStack (stack_type n ∷ ins))
typed_read p checks o memory64 n (InLocals []) h t = absurd h
typed_read {ins = ins} p checks o memory64 n (InLocals (slot ∷ slots)) h t =
    typed_upper p checks (is_halved n slot.1) slot.0 slot.1 (halved_type n slot.1) h.1 t.0 (typed_next (takes_local_get t.0) (typed_narrow n slot.1 h.0))
typed_read p checks o memory64 n (InMemory memory base offset) h t = typed_next (takes_local_get t.local) (typed_load offset h t.reached n)

-- what is below a number that goes to a place
abbrev pub below_type : Bool → To → List ValType
below_type memory64 (ToLocals slots) = []
below_type memory64 (ToMemory memory base offset) = address_type memory64 ∷ []

pub typed_before : {M : WasmModule} {locals : List ValType} {labels : List (List ValType)} {ins : List ValType} (memory64 : Bool) (to : To) → ToTyped locals memory64 to → IsTyped M locals labels (code_before to) ins (OnStack (below_type memory64 to ++ ins))
typed_before memory64 (ToLocals slots) t = typed_done
typed_before memory64 (ToMemory memory base offset) t = typed_one (takes_local_get t.local)

pub typed_behind : {M : WasmModule} {locals : List ValType} {labels : List (List ValType)} {ins : List ValType} (p : ImportPlaces) (o : LiftLowerOptions) (memory64 : Bool) (n : Number) (to : To) → Writable M p o memory64 n to → ToTyped locals memory64 to
    → IsTyped M locals labels (code_behind n to) (stack_type n ∷ (below_type memory64 to ++ ins)) (OnStack ins)
typed_behind p o memory64 n (ToLocals []) h t = absurd h
typed_behind p o memory64 n (ToLocals (a ∷ b ∷ slots)) h t = absurd h
typed_behind p o memory64 n (ToLocals (slot ∷ [])) h t = typed_then (typed_widen n slot.1 h) (typed_one (takes_local_set t.0))
typed_behind p o memory64 n (ToMemory memory base offset) h t = typed_store offset h t.reached n
