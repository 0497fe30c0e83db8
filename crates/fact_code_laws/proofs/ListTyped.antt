-- The code of lists is typed.
use Rattle.std.proofs.Common.{◌≡◌, ℕ, ◌<◌, Bool, true, false, List, [], ◌∷◌, ◌++◌, Some, refl, arith, ap, ◌∙◌, subst, slice_get}
use Rattle.std.specs.Prelude.{nat_eq}
use Rattle.fact_wasm.specs.declared.types.ValType.{ValType}
use Rattle.fact_wasm.specs.declared.types.ValType.TheVariants as val
use Rattle.fact_wasm.specs.declared.instr.Instr.TheVariants as I
use Rattle.fact_wasm.specs.declared.instr.Instr.TheOpen as o
use Rattle.fact_wasm.specs.declared.module.WasmModule.{WasmModule}
use Rattle.fact_types.specs.declared.outside.CoreDef.{CoreDef}
use Rattle.fact_types.specs.declared.outside.Trap.{Trap}
use Rattle.fact_types.specs.declared.import.Import.TheVariants as import
use Rattle.fact_actions.specs.Running.{ImportPlaces}
use Rattle.fact_actions.specs.Sides.{LiftLowerOptions}
use Rattle.fact_code_laws.specs.Knows.{KnowsFunction}
use Rattle.fact_code_laws.specs.Places.{Setting, From, To, Readable, Writable, SideMemory, widen, stack_type, FromTyped, ToTyped}
use Rattle.fact_machine.specs.Typing.{address_type}
use Rattle.fact_code_laws.specs.Typed.{OnStack, IsTyped}
use Rattle.fact_code_laws.proofs.TypingLaws.{Takes, typed_done, typed_then, typed_next, typed_one}
use Rattle.fact_code_laws.proofs.TypedRows.{takes_plain, takes_local_get, takes_local_set, takes_import}
use Rattle.fact_code_laws.proofs.TypedShapes.{takes_guard, typed_counted, typed_length}
use Rattle.fact_code_laws.proofs.TypedPlaces.{typed_narrow, typed_widen, typed_read, typed_before, typed_behind}
use Rattle.fact_code_laws.proofs.Regions.{typed_bytes, typed_bounds}
use Rattle.fact_code_laws.proofs.Guards.{takes_aligned, takes_few}
use Rattle.fact_code_laws.specs.Tests.{HasUnaligned, pointer_of_width, read_into, region_code}
use Rattle.fact_code_laws.proofs.Pointers.{may_hold}
use Rattle.fact_code_laws.proofs.ListCode.{realloc_code}
use Rattle.fact_code_laws.proofs.Slots.{ContextSlots, HasSlotsIf, typed_slots}
use Rattle.fact_code_laws.proofs.ListTurns.{list_type}
use Rattle.fact_code_laws.proofs.ListMoves.{slots_of, ListMove, IsListMove, list_code}
use Rattle.fact_code_laws.specs.Lists.{is_few, const_code, add_code, bump_code, count_code, left_code, address_code, ask_code, put_code}

stack_address : (memory64 : Bool) → stack_type (pointer_of_width memory64) ≡ address_type memory64
stack_address true = refl
stack_address false = refl

module _ {M : WasmModule} {locals : List ValType} {labels : List (List ValType)} {ins : List ValType} where
  pub takes_const : (memory64 : Bool) (n : ℕ) → Takes M locals labels (const_code memory64 n) ins (OnStack (address_type memory64 ∷ ins))
  takes_const true n = takes_plain (o.I64Const n) (I.outs-I64Const n) refl
  takes_const false n = takes_plain (o.I32Const n) (I.outs-I32Const n) refl

  pub takes_add : (memory64 : Bool) → Takes M locals labels (add_code memory64) (address_type memory64 ∷ address_type memory64 ∷ ins) (OnStack (address_type memory64 ∷ ins))
  takes_add true = takes_plain o.I64Add I.outs-I64Add refl
  takes_add false = takes_plain o.I32Add I.outs-I32Add refl

module _ {M : WasmModule} {locals : List ValType} {labels : List (List ValType)} {ins : List ValType} where
  typed_address : (memory64 : Bool) (i : ℕ) → slice_get locals i ≡ Some val.I64 → IsTyped M locals labels (address_code memory64 i) ins (OnStack (stack_type (pointer_of_width memory64) ∷ ins))
  typed_address memory64 i h = typed_next (takes_local_get h) (typed_narrow (pointer_of_width memory64) val.I64 (may_hold memory64))

  -- as an address
  pub typed_as_address : (memory64 : Bool) (i : ℕ) → slice_get locals i ≡ Some val.I64 → IsTyped M locals labels (address_code memory64 i) ins (OnStack (address_type memory64 ∷ ins))
  typed_as_address memory64 i h = subst (λ t. IsTyped M locals labels (address_code memory64 i) ins (OnStack (t ∷ ins))) (stack_address memory64) (typed_address memory64 i h)

  pub typed_bump : (memory64 : Bool) (local size : ℕ) → slice_get locals local ≡ Some (address_type memory64) → IsTyped M locals labels (bump_code memory64 local size) ins (OnStack ins)
  typed_bump memory64 local size h = typed_next (takes_local_get h) (typed_next (takes_const memory64 size) (typed_next (takes_add memory64) (typed_one (takes_local_set h))))

  typed_count : (local : ℕ) → slice_get locals local ≡ Some val.I64 → IsTyped M locals labels (count_code local) ins (OnStack ins)
  typed_count local h = typed_next (takes_local_get h) (typed_next (takes_plain (o.I64Const _) (I.outs-I64Const _) refl) (typed_next (takes_plain o.I64Sub I.outs-I64Sub refl) (typed_one (takes_local_set h))))

  typed_left : (local : ℕ) → slice_get locals local ≡ Some val.I64 → IsTyped M locals labels (left_code local) ins (OnStack (val.I32 ∷ ins))
  typed_left local h = typed_next (takes_local_get h) (typed_one (takes_plain o.I64Eqz I.outs-I64Eqz refl))

  typed_keep : (memory64 : Bool) (i : ℕ) → slice_get locals i ≡ Some val.I64 → IsTyped M locals labels (widen (pointer_of_width memory64) val.I64 ++ I.LocalSet i ∷ []) (stack_type (pointer_of_width memory64) ∷ ins) (OnStack ins)
  typed_keep memory64 i h = typed_then (typed_widen (pointer_of_width memory64) val.I64 (may_hold memory64)) (typed_one (takes_local_set h))

  -- an address into an i64
  pub typed_keep_address : (memory64 : Bool) (i : ℕ) → slice_get locals i ≡ Some val.I64 → IsTyped M locals labels (widen (pointer_of_width memory64) val.I64 ++ I.LocalSet i ∷ []) (address_type memory64 ∷ ins) (OnStack ins)
  typed_keep_address memory64 i h = subst (λ t. IsTyped M locals labels (widen (pointer_of_width memory64) val.I64 ++ I.LocalSet i ∷ []) (t ∷ ins) (OnStack ins)) (stack_address memory64) (typed_keep memory64 i h)

module _ {M : WasmModule} {locals : List ValType} {labels : List (List ValType)} {ins : List ValType} where
  pub typed_ask : (p : ImportPlaces) (memory64 : Bool) (align bytes place : ℕ) (realloc : CoreDef) → slice_get locals bytes ≡ Some val.I64
      → KnowsFunction M p (import.CoreDef realloc) place (address_type memory64 ∷ address_type memory64 ∷ address_type memory64 ∷ address_type memory64 ∷ []) (address_type memory64 ∷ []) → IsTyped M locals labels (ask_code memory64 align bytes place) ins (OnStack (address_type memory64 ∷ ins))
  typed_ask p memory64 align bytes place realloc hb h =
      typed_next (takes_const memory64 0) (typed_next (takes_const memory64 0) (typed_next (takes_const memory64 align) (typed_then (typed_as_address memory64 bytes hb) (typed_one (takes_import ins h)))))

module _ (S : Setting) {labels : List (List ValType)} {ins : List ValType} where
  pub typed_read_into : (p : ImportPlaces) (side : LiftLowerOptions) (memory64 : Bool) (from : From) (i : ℕ) → Readable S.whole p S.checks side memory64 (pointer_of_width memory64) from → FromTyped S.locals memory64 from → slice_get S.locals i ≡ Some val.I64 → IsTyped S.whole S.locals labels (read_into S.checks memory64 from i) ins (OnStack ins)
  typed_read_into p side memory64 from i h t local = typed_then (typed_read p S.checks side memory64 (pointer_of_width memory64) from h t) (typed_keep memory64 i local)

  pub typed_region : {t : Trap} (p : ImportPlaces) (side : LiftLowerOptions) (memory64 : Bool) (memory align : ℕ) (d : SideMemory S.whole p side memory64 memory) (pointer bytes length unaligned outside : ℕ) → slice_get S.locals pointer ≡ Some val.I64 → slice_get S.locals bytes ≡ Some val.I64
      → slice_get S.locals length ≡ Some val.I64 → HasUnaligned (nat_eq align 1) S.whole p unaligned → KnowsFunction S.whole p (import.Trap t) outside [] []
      → IsTyped S.whole S.locals labels (region_code memory memory64 d.log2 align pointer bytes length unaligned outside) ins (OnStack ins)
  typed_region p side memory64 memory align d pointer bytes length unaligned outside hp hb hl h1 h2 =
      takes_aligned p (nat_eq align 1) pointer align unaligned h1 hp (typed_then (typed_length memory64 d.has) (typed_next (takes_local_set hl) (takes_guard {c = []} h2 (typed_bounds pointer bytes length hp hb hl) typed_done)))

  typed_realloc : (p : ImportPlaces) (concurrency : Bool) (slots : ContextSlots) (memory64 : Bool) (align bytes address place : ℕ) (realloc : CoreDef) → HasSlotsIf concurrency S.whole p slots → slice_get S.locals slots.saved0 ≡ Some val.I32
      → slice_get S.locals slots.saved1 ≡ Some val.I32 → slice_get S.locals bytes ≡ Some val.I64 → slice_get S.locals address ≡ Some val.I64
      → KnowsFunction S.whole p (import.CoreDef realloc) place (address_type memory64 ∷ address_type memory64 ∷ address_type memory64 ∷ address_type memory64 ∷ []) (address_type memory64 ∷ [])
      → IsTyped S.whole S.locals labels (realloc_code concurrency slots memory64 align bytes address place) ins (OnStack ins)
  typed_realloc p concurrency slots memory64 align bytes address place realloc hs t0 t1 hb ha h =
      typed_then (typed_slots p concurrency slots hs t0 t1 (typed_ask p memory64 align bytes place realloc hb h)) (typed_keep_address memory64 address ha)

pub typed_put : (S : Setting) {labels : List (List ValType)} {ins : List ValType} (p : ImportPlaces) (side : LiftLowerOptions) (memory64 : Bool) (local : ℕ) (to : To) → Writable S.whole p side memory64 (pointer_of_width memory64) to → ToTyped S.locals memory64 to → slice_get S.locals local ≡ Some val.I64
    → IsTyped S.whole S.locals labels (put_code memory64 local to) ins (OnStack ins)
typed_put S p side memory64 local to h t l = typed_then (typed_before memory64 to t) (typed_then (typed_address memory64 local l) (typed_behind p side memory64 (pointer_of_width memory64) to h t))

-- The code of a list is typed where that of its element is.
pub typed_list : {S : Setting} {used inner used1 used2 : ℕ → Bool} {l : ListMove} (h : IsListMove S used inner used1 used2 l) → FromTyped S.locals S.from64 l.pointer1 → FromTyped S.locals S.from64 l.length1 → ToTyped S.locals S.to64 l.pointer2 → ToTyped S.locals S.to64 l.length2
    → IsTyped S.whole S.locals [] l.code [] (OnStack []) → IsTyped S.whole S.locals [] (list_code S l h.side1.log2 h.side2.log2) [] (OnStack [])
typed_list {S} {l = l} h f1 f2 t1 t2 element =
    let i64 : (j : ℕ) → j < 10 → list_type S.from64 S.to64 j ≡ val.I64 → slice_get S.locals (l.temp j) ≡ Some val.I64 = λ j lt e. h.temps.typed j lt ∙ ap (λ t. Some t) e in
    let t0 = i64 0 (omega arith) refl in let n = i64 1 (omega arith) refl in let b = i64 2 (omega arith) refl in let q = i64 3 (omega arith) refl in let len = i64 4 (omega arith) refl in let left = i64 5 (omega arith) refl in
    let source = h.temps.typed 6 (omega arith) in
    let target = h.temps.typed 7 (omega arith) in
    typed_then (typed_read_into S S.places S.from S.from64 l.pointer1 (l.temp 0) h.readable1 f1 t0) (typed_then (typed_read_into S S.places S.from S.from64 l.length1 (l.temp 1) h.readable2 f2 n)
    (takes_few S.places (is_few S.from64 l.size1) (l.temp 1) l.size1 l.outside h.traps n (takes_few S.places (is_few S.to64 l.size2) (l.temp 1) l.size2 l.outside h.traps n
    (typed_then (typed_bytes (l.temp 1) l.size1 n) (typed_next (takes_local_set b)
    (typed_then (typed_region S S.places S.from S.from64 l.memory1 l.align1 h.side1 (l.temp 0) (l.temp 2) (l.temp 4) l.unaligned l.outside t0 b len h.aligned1 h.traps)
    (typed_then (typed_bytes (l.temp 1) l.size2 n) (typed_next (takes_local_set b)
    (typed_then (typed_realloc S S.places S.concurrency (slots_of l) S.to64 l.align2 (l.temp 2) (l.temp 3) l.realloc_at l.realloc h.slots (h.temps.typed 8 (omega arith)) (h.temps.typed 9 (omega arith)) b q h.reallocs)
    (typed_then (typed_region S S.places S.to S.to64 l.memory2 l.align2 h.side2 (l.temp 3) (l.temp 2) (l.temp 4) l.unaligned l.outside q b len h.aligned2 h.traps)
    (typed_then (typed_as_address S.from64 (l.temp 0) t0) (typed_next (takes_local_set source) (typed_then (typed_as_address S.to64 (l.temp 3) q) (typed_next (takes_local_set target)
    (typed_next (takes_local_get n) (typed_next (takes_local_set left)
    (typed_then (typed_counted (typed_left (l.temp 5) left) (typed_then element (typed_then (typed_bump S.from64 (l.temp 6) l.size1 source) (typed_then (typed_bump S.to64 (l.temp 7) l.size2 target) (typed_count (l.temp 5) left)))))
    (typed_then (typed_put S S.places S.to S.to64 (l.temp 3) l.pointer2 h.writable1 t1 q) (typed_put S S.places S.to S.to64 (l.temp 1) l.length2 h.writable2 t2 n)))))))))))))))))))
