-- The code of lists around their elements is in range, and names no function but realloc and those of traps.
use Rattle.std.proofs.Common.{◌≡◌, ℕ, Bool, true, false, List, [], ◌∷◌, ◌++◌, ◌∙◌, arith, append-nil}
use Rattle.fact_wasm.specs.declared.instr.BlockType.TheVariants.{Empty}
use Rattle.fact_wasm.specs.declared.instr.Instr.{Instr, the_lemmas}
use Rattle.fact_wasm.specs.declared.instr.Instr.TheVariants as I
use Rattle.fact_wasm.specs.Ranges.{AreRanged}
use Rattle.fact_code_laws.specs.Code.{counted_code, scaled_code, turn_code}
use Rattle.fact_code_laws.specs.Lists.{address_code, bump_code, bytes_code, count_code, few_code, left_code, put_code}
use Rattle.fact_code_laws.specs.Places.{To, code_before, code_behind}
use Rattle.fact_code_laws.specs.Tests.{pointer_of_width}
use Rattle.fact_emit.specs.NamedFunctions.{functions_named}
use Rattle.fact_emit.proofs.NamedLaws.{named_append, named_block, named_loop, names_none, ranged_append, ranged_block, ranged_in, ranged_loop, ranged_none}
use Rattle.fact_emit.proofs.RangedCode.{before_ranged, behind_ranged, get_ranged, scaled_ranged, set_ranged}
use Rattle.fact_emit.proofs.RequestRanged.{address_ranged}
use Rattle.fact_kinds.specs.declared.lists.Elements.{Elements}
use Rattle.fact_kinds.specs.declared.lists.ListLocals.{ListLocals}
use Rattle.fact_kinds.specs.Lists.{begin_code, turn_end_code}

-- ---- numbers

pub few_ranged : (number size : ℕ) → AreRanged 0 0 (few_code number size)
few_ranged number size = ranged_none 0 0 (few_code number size) (simp the_lemmas)

pub left_ranged : (local : ℕ) → AreRanged 0 0 (left_code local)
left_ranged local = ranged_none 0 0 (left_code local) (simp the_lemmas)

pub bytes_ranged : (number size bytes : ℕ) → AreRanged 0 0 (bytes_code number size ++ I.LocalSet bytes ∷ [])
bytes_ranged number size bytes =
    ranged_append 0 0 (I.LocalGet number ∷ []) (scaled_code size ++ I.LocalSet bytes ∷ []) (get_ranged number) (ranged_append 0 0 (scaled_code size) (I.LocalSet bytes ∷ []) (scaled_ranged size) (set_ranged bytes))

pub bump_ranged : (memory64 : Bool) (local size : ℕ) → AreRanged 0 0 (bump_code memory64 local size)
bump_ranged true local size = ranged_none 0 0 (bump_code true local size) (simp the_lemmas)
bump_ranged false local size = ranged_none 0 0 (bump_code false local size) (simp the_lemmas)

count_ranged : (local : ℕ) → AreRanged 0 0 (count_code local)
count_ranged local = ranged_none 0 0 (count_code local) (simp the_lemmas)

-- ---- elements

pub begin_ranged : (from64 to64 : Bool) (l : ListLocals) → AreRanged 0 0 (begin_code from64 to64 l)
begin_ranged from64 to64 l =
    let first : List Instr = I.LocalSet l.source ∷ [] in
    let rest : List Instr = I.LocalSet l.target ∷ I.LocalGet l.number ∷ I.LocalSet l.left ∷ [] in
    ranged_append 0 0 (address_code from64 l.pointer) (first ++ (address_code to64 l.address ++ rest)) (address_ranged from64 l.pointer)
    (ranged_append 0 0 first (address_code to64 l.address ++ rest) (set_ranged l.source)
    (ranged_append 0 0 (address_code to64 l.address) rest (address_ranged to64 l.address) (ranged_none 0 0 rest (simp the_lemmas))))

pub turn_end_ranged : (from64 to64 : Bool) (e : Elements) (l : ListLocals) → AreRanged 0 0 (turn_end_code from64 to64 e l)
turn_end_ranged from64 to64 e l =
    ranged_append 0 0 (bump_code from64 l.source e.from_size) (bump_code to64 l.target e.to_size ++ count_code l.left) (bump_ranged from64 l.source e.from_size)
    (ranged_append 0 0 (bump_code to64 l.target e.to_size) (count_code l.left) (bump_ranged to64 l.target e.to_size) (count_ranged l.left))

pub put_ranged : (memory64 : Bool) (local : ℕ) (dst : To) → AreRanged 0 0 (put_code memory64 local dst)
put_ranged memory64 local dst =
    ranged_append 0 0 (code_before dst) _ (before_ranged dst) (ranged_append 0 0 (address_code memory64 local) (code_behind (pointer_of_width memory64) dst) (address_ranged memory64 local) (behind_ranged (pointer_of_width memory64) dst))

-- ---- loops

-- A loop names what its body names, where nothing else in it and behind it names a function.
module _ (test body ends behind : List Instr) (tested : AreRanged 0 0 test) (ended : AreRanged 0 0 ends) (after : AreRanged 0 0 behind) where
  branch_ranged : (label : ℕ) → AreRanged 0 0 (I.Br label ∷ [])
  branch_ranged label = ranged_none 0 0 (I.Br label ∷ []) (simp the_lemmas)

  leave_ranged : (label : ℕ) → AreRanged 0 0 (I.BrIf label ∷ [])
  leave_ranged label = ranged_none 0 0 (I.BrIf label ∷ []) (simp the_lemmas)

  turn_named : functions_named (turn_code test (body ++ ends)) ≡ functions_named body
  turn_named =
      named_append test (I.BrIf 1 ∷ ((body ++ ends) ++ I.Br 0 ∷ [])) ∙ (λ i. names_none test tested i ++ functions_named (I.BrIf 1 ∷ ((body ++ ends) ++ I.Br 0 ∷ [])))
      ∙ named_append (I.BrIf 1 ∷ []) ((body ++ ends) ++ I.Br 0 ∷ []) ∙ (λ i. names_none (I.BrIf 1 ∷ []) (leave_ranged 1) i ++ functions_named ((body ++ ends) ++ I.Br 0 ∷ []))
      ∙ named_append (body ++ ends) (I.Br 0 ∷ []) ∙ (λ i. named_append body ends i ++ names_none (I.Br 0 ∷ []) (branch_ranged 0) i)
      ∙ append-nil (functions_named body ++ functions_named ends) ∙ (λ i. functions_named body ++ names_none ends ended i) ∙ append-nil (functions_named body)

  pub counted_named : functions_named (counted_code test (body ++ ends) ++ behind) ≡ functions_named body
  counted_named =
      let turn : List Instr = turn_code test (body ++ ends) in
      named_append (counted_code test (body ++ ends)) behind ∙ (λ i. (named_block Empty (I.Loop Empty turn ∷ []) ∙ named_loop Empty turn ∙ turn_named) i ++ names_none behind after i) ∙ append-nil (functions_named body)

  pub counted_ranged : (imports funcs : ℕ) → AreRanged imports funcs body → AreRanged imports funcs (counted_code test (body ++ ends) ++ behind)
  counted_ranged imports funcs h =
      let more = λ (code : List Instr) (r : AreRanged 0 0 code). ranged_in 0 imports 0 funcs (omega arith) (omega arith) code r in
      let turn : List Instr = turn_code test (body ++ ends) in
      ranged_append imports funcs (counted_code test (body ++ ends)) behind
      (ranged_block imports funcs Empty (I.Loop Empty turn ∷ []) (ranged_loop imports funcs Empty turn
      (ranged_append imports funcs test (I.BrIf 1 ∷ ((body ++ ends) ++ I.Br 0 ∷ [])) (more test tested)
      (ranged_append imports funcs (I.BrIf 1 ∷ []) ((body ++ ends) ++ I.Br 0 ∷ []) (more (I.BrIf 1 ∷ []) (leave_ranged 1))
      (ranged_append imports funcs (body ++ ends) (I.Br 0 ∷ []) (ranged_append imports funcs body ends h (more ends ended)) (more (I.Br 0 ∷ []) (branch_ranged 0)))))))
      (more behind after)
