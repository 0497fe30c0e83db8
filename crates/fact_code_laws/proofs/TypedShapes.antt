-- The shapes of code are typed where their parts are.
use Rattle.std.proofs.Common.{◌≡◌, ℕ, zero, suc, ◌%◌, ◌^◌, ◌≤◌, Bool, true, false, ◌&&◌, List, [], ◌∷◌, ◌++◌, Option, Some, None, refl, ap, ◌∙◌, arith, append_assoc, length, reverse, slice_get}
use Rattle.std.specs.Prelude.{nat_eq, is_some, option_and_then}
use Rattle.std.specs.List.{list_all, AllByRecursion}
use Rattle.fact_wasm.specs.declared.types.ValType.{ValType}
use Rattle.fact_wasm.specs.declared.types.ValType.TheVariants.{I32, I64}
use Rattle.fact_wasm.specs.declared.types.FuncType.{FuncType}
use Rattle.fact_wasm.specs.declared.instr.BlockType.TheVariants.{Empty}
use Rattle.fact_wasm.specs.declared.instr.Instr.{Instr}
use Rattle.fact_wasm.specs.declared.instr.Instr.TheVariants as I
use Rattle.fact_wasm.specs.declared.instr.Instr.TheOpen as o
use Rattle.fact_wasm.specs.declared.module.WasmFunc.{WasmFunc}
use Rattle.fact_wasm.specs.declared.module.WasmModule.{WasmModule}
use Rattle.fact_types.specs.declared.outside.CoreDef.{CoreDef}
use Rattle.fact_types.specs.declared.outside.Trap.{Trap}
use Rattle.fact_types.specs.declared.import.Import.TheVariants as import
use Rattle.fact_actions.specs.Running.{ImportPlaces}
use Rattle.fact_code_laws.specs.Code.{trap_code, guard_code, arms, cases_code, turn_code, counted_code, barrier_code, length_code}
use Rattle.fact_code_laws.specs.Knows.{KnowsFunction, KnowsMemory}
use Rattle.fact_machine.specs.Machine.{page_bytes}
use Rattle.fact_machine.specs.Typing.{Typing, typing, Operands, Known, Open, only_if, pop_all, jump, is_empty, ends, is_target, is_catch, Context, declares_numbers, code_typing, local_types, function_context, is_typed_body, is_typed_function}
use Rattle.fact_code_laws.specs.Typed.{OperandsBehind, OnStack, Never, operands_behind, context, IsTyped}
use Rattle.fact_code_laws.proofs.TypingLaws.{typed_then, Takes, by_row, typed_next, typed_one}
use Rattle.fact_machine.proofs.TypingRows.{typing_is, row_of, popped, sequence_is}
use Rattle.fact_code_laws.proofs.Scaled.{typed_scaled}
use Rattle.fact_code_laws.proofs.TypedRows.{takes_plain, takes_br, takes_br_if, takes_import, takes_unreachable, takes_memory_size}
use Rattle.fact_machine.specs.Exits.{nest}
use Rattle.fact_machine.proofs.TypingRows.{typing_is, row_of, popped}
use Rattle.fact_machine.proofs.Tests.{get_append, both}

-- code that branches to no label around it is typed with any
pub typed_anywhere : {M : WasmModule} {locals : List ValType} {code : List Instr} {ins : List ValType} {outs : OperandsBehind} (labels : List (List ValType)) → IsTyped M locals [] code ins outs → IsTyped M locals labels code ins outs
typed_anywhere labels x = record { by = λ outer below. x.by (labels ++ outer) below }

-- ---- blocks

-- nothing is left at the end, or it is not reached
abbrev pub IsClosed : OperandsBehind → Type 0
IsClosed (OnStack []) = Unit {0}
IsClosed (OnStack (t ∷ ts)) = ⊥
IsClosed Never = Unit {0}

closes : (outs : OperandsBehind) → IsClosed outs → ends [] (Some (operands_behind outs [])) ≡ true
closes (OnStack []) h = refl
closes (OnStack (t ∷ ts)) h = absurd h
closes Never h = refl

body_ends : {M : WasmModule} {locals : List ValType} {labels : List (List ValType)} {body : List Instr} {outs : OperandsBehind} → IsClosed outs → IsTyped M locals ([] ∷ labels) body [] outs
    → (outer : List (List ValType)) → ends [] (code_typing (context M locals ([] ∷ (labels ++ outer))) body (Known [])) ≡ true
body_ends {outs = outs} h x outer = ap (ends []) (x.by outer []) ∙ closes outs h

catches_nothing : (G : Context) → slice_get G.labels 0 ≡ Some [] → list_all (is_catch G) (0 ∷ []) ≡ true
catches_nothing G h = both (ap (λ o. elim o as (λ (o : Option (List ValType)). Bool) [ None ↦ false | Some ts ↦ nat_eq (length ts) 0 ]) h) refl

module _ {M : WasmModule} {locals : List ValType} {labels : List (List ValType)} {ins : List ValType} {body : List Instr} {outs : OperandsBehind} where
  pub takes_block : IsClosed outs → IsTyped M locals ([] ∷ labels) body [] outs → Takes M locals labels (I.Block Empty body) ins (OnStack ins)
  takes_block h x = by_row (o.Block Empty body) (I.outs-Block Empty body) (λ outer below. ap (λ b. only_if b (Some (Known (ins ++ below)))) (body_ends h x outer))

  pub takes_loop : IsClosed outs → IsTyped M locals ([] ∷ labels) body [] outs → Takes M locals labels (I.Loop Empty body) ins (OnStack ins)
  takes_loop h x = by_row (o.Loop Empty body) (I.outs-Loop Empty body) (λ outer below. ap (λ b. only_if b (Some (Known (ins ++ below)))) (body_ends h x outer))

  -- a handler whose label takes nothing
  pub takes_try : slice_get labels 0 ≡ Some [] → IsClosed outs → IsTyped M locals ([] ∷ labels) body [] outs → Takes M locals labels (I.TryTable Empty (0 ∷ []) body) ins (OnStack ins)
  takes_try l h x =
      by_row (o.TryTable Empty (0 ∷ []) body) (I.outs-TryTable Empty (0 ∷ []) body) (λ outer below.
      ap (λ b. only_if b (Some (Known (ins ++ below)))) (both (catches_nothing (context M locals (labels ++ outer)) (get_append labels outer 0 [] l)) (body_ends h x outer)))

-- ---- traps and checks

module _ {M : WasmModule} {locals : List ValType} {labels : List (List ValType)} {p : ImportPlaces} {t : Trap} {place : ℕ} where
  pub typed_trap : KnowsFunction M p (import.Trap t) place [] [] → {ins : List ValType} → IsTyped M locals labels (trap_code place) ins Never
  typed_trap h {ins} = typed_next (takes_import ins h) (typed_one takes_unreachable)

  pub takes_guard : {condition : List Instr} {ins : List ValType} {c : List Instr} {outs : OperandsBehind} → KnowsFunction M p (import.Trap t) place [] [] → IsTyped M locals [] condition [] (OnStack (I32 ∷ [])) → IsTyped M locals labels c ins outs
      → IsTyped M locals labels (guard_code condition place ++ c) ins outs
  takes_guard {condition} h x y =
      let trapped : IsTyped M locals ([] ∷ labels) (trap_code place) [] Never = typed_next (takes_import [] h) (typed_one takes_unreachable) in
      typed_next (takes_block tt (typed_then (typed_anywhere ([] ∷ labels) x) (typed_next (takes_br_if refl) trapped))) y

-- ---- cases

abbrev nils : ℕ → List (List ValType)
nils zero = []
nils (suc n) = [] ∷ nils n

nil_at : (n l : ℕ) (more : List (List ValType)) → l ≤ n → slice_get (nils n ++ [] ∷ more) l ≡ Some []
nil_at zero zero more h = refl
nil_at zero (suc l) more h = absurd (omega arith)
nil_at (suc n) zero more h = refl
nil_at (suc n) (suc l) more h = nil_at n l more (omega arith)

targets : (G : Context) (n : ℕ) (more : List (List ValType)) (ls : List ℕ) (s : Operands) → G.labels ≡ nils n ++ [] ∷ more → AllByRecursion (λ l. l ≤ n) ls → list_all (is_target G 0 s) ls ≡ true
targets G n more [] s e h = refl
targets G n more (l ∷ ls) s e h =
    both (ap (λ o. elim o as (λ (o : Option (List ValType)). Bool) [ None ↦ false | Some ts ↦ nat_eq (length ts) 0 && is_some (pop_all (reverse ts) s) ]) (ap (λ k. slice_get k l) e ∙ nil_at n l more h.0))
    (targets G n more ls s e h.1)

takes_table : {M : WasmModule} {locals : List ValType} (labels : List (List ValType)) (n last : ℕ) (ls : List ℕ) → last ≤ n → AllByRecursion (λ l. l ≤ n) ls → Takes M locals (nils n ++ [] ∷ labels) (I.BrTable ls last) (I32 ∷ []) Never
takes_table {M} {locals} labels n last ls h hs = by_row (o.BrTable ls last) (I.outs-BrTable ls last) (λ outer below.
    let all : (nils n ++ [] ∷ labels) ++ outer ≡ nils n ++ [] ∷ (labels ++ outer) = append_assoc (nils n) ([] ∷ labels) outer in
    let one : slice_get ((nils n ++ [] ∷ labels) ++ outer) last ≡ Some [] = ap (λ k. slice_get k last) all ∙ nil_at n last (labels ++ outer) h in
    ap (λ x. option_and_then (λ ts. only_if (list_all (is_target (context M locals ((nils n ++ [] ∷ labels) ++ outer)) (length ts) (Known below)) ls) (jump (reverse ts) (Known below))) x) one
    ∙ ap (λ b. only_if b (Some (Open []))) (targets (context M locals ((nils n ++ [] ∷ labels) ++ outer)) n (labels ++ outer) ls (Known below) all hs))

-- code that ends with nothing, or never
pub record IsClosedCode (M : WasmModule) (locals : List ValType) (code : List Instr) : Type 0 where
  pub ends : OperandsBehind
  pub closed : IsClosed ends
  pub typed : IsTyped M locals [] code [] ends

-- with a branch behind it, to a label that takes nothing
arm_typed : {M : WasmModule} {locals : List ValType} {labels : List (List ValType)} {c : List Instr} (l : ℕ) (outs : OperandsBehind) → slice_get labels l ≡ Some [] → IsClosed outs → IsTyped M locals labels c [] outs → IsTyped M locals labels (c ++ I.Br l ∷ []) [] Never
arm_typed l (OnStack []) h closed x = typed_then x (typed_one (takes_br h))
arm_typed l (OnStack (t ∷ ts)) h closed x = absurd closed
arm_typed {M} {locals} {labels} {c} l Never h closed x = record {
  by = λ outer below.
      sequence_is (context M locals (labels ++ outer)) c (I.Br l ∷ []) (Known below)
      ∙ ap (λ s. option_and_then (λ s'. code_typing (context M locals (labels ++ outer)) (I.Br l ∷ []) s') s) (x.by outer below)
      ∙ ap (λ y. option_and_then (λ s'. Some s') y) (br_dead l (labels ++ outer) (get_append labels outer l [] h));
}
  where
    br_dead : (l : ℕ) (all : List (List ValType)) → slice_get all l ≡ Some [] → typing (I.Br l) (context M locals all) (Open []) ≡ Some (Open [])
    br_dead l all h =
        ap (λ (x : Typing). x (context M locals all) (Open [])) (typing_is (I.Br l))
        ∙ ap (λ g. row_of g (context M locals all) (Open [])) (I.outs-Br l)
        ∙ ap (λ x. option_and_then (λ ts. jump (reverse ts) (Open [])) x) h

module _ {M : WasmModule} {locals : List ValType} {labels : List (List ValType)} where
  nested : (cs : List (List Instr)) (inner : List Instr) (outs : OperandsBehind) → IsClosed outs → AllByRecursion (IsClosedCode M locals) cs → IsTyped M locals (nils (length cs) ++ [] ∷ labels) inner [] outs
      → (last : OperandsBehind) × IsClosed last × IsTyped M locals ([] ∷ labels) (nest (arms cs) inner) [] last
  nested [] inner outs h cases x = (outs, h, x)
  nested (c ∷ cs) inner outs h cases x =
      let arm = arm_typed (length cs) cases.0.ends (nil_at (length cs) (length cs) labels (omega arith)) cases.0.closed (typed_anywhere (nils (length cs) ++ [] ∷ labels) cases.0.typed) in
      nested cs (I.Block Empty inner ∷ (c ++ I.Br (length cs) ∷ [])) Never tt cases.1 (typed_next (takes_block h x) arm)

  -- the code of cases is typed where that of each case is
  pub typed_cases : {number : List Instr} {ins : List ValType} (ls : List ℕ) (last : ℕ) (cs : List (List Instr)) → last ≤ length cs → AllByRecursion (λ l. l ≤ length cs) ls → IsTyped M locals [] number [] (OnStack (I32 ∷ []))
      → AllByRecursion (IsClosedCode M locals) cs → IsTyped M locals labels (cases_code number ls last cs) ins (OnStack ins)
  typed_cases {number} ls last cs h hs x cases =
      let n = nested cs (number ++ I.BrTable ls last ∷ []) Never tt cases (typed_then (typed_anywhere (nils (length cs) ++ [] ∷ labels) x) (typed_one (takes_table labels (length cs) last ls h hs))) in
      typed_one (takes_block n.1 n.2)

-- ---- loops, barriers, lengths

module _ {M : WasmModule} {locals : List ValType} {labels : List (List ValType)} {ins : List ValType} where
  pub typed_counted : {test body : List Instr} → IsTyped M locals [] test [] (OnStack (I32 ∷ [])) → IsTyped M locals [] body [] (OnStack []) → IsTyped M locals labels (counted_code test body) ins (OnStack ins)
  typed_counted {test} {body} x y =
      let around : List (List ValType) = [] ∷ [] ∷ labels in
      let turn : IsTyped M locals ([] ∷ [] ∷ labels) (turn_code test body) [] Never =
      typed_then (typed_anywhere ([] ∷ [] ∷ labels) x) (typed_next (takes_br_if refl) (typed_then (typed_anywhere ([] ∷ [] ∷ labels) y) (typed_one (takes_br refl)))) in
      let loop : IsTyped M locals ([] ∷ labels) (I.Loop Empty (turn_code test body) ∷ []) [] (OnStack []) = typed_one (takes_loop tt turn) in
      typed_one (takes_block tt loop)

  pub typed_barrier : {p : ImportPlaces} {t : Trap} {place : ℕ} {body : List Instr} → KnowsFunction M p (import.Trap t) place [] [] → IsTyped M locals [] body [] (OnStack []) → IsTyped M locals labels (barrier_code body place) ins (OnStack ins)
  typed_barrier {place = place} {body} h x =
      let tried : IsTyped M locals ([] ∷ [] ∷ labels) (I.TryTable Empty (0 ∷ []) body ∷ I.Br 1 ∷ []) [] Never = typed_next (takes_try refl tt (typed_anywhere ([] ∷ [] ∷ [] ∷ labels) x)) (typed_one (takes_br refl)) in
      let all : IsTyped M locals ([] ∷ labels) (I.Block Empty (I.TryTable Empty (0 ∷ []) body ∷ I.Br 1 ∷ []) ∷ trap_code place) [] Never = typed_next (takes_block tt tried) (typed_trap h) in
      typed_one (takes_block tt all)

  pub typed_length : {p : ImportPlaces} {d : CoreDef} {log2 : Option ℕ} {place : ℕ} (memory64 : Bool) → KnowsMemory M p d place memory64 log2 → IsTyped M locals labels (length_code place memory64 log2) ins (OnStack (I64 ∷ ins))
  typed_length {log2 = log2} true h = typed_next (takes_memory_size h) (typed_scaled (page_bytes log2 % 2 ^ 64))
  typed_length {log2 = log2} false h = typed_next (takes_memory_size h) (typed_next (takes_plain o.I64ExtendI32U I.outs-I64ExtendI32U refl) (typed_scaled (page_bytes log2 % 2 ^ 64)))

-- ---- functions

-- a function whose code is typed is a typed function
pub typed_body : {M : WasmModule} (f : WasmFunc) (t : FuncType) → slice_get M.types f.ty ≡ Some t → list_all declares_numbers f.locals ≡ true
    → IsTyped M (t.params ++ local_types f.locals) (t.results ∷ []) f.body [] (OnStack (reverse t.results)) → is_typed_function M f ≡ true
typed_body {M} f t h n x =
    let code : ends t.results (code_typing (function_context M t f) f.body (Known [])) ≡ true =
    ap (ends t.results) (x.by [] [])
    ∙ ap (λ o. elim o as (λ (o : Option Operands). Bool) [ None ↦ false | Some s ↦ is_empty s ]) (popped (reverse t.results) []) in
    both n (ap (λ o. elim o as (λ (o : Option FuncType). Bool) [ None ↦ false | Some t ↦ is_typed_body M f t ]) h ∙ code)
