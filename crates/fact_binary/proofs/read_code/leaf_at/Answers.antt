use Rattle.std.proofs.Common.{ℕ, ◌++◌, [], ◌∷◌, List, refl, sym, ap, ◌∙◌}
use Rattle.std.proofs.lemmas.Result.{err_from_is_err_and}
use Rattle.fact_binary.specs.declared.forms.LeafRow.TheVariants as leaf
use Rattle.fact_wasm.specs.declared.instr.Instr.TheVariants.{I32Const, I64Const, F32Const, F64Const}
use Rattle.fact_binary.specs.Grammar.{Index, Int32, Int64, Float32, Float64, Memory, Leaf}
use Rattle.fact_binary.specs.Forms.{leaf_op, leaf_kinds}
use Rattle.fact_binary.proofs.Written.{args-one}
use Rattle.fact_binary.proofs.Items.{passes}
use Rattle.fact_binary.proofs.Leaves.{an_index, a_memory, an_int32, an_int64, a_float32, a_float64, leaf_found, leaf_only, node-I32Const, node-I64Const, node-F32Const, node-F64Const, own-I32Const, own-I64Const, own-F32Const, own-F64Const}
use Rattle.fact_binary.proofs.read_code.leaf_at.Goals as goal

pub returns-in_err-n-in-Index-clause-only : goal.returns-in_err-n-in-Index-clause-only
returns-in_err-n-in-Index-clause-only c xs rest k h e =
    let q = err_from_is_err_and c.from_residual.result c.from_residual.ensures.1 in
    let a = an_index c.args.bytes.now rest xs (k ∙ ap leaf_kinds c.in-Index.is) h e in
    rw (q.1, q.2) (passes c.in_err-n-in-Index.field-0.0 _ _ (c.in_err-n-in-Index.ensures.only a.0 rest a.1 a.2))

pub returns-in_err-index-in-Func-clause-only : goal.returns-in_err-index-in-Func-clause-only
returns-in_err-index-in-Func-clause-only c xs rest k h e =
    let q = err_from_is_err_and c.from_residual-in_err-index-in-Func.result c.from_residual-in_err-index-in-Func.ensures.1 in
    let a = an_index c.args.bytes.now rest xs (k ∙ ap leaf_kinds c.in-Func.is) h e in
    rw (q.1, q.2) (passes c.in_err-index-in-Func.field-0.0 _ _ (c.in_err-index-in-Func.ensures.only a.0 rest a.1 a.2))

pub returns-in_err-place-in-Memory-clause-only : goal.returns-in_err-place-in-Memory-clause-only
returns-in_err-place-in-Memory-clause-only c xs rest k h e =
    let q = err_from_is_err_and c.from_residual-in_err-place-in-Memory.result c.from_residual-in_err-place-in-Memory.ensures.1 in
    let a = a_memory c.args.bytes.now rest xs (k ∙ ap leaf_kinds c.in-Memory.is) h e in
    rw (q.1, q.2) (passes c.in_err-place-in-Memory.field-0.0 _ _ (c.in_err-place-in-Memory.ensures.only a.0 rest a.1 a.2))

pub returns-in_err-x-in-Int32-clause-only : goal.returns-in_err-x-in-Int32-clause-only
returns-in_err-x-in-Int32-clause-only c xs rest k h e =
    let q = err_from_is_err_and c.from_residual-in_err-x-in-Int32.result c.from_residual-in_err-x-in-Int32.ensures.1 in
    let a = an_int32 c.args.bytes.now rest xs (k ∙ ap leaf_kinds c.in-Int32.is) h e in
    rw (q.1, q.2) (passes c.in_err-x-in-Int32.field-0.0 _ _ (c.in_err-x-in-Int32.ensures.only a.0 rest a.1 a.2))

pub returns-in_err-x-in-Int64-clause-only : goal.returns-in_err-x-in-Int64-clause-only
returns-in_err-x-in-Int64-clause-only c xs rest k h e =
    let q = err_from_is_err_and c.from_residual-in_err-x-in-Int64.result c.from_residual-in_err-x-in-Int64.ensures.1 in
    let a = an_int64 c.args.bytes.now rest xs (k ∙ ap leaf_kinds c.in-Int64.is) h e in
    rw (q.1, q.2) (passes c.in_err-x-in-Int64.field-0.0 _ _ (c.in_err-x-in-Int64.ensures.only a.0 rest a.1 a.2))

pub returns-in_err-x-in-Float32-clause-only : goal.returns-in_err-x-in-Float32-clause-only
returns-in_err-x-in-Float32-clause-only c xs rest k h e =
    let q = err_from_is_err_and c.from_residual-in_err-x-in-Float32.result c.from_residual-in_err-x-in-Float32.ensures.1 in
    let a = a_float32 c.args.bytes.now rest xs (k ∙ ap leaf_kinds c.in-Float32.is) h e in
    rw (q.1, q.2) (passes c.in_err-x-in-Float32.field-0.0 _ _ (c.in_err-x-in-Float32.ensures.only a.0 rest a.1 a.2))

pub returns-in_err-x-in-Float64-clause-only : goal.returns-in_err-x-in-Float64-clause-only
returns-in_err-x-in-Float64-clause-only c xs rest k h e =
    let q = err_from_is_err_and c.from_residual-in_err-x-in-Float64.result c.from_residual-in_err-x-in-Float64.ensures.1 in
    let a = a_float64 c.args.bytes.now rest xs (k ∙ ap leaf_kinds c.in-Float64.is) h e in
    rw (q.1, q.2) (passes c.in_err-x-in-Float64.field-0.0 _ _ (c.in_err-x-in-Float64.ensures.only a.0 rest a.1 a.2))

pub returns-in_ok-n-in-Index-clause-found : goal.returns-in_ok-n-in-Index-clause-found
returns-in_ok-n-in-Index-clause-found c =
    let f = c.in_ok-n-in-Index.ensures.found in
    rw c.in-Index.is (leaf_found c.args.imports (leaf.Index c.in-Index.row) c.args.bytes.now c.in_ok-n-in-Index.rest.now c.index_instr.result (Index c.in_ok-n-in-Index.n ∷ []) (c.index_instr.ensures.node c.args.imports) (c.index_instr.ensures.own c.args.imports) refl (f.0, tt) (rw args-one f.1))

pub returns-in_ok-n-in-Index-clause-only : goal.returns-in_ok-n-in-Index-clause-only
returns-in_ok-n-in-Index-clause-only c = leaf_only c.args.imports c.args.row c.args.bytes.now c.in_ok-n-in-Index.rest.now c.index_instr.result (returns-in_ok-n-in-Index-clause-found c)

pub returns-in_ok-index-in-Func-clause-found : goal.returns-in_ok-index-in-Func-clause-found
returns-in_ok-index-in-Func-clause-found c =
    let f = c.in_ok-index-in-Func.ensures.found in
    rw c.in-Func.is (leaf_found c.args.imports (leaf.Func c.in-Func.row) c.args.bytes.now c.in_ok-index-in-Func.rest.now c.func_instr.result (Index c.in_ok-index-in-Func.index ∷ []) (c.func_instr.ensures.node c.args.imports ∙ ap (λ (k : ℕ). Leaf (leaf_op (leaf.Func c.in-Func.row)) (Index k ∷ [])) c.function_of.ensures.index) (c.func_instr.ensures.own c.args.imports c.in_ok-index-in-Func.index (sym c.function_of.ensures.name)) refl (f.0, tt) (rw args-one f.1))

pub returns-in_ok-index-in-Func-clause-only : goal.returns-in_ok-index-in-Func-clause-only
returns-in_ok-index-in-Func-clause-only c = leaf_only c.args.imports c.args.row c.args.bytes.now c.in_ok-index-in-Func.rest.now c.func_instr.result (returns-in_ok-index-in-Func-clause-found c)

pub returns-in_ok-place-in-Memory-clause-found : goal.returns-in_ok-place-in-Memory-clause-found
returns-in_ok-place-in-Memory-clause-found c =
    let f = c.in_ok-place-in-Memory.ensures.found in
    rw c.in-Memory.is (leaf_found c.args.imports (leaf.Memory c.in-Memory.row) c.args.bytes.now c.in_ok-place-in-Memory.rest.now c.memory_instr.result (Memory c.in_ok-place-in-Memory.place ∷ []) (c.memory_instr.ensures.node c.args.imports) (c.memory_instr.ensures.own c.args.imports) refl (f.0, tt) (rw args-one f.1))

pub returns-in_ok-place-in-Memory-clause-only : goal.returns-in_ok-place-in-Memory-clause-only
returns-in_ok-place-in-Memory-clause-only c = leaf_only c.args.imports c.args.row c.args.bytes.now c.in_ok-place-in-Memory.rest.now c.memory_instr.result (returns-in_ok-place-in-Memory-clause-found c)

pub returns-in_ok-x-in-Int32-clause-found : goal.returns-in_ok-x-in-Int32-clause-found
returns-in_ok-x-in-Int32-clause-found c =
    let f = c.in_ok-x-in-Int32.ensures.found in
    rw c.in-Int32.is (leaf_found c.args.imports leaf.Int32 c.args.bytes.now c.in_ok-x-in-Int32.rest.now (I32Const c.in_ok-x-in-Int32.x) (Int32 c.in_ok-x-in-Int32.x ∷ []) (node-I32Const c.args.imports c.in_ok-x-in-Int32.x) (own-I32Const c.args.imports c.in_ok-x-in-Int32.x) refl (f.0, tt) (rw args-one f.1))

pub returns-in_ok-x-in-Int32-clause-only : goal.returns-in_ok-x-in-Int32-clause-only
returns-in_ok-x-in-Int32-clause-only c = leaf_only c.args.imports c.args.row c.args.bytes.now c.in_ok-x-in-Int32.rest.now (I32Const c.in_ok-x-in-Int32.x) (returns-in_ok-x-in-Int32-clause-found c)

pub returns-in_ok-x-in-Int64-clause-found : goal.returns-in_ok-x-in-Int64-clause-found
returns-in_ok-x-in-Int64-clause-found c =
    let f = c.in_ok-x-in-Int64.ensures.found in
    rw c.in-Int64.is (leaf_found c.args.imports leaf.Int64 c.args.bytes.now c.in_ok-x-in-Int64.rest.now (I64Const c.in_ok-x-in-Int64.x) (Int64 c.in_ok-x-in-Int64.x ∷ []) (node-I64Const c.args.imports c.in_ok-x-in-Int64.x) (own-I64Const c.args.imports c.in_ok-x-in-Int64.x) refl (f.0, tt) (rw args-one f.1))

pub returns-in_ok-x-in-Int64-clause-only : goal.returns-in_ok-x-in-Int64-clause-only
returns-in_ok-x-in-Int64-clause-only c = leaf_only c.args.imports c.args.row c.args.bytes.now c.in_ok-x-in-Int64.rest.now (I64Const c.in_ok-x-in-Int64.x) (returns-in_ok-x-in-Int64-clause-found c)

pub returns-in_ok-x-in-Float32-clause-found : goal.returns-in_ok-x-in-Float32-clause-found
returns-in_ok-x-in-Float32-clause-found c =
    let f = c.in_ok-x-in-Float32.ensures.found in
    rw c.in-Float32.is (leaf_found c.args.imports leaf.Float32 c.args.bytes.now c.in_ok-x-in-Float32.rest.now (F32Const c.in_ok-x-in-Float32.x) (Float32 c.in_ok-x-in-Float32.x ∷ []) (node-F32Const c.args.imports c.in_ok-x-in-Float32.x) (own-F32Const c.args.imports c.in_ok-x-in-Float32.x) refl (f.0, tt) (f.1 ∙ ap (λ (t : List ℕ). t ++ c.in_ok-x-in-Float32.rest.now) (sym (args-one (Float32 c.in_ok-x-in-Float32.x)))))

pub returns-in_ok-x-in-Float32-clause-only : goal.returns-in_ok-x-in-Float32-clause-only
returns-in_ok-x-in-Float32-clause-only c = leaf_only c.args.imports c.args.row c.args.bytes.now c.in_ok-x-in-Float32.rest.now (F32Const c.in_ok-x-in-Float32.x) (returns-in_ok-x-in-Float32-clause-found c)

pub returns-in_ok-x-in-Float64-clause-found : goal.returns-in_ok-x-in-Float64-clause-found
returns-in_ok-x-in-Float64-clause-found c =
    let f = c.in_ok-x-in-Float64.ensures.found in
    rw c.in-Float64.is (leaf_found c.args.imports leaf.Float64 c.args.bytes.now c.in_ok-x-in-Float64.rest.now (F64Const c.in_ok-x-in-Float64.x) (Float64 c.in_ok-x-in-Float64.x ∷ []) (node-F64Const c.args.imports c.in_ok-x-in-Float64.x) (own-F64Const c.args.imports c.in_ok-x-in-Float64.x) refl (f.0, tt) (f.1 ∙ ap (λ (t : List ℕ). t ++ c.in_ok-x-in-Float64.rest.now) (sym (args-one (Float64 c.in_ok-x-in-Float64.x)))))

pub returns-in_ok-x-in-Float64-clause-only : goal.returns-in_ok-x-in-Float64-clause-only
returns-in_ok-x-in-Float64-clause-only c = leaf_only c.args.imports c.args.row c.args.bytes.now c.in_ok-x-in-Float64.rest.now (F64Const c.in_ok-x-in-Float64.x) (returns-in_ok-x-in-Float64-clause-found c)

pub returns-in-Labels-clause-found : goal.returns-in-Labels-clause-found
returns-in-Labels-clause-found c = rw c.in-Labels.is c.labels_at.ensures.found

pub returns-in-Labels-clause-only : goal.returns-in-Labels-clause-only
returns-in-Labels-clause-only c = rw c.in-Labels.is c.labels_at.ensures.only
